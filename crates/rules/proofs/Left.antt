-- What is left behind a reader is the text from a place on, and a reader takes a byte at least, or as many as it says: for code that counts.
-- Assumes nothing.
use mathlib.Core.Path.{◌≡◌, refl, ap, ◌∙◌}
use Prim.Native.Nat.{ℕ, zero, suc, ◌+◌, ◌-◌, ◌≤◌, ◌<◌}
use native.Mathlib.Omega.{arith}
use mathlib.Core.Bool.{Bool, true, false}
use mathlib.Core.Option.{Option}
use mathlib.Core.List.{List, [], ◌∷◌}
use lib.Dec.{eqb}
use lib.ListN.{length, take, drop, length-drop}
use lib.Seq.{drop-drop, take_all}
use Rattle.rules.specs.Bytes.{bytes, pick, is_digit, is_nonzero, is_letter, is_word, is_wild, is_sign}
use Rattle.rules.specs.Syntax.{Prefix}
use Rattle.rules.specs.Parse.{Result, fail, ok, many, one_of, count, run, literal, left_of, read_number, read_component, read_identifier, read_dot_identifier, read_identifiers, read_qualifier, read_dot, after_three, after_two, after_one, read_partial, spelled, read_prefix}
use Rattle.rules.proofs.Results.{Gives, nothing, gives, gives-map, gives_then, gives-choose}

-- ---- the text from a place on

-- r is what is left of s behind m bytes or more
pub record Behind (m : ℕ) (s r : List ℕ) : Type 0 where
  pub by : ℕ
  pub left : r ≡ drop by s
  pub within : by ≤ length s
  pub least : m ≤ by

pub behind-none : {s : List ℕ} → Behind 0 s s
behind-none = record { by = 0; left = refl; within = omega arith; least = omega arith }

pub behind-both : {l m n : ℕ} {s t r : List ℕ} → Behind m s t → Behind n t r → l ≤ m + n → Behind l s r
behind-both {s} h k e =
    let hl = h.least in let kl = k.least in let hw = h.within in let kw = k.within in
    record {
      by = h.by + k.by;
      left = k.left ∙ rw h.left (drop-drop k.by h.by s);
      within = omega (arith, ap length h.left, length-drop h.by s);
      least = omega arith;
    }

module _ {m : ℕ} {s r : List ℕ} (h : Behind m s r) where
  pub behind-length : length r ≡ length s - h.by
  behind-length = ap length h.left ∙ length-drop h.by s

  pub behind-left : m + length r ≤ length s
  behind-left = let w = h.within in let l = h.least in omega (arith, behind-length)

  pub behind-drop : r ≡ drop (length s - length r) s
  behind-drop = let w = h.within in let e : length s - length r ≡ h.by = omega (arith, behind-length) in rw e h.left

-- the part of s from n to its end, as a slice's rule states it
pub rest_in : (s : List ℕ) (n : ℕ) → take (length s - n) (drop n s) ≡ drop n s
rest_in s n = take_all (length s - n) (drop n s) (rw length-drop (omega arith))

-- ---- each reader

pub one-behind : (p : ℕ → Bool) (s : List ℕ) → Gives (λ c. Behind 1 s) (one_of p s)
unfolding one_of
one-behind p [] = nothing
one-behind p (c ∷ s) = go (p c)
  where
    go : (b : Bool) → Gives (λ x. Behind 1 (c ∷ s)) (pick b (ok c s) fail)
    go true = gives (record { by = 1; left = refl; within = omega arith; least = omega arith })
    go false = nothing

pub literal-behind : (w s : List ℕ) → Gives (λ u. Behind (length w) s) (literal w s)
unfolding literal
literal-behind [] s = gives behind-none
literal-behind (b ∷ w) [] = nothing
literal-behind (b ∷ w) (c ∷ s) = go (eqb c b) (literal-behind w s)
  where
    go : (t : Bool) → Gives (λ u. Behind (length w) s) (literal w s) → Gives (λ u. Behind (suc (length w)) (c ∷ s)) (pick t (literal w s) fail)
    go true h =
        gives-map h λ u r k.
        let l = k.least in let w = k.within in
        record { by = suc k.by; left = k.left; within = omega arith; least = omega arith }
    go false h = nothing

pub count-within : (p : ℕ → Bool) (s : List ℕ) → count p s ≤ length s
unfolding count
count-within p [] = omega arith
count-within p (c ∷ s) = go (p c) (count-within p s)
  where
    go : (b : Bool) → count p s ≤ length s → pick b (suc (count p s)) 0 ≤ suc (length s)
    go true h = omega arith
    go false h = omega arith

-- bytes of a class
pub count-behind : (p : ℕ → Bool) (s : List ℕ) → Behind 0 s (drop (count p s) s)
count-behind p s = record { by = count p s; left = refl; within = count-within p s; least = omega arith }

run-behind : (p : ℕ → Bool) (s : List ℕ) → Gives (λ w. Behind 0 s) (run p s)
unfolding run
run-behind p s = gives (count-behind p s)

pub many-behind : {A : Type 0} (f : List ℕ → Result A) → ((s : List ℕ) → Gives (λ a. Behind 1 s) (f s)) → (k : ℕ) (s : List ℕ)
    → Gives (λ l. Behind (length l) s) (many f k s)
unfolding many
many-behind f h zero s = gives behind-none
many-behind f h (suc k) s =
    gives-choose (h s) (λ a t u. gives_then (many-behind f h k t) λ l r v. gives (behind-both u v (omega arith))) (gives behind-none)

pub number_behind : (s : List ℕ) → Gives (λ w. Behind 1 s) (read_number s)
unfolding read_number
number_behind s =
    gives-choose (literal-behind (bytes "0") s) (λ u r h. gives h)
    (gives_then (one-behind is_nonzero s) λ c t h. gives_then (run-behind is_digit t) λ w r k. gives (behind-both h k (omega arith)))

pub component-behind : (s : List ℕ) → Gives (λ c. Behind 1 s) (read_component s)
unfolding read_component
component-behind s = gives-choose (one-behind is_wild s) (λ c r h. gives h) (gives_then (number_behind s) λ w r h. gives h)

pub identifier-behind : (s : List ℕ) → Gives (λ i. Behind 1 s) (read_identifier s)
unfolding read_identifier
identifier-behind s =
    gives-choose (number_behind s) (λ w r h. gives h)
    (gives_then (one-behind is_letter s) λ c t h. gives_then (run-behind is_word t) λ w r k. gives (behind-both h k (omega arith)))

pub dot_identifier-behind : (s : List ℕ) → Gives (λ i. Behind 1 s) (read_dot_identifier s)
unfolding read_dot_identifier
dot_identifier-behind s = gives_then (literal-behind (bytes ".") s) λ u t h. gives-map (identifier-behind t) λ i r k. behind-both h k (omega arith)

-- as many bytes as there are identifiers, at least
pub identifiers-behind : (s : List ℕ) → Gives (λ is r. Behind 1 s r × Behind (length is) s r) (read_identifiers s)
unfolding read_identifiers
identifiers-behind s =
    gives_then (identifier-behind s) λ i t h. gives_then (many-behind read_dot_identifier dot_identifier-behind (length t) t) λ is r k.
    gives (behind-both h k (omega arith), behind-both h k (omega arith))

pub qualifier-behind : (s : List ℕ) → Gives (λ is. Behind (length is) s) (read_qualifier s)
unfolding read_qualifier
qualifier-behind s =
    gives-choose (gives_then {Q = λ is. Behind (length is) s} (one-behind is_sign s) λ c t h. gives-map (identifiers-behind t) λ is r k. behind-both h k.1 (omega arith))
    (λ is r h. gives h) (gives behind-none)

pub dot-behind : (s : List ℕ) → Gives (λ c. Behind 1 s) (read_dot s)
unfolding read_dot
dot-behind s = gives_then (literal-behind (bytes ".") s) λ u t h. gives-map (component-behind t) λ c r k. behind-both h k (omega arith)

pub after_three-behind : (c d e : Option ℕ) (s : List ℕ) → Gives (λ p. Behind 0 s) (after_three c d e s)
unfolding after_three
after_three-behind c d e s = gives_then (qualifier-behind s) λ is r h. gives (behind-both h behind-none (omega arith))

pub after_two-behind : (c d : Option ℕ) (s : List ℕ) → Gives (λ p. Behind 0 s) (after_two c d s)
unfolding after_two
after_two-behind c d s = gives-choose (dot-behind s) (λ e t h. gives-map (after_three-behind c d e t) λ p r k. behind-both h k (omega arith)) (gives behind-none)

pub after_one-behind : (c : Option ℕ) (s : List ℕ) → Gives (λ p. Behind 0 s) (after_one c s)
unfolding after_one
after_one-behind c s = gives-choose (dot-behind s) (λ d t h. gives-map (after_two-behind c d t) λ p r k. behind-both h k (omega arith)) (gives behind-none)

pub partial-behind : (s : List ℕ) → Gives (λ p. Behind 1 s) (read_partial s)
unfolding read_partial
partial-behind s = gives_then (component-behind s) λ c t h. gives-map (after_one-behind c t) λ p r k. behind-both h k (omega arith)

spelled-behind : (w : List ℕ) (f : Prefix) (s : List ℕ) {h : Result Prefix} → 1 ≤ length w → Gives (λ f. Behind 1 s) h → Gives (λ f. Behind 1 s) (spelled w f s h)
spelled-behind w f s l k = gives-choose (literal-behind w s) (λ u r b. gives (behind-both b behind-none (omega arith))) k

pub prefix-behind : (s : List ℕ) → Gives (λ f. Behind 1 s) (read_prefix s)
unfolding read_prefix
prefix-behind s =
    spelled-behind _ _ s (omega arith) (spelled-behind _ _ s (omega arith) (spelled-behind _ _ s (omega arith) (spelled-behind _ _ s (omega arith)
    (spelled-behind _ _ s (omega arith) (spelled-behind _ _ s (omega arith) (spelled-behind _ _ s (omega arith) (spelled-behind _ _ s (omega arith) nothing)))))))

-- ---- what the count of bytes left says of the answer

-- an answer whose rest is given by a count
pub record Took {A : Type 0} (s : List ℕ) (g : Result A) (n : ℕ) : Type 0 where
  pub answer : A
  pub is : g ≡ ok answer (drop (length s - n) s)
  pub fewer : n < length s

pub took : {A : Type 0} {s : List ℕ} {g : Result A} → Gives (λ a. Behind 1 s) g → (n : ℕ) → n ≡ left_of s g → (n ≡ length s → ⊥) → Took s g n
took nothing n e z = absurd (z e)
took (gives {a} {r} h) n e z = record { answer = a; is = rw e (ap (ok a) (behind-drop h)); fewer = omega (arith, behind-left h) }

pub failed : {A : Type 0} {s : List ℕ} {g : Result A} → Gives (λ a. Behind 1 s) g → (n : ℕ) → n ≡ left_of s g → n ≡ length s → g ≡ fail
failed nothing n e z = refl
failed (gives h) n e z = absurd (omega (arith, behind-left h))

pub left-within : {A : Type 0} {m : ℕ} {s : List ℕ} {g : Result A} → Gives (λ a. Behind m s) g → left_of s g ≤ length s
left-within nothing = omega arith
left-within (gives h) = omega (arith, behind-left h)
