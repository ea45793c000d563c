-- A run of pest's methods meets a reader of 01: both fail where they stood, or both answer, with the same rest, and the pairs fit the value.
-- Carried along the methods.
-- Assumes nothing.
use mathlib.Core.Path.{◌≡◌, refl, sym, ap, ◌∙◌}
use Prim.Native.Nat.{ℕ, zero, suc, ◌≤◌, ◌<◌}
use native.Mathlib.Omega.{arith}
use mathlib.Core.Bool.{Bool, true, false}
use mathlib.Core.List.{List, [], ◌∷◌}
use lib.ListN.{length, drop}
use Rattle.rules.specs.Bytes.{pick}
use Rattle.rules.specs.Parse as P
use Rattle.rules.specs.Parse.{Result, ◌then◌, choose, many, all, one_of, count}
use Rattle.rules.proofs.Results as Results
use Rattle.rules.proofs.Results.{Gives}
use Rattle.rules.proofs.Left.{Behind, behind-left}
use Rattle.rules.proofs.Complete.{many-fails}
use Rattle.reference.specs.Rule.{Rule}
use Rattle.reference.specs.Pest.{Pairs, end, pair, ◌⊕◌, ParseResult, ok, err, endless, queued, and_then, or_else, sequenced, optionally, span, ruled, again, repeated, matched}

-- ---- pairs

pub join-end : (p : Pairs) → p ⊕ end ≡ p
unfolding ◌⊕◌
join-end end = refl
join-end (pair n w i p) = ap (pair n w i) (join-end p)

join-assoc : (p q r : Pairs) → (p ⊕ q) ⊕ r ≡ p ⊕ (q ⊕ r)
unfolding ◌⊕◌
join-assoc end q r = refl
join-assoc (pair n w i p) q r = ap (pair n w i) (join-assoc p q r)

pub queued-end : (o : ParseResult) → queued end o ≡ o
unfolding queued ◌⊕◌
queued-end (ok r p) = refl
queued-end (err r p) = refl
queued-end endless = refl

queued-queued : (p q : Pairs) (o : ParseResult) → queued (p ⊕ q) o ≡ queued p (queued q o)
unfolding queued
queued-queued p q (ok r x) = rw join-assoc
queued-queued p q (err r x) = rw join-assoc
queued-queued p q endless = refl

-- ---- calls one after another

and-queued : (p : Pairs) (o : ParseResult) (f : List ℕ → ParseResult) → and_then (queued p o) f ≡ queued p (and_then o f)
unfolding queued and_then
and-queued p (ok r q) f = queued-queued p q (f r)
and-queued p (err r q) f = refl
and-queued p endless f = refl

and-and : (o : ParseResult) (f g : List ℕ → ParseResult) → and_then (and_then o f) g ≡ and_then o (λ r. and_then (f r) g)
unfolding and_then
and-and (ok r p) f g = and-queued p (f r) g
and-and (err r p) f g = refl
and-and endless f g = refl

abbrev skipped : List ℕ → ParseResult
skipped s = ok s end

and-skip : (o : ParseResult) → and_then o skipped ≡ o
unfolding and_then queued
and-skip (ok r p) = rw join-end
and-skip (err r p) = refl
and-skip endless = refl

-- pest's chains, with `skip` between, bracketed to the right
abbrev pub ◌⨾◌ : ParseResult → (List ℕ → ParseResult) → ParseResult
o ⨾ f = and_then (and_then o skipped) f

infixl 20 ◌⨾◌
pub chain₂ : (o : ParseResult) (f : List ℕ → ParseResult) → o ⨾ f ≡ and_then o f
chain₂ o f = ap (λ x. and_then x f) (and-skip o)

pub chain₃ : (o : ParseResult) (f g : List ℕ → ParseResult) → o ⨾ f ⨾ g ≡ and_then o λ r. and_then (f r) g
chain₃ o f g = chain₂ (o ⨾ f) g ∙ ap (λ x. and_then x g) (chain₂ o f) ∙ and-and o f g

pub chain₃-left : (o : ParseResult) (f g : List ℕ → ParseResult) → o ⨾ f ⨾ g ≡ and_then (and_then o f) g
chain₃-left o f g = chain₂ (o ⨾ f) g ∙ ap (λ x. and_then x g) (chain₂ o f)

chain₅ : (o : ParseResult) (f g h k : List ℕ → ParseResult) → o ⨾ f ⨾ g ⨾ h ⨾ k ≡ and_then o λ r. and_then (f r) λ r. and_then (g r) λ r. and_then (h r) k
chain₅ o f g h k =
    chain₂ (o ⨾ f ⨾ g ⨾ h) k ∙ ap (λ x. and_then x k) (chain₃ (o ⨾ f) g h ∙ ap (λ x. and_then x λ r. and_then (g r) h) (chain₂ o f))
    ∙ and-and (and_then o f) _ k ∙ and-and o f _ ∙ ap (and_then o) (λ i r. ap (and_then (f r)) (λ j q. and-and (g q) h k j) i)

-- a chain of five, the middle three bracketed
pub chain₁₃₁ : (o : ParseResult) (f g h k : List ℕ → ParseResult) → o ⨾ f ⨾ g ⨾ h ⨾ k ≡ and_then o λ r. and_then (and_then (f r) λ r. and_then (g r) h) k
chain₁₃₁ o f g h k = chain₅ o f g h k ∙ ap (and_then o) (λ i r. (ap (and_then (f r)) (λ j q. sym (and-and (g q) h k) j) ∙ sym (and-and (f r) (λ r. and_then (g r) h) k)) i)

pub chain₆ : (o : ParseResult) (f g h k l : List ℕ → ParseResult) → o ⨾ f ⨾ g ⨾ h ⨾ k ⨾ l ≡ and_then o λ r. and_then (f r) λ r. and_then (g r) λ r. and_then (h r) λ r. and_then (k r) l
chain₆ o f g h k l = chain₅ (o ⨾ f) g h k l ∙ ap (λ x. and_then x λ r. and_then (g r) λ r. and_then (h r) λ r. and_then (k r) l) (chain₂ o f) ∙ and-and o f _

-- ---- a run meets a reader

pub data Meets {A : Type 0} (Q : A → Pairs → Type 0) (s : List ℕ) : Result A → ParseResult → Type 0 where
  reads : {a : A} {r : List ℕ} {p : Pairs} → Q a p → Meets Q s (P.ok a r) (ok r p)
  misses : Meets Q s P.fail (err s end)

-- within a sequence the state of an Err is of no account
pub data Within {A : Type 0} (Q : A → Pairs → Type 0) : Result A → ParseResult → Type 0 where
  reads : {a : A} {r : List ℕ} {p : Pairs} → Q a p → Within Q (P.ok a r) (ok r p)
  misses : {r : List ℕ} {p : Pairs} → Within Q P.fail (err r p)

module _ {A : Type 0} {Q : A → Pairs → Type 0} where
  pub inside : {s : List ℕ} {g : Result A} {o : ParseResult} → Meets Q s g o → Within Q g o
  inside (Meets.reads q) = Within.reads q
  inside Meets.misses = Within.misses

  queued-within : (p : Pairs) {g : Result A} {o : ParseResult} → Within (λ b q. Q b (p ⊕ q)) g o → Within Q g (queued p o)
  unfolding queued
  queued-within p (Within.reads q) = Within.reads q
  queued-within p Within.misses = Within.misses

  pub sequence-meets : (s : List ℕ) {g : Result A} {o : ParseResult} → Within Q g o → Meets Q s g (sequenced s o)
  unfolding sequenced
  sequence-meets s (Within.reads q) = Meets.reads q
  sequence-meets s Within.misses = Meets.misses

  pub meets-map : {B : Type 0} {R : B → Pairs → Type 0} (k : A → B) {s : List ℕ} {g : Result A} {o : ParseResult} → Meets Q s g o → ((a : A) (p : Pairs) → Q a p → R (k a) p) → Meets R s (g then λ a r. P.ok (k a) r) o
  unfolding ◌then◌
  meets-map k (Meets.reads {a} {p} q) h = Meets.reads (h a p q)
  meets-map k Meets.misses h = Meets.misses

  -- a pair of its own
  pub rule-meets : {R : A → Pairs → Type 0} (n : Rule) {s : List ℕ} {g : Result A} {o : ParseResult} → Meets Q s g o
      → ((a : A) (r : List ℕ) (p : Pairs) → g ≡ P.ok a r → Q a p → R a (pair n (span s r) p end)) → Meets R s g (ruled n s o)
  unfolding ruled
  rule-meets n (Meets.reads {a} {r} {p} q) h = Meets.reads (h a r p refl q)
  rule-meets n Meets.misses h = Meets.misses

pub and-within : {A B : Type 0} {Q : A → Pairs → Type 0} {R : B → Pairs → Type 0} {g : Result A} {o : ParseResult} {f : A → List ℕ → Result B} {h : List ℕ → ParseResult}
    → Within Q g o → ((a : A) (r : List ℕ) (p : Pairs) → Q a p → Within (λ b q. R b (p ⊕ q)) (f a r) (h r)) → Within R (g then f) (and_then o h)
unfolding ◌then◌ and_then
and-within (Within.reads {a} {r} {p} q) k = queued-within p (k a r p q)
and-within Within.misses k = Within.misses

-- a choice
pub or-meets : {A B : Type 0} {Q : A → Pairs → Type 0} {R : B → Pairs → Type 0} (k : A → B) (f : List ℕ → ParseResult) {s : List ℕ} {g : Result A} {h : Result B} {o : ParseResult}
    → Meets Q s g o → ((a : A) (p : Pairs) → Q a p → R (k a) p) → (g ≡ P.fail → Meets R s h (f s)) → Meets R s (choose g (λ a r. P.ok (k a) r) h) (or_else o f)
unfolding choose or_else
or-meets k f (Meets.reads {a} {p} q) c d = Meets.reads (c a p q)
or-meets k f {s} Meets.misses c d = rw (queued-end (f s)) (d refl)

pub within-map : {A B : Type 0} {Q : A → Pairs → Type 0} {R : B → Pairs → Type 0} (k : A → B) {g : Result A} {o : ParseResult}
    → Within Q g o → ((a : A) (p : Pairs) → Q a p → R (k a) p) → Within R (g then λ a r. P.ok (k a) r) o
unfolding ◌then◌
within-map k (Within.reads {a} {p} q) h = Within.reads (h a p q)
within-map k Within.misses h = Within.misses

-- another way to say the run
pub via : {A : Type 0} {Q : A → Pairs → Type 0} {g : Result A} {o u : ParseResult} → o ≡ u → Within Q g u → Within Q g o
via e h = rw e h

pub meets-via : {A : Type 0} {Q : A → Pairs → Type 0} {s : List ℕ} {g : Result A} {o u : ParseResult} → o ≡ u → Meets Q s g u → Meets Q s g o
meets-via e h = rw e h

-- a match
pub matched-meets : {A : Type 0} (s : List ℕ) (g : Result A) → Meets (λ a p. p ≡ end) s g (matched s g)
unfolding matched
matched-meets s P.fail = Meets.misses
matched-meets s (P.ok a r) = Meets.reads refl

-- ---- as often as it succeeds

-- the code that pest writes for `e*`
abbrev pub starred : (List ℕ → ParseResult) → List ℕ → ParseResult
starred f s = sequenced s (optionally (and_then (f s) λ r. repeated (λ r. sequenced r (and_then (skipped r) f)) (suc (length r)) r))

-- the pairs of each, one after another
pub data Each {A : Type 0} (Q : A → Pairs → Type 0) : List A → Pairs → Type 0 where
  none : Each Q [] end
  more : {a : A} {l : List A} {p q : Pairs} → Q a p → Each Q l q → Each Q (a ∷ l) (p ⊕ q)

-- both answer
pub data Gets {A : Type 0} (Q : A → Pairs → Type 0) : Result A → ParseResult → Type 0 where
  gets : {a : A} {r : List ℕ} {p : Pairs} → Q a p → Gets Q (P.ok a r) (ok r p)

pub gets-inside : {A : Type 0} {Q : A → Pairs → Type 0} {g : Result A} {o : ParseResult} → Gets Q g o → Within Q g o
gets-inside (gets q) = Within.reads q

pub gets-map : {A B : Type 0} {Q : A → Pairs → Type 0} {R : B → Pairs → Type 0} (k : A → B) {g : Result A} {o : ParseResult}
    → Gets Q g o → ((a : A) (p : Pairs) → Q a p → R (k a) p) → Gets R (g then λ a r. P.ok (k a) r) o
unfolding ◌then◌
gets-map k (gets {a} {p} q) h = gets (h a p q)

queued-gets : {A : Type 0} {Q : A → Pairs → Type 0} (p : Pairs) {g : Result A} {o : ParseResult} → Gets (λ b q. Q b (p ⊕ q)) g o → Gets Q g (queued p o)
unfolding queued
queued-gets p (gets q) = gets q

sequence-gets : {A : Type 0} {Q : A → Pairs → Type 0} (s : List ℕ) {g : Result A} {o : ParseResult} → Gets Q g o → Gets Q g (optionally (sequenced s o))
unfolding optionally sequenced
sequence-gets s (gets x) = gets x

-- `optional(sequence(..))`, where what stands behind the first never fails
pub optional_then : {A B : Type 0} {Q : A → Pairs → Type 0} {R : B → Pairs → Type 0} (s : List ℕ) {g : Result A} {o : ParseResult} (f : A → List ℕ → Result B) (k : List ℕ → ParseResult) (d : B)
    → Within Q g o → ((a : A) (r : List ℕ) (p : Pairs) → Q a p → Gets (λ b q. R b (p ⊕ q)) (f a r) (k r)) → R d end
    → Gets R (choose g f (P.ok d s)) (optionally (sequenced s (and_then o k)))
unfolding choose optionally sequenced and_then
optional_then s f k d (Within.reads {a} {r} {p} q) h e = sequence-gets s (queued-gets p (h a r p q))
optional_then s f k d Within.misses h e = gets e

-- `optional`
pub optional-gets : {A : Type 0} {Q : A → Pairs → Type 0} {s : List ℕ} {g : Result A} {o : ParseResult} (d : A) → Meets Q s g o → Q d end
    → Gets Q (choose g (λ a r. P.ok a r) (P.ok d s)) (optionally o)
unfolding choose optionally
optional-gets d (Meets.reads q) e = gets q
optional-gets d Meets.misses e = gets e

module _ {A : Type 0} {Q : A → Pairs → Type 0} (g : List ℕ → Result A) (f : List ℕ → ParseResult) (meets : (s : List ℕ) → Meets Q s (g s) (f s))
    (behind : (s : List ℕ) → Gives (λ a. Behind 1 s) (g s)) where
  again-meets : (s : List ℕ) → Meets Q s (g s) (sequenced s (and_then (skipped s) f))
  unfolding and_then
  again-meets s = rw (queued-end (f s)) (sequence-meets s (inside (meets s)))

  more-gets : (a : A) (p : Pairs) {h : Result (List A)} {o : ParseResult} → Q a p → Gets (Each Q) h o → Gets (Each Q) (h then λ l r. P.ok (a ∷ l) r) (queued p o)
  unfolding queued ◌then◌
  more-gets a p q (gets k) = gets (Each.more q k)

  repeats-meet : (b k : ℕ) (s : List ℕ) → length s ≤ k → length s < b → Gets (Each Q) (many g k s) (repeated (λ r. sequenced r (and_then (skipped r) f)) b s)
  unfolding repeated again many choose
  repeats-meet zero k s h l = absurd (omega arith)
  repeats-meet (suc b) k s h l = go k h (again-meets s) (behind s) refl (repeats-meet b)
    where
      go : (k : ℕ) → length s ≤ k → {x : Result A} {o : ParseResult} → Meets Q s x o → Gives (λ a. Behind 1 s) x → g s ≡ x
          → ((k : ℕ) (r : List ℕ) → length r ≤ k → length r < b → Gets (Each Q) (many g k r) (repeated (λ r. sequenced r (and_then (skipped r) f)) b r))
          → Gets (Each Q) (many g k s) (again o λ r. repeated (λ r. sequenced r (and_then (skipped r) f)) b r)
      go k h Meets.misses v e rec = rw (many-fails g k s e) (gets Each.none)
      go zero h (Meets.reads q) v e rec = absurd (let z = behind-left (Results.given v) in omega arith)
      go (suc k) h (Meets.reads {a} {r} {p} q) v e rec =
          let z = behind-left (Results.given v) in rw e (more-gets a p q (rec k r (omega arith) (omega arith)))

  -- `e*` reads what `all` reads
  pub star-meets : (s : List ℕ) → Gets (Each Q) (all g s) (starred f s)
  unfolding sequenced optionally and_then many choose
  star-meets s = go (length s) refl (meets s) (behind s) refl
    where
      first : {h : Result (List A)} {o : ParseResult} → Gets (Each Q) h o → Gets (Each Q) h (sequenced s (optionally o))
      first (gets k) = gets k

      go : (k : ℕ) → length s ≡ k → {x : Result A} {o : ParseResult} → Meets Q s x o → Gives (λ a. Behind 1 s) x → g s ≡ x
          → Gets (Each Q) (many g k s) (sequenced s (optionally (and_then o λ r. repeated (λ r. sequenced r (and_then (skipped r) f)) (suc (length r)) r)))
      go k h Meets.misses v e = rw (many-fails g k s e) (gets Each.none)
      go zero h (Meets.reads q) v e = absurd (let z = behind-left (Results.given v) in omega arith)
      go (suc k) h (Meets.reads {a} {r} {p} q) v e =
          let z = behind-left (Results.given v) in rw e (first (more-gets a p q (repeats-meet (suc (length r)) k r (omega arith) (omega arith))))

-- ---- runs of bytes

-- bytes of a class
module _ (p : ℕ → Bool) (f : List ℕ → ParseResult) (one : (s : List ℕ) → f s ≡ matched s (one_of p s)) where
  class-again : (s : List ℕ) → sequenced s (and_then (skipped s) f) ≡ matched s (one_of p s)
  unfolding and_then matched sequenced
  class-again s = rw (queued-end (f s), one s) (go (one_of p s))
    where
      go : (g : Result ℕ) → sequenced s (matched s g) ≡ matched s g
      go P.fail = refl
      go (P.ok c r) = refl

  class-repeats : (b : ℕ) (s : List ℕ) → length s < b → repeated (λ r. sequenced r (and_then (skipped r) f)) b s ≡ ok (drop (count p s) s) end
  unfolding repeated again one_of count matched
  class-repeats zero s h = absurd (omega arith)
  class-repeats (suc b) [] h = rw (class-again []) refl
  class-repeats (suc b) (c ∷ s) h = ap (λ o. again o λ r. repeated (λ r. sequenced r (and_then (skipped r) f)) b r) (class-again (c ∷ s)) ∙ go (p c) (class-repeats b s (omega arith))
    where
      go : (t : Bool) → repeated (λ r. sequenced r (and_then (skipped r) f)) b s ≡ ok (drop (count p s) s) end
          → again (matched (c ∷ s) (pick t (P.ok c s) P.fail)) (λ r. repeated (λ r. sequenced r (and_then (skipped r) f)) b r) ≡ ok (drop (pick t (suc (count p s)) 0) (c ∷ s)) end
      go true k = queued-end (repeated (λ r. sequenced r (and_then (skipped r) f)) b s) ∙ k
      go false k = refl

  pub class-star : (s : List ℕ) → starred f s ≡ ok (drop (count p s) s) end
  unfolding one_of count matched and_then sequenced optionally
  class-star [] = ap (λ o. sequenced [] (optionally (and_then o λ r. repeated (λ r. sequenced r (and_then (skipped r) f)) (suc (length r)) r))) (one [])
  class-star (c ∷ s) = ap (λ o. sequenced (c ∷ s) (optionally (and_then o λ r. repeated (λ r. sequenced r (and_then (skipped r) f)) (suc (length r)) r))) (one (c ∷ s)) ∙ go (p c)
    where
      go : (t : Bool) → sequenced (c ∷ s) (optionally (and_then (matched (c ∷ s) (pick t (P.ok c s) P.fail)) λ r. repeated (λ r. sequenced r (and_then (skipped r) f)) (suc (length r)) r)) ≡ ok (drop (pick t (suc (count p s)) 0) (c ∷ s)) end
      go true = ap (λ o. sequenced (c ∷ s) (optionally o)) (queued-end (repeated (λ r. sequenced r (and_then (skipped r) f)) (suc (length s)) s) ∙ class-repeats (suc (length s)) s (omega arith))
      go false = refl
