-- A loop that reads one thing after another: what it knows while n bytes are left, and what each of its ways gives. One law for every reader
-- that takes a byte at least.
-- Assumes nothing.
use mathlib.Core.Path.{◌≡◌, refl, sym, ap, ◌∙◌}
use Prim.Native.Nat.{ℕ, zero, suc, ◌+◌, ◌-◌, ◌≤◌, ◌<◌}
use native.Mathlib.Omega.{arith}
use mathlib.Core.List.{List, [], ◌∷◌, ◌++◌, append_assoc, append-nil}
use lib.ListN.{length, drop, length-drop, length-append}
use lib.Seq.{drop-drop}
use Rattle.rules.specs.Parse.{Result, fail, ok, ◌then◌, choose, many, all, left_of}
use Rattle.rules.proofs.Results.{Gives}
use Rattle.rules.proofs.Left.{Behind, Took, took, failed}

-- g, behind what was read before
abbrev onto : {A : Type 0} → List A → Result (List A) → Result (List A)
onto done g = g then λ l r. ok (done ++ l) r

onto-none : {A : Type 0} (g : Result (List A)) → onto [] g ≡ g
unfolding ◌then◌
onto-none fail = refl
onto-none (ok l r) = refl

onto-one : {A : Type 0} (done : List A) (a : A) (g : Result (List A)) → onto done (g then λ l r. ok (a ∷ l) r) ≡ onto (done ++ (a ∷ [])) g
unfolding ◌then◌
onto-one done a fail = refl
onto-one done a (ok l r) = rw append_assoc

-- it always answers
pub many-answers : {A : Type 0} (f : List ℕ → Result A) (k : ℕ) (s : List ℕ) → (l : List A) × (r : List ℕ) × (many f k s ≡ ok l r)
unfolding many choose ◌then◌
many-answers f zero s = ([], s, refl)
many-answers {A} f (suc k) s = go (f s) refl (many-answers f k)
  where
    go : (g : Result A) → f s ≡ g → ((t : List ℕ) → (l : List A) × (r : List ℕ) × (many f k t ≡ ok l r)) → (l : List A) × (r : List ℕ) × (many f (suc k) s ≡ ok l r)
    go fail e h = ([], s, rw (many, e))
    go (ok a t) e h = let x = h t in (a ∷ x.0, x.1, rw (many, e, x.2))

-- where n bytes are left, done was read
pub record Repeated {A : Type 0} (f : List ℕ → Result A) (s : List ℕ) (n : ℕ) (done : List A) : Type 0 where
  pub bound : ℕ
  pub few : length done + n ≤ length s
  pub enough : n ≤ bound
  pub is : all f s ≡ onto done (many f bound (drop (length s - n) s))

module _ {A : Type 0} (f : List ℕ → Result A) (behind : (s : List ℕ) → Gives (λ a. Behind 1 s) (f s)) where
  many-fails : (k : ℕ) (s : List ℕ) → f s ≡ fail → many f k s ≡ ok [] s
  unfolding many choose
  many-fails zero s e = refl
  many-fails (suc k) s e = rw e

  many_more : (k : ℕ) (s t : List ℕ) (a : A) → f s ≡ ok a t → many f (suc k) s ≡ (many f k t then λ l r. ok (a ∷ l) r)
  unfolding many choose
  many_more k s t a e = rw e

  module _ (s : List ℕ) where
    pub repeat-none : Repeated f s (length s) []
    repeat-none = record { bound = length s; few = omega arith; enough = omega arith; is = rw z (sym (onto-none (many f (length s) s))) }
      where
        z : length s - length s ≡ 0
        z = omega arith

    module _ (n : ℕ) (done : List A) (h : Repeated f s n done) where
      -- what is left, from the place where it begins
      left-length : length (drop (length s - n) s) ≡ n
      left-length = let w = h.few in omega (arith, length-drop (length s - n) s)

      module _ (k : ℕ) (q : k ≡ left_of (drop (length s - n) s) (f (drop (length s - n) s))) where
        pub repeat-stop : k ≡ n → all f s ≡ ok done (drop (length s - n) s)
        unfolding ◌then◌
        repeat-stop e = h.is ∙ rw (many-fails h.bound (drop (length s - n) s) (failed (behind (drop (length s - n) s)) k q (e ∙ sym left-length)), append-nil)

        pub again : (k ≡ n → ⊥) → Took (drop (length s - n) s) (f (drop (length s - n) s)) k
        again z = took (behind (drop (length s - n) s)) k q (λ e. z (e ∙ left-length))

        pub repeat-fewer : (k ≡ n → ⊥) → k < n
        repeat-fewer z = omega (arith, (again z).fewer, left-length)

        pub repeat-more : (z : k ≡ n → ⊥) → Repeated f s k (done ++ ((again z).answer ∷ []))
        repeat-more z = go h.bound h.enough h.is
          where
            go : (b : ℕ) → n ≤ b → all f s ≡ onto done (many f b (drop (length s - n) s)) → Repeated f s k (done ++ ((again z).answer ∷ []))
            go zero en e = absurd (omega (arith, repeat-fewer z))
            go (suc b) en e =
                let w = h.few in let l = repeat-fewer z in
                let t = again z in
                let m : length s - n + (n - k) ≡ length s - k = omega arith in
                let u : drop (length (drop (length s - n) s) - k) (drop (length s - n) s) ≡ drop (length s - k) s = rw (left-length, drop-drop, m) in
                record {
                  bound = b;
                  few = simp length-append (omega arith);
                  enough = omega arith;
                  is = e ∙ ap (onto done) (many_more b (drop (length s - n) s) _ t.answer t.is) ∙ onto-one done t.answer _ ∙ rw u;
                }
