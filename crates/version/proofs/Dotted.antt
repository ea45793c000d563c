-- Three numbers with dots between: which of them are read.
-- Assumes nothing.
use Rattle.std.proofs.Common.{ℕ, ◌≡◌, List, refl, Option, ap}
use Rattle.rules.specs.Bytes.{value}
use Rattle.rules.specs.Parse.{Result, fail, ok, ◌then◌, read_number}
use Rattle.rules.specs.Version.{read_after_dot}
use Rattle.lexer.specs.Views.{fitting, number_of}
use Rattle.version.specs.Views.{read_numbers, numbers_of}

-- a number of which the value is known
number_is : (g : Result (List ℕ)) (o : Option ℕ) (r : List ℕ) → ok o r ≡ number_of g → (w : List ℕ) × (g ≡ ok w r) × (o ≡ fitting (value w))
number_is fail o r e = cc
number_is (ok w t) o r e = let i : t ≡ r = cc in (w, ap (ok w) i, cc)

no_number : (g : Result (List ℕ)) → fail ≡ number_of g → g ≡ fail
no_number fail e = refl
no_number (ok w r) e = cc

three : (a b c a' b' c' : Option ℕ) (v : List ℕ) → a ≡ a' → b ≡ b' → c ≡ c' → ◌≡◌ {A = Result (Option ℕ × Option ℕ × Option ℕ)} (ok (a, b, c) v) (ok (a', b', c') v)
three a b c a' b' c' v i j m = rw (i, j, m)

module _ (s : List ℕ) where
  pub numbers_none : fail ≡ number_of (read_number s) → fail ≡ numbers_of (read_numbers s)
  unfolding read_numbers ◌then◌
  numbers_none e = rw (no_number (read_number s) e)

  module _ (a : Option ℕ) (t : List ℕ) (e : ok a t ≡ number_of (read_number s)) where
    pub numbers_one : fail ≡ number_of (read_after_dot read_number t) → fail ≡ numbers_of (read_numbers s)
    unfolding read_numbers ◌then◌
    numbers_one f = let (w, q, i) = number_is (read_number s) a t e in rw (q, no_number (read_after_dot read_number t) f)

    module _ (b : Option ℕ) (u : List ℕ) (f : ok b u ≡ number_of (read_after_dot read_number t)) where
      pub numbers_two : fail ≡ number_of (read_after_dot read_number u) → fail ≡ numbers_of (read_numbers s)
      unfolding read_numbers ◌then◌
      numbers_two h =
          let (w, q, i) = number_is (read_number s) a t e in
          let (x, k, j) = number_is (read_after_dot read_number t) b u f in
          rw (q, k, no_number (read_after_dot read_number u) h)

      pub numbers_all : (c : Option ℕ) (v : List ℕ) → ok c v ≡ number_of (read_after_dot read_number u) → ok (a, b, c) v ≡ numbers_of (read_numbers s)
      unfolding read_numbers ◌then◌
      numbers_all c v h =
          let (w, q, i) = number_is (read_number s) a t e in
          let (x, k, j) = number_is (read_after_dot read_number t) b u f in
          let (y, l, m) = number_is (read_after_dot read_number u) c v h in
          rw (q, k, l) (three _ _ _ _ _ _ v i j m)

pub ruleset numbers = (numbers_none, numbers_one, numbers_two, numbers_all)
