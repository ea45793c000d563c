-- What a pass makes of the pieces, one after another: one law for every pass. W k rs is what it makes of the pieces rs where its state is k; a
-- piece x takes it to the state `after k x` and adds to what is made of the others by `adds k x`; where a range ends the state becomes `next k`.
-- Assumes nothing.
use Prim.Native.Nat.{ℕ}
use mathlib.Core.Path.{◌≡◌, refl}
use mathlib.Core.List.{List, [], ◌∷◌}
use mathlib.Core.Bool.{false}
use native.Mathlib.Omega.{arith}
use mathlib.Core.Option.{Option, none, some}
use Rattle.rules.specs.Expansion.{Compat, Piece}
use Rattle.rules.specs.Walk.{Stage, item, range, right, only, end, bad, Walks, ends, fails, goes, goes_on, opening, push, map_option}

-- the ranges behind the one that has ended
abbrev later : List (List Piece) → List (List Piece)
later [] = []
later (ps ∷ rs) = rs

module _ {K R : Type 0} (W : K → List (List Piece) → R) where
  -- what is to be made at a stage: where a range begins, it is the first of those to come
  abbrev pub todo : Stage → K → List (List Piece) → R
  todo range k rs = W k (later rs)
  todo item k rs = W k rs
  todo right k rs = W k rs
  todo only k rs = W k rs
  todo end k rs = W k rs
  todo bad k rs = W k rs

  -- the state where a step at this stage begins
  module _ (next : K → K) where
    abbrev pub next_at : Stage → K → K
    next_at range k = next k
    next_at item k = k
    next_at right k = k
    next_at only k = k
    next_at end k = k
    next_at bad k = k

    module _ (opens : (k : K) (rs : List (List Piece)) → W k ([] ∷ rs) ≡ W (next k) rs) where
      -- what is still to be made is what the next step begins with
      pub todo-next : {m : Compat} {st : Stage} {r : List ℕ} {rs : List (List Piece)} (k : K) → Walks m st r (some rs) → W k rs ≡ todo st (next_at st k) rs
      todo-next {m} {st} {r} {rs} k w = go (some rs) refl w
        where
          begun : (st : Stage) (x : Piece) (rs ss : List (List Piece)) → rs ≡ opening st (push x ss) → W k rs ≡ todo st (next_at st k) rs
          begun range x rs ss e = rw e (opens k (push x ss))
          begun item x rs ss e = refl
          begun right x rs ss e = refl
          begun only x rs ss e = refl
          begun end x rs ss e = refl
          begun bad x rs ss e = refl

          mapped : (st : Stage) (x : Piece) (o : Option (List (List Piece))) → some rs ≡ map_option (λ ss. opening st (push x ss)) o → W k rs ≡ todo st (next_at st k) rs
          mapped st x none e = let z : ◌≡◌ {A = ℕ} 0 1 = cc in absurd (omega arith)
          mapped st x (some ss) e = begun st x rs ss cc

          go : {st : Stage} {r : List ℕ} (o : Option (List (List Piece))) → some rs ≡ o → Walks m st r o → W k rs ≡ todo st (next_at st k) rs
          go o e ends = refl
          go o e fails = let z : ◌≡◌ {A = ℕ} 0 1 = cc in absurd (omega arith)
          go o e (goes {st} {x = x} {o = p} h n v) = mapped st x p e

      -- nothing is to come
      pub todo-end : (st : Stage) (k : K) → goes_on st ≡ false → todo st k ([] ∷ []) ≡ W (next k) []
      todo-end range k e = cc
      todo-end item k e = cc
      todo-end right k e = cc
      todo-end only k e = cc
      todo-end end k e = opens k []
      todo-end bad k e = opens k []

  -- a step adds what its piece gives
  module _ (adds : K → Piece → R → R) (after : K → Piece → K) (pushes : (k : K) (x : Piece) (rs : List (List Piece)) → W k (push x rs) ≡ adds k x (W (after k x) rs)) where
    pub todo-push : (st : Stage) (k : K) (x : Piece) (rs : List (List Piece)) → todo st k (opening st (push x rs)) ≡ adds k x (W (after k x) rs)
    todo-push range k x rs = pushes k x rs
    todo-push item k x rs = pushes k x rs
    todo-push right k x rs = pushes k x rs
    todo-push only k x rs = pushes k x rs
    todo-push end k x rs = pushes k x rs
    todo-push bad k x rs = pushes k x rs
