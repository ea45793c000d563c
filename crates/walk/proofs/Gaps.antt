-- What follows an item, by whether spaces stand behind it.
-- Assumes nothing.
use Rattle.std.proofs.Common.{ℕ, ◌≡◌, Bool, true, false, List, [], ◌∷◌, length, length-drop, refl, Some, None, arith}
use borrow.Author.Tests.{lt-ltb, le-ltb}
use Rattle.rules.specs.Bytes.{pick, is_space}
use Rattle.rules.specs.Parse.{fail, ok, ◌then◌, one_of, count, skip, spaces₁}
use Rattle.rules.specs.Walk as W
use Rattle.lexer.specs.Views.{rest_of}

pub with_gap : (d : Bool) (s t : List ℕ) → Some t ≡ rest_of (spaces₁ s) → W.continues d true t ≡ W.follow d s
unfolding W.follow spaces₁ one_of ◌then◌ count
with_gap d [] t e = cc
with_gap d (c ∷ s) t e = go (is_space c) refl e
  where
    go : (b : Bool) → is_space c ≡ b → Some t ≡ rest_of (pick b (ok c s) fail then λ c t. ok (tt {0}) (skip t)) → W.continues d true t ≡ W.follow d (c ∷ s)
    go false i e = cc
    go true i e = let k : t ≡ skip s = cc in rw (i, lt-ltb (length (skip s)) (length (c ∷ s)) (omega (arith, length-drop (count is_space s) s)), k) refl

pub without_gap : (d : Bool) (s : List ℕ) → None ≡ rest_of (spaces₁ s) → W.continues false false s ≡ W.follow d s
unfolding W.follow spaces₁ one_of ◌then◌ count
without_gap d [] e = refl
without_gap d (c ∷ s) e = go (is_space c) refl e
  where
    go : (b : Bool) → is_space c ≡ b → None ≡ rest_of (pick b (ok c s) fail then λ c t. ok (tt {0}) (skip t)) → W.continues false false (c ∷ s) ≡ W.follow d (c ∷ s)
    go true i e = cc
    go false i e = rw (i, le-ltb (length (c ∷ s)) (length (c ∷ s)) (omega arith)) refl

pub ruleset gaps = (with_gap, without_gap)
