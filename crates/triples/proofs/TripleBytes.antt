-- Triples in lent bytes: a law for each of the code's ways.
-- Assumes nothing.
use Prim.Native.Nat.{ℕ, ◌+◌, ◌≤◌}
use mathlib.Core.Path.{◌≡◌, sym, ap, ap₂, ◌∙◌}
use mathlib.Core.List.{List}
use native.Mathlib.Omega.{arith}
use lib.ListN.{length, take, drop}
use lib.Seq.{drop-drop}
use Rattle.rows.specs.Put.{Put}
use Rattle.rows.proofs.Puts.{put_then, put_same}
use Rattle.shelf_rules.specs.Table.{low_first, number_in}
use Rattle.shelf_rules.specs.Triples as T
use Rattle.shelf_rules.specs.Triples.{triple}
use Rattle.shelf_rules.specs.Shelf.{triple_row, kept_row, triple_in, bounds_in}
use Rattle.shelf_rules.proofs.TableLaws.{low-length}
use Rattle.shelf_rules.proofs.KeptLaws.{triple-length}
use Rattle.triples.specs.Views.{triple_is}
use Rattle.triples.specs.declared.Triple.{Triple}

-- ---- triple_at, bounds_at

module _ (l : List ℕ) (at : ℕ) where
  number_behind : (i x : ℕ) → x ≡ number_in (take 8 (drop (at + i) l)) → x ≡ number_in (take 8 (drop i (drop at l)))
  number_behind i x e = e ∙ ap (λ k. number_in (take 8 k)) (sym (drop-drop i at l))

  pub triple_read : (a b c : ℕ) → a ≡ number_in (take 8 (drop at l)) → b ≡ number_in (take 8 (drop (at + 8) l)) → c ≡ number_in (take 8 (drop (at + 16) l))
      → triple a b c ≡ triple_in (drop at l)
  triple_read a b c e f g =
      ap₂ (λ a b. triple a b c) e (number_behind 8 b f) ∙ ap (triple (number_in (take 8 (drop at l))) (number_in (take 8 (drop 8 (drop at l))))) (number_behind 16 c g)

  pub bounds_read : (t u : Triple) → triple_is t ≡ triple_in (drop at l) → triple_is u ≡ triple_in (drop (at + 24) l)
      → ◌≡◌ {A = T.Bounds} (record { low = triple_is t; high = triple_is u }) (bounds_in (drop at l))
  bounds_read t u e f = ap₂ (λ t u. record { low = t; high = u }) e (f ∙ ap triple_in (sym (drop-drop 24 at l)))

-- ---- put_triple, put_bounds

module _ (l : List ℕ) (at a : ℕ) (r : at + 24 ≤ length l) (l₁ : List ℕ) (i : ℕ) (p : Put l at (low_first 8 a) l₁ i) where
  pub second-room : i + 8 ≤ length l₁
  second-room = omega (arith, p.place, put_same p, low-length 8 a)

  module _ (b : ℕ) (l₂ : List ℕ) (j : ℕ) (q : Put l₁ i (low_first 8 b) l₂ j) where
    pub third-room : j + 8 ≤ length l₂
    third-room = omega (arith, p.place, put_same p, low-length 8 a, q.place, put_same q, low-length 8 b)

    pub triple-put : (c : ℕ) (l₃ : List ℕ) (k : ℕ) → Put l₂ j (low_first 8 c) l₃ k → Put l at (triple_row (triple a b c)) l₃ k
    unfolding triple_row
    triple-put c l₃ k s = put_then p (put_then q s)

pub ruleset triple_puts = (second-room, third-room, triple-put)

module _ (l : List ℕ) (at : ℕ) (t : T.Triple) (r : at + 48 ≤ length l) (l₁ : List ℕ) (i : ℕ) (p : Put l at (triple_row t) l₁ i) where
  pub high-room : i + 24 ≤ length l₁
  high-room = omega (arith, p.place, put_same p, triple-length t)

  pub bounds-put : (u : T.Triple) (l₂ : List ℕ) (j : ℕ) → Put l₁ i (triple_row u) l₂ j → Put l at (kept_row (record { low = t; high = u })) l₂ j
  unfolding kept_row
  bounds-put u l₂ j q = put_then p q

pub ruleset bounds_puts = (high-room, bounds-put)
