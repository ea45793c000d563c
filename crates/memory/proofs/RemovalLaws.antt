-- A row removed: what a copy and zeros behind it leave.
-- Assumes nothing.
use Rattle.std.proofs.Common.{◌≡◌, ℕ, suc, ◌+◌, ◌*◌, ◌-◌, ◌≤◌, ◌<◌, List, ◌++◌, append_assoc, length, take, drop, replicate, arith, length-drop}
use Rattle.std.proofs.lemmas.List.{length-replicate}
use Rattle.std.proofs.Math.Nat.{mul-suc, mul-sub, mul-le-mul_left}
use Rattle.std.proofs.Math.Seq.{paste, drop-drop, take-paste, drop-paste, take_all}
use Rattle.shelf_rules.specs.Table.{row_removed}
use Rattle.shelf_rules.proofs.TableLaws.{rows-without}

-- ---- what a copy leaves, up to its end e and behind it

module _ (b b₁ src : List ℕ) (a m e : ℕ) (q : a + m ≡ e) (p : b₁ ≡ paste b a src m) (r : a ≤ length b) (s : m ≤ length src) where
  paste-front : take e b₁ ≡ take a b ++ take m src
  paste-front = rw (← q, p) (take-paste b a src m r s)

  paste-back : drop e b₁ ≡ drop e b
  paste-back = rw (← q, p) (drop-paste b a src m r s)

-- ---- remove_row

module _ (w n k : ℕ) (h : k < n) (b : List ℕ) (r : w * n ≤ length b) where
  last_row : w * n ≡ w * (n - 1) + w
  last_row = let e : suc (n - 1) ≡ n = omega arith in rw e at (mul-suc w (n - 1))

  order : w * k ≤ w * (n - 1)
  order = mul-le-mul_left w (omega arith)

  between : w * (n - suc k) ≡ w * (n - 1) - w * k
  between = let e : n - 1 - k ≡ n - suc k = omega arith in rw e at (mul-sub w (n - 1) k)

  pub removed_row : (b₁ b₂ : List ℕ)
      → b₁ ≡ paste b (w * k) (drop (w * k + w) b) (w * (n - 1) + w - (w * k + w))
      → b₂ ≡ paste b₁ (w * (n - 1)) (replicate w 0) w
      → b₂ ≡ row_removed w n k b
  unfolding row_removed
  removed_row b₁ b₂ e₁ e₂ =
      let zeros : List ℕ = replicate w 0 in
      let src : List ℕ = drop (w * k + w) b in
      let m : w * (n - 1) + w - (w * k + w) ≡ w * (n - 1) - w * k = omega (arith, order) in
      let e : b₁ ≡ paste b (w * k) src (w * (n - 1) - w * k) = rw m at e₁ in
      let within : w * k ≤ length b = omega (arith, last_row, order) in
      let source : w * (n - 1) - w * k ≤ length src = simp length-drop (omega (arith, last_row, order)) in
      let end : w * k + (w * (n - 1) - w * k) ≡ w * (n - 1) = omega (arith, order) in
      let z : take w zeros ≡ zeros = take_all w zeros (omega (arith, length-replicate {A = ℕ} w 0)) in
      let f = paste-front b b₁ src (w * k) (w * (n - 1) - w * k) (w * (n - 1)) end e within source in
      let d = paste-back b b₁ src (w * k) (w * (n - 1) - w * k) (w * (n - 1)) end e within source in
      let x : drop (w * (n - 1) + w) b₁ ≡ drop (w * n) b = rw (last_row, ← drop-drop, d, drop-drop) in
      rw (e₂, f, x, z, rows-without w n k b h, mul-suc w k, between)
      (append_assoc (take (w * k) b ++ take (w * (n - 1) - w * k) src) zeros (drop (w * n) b))
