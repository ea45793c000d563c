-- The program `plainform`: its output by the length of its input, and the bytes that it lends are enough.
-- Assumes nothing.
use mathlib.Core.Path.{◌≡◌, refl}
use Prim.Native.Nat.{ℕ, ◌+◌, ◌*◌, ◌≤◌, ◌<◌}
use native.Mathlib.Omega.{arith}
use mathlib.Core.List.{List}
use lib.Dec.{leb}
use lib.ListN.{length, length-append}
use borrow.Author.Tests.{le-leb, lt-leb}
use Rattle.rules.specs.Bytes.{bytes}
use Rattle.rules.specs.Expansion.{Compat, cargo, npm, Reading}
use Rattle.rules.specs.NormalText.{decimal, decimal_to, spell}
use Rattle.rules.specs.Answers.{Answer, accepted, refused, unless, map_answer, reading, normal_text, normal_text_call}
use Rattle.rules.specs.Plainform.{without_newline, spell_answer, mode_line, mode_lines, longest_input, answer_lines, plainform, longest_normal, room}
use Rattle.rules.proofs.Accepted.{Decided, long, underivable, large, raised, decided}
use Rattle.rules.proofs.Bound.{text-bound}

module _ (input : List ℕ) where
  pub too_long : longest_input < length (without_newline input) → plainform input ≡ bytes "too long\n"
  unfolding plainform answer_lines
  too_long h = rw (lt-leb (length (without_newline input)) longest_input h)

  pub two-lines : length (without_newline input) ≤ longest_input → plainform input ≡ mode_lines (without_newline input)
  unfolding plainform answer_lines
  two-lines h = rw (le-leb (length (without_newline input)) longest_input h)

-- where there is room for the answer, the normal text call does not refuse with 7
pub never-7 : (m : Compat) (t : List ℕ) (lent : ℕ) → length (spell_answer (normal_text m t)) ≤ lent → normal_text_call m t lent ≡ normal_text m t
unfolding normal_text_call spell_answer
never-7 m t lent h = go (normal_text m t) h
  where
    go : (a : Answer (List ℕ)) → length (spell_answer a) ≤ lent → unless 7 (λ w. leb (length w) lent) a ≡ a
    go (accepted w) h = rw (le-leb (length w) lent h)
    go (refused n) h = refl

module _ (t : List ℕ) (h : length t ≤ longest_input) where
  answer-short : (m : Compat) → length (spell_answer (normal_text m t)) ≤ longest_normal
  unfolding normal_text spell_answer decimal decimal_to
  answer-short m = go (reading m t) (decided m t) (text-bound m t)
    where
      go : (a : Answer Reading) → Decided m t a → ((rs : Reading) → a ≡ accepted rs → length (spell rs) ≤ 8 * length t + 7)
          → length (spell_answer (map_answer spell a)) ≤ longest_normal
      go (accepted rs) d b = omega (arith, b rs refl)
      go (refused n) (long l) b = omega arith
      go (refused n) (underivable l u) b = omega arith
      go (refused n) (large l d f) b = omega arith
      go (refused n) (raised l d f e) b = omega arith

  pub lines-room : length (mode_lines t) ≤ room
  unfolding mode_lines mode_line
  lines-room = simp length-append (omega (arith, answer-short cargo, answer-short npm))
