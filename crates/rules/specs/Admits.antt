-- The program `admits`: what it writes, as a function of what it is given. It is the project's own program, and not one of 01's: the sentences
-- that are quoted here are those of the issue that asks for it.
-- Assumes nothing.
use Rattle.std.specs.Prelude.{ℕ, ◌+◌, Bool, true, false, List, [], ◌∷◌, ◌++◌, map, leb, eqb, length}
use Prim.Native.String.{String}
use Rattle.rules.specs.Lists.{concat}
use Rattle.rules.specs.Bytes.{bytes, pick}
use Rattle.rules.specs.Expansion.{Compat, cargo, npm, Reading}
use Rattle.rules.specs.NormalText.{decimal}
use Rattle.rules.specs.Answers.{Answer, accepted, refused, longest, reading}
use Rattle.rules.specs.Plainform.{newline, spell_refusal}
use Rattle.rules.specs.Admission.{admission_call}

-- ---- the line for a version

-- "`yes`, `no`, or `refused`, a blank and the number"
unfoldable pub spell_verdict : Answer Bool → List ℕ
unfolding decimal
spell_verdict (accepted true) = bytes "yes"
spell_verdict (accepted false) = bytes "no"
spell_verdict (refused n) = spell_refusal n

-- "For each line: the line, a blank, and" the answer
unfoldable pub verdict_line : List ℕ → Answer Bool → List ℕ
unfolding spell_verdict
verdict_line s a = s ++ (bytes " " ++ (spell_verdict a ++ (newline ∷ [])))

-- "a line of over 65,535 bytes is not printed back: `refused 8` alone"
unfoldable pub answer_line : Compat → List ℕ → List ℕ → List ℕ
unfolding verdict_line admission_call
answer_line m t s = pick (leb (length s) longest) (verdict_line s (admission_call m t s)) (bytes "refused 8" ++ (newline ∷ []))

-- ---- the line for the range

-- "A refused range: one line, `refused`, a blank and the number"; what is given where it is not refused
abbrev pub unless_refused : Answer Reading → List ℕ → List ℕ
unless_refused (accepted rs) w = w
unless_refused (refused n) w = spell_refusal n ++ (newline ∷ [])

unfoldable pub refused_range : Compat → List ℕ → List ℕ
unfolding reading decimal
refused_range m t = unless_refused (reading m t) []

-- ---- the program

-- a byte before the first of the lines
abbrev pub on_first : ℕ → List (List ℕ) → List (List ℕ)
on_first c [] = (c ∷ []) ∷ []
on_first c (l ∷ ls) = (c ∷ l) ∷ ls

-- "one to a line, any number of lines, the last with or without its 0A"
unfoldable pub lines_of : List ℕ → List (List ℕ)
lines_of [] = []
lines_of (c ∷ s) = pick (eqb c newline) ([] ∷ lines_of s) (on_first c (lines_of s))

-- what the program writes under the mode, for the range and the input
unfoldable pub admits_output : Compat → List ℕ → List ℕ → List ℕ
unfolding answer_line lines_of reading decimal
admits_output m t input = unless_refused (reading m t) (concat (map (answer_line m t) (lines_of input)))

-- ---- the lent bytes

-- enough for the line that is longest: a version of 65,535 bytes, a blank, an answer and a 0A
abbrev pub verdict_room : ℕ
verdict_room = longest + 32

-- ---- examples

-- the mode, the range, the input and the whole output (theorem 14)
pub data Session : Type 0 where
  session : Compat → String → String → String → Session

-- the last line with and without its 0A; an empty line; lines that are no versions; no line at all; a refused range
unfoldable pub sessions : List Session
sessions =
    session npm "^1.2.3-a || 1.0.x" "1.2.3\n2.0.0\n2.0.0-rc.1\n" "1.2.3 yes\n2.0.0 no\n2.0.0-rc.1 yes\n"
    ∷ session npm "^1" "1.2.3\n2.0.0\n\nx" "1.2.3 yes\n2.0.0 no\n refused 8\nx refused 8\n"
    ∷ session npm "1.2.3" "1.2.4" "1.2.4 no\n"
    ∷ session cargo "1.2.3" "1.2.4" "1.2.4 yes\n"
    ∷ session npm "" "1.2.3\r\n18446744073709551616.0.0\n" "1.2.3\r refused 8\n18446744073709551616.0.0 refused 9\n"
    ∷ session npm "" "" ""
    ∷ session npm "" "\n" " refused 8\n"
    ∷ session npm "1,2" "1.2.3\n" "refused 2\n"
    ∷ session npm "18446744073709551616" "" "refused 3\n"
    ∷ []

unfoldable pub session_output : Session → List ℕ
unfolding admits_output
session_output (session m t i o) = admits_output m (bytes t) (bytes i)

abbrev pub session_given : Session → List ℕ
session_given (session m t i o) = bytes o

-- the line for a range, where it is refused
unfoldable pub range_lines : List (List ℕ × List ℕ)
unfolding refused_range
range_lines =
    (refused_range npm (bytes "1,2"), bytes "refused 2\n") ∷ (refused_range npm (bytes "18446744073709551615"), bytes "refused 4\n") ∷ (refused_range npm (bytes "1.2.3"), []) ∷ []
