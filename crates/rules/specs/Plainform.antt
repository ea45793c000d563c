-- The program `plainform`: what it writes, as a function of what it is given (01, "The program `plainform`").
-- Assumes nothing.
use Rattle.std.specs.Prelude.{ℕ, ◌+◌, ◌*◌, List, [], ◌∷◌, ◌++◌, leb, eqb, length}
use Prim.Native.String.{String}
use Rattle.rules.specs.Bytes.{bytes, pick}
use Rattle.rules.specs.Expansion.{Compat, cargo, npm}
use Rattle.rules.specs.NormalText.{decimal}
use Rattle.rules.specs.Answers.{Answer, accepted, refused, normal_text}

-- 0A hexadecimal, which ends each line
abbrev pub newline : ℕ
newline = 0x0A

-- "drops one final byte 0A hexadecimal if present"
unfoldable pub without_newline : List ℕ → List ℕ
without_newline [] = []
without_newline (c ∷ []) = pick (eqb c newline) [] (c ∷ [])
without_newline (c ∷ d ∷ t) = c ∷ without_newline (d ∷ t)

-- ---- a line of a mode

-- "the mode in these letters, a blank"
abbrev pub mode_letters : Compat → List ℕ
mode_letters cargo = bytes "cargo "
mode_letters npm = bytes "npm "

-- "`refused`, a blank and the number"
abbrev pub spell_refusal : ℕ → List ℕ
spell_refusal n = bytes "refused " ++ decimal n

-- "then the normal text, or" the refusal
unfoldable pub spell_answer : Answer (List ℕ) → List ℕ
unfolding decimal
spell_answer (accepted w) = w
spell_answer (refused n) = spell_refusal n

unfoldable pub mode_line : Compat → List ℕ → List ℕ
unfolding spell_answer normal_text
mode_line m t = mode_letters m ++ (spell_answer (normal_text m t) ++ (newline ∷ []))

-- ---- the program

-- "two lines, `cargo` first and `npm` second"
unfoldable pub mode_lines : List ℕ → List ℕ
unfolding mode_line
mode_lines t = mode_line cargo t ++ mode_line npm t

-- how many bytes an input may have, without its final 0A
abbrev pub longest_input : ℕ
longest_input = 4096

-- "Over 4,096 bytes left: it prints the line `too long`. Otherwise two lines"
unfoldable pub answer_lines : List ℕ → List ℕ
unfolding mode_lines
answer_lines t = pick (leb (length t) longest_input) (mode_lines t) (bytes "too long" ++ (newline ∷ []))

unfoldable pub plainform : List ℕ → List ℕ
unfolding without_newline answer_lines
plainform input = answer_lines (without_newline input)

-- ---- the lent bytes

-- the most bytes that a normal text of so long an input has (`text-bound`, proofs/Bound.antt)
abbrev pub longest_normal : ℕ
longest_normal = 8 * longest_input + 7

-- "it lends enough bytes that 7 never occurs": for the letters, a normal text and the 0A of each line
abbrev pub room : ℕ
room = (6 + longest_normal + 1) + (4 + longest_normal + 1)

-- ---- examples

-- inputs, each with the whole output (theorem 9): 01's example, and the empty text, each with and without a final 0A; a text with two; one with a 0D; and
-- the refusals 2, 3 and 4
unfoldable pub input_sheet : List (String × String)
input_sheet =
    ("1.2.3 || >1, <=1.2", "cargo >=1.2.3 <2.0.0 || >1.0.0 <1.3.0\nnpm =1.2.3 || >1.0.0 <1.3.0\n")
    ∷ ("1.2.3 || >1, <=1.2\n", "cargo >=1.2.3 <2.0.0 || >1.0.0 <1.3.0\nnpm =1.2.3 || >1.0.0 <1.3.0\n")
    ∷ ("", "cargo >=0.0.0\nnpm >=0.0.0\n")
    ∷ ("\n", "cargo >=0.0.0\nnpm >=0.0.0\n")
    ∷ ("1\n\n", "cargo refused 2\nnpm refused 2\n")
    ∷ ("1\r\n", "cargo refused 2\nnpm refused 2\n")
    ∷ ("18446744073709551616\n", "cargo refused 3\nnpm refused 3\n")
    ∷ ("0.0.18446744073709551615\n", "cargo refused 4\nnpm =0.0.18446744073709551615\n")
    ∷ []

unfoldable pub output_of : String × String → List ℕ
unfolding plainform
output_of row = plainform (bytes row.0)

abbrev pub output_given : String × String → List ℕ
output_given row = bytes row.1
