-- What the program `replay` prints of an answer: 01's number, which is 0 where the text is not refused, and what is counted.
-- Assumes nothing.
use Rattle.std.specs.Prelude.{ℕ, List, ◌++◌, codes, Option, Result, Ok, Err}
use Rattle.std.specs.Fmt.{decimal}
use Rattle.rangeset.specs.declared.Counts.{Counts}

-- how many bytes a normal text has
abbrev pub length_text : ℕ → List ℕ
length_text n = codes "0 " ++ decimal n

-- how many ranges, comparators and identifiers a reading has
abbrev pub counts_text : Counts → List ℕ
counts_text c = codes "0 " ++ (decimal c.ranges ++ (codes " " ++ (decimal c.comparators ++ (codes " " ++ decimal c.identifiers))))

-- what is answered, or the error, each as it prints itself
abbrev pub answer_text : {A E : Type 0} → (A → Option (List ℕ)) → (E → Option (List ℕ)) → Result A E → Option (List ℕ)
answer_text f g (Ok a) = f a
answer_text f g (Err e) = g e
