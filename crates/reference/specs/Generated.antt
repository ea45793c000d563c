-- src/generated.rs, function by function, from its end to its beginning, since a definition stands below what it names. `oracle/transcribed` reads both
-- files and compares them.
-- The functions' names are those of the source with `-` for `_`. The names spaces, spaces₁, word-byte, dot-part, next-simple and next-range are not the source's:
-- they are for expressions that pest writes out wherever the grammar repeats something.
-- Assumes nothing.
use Rattle.rules.specs.Bytes.{bytes}
use Rattle.reference.specs.Rule.{Rule}
use Rattle.reference.specs.Pest.{Expr, unchanged, start-of-input, end-of-input, match-string, match-range, ◌and-then◌, ◌or-else◌, sequence, optional, repeat, rule}

-- "hidden": the grammar has no whitespace rule, so nothing is skipped
abbrev pub skip : Expr
skip = unchanged

unfoldable pub SOI : Expr
SOI = start-of-input

unfoldable pub EOI : Expr
EOI = rule Rule.EOI end-of-input

unfoldable pub space : Expr
space = match-string (bytes " ") or-else match-string (bytes "\t")

-- `space*`
unfoldable pub spaces : Expr
spaces = sequence (optional (space and-then repeat (sequence (skip and-then space))))

-- `space+`
unfoldable pub spaces₁ : Expr
spaces₁ = sequence (space and-then skip and-then spaces)

unfoldable pub nr : Expr
nr =
    rule Rule.nr (match-string (bytes "0") or-else
    sequence (match-range 49 57 and-then skip and-then
    sequence (optional (match-range 48 57 and-then repeat (sequence (skip and-then match-range 48 57))))))

-- `'-' | '0'..'9' | 'A'..'Z' | 'a'..'z'`
unfoldable pub word-byte : Expr
word-byte = match-string (bytes "-") or-else match-range 48 57 or-else match-range 65 90 or-else match-range 97 122

unfoldable pub part : Expr
part =
    rule Rule.part (nr or-else
    sequence (word-byte and-then skip and-then
    sequence (optional (word-byte and-then repeat (sequence (skip and-then word-byte))))))

-- `"." ~ part`
unfoldable pub dot-part : Expr
dot-part = sequence (match-string (bytes ".") and-then skip and-then part)

unfoldable pub parts : Expr
parts = rule Rule.parts (sequence (part and-then skip and-then sequence (optional (dot-part and-then repeat (sequence (skip and-then dot-part))))))

unfoldable pub qualifier : Expr
qualifier = rule Rule.qualifier (sequence (match-string (bytes "-") or-else match-string (bytes "+") and-then skip and-then parts))

unfoldable pub xr-op : Expr
xr-op = rule Rule.xr-op (match-string (bytes "x") or-else match-string (bytes "X") or-else match-string (bytes "*"))

unfoldable pub xr : Expr
xr = rule Rule.xr (xr-op or-else nr)

unfoldable pub partial : Expr
partial =
    rule Rule.partial (sequence (xr and-then skip and-then
    optional (sequence (match-string (bytes ".") and-then skip and-then xr and-then skip and-then
    optional (sequence (match-string (bytes ".") and-then skip and-then xr and-then skip and-then optional qualifier))))))

unfoldable pub caret : Expr
caret = rule Rule.caret (sequence (match-string (bytes "^") and-then skip and-then spaces and-then skip and-then partial))

unfoldable pub tilde : Expr
tilde = rule Rule.tilde (sequence (match-string (bytes "~>") or-else match-string (bytes "~") and-then skip and-then spaces and-then skip and-then partial))

unfoldable pub primitive-op : Expr
primitive-op =
    rule Rule.primitive-op (match-string (bytes "<=") or-else match-string (bytes ">=") or-else match-string (bytes ">") or-else
    match-string (bytes "<") or-else match-string (bytes "="))

unfoldable pub primitive : Expr
primitive = rule Rule.primitive (sequence (primitive-op and-then skip and-then spaces and-then skip and-then partial))

unfoldable pub simple : Expr
simple = rule Rule.simple (primitive or-else partial or-else tilde or-else caret)

unfoldable pub hyphen : Expr
hyphen =
    rule Rule.hyphen (sequence (partial and-then skip and-then spaces₁ and-then skip and-then match-string (bytes "-") and-then skip and-then
    spaces₁ and-then skip and-then partial))

unfoldable pub empty : Expr
empty = rule Rule.empty (match-string (bytes ""))

-- `","? ~ space+ ~ simple`
unfoldable pub next-simple : Expr
next-simple = sequence (optional (match-string (bytes ",")) and-then skip and-then spaces₁ and-then skip and-then simple)

unfoldable pub range : Expr
range =
    rule Rule.range (hyphen or-else
    sequence (simple and-then skip and-then sequence (optional (next-simple and-then repeat (sequence (skip and-then next-simple))))) or-else
    empty)

unfoldable pub logical-or : Expr
logical-or = rule Rule.logical-or (sequence (spaces and-then skip and-then match-string (bytes "||") and-then skip and-then spaces))

-- `logical_or ~ range`
unfoldable pub next-range : Expr
next-range = sequence (logical-or and-then skip and-then range)

unfoldable pub range-set : Expr
range-set =
    rule Rule.range-set (sequence (SOI and-then skip and-then spaces and-then skip and-then range and-then skip and-then
    sequence (optional (next-range and-then repeat (sequence (skip and-then next-range)))) and-then skip and-then spaces and-then skip and-then EOI))
