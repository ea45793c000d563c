-- The readers of a version's identifiers take a byte at least, as a `Reader` is to.
-- Assumes nothing.
use Rattle.std.specs.Prelude.{ℕ, Bool, true, false, List, length}
use Rattle.std.proofs.Common.{arith}
use Rattle.rules.specs.Lists.{each}
use Rattle.rules.specs.Bytes.{pick, is_digit, is_word}
use Rattle.rules.specs.Syntax.{of_digits, text}
use Rattle.rules.specs.Parse.{fail, ok, ◌then◌, run}
use Rattle.rules.specs.Version.{read_word, leads_zero, read_version_identifier}
use Rattle.rules.proofs.Results.{Gives, nothing, gives, gives_then}
use Rattle.rules.proofs.Left.{Behind, behind-both, one-behind, count-behind}
use Rattle.lexer.specs.Views.{Takes}

pub word-takes : Takes read_word
unfolding read_word run ◌then◌
word-takes s = gives_then (one-behind is_word s) λ c t h. gives (behind-both h (count-behind is_word t) (omega arith))

pub identifier-takes : Takes read_version_identifier
unfolding read_version_identifier
identifier-takes s = gives_then (word-takes s) λ w r h. go w r h (each is_digit w) (leads_zero w)
  where
    go : (w r : List ℕ) → Behind 1 s r → (d z : Bool) → Gives (λ i. Behind 1 s) (pick d (pick z fail (ok (of_digits (length s) w) r)) (ok (text (length s) w) r))
    go w r h true true = nothing
    go w r h true false = gives h
    go w r h false z = gives h
