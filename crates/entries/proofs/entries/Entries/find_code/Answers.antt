-- The library's law is given two predicates here, which the name of a law on the function cannot say.
use Rattle.std.proofs.Common.{◌≡◌, rules, true, false, eqb}
use Rattle.std.proofs.lemmas.Iterator.{first_from_Range}
use Rattle.shelf_rules.specs.Shelf.{code_in}
use Rattle.entries.specs.Views.{row_at}
use Rattle.entries.proofs.Finding.{found_code}
use Rattle.entries.proofs.entries.Entries.find_code.Goals as goal

pub returns : goal.returns
returns c =
    found_code c.args.self.bytes.now c.args.self.count c.args.code c.find.result
    (first_from_Range _ _ _ c.find.result (λ k. eqb (code_in (row_at k c.args.self.bytes.now)) c.args.code ≡ true)
    (λ k. eqb (code_in (row_at k c.args.self.bytes.now)) c.args.code ≡ false)
    c.find.ensures.ran (λ x q k. search rules) (λ x q k. search rules))
