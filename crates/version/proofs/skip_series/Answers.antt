use Rattle.std.proofs.Common.{refl}
use Rattle.version.proofs.Tails.{series_text}
use Rattle.version.proofs.skip_series.Goals as goal

pub returns-in-len1-up-clause-text : goal.returns-in-len1-up-clause-text
returns-in-len1-up-clause-text g c =
    series_text g.R.Reader.reads c.args.sign c.args.s.now c.in-len1-up.len_at_least c.if-b-sign.true c.skip_identifiers.result _ refl c.skip_identifiers.ensures.answer
    c.skip_identifiers.ensures.text
