use Rattle.version.specs.Views.{version_is}
use Rattle.first_fit.proofs.FitLaws.{fits_text, fits_other}
use Rattle.first_fit.proofs.entry_fits.Goals as goal

pub returns-in-Ok : goal.returns-in-Ok
returns-in-Ok c =
    fits_text c.args.row.now (version_is c.args.v.now) c.from-n.result c.from-n.ensures c.try_from.result c.try_from.ensures c.if-n-gt-TEXT_BYTES.false c.in-Ok.compat c.in-Ok.is
    c.admits_held.result c.admits_held.ensures

pub returns-in-Err : goal.returns-in-Err
returns-in-Err c =
    fits_other c.args.row.now (version_is c.args.v.now) c.from-n.result c.from-n.ensures c.try_from.result c.try_from.ensures c.if-n-gt-TEXT_BYTES.false _ c.in-Err.is
