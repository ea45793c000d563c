-- The rules' triples for the code's.
-- Assumes nothing.
use Rattle.shelf_rules.specs.Triples as T
use Rattle.shelf_rules.specs.Triples.{triple}
use Rattle.triples.specs.declared.Triple.{Triple}
use Rattle.triples.specs.declared.Bounds.{Bounds}

abbrev pub triple_is : Triple → T.Triple
triple_is t = triple t.major t.minor t.patch

abbrev pub bounds_is : Bounds → T.Bounds
bounds_is b = record { low = triple_is b.low; high = triple_is b.high }
