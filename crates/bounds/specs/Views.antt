-- What the pass over a text's steps makes of its bounds.
-- Assumes nothing.
use Rattle.std.specs.Prelude.{List}
use Rattle.rules.specs.Expansion.{Comparator}
use Rattle.shelf_rules.specs.Triples.{larger, smaller, lowest, highest, low_with, high_with, low_from, high_from, Bounds}

-- the bounds of a range so far, with a comparator more, and with several
abbrev pub bounds_with : Bounds → Comparator → Bounds
bounds_with b c = record { low = low_with b.low c; high = high_with b.high c }

abbrev pub ranged : Bounds → List Comparator → Bounds
ranged b cs = record { low = low_from b.low cs; high = high_from b.high cs }

-- of a range with no comparator
abbrev pub everything : Bounds
everything = record { low = lowest; high = highest }

-- the least low and the greatest high of both
abbrev pub joined : Bounds → Bounds → Bounds
joined a b = record { low = smaller a.low b.low; high = larger a.high b.high }
