-- Texts with what the crate semver-parser 0.10.3 returned for them. Written by oracle/tables.
-- Assumes nothing.
use Rattle.std.specs.Prelude.{List, [], ◌∷◌}
use Rattle.rules.specs.Bytes.{bytes}
use Rattle.rules.specs.Syntax.{number, text, lt, lte, gt, gte, eq}
use Rattle.rules.specs.Expansion.{comparator}
use Rattle.reference.specs.Range.{Cargo, Npm}
use Rattle.reference.specs.RangeSet.{Ok, Err, panicked}
use Rattle.reference_tables.specs.Rows.{Row, row, both}

abbrev pub texts₁ : List Row
texts₁ =
    row both [] (Ok ((comparator gte 0 0 0 [] ∷ []) ∷ []))
    ∷ row both (bytes " || ") (Ok ((comparator gte 0 0 0 [] ∷ []) ∷ (comparator gte 0 0 0 [] ∷ []) ∷ []))
    ∷ row both (bytes "||1") (Ok ((comparator gte 0 0 0 [] ∷ []) ∷ (comparator gte 1 0 0 [] ∷ comparator lt 2 0 0 [] ∷ []) ∷ []))
    ∷ row both (bytes "1 2") (Ok ((comparator gte 1 0 0 [] ∷ comparator lt 2 0 0 [] ∷ comparator gte 2 0 0 [] ∷ comparator lt 3 0 0 [] ∷ []) ∷ []))
    ∷ row both (bytes "1,  2") (Ok ((comparator gte 1 0 0 [] ∷ comparator lt 2 0 0 [] ∷ comparator gte 2 0 0 [] ∷ comparator lt 3 0 0 [] ∷ []) ∷ []))
    ∷ row both (bytes "1,, 2") Err
    ∷ row both (bytes ">= 1") (Ok ((comparator gte 1 0 0 [] ∷ []) ∷ []))
    ∷ row both (bytes "=<1") Err
    ∷ row both (bytes "^ 1") (Ok ((comparator gte 1 0 0 [] ∷ comparator lt 2 0 0 [] ∷ []) ∷ []))
    ∷ row both (bytes "^") Err
    ∷ row both (bytes "1 -2") Err
    ∷ row both (bytes "1 2 - 3") Err
    ∷ row both (bytes "1.") Err
    ∷ row both (bytes "1.2.3.4") Err
    ∷ row both (bytes "1a") Err
    ∷ row both (bytes "1.2-a") Err
    ∷ row both (bytes "1.2.3-01") Err
    ∷ row (Cargo ∷ []) (bytes "1.2.3--") (Ok ((comparator gte 1 2 3 (text 0 (bytes "-") ∷ []) ∷ comparator lt 2 0 0 [] ∷ []) ∷ []))
    ∷ row (Npm ∷ []) (bytes "1.2.3--") (Ok ((comparator eq 1 2 3 (text 0 (bytes "-") ∷ []) ∷ []) ∷ []))
    ∷ row both (49 ∷ 10 ∷ 50 ∷ []) Err
    ∷ row both (bytes "*") (Ok ((comparator gte 0 0 0 [] ∷ []) ∷ []))
    ∷ row both (bytes ">=*") (Ok ((comparator gte 0 0 0 [] ∷ []) ∷ []))
    ∷ row both (bytes "=x") (Ok ((comparator gte 0 0 0 [] ∷ []) ∷ []))
    ∷ row both (bytes "~x") (Ok ((comparator gte 0 0 0 [] ∷ []) ∷ []))
    ∷ row both (bytes "<X") (Ok ((comparator lt 0 0 0 [] ∷ []) ∷ []))
    ∷ row both (bytes "~>X") (Ok ((comparator gte 0 0 0 [] ∷ []) ∷ []))
    ∷ row both (bytes "<=x.2") (Ok ((comparator gte 0 0 0 [] ∷ []) ∷ []))
    ∷ row both (bytes "^x.2") (Ok ((comparator gte 0 0 0 [] ∷ []) ∷ []))
    ∷ row both (bytes ">X.2.3") (Ok ((comparator lt 0 0 0 [] ∷ []) ∷ []))
    ∷ row both (bytes "*.x.3-a") (Ok ((comparator gte 0 0 0 [] ∷ []) ∷ []))
    ∷ row both (bytes ">=*.x.3-a") (Ok ((comparator gte 0 0 0 [] ∷ []) ∷ []))
    ∷ row both (bytes "=0") (Ok ((comparator gte 0 0 0 [] ∷ comparator lt 1 0 0 [] ∷ []) ∷ []))
    ∷ row both (bytes "~0") (Ok ((comparator gte 0 0 0 [] ∷ comparator lt 1 0 0 [] ∷ []) ∷ []))
    ∷ row both (bytes "<1") (Ok ((comparator lt 1 0 0 [] ∷ []) ∷ []))
    ∷ row both (bytes "~>1") (Ok ((comparator gte 1 0 0 [] ∷ comparator lt 2 0 0 [] ∷ []) ∷ []))
    ∷ row both (bytes "<=1.x") (Ok ((comparator lt 2 0 0 [] ∷ []) ∷ []))
    ∷ row both (bytes "^1.x") (Ok ((comparator gte 1 0 0 [] ∷ comparator lt 2 0 0 [] ∷ []) ∷ []))
    ∷ row both (bytes ">1.X.*") (Ok ((comparator gt 1 0 0 [] ∷ []) ∷ []))
    ∷ row both (bytes "1.*.3") (Ok ((comparator gte 1 0 0 [] ∷ comparator lt 2 0 0 [] ∷ []) ∷ []))
    ∷ row both (bytes ">=1.*.3") (Ok ((comparator gte 1 0 0 [] ∷ []) ∷ []))
    ∷ row both (bytes "=0.x") (Ok ((comparator gte 0 0 0 [] ∷ comparator lt 1 0 0 [] ∷ []) ∷ []))
    ∷ row both (bytes "~0.x") (Ok ((comparator gte 0 0 0 [] ∷ comparator lt 1 0 0 [] ∷ []) ∷ []))
    ∷ row both (bytes "<0.0") (Ok ((comparator lt 0 0 0 [] ∷ []) ∷ []))
    ∷ row both (bytes "~>0.0") (Ok ((comparator gte 0 0 0 [] ∷ comparator lt 0 1 0 [] ∷ []) ∷ []))
    ∷ row both (bytes "<=0.2") (Ok ((comparator lt 0 3 0 [] ∷ []) ∷ []))
    ∷ row both (bytes "^0.2") (Ok ((comparator gte 0 2 0 [] ∷ comparator lt 0 3 0 [] ∷ []) ∷ []))
    ∷ row both (bytes ">1.0") (Ok ((comparator gt 1 0 0 [] ∷ []) ∷ []))
    ∷ row both (bytes "1.2") (Ok ((comparator gte 1 2 0 [] ∷ comparator lt 1 3 0 [] ∷ []) ∷ []))
    ∷ row both (bytes ">=1.2") (Ok ((comparator gte 1 2 0 [] ∷ []) ∷ []))
    ∷ row both (bytes "=1.2.x") (Ok ((comparator gte 1 2 0 [] ∷ comparator lt 1 3 0 [] ∷ []) ∷ []))
    ∷ row both (bytes "~1.2.x") (Ok ((comparator gte 1 2 0 [] ∷ comparator lt 1 3 0 [] ∷ []) ∷ []))
    ∷ row both (bytes "<0.0.*+b") (Ok ((comparator lt 0 0 0 [] ∷ []) ∷ []))
    ∷ row both (bytes "~>0.0.*+b") (Ok ((comparator gte 0 0 0 [] ∷ comparator lt 0 1 0 [] ∷ []) ∷ []))
    ∷ row both (bytes "<=0.0.0") (Ok ((comparator lte 0 0 0 [] ∷ []) ∷ []))
    ∷ row both (bytes "^0.0.0") (Ok ((comparator gte 0 0 0 [] ∷ comparator lt 0 0 1 [] ∷ []) ∷ []))
    ∷ row both (bytes ">0.0.3") (Ok ((comparator gt 0 0 3 [] ∷ []) ∷ []))
    ∷ row (Cargo ∷ []) (bytes "0.2.0") (Ok ((comparator gte 0 2 0 [] ∷ comparator lt 0 3 0 [] ∷ []) ∷ []))
    ∷ row (Npm ∷ []) (bytes "0.2.0") (Ok ((comparator eq 0 2 0 [] ∷ []) ∷ []))
    ∷ row both (bytes ">=0.2.0") (Ok ((comparator gte 0 2 0 [] ∷ []) ∷ []))
    ∷ row both (bytes "=0.2.3") (Ok ((comparator eq 0 2 3 [] ∷ []) ∷ []))
    ∷ row both (bytes "~0.2.3") (Ok ((comparator gte 0 2 3 [] ∷ comparator lt 0 3 0 [] ∷ []) ∷ []))
    ∷ row both (bytes "<1.2.3") (Ok ((comparator lt 1 2 3 [] ∷ []) ∷ []))
    ∷ row both (bytes "~>1.2.3") (Ok ((comparator gte 1 2 3 [] ∷ comparator lt 1 3 0 [] ∷ []) ∷ []))
    ∷ row both (bytes "<=1.2.3-a") (Ok ((comparator lte 1 2 3 (text 0 (bytes "a") ∷ []) ∷ []) ∷ []))
    ∷ row both (bytes "^1.2.3-a") (Ok ((comparator gte 1 2 3 (text 0 (bytes "a") ∷ []) ∷ comparator lt 2 0 0 [] ∷ []) ∷ []))
    ∷ row both (bytes ">0.0.3-0.x-1") (Ok ((comparator gt 0 0 3 (number 0 ∷ text 0 (bytes "x-1") ∷ []) ∷ []) ∷ []))
    ∷ row (Cargo ∷ []) (bytes "1.2.3+b7") (Ok ((comparator gte 1 2 3 (text 0 (bytes "b7") ∷ []) ∷ comparator lt 2 0 0 [] ∷ []) ∷ []))
    ∷ row (Npm ∷ []) (bytes "1.2.3+b7") (Ok ((comparator eq 1 2 3 (text 0 (bytes "b7") ∷ []) ∷ []) ∷ []))
    ∷ row both (bytes ">=1.2.3+b7") (Ok ((comparator gte 1 2 3 (text 0 (bytes "b7") ∷ []) ∷ []) ∷ []))
    ∷ row both (bytes "=0.2.3+9.-") (Ok ((comparator eq 0 2 3 (number 9 ∷ text 0 (bytes "-") ∷ []) ∷ []) ∷ []))
    ∷ row both (bytes "~0.2.3+9.-") (Ok ((comparator gte 0 2 3 (number 9 ∷ text 0 (bytes "-") ∷ []) ∷ comparator lt 0 3 0 [] ∷ []) ∷ []))
    ∷ row both (bytes "<18446744073709551614") (Ok ((comparator lt 18446744073709551614 0 0 [] ∷ []) ∷ []))
    ∷ row both (bytes "~>18446744073709551614") (Ok ((comparator gte 18446744073709551614 0 0 [] ∷ comparator lt 18446744073709551615 0 0 [] ∷ []) ∷ []))
    ∷ row both (bytes "<=18446744073709551615") panicked
    ∷ row both (bytes "^18446744073709551615") panicked
    ∷ row both (bytes ">18446744073709551616") panicked
    ∷ row both (bytes "18446744073709551615.1") (Ok ((comparator gte 18446744073709551615 1 0 [] ∷ comparator lt 18446744073709551615 2 0 [] ∷ []) ∷ []))
    ∷ row both (bytes ">=18446744073709551615.1") (Ok ((comparator gte 18446744073709551615 1 0 [] ∷ []) ∷ []))
    ∷ row both (bytes "=1.18446744073709551614") (Ok ((comparator gte 1 18446744073709551614 0 [] ∷ comparator lt 1 18446744073709551615 0 [] ∷ []) ∷ []))
    ∷ row both (bytes "~1.18446744073709551614") (Ok ((comparator gte 1 18446744073709551614 0 [] ∷ comparator lt 1 18446744073709551615 0 [] ∷ []) ∷ []))
    ∷ row both (bytes "<1.18446744073709551615") (Ok ((comparator lt 1 18446744073709551615 0 [] ∷ []) ∷ []))
    ∷ row both (bytes "~>1.18446744073709551615") panicked
    ∷ row both (bytes "<=1.18446744073709551616") panicked
    ∷ row both (bytes "^1.18446744073709551616") panicked
    ∷ row both (bytes ">0.0.18446744073709551614") (Ok ((comparator gt 0 0 18446744073709551614 [] ∷ []) ∷ []))
    ∷ row (Cargo ∷ []) (bytes "0.0.18446744073709551615") panicked
    ∷ row (Npm ∷ []) (bytes "0.0.18446744073709551615") (Ok ((comparator eq 0 0 18446744073709551615 [] ∷ []) ∷ []))
    ∷ row both (bytes ">=0.0.18446744073709551615") (Ok ((comparator gte 0 0 18446744073709551615 [] ∷ []) ∷ []))
    ∷ row both (bytes "=0.0.18446744073709551616") panicked
    ∷ row both (bytes "~0.0.18446744073709551616") panicked
    ∷ row both (bytes "<0.18446744073709551615.1") (Ok ((comparator lt 0 18446744073709551615 1 [] ∷ []) ∷ []))
    ∷ row both (bytes "~>0.18446744073709551615.1") panicked
    ∷ row both (bytes "<=x.18446744073709551616") (Ok ((comparator gte 0 0 0 [] ∷ []) ∷ []))
    ∷ row both (bytes "^x.18446744073709551616") (Ok ((comparator gte 0 0 0 [] ∷ []) ∷ []))
    ∷ row both (bytes ">1.x.18446744073709551616") (Ok ((comparator gt 1 0 0 [] ∷ []) ∷ []))
    ∷ row both (bytes "* - *") (Ok ((comparator gte 0 0 0 [] ∷ []) ∷ []))
    ∷ row both (bytes "* - 1.2.3") (Ok ((comparator lte 1 2 3 [] ∷ []) ∷ []))
    ∷ row both (bytes "* - 1.2.18446744073709551615") (Ok ((comparator lte 1 2 18446744073709551615 [] ∷ []) ∷ []))
    ∷ row both (bytes "1 - 1.2") (Ok ((comparator gte 1 0 0 [] ∷ comparator lt 1 3 0 [] ∷ []) ∷ []))
    ∷ row both (bytes "1 - 18446744073709551615") panicked
    ∷ row both (bytes "0.x - 1") (Ok ((comparator gte 0 0 0 [] ∷ comparator lt 2 0 0 [] ∷ []) ∷ []))
    ∷ row both (bytes "0.x - 0.0.3-a") (Ok ((comparator gte 0 0 0 [] ∷ comparator lte 0 0 3 (text 0 (bytes "a") ∷ []) ∷ []) ∷ []))
    ∷ row both (bytes "0.x - 18446744073709551616") panicked
    ∷ row both (bytes "1.2 - 1.2.X") (Ok ((comparator gte 1 2 0 [] ∷ comparator lt 1 3 0 [] ∷ []) ∷ []))
    ∷ row both (bytes "1.2 - 1.18446744073709551615") panicked
    ∷ row both (bytes "1.2.X - 0.x") (Ok ((comparator gte 1 2 0 [] ∷ comparator lt 1 0 0 [] ∷ []) ∷ []))
    ∷ row both (bytes "1.2.X - 1.2.3+b.1") (Ok ((comparator gte 1 2 0 [] ∷ comparator lte 1 2 3 (text 0 (bytes "b") ∷ number 1 ∷ []) ∷ []) ∷ []))
    ∷ row both (bytes "1.2.3 - *") (Ok ((comparator gte 1 2 3 [] ∷ []) ∷ []))
    ∷ row both (bytes "1.2.3 - 1.2.3") (Ok ((comparator gte 1 2 3 [] ∷ comparator lte 1 2 3 [] ∷ []) ∷ []))
    ∷ row both (bytes "1.2.3 - 1.2.18446744073709551615") (Ok ((comparator gte 1 2 3 [] ∷ comparator lte 1 2 18446744073709551615 [] ∷ []) ∷ []))
    ∷ row both (bytes "0.0.3-a - 1.2") (Ok ((comparator gte 0 0 3 (text 0 (bytes "a") ∷ []) ∷ comparator lt 1 3 0 [] ∷ []) ∷ []))
    ∷ row both (bytes "0.0.3-a - 18446744073709551615") panicked
    ∷ row both (bytes "1.2.3+b.1 - 1") (Ok ((comparator gte 1 2 3 (text 0 (bytes "b") ∷ number 1 ∷ []) ∷ comparator lt 2 0 0 [] ∷ []) ∷ []))
    ∷ row both (bytes "1.2.3+b.1 - 0.0.3-a") (Ok ((comparator gte 1 2 3 (text 0 (bytes "b") ∷ number 1 ∷ []) ∷ comparator lte 0 0 3 (text 0 (bytes "a") ∷ []) ∷ []) ∷ []))
    ∷ row both (bytes "1.2.3+b.1 - 18446744073709551616") panicked
    ∷ row both (bytes "18446744073709551615 - 1.2.X") (Ok ((comparator gte 18446744073709551615 0 0 [] ∷ comparator lt 1 3 0 [] ∷ []) ∷ []))
    ∷ row both (bytes "1.18446744073709551615 - 1") (Ok ((comparator gte 1 18446744073709551615 0 [] ∷ comparator lt 2 0 0 [] ∷ []) ∷ []))
    ∷ row both (bytes "1.18446744073709551615 - 0.0.3-a") (Ok ((comparator gte 1 18446744073709551615 0 [] ∷ comparator lte 0 0 3 (text 0 (bytes "a") ∷ []) ∷ []) ∷ []))
    ∷ row both (bytes "1.2.18446744073709551615 - 1.2") (Ok ((comparator gte 1 2 18446744073709551615 [] ∷ comparator lt 1 3 0 [] ∷ []) ∷ []))
    ∷ row both (bytes "18446744073709551616 - *") panicked
    ∷ row both (bytes "18446744073709551616 - 1.2.3") panicked
    ∷ row both (32 ∷ 62 ∷ 61 ∷ 48 ∷ 46 ∷ 42 ∷ 46 ∷ 88 ∷ 43 ∷ 45 ∷ 120 ∷ 65533 ∷ 46 ∷ 120 ∷ 57 ∷ 65 ∷ 9 ∷ []) Err
    ∷ row both (88 ∷ 46 ∷ 49 ∷ 52 ∷ 46 ∷ 57 ∷ 53 ∷ 50 ∷ 53 ∷ 54 ∷ 57 ∷ 32 ∷ 45 ∷ 9 ∷ 32 ∷ 32 ∷ 49 ∷ 48 ∷ 46 ∷ 50 ∷ 46 ∷ 120 ∷ []) (Ok ((comparator lt 10 3 0 [] ∷ []) ∷ []))
    ∷ row both (126 ∷ 62 ∷ 9 ∷ 32 ∷ 32 ∷ 32 ∷ 32 ∷ 48 ∷ 46 ∷ 51 ∷ 46 ∷ 50 ∷ 57 ∷ 45 ∷ 114 ∷ 99 ∷ 97 ∷ 122 ∷ 32 ∷ 32 ∷ 32 ∷ 32 ∷ 9 ∷ []) (Ok ((comparator gte 0 3 29 (text 0 (bytes "rcaz") ∷ []) ∷ comparator lt 0 4 0 [] ∷ []) ∷ []))
    ∷ row both (9 ∷ 49 ∷ 50 ∷ 46 ∷ 49 ∷ 57 ∷ 32 ∷ 45 ∷ 9 ∷ 9 ∷ 52 ∷ 46 ∷ 50 ∷ 52 ∷ 46 ∷ 48 ∷ 43 ∷ 120 ∷ 120 ∷ 46 ∷ 50 ∷ 49 ∷ 57 ∷ 32 ∷ 45 ∷ 9 ∷ 9 ∷ 52 ∷ 46 ∷ 50 ∷ 52 ∷ 46 ∷ 48 ∷ 43 ∷ 120 ∷ 120 ∷ 46 ∷ 50 ∷ 49 ∷ []) Err
    ∷ row both (62 ∷ 61 ∷ 48 ∷ 46 ∷ 48 ∷ 46 ∷ 50 ∷ 128 ∷ 44 ∷ 233 ∷ 9 ∷ 60 ∷ 61 ∷ 48 ∷ 46 ∷ 54 ∷ []) Err
    ∷ row both (bytes "=1.,2a.16-a-") Err
    ∷ row both (9 ∷ 57 ∷ 32 ∷ 32 ∷ 9 ∷ 9 ∷ 62 ∷ 88 ∷ 46 ∷ 54 ∷ 46 ∷ 48 ∷ 45 ∷ 98 ∷ 122 ∷ 57 ∷ 44 ∷ 32 ∷ 9 ∷ 60 ∷ 61 ∷ 32 ∷ 32 ∷ 52 ∷ 57 ∷ 53 ∷ 52 ∷ 55 ∷ 55 ∷ 46 ∷ 48 ∷ 48 ∷ []) Err
    ∷ row both (60 ∷ 61 ∷ 32 ∷ 32 ∷ 94 ∷ 50 ∷ 57 ∷ 46 ∷ 50 ∷ 56 ∷ 46 ∷ 48 ∷ 45 ∷ 49 ∷ 49 ∷ 32 ∷ 9 ∷ 32 ∷ 32 ∷ 9 ∷ []) Err
    ∷ row both (9 ∷ 32 ∷ 48 ∷ 46 ∷ 50 ∷ 49 ∷ 44 ∷ 32 ∷ 9 ∷ 32 ∷ 32 ∷ 32 ∷ 32 ∷ 60 ∷ 9 ∷ 32 ∷ 49 ∷ 50 ∷ 32 ∷ 32 ∷ []) (Ok ((comparator gte 0 21 0 [] ∷ comparator lt 0 22 0 [] ∷ comparator lt 12 0 0 [] ∷ []) ∷ []))
    ∷ row both (32 ∷ 9 ∷ 126 ∷ 49 ∷ 51 ∷ 46 ∷ 48 ∷ 48 ∷ 32 ∷ 126 ∷ 50 ∷ 51 ∷ 46 ∷ 49 ∷ 56 ∷ 46 ∷ 48 ∷ 60 ∷ 32 ∷ 32 ∷ []) Err
    ∷ row both (32 ∷ 9 ∷ 60 ∷ 61 ∷ 49 ∷ 56 ∷ 9 ∷ 9 ∷ 57 ∷ 46 ∷ 55 ∷ 9 ∷ 9 ∷ []) (Ok ((comparator lt 19 0 0 [] ∷ comparator gte 9 7 0 [] ∷ comparator lt 9 8 0 [] ∷ []) ∷ []))
    ∷ row both (126 ∷ 62 ∷ 50 ∷ 54 ∷ 46 ∷ 48 ∷ 46 ∷ 55 ∷ 45 ∷ 97 ∷ 9 ∷ 32 ∷ 32 ∷ 9 ∷ 9 ∷ []) (Ok ((comparator gte 26 0 7 (text 0 (bytes "a") ∷ []) ∷ comparator lt 26 1 0 [] ∷ []) ∷ []))
    ∷ row both (9 ∷ 49 ∷ 48 ∷ 46 ∷ 48 ∷ 46 ∷ 48 ∷ 9 ∷ 32 ∷ 45 ∷ 9 ∷ 49 ∷ 56 ∷ 52 ∷ 52 ∷ 54 ∷ 55 ∷ 52 ∷ 52 ∷ 48 ∷ 55 ∷ 51 ∷ 55 ∷ 48 ∷ 57 ∷ 53 ∷ 53 ∷ 49 ∷ 54 ∷ 49 ∷ 55 ∷ 46 ∷ 56 ∷ []) panicked
    ∷ row (Cargo ∷ []) (bytes " 16.15.0--aaz") (Ok ((comparator gte 16 15 0 (text 0 (bytes "-aaz") ∷ []) ∷ comparator lt 17 0 0 [] ∷ []) ∷ []))
    ∷ row (Npm ∷ []) (bytes " 16.15.0--aaz") (Ok ((comparator eq 16 15 0 (text 0 (bytes "-aaz") ∷ []) ∷ []) ∷ []))
    ∷ row both (126 ∷ 32 ∷ 49 ∷ 54 ∷ 46 ∷ 51 ∷ 46 ∷ 88 ∷ 32 ∷ 32 ∷ 32 ∷ 32 ∷ 9 ∷ []) (Ok ((comparator gte 16 3 0 [] ∷ comparator lt 16 4 0 [] ∷ []) ∷ []))
    ∷ row both (bytes "=5.0D.17-4.ax-90.v10a:-9  ") Err
    ∷ row both (32 ∷ 32 ∷ 32 ∷ 32 ∷ 32 ∷ 49 ∷ 48 ∷ 32 ∷ 45 ∷ 32 ∷ 51 ∷ 46 ∷ 55 ∷ 9 ∷ 32 ∷ []) (Ok ((comparator gte 10 0 0 [] ∷ comparator lt 3 8 0 [] ∷ []) ∷ []))
    ∷ row both (32 ∷ 9 ∷ 9 ∷ 32 ∷ 32 ∷ 94 ∷ 42 ∷ 46 ∷ 50 ∷ 51 ∷ 46 ∷ 51 ∷ 45 ∷ 65290 ∷ 90 ∷ 46 ∷ 88 ∷ 124 ∷ 124 ∷ 9 ∷ 50 ∷ 49 ∷ 32 ∷ 65279 ∷ 32 ∷ 233 ∷ 45 ∷ 32 ∷ 32 ∷ 48 ∷ 46 ∷ 49 ∷ 49 ∷ 46 ∷ 55 ∷ []) Err
    ∷ row both (50 ∷ 53 ∷ 46 ∷ 88 ∷ 46 ∷ 42 ∷ 32 ∷ 124 ∷ 124 ∷ 126 ∷ 62 ∷ 32 ∷ 9 ∷ 32 ∷ 9 ∷ 32 ∷ 49 ∷ 54 ∷ 46 ∷ 53 ∷ 46 ∷ 88 ∷ []) (Ok ((comparator gte 25 0 0 [] ∷ comparator lt 26 0 0 [] ∷ []) ∷ (comparator gte 16 5 0 [] ∷ comparator lt 16 6 0 [] ∷ []) ∷ []))
    ∷ row both (49 ∷ 54 ∷ 46 ∷ 49 ∷ 48 ∷ 160 ∷ 46 ∷ 120 ∷ 43 ∷ 50 ∷ 53 ∷ 128 ∷ 9 ∷ 9 ∷ []) Err
    ∷ row both (32 ∷ 32 ∷ 32 ∷ 32 ∷ 32 ∷ 60 ∷ 51 ∷ 52 ∷ 50 ∷ 56 ∷ 51 ∷ 56 ∷ 53 ∷ 46 ∷ 127 ∷ 48 ∷ 46 ∷ 48 ∷ 48 ∷ 46 ∷ 48 ∷ []) Err
    ∷ row both (62 ∷ 49 ∷ 54 ∷ 48 ∷ 50 ∷ 57 ∷ 46 ∷ 48 ∷ 45 ∷ 88 ∷ 57 ∷ 122 ∷ 46 ∷ 45 ∷ 9 ∷ []) Err
    ∷ row both (65297 ∷ 9 ∷ 61 ∷ 9 ∷ 49 ∷ 56 ∷ 46 ∷ 49 ∷ 48 ∷ 46 ∷ 49 ∷ 55 ∷ 9 ∷ 32 ∷ 9 ∷ 42 ∷ 46 ∷ 54 ∷ 46 ∷ 48 ∷ 32 ∷ 9 ∷ []) Err
    ∷ row both (32 ∷ 62 ∷ 32 ∷ 32 ∷ 120 ∷ 9 ∷ 9 ∷ []) (Ok ((comparator lt 0 0 0 [] ∷ []) ∷ []))
    ∷ row both (32 ∷ 62 ∷ 61 ∷ 32 ∷ 53 ∷ 46 ∷ 50 ∷ 32 ∷ 32 ∷ 62 ∷ 61 ∷ 9 ∷ 49 ∷ 56 ∷ 46 ∷ 49 ∷ 53 ∷ 46 ∷ 50 ∷ 51 ∷ 43 ∷ 45 ∷ 65 ∷ 32 ∷ 9 ∷ 32 ∷ 32 ∷ 32 ∷ 124 ∷ 124 ∷ 32 ∷ 61 ∷ 32 ∷ 54 ∷ 46 ∷ 42 ∷ 9 ∷ []) (Ok ((comparator gte 5 2 0 [] ∷ comparator gte 18 15 23 (text 0 (bytes "-A") ∷ []) ∷ []) ∷ (comparator gte 6 0 0 [] ∷ comparator lt 7 0 0 [] ∷ []) ∷ []))
    ∷ row both (32 ∷ 32 ∷ 50 ∷ 53 ∷ 46 ∷ 57 ∷ 65533 ∷ 32 ∷ 9 ∷ 9 ∷ 32 ∷ 9 ∷ 9 ∷ 45 ∷ 9 ∷ 32 ∷ 9 ∷ 56 ∷ 46 ∷ 48 ∷ 46 ∷ 49 ∷ 32 ∷ 32 ∷ []) Err
    ∷ row both (126 ∷ 62 ∷ 62 ∷ 32 ∷ 9 ∷ 32 ∷ []) Err
    ∷ row both (50 ∷ 9 ∷ 46 ∷ 50 ∷ 55 ∷ 46 ∷ 42 ∷ 45 ∷ []) Err
    ∷ row both (9 ∷ 32 ∷ 126 ∷ 9 ∷ 32 ∷ 48 ∷ 46 ∷ 120 ∷ 44 ∷ 32 ∷ 126 ∷ 62 ∷ 9 ∷ 49 ∷ 55 ∷ 32 ∷ 9 ∷ 32 ∷ 62 ∷ 88 ∷ 9 ∷ 126 ∷ 32 ∷ 32 ∷ 32 ∷ 32 ∷ 9 ∷ 49 ∷ 56 ∷ 32 ∷ 60 ∷ 48 ∷ 32 ∷ 32 ∷ []) (Ok ((comparator gte 0 0 0 [] ∷ comparator lt 1 0 0 [] ∷ comparator gte 17 0 0 [] ∷ comparator lt 18 0 0 [] ∷ comparator lt 0 0 0 [] ∷ comparator gte 18 0 0 [] ∷ comparator lt 19 0 0 [] ∷ comparator lt 0 0 0 [] ∷ []) ∷ []))
    ∷ row both (9 ∷ 32 ∷ 9 ∷ 9 ∷ 9 ∷ 50 ∷ 46 ∷ 49 ∷ 54 ∷ 9 ∷ 45 ∷ 32 ∷ 9 ∷ 50 ∷ 53 ∷ 46 ∷ 42 ∷ 32 ∷ []) (Ok ((comparator gte 2 16 0 [] ∷ comparator lt 26 0 0 [] ∷ []) ∷ []))
    ∷ row both (bytes "^ 19") (Ok ((comparator gte 19 0 0 [] ∷ comparator lt 20 0 0 [] ∷ []) ∷ []))
    ∷ row both (62 ∷ 9 ∷ 9 ∷ 10 ∷ 9 ∷ 10 ∷ []) Err
    ∷ row both (9 ∷ 120 ∷ 127 ∷ 9 ∷ 32 ∷ 32 ∷ 32 ∷ []) Err
    ∷ row (Cargo ∷ []) (48 ∷ 124 ∷ 124 ∷ 9 ∷ 50 ∷ 46 ∷ 48 ∷ 46 ∷ 51 ∷ 9 ∷ 50 ∷ 53 ∷ 9 ∷ 32 ∷ 62 ∷ 61 ∷ 9 ∷ 9 ∷ 32 ∷ 9 ∷ 9 ∷ 49 ∷ 56 ∷ 46 ∷ 48 ∷ 46 ∷ 57 ∷ 45 ∷ 88 ∷ 65 ∷ 122 ∷ 44 ∷ 32 ∷ 61 ∷ 9 ∷ 48 ∷ []) (Ok ((comparator gte 0 0 0 [] ∷ comparator lt 1 0 0 [] ∷ []) ∷ (comparator gte 2 0 3 [] ∷ comparator lt 3 0 0 [] ∷ comparator gte 25 0 0 [] ∷ comparator lt 26 0 0 [] ∷ comparator gte 18 0 9 (text 0 (bytes "XAz") ∷ []) ∷ comparator gte 0 0 0 [] ∷ comparator lt 1 0 0 [] ∷ []) ∷ []))
    ∷ row (Npm ∷ []) (48 ∷ 124 ∷ 124 ∷ 9 ∷ 50 ∷ 46 ∷ 48 ∷ 46 ∷ 51 ∷ 9 ∷ 50 ∷ 53 ∷ 9 ∷ 32 ∷ 62 ∷ 61 ∷ 9 ∷ 9 ∷ 32 ∷ 9 ∷ 9 ∷ 49 ∷ 56 ∷ 46 ∷ 48 ∷ 46 ∷ 57 ∷ 45 ∷ 88 ∷ 65 ∷ 122 ∷ 44 ∷ 32 ∷ 61 ∷ 9 ∷ 48 ∷ []) (Ok ((comparator gte 0 0 0 [] ∷ comparator lt 1 0 0 [] ∷ []) ∷ (comparator eq 2 0 3 [] ∷ comparator gte 25 0 0 [] ∷ comparator lt 26 0 0 [] ∷ comparator gte 18 0 9 (text 0 (bytes "XAz") ∷ []) ∷ comparator gte 0 0 0 [] ∷ comparator lt 1 0 0 [] ∷ []) ∷ []))
    ∷ row both (bytes " ~ 29||,||,") Err
    ∷ row both (bytes "~11,~13.x.0-13") Err
    ∷ row both (49 ∷ 55 ∷ 32 ∷ 9 ∷ 32 ∷ 45 ∷ 32 ∷ 48 ∷ 46 ∷ 51 ∷ 46 ∷ 48 ∷ 32 ∷ []) (Ok ((comparator gte 17 0 0 [] ∷ comparator lte 0 3 0 [] ∷ []) ∷ []))
    ∷ row both (94 ∷ 9 ∷ 9 ∷ 9 ∷ 32 ∷ 9 ∷ 49 ∷ 56 ∷ 32 ∷ 32 ∷ 126 ∷ 56 ∷ 46 ∷ 57 ∷ 46 ∷ 120 ∷ 43 ∷ 49 ∷ 49 ∷ 44 ∷ 32 ∷ 32 ∷ 9 ∷ 62 ∷ 61 ∷ 56 ∷ 46 ∷ 48 ∷ 46 ∷ 56 ∷ 45 ∷ 53 ∷ 46 ∷ 98 ∷ 48 ∷ 32 ∷ 49 ∷ []) (Ok ((comparator gte 18 0 0 [] ∷ comparator lt 19 0 0 [] ∷ comparator gte 8 9 0 [] ∷ comparator lt 8 10 0 [] ∷ comparator gte 8 0 8 (number 5 ∷ text 0 (bytes "b0") ∷ []) ∷ comparator gte 1 0 0 [] ∷ comparator lt 2 0 0 [] ∷ []) ∷ []))
    ∷ row both (9 ∷ 53 ∷ []) (Ok ((comparator gte 5 0 0 [] ∷ comparator lt 6 0 0 [] ∷ []) ∷ []))
    ∷ row both (32 ∷ 61 ∷ 49 ∷ 53 ∷ 46 ∷ 50 ∷ 32 ∷ 126 ∷ 65297 ∷ 62 ∷ 32 ∷ 32 ∷ 48 ∷ 46 ∷ 49 ∷ 57 ∷ 46 ∷ 49 ∷ 52 ∷ 45 ∷ 88 ∷ 32 ∷ []) Err
    ∷ row both (126 ∷ 48 ∷ 46 ∷ 49 ∷ 56 ∷ 46 ∷ 49 ∷ 56 ∷ 45 ∷ 120 ∷ 57 ∷ 45 ∷ 65 ∷ 44 ∷ 9 ∷ 60 ∷ 49 ∷ 53 ∷ 46 ∷ 50 ∷ 56 ∷ 46 ∷ 50 ∷ 54 ∷ 45 ∷ 90 ∷ 44 ∷ 32 ∷ 32 ∷ 60 ∷ 61 ∷ 54 ∷ 9 ∷ 94 ∷ 48 ∷ 46 ∷ 48 ∷ 32 ∷ []) (Ok ((comparator gte 0 18 18 (text 0 (bytes "x9-A") ∷ []) ∷ comparator lt 0 19 0 [] ∷ comparator lt 15 28 26 (text 0 (bytes "Z") ∷ []) ∷ comparator lt 7 0 0 [] ∷ comparator gte 0 0 0 [] ∷ comparator lt 0 1 0 [] ∷ []) ∷ []))
    ∷ row both (60 ∷ 61 ∷ 32 ∷ 9 ∷ 9 ∷ 32 ∷ 9 ∷ 42 ∷ 46 ∷ 49 ∷ 54 ∷ 46 ∷ 54 ∷ 43 ∷ 98 ∷ 32 ∷ 61 ∷ 48 ∷ 46 ∷ 48 ∷ 46 ∷ 50 ∷ 53 ∷ 45 ∷ 49 ∷ 53 ∷ 122 ∷ []) Err
    ∷ row both (32 ∷ 32 ∷ 32 ∷ 9 ∷ 32 ∷ 62 ∷ 61 ∷ 32 ∷ 49 ∷ 50 ∷ 46 ∷ 49 ∷ 48 ∷ 46 ∷ []) Err
    ∷ row both (62 ∷ 32 ∷ 32 ∷ 32 ∷ 9 ∷ 32 ∷ 8195 ∷ 57 ∷ 9 ∷ 160 ∷ 60 ∷ 32 ∷ 32 ∷ 9 ∷ 32 ∷ 120793 ∷ 32 ∷ 48 ∷ 32 ∷ 9 ∷ 61 ∷ 48 ∷ 46 ∷ 120 ∷ 46 ∷ 49 ∷ 56 ∷ 43 ∷ 98 ∷ 32 ∷ []) Err
    ∷ row both (62 ∷ 61 ∷ 32 ∷ 32 ∷ 9 ∷ 9 ∷ 9 ∷ 42 ∷ 46 ∷ 50 ∷ 48 ∷ 46 ∷ 50 ∷ 54 ∷ []) (Ok ((comparator gte 0 0 0 [] ∷ []) ∷ []))
    ∷ row both (32 ∷ 9 ∷ 62 ∷ 32 ∷ 9 ∷ 32 ∷ 32 ∷ 32 ∷ 54 ∷ 46 ∷ 57 ∷ 46 ∷ 51 ∷ 32 ∷ 60 ∷ 57 ∷ 46 ∷ 48 ∷ 46 ∷ 48 ∷ 43 ∷ 50 ∷ 50 ∷ 124 ∷ 124 ∷ 32 ∷ 126 ∷ 62 ∷ 50 ∷ 50 ∷ []) (Ok ((comparator gt 6 9 3 [] ∷ comparator lt 9 0 0 (number 22 ∷ []) ∷ []) ∷ (comparator gte 22 0 0 [] ∷ comparator lt 23 0 0 [] ∷ []) ∷ []))
    ∷ row both (9 ∷ 94 ∷ 9 ∷ 48 ∷ 46 ∷ 48 ∷ 46 ∷ 57 ∷ 50 ∷ 51 ∷ 50 ∷ 53 ∷ 56 ∷ 32 ∷ []) (Ok ((comparator gte 0 0 923258 [] ∷ comparator lt 0 0 923259 [] ∷ []) ∷ []))
    ∷ row both (bytes "18446744073709551615.27.x-X") (Ok ((comparator gte 18446744073709551615 27 0 [] ∷ comparator lt 18446744073709551615 28 0 [] ∷ []) ∷ []))
    ∷ row both (60 ∷ 57 ∷ 46 ∷ 49 ∷ 54 ∷ 46 ∷ 49 ∷ 52 ∷ 45 ∷ 114 ∷ 99 ∷ 9 ∷ 61 ∷ 49 ∷ 55 ∷ 32 ∷ []) (Ok ((comparator lt 9 16 14 (text 0 (bytes "rc") ∷ []) ∷ comparator gte 17 0 0 [] ∷ comparator lt 18 0 0 [] ∷ []) ∷ []))
    ∷ row both (32 ∷ 32 ∷ 49 ∷ 53 ∷ 46 ∷ 54 ∷ 46 ∷ 48 ∷ 45 ∷ 88 ∷ 65 ∷ 57 ∷ 46 ∷ 49 ∷ 50 ∷ 9 ∷ 9 ∷ 45 ∷ 32 ∷ 32 ∷ 58 ∷ 50 ∷ 54 ∷ 42 ∷ 120 ∷ 46 ∷ 88 ∷ 43 ∷ 50 ∷ 52 ∷ 124 ∷ 124 ∷ 9 ∷ 126 ∷ 62 ∷ 52 ∷ 46 ∷ 49 ∷ 53 ∷ 46 ∷ []) Err
    ∷ row both (32 ∷ 32 ∷ 62 ∷ 61 ∷ 32 ∷ 32 ∷ 55 ∷ 46 ∷ 54 ∷ 46 ∷ 43 ∷ 49 ∷ 56 ∷ 44 ∷ 9 ∷ 32 ∷ 127 ∷ 94 ∷ 9 ∷ 32 ∷ 48 ∷ []) Err
    ∷ row both (32 ∷ 32 ∷ 62 ∷ 61 ∷ 32 ∷ 9 ∷ 32 ∷ 9 ∷ 9 ∷ 55 ∷ 46 ∷ 49 ∷ 52 ∷ 9 ∷ 32 ∷ 126 ∷ 49 ∷ 54 ∷ 46 ∷ 54 ∷ 46 ∷ 65290 ∷ 50 ∷ 48 ∷ 45 ∷ 90 ∷ 45 ∷ 32 ∷ 32 ∷ 32 ∷ 32 ∷ 32 ∷ 65290 ∷ []) Err
    ∷ row both (9 ∷ 1633 ∷ 48 ∷ 46 ∷ 49 ∷ 50 ∷ 46 ∷ 48 ∷ 8195 ∷ 9 ∷ 45 ∷ 32 ∷ 48 ∷ 46 ∷ 48 ∷ 46 ∷ 50 ∷ 50 ∷ 43 ∷ 114 ∷ 99 ∷ 48 ∷ 65 ∷ []) Err
    ∷ row both (126 ∷ 9 ∷ 56 ∷ 94 ∷ 46 ∷ 48 ∷ 9 ∷ []) Err
    ∷ row both (60 ∷ 55 ∷ 46 ∷ 57 ∷ 46 ∷ 48 ∷ 32 ∷ 9 ∷ 32 ∷ 32 ∷ 32 ∷ 32 ∷ 62 ∷ 61 ∷ 32 ∷ 9 ∷ 9 ∷ 32 ∷ 9 ∷ 54 ∷ 46 ∷ 48 ∷ 46 ∷ 49 ∷ 53 ∷ 45 ∷ 120 ∷ 32 ∷ 32 ∷ 32 ∷ 32 ∷ 32 ∷ 32 ∷ 48 ∷ []) (Ok ((comparator lt 7 9 0 [] ∷ comparator gte 6 0 15 (text 0 (bytes "x") ∷ []) ∷ comparator gte 0 0 0 [] ∷ comparator lt 1 0 0 [] ∷ []) ∷ []))
    ∷ row both (32 ∷ 32 ∷ 126 ∷ 48 ∷ 124 ∷ 124 ∷ 51 ∷ 46 ∷ 55 ∷ 32 ∷ 126 ∷ 62 ∷ 9 ∷ 9 ∷ 118 ∷ 50 ∷ 46 ∷ 46 ∷ 47 ∷ 49 ∷ []) Err
    ∷ row (Cargo ∷ []) (62 ∷ 61 ∷ 9 ∷ 48 ∷ 46 ∷ 52 ∷ 46 ∷ 50 ∷ 57 ∷ 45 ∷ 98 ∷ 44 ∷ 9 ∷ 50 ∷ 51 ∷ 46 ∷ 50 ∷ 49 ∷ 46 ∷ 55 ∷ []) (Ok ((comparator gte 0 4 29 (text 0 (bytes "b") ∷ []) ∷ comparator gte 23 21 7 [] ∷ comparator lt 24 0 0 [] ∷ []) ∷ []))
    ∷ row (Npm ∷ []) (62 ∷ 61 ∷ 9 ∷ 48 ∷ 46 ∷ 52 ∷ 46 ∷ 50 ∷ 57 ∷ 45 ∷ 98 ∷ 44 ∷ 9 ∷ 50 ∷ 51 ∷ 46 ∷ 50 ∷ 49 ∷ 46 ∷ 55 ∷ []) (Ok ((comparator gte 0 4 29 (text 0 (bytes "b") ∷ []) ∷ comparator eq 23 21 7 [] ∷ []) ∷ []))
    ∷ row both (32 ∷ 32 ∷ 9 ∷ 32 ∷ 126 ∷ 32 ∷ 48 ∷ 46 ∷ 48 ∷ 46 ∷ 50 ∷ 45 ∷ 49 ∷ 50 ∷ 46 ∷ 53 ∷ []) (Ok ((comparator gte 0 0 2 (number 12 ∷ number 5 ∷ []) ∷ comparator lt 0 1 0 [] ∷ []) ∷ []))
    ∷ row both (60 ∷ 88 ∷ 46 ∷ 54 ∷ 44 ∷ 32 ∷ 32 ∷ 9 ∷ 9 ∷ 32 ∷ 32 ∷ 126 ∷ 62 ∷ 88 ∷ 46 ∷ 54 ∷ 44 ∷ 32 ∷ 32 ∷ 9 ∷ 9 ∷ 32 ∷ 32 ∷ 126 ∷ 62 ∷ []) Err
    ∷ row both (9 ∷ 48 ∷ 9 ∷ 62 ∷ 50 ∷ 51 ∷ 46 ∷ 48 ∷ 46 ∷ 50 ∷ 53 ∷ 98 ∷ 57 ∷ 57 ∷ 122 ∷ 57 ∷ 65 ∷ 45 ∷ 48 ∷ 32 ∷ []) Err
    ∷ row both (9 ∷ 94 ∷ 9 ∷ 50 ∷ 56 ∷ 46 ∷ 48 ∷ 32 ∷ 9 ∷ 61 ∷ 32 ∷ 50 ∷ 52 ∷ 46 ∷ 53 ∷ 46 ∷ 48 ∷ 43 ∷ 88 ∷ 44 ∷ 32 ∷ 62 ∷ 61 ∷ 49 ∷ 54 ∷ 50 ∷ 51 ∷ 55 ∷ 53 ∷ 56 ∷ 57 ∷ 56 ∷ 49 ∷ 53 ∷ 53 ∷ 57 ∷ 50 ∷ 57 ∷ 54 ∷ 48 ∷ []) (Ok ((comparator gte 28 0 0 [] ∷ comparator lt 29 0 0 [] ∷ comparator eq 24 5 0 (text 0 (bytes "X") ∷ []) ∷ comparator gte 16237589815592960 0 0 [] ∷ []) ∷ []))
    ∷ row both (60 ∷ 9 ∷ 32 ∷ 32 ∷ 32 ∷ 32 ∷ 49 ∷ 51 ∷ 46 ∷ 48 ∷ 46 ∷ 48 ∷ 44 ∷ 32 ∷ 60 ∷ 61 ∷ 50 ∷ 54 ∷ 46 ∷ 50 ∷ 53 ∷ 46 ∷ 57 ∷ 44 ∷ 9 ∷ 9 ∷ 9 ∷ 60 ∷ 61 ∷ 9 ∷ 49 ∷ 56 ∷ 46 ∷ 50 ∷ 55 ∷ 46 ∷ 48 ∷ 32 ∷ []) (Ok ((comparator lt 13 0 0 [] ∷ comparator lte 26 25 9 [] ∷ comparator lte 18 27 0 [] ∷ []) ∷ []))
    ∷ row both (bytes "  >=248676343953=0") Err
    ∷ row both (9 ∷ 62 ∷ 9 ∷ 32 ∷ 50 ∷ 52 ∷ 46 ∷ 120 ∷ 46 ∷ 50 ∷ 52 ∷ 32 ∷ 48 ∷ []) (Ok ((comparator gt 24 0 0 [] ∷ comparator gte 0 0 0 [] ∷ comparator lt 1 0 0 [] ∷ []) ∷ []))
    ∷ row both (32 ∷ 62 ∷ 61 ∷ 32 ∷ 32 ∷ 9 ∷ 9 ∷ 32 ∷ 56 ∷ 46 ∷ 42 ∷ 46 ∷ 48 ∷ 44 ∷ 32 ∷ 9 ∷ 62 ∷ 9 ∷ 50 ∷ 32 ∷ []) (Ok ((comparator gte 8 0 0 [] ∷ comparator gt 2 0 0 [] ∷ []) ∷ []))
    ∷ row both (126 ∷ 62 ∷ 50 ∷ 9 ∷ []) (Ok ((comparator gte 2 0 0 [] ∷ comparator lt 3 0 0 [] ∷ []) ∷ []))
    ∷ row both (32 ∷ 9 ∷ 32 ∷ 32 ∷ 9 ∷ 94 ∷ 48 ∷ 46 ∷ 49 ∷ 54 ∷ 46 ∷ 55 ∷ 43 ∷ 120 ∷ 46 ∷ 49 ∷ 53 ∷ 124 ∷ 124 ∷ 9 ∷ 126 ∷ 62 ∷ 50 ∷ 54 ∷ 46 ∷ 55 ∷ 46 ∷ 88 ∷ []) (Ok ((comparator gte 0 16 7 (text 0 (bytes "x") ∷ number 15 ∷ []) ∷ comparator lt 0 17 0 [] ∷ []) ∷ (comparator gte 26 7 0 [] ∷ comparator lt 26 8 0 [] ∷ []) ∷ []))
    ∷ row both (bytes "12.0 ") (Ok ((comparator gte 12 0 0 [] ∷ comparator lt 12 1 0 [] ∷ []) ∷ []))
    ∷ row both (32 ∷ 32 ∷ 9 ∷ 32 ∷ 32 ∷ 60 ∷ 49 ∷ 57 ∷ 46 ∷ 49 ∷ 55 ∷ 46 ∷ 53 ∷ 45 ∷ 118 ∷ 49 ∷ 32 ∷ 94 ∷ 46 ∷ 53 ∷ 45 ∷ 118 ∷ 49 ∷ 32 ∷ 94 ∷ []) Err
    ∷ row both (bytes "~14.26.0-18 <=5.5.4") (Ok ((comparator gte 14 26 0 (number 18 ∷ []) ∷ comparator lt 14 27 0 [] ∷ comparator lte 5 5 4 [] ∷ []) ∷ []))
    ∷ row both (32 ∷ 32 ∷ 124 ∷ 124 ∷ 9 ∷ 32 ∷ 9 ∷ 32 ∷ 32 ∷ 61 ∷ 9 ∷ 32 ∷ 56 ∷ 46 ∷ 49 ∷ 57 ∷ 46 ∷ 50 ∷ 57 ∷ []) (Ok ((comparator gte 0 0 0 [] ∷ []) ∷ (comparator eq 8 19 29 [] ∷ []) ∷ []))
    ∷ row both (9 ∷ 126 ∷ 62 ∷ 48 ∷ 46 ∷ 48 ∷ 32 ∷ 124 ∷ 62 ∷ 61 ∷ 9 ∷ 56 ∷ 46 ∷ 50 ∷ 52 ∷ 46 ∷ 50 ∷ 52 ∷ 45 ∷ 48 ∷ 46 ∷ 97 ∷ 120 ∷ 46 ∷ 48 ∷ 32 ∷ []) Err
    ∷ row both (9 ∷ 50 ∷ 50 ∷ 44 ∷ 32 ∷ 61 ∷ 57 ∷ 124 ∷ 124 ∷ 48 ∷ 9 ∷ 45 ∷ 32 ∷ 49 ∷ 57 ∷ 46 ∷ 53 ∷ 46 ∷ 49 ∷ 54 ∷ []) (Ok ((comparator gte 22 0 0 [] ∷ comparator lt 23 0 0 [] ∷ comparator gte 9 0 0 [] ∷ comparator lt 10 0 0 [] ∷ []) ∷ (comparator gte 0 0 0 [] ∷ comparator lte 19 5 16 [] ∷ []) ∷ []))
    ∷ row both (62 ∷ 61 ∷ 9 ∷ 50 ∷ 57 ∷ 46 ∷ 50 ∷ 50 ∷ 46 ∷ 50 ∷ 56 ∷ 45 ∷ 97 ∷ 32 ∷ 32 ∷ 94 ∷ 9 ∷ 32 ∷ 56 ∷ 46 ∷ 49 ∷ 52 ∷ 46 ∷ 42 ∷ 43 ∷ 50 ∷ 52 ∷ 32 ∷ 126 ∷ 62 ∷ 53 ∷ 46 ∷ 50 ∷ 55 ∷ 46 ∷ 48 ∷ 9 ∷ []) (Ok ((comparator gte 29 22 28 (text 0 (bytes "a") ∷ []) ∷ comparator gte 8 14 0 [] ∷ comparator lt 9 0 0 [] ∷ comparator gte 5 27 0 [] ∷ comparator lt 5 28 0 [] ∷ []) ∷ []))
    ∷ row both (32 ∷ 42 ∷ 46 ∷ 53 ∷ 46 ∷ 48 ∷ 44 ∷ 32 ∷ 32 ∷ 9 ∷ 9 ∷ 32 ∷ 32 ∷ 61 ∷ 51 ∷ 46 ∷ 57 ∷ 9 ∷ 9 ∷ []) (Ok ((comparator gte 0 0 0 [] ∷ comparator gte 3 9 0 [] ∷ comparator lt 3 10 0 [] ∷ []) ∷ []))
    ∷ row both (62 ∷ 61 ∷ 32 ∷ 32 ∷ 32 ∷ 9 ∷ 32 ∷ 48 ∷ 46 ∷ 57 ∷ 46 ∷ 48 ∷ 45 ∷ 45 ∷ 97 ∷ 32 ∷ []) (Ok ((comparator gte 0 9 0 (text 0 (bytes "-a") ∷ []) ∷ []) ∷ []))
    ∷ row both (32 ∷ 120 ∷ 46 ∷ 42 ∷ 32 ∷ 9 ∷ 32 ∷ 120 ∷ 46 ∷ 42 ∷ 32 ∷ 9 ∷ 9 ∷ 32 ∷ 120 ∷ 46 ∷ 42 ∷ 32 ∷ 9 ∷ []) (Ok ((comparator gte 0 0 0 [] ∷ comparator gte 0 0 0 [] ∷ comparator gte 0 0 0 [] ∷ []) ∷ []))
    ∷ row both (32 ∷ 32 ∷ 32 ∷ 32 ∷ 32 ∷ 62 ∷ 32 ∷ 32 ∷ 9 ∷ 32 ∷ 32 ∷ 42 ∷ 46 ∷ 52 ∷ 46 ∷ 48 ∷ 45 ∷ 88 ∷ 45 ∷ 32 ∷ 62 ∷ 61 ∷ 32 ∷ 49 ∷ 51 ∷ 46 ∷ 48 ∷ 46 ∷ 50 ∷ 54 ∷ 45 ∷ 98 ∷ 46 ∷ 120 ∷ 46 ∷ 114 ∷ 99 ∷ 46 ∷ 49 ∷ 51 ∷ []) (Ok ((comparator lt 0 0 0 [] ∷ comparator gte 13 0 26 (text 0 (bytes "b") ∷ text 0 (bytes "x") ∷ text 0 (bytes "rc") ∷ number 13 ∷ []) ∷ []) ∷ []))
    ∷ row both (49 ∷ 51 ∷ 46 ∷ 49 ∷ 49 ∷ 9 ∷ 45 ∷ 9 ∷ 32 ∷ 9 ∷ 32 ∷ 32 ∷ 9 ∷ 49 ∷ 49 ∷ 46 ∷ 48 ∷ 46 ∷ 50 ∷ 52 ∷ 32 ∷ 32 ∷ 9 ∷ 32 ∷ 9 ∷ []) (Ok ((comparator gte 13 11 0 [] ∷ comparator lte 11 0 24 [] ∷ []) ∷ []))
    ∷ row both (bytes "~ 0") (Ok ((comparator gte 0 0 0 [] ∷ comparator lt 1 0 0 [] ∷ []) ∷ []))
    ∷ row both (bytes "v|") Err
    ∷ row both (62 ∷ 61 ∷ 49 ∷ 56 ∷ 9 ∷ 32 ∷ 32 ∷ 32 ∷ 9 ∷ []) (Ok ((comparator gte 18 0 0 [] ∷ []) ∷ []))
    ∷ row both (32 ∷ 61 ∷ 32 ∷ 49 ∷ 48 ∷ 9 ∷ 32 ∷ 94 ∷ 9 ∷ 32 ∷ 32 ∷ 9 ∷ []) Err
    ∷ row both (160 ∷ 50 ∷ 52 ∷ 46 ∷ 48 ∷ 46 ∷ 49 ∷ 56 ∷ 32 ∷ 45 ∷ 32 ∷ 32 ∷ 50 ∷ 50 ∷ 46 ∷ 49 ∷ 55 ∷ 46 ∷ 48 ∷ 65290 ∷ 43 ∷ 90 ∷ 32 ∷ []) Err
    ∷ row both (32 ∷ 32 ∷ 9 ∷ 32 ∷ 32 ∷ 32 ∷ 124 ∷ 124 ∷ 65533 ∷ 48 ∷ 46 ∷ 42 ∷ 46 ∷ 50 ∷ 50 ∷ 32 ∷ 32 ∷ 45 ∷ 32 ∷ 50 ∷ 55 ∷ 46 ∷ 49 ∷ 53 ∷ 46 ∷ 48 ∷ 45 ∷ 48 ∷ 46 ∷ 114 ∷ 99 ∷ 120 ∷ 57 ∷ 46 ∷ 49 ∷ 55 ∷ []) Err
    ∷ row both (50 ∷ 0 ∷ 48 ∷ 46 ∷ 49 ∷ 54 ∷ 46 ∷ 49 ∷ 52 ∷ 45 ∷ 98 ∷ 48 ∷ 45 ∷ 45 ∷ 122 ∷ 46 ∷ 45 ∷ 32 ∷ 32 ∷ 94 ∷ 49 ∷ 55 ∷ 46 ∷ 48 ∷ 9 ∷ 32 ∷ 61 ∷ 9 ∷ 9 ∷ []) Err
    ∷ row both (bytes "  >= 23.0") (Ok ((comparator gte 23 0 0 [] ∷ []) ∷ []))
    ∷ row both (32 ∷ 9 ∷ 126 ∷ 62 ∷ 48 ∷ 46 ∷ 48 ∷ 32 ∷ 124 ∷ 124 ∷ 9 ∷ 60 ∷ 61 ∷ 9 ∷ 32 ∷ 48 ∷ 46 ∷ 48 ∷ []) (Ok ((comparator gte 0 0 0 [] ∷ comparator lt 0 1 0 [] ∷ []) ∷ (comparator lt 0 1 0 [] ∷ []) ∷ []))
    ∷ row both (32 ∷ 60 ∷ 61 ∷ 9 ∷ 9 ∷ 50 ∷ 57 ∷ 46 ∷ 48 ∷ 46 ∷ 48 ∷ []) (Ok ((comparator lte 29 0 0 [] ∷ []) ∷ []))
    ∷ row both (9 ∷ 94 ∷ 32 ∷ 9 ∷ 48 ∷ 32 ∷ 46 ∷ 32 ∷ []) Err
    ∷ row both (9 ∷ 62 ∷ 61 ∷ 9 ∷ 32 ∷ 32 ∷ 9 ∷ 32 ∷ 50 ∷ 48 ∷ 46 ∷ 88 ∷ 46 ∷ 50 ∷ 53 ∷ 45 ∷ 88 ∷ 32 ∷ 124 ∷ 124 ∷ 124 ∷ 124 ∷ 32 ∷ []) (Ok ((comparator gte 20 0 0 [] ∷ []) ∷ (comparator gte 0 0 0 [] ∷ []) ∷ (comparator gte 0 0 0 [] ∷ []) ∷ []))
    ∷ row both (bytes " >=0.*.X, 277") (Ok ((comparator gte 0 0 0 [] ∷ comparator gte 277 0 0 [] ∷ comparator lt 278 0 0 [] ∷ []) ∷ []))
    ∷ row both (32 ∷ 9 ∷ 9 ∷ 32 ∷ 9 ∷ 60 ∷ 61 ∷ 32 ∷ 32 ∷ 52 ∷ 9 ∷ 126 ∷ 62 ∷ 32 ∷ 49 ∷ 53 ∷ 46 ∷ 127 ∷ 46 ∷ 49 ∷ 48 ∷ 32 ∷ []) Err
    ∷ row both (62 ∷ 61 ∷ 32 ∷ 9 ∷ 32 ∷ 32 ∷ 32 ∷ 53 ∷ 46 ∷ 48 ∷ 44 ∷ 9 ∷ 126 ∷ 62 ∷ 32 ∷ 50 ∷ 53 ∷ 46 ∷ 42 ∷ 46 ∷ 48 ∷ 43 ∷ 97 ∷ 45 ∷ 45 ∷ 32 ∷ []) (Ok ((comparator gte 5 0 0 [] ∷ comparator gte 25 0 0 [] ∷ comparator lt 26 0 0 [] ∷ []) ∷ []))
    ∷ row both (32 ∷ 32 ∷ 65533 ∷ 32 ∷ 32 ∷ 32 ∷ 61 ∷ 46 ∷ 88 ∷ 46 ∷ 49 ∷ 43 ∷ 90 ∷ 122 ∷ 48 ∷ 57 ∷ 65 ∷ []) Err
    ∷ row both (bytes "1  14 >- 14   14  ") Err
    ∷ row both (49 ∷ 55 ∷ 46 ∷ 48 ∷ 118 ∷ 46 ∷ 50 ∷ 52 ∷ 43 ∷ 88 ∷ 32 ∷ 45 ∷ 45 ∷ 32 ∷ 32 ∷ 9 ∷ 120 ∷ 46 ∷ 49 ∷ 52 ∷ 46 ∷ []) Err
    ∷ row both (32 ∷ 9 ∷ 62 ∷ 61 ∷ 32 ∷ 32 ∷ 32 ∷ 32 ∷ 32 ∷ 48 ∷ 46 ∷ 55 ∷ 46 ∷ 48 ∷ 43 ∷ 98 ∷ []) (Ok ((comparator gte 0 7 0 (text 0 (bytes "b") ∷ []) ∷ []) ∷ []))
    ∷ row both (61 ∷ 42 ∷ 46 ∷ 50 ∷ 46 ∷ 50 ∷ 48 ∷ 43 ∷ 50 ∷ 53 ∷ 46 ∷ 48 ∷ 46 ∷ 50 ∷ 57 ∷ 9 ∷ 124 ∷ 124 ∷ 62 ∷ 9 ∷ 9 ∷ 32 ∷ 9 ∷ 32 ∷ 49 ∷ 54 ∷ 124 ∷ 124 ∷ 9 ∷ 32 ∷ 94 ∷ 88 ∷ 46 ∷ 49 ∷ 46 ∷ 49 ∷ 54 ∷ []) (Ok ((comparator gte 0 0 0 [] ∷ []) ∷ (comparator gt 16 0 0 [] ∷ []) ∷ (comparator gte 0 0 0 [] ∷ []) ∷ []))
    ∷ row both (48 ∷ 46 ∷ 48 ∷ 9 ∷ 32 ∷ 9 ∷ 9 ∷ 32 ∷ 32 ∷ 45 ∷ 50 ∷ 53 ∷ 46 ∷ 49 ∷ 51 ∷ []) Err
    ∷ row both (9 ∷ 94 ∷ 32 ∷ 9 ∷ 42 ∷ 46 ∷ 52 ∷ 46 ∷ 49 ∷ 53 ∷ 44 ∷ 9 ∷ 9 ∷ 32 ∷ 62 ∷ 61 ∷ 53 ∷ []) (Ok ((comparator gte 0 0 0 [] ∷ comparator gte 5 0 0 [] ∷ []) ∷ []))
    ∷ row both (94 ∷ 9 ∷ 50 ∷ 56 ∷ 46 ∷ 49 ∷ 51 ∷ 124 ∷ 124 ∷ 126 ∷ 62 ∷ 49 ∷ 53 ∷ 46 ∷ 49 ∷ 57 ∷ 9 ∷ 32 ∷ 60 ∷ 61 ∷ 57 ∷ 9 ∷ 46 ∷ 49 ∷ 51 ∷ 124 ∷ 124 ∷ 126 ∷ 62 ∷ 49 ∷ 94 ∷ 46 ∷ 49 ∷ 57 ∷ 9 ∷ 32 ∷ 60 ∷ 61 ∷ 57 ∷ 124 ∷ []) Err
    ∷ row both (32 ∷ 32 ∷ 9 ∷ 9 ∷ 0 ∷ 62 ∷ 9 ∷ 32 ∷ 32 ∷ 32 ∷ 9 ∷ 50 ∷ 46 ∷ 50 ∷ 48 ∷ 46 ∷ 50 ∷ 50 ∷ 9 ∷ []) Err
    ∷ row (Cargo ∷ []) (9 ∷ 50 ∷ 55 ∷ 46 ∷ 50 ∷ 56 ∷ 46 ∷ 50 ∷ 55 ∷ 32 ∷ []) (Ok ((comparator gte 27 28 27 [] ∷ comparator lt 28 0 0 [] ∷ []) ∷ []))
    ∷ row (Npm ∷ []) (9 ∷ 50 ∷ 55 ∷ 46 ∷ 50 ∷ 56 ∷ 46 ∷ 50 ∷ 55 ∷ 32 ∷ []) (Ok ((comparator eq 27 28 27 [] ∷ []) ∷ []))
    ∷ row both (32 ∷ 9 ∷ 32 ∷ 32 ∷ 9 ∷ 60 ∷ 61 ∷ 9 ∷ 32 ∷ 48 ∷ []) (Ok ((comparator lt 1 0 0 [] ∷ []) ∷ []))
    ∷ row both (60 ∷ 9 ∷ 55 ∷ 46 ∷ 50 ∷ 54 ∷ 32 ∷ 32 ∷ 9 ∷ 9 ∷ 32 ∷ 32 ∷ 60 ∷ 61 ∷ 49 ∷ 55 ∷ 46 ∷ 49 ∷ 54 ∷ 46 ∷ 48 ∷ 32 ∷ 126 ∷ 32 ∷ 32 ∷ []) Err
    ∷ row both (9 ∷ 32 ∷ 62 ∷ 61 ∷ 32 ∷ 9 ∷ 48 ∷ 46 ∷ 50 ∷ 49 ∷ 46 ∷ 48 ∷ 44 ∷ 32 ∷ 126 ∷ 56 ∷ 46 ∷ 55 ∷ 46 ∷ 50 ∷ 48 ∷ 45 ∷ 120 ∷ []) (Ok ((comparator gte 0 21 0 [] ∷ comparator gte 8 7 20 (text 0 (bytes "x") ∷ []) ∷ comparator lt 8 8 0 [] ∷ []) ∷ []))
    ∷ row both (9 ∷ 32 ∷ 9 ∷ 126 ∷ 32 ∷ 32 ∷ 60 ∷ 61 ∷ 49 ∷ []) Err
    ∷ row both (126 ∷ 32 ∷ 54 ∷ 9 ∷ 124 ∷ 124 ∷ 9 ∷ 32 ∷ 32 ∷ 32 ∷ 32 ∷ 88 ∷ 46 ∷ 49 ∷ 55 ∷ 32 ∷ 45 ∷ 9 ∷ 48 ∷ 46 ∷ 48 ∷ 46 ∷ 50 ∷ 53 ∷ 43 ∷ 120 ∷ 46 ∷ 48 ∷ []) (Ok ((comparator gte 6 0 0 [] ∷ comparator lt 7 0 0 [] ∷ []) ∷ (comparator lte 0 0 25 (text 0 (bytes "x") ∷ number 0 ∷ []) ∷ []) ∷ []))
    ∷ row both (32 ∷ 62 ∷ 61 ∷ 32 ∷ 32 ∷ 9 ∷ 32 ∷ 32 ∷ 48 ∷ 46 ∷ 50 ∷ 52 ∷ 46 ∷ 52 ∷ 9 ∷ 32 ∷ 32 ∷ 32 ∷ 32 ∷ 9 ∷ 60 ∷ 9 ∷ 50 ∷ 52 ∷ 46 ∷ 48 ∷ 46 ∷ 55 ∷ 45 ∷ 49 ∷ 55 ∷ 32 ∷ 9 ∷ []) (Ok ((comparator gte 0 24 4 [] ∷ comparator lt 24 0 7 (number 17 ∷ []) ∷ []) ∷ []))
    ∷ row both (32 ∷ 9 ∷ 32 ∷ 32 ∷ 32 ∷ 50 ∷ 56 ∷ 46 ∷ 48 ∷ 46 ∷ 49 ∷ 54 ∷ 9 ∷ 32 ∷ 32 ∷ 45 ∷ 32 ∷ 9 ∷ 50 ∷ 46 ∷ 48 ∷ 46 ∷ 50 ∷ 55 ∷ 43 ∷ 118 ∷ 49 ∷ 57 ∷ 9 ∷ []) (Ok ((comparator gte 28 0 16 [] ∷ comparator lte 2 0 27 (text 0 (bytes "v19") ∷ []) ∷ []) ∷ []))
    ∷ row both (32 ∷ 126 ∷ 62 ∷ 9 ∷ 49 ∷ 52 ∷ 97 ∷ 46 ∷ 50 ∷ 57 ∷ 46 ∷ 42 ∷ 43 ∷ 50 ∷ 52 ∷ 44 ∷ 9 ∷ 48 ∷ 48 ∷ 46 ∷ 49 ∷ []) Err
    ∷ row both (94 ∷ 52 ∷ 49 ∷ 52 ∷ 56 ∷ 55 ∷ 57 ∷ 56 ∷ 54 ∷ 53 ∷ 50 ∷ 50 ∷ 49 ∷ 56 ∷ 46 ∷ 52 ∷ 46 ∷ 50 ∷ 50 ∷ 43 ∷ 118 ∷ 49 ∷ 48 ∷ 46 ∷ 50 ∷ 49 ∷ 32 ∷ 32 ∷ 32 ∷ 60 ∷ 61 ∷ 32 ∷ 48 ∷ 46 ∷ 48 ∷ 9 ∷ 32 ∷ 32 ∷ 9 ∷ 32 ∷ []) (Ok ((comparator gte 4148798652218 4 22 (text 0 (bytes "v10") ∷ number 21 ∷ []) ∷ comparator lt 4148798652219 0 0 [] ∷ comparator lt 0 1 0 [] ∷ []) ∷ []))
    ∷ row both (bytes " >= 29") (Ok ((comparator gte 29 0 0 [] ∷ []) ∷ []))
    ∷ row both (32 ∷ 9 ∷ 32 ∷ 32 ∷ []) (Ok ((comparator gte 0 0 0 [] ∷ []) ∷ []))
    ∷ row both (94 ∷ 32 ∷ 9 ∷ 32 ∷ 9 ∷ 9 ∷ 48 ∷ 46 ∷ 50 ∷ 50 ∷ 46 ∷ 48 ∷ []) (Ok ((comparator gte 0 22 0 [] ∷ comparator lt 0 23 0 [] ∷ []) ∷ []))
    ∷ row both (9 ∷ 32 ∷ 9 ∷ 32 ∷ 9 ∷ []) (Ok ((comparator gte 0 0 0 [] ∷ []) ∷ []))
    ∷ row both (46 ∷ 49 ∷ 56 ∷ 46 ∷ 53 ∷ 43 ∷ 49 ∷ 52 ∷ 32 ∷ 32 ∷ 32 ∷ 45 ∷ 32 ∷ 49 ∷ 52 ∷ 46 ∷ 56 ∷ 46 ∷ 49 ∷ 49 ∷ 43 ∷ 97 ∷ 46 ∷ 90 ∷ 46 ∷ 49 ∷ 55 ∷ 32 ∷ 32 ∷ 65533 ∷ 32 ∷ 32 ∷ []) Err
    ∷ row both (32 ∷ 32 ∷ 48 ∷ 46 ∷ 49 ∷ 49 ∷ 46 ∷ 48 ∷ 32 ∷ 32 ∷ 9 ∷ 9 ∷ 32 ∷ 9 ∷ 60 ∷ 61 ∷ 32 ∷ 50 ∷ 52 ∷ 124 ∷ 124 ∷ 9 ∷ 48 ∷ 46 ∷ 88 ∷ 46 ∷ 48 ∷ 9 ∷ 45 ∷ 32 ∷ 32 ∷ []) Err
    ∷ row both (32 ∷ 32 ∷ 32 ∷ 32 ∷ 9 ∷ 62 ∷ 61 ∷ 9 ∷ 48 ∷ 44 ∷ 9 ∷ 32 ∷ 126 ∷ 55 ∷ 51 ∷ 56 ∷ 55 ∷ 54 ∷ 49 ∷ 54 ∷ 53 ∷ 50 ∷ 52 ∷ 55 ∷ 48 ∷ 51 ∷ 53 ∷ 52 ∷ 57 ∷ 48 ∷ 122 ∷ 54 ∷ 52 ∷ 48 ∷ 46 ∷ 120 ∷ 46 ∷ 48 ∷ 32 ∷ 9 ∷ []) Err
    ∷ row (Cargo ∷ []) (9 ∷ 32 ∷ 9 ∷ 32 ∷ 32 ∷ 50 ∷ 49 ∷ 46 ∷ 48 ∷ 46 ∷ 50 ∷ 51 ∷ 9 ∷ 32 ∷ 50 ∷ 51 ∷ 9 ∷ 32 ∷ []) (Ok ((comparator gte 21 0 23 [] ∷ comparator lt 22 0 0 [] ∷ comparator gte 23 0 0 [] ∷ comparator lt 24 0 0 [] ∷ []) ∷ []))
    ∷ row (Npm ∷ []) (9 ∷ 32 ∷ 9 ∷ 32 ∷ 32 ∷ 50 ∷ 49 ∷ 46 ∷ 48 ∷ 46 ∷ 50 ∷ 51 ∷ 9 ∷ 32 ∷ 50 ∷ 51 ∷ 9 ∷ 32 ∷ []) (Ok ((comparator eq 21 0 23 [] ∷ comparator gte 23 0 0 [] ∷ comparator lt 24 0 0 [] ∷ []) ∷ []))
    ∷ row both (9 ∷ 32 ∷ 126 ∷ 62 ∷ 9 ∷ 32 ∷ 49 ∷ 51 ∷ 46 ∷ 50 ∷ 55 ∷ 44 ∷ 9 ∷ 9 ∷ 60 ∷ 61 ∷ 32 ∷ 32 ∷ 49 ∷ 54 ∷ 46 ∷ 50 ∷ 52 ∷ 32 ∷ 9 ∷ []) (Ok ((comparator gte 13 27 0 [] ∷ comparator lt 13 28 0 [] ∷ comparator lt 16 25 0 [] ∷ []) ∷ []))
    ∷ row both (61 ∷ 32 ∷ 32 ∷ 55 ∷ 46 ∷ 49 ∷ 46 ∷ 48 ∷ 45 ∷ 97 ∷ 46 ∷ 48 ∷ 65279 ∷ 32 ∷ 9 ∷ 124 ∷ 124 ∷ 32 ∷ 9 ∷ 94 ∷ 9 ∷ 8195 ∷ 42 ∷ 32 ∷ 32 ∷ 32 ∷ 32 ∷ 32 ∷ []) Err
    ∷ []

abbrev pub texts₂ : List Row
texts₂ =
    row both (bytes " ") (Ok ((comparator gte 0 0 0 [] ∷ []) ∷ []))
    ∷ row both (bytes "||||") (Ok ((comparator gte 0 0 0 [] ∷ []) ∷ (comparator gte 0 0 0 [] ∷ []) ∷ (comparator gte 0 0 0 [] ∷ []) ∷ []))
    ∷ row both (bytes "1||2") (Ok ((comparator gte 1 0 0 [] ∷ comparator lt 2 0 0 [] ∷ []) ∷ (comparator gte 2 0 0 [] ∷ comparator lt 3 0 0 [] ∷ []) ∷ []))
    ∷ row both (bytes "1  2") (Ok ((comparator gte 1 0 0 [] ∷ comparator lt 2 0 0 [] ∷ comparator gte 2 0 0 [] ∷ comparator lt 3 0 0 [] ∷ []) ∷ []))
    ∷ row both (bytes "1,2") Err
    ∷ row both (bytes "1, || 2") Err
    ∷ row both (62 ∷ 9 ∷ 49 ∷ []) (Ok ((comparator gt 1 0 0 [] ∷ []) ∷ []))
    ∷ row both (bytes "==1") Err
    ∷ row both (bytes "^^1") Err
    ∷ row both (bytes "~>") Err
    ∷ row both (bytes "1- 2") Err
    ∷ row both (bytes ">1 - 2") Err
    ∷ row both (bytes ".1") Err
    ∷ row both (bytes "01") Err
    ∷ row both (bytes "a") Err
    ∷ row both (bytes "1.2.3-") Err
    ∷ row both (bytes "1.2.3-a+b") Err
    ∷ row both (bytes "1.2.3-a_b") Err
    ∷ row both (49 ∷ 10 ∷ []) Err
    ∷ row both (bytes "=*") (Ok ((comparator gte 0 0 0 [] ∷ []) ∷ []))
    ∷ row both (bytes "~*") (Ok ((comparator gte 0 0 0 [] ∷ []) ∷ []))
    ∷ row both (bytes "<x") (Ok ((comparator lt 0 0 0 [] ∷ []) ∷ []))
    ∷ row both (bytes "~>x") (Ok ((comparator gte 0 0 0 [] ∷ []) ∷ []))
    ∷ row both (bytes "<=X") (Ok ((comparator gte 0 0 0 [] ∷ []) ∷ []))
    ∷ row both (bytes "^X") (Ok ((comparator gte 0 0 0 [] ∷ []) ∷ []))
    ∷ row both (bytes ">x.2") (Ok ((comparator lt 0 0 0 [] ∷ []) ∷ []))
    ∷ row both (bytes "X.2.3") (Ok ((comparator gte 0 0 0 [] ∷ []) ∷ []))
    ∷ row both (bytes ">=X.2.3") (Ok ((comparator gte 0 0 0 [] ∷ []) ∷ []))
    ∷ row both (bytes "=*.x.3-a") (Ok ((comparator gte 0 0 0 [] ∷ []) ∷ []))
    ∷ row both (bytes "~*.x.3-a") (Ok ((comparator gte 0 0 0 [] ∷ []) ∷ []))
    ∷ row both (bytes "<0") (Ok ((comparator lt 0 0 0 [] ∷ []) ∷ []))
    ∷ row both (bytes "~>0") (Ok ((comparator gte 0 0 0 [] ∷ comparator lt 1 0 0 [] ∷ []) ∷ []))
    ∷ row both (bytes "<=1") (Ok ((comparator lt 2 0 0 [] ∷ []) ∷ []))
    ∷ row both (bytes "^1") (Ok ((comparator gte 1 0 0 [] ∷ comparator lt 2 0 0 [] ∷ []) ∷ []))
    ∷ row both (bytes ">1.x") (Ok ((comparator gt 1 0 0 [] ∷ []) ∷ []))
    ∷ row both (bytes "1.X.*") (Ok ((comparator gte 1 0 0 [] ∷ comparator lt 2 0 0 [] ∷ []) ∷ []))
    ∷ row both (bytes ">=1.X.*") (Ok ((comparator gte 1 0 0 [] ∷ []) ∷ []))
    ∷ row both (bytes "=1.*.3") (Ok ((comparator gte 1 0 0 [] ∷ comparator lt 2 0 0 [] ∷ []) ∷ []))
    ∷ row both (bytes "~1.*.3") (Ok ((comparator gte 1 0 0 [] ∷ comparator lt 2 0 0 [] ∷ []) ∷ []))
    ∷ row both (bytes "<0.x") (Ok ((comparator lt 0 0 0 [] ∷ []) ∷ []))
    ∷ row both (bytes "~>0.x") (Ok ((comparator gte 0 0 0 [] ∷ comparator lt 1 0 0 [] ∷ []) ∷ []))
    ∷ row both (bytes "<=0.0") (Ok ((comparator lt 0 1 0 [] ∷ []) ∷ []))
    ∷ row both (bytes "^0.0") (Ok ((comparator gte 0 0 0 [] ∷ comparator lt 0 1 0 [] ∷ []) ∷ []))
    ∷ row both (bytes ">0.2") (Ok ((comparator gt 0 2 0 [] ∷ []) ∷ []))
    ∷ row both (bytes "1.0") (Ok ((comparator gte 1 0 0 [] ∷ comparator lt 1 1 0 [] ∷ []) ∷ []))
    ∷ row both (bytes ">=1.0") (Ok ((comparator gte 1 0 0 [] ∷ []) ∷ []))
    ∷ row both (bytes "=1.2") (Ok ((comparator gte 1 2 0 [] ∷ comparator lt 1 3 0 [] ∷ []) ∷ []))
    ∷ row both (bytes "~1.2") (Ok ((comparator gte 1 2 0 [] ∷ comparator lt 1 3 0 [] ∷ []) ∷ []))
    ∷ row both (bytes "<1.2.x") (Ok ((comparator lt 1 2 0 [] ∷ []) ∷ []))
    ∷ row both (bytes "~>1.2.x") (Ok ((comparator gte 1 2 0 [] ∷ comparator lt 1 3 0 [] ∷ []) ∷ []))
    ∷ row both (bytes "<=0.0.*+b") (Ok ((comparator lt 0 1 0 [] ∷ []) ∷ []))
    ∷ row both (bytes "^0.0.*+b") (Ok ((comparator gte 0 0 0 [] ∷ comparator lt 0 1 0 [] ∷ []) ∷ []))
    ∷ row both (bytes ">0.0.0") (Ok ((comparator gt 0 0 0 [] ∷ []) ∷ []))
    ∷ row (Cargo ∷ []) (bytes "0.0.3") (Ok ((comparator gte 0 0 3 [] ∷ comparator lt 0 0 4 [] ∷ []) ∷ []))
    ∷ row (Npm ∷ []) (bytes "0.0.3") (Ok ((comparator eq 0 0 3 [] ∷ []) ∷ []))
    ∷ row both (bytes ">=0.0.3") (Ok ((comparator gte 0 0 3 [] ∷ []) ∷ []))
    ∷ row both (bytes "=0.2.0") (Ok ((comparator eq 0 2 0 [] ∷ []) ∷ []))
    ∷ row both (bytes "~0.2.0") (Ok ((comparator gte 0 2 0 [] ∷ comparator lt 0 3 0 [] ∷ []) ∷ []))
    ∷ row both (bytes "<0.2.3") (Ok ((comparator lt 0 2 3 [] ∷ []) ∷ []))
    ∷ row both (bytes "~>0.2.3") (Ok ((comparator gte 0 2 3 [] ∷ comparator lt 0 3 0 [] ∷ []) ∷ []))
    ∷ row both (bytes "<=1.2.3") (Ok ((comparator lte 1 2 3 [] ∷ []) ∷ []))
    ∷ row both (bytes "^1.2.3") (Ok ((comparator gte 1 2 3 [] ∷ comparator lt 2 0 0 [] ∷ []) ∷ []))
    ∷ row both (bytes ">1.2.3-a") (Ok ((comparator gt 1 2 3 (text 0 (bytes "a") ∷ []) ∷ []) ∷ []))
    ∷ row (Cargo ∷ []) (bytes "0.0.3-0.x-1") (Ok ((comparator gte 0 0 3 (number 0 ∷ text 0 (bytes "x-1") ∷ []) ∷ comparator lt 0 0 4 [] ∷ []) ∷ []))
    ∷ row (Npm ∷ []) (bytes "0.0.3-0.x-1") (Ok ((comparator eq 0 0 3 (number 0 ∷ text 0 (bytes "x-1") ∷ []) ∷ []) ∷ []))
    ∷ row both (bytes ">=0.0.3-0.x-1") (Ok ((comparator gte 0 0 3 (number 0 ∷ text 0 (bytes "x-1") ∷ []) ∷ []) ∷ []))
    ∷ row both (bytes "=1.2.3+b7") (Ok ((comparator eq 1 2 3 (text 0 (bytes "b7") ∷ []) ∷ []) ∷ []))
    ∷ row both (bytes "~1.2.3+b7") (Ok ((comparator gte 1 2 3 (text 0 (bytes "b7") ∷ []) ∷ comparator lt 1 3 0 [] ∷ []) ∷ []))
    ∷ row both (bytes "<0.2.3+9.-") (Ok ((comparator lt 0 2 3 (number 9 ∷ text 0 (bytes "-") ∷ []) ∷ []) ∷ []))
    ∷ row both (bytes "~>0.2.3+9.-") (Ok ((comparator gte 0 2 3 (number 9 ∷ text 0 (bytes "-") ∷ []) ∷ comparator lt 0 3 0 [] ∷ []) ∷ []))
    ∷ row both (bytes "<=18446744073709551614") (Ok ((comparator lt 18446744073709551615 0 0 [] ∷ []) ∷ []))
    ∷ row both (bytes "^18446744073709551614") (Ok ((comparator gte 18446744073709551614 0 0 [] ∷ comparator lt 18446744073709551615 0 0 [] ∷ []) ∷ []))
    ∷ row both (bytes ">18446744073709551615") (Ok ((comparator gt 18446744073709551615 0 0 [] ∷ []) ∷ []))
    ∷ row both (bytes "18446744073709551616") panicked
    ∷ row both (bytes ">=18446744073709551616") panicked
    ∷ row both (bytes "=18446744073709551615.1") (Ok ((comparator gte 18446744073709551615 1 0 [] ∷ comparator lt 18446744073709551615 2 0 [] ∷ []) ∷ []))
    ∷ row both (bytes "~18446744073709551615.1") (Ok ((comparator gte 18446744073709551615 1 0 [] ∷ comparator lt 18446744073709551615 2 0 [] ∷ []) ∷ []))
    ∷ row both (bytes "<1.18446744073709551614") (Ok ((comparator lt 1 18446744073709551614 0 [] ∷ []) ∷ []))
    ∷ row both (bytes "~>1.18446744073709551614") (Ok ((comparator gte 1 18446744073709551614 0 [] ∷ comparator lt 1 18446744073709551615 0 [] ∷ []) ∷ []))
    ∷ row both (bytes "<=1.18446744073709551615") panicked
    ∷ row both (bytes "^1.18446744073709551615") (Ok ((comparator gte 1 18446744073709551615 0 [] ∷ comparator lt 2 0 0 [] ∷ []) ∷ []))
    ∷ row both (bytes ">1.18446744073709551616") panicked
    ∷ row (Cargo ∷ []) (bytes "0.0.18446744073709551614") (Ok ((comparator gte 0 0 18446744073709551614 [] ∷ comparator lt 0 0 18446744073709551615 [] ∷ []) ∷ []))
    ∷ row (Npm ∷ []) (bytes "0.0.18446744073709551614") (Ok ((comparator eq 0 0 18446744073709551614 [] ∷ []) ∷ []))
    ∷ row both (bytes ">=0.0.18446744073709551614") (Ok ((comparator gte 0 0 18446744073709551614 [] ∷ []) ∷ []))
    ∷ row both (bytes "=0.0.18446744073709551615") (Ok ((comparator eq 0 0 18446744073709551615 [] ∷ []) ∷ []))
    ∷ row both (bytes "~0.0.18446744073709551615") (Ok ((comparator gte 0 0 18446744073709551615 [] ∷ comparator lt 0 1 0 [] ∷ []) ∷ []))
    ∷ row both (bytes "<0.0.18446744073709551616") panicked
    ∷ row both (bytes "~>0.0.18446744073709551616") panicked
    ∷ row both (bytes "<=0.18446744073709551615.1") (Ok ((comparator lte 0 18446744073709551615 1 [] ∷ []) ∷ []))
    ∷ row both (bytes "^0.18446744073709551615.1") panicked
    ∷ row both (bytes ">x.18446744073709551616") (Ok ((comparator lt 0 0 0 [] ∷ []) ∷ []))
    ∷ row both (bytes "1.x.18446744073709551616") (Ok ((comparator gte 1 0 0 [] ∷ comparator lt 2 0 0 [] ∷ []) ∷ []))
    ∷ row both (bytes ">=1.x.18446744073709551616") (Ok ((comparator gte 1 0 0 [] ∷ []) ∷ []))
    ∷ row both (bytes "* - 1") (Ok ((comparator lt 2 0 0 [] ∷ []) ∷ []))
    ∷ row both (bytes "* - 0.0.3-a") (Ok ((comparator lte 0 0 3 (text 0 (bytes "a") ∷ []) ∷ []) ∷ []))
    ∷ row both (bytes "* - 18446744073709551616") panicked
    ∷ row both (bytes "1 - 1.2.X") (Ok ((comparator gte 1 0 0 [] ∷ comparator lt 1 3 0 [] ∷ []) ∷ []))
    ∷ row both (bytes "1 - 1.18446744073709551615") panicked
    ∷ row both (bytes "0.x - 0.x") (Ok ((comparator gte 0 0 0 [] ∷ comparator lt 1 0 0 [] ∷ []) ∷ []))
    ∷ row both (bytes "0.x - 1.2.3+b.1") (Ok ((comparator gte 0 0 0 [] ∷ comparator lte 1 2 3 (text 0 (bytes "b") ∷ number 1 ∷ []) ∷ []) ∷ []))
    ∷ row both (bytes "1.2 - *") (Ok ((comparator gte 1 2 0 [] ∷ []) ∷ []))
    ∷ row both (bytes "1.2 - 1.2.3") (Ok ((comparator gte 1 2 0 [] ∷ comparator lte 1 2 3 [] ∷ []) ∷ []))
    ∷ row both (bytes "1.2 - 1.2.18446744073709551615") (Ok ((comparator gte 1 2 0 [] ∷ comparator lte 1 2 18446744073709551615 [] ∷ []) ∷ []))
    ∷ row both (bytes "1.2.X - 1.2") (Ok ((comparator gte 1 2 0 [] ∷ comparator lt 1 3 0 [] ∷ []) ∷ []))
    ∷ row both (bytes "1.2.X - 18446744073709551615") panicked
    ∷ row both (bytes "1.2.3 - 1") (Ok ((comparator gte 1 2 3 [] ∷ comparator lt 2 0 0 [] ∷ []) ∷ []))
    ∷ row both (bytes "1.2.3 - 0.0.3-a") (Ok ((comparator gte 1 2 3 [] ∷ comparator lte 0 0 3 (text 0 (bytes "a") ∷ []) ∷ []) ∷ []))
    ∷ row both (bytes "1.2.3 - 18446744073709551616") panicked
    ∷ row both (bytes "0.0.3-a - 1.2.X") (Ok ((comparator gte 0 0 3 (text 0 (bytes "a") ∷ []) ∷ comparator lt 1 3 0 [] ∷ []) ∷ []))
    ∷ row both (bytes "0.0.3-a - 1.18446744073709551615") panicked
    ∷ row both (bytes "1.2.3+b.1 - 0.x") (Ok ((comparator gte 1 2 3 (text 0 (bytes "b") ∷ number 1 ∷ []) ∷ comparator lt 1 0 0 [] ∷ []) ∷ []))
    ∷ row both (bytes "1.2.3+b.1 - 1.2.3+b.1") (Ok ((comparator gte 1 2 3 (text 0 (bytes "b") ∷ number 1 ∷ []) ∷ comparator lte 1 2 3 (text 0 (bytes "b") ∷ number 1 ∷ []) ∷ []) ∷ []))
    ∷ row both (bytes "18446744073709551615 - *") (Ok ((comparator gte 18446744073709551615 0 0 [] ∷ []) ∷ []))
    ∷ row both (bytes "18446744073709551615 - 1.2.3") (Ok ((comparator gte 18446744073709551615 0 0 [] ∷ comparator lte 1 2 3 [] ∷ []) ∷ []))
    ∷ row both (bytes "1.18446744073709551615 - 0.x") (Ok ((comparator gte 1 18446744073709551615 0 [] ∷ comparator lt 1 0 0 [] ∷ []) ∷ []))
    ∷ row both (bytes "1.18446744073709551615 - 1.2.3+b.1") (Ok ((comparator gte 1 18446744073709551615 0 [] ∷ comparator lte 1 2 3 (text 0 (bytes "b") ∷ number 1 ∷ []) ∷ []) ∷ []))
    ∷ row both (bytes "1.2.18446744073709551615 - 1.2.X") (Ok ((comparator gte 1 2 18446744073709551615 [] ∷ comparator lt 1 3 0 [] ∷ []) ∷ []))
    ∷ row both (bytes "18446744073709551616 - 1") panicked
    ∷ row both (bytes "18446744073709551616 - 0.0.3-a") panicked
    ∷ row both (62 ∷ 128 ∷ 61 ∷ 32 ∷ 9 ∷ 48 ∷ 46 ∷ 48 ∷ 233 ∷ 46 ∷ 50 ∷ 53 ∷ 45 ∷ 48 ∷ 46 ∷ 48 ∷ 32 ∷ 65279 ∷ 32 ∷ 126 ∷ 48 ∷ []) Err
    ∷ row both (56 ∷ 46 ∷ 42 ∷ 46 ∷ 50 ∷ 55 ∷ 32 ∷ 32 ∷ 45 ∷ 9 ∷ 9 ∷ 48 ∷ 46 ∷ 120 ∷ 50 ∷ 56 ∷ 45 ∷ 97 ∷ 48 ∷ 46 ∷ 48 ∷ 46 ∷ 48 ∷ 32 ∷ []) Err
    ∷ row both (bytes "~") Err
    ∷ row both (126 ∷ 62 ∷ 48 ∷ 9 ∷ 9 ∷ 9 ∷ 32 ∷ 32 ∷ 32 ∷ 62 ∷ 61 ∷ 9 ∷ 32 ∷ 9 ∷ 9 ∷ 32 ∷ 50 ∷ 52 ∷ 46 ∷ 49 ∷ 51 ∷ 46 ∷ 49 ∷ 51 ∷ 45 ∷ 118 ∷ 49 ∷ 45 ∷ 97 ∷ 124 ∷ 124 ∷ 9 ∷ 32 ∷ 126 ∷ 9 ∷ 32 ∷ []) Err
    ∷ row both (bytes "<=26.26.2-aA9 ") (Ok ((comparator lte 26 26 2 (text 0 (bytes "aA9") ∷ []) ∷ []) ∷ []))
    ∷ row both (32 ∷ 32 ∷ 62 ∷ 61 ∷ 32 ∷ 9 ∷ 48 ∷ 32 ∷ []) (Ok ((comparator gte 0 0 0 [] ∷ []) ∷ []))
    ∷ row both (bytes "~0.0  - .0.14") Err
    ∷ row both (48 ∷ 10 ∷ 50 ∷ 52 ∷ 46 ∷ 45 ∷ 32 ∷ 9 ∷ 49 ∷ 53 ∷ []) Err
    ∷ row both (32 ∷ 9 ∷ 60 ∷ 56 ∷ 44 ∷ 32 ∷ 32 ∷ 9 ∷ 61 ∷ 48 ∷ 46 ∷ 50 ∷ 54 ∷ 124 ∷ 124 ∷ 61 ∷ 9 ∷ 50 ∷ 55 ∷ 46 ∷ 48 ∷ 9 ∷ []) (Ok ((comparator lt 8 0 0 [] ∷ comparator gte 0 26 0 [] ∷ comparator lt 0 27 0 [] ∷ []) ∷ (comparator gte 27 0 0 [] ∷ comparator lt 27 1 0 [] ∷ []) ∷ []))
    ∷ row both (126 ∷ 62 ∷ 32 ∷ 32 ∷ 32 ∷ 32 ∷ 9 ∷ 48 ∷ 46 ∷ 50 ∷ 49 ∷ 46 ∷ 57 ∷ 48 ∷ 54 ∷ 51 ∷ 54 ∷ 56 ∷ 54 ∷ 53 ∷ 52 ∷ 54 ∷ 57 ∷ 55 ∷ 56 ∷ 53 ∷ 55 ∷ 52 ∷ 52 ∷ 51 ∷ 54 ∷ 56 ∷ 9 ∷ []) panicked
    ∷ row both (10 ∷ 32 ∷ 9 ∷ 9 ∷ 9 ∷ 9 ∷ 49 ∷ 51 ∷ 46 ∷ 48 ∷ 32 ∷ 32 ∷ 45 ∷ 9 ∷ 48 ∷ 46 ∷ 49 ∷ 56 ∷ []) Err
    ∷ row both (9 ∷ 32 ∷ 124 ∷ 124 ∷ 32 ∷ 9 ∷ 9 ∷ 32 ∷ 32 ∷ 124 ∷ 124 ∷ 62 ∷ 32 ∷ 57 ∷ 46 ∷ 42 ∷ 46 ∷ 49 ∷ 51 ∷ 45 ∷ 97 ∷ 120 ∷ 122 ∷ 32 ∷ 124 ∷ 124 ∷ 62 ∷ 61 ∷ 32 ∷ 9 ∷ 50 ∷ 51 ∷ 46 ∷ 48 ∷ 46 ∷ 48 ∷ 43 ∷ 54 ∷ 46 ∷ 48 ∷ []) (Ok ((comparator gte 0 0 0 [] ∷ []) ∷ (comparator gte 0 0 0 [] ∷ []) ∷ (comparator gt 9 0 0 [] ∷ []) ∷ (comparator gte 23 0 0 (number 6 ∷ number 0 ∷ []) ∷ []) ∷ []))
    ∷ row both (bytes " 2.4") (Ok ((comparator gte 2 4 0 [] ∷ comparator lt 2 5 0 [] ∷ []) ∷ []))
    ∷ row both (62 ∷ 61 ∷ 9 ∷ 50 ∷ 51 ∷ 46 ∷ 48 ∷ 46 ∷ 48 ∷ 44 ∷ 32 ∷ 51 ∷ 9 ∷ 9 ∷ 32 ∷ 32 ∷ 9 ∷ 32 ∷ 61 ∷ 9 ∷ 32 ∷ 50 ∷ 48 ∷ 46 ∷ 55 ∷ 46 ∷ 49 ∷ 56 ∷ 45 ∷ 97 ∷ 45 ∷ 46 ∷ 49 ∷ 52 ∷ 9 ∷ 32 ∷ 32 ∷ 32 ∷ 32 ∷ []) (Ok ((comparator gte 23 0 0 [] ∷ comparator gte 3 0 0 [] ∷ comparator lt 4 0 0 [] ∷ comparator eq 20 7 18 (text 0 (bytes "a-") ∷ number 14 ∷ []) ∷ []) ∷ []))
    ∷ row both (49 ∷ 54 ∷ 46 ∷ 49 ∷ 56 ∷ 46 ∷ 48 ∷ 32 ∷ 32 ∷ 9 ∷ 45 ∷ 32 ∷ 32 ∷ 50 ∷ 57 ∷ 46 ∷ 50 ∷ 48 ∷ 10 ∷ 32 ∷ []) Err
    ∷ row both (62 ∷ 61 ∷ 32 ∷ 42 ∷ 46 ∷ 50 ∷ 57 ∷ 46 ∷ 55 ∷ 9 ∷ 62 ∷ 55 ∷ 46 ∷ 120 ∷ 32 ∷ 32 ∷ 0 ∷ 32 ∷ 126 ∷ 62 ∷ 32 ∷ 32 ∷ 50 ∷ 55 ∷ 46 ∷ 50 ∷ 55 ∷ 46 ∷ 55 ∷ 45 ∷ 118 ∷ 49 ∷ 122 ∷ []) Err
    ∷ row both (32 ∷ 9 ∷ 32 ∷ 32 ∷ 9 ∷ 62 ∷ 61 ∷ 120 ∷ 9 ∷ 9 ∷ 47 ∷ []) Err
    ∷ row both (9 ∷ 61 ∷ 32 ∷ 50 ∷ 55 ∷ 9 ∷ 32 ∷ 9 ∷ 32 ∷ 9 ∷ 9 ∷ 126 ∷ 62 ∷ 32 ∷ 32 ∷ 49 ∷ 50 ∷ []) (Ok ((comparator gte 27 0 0 [] ∷ comparator lt 28 0 0 [] ∷ comparator gte 12 0 0 [] ∷ comparator lt 13 0 0 [] ∷ []) ∷ []))
    ∷ row both (bytes "^     8.13.0") (Ok ((comparator gte 8 13 0 [] ∷ comparator lt 9 0 0 [] ∷ []) ∷ []))
    ∷ row both (32 ∷ 94 ∷ 32 ∷ 54 ∷ 46 ∷ 49 ∷ 54 ∷ 51 ∷ 56 ∷ 50 ∷ 57 ∷ 50 ∷ 48 ∷ 48 ∷ 53 ∷ 48 ∷ 48 ∷ 50 ∷ 57 ∷ 51 ∷ 48 ∷ 52 ∷ 46 ∷ 42 ∷ 43 ∷ 118 ∷ 49 ∷ 0 ∷ 32 ∷ []) Err
    ∷ row both (52 ∷ 32 ∷ 32 ∷ 45 ∷ 9 ∷ 9 ∷ 49 ∷ 53 ∷ 124 ∷ 124 ∷ 65279 ∷ 32 ∷ 126 ∷ 62 ∷ 9 ∷ 32 ∷ 32 ∷ 65279 ∷ 9 ∷ 9 ∷ 50 ∷ 46 ∷ 54 ∷ []) Err
    ∷ row both (126 ∷ 32 ∷ 50 ∷ 49 ∷ 46 ∷ 120 ∷ 32 ∷ 32 ∷ 124 ∷ 124 ∷ 60 ∷ 61 ∷ 48 ∷ 46 ∷ 14 ∷ 54 ∷ 46 ∷ 120 ∷ 120 ∷ 32 ∷ 32 ∷ 124 ∷ 124 ∷ 60 ∷ 61 ∷ 48 ∷ 46 ∷ 14 ∷ 54 ∷ 46 ∷ 120 ∷ []) Err
    ∷ row both (62 ∷ 32 ∷ 53 ∷ 44 ∷ 9 ∷ 60 ∷ 32 ∷ 48 ∷ 46 ∷ 50 ∷ 9 ∷ 32 ∷ 126 ∷ 88 ∷ 46 ∷ 48 ∷ 46 ∷ 48 ∷ 124 ∷ 124 ∷ 32 ∷ 48 ∷ 46 ∷ 54 ∷ 46 ∷ 56 ∷ 43 ∷ 55 ∷ 44 ∷ 32 ∷ []) Err
    ∷ row both (32 ∷ 32 ∷ 49 ∷ 50 ∷ 46 ∷ 49 ∷ 55 ∷ 44 ∷ 9 ∷ 9 ∷ 94 ∷ 32 ∷ 9 ∷ 9 ∷ 32 ∷ 32 ∷ 48 ∷ []) (Ok ((comparator gte 12 17 0 [] ∷ comparator lt 12 18 0 [] ∷ comparator gte 0 0 0 [] ∷ comparator lt 1 0 0 [] ∷ []) ∷ []))
    ∷ row both (126 ∷ 62 ∷ 9 ∷ 32 ∷ 32 ∷ 32 ∷ 32 ∷ 120 ∷ 9 ∷ 61 ∷ 50 ∷ 46 ∷ 50 ∷ 50 ∷ 9 ∷ 60 ∷ 61 ∷ 32 ∷ 9 ∷ 9 ∷ 32 ∷ 9 ∷ 48 ∷ 46 ∷ 9 ∷ 48 ∷ 46 ∷ []) Err
    ∷ row both (32 ∷ 9 ∷ 50 ∷ 50 ∷ 46 ∷ 49 ∷ 48 ∷ 32 ∷ 32 ∷ 45 ∷ 32 ∷ 9 ∷ 32 ∷ 32 ∷ 9 ∷ 32 ∷ 50 ∷ 49 ∷ 46 ∷ 48 ∷ 32 ∷ 9 ∷ 32 ∷ 9 ∷ 32 ∷ []) (Ok ((comparator gte 22 10 0 [] ∷ comparator lt 21 1 0 [] ∷ []) ∷ []))
    ∷ row both (32 ∷ 32 ∷ 32 ∷ 32 ∷ 32 ∷ 32 ∷ 32 ∷ 9 ∷ 32 ∷ 32 ∷ 32 ∷ []) (Ok ((comparator gte 0 0 0 [] ∷ []) ∷ []))
    ∷ row both (bytes "0   15x27.8 ") Err
    ∷ row both (62 ∷ 61 ∷ 42 ∷ 46 ∷ 57 ∷ 124 ∷ 124 ∷ 60 ∷ 61 ∷ 9 ∷ 48 ∷ 46 ∷ 48 ∷ 46 ∷ 120 ∷ 43 ∷ 120 ∷ 57 ∷ 32 ∷ 32 ∷ 48 ∷ 32 ∷ 32 ∷ 126 ∷ 32 ∷ 32 ∷ 52 ∷ 46 ∷ 55 ∷ 9 ∷ 9 ∷ 9 ∷ 32 ∷ 9 ∷ []) (Ok ((comparator gte 0 0 0 [] ∷ []) ∷ (comparator lt 0 1 0 [] ∷ comparator gte 0 0 0 [] ∷ comparator lt 1 0 0 [] ∷ comparator gte 4 7 0 [] ∷ comparator lt 4 8 0 [] ∷ []) ∷ []))
    ∷ row both (32 ∷ 94 ∷ 49 ∷ 54 ∷ 46 ∷ 54 ∷ 32 ∷ 32 ∷ 128 ∷ 120 ∷ 46 ∷ 48 ∷ 46 ∷ 49 ∷ 57 ∷ 32 ∷ []) Err
    ∷ row both (32 ∷ 60 ∷ 61 ∷ 9 ∷ 32 ∷ 32 ∷ 32 ∷ 32 ∷ 88 ∷ 46 ∷ 50 ∷ 55 ∷ 50 ∷ 48 ∷ 52 ∷ 52 ∷ 53 ∷ 56 ∷ 50 ∷ 48 ∷ 54 ∷ 52 ∷ 52 ∷ 48 ∷ 57 ∷ 55 ∷ 56 ∷ 57 ∷ 56 ∷ 50 ∷ 52 ∷ []) (Ok ((comparator gte 0 0 0 [] ∷ []) ∷ []))
    ∷ row both (32 ∷ 9 ∷ 32 ∷ 32 ∷ 9 ∷ 50 ∷ 54 ∷ 46 ∷ 54 ∷ 46 ∷ 88 ∷ 9 ∷ 45 ∷ 32 ∷ 49 ∷ 56 ∷ 51 ∷ 48 ∷ 46 ∷ 50 ∷ 57 ∷ 46 ∷ 52 ∷ 45 ∷ 49 ∷ 54 ∷ 46 ∷ 55 ∷ 9 ∷ []) (Ok ((comparator gte 26 6 0 [] ∷ comparator lte 1830 29 4 (number 16 ∷ number 7 ∷ []) ∷ []) ∷ []))
    ∷ row both (32 ∷ 62 ∷ 61 ∷ 50 ∷ 56 ∷ 46 ∷ 49 ∷ 48 ∷ 1633 ∷ 32 ∷ []) Err
    ∷ row both (126 ∷ 62 ∷ 32 ∷ 9 ∷ 49 ∷ 50 ∷ 46 ∷ 88 ∷ 9 ∷ 32 ∷ []) (Ok ((comparator gte 12 0 0 [] ∷ comparator lt 13 0 0 [] ∷ []) ∷ []))
    ∷ row both (32 ∷ 9 ∷ 9 ∷ 9 ∷ 32 ∷ 53 ∷ 46 ∷ 55 ∷ 32 ∷ 32 ∷ 53 ∷ 32 ∷ 124 ∷ 124 ∷ 32 ∷ 32 ∷ 32 ∷ 32 ∷ 32 ∷ 126 ∷ 49 ∷ 56 ∷ 46 ∷ 88 ∷ 32 ∷ []) (Ok ((comparator gte 5 7 0 [] ∷ comparator lt 5 8 0 [] ∷ comparator gte 5 0 0 [] ∷ comparator lt 6 0 0 [] ∷ []) ∷ (comparator gte 18 0 0 [] ∷ comparator lt 19 0 0 [] ∷ []) ∷ []))
    ∷ row (Cargo ∷ []) (bytes "  18446744073709551615.11.29 ") panicked
    ∷ row (Npm ∷ []) (bytes "  18446744073709551615.11.29 ") (Ok ((comparator eq 18446744073709551615 11 29 [] ∷ []) ∷ []))
    ∷ row both (bytes " <=     18") (Ok ((comparator lt 19 0 0 [] ∷ []) ∷ []))
    ∷ row both (50 ∷ 56 ∷ 46 ∷ 49 ∷ 50 ∷ 46 ∷ 50 ∷ 97 ∷ 50 ∷ 43 ∷ 118 ∷ 49 ∷ 32 ∷ 32 ∷ 45 ∷ 9 ∷ 32 ∷ 48 ∷ 46 ∷ 50 ∷ 53 ∷ 48 ∷ 46 ∷ 50 ∷ 51 ∷ 32 ∷ 9 ∷ 32 ∷ 32 ∷ 32 ∷ 32 ∷ 32 ∷ []) Err
    ∷ row (Cargo ∷ []) (bytes "11.7.15-25.x999") (Ok ((comparator gte 11 7 15 (number 25 ∷ text 0 (bytes "x999") ∷ []) ∷ comparator lt 12 0 0 [] ∷ []) ∷ []))
    ∷ row (Npm ∷ []) (bytes "11.7.15-25.x999") (Ok ((comparator eq 11 7 15 (number 25 ∷ text 0 (bytes "x999") ∷ []) ∷ []) ∷ []))
    ∷ row both (bytes "~X  <a0~") Err
    ∷ row both (bytes " 20.") Err
    ∷ row both (9 ∷ 32 ∷ 57 ∷ 46 ∷ 49 ∷ 57 ∷ 46 ∷ 49 ∷ 49 ∷ 43 ∷ 49 ∷ 51 ∷ 32 ∷ 9 ∷ 32 ∷ 124 ∷ 32 ∷ 9 ∷ 49 ∷ 54 ∷ 46 ∷ 88 ∷ 46 ∷ 42 ∷ 45 ∷ 118 ∷ 49 ∷ 65 ∷ 48 ∷ 46 ∷ 120 ∷ 120 ∷ 45 ∷ 48 ∷ 120 ∷ 46 ∷ []) Err
    ∷ row both (9 ∷ 32 ∷ 60 ∷ 57 ∷ 32 ∷ []) (Ok ((comparator lt 9 0 0 [] ∷ []) ∷ []))
    ∷ row both (32 ∷ 48 ∷ 1633 ∷ 9 ∷ 32 ∷ 32 ∷ 32 ∷ 9 ∷ 32 ∷ 45 ∷ 32 ∷ 120793 ∷ 48 ∷ 46 ∷ 48 ∷ 46 ∷ 49 ∷ 52 ∷ 43 ∷ 90 ∷ []) Err
    ∷ row both (32 ∷ 9 ∷ 60 ∷ 61 ∷ 49 ∷ 54 ∷ 46 ∷ 55 ∷ 46 ∷ 49 ∷ 56 ∷ 9 ∷ 32 ∷ 32 ∷ 126 ∷ 62 ∷ 32 ∷ 9 ∷ 32 ∷ 32 ∷ 32 ∷ 50 ∷ 46 ∷ 49 ∷ 51 ∷ 46 ∷ 120 ∷ 32 ∷ 32 ∷ []) (Ok ((comparator lte 16 7 18 [] ∷ comparator gte 2 13 0 [] ∷ comparator lt 2 14 0 [] ∷ []) ∷ []))
    ∷ row both (32 ∷ 50 ∷ 8195 ∷ 54 ∷ 46 ∷ 160 ∷ 49 ∷ 55 ∷ 46 ∷ 49 ∷ 43 ∷ 50 ∷ 46 ∷ 88 ∷ 32 ∷ []) Err
    ∷ row both (61 ∷ 32 ∷ 9 ∷ 32 ∷ 32 ∷ 32 ∷ 54 ∷ 32 ∷ 9 ∷ 32 ∷ 32 ∷ 32 ∷ 54 ∷ []) (Ok ((comparator gte 6 0 0 [] ∷ comparator lt 7 0 0 [] ∷ comparator gte 6 0 0 [] ∷ comparator lt 7 0 0 [] ∷ []) ∷ []))
    ∷ row both (32 ∷ 126 ∷ 62 ∷ 46 ∷ 52 ∷ 46 ∷ 50 ∷ 46 ∷ 54 ∷ 44 ∷ 9 ∷ 60 ∷ 61 ∷ 32 ∷ 50 ∷ 49 ∷ 46 ∷ 49 ∷ 46 ∷ 57 ∷ 43 ∷ 49 ∷ 57 ∷ 32 ∷ 32 ∷ 9 ∷ 32 ∷ 32 ∷ []) Err
    ∷ row both (48 ∷ 46 ∷ 49 ∷ 52 ∷ 46 ∷ 49 ∷ 56 ∷ 45 ∷ 48 ∷ 32 ∷ 9 ∷ 45 ∷ 32 ∷ 32 ∷ 9 ∷ 9 ∷ 32 ∷ 9 ∷ 49 ∷ 56 ∷ 46 ∷ 42 ∷ 46 ∷ 48 ∷ 43 ∷ 50 ∷ 46 ∷ 90 ∷ 45 ∷ 32 ∷ []) (Ok ((comparator gte 0 14 18 (number 0 ∷ []) ∷ comparator lt 19 0 0 [] ∷ []) ∷ []))
    ∷ row both (62 ∷ 9 ∷ 88 ∷ 32 ∷ 50 ∷ 54 ∷ 46 ∷ 55 ∷ 44 ∷ 32 ∷ 32 ∷ 126 ∷ 48 ∷ []) (Ok ((comparator lt 0 0 0 [] ∷ comparator gte 26 7 0 [] ∷ comparator lt 26 8 0 [] ∷ comparator gte 0 0 0 [] ∷ comparator lt 1 0 0 [] ∷ []) ∷ []))
    ∷ row both (32 ∷ 32 ∷ 60 ∷ 32 ∷ 9 ∷ 9 ∷ 32 ∷ 32 ∷ 50 ∷ 51 ∷ 46 ∷ 49 ∷ 56 ∷ 46 ∷ 48 ∷ []) (Ok ((comparator lt 23 18 0 [] ∷ []) ∷ []))
    ∷ row both (8195 ∷ 32 ∷ 32 ∷ 126 ∷ 9 ∷ 32 ∷ 32 ∷ 32 ∷ 32 ∷ 88 ∷ 46 ∷ 50 ∷ 55 ∷ 9 ∷ 32 ∷ 8195 ∷ []) Err
    ∷ row both (bytes "  +") Err
    ∷ row both (50 ∷ 46 ∷ 49 ∷ 56 ∷ 46 ∷ 50 ∷ 50 ∷ 32 ∷ 45 ∷ 9 ∷ 32 ∷ 9 ∷ 49 ∷ 49 ∷ 46 ∷ 49 ∷ 50 ∷ 46 ∷ 50 ∷ 54 ∷ 45 ∷ 55 ∷ 46 ∷ 114 ∷ 99 ∷ 32 ∷ 9 ∷ 124 ∷ []) Err
    ∷ row both (bytes "<=0.X.13 ") (Ok ((comparator lt 1 0 0 [] ∷ []) ∷ []))
    ∷ row both (bytes "^ 0 <=17.21") (Ok ((comparator gte 0 0 0 [] ∷ comparator lt 1 0 0 [] ∷ comparator lt 17 22 0 [] ∷ []) ∷ []))
    ∷ row both (32 ∷ 128 ∷ 32 ∷ 8195 ∷ 9 ∷ []) Err
    ∷ row both (9 ∷ 52 ∷ 46 ∷ 49 ∷ 51 ∷ 32 ∷ 32 ∷ []) (Ok ((comparator gte 4 13 0 [] ∷ comparator lt 4 14 0 [] ∷ []) ∷ []))
    ∷ row both (48 ∷ 46 ∷ 52 ∷ 46 ∷ 49 ∷ 55 ∷ 32 ∷ 9 ∷ 45 ∷ 32 ∷ 9 ∷ 32 ∷ 32 ∷ 45 ∷ 9 ∷ 9 ∷ 55 ∷ 46 ∷ 49 ∷ 50 ∷ 46 ∷ 48 ∷ 9 ∷ []) Err
    ∷ row both (32 ∷ 9 ∷ 32 ∷ 32 ∷ 32 ∷ 62 ∷ 50 ∷ 52 ∷ 48 ∷ 56 ∷ 57 ∷ 50 ∷ 48 ∷ 48 ∷ 49 ∷ 51 ∷ 49 ∷ 53 ∷ 54 ∷ 57 ∷ 48 ∷ 49 ∷ 55 ∷ 49 ∷ 48 ∷ 53 ∷ 46 ∷ 57 ∷ 46 ∷ 49 ∷ 50 ∷ 43 ∷ 114 ∷ 99 ∷ []) panicked
    ∷ row both (bytes " ^     3.21  ") (Ok ((comparator gte 3 21 0 [] ∷ comparator lt 4 0 0 [] ∷ []) ∷ []))
    ∷ row both (bytes "~.24+0--...b") Err
    ∷ row both (32 ∷ 95 ∷ 9 ∷ 32 ∷ 32 ∷ 62 ∷ 61 ∷ 32 ∷ 32 ∷ 48 ∷ 46 ∷ 48 ∷ 46 ∷ []) Err
    ∷ row both (32 ∷ 32 ∷ 50 ∷ 57 ∷ 46 ∷ 48 ∷ 9 ∷ 32 ∷ 45 ∷ 9 ∷ 32 ∷ 88 ∷ 46 ∷ 49 ∷ 52 ∷ 46 ∷ 48 ∷ 43 ∷ 45 ∷ 48 ∷ 124 ∷ 124 ∷ 32 ∷ []) (Ok ((comparator gte 29 0 0 [] ∷ []) ∷ (comparator gte 0 0 0 [] ∷ []) ∷ []))
    ∷ row both (9 ∷ 126 ∷ 9 ∷ 48 ∷ 48 ∷ 32 ∷ []) Err
    ∷ row both (bytes "~>0.29.200.29.20") Err
    ∷ row both (94 ∷ 9 ∷ 49 ∷ 51 ∷ 53 ∷ 54 ∷ 57 ∷ 43 ∷ 49 ∷ 54 ∷ 55 ∷ 44 ∷ 9 ∷ 32 ∷ 126 ∷ 62 ∷ 120 ∷ 32 ∷ []) Err
    ∷ row both (bytes "     >4.11|| X.3 -  0.x") (Ok ((comparator gt 4 11 0 [] ∷ []) ∷ (comparator lt 1 0 0 [] ∷ []) ∷ []))
    ∷ row both (bytes "<=29.0.17-27") (Ok ((comparator lte 29 0 17 (number 27 ∷ []) ∷ []) ∷ []))
    ∷ row (Cargo ∷ []) (32 ∷ 32 ∷ 61 ∷ 32 ∷ 32 ∷ 49 ∷ 55 ∷ 46 ∷ 50 ∷ 51 ∷ 9 ∷ 32 ∷ 32 ∷ 48 ∷ 46 ∷ 49 ∷ 55 ∷ 46 ∷ 48 ∷ []) (Ok ((comparator gte 17 23 0 [] ∷ comparator lt 17 24 0 [] ∷ comparator gte 0 17 0 [] ∷ comparator lt 0 18 0 [] ∷ []) ∷ []))
    ∷ row (Npm ∷ []) (32 ∷ 32 ∷ 61 ∷ 32 ∷ 32 ∷ 49 ∷ 55 ∷ 46 ∷ 50 ∷ 51 ∷ 9 ∷ 32 ∷ 32 ∷ 48 ∷ 46 ∷ 49 ∷ 55 ∷ 46 ∷ 48 ∷ []) (Ok ((comparator gte 17 23 0 [] ∷ comparator lt 17 24 0 [] ∷ comparator eq 0 17 0 [] ∷ []) ∷ []))
    ∷ row both (bytes " ->12.29.") Err
    ∷ row both (94 ∷ 9 ∷ 32 ∷ 32 ∷ 32 ∷ 32 ∷ 48 ∷ 46 ∷ 49 ∷ 50 ∷ 124 ∷ 124 ∷ 60 ∷ 61 ∷ 9 ∷ 32 ∷ 32 ∷ 9 ∷ 32 ∷ 88 ∷ 46 ∷ 120 ∷ 46 ∷ 48 ∷ 45 ∷ 98 ∷ []) (Ok ((comparator gte 0 12 0 [] ∷ comparator lt 0 13 0 [] ∷ []) ∷ (comparator gte 0 0 0 [] ∷ []) ∷ []))
    ∷ row both (bytes " z= 24.024.0") Err
    ∷ row both (49 ∷ 54 ∷ 46 ∷ 52 ∷ 46 ∷ 49 ∷ 48 ∷ 45 ∷ 118 ∷ 49 ∷ 57 ∷ 97 ∷ 32 ∷ 32 ∷ 32 ∷ 45 ∷ 9 ∷ 9 ∷ 32 ∷ 9 ∷ 9 ∷ 9 ∷ 55 ∷ 46 ∷ 50 ∷ 52 ∷ 46 ∷ 42 ∷ 9 ∷ []) (Ok ((comparator gte 16 4 10 (text 0 (bytes "v19a") ∷ []) ∷ comparator lt 7 25 0 [] ∷ []) ∷ []))
    ∷ row both (9 ∷ 9 ∷ 126 ∷ 50 ∷ 53 ∷ 32 ∷ 124 ∷ 124 ∷ 62 ∷ 9 ∷ 1633 ∷ 55 ∷ 1633 ∷ 53 ∷ 50 ∷ 55 ∷ 55 ∷ 52 ∷ 49 ∷ 52 ∷ 55 ∷ 57 ∷ []) Err
    ∷ row both (32 ∷ 32 ∷ 60 ∷ 61 ∷ 32 ∷ 32 ∷ 32 ∷ 9 ∷ 9 ∷ 57 ∷ 53 ∷ 53 ∷ 51 ∷ 56 ∷ 56 ∷ 49 ∷ 49 ∷ 48 ∷ 53 ∷ 54 ∷ 49 ∷ 46 ∷ 48 ∷ 9 ∷ 9 ∷ 32 ∷ 62 ∷ 50 ∷ 48 ∷ 46 ∷ 57 ∷ 46 ∷ 48 ∷ 45 ∷ 97 ∷ 57 ∷ 9 ∷ 32 ∷ []) (Ok ((comparator lt 955388110561 1 0 [] ∷ comparator gt 20 9 0 (text 0 (bytes "a9") ∷ []) ∷ []) ∷ []))
    ∷ row both (32 ∷ 9 ∷ 32 ∷ 32 ∷ 9 ∷ 62 ∷ 32 ∷ 50 ∷ 56 ∷ 32 ∷ []) (Ok ((comparator gt 28 0 0 [] ∷ []) ∷ []))
    ∷ row both (bytes ">0 27.2") (Ok ((comparator gt 0 0 0 [] ∷ comparator gte 27 2 0 [] ∷ comparator lt 27 3 0 [] ∷ []) ∷ []))
    ∷ row both (bytes "z   ") Err
    ∷ row both (60 ∷ 48 ∷ 46 ∷ 65290 ∷ 48 ∷ 46 ∷ 50 ∷ 55 ∷ 43 ∷ 114 ∷ 99 ∷ 46 ∷ 114 ∷ 99 ∷ 65 ∷ 48 ∷ 46 ∷ 53 ∷ 32 ∷ 32 ∷ []) Err
    ∷ row both (49 ∷ 48 ∷ 46 ∷ 48 ∷ 46 ∷ 49 ∷ 45 ∷ 65297 ∷ 97 ∷ 46 ∷ 120 ∷ 57 ∷ 97 ∷ 32 ∷ 32 ∷ 45 ∷ 9 ∷ 32 ∷ 9 ∷ 49 ∷ 32 ∷ []) Err
    ∷ row both (126 ∷ 62 ∷ 32 ∷ 32 ∷ 52 ∷ 46 ∷ 49 ∷ 52 ∷ 46 ∷ 42 ∷ 45 ∷ 97 ∷ 46 ∷ 114 ∷ 99 ∷ 120 ∷ 46 ∷ 50 ∷ 50 ∷ 32 ∷ 32 ∷ 32 ∷ 32 ∷ 46 ∷ 32 ∷ 60 ∷ 9 ∷ 51 ∷ 46 ∷ 50 ∷ 54 ∷ 46 ∷ 48 ∷ 9 ∷ []) Err
    ∷ row both (32 ∷ 32 ∷ 124 ∷ 124 ∷ 61 ∷ 48 ∷ 46 ∷ 57 ∷ 46 ∷ 50 ∷ 48 ∷ 9 ∷ 9 ∷ 9 ∷ 126 ∷ 62 ∷ 49 ∷ 51 ∷ 9 ∷ 32 ∷ 32 ∷ 9 ∷ 9 ∷ 124 ∷ 124 ∷ 32 ∷ 60 ∷ 32 ∷ 50 ∷ 57 ∷ 46 ∷ 48 ∷ []) (Ok ((comparator gte 0 0 0 [] ∷ []) ∷ (comparator eq 0 9 20 [] ∷ comparator gte 13 0 0 [] ∷ comparator lt 14 0 0 [] ∷ []) ∷ (comparator lt 29 0 0 [] ∷ []) ∷ []))
    ∷ row both (9 ∷ 62 ∷ 32 ∷ 45 ∷ 50 ∷ 46 ∷ 49 ∷ 56 ∷ 46 ∷ 49 ∷ 57 ∷ []) Err
    ∷ row both (61 ∷ 9 ∷ 48 ∷ 9 ∷ 62 ∷ 61 ∷ 48 ∷ 9 ∷ 32 ∷ 32 ∷ 32 ∷ 32 ∷ 124 ∷ 124 ∷ 9 ∷ 32 ∷ 62 ∷ 9 ∷ 32 ∷ 32 ∷ 9 ∷ 32 ∷ 42 ∷ 46 ∷ 57 ∷ 50 ∷ 51 ∷ 51 ∷ 57 ∷ 53 ∷ 57 ∷ 51 ∷ 32 ∷ 32 ∷ []) (Ok ((comparator gte 0 0 0 [] ∷ comparator lt 1 0 0 [] ∷ comparator gte 0 0 0 [] ∷ []) ∷ (comparator lt 0 0 0 [] ∷ []) ∷ []))
    ∷ row both (10 ∷ 48 ∷ 46 ∷ 48 ∷ 32 ∷ 32 ∷ 32 ∷ 45 ∷ 32 ∷ 32 ∷ 48 ∷ 46 ∷ 49 ∷ 49 ∷ 46 ∷ 48 ∷ 45 ∷ 118 ∷ 49 ∷ 65 ∷ 124 ∷ 124 ∷ 32 ∷ 32 ∷ 32 ∷ 32 ∷ 9 ∷ 9 ∷ 32 ∷ 124 ∷ 124 ∷ 32 ∷ 60 ∷ 61 ∷ 49 ∷ 9 ∷ []) Err
    ∷ row both (32 ∷ 32 ∷ 48 ∷ 46 ∷ 57 ∷ 46 ∷ 51 ∷ 9 ∷ 45 ∷ 9 ∷ 54 ∷ 46 ∷ 48 ∷ 46 ∷ 48 ∷ 32 ∷ []) (Ok ((comparator gte 0 9 3 [] ∷ comparator lte 6 0 0 [] ∷ []) ∷ []))
    ∷ row (Cargo ∷ []) (bytes " 23.29.3 ") (Ok ((comparator gte 23 29 3 [] ∷ comparator lt 24 0 0 [] ∷ []) ∷ []))
    ∷ row (Npm ∷ []) (bytes " 23.29.3 ") (Ok ((comparator eq 23 29 3 [] ∷ []) ∷ []))
    ∷ row both (95 ∷ 32 ∷ 32 ∷ 32 ∷ 9 ∷ 32 ∷ []) Err
    ∷ row both (bytes " >= 0>= 0 0") Err
    ∷ row both (bytes "<  15.23.") Err
    ∷ row both (9 ∷ 32 ∷ 61 ∷ 9 ∷ 32 ∷ 48 ∷ 46 ∷ 54 ∷ 56 ∷ 58 ∷ 50 ∷ 55 ∷ 54 ∷ 54 ∷ 48 ∷ 51 ∷ 50 ∷ 46 ∷ 48 ∷ []) Err
    ∷ row both (32 ∷ 50 ∷ 54 ∷ 46 ∷ 54 ∷ 46 ∷ 54 ∷ 44 ∷ 32 ∷ 32 ∷ 32 ∷ 61 ∷ 9 ∷ 128 ∷ 48 ∷ 46 ∷ 49 ∷ 53 ∷ 46 ∷ 50 ∷ 51 ∷ 43 ∷ 114 ∷ 99 ∷ []) Err
    ∷ row both (32 ∷ 9 ∷ []) (Ok ((comparator gte 0 0 0 [] ∷ []) ∷ []))
    ∷ row both (48 ∷ 46 ∷ 48 ∷ 46 ∷ 49 ∷ 51 ∷ 44 ∷ 32 ∷ 9 ∷ 32 ∷ 118 ∷ 9 ∷ 9 ∷ 48 ∷ 46 ∷ 48 ∷ 46 ∷ 50 ∷ 54 ∷ 32 ∷ 124 ∷ 124 ∷ 9 ∷ 32 ∷ 126 ∷ 32 ∷ 32 ∷ 9 ∷ 32 ∷ 32 ∷ 50 ∷ 49 ∷ 46 ∷ 49 ∷ 48 ∷ 46 ∷ 120 ∷ 9 ∷ 62 ∷ 48 ∷ []) Err
    ∷ row both (62 ∷ 48 ∷ 46 ∷ 57 ∷ 46 ∷ 57 ∷ 43 ∷ 88 ∷ 46 ∷ 90 ∷ 48 ∷ 44 ∷ 32 ∷ 60 ∷ 9 ∷ 9 ∷ 48 ∷ 46 ∷ 49 ∷ 46 ∷ 48 ∷ []) (Ok ((comparator gt 0 9 9 (text 0 (bytes "X") ∷ text 0 (bytes "Z0") ∷ []) ∷ comparator lt 0 1 0 [] ∷ []) ∷ []))
    ∷ row both (bytes "~>27.*") (Ok ((comparator gte 27 0 0 [] ∷ comparator lt 28 0 0 [] ∷ []) ∷ []))
    ∷ row both (32 ∷ 60 ∷ 61 ∷ 48 ∷ 9 ∷ 9 ∷ []) (Ok ((comparator lt 1 0 0 [] ∷ []) ∷ []))
    ∷ row both (bytes " <=2.15.23+6.X ") (Ok ((comparator lte 2 15 23 (number 6 ∷ text 0 (bytes "X") ∷ []) ∷ []) ∷ []))
    ∷ row both (60 ∷ 120793 ∷ 61 ∷ 32 ∷ 48 ∷ 46 ∷ 65290 ∷ 48 ∷ 46 ∷ 50 ∷ 55 ∷ 45 ∷ 65279 ∷ 49 ∷ 32 ∷ 32 ∷ []) Err
    ∷ row both (62 ∷ 61 ∷ 50 ∷ 48 ∷ 65290 ∷ 46 ∷ 48 ∷ 46 ∷ 50 ∷ 48 ∷ 1633 ∷ 32 ∷ 32 ∷ []) Err
    ∷ row both (32 ∷ 32 ∷ 50 ∷ 49 ∷ 9 ∷ 9 ∷ 128 ∷ 9 ∷ 45 ∷ 32 ∷ 50 ∷ 49 ∷ 46 ∷ 52 ∷ 32 ∷ 32 ∷ []) Err
    ∷ row both (60 ∷ 61 ∷ 48 ∷ 9 ∷ 62 ∷ 32 ∷ 49 ∷ 46 ∷ 88 ∷ 32 ∷ 9 ∷ 32 ∷ 126 ∷ 32 ∷ 49 ∷ 48 ∷ 51 ∷ 57 ∷ 57 ∷ 57 ∷ 50 ∷ 48 ∷ 50 ∷ 52 ∷ 54 ∷ 57 ∷ 57 ∷ 46 ∷ 51 ∷ 46 ∷ 48 ∷ []) (Ok ((comparator lt 1 0 0 [] ∷ comparator gt 1 0 0 [] ∷ comparator gte 1039992024699 3 0 [] ∷ comparator lt 1039992024699 4 0 [] ∷ []) ∷ []))
    ∷ row both (62 ∷ 49 ∷ 52 ∷ 46 ∷ 49 ∷ 51 ∷ 46 ∷ 51 ∷ 43 ∷ 56 ∷ 32 ∷ 9 ∷ []) (Ok ((comparator gt 14 13 3 (number 8 ∷ []) ∷ []) ∷ []))
    ∷ row both (9 ∷ 58 ∷ 32 ∷ 9 ∷ 120 ∷ 45 ∷ 32 ∷ 9 ∷ []) Err
    ∷ row both (9 ∷ 48 ∷ 46 ∷ 120793 ∷ 49 ∷ 52 ∷ 46 ∷ 48 ∷ 32 ∷ 32 ∷ 32 ∷ 9 ∷ 32 ∷ 32 ∷ 45 ∷ 9 ∷ 32 ∷ 48 ∷ 46 ∷ 49 ∷ 52 ∷ 124 ∷ 124 ∷ 32 ∷ 32 ∷ 32 ∷ 9 ∷ 9 ∷ 126 ∷ 62 ∷ 50 ∷ 55 ∷ 46 ∷ 49 ∷ 50 ∷ []) Err
    ∷ row both (62 ∷ 9 ∷ 32 ∷ 94 ∷ 120 ∷ 32 ∷ 9 ∷ 48 ∷ 32 ∷ 9 ∷ 32 ∷ 32 ∷ []) Err
    ∷ row both (9 ∷ 32 ∷ 126 ∷ 88 ∷ 46 ∷ 48 ∷ 46 ∷ 53 ∷ 49 ∷ 50 ∷ 55 ∷ 56 ∷ 50 ∷ 50 ∷ 53 ∷ 49 ∷ 57 ∷ 52 ∷ 51 ∷ 55 ∷ 50 ∷ 52 ∷ 51 ∷ 49 ∷ 56 ∷ 55 ∷ 57 ∷ 43 ∷ 98 ∷ 44 ∷ 32 ∷ 61 ∷ 48 ∷ []) (Ok ((comparator gte 0 0 0 [] ∷ comparator gte 0 0 0 [] ∷ comparator lt 1 0 0 [] ∷ []) ∷ []))
    ∷ row both (32 ∷ 9 ∷ 94 ∷ 9 ∷ 9 ∷ 9 ∷ 32 ∷ 32 ∷ 49 ∷ 49 ∷ 46 ∷ 50 ∷ 49 ∷ 46 ∷ 48 ∷ 43 ∷ 49 ∷ 50 ∷ 124 ∷ 124 ∷ 32 ∷ 32 ∷ 62 ∷ 61 ∷ 9 ∷ []) Err
    ∷ row both (bytes " 5.3.x+axx.x.rc, <=  27.14.X") (Ok ((comparator gte 5 3 0 [] ∷ comparator lt 5 4 0 [] ∷ comparator lt 27 15 0 [] ∷ []) ∷ []))
    ∷ row both (bytes " >16.*.8 <= 0.7, ~>7.13.20.20") Err
    ∷ row both (51 ∷ 46 ∷ 51 ∷ 46 ∷ 48 ∷ 9 ∷ 32 ∷ 32 ∷ 9 ∷ 32 ∷ 45 ∷ 32 ∷ 120 ∷ 46 ∷ 48 ∷ 9 ∷ 32 ∷ 32 ∷ 9 ∷ 32 ∷ 45 ∷ 32 ∷ 120 ∷ []) Err
    ∷ row both (233 ∷ 62 ∷ 32 ∷ 49 ∷ 53 ∷ 46 ∷ 120 ∷ 46 ∷ 49 ∷ 51 ∷ 124 ∷ 124 ∷ 60 ∷ 120 ∷ 46 ∷ 48 ∷ 46 ∷ 49 ∷ 52 ∷ 9 ∷ 233 ∷ 9 ∷ 124 ∷ 124 ∷ 9 ∷ 32 ∷ 9 ∷ 32 ∷ 32 ∷ 65279 ∷ 48 ∷ 46 ∷ 48 ∷ 46 ∷ 51 ∷ []) Err
    ∷ row both (9 ∷ 32 ∷ 9 ∷ 9 ∷ 9 ∷ 126 ∷ 54 ∷ 46 ∷ 49 ∷ 50 ∷ 46 ∷ 50 ∷ 56 ∷ 45 ∷ 90 ∷ 48 ∷ 46 ∷ 114 ∷ 99 ∷ 46 ∷ 50 ∷ 52 ∷ 46 ∷ 120 ∷ 46 ∷ 88 ∷ 65 ∷ 9 ∷ 9 ∷ 32 ∷ 32 ∷ 32 ∷ []) (Ok ((comparator gte 6 12 28 (text 0 (bytes "Z0") ∷ text 0 (bytes "rc") ∷ number 24 ∷ text 0 (bytes "x") ∷ text 0 (bytes "XA") ∷ []) ∷ comparator lt 6 13 0 [] ∷ []) ∷ []))
    ∷ row both (49 ∷ 54 ∷ 8195 ∷ 32 ∷ 45 ∷ 9 ∷ 32 ∷ 32 ∷ 49 ∷ 8195 ∷ 52 ∷ 32 ∷ 9 ∷ []) Err
    ∷ row both (bytes "4.X.7+5 -  0") (Ok ((comparator gte 4 0 0 [] ∷ comparator lt 1 0 0 [] ∷ []) ∷ []))
    ∷ row both (62 ∷ 49 ∷ 48 ∷ 46 ∷ 49 ∷ 50 ∷ 46 ∷ 48 ∷ 9 ∷ 65290 ∷ 32 ∷ 32 ∷ 32 ∷ 32 ∷ 32 ∷ 126 ∷ 62 ∷ 48 ∷ 46 ∷ 50 ∷ 57 ∷ 46 ∷ 50 ∷ 51 ∷ 32 ∷ 126 ∷ 32 ∷ 9 ∷ 49 ∷ 55 ∷ 46 ∷ 48 ∷ 32 ∷ 32 ∷ 128 ∷ []) Err
    ∷ row both (32 ∷ 48 ∷ 46 ∷ 49 ∷ 50 ∷ 46 ∷ 48 ∷ 45 ∷ 50 ∷ 49 ∷ 9 ∷ 32 ∷ 45 ∷ 32 ∷ 32 ∷ 9 ∷ 49 ∷ 54 ∷ 46 ∷ 49 ∷ 49 ∷ 32 ∷ []) (Ok ((comparator gte 0 12 0 (number 21 ∷ []) ∷ comparator lt 16 12 0 [] ∷ []) ∷ []))
    ∷ row both (61 ∷ 48 ∷ 46 ∷ 50 ∷ 50 ∷ 46 ∷ 48 ∷ 45 ∷ 118 ∷ 49 ∷ 57 ∷ 57 ∷ 46 ∷ 49 ∷ 56 ∷ 46 ∷ 49 ∷ 50 ∷ 44 ∷ 9 ∷ 61 ∷ 55 ∷ 46 ∷ 56 ∷ 46 ∷ 88 ∷ 43 ∷ 48 ∷ 46 ∷ 90 ∷ []) (Ok ((comparator eq 0 22 0 (text 0 (bytes "v199") ∷ number 18 ∷ number 12 ∷ []) ∷ comparator gte 7 8 0 [] ∷ comparator lt 7 9 0 [] ∷ []) ∷ []))
    ∷ row both (57 ∷ 46 ∷ 49 ∷ 51 ∷ 46 ∷ 49 ∷ 52 ∷ 32 ∷ 45 ∷ 32 ∷ 9 ∷ 32 ∷ 48 ∷ 46 ∷ 48 ∷ 32 ∷ 124 ∷ 124 ∷ 124 ∷ 124 ∷ 60 ∷ 32 ∷ 9 ∷ 32 ∷ 32 ∷ 32 ∷ 48 ∷ 46 ∷ 88 ∷ 46 ∷ 48 ∷ 45 ∷ 97 ∷ 120 ∷ 46 ∷ 49 ∷ 57 ∷ 9 ∷ []) (Ok ((comparator gte 9 13 14 [] ∷ comparator lt 0 1 0 [] ∷ []) ∷ (comparator gte 0 0 0 [] ∷ []) ∷ (comparator lt 0 0 0 [] ∷ []) ∷ []))
    ∷ row both (126 ∷ 62 ∷ 32 ∷ 48 ∷ 46 ∷ 49 ∷ 57 ∷ 46 ∷ 95 ∷ 32 ∷ 9 ∷ []) Err
    ∷ row both (32 ∷ 48 ∷ 46 ∷ 9 ∷ 48 ∷ 46 ∷ 49 ∷ 50 ∷ 43 ∷ 120 ∷ 9 ∷ 32 ∷ 45 ∷ 9 ∷ 9 ∷ 32 ∷ 49 ∷ 53 ∷ 46 ∷ 49 ∷ 9 ∷ []) Err
    ∷ row both (60 ∷ 95 ∷ 61 ∷ 48 ∷ 46 ∷ 48 ∷ 9 ∷ 9 ∷ 32 ∷ 32 ∷ 9 ∷ 32 ∷ 9 ∷ []) Err
    ∷ []

abbrev pub texts₃ : List Row
texts₃ =
    row both (9 ∷ []) (Ok ((comparator gte 0 0 0 [] ∷ []) ∷ []))
    ∷ row both (bytes "|") Err
    ∷ row both (bytes "1 || 2") (Ok ((comparator gte 1 0 0 [] ∷ comparator lt 2 0 0 [] ∷ []) ∷ (comparator gte 2 0 0 [] ∷ comparator lt 3 0 0 [] ∷ []) ∷ []))
    ∷ row both (49 ∷ 9 ∷ 50 ∷ []) (Ok ((comparator gte 1 0 0 [] ∷ comparator lt 2 0 0 [] ∷ comparator gte 2 0 0 [] ∷ comparator lt 3 0 0 [] ∷ []) ∷ []))
    ∷ row both (bytes "1 , 2") Err
    ∷ row both (bytes " 1") (Ok ((comparator gte 1 0 0 [] ∷ comparator lt 2 0 0 [] ∷ []) ∷ []))
    ∷ row both (bytes "< =1") Err
    ∷ row both (bytes "~ 1") (Ok ((comparator gte 1 0 0 [] ∷ comparator lt 2 0 0 [] ∷ []) ∷ []))
    ∷ row both (bytes "~~1") Err
    ∷ row both (bytes "1 - 2") (Ok ((comparator gte 1 0 0 [] ∷ comparator lt 3 0 0 [] ∷ []) ∷ []))
    ∷ row both (bytes "1-2") Err
    ∷ row both (bytes "1 - >2") Err
    ∷ row both (bytes "1..2") Err
    ∷ row both (bytes "1.01") Err
    ∷ row both (bytes "x1") Err
    ∷ row both (bytes "1.2.3+") Err
    ∷ row (Cargo ∷ []) (bytes "1.2.3+a-b") (Ok ((comparator gte 1 2 3 (text 0 (bytes "a-b") ∷ []) ∷ comparator lt 2 0 0 [] ∷ []) ∷ []))
    ∷ row (Npm ∷ []) (bytes "1.2.3+a-b") (Ok ((comparator eq 1 2 3 (text 0 (bytes "a-b") ∷ []) ∷ []) ∷ []))
    ∷ row (Cargo ∷ []) (bytes "1.2.3-18446744073709551615") (Ok ((comparator gte 1 2 3 (number 18446744073709551615 ∷ []) ∷ comparator lt 2 0 0 [] ∷ []) ∷ []))
    ∷ row (Npm ∷ []) (bytes "1.2.3-18446744073709551615") (Ok ((comparator eq 1 2 3 (number 18446744073709551615 ∷ []) ∷ []) ∷ []))
    ∷ row (Cargo ∷ []) (bytes "1.2.3 || >1, <=1.2") (Ok ((comparator gte 1 2 3 [] ∷ comparator lt 2 0 0 [] ∷ []) ∷ (comparator gt 1 0 0 [] ∷ comparator lt 1 3 0 [] ∷ []) ∷ []))
    ∷ row (Npm ∷ []) (bytes "1.2.3 || >1, <=1.2") (Ok ((comparator eq 1 2 3 [] ∷ []) ∷ (comparator gt 1 0 0 [] ∷ comparator lt 1 3 0 [] ∷ []) ∷ []))
    ∷ row both (bytes "<*") (Ok ((comparator lt 0 0 0 [] ∷ []) ∷ []))
    ∷ row both (bytes "~>*") (Ok ((comparator gte 0 0 0 [] ∷ []) ∷ []))
    ∷ row both (bytes "<=x") (Ok ((comparator gte 0 0 0 [] ∷ []) ∷ []))
    ∷ row both (bytes "^x") (Ok ((comparator gte 0 0 0 [] ∷ []) ∷ []))
    ∷ row both (bytes ">X") (Ok ((comparator lt 0 0 0 [] ∷ []) ∷ []))
    ∷ row both (bytes "x.2") (Ok ((comparator gte 0 0 0 [] ∷ []) ∷ []))
    ∷ row both (bytes ">=x.2") (Ok ((comparator gte 0 0 0 [] ∷ []) ∷ []))
    ∷ row both (bytes "=X.2.3") (Ok ((comparator gte 0 0 0 [] ∷ []) ∷ []))
    ∷ row both (bytes "~X.2.3") (Ok ((comparator gte 0 0 0 [] ∷ []) ∷ []))
    ∷ row both (bytes "<*.x.3-a") (Ok ((comparator lt 0 0 0 [] ∷ []) ∷ []))
    ∷ row both (bytes "~>*.x.3-a") (Ok ((comparator gte 0 0 0 [] ∷ []) ∷ []))
    ∷ row both (bytes "<=0") (Ok ((comparator lt 1 0 0 [] ∷ []) ∷ []))
    ∷ row both (bytes "^0") (Ok ((comparator gte 0 0 0 [] ∷ comparator lt 1 0 0 [] ∷ []) ∷ []))
    ∷ row both (bytes ">1") (Ok ((comparator gt 1 0 0 [] ∷ []) ∷ []))
    ∷ row both (bytes "1.x") (Ok ((comparator gte 1 0 0 [] ∷ comparator lt 2 0 0 [] ∷ []) ∷ []))
    ∷ row both (bytes ">=1.x") (Ok ((comparator gte 1 0 0 [] ∷ []) ∷ []))
    ∷ row both (bytes "=1.X.*") (Ok ((comparator gte 1 0 0 [] ∷ comparator lt 2 0 0 [] ∷ []) ∷ []))
    ∷ row both (bytes "~1.X.*") (Ok ((comparator gte 1 0 0 [] ∷ comparator lt 2 0 0 [] ∷ []) ∷ []))
    ∷ row both (bytes "<1.*.3") (Ok ((comparator lt 1 0 0 [] ∷ []) ∷ []))
    ∷ row both (bytes "~>1.*.3") (Ok ((comparator gte 1 0 0 [] ∷ comparator lt 2 0 0 [] ∷ []) ∷ []))
    ∷ row both (bytes "<=0.x") (Ok ((comparator lt 1 0 0 [] ∷ []) ∷ []))
    ∷ row both (bytes "^0.x") (Ok ((comparator gte 0 0 0 [] ∷ comparator lt 1 0 0 [] ∷ []) ∷ []))
    ∷ row both (bytes ">0.0") (Ok ((comparator gt 0 0 0 [] ∷ []) ∷ []))
    ∷ row both (bytes "0.2") (Ok ((comparator gte 0 2 0 [] ∷ comparator lt 0 3 0 [] ∷ []) ∷ []))
    ∷ row both (bytes ">=0.2") (Ok ((comparator gte 0 2 0 [] ∷ []) ∷ []))
    ∷ row both (bytes "=1.0") (Ok ((comparator gte 1 0 0 [] ∷ comparator lt 1 1 0 [] ∷ []) ∷ []))
    ∷ row both (bytes "~1.0") (Ok ((comparator gte 1 0 0 [] ∷ comparator lt 1 1 0 [] ∷ []) ∷ []))
    ∷ row both (bytes "<1.2") (Ok ((comparator lt 1 2 0 [] ∷ []) ∷ []))
    ∷ row both (bytes "~>1.2") (Ok ((comparator gte 1 2 0 [] ∷ comparator lt 1 3 0 [] ∷ []) ∷ []))
    ∷ row both (bytes "<=1.2.x") (Ok ((comparator lt 1 3 0 [] ∷ []) ∷ []))
    ∷ row both (bytes "^1.2.x") (Ok ((comparator gte 1 2 0 [] ∷ comparator lt 2 0 0 [] ∷ []) ∷ []))
    ∷ row both (bytes ">0.0.*+b") (Ok ((comparator gt 0 0 0 [] ∷ []) ∷ []))
    ∷ row (Cargo ∷ []) (bytes "0.0.0") (Ok ((comparator gte 0 0 0 [] ∷ comparator lt 0 0 1 [] ∷ []) ∷ []))
    ∷ row (Npm ∷ []) (bytes "0.0.0") (Ok ((comparator eq 0 0 0 [] ∷ []) ∷ []))
    ∷ row both (bytes ">=0.0.0") (Ok ((comparator gte 0 0 0 [] ∷ []) ∷ []))
    ∷ row both (bytes "=0.0.3") (Ok ((comparator eq 0 0 3 [] ∷ []) ∷ []))
    ∷ row both (bytes "~0.0.3") (Ok ((comparator gte 0 0 3 [] ∷ comparator lt 0 1 0 [] ∷ []) ∷ []))
    ∷ row both (bytes "<0.2.0") (Ok ((comparator lt 0 2 0 [] ∷ []) ∷ []))
    ∷ row both (bytes "~>0.2.0") (Ok ((comparator gte 0 2 0 [] ∷ comparator lt 0 3 0 [] ∷ []) ∷ []))
    ∷ row both (bytes "<=0.2.3") (Ok ((comparator lte 0 2 3 [] ∷ []) ∷ []))
    ∷ row both (bytes "^0.2.3") (Ok ((comparator gte 0 2 3 [] ∷ comparator lt 0 3 0 [] ∷ []) ∷ []))
    ∷ row both (bytes ">1.2.3") (Ok ((comparator gt 1 2 3 [] ∷ []) ∷ []))
    ∷ row (Cargo ∷ []) (bytes "1.2.3-a") (Ok ((comparator gte 1 2 3 (text 0 (bytes "a") ∷ []) ∷ comparator lt 2 0 0 [] ∷ []) ∷ []))
    ∷ row (Npm ∷ []) (bytes "1.2.3-a") (Ok ((comparator eq 1 2 3 (text 0 (bytes "a") ∷ []) ∷ []) ∷ []))
    ∷ row both (bytes ">=1.2.3-a") (Ok ((comparator gte 1 2 3 (text 0 (bytes "a") ∷ []) ∷ []) ∷ []))
    ∷ row both (bytes "=0.0.3-0.x-1") (Ok ((comparator eq 0 0 3 (number 0 ∷ text 0 (bytes "x-1") ∷ []) ∷ []) ∷ []))
    ∷ row both (bytes "~0.0.3-0.x-1") (Ok ((comparator gte 0 0 3 (number 0 ∷ text 0 (bytes "x-1") ∷ []) ∷ comparator lt 0 1 0 [] ∷ []) ∷ []))
    ∷ row both (bytes "<1.2.3+b7") (Ok ((comparator lt 1 2 3 (text 0 (bytes "b7") ∷ []) ∷ []) ∷ []))
    ∷ row both (bytes "~>1.2.3+b7") (Ok ((comparator gte 1 2 3 (text 0 (bytes "b7") ∷ []) ∷ comparator lt 1 3 0 [] ∷ []) ∷ []))
    ∷ row both (bytes "<=0.2.3+9.-") (Ok ((comparator lte 0 2 3 (number 9 ∷ text 0 (bytes "-") ∷ []) ∷ []) ∷ []))
    ∷ row both (bytes "^0.2.3+9.-") (Ok ((comparator gte 0 2 3 (number 9 ∷ text 0 (bytes "-") ∷ []) ∷ comparator lt 0 3 0 [] ∷ []) ∷ []))
    ∷ row both (bytes ">18446744073709551614") (Ok ((comparator gt 18446744073709551614 0 0 [] ∷ []) ∷ []))
    ∷ row both (bytes "18446744073709551615") panicked
    ∷ row both (bytes ">=18446744073709551615") (Ok ((comparator gte 18446744073709551615 0 0 [] ∷ []) ∷ []))
    ∷ row both (bytes "=18446744073709551616") panicked
    ∷ row both (bytes "~18446744073709551616") panicked
    ∷ row both (bytes "<18446744073709551615.1") (Ok ((comparator lt 18446744073709551615 1 0 [] ∷ []) ∷ []))
    ∷ row both (bytes "~>18446744073709551615.1") (Ok ((comparator gte 18446744073709551615 1 0 [] ∷ comparator lt 18446744073709551615 2 0 [] ∷ []) ∷ []))
    ∷ row both (bytes "<=1.18446744073709551614") (Ok ((comparator lt 1 18446744073709551615 0 [] ∷ []) ∷ []))
    ∷ row both (bytes "^1.18446744073709551614") (Ok ((comparator gte 1 18446744073709551614 0 [] ∷ comparator lt 2 0 0 [] ∷ []) ∷ []))
    ∷ row both (bytes ">1.18446744073709551615") (Ok ((comparator gt 1 18446744073709551615 0 [] ∷ []) ∷ []))
    ∷ row both (bytes "1.18446744073709551616") panicked
    ∷ row both (bytes ">=1.18446744073709551616") panicked
    ∷ row both (bytes "=0.0.18446744073709551614") (Ok ((comparator eq 0 0 18446744073709551614 [] ∷ []) ∷ []))
    ∷ row both (bytes "~0.0.18446744073709551614") (Ok ((comparator gte 0 0 18446744073709551614 [] ∷ comparator lt 0 1 0 [] ∷ []) ∷ []))
    ∷ row both (bytes "<0.0.18446744073709551615") (Ok ((comparator lt 0 0 18446744073709551615 [] ∷ []) ∷ []))
    ∷ row both (bytes "~>0.0.18446744073709551615") (Ok ((comparator gte 0 0 18446744073709551615 [] ∷ comparator lt 0 1 0 [] ∷ []) ∷ []))
    ∷ row both (bytes "<=0.0.18446744073709551616") panicked
    ∷ row both (bytes "^0.0.18446744073709551616") panicked
    ∷ row both (bytes ">0.18446744073709551615.1") (Ok ((comparator gt 0 18446744073709551615 1 [] ∷ []) ∷ []))
    ∷ row both (bytes "x.18446744073709551616") (Ok ((comparator gte 0 0 0 [] ∷ []) ∷ []))
    ∷ row both (bytes ">=x.18446744073709551616") (Ok ((comparator gte 0 0 0 [] ∷ []) ∷ []))
    ∷ row both (bytes "=1.x.18446744073709551616") (Ok ((comparator gte 1 0 0 [] ∷ comparator lt 2 0 0 [] ∷ []) ∷ []))
    ∷ row both (bytes "~1.x.18446744073709551616") (Ok ((comparator gte 1 0 0 [] ∷ comparator lt 2 0 0 [] ∷ []) ∷ []))
    ∷ row both (bytes "* - 0.x") (Ok ((comparator lt 1 0 0 [] ∷ []) ∷ []))
    ∷ row both (bytes "* - 1.2.3+b.1") (Ok ((comparator lte 1 2 3 (text 0 (bytes "b") ∷ number 1 ∷ []) ∷ []) ∷ []))
    ∷ row both (bytes "1 - *") (Ok ((comparator gte 1 0 0 [] ∷ []) ∷ []))
    ∷ row both (bytes "1 - 1.2.3") (Ok ((comparator gte 1 0 0 [] ∷ comparator lte 1 2 3 [] ∷ []) ∷ []))
    ∷ row both (bytes "1 - 1.2.18446744073709551615") (Ok ((comparator gte 1 0 0 [] ∷ comparator lte 1 2 18446744073709551615 [] ∷ []) ∷ []))
    ∷ row both (bytes "0.x - 1.2") (Ok ((comparator gte 0 0 0 [] ∷ comparator lt 1 3 0 [] ∷ []) ∷ []))
    ∷ row both (bytes "0.x - 18446744073709551615") panicked
    ∷ row both (bytes "1.2 - 1") (Ok ((comparator gte 1 2 0 [] ∷ comparator lt 2 0 0 [] ∷ []) ∷ []))
    ∷ row both (bytes "1.2 - 0.0.3-a") (Ok ((comparator gte 1 2 0 [] ∷ comparator lte 0 0 3 (text 0 (bytes "a") ∷ []) ∷ []) ∷ []))
    ∷ row both (bytes "1.2 - 18446744073709551616") panicked
    ∷ row both (bytes "1.2.X - 1.2.X") (Ok ((comparator gte 1 2 0 [] ∷ comparator lt 1 3 0 [] ∷ []) ∷ []))
    ∷ row both (bytes "1.2.X - 1.18446744073709551615") panicked
    ∷ row both (bytes "1.2.3 - 0.x") (Ok ((comparator gte 1 2 3 [] ∷ comparator lt 1 0 0 [] ∷ []) ∷ []))
    ∷ row both (bytes "1.2.3 - 1.2.3+b.1") (Ok ((comparator gte 1 2 3 [] ∷ comparator lte 1 2 3 (text 0 (bytes "b") ∷ number 1 ∷ []) ∷ []) ∷ []))
    ∷ row both (bytes "0.0.3-a - *") (Ok ((comparator gte 0 0 3 (text 0 (bytes "a") ∷ []) ∷ []) ∷ []))
    ∷ row both (bytes "0.0.3-a - 1.2.3") (Ok ((comparator gte 0 0 3 (text 0 (bytes "a") ∷ []) ∷ comparator lte 1 2 3 [] ∷ []) ∷ []))
    ∷ row both (bytes "0.0.3-a - 1.2.18446744073709551615") (Ok ((comparator gte 0 0 3 (text 0 (bytes "a") ∷ []) ∷ comparator lte 1 2 18446744073709551615 [] ∷ []) ∷ []))
    ∷ row both (bytes "1.2.3+b.1 - 1.2") (Ok ((comparator gte 1 2 3 (text 0 (bytes "b") ∷ number 1 ∷ []) ∷ comparator lt 1 3 0 [] ∷ []) ∷ []))
    ∷ row both (bytes "1.2.3+b.1 - 18446744073709551615") panicked
    ∷ row both (bytes "18446744073709551615 - 1") (Ok ((comparator gte 18446744073709551615 0 0 [] ∷ comparator lt 2 0 0 [] ∷ []) ∷ []))
    ∷ row both (bytes "18446744073709551615 - 0.0.3-a") (Ok ((comparator gte 18446744073709551615 0 0 [] ∷ comparator lte 0 0 3 (text 0 (bytes "a") ∷ []) ∷ []) ∷ []))
    ∷ row both (bytes "1.18446744073709551615 - 1.2") (Ok ((comparator gte 1 18446744073709551615 0 [] ∷ comparator lt 1 3 0 [] ∷ []) ∷ []))
    ∷ row both (bytes "1.2.18446744073709551615 - *") (Ok ((comparator gte 1 2 18446744073709551615 [] ∷ []) ∷ []))
    ∷ row both (bytes "1.2.18446744073709551615 - 1.2.3") (Ok ((comparator gte 1 2 18446744073709551615 [] ∷ comparator lte 1 2 3 [] ∷ []) ∷ []))
    ∷ row both (bytes "18446744073709551616 - 0.x") panicked
    ∷ row both (bytes "18446744073709551616 - 1.2.3+b.1") panicked
    ∷ row both (32 ∷ 62 ∷ 61 ∷ 9 ∷ 32 ∷ 9 ∷ 32 ∷ 32 ∷ 48 ∷ 46 ∷ 49 ∷ 55 ∷ 53 ∷ 48 ∷ 50 ∷ 49 ∷ 49 ∷ 55 ∷ 57 ∷ 48 ∷ 52 ∷ 51 ∷ 52 ∷ 49 ∷ 46 ∷ 52 ∷ 43 ∷ 90 ∷ 48 ∷ 97 ∷ 48 ∷ 45 ∷ 120 ∷ 57 ∷ []) (Ok ((comparator gte 0 17502117904341 4 (text 0 (bytes "Z0a0-x9") ∷ []) ∷ []) ∷ []))
    ∷ row both (57 ∷ 9 ∷ 32 ∷ 9 ∷ 9 ∷ 9 ∷ 48 ∷ 46 ∷ 50 ∷ 48 ∷ 46 ∷ 50 ∷ 9 ∷ 45 ∷ 9 ∷ 50 ∷ 52 ∷ 46 ∷ 49 ∷ 52 ∷ 46 ∷ 49 ∷ 52 ∷ 43 ∷ 118 ∷ 49 ∷ 57 ∷ 48 ∷ 32 ∷ []) Err
    ∷ row both (32 ∷ 9 ∷ 32 ∷ 32 ∷ 9 ∷ 32 ∷ 32 ∷ 58 ∷ 9 ∷ 9 ∷ 32 ∷ 32 ∷ 121 ∷ []) Err
    ∷ row both (32 ∷ 9 ∷ 32 ∷ 32 ∷ 32 ∷ 32 ∷ 124 ∷ 124 ∷ 32 ∷ 32 ∷ 62 ∷ 48 ∷ 46 ∷ 120 ∷ 124 ∷ 124 ∷ 62 ∷ 61 ∷ 42 ∷ 46 ∷ 53 ∷ 46 ∷ 57 ∷ 32 ∷ 32 ∷ 32 ∷ 32 ∷ 32 ∷ []) (Ok ((comparator gte 0 0 0 [] ∷ []) ∷ (comparator gt 0 0 0 [] ∷ []) ∷ (comparator gte 0 0 0 [] ∷ []) ∷ []))
    ∷ row (Cargo ∷ []) (32 ∷ 32 ∷ 32 ∷ 9 ∷ 32 ∷ 51 ∷ 46 ∷ 50 ∷ 55 ∷ 46 ∷ 57 ∷ 45 ∷ 97 ∷ 118 ∷ 49 ∷ 57 ∷ 97 ∷ 65 ∷ []) (Ok ((comparator gte 3 27 9 (text 0 (bytes "av19aA") ∷ []) ∷ comparator lt 4 0 0 [] ∷ []) ∷ []))
    ∷ row (Npm ∷ []) (32 ∷ 32 ∷ 32 ∷ 9 ∷ 32 ∷ 51 ∷ 46 ∷ 50 ∷ 55 ∷ 46 ∷ 57 ∷ 45 ∷ 97 ∷ 118 ∷ 49 ∷ 57 ∷ 97 ∷ 65 ∷ []) (Ok ((comparator eq 3 27 9 (text 0 (bytes "av19aA") ∷ []) ∷ []) ∷ []))
    ∷ row both (9 ∷ 50 ∷ 50 ∷ 46 ∷ 53 ∷ 32 ∷ 9 ∷ 45 ∷ 9 ∷ 32 ∷ 54 ∷ 46 ∷ 48 ∷ 46 ∷ 49 ∷ 52 ∷ 124 ∷ 124 ∷ 32 ∷ 32 ∷ 60 ∷ 50 ∷ 46 ∷ 49 ∷ 50 ∷ 32 ∷ 9 ∷ 9 ∷ 32 ∷ 32 ∷ 9 ∷ 60 ∷ 50 ∷ 57 ∷ 46 ∷ 56 ∷ []) (Ok ((comparator gte 22 5 0 [] ∷ comparator lte 6 0 14 [] ∷ []) ∷ (comparator lt 2 12 0 [] ∷ comparator lt 29 8 0 [] ∷ []) ∷ []))
    ∷ row both (49 ∷ 51 ∷ 46 ∷ 56 ∷ 50 ∷ 55 ∷ 52 ∷ 50 ∷ 48 ∷ 48 ∷ 48 ∷ 48 ∷ 53 ∷ 56 ∷ 50 ∷ 32 ∷ 233 ∷ 32 ∷ 45 ∷ 32 ∷ 42 ∷ 46 ∷ 49 ∷ []) Err
    ∷ row both (32 ∷ 62 ∷ 61 ∷ 9 ∷ []) Err
    ∷ row both (32 ∷ 49 ∷ 46 ∷ 48 ∷ 9 ∷ 45 ∷ 32 ∷ 32 ∷ 9 ∷ 120 ∷ []) (Ok ((comparator gte 1 0 0 [] ∷ []) ∷ []))
    ∷ row both (9 ∷ 88 ∷ 32 ∷ 45 ∷ 32 ∷ 9 ∷ 32 ∷ 51 ∷ 46 ∷ 88 ∷ 46 ∷ 49 ∷ 50 ∷ 43 ∷ 98 ∷ 57 ∷ []) (Ok ((comparator lt 4 0 0 [] ∷ []) ∷ []))
    ∷ row both (32 ∷ 32 ∷ 60 ∷ 61 ∷ 32 ∷ 49 ∷ 50 ∷ 46 ∷ 53 ∷ 46 ∷ 50 ∷ 57 ∷ 45 ∷ 118 ∷ 49 ∷ 45 ∷ 57 ∷ 122 ∷ 46 ∷ 114 ∷ 99 ∷ 9 ∷ 32 ∷ 32 ∷ 61 ∷ 51 ∷ 46 ∷ 48 ∷ 46 ∷ 48 ∷ 45 ∷ 88 ∷ 97 ∷ 9 ∷ 9 ∷ 32 ∷ 9 ∷ 9 ∷ []) (Ok ((comparator lte 12 5 29 (text 0 (bytes "v1-9z") ∷ text 0 (bytes "rc") ∷ []) ∷ comparator eq 3 0 0 (text 0 (bytes "Xa") ∷ []) ∷ []) ∷ []))
    ∷ row both (49 ∷ 49 ∷ 9 ∷ 32 ∷ 45 ∷ 32 ∷ 32 ∷ 50 ∷ 57 ∷ []) (Ok ((comparator gte 11 0 0 [] ∷ comparator lt 30 0 0 [] ∷ []) ∷ []))
    ∷ row both (bytes "X_^2.2") Err
    ∷ row both (9 ∷ 32 ∷ 94 ∷ 32 ∷ 49 ∷ 56 ∷ 52 ∷ 52 ∷ 54 ∷ 55 ∷ 52 ∷ 52 ∷ 48 ∷ 55 ∷ 51 ∷ 55 ∷ 48 ∷ 57 ∷ 53 ∷ 53 ∷ 49 ∷ 54 ∷ 49 ∷ 52 ∷ 46 ∷ 50 ∷ 56 ∷ 46 ∷ 48 ∷ 32 ∷ 32 ∷ 124 ∷ 124 ∷ 32 ∷ 32 ∷ []) (Ok ((comparator gte 18446744073709551614 28 0 [] ∷ comparator lt 18446744073709551615 0 0 [] ∷ []) ∷ (comparator gte 0 0 0 [] ∷ []) ∷ []))
    ∷ row both (bytes "      *   *") (Ok ((comparator gte 0 0 0 [] ∷ comparator gte 0 0 0 [] ∷ []) ∷ []))
    ∷ row both (48 ∷ 46 ∷ 48 ∷ 46 ∷ 49 ∷ 49 ∷ 9 ∷ 45 ∷ 32 ∷ 9 ∷ 32 ∷ 48 ∷ 46 ∷ 54 ∷ 46 ∷ 50 ∷ 53 ∷ 45 ∷ 88 ∷ 9 ∷ 124 ∷ 124 ∷ 32 ∷ 55 ∷ 8195 ∷ 46 ∷ 50 ∷ 55 ∷ 9 ∷ 32 ∷ 45 ∷ 9 ∷ 50 ∷ 51 ∷ 46 ∷ 50 ∷ 53 ∷ []) Err
    ∷ row both (bytes "= 0.23.") Err
    ∷ row both (bytes " 0") (Ok ((comparator gte 0 0 0 [] ∷ comparator lt 1 0 0 [] ∷ []) ∷ []))
    ∷ row both (48 ∷ 46 ∷ 48 ∷ 44 ∷ 32 ∷ 126 ∷ 62 ∷ 50 ∷ 55 ∷ 9 ∷ 124 ∷ 124 ∷ 32 ∷ 48 ∷ 46 ∷ 50 ∷ 1633 ∷ 56 ∷ 46 ∷ 88 ∷ 43 ∷ 90 ∷ 48 ∷ 32 ∷ 32 ∷ 32 ∷ 60 ∷ 61 ∷ 32 ∷ 48 ∷ 46 ∷ 48 ∷ 32 ∷ []) Err
    ∷ row both (60 ∷ 61 ∷ 32 ∷ 9 ∷ 48 ∷ 46 ∷ 50 ∷ 51 ∷ 32 ∷ 60 ∷ []) Err
    ∷ row both (48 ∷ 46 ∷ 49 ∷ 56 ∷ 124 ∷ 46 ∷ 50 ∷ 54 ∷ 32 ∷ 32 ∷ 32 ∷ 32 ∷ 9 ∷ 32 ∷ 45 ∷ 32 ∷ 9 ∷ 32 ∷ 48 ∷ 46 ∷ 57 ∷ 9 ∷ 32 ∷ 48 ∷ 46 ∷ 57 ∷ []) Err
    ∷ row both (bytes "  < ") Err
    ∷ row both (126 ∷ 62 ∷ 50 ∷ 51 ∷ 46 ∷ 51 ∷ 46 ∷ 48 ∷ 45 ∷ 49 ∷ 50 ∷ 32 ∷ 32 ∷ 32 ∷ 126 ∷ 48 ∷ 44 ∷ 9 ∷ 32 ∷ 32 ∷ 32 ∷ 32 ∷ 32 ∷ 126 ∷ 62 ∷ 32 ∷ 49 ∷ 51 ∷ 46 ∷ 49 ∷ 48 ∷ 46 ∷ 50 ∷ 53 ∷ 45 ∷ 120 ∷ 46 ∷ 56 ∷ 32 ∷ 32 ∷ []) (Ok ((comparator gte 23 3 0 (number 12 ∷ []) ∷ comparator lt 23 4 0 [] ∷ comparator gte 0 0 0 [] ∷ comparator lt 1 0 0 [] ∷ comparator gte 13 10 25 (text 0 (bytes "x") ∷ number 8 ∷ []) ∷ comparator lt 13 11 0 [] ∷ []) ∷ []))
    ∷ row both (bytes "^357096665016494.2447543661") (Ok ((comparator gte 357096665016494 2447543661 0 [] ∷ comparator lt 357096665016495 0 0 [] ∷ []) ∷ []))
    ∷ row both (bytes " ~0     ") (Ok ((comparator gte 0 0 0 [] ∷ comparator lt 1 0 0 [] ∷ []) ∷ []))
    ∷ row both (32 ∷ 126 ∷ 62 ∷ 9 ∷ []) Err
    ∷ row both (32 ∷ 32 ∷ 32 ∷ 32 ∷ 32 ∷ 62 ∷ 61 ∷ 9 ∷ 9 ∷ 54 ∷ 46 ∷ 49 ∷ 48 ∷ 44 ∷ 32 ∷ 9 ∷ 32 ∷ 42 ∷ 46 ∷ 120 ∷ 32 ∷ []) (Ok ((comparator gte 6 10 0 [] ∷ comparator gte 0 0 0 [] ∷ []) ∷ []))
    ∷ row both (8195 ∷ 32 ∷ 120 ∷ []) Err
    ∷ row both (61 ∷ 126 ∷ 62 ∷ 48 ∷ 46 ∷ 50 ∷ 42 ∷ 55 ∷ 46 ∷ 50 ∷ 51 ∷ 9 ∷ 51 ∷ 9 ∷ []) Err
    ∷ row both (bytes "26.23.0  -   2.7.11") (Ok ((comparator gte 26 23 0 [] ∷ comparator lte 2 7 11 [] ∷ []) ∷ []))
    ∷ row both (10 ∷ 126 ∷ 62 ∷ 52 ∷ 52 ∷ 56 ∷ 51 ∷ 124 ∷ 51 ∷ 56 ∷ 48 ∷ 49 ∷ 46 ∷ 48 ∷ 9 ∷ []) Err
    ∷ row both (126 ∷ 53 ∷ 46 ∷ 49 ∷ 56 ∷ 44 ∷ 9 ∷ 61 ∷ 42 ∷ 46 ∷ 50 ∷ 51 ∷ 46 ∷ 49 ∷ 54 ∷ 124 ∷ 124 ∷ 32 ∷ 32 ∷ 126 ∷ 62 ∷ 48 ∷ 46 ∷ 50 ∷ 55 ∷ 46 ∷ 49 ∷ 50 ∷ 32 ∷ []) (Ok ((comparator gte 5 18 0 [] ∷ comparator lt 5 19 0 [] ∷ comparator gte 0 0 0 [] ∷ []) ∷ (comparator gte 0 27 12 [] ∷ comparator lt 0 28 0 [] ∷ []) ∷ []))
    ∷ row both (48 ∷ 46 ∷ 55 ∷ 46 ∷ 48 ∷ 45 ∷ 97 ∷ 9 ∷ 32 ∷ 45 ∷ 9 ∷ 9 ∷ 32 ∷ 32 ∷ 32 ∷ 9 ∷ 49 ∷ 52 ∷ 46 ∷ 48 ∷ 46 ∷ 51 ∷ 45 ∷ 50 ∷ 57 ∷ 32 ∷ []) (Ok ((comparator gte 0 7 0 (text 0 (bytes "a") ∷ []) ∷ comparator lte 14 0 3 (number 29 ∷ []) ∷ []) ∷ []))
    ∷ row (Cargo ∷ []) (53 ∷ 46 ∷ 50 ∷ 55 ∷ 46 ∷ 50 ∷ 9 ∷ 32 ∷ 9 ∷ 32 ∷ 48 ∷ 9 ∷ []) (Ok ((comparator gte 5 27 2 [] ∷ comparator lt 6 0 0 [] ∷ comparator gte 0 0 0 [] ∷ comparator lt 1 0 0 [] ∷ []) ∷ []))
    ∷ row (Npm ∷ []) (53 ∷ 46 ∷ 50 ∷ 55 ∷ 46 ∷ 50 ∷ 9 ∷ 32 ∷ 9 ∷ 32 ∷ 48 ∷ 9 ∷ []) (Ok ((comparator eq 5 27 2 [] ∷ comparator gte 0 0 0 [] ∷ comparator lt 1 0 0 [] ∷ []) ∷ []))
    ∷ row both (bytes "2") (Ok ((comparator gte 2 0 0 [] ∷ comparator lt 3 0 0 [] ∷ []) ∷ []))
    ∷ row both (bytes "23.24.23 -  ") Err
    ∷ row both (32 ∷ 9 ∷ 32 ∷ 32 ∷ 32 ∷ 61 ∷ 9 ∷ 50 ∷ 54 ∷ 46 ∷ 48 ∷ 44 ∷ 9 ∷ 61 ∷ 48 ∷ 46 ∷ 50 ∷ 46 ∷ 48 ∷ 9 ∷ 32 ∷ 32 ∷ 9 ∷ 9 ∷ 124 ∷ 124 ∷ 9 ∷ 32 ∷ 62 ∷ 122 ∷ []) Err
    ∷ row both (9 ∷ 32 ∷ 126 ∷ 32 ∷ 32 ∷ 49 ∷ 51 ∷ 46 ∷ 50 ∷ 48 ∷ 46 ∷ 49 ∷ 56 ∷ 52 ∷ 52 ∷ 54 ∷ 55 ∷ []) (Ok ((comparator gte 13 20 184467 [] ∷ comparator lt 13 21 0 [] ∷ []) ∷ []))
    ∷ row both (32 ∷ 62 ∷ 61 ∷ 9 ∷ 32 ∷ 49 ∷ 52 ∷ 46 ∷ 49 ∷ 46 ∷ 50 ∷ 48 ∷ 45 ∷ 45 ∷ 46 ∷ 97 ∷ 32 ∷ 124 ∷ 124 ∷ 124 ∷ 32 ∷ 32 ∷ 62 ∷ 61 ∷ 9 ∷ 124 ∷ 46 ∷ 48 ∷ 32 ∷ 32 ∷ 124 ∷ 124 ∷ 32 ∷ 32 ∷ []) Err
    ∷ row both (9 ∷ 9 ∷ 32 ∷ 47 ∷ 9 ∷ 126 ∷ 32 ∷ 9 ∷ 32 ∷ 9 ∷ 32 ∷ 48 ∷ 9 ∷ []) Err
    ∷ row both (32 ∷ 32 ∷ 62 ∷ 32 ∷ 50 ∷ 49 ∷ 50 ∷ 49 ∷ 55 ∷ 51 ∷ 46 ∷ 48 ∷ 45 ∷ 90 ∷ 122 ∷ 122 ∷ 65 ∷ 120 ∷ 32 ∷ 9 ∷ 94 ∷ 32 ∷ 50 ∷ 46 ∷ 49 ∷ 55 ∷ 46 ∷ 50 ∷ 57 ∷ 43 ∷ 45 ∷ 122 ∷ 32 ∷ []) Err
    ∷ row both (62 ∷ 9 ∷ 48 ∷ 46 ∷ 120 ∷ 46 ∷ 48 ∷ 9 ∷ 126 ∷ 62 ∷ 32 ∷ 128 ∷ 32 ∷ 120 ∷ 46 ∷ 49 ∷ 50 ∷ 46 ∷ 88 ∷ []) Err
    ∷ row both (62 ∷ 61 ∷ 32 ∷ 54 ∷ 124 ∷ 124 ∷ 94 ∷ 48 ∷ 46 ∷ 49 ∷ 48 ∷ 46 ∷ 50 ∷ 55 ∷ 32 ∷ 124 ∷ 124 ∷ 32 ∷ 126 ∷ 62 ∷ 32 ∷ 32 ∷ 42 ∷ 32 ∷ 32 ∷ 32 ∷ 60 ∷ 61 ∷ 9 ∷ 48 ∷ 46 ∷ 50 ∷ 54 ∷ 46 ∷ 48 ∷ []) (Ok ((comparator gte 6 0 0 [] ∷ []) ∷ (comparator gte 0 10 27 [] ∷ comparator lt 0 11 0 [] ∷ []) ∷ (comparator gte 0 0 0 [] ∷ comparator lte 0 26 0 [] ∷ []) ∷ []))
    ∷ row (Cargo ∷ []) (9 ∷ 32 ∷ 9 ∷ 32 ∷ 9 ∷ 50 ∷ 57 ∷ 46 ∷ 54 ∷ 9 ∷ 32 ∷ 32 ∷ 9 ∷ 32 ∷ 124 ∷ 124 ∷ 49 ∷ 46 ∷ 48 ∷ 46 ∷ 50 ∷ 48 ∷ 9 ∷ 32 ∷ 9 ∷ 50 ∷ 48 ∷ 46 ∷ 51 ∷ 46 ∷ 49 ∷ 57 ∷ 45 ∷ 50 ∷ 50 ∷ 32 ∷ []) (Ok ((comparator gte 29 6 0 [] ∷ comparator lt 29 7 0 [] ∷ []) ∷ (comparator gte 1 0 20 [] ∷ comparator lt 2 0 0 [] ∷ comparator gte 20 3 19 (number 22 ∷ []) ∷ comparator lt 21 0 0 [] ∷ []) ∷ []))
    ∷ row (Npm ∷ []) (9 ∷ 32 ∷ 9 ∷ 32 ∷ 9 ∷ 50 ∷ 57 ∷ 46 ∷ 54 ∷ 9 ∷ 32 ∷ 32 ∷ 9 ∷ 32 ∷ 124 ∷ 124 ∷ 49 ∷ 46 ∷ 48 ∷ 46 ∷ 50 ∷ 48 ∷ 9 ∷ 32 ∷ 9 ∷ 50 ∷ 48 ∷ 46 ∷ 51 ∷ 46 ∷ 49 ∷ 57 ∷ 45 ∷ 50 ∷ 50 ∷ 32 ∷ []) (Ok ((comparator gte 29 6 0 [] ∷ comparator lt 29 7 0 [] ∷ []) ∷ (comparator eq 1 0 20 [] ∷ comparator eq 20 3 19 (number 22 ∷ []) ∷ []) ∷ []))
    ∷ row both (9 ∷ 62 ∷ 65297 ∷ 61 ∷ 49 ∷ 65290 ∷ 49 ∷ 9 ∷ 9 ∷ 32 ∷ 32 ∷ 9 ∷ []) Err
    ∷ row both (32 ∷ 32 ∷ 65279 ∷ 9 ∷ 9 ∷ 9 ∷ 60 ∷ 61 ∷ 9 ∷ 49 ∷ 54 ∷ 46 ∷ 50 ∷ 49 ∷ 46 ∷ 49 ∷ 48 ∷ 44 ∷ 32 ∷ 9 ∷ 32 ∷ 1633 ∷ 32 ∷ 32 ∷ 32 ∷ 60 ∷ 32 ∷ 48 ∷ 46 ∷ 49 ∷ 57 ∷ 46 ∷ 55 ∷ 32 ∷ []) Err
    ∷ row both (bytes "X22.9.13+a*.X-z.9") Err
    ∷ row both (32 ∷ 9 ∷ 9 ∷ 32 ∷ 233 ∷ 32 ∷ 50 ∷ 48 ∷ 46 ∷ 52 ∷ 32 ∷ 32 ∷ 45 ∷ 9 ∷ 32 ∷ 50 ∷ 56 ∷ 233 ∷ 32 ∷ 32 ∷ []) Err
    ∷ row both (49 ∷ 46 ∷ 42 ∷ 32 ∷ 45 ∷ 32 ∷ 32 ∷ 32 ∷ 50 ∷ 49 ∷ 46 ∷ 54 ∷ 46 ∷ 50 ∷ 51 ∷ 32 ∷ 9 ∷ []) (Ok ((comparator gte 1 0 0 [] ∷ comparator lte 21 6 23 [] ∷ []) ∷ []))
    ∷ row both (10 ∷ 32 ∷ []) Err
    ∷ row both (9 ∷ 60 ∷ 61 ∷ 48 ∷ 46 ∷ 48 ∷ 9 ∷ 49 ∷ 10 ∷ []) Err
    ∷ row both (9 ∷ 60 ∷ 61 ∷ 32 ∷ 52 ∷ 46 ∷ 48 ∷ 46 ∷ 50 ∷ 48 ∷ 90 ∷ 46 ∷ 57 ∷ 124 ∷ 124 ∷ 32 ∷ 9 ∷ 60 ∷ 32 ∷ 32 ∷ 9 ∷ 32 ∷ 9 ∷ 49 ∷ 48 ∷ 50 ∷ 57 ∷ 51 ∷ 54 ∷ 55 ∷ 52 ∷ 51 ∷ 57 ∷ 46 ∷ 49 ∷ 42 ∷ 32 ∷ []) Err
    ∷ row both (9 ∷ 9 ∷ 62 ∷ 9 ∷ 32 ∷ 120 ∷ 32 ∷ 32 ∷ 9 ∷ 9 ∷ 9 ∷ []) (Ok ((comparator lt 0 0 0 [] ∷ []) ∷ []))
    ∷ row both (bytes "<=1_.X. ") Err
    ∷ row both (49 ∷ 55 ∷ 9 ∷ 32 ∷ 45 ∷ 9 ∷ 32 ∷ 9 ∷ 32 ∷ 9 ∷ 32 ∷ 50 ∷ 52 ∷ 32 ∷ 9 ∷ 9 ∷ 32 ∷ 9 ∷ []) (Ok ((comparator gte 17 0 0 [] ∷ comparator lt 25 0 0 [] ∷ []) ∷ []))
    ∷ row both (50 ∷ 65297 ∷ 56 ∷ 46 ∷ 50 ∷ 46 ∷ 49 ∷ 49 ∷ 9 ∷ 45 ∷ 32 ∷ 8195 ∷ 128 ∷ 32 ∷ 32 ∷ 50 ∷ 46 ∷ 49 ∷ 46 ∷ 53 ∷ 9 ∷ []) Err
    ∷ row both (32 ∷ 32 ∷ 9 ∷ 9 ∷ 65279 ∷ 32 ∷ 62 ∷ 61 ∷ 50 ∷ 48 ∷ 32 ∷ 124 ∷ 124 ∷ 126 ∷ 49 ∷ 65290 ∷ 54 ∷ 46 ∷ 57 ∷ 50 ∷ 48 ∷ 160 ∷ 57 ∷ 49 ∷ 51 ∷ 32 ∷ []) Err
    ∷ row both (9 ∷ 60 ∷ 32 ∷ 49 ∷ 56 ∷ 46 ∷ 50 ∷ 49 ∷ 46 ∷ 120 ∷ 44 ∷ 9 ∷ 32 ∷ 9 ∷ 62 ∷ 61 ∷ 32 ∷ 32 ∷ 9 ∷ 94 ∷ 9 ∷ 32 ∷ 50 ∷ 48 ∷ 46 ∷ 51 ∷ 46 ∷ 120 ∷ 32 ∷ 48 ∷ 46 ∷ 48 ∷ 46 ∷ 49 ∷ 51 ∷ 43 ∷ 90 ∷ 45 ∷ 9 ∷ 32 ∷ []) Err
    ∷ row both (bytes "X.20 ") (Ok ((comparator gte 0 0 0 [] ∷ []) ∷ []))
    ∷ row both (32 ∷ 32 ∷ 60 ∷ 32 ∷ 9 ∷ 32 ∷ 9 ∷ 32 ∷ 48 ∷ 46 ∷ 48 ∷ 46 ∷ 50 ∷ 52 ∷ 43 ∷ 118 ∷ 49 ∷ 45 ∷ []) (Ok ((comparator lt 0 0 24 (text 0 (bytes "v1-") ∷ []) ∷ []) ∷ []))
    ∷ row (Cargo ∷ []) (126 ∷ 32 ∷ 32 ∷ 32 ∷ 9 ∷ 9 ∷ 88 ∷ 46 ∷ 50 ∷ 54 ∷ 44 ∷ 32 ∷ 32 ∷ 9 ∷ 60 ∷ 32 ∷ 50 ∷ 53 ∷ 46 ∷ 49 ∷ 52 ∷ 46 ∷ 50 ∷ 54 ∷ 45 ∷ 50 ∷ 57 ∷ 32 ∷ 9 ∷ 124 ∷ 124 ∷ 32 ∷ 9 ∷ 49 ∷ 52 ∷ 46 ∷ 48 ∷ 46 ∷ 49 ∷ 50 ∷ []) (Ok ((comparator gte 0 0 0 [] ∷ comparator lt 25 14 26 (number 29 ∷ []) ∷ []) ∷ (comparator gte 14 0 12 [] ∷ comparator lt 15 0 0 [] ∷ []) ∷ []))
    ∷ row (Npm ∷ []) (126 ∷ 32 ∷ 32 ∷ 32 ∷ 9 ∷ 9 ∷ 88 ∷ 46 ∷ 50 ∷ 54 ∷ 44 ∷ 32 ∷ 32 ∷ 9 ∷ 60 ∷ 32 ∷ 50 ∷ 53 ∷ 46 ∷ 49 ∷ 52 ∷ 46 ∷ 50 ∷ 54 ∷ 45 ∷ 50 ∷ 57 ∷ 32 ∷ 9 ∷ 124 ∷ 124 ∷ 32 ∷ 9 ∷ 49 ∷ 52 ∷ 46 ∷ 48 ∷ 46 ∷ 49 ∷ 50 ∷ []) (Ok ((comparator gte 0 0 0 [] ∷ comparator lt 25 14 26 (number 29 ∷ []) ∷ []) ∷ (comparator eq 14 0 12 [] ∷ []) ∷ []))
    ∷ row both (126 ∷ 32 ∷ 32 ∷ 32 ∷ 9 ∷ 32 ∷ 48 ∷ 46 ∷ 97 ∷ 48 ∷ 46 ∷ 50 ∷ 54 ∷ 43 ∷ 50 ∷ 55 ∷ 32 ∷ 32 ∷ 32 ∷ 9 ∷ 32 ∷ 48 ∷ 46 ∷ 48 ∷ 46 ∷ 50 ∷ 54 ∷ 43 ∷ 50 ∷ 55 ∷ []) Err
    ∷ row (Cargo ∷ []) (bytes "4.3.1 ") (Ok ((comparator gte 4 3 1 [] ∷ comparator lt 5 0 0 [] ∷ []) ∷ []))
    ∷ row (Npm ∷ []) (bytes "4.3.1 ") (Ok ((comparator eq 4 3 1 [] ∷ []) ∷ []))
    ∷ row both (9 ∷ 32 ∷ 32 ∷ 9 ∷ 233 ∷ 32 ∷ 62 ∷ 61 ∷ 52 ∷ 233 ∷ 46 ∷ 54 ∷ 32 ∷ []) Err
    ∷ row both (62 ∷ 61 ∷ 42 ∷ 46 ∷ 50 ∷ 51 ∷ 46 ∷ 56 ∷ 45 ∷ 48 ∷ 44 ∷ 9 ∷ 32 ∷ 61 ∷ 32 ∷ 32 ∷ 49 ∷ 46 ∷ 48 ∷ 46 ∷ 48 ∷ 45 ∷ 49 ∷ 54 ∷ 46 ∷ 88 ∷ []) (Ok ((comparator gte 0 0 0 [] ∷ comparator eq 1 0 0 (number 16 ∷ text 0 (bytes "X") ∷ []) ∷ []) ∷ []))
    ∷ row both (32 ∷ 126 ∷ 49 ∷ 54 ∷ 46 ∷ 50 ∷ 57 ∷ 32 ∷ 61 ∷ 9 ∷ 32 ∷ 48 ∷ 32 ∷ 32 ∷ []) (Ok ((comparator gte 16 29 0 [] ∷ comparator lt 16 30 0 [] ∷ comparator gte 0 0 0 [] ∷ comparator lt 1 0 0 [] ∷ []) ∷ []))
    ∷ row both (32 ∷ 9 ∷ 61 ∷ 50 ∷ 50 ∷ 46 ∷ 88 ∷ 44 ∷ 9 ∷ 32 ∷ 126 ∷ 9 ∷ 32 ∷ 48 ∷ 46 ∷ 48 ∷ 46 ∷ 50 ∷ 56 ∷ 124 ∷ 124 ∷ 62 ∷ 61 ∷ 32 ∷ 32 ∷ 49 ∷ 53 ∷ 32 ∷ 124 ∷ 124 ∷ 48 ∷ 46 ∷ 50 ∷ 49 ∷ 9 ∷ 9 ∷ 9 ∷ 32 ∷ 32 ∷ []) (Ok ((comparator gte 22 0 0 [] ∷ comparator lt 23 0 0 [] ∷ comparator gte 0 0 28 [] ∷ comparator lt 0 1 0 [] ∷ []) ∷ (comparator gte 15 0 0 [] ∷ []) ∷ (comparator gte 0 21 0 [] ∷ comparator lt 0 22 0 [] ∷ []) ∷ []))
    ∷ row both (bytes "=6||    ~21~.19") Err
    ∷ row both (bytes " z/") Err
    ∷ row both (9 ∷ 88 ∷ 32 ∷ 32 ∷ 45 ∷ 9 ∷ 9 ∷ 32 ∷ 32 ∷ 9 ∷ 9 ∷ 49 ∷ 55 ∷ 52 ∷ 50 ∷ 56 ∷ 53 ∷ 48 ∷ 49 ∷ 48 ∷ 51 ∷ 57 ∷ 51 ∷ 53 ∷ 49 ∷ 56 ∷ 52 ∷ 50 ∷ 51 ∷ 56 ∷ 55 ∷ 50 ∷ []) panicked
    ∷ row both (32 ∷ 9 ∷ 32 ∷ 9 ∷ []) (Ok ((comparator gte 0 0 0 [] ∷ []) ∷ []))
    ∷ row both (62 ∷ 61 ∷ 9 ∷ 32 ∷ 9 ∷ 32 ∷ 32 ∷ 52 ∷ 46 ∷ 120 ∷ 46 ∷ 49 ∷ 56 ∷ 43 ∷ 120 ∷ 46 ∷ 61 ∷ 114 ∷ 99 ∷ []) Err
    ∷ row both (32 ∷ 32 ∷ 9 ∷ 9 ∷ 9 ∷ 60 ∷ 50 ∷ 54 ∷ []) (Ok ((comparator lt 26 0 0 [] ∷ []) ∷ []))
    ∷ row both (32 ∷ 9 ∷ 32 ∷ 32 ∷ 32 ∷ 9 ∷ []) (Ok ((comparator gte 0 0 0 [] ∷ []) ∷ []))
    ∷ row both (126 ∷ 55 ∷ 46 ∷ 53 ∷ 32 ∷ 61 ∷ 50 ∷ 56 ∷ 46 ∷ 49 ∷ 55 ∷ 46 ∷ 49 ∷ 56 ∷ 32 ∷ 32 ∷ 32 ∷ 32 ∷ 9 ∷ 124 ∷ 124 ∷ 9 ∷ 32 ∷ 32 ∷ 32 ∷ 32 ∷ 61 ∷ 32 ∷ 32 ∷ 32 ∷ 32 ∷ 32 ∷ 49 ∷ 52 ∷ []) (Ok ((comparator gte 7 5 0 [] ∷ comparator lt 7 6 0 [] ∷ comparator eq 28 17 18 [] ∷ []) ∷ (comparator gte 14 0 0 [] ∷ comparator lt 15 0 0 [] ∷ []) ∷ []))
    ∷ row both (32 ∷ 48 ∷ 46 ∷ 49 ∷ 56 ∷ 46 ∷ 50 ∷ 52 ∷ 43 ∷ 52 ∷ 53 ∷ 54 ∷ 55 ∷ 55 ∷ 55 ∷ 57 ∷ 32 ∷ 45 ∷ 32 ∷ 9 ∷ 88 ∷ 46 ∷ 50 ∷ 53 ∷ 46 ∷ 48 ∷ 45 ∷ 50 ∷ []) (Ok ((comparator gte 0 18 24 (number 4567779 ∷ []) ∷ []) ∷ []))
    ∷ row both (32 ∷ 32 ∷ 94 ∷ 32 ∷ 9 ∷ 32 ∷ 32 ∷ 32 ∷ 50 ∷ 57 ∷ 46 ∷ 49 ∷ 56 ∷ 46 ∷ 49 ∷ 53 ∷ []) (Ok ((comparator gte 29 18 15 [] ∷ comparator lt 30 0 0 [] ∷ []) ∷ []))
    ∷ row both (9 ∷ 124 ∷ 126 ∷ 62 ∷ 49 ∷ 53 ∷ 46 ∷ 50 ∷ 57 ∷ 46 ∷ 49 ∷ 50 ∷ []) Err
    ∷ row both (9 ∷ 9 ∷ 32 ∷ 32 ∷ 9 ∷ 60 ∷ 61 ∷ 32 ∷ 32 ∷ 9 ∷ 32 ∷ 32 ∷ 55 ∷ 46 ∷ 54 ∷ 46 ∷ 48 ∷ 32 ∷ 32 ∷ 32 ∷ 60 ∷ 61 ∷ 9 ∷ 32 ∷ 49 ∷ 50 ∷ 46 ∷ 88 ∷ 46 ∷ 88 ∷ 45 ∷ 88 ∷ 48 ∷ 8195 ∷ 46 ∷ 114 ∷ 99 ∷ 9 ∷ []) Err
    ∷ row both (120 ∷ 46 ∷ 50 ∷ 57 ∷ 32 ∷ 32 ∷ 32 ∷ 9 ∷ 32 ∷ 45 ∷ 9 ∷ 9 ∷ 32 ∷ 9 ∷ 9 ∷ 32 ∷ 49 ∷ 51 ∷ 51 ∷ 57 ∷ 52 ∷ 55 ∷ 50 ∷ 55 ∷ 46 ∷ 49 ∷ 54 ∷ 46 ∷ 50 ∷ 56 ∷ 32 ∷ 32 ∷ 32 ∷ 9 ∷ 32 ∷ []) (Ok ((comparator lte 13394727 16 28 [] ∷ []) ∷ []))
    ∷ row (Cargo ∷ []) (32 ∷ 32 ∷ 32 ∷ 32 ∷ 32 ∷ 56 ∷ 46 ∷ 48 ∷ 46 ∷ 50 ∷ 9 ∷ 9 ∷ 32 ∷ 126 ∷ 53 ∷ 46 ∷ 48 ∷ 46 ∷ 50 ∷ 54 ∷ []) (Ok ((comparator gte 8 0 2 [] ∷ comparator lt 9 0 0 [] ∷ comparator gte 5 0 26 [] ∷ comparator lt 5 1 0 [] ∷ []) ∷ []))
    ∷ row (Npm ∷ []) (32 ∷ 32 ∷ 32 ∷ 32 ∷ 32 ∷ 56 ∷ 46 ∷ 48 ∷ 46 ∷ 50 ∷ 9 ∷ 9 ∷ 32 ∷ 126 ∷ 53 ∷ 46 ∷ 48 ∷ 46 ∷ 50 ∷ 54 ∷ []) (Ok ((comparator eq 8 0 2 [] ∷ comparator gte 5 0 26 [] ∷ comparator lt 5 1 0 [] ∷ []) ∷ []))
    ∷ row both (32 ∷ 32 ∷ 9 ∷ 9 ∷ 32 ∷ 126 ∷ 48 ∷ 32 ∷ 32 ∷ 61 ∷ 120 ∷ 46 ∷ 51 ∷ 9 ∷ 32 ∷ 9 ∷ 32 ∷ 32 ∷ []) (Ok ((comparator gte 0 0 0 [] ∷ comparator lt 1 0 0 [] ∷ comparator gte 0 0 0 [] ∷ []) ∷ []))
    ∷ row both (9 ∷ 32 ∷ 32 ∷ 9 ∷ 32 ∷ 94 ∷ 48 ∷ []) (Ok ((comparator gte 0 0 0 [] ∷ comparator lt 1 0 0 [] ∷ []) ∷ []))
    ∷ row both (48 ∷ 46 ∷ 48 ∷ 32 ∷ 126 ∷ 48 ∷ 32 ∷ 61 ∷ 53 ∷ 46 ∷ 52 ∷ 46 ∷ 54 ∷ 9 ∷ 32 ∷ 32 ∷ 9 ∷ 9 ∷ []) (Ok ((comparator gte 0 0 0 [] ∷ comparator lt 0 1 0 [] ∷ comparator gte 0 0 0 [] ∷ comparator lt 1 0 0 [] ∷ comparator eq 5 4 6 [] ∷ []) ∷ []))
    ∷ row both (32 ∷ 126 ∷ 62 ∷ 9 ∷ 48 ∷ 46 ∷ 48 ∷ 58 ∷ 46 ∷ 49 ∷ 51 ∷ 32 ∷ 126 ∷ 62 ∷ 9 ∷ 48 ∷ 46 ∷ []) Err
    ∷ row both (9 ∷ 32 ∷ 62 ∷ 50 ∷ 55 ∷ 46 ∷ 51 ∷ 46 ∷ 50 ∷ 51 ∷ 45 ∷ 45 ∷ 46 ∷ 48 ∷ 32 ∷ 62 ∷ 50 ∷ 55 ∷ 46 ∷ 51 ∷ 46 ∷ 50 ∷ 51 ∷ 45 ∷ []) Err
    ∷ row both (32 ∷ 50 ∷ 57 ∷ 46 ∷ 88 ∷ 46 ∷ 50 ∷ 48 ∷ 43 ∷ 88 ∷ 46 ∷ 50 ∷ 54 ∷ 32 ∷ 45 ∷ 32 ∷ 32 ∷ 51 ∷ 46 ∷ 49 ∷ 49 ∷ 46 ∷ 42 ∷ 32 ∷ 9 ∷ []) (Ok ((comparator gte 29 0 0 [] ∷ comparator lt 3 12 0 [] ∷ []) ∷ []))
    ∷ row both (49 ∷ 56 ∷ 46 ∷ 128 ∷ 42 ∷ 46 ∷ 50 ∷ 50 ∷ 32 ∷ 32 ∷ 45 ∷ 9 ∷ 32 ∷ 32 ∷ 48 ∷ 46 ∷ 50 ∷ 55 ∷ 8195 ∷ 46 ∷ 8195 ∷ 49 ∷ 57 ∷ []) Err
    ∷ row both (32 ∷ 60 ∷ 9 ∷ 50 ∷ 55 ∷ 46 ∷ 44 ∷ 9 ∷ 126 ∷ 62 ∷ 48 ∷ 46 ∷ 48 ∷ 46 ∷ 50 ∷ 57 ∷ 32 ∷ []) Err
    ∷ row both (bytes ">=") Err
    ∷ row both (9 ∷ 48 ∷ 46 ∷ 48 ∷ 120793 ∷ 32 ∷ 32 ∷ 9 ∷ 45 ∷ 9 ∷ 55 ∷ []) Err
    ∷ row both (bytes "~ 0.22.16") (Ok ((comparator gte 0 22 16 [] ∷ comparator lt 0 23 0 [] ∷ []) ∷ []))
    ∷ row both (32 ∷ 32 ∷ 57 ∷ 46 ∷ 54 ∷ 32 ∷ 9 ∷ 45 ∷ 32 ∷ 95 ∷ 49 ∷ []) Err
    ∷ row both (32 ∷ 62 ∷ 32 ∷ 9 ∷ 49 ∷ []) (Ok ((comparator gt 1 0 0 [] ∷ []) ∷ []))
    ∷ row both (bytes "x - 0.0.x  x  ") Err
    ∷ row both (bytes " |") Err
    ∷ row both (50 ∷ 46 ∷ 50 ∷ 51 ∷ 62 ∷ 9 ∷ 9 ∷ 9 ∷ 45 ∷ 32 ∷ 120 ∷ 46 ∷ 50 ∷ 52 ∷ 51 ∷ 62 ∷ 9 ∷ 9 ∷ 9 ∷ 45 ∷ 32 ∷ 120 ∷ 46 ∷ 50 ∷ 52 ∷ []) Err
    ∷ row both (126 ∷ 62 ∷ 50 ∷ 51 ∷ 46 ∷ 50 ∷ 49 ∷ 46 ∷ 56 ∷ 32 ∷ 32 ∷ 124 ∷ 124 ∷ 9 ∷ 32 ∷ 61 ∷ 48 ∷ 46 ∷ 50 ∷ 52 ∷ 46 ∷ 57 ∷ 45 ∷ 120 ∷ 120 ∷ 32 ∷ 9 ∷ []) (Ok ((comparator gte 23 21 8 [] ∷ comparator lt 23 22 0 [] ∷ []) ∷ (comparator eq 0 24 9 (text 0 (bytes "xx") ∷ []) ∷ []) ∷ []))
    ∷ row both (120793 ∷ []) Err
    ∷ row both (32 ∷ 32 ∷ 32 ∷ 9 ∷ 49 ∷ 56 ∷ 46 ∷ 48 ∷ 46 ∷ 42 ∷ 9 ∷ 45 ∷ 9 ∷ 32 ∷ 32 ∷ 9 ∷ 32 ∷ 32 ∷ 48 ∷ 46 ∷ 48 ∷ 46 ∷ 50 ∷ 43 ∷ 98 ∷ 97 ∷ 57 ∷ 46 ∷ 50 ∷ 55 ∷ []) (Ok ((comparator gte 18 0 0 [] ∷ comparator lte 0 0 2 (text 0 (bytes "ba9") ∷ number 27 ∷ []) ∷ []) ∷ []))
    ∷ row both (50 ∷ 52 ∷ 46 ∷ 50 ∷ 51 ∷ 46 ∷ 48 ∷ 32 ∷ 45 ∷ 32 ∷ 57 ∷ 124 ∷ 124 ∷ 51 ∷ 46 ∷ 49 ∷ 56 ∷ 46 ∷ 50 ∷ 55 ∷ 45 ∷ 88 ∷ 65 ∷ 65 ∷ 32 ∷ 9 ∷ 45 ∷ 32 ∷ 48 ∷ 46 ∷ 48 ∷ 46 ∷ 50 ∷ 48 ∷ 43 ∷ 98 ∷ 57 ∷ 46 ∷ 98 ∷ []) (Ok ((comparator gte 24 23 0 [] ∷ comparator lt 10 0 0 [] ∷ []) ∷ (comparator gte 3 18 27 (text 0 (bytes "XAA") ∷ []) ∷ comparator lte 0 0 20 (text 0 (bytes "b9") ∷ text 0 (bytes "b") ∷ []) ∷ []) ∷ []))
    ∷ row both (bytes "<0.1.x") (Ok ((comparator lt 0 1 0 [] ∷ []) ∷ []))
    ∷ row both (32 ∷ 48 ∷ 43 ∷ 46 ∷ 50 ∷ 57 ∷ 32 ∷ 9 ∷ 45 ∷ 32 ∷ 48 ∷ 46 ∷ 50 ∷ 56 ∷ 46 ∷ 51 ∷ 32 ∷ 32 ∷ 32 ∷ 32 ∷ 32 ∷ 124 ∷ 124 ∷ 61 ∷ 32 ∷ 48 ∷ 46 ∷ 49 ∷ 57 ∷ 46 ∷ 48 ∷ []) Err
    ∷ row both (32 ∷ 32 ∷ 32 ∷ 32 ∷ 9 ∷ 9 ∷ []) (Ok ((comparator gte 0 0 0 [] ∷ []) ∷ []))
    ∷ row both (62 ∷ 9 ∷ 50 ∷ 53 ∷ 46 ∷ 49 ∷ []) (Ok ((comparator gt 25 1 0 [] ∷ []) ∷ []))
    ∷ row both (9 ∷ 9 ∷ 126 ∷ 62 ∷ 32 ∷ 49 ∷ 56 ∷ 46 ∷ 48 ∷ 46 ∷ 48 ∷ 45 ∷ 118 ∷ 49 ∷ 120 ∷ []) (Ok ((comparator gte 18 0 0 (text 0 (bytes "v1x") ∷ []) ∷ comparator lt 18 1 0 [] ∷ []) ∷ []))
    ∷ row both (9 ∷ 50 ∷ 52 ∷ 46 ∷ 120 ∷ 46 ∷ 51 ∷ 32 ∷ 9 ∷ 9 ∷ 45 ∷ 32 ∷ 9 ∷ 32 ∷ 46 ∷ 53 ∷ 46 ∷ 53 ∷ 47 ∷ 32 ∷ 9 ∷ 50 ∷ 52 ∷ 46 ∷ 120 ∷ 46 ∷ 51 ∷ 32 ∷ 9 ∷ 9 ∷ 45 ∷ 32 ∷ 9 ∷ 32 ∷ 46 ∷ 53 ∷ 46 ∷ 53 ∷ 47 ∷ 32 ∷ []) Err
    ∷ row both (9 ∷ 9 ∷ 32 ∷ 9 ∷ 9 ∷ 62 ∷ 32 ∷ 55 ∷ 46 ∷ 49 ∷ 46 ∷ 57 ∷ 43 ∷ 56 ∷ 9 ∷ 9 ∷ []) (Ok ((comparator gt 7 1 9 (number 8 ∷ []) ∷ []) ∷ []))
    ∷ row both (32 ∷ 32 ∷ 32 ∷ 9 ∷ 32 ∷ 126 ∷ 49 ∷ 54 ∷ 46 ∷ 48 ∷ 46 ∷ 49 ∷ 48 ∷ 45 ∷ 114 ∷ 99 ∷ 122 ∷ []) (Ok ((comparator gte 16 0 10 (text 0 (bytes "rcz") ∷ []) ∷ comparator lt 16 1 0 [] ∷ []) ∷ []))
    ∷ row both (60 ∷ 61 ∷ 9 ∷ 32 ∷ 32 ∷ 32 ∷ 32 ∷ 49 ∷ 46 ∷ 49 ∷ 54 ∷ 46 ∷ 49 ∷ 55 ∷ 32 ∷ 32 ∷ 126 ∷ 62 ∷ 49 ∷ 50 ∷ 48 ∷ 44 ∷ 32 ∷ 62 ∷ 50 ∷ 46 ∷ 42 ∷ 46 ∷ 49 ∷ []) (Ok ((comparator lte 1 16 17 [] ∷ comparator gte 120 0 0 [] ∷ comparator lt 121 0 0 [] ∷ comparator gt 2 0 0 [] ∷ []) ∷ []))
    ∷ row both (60 ∷ 32 ∷ 9 ∷ 9 ∷ 9 ∷ 32 ∷ 49 ∷ 52 ∷ 46 ∷ 49 ∷ 54 ∷ 46 ∷ 49 ∷ 48 ∷ 45 ∷ 49 ∷ 55 ∷ 46 ∷ 88 ∷ 32 ∷ []) (Ok ((comparator lt 14 16 10 (number 17 ∷ text 0 (bytes "X") ∷ []) ∷ []) ∷ []))
    ∷ row both (32 ∷ 9 ∷ 9 ∷ 9 ∷ 9 ∷ 124 ∷ 124 ∷ 32 ∷ 32 ∷ 60 ∷ 61 ∷ 49 ∷ 46 ∷ 49 ∷ 51 ∷ 46 ∷ 49 ∷ 56 ∷ 32 ∷ 9 ∷ []) (Ok ((comparator gte 0 0 0 [] ∷ []) ∷ (comparator lte 1 13 18 [] ∷ []) ∷ []))
    ∷ row both (9 ∷ 9 ∷ 32 ∷ []) (Ok ((comparator gte 0 0 0 [] ∷ []) ∷ []))
    ∷ row both (0 ∷ 9 ∷ 44 ∷ 9 ∷ 44 ∷ []) Err
    ∷ row both (32 ∷ 32 ∷ 9 ∷ 9 ∷ 32 ∷ 126 ∷ 48 ∷ 46 ∷ 42 ∷ 46 ∷ 53 ∷ 50 ∷ 54 ∷ 56 ∷ 53 ∷ 51 ∷ 49 ∷ 51 ∷ 52 ∷ 53 ∷ 51 ∷ 54 ∷ 43 ∷ 98 ∷ 65 ∷ 46 ∷ 48 ∷ 32 ∷ []) (Ok ((comparator gte 0 0 0 [] ∷ comparator lt 1 0 0 [] ∷ []) ∷ []))
    ∷ row both (9 ∷ 50 ∷ 50 ∷ 9 ∷ 32 ∷ 45 ∷ 9 ∷ 9 ∷ 9 ∷ 49 ∷ 32 ∷ []) (Ok ((comparator gte 22 0 0 [] ∷ comparator lt 2 0 0 [] ∷ []) ∷ []))
    ∷ row both (32 ∷ 32 ∷ 32 ∷ 9 ∷ 32 ∷ 49 ∷ 54 ∷ 46 ∷ 50 ∷ 55 ∷ 46 ∷ 51 ∷ 43 ∷ 97 ∷ 32 ∷ 32 ∷ 45 ∷ 9 ∷ 43 ∷ 49 ∷ 50 ∷ 32 ∷ []) Err
    ∷ row both (32 ∷ 32 ∷ 48 ∷ 9 ∷ []) (Ok ((comparator gte 0 0 0 [] ∷ comparator lt 1 0 0 [] ∷ []) ∷ []))
    ∷ row (Cargo ∷ []) (9 ∷ 50 ∷ 53 ∷ 46 ∷ 48 ∷ 46 ∷ 50 ∷ 52 ∷ 45 ∷ 97 ∷ 46 ∷ 90 ∷ 48 ∷ 122 ∷ 48 ∷ 48 ∷ 122 ∷ 48 ∷ []) (Ok ((comparator gte 25 0 24 (text 0 (bytes "a") ∷ text 0 (bytes "Z0z00z0") ∷ []) ∷ comparator lt 26 0 0 [] ∷ []) ∷ []))
    ∷ row (Npm ∷ []) (9 ∷ 50 ∷ 53 ∷ 46 ∷ 48 ∷ 46 ∷ 50 ∷ 52 ∷ 45 ∷ 97 ∷ 46 ∷ 90 ∷ 48 ∷ 122 ∷ 48 ∷ 48 ∷ 122 ∷ 48 ∷ []) (Ok ((comparator eq 25 0 24 (text 0 (bytes "a") ∷ text 0 (bytes "Z0z00z0") ∷ []) ∷ []) ∷ []))
    ∷ row both (9 ∷ 32 ∷ 32 ∷ 32 ∷ 32 ∷ 48 ∷ 46 ∷ 49 ∷ 56 ∷ 46 ∷ 48 ∷ 32 ∷ 45 ∷ 32 ∷ 32 ∷ 32 ∷ 9 ∷ 32 ∷ 32 ∷ 32 ∷ 32 ∷ 48 ∷ 46 ∷ 49 ∷ 56 ∷ 46 ∷ 48 ∷ 32 ∷ 45 ∷ 32 ∷ 32 ∷ 32 ∷ []) Err
    ∷ row both (50 ∷ 57 ∷ 46 ∷ 48 ∷ 46 ∷ 49 ∷ 56 ∷ 52 ∷ 52 ∷ 54 ∷ 55 ∷ 52 ∷ 52 ∷ 48 ∷ 55 ∷ 51 ∷ 55 ∷ 48 ∷ 57 ∷ 53 ∷ 53 ∷ 49 ∷ 54 ∷ 49 ∷ 51 ∷ 45 ∷ 49 ∷ 48 ∷ 46 ∷ 48 ∷ 9 ∷ 9 ∷ 45 ∷ 32 ∷ 49 ∷ 54 ∷ []) (Ok ((comparator gte 29 0 18446744073709551613 (number 10 ∷ number 0 ∷ []) ∷ comparator lt 17 0 0 [] ∷ []) ∷ []))
    ∷ row both (9 ∷ 32 ∷ 32 ∷ 65279 ∷ 9 ∷ 9 ∷ 126 ∷ 50 ∷ 56 ∷ 46 ∷ 50 ∷ 48 ∷ 51 ∷ 65290 ∷ 49 ∷ 53 ∷ 46 ∷ 48 ∷ 32 ∷ 32 ∷ 32 ∷ 32 ∷ 1633 ∷ 9 ∷ []) Err
    ∷ row both (bytes "  >=25.x") (Ok ((comparator gte 25 0 0 [] ∷ []) ∷ []))
    ∷ []

abbrev pub texts₄ : List Row
texts₄ =
    row both (32 ∷ 9 ∷ 32 ∷ []) (Ok ((comparator gte 0 0 0 [] ∷ []) ∷ []))
    ∷ row both (bytes "|||") Err
    ∷ row both (49 ∷ 9 ∷ 124 ∷ 124 ∷ 9 ∷ 50 ∷ []) (Ok ((comparator gte 1 0 0 [] ∷ comparator lt 2 0 0 [] ∷ []) ∷ (comparator gte 2 0 0 [] ∷ comparator lt 3 0 0 [] ∷ []) ∷ []))
    ∷ row both (bytes "1, 2") (Ok ((comparator gte 1 0 0 [] ∷ comparator lt 2 0 0 [] ∷ comparator gte 2 0 0 [] ∷ comparator lt 3 0 0 [] ∷ []) ∷ []))
    ∷ row both (bytes "1,") Err
    ∷ row both (bytes "1 ") (Ok ((comparator gte 1 0 0 [] ∷ comparator lt 2 0 0 [] ∷ []) ∷ []))
    ∷ row both (bytes "> = 1") Err
    ∷ row both (bytes "~> 1") (Ok ((comparator gte 1 0 0 [] ∷ comparator lt 2 0 0 [] ∷ []) ∷ []))
    ∷ row both (bytes "^~1") Err
    ∷ row both (bytes "1  -  2") (Ok ((comparator gte 1 0 0 [] ∷ comparator lt 3 0 0 [] ∷ []) ∷ []))
    ∷ row both (bytes "1 - 2 - 3") Err
    ∷ row both (bytes "1 -") Err
    ∷ row both (bytes "1.2.") Err
    ∷ row both (bytes "1.2.00") Err
    ∷ row both (bytes "xx") Err
    ∷ row both (bytes "1.2.3-1a") Err
    ∷ row both (bytes "1.2.3-a.") Err
    ∷ row (Cargo ∷ []) (bytes "1.2.3-18446744073709551616") (Ok ((comparator gte 1 2 3 (text 0 (bytes "18446744073709551616") ∷ []) ∷ comparator lt 2 0 0 [] ∷ []) ∷ []))
    ∷ row (Npm ∷ []) (bytes "1.2.3-18446744073709551616") (Ok ((comparator eq 1 2 3 (text 0 (bytes "18446744073709551616") ∷ []) ∷ []) ∷ []))
    ∷ row both (bytes "18446744073709551616 1a") Err
    ∷ row both (bytes "<=*") (Ok ((comparator gte 0 0 0 [] ∷ []) ∷ []))
    ∷ row both (bytes "^*") (Ok ((comparator gte 0 0 0 [] ∷ []) ∷ []))
    ∷ row both (bytes ">x") (Ok ((comparator lt 0 0 0 [] ∷ []) ∷ []))
    ∷ row both (bytes "X") (Ok ((comparator gte 0 0 0 [] ∷ []) ∷ []))
    ∷ row both (bytes ">=X") (Ok ((comparator gte 0 0 0 [] ∷ []) ∷ []))
    ∷ row both (bytes "=x.2") (Ok ((comparator gte 0 0 0 [] ∷ []) ∷ []))
    ∷ row both (bytes "~x.2") (Ok ((comparator gte 0 0 0 [] ∷ []) ∷ []))
    ∷ row both (bytes "<X.2.3") (Ok ((comparator lt 0 0 0 [] ∷ []) ∷ []))
    ∷ row both (bytes "~>X.2.3") (Ok ((comparator gte 0 0 0 [] ∷ []) ∷ []))
    ∷ row both (bytes "<=*.x.3-a") (Ok ((comparator gte 0 0 0 [] ∷ []) ∷ []))
    ∷ row both (bytes "^*.x.3-a") (Ok ((comparator gte 0 0 0 [] ∷ []) ∷ []))
    ∷ row both (bytes ">0") (Ok ((comparator gt 0 0 0 [] ∷ []) ∷ []))
    ∷ row both (bytes "1") (Ok ((comparator gte 1 0 0 [] ∷ comparator lt 2 0 0 [] ∷ []) ∷ []))
    ∷ row both (bytes ">=1") (Ok ((comparator gte 1 0 0 [] ∷ []) ∷ []))
    ∷ row both (bytes "=1.x") (Ok ((comparator gte 1 0 0 [] ∷ comparator lt 2 0 0 [] ∷ []) ∷ []))
    ∷ row both (bytes "~1.x") (Ok ((comparator gte 1 0 0 [] ∷ comparator lt 2 0 0 [] ∷ []) ∷ []))
    ∷ row both (bytes "<1.X.*") (Ok ((comparator lt 1 0 0 [] ∷ []) ∷ []))
    ∷ row both (bytes "~>1.X.*") (Ok ((comparator gte 1 0 0 [] ∷ comparator lt 2 0 0 [] ∷ []) ∷ []))
    ∷ row both (bytes "<=1.*.3") (Ok ((comparator lt 2 0 0 [] ∷ []) ∷ []))
    ∷ row both (bytes "^1.*.3") (Ok ((comparator gte 1 0 0 [] ∷ comparator lt 2 0 0 [] ∷ []) ∷ []))
    ∷ row both (bytes ">0.x") (Ok ((comparator gt 0 0 0 [] ∷ []) ∷ []))
    ∷ row both (bytes "0.0") (Ok ((comparator gte 0 0 0 [] ∷ comparator lt 0 1 0 [] ∷ []) ∷ []))
    ∷ row both (bytes ">=0.0") (Ok ((comparator gte 0 0 0 [] ∷ []) ∷ []))
    ∷ row both (bytes "=0.2") (Ok ((comparator gte 0 2 0 [] ∷ comparator lt 0 3 0 [] ∷ []) ∷ []))
    ∷ row both (bytes "~0.2") (Ok ((comparator gte 0 2 0 [] ∷ comparator lt 0 3 0 [] ∷ []) ∷ []))
    ∷ row both (bytes "<1.0") (Ok ((comparator lt 1 0 0 [] ∷ []) ∷ []))
    ∷ row both (bytes "~>1.0") (Ok ((comparator gte 1 0 0 [] ∷ comparator lt 1 1 0 [] ∷ []) ∷ []))
    ∷ row both (bytes "<=1.2") (Ok ((comparator lt 1 3 0 [] ∷ []) ∷ []))
    ∷ row both (bytes "^1.2") (Ok ((comparator gte 1 2 0 [] ∷ comparator lt 2 0 0 [] ∷ []) ∷ []))
    ∷ row both (bytes ">1.2.x") (Ok ((comparator gt 1 2 0 [] ∷ []) ∷ []))
    ∷ row both (bytes "0.0.*+b") (Ok ((comparator gte 0 0 0 [] ∷ comparator lt 0 1 0 [] ∷ []) ∷ []))
    ∷ row both (bytes ">=0.0.*+b") (Ok ((comparator gte 0 0 0 [] ∷ []) ∷ []))
    ∷ row both (bytes "=0.0.0") (Ok ((comparator eq 0 0 0 [] ∷ []) ∷ []))
    ∷ row both (bytes "~0.0.0") (Ok ((comparator gte 0 0 0 [] ∷ comparator lt 0 1 0 [] ∷ []) ∷ []))
    ∷ row both (bytes "<0.0.3") (Ok ((comparator lt 0 0 3 [] ∷ []) ∷ []))
    ∷ row both (bytes "~>0.0.3") (Ok ((comparator gte 0 0 3 [] ∷ comparator lt 0 1 0 [] ∷ []) ∷ []))
    ∷ row both (bytes "<=0.2.0") (Ok ((comparator lte 0 2 0 [] ∷ []) ∷ []))
    ∷ row both (bytes "^0.2.0") (Ok ((comparator gte 0 2 0 [] ∷ comparator lt 0 3 0 [] ∷ []) ∷ []))
    ∷ row both (bytes ">0.2.3") (Ok ((comparator gt 0 2 3 [] ∷ []) ∷ []))
    ∷ row (Cargo ∷ []) (bytes "1.2.3") (Ok ((comparator gte 1 2 3 [] ∷ comparator lt 2 0 0 [] ∷ []) ∷ []))
    ∷ row (Npm ∷ []) (bytes "1.2.3") (Ok ((comparator eq 1 2 3 [] ∷ []) ∷ []))
    ∷ row both (bytes ">=1.2.3") (Ok ((comparator gte 1 2 3 [] ∷ []) ∷ []))
    ∷ row both (bytes "=1.2.3-a") (Ok ((comparator eq 1 2 3 (text 0 (bytes "a") ∷ []) ∷ []) ∷ []))
    ∷ row both (bytes "~1.2.3-a") (Ok ((comparator gte 1 2 3 (text 0 (bytes "a") ∷ []) ∷ comparator lt 1 3 0 [] ∷ []) ∷ []))
    ∷ row both (bytes "<0.0.3-0.x-1") (Ok ((comparator lt 0 0 3 (number 0 ∷ text 0 (bytes "x-1") ∷ []) ∷ []) ∷ []))
    ∷ row both (bytes "~>0.0.3-0.x-1") (Ok ((comparator gte 0 0 3 (number 0 ∷ text 0 (bytes "x-1") ∷ []) ∷ comparator lt 0 1 0 [] ∷ []) ∷ []))
    ∷ row both (bytes "<=1.2.3+b7") (Ok ((comparator lte 1 2 3 (text 0 (bytes "b7") ∷ []) ∷ []) ∷ []))
    ∷ row both (bytes "^1.2.3+b7") (Ok ((comparator gte 1 2 3 (text 0 (bytes "b7") ∷ []) ∷ comparator lt 2 0 0 [] ∷ []) ∷ []))
    ∷ row both (bytes ">0.2.3+9.-") (Ok ((comparator gt 0 2 3 (number 9 ∷ text 0 (bytes "-") ∷ []) ∷ []) ∷ []))
    ∷ row both (bytes "18446744073709551614") (Ok ((comparator gte 18446744073709551614 0 0 [] ∷ comparator lt 18446744073709551615 0 0 [] ∷ []) ∷ []))
    ∷ row both (bytes ">=18446744073709551614") (Ok ((comparator gte 18446744073709551614 0 0 [] ∷ []) ∷ []))
    ∷ row both (bytes "=18446744073709551615") panicked
    ∷ row both (bytes "~18446744073709551615") panicked
    ∷ row both (bytes "<18446744073709551616") panicked
    ∷ row both (bytes "~>18446744073709551616") panicked
    ∷ row both (bytes "<=18446744073709551615.1") (Ok ((comparator lt 18446744073709551615 2 0 [] ∷ []) ∷ []))
    ∷ row both (bytes "^18446744073709551615.1") panicked
    ∷ row both (bytes ">1.18446744073709551614") (Ok ((comparator gt 1 18446744073709551614 0 [] ∷ []) ∷ []))
    ∷ row both (bytes "1.18446744073709551615") panicked
    ∷ row both (bytes ">=1.18446744073709551615") (Ok ((comparator gte 1 18446744073709551615 0 [] ∷ []) ∷ []))
    ∷ row both (bytes "=1.18446744073709551616") panicked
    ∷ row both (bytes "~1.18446744073709551616") panicked
    ∷ row both (bytes "<0.0.18446744073709551614") (Ok ((comparator lt 0 0 18446744073709551614 [] ∷ []) ∷ []))
    ∷ row both (bytes "~>0.0.18446744073709551614") (Ok ((comparator gte 0 0 18446744073709551614 [] ∷ comparator lt 0 1 0 [] ∷ []) ∷ []))
    ∷ row both (bytes "<=0.0.18446744073709551615") (Ok ((comparator lte 0 0 18446744073709551615 [] ∷ []) ∷ []))
    ∷ row both (bytes "^0.0.18446744073709551615") panicked
    ∷ row both (bytes ">0.0.18446744073709551616") panicked
    ∷ row (Cargo ∷ []) (bytes "0.18446744073709551615.1") panicked
    ∷ row (Npm ∷ []) (bytes "0.18446744073709551615.1") (Ok ((comparator eq 0 18446744073709551615 1 [] ∷ []) ∷ []))
    ∷ row both (bytes ">=0.18446744073709551615.1") (Ok ((comparator gte 0 18446744073709551615 1 [] ∷ []) ∷ []))
    ∷ row both (bytes "=x.18446744073709551616") (Ok ((comparator gte 0 0 0 [] ∷ []) ∷ []))
    ∷ row both (bytes "~x.18446744073709551616") (Ok ((comparator gte 0 0 0 [] ∷ []) ∷ []))
    ∷ row both (bytes "<1.x.18446744073709551616") (Ok ((comparator lt 1 0 0 [] ∷ []) ∷ []))
    ∷ row both (bytes "~>1.x.18446744073709551616") (Ok ((comparator gte 1 0 0 [] ∷ comparator lt 2 0 0 [] ∷ []) ∷ []))
    ∷ row both (bytes "* - 1.2") (Ok ((comparator lt 1 3 0 [] ∷ []) ∷ []))
    ∷ row both (bytes "* - 18446744073709551615") panicked
    ∷ row both (bytes "1 - 1") (Ok ((comparator gte 1 0 0 [] ∷ comparator lt 2 0 0 [] ∷ []) ∷ []))
    ∷ row both (bytes "1 - 0.0.3-a") (Ok ((comparator gte 1 0 0 [] ∷ comparator lte 0 0 3 (text 0 (bytes "a") ∷ []) ∷ []) ∷ []))
    ∷ row both (bytes "1 - 18446744073709551616") panicked
    ∷ row both (bytes "0.x - 1.2.X") (Ok ((comparator gte 0 0 0 [] ∷ comparator lt 1 3 0 [] ∷ []) ∷ []))
    ∷ row both (bytes "0.x - 1.18446744073709551615") panicked
    ∷ row both (bytes "1.2 - 0.x") (Ok ((comparator gte 1 2 0 [] ∷ comparator lt 1 0 0 [] ∷ []) ∷ []))
    ∷ row both (bytes "1.2 - 1.2.3+b.1") (Ok ((comparator gte 1 2 0 [] ∷ comparator lte 1 2 3 (text 0 (bytes "b") ∷ number 1 ∷ []) ∷ []) ∷ []))
    ∷ row both (bytes "1.2.X - *") (Ok ((comparator gte 1 2 0 [] ∷ []) ∷ []))
    ∷ row both (bytes "1.2.X - 1.2.3") (Ok ((comparator gte 1 2 0 [] ∷ comparator lte 1 2 3 [] ∷ []) ∷ []))
    ∷ row both (bytes "1.2.X - 1.2.18446744073709551615") (Ok ((comparator gte 1 2 0 [] ∷ comparator lte 1 2 18446744073709551615 [] ∷ []) ∷ []))
    ∷ row both (bytes "1.2.3 - 1.2") (Ok ((comparator gte 1 2 3 [] ∷ comparator lt 1 3 0 [] ∷ []) ∷ []))
    ∷ row both (bytes "1.2.3 - 18446744073709551615") panicked
    ∷ row both (bytes "0.0.3-a - 1") (Ok ((comparator gte 0 0 3 (text 0 (bytes "a") ∷ []) ∷ comparator lt 2 0 0 [] ∷ []) ∷ []))
    ∷ row both (bytes "0.0.3-a - 0.0.3-a") (Ok ((comparator gte 0 0 3 (text 0 (bytes "a") ∷ []) ∷ comparator lte 0 0 3 (text 0 (bytes "a") ∷ []) ∷ []) ∷ []))
    ∷ row both (bytes "0.0.3-a - 18446744073709551616") panicked
    ∷ row both (bytes "1.2.3+b.1 - 1.2.X") (Ok ((comparator gte 1 2 3 (text 0 (bytes "b") ∷ number 1 ∷ []) ∷ comparator lt 1 3 0 [] ∷ []) ∷ []))
    ∷ row both (bytes "1.2.3+b.1 - 1.18446744073709551615") panicked
    ∷ row both (bytes "18446744073709551615 - 0.x") (Ok ((comparator gte 18446744073709551615 0 0 [] ∷ comparator lt 1 0 0 [] ∷ []) ∷ []))
    ∷ row both (bytes "18446744073709551615 - 1.2.3+b.1") (Ok ((comparator gte 18446744073709551615 0 0 [] ∷ comparator lte 1 2 3 (text 0 (bytes "b") ∷ number 1 ∷ []) ∷ []) ∷ []))
    ∷ row both (bytes "1.18446744073709551615 - 1.2.X") (Ok ((comparator gte 1 18446744073709551615 0 [] ∷ comparator lt 1 3 0 [] ∷ []) ∷ []))
    ∷ row both (bytes "1.2.18446744073709551615 - 1") (Ok ((comparator gte 1 2 18446744073709551615 [] ∷ comparator lt 2 0 0 [] ∷ []) ∷ []))
    ∷ row both (bytes "1.2.18446744073709551615 - 0.0.3-a") (Ok ((comparator gte 1 2 18446744073709551615 [] ∷ comparator lte 0 0 3 (text 0 (bytes "a") ∷ []) ∷ []) ∷ []))
    ∷ row both (bytes "18446744073709551616 - 1.2") panicked
    ∷ row both (51 ∷ 46 ∷ 88 ∷ 32 ∷ 45 ∷ 32 ∷ 49 ∷ 49 ∷ 46 ∷ 49 ∷ 54 ∷ 9 ∷ 124 ∷ 124 ∷ 60 ∷ 9 ∷ 32 ∷ 49 ∷ 53 ∷ 46 ∷ 50 ∷ 49 ∷ 46 ∷ 50 ∷ 32 ∷ 32 ∷ []) (Ok ((comparator gte 3 0 0 [] ∷ comparator lt 11 17 0 [] ∷ []) ∷ (comparator lt 15 21 2 [] ∷ []) ∷ []))
    ∷ row both (32 ∷ 32 ∷ 9 ∷ 32 ∷ 9 ∷ 61 ∷ 52 ∷ 46 ∷ 48 ∷ 32 ∷ 32 ∷ 32 ∷ 32 ∷ 32 ∷ 9 ∷ 94 ∷ 32 ∷ 9 ∷ 50 ∷ 56 ∷ 32 ∷ 48 ∷ 46 ∷ 49 ∷ 50 ∷ 32 ∷ 32 ∷ []) (Ok ((comparator gte 4 0 0 [] ∷ comparator lt 4 1 0 [] ∷ comparator gte 28 0 0 [] ∷ comparator lt 29 0 0 [] ∷ comparator gte 0 12 0 [] ∷ comparator lt 0 13 0 [] ∷ []) ∷ []))
    ∷ row both (32 ∷ 57 ∷ 46 ∷ 49 ∷ 52 ∷ 46 ∷ 50 ∷ 49 ∷ 45 ∷ 90 ∷ 120 ∷ 32 ∷ 32 ∷ 32 ∷ 32 ∷ 9 ∷ 32 ∷ 45 ∷ 32 ∷ 32 ∷ 32 ∷ 32 ∷ 32 ∷ 9 ∷ 48 ∷ 46 ∷ 49 ∷ 50 ∷ []) (Ok ((comparator gte 9 14 21 (text 0 (bytes "Zx") ∷ []) ∷ comparator lt 0 13 0 [] ∷ []) ∷ []))
    ∷ row both (32 ∷ 32 ∷ 32 ∷ 9 ∷ 32 ∷ 126 ∷ 62 ∷ 48 ∷ 46 ∷ 48 ∷ 46 ∷ 50 ∷ 55 ∷ 124 ∷ 124 ∷ 9 ∷ 62 ∷ 61 ∷ 32 ∷ 48 ∷ 46 ∷ 50 ∷ 50 ∷ 46 ∷ 49 ∷ 32 ∷ 53 ∷ 46 ∷ 48 ∷ 9 ∷ 9 ∷ 32 ∷ 9 ∷ 9 ∷ []) (Ok ((comparator gte 0 0 27 [] ∷ comparator lt 0 1 0 [] ∷ []) ∷ (comparator gte 0 22 1 [] ∷ comparator gte 5 0 0 [] ∷ comparator lt 5 1 0 [] ∷ []) ∷ []))
    ∷ row both (32 ∷ 9 ∷ 32 ∷ 9 ∷ 32 ∷ 61 ∷ 49 ∷ 48 ∷ 46 ∷ 50 ∷ 56 ∷ 46 ∷ 57 ∷ 45 ∷ 45 ∷ 120 ∷ []) (Ok ((comparator eq 10 28 9 (text 0 (bytes "-x") ∷ []) ∷ []) ∷ []))
    ∷ row both (32 ∷ 51 ∷ 50 ∷ 50 ∷ 51 ∷ 46 ∷ 42 ∷ 44 ∷ 32 ∷ 32 ∷ 32 ∷ 62 ∷ 88 ∷ 46 ∷ 49 ∷ 54 ∷ 44 ∷ 32 ∷ 62 ∷ 48 ∷ 46 ∷ 49 ∷ 54 ∷ 9 ∷ 62 ∷ 61 ∷ 48 ∷ 46 ∷ 48 ∷ 9 ∷ 9 ∷ []) (Ok ((comparator gte 3223 0 0 [] ∷ comparator lt 3224 0 0 [] ∷ comparator lt 0 0 0 [] ∷ comparator gt 0 16 0 [] ∷ comparator gte 0 0 0 [] ∷ []) ∷ []))
    ∷ row both (126 ∷ 32 ∷ 32 ∷ 48 ∷ 46 ∷ 52 ∷ 46 ∷ 49 ∷ 53 ∷ 45 ∷ 90 ∷ 46 ∷ 50 ∷ 49 ∷ 9 ∷ []) (Ok ((comparator gte 0 4 15 (text 0 (bytes "Z") ∷ number 21 ∷ []) ∷ comparator lt 0 5 0 [] ∷ []) ∷ []))
    ∷ row both (32 ∷ 9 ∷ 32 ∷ 32 ∷ 9 ∷ 88 ∷ 46 ∷ 49 ∷ 50 ∷ 46 ∷ 49 ∷ 53 ∷ 43 ∷ 54 ∷ 9 ∷ 9 ∷ 45 ∷ 32 ∷ 32 ∷ 32 ∷ 48 ∷ 46 ∷ 48 ∷ 46 ∷ 49 ∷ 56 ∷ 32 ∷ 32 ∷ []) (Ok ((comparator lte 0 0 18 [] ∷ []) ∷ []))
    ∷ row both (32 ∷ 32 ∷ 49 ∷ 55 ∷ 42 ∷ 9 ∷ 45 ∷ 32 ∷ 48 ∷ 46 ∷ 48 ∷ 46 ∷ 50 ∷ 45 ∷ 49 ∷ 46 ∷ 114 ∷ 99 ∷ 122 ∷ 124 ∷ 124 ∷ 50 ∷ 46 ∷ 47 ∷ 46 ∷ 49 ∷ 52 ∷ 45 ∷ 118 ∷ 49 ∷ 32 ∷ []) Err
    ∷ row both (50 ∷ 54 ∷ 46 ∷ 50 ∷ 51 ∷ 46 ∷ 88 ∷ 43 ∷ 49 ∷ 53 ∷ 46 ∷ 90 ∷ 122 ∷ 9 ∷ 45 ∷ 32 ∷ 9 ∷ 32 ∷ 32 ∷ 32 ∷ 32 ∷ 53 ∷ 9 ∷ []) (Ok ((comparator gte 26 23 0 [] ∷ comparator lt 6 0 0 [] ∷ []) ∷ []))
    ∷ row both (32 ∷ 32 ∷ 32 ∷ 32 ∷ 9 ∷ []) (Ok ((comparator gte 0 0 0 [] ∷ []) ∷ []))
    ∷ row both (bytes "<0.0.2") (Ok ((comparator lt 0 0 2 [] ∷ []) ∷ []))
    ∷ row both (bytes "29.24.") Err
    ∷ row both (60 ∷ 56 ∷ 65279 ∷ 46 ∷ 48 ∷ 160 ∷ 46 ∷ 48 ∷ 45 ∷ 114 ∷ 99 ∷ 122 ∷ 46 ∷ 45 ∷ 48 ∷ 120 ∷ 32 ∷ 61 ∷ 50 ∷ 53 ∷ 32 ∷ 32 ∷ 9 ∷ 32 ∷ 32 ∷ []) Err
    ∷ row both (bytes " <_7.233052221973425866.9 0.") Err
    ∷ row both (126 ∷ 88 ∷ 9 ∷ 50 ∷ 46 ∷ 50 ∷ 54 ∷ 46 ∷ 49 ∷ 51 ∷ 45 ∷ 48 ∷ 46 ∷ 48 ∷ 44 ∷ 32 ∷ 61 ∷ 9 ∷ 32 ∷ 49 ∷ 51 ∷ 32 ∷ 32 ∷ 32 ∷ 62 ∷ 50 ∷ 52 ∷ 46 ∷ 48 ∷ 46 ∷ []) Err
    ∷ row both (bytes "_") Err
    ∷ row both (9 ∷ 32 ∷ 49 ∷ 50 ∷ 46 ∷ 120 ∷ 46 ∷ 50 ∷ 54 ∷ 32 ∷ 32 ∷ 45 ∷ 32 ∷ 32 ∷ 48 ∷ 46 ∷ 48 ∷ 32 ∷ 32 ∷ []) (Ok ((comparator gte 12 0 0 [] ∷ comparator lt 0 1 0 [] ∷ []) ∷ []))
    ∷ row both (bytes "^x.2.0") (Ok ((comparator gte 0 0 0 [] ∷ []) ∷ []))
    ∷ row both (32 ∷ 62 ∷ 61 ∷ 32 ∷ 49 ∷ 46 ∷ 50 ∷ 50 ∷ 46 ∷ 54 ∷ 9 ∷ 9 ∷ 9 ∷ 126 ∷ 32 ∷ 32 ∷ 55 ∷ 46 ∷ 49 ∷ 9 ∷ 61 ∷ 50 ∷ 55 ∷ 44 ∷ 32 ∷ 32 ∷ 9 ∷ 32 ∷ 9 ∷ 9 ∷ 126 ∷ 62 ∷ 49 ∷ 51 ∷ 32 ∷ 9 ∷ []) (Ok ((comparator gte 1 22 6 [] ∷ comparator gte 7 1 0 [] ∷ comparator lt 7 2 0 [] ∷ comparator gte 27 0 0 [] ∷ comparator lt 28 0 0 [] ∷ comparator gte 13 0 0 [] ∷ comparator lt 14 0 0 [] ∷ []) ∷ []))
    ∷ row both (9 ∷ 32 ∷ 32 ∷ 32 ∷ 32 ∷ 60 ∷ 56 ∷ []) (Ok ((comparator lt 8 0 0 [] ∷ []) ∷ []))
    ∷ row both (50 ∷ 56 ∷ 46 ∷ 48 ∷ 32 ∷ 95 ∷ 94 ∷ 49 ∷ 51 ∷ 46 ∷ 49 ∷ 56 ∷ 9 ∷ 124 ∷ 124 ∷ 32 ∷ 61 ∷ 48 ∷ 46 ∷ 53 ∷ 46 ∷ 49 ∷ 53 ∷ 32 ∷ []) Err
    ∷ row both (32 ∷ 9 ∷ 9 ∷ 32 ∷ 32 ∷ 124 ∷ 124 ∷ 32 ∷ 60 ∷ 60 ∷ 9 ∷ 120 ∷ 32 ∷ 54 ∷ 48 ∷ 9 ∷ []) Err
    ∷ row both (50 ∷ 55 ∷ 46 ∷ 49 ∷ 46 ∷ 48 ∷ 9 ∷ 45 ∷ 32 ∷ 49 ∷ 54 ∷ 46 ∷ 48 ∷ 32 ∷ []) (Ok ((comparator gte 27 1 0 [] ∷ comparator lt 16 1 0 [] ∷ []) ∷ []))
    ∷ row both (9 ∷ 32 ∷ 62 ∷ 61 ∷ 50 ∷ 54 ∷ 32 ∷ []) (Ok ((comparator gte 26 0 0 [] ∷ []) ∷ []))
    ∷ row both (62 ∷ 52 ∷ 46 ∷ 50 ∷ 54 ∷ 46 ∷ 49 ∷ 45 ∷ 88 ∷ 9 ∷ 124 ∷ 124 ∷ []) (Ok ((comparator gt 4 26 1 (text 0 (bytes "X") ∷ []) ∷ []) ∷ (comparator gte 0 0 0 [] ∷ []) ∷ []))
    ∷ row both (bytes "v   ") Err
    ∷ row both (9 ∷ 94 ∷ 48 ∷ 46 ∷ 48 ∷ 46 ∷ 49 ∷ 57 ∷ 43 ∷ 65297 ∷ 118 ∷ 49 ∷ 32 ∷ 9 ∷ 32 ∷ 126 ∷ 32 ∷ 32 ∷ 120793 ∷ 32 ∷ 32 ∷ 32 ∷ 55 ∷ 46 ∷ 48 ∷ 233 ∷ 32 ∷ []) Err
    ∷ row both (32 ∷ 32 ∷ 60 ∷ 9 ∷ 54 ∷ 46 ∷ 48 ∷ 9 ∷ 54 ∷ 46 ∷ []) Err
    ∷ row both (32 ∷ 32 ∷ 60 ∷ 61 ∷ 48 ∷ 46 ∷ 50 ∷ 50 ∷ 46 ∷ 48 ∷ 43 ∷ 97 ∷ 124 ∷ 124 ∷ 57 ∷ 46 ∷ 49 ∷ 57 ∷ 46 ∷ 50 ∷ 57 ∷ 45 ∷ 49 ∷ 57 ∷ 9 ∷ 45 ∷ 9 ∷ 32 ∷ 88 ∷ 46 ∷ 53 ∷ []) (Ok ((comparator lte 0 22 0 (text 0 (bytes "a") ∷ []) ∷ []) ∷ (comparator gte 9 19 29 (number 19 ∷ []) ∷ []) ∷ []))
    ∷ row both (32 ∷ 62 ∷ 88 ∷ 46 ∷ 49 ∷ 53 ∷ 46 ∷ 50 ∷ 53 ∷ 43 ∷ 120 ∷ 46 ∷ 45 ∷ 124 ∷ 124 ∷ 126 ∷ 0 ∷ 49 ∷ 56 ∷ 46 ∷ 50 ∷ 48 ∷ 32 ∷ 60 ∷ 50 ∷ 49 ∷ 46 ∷ 50 ∷ 57 ∷ 46 ∷ 56 ∷ 43 ∷ 48 ∷ 46 ∷ 45 ∷ []) Err
    ∷ row both (50 ∷ 56 ∷ 9 ∷ 32 ∷ 45 ∷ 32 ∷ 49 ∷ 54 ∷ 46 ∷ 49 ∷ 49 ∷ 94 ∷ 46 ∷ 49 ∷ 56 ∷ 45 ∷ 90 ∷ 46 ∷ 88 ∷ 97 ∷ 46 ∷ 97 ∷ 122 ∷ []) Err
    ∷ row both (60 ∷ 61 ∷ 9 ∷ 32 ∷ 49 ∷ 57 ∷ 9 ∷ 32 ∷ 32 ∷ 9 ∷ 32 ∷ 32 ∷ 62 ∷ 32 ∷ 54 ∷ 46 ∷ 49 ∷ 56 ∷ 46 ∷ 48 ∷ 44 ∷ 32 ∷ 60 ∷ 61 ∷ 32 ∷ 49 ∷ []) (Ok ((comparator lt 20 0 0 [] ∷ comparator gt 6 18 0 [] ∷ comparator lt 2 0 0 [] ∷ []) ∷ []))
    ∷ row both (bytes "=     1.4.1844674407") (Ok ((comparator eq 1 4 1844674407 [] ∷ []) ∷ []))
    ∷ row both (32 ∷ 126 ∷ 32 ∷ 9 ∷ 50 ∷ 53 ∷ []) (Ok ((comparator gte 25 0 0 [] ∷ comparator lt 26 0 0 [] ∷ []) ∷ []))
    ∷ row both (32 ∷ 9 ∷ 32 ∷ 32 ∷ 9 ∷ 61 ∷ 32 ∷ 51 ∷ 44 ∷ 32 ∷ 126 ∷ 62 ∷ 49 ∷ 49 ∷ 46 ∷ 48 ∷ 46 ∷ 51 ∷ 45 ∷ 49 ∷ 54 ∷ 32 ∷ []) (Ok ((comparator gte 3 0 0 [] ∷ comparator lt 4 0 0 [] ∷ comparator gte 11 0 3 (number 16 ∷ []) ∷ comparator lt 11 1 0 [] ∷ []) ∷ []))
    ∷ row both (49 ∷ 53 ∷ 46 ∷ 49 ∷ 52 ∷ 49 ∷ 56 ∷ 32 ∷ 9 ∷ 32 ∷ 32 ∷ 32 ∷ []) (Ok ((comparator gte 15 1418 0 [] ∷ comparator lt 15 1419 0 [] ∷ []) ∷ []))
    ∷ row both (32 ∷ 32 ∷ 60 ∷ 61 ∷ 32 ∷ 9 ∷ 48 ∷ 46 ∷ 50 ∷ 53 ∷ 46 ∷ 49 ∷ 55 ∷ 43 ∷ 50 ∷ 32 ∷ 126 ∷ 62 ∷ 9 ∷ 50 ∷ 55 ∷ 32 ∷ []) (Ok ((comparator lte 0 25 17 (number 2 ∷ []) ∷ comparator gte 27 0 0 [] ∷ comparator lt 28 0 0 [] ∷ []) ∷ []))
    ∷ row both (60 ∷ 61 ∷ 53 ∷ 46 ∷ 50 ∷ 48 ∷ 54 ∷ 50 ∷ 53 ∷ 51 ∷ 49 ∷ 56 ∷ 9 ∷ 9 ∷ 9 ∷ 32 ∷ 32 ∷ []) (Ok ((comparator lt 5 20625319 0 [] ∷ []) ∷ []))
    ∷ row both (bytes " *") (Ok ((comparator gte 0 0 0 [] ∷ []) ∷ []))
    ∷ row both (bytes "24.0.X+25  -      0.22.0-17.v1x9zza  ") (Ok ((comparator gte 24 0 0 [] ∷ comparator lte 0 22 0 (number 17 ∷ text 0 (bytes "v1x9zza") ∷ []) ∷ []) ∷ []))
    ∷ row both (49 ∷ 52 ∷ 32 ∷ 60 ∷ 9 ∷ 32 ∷ 32 ∷ 32 ∷ 32 ∷ 48 ∷ 46 ∷ 49 ∷ 54 ∷ 46 ∷ 50 ∷ 9 ∷ 124 ∷ 124 ∷ 126 ∷ 51 ∷ 46 ∷ 55 ∷ 46 ∷ 48 ∷ 45 ∷ 49 ∷ 51 ∷ 46 ∷ 90 ∷ 46 ∷ 48 ∷ 32 ∷ 61 ∷ 52 ∷ 46 ∷ 49 ∷ 53 ∷ 46 ∷ 48 ∷ []) (Ok ((comparator gte 14 0 0 [] ∷ comparator lt 15 0 0 [] ∷ comparator lt 0 16 2 [] ∷ []) ∷ (comparator gte 3 7 0 (number 13 ∷ text 0 (bytes "Z") ∷ number 0 ∷ []) ∷ comparator lt 3 8 0 [] ∷ comparator eq 4 15 0 [] ∷ []) ∷ []))
    ∷ row both (bytes "=") Err
    ∷ row both (120793 ∷ 61 ∷ 65290 ∷ 9 ∷ 48 ∷ 46 ∷ 49 ∷ 65297 ∷ 57 ∷ 46 ∷ 48 ∷ 32 ∷ []) Err
    ∷ row both (60 ∷ 9 ∷ 32 ∷ 48 ∷ 44 ∷ 32 ∷ 32 ∷ 126 ∷ 32 ∷ 32 ∷ 55 ∷ 46 ∷ 48 ∷ 32 ∷ 9 ∷ 62 ∷ 61 ∷ 32 ∷ 32 ∷ 48 ∷ 46 ∷ 48 ∷ 46 ∷ 50 ∷ 52 ∷ 43 ∷ 54 ∷ 46 ∷ 120 ∷ 32 ∷ 32 ∷ []) (Ok ((comparator lt 0 0 0 [] ∷ comparator gte 7 0 0 [] ∷ comparator lt 7 1 0 [] ∷ comparator gte 0 0 24 (number 6 ∷ text 0 (bytes "x") ∷ []) ∷ []) ∷ []))
    ∷ row both (32 ∷ 32 ∷ 9 ∷ 32 ∷ 32 ∷ 62 ∷ 61 ∷ 32 ∷ 32 ∷ 52 ∷ 233 ∷ 46 ∷ 88 ∷ 44 ∷ 32 ∷ 94 ∷ 9 ∷ 32 ∷ 32 ∷ 32 ∷ 160 ∷ 32 ∷ 65297 ∷ 50 ∷ 52 ∷ 32 ∷ 61 ∷ 32 ∷ 49 ∷ 51 ∷ 32 ∷ 32 ∷ []) Err
    ∷ row both (62 ∷ 61 ∷ 49 ∷ 48 ∷ 46 ∷ 49 ∷ 48 ∷ 9 ∷ []) (Ok ((comparator gte 10 10 0 [] ∷ []) ∷ []))
    ∷ row both (50 ∷ 57 ∷ 46 ∷ 49 ∷ 54 ∷ 46 ∷ 88 ∷ 43 ∷ 120 ∷ 48 ∷ 48 ∷ 32 ∷ 124 ∷ 124 ∷ 94 ∷ 9 ∷ 50 ∷ 50 ∷ 46 ∷ 49 ∷ 46 ∷ 56 ∷ []) (Ok ((comparator gte 29 16 0 [] ∷ comparator lt 29 17 0 [] ∷ []) ∷ (comparator gte 22 1 8 [] ∷ comparator lt 23 0 0 [] ∷ []) ∷ []))
    ∷ row both (32 ∷ 54 ∷ 32 ∷ 32 ∷ 32 ∷ 32 ∷ 9 ∷ []) (Ok ((comparator gte 6 0 0 [] ∷ comparator lt 7 0 0 [] ∷ []) ∷ []))
    ∷ row both (9 ∷ 9 ∷ 65279 ∷ 61 ∷ 48 ∷ 46 ∷ 48 ∷ 46 ∷ 120 ∷ 45 ∷ 45 ∷ 32 ∷ 32 ∷ 124 ∷ 124 ∷ 62 ∷ 61 ∷ 50 ∷ 57 ∷ 46 ∷ 50 ∷ 51 ∷ 32 ∷ 32 ∷ 50 ∷ 48 ∷ 9 ∷ []) Err
    ∷ row both (124 ∷ 32 ∷ 62 ∷ 32 ∷ 50 ∷ 55 ∷ 46 ∷ 50 ∷ 50 ∷ 46 ∷ 56 ∷ 32 ∷ 126 ∷ 62 ∷ 48 ∷ 44 ∷ 32 ∷ 94 ∷ 9 ∷ 50 ∷ 55 ∷ 46 ∷ 49 ∷ 57 ∷ 46 ∷ 57 ∷ 32 ∷ 32 ∷ []) Err
    ∷ row both (124 ∷ 124 ∷ 32 ∷ 32 ∷ 32 ∷ 32 ∷ 32 ∷ 60 ∷ 32 ∷ 32 ∷ 9 ∷ 9 ∷ 65297 ∷ 32 ∷ 120 ∷ 32 ∷ 32 ∷ 126 ∷ 49 ∷ 53 ∷ 46 ∷ 57 ∷ 46 ∷ 50 ∷ 49 ∷ 45 ∷ 90 ∷ 97 ∷ []) Err
    ∷ row both (bytes ">= *") (Ok ((comparator gte 0 0 0 [] ∷ []) ∷ []))
    ∷ row both (32 ∷ 94 ∷ 9 ∷ 50 ∷ 54 ∷ 46 ∷ 48 ∷ 46 ∷ 49 ∷ 55 ∷ 45 ∷ 49 ∷ 57 ∷ 128 ∷ 9 ∷ 60 ∷ 49 ∷ 57 ∷ 9 ∷ 50 ∷ 128 ∷ 56 ∷ 46 ∷ 160 ∷ 88 ∷ 46 ∷ 49 ∷ 50 ∷ []) Err
    ∷ row both (1633 ∷ 9 ∷ 61 ∷ 32 ∷ 32 ∷ 32 ∷ 32 ∷ 32 ∷ 48 ∷ 46 ∷ 50 ∷ 1633 ∷ 53 ∷ 46 ∷ 48 ∷ 45 ∷ 49 ∷ 50 ∷ 46 ∷ 233 ∷ 49 ∷ 32 ∷ 32 ∷ 60 ∷ 61 ∷ 9 ∷ 48 ∷ 46 ∷ 49 ∷ 46 ∷ 50 ∷ 54 ∷ 45 ∷ 98 ∷ 32 ∷ []) Err
    ∷ row both (61 ∷ 9 ∷ 55 ∷ 55 ∷ 49 ∷ 46 ∷ 48 ∷ 9 ∷ 9 ∷ 124 ∷ 124 ∷ 50 ∷ 55 ∷ 46 ∷ 50 ∷ 55 ∷ 46 ∷ 49 ∷ 51 ∷ 32 ∷ 32 ∷ 9 ∷ 32 ∷ 32 ∷ 32 ∷ 45 ∷ 32 ∷ 120 ∷ 46 ∷ 48 ∷ 46 ∷ 56 ∷ 43 ∷ 45 ∷ 9 ∷ []) (Ok ((comparator gte 771 0 0 [] ∷ comparator lt 771 1 0 [] ∷ []) ∷ (comparator gte 27 27 13 [] ∷ []) ∷ []))
    ∷ row both (bytes "<=25.21") (Ok ((comparator lt 25 22 0 [] ∷ []) ∷ []))
    ∷ row both (bytes "-") Err
    ∷ row both (32 ∷ 32 ∷ 61 ∷ 9 ∷ 52 ∷ 9 ∷ 32 ∷ 32 ∷ 32 ∷ 9 ∷ []) (Ok ((comparator gte 4 0 0 [] ∷ comparator lt 5 0 0 [] ∷ []) ∷ []))
    ∷ row both (32 ∷ 32 ∷ 32 ∷ 9 ∷ 124 ∷ 124 ∷ 32 ∷ 62 ∷ 32 ∷ 32 ∷ 54 ∷ 54 ∷ 52 ∷ 48 ∷ 50 ∷ 56 ∷ 57 ∷ 50 ∷ 55 ∷ 55 ∷ 51 ∷ 49 ∷ []) (Ok ((comparator gte 0 0 0 [] ∷ []) ∷ (comparator gt 664028927731 0 0 [] ∷ []) ∷ []))
    ∷ row both (32 ∷ 32 ∷ 32 ∷ 32 ∷ 32 ∷ 126 ∷ 9 ∷ 32 ∷ 50 ∷ 55 ∷ 46 ∷ 48 ∷ 46 ∷ 54 ∷ []) (Ok ((comparator gte 27 0 6 [] ∷ comparator lt 27 1 0 [] ∷ []) ∷ []))
    ∷ row both (9 ∷ 62 ∷ 32 ∷ 53 ∷ 46 ∷ 48 ∷ 46 ∷ 50 ∷ 54 ∷ 32 ∷ 9 ∷ 9 ∷ 32 ∷ 9 ∷ []) (Ok ((comparator gt 5 0 26 [] ∷ []) ∷ []))
    ∷ row both (9 ∷ 9 ∷ 32 ∷ 32 ∷ 32 ∷ 60 ∷ 9 ∷ 32 ∷ 48 ∷ 43 ∷ 50 ∷ 48 ∷ 46 ∷ 120 ∷ 45 ∷ 120 ∷ 120 ∷ 32 ∷ 32 ∷ 32 ∷ 62 ∷ 32 ∷ 32 ∷ 32 ∷ 32 ∷ 32 ∷ 48 ∷ []) Err
    ∷ row both (32 ∷ 32 ∷ 61 ∷ 9 ∷ 48 ∷ 9 ∷ []) (Ok ((comparator gte 0 0 0 [] ∷ comparator lt 1 0 0 [] ∷ []) ∷ []))
    ∷ row both (9 ∷ 9 ∷ 62 ∷ 32 ∷ 32 ∷ 50 ∷ 55 ∷ 46 ∷ 50 ∷ 65533 ∷ 49 ∷ []) Err
    ∷ row both (32 ∷ 60 ∷ 61 ∷ 9 ∷ 32 ∷ 88 ∷ 46 ∷ 50 ∷ 52 ∷ 46 ∷ 48 ∷ 45 ∷ 114 ∷ 99 ∷ 57 ∷ []) (Ok ((comparator gte 0 0 0 [] ∷ []) ∷ []))
    ∷ row both (32 ∷ 60 ∷ 48 ∷ 9 ∷ 32 ∷ 45 ∷ 9 ∷ 56 ∷ 46 ∷ 49 ∷ 49 ∷ 46 ∷ 49 ∷ 49 ∷ 45 ∷ 97 ∷ 32 ∷ []) Err
    ∷ row both (32 ∷ 9 ∷ 126 ∷ 62 ∷ 32 ∷ 55 ∷ 46 ∷ 49 ∷ 55 ∷ 46 ∷ 50 ∷ 52 ∷ 32 ∷ 9 ∷ 126 ∷ 62 ∷ 32 ∷ 55 ∷ 46 ∷ 47 ∷ 49 ∷ 55 ∷ 46 ∷ 50 ∷ 52 ∷ 32 ∷ []) Err
    ∷ row both (bytes "  <=9.19.1||28.4.0 -  15.19.26") (Ok ((comparator lte 9 19 1 [] ∷ []) ∷ (comparator gte 28 4 0 [] ∷ comparator lte 15 19 26 [] ∷ []) ∷ []))
    ∷ row both (9 ∷ 57 ∷ 9 ∷ 32 ∷ 32 ∷ 50 ∷ 53 ∷ 46 ∷ 48 ∷ 46 ∷ 48 ∷ 45 ∷ 48 ∷ 57 ∷ 46 ∷ 90 ∷ 32 ∷ 32 ∷ []) Err
    ∷ row both (bytes "  -,") Err
    ∷ row both (94 ∷ 48 ∷ 46 ∷ 49 ∷ 32 ∷ 54 ∷ 46 ∷ 50 ∷ 57 ∷ 46 ∷ 50 ∷ 48 ∷ 32 ∷ 16 ∷ 32 ∷ []) Err
    ∷ row both (9 ∷ 50 ∷ 54 ∷ 46 ∷ 50 ∷ 51 ∷ 128 ∷ 46 ∷ 48 ∷ 32 ∷ 9 ∷ 32 ∷ 45 ∷ 8195 ∷ 32 ∷ 9 ∷ 50 ∷ 49 ∷ 46 ∷ 51 ∷ 54 ∷ 50 ∷ 53 ∷ 53 ∷ 55 ∷ 51 ∷ 54 ∷ 56 ∷ 55 ∷ 32 ∷ []) Err
    ∷ row both (48 ∷ 9 ∷ 32 ∷ []) (Ok ((comparator gte 0 0 0 [] ∷ comparator lt 1 0 0 [] ∷ []) ∷ []))
    ∷ row both (60 ∷ 61 ∷ 32 ∷ 9 ∷ 50 ∷ 55 ∷ 46 ∷ 52 ∷ 49 ∷ 49 ∷ 55 ∷ 53 ∷ 124 ∷ 46 ∷ 49 ∷ 50 ∷ 43 ∷ 98 ∷ 46 ∷ 54 ∷ 32 ∷ 55 ∷ 46 ∷ 52 ∷ 49 ∷ 49 ∷ 55 ∷ 53 ∷ 46 ∷ 49 ∷ 50 ∷ 43 ∷ 98 ∷ 46 ∷ 54 ∷ 32 ∷ []) Err
    ∷ row both (bytes " <= 23.15.18     ") (Ok ((comparator lte 23 15 18 [] ∷ []) ∷ []))
    ∷ row both (49 ∷ 50 ∷ 46 ∷ 48 ∷ 32 ∷ 45 ∷ 32 ∷ 48 ∷ 46 ∷ 50 ∷ 46 ∷ 51 ∷ 32 ∷ 32 ∷ 9 ∷ 9 ∷ 9 ∷ []) (Ok ((comparator gte 12 0 0 [] ∷ comparator lte 0 2 3 [] ∷ []) ∷ []))
    ∷ row both (48 ∷ 46 ∷ 50 ∷ 48 ∷ 46 ∷ 48 ∷ 43 ∷ 45 ∷ 97 ∷ 45 ∷ 32 ∷ 126 ∷ 94 ∷ 49 ∷ 57 ∷ 46 ∷ 50 ∷ 48 ∷ 32 ∷ 9 ∷ []) Err
    ∷ row both (61 ∷ 32 ∷ 32 ∷ 32 ∷ 9 ∷ 9 ∷ 49 ∷ 50 ∷ []) (Ok ((comparator gte 12 0 0 [] ∷ comparator lt 13 0 0 [] ∷ []) ∷ []))
    ∷ row both (32 ∷ 32 ∷ 126 ∷ 49 ∷ 48 ∷ 55 ∷ 51 ∷ 49 ∷ 56 ∷ 56 ∷ 56 ∷ 52 ∷ 52 ∷ 48 ∷ 46 ∷ 120 ∷ 46 ∷ 48 ∷ 44 ∷ 9 ∷ 9 ∷ 32 ∷ 62 ∷ 61 ∷ 50 ∷ 51 ∷ 46 ∷ 49 ∷ 48 ∷ 46 ∷ 48 ∷ 32 ∷ 32 ∷ 62 ∷ 61 ∷ 32 ∷ 55 ∷ []) (Ok ((comparator gte 10731888440 0 0 [] ∷ comparator lt 10731888441 0 0 [] ∷ comparator gte 23 10 0 [] ∷ comparator gte 7 0 0 [] ∷ []) ∷ []))
    ∷ row both (61 ∷ 50 ∷ 55 ∷ 32 ∷ 32 ∷ 32 ∷ 65290 ∷ 32 ∷ 32 ∷ []) Err
    ∷ row both (43 ∷ 32 ∷ 54 ∷ 46 ∷ 56 ∷ 46 ∷ 49 ∷ 52 ∷ 45 ∷ 98 ∷ 44 ∷ 32 ∷ 32 ∷ 126 ∷ 62 ∷ 32 ∷ 48 ∷ 9 ∷ 53 ∷ 46 ∷ 50 ∷ 46 ∷ 50 ∷ 49 ∷ 9 ∷ 32 ∷ []) Err
    ∷ row both (54 ∷ 49 ∷ 52 ∷ 54 ∷ 53 ∷ 65297 ∷ 54 ∷ 46 ∷ 56 ∷ 46 ∷ 51 ∷ 32 ∷ 45 ∷ 32 ∷ 32 ∷ 32 ∷ 32 ∷ 32 ∷ 9 ∷ 48 ∷ 46 ∷ 48 ∷ 46 ∷ 50 ∷ 48 ∷ 32 ∷ 32 ∷ []) Err
    ∷ row both (32 ∷ 9 ∷ 61 ∷ 32 ∷ 9 ∷ 52 ∷ 52 ∷ 50 ∷ 52 ∷ 57 ∷ 51 ∷ 122 ∷ 51 ∷ 54 ∷ 48 ∷ 55 ∷ 48 ∷ 52 ∷ 50 ∷ 55 ∷ 51 ∷ 53 ∷ 56 ∷ 46 ∷ 88 ∷ 46 ∷ 50 ∷ 55 ∷ 43 ∷ 88 ∷ []) Err
    ∷ row both (bytes "^0.0 ^|| ") Err
    ∷ row both (9 ∷ 32 ∷ 62 ∷ 61 ∷ 32 ∷ []) Err
    ∷ row both (9 ∷ 60 ∷ 32 ∷ 50 ∷ 54 ∷ 46 ∷ 49 ∷ 52 ∷ []) (Ok ((comparator lt 26 14 0 [] ∷ []) ∷ []))
    ∷ row both (9 ∷ 9 ∷ 9 ∷ 32 ∷ 32 ∷ 42 ∷ 9 ∷ 32 ∷ 126 ∷ 48 ∷ 46 ∷ 56 ∷ []) (Ok ((comparator gte 0 0 0 [] ∷ comparator gte 0 8 0 [] ∷ comparator lt 0 9 0 [] ∷ []) ∷ []))
    ∷ row both (49 ∷ 46 ∷ 50 ∷ 46 ∷ 48 ∷ 32 ∷ 32 ∷ 45 ∷ 32 ∷ 53 ∷ 46 ∷ 51 ∷ 46 ∷ 48 ∷ 32 ∷ 32 ∷ 9 ∷ 32 ∷ 9 ∷ []) (Ok ((comparator gte 1 2 0 [] ∷ comparator lte 5 3 0 [] ∷ []) ∷ []))
    ∷ row both (9 ∷ 60 ∷ 61 ∷ 48 ∷ 46 ∷ 48 ∷ 46 ∷ 57 ∷ 124 ∷ 124 ∷ 9 ∷ 126 ∷ 32 ∷ 54 ∷ 46 ∷ 49 ∷ 53 ∷ 9 ∷ []) (Ok ((comparator lte 0 0 9 [] ∷ []) ∷ (comparator gte 6 15 0 [] ∷ comparator lt 6 16 0 [] ∷ []) ∷ []))
    ∷ row both (65279 ∷ 62 ∷ 61 ∷ 32 ∷ 32 ∷ 54 ∷ 46 ∷ 50 ∷ 53 ∷ 46 ∷ 48 ∷ 32 ∷ []) Err
    ∷ row (Cargo ∷ []) (32 ∷ 62 ∷ 32 ∷ 32 ∷ 50 ∷ 48 ∷ 46 ∷ 50 ∷ 56 ∷ 46 ∷ 48 ∷ 45 ∷ 54 ∷ 44 ∷ 32 ∷ 9 ∷ 61 ∷ 9 ∷ 49 ∷ 46 ∷ 57 ∷ 46 ∷ 53 ∷ 32 ∷ 49 ∷ 51 ∷ 46 ∷ 50 ∷ 51 ∷ 46 ∷ 50 ∷ 54 ∷ 124 ∷ 124 ∷ 9 ∷ 124 ∷ 124 ∷ 9 ∷ []) (Ok ((comparator gt 20 28 0 (number 6 ∷ []) ∷ comparator eq 1 9 5 [] ∷ comparator gte 13 23 26 [] ∷ comparator lt 14 0 0 [] ∷ []) ∷ (comparator gte 0 0 0 [] ∷ []) ∷ (comparator gte 0 0 0 [] ∷ []) ∷ []))
    ∷ row (Npm ∷ []) (32 ∷ 62 ∷ 32 ∷ 32 ∷ 50 ∷ 48 ∷ 46 ∷ 50 ∷ 56 ∷ 46 ∷ 48 ∷ 45 ∷ 54 ∷ 44 ∷ 32 ∷ 9 ∷ 61 ∷ 9 ∷ 49 ∷ 46 ∷ 57 ∷ 46 ∷ 53 ∷ 32 ∷ 49 ∷ 51 ∷ 46 ∷ 50 ∷ 51 ∷ 46 ∷ 50 ∷ 54 ∷ 124 ∷ 124 ∷ 9 ∷ 124 ∷ 124 ∷ 9 ∷ []) (Ok ((comparator gt 20 28 0 (number 6 ∷ []) ∷ comparator eq 1 9 5 [] ∷ comparator eq 13 23 26 [] ∷ []) ∷ (comparator gte 0 0 0 [] ∷ []) ∷ (comparator gte 0 0 0 [] ∷ []) ∷ []))
    ∷ row both (32 ∷ 32 ∷ 9 ∷ 9 ∷ 32 ∷ 62 ∷ 122 ∷ 0 ∷ 9 ∷ 9 ∷ 50 ∷ []) Err
    ∷ row both (bytes " >  17.11.0-13.x     ") (Ok ((comparator gt 17 11 0 (number 13 ∷ text 0 (bytes "x") ∷ []) ∷ []) ∷ []))
    ∷ row both (9 ∷ 124 ∷ 124 ∷ 32 ∷ 61 ∷ 32 ∷ 48 ∷ 46 ∷ 88 ∷ 46 ∷ 48 ∷ 32 ∷ 32 ∷ 62 ∷ 9 ∷ 48 ∷ 46 ∷ 42 ∷ 46 ∷ 57 ∷ 43 ∷ 90 ∷ 90 ∷ []) (Ok ((comparator gte 0 0 0 [] ∷ []) ∷ (comparator gte 0 0 0 [] ∷ comparator lt 1 0 0 [] ∷ comparator gt 0 0 0 [] ∷ []) ∷ []))
    ∷ row both (bytes "~v0.21.6 ") Err
    ∷ row both (120793 ∷ 9 ∷ 62 ∷ 61 ∷ 32 ∷ 32 ∷ 32 ∷ 32 ∷ 65297 ∷ 32 ∷ 48 ∷ 46 ∷ 128 ∷ 49 ∷ 52 ∷ 46 ∷ 54 ∷ 32 ∷ 94 ∷ 49 ∷ 53 ∷ 46 ∷ 56 ∷ 46 ∷ 52 ∷ []) Err
    ∷ row both (9 ∷ 62 ∷ 61 ∷ 49 ∷ 57 ∷ 9 ∷ 32 ∷ 32 ∷ 62 ∷ 49 ∷ 52 ∷ 46 ∷ 49 ∷ 56 ∷ 46 ∷ 48 ∷ 43 ∷ 98 ∷ 46 ∷ 120 ∷ 46 ∷ 49 ∷ 56 ∷ 46 ∷ 48 ∷ 43 ∷ 98 ∷ 46 ∷ 120 ∷ []) Err
    ∷ row both (bytes "<=~  ") Err
    ∷ row both (32 ∷ 32 ∷ 126 ∷ 62 ∷ 32 ∷ 48 ∷ 44 ∷ 9 ∷ 32 ∷ 32 ∷ 9 ∷ 9 ∷ 9 ∷ 62 ∷ 61 ∷ 9 ∷ 9 ∷ 49 ∷ 53 ∷ 46 ∷ 50 ∷ 54 ∷ 46 ∷ 54 ∷ 45 ∷ 97 ∷ 32 ∷ 32 ∷ []) (Ok ((comparator gte 0 0 0 [] ∷ comparator lt 1 0 0 [] ∷ comparator gte 15 26 6 (text 0 (bytes "a") ∷ []) ∷ []) ∷ []))
    ∷ row both (bytes " =8.0") (Ok ((comparator gte 8 0 0 [] ∷ comparator lt 8 1 0 [] ∷ []) ∷ []))
    ∷ row both (32 ∷ 32 ∷ 9 ∷ 32 ∷ 1633 ∷ 233 ∷ 32 ∷ 120793 ∷ []) Err
    ∷ row both (9 ∷ 9 ∷ 9 ∷ 94 ∷ 9 ∷ 32 ∷ 61 ∷ 9 ∷ 88 ∷ 46 ∷ 46 ∷ 48 ∷ 32 ∷ 32 ∷ 32 ∷ 32 ∷ 32 ∷ []) Err
    ∷ row both (22 ∷ 55 ∷ 32 ∷ 60 ∷ 61 ∷ 32 ∷ 32 ∷ 48 ∷ 46 ∷ []) Err
    ∷ row both (65290 ∷ 48 ∷ 65279 ∷ 1633 ∷ 46 ∷ 49 ∷ 53 ∷ 46 ∷ 52 ∷ []) Err
    ∷ row both (bytes " ~>13.19.21+x") (Ok ((comparator gte 13 19 21 (text 0 (bytes "x") ∷ []) ∷ comparator lt 13 20 0 [] ∷ []) ∷ []))
    ∷ row both (50 ∷ 56 ∷ 46 ∷ 54 ∷ 46 ∷ 49 ∷ 50 ∷ 32 ∷ 9 ∷ 45 ∷ 32 ∷ 50 ∷ 57 ∷ 46 ∷ 88 ∷ 46 ∷ 48 ∷ 43 ∷ 98 ∷ 32 ∷ 124 ∷ 124 ∷ 32 ∷ 9 ∷ 9 ∷ 32 ∷ 32 ∷ 60 ∷ 48 ∷ 46 ∷ 48 ∷ 46 ∷ 50 ∷ 48 ∷ []) (Ok ((comparator gte 28 6 12 [] ∷ comparator lt 30 0 0 [] ∷ []) ∷ (comparator lt 0 0 20 [] ∷ []) ∷ []))
    ∷ row both (32 ∷ 32 ∷ 32 ∷ 32 ∷ 9 ∷ 126 ∷ 62 ∷ 32 ∷ 48 ∷ 46 ∷ 55 ∷ []) (Ok ((comparator gte 0 7 0 [] ∷ comparator lt 0 8 0 [] ∷ []) ∷ []))
    ∷ row both (62 ∷ 61 ∷ 32 ∷ 55 ∷ 48 ∷ 9 ∷ 32 ∷ 126 ∷ 62 ∷ 50 ∷ 54 ∷ 46 ∷ 49 ∷ 53 ∷ 46 ∷ 48 ∷ 32 ∷ []) (Ok ((comparator gte 70 0 0 [] ∷ comparator gte 26 15 0 [] ∷ comparator lt 26 16 0 [] ∷ []) ∷ []))
    ∷ row both (32 ∷ 60 ∷ 32 ∷ 32 ∷ 49 ∷ 50 ∷ 9 ∷ []) (Ok ((comparator lt 12 0 0 [] ∷ []) ∷ []))
    ∷ row both (32 ∷ 32 ∷ 32 ∷ 32 ∷ 32 ∷ 62 ∷ 61 ∷ 9 ∷ 32 ∷ 48 ∷ 46 ∷ 49 ∷ 51 ∷ []) (Ok ((comparator gte 0 13 0 [] ∷ []) ∷ []))
    ∷ row both (32 ∷ 32 ∷ 32 ∷ 9 ∷ 126 ∷ 52 ∷ 46 ∷ 48 ∷ 9 ∷ 32 ∷ 9 ∷ 9 ∷ 32 ∷ []) (Ok ((comparator gte 4 0 0 [] ∷ comparator lt 4 1 0 [] ∷ []) ∷ []))
    ∷ row both (32 ∷ 9 ∷ 60 ∷ 61 ∷ []) Err
    ∷ row both (bytes "^15 ") (Ok ((comparator gte 15 0 0 [] ∷ comparator lt 16 0 0 [] ∷ []) ∷ []))
    ∷ row both (bytes "^ 21.0|| 2.19.0 - 9.26.1+24 ") (Ok ((comparator gte 21 0 0 [] ∷ comparator lt 22 0 0 [] ∷ []) ∷ (comparator gte 2 19 0 [] ∷ comparator lte 9 26 1 (number 24 ∷ []) ∷ []) ∷ []))
    ∷ row both (9 ∷ 126 ∷ 62 ∷ 48 ∷ []) (Ok ((comparator gte 0 0 0 [] ∷ comparator lt 1 0 0 [] ∷ []) ∷ []))
    ∷ row both (9 ∷ 32 ∷ 10 ∷ 32 ∷ 32 ∷ 32 ∷ 32 ∷ []) Err
    ∷ row both (32 ∷ 9 ∷ 32 ∷ 9 ∷ 9 ∷ 62 ∷ 61 ∷ 9 ∷ 52 ∷ []) (Ok ((comparator gte 4 0 0 [] ∷ []) ∷ []))
    ∷ row both (62 ∷ 61 ∷ 9 ∷ 42 ∷ 46 ∷ 52 ∷ 46 ∷ 49 ∷ 57 ∷ 43 ∷ 50 ∷ 55 ∷ 32 ∷ 9 ∷ []) (Ok ((comparator gte 0 0 0 [] ∷ []) ∷ []))
    ∷ row both (bytes "<=15.1v.26 ") Err
    ∷ row both (56 ∷ 46 ∷ 49 ∷ 51 ∷ 46 ∷ 50 ∷ 56 ∷ 45 ∷ 98 ∷ 97 ∷ 46 ∷ 114 ∷ 99 ∷ 122 ∷ 46 ∷ 98 ∷ 57 ∷ 48 ∷ 9 ∷ 9 ∷ 45 ∷ 32 ∷ 48 ∷ 46 ∷ 49 ∷ 50 ∷ 46 ∷ 56 ∷ 45 ∷ 114 ∷ 99 ∷ 9 ∷ 9 ∷ 32 ∷ 32 ∷ 32 ∷ []) (Ok ((comparator gte 8 13 28 (text 0 (bytes "ba") ∷ text 0 (bytes "rcz") ∷ text 0 (bytes "b90") ∷ []) ∷ comparator lte 0 12 8 (text 0 (bytes "rc") ∷ []) ∷ []) ∷ []))
    ∷ row both (49 ∷ 65279 ∷ 51 ∷ 9 ∷ 32 ∷ 233 ∷ 45 ∷ 32 ∷ 48 ∷ 32 ∷ []) Err
    ∷ row both (bytes "<=     8.290 ") (Ok ((comparator lt 8 291 0 [] ∷ []) ∷ []))
    ∷ row both (32 ∷ 32 ∷ 32 ∷ 32 ∷ 32 ∷ 49 ∷ 49 ∷ 46 ∷ 50 ∷ 50 ∷ 9 ∷ 45 ∷ 9 ∷ 9 ∷ 50 ∷ 52 ∷ 46 ∷ 48 ∷ 46 ∷ 120 ∷ 124 ∷ 124 ∷ 61 ∷ 32 ∷ 50 ∷ 51 ∷ 32 ∷ 9 ∷ 32 ∷ 32 ∷ 32 ∷ []) (Ok ((comparator gte 11 22 0 [] ∷ comparator lt 24 1 0 [] ∷ []) ∷ (comparator gte 23 0 0 [] ∷ comparator lt 24 0 0 [] ∷ []) ∷ []))
    ∷ []

abbrev pub texts₅ : List Row
texts₅ =
    row both (bytes "||") (Ok ((comparator gte 0 0 0 [] ∷ []) ∷ (comparator gte 0 0 0 [] ∷ []) ∷ []))
    ∷ row both (bytes "1||") (Ok ((comparator gte 1 0 0 [] ∷ comparator lt 2 0 0 [] ∷ []) ∷ (comparator gte 0 0 0 [] ∷ []) ∷ []))
    ∷ row both (bytes "1 | 2") Err
    ∷ row both (49 ∷ 44 ∷ 9 ∷ 50 ∷ []) (Ok ((comparator gte 1 0 0 [] ∷ comparator lt 2 0 0 [] ∷ comparator gte 2 0 0 [] ∷ comparator lt 3 0 0 [] ∷ []) ∷ []))
    ∷ row both (bytes ",1") Err
    ∷ row both (9 ∷ 49 ∷ 9 ∷ []) (Ok ((comparator gte 1 0 0 [] ∷ comparator lt 2 0 0 [] ∷ []) ∷ []))
    ∷ row both (bytes "=>1") Err
    ∷ row both (bytes "~ >1") Err
    ∷ row both (bytes ">") Err
    ∷ row both (49 ∷ 9 ∷ 45 ∷ 9 ∷ 50 ∷ []) (Ok ((comparator gte 1 0 0 [] ∷ comparator lt 3 0 0 [] ∷ []) ∷ []))
    ∷ row both (bytes "1 - 2 3") Err
    ∷ row both (bytes "- 1") Err
    ∷ row both (bytes "1.2.3.") Err
    ∷ row both (bytes "v1") Err
    ∷ row both (bytes "1.x.") Err
    ∷ row both (bytes "1.2.3-0-1") Err
    ∷ row both (bytes "1.2.3-a..b") Err
    ∷ row (Cargo ∷ []) (bytes "1.2.3+a.18446744073709551616") (Ok ((comparator gte 1 2 3 (text 0 (bytes "a") ∷ text 0 (bytes "18446744073709551616") ∷ []) ∷ comparator lt 2 0 0 [] ∷ []) ∷ []))
    ∷ row (Npm ∷ []) (bytes "1.2.3+a.18446744073709551616") (Ok ((comparator eq 1 2 3 (text 0 (bytes "a") ∷ text 0 (bytes "18446744073709551616") ∷ []) ∷ []) ∷ []))
    ∷ row both (233 ∷ []) Err
    ∷ row both (bytes ">*") (Ok ((comparator lt 0 0 0 [] ∷ []) ∷ []))
    ∷ row both (bytes "x") (Ok ((comparator gte 0 0 0 [] ∷ []) ∷ []))
    ∷ row both (bytes ">=x") (Ok ((comparator gte 0 0 0 [] ∷ []) ∷ []))
    ∷ row both (bytes "=X") (Ok ((comparator gte 0 0 0 [] ∷ []) ∷ []))
    ∷ row both (bytes "~X") (Ok ((comparator gte 0 0 0 [] ∷ []) ∷ []))
    ∷ row both (bytes "<x.2") (Ok ((comparator lt 0 0 0 [] ∷ []) ∷ []))
    ∷ row both (bytes "~>x.2") (Ok ((comparator gte 0 0 0 [] ∷ []) ∷ []))
    ∷ row both (bytes "<=X.2.3") (Ok ((comparator gte 0 0 0 [] ∷ []) ∷ []))
    ∷ row both (bytes "^X.2.3") (Ok ((comparator gte 0 0 0 [] ∷ []) ∷ []))
    ∷ row both (bytes ">*.x.3-a") (Ok ((comparator lt 0 0 0 [] ∷ []) ∷ []))
    ∷ row both (bytes "0") (Ok ((comparator gte 0 0 0 [] ∷ comparator lt 1 0 0 [] ∷ []) ∷ []))
    ∷ row both (bytes ">=0") (Ok ((comparator gte 0 0 0 [] ∷ []) ∷ []))
    ∷ row both (bytes "=1") (Ok ((comparator gte 1 0 0 [] ∷ comparator lt 2 0 0 [] ∷ []) ∷ []))
    ∷ row both (bytes "~1") (Ok ((comparator gte 1 0 0 [] ∷ comparator lt 2 0 0 [] ∷ []) ∷ []))
    ∷ row both (bytes "<1.x") (Ok ((comparator lt 1 0 0 [] ∷ []) ∷ []))
    ∷ row both (bytes "~>1.x") (Ok ((comparator gte 1 0 0 [] ∷ comparator lt 2 0 0 [] ∷ []) ∷ []))
    ∷ row both (bytes "<=1.X.*") (Ok ((comparator lt 2 0 0 [] ∷ []) ∷ []))
    ∷ row both (bytes "^1.X.*") (Ok ((comparator gte 1 0 0 [] ∷ comparator lt 2 0 0 [] ∷ []) ∷ []))
    ∷ row both (bytes ">1.*.3") (Ok ((comparator gt 1 0 0 [] ∷ []) ∷ []))
    ∷ row both (bytes "0.x") (Ok ((comparator gte 0 0 0 [] ∷ comparator lt 1 0 0 [] ∷ []) ∷ []))
    ∷ row both (bytes ">=0.x") (Ok ((comparator gte 0 0 0 [] ∷ []) ∷ []))
    ∷ row both (bytes "=0.0") (Ok ((comparator gte 0 0 0 [] ∷ comparator lt 0 1 0 [] ∷ []) ∷ []))
    ∷ row both (bytes "~0.0") (Ok ((comparator gte 0 0 0 [] ∷ comparator lt 0 1 0 [] ∷ []) ∷ []))
    ∷ row both (bytes "<0.2") (Ok ((comparator lt 0 2 0 [] ∷ []) ∷ []))
    ∷ row both (bytes "~>0.2") (Ok ((comparator gte 0 2 0 [] ∷ comparator lt 0 3 0 [] ∷ []) ∷ []))
    ∷ row both (bytes "<=1.0") (Ok ((comparator lt 1 1 0 [] ∷ []) ∷ []))
    ∷ row both (bytes "^1.0") (Ok ((comparator gte 1 0 0 [] ∷ comparator lt 2 0 0 [] ∷ []) ∷ []))
    ∷ row both (bytes ">1.2") (Ok ((comparator gt 1 2 0 [] ∷ []) ∷ []))
    ∷ row both (bytes "1.2.x") (Ok ((comparator gte 1 2 0 [] ∷ comparator lt 1 3 0 [] ∷ []) ∷ []))
    ∷ row both (bytes ">=1.2.x") (Ok ((comparator gte 1 2 0 [] ∷ []) ∷ []))
    ∷ row both (bytes "=0.0.*+b") (Ok ((comparator gte 0 0 0 [] ∷ comparator lt 0 1 0 [] ∷ []) ∷ []))
    ∷ row both (bytes "~0.0.*+b") (Ok ((comparator gte 0 0 0 [] ∷ comparator lt 0 1 0 [] ∷ []) ∷ []))
    ∷ row both (bytes "<0.0.0") (Ok ((comparator lt 0 0 0 [] ∷ []) ∷ []))
    ∷ row both (bytes "~>0.0.0") (Ok ((comparator gte 0 0 0 [] ∷ comparator lt 0 1 0 [] ∷ []) ∷ []))
    ∷ row both (bytes "<=0.0.3") (Ok ((comparator lte 0 0 3 [] ∷ []) ∷ []))
    ∷ row both (bytes "^0.0.3") (Ok ((comparator gte 0 0 3 [] ∷ comparator lt 0 0 4 [] ∷ []) ∷ []))
    ∷ row both (bytes ">0.2.0") (Ok ((comparator gt 0 2 0 [] ∷ []) ∷ []))
    ∷ row (Cargo ∷ []) (bytes "0.2.3") (Ok ((comparator gte 0 2 3 [] ∷ comparator lt 0 3 0 [] ∷ []) ∷ []))
    ∷ row (Npm ∷ []) (bytes "0.2.3") (Ok ((comparator eq 0 2 3 [] ∷ []) ∷ []))
    ∷ row both (bytes ">=0.2.3") (Ok ((comparator gte 0 2 3 [] ∷ []) ∷ []))
    ∷ row both (bytes "=1.2.3") (Ok ((comparator eq 1 2 3 [] ∷ []) ∷ []))
    ∷ row both (bytes "~1.2.3") (Ok ((comparator gte 1 2 3 [] ∷ comparator lt 1 3 0 [] ∷ []) ∷ []))
    ∷ row both (bytes "<1.2.3-a") (Ok ((comparator lt 1 2 3 (text 0 (bytes "a") ∷ []) ∷ []) ∷ []))
    ∷ row both (bytes "~>1.2.3-a") (Ok ((comparator gte 1 2 3 (text 0 (bytes "a") ∷ []) ∷ comparator lt 1 3 0 [] ∷ []) ∷ []))
    ∷ row both (bytes "<=0.0.3-0.x-1") (Ok ((comparator lte 0 0 3 (number 0 ∷ text 0 (bytes "x-1") ∷ []) ∷ []) ∷ []))
    ∷ row both (bytes "^0.0.3-0.x-1") (Ok ((comparator gte 0 0 3 (number 0 ∷ text 0 (bytes "x-1") ∷ []) ∷ comparator lt 0 0 4 [] ∷ []) ∷ []))
    ∷ row both (bytes ">1.2.3+b7") (Ok ((comparator gt 1 2 3 (text 0 (bytes "b7") ∷ []) ∷ []) ∷ []))
    ∷ row (Cargo ∷ []) (bytes "0.2.3+9.-") (Ok ((comparator gte 0 2 3 (number 9 ∷ text 0 (bytes "-") ∷ []) ∷ comparator lt 0 3 0 [] ∷ []) ∷ []))
    ∷ row (Npm ∷ []) (bytes "0.2.3+9.-") (Ok ((comparator eq 0 2 3 (number 9 ∷ text 0 (bytes "-") ∷ []) ∷ []) ∷ []))
    ∷ row both (bytes ">=0.2.3+9.-") (Ok ((comparator gte 0 2 3 (number 9 ∷ text 0 (bytes "-") ∷ []) ∷ []) ∷ []))
    ∷ row both (bytes "=18446744073709551614") (Ok ((comparator gte 18446744073709551614 0 0 [] ∷ comparator lt 18446744073709551615 0 0 [] ∷ []) ∷ []))
    ∷ row both (bytes "~18446744073709551614") (Ok ((comparator gte 18446744073709551614 0 0 [] ∷ comparator lt 18446744073709551615 0 0 [] ∷ []) ∷ []))
    ∷ row both (bytes "<18446744073709551615") (Ok ((comparator lt 18446744073709551615 0 0 [] ∷ []) ∷ []))
    ∷ row both (bytes "~>18446744073709551615") panicked
    ∷ row both (bytes "<=18446744073709551616") panicked
    ∷ row both (bytes "^18446744073709551616") panicked
    ∷ row both (bytes ">18446744073709551615.1") (Ok ((comparator gt 18446744073709551615 1 0 [] ∷ []) ∷ []))
    ∷ row both (bytes "1.18446744073709551614") (Ok ((comparator gte 1 18446744073709551614 0 [] ∷ comparator lt 1 18446744073709551615 0 [] ∷ []) ∷ []))
    ∷ row both (bytes ">=1.18446744073709551614") (Ok ((comparator gte 1 18446744073709551614 0 [] ∷ []) ∷ []))
    ∷ row both (bytes "=1.18446744073709551615") panicked
    ∷ row both (bytes "~1.18446744073709551615") panicked
    ∷ row both (bytes "<1.18446744073709551616") panicked
    ∷ row both (bytes "~>1.18446744073709551616") panicked
    ∷ row both (bytes "<=0.0.18446744073709551614") (Ok ((comparator lte 0 0 18446744073709551614 [] ∷ []) ∷ []))
    ∷ row both (bytes "^0.0.18446744073709551614") (Ok ((comparator gte 0 0 18446744073709551614 [] ∷ comparator lt 0 0 18446744073709551615 [] ∷ []) ∷ []))
    ∷ row both (bytes ">0.0.18446744073709551615") (Ok ((comparator gt 0 0 18446744073709551615 [] ∷ []) ∷ []))
    ∷ row both (bytes "0.0.18446744073709551616") panicked
    ∷ row both (bytes ">=0.0.18446744073709551616") panicked
    ∷ row both (bytes "=0.18446744073709551615.1") (Ok ((comparator eq 0 18446744073709551615 1 [] ∷ []) ∷ []))
    ∷ row both (bytes "~0.18446744073709551615.1") panicked
    ∷ row both (bytes "<x.18446744073709551616") (Ok ((comparator lt 0 0 0 [] ∷ []) ∷ []))
    ∷ row both (bytes "~>x.18446744073709551616") (Ok ((comparator gte 0 0 0 [] ∷ []) ∷ []))
    ∷ row both (bytes "<=1.x.18446744073709551616") (Ok ((comparator lt 2 0 0 [] ∷ []) ∷ []))
    ∷ row both (bytes "^1.x.18446744073709551616") (Ok ((comparator gte 1 0 0 [] ∷ comparator lt 2 0 0 [] ∷ []) ∷ []))
    ∷ row both (bytes "* - 1.2.X") (Ok ((comparator lt 1 3 0 [] ∷ []) ∷ []))
    ∷ row both (bytes "* - 1.18446744073709551615") panicked
    ∷ row both (bytes "1 - 0.x") (Ok ((comparator gte 1 0 0 [] ∷ comparator lt 1 0 0 [] ∷ []) ∷ []))
    ∷ row both (bytes "1 - 1.2.3+b.1") (Ok ((comparator gte 1 0 0 [] ∷ comparator lte 1 2 3 (text 0 (bytes "b") ∷ number 1 ∷ []) ∷ []) ∷ []))
    ∷ row both (bytes "0.x - *") (Ok ((comparator gte 0 0 0 [] ∷ []) ∷ []))
    ∷ row both (bytes "0.x - 1.2.3") (Ok ((comparator gte 0 0 0 [] ∷ comparator lte 1 2 3 [] ∷ []) ∷ []))
    ∷ row both (bytes "0.x - 1.2.18446744073709551615") (Ok ((comparator gte 0 0 0 [] ∷ comparator lte 1 2 18446744073709551615 [] ∷ []) ∷ []))
    ∷ row both (bytes "1.2 - 1.2") (Ok ((comparator gte 1 2 0 [] ∷ comparator lt 1 3 0 [] ∷ []) ∷ []))
    ∷ row both (bytes "1.2 - 18446744073709551615") panicked
    ∷ row both (bytes "1.2.X - 1") (Ok ((comparator gte 1 2 0 [] ∷ comparator lt 2 0 0 [] ∷ []) ∷ []))
    ∷ row both (bytes "1.2.X - 0.0.3-a") (Ok ((comparator gte 1 2 0 [] ∷ comparator lte 0 0 3 (text 0 (bytes "a") ∷ []) ∷ []) ∷ []))
    ∷ row both (bytes "1.2.X - 18446744073709551616") panicked
    ∷ row both (bytes "1.2.3 - 1.2.X") (Ok ((comparator gte 1 2 3 [] ∷ comparator lt 1 3 0 [] ∷ []) ∷ []))
    ∷ row both (bytes "1.2.3 - 1.18446744073709551615") panicked
    ∷ row both (bytes "0.0.3-a - 0.x") (Ok ((comparator gte 0 0 3 (text 0 (bytes "a") ∷ []) ∷ comparator lt 1 0 0 [] ∷ []) ∷ []))
    ∷ row both (bytes "0.0.3-a - 1.2.3+b.1") (Ok ((comparator gte 0 0 3 (text 0 (bytes "a") ∷ []) ∷ comparator lte 1 2 3 (text 0 (bytes "b") ∷ number 1 ∷ []) ∷ []) ∷ []))
    ∷ row both (bytes "1.2.3+b.1 - *") (Ok ((comparator gte 1 2 3 (text 0 (bytes "b") ∷ number 1 ∷ []) ∷ []) ∷ []))
    ∷ row both (bytes "1.2.3+b.1 - 1.2.3") (Ok ((comparator gte 1 2 3 (text 0 (bytes "b") ∷ number 1 ∷ []) ∷ comparator lte 1 2 3 [] ∷ []) ∷ []))
    ∷ row both (bytes "1.2.3+b.1 - 1.2.18446744073709551615") (Ok ((comparator gte 1 2 3 (text 0 (bytes "b") ∷ number 1 ∷ []) ∷ comparator lte 1 2 18446744073709551615 [] ∷ []) ∷ []))
    ∷ row both (bytes "18446744073709551615 - 1.2") (Ok ((comparator gte 18446744073709551615 0 0 [] ∷ comparator lt 1 3 0 [] ∷ []) ∷ []))
    ∷ row both (bytes "1.18446744073709551615 - *") (Ok ((comparator gte 1 18446744073709551615 0 [] ∷ []) ∷ []))
    ∷ row both (bytes "1.18446744073709551615 - 1.2.3") (Ok ((comparator gte 1 18446744073709551615 0 [] ∷ comparator lte 1 2 3 [] ∷ []) ∷ []))
    ∷ row both (bytes "1.2.18446744073709551615 - 0.x") (Ok ((comparator gte 1 2 18446744073709551615 [] ∷ comparator lt 1 0 0 [] ∷ []) ∷ []))
    ∷ row both (bytes "1.2.18446744073709551615 - 1.2.3+b.1") (Ok ((comparator gte 1 2 18446744073709551615 [] ∷ comparator lte 1 2 3 (text 0 (bytes "b") ∷ number 1 ∷ []) ∷ []) ∷ []))
    ∷ row both (bytes "18446744073709551616 - 1.2.X") panicked
    ∷ row both (60 ∷ 49 ∷ 53 ∷ 46 ∷ 50 ∷ 55 ∷ 124 ∷ 124 ∷ 48 ∷ 46 ∷ 49 ∷ 52 ∷ 46 ∷ 48 ∷ 32 ∷ 9 ∷ 124 ∷ 124 ∷ 48 ∷ 32 ∷ 9 ∷ 32 ∷ 45 ∷ 32 ∷ 48 ∷ 46 ∷ 53 ∷ 46 ∷ 43 ∷ 43 ∷ 50 ∷ 49 ∷ []) Err
    ∷ row both (bytes "X.5.7-- -z") Err
    ∷ row both (32 ∷ 9 ∷ 55 ∷ 9 ∷ 9 ∷ 45 ∷ 9 ∷ 48 ∷ 46 ∷ 88 ∷ 32 ∷ 9 ∷ 9 ∷ 45 ∷ 48 ∷ 48 ∷ 46 ∷ 88 ∷ 32 ∷ []) Err
    ∷ row both (65533 ∷ 61 ∷ 32 ∷ 9 ∷ 53 ∷ 46 ∷ 50 ∷ 50 ∷ 46 ∷ 48 ∷ 32 ∷ []) Err
    ∷ row both (32 ∷ 32 ∷ 32 ∷ 32 ∷ 32 ∷ 65290 ∷ 32 ∷ []) Err
    ∷ row both (32 ∷ 60 ∷ 97 ∷ 49 ∷ 50 ∷ 46 ∷ 43 ∷ 50 ∷ 51 ∷ 46 ∷ 55 ∷ 45 ∷ 88 ∷ 9 ∷ 32 ∷ []) Err
    ∷ row both (9 ∷ 9 ∷ 32 ∷ 9 ∷ 9 ∷ 94 ∷ 124 ∷ 124 ∷ 126 ∷ 62 ∷ 32 ∷ 48 ∷ 32 ∷ 32 ∷ 48 ∷ 32 ∷ []) Err
    ∷ row both (65279 ∷ 9 ∷ 9 ∷ 65279 ∷ 32 ∷ 32 ∷ 9 ∷ 94 ∷ 53 ∷ []) Err
    ∷ row both (49 ∷ 48 ∷ 46 ∷ 52 ∷ 46 ∷ 50 ∷ 51 ∷ 43 ∷ 57 ∷ 9 ∷ 9 ∷ 45 ∷ 32 ∷ 49 ∷ 46 ∷ 48 ∷ 32 ∷ 124 ∷ 124 ∷ 32 ∷ 60 ∷ 61 ∷ 9 ∷ 32 ∷ 51 ∷ 46 ∷ 48 ∷ 46 ∷ 49 ∷ 49 ∷ 44 ∷ 9 ∷ 94 ∷ 48 ∷ 46 ∷ 56 ∷ 46 ∷ 48 ∷ []) (Ok ((comparator gte 10 4 23 (number 9 ∷ []) ∷ comparator lt 1 1 0 [] ∷ []) ∷ (comparator lte 3 0 11 [] ∷ comparator gte 0 8 0 [] ∷ comparator lt 0 9 0 [] ∷ []) ∷ []))
    ∷ row both (9 ∷ 32 ∷ 48 ∷ 32 ∷ 32 ∷ 45 ∷ 9 ∷ 32 ∷ 9 ∷ 49 ∷ 51 ∷ 46 ∷ 42 ∷ 46 ∷ 50 ∷ 52 ∷ 45 ∷ 48 ∷ 46 ∷ 120 ∷ 65 ∷ 57 ∷ 9 ∷ 32 ∷ 32 ∷ 32 ∷ 32 ∷ 65 ∷ 57 ∷ 9 ∷ 32 ∷ 32 ∷ 32 ∷ 32 ∷ []) Err
    ∷ row both (bytes "  >= +.6.0-X") Err
    ∷ row both (61 ∷ 9 ∷ 50 ∷ 54 ∷ 46 ∷ 49 ∷ 46 ∷ 50 ∷ 50 ∷ 45 ∷ 98 ∷ 32 ∷ []) (Ok ((comparator eq 26 1 22 (text 0 (bytes "b") ∷ []) ∷ []) ∷ []))
    ∷ row both (32 ∷ 32 ∷ 32 ∷ 32 ∷ 9 ∷ 62 ∷ 52 ∷ 46 ∷ 49 ∷ 52 ∷ 32 ∷ 62 ∷ 61 ∷ 32 ∷ 32 ∷ 48 ∷ 32 ∷ 32 ∷ 9 ∷ 9 ∷ 32 ∷ []) (Ok ((comparator gt 4 14 0 [] ∷ comparator gte 0 0 0 [] ∷ []) ∷ []))
    ∷ row both (9 ∷ 48 ∷ 32 ∷ 32 ∷ 45 ∷ 54 ∷ []) Err
    ∷ row both (32 ∷ 60 ∷ 61 ∷ 9 ∷ 9 ∷ 49 ∷ 49 ∷ 46 ∷ 49 ∷ 53 ∷ 46 ∷ 48 ∷ 32 ∷ 9 ∷ []) (Ok ((comparator lte 11 15 0 [] ∷ []) ∷ []))
    ∷ row both (126 ∷ 62 ∷ 55 ∷ 9 ∷ 32 ∷ 9 ∷ 32 ∷ 9 ∷ 9 ∷ 94 ∷ 55 ∷ 46 ∷ 52 ∷ 44 ∷ 9 ∷ 126 ∷ 32 ∷ 88 ∷ 46 ∷ 48 ∷ 46 ∷ 50 ∷ 51 ∷ 32 ∷ []) (Ok ((comparator gte 7 0 0 [] ∷ comparator lt 8 0 0 [] ∷ comparator gte 7 4 0 [] ∷ comparator lt 8 0 0 [] ∷ comparator gte 0 0 0 [] ∷ []) ∷ []))
    ∷ row both (bytes "     14.0.X ") (Ok ((comparator gte 14 0 0 [] ∷ comparator lt 14 1 0 [] ∷ []) ∷ []))
    ∷ row both (32 ∷ 126 ∷ 32 ∷ 52 ∷ 46 ∷ 49 ∷ 52 ∷ 46 ∷ 49 ∷ 48 ∷ 9 ∷ 32 ∷ 9 ∷ 62 ∷ 61 ∷ 49 ∷ 56 ∷ 46 ∷ 57 ∷ 44 ∷ 32 ∷ 32 ∷ 32 ∷ 62 ∷ 61 ∷ 32 ∷ 32 ∷ 32 ∷ 32 ∷ 32 ∷ 49 ∷ 53 ∷ 46 ∷ 48 ∷ 46 ∷ 49 ∷ 53 ∷ 45 ∷ 88 ∷ []) (Ok ((comparator gte 4 14 10 [] ∷ comparator lt 4 15 0 [] ∷ comparator gte 18 9 0 [] ∷ comparator gte 15 0 15 (text 0 (bytes "X") ∷ []) ∷ []) ∷ []))
    ∷ row both (61 ∷ 52 ∷ 50 ∷ 57 ∷ 52 ∷ 54 ∷ 50 ∷ 53 ∷ 50 ∷ 55 ∷ 52 ∷ 50 ∷ 52 ∷ 50 ∷ 50 ∷ 52 ∷ 50 ∷ 53 ∷ 52 ∷ 56 ∷ 55 ∷ 46 ∷ 48 ∷ 46 ∷ 48 ∷ 43 ∷ 97 ∷ 46 ∷ 97 ∷ 9 ∷ 32 ∷ 9 ∷ 32 ∷ 32 ∷ []) panicked
    ∷ row both (9 ∷ 55 ∷ []) (Ok ((comparator gte 7 0 0 [] ∷ comparator lt 8 0 0 [] ∷ []) ∷ []))
    ∷ row both (bytes "~ 15") (Ok ((comparator gte 15 0 0 [] ∷ comparator lt 16 0 0 [] ∷ []) ∷ []))
    ∷ row both (bytes "~5") (Ok ((comparator gte 5 0 0 [] ∷ comparator lt 6 0 0 [] ∷ []) ∷ []))
    ∷ row both (bytes "0.00-v1.rc- - 10.17     - 10.17     ") Err
    ∷ row both (50 ∷ 51 ∷ 46 ∷ 49 ∷ 46 ∷ 88 ∷ 43 ∷ 50 ∷ 51 ∷ 46 ∷ 88 ∷ 65 ∷ 97 ∷ 57 ∷ 9 ∷ 45 ∷ 9 ∷ 48 ∷ 46 ∷ 48 ∷ 46 ∷ 48 ∷ 45 ∷ 88 ∷ 97 ∷ 97 ∷ 88 ∷ 97 ∷ 97 ∷ 65 ∷ []) (Ok ((comparator gte 23 1 0 [] ∷ comparator lte 0 0 0 (text 0 (bytes "XaaXaaA") ∷ []) ∷ []) ∷ []))
    ∷ row both (32 ∷ 32 ∷ 32 ∷ 32 ∷ 9 ∷ 62 ∷ 9 ∷ 32 ∷ 42 ∷ 46 ∷ 48 ∷ 46 ∷ 48 ∷ 32 ∷ 32 ∷ 32 ∷ 32 ∷ 32 ∷ 9 ∷ 126 ∷ 50 ∷ 57 ∷ 46 ∷ 49 ∷ 50 ∷ 46 ∷ 48 ∷ 9 ∷ 60 ∷ 54 ∷ 46 ∷ 50 ∷ 52 ∷ []) (Ok ((comparator lt 0 0 0 [] ∷ comparator gte 29 12 0 [] ∷ comparator lt 29 13 0 [] ∷ comparator lt 6 24 0 [] ∷ []) ∷ []))
    ∷ row both (32 ∷ 32 ∷ 32 ∷ 32 ∷ 9 ∷ 94 ∷ 50 ∷ 54 ∷ 46 ∷ 88 ∷ 46 ∷ 42 ∷ 45 ∷ 97 ∷ 44 ∷ 32 ∷ 32 ∷ 61 ∷ 48 ∷ 32 ∷ 32 ∷ 9 ∷ 32 ∷ 32 ∷ 32 ∷ 60 ∷ 9 ∷ 57 ∷ 32 ∷ 32 ∷ 32 ∷ 60 ∷ 61 ∷ 32 ∷ 50 ∷ 55 ∷ 46 ∷ 50 ∷ 49 ∷ []) (Ok ((comparator gte 26 0 0 [] ∷ comparator lt 27 0 0 [] ∷ comparator gte 0 0 0 [] ∷ comparator lt 1 0 0 [] ∷ comparator lt 9 0 0 [] ∷ comparator lt 27 22 0 [] ∷ []) ∷ []))
    ∷ row both (bytes "23.20*.13-2420*.13-24") Err
    ∷ row both (9 ∷ 61 ∷ 49 ∷ 48 ∷ 46 ∷ 53 ∷ 46 ∷ 50 ∷ 45 ∷ 118 ∷ 49 ∷ 57 ∷ 32 ∷ 32 ∷ 57 ∷ []) (Ok ((comparator eq 10 5 2 (text 0 (bytes "v19") ∷ []) ∷ comparator gte 9 0 0 [] ∷ comparator lt 10 0 0 [] ∷ []) ∷ []))
    ∷ row (Cargo ∷ []) (32 ∷ 48 ∷ 46 ∷ 57 ∷ 46 ∷ 50 ∷ 49 ∷ 9 ∷ []) (Ok ((comparator gte 0 9 21 [] ∷ comparator lt 0 10 0 [] ∷ []) ∷ []))
    ∷ row (Npm ∷ []) (32 ∷ 48 ∷ 46 ∷ 57 ∷ 46 ∷ 50 ∷ 49 ∷ 9 ∷ []) (Ok ((comparator eq 0 9 21 [] ∷ []) ∷ []))
    ∷ row both (32 ∷ 32 ∷ 62 ∷ 61 ∷ 50 ∷ 52 ∷ 46 ∷ 49 ∷ 53 ∷ 65279 ∷ 50 ∷ 54 ∷ 57 ∷ 52 ∷ 57 ∷ 55 ∷ 57 ∷ 49 ∷ 52 ∷ 46 ∷ 65290 ∷ 50 ∷ 54 ∷ []) Err
    ∷ row both (bytes "~ 24.8.11-Zxa||xa||") Err
    ∷ row both (9 ∷ 60 ∷ 61 ∷ 32 ∷ 9 ∷ 95 ∷ 48 ∷ 32 ∷ 9 ∷ 32 ∷ 61 ∷ 57 ∷ 46 ∷ 49 ∷ 49 ∷ 32 ∷ 49 ∷ 32 ∷ []) Err
    ∷ row both (bytes " ^18  <=17.18.1368936579520373493-X9") (Ok ((comparator gte 18 0 0 [] ∷ comparator lt 19 0 0 [] ∷ comparator lte 17 18 1368936579520373493 (text 0 (bytes "X9") ∷ []) ∷ []) ∷ []))
    ∷ row both (9 ∷ 46 ∷ 88 ∷ 46 ∷ []) Err
    ∷ row both (62 ∷ 9 ∷ 50 ∷ 51 ∷ []) (Ok ((comparator gt 23 0 0 [] ∷ []) ∷ []))
    ∷ row both (32 ∷ 32 ∷ 9 ∷ 9 ∷ 9 ∷ []) (Ok ((comparator gte 0 0 0 [] ∷ []) ∷ []))
    ∷ row both (32 ∷ 61 ∷ 32 ∷ 32 ∷ 9 ∷ 32 ∷ 9 ∷ 88 ∷ 44 ∷ 32 ∷ []) Err
    ∷ row both (32 ∷ 94 ∷ 32 ∷ 49 ∷ 52 ∷ 124 ∷ 124 ∷ 32 ∷ 50 ∷ 50 ∷ 49 ∷ 52 ∷ 46 ∷ 49 ∷ 9 ∷ 32 ∷ 32 ∷ 94 ∷ 32 ∷ 49 ∷ 52 ∷ 124 ∷ 124 ∷ 32 ∷ 50 ∷ 50 ∷ 49 ∷ 52 ∷ 46 ∷ 49 ∷ 9 ∷ 32 ∷ []) (Ok ((comparator gte 14 0 0 [] ∷ comparator lt 15 0 0 [] ∷ []) ∷ (comparator gte 2214 1 0 [] ∷ comparator lt 2214 2 0 [] ∷ comparator gte 14 0 0 [] ∷ comparator lt 15 0 0 [] ∷ []) ∷ (comparator gte 2214 1 0 [] ∷ comparator lt 2214 2 0 [] ∷ []) ∷ []))
    ∷ row both (9 ∷ 32 ∷ 62 ∷ 32 ∷ 32 ∷ 48 ∷ 32 ∷ 9 ∷ 32 ∷ []) (Ok ((comparator gt 0 0 0 [] ∷ []) ∷ []))
    ∷ row both (bytes " >19.") Err
    ∷ row both (bytes "8  -  0||~0.27.4-X.0.10  =0.1") (Ok ((comparator gte 8 0 0 [] ∷ comparator lt 1 0 0 [] ∷ []) ∷ (comparator gte 0 27 4 (text 0 (bytes "X") ∷ number 0 ∷ number 10 ∷ []) ∷ comparator lt 0 28 0 [] ∷ comparator gte 0 1 0 [] ∷ comparator lt 0 2 0 [] ∷ []) ∷ []))
    ∷ row both (bytes "  =19 >16.17  ^0.3.0 ") (Ok ((comparator gte 19 0 0 [] ∷ comparator lt 20 0 0 [] ∷ comparator gt 16 17 0 [] ∷ comparator gte 0 3 0 [] ∷ comparator lt 0 4 0 [] ∷ []) ∷ []))
    ∷ row both (bytes " 0.16 - 16.18.16 ") (Ok ((comparator gte 0 16 0 [] ∷ comparator lte 16 18 16 [] ∷ []) ∷ []))
    ∷ row both (49 ∷ 55 ∷ 9 ∷ 32 ∷ 45 ∷ 32 ∷ 32 ∷ 49 ∷ 53 ∷ 9 ∷ 43 ∷ []) Err
    ∷ row both (62 ∷ 61 ∷ 9 ∷ 9 ∷ 49 ∷ 49 ∷ 46 ∷ 50 ∷ 53 ∷ 46 ∷ 48 ∷ 9 ∷ []) (Ok ((comparator gte 11 25 0 [] ∷ []) ∷ []))
    ∷ row both (bytes "  <12.24.6") (Ok ((comparator lt 12 24 6 [] ∷ []) ∷ []))
    ∷ row both (bytes "  ") (Ok ((comparator gte 0 0 0 [] ∷ []) ∷ []))
    ∷ row both (62 ∷ 61 ∷ 9 ∷ 48 ∷ 46 ∷ 120 ∷ 46 ∷ 50 ∷ 56 ∷ 45 ∷ 50 ∷ 53 ∷ 9 ∷ 120 ∷ 118 ∷ 49 ∷ []) Err
    ∷ row both (48 ∷ 46 ∷ 49 ∷ 57 ∷ 9 ∷ 45 ∷ 9 ∷ 55 ∷ 46 ∷ []) Err
    ∷ row both (32 ∷ 61 ∷ 9 ∷ 32 ∷ 50 ∷ 57 ∷ 46 ∷ 50 ∷ 48 ∷ 32 ∷ 32 ∷ 32 ∷ 61 ∷ 32 ∷ 32 ∷ 48 ∷ 46 ∷ 49 ∷ 56 ∷ []) (Ok ((comparator gte 29 20 0 [] ∷ comparator lt 29 21 0 [] ∷ comparator gte 0 18 0 [] ∷ comparator lt 0 19 0 [] ∷ []) ∷ []))
    ∷ row both (32 ∷ 62 ∷ 61 ∷ 32 ∷ 32 ∷ 9 ∷ 32 ∷ 32 ∷ 48 ∷ 46 ∷ 88 ∷ 32 ∷ 32 ∷ 62 ∷ 61 ∷ 42 ∷ 46 ∷ 48 ∷ 46 ∷ 56 ∷ 32 ∷ 32 ∷ []) (Ok ((comparator gte 0 0 0 [] ∷ comparator gte 0 0 0 [] ∷ []) ∷ []))
    ∷ row both (48 ∷ 46 ∷ 52 ∷ 9 ∷ 52 ∷ 9 ∷ []) (Ok ((comparator gte 0 4 0 [] ∷ comparator lt 0 5 0 [] ∷ comparator gte 4 0 0 [] ∷ comparator lt 5 0 0 [] ∷ []) ∷ []))
    ∷ row both (32 ∷ 32 ∷ 48 ∷ 46 ∷ 49 ∷ 52 ∷ 46 ∷ 49 ∷ 55 ∷ 43 ∷ 114 ∷ 99 ∷ 94 ∷ 57 ∷ 120 ∷ 120 ∷ 57 ∷ 65 ∷ 48 ∷ 45 ∷ 9 ∷ 32 ∷ 32 ∷ 9 ∷ 32 ∷ []) Err
    ∷ row both (32 ∷ 9 ∷ 9 ∷ 32 ∷ 32 ∷ 50 ∷ 51 ∷ 46 ∷ 50 ∷ 50 ∷ 46 ∷ 49 ∷ 55 ∷ 32 ∷ 45 ∷ 9 ∷ 9 ∷ 50 ∷ 50 ∷ 46 ∷ 54 ∷ []) (Ok ((comparator gte 23 22 17 [] ∷ comparator lt 22 7 0 [] ∷ []) ∷ []))
    ∷ row both (32 ∷ 9 ∷ 56 ∷ 9 ∷ 9 ∷ 45 ∷ 32 ∷ 48 ∷ 46 ∷ 49 ∷ 57 ∷ 46 ∷ 48 ∷ []) (Ok ((comparator gte 8 0 0 [] ∷ comparator lte 0 19 0 [] ∷ []) ∷ []))
    ∷ row both (9 ∷ 32 ∷ 32 ∷ []) (Ok ((comparator gte 0 0 0 [] ∷ []) ∷ []))
    ∷ row both (62 ∷ 61 ∷ 50 ∷ 57 ∷ 9 ∷ 9 ∷ 60 ∷ 61 ∷ 32 ∷ 32 ∷ 32 ∷ 32 ∷ 9 ∷ 49 ∷ 53 ∷ 32 ∷ 32 ∷ 124 ∷ 124 ∷ 32 ∷ 32 ∷ 9 ∷ 9 ∷ 9 ∷ 94 ∷ 49 ∷ 51 ∷ 46 ∷ 48 ∷ 46 ∷ 49 ∷ 53 ∷ []) (Ok ((comparator gte 29 0 0 [] ∷ comparator lt 16 0 0 [] ∷ []) ∷ (comparator gte 13 0 15 [] ∷ comparator lt 14 0 0 [] ∷ []) ∷ []))
    ∷ row both (32 ∷ 32 ∷ 9 ∷ 32 ∷ 9 ∷ 62 ∷ 61 ∷ 49 ∷ 55 ∷ 46 ∷ 50 ∷ 55 ∷ 32 ∷ 94 ∷ 32 ∷ 32 ∷ 32 ∷ 32 ∷ 32 ∷ 49 ∷ 128 ∷ 65297 ∷ 50 ∷ 46 ∷ 50 ∷ 56 ∷ 46 ∷ 53 ∷ 9 ∷ 49 ∷ []) Err
    ∷ row both (bytes " ^16: ") Err
    ∷ row both (126 ∷ 32 ∷ 32 ∷ 9 ∷ 9 ∷ 9 ∷ 49 ∷ 52 ∷ 53 ∷ 54 ∷ 51 ∷ 56 ∷ 51 ∷ 56 ∷ 48 ∷ 49 ∷ 50 ∷ 54 ∷ 51 ∷ 51 ∷ 53 ∷ 55 ∷ 48 ∷ 46 ∷ 49 ∷ 53 ∷ 32 ∷ 32 ∷ []) (Ok ((comparator gte 14563838012633570 15 0 [] ∷ comparator lt 14563838012633570 16 0 [] ∷ []) ∷ []))
    ∷ row both (9 ∷ 32 ∷ 60 ∷ 9 ∷ 50 ∷ 53 ∷ 46 ∷ 50 ∷ 51 ∷ 46 ∷ 48 ∷ 32 ∷ 60 ∷ 32 ∷ 49 ∷ 56 ∷ []) (Ok ((comparator lt 25 23 0 [] ∷ comparator lt 18 0 0 [] ∷ []) ∷ []))
    ∷ row both (62 ∷ 9 ∷ 32 ∷ 32 ∷ 32 ∷ 32 ∷ 50 ∷ 49 ∷ 46 ∷ 57 ∷ 46 ∷ 8195 ∷ 50 ∷ 49 ∷ 65290 ∷ 45 ∷ 48 ∷ []) Err
    ∷ row both (32 ∷ 32 ∷ 9 ∷ 9 ∷ 9 ∷ 120 ∷ 46 ∷ 56 ∷ 46 ∷ 88 ∷ 32 ∷ 45 ∷ 9 ∷ 32 ∷ 50 ∷ 46 ∷ 42 ∷ 46 ∷ 50 ∷ 49 ∷ 32 ∷ 9 ∷ 9 ∷ 9 ∷ 120 ∷ 46 ∷ 56 ∷ 46 ∷ 88 ∷ 32 ∷ 45 ∷ 9 ∷ 32 ∷ 50 ∷ 46 ∷ 42 ∷ 46 ∷ 50 ∷ 49 ∷ []) Err
    ∷ row both (32 ∷ 124 ∷ 124 ∷ 62 ∷ 61 ∷ 54 ∷ 65297 ∷ 46 ∷ 48 ∷ 46 ∷ 50 ∷ 57 ∷ 9 ∷ 32 ∷ []) Err
    ∷ row both (32 ∷ 32 ∷ 9 ∷ 32 ∷ 32 ∷ []) (Ok ((comparator gte 0 0 0 [] ∷ []) ∷ []))
    ∷ row both (94 ∷ 50 ∷ 48 ∷ 46 ∷ 48 ∷ 46 ∷ 49 ∷ 56 ∷ 45 ∷ 97 ∷ 120793 ∷ 57 ∷ 9 ∷ 32 ∷ 124 ∷ 124 ∷ 32 ∷ 62 ∷ 49 ∷ 160 ∷ 54 ∷ 46 ∷ 53 ∷ []) Err
    ∷ row both (9 ∷ 32 ∷ 60 ∷ 49 ∷ 54 ∷ 46 ∷ 50 ∷ 51 ∷ 46 ∷ 50 ∷ 52 ∷ 43 ∷ 98 ∷ 45 ∷ 124 ∷ 124 ∷ 54 ∷ 53 ∷ 57 ∷ 94 ∷ 48 ∷ 57 ∷ 45 ∷ 32 ∷ 32 ∷ 49 ∷ 53 ∷ 46 ∷ 88 ∷ 46 ∷ 48 ∷ 9 ∷ 32 ∷ 32 ∷ 32 ∷ 32 ∷ []) Err
    ∷ row both (32 ∷ 61 ∷ 32 ∷ 94 ∷ 32 ∷ 9 ∷ 9 ∷ 32 ∷ 49 ∷ 54 ∷ 46 ∷ 52 ∷ 46 ∷ 57 ∷ 43 ∷ 49 ∷ 49 ∷ 46 ∷ []) Err
    ∷ row (Cargo ∷ []) (bytes ">= 15.17.18 = 0 15.17.18 = 0") (Ok ((comparator gte 15 17 18 [] ∷ comparator gte 0 0 0 [] ∷ comparator lt 1 0 0 [] ∷ comparator gte 15 17 18 [] ∷ comparator lt 16 0 0 [] ∷ comparator gte 0 0 0 [] ∷ comparator lt 1 0 0 [] ∷ []) ∷ []))
    ∷ row (Npm ∷ []) (bytes ">= 15.17.18 = 0 15.17.18 = 0") (Ok ((comparator gte 15 17 18 [] ∷ comparator gte 0 0 0 [] ∷ comparator lt 1 0 0 [] ∷ comparator eq 15 17 18 [] ∷ comparator gte 0 0 0 [] ∷ comparator lt 1 0 0 [] ∷ []) ∷ []))
    ∷ row both (bytes "^29 >=13 ") (Ok ((comparator gte 29 0 0 [] ∷ comparator lt 30 0 0 [] ∷ comparator gte 13 0 0 [] ∷ []) ∷ []))
    ∷ row both (9 ∷ 49 ∷ 46 ∷ 55 ∷ 46 ∷ 54 ∷ 32 ∷ 45 ∷ 32 ∷ 32 ∷ 49 ∷ 54 ∷ 49 ∷ 48 ∷ 46 ∷ 49 ∷ 53 ∷ []) (Ok ((comparator gte 1 7 6 [] ∷ comparator lt 1610 16 0 [] ∷ []) ∷ []))
    ∷ row both (48 ∷ 9 ∷ 0 ∷ 45 ∷ 50 ∷ 53 ∷ 46 ∷ 50 ∷ 52 ∷ 45 ∷ 9 ∷ 50 ∷ 53 ∷ 46 ∷ 50 ∷ 52 ∷ []) Err
    ∷ row both (9 ∷ 32 ∷ 32 ∷ 9 ∷ 9 ∷ 60 ∷ 32 ∷ 9 ∷ 9 ∷ 32 ∷ 9 ∷ 48 ∷ 46 ∷ 48 ∷ 46 ∷ 48 ∷ []) (Ok ((comparator lt 0 0 0 [] ∷ []) ∷ []))
    ∷ row both (50 ∷ 55 ∷ 46 ∷ 50 ∷ 56 ∷ 46 ∷ 48 ∷ 45 ∷ 49 ∷ 54 ∷ 46 ∷ 50 ∷ 56 ∷ 32 ∷ 32 ∷ 32 ∷ 32 ∷ 32 ∷ 32 ∷ 45 ∷ 9 ∷ 88 ∷ 46 ∷ 48 ∷ 46 ∷ 48 ∷ 32 ∷ 32 ∷ 32 ∷ 32 ∷ 32 ∷ []) (Ok ((comparator gte 27 28 0 (number 16 ∷ number 28 ∷ []) ∷ []) ∷ []))
    ∷ row both (32 ∷ 48 ∷ 46 ∷ 50 ∷ 55 ∷ 46 ∷ 49 ∷ 54 ∷ 32 ∷ 32 ∷ 45 ∷ 32 ∷ 32 ∷ 9 ∷ 9 ∷ 32 ∷ 32 ∷ 56 ∷ 46 ∷ 48 ∷ 46 ∷ 50 ∷ 57 ∷ 43 ∷ 88 ∷ 32 ∷ 124 ∷ 124 ∷ 50 ∷ 52 ∷ 32 ∷ 45 ∷ 9 ∷ 9 ∷ 48 ∷ 46 ∷ 52 ∷ []) (Ok ((comparator gte 0 27 16 [] ∷ comparator lte 8 0 29 (text 0 (bytes "X") ∷ []) ∷ []) ∷ (comparator gte 24 0 0 [] ∷ comparator lt 0 5 0 [] ∷ []) ∷ []))
    ∷ row (Cargo ∷ []) (9 ∷ 50 ∷ 48 ∷ 46 ∷ 50 ∷ 57 ∷ 46 ∷ 49 ∷ 32 ∷ 32 ∷ 32 ∷ 126 ∷ 32 ∷ 50 ∷ 53 ∷ 46 ∷ 49 ∷ 52 ∷ 46 ∷ 120 ∷ []) (Ok ((comparator gte 20 29 1 [] ∷ comparator lt 21 0 0 [] ∷ comparator gte 25 14 0 [] ∷ comparator lt 25 15 0 [] ∷ []) ∷ []))
    ∷ row (Npm ∷ []) (9 ∷ 50 ∷ 48 ∷ 46 ∷ 50 ∷ 57 ∷ 46 ∷ 49 ∷ 32 ∷ 32 ∷ 32 ∷ 126 ∷ 32 ∷ 50 ∷ 53 ∷ 46 ∷ 49 ∷ 52 ∷ 46 ∷ 120 ∷ []) (Ok ((comparator eq 20 29 1 [] ∷ comparator gte 25 14 0 [] ∷ comparator lt 25 15 0 [] ∷ []) ∷ []))
    ∷ row both (32 ∷ 9 ∷ 49 ∷ 48 ∷ 46 ∷ 50 ∷ 55 ∷ 32 ∷ 32 ∷ []) (Ok ((comparator gte 10 27 0 [] ∷ comparator lt 10 28 0 [] ∷ []) ∷ []))
    ∷ row both (9 ∷ 32 ∷ 60 ∷ 50 ∷ 56 ∷ 44 ∷ 32 ∷ 126 ∷ 62 ∷ 49 ∷ 57 ∷ 9 ∷ 32 ∷ 126 ∷ 62 ∷ 50 ∷ 52 ∷ 32 ∷ []) (Ok ((comparator lt 28 0 0 [] ∷ comparator gte 19 0 0 [] ∷ comparator lt 20 0 0 [] ∷ comparator gte 24 0 0 [] ∷ comparator lt 25 0 0 [] ∷ []) ∷ []))
    ∷ row both (9 ∷ 32 ∷ 32 ∷ 32 ∷ 32 ∷ 61 ∷ 32 ∷ 32 ∷ 49 ∷ 52 ∷ 46 ∷ 48 ∷ 46 ∷ 50 ∷ 49 ∷ 44 ∷ 32 ∷ 32 ∷ 60 ∷ 32 ∷ 43 ∷ 32 ∷ 50 ∷ 53 ∷ 54 ∷ 57 ∷ 51 ∷ 50 ∷ 48 ∷ 48 ∷ 53 ∷ 55 ∷ 51 ∷ 46 ∷ 49 ∷ 32 ∷ []) Err
    ∷ row both (9 ∷ 50 ∷ 57 ∷ 46 ∷ []) Err
    ∷ row (Cargo ∷ []) (48 ∷ 46 ∷ 50 ∷ 52 ∷ 46 ∷ 48 ∷ 43 ∷ 45 ∷ 9 ∷ 32 ∷ 126 ∷ 62 ∷ 9 ∷ 53 ∷ 46 ∷ 56 ∷ 46 ∷ 42 ∷ 45 ∷ 49 ∷ 49 ∷ 44 ∷ 32 ∷ 9 ∷ 62 ∷ 61 ∷ 50 ∷ 57 ∷ 46 ∷ 49 ∷ 51 ∷ 46 ∷ 48 ∷ []) (Ok ((comparator gte 0 24 0 (text 0 (bytes "-") ∷ []) ∷ comparator lt 0 25 0 [] ∷ comparator gte 5 8 0 [] ∷ comparator lt 5 9 0 [] ∷ comparator gte 29 13 0 [] ∷ []) ∷ []))
    ∷ row (Npm ∷ []) (48 ∷ 46 ∷ 50 ∷ 52 ∷ 46 ∷ 48 ∷ 43 ∷ 45 ∷ 9 ∷ 32 ∷ 126 ∷ 62 ∷ 9 ∷ 53 ∷ 46 ∷ 56 ∷ 46 ∷ 42 ∷ 45 ∷ 49 ∷ 49 ∷ 44 ∷ 32 ∷ 9 ∷ 62 ∷ 61 ∷ 50 ∷ 57 ∷ 46 ∷ 49 ∷ 51 ∷ 46 ∷ 48 ∷ []) (Ok ((comparator eq 0 24 0 (text 0 (bytes "-") ∷ []) ∷ comparator gte 5 8 0 [] ∷ comparator lt 5 9 0 [] ∷ comparator gte 29 13 0 [] ∷ []) ∷ []))
    ∷ row both (bytes " 27..2   - 29.0 ") Err
    ∷ row both (9 ∷ 60 ∷ 32 ∷ 65290 ∷ 48 ∷ 46 ∷ 49 ∷ 55 ∷ []) Err
    ∷ row both (60 ∷ 61 ∷ 32 ∷ 9 ∷ 49 ∷ 54 ∷ 32 ∷ 32 ∷ 126 ∷ 9 ∷ 50 ∷ 49 ∷ 46 ∷ 48 ∷ 46 ∷ 50 ∷ 45 ∷ 98 ∷ 57 ∷ 48 ∷ 9 ∷ 32 ∷ 9 ∷ 32 ∷ 9 ∷ []) (Ok ((comparator lt 17 0 0 [] ∷ comparator gte 21 0 2 (text 0 (bytes "b90") ∷ []) ∷ comparator lt 21 1 0 [] ∷ []) ∷ []))
    ∷ row both (32 ∷ 126 ∷ 62 ∷ 53 ∷ 32 ∷ 62 ∷ 61 ∷ 49 ∷ 50 ∷ 46 ∷ 55 ∷ 46 ∷ 48 ∷ 9 ∷ 124 ∷ 124 ∷ 52 ∷ 46 ∷ 88 ∷ 46 ∷ 50 ∷ 49 ∷ 43 ∷ 90 ∷ 32 ∷ 45 ∷ 32 ∷ 57 ∷ 46 ∷ 48 ∷ 46 ∷ 50 ∷ 50 ∷ 45 ∷ 49 ∷ 55 ∷ 46 ∷ 88 ∷ 122 ∷ []) (Ok ((comparator gte 5 0 0 [] ∷ comparator lt 6 0 0 [] ∷ comparator gte 12 7 0 [] ∷ []) ∷ (comparator gte 4 0 0 [] ∷ comparator lte 9 0 22 (number 17 ∷ text 0 (bytes "Xz") ∷ []) ∷ []) ∷ []))
    ∷ row both (bytes "~> 11.11.10     ") (Ok ((comparator gte 11 11 10 [] ∷ comparator lt 11 12 0 [] ∷ []) ∷ []))
    ∷ row both (9 ∷ 49 ∷ 54 ∷ 46 ∷ 48 ∷ 9 ∷ 9 ∷ 9 ∷ 9 ∷ 9 ∷ 32 ∷ 45 ∷ 9 ∷ 48 ∷ 32 ∷ 32 ∷ 32 ∷ 9 ∷ 9 ∷ []) (Ok ((comparator gte 16 0 0 [] ∷ comparator lt 1 0 0 [] ∷ []) ∷ []))
    ∷ row both (32 ∷ 50 ∷ 50 ∷ 32 ∷ 32 ∷ 45 ∷ 9 ∷ 32 ∷ 50 ∷ 50 ∷ []) (Ok ((comparator gte 22 0 0 [] ∷ comparator lt 23 0 0 [] ∷ []) ∷ []))
    ∷ row both (9 ∷ 32 ∷ 32 ∷ 9 ∷ 32 ∷ 49 ∷ 46 ∷ 52 ∷ 46 ∷ 54 ∷ 32 ∷ 32 ∷ 126 ∷ 32 ∷ 55 ∷ 53 ∷ 56 ∷ 57 ∷ 50 ∷ 55 ∷ 50 ∷ 52 ∷ 51 ∷ 55 ∷ 49 ∷ 53 ∷ 54 ∷ 50 ∷ 48 ∷ 55 ∷ 57 ∷ 51 ∷ 56 ∷ 48 ∷ 46 ∷ 52 ∷ 46 ∷ 48 ∷ 45 ∷ 48 ∷ []) panicked
    ∷ row both (32 ∷ 32 ∷ 62 ∷ 9 ∷ 9 ∷ 88 ∷ 46 ∷ 49 ∷ 49 ∷ 46 ∷ 52 ∷ 45 ∷ 32 ∷ 120 ∷ 118 ∷ 49 ∷ 122 ∷ 32 ∷ 9 ∷ 126 ∷ 32 ∷ 9 ∷ 9 ∷ 32 ∷ 32 ∷ 49 ∷ 51 ∷ 46 ∷ 120 ∷ []) Err
    ∷ row both (126 ∷ 62 ∷ 48 ∷ 44 ∷ 160 ∷ 9 ∷ 32 ∷ 94 ∷ 32 ∷ 50 ∷ 120793 ∷ 56 ∷ 56 ∷ 55 ∷ 53 ∷ 46 ∷ 49 ∷ 54 ∷ 44 ∷ 32 ∷ 32 ∷ 60 ∷ 61 ∷ 9 ∷ 48 ∷ 65279 ∷ 46 ∷ 48 ∷ 46 ∷ 54 ∷ []) Err
    ∷ row both (65290 ∷ 9 ∷ 49 ∷ 52 ∷ 46 ∷ 48 ∷ 65297 ∷ 32 ∷ []) Err
    ∷ row both (50 ∷ 57 ∷ 46 ∷ 48 ∷ 46 ∷ 52 ∷ 51 ∷ 56 ∷ 50 ∷ 49 ∷ 48 ∷ 57 ∷ 57 ∷ 57 ∷ 48 ∷ 55 ∷ 48 ∷ 45 ∷ 88 ∷ 32 ∷ 32 ∷ 45 ∷ 32 ∷ 32 ∷ 32 ∷ 32 ∷ 9 ∷ 32 ∷ 48 ∷ 46 ∷ 57 ∷ 9 ∷ []) (Ok ((comparator gte 29 0 438210999070 (text 0 (bytes "X") ∷ []) ∷ comparator lt 0 10 0 [] ∷ []) ∷ []))
    ∷ row both (bytes "~>26||<= 0.29.907439157194890") (Ok ((comparator gte 26 0 0 [] ∷ comparator lt 27 0 0 [] ∷ []) ∷ (comparator lte 0 29 907439157194890 [] ∷ []) ∷ []))
    ∷ row both (60 ∷ 9 ∷ 48 ∷ 46 ∷ 50 ∷ 32 ∷ 124 ∷ 124 ∷ 126 ∷ 62 ∷ 32 ∷ 50 ∷ 57 ∷ 32 ∷ 9 ∷ 62 ∷ 61 ∷ 32 ∷ 49 ∷ 48 ∷ []) (Ok ((comparator lt 0 2 0 [] ∷ []) ∷ (comparator gte 29 0 0 [] ∷ comparator lt 30 0 0 [] ∷ comparator gte 10 0 0 [] ∷ []) ∷ []))
    ∷ row both (32 ∷ 9 ∷ 32 ∷ 32 ∷ 9 ∷ 126 ∷ 32 ∷ 48 ∷ 46 ∷ 53 ∷ 46 ∷ 48 ∷ 45 ∷ 90 ∷ 46 ∷ 48 ∷ 46 ∷ 97 ∷ 65 ∷ 57 ∷ []) (Ok ((comparator gte 0 5 0 (text 0 (bytes "Z") ∷ number 0 ∷ text 0 (bytes "aA9") ∷ []) ∷ comparator lt 0 6 0 [] ∷ []) ∷ []))
    ∷ row both (bytes "~z") Err
    ∷ row both (94 ∷ 49 ∷ 48 ∷ 9 ∷ 124 ∷ 124 ∷ 32 ∷ 62 ∷ 128 ∷ 61 ∷ 50 ∷ 56 ∷ 46 ∷ 49 ∷ 50 ∷ 46 ∷ 42 ∷ 43 ∷ 98 ∷ 65290 ∷ 32 ∷ 32 ∷ []) Err
    ∷ row both (9 ∷ 60 ∷ 61 ∷ 32 ∷ 88 ∷ 46 ∷ 53 ∷ 46 ∷ 49 ∷ 52 ∷ 32 ∷ []) (Ok ((comparator gte 0 0 0 [] ∷ []) ∷ []))
    ∷ row both (bytes "0.251410057750.29-x0      - x.X.249") (Ok ((comparator gte 0 251410057750 29 (text 0 (bytes "x0") ∷ []) ∷ []) ∷ []))
    ∷ row both (9 ∷ 62 ∷ 61 ∷ 9 ∷ 32 ∷ 55 ∷ 46 ∷ 49 ∷ 53 ∷ 46 ∷ 55 ∷ 45 ∷ 118 ∷ 49 ∷ 46 ∷ 90 ∷ 46 ∷ 49 ∷ 51 ∷ 9 ∷ 61 ∷ 9 ∷ 9 ∷ 9 ∷ 32 ∷ 9 ∷ 49 ∷ 56 ∷ 46 ∷ 48 ∷ 46 ∷ 50 ∷ 48 ∷ 9 ∷ 32 ∷ 9 ∷ 32 ∷ 9 ∷ []) (Ok ((comparator gte 7 15 7 (text 0 (bytes "v1") ∷ text 0 (bytes "Z") ∷ number 13 ∷ []) ∷ comparator eq 18 0 20 [] ∷ []) ∷ []))
    ∷ row both (62 ∷ 61 ∷ 9 ∷ 32 ∷ 9 ∷ 9 ∷ 32 ∷ 49 ∷ 51 ∷ 46 ∷ 49 ∷ 55 ∷ 46 ∷ 54 ∷ 32 ∷ []) (Ok ((comparator gte 13 17 6 [] ∷ []) ∷ []))
    ∷ row both (62 ∷ 126 ∷ 9 ∷ []) Err
    ∷ row both (61 ∷ 32 ∷ 48 ∷ 46 ∷ 124 ∷ 88 ∷ 46 ∷ 50 ∷ 44 ∷ 9 ∷ 9 ∷ 60 ∷ 124 ∷ 61 ∷ 9 ∷ 49 ∷ 56 ∷ 46 ∷ 50 ∷ 52 ∷ 46 ∷ 49 ∷ []) Err
    ∷ row both (32 ∷ 32 ∷ 62 ∷ 61 ∷ 49 ∷ 56 ∷ 46 ∷ 50 ∷ 48 ∷ 46 ∷ 50 ∷ 52 ∷ 45 ∷ 50 ∷ 57 ∷ 46 ∷ 49 ∷ 56 ∷ 46 ∷ 50 ∷ 53 ∷ 32 ∷ 126 ∷ 32 ∷ 32 ∷ 9 ∷ 32 ∷ 9 ∷ 49 ∷ 54 ∷ 46 ∷ 49 ∷ 55 ∷ 9 ∷ 9 ∷ []) (Ok ((comparator gte 18 20 24 (number 29 ∷ number 18 ∷ number 25 ∷ []) ∷ comparator gte 16 17 0 [] ∷ comparator lt 16 18 0 [] ∷ []) ∷ []))
    ∷ row both (62 ∷ 61 ∷ 48 ∷ 32 ∷ 32 ∷ 61 ∷ 9 ∷ 32 ∷ 50 ∷ 56 ∷ 32 ∷ 32 ∷ 62 ∷ 61 ∷ 32 ∷ 32 ∷ 32 ∷ 32 ∷ 32 ∷ 50 ∷ 52 ∷ 46 ∷ 48 ∷ 32 ∷ 61 ∷ 48 ∷ 44 ∷ 9 ∷ 32 ∷ 126 ∷ 49 ∷ 55 ∷ 46 ∷ 49 ∷ 46 ∷ 51 ∷ 32 ∷ []) (Ok ((comparator gte 0 0 0 [] ∷ comparator gte 28 0 0 [] ∷ comparator lt 29 0 0 [] ∷ comparator gte 24 0 0 [] ∷ comparator gte 0 0 0 [] ∷ comparator lt 1 0 0 [] ∷ comparator gte 17 1 3 [] ∷ comparator lt 17 2 0 [] ∷ []) ∷ []))
    ∷ row both (32 ∷ 32 ∷ 32 ∷ 32 ∷ 9 ∷ 60 ∷ 61 ∷ 48 ∷ []) (Ok ((comparator lt 1 0 0 [] ∷ []) ∷ []))
    ∷ row both (bytes "  4.6,  ~20  < 19.0.*") (Ok ((comparator gte 4 6 0 [] ∷ comparator lt 4 7 0 [] ∷ comparator gte 20 0 0 [] ∷ comparator lt 21 0 0 [] ∷ comparator lt 19 0 0 [] ∷ []) ∷ []))
    ∷ row both (bytes "0.80") (Ok ((comparator gte 0 80 0 [] ∷ comparator lt 0 81 0 [] ∷ []) ∷ []))
    ∷ row both (126 ∷ 62 ∷ 32 ∷ 32 ∷ 49 ∷ 54 ∷ 32 ∷ 9 ∷ []) (Ok ((comparator gte 16 0 0 [] ∷ comparator lt 17 0 0 [] ∷ []) ∷ []))
    ∷ row both (bytes "  ~>0. 26") Err
    ∷ row both (9 ∷ 62 ∷ 61 ∷ 9 ∷ 48 ∷ 46 ∷ 50 ∷ 56 ∷ 46 ∷ 48 ∷ 45 ∷ 114 ∷ 99 ∷ 122 ∷ 32 ∷ 32 ∷ 9 ∷ 9 ∷ 32 ∷ 9 ∷ 61 ∷ 32 ∷ 48 ∷ 32 ∷ 9 ∷ 61 ∷ 32 ∷ 32 ∷ 9 ∷ 9 ∷ 9 ∷ 44 ∷ []) Err
    ∷ row both (60 ∷ 61 ∷ 32 ∷ 8195 ∷ 32 ∷ 128 ∷ 32 ∷ 32 ∷ 32 ∷ 50 ∷ 46 ∷ 50 ∷ 50 ∷ 32 ∷ 120793 ∷ 126 ∷ 62 ∷ 49 ∷ 57 ∷ 46 ∷ 48 ∷ 9 ∷ []) Err
    ∷ row both (32 ∷ 126 ∷ 38 ∷ 9 ∷ 32 ∷ 9 ∷ 32 ∷ 9 ∷ 42 ∷ 46 ∷ 50 ∷ 50 ∷ 53 ∷ 32 ∷ []) Err
    ∷ row both (94 ∷ 32 ∷ 160 ∷ 54 ∷ 32 ∷ 65290 ∷ []) Err
    ∷ row both (bytes "  21.0") (Ok ((comparator gte 21 0 0 [] ∷ comparator lt 21 1 0 [] ∷ []) ∷ []))
    ∷ row both (126 ∷ 32 ∷ 9 ∷ 32 ∷ 32 ∷ 9 ∷ 55 ∷ 46 ∷ 49 ∷ 55 ∷ 46 ∷ 49 ∷ 57 ∷ 45 ∷ 48 ∷ 50 ∷ 54 ∷ []) Err
    ∷ row both (9 ∷ 32 ∷ 60 ∷ 56 ∷ 54 ∷ 53 ∷ 51 ∷ 56 ∷ 55 ∷ 53 ∷ 54 ∷ 56 ∷ 55 ∷ 52 ∷ 52 ∷ 50 ∷ 57 ∷ 54 ∷ 53 ∷ 55 ∷ 52 ∷ 48 ∷ []) (Ok ((comparator lt 8653875687442965740 0 0 [] ∷ []) ∷ []))
    ∷ row both (9 ∷ 32 ∷ 32 ∷ 32 ∷ 32 ∷ 61 ∷ 32 ∷ 32 ∷ 32 ∷ 9 ∷ 32 ∷ 49 ∷ 56 ∷ 52 ∷ 52 ∷ 54 ∷ 55 ∷ 52 ∷ 52 ∷ 48 ∷ 55 ∷ 51 ∷ 55 ∷ 48 ∷ 57 ∷ 53 ∷ 53 ∷ 49 ∷ 54 ∷ 49 ∷ 55 ∷ 9 ∷ []) panicked
    ∷ row both (bytes " ^19 x, ~>  5.8.18-X") (Ok ((comparator gte 19 0 0 [] ∷ comparator lt 20 0 0 [] ∷ comparator gte 0 0 0 [] ∷ comparator gte 5 8 18 (text 0 (bytes "X") ∷ []) ∷ comparator lt 5 9 0 [] ∷ []) ∷ []))
    ∷ row (Cargo ∷ []) (bytes "<=10||     6.20.3995 ") (Ok ((comparator lt 11 0 0 [] ∷ []) ∷ (comparator gte 6 20 3995 [] ∷ comparator lt 7 0 0 [] ∷ []) ∷ []))
    ∷ row (Npm ∷ []) (bytes "<=10||     6.20.3995 ") (Ok ((comparator lt 11 0 0 [] ∷ []) ∷ (comparator eq 6 20 3995 [] ∷ []) ∷ []))
    ∷ row both (32 ∷ 48 ∷ 44 ∷ 32 ∷ 62 ∷ 57 ∷ 120 ∷ 46 ∷ 49 ∷ 53 ∷ 46 ∷ 51 ∷ 45 ∷ 48 ∷ 32 ∷ 9 ∷ []) Err
    ∷ row both (62 ∷ 61 ∷ 50 ∷ 57 ∷ 46 ∷ 50 ∷ 1633 ∷ 53 ∷ 46 ∷ 48 ∷ 45 ∷ 49 ∷ 50 ∷ 65290 ∷ 32 ∷ []) Err
    ∷ row both (32 ∷ 65297 ∷ 32 ∷ []) Err
    ∷ []
