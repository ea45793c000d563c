-- The shelf's definitions answer the tables of examples as written.
-- Assumes nothing.
use mathlib.Core.Path.{◌≡◌, refl}
use mathlib.Core.Option.{none, some}
use mathlib.Core.List.{[], map}
use Rattle.rules.specs.Bytes.{bytes, is_digit, is_nonzero, is_letter, value, value_from}
use Rattle.rules.specs.Syntax.{of_digits, up_to₁, up_to₂, up_to₃}
use Rattle.rules.specs.Parse.{◌then◌, choose, many, one_of, count, run, literal, spaces₁, read_number, read_component, read_identifier, read_dot_identifier, read_identifiers, read_qualifier, read_dot, after_three, after_two, after_one, read_partial, read_prefix, read_item, read_gap, read_next, read_dash, read_items, after_item, read_range, read_separator, read_further, at_end, read_text}
use Rattle.rules.specs.Version.{read_word, read_version_identifier, read_after_dot, read_series, read_version}
use Rattle.rules.specs.Answers.{accepted}
use Rattle.rules.specs.Admission.{admits}
use Rattle.shelf_rules.specs.Shelf.{first_fit_call}
use Rattle.shelf_rules.specs.Lookup.{lookup_call}
use Rattle.shelf_rules.specs.Examples.{other_triples, changes, change_answered, change_expected, listings, listing_answered, listing_expected, fits, fit_answered, fit_expected, lookups, lookup_answered, boundeds, bounded_answered, bounded_expected}

-- the tables at once, since one list of definitions opens for all
pub tables : (map change_answered changes ≡ map change_expected changes) × (map listing_answered listings ≡ map listing_expected listings)
    × (map fit_answered fits ≡ map fit_expected fits) × (map lookup_answered lookups ≡ map fit_expected lookups)
    × (map bounded_answered boundeds ≡ map bounded_expected boundeds) × (lookup_call admits (bytes "1.5.0") (other_triples []) ≡ accepted none)
    × (first_fit_call admits (bytes "1.5.0") (other_triples []) ≡ accepted (some 7))
unfolding changes change_answered listings listing_answered fits fit_answered lookups lookup_answered boundeds bounded_answered is_digit is_nonzero is_letter value value_from of_digits up_to₁ up_to₂ up_to₃ ◌then◌ choose many one_of count run literal spaces₁ read_number read_component read_identifier read_dot_identifier read_identifiers read_qualifier read_dot after_three after_two after_one read_partial read_prefix read_item read_gap read_next read_dash read_items after_item read_range read_separator read_further at_end read_text read_word read_version_identifier read_after_dot read_series read_version
tables = (refl, refl, refl, refl, refl, refl, refl)
