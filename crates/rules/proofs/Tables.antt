-- The definitions answer the tables of examples as written.
-- Assumes nothing.
use mathlib.Core.Path.{◌≡◌, refl}
use mathlib.Core.List.{map}
use Rattle.rules.specs.Bytes.{is_digit, is_nonzero, is_letter, value, value_from}
use Rattle.rules.specs.Syntax.{of_digits, up_to₁, up_to₂, up_to₃}
use Rattle.rules.specs.Parse.{◌then◌, choose, many, one_of, count, run, literal, spaces₁, read_number, read_component, read_identifier, read_dot_identifier, read_identifiers, read_qualifier, read_dot, after_three, after_two, after_one, read_partial, read_prefix, read_item, read_gap, read_next, read_dash, read_items, after_item, read_range, read_separator, read_further, at_end, read_text, found_in}
use Rattle.rules.specs.Extents.{next_extent, items_extents, after_extents, range_extents, further_extents, text_extents}
use Rattle.rules.specs.Version.{read_word, read_version_identifier, read_after_dot, read_series, read_version, version_identifiers_in}
use Rattle.rules.specs.Plainform.{input_sheet, output_of, output_given}
use Rattle.rules.specs.Admits.{sessions, session_output, session_given, range_lines}
use Rattle.rules.specs.Examples.{bench_sheet, worked, expected, answered, worked_rows, worked_items, said, given, rows_answered, rows_expected, items_answered, items_expected}
use Rattle.rules.specs.AdmissionExamples.{chain, comparisons, order_expected, order_answered, admissions, admission_expected, admission_answered}
use Rattle.rules.specs.CallExamples.{reading_calls, reads_answered, reads_expected, readings, parts, part_answered, part_expected, normal_text_calls, writes_answered, writes_expected, normal_texts, reread_calls, rereads_answered, rereads_expected, texts_calls, compares_answered, compares_expected, modes, mode_pairs, reread_numbered, spans, verdicts, lefts, identifiers}
use Rattle.rules.specs.ByteExamples.{classes, members_of, members_given}
use Rattle.rules.specs.LimitExamples.{limits}

-- each table, by its name
pub record Tables : Type 0 where
  pub bench-sheet : map answered bench_sheet ≡ map expected bench_sheet
  pub worked-examples : map answered worked ≡ map expected worked
  pub worked-rows : map rows_answered worked_rows ≡ map rows_expected worked_rows
  pub worked-items : map items_answered worked_items ≡ map items_expected worked_items
  pub input-sheet : map output_of input_sheet ≡ map output_given input_sheet
  pub precedence-chain : map order_answered chain ≡ map order_expected chain
  pub worked-comparisons : map order_answered comparisons ≡ map order_expected comparisons
  pub worked-admissions : map admission_answered admissions ≡ map admission_expected admissions
  pub admits-sessions : map session_output sessions ≡ map session_given sessions
  pub refused-ranges : map said range_lines ≡ map given range_lines
  pub reading-calls : map reads_answered reading_calls ≡ map reads_expected reading_calls
  pub handed-readings : map said readings ≡ map given readings
  pub identifier-parts : map part_answered parts ≡ map part_expected parts
  pub normal-text-calls : map writes_answered normal_text_calls ≡ map writes_expected normal_text_calls
  pub handed-texts : map said normal_texts ≡ map given normal_texts
  pub reread-calls : map rereads_answered reread_calls ≡ map rereads_expected reread_calls
  pub texts-calls : map compares_answered texts_calls ≡ map compares_expected texts_calls
  pub mode-numbers : map said modes ≡ map given modes
  pub mode-pairs : map said mode_pairs ≡ map given mode_pairs
  pub reread-numbers : map said reread_numbered ≡ map given reread_numbered
  pub part-spans : map said spans ≡ map given spans
  pub verdict-numbers : map said verdicts ≡ map given verdicts
  pub numbers-left : map said lefts ≡ map given lefts
  pub identifiers-found : map said identifiers ≡ map given identifiers
  pub byte-classes : map members_of classes ≡ map members_given classes
  pub all-limits : map said limits ≡ map given limits

-- all at once, since one list of definitions opens for all
pub tables : Tables
unfolding bench_sheet worked answered worked_rows rows_answered worked_items items_answered input_sheet output_of chain comparisons order_answered admissions admission_answered sessions session_output range_lines reading_calls reads_answered readings parts normal_text_calls writes_answered normal_texts reread_calls rereads_answered texts_calls compares_answered modes mode_pairs reread_numbered verdicts lefts identifiers classes members_of limits found_in version_identifiers_in is_digit is_nonzero is_letter value value_from of_digits up_to₁ up_to₂ up_to₃ ◌then◌ choose many one_of count run literal spaces₁ read_number read_component read_identifier read_dot_identifier read_identifiers read_qualifier read_dot after_three after_two after_one read_partial read_prefix read_item read_gap read_next read_dash read_items after_item read_range read_separator read_further at_end read_text next_extent items_extents after_extents range_extents further_extents text_extents read_word read_version_identifier read_after_dot read_series read_version
tables =
    record {
      bench-sheet = refl;
      worked-examples = refl;
      worked-rows = refl;
      worked-items = refl;
      input-sheet = refl;
      precedence-chain = refl;
      worked-comparisons = refl;
      worked-admissions = refl;
      admits-sessions = refl;
      refused-ranges = refl;
      reading-calls = refl;
      handed-readings = refl;
      identifier-parts = refl;
      normal-text-calls = refl;
      handed-texts = refl;
      reread-calls = refl;
      texts-calls = refl;
      mode-numbers = refl;
      mode-pairs = refl;
      reread-numbers = refl;
      part-spans = refl;
      verdict-numbers = refl;
      numbers-left = refl;
      identifiers-found = refl;
      byte-classes = refl;
      all-limits = refl;
    }
