-- What the code hands back of a partial: by which kind it is, its numbers as 64 bits hold them, and its identifiers by how many they are and
-- where they begin.
-- Assumes nothing.
use Rattle.std.specs.Prelude.{ℕ, suc, List, [], Bool, true, false, not, leb, ◌||◌, length, drop, Option, Some, None}
use Rattle.std.specs.Borrow.{Bor}
use Rattle.rules.specs.Bytes.{largest, pick}
use Rattle.rules.specs.Syntax as S
use Rattle.rules.specs.Parse.{Result, fail, ok, read_component, read_dot, read_partial, found_in}
use Rattle.rules.specs.Expansion as E
use Rattle.rules.specs.Expansion.{major_of, minor_of, patch_of}
use Rattle.rules.specs.Answers.{partial_fits}
use Rattle.lexer.specs.Views.{begun, on_rest}
use Rattle.partial.specs.declared.PartialKind.{PartialKind}
use Rattle.partial.specs.declared.PartialKind.TheVariants.{XRangeOnly, MajorOnly, MajorMinor, MajorMinorPatch}
use Rattle.partial.specs.declared.Partial.{Partial}
use Rattle.partial.specs.declared.Op.{Op}
use Rattle.partial.specs.declared.Op.TheVariants.{Lt, Lte, Gt, Gte, Eq}
use Rattle.partial.specs.declared.Comparator.{Comparator}

-- ---- numbers as 64 bits hold them: a value above the largest is given as the largest, and marked

abbrev pub saturated : ℕ → ℕ
saturated v = pick (leb v largest) v largest

abbrev pub too_large : ℕ → Bool
too_large v = not (leb v largest)

-- ---- operators

-- the rules' operator for the code's
abbrev pub op_of : Op → S.Op
op_of Lt = S.lt
op_of Lte = S.lte
op_of Gt = S.gt
op_of Gte = S.gte
op_of Eq = S.eq

-- ---- partials

abbrev pub kind_of : S.Partial → PartialKind
kind_of S.x_range_only = XRangeOnly
kind_of (S.major_only a) = MajorOnly
kind_of (S.major_minor a b) = MajorMinor
kind_of (S.major_minor_patch a b c is) = MajorMinorPatch

-- what the code holds of a partial, with its identifiers
pub record Held : Type 0 where
  pub kind : PartialKind
  pub major : ℕ
  pub minor : ℕ
  pub patch : ℕ
  pub large : Bool
  pub over : Bool
  pub count : ℕ
  pub identifiers : List S.Identifier

abbrev pub partial_is : Partial → Held
partial_is p =
    record {
      kind = p.kind;
      major = p.major;
      minor = p.minor;
      patch = p.patch;
      large = p.large;
      over = p.over;
      count = p.count;
      identifiers = found_in p.identifiers.now;
    }

-- what it is to hold of a partial
unfoldable pub held : S.Partial → Held
unfolding partial_fits
held p =
    record {
      kind = kind_of p;
      major = saturated (major_of p);
      minor = saturated (minor_of p);
      patch = saturated (patch_of p);
      large = not (partial_fits p);
      over = false;
      count = length (S.identifiers_of p);
      identifiers = S.identifiers_of p;
    }

abbrev pub partial_in : Option (Partial × Bor (List ℕ)) → Result Held
partial_in None = fail
partial_in (Some x) = ok (partial_is x.0) x.1.now

abbrev pub partial_of : Result S.Partial → Result Held
partial_of fail = fail
partial_of (ok p r) = ok (held p) r

-- of components, each with nothing where it is above the largest number
abbrev pub value_or : Option ℕ → ℕ
value_or None = largest
value_or (Some v) = v

abbrev pub is_none : Option ℕ → Bool
is_none None = true
is_none (Some v) = false

abbrev pub of_components : PartialKind → Option ℕ → Option ℕ → Option ℕ → Held
of_components k a b c =
    record { kind = k; major = value_or a; minor = value_or b; patch = value_or c; large = is_none a || is_none b || is_none c; over = false; count = 0; identifiers = [] }

-- with so many identifiers
abbrev pub qualified : Held → ℕ → List S.Identifier → Held
qualified p n is =
    record { kind = p.kind; major = p.major; minor = p.minor; patch = p.patch; large = p.large; over = p.over; count = n; identifiers = is }

-- ---- the text that the identifiers begin: what stands behind the sign, which is behind three components, two, one and none

abbrev pub from_two : List ℕ → List ℕ
from_two s = on_rest (drop 1) (read_dot s)

abbrev pub from_one : List ℕ → List ℕ
from_one s = on_rest from_two (read_dot s)

abbrev pub from_start : List ℕ → List ℕ
from_start s = on_rest from_one (read_component s)

abbrev pub identifiers_read : Result S.Partial → List S.Identifier
identifiers_read fail = []
identifiers_read (ok p r) = S.identifiers_of p

-- of the partial that s begins with; where it has no identifiers, empty
unfoldable pub beginning : List ℕ → List ℕ
beginning s = begun (identifiers_read (read_partial s)) (from_start s)

-- ---- the methods of a partial

-- one more, or the largest where that is too large
abbrev pub incremented : ℕ → ℕ
incremented v = saturated (suc v)

-- the partial with other numbers
abbrev pub renumbered : Held → ℕ → ℕ → ℕ → Bool → Held
renumbered p a b c over =
    record { kind = p.kind; major = a; minor = b; patch = c; large = p.large; over = over; count = p.count; identifiers = p.identifiers }

abbrev pub inc_major : Held → Held
inc_major p = renumbered p (incremented p.major) p.minor p.patch (p.over || too_large (suc p.major))

abbrev pub inc_minor : Held → Held
inc_minor p = renumbered p p.major (incremented p.minor) p.patch (p.over || too_large (suc p.minor))

abbrev pub inc_patch : Held → Held
inc_patch p = renumbered p p.major p.minor (incremented p.patch) (p.over || too_large (suc p.patch))

abbrev pub zero_minor : Held → Held
zero_minor p = renumbered p p.major 0 p.patch p.over

abbrev pub zero_patch : Held → Held
zero_patch p = renumbered p p.major p.minor 0 p.over

-- the components behind those that were read, zero
abbrev pub zero_behind : PartialKind → Held → Held
zero_behind XRangeOnly p = renumbered p 0 0 0 p.over
zero_behind MajorOnly p = renumbered p p.major 0 0 p.over
zero_behind MajorMinor p = zero_patch p
zero_behind MajorMinorPatch p = p

abbrev pub zero_missing : Held → Held
zero_missing p = zero_behind p.kind p

-- without its identifiers
abbrev pub no_pre : Held → Held
no_pre p =
    record { kind = p.kind; major = p.major; minor = p.minor; patch = p.patch; large = p.large; over = p.over; count = 0; identifiers = [] }

abbrev pub as_comparator : Partial → Op → Comparator
as_comparator p o =
    record { op = o; major = p.major; minor = p.minor; patch = p.patch; count = p.count; identifiers = p.identifiers; over = p.over }

-- the rules' comparator for the code's
abbrev pub comparator_is : Comparator → E.Comparator
comparator_is c = E.comparator (op_of c.op) c.major c.minor c.patch (found_in c.identifiers.now)
