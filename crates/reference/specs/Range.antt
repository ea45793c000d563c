-- src/range.rs: from pairs to comparators. Above each definition stand the lines of the source that it is, each by its number; `oracle/transcribed` compares these
-- with the source.
-- Left out: the first test of `range::from_pair_iterator`, `simple::from_pair_iterator` and `from_hyphen_range` (lines 114, 152 and 411), since their callers
-- have just matched that rule, and with it their `Result`; and the mode that a `Range` carries along. A `Vec` is a list, and a method that changes
-- `self` hands it back. `Op`, `Identifier` and `Comparator` are the rules' (rules/specs/Syntax.antt, Expansion.antt); an identifier's place is 0.
-- Assumes nothing.
use Rattle.std.specs.Prelude.{ℕ, zero, suc, Bool, true, false, List, [], ◌∷◌, ◌++◌, map}
use Rattle.std.proofs.Math.Option.{Option, none, some}
use Rattle.rules.specs.Bytes.{bytes, pick}
use Rattle.rules.specs.Syntax.{Identifier, number, text, Op, lt, lte, gt, gte, eq}
use Rattle.rules.specs.Expansion.{Comparator, comparator}
use Rattle.reference.specs.Rule.{Rule, arm}
use Rattle.reference.specs.Pest.{Pairs, end, pair}
use Rattle.reference.specs.Rust.{OrPanic, gives, panics, ◌and◌, joined, unwrap, unwrap-or-zero, add-one, parse-u64, split, same}

-- range_set.rs 13: `pub enum Compat {`
pub data Compat : Type 0 where
  Cargo Npm : Compat

-- ---- Partial

-- 43: `pub enum PartialKind {`
pub data PartialKind : Type 0 where
  XRangeOnly MajorOnly MajorMinor MajorMinorPatch : PartialKind

-- 34: `pub struct Partial {`, with its fields major, minor, patch, pre and kind
pub data Partial : Type 0 where
  partial : Option ℕ → Option ℕ → Option ℕ → List Identifier → PartialKind → Partial

-- its last field
abbrev pub kind : Partial → PartialKind
kind (partial a b c is k) = k

-- 51: `pub fn new() -> Self {`
unfoldable pub new : Partial
new = partial none none none [] XRangeOnly

-- 61: `pub fn as_comparator(&self, op: Op) -> Comparator {`
unfoldable pub as-comparator : Op → Partial → Comparator
as-comparator o (partial a b c is k) = comparator o (unwrap-or-zero a) (unwrap-or-zero b) (unwrap-or-zero c) is

-- 72: `self.major = Some(self.major.unwrap_or(0) + 1);`
unfoldable pub inc-major : Partial → OrPanic Partial
inc-major (partial a b c is k) = add-one (unwrap-or-zero a) and λ n. gives (partial (some n) b c is k)

-- 77: `self.minor = Some(self.minor.unwrap_or(0) + 1);`
unfoldable pub inc-minor : Partial → OrPanic Partial
inc-minor (partial a b c is k) = add-one (unwrap-or-zero b) and λ n. gives (partial a (some n) c is k)

-- 82: `self.patch = Some(self.patch.unwrap_or(0) + 1);`
unfoldable pub inc-patch : Partial → OrPanic Partial
inc-patch (partial a b c is k) = add-one (unwrap-or-zero c) and λ n. gives (partial a b (some n) is k)

-- 86: `pub fn zero_missing(&mut self) -> &mut Self {`
unfoldable pub zero-missing : Partial → Partial
zero-missing (partial a b c is k) = partial (some (unwrap-or-zero a)) (some (unwrap-or-zero b)) (some (unwrap-or-zero c)) is k

-- 94: `self.minor = Some(0);`
unfoldable pub zero-minor : Partial → Partial
zero-minor (partial a b c is k) = partial a (some 0) c is k

-- 99: `self.patch = Some(0);`
unfoldable pub zero-patch : Partial → Partial
zero-patch (partial a b c is k) = partial a b (some 0) is k

-- 104: `self.pre = Vec::new();`
unfoldable pub no-pre : Partial → Partial
no-pre (partial a b c is k) = partial a b c [] k

-- ---- parse_partial

-- 557: `Ok(num) => Identifier::Numeric(num),`
-- 558: `Err(_) => Identifier::AlphaNumeric(bit.to_string()),`
unfoldable pub identifier-of : List ℕ → Option ℕ → Identifier
identifier-of bit (some num) = number num
identifier-of bit none = text 0 bit

-- 556: `let identifier = match bit.parse::<u64>() {`
unfoldable pub identifier : List ℕ → Identifier
identifier bit = identifier-of bit (parse-u64 bit)

-- 551: `let pre = pre.remove(0);`
-- 555: `for bit in pre.split('.') {`
unfoldable pub parse-pre : Pairs → OrPanic (List Identifier)
parse-pre end = panics
parse-pre (pair rule pre inner more) = gives (map identifier (split 46 pre))

-- 472: `match inner.as_rule() {`, and so 499 and 526: the number, or none at a wildcard
unfoldable pub component-in : Pairs → OrPanic (Option ℕ)
component-in end = panics
component-in (pair rule w inner more) = arm rule Rule.xr-op (gives none) (arm rule Rule.nr (unwrap (parse-u64 w) and λ n. gives (some n)) panics)

-- 469: `match one.as_rule() {`, and so 496 and 523
unfoldable pub component : Rule → Pairs → OrPanic (Option ℕ)
component rule inner = arm rule Rule.xr (component-in inner) panics

-- 544: `partial.kind = PartialKind::MajorMinorPatch;`
-- 546: `if !components.is_empty() {`
unfoldable pub behind-three : ℕ → ℕ → ℕ → Pairs → OrPanic Partial
behind-three a b c end = gives (partial (some a) (some b) (some c) [] MajorMinorPatch)
behind-three a b c (pair rule w inner more) = parse-pre inner and λ pre. gives (partial (some a) (some b) (some c) pre MajorMinorPatch)

-- 527: `Rule::xr_op => {`
-- 533: `Rule::nr => {`
unfoldable pub three-is : ℕ → ℕ → Pairs → Option ℕ → OrPanic Partial
three-is a b more none = gives (partial (some a) (some b) none [] MajorMinor)
three-is a b more (some c) = behind-three a b c more

-- 516: `if components.is_empty() {`
-- 521: `let three = components.remove(0);`
unfoldable pub behind-two : ℕ → ℕ → Pairs → OrPanic Partial
behind-two a b end = gives (partial (some a) (some b) none [] MajorMinor)
behind-two a b (pair rule w inner more) = component rule inner and three-is a b more

-- 500: `Rule::xr_op => {`
-- 506: `Rule::nr => {`
unfoldable pub two-is : ℕ → Pairs → Option ℕ → OrPanic Partial
two-is a more none = gives (partial (some a) none none [] MajorOnly)
two-is a more (some b) = behind-two a b more

-- 489: `if components.is_empty() {`
-- 494: `let two = components.remove(0);`
unfoldable pub behind-one : ℕ → Pairs → OrPanic Partial
behind-one a end = gives (partial (some a) none none [] MajorOnly)
behind-one a (pair rule w inner more) = component rule inner and two-is a more

-- 473: `Rule::xr_op => {`
-- 480: `Rule::nr => {`
unfoldable pub one-is : Pairs → Option ℕ → OrPanic Partial
one-is more none = gives (partial none none none [] XRangeOnly)
one-is more (some a) = behind-one a more

-- 463: `fn parse_partial(mut components: Vec<pest::iterators::Pair<'_, Rule>>) -> Partial {`
-- 467: `let one = components.remove(0);`
unfoldable pub parse-partial : Pairs → OrPanic Partial
parse-partial end = panics
parse-partial (pair rule w inner more) = component rule inner and one-is more

-- 211: `let partial_component = components.remove(0);`, and so 288, 297 and 430: `parse_partial` of the pairs in the first pair
unfoldable pub first-partial : Pairs → OrPanic Partial
first-partial end = panics
first-partial (pair rule w inner more) = parse-partial inner

-- ---- simple

-- `comparators.push(p.as_comparator(o))`
abbrev pub push : Op → Partial → List Comparator
push o p = as-comparator o p ∷ []

-- `== Some(0)`
unfoldable pub is-zero : Option ℕ → Bool
is-zero none = false
is-zero (some zero) = true
is-zero (some (suc n)) = false

-- 340: `if partial.major == Some(0) {`
unfoldable pub major-zero : Partial → Bool
major-zero (partial a b c is k) = is-zero a

-- 366: `if partial.minor == Some(0) {`
unfoldable pub minor-zero : Partial → Bool
minor-zero (partial a b c is k) = is-zero b

-- 341: `match partial.kind {`
unfoldable pub caret-zero : PartialKind → Partial → OrPanic (List Comparator)
caret-zero XRangeOnly p = panics
caret-zero MajorOnly p = inc-major p and λ q. gives (push gte (zero-missing p) ++ push lt (no-pre (zero-missing q)))
caret-zero MajorMinor p = inc-minor p and λ q. gives (push gte (zero-missing p) ++ push lt (no-pre (zero-patch q)))
caret-zero MajorMinorPatch p =
    pick (minor-zero p)
    (inc-patch p and λ q. gives (push gte p ++ push lt (no-pre q)))
    (inc-minor p and λ q. gives (push gte p ++ push lt (no-pre (zero-patch q))))

-- 389: `_ => {`
unfoldable pub caret-major : Partial → OrPanic (List Comparator)
caret-major p = inc-major p and λ q. gives (push gte (zero-missing p) ++ push lt (no-pre (zero-patch (zero-minor q))))

-- 384: `match partial.kind {`
unfoldable pub caret-other : PartialKind → Partial → OrPanic (List Comparator)
caret-other XRangeOnly p = gives (push gte (zero-missing p))
caret-other MajorOnly p = caret-major p
caret-other MajorMinor p = caret-major p
caret-other MajorMinorPatch p = caret-major p

-- 338: `fn handle_caret_range(mut partial: Partial, comparators: &mut Vec<Comparator>) {`
unfoldable pub handle-caret-range : Partial → OrPanic (List Comparator)
handle-caret-range p = pick (major-zero p) (caret-zero (kind p) p) (caret-other (kind p) p)

-- 185: `match compat {`
unfoldable pub from-full : Compat → Partial → OrPanic (List Comparator)
from-full Npm p = gives (push eq p)
from-full Cargo p = handle-caret-range p

-- 166: `match partial.kind {`
unfoldable pub from-partial : Compat → PartialKind → Partial → OrPanic (List Comparator)
from-partial m XRangeOnly p = gives (push gte (zero-missing p))
from-partial m MajorOnly p = inc-major p and λ q. gives (push gte (zero-missing p) ++ push lt (zero-missing q))
from-partial m MajorMinor p = inc-minor p and λ q. gives (push gte (zero-patch p) ++ push lt (zero-patch q))
from-partial m MajorMinorPatch p = from-full m p

-- 202: `let op = match op_component.as_str() {`
unfoldable pub op-of : List ℕ → OrPanic Op
op-of w =
    pick (same w (bytes "=")) (gives eq) (pick (same w (bytes "<")) (gives lt) (pick (same w (bytes "<=")) (gives lte)
    (pick (same w (bytes ">")) (gives gt) (pick (same w (bytes ">=")) (gives gte) panics))))

-- 217: `match partial.kind {`
unfoldable pub from-eq : PartialKind → Partial → OrPanic (List Comparator)
from-eq XRangeOnly p = gives (push gte (zero-missing p))
from-eq MajorOnly p = inc-major p and λ q. gives (push gte (zero-missing p) ++ push lt (zero-missing q))
from-eq MajorMinor p = inc-minor p and λ q. gives (push gte (zero-patch p) ++ push lt (zero-patch q))
from-eq MajorMinorPatch p = gives (push eq p)

-- 216: `if op == Op::Eq {`
-- 241: `match partial.kind {`; its arm for `Op::Eq` is never taken
unfoldable pub from-op : Op → PartialKind → Partial → OrPanic (List Comparator)
from-op eq k p = from-eq k p
from-op lt XRangeOnly p = gives (push lt (zero-missing p))
from-op lte XRangeOnly p = gives (push gte (zero-missing p))
from-op gt XRangeOnly p = gives (push lt (zero-missing p))
from-op gte XRangeOnly p = gives (push gte (zero-missing p))
from-op lte MajorOnly p = inc-major p and λ q. gives (push lt (zero-patch (zero-minor q)))
from-op lt MajorOnly p = gives (push lt (zero-missing p))
from-op gt MajorOnly p = gives (push gt (zero-missing p))
from-op gte MajorOnly p = gives (push gte (zero-missing p))
from-op lte MajorMinor p = inc-minor p and λ q. gives (push lt (zero-patch q))
from-op lt MajorMinor p = gives (push lt (zero-patch p))
from-op gt MajorMinor p = gives (push gt (zero-patch p))
from-op gte MajorMinor p = gives (push gte (zero-patch p))
from-op lt MajorMinorPatch p = gives (push lt p)
from-op lte MajorMinorPatch p = gives (push lte p)
from-op gt MajorMinorPatch p = gives (push gt p)
from-op gte MajorMinorPatch p = gives (push gte p)

-- 198: `Rule::primitive => {`
-- 200: `let op_component = components.remove(0);`
unfoldable pub from-primitive : Pairs → OrPanic (List Comparator)
from-primitive end = panics
from-primitive (pair rule w inner more) = op-of w and λ o. first-partial more and λ p. from-op o (kind p) p

-- 301: `comparators.push(partial.clone().zero_missing().as_comparator(Op::Gte));`
-- 303: `match partial.kind {`
unfoldable pub from-tilde : PartialKind → Partial → OrPanic (List Comparator)
from-tilde XRangeOnly p = gives (push gte (zero-missing p))
from-tilde MajorOnly p = inc-major p and λ q. gives (push gte (zero-missing p) ++ push lt (no-pre (zero-missing q)))
from-tilde MajorMinor p = inc-minor p and λ q. gives (push gte (zero-missing p) ++ push lt (no-pre (zero-patch q)))
from-tilde MajorMinorPatch p = inc-minor p and λ q. gives (push gte (zero-missing p) ++ push lt (no-pre (zero-patch q)))

-- 160: `match record.as_rule() {`
unfoldable pub simple-record : Compat → Rule → Pairs → OrPanic (List Comparator)
simple-record m rule inner =
    arm rule Rule.partial (parse-partial inner and λ p. from-partial m (kind p) p)
    (arm rule Rule.primitive (from-primitive inner)
    (arm rule Rule.caret (first-partial inner and handle-caret-range)
    (arm rule Rule.tilde (first-partial inner and λ p. from-tilde (kind p) p)
    panics)))

-- 147: `pub fn from_pair_iterator(`
-- 159: `for record in parsed_simple.into_inner() {`
unfoldable pub simple-from-pair-iterator : Compat → Pairs → OrPanic (List Comparator)
simple-from-pair-iterator m end = gives []
simple-from-pair-iterator m (pair rule w inner more) = joined (simple-record m rule inner) (simple-from-pair-iterator m more)

-- ---- from_hyphen_range

-- 422: `match partial1.kind {`
unfoldable pub hyphen-left : PartialKind → Partial → List Comparator
hyphen-left XRangeOnly p = []
hyphen-left MajorOnly p = push gte (zero-missing p)
hyphen-left MajorMinor p = push gte (zero-missing p)
hyphen-left MajorMinorPatch p = push gte (zero-missing p)

-- 436: `if partial1.kind == PartialKind::XRangeOnly {`
unfoldable pub hyphen-wild : PartialKind → Partial → List Comparator
hyphen-wild XRangeOnly p = push gte (zero-missing p)
hyphen-wild MajorOnly p = []
hyphen-wild MajorMinor p = []
hyphen-wild MajorMinorPatch p = []

-- 433: `match partial2.kind {`; the first argument is the kind of partial1
unfoldable pub hyphen-right : PartialKind → PartialKind → Partial → OrPanic (List Comparator)
hyphen-right j XRangeOnly p = gives (hyphen-wild j p)
hyphen-right j MajorOnly p = inc-major p and λ q. gives (push lt (zero-patch (zero-minor q)))
hyphen-right j MajorMinor p = inc-minor p and λ q. gives (push lt (zero-patch q))
hyphen-right j MajorMinorPatch p = gives (push lte p)

-- 430: `let components2: Vec<_> = records.next().unwrap().into_inner().collect();`
unfoldable pub hyphen-second : Partial → Pairs → OrPanic (List Comparator)
hyphen-second p more = first-partial more and λ q. joined (gives (hyphen-left (kind p) p)) (hyphen-right (kind p) (kind q) q)

-- 407: `pub fn from_hyphen_range(`
-- 420: `let components1: Vec<_> = records.next().unwrap().into_inner().collect();`
unfoldable pub from-hyphen-range : Pairs → OrPanic (List Comparator)
from-hyphen-range end = panics
from-hyphen-range (pair rule w inner more) = parse-partial inner and λ p. hyphen-second p more

-- ---- range

-- 122: `match record.as_rule() {`
unfoldable pub range-record : Compat → Rule → Pairs → OrPanic (List Comparator)
range-record m rule inner =
    arm rule Rule.hyphen (from-hyphen-range inner)
    (arm rule Rule.simple (simple-from-pair-iterator m inner)
    (arm rule Rule.empty (gives (push gte (zero-missing new)))
    panics))

-- 109: `pub fn from_pair_iterator(`
-- 121: `for record in parsed_range.into_inner() {`
unfoldable pub range-from-pair-iterator : Compat → Pairs → OrPanic (List Comparator)
range-from-pair-iterator m end = gives []
range-from-pair-iterator m (pair rule w inner more) = joined (range-record m rule inner) (range-from-pair-iterator m more)
