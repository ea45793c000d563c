-- A version against the comparators of a step.
-- Assumes nothing.
use Rattle.std.proofs.Common.{ℕ, ◌≡◌, ◌≤◌, Bool, true, false, ◌&&◌, ◌||◌, eqb, ltb, length, get_or, arith, List, [], ◌∷◌, refl, sym, ◌∙◌, Some}
use Rattle.std.proofs.Math.Bool.{and-true}
use Rattle.std.proofs.lemmas.Bool.Decides.{nat_tests}
use borrow.Author.Tests.{le-leb}
use Rattle.std.specs.declared.cmp.Ordering.{Ordering}
use Rattle.std.specs.declared.cmp.Ordering.TheVariants.{Less, Equal, Greater}
use Rattle.rules.specs.Lists.{each}
use Rattle.rules.specs.Bytes.{is_digit, is_nonzero, is_letter, is_word}
use Rattle.rules.specs.Syntax.{Identifier}
use Rattle.rules.specs.Parse.{Result, fail, ok, ◌then◌, choose, literal, one_of, run, read_number, read_identifier, found_in}
use Rattle.rules.specs.Version.{version, version_identifiers_in}
use Rattle.rules.specs.Precedence as P
use Rattle.rules.specs.Precedence.{◌or_else◌, lexicographic, compare_numbers, compare_identifiers, compare_prereleases, precedence}
use Rattle.rules.specs.Admission.{holds, meets}
use Rattle.rules.proofs.All.{each_append}
use Rattle.rules.proofs.Left.{identifier-behind}
use Rattle.rows.proofs.Found.{found-series, series_none}
use Rattle.partial.specs.Views.{op_of}
use Rattle.partial.specs.declared.Comparator.{Comparator}
use Rattle.walk.specs.Views.{Stepped}
use Rattle.passes.specs.Views.{listed, kept_gives, raised_gives, step_gives}
use Rattle.precedence.specs.Views.{order_of}
use Rattle.precedence.proofs.Comparing.{series-behind}
use Rattle.version.specs.Views.{version_is}
use Rattle.version.specs.declared.version.Version.{Version}

-- ---- the first byte of a range text

-- an identifier is read
abbrev reads : Result Identifier → Bool
reads fail = false
reads (ok i r) = true

found-reads : (s : List ℕ) → ltb 0 (length (found_in s)) ≡ reads (read_identifier s)
found-reads s = go (read_identifier s) refl
  where
    go : (g : Result Identifier) → read_identifier s ≡ g → ltb 0 (length (found_in s)) ≡ reads g
    go fail q = rw (found-series s, series_none read_identifier s q)
    go (ok i r) q = rw (found-series s, series-behind read_identifier identifier-behind s i r q) (le-leb 1 _ (omega arith))

digit-is : (c : ℕ) → is_digit c ≡ (eqb c 48 || is_nonzero c)
unfolding is_digit is_nonzero
digit-is c = grind (arith, nat_tests)

-- a word begins an identifier
reads-first : (c : ℕ) (s : List ℕ) → reads (read_identifier (c ∷ s)) ≡ is_word c
unfolding read_identifier read_number choose literal one_of run ◌then◌
reads-first c s = rw (digit-is c) (go (eqb c 48) (is_nonzero c) (is_letter c) refl refl refl)
  where
    go : (z n l : Bool) → eqb c 48 ≡ z → is_nonzero c ≡ n → is_letter c ≡ l → reads (read_identifier (c ∷ s)) ≡ (l || (z || n))
    go true n true x y w = rw x
    go true n false x y w = rw x
    go false true true x y w = rw (x, y)
    go false true false x y w = rw (x, y)
    go false false true x y w = rw (x, y, w)
    go false false false x y w = rw (x, y, w)

pub first_byte : (s : List ℕ) → 1 ≤ length s → (b : Bool) → b ≡ is_word (get_or s 0 0) → b ≡ ltb 0 (length (found_in s))
first_byte [] h b e = absurd (omega arith)
first_byte (c ∷ s) h b e = e ∙ sym (found-reads (c ∷ s) ∙ reads-first c s)

pub first_none : (s : List ℕ) → length s ≡ 0 → false ≡ ltb 0 (length (found_in s))
unfolding read_identifier read_number choose literal one_of ◌then◌
first_none [] z = sym (found-reads [])
first_none (c ∷ s) z = absurd (omega arith)

pub ruleset firsts = (first_byte, first_none)

-- ---- compare_prereleases

-- by how many identifiers the version has, and whether the range text begins with one
module _ (n : ℕ) (b : Bool) where
  pub prereleases_none : (is js : List Identifier) → n ≡ length is → b ≡ ltb 0 (length js) → n ≡ 0 → b ≡ true → P.greater ≡ compare_prereleases is js
  unfolding compare_prereleases
  prereleases_none [] [] k e z q = cc
  prereleases_none [] (j ∷ js) k e z q = refl
  prereleases_none (i ∷ is) js k e z q = absurd (omega arith)

  pub prereleases_some : (is js : List Identifier) → n ≡ length is → b ≡ ltb 0 (length js) → (n ≡ 0 → ⊥) → (b ≡ true → ⊥) → P.less ≡ compare_prereleases is js
  unfolding compare_prereleases
  prereleases_some [] js k e z q = absurd (z k)
  prereleases_some (i ∷ is) [] k e z q = refl
  prereleases_some (i ∷ is) (j ∷ js) k e z q = absurd (q (e ∙ le-leb 1 _ (omega arith)))

  pub prereleases_neither : (is js : List Identifier) → n ≡ length is → b ≡ ltb 0 (length js) → n ≡ 0 → (b ≡ true → ⊥) → P.equal ≡ compare_prereleases is js
  unfolding compare_prereleases
  prereleases_neither [] [] k e z q = refl
  prereleases_neither [] (j ∷ js) k e z q = absurd (q (e ∙ le-leb 1 _ (omega arith)))
  prereleases_neither (i ∷ is) js k e z q = absurd (omega arith)

  pub prereleases_both : (is js : List Identifier) → n ≡ length is → b ≡ ltb 0 (length js) → (n ≡ 0 → ⊥) → b ≡ true
      → (o : Ordering) → order_of o ≡ lexicographic compare_identifiers is js → order_of o ≡ compare_prereleases is js
  unfolding compare_prereleases
  prereleases_both [] js k e z q o c = absurd (z k)
  prereleases_both (i ∷ is) [] k e z q o c = cc
  prereleases_both (i ∷ is) (j ∷ js) k e z q o c = c

pub ruleset prereleases = (prereleases_none, prereleases_some, prereleases_neither, prereleases_both)

-- ---- precedence

or_else_assoc : (a b c d : P.Order) → ((a or_else b or_else c) or_else d) ≡ (a or_else b or_else c or_else d)
unfolding ◌or_else◌
or_else_assoc P.less b c d = refl
or_else_assoc P.equal P.less c d = refl
or_else_assoc P.equal P.equal c d = refl
or_else_assoc P.equal P.greater c d = refl
or_else_assoc P.greater b c d = refl

-- by how the numbers stand
module _ (v : Version) (a b c : ℕ) (is : List Identifier) (r : Ordering) (e : order_of r ≡ (compare_numbers v.major a or_else compare_numbers v.minor b or_else compare_numbers v.patch c)) where
  precedence-is : precedence (version_is v) (version a b c is) ≡ (order_of r or_else compare_prereleases (version_identifiers_in v.prerelease.now) is)
  unfolding precedence
  precedence-is = rw e (sym (or_else_assoc (compare_numbers v.major a) (compare_numbers v.minor b) (compare_numbers v.patch c) (compare_prereleases (version_identifiers_in v.prerelease.now) is)))

  pub precedence_equal : r ≡ Equal → (o : Ordering) → order_of o ≡ compare_prereleases (version_identifiers_in v.prerelease.now) is → order_of o ≡ precedence (version_is v) (version a b c is)
  unfolding ◌or_else◌
  precedence_equal q o i = i ∙ sym (precedence-is ∙ rw q)

  pub precedence_differ : (r ≡ Equal → ⊥) → order_of r ≡ precedence (version_is v) (version a b c is)
  unfolding ◌or_else◌
  precedence_differ d = sym (precedence-is ∙ go r d)
    where
      go : (r : Ordering) → (r ≡ Equal → ⊥) → (order_of r or_else compare_prereleases (version_identifiers_in v.prerelease.now) is) ≡ order_of r
      go Less d = refl
      go Equal d = absurd (d refl)
      go Greater d = refl

pub ruleset orders = (precedence_equal, precedence_differ)

-- ---- meets

module _ (v : Version) where
  pub meets_one : (c : Comparator) (o : Ordering) → order_of o ≡ precedence (version_is v) (version c.major c.minor c.patch (found_in c.identifiers.now))
      → (b : Bool) → b ≡ holds (op_of c.op) (order_of o) → b ≡ each (meets (version_is v)) (listed (Some c))
  unfolding meets
  meets_one c o e b q = q ∙ rw e (sym (and-true _))

  module _ (x : Stepped) (a : Bool) (i : a ≡ each (meets (version_is v)) (kept_gives x)) where
    parts : each (meets (version_is v)) (step_gives x) ≡ a && each (meets (version_is v)) (raised_gives x)
    unfolding step_gives
    parts = rw i (each_append (meets (version_is v)) (kept_gives x) (raised_gives x))

    pub meets_both : a ≡ true → (b : Bool) → b ≡ each (meets (version_is v)) (raised_gives x) → b ≡ each (meets (version_is v)) (step_gives x)
    meets_both q b j = j ∙ sym (parts ∙ rw q)

    pub meets_not : a ≡ false → a ≡ each (meets (version_is v)) (step_gives x)
    meets_not q = q ∙ sym (parts ∙ rw q)

pub ruleset meetings = (meets_one, meets_both, meets_not)
