-- `read_version`: a law for each of its ways; and what its answer says of the text.
-- Assumes nothing.
use Rattle.std.proofs.Common.{ℕ, ◌≡◌, ◌<◌, ◌≤◌, Bool, true, false, ◌&&◌, List, [], length, refl, sym, ap, ◌∙◌, Option, Some, None}
use borrow.Author.Tests.{le-leb, lt-leb}
use Rattle.rules.specs.Bytes.{bytes, pick, value}
use Rattle.rules.specs.Syntax.{Identifier}
use Rattle.rules.specs.Parse.{Result, fail, ok, ◌then◌, read_number, at_end, list_of}
use Rattle.rules.specs.Answers.{Answer, accepted, refused, unless, fits, longest}
use Rattle.rules.specs.Version as R
use Rattle.rules.specs.Version.{version, read_word, read_version_identifier, read_after_dot, read_series, read_version, version_identifiers_in}
use Rattle.rules.specs.Admission.{versioned, version_fits, version_of}
use Rattle.rules.proofs.VersionAccepted.{Decided, long, underivable, large, accepts, decided}
use Rattle.lexer.specs.Views.{fitting, begun}
use Rattle.lexer.specs.declared.Identifiers.{Identifiers}
use Rattle.version.specs.Views.{read_numbers, numbers_of, read_tail, tail_in, tail_of, Parts, parts_in, numbered, version_is, version_in, version_text_of, beginning}
use Rattle.version.specs.declared.version.Version.{Version}
use Rattle.std.specs.Prelude as Std
use Rattle.std.specs.Prelude.{Ok, Err, IfOk, ok_or, drop}
use Rattle.refusals.specs.declared.Refusal.{Refusal}
use Rattle.refusals.specs.declared.Refusal.TheVariants.{NoVersion, VersionTooLarge}
use Rattle.refusals.specs.Views.{number_of}

-- the version of these numbers with these identifiers
abbrev identified : R.Version → List Identifier → R.Version
identified (version a b c js) is = version a b c is

-- what follows the numbers, as read_version has it
abbrev behind_numbers : ℕ → ℕ → ℕ → List ℕ → Result R.Version
behind_numbers a b c v =
    read_series (bytes "-") read_version_identifier v then λ is w. read_series (bytes "+") read_word w then λ build r. at_end r then λ u e. ok (version a b c is) e

abbrev finish : R.Version → List ℕ → Result R.Version
finish n t = read_tail t then λ is e. ok (identified n is) e

tail-is : (a b c : ℕ) (js : List Identifier) (v : List ℕ) → behind_numbers a b c v ≡ finish (version a b c js) v
unfolding read_tail ◌then◌
tail-is a b c js v = first (read_series (bytes "-") read_version_identifier v)
  where
    ends : (is : List Identifier) (g : Result (Unit {0})) → (g then λ u e. ok (version a b c is) e) ≡ ((g then λ u e. ok is e) then λ is e. ok (version a b c is) e)
    ends is fail = refl
    ends is (ok x r) = refl

    second : (is : List Identifier) (g : Result (List (List ℕ)))
        → (g then λ build r. at_end r then λ u e. ok (version a b c is) e) ≡ ((g then λ build r. at_end r then λ u e. ok is e) then λ is e. ok (version a b c is) e)
    second is fail = refl
    second is (ok l r) = ends is (at_end r)

    first : (g : Result (List Identifier))
        → (g then λ is w. read_series (bytes "+") read_word w then λ build r. at_end r then λ u e. ok (version a b c is) e)
        ≡ ((g then λ is w. read_series (bytes "+") read_word w then λ build r. at_end r then λ u e. ok is e) then λ is e. ok (version a b c is) e)
    first fail = refl
    first (ok is w) = second is (read_series (bytes "+") read_word w)

-- a version is its numbers and what follows them
version-is : (s : List ℕ) → read_version s ≡ (read_numbers s then λ n t. finish n t)
unfolding read_version read_numbers ◌then◌
version-is s = major (read_number s)
  where
    patch : (a b : ℕ) (g : Result (List ℕ)) → (g then λ c v. behind_numbers a b (value c) v) ≡ ((g then λ c v. ok (version a b (value c) []) v) then λ n t. finish n t)
    patch a b fail = refl
    patch a b (ok c v) = tail-is a b (value c) [] v

    minor : (a : ℕ) (g : Result (List ℕ)) → (g then λ b u. read_after_dot read_number u then λ c v. behind_numbers a (value b) (value c) v)
        ≡ ((g then λ b u. read_after_dot read_number u then λ c v. ok (version a (value b) (value c) []) v) then λ n t. finish n t)
    minor a fail = refl
    minor a (ok b u) = patch a (value b) (read_after_dot read_number u)

    major : (g : Result (List ℕ))
        → (g then λ a t. read_after_dot read_number t then λ b u. read_after_dot read_number u then λ c v. behind_numbers (value a) (value b) (value c) v)
        ≡ ((g then λ a t. read_after_dot read_number t then λ b u. read_after_dot read_number u then λ c v. ok (version (value a) (value b) (value c) []) v) then λ n t. finish n t)
    major fail = refl
    major (ok a t) = minor (value a) (read_after_dot read_number t)

pub version_long : (s : List ℕ) → 65535 < length s → Err NoVersion ≡ version_text_of (version_of s)
unfolding version_of version_text_of
version_long s h = rw (lt-leb (length s) longest h)

-- what the code answers of numbers, where each fits that is known
abbrev text : Option Parts → Std.Result (R.Version × ℕ) Refusal
text None = Err VersionTooLarge
text (Some x) = Ok (version x.0 x.1 x.2 (version_identifiers_in x.4.now), x.3)

module _ (i j k : ℕ) (q : Identifiers) (is : List Identifier) (n : q.count ≡ length is) (e : version_identifiers_in q.text.now ≡ is) where
  fit : (a b c : Option ℕ) → a ≡ fitting i → b ≡ fitting j → c ≡ fitting k
      → text (numbered a b c q) ≡ version_text_of (pick (version_fits (version i j k is)) (accepted (version i j k is)) (refused 9))
  unfolding version_text_of version_fits
  fit a b c x y z = rw (x, y, z) (go (fits i) (fits j) (fits k))
    where
      go : (x y z : Bool) → text (numbered (pick x (Some i) None) (pick y (Some j) None) (pick z (Some k) None) q)
          ≡ version_text_of (pick (x && (y && z)) (accepted (version i j k is)) (refused 9))
      go true true true = rw (n, e)
      go true true false = refl
      go true false z = refl
      go false y z = refl

module _ (s : List ℕ) (h : length s ≤ 65535) where
  answer-is : (g : Result R.Version) → read_numbers s ≡ g → version_of s ≡ unless 9 version_fits (versioned (g then λ n t. finish n t))
  unfolding version_of
  answer-is g e = rw (le-leb (length s) longest h, version-is s, e)

  pub version_unnumbered : fail ≡ numbers_of (read_numbers s) → Err NoVersion ≡ version_text_of (version_of s)
  unfolding version_text_of versioned ◌then◌
  version_unnumbered e = go (read_numbers s) refl e
    where
      go : (g : Result R.Version) → read_numbers s ≡ g → fail ≡ numbers_of g → Err NoVersion ≡ version_text_of (version_of s)
      go fail q e = rw (answer-is fail q)
      go (ok (version a b c is) r) q e = cc

  -- the numbers of the rules
  module _ (a b c : Option ℕ) (v : List ℕ) (e : ok (a, b, c) v ≡ numbers_of (read_numbers s)) where
    record Numbered : Type 0 where
      major : ℕ
      minor : ℕ
      patch : ℕ
      others : List Identifier
      is : read_numbers s ≡ ok (version major minor patch others) v
      major_is : a ≡ fitting major
      minor_is : b ≡ fitting minor
      patch_is : c ≡ fitting patch

    numbered_is : Numbered
    numbered_is = go (read_numbers s) refl e
      where
        go : (g : Result R.Version) → read_numbers s ≡ g → ok (a, b, c) v ≡ numbers_of g → Numbered
        go fail q e = cc
        go (ok (version i j l is) r) q e =
            let z : r ≡ v = cc in
            let x : ◌≡◌ {A = Option ℕ × Option ℕ × Option ℕ} (a, b, c) (fitting i, fitting j, fitting l) = cc in
            record {
              major = i;
              minor = j;
              patch = l;
              others = is;
              is = rw z at q;
              major_is = ap (λ y. y.0) x;
              minor_is = ap (λ y. y.1) x;
              patch_is = ap (λ y. y.2) x;
            }

    pub version_broken : None ≡ tail_of (read_tail v) → Err NoVersion ≡ version_text_of (version_of s)
    unfolding version_text_of versioned ◌then◌
    version_broken k = rw (answer-is _ numbered_is.is) (go (read_tail v) k)
      where
        go : (y : Result (List Identifier)) → None ≡ tail_of y
            → Err NoVersion ≡ version_text_of (unless 9 version_fits (versioned (y then λ is e. ok (version numbered_is.major numbered_is.minor numbered_is.patch is) e)))
        go fail k = refl
        go (ok is r) k = cc

    module _ (q : Identifiers) (k : tail_in (Some q) ≡ tail_of (read_tail v)) where
      read : text (numbered a b c q) ≡ version_text_of (version_of s)
      unfolding versioned ◌then◌
      read = rw (answer-is _ numbered_is.is) (go (read_tail v) k)
        where
          go : (y : Result (List Identifier)) → tail_in (Some q) ≡ tail_of y
              → text (numbered a b c q) ≡ version_text_of (unless 9 version_fits (versioned (y then λ is e. ok (version numbered_is.major numbered_is.minor numbered_is.patch is) e)))
          go fail k = cc
          go (ok is r) k =
              let p : ◌≡◌ {A = ℕ × List Identifier} (q.count, version_identifiers_in q.text.now) (length is, is) = cc in
              fit numbered_is.major numbered_is.minor numbered_is.patch q is (ap (λ y. y.0) p) (ap (λ y. y.1) p) a b c numbered_is.major_is numbered_is.minor_is numbered_is.patch_is

      pub version_read : (x : Version) → parts_in (Some x) ≡ numbered a b c q → version_in (Ok x) ≡ version_text_of (version_of s)
      version_read x e = ap text e ∙ read

      pub version_large : None ≡ numbered a b c q → Err VersionTooLarge ≡ version_text_of (version_of s)
      version_large e = ap text e ∙ read

-- the identifiers that follow the numbers are as many as are counted
pub tail_counted : (q : Identifiers) (v : List ℕ) → tail_in (Some q) ≡ tail_of (read_tail v) → q.count ≡ length (version_identifiers_in q.text.now)
tail_counted q v k = go (read_tail v) k
  where
    go : (g : Result (List Identifier)) → tail_in (Some q) ≡ tail_of g → q.count ≡ length (version_identifiers_in q.text.now)
    go fail k = cc
    go (ok is r) k =
        let p : ◌≡◌ {A = ℕ × List Identifier} (q.count, version_identifiers_in q.text.now) (length is, is) = cc in
        ap (λ y. y.0) p ∙ sym (ap (λ y. length y.1) p)

pub ruleset versions = (version_long, version_unnumbered, version_broken, version_large, version_read, tail_counted)

-- ---- for callers

module _ (s : List ℕ) (w : Std.Result Version Refusal) (e : version_in w ≡ version_text_of (version_of s)) where
  pub version_held : (v : Version) → w ≡ Ok v → version_of s ≡ accepted (version_is v)
  unfolding version_text_of
  version_held v q = go (version_of s) refl (rw q at e)
    where
      go : (a : Answer R.Version) → version_of s ≡ a → version_in (Ok v) ≡ version_text_of a → version_of s ≡ accepted (version_is v)
      go (accepted (version a b c is)) x k = x ∙ ap accepted (let p : ◌≡◌ {A = R.Version × ℕ} (version_is v, v.count) (version a b c is, length is) = cc in ap (λ y. y.0) (sym p))
      go (refused n) x k = cc

  pub version_refused : (y : Refusal) → w ≡ Err y → version_of s ≡ refused (number_of y)
  unfolding version_text_of
  version_refused y q = go (decided s) refl (rw q at e)
    where
      go : {x : Answer R.Version} → Decided s x → version_of s ≡ x → Err y ≡ version_text_of x → version_of s ≡ refused (number_of y)
      go (long l) k j = let z : y ≡ NoVersion = cc in rw z k
      go (underivable u) k j = let z : y ≡ NoVersion = cc in rw z k
      go (large l d f) k j = let z : y ≡ VersionTooLarge = cc in rw z k
      go (accepts {v = version a b c is} l d f) k j = cc

-- ---- the text of the prerelease identifiers

abbrev Begins : List ℕ → Std.Result Version Refusal → Type 0
Begins s r = IfOk r (λ v. v.prerelease.now ≡ beginning s)

module _ (s : List ℕ) (h : length s ≤ 65535) (a b c : Option ℕ) (v : List ℕ) (e : ok (a, b, c) v ≡ numbers_of (read_numbers s)) where
  module _ (q : Identifiers) (k : tail_in (Some q) ≡ tail_of (read_tail v)) (t : q.text.now ≡ begun (list_of (read_tail v)) (drop 1 v)) where
    text_is : (x : Version) → parts_in (Some x) ≡ numbered a b c q → x.prerelease.now ≡ beginning s
    unfolding beginning
    text_is x n = rw (version_held s (Ok x) (version_read s h a b c v e q k x n) x refl, numbered_text a b c n, (numbered_is s h a b c v e).is) (listed (read_tail v) k t)
      where
        numbered_text : (a b c : Option ℕ) → parts_in (Some x) ≡ numbered a b c q → x.prerelease ≡ q.text
        numbered_text None b c n = cc
        numbered_text (Some a) None c n = cc
        numbered_text (Some a) (Some b) None n = cc
        numbered_text (Some a) (Some b) (Some c) n =
            let i : ◌≡◌ {A = Parts} (x.major, x.minor, x.patch, x.count, x.prerelease) (a, b, c, q.count, q.text) = cc in ap (λ y. y.4) i

        listed : (g : Result (List Identifier)) → tail_in (Some q) ≡ tail_of g → q.text.now ≡ begun (list_of g) (drop 1 v)
            → q.text.now ≡ begun (version_identifiers_in q.text.now) (drop 1 v)
        listed fail k t = cc
        listed (ok is r) k t = let p : ◌≡◌ {A = ℕ × List Identifier} (q.count, version_identifiers_in q.text.now) (length is, is) = cc in t ∙ ap (λ l. begun l (drop 1 v)) (sym (ap (λ y. y.1) p))

    pub version_text : (o : Option Version) → parts_in o ≡ numbered a b c q → (y : Refusal) → Begins s (ok_or o y)
    version_text None n y = _
    version_text (Some x) n y = text_is x n

pub some_of : {A : Type 0} (o : Option A) (y : Refusal) (x : A) → ok_or o y ≡ Ok x → o ≡ Some x
some_of None y x e = cc
some_of (Some z) y x e = cc
