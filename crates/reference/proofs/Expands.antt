-- The crate's expansions of a partial that fits are 01's: the same comparators, or a panic where 01 refuses with 4.
-- Assumes nothing.
use mathlib.Core.Path.{◌≡◌, refl, ◌∙◌}
use Prim.Native.Nat.{ℕ, zero, suc}
use mathlib.Core.Bool.{Bool, true, false, ◌&&◌}
use mathlib.Core.Option.{some}
use mathlib.Core.List.{List, [], ◌∷◌, map}
use Rattle.rules.specs.Lists.{each}
use Rattle.rules.specs.Bytes.{pick}
use Rattle.rules.specs.Syntax as S
use Rattle.rules.specs.Syntax.{x_range_only, major_only, major_minor, major_minor_patch, Op, lt, lte, gt, gte, eq}
use Rattle.rules.specs.Rows.{placeless_comparator}
use Rattle.rules.specs.Expansion.{Comparator, as_read, raised, comparators, expand_eq, caret_raises, expand_caret, expand_tilde, expand_bare, expand_lte, expand_op, expand_left, expand_right}
use Rattle.rules.specs.Answers.{fits, partial_fits, comparator_fits}
use Rattle.reference.specs.Rust.{OrPanic, gives, panics, ◌and◌, add-one}
use Rattle.reference.specs.Range.{Compat, Cargo, Npm, kind, as-comparator, inc-major, inc-minor, inc-patch, zero-missing, zero-minor, zero-patch, no-pre, is-zero, major-zero, minor-zero, caret-zero, caret-major, caret-other, handle-caret-range, from-full, from-partial, from-eq, from-op, from-tilde, hyphen-left, hyphen-wild, hyphen-right}
use Rattle.reference.specs.Seen.{mode}
use Rattle.reference.proofs.Partials.{view_of, given, fits_one}

-- the comparators, without places, if they fit
unfoldable pub said : List Comparator → OrPanic (List Comparator)
said cs = given (each comparator_fits cs) (gives (map placeless_comparator cs))

fits_each : (a b c : Bool) → (a && (b && c)) ≡ true → (a ≡ true) × (b ≡ true) × (c ≡ true)
fits_each true true c e = (refl, refl, e)
fits_each true false c e = (refl, e, cc)
fits_each false b c e = (e, cc, cc)

-- `n + 1`, and what is made of it
add-and : {A B : Type 0} (n : ℕ) (f : ℕ → OrPanic A) (g : A → OrPanic B) → ((add-one n and f) and g) ≡ given (fits (suc n)) (f (suc n) and g)
unfolding add-one ◌and◌
add-and n f g = go (fits (suc n))
  where
    go : (b : Bool) → ((pick b (gives (suc n)) panics and f) and g) ≡ given b (f (suc n) and g)
    go true = refl
    go false = refl

fits_last : {A : Type 0} (x : Bool) (l : OrPanic A) → given x l ≡ given ((x && true) && true) l
fits_last true l = refl
fits_last false l = refl

pub expands-tilde : (p : S.Partial) → partial_fits p ≡ true → from-tilde (kind (view_of p)) (view_of p) ≡ said (comparators (expand_tilde p))
unfolding said partial_fits comparator_fits comparators as_read raised expand_tilde from-tilde as-comparator inc-major inc-minor zero-missing zero-patch no-pre placeless_comparator ◌and◌
expands-tilde x_range_only h = refl
expands-tilde (major_only a) h = let x = fits_each (fits a) true true h in add-and a _ _ ∙ rw x.0 (fits_last (fits (suc a)) _)
expands-tilde (major_minor a b) h = let x = fits_each (fits a) (fits b) true h in add-and b _ _ ∙ rw (x.0, x.1) (fits_last (fits (suc b)) _)
expands-tilde (major_minor_patch a b c is) h = let x = fits_each (fits a) (fits b) (fits c) h in add-and b _ _ ∙ rw (x.0, x.1, x.2) (fits_last (fits (suc b)) _)

pub expands-caret : (p : S.Partial) → partial_fits p ≡ true → handle-caret-range (view_of p) ≡ said (comparators (expand_caret p))
unfolding said partial_fits comparator_fits comparators as_read raised expand_caret caret_raises handle-caret-range major-zero minor-zero is-zero caret-zero caret-other caret-major as-comparator inc-major inc-minor inc-patch zero-missing zero-minor zero-patch no-pre placeless_comparator ◌and◌
expands-caret x_range_only h = refl
expands-caret (major_only zero) h = add-and 0 _ _
expands-caret (major_only (suc a)) h = let x = fits_each (fits (suc a)) true true h in add-and (suc a) _ _ ∙ rw x.0 (fits_last (fits (suc (suc a))) _)
expands-caret (major_minor zero b) h = let x = fits_each true (fits b) true h in add-and b _ _ ∙ rw x.1 (fits_last (fits (suc b)) _)
expands-caret (major_minor (suc a) b) h = let x = fits_each (fits (suc a)) (fits b) true h in add-and (suc a) _ _ ∙ rw (x.0, x.1) (fits_last (fits (suc (suc a))) _)
expands-caret (major_minor_patch zero zero c is) h = let x = fits_each true true (fits c) h in add-and c _ _ ∙ rw x.2 (fits_one (fits (suc c)) _)
expands-caret (major_minor_patch zero (suc b) c is) h =
    let x = fits_each true (fits (suc b)) (fits c) h in add-and (suc b) _ _ ∙ rw (x.1, x.2) (fits_last (fits (suc (suc b))) _)
expands-caret (major_minor_patch (suc a) b c is) h =
    let x = fits_each (fits (suc a)) (fits b) (fits c) h in add-and (suc a) _ _ ∙ rw (x.0, x.1, x.2) (fits_last (fits (suc (suc a))) _)

-- `=`, and what it gives to a bare partial
expands-eq : (p : S.Partial) → partial_fits p ≡ true → from-eq (kind (view_of p)) (view_of p) ≡ said (comparators (expand_eq p))
unfolding said partial_fits comparator_fits comparators as_read raised expand_eq from-eq as-comparator inc-major inc-minor zero-missing zero-patch placeless_comparator ◌and◌
expands-eq x_range_only h = refl
expands-eq (major_only a) h = let x = fits_each (fits a) true true h in add-and a _ _ ∙ rw x.0 (fits_last (fits (suc a)) _)
expands-eq (major_minor a b) h = let x = fits_each (fits a) (fits b) true h in add-and b _ _ ∙ rw (x.0, x.1) (fits_last (fits (suc b)) _)
expands-eq (major_minor_patch a b c is) h = let x = fits_each (fits a) (fits b) (fits c) h in rw (x.0, x.1, x.2) refl

pub expands-bare : (m : Compat) (p : S.Partial) → partial_fits p ≡ true → from-partial m (kind (view_of p)) (view_of p) ≡ said (comparators (expand_bare (mode m) p))
unfolding expand_bare expand_eq from-partial from-full from-eq
expands-bare m x_range_only h = expands-eq x_range_only h
expands-bare m (major_only a) h = expands-eq (major_only a) h
expands-bare m (major_minor a b) h = expands-eq (major_minor a b) h
expands-bare Npm (major_minor_patch a b c is) h = expands-eq (major_minor_patch a b c is) h
expands-bare Cargo (major_minor_patch a b c is) h = expands-caret (major_minor_patch a b c is) h

-- an operator as given
kept : (o : Op) (p : S.Partial) → partial_fits p ≡ true → gives (as-comparator o (view_of p) ∷ []) ≡ said (as_read (some o) p)
unfolding said partial_fits comparator_fits as_read as-comparator placeless_comparator
kept o x_range_only h = refl
kept o (major_only a) h = let x = fits_each (fits a) true true h in rw x.0 refl
kept o (major_minor a b) h = let x = fits_each (fits a) (fits b) true h in rw (x.0, x.1) refl
kept o (major_minor_patch a b c is) h = let x = fits_each (fits a) (fits b) (fits c) h in rw (x.0, x.1, x.2) refl

pub expands-op : (o : Op) (p : S.Partial) → partial_fits p ≡ true → from-op o (kind (view_of p)) (view_of p) ≡ said (comparators (expand_op o p))
unfolding expand_op expand_lte expand_eq comparators raised as_read from-op zero-missing zero-minor zero-patch as-comparator inc-major inc-minor ◌and◌ said comparator_fits placeless_comparator partial_fits
expands-op eq p h = expands-eq p h
expands-op lt x_range_only h = refl
expands-op lt (major_only a) h = kept lt (major_only a) h
expands-op lt (major_minor a b) h = kept lt (major_minor a b) h
expands-op lt (major_minor_patch a b c is) h = kept lt (major_minor_patch a b c is) h
expands-op gt x_range_only h = refl
expands-op gt (major_only a) h = kept gt (major_only a) h
expands-op gt (major_minor a b) h = kept gt (major_minor a b) h
expands-op gt (major_minor_patch a b c is) h = kept gt (major_minor_patch a b c is) h
expands-op gte x_range_only h = refl
expands-op gte (major_only a) h = kept gte (major_only a) h
expands-op gte (major_minor a b) h = kept gte (major_minor a b) h
expands-op gte (major_minor_patch a b c is) h = kept gte (major_minor_patch a b c is) h
expands-op lte x_range_only h = refl
expands-op lte (major_only a) h = add-and a _ _ ∙ fits_last (fits (suc a)) _
expands-op lte (major_minor a b) h = let x = fits_each (fits a) (fits b) true h in add-and b _ _ ∙ rw x.0 (fits_last (fits (suc b)) _)
expands-op lte (major_minor_patch a b c is) h = kept lte (major_minor_patch a b c is) h

-- ---- hyphen ranges

pub expands-left : (p : S.Partial) → partial_fits p ≡ true → gives (hyphen-left (kind (view_of p)) (view_of p)) ≡ said (comparators (expand_left p))
unfolding said partial_fits comparator_fits comparators as_read raised expand_left hyphen-left zero-missing as-comparator placeless_comparator
expands-left x_range_only h = refl
expands-left (major_only a) h = kept gte (major_only a) h
expands-left (major_minor a b) h = kept gte (major_minor a b) h
expands-left (major_minor_patch a b c is) h = kept gte (major_minor_patch a b c is) h

pub expands-right : (p q : S.Partial) → partial_fits q ≡ true → hyphen-right (kind (view_of p)) (kind (view_of q)) (view_of q) ≡ said (comparators (expand_right p q))
unfolding said partial_fits comparator_fits comparators as_read raised expand_right hyphen-right hyphen-wild zero-missing zero-minor zero-patch as-comparator inc-major inc-minor placeless_comparator ◌and◌
expands-right x_range_only x_range_only h = refl
expands-right (major_only a) x_range_only h = refl
expands-right (major_minor a b) x_range_only h = refl
expands-right (major_minor_patch a b c is) x_range_only h = refl
expands-right p (major_only a) h = add-and a _ _ ∙ fits_last (fits (suc a)) _
expands-right p (major_minor a b) h = let x = fits_each (fits a) (fits b) true h in add-and b _ _ ∙ rw x.0 (fits_last (fits (suc b)) _)
expands-right p (major_minor_patch a b c is) h = kept lte (major_minor_patch a b c is) h
