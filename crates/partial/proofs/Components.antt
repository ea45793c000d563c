-- Partials by how many numbers are read: what the rules' reader reads behind the last one.
-- Assumes nothing.
use Rattle.std.proofs.Common.{ℕ, ◌≡◌, Bool, true, false, not, ◌&&◌, List, [], length, drop, refl, Option, Some, None, ap, ◌∙◌}
use Rattle.std.proofs.Math.Option as Math
use Rattle.std.proofs.Math.Option.{none, some}
use lib.Dec.{leb}
use Rattle.std.specs.Borrow.{Bor}
use Rattle.rules.specs.Bytes.{bytes, is_wild, is_sign, value, largest, pick}
use Rattle.rules.specs.Syntax as S
use Rattle.rules.specs.Syntax.{up_to₁, up_to₂, up_to₃}
use Rattle.rules.specs.Parse.{Result, fail, ok, ◌then◌, choose, one_of, literal, read_number, read_component, read_dot, read_identifiers, read_qualifier, after_three, after_two, after_one, read_partial, list_of}
use Rattle.rules.specs.Version.{read_after_dot}
use Rattle.rules.specs.Answers.{partial_fits}
use Rattle.rules.proofs.Results.{given}
use Rattle.rules.proofs.Sound.{number-sound}
use Rattle.rules.proofs.Complete.{one-fails}
use Rattle.rules.proofs.Follows.{number-stops, passes}
use Rattle.lexer.specs.Views.{fitting, number_of, rest_of, series_of, begun, on_rest}
use Rattle.partial.specs.Views.{Held, held, partial_of, of_components, qualified, identifiers_read, from_one, from_start, beginning}
use Rattle.partial.specs.declared.PartialKind.TheVariants.{MajorOnly, MajorMinor, MajorMinorPatch}

-- ---- a number that was read, and a dot and a number

abbrev Read : Option ℕ → List ℕ → Result (List ℕ) → Type 0
Read v t g = (w : List ℕ) × (g ≡ ok w t) × (v ≡ fitting (value w))

read : (v : Option ℕ) (t : List ℕ) (g : Result (List ℕ)) → ok v t ≡ number_of g → Read v t g
read v t fail e = cc
read v t (ok w r) e = let i : r ≡ t = cc in (w, ap (ok w) i, cc)

-- a dot and a wildcard
unfoldable read_dot_wildcard : List ℕ → Result ℕ
read_dot_wildcard s = literal (bytes ".") s then λ u t. one_of is_wild t

component_number : (s w r : List ℕ) → read_number s ≡ ok w r → read_component s ≡ ok (some (value w)) r
unfolding read_component choose ◌then◌ passes
component_number s w r e = rw (one-fails is_wild s (number-stops is_wild refl (given (rw e at (number-sound s)))), e)

component_other : (s : List ℕ) → read_number s ≡ fail → read_component s ≡ choose (one_of is_wild s) (λ c r. ok none r) fail
unfolding read_component ◌then◌
component_other s e = rw e

dot_number : (s w r : List ℕ) → read_after_dot read_number s ≡ ok w r → read_dot s ≡ ok (some (value w)) r
unfolding read_after_dot read_dot ◌then◌
dot_number s w r e = go (literal (bytes ".") s) e
  where
    go : (g : Result (Unit {0})) → (g then λ u t. read_number t) ≡ ok w r → (g then λ u t. read_component t) ≡ ok (some (value w)) r
    go fail q = cc
    go (ok u t) q = component_number t w r q

dot_other : (s : List ℕ) → fail ≡ number_of (read_after_dot read_number s) → read_dot s ≡ choose (read_dot_wildcard s) (λ c r. ok none r) fail
unfolding read_after_dot read_dot_wildcard read_dot ◌then◌ choose
dot_other s e = go (literal (bytes ".") s) e
  where
    failed : (g : Result (List ℕ)) → fail ≡ number_of g → g ≡ fail
    failed fail e = refl
    failed (ok w r) e = cc

    go : (g : Result (Unit {0})) → fail ≡ number_of (g then λ u t. read_number t) → (g then λ u t. read_component t) ≡ choose (g then λ u t. one_of is_wild t) (λ c r. ok none r) fail
    go fail q = refl
    go (ok u t) q = component_other t (failed (read_number t) q)

-- ---- what the code holds of each

held_one : (x : ℕ) → held (S.major_only x) ≡ of_components MajorOnly (fitting x) (Some 0) (Some 0)
unfolding held partial_fits
held_one x = go (leb x largest)
  where
    go : (b : Bool) → ◌≡◌ {A = Held}
        (record { kind = MajorOnly; major = pick b x largest; minor = 0; patch = 0; large = not (b && true); over = false; count = 0; identifiers = [] })
        (of_components MajorOnly (pick b (Some x) None) (Some 0) (Some 0))
    go true = refl
    go false = refl

held_two : (x y : ℕ) → held (S.major_minor x y) ≡ of_components MajorMinor (fitting x) (fitting y) (Some 0)
unfolding held partial_fits
held_two x y = go (leb x largest) (leb y largest)
  where
    go : (b c : Bool) → ◌≡◌ {A = Held}
        (record { kind = MajorMinor; major = pick b x largest; minor = pick c y largest; patch = 0; large = not (b && (c && true)); over = false; count = 0; identifiers = [] })
        (of_components MajorMinor (pick b (Some x) None) (pick c (Some y) None) (Some 0))
    go true true = refl
    go true false = refl
    go false true = refl
    go false false = refl

held_three : (x y z : ℕ) (is : List S.Identifier)
    → held (S.major_minor_patch x y z is) ≡ qualified (of_components MajorMinorPatch (fitting x) (fitting y) (fitting z)) (length is) is
unfolding held partial_fits
held_three x y z is = go (leb x largest) (leb y largest) (leb z largest)
  where
    go : (b c d : Bool) → ◌≡◌ {A = Held}
        (record {
          kind = MajorMinorPatch;
          major = pick b x largest;
          minor = pick c y largest;
          patch = pick d z largest;
          large = not (b && (c && d));
          over = false;
          count = length is;
          identifiers = is;
        })
        (qualified (of_components MajorMinorPatch (pick b (Some x) None) (pick c (Some y) None) (pick d (Some z) None)) (length is) is)
    go true true true = refl
    go true true false = refl
    go true false true = refl
    go true false false = refl
    go false true true = refl
    go false true false = refl
    go false false true = refl
    go false false false = refl

-- ---- behind a wildcard nothing is read: only what is left counts

-- a qualifier is there, or is absent: it always answers
qualifier_answers : (s : List ℕ) → (is : List S.Identifier) × (r : List ℕ) × (read_qualifier s ≡ ok is r)
unfolding read_qualifier choose
qualifier_answers s = go (one_of is_sign s then λ c t. read_identifiers t) refl
  where
    go : (g : Result (List S.Identifier)) → (one_of is_sign s then λ c t. read_identifiers t) ≡ g → (is : List S.Identifier) × (r : List ℕ) × (read_qualifier s ≡ ok is r)
    go fail e = ([], s, rw (read_qualifier, e))
    go (ok is r) e = (is, r, rw (read_qualifier, e))

module _ (p : S.Partial) where
  three_same : (c d e : Math.Option ℕ) → ((is : List S.Identifier) → up_to₃ c d e is ≡ p) → (s : List ℕ)
      → (r : List ℕ) × (after_three c d e s ≡ ok p r) × (rest_of (after_three none none none s) ≡ Some r)
  unfolding after_three ◌then◌
  three_same c d e h s = let x = qualifier_answers s in (x.1, rw x.2 (ap (λ y. ok y x.1) (h x.0)), rw x.2)

  two_same : (c d : Math.Option ℕ) → up_to₂ c d ≡ p → ((e : Math.Option ℕ) (is : List S.Identifier) → up_to₃ c d e is ≡ p) → (s : List ℕ)
      → (r : List ℕ) × (after_two c d s ≡ ok p r) × (rest_of (after_two none none s) ≡ Some r)
  unfolding after_two after_three choose ◌then◌
  two_same c d g h s = go (read_dot s) refl
    where
      three : (e : Math.Option ℕ) (t : List ℕ) → (r : List ℕ) × (after_three c d e t ≡ ok p r) × (rest_of (after_three none none e t) ≡ Some r)
      three e t = let x = qualifier_answers t in (x.1, rw x.2 (ap (λ y. ok y x.1) (h e x.0)), rw x.2)

      go : (x : Result (Math.Option ℕ)) → read_dot s ≡ x → (r : List ℕ) × (after_two c d s ≡ ok p r) × (rest_of (after_two none none s) ≡ Some r)
      go fail e = (s, rw (after_two, e) (ap (λ y. ok y s) g), rw (after_two, e))
      go (ok y u) e = let k = three y u in (k.0, rw (after_two, e) k.1, rw (after_two, e) k.2)

-- ---- behind one number, behind two, and behind three

module _ (x : ℕ) (s l : List ℕ) (d : read_dot s ≡ choose (read_dot_wildcard s) (λ c r. ok none r) fail) where
  major_is : Some l ≡ rest_of (after_one none s) → ok (of_components MajorOnly (fitting x) (Some 0) (Some 0)) l ≡ partial_of (after_one (some x) s)
  unfolding after_one choose ◌then◌ up_to₁ up_to₂ up_to₃
  major_is e = rw d (go (read_dot_wildcard s) (rw d at e))
    where
      go : (g : Result ℕ) → Some l ≡ rest_of (choose (choose g (λ c r. ok none r) fail) (λ d u. after_two none d u) (ok (up_to₁ none) s))
          → ok (of_components MajorOnly (fitting x) (Some 0) (Some 0)) l
          ≡ partial_of (choose (choose g (λ c r. ok none r) fail) (λ d u. after_two (some x) d u) (ok (up_to₁ (some x)) s))
      go fail e = let m : l ≡ s = cc in rw (m, held_one x)
      go (ok c r) e =
          let k = two_same (S.major_only x) (some x) none refl (λ e is. refl) r in
          let q = rw k.2 at e in
          let m : l ≡ k.0 = cc in
          rw (k.1, m, held_one x)

  minor_is : (y : ℕ) → Some l ≡ rest_of (after_two none none s) → ok (of_components MajorMinor (fitting y) (fitting x) (Some 0)) l ≡ partial_of (after_two (some y) (some x) s)
  unfolding after_two choose ◌then◌ up_to₂ up_to₃
  minor_is y e = rw d (go (read_dot_wildcard s) (rw d at e))
    where
      go : (g : Result ℕ) → Some l ≡ rest_of (choose (choose g (λ c r. ok none r) fail) (λ d u. after_three none none d u) (ok (up_to₂ none none) s))
          → ok (of_components MajorMinor (fitting y) (fitting x) (Some 0)) l
          ≡ partial_of (choose (choose g (λ c r. ok none r) fail) (λ d u. after_three (some y) (some x) d u) (ok (up_to₂ (some y) (some x)) s))
      go fail e = let m : l ≡ s = cc in rw (m, held_two y x)
      go (ok c r) e =
          let k = three_same (S.major_minor y x) (some y) (some x) none (λ is. refl) r in
          let q = rw k.2 at e in
          let m : l ≡ k.0 = cc in
          rw (k.1, m, held_two y x)

patch_is : (x y z n : ℕ) (is : List S.Identifier) (s r : List ℕ) → ok (n, is) r ≡ series_of (read_qualifier s)
    → ok (qualified (of_components MajorMinorPatch (fitting x) (fitting y) (fitting z)) n is) r ≡ partial_of (after_three (some x) (some y) (some z) s)
unfolding after_three ◌then◌ up_to₃
patch_is x y z n is s r e = go (read_qualifier s) e
  where
    go : (g : Result (List S.Identifier)) → ok (n, is) r ≡ series_of g
        → ok (qualified (of_components MajorMinorPatch (fitting x) (fitting y) (fitting z)) n is) r ≡ partial_of (g then λ is r. ok (up_to₃ (some x) (some y) (some z) is) r)
    go fail e = cc
    go (ok l t) e = let p : ◌≡◌ {A = ℕ × List S.Identifier} (n, is) (length l, l) = cc in let j : r ≡ t = cc in rw (ap (λ x. x.0) p, ap (λ x. x.1) p, j, held_three x y z l)

-- ---- read_partial

module _ (s t w : List ℕ) (k : read_number s ≡ ok w t) where
  behind_major : (l : List ℕ) → fail ≡ number_of (read_after_dot read_number t) → Some l ≡ rest_of (after_one none t)
      → ok (of_components MajorOnly (fitting (value w)) (Some 0) (Some 0)) l ≡ partial_of (read_partial s)
  unfolding read_partial ◌then◌
  behind_major l q e = rw (component_number s w t k) (major_is (value w) t l (dot_other t q) e)

  module _ (u x : List ℕ) (j : read_after_dot read_number t ≡ ok x u) where
    behind_minor : (l : List ℕ) → fail ≡ number_of (read_after_dot read_number u) → Some l ≡ rest_of (after_two none none u)
        → ok (of_components MajorMinor (fitting (value w)) (fitting (value x)) (Some 0)) l ≡ partial_of (read_partial s)
    unfolding read_partial after_one choose ◌then◌
    behind_minor l z e = rw (component_number s w t k, dot_number t x u j) (minor_is (value x) u l (dot_other u z) (value w) e)

    behind_patch : (v y r : List ℕ) (n : ℕ) (is : List S.Identifier) → read_after_dot read_number u ≡ ok y v → ok (n, is) r ≡ series_of (read_qualifier v)
        → ok (qualified (of_components MajorMinorPatch (fitting (value w)) (fitting (value x)) (fitting (value y))) n is) r ≡ partial_of (read_partial s)
    unfolding read_partial after_one after_two choose ◌then◌
    behind_patch v y r n is i e = rw (component_number s w t k, dot_number t x u j, dot_number u y v i) (patch_is (value w) (value x) (value y) n is v r e)

    behind_text : (v y : List ℕ) → read_after_dot read_number u ≡ ok y v → begun (list_of (read_qualifier v)) (drop 1 v) ≡ beginning s
    unfolding beginning read_partial after_one after_two after_three choose ◌then◌ up_to₃
    behind_text v y i = rw (component_number s w t k, dot_number t x u j, dot_number u y v i) (go (read_qualifier v))
      where
        go : (g : Result (List S.Identifier)) → begun (list_of g) (drop 1 v)
            ≡ begun (identifiers_read (g then λ is r. ok (up_to₃ (some (value w)) (some (value x)) (some (value y)) is) r)) (drop 1 v)
        go fail = refl
        go (ok l r) = refl

-- a partial without identifiers begins none
pub no_text : (s r : List ℕ) (h : Held) → ok h r ≡ partial_of (read_partial s) → [] ≡ h.identifiers → [] ≡ beginning s
unfolding beginning held
no_text s r h e n = go (read_partial s) e
  where
    go : (g : Result S.Partial) → ok h r ≡ partial_of g → [] ≡ begun (identifiers_read g) (from_start s)
    go fail e = cc
    go (ok p t) e = let i : h ≡ held p = cc in rw (← n ∙ ap (λ h. h.identifiers) i)

-- nor does one that is a wildcard
pub wild_text : (s : List ℕ) → fail ≡ number_of (read_number s) → [] ≡ beginning s
unfolding beginning read_partial after_one choose ◌then◌ up_to₁ up_to₂ up_to₃
wild_text s e = rw (component_other s (failed (read_number s) e)) (go (one_of is_wild s))
  where
    failed : (g : Result (List ℕ)) → fail ≡ number_of g → g ≡ fail
    failed fail e = refl
    failed (ok w r) e = cc

    dot : (r : List ℕ) (g : Result (Math.Option ℕ)) (t : List ℕ) → [] ≡ begun (identifiers_read (choose g (λ d u. after_two none d u) (ok (up_to₁ none) r))) t
    dot r fail t = refl
    dot r (ok d u) t = rw (two_same S.x_range_only none d refl (λ e is. refl) u).1

    go : (g : Result ℕ)
        → [] ≡ begun (identifiers_read (choose g (λ c r. ok none r) fail then λ c t. after_one c t)) (on_rest {A = Math.Option ℕ} from_one (choose g (λ c r. ok none r) fail))
    go fail = refl
    go (ok c r) = dot r (read_dot r) (from_one r)

module _ (s t : List ℕ) (a : Option ℕ) (p : ok a t ≡ number_of (read_number s)) where
  module _ (l : List ℕ) (q : fail ≡ number_of (read_after_dot read_number t)) (e : Some l ≡ rest_of (after_one none t)) where
    pub one_read : (h : Held) → h ≡ of_components MajorOnly a (Some 0) (Some 0) → ok h l ≡ partial_of (read_partial s)
    one_read h m = let (w, k, v) = read a t (read_number s) p in ap (λ h. ok h l) m ∙ rw v (behind_major s t w k l q e)

    pub one_text : (w : List ℕ) → w ≡ [] → w ≡ beginning s
    one_text w z = z ∙ no_text s l _ (one_read _ refl) refl

  module _ (u : List ℕ) (b : Option ℕ) (q : ok b u ≡ number_of (read_after_dot read_number t)) where
    module _ (l : List ℕ) (z : fail ≡ number_of (read_after_dot read_number u)) (e : Some l ≡ rest_of (after_two none none u)) where
      pub two_read : (h : Held) → h ≡ of_components MajorMinor a b (Some 0) → ok h l ≡ partial_of (read_partial s)
      two_read h m =
          let (w, k, v) = read a t (read_number s) p in
          let (x, j, v') = read b u (read_after_dot read_number t) q in
          ap (λ h. ok h l) m ∙ rw (v, v') (behind_minor s t w k u x j l z e)

      pub two_text : (w : List ℕ) → w ≡ [] → w ≡ beginning s
      two_text w i = i ∙ no_text s l _ (two_read _ refl) refl

    module _ (v : List ℕ) (c : Option ℕ) (z : ok c v ≡ number_of (read_after_dot read_number u)) where
      pub three_read : (r : List ℕ) (n : ℕ) (is : List S.Identifier) → ok (n, is) r ≡ series_of (read_qualifier v)
          → (h : Held) → h ≡ of_components MajorMinorPatch a b c → (h' : Held) → h' ≡ qualified h n is → ok h' r ≡ partial_of (read_partial s)
      three_read r n is e h m h' m' =
          let (w, k, f) = read a t (read_number s) p in
          let (x, j, g) = read b u (read_after_dot read_number t) q in
          let (y, i, l) = read c v (read_after_dot read_number u) z in
          ap (λ h. ok h r) m' ∙ ap (λ h. ok (qualified h n is) r) m ∙ rw (f, g, l) (behind_patch s t w k u x j v y r n is i e)

      pub three_text : (o o' : Bor (List ℕ)) → o ≡ o' → o'.now ≡ begun (list_of (read_qualifier v)) (drop 1 v) → o.now ≡ beginning s
      three_text o o' d d' =
          let (w, k, f) = read a t (read_number s) p in
          let (x, j, g) = read b u (read_after_dot read_number t) q in
          let (y, i, l) = read c v (read_after_dot read_number u) z in
          ap (λ o. o.now) d ∙ d' ∙ behind_text s t w k u x j v y i

module _ (s : List ℕ) (e : fail ≡ number_of (read_number s)) where
  pub none_text : (w : List ℕ) → w ≡ [] → w ≡ beginning s
  none_text w z = z ∙ wild_text s e

  unread : (g : Result (List ℕ)) → fail ≡ number_of g → g ≡ fail
  unread fail e = refl
  unread (ok w r) e = cc

  pub none_read : (r l : List ℕ) → Some r ≡ rest_of (one_of is_wild s) → Some l ≡ rest_of (after_one none r) → (h : Held) → h ≡ held S.x_range_only → ok h l ≡ partial_of (read_partial s)
  unfolding read_partial after_one choose ◌then◌ up_to₁ up_to₂ up_to₃
  none_read r l k m h i = rw (i, component_other s (unread (read_number s) e)) (go (one_of is_wild s) k)
    where
      dot : (g : Result (Math.Option ℕ)) → Some l ≡ rest_of (choose g (λ d u. after_two none d u) (ok (up_to₁ none) r))
          → ok (held S.x_range_only) l ≡ partial_of (choose g (λ d u. after_two none d u) (ok (up_to₁ none) r))
      dot fail m = let i : l ≡ r = cc in rw i
      dot (ok d u) m =
          let k = two_same S.x_range_only none d refl (λ e is. refl) u in
          let m' = rw k.1 at m in
          let i : l ≡ k.0 = cc in
          rw (k.1, i)

      go : (g : Result ℕ) → Some r ≡ rest_of g → ok (held S.x_range_only) l ≡ partial_of (choose g (λ c r. ok none r) fail then λ c t. after_one c t)
      go fail k = cc
      go (ok c t) k = let i : t ≡ r = cc in rw i (dot (read_dot r) m)

  pub none_wild : None ≡ rest_of (one_of is_wild s) → fail ≡ partial_of (read_partial s)
  unfolding read_partial choose ◌then◌
  none_wild k = rw (component_other s (unread (read_number s) e)) (go (one_of is_wild s) k)
    where
      go : (g : Result ℕ) → None ≡ rest_of g → fail ≡ partial_of (choose g (λ c r. ok none r) fail then λ c t. after_one c t)
      go fail k = refl
      go (ok c t) k = cc

pub ruleset partials = (one_read, one_text, two_read, two_text, three_read, three_text, none_read, none_text, none_wild)
