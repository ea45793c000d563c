-- Partials: the crate's rule meets 01's reader, and `parse_partial` reads its pairs as 01's partial.
-- Assumes nothing.
use mathlib.Core.Path.{◌≡◌, refl, ap, ◌∙◌}
use Prim.Native.Nat.{ℕ}
use mathlib.Core.Bool.{Bool, true, false, ◌&&◌}
use mathlib.Core.Option.{Option, none, some}
use mathlib.Core.List.{List, [], map}
use Rattle.rules.specs.Bytes.{bytes, pick, value}
use Rattle.rules.specs.Syntax as S
use Rattle.rules.specs.Syntax.{Identifier, up_to₁, up_to₂, up_to₃, x_range_only, major_only, major_minor, major_minor_patch}
use Rattle.rules.specs.Rows.{placeless}
use Rattle.rules.specs.Answers.{fits, partial_fits}
use Rattle.rules.specs.Parse.{literal, read_dot, after_three, after_two, after_one, read_partial}
use Rattle.reference.specs.Rule.{Rule}
use Rattle.reference.specs.Pest.{Pairs, end, pair, ◌⊕◌, and_then, sequenced, optionally, matched, run, match-string, ◌and-then◌, optional, sequence}
use Rattle.reference.specs.Generated as G
use Rattle.reference.specs.Rust.{OrPanic, gives, panics, ◌and◌, unwrap}
use Rattle.reference.specs.Range.{Partial, partial, XRangeOnly, MajorOnly, MajorMinor, MajorMinorPatch, component-in, component, parse-pre, behind-three, three-is, behind-two, two-is, behind-one, one-is, parse-partial}
use Rattle.reference.proofs.Meets.{join-end, chain₂, chain₃-left, Meets, Within, inside, via, gets-inside, gets-map, optional_then, sequence-meets, rule-meets, and-within, matched-meets}
use Rattle.reference.proofs.Lexed.{IsInner, wild, numb, IsXr, is_xr, is_parts, IsQualifier, absent, present, xr-meets, qualifier-gets}

-- ---- the pairs in a partial

pub data Kids : S.Partial → Pairs → Type 0 where
  kid₁ : {c : Option ℕ} {x : Pairs} → IsXr c x → Kids (up_to₁ c) x
  kid₂ : {c d : Option ℕ} {x y : Pairs} → IsXr c x → IsXr d y → Kids (up_to₂ c d) (x ⊕ y)
  kid₃ : {c d e : Option ℕ} {is : List Identifier} {x y z q : Pairs} → IsXr c x → IsXr d y → IsXr e z → IsQualifier is q → Kids (up_to₃ c d e is) (x ⊕ (y ⊕ (z ⊕ q)))

module _ (t : List ℕ) where
  dot-within : (s : List ℕ) → Within IsXr (read_dot s) (and_then (matched s (literal (bytes ".") s)) (run t G.xr))
  unfolding read_dot ◌⊕◌
  dot-within s = and-within (inside (matched-meets s (literal (bytes ".") s))) λ u r p e. rw e (inside (xr-meets t r))

  kids-within : (s : List ℕ) → Within Kids (read_partial s) (and_then (run t G.xr s) λ s. optionally (sequenced s (and_then (and_then (matched s (literal (bytes ".") s)) (run t G.xr))
      λ s. optionally (sequenced s (and_then (and_then (matched s (literal (bytes ".") s)) (run t G.xr)) λ s. optionally (run t G.qualifier s))))))
  unfolding read_partial after_one after_two after_three
  kids-within s =
      and-within {R = Kids} (inside (xr-meets t s)) λ c r x hx.
      gets-inside (optional_then {R = λ k q. Kids k (x ⊕ q)} r (after_two c) _ (up_to₁ c) (dot-within r) (λ d r y hy.
      optional_then {R = λ k q. Kids k (x ⊕ (y ⊕ q))} r (after_three c d) _ (up_to₂ c d) (dot-within r) (λ e r z hz.
      gets-map (up_to₃ c d e) (qualifier-gets t r) λ is q hq. kid₃ hx hy hz hq)
      (rw join-end (kid₂ hx hy))) (rw join-end (kid₁ hx)))

  kids-run : (s : List ℕ) → Meets Kids s (read_partial s) (run t (sequence (G.xr and-then G.skip and-then
      optional (sequence (match-string (bytes ".") and-then G.skip and-then G.xr and-then G.skip and-then
      optional (sequence (match-string (bytes ".") and-then G.skip and-then G.xr and-then G.skip and-then optional G.qualifier)))))) s)
  unfolding run
  kids-run s = sequence-meets s (via (chain₂ _ _ ∙ ap (and_then (run t G.xr s)) (λ i r. tail₁ r i)) (kids-within s))
    where
      tail₂ : (s : List ℕ) → run t (optional (sequence (match-string (bytes ".") and-then G.skip and-then G.xr and-then G.skip and-then optional G.qualifier))) s
          ≡ optionally (sequenced s (and_then (and_then (matched s (literal (bytes ".") s)) (run t G.xr)) λ s. optionally (run t G.qualifier s)))
      tail₂ s = ap (λ o. optionally (sequenced s o)) (chain₃-left _ _ _)

      tail₁ : (s : List ℕ) → run t (optional (sequence (match-string (bytes ".") and-then G.skip and-then G.xr and-then G.skip and-then
          optional (sequence (match-string (bytes ".") and-then G.skip and-then G.xr and-then G.skip and-then optional G.qualifier))))) s
          ≡ optionally (sequenced s (and_then (and_then (matched s (literal (bytes ".") s)) (run t G.xr))
          λ s. optionally (sequenced s (and_then (and_then (matched s (literal (bytes ".") s)) (run t G.xr)) λ s. optionally (run t G.qualifier s)))))
      tail₁ s = ap (λ o. optionally (sequenced s o)) (chain₃-left _ _ _ ∙ ap (and_then _) (λ i r. tail₂ r i))

-- ---- parse_partial

-- 01's partial as the crate's
abbrev pub view_of : S.Partial → Partial
view_of x_range_only = partial none none none [] XRangeOnly
view_of (major_only a) = partial (some a) none none [] MajorOnly
view_of (major_minor a b) = partial (some a) (some b) none [] MajorMinor
view_of (major_minor_patch a b c is) = partial (some a) (some b) (some c) (map placeless is) MajorMinorPatch

-- a value if the test passes, else a panic
abbrev pub given : {A : Type 0} → Bool → OrPanic A → OrPanic A
given b x = pick b x panics

pub fits_one : {A : Type 0} (a : Bool) (x : OrPanic A) → given a x ≡ given (a && true) x
fits_one true x = refl
fits_one false x = refl

fits-two : {A : Type 0} (a b : Bool) (x : OrPanic A) → given a (given b x) ≡ given (a && (b && true)) x
fits-two true true x = refl
fits-two true false x = refl
fits-two false b x = refl

fits-three : {A : Type 0} (a b c : Bool) (x : OrPanic A) → given a (given b (given c x)) ≡ given (a && (b && c)) x
fits-three true true c x = refl
fits-three true false c x = refl
fits-three false b c x = refl

abbrev component_fits : Option ℕ → Bool
component_fits none = true
component_fits (some n) = fits n

inner-and : {A : Type 0} {c : Option ℕ} {i : Pairs} (f : Option ℕ → OrPanic A) → IsInner c i → (component-in i and f) ≡ given (component_fits c) (f c)
unfolding component-in ◌and◌ unwrap
inner-and f wild = refl
inner-and f (numb {w} h) = rw h (go (fits (value w)))
  where
    go : (b : Bool) → ((unwrap (pick b (some (value w)) none) and λ n. gives (some n)) and f) ≡ given b (f (some (value w)))
    go true = refl
    go false = refl

full-parse : (a b c : ℕ) {is : List Identifier} {q : Pairs} → IsQualifier is q → behind-three a b c q ≡ gives (view_of (major_minor_patch a b c is))
unfolding behind-three parse-pre ◌and◌
full-parse a b c absent = refl
full-parse a b c (present (is_parts h)) = rw h refl

one-parse : (v : List ℕ) (c : Option ℕ) {i : Pairs} → IsInner c i → parse-partial (pair Rule.xr v i end) ≡ given (partial_fits (up_to₁ c)) (gives (view_of (up_to₁ c)))
unfolding parse-partial component one-is behind-one partial_fits up_to₁
one-parse v none h = inner-and _ h
one-parse v (some a) h = inner-and _ h ∙ fits_one (fits a) _

two-parse : (v w : List ℕ) (c d : Option ℕ) {i j : Pairs} → IsInner c i → IsInner d j
    → parse-partial (pair Rule.xr v i (pair Rule.xr w j end)) ≡ given (partial_fits (up_to₂ c d)) (gives (view_of (up_to₂ c d)))
unfolding parse-partial component one-is behind-one two-is behind-two partial_fits up_to₂
two-parse v w none d h k = inner-and _ h
two-parse v w (some a) none h k = inner-and _ h ∙ ap (given (fits a)) (inner-and _ k) ∙ fits_one (fits a) _
two-parse v w (some a) (some b) h k = inner-and _ h ∙ ap (given (fits a)) (inner-and _ k) ∙ fits-two (fits a) (fits b) _

three-parse : (u v w : List ℕ) (c d e : Option ℕ) {is : List Identifier} {i j k q : Pairs} → IsInner c i → IsInner d j → IsInner e k → IsQualifier is q
    → parse-partial (pair Rule.xr u i (pair Rule.xr v j (pair Rule.xr w k q))) ≡ given (partial_fits (up_to₃ c d e is)) (gives (view_of (up_to₃ c d e is)))
unfolding parse-partial component one-is behind-one two-is behind-two three-is partial_fits up_to₃
three-parse u v w none d e h k l q = inner-and _ h
three-parse u v w (some a) none e h k l q = inner-and _ h ∙ ap (given (fits a)) (inner-and _ k) ∙ fits_one (fits a) _
three-parse u v w (some a) (some b) none h k l q = inner-and _ h ∙ ap (given (fits a)) (inner-and _ k ∙ ap (given (fits b)) (inner-and _ l)) ∙ fits-two (fits a) (fits b) _
three-parse u v w (some a) (some b) (some c) h k l q =
    inner-and _ h ∙ ap (given (fits a)) (inner-and _ k ∙ ap (given (fits b)) (inner-and _ l ∙ ap (given (fits c)) (full-parse a b c q))) ∙ fits-three (fits a) (fits b) (fits c) _

kids-parse : {p : S.Partial} {k : Pairs} → Kids p k → parse-partial k ≡ given (partial_fits p) (gives (view_of p))
unfolding ◌⊕◌
kids-parse (kid₁ {c} (is_xr h)) = one-parse _ c h
kids-parse (kid₂ {c} {d} (is_xr h) (is_xr k)) = two-parse _ _ c d h k
kids-parse (kid₃ {c} {d} {e} (is_xr h) (is_xr k) (is_xr l) q) = three-parse _ _ _ c d e h k l q

-- ---- the rule

pub data IsPartial : S.Partial → Pairs → Type 0 where
  is_partial : {p : S.Partial} {w : List ℕ} {k : Pairs} → parse-partial k ≡ given (partial_fits p) (gives (view_of p)) → IsPartial p (pair Rule.partial w k end)

pub partial-meets : (t s : List ℕ) → Meets IsPartial s (read_partial s) (run t G.partial s)
unfolding run G.partial
partial-meets t s = rule-meets Rule.partial (kids-run t s) λ p r k e h. is_partial (kids-parse h)
