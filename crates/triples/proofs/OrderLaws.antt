-- The derived order of triples is 02's.
-- Assumes nothing.
use Rattle.std.proofs.Common.{◌≡◌, refl, ap, ◌∙◌, Bool, true, false, cond, nat_lt, ◌==◌}
use Rattle.std.specs.Ordering.{is_le, is_lt, is_some_and, ordering_then, ordering_reverse, partial_le, ord_max, ord_min}
use Rattle.std.specs.declared.cmp.Ordering.{Ordering}
use Rattle.std.specs.declared.cmp.Ordering.TheVariants.{Less, Equal, Greater}
use Rattle.rules.specs.Bytes.{pick}
use Rattle.rules.specs.Syntax.{lte}
use Rattle.rules.specs.Precedence.{less, equal, greater, ◌or_else◌, compare_numbers}
use Rattle.rules.specs.Admission.{holds}
use Rattle.shelf_rules.specs.Triples.{compare_triples, at_most, larger, smaller}
use Rattle.triples.specs.Views.{triple_is}
use Rattle.triples.specs.contracts.TriplePartialOrd.TheImpl.{partial_cmp-value}
use Rattle.triples.specs.contracts.TripleOrd.TheImpl.{cmp-value}
use Rattle.triples.specs.contracts.TripleOrd.TheImpl.Laws.{total-law, matches_partial_cmp-law}
use Rattle.triples.specs.declared.Triple.{Triple}

-- two numbers by the tests that compare them
abbrev decided : Bool → Bool → Ordering
decided l e = cond l Less (cond e Equal Greater)

first-decides : (l e l₁ e₁ l₂ e₂ : Bool)
    → is_le (ordering_then (decided l e) (ordering_then (decided l₁ e₁) (decided l₂ e₂)))
    ≡ holds lte (pick l less (pick e equal greater) or_else pick l₁ less (pick e₁ equal greater) or_else pick l₂ less (pick e₂ equal greater))
unfolding holds ◌or_else◌
first-decides true e l₁ e₁ l₂ e₂ = refl
first-decides false false l₁ e₁ l₂ e₂ = refl
first-decides false true true e₁ l₂ e₂ = refl
first-decides false true false false l₂ e₂ = refl
first-decides false true false true true e₂ = refl
first-decides false true false true false false = refl
first-decides false true false true false true = refl

module _ (t u : Triple) where
  most_is : is_le (cmp-value.it t u) ≡ at_most (triple_is t) (triple_is u)
  unfolding at_most compare_triples compare_numbers
  most_is = first-decides (nat_lt t.major u.major) (t.major == u.major) (nat_lt t.minor u.minor) (t.minor == u.minor) (nat_lt t.patch u.patch) (t.patch == u.patch)

  pub le_is : partial_le partial_cmp-value.it t u ≡ at_most (triple_is t) (triple_is u)
  le_is = ap (is_some_and is_le) (matches_partial_cmp-law t u) ∙ most_is

  turned : cmp-value.it u t ≡ ordering_reverse (cmp-value.it t u)
  turned = total-law.antisymm u t

  pub max_is : triple_is (ord_max cmp-value.it t u) ≡ larger (triple_is t) (triple_is u)
  max_is = ap (λ o. triple_is (cond (is_lt o) t u)) turned ∙ go (cmp-value.it t u) ∙ ap (λ b. pick b (triple_is u) (triple_is t)) most_is
    where
      go : (o : Ordering) → triple_is (cond (is_lt (ordering_reverse o)) t u) ≡ pick (is_le o) (triple_is u) (triple_is t)
      go Less = refl
      go Equal = refl
      go Greater = refl

  pub min_is : triple_is (ord_min cmp-value.it t u) ≡ smaller (triple_is t) (triple_is u)
  min_is = ap (λ o. triple_is (cond (is_lt o) u t)) turned ∙ go (cmp-value.it t u) ∙ ap (λ b. pick b (triple_is t) (triple_is u)) most_is
    where
      go : (o : Ordering) → triple_is (cond (is_lt (ordering_reverse o)) u t) ≡ pick (is_le o) (triple_is t) (triple_is u)
      go Less = refl
      go Equal = refl
      go Greater = refl
