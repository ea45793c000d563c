-- The normal text of a reading is that of its pieces, one after another.
-- Assumes nothing.
use mathlib.Core.Path.{◌≡◌, refl, sym, ap, ap₂, ◌∙◌}
use mathlib.Core.List.{List, [], ◌∷◌, ◌++◌, map, append_assoc, append-nil}
use Rattle.rules.specs.Bytes.{bytes}
use Rattle.rules.specs.Syntax.{Range}
use Rattle.rules.specs.Expansion.{Compat, Comparator, Piece, comparators, expand_range, comparators_of, expand}
use Rattle.rules.specs.NormalText.{tailed, joined, spell_comparator, spell_range, spell}
use Rattle.rules.specs.Walk.{push, Gap, start, blank, bars, spell_gap, spell_after, gap_after, walk_text}
use Rattle.rules.proofs.Nonempty.{Nonempty, nonempty, range_nonempty}

-- ---- comparators

pub spell-none : (g : Gap) → spell_after g [] ≡ []
unfolding spell_after
spell-none g = refl

pub spell_one : (g : Gap) (c : Comparator) → spell_after g (c ∷ []) ≡ spell_gap g ++ spell_comparator c
unfolding spell_after
spell_one g c = append-nil (spell_gap g ++ spell_comparator c)

pub spell-append : (g : Gap) (cs ds : List Comparator) → spell_after g (cs ++ ds) ≡ spell_after g cs ++ spell_after (gap_after g cs) ds
unfolding spell_after
spell-append g [] ds = refl
spell-append g (c ∷ cs) ds =
    ap (λ w. (spell_gap g ++ spell_comparator c) ++ w) (spell-append blank cs ds ∙ ap (λ h. spell_after blank cs ++ spell_after h ds) (gap-blank cs))
    ∙ sym (append_assoc (spell_gap g ++ spell_comparator c) (spell_after blank cs) (spell_after blank ds))
  where
    gap-blank : (cs : List Comparator) → gap_after blank cs ≡ blank
    gap-blank [] = refl
    gap-blank (c ∷ cs) = refl

-- ---- pieces

pub text-push : (g : Gap) (x : Piece) (rs : List (List Piece)) → walk_text g (push x rs) ≡ spell_after g (comparators x) ++ walk_text (gap_after g (comparators x)) rs
unfolding walk_text comparators_of
text-push g x [] = ap (λ cs. spell_after g cs ++ []) (append-nil (comparators x))
text-push g x (ps ∷ rs) =
    ap (λ w. w ++ walk_text bars rs) (spell-append g (comparators x) (comparators_of ps))
    ∙ append_assoc (spell_after g (comparators x)) (spell_after (gap_after g (comparators x)) (comparators_of ps)) (walk_text bars rs)

pub text-open : (g : Gap) (rs : List (List Piece)) → walk_text g ([] ∷ rs) ≡ walk_text bars rs
unfolding walk_text comparators_of spell_after
text-open g rs = refl

-- ---- ranges

comparators-after : (cs : List Comparator) → tailed spell_comparator (0x20 ∷ []) cs ≡ spell_after blank cs
unfolding tailed spell_after spell_gap
comparators-after [] = refl
comparators-after (c ∷ cs) = ap (λ w. ((0x20 ∷ []) ++ spell_comparator c) ++ w) (comparators-after cs)

-- Of no comparators there would be the gap on one side and nothing on the other.
range-after : (g : Gap) {cs : List Comparator} → Nonempty cs → spell_gap g ++ spell_range cs ≡ spell_after g cs
unfolding spell_range joined spell_after
range-after g (nonempty {a = c} {l = cs}) =
    sym (append_assoc (spell_gap g) (spell_comparator c) (tailed spell_comparator (0x20 ∷ []) cs))
    ∙ ap (λ w. (spell_gap g ++ spell_comparator c) ++ w) (comparators-after cs)

module _ (m : Compat) where
  ranges-after : (rs : List Range) → tailed spell_range (bytes " || ") (expand m rs) ≡ walk_text bars (map (expand_range m) rs)
  unfolding tailed expand walk_text spell_gap
  ranges-after [] = refl
  ranges-after (a ∷ rs) = ap₂ ◌++◌ (range-after bars (range_nonempty m a)) (ranges-after rs)

  pub expand-text : (rs : List Range) → spell (expand m rs) ≡ walk_text start (map (expand_range m) rs)
  unfolding spell joined expand walk_text spell_gap
  expand-text [] = refl
  expand-text (a ∷ rs) = ap₂ ◌++◌ (range-after start (range_nonempty m a)) (ranges-after rs)
