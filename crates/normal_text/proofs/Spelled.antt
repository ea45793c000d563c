-- The bytes of a comparator behind a gap, and of the comparators of a step.
-- Assumes nothing.
use Rattle.std.proofs.Common.{ℕ, ◌≡◌, ◌+◌, List, [], ◌++◌, length, length-append, refl, ap, ◌∙◌, arith, Option, Some}
use Rattle.rules.specs.Expansion as E
use Rattle.rules.specs.NormalText.{spell_identifiers}
use Rattle.rules.specs.Parse.{found_in}
use Rattle.rules.specs.Walk as W
use Rattle.rules.specs.Walk.{spell_gap, spell_after, gap_after}
use Rattle.rules.proofs.WalkText.{spell-none, spell_one, spell-append}
use Rattle.partial.specs.Views.{comparator_is}
use Rattle.partial.specs.declared.Comparator.{Comparator}
use Rattle.spelling.specs.Views.{spelled_triple}
use Rattle.spelling.proofs.Triples.{comparator-spelled}
use Rattle.walk.specs.Views.{Stepped}
use Rattle.rows.specs.Put.{Put}
use Rattle.rows.proofs.Puts.{put_then, put_same}
use Rattle.passes.specs.Views.{listed, kept_gives, raised_gives, step_gives}

-- ---- a comparator

module _ (g : W.Gap) where
  pub none_length : length (spell_after g []) ≡ 0
  none_length = ap length (spell-none g)

  pub none_put : (l : List ℕ) (at : ℕ) → Put l at (spell_after g []) l at
  none_put l at = rw spell-none (record { stored = refl; place = omega arith })

  module _ (c : Comparator) where
    abbrev named : List ℕ
    named = spell_identifiers (found_in c.identifiers.now)

    spelled : spell_after g (listed (Some c)) ≡ spell_gap g ++ (spelled_triple c ++ named)
    spelled = spell_one g (comparator_is c) ∙ ap (λ w. spell_gap g ++ w) (comparator-spelled c (found_in c.identifiers.now))

    pub one_length : length (spell_after g (listed (Some c))) ≡ length (spell_gap g) + length (spelled_triple c) + length named
    one_length = ap length spelled ∙ simp length-append (omega arith)

    pub one_put : {o : Option Comparator} {v l m n y : List ℕ} {at i j k : ℕ} → o ≡ Some c → v ≡ spell_gap g
        → Put l at v m i → Put m i (spelled_triple c) n j → Put n j named y k → Put l at (spell_after g (listed o)) y k
    one_put e f p q r = rw (e, spelled) (put_then (rw f at p) (put_then q r))

-- ---- the comparators of a step

module _ (g : W.Gap) (x : Stepped) where
  split : spell_after g (step_gives x) ≡ spell_after g (kept_gives x) ++ spell_after (gap_after g (kept_gives x)) (raised_gives x)
  unfolding step_gives
  split = spell-append g (kept_gives x) (raised_gives x)

  pub step_length : length (spell_after g (step_gives x)) ≡ length (spell_after g (kept_gives x)) + length (spell_after (gap_after g (kept_gives x)) (raised_gives x))
  step_length = ap length split ∙ simp length-append

  pub step_put : {cs ds : List E.Comparator} {h : W.Gap} {l m y : List ℕ} {at i k : ℕ} → cs ≡ kept_gives x → h ≡ gap_after g cs → ds ≡ raised_gives x
      → Put l at (spell_after g cs) m i → Put m i (spell_after h ds) y k → Put l at (spell_after g (step_gives x)) y k
  step_put e f r p q = rw (split, ← e, ← r, ← f) (put_then p q)

pub ruleset lengths = (none_length, one_length, step_length)

pub ruleset puts = (none_length, one_length, step_length, none_put, put_same)
