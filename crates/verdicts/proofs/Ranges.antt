-- The line for a range: nothing where it is read, else the line of its refusal.
-- Assumes nothing.
use Prim.Native.Nat.{ℕ, ◌+◌, ◌<◌, ◌≤◌}
use mathlib.Core.Path.{◌≡◌, refl, sym, ap, ◌∙◌}
use mathlib.Core.List.{List, [], ◌∷◌}
use native.Mathlib.Omega.{arith}
use lib.ListN.{length}
use Rattle.rules.specs.Expansion.{Compat}
use Rattle.rules.specs.Answers.{refused, reading, reading_outcome}
use Rattle.rules.specs.Plainform.{newline, spell_refusal}
use Rattle.rules.specs.Admits.{unless_refused, refused_range, verdict_room}
use Rattle.rows.specs.Put.{Put}
use Rattle.rows.proofs.Puts.{put_then, put_same}
use Rattle.std.specs.Prelude.{Ok, Err}
use Rattle.refusals.specs.Views.{number_of}
use Rattle.refusals.specs.declared.Refusal.{Refusal}
use Rattle.rangeset.specs.Views.{outcome_of}
use Rattle.rangeset.specs.declared.Counts.{Counts}
use Rattle.rangeset.proofs.Outcomes.{counted-reading, refused-reading}
use Rattle.verdicts.proofs.Answering.{refusal-short}

-- ---- parse_or_put

module _ (m : Compat) (s l : List ℕ) where
  pub accepted-put : (c : Counts) → outcome_of (Ok c) ≡ reading_outcome (reading m s) → Put l 0 (refused_range m s) l 0
  unfolding refused_range
  accepted-put c e =
      let d = counted-reading m s c e in
      rw (ap (λ a. unless_refused a []) d.is) (record { stored = refl; place = refl })

  module _ (x : Refusal) (e : outcome_of (Err x) ≡ reading_outcome (reading m s)) (n : ℕ) (f : n ≡ number_of x) where
    refuses : reading m s ≡ refused n
    refuses = refused-reading m s x e ∙ ap refused (sym f)

    short : length (spell_refusal n) ≤ 10
    short = rw f (refusal-short x)

    module _ (h : verdict_room ≤ length l) where
      pub number-room : 0 + length (spell_refusal n) ≤ length l
      number-room = omega (arith, short)

      module _ (k : List ℕ) (i : ℕ) (p : Put l 0 (spell_refusal n) k i) where
        pub newline-room : i + 1 ≤ length k
        newline-room = omega (arith, short, put_same p, p.place)

        module _ (y : List ℕ) (j : ℕ) (b : Put k i (newline ∷ []) y j) where
          pub refused-put : Put l 0 (refused_range m s) y j
          unfolding refused_range
          refused-put = rw (ap (λ a. unless_refused a []) refuses) (put_then p b)

          pub refused-within : j ≤ length y
          refused-within = omega (arith, short, put_same p, p.place, put_same b, b.place)

          pub refused-some : 0 < j
          refused-some = omega (arith, p.place, b.place)

pub ruleset ranges = (accepted-put, number-room, newline-room, refused-put, refused-within, refused-some)
