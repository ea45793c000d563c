-- Equal readings admit the same versions, so a normal text admits what its text admits.
-- Assumes nothing.
use mathlib.Core.Path.{◌≡◌, refl, sym, ap, ap₂, ◌∙◌}
use Prim.Native.Nat.{ℕ, ◌≤◌}
use mathlib.Core.Bool.{Bool, ◌||◌}
use mathlib.Core.List.{List, [], ◌∷◌, map}
use lib.ListN.{length}
use Rattle.rules.specs.Lists.{some_of}
use Rattle.rules.specs.Expansion.{Compat, Comparator, comparator, Reading}
use Rattle.rules.specs.Rows.{placeless_comparator, placeless_reading}
use Rattle.rules.specs.NormalText.{spell}
use Rattle.rules.specs.Answers.{Answer, accepted, refused, longest, map_answer, reading}
use Rattle.rules.specs.Version.{Version, version, placeless_version}
use Rattle.rules.specs.Admission.{holds, meets, admits, version_of, admission_call}
use Rattle.rules.proofs.Pairwise.{each_map}
use Rattle.rules.proofs.RoundTrip.{round_trip}
use Rattle.rules.proofs.PrecedenceLaws.{precedence-ordered}

some_of-map : {A B : Type 0} (p : B → Bool) (q : A → Bool) (f : A → B) → ((a : A) → p (f a) ≡ q a) → (l : List A) → some_of p (map f l) ≡ some_of q l
some_of-map p q f h [] = refl
some_of-map p q f h (a ∷ l) = ap₂ ◌||◌ (h a) (some_of-map p q f h l)

meets-placeless : (v : Version) (c : Comparator) → meets v (placeless_comparator c) ≡ meets v c
unfolding meets placeless_comparator placeless_version
meets-placeless v (comparator o a b c is) = ap (holds o) (precedence-ordered.keyed v (version a b c is))

admits-placeless : (rs : Reading) (v : Version) → admits (placeless_reading rs) v ≡ admits rs v
unfolding admits placeless_reading
admits-placeless rs v = some_of-map _ _ _ (each_map _ _ _ (meets-placeless v)) rs

pub admits-same : (rs ss : Reading) → placeless_reading rs ≡ placeless_reading ss → (v : Version) → admits rs v ≡ admits ss v
admits-same rs ss e v = sym (admits-placeless rs v) ∙ ap (λ rs. admits rs v) e ∙ admits-placeless ss v

-- two accepted texts, each under a mode
admission-same : (m m' : Compat) (t t' s : List ℕ) (rs ss : Reading) → reading m t ≡ accepted rs → reading m' t' ≡ accepted ss
    → placeless_reading rs ≡ placeless_reading ss → admission_call m t s ≡ admission_call m' t' s
unfolding admission_call
admission-same m m' t t' s rs ss p q e = rw (p, q) (go (version_of s))
  where
    go : (a : Answer Version) → map_answer (admits rs) a ≡ map_answer (admits ss) a
    go (refused n) = refl
    go (accepted v) = ap accepted (admits-same rs ss e v)

-- the normal text, if it is no longer than 65,535 bytes, under every mode
pub admission-normal : (m m' : Compat) (t s : List ℕ) (rs : Reading) → reading m t ≡ accepted rs → length (spell rs) ≤ longest
    → admission_call m' (spell rs) s ≡ admission_call m t s
admission-normal m m' t s rs e l = let x = round_trip m m' t rs e l in admission-same m' m (spell rs) t s x.0 rs x.1 e x.2
