-- A text that has a reading holds bytes below 80 hexadecimal only.
-- Assumes nothing.
use mathlib.Core.Path.{◌≡◌, refl, ap, ◌∙◌}
use Prim.Native.Nat.{ℕ, ◌+◌, ◌/◌, ◌%◌, ◌<◌}
use native.Mathlib.Omega.{arith}
use mathlib.Core.Bool.{Bool, true, false, ◌&&◌}
use mathlib.Core.List.{List, [], ◌∷◌}
use lib.Dec.{leb}
use borrow.Author.Tests.{le-leb, lt-leb}
use Rattle.rules.specs.Lists.{each, All, all[], all∷}
use Rattle.rules.specs.Bytes.{pick}
use Rattle.rules.specs.Syntax.{Range}
use Rattle.rules.specs.Grammar.{ReadsText}
use Rattle.rules.proofs.Follows.{both}
use Rattle.rules.proofs.HighBytes.{Low, text-low}
use Rattle.reference.specs.Utf8.{encode, utf8}
use Rattle.reference.proofs.Lexed.{none-and}
use Rattle.reference.proofs.Ranges.{each_append}

abbrev pub ascii : ℕ → Bool
ascii c = leb c 127

abbrev pub Ascii : List ℕ → Type 0
Ascii s = each ascii s ≡ true

-- ---- what is read

and-ascii : (a b : Bool) → a ≡ true → b ≡ true → (a && b) ≡ true
and-ascii true b e h = h
and-ascii false b e h = e

low-ascii : (s : List ℕ) → All Low s → Ascii s
low-ascii [] all[] = refl
low-ascii (c ∷ s) (all∷ h l) = and-ascii (ascii c) (each ascii s) (le-leb c 127 (omega arith)) (low-ascii s l)

pub text-ascii : {s : List ℕ} {l : List Range} → ReadsText s l → Ascii s
text-ascii {s} d = low-ascii s (text-low d)

-- ---- UTF-8

encode_ascii : (c : ℕ) → ascii c ≡ true → encode c ≡ c ∷ []
unfolding encode
encode_ascii c e = rw e refl

above : (a x : ℕ) → 127 < a → ascii (a + x) ≡ false
above a x h = lt-leb (a + x) 127 (omega arith)

encode-other : (c : ℕ) → ascii c ≡ false → each ascii (encode c) ≡ false
unfolding encode
encode-other c e = rw e (go (leb c 0x7FF) (leb c 0xFFFF))
  where
    go : (x y : Bool) → each ascii (pick x ((0xC0 + c / 64) ∷ (0x80 + c % 64) ∷ []) (pick y ((0xE0 + c / 4096) ∷ (0x80 + c / 64 % 64) ∷ (0x80 + c % 64) ∷ [])
        ((0xF0 + c / 262144) ∷ (0x80 + c / 4096 % 64) ∷ (0x80 + c / 64 % 64) ∷ (0x80 + c % 64) ∷ []))) ≡ false
    go true y = rw (above 0xC0 (c / 64) (omega arith)) refl
    go false true = rw (above 0xE0 (c / 4096) (omega arith)) refl
    go false false = rw (above 0xF0 (c / 262144) (omega arith)) refl

pub utf8-ascii : (s : List ℕ) → Ascii s → utf8 s ≡ s
unfolding utf8
utf8-ascii [] h = refl
utf8-ascii (c ∷ s) h = let x = both (ascii c) (each ascii s) h in rw (encode_ascii c x.0) (ap (c ∷◌) (utf8-ascii s x.1))

pub utf8-other : (s : List ℕ) → each ascii s ≡ false → each ascii (utf8 s) ≡ false
unfolding utf8
utf8-other [] h = h
utf8-other (c ∷ s) h = each_append ascii (encode c) (utf8 s) ∙ go (ascii c) refl h (utf8-other s)
  where
    go : (b : Bool) → ascii c ≡ b → (b && each ascii s) ≡ false → (each ascii s ≡ false → each ascii (utf8 s) ≡ false) → (each ascii (encode c) && each ascii (utf8 s)) ≡ false
    go true e h rec = rw (rec h) (none-and (each ascii (encode c)))
    go false e h rec = ap (λ b. b && each ascii (utf8 s)) (encode-other c e)
