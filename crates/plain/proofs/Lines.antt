-- The writers of the mode, of a line and of the lines, and the program: a law for each of their ways.
-- Assumes nothing.
use Prim.Native.Nat.{ℕ, ◌+◌, ◌<◌, ◌≤◌}
use mathlib.Core.Path.{◌≡◌}
use mathlib.Core.List.{List, [], ◌∷◌}
use native.Mathlib.Omega.{arith}
use borrow.Author.Tests.{le-leb, lt-leb}
use lib.ListN.{length, length-append}
use Rattle.rules.specs.Bytes.{bytes}
use Rattle.rules.specs.Expansion as E
use Rattle.rules.specs.Answers.{normal_text}
use Rattle.rules.specs.Plainform.{newline, without_newline, mode_letters, spell_answer, mode_line, mode_lines, longest_input, room, answer_lines, plainform}
use Rattle.rules.proofs.PlainformLaws.{lines-room}
use Rattle.range.specs.Views.{compat_of}
use Rattle.range.specs.declared.Compat.{Compat}
use Rattle.rows.specs.Put.{Put}
use Rattle.rows.proofs.Puts.{put_then, put_same}

-- ---- put_mode

module _ (m : Compat) where
  module _ (e : m ≡ Compat.Cargo) where
    pub cargo-room : (n at : ℕ) → at + length (mode_letters (compat_of m)) ≤ n → at + 6 ≤ n
    cargo-room n at h = rw e at h

    pub cargo-put : (l k : List ℕ) (at n : ℕ) → Put l at (bytes "cargo ") k n → Put l at (mode_letters (compat_of m)) k n
    cargo-put l k at n p = rw e p

  module _ (e : m ≡ Compat.Npm) where
    pub npm-room : (n at : ℕ) → at + length (mode_letters (compat_of m)) ≤ n → at + 4 ≤ n
    npm-room n at h = rw e at h

    pub npm-put : (l k : List ℕ) (at n : ℕ) → Put l at (bytes "npm ") k n → Put l at (mode_letters (compat_of m)) k n
    npm-put l k at n p = rw e p

pub ruleset modes = (cargo-room, cargo-put, npm-room, npm-put)

-- ---- put_line

module _ (m : E.Compat) (t l : List ℕ) (at : ℕ) (h : at + length (mode_line m t) ≤ length l) where
  line-length : length (mode_line m t) ≡ length (mode_letters m) + (length (spell_answer (normal_text m t)) + 1)
  unfolding mode_line
  line-length = simp length-append

  pub mode-room : at + length (mode_letters m) ≤ length l
  mode-room = omega (arith, line-length)

  module _ (k : List ℕ) (i : ℕ) (p : Put l at (mode_letters m) k i) where
    pub answer-room : i + length (spell_answer (normal_text m t)) ≤ length k
    answer-room = omega (arith, line-length, put_same p, p.place)

    module _ (y : List ℕ) (j : ℕ) (q : Put k i (spell_answer (normal_text m t)) y j) where
      pub end-room : j + 1 ≤ length y
      end-room = omega (arith, line-length, put_same p, p.place, put_same q, q.place)

      pub line-put : (z : List ℕ) (n : ℕ) → Put y j (newline ∷ []) z n → Put l at (mode_line m t) z n
      unfolding mode_line
      line-put z n r = put_then p (put_then q r)

pub ruleset lines = (mode-room, answer-room, end-room, line-put)

-- ---- put_lines

module _ (t l : List ℕ) (h : length (mode_lines t) ≤ length l) where
  lines-length : length (mode_lines t) ≡ length (mode_line E.cargo t) + length (mode_line E.npm t)
  unfolding mode_lines
  lines-length = length-append (mode_line E.cargo t) (mode_line E.npm t)

  pub first-room : 0 + length (mode_line E.cargo t) ≤ length l
  first-room = omega (arith, lines-length)

  module _ (k : List ℕ) (i : ℕ) (p : Put l 0 (mode_line E.cargo t) k i) where
    pub second-room : i + length (mode_line E.npm t) ≤ length k
    second-room = omega (arith, lines-length, put_same p, p.place)

    pub lines-put : (y : List ℕ) (j : ℕ) → Put k i (mode_line E.npm t) y j → Put l 0 (mode_lines t) y j
    unfolding mode_lines
    lines-put y j q = put_then p q

pub ruleset both_lines = (first-room, second-room, lines-put)

-- ---- plainform

module _ (s t l : List ℕ) (e : t ≡ without_newline s) where
  module _ (y : List ℕ) (k : ℕ) (p : Put l 0 (bytes "too long\n") y k) where
    pub long-put : longest_input < length t → Put l 0 (plainform s) y k
    unfolding plainform answer_lines
    long-put h = rw (← e, lt-leb (length t) longest_input h) p

  module _ (h : length t ≤ longest_input) where
    pub short-room : room ≤ length l → length (mode_lines t) ≤ length l
    short-room r = omega (arith, lines-room t h)

    module _ (y : List ℕ) (k : ℕ) (p : Put l 0 (mode_lines t) y k) where
      pub short-put : Put l 0 (plainform s) y k
      unfolding plainform answer_lines
      short-put = rw (← e, le-leb (length t) longest_input h) p

pub ruleset programs = (long-put, short-room, short-put)
