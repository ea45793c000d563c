-- Precedence is a total order of versions, and equal exactly where the versions are equal but for the places of identifiers. One law for each
-- way in which an order is made of others.
-- Assumes nothing.
use mathlib.Core.Path.{◌≡◌, refl, sym, ap, ap₂, ◌∙◌}
use mathlib.Core.Logic.{◌↔◌, ◌⊎◌, inl, inr}
use Prim.Native.Nat.{ℕ, ◌≤◌, ◌<◌}
use native.Mathlib.Omega.{arith}
use mathlib.Core.Bool.{Bool, true, false}
use mathlib.Core.List.{List, [], ◌∷◌, map}
use lib.Dec.{ltb, eqb}
use borrow.Author.Tests.{ltb-true, ltb-false, eqb-true, eqb-false, lt-ltb, le-ltb, eq-eqb, ne_eqb}
use lib.ListN.{length}
use Rattle.rules.specs.Lists.{each}
use Rattle.rules.specs.Bytes.{pick, is_digit}
use Rattle.rules.specs.Syntax.{Identifier, number, text}
use Rattle.rules.specs.Rows.{placeless}
use Rattle.rules.specs.Version.{Version, version, placeless_version}
use Rattle.rules.specs.Precedence.{Order, less, equal, greater, ◌or_else◌, lexicographic, compare_numbers, compare_bytes, compare_digits, compare_texts, compare_identifiers, compare_prereleases, precedence}

-- ---- orders

-- how the second of two stands to the first, by how the first stands to the second
pub data Turned : Order → Order → Type 0 where
  less-turned : Turned less greater
  equal-turned : Turned equal equal
  greater-turned : Turned greater less

-- how the first of three may stand to the third, by how the first stands to the second and the second to the third
pub data Chain : Order → Order → Order → Type 0 where
  equal-first : {y : Order} → Chain equal y y
  equal-second : {x : Order} → Chain x equal x
  less-less : Chain less less less
  greater-greater : Chain greater greater greater
  less-greater : {z : Order} → Chain less greater z
  greater-less : {z : Order} → Chain greater less z

-- a total order, equal exactly where the keys are
pub record Ordered {A : Type 0} (key : A → A) (f : A → A → Order) : Type 0 where
  pub turned : (a b : A) → Turned (f a b) (f b a)
  pub chained : (a b c : A) → Chain (f a b) (f b c) (f a c)
  pub same : (a b : A) → f a b ≡ equal → key a ≡ key b
  pub keyed : (a b : A) → f a (key b) ≡ f a b

module _ {A : Type 0} {key : A → A} {f : A → A → Order} (h : Ordered key f) where
  pub reflexive : (a : A) → f a a ≡ equal
  reflexive a = go (h.turned a a)
    where
      go : {x : Order} → Turned x x → x ≡ equal
      go equal-turned = refl

  pub turned-less : (a b : A) → (f a b ≡ less) ↔ (f b a ≡ greater)
  turned-less a b = (λ e. go (rw e at (h.turned a b)), λ e. back (rw e at (h.turned a b)))
    where
      go : {x : Order} → Turned less x → x ≡ greater
      go less-turned = refl

      back : {x : Order} → Turned x greater → x ≡ less
      back less-turned = refl

  pub equal-same : (a b : A) → (f a b ≡ equal) ↔ (key a ≡ key b)
  equal-same a b = (h.same a b, λ e. sym (h.keyed a b) ∙ ap (f a) (sym e) ∙ h.keyed a a ∙ reflexive a)

  pub transitive : (a b c : A) → f a b ≡ less → f b c ≡ less → f a c ≡ less
  transitive a b c p q = go (rw (p, q) at (h.chained a b c))
    where
      go : {z : Order} → Chain less less z → z ≡ less
      go less-less = refl

  pub trichotomy : (a b : A) → (f a b ≡ less) ⊎ ((key a ≡ key b) ⊎ (f b a ≡ less))
  trichotomy a b = go (h.turned a b) refl refl
    where
      go : {x y : Order} → Turned x y → f a b ≡ x → f b a ≡ y → (f a b ≡ less) ⊎ ((key a ≡ key b) ⊎ (f b a ≡ less))
      go less-turned e q = inl e
      go equal-turned e q = inr (inl (h.same a b e))
      go greater-turned e q = inr (inr q)

-- ---- the first difference

or_else-turned : {x y x' y' : Order} → Turned x x' → Turned y y' → Turned (x or_else y) (x' or_else y')
unfolding ◌or_else◌
or_else-turned less-turned k = less-turned
or_else-turned equal-turned k = k
or_else-turned greater-turned k = greater-turned

chain-less : (x : Order) → Chain x less less
chain-less less = less-less
chain-less equal = equal-first
chain-less greater = greater-less

chain-greater : (x : Order) → Chain x greater greater
chain-greater less = less-greater
chain-greater equal = equal-first
chain-greater greater = greater-greater

less-chain : (y : Order) → Chain less y less
less-chain less = less-less
less-chain equal = equal-second
less-chain greater = less-greater

greater-chain : (y : Order) → Chain greater y greater
greater-chain less = greater-less
greater-chain equal = equal-second
greater-chain greater = greater-greater

or_else-chain : {x y z x' y' z' : Order} → Chain x y z → Chain x' y' z' → Chain (x or_else x') (y or_else y') (z or_else z')
unfolding ◌or_else◌
or_else-chain {x'} (equal-first {y = less}) k = chain-less x'
or_else-chain (equal-first {y = equal}) k = k
or_else-chain {x'} (equal-first {y = greater}) k = chain-greater x'
or_else-chain {y'} (equal-second {x = less}) k = less-chain y'
or_else-chain (equal-second {x = equal}) k = k
or_else-chain {y'} (equal-second {x = greater}) k = greater-chain y'
or_else-chain less-less k = less-less
or_else-chain greater-greater k = greater-greater
or_else-chain less-greater k = less-greater
or_else-chain greater-less k = greater-less

or_else-equal : (x y : Order) → (x or_else y) ≡ equal → (x ≡ equal) × (y ≡ equal)
unfolding ◌or_else◌
or_else-equal less y e = (e, cc)
or_else-equal equal y e = (refl, e)
or_else-equal greater y e = (e, cc)

-- ---- lists

module _ {A : Type 0} {key : A → A} {f : A → A → Order} (h : Ordered key f) where
  lexicographic-turned : (k l : List A) → Turned (lexicographic f k l) (lexicographic f l k)
  unfolding lexicographic
  lexicographic-turned [] [] = equal-turned
  lexicographic-turned [] (b ∷ l) = less-turned
  lexicographic-turned (a ∷ k) [] = greater-turned
  lexicographic-turned (a ∷ k) (b ∷ l) = or_else-turned (h.turned a b) (lexicographic-turned k l)

  lexicographic-chained : (j k l : List A) → Chain (lexicographic f j k) (lexicographic f k l) (lexicographic f j l)
  unfolding lexicographic
  lexicographic-chained [] [] l = equal-first
  lexicographic-chained [] (b ∷ k) [] = less-greater
  lexicographic-chained [] (b ∷ k) (c ∷ l) = less-chain _
  lexicographic-chained (a ∷ j) [] [] = equal-second
  lexicographic-chained (a ∷ j) [] (c ∷ l) = greater-less
  lexicographic-chained (a ∷ j) (b ∷ k) [] = chain-greater _
  lexicographic-chained (a ∷ j) (b ∷ k) (c ∷ l) = or_else-chain (h.chained a b c) (lexicographic-chained j k l)

  lexicographic-same : (k l : List A) → lexicographic f k l ≡ equal → map key k ≡ map key l
  unfolding lexicographic
  lexicographic-same [] [] e = refl
  lexicographic-same [] (b ∷ l) e = cc
  lexicographic-same (a ∷ k) [] e = cc
  lexicographic-same (a ∷ k) (b ∷ l) e =
      let (x, y) = or_else-equal (f a b) (lexicographic f k l) e in ap₂ (λ c m. c ∷ m) (h.same a b x) (lexicographic-same k l y)

  lexicographic-keyed : (k l : List A) → lexicographic f k (map key l) ≡ lexicographic f k l
  unfolding lexicographic
  lexicographic-keyed [] [] = refl
  lexicographic-keyed [] (b ∷ l) = refl
  lexicographic-keyed (a ∷ k) [] = refl
  lexicographic-keyed (a ∷ k) (b ∷ l) = ap₂ ◌or_else◌ (h.keyed a b) (lexicographic-keyed k l)

  pub lexicographic-ordered : Ordered (map key) (lexicographic f)
  lexicographic-ordered = record { turned = lexicographic-turned; chained = lexicographic-chained; same = lexicographic-same; keyed = lexicographic-keyed }

-- ---- numbers

pub data Stands (a b : ℕ) : Order → Type 0 where
  below : a < b → Stands a b less
  level : a ≡ b → Stands a b equal
  above : b < a → Stands a b greater

pub numbers-stand : (a b : ℕ) → Stands a b (compare_numbers a b)
unfolding compare_numbers
numbers-stand a b = first (ltb a b) refl
  where
    second : (t : Bool) → b ≤ a → eqb a b ≡ t → Stands a b (pick t equal greater)
    second true h e = level (eqb-true a b e)
    second false h e = let n = eqb-false a b e in above (omega arith)

    first : (t : Bool) → ltb a b ≡ t → Stands a b (pick t less (pick (eqb a b) equal greater))
    first true e = below (ltb-true a b e)
    first false e = second (eqb a b) (ltb-false a b e) refl

pub stand-numbers : {a b : ℕ} {x : Order} → Stands a b x → compare_numbers a b ≡ x
unfolding compare_numbers
stand-numbers {a} {b} (below h) = rw (lt-ltb a b h)
stand-numbers {a} {b} (level e) = rw (le-ltb a b (omega arith), eq-eqb a b e)
stand-numbers {a} {b} (above h) = rw (le-ltb a b (omega arith), ne_eqb a b (λ e. omega arith))

numbers-turned : (a b : ℕ) → Turned (compare_numbers a b) (compare_numbers b a)
numbers-turned a b = go (numbers-stand a b)
  where
    go : {x : Order} → Stands a b x → Turned x (compare_numbers b a)
    go (below h) = rw (stand-numbers (above h)) less-turned
    go (level e) = rw (stand-numbers (level (sym e))) equal-turned
    go (above h) = rw (stand-numbers (below h)) greater-turned

numbers-chained : (a b c : ℕ) → Chain (compare_numbers a b) (compare_numbers b c) (compare_numbers a c)
numbers-chained a b c = go (numbers-stand a b) (numbers-stand b c)
  where
    go : {x y : Order} → Stands a b x → Stands b c y → Chain x y (compare_numbers a c)
    go (level e) k = rw (e, stand-numbers k) equal-first
    go (below h) (level e) = rw (← e, stand-numbers (below h)) equal-second
    go (below h) (below k) = rw (stand-numbers {a = a} {b = c} (below (omega arith))) less-less
    go (below h) (above k) = less-greater
    go (above h) (level e) = rw (← e, stand-numbers (above h)) equal-second
    go (above h) (below k) = greater-less
    go (above h) (above k) = rw (stand-numbers {a = a} {b = c} (above (omega arith))) greater-greater

numbers-same : (a b : ℕ) → compare_numbers a b ≡ equal → a ≡ b
numbers-same a b e = go (rw e at (numbers-stand a b))
  where
    go : Stands a b equal → a ≡ b
    go (level e) = e

pub numbers-ordered : Ordered (λ n. n) compare_numbers
numbers-ordered = record { turned = numbers-turned; chained = numbers-chained; same = numbers-same; keyed = λ a b. refl }

-- ---- by a number first, and then by another order

module _ {A : Type 0} {key : A → A} {f : A → A → Order} (g : A → ℕ) (h : Ordered key f) (k : (a : A) → g (key a) ≡ g a) where
  number-first : Ordered key (λ a b. compare_numbers (g a) (g b) or_else f a b)
  number-first =
      record {
        turned = λ a b. or_else-turned (numbers-turned (g a) (g b)) (h.turned a b);
        chained = λ a b c. or_else-chain (numbers-chained (g a) (g b) (g c)) (h.chained a b c);
        same = λ a b e. h.same a b (or_else-equal (compare_numbers (g a) (g b)) (f a b) e).1;
        keyed = λ a b. ap₂ (λ n o. compare_numbers (g a) n or_else o) (k b) (h.keyed a b);
      }

-- ---- those that pass a test by one order, and below the others, which have an order of their own

module _ {A : Type 0} {key : A → A} {f g : A → A → Order} (p : A → Bool) (h : Ordered key f) (k : Ordered key g) (q : (a : A) → p (key a) ≡ p a) where
  abbrev by : Bool → Bool → A → A → Order
  by x y a b = pick x (pick y (f a b) less) (pick y greater (g a b))

  by_turned : (x y : Bool) (a b : A) → Turned (by x y a b) (by y x b a)
  by_turned true true a b = h.turned a b
  by_turned true false a b = less-turned
  by_turned false true a b = greater-turned
  by_turned false false a b = k.turned a b

  by-chained : (x y z : Bool) (a b c : A) → Chain (by x y a b) (by y z b c) (by x z a c)
  by-chained true true true a b c = h.chained a b c
  by-chained true true false a b c = chain-less _
  by-chained true false true a b c = less-greater
  by-chained true false false a b c = less-chain _
  by-chained false true true a b c = greater-chain _
  by-chained false true false a b c = greater-less
  by-chained false false true a b c = chain-greater _
  by-chained false false false a b c = k.chained a b c

  by-same : (x y : Bool) (a b : A) → by x y a b ≡ equal → key a ≡ key b
  by-same true true a b e = h.same a b e
  by-same true false a b e = cc
  by-same false true a b e = cc
  by-same false false a b e = k.same a b e

  by-keyed : (x y : Bool) (a b : A) → by x y a (key b) ≡ by x y a b
  by-keyed true true a b = h.keyed a b
  by-keyed true false a b = refl
  by-keyed false true a b = refl
  by-keyed false false a b = k.keyed a b

  tested-first : Ordered key (λ a b. by (p a) (p b) a b)
  tested-first =
      record {
        turned = λ a b. by_turned (p a) (p b) a b;
        chained = λ a b c. by-chained (p a) (p b) (p c) a b c;
        same = λ a b. by-same (p a) (p b) a b;
        keyed = λ a b. ap (λ y. by (p a) y a (key b)) (q b) ∙ by-keyed (p a) (p b) a b;
      }

-- ---- identifiers

map-self : (w : List ℕ) → map (λ n. n) w ≡ w
map-self [] = refl
map-self (c ∷ w) = ap (◌∷◌ c) (map-self w)

bytes-ordered : Ordered (map (λ n. n)) compare_bytes
unfolding compare_bytes
bytes-ordered = lexicographic-ordered numbers-ordered

digits-ordered : Ordered (map (λ n. n)) compare_digits
unfolding compare_digits
digits-ordered = number-first length bytes-ordered (λ w. ap length (map-self w))

texts-ordered : Ordered (map (λ n. n)) compare_texts
unfolding compare_texts
texts-ordered = tested-first (each is_digit) digits-ordered bytes-ordered (λ w. ap (each is_digit) (map-self w))

identifiers-turned : (i j : Identifier) → Turned (compare_identifiers i j) (compare_identifiers j i)
unfolding compare_identifiers
identifiers-turned (number a) (number b) = numbers-turned a b
identifiers-turned (number a) (text left w) = less-turned
identifiers-turned (text left w) (number b) = greater-turned
identifiers-turned (text left w) (text left' w') = texts-ordered.turned w w'

identifiers-chained : (i j k : Identifier) → Chain (compare_identifiers i j) (compare_identifiers j k) (compare_identifiers i k)
unfolding compare_identifiers
identifiers-chained (number a) (number b) (number c) = numbers-chained a b c
identifiers-chained (number a) (number b) (text left w) = chain-less _
identifiers-chained (number a) (text left w) (number c) = less-greater
identifiers-chained (number a) (text left w) (text left' w') = less-chain _
identifiers-chained (text left w) (number b) (number c) = greater-chain _
identifiers-chained (text left w) (number b) (text left' w') = greater-less
identifiers-chained (text left w) (text left' w') (number c) = chain-greater _
identifiers-chained (text left w) (text left' w') (text left'' w'') = texts-ordered.chained w w' w''

identifiers-same : (i j : Identifier) → compare_identifiers i j ≡ equal → placeless i ≡ placeless j
unfolding compare_identifiers placeless
identifiers-same (number a) (number b) e = ap number (numbers-same a b e)
identifiers-same (number a) (text left w) e = cc
identifiers-same (text left w) (number b) e = cc
identifiers-same (text left w) (text left' w') e = ap (text 0) (sym (map-self w) ∙ texts-ordered.same w w' e ∙ map-self w')

identifiers-keyed : (i j : Identifier) → compare_identifiers i (placeless j) ≡ compare_identifiers i j
unfolding compare_identifiers placeless
identifiers-keyed (number a) (number b) = refl
identifiers-keyed (number a) (text left w) = refl
identifiers-keyed (text left w) (number b) = refl
identifiers-keyed (text left w) (text left' w') = refl

pub identifiers-ordered : Ordered placeless compare_identifiers
identifiers-ordered = record { turned = identifiers-turned; chained = identifiers-chained; same = identifiers-same; keyed = identifiers-keyed }

-- ---- prereleases

series-ordered : Ordered (map placeless) (lexicographic compare_identifiers)
series-ordered = lexicographic-ordered identifiers-ordered

prereleases-turned : (is js : List Identifier) → Turned (compare_prereleases is js) (compare_prereleases js is)
unfolding compare_prereleases
prereleases-turned [] [] = equal-turned
prereleases-turned [] (j ∷ js) = greater-turned
prereleases-turned (i ∷ is) [] = less-turned
prereleases-turned (i ∷ is) (j ∷ js) = series-ordered.turned (i ∷ is) (j ∷ js)

prereleases-chained : (is js ks : List Identifier) → Chain (compare_prereleases is js) (compare_prereleases js ks) (compare_prereleases is ks)
unfolding compare_prereleases
prereleases-chained [] [] ks = equal-first
prereleases-chained [] (j ∷ js) [] = greater-less
prereleases-chained [] (j ∷ js) (k ∷ ks) = greater-chain _
prereleases-chained (i ∷ is) [] [] = equal-second
prereleases-chained (i ∷ is) [] (k ∷ ks) = less-greater
prereleases-chained (i ∷ is) (j ∷ js) [] = chain-less _
prereleases-chained (i ∷ is) (j ∷ js) (k ∷ ks) = series-ordered.chained (i ∷ is) (j ∷ js) (k ∷ ks)

prereleases-same : (is js : List Identifier) → compare_prereleases is js ≡ equal → map placeless is ≡ map placeless js
unfolding compare_prereleases
prereleases-same [] [] e = refl
prereleases-same [] (j ∷ js) e = cc
prereleases-same (i ∷ is) [] e = cc
prereleases-same (i ∷ is) (j ∷ js) e = series-ordered.same (i ∷ is) (j ∷ js) e

prereleases-keyed : (is js : List Identifier) → compare_prereleases is (map placeless js) ≡ compare_prereleases is js
unfolding compare_prereleases
prereleases-keyed [] [] = refl
prereleases-keyed [] (j ∷ js) = refl
prereleases-keyed (i ∷ is) [] = refl
prereleases-keyed (i ∷ is) (j ∷ js) = series-ordered.keyed (i ∷ is) (j ∷ js)

-- ---- versions

versions-turned : (v w : Version) → Turned (precedence v w) (precedence w v)
unfolding precedence
versions-turned (version a b c is) (version a' b' c' is') =
    or_else-turned (numbers-turned a a') (or_else-turned (numbers-turned b b') (or_else-turned (numbers-turned c c') (prereleases-turned is is')))

versions-chained : (u v w : Version) → Chain (precedence u v) (precedence v w) (precedence u w)
unfolding precedence
versions-chained (version a b c is) (version a' b' c' is') (version a'' b'' c'' is'') =
    or_else-chain (numbers-chained a a' a'') (or_else-chain (numbers-chained b b' b'') (or_else-chain (numbers-chained c c' c'') (prereleases-chained is is' is'')))

versions-same : (v w : Version) → precedence v w ≡ equal → placeless_version v ≡ placeless_version w
unfolding precedence placeless_version
versions-same (version a b c is) (version a' b' c' is') e =
    let (x, p) = or_else-equal (compare_numbers a a') _ e in
    let (y, q) = or_else-equal (compare_numbers b b') _ p in
    let (z, r) = or_else-equal (compare_numbers c c') _ q in
    rw (numbers-same a a' x, numbers-same b b' y, numbers-same c c' z, prereleases-same is is' r)

versions-keyed : (v w : Version) → precedence v (placeless_version w) ≡ precedence v w
unfolding precedence placeless_version
versions-keyed (version a b c is) (version a' b' c' is') = rw (prereleases-keyed is is')

pub precedence-ordered : Ordered placeless_version precedence
precedence-ordered = record { turned = versions-turned; chained = versions-chained; same = versions-same; keyed = versions-keyed }
