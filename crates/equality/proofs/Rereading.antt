-- A normal text that is read again: a law for each way out, and that the reading is restored.
-- Assumes nothing.
use Prim.Native.Nat.{ℕ, ◌*◌, ◌/◌, ◌<◌, ◌≤◌}
use mathlib.Core.Path.{◌≡◌, refl, sym, ap, ap₂, ◌∙◌}
use mathlib.Core.List.{List}
use native.Mathlib.Omega.{arith}
use lib.ListN.{length, take}
use Rattle.rules.specs.Expansion as E
use Rattle.rules.specs.Expansion.{Compat}
use Rattle.rules.specs.NormalText.{spell}
use Rattle.rules.specs.Rows.{comparator_width, placeless_reading}
use Rattle.rules.specs.Answers.{Answer, accepted, refused, longest, reading, comparator_rows, identifier_rows, reading_call, reading_outcome, written, comparator_words_after, identifier_words_after, normal_text, normal_text_call, normal_text_outcome, bytes_after}
use Rattle.rules.specs.Equality.{Reread, reread, text_refused, normal_refused, read_again, then_read, reread_call, neither, the_text, its_normal_text, reread_outcome, reread_bytes_after, reread_comparators_after, reread_identifiers_after, Restores}
use Rattle.rules.proofs.RoundTrip.{round_trip}
use Rattle.rules.proofs.ReadingCall.{reading-1, call-refused, call-accepts}
use Rattle.rules.proofs.NormalTextCall.{normal-refused, normal-accepts}
use Rattle.rules.proofs.Equal.{placeless-comparators, placeless-identifiers, same-counts}
use Rattle.rules.proofs.HandedBack.{start, handed-rows}
use Rattle.refusals.specs.Views.{number_of}
use Rattle.rangeset.specs.Views.{outcome_of}
use Rattle.rangeset.specs.declared.Counts.{Counts}
use Rattle.std.specs.Prelude.{Result, Ok, Err, IfOk, MatchResult, IsErrAnd}
use Rattle.reading.specs.Views.{CallsAnswer}
use Rattle.std.proofs.lemmas.Result.{err_from_is_err_and}
use Rattle.refusals.specs.declared.Refusal.{Refusal}
use Rattle.refusals.specs.declared.Refusal.TheVariants as Refusals
use Rattle.rangeset.proofs.Outcomes.{Counted, counted-reading, refused-reading, refusal-number}
use Rattle.normal_text.specs.Views.{length_of}
use Rattle.normal_text.proofs.Calls.{Writes, written-call, refused-call}
use Rattle.equality.specs.Views.{Fits, counts_of, reread_of, Decides}
use Rattle.equality.specs.declared.RereadError.{RereadError}
use Rattle.equality.specs.declared.RereadError.TheVariants as W
use Rattle.equality.proofs.Fitting.{fitting, part-within, part-is, part_length, call_fits}

refused-is : (a : Answer E.Reading) (y : Refusal) → outcome_of (Err y) ≡ reading_outcome a → a ≡ refused (number_of y)
unfolding reading_outcome
refused-is (accepted rs) y e = absurd (refusal-number y (ap (λ x. x.refusal) e))
refused-is (refused n) y e = ap refused (sym (ap (λ x. x.refusal) e))

-- ---- the call by its parts

module _ (m m' : Compat) (s : List ℕ) (lent cw iw : ℕ) where
  text-refused : (n : ℕ) → normal_text_call m s lent ≡ refused n → reread_call m m' s lent cw iw ≡ text_refused n
  unfolding reread_call then_read
  text-refused n e = rw (reread_call, e)

  module _ (w : List ℕ) (e : normal_text_call m s lent ≡ accepted w) where
    then-refused : (n : ℕ) → reading_call m' w cw iw ≡ refused n → reread_call m m' s lent cw iw ≡ normal_refused n
    unfolding reread_call then_read read_again
    then-refused n q = rw (reread_call, e, q)

    then-accepted : (ss : E.Reading) → reading_call m' w cw iw ≡ accepted ss → reread_call m m' s lent cw iw ≡ reread m' w ss
    unfolding reread_call then_read read_again
    then-accepted ss q = rw (reread_call, e, q)

  module _ (rs : E.Reading) (e : reading m s ≡ accepted rs) (h : length (spell rs) ≤ lent) where
    reading-refused : (n : ℕ) → reading_call m' (spell rs) cw iw ≡ refused n → reread_call m m' s lent cw iw ≡ normal_refused n
    reading-refused = then-refused (spell rs) (normal-accepts m s lent rs e h)

    reread-long : longest < length (spell rs) → reread_call m m' s lent cw iw ≡ normal_refused 1
    reread-long l = reading-refused 1 (call-refused m' (spell rs) cw iw 1 (reading-1 m' (spell rs) l))

    module _ (l : length (spell rs) ≤ longest) where
      again : (ss : E.Reading) × (reading m' (spell rs) ≡ accepted ss) × (placeless_reading ss ≡ placeless_reading rs)
      again = round_trip m m' s rs e l

      module _ (k : comparator_rows rs ≤ cw / comparator_width) where
        rows : comparator_rows again.0 ≤ cw / comparator_width
        rows = rw (sym (placeless-comparators again.0 rs again.2)) at k

        reread-accepts : identifier_rows rs ≤ iw / 3 → reread_call m m' s lent cw iw ≡ reread m' (spell rs) again.0
        reread-accepts j =
            then-accepted (spell rs) (normal-accepts m s lent rs e h) again.0
            (call-accepts m' (spell rs) cw iw again.0 again.1 rows (rw (sym (placeless-identifiers again.0 rs again.2)) at j))

-- ---- decide

module _ (m : Compat) (s : List ℕ) (lent cw iw : ℕ) (y : Refusal) where
  refuses-text : normal_text_call m s lent ≡ refused (number_of y) → Decides m s lent cw iw (reread_of (Err (W.Text y)))
  unfolding reread_outcome reading_outcome
  refuses-text e = record { is = λ m'. sym (ap reread_outcome (text-refused m m' s lent cw iw (number_of y) e)) }

  refuses-normal : ((m' : Compat) → reread_call m m' s lent cw iw ≡ normal_refused (number_of y)) → Decides m s lent cw iw (reread_of (Err (W.NormalText y)))
  unfolding reread_outcome reading_outcome
  refuses-normal h = record { is = λ m'. sym (ap reread_outcome (h m')) }

module _ (m : Compat) (s : List ℕ) (lent cw iw : ℕ) (c : Counts) (e : counts_of c ≡ reading_outcome (reading m s)) (r : Result ℕ Refusal)
    (i : length_of r ≡ normal_text_outcome (normal_text_call m s lent)) where
  abbrev has : Counted m s c
  has = counted-reading m s c e

  pub space-refused : (y : Refusal) → r ≡ Err y → Decides m s lent cw iw (reread_of (Err (W.Text y)))
  space-refused y q = refuses-text m s lent cw iw y (refused-call m s lent y (ap length_of (sym q) ∙ i))

  module _ (n : ℕ) (q : r ≡ Ok n) where
    abbrev writes : Writes m s lent n
    writes = written-call m s lent n (ap length_of (sym q) ∙ i)

    abbrev reads : E.Reading
    reads = writes.reads

    same : has.reads ≡ reads
    same = cc (has.is, writes.is)

    comparators : c.comparators ≡ comparator_rows reads
    comparators = has.comparators ∙ ap comparator_rows same

    identifiers : c.identifiers ≡ identifier_rows reads
    identifiers = has.identifiers ∙ ap identifier_rows same

    pub space-1 : longest < n → Decides m s lent cw iw (reread_of (Err (W.NormalText Refusals.TooLong)))
    space-1 l =
        refuses-normal m s lent cw iw Refusals.TooLong (λ m'. reread-long m m' s lent cw iw reads writes.is writes.room (rw writes.size at l))

    module _ (l : n ≤ longest) where
      short : length (spell reads) ≤ longest
      short = rw writes.size at l

      -- what the reading of the normal text answers
      called : (o : Result Counts Refusal) → CallsAnswer c cw iw o → (m' : Compat) → outcome_of o ≡ reading_outcome (reading_call m' (spell reads) cw iw)
      called o a m' =
          let ss = again m m' s lent cw iw reads writes.is writes.room short in
          a.is m' (spell reads) (e ∙ ap reading_outcome writes.is ∙ sym (same-counts ss.0 reads ss.2) ∙ sym (ap reading_outcome ss.1))

      module _ (o : Result Counts Refusal) (a : CallsAnswer c cw iw o) where
        pub space-short : (y : Refusal) → o ≡ Err y → Decides m s lent cw iw (reread_of (Err (W.NormalText y)))
        space-short y i =
            refuses-normal m s lent cw iw y
            (λ m'. reading-refused m m' s lent cw iw reads writes.is writes.room (number_of y) (refused-is (reading_call m' (spell reads) cw iw) y (ap outcome_of (sym i) ∙ called o a m')))

        pub space-whole : IfOk o (λ x. (comparator_width * c.comparators ≤ cw) × (3 * c.identifiers ≤ iw)) → (k : Counts) → o ≡ Ok k → Decides m s lent cw iw (reread_of (Ok k))
        unfolding reread_outcome
        space-whole r k i =
            let room = rw i at r in
            let l : c.comparators ≤ cw / comparator_width = let l = room.0 in omega arith in
            let j : c.identifiers ≤ iw / 3 = let l = room.1 in omega arith in
            let rows : comparator_rows reads ≤ cw / comparator_width = rw comparators at l in
            let places : identifier_rows reads ≤ iw / 3 = rw identifiers at j in
            record {
              is =
                  λ m'.
                  let ss = again m m' s lent cw iw reads writes.is writes.room short in
                  ap (λ o. record { refuses = neither; outcome = o })
                  (ap outcome_of (sym i) ∙ called o a m'
                  ∙ ap reading_outcome
                  (call-accepts m' (spell reads) cw iw ss.0 ss.1 (rw (sym (placeless-comparators ss.0 reads ss.2)) at rows) (rw (sym (placeless-identifiers ss.0 reads ss.2)) at places)))
                  ∙ sym (ap reread_outcome (reread-accepts m m' s lent cw iw reads writes.is writes.room short rows places));
            }

        -- a refusal is that of the normal text
        pub space-answer : IfOk o (λ x. (comparator_width * c.comparators ≤ cw) × (3 * c.identifiers ≤ iw)) → (r : Result Counts RereadError)
            → MatchResult o (λ x. r ≡ Ok x) (λ y. IsErrAnd r (λ z. z ≡ W.NormalText y)) → Decides m s lent cw iw (reread_of r)
        space-answer room r h = go o refl h
          where
            go : (o' : Result Counts Refusal) → o ≡ o' → MatchResult o' (λ x. r ≡ Ok x) (λ y. IsErrAnd r (λ z. z ≡ W.NormalText y)) → Decides m s lent cw iw (reread_of r)
            go (Ok k) q h = rw h (space-whole room k q)
            go (Err y) q h = let p = err_from_is_err_and r h in rw (p.1, p.2) (space-short y q)

-- ---- decide

module _ (m : Compat) (s : List ℕ) (r : Result Counts Refusal) (e : outcome_of r ≡ reading_outcome (reading m s)) where
  pub decide-counts : (c : Counts) → r ≡ Ok c → counts_of c ≡ reading_outcome (reading m s)
  decide-counts c q = ap outcome_of (sym q) ∙ e

  pub decide-refused : (y : Refusal) → r ≡ Err y → (lent cw iw : ℕ) → Decides m s lent cw iw (reread_of (Err (W.Text y)))
  decide-refused y q lent cw iw =
      refuses-text m s lent cw iw y (normal-refused m s lent (number_of y) (refused-reading m s y (ap outcome_of (sym q) ∙ e)))

pub ruleset deciding = (decide-counts, decide-refused, space-refused, space-1, space-short, space-whole)

-- ---- read_normal_text

-- what is handed back of an accepted call is an equal reading
restored : (m m' : Compat) (s out words ids : List ℕ) (a : Reread) → a ≡ reread_call m m' s (length out) (length words) (length ids)
    → Restores m s (length out) (length words) (length ids) (reread_outcome a).outcome (reread_bytes_after a out) (reread_comparators_after a words) (reread_identifiers_after a ids)
unfolding reread_outcome reading_outcome reread_bytes_after reread_comparators_after reread_identifiers_after bytes_after written
restored m m' s out words ids a i =
    record {
      equal =
          λ rs q l h k j.
          let ss = again m m' s (length out) (length words) (length ids) rs q h l in
          let e : a ≡ reread m' (spell rs) ss.0 = i ∙ reread-accepts m m' s (length out) (length words) (length ids) rs q h l k j in
          let w : take (length (spell rs)) (bytes_after (accepted (spell rs)) out) ≡ spell rs = start (spell rs) out _ _ refl refl in
          rw e (refl, rw w (ap placeless_reading (handed-rows m' (spell rs) ss.0 ss.1 words ids) ∙ ss.2));
    }

-- an accepted call, with what its two parts hand back
record Rereads (m m' : Compat) (s : List ℕ) (lent cw iw : ℕ) : Type 0 where
  pub text : List ℕ
  pub reading : E.Reading
  pub normal : normal_text_call m s lent ≡ accepted text
  pub reads : reading_call m' text cw iw ≡ accepted reading
  pub whole : reread_call m m' s lent cw iw ≡ reread m' text reading

text-apart : the_text ≡ neither → ⊥
text-apart z = let y : ◌≡◌ {A = ℕ} 0 1 = cc in omega arith

normal-apart : its_normal_text ≡ neither → ⊥
normal-apart z = let y : ◌≡◌ {A = ℕ} 0 1 = cc in omega arith

error-apart : (y : RereadError) → (reread_of (Err y)).refuses ≡ neither → ⊥
error-apart (W.Text y) z = text-apart z
error-apart (W.NormalText y) z = normal-apart z

rereads : (m m' : Compat) (s : List ℕ) (lent cw iw : ℕ) → (reread_outcome (reread_call m m' s lent cw iw)).refuses ≡ neither → Rereads m m' s lent cw iw
unfolding reread_outcome
rereads m m' s lent cw iw z = go (normal_text_call m s lent) refl
  where
    read : (w : List ℕ) → normal_text_call m s lent ≡ accepted w → (a : Answer E.Reading) → reading_call m' w cw iw ≡ a → Rereads m m' s lent cw iw
    read w e (accepted rs) q = record { text = w; reading = rs; normal = e; reads = q; whole = then-accepted m m' s lent cw iw w e rs q }
    read w e (refused n) q = absurd (normal-apart (sym (ap (λ a. (reread_outcome a).refuses) (then-refused m m' s lent cw iw w e n q)) ∙ z))

    go : (a : Answer (List ℕ)) → normal_text_call m s lent ≡ a → Rereads m m' s lent cw iw
    go (accepted w) e = read w e (reading_call m' w cw iw) refl
    go (refused n) e = absurd (text-apart (sym (ap (λ a. (reread_outcome a).refuses) (text-refused m m' s lent cw iw n e)) ∙ z))

module _ (m : Compat) (s out words ids : List ℕ) (r : Result Counts RereadError) (d : Decides m s (length out) (length words) (length ids) (reread_of r)) where
  abbrev call : Compat → Reread
  call m' = reread_call m m' s (length out) (length words) (length ids)

  reread-result : (m' : Compat) → reread_of r ≡ reread_outcome (call m')
  reread-result m' = d.is m'

  -- the clause for what is handed back, from those for the memory
  handed : (m' : Compat) (out' words' ids' : List ℕ) → out' ≡ reread_bytes_after (call m') out → words' ≡ reread_comparators_after (call m') words
      → ids' ≡ reread_identifiers_after (call m') ids → Restores m s (length out) (length words) (length ids) (reread_of r).outcome out' words' ids'
  handed m' out' words' ids' f g h =
      rw (ap (λ x. x.outcome) (reread-result m'), f, g, h) (restored m m' s out words ids (call m') refl)

  -- a refused call, of either text, leaves all as it was
  module _ (y : RereadError) (q : r ≡ Err y) where
    pub refused-result : (m' : Compat) → reread_of (Err y) ≡ reread_outcome (call m')
    refused-result m' = ap reread_of (sym q) ∙ reread-result m'

    untouched : (m' : Compat)
        → (out ≡ reread_bytes_after (call m') out) × (words ≡ reread_comparators_after (call m') words) × (ids ≡ reread_identifiers_after (call m') ids)
    unfolding reread_outcome reread_bytes_after reread_comparators_after reread_identifiers_after
    untouched m' = go (call m') refl
      where
        go : (a : Reread) → call m' ≡ a
            → (out ≡ reread_bytes_after (call m') out) × (words ≡ reread_comparators_after (call m') words) × (ids ≡ reread_identifiers_after (call m') ids)
        go (reread m'' w rs) e = absurd (error-apart y (ap (λ o. o.refuses) (refused-result m' ∙ ap reread_outcome e)))
        go (text_refused n) e = rw e (refl, refl, refl)
        go (normal_refused n) e = rw e (refl, refl, refl)

    pub refused-bytes : (m' : Compat) → out ≡ reread_bytes_after (call m') out
    refused-bytes m' = (untouched m').0

    pub refused-words : (m' : Compat) → words ≡ reread_comparators_after (call m') words
    refused-words m' = (untouched m').1

    pub refused-ids : (m' : Compat) → ids ≡ reread_identifiers_after (call m') ids
    refused-ids m' = (untouched m').2

    pub refused-equal : Restores m s (length out) (length words) (length ids) (reread_of (Err y)).outcome out words ids
    refused-equal = rw q at (handed m out words ids (untouched m).0 (untouched m).1 (untouched m).2)

  -- what an accepted call has written
  module _ (c : Counts) (q : r ≡ Ok c) where
    has_all : (m' : Compat) → Rereads m m' s (length out) (length words) (length ids)
    has_all m' = rereads m m' s (length out) (length words) (length ids) (sym (ap (λ x. x.refuses) (ap reread_of (sym q) ∙ reread-result m')))

    pub reads-result : (m' : Compat) → reread_of (Ok c) ≡ reread_outcome (call m')
    reads-result m' = ap reread_of (sym q) ∙ reread-result m'

    pub writes-fits : Fits m s (length out)
    writes-fits = call_fits m s (length out) (has_all m).text (has_all m).normal

    module _ (out' : List ℕ) (p : out' ≡ bytes_after (normal_text m s) out) (n : ℕ) (g : n ≡ (normal_text_outcome (normal_text m s)).length) where
      pub prefix-within : n ≤ length out'
      prefix-within = part-within m s out out' p n g writes-fits

      pub prefix-length : length (take n out') ≡ n
      prefix-length = part_length m s out out' p n g writes-fits

      -- and what is then read
      module _ (m' : Compat) where
        text-is : take n out' ≡ (has_all m').text
        text-is =
            let e = normal-accepts m s (length out) writes-fits.reads writes-fits.is writes-fits.room in
            let k : spell writes-fits.reads ≡ (has_all m').text = cc (e, (has_all m').normal) in
            part-is m s out out' p n g writes-fits ∙ k

        abbrev read-call : Answer E.Reading
        read-call = reading_call m' (take n out') (length words) (length ids)

        read_is : read-call ≡ accepted (has_all m').reading
        read_is = ap (λ t. reading_call m' t (length words) (length ids)) text-is ∙ (has_all m').reads

        pub writes_bytes : out' ≡ reread_bytes_after (call m') out
        unfolding reread_bytes_after
        writes_bytes =
            p ∙ ap (λ a. bytes_after a out) (sym (fitting m s (length out) writes-fits) ∙ (has_all m').normal)
            ∙ ap (λ a. reread_bytes_after a out) (sym (has_all m').whole)

        pub reads-words : (words' : List ℕ) → words' ≡ comparator_words_after m' (take n out') read-call words → words' ≡ reread_comparators_after (call m') words
        unfolding reread_comparators_after
        reads-words words' h = h ∙ ap₂ (λ t a. comparator_words_after m' t a words) text-is read_is ∙ ap (λ a. reread_comparators_after a words) (sym (has_all m').whole)

        pub reads-ids : (ids' : List ℕ) → ids' ≡ identifier_words_after (take n out') read-call ids → ids' ≡ reread_identifiers_after (call m') ids
        unfolding reread_identifiers_after
        reads-ids ids' h = h ∙ ap₂ (λ t a. identifier_words_after t a ids) text-is read_is ∙ ap (λ a. reread_identifiers_after a ids) (sym (has_all m').whole)

        pub reads-equal : (words' : List ℕ) → words' ≡ comparator_words_after m' (take n out') read-call words → (ids' : List ℕ) → ids' ≡ identifier_words_after (take n out') read-call ids
            → Restores m s (length out) (length words) (length ids) (reread_of (Ok c)).outcome out' words' ids'
        reads-equal words' h ids' j = rw q at (handed m' out' words' ids' writes_bytes (reads-words words' h) (reads-ids ids' j))

pub ruleset rereading = (reads-result, writes-fits, prefix-within, prefix-length, writes_bytes, reads-words, reads-ids, reads-equal)
