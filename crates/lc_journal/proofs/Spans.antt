-- Records as one list of words with places: what each change leaves of them.
use Rattle.std.proofs.Common.{◌≡◌, ℕ, zero, suc, ◌+◌, ◌-◌, ◌<◌, ◌≤◌, ◌^◌, Bool, true, false, List, [], ◌∷◌, ◌++◌, map, length, take, drop, slice_set, slice_index_or, slice_get, Some, get_or, cond, refl, sym, ap, ◌∙◌, arith}
use Rattle.std.specs.Prelude.{if◌then◌else◌}
use Rattle.std.specs.List.{count_by}
use Rattle.std.proofs.lemmas.Bool.{lt-ltb, le-ltb}
use Rattle.std.proofs.lemmas.List.{length-append, take_at, drop_at, take-append-drop, append-nil, length-map, drop-map, map-append, map-set, length-drop, drop-drop, drop-append-le}
use Rattle.std.proofs.lemmas.List.Concat.{flat_map-append}
use Rattle.std.proofs.lemmas.List.Sums.{sum_by-cons}
use Rattle.std.proofs.lemmas.Option.{same_Some as same_some}
use Rattle.lc_model.specs.History.{leading}
use Rattle.lc_journal.specs.declared.record_end.RecordEnd.{RecordEnd}
use Rattle.lc_journal.specs.Records.{Spelled, KeptRecords, all_words, marks_of, count_of, front_of, span_of, closing, closed_at, spelled, places_of, shifted, AreKept}

-- the fields of what contracts see so
pub record Holds (first : ℕ) (words : List ℕ) (places : List RecordEnd) (gone front : ℕ) (k : KeptRecords) : Type 0 where
  pub whole : List Spelled
  pub before_is : first + gone ≡ k.before
  pub rest_is : drop gone whole ≡ k.records
  pub words_are : words ≡ all_words whole
  pub places_are : places ≡ places_of 0 whole
  pub front_is : front ≡ leading (marks_of whole)
  pub gone_closed : gone ≤ front
  pub few : first + length whole < 2 ^ 63

pub length-places_of : (start : ℕ) (rs : List Spelled) → length (places_of start rs) ≡ length rs
length-places_of start [] = refl
length-places_of start (r ∷ rs) = ap suc (length-places_of (start + length r.words) rs)

pub marks-places_of : (start : ℕ) (rs : List Spelled) → map (λ (p : RecordEnd). p.closed) (places_of start rs) ≡ marks_of rs
marks-places_of start [] = refl
marks-places_of start (r ∷ rs) = ap (λ (bs : List Bool). r.closed ∷ bs) (marks-places_of (start + length r.words) rs)

pub spelled_again : (start : ℕ) (rs : List Spelled) → spelled start (all_words rs) (places_of start rs) ≡ rs
spelled_again start [] = refl
spelled_again start (r ∷ rs) =
    let end : ℕ = start + length r.words in
    let size : length r.words ≡ end - start = omega arith in
    ap (λ (ws : List ℕ). record { words = ws; closed = r.closed } ∷ spelled end (drop (end - start) (all_words (r ∷ rs))) (places_of end rs)) (take_at r.words (all_words rs) (end - start) size)
    ∙ ap (λ (ws : List ℕ). r ∷ spelled end ws (places_of end rs)) (drop_at r.words (all_words rs) (end - start) size)
    ∙ ap (λ (l : List Spelled). r ∷ l) (spelled_again end rs)

pub held : (first : ℕ) (words : List ℕ) (places : List RecordEnd) (gone front : ℕ) (k : KeptRecords) → AreKept first words places gone front
    → record { before = first + gone; records = drop gone (spelled 0 words places) } ≡ k → Holds first words places gone front k
held first words places gone front k h is =
    let count : length places ≡ length (spelled 0 words places) = ap length h.places_are ∙ length-places_of 0 (spelled 0 words places) in
    record {
      whole = spelled 0 words places;
      before_is = ap (λ (k : KeptRecords). k.before) is;
      rest_is = ap (λ (k : KeptRecords). k.records) is;
      words_are = h.words_are;
      places_are = h.places_are;
      front_is = h.front_is;
      gone_closed = h.gone_closed;
      few = omega (arith, h.few, count);
    }

whole_is : (first : ℕ) (words : List ℕ) (places : List RecordEnd) (gone front : ℕ) (k : KeptRecords) (h : Holds first words places gone front k)
    → spelled 0 words places ≡ h.whole
whole_is first words places gone front k h = rw (h.words_are, h.places_are) (spelled_again 0 h.whole)

pub seen_so : (first : ℕ) (words : List ℕ) (places : List RecordEnd) (gone front : ℕ) (k : KeptRecords) → Holds first words places gone front k
    → record { before = first + gone; records = drop gone (spelled 0 words places) } ≡ k
seen_so first words places gone front k h =
    ap (λ (rs : List Spelled). record { before = first + gone; records = drop gone rs }) (whole_is first words places gone front k h)
    ∙ ap (λ (rs : List Spelled). record { before = first + gone; records = rs }) h.rest_is
    ∙ ap (λ (n : ℕ). record { before = n; records = k.records }) h.before_is

pub kept_so : (first : ℕ) (words : List ℕ) (places : List RecordEnd) (gone front : ℕ) (k : KeptRecords) → Holds first words places gone front k
    → AreKept first words places gone front
kept_so first words places gone front k h =
    let rs : spelled 0 words places ≡ h.whole = whole_is first words places gone front k h in
    record {
      words_are = h.words_are ∙ ap all_words (sym rs);
      places_are = h.places_are ∙ ap (places_of 0) (sym rs);
      front_is = h.front_is ∙ ap (λ (l : List Spelled). leading (marks_of l)) (sym rs);
      gone_closed = h.gone_closed;
      few = omega (arith, h.few, ap length h.places_are, length-places_of 0 h.whole);
    }

-- a record more

pub words_more : (rs : List Spelled) (r : Spelled) → all_words (rs ++ r ∷ []) ≡ all_words rs ++ r.words
words_more rs r = flat_map-append (λ (r : Spelled). r.words) rs (r ∷ []) ∙ ap (λ (l : List ℕ). all_words rs ++ l) (append-nil r.words)

pub places_more : (start : ℕ) (rs : List Spelled) (r : Spelled) (end : ℕ) → end ≡ start + length (all_words rs) + length r.words
    → places_of start (rs ++ r ∷ []) ≡ places_of start rs ++ record { end = end; closed = r.closed } ∷ []
places_more start [] r end is =
    let same : start + length r.words ≡ end = omega (arith, is) in
    ap (λ (n : ℕ). record { end = n; closed = r.closed } ∷ []) same
places_more start (x ∷ rs) r end is =
    let next : ℕ = start + length x.words in
    ap (λ (ps : List RecordEnd). record { end = next; closed = x.closed } ∷ ps)
    (places_more next rs r end (omega (arith, is, length-append x.words (all_words rs))))

pub leading_more : (ms : List Bool) → leading (ms ++ false ∷ []) ≡ leading ms
leading_more [] = refl
leading_more (true ∷ ms) = ap (λ (n : ℕ). 1 + n) (leading_more ms)
leading_more (false ∷ ms) = refl

-- where a record begins

pub end_at : (start : ℕ) (rs : List Spelled) (place : ℕ) (d : RecordEnd) → place < length rs
    → (get_or (places_of start rs) place d).end ≡ start + length (all_words (take (suc place) rs))
end_at start [] place d within = absurd (omega (arith, within))
end_at start (r ∷ rs) zero d within = ap (λ (n : ℕ). start + n) (sym (ap length (append-nil r.words)))
end_at start (r ∷ rs) (suc place) d within =
    end_at (start + length r.words) rs place d (omega (arith, within))
    ∙ omega (arith, length-append r.words (all_words (take (suc place) rs)))

pub words_split : (place : ℕ) (rs : List Spelled) → all_words rs ≡ all_words (take place rs) ++ all_words (drop place rs)
words_split place rs = ap all_words (sym (take-append-drop place rs)) ∙ flat_map-append (λ (r : Spelled). r.words) (take place rs) (drop place rs)

pub start_within : (place : ℕ) (rs : List Spelled) → length (all_words (take place rs)) ≤ length (all_words rs)
start_within place rs = omega (arith, ap length (words_split place rs), length-append (all_words (take place rs)) (all_words (drop place rs)))

pub words_from : (place : ℕ) (rs : List Spelled) → drop (length (all_words (take place rs))) (all_words rs) ≡ all_words (drop place rs)
words_from place rs =
    ap (drop (length (all_words (take place rs)))) (words_split place rs)
    ∙ drop_at (all_words (take place rs)) (all_words (drop place rs)) (length (all_words (take place rs))) refl

none_of : (n : ℕ) → take {A = Spelled} n [] ≡ []
none_of zero = refl
none_of (suc n) = refl

pub take_two : (place more : ℕ) (rs : List Spelled) → take (place + more) rs ≡ take place rs ++ take more (drop place rs)
take_two zero more rs = let same : 0 + more ≡ more = omega arith in ap (λ (n : ℕ). take n rs) same
take_two (suc place) more [] = none_of (suc place + more) ∙ sym (none_of more)
take_two (suc place) more (r ∷ rs) =
    let same : suc place + more ≡ suc (place + more) = omega arith in
    ap (λ (n : ℕ). take n (r ∷ rs)) same ∙ ap (λ (l : List Spelled). r ∷ l) (take_two place more rs)

pub words_two : (from more : ℕ) (rs : List Spelled) → all_words (take (from + more) rs) ≡ all_words (take from rs) ++ all_words (take more (drop from rs))
words_two from more rs = ap all_words (take_two from more rs) ∙ flat_map-append (λ (r : Spelled). r.words) (take from rs) (take more (drop from rs))

-- the words of the records between two places
pub span_words : (from more : ℕ) (rs : List Spelled)
    → take (length (all_words (take (from + more) rs)) - length (all_words (take from rs))) (drop (length (all_words (take from rs))) (all_words rs))
    ≡ all_words (take more (drop from rs))
span_words from more rs =
    let front : ℕ = length (all_words (take from rs)) in
    let between : List ℕ = all_words (take more (drop from rs)) in
    let both : length (all_words (take (from + more) rs)) ≡ front + length between = ap length (words_two from more rs) ∙ length-append (all_words (take from rs)) between in
    let count : ℕ = length (all_words (take (from + more) rs)) - front in
    let size : length between ≡ count = omega (arith, both) in
    ap (λ (ws : List ℕ). take count ws) (words_from from rs ∙ words_split more (drop from rs))
    ∙ take_at between (all_words (drop more (drop from rs))) count size

pub start_order : (from more : ℕ) (rs : List Spelled) → length (all_words (take from rs)) ≤ length (all_words (take (from + more) rs))
start_order from more rs =
    omega (arith, ap length (words_two from more rs), length-append (all_words (take from rs)) (all_words (take more (drop from rs))))

-- a record that is closed

pub closing_words : (place : ℕ) (rs : List Spelled) → all_words (closing place rs) ≡ all_words rs
closing_words place [] = refl
closing_words zero (r ∷ rs) = refl
closing_words (suc place) (r ∷ rs) = ap (λ (l : List ℕ). r.words ++ l) (closing_words place rs)

pub closing_count : (place : ℕ) (rs : List Spelled) → length (closing place rs) ≡ length rs
closing_count place [] = refl
closing_count zero (r ∷ rs) = refl
closing_count (suc place) (r ∷ rs) = ap suc (closing_count place rs)

pub closing_places : (start place : ℕ) (rs : List Spelled) (d : RecordEnd)
    → places_of start (closing place rs) ≡ slice_set (places_of start rs) place (record { end = (slice_index_or (places_of start rs) place d).end; closed = true })
closing_places start place [] d = refl
closing_places start zero (r ∷ rs) d = refl
closing_places start (suc place) (r ∷ rs) d =
    ap (λ (ps : List RecordEnd). record { end = start + length r.words; closed = r.closed } ∷ ps) (closing_places (start + length r.words) place rs d)

pub closing_marks : (place : ℕ) (rs : List Spelled) → marks_of (closing place rs) ≡ slice_set (marks_of rs) place true
closing_marks place [] = refl
closing_marks zero (r ∷ rs) = refl
closing_marks (suc place) (r ∷ rs) = ap (λ (bs : List Bool). r.closed ∷ bs) (closing_marks place rs)

-- after the last record nothing is closed
closing_beyond : (place : ℕ) (rs : List Spelled) → length rs ≤ place → closing place rs ≡ rs
closing_beyond place [] past = refl
closing_beyond zero (r ∷ rs) past = absurd (omega (arith, past))
closing_beyond (suc place) (r ∷ rs) past = ap (λ (xs : List Spelled). r ∷ xs) (closing_beyond place rs (omega (arith, past)))

pub closed_below : (number : ℕ) (k : KeptRecords) → number < k.before → closed_at number k ≡ k
closed_below number k below = ap (λ b. if b then k else record k { records = closing (number - k.before) k.records }) (lt-ltb number k.before below)

pub closed_in : (number : ℕ) (k : KeptRecords) → k.before ≤ number → closed_at number k ≡ record k { records = closing (number - k.before) k.records }
closed_in number k within = ap (λ b. if b then k else record k { records = closing (number - k.before) k.records }) (le-ltb number k.before within)

pub closed_beyond : (number : ℕ) (k : KeptRecords) → count_of k ≤ number → closed_at number k ≡ k
closed_beyond number k past =
    closed_in number k (omega (arith, past))
    ∙ ap (λ rs. record k { records = rs }) (closing_beyond (number - k.before) k.records (omega (arith, past)))

-- how many marks stand in front

pub leading_few : (ms : List Bool) → leading ms ≤ length ms
leading_few [] = omega arith
leading_few (true ∷ ms) = omega (arith, leading_few ms)
leading_few (false ∷ ms) = omega arith

pub leading_le : (rs : List Spelled) → leading (marks_of rs) ≤ length rs
leading_le rs = omega (arith, leading_few (marks_of rs), length-map rs (λ (r : Spelled). r.closed))

leading_step : (n : ℕ) (ms : List Bool) → n + leading (drop n ms) ≡ leading ms → (1 + n) + leading (drop (1 + n) (true ∷ ms)) ≡ 1 + leading ms
leading_step n ms is =
    let one : 1 + n ≡ suc n = omega arith in
    let next : drop (1 + n) (true ∷ ms) ≡ drop n ms = ap (λ (k : ℕ). drop k (true ∷ ms)) one in
    omega (arith, is, ap leading next)

pub leading_drop : (k : ℕ) (ms : List Bool) → k ≤ leading ms → k + leading (drop k ms) ≡ leading ms
leading_drop zero ms few = omega arith
leading_drop (suc k) [] few = absurd (omega (arith, few))
leading_drop (suc k) (true ∷ ms) few = omega (arith, leading_drop k ms (omega (arith, few)))
leading_drop (suc k) (false ∷ ms) few = absurd (omega (arith, few))

pub leading_set : (ms : List Bool) (place : ℕ) → leading ms + leading (drop (leading ms) (slice_set ms place true)) ≡ leading (slice_set ms place true)
leading_set [] place = refl
leading_set (true ∷ ms) zero = leading_step (leading ms) ms (leading_drop (leading ms) ms (omega arith))
leading_set (true ∷ ms) (suc place) = leading_step (leading ms) (slice_set ms place true) (leading_set ms place)
leading_set (false ∷ ms) zero = omega arith
leading_set (false ∷ ms) (suc place) = omega arith

pub closed_next : (ps : List RecordEnd) (place : ℕ) (d : RecordEnd) → place < length ps → (slice_index_or ps place d).closed ≡ true
    → leading (drop place (map (λ (p : RecordEnd). p.closed) ps)) ≡ 1 + leading (drop (suc place) (map (λ (p : RecordEnd). p.closed) ps))
closed_next [] place d within is = absurd (omega (arith, within))
closed_next (p ∷ ps) zero d within is = rw is refl
closed_next (p ∷ ps) (suc place) d within is = closed_next ps place d (omega (arith, within)) is

pub open_next : (ps : List RecordEnd) (place : ℕ) (d : RecordEnd) → place < length ps → (slice_index_or ps place d).closed ≡ false
    → leading (drop place (map (λ (p : RecordEnd). p.closed) ps)) ≡ 0
open_next [] place d within is = absurd (omega (arith, within))
open_next (p ∷ ps) zero d within is = rw is refl
open_next (p ∷ ps) (suc place) d within is = open_next ps place d (omega (arith, within)) is

-- those in front dropped

pub places_from : (place start : ℕ) (rs : List Spelled) → drop place (places_of start rs) ≡ places_of (start + length (all_words (take place rs))) (drop place rs)
places_from zero start rs = let same : start ≡ start + 0 = omega arith in ap (λ (n : ℕ). places_of n rs) same
places_from (suc place) start [] = refl
places_from (suc place) start (r ∷ rs) =
    let same : (start + length r.words) + length (all_words (take place rs)) ≡ start + length (all_words (r ∷ take place rs)) = omega (arith, length-append r.words (all_words (take place rs))) in
    places_from place (start + length r.words) rs ∙ ap (λ (n : ℕ). places_of n (drop place rs)) same

pub places_shifted : (cut start end : ℕ) (rs : List Spelled) → end ≡ start + cut → map (shifted cut) (places_of end rs) ≡ places_of start rs
places_shifted cut start end [] is = refl
places_shifted cut start end (r ∷ rs) is =
    let next : (end + length r.words) - cut ≡ start + length r.words = omega (arith, is) in
    let beyond : end + length r.words ≡ (start + length r.words) + cut = omega (arith, is) in
    ap (λ (n : ℕ). record { end = n; closed = r.closed } ∷ map (shifted cut) (places_of (end + length r.words) rs)) next
    ∙ ap (λ (ps : List RecordEnd). record { end = start + length r.words; closed = r.closed } ∷ ps)
    (places_shifted cut (start + length r.words) (end + length r.words) rs beyond)

pub ends_beyond : (cut end : ℕ) (rs : List Spelled) → cut ≤ end → (k : ℕ) (d : RecordEnd) → k < length (places_of end rs)
    → cut ≤ (slice_index_or (places_of end rs) k d).end
ends_beyond cut end [] beyond k d within = absurd (omega (arith, within))
ends_beyond cut end (r ∷ rs) beyond zero d within = omega (arith, beyond)
ends_beyond cut end (r ∷ rs) beyond (suc k) d within = ends_beyond cut (end + length r.words) rs (omega (arith, beyond)) k d (omega (arith, within))

pub drop_marks : (k : ℕ) (rs : List Spelled) → drop k (marks_of rs) ≡ marks_of (drop k rs)
drop_marks k rs = drop-map (λ (r : Spelled). r.closed) k rs

pub one_word : (rs : List Spelled) (place : ℕ) (r : Spelled) → slice_get rs place ≡ Some r → all_words (take 1 (drop place rs)) ≡ r.words
one_word [] place r is = absurd cc
one_word (x ∷ rs) zero r is = append-nil x.words ∙ ap (λ (r : Spelled). r.words) (same_some x r is)
one_word (x ∷ rs) (suc place) r is = one_word rs place r is

-- what is dropped stands in front of what is closed and of what is added

drop_closing : (gone place : ℕ) (rs : List Spelled) → gone ≤ place → drop gone (closing place rs) ≡ closing (place - gone) (drop gone rs)
drop_closing zero place rs few = let same : place ≡ place - 0 = omega arith in ap (λ (n : ℕ). closing n rs) same
drop_closing (suc gone) place [] few = refl
drop_closing (suc gone) zero (r ∷ rs) few = absurd (omega (arith, few))
drop_closing (suc gone) (suc place) (r ∷ rs) few =
    let same : place - gone ≡ suc place - suc gone = omega arith in
    drop_closing gone place rs (omega (arith, few)) ∙ ap (λ (n : ℕ). closing n (drop gone rs)) same

-- the fields, and those after each change

module _ (first : ℕ) (words : List ℕ) (places : List RecordEnd) (gone front : ℕ) (k : KeptRecords) (h : Holds first words places gone front k) where
  pub few_gone : gone ≤ length h.whole
  few_gone = omega (arith, h.gone_closed, h.front_is, leading_le h.whole)

  pub count_so : length places ≡ gone + length k.records
  count_so = omega (arith, few_gone, ap length h.places_are, length-places_of 0 h.whole, ap length h.rest_is, length-drop gone h.whole)

  pub few_so : first + length places < 2 ^ 63
  few_so = omega (arith, h.few, ap length h.places_are, length-places_of 0 h.whole)

  pub front_so : front ≡ gone + leading (marks_of k.records)
  front_so =
      let less : gone ≤ leading (marks_of h.whole) = omega (arith, h.gone_closed, h.front_is) in
      let left : leading (drop gone (marks_of h.whole)) ≡ leading (marks_of k.records) =
      ap leading (drop_marks gone h.whole) ∙ ap (λ (rs : List Spelled). leading (marks_of rs)) h.rest_is in
      omega (arith, h.front_is, leading_drop gone (marks_of h.whole) less, left)

  -- what stands after a place of a record that is kept
  pub behind_so : (place kept : ℕ) → place ≡ gone + kept → drop place h.whole ≡ drop kept k.records
  behind_so place kept is =
      ap (λ (n : ℕ). drop n h.whole) is ∙ sym (drop-drop kept gone h.whole) ∙ ap (drop kept) h.rest_is

  pub grown_so : (more : List ℕ) (end : ℕ) → end ≡ length (words ++ more) → count_of k + 1 < 2 ^ 63
      → Holds first (words ++ more) (places ++ record { end = end; closed = false } ∷ []) gone front (record k { records = k.records ++ record { words = more; closed = false } ∷ [] })
  grown_so more end is few =
      let r : Spelled = record { words = more; closed = false } in
      let size : end ≡ 0 + length (all_words h.whole) + length more = omega (arith, is, length-append words more, ap length h.words_are) in
      record {
        whole = h.whole ++ r ∷ [];
        before_is = h.before_is;
        rest_is = drop-append-le gone h.whole (r ∷ []) few_gone ∙ ap (λ (rs : List Spelled). rs ++ r ∷ []) h.rest_is;
        words_are = ap (λ (ws : List ℕ). ws ++ more) h.words_are ∙ sym (words_more h.whole r);
        places_are = ap (λ (ps : List RecordEnd). ps ++ record { end = end; closed = false } ∷ []) h.places_are ∙ sym (places_more 0 h.whole r end size);
        front_is = h.front_is ∙ sym (ap leading (map-append (λ (r : Spelled). r.closed) h.whole (r ∷ [])) ∙ leading_more (marks_of h.whole));
        gone_closed = h.gone_closed;
        few = omega (arith, few, length-append h.whole (r ∷ []), h.before_is, few_gone, ap length h.rest_is, length-drop gone h.whole);
      }

  pub closed_so : (place kept end now : ℕ) (d : RecordEnd) → place ≡ gone + kept → end ≡ (slice_index_or places place d).end
      → now ≡ leading (map (λ (p : RecordEnd). p.closed) (slice_set places place (record { end = end; closed = true })))
      → Holds first words (slice_set places place (record { end = end; closed = true })) gone now (record k { records = closing kept k.records })
  closed_so place kept end now d at is count =
      let same : end ≡ (slice_index_or (places_of 0 h.whole) place d).end = is ∙ ap (λ (ps : List RecordEnd). (slice_index_or ps place d).end) h.places_are in
      let are : slice_set places place (record { end = end; closed = true }) ≡ places_of 0 (closing place h.whole) =
      ap (λ (ps : List RecordEnd). slice_set ps place (record { end = end; closed = true })) h.places_are
      ∙ ap (λ (n : ℕ). slice_set (places_of 0 h.whole) place (record { end = n; closed = true })) same
      ∙ sym (closing_places 0 place h.whole d) in
      let front_is : now ≡ leading (marks_of (closing place h.whole)) =
      count ∙ ap (λ (ps : List RecordEnd). leading (map (λ (p : RecordEnd). p.closed) ps)) are ∙ ap leading (marks-places_of 0 (closing place h.whole)) in
      let rest : place - gone ≡ kept = omega (arith, at) in
      record {
        whole = closing place h.whole;
        before_is = h.before_is;
        rest_is =
            drop_closing gone place h.whole (omega (arith, at))
            ∙ ap (λ (n : ℕ). closing n (drop gone h.whole)) rest ∙ ap (closing kept) h.rest_is;
        words_are = h.words_are ∙ sym (closing_words place h.whole);
        places_are = are;
        front_is = front_is;
        gone_closed = omega (arith, h.gone_closed, h.front_is, front_is, leading_set (marks_of h.whole) place, ap leading (closing_marks place h.whole));
        few = omega (arith, h.few, closing_count place h.whole);
      }

  -- from the marks that stood in front, the others are counted
  pub known_so : (place end : ℕ) → front + leading (drop front (map (λ (p : RecordEnd). p.closed) (slice_set places place (record { end = end; closed = true }))))
      ≡ leading (map (λ (p : RecordEnd). p.closed) (slice_set places place (record { end = end; closed = true })))
  known_so place end =
      let marks : map (λ (p : RecordEnd). p.closed) places ≡ marks_of h.whole = ap (map (λ (p : RecordEnd). p.closed)) h.places_are ∙ marks-places_of 0 h.whole in
      let set : map (λ (p : RecordEnd). p.closed) (slice_set places place (record { end = end; closed = true })) ≡ slice_set (marks_of h.whole) place true =
      map-set (λ (p : RecordEnd). p.closed) places place (record { end = end; closed = true }) ∙ ap (λ (ms : List Bool). slice_set ms place true) marks in
      rw (set, h.front_is) (leading_set (marks_of h.whole) place)

  -- more in front are dropped
  pub forgotten_so : (number now : ℕ) → k.before ≤ number → number ≤ front_of k → now ≡ number - first
      → Holds first words places now front (record { before = number; records = drop (number - k.before) k.records })
  forgotten_so number now kept closed is =
      let at : now ≡ gone + (number - k.before) = omega (arith, is, kept, h.before_is) in
      record {
        whole = h.whole;
        before_is = omega (arith, is, kept, h.before_is);
        rest_is = behind_so now (number - k.before) at;
        words_are = h.words_are;
        places_are = h.places_are;
        front_is = h.front_is;
        gone_closed = omega (arith, at, kept, closed, h.before_is, front_so);
        few = h.few;
      }

  -- what is dropped is moved out
  pub moved_so : (cut : ℕ) → cut ≡ length (all_words (take gone h.whole))
      → Holds (first + gone) (drop cut words) (map (shifted cut) (drop gone places)) 0 (front - gone) k
  moved_so cut size =
      let less : gone ≤ leading (marks_of h.whole) = omega (arith, h.gone_closed, h.front_is) in
      let left : leading (marks_of (drop gone h.whole)) ≡ leading (drop gone (marks_of h.whole)) = ap leading (sym (drop_marks gone h.whole)) in
      let start : 0 + length (all_words (take gone h.whole)) ≡ 0 + cut = omega (arith, size) in
      record {
        whole = drop gone h.whole;
        before_is = omega (arith, h.before_is);
        rest_is = h.rest_is;
        words_are = ap (drop cut) h.words_are ∙ ap (λ (n : ℕ). drop n (all_words h.whole)) size ∙ words_from gone h.whole;
        places_are =
            ap (λ (ps : List RecordEnd). map (shifted cut) (drop gone ps)) h.places_are
            ∙ ap (map (shifted cut)) (places_from gone 0 h.whole)
            ∙ places_shifted cut 0 (0 + length (all_words (take gone h.whole))) (drop gone h.whole) start;
        front_is = omega (arith, left, leading_drop gone (marks_of h.whole) less, h.front_is);
        gone_closed = omega arith;
        few = omega (arith, h.few, length-drop gone h.whole, few_gone);
      }

pub holds_as : (first : ℕ) (words words' : List ℕ) (places places' : List RecordEnd) (gone front : ℕ) (k : KeptRecords)
    → words ≡ words' → places ≡ places' → Holds first words' places' gone front k → Holds first words places gone front k
holds_as first words words' places places' gone front k same same_places h = record {
  whole = h.whole;
  before_is = h.before_is;
  rest_is = h.rest_is;
  words_are = same ∙ h.words_are;
  places_are = same_places ∙ h.places_are;
  front_is = h.front_is;
  gone_closed = h.gone_closed;
  few = h.few;
}

-- spans

pub span_adjacent : (k : KeptRecords) (from mid to : ℕ) → k.before ≤ from → from ≤ mid → mid ≤ to → span_of k from to ≡ span_of k from mid ++ span_of k mid to
span_adjacent k from mid to kept first second =
    let rest : List Spelled = drop (from - k.before) k.records in
    let all : to - from ≡ (mid - from) + (to - mid) = omega (arith, first, second) in
    let place : (from - k.before) + (mid - from) ≡ mid - k.before = omega (arith, kept, first) in
    ap (λ (n : ℕ). all_words (take n rest)) all
    ∙ words_two (mid - from) (to - mid) rest
    ∙ ap (λ (l : List Spelled). all_words (take (mid - from) rest) ++ all_words (take (to - mid) l))
    (drop-drop (mid - from) (from - k.before) k.records ∙ ap (λ (n : ℕ). drop n k.records) place)

pub length-span : (k : KeptRecords) (from mid to : ℕ) → k.before ≤ from → from ≤ mid → mid ≤ to → length (span_of k from to) ≡ length (span_of k from mid) + length (span_of k mid to)
length-span k from mid to kept first second =
    ap length (span_adjacent k from mid to kept first second) ∙ length-append (span_of k from mid) (span_of k mid to)

-- as many of the places are of closed records as records are closed, from the same place on
pub closed_places : (start : ℕ) (rs : List Spelled) (from : ℕ)
    → count_by (λ (p : RecordEnd). p.closed) (drop from (places_of start rs)) ≡ count_by (λ (r : Spelled). r.closed) (drop from rs)
closed_places start [] zero = refl
closed_places start [] (suc from) = refl
closed_places start (r ∷ rs) zero =
    let more = closed_places (start + length r.words) rs zero in
    sum_by-cons (λ (p : RecordEnd). cond p.closed 1 0) (record { end = start + length r.words; closed = r.closed }) (places_of (start + length r.words) rs)
    ∙ ap (λ (n : ℕ). cond r.closed 1 0 + n) more
    ∙ sym (sum_by-cons (λ (r : Spelled). cond r.closed 1 0) r rs)
closed_places start (r ∷ rs) (suc from) = closed_places (start + length r.words) rs from
