-- Of a log under its lock: the records whose words a list of words is.
use Rattle.std.proofs.Common.{◌≡◌, ℕ, zero, suc, ◌+◌, ◌*◌, ◌-◌, ◌/◌, ◌^◌, ◌≤◌, ◌<◌, List, [], ◌∷◌, ◌++◌, length, All, Some, None, refl, sym, ap, subst, ◌∙◌, inl, inr, arith, append_assoc, length-append}
use Rattle.std.specs.Prelude.{◌⊎◌, Option, IfSome, option_map, slice_get}
use Rattle.std.specs.List.{concat}
use Rattle.std.proofs.Math.ListN.{take, drop}
use lib.ListN.{get_or, get_or-append}
use Rattle.std.proofs.lemmas.List.{append-nil, take_all, take_at, take_rest, drop_at}
use Rattle.std.proofs.lemmas.List.Elements.{All-head, All-tail, All-append}
use Rattle.std.proofs.lemmas.List.Folds.{concat-append}
use Rattle.lc_stage.specs.Staging.{IsOneRecord, AreRecords}
use Rattle.lc_stage.specs.Seats.{flush_view}
use Rattle.lc_stage.proofs.Records.{some_record, header_tells}
use Rattle.lc_record.proofs.ListLemmas.{All-append_right as all_behind}
use Rattle.lc_log_side.specs.Among.{AreInFront}
use Rattle.lc_log_side.specs.LogView.{LogView}
use Rattle.lc_log_side.specs.Published.{records_behind, records_of, published, IsWhole, IsStart}
use Rattle.lc_log.specs.LogText.{joined, IsWhole as IsRecordWhole}
use Rattle.lc_record.specs.Record.{spelling}
use Rattle.lc_record.specs.declared.record.Record.{Record}
use Rattle.lc_log_side.specs.Left.{IsLeft}
use Rattle.lc_log.proofs.LogLemmas.{whole_record}
use Rattle.lc_log_side.proofs.Fronts.{one_alone}
use Rattle.lc_log_side.proofs.FlushKeeps.{records_append}

-- The records of records' words are these records

-- the words of one that began before are passed over
passed : (xs words : List ℕ) (n : ℕ) → n ≡ length xs → records_behind (xs ++ words) n ≡ records_behind words 0
passed [] words n is = ap (records_behind words) is
passed (x ∷ xs) words zero is = absurd (omega arith)
passed (x ∷ xs) words (suc n) is = passed xs words n (omega arith)

one_more : (x words : List ℕ) → IsOneRecord x → records_of (x ++ words) ≡ x ∷ records_of words
unfolding records_of
one_more [] words one = absurd (let some = some_record [] one in omega arith)
one_more (h ∷ xs) words one =
    let tells : h / 2 ^ 32 ≡ length (h ∷ xs) = header_tells (h ∷ xs) one in
    let first : take (h / 2 ^ 32) (h ∷ (xs ++ words)) ≡ h ∷ xs = take_at (h ∷ xs) words (h / 2 ^ 32) (sym tells) in
    let others : records_behind (xs ++ words) (h / 2 ^ 32 - 1) ≡ records_behind words 0 = passed xs words (h / 2 ^ 32 - 1) (omega arith) in
    (λ k. first k ∷ others k)

no_record : records_of [] ≡ []
unfolding records_of
no_record = refl

pub of_concat : (rs : List (List ℕ)) → All IsOneRecord rs → records_of (concat rs) ≡ rs
of_concat [] all = no_record
of_concat (r ∷ rs) all = one_more r (concat rs) (All-head IsOneRecord r rs all) ∙ ap (λ (l : List (List ℕ)). r ∷ l) (of_concat rs (All-tail IsOneRecord r rs all))

of_records : (ws : List ℕ) (h : AreRecords ws) → records_of ws ≡ h.0
of_records ws h = ap records_of h.2 ∙ of_concat h.0 h.1

all_whole : (ws : List ℕ) → AreRecords ws → All IsOneRecord (records_of ws) × (concat (records_of ws) ≡ ws)
all_whole ws h = (subst (All IsOneRecord) (sym (of_records ws h)) h.1, ap concat (of_records ws h) ∙ sym h.2)

pub of_both : (us ws : List ℕ) → AreRecords us → AreRecords ws → records_of (us ++ ws) ≡ records_of us ++ records_of ws
of_both us ws h k = let all : us ++ ws ≡ concat (h.0 ++ k.0) = (λ j. h.2 j ++ k.2 j) ∙ sym (concat-append h.0 k.0) in
    let one = of_records us h in let other = of_records ws k in
    ap records_of all ∙ (of_concat (h.0 ++ k.0) (All-append IsOneRecord h.0 k.0 h.1 k.1) ∙ (λ j. sym one j ++ sym other j))

-- What a flush and a reset publish

publishes : (ended stable words : List ℕ) (count : ℕ) → AreRecords ended → AreRecords stable → AreInFront words (length words) count
    → (more : List (List ℕ)) × All IsOneRecord more × (length more ≡ count) × (records_of (ended ++ (stable ++ words)) ≡ records_of (ended ++ stable) ++ more)
publishes ended stable words count before now front =
    let text : words ≡ concat front.0 = sym (take_all (length words) words (omega arith)) ∙ front.2 in
    let both = of_both (ended ++ stable) words (records_append ended stable before now) (front.0, front.1, text) in
    let is : records_of words ≡ front.0 = ap records_of text ∙ of_concat front.0 front.1 in (
      front.0,
      front.1,
      front.3,
      ap records_of (sym (append_assoc ended stable words)) ∙ (both ∙ ap (λ (l : List (List ℕ)). records_of (ended ++ stable) ++ l) is),
    )

all_records : (past : List (List ℕ)) → All AreRecords past → AreRecords (concat past)
all_records [] all = ([], (λ k d l. absurd (omega arith)), refl)
all_records (words ∷ past) all = records_append words (concat past) (All-head AreRecords words past all) (all_records past (All-tail AreRecords words past all))

pub flush_publishes : {D : Type 0} (inside old : LogView D) (past : List (List ℕ)) (stable words : List ℕ) (count : ℕ) → inside ≡ old → All AreRecords (flush_view inside.flusher).past → AreRecords inside.stable → AreInFront words (length words) count → stable ≡ inside.stable ++ words
    → past ≡ (flush_view inside.flusher).past → (more : List (List ℕ)) × All IsOneRecord more × (length more ≡ count) × (records_of (concat past ++ stable) ≡ published old ++ more)
flush_publishes inside old past stable words count is before now front all same =
    let p = publishes (concat (flush_view inside.flusher).past) inside.stable words count (all_records (flush_view inside.flusher).past before) now front in
    (p.0, p.1, p.2, ap (λ (l : List (List ℕ)). records_of (concat l ++ stable)) same ∙ (ap (λ (l : List ℕ). records_of (concat (flush_view inside.flusher).past ++ l)) all ∙ (p.3 ∙ ap (λ (x : LogView _). published x ++ p.0) is)))

-- so many more are counted
pub counts_more : {D : Type 0} (s : LogView D) (past : List (List ℕ)) (stable words : List ℕ) (n count : ℕ) → n ≡ length (published s) → All AreRecords (flush_view s.flusher).past → AreRecords s.stable → AreInFront words (length words) count
    → stable ≡ s.stable ++ words → past ≡ (flush_view s.flusher).past → n + count ≡ length (records_of (concat past ++ stable))
counts_more s past stable words n count was before now front all same =
    let more = flush_publishes s s past stable words count refl before now front all same in
    let long = ap (λ (l : List (List ℕ)). length l) more.3 ∙ length-append (published s) more.0 in
    let many = more.2 in
    omega (arith, long, many, was)

few_behind : (words : List ℕ) (rest : ℕ) → length (records_behind words rest) ≤ length words
few_behind [] rest = omega arith
few_behind (word ∷ words) zero = (let few = few_behind words (word / 2 ^ 32 - 1) in omega (arith, few))
few_behind (word ∷ words) (suc rest) = (let few = few_behind words rest in omega (arith, few))

-- no more records than words
few_records : (words : List ℕ) → length (records_of words) ≤ length words
unfolding records_of
few_records words = few_behind words 0

-- so their number is a `u64`
pub count_fits : (past : List (List ℕ)) (stable : List ℕ) (n round : ℕ) → n ≡ length (records_of (concat past ++ stable)) → length (concat past) ≤ round * 65536 → round < 2 ^ 48 → length stable < 65536 → n < 2 ^ 64
count_fits past stable n round is most few short = (let all = few_records (concat past ++ stable) in let long = length-append (concat past) stable in omega (arith, is, all, long, most, few, short))

pub tail_is : (all stable words : List ℕ) (start : ℕ) → all ≡ stable ++ words → start ≡ length stable → take (length all - start) (drop start all) ≡ words
tail_is all stable words start is at = take_rest all start ∙ (ap (drop start) is ∙ drop_at stable words start (sym at))

pub no_record_in_front : AreInFront [] 0 0
no_record_in_front = ([], (λ k d l. absurd (omega arith)), refl, refl)

-- Where records begin

pub got_behind : {X : Type 0} (front behind : List X) (n : ℕ) → n ≡ length front → slice_get (front ++ behind) n ≡ slice_get behind 0
got_behind [] behind n is = ap (slice_get behind) is
got_behind (x ∷ front) behind zero is = absurd (omega arith)
got_behind (x ∷ front) behind (suc n) is = got_behind front behind n (omega arith)

-- a list that is taken apart twice
overlap : {X : Type 0} (xs ys us vs : List X) → xs ++ ys ≡ us ++ vs
    → ((zs : List X) × (us ≡ xs ++ zs) × (ys ≡ zs ++ vs)) ⊎ ((zs : List X) × (xs ≡ us ++ zs) × (vs ≡ zs ++ ys))
overlap [] ys us vs e = inl (us, refl, e)
overlap (x ∷ xs) ys [] vs e = inr (x ∷ xs, refl, sym e)
overlap (x ∷ xs) ys (u ∷ us) vs e = let whole : x ∷ (xs ++ ys) ≡ u ∷ (us ++ vs) = e in
    let heads : x ≡ u = cc in
    let tails : xs ++ ys ≡ us ++ vs = cc in elim (overlap xs ys us vs tails) [
      | inl w ↦ inl (w.0, (λ k. sym heads k ∷ w.1 k), w.2)
      | inr w ↦ inr (w.0, (λ k. heads k ∷ w.1 k), w.2)
    ]

-- records without a word are none
none_there : (rs : List (List ℕ)) → All IsOneRecord rs → length (concat rs) ≡ 0 → rs ≡ []
none_there [] all none = refl
none_there (r ∷ rs) all none = absurd (let some = some_record r (All-head IsOneRecord r rs all) in let long = length-append r (concat rs) in omega arith)

-- the record of this number is the first after a place of some words
pub record IsFirst (words : List ℕ) (place : ℕ) (records : List (List ℕ)) (count : ℕ) : Type 0 where
  pub within : place ≤ length words
  pub are : AreRecords (drop place words)
  pub first : slice_get (records_of (drop place words)) 0 ≡ slice_get records count

-- some of the records are those of the words
first_of : (words : List ℕ) (place count : ℕ) (records front zs behind : List (List ℕ)) → All IsOneRecord zs → (before : List ℕ) → words ≡ before ++ concat zs → length before ≡ place
    → records ≡ front ++ behind → length front ≡ count → slice_get behind 0 ≡ slice_get zs 0 → IsFirst words place records count
first_of words place count records front zs behind all before text at is count_is same =
    let rest : drop place words ≡ concat zs = ap (drop place) text ∙ drop_at before (concat zs) place at in record {
      within = (let long : length words ≡ length (before ++ concat zs) = ap (λ (l : List ℕ). length l) text in let both = length-append before (concat zs) in omega arith);
      are = (zs, all, rest);
      first = ap (λ (l : List ℕ). slice_get (records_of l) 0) rest ∙ (ap (λ (l : List (List ℕ)). slice_get l 0) (of_concat zs all)
          ∙ (sym same ∙ (sym (got_behind front behind count (sym count_is)) ∙ ap (λ (l : List (List ℕ)). slice_get l count) (sym is))));
    }

module _ (ended stable : List ℕ) (before : AreRecords ended) (now : AreRecords stable) (count place : ℕ) (start : IsStart (records_of (ended ++ stable)) count place) where
  both : start.0 ++ start.1 ≡ before.0 ++ now.0
  both = sym start.2 ∙ (of_both ended stable before now ∙ (λ k. of_records ended before k ++ of_records stable now k))

  long : length ended ≡ length (concat before.0)
  long = ap (λ (l : List ℕ). length l) before.2

  at : length (concat start.0) ≡ place
  at = start.4

  nonempty : (zs : List (List ℕ)) → 0 < length (concat zs) → slice_get (zs ++ now.0) 0 ≡ slice_get zs 0
  nonempty [] some = absurd (omega arith)
  nonempty (z ∷ zs) some = refl

  in_ended : place < length ended → IsFirst ended place (records_of (ended ++ stable)) count
  in_ended inside = elim (overlap start.0 start.1 before.0 now.0 both) [
    | inl w ↦ (let text : ended ≡ concat start.0 ++ concat w.0 = before.2 ∙ (ap concat w.1 ∙ concat-append start.0 w.0) in
        let sum : length ended ≡ length (concat start.0 ++ concat w.0) = ap (λ (l : List ℕ). length l) text in let parts = length-append (concat start.0) (concat w.0) in let here = at in
        first_of ended place count (records_of (ended ++ stable)) start.0 w.0 start.1 (all_behind IsOneRecord start.0 w.0 (subst (All IsOneRecord) w.1 before.1)) (concat start.0) text at start.2 start.3
        (ap (λ (l : List (List ℕ)). slice_get l 0) w.2 ∙ nonempty w.0 (omega arith)))
    | inr w ↦ absurd (let sum : length (concat start.0) ≡ length (concat (before.0 ++ w.0)) = ap (λ (l : List (List ℕ)). length (concat l)) w.1 in
        let parts : length (concat (before.0 ++ w.0)) ≡ length (concat before.0) + length (concat w.0) = ap (λ (l : List ℕ). length l) (concat-append before.0 w.0) ∙ length-append (concat before.0) (concat w.0) in
        let here = at in let all = long in omega arith)
  ]

  -- those in front are of ended rounds, or some are stable
  behind_ended : length ended ≤ place → (zs : List (List ℕ)) × (start.0 ≡ before.0 ++ zs) × (now.0 ≡ zs ++ start.1)
  behind_ended outside = elim (overlap start.0 start.1 before.0 now.0 both) [
    | inl w ↦ (let sum : length (concat before.0) ≡ length (concat (start.0 ++ w.0)) = ap (λ (l : List (List ℕ)). length (concat l)) w.1 in
        let parts : length (concat (start.0 ++ w.0)) ≡ length (concat start.0) + length (concat w.0) = ap (λ (l : List ℕ). length l) (concat-append start.0 w.0) ∙ length-append (concat start.0) (concat w.0) in
        let here = at in let all = long in
        let none : w.0 ≡ [] = none_there w.0 (all_behind IsOneRecord start.0 w.0 (subst (All IsOneRecord) w.1 before.1)) (omega arith) in
        let same : before.0 ≡ start.0 = w.1 ∙ (ap (λ (l : List (List ℕ)). start.0 ++ l) none ∙ append-nil start.0) in (
          [],
          sym same ∙ sym (append-nil before.0),
          sym (w.2 ∙ ap (λ (l : List (List ℕ)). l ++ now.0) none),
        ))
    | inr w ↦ (w.0, w.1, w.2)
  ]

  in_stable : length ended ≤ place → IsFirst stable (place - length ended) (records_of (ended ++ stable)) count
  in_stable outside = let w = behind_ended outside in
      let text : stable ≡ concat w.0 ++ concat start.1 = now.2 ∙ (ap concat w.2 ∙ concat-append w.0 start.1) in
      let sum : length (concat start.0) ≡ length (concat (before.0 ++ w.0)) = ap (λ (l : List (List ℕ)). length (concat l)) w.1 in
      let parts : length (concat (before.0 ++ w.0)) ≡ length (concat before.0) + length (concat w.0) = ap (λ (l : List ℕ). length l) (concat-append before.0 w.0) ∙ length-append (concat before.0) (concat w.0) in
      let here = at in let all = long in
      first_of stable (place - length ended) count (records_of (ended ++ stable)) start.0 start.1 start.1 (all_behind IsOneRecord w.0 start.1 (subst (All IsOneRecord) w.2 now.1)) (concat w.0) text (omega arith) start.2 start.3 refl

-- after words that are not kept

left_start : (front rest : List ℕ) (before : AreRecords front) (now : AreRecords rest) (count place : ℕ) → IsStart (records_of (front ++ rest)) count place → length front ≤ place
    → (n : ℕ) × IsStart (records_of rest) n (place - length front) × (slice_get (records_of rest) n ≡ slice_get (records_of (front ++ rest)) count)
left_start front rest before now count place start outside =
    let w = behind_ended front rest before now count place start outside in
    let are : records_of rest ≡ w.0 ++ start.1 = of_records rest now ∙ w.2 in
    let all : length front ≡ length (concat before.0) = ap (λ (l : List ℕ). length l) before.2 in
    let sum : length (concat start.0) ≡ length (concat (before.0 ++ w.0)) = ap (λ (l : List (List ℕ)). length (concat l)) w.1 in
    let parts : length (concat (before.0 ++ w.0)) ≡ length (concat before.0) + length (concat w.0) = ap (λ (l : List ℕ). length l) (concat-append before.0 w.0) ∙ length-append (concat before.0) (concat w.0) in
    let here : length (concat start.0) ≡ place = start.4 in
    let some : place ≡ place - length front + length front = omega (arith, outside) in (
      length w.0,
      (w.0, start.1, are, refl, omega (arith, all, sum, parts, here, some)),
      ap (λ (l : List (List ℕ)). slice_get l (length w.0)) are ∙ got_behind w.0 start.1 (length w.0) refl
          ∙ sym (ap (λ (l : List (List ℕ)). slice_get l count) start.2 ∙ got_behind start.0 start.1 count (sym start.3)),
    )

typed : (rs : List Record) → All IsRecordWhole rs → AreRecords (joined rs)
typed [] whole = ([], (λ k d l. absurd (omega arith)), refl)
typed (r ∷ rs) whole = records_append (spelling r) (joined rs) (spelling r ∷ [], one_alone (spelling r) (r, whole_record r (All-head IsRecordWhole r rs whole)), sym (append-nil (spelling r))) (typed rs (All-tail IsRecordWhole r rs whole))

-- The same of a log, whose words are seen as slices

module _ {D : Type 0} (inside old : LogView D) (is : inside ≡ old) (known : List ℕ) (left : IsLeft (flush_view inside.flusher).past known inside.gone inside.ended) (past : All AreRecords (flush_view inside.flusher).past) (now : AreRecords inside.stable) where
  gone : List ℕ
  gone = joined left.front

  before : AreRecords inside.ended
  before = subst AreRecords (sym left.text) (typed left.kept left.whole)

  parts : concat (flush_view inside.flusher).past ++ inside.stable ≡ joined left.front ++ (inside.ended ++ inside.stable)
  parts = ap (λ (l : List ℕ). l ++ inside.stable) left.parts ∙ append_assoc (joined left.front) inside.ended inside.stable

  kept_start : (count place : ℕ) → IsStart (published old) count place → inside.gone ≤ place
      → (n : ℕ) × IsStart (records_of (inside.ended ++ inside.stable)) n (place - inside.gone) × (slice_get (records_of (inside.ended ++ inside.stable)) n ≡ slice_get (published old) count)
  kept_start count place start outside =
      let own : IsStart (records_of (joined left.front ++ (inside.ended ++ inside.stable))) count place = subst (λ (l : List ℕ). IsStart (records_of l) count place) parts (subst (λ (x : LogView D). IsStart (published x) count place) (sym is) start) in
      let far : length (joined left.front) ≤ place = (let same = left.gone_is in omega (arith, same, outside)) in
      let found = left_start (joined left.front) (inside.ended ++ inside.stable) (typed left.front left.front_whole) (records_append inside.ended inside.stable before now) count place own far in (
        found.0,
        subst (λ (m : ℕ). IsStart (records_of (inside.ended ++ inside.stable)) found.0 (place - m)) (sym left.gone_is) found.1,
        found.2 ∙ ap (λ (l : List ℕ). slice_get (records_of l) count) (sym parts) ∙ ap (λ (x : LogView D). slice_get (published x) count) is,
      )

  with_first : (words : List ℕ) (place count n : ℕ) → IsFirst words place (records_of (inside.ended ++ inside.stable)) n → slice_get (records_of (inside.ended ++ inside.stable)) n ≡ slice_get (published old) count → IsFirst words place (published old) count
  with_first words place count n first same = record { within = first.within; are = first.are; first = first.first ∙ same }

  pub found_ended : (words : List ℕ) (place count at : ℕ) → words ≡ inside.ended → at ≡ place - inside.gone → inside.gone ≤ place → at < length words → IsStart (published old) count place → IsFirst words at (published old) count
  found_ended words place count at same at_is outside within start =
      let k = kept_start count place start outside in
      let own : IsFirst inside.ended at (records_of (inside.ended ++ inside.stable)) k.0 =
      in_ended inside.ended inside.stable before now k.0 at (subst (IsStart (records_of (inside.ended ++ inside.stable)) k.0) (sym at_is) k.1) (let long : length words ≡ length inside.ended = ap (λ (l : List ℕ). length l) same in omega arith) in
      subst (λ (l : List ℕ). IsFirst l at (published old) count) (sym same) (with_first inside.ended at count k.0 own k.2)

  pub behind_stable : (words behind : List ℕ) (place count at : ℕ) → words ≡ inside.ended → behind ≡ inside.stable → at ≡ place - inside.gone → inside.gone ≤ place → length words ≤ at → IsStart (published old) count place
      → IsFirst behind (at - length words) (published old) count
  behind_stable words behind place count at same too at_is outside past_all start =
      let k = kept_start count place start outside in
      let own : IsFirst inside.stable (at - length inside.ended) (records_of (inside.ended ++ inside.stable)) k.0 =
      in_stable inside.ended inside.stable before now k.0 at (subst (IsStart (records_of (inside.ended ++ inside.stable)) k.0) (sym at_is) k.1) (let long : length words ≡ length inside.ended = ap (λ (l : List ℕ). length l) same in omega arith) in
      subst (λ (l : List ℕ). IsFirst l (at - length words) (published old) count) (sym too)
      (subst (λ (l : List ℕ). IsFirst inside.stable (at - length l) (published old) count) (sym same) (with_first inside.stable (at - length inside.ended) count k.0 own k.2))

  pub is_whole : IsWhole old
  is_whole = let w = all_whole (concat (flush_view inside.flusher).past ++ inside.stable) (records_append (concat (flush_view inside.flusher).past) inside.stable (all_records (flush_view inside.flusher).past past) now) in subst (λ (x : LogView D). IsWhole x) is (w.0, w.1)

-- after a record the next begins
next_start : (records : List (List ℕ)) (count place : ℕ) (front behind : List (List ℕ)) → records ≡ front ++ behind → length front ≡ count → length (concat front) ≡ place
    → (words : List ℕ) → slice_get records count ≡ Some words → IsStart records (count + 1) (place + length words)
next_start records count place front [] is count_is at words got = absurd (let none : slice_get records count ≡ None = ap (λ (l : List (List ℕ)). slice_get l count) is ∙ got_behind front [] count (sym count_is) in let no : Some words ≡ None = sym got ∙ none in cc)
next_start records count place front (r ∷ behind) is count_is at words got =
    let first : slice_get records count ≡ Some r = ap (λ (l : List (List ℕ)). slice_get l count) is ∙ got_behind front (r ∷ behind) count (sym count_is) in
    let both : Some words ≡ Some r = sym got ∙ first in let same : words ≡ r = cc in
    let last : concat (front ++ r ∷ []) ≡ concat front ++ r = concat-append front (r ∷ []) ∙ ap (λ (l : List ℕ). concat front ++ l) (append-nil r) in (
      front ++ r ∷ [],
      behind,
      is ∙ sym (append_assoc front (r ∷ []) behind),
      length-append front (r ∷ []) ∙ ap (λ (n : ℕ). n + 1) count_is,
      ap (λ (l : List ℕ). length l) last ∙ (length-append (concat front) r ∙ (λ k. at k + length (sym same k))),
    )

pub next_behind : {X : Type 0} (shown : X → List ℕ) (result : Option X) (records : List (List ℕ)) (count place : ℕ) → IsStart records count place → option_map shown result ≡ slice_get records count
    → IfSome result (λ x. IsStart records (count + 1) (place + length (shown x)))
next_behind shown None records count place start got = tt
next_behind shown (Some x) records count place start got = next_start records count place start.0 start.1 start.2 start.3 start.4 (shown x) (sym got)

-- the first of some records
pub first_none : (words : List ℕ) → words ≡ [] → slice_get (records_of words) 0 ≡ None
first_none words none = ap (λ (l : List ℕ). slice_get (records_of l) 0) none ∙ ap (λ (l : List (List ℕ)). slice_get l 0) no_record

first_taken : (rs : List (List ℕ)) (words : List ℕ) → All IsOneRecord rs → words ≡ concat rs → 0 < length words → (n : ℕ) → n ≡ get_or words 0 0 / 2 ^ 32 → (0 < n) × (n ≤ length words) × (slice_get rs 0 ≡ Some (take n words))
first_taken [] words all text some n is = absurd (let none : length words ≡ 0 = ap (λ (l : List ℕ). length l) text in omega arith)
first_taken (r ∷ rs) words all text some n is = let one = All-head IsOneRecord r rs all in let filled = some_record r one in
    let header : get_or words 0 0 ≡ get_or r 0 0 = ap (λ (l : List ℕ). get_or l 0 0) text ∙ get_or-append r (concat rs) 0 0 filled in
    let tells : n ≡ length r = is ∙ (ap (λ (k : ℕ). k / 2 ^ 32) header ∙ header_tells r one) in
    let long : length words ≡ length (r ++ concat rs) = ap (λ (l : List ℕ). length l) text in let parts = length-append r (concat rs) in (
      omega arith,
      omega arith,
      ap (λ (l : List ℕ). Some l) (sym (ap (take n) text ∙ take_at r (concat rs) n (sym tells))),
    )

pub first_there : (words : List ℕ) → AreRecords words → 0 < length words → (n : ℕ) → n ≡ get_or words 0 0 / 2 ^ 32 → (0 < n) × (n ≤ length words) × (slice_get (records_of words) 0 ≡ Some (take n words))
first_there words h some n is = let t = first_taken h.0 words h.1 h.2 some n is in (t.0, t.1, ap (λ (l : List (List ℕ)). slice_get l 0) (of_records words h) ∙ t.2)
