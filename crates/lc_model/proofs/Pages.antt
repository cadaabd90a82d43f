-- A page stands for the first transactions of its segment, and records with greater numbers come on top.
use Rattle.std.proofs.Common.{◌≡◌, ◌⊎◌, ℕ, zero, suc, ◌+◌, ◌-◌, ◌*◌, ◌<◌, ◌≤◌, true, false, not, ◌&&◌, nat_lt, List, [], ◌∷◌, ◌++◌, length, filter, get_or, take, drop, Option, is_some, All, Contains, IsTrue, refl, sym, ◌∙◌, ap, subst, arith, inl, inr, true≢false, lt-ltb, le-ltb}
use Rattle.std.specs.Prelude.{if◌then◌else◌, slice_get}
use Rattle.std.proofs.lemmas.Bool.{cases_lt}
use Rattle.std.proofs.lemmas.List.Elements.{All-head, All-tail, All-append, All-contains, All-filter, All-map, filter-append}
use Rattle.std.proofs.lemmas.List.{length-take-le as take-length}
use Rattle.lc_record.specs.Content.{Content, segment_of}
use Rattle.lc_record.specs.Transaction.{Transaction, IsWellFormed, locks, effects}
use Rattle.lc_record.specs.declared.record.Record.{Record}
use Rattle.lc_record.specs.Recorded.{records_from}
use Rattle.lc_model.specs.History.{Numbered, History, Cut, transactions, numbered, kept, rest, is_kept, IsClosed}
use Rattle.lc_record.specs.Newest.{number_or_zero, byte_of, has_byte, IsNewest, IsByNumber}
use Rattle.lc_record.proofs.ListLemmas.{slice_get-take as get-take, All-append_left as All-left, All-append_right as All-right, slice_get-drop as get-drop}
use Rattle.lc_model.specs.Merging.{byte_at, sets, counted_all}
use Rattle.lc_model.proofs.Law.{law_order, all-numbered_after}
use Rattle.lc_model.proofs.Lists.{All-from_map}
use Rattle.lc_model.proofs.RecordBytes.{sets-locks}
use Rattle.lc_model.proofs.Merging.{by_number-all, of_a_segment, counted-length}

-- Lists

-- What is kept has the first transactions of each segment

well-kept_rest : (history : History) (cut : Cut) → All IsWellFormed (transactions history) → All IsWellFormed (kept history cut ++ rest history cut)
well-kept_rest history cut well =
    let Well : Numbered → Type 0 = λ (x : Numbered). IsWellFormed x.transaction in
    let each : All Well (numbered history) = All-from_map IsWellFormed (λ (x : Numbered). x.transaction) (numbered history)
    (subst (λ (ts : List Transaction). All IsWellFormed ts) (sym (all-numbered_after [] (transactions history))) well) in
    All-append IsWellFormed (kept history cut) (rest history cut)
    (All-map IsWellFormed (λ (x : Numbered). x.transaction) (filter (is_kept cut) (numbered history)) (All-filter (is_kept cut) Well (numbered history) each))
    (All-map IsWellFormed (λ (x : Numbered). x.transaction) (filter (λ x. not (is_kept cut x)) (numbered history)) (All-filter (λ x. not (is_kept cut x)) Well (numbered history) each))

sets-of-locks : (segment : ℕ) (ts : List Transaction) → All IsWellFormed ts → filter (sets segment) (filter (λ t. locks t segment) ts) ≡ filter (sets segment) ts
sets-of-locks segment [] well = refl
sets-of-locks segment (t ∷ ts) well =
    let next : filter (sets segment) (filter (λ t. locks t segment) ts) ≡ filter (sets segment) ts = sets-of-locks segment ts (All-tail IsWellFormed t ts well) in
    elim (locks t segment) as (λ b. locks t segment ≡ b → filter (sets segment) (if b then t ∷ filter (λ t. locks t segment) ts else filter (λ t. locks t segment) ts) ≡ filter (sets segment) (t ∷ ts)) [
      | true ↦ λ e. ap (λ us. if sets segment t then t ∷ us else us) next
      | false ↦ λ e.
          let unset : sets segment t ≡ false =
          elim (sets segment t) as (λ b. sets segment t ≡ b → b ≡ false) [
            | true ↦ λ set. absurd (true≢false (sym (sets-locks t segment (All-head IsWellFormed t ts well) set) ∙ e))
            | false ↦ λ set. refl
          ] refl in
          next ∙ sym (ap (λ b. if b then t ∷ filter (sets segment) ts else filter (sets segment) ts) unset)
    ] refl

-- those of the history that set some of a segment are those that are kept, and then the others
pub kept-first : (history : History) (cut : Cut) (segment : ℕ) → All IsWellFormed (transactions history) → IsClosed history cut → filter (sets segment) (transactions history) ≡ filter (sets segment) (kept history cut) ++ filter (sets segment) (rest history cut)
kept-first history cut segment well closed =
    sym (sets-of-locks segment (transactions history) well)
    ∙ ap (filter (sets segment)) (sym (law_order history cut segment closed))
    ∙ sets-of-locks segment (kept history cut ++ rest history cut) (well-kept_rest history cut well)
    ∙ filter-append (sets segment) (kept history cut) (rest history cut)

-- a list in two parts, the first of which has this many of the segment
pub record Split (segment k : ℕ) (ts : List Transaction) : Type 0 where
  pub us : List Transaction
  pub vs : List Transaction
  pub parts : ts ≡ us ++ vs
  pub first : filter (sets segment) us ≡ take k (filter (sets segment) ts)

split-set : (segment k : ℕ) (t : Transaction) (ts : List Transaction) → sets segment t ≡ true → Split segment k ts → Split segment (suc k) (t ∷ ts)
split-set segment k t ts e next = record {
  us = t ∷ next.us;
  vs = next.vs;
  parts = ap (λ us. t ∷ us) next.parts;
  first = ap (λ b. if b then t ∷ filter (sets segment) next.us else filter (sets segment) next.us) e
      ∙ ap (λ us. t ∷ us) next.first
      ∙ sym (ap (λ b. take (suc k) (if b then t ∷ filter (sets segment) ts else filter (sets segment) ts)) e);
}

split-unset : (segment k : ℕ) (t : Transaction) (ts : List Transaction) → sets segment t ≡ false → Split segment k ts → Split segment k (t ∷ ts)
split-unset segment k t ts e next = record {
  us = t ∷ next.us;
  vs = next.vs;
  parts = ap (λ us. t ∷ us) next.parts;
  first = ap (λ b. if b then t ∷ filter (sets segment) next.us else filter (sets segment) next.us) e
      ∙ next.first
      ∙ sym (ap (λ b. take k (if b then t ∷ filter (sets segment) ts else filter (sets segment) ts)) e);
}

pub split-at : (segment k : ℕ) (ts : List Transaction) → k ≤ length (filter (sets segment) ts) → Split segment k ts
split-at segment zero ts within = record { us = []; vs = ts; parts = refl; first = refl }
split-at segment (suc k) [] within = absurd (omega arith)
split-at segment (suc k) (t ∷ ts) within =
    elim (sets segment t) as (λ b. sets segment t ≡ b → suc k ≤ length (if b then t ∷ filter (sets segment) ts else filter (sets segment) ts) → Split segment (suc k) (t ∷ ts)) [
      | true ↦ λ e more.
          let less : k ≤ length (filter (sets segment) ts) = omega (arith, more) in
          split-set segment k t ts e (split-at segment k ts less)
      | false ↦ λ e more. split-unset segment (suc k) t ts e (split-at segment (suc k) ts more)
    ] refl within

-- By number

-- a record's number is 0 or above the segment's at the last recovery, so a lower sequence tells the same of it
floor-same : (segment place low sequence : ℕ) (r : Record) → (number_or_zero segment r.locks ≡ 0) ⊎ (low < number_or_zero segment r.locks) → has_byte segment place (low + (sequence - low)) r ≡ has_byte segment place sequence r
floor-same segment place low sequence r above =
    let same : nat_lt (low + (sequence - low)) (number_or_zero segment r.locks) ≡ nat_lt sequence (number_or_zero segment r.locks) =
    elim above [
      | inl none ↦
          let one : number_or_zero segment r.locks ≤ low + (sequence - low) = omega (arith, none) in
          let other : number_or_zero segment r.locks ≤ sequence = omega (arith, none) in
          le-ltb (low + (sequence - low)) (number_or_zero segment r.locks) one ∙ sym (le-ltb sequence (number_or_zero segment r.locks) other)
      | inr over ↦
          (elim (cases_lt sequence (number_or_zero segment r.locks)) [
            | inl less ↦
                let one : low + (sequence - low) < number_or_zero segment r.locks = omega (arith, over, less) in
                lt-ltb (low + (sequence - low)) (number_or_zero segment r.locks) one ∙ sym (lt-ltb sequence (number_or_zero segment r.locks) less)
            | inr not_less ↦
                let one : number_or_zero segment r.locks ≤ low + (sequence - low) = omega (arith, over, not_less) in
                le-ltb (low + (sequence - low)) (number_or_zero segment r.locks) one ∙ sym (le-ltb sequence (number_or_zero segment r.locks) not_less)
          ])
    ] in
    ap (λ b. is_some (byte_of segment place r.ranges) && b) same

-- those with a byte that counts are enough
pub by_number-some : (segment place floor sequence : ℕ) (records others : List Record) (before after : Option ℕ) → All (λ r. has_byte segment place floor r ≡ has_byte segment place sequence r) records → All (Contains records) others → ((r : Record) → Contains records r → has_byte segment place sequence r ≡ true → Contains others r) → IsByNumber segment place floor records before after → IsByNumber segment place sequence others before after
by_number-some segment place floor sequence records others before after same back there by =
    let Same : Record → Type 0 = λ r. has_byte segment place floor r ≡ has_byte segment place sequence r in
    elim by [
      | inl none ↦
          inl (
            (λ k d k_in.
                let among : Contains records (get_or others k d) = back k d k_in in
                sym (All-contains Same records (get_or others k d) same among)
                ∙ All-contains (λ q. has_byte segment place floor q ≡ false) records (get_or others k d) none.0 among),
            none.1,
          )
      | inr one ↦
          let newest : IsNewest segment place floor records after one.0 = one.1 in
          let has : has_byte segment place sequence one.0 ≡ true = sym (All-contains Same records one.0 same newest.among) ∙ newest.has in
          inr (
            one.0,
            record {
              among = there one.0 newest.among has;
              has = has;
              is = newest.is;
              greatest = λ k d k_in passes.
                  (let among : Contains records (get_or others k d) = back k d k_in in
                  All-contains (λ q. IsTrue (has_byte segment place floor q) → number_or_zero segment q.locks ≤ number_or_zero segment one.0.locks) records (get_or others k d) newest.greatest among
                  (All-contains Same records (get_or others k d) same among ∙ passes));
            },
          )
    ]

-- what is told at a byte of a page that stands for the first of a segment's transactions
pub page-byte : (numbers : ℕ → ℕ) (content : Content) (segment page offset sequence : ℕ) (bytes : List ℕ) (ts first : List Transaction) → All IsWellFormed ts → offset < 256 → sequence - numbers segment ≤ length (filter (sets segment) ts) → first ≡ take (sequence - numbers segment) (filter (sets segment) ts) → bytes ≡ take 256 (drop (page * 256) (segment_of segment (effects first content))) → All (λ r. (number_or_zero segment r.locks ≡ 0) ⊎ (numbers segment < number_or_zero segment r.locks)) (records_from numbers content ts) → (floor : ℕ) × All (λ r. has_byte segment (page * 256 + offset) floor r ≡ has_byte segment (page * 256 + offset) sequence r) (records_from numbers content ts) × IsByNumber segment (page * 256 + offset) floor (records_from numbers content ts) (slice_get bytes offset) (byte_at segment (page * 256 + offset) (effects ts content))
page-byte numbers content segment page offset sequence bytes ts first well in_page enough is_first is_page above =
    let k : ℕ = sequence - numbers segment in
    let place : ℕ = page * 256 + offset in
    let cut : Split segment (sequence - numbers segment) ts = split-at segment (sequence - numbers segment) ts enough in
    let two_well : All IsWellFormed (cut.us ++ cut.vs) = subst (λ (us : List Transaction). All IsWellFormed us) cut.parts well in
    let us_well : All IsWellFormed cut.us = All-left IsWellFormed cut.us cut.vs two_well in
    let count : length (filter (sets segment) cut.us) ≡ sequence - numbers segment =
    ap length cut.first ∙ take-length (sequence - numbers segment) (filter (sets segment) ts) enough in
    let floor_is : counted_all numbers cut.us segment ≡ numbers segment + (sequence - numbers segment) =
    counted-length numbers cut.us segment ∙ ap (λ n. numbers segment + n) count in
    let same_segment : segment_of segment (effects cut.us content) ≡ segment_of segment (effects first content) =
    of_a_segment content cut.us segment us_well ∙ ap (λ us. segment_of segment (effects us content)) (cut.first ∙ sym is_first) in
    let byte : slice_get bytes offset ≡ byte_at segment (page * 256 + offset) (effects cut.us content) =
    ap (λ bs. slice_get bs offset) is_page
    ∙ get-take 256 offset (drop (page * 256) (segment_of segment (effects first content))) in_page
    ∙ get-drop (page * 256) offset (segment_of segment (effects first content))
    ∙ ap (λ bs. slice_get bs (page * 256 + offset)) (sym same_segment) in
    let by : IsByNumber segment (page * 256 + offset) (counted_all numbers cut.us segment) (records_from numbers content (cut.us ++ cut.vs)) (byte_at segment (page * 256 + offset) (effects cut.us content)) (byte_at segment (page * 256 + offset) (effects (cut.us ++ cut.vs) content)) =
    by_number-all numbers content cut.us cut.vs segment (page * 256 + offset) (All-right IsWellFormed cut.us cut.vs two_well) in
    let of_all : IsByNumber segment (page * 256 + offset) (counted_all numbers cut.us segment) (records_from numbers content ts) (byte_at segment (page * 256 + offset) (effects cut.us content)) (byte_at segment (page * 256 + offset) (effects ts content)) =
    subst (λ (us : List Transaction). IsByNumber segment (page * 256 + offset) (counted_all numbers cut.us segment) (records_from numbers content us) (byte_at segment (page * 256 + offset) (effects cut.us content)) (byte_at segment (page * 256 + offset) (effects us content))) (sym cut.parts) by in (
      numbers segment + (sequence - numbers segment),
      (λ k d k_in. floor-same segment (page * 256 + offset) (numbers segment) sequence (get_or (records_from numbers content ts) k d) (above k d k_in)),
      subst (λ (n : ℕ). IsByNumber segment (page * 256 + offset) n (records_from numbers content ts) (slice_get bytes offset) (byte_at segment (page * 256 + offset) (effects ts content))) floor_is
          (subst (λ (b : Option ℕ). IsByNumber segment (page * 256 + offset) (counted_all numbers cut.us segment) (records_from numbers content ts) b (byte_at segment (page * 256 + offset) (effects ts content))) (sym byte) of_all),
    )
