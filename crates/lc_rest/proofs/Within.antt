-- The number up to which all of a segment is stable, counted in one pass over the records.
use Rattle.std.proofs.Common.{◌≡◌, ℕ, suc, ◌+◌, ◌<◌, ◌≤◌, Bool, true, false, ◌&&◌, List, [], ◌∷◌, ◌++◌, map, filter, length, All, refl, sym, ◌∙◌, ap, subst, arith, inl, inr}
use Rattle.std.specs.Prelude.{nat_lt, if◌then◌else◌, slice_index}
use Rattle.std.proofs.lemmas.List.{map-append}
use Rattle.std.proofs.lemmas.List.Elements.{All-head, All-tail}
use Rattle.lc_record.specs.Content.{segment_of}
use Rattle.lc_record.specs.Record.{Writes}
use Rattle.lc_record.specs.Transaction.{Transaction, all_set}
use Rattle.lc_record.specs.declared.geometry.Geometry.{Geometry}
use Rattle.lc_record.specs.declared.record.RangeData.{RangeData}
use Rattle.lc_record.specs.declared.record.Record.{Record}
use Rattle.lc_record.proofs.ListLemmas.{same_Bool as same-bool}
use Rattle.lc_range.specs.RangeSet.{Has}
use Rattle.lc_model.specs.History.{Cut, Numbered, numbered_after, is_of, is_kept, kept}
use Rattle.lc_model.specs.Merge.{Page}
use Rattle.lc_model.specs.Merging.{sets}
use Rattle.lc_model.specs.State.{Place}
use Rattle.lc_model.specs.Stored.{acked, stable_number}
use Rattle.lc_model.proofs.Merging.{counted-length}
use Rattle.lc_model.proofs.RecordBytes.{place-set, set-place}
use Rattle.lc_model.proofs.Shown.{get-acked}
use Rattle.lc_rest.specs.Adopted.{transaction_of, marks_of, history_of, state_of, disks_of, count_from, IsTaken}
use Rattle.lc_rest.specs.Turns.{Turn, turns_of, has_lock, stable_on}
use Rattle.lc_rest.proofs.OneRecord.{run_of, marks-has}
use Rattle.lc_rest.proofs.OneLock.{member-lock}
use Rattle.lc_rest.proofs.Standing.{transactions_of, has-writes, range-locks, some-bytes}
use Rattle.lc_rest.proofs.SoundState.{transactions-are}
use Rattle.lc_rest.proofs.Turned.{count-same}

-- a range of the segment has a place
written-place : (ranges : List RangeData) (segment : ℕ) → All (λ (r : RangeData). 1 ≤ length r.bytes) ranges → Writes segment ranges → (place : ℕ) × Has (map run_of ranges) segment place
written-place [] segment some writes = absurd writes
written-place (r ∷ ranges) segment some writes = elim writes [
  | inl here ↦ let long : 1 ≤ length r.bytes = All-head (λ (q : RangeData). 1 ≤ length q.bytes) r ranges some in (r.offset, inl (sym here, omega arith, omega (arith, long)))
  | inr later ↦ let its : (place : ℕ) × Has (map run_of ranges) segment place = written-place ranges segment (All-tail (λ (q : RangeData). 1 ≤ length q.bytes) r ranges some) later in (its.0, inr its.1)
]

-- its transaction set what the record has a lock on
pub sets-lock : (g : Geometry) (r : Record) (segment : ℕ) → IsTaken g r → sets segment (transaction_of g r) ≡ has_lock segment r
sets-lock g r segment taken = same-bool (sets segment (transaction_of g r)) (has_lock segment r)
    (λ set. let at : (place : ℕ) × (all_set place 1 (segment_of segment (marks_of g r.ranges)) ≡ true) = set-place (segment_of segment (marks_of g r.ranges)) set in
    range-locks r taken.canonical segment (has-writes r.ranges segment at.0 ((marks-has g r.ranges taken.inside segment at.0).1 at.1)))
    (λ is. let at : (place : ℕ) × Has (map run_of r.ranges) segment place = written-place r.ranges segment (some-bytes r.ranges taken.canonical.each_range) ((taken.canonical.same_segments segment).0 (member-lock segment r.locks is)) in
    place-set (segment_of segment (marks_of g r.ranges)) at.0 ((marks-has g r.ranges taken.inside segment at.0).0 at.1))

count-left : {X Y : Type 0} (p : Y → Bool) (h : X → Y) (k : Bool) (x : X) (xs : List X) → length (filter p (map h (if k then x ∷ xs else xs))) ≡ (if k && p (h x) then suc (length (filter p (map h xs))) else length (filter p (map h xs)))
count-left p h false x xs = refl
count-left p h true x xs = elim (p (h x)) as (λ b. length (if b then h x ∷ filter p (map h xs) else filter p (map h xs)) ≡ (if b then suc (length (filter p (map h xs))) else length (filter p (map h xs)))) [
  | true ↦ refl
  | false ↦ refl
]

count-right : {X : Type 0} (c : Bool) (u : X) (us : List X) → length (if c then u ∷ us else us) ≡ (if c then suc (length us) else length us)
count-right true u us = refl
count-right false u us = refl

more-same : (k b t l : Bool) (n m : ℕ) → k ≡ b → t ≡ l → n ≡ m → (if k && t then suc n else n) ≡ (if b && l then suc m else m)
more-same k b t l n m one two three = ap (λ c. if c && t then suc n else n) one ∙ ap (λ c. if b && c then suc n else n) two ∙ ap (λ i. if b && l then suc i else i) three

-- those that a cut keeps and that set some of the segment
kept-count : (g : Geometry) (stable : ℕ → ℕ) (cut : Cut) (segment : ℕ) → ((node : ℕ) → node < g.nodes → slice_index cut node ≡ stable node) → (before rs : List Record) → All (IsTaken g) rs → All (λ (r : Record). r.node < g.nodes) rs
    → length (filter (sets segment) (map (λ (x : Numbered). x.transaction) (filter (is_kept cut) (numbered_after (transactions_of g before) (transactions_of g rs))))) ≡ stable_on segment (turns_of stable before rs)
kept-count g stable cut segment same before [] taken nodes = refl
kept-count g stable cut segment same before (r ∷ rs) taken nodes =
    let behind : List Numbered = numbered_after (transactions_of g before ++ transaction_of g r ∷ []) (transactions_of g rs) in
    let later : length (filter (sets segment) (map (λ (x : Numbered). x.transaction) (filter (is_kept cut) behind))) ≡ stable_on segment (turns_of stable (before ++ r ∷ []) rs) =
    subst (λ (bs : List Transaction). length (filter (sets segment) (map (λ (x : Numbered). x.transaction) (filter (is_kept cut) (numbered_after bs (transactions_of g rs))))) ≡ stable_on segment (turns_of stable (before ++ r ∷ []) rs))
    (map-append (transaction_of g) before (r ∷ [])) (kept-count g stable cut segment same (before ++ r ∷ []) rs (All-tail (IsTaken g) r rs taken) (All-tail (λ (q : Record). q.node < g.nodes) r rs nodes)) in
    let keeps : nat_lt (length (filter (is_of r.node) (transactions_of g before))) (slice_index cut r.node) ≡ nat_lt (count_from r.node before) (stable r.node) =
    ap (λ n. nat_lt n (slice_index cut r.node)) (count-same g r.node before) ∙ ap (nat_lt (count_from r.node before)) (same r.node (All-head (λ (q : Record). q.node < g.nodes) r rs nodes)) in
    count-left (sets segment) (λ (x : Numbered). x.transaction) (nat_lt (length (filter (is_of r.node) (transactions_of g before))) (slice_index cut r.node))
    (record { transaction = transaction_of g r; number = length (filter (is_of r.node) (transactions_of g before)) }) (filter (is_kept cut) behind)
    ∙ more-same (nat_lt (length (filter (is_of r.node) (transactions_of g before))) (slice_index cut r.node)) (nat_lt (count_from r.node before) (stable r.node)) (sets segment (transaction_of g r)) (has_lock segment r)
    (length (filter (sets segment) (map (λ (x : Numbered). x.transaction) (filter (is_kept cut) behind)))) (stable_on segment (turns_of stable (before ++ r ∷ []) rs))
    keeps (sets-lock g r segment (All-head (IsTaken g) r rs taken)) later
    ∙ sym (count-right (nat_lt (count_from r.node before) (stable r.node) && has_lock segment r) (record { whole = r; stable = nat_lt (count_from r.node before) (stable r.node) })
    (filter (λ (u : Turn). u.stable && has_lock segment u.whole) (turns_of stable (before ++ r ∷ []) rs)))

-- what a page may have at most
pub stable-counted : (g : Geometry) (rs : List Record) (stable dropped : ℕ → ℕ) (place : ℕ → Place) (numbers : ℕ → ℕ) (pages : ℕ → ℕ → Page) (segment : ℕ) → All (IsTaken g) rs → All (λ (r : Record). r.node < g.nodes) rs
    → stable_number g (state_of g rs stable place) (disks_of numbers dropped pages) segment ≡ numbers segment + stable_on segment (turns_of stable [] rs)
stable-counted g rs stable dropped place numbers pages segment taken nodes =
    counted-length numbers (kept (history_of g rs) (acked g (state_of g rs stable place))) segment
    ∙ ap (λ n. numbers segment + n)
    (ap (λ (ts : List Transaction). length (filter (sets segment) (map (λ (x : Numbered). x.transaction) (filter (is_kept (acked g (state_of g rs stable place))) (numbered_after [] ts))))) (transactions-are g rs)
    ∙ kept-count g stable (acked g (state_of g rs stable place)) segment (get-acked g (state_of g rs stable place)) [] rs taken nodes)
