-- A transaction at a node's desk as a record: its numbers, and what refuses it.
use Rattle.std.proofs.Common.{◌≡◌, ℕ, zero, suc, ◌+◌, ◌-◌, ◌<◌, ◌≤◌, min, Bool, true, false, nat_lt, List, [], ◌∷◌, filter, length, get_or, All, Option, Some, None, refl, sym, ap, subst, ◌∙◌, inl, inr, arith, true≢false}
use Rattle.std.specs.Prelude.{◌↔◌, ◌^◌, slice_get, Result, Ok, Err, IsSome, vec_len, if◌then◌else◌}
use Rattle.std.specs.Option.{ForSome}
use Rattle.std.proofs.lemmas.Bool.{false_from_ne_true, lt-ltb, le-ltb}
use Rattle.std.proofs.lemmas.List.Elements.{All-head, All-tail}
use Rattle.std.proofs.lemmas.Option.{slice_get_read, slice_get_within as below}
use Rattle.lc_record.specs.Marks.{is_empty}
use Rattle.lc_record.specs.Layout.{layout_len}
use Rattle.lc_record.specs.Record.{record_layout, record_len}
use Rattle.lc_record.specs.Transaction.{Transaction, is_member, locks}
use Rattle.lc_record.specs.declared.layout.Layout.{Layout}
use Rattle.lc_record.specs.declared.record.Record.{Record}
use Rattle.lc_record.specs.declared.record.Lock.{Lock}
use Rattle.lc_record.proofs.LockLemmas.{meet_locks}
use Rattle.lc_record.proofs.ListLemmas.{All-append_right as All-right}
use Rattle.lc_range.specs.RangeSet.{IsCanonical}
use Rattle.lc_model.specs.History.{History, transactions, value}
use Rattle.lc_model.specs.Machine.{Row, dropped, may_refuse_reserve}
use Rattle.lc_model.specs.Merging.{sets, counted_all}
use Rattle.lc_model.specs.Refusals.{refuse_if}
use Rattle.lc_model.specs.Sound.{Sound, IsProper, AreApart, unclosed}
use Rattle.lc_model.specs.State.{Setting, State, running_of, is_by}
use Rattle.lc_model.specs.declared.event.Event.TheVariants.{Reserve}
use Rattle.lc_model.specs.declared.refusal.Refusal.{Refusal}
use Rattle.lc_model.specs.declared.refusal.Refusal.TheVariants.{SequenceSpent, TooLong, Sealed, Full}
use Rattle.lc_model.specs.declared.reply.Reply.{Reply}
use Rattle.lc_model.specs.declared.reply.Reply.TheVariants.{Reserved, Ended, Refused}
use Rattle.lc_model.proofs.Fronts.{entry}
use Rattle.lc_model.proofs.Holders.{is_by-both}
use Rattle.lc_model.proofs.Lists.{found-all, found-passes, split}
use Rattle.lc_model.proofs.Merging.{counted-length}
use Rattle.lc_model.proofs.RecordBytes.{sets-locks}
use Rattle.lc_model.proofs.Rows.{reserve-ended, reserve-refused}
use Rattle.lc_token.specs.Clean.{closed_of}
use Rattle.lc_tx.specs.Fault.{is_of_needs}
use Rattle.lc_tx.specs.Images.{IsHere}
use Rattle.lc_tx.specs.Prepared.{AreSmall, AreUnspent, IsFirstSpent, IsLoggable, final_record}
use Rattle.lc_tx.specs.StandsFor.{AreNumbers}
use Rattle.lc_tx.specs.Tx.{RunsOn}
use Rattle.lc_tx.specs.declared.tx.Tx.{Tx}
use Rattle.lc_tx.specs.declared.tx_fault.TxFault.{TxFault}
use Rattle.lc_tx.specs.declared.tx_fault.TxFault.TheVariants.{Busy as IsBusy, NotHere as IsNotHere, NoRange as HasNoRange, OutOfSegment as IsOutside, NotLocked as IsNotLocked, NoMemory, TooLong as IsTooLong, SequenceSpent as IsSpent, EmptyRange as IsEmpty, TooManyRanges as AreTooMany, ReadOnly as IsReadOnly}
use Rattle.lc_tx.proofs.EndLemmas.{loggable}
use Rattle.lc_tx.proofs.StandsLemmas.{empty_set, record_stands}
use Rattle.lc_desk.specs.Desk.{IsOpen, FitsDesk}
use Rattle.lc_desk.specs.Here.{the_images, number_at}
use Rattle.lc_settled.specs.Numbers.{Numbers, token_number, next_record, log_end}
use Rattle.lc_desk.specs.Prepares.{FitsNumbers, EndsAt}
use Rattle.lc_desk.specs.Refused.{refusal_of}
use Rattle.lc_desk.specs.Seat.{Seat, Open, open_of}
use Rattle.lc_desk.specs.Seats.{AreShort}
use Rattle.lc_settled.specs.Settled.{refusal_or, first_spent, record_refusal, reserve_answer, reserve_open}
use Rattle.lc_desk.specs.declared.desk.Desk.{Desk}
use Rattle.lc_desk.specs.declared.here.Here.{Here}
use Rattle.lc_desk.specs.declared.log_end.LogEnd.{LogEnd}
use Rattle.lc_desk.specs.declared.segment_copy.SegmentCopy.{SegmentCopy}
use Rattle.lc_desk.proofs.Dropping.{own_open_runs, open_fits}
use Rattle.lc_desk.proofs.Holding.{holders-proper}
use Rattle.lc_desk.proofs.Seating.{open_seat}
use Rattle.lc_settled.proofs.Settling.{may_all, refusal-may}

-- What it locked is small

-- a segment that is here is one of 16
pub known_here : (here : Here) → vec_len here.slots ≤ 16 → (segment : ℕ) → IsHere the_images here segment → (1 ≤ segment) × (segment ≤ 16)
known_here here few zero is = absurd cc
known_here here few (suc k) is = at (slice_get here.slots.items k) refl is
  where
    at : (o : Option SegmentCopy) → slice_get here.slots.items k ≡ o → IsSome (number_at o) → (1 ≤ suc k) × (suc k ≤ 16)
    at None same some = absurd cc
    at (Some slot) same some = (let less : k < length here.slots.items = below here.slots.items k slot same in (omega arith, omega (arith, less, few, here.slots.ok.0)))

pub small_here : (here : Here) (tx : Tx) → RunsOn the_images here tx → vec_len here.slots ≤ 16 → AreShort here → AreSmall the_images here tx.locked.items
small_here here tx runs few short = record {
  some = λ segment lock. (known_here here few segment (runs.here segment lock)).0;
  few = λ segment lock. (known_here here few segment (runs.here segment lock)).1;
  short = λ segment lock. short segment;
}

-- The number of a token counts all that set its segment, where the open transaction has its lock

by_mark : (segment : ℕ) (t : Transaction) (closed : Bool) (es : History) → All (λ u. sets segment u ≡ false) (unclosed (entry t closed ∷ es))
    → (All (λ u. sets segment u ≡ false) (unclosed es) → filter (sets segment) (closed_of es) ≡ filter (sets segment) (transactions es))
    → filter (sets segment) (closed_of (entry t closed ∷ es)) ≡ filter (sets segment) (t ∷ transactions es)
by_mark segment t true es all next = ap (λ ts. if sets segment t then t ∷ ts else ts) (next all)
by_mark segment t false es all next =
    next (All-tail (λ u. sets segment u ≡ false) t (unclosed es) all)
    ∙ sym (ap (λ b. if b then t ∷ filter (sets segment) (transactions es) else filter (sets segment) (transactions es)) (All-head (λ u. sets segment u ≡ false) t (unclosed es) all))

closed_sets : (segment : ℕ) (history : History) → All (λ u. sets segment u ≡ false) (unclosed history) → filter (sets segment) (closed_of history) ≡ filter (sets segment) (transactions history)
closed_sets segment [] all = refl
closed_sets segment (e ∷ es) all = by_mark segment e.transaction e.closed es all (closed_sets segment es)

token_now : (m : Setting) (s : State) (x : Numbers) (node i : ℕ) (t : Transaction) (segment : ℕ) → Sound m.geometry s → running_of node i s ≡ Some t → locks t segment ≡ true
    → token_number s x segment ≡ counted_all x.disks.numbers (transactions s.history) segment
token_now m s x node i t segment sound running lock =
    counted-length x.disks.numbers (closed_of s.history) segment
    ∙ ap (λ (ts : List Transaction). x.disks.numbers segment + length ts) (closed_sets segment s.history none)
    ∙ sym (counted-length x.disks.numbers (transactions s.history) segment)
  where
    apart : All (AreApart t) (unclosed s.history)
    apart = found-all (is_by node i) (λ u. All (AreApart u) (unclosed s.history)) s.running t running (split AreApart s.running (unclosed s.history) sound.apart).across

    proper : All (IsProper m.geometry) (unclosed s.history)
    proper = All-right (IsProper m.geometry) s.running (unclosed s.history) (holders-proper m s sound)

    none : All (λ u. sets segment u ≡ false) (unclosed s.history)
    none = λ k d k_in. false_from_ne_true (sets segment (get_or (unclosed s.history) k d)) (λ its.
        (apart k d k_in).locks_differ (meet_locks t (get_or (unclosed s.history) k d) segment lock (sets-locks (get_or (unclosed s.history) k d) segment (proper k d k_in).well its)))

-- The record is laid out, and its words are counted

pub record IsLaid (here : Here) (tx : Tx) (node : ℕ) (layout : Layout) (words : ℕ) : Type 0 where
  pub loggable : IsLoggable the_images here tx node
  pub laid : layout ≡ record_layout (final_record the_images here tx node)
  pub count : words ≡ record_len (final_record the_images here tx node)

pub laid_so : (here : Here) (tx : Tx) (node : ℕ) (told : Result (Option Layout) TxFault) (found : Option Layout) (layout : Layout) (words : ℕ)
    → ((node : ℕ) (layout : Layout) → (told ≡ Ok (Some layout)) ↔ (IsLoggable the_images here tx node × (layout ≡ record_layout (final_record the_images here tx node))))
    → told ≡ Ok found → found ≡ Some layout → words ≡ min (layout_len layout) (2 ^ 64 - 1) → IsLaid here tx node layout words
laid_so here tx node told found layout words tells was is counted =
    let both = loggable the_images here tx node told found layout tells was is in
    let same : layout_len layout ≡ record_len (final_record the_images here tx node) = ap layout_len both.1 in
    let short : record_len (final_record the_images here tx node) ≤ 4096 = both.0.short in
    record { loggable = both.0; laid = both.1; count = omega (arith, same, short, counted) }

-- What refuses a record

first_is : (locks : List Lock) (next : Option Refusal) (segment : ℕ) → IsFirstSpent locks segment → first_spent locks next ≡ Some (SequenceSpent segment)
first_is [] next segment spent = absurd spent
first_is (lock ∷ locks) next segment spent = elim spent [
  | inl own ↦ ap (λ b. if b then Some (SequenceSpent lock.segment) else first_spent locks next) (lt-ltb (2 ^ 60) lock.seq own.0) ∙ ap (λ n. Some (SequenceSpent n)) (sym own.1)
  | inr later ↦ ap (λ b. if b then Some (SequenceSpent lock.segment) else first_spent locks next) (le-ltb (2 ^ 60) lock.seq later.0) ∙ first_is locks next segment later.1
]

unspent_is : (locks : List Lock) (next : Option Refusal) → AreUnspent locks → first_spent locks next ≡ next
unspent_is [] next low = refl
unspent_is (lock ∷ locks) next low =
    ap (λ b. if b then Some (SequenceSpent lock.segment) else first_spent locks next) (le-ltb (2 ^ 60) lock.seq low.0) ∙ unspent_is locks next low.1

-- The open transaction of a thread at a desk

pub record IsSeated (desk : Desk) (i : ℕ) (tx : Tx) : Type 0 where
  pub at : slice_get desk.seats.items i ≡ Some (Open tx)
  pub runs : RunsOn the_images desk.here tx
  pub small : AreSmall the_images desk.here tx.locked.items

pub seated : (desk : Desk) (i : ℕ) (seat : Seat) (tx : Tx) → i < vec_len desk.seats → seat ≡ get_or desk.seats.items i seat → Some tx ≡ open_of seat → IsSeated desk i tx
seated desk i seat tx within got is = record {
  at = at ∙ ap (λ y. Some y) (open_seat seat tx (sym is));
  runs = runs;
  small = small_here desk.here tx runs desk.few_slots desk.short;
}
  where
    at : slice_get desk.seats.items i ≡ Some seat
    at = slice_get_read desk.seats.items desk.seats.len i seat desk.seats.ok.0 within got

    runs : RunsOn the_images desk.here tx
    runs = (own_open_runs desk.here desk.here desk.seats.items i seat tx at (sym is) desk.runs).runs

-- and beside the machine's
pub record IsReady (m : Setting) (node i : ℕ) (here : Here) (s : State) (x : Numbers) (tx : Tx) : Type 0 where
  pub sound : Sound m.geometry s
  pub numbers : FitsNumbers here s x
  pub one : IsOpen here node i tx (value m.start s.earlier s.history) s
  pub runs : RunsOn the_images here tx
  pub canonical : IsCanonical tx.set

pub ready : (desk : Desk) (i : ℕ) (tx : Tx) → IsSeated desk i tx → (m : Setting) (node : ℕ) (s : State) (x : Numbers) → Sound m.geometry s → FitsDesk m node desk.here desk.seats.items s
    → FitsNumbers desk.here s x → IsCanonical tx.set → IsReady m node i desk.here s x tx
ready desk i tx its m node s x sound h numbers canonical = record {
  sound = sound;
  numbers = numbers;
  one = open_fits desk.here node i desk.seats.items (Open tx) tx m s h its.at refl;
  runs = its.runs;
  canonical = canonical;
}

module _ {m : Setting} {node i : ℕ} {here : Here} {s : State} {x : Numbers} {tx : Tx} (its : IsReady m node i here s x tx) where
  abbrev t : Transaction
  t = its.one.transaction

  by : (t.node ≡ node) × (t.thread ≡ i)
  by = is_by-both node i t (found-passes (is_by node i) s.running t its.one.running)

  abbrev final : Record
  final = final_record the_images here tx node

  are : AreNumbers the_images here tx (counted_all x.disks.numbers (transactions s.history))
  are segment lock = its.numbers segment (its.runs.here segment lock)
      ∙ ap (λ n. Some n) (token_now m s x node i t segment its.sound its.one.running (ap (λ l. is_member segment l) its.one.stands.locked_are ∙ lock))

  pub record_is : final ≡ next_record m s x t
  record_is = ap (final_record the_images here tx) (sym by.0)
      ∙ record_stands the_images here tx (counted_all x.disks.numbers (transactions s.history)) (value m.start s.earlier s.history) t its.canonical its.one.stands are

  pub set_some : (tx.set ≡ [] → ⊥) → is_empty t.marks ≡ false
  set_some some = false_from_ne_true (is_empty t.marks) (λ e. some ((empty_set the_images here tx (value m.start s.earlier s.history) t its.canonical its.one.stands).1 e))

  pub set_none : tx.set ≡ [] → is_empty t.marks ≡ true
  set_none none = (empty_set the_images here tx (value m.start s.earlier s.history) t its.canonical its.one.stands).0 none

  pub ended_row : tx.set ≡ [] → Row m s (Reserve node i) Ended (dropped s node i)
  ended_row none = subst (λ (n : ℕ). Row m s (Reserve node i) Ended (dropped s n i)) by.0
      (subst (λ (k : ℕ). Row m s (Reserve node i) Ended (dropped s t.node k)) by.1 (reserve-ended m s node i t its.one.running (set_none none)))

  module _ {log : LogEnd} (ends : EndsAt m node s x log) where
    abbrev answer : ℕ → ℕ → Bool → Record → Reply
    answer words end sealed r = refusal_or (record_refusal words end sealed r) (Reserved end (record_len r))

    pub answer_is : reserve_answer m s x t ≡ answer log.room log.end log.sealed final
    answer_is =
        ap (λ n. answer m.geometry.words (log_end m s x n) (nat_lt 0 (x.reset n)) (next_record m s x t)) by.0
        ∙ ap (λ w. answer w (log_end m s x node) (nat_lt 0 (x.reset node)) (next_record m s x t)) (sym ends.room)
        ∙ ap (λ e. answer log.room e (nat_lt 0 (x.reset node)) (next_record m s x t)) (sym ends.end)
        ∙ ap (λ b. answer log.room log.end b (next_record m s x t)) (sym ends.sealed)
        ∙ ap (answer log.room log.end log.sealed) (sym record_is)

    abbrev IsSettled : Refusal → Type 0
    IsSettled refusal = Row m s (Reserve node i) (Refused refusal) s × ForSome (reserve_open m s x (running_of node i s)) (λ a. Refused refusal ≡ a)

    settled_open : (a : Reply) → is_empty t.marks ≡ false → reserve_open m s x (running_of node i s) ≡ Some a → reserve_answer m s x t ≡ a
    settled_open a set is = same_reply (reserve_answer m s x t) a
        (sym (ap (λ b. if b then None else Some (reserve_answer m s x t)) set) ∙ sym (ap (reserve_open m s x) its.one.running) ∙ is)
      where
        same_reply : (r q : Reply) → Some r ≡ Some q → r ≡ q
        same_reply r q e = cc

    pub refused_with : (refusal : Refusal) → record_refusal log.room log.end log.sealed final ≡ Some refusal → (tx.set ≡ [] → ⊥) → IsSettled refusal
    refused_with refusal is some = (
      reserve-refused m s node i t refusal its.one.running (set_some some) (subst (λ o. may_all may_refuse_reserve o ≡ true) is (refusal-may log.room log.end log.sealed final)),
      λ a open_is. sym (ap (λ o. refusal_or o (Reserved log.end (record_len final))) is) ∙ sym answer_is ∙ settled_open a (set_some some) open_is,
    )

    loggable_is : IsLoggable the_images here tx node → record_refusal log.room log.end log.sealed final ≡ refuse_if log.sealed Sealed (refuse_if (nat_lt log.room (log.end + record_len final)) (Full log.end (record_len final)) None)
    loggable_is loggable =
        unspent_is final.locks _ loggable.unspent
        ∙ ap (λ b. refuse_if b (TooLong (record_len final)) (refuse_if log.sealed Sealed (refuse_if (nat_lt log.room (log.end + record_len final)) (Full log.end (record_len final)) None))) (le-ltb 4096 (record_len final) loggable.short)

    pub sealed_refused : IsLoggable the_images here tx node → log.sealed ≡ true → IsSettled Sealed
    sealed_refused loggable is = refused_with Sealed (loggable_is loggable ∙ ap (λ b. refuse_if b Sealed (refuse_if (nat_lt log.room (log.end + record_len final)) (Full log.end (record_len final)) None)) is) loggable.some

    pub full_refused : (need : ℕ) → IsLoggable the_images here tx node → need ≡ record_len final → log.sealed ≡ false → log.room < log.end + need → IsSettled (Full log.end need)
    full_refused need loggable needs open_log past = subst (λ n. IsSettled (Full log.end n)) (sym needs)
        (refused_with (Full log.end (record_len final))
        (loggable_is loggable ∙ ap (λ b. refuse_if b Sealed (refuse_if (nat_lt log.room (log.end + record_len final)) (Full log.end (record_len final)) None)) open_log
        ∙ ap (λ b. refuse_if b (Full log.end (record_len final)) None) (lt-ltb log.room (log.end + record_len final) (omega (arith, past, needs)))) loggable.some)

    pub answered : (need : ℕ) → IsLoggable the_images here tx node → need ≡ record_len final → log.sealed ≡ false → log.end + need ≤ log.room → reserve_answer m s x t ≡ Reserved log.end need
    answered need loggable needs open_log fits =
        answer_is
        ∙ ap (λ o. refusal_or o (Reserved log.end (record_len final)))
        (loggable_is loggable ∙ ap (λ b. refuse_if b Sealed (refuse_if (nat_lt log.room (log.end + record_len final)) (Full log.end (record_len final)) None)) open_log
        ∙ ap (λ b. refuse_if b (Full log.end (record_len final)) None) (le-ltb log.room (log.end + record_len final) (omega (arith, fits, needs))))
        ∙ ap (Reserved log.end) (sym needs)

    pub needs_fault : {A : Type 0} (r : Result (Option A) TxFault) (fault : TxFault) (refusal : Refusal)
        → (tx.set ≡ [] → r ≡ Ok None)
        → ((n : ℕ) → (r ≡ Err (IsSpent n)) ↔ IsFirstSpent final.locks n)
        → ((words : ℕ) → (r ≡ Err (IsTooLong words)) ↔ (AreUnspent final.locks × (4096 < record_len final) × (words ≡ record_len final)))
        → is_of_needs fault ≡ true → r ≡ Err fault → refusal_of fault ≡ Some refusal → IsSettled refusal
    needs_fault r (IsSpent n) refusal empty spent long may err same =
        subst IsSettled (same_refusal (SequenceSpent n) refusal same) (refused_with (SequenceSpent n) (first_is final.locks _ n ((spent n).0 err)) (λ none. not_ok r (IsSpent n) (empty none) err))
      where
        same_refusal : (a b : Refusal) → Some a ≡ Some b → a ≡ b
        same_refusal a b e = cc

        not_ok : {A : Type 0} (r : Result (Option A) TxFault) (f : TxFault) → r ≡ Ok None → r ≡ Err f → ⊥
        not_ok r f ok err = let both : Ok None ≡ Err f = sym ok ∙ err in cc
    needs_fault r (IsTooLong words) refusal empty spent long may err same =
        let why = (long words).0 err in
        subst IsSettled (ap TooLong (sym why.2) ∙ same_refusal (TooLong words) refusal same)
        (refused_with (TooLong (record_len final)) (unspent_is final.locks _ why.0
        ∙ ap (λ b. refuse_if b (TooLong (record_len final)) (refuse_if log.sealed Sealed (refuse_if (nat_lt log.room (log.end + record_len final)) (Full log.end (record_len final)) None))) (lt-ltb 4096 (record_len final) why.1))
        (λ none. not_ok r (IsTooLong words) (empty none) err))
      where
        same_refusal : (a b : Refusal) → Some a ≡ Some b → a ≡ b
        same_refusal a b e = cc

        not_ok : {A : Type 0} (r : Result (Option A) TxFault) (f : TxFault) → r ≡ Ok None → r ≡ Err f → ⊥
        not_ok r f ok err = let both : Ok None ≡ Err f = sym ok ∙ err in cc
    needs_fault r NoMemory refusal empty spent long may err same = absurd (true≢false (sym may))
    needs_fault r IsNotLocked refusal empty spent long may err same = absurd (true≢false (sym may))
    needs_fault r IsOutside refusal empty spent long may err same = absurd (true≢false (sym may))
    needs_fault r HasNoRange refusal empty spent long may err same = absurd (true≢false (sym may))
    needs_fault r (IsBusy n) refusal empty spent long may err same = absurd (true≢false (sym may))
    needs_fault r (IsNotHere n) refusal empty spent long may err same = absurd (true≢false (sym may))
    needs_fault r IsEmpty refusal empty spent long may err same = absurd (true≢false (sym may))
    needs_fault r AreTooMany refusal empty spent long may err same = absurd (true≢false (sym may))
    needs_fault r (IsReadOnly n) refusal empty spent long may err same = absurd (true≢false (sym may))
