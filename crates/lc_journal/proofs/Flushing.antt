-- A step of a flush is the machine's.
use Rattle.std.proofs.Common.{◌≡◌, ◌≢◌, ◌⊎◌, ℕ, zero, suc, ◌+◌, ◌-◌, ◌<◌, ◌≤◌, Bool, true, false, List, [], ◌∷◌, ◌++◌, map, length, take, drop, refl, sym, ap, subst, ◌∙◌, arith, inl, inr, ne_eqb, lt-ltb}
use Rattle.std.proofs.lemmas.Bool.{false≢true}
use Rattle.std.proofs.lemmas.List.{length-map, length-drop, length-take-le, take-map, drop-map, drop-drop, drop-take}
use Rattle.std.specs.List.{AllByRecursion}
use Rattle.lc_disk.specs.declared.area.Area.{Ghosts}
use Rattle.lc_record.specs.Record.{spelling}
use Rattle.lc_record.specs.declared.record.Record.{Record}
use Rattle.lc_log.specs.LogText.{IsWhole, joined}
use Rattle.lc_model.specs.History.{front, entries_of, leading}
use Rattle.lc_model.specs.State.{Setting, State, Flush}
use Rattle.lc_model.specs.Stored.{records_of}
use Rattle.lc_model.specs.Machine.{FlushRow, Moves, flushed_to, halting, acknowledged}
use Rattle.lc_model.specs.declared.refusal.Refusal.TheVariants.{DeviceFault}
use Rattle.lc_model.specs.declared.reply.Reply.{Reply}
use Rattle.lc_model.specs.declared.reply.Reply.TheVariants.{Stepped, Acked, Nothing, Refused}
use Rattle.lc_model.proofs.Seats.{update-own, update-other}
use Rattle.lc_model.proofs.Rows.{flush-nothing, flush-last, flush-last_fault}
use Rattle.lc_settled.specs.Numbers.{Numbers}
use Rattle.lc_journal.specs.Records.{Spelled, KeptRecords, all_words, front_of, span_of}
use Rattle.lc_journal.specs.declared.log.Log.{Log}
use Rattle.lc_journal.specs.declared.log.Log.TheVariants.{Idle, Written, Synced, Opened, Sealed, Closing, Emptied, Failed, Torn, Taken}
use Rattle.lc_journal.specs.Log.{Stands, StepsTo, is_idle, is_failed, is_sealed, HasReset}
use Rattle.lc_journal.specs.Journal.{FitsLog, reply_of, acked_after}
use Rattle.lc_settled.specs.Follows.{SameButLog}
use Rattle.lc_journal.proofs.Spans.{leading_drop, leading_le}

-- The words that a flush takes are those of the machine's records

same_words : (rs : List Spelled) (qs : List Record) → map (λ (r : Spelled). r.words) rs ≡ map spelling qs → all_words rs ≡ joined qs
same_words [] [] is = refl
same_words [] (q ∷ qs) is = absurd cc
same_words (r ∷ rs) [] is = absurd cc
same_words (r ∷ rs) (q ∷ qs) is =
    let first : r.words ≡ spelling q = cc in
    let rest : map (λ (r : Spelled). r.words) rs ≡ map spelling qs = cc in
    ap (λ (ws : List ℕ). ws ++ all_words rs) first ∙ ap (λ (ws : List ℕ). spelling q ++ ws) (same_words rs qs rest)

pub part_of : {A B : Type 0} (f : A → B) (n place : ℕ) (xs : List A) → map f (take n (drop place xs)) ≡ take n (drop place (map f xs))
part_of f n place xs = sym (take-map f n (drop place xs)) ∙ ap (take n) (sym (drop-map f place xs))

pub span_joined : (records : List Record) (k : KeptRecords) (from to : ℕ) → map (λ (r : Spelled). r.words) k.records ≡ map spelling (drop k.before records)
    → k.before ≤ from → from ≤ to → span_of k from to ≡ joined (drop from (take to records))
span_joined records k from to is kept order =
    let n : ℕ = to - from in
    let place : ℕ = from - k.before in
    let there : k.before + place ≡ from = omega (arith, kept) in
    let all : from + n ≡ to = omega (arith, order) in
    same_words (take n (drop place k.records)) (take n (drop place (drop k.before records)))
    (part_of (λ (r : Spelled). r.words) n place k.records ∙ ap (λ (l : List (List ℕ)). take n (drop place l)) is ∙ sym (part_of spelling n place (drop k.before records)))
    ∙ ap (λ (l : List Record). joined (take n l)) (drop-drop place k.before records ∙ ap (λ (j : ℕ). drop j records) there)
    ∙ ap joined (sym (drop-take from n records) ∙ ap (λ (j : ℕ). drop from (take j records)) all)

front_within : (records : List Record) (k : KeptRecords) → map (λ (r : Spelled). r.words) k.records ≡ map spelling (drop k.before records)
    → k.before < front_of k → front_of k ≤ length records
front_within records k is some =
    omega (
      arith,
      some,
      leading_le k.records,
      ap length is,
      length-map k.records (λ (r : Spelled). r.words),
      length-map (drop k.before records) spelling,
      length-drop k.before records,
    )

some_taken : (records : List Record) (acked to : ℕ) → acked < to → to ≤ length records → 0 < length (drop acked (take to records))
some_taken records acked to some within = omega (arith, some, length-drop acked (take to records), length-take-le to records within)

whole_part : (records : List Record) (from to : ℕ) → AllByRecursion IsWhole records → AllByRecursion IsWhole (drop from (take to records))
whole_part [] zero zero whole = tt
whole_part [] zero (suc to) whole = tt
whole_part [] (suc from) zero whole = tt
whole_part [] (suc from) (suc to) whole = tt
whole_part (r ∷ records) zero zero whole = tt
whole_part (r ∷ records) zero (suc to) whole = (whole.0, whole_part records zero to whole.1)
whole_part (r ∷ records) (suc from) zero whole = tt
whole_part (r ∷ records) (suc from) (suc to) whole = whole_part records from to whole.1

pub more_stable : (records : List Record) (from mid to : ℕ) → from ≤ mid → mid ≤ to → drop from (take to records) ≡ drop from (take mid records) ++ drop mid (take to records)
more_stable records zero zero to first second = refl
more_stable records zero (suc mid) zero first second = absurd (omega (arith, second))
more_stable [] zero (suc mid) (suc to) first second = refl
more_stable (r ∷ records) zero (suc mid) (suc to) first second = ap (λ (l : List Record). r ∷ l) (more_stable records zero mid to (omega arith) (omega (arith, second)))
more_stable records (suc from) zero to first second = absurd (omega (arith, first))
more_stable records (suc from) (suc mid) zero first second = absurd (omega (arith, second))
more_stable [] (suc from) (suc mid) (suc to) first second = refl
more_stable (r ∷ records) (suc from) (suc mid) (suc to) first second = more_stable records from mid to (omega (arith, first)) (omega (arith, second))

none_behind : (records : List Record) (to : ℕ) → drop to (take to records) ≡ []
none_behind records zero = refl
none_behind [] (suc to) = refl
none_behind (r ∷ records) (suc to) = none_behind records to

-- The rows

first_row : (s : State) (node taken count : ℕ) (reply : Reply) (late : State) → count ≡ front node s.history → count ≢ s.ack node → Moves s node 1 count reply late → FlushRow s node 0 taken reply late
first_row s node taken count reply late is differ moves = rw (sym is, ne_eqb count (s.ack node) differ) moves

next_row : (s : State) (node steps taken : ℕ) (reply : Reply) (late : State) → 1 ≤ steps → steps < 3 → Moves s node (steps + 1) taken reply late → FlushRow s node steps taken reply late
next_row s node steps taken reply late some few moves = (let differ : steps ≢ 0 = omega (arith, some) in rw (ne_eqb steps 0 differ, lt-ltb steps 3 few) moves)

module _ {D : Type 0} (a : Ghosts D) where
  idle_stands : (log : Log D a) (steps : ℕ) (stable group : List Record) → is_idle a log ≡ true → Stands a log steps stable group → (steps ≡ 0) × (group ≡ [])
  idle_stands (Idle log) steps stable group is h = (h.0, h.1)
  idle_stands (Written log) steps stable group is h = absurd cc
  idle_stands (Synced log) steps stable group is h = absurd cc
  idle_stands (Opened log) steps stable group is h = absurd cc
  idle_stands (Sealed log) steps stable group is h = absurd cc
  idle_stands (Closing log) steps stable group is h = absurd cc
  idle_stands (Emptied log) steps stable group is h = absurd cc
  idle_stands (Failed log) steps stable group is h = absurd cc
  idle_stands (Torn log) steps stable group is h = absurd cc
  idle_stands Taken steps stable group is h = absurd cc

  sealed_steps : (log : Log D a) (steps : ℕ) (stable group : List Record) → is_sealed a log ≡ true → Stands a log steps stable group → steps ≡ 0
  sealed_steps (Idle log) steps stable group is h = absurd cc
  sealed_steps (Written log) steps stable group is h = absurd cc
  sealed_steps (Synced log) steps stable group is h = absurd cc
  sealed_steps (Opened log) steps stable group is h = absurd cc
  sealed_steps (Sealed log) steps stable group is h = h.0
  sealed_steps (Closing log) steps stable group is h = h.0
  sealed_steps (Emptied log) steps stable group is h = h.0
  sealed_steps (Failed log) steps stable group is h = absurd cc
  sealed_steps (Torn log) steps stable group is h = absurd cc
  sealed_steps Taken steps stable group is h = absurd cc

  -- a call answers something
  pub some_reply : (log : Log D a) (taken : ℕ) → reply_of a log taken ≡ Nothing → ⊥
  some_reply (Idle log) taken is = absurd cc
  some_reply (Written log) taken is = absurd cc
  some_reply (Synced log) taken is = absurd cc
  some_reply (Opened log) taken is = absurd cc
  some_reply (Sealed log) taken is = absurd cc
  some_reply (Closing log) taken is = absurd cc
  some_reply (Emptied log) taken is = absurd cc
  some_reply (Failed log) taken is = absurd cc
  some_reply (Torn log) taken is = absurd cc
  some_reply Taken taken is = absurd cc

  module _ (m : Setting) (node : ℕ) (s : State) (x : Numbers) (k : KeptRecords) (dropped trimmed acked : ℕ) where
    abbrev records : List Record
    records = records_of m s x.disks node

    -- the records in front of the first that is not closed are as many as the machine has
    pub front_same : (log : Log D a) (taken : ℕ) → FitsLog a m node log k dropped trimmed taken acked s x → front_of k ≡ front node s.history
    front_same log taken h =
        let marks : List Bool = map (λ e. e.closed) (entries_of node s.history) in
        omega (arith, leading_drop k.before marks h.all_closed, ap leading h.marks)

    -- nothing waits, and nothing is under way
    pub nothing_row : (log : Log D a) (taken : ℕ) → FitsLog a m node log k dropped trimmed taken acked s x → is_idle a log ≡ true → front_of k ≡ acked
        → FlushRow s node (s.flush node).steps (s.flush node).taken Nothing s
    nothing_row log taken h idle none =
        let at = idle_stands log (s.flush node).steps (drop dropped (take acked records)) (drop acked (take taken records)) idle h.stands in
        subst (λ (n : ℕ). FlushRow s node n (s.flush node).taken Nothing s) (sym at.0)
        (flush-nothing s node (s.flush node).taken (sym (front_same log taken h) ∙ none ∙ h.acked_is))

    -- nor while a reset is under way
    pub sealed_row : (log : Log D a) (taken : ℕ) → FitsLog a m node log k dropped trimmed taken acked s x → is_sealed a log ≡ true → k.before ≤ acked → acked ≤ front_of k → front_of k ≤ acked
        → FlushRow s node (s.flush node).steps (s.flush node).taken Nothing s
    sealed_row log taken h is kept first last =
        subst (λ (n : ℕ). FlushRow s node n (s.flush node).taken Nothing s) (sym (sealed_steps log (s.flush node).steps (drop dropped (take acked records)) (drop acked (take taken records)) is h.stands))
        (flush-nothing s node (s.flush node).taken (omega (arith, front_same log taken h, first, last, h.acked_is)))

    -- what the machine has where a flush has come to its step, and took this many
    record Moved (new : Log D a) (step count taken : ℕ) (late : State) : Type 0 where
      pub row : Moves s node step count (reply_of a new taken) late
      pub but : SameButLog node s late
      pub flush : late.flush node ≡ record { steps = step; taken = count }
      pub halted : late.halted node ≡ is_failed a new
      pub ack : late.ack node ≡ s.ack node

    went : (step count : ℕ) → SameButLog node s (flushed_to s node step count)
    went step count = record {
      earlier = refl;
      history = refl;
      running = refl;
      place = refl;
      phase = refl;
      ack = λ other differ. refl;
      halted = λ other differ. refl;
      flush = λ other differ. update-other s.flush node (record { steps = step; taken = count }) other differ;
    }

    stopped : (step count : ℕ) → SameButLog node s (halting (flushed_to s node step count) node)
    stopped step count = record {
      earlier = refl;
      history = refl;
      running = refl;
      place = refl;
      phase = refl;
      ack = λ other differ. refl;
      halted = λ other differ. update-other s.halted node true other differ;
      flush = λ other differ. update-other s.flush node (record { steps = step; taken = count }) other differ;
    }

    done : (new : Log D a) (step count taken : ℕ) → s.halted node ≡ false → is_failed a new ≡ false → reply_of a new taken ≡ Stepped step
        → Moved new step count taken (flushed_to s node step count)
    done new step count taken up not is = record {
      row = inl (is, refl);
      but = went step count;
      flush = update-own s.flush node (record { steps = step; taken = count });
      halted = up ∙ sym not;
      ack = refl;
    }

    fault : (new : Log D a) (step count taken : ℕ) → is_failed a new ≡ true → reply_of a new taken ≡ Refused DeviceFault
        → Moved new step count taken (halting (flushed_to s node step count) node)
    fault new step count taken is reply = record {
      row = inr (reply, refl);
      but = stopped step count;
      flush = update-own s.flush node (record { steps = step; taken = count });
      halted = update-own s.halted node true ∙ sym is;
      ack = refl;
    }

    moved : (new : Log D a) (step count taken : ℕ) (stable group : List Record) → s.halted node ≡ false → 1 ≤ step → Stands a new step stable group
        → (late : State) × Moved new step count taken late
    moved (Idle log) step count taken stable group up some h = absurd (omega (arith, some, h.0))
    moved (Written log) step count taken stable group up some h = (flushed_to s node step count, done (Written log) step count taken up refl (ap (λ n. Stepped n) (sym h.0)))
    moved (Synced log) step count taken stable group up some h = (flushed_to s node step count, done (Synced log) step count taken up refl (ap (λ n. Stepped n) (sym h.0)))
    moved (Opened log) step count taken stable group up some h = (flushed_to s node step count, done (Opened log) step count taken up refl (ap (λ n. Stepped n) (sym h.0)))
    moved (Sealed log) step count taken stable group up some h = absurd (omega (arith, some, h.0))
    moved (Closing log) step count taken stable group up some h = absurd (omega (arith, some, h.0))
    moved (Emptied log) step count taken stable group up some h = absurd (omega (arith, some, h.0))
    moved (Failed log) step count taken stable group up some h = (halting (flushed_to s node step count) node, fault (Failed log) step count taken refl refl)
    moved (Torn log) step count taken stable group up some h = absurd (omega (arith, some, h.0))
    moved Taken step count taken stable group up some h = absurd h

    -- what is acknowledged stays where the log is not at rest
    same_acked : (new : Log D a) (step taken : ℕ) (stable group : List Record) → 1 ≤ step → Stands a new step stable group → acked_after a new taken acked ≡ acked
    same_acked (Idle log) step taken stable group some h = absurd (omega (arith, some, h.0))
    same_acked (Written log) step taken stable group some h = refl
    same_acked (Synced log) step taken stable group some h = refl
    same_acked (Opened log) step taken stable group some h = refl
    same_acked (Sealed log) step taken stable group some h = refl
    same_acked (Closing log) step taken stable group some h = refl
    same_acked (Emptied log) step taken stable group some h = refl
    same_acked (Failed log) step taken stable group some h = refl
    same_acked (Torn log) step taken stable group some h = refl
    same_acked Taken step taken stable group some h = absurd h

    -- and no reset is under way
    no_reset : (new : Log D a) (step : ℕ) (stable group : List Record) → 1 ≤ step → Stands a new step stable group → HasReset a new 0
    no_reset (Idle log) step stable group some h = refl
    no_reset (Written log) step stable group some h = refl
    no_reset (Synced log) step stable group some h = refl
    no_reset (Opened log) step stable group some h = refl
    no_reset (Sealed log) step stable group some h = absurd (omega (arith, some, h.0))
    no_reset (Closing log) step stable group some h = absurd (omega (arith, some, h.0))
    no_reset (Emptied log) step stable group some h = absurd (omega (arith, some, h.0))
    no_reset (Failed log) step stable group some h = refl
    no_reset (Torn log) step stable group some h = absurd (omega (arith, some, h.0))
    no_reset Taken step stable group some h = absurd h

    -- the log's part after a move
    fits_moved : (old new : Log D a) (step count before taken : ℕ) (late : State) → FitsLog a m node old k dropped trimmed before acked s x
        → Moved new step count taken late → x.reset node ≡ 0 → 1 ≤ step → count ≡ taken
        → Stands a new step (drop dropped (take acked records)) (drop acked (take taken records))
        → FitsLog a m node new k dropped trimmed taken (acked_after a new taken acked) late x
    fits_moved old new step count before taken late h d none some is stands =
        let acked_is : acked_after a new taken acked ≡ acked =
        same_acked new step taken (drop dropped (take acked records)) (drop acked (take taken records)) some stands in
        record {
          words = rw (d.but.history, d.but.earlier) h.words;
          marks = rw d.but.history h.marks;
          all_closed = rw d.but.history h.all_closed;
          whole = rw (d.but.history, d.but.earlier) h.whole;
          stands = rw (d.flush, d.but.history, d.but.earlier, acked_is) stands;
          halted = d.halted;
          dropped_is = h.dropped_is;
          trimmed_is = h.trimmed_is;
          acked_is = acked_is ∙ h.acked_is ∙ sym d.ack;
          taken_is = rw d.flush is;
          reset_is = rw none (no_reset new step (drop dropped (take acked records)) (drop acked (take taken records)) some stands);
        }

    -- what follows a call: a state that the machine may go on to
    abbrev pub Follows : Log D a → ℕ → Type 0
    Follows new taken =
        (late : State) × FlushRow s node (s.flush node).steps (s.flush node).taken (reply_of a new taken) late × SameButLog node s late
        × FitsLog a m node new k dropped trimmed taken (acked_after a new taken acked) late x

    -- the first call, which takes what is closed
    pub first_call : (log new : Log D a) (words : List ℕ) (taken : ℕ) → FitsLog a m node log k dropped trimmed taken acked s x
        → is_idle a log ≡ true → k.before ≤ acked → acked < front_of k → words ≡ span_of k acked (front_of k)
        → StepsTo a log words new → Follows new (front_of k)
    first_call (Idle log) new words taken h idle kept some is step =
        let count : ℕ = front_of k in
        let group : List Record = drop acked (take count records) in
        let stable : List Record = drop dropped (take acked records) in
        let within : count ≤ length records = front_within records k h.words (omega (arith, kept, some)) in
        let stands : Stands a new 1 stable group =
        step stable group h.stands.2 (record {
          text = is ∙ span_joined records k acked count h.words kept (omega (arith, some));
          whole = whole_part records acked count h.whole;
          some = some_taken records acked count some within;
        }) in
        let d = moved new 1 count count stable group h.halted (omega arith) stands in
        let more : count ≢ s.ack node = λ e. absurd (omega (arith, e, some, h.acked_is)) in (
          d.0,
          subst (λ (n : ℕ). FlushRow s node n (s.flush node).taken (reply_of a new count) d.0) (sym h.stands.0)
              (first_row s node (s.flush node).taken count (reply_of a new count) d.0 (front_same (Idle log) taken h) more d.1.row),
          d.1.but,
          fits_moved (Idle log) new 1 count taken count d.0 h d.1 h.reset_is (omega arith) refl stands,
        )
    first_call (Written log) new words taken h idle kept some is step = absurd cc
    first_call (Synced log) new words taken h idle kept some is step = absurd cc
    first_call (Opened log) new words taken h idle kept some is step = absurd cc
    first_call (Sealed log) new words taken h idle kept some is step = absurd cc
    first_call (Closing log) new words taken h idle kept some is step = absurd cc
    first_call (Emptied log) new words taken h idle kept some is step = absurd cc
    first_call (Failed log) new words taken h idle kept some is step = absurd cc
    first_call (Torn log) new words taken h idle kept some is step = absurd cc
    first_call Taken new words taken h idle kept some is step = absurd cc

    -- the two calls in the middle
    middle : (steps : ℕ) (old new : Log D a) (taken : ℕ) → FitsLog a m node old k dropped trimmed taken acked s x
        → x.reset node ≡ 0 → is_failed a old ≡ false → (s.flush node).steps ≡ steps → 1 ≤ steps → steps < 3
        → Stands a new (steps + 1) (drop dropped (take acked records)) (drop acked (take taken records)) → Follows new taken
    middle steps old new taken h none up at some few stands =
        let count : ℕ = (s.flush node).taken in
        let d = moved new (steps + 1) count taken (drop dropped (take acked records)) (drop acked (take taken records)) (h.halted ∙ up) (omega arith) stands in (
          d.0,
          subst (λ (n : ℕ). FlushRow s node n count (reply_of a new taken) d.0) (sym at) (next_row s node steps count (reply_of a new taken) d.0 some few d.1.row),
          d.1.but,
          fits_moved old new (steps + 1) count taken taken d.0 h d.1 none (omega arith) h.taken_is stands,
        )

    -- the last call: what the flush took is acknowledged
    last : (old new : Log D a) (taken : ℕ) → FitsLog a m node old k dropped trimmed taken acked s x
        → x.reset node ≡ 0 → is_failed a old ≡ false → dropped ≤ acked → acked ≤ taken → (s.flush node).steps ≡ 3
        → ((is_idle a new ≡ true) × Stands a new 0 (drop dropped (take acked records) ++ drop acked (take taken records)) [])
        ⊎ ((is_failed a new ≡ true) × Stands a new 4 (drop dropped (take acked records)) (drop acked (take taken records)))
        → Follows new taken
    last old (Idle log) taken h none up less few at (inl is) =
        let count : ℕ = (s.flush node).taken in
        let late : State = acknowledged s node count in
        let flush : late.flush node ≡ record { steps = 0; taken = count } = update-own s.flush node (record { steps = 0; taken = count }) in
        let ack : late.ack node ≡ count = update-own s.ack node count in (
          late,
          subst (λ (n : ℕ). FlushRow s node n count (Acked taken) late) (sym at) (subst (λ (n : ℕ). FlushRow s node 3 count (Acked n) late) h.taken_is (flush-last s node 3 count (omega arith))),
          record {
            earlier = refl;
            history = refl;
            running = refl;
            place = refl;
            phase = refl;
            ack = λ other differ. update-other s.ack node count other differ;
            halted = λ other differ. refl;
            flush = λ other differ. update-other s.flush node (record { steps = 0; taken = count }) other differ;
          },
          record {
            words = h.words;
            marks = h.marks;
            all_closed = h.all_closed;
            whole = h.whole;
            stands = rw (flush, more_stable records dropped acked taken less few, none_behind records taken) is.1;
            halted = h.halted ∙ up;
            dropped_is = h.dropped_is;
            trimmed_is = h.trimmed_is;
            acked_is = sym h.taken_is ∙ sym ack;
            taken_is = ap (λ (f : Flush). f.taken) flush ∙ h.taken_is;
            reset_is = none;
          },
        )
    last old (Failed log) taken h none up less few at (inr is) =
        let count : ℕ = (s.flush node).taken in
        let d = fault (Failed log) 4 count taken refl refl in (
          halting (flushed_to s node 4 count) node,
          subst (λ (n : ℕ). FlushRow s node n count (Refused DeviceFault) (halting (flushed_to s node 4 count) node)) (sym at) (flush-last_fault s node 3 count (omega arith)),
          d.but,
          fits_moved old (Failed log) 4 count taken taken (halting (flushed_to s node 4 count) node) h d none (omega arith) h.taken_is is.1,
        )
    last old (Idle log) taken h none up less few at (inr is) = absurd (false≢true is.0)
    last old (Written log) taken h none up less few at (inl is) = absurd (false≢true is.0)
    last old (Written log) taken h none up less few at (inr is) = absurd (false≢true is.0)
    last old (Synced log) taken h none up less few at (inl is) = absurd (false≢true is.0)
    last old (Synced log) taken h none up less few at (inr is) = absurd (false≢true is.0)
    last old (Opened log) taken h none up less few at (inl is) = absurd (false≢true is.0)
    last old (Opened log) taken h none up less few at (inr is) = absurd (false≢true is.0)
    last old (Sealed log) taken h none up less few at (inl is) = absurd (false≢true is.0)
    last old (Sealed log) taken h none up less few at (inr is) = absurd (false≢true is.0)
    last old (Closing log) taken h none up less few at (inl is) = absurd (false≢true is.0)
    last old (Closing log) taken h none up less few at (inr is) = absurd (false≢true is.0)
    last old (Emptied log) taken h none up less few at (inl is) = absurd (false≢true is.0)
    last old (Emptied log) taken h none up less few at (inr is) = absurd (false≢true is.0)
    last old (Failed log) taken h none up less few at (inl is) = absurd (false≢true is.0)
    last old (Torn log) taken h none up less few at (inl is) = absurd (false≢true is.0)
    last old (Torn log) taken h none up less few at (inr is) = absurd (omega (arith, is.1.0))
    last old Taken taken h none up less few at (inl is) = absurd (false≢true is.0)
    last old Taken taken h none up less few at (inr is) = absurd is.1

    -- a call of a flush that is under way
    pub later_call : (log new : Log D a) (words : List ℕ) (taken : ℕ) → FitsLog a m node log k dropped trimmed taken acked s x
        → is_failed a log ≡ false → is_idle a log ≡ false → is_sealed a log ≡ false → dropped ≤ acked → acked ≤ taken → StepsTo a log words new → Follows new taken
    later_call (Idle log) new words taken h up not free less few step = absurd cc
    later_call (Written log) new words taken h up not free less few step =
        middle 1 (Written log) new taken h h.reset_is refl h.stands.0 (omega arith) (omega arith) (step (drop dropped (take acked records)) (drop acked (take taken records)) h.stands.1)
    later_call (Synced log) new words taken h up not free less few step =
        middle 2 (Synced log) new taken h h.reset_is refl h.stands.0 (omega arith) (omega arith) (step (drop dropped (take acked records)) (drop acked (take taken records)) h.stands.1)
    later_call (Opened log) new words taken h up not free less few step =
        last (Opened log) new taken h h.reset_is refl less few h.stands.0 (step (drop dropped (take acked records)) (drop acked (take taken records)) h.stands.1)
    later_call (Sealed log) new words taken h up not free less few step = absurd cc
    later_call (Closing log) new words taken h up not free less few step = absurd cc
    later_call (Emptied log) new words taken h up not free less few step = absurd cc
    later_call (Failed log) new words taken h up not free less few step = absurd cc
    later_call (Torn log) new words taken h up not free less few step = absurd cc
    later_call Taken new words taken h up not free less few step = absurd cc

    pub same_itself : SameButLog node s s
    same_itself = record { earlier = refl; history = refl; running = refl; place = refl; phase = refl; ack = λ other differ. refl; halted = λ other differ. refl; flush = λ other differ. refl }
