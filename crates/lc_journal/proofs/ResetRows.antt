-- The steps of a reset are the machine's.
use Rattle.std.proofs.Common.{◌≡◌, ◌⊎◌, ◌+◌, ◌<◌, ◌≤◌, ℕ, true, false, List, [], ◌∷◌, length, take, drop, Option, Some, None, refl, sym, ap, subst, ◌∙◌, arith, inl, inr}
use Rattle.std.proofs.Common.{lt-ltb}
use Rattle.std.proofs.lemmas.Bool.{le-ltb}
use Rattle.std.proofs.lemmas.List.{length-drop, length-take-le}
use Rattle.std.specs.Prelude.{◌==◌, nat_lt, is_some, IsTrue, if◌then◌else◌}
use Rattle.std.proofs.lemmas.Option.{same_Some as same_some}
use Rattle.lc_disk.specs.declared.area.Area.{Ghosts}
use Rattle.lc_record.specs.declared.record.Record.{Record}
use Rattle.lc_record.proofs.ListLemmas.{drop-take_same as nothing_behind}
use Rattle.lc_token.specs.declared.unclean.Unclean.{Unclean as Pair}
use Rattle.lc_model.specs.History.{reserved}
use Rattle.lc_model.specs.Machine.{Row, halting, may_reset}
use Rattle.lc_model.specs.Refusals.{common_refusal}
use Rattle.lc_model.specs.State.{Setting, State}
use Rattle.lc_model.specs.Stored.{records_of}
use Rattle.lc_model.specs.declared.event.Event.TheVariants.{ResetStep}
use Rattle.lc_model.specs.declared.refusal.Refusal.{Refusal}
use Rattle.lc_model.specs.declared.refusal.Refusal.TheVariants.{Unflushed, Unclean, RoundsSpent, DeviceFault}
use Rattle.lc_model.specs.declared.reply.Reply.{Reply}
use Rattle.lc_model.specs.declared.reply.Reply.TheVariants.{Stepped, Nothing, Reset, Refused}
use Rattle.lc_model.proofs.Seats.{update-own}
use Rattle.lc_journal.specs.Follows.{FitsJournal}
use Rattle.lc_journal.specs.Journal.{FitsLog, reply_of}
use Rattle.lc_journal.specs.Log.{ComesToReset, HasReset, MovesReset, ResetsTo, Stands, Unseals, is_emptied, is_failed, is_sealed}
use Rattle.lc_settled.specs.Numbers.{Numbers, stable_records}
use Rattle.lc_journal.specs.Records.{KeptRecords, count_of}
use Rattle.lc_journal.specs.Resets.{GoesOnReset}
use Rattle.lc_settled.specs.Settled.{IsAnswer, Settled, is_unflushed, last_round, least_unclean, locks_in, reset_begins, reset_call}
use Rattle.lc_settled.specs.Turns.{Turns, reset_done, reset_to}
use Rattle.lc_journal.specs.declared.journal.Journal.{Journal}
use Rattle.lc_journal.specs.declared.log.Log.{Log}
use Rattle.lc_journal.specs.declared.log.Log.TheVariants.{Idle, Written, Synced, Opened, Sealed, Closing, Emptied, Failed, Torn, Taken}
use Rattle.lc_journal.proofs.Logged.{as_many, count_same}
use Rattle.lc_journal.proofs.Sealing.{reset_fits, torn_fits}

-- What is settled

settled_as : (m : Setting) (s : State) (x : Numbers) (node : ℕ) (reply : Reply) → IsAnswer (ResetStep node) (reset_call m s x node (x.reset node)) reply
    → Settled m s x (ResetStep node) reply
settled_as m s x node reply h = (
  λ answer is. behind (common_refusal m.geometry s (ResetStep node)) answer is,
  λ recovers. absurd cc,
)
  where
    behind : (o : Option Refusal) (answer : Reply) → (if is_some o then None else Some (reset_call m s x node (x.reset node))) ≡ Some answer → IsAnswer (ResetStep node) answer reply
    behind None answer is = subst (λ (r : Reply). IsAnswer (ResetStep node) r reply) (same_some _ _ is) h
    behind (Some refusal) answer is = absurd cc

-- the answer of the first step, by what stands against it
module _ (s : State) (x : Numbers) (node : ℕ) where
  pub begins_unflushed : (rs : List Record) → is_unflushed s node ≡ true → reset_begins s x node rs ≡ Refused Unflushed
  begins_unflushed [] is = rw is refl
  begins_unflushed (r ∷ rs) is = rw is refl

  pub begins_nothing : (rs : List Record) → is_unflushed s node ≡ false → rs ≡ [] → reset_begins s x node rs ≡ Nothing
  begins_nothing [] is none = rw is refl
  begins_nothing (r ∷ rs) is none = absurd cc

  pub begins_unclean : (rs : List Record) (pair : Pair) → is_unflushed s node ≡ false → least_unclean (x.known node) (locks_in rs) ≡ Some pair
      → reset_begins s x node rs ≡ Refused (Unclean pair.segment pair.seq)
  begins_unclean [] pair is least = absurd cc
  begins_unclean (r ∷ rs) pair is least = rw (is, least) refl

  pub begins_spent : (rs : List Record) → is_unflushed s node ≡ false → 0 < length rs → least_unclean (x.known node) (locks_in rs) ≡ None → (x.round node == last_round) ≡ true
      → reset_begins s x node rs ≡ Refused RoundsSpent
  begins_spent [] is some least spent = absurd (omega (arith, some))
  begins_spent (r ∷ rs) is some least spent = rw (is, least, spent) refl

  pub begins_so : (rs : List Record) → is_unflushed s node ≡ false → 0 < length rs → least_unclean (x.known node) (locks_in rs) ≡ None → (x.round node == last_round) ≡ false
      → reset_begins s x node rs ≡ Stepped 1
  begins_so [] is some least more = absurd (omega (arith, some))
  begins_so (r ∷ rs) is some least more = rw (is, least, more) refl

-- that answer is settled where no reset is under way
pub settled_first : (m : Setting) (s : State) (x : Numbers) (node : ℕ) (reply : Reply) → x.reset node ≡ 0 → reset_begins s x node (stable_records m s x node) ≡ reply
    → Settled m s x (ResetStep node) reply
settled_first m s x node reply none is = settled_as m s x node reply (inl (sym is ∙ ap (reset_call m s x node) (sym none)))

pub settled_last : (m : Setting) (s : State) (x : Numbers) (node : ℕ) → x.reset node ≡ 3 → Settled m s x (ResetStep node) Reset
settled_last m s x node at = settled_as m s x node Reset (inl (ap (reset_call m s x node) (sym at)))

module _ {D : Type 0} (a : Ghosts D) where
  pub none_under_way : (log : Log D a) (steps : ℕ) → HasReset a log steps → is_failed a log ≡ false → is_sealed a log ≡ false → steps ≡ 0
  none_under_way (Idle log) steps at up free = at
  none_under_way (Written log) steps at up free = at
  none_under_way (Synced log) steps at up free = at
  none_under_way (Opened log) steps at up free = at
  none_under_way (Sealed log) steps at up free = absurd cc
  none_under_way (Closing log) steps at up free = absurd cc
  none_under_way (Emptied log) steps at up free = absurd cc
  none_under_way (Failed log) steps at up free = absurd cc
  none_under_way (Torn log) steps at up free = absurd cc
  none_under_way Taken steps at up free = absurd cc

  pub all_under_way : (log : Log D a) (steps : ℕ) → HasReset a log steps → is_emptied a log ≡ true → steps ≡ 3
  all_under_way (Idle log) steps at is = absurd cc
  all_under_way (Written log) steps at is = absurd cc
  all_under_way (Synced log) steps at is = absurd cc
  all_under_way (Opened log) steps at is = absurd cc
  all_under_way (Sealed log) steps at is = absurd cc
  all_under_way (Closing log) steps at is = absurd cc
  all_under_way (Emptied log) steps at is = at
  all_under_way (Failed log) steps at is = absurd cc
  all_under_way (Torn log) steps at is = absurd cc
  all_under_way Taken steps at is = absurd cc

  pub emptied_works : (log : Log D a) → is_emptied a log ≡ true → is_failed a log ≡ false
  emptied_works (Idle log) is = absurd cc
  emptied_works (Written log) is = absurd cc
  emptied_works (Synced log) is = absurd cc
  emptied_works (Opened log) is = absurd cc
  emptied_works (Sealed log) is = absurd cc
  emptied_works (Closing log) is = absurd cc
  emptied_works (Emptied log) is = refl
  emptied_works (Failed log) is = absurd cc
  emptied_works (Torn log) is = absurd cc
  emptied_works Taken is = absurd cc

  module _ (m : Setting) (node : ℕ) (s : State) (x : Numbers) (k : KeptRecords) (dropped trimmed taken acked : ℕ) where
    abbrev records : List Record
    records = records_of m s x.disks node

    abbrev Standing : Log D a → Type 0
    Standing log = Stands a log (s.flush node).steps (drop dropped (take acked records)) (drop acked (take taken records))

    -- what follows a call
    pub record Called (new : Log D a) : Type 0 where
      pub after : State
      pub next : Numbers
      pub row : Row m s (ResetStep node) (reply_of a new taken) after
      pub settled : Settled m s x (ResetStep node) (reply_of a new taken)
      pub turns : Turns m s x (ResetStep node) (reply_of a new taken) next
      pub same : (after ≡ s) ⊎ (after ≡ halting s node)
      pub fits : FitsLog a m node new k dropped trimmed taken acked after next
      pub round : next.round ≡ x.round

    comes_on : (steps : ℕ) (old new : Log D a) → FitsLog a m node old k dropped trimmed taken acked s x → is_failed a old ≡ false → x.reset node ≡ steps → 0 < steps
        → IsTrue (nat_lt 1 (steps + 1)) → reset_call m s x node steps ≡ Stepped (steps + 1) → ComesToReset a new (steps + 1) → Standing new → Called new
    comes_on steps old (Idle log) h up at some calls answer comes stands = absurd comes
    comes_on steps old (Written log) h up at some calls answer comes stands = absurd comes
    comes_on steps old (Synced log) h up at some calls answer comes stands = absurd comes
    comes_on steps old (Opened log) h up at some calls answer comes stands = absurd comes
    comes_on steps old (Sealed log) h up at some calls answer comes stands = absurd (omega (arith, some, comes))
    comes_on steps old (Closing log) h up at some calls answer comes stands = record {
      after = s;
      next = reset_to x node 2;
      row = inl (refl, refl);
      settled = settled_as m s x node (Stepped 2) (inl (ap (λ n. Stepped n) (sym comes) ∙ sym answer ∙ ap (reset_call m s x node) (sym at)));
      turns = refl;
      same = inl refl;
      fits = reset_fits a m node s x k dropped trimmed taken acked old (Closing log) 2 h up refl refl stands;
      round = refl;
    }
    comes_on steps old (Emptied log) h up at some calls answer comes stands = record {
      after = s;
      next = reset_to x node 3;
      row = inl (refl, refl);
      settled = settled_as m s x node (Stepped 3) (inl (ap (λ n. Stepped n) (sym comes.0) ∙ sym answer ∙ ap (reset_call m s x node) (sym at)));
      turns = refl;
      same = inl refl;
      fits = reset_fits a m node s x k dropped trimmed taken acked old (Emptied log) 3 h up refl refl stands;
      round = refl;
    }
    comes_on steps old (Failed log) h up at some calls answer comes stands = absurd comes
    comes_on steps old (Torn log) h up at some calls answer comes stands = record {
      after = halting s node;
      next = x;
      row = inr (refl, refl);
      settled = settled_as m s x node (Refused DeviceFault)
          (subst (λ (r : Reply). IsAnswer (ResetStep node) r (Refused DeviceFault)) (sym answer ∙ ap (reset_call m s x node) (sym at)) (inr (calls, refl)));
      turns = refl;
      same = inr refl;
      fits = torn_fits a m node s x k dropped trimmed taken acked old (Torn log) h refl (omega (arith, some, at)) stands;
      round = refl;
    }
    comes_on steps old Taken h up at some calls answer comes stands = absurd comes

    stands_on : (new : Log D a) → (s.flush node).steps ≡ 0 → drop acked (take taken records) ≡ [] → Stands a new 0 (drop dropped (take acked records)) [] → Standing new
    stands_on new steps group stands = rw (steps, group) stands

    -- the second step and the third
    pub call_goes : (old new : Log D a) → FitsLog a m node old k dropped trimmed taken acked s x → is_sealed a old ≡ true → is_emptied a old ≡ false
        → ResetsTo a old new → MovesReset a old new → Called new
    call_goes (Idle log) new h is not steps moves = absurd cc
    call_goes (Written log) new h is not steps moves = absurd cc
    call_goes (Synced log) new h is not steps moves = absurd cc
    call_goes (Opened log) new h is not steps moves = absurd cc
    call_goes (Sealed log) new h is not steps moves =
        comes_on 1 (Sealed log) new h refl h.reset_is (omega arith) refl refl moves
        (stands_on new h.stands.0 h.stands.1 (steps (drop dropped (take acked records)) h.stands.2))
    call_goes (Closing log) new h is not steps moves =
        comes_on 2 (Closing log) new h refl h.reset_is (omega arith) refl refl moves
        (stands_on new h.stands.0 h.stands.1 (steps (drop dropped (take acked records)) h.stands.2))
    call_goes (Emptied log) new h is not steps moves = absurd cc
    call_goes (Failed log) new h is not steps moves = absurd cc
    call_goes (Torn log) new h is not steps moves = absurd cc
    call_goes Taken new h is not steps moves = absurd cc

    -- the last: at rest, where all that was acknowledged is dropped
    pub ends_fits : (old new : Log D a) → FitsLog a m node old k dropped trimmed taken acked s x → is_failed a old ≡ false → Unseals a old new
        → FitsLog a m node new k acked trimmed taken acked s (reset_done s x node)
    ends_fits old new h up unseals =
        let stood = unseals.stands (s.flush node).steps (drop dropped (take acked records)) (drop acked (take taken records)) h.stands in
        record {
          words = h.words;
          marks = h.marks;
          all_closed = h.all_closed;
          whole = h.whole;
          stands = rw (nothing_behind acked records, stood.0) stood.1;
          halted = h.halted ∙ up ∙ sym unseals.works;
          dropped_is = h.acked_is ∙ sym (update-own x.disks.dropped node (s.ack node));
          trimmed_is = h.trimmed_is;
          acked_is = h.acked_is;
          taken_is = h.taken_is;
          reset_is = subst (HasReset a new) (sym (update-own x.reset node 0)) unseals.reset;
        }

  -- The journal, where nothing of it is under way

  module _ (m : Setting) (node : ℕ) (s : State) (x : Numbers) (w : Journal D a) (h : FitsJournal a m node w s x) where
    pub unflushed : w.acked < count_of w.records → is_unflushed s node ≡ true
    unflushed some = lt-ltb (s.ack node) (reserved node s.history) (omega (arith, some, h.acked_is, count_same a m node s x w.log w.records w.dropped w.trimmed w.taken w.acked h))

    pub flushed : count_of w.records ≤ w.acked → is_unflushed s node ≡ false
    flushed all = le-ltb (s.ack node) (reserved node s.history) (omega (arith, all, h.acked_is, count_same a m node s x w.log w.records w.dropped w.trimmed w.taken w.acked h))

    pub none_stable : w.dropped ≡ w.acked → stable_records m s x node ≡ []
    none_stable same =
        ap (λ (n : ℕ). drop n (take (s.ack node) (records_of m s x.disks node))) (sym h.dropped_is ∙ same ∙ h.acked_is) ∙ nothing_behind (s.ack node) (records_of m s x.disks node)

    pub some_stable : w.dropped < w.acked → w.acked ≤ count_of w.records → 0 < length (stable_records m s x node)
    some_stable some all =
        let records : List Record = records_of m s x.disks node in
        let count = count_same a m node s x w.log w.records w.dropped w.trimmed w.taken w.acked h in
        let many = as_many a m node s x w.log w.records w.dropped w.trimmed w.taken w.acked h in
        let within : s.ack node ≤ length records = omega (arith, count, many, all, h.acked_is) in
        omega (arith, length-drop (x.disks.dropped node) (take (s.ack node) records), length-take-le (s.ack node) records within, h.dropped_is, h.acked_is, some)

    pub resets_none : is_failed a w.log ≡ false → is_sealed a w.log ≡ false → x.reset node ≡ 0
    resets_none up free = none_under_way w.log (x.reset node) h.reset_is up free

    -- it stays as it is
    pub stays_unreset : (reply : Reply) → may_reset reply ≡ true → x.reset node ≡ 0 → reset_begins s x node (stable_records m s x node) ≡ reply → Turns m s x (ResetStep node) reply x
        → w.round ≡ x.round node → GoesOnReset a m node s x reply w
    stays_unreset reply may none answer turns round = record {
      after = s;
      next = x;
      row = inl (may, refl);
      settled = settled_first m s x node reply none answer;
      turns = turns;
      same = inl refl;
      fits = h;
      round = round;
    }

  -- a call changes nothing of a journal but its log
  pub called_on : (m : Setting) (node : ℕ) (s : State) (x : Numbers) (w v : Journal D a) (reply : Reply) → FitsJournal a m node w s x → w.round ≡ x.round node
      → reply ≡ reply_of a v.log w.taken → v.records ≡ w.records → v.dropped ≡ w.dropped → v.trimmed ≡ w.trimmed → v.taken ≡ w.taken → v.acked ≡ w.acked → v.round ≡ w.round
      → Called m node s x w.records w.dropped w.trimmed w.taken w.acked v.log → GoesOnReset a m node s x reply v
  called_on m node s x w v reply h round is records_is dropped_is trimmed_is taken_is acked_is round_is called = record {
    after = called.after;
    next = called.next;
    row = rw is called.row;
    settled = rw is called.settled;
    turns = rw is called.turns;
    same = called.same;
    fits = rw (records_is, dropped_is, trimmed_is, taken_is, acked_is) called.fits;
    round = round_is ∙ round ∙ sym (ap (λ (f : ℕ → ℕ). f node) called.round);
  }
