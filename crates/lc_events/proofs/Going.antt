-- A node's desk or journal goes on, and so does the node.
use Rattle.std.proofs.Common.{◌≡◌, ℕ, None, Some, refl, sym, ap, subst, ◌∙◌, inl}
use Rattle.std.specs.Prelude.{Option, is_some, if◌then◌else◌}
use Rattle.std.specs.Option.{ForSome}
use Rattle.lc_disk.specs.declared.area.Area.{Ghosts}
use Rattle.lc_model.specs.History.{value}
use Rattle.lc_model.specs.Machine.{Row}
use Rattle.lc_model.specs.Refusals.{common_refusal}
use Rattle.lc_model.specs.State.{Setting, State}
use Rattle.lc_model.specs.declared.event.Event.{Event}
use Rattle.lc_model.specs.declared.event.Event.TheVariants.{RecoverStep}
use Rattle.lc_model.specs.declared.refusal.Refusal.{Refusal}
use Rattle.lc_model.specs.declared.reply.Reply.{Reply}
use Rattle.lc_desk.specs.Desk.{FitsSeat, FitsDesk}
use Rattle.lc_journal.specs.Follows.{FitsJournal}
use Rattle.lc_settled.specs.Follows.{SameButLog}
use Rattle.lc_settled.specs.FollowsDesk.{SameButOpen}
use Rattle.lc_desk.specs.Here.{the_images}
use Rattle.lc_events.specs.NodeState.{FitsNode, GoesOn}
use Rattle.lc_settled.specs.Numbers.{Numbers}
use Rattle.lc_settled.specs.Settled.{Settled, open_answer}
use Rattle.lc_desk.specs.Slots.{FitsSlots, besides_of}
use Rattle.lc_settled.specs.Turns.{Turns}
use Rattle.lc_desk.specs.declared.desk.Desk.{Desk}
use Rattle.lc_desk.specs.declared.here.Here.{Here}
use Rattle.lc_journal.specs.declared.journal.Journal.{Journal}
use Rattle.lc_events.specs.declared.node_state.NodeState.{NodeState}
use Rattle.lc_desk.specs.Seat.{Seat, Free, Open, Reserved}
use Rattle.lc_journal.proofs.OtherLogs.{logs_open, logs_logged}
use Rattle.lc_desk.proofs.Others.{beside_open, beside_logged}
use Rattle.lc_events.proofs.Slotted.{aside_open, aside_logged, slots_same}

-- what is open after the common refusals is settled
pub settled_by : (m : Setting) (s : State) (x : Numbers) (event : Event) (reply : Reply) → (event ≡ RecoverStep → ⊥)
    → ForSome (open_answer m s x event) (λ answer. reply ≡ answer) → Settled m s x event reply
settled_by m s x event reply other settled = (
  λ answer is. inl (behind (common_refusal m.geometry s event) answer is),
  λ recovers. absurd (other recovers),
)
  where
    behind : (o : Option Refusal) (answer : Reply) → (if is_some o then None else open_answer m s x event) ≡ Some answer → reply ≡ answer
    behind None answer is = settled answer is
    behind (Some refusal) answer is = absurd cc

-- what stands in the slots is seen alike
pub slots_alike : (m : Setting) (n : ℕ) (old new : Here) (s : State) (x : Numbers) → the_images.IsSameBeside old new → FitsSlots m n (besides_of old) s x → FitsSlots m n (besides_of new) s x
slots_alike m n old new s x same h = subst (λ bs. FitsSlots m n bs s x) (sym same.1) h

-- the state but for a node's log
logged_state : (n : ℕ) (s after : State) → SameButLog n s after → after ≡ record s { ack = after.ack; halted = after.halted; flush = after.flush }
logged_state n s after same =
    ap (λ v. record after { earlier = v }) same.earlier
    ∙ ap (λ v. record after { earlier = s.earlier; history = v }) same.history
    ∙ ap (λ v. record after { earlier = s.earlier; history = s.history; running = v }) same.running
    ∙ ap (λ v. record after { earlier = s.earlier; history = s.history; running = s.running; place = v }) same.place
    ∙ ap (λ v. record after { earlier = s.earlier; history = s.history; running = s.running; place = s.place; phase = v }) same.phase

pub desk_logged : (m : Setting) (n : ℕ) (w : Desk) (s after : State) → SameButLog n s after → FitsDesk m n w.here w.seats.items s → FitsDesk m n w.here w.seats.items after
desk_logged m n w s after same h = subst (FitsDesk m n w.here w.seats.items) (sym (logged_state n s after same)) seen
  where
    seat_seen : (j : ℕ) (seat : Seat) → FitsSeat w.here n j (value m.start s.earlier s.history) s seat → FitsSeat w.here n j (value m.start s.earlier s.history) (record s { ack = after.ack; halted = after.halted; flush = after.flush }) seat
    seat_seen j Free fits = fits
    seat_seen j (Open tx) fits = record { transaction = fits.transaction; running = fits.running; unclosed = fits.unclosed; stands = fits.stands }
    seat_seen j (Reserved tx number) fits = record {
      transaction = fits.transaction;
      running = fits.running;
      unclosed_is = fits.unclosed_is;
      found = fits.found;
      locked_are = fits.locked_are;
      reading_are = fits.reading_are;
      set_is = fits.set_is;
      numbered = fits.numbered;
      shown = fits.shown;
    }

    seen : FitsDesk m n w.here w.seats.items (record s { ack = after.ack; halted = after.halted; flush = after.flush })
    seen = record {
      all_seats = h.all_seats;
      shape = h.shape;
      threads = λ j seat at. seat_seen j seat (h.threads j seat at);
      shown = h.shown;
      sizes = h.sizes;
      writer = h.writer;
      readers = h.readers;
      places = h.places;
      elsewhere = h.elsewhere;
    }

module _ {D : Type 0} (a : Ghosts D) where
  journal_open : (m : Setting) (n : ℕ) (w : Journal D a) (s : State) (x : Numbers) (after : State) → SameButOpen n s after → FitsJournal a m n w s x → FitsJournal a m n w after x
  journal_open m n w s x after same h = record {
    words = rw (same.earlier, same.history) h.words;
    marks = rw same.history h.marks;
    all_closed = rw same.history h.all_closed;
    whole = rw (same.earlier, same.history) h.whole;
    stands = rw (same.earlier, same.history, same.flush) h.stands;
    halted = rw same.halted h.halted;
    dropped_is = h.dropped_is;
    trimmed_is = h.trimmed_is;
    acked_is = rw same.ack h.acked_is;
    taken_is = rw same.flush h.taken_is;
    reset_is = h.reset_is;
  }

  -- where nothing changes
  pub stays_so : (m : Setting) (n : ℕ) (event : Event) (s : State) (x : Numbers) (reply : Reply) → Row m s event reply s → Settled m s x event reply → Turns m s x event reply x
      → {new : NodeState D a} → FitsNode a m n new s x → GoesOn a m n event s x reply new
  stays_so m n event s x reply row settled turns fits =
      let same : SameButOpen n s s = record { earlier = refl; history = refl; place = refl; phase = refl; ack = refl; halted = refl; flush = refl; running = λ other thread differ. refl } in
      record {
        after = s;
        next = x;
        row = row;
        settled = settled;
        turns = turns;
        aside = record { desks = beside_open m n s s same; logs = logs_open m n s s x same; slots = aside_open m n s s x same; known = λ other segment differ. refl };
        fits = fits;
        phase = refl;
        places = λ segment differ. refl;
      }

  module _ (m : Setting) (n : ℕ) (event : Event) (s : State) (x : Numbers) (reply : Reply) (after : State) (row : Row m s event reply after)
      (settled : Settled m s x event reply) (turns : Turns m s x event reply x) (old : NodeState D a) (h : FitsNode a m n old s x) where
    -- by a change of the transactions
    pub by_desk : (new : Desk) → SameButOpen n s after → the_images.IsSameBeside old.desk.here new.here → FitsDesk m n new.here new.seats.items after
        → GoesOn a m n event s x reply (record { desk = new; journal = old.journal; known = old.known })
    by_desk new same seen fits = record {
      after = after;
      next = x;
      row = row;
      settled = settled;
      turns = turns;
      aside = record {
        desks = beside_open m n s after same;
        logs = logs_open m n s after x same;
        slots = aside_open m n s after x same;
        known = λ other segment differ. refl;
      };
      fits = record {
        desk = fits;
        slots = slots_alike m n old.desk.here new.here after x seen (slots_same m n (besides_of old.desk.here) s after x same.earlier same.history h.slots);
        journal = journal_open m n old.journal s x after same h.journal;
        room = h.room;
        round = h.round;
        known = h.known;
      };
      phase = same.phase;
      places = λ segment differ. ap (λ f. f segment) same.place;
    }

    -- by a call of the log
    pub by_log : (new : Journal D a) → SameButLog n s after → new.group.room ≡ old.journal.group.room → new.round ≡ old.journal.round → FitsJournal a m n new after x
        → GoesOn a m n event s x reply (record { desk = old.desk; journal = new; known = old.known })
    by_log new same room round fits = record {
      after = after;
      next = x;
      row = row;
      settled = settled;
      turns = turns;
      aside = record {
        desks = beside_logged m n s after same;
        logs = logs_logged m n s after x same;
        slots = aside_logged m n s after x same;
        known = λ other segment differ. refl;
      };
      fits = record {
        desk = desk_logged m n old.desk s after same h.desk;
        slots = slots_same m n (besides_of old.desk.here) s after x same.earlier same.history h.slots;
        journal = fits;
        room = room ∙ h.room;
        round = round ∙ h.round;
        known = h.known;
      };
      phase = same.phase;
      places = λ segment differ. ap (λ f. f segment) same.place;
    }
