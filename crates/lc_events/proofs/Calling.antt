-- A call of a page write, but the last: what the node and the others see of it.
use Rattle.std.proofs.Common.{◌≡◌, ℕ, ◌==◌, Bool, true, false, Option, Some, None, refl, sym, ap, ◌∙◌}
use Rattle.std.specs.Prelude.{if◌then◌else◌}
use Rattle.lc_disk.specs.declared.area.Area.{Ghosts}
use Rattle.lc_model.specs.Machine.{Row}
use Rattle.lc_model.specs.Merge.{Page}
use Rattle.lc_model.specs.Moves.{page_now, with_begun}
use Rattle.lc_model.specs.State.{Setting, State}
use Rattle.lc_model.specs.Stored.{Disks}
use Rattle.lc_model.specs.declared.event.Event.{Event}
use Rattle.lc_model.specs.declared.reply.Reply.{Reply}
use Rattle.lc_journal.specs.Beside.{BesideLogs}
use Rattle.lc_journal.specs.Follows.{FitsJournal}
use Rattle.lc_settled.specs.Follows.{SameButLog}
use Rattle.lc_events.specs.NodeState.{FitsNode, GoesOn}
use Rattle.lc_settled.specs.Numbers.{Numbers}
use Rattle.lc_settled.specs.Settled.{Settled}
use Rattle.lc_desk.specs.Slots.{besides_of}
use Rattle.lc_settled.specs.Turns.{Turns, call_made, called, opened_with}
use Rattle.lc_journal.specs.declared.journal.Journal.{Journal}
use Rattle.lc_events.specs.declared.node_state.NodeState.{NodeState}
use Rattle.lc_events.proofs.Going.{desk_logged}
use Rattle.lc_desk.proofs.Others.{beside_logged}
use Rattle.lc_events.proofs.Slotted.{Stays, aside_stays, slots_stay, stays_where}

-- what the logs show of the numbers
pub record SameForLogs (x y : Numbers) : Type 0 where
  pub numbers : y.disks.numbers ≡ x.disks.numbers
  pub dropped : y.disks.dropped ≡ x.disks.dropped
  pub trimmed : y.trimmed ≡ x.trimmed
  pub reset : y.reset ≡ x.reset
  pub round : y.round ≡ x.round

pub logs_paged : (m : Setting) (n : ℕ) (s after : State) (x y : Numbers) → SameButLog n s after → SameForLogs x y → BesideLogs m n s x after y
logs_paged m n s after x y same logs = record {
  records = λ other differ. rw (same.earlier, same.history, logs.numbers) refl;
  marks = λ other differ. rw same.history refl;
  flush = same.flush;
  halted = same.halted;
  ack = same.ack;
  dropped = λ other differ. ap (λ (f : ℕ → ℕ). f other) logs.dropped;
  trimmed = λ other differ. ap (λ (f : ℕ → ℕ). f other) logs.trimmed;
  reset = λ other differ. ap (λ (f : ℕ → ℕ). f other) logs.reset;
  round = λ other differ. ap (λ (f : ℕ → ℕ). f other) logs.round;
}

pub journal_paged : {D : Type 0} (a : Ghosts D) (m : Setting) (n : ℕ) (w : Journal D a) (s : State) (x y : Numbers) → SameForLogs x y → FitsJournal a m n w s x → FitsJournal a m n w s y
journal_paged a m n w s x y logs h = record {
  words = rw logs.numbers h.words;
  marks = h.marks;
  all_closed = h.all_closed;
  whole = rw logs.numbers h.whole;
  stands = rw logs.numbers h.stands;
  halted = h.halted;
  dropped_is = h.dropped_is ∙ sym (ap (λ (f : ℕ → ℕ). f n) logs.dropped);
  trimmed_is = h.trimmed_is ∙ sym (ap (λ (f : ℕ → ℕ). f n) logs.trimmed);
  acked_is = h.acked_is;
  taken_is = h.taken_is;
  reset_is = rw logs.reset h.reset_is;
}

-- but for what is written of pages the numbers are the same
pub record SameBesideCalls (x y : Numbers) : Type 0 where
  pub logs : SameForLogs x y
  pub page : y.disks.page ≡ x.disks.page
  pub applied : y.applied ≡ x.applied
  pub waiting : y.waiting ≡ x.waiting
  pub known : y.known ≡ x.known
  pub clean : y.clean ≡ x.clean
  pub touched : y.touched ≡ x.touched
  pub texts : y.texts ≡ x.texts

pub nothing_called : (x : Numbers) → SameBesideCalls x x
nothing_called x = record {
  logs = record { numbers = refl; dropped = refl; trimmed = refl; reset = refl; round = refl };
  page = refl;
  applied = refl;
  waiting = refl;
  known = refl;
  clean = refl;
  touched = refl;
  texts = refl;
}

record SameBesideWrites (d e : Disks) : Type 0 where
  pub numbers : e.numbers ≡ d.numbers
  pub dropped : e.dropped ≡ d.dropped
  pub page : e.page ≡ d.page

module _ (m : Setting) (s : State) (segment page : ℕ) where
  opened_same : (d : Disks) (o : Option Page) → SameBesideWrites d (opened_with d segment page o)
  opened_same d None = record { numbers = refl; dropped = refl; page = refl }
  opened_same d (Some text) = record { numbers = refl; dropped = refl; page = refl }

  call_same : (d : Disks) (calls : ℕ) → SameBesideWrites d (call_made m s d segment page calls)
  call_same d calls =
      elim (calls == 1) as (λ (b : Bool). SameBesideWrites d (if b then with_begun d segment page (page_now m s d segment page)
      else if calls == 5 then opened_with d segment page (d.begun segment page) else d)) [
        | true ↦ record { numbers = refl; dropped = refl; page = refl }
        | false ↦ elim (calls == 5) as (λ (b : Bool). SameBesideWrites d (if b then opened_with d segment page (d.begun segment page) else d)) [
          | true ↦ opened_same d (d.begun segment page)
          | false ↦ record { numbers = refl; dropped = refl; page = refl }
        ]
      ]

  pub called_same : (x : Numbers) (calls : ℕ) → SameBesideCalls x (called m s x segment page calls)
  called_same x calls =
      let disks = call_same x.disks calls in
      record {
        logs = record { numbers = disks.numbers; dropped = disks.dropped; trimmed = refl; reset = refl; round = refl };
        page = disks.page;
        applied = refl;
        waiting = refl;
        known = refl;
        clean = refl;
        touched = refl;
        texts = refl;
      }

-- so the node goes on, with its log or with one that is given up
unfoldable pub by_calls : {D : Type 0} (a : Ghosts D) (m : Setting) (n : ℕ) (event : Event) (s : State) (x : Numbers) (reply : Reply) (after : State) (y : Numbers)
    → SameButLog n s after → SameBesideCalls x y → Row m s event reply after → Settled m s x event reply → Turns m s x event reply y
    → (old : NodeState D a) (new : Journal D a) → FitsNode a m n old s x → new.group.room ≡ old.journal.group.room → new.round ≡ old.journal.round → FitsJournal a m n new after x
    → GoesOn a m n event s x reply (record { desk = old.desk; journal = new; known = old.known })
by_calls a m n event s x reply after y same only row settled turns old new h room round journal =
    let stays : Stays m s x after y =
    stays_where m s after x y same.earlier same.history only.logs.numbers only.page only.applied only.waiting only.clean only.touched only.texts in
    record {
      after = after;
      next = y;
      row = row;
      settled = settled;
      turns = turns;
      aside = record {
        desks = beside_logged m n s after same;
        logs = logs_paged m n s after x y same only.logs;
        slots = aside_stays m n s x after y stays;
        known = λ other segment differ. ap (λ (f : ℕ → ℕ → ℕ). f other segment) only.known;
      };
      fits = record {
        desk = desk_logged m n old.desk s after same h.desk;
        slots = slots_stay m n (besides_of old.desk.here) s x after y stays h.slots;
        journal = journal_paged a m n new after x y only.logs journal;
        room = room ∙ h.room;
        round = round ∙ h.round ∙ sym (ap (λ (f : ℕ → ℕ). f n) only.logs.round);
        known = λ segment first last. h.known segment first last ∙ sym (ap (λ (f : ℕ → ℕ → ℕ). f n segment) only.known);
      };
      phase = same.phase;
      places = λ segment differ. ap (λ f. f segment) same.place;
    }
