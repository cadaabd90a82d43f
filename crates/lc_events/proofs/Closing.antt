-- A node closes a reservation.
use Rattle.std.proofs.Common.{◌≡◌, ℕ, Bool, true, false, [], ◌∷◌, Option, Some, refl, sym, ap, ◌∙◌}
use Rattle.std.specs.Prelude.{slice_get, option_map, find, if◌then◌else◌}
use Rattle.lc_disk.specs.declared.area.Area.{Ghosts}
use Rattle.lc_record.specs.Transaction.{Transaction}
use Rattle.lc_model.specs.History.{History}
use Rattle.lc_model.specs.Machine.{closed_by}
use Rattle.lc_model.specs.Sound.{Sound, unclosed}
use Rattle.lc_model.specs.State.{Setting, State, is_by, is_unclosed}
use Rattle.lc_model.specs.declared.event.Event.TheVariants.{Close}
use Rattle.lc_model.specs.declared.refusal.Refusal.TheVariants.{OutOfTurn}
use Rattle.lc_model.specs.declared.reply.Reply.TheVariants.{Ok as Accepted, Refused}
use Rattle.lc_model.proofs.Fronts.{entry}
use Rattle.lc_model.proofs.Rows.{close-done, close-no_turn}
use Rattle.lc_journal.specs.Logging.{Shuts}
use Rattle.lc_events.specs.NodeState.{FitsNode, GoesOn}
use Rattle.lc_settled.specs.Numbers.{Numbers}
use Rattle.lc_desk.specs.Reserves.{ClosesNone, ClosesRecord}
use Rattle.lc_settled.specs.Turns.{closed_with, with_record}
use Rattle.lc_desk.specs.declared.desk.Desk.{Desk}
use Rattle.lc_journal.specs.declared.journal.Journal.{Journal}
use Rattle.lc_events.specs.declared.node_state.NodeState.{NodeState}
use Rattle.lc_desk.specs.Seat.{Seat, Reserved}
use Rattle.lc_desk.proofs.Closes.{not_unclosed}
use Rattle.lc_events.proofs.Counted.{aside_closed, set_at_desk, slots_counted, unspent_of}
use Rattle.lc_events.proofs.CountedDesk.{desk_counted}
use Rattle.lc_events.proofs.Going.{settled_by, slots_alike, stays_so}
use Rattle.lc_journal.proofs.OtherLogs.{logs_closed}
use Rattle.lc_desk.proofs.Others.{beside_closed}

-- the reservation of a thread, as an entry of the history
entry_by : (node thread : ℕ) (es : History) (t : Transaction) → (find (is_by node thread) (unclosed es) ≡ Some t → find (is_unclosed node thread) es ≡ Some (entry t false))
    → (b : Bool) (u : Transaction) → (if b then Some u else find (is_by node thread) (unclosed es)) ≡ Some t
    → (if b then Some (entry u false) else find (is_unclosed node thread) es) ≡ Some (entry t false)
entry_by node thread es t rest true u same = ap (λ (o : Option Transaction). option_map (λ v. entry v false) o) same
entry_by node thread es t rest false u same = rest same

entry_first : (node thread : ℕ) (es : History) (t : Transaction) → (find (is_by node thread) (unclosed es) ≡ Some t → find (is_unclosed node thread) es ≡ Some (entry t false))
    → (closed : Bool) (u : Transaction) → find (is_by node thread) (unclosed (entry u closed ∷ es)) ≡ Some t → find (is_unclosed node thread) (entry u closed ∷ es) ≡ Some (entry t false)
entry_first node thread es t rest true u same = rest same
entry_first node thread es t rest false u same = entry_by node thread es t rest (is_by node thread u) u same

entry_found : (node thread : ℕ) (history : History) (t : Transaction) → find (is_by node thread) (unclosed history) ≡ Some t → find (is_unclosed node thread) history ≡ Some (entry t false)
entry_found node thread [] t is = absurd cc
entry_found node thread (e ∷ es) t is = entry_first node thread es t (entry_found node thread es t) e.closed e.transaction is

module _ {D : Type 0} (a : Ghosts D) (m : Setting) (n thread : ℕ) (s : State) (x : Numbers) (sound : Sound m.geometry s) (old : NodeState D a) (h : FitsNode a m n old s x) where
  -- without a reservation nothing changes
  pub none_closes : (seat : Seat) → slice_get old.desk.seats.items thread ≡ Some seat → (new : Desk) → ClosesNone thread old.desk new
      → GoesOn a m n (Close n thread) s x (Refused OutOfTurn) (record { desk = new; journal = old.journal; known = old.known })
  none_closes seat at new counts =
      let none = not_unclosed old.desk.here n thread _ s seat (h.desk.threads thread seat at) (counts.none seat at) in
      stays_so a m n (Close n thread) s x (Refused OutOfTurn) (close-no_turn m s n thread none)
      (settled_by m s x (Close n thread) (Refused OutOfTurn) (λ e. absurd cc) (λ answer is. absurd cc)) refl
      (record { desk = rw (counts.here, counts.seats) h.desk; slots = rw counts.here h.slots; journal = h.journal; room = h.room; round = h.round; known = h.known })

  module _ (number : ℕ) (new : Desk) (journal : Journal D a) (it : ClosesRecord thread number old.desk new) (shuts : Shuts a old.journal number journal) (group : journal.group ≡ old.journal.group) (round : journal.round ≡ old.journal.round) where
    pub closes_one : GoesOn a m n (Close n thread) s x Accepted (record { desk = new; journal = journal; known = old.known })
    closes_one =
        let tx = it.tx in
        let fits = h.desk.threads thread (Reserved tx number) it.was in
        let t = fits.transaction in
        let after : State = record s { history = closed_by n thread s.history } in
        let next = with_record s x n t in
        let shut = shuts m n thread s x t sound h.journal fits.found fits.numbered in
        let logs = logs_closed m n thread s x in
        let desk = desk_counted tx.set old.desk.here it.counted it.counts it.spare m n old.desk.seats.items s old.desk.runs h.desk in
        let slots = slots_counted m n thread s x t sound fits.found tx.set it.canonical fits.set_is (λ segment set. unspent_of m n thread segment s x t sound fits.found h.journal.whole set)
        old.desk.here it.counted (set_at_desk m n thread s x t sound fits.found old.desk.here old.desk.seats.items h.desk) it.counts h.slots in
        record {
          after = after;
          next = next;
          row = close-done m s n thread fits.unclosed_is;
          settled = settled_by m s x (Close n thread) Accepted (λ e. absurd cc) (λ answer is. absurd cc);
          turns = sym (ap (closed_with s x n) (entry_found n thread s.history t fits.found));
          aside = record {
            desks = beside_closed m n thread s;
            logs = record {
              records = logs.records;
              marks = logs.marks;
              flush = logs.flush;
              halted = logs.halted;
              ack = logs.ack;
              dropped = logs.dropped;
              trimmed = logs.trimmed;
              reset = logs.reset;
              round = logs.round;
            };
            slots = aside_closed m n thread s x t sound fits.found;
            known = λ other segment differ. refl;
          };
          fits = record {
            desk = it.closes m n s desk fits.unclosed_is;
            slots = slots_alike m n it.counted new.here after next it.beside slots;
            journal = record {
              words = shut.words;
              marks = shut.marks;
              all_closed = shut.all_closed;
              whole = shut.whole;
              stands = shut.stands;
              halted = shut.halted;
              dropped_is = shut.dropped_is;
              trimmed_is = shut.trimmed_is;
              acked_is = shut.acked_is;
              taken_is = shut.taken_is;
              reset_is = shut.reset_is;
            };
            room = rw group h.room;
            round = round ∙ h.round;
            known = h.known;
          };
          phase = refl;
          places = λ segment differ. refl;
        }
