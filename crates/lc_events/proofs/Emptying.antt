-- A node whose log is being reset goes on.
use Rattle.std.proofs.Common.{◌≡◌, ℕ, ◌+◌, true, refl, sym, ap, subst, ◌∙◌, inl, inr}
use Rattle.lc_disk.specs.declared.area.Area.{Ghosts}
use Rattle.lc_model.specs.Machine.{halting}
use Rattle.lc_model.specs.State.{Setting, State}
use Rattle.lc_model.specs.declared.event.Event.TheVariants.{ResetStep}
use Rattle.lc_model.specs.declared.reply.Reply.{Reply}
use Rattle.lc_model.specs.declared.reply.Reply.TheVariants.{Stepped, Reset}
use Rattle.lc_model.proofs.Seats.{update-other}
use Rattle.lc_settled.specs.Follows.{SameButLog}
use Rattle.lc_events.specs.NodeState.{FitsNode, GoesOn}
use Rattle.lc_settled.specs.Numbers.{Numbers}
use Rattle.lc_journal.specs.Resets.{GoesOnReset}
use Rattle.lc_desk.specs.Slots.{besides_of}
use Rattle.lc_settled.specs.Turns.{numbers_after}
use Rattle.lc_journal.specs.declared.journal.Journal.{Journal}
use Rattle.lc_events.specs.declared.node_state.NodeState.{NodeState}
use Rattle.lc_events.proofs.Going.{desk_logged}
use Rattle.lc_desk.proofs.Others.{beside_logged}
use Rattle.lc_events.proofs.Slotted.{Stays, aside_stays, slots_stay, stays_where}

-- only what is said of a node's reset is another
record OnlyReset (node : ℕ) (x y : Numbers) : Type 0 where
  pub numbers : y.disks.numbers ≡ x.disks.numbers
  pub page : y.disks.page ≡ x.disks.page
  pub applied : y.applied ≡ x.applied
  pub waiting : y.waiting ≡ x.waiting
  pub clean : y.clean ≡ x.clean
  pub touched : y.touched ≡ x.touched
  pub texts : y.texts ≡ x.texts
  pub known : y.known ≡ x.known
  pub trimmed : y.trimmed ≡ x.trimmed
  pub dropped : (other : ℕ) → (other ≡ node → ⊥) → y.disks.dropped other ≡ x.disks.dropped other
  pub reset : (other : ℕ) → (other ≡ node → ⊥) → y.reset other ≡ x.reset other
  pub round : (other : ℕ) → (other ≡ node → ⊥) → y.round other ≡ x.round other

same_numbers : (node : ℕ) (x : Numbers) → OnlyReset node x x
same_numbers node x = record {
  numbers = refl;
  page = refl;
  applied = refl;
  waiting = refl;
  clean = refl;
  touched = refl;
  texts = refl;
  known = refl;
  trimmed = refl;
  dropped = λ other differ. refl;
  reset = λ other differ. refl;
  round = λ other differ. refl;
}

only_reset : (m : Setting) (node : ℕ) (s : State) (x : Numbers) (reply : Reply) → OnlyReset node x (numbers_after m s x (ResetStep node) reply)
only_reset m node s x (Stepped steps) = record {
  numbers = refl;
  page = refl;
  applied = refl;
  waiting = refl;
  clean = refl;
  touched = refl;
  texts = refl;
  known = refl;
  trimmed = refl;
  dropped = λ other differ. refl;
  reset = λ other differ. update-other x.reset node steps other differ;
  round = λ other differ. refl;
}
only_reset m node s x Reset = record {
  numbers = refl;
  page = refl;
  applied = refl;
  waiting = refl;
  clean = refl;
  touched = refl;
  texts = refl;
  known = refl;
  trimmed = refl;
  dropped = λ other differ. update-other x.disks.dropped node (s.ack node) other differ;
  reset = λ other differ. update-other x.reset node 0 other differ;
  round = λ other differ. update-other x.round node (x.round node + 1) other differ;
}
only_reset m node s x _ = same_numbers node x

pub stays_or_halts : (node : ℕ) (s : State) → SameButLog node s (halting s node)
stays_or_halts node s = record {
  earlier = refl;
  history = refl;
  running = refl;
  place = refl;
  phase = refl;
  ack = λ other differ. refl;
  halted = λ other differ. update-other s.halted node true other differ;
  flush = λ other differ. refl;
}

pub stays_itself : (node : ℕ) (s : State) → SameButLog node s s
stays_itself node s = record {
  earlier = refl;
  history = refl;
  running = refl;
  place = refl;
  phase = refl;
  ack = λ other differ. refl;
  halted = λ other differ. refl;
  flush = λ other differ. refl;
}

module _ {D : Type 0} (a : Ghosts D) where
  pub by_reset : (m : Setting) (n : ℕ) (s : State) (x : Numbers) (reply : Reply) (old : NodeState D a) (new : Journal D a) → FitsNode a m n old s x → new.group.room ≡ old.journal.group.room
      → GoesOnReset a m n s x reply new → GoesOn a m n (ResetStep n) s x reply (record { desk = old.desk; journal = new; known = old.known })
  by_reset m n s x reply old new h room goes =
      let same : SameButLog n s goes.after = elim goes.same [
        | inl is ↦ subst (SameButLog n s) (sym is) (stays_itself n s)
        | inr is ↦ subst (SameButLog n s) (sym is) (stays_or_halts n s)
      ] in
      let only : OnlyReset n x goes.next = subst (OnlyReset n x) (sym goes.turns) (only_reset m n s x reply) in
      let stays : Stays m s x goes.after goes.next =
      stays_where m s goes.after x goes.next same.earlier same.history only.numbers only.page only.applied only.waiting only.clean only.touched only.texts in
      record {
        after = goes.after;
        next = goes.next;
        row = goes.row;
        settled = goes.settled;
        turns = goes.turns;
        aside = record {
          desks = beside_logged m n s goes.after same;
          logs = record {
            records = λ other differ. rw (same.earlier, same.history, only.numbers) refl;
            marks = λ other differ. rw same.history refl;
            flush = same.flush;
            halted = same.halted;
            ack = same.ack;
            dropped = only.dropped;
            trimmed = λ other differ. ap (λ (f : ℕ → ℕ). f other) only.trimmed;
            reset = only.reset;
            round = only.round;
          };
          slots = aside_stays m n s x goes.after goes.next stays;
          known = λ other segment differ. ap (λ (f : ℕ → ℕ → ℕ). f other segment) only.known;
        };
        fits = record {
          desk = desk_logged m n old.desk s goes.after same h.desk;
          slots = slots_stay m n (besides_of old.desk.here) s x goes.after goes.next stays h.slots;
          journal = goes.fits;
          room = room ∙ h.room;
          round = goes.round;
          known = λ segment first last. h.known segment first last ∙ sym (ap (λ (f : ℕ → ℕ → ℕ). f n segment) only.known);
        };
        phase = same.phase;
        places = λ segment differ. ap (λ f. f segment) same.place;
      }
