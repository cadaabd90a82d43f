-- What wants memory, by the state and the numbers that a store fits.
use Rattle.std.proofs.Common.{◌≡◌, ◌≢◌, ◌⊎◌, ◌∙◌, ℕ, ◌+◌, ◌<◌, ◌≤◌, true, false, ◌||◌, ◌==◌, length, None, refl, sym, ap, subst, inl, inr, arith, le-leb, ne_eqb}
use Rattle.std.specs.Prelude.{nat_le}
use Rattle.std.proofs.lemmas.Bool.{cases_lt, false_from_ne_true}
use Rattle.lc_disk.specs.declared.area.Area.{Ghosts}
use Rattle.lc_record.specs.Content.{segment_of}
use Rattle.lc_record.specs.Geometry.{segment_len}
use Rattle.lc_record.specs.Marks.{marked, ranges}
use Rattle.lc_record.specs.Transaction.{Transaction, all_set, holds, is_member, locks}
use Rattle.lc_record.specs.declared.geometry.Geometry.{Geometry}
use Rattle.lc_recover.specs.Reads.{area_count}
use Rattle.lc_recover.specs.Recovery.{Recovering, all_steps, IsLast, TakesMemory}
use Rattle.lc_recover.specs.Steps.{first_steps}
use Rattle.lc_model.specs.History.{value}
use Rattle.lc_model.specs.Refusals.{common_refusal, is_up, read_refusal, set_range_refusal}
use Rattle.lc_model.specs.State.{Setting, State}
use Rattle.lc_model.specs.declared.event.Event.{Event}
use Rattle.lc_model.specs.declared.event.Event.TheVariants.{Begin, SetRange, Write, Read, Abort, Reserve, Close, FlushStep, Leave, Arrive, Deliver, Trim, PageStep, ResetStep, Stop, RecoverStep}
use Rattle.lc_tx.specs.Images.{bytes_of}
use Rattle.lc_tx.proofs.HoldsLemmas.{held_here}
use Rattle.lc_tx.proofs.StandsLemmas.{more_runs, positions_set}
use Rattle.lc_core.specs.Asks.{EventAsks, Grows, ReadsSome, SetsMore, TakesRoom}
use Rattle.lc_desk.specs.Desk.{IsOpen}
use Rattle.lc_desk.specs.Here.{the_images}
use Rattle.lc_settled.specs.Numbers.{Numbers}
use Rattle.lc_events.specs.Running.{FitsRunning, WantsBytes, WantsRange}
use Rattle.lc_desk.specs.Seat.{Open, holder_of}
use Rattle.lc_events.specs.Stepping.{Wants}
use Rattle.lc_core.specs.World.{AsksIn, AsksWorld, FitsDown, FitsPhase}
use Rattle.lc_core.specs.declared.world_phase.WorldPhase.{WorldPhase}
use Rattle.lc_core.specs.declared.world_phase.WorldPhase.TheVariants.{Down, Up, Taken}
use Rattle.lc_events.specs.declared.running.Running.{Running}
use Rattle.lc_core.specs.declared.world.World.{World}
use Rattle.lc_desk.proofs.RangeRows.{all_reached, lock_is, size_is}

-- What is not refused

range_allowed : (g : Geometry) (t : Transaction) (segment offset len : ℕ) → locks t segment ≡ true → (len == 0) ≡ false → nat_le (offset + len) (segment_len g) ≡ true
    → nat_le (ranges (marked t segment offset len).marks) 64 ≡ true → set_range_refusal g t segment offset len ≡ None
range_allowed g t segment offset len lock some within few = rw (lock, some, within, few) refl

read_allowed : (g : Geometry) (t : Transaction) (segment offset len : ℕ) → holds t segment ≡ true → nat_le (offset + len) (segment_len g) ≡ true → read_refusal g t segment offset len ≡ None
read_allowed g t segment offset len held within = rw (held, within) refl

-- Of a store that is up

module _ {D : Type 0} (a : Ghosts D) where
  sets_more : (w : Running D a) (m : Setting) (s : State) (x : Numbers) (n thread segment offset len : ℕ) → FitsRunning a m w s x → WantsRange a n thread segment offset len w
      → SetsMore m s n thread segment offset len
  sets_more w m s x n thread segment offset len fits wants =
      let node = wants.0 in
      let its = wants.2 in
      let h = (fits.each n node wants.1).desk in
      let content = value m.start s.earlier s.history in
      let one : IsOpen node.desk.here n thread its.tx content s = h.threads thread (Open its.tx) its.sits in
      let runs = (node.desk.runs thread its.tx (ap holder_of its.sits)).runs in
      let size = size_is m n thread node.desk.here node.desk.seats.items s h its.tx one runs segment its.locked in
      let reached = all_reached m n thread node.desk.here node.desk.seats.items s h its.tx one runs segment its.locked in
      let inside : offset + len ≤ length (bytes_of the_images node.desk.here segment) = omega (arith, its.inside, reached) in
      let differ : len ≢ 0 = omega (arith, its.some) in
      let few : nat_le (ranges (marked one.transaction segment offset len).marks) 64 ≡ true =
      elim (cases_lt 64 (ranges (marked one.transaction segment offset len).marks)) [
        | inl many ↦ absurd (its.few ((more_runs the_images node.desk.here its.tx segment offset len content one.transaction one.stands its.locked inside).1 many))
        | inr few ↦ le-leb (ranges (marked one.transaction segment offset len).marks) 64 few
      ] in
      record {
        transaction = one.transaction;
        running = one.running;
        allowed = range_allowed m.geometry one.transaction segment offset len
            (lock_is m n thread node.desk.here node.desk.seats.items s h its.tx one runs segment its.locked)
            (ne_eqb len 0 differ)
            (le-leb (offset + len) (segment_len m.geometry) (omega (arith, inside, size)))
            few;
        more = false_from_ne_true (all_set offset len (segment_of segment one.transaction.marks)) (λ all.
            its.more.3 ((positions_set the_images node.desk.here its.tx content one.transaction segment offset len one.stands).1 all its.more.0 its.more.1 its.more.2));
      }

  reads_some : (w : Running D a) (m : Setting) (s : State) (x : Numbers) (n thread segment offset len : ℕ) → FitsRunning a m w s x → WantsBytes a n thread segment offset len w
      → ReadsSome m s n thread segment offset len
  reads_some w m s x n thread segment offset len fits wants =
      let node = wants.0 in
      let its = wants.2 in
      let h = (fits.each n node wants.1).desk in
      let one : IsOpen node.desk.here n thread its.tx (value m.start s.earlier s.history) s = h.threads thread (Open its.tx) its.sits in
      let runs = (node.desk.runs thread its.tx (ap holder_of its.sits)).runs in
      let size = h.sizes segment (held_here the_images node.desk.here its.tx segment runs its.holds) in
      let held : holds one.transaction segment ≡ true =
      ap (λ l. is_member segment l || is_member segment one.transaction.reading) one.stands.locked_are
      ∙ ap (λ l. is_member segment its.tx.locked.items || is_member segment l) one.stands.reading_are ∙ its.holds in
      record {
        transaction = one.transaction;
        running = one.running;
        allowed = read_allowed m.geometry one.transaction segment offset len held (le-leb (offset + len) (segment_len m.geometry) (omega (arith, its.inside, size)));
        some = its.some;
      }

  grows : (w : Running D a) (event : Event) (m : Setting) (s : State) (x : Numbers) → FitsRunning a m w s x → Wants a w event → Grows m s x event
  grows w (SetRange node thread segment offset len) m s x fits wants = sets_more w m s x node thread segment offset len fits wants
  grows w (Read node thread segment offset len) m s x fits wants = reads_some w m s x node thread segment offset len fits wants
  grows w (Reserve node thread) m s x fits wants = wants m s x fits
  grows w (Deliver sender number segment to) m s x fits wants = wants m s x fits
  grows w (Begin node thread segments reading) m s x fits wants = wants
  grows w (Write node thread segment offset bytes) m s x fits wants = wants
  grows w (Abort node thread) m s x fits wants = wants
  grows w (Close node thread) m s x fits wants = wants
  grows w (FlushStep node) m s x fits wants = wants
  grows w (Leave node segment) m s x fits wants = wants
  grows w (Arrive node segment) m s x fits wants = wants
  grows w (Trim node) m s x fits wants = wants
  grows w (PageStep node segment page) m s x fits wants = wants
  grows w (ResetStep node) m s x fits wants = wants
  grows w (Stop choices) m s x fits wants = absurd wants
  grows w RecoverStep m s x fits wants = absurd wants

  -- Of any store

  room_taken : (r : Recovering D) (m : Setting) (s : State) (x : Numbers) → FitsDown a m r s x → (TakesMemory r) ⊎ (IsLast r) → TakesRoom m x
  room_taken r m s x fits (inl takes) =
      inl (subst (λ (g : Geometry). (area_count g ≤ x.steps) × (x.steps < first_steps g)) fits.geometry_is
      (subst (λ (n : ℕ). (area_count r.geometry ≤ n) × (n < first_steps r.geometry)) (sym fits.steps_are) takes))
  room_taken r m s x fits (inr last) =
      inr (last.0, ap (λ (n : ℕ). n + 1) fits.steps_are ∙ last.2 ∙ ap (λ (g : Geometry). all_steps g last.0) fits.geometry_is)

  -- a store that is down is not up
  pub down_fits : (r : Recovering D) (m : Setting) (s : State) (x : Numbers) → FitsDown a m r s x → is_up s.phase ≡ false
  down_fits r m s x fits = ap is_up fits.down

  recovers_down : (m : Setting) (s : State) → is_up s.phase ≡ false → common_refusal m.geometry s RecoverStep ≡ None
  recovers_down m s down = rw down refl

  asks_in : (phase : WorldPhase D a) (event : Event) (m : Setting) (s : State) (x : Numbers) → AsksIn a phase event → FitsPhase a m phase s x → EventAsks m s x event
  asks_in (Down r) RecoverStep m s x asks fits = (let down = down_fits r m s x fits in (recovers_down m s down, (down, room_taken r m s x fits asks)))
  asks_in (Down r) event m s x asks fits = absurd asks
  asks_in (Up up) event m s x asks fits = (sym (asks.0 m s x fits.0.running), grows up.running event m s x fits.0.running asks.1)
  asks_in Taken event m s x asks fits = absurd asks

  pub asks_world : (w : World D a) (event : Event) → AsksIn a w.phase event → AsksWorld a w event
  asks_world w event asks m s x fits = asks_in w.phase event m s x asks fits
