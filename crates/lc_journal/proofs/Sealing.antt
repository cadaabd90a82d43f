-- Of a journal: a reset of a node's log.
use Rattle.std.proofs.Common.{◌≡◌, ℕ, ◌≤◌, zero, suc, true, false, List, [], ◌∷◌, ◌++◌, length, take, drop, Option, Some, None, slice_get, refl, sym, ap, subst, ◌∙◌}
use Rattle.std.specs.Prelude.{nat_lt, if◌then◌else◌}
use Rattle.std.proofs.lemmas.Option.{same_Some as same_some}
use Rattle.lc_record.specs.declared.record.Lock.{Lock}
use Rattle.lc_record.specs.declared.record.Record.{Record}
use Rattle.lc_token.specs.Reset.{above, lesser}
use Rattle.lc_token.specs.declared.unclean.Unclean.{Unclean}
use Rattle.lc_model.specs.Sound.{Sound}
use Rattle.lc_model.specs.State.{Setting, State}
use Rattle.lc_model.specs.Stored.{records_of}
use Rattle.lc_settled.specs.Numbers.{Numbers, stable_records}
use Rattle.lc_model.specs.Machine.{halting}
use Rattle.lc_model.proofs.Seats.{update-own}
use Rattle.lc_journal.specs.Journal.{FitsLog}
use Rattle.lc_journal.specs.Records.{KeptRecords}
use Rattle.lc_settled.specs.Turns.{reset_to}
use Rattle.lc_journal.specs.Resets.{Knows}
use Rattle.lc_settled.specs.Settled.{least_unclean, locks_in}
use Rattle.lc_journal.specs.Trimming.{AreKnown}
use Rattle.lc_journal.proofs.Trimmed.{known_at}
use Rattle.lc_disk.specs.declared.area.Area.{Ghosts}
use Rattle.lc_journal.specs.declared.log.Log.{Log}
use Rattle.lc_journal.specs.declared.log.Log.TheVariants.{Idle, Written, Synced, Opened, Sealed, Closing, Emptied, Failed, Torn, Taken}
use Rattle.lc_journal.specs.Log.{ComesToReset, HasReset, MovesReset, Stands, end_of, is_failed, is_sealed}

-- Lists

pub drop_all : {A : Type 0} (xs : List A) → drop (length xs) xs ≡ []
drop_all [] = refl
drop_all (x ∷ xs) = drop_all xs

pub drop_at : {A : Type 0} (n : ℕ) (xs : List A) (x : A) → slice_get xs n ≡ Some x → drop n xs ≡ x ∷ drop (suc n) xs
drop_at n [] x is = absurd cc
drop_at {A} zero (y ∷ xs) x is = ap (λ (z : A). z ∷ xs) (same_some y x is)
drop_at (suc n) (y ∷ xs) x is = drop_at n xs x is

each_take : {A : Type 0} (P : A → Type 0) (n : ℕ) (xs : List A) → ((k : ℕ) (x : A) → slice_get xs k ≡ Some x → P x) → (k : ℕ) (x : A) → slice_get (take n xs) k ≡ Some x → P x
each_take P zero xs each k x is = absurd cc
each_take P (suc n) [] each k x is = absurd cc
each_take P (suc n) (y ∷ xs) each zero x is = each 0 x is
each_take P (suc n) (y ∷ xs) each (suc k) x is = each_take P n xs (λ j z at. each (suc j) z at) k x is

each_drop : {A : Type 0} (P : A → Type 0) (n : ℕ) (xs : List A) → ((k : ℕ) (x : A) → slice_get xs k ≡ Some x → P x) → (k : ℕ) (x : A) → slice_get (drop n xs) k ≡ Some x → P x
each_drop P zero xs each k x is = each k x is
each_drop P (suc n) [] each k x is = absurd cc
each_drop P (suc n) (y ∷ xs) each k x is = each_drop P n xs (λ j z at. each (suc j) z at) k x is

-- The least lock

-- with one lock more in front
pub least_next : (known : ℕ → ℕ) (locks more : List Lock) (n : ℕ) (lock : Lock) → slice_get locks n ≡ Some lock
    → least_unclean known (drop n locks ++ more) ≡ lesser (above known lock) (least_unclean known (drop (suc n) locks ++ more))
least_next known locks more n lock is = ap (λ (ls : List Lock). least_unclean known (ls ++ more)) (drop_at n locks lock is)

module _ (m : Setting) (known other : ℕ → ℕ) (same : (segment : ℕ) → 1 ≤ segment → segment ≤ m.geometry.segments → known segment ≡ other segment) where
  same_front : (locks more : List Lock) → AreKnown m locks → least_unclean known more ≡ least_unclean other more → least_unclean known (locks ++ more) ≡ least_unclean other (locks ++ more)
  same_front [] more are rest = rest
  same_front (lock ∷ locks) more are rest =
      let its = are 0 lock refl in
      let next = same_front locks more (λ k l at. are (suc k) l at) rest in
      ap (λ (n : ℕ). lesser (if nat_lt n lock.seq then Some (record { segment = lock.segment; seq = lock.seq }) else None) (least_unclean known (locks ++ more))) (same lock.segment its.0 its.1)
      ∙ ap (λ (l : Option Unclean). lesser (above other lock) l) next

  same_in : (records : List Record) → ((k : ℕ) (r : Record) → slice_get records k ≡ Some r → AreKnown m r.locks) → least_unclean known (locks_in records) ≡ least_unclean other (locks_in records)
  same_in [] each = refl
  same_in (r ∷ records) each = same_front r.locks (locks_in records) (each 0 r refl) (same_in records (λ k q at. each (suc k) q at))

-- what the node knows is enough
pub same_least : (m : Setting) (node : ℕ) (s : State) (x : Numbers) (known : ℕ → ℕ) → Sound m.geometry s → Knows m node x known
    → least_unclean known (locks_in (stable_records m s x node)) ≡ least_unclean (x.known node) (locks_in (stable_records m s x node))
same_least m node s x known sound knows =
    let records : List Record = records_of m s x.disks node in
    let each : (k : ℕ) (r : Record) → slice_get records k ≡ Some r → AreKnown m r.locks = λ k r at. known_at m node s x k r sound at in
    same_in m known (x.known node) knows (stable_records m s x node)
    (each_drop (λ (r : Record). AreKnown m r.locks) (x.disks.dropped node) (take (s.ack node) records) (each_take (λ (r : Record). AreKnown m r.locks) (s.ack node) records each))

module _ {D : Type 0} (a : Ghosts D) where
  comes : (new : Log D a) (steps : ℕ) → ComesToReset a new steps → is_failed a new ≡ false → (is_sealed a new ≡ true) × (end_of a new ≡ 0)
  comes (Idle log) steps h up = absurd h
  comes (Written log) steps h up = absurd h
  comes (Synced log) steps h up = absurd h
  comes (Opened log) steps h up = absurd h
  comes (Sealed log) steps h up = (refl, refl)
  comes (Closing log) steps h up = (refl, refl)
  comes (Emptied log) steps h up = (refl, h.1)
  comes (Failed log) steps h up = absurd h
  comes (Torn log) steps h up = absurd cc
  comes Taken steps h up = absurd h

  -- a reset goes on after a call that has not failed
  pub reset_still : (old new : Log D a) → is_sealed a old ≡ true → end_of a old ≡ 0 → MovesReset a old new → is_failed a new ≡ false → (is_sealed a new ≡ true) × (end_of a new ≡ 0)
  reset_still (Idle log) new is end h up = absurd cc
  reset_still (Written log) new is end h up = absurd cc
  reset_still (Synced log) new is end h up = absurd cc
  reset_still (Opened log) new is end h up = absurd cc
  reset_still (Sealed log) new is end h up = comes new 2 h up
  reset_still (Closing log) new is end h up = comes new 3 h up
  reset_still (Emptied log) new is end h up = (ap (is_sealed a) h, ap (end_of a) h ∙ end)
  reset_still (Failed log) new is end h up = absurd cc
  reset_still (Torn log) new is end h up = absurd cc
  reset_still Taken new is end h up = absurd cc

  module _ (m : Setting) (node : ℕ) (s : State) (x : Numbers) (k : KeptRecords) (dropped trimmed taken acked : ℕ) where
    abbrev records : List Record
    records = records_of m s x.disks node

    -- so many steps of a reset are done
    pub reset_fits : (old new : Log D a) (steps : ℕ) → FitsLog a m node old k dropped trimmed taken acked s x → is_failed a old ≡ false → is_failed a new ≡ false → HasReset a new steps
        → Stands a new (s.flush node).steps (drop dropped (take acked records)) (drop acked (take taken records)) → FitsLog a m node new k dropped trimmed taken acked s (reset_to x node steps)
    reset_fits old new steps h up works at stands = record {
      words = h.words;
      marks = h.marks;
      all_closed = h.all_closed;
      whole = h.whole;
      stands = stands;
      halted = h.halted ∙ up ∙ sym works;
      dropped_is = h.dropped_is;
      trimmed_is = h.trimmed_is;
      acked_is = h.acked_is;
      taken_is = h.taken_is;
      reset_is = subst (HasReset a new) (sym (update-own x.reset node steps)) at;
    }

    -- a fault has come in the place of one
    pub torn_fits : (old new : Log D a) → FitsLog a m node old k dropped trimmed taken acked s x → is_failed a new ≡ true → HasReset a new (x.reset node)
        → Stands a new (s.flush node).steps (drop dropped (take acked records)) (drop acked (take taken records)) → FitsLog a m node new k dropped trimmed taken acked (halting s node) x
    torn_fits old new h is at stands = record {
      words = h.words;
      marks = h.marks;
      all_closed = h.all_closed;
      whole = h.whole;
      stands = stands;
      halted = update-own s.halted node true ∙ sym is;
      dropped_is = h.dropped_is;
      trimmed_is = h.trimmed_is;
      acked_is = h.acked_is;
      taken_is = h.taken_is;
      reset_is = at;
    }
