-- The steps of a reset: which are made, and what they keep.
use Rattle.std.proofs.Common.{◌≡◌, ◌⊎◌, ℕ, zero, suc, ◌+◌, ◌<◌, ◌≤◌, Bool, true, false, List, [], ◌∷◌, ◌++◌, All, Option, Some, None, length, drop, refl, sym, ap, subst, ◌∙◌, inl, inr, arith, true≢false, take_all}
use Rattle.std.specs.Prelude.{◌==◌, nat_lt, if◌then◌else◌}
use Rattle.std.specs.Option.{unwrap_or}
use Rattle.std.proofs.lemmas.Bool.{eqb-true, lt-ltb, ltb-false}
use Rattle.std.proofs.lemmas.List.Elements.{All-nil, All-cons}
use Rattle.lc_record.specs.Newest.{number_or_zero}
use Rattle.lc_record.specs.Part.{number_in}
use Rattle.lc_record.specs.declared.record.Lock.{Lock}
use Rattle.lc_record.specs.declared.record.Record.{Record}
use Rattle.lc_model.specs.History.{reserved, transactions}
use Rattle.lc_model.specs.Moves.{with_dropped, with_reset}
use Rattle.lc_model.specs.Refusals.{refuse_if}
use Rattle.lc_model.specs.State.{Setting, State}
use Rattle.lc_model.specs.Stored.{Fits as FitsDisks, IsOnPages, base, records_of}
use Rattle.lc_model.specs.declared.event.Event.{Event}
use Rattle.lc_model.specs.declared.event.Event.TheVariants.{ResetStep}
use Rattle.lc_model.specs.declared.refusal.Refusal.TheVariants.{RoundsSpent, Unflushed}
use Rattle.lc_model.specs.declared.reply.Reply.{Reply}
use Rattle.lc_model.specs.declared.reply.Reply.TheVariants.{Nothing, Refused, Reset, Stepped}
use Rattle.lc_model.proofs.Moves.{keeps-dropped, keeps-reset, reserved-count}
use Rattle.lc_token.specs.Reset.{above, is_before, lesser}
use Rattle.lc_token.specs.declared.unclean.Unclean.{Unclean as Pair}
use Rattle.lc_token.proofs.CleanLemmas.{all-on_pages, token-fewer}
use Rattle.lc_journal.specs.Coherent.{AreCoherent, entries_of}
use Rattle.lc_settled.specs.Numbers.{Numbers, stable_records, token_number}
use Rattle.lc_settled.specs.Settled.{IsAnswer, is_unflushed, last_round, least_unclean, locks_in, refusal_or, reset_begins, reset_call, unclean_or}
use Rattle.lc_settled.specs.Turns.{numbers_after, reset_done, reset_to}
use Rattle.lc_journal.proofs.Cohering.{token_lower}
use Rattle.lc_journal.proofs.Logged.{length-records}

-- Where no lock is above what is known

none_lesser : (a b : Option Pair) → lesser a b ≡ None → (a ≡ None) × (b ≡ None)
none_lesser None b none = (refl, none)
none_lesser (Some a) None none = absurd cc
none_lesser (Some a) (Some b) none = absurd (both (is_before b a) none)
  where
    both : (before : Bool) → (if before then Some b else Some a) ≡ None → ⊥
    both true is = absurd cc
    both false is = absurd cc

not_above : (known : ℕ → ℕ) (lock : Lock) → above known lock ≡ None → lock.seq ≤ known lock.segment
not_above known lock none = by_test (nat_lt (known lock.segment) lock.seq) refl (record { segment = lock.segment; seq = lock.seq }) none
  where
    by_test : (b : Bool) → nat_lt (known lock.segment) lock.seq ≡ b → (pair : Pair) → (if b then Some pair else None) ≡ None → lock.seq ≤ known lock.segment
    by_test true less pair some = absurd cc
    by_test false more pair is = ltb-false (known lock.segment) lock.seq more

none_parts : (known : ℕ → ℕ) (xs ys : List Lock) → least_unclean known (xs ++ ys) ≡ None → (least_unclean known xs ≡ None) × (least_unclean known ys ≡ None)
none_parts known [] ys none = (refl, none)
none_parts known (lock ∷ xs) ys none =
    let one = none_lesser (above known lock) (least_unclean known (xs ++ ys)) none in
    let rest = none_parts known xs ys one.1 in
    (ap (λ (o : Option Pair). lesser o (least_unclean known xs)) one.0 ∙ rest.0, rest.1)

number_low : (known : ℕ → ℕ) (segment : ℕ) (locks : List Lock) → least_unclean known locks ≡ None → number_or_zero segment locks ≤ known segment
number_low known segment [] none = omega arith
number_low known segment (lock ∷ locks) none =
    let one = none_lesser (above known lock) (least_unclean known locks) none in
    elim (lock.segment == segment) as (λ b. (lock.segment == segment) ≡ b → unwrap_or (if b then Some lock.seq else number_in segment locks) 0 ≤ known segment) [
      | true ↦ λ own. subst (λ (k : ℕ). lock.seq ≤ known k) (eqb-true lock.segment segment own) (not_above known lock one.0)
      | false ↦ λ other. number_low known segment locks one.1
    ] refl

abbrev IsLow : (ℕ → ℕ) → Record → Type 0
IsLow known r = (segment : ℕ) → number_or_zero segment r.locks ≤ known segment

all_low : (known : ℕ → ℕ) (records : List Record) → least_unclean known (locks_in records) ≡ None → All (IsLow known) records
all_low known [] none = All-nil (IsLow known)
all_low known (r ∷ rs) none =
    let parts = none_parts known r.locks (locks_in rs) none in
    All-cons (IsLow known) r rs (λ segment. number_low known segment r.locks parts.0) (all_low known rs parts.1)

module _ (m : Setting) (s : State) (x : Numbers) (node : ℕ) where
  abbrev event : Event
  event = ResetStep node

  abbrev after_of : Reply → Numbers
  after_of reply = numbers_after m s x event reply

  abbrev steps : ℕ
  steps = x.reset node

  -- What a settled answer makes

  -- where the first step is made
  abbrev pub BeginsReset : Type 0
  BeginsReset = steps ≡ 0 → (is_unflushed s node ≡ false) × (least_unclean (x.known node) (locks_in (stable_records m s x node)) ≡ None)

  -- nothing, the next step, or the end of the reset
  abbrev pub MakesReset : Reply → Type 0
  MakesReset reply =
      (after_of reply ≡ x)
      ⊎ (BeginsReset × (after_of reply ≡ reset_to x node (steps + 1)))
      ⊎ ((1 ≤ steps) × (after_of reply ≡ reset_done s x node))

  nothing : (reply : Reply) → IsAnswer event (if is_unflushed s node then Refused Unflushed else Nothing) reply → MakesReset reply
  nothing reply answer = elim (is_unflushed s node) as (λ b. IsAnswer event (if b then Refused Unflushed else Nothing) reply → MakesReset reply) [
    | true ↦ λ h. elim h [ inl is ↦ inl (ap after_of is) | inr fault ↦ absurd (true≢false (sym fault.0)) ]
    | false ↦ λ h. elim h [ inl is ↦ inl (ap after_of is) | inr fault ↦ absurd (true≢false (sym fault.0)) ]
  ] answer

  at_first : (unflushed : Bool) (unclean : Option Pair) (spent : Bool) → steps ≡ 0 → (unflushed ≡ false → unclean ≡ None → BeginsReset) → (reply : Reply)
      → IsAnswer event (refusal_or (refuse_if unflushed Unflushed (unclean_or unclean (refuse_if spent RoundsSpent None))) (Stepped 1)) reply → MakesReset reply
  at_first true unclean spent none begins reply (inl is) = inl (ap after_of is)
  at_first true unclean spent none begins reply (inr fault) = absurd (true≢false (sym fault.0))
  at_first false (Some pair) spent none begins reply (inl is) = inl (ap after_of is)
  at_first false (Some pair) spent none begins reply (inr fault) = absurd (true≢false (sym fault.0))
  at_first false None true none begins reply (inl is) = inl (ap after_of is)
  at_first false None true none begins reply (inr fault) = absurd (true≢false (sym fault.0))
  at_first false None false none begins reply (inl is) =
      let one : 1 ≡ steps + 1 = omega (arith, none) in
      inr (inl (begins refl refl, ap after_of is ∙ ap (reset_to x node) one))
  at_first false None false none begins reply (inr fault) = absurd (true≢false (sym fault.0))

  by_records : steps ≡ 0 → (records : List Record) → stable_records m s x node ≡ records → (reply : Reply) → IsAnswer event (reset_begins s x node records) reply → MakesReset reply
  by_records none [] is reply answer = nothing reply answer
  by_records none (r ∷ rs) is reply answer =
      at_first (is_unflushed s node) (least_unclean (x.known node) (locks_in (r ∷ rs))) (x.round node == last_round) none
      (λ flushed low again. (flushed, ap (λ (l : List Record). least_unclean (x.known node) (locks_in l)) is ∙ low)) reply answer

  later_begins : (k : ℕ) → steps ≡ suc k → BeginsReset
  later_begins k is none = absurd (omega (arith, is, none))

  at_later : (k : ℕ) (less : Bool) → steps ≡ suc k → (reply : Reply) → IsAnswer event (if less then Stepped (suc k + 1) else Reset) reply → MakesReset reply
  at_later k true is reply (inl same) = inr (inl (later_begins k is, ap after_of same ∙ ap (λ (n : ℕ). reset_to x node (n + 1)) (sym is)))
  at_later k true is reply (inr fault) = inl (ap after_of fault.1)
  at_later k false is reply (inl same) = inr (inr (omega (arith, is), ap after_of same))
  at_later k false is reply (inr fault) = absurd (true≢false (sym fault.0))

  by_steps : (k : ℕ) → steps ≡ k → (reply : Reply) → IsAnswer event (reset_call m s x node k) reply → MakesReset reply
  by_steps zero is reply answer = by_records is (stable_records m s x node) refl reply answer
  by_steps (suc k) is reply answer = at_later k (nat_lt k 2) is reply answer

  pub reset_makes : (reply : Reply) → IsAnswer event (reset_call m s x node steps) reply → MakesReset reply
  reset_makes reply answer = by_steps steps refl reply answer

  -- What a step keeps

  module _ (known : node < m.geometry.nodes) (fits : FitsDisks m s x.disks) (h : AreCoherent m s x) where
    abbrev records : List Record
    records = records_of m s x.disks node

    -- all that the node has reserved is on the pages
    abbrev MayReset : Type 0
    MayReset = All (IsOnPages m.geometry x.disks) records × (length records ≤ s.ack node)

    may_begin : steps ≡ 0 → BeginsReset → MayReset
    may_begin none begins =
        let can = begins none in
        let acked : length records ≤ s.ack node =
        (let flushed = ltb-false (s.ack node) (reserved node s.history) can.0 in
        let count = length-records x.disks.numbers (base m s) node (transactions s.history) in
        omega (arith, flushed, count, reserved-count node s.history)) in
        let all : stable_records m s x node ≡ drop (x.disks.dropped node) records = ap (drop (x.disks.dropped node)) (take_all (s.ack node) records acked) in (
          all-on_pages m s x.disks node (token_number s x) (x.known node) (entries_of m.geometry x) fits known
              (λ segment first last. token_lower m s x.disks segment (token_number s x segment) (x.clean segment) (x.known node segment) (entries_of m.geometry x segment) (h.known node segment first last) (h.tokens segment first last))
              (subst (All (IsLow (x.known node))) all (all_low (x.known node) (stable_records m s x node) can.1)),
          acked,
        )

    may_go_on : 1 ≤ steps → MayReset
    may_go_on some =
        let under_way : x.disks.resetting node ≡ true = h.resets node ∙ lt-ltb 0 steps (omega (arith, some)) in
        let acked = fits.sealed node known under_way in
        (subst (All (IsOnPages m.geometry x.disks)) (take_all (s.ack node) records acked) (fits.resetting node known under_way), acked)

    may_reset : BeginsReset → MayReset
    may_reset begins = by_count steps refl
      where
        by_count : (k : ℕ) → steps ≡ k → MayReset
        by_count zero none = may_begin none begins
        by_count (suc k) is = may_go_on (omega (arith, is))

    pub step_keeps : BeginsReset → AreCoherent m s (reset_to x node (steps + 1)) × FitsDisks m s (reset_to x node (steps + 1)).disks
    step_keeps begins =
        let may = may_reset begins in (
          record {
            tokens = λ n first last. token-fewer m s x.disks (with_reset x.disks node) n (token_number s x n) (x.clean n) (entries_of m.geometry x n) (h.tokens n first last) refl (λ p z shows. shows);
            clean = h.clean;
            known = h.known;
            resets = λ k. elim (k == node) as (λ b. (if b then true else x.disks.resetting k) ≡ nat_lt 0 (if b then steps + 1 else x.reset k)) [
              | true ↦ sym (lt-ltb 0 (steps + 1) (omega arith))
              | false ↦ h.resets k
            ];
            writes = λ n k. (let its = h.writes n k in record { begun = its.begun; opened = its.opened; within = its.within });
          },
          keeps-reset m s x.disks node fits may.0 may.1,
        )

    pub done_keeps : 1 ≤ steps → AreCoherent m s (reset_done s x node) × FitsDisks m s (reset_done s x node).disks
    done_keeps some = (
      record {
        tokens = λ n first last. token-fewer m s x.disks (with_dropped x.disks node (s.ack node)) n (token_number s x n) (x.clean n) (entries_of m.geometry x n) (h.tokens n first last) refl (λ p z shows. shows);
        clean = h.clean;
        known = h.known;
        resets = λ k. elim (k == node) as (λ b. (if b then false else x.disks.resetting k) ≡ nat_lt 0 (if b then 0 else x.reset k)) [
          | true ↦ refl
          | false ↦ h.resets k
        ];
        writes = λ n k. (let its = h.writes n k in record { begun = its.begun; opened = its.opened; within = its.within });
      },
      keeps-dropped m s x.disks node fits known (h.resets node ∙ lt-ltb 0 steps (omega (arith, some))),
    )
