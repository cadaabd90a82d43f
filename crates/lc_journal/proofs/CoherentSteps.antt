-- Each event keeps the numbers beside a state coherent, and the disks fitting it.
use Rattle.std.proofs.Common.{◌≡◌, ℕ, ◌+◌, ◌-◌, ◌<◌, ◌≤◌, Bool, true, false, not, ◌&&◌, ◌||◌, nat_lt, List, [], ◌∷◌, map, length, filter, Option, Some, None, refl, sym, ap, subst, ◌∙◌, inl, inr, arith, true≢false, leb-true}
use Rattle.std.specs.Prelude.{◌^◌, find, is_some, option_map, nat_le, slice_get, if◌then◌else◌}
use Rattle.std.specs.List.{list_all, list_any}
use Rattle.std.specs.Option.{ForSome}
use Rattle.std.proofs.lemmas.Bool.{ltb-true, and_parts as and-both}
use Rattle.std.proofs.lemmas.Option.{same_Some as same_some}
use Rattle.lc_record.specs.Marks.{is_empty}
use Rattle.lc_record.specs.Record.{record_len}
use Rattle.lc_record.specs.Transaction.{Transaction}
use Rattle.lc_record.specs.declared.geometry.Geometry.{Geometry}
use Rattle.lc_record.specs.declared.record.Lock.{Lock}
use Rattle.lc_model.specs.History.{Entry, History, transactions}
use Rattle.lc_model.specs.Machine.{RecoverRow, ReserveRow, Row, Step, StopRow, appended, closed_by, dropped}
use Rattle.lc_model.specs.Merging.{counted_all, sets}
use Rattle.lc_model.specs.Refusals.{OfRunning, Unless, are_known, by_node, common_refusal, is_halted, is_known, is_node, is_page, is_segment, is_up, refuse_if, works_down}
use Rattle.lc_model.specs.State.{Phase, Up, DownAt, Setting, State, has_unclosed, is_by, is_unclosed, running_of, update}
use Rattle.lc_model.specs.Stored.{Disks, Fits as FitsDisks, records_of}
use Rattle.lc_model.specs.declared.event.Event.{Event}
use Rattle.lc_model.specs.declared.event.Event.TheVariants.{Begin, SetRange, Write, Read, Abort, Reserve, Close, FlushStep, Leave, Arrive, Deliver, Trim, PageStep, ResetStep, Stop, RecoverStep}
use Rattle.lc_model.specs.declared.refusal.Refusal.{Refusal}
use Rattle.lc_model.specs.declared.refusal.Refusal.TheVariants.{Down as IsDown, Halted, OutOfTurn, Sealed, SequenceSpent, TooLong, Unknown}
use Rattle.lc_model.specs.declared.reply.Reply.{Reply}
use Rattle.lc_model.specs.declared.reply.Reply.TheVariants.{Ok as Accepted, Applied, Ended, HeldBack, Refused, Reserved, Trimmed}
use Rattle.lc_model.proofs.Holders.{is_by-both}
use Rattle.lc_model.proofs.Keeps.{match-case}
use Rattle.lc_model.proofs.Lists.{found-passes}
use Rattle.lc_model.proofs.Merging.{counted-length}
use Rattle.lc_model.proofs.Rows.{known, node_known}
use Rattle.lc_model.proofs.Steps.{step-keeps}
use Rattle.lc_token.specs.Clean.{TokenFits, closed_of}
use Rattle.lc_token.proofs.CleanLemmas.{token-appended}
use Rattle.lc_journal.specs.Coherent.{AreCoherent, entries_of}
use Rattle.lc_settled.specs.Numbers.{Numbers, log_end, next_record, token_number}
use Rattle.lc_settled.specs.Settled.{IsAnswer, Settled, first_spent, number_of, open_answer, page_answer, record_refusal, refusal_or, reserve_answer, reserve_open, reset_call}
use Rattle.lc_settled.specs.Turns.{Turns, closed_with, held_back, numbers_after}
use Rattle.lc_journal.proofs.ClosedPages.{coherent_closed, found_unclosed}
use Rattle.lc_journal.proofs.Cohering.{coherent_apart, coherent_state}
use Rattle.lc_journal.proofs.PageNumbers.{call_keeps, page_makes}
use Rattle.lc_journal.proofs.PageEnds.{coherent_seen, end_keeps}
use Rattle.lc_journal.proofs.Reserved.{closed_appended}
use Rattle.lc_journal.proofs.ResetSteps.{done_keeps, reset_makes, step_keeps}
use Rattle.lc_journal.proofs.SameHistory.{IsSameHistory, row_same, same_as}

-- What an event names

page_known : (g : Geometry) (node segment page : ℕ) → are_known g (by_node node (segment ∷ []) (page ∷ [])) ≡ true → (1 ≤ segment) × (segment ≤ g.segments) × (page < g.pages)
page_known g node segment page h =
    let a = and-both (is_node g node && true && true && list_all (is_segment g) (segment ∷ [])) (list_all (is_page g) (page ∷ [])) h in
    let b = and-both (is_node g node && true && true) (list_all (is_segment g) (segment ∷ [])) a.0 in
    let c = and-both (is_segment g segment) true b.1 in
    let d = and-both (nat_le 1 segment) (nat_le segment g.segments) c.0 in
    let e = and-both (is_page g page) true a.1 in
    (leb-true 1 segment d.0, leb-true segment g.segments d.1, ltb-true page g.pages e.0)

-- A reservation

fewer_closed : (segment : ℕ) (history : History) → length (filter (sets segment) (closed_of history)) ≤ length (filter (sets segment) (transactions history))
fewer_closed segment [] = omega arith
fewer_closed segment (e ∷ es) =
    let next = fewer_closed segment es in
    elim e.closed as (λ b. length (filter (sets segment) (map (λ (f : Entry). f.transaction) (if b then e ∷ filter (λ (f : Entry). f.closed) es else filter (λ (f : Entry). f.closed) es))) ≤ length (filter (sets segment) (transactions (e ∷ es)))) [
      | true ↦ elim (sets segment e.transaction) as (λ b. length (if b then e.transaction ∷ filter (sets segment) (closed_of es) else filter (sets segment) (closed_of es)) ≤ length (if b then e.transaction ∷ filter (sets segment) (transactions es) else filter (sets segment) (transactions es))) [
        | true ↦ omega (arith, next)
        | false ↦ next
      ]
      | false ↦ elim (sets segment e.transaction) as (λ b. length (filter (sets segment) (closed_of es)) ≤ length (if b then e.transaction ∷ filter (sets segment) (transactions es) else filter (sets segment) (transactions es))) [
        | true ↦ omega (arith, next)
        | false ↦ next
      ]
    ]

coherent_appended : (m : Setting) (s : State) (x : Numbers) (t : Transaction) → AreCoherent m s x → AreCoherent m (appended s t) x
coherent_appended m s x t h = record {
  tokens = λ segment first last.
      let closed = counted-length x.disks.numbers (closed_of s.history) segment in
      let all = counted-length x.disks.numbers (transactions s.history) segment in
      subst (λ (k : ℕ). TokenFits m (appended s t) x.disks segment k (x.clean segment) (entries_of m.geometry x segment)) (same segment)
      (token-appended m s x.disks segment (token_number s x segment) (x.clean segment) (entries_of m.geometry x segment) t (h.tokens segment first last)
      (omega (arith, closed, all, fewer_closed segment s.history)) (h.clean segment first last));
  clean = λ segment first last. (let most = h.clean segment first last in omega (arith, most, same segment));
  known = h.known;
  resets = h.resets;
  writes = λ segment page.
      let its = h.writes segment page in
      record { begun = its.begun; opened = its.opened; within = λ text is. (let most = its.within text is in omega (arith, most, same segment)) };
}
  where
    same : (segment : ℕ) → token_number s x segment ≡ token_number (appended s t) x segment
    same segment = ap (λ (ts : List Transaction). counted_all x.disks.numbers ts segment) (sym (closed_appended s t))

-- where the answer is a place, the log is not sealed
none_spent : (locks : List Lock) (next : Option Refusal) → first_spent locks next ≡ None → next ≡ None
none_spent [] next none = none
none_spent (lock ∷ locks) next none = elim (nat_lt (2 ^ 60) lock.seq) as (λ b. (if b then Some (SequenceSpent lock.segment) else first_spent locks next) ≡ None → next ≡ None) [
  | true ↦ λ some. absurd cc
  | false ↦ λ is. none_spent locks next is
] none

none_refused : (o : Option Refusal) (place words end need : ℕ) → refusal_or o (Reserved end need) ≡ Reserved place words → o ≡ None
none_refused None place words end need is = refl
none_refused (Some refusal) place words end need is = absurd cc

not_sealed : (long sealed : Bool) (length : ℕ) (next : Option Refusal) → refuse_if long (TooLong length) (refuse_if sealed Sealed next) ≡ None → sealed ≡ false
not_sealed true sealed length next none = absurd cc
not_sealed false true length next none = absurd cc
not_sealed false false length next none = refl

any_found : {X : Type 0} (p : X → Bool) (xs : List X) → list_any p xs ≡ true → find p xs ≡ None → ⊥
any_found p [] some none = absurd (true≢false (sym some))
any_found {X} p (y ∷ ys) some none = elim (p y) as (λ b. (b || list_any p ys) ≡ true → (if b then Some y else find p ys) ≡ None → ⊥) [
  | true ↦ λ is nothing. absurd cc
  | false ↦ λ is nothing. any_found p ys is nothing
] some none

module _ (m : Setting) (s : State) (x : Numbers) (after : State) (next : Numbers) (up : s.phase ≡ Up) (fits : FitsDisks m s x.disks) (h : AreCoherent m s x) where
  abbrev Keeps : State → Numbers → Type 0
  Keeps v y = AreCoherent m v y × FitsDisks m v y.disks

  module _ (event : Event) (reply : Reply) (step : Step m s event reply after) where
    -- the disks as they are now
    fits_after : (d : Disks) → FitsDisks m s d → ((node thread place words : ℕ) → event ≡ Reserve node thread → reply ≡ Reserved place words → d.resetting node ≡ false) → FitsDisks m after d
    fits_after d now unsealed = step-keeps m s d event reply after now up unsealed step

    -- no more of the history
    stays : (y : Numbers) → ((node thread : ℕ) → event ≡ Reserve node thread → ⊥) → IsSameHistory s after → Keeps s y → next ≡ y → Keeps after next
    stays y other same keeps is =
        subst (Keeps after) (sym is)
        (coherent_state m s after y same.0 same.1 keeps.0, fits_after y.disks keeps.1 (λ node thread place words reserves. absurd (other node thread reserves)))

  -- Refused at once

  refused_numbers : (node segment page : ℕ) (down unknown halted : Bool) (refusal : Refusal) → refuse_if down IsDown (refuse_if unknown Unknown (refuse_if halted Halted None)) ≡ Some refusal
      → numbers_after m s x (PageStep node segment page) (Refused refusal) ≡ x
  refused_numbers node segment page true unknown halted refusal is = subst (λ r. numbers_after m s x (PageStep node segment page) (Refused r) ≡ x) (same_some IsDown refusal is) refl
  refused_numbers node segment page false true halted refusal is = subst (λ r. numbers_after m s x (PageStep node segment page) (Refused r) ≡ x) (same_some Unknown refusal is) refl
  refused_numbers node segment page false false true refusal is = subst (λ r. numbers_after m s x (PageStep node segment page) (Refused r) ≡ x) (same_some Halted refusal is) refl
  refused_numbers node segment page false false false refusal is = absurd cc

  refused_keeps : (event : Event) (refusal : Refusal) → common_refusal m.geometry s event ≡ Some refusal → Turns m s x event (Refused refusal) next → Keeps s next
  refused_keeps (Begin node thread segments reading) refusal is turns = subst (Keeps s) (sym turns) (h, fits)
  refused_keeps (SetRange node thread segment offset len) refusal is turns = subst (Keeps s) (sym turns) (h, fits)
  refused_keeps (Write node thread segment offset bytes) refusal is turns = subst (Keeps s) (sym turns) (h, fits)
  refused_keeps (Read node thread segment offset len) refusal is turns = subst (Keeps s) (sym turns) (h, fits)
  refused_keeps (Abort node thread) refusal is turns = subst (Keeps s) (sym turns) (h, fits)
  refused_keeps (Reserve node thread) refusal is turns = subst (Keeps s) (sym turns) (h, fits)
  refused_keeps (Close node thread) refusal is turns = subst (Keeps s) (sym turns) (h, fits)
  refused_keeps (FlushStep node) refusal is turns = subst (Keeps s) (sym turns) (h, fits)
  refused_keeps (Leave node segment) refusal is turns = subst (Keeps s) (sym turns) (h, fits)
  refused_keeps (Arrive node segment) refusal is turns = subst (Keeps s) (sym turns) (h, fits)
  refused_keeps (Deliver sender number segment to) refusal is turns = subst (Keeps s) (sym turns) (h, fits)
  refused_keeps (Trim node) refusal is turns = subst (Keeps s) (sym turns) (h, fits)
  refused_keeps (PageStep node segment page) refusal is turns =
      subst (Keeps s)
      (sym (turns ∙ refused_numbers node segment page (not (is_up s.phase) && not (works_down (PageStep node segment page))) (not (is_known m.geometry (PageStep node segment page))) (is_halted s.halted (PageStep node segment page)) refusal is))
      (h, fits)
  refused_keeps (ResetStep node) refusal is turns = subst (Keeps s) (sym turns) (h, fits)
  refused_keeps (Stop choices) refusal is turns = subst (Keeps s) (sym turns) (h, fits)
  refused_keeps RecoverStep refusal is turns = subst (Keeps s) (sym turns) (coherent_apart m s x x.applied x.waiting x.round x.trimmed 0 h, fits)

  -- A reservation

  module _ (node thread : ℕ) (reply : Reply) where
    sealed_not : (o : Option Transaction) → running_of node thread s ≡ o → OfRunning o s reply after (λ t. ReserveRow s t reply after) → ((answer : Reply) → reserve_open m s x o ≡ Some answer → IsAnswer (Reserve node thread) answer reply)
        → (place words : ℕ) → reply ≡ Reserved place words → x.disks.resetting node ≡ false
    sealed_not None found row settled place words is = (let no : Refused OutOfTurn ≡ Reserved place words = sym row.0 ∙ is in absurd cc)
    sealed_not (Some t) found row settled place words is =
        match-case (x.disks.resetting node ≡ false) (is_empty t.marks) _ _
        (λ nothing ended. (let no : Ended ≡ Reserved place words = sym ended.0 ∙ is in absurd cc))
        (λ some rest. elim (settled (reserve_answer m s x t) (ap (λ b. if b then None else Some (reserve_answer m s x t)) some)) [
          | inl same ↦
              let none : record_refusal m.geometry.words (log_end m s x t.node) (nat_lt 0 (x.reset t.node)) (next_record m s x t) ≡ None =
              none_refused (record_refusal m.geometry.words (log_end m s x t.node) (nat_lt 0 (x.reset t.node)) (next_record m s x t)) place words (log_end m s x t.node) (record_len (next_record m s x t)) (sym same ∙ is) in
              let is_open : nat_lt 0 (x.reset t.node) ≡ false =
              not_sealed (nat_lt 4096 (record_len (next_record m s x t))) (nat_lt 0 (x.reset t.node)) (record_len (next_record m s x t)) _ (none_spent (next_record m s x t).locks _ none) in
              let by : t.node ≡ node = (is_by-both node thread t (found-passes (is_by node thread) s.running t found)).0 in
              subst (λ (n : ℕ). x.disks.resetting n ≡ false) by (h.resets t.node ∙ is_open)
          | inr fault ↦ absurd (true≢false (sym fault.0))
        ])
        row

    reserve_coherent : (o : Option Transaction) → OfRunning o s reply after (λ t. ReserveRow s t reply after) → AreCoherent m after x
    reserve_coherent None row = subst (λ (v : State). AreCoherent m v x) (sym row.1) h
    reserve_coherent (Some t) row =
        match-case (AreCoherent m after x) (is_empty t.marks) _ _
        (λ nothing ended. (let same = same_as s (dropped s t.node t.thread) after (refl, refl) ended.1 in coherent_state m s after x same.0 same.1 h))
        (λ some rest. elim rest [
          | inl now ↦ subst (λ (v : State). AreCoherent m v x) (sym now.3) (coherent_appended m s x t h)
          | inr refused ↦ subst (λ (v : State). AreCoherent m v x) (sym refused.3) h
        ])
        row

    reserve_keeps : Step m s (Reserve node thread) reply after → Row m s (Reserve node thread) reply after → ForSome (open_answer m s x (Reserve node thread)) (λ answer. IsAnswer (Reserve node thread) answer reply) → next ≡ x → Keeps after next
    reserve_keeps step row settled is =
        subst (Keeps after) (sym is) (
          reserve_coherent (running_of node thread s) row,
          fits_after (Reserve node thread) reply step x.disks fits (λ n i place words same got.
              let own : node ≡ n = same_node n i same in
              subst (λ (k : ℕ). x.disks.resetting k ≡ false) own (sealed_not (running_of node thread s) refl row settled place words got)),
        )
      where
        same_node : (n i : ℕ) → Reserve node thread ≡ Reserve n i → node ≡ n
        same_node n i same = ap (λ (e : Event). elim e as (λ (e : Event). ℕ) [ Reserve k j ↦ k | _ ↦ node ]) same

    -- A close

    closed_coherent : (o : Option Entry) → find (is_unclosed node thread) s.history ≡ o → has_unclosed node thread s ≡ true → AreCoherent m (record s { history = closed_by node thread s.history }) (closed_with s x node o)
    closed_coherent None none some = absurd (any_found (is_unclosed node thread) s.history some none)
    closed_coherent (Some e) is some =
        coherent_closed m node thread s x e.transaction fits.sound (found_unclosed node thread s.history ∙ ap (option_map (λ (f : Entry). f.transaction)) is) h

    closed_disks : (o : Option Entry) → (closed_with s x node o).disks ≡ x.disks
    closed_disks None = refl
    closed_disks (Some e) = refl

    close_keeps : Step m s (Close node thread) reply after → (unclosed : Bool) → has_unclosed node thread s ≡ unclosed
        → Unless (refuse_if (not unclosed) OutOfTurn None) s reply after ((reply ≡ Accepted) × (after ≡ record s { history = closed_by node thread s.history }))
        → next ≡ numbers_after m s x (Close node thread) reply → Keeps after next
    close_keeps step false none row is =
        stays (Close node thread) reply step x (λ n i no. absurd cc) (same_as s s after (refl, refl) row.1) (h, fits) (is ∙ ap (numbers_after m s x (Close node thread)) row.0)
    close_keeps step true some row is =
        subst (Keeps after) (sym (is ∙ ap (numbers_after m s x (Close node thread)) row.0)) (
          subst (λ (v : State). AreCoherent m v (closed_with s x node (find (is_unclosed node thread) s.history))) (sym row.1) (closed_coherent (find (is_unclosed node thread) s.history) refl some),
          subst (FitsDisks m after) (sym (closed_disks (find (is_unclosed node thread) s.history))) (fits_after (Close node thread) reply step x.disks fits (λ n i place words no. absurd cc)),
        )

  -- The events of peers

  arrives : (node segment : ℕ) (reply : Reply) → Keeps s (numbers_after m s x (Arrive node segment) reply)
  arrives node segment reply = elim reply as (λ (r : Reply). Keeps s (numbers_after m s x (Arrive node segment) r)) [
    | Accepted ↦ (coherent_seen m s x node segment h, fits)
    | _ ↦ (h, fits)
  ]

  held : (to segment : ℕ) (number : Option ℕ) → Keeps s (held_back x to segment number)
  held to segment None = (h, fits)
  held to segment (Some number) = (coherent_apart m s x x.applied (held_back x to segment (Some number)).waiting x.round x.trimmed x.steps h, fits)

  delivers : (sender number segment to : ℕ) (reply : Reply) → Keeps s (numbers_after m s x (Deliver sender number segment to) reply)
  delivers sender number segment to reply = elim reply as (λ (r : Reply). Keeps s (numbers_after m s x (Deliver sender number segment to) r)) [
    | Applied last ↦
        let y : Numbers = numbers_after m s x (Deliver sender number segment to) (Applied last) in
        (coherent_apart m s x y.applied y.waiting x.round x.trimmed x.steps h, fits)
    | HeldBack ↦ held to segment (number_of segment (slice_get (records_of m s x.disks sender) (number - 1)))
    | _ ↦ (h, fits)
  ]

  trims : (node : ℕ) (reply : Reply) → Keeps s (numbers_after m s x (Trim node) reply)
  trims node reply = elim reply as (λ (r : Reply). Keeps s (numbers_after m s x (Trim node) r)) [
    | Trimmed count ↦ (coherent_apart m s x x.applied x.waiting x.round (update x.trimmed node (x.trimmed node + count)) x.steps h, fits)
    | _ ↦ (h, fits)
  ]

  -- Pages and resets

  page_keeps : (node segment page : ℕ) (reply : Reply) → is_known m.geometry (PageStep node segment page) ≡ true → IsAnswer (PageStep node segment page) (page_answer s x node segment page) reply
      → Keeps s (numbers_after m s x (PageStep node segment page) reply)
  page_keeps node segment page reply in_geometry answer =
      let its = page_known m.geometry node segment page in_geometry in
      elim (page_makes m s x node segment page reply answer) [
        | inl nothing ↦ subst (Keeps s) (sym nothing) (h, fits)
        | inr makes ↦ elim makes [
          | inl call ↦ subst (Keeps s) (sym call.1) (call_keeps m s x node segment page its.0 its.1 its.2 fits h call.0)
          | inr end ↦ subst (Keeps s) (sym end.1) (end_keeps m s x node segment page its.0 its.1 its.2 fits h end.0)
        ]
      ]

  reset_keeps : (node : ℕ) (reply : Reply) → is_known m.geometry (ResetStep node) ≡ true → IsAnswer (ResetStep node) (reset_call m s x node (x.reset node)) reply → Keeps s (numbers_after m s x (ResetStep node) reply)
  reset_keeps node reply in_geometry answer =
      let its = node_known m.geometry node [] [] in_geometry in
      elim (reset_makes m s x node reply answer) [
        | inl nothing ↦ subst (Keeps s) (sym nothing) (h, fits)
        | inr makes ↦ elim makes [
          | inl step ↦ subst (Keeps s) (sym step.1) (step_keeps m s x node its fits h step.0)
          | inr done ↦ subst (Keeps s) (sym done.1) (done_keeps m s x node its fits h done.0)
        ]
      ]

  -- A stop, and a step of a recovery

  stops : (phase : Phase) (reply : Reply) → s.phase ≡ phase → after.phase ≡ Up → StopRow phase m.geometry s reply after → ⊥
  stops Up reply is still row = (let no : Up ≡ DownAt row.0 = sym still ∙ ap (λ (v : State). v.phase) row.3 in absurd cc)
  stops (DownAt cut) reply is still row = (let no : Up ≡ DownAt cut = sym up ∙ is in absurd cc)

  recovers : (phase : Phase) (reply : Reply) → s.phase ≡ phase → RecoverRow phase m.geometry s reply after → (reply ≡ Refused OutOfTurn) × (after ≡ s)
  recovers Up reply is row = row
  recovers (DownAt cut) reply is row = (let no : Up ≡ DownAt cut = sym up ∙ is in absurd cc)

  recover_keeps : (reply : Reply) → (reply ≡ Refused OutOfTurn) × (after ≡ s) → Turns m s x RecoverStep reply next → Keeps after next
  recover_keeps reply row turns =
      subst (λ (v : State). Keeps v next) (sym row.1)
      (subst (Keeps s) (sym (subst (λ (r : Reply). Turns m s x RecoverStep r next) row.0 turns)) (coherent_apart m s x x.applied x.waiting x.round x.trimmed 0 h, fits))

  -- All events

  row_keeps : (event : Event) (reply : Reply) → after.phase ≡ Up → is_known m.geometry event ≡ true → Step m s event reply after → Row m s event reply after
      → ForSome (open_answer m s x event) (λ answer. IsAnswer event answer reply) → Turns m s x event reply next → Keeps after next
  row_keeps (Begin node thread segments reading) reply still in_geometry step row settled turns =
      stays (Begin node thread segments reading) reply step x (λ n i no. absurd cc) (row_same m s (Begin node thread segments reading) reply after refl row) (h, fits) turns
  row_keeps (SetRange node thread segment offset len) reply still in_geometry step row settled turns =
      stays (SetRange node thread segment offset len) reply step x (λ n i no. absurd cc) (row_same m s (SetRange node thread segment offset len) reply after refl row) (h, fits) turns
  row_keeps (Write node thread segment offset bytes) reply still in_geometry step row settled turns =
      stays (Write node thread segment offset bytes) reply step x (λ n i no. absurd cc) (row_same m s (Write node thread segment offset bytes) reply after refl row) (h, fits) turns
  row_keeps (Read node thread segment offset len) reply still in_geometry step row settled turns =
      stays (Read node thread segment offset len) reply step x (λ n i no. absurd cc) (row_same m s (Read node thread segment offset len) reply after refl row) (h, fits) turns
  row_keeps (Abort node thread) reply still in_geometry step row settled turns =
      stays (Abort node thread) reply step x (λ n i no. absurd cc) (row_same m s (Abort node thread) reply after refl row) (h, fits) turns
  row_keeps (Reserve node thread) reply still in_geometry step row settled turns = reserve_keeps node thread reply step row settled turns
  row_keeps (Close node thread) reply still in_geometry step row settled turns = close_keeps node thread reply step (has_unclosed node thread s) refl row turns
  row_keeps (FlushStep node) reply still in_geometry step row settled turns =
      stays (FlushStep node) reply step x (λ n i no. absurd cc) (row_same m s (FlushStep node) reply after refl row) (h, fits) turns
  row_keeps (Leave node segment) reply still in_geometry step row settled turns =
      stays (Leave node segment) reply step x (λ n i no. absurd cc) (row_same m s (Leave node segment) reply after refl row) (h, fits) turns
  row_keeps (Arrive node segment) reply still in_geometry step row settled turns =
      stays (Arrive node segment) reply step (numbers_after m s x (Arrive node segment) reply) (λ n i no. absurd cc) (row_same m s (Arrive node segment) reply after refl row) (arrives node segment reply) turns
  row_keeps (Deliver sender number segment to) reply still in_geometry step row settled turns =
      stays (Deliver sender number segment to) reply step (numbers_after m s x (Deliver sender number segment to) reply) (λ n i no. absurd cc) (row_same m s (Deliver sender number segment to) reply after refl row) (delivers sender number segment to reply) turns
  row_keeps (Trim node) reply still in_geometry step row settled turns =
      stays (Trim node) reply step (numbers_after m s x (Trim node) reply) (λ n i no. absurd cc) (row_same m s (Trim node) reply after refl row) (trims node reply) turns
  row_keeps (PageStep node segment page) reply still in_geometry step row settled turns =
      stays (PageStep node segment page) reply step (numbers_after m s x (PageStep node segment page) reply) (λ n i no. absurd cc) (row_same m s (PageStep node segment page) reply after refl row)
      (page_keeps node segment page reply in_geometry (settled (page_answer s x node segment page) refl)) turns
  row_keeps (ResetStep node) reply still in_geometry step row settled turns =
      stays (ResetStep node) reply step (numbers_after m s x (ResetStep node) reply) (λ n i no. absurd cc) (row_same m s (ResetStep node) reply after refl row)
      (reset_keeps node reply in_geometry (settled (reset_call m s x node (x.reset node)) refl)) turns
  row_keeps (Stop choices) reply still in_geometry step row settled turns = absurd (stops s.phase reply refl still row)
  row_keeps RecoverStep reply still in_geometry step row settled turns = recover_keeps reply (recovers s.phase reply refl row) turns

  pub turn_keeps : (event : Event) (reply : Reply) → after.phase ≡ Up → Step m s event reply after → Settled m s x event reply → Turns m s x event reply next → Keeps after next
  turn_keeps event reply still step settled turns = by_common (common_refusal m.geometry s event) refl step
    where
      by_common : (c : Option Refusal) → common_refusal m.geometry s event ≡ c → Unless c s reply after (Row m s event reply after) → Keeps after next
      by_common None none row =
          row_keeps event reply still (known m.geometry s event none) step row
          (λ answer is. settled.0 answer (ap (λ (c : Option Refusal). if is_some c then None else open_answer m s x event) none ∙ is)) turns
      by_common (Some refusal) is row =
          subst (λ (v : State). Keeps v next) (sym row.1) (refused_keeps event refusal is (subst (λ (r : Reply). Turns m s x event r next) row.0 turns))

-- each event keeps the numbers coherent
pub coherent_keeps : (m : Setting) (s : State) (x : Numbers) (event : Event) (reply : Reply) (after : State) (next : Numbers) → s.phase ≡ Up → after.phase ≡ Up → FitsDisks m s x.disks → AreCoherent m s x
    → Step m s event reply after → Settled m s x event reply → Turns m s x event reply next → AreCoherent m after next
coherent_keeps m s x event reply after next up still fits h step settled turns = (turn_keeps m s x after next up fits h event reply still step settled turns).0

-- and the disks fitting
pub disks_keep : (m : Setting) (s : State) (x : Numbers) (event : Event) (reply : Reply) (after : State) (next : Numbers) → s.phase ≡ Up → after.phase ≡ Up → FitsDisks m s x.disks → AreCoherent m s x
    → Step m s event reply after → Settled m s x event reply → Turns m s x event reply next → FitsDisks m after next.disks
disks_keep m s x event reply after next up still fits h step settled turns = (turn_keeps m s x after next up fits h event reply still step settled turns).1
