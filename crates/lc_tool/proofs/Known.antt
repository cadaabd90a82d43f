-- What the machine answers keeps to the geometry, and so does what a command prints.
use Rattle.std.proofs.Common.{◌≡◌, ◌⊎◌, ◌∙◌, ℕ, zero, suc, ◌+◌, ◌<◌, ◌≤◌, ◌==◌, Bool, true, false, not, ◌&&◌, nat_lt, List, [], ◌∷◌, ◌++◌, Option, Some, None, refl, sym, ap, subst, arith, inl, inr, lt-ltb, true≢false}
use Rattle.std.specs.Prelude.{IsTrue, MatchBool, MatchOption, nat_le}
use Rattle.std.proofs.lemmas.Bool.{le-leb, and_parts as and-both}
use Rattle.std.proofs.lemmas.Option.{same_Some as same_some}
use Rattle.lc_record.specs.Marks.{ascending, is_empty}
use Rattle.lc_record.specs.Transaction.{Transaction}
use Rattle.lc_record.specs.declared.geometry.Geometry.{Geometry}
use Rattle.lc_model.specs.History.{front}
use Rattle.lc_model.specs.Machine.{ArriveRow, FlushRow, LeaveRow, Moves, OrHalts, Outside, RecoverRow, ReserveRow, Row, Step, StopRow, may_page, may_refuse_reserve, may_reset, may_trim}
use Rattle.lc_model.specs.Refusals.{OfRunning, Unless, begin_refusal, first_taken, is_at, is_busy, is_halted, is_known, is_node, is_page, is_segment, is_up, leave_refusal, read_refusal, refuse_if, set_range_refusal, works_down, write_refusal}
use Rattle.lc_model.specs.State.{At, DownAt, Phase, Place, Setting, State, Travelling, Up, has_unclosed, running_of}
use Rattle.lc_model.specs.declared.event.Event.{Event}
use Rattle.lc_model.specs.declared.event.Event.TheVariants.{Abort, Arrive, Begin, Close, Deliver, FlushStep, Leave, PageStep, Read, RecoverStep, Reserve, ResetStep, SetRange, Stop, Trim, Write}
use Rattle.lc_model.specs.declared.refusal.Refusal.{Refusal}
use Rattle.lc_model.specs.declared.refusal.Refusal.TheVariants.{Busy, Down as IsDown, EmptyRange, Halted, Held, NoRange, NotHere, NotLocked, OutOfSegment, OutOfTurn, ReadOnly, TooManyRanges, Uncommitted, Unknown}
use Rattle.lc_model.specs.declared.reply.Reply.{Reply}
use Rattle.lc_model.specs.declared.reply.Reply.TheVariants.{Recovered, Refused}
use Rattle.lc_events.specs.Geometries.{is_delivery}
use Rattle.lc_core.specs.Lives.{AnswersDown, AnswersOne, AnswersUp, IsBorn, Life}
use Rattle.lc_settled.specs.Numbers.{Numbers}
use Rattle.lc_core.specs.Due.{is_due_then}
use Rattle.lc_core.specs.Showing.{image_of}
use Rattle.lc_desk.specs.Showing.{page_of}
use Rattle.lc_core.specs.Truncating.{ending, stopping}
use Rattle.lc_events.specs.Truncating.{refusal_in}
use Rattle.lc_text.specs.Text.{page_text, refusal_text}
use Rattle.lc_text.specs.declared.command.Command.{Command}
use Rattle.lc_text.specs.declared.command.Command.TheVariants.{Step as Asks, End, Flush, Truncate, Recover, Log, Inspect, Show}
use Rattle.lc_tool.specs.Keeps.{IsOf, KeepsCommand, KeepsPage}
use Rattle.lc_tool.specs.Session.{Does}
use Rattle.lc_tool.specs.Shown.{ShowsPage}
use Rattle.lc_tool.specs.Tells.{KeepsTo, TellsAt, TellsCommand, TellsDown}
use Rattle.lc_tool.specs.Truncation.{AsksFirst, CallsDue, CallsIf, Cleans, EachFrom, Piece, Repeats, Round, Truncates, WritesPages, WritesSegment}
use Rattle.lc_tool.specs.declared.verdict.Verdict.{Verdict}
use Rattle.lc_tool.specs.declared.verdict.Verdict.TheVariants.{Done, Refused as IsRefused}
use Rattle.lc_tool.proofs.Emptied.{ended, goes_plain, stopped}

-- a refusal that is not that of something unknown, or none
abbrev IsOwn : Option Refusal → Type 0
IsOwn o = o ≡ Some Unknown → ⊥

abbrev IsPlain : Reply → Type 0
IsPlain reply = reply ≡ Refused Unknown → ⊥

own_if : (b : Bool) (refusal : Refusal) (o : Option Refusal) → (refusal ≡ Unknown → ⊥) → IsOwn o → IsOwn (refuse_if b refusal o)
own_if true refusal o other own = λ is. other (same_some refusal Unknown is)
own_if false refusal o other own = own

own_none : IsOwn None
own_none = λ is. absurd cc

its_refusal : (first second : Refusal) → Refused first ≡ Refused second → first ≡ second
its_refusal first second is = cc

other_reply : (reply other : Reply) → reply ≡ other → (other ≡ Refused Unknown → ⊥) → IsPlain reply
other_reply reply other is not = λ unknown. not (sym is ∙ unknown)

unless_plain : (o : Option Refusal) (s : State) (reply : Reply) (after : State) (P : Type 0) → IsOwn o → (P → IsPlain reply) → Unless o s reply after P → IsPlain reply
unless_plain None s reply after P own f h = f h
unless_plain (Some refusal) s reply after P own f h = other_reply reply (Refused refusal) h.0 (λ is. own (ap (λ (r : Refusal). Some r) (its_refusal refusal Unknown is)))

running_plain : (o : Option Transaction) (s : State) (reply : Reply) (after : State) (P : Transaction → Type 0) → ((t : Transaction) → P t → IsPlain reply) → OfRunning o s reply after P → IsPlain reply
running_plain None s reply after P f h = other_reply reply (Refused OutOfTurn) h.0 (λ is. absurd cc)
running_plain (Some t) s reply after P f h = f t h

outside_plain : (may : Reply → Bool) (s : State) (reply : Reply) (after : State) → may (Refused Unknown) ≡ false → Outside may s reply after → IsPlain reply
outside_plain may s reply after none h = λ is. true≢false (sym (subst (λ (r : Reply). IsTrue (may r)) is h.0) ∙ none)

halts_plain : (may : Reply → Bool) (s : State) (node : ℕ) (reply : Reply) (after : State) → may (Refused Unknown) ≡ false → OrHalts may s node reply after → IsPlain reply
halts_plain may s node reply after none (inl h) = outside_plain may s reply after none h
halts_plain may s node reply after none (inr h) = other_reply reply _ h.0 (λ is. absurd cc)

taken_own : (node : ℕ) (s : State) (writing segments : List ℕ) → IsOwn (first_taken node s writing segments)
taken_own node s writing [] = own_none
taken_own node s writing (segment ∷ segments) =
    own_if (not (is_at node (s.place segment))) (NotHere segment) _ (λ is. absurd cc) (own_if (is_busy writing s segment) (Busy segment) _ (λ is. absurd cc) (taken_own node s writing segments))

either : (b : Bool) (A B C : Type 0) → (A → C) → (B → C) → MatchBool b A B → C
either true A B C f g h = f h
either false A B C f g h = g h

reserve_plain : (s : State) (t : Transaction) (reply : Reply) (after : State) → ReserveRow s t reply after → IsPlain reply
reserve_plain s t reply after row =
    either (is_empty t.marks) _ _ _ (λ none. other_reply reply _ none.0 (λ is. absurd cc))
    (λ some. elim some [
      | inl made ↦ other_reply reply _ made.2 (λ is. absurd cc)
      | inr refused ↦ other_reply reply (Refused refused.0) refused.2 (λ is. refuses refused.0 refused.1 (its_refusal refused.0 Unknown is))
    ]) row
  where
    refuses : (refusal : Refusal) → IsTrue (may_refuse_reserve refusal) → refusal ≡ Unknown → ⊥
    refuses refusal may is = true≢false (sym (subst (λ (r : Refusal). IsTrue (may_refuse_reserve r)) is may) ∙ refl)

moves_plain : (s : State) (node steps taken : ℕ) (reply : Reply) (after : State) → Moves s node steps taken reply after → IsPlain reply
moves_plain s node steps taken reply after (inl h) = other_reply reply _ h.0 (λ is. absurd cc)
moves_plain s node steps taken reply after (inr h) = other_reply reply _ h.0 (λ is. absurd cc)

flush_plain : (s : State) (node steps taken : ℕ) (reply : Reply) (after : State) → FlushRow s node steps taken reply after → IsPlain reply
flush_plain s node steps taken reply after row =
    either (steps == 0) _ _ _
    (λ first. either (front node s.history == s.ack node) _ _ _ (λ nothing. other_reply reply _ nothing.0 (λ is. absurd cc)) (λ moves. moves_plain s node 1 (front node s.history) reply after moves) first)
    (λ later. either (nat_lt steps 3) _ _ _ (λ moves. moves_plain s node (steps + 1) taken reply after moves)
    (λ last. elim last [ inl h ↦ other_reply reply _ h.0 (λ is. absurd cc) | inr h ↦ other_reply reply _ h.0 (λ is. absurd cc) ]) later) row

leave_plain : (s : State) (node segment : ℕ) (reply : Reply) (after : State) → LeaveRow s node segment reply after → IsPlain reply
leave_plain s node segment reply after (inl h) = other_reply reply _ h.0 (λ is. absurd cc)
leave_plain s node segment reply after (inr (inl h)) = other_reply reply _ h.0 (λ is. absurd cc)
leave_plain s node segment reply after (inr (inr h)) = other_reply reply _ h.0 (λ is. absurd cc)

arrive_plain : (place : Place) (s : State) (node segment : ℕ) (reply : Reply) (after : State) → ArriveRow place s node segment reply after → IsPlain reply
arrive_plain (At other) s node segment reply after h = other_reply reply _ h.0 (λ is. absurd cc)
arrive_plain Travelling s node segment reply after (inl h) = other_reply reply _ h.0 (λ is. absurd cc)
arrive_plain Travelling s node segment reply after (inr h) = other_reply reply _ h.2 (λ is. absurd cc)

stop_plain : (phase : Phase) (g : Geometry) (s : State) (reply : Reply) (after : State) → StopRow phase g s reply after → IsPlain reply
stop_plain Up g s reply after h = other_reply reply _ h.2 (λ is. absurd cc)
stop_plain (DownAt cut) g s reply after h = other_reply reply _ h.0 (λ is. absurd cc)

recover_plain : (phase : Phase) (g : Geometry) (s : State) (reply : Reply) (after : State) → RecoverRow phase g s reply after → IsPlain reply
recover_plain Up g s reply after h = other_reply reply _ h.0 (λ is. absurd cc)
recover_plain (DownAt cut) g s reply after (inl h) = other_reply reply _ h.1 (λ is. absurd cc)
recover_plain (DownAt cut) g s reply after (inr (inl h)) = other_reply reply _ h.0 (λ is. absurd cc)
recover_plain (DownAt cut) g s reply after (inr (inr h)) = other_reply reply _ h.0 (λ is. absurd cc)

-- an event's own answer, but for a delivery
row_plain : (m : Setting) (s : State) (event : Event) (reply : Reply) (after : State) → is_delivery event ≡ false → Row m s event reply after → IsPlain reply
row_plain m s (Begin node thread segments reading) reply after other row =
    unless_plain (begin_refusal m.geometry s node thread segments reading) s reply after _ (own_if _ OutOfTurn _ (λ is. absurd cc) (taken_own node s segments (ascending m.geometry (segments ++ reading))))
    (λ h. other_reply reply _ h.0 (λ is. absurd cc)) row
row_plain m s (SetRange node thread segment offset len) reply after other row =
    running_plain (running_of node thread s) s reply after _
    (λ t. unless_plain (set_range_refusal m.geometry t segment offset len) s reply after _
    (own_if _ NotLocked _ (λ is. absurd cc) (own_if _ (ReadOnly segment) _ (λ is. absurd cc) (own_if _ EmptyRange _ (λ is. absurd cc) (own_if _ (OutOfSegment None) _ (λ is. absurd cc) (own_if _ TooManyRanges _ (λ is. absurd cc) own_none)))))
    (λ h. other_reply reply _ h.0 (λ is. absurd cc))) row
row_plain m s (Write node thread segment offset bytes) reply after other row =
    running_plain (running_of node thread s) s reply after _
    (λ t. unless_plain (write_refusal m.geometry t segment offset bytes) s reply after _
    (own_if _ NotLocked _ (λ is. absurd cc) (own_if _ (ReadOnly segment) _ (λ is. absurd cc) (own_if _ (OutOfSegment None) _ (λ is. absurd cc) (own_if _ NoRange _ (λ is. absurd cc) own_none))))
    (λ h. other_reply reply _ h.0 (λ is. absurd cc))) row
row_plain m s (Read node thread segment offset len) reply after other row =
    running_plain (running_of node thread s) s reply after _
    (λ t. unless_plain (read_refusal m.geometry t segment offset len) s reply after _
    (own_if _ NotLocked _ (λ is. absurd cc) (own_if _ (OutOfSegment None) _ (λ is. absurd cc) own_none))
    (λ h. other_reply reply _ h.0 (λ is. absurd cc))) row
row_plain m s (Abort node thread) reply after other row = running_plain (running_of node thread s) s reply after _ (λ t h. other_reply reply _ h.0 (λ is. absurd cc)) row
row_plain m s (Reserve node thread) reply after other row = running_plain (running_of node thread s) s reply after _ (λ t h. reserve_plain s t reply after h) row
row_plain m s (Close node thread) reply after other row =
    unless_plain (refuse_if (not (has_unclosed node thread s)) OutOfTurn None) s reply after _ (own_if _ OutOfTurn _ (λ is. absurd cc) own_none) (λ h. other_reply reply _ h.0 (λ is. absurd cc)) row
row_plain m s (FlushStep node) reply after other row = flush_plain s node (s.flush node).steps (s.flush node).taken reply after row
row_plain m s (Leave node segment) reply after other row =
    unless_plain (leave_refusal s node segment) s reply after _ (own_if _ (NotHere segment) _ (λ is. absurd cc) (own_if _ Held _ (λ is. absurd cc) own_none)) (λ h. leave_plain s node segment reply after h) row
row_plain m s (Arrive node segment) reply after other row = arrive_plain (s.place segment) s node segment reply after row
row_plain m s (Deliver sender number segment to) reply after other row = absurd (true≢false other)
row_plain m s (Trim node) reply after other row = outside_plain may_trim s reply after refl row
row_plain m s (PageStep node segment page) reply after other row = halts_plain may_page s node reply after refl row
row_plain m s (ResetStep node) reply after other row = halts_plain may_reset s node reply after refl row
row_plain m s (Stop choices) reply after other row = stop_plain s.phase m.geometry s reply after row
row_plain m s RecoverStep reply after other row = recover_plain s.phase m.geometry s reply after row

outside_of : (down known halted : Bool) (refusal : Refusal) (s : State) (reply : Reply) (after : State) (P : Type 0) → known ≡ false
    → Unless (refuse_if down IsDown (refuse_if (not known) Unknown (refuse_if halted refusal None))) s reply after P → (reply ≡ Refused Unknown) ⊎ (reply ≡ Refused IsDown)
outside_of true known halted refusal s reply after P out h = inr h.0
outside_of false false halted refusal s reply after P out h = inl h.0
outside_of false true halted refusal s reply after P out h = absurd (true≢false out)

inside_of : (down known halted : Bool) (refusal : Refusal) (s : State) (reply : Reply) (after : State) (P : Type 0) → known ≡ true → (refusal ≡ Unknown → ⊥) → (P → IsPlain reply)
    → Unless (refuse_if down IsDown (refuse_if (not known) Unknown (refuse_if halted refusal None))) s reply after P → IsPlain reply
inside_of true known halted refusal s reply after P within other f h = other_reply reply _ h.0 (λ is. absurd cc)
inside_of false false halted refusal s reply after P within other f h = absurd (true≢false (sym within))
inside_of false true true refusal s reply after P within other f h = other_reply reply (Refused refusal) h.0 (λ is. other (its_refusal refusal Unknown is))
inside_of false true false refusal s reply after P within other f h = f h

-- a step of the machine
step_keeps : (m : Setting) (s : State) (event : Event) (reply : Reply) (after : State) → Step m s event reply after → KeepsTo m.geometry event reply
step_keeps m s event reply after step = record {
  outside = λ out. outside_of (not (is_up s.phase) && not (works_down event)) (is_known m.geometry event) (is_halted s.halted event) Halted s reply after (Row m s event reply after) out step;
  inside = λ within other. inside_of (not (is_up s.phase) && not (works_down event)) (is_known m.geometry event) (is_halted s.halted event) Halted s reply after (Row m s event reply after) within (λ is. absurd cc)
      (λ row. row_plain m s event reply after other row) step;
}

down_keeps : (g : Geometry) (event : Event) → KeepsTo g event (Refused IsDown)
down_keeps g event = record { outside = λ out. inr refl; inside = λ within other is. absurd cc }

-- Truncations

refused_by : (reply : Reply) (refusal : Refusal) → refusal_in reply ≡ Some refusal → reply ≡ Refused refusal
refused_by (Refused other) refusal is = ap (λ (r : Refusal). Refused r) (same_some other refusal is)
refused_by reply refusal is = absurd cc

-- what names a page of the geometry is known
page_known : (g : Geometry) (node k page : ℕ) → is_known g (FlushStep node) ≡ true → k < g.segments → page < g.pages → is_known g (PageStep node (k + 1) page) ≡ true
page_known g node k page known inside within =
    let here : is_node g node ≡ true = (and-both _ _ (and-both _ _ (and-both _ _ (and-both _ _ known).0).0).0).0 in
    let low : nat_le 1 (k + 1) ≡ true = le-leb 1 (k + 1) (omega arith) in
    let high : nat_le (k + 1) g.segments ≡ true = le-leb (k + 1) g.segments (omega (arith, inside)) in
    let at : nat_lt page g.pages ≡ true = lt-ltb page g.pages within in
    rw (here, low, high, at) refl

module _ (m : Setting) where
  repeats_keep : (left : ℕ) (event : Event) (s : State) (x : Numbers) (reply : Reply) (after : State) (next : Numbers) → Repeats m left event s x reply after next → KeepsTo m.geometry event reply
  repeats_keep zero event s x reply after next answers = step_keeps m s event reply after answers.step
  repeats_keep (suc left) event s x reply after next to =
      elim (ending to.0) as (λ (o : Option Reply). ending to.0 ≡ o → MatchOption o (Repeats m left event to.1 to.2 reply after next) (λ last. (reply ≡ last) × (after ≡ to.1) × (next ≡ to.2)) → KeepsTo m.geometry event reply) [
        | None ↦ λ more rest. repeats_keep left event to.1 to.2 reply after next rest
        | Some last ↦ λ is ends. subst (λ (r : Reply). KeepsTo m.geometry event r) (sym (ends.0 ∙ ended to.0 last is)) (step_keeps m s event to.0 to.1 to.3.step)
      ] refl to.4

  -- a piece of work is not refused as unknown
  abbrev Keeps : Piece → Type 0
  Keeps Does = (s : State) (x : Numbers) (refused : Option Refusal) (after : State) (next : Numbers) → Does s x refused after next → IsOwn refused

  each_keeps : (Does : ℕ → Piece) (most : ℕ) → ((k : ℕ) → k < most → Keeps (Does k)) → (left k : ℕ) → k + left ≤ most → Keeps (EachFrom m left k Does)
  each_keeps Does most one zero k few s x refused after next to = λ is. let none : None ≡ Some Unknown = sym to.0 ∙ is in absurd cc
  each_keeps Does most one (suc left) k few s x refused after next to =
      elim to.0 as (λ (o : Option Refusal). IsOwn o → MatchOption o (EachFrom m left (k + 1) Does to.1 to.2 refused after next) (λ refusal. (refused ≡ Some refusal) × (after ≡ to.1) × (next ≡ to.2)) → IsOwn refused) [
        | None ↦ λ own rest. each_keeps Does most one left (k + 1) (omega (arith, few)) to.1 to.2 refused after next rest
        | Some refusal ↦ λ own ends. (λ is. own (sym ends.0 ∙ is))
      ] (one k (omega (arith, few)) s x to.0 to.1 to.2 to.3) to.4

  module _ (node : ℕ) (known : is_known m.geometry (FlushStep node) ≡ true) where
    call_keeps : (b : Bool) (k page : ℕ) → k < m.geometry.segments → page < m.geometry.pages → Keeps (CallsIf m b node (k + 1) page)
    call_keeps true k page inside within s x refused after next to =
        let keeps = step_keeps m s (PageStep node (k + 1) page) to.0 after to.1.step in
        (λ is. keeps.inside (page_known m.geometry node k page known inside within) refl (refused_by to.0 Unknown (sym to.2 ∙ is)))
    call_keeps false k page inside within s x refused after next to = λ is. let none : None ≡ Some Unknown = sym to.0 ∙ is in absurd cc

    segment_keeps : (k : ℕ) → k < m.geometry.segments → Keeps (WritesSegment m node (k + 1))
    segment_keeps k inside =
        each_keeps (λ round. Round m node (k + 1)) 13
        (λ round less. each_keeps (CallsDue m node (k + 1)) m.geometry.pages
        (λ page within s x refused after next to. call_keeps (is_due_then s x node (k + 1) page) k page inside within s x refused after next to) m.geometry.pages 0 (omega arith)) 13 0 (omega arith)

    pages_keep : Keeps (WritesPages m node)
    pages_keep = each_keeps (λ place. WritesSegment m node (place + 1)) m.geometry.segments (λ k inside. segment_keeps k inside) m.geometry.segments 0 (omega arith)

    cleans_keep : (s : State) (x : Numbers) (reply : Reply) (after : State) (next : Numbers) → Cleans m node s x reply after next → IsPlain reply
    cleans_keep s x reply after next to =
        elim to.0 as (λ (o : Option Refusal). IsOwn o → MatchOption o (Repeats m 3 (ResetStep node) to.1 to.2 reply after next) (λ refusal. (reply ≡ Refused refusal) × (after ≡ to.1) × (next ≡ to.2)) → IsPlain reply) [
          | None ↦ λ own resets. (repeats_keep 3 (ResetStep node) to.1 to.2 reply after next resets).inside known refl
          | Some refusal ↦ λ own ends. other_reply reply (Refused refusal) ends.0 (λ is. own (ap (λ (r : Refusal). Some r) (its_refusal refusal Unknown is)))
        ] (pages_keep s x to.0 to.1 to.2 to.3) to.4

    asks_keep : (s : State) (x : Numbers) (reply : Reply) (after : State) (next : Numbers) → AsksFirst m node s x reply after next → IsPlain reply
    asks_keep s x reply after next (inl refuses) = other_reply reply (Refused Uncommitted) refuses.1 (λ is. absurd cc)
    asks_keep s x reply after next (inr goes) = cleans_keep s x reply after next goes.1

  -- after a flush that leaves more to do the node is known
  flushed_known : (node : ℕ) (first : Reply) → KeepsTo m.geometry (FlushStep node) first → stopping first ≡ None → is_known m.geometry (FlushStep node) ≡ true
  flushed_known node first keeps goes = elim (is_known m.geometry (FlushStep node)) as (λ (b : Bool). is_known m.geometry (FlushStep node) ≡ b → b ≡ true) [
    | true ↦ λ is. refl
    | false ↦ λ out. elim (keeps.outside out) [ inl unknown ↦ absurd (goes_plain first goes Unknown unknown) | inr down ↦ absurd (goes_plain first goes IsDown down) ]
  ] refl

  truncation_keeps : (node : ℕ) (s : State) (x : Numbers) (reply : Reply) (after : State) (next : Numbers) → Truncates m node s x reply after next → KeepsTo m.geometry (FlushStep node) reply
  truncation_keeps node s x reply after next to =
      let first = repeats_keep 3 (FlushStep node) s x to.0 to.1 to.2 to.3 in
      elim (stopping to.0) as (λ (o : Option Reply). stopping to.0 ≡ o → MatchOption o (AsksFirst m node to.1 to.2 reply after next) (λ last. (reply ≡ last) × (after ≡ to.1) × (next ≡ to.2)) → KeepsTo m.geometry (FlushStep node) reply) [
        | None ↦ λ goes asks.
            let known = flushed_known node to.0 first goes in
            record { outside = λ out. absurd (true≢false (sym known ∙ out)); inside = λ within other. asks_keep node known to.1 to.2 reply after next asks }
        | Some last ↦ λ stops ends. subst (λ (r : Reply). KeepsTo m.geometry (FlushStep node) r) (sym (ends.0 ∙ stopped to.0 last stops)) first
      ] refl to.4

  -- Commands

  page_keeps : (up known : Bool) (node segment page : ℕ) (Shown : Type 0) (text : List ℕ) (verdict : Verdict) → (is_node m.geometry node && is_segment m.geometry segment && is_page m.geometry page) ≡ known
      → (Shown → (bytes : List ℕ) × (text ≡ page_text bytes) × (verdict ≡ Done))
      → MatchOption (refuse_if (not up) IsDown (refuse_if (not known) Unknown None)) Shown (λ refusal. (text ≡ refusal_text refusal) × (verdict ≡ IsRefused)) → KeepsPage m.geometry node segment page text verdict
  page_keeps true true node segment page Shown text verdict is shows h = inl (rw is (shows h))
  page_keeps true false node segment page Shown text verdict is shows h = inl (rw is h)
  page_keeps false known node segment page Shown text verdict is shows h = inr h

  shows_keep : (s : State) (x : Numbers) (node segment page : ℕ) (text : List ℕ) (verdict : Verdict) → ShowsPage m s x node segment page text verdict → KeepsPage m.geometry node segment page text verdict
  shows_keep s x node segment page text verdict shows =
      page_keeps (is_up s.phase) (is_node m.geometry node && is_segment m.geometry segment && is_page m.geometry page) node segment page _ text verdict refl
      (λ shown. (page_of (image_of m s x node segment) page, shown.0, shown.1)) shows

-- what a command of the machine prints keeps to the geometry
abbrev KeepsUp : Command → Type 0
KeepsUp command = (m : Setting) (s : State) (x : Numbers) (text : List ℕ) (verdict : Verdict) (after : State) (next : Numbers) → Does m s x command text verdict after next → KeepsCommand m.geometry command text verdict

-- The life

pub born_of : (g : Geometry) (life : Life) → IsBorn g life → IsOf g (Some life)
born_of g life born = ap (λ (l : Life). l.setting.geometry) born.life_is

down_of : (g : Geometry) (event : Event) (reply : Reply) (after : Option Life) → AnswersDown g event reply after → IsOf g after
down_of g RecoverStep Recovered after h = subst (IsOf g) (sym h.1) (born_of g h.0 h.2)
down_of g RecoverStep reply after h = subst (IsOf g) (sym h.1) tt
down_of g (Stop choices) reply after h = subst (IsOf g) (sym h.1) tt
down_of g event reply after h = subst (IsOf g) (sym h.1) tt

up_of : (g : Geometry) (life : Life) (event : Event) (reply : Reply) (after : Option Life) → life.setting.geometry ≡ g → AnswersUp life event reply after → IsOf g after
up_of g life (Stop choices) reply after same h = subst (IsOf g) (sym h.1) tt
up_of g life event reply after same h = subst (IsOf g) (sym h.1) (ap (λ (m : Setting). m.geometry) h.2.setting ∙ same)

one_of : (g : Geometry) (at : Option Life) (event : Event) (reply : Reply) (after : Option Life) → IsOf g at → AnswersOne g at event reply after → IsOf g after
one_of g None event reply after same h = down_of g event reply after h
one_of g (Some life) event reply after same h = up_of g life event reply after same h

-- Commands

at_keeps : (g : Geometry) (at : Option Life) (command : Command) (text : List ℕ) (verdict : Verdict) (after : Option Life) → IsOf g at → KeepsUp command
    → (TellsDown g command text verdict after → KeepsCommand g command text verdict × IsOf g after) → TellsAt g at command text verdict after → KeepsCommand g command text verdict × IsOf g after
at_keeps g None command text verdict after same up down tells = down tells
at_keeps g (Some life) command text verdict after same up down tells = (
  subst (λ (h : Geometry). KeepsCommand h command text verdict) same (up life.setting life.state life.numbers text verdict tells.0 tells.1 tells.2),
  subst (IsOf g) (sym tells.3) same,
)

pub command_keeps : (g : Geometry) (at after : Option Life) (command : Command) (text : List ℕ) (verdict : Verdict) → IsOf g at → TellsCommand g at command text verdict after → KeepsCommand g command text verdict × IsOf g after
command_keeps g at after (Asks event) text verdict same tells = ((tells.0, tells.1.keeps, tells.2), one_of g at event tells.0 after same tells.1.lives)
command_keeps g at after (Log node) text verdict same tells = (tells.0, subst (IsOf g) (sym tells.1) same)
command_keeps g at after (Inspect node) text verdict same tells = (tells.0, subst (IsOf g) (sym tells.1) same)
command_keeps g at after (End node thread) text verdict same tells =
    at_keeps g at (End node thread) text verdict after same
    (λ m s x text verdict later next does. (does.0, step_keeps m s (Reserve node thread) does.0 does.1 does.3.step, does.5, does.6))
    (λ down. ((Refused IsDown, down_keeps g (Reserve node thread), down.0.0, down.0.1), subst (IsOf g) (sym down.1) tt)) tells
command_keeps g at after (Flush node) text verdict same tells =
    at_keeps g at (Flush node) text verdict after same
    (λ m s x text verdict later next does. (does.0, step_keeps m does.1.mid (FlushStep node) does.0 later does.1.last.step, does.2))
    (λ down. ((Refused IsDown, down_keeps g (FlushStep node), down.0), subst (IsOf g) (sym down.1) tt)) tells
command_keeps g at after (Truncate node) text verdict same tells =
    at_keeps g at (Truncate node) text verdict after same
    (λ m s x text verdict later next does. (does.0, next.round node, truncation_keeps m node s x does.0 later next does.1, does.2, does.3))
    (λ down. ((Refused IsDown, 0, down_keeps g (FlushStep node), down.0.0, down.0.1), subst (IsOf g) (sym down.1) tt)) tells
command_keeps g at after Recover text verdict same tells =
    at_keeps g at Recover text verdict after same
    (λ m s x text verdict later next does. (does.0, step_keeps m does.1.mid RecoverStep does.0 later does.1.last.step, does.2))
    (λ down. ((down.0, down.2.keeps, down.3), down_of g RecoverStep down.0 after down.2.lives)) tells
command_keeps g at after (Show node segment page) text verdict same tells =
    at_keeps g at (Show node segment page) text verdict after same
    (λ m s x text verdict later next does. shows_keep m s x node segment page text verdict does.0)
    (λ down. (inr down.0, subst (IsOf g) (sym down.1) tt)) tells
