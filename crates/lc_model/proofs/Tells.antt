-- An event and its reply determine the next state, a stop aside.
use Rattle.std.proofs.Common.{◌≡◌, ◌≢◌, ◌⊎◌, ℕ, ◌+◌, ◌<◌, Bool, true, false, ◌==◌, nat_lt, List, [], ◌∷◌, Option, Some, None, All, IsTrue, refl, sym, ◌∙◌, ap, subst, inl, inr}
use Rattle.std.specs.Prelude.{MatchBool}
use Rattle.std.proofs.lemmas.List.Elements.{All-head, All-tail}
use Rattle.lc_record.specs.Transaction.{Transaction}
use Rattle.lc_record.specs.declared.geometry.Geometry.{Geometry}
use Rattle.lc_record.specs.Marks.{is_empty}
use Rattle.lc_disk.specs.declared.choice.Choice.{Choice}
use Rattle.lc_model.specs.History.{front, reserved}
use Rattle.lc_model.specs.State.{Place, At, Travelling, Phase, Up, DownAt, Setting, State, running_of}
use Rattle.lc_model.specs.Refusals.{Unless, OfRunning, common_refusal, leave_refusal}
use Rattle.lc_model.specs.Machine.{Step, Row, Run, FlushRow, Moves, ReserveRow, LeaveRow, ArriveRow, RecoverRow, StopRow, OrHalts, MayRefuse, may_refuse_reserve, may_page, may_reset, dropped, appended, flushed_to, halting, acknowledged}
use Rattle.lc_model.specs.Choices.{ExactlyOne, leaves_no_choice}
use Rattle.lc_model.specs.declared.event.Event.{Event}
use Rattle.lc_model.specs.declared.event.Event.TheVariants.{Begin, SetRange, Write, Read, Abort, Reserve, Close, FlushStep, Leave, Arrive, Deliver, Trim, PageStep, ResetStep, Stop, RecoverStep}
use Rattle.lc_model.specs.declared.reply.Reply.{Reply}
use Rattle.lc_model.specs.declared.reply.Reply.TheVariants.{Ok as Accepted, Reserved, Recovered, Ended, Stepped, Acked, Nothing, Refused}
use Rattle.lc_model.specs.declared.refusal.Refusal.{Refusal}
use Rattle.lc_model.specs.declared.refusal.Refusal.TheVariants.{Writing, Unflushed, Behind, DeviceFault}
use Rattle.lc_model.proofs.Choices.{one_answer}

abbrev Tells : (Reply → State → Type 0) → Type 0
Tells May = (reply : Reply) (a b : State) → May reply a → May reply b → a ≡ b

tells-one : (May : Reply → State → Type 0) → ExactlyOne May → Tells May
tells-one May one = λ reply a b first second. (one.1 reply reply a b first second).1

tells-unless : (refusal : Option Refusal) (old : State) (May : Reply → State → Type 0) → Tells May → Tells (λ reply new. Unless refusal old reply new (May reply new))
tells-unless None old May tells = tells
tells-unless (Some refusal) old May tells = λ reply a b first second. first.1 ∙ sym second.1

tells-running : (running : Option Transaction) (old : State) (May : Transaction → Reply → State → Type 0) → ((t : Transaction) → Tells (May t)) → Tells (λ reply new. OfRunning running old reply new (λ t. May t reply new))
tells-running None old May tells = λ reply a b first second. first.1 ∙ sym second.1
tells-running (Some t) old May tells = tells t

tells-match : (test : Bool) (May Might : Reply → State → Type 0) → Tells May → Tells Might → Tells (λ reply new. MatchBool test (May reply new) (Might reply new))
tells-match true May Might one two = one
tells-match false May Might one two = two

tells-moves : (old : State) (node steps taken : ℕ) → Tells (Moves old node steps taken)
tells-moves old node steps taken = λ reply a b first second. elim first [
  | inl x ↦ elim second [ inl y ↦ x.1 ∙ sym y.1 | inr y ↦ absurd (let e : Stepped steps ≡ Refused DeviceFault = sym x.0 ∙ y.0 in cc) ]
  | inr x ↦ elim second [ inl y ↦ absurd (let e : Stepped steps ≡ Refused DeviceFault = sym y.0 ∙ x.0 in cc) | inr y ↦ x.1 ∙ sym y.1 ]
]

tells-ends : (old : State) (node taken : ℕ) → Tells (λ reply new. ((reply ≡ Acked taken) × (new ≡ acknowledged old node taken)) ⊎ ((reply ≡ Refused DeviceFault) × (new ≡ halting (flushed_to old node 4 taken) node)))
tells-ends old node taken = λ reply a b first second. elim first [
  | inl x ↦ elim second [ inl y ↦ x.1 ∙ sym y.1 | inr y ↦ absurd (let e : Acked taken ≡ Refused DeviceFault = sym x.0 ∙ y.0 in cc) ]
  | inr x ↦ elim second [ inl y ↦ absurd (let e : Acked taken ≡ Refused DeviceFault = sym y.0 ∙ x.0 in cc) | inr y ↦ x.1 ∙ sym y.1 ]
]

tells-flush : (old : State) (node steps taken : ℕ) → Tells (FlushRow old node steps taken)
tells-flush old node steps taken =
    tells-match (steps == 0)
    (λ reply new. MatchBool (front node old.history == old.ack node) ((reply ≡ Nothing) × (new ≡ old)) (Moves old node 1 (front node old.history) reply new))
    (λ reply new. MatchBool (nat_lt steps 3) (Moves old node (steps + 1) taken reply new) (((reply ≡ Acked taken) × (new ≡ acknowledged old node taken)) ⊎ ((reply ≡ Refused DeviceFault) × (new ≡ halting (flushed_to old node 4 taken) node))))
    (tells-match (front node old.history == old.ack node) (λ reply new. (reply ≡ Nothing) × (new ≡ old)) (Moves old node 1 (front node old.history))
    (λ reply a b first second. first.1 ∙ sym second.1) (tells-moves old node 1 (front node old.history)))
    (tells-match (nat_lt steps 3) (Moves old node (steps + 1) taken) (λ reply new. ((reply ≡ Acked taken) × (new ≡ acknowledged old node taken)) ⊎ ((reply ≡ Refused DeviceFault) × (new ≡ halting (flushed_to old node 4 taken) node)))
    (tells-moves old node (steps + 1) taken) (tells-ends old node taken))

tells-reserve : (old : State) (t : Transaction) → Tells (ReserveRow old t)
tells-reserve old t =
    tells-match (is_empty t.marks) (λ reply new. (reply ≡ Ended) × (new ≡ dropped old t.node t.thread))
    (λ reply new. ((place : ℕ) × (words : ℕ) × (reply ≡ Reserved place words) × (new ≡ appended old t)) ⊎ MayRefuse may_refuse_reserve old reply new)
    (λ reply a b first second. first.1 ∙ sym second.1)
    (λ reply a b first second. elim first [
      | inl x ↦ elim second [ inl y ↦ x.3 ∙ sym y.3 | inr y ↦ absurd (let e : Reserved x.0 x.1 ≡ Refused y.0 = sym x.2 ∙ y.2 in cc) ]
      | inr x ↦ elim second [ inl y ↦ absurd (let e : Reserved y.0 y.1 ≡ Refused x.0 = sym y.2 ∙ x.2 in cc) | inr y ↦ x.3 ∙ sym y.3 ]
    ])

leave_same : (old : State) (node : ℕ) (reply : Reply) (new : State) → (((reply ≡ Refused Unflushed) × (old.ack node < reserved node old.history) × (new ≡ old)) ⊎ ((reply ≡ Refused Writing) × (new ≡ old))) → new ≡ old
leave_same old node reply new x = elim x [ inl z ↦ z.2 | inr z ↦ z.1 ]

tells-leave : (old : State) (node segment : ℕ) → Tells (LeaveRow old node segment)
tells-leave old node segment = λ reply a b first second. elim first [
  | inl x ↦ elim second [
    | inl y ↦ x.2 ∙ sym y.2
    | inr y ↦ elim y [ inl z ↦ absurd (let e : Accepted ≡ Refused Unflushed = sym x.0 ∙ z.0 in cc) | inr z ↦ absurd (let e : Accepted ≡ Refused Writing = sym x.0 ∙ z.0 in cc) ]
  ]
  | inr x ↦ elim second [
    | inl y ↦ elim x [ inl z ↦ absurd (let e : Accepted ≡ Refused Unflushed = sym y.0 ∙ z.0 in cc) | inr z ↦ absurd (let e : Accepted ≡ Refused Writing = sym y.0 ∙ z.0 in cc) ]
    | inr y ↦ leave_same old node reply a x ∙ sym (leave_same old node reply b y)
  ]
]

tells-arrive : (place : Place) (old : State) (node segment : ℕ) → Tells (ArriveRow place old node segment)
tells-arrive (At other) old node segment = λ reply a b first second. first.1 ∙ sym second.1
tells-arrive Travelling old node segment = λ reply a b first second. elim first [
  | inl x ↦ elim second [ inl y ↦ x.1 ∙ sym y.1 | inr y ↦ absurd (let e : Accepted ≡ Refused (Behind y.0 y.1) = sym x.0 ∙ y.2 in cc) ]
  | inr x ↦ elim second [ inl y ↦ absurd (let e : Accepted ≡ Refused (Behind x.0 x.1) = sym y.0 ∙ x.2 in cc) | inr y ↦ x.3 ∙ sym y.3 ]
]

-- where a fault is none of the other answers
tells-halts : (may : Reply → Bool) (old : State) (node : ℕ) → may (Refused DeviceFault) ≡ false → Tells (OrHalts may old node)
tells-halts may old node other = λ reply a b first second. elim first [
  | inl x ↦ elim second [ inl y ↦ x.1 ∙ sym y.1 | inr y ↦ absurd (let e : true ≡ false = sym x.0 ∙ ap may y.0 ∙ other in cc) ]
  | inr x ↦ elim second [ inl y ↦ absurd (let e : true ≡ false = sym y.0 ∙ ap may x.0 ∙ other in cc) | inr y ↦ x.1 ∙ sym y.1 ]
]

tells-recover : (phase : Phase) (g : Geometry) (old : State) → Tells (RecoverRow phase g old)
tells-recover Up g old = λ reply a b first second. first.1 ∙ sym second.1
tells-recover (DownAt cut) g old = λ reply a b first second. elim first [
  | inl x ↦ elim second [
    | inl y ↦ x.2 ∙ sym y.2
    | inr y ↦ elim y [ inl z ↦ absurd (let e : Stepped x.0 ≡ Refused DeviceFault = sym x.1 ∙ z.0 in cc) | inr z ↦ absurd (let e : Stepped x.0 ≡ Recovered = sym x.1 ∙ z.0 in cc) ]
  ]
  | inr x ↦ elim x [
    | inl u ↦ elim second [
      | inl y ↦ absurd (let e : Stepped y.0 ≡ Refused DeviceFault = sym y.1 ∙ u.0 in cc)
      | inr y ↦ elim y [ inl z ↦ u.1 ∙ sym z.1 | inr z ↦ absurd (let e : Refused DeviceFault ≡ Recovered = sym u.0 ∙ z.0 in cc) ]
    ]
    | inr u ↦ elim second [
      | inl y ↦ absurd (let e : Stepped y.0 ≡ Recovered = sym y.1 ∙ u.0 in cc)
      | inr y ↦ elim y [ inl z ↦ absurd (let e : Refused DeviceFault ≡ Recovered = sym z.0 ∙ u.0 in cc) | inr z ↦ u.1 ∙ sym z.1 ]
    ]
  ]
]

tells-fixed : (m : Setting) (s : State) (event : Event) → IsTrue (leaves_no_choice event) → Tells (Step m s event)
tells-fixed m s event fixed = tells-one (Step m s event) (one_answer m s event fixed)

tells-step : (m : Setting) (s : State) (event : Event) → ((choices : List (List Choice)) → event ≢ Stop choices) → Tells (Step m s event)
tells-step m s (Begin node thread segments reading) no_stop = tells-fixed m s (Begin node thread segments reading) refl
tells-step m s (SetRange node thread segment offset len) no_stop = tells-fixed m s (SetRange node thread segment offset len) refl
tells-step m s (Write node thread segment offset bytes) no_stop = tells-fixed m s (Write node thread segment offset bytes) refl
tells-step m s (Read node thread segment offset len) no_stop = tells-fixed m s (Read node thread segment offset len) refl
tells-step m s (Abort node thread) no_stop = tells-fixed m s (Abort node thread) refl
tells-step m s (Close node thread) no_stop = tells-fixed m s (Close node thread) refl
tells-step m s (Reserve node thread) no_stop =
    tells-unless (common_refusal m.geometry s (Reserve node thread)) s (Row m s (Reserve node thread)) (tells-running (running_of node thread s) s (λ t reply new. ReserveRow s t reply new) (tells-reserve s))
tells-step m s (FlushStep node) no_stop =
    tells-unless (common_refusal m.geometry s (FlushStep node)) s (Row m s (FlushStep node)) (tells-flush s node (s.flush node).steps (s.flush node).taken)
tells-step m s (Leave node segment) no_stop =
    tells-unless (common_refusal m.geometry s (Leave node segment)) s (Row m s (Leave node segment)) (tells-unless (leave_refusal s node segment) s (LeaveRow s node segment) (tells-leave s node segment))
tells-step m s (Arrive node segment) no_stop =
    tells-unless (common_refusal m.geometry s (Arrive node segment)) s (Row m s (Arrive node segment)) (tells-arrive (s.place segment) s node segment)
tells-step m s (Deliver sender number segment to) no_stop =
    tells-unless (common_refusal m.geometry s (Deliver sender number segment to)) s (Row m s (Deliver sender number segment to)) (λ reply a b first second. first.1 ∙ sym second.1)
tells-step m s (Trim node) no_stop =
    tells-unless (common_refusal m.geometry s (Trim node)) s (Row m s (Trim node)) (λ reply a b first second. first.1 ∙ sym second.1)
tells-step m s (PageStep node segment page) no_stop =
    tells-unless (common_refusal m.geometry s (PageStep node segment page)) s (Row m s (PageStep node segment page)) (tells-halts may_page s node refl)
tells-step m s (ResetStep node) no_stop =
    tells-unless (common_refusal m.geometry s (ResetStep node)) s (Row m s (ResetStep node)) (tells-halts may_reset s node refl)
tells-step m s (Stop choices) no_stop = absurd (no_stop choices refl)
tells-step m s RecoverStep no_stop =
    tells-unless (common_refusal m.geometry s RecoverStep) s (Row m s RecoverStep) (tells-recover s.phase m.geometry s)

pub step-tells : (m : Setting) (s new other : State) (event : Event) (reply : Reply) → ((choices : List (List Choice)) → event ≢ Stop choices) → Step m s event reply new → Step m s event reply other → new ≡ other
step-tells m s new other event reply no_stop first second = tells-step m s event no_stop reply new other first second

pub run-tells : (m : Setting) (s new other : State) (events : List Event) (replies : List Reply) → All (λ event. (choices : List (List Choice)) → event ≢ Stop choices) events → Run m s events replies new → Run m s events replies other → new ≡ other
run-tells m s new other [] [] no_stop first second = first ∙ sym second
run-tells m s new other [] (reply ∷ replies) no_stop first second = absurd first
run-tells m s new other (event ∷ events) [] no_stop first second = absurd first
run-tells m s new other (event ∷ events) (reply ∷ replies) no_stop first second =
    let NoStop : Event → Type 0 = λ e. (choices : List (List Choice)) → e ≢ Stop choices in
    let same : second.0 ≡ first.0 = step-tells m s second.0 first.0 event reply (All-head NoStop event events no_stop) second.1 first.1 in
    run-tells m first.0 new other events replies (All-tail NoStop event events no_stop) first.2
    (subst (λ (x : State). Run m x events replies other) same second.2)

-- A stop changes the phase alone

with_phase : (s new : State) (phase : Phase) → new ≡ record s { phase = phase } → new ≡ record s { phase = new.phase }
with_phase s new phase is = is ∙ ap (λ (p : Phase). record s { phase = p }) (sym (ap (λ (x : State). x.phase) is))

stop-phase : (phase : Phase) (g : Geometry) (s : State) (reply : Reply) (new : State) → StopRow phase g s reply new → new ≡ record s { phase = new.phase }
stop-phase Up g s reply new row = with_phase s new (DownAt row.0) row.3
stop-phase (DownAt cut) g s reply new row = with_phase s new s.phase row.1

unless-any : (P : Type 0) (refusal : Option Refusal) (s : State) (reply : Reply) (new : State) (otherwise : Type 0) → (new ≡ s → P) → (otherwise → P) → Unless refusal s reply new otherwise → P
unless-any P None s reply new otherwise same next h = next h
unless-any P (Some refusal) s reply new otherwise same next h = same h.1

pub stop-tells : (m : Setting) (s new : State) (choices : List (List Choice)) (reply : Reply) → Step m s (Stop choices) reply new → new ≡ record s { phase = new.phase }
stop-tells m s new choices reply step =
    unless-any (new ≡ record s { phase = new.phase }) (common_refusal m.geometry s (Stop choices)) s reply new (Row m s (Stop choices) reply new)
    (λ same. with_phase s new s.phase same) (stop-phase s.phase m.geometry s reply new) step
