-- Each step of the machine that is up keeps the disks fitting it, as they are.
use Rattle.std.proofs.Common.{◌≡◌, ℕ, zero, suc, ◌+◌, ◌≤◌, Bool, true, false, not, ◌==◌, nat_lt, Option, Some, None, refl, sym, ◌∙◌, ap, subst, arith, inl, inr, true≢false}
use Rattle.std.specs.Prelude.{MatchBool}
use Rattle.lc_record.specs.Transaction.{Transaction}
use Rattle.lc_record.specs.Marks.{is_empty, marked, written}
use Rattle.lc_model.specs.History.{front}
use Rattle.lc_model.specs.State.{Place, At, Travelling, Phase, Up, DownAt, State, Setting, running_of, has_unclosed, is_by}
use Rattle.lc_model.specs.Refusals.{refuse_if, Unless, OfRunning, common_refusal, begin_refusal, set_range_refusal, write_refusal, read_refusal, leave_refusal}
use Rattle.lc_model.specs.Machine.{OrHalts, StopRow, may_page, may_reset, Step, Row, FlushRow, Moves, ReserveRow, LeaveRow, ArriveRow, RecoverRow, begun, changed, dropped, appended, closed_by, flushed_to, halting, acknowledged, placed}
use Rattle.lc_model.specs.Sound.{Sound}
use Rattle.lc_model.specs.declared.event.Event.{Event}
use Rattle.lc_model.specs.declared.event.Event.TheVariants.{Begin, SetRange, Write, Read, Abort, Reserve, Close, FlushStep, Leave, Arrive, Deliver, Trim, PageStep, ResetStep, Stop, RecoverStep}
use Rattle.lc_model.specs.declared.reply.Reply.{Reply}
use Rattle.lc_model.specs.declared.reply.Reply.TheVariants.{Reserved}
use Rattle.lc_model.specs.declared.refusal.Refusal.{Refusal}
use Rattle.lc_model.specs.declared.refusal.Refusal.TheVariants.{OutOfTurn}
use Rattle.lc_model.proofs.Fronts.{transactions-closed}
use Rattle.lc_model.proofs.Holders.{is_by-both}
use Rattle.lc_model.proofs.Lists.{found-passes}
use Rattle.lc_model.proofs.Keeps.{sound-step}
use Rattle.lc_model.specs.Stored.{Disks, Fits}
use Rattle.lc_model.proofs.Moves.{keeps-aside, keeps-marks, keeps-appended, keeps-acknowledged}

-- a sound state that the disks fit
abbrev Next : Setting → Disks → State → Type 0
Next m d new = Sound m.geometry new → Fits m new d

same : (m : Setting) (d : Disks) (s new : State) → Next m d s → new ≡ s → Next m d new
same m d s new next is = subst (λ (x : State). Next m d x) (sym is) next

unless : (P : State → Type 0) (refusal : Option Refusal) (s : State) (reply : Reply) (new : State) (otherwise : Type 0) → P s → (refusal ≡ None → otherwise → P new) → Unless refusal s reply new otherwise → P new
unless P None s reply new otherwise stays next h = next refl h
unless P (Some refusal) s reply new otherwise stays next h = subst (λ (x : State). P x) (sym h.1) stays

running : (P : State → Type 0) (found : Option Transaction) (s : State) (reply : Reply) (new : State) (next : Transaction → Type 0) → P s → ((t : Transaction) → found ≡ Some t → next t → P new) → OfRunning found s reply new next → P new
running P None s reply new next stays go h = subst (λ (x : State). P x) (sym h.1) stays
running P (Some t) s reply new next stays go h = go t refl h

match-case : (P : Type 0) (b : Bool) (A B : Type 0) → (b ≡ true → A → P) → (b ≡ false → B → P) → MatchBool b A B → P
match-case P true A B first second h = first refl h
match-case P false A B first second h = second refl h

some_steps : (n : ℕ) → (n == 0) ≡ false → 1 ≤ n
some_steps zero h = absurd (true≢false h)
some_steps (suc n) h = omega arith

-- no row makes a reservation at a node whose log is being reset
abbrev pub IsOpen : Disks → Event → Reply → Type 0
IsOpen d event reply = (node thread place words : ℕ) → event ≡ Reserve node thread → reply ≡ Reserved place words → d.resetting node ≡ false

reserve-row : (m : Setting) (s : State) (d : Disks) (node thread : ℕ) (t : Transaction) (reply : Reply) (new : State) → Fits m s d → IsOpen d (Reserve node thread) reply → running_of node thread s ≡ Some t → ReserveRow s t reply new → Next m d new
reserve-row m s d node thread t reply new fits unsealed found row =
    let by : (t.node ≡ node) × (t.thread ≡ thread) = is_by-both node thread t (found-passes (is_by node thread) s.running t found) in
    match-case (Next m d new) (is_empty t.marks) _ _
    (λ nothing h. same m d (dropped s t.node t.thread) new (λ sound. keeps-aside m s d (dropped s t.node t.thread).running s.place s.halted s.flush s.phase fits sound) h.1)
    (λ some h. elim h [
      | inl now ↦
          let here : d.resetting t.node ≡ false = ap d.resetting by.0 ∙ unsealed node thread now.0 now.1 refl now.2 in
          same m d (appended s t) new (λ sound. keeps-appended m s d t fits sound here) now.3
      | inr refused ↦ same m d s new (λ sound. fits) refused.3
    ])
    row

moves-row : (m : Setting) (s : State) (d : Disks) (node steps count : ℕ) (reply : Reply) (new : State) → Fits m s d → Moves s node steps count reply new → Next m d new
moves-row m s d node steps count reply new fits row =
    elim row [
      | inl stepped ↦ same m d (flushed_to s node steps count) new (λ sound. keeps-aside m s d s.running s.place s.halted (flushed_to s node steps count).flush s.phase fits sound) stepped.1
      | inr fault ↦ same m d (halting (flushed_to s node steps count) node) new
          (λ sound. keeps-aside m s d s.running s.place (halting s node).halted (flushed_to s node steps count).flush s.phase fits sound) fault.1
    ]

flush-row : (m : Setting) (s : State) (d : Disks) (node : ℕ) (reply : Reply) (new : State) → Fits m s d → FlushRow s node (s.flush node).steps (s.flush node).taken reply new → Next m d new
flush-row m s d node reply new fits row =
    match-case (Next m d new) ((s.flush node).steps == 0) _ _
    (λ none h. match-case (Next m d new) (front node s.history == s.ack node) _ _
    (λ is nothing. same m d s new (λ sound. fits) nothing.1)
    (λ more moves. moves-row m s d node 1 (front node s.history) reply new fits moves)
    h)
    (λ under_way h.
    let above : s.ack node ≤ (s.flush node).taken = fits.sound.taken node (some_steps (s.flush node).steps under_way) in
    match-case (Next m d new) (nat_lt (s.flush node).steps 3) _ _
    (λ less moves. moves-row m s d node ((s.flush node).steps + 1) (s.flush node).taken reply new fits moves)
    (λ last ends. elim ends [
      | inl acked ↦ same m d (acknowledged s node (s.flush node).taken) new (λ sound. keeps-acknowledged m s d node (s.flush node).taken fits sound above) acked.1
      | inr fault ↦ same m d (halting (flushed_to s node 4 (s.flush node).taken) node) new
          (λ sound. keeps-aside m s d s.running s.place (halting s node).halted (flushed_to s node 4 (s.flush node).taken).flush s.phase fits sound) fault.1
    ])
    h)
    row

placed-fits : (m : Setting) (s : State) (d : Disks) (segment : ℕ) (place : Place) → Fits m s d → Next m d (placed s segment place)
placed-fits m s d segment place fits = λ sound. keeps-aside m s d s.running (placed s segment place).place s.halted s.flush s.phase fits sound

leave-row : (m : Setting) (s : State) (d : Disks) (node segment : ℕ) (reply : Reply) (new : State) → Fits m s d → LeaveRow s node segment reply new → Next m d new
leave-row m s d node segment reply new fits row =
    elim row [
      | inl leaves ↦ same m d (placed s segment Travelling) new (placed-fits m s d segment Travelling fits) leaves.2
      | inr stays ↦ elim stays [ inl unflushed ↦ same m d s new (λ sound. fits) unflushed.2 | inr writing ↦ same m d s new (λ sound. fits) writing.1 ]
    ]

arrive-row : (m : Setting) (s : State) (d : Disks) (place : Place) (node segment : ℕ) (reply : Reply) (new : State) → Fits m s d → ArriveRow place s node segment reply new → Next m d new
arrive-row m s d (At other) node segment reply new fits row = same m d s new (λ sound. fits) row.1
arrive-row m s d Travelling node segment reply new fits row =
    elim row [
      | inl arrives ↦ same m d (placed s segment (At node)) new (placed-fits m s d segment (At node) fits) arrives.1
      | inr behind ↦ same m d s new (λ sound. fits) behind.3
    ]

recover-row : (m : Setting) (s : State) (d : Disks) (phase : Phase) (reply : Reply) (new : State) → Fits m s d → phase ≡ Up → RecoverRow phase m.geometry s reply new → Next m d new
recover-row m s d phase reply new fits up row =
    same m d s new (λ sound. fits) (let here : RecoverRow Up m.geometry s reply new = subst (λ (p : Phase). RecoverRow p m.geometry s reply new) up row in here.1)

halts-row : (may : Reply → Bool) (m : Setting) (s : State) (d : Disks) (node : ℕ) (reply : Reply) (new : State) → Fits m s d → OrHalts may s node reply new → Next m d new
halts-row may m s d node reply new fits row =
    elim row [
      | inl stays ↦ same m d s new (λ sound. fits) stays.1
      | inr fault ↦ same m d (halting s node) new (λ sound. keeps-aside m s d s.running s.place (halting s node).halted s.flush s.phase fits sound) fault.1
    ]

stop-row : (m : Setting) (s : State) (d : Disks) (phase : Phase) (reply : Reply) (new : State) → Fits m s d → StopRow phase m.geometry s reply new → Next m d new
stop-row m s d Up reply new fits row =
    same m d (record s { phase = DownAt row.0 }) new (λ sound. keeps-aside m s d s.running s.place s.halted s.flush (DownAt row.0) fits sound) row.3
stop-row m s d (DownAt cut) reply new fits row = same m d s new (λ sound. fits) row.1

row-keeps : (m : Setting) (s : State) (d : Disks) (event : Event) (reply : Reply) (new : State) → Fits m s d → s.phase ≡ Up → IsOpen d event reply → Row m s event reply new → Next m d new
row-keeps m s d (Begin node thread segments reading) reply new fits up unsealed row =
    unless (Next m d) (begin_refusal m.geometry s node thread segments reading) s reply new _ (λ sound. fits)
    (λ none h. same m d (begun m.geometry s node thread segments reading) new (λ sound. keeps-aside m s d (begun m.geometry s node thread segments reading).running s.place s.halted s.flush s.phase fits sound) h.1) row
row-keeps m s d (SetRange node thread segment offset len) reply new fits up unsealed row =
    running (Next m d) (running_of node thread s) s reply new _ (λ sound. fits)
    (λ t found. unless (Next m d) (set_range_refusal m.geometry t segment offset len) s reply new _ (λ sound. fits)
    (λ none h. same m d (changed s (marked t segment offset len)) new (λ sound. keeps-aside m s d (changed s (marked t segment offset len)).running s.place s.halted s.flush s.phase fits sound) h.1)) row
row-keeps m s d (Write node thread segment offset bytes) reply new fits up unsealed row =
    running (Next m d) (running_of node thread s) s reply new _ (λ sound. fits)
    (λ t found. unless (Next m d) (write_refusal m.geometry t segment offset bytes) s reply new _ (λ sound. fits)
    (λ none h. same m d (changed s (written t segment offset bytes)) new (λ sound. keeps-aside m s d (changed s (written t segment offset bytes)).running s.place s.halted s.flush s.phase fits sound) h.1)) row
row-keeps m s d (Read node thread segment offset len) reply new fits up unsealed row =
    running (Next m d) (running_of node thread s) s reply new _ (λ sound. fits)
    (λ t found. unless (Next m d) (read_refusal m.geometry t segment offset len) s reply new _ (λ sound. fits)
    (λ none h. same m d s new (λ sound. fits) h.1)) row
row-keeps m s d (Abort node thread) reply new fits up unsealed row =
    running (Next m d) (running_of node thread s) s reply new _ (λ sound. fits)
    (λ t found h. same m d (dropped s node thread) new (λ sound. keeps-aside m s d (dropped s node thread).running s.place s.halted s.flush s.phase fits sound) h.1) row
row-keeps m s d (Reserve node thread) reply new fits up unsealed row =
    running (Next m d) (running_of node thread s) s reply new _ (λ sound. fits)
    (λ t found h. reserve-row m s d node thread t reply new fits unsealed found h) row
row-keeps m s d (Close node thread) reply new fits up unsealed row =
    unless (Next m d) (refuse_if (not (has_unclosed node thread s)) OutOfTurn None) s reply new _ (λ sound. fits)
    (λ none h. same m d (record s { history = closed_by node thread s.history }) new (λ sound. keeps-marks m s d (closed_by node thread s.history) fits sound (transactions-closed node thread s.history)) h.1) row
row-keeps m s d (FlushStep node) reply new fits up unsealed row = flush-row m s d node reply new fits row
row-keeps m s d (Leave node segment) reply new fits up unsealed row =
    unless (Next m d) (leave_refusal s node segment) s reply new _ (λ sound. fits)
    (λ free h. leave-row m s d node segment reply new fits h) row
row-keeps m s d (Arrive node segment) reply new fits up unsealed row = arrive-row m s d (s.place segment) node segment reply new fits row
row-keeps m s d (Deliver sender number segment to) reply new fits up unsealed row = same m d s new (λ sound. fits) row.1
row-keeps m s d (Trim node) reply new fits up unsealed row = same m d s new (λ sound. fits) row.1
row-keeps m s d (PageStep node segment page) reply new fits up unsealed row = halts-row may_page m s d node reply new fits row
row-keeps m s d (ResetStep node) reply new fits up unsealed row = halts-row may_reset m s d node reply new fits row
row-keeps m s d (Stop choices) reply new fits up unsealed row = stop-row m s d s.phase reply new fits row
row-keeps m s d RecoverStep reply new fits up unsealed row = recover-row m s d s.phase reply new fits up row

pub step-keeps : (m : Setting) (s : State) (d : Disks) (event : Event) (reply : Reply) (new : State) → Fits m s d → s.phase ≡ Up → IsOpen d event reply → Step m s event reply new → Fits m new d
step-keeps m s d event reply new fits up unsealed step =
    unless (Next m d) (common_refusal m.geometry s event) s reply new (Row m s event reply new) (λ sound. fits)
    (λ none row. row-keeps m s d event reply new fits up unsealed row) step (sound-step m s event reply new fits.sound step)
