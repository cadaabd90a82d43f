-- States that differ in the writes of their history alone answer alike.
use Rattle.std.proofs.Common.{◌≡◌, ◌⊎◌, ℕ, ◌+◌, ◌<◌, Bool, true, false, not, ◌&&◌, ◌||◌, ◌==◌, nat_lt, suc, List, [], ◌∷◌, ◌++◌, map, Option, Some, None, is_some, refl, sym, ◌∙◌, ap, subst, inl, inr}
use Rattle.std.specs.Prelude.{MatchBool, if◌then◌else◌}
use Rattle.std.specs.List.{list_any}
use Rattle.lc_record.specs.Content.{Content}
use Rattle.lc_record.specs.Transaction.{ByteWrite, Transaction, effect, effects, is_member, locks, holds}
use Rattle.lc_record.specs.Marks.{ascending}
use Rattle.lc_model.specs.History.{Entry, History, transactions, entries_of, is_of, reserved, leading, front, value}
use Rattle.lc_model.specs.Machine.{Step, Row, FlushRow, Moves, LeaveRow, ArriveRow, OrHalts, may_page, may_reset, begun, closed_by, flushed_to, halting, acknowledged, placed}
use Rattle.lc_model.specs.Refusals.{Unless, refuse_if, common_refusal, is_at, is_busy, first_taken, begin_refusal, leave_refusal}
use Rattle.lc_model.specs.State.{Up, Place, At, Travelling, State, Setting, running_of, is_unclosed, has_unclosed, is_held, is_locked}
use Rattle.lc_model.specs.declared.event.Event.{Event}
use Rattle.lc_model.specs.declared.event.Event.TheVariants.{Begin, SetRange, Write, Read, Abort, Reserve, Close, FlushStep, Leave, Arrive, Deliver, Trim, PageStep, ResetStep, Stop, RecoverStep}
use Rattle.lc_model.specs.declared.refusal.Refusal.{Refusal}
use Rattle.lc_model.specs.declared.refusal.Refusal.TheVariants.{Busy, NotHere, Held, OutOfTurn, DeviceFault}
use Rattle.lc_model.specs.declared.reply.Reply.{Reply}
use Rattle.lc_model.specs.declared.reply.Reply.TheVariants.{Ok as Accepted, Refused, Nothing, Acked}
use Rattle.lc_model.proofs.Fronts.{entry}
use Rattle.lc_model.proofs.Law.{effects-append}
use Rattle.lc_changes.specs.Calls.{DiffersInWrites, DifferInWrites, IsLike, IsStep}

-- Histories

pub like-push : (content : Content) (es fs : History) (e f : Entry) → DifferInWrites content es fs → DiffersInWrites (effects (transactions es) content) e f → DifferInWrites content (es ++ e ∷ []) (fs ++ f ∷ [])
like-push content [] [] e f like last = (last, tt)
like-push content [] (g ∷ fs) e f like last = absurd like
like-push content (d ∷ es) [] e f like last = absurd like
like-push content (d ∷ es) (g ∷ fs) e f like last = (like.0, like-push (effect d.transaction content) es fs e f like.1 last)

like-effects : (content : Content) (es fs : History) → DifferInWrites content es fs → effects (transactions fs) content ≡ effects (transactions es) content
like-effects content [] [] like = refl
like-effects content [] (f ∷ fs) like = absurd like
like-effects content (e ∷ es) [] like = absurd like
like-effects content (e ∷ es) (f ∷ fs) like = ap (effects (transactions fs)) like.0.effect_is ∙ like-effects (effect e.transaction content) es fs like.1

-- the value of the one history is that of the other
pub like-value : (m : Setting) (s other : State) → IsLike m s other → value m.start other.earlier other.history ≡ value m.start s.earlier s.history
like-value m s other like =
    effects-append other.earlier (transactions other.history) m.start
    ∙ ap (effects (transactions other.history)) like.earlier
    ∙ like-effects (effects s.earlier m.start) s.history other.history like.history
    ∙ sym (effects-append s.earlier (transactions s.history) m.start)

-- what looks at no writes of an entry finds the same
same-entry : (p : Entry → Bool) (content : Content) (e f : Entry) → ((t : Transaction) (ws : List ByteWrite) (closed : Bool) → p (entry (record t { writes = ws }) closed) ≡ p (entry t closed)) → DiffersInWrites content e f → p f ≡ p e
same-entry p content e f blind like =
    ap (λ (t : Transaction). p (entry t f.closed)) like.transaction
    ∙ ap (λ (b : Bool). p (entry (record e.transaction { writes = f.transaction.writes }) b)) like.closed
    ∙ blind e.transaction f.transaction.writes e.closed

any-like : (p : Entry → Bool) (content : Content) (es fs : History) → ((t : Transaction) (ws : List ByteWrite) (closed : Bool) → p (entry (record t { writes = ws }) closed) ≡ p (entry t closed)) → DifferInWrites content es fs → list_any p fs ≡ list_any p es
any-like p content [] [] blind like = refl
any-like p content [] (f ∷ fs) blind like = absurd like
any-like p content (e ∷ es) [] blind like = absurd like
any-like p content (e ∷ es) (f ∷ fs) blind like =
    ap (λ b. b || list_any p fs) (same-entry p content e f blind like.0) ∙ ap (λ b. p e || b) (any-like p (effect e.transaction content) es fs blind like.1)

abbrev marks_of : ℕ → History → List Bool
marks_of node history = map (λ (e : Entry). e.closed) (entries_of node history)

marks-like : (node : ℕ) (content : Content) (es fs : History) → DifferInWrites content es fs → marks_of node fs ≡ marks_of node es
marks-like node content [] [] like = refl
marks-like node content [] (f ∷ fs) like = absurd like
marks-like node content (e ∷ es) [] like = absurd like
marks-like node content (e ∷ es) (f ∷ fs) like =
    let same : is_of node f.transaction ≡ is_of node e.transaction = same-entry (λ d. is_of node d.transaction) content e f (λ t ws closed. refl) like.0 in
    let next : marks_of node fs ≡ marks_of node es = marks-like node (effect e.transaction content) es fs like.1 in
    elim (is_of node e.transaction) as (λ b. is_of node e.transaction ≡ b → marks_of node (f ∷ fs) ≡ marks_of node (e ∷ es)) [
      | true ↦ λ h. rw (same ∙ h, h) (ap (λ b. b ∷ marks_of node fs) like.0.closed ∙ ap (λ bs. e.closed ∷ bs) next)
      | false ↦ λ h. rw (same ∙ h, h) next
    ] refl

count-like : (node : ℕ) (content : Content) (es fs : History) → DifferInWrites content es fs → reserved node fs ≡ reserved node es
count-like node content [] [] like = refl
count-like node content [] (f ∷ fs) like = absurd like
count-like node content (e ∷ es) [] like = absurd like
count-like node content (e ∷ es) (f ∷ fs) like =
    let same : is_of node f.transaction ≡ is_of node e.transaction = same-entry (λ d. is_of node d.transaction) content e f (λ t ws closed. refl) like.0 in
    let next : reserved node fs ≡ reserved node es = count-like node (effect e.transaction content) es fs like.1 in
    elim (is_of node e.transaction) as (λ b. is_of node e.transaction ≡ b → reserved node (f ∷ fs) ≡ reserved node (e ∷ es)) [
      | true ↦ λ h. rw (same ∙ h, h) (ap suc next)
      | false ↦ λ h. rw (same ∙ h, h) next
    ] refl

closed-head : (b : Bool) (content : Content) (e f : Entry) (es fs : History) → DiffersInWrites content e f → DifferInWrites (effect e.transaction content) es fs
    → DifferInWrites content ((if b then record e { closed = true } else e) ∷ es) ((if b then record f { closed = true } else f) ∷ fs)
closed-head true content e f es fs like others = (record { closed = refl; transaction = like.transaction; effect_is = like.effect_is }, others)
closed-head false content e f es fs like others = (like, others)

closed-like : (node thread : ℕ) (content : Content) (es fs : History) → DifferInWrites content es fs → DifferInWrites content (closed_by node thread es) (closed_by node thread fs)
closed-like node thread content [] [] like = tt
closed-like node thread content [] (f ∷ fs) like = absurd like
closed-like node thread content (e ∷ es) [] like = absurd like
closed-like node thread content (e ∷ es) (f ∷ fs) like =
    let same : is_unclosed node thread f ≡ is_unclosed node thread e = same-entry (is_unclosed node thread) content e f (λ t ws closed. refl) like.0 in
    let b : Bool = is_unclosed node thread e in
    subst (λ (c : Bool). DifferInWrites content ((if is_unclosed node thread e then record e { closed = true } else e) ∷ closed_by node thread es) ((if c then record f { closed = true } else f) ∷ closed_by node thread fs)) (sym same)
    (closed-head (is_unclosed node thread e) content e f (closed_by node thread es) (closed_by node thread fs) like.0
    (closed-like node thread (effect e.transaction content) es fs like.1))

-- Rows, where the past is another

-- the state with another past
abbrev pub with_past : State → List Transaction → History → State
with_past s earlier history = record s { earlier = earlier; history = history }

-- the state has an answer too, and what it leaves is like it
abbrev Follows : Setting → State → (State → Type 0) → Type 0
Follows m new May = (other : State) × May other × IsLike m new other

unless-same : (m : Setting) (i new s : State) (o : Option Refusal) (reply : Reply) (A : Type 0) (B : State → Type 0) → IsLike m s i → (o ≡ None → A → Follows m new B) → Unless o s reply new A → Follows m new (λ other. Unless o i reply other (B other))
unless-same m i new s None reply A B like next h = next refl h
unless-same m i new s (Some refusal) reply A B like next h = (i, (h.0, refl), subst (λ (x : State). IsLike m x i) (sym h.1) like)

unless-like : (m : Setting) (i new s : State) (o p : Option Refusal) (reply : Reply) (A : Type 0) (B : State → Type 0) → p ≡ o → IsLike m s i → (o ≡ None → A → Follows m new B) → Unless o s reply new A → Follows m new (λ other. Unless p i reply other (B other))
unless-like m i new s o p reply A B same like next h =
    subst (λ (q : Option Refusal). Follows m new (λ other. Unless q i reply other (B other))) (sym same) (unless-same m i new s o reply A B like next h)

match-like : (m : Setting) (new : State) (b : Bool) (A B : Type 0) (C D : State → Type 0) → (A → Follows m new C) → (B → Follows m new D) → MatchBool b A B → Follows m new (λ other. MatchBool b (C other) (D other))
match-like m new true A B C D one two h = one h
match-like m new false A B C D one two h = two h

module _ (m : Setting) (s : State) (E : List Transaction) (H : History) (same : effects E m.start ≡ effects s.earlier m.start) (like : DifferInWrites (effects s.earlier m.start) s.history H) where
  itself : IsLike m s (with_past s E H)
  itself = record { beside = refl; earlier = same; history = like }

  -- this is made of both
  to : (new x y : State) → new ≡ x → IsLike m x y → IsLike m new y
  to new x y is one = subst (λ (z : State). IsLike m z y) (sym is) one

  unclosed-same : (node thread : ℕ) → has_unclosed node thread (with_past s E H) ≡ has_unclosed node thread s
  unclosed-same node thread = any-like (is_unclosed node thread) (effects s.earlier m.start) s.history H (λ t ws closed. refl) like

  held-same : (segment : ℕ) → is_held segment (with_past s E H) ≡ is_held segment s
  held-same segment =
      ap (λ b. list_any (λ t. holds t segment) s.running || b)
      (any-like (λ (e : Entry). not e.closed && holds e.transaction segment) (effects s.earlier m.start) s.history H (λ t ws closed. refl) like)

  locked-same : (segment : ℕ) → is_locked segment (with_past s E H) ≡ is_locked segment s
  locked-same segment =
      ap (λ b. list_any (λ t. locks t segment) s.running || b)
      (any-like (λ (e : Entry). not e.closed && locks e.transaction segment) (effects s.earlier m.start) s.history H (λ t ws closed. refl) like)

  busy-same : (writing : List ℕ) (segment : ℕ) → is_busy writing (with_past s E H) segment ≡ is_busy writing s segment
  busy-same writing segment =
      ap (λ b. if is_member segment writing then b else is_locked segment (with_past s E H)) (held-same segment)
      ∙ ap (λ b. if is_member segment writing then is_held segment s else b) (locked-same segment)

  taken-same : (node : ℕ) (writing segments : List ℕ) → first_taken node (with_past s E H) writing segments ≡ first_taken node s writing segments
  taken-same node writing [] = refl
  taken-same node writing (segment ∷ segments) =
      ap (λ b. refuse_if (not (is_at node (s.place segment))) (NotHere segment) (refuse_if b (Busy segment) (first_taken node (with_past s E H) writing segments))) (busy-same writing segment)
      ∙ ap (λ o. refuse_if (not (is_at node (s.place segment))) (NotHere segment) (refuse_if (is_busy writing s segment) (Busy segment) o)) (taken-same node writing segments)

  begin-same : (node thread : ℕ) (segments reading : List ℕ) → begin_refusal m.geometry (with_past s E H) node thread segments reading ≡ begin_refusal m.geometry s node thread segments reading
  begin-same node thread segments reading =
      ap (λ b. refuse_if (is_some (running_of node thread s) || b) OutOfTurn (first_taken node (with_past s E H) segments (ascending m.geometry (segments ++ reading)))) (unclosed-same node thread)
      ∙ ap (λ o. refuse_if (is_some (running_of node thread s) || has_unclosed node thread s) OutOfTurn o) (taken-same node segments (ascending m.geometry (segments ++ reading)))

  leave-same : (node segment : ℕ) → leave_refusal (with_past s E H) node segment ≡ leave_refusal s node segment
  leave-same node segment =
      ap (λ b. refuse_if (not (is_at node (s.place segment))) (NotHere segment) (refuse_if b Held None)) (held-same segment)

  stays-like : (May : State → Type 0) (new : State) → May (with_past s E H) → new ≡ s → Follows m new May
  stays-like May new holds is = (with_past s E H, holds, to new s (with_past s E H) is itself)

  moves-like : (node steps taken : ℕ) (reply : Reply) (new : State) → Moves s node steps taken reply new → Follows m new (Moves (with_past s E H) node steps taken reply)
  moves-like node steps taken reply new row = elim row [
    | inl x ↦ (flushed_to (with_past s E H) node steps taken, inl (x.0, refl), to new (flushed_to s node steps taken) (flushed_to (with_past s E H) node steps taken) x.1 (record { beside = refl; earlier = same; history = like }))
    | inr x ↦ (halting (flushed_to (with_past s E H) node steps taken) node, inr (x.0, refl), to new (halting (flushed_to s node steps taken) node) (halting (flushed_to (with_past s E H) node steps taken) node) x.1 (record { beside = refl; earlier = same; history = like }))
  ]

  ends-like : (node taken : ℕ) (reply : Reply) (new : State) → ((reply ≡ Acked taken) × (new ≡ acknowledged s node taken)) ⊎ ((reply ≡ Refused DeviceFault) × (new ≡ halting (flushed_to s node 4 taken) node))
      → Follows m new (λ other. ((reply ≡ Acked taken) × (other ≡ acknowledged (with_past s E H) node taken)) ⊎ ((reply ≡ Refused DeviceFault) × (other ≡ halting (flushed_to (with_past s E H) node 4 taken) node)))
  ends-like node taken reply new row = elim row [
    | inl x ↦ (acknowledged (with_past s E H) node taken, inl (x.0, refl), to new (acknowledged s node taken) (acknowledged (with_past s E H) node taken) x.1 (record { beside = refl; earlier = same; history = like }))
    | inr x ↦ (halting (flushed_to (with_past s E H) node 4 taken) node, inr (x.0, refl), to new (halting (flushed_to s node 4 taken) node) (halting (flushed_to (with_past s E H) node 4 taken) node) x.1 (record { beside = refl; earlier = same; history = like }))
  ]

  front-same : (node : ℕ) → front node H ≡ front node s.history
  front-same node = ap leading (marks-like node (effects s.earlier m.start) s.history H like)

  flush-like : (node steps taken : ℕ) (reply : Reply) (new : State) → FlushRow s node steps taken reply new → Follows m new (FlushRow (with_past s E H) node steps taken reply)
  flush-like node steps taken reply new row =
      subst (λ (n : ℕ). Follows m new (λ other.
      MatchBool (steps == 0)
      (MatchBool (n == s.ack node) ((reply ≡ Nothing) × (other ≡ with_past s E H)) (Moves (with_past s E H) node 1 n reply other))
      (MatchBool (nat_lt steps 3) (Moves (with_past s E H) node (steps + 1) taken reply other)
      (((reply ≡ Acked taken) × (other ≡ acknowledged (with_past s E H) node taken)) ⊎ ((reply ≡ Refused DeviceFault) × (other ≡ halting (flushed_to (with_past s E H) node 4 taken) node))))))
      (sym (front-same node))
      (match-like m new (steps == 0) _ _ _ _
      (λ a. match-like m new (front node s.history == s.ack node) _ _ (λ other. (reply ≡ Nothing) × (other ≡ with_past s E H)) (Moves (with_past s E H) node 1 (front node s.history) reply)
      (λ b. stays-like (λ other. (reply ≡ Nothing) × (other ≡ with_past s E H)) new (b.0, refl) b.1)
      (λ b. moves-like node 1 (front node s.history) reply new b) a)
      (λ a. match-like m new (nat_lt steps 3) _ _ (Moves (with_past s E H) node (steps + 1) taken reply)
      (λ other. ((reply ≡ Acked taken) × (other ≡ acknowledged (with_past s E H) node taken)) ⊎ ((reply ≡ Refused DeviceFault) × (other ≡ halting (flushed_to (with_past s E H) node 4 taken) node)))
      (λ b. moves-like node (steps + 1) taken reply new b)
      (λ b. ends-like node taken reply new b) a) row)

  leaves-like : (node segment : ℕ) (reply : Reply) (new : State) → LeaveRow s node segment reply new → Follows m new (LeaveRow (with_past s E H) node segment reply)
  leaves-like node segment reply new row =
      let count : reserved node H ≡ reserved node s.history = count-like node (effects s.earlier m.start) s.history H like in
      elim row [
        | inl x ↦ (placed (with_past s E H) segment Travelling, inl (x.0, x.1 ∙ sym count, refl), to new (placed s segment Travelling) (placed (with_past s E H) segment Travelling) x.2 (record { beside = refl; earlier = same; history = like }))
        | inr y ↦ elim y [
          | inl x ↦ (with_past s E H, inr (inl (x.0, subst (λ (n : ℕ). s.ack node < n) (sym count) x.1, refl)), to new s (with_past s E H) x.2 itself)
          | inr x ↦ (with_past s E H, inr (inr (x.0, refl)), to new s (with_past s E H) x.1 itself)
        ]
      ]

  arrives-like : (place : Place) (node segment : ℕ) (reply : Reply) (new : State) → ArriveRow place s node segment reply new → Follows m new (ArriveRow place (with_past s E H) node segment reply)
  arrives-like (At other) node segment reply new row = (with_past s E H, (row.0, refl), to new s (with_past s E H) row.1 itself)
  arrives-like Travelling node segment reply new row = elim row [
    | inl x ↦ (placed (with_past s E H) segment (At node), inl (x.0, refl), to new (placed s segment (At node)) (placed (with_past s E H) segment (At node)) x.1 (record { beside = refl; earlier = same; history = like }))
    | inr x ↦ (with_past s E H, inr (x.0, x.1, x.2, refl), to new s (with_past s E H) x.3 itself)
  ]

  halts-like : (may : Reply → Bool) (node : ℕ) (reply : Reply) (new : State) → OrHalts may s node reply new → Follows m new (OrHalts may (with_past s E H) node reply)
  halts-like may node reply new row = elim row [
    | inl x ↦ (with_past s E H, inl (x.0, refl), to new s (with_past s E H) x.1 itself)
    | inr x ↦ (halting (with_past s E H) node, inr (x.0, refl), to new (halting s node) (halting (with_past s E H) node) x.1 (record { beside = refl; earlier = same; history = like }))
  ]

  begins-like : (node thread : ℕ) (segments reading : List ℕ) (reply : Reply) (new : State) → Row m s (Begin node thread segments reading) reply new → Follows m new (Row m (with_past s E H) (Begin node thread segments reading) reply)
  begins-like node thread segments reading reply new row =
      unless-like m (with_past s E H) new s (begin_refusal m.geometry s node thread segments reading) (begin_refusal m.geometry (with_past s E H) node thread segments reading) reply _
      (λ other. (reply ≡ Accepted) × (other ≡ begun m.geometry (with_past s E H) node thread segments reading)) (begin-same node thread segments reading) itself
      (λ none h. (
        begun m.geometry (with_past s E H) node thread segments reading,
        (h.0, refl),
        to new (begun m.geometry s node thread segments reading) (begun m.geometry (with_past s E H) node thread segments reading) h.1 (record { beside = refl; earlier = same; history = like }),
      )) row

  closes-like : (node thread : ℕ) (reply : Reply) (new : State) → Row m s (Close node thread) reply new → Follows m new (Row m (with_past s E H) (Close node thread) reply)
  closes-like node thread reply new row =
      unless-like m (with_past s E H) new s (refuse_if (not (has_unclosed node thread s)) OutOfTurn None) (refuse_if (not (has_unclosed node thread (with_past s E H))) OutOfTurn None) reply _
      (λ other. (reply ≡ Accepted) × (other ≡ record (with_past s E H) { history = closed_by node thread H })) (ap (λ b. refuse_if (not b) OutOfTurn None) (unclosed-same node thread)) itself
      (λ none h. (
        record (with_past s E H) { history = closed_by node thread H },
        (h.0, refl),
        to new (record s { history = closed_by node thread s.history }) (record (with_past s E H) { history = closed_by node thread H }) h.1
            (record { beside = refl; earlier = same; history = closed-like node thread (effects s.earlier m.start) s.history H like }),
      )) row

  row-like : (event : Event) (reply : Reply) (new : State) → s.phase ≡ Up → IsStep event → Row m s event reply new → Follows m new (Row m (with_past s E H) event reply)
  row-like (Begin node thread segments reading) reply new up step row = begins-like node thread segments reading reply new row
  row-like (SetRange node thread segment offset len) reply new up step row = absurd step
  row-like (Write node thread segment offset bytes) reply new up step row = absurd step
  row-like (Read node thread segment offset len) reply new up step row = absurd step
  row-like (Abort node thread) reply new up step row = absurd step
  row-like (Reserve node thread) reply new up step row = absurd step
  row-like (Close node thread) reply new up step row = closes-like node thread reply new row
  row-like (FlushStep node) reply new up step row = flush-like node (s.flush node).steps (s.flush node).taken reply new row
  row-like (Leave node segment) reply new up step row =
      unless-like m (with_past s E H) new s (leave_refusal s node segment) (leave_refusal (with_past s E H) node segment) reply _
      (LeaveRow (with_past s E H) node segment reply) (leave-same node segment) itself (λ none h. leaves-like node segment reply new h) row
  row-like (Arrive node segment) reply new up step row = arrives-like (s.place segment) node segment reply new row
  row-like (Deliver sender number segment to_node) reply new up step row = (with_past s E H, (row.0, refl), to new s (with_past s E H) row.1 itself)
  row-like (Trim node) reply new up step row = (with_past s E H, (row.0, refl), to new s (with_past s E H) row.1 itself)
  row-like (PageStep node segment page) reply new up step row = halts-like may_page node reply new row
  row-like (ResetStep node) reply new up step row = halts-like may_reset node reply new row
  row-like (Stop choices) reply new up step row = absurd step
  row-like RecoverStep reply new up step row = absurd step

  step-past : (event : Event) (reply : Reply) (new : State) → s.phase ≡ Up → IsStep event → Step m s event reply new → Follows m new (Step m (with_past s E H) event reply)
  step-past event reply new up step h =
      unless-same m (with_past s E H) new s (common_refusal m.geometry s event) reply (Row m s event reply new) (Row m (with_past s E H) event reply) itself
      (λ none row. row-like event reply new up step row) h

-- a state that is like another answers a step alike
pub step-like : (m : Setting) (s other new : State) (event : Event) (reply : Reply) → IsLike m s other → s.phase ≡ Up → IsStep event → Step m s event reply new → (next : State) × Step m other event reply next × IsLike m new next
step-like m s other new event reply like up step h =
    subst (λ (x : State). (next : State) × Step m x event reply next × IsLike m new next) (sym like.beside)
    (step-past m s other.earlier other.history like.earlier like.history event reply new up step h)
