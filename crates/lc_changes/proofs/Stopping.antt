-- States that are alike stop and recover alike.
use Rattle.std.proofs.Common.{◌≡◌, ℕ, ◌+◌, Bool, true, false, not, ◌&&◌, ◌==◌, nat_lt, List, [], ◌∷◌, ◌++◌, Option, None, All, refl, sym, ◌∙◌, ap, subst, inl, inr}
use Rattle.std.specs.Prelude.{slice_index, if◌then◌else◌}
use Rattle.std.proofs.lemmas.List.Elements.{All-head, All-tail}
use Rattle.lc_record.specs.Content.{Content}
use Rattle.lc_record.specs.Recorded.{counted, locks_of, ranges_of, record_of}
use Rattle.lc_record.specs.Transaction.{Transaction, IsWellFormed, effect, effects}
use Rattle.lc_record.specs.declared.geometry.Geometry.{Geometry}
use Rattle.lc_record.specs.declared.record.Record.{Record}
use Rattle.lc_model.specs.History.{Cut, Entry, History, is_kept, is_of, kept, numbered_after, transactions}
use Rattle.lc_model.specs.Machine.{Row, Run, Step, RecoverRow, StopRow}
use Rattle.lc_model.specs.Merging.{kept_records, put_on}
use Rattle.lc_model.specs.Refusals.{Unless, is_up, refuse_if}
use Rattle.lc_model.specs.Sound.{Sound}
use Rattle.lc_model.specs.State.{Phase, Up, DownAt, State, Setting, fresh}
use Rattle.lc_model.specs.Stops.{MayCut, MayCutAt}
use Rattle.lc_model.specs.declared.event.Event.{Event}
use Rattle.lc_model.specs.declared.event.Event.TheVariants.{Begin, SetRange, Write, Read, Abort, Reserve, Close, FlushStep, Leave, Arrive, Deliver, Trim, PageStep, ResetStep, Stop, RecoverStep}
use Rattle.lc_model.specs.declared.refusal.Refusal.{Refusal}
use Rattle.lc_model.specs.declared.refusal.Refusal.TheVariants.{DeviceFault, Down as IsDown, OutOfTurn}
use Rattle.lc_model.specs.declared.reply.Reply.{Reply}
use Rattle.lc_model.specs.declared.reply.Reply.TheVariants.{Recovered, Refused, Stepped}
use Rattle.lc_model.proofs.EveryCut.{may_cut}
use Rattle.lc_model.proofs.Keeps.{sound-step}
use Rattle.lc_model.proofs.Law.{effects-append}
use Rattle.lc_model.proofs.Merging.{kept_records-put_on}
use Rattle.lc_model.proofs.Prefix.{count, count-other, count-own}
use Rattle.lc_model.proofs.Rows.{step-row}
use Rattle.lc_changes.specs.Calls.{DiffersInWrites, DifferInWrites, IsLike, IsStopOrRecovery}

-- Records

same-count : (bs cs : List Transaction) (t u : Transaction) (node : ℕ) → u.node ≡ t.node → count node cs ≡ count node bs → count node (cs ++ u ∷ []) ≡ count node (bs ++ t ∷ [])
same-count bs cs t u node nodes same =
    let test : is_of node u ≡ is_of node t = ap (λ (n : ℕ). n == node) nodes in
    elim (is_of node t) as (λ b. is_of node t ≡ b → count node (cs ++ u ∷ []) ≡ count node (bs ++ t ∷ [])) [
      | true ↦ λ e. count-own node cs u (test ∙ e) ∙ ap (λ n. n + 1) same ∙ sym (count-own node bs t e)
      | false ↦ λ e. count-other node cs u (test ∙ e) ∙ same ∙ sym (count-other node bs t e)
    ] refl

same-record : (numbers : ℕ → ℕ) (content : Content) (e f : Entry) → DiffersInWrites content e f → record_of numbers content f.transaction ≡ record_of numbers content e.transaction
same-record numbers content e f like =
    ap (λ (c : Content). record { node = f.transaction.node; locks = locks_of numbers 1 f.transaction.marks; ranges = ranges_of 1 f.transaction.marks c }) like.effect_is
    ∙ ap (λ (t : Transaction). record { node = t.node; locks = locks_of numbers 1 t.marks; ranges = ranges_of 1 t.marks (effect e.transaction content) }) like.transaction

with-head : (b : Bool) (r q : Record) (rs qs : List Record) → q ≡ r → qs ≡ rs → (if b then q ∷ qs else qs) ≡ (if b then r ∷ rs else rs)
with-head true r q rs qs head rest = ap (λ (x : Record). x ∷ qs) head ∙ ap (λ (xs : List Record). r ∷ xs) rest
with-head false r q rs qs head rest = rest

-- the records that a cut keeps are the same
records-like : (cut : Cut) (numbers : ℕ → ℕ) (content : Content) (bs cs : List Transaction) (es fs : History) → ((node : ℕ) → count node cs ≡ count node bs) → DifferInWrites content es fs
    → kept_records (is_kept cut) numbers content (numbered_after cs (transactions fs)) ≡ kept_records (is_kept cut) numbers content (numbered_after bs (transactions es))
records-like cut numbers content bs cs [] [] same like = refl
records-like cut numbers content bs cs [] (f ∷ fs) same like = absurd like
records-like cut numbers content bs cs (e ∷ es) [] same like = absurd like
records-like cut numbers content bs cs (e ∷ es) (f ∷ fs) same like =
    let t : Transaction = e.transaction in
    let u : Transaction = f.transaction in
    let nodes : u.node ≡ t.node = ap (λ (x : Transaction). x.node) like.0.transaction in
    let kept_same : is_kept cut (record { transaction = u; number = count u.node cs }) ≡ is_kept cut (record { transaction = t; number = count t.node bs }) =
    ap (λ (n : ℕ). nat_lt (count n cs) (slice_index cut n)) nodes ∙ ap (λ (n : ℕ). nat_lt n (slice_index cut t.node)) (same t.node) in
    let counts : counted numbers u ≡ counted numbers t = ap (counted numbers) like.0.transaction in
    let next : kept_records (is_kept cut) (counted numbers t) (effect t content) (numbered_after (cs ++ u ∷ []) (transactions fs)) ≡ kept_records (is_kept cut) (counted numbers t) (effect t content) (numbered_after (bs ++ t ∷ []) (transactions es)) =
    records-like cut (counted numbers t) (effect t content) (bs ++ t ∷ []) (cs ++ u ∷ []) es fs (λ node. same-count bs cs t u node nodes (same node)) like.1 in
    let rest : kept_records (is_kept cut) (counted numbers u) (effect u content) (numbered_after (cs ++ u ∷ []) (transactions fs)) ≡ kept_records (is_kept cut) (counted numbers t) (effect t content) (numbered_after (bs ++ t ∷ []) (transactions es)) =
    ap (λ (x : ℕ → ℕ). kept_records (is_kept cut) x (effect u content) (numbered_after (cs ++ u ∷ []) (transactions fs))) counts
    ∙ ap (λ (c : Content). kept_records (is_kept cut) (counted numbers t) c (numbered_after (cs ++ u ∷ []) (transactions fs))) like.0.effect_is
    ∙ next in
    ap (λ (b : Bool). if b then record_of numbers content u ∷ kept_records (is_kept cut) (counted numbers u) (effect u content) (numbered_after (cs ++ u ∷ []) (transactions fs)) else kept_records (is_kept cut) (counted numbers u) (effect u content) (numbered_after (cs ++ u ∷ []) (transactions fs))) kept_same
    ∙ with-head (is_kept cut (record { transaction = t; number = count t.node bs })) (record_of numbers content t) (record_of numbers content u)
    (kept_records (is_kept cut) (counted numbers t) (effect t content) (numbered_after (bs ++ t ∷ []) (transactions es)))
    (kept_records (is_kept cut) (counted numbers u) (effect u content) (numbered_after (cs ++ u ∷ []) (transactions fs))) (same-record numbers content e f like.0) rest

well : (g : Geometry) (s : State) → Sound g s → All IsWellFormed (transactions s.history)
well g s sound = λ j d j_in. (sound.history_proper j d j_in).well

-- so what it keeps has the same value
kept-like : (m : Setting) (s other : State) (cut : Cut) → Sound m.geometry s → Sound m.geometry other → MayCut m.geometry s cut → MayCut m.geometry other cut → DifferInWrites (effects s.earlier m.start) s.history other.history
    → effects (kept other.history cut) (effects s.earlier m.start) ≡ effects (kept s.history cut) (effects s.earlier m.start)
kept-like m s other cut sound sound_other may may_other like =
    let content : Content = effects s.earlier m.start in
    sym (kept_records-put_on (λ segment. 0) (effects s.earlier m.start) other.history cut (well m.geometry other sound_other) may_other.1)
    ∙ ap (λ (rs : List Record). put_on rs (effects s.earlier m.start)) (records-like cut (λ segment. 0) (effects s.earlier m.start) [] [] s.history other.history (λ node. refl) like)
    ∙ kept_records-put_on (λ segment. 0) (effects s.earlier m.start) s.history cut (well m.geometry s sound) may.1

-- Stops and recoveries

-- but for what is open
abbrev IsNear : Setting → State → State → Type 0
IsNear m s other = IsLike m (record s { running = other.running }) other

same-cut : (m : Setting) (s other : State) (cut : Cut) → Sound m.geometry other → IsNear m s other → MayCut m.geometry s cut → MayCut m.geometry other cut
same-cut m s other cut sound near may =
    may_cut m.geometry other cut sound may.0
    (λ node below. subst (λ (x : State). MayCutAt x node (slice_index cut node)) (sym near.beside) (may.2 node below))

abbrev Next : Setting → State → (State → Type 0) → Type 0
Next m new May = (next : State) × May next × IsNear m new next

stop-near : (m : Setting) (s other new : State) (phase : Phase) (reply : Reply) → s.phase ≡ phase → Sound m.geometry other → IsNear m s other → StopRow phase m.geometry s reply new → Next m new (StopRow phase m.geometry other reply)
stop-near m s other new Up reply is sound near row =
    let next : State = record other { phase = DownAt row.0 } in (
      record other { phase = DownAt row.0 },
      (row.0, same-cut m s other row.0 sound near row.1, row.2, refl),
      subst (λ (x : State). IsNear m x (record other { phase = DownAt row.0 })) (sym row.3)
          (record { beside = ap (λ (x : State). record x { phase = DownAt row.0 }) near.beside; earlier = near.earlier; history = near.history }),
    )
stop-near m s other new (DownAt cut) reply is sound near row = (other, (row.0, refl), subst (λ (x : State). IsNear m x other) (sym row.1) near)

-- what a recovery begins with
fresh-like : (m : Setting) (s other : State) (cut : Cut) → s.phase ≡ DownAt cut → Sound m.geometry s → Sound m.geometry other → IsNear m s other
    → IsLike m (fresh m.geometry (s.earlier ++ kept s.history cut) Up) (fresh m.geometry (other.earlier ++ kept other.history cut) Up)
fresh-like m s other cut is sound sound_other near =
    let may : MayCut m.geometry s cut = sound.down_cut cut is in
    record {
      beside = refl;
      earlier = effects-append other.earlier (kept other.history cut) m.start
          ∙ ap (effects (kept other.history cut)) near.earlier
          ∙ kept-like m s other cut sound sound_other may (same-cut m s other cut sound_other near may) near.history
          ∙ sym (effects-append s.earlier (kept s.history cut) m.start);
      history = tt;
    }

recover-near : (m : Setting) (s other new : State) (phase : Phase) (reply : Reply) → s.phase ≡ phase → Sound m.geometry s → Sound m.geometry other → IsNear m s other → RecoverRow phase m.geometry s reply new → Next m new (RecoverRow phase m.geometry other reply)
recover-near m s other new Up reply is sound sound_other near row = (other, (row.0, refl), subst (λ (x : State). IsNear m x other) (sym row.1) near)
recover-near m s other new (DownAt cut) reply is sound sound_other near row = elim row [
  | inl x ↦ (other, inl (x.0, x.1, refl), subst (λ (y : State). IsNear m y other) (sym x.2) near)
  | inr y ↦ elim y [
    | inl x ↦ (other, inr (inl (x.0, refl)), subst (λ (z : State). IsNear m z other) (sym x.1) near)
    | inr x ↦ (
      fresh m.geometry (other.earlier ++ kept other.history cut) Up,
      inr (inr (x.0, refl)),
      subst (λ (z : State). IsNear m z (fresh m.geometry (other.earlier ++ kept other.history cut) Up)) (sym x.1) (fresh-like m s other cut is sound sound_other near),
    )
  ]
]

recovered-row : (m : Setting) (s other new : State) (phase : Phase) → s.phase ≡ phase → Sound m.geometry s → Sound m.geometry other → IsNear m s other → RecoverRow phase m.geometry s Recovered new
    → (next : State) × RecoverRow phase m.geometry other Recovered next × IsLike m new next
recovered-row m s other new Up is sound sound_other near row = absurd (let never : Recovered ≡ Refused OutOfTurn = row.0 in cc)
recovered-row m s other new (DownAt cut) is sound sound_other near row = elim row [
  | inl x ↦ absurd (let never : Recovered ≡ Stepped x.0 = x.1 in cc)
  | inr y ↦ elim y [
    | inl x ↦ absurd (let never : Recovered ≡ Refused DeviceFault = x.0 in cc)
    | inr x ↦ (
      fresh m.geometry (other.earlier ++ kept other.history cut) Up,
      inr (inr (refl, refl)),
      subst (λ (z : State). IsLike m z (fresh m.geometry (other.earlier ++ kept other.history cut) Up)) (sym x.1) (fresh-like m s other cut is sound sound_other near),
    )
  ]
]

and-not : (b : Bool) → refuse_if (b && false) IsDown None ≡ None
and-not true = refl
and-not false = refl

step-near : (m : Setting) (s other new : State) (event : Event) (reply : Reply) → Sound m.geometry s → Sound m.geometry other → IsNear m s other → IsStopOrRecovery event → Step m s event reply new → Next m new (Step m other event reply)
step-near m s other new (Stop choices) reply sound sound_other near is step =
    let row : Row m s (Stop choices) reply new = subst (λ (o : Option Refusal). Unless o s reply new (Row m s (Stop choices) reply new)) (and-not (not (is_up s.phase))) step in
    let next = stop-near m s other new s.phase reply refl sound_other near row in
    (next.0, step-row m other (Stop choices) reply next.0 (and-not (not (is_up other.phase))) (subst (λ (p : Phase). StopRow p m.geometry other reply next.0) (sym (ap (λ (x : State). x.phase) near.beside)) next.1), next.2)
step-near m s other new RecoverStep reply sound sound_other near is step =
    let row : Row m s RecoverStep reply new = subst (λ (o : Option Refusal). Unless o s reply new (Row m s RecoverStep reply new)) (and-not (not (is_up s.phase))) step in
    let next = recover-near m s other new s.phase reply refl sound sound_other near row in
    (next.0, step-row m other RecoverStep reply next.0 (and-not (not (is_up other.phase))) (subst (λ (p : Phase). RecoverRow p m.geometry other reply next.0) (sym (ap (λ (x : State). x.phase) near.beside)) next.1), next.2)
step-near m s other new (Begin n k segments reading) reply sound sound_other near is step = absurd is
step-near m s other new (SetRange n k segment offset len) reply sound sound_other near is step = absurd is
step-near m s other new (Write n k segment offset bytes) reply sound sound_other near is step = absurd is
step-near m s other new (Read n k segment offset len) reply sound sound_other near is step = absurd is
step-near m s other new (Abort n k) reply sound sound_other near is step = absurd is
step-near m s other new (Reserve n k) reply sound sound_other near is step = absurd is
step-near m s other new (Close n k) reply sound sound_other near is step = absurd is
step-near m s other new (FlushStep n) reply sound sound_other near is step = absurd is
step-near m s other new (Leave n segment) reply sound sound_other near is step = absurd is
step-near m s other new (Arrive n segment) reply sound sound_other near is step = absurd is
step-near m s other new (Deliver sender number segment to_node) reply sound sound_other near is step = absurd is
step-near m s other new (Trim n) reply sound sound_other near is step = absurd is
step-near m s other new (PageStep n segment page) reply sound sound_other near is step = absurd is
step-near m s other new (ResetStep n) reply sound sound_other near is step = absurd is

pub run-near : (m : Setting) (s other new : State) (events : List Event) (replies : List Reply) → Sound m.geometry s → Sound m.geometry other → IsLike m (record s { running = other.running }) other → All IsStopOrRecovery events → Run m s events replies new
    → (next : State) × Run m other events replies next × IsLike m (record new { running = next.running }) next
run-near m s other new [] [] sound sound_other near are run = (other, refl, subst (λ (x : State). IsNear m x other) (sym run) near)
run-near m s other new [] (reply ∷ replies) sound sound_other near are run = absurd run
run-near m s other new (event ∷ events) [] sound sound_other near are run = absurd run
run-near m s other new (event ∷ events) (reply ∷ replies) sound sound_other near are run =
    let one = step-near m s other run.0 event reply sound sound_other near (All-head IsStopOrRecovery event events are) run.1 in
    let rest = run-near m run.0 one.0 new events replies (sound-step m s event reply run.0 sound run.1) (sound-step m other event reply one.0 sound_other one.1) one.2 (All-tail IsStopOrRecovery event events are) run.2 in
    (rest.0, (one.0, one.1, rest.1), rest.2)

-- after a recovery nothing is open on either side
pub recovered-like : (m : Setting) (s other new : State) → Sound m.geometry s → Sound m.geometry other → IsLike m (record s { running = other.running }) other → Step m s RecoverStep Recovered new
    → (next : State) × Step m other RecoverStep Recovered next × IsLike m new next
recovered-like m s other new sound sound_other near step =
    let row : Row m s RecoverStep Recovered new = subst (λ (o : Option Refusal). Unless o s Recovered new (Row m s RecoverStep Recovered new)) (and-not (not (is_up s.phase))) step in
    let next = recovered-row m s other new s.phase refl sound sound_other near row in
    (next.0, step-row m other RecoverStep Recovered next.0 (and-not (not (is_up other.phase))) (subst (λ (p : Phase). RecoverRow p m.geometry other Recovered next.0) (sym (ap (λ (x : State). x.phase) near.beside)) next.1), next.2)
