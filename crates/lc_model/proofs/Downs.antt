-- What a stop may cut at, and what a recovery keeps of it.
use Rattle.std.proofs.Common.{◌≡◌, ℕ, ◌<◌, ◌≤◌, ◌++◌, List, length, slice_index, Option, Some, None, refl, subst, arith, inl, inr}
use Rattle.std.proofs.lemmas.Bool.{cases_lt}
use Rattle.std.proofs.lemmas.List.{get_or_past}
use Rattle.lc_disk.specs.declared.choice.Choice.{Choice}
use Rattle.lc_record.specs.declared.geometry.Geometry.{Geometry}
use Rattle.lc_model.specs.History.{Cut, kept, front}
use Rattle.lc_model.specs.State.{Phase, Up, DownAt, Setting, State, fresh}
use Rattle.lc_model.specs.Stops.{MayCut, MayCutAt}
use Rattle.lc_model.specs.Sound.{Sound}
use Rattle.lc_model.specs.Refusals.{Unless, common_refusal}
use Rattle.lc_model.specs.Machine.{Step, Row, StopRow, RecoverRow}
use Rattle.lc_model.specs.Choices.{AtLeastOne}
use Rattle.lc_model.specs.declared.event.Event.TheVariants.{Stop, RecoverStep}
use Rattle.lc_model.specs.declared.reply.Reply.{Reply}
use Rattle.lc_model.specs.declared.reply.Reply.TheVariants.{Stepped, Down as Stopped, Recovered, Refused}
use Rattle.lc_model.specs.declared.refusal.Refusal.{Refusal}
use Rattle.lc_model.specs.declared.refusal.Refusal.TheVariants.{OutOfTurn, DeviceFault}
use Rattle.lc_model.proofs.EveryCut.{may_cut}
use Rattle.lc_model.proofs.Choices.{some_answer}

-- Stops

stop-none : (phase : Phase) (m : Setting) (s : State) (choices : List (List Choice)) → s.phase ≡ phase → common_refusal m.geometry s (Stop choices) ≡ None
stop-none Up m s choices is = rw is refl
stop-none (DownAt cut) m s choices is = rw is refl

unless-row : (refusal : Option Refusal) (s : State) (reply : Reply) (new : State) (otherwise : Type 0) → refusal ≡ None → Unless refusal s reply new otherwise → otherwise
unless-row None s reply new otherwise none h = h
unless-row (Some refusal) s reply new otherwise none h = absurd cc

stop-reply : (phase : Phase) (g : Geometry) (s : State) (reply : Reply) (new : State) → StopRow phase g s reply new → reply ≡ Stopped
stop-reply Up g s reply new row = row.2
stop-reply (DownAt cut) g s reply new row = row.0

-- a sound state has a stop
pub stop-some : (m : Setting) (s : State) (choices : List (List Choice)) → Sound m.geometry s → (new : State) × Step m s (Stop choices) Stopped new
stop-some m s choices sound =
    let some : AtLeastOne (Step m s (Stop choices)) = some_answer m s (Stop choices) sound in
    let row : Row m s (Stop choices) some.0 some.1 = unless-row (common_refusal m.geometry s (Stop choices)) s some.0 some.1 _ (stop-none s.phase m s choices refl) some.2 in
    (some.1, subst (λ (reply : Reply). Step m s (Stop choices) reply some.1) (stop-reply s.phase m.geometry s some.0 some.1 row) some.2)

-- and, while it is up, one at each of these cuts
pub stop-at : (m : Setting) (s : State) (choices : List (List Choice)) (cut : Cut) → Sound m.geometry s → s.phase ≡ Up → length cut ≡ m.geometry.nodes → ((node : ℕ) → node < m.geometry.nodes → MayCutAt s node (slice_index cut node))
    → Step m s (Stop choices) Stopped (record s { phase = DownAt cut })
stop-at m s choices cut sound up long may = rw up (cut, may_cut m.geometry s cut sound long may, refl, refl)

-- Recoveries

recovered-row : (phase : Phase) (g : Geometry) (s new : State) → s.phase ≡ phase → Sound g s → RecoverRow phase g s Recovered new → (cut : Cut) × (s.phase ≡ DownAt cut) × MayCut g s cut × (new ≡ fresh g (s.earlier ++ kept s.history cut) Up)
recovered-row Up g s new is sound row = absurd (let e : Recovered ≡ Refused OutOfTurn = row.0 in cc)
recovered-row (DownAt cut) g s new is sound row =
    elim row [
      | inl x ↦ absurd (let e : Recovered ≡ Stepped x.0 = x.1 in cc)
      | inr y ↦ elim y [ inl x ↦ absurd (let e : Recovered ≡ Refused DeviceFault = x.0 in cc) | inr x ↦ (cut, is, sound.down_cut cut is, x.1) ]
    ]

past-unless : (refusal : Option Refusal) (s new : State) (otherwise : Type 0) → Unless refusal s Recovered new otherwise → otherwise
past-unless None s new otherwise h = h
past-unless (Some refusal) s new otherwise h = absurd (let e : Recovered ≡ Refused refusal = h.0 in cc)

pub recovered : (m : Setting) (s new : State) → Sound m.geometry s → Step m s RecoverStep Recovered new → (cut : Cut) × (s.phase ≡ DownAt cut) × MayCut m.geometry s cut × (new ≡ fresh m.geometry (s.earlier ++ kept s.history cut) Up)
recovered m s new sound step =
    recovered-row s.phase m.geometry s new refl sound (past-unless (common_refusal m.geometry s RecoverStep) s new (Row m s RecoverStep Recovered new) step)

-- Of one node

pub acked-kept : (g : Geometry) (s : State) (node number : ℕ) → Sound g s → MayCutAt s node number → s.ack node ≤ number
acked-kept g s node number sound may =
    elim may [
      | inl e ↦ omega (arith, e)
      | inr e ↦
          let under_way : 1 ≤ (s.flush node).steps = omega (arith, e.0) in
          omega (arith, e.1, sound.taken node under_way)
    ]

kept-closed : (g : Geometry) (s : State) (node number : ℕ) → Sound g s → MayCutAt s node number → number ≤ front node s.history
kept-closed g s node number sound may =
    elim may [
      | inl e ↦ omega (arith, e, sound.acked node)
      | inr e ↦
          let under_way : 1 ≤ (s.flush node).steps = omega (arith, e.0) in
          omega (arith, e.1, sound.taken_closed node under_way)
    ]

pub kept-front : (g : Geometry) (s : State) (cut : Cut) (node : ℕ) → Sound g s → MayCut g s cut → slice_index cut node ≤ front node s.history
kept-front g s cut node sound may =
    elim (cases_lt node g.nodes) [
      | inl below ↦ kept-closed g s node (slice_index cut node) sound (may.2 node below)
      | inr above ↦
          let past : length cut ≤ node = omega (arith, above, may.0) in
          let none : slice_index cut node ≡ 0 = get_or_past cut node 0 past in
          omega (arith, none)
    ]
