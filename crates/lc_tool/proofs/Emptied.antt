-- After a flush or a reset that is not refused the store is up, and has the node, which is not halted.
use Rattle.std.proofs.Common.{◌≡◌, ℕ, zero, suc, ◌+◌, ◌==◌, ◌&&◌, Bool, true, false, not, nat_lt, Option, Some, None, refl, sym, ap, subst, ◌∙◌, inl, inr, true≢false}
use Rattle.std.specs.Prelude.{MatchBool, MatchOption}
use Rattle.std.proofs.lemmas.Bool.{and_parts as and-both}
use Rattle.lc_record.specs.declared.geometry.Geometry.{Geometry}
use Rattle.lc_model.specs.History.{front}
use Rattle.lc_model.specs.Machine.{FlushRow, Moves, OrHalts, Row, Step, may_reset}
use Rattle.lc_model.specs.Refusals.{Unless, common_refusal, is_halted, is_known, is_node, is_up, works_down}
use Rattle.lc_model.specs.State.{DownAt, Phase, Setting, State, Up}
use Rattle.lc_model.specs.declared.event.Event.{Event}
use Rattle.lc_model.specs.declared.event.Event.TheVariants.{FlushStep, ResetStep}
use Rattle.lc_model.specs.declared.refusal.Refusal.{Refusal}
use Rattle.lc_model.specs.declared.refusal.Refusal.TheVariants.{DeviceFault, Uncommitted}
use Rattle.lc_model.specs.declared.reply.Reply.{Reply}
use Rattle.lc_model.specs.declared.reply.Reply.TheVariants.{Acked, Nothing, Refused, Stepped}
use Rattle.lc_model.proofs.Rows.{none_refused}
use Rattle.lc_settled.specs.Numbers.{Numbers}
use Rattle.lc_core.specs.Truncating.{ending, stopping}
use Rattle.lc_tool.specs.Answers.{Answers}
use Rattle.lc_tool.specs.Truncation.{AsksFirst, Cleans, Repeats, Truncates}

-- it is no refusal
abbrev pub IsPlain : Reply → Type 0
IsPlain reply = (refusal : Refusal) → reply ≡ Refused refusal → ⊥

-- the store is up, and has the node, which is not halted
pub record HasNode (m : Setting) (node : ℕ) (s : State) : Type 0 where
  pub up : s.phase ≡ Up
  pub known : is_node m.geometry node ≡ true
  pub awake : s.halted node ≡ false

stands_up : (phase : Phase) → not (is_up phase) && true ≡ false → phase ≡ Up
stands_up Up h = refl
stands_up (DownAt cut) h = absurd (true≢false h)

node_known : (g : Geometry) (node : ℕ) → is_known g (FlushStep node) ≡ true → is_node g node ≡ true
node_known g node h = (and-both _ _ (and-both _ _ (and-both _ _ (and-both _ _ h).0).0).0).0

unless_plain : (o : Option Refusal) (s : State) (reply : Reply) (after : State) (P : Type 0) → IsPlain reply → Unless o s reply after P → (o ≡ None) × P
unless_plain None s reply after P plain h = (refl, h)
unless_plain (Some refusal) s reply after P plain h = absurd (plain refusal h.0)

-- by cases of a test
either : (b : Bool) (A B C : Type 0) → MatchBool b A B → (A → C) → (B → C) → C
either true A B C h f g = f h
either false A B C h f g = g h

moved_phase : (s : State) (node steps taken : ℕ) (reply : Reply) (after : State) → Moves s node steps taken reply after → after.phase ≡ s.phase
moved_phase s node steps taken reply after (inl h) = ap (λ (z : State). z.phase) h.1
moved_phase s node steps taken reply after (inr h) = ap (λ (z : State). z.phase) h.1

flush_phase : (s : State) (node steps taken : ℕ) (reply : Reply) (after : State) → FlushRow s node steps taken reply after → after.phase ≡ s.phase
flush_phase s node steps taken reply after row =
    either (steps == 0) _ _ _ row
    (λ first. either (front node s.history == s.ack node) _ _ _ first (λ nothing. ap (λ (z : State). z.phase) nothing.1) (λ moves. moved_phase s node 1 (front node s.history) reply after moves))
    (λ later. either (nat_lt steps 3) _ _ _ later (λ moves. moved_phase s node (steps + 1) taken reply after moves)
    (λ last. elim last [ inl h ↦ ap (λ (z : State). z.phase) h.1 | inr h ↦ ap (λ (z : State). z.phase) h.1 ]))

reset_phase : (may : Reply → Bool) (s : State) (node : ℕ) (reply : Reply) (after : State) → OrHalts may s node reply after → after.phase ≡ s.phase
reset_phase may s node reply after (inl h) = ap (λ (z : State). z.phase) h.1
reset_phase may s node reply after (inr h) = ap (λ (z : State). z.phase) h.1

-- a call that is not refused halts no node
moved_halted : (s : State) (node steps taken : ℕ) (reply : Reply) (after : State) → IsPlain reply → Moves s node steps taken reply after → after.halted ≡ s.halted
moved_halted s node steps taken reply after plain (inl h) = ap (λ (z : State). z.halted) h.1
moved_halted s node steps taken reply after plain (inr h) = absurd (plain DeviceFault h.0)

flush_halted : (s : State) (node steps taken : ℕ) (reply : Reply) (after : State) → IsPlain reply → FlushRow s node steps taken reply after → after.halted ≡ s.halted
flush_halted s node steps taken reply after plain row =
    either (steps == 0) _ _ _ row
    (λ first. either (front node s.history == s.ack node) _ _ _ first (λ nothing. ap (λ (z : State). z.halted) nothing.1) (λ moves. moved_halted s node 1 (front node s.history) reply after plain moves))
    (λ later. either (nat_lt steps 3) _ _ _ later (λ moves. moved_halted s node (steps + 1) taken reply after plain moves)
    (λ last. elim last [ inl h ↦ ap (λ (z : State). z.halted) h.1 | inr h ↦ absurd (plain DeviceFault h.0) ]))

reset_halted : (may : Reply → Bool) (s : State) (node : ℕ) (reply : Reply) (after : State) → IsPlain reply → OrHalts may s node reply after → after.halted ≡ s.halted
reset_halted may s node reply after plain (inl h) = ap (λ (z : State). z.halted) h.1
reset_halted may s node reply after plain (inr h) = absurd (plain DeviceFault h.0)

flush_keeps : (m : Setting) (s : State) (node : ℕ) (reply : Reply) (after : State) → IsPlain reply → Step m s (FlushStep node) reply after → HasNode m node after
flush_keeps m s node reply after plain step =
    let here = unless_plain (common_refusal m.geometry s (FlushStep node)) s reply after (Row m s (FlushStep node) reply after) plain step in
    let passed = none_refused (not (is_up s.phase) && not (works_down (FlushStep node))) (is_known m.geometry (FlushStep node)) (is_halted s.halted (FlushStep node)) here.0 in
    record {
      up = flush_phase s node (s.flush node).steps (s.flush node).taken reply after here.1 ∙ stands_up s.phase passed.0;
      known = node_known m.geometry node passed.1;
      awake = ap (λ (halted : ℕ → Bool). halted node) (flush_halted s node (s.flush node).steps (s.flush node).taken reply after plain here.1) ∙ passed.2;
    }

reset_keeps : (m : Setting) (s : State) (node : ℕ) (reply : Reply) (after : State) → IsPlain reply → Step m s (ResetStep node) reply after → HasNode m node after
reset_keeps m s node reply after plain step =
    let here = unless_plain (common_refusal m.geometry s (ResetStep node)) s reply after (Row m s (ResetStep node) reply after) plain step in
    let passed = none_refused (not (is_up s.phase) && not (works_down (ResetStep node))) (is_known m.geometry (ResetStep node)) (is_halted s.halted (ResetStep node)) here.0 in
    record {
      up = reset_phase may_reset s node reply after here.1 ∙ stands_up s.phase passed.0;
      known = node_known m.geometry node passed.1;
      awake = ap (λ (halted : ℕ → Bool). halted node) (reset_halted may_reset s node reply after plain here.1) ∙ passed.2;
    }

pub ended : (first last : Reply) → ending first ≡ Some last → last ≡ first
ended (Stepped calls) last is = absurd cc
ended first last is = cc

module _ (m : Setting) (event : Event) where
  -- the last of the calls
  pub record HasLast (reply : Reply) (after : State) (next : Numbers) : Type 0 where
    pub mid : State
    pub between : Numbers
    pub last : Answers m mid between event reply after next

  last_of : (left : ℕ) (s : State) (x : Numbers) (reply : Reply) (after : State) (next : Numbers) → Repeats m left event s x reply after next → HasLast reply after next
  last_of zero s x reply after next answers = record { mid = s; between = x; last = answers }
  last_of (suc left) s x reply after next to = elim (ending to.0) as (λ (o : Option Reply). ending to.0 ≡ o → MatchOption o (Repeats m left event to.1 to.2 reply after next) (λ last. (reply ≡ last) × (after ≡ to.1) × (next ≡ to.2)) → HasLast reply after next) [
    | None ↦ λ more rest. last_of left to.1 to.2 reply after next rest
    | Some last ↦ λ is ends.
        let same : reply ≡ to.0 = ends.0 ∙ ended to.0 last is in
        record { mid = s; between = x; last = rw (same, ends.1, ends.2) to.3 }
  ] refl to.4

pub goes_plain : (reply : Reply) → stopping reply ≡ None → IsPlain reply
goes_plain (Acked count) goes = λ refusal is. absurd cc
goes_plain Nothing goes = λ refusal is. absurd cc
goes_plain reply goes = absurd cc

pub stopped : (first last : Reply) → stopping first ≡ Some last → last ≡ first
stopped (Acked count) last is = absurd cc
stopped Nothing last is = absurd cc
stopped first last is = cc

module _ (m : Setting) (node : ℕ) where
  flushed_node : (s : State) (x : Numbers) (reply : Reply) (after : State) (next : Numbers) → Repeats m 3 (FlushStep node) s x reply after next → IsPlain reply → HasNode m node after
  flushed_node s x reply after next to plain =
      let last = last_of m (FlushStep node) 3 s x reply after next to in
      flush_keeps m last.mid node reply after plain last.last.step

  -- after a flush that leaves more to do
  pub flushed_there : (s : State) (x : Numbers) (reply : Reply) (after : State) (next : Numbers) → Repeats m 3 (FlushStep node) s x reply after next → stopping reply ≡ None → HasNode m node after
  flushed_there s x reply after next to goes = flushed_node s x reply after next to (goes_plain reply goes)

  reset_node : (s : State) (x : Numbers) (reply : Reply) (after : State) (next : Numbers) → Repeats m 3 (ResetStep node) s x reply after next → IsPlain reply → HasNode m node after
  reset_node s x reply after next to plain =
      let last = last_of m (ResetStep node) 3 s x reply after next to in
      reset_keeps m last.mid node reply after plain last.last.step

  cleaned_node : (s : State) (x : Numbers) (reply : Reply) (after : State) (next : Numbers) → Cleans m node s x reply after next → IsPlain reply → HasNode m node after
  cleaned_node s x reply after next to plain = elim to.0 as (λ (o : Option Refusal). MatchOption o (Repeats m 3 (ResetStep node) to.1 to.2 reply after next) (λ refusal. (reply ≡ Refused refusal) × (after ≡ to.1) × (next ≡ to.2)) → HasNode m node after) [
    | None ↦ λ resets. reset_node to.1 to.2 reply after next resets plain
    | Some refusal ↦ λ refused. absurd (plain refusal refused.0)
  ] to.4

  asked_node : (s : State) (x : Numbers) (reply : Reply) (after : State) (next : Numbers) → AsksFirst m node s x reply after next → IsPlain reply → HasNode m node after
  asked_node s x reply after next (inl refuses) plain = absurd (plain Uncommitted refuses.1)
  asked_node s x reply after next (inr goes) plain = cleaned_node s x reply after next goes.1 plain

  -- after a truncation that is not refused
  pub truncated_node : (s : State) (x : Numbers) (reply : Reply) (after : State) (next : Numbers) → Truncates m node s x reply after next → IsPlain reply → HasNode m node after
  truncated_node s x reply after next to plain = elim (stopping to.0) as (λ (o : Option Reply). stopping to.0 ≡ o → MatchOption o (AsksFirst m node to.1 to.2 reply after next) (λ last. (reply ≡ last) × (after ≡ to.1) × (next ≡ to.2)) → HasNode m node after) [
    | None ↦ λ goes asks. asked_node to.1 to.2 reply after next asks plain
    | Some last ↦ λ stops ends.
        let same : reply ≡ to.0 = ends.0 ∙ stopped to.0 last stops in
        subst (HasNode m node) (sym ends.1) (flushed_node s x to.0 to.1 to.2 to.3 (subst IsPlain same plain))
  ] refl to.4
