-- The same event again and again: a flush that has made three steps ends with the next, and a reservation is closed.
use Rattle.std.proofs.Common.{◌≡◌, ◌∙◌, ℕ, ◌+◌, ◌≤◌, ◌<◌, Bool, true, false, ◌==◌, nat_lt, List, [], ◌∷◌, ◌++◌, Option, Some, None, refl, ap, subst, arith, inl, inr, ltb-true, eqb-true, eq-eqb, not}
use Rattle.std.specs.Prelude.{MatchBool}
use Rattle.lc_model.specs.History.{front}
use Rattle.lc_record.specs.declared.geometry.Geometry.{Geometry}
use Rattle.lc_model.specs.Machine.{Step, FlushRow, RecoverRow, ReserveRow, Moves, appended}
use Rattle.lc_record.specs.Marks.{is_empty}
use Rattle.lc_record.specs.Transaction.{Transaction}
use Rattle.lc_model.specs.Refusals.{Unless, OfRunning, common_refusal, refuse_if}
use Rattle.lc_model.specs.State.{Phase, Up, DownAt, Setting, State, running_of, has_unclosed, is_by}
use Rattle.lc_model.specs.declared.event.Event.{Event}
use Rattle.lc_model.specs.declared.event.Event.TheVariants.{Close, FlushStep, RecoverStep, Reserve}
use Rattle.lc_model.specs.declared.refusal.Refusal.{Refusal}
use Rattle.lc_model.specs.declared.refusal.Refusal.TheVariants.{OutOfTurn}
use Rattle.lc_model.specs.declared.reply.Reply.{Reply}
use Rattle.lc_model.specs.declared.reply.Reply.TheVariants.{Ok as Accepted, Reserved, Stepped}
use Rattle.lc_model.proofs.Holders.{is_by-both}
use Rattle.lc_model.proofs.Lists.{found-passes}
use Rattle.lc_model.proofs.Seats.{unclosed-appended}
use Rattle.lc_settled.specs.Numbers.{Numbers}
use Rattle.lc_tool.specs.Answers.{Answers, GoesOnWith, IsStepped}

-- one more
pub one_more : (m : Setting) (s : State) (x : Numbers) (event : Event) (steps : List ℕ) (mid : State) (between : Numbers) (more : ℕ) (after : State) (next : Numbers)
    → GoesOnWith m s x event steps mid between → Answers m mid between event (Stepped more) after next → GoesOnWith m s x event (steps ++ more ∷ []) after next
one_more m s x event [] mid between more after next so_far answers =
    let here : Answers m s x event (Stepped more) after next =
    subst (λ (y : Numbers). Answers m s y event (Stepped more) after next) so_far.1 (subst (λ (z : State). Answers m z between event (Stepped more) after next) so_far.0 answers) in
    (after, next, here, (refl, refl))
one_more m s x event (step ∷ steps) mid between more after next so_far answers =
    (so_far.0, so_far.1, so_far.2, one_more m so_far.0 so_far.1 event steps mid between more after next so_far.3 answers)

pub stepped_is : (reply : Reply) → IsStepped reply → (steps : ℕ) × (reply ≡ Stepped steps)
stepped_is (Stepped steps) is = (steps, refl)
stepped_is reply is = absurd is

pub not_step : (reply : Reply) → ((steps : ℕ) → reply ≡ Stepped steps → ⊥) → IsStepped reply → ⊥
not_step reply not is = let steps = stepped_is reply is in not steps.0 steps.1

-- by cases of a test
pick : (b : Bool) (A B C : Type 0) → MatchBool b A B → (b ≡ true → A → C) → (b ≡ false → B → C) → C
pick true A B C h f g = f refl h
pick false A B C h f g = g refl h

-- Flushes

moves : (s : State) (node steps taken k : ℕ) (after : State) → Moves s node steps taken (Stepped k) after → (after.flush node).steps ≡ steps
moves s node steps taken k after (inl h) = ap (λ (z : State). (z.flush node).steps) h.1 ∙ rw (eq-eqb node node refl) refl
moves s node steps taken k after (inr h) = let bad = h.0 in cc

-- a step that says that more is to come is one more than were done, of which there are three such
moves_on : (s : State) (node steps taken k : ℕ) (after : State) → FlushRow s node steps taken (Stepped k) after → (steps < 3) × ((after.flush node).steps ≡ steps + 1)
moves_on s node steps taken k after row =
    pick (steps == 0) _ _ _ row
    (λ none first.
    let zero = eqb-true steps 0 none in
    pick (front node s.history == s.ack node) _ _ _ first
    (λ same nothing. let bad = nothing.0 in cc)
    (λ more moved. (omega (arith, zero), omega (arith, zero, moves s node 1 (front node s.history) k after moved))))
    (λ some later.
    pick (nat_lt steps 3) _ _ _ later
    (λ few moved. (ltb-true steps 3 few, moves s node (steps + 1) taken k after moved))
    (λ many last. elim last [ inl h ↦ let bad = h.0 in cc | inr h ↦ let bad = h.0 in cc ]))

unless_not : (o : Option Refusal) (s : State) (k : ℕ) (after : State) (P : Type 0) → Unless o s (Stepped k) after P → P
unless_not None s k after P h = h
unless_not (Some refusal) s k after P h = let bad = h.0 in cc

pub flush_moves : (m : Setting) (s : State) (node k : ℕ) (after : State) → Step m s (FlushStep node) (Stepped k) after → ((s.flush node).steps < 3) × ((after.flush node).steps ≡ (s.flush node).steps + 1)
flush_moves m s node k after step =
    moves_on s node (s.flush node).steps (s.flush node).taken k after (unless_not (common_refusal m.geometry s (FlushStep node)) s k after _ step)

pub flush_ends : (m : Setting) (s : State) (node : ℕ) (reply : Reply) (after : State) → 3 ≤ (s.flush node).steps → Step m s (FlushStep node) reply after → IsStepped reply → ⊥
flush_ends m s node reply after done step is =
    let steps = stepped_is reply is in
    let moved = flush_moves m s node steps.0 after (subst (λ (r : Reply). Step m s (FlushStep node) r after) steps.1 step) in
    omega (arith, done, moved.0)

-- Recoveries

still_at : (phase : Phase) (g : Geometry) (s : State) (steps : ℕ) (after : State) → RecoverRow phase g s (Stepped steps) after → after ≡ s
still_at Up g s steps after row = let bad = row.0 in cc
still_at (DownAt cut) g s steps after (inl stepped) = stepped.2
still_at (DownAt cut) g s steps after (inr (inl failed)) = let bad = failed.0 in cc
still_at (DownAt cut) g s steps after (inr (inr up)) = let bad = up.0 in cc

-- a step that says that more is to come leaves the state
pub recover_still : (m : Setting) (s : State) (steps : ℕ) (after : State) → Step m s RecoverStep (Stepped steps) after → after ≡ s
recover_still m s steps after step = still_at s.phase m.geometry s steps after (unless_not (common_refusal m.geometry s RecoverStep) s steps after _ step)

pub all_still : (m : Setting) (s : State) (x : Numbers) (steps : List ℕ) (after : State) (next : Numbers) → GoesOnWith m s x RecoverStep steps after next → after ≡ s
all_still m s x [] after next goes = goes.0
all_still m s x (n ∷ steps) after next goes = all_still m goes.0 goes.1 steps after next goes.3 ∙ recover_still m s n goes.0 goes.2.step

-- Reservations

reserved_here : (o : Option Refusal) (r : Option Transaction) (s : State) (place words : ℕ) (mid : State)
    → Unless o s (Reserved place words) mid (OfRunning r s (Reserved place words) mid (λ t. ReserveRow s t (Reserved place words) mid))
    → (o ≡ None) × ((t : Transaction) × (r ≡ Some t) × (mid ≡ appended s t))
reserved_here (Some refusal) r s place words mid h = let bad = h.0 in cc
reserved_here None None s place words mid h = let bad = h.0 in cc
reserved_here None (Some t) s place words mid h = (
  refl,
  pick (is_empty t.marks) _ _ _ h
      (λ none ended. let bad = ended.0 in cc)
      (λ some row. elim row [ inl made ↦ (t, refl, made.3) | inr refused ↦ let bad = refused.2 in cc ]),
)

close_row : (o : Option Refusal) (b : Bool) (mid : State) (reply : Reply) (after : State) (P : Type 0) → o ≡ None → b ≡ true
    → Unless o mid reply after (Unless (refuse_if (not b) OutOfTurn None) mid reply after ((reply ≡ Accepted) × P)) → reply ≡ Accepted
close_row None true mid reply after P none some h = h.0
close_row None false mid reply after P none some h = absurd cc
close_row (Some refusal) b mid reply after P none some h = absurd cc

pub close_accepted : (m : Setting) (s : State) (node thread place words : ℕ) (mid : State) (reply : Reply) (after : State)
    → Step m s (Reserve node thread) (Reserved place words) mid → Step m mid (Close node thread) reply after → reply ≡ Accepted
close_accepted m s node thread place words mid reply after reserve close =
    let here = reserved_here (common_refusal m.geometry s (Reserve node thread)) (running_of node thread s) s place words mid reserve in
    let t = here.1.0 in
    let by = is_by-both node thread t (found-passes (is_by node thread) s.running t here.1.1) in
    let unclosed : has_unclosed node thread (appended s t) ≡ true =
    subst (λ (n : ℕ). has_unclosed n thread (appended s t) ≡ true) by.0 (subst (λ (k : ℕ). has_unclosed t.node k (appended s t) ≡ true) by.1 (unclosed-appended s t)) in
    let step = subst (λ (z : State). Step m z (Close node thread) reply after) here.1.2 close in
    let none : common_refusal m.geometry (appended s t) (Close node thread) ≡ None = here.0 in
    close_row (common_refusal m.geometry (appended s t) (Close node thread)) (has_unclosed node thread (appended s t)) (appended s t) reply after _ none unclosed step
