-- A truncation of a store is one of the machine and the numbers; one that is down refuses it.
use Rattle.std.proofs.Common.{◌≡◌, ℕ, zero, suc, ◌+◌, ◌<◌, ◌≤◌, Bool, true, false, List, Option, Some, None, inl, inr, refl, sym, ap, subst, ◌∙◌, arith, ltb-true}
use Rattle.std.specs.Prelude.{◌↔◌, MatchOption}
use Rattle.lc_disk.specs.declared.area.Area.{Ghosts}
use Rattle.lc_record.specs.declared.geometry.Geometry.{Geometry}
use Rattle.lc_model.specs.Refusals.{is_node}
use Rattle.lc_model.specs.State.{Setting, State, Up as IsUp, DownAt}
use Rattle.lc_model.specs.declared.event.Event.{Event}
use Rattle.lc_model.specs.declared.event.Event.TheVariants.{FlushStep, PageStep, ResetStep}
use Rattle.lc_model.specs.declared.refusal.Refusal.{Refusal}
use Rattle.lc_model.specs.declared.reply.Reply.{Reply}
use Rattle.lc_model.specs.declared.reply.Reply.TheVariants.{Refused}
use Rattle.lc_core.specs.Due.{is_blocked_then, is_due_then}
use Rattle.lc_core.specs.Lives.{FitsLife}
use Rattle.lc_settled.specs.Numbers.{Numbers}
use Rattle.lc_core.specs.Truncating as core
use Rattle.lc_core.specs.Truncating.{StepsTo, ending, sizes_of, stopping}
use Rattle.lc_events.specs.Truncating.{refusal_in}
use Rattle.lc_core.specs.World.{FitsPhase, FitsWorld}
use Rattle.lc_events.specs.declared.node_state.NodeState.{NodeState}
use Rattle.lc_core.specs.declared.world_phase.WorldPhase.{WorldPhase}
use Rattle.lc_core.specs.declared.world_phase.WorldPhase.TheVariants.{Down, Up, Taken}
use Rattle.lc_core.specs.declared.world.World.{World}
use Rattle.std.specs.Io.KnownBytes.{Appends}
use Rattle.lc_core.specs.Rounds.{ShowsRound, round_at, round_in}
use Rattle.lc_text.specs.declared.command.Command.TheVariants.{Truncate}
use Rattle.lc_tool.specs.Answers.{Answers}
use Rattle.lc_tool.specs.Fits.{Follows, IsUpBeside, Performs, RefusesDown}
use Rattle.lc_tool.specs.Session.{truncate_text}
use Rattle.lc_tool.specs.Tells.{TellsCommand}
use Rattle.lc_tool.specs.Verdict.{verdict_of}
use Rattle.lc_tool.specs.declared.verdict.Verdict.{Verdict}
use Rattle.lc_tool.specs.Truncation.{AsksFirst, CallsDue, CallsIf, Cleans, EachFrom, HasBlocked, Piece, Repeats, Round, Truncates, WritesPages, WritesSegment}
use Rattle.lc_core.proofs.DuePages.{due_same}
use Rattle.lc_tool.proofs.Beside.{Tells, down_tells, either_tells, refuses_down, up_follows}
use Rattle.lc_core.proofs.BlockedPages.{up_blocked}
use Rattle.lc_core.proofs.DuePages.{up_due}
use Rattle.lc_tool.proofs.Emptied.{flushed_there, truncated_node}
use Rattle.lc_tool.proofs.Fitting.{known_node}

-- What is used of `Fits`: a step of the store is one of the machine, the same pages are due, and the store is up where the state is.
pub record IsFollowed {D : Type 0} (a : Ghosts D) (Fits : Setting → World D a → State → Numbers → Type 0) : Type 0 where
  pub goes : (old new : World D a) (event : Event) (reply : Reply) → StepsTo a old event reply new → Follows a Fits old event reply new
  pub due : (w : World D a) (m : Setting) (s : State) (x : Numbers) → Fits m w s x → (node k page : ℕ) → k < m.geometry.segments → page < m.geometry.pages
      → core.is_due a w.phase node (k + 1) page ≡ is_due_then s x node (k + 1) page
  pub stands : (w : World D a) (m : Setting) (s : State) (x : Numbers) → Fits m w s x → s.phase ≡ IsUp → IsUpBeside a m w s x

module _ {D : Type 0} (a : Ghosts D) where
  world_due : (w : World D a) (m : Setting) (s : State) (x : Numbers) → IsUpBeside a m w s x → (node k page : ℕ) → k < m.geometry.segments → page < m.geometry.pages
      → core.is_due a w.phase node (k + 1) page ≡ is_due_then s x node (k + 1) page
  world_due w m s x beside node k page inside within =
      ap (λ (p : WorldPhase D a). core.is_due a p node (k + 1) page) beside.1 ∙ up_due a m s x beside.0 beside.2 node k page inside within

  stands_up : (w : World D a) (phase : WorldPhase D a) (m : Setting) (s : State) (x : Numbers) → w.phase ≡ phase → FitsPhase a m phase s x → s.phase ≡ IsUp → IsUpBeside a m w s x
  stands_up w (Up up) m s x is fits stands = (up, is, fits.0)
  stands_up w (Down r) m s x is fits stands = absurd (let both : IsUp ≡ DownAt fits.cut = sym stands ∙ fits.down in cc)
  stands_up w Taken m s x is fits stands = absurd fits

  pub world_followed : IsFollowed a (FitsWorld a)
  world_followed = record {
    goes = λ old new event reply to. to.follows;
    due = λ w m s x fits node k page inside within. due_same a m s x w.phase fits node k page inside within;
    stands = λ w m s x fits stands. stands_up w w.phase m s x refl fits stands;
  }

  pub up_followed : IsFollowed a (IsUpBeside a)
  up_followed = record {
    goes = λ old new event reply to. up_follows a old new event reply to.anyhow.goes;
    due = λ w m s x beside node k page inside within. world_due w m s x beside node k page inside within;
    stands = λ w m s x beside stands. beside;
  }

module _ {D : Type 0} (a : Ghosts D) (Fits : Setting → World D a → State → Numbers → Type 0) (followed : IsFollowed a Fits) (m : Setting) where
  -- from a state and numbers to some that the store then fits
  abbrev pub Led : (State → Numbers → Type 0) → World D a → Type 0
  Led To new = (after : State) × (next : Numbers) × To after next × Fits m new after next

  pub step_led : (old new : World D a) (event : Event) (reply : Reply) → StepsTo a old event reply new → (s : State) (x : Numbers) → Fits m old s x
      → Led (λ after next. Answers m s x event reply after next) new
  step_led old new event reply to s x fits =
      let led = followed.goes old new event reply to m s x fits in
      (led.after, led.next, record { step = led.step; settled = led.settled; turns = led.turns }, led.fits)

  -- after the first part: the rest of it, or that was all
  rest_led : {X : Type 0} (o : Option X) (Rest : World D a → Type 0) (To : State → Numbers → Type 0) (IsAll : X → Type 0) (mid new : World D a) (s : State) (x : Numbers) → Fits m mid s x
      → (Rest new → Led To new) → MatchOption o (Rest new) (λ all. IsAll all × (new ≡ mid))
      → Led (λ after next. MatchOption o (To after next) (λ all. IsAll all × (after ≡ s) × (next ≡ x))) new
  rest_led None Rest To IsAll mid new s x fits goes rest = goes rest
  rest_led (Some all) Rest To IsAll mid new s x fits goes rest = (s, x, (rest.0, refl, refl), subst (λ (w : World D a). Fits m w s x) (sym rest.1) fits)

  pub repeats_led : (left : ℕ) (event : Event) (old new : World D a) (reply : Reply) → core.Repeats a left event old reply new → (s : State) (x : Numbers) → Fits m old s x
      → Led (λ after next. Repeats m left event s x reply after next) new
  repeats_led zero event old new reply to s x fits = step_led old new event reply to s x fits
  repeats_led (suc left) event old new reply to s x fits =
      let first = step_led old to.1 event to.0 to.2 s x fits in
      let rest = rest_led (ending to.0) (λ w. core.Repeats a left event to.1 reply w) (Repeats m left event first.0 first.1 reply) (λ last. reply ≡ last) to.1 new first.0 first.1 first.3
      (λ more. repeats_led left event to.1 new reply more first.0 first.1 first.3) to.3 in
      (rest.0, rest.1, (to.0, first.0, first.1, first.2, rest.2), rest.3)

  -- a piece of work of the store is one of the machine and the numbers
  abbrev pub IsPiece : (World D a → Option Refusal → World D a → Type 0) → Piece → Type 0
  IsPiece Does As = (old new : World D a) (refused : Option Refusal) → Does old refused new → (s : State) (x : Numbers) → Fits m old s x
      → Led (λ after next. As s x refused after next) new

  each_led : (Does : ℕ → World D a → Option Refusal → World D a → Type 0) (As : ℕ → Piece) (most : ℕ) → ((k : ℕ) → k < most → IsPiece (Does k) (As k)) → (left k : ℕ) → k + left ≤ most
      → IsPiece (core.EachFrom a left k Does) (EachFrom m left k As)
  each_led Does As most one zero k few old new refused to s x fits = (s, x, (to.0, refl, refl), subst (λ (w : World D a). Fits m w s x) (sym to.1) fits)
  each_led Does As most one (suc left) k few old new refused to s x fits =
      let first = one k (omega (arith, few)) old to.1 to.0 to.2 s x fits in
      let rest = rest_led to.0 (λ w. core.EachFrom a left (k + 1) Does to.1 refused w) (EachFrom m left (k + 1) As first.0 first.1 refused) (λ refusal. refused ≡ Some refusal) to.1 new first.0 first.1 first.3
      (λ more. each_led Does As most one left (k + 1) (omega (arith, few)) to.1 new refused more first.0 first.1 first.3) to.3 in
      (rest.0, rest.1, (to.0, first.0, first.1, first.2, rest.2), rest.3)

  module _ (node : ℕ) where
    call_led : (b : Bool) (segment page : ℕ) → IsPiece (core.CallsIf a b node segment page) (CallsIf m b node segment page)
    call_led true segment page old new refused to s x fits =
        let led = step_led old new (PageStep node segment page) to.0 to.1 s x fits in
        (led.0, led.1, (to.0, led.2, to.2), led.3)
    call_led false segment page old new refused to s x fits = (s, x, (to.0, refl, refl), subst (λ (w : World D a). Fits m w s x) (sym to.1) fits)

    due_led : (k page : ℕ) → k < m.geometry.segments → page < m.geometry.pages → IsPiece (core.CallsDue a node (k + 1) page) (CallsDue m node (k + 1) page)
    due_led k page inside within old new refused to s x fits =
        let led = call_led (core.is_due a old.phase node (k + 1) page) (k + 1) page old new refused to s x fits in
        let same = followed.due old m s x fits node k page inside within in
        (led.0, led.1, subst (λ (b : Bool). CallsIf m b node (k + 1) page s x refused led.0 led.1) same led.2, led.3)

    segment_led : (k : ℕ) → k < m.geometry.segments → IsPiece (core.WritesSegment a node (k + 1) m.geometry.pages) (WritesSegment m node (k + 1))
    segment_led k inside =
        each_led (λ round. core.Round a node (k + 1) m.geometry.pages) (λ round. Round m node (k + 1)) 13
        (λ round few. each_led (core.CallsDue a node (k + 1)) (CallsDue m node (k + 1)) m.geometry.pages (λ page within. due_led k page inside within) m.geometry.pages 0 (omega arith)) 13 0 (omega arith)

    pages_led : IsPiece (core.WritesPages a node (m.geometry.segments, m.geometry.pages)) (WritesPages m node)
    pages_led = each_led (λ place. core.WritesSegment a node (place + 1) m.geometry.pages) (λ place. WritesSegment m node (place + 1)) m.geometry.segments (λ k inside. segment_led k inside) m.geometry.segments 0 (omega arith)

    -- a store that is up has the sizes of the setting
    sizes_are : (w : World D a) (s : State) (x : Numbers) → Fits m w s x → s.phase ≡ IsUp → sizes_of a w.phase ≡ (m.geometry.segments, m.geometry.pages)
    sizes_are w s x fits stands =
        let beside = followed.stands w m s x fits stands in
        ap (λ (p : WorldPhase D a). sizes_of a p) beside.1 ∙ ap (λ (g : Geometry). (g.segments, g.pages)) (sym beside.2.running.geometry_is)

    cleans_led : (old new : World D a) (reply : Reply) → core.Cleans a node old reply new → (s : State) (x : Numbers) → Fits m old s x → s.phase ≡ IsUp
        → Led (λ after next. Cleans m node s x reply after next) new
    cleans_led old new reply to s x fits stands =
        let written = subst (λ (sizes : ℕ × ℕ). core.WritesPages a node sizes old to.0 to.1) (sizes_are old s x fits stands) to.2 in
        let first = pages_led old to.1 to.0 written s x fits in
        let rest = rest_led to.0 (λ w. core.Repeats a 3 (ResetStep node) to.1 reply w) (Repeats m 3 (ResetStep node) first.0 first.1 reply) (λ refusal. reply ≡ Refused refusal) to.1 new first.0 first.1 first.3
        (λ resets. repeats_led 3 (ResetStep node) to.1 new reply resets first.0 first.1 first.3) to.3 in
        (rest.0, rest.1, (to.0, first.0, first.1, first.2, rest.2), rest.3)

    -- a page is blocked at a node that is not halted where it is by the state and the numbers
    blocked_there : (w : World D a) (s : State) (x : Numbers) → Fits m w s x → s.phase ≡ IsUp → s.halted node ≡ false → (k page : ℕ) → k < m.geometry.segments → page < m.geometry.pages
        → core.IsBlocked a w.phase node (k + 1) page ↔ (is_blocked_then s x node (k + 1) page ≡ true)
    blocked_there w s x fits stands awake k page inside within =
        let beside = followed.stands w m s x fits stands in
        subst (λ (p : WorldPhase D a). core.IsBlocked a p node (k + 1) page ↔ (is_blocked_then s x node (k + 1) page ≡ true)) (sym beside.1) (up_blocked a m s x beside.0 beside.2 node k page inside within awake)

    blocked_to : (old : World D a) (s : State) (x : Numbers) → Fits m old s x → s.phase ≡ IsUp → s.halted node ≡ false → core.HasBlocked a old.phase node (sizes_of a old.phase) → HasBlocked m node s x
    blocked_to old s x fits stands awake has =
        let its = subst (λ (sizes : ℕ × ℕ). core.HasBlocked a old.phase node sizes) (sizes_are old s x fits stands) has in
        record {
          place = its.place;
          inside = its.inside;
          page = its.blocked.page;
          within = its.blocked.within;
          blocked = (blocked_there old s x fits stands awake its.place its.blocked.page its.inside its.blocked.within).0 its.blocked.blocked;
        }

    blocked_from : (old : World D a) (s : State) (x : Numbers) → Fits m old s x → s.phase ≡ IsUp → s.halted node ≡ false → HasBlocked m node s x → core.HasBlocked a old.phase node (sizes_of a old.phase)
    blocked_from old s x fits stands awake has =
        subst (λ (sizes : ℕ × ℕ). core.HasBlocked a old.phase node sizes) (sym (sizes_are old s x fits stands)) (record {
          place = has.place;
          inside = has.inside;
          blocked = record {
            page = has.page;
            within = has.within;
            blocked = (blocked_there old s x fits stands awake has.place has.page has.inside has.within).1 has.blocked;
          };
        })

    asks_led : (old new : World D a) (reply : Reply) → core.AsksFirst a node old reply new → (s : State) (x : Numbers) → Fits m old s x → s.phase ≡ IsUp → s.halted node ≡ false
        → Led (λ after next. AsksFirst m node s x reply after next) new
    asks_led old new reply (inl refuses) s x fits stands awake =
        (s, x, inl (blocked_to old s x fits stands awake refuses.0, refuses.1, refl, refl), subst (λ (w : World D a). Fits m w s x) (sym refuses.2) fits)
    asks_led old new reply (inr goes) s x fits stands awake =
        let led = cleans_led old new reply goes.1 s x fits stands in
        (led.0, led.1, inr ((λ has. goes.0 (blocked_from old s x fits stands awake has)), led.2), led.3)

    pub truncates_led : (old new : World D a) (reply : Reply) → core.Truncates a node old reply new → (s : State) (x : Numbers) → Fits m old s x
        → Led (λ after next. Truncates m node s x reply after next) new
    truncates_led old new reply to s x fits =
        let first = repeats_led 3 (FlushStep node) old to.1 to.0 to.2 s x fits in
        let tail = elim (stopping to.0) as (λ (o : Option Reply). stopping to.0 ≡ o → MatchOption o (core.AsksFirst a node to.1 reply new) (λ last. (reply ≡ last) × (new ≡ to.1))
        → Led (λ after next. MatchOption o (AsksFirst m node first.0 first.1 reply after next) (λ last. (reply ≡ last) × (after ≡ first.0) × (next ≡ first.1))) new) [
          | None ↦ λ goes asks.
              let there = flushed_there m node s x to.0 first.0 first.1 first.2 goes in
              asks_led to.1 new reply asks first.0 first.1 first.3 there.up there.awake
          | Some last ↦ λ stops ends. (first.0, first.1, (ends.0, refl, refl), subst (λ (w : World D a). Fits m w first.0 first.1) (sym ends.1) first.3)
        ] refl to.3 in
        (tail.0, tail.1, (to.0, first.0, first.1, first.2, tail.2), tail.3)

-- the round counts only where nothing is refused
round_told : (reply : Reply) (round other : ℕ) → (((refusal : Refusal) → reply ≡ Refused refusal → ⊥) → round ≡ other) → truncate_text round reply ≡ truncate_text other reply
round_told (Refused refusal) round other same = refl
round_told reply round other same = ap (λ (r : ℕ). truncate_text r reply) (same (λ refusal is. absurd cc))

module _ {D : Type 0} (a : Ghosts D) where
  performs_by : (Fits : Setting → World D a → State → Numbers → Type 0) → IsFollowed a Fits → (old new : World D a) (node : ℕ) (reply : Reply) (round : ℕ) (held holds : Option (List ℕ)) (verdict : Verdict)
      → core.Truncates a node old reply new
      → ((m : Setting) (s : State) (x : Numbers) → Fits m new s x → s.phase ≡ IsUp → is_node m.geometry node ≡ true → round ≡ x.round node)
      → verdict ≡ verdict_of reply → Appends held holds (truncate_text round reply) → Performs a Fits old (Truncate node) held holds verdict new
  performs_by Fits followed old new node reply round held holds verdict to shows is shown m s x fits =
      let led = truncates_led a Fits followed m node old new reply to s x fits in
      let text : truncate_text round reply ≡ truncate_text (led.1.round node) reply =
      round_told reply round (led.1.round node) (λ plain.
      let there = truncated_node m node s x reply led.0 led.1 led.2 plain in
      shows m led.0 led.1 led.3 there.up there.known) in
      (led.0, led.1, (truncate_text round reply, (reply, led.2, text, is), shown), led.3)

  -- the round of a store that is up
  up_round : (w : World D a) (node round : ℕ) → round ≡ round_in a w.phase node → (m : Setting) (s : State) (x : Numbers) → IsUpBeside a m w s x → is_node m.geometry node ≡ true → round ≡ x.round node
  up_round w node round stands m s x beside known =
      let its = known_node a beside.0 m s x node beside.2.running (ltb-true node m.geometry.nodes known) in
      stands ∙ ap (λ (p : WorldPhase D a). round_in a p node) beside.1 ∙ ap (λ (o : Option (NodeState D a)). round_at a o) its.1 ∙ its.2.round

  -- One that is down

  -- the first call is refused
  pub flush_refused : (old new : World D a) (node : ℕ) (reply : Reply) → core.Repeats a 3 (FlushStep node) old reply new → RefusesDown a old reply new
  flush_refused old new node reply to g fits =
      let its = refuses_down a old to.1 (FlushStep node) to.0 refl to.2.at_once g fits in
      let ends = subst (λ (r : Reply). MatchOption (ending r) (core.Repeats a 2 (FlushStep node) to.1 reply new) (λ last. (reply ≡ last) × (new ≡ to.1))) its.0 to.3 in
      (ends.0, subst (λ (w : World D a). FitsLife a g None w.phase) (sym ends.1) its.1)

  pub truncation_refused : (old new : World D a) (node : ℕ) (reply : Reply) → core.Truncates a node old reply new → RefusesDown a old reply new
  truncation_refused old new node reply to g fits =
      let its = flush_refused old to.1 node to.0 to.2 g fits in
      let ends = subst (λ (r : Reply). MatchOption (stopping r) (core.AsksFirst a node to.1 reply new) (λ last. (reply ≡ last) × (new ≡ to.1))) its.0 to.3 in
      (ends.0, subst (λ (w : World D a). FitsLife a g None w.phase) (sym ends.1) its.1)

  -- Both

  module _ (old new : World D a) (node : ℕ) (reply : Reply) (round : ℕ) (held holds : Option (List ℕ)) (verdict : Verdict) (to : core.Truncates a node old reply new)
      (is : verdict ≡ verdict_of reply) (shown : Appends held holds (truncate_text round reply)) where
    pub performs_truncation : ShowsRound a new node round → Performs a (FitsWorld a) old (Truncate node) held holds verdict new
    performs_truncation shows = performs_by (FitsWorld a) (world_followed a) old new node reply round held holds verdict to shows is shown

    pub truncation_tells : round ≡ round_in a new.phase node → Tells a old new held holds verdict (λ g at text end after. TellsCommand g at (Truncate node) text end after)
    truncation_tells stands =
        either_tells a old new held holds verdict (Truncate node)
        (performs_by (IsUpBeside a) (up_followed a) old new node reply round held holds verdict to (λ m s x beside up known. up_round new node round stands m s x beside known) is shown)
        (down_tells a old new held holds verdict reply (truncate_text round) refl (truncation_refused old new node reply to) is shown)
