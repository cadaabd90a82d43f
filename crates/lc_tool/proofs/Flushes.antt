-- A flush of a store, by its one call, is one of the machine and the numbers; one that is down refuses it.
use Rattle.std.proofs.Common.{◌≡◌, ℕ, zero, suc, ◌+◌, ◌≤◌, [], ◌∷◌, refl, sym, subst, arith}
use Rattle.std.specs.Prelude.{MatchOption}
use Rattle.lc_disk.specs.declared.area.Area.{Ghosts}
use Rattle.lc_model.specs.State.{Setting, State}
use Rattle.lc_model.specs.declared.event.Event.TheVariants.{FlushStep}
use Rattle.lc_model.specs.declared.reply.Reply.{Reply}
use Rattle.lc_model.specs.declared.reply.Reply.TheVariants.{Stepped}
use Rattle.lc_settled.specs.Numbers.{Numbers}
use Rattle.lc_core.specs.Truncating.{ending}
use Rattle.lc_core.specs.Truncating as calls
use Rattle.lc_core.specs.World.{FitsWorld}
use Rattle.lc_core.specs.declared.world.World.{World}
use Rattle.lc_tool.specs.Answers.{Answers, Finishes, IsStepped}
use Rattle.lc_tool.specs.Fits.{FollowsAll, IsUpBeside, RefusesDown}
use Rattle.lc_tool.specs.Truncation.{Repeats}
use Rattle.lc_tool.proofs.Again.{flush_ends, flush_moves}
use Rattle.lc_tool.proofs.Truncations.{IsFollowed, flush_refused, repeats_led, up_followed, world_followed}

module _ (m : Setting) (node : ℕ) where
  -- after a first call: more of them, or it was the last
  finishes_behind : (left : ℕ) (s : State) (x : Numbers) (reply : Reply) (after : State) (next : Numbers) (first : Reply) (mid : State) (between : Numbers)
      → Answers m s x (FlushStep node) first mid between
      → ((mid.flush node).steps ≡ (s.flush node).steps + 1 → Repeats m left (FlushStep node) mid between reply after next → Finishes m mid between (FlushStep node) reply after next)
      → MatchOption (ending first) (Repeats m left (FlushStep node) mid between reply after next) (λ last. (reply ≡ last) × (after ≡ mid) × (next ≡ between))
      → Finishes m s x (FlushStep node) reply after next
  finishes_behind left s x reply after next (Stepped calls) mid between answers more rest =
      let later = more (flush_moves m s node calls mid answers.step).1 rest in
      record {
        steps = calls ∷ later.steps;
        mid = later.mid;
        between = later.between;
        before = (mid, between, answers, later.before);
        last = later.last;
        over = later.over;
      }
  finishes_behind left s x reply after next first mid between answers more rest = record {
    steps = [];
    mid = s;
    between = x;
    before = (refl, refl);
    last = rw (rest.0, rest.1, rest.2) answers;
    over = subst (λ (r : Reply). IsStepped r → ⊥) (sym rest.0) (λ bad. bad);
  }

  -- three calls that say that more are to come leave one
  flush_finishes : (left : ℕ) (s : State) (x : Numbers) (reply : Reply) (after : State) (next : Numbers) → 3 ≤ (s.flush node).steps + left
      → Repeats m left (FlushStep node) s x reply after next → Finishes m s x (FlushStep node) reply after next
  flush_finishes zero s x reply after next all to =
      record { steps = []; mid = s; between = x; before = (refl, refl); last = to; over = flush_ends m s node reply after (omega (arith, all)) to.step }
  flush_finishes (suc left) s x reply after next all to =
      finishes_behind left s x reply after next to.0 to.1 to.2 to.3 (λ moved more. flush_finishes left to.1 to.2 reply after next (omega (arith, all, moved)) more) to.4

module _ {D : Type 0} (a : Ghosts D) where
  module _ (old new : World D a) (node : ℕ) (reply : Reply) (to : calls.Repeats a 3 (FlushStep node) old reply new) where
    flushes_by : (Fits : Setting → World D a → State → Numbers → Type 0) → IsFollowed a Fits → FollowsAll a Fits old (FlushStep node) reply new
    flushes_by Fits followed m s x fits =
        let led = repeats_led a Fits followed m 3 (FlushStep node) old new reply to s x fits in
        (led.0, led.1, flush_finishes m node 3 s x reply led.0 led.1 (omega arith) led.2, led.3)

    pub flush_follows : FollowsAll a (FitsWorld a) old (FlushStep node) reply new
    flush_follows = flushes_by (FitsWorld a) (world_followed a)

    pub flush_anyhow : FollowsAll a (IsUpBeside a) old (FlushStep node) reply new
    flush_anyhow = flushes_by (IsUpBeside a) (up_followed a)

    -- the first call is refused
    pub flush_down : RefusesDown a old reply new
    flush_down = flush_refused a old new node reply to
