-- What a store does for a command is what the machine and the numbers do.
use Rattle.std.proofs.Common.{◌≡◌, ℕ, List, [], ◌∷◌, ◌++◌, Option, refl}
use Rattle.std.specs.Io.KnownBytes.{Appends}
use Rattle.lc_disk.specs.declared.area.Area.{Ghosts}
use Rattle.lc_model.specs.State.{Setting, State}
use Rattle.lc_model.specs.declared.event.Event.{Event}
use Rattle.lc_model.specs.declared.event.Event.TheVariants.{Reserve, Close, FlushStep, RecoverStep}
use Rattle.lc_model.specs.declared.reply.Reply.{Reply}
use Rattle.lc_model.specs.declared.reply.Reply.TheVariants.{Ok as Accepted, Reserved, Stepped}
use Rattle.lc_settled.specs.Numbers.{Numbers}
use Rattle.lc_core.specs.declared.world.World.{World}
use Rattle.lc_tool.specs.Answers.{Ends, Finishes, GoesOnWith, IsStepped}
use Rattle.lc_tool.specs.Fits.{Follows, FollowsAll, FollowsEnd, Performs}
use Rattle.lc_tool.specs.Session.{end_text}
use Rattle.lc_text.specs.Text.{reply_text}
use Rattle.lc_tool.specs.Verdict.{verdict_of}
use Rattle.lc_text.specs.declared.command.Command.TheVariants.{Step as Asks, End, Flush, Recover}
use Rattle.lc_tool.specs.declared.verdict.Verdict.{Verdict}
use Rattle.lc_tool.proofs.Again.{close_accepted, one_more}

-- a reply that is no reservation
abbrev pub IsOther : Reply → Type 0
IsOther reply = (place words : ℕ) → reply ≡ Reserved place words → ⊥

ends_here : (m : Setting) (s : State) (x : Numbers) (node thread : ℕ) (reply : Reply) → IsOther reply → Ends m s x node thread reply s x
ends_here m s x node thread (Reserved place words) other = absurd (other place words refl)
ends_here m s x node thread reply other = (refl, refl)

module _ {D : Type 0} (a : Ghosts D) (Fits : Setting → World D a → State → Numbers → Type 0) where
  -- one step
  pub step_performs : (old new : World D a) (event : Event) (reply : Reply) (held holds : Option (List ℕ)) (verdict : Verdict)
      → Follows a Fits old event reply new → verdict ≡ verdict_of reply → Appends held holds (reply_text reply) → Performs a Fits old (Asks event) held holds verdict new
  step_performs old new event reply held holds verdict follows is shown m s x fits =
      let led = follows m s x fits in
      (led.after, led.next, (reply_text reply, (reply, record { step = led.step; settled = led.settled; turns = led.turns }, (refl, is)), shown), led.fits)

  pub end_performs : (old new : World D a) (node thread : ℕ) (reply : Reply) (held holds : Option (List ℕ)) (verdict : Verdict)
      → FollowsEnd a Fits old node thread reply new → verdict ≡ verdict_of reply → Appends held holds (end_text reply) → Performs a Fits old (End node thread) held holds verdict new
  end_performs old new node thread reply held holds verdict follows is shown m s x fits =
      let led = follows m s x fits in
      (led.0, led.1, (end_text reply, (reply, led.2.0, led.2.1, led.2.2, led.2.3, refl, is), shown), led.3)

  pub flush_performs : (old new : World D a) (node : ℕ) (reply : Reply) (held holds : Option (List ℕ)) (verdict : Verdict)
      → FollowsAll a Fits old (FlushStep node) reply new → verdict ≡ verdict_of reply → Appends held holds (reply_text reply) → Performs a Fits old (Flush node) held holds verdict new
  flush_performs old new node reply held holds verdict follows is shown m s x fits =
      let led = follows m s x fits in
      (led.0, led.1, (reply_text reply, (reply, led.2, (refl, is)), shown), led.3)

  pub recover_performs : (old new : World D a) (reply : Reply) (held holds : Option (List ℕ)) (verdict : Verdict)
      → FollowsAll a Fits old RecoverStep reply new → verdict ≡ verdict_of reply → Appends held holds (reply_text reply) → Performs a Fits old Recover held holds verdict new
  recover_performs old new reply held holds verdict follows is shown m s x fits =
      let led = follows m s x fits in
      (led.0, led.1, (reply_text reply, (reply, led.2, (refl, is)), shown), led.3)

  -- a reservation that is not made ends there
  pub not_reserved : (old new : World D a) (node thread : ℕ) (reply : Reply) → Follows a Fits old (Reserve node thread) reply new → IsOther reply → FollowsEnd a Fits old node thread reply new
  not_reserved old new node thread reply follows other m s x fits =
      let led = follows m s x fits in
      (led.after, led.next, (led.after, led.next, record { step = led.step; settled = led.settled; turns = led.turns }, ends_here m led.after led.next node thread reply other), led.fits)

  -- one that is made is closed
  pub reserved_closed : (old mid new : World D a) (node thread place words : ℕ) → Follows a Fits old (Reserve node thread) (Reserved place words) mid
      → Follows a Fits mid (Close node thread) Accepted new → FollowsEnd a Fits old node thread (Reserved place words) new
  reserved_closed old mid new node thread place words reserves closes m s x fits =
      let led = reserves m s x fits in
      let end = closes m led.after led.next led.fits in (
        end.after,
        end.next,
        (
          led.after,
          led.next,
          record { step = led.step; settled = led.settled; turns = led.turns },
          record { step = end.step; settled = end.settled; turns = end.turns },
        ),
        end.fits,
      )

  -- and its close is not refused
  pub never_refused : (old mid new : World D a) (node thread place words : ℕ) (reply : Reply) → Follows a Fits old (Reserve node thread) (Reserved place words) mid
      → Follows a Fits mid (Close node thread) reply new → (reply ≡ Accepted → ⊥) → FollowsEnd a Fits old node thread reply new
  never_refused old mid new node thread place words reply reserves closes not m s x fits =
      let led = reserves m s x fits in
      let end = closes m led.after led.next led.fits in
      absurd (not (close_accepted m s node thread place words led.after reply end.after led.step end.step))

  -- Again and again

  -- the steps so far, each of which says that more are to come
  pub record ComesTo (old now : World D a) (event : Event) (m : Setting) (s : State) (x : Numbers) : Type 0 where
    pub steps : List ℕ
    pub after : State
    pub next : Numbers
    pub goes : GoesOnWith m s x event steps after next
    pub fits : Fits m now after next

  module _ (event : Event) (m : Setting) (s : State) (x : Numbers) where
    pub first_comes : (w : World D a) → Fits m w s x → ComesTo w w event m s x
    first_comes w fits = record { steps = []; after = s; next = x; goes = (refl, refl); fits = fits }

    pub more_comes : (old mid new : World D a) (steps : ℕ) → ComesTo old mid event m s x → Follows a Fits mid event (Stepped steps) new → ComesTo old new event m s x
    more_comes old mid new steps come follows =
        let led = follows m come.after come.next come.fits in
        record {
          steps = come.steps ++ steps ∷ [];
          after = led.after;
          next = led.next;
          goes = one_more m s x event come.steps come.after come.next steps led.after led.next come.goes (record { step = led.step; settled = led.settled; turns = led.turns });
          fits = led.fits;
        }

    pub comes_to_end : (old mid new : World D a) (reply : Reply) → ComesTo old mid event m s x → Follows a Fits mid event reply new → (IsStepped reply → ⊥)
        → (after : State) × (next : Numbers) × Finishes m s x event reply after next × Fits m new after next
    comes_to_end old mid new reply come follows over =
        let led = follows m come.after come.next come.fits in (
          led.after,
          led.next,
          record {
            steps = come.steps;
            mid = come.after;
            between = come.next;
            before = come.goes;
            last = record { step = led.step; settled = led.settled; turns = led.turns };
            over = over;
          },
          led.fits,
        )
