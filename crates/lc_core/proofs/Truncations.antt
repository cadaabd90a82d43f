-- Of the store: pieces of work that follow one another, up to the first refusal.
use Rattle.std.specs.Prelude.{Option, Some, None, MatchOption, ◌⊎◌, ◌*◌}
use Rattle.std.proofs.Common.{◌≡◌, ◌<◌, ◌≤◌, ◌+◌, ◌-◌, ℕ, zero, suc, true, false, refl, sym, ap, subst, arith, inl, inr, ◌∙◌}
use Rattle.lc_disk.specs.declared.area.Area.{Ghosts}
use Rattle.lc_model.specs.declared.event.Event.{Event}
use Rattle.lc_model.specs.declared.event.Event.TheVariants.{FlushStep, PageStep}
use Rattle.lc_model.specs.declared.refusal.Refusal.{Refusal}
use Rattle.lc_model.specs.declared.reply.Reply.{Reply}
use Rattle.lc_model.specs.declared.reply.Reply.TheVariants.{Ok as IsDone, Bytes, Reserved, Ended, Stepped, Acked, Nothing, Applied, HeldBack, Ignored, Trimmed, Written, Reset, Down as IsDown, Recovered, Refused}
use Rattle.lc_core.specs.Truncating.{AsksFirst, ending, CallsDue, CallsIf, EachFrom, Repeats, Round, StepsTo, WritesSegment, is_due, stopping}
use Rattle.lc_events.specs.Truncating.{refusal_in}
use Rattle.lc_core.specs.Truncation.{IsNext, IsOn, Leads, Then, ThenCleans, ThenResets, WritesAt, WritesFrom, WritesIf}
use Rattle.lc_record.proofs.ListLemmas.{sub_suc as one_more, sub_none as none_more}
use Rattle.lc_core.specs.declared.page_cursor.PageCursor.{PageCursor}
use Rattle.lc_core.specs.declared.truncation_step.TruncationStep.{TruncationStep}
use Rattle.lc_core.specs.declared.truncation_step.TruncationStep.TheVariants.{Continues, Ends}
use Rattle.lc_core.specs.declared.world.World.{World}

-- How much is left

all_left : (n : ℕ) → n - 0 ≡ n
all_left n = omega arith

-- What a reply says of what comes after it

pub not_stepped : (reply : Reply) → ((calls : ℕ) → reply ≡ Stepped calls → ⊥) → ending reply ≡ Some reply
not_stepped (Stepped calls) not = absurd (not calls refl)
not_stepped IsDone not = refl
not_stepped (Bytes bytes) not = refl
not_stepped (Reserved place words) not = refl
not_stepped Ended not = refl
not_stepped (Acked count) not = refl
not_stepped Nothing not = refl
not_stepped (Applied number) not = refl
not_stepped HeldBack not = refl
not_stepped Ignored not = refl
not_stepped (Trimmed count) not = refl
not_stepped (Written number) not = refl
not_stepped Reset not = refl
not_stepped IsDown not = refl
not_stepped Recovered not = refl
not_stepped (Refused refusal) not = refl

pub not_stopping : (reply : Reply) → ((count : ℕ) → reply ≡ Acked count → ⊥) → (reply ≡ Nothing → ⊥) → stopping reply ≡ Some reply
not_stopping (Acked count) acked nothing = absurd (acked count refl)
not_stopping Nothing acked nothing = absurd (nothing refl)
not_stopping IsDone acked nothing = refl
not_stopping (Bytes bytes) acked nothing = refl
not_stopping (Reserved place words) acked nothing = refl
not_stopping Ended acked nothing = refl
not_stopping (Stepped calls) acked nothing = refl
not_stopping (Applied number) acked nothing = refl
not_stopping HeldBack acked nothing = refl
not_stopping Ignored acked nothing = refl
not_stopping (Trimmed count) acked nothing = refl
not_stopping (Written number) acked nothing = refl
not_stopping Reset acked nothing = refl
not_stopping IsDown acked nothing = refl
not_stopping Recovered acked nothing = refl
not_stopping (Refused refusal) acked nothing = refl

-- A row of calls

module _ {D : Type 0} (a : Ghosts D) where
  pub goes_on : (n k : ℕ) (event : Event) (w mid : World D a) (first : Reply) → k < n → ending first ≡ None → StepsTo a w event first mid
      → (reply : Reply) (new : World D a) → Repeats a (n - (k + 1)) event mid reply new → Repeats a (n - k) event w reply new
  goes_on n k event w mid first lt more step reply new rest =
      subst (λ left. Repeats a left event w reply new) (one_more n k lt)
      (first, mid, step, subst (λ o. MatchOption o (Repeats a (n - (k + 1)) event mid reply new) (λ last. (reply ≡ last) × (new ≡ mid))) (sym more) rest)

  pub ends_here : (n k : ℕ) (event : Event) (w new : World D a) (reply : Reply) → k < n → ending reply ≡ Some reply → StepsTo a w event reply new → Repeats a (n - k) event w reply new
  ends_here n k event w new reply lt ends step =
      subst (λ left. Repeats a left event w reply new) (one_more n k lt)
      (reply, new, step, subst (λ o. MatchOption o (Repeats a (n - (k + 1)) event new reply new) (λ last. (reply ≡ last) × (new ≡ new))) (sym ends) (refl, refl))

  pub last_call : (n k : ℕ) (event : Event) (w new : World D a) (reply : Reply) → n ≤ k → StepsTo a w event reply new → Repeats a (n - k) event w reply new
  last_call n k event w new reply past step = subst (λ left. Repeats a left event w reply new) (none_more n k past) step

  -- One page

  pub called : (node segment page : ℕ) (w new : World D a) (reply : Reply) → is_due a w.phase node segment page ≡ true → StepsTo a w (PageStep node segment page) reply new
      → CallsDue a node segment page w (refusal_in reply) new
  called node segment page w new reply due step = subst (λ b. CallsIf a b node segment page w (refusal_in reply) new) (sym due) (reply, step, refl)

  pub not_called : (node segment page : ℕ) (w : World D a) → is_due a w.phase node segment page ≡ false → CallsDue a node segment page w None w
  not_called node segment page w not = subst (λ b. CallsIf a b node segment page w None w) (sym not) (refl, refl)

-- Pieces of work

module _ {D : Type 0} (a : Ghosts D) (Does : ℕ → World D a → Option Refusal → World D a → Type 0) where
  -- after all of it
  pub none_left : (n k : ℕ) (w : World D a) → n ≤ k → EachFrom a (n - k) k Does w None w
  none_left n k w past = subst (λ left. EachFrom a left k Does w None w) (none_more n k past) (refl, refl)

  -- one piece goes on, and then the rest
  pub one_goes_on : (n k : ℕ) (w mid : World D a) → k < n → Does k w None mid
      → (refused : Option Refusal) (new : World D a) → EachFrom a (n - (k + 1)) (k + 1) Does mid refused new → EachFrom a (n - k) k Does w refused new
  one_goes_on n k w mid lt does refused new rest =
      subst (λ left. EachFrom a left k Does w refused new) (one_more n k lt) (None, mid, does, rest)

  -- one piece is refused
  pub one_refuses : (n k : ℕ) (w new : World D a) (refusal : Refusal) → k < n → Does k w (Some refusal) new → EachFrom a (n - k) k Does w (Some refusal) new
  one_refuses n k w new refusal lt does =
      subst (λ left. EachFrom a left k Does w (Some refusal) new) (one_more n k lt) (Some refusal, new, does, (refl, refl))

  -- where each piece does nothing, all of them do nothing
  pub none_does : (left k : ℕ) (w : World D a) → ((j : ℕ) → Does j w None w) → EachFrom a left k Does w None w
  none_does zero k w none = (refl, refl)
  none_does (suc left) k w none = (None, w, none k, none_does left (k + 1) w none)

  -- from the first on
  pub from_first : (n : ℕ) (w new : World D a) (refused : Option Refusal) → EachFrom a (n - 0) 0 Does w refused new → EachFrom a n 0 Does w refused new
  from_first n w new refused rest = subst (λ left. EachFrom a left 0 Does w refused new) (all_left n) rest

-- One thing and then the other

module _ {D : Type 0} (a : Ghosts D) where
  -- the first may be another that leads to the same
  pub then_first : (One Same Other : World D a → Option Refusal → World D a → Type 0) (w v : World D a)
      → ((refused : Option Refusal) (new : World D a) → One w refused new → Same v refused new)
      → (refused : Option Refusal) (new : World D a) → Then a One Other w refused new → Then a Same Other v refused new
  then_first One Same Other w v leads refused new (first, mid, one, rest) = (first, mid, leads first mid one, rest)

  module _ (Does : ℕ → World D a → Option Refusal → World D a → Type 0) (n k : ℕ) (lt : k < n) (w : World D a) where
    -- a piece of work and those that follow it are the work from it on
    pub gathered : (Other : World D a → Option Refusal → World D a → Type 0) (refused : Option Refusal) (new : World D a)
        → Then a (Does k) (Then a (EachFrom a (n - (k + 1)) (k + 1) Does) Other) w refused new → Then a (EachFrom a (n - k) k Does) Other w refused new
    gathered Other refused new (None, mid, does, (first, last, rest, end)) = (first, last, one_goes_on a Does n k w mid lt does first last rest, end)
    gathered Other refused new (Some refusal, mid, does, ends) = (Some refusal, mid, one_refuses a Does n k w mid refusal lt does, ends)

    pub begun : (refused : Option Refusal) (new : World D a) → Then a (Does k) (EachFrom a (n - (k + 1)) (k + 1) Does) w refused new → EachFrom a (n - k) k Does w refused new
    begun refused new (None, mid, does, rest) = one_goes_on a Does n k w mid lt does refused new rest
    begun refused new (Some refusal, mid, does, (is, same)) =
        subst (λ v. EachFrom a (n - k) k Does w refused v) (sym same) (subst (λ r. EachFrom a (n - k) k Does w r mid) (sym is) (one_refuses a Does n k w mid refusal lt does))

  module _ (node segments pages place round page : ℕ) (w mid : World D a) (reply : Reply) (within : page < pages) (due : is_due a w.phase node (place + 1) page ≡ true)
      (step : StepsTo a w (PageStep node (place + 1) page) reply mid) where
    -- a page that is due makes its call, and the rest is written from the next one on
    pub one_written : refusal_in reply ≡ None → (refused : Option Refusal) (new : World D a)
        → WritesFrom a node segments pages place round (page + 1) mid refused new → WritesFrom a node segments pages place round page w refused new
    one_written not refused new (first, last, rest, end) = (
      first,
      last,
      one_goes_on a (CallsDue a node (place + 1)) pages page w mid within
          (subst (λ o. CallsDue a node (place + 1) page w o mid) not (called a node (place + 1) page w mid reply due step)) first last rest,
      end,
    )

    -- or is refused
    pub one_refused : (refusal : Refusal) → refusal_in reply ≡ Some refusal → WritesFrom a node segments pages place round page w (Some refusal) mid
    one_refused refusal is = (
      Some refusal,
      mid,
      one_refuses a (CallsDue a node (place + 1)) pages page w mid refusal within
          (subst (λ o. CallsDue a node (place + 1) page w o mid) is (called a node (place + 1) page w mid reply due step)),
      (refl, refl),
    )

  -- where no page of a segment is due, no round of it does anything
  pub quiet : (node segment pages : ℕ) (w : World D a) → EachFrom a (pages - 0) 0 (CallsDue a node segment) w None w → WritesSegment a node segment pages w None w
  quiet node segment pages w none = none_does a (λ round. Round a node segment pages) 13 0 w (λ j. from_first a (CallsDue a node segment) pages w w None none)

  -- the work from a page of the first round on is that of its segment and of those that follow it
  pub from_segment : (node segments pages place page : ℕ) (w : World D a) → place < segments
      → ((refused : Option Refusal) (new : World D a) → EachFrom a (pages - page) page (CallsDue a node (place + 1)) w refused new → EachFrom a (pages - 0) 0 (CallsDue a node (place + 1)) w refused new)
      → (refused : Option Refusal) (new : World D a) → WritesFrom a node segments pages place 0 page w refused new
      → EachFrom a (segments - place) place (λ its. WritesSegment a node (its + 1) pages) w refused new
  from_segment node segments pages place page w inside leads refused new writes =
      begun (λ its. WritesSegment a node (its + 1) pages) segments place inside w refused new
      (then_first (EachFrom a (13 - 0) 0 (λ its. Round a node (place + 1) pages)) (WritesSegment a node (place + 1) pages) Segments w w
      (λ r v. from_first a (λ its. Round a node (place + 1) pages) 13 w v r) refused new
      (gathered (λ its. Round a node (place + 1) pages) 13 0 (omega arith) w Segments refused new
      (then_first (EachFrom a (pages - page) page (CallsDue a node (place + 1))) (Round a node (place + 1) pages) (Then a (EachFrom a (13 - (0 + 1)) (0 + 1) (λ its. Round a node (place + 1) pages)) Segments) w w
      (λ r v each. from_first a (CallsDue a node (place + 1)) pages w v r (leads r v each)) refused new writes)))
    where
      Segments : World D a → Option Refusal → World D a → Type 0
      Segments = EachFrom a (segments - (place + 1)) (place + 1) (λ its. WritesSegment a node (its + 1) pages)

  -- the work from a page of the next round on is that of this round, which has no page that is due any more
  pub from_round : (node segments pages place round page next : ℕ) (w : World D a) → round + 1 < 13
      → EachFrom a (pages - page) page (CallsDue a node (place + 1)) w None w
      → ((refused : Option Refusal) (new : World D a) → EachFrom a (pages - next) next (CallsDue a node (place + 1)) w refused new → EachFrom a (pages - 0) 0 (CallsDue a node (place + 1)) w refused new)
      → (refused : Option Refusal) (new : World D a) → WritesFrom a node segments pages place (round + 1) next w refused new → WritesFrom a node segments pages place round page w refused new
  from_round node segments pages place round page next w lt none leads refused new writes = (
    None,
    w,
    none,
    gathered (λ its. Round a node (place + 1) pages) 13 (round + 1) lt w Segments refused new
        (then_first (EachFrom a (pages - next) next (CallsDue a node (place + 1))) (Round a node (place + 1) pages) (Then a (EachFrom a (13 - (round + 1 + 1)) (round + 1 + 1) (λ its. Round a node (place + 1) pages)) Segments) w w
        (λ r v each. from_first a (CallsDue a node (place + 1)) pages w v r (leads r v each)) refused new writes),
  )
    where
      Segments : World D a → Option Refusal → World D a → Type 0
      Segments = EachFrom a (segments - (place + 1)) (place + 1) (λ its. WritesSegment a node (its + 1) pages)

  -- the further segments, where the rounds of this one are over, or no page of it is due
  pub past_segment : (node segments pages place round page : ℕ) (w : World D a)
      → EachFrom a (pages - page) page (CallsDue a node (place + 1)) w None w
      → (13 ≤ round + 1) ⊎ EachFrom a (pages - 0) 0 (CallsDue a node (place + 1)) w None w
      → (refused : Option Refusal) (new : World D a) → EachFrom a (segments - (place + 1)) (place + 1) (λ its. WritesSegment a node (its + 1) pages) w refused new
      → WritesFrom a node segments pages place round page w refused new
  past_segment node segments pages place round page w none over refused new rest = (None, w, none, (None, w, rounds over, rest))
    where
      rounds : (13 ≤ round + 1) ⊎ EachFrom a (pages - 0) 0 (CallsDue a node (place + 1)) w None w → EachFrom a (13 - (round + 1)) (round + 1) (λ its. Round a node (place + 1) pages) w None w
      rounds (inl past) = none_left a (λ its. Round a node (place + 1) pages) 13 (round + 1) w past
      rounds (inr quiet) = none_does a (λ its. Round a node (place + 1) pages) (13 - (round + 1)) (round + 1) w (λ j. from_first a (CallsDue a node (place + 1)) pages w w None quiet)

  -- a later page that is due, where those up to it are not
  pub from_page : (node segments pages place round page next : ℕ) (w : World D a)
      → ((refused : Option Refusal) (new : World D a) → EachFrom a (pages - next) next (CallsDue a node (place + 1)) w refused new → EachFrom a (pages - page) page (CallsDue a node (place + 1)) w refused new)
      → (refused : Option Refusal) (new : World D a) → WritesFrom a node segments pages place round next w refused new → WritesFrom a node segments pages place round page w refused new
  from_page node segments pages place round page next w leads refused new (first, mid, each, rest) = (first, mid, leads first mid each, rest)

  -- Cursors

  -- what is written from a cursor on
  pub writes_on : (node round page : ℕ) (old new : PageCursor) → IsOn old round page new → WritesAt a node new ≡ WritesFrom a node old.segments old.pages old.place round page
  writes_on node round page old new on =
      ap (λ n. WritesFrom a node n new.pages new.place new.round new.page) on.segments
      ∙ ap (λ n. WritesFrom a node old.segments n new.place new.round new.page) on.pages
      ∙ ap (λ n. WritesFrom a node old.segments old.pages n new.round new.page) on.place
      ∙ ap (λ n. WritesFrom a node old.segments old.pages old.place n new.page) on.round_is
      ∙ ap (λ n. WritesFrom a node old.segments old.pages old.place round n) on.page_is

  pub next_on : (node : ℕ) (Pages : World D a → Option Refusal → World D a → Type 0) (left : ℕ) (w : World D a) (old new : PageCursor) (round page : ℕ) → IsOn old round page new
      → page < old.pages → is_due a w.phase node (old.place + 1) page ≡ true → (old.segments - old.place) * 32768 + (13 - round) * 2048 + (old.pages - page) ≤ left
      → ((refused : Option Refusal) (v : World D a) → WritesFrom a node old.segments old.pages old.place round page w refused v → Pages w refused v)
      → IsNext a node Pages left w (Some new)
  next_on node Pages left w old new round page on within due few leads = (
    record {
      within = omega (arith, on.page_is, on.pages, within);
      due = subst (λ p. is_due a w.phase node (p + 1) new.page ≡ true) (sym on.place) (subst (λ p. is_due a w.phase node (old.place + 1) p ≡ true) (sym on.page_is) due);
    },
    omega (arith, on.segments, on.pages, on.place, on.round_is, on.page_is, few),
    λ refused v writes. leads refused v (subst (λ (P : World D a → Option Refusal → World D a → Type 0). P w refused v) (writes_on node round page old new on) writes),
  )

  -- more may be written, and more may be left
  pub next_more : (node : ℕ) (Pages More : World D a → Option Refusal → World D a → Type 0) (left bound : ℕ) (w : World D a) (next : Option PageCursor) → left ≤ bound
      → ((refused : Option Refusal) (v : World D a) → Pages w refused v → More w refused v) → IsNext a node Pages left w next → IsNext a node More bound w next
  next_more node Pages More left bound w None few leads is = leads None w is
  next_more node Pages More left bound w (Some cursor) few leads (at, left_few, begins) = (at, omega (arith, few, left_few), λ refused v writes. leads refused v (begins refused v writes))

  -- what is written from the next page on is all that is written
  pub if_next : (node : ℕ) (Pages : World D a → Option Refusal → World D a → Type 0) (left : ℕ) (w : World D a) (next : Option PageCursor) → IsNext a node Pages left w next
      → (refused : Option Refusal) (v : World D a) → WritesIf a node next w refused v → Pages w refused v
  if_next node Pages left w None is refused v (none, same) = subst (λ r. Pages w r v) (sym none) (subst (λ n. Pages w None n) (sym same) is)
  if_next node Pages left w (Some cursor) is refused v writes = is.2 refused v writes

  -- Steps

  -- what remained may be more
  pub leads_more : (Remained More : World D a → Reply → World D a → Type 0) (old mid : World D a) (step : TruncationStep)
      → ((reply : Reply) (new : World D a) → Remained old reply new → More old reply new) → Leads a Remained old step mid → Leads a More old step mid
  leads_more Remained More old mid (Continues next) more leads = λ reply new rest. more reply new (leads reply new rest)
  leads_more Remained More old mid (Ends reply) more leads = more reply mid leads

  -- a call goes on, with more to follow
  pub more_calls : (more : ℕ) (event : Event) (w mid : World D a) (first : Reply) → 0 < more → ending first ≡ None → StepsTo a w event first mid
      → (reply : Reply) (new : World D a) → Repeats a (more - 1) event mid reply new → Repeats a more event w reply new
  more_calls more event w mid first some goes step reply new rest =
      subst (λ left. Repeats a left event w reply new) (all_left more) (goes_on a more 0 event w mid first some goes step reply new rest)

  -- or is the last
  pub last_of : (more : ℕ) (event : Event) (w new : World D a) (reply : Reply) → ((calls : ℕ) → reply ≡ Stepped calls → more ≡ 0) → StepsTo a w event reply new → Repeats a more event w reply new
  last_of zero event w new reply ends step = step
  last_of (suc left) event w new reply ends step =
      (reply, new, step, subst (λ o. MatchOption o (Repeats a left event new reply new) (λ last. (reply ≡ last) × (new ≡ new))) (sym (not_stepped reply (λ calls is. absurd (omega (arith, ends calls is))))) (refl, refl))

  -- after the flush the pages are asked
  pub flush_over : (more node : ℕ) (w mid : World D a) (first : Reply) → stopping first ≡ None → Repeats a more (FlushStep node) w first mid
      → (reply : Reply) (new : World D a) → AsksFirst a node mid reply new → ThenCleans a more node w reply new
  flush_over more node w mid first goes flushed reply new asks =
      (first, mid, flushed, subst (λ o. MatchOption o (AsksFirst a node mid reply new) (λ last. (reply ≡ last) × (new ≡ mid))) (sym goes) asks)

  -- or it is the end
  pub flush_ends : (more node : ℕ) (w mid : World D a) (reply : Reply) → stopping reply ≡ Some reply → Repeats a more (FlushStep node) w reply mid → ThenCleans a more node w reply mid
  flush_ends more node w mid reply ends flushed =
      (reply, mid, flushed, subst (λ o. MatchOption o (AsksFirst a node mid reply mid) (λ last. (reply ≡ last) × (mid ≡ mid))) (sym ends) (refl, refl))

  -- a call of the flush goes on
  pub flush_on_first : (more node : ℕ) (w mid : World D a) (first : Reply) → 0 < more → ending first ≡ None → StepsTo a w (FlushStep node) first mid
      → (reply : Reply) (new : World D a) → ThenCleans a (more - 1) node mid reply new → ThenCleans a more node w reply new
  flush_on_first more node w mid first some goes step reply new (last, flushed, rest, asks) = (last, flushed, more_calls more (FlushStep node) w mid first some goes step last flushed rest, asks)

  -- a page is written, and then what remains from past it
  pub written_on : (node : ℕ) (at past : PageCursor) (w mid : World D a) (first : Reply) → IsOn at at.round (at.page + 1) past → at.page < at.pages
      → is_due a w.phase node (at.place + 1) at.page ≡ true → StepsTo a w (PageStep node (at.place + 1) at.page) first mid → refusal_in first ≡ None
      → (reply : Reply) (new : World D a) → ThenResets a node (WritesAt a node past) mid reply new → ThenResets a node (WritesAt a node at) w reply new
  written_on node at past w mid first on within due step done reply new (refused, written, writes, ends) = (
    refused,
    written,
    one_written node at.segments at.pages at.place at.round at.page w mid first within due step done refused written
        (subst (λ (P : World D a → Option Refusal → World D a → Type 0). P mid refused written) (writes_on node at.round (at.page + 1) at past on) writes),
    ends,
  )
