-- How a store that is down follows the machine.
use Rattle.std.proofs.Common.{◌≡◌, ℕ, ◌+◌, ◌<◌, ◌≤◌, ◌⊎◌, inl, inr, Bool, true, [], ◌++◌, List, vec_items, length, Option, Some, None, refl, sym, ap, subst, ◌∙◌, arith}
use Rattle.std.proofs.lemmas.Result.{IfOk-from_err}
use Rattle.std.specs.Prelude.{◌-◌, Result, Ok, Err, IfOk, IfErr, OnOk, OnErr, find, is_some, if◌then◌else◌, replicate, slice_get, slice_index_or}
use Rattle.std.specs.Global.{Vec}
use Rattle.lc_disk.specs.declared.area.Area.{Ghosts}
use Rattle.lc_disk.specs.declared.choice.Choice.{Choice}
use Rattle.lc_record.specs.Content.{Content}
use Rattle.lc_record.specs.declared.geometry.Geometry.{Geometry}
use Rattle.lc_record.specs.Transaction.{Transaction, effects}
use Rattle.lc_record.proofs.ListLemmas.{slice_get-map_some as get-map, OnErr_from as on_err, slice_get-drop as get-drop}
use Rattle.std.proofs.lemmas.List.{length-drop, length-map, length-replicate}
use Rattle.std.proofs.lemmas.Option.{slice_get_within}
use Rattle.lc_page.specs.Page.{slot_at}
use Rattle.lc_page.specs.PageWrite.{IsSettled}
use Rattle.lc_page.specs.declared.page_text.PageText.{PageText}
use Rattle.lc_page.proofs.StateLemmas.{clean_settled}
use Rattle.lc_recover.specs.Reads.{AreHonest, AreOfBytes, AllMergeTo, HaveLengths, area_count}
use Rattle.lc_recover.specs.Recovered.{page_read_of}
use Rattle.lc_recover.proofs.Images.{count-areas}
use Rattle.lc_events.proofs.PageWrites.{of_pages}
use Rattle.lc_core.proofs.PageWrites.{pages_same}
use Rattle.lc_core.proofs.PagesTurned.{halts_still}
use Rattle.lc_core.proofs.Rising.{IsResult, get-replicate, result_of, rises}
use Rattle.lc_journal.proofs.Cohering.{coherent_apart}
use Rattle.lc_recover.specs.Recovery.{Recovering, begun, IsDone, TakesMemory, Tells}
use Rattle.lc_recover.specs.declared.fault.RecoverFault.{RecoverFault}
use Rattle.lc_recover.specs.declared.fault.RecoverFault.TheVariants.{BadGeometry, Gap, Twice, OutOfSegment, DeviceFault as Failed, NoMemory}
use Rattle.lc_recover.specs.declared.progress.Progress.{Progress}
use Rattle.lc_recover.specs.declared.progress.Progress.TheVariants.{Stepped as HasStepped, Recovered as HasRecovered}
use Rattle.lc_model.specs.History.{Cut, Entry, kept}
use Rattle.lc_model.specs.Machine.{Row, RecoverRow}
use Rattle.lc_model.specs.Refusals.{Unless, common_refusal}
use Rattle.lc_model.specs.Sound.{Sound}
use Rattle.lc_model.specs.Recovered.{IsReadable}
use Rattle.lc_model.specs.State.{Phase as Condition, DownAt, Up as IsUpNow, Setting, State, first_state, fresh, is_unclosed}
use Rattle.lc_model.specs.declared.event.Event.{Event}
use Rattle.lc_model.specs.declared.event.Event.TheVariants.{Begin, SetRange, Write, Read, Abort, Reserve, Close, FlushStep, Leave, Arrive, Deliver, Trim, PageStep, ResetStep, Stop, RecoverStep}
use Rattle.lc_model.specs.declared.refusal.Refusal.{Refusal}
use Rattle.lc_model.specs.declared.refusal.Refusal.TheVariants.{Down as IsDownNow, OutOfTurn, DeviceFault}
use Rattle.lc_model.specs.declared.reply.Reply.{Reply}
use Rattle.lc_model.specs.declared.reply.Reply.TheVariants.{Ok as Accepted, Stepped, Applied, HeldBack, Trimmed, Recovered, Refused, Reset}
use Rattle.lc_model.specs.Stored.{records_of}
use Rattle.lc_model.proofs.Keeps.{sound-recovered, sound-first, sound-step}
use Rattle.lc_events.specs.Faults.{SameDevices}
use Rattle.lc_core.specs.Fresh.{text_read_of}
use Rattle.lc_settled.specs.Numbers.{Numbers, recovered_numbers}
use Rattle.lc_events.specs.Running.{FitsRunning}
use Rattle.lc_settled.specs.Settled.{CountsSteps, number_of, open_answer, settled_answer}
use Rattle.lc_desk.specs.Slots.{besides_of}
use Rattle.lc_events.specs.NodeState.{FitsNode}
use Rattle.lc_events.specs.Stepping.{FollowsStep, TellsWriting, is_plain}
use Rattle.lc_core.specs.Stepping.{works_up}
use Rattle.lc_settled.specs.Turns.{AreWithin, Turns, closed_with, held_back, kept_numbers, numbers_after}
use Rattle.lc_core.specs.Recovering.{ComesUp, RepliesTo}
use Rattle.lc_desk.specs.Pages.{FitsArea, FitsPages, IsAtRest, IsPageAt}
use Rattle.lc_core.specs.Pages.{areas_of}
use Rattle.lc_core.specs.HonestAreas.{HonestUp}
use Rattle.lc_core.specs.World.{Begins, BeginsAnew, FitsDown, FitsPhase, FitsUp, FollowsAnyhow, FollowsUp, Leads, LeadsTo, StillFitsUp}
use Rattle.lc_core.specs.declared.world_phase.WorldPhase.{WorldPhase}
use Rattle.lc_core.specs.declared.world_phase.WorldPhase.TheVariants.{Down, Up, Taken}
use Rattle.lc_desk.specs.declared.page_state.PageState.{PageState}
use Rattle.lc_desk.specs.declared.page_state.PageState.TheVariants.{AtRest, Failed as HasFailed}
use Rattle.lc_desk.specs.declared.pages.Pages.{Pages}
use Rattle.lc_core.specs.declared.up.Up.{Up as Rising}
use Rattle.lc_events.specs.declared.node_state.NodeState.{NodeState}
use Rattle.lc_events.specs.declared.running.Running.{Running}
use Rattle.lc_events.proofs.Slotted.{Stays, slots_stay, stays_where}

pub stepped_same : (a b : ℕ) → Stepped a ≡ Stepped b → a ≡ b
stepped_same a b same = ap (λ (reply : Reply). elim reply as (λ (reply : Reply). ℕ) [ Stepped steps ↦ steps | _ ↦ a ]) same

-- what is refused at once where it is down
refused_down : (m : Setting) (s : State) (cut : Cut) (event : Event) → s.phase ≡ DownAt cut → works_up event ≡ true → common_refusal m.geometry s event ≡ Some IsDownNow
refused_down m s cut (Begin node thread segments reading) down works = rw down refl
refused_down m s cut (SetRange node thread segment offset len) down works = rw down refl
refused_down m s cut (Write node thread segment offset bytes) down works = rw down refl
refused_down m s cut (Read node thread segment offset len) down works = rw down refl
refused_down m s cut (Abort node thread) down works = rw down refl
refused_down m s cut (Reserve node thread) down works = rw down refl
refused_down m s cut (Close node thread) down works = rw down refl
refused_down m s cut (FlushStep node) down works = rw down refl
refused_down m s cut (Leave node segment) down works = rw down refl
refused_down m s cut (Arrive node segment) down works = rw down refl
refused_down m s cut (Deliver sender number segment to) down works = rw down refl
refused_down m s cut (Trim node) down works = rw down refl
refused_down m s cut (PageStep node segment page) down works = rw down refl
refused_down m s cut (ResetStep node) down works = rw down refl
refused_down m s cut (Stop choices) down works = absurd cc
refused_down m s cut RecoverStep down works = absurd cc

-- what is neither a step of a recovery nor a stop
pub else_works : (event : Event) → (event ≡ RecoverStep → ⊥) → ((choices : List (List Choice)) → event ≡ Stop choices → ⊥) → works_up event ≡ true
else_works (Begin node thread segments reading) other going = refl
else_works (SetRange node thread segment offset len) other going = refl
else_works (Write node thread segment offset bytes) other going = refl
else_works (Read node thread segment offset len) other going = refl
else_works (Abort node thread) other going = refl
else_works (Reserve node thread) other going = refl
else_works (Close node thread) other going = refl
else_works (FlushStep node) other going = refl
else_works (Leave node segment) other going = refl
else_works (Arrive node segment) other going = refl
else_works (Deliver sender number segment to) other going = refl
else_works (Trim node) other going = refl
else_works (PageStep node segment page) other going = refl
else_works (ResetStep node) other going = refl
else_works (Stop choices) other going = absurd (going choices refl)
else_works RecoverStep other going = absurd (other refl)

-- and the numbers stay
turns_down : (m : Setting) (s : State) (x : Numbers) (event : Event) → works_up event ≡ true → Turns m s x event (Refused IsDownNow) x
turns_down m s x (Begin node thread segments reading) works = refl
turns_down m s x (SetRange node thread segment offset len) works = refl
turns_down m s x (Write node thread segment offset bytes) works = refl
turns_down m s x (Read node thread segment offset len) works = refl
turns_down m s x (Abort node thread) works = refl
turns_down m s x (Reserve node thread) works = refl
turns_down m s x (Close node thread) works = refl
turns_down m s x (FlushStep node) works = refl
turns_down m s x (Leave node segment) works = refl
turns_down m s x (Arrive node segment) works = refl
turns_down m s x (Deliver sender number segment to) works = refl
turns_down m s x (Trim node) works = refl
turns_down m s x (PageStep node segment page) works = refl
turns_down m s x (ResetStep node) works = refl
turns_down m s x (Stop choices) works = absurd cc
turns_down m s x RecoverStep works = absurd cc

pub if_ok_at : {A E : Type 0} (res : Result A E) (x : A) (P : A → Type 0) → res ≡ Ok x → P x → IfOk res P
if_ok_at res x P is p = subst (λ (r : Result _ _). IfOk r P) (sym is) p

on_err_at : {A E : Type 0} (res : Result A E) (x : A) (P : Type 0) → res ≡ Ok x → OnErr res P
on_err_at res x P is = subst (λ (r : Result _ _). OnErr r P) (sym is) tt

-- a fault is not answered so
pub not_recovered : {E : Type 0} (P : Type 0) (fault : RecoverFault) (answer : Result Reply E) → RepliesTo (Err fault) answer → IfOk answer (λ reply. reply ≡ Recovered → P)
not_recovered P (BadGeometry area) answer replies = if_ok_at answer _ _ replies (λ is. absurd cc)
not_recovered P (Gap segment seq) answer replies = if_ok_at answer _ _ replies (λ is. absurd cc)
not_recovered P (Twice segment seq) answer replies = if_ok_at answer _ _ replies (λ is. absurd cc)
not_recovered P (OutOfSegment area) answer replies = if_ok_at answer _ _ replies (λ is. absurd cc)
not_recovered P Failed answer replies = if_ok_at answer _ _ replies (λ is. absurd cc)
not_recovered P NoMemory answer replies = IfOk-from_err answer _ replies

-- no refusal is common to all for a step of a recovery
pub none_common : (m : Setting) (s : State) → common_refusal m.geometry s RecoverStep ≡ None
none_common m s = elim s.phase as (λ (p : Condition). common_refusal m.geometry (record s { phase = p }) RecoverStep ≡ None) [
  | IsUpNow ↦ refl
  | DownAt cut ↦ refl
]

module _ {D : Type 0} (a : Ghosts D) (m : Setting) (s : State) (x : Numbers) where
  pub down_refuses : (r : Recovering D) (event : Event) → works_up event ≡ true → FitsDown a m r s x → Leads a m event s x (Refused IsDownNow) (Down r)
  down_refuses r event works h =
      let common : common_refusal m.geometry s event ≡ Some IsDownNow = refused_down m s h.cut event h.down works in
      record {
        after = s;
        next = x;
        step = subst (λ (c : Option Refusal). Unless c s (Refused IsDownNow) s (Row m s event (Refused IsDownNow) s)) (sym common) (refl, refl);
        settled = (
          λ answer is. (let none : None ≡ Some answer = sym (ap (λ (c : Option Refusal). if is_some c then None else open_answer m s x event) common) ∙ is in absurd cc),
          λ recovers steps same. absurd cc,
        );
        turns = turns_down m s x event works;
        fits = h;
      }

  open_none : settled_answer m s x RecoverStep ≡ None
  open_none = ap (λ (c : Option Refusal). if is_some c then None else None) (none_common m s)

  -- the step of a recovery that the row allows
  leads_by_row : (reply : Reply) (after : State) (next : Numbers) (Fits : State → Numbers → Type 0) → RecoverRow s.phase m.geometry s reply after → CountsSteps x reply → Turns m s x RecoverStep reply next → Fits after next
      → LeadsTo m RecoverStep s x reply Fits
  leads_by_row reply after next Fits row counts turns fits = record {
    after = after;
    next = next;
    step = subst (λ (c : Option Refusal). Unless c s reply after (Row m s RecoverStep reply after)) (sym (none_common m s)) row;
    settled = (λ answer is. (let none : None ≡ Some answer = sym open_none ∙ is in absurd cc), λ recovers. counts);
    turns = turns;
    fits = fits;
  }

  -- what a step of the recovery keeps
  pub record Keeps (r new : Recovering D) : Type 0 where
    pub geometry : new.geometry ≡ r.geometry
    pub lengths : HaveLengths a new.geometry new.areas
    pub honest : AreHonest a new.areas
    pub merges : (content : Content) (numbers : ℕ → ℕ) → AllMergeTo a r.geometry r.areas content numbers → AllMergeTo a r.geometry new.areas content numbers

  module _ (r new : Recovering D) (h : FitsDown a m r s x) (keeps : Keeps r new) where
    still_merges : AllMergeTo a m.geometry new.areas (effects (s.earlier ++ kept s.history h.cut) m.start) (kept_numbers (DownAt h.cut) s x)
    still_merges = subst (λ (g : Geometry). AllMergeTo a g new.areas (effects (s.earlier ++ kept s.history h.cut) m.start) (kept_numbers (DownAt h.cut) s x)) h.geometry_is
        (keeps.merges _ _ (subst (λ (g : Geometry). AllMergeTo a g r.areas (effects (s.earlier ++ kept s.history h.cut) m.start) (kept_numbers (DownAt h.cut) s x)) (sym h.geometry_is) h.merges))

    goes_down : FitsDown a m new s (record x { steps = new.steps })
    goes_down = record {
      geometry_is = keeps.geometry ∙ h.geometry_is;
      cut = h.cut;
      down = h.down;
      sound = h.sound;
      lengths = keeps.lengths;
      honest = keeps.honest;
      merges = still_merges;
      steps_are = refl;
    }

    row_of : (reply : Reply) (after : State) → RecoverRow (DownAt h.cut) m.geometry s reply after → RecoverRow s.phase m.geometry s reply after
    row_of reply after row = subst (λ (p : Condition). RecoverRow p m.geometry s reply after) (sym h.down) row

    -- one step more
    pub steps_down : new.steps ≡ r.steps + 1 → Leads a m RecoverStep s x (Stepped new.steps) (Down new)
    steps_down more = leads_by_row (Stepped new.steps) s (record x { steps = new.steps }) (FitsPhase a m (Down new)) (row_of _ _ (inl (new.steps, refl, refl)))
        (λ steps same. stepped_same _ _ (sym same) ∙ more ∙ ap (λ (n : ℕ). n + 1) (sym h.steps_are)) refl goes_down

    -- a fault of the device
    pub fails_down : new.steps ≡ 0 → Leads a m RecoverStep s x (Refused DeviceFault) (Down new)
    fails_down none = leads_by_row (Refused DeviceFault) s (record x { steps = 0 }) (FitsPhase a m (Down new)) (row_of _ _ (inr (inl (refl, refl))))
        (λ steps same. absurd cc) refl (subst (λ (n : ℕ). FitsDown a m new s (record x { steps = n })) none goes_down)

  -- how many steps a recovery has made is nothing to what fits while it is up
  steps_stay : Stays m s x s (record x { steps = 0 })
  steps_stay = stays_where m s s x (record x { steps = 0 }) refl refl refl refl refl refl refl refl refl

  log_stays : (n : ℕ) (w : NodeState D a) → FitsNode a m n w s x → FitsNode a m n w s (record x { steps = 0 })
  log_stays n w h = record {
    desk = h.desk;
    slots = slots_stay m n (besides_of w.desk.here) s x s (record x { steps = 0 }) steps_stay h.slots;
    journal = record {
      words = h.journal.words;
      marks = h.journal.marks;
      all_closed = h.journal.all_closed;
      whole = h.journal.whole;
      stands = h.journal.stands;
      halted = h.journal.halted;
      dropped_is = h.journal.dropped_is;
      trimmed_is = h.journal.trimmed_is;
      acked_is = h.journal.acked_is;
      taken_is = h.journal.taken_is;
      reset_is = h.journal.reset_is;
    };
    room = h.room;
    round = h.round;
    known = h.known;
  }

  all_stay : (w : Running D a) → FitsRunning a m w s x → FitsRunning a m w s (record x { steps = 0 })
  all_stay w h = record {
    geometry_is = h.geometry_is;
    up = h.up;
    sound = h.sound;
    stored = h.stored;
    coherent = coherent_apart m s x x.applied x.waiting x.round x.trimmed 0 h.coherent;
    each = λ n node got. log_stays n node (h.each n node got);
    on_the_way = record {
      count = h.on_the_way.count;
      some = λ k token got. (let o = h.on_the_way.some k token got in (o.0, steps_stay.tokens (k + 1) token o.1));
      none = h.on_the_way.none;
    };
  }

  -- up: a step of a recovery is out of turn
  pub up_refuses : (up : Rising D a) → FitsUp a m up s x → LeadsTo m RecoverStep s x (Refused OutOfTurn) (FitsUp a m up)
  up_refuses up h = leads_by_row (Refused OutOfTurn) s (record x { steps = 0 }) (FitsUp a m up)
      (subst (λ (p : Condition). RecoverRow p m.geometry s (Refused OutOfTurn) s) (sym h.running.up) (refl, refl))
      (λ steps same. absurd cc) refl
      (record { running = all_stay up.running h.running; pages = pages_same a m up.segments.items x (record x { steps = 0 }) refl h.pages; failed = h.failed })

  -- no other event of a store that is up changes its pages
  closed_pages : (node : ℕ) (e : Option Entry) → of_pages (closed_with s x node e) ≡ of_pages x
  closed_pages node None = refl
  closed_pages node (Some e) = refl

  held_pages : (to segment : ℕ) (number : Option ℕ) → of_pages (held_back x to segment number) ≡ of_pages x
  held_pages to segment None = refl
  held_pages to segment (Some number) = refl

  turned_pages : (event : Event) (reply : Reply) (next : Numbers) → is_plain event ≡ true → Turns m s x event reply next → of_pages next ≡ of_pages x
  turned_pages (Begin node thread segments reading) reply next plain turns = ap of_pages turns
  turned_pages (SetRange node thread segment offset len) reply next plain turns = ap of_pages turns
  turned_pages (Write node thread segment offset bytes) reply next plain turns = ap of_pages turns
  turned_pages (Read node thread segment offset len) reply next plain turns = ap of_pages turns
  turned_pages (Abort node thread) reply next plain turns = ap of_pages turns
  turned_pages (Reserve node thread) reply next plain turns = ap of_pages turns
  turned_pages (Close node thread) reply next plain turns = ap of_pages turns ∙ elim reply as (λ (r : Reply). of_pages (numbers_after m s x (Close node thread) r) ≡ of_pages x) [
    | Accepted ↦ closed_pages node (find (is_unclosed node thread) s.history)
    | _ ↦ refl
  ]
  turned_pages (FlushStep node) reply next plain turns = ap of_pages turns
  turned_pages (Leave node segment) reply next plain turns = ap of_pages turns
  turned_pages (Arrive node segment) reply next plain turns = ap of_pages turns ∙ elim reply as (λ (r : Reply). of_pages (numbers_after m s x (Arrive node segment) r) ≡ of_pages x) [
    | Accepted ↦ refl
    | _ ↦ refl
  ]
  turned_pages (Deliver sender number segment to) reply next plain turns = ap of_pages turns ∙ elim reply as (λ (r : Reply). of_pages (numbers_after m s x (Deliver sender number segment to) r) ≡ of_pages x) [
    | Applied last ↦ refl
    | HeldBack ↦ held_pages to segment (number_of segment (slice_get (records_of m s x.disks sender) (number - 1)))
    | _ ↦ refl
  ]
  turned_pages (Trim node) reply next plain turns = ap of_pages turns ∙ elim reply as (λ (r : Reply). of_pages (numbers_after m s x (Trim node) r) ≡ of_pages x) [
    | Trimmed count ↦ refl
    | _ ↦ refl
  ]
  turned_pages (PageStep node segment page) reply next plain turns = absurd cc
  turned_pages (ResetStep node) reply next plain turns = ap of_pages turns ∙ elim reply as (λ (r : Reply). of_pages (numbers_after m s x (ResetStep node) r) ≡ of_pages x) [
    | Stepped steps ↦ refl
    | Reset ↦ refl
    | _ ↦ refl
  ]
  turned_pages (Stop choices) reply next plain turns = absurd cc
  turned_pages RecoverStep reply next plain turns = absurd cc

  -- a step of a store that is up
  pub runs_up : (up later : Rising D a) (event : Event) (reply : Reply) (writing : Bool) → is_plain event ≡ true → later.segments ≡ up.segments → SameDevices a up.running later.running
      → FollowsStep a writing up.running event reply later.running → TellsWriting m x event writing → FitsUp a m up s x → LeadsTo m event s x reply (FitsUp a m later)
  runs_up up later event reply writing plain segments devices follows told h =
      let on = follows m s x h.running told in
      record {
        after = on.after;
        next = on.next;
        step = on.step;
        settled = on.settled;
        turns = on.turns;
        fits = record {
          running = on.fits;
          pages = subst (λ (segments : List (Pages D a)). FitsPages a m segments on.next) (ap vec_items (sym segments))
              (pages_same a m up.segments.items x on.next (turned_pages event reply on.next plain on.turns) h.pages);
          failed = λ k pages got. halts_still a m s event reply on.after h.running.up on.fits.up on.step (k + 1) pages
              (h.failed k pages (ap (λ (v : Vec (Pages D a)). slice_get v.items k) (sym segments) ∙ got));
        };
      }

module _ {D : Type 0} (a : Ghosts D) where
  -- whatever a phase fits
  abbrev pub FollowsPhase : WorldPhase D a → Event → Reply → WorldPhase D a → Type 0
  FollowsPhase old event reply new = (m : Setting) (s : State) (x : Numbers) → FitsPhase a m old s x → Leads a m event s x reply new

  pub up_follows : (old : WorldPhase D a) (up new : Rising D a) (event : Event) (reply : Reply) → old ≡ Up up → FollowsUp a up event reply new → (HonestUp a up → HonestUp a new) → FollowsPhase old event reply (Up new)
  up_follows old up new event reply is follows honest m s x h =
      let its : FitsUp a m up s x × HonestUp a up = subst (λ (p : WorldPhase D a). FitsPhase a m p s x) is h in
      let leads = follows m s x its.0 in
      record { after = leads.after; next = leads.next; step = leads.step; settled = leads.settled; turns = leads.turns; fits = (leads.fits, honest its.1) }

  pub up_still : (old : WorldPhase D a) (up new : Rising D a) → old ≡ Up up → (HonestUp a up → HonestUp a new) → StillFitsUp a up new
      → (m : Setting) (s : State) (x : Numbers) → FitsPhase a m old s x → FitsPhase a m (Up new) s x
  up_still old up new is honest still m s x h = (let its : FitsUp a m up s x × HonestUp a up = subst (λ (p : WorldPhase D a). FitsPhase a m p s x) is h in (still m s x its.0, honest its.1))

  pub down_same : (r other : Recovering D) → ◌≡◌ {A = WorldPhase D a} (Down r) (Down other) → r ≡ other
  down_same r other same = ap (λ (p : WorldPhase D a). elim p as (λ (p : WorldPhase D a). Recovering D) [ Down it ↦ it | _ ↦ r ]) same

  -- not up
  pub not_up : (old : WorldPhase D a) (event : Event) → ((up : Rising D a) → old ≡ Up up → ⊥) → works_up event ≡ true → FollowsPhase old event (Refused IsDownNow) old
  not_up (Down r) event not works = λ m s x h. down_refuses a m s x r event works h
  not_up (Up up) event not works = absurd (not up refl)
  not_up Taken event not works = λ m s x h. absurd h

  -- not down
  pub not_down : (old : WorldPhase D a) → ((r : Recovering D) → old ≡ Down r → ⊥) → FollowsPhase old RecoverStep (Refused OutOfTurn) old
  not_down (Down r) not = absurd (not r refl)
  not_down (Up up) not = up_follows (Up up) up up RecoverStep (Refused OutOfTurn) refl (λ m s x h. up_refuses a m s x up h) (λ honest. honest)
  not_down Taken not = λ m s x h. absurd h

  -- whatever the areas are
  same_up : (one other : Rising D a) → ◌≡◌ {A = WorldPhase D a} (Up one) (Up other) → one ≡ other
  same_up one other same = ap (λ (p : WorldPhase D a). elim p as (λ (p : WorldPhase D a). Rising D a) [ Up it ↦ it | _ ↦ one ]) same

  pub not_down_anyhow : (old : WorldPhase D a) → FollowsAnyhow a old RecoverStep (Refused OutOfTurn) old
  not_down_anyhow old up is = (up, is, λ m s x h. up_refuses a m s x up h)

  pub down_anyhow : (old : WorldPhase D a) (r : Recovering D) (event : Event) (reply : Reply) (new : WorldPhase D a) → old ≡ Down r → FollowsAnyhow a old event reply new
  down_anyhow old r event reply new is up up_is = absurd (let both : Up up ≡ Down r = sym up_is ∙ is in cc)

  pub up_anyhow : (old : WorldPhase D a) (up new : Rising D a) (event : Event) (reply : Reply) → old ≡ Up up → FollowsUp a up event reply new → FollowsAnyhow a old event reply (Up new)
  up_anyhow old up new event reply is follows other other_is = (new, refl, subst (λ (its : Rising D a). FollowsUp a its event reply new) (same_up up other (sym is ∙ other_is)) follows)

  pub others_anyhow : (old : WorldPhase D a) (event : Event) (reply : Reply) (new : WorldPhase D a) → ((up : Rising D a) → old ≡ Up up → ⊥) → FollowsAnyhow a old event reply new
  others_anyhow old event reply new not up is = absurd (not up is)

  -- what a step of a recovery leaves
  pub record StepLeaves (r new : Recovering D) (result : Result Progress RecoverFault) : Type 0 where
    pub geometry : new.geometry ≡ r.geometry
    pub lengths : HaveLengths a new.geometry new.areas
    pub progress : IfOk result (λ progress. Tells progress new)
    pub steps : OnOk result (new.steps ≡ r.steps + 1)
    pub no_memory : result ≡ Err NoMemory → TakesMemory r × (new ≡ r)
    pub again : IfErr result (λ fault. (fault ≡ NoMemory → ⊥) → new ≡ begun r.geometry new.areas)
    pub honest : AreHonest a r.areas → AreHonest a new.areas
    pub merges : (content : Content) (numbers : ℕ → ℕ) → AreHonest a new.areas → AllMergeTo a r.geometry r.areas content numbers → AllMergeTo a r.geometry new.areas content numbers
    pub accepted : (content : Content) (numbers : ℕ → ℕ) → AreHonest a r.areas → AllMergeTo a r.geometry r.areas content numbers → IfErr result (λ fault. (fault ≡ NoMemory) ⊎ (fault ≡ Failed))

  module _ (old : WorldPhase D a) (r new : Recovering D) (is : old ≡ Down r) where
    fits_down : (m : Setting) (s : State) (x : Numbers) → FitsPhase a m old s x → FitsDown a m r s x
    fits_down m s x h = subst (λ (p : WorldPhase D a). FitsPhase a m p s x) is h

    keeps_of : {result : Result Progress RecoverFault} → StepLeaves r new result → (m : Setting) (s : State) (x : Numbers) → FitsDown a m r s x → Keeps a m s x r new
    keeps_of leaves m s x h =
        let honest : AreHonest a new.areas = leaves.honest h.honest in
        record { geometry = leaves.geometry; lengths = leaves.lengths; honest = honest; merges = λ content numbers. leaves.merges content numbers honest }

    -- what is refused in a merge is not refused where all images merge
    only_fails : (fault : RecoverFault) → StepLeaves r new (Err fault) → (m : Setting) (s : State) (x : Numbers) → FitsDown a m r s x → (fault ≡ NoMemory) ⊎ (fault ≡ Failed)
    only_fails fault leaves m s x h = leaves.accepted _ _ h.honest (subst (λ (g : Geometry). AllMergeTo a g r.areas (effects (s.earlier ++ kept s.history h.cut) m.start) (kept_numbers (DownAt h.cut) s x)) (sym h.geometry_is) h.merges)

    refused_down_follows : {E : Type 0} (fault : RecoverFault) (answer : Result Reply E) → RepliesTo (Err fault) answer → StepLeaves r new (Err fault) → IfOk answer (λ reply. FollowsPhase old RecoverStep reply (Down new))
    refused_down_follows (BadGeometry area) answer replies leaves = if_ok_at answer _ _ replies
        (λ m s x h. elim (only_fails (BadGeometry area) leaves m s x (fits_down m s x h)) [ inl e ↦ absurd cc | inr e ↦ absurd cc ])
    refused_down_follows (Gap segment seq) answer replies leaves = if_ok_at answer _ _ replies
        (λ m s x h. elim (only_fails (Gap segment seq) leaves m s x (fits_down m s x h)) [ inl e ↦ absurd cc | inr e ↦ absurd cc ])
    refused_down_follows (Twice segment seq) answer replies leaves = if_ok_at answer _ _ replies
        (λ m s x h. elim (only_fails (Twice segment seq) leaves m s x (fits_down m s x h)) [ inl e ↦ absurd cc | inr e ↦ absurd cc ])
    refused_down_follows (OutOfSegment area) answer replies leaves = if_ok_at answer _ _ replies
        (λ m s x h. elim (only_fails (OutOfSegment area) leaves m s x (fits_down m s x h)) [ inl e ↦ absurd cc | inr e ↦ absurd cc ])
    refused_down_follows Failed answer replies leaves = if_ok_at answer _ _ replies
        (λ m s x h. (let fits = fits_down m s x h in
        fails_down a m s x r new fits (keeps_of leaves m s x fits) (ap (λ (v : Recovering D). v.steps) (leaves.again (λ e. absurd cc)))))
    refused_down_follows NoMemory answer replies leaves = IfOk-from_err answer _ replies

    pub down_follows : {E : Type 0} (result : Result Progress RecoverFault) (answer : Result Reply E) → RepliesTo result answer → StepLeaves r new result → ((p : Progress) → result ≡ Ok p → IsDone new → ⊥)
        → IfOk answer (λ reply. FollowsPhase old RecoverStep reply (Down new))
    down_follows (Ok (HasStepped steps)) answer replies leaves going = if_ok_at answer _ _ (replies ∙ ap (λ (n : ℕ). Ok (Stepped n)) leaves.progress.0)
        (λ m s x h. (let fits = fits_down m s x h in steps_down a m s x r new fits (keeps_of leaves m s x fits) leaves.steps))
    down_follows (Ok HasRecovered) answer replies leaves going = absurd (going HasRecovered refl leaves.progress)
    down_follows (Err fault) answer replies leaves going = refused_down_follows fault answer replies leaves

    wants_memory : {E : Type 0} (fault : RecoverFault) (answer : Result Reply E) → RepliesTo (Err fault) answer → StepLeaves r new (Err fault) → OnErr answer (TakesMemory r × (new ≡ r))
    wants_memory (BadGeometry area) answer replies leaves = on_err_at answer _ _ replies
    wants_memory (Gap segment seq) answer replies leaves = on_err_at answer _ _ replies
    wants_memory (Twice segment seq) answer replies leaves = on_err_at answer _ _ replies
    wants_memory (OutOfSegment area) answer replies leaves = on_err_at answer _ _ replies
    wants_memory Failed answer replies leaves = on_err_at answer _ _ replies
    wants_memory NoMemory answer replies leaves = on_err answer _ (leaves.no_memory refl)

    pub down_wants : {E : Type 0} (result : Result Progress RecoverFault) (answer : Result Reply E) → RepliesTo result answer → StepLeaves r new result → OnErr answer (TakesMemory r × (new ≡ r))
    down_wants (Ok (HasStepped steps)) answer replies leaves = on_err_at answer _ _ replies
    down_wants (Ok HasRecovered) answer replies leaves = on_err_at answer _ _ replies
    down_wants (Err fault) answer replies leaves = wants_memory fault answer replies leaves

    pub same_still : new ≡ r → (m : Setting) (s : State) (x : Numbers) → FitsPhase a m old s x → FitsPhase a m (Down new) s x
    same_still same m s x h = subst (λ (v : Recovering D). FitsDown a m v s x) (sym same) (fits_down m s x h)

  -- What has come up fits a fresh state of the machine that has the result of what was read, whatever its areas are

  module _ (r : Recovering D) (up : Rising D a) (risen : ComesUp a r up) (m : Setting) (earlier : List Transaction) (numbers : ℕ → ℕ) (same_geometry : m.geometry ≡ risen.store.geometry)
      (up_sound : Sound m.geometry (fresh m.geometry earlier IsUpNow)) (one : IsResult m.geometry risen.made.content risen.made.numbers (effects earlier m.start) numbers) where
    abbrev new_numbers : Numbers
    new_numbers = recovered_numbers m.geometry numbers (page_read_of risen.store) (text_read_of risen.store)

    -- the areas of the segments stand after those of the logs
    area_at : (k : ℕ) (area : D) → slice_get (areas_of a up.segments.items) k ≡ Some area → slice_get risen.store.areas (risen.store.geometry.nodes + k) ≡ Some area
    area_at k area got =
        ap (λ (areas : List D). slice_get areas (risen.store.geometry.nodes + k)) risen.areas
        ∙ ap (λ (g : Geometry). slice_get r.areas (g.nodes + k)) risen.geometry
        ∙ sym (get-drop r.geometry.nodes k r.areas)
        ∙ ap (λ (areas : List D). slice_get areas k) (sym risen.segments)
        ∙ got

    -- no page is being written, and none is dirty
    module _ (k : ℕ) (pages : Pages D a) (got : slice_get up.segments.items k ≡ Some pages) where
      its_area : slice_get risen.store.areas (risen.store.geometry.nodes + k) ≡ Some pages.area
      its_area = area_at k pages.area (get-map (λ (p : Pages D a). p.area) up.segments.items k pages got)

      same_pages : risen.store.geometry.pages ≡ m.geometry.pages
      same_pages = ap (λ (g : Geometry). g.pages) (sym same_geometry)

      its_bytes : a.honest pages.area ≡ true → (at : ℕ) → slice_index_or (a.now pages.area) at 0 < 256
      its_bytes = risen.bytes (risen.store.geometry.nodes + k) pages.area (ap (λ (areas : List D). slice_get areas (risen.store.geometry.nodes + k)) (sym risen.areas) ∙ its_area)

      at_rest : (page : ℕ) → page < m.geometry.pages → IsAtRest a pages.area (k + 1) page new_numbers
      at_rest page within =
          let inside : page < risen.store.geometry.pages = omega (arith, within, same_pages) in
          record {
            no_calls = refl;
            settled = λ honest. (let its = risen.each (risen.store.geometry.nodes + k) pages.area its_area honest in
                subst (λ (t : PageText). IsSettled (a.now pages.area) (a.dirty pages.area) page t)
                (its.texts k page refl inside)
                (clean_settled (a.now pages.area) (a.dirty pages.area) page (λ slot at below. its.clean (slot_at page slot + at))));
            reads = λ honest. (risen.each (risen.store.geometry.nodes + k) pages.area its_area honest).reads k page refl inside;
          }

      none_writes : pages.writes.items ≡ replicate m.geometry.pages AtRest
      none_writes = risen.rest k pages got ∙ ap (λ (g : Geometry). replicate g.pages AtRest) (sym risen.geometry ∙ sym same_geometry)

      none_failed : (page : ℕ) → slice_get pages.writes.items page ≡ Some HasFailed → ⊥
      none_failed page failed =
          let is : AtRest ≡ HasFailed = get-replicate m.geometry.pages page AtRest HasFailed (ap (λ (states : List PageState). slice_get states page) (sym none_writes) ∙ failed) in
          absurd cc

      area_up : FitsArea a m.geometry (k + 1) pages new_numbers
      area_up = record {
        bytes = its_bytes;
        count = ap length none_writes ∙ length-replicate m.geometry.pages AtRest;
        each = λ page state at.
            (let there : slice_get (replicate m.geometry.pages AtRest) page ≡ Some state = ap (λ (states : List PageState). slice_get states page) (sym none_writes) ∙ at in
            let within : page < m.geometry.pages = omega (arith, slice_get_within (replicate m.geometry.pages AtRest) page state there, length-replicate m.geometry.pages AtRest) in
            subst (λ (v : PageState). IsPageAt a pages.area (k + 1) page v new_numbers) (get-replicate m.geometry.pages page AtRest state there) (at_rest page within));
      }

    pages_up : FitsPages a m up.segments.items new_numbers
    pages_up = record {
      all_segments = (let counted : length r.areas ≡ area_count r.geometry = count-areas a r.geometry r.areas risen.lengths in
          sym (length-map up.segments.items (λ (p : Pages D a). p.area)) ∙ ap length risen.segments ∙ length-drop r.geometry.nodes r.areas
          ∙ omega (arith, counted, ap (λ (g : Geometry). g.segments) risen.geometry, ap (λ (g : Geometry). g.segments) same_geometry));
      each = area_up;
    }

    pub fits_up : FitsUp a m up (fresh m.geometry earlier IsUpNow) new_numbers
    fits_up = record {
      running = rises a m earlier numbers risen.store up.running same_geometry up_sound risen.made one risen.fresh;
      pages = pages_up;
      failed = λ k pages got page failed. absurd (none_failed k pages got page failed);
    }

    pub honest_up : AreHonest a r.areas → HonestUp a up
    honest_up honest = record {
      logs = λ n node area at there. honest n area (sym (risen.log_areas n node at) ∙ there);
      segments = λ k pages got. honest (risen.store.geometry.nodes + k) pages.area (ap (λ (areas : List D). slice_get areas (risen.store.geometry.nodes + k)) (sym risen.areas) ∙ its_area k pages got);
    }

  -- whatever its areas are
  pub begins_anew : (r : Recovering D) (up : Rising D a) → ComesUp a r up → BeginsAnew a r.geometry up
  begins_anew r up risen =
      let made = risen.made in
      let m : Setting = record { geometry = r.geometry; start = made.content } in
      record {
        store = made.store;
        content = made.content;
        numbers = made.numbers;
        pages = page_read_of risen.store;
        texts = text_read_of risen.store;
        readable = subst (λ (g : Geometry). IsReadable g made.store) risen.geometry made.readable;
        merges = made.merges;
        renewed = made.renewed;
        fits = fits_up r up risen m [] made.numbers (sym risen.geometry) (sound-recovered r.geometry (first_state r.geometry) [] (sound-first r.geometry)) (refl, λ segment first last. refl);
      }

  pub begins_in : (old : WorldPhase D a) (r new : Recovering D) (up : Rising D a) (phase : WorldPhase D a) → old ≡ Down r → new.geometry ≡ r.geometry → phase ≡ Up up → ComesUp a new up → Begins a old phase
  begins_in old r new up phase is geometry up_is risen other other_is = (
    up,
    up_is,
    subst (λ (g : Geometry). BeginsAnew a g up) (geometry ∙ ap (λ (it : Recovering D). it.geometry) (down_same r other (sym is ∙ other_is))) (begins_anew new up risen),
  )

  module _ (old : WorldPhase D a) (r new : Recovering D) (is : old ≡ Down r) where
    -- the last step: what has come up fits the state that the cut keeps
    module _ (up : Rising D a) (risen : ComesUp a new up) (m : Setting) (s : State) (x : Numbers) (h : FitsDown a m r s x) (keeps : Keeps a m s x r new) where
      abbrev kept_now : List Transaction
      kept_now = s.earlier ++ kept s.history h.cut

      same_geometry : m.geometry ≡ risen.store.geometry
      same_geometry = sym (risen.geometry ∙ keeps.geometry ∙ h.geometry_is)

      honest_store : AreHonest a risen.store.areas
      honest_store = subst (λ (areas : List D). AreHonest a areas) (sym risen.areas) keeps.honest

      all_merge : AllMergeTo a m.geometry risen.store.areas (effects kept_now m.start) (kept_numbers (DownAt h.cut) s x)
      all_merge = subst (λ (areas : List D). AllMergeTo a m.geometry areas (effects kept_now m.start) (kept_numbers (DownAt h.cut) s x)) (sym risen.areas) (still_merges a m s x r new h keeps)

      one : IsResult m.geometry risen.made.content risen.made.numbers (effects kept_now m.start) (kept_numbers (DownAt h.cut) s x)
      one = subst (λ (g : Geometry). IsResult g risen.made.content risen.made.numbers (effects kept_now m.start) (kept_numbers (DownAt h.cut) s x)) (sym same_geometry)
          (result_of a risen.store risen.made (effects kept_now m.start) (kept_numbers (DownAt h.cut) s x) honest_store (subst (λ (areas : List D). AreOfBytes a areas) (sym risen.areas) risen.bytes)
          (subst (λ (g : Geometry). AllMergeTo a g risen.store.areas (effects kept_now m.start) (kept_numbers (DownAt h.cut) s x)) same_geometry all_merge))

      abbrev up_now : State
      up_now = fresh m.geometry kept_now IsUpNow

      abbrev next_numbers : Numbers
      next_numbers = recovered_numbers m.geometry (kept_numbers (DownAt h.cut) s x) (page_read_of risen.store) (text_read_of risen.store)

      up_row : RecoverRow s.phase m.geometry s Recovered up_now
      up_row = row_of a m s x r new h keeps Recovered up_now (inr (inr (refl, refl)))

      up_sound : Sound m.geometry up_now
      up_sound = sound-step m s RecoverStep Recovered up_now h.sound (subst (λ (c : Option Refusal). Unless c s Recovered up_now (Row m s RecoverStep Recovered up_now)) (sym (none_common m s)) up_row)

      -- no page has a greater sequence than its segment's number
      within : AreWithin m.geometry (kept_numbers s.phase s x) (page_read_of risen.store)
      within segment page first last inside =
          let stored = (fits_up new up risen m kept_now (kept_numbers (DownAt h.cut) s x) same_geometry up_sound one).running.stored in
          subst (λ (p : Condition). (page_read_of risen.store segment page).sequence ≤ kept_numbers p s x segment) (sym h.down)
          ((stored.stands segment page (page_read_of risen.store segment page) first last inside (inl refl)).within)

      comes_up_with : Leads a m RecoverStep s x Recovered (Up up)
      comes_up_with = leads_by_row a m s x Recovered up_now next_numbers (FitsPhase a m (Up up)) up_row (λ steps same. absurd cc)
          (page_read_of risen.store, text_read_of risen.store, within, ap (λ (p : Condition). recovered_numbers m.geometry (kept_numbers p s x) (page_read_of risen.store) (text_read_of risen.store)) (sym h.down))
          (fits_up new up risen m kept_now (kept_numbers (DownAt h.cut) s x) same_geometry up_sound one, honest_up new up risen m kept_now (kept_numbers (DownAt h.cut) s x) same_geometry up_sound one keeps.honest)

    pub comes_up : {result : Result Progress RecoverFault} (up : Rising D a) → StepLeaves r new result → ComesUp a new up → FollowsPhase old RecoverStep Recovered (Up up)
    comes_up up leaves risen m s x h =
        let fits = fits_down old r new is m s x h in
        comes_up_with up risen m s x fits (keeps_of old r new is leaves m s x fits)
