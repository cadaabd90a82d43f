-- A step of a page write of a store that is up.
use Rattle.std.proofs.Common.{◌≡◌, ℕ, suc, ◌+◌, Bool, false, not, List, [], ◌∷◌, ◌++◌, map, Option, Some, None, length, slice_get, slice_set, refl, sym, ap, subst, ◌∙◌, inl, inr, arith, true≢false}
use Rattle.std.specs.Prelude.{option_map, is_some, if◌then◌else◌}
use Rattle.std.proofs.lemmas.Bool.{cases_eq}
use Rattle.std.proofs.lemmas.List.{map-set}
use Rattle.std.proofs.lemmas.Option.{slice_get-map, same_Some as same_some}
use Rattle.lc_disk.specs.declared.area.Area.{Ghosts}
use Rattle.lc_events.specs.CallReplies.{CalledAs}
use Rattle.lc_model.specs.Machine.{Row}
use Rattle.lc_model.specs.Refusals.{Unless, common_refusal}
use Rattle.lc_model.specs.State.{Setting, State}
use Rattle.lc_model.specs.declared.event.Event.{Event}
use Rattle.lc_model.specs.declared.event.Event.TheVariants.{PageStep}
use Rattle.lc_model.specs.declared.refusal.Refusal.{Refusal}
use Rattle.lc_model.specs.declared.refusal.Refusal.TheVariants.{DeviceFault}
use Rattle.lc_model.specs.declared.reply.Reply.{Reply}
use Rattle.lc_model.specs.declared.reply.Reply.TheVariants.{Refused}
use Rattle.lc_model.proofs.Rows.{step-row}
use Rattle.lc_core.specs.Devices.{HavePages, HaveSegments}
use Rattle.lc_events.specs.FaultReplies.{CountsFaults}
use Rattle.lc_journal.specs.FaultReplies.{is_device_fault, device_kind}
use Rattle.lc_events.specs.Faults.{SameDevices, SameLogAreas, log_failures, logs_of}
use Rattle.lc_core.specs.Faults.{area_failures}
use Rattle.lc_journal.specs.Log.{area_of}
use Rattle.lc_settled.specs.Numbers.{Numbers}
use Rattle.lc_desk.specs.Pages.{FitsArea, FitsPages}
use Rattle.lc_core.specs.Pages.{areas_of}
use Rattle.lc_events.specs.Paging.{FollowsPaging, HaltsFailed}
use Rattle.lc_core.specs.Paging.{HaltAll}
use Rattle.lc_desk.specs.Places.{get_set_other, get_set_same, same_map_set}
use Rattle.lc_events.specs.Refuses.{Refuses}
use Rattle.lc_settled.specs.Settled.{open_answer}
use Rattle.lc_settled.specs.Turns.{Turns, numbers_after}
use Rattle.lc_events.specs.Running.{FitsRunning}
use Rattle.lc_core.specs.World.{FitsUp, FollowsUp, LeadsTo}
use Rattle.lc_journal.specs.declared.log.Log.{Log}
use Rattle.lc_desk.specs.declared.pages.Pages.{Pages}
use Rattle.lc_events.specs.declared.running.Running.{Running}
use Rattle.lc_core.specs.declared.up.Up.{Up as Rising}
use Rattle.lc_core.proofs.CallsTold.{as_failed}
use Rattle.lc_core.proofs.PagesTurned.{halts_still, pages_turned}

-- what is refused at once leaves the numbers as they are
page_refused : (m : Setting) (s : State) (x : Numbers) (n segment page : ℕ) (refusal : Refusal) → is_device_fault refusal ≡ false → Turns m s x (PageStep n segment page) (Refused refusal) x
page_refused m s x n segment page DeviceFault is = absurd (true≢false is)
page_refused m s x n segment page _ is = refl

module _ {D : Type 0} (a : Ghosts D) where
  -- what it fits is what its nodes and its segments fit
  fits_alike : (up later : Rising D a) → later.running ≡ up.running → later.segments.items ≡ up.segments.items → (m : Setting) (s : State) (x : Numbers) → FitsUp a m up s x → FitsUp a m later s x
  fits_alike up later running segments m s x h = record {
    running = subst (λ (w : Running D a). FitsRunning a m w s x) (sym running) h.running;
    pages = subst (λ (l : List (Pages D a)). FitsPages a m l x) (sym segments) h.pages;
    failed = subst (λ (l : List (Pages D a)). HaltAll a s l) (sym segments) h.failed;
  }

  pub page_refused_up : (up later : Rising D a) → later.running ≡ up.running → later.segments.items ≡ up.segments.items → (n segment page : ℕ) (o : Option Refusal) (refusal : Refusal)
      → Refuses a up.running (PageStep n segment page) o → o ≡ Some refusal → is_device_fault refusal ≡ false → FollowsUp a up (PageStep n segment page) (Refused refusal) later
  page_refused_up up later running segments n segment page o refusal refuses some plain m s x h =
      let event : Event = PageStep n segment page in
      let common : common_refusal m.geometry s event ≡ Some refusal = sym (refuses m s x h.running) ∙ some in
      record {
        after = s;
        next = x;
        step = subst (λ (c : Option Refusal). Unless c s (Refused refusal) s (Row m s event (Refused refusal) s)) (sym common) (refl, refl);
        settled = (
          λ answer is. (let none : None ≡ Some answer = sym (ap (λ (c : Option Refusal). if is_some c then None else open_answer m s x event) common) ∙ is in absurd cc),
          λ recovers steps same. absurd cc,
        );
        turns = page_refused m s x n segment page refusal plain;
        fits = fits_alike up later running segments m s x h;
      }

  -- where nothing refuses it
  page_leads : (up later : Rising D a) (n k page : ℕ) (reply : Reply) (old new : Pages D a) → slice_get up.segments.items k ≡ Some old → later.segments.items ≡ slice_set up.segments.items k new
      → SameDevices a up.running later.running → (m : Setting) (s : State) (x : Numbers) → FitsUp a m up s x → common_refusal m.geometry s (PageStep n (k + 1) page) ≡ None
      → FollowsPaging a n (k + 1) page up.running old reply later.running new → LeadsTo m (PageStep n (k + 1) page) s x reply (FitsUp a m later)
  page_leads up later n k page reply old new at are devices m s x h common follows =
      let event : Event = PageStep n (k + 1) page in
      let on = follows m s x h.running common (h.pages.each k old at) (h.failed k old at) in
      let turns : on.0.next ≡ numbers_after m s x event reply = on.0.turns in
      let step = step-row m s event reply on.0.after common on.0.row in
      record {
        after = on.0.after;
        next = on.0.next;
        step = step;
        settled = on.0.settled;
        turns = on.0.turns;
        fits = record {
          running = on.0.fits;
          pages = subst (λ (segments : List (Pages D a)). FitsPages a m segments on.0.next) (sym are)
              (subst (λ (y : Numbers). FitsPages a m (slice_set up.segments.items k new) y) (sym turns)
              (pages_turned a m s x up.segments.items n k page old new reply at h.pages (subst (λ (y : Numbers). FitsArea a m.geometry (k + 1) new y) turns on.1)));
          failed = λ j pages got.
              (let there : slice_get (slice_set up.segments.items k new) j ≡ Some pages = ap (λ (l : List (Pages D a)). slice_get l j) (sym are) ∙ got in
              elim (cases_eq j k) [
                | inl same ↦
                    let own : slice_get (slice_set up.segments.items k new) k ≡ Some pages = subst (λ (i : ℕ). slice_get (slice_set up.segments.items k new) i ≡ Some pages) same there in
                    subst (λ (i : ℕ). HaltsFailed a on.0.after (i + 1) pages) (sym same)
                    (subst (λ (v : Pages D a). HaltsFailed a on.0.after (k + 1) v) (same_some new pages (sym (get_set_same up.segments.items k old new at) ∙ own)) on.2)
                | inr differ ↦ halts_still a m s event reply on.0.after h.running.up on.0.fits.up step (j + 1) pages (h.failed j pages (sym (get_set_other up.segments.items k j new differ) ∙ there))
              ]);
        };
      }

  pub page_follows_up : (up later : Rising D a) (n segment k page : ℕ) (reply : Reply) (old new : Pages D a) → k + 1 ≡ segment → slice_get up.segments.items k ≡ Some old
      → later.segments.items ≡ slice_set up.segments.items k new → SameDevices a up.running later.running → (o : Option Refusal) → Refuses a up.running (PageStep n segment page) o → o ≡ None
      → FollowsPaging a n segment page up.running old reply later.running new → FollowsUp a up (PageStep n segment page) reply later
  page_follows_up up later n segment k page reply old new next at are devices o refuses none follows m s x h =
      subst (λ (i : ℕ). common_refusal m.geometry s (PageStep n i page) ≡ None → FollowsPaging a n i page up.running old reply later.running new → LeadsTo m (PageStep n i page) s x reply (FitsUp a m later)) next
      (page_leads up later n k page reply old new at are devices m s x h) (sym (refuses m s x h.running) ∙ none) follows

  -- The devices

  map-areas : {B : Type 0} (f : Option D → B) (logs : List (Log D a)) → map (λ (log : Log D a). f (area_of a log)) logs ≡ map f (map (area_of a) logs)
  map-areas f [] = refl
  map-areas {B} f (log ∷ logs) = ap (λ (bs : List B). f (area_of a log) ∷ bs) (map-areas f logs)

  pub same_devices : (old new : Running D a) → SameLogAreas a old new → SameDevices a old new
  same_devices old new same = record {
    geometry = same.geometry;
    kinds = map-areas (λ (o : Option D). option_map (device_kind a) o) (logs_of a new.nodes.items) ∙ ap (map (λ (o : Option D). option_map (device_kind a) o)) same.areas
        ∙ sym (map-areas (λ (o : Option D). option_map (device_kind a) o) (logs_of a old.nodes.items));
  }

  same_failures : (old new : Running D a) → SameLogAreas a old new → log_failures a (logs_of a new.nodes.items) ≡ log_failures a (logs_of a old.nodes.items)
  same_failures old new same =
      map-areas (λ (o : Option D). option_map a.failures o) (logs_of a new.nodes.items) ∙ ap (map (λ (o : Option D). option_map a.failures o)) same.areas
      ∙ sym (map-areas (λ (o : Option D). option_map a.failures o) (logs_of a old.nodes.items))

  get_back : (xs ys : List (Option ℕ)) (k : ℕ) → slice_get (xs ++ ys) (length xs + k) ≡ slice_get ys k
  get_back [] ys k = ap (slice_get ys) (omega arith)
  get_back (x ∷ xs) ys k =
      let next : length (x ∷ xs) + k ≡ suc (length xs + k) = omega arith in
      ap (slice_get (x ∷ xs ++ ys)) next ∙ get_back xs ys k

  set_back : (xs ys : List (Option ℕ)) (k : ℕ) (y : Option ℕ) → xs ++ slice_set ys k y ≡ slice_set (xs ++ ys) (length xs + k) y
  set_back [] ys k y = ap (λ (i : ℕ). slice_set ys i y) (omega arith)
  set_back (x ∷ xs) ys k y =
      let next : suc (length xs + k) ≡ length (x ∷ xs) + k = omega arith in
      ap (λ (l : List (Option ℕ)). x ∷ l) (set_back xs ys k y) ∙ ap (λ (i : ℕ). slice_set (x ∷ xs ++ ys) i y) next

  -- the device of one segment, called once
  pub page_counts : (running after : Running D a) (segments : List (Pages D a)) (k : ℕ) (reply : Reply) (old new : Pages D a) → slice_get segments k ≡ Some old → SameLogAreas a running after
      → CalledAs a reply old.area new.area
      → CountsFaults reply (log_failures a (logs_of a running.nodes.items) ++ area_failures a (areas_of a segments))
      (log_failures a (logs_of a after.nodes.items) ++ area_failures a (areas_of a (slice_set segments k new)))
  page_counts running after segments k reply old new at same device =
      let counted = as_failed a reply old.area new.area device in
      let logs : List (Option ℕ) = log_failures a (logs_of a running.nodes.items) in
      let fail : Pages D a → Option ℕ = λ pages. Some (a.failures pages.area) in
      let fails : List (Option ℕ) = map fail segments in
      let now : log_failures a (logs_of a after.nodes.items) ++ area_failures a (areas_of a (slice_set segments k new)) ≡ logs ++ map fail (slice_set segments k new) =
      ap (λ (l : List (Option ℕ)). l ++ area_failures a (areas_of a (slice_set segments k new))) (same_failures running after same) ∙ ap (λ (l : List (Option ℕ)). logs ++ l) (through (slice_set segments k new)) in
      let before : logs ++ area_failures a (areas_of a segments) ≡ logs ++ fails = ap (λ (l : List (Option ℕ)). logs ++ l) (through segments) in
      record {
        fault = λ is. record {
          at = length logs + k;
          count = a.failures old.area;
          was = ap (λ (l : List (Option ℕ)). slice_get l (length logs + k)) before ∙ get_back logs fails k ∙ slice_get-map fail segments k ∙ ap (option_map fail) at;
          is = now ∙ ap (λ (l : List (Option ℕ)). logs ++ l) (map-set fail segments k new) ∙ set_back logs fails k (fail new)
              ∙ ap (λ (n : ℕ). slice_set (logs ++ fails) (length logs + k) (Some n)) (counted ∙ ap (λ (b : Bool). if not b then a.failures old.area else a.failures old.area + 1) is)
              ∙ ap (λ (l : List (Option ℕ)). slice_set l (length logs + k) (Some (a.failures old.area + 1))) (sym before);
        };
        none = λ is. now ∙ ap (λ (l : List (Option ℕ)). logs ++ l)
            (same_map_set fail segments k old new at (ap (λ (n : ℕ). Some n) (counted ∙ ap (λ (b : Bool). if not b then a.failures old.area else a.failures old.area + 1) is)))
            ∙ sym before;
      }
    where
      through : (segments : List (Pages D a)) → area_failures a (areas_of a segments) ≡ map (λ (pages : Pages D a). Some (a.failures pages.area)) segments
      through [] = refl
      through (pages ∷ segments) = ap (λ (l : List (Option ℕ)). Some (a.failures pages.area) ∷ l) (through segments)

  -- as many pages
  pub pages_set : (count : ℕ) (segments : List (Pages D a)) (k : ℕ) (old new : Pages D a) → slice_get segments k ≡ Some old → length new.writes.items ≡ length old.writes.items → HavePages a count segments
      → HavePages a count (slice_set segments k new)
  pages_set count segments k old new at same have j pages got = elim (cases_eq j k) [
    | inl here ↦
        let own : slice_get (slice_set segments k new) k ≡ Some pages = subst (λ (i : ℕ). slice_get (slice_set segments k new) i ≡ Some pages) here got in
        ap (λ (v : Pages D a). length v.writes.items) (sym (same_some new pages (sym (get_set_same segments k old new at) ∙ own))) ∙ same ∙ have k old at
    | inr differ ↦ have j pages (sym (get_set_other segments k j new differ) ∙ got)
  ]

  -- and its length stays
  pub lengths_set : (len : ℕ) (segments : List (Pages D a)) (k : ℕ) (old new : Pages D a) → slice_get segments k ≡ Some old → length (a.now new.area) ≡ length (a.now old.area) → HaveSegments a len segments
      → HaveSegments a len (slice_set segments k new)
  lengths_set len segments k old new at same have j pages got = elim (cases_eq j k) [
    | inl here ↦
        let own : slice_get (slice_set segments k new) k ≡ Some pages = subst (λ (i : ℕ). slice_get (slice_set segments k new) i ≡ Some pages) here got in
        ap (λ (v : Pages D a). length (a.now v.area)) (sym (same_some new pages (sym (get_set_same segments k old new at) ∙ own))) ∙ same ∙ have k old at
    | inr differ ↦ have j pages (sym (get_set_other segments k j new differ) ∙ got)
  ]
