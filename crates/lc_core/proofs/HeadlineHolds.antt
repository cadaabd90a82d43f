-- The headline follows from what a store fits after a run.
use Rattle.std.proofs.Common.{◌≡◌, ℕ, zero, suc, ◌+◌, ◌<◌, ◌%◌, Bool, true, false, List, [], ◌∷◌, ◌++◌, length, filter, map, sum_by, Option, None, Some, refl, sym, ap, subst, ◌∙◌, inl, inr, arith}
use Rattle.std.specs.Prelude.{◌-◌, if◌then◌else◌, slice_get, slice_set}
use Rattle.std.proofs.Math.Seq.{take-nil}
use Rattle.std.proofs.lemmas.List.{append-nil, nil_from_length}
use Rattle.std.proofs.lemmas.List.Elements.{All-weaker}
use Rattle.std.proofs.lemmas.List.Sums.{sum_by-cons}
use Rattle.std.proofs.lemmas.Option.{slice_get_within, same_Some as same_some}
use Rattle.lc_disk.specs.contracts.mem_area.MemAreaArea.TheImpl.{ghosts}
use Rattle.lc_disk.specs.declared.area.Area.{Ghosts}
use Rattle.lc_disk.specs.declared.mem_area.MemArea.{MemArea}
use Rattle.lc_record.specs.Content.{Content, segment_of}
use Rattle.lc_record.specs.Transaction.{IsWellFormed, Transaction, effects}
use Rattle.lc_record.specs.declared.geometry.Geometry.{Geometry}
use Rattle.lc_recover.specs.Reads.{AllMergeTo, AreHonest, AreImages, HaveLengths, store_of}
use Rattle.lc_recover.proofs.OneStore.{reads_one, reads_so}
use Rattle.lc_model.specs.Merge.{MergesTo, StoreText}
use Rattle.lc_model.specs.Merging.{counted_all}
use Rattle.lc_core.specs.Areas.{AreStopped}
use Rattle.lc_model.specs.History.{Cut, kept, transactions, value}
use Rattle.lc_model.specs.Machine.{RecoverRow, Row, Step}
use Rattle.lc_model.specs.Refusals.{Unless, is_at, is_up}
use Rattle.lc_model.specs.Sound.{Sound, IsProper}
use Rattle.lc_model.specs.State.{Phase as Condition, At, DownAt, Up as IsUpNow, Setting, State, first_state, fresh}
use Rattle.lc_model.specs.Stops.{MayCut}
use Rattle.lc_model.specs.declared.event.Event.{Event}
use Rattle.lc_model.specs.declared.event.Event.TheVariants.{RecoverStep}
use Rattle.lc_model.specs.declared.refusal.Refusal.{Refusal}
use Rattle.lc_model.specs.declared.reply.Reply.{Reply}
use Rattle.lc_model.specs.declared.reply.Reply.TheVariants.{Recovered}
use Rattle.lc_model.proofs.Downs.{acked-kept, kept-front}
use Rattle.lc_model.proofs.Law.{law_each, law_value}
use Rattle.lc_model.proofs.Order.{law_meet}
use Rattle.lc_journal.specs.FaultReplies.{is_fault}
use Rattle.lc_core.specs.Faults.{CountsAll, area_failures, phase_failures}
use Rattle.lc_core.specs.Headline.{AllMerge, Cuts, Holds, IsSerial, Leaves, MergeTo}
use Rattle.lc_settled.specs.Numbers.{Numbers}
use Rattle.lc_core.specs.Observed.{observed, stands_up}
use Rattle.lc_core.specs.Runs.{FollowsRun, Settles}
use Rattle.lc_settled.specs.Runs.{RunsOn}
use Rattle.lc_core.specs.Showing.{LendsPage, image_of}
use Rattle.lc_desk.specs.Showing.{page_of}
use Rattle.lc_desk.specs.Slots.{segment_to}
use Rattle.lc_core.specs.Stops.{HasAreas}
use Rattle.lc_settled.specs.Turns.{Turns}
use Rattle.lc_core.specs.World.{FitsPhase, FitsWorld}
use Rattle.lc_core.specs.declared.world_phase.WorldPhase.{WorldPhase}
use Rattle.lc_core.specs.declared.world_phase.WorldPhase.TheVariants.{Down, Up, Taken}
use Rattle.lc_core.specs.declared.world.World.{World}
use Rattle.lc_core.proofs.Bases.{Counts, counted_all-append, run_counts}
use Rattle.lc_core.proofs.ImagesFit.{images_merge, stopped_again, stopped_honest, stopped_images, stopped_lengths}
use Rattle.lc_settled.proofs.OneMore.{run_of}
use Rattle.lc_core.proofs.Recoveries.{none_common}
use Rattle.lc_core.proofs.Shown.{slot_shows}
use Rattle.lc_core.proofs.StaysHonest.{all_areas}
use Rattle.lc_core.proofs.Stopped.{areas_failed, their_honesty, their_lengths}

-- Failures, added up

abbrev pub failures_in : List (Option ℕ) → ℕ
failures_in [] = 0
failures_in (None ∷ counts) = failures_in counts
failures_in (Some count ∷ counts) = count + failures_in counts

one_more_in : (olds : List (Option ℕ)) (at count : ℕ) → slice_get olds at ≡ Some (Some count) → failures_in (slice_set olds at (Some (count + 1))) ≡ failures_in olds + 1
one_more_in [] at count was = absurd cc
one_more_in (None ∷ olds) zero count was = absurd (let no : None ≡ Some count = same_some None (Some count) was in cc)
one_more_in (Some n ∷ olds) zero count was = (let same : n ≡ count = same_some n count (same_some (Some n) (Some count) was) in omega (arith, same))
one_more_in (None ∷ olds) (suc at) count was = one_more_in olds at count was
one_more_in (Some n ∷ olds) (suc at) count was = (let more = one_more_in olds at count was in omega (arith, more))

pub counted_in : (replies : List Reply) (olds news : List (Option ℕ)) → CountsAll replies olds news → failures_in olds + length (filter is_fault replies) ≡ failures_in news
counted_in [] olds news all = (let same = ap failures_in all in omega (arith, same))
counted_in (reply ∷ replies) olds news all =
    let rest = counted_in replies all.0 news all.2 in
    elim (is_fault reply) as (λ (b : Bool). is_fault reply ≡ b → failures_in olds + length (if b then reply ∷ filter is_fault replies else filter is_fault replies) ≡ failures_in news) [
      | true ↦ λ is.
          (let once = all.1.fault is in
          let more = ap failures_in once.is ∙ one_more_in olds once.at once.count once.was in
          omega (arith, rest, more))
      | false ↦ λ is. (let same = ap failures_in (all.1.none is) in omega (arith, rest, same))
    ] refl

-- The last step of a run

pub record LastStep (m : Setting) (event : Event) (reply : Reply) (after : State) (next : Numbers) : Type 0 where
  pub mid : State
  pub between : Numbers
  pub step : Step m mid event reply after
  pub turns : Turns m mid between event reply next

pub last_step : (m : Setting) (s : State) (x : Numbers) (events : List Event) (replies : List Reply) (event : Event) (reply : Reply) (after : State) (next : Numbers)
    → RunsOn m s x (events ++ event ∷ []) (replies ++ reply ∷ []) after next → LastStep m event reply after next
last_step m s x [] [] event reply after next run = record {
  mid = s;
  between = x;
  step = subst (λ (v : State). Step m s event reply v) (sym run.5.0) run.2;
  turns = subst (λ (y : Numbers). Turns m s x event reply y) (sym run.5.1) run.4;
}
last_step m s x [] (r ∷ []) event reply after next run = absurd run.5
last_step m s x [] (r ∷ q ∷ replies) event reply after next run = absurd run.5
last_step m s x (e ∷ []) [] event reply after next run = absurd run.5
last_step m s x (e ∷ f ∷ events) [] event reply after next run = absurd run.5
last_step m s x (e ∷ events) (r ∷ replies) event reply after next run = last_step m run.0 run.1 events replies event reply after next run.5

-- a recovery that has come to its end leaves a fresh state
recovered_fresh : (m : Setting) (mid after : State) → Step m mid RecoverStep Recovered after → after ≡ fresh m.geometry after.earlier IsUpNow
recovered_fresh m mid after step = one mid.phase refl
  where
    row : RecoverRow mid.phase m.geometry mid Recovered after
    row = subst (λ (c : Option Refusal). Unless c mid Recovered after (Row m mid RecoverStep Recovered after)) (none_common m mid) step

    one : (p : Condition) → mid.phase ≡ p → after ≡ fresh m.geometry after.earlier IsUpNow
    one IsUpNow is = absurd (let no = (subst (λ (q : Condition). RecoverRow q m.geometry mid Recovered after) is row).0 in cc)
    one (DownAt cut) is = elim (subst (λ (q : Condition). RecoverRow q m.geometry mid Recovered after) is row) [
      | inl stepped ↦ absurd (let no = stepped.1 in cc)
      | inr other ↦ elim other [
        | inl fault ↦ absurd (let no = fault.0 in cc)
        | inr done ↦ done.1 ∙ ap (λ (earlier : List Transaction). fresh m.geometry earlier IsUpNow) (sym (ap (λ (s : State). s.earlier) done.1))
      ]
    ]

-- in which each node shows the value
fresh_image : (m : Setting) (earlier : List Transaction) (x : Numbers) (node segment : ℕ)
    → image_of m (fresh m.geometry earlier IsUpNow) x node segment ≡ segment_of segment (value m.start earlier [])
fresh_image m earlier x node segment = elim (is_at node (At (segment % m.geometry.nodes))) as (λ (b : Bool).
    (if b then segment_of segment (value m.start earlier []) else segment_to m (fresh m.geometry earlier IsUpNow) x.disks segment (x.applied node segment)) ≡ segment_of segment (value m.start earlier [])) [
      | true ↦ refl
      | false ↦
          ap (λ (ts : List Transaction). segment_of segment (effects ts (effects earlier m.start))) (take-nil (x.applied node segment - x.disks.numbers segment))
          ∙ sym (ap (λ (ts : List Transaction). segment_of segment (effects ts m.start)) (append-nil earlier))
    ]

fresh_shows : (m : Setting) (s : State) (x : Numbers) (node segment : ℕ) → s ≡ fresh m.geometry s.earlier IsUpNow → image_of m s x node segment ≡ segment_of segment (effects s.earlier m.start)
fresh_shows m s x node segment is =
    ap (λ (v : State). image_of m v x node segment) is ∙ fresh_image m s.earlier x node segment
    ∙ ap (λ (ts : List Transaction). segment_of segment (effects ts m.start)) (append-nil s.earlier)

-- A cut is a serial order's prefix

by_store : (g : Geometry) (images : List (List ℕ)) (content : Content) (numbers : ℕ → ℕ) → MergesTo (store_of g images) content numbers → MergeTo g images content numbers
by_store g images content numbers merges = (store_of g images, reads_so g images, merges)

of_store : (g : Geometry) (images : List (List ℕ)) (content : Content) (numbers : ℕ → ℕ) → MergeTo g images content numbers → MergesTo (store_of g images) content numbers
of_store g images content numbers merges = subst (λ (store : StoreText). MergesTo store content numbers) (reads_one g images merges.0 merges.1) merges.2

merges_so : (m : Setting) (s : State) (x : Numbers) (numbers : ℕ → ℕ) → Counts numbers s x → (cut : Cut) (images : List (List ℕ))
    → MergesTo (store_of m.geometry images) (effects (s.earlier ++ kept s.history cut) m.start) (counted_all x.disks.numbers (kept s.history cut))
    → MergeTo m.geometry images (effects (s.earlier ++ kept s.history cut) m.start) (counted_all numbers (s.earlier ++ kept s.history cut))
merges_so m s x numbers counts cut images merges =
    by_store m.geometry images _ _
    (subst (λ (n : ℕ → ℕ). MergesTo (store_of m.geometry images) (effects (s.earlier ++ kept s.history cut) m.start) n)
    (ap (λ (n : ℕ → ℕ). counted_all n (kept s.history cut)) counts ∙ sym (counted_all-append numbers s.earlier (kept s.history cut))) merges)

cut_serial : (m : Setting) (s : State) (cut : Cut) → Sound m.geometry s → MayCut m.geometry s cut → IsSerial m s cut
cut_serial m s cut sound may = record {
  each_once = law_each s.history cut;
  value_is = law_value m.start s.earlier s.history cut (All-weaker (IsProper m.geometry) IsWellFormed (λ t proper. proper.well) (transactions s.history) sound.history_proper) may.1;
  in_order = law_meet s.history cut may.1;
  closed = λ node. kept-front m.geometry s cut node sound may;
  acknowledged = λ node below. acked-kept m.geometry s node _ sound (may.2 node below);
}

module _ {D : Type 0} (a : Ghosts D) where
  -- What areas merge to, by the grammar and by the list that computes

  pub all_by : (g : Geometry) (areas : List D) (content : Content) (numbers : ℕ → ℕ) → AllMergeTo a g areas content numbers → AllMerge a g areas content numbers
  all_by g areas content numbers merge = λ images are. by_store g images content numbers (merge images are)

  pub all_of : (g : Geometry) (areas : List D) (content : Content) (numbers : ℕ → ℕ) → AllMerge a g areas content numbers → AllMergeTo a g areas content numbers
  all_of g areas content numbers merge = λ images are. of_store g images content numbers (merge images are)

  -- The areas of a store that fits

  pub areas_there : (phase : WorldPhase D a) (m : Setting) (s : State) (x : Numbers) → FitsPhase a m phase s x → (areas : List D) × HasAreas a phase m.geometry areas
  areas_there (Down r) m s x h = (r.areas, (sym h.geometry_is, refl))
  areas_there (Up up) m s x h =
      let all = all_areas a up in
      (all.0, (h.0.running.geometry_is, all.1))
  areas_there Taken m s x h = absurd h

  up_as : (phase : WorldPhase D a) (m : Setting) (s : State) (x : Numbers) → FitsPhase a m phase s x → stands_up a phase ≡ is_up s.phase
  up_as (Down r) m s x h = sym (ap is_up h.down)
  up_as (Up up) m s x h = sym (ap is_up h.0.running.up)
  up_as Taken m s x h = absurd h

  -- their failures
  pub failures_are : (areas : List D) → failures_in (area_failures a areas) ≡ sum_by a.failures areas
  failures_are [] = refl
  failures_are (area ∷ areas) = (let others = failures_are areas in omega (arith, others, sum_by-cons a.failures area areas))

  failed_so : (phase : WorldPhase D a) (m : Setting) (failures : ℕ) (areas : List D) → HasAreas a phase m.geometry areas → failures ≡ failures_in (phase_failures a phase) → sum_by a.failures areas ≡ failures
  failed_so phase m failures areas are counts = sym (failures_are areas) ∙ ap failures_in (sym (areas_failed a phase m.geometry areas are)) ∙ sym counts

  -- and what a stop leaves of them
  area_left : (phase : WorldPhase D a) (m : Setting) (s : State) (x : Numbers) (numbers : ℕ → ℕ) (failures : ℕ) → Counts numbers s x → failures ≡ failures_in (phase_failures a phase) → FitsPhase a m phase s x
      → (areas : List D) → HasAreas a phase m.geometry areas → Leaves a m s numbers failures areas
  area_left (Down r) m s x numbers failures counts failed h areas are =
      let may = h.sound.down_cut h.cut h.down in
      record {
        lengths = subst (λ (l : List D). HaveLengths a m.geometry l) (sym are.1) (subst (λ (g : Geometry). HaveLengths a g r.areas) h.geometry_is h.lengths);
        honest = subst (λ (l : List D). AreHonest a l) (sym are.1) h.honest;
        faults = failed_so (Down r) m failures areas are failed;
        left = λ images left. record {
          cut = h.cut;
          cuts = subst (λ (p : Condition). Cuts p m.geometry s h.cut) (sym h.down) (refl, may);
          serial = cut_serial m s h.cut h.sound may;
          merges = merges_so m s x numbers counts h.cut images (h.merges images (subst (λ (l : List D). AreImages a l images) are.1 left));
        };
      }
  area_left (Up up) m s x numbers failures counts failed h areas are =
      let honest = their_honesty a up areas are.1 h.1 in
      record {
        lengths = subst (λ (g : Geometry). HaveLengths a g areas) (sym h.0.running.geometry_is) (their_lengths a up areas are.1);
        honest = honest;
        faults = failed_so (Up up) m failures areas are failed;
        left = λ images left.
            let one = images_merge a m s x up areas images h.0.running h.0.pages honest are.1 left in
            record {
              cut = one.0;
              cuts = subst (λ (p : Condition). Cuts p m.geometry s one.0) (sym h.0.running.up) one.1;
              serial = cut_serial m s one.0 h.0.running.sound one.1;
              merges = merges_so m s x numbers counts one.0 images one.2;
            };
      }
  area_left Taken m s x numbers failures counts failed h areas are = absurd h

  -- the areas that a store has are of the geometry that it fits
  geometry_of : (phase : WorldPhase D a) (m : Setting) (s : State) (x : Numbers) (g : Geometry) (areas : List D) → FitsPhase a m phase s x → HasAreas a phase g areas → g ≡ m.geometry
  geometry_of (Down r) m s x g areas h are = are.0 ∙ h.geometry_is
  geometry_of (Up up) m s x g areas h are = are.0 ∙ sym h.0.running.geometry_is
  geometry_of Taken m s x g areas h are = absurd h

  -- what is lent of a page is its part of the node's image
  lent_shows : (phase : WorldPhase D a) (m : Setting) (s : State) (x : Numbers) (node segment page : ℕ) (bytes : List ℕ) → FitsPhase a m phase s x → LendsPage a phase node segment page bytes
      → bytes ≡ page_of (image_of m s x node segment) page
  lent_shows (Up up) m s x node segment page bytes h lends =
      let its = lends.0 in
      let slot = lends.1 in
      let slots = its.desk.here.slots in
      let one = h.0.running.each node its lends.3 in
      let inside : segment - 1 < length slots.items = slice_get_within slots.items (segment - 1) slot lends.4 in
      let count : slots.len ≡ up.running.geometry.segments = (up.running.whole node its lends.3).slots in
      let below : segment - 1 < m.geometry.segments = omega (arith, inside, count, slots.ok.0, ap (λ (g : Geometry). g.segments) h.0.running.geometry_is) in
      let same : suc (segment - 1) ≡ segment = omega (arith, lends.2) in
      lends.5
      ∙ ap (λ (image : List ℕ). page_of image page)
      (subst (λ (n : ℕ). slot.image.bytes.items ≡ image_of m s x node n) same
      (slot_shows m node its.desk.here its.desk.seats.items s h.0.running.sound one.desk x one.slots (segment - 1) slot lends.4 below))
  lent_shows (Down r) m s x node segment page bytes h lends = absurd lends
  lent_shows Taken m s x node segment page bytes h lends = absurd lends

  -- so it is of any store that fits
  pub fits_leaves : (m : Setting) (s : State) (x : Numbers) (phase : WorldPhase D a) (numbers : ℕ → ℕ) (g : Geometry) (areas : List D) → FitsPhase a m phase s x → Counts numbers s x → HasAreas a phase g areas
      → (g ≡ m.geometry) × Leaves a m s numbers (sum_by a.failures areas) areas
  fits_leaves m s x phase numbers g areas h counts are =
      let same = geometry_of phase m s x g areas h are in
      let leaves = area_left phase m s x numbers _ counts refl h areas (subst (λ (shape : Geometry). HasAreas a phase shape areas) same are) in
      (same, subst (λ (n : ℕ). Leaves a m s numbers n areas) (sym leaves.faults) leaves)

  -- the headline, of a run from a store that fits the first state
  pub holds : (m : Setting) (x : Numbers) (numbers : ℕ → ℕ) (old new : World D a) (events : List Event) (replies : List Reply) → x.disks.numbers ≡ numbers → FitsWorld a m old (first_state m.geometry) x
      → FollowsRun a old events replies new → CountsAll replies (phase_failures a old.phase) (phase_failures a new.phase) → Holds a m numbers events replies (failures_in (phase_failures a old.phase)) (observed a new)
  holds m x numbers old new events replies numbers_are h run counts =
      let on = run m (first_state m.geometry) x h in
      let counted = run_counts m numbers (first_state m.geometry) x events replies on.0 on.1 numbers_are on.2 in
      record {
        after = on.0;
        answers = record {
          run = run_of m (first_state m.geometry) x events replies on.0 on.1 on.2;
          up = up_as new.phase m on.0 on.1 on.3;
          shown = λ before told events_are replies_are node segment page bytes lends.
              let runs : RunsOn m (first_state m.geometry) x (before ++ RecoverStep ∷ []) (told ++ Recovered ∷ []) on.0 on.1 =
              subst (λ (rs : List Reply). RunsOn m (first_state m.geometry) x (before ++ RecoverStep ∷ []) rs on.0 on.1) replies_are
              (subst (λ (es : List Event). RunsOn m (first_state m.geometry) x es replies on.0 on.1) events_are on.2) in
              let last = last_step m (first_state m.geometry) x before told RecoverStep Recovered on.0 on.1 runs in
              lent_shows new.phase m on.0 on.1 node segment page bytes on.3 lends
              ∙ ap (λ (image : List ℕ). page_of image page) (fresh_shows m on.0 on.1 node segment (recovered_fresh m last.mid on.0 last.step));
        };
        some_areas = areas_there new.phase m on.0 on.1 on.3;
        leaves = λ g areas are.
            let same = geometry_of new.phase m on.0 on.1 g areas on.3 are in (
              same,
              area_left new.phase m on.0 on.1 numbers _ counted (counted_in replies _ _ counts) on.3 areas (subst (λ (shape : Geometry). HasAreas a new.phase shape areas) same are),
            );
      }

  -- and beside it, what the store fits
  pub settles : (m : Setting) (x : Numbers) (old new : World D a) (events : List Event) (replies : List Reply) → FitsWorld a m old (first_state m.geometry) x → FollowsRun a old events replies new
      → Settles a m x events replies new
  settles m x old new events replies h run = run m (first_state m.geometry) x h

  -- areas that read as images of those that are left begin another life
  pub next_life : (m : Setting) (numbers : ℕ → ℕ) (failures : ℕ) (s : State) (areas news : List D) → Leaves a m s numbers failures areas → AreStopped a areas news
      → (cut : Cut) × Cuts s.phase m.geometry s cut × HaveLengths a m.geometry news × AreHonest a news
      × AllMerge a m.geometry news (effects (s.earlier ++ kept s.history cut) m.start) (counted_all numbers (s.earlier ++ kept s.history cut))
  next_life m numbers failures s areas news leaves stopped =
      let one = leaves.left (map a.now news) (stopped_images a areas news leaves.honest stopped) in (
        one.cut,
        one.cuts,
        stopped_lengths a areas news stopped m.geometry leaves.lengths,
        stopped_honest a areas news stopped leaves.honest,
        λ images are. subst
            (λ (l : List (List ℕ)). MergeTo m.geometry l (effects (s.earlier ++ kept s.history one.cut) m.start) (counted_all numbers (s.earlier ++ kept s.history one.cut)))
            (sym (stopped_again a areas news images leaves.honest stopped are)) one.merges,
      )

-- areas in memory never fail
pub none_failed : (areas : List MemArea) → sum_by ghosts.failures areas ≡ 0
none_failed [] = refl
none_failed (area ∷ areas) = (let rest = none_failed areas in omega (arith, rest, sum_by-cons ghosts.failures area areas))

-- so no reply tells of a failure
pub none_told : (before areas : List MemArea) (replies : List Reply) → sum_by ghosts.failures areas ≡ sum_by ghosts.failures before + length (filter is_fault replies) → filter is_fault replies ≡ []
none_told before areas replies is = nil_from_length (filter is_fault replies) (omega (arith, is, none_failed areas))
