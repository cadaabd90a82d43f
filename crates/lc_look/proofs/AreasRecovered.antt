-- A recovery on its own, step by step, and what is printed after it.
use Rattle.std.proofs.Common.{◌≡◌, ◌∙◌, ℕ, zero, suc, ◌+◌, ◌-◌, ◌≤◌, ◌<◌, List, [], ◌∷◌, ◌++◌, map, length, drop, Option, Some, refl, sym, ap, ap₂, subst, arith, inl, inr}
use Rattle.std.specs.Prelude.{Result, Ok, Err, IfOk, IsErr, OnOk, MatchResult, flat_map}
use Rattle.std.specs.Io.KnownBytes.{Appends}
use Rattle.std.proofs.KnownBytes.{Appends-trans}
use Rattle.std.proofs.lemmas.Bool.{cases_lt}
use Rattle.std.proofs.lemmas.List.{flat_map_more, length-drop, length-map}
use Rattle.std.proofs.lemmas.Result.{IfOk-from_err}
use Rattle.lc_disk.specs.declared.area.Area.{Ghosts}
use Rattle.lc_record.specs.Content.{Content}
use Rattle.lc_record.specs.Marks.{counting}
use Rattle.lc_record.specs.declared.geometry.Geometry.{Geometry}
use Rattle.lc_record.proofs.ListLemmas.{counting_push as counting_more}
use Rattle.lc_model.specs.Merge.{MergeFault, MergesTo, Refuses, StoreText}
use Rattle.lc_model.specs.Stored.{page_bytes}
use Rattle.lc_model.proofs.Outcome.{fault-apart, one-value}
use Rattle.lc_model.specs.declared.refusal.Refusal.{Refusal}
use Rattle.lc_model.specs.declared.reply.Reply.TheVariants.{Recovered as IsReply}
use Rattle.lc_recover.specs.Fault.{IsRefusal}
use Rattle.lc_recover.specs.Pages.{pages_read}
use Rattle.lc_recover.specs.Reads.{AllMergeTo, AreHonest, AreOfBytes, HaveLengths, ReadsRefused, area_count, store_of}
use Rattle.lc_recover.specs.Recovered.{IsMade, RecoveredStore, page_of, page_read_of, sequence_of}
use Rattle.lc_recover.specs.Recovery.{IsDone, IsLast, IsMergeNext, IsMerged, Recovering, Tells, all_steps, begun}
use Rattle.lc_recover.specs.Steps.{first_steps}
use Rattle.lc_recover.specs.declared.fault.RecoverFault.{RecoverFault}
use Rattle.lc_recover.specs.declared.fault.RecoverFault.TheVariants.{BadGeometry, Gap, Twice, OutOfSegment, DeviceFault, NoMemory}
use Rattle.lc_recover.specs.declared.progress.Progress.{Progress}
use Rattle.lc_recover.specs.declared.progress.Progress.TheVariants.{Stepped, Recovered as IsEnd}
use Rattle.lc_recover.proofs.Images.{count-areas, own-image}
use Rattle.lc_look.specs.Recovers.{AreNumbered, Explains, IsOutward, Recovers, RecoversAreas, stop_status, stop_text}
use Rattle.lc_look.specs.Refused.{AreRefused, RefusesMerge, RefusesStore}
use Rattle.lc_text.specs.Text.{recovered_text, refusal_text, reply_text, segment_text}
use Rattle.lc_look.proofs.Refusals.{same_refusal}
use Rattle.lc_look.proofs.RenewedBytes.{renewed_bytes}
use Rattle.lc_text.proofs.Writes.{same_bytes}

-- what is no step is the end
pub done_of : {D : Type 0} (progress : Progress) (r : Recovering D) → ((steps : ℕ) → progress ≡ Stepped steps → ⊥) → Tells progress r → IsDone r
done_of (Stepped steps) r not tells = absurd (not steps refl)
done_of IsEnd r not tells = tells

module _ {D : Type 0} (a : Ghosts D) (g : Geometry) (areas : List D) where
  -- where their merge is refused: it is still to come, and the areas read as they did
  pub record IsBefore (r : Recovering D) : Type 0 where
    pub honest : AreHonest a r.areas
    pub same : map a.now r.areas ≡ map a.now areas
    pub early : r.steps + 1 ≤ first_steps g

  -- the recovery of these areas goes on
  pub record Goes (r : Recovering D) : Type 0 where
    pub geometry : r.geometry ≡ g
    pub left : IsDone r → ⊥
    pub honest : AreHonest a areas → AreHonest a r.areas
    pub merges : (content : Content) (numbers : ℕ → ℕ) → AreHonest a areas → AllMergeTo a g areas content numbers → AllMergeTo a g r.areas content numbers
    pub before : (fault : MergeFault) → AreHonest a areas → ReadsRefused a g areas fault → IsBefore r

  pub first_goes : (r : Recovering D) → r ≡ begun g areas → Goes r
  first_goes r is = subst (λ (r : Recovering D). Goes r) (sym is) (record {
    geometry = refl;
    left = λ done. let none = done.1 in absurd cc;
    honest = λ honest. honest;
    merges = λ content numbers honest merges. merges;
    before = λ fault honest refused. record { honest = honest; same = refl; early = omega arith };
  })

  there : (r : Recovering D) → r.geometry ≡ g → map a.now r.areas ≡ map a.now areas → store_of r.geometry (map a.now r.areas) ≡ store_of g (map a.now areas)
  there r geometry same = ap₂ (λ (h : Geometry) (l : List (List ℕ)). store_of h l) geometry same

  -- One step, whatever it answers

  module _ (old new : Recovering D) (goes : Goes old) (geometry : new.geometry ≡ old.geometry) (honest : AreHonest a old.areas → AreHonest a new.areas)
      (merges : (content : Content) (numbers : ℕ → ℕ) → AreHonest a new.areas → AllMergeTo a old.geometry old.areas content numbers → AllMergeTo a old.geometry new.areas content numbers) where
    still_honest : AreHonest a areas → AreHonest a new.areas
    still_honest is = honest (goes.honest is)

    still_merge : (content : Content) (numbers : ℕ → ℕ) → AreHonest a areas → AllMergeTo a g areas content numbers → AllMergeTo a g new.areas content numbers
    still_merge content numbers is all =
        let before : AllMergeTo a old.geometry old.areas content numbers = subst (λ (h : Geometry). AllMergeTo a h old.areas content numbers) (sym goes.geometry) (goes.merges content numbers is all) in
        subst (λ (h : Geometry). AllMergeTo a h new.areas content numbers) goes.geometry (merges content numbers (still_honest is) before)

    module _ (steps : new.steps ≡ old.steps + 1) (reads : old.steps + 1 < first_steps old.geometry → AreHonest a old.areas → map a.now new.areas ≡ map a.now old.areas)
        (merged : IsMergeNext old → AreHonest a old.areas → IsMerged a new) (no_call : IsMergeNext old → new.areas ≡ old.areas) where
      -- the merge was not accepted
      not_merged : (fault : MergeFault) → AreHonest a areas → ReadsRefused a g areas fault → IsMergeNext old → ⊥
      not_merged fault is refused next =
          let at = goes.before fault is refused in
          let made = merged next at.honest in
          let same : store_of new.geometry (map a.now new.areas) ≡ store_of g (map a.now areas) = there new (geometry ∙ goes.geometry) (ap (map a.now) (no_call next) ∙ at.same) in
          fault-apart (store_of g (map a.now areas)) fault made.content made.numbers refused (subst (λ (s : StoreText). MergesTo s made.content made.numbers) same made.merges)

      still_before : (fault : MergeFault) → AreHonest a areas → ReadsRefused a g areas fault → IsBefore new
      still_before fault is refused =
          let at = goes.before fault is refused in
          let early : old.steps + 1 ≤ first_steps old.geometry = subst (λ (h : Geometry). old.steps + 1 ≤ first_steps h) (sym goes.geometry) at.early in
          elim (cases_lt (old.steps + 1) (first_steps old.geometry)) [
            | inl earlier ↦ record {
              honest = still_honest is;
              same = reads earlier at.honest ∙ at.same;
              early = subst (λ (h : Geometry). new.steps + 1 ≤ first_steps h) goes.geometry (omega (arith, steps, earlier));
            }
            | inr late ↦ absurd (not_merged fault is refused (omega (arith, early, late)))
          ]

      pub next_goes : (IsDone new → ⊥) → Goes new
      next_goes left = record {
        geometry = geometry ∙ goes.geometry;
        left = left;
        honest = still_honest;
        merges = still_merge;
        before = still_before;
      }

      -- the last step is after the merge
      accepted : IsLast old → (fault : MergeFault) → AreRefused a g areas fault → ⊥
      accepted last fault refused =
          let at = goes.before fault refused.honest refused.refused in
          let all : old.steps + 1 ≡ all_steps g last.0 = last.2 ∙ ap (λ (h : Geometry). all_steps h last.0) goes.geometry in
          omega (arith, at.early, all, g.some_nodes)

      -- the areas as they read merge to one result
      module _ (right : HaveLengths a new.geometry new.areas) (bytes : AreOfBytes a new.areas) (result : RecoveredStore D) (same_geometry : result.geometry ≡ new.geometry)
          (same_areas : result.areas ≡ new.areas) (made : IsMade a result) (numbers : ℕ → ℕ) (known : AreNumbered a g areas numbers) where
        its_geometry : result.geometry ≡ g
        its_geometry = same_geometry ∙ geometry ∙ goes.geometry

        one_result : (made.content ≡ known.content) × ((segment : ℕ) → 1 ≤ segment → segment ≤ g.segments → made.numbers segment ≡ numbers segment)
        one_result =
            let honest_now : AreHonest a new.areas = still_honest known.honest in
            let its_honest : AreHonest a result.areas = subst (AreHonest a) (sym same_areas) honest_now in
            let images : List (List ℕ) = map a.now new.areas in
            let own = own-image a new.areas (λ k device is. bytes k device is (honest_now k device is)) in
            let all_g : AllMergeTo a g result.areas made.content made.numbers = subst (λ (h : Geometry). AllMergeTo a h result.areas made.content made.numbers) its_geometry (made.all its_honest) in
            let all : AllMergeTo a g new.areas made.content made.numbers = subst (λ (l : List D). AllMergeTo a g l made.content made.numbers) same_areas all_g in
            let known_all : AllMergeTo a g new.areas known.content numbers = still_merge known.content numbers known.honest known.merges in
            let all_areas : length new.areas ≡ area_count g = count-areas a g new.areas (subst (λ (h : Geometry). HaveLengths a h new.areas) (geometry ∙ goes.geometry) right) in
            let count : length (store_of g images).pages ≡ g.segments =
            length-map (drop g.nodes images) (pages_read g.pages) ∙ omega (arith, length-drop g.nodes images, length-map new.areas a.now, all_areas) in
            let one = one-value (store_of g images) made.content known.content made.numbers numbers (all images own) (known_all images own) in
            (one.0, λ segment first last. one.1 segment first (omega (arith, last, count)))

        its_numbers : (segment : ℕ) → 1 ≤ segment → segment ≤ g.segments → sequence_of result segment ≡ numbers segment
        its_numbers segment first last = made.sequences segment first (subst (λ (h : Geometry). segment ≤ h.segments) (sym its_geometry) last) ∙ one_result.1 segment first last

        its_bytes : (segment page : ℕ) → 1 ≤ segment → segment ≤ g.segments → page < g.pages → (page_of result segment page).bytes ≡ page_bytes segment page known.content
        its_bytes segment page first last within =
            renewed_bytes made.store made.content made.numbers (page_read_of result) result.geometry segment page made.merges.2 made.readable made.renewed first
            (subst (λ (h : Geometry). segment ≤ h.segments) (sym its_geometry) last) (subst (λ (h : Geometry). page < h.pages) (sym its_geometry) within)
            ∙ ap (page_bytes segment page) one_result.0

      pub recovers : HaveLengths a g areas → HaveLengths a new.geometry new.areas → AreOfBytes a new.areas → IsLast old → (result : RecoveredStore D) → result.geometry ≡ new.geometry → result.areas ≡ new.areas
          → IsMade a result → Recovers a g areas result
      recovers lengths right bytes last result same_geometry same_areas made = record {
        geometry = same_geometry ∙ geometry ∙ goes.geometry;
        lengths = lengths;
        numbers = its_numbers right bytes result same_geometry same_areas made;
        bytes = its_bytes right bytes result same_geometry same_areas made;
        accepted = accepted last;
      }

  -- Why it did not come to its end

  -- a step has failed
  module _ (old : Recovering D) (fault : RecoverFault) (goes : Goes old) where
    pub explains_step : HaveLengths a g areas
        → ((content : Content) (numbers : ℕ → ℕ) → AreHonest a old.areas → AllMergeTo a old.geometry old.areas content numbers → IsOutward fault)
        → ((IsMergeNext old → ⊥) → IsOutward fault) → (IsMergeNext old → AreHonest a old.areas → IsRefusal (store_of old.geometry (map a.now old.areas)) fault) → Explains a g areas fault
    explains_step lengths accepts calls refuses = record {
      merging = λ numbers known.
          accepts known.content numbers (goes.honest known.honest)
          (subst (λ (h : Geometry). AllMergeTo a h old.areas known.content numbers) (sym goes.geometry) (goes.merges known.content numbers known.honest known.merges));
      refused = λ merge refused.
          let at = goes.before merge refused.honest refused.refused in
          let early : old.steps + 1 ≤ first_steps old.geometry = subst (λ (h : Geometry). old.steps + 1 ≤ first_steps h) (sym goes.geometry) at.early in
          elim (cases_lt (old.steps + 1) (first_steps old.geometry)) [
            | inl earlier ↦ inr (calls (λ next. omega (arith, earlier, next)))
            | inr late ↦ inl (subst (λ (s : StoreText). IsRefusal s fault) (there old goes.geometry at.same) (refuses (omega (arith, early, late)) at.honest))
          ];
      wrong = λ area wrong. absurd (wrong.is (lengths area));
    }

-- What is printed

-- the numbers of the first segments
abbrev pub first_segments : (ℕ → ℕ) → ℕ → List ℕ
first_segments numbers count = flat_map (λ segment. segment_text segment (numbers segment)) (counting 1 count)

pub one_segment : (numbers : ℕ → ℕ) (segment : ℕ) (o m n : Option (List ℕ)) → 1 ≤ segment → Appends o m (first_segments numbers (segment - 1)) → Appends m n (segment_text segment (numbers segment))
    → Appends o n (first_segments numbers (segment + 1 - 1))
one_segment numbers segment o m n some front own =
    let its : ℕ → List ℕ = λ k. segment_text k (numbers k) in
    let next : 1 + (segment - 1) ≡ segment = omega arith in
    let count : suc (segment - 1) ≡ segment + 1 - 1 = omega arith in
    let list : counting 1 (segment - 1) ++ segment ∷ [] ≡ counting 1 (segment + 1 - 1) =
    ap (λ (k : ℕ). counting 1 (segment - 1) ++ k ∷ []) (sym next) ∙ sym (counting_more 1 (segment - 1)) ∙ ap (counting 1) count in
    same_bytes o n _ _ (flat_map_more its [] (counting 1 (segment - 1)) segment ∙ ap (flat_map its) list) (Appends-trans o m n _ _ front own)

pub same_numbers : (f h : ℕ → List ℕ) (from n : ℕ) → ((k : ℕ) → from ≤ k → k < from + n → f k ≡ h k) → flat_map f (counting from n) ≡ flat_map h (counting from n)
same_numbers f h from zero each = refl
same_numbers f h from (suc n) each =
    ap₂ (λ (x y : List ℕ). x ++ y) (each from (omega arith) (omega arith))
    (same_numbers f h (from + 1) n (λ k low high. each k (omega (arith, low)) (omega (arith, high))))

same_text : {D : Type 0} (g : Geometry) (numbers : ℕ → ℕ) (store : RecoveredStore D) → store.geometry ≡ g
    → ((segment : ℕ) → 1 ≤ segment → segment ≤ g.segments → sequence_of store segment ≡ numbers segment) → recovered_text store.geometry (sequence_of store) ≡ recovered_text g numbers
same_text g numbers store same each =
    ap (λ (h : Geometry). recovered_text h (sequence_of store)) same
    ∙ ap (λ (t : List ℕ). t ++ reply_text IsReply)
    (same_numbers (λ segment. segment_text segment (sequence_of store segment)) (λ segment. segment_text segment (numbers segment)) 1 g.segments
    (λ segment low high. ap (segment_text segment) (each segment low (omega (arith, high)))))

-- what was refused ends with its refusal
merge_stop : (store : StoreText) (merge : MergeFault) (found : RecoverFault) → Refuses store merge → IsRefusal store found → RefusesStore merge (stop_text found) (stop_status found)
merge_stop store merge (BadGeometry area) refused is = inl (ap refusal_text (same_refusal store merge (BadGeometry area) (Refusal.BadGeometry area) refused is refl), refl)
merge_stop store merge (Gap segment seq) refused is = inl (ap refusal_text (same_refusal store merge (Gap segment seq) (Refusal.Gap segment seq) refused is refl), refl)
merge_stop store merge (Twice segment seq) refused is = inl (ap refusal_text (same_refusal store merge (Twice segment seq) (Refusal.Twice segment seq) refused is refl), refl)
merge_stop store merge (OutOfSegment area) refused is = inl (ap refusal_text (same_refusal store merge (OutOfSegment area) (Refusal.OutOfSegment (Some area)) refused is refl), refl)
merge_stop store merge DeviceFault refused is = absurd is
merge_stop store merge NoMemory refused is = inr (inr (refl, refl))

module _ {A E F : Type 0} (written : Result A E) (result : Result ℕ F) (status : ℕ) (how : MatchResult written (λ _. result ≡ Ok status) (λ _. IsErr result)) where
  pub ended_with : (Shown : Type 0) (P : ℕ → Type 0) → OnOk written Shown → (Shown → P status) → IfOk result P
  ended_with Shown P shown so = go written how shown
    where
      go : (w : Result A E) → MatchResult w (λ _. result ≡ Ok status) (λ _. IsErr result) → OnOk w Shown → IfOk result P
      go (Ok x) is shown = subst (λ (r : Result ℕ F). IfOk r P) (sym is) (so shown)
      go (Err e) is shown = IfOk-from_err result P is

module _ {D : Type 0} (a : Ghosts D) (g : Geometry) (areas : List D) (held holds : Option (List ℕ)) where
  module _ (store : RecoveredStore D) (made : Recovers a g areas store) where
    pub prints_numbers : Appends held holds (recovered_text store.geometry (sequence_of store)) → RecoversAreas a g areas held holds 0
    prints_numbers shown numbers known = (recovered_text g numbers, inl (refl, refl), same_bytes held holds _ _ (same_text g numbers store made.geometry (made.numbers numbers known)) shown)

  module _ (fault : RecoverFault) (why : Explains a g areas fault) (shown : Appends held holds (stop_text fault)) where
    pub stops_recovery : RecoversAreas a g areas held holds (stop_status fault)
    stops_recovery numbers known =
        elim (why.merging numbers known) [
          | inl none ↦ (stop_text fault, inr (inr (ap stop_text none, ap stop_status none)), shown)
          | inr failed ↦ (stop_text fault, inr (inl (ap stop_text failed, ap stop_status failed)), shown)
        ]

    pub stops_refused : RefusesMerge a g areas held holds (stop_status fault)
    stops_refused merge refused =
        elim (why.refused merge refused) [
          | inl is ↦ (stop_text fault, merge_stop (store_of g (map a.now areas)) merge fault refused.refused is, shown)
          | inr outward ↦ elim outward [
            | inl none ↦ (stop_text fault, inr (inr (ap stop_text none, ap stop_status none)), shown)
            | inr failed ↦ (stop_text fault, inr (inl (ap stop_text failed, ap stop_status failed)), shown)
          ]
        ]
