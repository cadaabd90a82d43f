-- A step that writes keeps the one result of all images.
use Rattle.std.proofs.Common.{◌≡◌, ℕ, ◌-◌, ◌<◌, ◌≤◌, Bool, true, Some, List, sym, ◌∙◌, ap, subst, arith, inl, inr}
use Rattle.std.specs.Prelude.{slice_get}
use Rattle.std.proofs.lemmas.Bool.{cases_eq}
use Rattle.std.proofs.lemmas.Option.{same_Some as one_item}
use Rattle.lc_disk.specs.declared.area.Area.{Ghosts}
use Rattle.lc_record.specs.Content.{Content}
use Rattle.lc_record.specs.declared.geometry.Geometry.{Geometry}
use Rattle.lc_recover.specs.Reads.{AreHonest, AllMergeTo}
use Rattle.lc_recover.specs.Shows.{ShowPages, ShowLogs}
use Rattle.lc_recover.specs.RecoveryPhase.{AreasFit, OneCall, IsResetting, IsWriting, AsFarAs, IsEmptied, LogIs}
use Rattle.lc_recover.specs.declared.finished.Finished.{Finished}
use Rattle.lc_recover.specs.declared.log_resets.LogResets.{LogResets}
use Rattle.lc_recover.specs.declared.page_writes.PageWrites.{PageWrites}
use Rattle.lc_recover.specs.declared.recovery_phase.RecoveryPhase.TheVariants.{Syncing, Writing as WritingPages, Resetting, Done}
use Rattle.lc_recover.proofs.AreaLemmas.{set-get, set-others}
use Rattle.lc_recover.proofs.Bridge.{show_logs-merge, show_pages-merge}
use Rattle.lc_recover.proofs.Images.{same-result}
use Rattle.lc_recover.proofs.Showing.{have-lengths, hold-bytes, resetting-merges, writing-merges}

module _ {D : Type 0} (a : Ghosts D) (g : Geometry) (olds news : List D) (ok : Bool) (at : ℕ) (call : OneCall a at olds news ok) where
  -- areas that are honest after a call were honest before it
  pub were-honest : AreHonest a news → AreHonest a olds
  were-honest honest j area is =
      elim (cases_eq j at) [
        | inl here ↦
            let same : area ≡ call.old = one_item area call.old (sym is ∙ ap (slice_get olds) here ∙ call.was) in
            let there : slice_get news at ≡ Some call.new = ap (λ (l : List D). slice_get l at) call.is ∙ set-get olds at call.new call.old call.was in
            subst (λ (x : D). a.honest x ≡ true) (sym same) (sym call.honest ∙ honest at call.new there)
        | inr differ ↦ honest j area (ap (λ (l : List D). slice_get l j) call.is ∙ set-others olds at call.new j area differ is)
      ]

  pub resets-keep : (r : LogResets) (i : IsResetting g r) → AreasFit a g (Resetting r) olds → AreasFit a g (Syncing 0) news → AreHonest a news → ShowLogs a g news i.store r.segments.items →
      (content : Content) (numbers : ℕ → ℕ) → AllMergeTo a g olds content numbers → AllMergeTo a g news content numbers
  resets-keep r i fits later honest shows content numbers merges =
      let was : AreHonest a olds = were-honest honest in
      same-result a g olds news i.whole.content content i.whole.numbers numbers
      (have-lengths a g (Resetting r) olds fits) (hold-bytes a g (Resetting r) olds fits was) (have-lengths a g (Syncing 0) news later)
      (resetting-merges a g r olds fits was i) merges
      (show_logs-merge a g news r.logs.items i.store r.segments.items r.numbers.items (have-lengths a g (Syncing 0) news later) honest i.texts i.whole shows)

  pub writes-keep : (w : PageWrites) (i : IsWriting g w) → AreasFit a g (WritingPages w) olds → AreasFit a g (Syncing 0) news → AreHonest a news → ShowPages a g news i.store i.content i.numbers →
      (content : Content) (numbers : ℕ → ℕ) → AllMergeTo a g olds content numbers → AllMergeTo a g news content numbers
  writes-keep w i fits later honest shows content numbers merges =
      let was : AreHonest a olds = were-honest honest in
      same-result a g olds news i.content content i.numbers numbers
      (have-lengths a g (WritingPages w) olds fits) (hold-bytes a g (WritingPages w) olds fits was) (have-lengths a g (Syncing 0) news later)
      (writing-merges a g w olds fits was i) merges
      (show_pages-merge a g news w.kept.logs.items i.store w.kept.segments.items (AsFarAs i.between.front i.content i.numbers) i.content i.numbers (have-lengths a g (Syncing 0) news later) honest i.texts i.pages i.result.merges shows)

-- after the last reset all logs are empty
module _ {D : Type 0} (a : Ghosts D) (g : Geometry) (r : LogResets) (f : Finished) (areas : List D) where
  emptied : (k : ℕ) (area : D) → k < r.next → LogIs a r k area → IsEmptied a area
  emptied k area less known =
      elim known [
        | inl empty ↦ empty.1
        | inr other ↦
            (elim other [
              | inl shut ↦ absurd (omega (arith, less, shut.0))
              | inr reads ↦ absurd (omega (arith, less, reads.0))
            ])
      ]

  pub resets-end : AreasFit a g (Resetting r) areas → g.nodes ≤ r.next → f.segments ≡ r.segments → AreasFit a g (Done f) areas
  resets-end fits all same = record {
    count = fits.count;
    each = λ k area is.
        let its = fits.each k area is in
        record {
          len = its.len;
          bytes = its.bytes;
          log = λ alive less. emptied k area (omega (arith, less, all)) (its.log alive less);
          segment = λ alive more pages pages_is. its.segment alive more pages (ap (λ segments. slice_get segments.items (k - g.nodes)) (sym same) ∙ pages_is);
        };
  }
