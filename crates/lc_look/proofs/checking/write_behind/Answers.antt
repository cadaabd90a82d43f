use Rattle.std.proofs.Common.{◌≡◌, ℕ, ◌++◌, ◌∷◌, [], true≢false, sym, ◌∙◌, refl, subst, arith}
use Rattle.std.specs.Prelude.{flat_map}
use Rattle.std.specs.Io.KnownBytes.{Appends}
use Rattle.std.proofs.KnownBytes.{Appends-trans}
use Rattle.std.proofs.lemmas.List.{flat_map_more}
use Rattle.std.proofs.lemmas.Result.{on_ok_weaker}
use Rattle.lc_text.proofs.Writes.{same_bytes}
use Rattle.lc_text.specs.Text.{number_text}
use Rattle.lc_look.specs.Checks.{AreBehindIn, behind_text}
use Rattle.lc_look.proofs.ChecksShown.{behind-not, behind-page, behind_head, none-pushed, none-text, some-text}
use Rattle.lc_look.proofs.checking.write_behind.Goals as goal
use Rattle.lc_look.proofs.checking.write_behind.Goals.{then-is_behind+in_ok-write-2, else-is_behind}

pub loop-page-preserved : goal.loop-page-preserved
loop-page-preserved g c =
    let store = c.args.forecast.now.store in
    let page : ℕ = c.loop-page.page-counter in
    let so = c.loop-page.invariant in
    let held = g.W.Write.contents c.args.writer.now in
    elim c.if-is_behind.branch [
      | then-is_behind+in_ok-write-2 w ↦ (
        so.0 ++ page ∷ [],
        behind-page store c.args.segment page so.0 so.1 (c.is_behind.ensures.0 w.if-is_behind.true),
        w.is_none-is ∙ none-pushed so.0 page,
        subst (λ (v : g.row.W.Denot). Appends held (g.W.Write.contents v) (behind_head c.args.segment ++ flat_map number_text (so.0 ++ page ∷ []))) (sym w.writer-is)
            (same_bytes held _ _ _ (flat_map_more number_text (behind_head c.args.segment) so.0 page) (Appends-trans held (g.W.Write.contents c.loop-page.writer) _ _ _ so.3 w.in_ok-write-2.ensures.bytes)),
      )
      | else-is_behind w ↦ (
        so.0,
        behind-not store c.args.segment page so.0 so.1 (λ behind. true≢false (sym (c.is_behind.ensures.1 behind) ∙ w.if-is_behind.false)),
        w.is_none-is ∙ so.2,
        subst (λ (v : g.row.W.Denot). Appends held (g.W.Write.contents v) (behind_head c.args.segment ++ flat_map number_text so.0)) (sym w.writer-is) so.3,
      )
    ]

pub returns-then-is_none : goal.returns-then-is_none
returns-then-is_none g c =
    let so = c.loop-page.invariant in
    let all : c.loop-page.page-counter ≡ c.args.pages = omega (arith, c.loop-page-test.false, c.loop-page.auto.page-counter-end) in
    let are : AreBehindIn c.args.pages c.args.forecast.now.store c.args.segment so.0 = subst (λ (n : ℕ). AreBehindIn n c.args.forecast.now.store c.args.segment so.0) all so.1 in
    on_ok_weaker c.write_all.result (λ end. (
      behind_text c.args.segment so.0,
      (so.0, are, refl),
      same_bytes _ _ _ _ (none-text c.args.segment so.0 (sym so.2 ∙ c.if-is_none.true)) (Appends-trans _ (g.W.Write.contents c.loop-page.writer) _ _ _ so.3 end),
    )) c.write_all.ensures.bytes

pub returns : goal.returns
returns g c =
    let so = c.loop-page.invariant in
    let all : c.loop-page.page-counter ≡ c.args.pages = omega (arith, c.loop-page-test.false, c.loop-page.auto.page-counter-end) in
    let are : AreBehindIn c.args.pages c.args.forecast.now.store c.args.segment so.0 = subst (λ (n : ℕ). AreBehindIn n c.args.forecast.now.store c.args.segment so.0) all so.1 in
    on_ok_weaker c.write_all-2.result (λ end. (
      behind_text c.args.segment so.0,
      (so.0, are, refl),
      same_bytes _ _ _ _ (some-text c.args.segment so.0 (sym so.2 ∙ c.if-is_none.false)) (Appends-trans _ (g.W.Write.contents c.loop-page.writer) _ _ _ so.3 end),
    )) c.write_all-2.ensures.bytes
