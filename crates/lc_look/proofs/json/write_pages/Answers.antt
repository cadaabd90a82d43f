use Rattle.std.proofs.Common.{◌≡◌, ℕ, ◌++◌, ◌∷◌, [], true≢false, sym, ◌∙◌, subst, arith, ap}
use Rattle.std.specs.Prelude.{decimal}
use Rattle.std.specs.Io.KnownBytes.{Appends}
use Rattle.std.proofs.KnownBytes.{Appends-trans}
use Rattle.lc_text.proofs.Writes.{same_bytes}
use Rattle.lc_look.specs.Checks.{AreBehindIn}
use Rattle.lc_look.specs.Json.{comma_text, pages_json}
use Rattle.lc_look.proofs.ChecksShown.{behind-not, behind-page, none-pushed}
use Rattle.lc_look.proofs.JsonShown.{page_more}
use Rattle.lc_look.proofs.json.write_pages.Goals as goal
use Rattle.lc_look.proofs.json.write_pages.Goals.{then-is_behind+in_ok-write, else-is_behind}

pub loop-page-preserved : goal.loop-page-preserved
loop-page-preserved g c =
    let store = c.args.forecast.now.store in
    let page : ℕ = c.loop-page.page-counter in
    let so = c.loop-page.invariant in
    let held = g.W.Write.contents c.args.writer.now in
    elim c.if-is_behind.branch [
      | then-is_behind+in_ok-write w ↦ (
        so.0 ++ page ∷ [],
        behind-page store c.args.segment page so.0 so.1 (c.is_behind.ensures.0 w.if-is_behind.true),
        w.is_first-is ∙ none-pushed so.0 page,
        subst (λ (v : g.row.W.Denot). Appends held (g.W.Write.contents v) (pages_json (so.0 ++ page ∷ []))) (sym w.writer-is)
            (same_bytes held _ _ _ (page_more so.0 page) (Appends-trans held (g.W.Write.contents c.loop-page.writer) _ _ _ so.3
            (same_bytes _ _ _ _ (ap (λ t. t ++ decimal page) (w.comma-comma.ensures ∙ ap comma_text so.2)) w.in_ok-write.ensures.bytes))),
      )
      | else-is_behind w ↦ (
        so.0,
        behind-not store c.args.segment page so.0 so.1 (λ behind. true≢false (sym (c.is_behind.ensures.1 behind) ∙ w.if-is_behind.false)),
        w.is_first-is ∙ so.2,
        subst (λ (v : g.row.W.Denot). Appends held (g.W.Write.contents v) (pages_json so.0)) (sym w.writer-is) so.3,
      )
    ]

pub returns : goal.returns
returns g c =
    let so = c.loop-page.invariant in
    let all : c.loop-page.page-counter ≡ c.args.pages = omega (arith, c.loop-page-test.false, c.loop-page.auto.page-counter-end) in
    (so.0, subst (λ (n : ℕ). AreBehindIn n c.args.forecast.now.store c.args.segment so.0) all so.1, so.3)
