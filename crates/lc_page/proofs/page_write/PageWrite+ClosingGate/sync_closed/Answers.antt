use Rattle.std.proofs.Common.{◌≡◌, ◌∙◌, sym, true}
use Rattle.lc_page.proofs.StateLemmas.{closing_shows, closed_shows, kept_closing, synced_closing}
use Rattle.lc_page.proofs.SlotLemmas.{all_kept}
use Rattle.lc_page.proofs.page_write.PageWrite+ClosingGate.sync_closed.Goals as goal

pub returns-in-Ok-clause-closed : goal.returns-in-Ok-clause-closed
returns-in-Ok-clause-closed g c text old closing honest =
    let was : g.D.Area.honest c.args.area.now ≡ true = sym c.in-Ok.ensures.honest ∙ honest in
    let h = c.in-Ok.ensures in
    synced_closing _ _ _ _ c.args.self.draft text old (h.same was) (h.clean was) (closing was)

pub returns-in-Ok-clause-page : goal.returns-in-Ok-clause-page
returns-in-Ok-clause-page g c text old closing honest =
    let was : g.D.Area.honest c.args.area.now ≡ true = sym c.in-Ok.ensures.honest ∙ honest in
    let h = c.in-Ok.ensures in
    closed_shows _ _ c.args.self.draft text old (synced_closing _ _ _ _ c.args.self.draft text old (h.same was) (h.clean was) (closing was))

pub returns-in-Err-clause-page : goal.returns-in-Err-clause-page
returns-in-Err-clause-page g c text old closing honest =
    let was : g.D.Area.honest c.args.area.now ≡ true = sym c.in-Err.ensures.honest ∙ honest in
    let h = c.in-Err.ensures in
    closing_shows _ _ c.args.self.draft text old
    (kept_closing _ _ _ _ c.args.self.draft text old (all_kept c.args.self.draft.page _ _ _ _ (h.same was) (λ k e. h.same_dirty was k ∙ e)) (closing was))
