use Rattle.std.proofs.Common.{◌≡◌, ◌∙◌, sym, true}
use Rattle.lc_page.proofs.StateLemmas.{closed_shows, kept_filling, synced_filling}
use Rattle.lc_page.proofs.SlotLemmas.{all_kept}
use Rattle.lc_page.proofs.page_write.PageWrite+Filling.sync_filled.Goals as goal

pub returns-in-Ok-clause-filled : goal.returns-in-Ok-clause-filled
returns-in-Ok-clause-filled g c text old filling honest =
    let was : g.D.Area.honest c.args.area.now ≡ true = sym c.in-Ok.ensures.honest ∙ honest in
    let h = c.in-Ok.ensures in
    synced_filling _ _ _ _ c.args.self.draft text old (h.same was) (h.clean was) (filling was)

pub returns-in-Ok-clause-page : goal.returns-in-Ok-clause-page
returns-in-Ok-clause-page g c text old filling honest =
    let was : g.D.Area.honest c.args.area.now ≡ true = sym c.in-Ok.ensures.honest ∙ honest in
    let h = c.in-Ok.ensures in
    closed_shows _ _ c.args.self.draft text old (synced_filling _ _ _ _ c.args.self.draft text old (h.same was) (h.clean was) (filling was)).filling.closed

pub returns-in-Err-clause-page : goal.returns-in-Err-clause-page
returns-in-Err-clause-page g c text old filling honest =
    let was : g.D.Area.honest c.args.area.now ≡ true = sym c.in-Err.ensures.honest ∙ honest in
    let h = c.in-Err.ensures in
    closed_shows _ _ c.args.self.draft text old
    (kept_filling _ _ _ _ c.args.self.draft text old (all_kept c.args.self.draft.page _ _ _ _ (h.same was) (λ k e. h.same_dirty was k ∙ e)) (filling was)).closed
