use Rattle.std.proofs.Common.{◌≡◌, ◌≤◌, ◌+◌, ◌*◌, ◌∙◌, length, arith, sym, true}
use Rattle.lc_page.proofs.StateLemmas.{torn_shows, kept_opening, opened_page, opened_settled, opened_shows}
use Rattle.lc_page.proofs.SlotLemmas.{all_kept}
use Rattle.lc_page.proofs.page_write.PageWrite+OpeningGate.sync_open.Goals as goal

pub returns-in-Ok-clause-settled : goal.returns-in-Ok-clause-settled
returns-in-Ok-clause-settled g c text old opening honest =
    let was : g.D.Area.honest c.args.area.now ≡ true = sym c.sync.ensures.honest ∙ honest in
    let h = c.in-Ok.ensures in
    let room : (2 * c.args.self.draft.page + 2) * 272 ≤ length (g.D.Area.now c.sync.new.self) = omega (arith, c.requires, c.sync.ensures.len) in
    opened_settled _ _ _ _ c.args.self.draft text old (h.same was) (h.clean was) room (opening was)

pub returns-in-Ok-clause-page : goal.returns-in-Ok-clause-page
returns-in-Ok-clause-page g c text old opening honest =
    let was : g.D.Area.honest c.args.area.now ≡ true = sym c.sync.ensures.honest ∙ honest in
    let h = c.in-Ok.ensures in
    let room : (2 * c.args.self.draft.page + 2) * 272 ≤ length (g.D.Area.now c.sync.new.self) = omega (arith, c.requires, c.sync.ensures.len) in
    opened_shows _ _ c.args.self.draft _ (opened_settled _ _ _ _ c.args.self.draft text old (h.same was) (h.clean was) room (opening was))
    (opened_page _ _ _ _ c.args.self.draft text old (h.same was) (h.clean was) room (opening was))

pub returns-in-Err-clause-failed : goal.returns-in-Err-clause-failed
returns-in-Err-clause-failed g c text old opening honest =
    let was : g.D.Area.honest c.args.area.now ≡ true = sym c.sync.ensures.honest ∙ honest in
    let h = c.in-Err.ensures in
    let room : (2 * c.args.self.draft.page + 2) * 272 ≤ length (g.D.Area.now c.sync.new.self) = omega (arith, c.requires, c.sync.ensures.len) in
    torn_shows _ _ c.args.self.draft text old room
    (kept_opening _ _ _ _ c.args.self.draft text old (all_kept c.args.self.draft.page _ _ _ _ (h.same was) (λ k e. h.same_dirty was k ∙ e)) (opening was)).torn
