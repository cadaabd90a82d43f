use Rattle.std.proofs.Common.{◌≡◌, ◌≤◌, ◌+◌, ◌*◌, ◌∙◌, length, refl, arith, sym, true}
use Rattle.std.proofs.lemmas.Bool.{false≢true}
use Rattle.lc_page.proofs.StateLemmas.{torn_shows, fifth_torn, fifth_opening, fifth_outside, writes_at}
use Rattle.lc_page.proofs.page_write.PageWrite+Filled.open_gate.Goals as goal

pub returns-in-Ok-clause-opening : goal.returns-in-Ok-clause-opening
returns-in-Ok-clause-opening g c text old filled honest =
    let was : g.D.Area.honest c.args.area.now ≡ true = sym c.write_at.ensures.honest ∙ honest in
    let h = c.in-Ok.ensures in
    fifth_opening _ _ _ _ c.args.self.draft c.place.result c.place.ensures (h.torn was) (h.dirtied was) text old c.requires (filled was) (h.written was)

pub returns-in-Ok-clause-page : goal.returns-in-Ok-clause-page
returns-in-Ok-clause-page g c text old filled honest =
    let was : g.D.Area.honest c.args.area.now ≡ true = sym c.write_at.ensures.honest ∙ honest in
    let h = c.write_at.ensures in
    let room : (2 * c.args.self.draft.page + 2) * 272 ≤ length (g.D.Area.now c.write_at.new.self) = omega (arith, c.requires, h.len) in
    torn_shows _ _ c.args.self.draft text old room (fifth_torn _ _ _ _ c.args.self.draft c.place.result c.place.ensures (h.torn was) (h.dirtied was) text old (filled was))

pub returns-in-Err-clause-page : goal.returns-in-Err-clause-page
returns-in-Err-clause-page g c text old filled honest =
    let was : g.D.Area.honest c.args.area.now ≡ true = sym c.write_at.ensures.honest ∙ honest in
    let h = c.write_at.ensures in
    let room : (2 * c.args.self.draft.page + 2) * 272 ≤ length (g.D.Area.now c.write_at.new.self) = omega (arith, c.requires, h.len) in
    torn_shows _ _ c.args.self.draft text old room (fifth_torn _ _ _ _ c.args.self.draft c.place.result c.place.ensures (h.torn was) (h.dirtied was) text old (filled was))

pub returns-in-Ok-clause-call : goal.returns-in-Ok-clause-call
returns-in-Ok-clause-call g c =
    let h = c.in-Ok.ensures in
    writes_at g.D.Area c.args.self.draft.page _ _ _ _ _ _ _ c.place.ensures refl (record {
      device = record { honest = h.honest; same_length = h.len; called = h.called; counted = h.counted };
      written = λ was _. h.written was;
      torn = h.torn;
      dirtied = h.dirtied;
      others = λ was. fifth_outside _ _ _ _ c.args.self.draft c.place.result c.place.ensures (h.torn was) (h.dirtied was);
    })

pub returns-in-Err-clause-call : goal.returns-in-Err-clause-call
returns-in-Err-clause-call g c =
    let h = c.in-Err.ensures in
    writes_at g.D.Area c.args.self.draft.page _ _ _ _ _ _ _ c.place.ensures refl (record {
      device = record { honest = h.honest; same_length = h.len; called = h.called; counted = h.counted };
      written = λ was ok. absurd (false≢true ok);
      torn = h.torn;
      dirtied = h.dirtied;
      others = λ was. fifth_outside _ _ _ _ c.args.self.draft c.place.result c.place.ensures (h.torn was) (h.dirtied was);
    })
