use Rattle.std.proofs.Common.{◌≡◌, ◌∙◌, ℕ, ◌+◌, sym, ap, true}
use Rattle.std.proofs.lemmas.Bool.{false≢true}
use Rattle.lc_page.proofs.StateLemmas.{closed_shows, third_closed, third_filling, third_outside, writes_at}
use Rattle.lc_page.proofs.page_write.PageWrite+Closed.fill.Goals as goal

pub returns-in-Ok-clause-filling : goal.returns-in-Ok-clause-filling
returns-in-Ok-clause-filling g c text old closed honest =
    let was : g.D.Area.honest c.args.area.now ≡ true = sym c.write_at.ensures.honest ∙ honest in
    let h = c.in-Ok.ensures in
    third_filling _ _ _ _ c.args.self.draft c.place.result c.place.ensures _ (h.torn was) (h.dirtied was) c.behind_gate.ensures.len text old c.requires (closed was) (h.written was) c.behind_gate.ensures.bytes

pub returns-in-Ok-clause-page : goal.returns-in-Ok-clause-page
returns-in-Ok-clause-page g c text old closed honest =
    let was : g.D.Area.honest c.args.area.now ≡ true = sym c.write_at.ensures.honest ∙ honest in
    let h = c.write_at.ensures in
    closed_shows _ _ c.args.self.draft text old
    (third_closed _ _ _ _ c.args.self.draft c.place.result c.place.ensures _ (h.torn was) (h.dirtied was) c.behind_gate.ensures.len text old (closed was))

pub returns-in-Err-clause-page : goal.returns-in-Err-clause-page
returns-in-Err-clause-page g c text old closed honest =
    let was : g.D.Area.honest c.args.area.now ≡ true = sym c.write_at.ensures.honest ∙ honest in
    let h = c.write_at.ensures in
    closed_shows _ _ c.args.self.draft text old
    (third_closed _ _ _ _ c.args.self.draft c.place.result c.place.ensures _ (h.torn was) (h.dirtied was) c.behind_gate.ensures.len text old (closed was))

pub returns-in-Ok-clause-call : goal.returns-in-Ok-clause-call
returns-in-Ok-clause-call g c =
    let h = c.in-Ok.ensures in
    writes_at g.D.Area c.args.self.draft.page _ _ _ _ _ _ _ (ap (λ (k : ℕ). k + 1) c.place.ensures) c.behind_gate.ensures.bytes (record {
      device = record { honest = h.honest; same_length = h.len; called = h.called; counted = h.counted };
      written = λ was _. h.written was;
      torn = h.torn;
      dirtied = h.dirtied;
      others = λ was. third_outside _ _ _ _ c.args.self.draft c.place.result c.place.ensures _ (h.torn was) (h.dirtied was) c.behind_gate.ensures.len;
    })

pub returns-in-Err-clause-call : goal.returns-in-Err-clause-call
returns-in-Err-clause-call g c =
    let h = c.in-Err.ensures in
    writes_at g.D.Area c.args.self.draft.page _ _ _ _ _ _ _ (ap (λ (k : ℕ). k + 1) c.place.ensures) c.behind_gate.ensures.bytes (record {
      device = record { honest = h.honest; same_length = h.len; called = h.called; counted = h.counted };
      written = λ was ok. absurd (false≢true ok);
      torn = h.torn;
      dirtied = h.dirtied;
      others = λ was. third_outside _ _ _ _ c.args.self.draft c.place.result c.place.ensures _ (h.torn was) (h.dirtied was) c.behind_gate.ensures.len;
    })
