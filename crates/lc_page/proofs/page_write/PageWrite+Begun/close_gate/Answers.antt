use Rattle.std.proofs.Common.{◌≡◌, ◌∙◌, ◌⊎◌, [], ◌∷◌, sym, true, false, inl, inr, rules}
use Rattle.std.proofs.lemmas.Bool.{false≢true}
use Rattle.lc_page.proofs.StateLemmas.{first_shows, first_closing, first_outside, chosen_bytes, writes_at}
use Rattle.lc_page.proofs.page_write.PageWrite+Begun.close_gate.Goals as goal
use Rattle.lc_page.proofs.page_write.PageWrite+Begun.close_gate.Goals.{then-state, else-state}

pub returns-in-Ok-clause-closing : goal.returns-in-Ok-clause-closing
returns-in-Ok-clause-closing g c text begun settled honest =
    let was : g.D.Area.honest c.args.area.now ≡ true = sym c.write_at.ensures.honest ∙ honest in
    let h = c.in-Ok.ensures in
    let choice : ((c.args.self.state.gate ≡ false) × (c.if-state.gate.now ≡ [])) ⊎ ((c.args.self.state.gate ≡ true) × (c.if-state.gate.now ≡ 0 ∷ [])) =
    elim c.if-state.branch [ then-state w ↦ inr (search rules, search rules) | else-state w ↦ inl (search rules, search rules) ] in
    first_closing _ _ _ _ c.args.self.draft c.place.result c.place.ensures c.args.self.state.gate _ choice (h.torn was) (h.dirtied was) text (g.met.D.Area.reads_bytes c.args.area.now was) (settled was) begun c.requires (h.written was)

pub returns-in-Ok-clause-page : goal.returns-in-Ok-clause-page
returns-in-Ok-clause-page g c text begun settled honest =
    let was : g.D.Area.honest c.args.area.now ≡ true = sym c.write_at.ensures.honest ∙ honest in
    let h = c.write_at.ensures in
    let choice : ((c.args.self.state.gate ≡ false) × (c.if-state.gate.now ≡ [])) ⊎ ((c.args.self.state.gate ≡ true) × (c.if-state.gate.now ≡ 0 ∷ [])) =
    elim c.if-state.branch [ then-state w ↦ inr (search rules, search rules) | else-state w ↦ inl (search rules, search rules) ] in
    first_shows _ _ _ _ c.args.self.draft c.place.result c.place.ensures c.args.self.state.gate _ choice (h.torn was) (h.dirtied was) text (g.met.D.Area.reads_bytes c.args.area.now was) (settled was) begun

pub returns-in-Err-clause-page : goal.returns-in-Err-clause-page
returns-in-Err-clause-page g c text begun settled honest =
    let was : g.D.Area.honest c.args.area.now ≡ true = sym c.write_at.ensures.honest ∙ honest in
    let h = c.write_at.ensures in
    let choice : ((c.args.self.state.gate ≡ false) × (c.if-state.gate.now ≡ [])) ⊎ ((c.args.self.state.gate ≡ true) × (c.if-state.gate.now ≡ 0 ∷ [])) =
    elim c.if-state.branch [ then-state w ↦ inr (search rules, search rules) | else-state w ↦ inl (search rules, search rules) ] in
    first_shows _ _ _ _ c.args.self.draft c.place.result c.place.ensures c.args.self.state.gate _ choice (h.torn was) (h.dirtied was) text (g.met.D.Area.reads_bytes c.args.area.now was) (settled was) begun

pub returns-in-Ok-clause-call : goal.returns-in-Ok-clause-call
returns-in-Ok-clause-call g c =
    let h = c.in-Ok.ensures in
    let choice : ((c.args.self.state.gate ≡ false) × (c.if-state.gate.now ≡ [])) ⊎ ((c.args.self.state.gate ≡ true) × (c.if-state.gate.now ≡ 0 ∷ [])) =
    elim c.if-state.branch [ then-state w ↦ inr (search rules, search rules) | else-state w ↦ inl (search rules, search rules) ] in
    writes_at g.D.Area c.args.self.draft.page _ _ _ _ _ _ _ c.place.ensures (chosen_bytes c.args.self.state.gate _ choice) (record {
      device = record { honest = h.honest; same_length = h.len; called = h.called; counted = h.counted };
      written = λ was _. h.written was;
      torn = h.torn;
      dirtied = h.dirtied;
      others = λ was. first_outside _ _ _ _ c.args.self.draft c.place.result c.place.ensures c.args.self.state.gate _ choice (h.torn was) (h.dirtied was);
    })

pub returns-in-Err-clause-call : goal.returns-in-Err-clause-call
returns-in-Err-clause-call g c =
    let h = c.in-Err.ensures in
    let choice : ((c.args.self.state.gate ≡ false) × (c.if-state.gate.now ≡ [])) ⊎ ((c.args.self.state.gate ≡ true) × (c.if-state.gate.now ≡ 0 ∷ [])) =
    elim c.if-state.branch [ then-state w ↦ inr (search rules, search rules) | else-state w ↦ inl (search rules, search rules) ] in
    writes_at g.D.Area c.args.self.draft.page _ _ _ _ _ _ _ c.place.ensures (chosen_bytes c.args.self.state.gate _ choice) (record {
      device = record { honest = h.honest; same_length = h.len; called = h.called; counted = h.counted };
      written = λ was ok. absurd (false≢true ok);
      torn = h.torn;
      dirtied = h.dirtied;
      others = λ was. first_outside _ _ _ _ c.args.self.draft c.place.result c.place.ensures c.args.self.state.gate _ choice (h.torn was) (h.dirtied was);
    })
