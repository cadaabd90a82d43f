use Rattle.std.proofs.Common.{◌≡◌, ◌-◌, None, Some, length, refl, sym, ap, ◌∙◌, arith}
use Rattle.std.specs.Option.{option_copied}
use Rattle.std.proofs.lemmas.Option.{same_Some as same_some}
use Rattle.lc_token.specs.declared.token.Token.{Token}
use Rattle.lc_desk.proofs.Away.{in_place_kept, runs_kept, short_stays, slot_at}
use Rattle.lc_desk.proofs.Noted.{notes_nothing, notes_written, runs_noted, written_number}
use Rattle.lc_desk.proofs.Shortness.{in_place_moved, short_moved}
use Rattle.lc_desk.proofs.desk.Desk.note_written.Goals as goal

pub invariant_of-self-clause-runs : goal.invariant_of-self-clause-runs
invariant_of-self-clause-runs c =
    let w = c.args.self.now in
    let slot = c.index_mut-slot.result.now in
    let at = slot_at w.here c.args.segment slot c.requires.first c.requires.slot c.index_mut-slot.ensures.value in
    runs_kept w.here (c.args.segment - 1) slot slot w.seats.items at refl w.runs

pub invariant_of-self-clause-short : goal.invariant_of-self-clause-short
invariant_of-self-clause-short c =
    let w = c.args.self.now in
    let slot = c.index_mut-slot.result.now in
    let at = slot_at w.here c.args.segment slot c.requires.first c.requires.slot c.index_mut-slot.ensures.value in
    short_stays w.here (c.args.segment - 1) slot slot at refl w.short

pub invariant_of-self-clause-in_place : goal.invariant_of-self-clause-in_place
invariant_of-self-clause-in_place c =
    let w = c.args.self.now in
    let slot = c.index_mut-slot.result.now in
    let at = slot_at w.here c.args.segment slot c.requires.first c.requires.slot c.index_mut-slot.ensures.value in
    in_place_kept w.here (c.args.segment - 1) slot slot at refl w.in_place

pub returns-in_default-clause-notes : goal.returns-in_default-clause-notes
returns-in_default-clause-notes c =
    let w = c.args.self.now in
    let slot = c.index_mut-slot.result.now in
    let at = slot_at w.here c.args.segment slot c.requires.first c.requires.slot c.index_mut-slot.ensures.value in
    notes_nothing w _ c.args.segment c.args.page c.args.number slot at
    (λ token stands within. (let no : None ≡ Some token = sym (sym c.token.ensures.token ∙ ap option_copied c.in_default.is) ∙ stands in absurd cc))

pub invariant_of-self-else-page-len-clause-runs : goal.invariant_of-self-else-page-len-clause-runs
invariant_of-self-else-page-len-clause-runs c =
    let w = c.args.self.now in
    let slot = c.index_mut-slot.result.now in
    let at = slot_at w.here c.args.segment slot c.requires.first c.requires.slot c.index_mut-slot.ensures.value in
    runs_kept w.here (c.args.segment - 1) slot slot w.seats.items at refl w.runs

pub invariant_of-self-else-page-len-clause-short : goal.invariant_of-self-else-page-len-clause-short
invariant_of-self-else-page-len-clause-short c =
    let w = c.args.self.now in
    let slot = c.index_mut-slot.result.now in
    let at = slot_at w.here c.args.segment slot c.requires.first c.requires.slot c.index_mut-slot.ensures.value in
    short_stays w.here (c.args.segment - 1) slot slot at refl w.short

pub invariant_of-self-else-page-len-clause-in_place : goal.invariant_of-self-else-page-len-clause-in_place
invariant_of-self-else-page-len-clause-in_place c =
    let w = c.args.self.now in
    let slot = c.index_mut-slot.result.now in
    let at = slot_at w.here c.args.segment slot c.requires.first c.requires.slot c.index_mut-slot.ensures.value in
    in_place_kept w.here (c.args.segment - 1) slot slot at refl w.in_place

pub returns-else-page-len-clause-notes : goal.returns-else-page-len-clause-notes
returns-else-page-len-clause-notes c =
    let w = c.args.self.now in
    let slot = c.index_mut-slot.result.now in
    let at = slot_at w.here c.args.segment slot c.requires.first c.requires.slot c.index_mut-slot.ensures.value in
    let stood = sym c.token.ensures.token ∙ ap option_copied c.in-Some.is in
    notes_nothing w _ c.args.segment c.args.page c.args.number slot at
    (λ token stands within.
    let same : c.in-Some.token.now ≡ token = same_some _ token (sym stood ∙ stands) in
    let long = ap (λ (t : Token). length t.pages) same in
    absurd (omega (arith, within, long, c.if-page-len.false, c.len.ensures, ap length c.pages.ensures)))

pub invariant_of-self-then-page-len-clause-runs : goal.invariant_of-self-then-page-len-clause-runs
invariant_of-self-then-page-len-clause-runs c =
    let w = c.args.self.now in
    let slot = c.index_mut-slot.result.now in
    let at = slot_at w.here c.args.segment slot c.requires.first c.requires.slot c.index_mut-slot.ensures.value in
    let stood = sym c.token.ensures.token ∙ ap option_copied c.in-Some.is in
    runs_noted w.here (c.args.segment - 1) slot at c.written.new.self
    (written_number c.written.new.self.token slot.token.token c.in-Some.token.now c.args.page c.args.number stood c.written.ensures.token) w.seats.items w.runs

pub invariant_of-self-then-page-len-clause-short : goal.invariant_of-self-then-page-len-clause-short
invariant_of-self-then-page-len-clause-short c =
    let w = c.args.self.now in
    let slot = c.index_mut-slot.result.now in
    let at = slot_at w.here c.args.segment slot c.requires.first c.requires.slot c.index_mut-slot.ensures.value in
    short_moved w.here (c.args.segment - 1) slot c.written.new.self at w.short

pub invariant_of-self-then-page-len-clause-in_place : goal.invariant_of-self-then-page-len-clause-in_place
invariant_of-self-then-page-len-clause-in_place c =
    let w = c.args.self.now in
    let slot = c.index_mut-slot.result.now in
    let at = slot_at w.here c.args.segment slot c.requires.first c.requires.slot c.index_mut-slot.ensures.value in
    in_place_moved w.here (c.args.segment - 1) slot c.written.new.self at c.written.ensures.segment w.in_place

pub returns-then-page-len-clause-notes : goal.returns-then-page-len-clause-notes
returns-then-page-len-clause-notes c =
    let w = c.args.self.now in
    let slot = c.index_mut-slot.result.now in
    let at = slot_at w.here c.args.segment slot c.requires.first c.requires.slot c.index_mut-slot.ensures.value in
    notes_written w _ c.args.segment c.args.page c.args.number slot at c.written.new.self c.written.ensures.segment c.written.ensures.token refl refl
