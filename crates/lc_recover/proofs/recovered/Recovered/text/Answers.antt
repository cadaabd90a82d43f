use Rattle.std.proofs.Common.{◌≡◌, ◌-◌, ◌<◌, Some, length, sym, ◌∙◌, ap, arith}
use Rattle.std.specs.Prelude.{slice_get}
use Rattle.std.proofs.lemmas.Option.{slice_get-get_or, get_or_from_slice_get}
use Rattle.lc_record.specs.declared.geometry.Geometry.{Geometry}
use Rattle.lc_record.proofs.ListLemmas.{slice_get_some as get-some}
use Rattle.lc_page.specs.PageVector.{entry_at}
use Rattle.lc_page.specs.declared.page_text.PageText.{PageText}
use Rattle.lc_recover.specs.Recovered.{RecoveredPage, RecoveredStore, page_of, sequence_of}
use Rattle.lc_recover.proofs.FinishedStore.{page-at}
use Rattle.lc_recover.proofs.recovered.Recovered.text.Goals as goal

pub returns-clause-text : goal.returns-clause-text
returns-clause-text g c =
    let inside = c.self.inside in
    let segments = inside.segments.items in
    let same : inside.geometry ≡ c.args.self.now.geometry = ap (λ (r : RecoveredStore g.row.D.Denot). r.geometry) c.self.view_is in
    let known : c.args.segment - 1 < length segments = omega (arith, ap (λ (x : Geometry). x.segments) same, c.requires.first, c.requires.last, c.self.invariant.count) in
    let within : c.args.page < inside.geometry.pages = omega (arith, ap (λ (x : Geometry). x.pages) same, c.requires.page) in
    let there : slice_get segments (c.args.segment - 1) ≡ Some c.index.result.now = slice_get-get_or segments (c.args.segment - 1) c.index.result.now known ∙ ap Some (sym c.index.ensures) in
    c.text.ensures
    ∙ ap (λ (p : RecoveredPage). p.text) (sym (page-at inside.geometry segments inside.numbers.items c.self.invariant c.args.segment c.args.page c.requires.first within c.index.result.now there))
    ∙ ap (λ (r : RecoveredStore g.row.D.Denot). (page_of r c.args.segment c.args.page).text) c.self.view_is

pub returns-clause-within : goal.returns-clause-within
returns-clause-within g c =
    let inside = c.self.inside in
    let segments = inside.segments.items in
    let numbers = inside.numbers.items in
    let same : inside.geometry ≡ c.args.self.now.geometry = ap (λ (r : RecoveredStore g.row.D.Denot). r.geometry) c.self.view_is in
    let last : c.args.segment - 1 < inside.geometry.segments = omega (arith, ap (λ (x : Geometry). x.segments) same, c.requires.first, c.requires.last) in
    let within : c.args.page < inside.geometry.pages = omega (arith, ap (λ (x : Geometry). x.pages) same, c.requires.page) in
    let there : slice_get segments (c.args.segment - 1) ≡ Some c.index.result.now = slice_get-get_or segments (c.args.segment - 1) c.index.result.now (omega (arith, last, c.self.invariant.count)) ∙ ap Some (sym c.index.ensures) in
    let number = get-some numbers (c.args.segment - 1) (omega (arith, last, c.self.invariant.numbers_count)) in
    let its : sequence_of c.args.self.now c.args.segment ≡ number.0 =
    ap (λ (r : RecoveredStore g.row.D.Denot). sequence_of r c.args.segment) (sym c.self.view_is) ∙ get_or_from_slice_get numbers (c.args.segment - 1) number.0 0 number.1 in
    let read : c.text.result.seq ≡ (entry_at c.index.result.now.texts c.args.page).stable = ap (λ (t : PageText). t.seq) c.text.ensures in
    omega (arith, its, read, c.self.invariant.within (c.args.segment - 1) c.args.page number.0 c.index.result.now there number.1 within)
