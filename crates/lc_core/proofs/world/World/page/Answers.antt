use Rattle.std.proofs.Common.{◌≡◌, ◌<◌, ◌-◌, suc, ℕ, Some, refl, sym, ap, subst, ◌∙◌, arith}
use Rattle.std.proofs.lemmas.Option.{slice_get_read}
use Rattle.lc_record.specs.declared.geometry.Geometry.{Geometry}
use Rattle.lc_core.proofs.Shown.{page_known, slot_shows}
use Rattle.lc_core.specs.Lives.{FitsLife, Life}
use Rattle.lc_core.specs.Showing.{LendsPage, image_of}
use Rattle.lc_desk.specs.Showing.{page_of}
use Rattle.lc_core.specs.World.{FitsPhase}
use Rattle.lc_core.proofs.world.World.page.Goals as goal

pub index-requires-2 : goal.index-requires-2
index-requires-2 g c =
    let w = c.in-Up.up.running in
    let node = c.index.result.now in
    let known = page_known w.geometry c.args.node c.args.segment c.args.page (sym c.if-not-is_page_of.ensures.page) in
    let within : c.args.node < w.nodes.len = omega (arith, w.all_nodes, known.0) in
    let at = slice_get_read w.nodes.items w.nodes.len c.args.node node w.nodes.ok.0 within c.index.ensures in
    omega (arith, (w.whole c.args.node node at).slots, known.1, known.2)

pub returns-clause-lives : goal.returns-clause-lives
returns-clause-lives g c = λ shape life fits.
    let w = c.in-Up.up.running in
    let node = c.index.result.now in
    let slot = c.index-2.result.now in
    let known = page_known w.geometry c.args.node c.args.segment c.args.page (sym c.if-not-is_page_of.ensures.page) in
    let m = life.setting in
    let s = life.state in
    let x = life.numbers in
    let its = (subst (λ phase. FitsLife g.D.Area shape (Some life) phase) c.in-Up.is fits).0 in
    let within : c.args.node < w.nodes.len = omega (arith, w.all_nodes, known.0) in
    let at = slice_get_read w.nodes.items w.nodes.len c.args.node node w.nodes.ok.0 within c.index.ensures in
    let slots = node.desk.here.slots in
    let whole = w.whole c.args.node node at in
    let inside : c.args.segment - 1 < slots.len = omega (arith, whole.slots, known.1, known.2) in
    let there = slice_get_read slots.items slots.len (c.args.segment - 1) slot slots.ok.0 inside c.index-2.ensures in
    let one = its.running.each c.args.node node at in
    let below : c.args.segment - 1 < m.geometry.segments = omega (arith, inside, known.1, known.2, ap (λ (geometry : Geometry). geometry.segments) its.running.geometry_is) in
    let same : suc (c.args.segment - 1) ≡ c.args.segment = omega (arith, known.1) in
    c.page_in.ensures
    ∙ ap (λ bytes. page_of bytes c.args.page)
    (c.bytes.ensures
    ∙ subst (λ (n : ℕ). slot.image.bytes.items ≡ image_of m s x c.args.node n) same
    (slot_shows m c.args.node node.desk.here node.desk.seats.items s its.running.sound one.desk x one.slots (c.args.segment - 1) slot there below))

pub returns-clause-shows : goal.returns-clause-shows
returns-clause-shows g c = λ m s x fits.
    let life : Life = record { setting = m; state = s; numbers = x } in
    let up = (subst (λ phase. FitsPhase g.D.Area m phase s x) c.in-Up.is fits).0 in
    returns-clause-lives g c m.geometry life (subst (λ phase. FitsLife g.D.Area m.geometry (Some life) phase) (sym c.in-Up.is) (up, refl))

pub returns-clause-lends : goal.returns-clause-lends
returns-clause-lends g c =
    let w = c.in-Up.up.running in
    let node = c.index.result.now in
    let slot = c.index-2.result.now in
    let known = page_known w.geometry c.args.node c.args.segment c.args.page (sym c.if-not-is_page_of.ensures.page) in
    let within : c.args.node < w.nodes.len = omega (arith, w.all_nodes, known.0) in
    let at = slice_get_read w.nodes.items w.nodes.len c.args.node node w.nodes.ok.0 within c.index.ensures in
    let slots = node.desk.here.slots in
    let whole = w.whole c.args.node node at in
    let inside : c.args.segment - 1 < slots.len = omega (arith, whole.slots, known.1, known.2) in
    let there = slice_get_read slots.items slots.len (c.args.segment - 1) slot slots.ok.0 inside c.index-2.ensures in
    subst (λ phase. LendsPage g.D.Area phase c.args.node c.args.segment c.args.page c.page_in.result.now) (sym c.in-Up.is)
    (node, slot, known.1, at, there, c.page_in.ensures ∙ ap (λ bytes. page_of bytes c.args.page) c.bytes.ensures)
