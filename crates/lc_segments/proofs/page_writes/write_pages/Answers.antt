use Rattle.std.proofs.Common.{ℕ, List, length}
use Rattle.std.specs.Prelude.{Err, Ok, OnOk, Result}
use Rattle.lc_page.specs.declared.fault.PageFault.{PageFault}
use Rattle.lc_token.specs.declared.token.Token.{Token}
use Rattle.lc_segments.specs.Pages.{FitsToken}
use Rattle.lc_segments.specs.Writes.{AreOver, AreUnderWay}
use Rattle.lc_segments.proofs.UnderWay.{room_of}
use Rattle.lc_segments.proofs.page_writes.write_pages.Goals as goal

pub finish_all-requires : goal.finish_all-requires
finish_all-requires g c =
    let begun = c.in_ok-begin_all.ensures.under_way c.requires.fits.0 c.requires.fits.1 in
    room_of g.D.Area c.begin_all.new.area c.args.token.now c.args.bytes.now (length c.args.token.now.pages) c.begin_all.new.writes.items begun.room begun.each

pub returns-clause-over : goal.returns-clause-over
returns-clause-over g c =
    let a = g.D.Area in
    let old = c.begin_all.new.area in
    let new = c.finish_all.new.area in
    let items = c.begin_all.new.writes.items in
    elim c.finish_all.result as (λ (r : Result (Unit {0}) PageFault).
    OnOk r ((since : ℕ) (token : Token) (bytes : List ℕ) → AreUnderWay a since old token bytes (length token.pages) items → AreOver a since new token bytes)
    → OnOk r ((since : ℕ) → FitsToken a since c.args.area.now c.args.token.now c.args.bytes.now → AreOver a since new c.args.token.now c.args.bytes.now)) [
      | Ok done ↦ λ over since fits. over since c.args.token.now c.args.bytes.now (c.in_ok-begin_all.ensures.under_way since fits)
      | Err fault ↦ λ over. tt
    ] c.finish_all.ensures.over
