use Rattle.std.proofs.Common.{◌≡◌, ◌∙◌, ap, ℕ, ◌+◌, ◌-◌, ◌*◌, drop, take, arith}
use Rattle.std.specs.Prelude.{Err, IfOk, Ok, Result}
use Rattle.lc_page.specs.Page.{page_in}
use Rattle.lc_page.specs.PageWrite.{IsBegun, SettledIn}
use Rattle.lc_page.specs.Writing.{IsUnderWay, draft_of}
use Rattle.lc_page.specs.declared.draft.Draft.{Draft}
use Rattle.lc_page.specs.declared.fault.PageFault.{PageFault}
use Rattle.lc_page.specs.declared.page_text.PageText.{PageText}
use Rattle.lc_page.specs.declared.writing.Writing.{Writing}
use Rattle.lc_segments.specs.Pages.{page_bytes}
use Rattle.lc_segments.specs.Writes.{IsWriteOf}
use Rattle.lc_segments.proofs.UnderWay.{has_begun}
use Rattle.lc_segments.proofs.page_writes.begin_page.Goals as goal

pub returns-clause-under_way : goal.returns-clause-under_way
returns-clause-under_way g c =
    let token = c.args.token.now in
    let bytes = c.args.bytes.now in
    let page = c.args.page in
    let write = c.in-Ok.write in
    let draft_is = rw (c.pages.ensures, c.seq.ensures) at c.in-Ok.ensures.draft in
    let begun = rw c.pages.ensures at c.in-Ok.ensures.begun in
    let count : (page * 256 + 256) - page * 256 ≡ 256 = omega arith in
    let content : write.draft.bytes ≡ page_bytes bytes page = ap (λ (d : Draft). d.bytes) draft_is ∙ c.copy_from_slice.ensures.after ∙ ap (λ (n : ℕ). take n (drop (page * 256) bytes)) count in
    elim c.begin-2.result as (λ (r : Result Writing PageFault). IfOk r (λ w. draft_of w ≡ write.draft)
    → IfOk r (λ w. (text : PageText) → IsBegun write.draft write.state.gate text → SettledIn g.D.Area c.args.area.now write.draft.page text → IsUnderWay g.D.Area c.begin-2.new.area w text (page_in (g.D.Area.now c.args.area.now) write.draft.page))
    → IfOk r (IsWriteOf g.D.Area c.begin-2.new.area token bytes (page + 1))) [
      | Ok w ↦ λ same goes. has_begun g.D.Area c.args.area.now c.begin-2.new.area token bytes page write.draft write.state.gate w c.requires.page c.requires.dirty (ap (λ (d : Draft). d.page) draft_is)
          (ap (λ (d : Draft). d.seq) draft_is) content begun c.requires.settled same goes
      | Err e ↦ λ same goes. tt
    ] c.begin-2.ensures.draft c.begin-2.ensures.under_way
