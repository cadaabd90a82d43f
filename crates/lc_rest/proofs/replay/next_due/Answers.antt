use Rattle.std.proofs.Common.{◌+◌, sym, ap, subst}
use Rattle.std.specs.Prelude.{Option, ℕ}
use Rattle.lc_page.specs.declared.page_text.PageText.{PageText}
use Rattle.lc_rest.specs.Replay.{IsDue}
use Rattle.lc_rest.proofs.Replays.{due-more}
use Rattle.lc_rest.proofs.replay.next_due.Goals as goal

pub loop-page-preserved : goal.loop-page-preserved
loop-page-preserved c =
    subst (λ (due : Option ℕ). IsDue c.args.area.now (c.loop-page.page + 1) c.args.number due) (sym c.lesser-due.ensures)
    (due-more c.args.area.now c.loop-page.page c.args.number c.read_page.result.seq c.loop-page.due (ap (λ (text : PageText). text.seq) c.read_page.ensures.text) c.loop-page.invariant)
