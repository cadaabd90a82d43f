use Rattle.std.proofs.Common.{List, sym, subst, inl, inr}
use Rattle.std.proofs.lemmas.Result.{IfErr-weaker as if_err, IfOk-weaker as if_ok}
use Rattle.lc_log_side.specs.LogView.{LogView}
use Rattle.lc_log_side.specs.Resets.{Empties, IsUnemptied}
use Rattle.lc_log_side.specs.Truncates.{IsUntruncated, SeesSides, Truncates}
use Rattle.lc_segments.specs.declared.held.HeldSide.{HeldSide}
use Rattle.lc_log_side.specs.EndedRoom.{HasRoom}
use Rattle.lc_log_side.proofs.PagesWritten.{room_behind}
use Rattle.lc_log_side.proofs.log_side.LogSide.empty.Goals as goal

pub returns-in-Err-clause-refused : goal.returns-in-Err-clause-refused
returns-in-Err-clause-refused g c = inr (c.in_ok-flush.field-0, c.flush.new.self, c.in_ok-flush.ensures.flushed, inl (c.in-Err.ensures.failed, c.halt.ensures))

pub returns-clause-truncated : goal.returns-clause-truncated
returns-clause-truncated g c =
    let sees : SeesSides c.flush.new.self.known c.write_all.new.sides.items c.see_all.new.self.known = subst (λ (l : List (HeldSide _)). SeesSides c.flush.new.self.known l c.see_all.new.self.known) c.as_slice.ensures.value c.see_all.ensures.sees in
    if_ok c.reset.result (λ round. Empties c.see_all.new.self round c.reset.new.self)
    (λ round. Truncates g.D.Area c.args.stage.now.room c.args.self.now c.args.sides.now.items round c.reset.new.self c.write_all.new.sides.items)
    (λ round empties. record {
      count = c.in_ok-flush.field-0;
      flushed = c.flush.new.self;
      flushes = c.in_ok-flush.ensures.flushed;
      written = c.in_default.ensures.written;
      known = c.see_all.new.self.known;
      sees = sees;
      empties = subst (λ (v : LogView _). Empties v round c.reset.new.self) c.see_all.ensures.same empties;
    }) c.reset.ensures.emptied

pub returns-clause-refused : goal.returns-clause-refused
returns-clause-refused g c =
    let sees : SeesSides c.flush.new.self.known c.write_all.new.sides.items c.see_all.new.self.known = subst (λ (l : List (HeldSide _)). SeesSides c.flush.new.self.known l c.see_all.new.self.known) c.as_slice.ensures.value c.see_all.ensures.sees in
    if_err c.reset.result (λ fault. IsUnemptied c.see_all.new.self fault c.reset.new.self)
    (λ fault. IsUntruncated g.D.Area c.args.stage.now.room c.args.self.now c.args.sides.now.items fault c.reset.new.self c.write_all.new.sides.items)
    (λ fault why. inr (
      c.in_ok-flush.field-0,
      c.flush.new.self,
      c.in_ok-flush.ensures.flushed,
      inr (
        c.see_all.new.self.known,
        c.in_default.ensures.written,
        sees,
        subst (λ (v : LogView _). IsUnemptied v fault c.reset.new.self) c.see_all.ensures.same why,
      ),
    )) c.reset.ensures.refused

pub reset-requires-clause-room : goal.reset-requires-clause-room
reset-requires-clause-room g c = subst (λ (v : LogView _). HasRoom v) (sym c.see_all.ensures.same) (room_behind c.args.stage.now.room c.in_ok-flush.field-0 c.args.self.now c.flush.new.self c.in_ok-flush.ensures.flushed c.requires.ended)
