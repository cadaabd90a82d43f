use Rattle.std.proofs.Common.{◌-◌, not, ◌<◌, sym, ap, refl, subst, ◌∙◌, ◌≡◌, arith}
use Rattle.std.proofs.lemmas.Option.{slice_get_read, same_Some as same_some}
use Rattle.std.proofs.lemmas.Result.{IfOk-weaker}
use Rattle.std.specs.Prelude.{◌↔◌, IsOk}
use Rattle.lc_tx.specs.Holders.{is_free}
use Rattle.lc_record.proofs.ListLemmas.{slice_get-map_some as get-map}
use Rattle.lc_desk.specs.Here.{beside}
use Rattle.lc_desk.specs.Leaves.{MayLeave}
use Rattle.lc_desk.specs.declared.segment_copy.SegmentCopy.{SegmentCopy}
use Rattle.lc_desk.proofs.Names.{err_at, of_leave}
use Rattle.lc_desk.proofs.Left.{LeaveAnswers, leaves, may_leave, runs_left, same_left}
use Rattle.lc_desk.proofs.Shortness.{in_place_moved, short_moved}
use Rattle.lc_desk.proofs.desk.Desk.leave.Goals as goal

pub invariant_of-self-clause-runs : goal.invariant_of-self-clause-runs
invariant_of-self-clause-runs c =
    let w = c.args.self.now in
    let slot = c.index_mut-slot.result.now in
    let within : c.args.segment - 1 < w.here.slots.len = omega (arith, c.requires.first, c.requires.slot) in
    let at = slice_get_read w.here.slots.items w.here.slots.len (c.args.segment - 1) slot w.here.slots.ok.0 within c.index_mut-slot.ensures.value in
    runs_left w.here (c.args.segment - 1) slot w.seats.items c.leave.new.self _ c.args.writing c.args.reserved c.args.stable c.leave.result at
    (rw (c.is_free-held.ensures, c.holders.ensures) refl)
    (record {
      not_here = c.leave.ensures.not_here;
      held = c.leave.ensures.held;
      writing = c.leave.ensures.writing;
      unflushed = c.leave.ensures.unflushed;
      done = c.leave.ensures.done;
      token = c.leave.ensures.token;
      empty = c.leave.ensures.empty;
      err = c.leave.ensures.err;
    })
    w.runs

pub returns : goal.returns
returns c =
    let w = c.args.self.now in
    let slot = c.index_mut-slot.result.now in
    let within : c.args.segment - 1 < w.here.slots.len = omega (arith, c.requires.first, c.requires.slot) in
    let at = slice_get_read w.here.slots.items w.here.slots.len (c.args.segment - 1) slot w.here.slots.ok.0 within c.index_mut-slot.ensures.value in
    let place = w.in_place (c.args.segment - 1) (beside slot) (get-map beside w.here.slots.items (c.args.segment - 1) slot at) in
    let its : slot.token.segment ≡ c.args.segment = omega (arith, place.0, c.requires.first) in
    let holds_is : c.is_free-held.result ≡ is_free slot.image.holders = c.is_free-held.ensures ∙ ap is_free c.holders.ensures in
    let answers : LeaveAnswers slot.token c.leave.new.self (not c.is_free-held.result) c.args.writing c.args.reserved c.args.stable c.leave.result = record {
      not_here = c.leave.ensures.not_here;
      held = c.leave.ensures.held;
      writing = c.leave.ensures.writing;
      unflushed = c.leave.ensures.unflushed;
      done = c.leave.ensures.done;
      token = c.leave.ensures.token;
      empty = c.leave.ensures.empty;
      err = c.leave.ensures.err;
    } in
    record {
      done = λ other got. subst (λ (x : SegmentCopy). IsOk c.leave.result ↔ MayLeave c.args.writing c.args.reserved c.args.stable x) (same_some slot other (sym at ∙ got))
          (may_leave slot c.leave.new.self (not c.is_free-held.result) c.args.writing c.args.reserved c.args.stable c.leave.result (ap not holds_is) answers);
      writing = λ same. (c.leave.ensures.writing.0 same).2;
      unflushed = λ same. (c.leave.ensures.unflushed.0 same).2;
      segment = IfOk-weaker c.leave.result _ _ (λ token same. same ∙ its) c.leave.ensures.segment;
      names = err_at c.leave.result _ (of_leave slot.token c.leave.new.self (not c.is_free-held.result) c.args.writing c.args.reserved c.args.stable c.leave.result answers);
      leaves = leaves w _ c.args.segment c.requires.first slot at its c.leave.new.self (not c.is_free-held.result) c.args.writing
          (ap not holds_is) c.args.reserved c.args.stable c.leave.result answers refl refl;
    }

pub invariant_of-self-clause-in_place : goal.invariant_of-self-clause-in_place
invariant_of-self-clause-in_place c =
    let w = c.args.self.now in
    let slot = c.index_mut-slot.result.now in
    let within : c.args.segment - 1 < w.here.slots.len = omega (arith, c.requires.first, c.requires.slot) in
    let at = slice_get_read w.here.slots.items w.here.slots.len (c.args.segment - 1) slot w.here.slots.ok.0 within c.index_mut-slot.ensures.value in
    in_place_moved w.here (c.args.segment - 1) slot c.leave.new.self at (same_left slot.token c.leave.new.self c.leave.result c.leave.ensures.empty c.leave.ensures.err) w.in_place

pub invariant_of-self-clause-short : goal.invariant_of-self-clause-short
invariant_of-self-clause-short c =
    let w = c.args.self.now in
    let slot = c.index_mut-slot.result.now in
    let within : c.args.segment - 1 < w.here.slots.len = omega (arith, c.requires.first, c.requires.slot) in
    let at = slice_get_read w.here.slots.items w.here.slots.len (c.args.segment - 1) slot w.here.slots.ok.0 within c.index_mut-slot.ensures.value in
    short_moved w.here (c.args.segment - 1) slot c.leave.new.self at w.short
