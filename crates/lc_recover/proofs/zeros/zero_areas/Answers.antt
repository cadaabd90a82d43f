use Rattle.std.proofs.Common.{◌≡◌, Some, None, List, length, sym, ap, subst, ◌∙◌}
use Rattle.lc_disk.specs.declared.mem_area.MemArea.{MemArea}
use Rattle.lc_recover.specs.Reads.{area_len}
use Rattle.lc_recover.proofs.Zeroed.{AreMade, all_lengths, all_zeros, none_made, one_made}
use Rattle.lc_recover.proofs.zeros.zero_areas.Goals as goal

pub loop-len-init : goal.loop-len-init
loop-len-init c = subst (λ (areas : List MemArea). AreMade c.args.geometry.now areas) (sym c.new-areas.ensures.items) (none_made c.args.geometry.now)

pub loop-len-preserved : goal.loop-len-preserved
loop-len-preserved c =
    let at : area_len c.args.geometry.now (length c.loop-len.areas.items) ≡ Some c.in-Some.len =
    ap (area_len c.args.geometry.now) (sym c.loop-len.areas.ok.0 ∙ sym c.len.ensures) ∙ sym c.area_len.ensures ∙ c.in-Some.is in
    subst (λ (areas : List MemArea). AreMade c.args.geometry.now areas) (sym c.in_ok-push.ensures.items)
    (one_made c.args.geometry.now c.loop-len.areas.items c.in_ok-new.field-0 c.in-Some.len c.loop-len.invariant at c.in_ok-new.ensures.bytes c.in_ok-new.ensures.clean)

pub returns-clause-lengths : goal.returns-clause-lengths
returns-clause-lengths c =
    let none : area_len c.args.geometry.now (length c.loop-len.areas.items) ≡ None =
    ap (area_len c.args.geometry.now) (sym c.loop-len.areas.ok.0 ∙ sym c.len.ensures) ∙ sym c.area_len.ensures ∙ c.in_default.is in
    all_lengths c.args.geometry.now c.loop-len.areas.items c.loop-len.invariant none

pub returns-clause-zeros : goal.returns-clause-zeros
returns-clause-zeros c = all_zeros c.args.geometry.now c.loop-len.areas.items c.loop-len.invariant
