use Rattle.std.proofs.Common.{ℕ, [], List, get_or, subst, sym, ap, ◌∙◌, arith, length, ◌<◌, ◌+◌}
use Rattle.std.proofs.lemmas.List.{get_or-map}
use Rattle.std.specs.Global.{Vec}
use Rattle.lc_record.specs.Lists.{items_of}
use Rattle.lc_look.specs.declared.log_bar.LogBar.{LogBar}
use Rattle.lc_look.specs.Draws.{AreEach, IsBarOf}
use Rattle.lc_look.proofs.PicturesRead.{each-more}
use Rattle.lc_look.proofs.drawing.bars_of.Goals as goal

pub loop-node-preserved : goal.loop-node-preserved
loop-node-preserved c =
    let node = c.loop-node.node in
    let areas = c.args.areas.now in
    let within : node < length areas = omega (arith, c.loop-node-test.true, c.requires) in
    let bytes = c.as_slice.ensures.value ∙ ap (λ (v : Vec ℕ). v.items) c.index-areas-node.is ∙ sym (get_or-map (λ (v : Vec ℕ). v.items) areas node c.index-areas-node.result [] within) in
    let own : IsBarOf node (get_or (items_of areas) node []) c.in_ok-bar_of.field-0 =
    subst (λ (l : List ℕ). IsBarOf node l c.in_ok-bar_of.field-0) bytes c.in_ok-bar_of.ensures in
    let Such = λ (n : ℕ). IsBarOf n (get_or (items_of areas) n []) in
    subst (λ (l : List LogBar). AreEach Such (node + 1) l) (sym {A = List LogBar} c.in_ok-push.ensures.items) (each-more Such node c.loop-node.bars.items c.in_ok-bar_of.field-0 c.loop-node.invariant own)
