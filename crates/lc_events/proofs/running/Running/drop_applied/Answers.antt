use Rattle.std.proofs.Common.{◌≡◌, ◌<◌, [], length, refl, sym, ap, ◌∙◌, arith}
use Rattle.std.proofs.lemmas.Option.{slice_get_read}
use Rattle.lc_model.proofs.Rows.{node_known}
use Rattle.lc_model.specs.declared.event.Event.TheVariants.{Trim}
use Rattle.lc_events.proofs.Onward.{stays_onward, whole_set}
use Rattle.lc_events.proofs.Trims.{counted_at, trim_goes}
use Rattle.lc_events.proofs.Faults.{logs_stay}
use Rattle.lc_events.proofs.running.Running.drop_applied.Goals as goal

pub index_mut-requires : goal.index_mut-requires
index_mut-requires g c = (let w = c.args.self.now in omega (arith, w.all_nodes, node_known w.geometry c.args.node [] [] c.requires.known))

pub trim-requires : goal.trim-requires
trim-requires g c =
    let w = c.args.self.now in
    let node = c.index_mut.result.now in
    let within : c.args.node < w.nodes.len = omega (arith, w.all_nodes, node_known w.geometry c.args.node [] [] c.requires.known) in
    let at = slice_get_read w.nodes.items w.nodes.len c.args.node node w.nodes.ok.0 within c.index_mut.ensures.value in
    let in_items : c.args.node < length w.nodes.items = omega (arith, within, w.nodes.ok.0) in
    record {
      acked = (counted_at g.D.Area w.nodes.items c.as_slice-nodes.result.now c.args.node node c.index-nodes-node.result c.applied_in_front-count.result at in_items c.as_slice-nodes.ensures.value
          c.index-nodes-node.is c.applied_in_front-count.ensures.within c.applied_in_front-count.ensures.counts).0;
    }

pub invariant_of-self : goal.invariant_of-self
invariant_of-self g c =
    let w = c.args.self.now in
    let node = c.index_mut.result.now in
    let within : c.args.node < w.nodes.len = omega (arith, w.all_nodes, node_known w.geometry c.args.node [] [] c.requires.known) in
    let at = slice_get_read w.nodes.items w.nodes.len c.args.node node w.nodes.ok.0 within c.index_mut.ensures.value in
    record {
      few = w.few;
      all_nodes = w.all_nodes;
      all_places = w.all_places;
      named = w.named;
      whole = whole_set g.D.Area w.geometry w.nodes.items c.args.node node (record { desk = node.desk; journal = c.trim.new.self; known = node.known }) at w.whole refl refl;
    }

pub returns : goal.returns
returns g c = record {
  follows = λ m s x h common.
      let w = c.args.self.now in
      let node = c.index_mut.result.now in
      let within : c.args.node < w.nodes.len = omega (arith, w.all_nodes, node_known w.geometry c.args.node [] [] c.requires.known) in
      let at = slice_get_read w.nodes.items w.nodes.len c.args.node node w.nodes.ok.0 within c.index_mut.ensures.value in
      let in_items : c.args.node < length w.nodes.items = omega (arith, within, w.nodes.ok.0) in
      let counted = counted_at g.D.Area w.nodes.items c.as_slice-nodes.result.now c.args.node node c.index-nodes-node.result c.applied_in_front-count.result at in_items c.as_slice-nodes.ensures.value
      c.index-nodes-node.is c.applied_in_front-count.ensures.within c.applied_in_front-count.ensures.counts in
      let fits = h.each c.args.node node at in
      let all : m.geometry.nodes ≡ length w.nodes.items = ap (λ i. i.nodes) h.geometry_is ∙ sym w.all_nodes ∙ w.nodes.ok.0 in
      stays_onward g.D.Area m c.args.node (Trim c.args.node) s x _ w.geometry w.nodes.items w.travelling.items h common node at (record { desk = node.desk; journal = c.trim.new.self; known = node.known })
      (trim_goes g.D.Area m c.args.node s x c.applied_in_front-count.result node c.trim.new.self fits
      (counted.1 m c.args.node s x h.sound fits.journal (record { all = all; each = λ k other got. (h.each k other got).slots })) c.trim.ensures.trims c.trim.ensures.group c.trim.ensures.round)
      (λ k e. absurd (omega (arith, e)));
  names = refl;
  logs =
      let w = c.args.self.now in
      let node = c.index_mut.result.now in
      let within : c.args.node < w.nodes.len = omega (arith, w.all_nodes, node_known w.geometry c.args.node [] [] c.requires.known) in
      let at = slice_get_read w.nodes.items w.nodes.len c.args.node node w.nodes.ok.0 within c.index_mut.ensures.value in
      record { geometry = refl; logs = logs_stay g.D.Area w.nodes.items c.args.node node (record { desk = node.desk; journal = c.trim.new.self; known = node.known }) at c.trim.ensures.log };
}
