use Rattle.std.proofs.Common.{◌≡◌, ◌<◌, Some, sym, ap, subst, ◌∙◌, refl, arith}
use Rattle.std.proofs.lemmas.Result.{IfOk-weaker}
use Rattle.std.specs.Prelude.{option_and_then, slice_get}
use Rattle.lc_journal.specs.Log.{area_of}
use Rattle.lc_events.specs.declared.node_state.NodeState.{NodeState}
use Rattle.lc_journal.specs.LogWords.{StandsOn}
use Rattle.lc_events.proofs.running.Running.log_bytes.Given.{Over}
use Rattle.std.proofs.lemmas.Option.{slice_get_read, same_Some as same_some}
use Rattle.lc_events.proofs.Faults.{same_kinds_at}
use Rattle.lc_events.proofs.Onward.{whole_set}
use Rattle.lc_events.proofs.running.Running.log_bytes.Goals as goal

pub invariant_of-index_mut : goal.invariant_of-index_mut
invariant_of-index_mut g c =
    let j = c.index_mut.result.now.journal in
    let keeps = c.bytes.ensures.keeps in
    record {
      kept = j.kept;
      kept_for_peers = j.kept_for_peers;
      dropped_acked = j.dropped_acked;
      trimmed_acked = j.trimmed_acked;
      acked_taken = j.acked_taken;
      taken_closed = j.taken_closed;
      group_room = j.group_room;
      short = j.short;
      log_room = λ up. omega (arith, keeps.size, j.log_room (sym keeps.failed ∙ up));
      room = j.room;
      end = λ up free. keeps.end ∙ j.end (sym keeps.failed ∙ up) (sym keeps.sealed ∙ free);
      under_way = λ up busy free. keeps.under_way ∙ j.under_way (sym keeps.failed ∙ up) (sym keeps.idle ∙ busy) (sym keeps.sealed ∙ free);
      busy = λ up busy free. j.busy (sym keeps.failed ∙ up) (sym keeps.idle ∙ busy) (sym keeps.sealed ∙ free);
      sealed = λ is. j.sealed (sym keeps.sealed ∙ is);
      emptied = λ is. keeps.end ∙ j.emptied (sym keeps.sealed ∙ is);
      rounds = j.rounds;
      one_more = λ is. j.one_more (sym keeps.sealed ∙ is);
    }

pub invariant_of-self : goal.invariant_of-self
invariant_of-self g c =
    let w = c.args.self.now in
    let node = c.index_mut.result.now in
    let within : c.args.node < w.nodes.len = omega (arith, c.if-node-len.false, c.len.ensures) in
    let at = slice_get_read w.nodes.items w.nodes.len c.args.node node w.nodes.ok.0 within c.index_mut.ensures.value in
    record {
      few = w.few;
      all_nodes = w.all_nodes;
      all_places = w.all_places;
      named = w.named;
      whole = whole_set g.D.Area w.geometry w.nodes.items c.args.node node _ at w.whole refl refl;
    }

module _ (g : Over) (c : goal.After-self-2-1 g) where
  at : slice_get c.args.self.now.nodes.items c.args.node ≡ Some c.index_mut.result.now
  at =
      let w = c.args.self.now in
      let within : c.args.node < w.nodes.len = omega (arith, c.if-node-len.false, c.len.ensures) in
      slice_get_read w.nodes.items w.nodes.len c.args.node c.index_mut.result.now w.nodes.ok.0 within c.index_mut.ensures.value

pub returns-clause-devices : goal.returns-clause-devices
returns-clause-devices g c =
    let node = c.index_mut.result.now in
    record {
      geometry = refl;
      kinds = same_kinds_at g.D.Area c.args.self.now.nodes.items c.args.node node _ (at g c) c.bytes.ensures.keeps.kind;
    }

pub returns-clause-unknown : goal.returns-clause-unknown
returns-clause-unknown g c its there none =
    let same : c.index_mut.result.now ≡ its = same_some c.index_mut.result.now its (sym (at g c) ∙ there) in
    let nothing = c.bytes.ensures.unknown (ap (λ (n : NodeState g.row.D.Denot g.D.Area). area_of g.D.Area n.journal.log) same ∙ none) in (
      nothing.0,
      record {
        now = _;
        geometry = refl;
        nodes = refl;
        travelling = refl;
        desk = ap (λ (n : NodeState g.row.D.Denot g.D.Area). n.desk) same;
        known = ap (λ (n : NodeState g.row.D.Denot g.D.Area). n.known) same;
        journal = record {
          group = ap (λ (n : NodeState g.row.D.Denot g.D.Area). n.journal.group) same;
          words = ap (λ (n : NodeState g.row.D.Denot g.D.Area). n.journal.words) same;
          records = ap (λ (n : NodeState g.row.D.Denot g.D.Area). n.journal.records) same;
          dropped = ap (λ (n : NodeState g.row.D.Denot g.D.Area). n.journal.dropped) same;
          trimmed = ap (λ (n : NodeState g.row.D.Denot g.D.Area). n.journal.trimmed) same;
          taken = ap (λ (n : NodeState g.row.D.Denot g.D.Area). n.journal.taken) same;
          acked = ap (λ (n : NodeState g.row.D.Denot g.D.Area). n.journal.acked) same;
          round = ap (λ (n : NodeState g.row.D.Denot g.D.Area). n.journal.round) same;
        };
        keeps = subst (λ (n : NodeState g.row.D.Denot g.D.Area). StandsOn g.D.Area n.journal.log c.bytes.new.self) same c.bytes.ensures.keeps;
      },
      nothing.1,
    )

pub returns-clause-read : goal.returns-clause-read
returns-clause-read g c area its there some =
    let same : c.index_mut.result.now ≡ its = same_some c.index_mut.result.now its (sym (at g c) ∙ there) in
    let read = c.bytes.ensures.read area (ap (λ (n : NodeState g.row.D.Denot g.D.Area). area_of g.D.Area n.journal.log) same ∙ some) in (
      read.0,
      record {
        kept = record {
          now = _;
          geometry = refl;
          nodes = refl;
          travelling = refl;
          desk = ap (λ (n : NodeState g.row.D.Denot g.D.Area). n.desk) same;
          known = ap (λ (n : NodeState g.row.D.Denot g.D.Area). n.known) same;
          journal = record {
            group = ap (λ (n : NodeState g.row.D.Denot g.D.Area). n.journal.group) same;
            words = ap (λ (n : NodeState g.row.D.Denot g.D.Area). n.journal.words) same;
            records = ap (λ (n : NodeState g.row.D.Denot g.D.Area). n.journal.records) same;
            dropped = ap (λ (n : NodeState g.row.D.Denot g.D.Area). n.journal.dropped) same;
            trimmed = ap (λ (n : NodeState g.row.D.Denot g.D.Area). n.journal.trimmed) same;
            taken = ap (λ (n : NodeState g.row.D.Denot g.D.Area). n.journal.taken) same;
            acked = ap (λ (n : NodeState g.row.D.Denot g.D.Area). n.journal.acked) same;
            round = ap (λ (n : NodeState g.row.D.Denot g.D.Area). n.journal.round) same;
          };
          keeps = subst (λ (n : NodeState g.row.D.Denot g.D.Area). StandsOn g.D.Area n.journal.log c.bytes.new.self) same c.bytes.ensures.keeps;
        };
        next = read.1.next;
        there = read.1.there;
        read = read.1.read;
      },
    )

pub returns-clause-bytes : goal.returns-clause-bytes
returns-clause-bytes g c = IfOk-weaker c.bytes.result _ _ (λ bytes filled area there. filled area (sym (ap (option_and_then (λ (its : NodeState g.row.D.Denot g.D.Area). area_of g.D.Area its.journal.log)) (at g c)) ∙ there)) c.bytes.ensures.bytes
