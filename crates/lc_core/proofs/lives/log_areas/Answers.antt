use Rattle.std.proofs.Common.{◌≡◌, ◌<◌, ◌∷◌, [], None, Some, drop, length, refl, sym, ap, ◌∙◌, inl, inr, arith}
use Rattle.std.specs.Prelude.{slice_get}
use Rattle.std.proofs.lemmas.Bool.{cases_eq}
use Rattle.std.proofs.lemmas.List.{drop-drop}
use Rattle.std.proofs.lemmas.Option.{slice_get_within, same_Some as same_some}
use Rattle.lc_record.proofs.ListLemmas.{slice_get-append_left as front_get, left_first as first_left, left_some as some_left}
use Rattle.lc_journal.specs.Log.{area_of}
use Rattle.lc_events.specs.declared.node_state.NodeState.{NodeState}
use Rattle.lc_core.proofs.Devices.{log_area_of}
use Rattle.lc_core.proofs.Gathering.{last_get}
use Rattle.lc_core.proofs.lives.log_areas.Goals as goal

pub loop-init : goal.loop-init
loop-init g c = record { rest = refl; count = ap length c.requires.empty; logs = λ n node less got. absurd (omega (arith, less)); room = refl }

pub remove-journal-requires : goal.remove-journal-requires
remove-journal-requires g c =
    let within : c.loop.counter < length c.args.nodes.items = omega (arith, c.loop-test.true, c.loop.auto.counter-end, c.len-end.ensures, c.args.nodes.ok.0) in
    let some = some_left c.args.nodes.items c.loop.nodes.items c.loop.counter c.loop.invariant.rest within in
    omega (arith, some, c.loop.nodes.ok.0)

pub push_reserved-requires : goal.push_reserved-requires
push_reserved-requires g c =
    let within : c.loop.counter < length c.args.nodes.items = omega (arith, c.loop-test.true, c.loop.auto.counter-end, c.len-end.ensures, c.args.nodes.ok.0) in
    omega (arith, within, c.loop.invariant.room, c.loop.invariant.count, c.loop.areas.ok.0, c.requires.room, c.args.nodes.ok.0)

pub unreachable-requires : goal.unreachable-requires
unreachable-requires g c =
    let within : c.loop.counter < length c.args.nodes.items = omega (arith, c.loop-test.true, c.loop.auto.counter-end, c.len-end.ensures, c.args.nodes.ok.0) in
    let at = first_left c.args.nodes.items c.loop.nodes.items c.loop.counter c.remove-journal.result c.loop.invariant.rest within c.remove-journal.ensures.value in
    let area = log_area_of g.D.Area c.requires.there.0 c.args.nodes.items c.requires.there.1 c.loop.counter c.remove-journal.result at in
    let none : None ≡ Some area.0 = sym c.in-None.is ∙ c.into_area.ensures ∙ area.1 in
    absurd cc

pub loop-preserved : goal.loop-preserved
loop-preserved g c =
    let h = c.loop.invariant in
    let within : c.loop.counter < length c.args.nodes.items = omega (arith, c.loop-test.true, c.loop.auto.counter-end, c.len-end.ensures, c.args.nodes.ok.0) in
    let at = first_left c.args.nodes.items c.loop.nodes.items c.loop.counter c.remove-journal.result h.rest within c.remove-journal.ensures.value in
    record {
      rest = c.remove-journal.ensures.items ∙ ap (λ l. drop 1 l) h.rest ∙ drop-drop 1 c.loop.counter c.args.nodes.items;
      count = omega (arith, c.push_reserved.ensures.len, c.push_reserved.new.self.ok.0, c.loop.areas.ok.0, h.count);
      logs = λ n node less got. elim (cases_eq n c.loop.counter) [
        | inl same ↦
            let its : c.remove-journal.result ≡ node = same_some c.remove-journal.result node (sym at ∙ sym (ap (slice_get c.args.nodes.items) same) ∙ got) in
            ap (λ (node : NodeState g.row.D.Denot g.D.Area). area_of g.D.Area node.journal.log) (sym its) ∙ sym c.into_area.ensures ∙ c.in-Some.is
            ∙ sym (ap (λ l. slice_get l n) c.push_reserved.ensures.items ∙ last_get c.loop.areas.items c.in-Some.area n (same ∙ sym h.count))
        | inr differ ↦
            let before : n < length c.loop.areas.items = omega (arith, less, differ, h.count) in
            h.logs n node (omega (arith, less, differ)) got ∙ sym (ap (λ l. slice_get l n) c.push_reserved.ensures.items ∙ front_get c.loop.areas.items (c.in-Some.area ∷ []) n before)
      ];
      room = c.push_reserved.ensures.capacity ∙ h.room;
    }

pub returns-clause-logs : goal.returns-clause-logs
returns-clause-logs g c = λ n node got.
    let within = slice_get_within c.args.nodes.items n node got in
    c.loop.invariant.logs n node (omega (arith, within, c.loop-test.false, c.len-end.ensures, c.args.nodes.ok.0)) got

pub returns-clause-count : goal.returns-clause-count
returns-clause-count g c = omega (arith, c.loop.invariant.count, c.loop-test.false, c.loop.auto.counter-end, c.len-end.ensures)

pub returns-clause-room : goal.returns-clause-room
returns-clause-room g c = c.loop.invariant.room
