use Rattle.std.proofs.Common.{◌≡◌, ℕ, ◌+◌, ◌<◌, ◌++◌, List, Option, Some, length, suc, take, drop, sym, ap, ◌∙◌, arith}
use Rattle.std.specs.Prelude.{slice_get}
use Rattle.std.specs.List.{remove}
use Rattle.std.proofs.lemmas.Option.{slice_get-get_or, slice_get_within}
use Rattle.lc_node.proofs.FreshFits.{areas_count}
use Rattle.lc_record.proofs.ListLemmas.{slice_get_some}
use Rattle.lc_node.proofs.EachPlace.{each_more}
use Rattle.lc_node.proofs.Taking.{behind_is, front_is}
use Rattle.lc_node.proofs.areas.Areas.new.Goals as goal

pub remove-requires : goal.remove-requires
remove-requires g c =
    let same = c.geometry-geometry.ensures in
    omega (arith, ap (λ h. h.nodes) same, ap (λ h. h.segments) same, c.loop-test.true, c.loop.invariant.left, areas_count g.D.Area c.args.recovered c.requires.lengths)

pub loop-preserved : goal.loop-preserved
loop-preserved g c =
    let inv = c.loop.invariant in
    let r = c.args.recovered in
    let logs = c.loop.logs.items in
    let nodes : c.geometry-geometry.result.nodes ≡ r.geometry.nodes = ap (λ h. h.nodes) c.geometry-geometry.ensures in
    let segments = ap (λ h. h.segments) c.geometry-geometry.ensures in
    let count = areas_count g.D.Area r c.requires.lengths in
    let left : c.remove.new.self.items ≡ take r.geometry.nodes logs ++ drop (suc r.geometry.nodes) logs = c.remove.ensures.items ∙ ap (λ (n : ℕ). remove logs n) nodes in
    let within : c.geometry-geometry.result.nodes < length logs = omega (arith, nodes, segments, c.loop-test.true, inv.left, count, c.loop.logs.ok.0) in
    let at : c.geometry-geometry.result.nodes ≡ r.geometry.nodes + 0 = omega (arith, nodes) in
    let taken : slice_get logs (r.geometry.nodes + 0) ≡ Some c.remove.result =
    ap (slice_get logs) (sym at) ∙ slice_get-get_or logs c.geometry-geometry.result.nodes c.remove.result within ∙ ap (λ (d : g.row.D.Denot). Some d) (sym c.remove.ensures.value) in
    let here : c.loop.counter + 0 ≡ c.loop.counter = omega arith in
    record {
      done = omega (arith, c.push_reserved.ensures.len, inv.done);
      left = omega (arith, c.remove.ensures.len, inv.left);
      space = omega (arith, c.push_reserved.ensures.capacity, inv.space);
      logs = λ k area front got. inv.logs k area front (sym (front_is logs r.geometry.nodes k front) ∙ ap (λ (l : List g.row.D.Denot). slice_get l k) (sym left) ∙ got);
      behind = λ k area got.
          (let back : suc r.geometry.nodes + k ≡ r.geometry.nodes + (1 + k) = omega arith in
          let next : c.loop.counter + (1 + k) ≡ (c.loop.counter + 1) + k = omega arith in
          ap (λ (n : ℕ). slice_get r.areas (r.geometry.nodes + n)) (sym next)
          ∙ inv.behind (1 + k) area (ap (slice_get logs) (sym back) ∙ sym (behind_is logs r.geometry.nodes k) ∙ ap (λ (l : List g.row.D.Denot). slice_get l (r.geometry.nodes + k)) (sym left) ∙ got));
      pages = each_more (λ (k : ℕ) (area : Option g.row.D.Denot). area ≡ slice_get r.areas (r.geometry.nodes + k)) c.push_reserved.new.self.items c.loop.pages.items (Some c.remove.result) c.loop.counter
          c.push_reserved.ensures.items (omega (arith, inv.done, c.loop.pages.ok.0)) inv.pages
          (sym (ap (λ (n : ℕ). slice_get r.areas (r.geometry.nodes + n)) (sym here) ∙ inv.behind 0 c.remove.result taken));
    }

pub returns-clause-log_count : goal.returns-clause-log_count
returns-clause-log_count g c =
    omega (arith, ap (λ h. h.segments) c.geometry-geometry.ensures, c.loop-test.false, c.loop.auto.counter-end, c.loop.invariant.left, areas_count g.D.Area c.args.recovered c.requires.lengths)

pub returns-clause-logs : goal.returns-clause-logs
returns-clause-logs g c = λ node area got.
    let inv = c.loop.invariant in
    let within : node < c.args.recovered.geometry.nodes = omega (
      arith,
      slice_get_within c.loop.logs.items node area got,
      c.loop.logs.ok.0,
      ap (λ h. h.segments) c.geometry-geometry.ensures,
      c.loop-test.false,
      c.loop.auto.counter-end,
      inv.left,
      areas_count g.D.Area c.args.recovered c.requires.lengths,
    ) in
    inv.logs node area within got

pub returns-clause-pages : goal.returns-clause-pages
returns-clause-pages g c = λ place within.
    (let inv = c.loop.invariant in
    let segments = ap (λ h. h.segments) c.geometry-geometry.ensures in
    let there = slice_get_some c.loop.pages.items place (omega (arith, within, segments, c.loop-test.false, c.loop.auto.counter-end, inv.done, c.loop.pages.ok.0)) in
    there.1 ∙ ap (λ (o : Option g.row.D.Denot). Some o) (inv.pages place there.0 there.1))
