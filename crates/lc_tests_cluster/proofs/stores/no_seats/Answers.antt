use Rattle.std.proofs.Common.{◌≡◌, ℕ, List, [], length, refl, ap, arith}
use Rattle.std.specs.Global.{Vec}
use Rattle.lc_stage.specs.declared.seats.CommitSeat.{CommitSeat}
use Rattle.lc_node.proofs.EachPlace.{each_more, each_none}
use Rattle.lc_tests_cluster.proofs.stores.no_seats.Goals as goal

pub loop-init : goal.loop-init
loop-init c = record {
  count = ap (λ (l : List (Vec CommitSeat)). length l) c.new-seats.ensures.items;
  none = each_none (λ (_ : ℕ) (mine : Vec CommitSeat). mine.items ≡ []) c.new-seats.result.items c.new-seats.ensures.items;
}

pub loop-preserved : goal.loop-preserved
loop-preserved c =
    let inv = c.loop.invariant in
    record {
      count = omega (arith, inv.count, c.in_ok-push.ensures.len, c.loop.seats.ok.0, c.push.new.self.ok.0);
      none = each_more (λ (_ : ℕ) (mine : Vec CommitSeat). mine.items ≡ []) c.push.new.self.items c.loop.seats.items c.new.result (length c.loop.seats.items) c.in_ok-push.ensures.items refl inv.none c.new.ensures.items;
    }
