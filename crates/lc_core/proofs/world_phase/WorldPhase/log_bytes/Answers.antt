use Rattle.std.proofs.Common.{◌≡◌, refl, subst}
use Rattle.lc_recover.specs.Recovery.{Recovering}
use Rattle.lc_core.proofs.Devices.{up_whole}
use Rattle.lc_core.proofs.Geometries.{nodes_down, nodes_up}
use Rattle.lc_core.proofs.LogReads.{down_none, same_down, up_none, up_reads}
use Rattle.lc_core.proofs.world_phase.WorldPhase.log_bytes.Goals as goal

pub returns-in-Down-clause-unknown : goal.returns-in-Down-clause-unknown
returns-in-Down-clause-unknown g c = rw c.in-Down.is (λ there.
    let none = c.log_bytes_of.ensures.unknown there in
    (none.0, down_none g.D.Area c.in-Down.recovery c.log_bytes_of.new.recovery c.args.node none.1 there))

pub returns-in-Down-clause-read : goal.returns-in-Down-clause-read
returns-in-Down-clause-read g c = rw c.in-Down.is c.log_bytes_of.ensures.read

pub returns-in-Up-clause-unknown : goal.returns-in-Up-clause-unknown
returns-in-Up-clause-unknown g c = rw c.in-Up.is
    (up_none g.D.Area c.in-Up.up _ c.args.node _ refl c.log_bytes.ensures.devices c.log_bytes.ensures.outside c.log_bytes.ensures.unknown)

pub returns-in-Up-clause-read : goal.returns-in-Up-clause-read
returns-in-Up-clause-read g c = rw c.in-Up.is
    (up_reads g.D.Area c.in-Up.up _ c.args.node _ _ refl c.log_bytes.ensures.devices c.log_bytes.ensures.read)

pub returns-in-Down-clause-down : goal.returns-in-Down-clause-down
returns-in-Down-clause-down g c r is = (
  c.in-Down.recovery,
  c.in-Down.is,
  subst (λ (n : Recovering g.row.D.Denot). n ≡ record c.in-Down.recovery { areas = n.areas }) (same_down g.D.Area c.log_bytes_of.new.recovery r is) c.log_bytes_of.ensures.same,
)

pub invariant_of-up : goal.invariant_of-up
invariant_of-up g c =
    let w = up_whole g.D.Area c.in-Up.up c.log_bytes.new.self c.log_bytes.ensures.devices in
    record { all_segments = w.all_segments; logs = w.logs; lengths = w.lengths; pages = w.pages; none = w.none; room = w.room }

pub returns-in-Down-clause-nodes : goal.returns-in-Down-clause-nodes
returns-in-Down-clause-nodes g c = nodes_down g.D.Area c.args.self.now c.in-Down.recovery c.args.node c.in-Down.is c.log_bytes_of.ensures.nodes

pub returns-in-Up-clause-nodes : goal.returns-in-Up-clause-nodes
returns-in-Up-clause-nodes g c = nodes_up g.D.Area c.args.self.now c.in-Up.up c.args.node c.in-Up.is
