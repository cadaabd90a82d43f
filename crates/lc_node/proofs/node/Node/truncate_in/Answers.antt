use Rattle.std.proofs.Common.{◌≡◌, ◌⊎◌, All, inr, subst, arith}
use Rattle.std.specs.VecDeque.{deque_capacity}
use Rattle.std.proofs.lemmas.Result.{IfErr-weaker as if_err}
use Rattle.lc_log_side.specs.Truncates.{HasPagesIn, IsUntruncatedInRoom}
use Rattle.lc_segments.specs.declared.node_fault.NodeFault.TheVariants.{NoMemory}
use Rattle.lc_node.proofs.MadeRoom.{same_held}
use Rattle.lc_node.proofs.PagesWritten.{still_held, more_places}
use Rattle.lc_node.proofs.node.Node.truncate_in.Goals as goal

pub truncate_log-truncated-requires-clause-room : goal.truncate_log-truncated-requires-clause-room
truncate_log-truncated-requires-clause-room g c = more_places c.args.held.now.sides.items c.most_pages-most.result (deque_capacity c.in-Ok.writes) (let enough = c.in-Ok.ensures.capacity in omega arith)
    (subst (All (HasPagesIn c.most_pages-most.result)) c.as_slice.ensures.value c.most_pages-most.ensures)

pub returns-clause-held : goal.returns-clause-held
returns-clause-held g c = still_held c.args.self.now c.args.held.now.sides.items c.truncate_log-truncated.new.sides.items c.truncate_log-truncated.ensures.same c.requires.held

pub returns-clause-refused : goal.returns-clause-refused
returns-clause-refused g c =
    if_err c.truncate_log-truncated.result (λ fault. IsUntruncatedInRoom g.D.Area c.args.self.now.stage.room c.args.log.now c.args.held.now.sides.items fault c.truncate_log-truncated.new.log c.truncate_log-truncated.new.sides.items)
    (λ fault. ((fault ≡ NoMemory) × (c.truncate_log-truncated.new.log ≡ c.args.log.now) × (c.truncate_log-truncated.new.sides.items ≡ c.args.held.now.sides.items)) ⊎ IsUntruncatedInRoom g.D.Area c.args.self.now.stage.room c.args.log.now c.args.held.now.sides.items fault c.truncate_log-truncated.new.log c.truncate_log-truncated.new.sides.items)
    (λ fault why. inr why) c.truncate_log-truncated.ensures.refused

pub returns-clause-segments : goal.returns-clause-segments
returns-clause-segments g c = same_held c.args.held.now.sides.items c.truncate_log-truncated.new.sides.items c.truncate_log-truncated.ensures.same
