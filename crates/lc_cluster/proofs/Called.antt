-- What the calls of a cluster did, from what the inner calls did.
use Rattle.std.proofs.Common.{◌≡◌, ℕ, ◌+◌, ◌-◌, ◌^◌, List, Some, min, sym, ap, subst, ◌∙◌}
use Rattle.std.specs.Prelude.{All, Err, IfOk, Ok, OnOk, Option, Result, option_map, slice_get}
use Rattle.std.proofs.lemmas.Option.{same_Some as some_same}
use Rattle.lc_cluster.specs.Calls.{HasSegmentAt}
use Rattle.lc_segments.specs.Each.{Each}
use Rattle.lc_node.specs.Held.{HasSegment}
use Rattle.lc_cluster.specs.Spread.{ArePrefixes, LacksNoneOf, SameLines, SendsFew, SendsMost, Spreads, missing_in, sent_in, tokens_in}
use Rattle.lc_cluster.specs.declared.cluster.Cluster.{Cluster}
use Rattle.lc_cluster.specs.declared.member.Member.{Member}
use Rattle.lc_node.specs.declared.node.Node.{Node}
use Rattle.lc_segments.specs.declared.node_fault.NodeFault.{NodeFault}
use Rattle.lc_cluster.specs.declared.peer_end.PeerEnd.{PeerEnd}
use Rattle.lc_cluster.specs.declared.spreading.Spread.{Spread}

pub spreads_of : {P : Type 0} (gone : ℕ) (published : List (List ℕ)) (old new : List (PeerEnd P)) (r : Result Spread NodeFault) → (ArePrefixes published old → ArePrefixes published new) → OnOk r (Each SendsFew old new)
    → OnOk r (ArePrefixes published old → All (LacksNoneOf gone) old → Each (SendsMost published) old new) → IfOk r (λ s. sent_in new ≡ sent_in old + s.sent)
    → IfOk r (λ s. s.left ≡ min (2 ^ 64 - 1) (missing_in published new)) → tokens_in new ≡ tokens_in old → SameLines old new → IfOk r (λ s. Spreads gone published old s new)
spreads_of gone published old new (Ok s) prefix few most sent left tokens lines =
    record { prefix = prefix; few = few; most = most; sent = sent; left = left; tokens = tokens; lines = lines }
spreads_of gone published old new (Err fault) prefix few most sent left tokens lines = tt

module _ {D : Type 0} (cluster : Cluster D) (number segment : ℕ) (member : Member D) (at : slice_get cluster.members.items number ≡ Some member) where
  pub node_here : option_map (λ (m : Member D). m.node) (slice_get cluster.members.items number) ≡ Some member.node
  node_here = ap (λ (o : Option (Member D)). option_map (λ (m : Member D). m.node) o) at

  pub has_here : HasSegmentAt cluster number segment → HasSegment member.node segment
  has_here has = subst (λ (n : Node D). HasSegment n segment) (some_same has.0 member.node (sym has.1 ∙ node_here)) has.2

  pub here_has : HasSegment member.node segment → HasSegmentAt cluster number segment
  here_has has = (member.node, node_here, has)
