-- The lines of the nodes of a cluster, as the locks of their ends know them.
use Rattle.std.specs.Prelude.{◌≡◌, ◌≢◌, ◌<◌, ℕ, List, map, option_map, All}
use Rattle.lc_lock.specs.Loans.{key_of}
use Rattle.lc_segments.specs.Journey.{Journey}
use Rattle.lc_cluster.specs.Receiving.{SameOrigins, origin_of}
use Rattle.lc_cluster.specs.Spread.{SameLines, line_of}
use Rattle.lc_cluster.specs.Wiring.{HasPeers, end_to, inbox_from}
use Rattle.lc_cluster.specs.declared.joining.Post.{Post}
use Rattle.lc_cluster.specs.declared.member.Member.{Member}
use Rattle.lc_cluster.specs.declared.wiring.NodeEnds.{NodeEnds}

module _ {P : Type 0} where
  -- both locks have the same key
  abbrev pub HasOneKey : Post P → Type 0
  HasOneKey post = key_of post.from ≡ key_of post.to

  -- the ends as they were wired
  abbrev pub wired_in : List (Post P) → List (NodeEnds P)
  wired_in posts = map (λ (post : Post P). key_of post.to) posts

  -- a node has an end to each other and one from each, and both ends from each node to each other are of one line
  pub record AreWiredAs (nodes : ℕ) (all : List (NodeEnds P)) : Type 0 where
    pub peers : All (HasPeers nodes) all
    pub lines : (from to : ℕ) → from < nodes → to < nodes → from ≢ to → option_map origin_of (inbox_from all to from) ≡ option_map line_of (end_to all from to)

  -- the ends are of the same lines
  pub record AreOnLines (wired ends : NodeEnds P) : Type 0 where
    pub to : SameLines wired.to.ends.items ends.to.ends.items
    pub from : SameOrigins wired.from.ends.items ends.from.ends.items

module _ {D : Type 0} where
  abbrev pub HasOwnKey : Member D → Type 0
  HasOwnKey member = key_of member.from ≡ key_of member.to

  abbrev pub wired_by : List (Member D) → List (NodeEnds (Journey D))
  wired_by members = map (λ (member : Member D). key_of member.to) members
