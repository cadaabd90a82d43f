-- One line more in a cluster.
use Rattle.std.proofs.Common.{◌≡◌, ◌≢◌, ℕ, ◌+◌, ◌<◌, List, [], ◌∷◌, ◌++◌, Some, length, get_or, set, refl, sym, ap, subst, ◌∙◌, arith, length-append}
use mathlib.Core.Logic.{dite}
use native.Mathlib.Decide.{dec_le, ℕ_discrete as dec_eq}
use Rattle.std.specs.Prelude.{slice_get, All, Option, option_and_then}
use Rattle.std.proofs.lemmas.List.Elements.{All-nil, All-push}
use Rattle.std.proofs.lemmas.Option.{slice_get_within, slice_get-get_or, same_Some as some_same}
use Rattle.std.proofs.lemmas.List.{length-set as length_set}
use Rattle.lc_record.proofs.ListLemmas.{slice_get-append_left as get_front, All-slice_get as all_got, slice_get_push as get_last, slice_get-set_same as get_same, slice_get-set_other as get_other}
use Rattle.lc_cluster.specs.Peers.{place_of}
use Rattle.lc_cluster.specs.Receiving.{origin_of}
use Rattle.lc_cluster.specs.Spread.{line_of}
use Rattle.lc_cluster.specs.Wiring.{AreNumbered, HasSends, HasTakes, HasPeers, IsUnsent, IsUntaken, IsUnused, end_to, inbox_from, IsLine, AreLines, AreWired}
use Rattle.lc_cluster.specs.declared.peer_end.PeerEnd.{PeerEnd}
use Rattle.lc_cluster.specs.declared.peer_inbox.PeerInbox.{PeerInbox}
use Rattle.lc_cluster.specs.declared.wiring.NodeEnds.{NodeEnds}
use Rattle.lc_cluster.proofs.PeerPlaces.{place_below, place_above}

-- How many ends there are

module _ (nodes from to : ℕ) where
  sends_one_more : (count : ℕ) → from ≢ to → HasSends nodes from to from count → HasSends nodes from (to + 1) from (count + 1)
  sends_one_more count differ h = record {
    below = λ less. absurd (omega arith);
    here = λ same low. let is = h.here same (omega arith) in omega arith;
    past = λ same high. dite (dec_le to from)
        (λ low. let is = h.here same low in omega arith)
        (λ past. let is = h.past same (omega arith) in omega arith);
    above = λ less. absurd (omega arith);
  }

  sends_same : (node count : ℕ) → node ≢ from → HasSends nodes from to node count → HasSends nodes from (to + 1) node count
  sends_same node count other h = record { below = h.below; here = λ same low. absurd (other same); past = λ same high. absurd (other same); above = h.above }

  takes_one_more : (count : ℕ) → from ≢ to → HasTakes from to to count → HasTakes from (to + 1) to (count + 1)
  takes_one_more count differ h = record {
    reached = λ less low. let is = h.left (omega arith) (omega arith) in omega arith;
    reached_above = λ less high. let is = h.left_above (omega arith) (omega arith) in omega arith;
    left = λ high low. absurd (omega arith);
    left_above = λ high low. absurd (omega arith);
  }

  takes_same : (node count : ℕ) → node ≢ to → HasTakes from to node count → HasTakes from (to + 1) node count
  takes_same node count other h = record {
    reached = λ less low. h.reached (omega arith) low;
    reached_above = λ less high. h.reached_above (omega arith) high;
    left = λ high low. h.left (omega arith) low;
    left_above = λ high low. h.left_above (omega arith) low;
  }

  -- a node is passed over at itself
  sends_over : (node count : ℕ) → to ≡ from → HasSends nodes from to node count → HasSends nodes from (to + 1) node count
  sends_over node count self h = record {
    below = h.below;
    here = λ same low. absurd (omega arith);
    past = λ same high. let is = h.here same (omega arith) in omega arith;
    above = h.above;
  }

  takes_over : (node count : ℕ) → to ≡ from → HasTakes from to node count → HasTakes from (to + 1) node count
  takes_over node count self h = record {
    reached = λ less low. dite (dec_le to node)
        (λ at. h.left_above at (omega arith))
        (λ before. h.reached (omega arith) low);
    reached_above = λ less high. h.reached_above (omega arith) high;
    left = λ high low. h.left (omega arith) low;
    left_above = λ high low. h.left_above (omega arith) low;
  }

  -- the next end stands at the place of its peer
  next_end : (count : ℕ) → from ≢ to → HasSends nodes from to from count → place_of from to ≡ count
  next_end count differ h = dite (dec_le to from)
      (λ low. let is = h.here refl low in let at = place_below from to (omega arith) in omega arith)
      (λ high. let is = h.past refl (omega arith) in let at = place_above from to (omega arith) in omega arith)

  next_inbox : (count : ℕ) → from ≢ to → HasTakes from to to count → place_of to from ≡ count
  next_inbox count differ h = dite (dec_le from to)
      (λ low. let is = h.left_above (omega arith) low in let at = place_below to from (omega arith) in omega arith)
      (λ high. let is = h.left (omega arith) (omega arith) in let at = place_above to from (omega arith) in omega arith)

module _ {A : Type 0} where
  pushed_long : (new old : List A) (x : A) → new ≡ old ++ x ∷ [] → length new ≡ length old + 1
  pushed_long new old x is = ap (λ (l : List A). length l) is ∙ length-append old (x ∷ [])

  pushed_front : (new old : List A) (x : A) (k : ℕ) (y : A) → new ≡ old ++ x ∷ [] → slice_get old k ≡ Some y → slice_get new k ≡ Some y
  pushed_front new old x k y is got = ap (λ (l : List A). slice_get l k) is ∙ (get_front old (x ∷ []) k (slice_get_within old k y got) ∙ got)

  pushed_last : (new old : List A) (x : A) (k : ℕ) → new ≡ old ++ x ∷ [] → k ≡ length old → slice_get new k ≡ Some x
  pushed_last new old x k is at = ap (λ (l : List A). slice_get l k) is ∙ (ap (λ (n : ℕ). slice_get (old ++ x ∷ []) n) at ∙ get_last old x)

  pub all_pushed : (Q : A → Type 0) (new old : List A) (x : A) → new ≡ old ++ x ∷ [] → All Q old → Q x → All Q new
  all_pushed Q new old x is all here = subst (All Q) (sym is) (All-push Q old x all here)

  got_all : (Q : A → Type 0) (xs : List A) → ((k : ℕ) (x : A) → slice_get xs k ≡ Some x → Q x) → All Q xs
  got_all Q xs each = λ k d within. each k (get_or xs k d) (slice_get-get_or xs k d within)

-- The lists of a node's ends

module _ {P : Type 0} where
  got_end : (all : List (NodeEnds P)) (node peer : ℕ) (mine : NodeEnds P) → slice_get all node ≡ Some mine → end_to all node peer ≡ slice_get mine.to.ends.items (place_of node peer)
  got_end all node peer mine at = ap (λ (o : Option (NodeEnds P)). option_and_then (λ (m : NodeEnds P). slice_get m.to.ends.items (place_of node peer)) o) at

  got_inbox : (all : List (NodeEnds P)) (node peer : ℕ) (mine : NodeEnds P) → slice_get all node ≡ Some mine → inbox_from all node peer ≡ slice_get mine.from.ends.items (place_of node peer)
  got_inbox all node peer mine at = ap (λ (o : Option (NodeEnds P)). option_and_then (λ (m : NodeEnds P). slice_get m.from.ends.items (place_of node peer)) o) at

  -- A line from one node to another, whose ends go after those that they have
  module _ (from to : ℕ) (all : List (NodeEnds P)) (peer : PeerEnd P) (inbox : PeerInbox P) (sender receiver sender_new receiver_new : NodeEnds P)
      (differ : from ≢ to)
      (sender_at : slice_get all from ≡ Some sender) (receiver_at : slice_get all to ≡ Some receiver)
      (sender_to : sender_new.to.ends.items ≡ sender.to.ends.items ++ peer ∷ []) (sender_from : sender_new.from.ends.items ≡ sender.from.ends.items)
      (receiver_from : receiver_new.from.ends.items ≡ receiver.from.ends.items ++ inbox ∷ []) (receiver_to : receiver_new.to.ends.items ≡ receiver.to.ends.items)
      (sender_number : sender_new.from.node ≡ sender.from.node) (receiver_number : receiver_new.from.node ≡ receiver.from.node) where
    abbrev with_sender : List (NodeEnds P)
    with_sender = set all from sender_new

    abbrev with_both : List (NodeEnds P)
    with_both = set with_sender to receiver_new

    at_sender : slice_get with_both from ≡ Some sender_new
    at_sender = get_other with_sender to from receiver_new differ ∙ get_same all from sender sender_new sender_at

    at_receiver : slice_get with_both to ≡ Some receiver_new
    at_receiver = get_same with_sender to receiver receiver_new (get_other all from to sender_new (λ e. differ (sym e)) ∙ receiver_at)

    at_other : (node : ℕ) → node ≢ from → node ≢ to → slice_get with_both node ≡ slice_get all node
    at_other node not_from not_to = get_other with_sender to node receiver_new not_to ∙ get_other all from node sender_new not_from

    by_node : (Q : ℕ → NodeEnds P → Type 0) → Q from sender_new → Q to receiver_new → ((node : ℕ) (mine : NodeEnds P) → node ≢ from → node ≢ to → slice_get all node ≡ Some mine → Q node mine)
        → (node : ℕ) (mine : NodeEnds P) → slice_get with_both node ≡ Some mine → Q node mine
    by_node Q here there elsewhere node mine at = dite (dec_eq node from)
        (λ is. subst (λ (m : NodeEnds P). Q node m) (some_same sender_new mine (sym at_sender ∙ (ap (λ (n : ℕ). slice_get with_both n) (sym is) ∙ at))) (subst (λ (n : ℕ). Q n sender_new) (sym is) here))
        (λ not_from. dite (dec_eq node to)
        (λ is. subst (λ (m : NodeEnds P). Q node m) (some_same receiver_new mine (sym at_receiver ∙ (ap (λ (n : ℕ). slice_get with_both n) (sym is) ∙ at))) (subst (λ (n : ℕ). Q n receiver_new) (sym is) there))
        (λ not_to. elsewhere node mine not_from not_to (sym (at_other node not_from not_to) ∙ at)))

    -- what a node had it has
    keeps_end : (one other : ℕ) (p : PeerEnd P) → end_to all one other ≡ Some p → end_to with_both one other ≡ Some p
    keeps_end one other p got = dite (dec_eq one from)
        (λ is. subst (λ (n : ℕ). end_to all n other ≡ Some p → end_to with_both n other ≡ Some p) (sym is)
        (λ had. got_end with_both from other sender_new at_sender ∙ pushed_front sender_new.to.ends.items sender.to.ends.items peer (place_of from other) p sender_to (sym (got_end all from other sender sender_at) ∙ had)) got)
        (λ not_from. dite (dec_eq one to)
        (λ is. subst (λ (n : ℕ). end_to all n other ≡ Some p → end_to with_both n other ≡ Some p) (sym is)
        (λ had. got_end with_both to other receiver_new at_receiver ∙ (ap (λ (l : List (PeerEnd P)). slice_get l (place_of to other)) receiver_to ∙ (sym (got_end all to other receiver receiver_at) ∙ had))) got)
        (λ not_to. ap (λ (o : Option (NodeEnds P)). option_and_then (λ (m : NodeEnds P). slice_get m.to.ends.items (place_of one other)) o) (at_other one not_from not_to) ∙ got))

    keeps_inbox : (one other : ℕ) (p : PeerInbox P) → inbox_from all one other ≡ Some p → inbox_from with_both one other ≡ Some p
    keeps_inbox one other p got = dite (dec_eq one to)
        (λ is. subst (λ (n : ℕ). inbox_from all n other ≡ Some p → inbox_from with_both n other ≡ Some p) (sym is)
        (λ had. got_inbox with_both to other receiver_new at_receiver ∙ pushed_front receiver_new.from.ends.items receiver.from.ends.items inbox (place_of to other) p receiver_from (sym (got_inbox all to other receiver receiver_at) ∙ had)) got)
        (λ not_to. dite (dec_eq one from)
        (λ is. subst (λ (n : ℕ). inbox_from all n other ≡ Some p → inbox_from with_both n other ≡ Some p) (sym is)
        (λ had. got_inbox with_both from other sender_new at_sender ∙ (ap (λ (l : List (PeerInbox P)). slice_get l (place_of from other)) sender_from ∙ (sym (got_inbox all from other sender sender_at) ∙ had))) got)
        (λ not_from. ap (λ (o : Option (NodeEnds P)). option_and_then (λ (m : NodeEnds P). slice_get m.from.ends.items (place_of one other)) o) (at_other one not_from not_to) ∙ got))

    keeps_line : (one other : ℕ) → IsLine all one other → IsLine with_both one other
    keeps_line one other line = (line.0, line.1, keeps_end one other line.0 line.2, keeps_inbox other one line.1 line.3, line.4)

    module _ (nodes : ℕ) (wired : AreWired nodes from to all) (same : origin_of inbox ≡ line_of peer) (unsent : IsUnsent peer) (untaken : IsUntaken inbox) where
      new_line : IsLine with_both from to
      new_line = (
        peer,
        inbox,
        got_end with_both from to sender_new at_sender
            ∙ pushed_last sender_new.to.ends.items sender.to.ends.items peer (place_of from to) sender_to (next_end nodes from to (length sender.to.ends.items) differ (wired.sends from sender sender_at)),
        got_inbox with_both to from receiver_new at_receiver
            ∙ pushed_last receiver_new.from.ends.items receiver.from.ends.items inbox (place_of to from) receiver_from (next_inbox nodes from to (length receiver.from.ends.items) differ (wired.takes to receiver receiver_at)),
        same,
      )

      pub one_line_more : AreWired nodes from (to + 1) with_both
      one_line_more = record {
        count = length_set with_sender to receiver_new ∙ (length_set all from sender_new ∙ wired.count);
        numbers = by_node (λ node mine. mine.from.node ≡ node) (sender_number ∙ wired.numbers from sender sender_at) (receiver_number ∙ wired.numbers to receiver receiver_at) (λ node mine not_from not_to at. wired.numbers node mine at);
        sends = by_node (λ node mine. HasSends nodes from (to + 1) node (length mine.to.ends.items))
            (subst (HasSends nodes from (to + 1) from) (sym (pushed_long sender_new.to.ends.items sender.to.ends.items peer sender_to)) (sends_one_more nodes from to (length sender.to.ends.items) differ (wired.sends from sender sender_at)))
            (subst (HasSends nodes from (to + 1) to) (ap (λ (l : List (PeerEnd P)). length l) (sym receiver_to)) (sends_same nodes from to to (length receiver.to.ends.items) (λ e. differ (sym e)) (wired.sends to receiver receiver_at)))
            (λ node mine not_from not_to at. sends_same nodes from to node (length mine.to.ends.items) not_from (wired.sends node mine at));
        takes = by_node (λ node mine. HasTakes from (to + 1) node (length mine.from.ends.items))
            (subst (HasTakes from (to + 1) from) (ap (λ (l : List (PeerInbox P)). length l) (sym sender_from)) (takes_same nodes from to from (length sender.from.ends.items) differ (wired.takes from sender sender_at)))
            (subst (HasTakes from (to + 1) to) (sym (pushed_long receiver_new.from.ends.items receiver.from.ends.items inbox receiver_from)) (takes_one_more nodes from to (length receiver.from.ends.items) differ (wired.takes to receiver receiver_at)))
            (λ node mine not_from not_to at. takes_same nodes from to node (length mine.from.ends.items) not_to (wired.takes node mine at));
        unused = got_all IsUnused with_both (by_node (λ node mine. IsUnused mine)
            (let was = all_got IsUnused all from sender wired.unused sender_at in (all_pushed IsUnsent sender_new.to.ends.items sender.to.ends.items peer sender_to was.0 unsent, subst (All IsUntaken) (sym sender_from) was.1))
            (let was = all_got IsUnused all to receiver wired.unused receiver_at in (subst (All IsUnsent) (sym receiver_to) was.0, all_pushed IsUntaken receiver_new.from.ends.items receiver.from.ends.items inbox receiver_from was.1 untaken))
            (λ node mine not_from not_to at. all_got IsUnused all node mine wired.unused at));
        lines = λ one other low within apart. keeps_line one other (wired.lines one other low within apart);
        last = λ other low apart. dite (dec_eq other to)
            (λ is. subst (IsLine with_both from) (sym is) new_line)
            (λ before. keeps_line from other (wired.last other (omega arith) apart));
      }

  -- a node has no line to itself
  pub none_to_itself : (nodes from to : ℕ) (all : List (NodeEnds P)) → to ≡ from → AreWired nodes from to all → AreWired nodes from (to + 1) all
  none_to_itself nodes from to all self wired = record {
    count = wired.count;
    numbers = wired.numbers;
    sends = λ node mine at. sends_over nodes from to node (length mine.to.ends.items) self (wired.sends node mine at);
    takes = λ node mine at. takes_over nodes from to node (length mine.from.ends.items) self (wired.takes node mine at);
    unused = wired.unused;
    lines = wired.lines;
    last = λ other low apart. wired.last other (omega arith) apart;
  }

  -- the lines of a node are all there
  pub node_wired : (nodes from : ℕ) (all : List (NodeEnds P)) → from < nodes → AreWired nodes from nodes all → AreWired nodes (from + 1) 0 all
  node_wired nodes from all within wired = record {
    count = wired.count;
    numbers = wired.numbers;
    sends = λ node mine at. let h = wired.sends node mine at in record {
      below = λ less. dite (dec_eq node from) (λ is. h.past is within) (λ other. h.below (omega arith));
      here = λ same low. h.above (omega arith);
      past = λ same high. absurd (omega arith);
      above = λ less. h.above (omega arith);
    };
    takes = λ node mine at. let h = wired.takes node mine at in let is_node : node < nodes = (let l = slice_get_within all node mine at in let n = wired.count in omega arith) in record {
      reached = λ less low. absurd (omega arith);
      reached_above = λ less high. absurd (omega arith);
      left = λ high low. let is = h.reached is_node (omega arith) in omega arith;
      left_above = λ high low. let is = h.reached_above is_node (omega arith) in omega arith;
    };
    unused = wired.unused;
    lines = λ one other low in_all apart. dite (dec_eq one from)
        (λ is. subst (λ (n : ℕ). IsLine all n other) (sym is) (wired.last other in_all (λ e. apart (is ∙ e))))
        (λ before. wired.lines one other (omega arith) in_all apart);
    last = λ other low apart. absurd (omega arith);
  }

  -- no line yet
  abbrev pub HasNone : NodeEnds P → Type 0
  HasNone mine = (mine.to.ends.items ≡ []) × (mine.from.ends.items ≡ [])

  -- and one more, with the next number
  pub numbered_more : (news olds : List (NodeEnds P)) (x : NodeEnds P) → news ≡ olds ++ x ∷ [] → x.from.node ≡ length olds → AreNumbered olds → AreNumbered news
  numbered_more news olds x is number before node mine at =
      let long : length news ≡ length olds + 1 = ap (λ (l : List (NodeEnds P)). length l) is ∙ length-append olds (x ∷ []) in
      let within = slice_get_within news node mine at in
      let got : slice_get (olds ++ x ∷ []) node ≡ Some mine = sym (ap (λ (l : List (NodeEnds P)). slice_get l node) is) ∙ at in
      dite (dec_le (length olds) node)
      (λ high. let last : node ≡ length olds = omega arith in
      let same : x ≡ mine = some_same x mine (sym (get_last olds x) ∙ (sym (ap (λ (n : ℕ). slice_get (olds ++ x ∷ []) n) last) ∙ got)) in
      ap (λ (m : NodeEnds P). m.from.node) (sym same) ∙ (number ∙ sym last))
      (λ low. before node mine (sym (get_front olds (x ∷ []) node (omega arith)) ∙ got))

  pub none_wired : (nodes : ℕ) (all : List (NodeEnds P)) → length all ≡ nodes → AreNumbered all → All HasNone all → AreWired nodes 0 0 all
  none_wired nodes all long numbers none = record {
    count = long;
    numbers = numbers;
    sends = λ node mine at. let empty : length mine.to.ends.items ≡ 0 = ap (λ (l : List (PeerEnd P)). length l) (all_got HasNone all node mine none at).0 in record {
      below = λ less. absurd (omega arith);
      here = λ same low. empty;
      past = λ same high. absurd (omega arith);
      above = λ less. empty;
    };
    takes = λ node mine at. let empty : length mine.from.ends.items ≡ 0 = ap (λ (l : List (PeerInbox P)). length l) (all_got HasNone all node mine none at).1 in record {
      reached = λ less low. absurd (omega arith);
      reached_above = λ less high. absurd (omega arith);
      left = λ high low. absurd (omega arith);
      left_above = λ high low. empty;
    };
    unused = got_all IsUnused all (λ node mine at. let is = all_got HasNone all node mine none at in (subst (All IsUnsent) (sym is.0) (All-nil IsUnsent), subst (All IsUntaken) (sym is.1) (All-nil IsUntaken)));
    lines = λ one other low within apart. absurd (omega arith);
    last = λ other low apart. absurd (omega arith);
  }

  -- all lines are there
  pub all_wired : (nodes count from : ℕ) (all : List (NodeEnds P)) → count ≡ nodes → from ≡ count → AreWired count from 0 all → AreWired nodes nodes 0 all
  all_wired nodes count from all is end wired = subst (λ n. AreWired n n 0 all) is (subst (λ n. AreWired count n 0 all) end wired)

  pub have_peers : (nodes : ℕ) (all : List (NodeEnds P)) → AreWired nodes nodes 0 all → All (HasPeers nodes) all
  have_peers nodes all wired = got_all (HasPeers nodes) all (λ node mine at.
      let is_node : node < nodes = (let l = slice_get_within all node mine at in let n = wired.count in omega arith) in
      let to : length mine.to.ends.items + 1 ≡ nodes = (wired.sends node mine at).below is_node in
      let from : length mine.from.ends.items + 1 ≡ nodes = (wired.takes node mine at).left (omega arith) is_node in
      let whole_to = mine.to.ends.ok.0 in let whole_from = mine.from.ends.ok.0 in (omega arith, omega arith))

  pub are_lines : (nodes : ℕ) (all : List (NodeEnds P)) → AreWired nodes nodes 0 all → AreLines nodes all
  are_lines nodes all wired = wired.lines
