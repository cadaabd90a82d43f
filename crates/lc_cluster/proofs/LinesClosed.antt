-- Lines that are closed, those of one node after another.
use Rattle.std.proofs.Common.{◌≡◌, ◌≢◌, ℕ, zero, suc, ◌+◌, ◌<◌, List, [], ◌∷◌, ◌++◌, All, drop, length, Option, Some, refl, sym, ap, subst, ◌∙◌, arith, length-drop}
use Rattle.std.specs.Prelude.{slice_get, slice_index_or, option_and_then, option_map, None}
use Rattle.std.proofs.lemmas.List.{append-nil, append_assoc}
use Rattle.std.proofs.Math.Seq.{drop-append_seam}
use Rattle.std.proofs.lemmas.Option.{slice_get_within, same_Some as some_same}
use Rattle.lc_record.proofs.ListLemmas.{slice_get_some as stands, All-slice_get as at_each, slice_get-drop as get-drop}
use Rattle.lc_cluster.specs.Closing.{AreJoined, Gives, GivesAll, GivesBoth, Grows, IsBehindFirst, StandIn, left_on}
use Rattle.lc_segments.specs.Each.{Each}
use Rattle.lc_cluster.specs.Keys.{AreWiredAs}
use Rattle.lc_cluster.specs.Peers.{place_of}
use Rattle.lc_cluster.specs.Receiving.{origin_of, taken_of}
use Rattle.lc_cluster.specs.Spread.{line_of, sent_to}
use Rattle.lc_cluster.specs.Wiring.{AreLines, HasPeers, end_to, inbox_from}
use Rattle.lc_node.specs.declared.message.Message.{Message}
use Rattle.lc_cluster.specs.declared.peer_end.PeerEnd.{PeerEnd}
use Rattle.lc_cluster.specs.declared.peer_inbox.PeerInbox.{PeerInbox}
use Rattle.lc_cluster.specs.declared.wiring.NodeEnds.{NodeEnds}
use Rattle.lc_node.proofs.Joined.{all_from_each}
use Rattle.lc_cluster.proofs.PeerPlaces.{place_above, place_below}
use mathlib.Core.Logic.{dite}
use native.Mathlib.Decide.{dec_le}

-- what is taken from the front of a list, and what is left of it
pub split_first : {A : Type 0} (xs left : List A) (x : A) → 0 < length xs → x ≡ slice_index_or xs 0 x → left ≡ drop 1 xs → xs ≡ x ∷ left
split_first [] left x some is rest = absurd (omega (arith, some))
split_first (y ∷ ys) left x some is rest = ap (λ z. z ∷ ys) (sym is) ∙ ap (λ l. x ∷ l) (sym rest)

-- Tokens that are added

module _ {P : Type 0} where
  pub grows_same : (xs : List P) → Grows xs xs
  grows_same xs = ([], sym (append-nil xs))

  pub grows_more : (xs ys zs : List P) → Grows xs ys → Grows ys zs → Grows xs zs
  grows_more xs ys zs g h = (g.0 ++ h.0, h.1 ∙ (ap (λ l. l ++ h.0) g.1 ∙ append_assoc xs g.0 h.0))

  pub stand_more : (few xs ys : List P) → StandIn few xs → Grows xs ys → StandIn few ys
  stand_more few xs ys s g = (s.0, s.1 ++ g.0, g.1 ∙ (ap (λ l. l ++ g.0) s.2 ∙ (append_assoc s.0 (few ++ s.1) g.0 ∙ ap (λ l. s.0 ++ l) (append_assoc few s.1 g.0))))

  pub added : (few xs ys : List P) → ys ≡ xs ++ few → StandIn few ys
  added few xs ys is = (xs, [], is ∙ ap (λ l. xs ++ l) (sym (append-nil few)))

  -- the one line whose ends they are
  pub gives_these : (to : Option (PeerEnd P)) (from : Option (PeerInbox P)) (tokens : List P) (p : PeerEnd P) (i : PeerInbox P) → to ≡ Some p → from ≡ Some i → StandIn (left_on p i) tokens → Gives to from tokens
  gives_these to from tokens p i a b s = λ q j c d.
      subst (λ (x : PeerEnd P). StandIn (left_on x j) tokens) (some_same p q (sym a ∙ c)) (subst (λ (y : PeerInbox P). StandIn (left_on p y) tokens) (some_same i j (sym b ∙ d)) s)

  -- what was sent and not taken
  pub left_is_rest : (p : PeerEnd P) (i : PeerInbox P) (rest : List (Message P)) → sent_to p ≡ taken_of i ++ rest → drop (length (taken_of i)) (sent_to p) ≡ rest
  left_is_rest p i rest is = ap (drop (length (taken_of i))) is ∙ drop-append_seam (taken_of i) rest

  pub gives_more : (to : Option (PeerEnd P)) (from : Option (PeerInbox P)) (xs ys : List P) → Gives to from xs → Grows xs ys → Gives to from ys
  gives_more to from xs ys h g = λ peer inbox t f. stand_more (left_on peer inbox) xs ys (h peer inbox t f) g

  pub both_more : (place : ℕ) (mine peer : NodeEnds P) (xs ys : List P) → GivesBoth place mine peer xs → Grows xs ys → GivesBoth place mine peer ys
  both_more place mine peer xs ys h g = record {
    there = gives_more (slice_get mine.to.ends.items place) (slice_get peer.from.ends.items 0) xs ys h.there g;
    back = gives_more (slice_get peer.to.ends.items 0) (slice_get mine.from.ends.items place) xs ys h.back g;
  }

pub is_some_of : {A B : Type 0} (f : A → B) (o : Option A) (y : B) → option_map f o ≡ Some y → (x : A) × (o ≡ Some x) × (f x ≡ y)
is_some_of f None y is = absurd cc
is_some_of f (Some x) y is = (x, refl, some_same (f x) y is)

-- A node whose first ends are gone

module _ {A : Type 0} where
  next_drop : (n : ℕ) (xs : List A) → drop 1 (drop n xs) ≡ drop (suc n) xs
  next_drop zero [] = refl
  next_drop zero (x ∷ xs) = refl
  next_drop (suc n) [] = refl
  next_drop (suc n) (x ∷ xs) = next_drop n xs

  pub drop_one_more : (n : ℕ) (xs old new : List A) → old ≡ drop n xs → new ≡ drop 1 old → new ≡ drop (n + 1) xs
  drop_one_more n xs old new was is = let next : suc n ≡ n + 1 = omega arith in is ∙ (ap (drop 1) was ∙ (next_drop n xs ∙ ap (λ (m : ℕ). drop m xs) next))

  at_front : (n : ℕ) (xs left : List A) → left ≡ drop n xs → slice_get left 0 ≡ slice_get xs n
  at_front n xs left is = let same : n + 0 ≡ n = omega arith in ap (λ (l : List A). slice_get l 0) is ∙ (get-drop n 0 xs ∙ ap (slice_get xs) same)

module _ {P : Type 0} (place : ℕ) (first mine : NodeEnds P) (to : mine.to.ends.items ≡ drop place first.to.ends.items) (from : mine.from.ends.items ≡ drop place first.from.ends.items) where
  sends : slice_get mine.to.ends.items 0 ≡ slice_get first.to.ends.items place
  sends = at_front place first.to.ends.items mine.to.ends.items to

  takes : slice_get mine.from.ends.items 0 ≡ slice_get first.from.ends.items place
  takes = at_front place first.from.ends.items mine.from.ends.items from

  pub joined_here : (peer : NodeEnds P) → AreJoined place first peer → AreJoined 0 mine peer
  joined_here peer j = record {
    there = (j.there.0, j.there.1, sends ∙ j.there.2, j.there.3, j.there.4);
    back = (j.back.0, j.back.1, j.back.2, takes ∙ j.back.3, j.back.4);
  }

  pub given_there : (peer : NodeEnds P) (tokens : List P) → GivesBoth 0 mine peer tokens → GivesBoth place first peer tokens
  given_there peer tokens h = record {
    there = λ p i a b. h.there p i (sends ∙ a) b;
    back = λ p i a b. h.back p i a (takes ∙ b);
  }

-- The first node of a cluster, and what is left of the others without it

next_place : (f t : ℕ) → f ≢ t → place_of (suc f) (suc t) ≡ 1 + place_of f t
next_place f t apart = dite (dec_le f t)
    (λ high. let one = place_above f t (omega arith) in let other = place_above (suc f) (suc t) (omega arith) in omega arith)
    (λ low. let one = place_below f t (omega arith) in let other = place_below (suc f) (suc t) (omega arith) in omega arith)

from_first : (k : ℕ) → place_of 0 (suc k) ≡ k
from_first k = let at = place_above 0 (suc k) (omega arith) in omega arith

to_first : (k : ℕ) → place_of (suc k) 0 ≡ 0
to_first k = place_below (suc k) 0 (omega arith)

module _ {P : Type 0} where
  end_at : (all : List (NodeEnds P)) (node peer : ℕ) (mine : NodeEnds P) → slice_get all node ≡ Some mine → end_to all node peer ≡ slice_get mine.to.ends.items (place_of node peer)
  end_at all node peer mine at = ap (λ (o : Option (NodeEnds P)). option_and_then (λ (m : NodeEnds P). slice_get m.to.ends.items (place_of node peer)) o) at

  inbox_at : (all : List (NodeEnds P)) (node peer : ℕ) (mine : NodeEnds P) → slice_get all node ≡ Some mine → inbox_from all node peer ≡ slice_get mine.from.ends.items (place_of node peer)
  inbox_at all node peer mine at = ap (λ (o : Option (NodeEnds P)). option_and_then (λ (m : NodeEnds P). slice_get m.from.ends.items (place_of node peer)) o) at

  abbrev AreEndsOf : List (NodeEnds P) → ℕ → ℕ → Type 0
  AreEndsOf all f t = option_map origin_of (inbox_from all t f) ≡ option_map line_of (end_to all f t)

  module _ (mine : NodeEnds P) (peers news : List (NodeEnds P)) (each : Each IsBehindFirst peers news) where
    abbrev whole : List (NodeEnds P)
    whole = mine ∷ peers

    -- an end that is left
    end_left : (f t : ℕ) → f ≢ t → f < length peers → end_to whole (suc f) (suc t) ≡ end_to news f t
    end_left f t apart within =
        let old = stands peers f within in
        let new = stands news f (let l = each.long in omega arith) in
        let behind = each.each f old.0 new.0 old.1 new.1 in
        end_at whole (suc f) (suc t) old.0 old.1
        ∙ (ap (slice_get old.0.to.ends.items) (next_place f t apart)
        ∙ (sym (get-drop 1 (place_of f t) old.0.to.ends.items)
        ∙ (ap (λ (l : List (PeerEnd P)). slice_get l (place_of f t)) (sym behind.to)
        ∙ sym (end_at news f t new.0 new.1))))

    inbox_left : (f t : ℕ) → f ≢ t → f < length peers → inbox_from whole (suc f) (suc t) ≡ inbox_from news f t
    inbox_left f t apart within =
        let old = stands peers f within in
        let new = stands news f (let l = each.long in omega arith) in
        let behind = each.each f old.0 new.0 old.1 new.1 in
        inbox_at whole (suc f) (suc t) old.0 old.1
        ∙ (ap (slice_get old.0.from.ends.items) (next_place f t apart)
        ∙ (sym (get-drop 1 (place_of f t) old.0.from.ends.items)
        ∙ (ap (λ (l : List (PeerInbox P)). slice_get l (place_of f t)) (sym behind.from)
        ∙ sym (inbox_at news f t new.0 new.1))))

    line_left : (f t : ℕ) → f ≢ t → f < length peers → t < length peers → AreEndsOf whole (suc f) (suc t) → AreEndsOf news f t
    line_left f t apart f_in t_in line =
        ap (option_map origin_of) (sym (inbox_left t f (λ e. apart (sym e)) t_in)) ∙ (line ∙ ap (option_map line_of) (end_left f t apart f_in))

    peers_left : All (HasPeers (length whole)) whole → All (HasPeers (length news)) news
    peers_left all = all_from_each (HasPeers (length news)) news (λ k new at.
        let within = slice_get_within news k new at in
        let old = stands peers k (let l = each.long in omega arith) in
        let behind = each.each k old.0 new old.1 at in
        let had = at_each (HasPeers (length whole)) whole (suc k) old.0 all old.1 in
        let to_old = old.0.to.ends.ok.0 in let to_new = new.to.ends.ok.0 in
        let from_old = old.0.from.ends.ok.0 in let from_new = new.from.ends.ok.0 in
        let to_less = ap (λ (l : List (PeerEnd P)). length l) behind.to ∙ length-drop 1 old.0.to.ends.items in
        let from_less = ap (λ (l : List (PeerInbox P)). length l) behind.from ∙ length-drop 1 old.0.from.ends.items in
        let to_had = had.0 in let from_had = had.1 in let long = each.long in
        (omega arith, omega arith))

    pub lines_left : AreWiredAs (length whole) whole → AreWiredAs (length news) news
    lines_left wired = let long = each.long in record {
      peers = peers_left wired.peers;
      lines = λ f t f_in t_in apart. line_left f t apart (omega arith) (omega arith) (wired.lines (suc f) (suc t) (omega arith) (omega arith) (λ e. apart (omega (arith, e))));
    }

    pub given_more : (tokens : List P) → ((place : ℕ) (peer : NodeEnds P) → slice_get peers place ≡ Some peer → GivesBoth place mine peer tokens) → GivesAll news tokens → GivesAll whole tokens
    given_more tokens first others zero zero f_in t_in apart = absurd (apart refl)
    given_more tokens first others zero (suc t) f_in t_in apart =
        let peer = stands peers t (omega arith) in λ p i sends takes.
        (first t peer.0 peer.1).there p i
        (ap (slice_get mine.to.ends.items) (sym (from_first t)) ∙ (sym (end_at whole 0 (suc t) mine refl) ∙ sends))
        (ap (slice_get peer.0.from.ends.items) (sym (to_first t)) ∙ (sym (inbox_at whole (suc t) 0 peer.0 peer.1) ∙ takes))
    given_more tokens first others (suc f) zero f_in t_in apart =
        let peer = stands peers f (omega arith) in λ p i sends takes.
        (first f peer.0 peer.1).back p i
        (ap (slice_get peer.0.to.ends.items) (sym (to_first f)) ∙ (sym (end_at whole (suc f) 0 peer.0 peer.1) ∙ sends))
        (ap (slice_get mine.from.ends.items) (sym (from_first f)) ∙ (sym (inbox_at whole 0 (suc f) mine refl) ∙ takes))
    given_more tokens first others (suc f) (suc t) f_in t_in apart =
        let differ : f ≢ t = λ e. apart (ap suc e) in let l = each.long in λ p i sends takes.
        others f t (omega arith) (omega arith) differ p i
        (sym (end_left f t differ (omega arith)) ∙ sends)
        (sym (inbox_left t f (λ e. differ (sym e)) (omega arith)) ∙ takes)

  -- the first has both its lines with each other
  pub joined_first : (mine : NodeEnds P) (peers : List (NodeEnds P)) → AreWiredAs (length (mine ∷ peers)) (mine ∷ peers) → (place : ℕ) (peer : NodeEnds P) → slice_get peers place ≡ Some peer → AreJoined place mine peer
  joined_first mine peers wired place peer at =
      let within = slice_get_within peers place peer at in
      let all : List (NodeEnds P) = mine ∷ peers in
      let has = at_each (HasPeers (length all)) all 0 mine wired.peers refl in
      let others = at_each (HasPeers (length all)) all (suc place) peer wired.peers at in
      let mine_to = mine.to.ends.ok.0 in let peer_to = peer.to.ends.ok.0 in let has_to = has.0 in let others_to = others.0 in
      let out = stands mine.to.ends.items place (omega arith) in
      let home = stands peer.to.ends.items 0 (omega arith) in
      let out_end : end_to all 0 (suc place) ≡ Some out.0 = end_at all 0 (suc place) mine refl ∙ (ap (slice_get mine.to.ends.items) (from_first place) ∙ out.1) in
      let home_end : end_to all (suc place) 0 ≡ Some home.0 = end_at all (suc place) 0 peer at ∙ (ap (slice_get peer.to.ends.items) (to_first place) ∙ home.1) in
      let out_line = wired.lines 0 (suc place) (omega arith) (omega arith) (λ e. absurd (omega (arith, e))) in
      let home_line = wired.lines (suc place) 0 (omega arith) (omega arith) (λ e. absurd (omega (arith, e))) in
      let taken = is_some_of origin_of (inbox_from all (suc place) 0) (line_of out.0) (out_line ∙ ap (option_map line_of) out_end) in
      let back = is_some_of origin_of (inbox_from all 0 (suc place)) (line_of home.0) (home_line ∙ ap (option_map line_of) home_end) in record {
        there = (
          out.0,
          taken.0,
          out.1,
          ap (slice_get peer.from.ends.items) (sym (to_first place)) ∙ (sym (inbox_at all (suc place) 0 peer at) ∙ taken.1),
          taken.2,
        );
        back = (
          home.0,
          back.0,
          home.1,
          ap (slice_get mine.from.ends.items) (sym (from_first place)) ∙ (sym (inbox_at all 0 (suc place) mine refl) ∙ back.1),
          back.2,
        );
      }

  -- lines that lead from each node to each other
  pub ends_of_lines : (nodes : ℕ) (all : List (NodeEnds P)) → All (HasPeers nodes) all → AreLines nodes all → AreWiredAs nodes all
  ends_of_lines nodes all peers lines = record {
    peers = peers;
    lines = λ f t f_in t_in apart. let line = lines f t f_in t_in apart in ap (option_map origin_of) line.3 ∙ (ap Some line.4 ∙ sym (ap (option_map line_of) line.2));
  }
