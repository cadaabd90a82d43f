-- The keys of locks go with them.
use Rattle.std.proofs.Common.{◌≡◌, ◌≢◌, ◌+◌, ◌<◌, ℕ, All, List, [], ◌∷◌, ◌++◌, Option, Some, length, map, sym, ap, subst, ◌∙◌, arith}
use Rattle.std.specs.Prelude.{option_and_then, option_map, slice_get}
use Rattle.std.proofs.lemmas.Option.{slice_get-map, slice_get_within}
use Rattle.std.proofs.lemmas.List.{append_assoc, length-map, map-append}
use Rattle.lc_record.proofs.ListLemmas.{slice_get_some as stands, All-slice_get as at_each, slice_get-map_some as mapped}
use Rattle.lc_segments.specs.Each.{Each}
use Rattle.lc_lock.specs.Loans.{key_of}
use Rattle.lc_cluster.specs.Keys.{AreOnLines, AreWiredAs, wired_in}
use Rattle.lc_cluster.specs.declared.joining.Post.{Post}
use Rattle.lc_cluster.specs.Peers.{place_of}
use Rattle.lc_cluster.specs.Receiving.{origin_of}
use Rattle.lc_cluster.specs.Spread.{line_of}
use Rattle.lc_cluster.specs.Wiring.{HasPeers, end_to, inbox_from}
use Rattle.lc_cluster.specs.declared.wiring.NodeEnds.{NodeEnds}
use Rattle.lc_node.proofs.Joined.{all_from_each}
use Rattle.lc_cluster.proofs.LinesClosed.{is_some_of}
use Rattle.lc_cluster.proofs.PeerPlaces.{place_within}

module _ {A C : Type 0} (f : A → C) where
  -- the first of those that are left is the last of those that have come
  pub one_more_key : (news olds : List A) (x : A) (all left : List C) (key : C) → news ≡ olds ++ x ∷ [] → all ≡ key ∷ left → f x ≡ key → map f news ++ left ≡ map f olds ++ all
  one_more_key news olds x all left key is first own =
      ap (λ (l : List A). map f l ++ left) is
      ∙ (ap (λ (l : List C). l ++ left) (map-append f olds (x ∷ []))
      ∙ (append_assoc (map f olds) (f x ∷ []) left
      ∙ ap (λ (l : List C). map f olds ++ l) (ap (λ (k : C). k ∷ left) own ∙ sym first)))

-- what is so with each key is so with each
pub at_mapped : {A B : Type 0} (f : A → B) (Q : B → Type 0) (xs : List A) (k : ℕ) (x : A) → All Q (map f xs) → slice_get xs k ≡ Some x → Q (f x)
at_mapped f Q xs k x all got = at_each Q (map f xs) k (f x) all (mapped f xs k x got)

-- a peer has its place among the ends that a lock's key knows
pub peer_place : {A B : Type 0} (line : A → B) (wired ends : List A) → map line ends ≡ map line wired → (nodes : ℕ) → length wired + 1 ≡ nodes → (node peer : ℕ) → node ≢ peer → node < nodes → peer < nodes → place_of node peer < length ends
peer_place {B = B} line wired ends same nodes count node peer apart node_in peer_in =
    let within = place_within node peer nodes apart node_in peer_in in
    let long = sym (length-map ends line) ∙ (ap (λ (l : List B). length l) same ∙ length-map wired line) in
    omega arith

-- ends that are on the lines of others are wired as these are
of_mapped : {A B : Type 0} (f : A → B) (xs ys : List A) → map f ys ≡ map f xs → (k : ℕ) → option_map f (slice_get ys k) ≡ option_map f (slice_get xs k)
of_mapped f xs ys same k = sym (slice_get-map f ys k) ∙ (ap (λ (l : List _). slice_get l k) same ∙ slice_get-map f xs k)

module _ {P : Type 0} (wired all : List (NodeEnds P)) (each : Each AreOnLines wired all) where
  same_end : (f t : ℕ) → f < length wired → option_map line_of (end_to all f t) ≡ option_map line_of (end_to wired f t)
  same_end f t within =
      let was = stands wired f within in
      let is = stands all f (let l = each.long in omega arith) in
      let on = each.each f was.0 is.0 was.1 is.1 in
      ap (λ (o : Option (NodeEnds P)). option_map line_of (option_and_then (λ (m : NodeEnds P). slice_get m.to.ends.items (place_of f t)) o)) is.1
      ∙ (of_mapped line_of was.0.to.ends.items is.0.to.ends.items on.to (place_of f t)
      ∙ ap (λ (o : Option (NodeEnds P)). option_map line_of (option_and_then (λ (m : NodeEnds P). slice_get m.to.ends.items (place_of f t)) o)) (sym was.1))

  same_inbox : (f t : ℕ) → f < length wired → option_map origin_of (inbox_from all f t) ≡ option_map origin_of (inbox_from wired f t)
  same_inbox f t within =
      let was = stands wired f within in
      let is = stands all f (let l = each.long in omega arith) in
      let on = each.each f was.0 is.0 was.1 is.1 in
      ap (λ (o : Option (NodeEnds P)). option_map origin_of (option_and_then (λ (m : NodeEnds P). slice_get m.from.ends.items (place_of f t)) o)) is.1
      ∙ (of_mapped origin_of was.0.from.ends.items is.0.from.ends.items on.from (place_of f t)
      ∙ ap (λ (o : Option (NodeEnds P)). option_map origin_of (option_and_then (λ (m : NodeEnds P). slice_get m.from.ends.items (place_of f t)) o)) (sym was.1))

  pub still_wired : (nodes : ℕ) → length wired ≡ nodes → AreWiredAs nodes wired → AreWiredAs nodes all
  still_wired nodes count w = record {
    peers = all_from_each (HasPeers nodes) all (λ k is got.
        let was = stands wired k (let l = each.long in let in_it = slice_get_within all k is got in omega arith) in
        let on = each.each k was.0 is was.1 got in
        let had = at_each (HasPeers nodes) wired k was.0 w.peers was.1 in
        let to = sym (length-map is.to.ends.items line_of) ∙ (ap (λ (l : List _). length l) on.to ∙ length-map was.0.to.ends.items line_of) in
        let from = sym (length-map is.from.ends.items origin_of) ∙ (ap (λ (l : List _). length l) on.from ∙ length-map was.0.from.ends.items origin_of) in
        let a = is.to.ends.ok.0 in let b = is.from.ends.ok.0 in let c = was.0.to.ends.ok.0 in let d = was.0.from.ends.ok.0 in
        let had_to = had.0 in let had_from = had.1 in (omega arith, omega arith));
    lines = λ f t f_in t_in apart. same_inbox t f (omega arith) ∙ (w.lines f t f_in t_in apart ∙ sym (same_end f t (omega arith)));
  }

-- each is on the lines that its lock knew
module _ {P : Type 0} (posts : List (Post P)) where
  pub wired_long : length (wired_in posts) ≡ length posts
  wired_long = length-map posts (λ (post : Post P). key_of post.to)

  pub on_lines_of : (all : List (NodeEnds P)) → length all ≡ length posts → ((k : ℕ) (ends : NodeEnds P) → slice_get all k ≡ Some ends → (post : Post P) → slice_get posts k ≡ Some post → AreOnLines (key_of post.to) ends) → Each AreOnLines (wired_in posts) all
  on_lines_of all long each = record {
    long = long ∙ sym wired_long;
    each = λ k wired ends has got.
        let found = is_some_of (λ (post : Post P). key_of post.to) (slice_get posts k) wired (sym (slice_get-map (λ (post : Post P). key_of post.to) posts k) ∙ has) in
        subst (λ (w : NodeEnds P). AreOnLines w ends) found.2 (each k ends got found.0 found.1);
  }

-- ends on the same lines are as many
pub as_many : {A B : Type 0} (line : A → B) (wired ends : List A) → map line ends ≡ map line wired → length ends ≡ length wired
as_many {B = B} line wired ends same = sym (length-map ends line) ∙ (ap (λ (l : List B). length l) same ∙ length-map wired line)
