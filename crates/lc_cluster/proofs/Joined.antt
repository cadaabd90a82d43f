-- Of a cluster: lists that are filled side by side, and a list of which each thing is so, taken from its front; and
-- the nodes that came up so.
use Rattle.std.proofs.Common.{◌≡◌, ℕ, ◌<◌, List, [], ◌∷◌, ◌++◌, All, drop, length, Some, refl, sym, ap, subst, arith}
use Rattle.std.specs.Prelude.{option_map, slice_get, slice_index_or}
use Rattle.std.proofs.lemmas.List.Elements.{All-drop}
use Rattle.std.proofs.lemmas.Option.{slice_get_within}
use Rattle.lc_recover.specs.Recovered.{RecoveredStore}
use Rattle.lc_stage.specs.Seats.{commit_view, IsIdle}
use Rattle.lc_stage.specs.Staging.{newcomer}
use Rattle.lc_stage.specs.declared.seats.CommitSeat.{CommitSeat as Seat}
use Rattle.lc_record.proofs.ListLemmas.{slice_get_some as stands, All-slice_get as at_each}
use Rattle.lc_cluster.specs.Cluster.{IsSeatAt}
use Rattle.lc_node.specs.OpenedNode.{IsOpened}
use Rattle.lc_cluster.specs.declared.cluster.Cluster.{Cluster}
use Rattle.lc_cluster.specs.declared.member.Member.{Member}
use Rattle.lc_node.specs.declared.opening.OpenedNode.{OpenedNode}
use Rattle.lc_node.proofs.EachPlace.{each_more}
use Rattle.lc_node.proofs.Joined.{all_from_each}

module _ {A : Type 0} where
  pub front_of_all : (P : A → Type 0) (xs : List A) (x : A) → 0 < length xs → x ≡ slice_index_or xs 0 x → All P xs → P x
  front_of_all P xs x some is all = subst P (sym is) (all 0 x some)

  pub rest_of_all : (P : A → Type 0) (xs left : List A) → left ≡ drop 1 xs → All P xs → All P left
  rest_of_all P xs left is all = subst (All P) (sym is) (All-drop P 1 xs all)

module _ {A B : Type 0} where
  -- one more after those of each list
  pub both_more : (P : ℕ → A → B → Type 0) (new xs : List A) (newer ys : List B) (x : A) (y : B) (place : ℕ)
      → new ≡ xs ++ x ∷ [] → newer ≡ ys ++ y ∷ [] → length xs ≡ place → length ys ≡ place
      → ((k : ℕ) (a : A) (b : B) → slice_get xs k ≡ Some a → slice_get ys k ≡ Some b → P k a b) → P place x y
      → (k : ℕ) (a : A) (b : B) → slice_get new k ≡ Some a → slice_get newer k ≡ Some b → P k a b
  both_more P new xs newer ys x y place is is_newer at at_newer before here k a b got got_newer =
      each_more (λ (j : ℕ) (c : A). (d : B) → slice_get newer j ≡ Some d → P j c d) new xs x place is at
      (λ j c had d there. each_more (λ (i : ℕ) (e : B). (f : A) → slice_get xs i ≡ Some f → P i f e) newer ys y place is_newer at_newer
      (λ i e old f older. before i f e older old)
      (λ f past. absurd (let within = slice_get_within xs place f past in omega (arith, within, at)))
      j d there c had)
      (λ d there. each_more (λ (i : ℕ) (e : B). i ≡ place → P place x e) newer ys y place is_newer at_newer
      (λ i e old same. absurd (let within = slice_get_within ys i e old in omega (arith, within, at_newer, same)))
      (λ same. here)
      place d there refl)
      k a got b got_newer

-- the nodes of a recovered store, and the seats of each
module _ {D : Type 0} (r : RecoveredStore D) (opened : List (OpenedNode D)) (up : All (IsOpened r) opened) (cluster : Cluster D) (seats : List Seat)
    (members : length cluster.members.items ≡ length opened) (as_many : length seats ≡ length opened)
    (joined : (place : ℕ) (member : Member D) (seat : Seat) → slice_get cluster.members.items place ≡ Some member → slice_get seats place ≡ Some seat
    → slice_get opened place ≡ Some (record { node = member.node; seat = seat })) where
  is_opened : (place : ℕ) (member : Member D) (seat : Seat) → slice_get cluster.members.items place ≡ Some member → slice_get seats place ≡ Some seat
      → IsOpened r (record { node = member.node; seat = seat })
  is_opened place member seat got got_seat = at_each (IsOpened r) opened place (record { node = member.node; seat = seat }) up (joined place member seat got got_seat)

  pub seat_of_node : (place : ℕ) (seat : Seat) → slice_get seats place ≡ Some seat → IsSeatAt cluster place seat × (commit_view seat ≡ newcomer r.geometry.words)
  seat_of_node place seat got_seat =
      let within = slice_get_within seats place seat got_seat in
      let it = stands cluster.members.items place (omega (arith, within, members, as_many)) in
      let is = is_opened place it.0 seat it.1 got_seat in
      ((it.0.node, ap (option_map (λ (member : Member D). member.node)) it.1, is.0, subst IsIdle (sym is.1) refl), is.1)

  pub all_segments : All (λ (member : Member D). length member.node.segments.items ≡ r.geometry.segments) cluster.members.items
  all_segments = all_from_each (λ (member : Member D). length member.node.segments.items ≡ r.geometry.segments) cluster.members.items
      (λ place member got.
      let within = slice_get_within cluster.members.items place member got in
      let its = stands seats place (omega (arith, within, members, as_many)) in
      (is_opened place member its.0 got its.1).3)
