-- Of the store: what stands in a store that is made of pieces.
use Rattle.std.proofs.Common.{◌≡◌, ℕ, ◌+◌, ◌-◌, ◌*◌, true, false, List, length, Option, Some, None, refl, sym, ap, subst, ◌∙◌, inl, inr, arith}
use Rattle.std.specs.Option.{ForSome}
use Rattle.std.specs.Prelude.{option_map, slice_get, if◌then◌else◌}
use Rattle.std.proofs.lemmas.Bool.{cases_eq, cases_lt, eq-eqb, le-ltb, lt-ltb, ne_eqb}
use Rattle.std.proofs.lemmas.List.{length-replicate}
use Rattle.std.proofs.lemmas.Option.{slice_get_within, same_Some as same_some}
use Rattle.lc_disk.specs.declared.area.Area.{Ghosts}
use Rattle.lc_record.specs.declared.geometry.Geometry.{Geometry}
use Rattle.lc_record.proofs.ListLemmas.{slice_get_some as some_at, slice_get-map_some as get-map}
use Rattle.lc_rest.specs.declared.holder.Holder.{Holder}
use Rattle.lc_rest.specs.declared.holder.Holder.TheVariants.{Here, Left}
use Rattle.lc_token.specs.declared.token.Token.{Token}
use Rattle.lc_core.specs.Devices.{HaveLogs, HaveSegments}
use Rattle.lc_journal.specs.Log.{area_of}
use Rattle.lc_events.specs.Nodes.{AreWhole}
use Rattle.lc_core.specs.Pages.{areas_of}
use Rattle.lc_core.specs.Made.{AreSegments}
use Rattle.lc_desk.specs.Pieces.{AreLeftAt, AreTokens, IsMadeSlot, IsTokenOf, left_at, standing_at}
use Rattle.lc_core.specs.Pieces.{AreLeftBy, AreMadeNodes, AreNodePieces, is_before, left_by}
use Rattle.lc_events.specs.Pieces.{IsMadeNode}
use Rattle.lc_desk.specs.Seat.{Free}
use Rattle.lc_journal.specs.declared.log.Log.{Log}
use Rattle.lc_events.specs.declared.node_state.NodeState.{NodeState}
use Rattle.lc_journal.specs.declared.node_piece.NodePiece.{NodePiece}
use Rattle.lc_desk.specs.declared.pages.Pages.{Pages}
use Rattle.lc_desk.specs.declared.segment_piece.SegmentPiece.{SegmentPiece}
use Rattle.lc_desk.proofs.Pieces.{some_left}

pub some_left_by : (P : Token → Type 0) (nodes : ℕ) (holder : Holder) (token : Option Token) → ForSome token P → ForSome (left_by nodes holder token) P
some_left_by P nodes holder token its = elim (is_before nodes holder) as (λ b. ForSome (if b then None else token) P) [ true ↦ (λ t none. absurd cc) | false ↦ its ]

-- The tokens that the first nodes have left

pub left_first : (holder : Holder) (token : Option Token) → left_by 0 holder token ≡ token
left_first (Here other) token = ap (λ b. if b then None else token) (le-ltb other 0 (omega arith))
left_first (Left other) token = refl

-- the next node gets what it would of all
pub standing_left : (node : ℕ) (holder : Holder) (token : Option Token) → standing_at node holder (left_by node holder token) ≡ standing_at node holder token
standing_left node (Here other) token = elim (cases_eq other node) [
  | inl same ↦ ap (λ t. standing_at node (Here other) t) (ap (λ b. if b then None else token) (le-ltb other node (omega (arith, same))))
  | inr differ ↦ ap (λ b. if b then left_by node (Here other) token else None) (ne_eqb other node differ) ∙ sym (ap (λ b. if b then token else None) (ne_eqb other node differ))
]
standing_left node (Left other) token = refl

-- and leaves what the first so many and it leave
pub left_next : (node : ℕ) (holder : Holder) (token : Option Token) → left_at node holder (left_by node holder token) ≡ left_by (node + 1) holder token
left_next node (Here other) token = elim (cases_eq other node) [
  | inl same ↦
      ap (λ b. if b then None else left_by node (Here other) token) (eq-eqb other node same)
      ∙ sym (ap (λ b. if b then None else token) (lt-ltb other (node + 1) (omega (arith, same))))
  | inr differ ↦
      ap (λ b. if b then None else left_by node (Here other) token) (ne_eqb other node differ)
      ∙ elim (cases_lt other node) [
        | inl less ↦
            ap (λ b. if b then None else token) (lt-ltb other node less)
            ∙ sym (ap (λ b. if b then None else token) (lt-ltb other (node + 1) (omega (arith, less))))
        | inr more ↦
            ap (λ b. if b then None else token) (le-ltb other node more)
            ∙ sym (ap (λ b. if b then None else token) (le-ltb other (node + 1) (omega (arith, more, differ))))
      ]
]
left_next node (Left other) token = refl

-- tokens that a node has left are still of their segments
pub tokens_left : (g : Geometry) (node : ℕ) (pieces : List SegmentPiece) (olds news : List (Option Token)) → length pieces ≡ length olds → length news ≡ length olds → AreTokens g olds → AreLeftAt node pieces olds news → AreTokens g news
tokens_left g node pieces olds news all same named left k token got =
    let within = slice_get_within news k token got in
    let piece = some_at pieces k (omega (arith, within, all, same)) in
    let was = some_at olds k (omega (arith, within, same)) in
    let is : left_at node piece.0.holder was.0 ≡ token = same_some (left_at node piece.0.holder was.0) token (sym (left k piece.0 was.0 piece.1 was.1) ∙ got) in
    subst (λ (t : Option Token). ForSome t (IsTokenOf g (k + 1))) is (some_left (IsTokenOf g (k + 1)) node piece.0.holder was.0 (named k was.0 was.1))

pub tokens_left_by : (g : Geometry) (nodes : ℕ) (pieces : List SegmentPiece) (olds news : List (Option Token)) → length pieces ≡ length olds → length news ≡ length olds → AreTokens g olds → AreLeftBy nodes pieces olds news → AreTokens g news
tokens_left_by g nodes pieces olds news all same named left k token got =
    let within = slice_get_within news k token got in
    let piece = some_at pieces k (omega (arith, within, all, same)) in
    let was = some_at olds k (omega (arith, within, same)) in
    let is : left_by nodes piece.0.holder was.0 ≡ token = same_some (left_by nodes piece.0.holder was.0) token (sym (left k piece.0 was.0 piece.1 was.1) ∙ got) in
    subst (λ (t : Option Token). ForSome t (IsTokenOf g (k + 1))) is (some_left_by (IsTokenOf g (k + 1)) nodes piece.0.holder was.0 (named k was.0 was.1))

module _ {D : Type 0} (a : Ghosts D) where
  -- a node that is made of the tokens which the nodes before it have left is made of all
  pub made_of_all : (g : Geometry) (n : ℕ) (segments : List SegmentPiece) (first tokens : List (Option Token)) (piece : NodePiece D a) (node : NodeState D a) → length tokens ≡ length first
      → ((k : ℕ) (now : Option Token) → slice_get tokens k ≡ Some now → (q : SegmentPiece) (token : Option Token) → slice_get segments k ≡ Some q → slice_get first k ≡ Some token → now ≡ left_by n q.holder token)
      → IsMadeNode a g n segments tokens piece node → IsMadeNode a g n segments first piece node
  made_of_all g n segments first tokens piece node same left made = record {
    seats = made.seats;
    count = made.count;
    slots = λ k slot q token got its was.
        (let within = slice_get_within first k token was in
        let now = some_at tokens k (omega (arith, within, same)) in
        subst (λ (standing : Option Token). IsMadeSlot (k + 1) q standing slot)
        (ap (standing_at n q.holder) (left k now.0 now.1 q token its was) ∙ standing_left n q.holder token)
        (made.slots k slot q now.0 got its now.1));
    room = made.room;
    journal = made.journal;
    known = made.known;
  }

  pub made_whole : (g : Geometry) (segments : List SegmentPiece) (tokens : List (Option Token)) (pieces : List (NodePiece D a)) (nodes : List (NodeState D a)) → length pieces ≡ length nodes
      → AreMadeNodes a g segments tokens pieces nodes → AreWhole a g nodes
  made_whole g segments tokens pieces nodes same made n node got =
      let within = slice_get_within nodes n node got in
      let piece = some_at pieces n (omega (arith, within, same)) in
      let its = made n node piece.0 got piece.1 in
      let seats = ap length its.seats ∙ length-replicate g.threads Free in
      let seats_ok = node.desk.seats.ok.0 in
      let slots = its.count in
      let slots_ok = node.desk.here.slots.ok.0 in
      record { seats = omega (arith, seats, seats_ok); slots = omega (arith, slots, slots_ok) }

  pub made_logs : (g : Geometry) (segments : List SegmentPiece) (tokens : List (Option Token)) (pieces : List (NodePiece D a)) (nodes : List (NodeState D a)) → length pieces ≡ length nodes
      → AreNodePieces a g.words pieces → AreMadeNodes a g segments tokens pieces nodes → HaveLogs a (8 * (g.words + 1)) nodes
  made_logs g segments tokens pieces nodes same are made n node got =
      let within = slice_get_within nodes n node got in
      let piece = some_at pieces n (omega (arith, within, same)) in
      let its = made n node piece.0 got piece.1 in
      ap (λ (l : Log D a). option_map (λ (area : D). length (a.now area)) (area_of a l)) its.journal.log
      ∙ ap (λ (len : ℕ). Some len) (are n piece.0 piece.1).area

  pub areas_have : (len : ℕ) (areas : List D) (segments : List (Pages D a)) → AreSegments a len areas → areas_of a segments ≡ areas → HaveSegments a len segments
  areas_have len areas segments long are k pages at = long k pages.area (ap (λ (l : List D). slice_get l k) (sym are) ∙ get-map (λ (p : Pages D a). p.area) segments k pages at)

  -- the same of nodes that were written back, of tokens as they were, in a geometry that is the same
  pub made_back : (g h : Geometry) (segments : List SegmentPiece) (olds tokens : List (Option Token)) (pieces : List (NodePiece D a)) (nodes backs : List (NodeState D a)) → h ≡ g → olds ≡ tokens → backs ≡ nodes
      → AreMadeNodes a h segments olds pieces nodes → AreMadeNodes a g segments tokens pieces backs
  made_back g h segments olds tokens pieces nodes backs same were are made =
      subst (λ (v : Geometry). AreMadeNodes a v segments tokens pieces backs) same
      (subst (λ (ts : List (Option Token)). AreMadeNodes a h segments ts pieces backs) were
      (subst (λ (ns : List (NodeState D a)). AreMadeNodes a h segments olds pieces ns) (sym are) made))

pub left_back : (m n : ℕ) (segments : List SegmentPiece) (olds tokens news backs : List (Option Token)) → m ≡ n → olds ≡ tokens → backs ≡ news → AreLeftBy m segments olds news → AreLeftBy n segments tokens backs
left_back m n segments olds tokens news backs same were are left =
    subst (λ (v : ℕ). AreLeftBy v segments tokens backs) same
    (subst (λ (ts : List (Option Token)). AreLeftBy m segments ts backs) were
    (subst (λ (ts : List (Option Token)). AreLeftBy m segments olds ts) (sym are) left))
