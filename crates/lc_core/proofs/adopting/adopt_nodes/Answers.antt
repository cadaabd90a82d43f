use Rattle.std.proofs.Common.{◌≡◌, ℕ, ◌<◌, ◌≤◌, drop, length, Option, Some, refl, sym, ap, subst, ◌∙◌, arith}
use Rattle.std.specs.Prelude.{slice_get, slice_index_or}
use Rattle.std.proofs.lemmas.List.{drop-drop}
use Rattle.std.proofs.lemmas.Option.{slice_get-get_or, slice_get_within, same_Some as same_some}
use Rattle.lc_token.specs.declared.token.Token.{Token}
use Rattle.lc_record.proofs.ListLemmas.{slice_get_some as some_at, left_first as next_left, left_some as some_left_over, set_behind as behind_set}
use Rattle.lc_events.specs.Pieces.{IsMadeNode}
use Rattle.lc_desk.specs.Pieces.{left_at}
use Rattle.lc_core.specs.Pieces.{left_by}
use Rattle.lc_events.specs.declared.node_state.NodeState.{NodeState}
use Rattle.lc_journal.specs.declared.node_piece.NodePiece.{NodePiece}
use Rattle.lc_desk.proofs.Furnishing.{front_set}
use Rattle.lc_core.proofs.Pieces.{left_first, left_next, made_of_all, tokens_left}
use Rattle.lc_core.proofs.adopting.adopt_nodes.Goals as goal

pub loop-number-init : goal.loop-number-init
loop-number-init g c = record {
  rest = refl;
  named = c.requires.tokens;
  made = λ n node less. absurd (omega (arith, less));
  behind = λ n from. refl;
  left = λ k now at piece token its was. same_some now token (sym at ∙ was) ∙ sym (left_first piece.holder token);
}

pub remove-piece-requires : goal.remove-piece-requires
remove-piece-requires g c =
    let all = c.args.pieces.items in
    let place = c.loop-number.number in
    let few : place < length all = omega (arith, c.loop-number-test.true, c.loop-number.auto.nodes, c.requires.count, c.args.pieces.ok.0) in
    let some = some_left_over all c.loop-number.pieces.items place c.loop-number.invariant.rest few in
    omega (arith, some, c.loop-number.pieces.ok.0)

pub adopt-requires-clause-desk : goal.adopt-requires-clause-desk
adopt-requires-clause-desk g c =
    let place = c.loop-number.number in
    let nodes = c.loop-number.nodes in
    let same : place ≤ place = omega arith in
    let there = slice_get-get_or nodes place c.index-nodes-number.result (omega (arith, c.loop-number-test.true, c.loop-number.auto.nodes)) in
    (c.requires.blank place (slice_index_or nodes place c.index-nodes-number.result) (sym (c.loop-number.invariant.behind place same) ∙ there)).desk

pub adopt-requires-clause-room : goal.adopt-requires-clause-room
adopt-requires-clause-room g c =
    let place = c.loop-number.number in
    let nodes = c.loop-number.nodes in
    let same : place ≤ place = omega arith in
    let there = slice_get-get_or nodes place c.index-nodes-number.result (omega (arith, c.loop-number-test.true, c.loop-number.auto.nodes)) in
    (c.requires.blank place (slice_index_or nodes place c.index-nodes-number.result) (sym (c.loop-number.invariant.behind place same) ∙ there)).journal.room

pub adopt-requires-clause-piece : goal.adopt-requires-clause-piece
adopt-requires-clause-piece g c =
    let all = c.args.pieces.items in
    let place = c.loop-number.number in
    let few : place < length all = omega (arith, c.loop-number-test.true, c.loop-number.auto.nodes, c.requires.count, c.args.pieces.ok.0) in
    c.requires.pieces place c.remove-piece.result (next_left all c.loop-number.pieces.items place c.remove-piece.result c.loop-number.invariant.rest few c.remove-piece.ensures.value)

pub loop-number-preserved : goal.loop-number-preserved
loop-number-preserved g c =
    let geometry = c.args.segments.now.geometry in
    let segments = c.args.segments.now.pieces.items in
    let first = c.args.tokens.now in
    let all = c.args.pieces.items in
    let place = c.loop-number.number in
    let nodes = c.loop-number.nodes in
    let tokens = c.loop-number.tokens in
    let h = c.loop-number.invariant in
    let few : place < length all = omega (arith, c.loop-number-test.true, c.loop-number.auto.nodes, c.requires.count, c.args.pieces.ok.0) in
    let piece_there = next_left all c.loop-number.pieces.items place c.remove-piece.result h.rest few c.remove-piece.ensures.value in
    let same_tokens : length tokens ≡ length first = omega (arith, c.loop-number.auto.tokens) in
    let every : length segments ≡ length tokens = omega (arith, same_tokens, c.requires.all_tokens, c.args.segments.now.count, c.args.segments.now.pieces.ok.0) in
    let later : length c.adopt.new.tokens ≡ length tokens = omega (arith, c.adopt.auto.tokens) in
    let made = made_of_all g.D.Area geometry place segments first tokens c.remove-piece.result c.adopt.new.self same_tokens h.left c.adopt.ensures.made in
    record {
      rest = c.remove-piece.ensures.items ∙ ap (drop 1) h.rest ∙ drop-drop 1 place all;
      named = tokens_left geometry place segments tokens c.adopt.new.tokens every later h.named c.adopt.ensures.left;
      made = front_set (λ n (x : NodeState g.row.D.Denot g.D.Area). (q : NodePiece g.row.D.Denot g.D.Area) → slice_get all n ≡ Some q → IsMadeNode g.D.Area geometry n segments first q x) nodes place c.adopt.new.self h.made
          (λ q its. subst (λ (r : NodePiece g.row.D.Denot g.D.Area). IsMadeNode g.D.Area geometry place segments first r c.adopt.new.self) (same_some c.remove-piece.result q (sym piece_there ∙ its)) made);
      behind = behind_set c.args.nodes.now nodes place c.adopt.new.self h.behind;
      left = λ k now got piece token its was.
          (let within = slice_get_within first k token was in
          let old = some_at tokens k (omega (arith, within, same_tokens)) in
          same_some now (left_at place piece.holder old.0) (sym got ∙ c.adopt.ensures.left k piece old.0 its old.1)
          ∙ ap (left_at place piece.holder) (h.left k old.0 old.1 piece token its was) ∙ left_next place piece.holder token);
    }

pub returns-clause-made : goal.returns-clause-made
returns-clause-made g c = λ n node piece got its.
    let within = slice_get_within c.loop-number.nodes n node got in
    c.loop-number.invariant.made n node (omega (arith, within, c.loop-number.auto.nodes, c.loop-number-test.false)) got piece its

pub returns-clause-left : goal.returns-clause-left
returns-clause-left g c = λ k piece token its was.
    let within = slice_get_within c.args.tokens.now k token was in
    let now = some_at c.loop-number.tokens k (omega (arith, within, c.loop-number.auto.tokens)) in
    let all : c.loop-number.number ≡ length c.args.nodes.now = omega (arith, c.loop-number.auto.nodes, c.loop-number.auto.number-end, c.loop-number-test.false) in
    now.1 ∙ ap (λ (t : Option Token). Some t) (c.loop-number.invariant.left k now.0 now.1 piece token its was ∙ ap (λ (n : ℕ). left_by n piece.holder token) all)
