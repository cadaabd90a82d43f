use Rattle.std.proofs.Common.{◌≡◌, ◌++◌, [], ◌∷◌, All, List, length, sym, ap, subst, ◌∙◌, arith}
use Rattle.std.specs.Prelude.{slice_get}
use Rattle.std.proofs.lemmas.List.Elements.{All-push}
use Rattle.std.proofs.lemmas.Option.{same_Some as some_same}
use Rattle.lc_rest.specs.declared.node_part.NodePart.{NodePart as ThePart}
use Rattle.lc_log_side.specs.LeftBy.{AreReceived}
use Rattle.lc_node.specs.LeftBy.{IsLeftNode}
use Rattle.lc_node.proofs.LeftParts.{all_kept}
use Rattle.lc_node.proofs.node.Node.into_parts.Goals as goal

pub returns-clause-kept : goal.returns-clause-kept
returns-clause-kept g c =
    let part = c.in_ok-into_part.field-0 in
    let P : ThePart g.row.D.Denot g.D.Area → Type 0 = IsLeftNode g.D.Area c.args.self.geometry in
    let one : c.push_reserved.new.self.items ≡ part ∷ [] = c.push_reserved.ensures.items ∙ ap (λ (l : List (ThePart g.row.D.Denot g.D.Area)). l ++ part ∷ []) c.in_ok-nodes.ensures.items in
    let each : All P c.push_reserved.new.self.items = subst (All P) (sym one) (All-push P [] part (λ k d within. absurd (omega (arith, within))) c.in_ok-into_part.ensures.part) in
    let count : length c.push_reserved.new.self.items ≡ 1 = ap (λ (l : List (ThePart g.row.D.Denot g.D.Area)). length l) one in
    all_kept g.D.Area _ (count ∙ sym (c.args.self.alone c.requires.alone).1) c.in_ok-segments.ensures.count each c.in_ok-segments.ensures.pages

pub returns-clause-received : goal.returns-clause-received
returns-clause-received g c = λ part got.
    let mine = c.in_ok-into_part.field-0 in
    let one : c.push_reserved.new.self.items ≡ mine ∷ [] = c.push_reserved.ensures.items ∙ ap (λ (l : List (ThePart g.row.D.Denot g.D.Area)). l ++ mine ∷ []) c.in_ok-nodes.ensures.items in
    let same : mine ≡ part = some_same mine part (ap (λ (l : List (ThePart g.row.D.Denot g.D.Area)). slice_get l 0) (sym one) ∙ got) in
    subst (λ (p : ThePart g.row.D.Denot g.D.Area). AreReceived p.round p.stable.items p.known c.args.seats.items) same c.in_ok-into_part.ensures.received
