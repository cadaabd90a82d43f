use Rattle.std.proofs.Common.{ℕ, List, refl, subst, sym}
use Rattle.std.specs.Prelude.{Err, Some}
use Rattle.lc_segments.specs.Journey.{Journey}
use Rattle.lc_node.specs.Reached.{AnswersMessage, AnswersWords}
use Rattle.lc_node.specs.declared.message.Message.{Message}
use Rattle.lc_node.specs.declared.message.Message.TheVariants.{Record}
use Rattle.lc_node.specs.declared.node.Node.{Node}
use Rattle.lc_node.proofs.peer_node.PeerNode.receive.Goals as goal

pub returns-in-Err-clause-answer : goal.returns-in-Err-clause-answer
returns-in-Err-clause-answer g c =
    let back : Message (Journey g.row.D.Denot) = Record c.in-Record.number c.in-Record.words in
    let words = subst (λ (node : Node g.row.D.Denot). AnswersWords node c.as_slice.result.now (Err c.in-Err.fault)) c.self.view_is c.in-Err.ensures.answer in
    subst (λ (m : Message (Journey g.row.D.Denot)). AnswersMessage c.args.self.now m (Err c.in-Err.fault) (Some back)) (sym c.in-Record.is)
    (c.in-Err.fault, refl, subst (λ (spelled : List ℕ). AnswersWords c.args.self.now spelled (Err c.in-Err.fault)) c.as_slice.ensures.value words)
