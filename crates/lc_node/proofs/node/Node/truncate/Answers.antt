use Rattle.std.proofs.Common.{rules, ◌≡◌, ◌≤◌, ℕ, List, length, map, take, sym, ap, subst, ◌∙◌, inl, inr, arith}
use Rattle.std.specs.Prelude.{Err, IfErr}
use Rattle.std.proofs.lemmas.Result.{IfErr-weaker as if_err, IfOk-weaker as if_ok}
use Rattle.lc_record.specs.Marks.{counting}
use Rattle.lc_tx.specs.Tx.{IsSetOf}
use Rattle.lc_node.specs.Truncates.{AreAllOf, HasNotTruncated, HasTruncated, IsOfTruncation, IsUntruncatedHeld, MayTruncate, TruncatesHeld}
use Rattle.lc_segments.specs.declared.held.HeldSide.{HeldSide}
use Rattle.lc_segments.specs.declared.node_fault.NodeFault.TheVariants.{NoMemory}
use Rattle.lc_node.proofs.Outside.{none_of_first, only_memory}
use Rattle.lc_node.proofs.PagesWritten.{of_truncation_held}
use Rattle.lc_node.proofs.node.Node.truncate.Goals as goal

pub returns-in_err-held-clause-refused : goal.returns-in_err-held-clause-refused
returns-in_err-held-clause-refused g c =
    let is : c.from_residual-in_err-held.result ≡ Err c.in_err-held.field-0.0 = search rules in
    let was : c.hold.result ≡ Err c.in_err-held.field-0.0 = search rules in
    let may : MayTruncate c.args.self.now = search rules in
    let few : c.len.result ≤ length c.args.self.now.segments.items = (let e = c.len.ensures in let ok = c.args.self.now.segments.ok.0 in omega arith) in
    let memory : c.in_err-held.field-0.0 ≡ NoMemory = only_memory c.in_err-held.field-0.0 c.in_err-held.ensures.refused
    (λ s not. none_of_first c.args.self.now c.len.result s few ((c.hold.ensures.not_here s).0 (was ∙ ap Err not))) in
    subst (λ r. IfErr r (HasNotTruncated g.D.Area c.args.self.now)) (sym is) (inr (may, inl memory))

pub returns-in_err-held-clause-which : goal.returns-in_err-held-clause-which
returns-in_err-held-clause-which g c =
    let is : c.from_residual-in_err-held.result ≡ Err c.in_err-held.field-0.0 = search rules in
    let was : c.hold.result ≡ Err c.in_err-held.field-0.0 = search rules in
    let few : c.len.result ≤ length c.args.self.now.segments.items = (let e = c.len.ensures in let ok = c.args.self.now.segments.ok.0 in omega arith) in
    let memory : c.in_err-held.field-0.0 ≡ NoMemory = only_memory c.in_err-held.field-0.0 c.in_err-held.ensures.refused
    (λ s not. none_of_first c.args.self.now c.len.result s few ((c.hold.ensures.not_here s).0 (was ∙ ap Err not))) in
    subst (λ r. IfErr r IsOfTruncation) (sym is) (inl memory)

pub returns-clause-truncated : goal.returns-clause-truncated
returns-clause-truncated g c =
    let node = c.args.self.now in
    let olds : List (HeldSide _) = c.in_ok-held.held.sides.items in
    let news : List (HeldSide _) = c.truncate_held-truncated.new.held.sides.items in
    let len : c.len.result ≡ length node.segments.items = (let e = c.len.ensures in let ok = node.segments.ok.0 in omega arith) in
    let all : AreAllOf node olds = (c.in_ok-held.ensures.held, subst (λ (n : ℕ). IsSetOf (take n (counting 1 16)) (map (λ h. h.side.segment) olds)) len c.in_ok-held.ensures.segments) in
    if_ok c.truncate_held-truncated.result (λ round. TruncatesHeld g.D.Area node olds round news) (HasTruncated g.D.Area node)
    (λ round truncates. record { olds = olds; news = news; all = all; truncates = truncates }) c.truncate_held-truncated.ensures.truncated

pub returns-clause-refused : goal.returns-clause-refused
returns-clause-refused g c =
    let node = c.args.self.now in
    let olds : List (HeldSide _) = c.in_ok-held.held.sides.items in
    let news : List (HeldSide _) = c.truncate_held-truncated.new.held.sides.items in
    let may : MayTruncate node = search rules in
    let len : c.len.result ≡ length node.segments.items = (let e = c.len.ensures in let ok = node.segments.ok.0 in omega arith) in
    let all : AreAllOf node olds = (c.in_ok-held.ensures.held, subst (λ (n : ℕ). IsSetOf (take n (counting 1 16)) (map (λ h. h.side.segment) olds)) len c.in_ok-held.ensures.segments) in
    if_err c.truncate_held-truncated.result (λ fault. IsUntruncatedHeld g.D.Area node olds fault news) (HasNotTruncated g.D.Area node)
    (λ fault why. inr (may, inr (olds, news, all, why))) c.truncate_held-truncated.ensures.refused

pub returns-clause-which : goal.returns-clause-which
returns-clause-which g c =
    let node = c.args.self.now in
    let olds : List (HeldSide _) = c.in_ok-held.held.sides.items in
    let news : List (HeldSide _) = c.truncate_held-truncated.new.held.sides.items in
    if_err c.truncate_held-truncated.result (λ fault. IsUntruncatedHeld g.D.Area node olds fault news) IsOfTruncation
    (λ fault why. of_truncation_held g.D.Area node olds news fault why) c.truncate_held-truncated.ensures.refused
