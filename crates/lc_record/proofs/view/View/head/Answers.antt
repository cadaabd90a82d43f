use Rattle.std.proofs.Common.{◌≡◌, ◌∙◌, ℕ, List, sym, ap}
use Rattle.std.proofs.lemmas.Option.{same_Some}
use Rattle.std.specs.Option.{is_some}
use Rattle.lc_record.specs.Reading.{head_at}
use Rattle.lc_record.specs.View.{record_in}
use Rattle.lc_record.specs.declared.parts.Head.{Head}
use Rattle.lc_record.proofs.RecordLemmas.{head_from, head_there}
use Rattle.lc_record.proofs.ViewLemmas.{given}
use Rattle.lc_record.proofs.view.View.head.Goals as goal

pub unwrap-requires : goal.unwrap-requires
unwrap-requires c =
    let words = c.self.inside.words.now in
    let its = head_there (record_in words) words c.self.invariant in
    let found = given (λ x. (x.0, x.1.now)) c.head_of.result (head_at words) (head_from (record_in words), its.0) c.head_of.ensures its.1 in
    ap is_some found.1

module _ (c : goal.After-head-1) where
  head_is : c.unwrap.result.0 ≡ head_from c.args.self.now
  head_is =
      let words = c.self.inside.words.now in
      let its = head_there (record_in words) words c.self.invariant in
      let found = given (λ x. (x.0, x.1.now)) c.head_of.result (head_at words) (head_from (record_in words), its.0) c.head_of.ensures its.1 in
      let same : c.unwrap.result ≡ found.0 = same_Some c.unwrap.result found.0 (sym c.unwrap.ensures ∙ found.1) in
      ap (λ x. x.0) same ∙ ap (λ (y : Head × List ℕ). y.0) found.2 ∙ ap head_from c.self.view_is

pub returns-clause-version : goal.returns-clause-version
returns-clause-version c = ap (λ (h : Head). h.version) (head_is c)

pub returns-clause-ranges : goal.returns-clause-ranges
returns-clause-ranges c = ap (λ (h : Head). h.ranges) (head_is c)

pub returns-clause-locks : goal.returns-clause-locks
returns-clause-locks c = ap (λ (h : Head). h.locks) (head_is c)
