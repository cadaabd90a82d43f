use Rattle.std.proofs.Common.{◌≡◌, ◌∙◌, ℕ, List, drop, take, sym, subst, ap, arith}
use Rattle.std.proofs.lemmas.List.{length-take-le}
use Rattle.lc_record.specs.Codec.{BeginsWith}
use Rattle.lc_record.specs.Record.{record_len}
use Rattle.lc_record.specs.Words.{AreWords}
use Rattle.lc_record.specs.Reading.{len_at}
use Rattle.lc_record.specs.View.{record_in}
use Rattle.lc_record.proofs.WordLemmas.{AreWords-from, AreWords-drop}
use Rattle.lc_record.proofs.RecordLemmas.{none_begins}
use Rattle.lc_record.proofs.ViewLemmas.{Found, found, range_behind}
use Rattle.lc_record.proofs.view.View.at.Goals as goal

module _ (c : goal.In_ok-len) where
  behind : c.in_ok-rest.rest.now ≡ drop c.args.place c.args.words.now
  behind = c.in_ok-rest.ensures.lookup.0.2 ∙ range_behind c.args.words.now c.args.place

  its : Found c.in_ok-rest.rest.now c.in_ok-len.len
  its =
      let fit : AreWords (drop c.args.place c.args.words.now) = AreWords-drop c.args.place c.args.words.now (AreWords-from c.args.words.now (λ i. omega (arith, c.type_inv.words i))) in
      found c.in_ok-rest.rest.now c.in_ok-len.len (subst AreWords (sym behind) fit) c.in_ok-len.ensures

pub returns-in_err-len-clause-none : goal.returns-in_err-len-clause-none
returns-in_err-len-clause-none c =
    let behind : c.in_ok-rest.rest.now ≡ drop c.args.place c.args.words.now = c.in_ok-rest.ensures.lookup.0.2 ∙ range_behind c.args.words.now c.args.place in
    rw c.from_residual-in_err-len.ensures (none_begins (drop c.args.place c.args.words.now) (ap len_at (sym behind) ∙ c.in_err-len.ensures))

pub slice_bounds-result-end : goal.slice_bounds-result-end
slice_bounds-result-end c = sym (length-take-le c.in_ok-len.len c.in_ok-rest.rest.now (its c).within)

pub invariant_of-result : goal.invariant_of-result
invariant_of-result c = (its c).is

pub returns-clause-found : goal.returns-clause-found
returns-clause-found c =
    let r = record_in (take c.in_ok-len.len c.in_ok-rest.rest.now) in
    subst (λ (words : List ℕ). BeginsWith words r (record_len r)) (behind c) (its c).begins
