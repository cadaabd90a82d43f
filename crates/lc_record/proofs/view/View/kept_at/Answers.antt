use Rattle.std.proofs.Common.{◌≡◌, ◌/◌, ◌^◌, ◌-◌, ◌∙◌, ℕ, List, length, get_or, drop, take, sym, subst, ap}
use Rattle.lc_record.specs.Codec.{BeginsWith}
use Rattle.lc_record.specs.Record.{record_len, IsRecord}
use Rattle.lc_record.specs.View.{record_in}
use Rattle.lc_record.proofs.ViewLemmas.{Found, kept, range_behind}
use Rattle.lc_record.proofs.view.View.kept_at.Goals as goal

module _ (c : goal.After-length-len) where
  behind : take (length c.args.words.now - c.args.place) (drop c.args.place c.args.words.now) ≡ drop c.args.place c.args.words.now
  behind = range_behind c.args.words.now c.args.place

  its : Found (drop c.args.place c.args.words.now) c.length-len.result
  its = kept (drop c.args.place c.args.words.now) c.length-len.result c.requires.0 c.requires.1
      (c.length-len.ensures ∙ ap (λ (l : List ℕ). get_or l 0 0 / 2 ^ 32) behind)

pub invariant_of-result : goal.invariant_of-result
invariant_of-result c = subst (λ (l : List ℕ). IsRecord (record_in (take c.length-len.result l)) (take c.length-len.result l)) (sym (behind c)) (its c).is

pub returns : goal.returns
returns c =
    subst (λ (l : List ℕ). BeginsWith (drop c.args.place c.args.words.now) (record_in (take c.length-len.result l)) (record_len (record_in (take c.length-len.result l)))) (sym (behind c)) (its c).begins
