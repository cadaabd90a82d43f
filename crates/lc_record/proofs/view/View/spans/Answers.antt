use Rattle.std.proofs.Common.{◌∙◌, ℕ, ◌+◌, ◌*◌, List, [], length, sym, ap, subst}
use Rattle.std.proofs.lemmas.List.{append-nil}
use Rattle.lc_record.specs.Record.{version_of, IsRecord}
use Rattle.lc_record.specs.Spans.{spans_in}
use Rattle.lc_record.specs.declared.record.Record.{Record}
use Rattle.lc_record.proofs.SpansLemmas.{record_spans}
use Rattle.lc_record.proofs.view.View.spans.Goals as goal

pub returns : goal.returns
returns c =
    let words = c.self.inside.words.now in
    let r : Record = c.args.self.now in
    let is : IsRecord r words = subst (λ (q : Record). IsRecord q words) c.self.view_is c.self.invariant in
    let its = ap (λ (l : List ℕ). spans_in (version_of r.ranges) l (2 + 2 * length r.locks) (length r.ranges)) (sym (append-nil words)) ∙ (record_spans r words [] is).spans in
    c.new.ensures ∙ rw (c.head.ensures.version, c.front_words.ensures, c.head.ensures.ranges) its
