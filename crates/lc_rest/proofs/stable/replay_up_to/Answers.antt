use Rattle.std.proofs.Common.{◌≡◌, ◌≤◌, ◌<◌, ◌∙◌, sym, ap, subst, length, map, List, Bor}
use Rattle.std.specs.Prelude.{slice_index_or}
use Rattle.std.proofs.lemmas.List.{take_all, get_or-map, length-map}
use Rattle.lc_record.specs.declared.record.Record.{Record}
use Rattle.lc_rest.specs.Stable.{bytes_up_to, up_to_on}
use Rattle.lc_rest.proofs.Stables.{up_to-more}
use Rattle.lc_rest.proofs.stable.replay_up_to.Goals as goal

pub loop-whole-preserved : goal.loop-whole-preserved
loop-whole-preserved c =
    let rs : List Record = map (λ (r : Bor Record). r.now) c.args.records.now in
    let i = c.loop-whole.whole-index in
    let d : Record = c.whole-item.result.now in
    let less : i < length rs = subst (λ k. i < k) (sym (length-map c.args.records.now (λ (r : Bor Record). r.now))) c.loop-whole-test.true in
    let item : d ≡ slice_index_or rs i d = ap (λ (r : Bor Record). r.now) c.whole-item.is ∙ sym (get_or-map (λ (r : Bor Record). r.now) c.args.records.now i c.whole-item.result d c.loop-whole-test.true) in
    c.lay_up_to.ensures ∙ ap (λ (r : Record). up_to_on c.args.segment c.args.number r c.loop-whole.bytes) item
    ∙ up_to-more c.args.segment c.args.number rs c.loop-whole.bytes c.args.bytes.now i d less c.loop-whole.invariant

pub returns : goal.returns
returns c =
    let rs : List Record = map (λ (r : Bor Record). r.now) c.args.records.now in
    let done : length rs ≤ c.loop-whole.whole-index = subst (λ k. k ≤ c.loop-whole.whole-index) (sym (length-map c.args.records.now (λ (r : Bor Record). r.now))) c.loop-whole-test.false in
    c.loop-whole.invariant ∙ ap (λ (l : List Record). bytes_up_to c.args.segment c.args.number l c.args.bytes.now) (take_all c.loop-whole.whole-index rs done)
