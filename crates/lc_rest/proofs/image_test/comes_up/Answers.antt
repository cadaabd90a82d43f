use Rattle.std.proofs.Common.{rules, true, ◌≡◌, ◌≤◌, ◌<◌, ◌∙◌, sym, ap, subst, length, map, List, Bor}
use Rattle.std.specs.Prelude.{slice_index_or}
use Rattle.std.proofs.lemmas.List.{take_all, get_or-map, length-map}
use Rattle.lc_record.specs.declared.record.Record.{Record}
use Rattle.lc_rest.specs.Replay.{above_on, bytes_above}
use Rattle.lc_rest.proofs.Replays.{above-more}
use Rattle.lc_rest.proofs.image_test.comes_up.Goals as goal

pub loop-whole-preserved : goal.loop-whole-preserved
loop-whole-preserved c =
    let rs : List Record = map (λ (r : Bor Record). r.now) c.args.records.now in
    let i = c.loop-whole.whole-index in
    let d : Record = c.whole-item.result.now in
    let less : i < length rs = subst (λ k. i < k) (sym (length-map c.args.records.now (λ (r : Bor Record). r.now))) c.loop-whole-test.true in
    let item : d ≡ slice_index_or rs i d = ap (λ (r : Bor Record). r.now) c.whole-item.is ∙ sym (get_or-map (λ (r : Bor Record). r.now) c.args.records.now i c.whole-item.result d c.loop-whole-test.true) in
    c.lay_above.ensures ∙ ap (λ (r : Record). above_on c.args.segment c.args.applied r c.loop-whole.image) item
    ∙ above-more c.args.segment c.args.applied rs c.loop-whole.image c.args.image.now i d less c.loop-whole.invariant

pub returns-clause-image : goal.returns-clause-image
returns-clause-image c =
    let rs : List Record = map (λ (r : Bor Record). r.now) c.args.records.now in
    let done : length rs ≤ c.loop-whole.whole-index = subst (λ k. k ≤ c.loop-whole.whole-index) (sym (length-map c.args.records.now (λ (r : Bor Record). r.now))) c.loop-whole-test.false in
    c.loop-whole.invariant ∙ ap (λ (l : List Record). bytes_above c.args.segment c.args.applied l c.args.image.now) (take_all c.loop-whole.whole-index rs done)

pub returns-clause-comes : goal.returns-clause-comes
returns-clause-comes c =
    let rs : List Record = map (λ (r : Bor Record). r.now) c.args.records.now in
    let done : length rs ≤ c.loop-whole.whole-index = subst (λ k. k ≤ c.loop-whole.whole-index) (sym (length-map c.args.records.now (λ (r : Bor Record). r.now))) c.loop-whole-test.false in
    let all : c.loop-whole.image ≡ bytes_above c.args.segment c.args.applied rs c.args.image.now =
    c.loop-whole.invariant ∙ ap (λ (l : List Record). bytes_above c.args.segment c.args.applied l c.args.image.now) (take_all c.loop-whole.whole-index rs done) in
    let one : c.eq.result ≡ true → c.loop-whole.image ≡ c.args.bytes.now = search rules in
    let two : c.loop-whole.image ≡ c.args.bytes.now → c.eq.result ≡ true = search rules in
    (λ e. sym all ∙ one e, λ e. two (all ∙ e))
