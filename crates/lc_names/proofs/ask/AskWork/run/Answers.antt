use Rattle.std.proofs.Common.{rules, inl, inr, ℕ, of_calls, ◌≡◌, ◌*◌, Option, None, Some, Result, Ok, Err, refl, sym, ap, subst, ◌∙◌, arith}
use Rattle.std.specs.Prelude.{IfSome}
use Rattle.lc_tx.specs.Images.{bytes_of}
use Rattle.lc_tx.specs.Tx.{RunsOn}
use Rattle.lc_tx.specs.declared.tx.Tx.{Tx}
use Rattle.lc_segments.specs.Put.{IsUnput}
use Rattle.lc_segments.specs.Ran.{Bytes}
use Rattle.lc_segments.specs.Works.{Works}
use Rattle.lc_segments.specs.declared.put.Put.{Put}
use Rattle.lc_segments.proofs.PutBytes.{agree}
use Rattle.lc_segments.proofs.WorkSteps.{works_nothing, works_then}
use Rattle.lc_names.specs.Answers.{Alters, Answers, EntryChange, Decides, IsOfEntry, WantsMemory, left_by}
use Rattle.lc_names.specs.declared.name_answer.NameAnswer.{NameAnswer}
use Rattle.lc_names.specs.declared.name_answer.NameAnswer.TheVariants.{Done}
use Rattle.lc_names.specs.declared.name_fault.NameFault.{NameFault}
use Rattle.lc_range.specs.RangeSet.{AddsPositions}
use Rattle.lc_names.specs.Ask.{Asks, IsAsked, SetsEntry}
use Rattle.lc_names.specs.declared.ask.TheConstants.{SEGMENT}
use Rattle.lc_names.specs.Table.{entries_in}
use Rattle.lc_names.proofs.Asked.{asked_changed, asked_same, ends_within, lost_through, read_within, told_through, unasked_memory, unasked_put}
use Rattle.lc_names.proofs.ask.AskWork.run.Goals as goal
use Rattle.lc_names.proofs.ask.AskWork.run.Goals.{in-Some+in_ok-run, in_default}

pub overflow_mul-put : goal.overflow_mul-put
overflow_mul-put g c =
    let m = g.I.Images in
    let old = c.args.images.now in
    let tx = c.args.tx.now in
    let ask = c.args.self.now in
    let locked = tx.locked.items in
    let before : Bytes = bytes_of m old in
    let mid : Bytes = bytes_of m c.read.new.images in
    let found = c.deref.result.now in
    let r = c.read.ensures in
    let within = read_within m old tx c.requires.runs ask c.read.result r.not_locked r.outside c.in_ok-table.table c.in_ok-table.was in
    let is = c.deref.ensures.value ∙ c.in_ok-table.ensures.bytes in
    let same = agree m old tx c.requires.runs c.read.new.images r.images in
    let told : Decides ask.command found (c.in_ok-change.change, c.in_ok-change.answer) = told_through (Decides ask.command found) c.decide.result c.map_err.result _ c.map_err.ensures.cases c.decide.ensures.decides _ c.in_ok-change.was in
    let change = c.in-Some.change in
    let changes = subst (λ (o : Option EntryChange). IfSome o (λ change. IsOfEntry (entries_in found) change × (c.in_ok-change.answer ≡ Ok Done))) c.in-Some.is told.0 in
    let at : IsOfEntry (entries_in found) change = changes.0 in
    let ends = ends_within ask locked before mid found within is same change at in
    omega (arith, ends)

pub overflow_cast-put : goal.overflow_cast-put
overflow_cast-put g c =
    let m = g.I.Images in
    let old = c.args.images.now in
    let tx = c.args.tx.now in
    let ask = c.args.self.now in
    let locked = tx.locked.items in
    let before : Bytes = bytes_of m old in
    let mid : Bytes = bytes_of m c.read.new.images in
    let found = c.deref.result.now in
    let r = c.read.ensures in
    let within = read_within m old tx c.requires.runs ask c.read.result r.not_locked r.outside c.in_ok-table.table c.in_ok-table.was in
    let is = c.deref.ensures.value ∙ c.in_ok-table.ensures.bytes in
    let same = agree m old tx c.requires.runs c.read.new.images r.images in
    let told : Decides ask.command found (c.in_ok-change.change, c.in_ok-change.answer) = told_through (Decides ask.command found) c.decide.result c.map_err.result _ c.map_err.ensures.cases c.decide.ensures.decides _ c.in_ok-change.was in
    let change = c.in-Some.change in
    let changes = subst (λ (o : Option EntryChange). IfSome o (λ change. IsOfEntry (entries_in found) change × (c.in_ok-change.answer ≡ Ok Done))) c.in-Some.is told.0 in
    let at : IsOfEntry (entries_in found) change = changes.0 in
    let ends = ends_within ask locked before mid found within is same change at in
    omega (arith, ends)

pub returns-clause-runs : goal.returns-clause-runs
returns-clause-runs g c =
    let m = g.I.Images in
    elim c.match-change.branch [
      | in-Some+in_ok-run w ↦ subst (λ i. RunsOn m i c.match-change.tx) (sym w.images-is) (subst (λ (t : Tx). RunsOn m w.run.new.images t) (sym w.tx-is) w.run.ensures.runs)
      | in_default w ↦ subst (λ i. RunsOn m i c.match-change.tx) (sym w.images-is) (subst (λ (t : Tx). RunsOn m c.read.new.images t) (sym w.tx-is) c.read.ensures.runs)
    ]

pub returns-clause-works : goal.returns-clause-works
returns-clause-works g c =
    let m = g.I.Images in
    let old = c.args.images.now in
    let tx = c.args.tx.now in
    let one = works_nothing m old c.read.new.images tx c.requires.runs c.read.ensures.images in
    elim c.match-change.branch [
      | in-Some+in_ok-run w ↦
          let both = works_then m g.met.I.Images.beside_chained old c.read.new.images w.run.new.images tx tx w.run.new.tx one w.run.ensures.works in
          subst (λ i. Works m old tx i c.match-change.tx) (sym w.images-is) (subst (λ (t : Tx). Works m old tx w.run.new.images t) (sym w.tx-is) both)
      | in_default w ↦ subst (λ i. Works m old tx i c.match-change.tx) (sym w.images-is) (subst (λ (t : Tx). Works m old tx c.read.new.images t) (sym w.tx-is) one)
    ]

pub returns-in_err-run-clause-ran : goal.returns-in_err-run-clause-ran
returns-in_err-run-clause-ran g c =
    let m = g.I.Images in
    let old = c.args.images.now in
    let tx = c.args.tx.now in
    let ask = c.args.self.now in
    let locked = tx.locked.items in
    let before : Bytes = bytes_of m old in
    let mid : Bytes = bytes_of m c.read.new.images in
    let found = c.deref.result.now in
    let r = c.read.ensures in
    let within = read_within m old tx c.requires.runs ask c.read.result r.not_locked r.outside c.in_ok-table.table c.in_ok-table.was in
    let is = c.deref.ensures.value ∙ c.in_ok-table.ensures.bytes in
    let same = agree m old tx c.requires.runs c.read.new.images r.images in
    let told : Decides ask.command found (c.in_ok-change.change, c.in_ok-change.answer) = told_through (Decides ask.command found) c.decide.result c.map_err.result _ c.map_err.ensures.cases c.decide.ensures.decides _ c.in_ok-change.was in
    let change = c.in-Some.change in
    let changes = subst (λ (o : Option EntryChange). IfSome o (λ change. IsOfEntry (entries_in found) change × (c.in_ok-change.answer ≡ Ok Done))) c.in-Some.is told.0 in
    let at : IsOfEntry (entries_in found) change = changes.0 in
    let ends = ends_within ask locked before mid found within is same change at in
    let answers = subst (λ (o : Option EntryChange). Answers ask.command found c.in_ok-change.answer (left_by o found)) c.in-Some.is told.1 in
    let alters : Alters ask.command found = (left_by (Some change) found, subst (λ (a : Result NameAnswer NameFault). Answers ask.command found a (left_by (Some change) found)) changes.1 answers) in
    let after : Bytes = bytes_of m c.run.new.images in
    let ran = c.in_err-run.ensures.ran in
    let p = c.run.new.self in
    let fault = c.in_err-run.field-0.0 in
    let err : c.from_residual-in_err-run.result ≡ Err fault = search rules in
    let offset : p.offset ≡ 64 * change.0 = ap (λ (q : Put). q.offset) ran.0 in
    subst (λ r. Asks ask ask locked before tx.set r after c.run.new.tx.set) (sym err) (
      refl,
      unasked_put ask locked before mid found within is same change at alters p fault (ap (λ (q : Put). q.segment) ran.0) offset (ap (λ (q : Put). q.bytes.now) ran.0) (omega (arith, ends, offset))
          (subst (λ (q : Put). IsUnput q locked mid fault) (sym ran.0) ran.1.0),
      λ s lock. ran.1.1 s lock ∙ same s lock,
      ran.1.2,
    )

pub returns-clause-ran : goal.returns-clause-ran
returns-clause-ran g c =
    let m = g.I.Images in
    let old = c.args.images.now in
    let tx = c.args.tx.now in
    let ask = c.args.self.now in
    let locked = tx.locked.items in
    let before : Bytes = bytes_of m old in
    let mid : Bytes = bytes_of m c.read.new.images in
    let found = c.deref.result.now in
    let r = c.read.ensures in
    let within = read_within m old tx c.requires.runs ask c.read.result r.not_locked r.outside c.in_ok-table.table c.in_ok-table.was in
    let is = c.deref.ensures.value ∙ c.in_ok-table.ensures.bytes in
    let same = agree m old tx c.requires.runs c.read.new.images r.images in
    let told : Decides ask.command found (c.in_ok-change.change, c.in_ok-change.answer) = told_through (Decides ask.command found) c.decide.result c.map_err.result _ c.map_err.ensures.cases c.decide.ensures.decides _ c.in_ok-change.was in
    let given = c.in_ok-change.answer in (
      given,
      refl,
      elim c.match-change.branch [
        | in-Some+in_ok-run w ↦
            let wrote = w.in_ok-run.ensures.ran in
            let change = w.in-Some.change in
            let at : IsOfEntry (entries_in found) change =
            (subst (λ (o : Option EntryChange). IfSome o (λ change. IsOfEntry (entries_in found) change × (given ≡ Ok Done))) w.in-Some.is told.0).0 in
            subst (λ i. IsAsked ask locked before given (bytes_of m i)) (sym w.images-is)
            (asked_changed ask locked before mid found within is same change at given (bytes_of m w.run.new.images)
            (subst (λ (o : Option EntryChange). Answers ask.command found given (left_by o found)) w.in-Some.is told.1) wrote.1.2 (λ s lock apart. wrote.1.3 s lock apart))
        | in_default w ↦
            let none : c.in_ok-change.change ≡ None = search rules in
            subst (λ i. IsAsked ask locked before given (bytes_of m i)) (sym w.images-is)
            (asked_same ask locked before mid found within is same given (subst (λ (o : Option EntryChange). Answers ask.command found given (left_by o found)) none told.1))
      ],
      elim c.match-change.branch [
        | in-Some+in_ok-run w ↦
            let wrote = w.in_ok-run.ensures.ran in
            let change = w.in-Some.change in
            let at : IsOfEntry (entries_in found) change =
            (subst (λ (o : Option EntryChange). IfSome o (λ change. IsOfEntry (entries_in found) change × (given ≡ Ok Done))) w.in-Some.is told.0).0 in
            let ends = ends_within ask locked before mid found within is same change at in
            subst (λ (t : Tx). SetsEntry ask tx.set t.set) (sym w.tx-is)
            (inr (change.0, ends, subst (λ (n : ℕ). AddsPositions tx.set SEGMENT (64 * change.0) n w.run.new.tx.set) at.1 wrote.1.1))
        | in_default w ↦ subst (λ (t : Tx). SetsEntry ask tx.set t.set) (sym w.tx-is) (inl refl)
      ],
    )

pub returns-in_err-change-clause-ran : goal.returns-in_err-change-clause-ran
returns-in_err-change-clause-ran g c =
    let m = g.I.Images in
    let old = c.args.images.now in
    let tx = c.args.tx.now in
    let ask = c.args.self.now in
    let locked = tx.locked.items in
    let before : Bytes = bytes_of m old in
    let mid : Bytes = bytes_of m c.read.new.images in
    let found = c.deref.result.now in
    let r = c.read.ensures in
    let within = read_within m old tx c.requires.runs ask c.read.result r.not_locked r.outside c.in_ok-table.table c.in_ok-table.was in
    let is = c.deref.ensures.value ∙ c.in_ok-table.ensures.bytes in
    let same = agree m old tx c.requires.runs c.read.new.images r.images in
    let fault = c.in_err-change.field-0.0 in
    let err : c.from_residual-in_err-change.result ≡ Err fault = search rules in
    let lost = lost_through (WantsMemory ask.command found) c.decide.result c.map_err.result _ c.map_err.ensures.cases c.decide.ensures.memory fault c.in_err-change.was (λ e given. search (rules, of_calls)) in
    subst (λ r. Asks ask ask locked before tx.set r mid tx.set) (sym err) (
      refl,
      unasked_memory ask locked before mid found within is same fault lost.0 lost.1,
      λ s lock. same s lock,
      refl,
    )
