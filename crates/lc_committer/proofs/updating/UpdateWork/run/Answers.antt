use Rattle.std.proofs.Common.{rules, ◌≡◌, ℕ, List, length, take, drop, Ok, Err, refl, sym, ap, subst, ◌∙◌, arith}
use Rattle.std.specs.Prelude.{OnErr}
use Rattle.std.proofs.lemmas.List.{length-take-le, length-drop, take_at}
use Rattle.lc_tx.specs.Images.{bytes_of}
use Rattle.lc_tx.specs.declared.tx.Tx.{Tx}
use Rattle.lc_segments.proofs.PutBytes.{agree}
use Rattle.lc_segments.proofs.WorkSteps.{works_nothing, works_range, works_then, works_tried}
use Rattle.lc_committer.specs.Update.{Updates}
use Rattle.lc_committer.proofs.Updated.{fits_once, leaves, unset}
use Rattle.lc_committer.proofs.updating.UpdateWork.run.Goals as goal

pub returns-in_err-set_range-clause-ran : goal.returns-in_err-set_range-clause-ran
returns-in_err-set_range-clause-ran g c = let m = g.I.Images in let old = c.args.images.now in let tx = c.args.tx.now in let u = c.args.self.now in let mid = c.read.new.images in let r = c.read.ensures in let e = c.set_range.ensures in
    let is : c.from_residual-in_err-set_range.result ≡ Err c.in_err-set_range.field-0.0 = search rules in
    let was : c.set_range.result ≡ Err c.in_err-set_range.field-0.0 = search rules in
    subst (λ answer. Updates g.C.Change.changes u u tx.locked.items (bytes_of m old) tx.set answer (bytes_of m c.set_range.new.images) c.set_range.new.self.set) (sym is) (
      refl,
      unset m old tx c.requires.runs u mid r.images r.runs c.set_range.result e.not_locked e.read_only e.empty e.outside e.too_many e.no_memory e.faults c.in_err-set_range.field-0.0 was,
      (λ s lock. agree m mid tx r.runs c.set_range.new.images e.images s lock ∙ agree m old tx c.requires.runs mid r.images s lock),
      ap (λ (t : Tx). t.set) (subst (λ answer. OnErr answer (c.set_range.new.self ≡ tx)) was e.err),
    )

pub returns-clause-ran : goal.returns-clause-ran
returns-clause-ran g c = let m = g.I.Images in let old = c.args.images.now in let tx = c.args.tx.now in let u = c.args.self.now in let mid = c.read.new.images in let late = c.set_range.new.images in let next = c.set_range.new.self in let r = c.read.ensures in let e = c.set_range.ensures in
    let was : c.set_range.result ≡ Ok tt = search rules in
    let fits = fits_once m old tx c.requires.runs u mid r.images r.runs c.set_range.result e.not_locked e.read_only e.empty e.outside was in
    let from : c.deref_mut.result.now ≡ take u.len (drop u.offset (bytes_of m old u.segment)) = c.deref_mut.ensures.value ∙ c.in_ok-bytes.ensures.bytes in
    let many : length c.deref_mut.result.now ≡ u.len = (let within = fits.2 in ap (λ (l : List ℕ). length l) from ∙ length-take-le u.len (drop u.offset (bytes_of m old u.segment)) (let rest = length-drop u.offset (bytes_of m old u.segment) in omega arith)) in
    let is : c.change.new.bytes ≡ c.deref.result.now = sym (c.deref.ensures.value ∙ take_at c.change.new.bytes (drop (length c.change.new.bytes) c.in_ok-bytes.bytes.items) c.in_ok-bytes.bytes.len (c.change.auto.bytes ∙ c.deref_mut.ensures.len)) in
    let kept : length c.deref.result.now ≡ u.len = ap (λ (l : List ℕ). length l) (sym is) ∙ (c.change.auto.bytes ∙ many) in
    let done = leaves m old tx c.requires.runs u mid late c.write.new.images next c.deref.result.now kept fits c.in_ok-set_range.ensures.sets r.images r.runs e.images c.write.result c.write.ensures.ok c.write.ensures.written e.runs in
    subst (λ answer. Updates g.C.Change.changes u (record u { change = c.change.new.self }) tx.locked.items (bytes_of m old) tx.set answer (bytes_of m c.write.new.images) next.set) (sym done.done) (
      fits,
      c.in_ok-set_range.ensures.sets.adds,
      (
        c.deref.result.now,
        kept,
        subst (λ (l : List ℕ). g.C.Change.changes u.change l c.change.new.self c.deref.result.now) from (subst (g.C.Change.changes u.change c.deref_mut.result.now c.change.new.self) is c.change.ensures),
        done.here,
      ),
      done.others,
      refl,
    )

pub returns-clause-works : goal.returns-clause-works
returns-clause-works g c = let m = g.I.Images in let old = c.args.images.now in let tx = c.args.tx.now in let u = c.args.self.now in let mid = c.read.new.images in let late = c.set_range.new.images in let next = c.set_range.new.self in let r = c.read.ensures in
    let had = works_nothing m old mid tx c.requires.runs r.images in
    let ranged = works_range m mid late tx next u.segment u.offset u.len r.runs c.in_ok-set_range.ensures.sets c.set_range.ensures.images in
    let wrote = works_tried m late c.write.new.images next u.segment u.offset c.deref.result.now c.write.result c.set_range.ensures.runs c.write.ensures.written c.write.ensures.err c.write.ensures.ok in
    works_then m g.met.I.Images.beside_chained old mid c.write.new.images tx tx next had (works_then m g.met.I.Images.beside_chained mid late c.write.new.images tx next next ranged wrote)
