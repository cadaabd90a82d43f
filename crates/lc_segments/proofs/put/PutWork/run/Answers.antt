use Rattle.std.proofs.Common.{rules, ◌≡◌, ℕ, Ok, Err, length, refl, sym, ap, subst}
use Rattle.std.specs.Prelude.{OnErr}
use Rattle.lc_tx.specs.Images.{bytes_of}
use Rattle.lc_tx.specs.Tx.{SetsRange}
use Rattle.lc_tx.specs.declared.tx.Tx.{Tx}
use Rattle.lc_segments.specs.Put.{Puts}
use Rattle.lc_segments.proofs.PutBytes.{agree, fits_once, puts, unput}
use Rattle.lc_segments.proofs.WorkSteps.{works_range, works_then, works_tried}
use Rattle.lc_segments.proofs.put.PutWork.run.Goals as goal

pub returns-clause-works : goal.returns-clause-works
returns-clause-works g c = let m = g.I.Images in let old = c.args.images.now in let mid = c.set_range.new.images in let new = c.write.new.images in let put = c.args.self.now in let tx = c.set_range.new.self in
    let ranged = works_range m old mid c.args.tx.now tx put.segment put.offset c.in-Ok.len c.requires.runs c.in_ok-set_range.ensures.sets c.set_range.ensures.images in
    let wrote = works_tried m mid new tx put.segment put.offset put.bytes.now c.write.result c.set_range.ensures.runs c.write.ensures.written c.write.ensures.err c.write.ensures.ok in
    works_then m g.met.I.Images.beside_chained old mid new c.args.tx.now tx tx ranged wrote

pub returns-in_err-set_range-clause-ran : goal.returns-in_err-set_range-clause-ran
returns-in_err-set_range-clause-ran g c = let m = g.I.Images in let old = c.args.images.now in let put = c.args.self.now in let tx = c.args.tx.now in let e = c.set_range.ensures in
    let long : c.in-Ok.len ≡ length put.bytes.now = search rules in
    let is : c.from_residual.result ≡ Err c.in_err-set_range.field-0.0 = search rules in
    let was : c.set_range.result ≡ Err c.in_err-set_range.field-0.0 = search rules in (
      refl,
      subst (λ r. Puts put tx.locked.items (bytes_of m old) tx.set r (bytes_of m c.set_range.new.images) c.set_range.new.self.set) (sym is) (
        unput m old tx c.requires.runs put c.in-Ok.len long c.set_range.result e.not_locked e.read_only e.empty e.outside e.too_many e.no_memory e.faults c.in_err-set_range.field-0.0 was,
        agree m old tx c.requires.runs c.set_range.new.images e.images,
        ap (λ (t : Tx). t.set) (subst (λ r. OnErr r (c.set_range.new.self ≡ tx)) was e.err),
      ),
    )

pub returns-clause-ran : goal.returns-clause-ran
returns-clause-ran g c = let m = g.I.Images in let old = c.args.images.now in let put = c.args.self.now in let tx = c.args.tx.now in let e = c.set_range.ensures in let next = c.set_range.new.self in
    let long : c.in-Ok.len ≡ length put.bytes.now = search rules in
    let was : c.set_range.result ≡ Ok tt = search rules in
    let fits = fits_once m old tx c.requires.runs put c.in-Ok.len long c.set_range.result e.not_locked e.read_only e.empty e.outside was in
    let sets = subst (λ (n : ℕ). SetsRange m old tx put.segment put.offset n next) long c.in_ok-set_range.ensures.sets in
    (refl, puts m old tx c.requires.runs put c.set_range.new.images c.write.new.images next fits sets e.images c.write.result c.write.ensures.ok c.write.ensures.written e.runs)
