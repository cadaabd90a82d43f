use Rattle.std.proofs.Common.{◌∙◌, sym, subst, arith, inl, inr, Bool, Option}
use Rattle.lc_page.specs.declared.writing.Writing.{Writing}
use Rattle.lc_recover.proofs.AreaLemmas.{not_ok}
use Rattle.lc_recover.proofs.Writes.{next-of}
use Rattle.lc_recover.specs.Reads.{AreHonest}
use Rattle.lc_recover.specs.Shows.{ShowPages}
use Rattle.lc_recover.specs.RecoveryPhase.{Fits, IsWriting, OneCall}
use Rattle.lc_recover.specs.declared.recovery_phase.RecoveryPhase.TheVariants.{Writing as WritingPages}
use Rattle.lc_recover.proofs.page_steps.write_next.Goals as goal

pub begin_next-requires-clause-within : goal.begin_next-requires-clause-within
begin_next-requires-clause-within g c =
    let n = next-of c.args.geometry.now c.args.writes.now c.requires.fits.1 c.requires.left in
    omega (arith, c.place_of-place.ensures n.its n.pages n.is, n.known, n.is.segment, c.requires.fits.0.count)

pub go_on_next-requires-clause-fits : goal.go_on_next-requires-clause-fits
go_on_next-requires-clause-fits g c =
    subst (λ (o : Option Writing). Fits g.D.Area c.args.geometry.now (WritingPages (record c.args.writes.now { current = o })) c.args.areas.now) (sym c.take.ensures.value ∙ c.in-Some.is) c.requires.fits

pub go_on_next-requires-clause-within : goal.go_on_next-requires-clause-within
go_on_next-requires-clause-within g c =
    let n = next-of c.args.geometry.now c.args.writes.now c.requires.fits.1 c.requires.left in
    omega (arith, c.place_of-place.ensures n.its n.pages n.is, n.known, n.is.segment, c.requires.fits.0.count)

pub go_on_next-requires-clause-here : goal.go_on_next-requires-clause-here
go_on_next-requires-clause-here g c = λ its pages is.
    c.place_of-place.ensures its pages (record { change = is.change; segment = is.segment; kept = is.kept })

pub returns-in_err-begin_next-in-None-clause-shows : goal.returns-in_err-begin_next-in-None-clause-shows
returns-in_err-begin_next-in-None-clause-shows g c =
    subst (λ (o : Option Writing). (i : IsWriting c.args.geometry.now (record c.args.writes.now { current = o })) → AreHonest g.D.Area c.begin_next.new.areas
    → ShowPages g.D.Area c.args.geometry.now c.begin_next.new.areas i.store i.content i.numbers)
    (c.take.ensures.after ∙ sym c.in-None.is ∙ c.take.ensures.value) c.begin_next.ensures.shows

pub returns-in_ok-begin_next-in-None-clause-shows : goal.returns-in_ok-begin_next-in-None-clause-shows
returns-in_ok-begin_next-in-None-clause-shows g c =
    subst (λ (o : Option Writing). (i : IsWriting c.args.geometry.now (record c.args.writes.now { current = o })) → AreHonest g.D.Area c.begin_next.new.areas
    → ShowPages g.D.Area c.args.geometry.now c.begin_next.new.areas i.store i.content i.numbers)
    (c.take.ensures.after ∙ sym c.in-None.is ∙ c.take.ensures.value) c.begin_next.ensures.shows

pub returns-in_err-go_on_next-in-Some-clause-shows : goal.returns-in_err-go_on_next-in-Some-clause-shows
returns-in_err-go_on_next-in-Some-clause-shows g c =
    subst (λ (o : Option Writing). (i : IsWriting c.args.geometry.now (record c.args.writes.now { current = o })) → AreHonest g.D.Area c.go_on_next.new.areas
    → ShowPages g.D.Area c.args.geometry.now c.go_on_next.new.areas i.store i.content i.numbers)
    (sym c.in-Some.is ∙ c.take.ensures.value) c.go_on_next.ensures.shows

pub returns-in_ok-go_on_next-in-Some-clause-shows : goal.returns-in_ok-go_on_next-in-Some-clause-shows
returns-in_ok-go_on_next-in-Some-clause-shows g c =
    subst (λ (o : Option Writing). (i : IsWriting c.args.geometry.now (record c.args.writes.now { current = o })) → AreHonest g.D.Area c.go_on_next.new.areas
    → ShowPages g.D.Area c.args.geometry.now c.go_on_next.new.areas i.store i.content i.numbers)
    (sym c.in-Some.is ∙ c.take.ensures.value) c.go_on_next.ensures.shows

pub returns-in_err-begin_next-in-None-clause-call : goal.returns-in_err-begin_next-in-None-clause-call
returns-in_err-begin_next-in-None-clause-call g c =
    let n = next-of c.args.geometry.now c.args.writes.now c.requires.fits.1 c.requires.left in (
      c.place_of-place.result,
      omega (arith, c.place_of-place.ensures n.its n.pages n.is, n.is.segment),
      subst (λ (ok : Bool). OneCall g.D.Area c.place_of-place.result c.args.areas.now c.begin_next.new.areas ok) (not_ok c.from_residual.result c.from_residual.ensures.0) c.in_err-begin_next-in-None.ensures.call,
    )

pub returns-in_err-go_on_next-in-Some-clause-call : goal.returns-in_err-go_on_next-in-Some-clause-call
returns-in_err-go_on_next-in-Some-clause-call g c =
    let n = next-of c.args.geometry.now c.args.writes.now c.requires.fits.1 c.requires.left in (
      c.place_of-place.result,
      omega (arith, c.place_of-place.ensures n.its n.pages n.is, n.is.segment),
      subst (λ (ok : Bool). OneCall g.D.Area c.place_of-place.result c.args.areas.now c.go_on_next.new.areas ok) (not_ok c.from_residual-in_err-go_on_next-in-Some.result c.from_residual-in_err-go_on_next-in-Some.ensures.0) c.in_err-go_on_next-in-Some.ensures.call,
    )

pub returns-in_ok-begin_next-in-None-clause-call : goal.returns-in_ok-begin_next-in-None-clause-call
returns-in_ok-begin_next-in-None-clause-call g c =
    let n = next-of c.args.geometry.now c.args.writes.now c.requires.fits.1 c.requires.left in
    (c.place_of-place.result, omega (arith, c.place_of-place.ensures n.its n.pages n.is, n.is.segment), c.in_ok-begin_next-in-None.ensures.call)

pub returns-in_ok-go_on_next-in-Some-clause-call : goal.returns-in_ok-go_on_next-in-Some-clause-call
returns-in_ok-go_on_next-in-Some-clause-call g c =
    let n = next-of c.args.geometry.now c.args.writes.now c.requires.fits.1 c.requires.left in
    (c.place_of-place.result, omega (arith, c.place_of-place.ensures n.its n.pages n.is, n.is.segment), c.in_ok-go_on_next-in-Some.ensures.call)

pub returns-in_ok-go_on_next-in-Some-clause-keeps : goal.returns-in_ok-go_on_next-in-Some-clause-keeps
returns-in_ok-go_on_next-in-Some-clause-keeps g c honest =
    elim (c.in_ok-go_on_next-in-Some.ensures.keeps honest) [
      | inl same ↦ inl same
      | inr renewed ↦
          inr (record {
            segment = renewed.segment;
            page = renewed.page;
            was_next = renewed.was_next;
            content = renewed.content;
            numbers = renewed.numbers;
            merges = renewed.merges;
            kept = renewed.kept;
          })
    ]
