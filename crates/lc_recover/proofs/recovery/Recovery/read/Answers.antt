use Rattle.std.proofs.Common.{◌≡◌, ◌<◌, ◌∙◌, arith, ap, sym, subst, refl, length, Some, true, true≢false}
use Rattle.std.specs.Prelude.{slice_get, slice_set, Result, Ok, Err, OnOk, is_ok}
use Rattle.std.proofs.lemmas.Option.{slice_get-get_or}
use Rattle.lc_log.proofs.OneCalls.{read_call}
use Rattle.lc_recover.proofs.Going.{read-going}
use Rattle.lc_recover.proofs.Showing.{have-lengths}
use Rattle.lc_recover.specs.RecoveryPhase.{AreasFit}
use Rattle.lc_recover.specs.Recovery.{IsReadFrom, Recovering}
use Rattle.lc_recover.proofs.recovery.Recovery.read.Given.{Over}
use Rattle.lc_recover.proofs.recovery.Recovery.read.Goals as goal

ok_holds : {A B : Type 0} (r : Result A B) {P : Type 0} → OnOk r P → is_ok r ≡ true → P
ok_holds (Ok x) holds ok = holds
ok_holds (Err e) holds ok = absurd (true≢false (sym ok))

module _ (g : Over) (c : goal.After-slice_known-2-1 g) where
  abbrev old : g.row.D.Denot
  old = c.index_mut.result.now

  within : c.args.area < length c.self.inside.areas.items
  within = omega (arith, c.requires.area, c.self.invariant.fits.0.count, ap (λ (r : Recovering g.row.D.Denot). r.geometry.nodes) c.self.view_is, ap (λ (r : Recovering g.row.D.Denot). r.geometry.segments) c.self.view_is)

  was : slice_get c.self.inside.areas.items c.args.area ≡ Some old
  was = slice_get-get_or c.self.inside.areas.items c.args.area old within ∙ ap Some (sym c.index_mut.ensures.value)

  read_fits : AreasFit g.D.Area c.self.inside.geometry c.self.inside.stage (slice_set c.self.inside.areas.items c.args.area c.read.new.self)
  read_fits = (read-going g.D.Area c.self.inside.geometry c.self.inside.stage c.self.inside.areas.items c.args.area old c.read.new.self was
      c.read.ensures.honest c.read.ensures.len c.read.ensures.same c.read.ensures.same_dirty c.self.invariant).fits.0

pub invariant_of-self : goal.invariant_of-self
invariant_of-self g c = read-going g.D.Area c.self.inside.geometry c.self.inside.stage c.self.inside.areas.items c.args.area (old g c) c.read.new.self (was g c)
    c.read.ensures.honest c.read.ensures.len c.read.ensures.same c.read.ensures.same_dirty c.self.invariant

pub returns-clause-read : goal.returns-clause-read
returns-clause-read g c =
    subst (λ (r : Recovering g.row.D.Denot). IsReadFrom g.D.Area c.args.area c.args.at c.args.buffer.now c.read.new.buffer r.areas (slice_set c.self.inside.areas.items c.args.area c.read.new.self) (is_ok c.read.result)) c.self.view_is
    (record {
      call = record {
        old = old g c;
        new = c.read.new.self;
        was = was g c;
        is = refl;
        honest = c.read.ensures.honest;
        counted = c.read.ensures.counted;
        call = read_call g.D.Area (old g c) c.read.new.self (is_ok c.read.result) c.read.ensures.honest c.read.ensures.len c.read.ensures.called c.read.ensures.counted c.read.ensures.same c.read.ensures.same_dirty;
      };
      bytes = ok_holds c.read.result c.read.ensures.bytes;
      same = c.read.ensures.same;
      same_dirty = c.read.ensures.same_dirty;
    })

pub returns-clause-lengths : goal.returns-clause-lengths
returns-clause-lengths g c = have-lengths g.D.Area c.self.inside.geometry c.self.inside.stage (slice_set c.self.inside.areas.items c.args.area c.read.new.self) (read_fits g c)
