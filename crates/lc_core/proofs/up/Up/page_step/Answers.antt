use Rattle.std.proofs.Common.{◌*◌, ◌-◌, ◌<◌, Bool, refl, sym, subst, ◌∙◌, arith}
use Rattle.std.proofs.lemmas.Option.{slice_get_read}
use Rattle.lc_model.specs.declared.event.Event.TheVariants.{PageStep}
use Rattle.lc_core.proofs.Devices.{up_whole}
use Rattle.lc_core.proofs.Failures.{no_faults}
use Rattle.lc_events.proofs.Geometries.{refuses_known}
use Rattle.lc_core.specs.Calls.{CallsWhere}
use Rattle.lc_core.proofs.CallsTold.{as_long}
use Rattle.lc_core.proofs.OneArea.{page_calls}
use Rattle.lc_events.proofs.Paged.{page_known}
use Rattle.lc_core.proofs.UpPages.{lengths_set, page_counts, page_follows_up, page_refused_up, pages_set, same_devices}
use Rattle.lc_events.proofs.Names.{common_may, common_quiet}
use Rattle.lc_core.proofs.up.Up.page_step.Goals as goal

pub returns-in-Some : goal.returns-in-Some
returns-in-Some g c = record {
  follows = page_refused_up g.D.Area c.args.self.now _ refl refl c.args.node c.args.segment c.args.page c.page_refusal.result c.in-Some.refusal c.page_refusal.ensures.refused c.in-Some.is (common_quiet c.in-Some.refusal (c.page_refusal.ensures.names c.in-Some.refusal c.in-Some.is));
  faults = no_faults _ _ _ (common_quiet c.in-Some.refusal (c.page_refusal.ensures.names c.in-Some.refusal c.in-Some.is)) refl;
  geometry = refl;
  unknown = c.page_refusal.ensures.unknown c.in-Some.refusal c.in-Some.is;
  calls =
      λ h areas has. (
        areas,
        (has.0, record { count = has.1.count; logs = has.1.logs; segments = has.1.segments }),
        subst (λ (b : Bool). CallsWhere g.D.Area b h (PageStep c.args.node c.args.segment c.args.page) areas areas) (sym (common_quiet c.in-Some.refusal (c.page_refusal.ensures.names c.in-Some.refusal c.in-Some.is))) refl,
      );
  names = common_may (PageStep c.args.node c.args.segment c.args.page) c.in-Some.refusal refl (c.page_refusal.ensures.names c.in-Some.refusal c.in-Some.is);
}

pub invariant_of-self-2 : goal.invariant_of-self-2
invariant_of-self-2 g c =
    let w = c.args.self.now in
    let segments = w.segments in
    let named = page_known w.running.geometry c.args.node c.args.segment c.args.page (c.page_refusal.ensures.known c.in_default.is) in
    let within : c.args.segment - 1 < segments.len = omega (arith, named.0, named.1, w.all_segments) in
    let old = c.index_mut-pages.result.now in
    let at = slice_get_read segments.items segments.len (c.args.segment - 1) old segments.ok.0 within c.index_mut-pages.ensures.value in
    let whole = up_whole g.D.Area w c.page_step.new.self (same_devices g.D.Area w.running c.page_step.new.self c.page_step.ensures.logs) in
    record {
      all_segments = whole.all_segments;
      logs = whole.logs;
      lengths = lengths_set g.D.Area (2 * 272 * c.page_step.new.self.geometry.pages) segments.items (c.args.segment - 1) old c.page_step.new.pages at (as_long g.D.Area c.page_step.result old.area c.page_step.new.pages.area c.page_step.ensures.device) whole.lengths;
      pages = pages_set g.D.Area c.page_step.new.self.geometry.pages segments.items (c.args.segment - 1) old c.page_step.new.pages at
          (sym c.page_step.new.pages.writes.ok.0 ∙ c.page_step.ensures.pages ∙ old.writes.ok.0) whole.pages;
      none = whole.none;
      room = whole.room;
    }

pub page_step-requires-clause-page : goal.page_step-requires-clause-page
page_step-requires-clause-page g c =
    let w = c.args.self.now in
    let segments = w.segments in
    let named = page_known w.running.geometry c.args.node c.args.segment c.args.page (c.page_refusal.ensures.known c.in_default.is) in
    let within : c.args.segment - 1 < segments.len = omega (arith, named.0, named.1, w.all_segments) in
    let old = c.index_mut-pages.result.now in
    let at = slice_get_read segments.items segments.len (c.args.segment - 1) old segments.ok.0 within c.index_mut-pages.ensures.value in
    let count = w.pages (c.args.segment - 1) old at in
    omega (arith, named.2, count, old.writes.ok.0)

pub returns : goal.returns
returns g c =
    let w = c.args.self.now in
    let segments = w.segments in
    let named = page_known w.running.geometry c.args.node c.args.segment c.args.page (c.page_refusal.ensures.known c.in_default.is) in
    let within : c.args.segment - 1 < segments.len = omega (arith, named.0, named.1, w.all_segments) in
    let old = c.index_mut-pages.result.now in
    let at = slice_get_read segments.items segments.len (c.args.segment - 1) old segments.ok.0 within c.index_mut-pages.ensures.value in
    record {
      follows =
          page_follows_up g.D.Area w _ c.args.node c.args.segment (c.args.segment - 1) c.args.page c.page_step.result old c.page_step.new.pages (omega (arith, named.0)) at refl
          (same_devices g.D.Area w.running c.page_step.new.self c.page_step.ensures.logs) c.page_refusal.result c.page_refusal.ensures.refused c.in_default.is c.page_step.ensures.follows;
      faults = page_counts g.D.Area w.running c.page_step.new.self segments.items (c.args.segment - 1) c.page_step.result old c.page_step.new.pages at c.page_step.ensures.logs c.page_step.ensures.device;
      geometry = c.page_step.ensures.logs.geometry;
      unknown = refuses_known c.args.self.now.running.geometry (PageStep c.args.node c.args.segment c.args.page) c.page_step.result (c.page_refusal.ensures.known c.in_default.is) c.page_step.ensures.known;
      calls = page_calls g.D.Area w _ c.args.node c.args.segment c.args.page old c.page_step.new.pages c.page_step.result at refl c.page_step.ensures.logs c.page_step.ensures.device;
      names = c.page_step.ensures.names;
    }
