use Rattle.std.proofs.Common.{◌≡◌, ◌*◌, ◌<◌, length, ◌-◌, slice_set}
use Rattle.lc_page.specs.PageVector.{entry_at}
use Rattle.lc_recover.specs.RecoveryPhase.{IsDraft, IsNext}
use Rattle.lc_recover.specs.declared.redo_range.RedoRange.{RedoRange}
use Rattle.lc_recover.specs.declared.segment_pages.SegmentPages.{SegmentPages}
use Rattle.std.proofs.Common.{◌+◌, ◌∷◌, drop, refl, sym, ◌∙◌, ap, subst, arith, get_or}
use Rattle.std.proofs.lemmas.Option.{same_Some as one_item}
use Rattle.lc_recover.specs.Page.{page_of, pages_of}
use Rattle.lc_disk.specs.Area.{overlaid}
use Rattle.lc_page.specs.PageVector.{settled}
use Rattle.lc_recover.proofs.Begins.{ComesNext, nearest, some_there, lies_within, is_next, only_next, its_page, long_page}
use Rattle.lc_recover.proofs.Settles.{still_writing, left_renewed, pages_stay}
use Rattle.lc_recover.proofs.page_steps.settle_page.Goals as goal

-- src/page_steps.rt:132:19
pub overflow_sub-segment : goal.overflow_sub-segment
overflow_sub-segment c = some_there c.args.geometry.now c.args.writes.now c.requires.drafted.0 c.deref.result.now c.first_page-changes.result.now _ c.deref.ensures.value c.requires.left c.first_page-changes.ensures

-- src/page_steps.rt:133:5
pub index_mut-requires : goal.index_mut-requires
index_mut-requires c =
    omega (
      arith,
      c.args.writes.now.kept.segments.ok.0,
      lies_within c.args.geometry.now c.args.writes.now c.requires.drafted.0 c.deref.result.now c.first_page-changes.result.now (record { segment = 0; page = 0; seq = 0; log = 0; place = 0; words = 0; offset = 0; len = 0 }) c.deref.ensures.value c.requires.left c.first_page-changes.ensures,
    )

module _ (c : goal.After-index_mut) where
  abbrev changing : RedoRange
  changing = get_or c.first_page-changes.result.now 0 (record { segment = 0; page = 0; seq = 0; log = 0; place = 0; words = 0; offset = 0; len = 0 })

  near : ComesNext c.args.writes.now.merged.changes.items c.args.writes.now.next c.first_page-changes.result.now changing
  near = nearest c.args.geometry.now c.args.writes.now c.requires.drafted.0 c.deref.result.now c.first_page-changes.result.now (record { segment = 0; page = 0; seq = 0; log = 0; place = 0; words = 0; offset = 0; len = 0 }) c.deref.ensures.value c.requires.left c.first_page-changes.ensures

  upcoming : IsNext c.args.writes.now changing c.index_mut.result.now
  upcoming = is_next c.args.geometry.now c.args.writes.now c.requires.drafted.0 c.deref.result.now c.first_page-changes.result.now (record { segment = 0; page = 0; seq = 0; log = 0; place = 0; words = 0; offset = 0; len = 0 }) c.deref.ensures.value c.requires.left c.first_page-changes.ensures c.index_mut.result.now _ c.index_mut.ensures.value

  within : c.args.draft.now.page < c.args.geometry.now.pages
  within = omega (arith, (c.requires.drafted.1 changing c.index_mut.result.now upcoming).page, its_page c.args.geometry.now c.args.writes.now c.requires.drafted.0 changing near.at)

-- src/page_steps.rt:133:5
pub renew-requires-clause-page : goal.renew-requires-clause-page
renew-requires-clause-page c = omega (arith, within c, c.requires.drafted.0.pages.entries ((changing c).segment - 1) c.index_mut.result.now (upcoming c).kept)

-- src/page_steps.rt:133:5
pub renew-requires-clause-room : goal.renew-requires-clause-room
renew-requires-clause-room c = omega (arith, within c, c.requires.drafted.0.pages.bytes ((changing c).segment - 1) c.index_mut.result.now (upcoming c).kept)

-- src/page_steps.rt:135:5
pub overflow_add-writes-2 : goal.overflow_add-writes-2
overflow_add-writes-2 c = omega (arith, c.requires.drafted.0.few, c.requires.left, c.deref.type_inv.0, ap length c.deref.ensures.value)

module _ (c : goal.After-writes-3-1) where
  abbrev settling : RedoRange
  settling = get_or c.first_page-changes.result.now 0 (record { segment = 0; page = 0; seq = 0; log = 0; place = 0; words = 0; offset = 0; len = 0 })

  coming : ComesNext c.args.writes.now.merged.changes.items c.args.writes.now.next c.first_page-changes.result.now settling
  coming = nearest c.args.geometry.now c.args.writes.now c.requires.drafted.0 c.deref.result.now c.first_page-changes.result.now (record { segment = 0; page = 0; seq = 0; log = 0; place = 0; words = 0; offset = 0; len = 0 }) c.deref.ensures.value c.requires.left c.first_page-changes.ensures

  its : IsNext c.args.writes.now settling c.index_mut.result.now
  its = is_next c.args.geometry.now c.args.writes.now c.requires.drafted.0 c.deref.result.now c.first_page-changes.result.now (record { segment = 0; page = 0; seq = 0; log = 0; place = 0; words = 0; offset = 0; len = 0 }) c.deref.ensures.value c.requires.left c.first_page-changes.ensures c.index_mut.result.now _ c.index_mut.ensures.value

  its_draft : IsDraft c.requires.drafted.0.content c.requires.drafted.0.numbers settling c.args.draft.now
  its_draft = c.requires.drafted.1 settling c.index_mut.result.now its

-- src/page_steps.rt:123:1
pub returns-clause-sound : goal.returns-clause-sound
returns-clause-sound c =
    still_writing c.args.geometry.now c.args.writes.now c.requires.drafted.0 (settling c) c.first_page-changes.result.now (coming c) c.index_mut.result.now c.renew.new.self c.args.draft.now
    (its c).kept (its_draft c) (ap length (its_draft c).bytes ∙ long_page c.args.geometry.now c.args.writes.now c.requires.drafted.0 (settling c) (coming c).at) c.renew.ensures.texts c.renew.ensures.bytes _ refl refl refl refl refl c.requires.none

-- src/page_steps.rt:123:1
pub returns-clause-settled : goal.returns-clause-settled
returns-clause-settled c = record {
  logs = refl;
  merged = refl;
  current = c.requires.none;
  written = refl;
  segments = λ d pages is.
      let same = only_next c.args.writes.now (settling c) d c.index_mut.result.now pages (its c) is in (
        c.renew.new.self,
        ap (λ (e : RedoRange). slice_set c.args.writes.now.kept.segments.items (e.segment - 1) c.renew.new.self) same.0,
        subst (λ (p : SegmentPages). c.renew.new.self.texts ≡ slice_set p.texts c.args.draft.now.page (settled (entry_at p.texts c.args.draft.now.page) c.args.draft.now.seq)) same.1 c.renew.ensures.texts,
        subst (λ (p : SegmentPages). c.renew.new.self.bytes.items ≡ overlaid p.bytes.items (c.args.draft.now.page * 256) c.args.draft.now.bytes) same.1 c.renew.ensures.bytes,
      );
}

pub returns-clause-pages : goal.returns-clause-pages
returns-clause-pages c = pages_stay c.args.geometry.now c.args.writes.now c.requires.drafted.0 (settling c) c.first_page-changes.result.now (coming c)

pub returns-clause-left : goal.returns-clause-left
returns-clause-left c d is =
    subst (λ (e : RedoRange). pages_of (drop c.args.writes.now.next c.args.writes.now.merged.changes.items) ≡ page_of e ∷ pages_of (drop (c.args.writes.now.next + length c.first_page-changes.result.now) c.args.writes.now.merged.changes.items))
    (one_item (settling c) d (sym (coming c).at ∙ is))
    (left_renewed c.args.geometry.now c.args.writes.now c.requires.drafted.0 (settling c) c.first_page-changes.result.now (coming c))
