use Rattle.std.proofs.Common.{◌≡◌, ℕ, Some, length, sym, ap, subst, ◌∙◌, arith}
use Rattle.std.specs.Prelude.{slice_get}
use Rattle.std.specs.Global.{Vec}
use Rattle.std.proofs.lemmas.Option.{slice_get-get_or, same_Some as same_some}
use Rattle.lc_rest.specs.Replay.{AreBytes}
use Rattle.lc_record.proofs.ListLemmas.{each_push as each_pushed}
use Rattle.lc_desk.proofs.Furnishing.{each_same}
use Rattle.lc_reading.proofs.reading_areas.read_pages.Goals as goal

pub loop-area-preserved : goal.loop-area-preserved
loop-area-preserved c =
    let areas = c.args.areas.now in
    let place = c.loop-area.area-index in
    let h = c.loop-area.invariant in
    let pages = c.args.geometry.now.pages in
    let count : length c.loop-area.pages.items ≡ place = omega (arith, h.count, c.loop-area.pages.ok.0) in
    let P = λ (k : ℕ) (bytes : Vec ℕ). (area : Vec ℕ) → slice_get areas k ≡ Some area → AreBytes area.items pages bytes.items in
    let last : P place c.in_ok-read_bytes.field-0 = λ area got.
    (let item = same_some _ area (sym (slice_get-get_or areas place c.area-item.result c.loop-area-test.true) ∙ got) in
    subst (λ l. AreBytes l pages c.in_ok-read_bytes.field-0.items) (c.as_slice.ensures.value ∙ ap (λ (v : Vec ℕ). v.items) (c.area-item.is ∙ item)) c.in_ok-read_bytes.ensures) in
    record {
      count = omega (arith, h.count, c.in_ok-push.ensures.len);
      pages = each_same P _ _ c.in_ok-push.ensures.items (each_pushed P c.loop-area.pages.items c.in_ok-read_bytes.field-0 h.pages (subst (λ (n : ℕ). P n c.in_ok-read_bytes.field-0) (sym count) last));
    }

pub read_bytes-requires : goal.read_bytes-requires
read_bytes-requires c =
    let there = slice_get-get_or c.args.areas.now c.loop-area.area-index c.area-item.result c.loop-area-test.true in
    let its = (c.requires c.loop-area.area-index _ there).len in
    omega (arith, its, c.as_slice.ensures.len, ap (λ (v : Vec ℕ). length v.items) c.area-item.is, ap length c.as_slice.ensures.value)

pub returns-clause-pages : goal.returns-clause-pages
returns-clause-pages c = λ k area bytes was got. c.loop-area.invariant.pages k bytes got area was
