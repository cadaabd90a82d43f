use Rattle.std.proofs.Common.{◌≡◌, ◌+◌, ◌<◌, ◌≤◌, ℕ, List, length, get_or, take, subst, sym, ap, arith}
use Rattle.std.proofs.lemmas.List.{length-take-le}
use Rattle.lc_record.specs.GrammarVersion.{place_words}
use Rattle.lc_record.specs.Layout.{data_len}
use Rattle.lc_record.specs.declared.record.Lock.{Lock}
use Rattle.lc_record.specs.declared.record.RangeData.{RangeData}
use Rattle.lc_record.proofs.SpellingLemmas.{lock_fits, range_fits, last_fits}
use Rattle.lc_record.proofs.encoding.spell.Goals as goal

pub add_lock-requires : goal.add_lock-requires
add_lock-requires c =
    let l = c.loop-lock in
    let below : l.lock-index < length c.args.«record».now.locks = omega (arith, c.loop-lock-test.true, ap (λ (x : List Lock). length x) c.as_slice-lock-items.ensures) in
    lock_fits c.args.«record».now (take l.lock-index c.args.«record».now.locks) l.spelling l.invariant (omega (arith, below, length-take-le l.lock-index c.args.«record».now.locks (omega (arith, below))))

pub add_range-requires : goal.add_range-requires
add_range-requires c =
    let l = c.loop-range in
    let range : RangeData = c.range-item.result in
    let at : range ≡ get_or c.args.«record».now.ranges l.range-index range = subst (λ (x : List RangeData). range ≡ get_or x l.range-index range) c.as_slice-range-items.ensures c.range-item.is in
    let fits = range_fits c.args.«record».now l.range-index range l.spelling l.invariant (omega (arith, c.loop-range-test.true, ap (λ (x : List RangeData). length x) c.as_slice-range-items.ensures)) at in
    let same : length c.as_slice.result.now ≡ length range.bytes = ap (λ (x : List ℕ). length x) c.as_slice.ensures in
    subst (λ (n : ℕ). length l.spelling.words + place_words l.spelling.version + data_len n ≤ l.spelling.len) (sym same) fits

pub finish-requires : goal.finish-requires
finish-requires c =
    let l = c.loop-range in
    last_fits c.args.«record».now l.range-index l.spelling l.invariant (omega (arith, c.loop-range-test.false, ap (λ (x : List RangeData). length x) c.as_slice-range-items.ensures))
