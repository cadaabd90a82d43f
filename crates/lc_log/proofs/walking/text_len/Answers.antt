use Rattle.std.proofs.Common.{◌≡◌, ◌<◌, ℕ, [], ◌∷◌, ◌++◌, ◌+◌, drop, length, map, take, length-drop, subst, sym, arith}
use Rattle.lc_record.specs.Record.{record_len}
use Rattle.lc_record.proofs.RecordLemmas.{record_length, record_some}
use Rattle.lc_log.proofs.WalkLemmas.{Found, found_all, found_more, none_found}
use Rattle.lc_log.proofs.walking.text_len.Goals as goal

pub loop-record-init : goal.loop-record-init
loop-record-init c = ([], none_found c.args.words.now)

pub loop-record-smaller : goal.loop-record-smaller
loop-record-smaller c =
    let begins = c.in-Some.ensures.found in
    let front = take (record_len c.in-Some.record) (drop c.loop-record.end c.args.words.now) in
    let some : 0 < record_len c.in-Some.record = omega (arith, record_some c.in-Some.record front begins.whole, record_length c.in-Some.record front begins.whole) in
    omega (arith, some, begins.within, length-drop c.loop-record.end c.args.words.now, c.len-end.ensures)

pub loop-record-preserved : goal.loop-record-preserved
loop-record-preserved c =
    let found = c.loop-record.invariant in
    subst (λ (n : ℕ). (x : _) × Found c.args.words.now x (c.loop-record.end + n)) (sym c.len-end.ensures)
    (found.0 ++ (c.loop-record.end, c.in-Some.record) ∷ [], found_more c.args.words.now found.0 c.loop-record.end c.in-Some.record (record_len c.in-Some.record) found.1 c.in-Some.ensures.found)

pub returns : goal.returns
returns c =
    let found = c.loop-record.invariant in
    let walk = found_all c.args.words.now found.0 c.loop-record.end found.1 c.in_default.ensures.none in
    (map (λ x. x.1) found.0, walk.text, walk.behind)
