use Rattle.std.proofs.Common.{◌≡◌, ◌+◌, ◌-◌, ℕ, List, drop, length, length-drop, sym, ap, ◌∙◌, subst, arith}
use Rattle.std.proofs.lemmas.List.{drop-drop}
use Rattle.lc_record.specs.Codec.{BeginsWith}
use Rattle.lc_record.specs.Record.{record_len}
use Rattle.lc_token.specs.KnownClean.{known}
use Rattle.lc_token.specs.Reset.{AreRecords, lesser}
use Rattle.lc_token.proofs.ResetLemmas.{IsOnward, Led, first_record, records_behind, onward_more, onward_end}
use Rattle.lc_token.proofs.reset.least_kept.Goals as goal

pub kept_at-record-requires : goal.kept_at-record-requires
kept_at-record-requires c =
    let rest : List ℕ = drop c.loop-place.place c.args.words.now in
    let led : Led rest = first_record rest c.loop-place.invariant.records (omega (arith, c.loop-place-test.true, length-drop c.loop-place.place c.args.words.now)) in
    (led.its, led.begins)

pub loop-place-preserved : goal.loop-place-preserved
loop-place-preserved c =
    let l = c.loop-place in
    let words : List ℕ = c.args.words.now in
    let r = c.kept_at-record.result in
    let rest : List ℕ = drop l.place words in
    let begins : BeginsWith rest r (record_len r) = c.kept_at-record.ensures in
    let long : length rest ≡ length words - l.place = length-drop l.place words in
    let next : drop (l.place + c.len-place.result) words ≡ drop (record_len r) rest = ap (λ (n : ℕ). drop (l.place + n) words) c.len-place.ensures ∙ sym (drop-drop (record_len r) l.place words) in
    record {
      within = omega (arith, c.len-place.ensures, begins.within, long, l.invariant.within);
      records = subst AreRecords (sym next) (records_behind rest r l.invariant.records (omega (arith, c.loop-place-test.true, long)) begins);
      onward = subst (IsOnward (known c.args.known.now) words (drop (l.place + c.len-place.result) words)) (sym c.lesser-least.ensures)
          (subst (λ (left : List ℕ). IsOnward (known c.args.known.now) words left (lesser l.least c.least_in-own.result)) (sym next)
          (onward_more (known c.args.known.now) words rest r l.least c.least_in-own.result begins c.least_in-own.ensures l.invariant.onward));
    }

pub returns : goal.returns
returns c =
    let l = c.loop-place in
    onward_end (known c.args.known.now) c.args.words.now (drop l.place c.args.words.now) l.least
    (omega (arith, c.loop-place-test.false, length-drop l.place c.args.words.now)) l.invariant.onward
