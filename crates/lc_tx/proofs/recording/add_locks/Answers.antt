use Rattle.std.proofs.Common.{◌≡◌, ◌+◌, ◌*◌, ◌++◌, ℕ, List, [], length, map, drop, ap, sym, subst, ◌∙◌, arith, length-append, append-nil, rules}
use Rattle.std.specs.List.{flat_map}
use Rattle.std.proofs.lemmas.List.{drop_all, length-map}
use Rattle.lc_range.specs.declared.range.Range.{Range}
use Rattle.lc_record.specs.Record.{lock_words}
use Rattle.lc_record.specs.SpellingView.{SpellingView}
use Rattle.lc_record.proofs.SpellingLemmas.{length-lock_words}
use Rattle.lc_tx.specs.Prepared.{AreUnspent, segments_of}
use Rattle.lc_tx.proofs.RunLemmas.{others, others_of_none, others_next}
use Rattle.lc_tx.proofs.RecordLemmas.{lock_of}
use Rattle.lc_tx.proofs.recording.add_locks.Goals as goal

pub loop-run-init : goal.loop-run-init
loop-run-init g c =
    let of_none = others_of_none c.args.runs.now c.requires.numbered in
    record {
      same = search rules;
      words = search rules;
      unspent = subst (λ (l : List ℕ). AreUnspent (map (lock_of g.I.Images c.args.images.now) l)) (sym of_none) c.requires.unspent;
    }

pub add_next_lock-requires-then-run-last-clause-room : goal.add_next_lock-requires-then-run-last-clause-room
add_next_lock-requires-then-run-last-clause-room g c =
    let d : Range = record { segment = 0; offset = 0; len = 0 } in
    let m = lock_of g.I.Images c.args.images.now in
    let l = c.loop-run in
    let runs = c.args.runs.now in
    let left = map (lock_of g.I.Images c.args.images.now) (others c.loop-run.last (drop c.loop-run.run-index c.args.runs.now)) in
    let all = map (lock_of g.I.Images c.args.images.now) (others 0 c.args.runs.now) in
    let len : c.loop-run.spelling.len ≡ c.args.spelling.now.len = ap (λ (v : SpellingView). v.len) c.loop-run.invariant.same in
    let words : length c.loop-run.spelling.words + 2 * length left ≡ length c.args.spelling.now.words + 2 * length all =
    omega (
      arith,
      ap length c.loop-run.invariant.words,
      length-append c.loop-run.spelling.words (flat_map lock_words left),
      length-append c.args.spelling.now.words (flat_map lock_words all),
      length-lock_words left,
      length-lock_words all,
    ) in
    let next = others_next c.loop-run.last runs c.loop-run.run-index d c.loop-run-test.true c.if-run-last.true in
    omega (
      arith,
      words,
      len,
      c.requires.room,
      length-map (others c.loop-run.last (drop c.loop-run.run-index c.args.runs.now)) m,
      length-map (others 0 c.args.runs.now) m,
      ap length next,
      ap length (others_of_none runs c.requires.numbered),
    )

pub returns : goal.returns
returns g c =
    let l = c.loop-run in
    let m = lock_of g.I.Images c.args.images.now in
    let none : flat_map lock_words (map m (others c.loop-run.last (drop c.loop-run.run-index c.args.runs.now))) ≡ [] =
    ap (λ (rs : List Range). flat_map lock_words (map m (others c.loop-run.last rs))) (drop_all c.loop-run.run-index c.args.runs.now c.loop-run-test.false) in
    let words : c.loop-run.spelling.words ≡ c.args.spelling.now.words ++ flat_map lock_words (map m (segments_of c.args.runs.now)) =
    sym (append-nil c.loop-run.spelling.words) ∙ ap (λ (xs : List ℕ). c.loop-run.spelling.words ++ xs) (sym none)
    ∙ c.loop-run.invariant.words ∙ ap (λ (ss : List ℕ). c.args.spelling.now.words ++ flat_map lock_words (map m ss)) (others_of_none c.args.runs.now c.requires.numbered) in
    c.loop-run.invariant.same ∙ ap (λ (ws : List ℕ). record c.args.spelling.now { words = ws }) words
