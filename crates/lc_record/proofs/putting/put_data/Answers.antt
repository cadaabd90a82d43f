use Rattle.std.proofs.Common.{◌≡◌, ◌+◌, ◌-◌, ◌/◌, ◌%◌, ◌<◌, ◌≤◌, ◌∙◌, ℕ, List, length, get_or, take, drop, ap, inl, inr, arith}
use Rattle.std.specs.Prelude.{slice_get}
use Rattle.std.specs.Int.{w64, to_le_bytes}
use Rattle.std.proofs.lemmas.Bool.{cases_lt}
use Rattle.std.proofs.lemmas.List.{length-take, length-drop}
use Rattle.lc_record.specs.Words.{bytes_of}
use Rattle.lc_record.proofs.PuttingLemmas.{put_before, put_within, put_past, word_part, byte_is_put, no_byte_is_put}
use Rattle.lc_record.proofs.putting.put_data.Goals as goal

pub loop-done-preserved : goal.loop-done-preserved
loop-done-preserved c =
    let l = c.loop-done in
    let done = l.done in
    let n = c.min-part.result in
    let place = c.args.skipped + done in
    let ys = c.copy_from_slice.new.self in
    let whole = bytes_of c.args.words.now in
    let all : done + n - done ≡ n = omega arith in
    let sum : place % 8 + n - place % 8 ≡ n = omega arith in
    let few : n ≤ c.min-count.result - done = omega (arith, c.min-part.ensures) in
    let below : c.min-count.result ≤ length c.args.bytes.now = omega (arith, c.min-count.ensures) in
    let same_len : length l.bytes ≡ length c.args.bytes.now = l.auto.bytes in
    let start : done ≤ length l.bytes = omega (arith, l.invariant.within, below, same_len) in
    let read : place / 8 < length c.args.words.now = omega (arith, c.requires, c.loop-done-test.true, c.min-count.ensures, c.saturating_sub.ensures) in
    let short : place % 8 + n ≤ 8 = omega (arith, c.min-part.ensures) in
    let word : c.to_le_bytes-word.result ≡ to_le_bytes w64 (get_or c.args.words.now (place / 8) 0) = c.to_le_bytes-word.ensures in
    let is : ys ≡ take (place % 8 + n - place % 8) (drop (place % 8) c.to_le_bytes-word.result) = c.copy_from_slice.ensures.after in
    let its : ys ≡ take (place % 8 + n - place % 8) (drop (place % 8) (to_le_bytes w64 (get_or c.args.words.now (place / 8) 0))) = is ∙ ap (λ (w : List ℕ). take (place % 8 + n - place % 8) (drop (place % 8) w)) word in
    let long : length ys ≡ done + n - done = omega (arith, all, c.copy_from_slice.ensures.len, length-take (done + n - done) (drop done l.bytes), length-drop done l.bytes, few, below, same_len, l.invariant.within) in
    record {
      within = omega (arith, few, l.invariant.within);
      put = λ k lt.
          elim (cases_lt k done) [
            | inl front ↦ put_before done (done + n - done) k l.bytes ys start long front ∙ l.invariant.put k front
            | inr behind ↦
                let at : place + (k - done) ≡ c.args.skipped + k = omega (arith, behind) in
                put_within done (done + n - done) k l.bytes ys start long behind (omega (arith, all, lt, behind))
                ∙ ap (λ (b : List ℕ). slice_get b (k - done)) its
                ∙ word_part c.args.words.now place (place % 8 + n - place % 8) n (k - done) read short sum (omega (arith, lt, behind))
                ∙ ap (slice_get whole) at
          ];
      kept = λ k le. put_past done (done + n - done) k l.bytes ys start long (omega (arith, all, le)) ∙ l.invariant.kept k (omega (arith, le));
    }

pub returns-clause-put : goal.returns-clause-put
returns-clause-put c k lt =
    let done = c.loop-done.done in
    elim (cases_lt k done) [
      | inl below ↦ c.loop-done.invariant.put k below ∙ byte_is_put c.args.words.now c.args.len (c.args.skipped + k) (slice_get c.args.bytes.now k) c.requires (omega (arith, below, c.loop-done.invariant.within, c.min-count.ensures, c.saturating_sub.ensures))
      | inr above ↦ c.loop-done.invariant.kept k above ∙ no_byte_is_put c.args.words.now c.args.len (c.args.skipped + k) (slice_get c.args.bytes.now k) (omega (arith, above, lt, c.loop-done-test.false, c.min-count.ensures, c.saturating_sub.ensures))
    ]
