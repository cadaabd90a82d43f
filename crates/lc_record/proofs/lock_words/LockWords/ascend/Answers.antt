use Rattle.std.proofs.Common.{◌≡◌, ◌∷◌, false, refl, sym, ap, ◌∙◌, arith}
use Rattle.lc_record.specs.LockWords.{locks_in}
use Rattle.lc_record.specs.Reading.{is_lock, ascend}
use Rattle.lc_record.proofs.LockWordsLemmas.{stops_ascending}
use Rattle.lc_record.proofs.lock_words.LockWords.ascend.Goals as goal
use Rattle.lc_record.proofs.lock_words.LockWords.ascend.Goals.{then-not-is_lock-via-then-not-is_lock, then-not-is_lock-via-else-not-is_lock+then-lock-before}

pub returns-then-not-is_lock : goal.returns-then-not-is_lock
returns-then-not-is_lock c =
    let before = c.loop-lock.before in
    let rest = locks_in c.next.new.self.words.now in
    let stops : ascend before (c.in-Some.lock ∷ rest) ≡ false = elim c.then-not-is_lock.branch [
      | then-not-is_lock-via-then-not-is_lock w ↦
          let no : is_lock c.in-Some.lock ≡ false = sym c.is_lock.ensures ∙ w.if-not-is_lock.true in
          rw no refl
      | then-not-is_lock-via-else-not-is_lock+then-lock-before w ↦
          stops_ascending before c.in-Some.lock rest (omega (arith, w.if-lock-before.true))
    ] in
    sym (sym c.loop-lock.invariant ∙ ap (ascend before) c.in-Some.ensures.steps ∙ stops)
