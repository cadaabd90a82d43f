use Rattle.std.proofs.Common.{◌≡◌, ℕ, ◌+◌, Bool, List, Some, length, sym, ◌∙◌, ap, arith}
use Rattle.lc_text.proofs.Items.{last_lock, next_read, next_write, no_lock}
use Rattle.lc_text.proofs.FieldLemmas.{first_len}
use Rattle.lc_text.specs.Line.{first, words}
use Rattle.lc_text.proofs.fields.Fields.locks.Goals as goal

-- a word was taken
taken : (old new word : List ℕ) → first (λ w. Some w) (words old) ≡ Some (word, words new) → length (words old) ≡ length (words new) + 1
taken old new word e = first_len (λ w. Some w) (words old) (word, words new) e

pub returns-in_default-lock-clause-value : goal.returns-in_default-lock-clause-value
returns-in_default-lock-clause-value c =
    no_lock (c.loop-word.segments.items, c.loop-word.reading.items) c.loop-word.self.rest.now c.word.new.self.rest.now c.in-Some.word.now _ c.in-Some.ensures.value (sym c.lock.ensures ∙ c.in_default-lock.is) c.loop-word.invariant.read

pub loop-word-preserved-in-Continue-1 : goal.loop-word-preserved-in-Continue-1
loop-word-preserved-in-Continue-1 c = record {
  read = rw c.in_ok-push.ensures.items (next_read c.loop-word.segments.items c.loop-word.reading.items c.loop-word.self.rest.now c.word.new.self.rest.now c.in-Some.word.now c.in-Some-lock.segment _ c.in-Some.ensures.value
      (sym c.lock.ensures ∙ c.in-Some-lock.is ∙ ap (λ (b : Bool). Some (b, c.in-Some-lock.segment)) c.if-is_read.true) c.loop-word.invariant.read);
  fewer = omega (arith, c.loop-word.invariant.fewer, taken c.loop-word.self.rest.now c.word.new.self.rest.now c.in-Some.word.now c.in-Some.ensures.value);
}

pub loop-word-preserved : goal.loop-word-preserved
loop-word-preserved c = record {
  read = rw c.in_ok-push-2.ensures.items (next_write c.loop-word.segments.items c.loop-word.reading.items c.loop-word.self.rest.now c.word.new.self.rest.now c.in-Some.word.now c.in-Some-lock.segment _ c.in-Some.ensures.value
      (sym c.lock.ensures ∙ c.in-Some-lock.is ∙ ap (λ (b : Bool). Some (b, c.in-Some-lock.segment)) c.if-is_read.false) c.loop-word.invariant.read);
  fewer = omega (arith, c.loop-word.invariant.fewer, taken c.loop-word.self.rest.now c.word.new.self.rest.now c.in-Some.word.now c.in-Some.ensures.value);
}

pub returns-clause-value : goal.returns-clause-value
returns-clause-value c = last_lock c.loop-word.segments.items c.loop-word.reading.items c.loop-word.self.rest.now _ c.in_default.ensures.value c.loop-word.invariant.read
