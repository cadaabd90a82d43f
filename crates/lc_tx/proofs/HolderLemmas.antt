-- Who holds a segment.
use Rattle.std.proofs.Common.{◌≡◌, ◌≢◌, ℕ, Bool, true, false, not, ◌&&◌, ◌||◌, eqb, None, Some, refl, sym, ap, ◌∙◌}
use Rattle.std.proofs.lemmas.Bool.{false≢true, eq-eqb, ne_eqb, or_left}
use Rattle.std.proofs.Math.Bool.{and-false, or-true}
use Rattle.lc_record.proofs.ListLemmas.{or_again}
use Rattle.lc_tx.specs.Holders.{Joins, Leaves, reads, writer_of}
use Rattle.lc_tx.specs.LockMode.{Takes}
use Rattle.lc_tx.specs.declared.holders.Holders.{Holders}
use Rattle.lc_tx.specs.declared.holders.Holders.TheVariants.{Free, Writer, Readers}
use Rattle.lc_tx.specs.declared.lock_mode.LockMode.{LockMode}
use Rattle.lc_tx.specs.declared.lock_mode.LockMode.TheVariants.{Exclusive, Shared}
use Rattle.lc_tx.proofs.ReaderLemmas.{one_at}

-- Free has one spelling
pub who_is_free : (holders : Holders) → writer_of holders ≡ None → ((thread : ℕ) → reads holders thread ≡ false) → holders ≡ Free
who_is_free Free none nobody = refl
who_is_free (Writer thread) none nobody = absurd cc
who_is_free (Readers readers) none nobody = (let at = one_at readers.reads readers.some in absurd (false≢true (sym (nobody at.0) ∙ at.1)))

reads_of_writer : (holders : Holders) (thread other : ℕ) → holders ≡ Writer thread → reads holders other ≡ false
reads_of_writer holders thread other is = ap (λ (h : Holders). reads h other) is

pub writer_reads_not : (holders : Holders) (thread other : ℕ) → holders ≡ Writer thread → reads holders other ≡ true → ⊥
writer_reads_not holders thread other is reader = false≢true (sym (reads_of_writer holders thread other is) ∙ reader)

pub free_reads_not : (holders : Holders) (other : ℕ) → holders ≡ Free → reads holders other ≡ true → ⊥
free_reads_not holders other is reader = false≢true (sym (ap (λ (h : Holders). reads h other) is) ∙ reader)

pub writer_is_some : (holders : Holders) (thread : ℕ) → holders ≡ Writer thread → writer_of holders ≡ None → ⊥
writer_is_some holders thread is none = let some : Some thread ≡ None = sym (ap writer_of is) ∙ none in absurd cc

pub one_writer : (holders : Holders) (thread other : ℕ) → holders ≡ Writer thread → holders ≡ Writer other → thread ≡ other
one_writer holders thread other is also = let same : Some thread ≡ Some other = sym (ap writer_of is) ∙ ap writer_of also in cc

pub free_not_writer : (holders : Holders) (thread : ℕ) → holders ≡ Writer thread → holders ≡ Free → ⊥
free_not_writer holders thread is free = writer_is_some holders thread is (ap writer_of free)

-- what its writer gives back is free
pub free_of : (thread : ℕ) (old new : Holders) → old ≡ Writer thread → Leaves thread old new → new ≡ Free
free_of thread old new is left =
    who_is_free new left.no_writer (λ other. left.readers_are other ∙ ap (λ (b : Bool). not (eqb thread other) && b) (reads_of_writer old thread other is) ∙ and-false (not (eqb thread other)))

-- the others still read
pub others_read : (thread other : ℕ) (old new : Holders) → thread ≢ other → Leaves thread old new → reads old other ≡ true → reads new other ≡ true
others_read thread other old new differ left reader =
    left.readers_are other ∙ ap (λ (b : Bool). not b && reads old other) (ne_eqb thread other differ) ∙ reader

-- so do those that read before
pub still_read : (thread other : ℕ) (old new : Holders) → Joins thread old new → reads old other ≡ true → reads new other ≡ true
still_read thread other old new joins reader = joins.readers_are other ∙ ap (λ (b : Bool). eqb thread other || b) reader ∙ or-true (eqb thread other)

-- so does the one that joins them
pub joined_reads : (thread other : ℕ) (old new : Holders) → other ≡ thread → Joins thread old new → reads new other ≡ true
joined_reads thread other old new same joins = joins.readers_are other ∙ or_left (eqb thread other) (reads old other) (eq-eqb thread other (sym same))

-- Twice is once

pub takes_twice : (mode : LockMode) (thread : ℕ) (a b c : Holders) → Takes mode thread a b → Takes mode thread b c → Takes mode thread a c
takes_twice Exclusive thread a b c one two = two
takes_twice Shared thread a b c one two = record {
  no_writer = two.no_writer;
  readers_are = λ other. two.readers_are other ∙ ap (λ (x : Bool). eqb thread other || x) (one.readers_are other) ∙ or_again (eqb thread other) (reads a other);
}

pub leaves_twice : (thread : ℕ) (a b c : Holders) → Leaves thread a b → Leaves thread b c → Leaves thread a c
leaves_twice thread a b c one two = record {
  no_writer = two.no_writer;
  readers_are = λ other. two.readers_are other ∙ ap (λ (x : Bool). not (eqb thread other) && x) (one.readers_are other) ∙ twice (not (eqb thread other)) (reads a other);
}
  where
    twice : (x y : Bool) → (x && (x && y)) ≡ (x && y)
    twice true y = refl
    twice false y = refl
