-- What a transaction locked for writing, and what it locked for reading.
use Rattle.std.proofs.Common.{◌≡◌, ◌⊎◌, ℕ, true, false, List, ◌++◌, length, sym, ap, subst, ◌∙◌, inl, inr}
use Rattle.std.proofs.lemmas.Bool.{false_from_ne_true, or_cases, or_left, or_right}
use Rattle.lc_record.specs.Transaction.{is_member}
use Rattle.lc_range.specs.RangeSet.{Has}
use Rattle.lc_range.specs.declared.range.Range.{Range}
use Rattle.lc_range.specs.Undo.{LiesBelow, OldBytes, kept}
use Rattle.lc_tx.specs.declared.holders.Holders.TheVariants.{Writer}
use Rattle.lc_tx.specs.declared.images.Images.{Ghosts}
use Rattle.lc_tx.specs.declared.tx.Tx.{Tx}
use Rattle.lc_tx.specs.Images.{IsHere, IsLockable, bytes_of}
use Rattle.lc_tx.specs.Tx.{Begins, Holds, Locked, Reads, RunsOn}
use Rattle.lc_tx.proofs.HolderLemmas.{joined_reads, writer_reads_not}
use Rattle.lc_tx.proofs.ImagesLemmas.{here_along}
use Rattle.lc_tx.proofs.MemberLemmas.{of_others}

pub locked_holds : (tx : Tx) (s : ℕ) → Locked tx s → Holds tx s
locked_holds tx s lock = or_left (is_member s tx.locked.items) (is_member s tx.reading.items) lock

pub reads_holds : (tx : Tx) (s : ℕ) → Reads tx s → Holds tx s
reads_holds tx s read = or_right (is_member s tx.locked.items) (is_member s tx.reading.items) read

pub held_cases : (tx : Tx) (s : ℕ) → Holds tx s → Locked tx s ⊎ Reads tx s
held_cases tx s held = or_cases (is_member s tx.locked.items) (is_member s tx.reading.items) held

module _ {I : Type 0} (m : Ghosts I) where
  pub held_here : (images : I) (tx : Tx) (s : ℕ) → RunsOn m images tx → Holds tx s → IsHere m images s
  held_here images tx s on held = elim (held_cases tx s held) [ inl lock ↦ on.here s lock | inr read ↦ on.read_here s read ]

  -- what is read is not written
  pub reads_not_locked : (images : I) (tx : Tx) (s : ℕ) → RunsOn m images tx → Reads tx s → Locked tx s → ⊥
  reads_not_locked images tx s on read lock = writer_reads_not (m.image_of images s).holders tx.thread tx.thread (on.holds s lock) (on.reads s read)

  pub read_apart : (images : I) (tx : Tx) (s : ℕ) → RunsOn m images tx → Reads tx s → is_member s tx.locked.items ≡ false
  read_apart images tx s on read = false_from_ne_true (is_member s tx.locked.items) (reads_not_locked images tx s on read)

  module _ (old new : I) (thread : ℕ) (segments reading : List ℕ) (tx : Tx) (begins : Begins m thread segments reading old new tx) where
    pub asked_writing : (s : ℕ) → Locked tx s → is_member s segments ≡ true
    asked_writing s lock = sym (begins.locked_are.same s) ∙ lock

    pub asked_reading : (s : ℕ) → Reads tx s → is_member s reading ≡ true
    asked_reading s read = (of_others s segments reading (sym (begins.reading_are.same s) ∙ read)).0

    -- these are the images that it runs on
    pub begun_runs : ((s : ℕ) → IsLockable m old segments reading s) → RunsOn m new tx
    begun_runs free = record {
      here = λ s lock. here_along m (tx.locked.items ++ tx.reading.items) old new s begins.held.same ((free s).for_writing (asked_writing s lock)).0;
      set_locked = λ s k has. absurd (none s k has);
      set_inside = λ s k has. absurd (none s k has);
      kept_inside = λ s lock. subst (λ (copies : List OldBytes). LiesBelow copies s (length (bytes_of m new s))) (sym begins.nothing_kept) (λ k some. absurd cc);
      holds = λ s lock. begins.held.writer_is s lock ∙ ap (λ (n : ℕ). Writer n) (sym begins.thread_is);
      set_kept = λ s k has. absurd (none s k has);
      set_alone = λ s k apart. ap (λ (copies : List OldBytes). kept copies s k) begins.nothing_kept;
      read_here = λ s read. here_along m (tx.locked.items ++ tx.reading.items) old new s begins.held.same ((free s).for_reading (asked_reading s read)).0;
      reads = λ s read. joined_reads thread tx.thread (m.image_of old s).holders (m.image_of new s).holders begins.thread_is (begins.held.joins s read);
    }
      where
        none : (s k : ℕ) → Has tx.set s k → ⊥
        none s k has = subst (λ (set : List Range). Has set s k) begins.nothing_set has
