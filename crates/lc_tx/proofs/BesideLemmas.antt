-- A transaction beside changes of segments that it did not lock.
use Rattle.std.proofs.Common.{◌≡◌, ◌≢◌, ℕ, ◌<◌, true, false, ◌==◌, List, [], ◌∷◌, ◌++◌, map, length, refl, sym, ap, subst, ◌∙◌, inl, inr, arith, true≢false, eqb-true, eq-eqb}
use Rattle.std.specs.Prelude.{unwrap_or, slice_index}
use Rattle.std.proofs.lemmas.Bool.{cases_Bool, false_from_ne_true}
use Rattle.std.proofs.lemmas.List.{length-map}
use Rattle.lc_record.specs.Content.{Content, put, on_segment, segment_of}
use Rattle.lc_record.specs.Transaction.{Transaction, ByteWrite, is_member, writes_on}
use Rattle.lc_record.proofs.SegmentLemmas.{segment_of-other, segment_of-same}
use Rattle.lc_record.proofs.LockLemmas.{member_right as in_second}
use Rattle.lc_range.specs.Undo.{kept, LiesBelow}
use Rattle.lc_tx.specs.declared.images.Images.{Ghosts}
use Rattle.lc_tx.specs.declared.image.Image.{Image as Picture}
use Rattle.lc_tx.specs.declared.tx.Tx.{Tx}
use Rattle.lc_tx.specs.Holders.{reads}
use Rattle.lc_tx.specs.Images.{AreFreed, IsLockable, IsSameBut, IsWritten, bytes_of, holders_of}
use Rattle.lc_tx.specs.Tx.{Begins, Holds, Locked, Reads, RunsOn, KeepsLocked}
use Rattle.lc_tx.specs.StandsFor.{StandsFor}
use Rattle.lc_tx.proofs.HolderLemmas.{free_not_writer, free_reads_not, one_writer, others_read, still_read, writer_is_some, writer_reads_not}
use Rattle.lc_tx.proofs.HoldsLemmas.{asked_reading, asked_writing, held_cases, locked_holds, reads_holds}
use Rattle.lc_tx.proofs.ImagesLemmas.{here_along}
use Rattle.lc_tx.proofs.MemberLemmas.{not_both, not_one}

written_same : (s : ℕ) (ws : List ByteWrite) (a b : Content) → segment_of s a ≡ segment_of s b → segment_of s (writes_on ws a) ≡ segment_of s (writes_on ws b)
written_same s [] a b same = same
written_same s (w ∷ ws) a b same =
    let f = put w.offset w.bytes in
    written_same s ws (on_segment w.segment f a) (on_segment w.segment f b)
    (elim (s == w.segment) as (λ t. (s == w.segment) ≡ t → segment_of s (on_segment w.segment f a) ≡ segment_of s (on_segment w.segment f b)) [
      | true ↦ λ e.
          let is : s ≡ w.segment = eqb-true s w.segment e in
          subst (λ (n : ℕ). segment_of s (on_segment n f a) ≡ segment_of s (on_segment n f b)) is
          (segment_of-same s f a refl ∙ ap f same ∙ sym (segment_of-same s f b refl))
      | false ↦ λ e.
          let differ : s ≢ w.segment = λ is. true≢false (sym (eq-eqb s w.segment is) ∙ e) in
          segment_of-other s w.segment f a differ ∙ same ∙ sym (segment_of-other s w.segment f b differ)
    ] refl)

module _ {I : Type 0} (m : Ghosts I) (old new : I) (tx : Tx) (on : RunsOn m old tx) (keeps : KeepsLocked m old new tx) where
  pub runs_beside : RunsOn m new tx
  runs_beside = record {
    here = keeps.here;
    set_locked = on.set_locked;
    set_inside = λ s k has. subst (λ (p : Picture). k < length p.bytes.items) (sym (keeps.same_image s (on.set_locked s k has))) (on.set_inside s k has);
    kept_inside = λ s lock. subst (λ (p : Picture). LiesBelow tx.undo s (length p.bytes.items)) (sym (keeps.same_image s lock)) (on.kept_inside s lock);
    holds = λ s lock. ap (λ (p : Picture). p.holders) (keeps.same_image s lock) ∙ on.holds s lock;
    set_kept = on.set_kept;
    set_alone = on.set_alone;
    read_here = keeps.read_here;
    reads = keeps.still_reads;
  }

  held_bytes : (s : ℕ) → Holds tx s → bytes_of m new s ≡ bytes_of m old s
  held_bytes s held = elim (held_cases tx s held) [
    | inl lock ↦ ap (λ (p : Picture). p.bytes.items) (keeps.same_image s lock)
    | inr read ↦ keeps.same_bytes s read
  ]

  pub stands_beside : (content other : Content) (t : Transaction) → StandsFor m old tx content t → map length other ≡ map length content
      → ((s : ℕ) → Holds tx s → segment_of s other ≡ segment_of s content) → StandsFor m new tx other t
  stands_beside content other t is shape same = record {
    thread_is = is.thread_is;
    locked_are = is.locked_are;
    reading_are = is.reading_are;
    well_formed = is.well_formed;
    shape = is.shape ∙ sym shape;
    inside = λ s held. (let i = is.inside s held in (i.0, omega (arith, i.1, ap length shape, length-map other length, length-map content length)));
    set_is = is.set_is;
    shown = λ s held. held_bytes s held ∙ is.shown s held ∙ sym (written_same s t.writes other content (same s held));
    all_kept = is.all_kept;
    kept_is = λ s k lock.
        ap (λ (p : Picture). unwrap_or (kept tx.undo s k) (slice_index p.bytes.items k)) (keeps.same_image s lock) ∙ is.kept_is s k lock
        ∙ ap (λ (l : List ℕ). slice_index l k) (sym (same s (locked_holds tx s lock)));
  }

module _ {I : Type 0} (m : Ghosts I) where
  -- what changes nothing of the segments that it locked keeps them
  pub apart_keeps : (old new : I) (segments : List ℕ) (tx : Tx) → RunsOn m old tx → IsSameBut m segments old new
      → ((s : ℕ) → Holds tx s → is_member s segments ≡ false) → KeepsLocked m old new tx
  apart_keeps old new segments tx on but apart = record {
    here = λ s lock. here_along m segments old new s but (on.here s lock);
    same_image = λ s lock. but.others s (on.here s lock) (apart s (locked_holds tx s lock));
    read_here = λ s read. here_along m segments old new s but (on.read_here s read);
    same_bytes = λ s read. ap (λ (p : Picture). p.bytes.items) (same s read);
    still_reads = λ s read. ap (λ (p : Picture). reads p.holders tx.thread) (same s read) ∙ on.reads s read;
  }
    where
      same : (s : ℕ) → Reads tx s → m.image_of new s ≡ m.image_of old s
      same s read = but.others s (on.read_here s read) (apart s (reads_holds tx s read))

  -- Two transactions at one node

  module _ (old new : I) (tx other : Tx) (on : RunsOn m old other) where
    pub begin_keeps : (thread : ℕ) (segments reading : List ℕ) → Begins m thread segments reading old new tx → ((s : ℕ) → IsLockable m old segments reading s) → KeepsLocked m old new other
    begin_keeps thread segments reading begins free = record {
      here = λ s lock. here_along m (tx.locked.items ++ tx.reading.items) old new s begins.held.same (on.here s lock);
      same_image = λ s lock. begins.held.same.others s (on.here s lock) (not_both s tx.locked.items tx.reading.items (not_written s lock) (not_read s lock));
      read_here = λ s read. here_along m (tx.locked.items ++ tx.reading.items) old new s begins.held.same (on.read_here s read);
      same_bytes = λ s read. elim (cases_Bool (is_member s tx.reading.items)) [
        | inl also ↦ begins.held.same_bytes s (in_second s tx.locked.items tx.reading.items also)
        | inr not ↦ ap (λ (p : Picture). p.bytes.items) (same s read not)
      ];
      still_reads = λ s read. elim (cases_Bool (is_member s tx.reading.items)) [
        | inl also ↦ still_read thread other.thread (holders_of m old s) (holders_of m new s) (begins.held.joins s also) (on.reads s read)
        | inr not ↦ ap (λ (p : Picture). reads p.holders other.thread) (same s read not) ∙ on.reads s read
      ];
    }
      where
        not_written : (s : ℕ) → Locked other s → is_member s tx.locked.items ≡ false
        not_written s lock = false_from_ne_true (is_member s tx.locked.items) (λ asked.
            free_not_writer (holders_of m old s) other.thread (on.holds s lock) ((free s).for_writing (asked_writing m old new thread segments reading tx begins s asked)).1)

        not_read : (s : ℕ) → Locked other s → is_member s tx.reading.items ≡ false
        not_read s lock = false_from_ne_true (is_member s tx.reading.items) (λ asked.
            writer_is_some (holders_of m old s) other.thread (on.holds s lock) ((free s).for_reading (asked_reading m old new thread segments reading tx begins s asked)).1)

        same : (s : ℕ) → Reads other s → is_member s tx.reading.items ≡ false → m.image_of new s ≡ m.image_of old s
        same s read not = begins.held.same.others s (on.read_here s read) (not_both s tx.locked.items tx.reading.items
            (false_from_ne_true (is_member s tx.locked.items) (λ asked.
            free_reads_not (holders_of m old s) other.thread ((free s).for_writing (asked_writing m old new thread segments reading tx begins s asked)).1 (on.reads s read)))
            not)

  module _ (old new : I) (tx other : Tx) (on : RunsOn m old other) where
    module _ (also : RunsOn m old tx) (differ : tx.thread ≢ other.thread) where
      -- what one writes the other has not locked
      not_theirs : (s : ℕ) → Locked tx s → Holds other s → ⊥
      not_theirs s lock held = elim (held_cases other s held) [
        | inl theirs ↦ differ (one_writer (holders_of m old s) tx.thread other.thread (also.holds s lock) (on.holds s theirs))
        | inr read ↦ writer_reads_not (holders_of m old s) tx.thread other.thread (also.holds s lock) (on.reads s read)
      ]

      pub write_keeps : (segment offset : ℕ) (bytes : List ℕ) → Locked tx segment → IsWritten m old segment offset bytes new → KeepsLocked m old new other
      write_keeps segment offset bytes lock wrote = apart_keeps old new (segment ∷ []) other on wrote.same
          (λ s held. not_one s segment (λ same. not_theirs segment lock (subst (λ (n : ℕ). Holds other n) (sym same) held)))

      pub freed_keeps : AreFreed m tx.thread tx.locked.items tx.reading.items old new → KeepsLocked m old new other
      freed_keeps freed = record {
        here = λ s lock. here_along m (tx.locked.items ++ tx.reading.items) old new s freed.same (on.here s lock);
        same_image = λ s lock. freed.same.others s (on.here s lock) (not_both s tx.locked.items tx.reading.items
            (not_written s (locked_holds other s lock))
            (false_from_ne_true (is_member s tx.reading.items) (λ read. writer_reads_not (holders_of m old s) other.thread tx.thread (on.holds s lock) (also.reads s read))));
        read_here = λ s read. here_along m (tx.locked.items ++ tx.reading.items) old new s freed.same (on.read_here s read);
        same_bytes = λ s read. elim (cases_Bool (is_member s tx.reading.items)) [
          | inl both ↦ freed.same_read s both
          | inr not ↦ ap (λ (p : Picture). p.bytes.items) (same s read not)
        ];
        still_reads = λ s read. elim (cases_Bool (is_member s tx.reading.items)) [
          | inl both ↦ others_read tx.thread other.thread (holders_of m old s) (holders_of m new s) differ (freed.leaves s both) (on.reads s read)
          | inr not ↦ ap (λ (p : Picture). reads p.holders other.thread) (same s read not) ∙ on.reads s read
        ];
      }
        where
          not_written : (s : ℕ) → Holds other s → is_member s tx.locked.items ≡ false
          not_written s held = false_from_ne_true (is_member s tx.locked.items) (λ lock. not_theirs s lock held)

          same : (s : ℕ) → Reads other s → is_member s tx.reading.items ≡ false → m.image_of new s ≡ m.image_of old s
          same s read not = freed.same.others s (on.read_here s read) (not_both s tx.locked.items tx.reading.items (not_written s (reads_holds other s read)) not)
