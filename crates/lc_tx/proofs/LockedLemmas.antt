-- Segments that are locked, restored and given back, those for writing first.
use Rattle.std.proofs.Common.{◌≡◌, ℕ, ◌<◌, true, false, List, length, sym, ap, subst, ◌∙◌, inl, inr}
use Rattle.std.specs.Prelude.{slice_index}
use Rattle.lc_record.specs.Transaction.{is_member}
use Rattle.lc_range.specs.Undo.{LiesBelow}
use Rattle.lc_tx.specs.declared.holders.Holders.TheVariants.{Writer}
use Rattle.lc_tx.specs.declared.image.Image.{Image as Picture}
use Rattle.lc_tx.specs.declared.images.Images.{Ghosts}
use Rattle.lc_tx.specs.declared.lock_mode.LockMode.TheVariants.{Exclusive, Shared}
use Rattle.lc_tx.specs.declared.tx.Tx.{Tx}
use Rattle.lc_tx.specs.Holders.{Joins, Leaves, reads}
use Rattle.lc_tx.specs.Images.{IsHere, AreLocked, AreReleased, AreRestored, holders_of}
use Rattle.lc_tx.specs.Locking.{AreBack, AreLeft, AreTaken}
use Rattle.lc_tx.specs.Tx.{RunsOn}
use Rattle.lc_tx.proofs.HolderLemmas.{free_of}
use Rattle.lc_tx.proofs.HoldsLemmas.{read_apart}
use Rattle.lc_tx.proofs.ImagesLemmas.{both_changed, here_along}
use Rattle.lc_tx.proofs.MemberLemmas.{neither, of_both}

module _ {I : Type 0} (m : Ghosts I) (chain : (s t u : I) → m.IsSameBeside s t → m.IsSameBeside t u → m.IsSameBeside s u) where
  module _ (thread : ℕ) (segments reading : List ℕ) (old mid new : I)
      (here : (s : ℕ) → is_member s segments ≡ true → IsHere m old s) (read_here : (s : ℕ) → is_member s reading ≡ true → IsHere m old s)
      (apart : (s : ℕ) → is_member s reading ≡ true → is_member s segments ≡ false) (written : (s : ℕ) → is_member s segments ≡ true → is_member s reading ≡ false) where
    pub locked_from : AreTaken m Exclusive thread segments old mid → AreTaken m Shared thread reading mid new → AreLocked m thread segments reading old new
    locked_from one two = record {
      same = both_changed m segments reading old mid new chain one.same two.same;
      writer_is = λ s e. ap (λ (p : Picture). p.holders) (after s e) ∙ one.takes s e;
      joins = λ s e. subst (λ (p : Picture). Joins thread p.holders (holders_of m new s)) (before s e) (two.takes s e);
      same_bytes = λ s e. elim (of_both s segments reading e) [
        | inl first ↦ ap (λ (p : Picture). p.bytes.items) (after s first) ∙ one.same_bytes s first
        | inr second ↦ two.same_bytes s second ∙ ap (λ (p : Picture). p.bytes.items) (before s second)
      ];
    }
      where
        after : (s : ℕ) → is_member s segments ≡ true → m.image_of new s ≡ m.image_of mid s
        after s e = two.same.others s (here_along m segments old mid s one.same (here s e)) (written s e)

        before : (s : ℕ) → is_member s reading ≡ true → m.image_of mid s ≡ m.image_of old s
        before s e = one.same.others s (read_here s e) (apart s e)

    pub released_from : ((s : ℕ) → is_member s segments ≡ true → holders_of m old s ≡ Writer thread) → AreLeft m thread segments old mid → AreLeft m thread reading mid new
        → AreReleased m thread segments reading old new
    released_from holds one two = record {
      freed = record {
        same = both_changed m segments reading old mid new chain one.same two.same;
        free = λ s e. ap (λ (p : Picture). p.holders) (after s e) ∙ free_of thread (holders_of m old s) (holders_of m mid s) (holds s e) (one.leaves s e);
        leaves = λ s e. subst (λ (p : Picture). Leaves thread p.holders (holders_of m new s)) (before s e) (two.leaves s e);
        same_read = λ s e. two.same_bytes s e ∙ ap (λ (p : Picture). p.bytes.items) (before s e);
      };
      same_bytes = λ s e. ap (λ (p : Picture). p.bytes.items) (after s e) ∙ one.same_bytes s e;
    }
      where
        after : (s : ℕ) → is_member s segments ≡ true → m.image_of new s ≡ m.image_of mid s
        after s e = two.same.others s (here_along m segments old mid s one.same (here s e)) (written s e)

        before : (s : ℕ) → is_member s reading ≡ true → m.image_of mid s ≡ m.image_of old s
        before s e = one.same.others s (read_here s e) (apart s e)

  module _ (old mid : I) (tx : Tx) (on : RunsOn m old tx) (back : AreBack m tx.undo tx.locked.items old mid) where
    read_same : (s : ℕ) → is_member s tx.reading.items ≡ true → m.image_of mid s ≡ m.image_of old s
    read_same s read = back.same.others s (on.read_here s read) (read_apart m old tx s on read)

    -- it runs on what it has restored
    pub restored_runs : RunsOn m mid tx
    restored_runs = record {
      here = λ s lock. here_along m tx.locked.items old mid s back.same (on.here s lock);
      set_locked = on.set_locked;
      set_inside = λ s k has. subst (λ (n : ℕ). k < n) (sym (back.same_length s (on.set_locked s k has))) (on.set_inside s k has);
      kept_inside = λ s lock. subst (λ (n : ℕ). LiesBelow tx.undo s n) (sym (back.same_length s lock)) (on.kept_inside s lock);
      holds = λ s lock. back.same_holders s lock ∙ on.holds s lock;
      set_kept = on.set_kept;
      set_alone = on.set_alone;
      read_here = λ s read. here_along m tx.locked.items old mid s back.same (on.read_here s read);
      reads = λ s read. ap (λ (p : Picture). reads p.holders tx.thread) (read_same s read) ∙ on.reads s read;
    }

    pub restored_from : (new : I) → AreReleased m tx.thread tx.locked.items tx.reading.items mid new → AreRestored m tx.undo tx.thread tx.locked.items tx.reading.items old new
    restored_from new released = record {
      freed = record {
        same = record {
          numbers = λ s. released.freed.same.numbers s ∙ back.same.numbers s;
          others = λ s here not.
              released.freed.same.others s (here_along m tx.locked.items old mid s back.same here) not
              ∙ back.same.others s here (neither s tx.locked.items tx.reading.items not).0;
          beside = chain old mid new back.same.beside released.freed.same.beside;
        };
        free = released.freed.free;
        leaves = λ s e. subst (λ (p : Picture). Leaves tx.thread p.holders (holders_of m new s)) (read_same s e) (released.freed.leaves s e);
        same_read = λ s e. released.freed.same_read s e ∙ ap (λ (p : Picture). p.bytes.items) (read_same s e);
      };
      same_length = λ s e. ap length (released.same_bytes s e) ∙ back.same_length s e;
      bytes_are = λ s k e. ap (λ (l : List ℕ). slice_index l k) (released.same_bytes s e) ∙ back.bytes_are s k e;
    }
