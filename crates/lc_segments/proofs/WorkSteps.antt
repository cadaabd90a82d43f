-- What the calls of a transaction do is what a work may do.
use Rattle.std.proofs.Common.{◌≡◌, ℕ, ◌+◌, ◌<◌, ◌≤◌, false, List, [], ◌∷◌, length, Option, Some, None, unwrap_or, refl, sym, ap, subst, ◌∙◌, inl, inr, arith, true≢false}
use Rattle.std.specs.Prelude.{◌↔◌, IsSome, slice_index, Result, Ok, Err, IsOk, OnOk, OnErr}
use Rattle.std.proofs.lemmas.Bool.{cases_Bool, cases_lt, cases_eq, false_from_ne_true}
use Rattle.lc_record.specs.Transaction.{is_member}
use Rattle.lc_record.proofs.SegmentLemmas.{length-put}
use Rattle.lc_record.proofs.ListLemmas.{none_not_some as none_is_none}
use Rattle.lc_range.specs.RangeSet.{Has}
use Rattle.lc_range.specs.Undo.{kept}
use Rattle.lc_tx.specs.declared.image.Image.{Image as Picture}
use Rattle.lc_tx.specs.declared.images.Images.{Ghosts}
use Rattle.lc_tx.specs.declared.tx.Tx.{Tx}
use Rattle.lc_tx.specs.declared.tx_fault.TxFault.{TxFault}
use Rattle.lc_tx.specs.Images.{IsSame, IsSameBut, IsWritten, bytes_of, holders_of}
use Rattle.lc_tx.specs.Tx.{AreSet, Locked, RunsOn, SetsRange}
use Rattle.lc_tx.proofs.MemberLemmas.{is_one}
use Rattle.lc_segments.specs.Works.{Works}
use Rattle.lc_tx.proofs.PutLemmas.{put_out}

module _ {I : Type 0} (m : Ghosts I) where
  -- where all images are the same, only the transaction may have changed
  pub image_same : (old new : I) (tx : Tx) → RunsOn m old tx → IsSame m old new → (s : ℕ) → Locked tx s → m.image_of new s ≡ m.image_of old s
  image_same old new tx on same s lock = same.others s (on.here s lock) refl

  -- fewer segments have changed than these
  widened : (segments : List ℕ) (old new : I) → IsSame m old new → IsSameBut m segments old new
  widened segments old new same = record { numbers = same.numbers; others = λ s here not. same.others s here refl; beside = same.beside }

  -- what is not kept is not set
  kept_not : (old : I) (tx : Tx) (s k : ℕ) → RunsOn m old tx → kept tx.undo s k ≡ None → Has tx.set s k → ⊥
  kept_not old tx s k on none has = none_is_none (kept tx.undo s k) none (on.set_kept s k has)

  pub works_nothing : (old new : I) (tx : Tx) → RunsOn m old tx → IsSame m old new → Works m old tx new tx
  works_nothing old new tx on same = record {
    same_thread = refl;
    same_locks = refl;
    same_reading = refl;
    same = widened tx.locked.items old new same;
    same_holders = λ s lock. ap (λ (p : Picture). p.holders) (image_same old new tx on same s lock);
    same_length = λ s lock. ap (λ (p : Picture). length p.bytes.items) (image_same old new tx on same s lock);
    unset = λ s k lock none. ap (λ (p : Picture). slice_index p.bytes.items k) (image_same old new tx on same s lock);
    old_bytes = λ s k lock. ap (λ (p : Picture). unwrap_or (kept tx.undo s k) (slice_index p.bytes.items k)) (image_same old new tx on same s lock);
    grows = λ s k has. has;
  }

  pub works_range : (old new : I) (tx next : Tx) (segment offset len : ℕ) → RunsOn m old tx → SetsRange m old tx segment offset len next → IsSame m old new → Works m old tx new next
  works_range old new tx next segment offset len on sets same = record {
    same_thread = sets.same_thread;
    same_locks = sets.same_locks;
    same_reading = sets.same_reading;
    same = widened tx.locked.items old new same;
    same_holders = λ s lock. ap (λ (p : Picture). p.holders) (image_same old new tx on same s lock);
    same_length = λ s lock. ap (λ (p : Picture). length p.bytes.items) (image_same old new tx on same s lock);
    unset = λ s k lock none. ap (λ (p : Picture). slice_index p.bytes.items k) (image_same old new tx on same s lock);
    old_bytes = λ s k lock. ap (λ (p : Picture). unwrap_or (kept next.undo s k) (slice_index p.bytes.items k)) (image_same old new tx on same s lock) ∙ keeps s k (kept tx.undo s k) refl;
    grows = λ s k has. (sets.adds s k).1 (inl has);
  }
    where
      old_byte : ℕ → ℕ → ℕ
      old_byte s k = slice_index (bytes_of m old s) k

      others : (s k : ℕ) → kept tx.undo s k ≡ None → (s ≡ segment → offset ≤ k → k < offset + len → ⊥) → unwrap_or (kept next.undo s k) (old_byte s k) ≡ old_byte s k
      others s k none out = ap (λ (o : Option ℕ). unwrap_or o (old_byte s k)) (sets.keeps.others s k none (λ is low high. absurd (out is low high)))

      inside : (k : ℕ) → kept tx.undo segment k ≡ None → offset ≤ k → k < offset + len → unwrap_or (kept next.undo segment k) (old_byte segment k) ≡ old_byte segment k
      inside k none low high = ap (λ (o : Option ℕ). unwrap_or o (old_byte segment k)) (sets.keeps.fresh k none low high (kept_not old tx segment k on none))

      fresh : (s k : ℕ) → kept tx.undo s k ≡ None → unwrap_or (kept next.undo s k) (old_byte s k) ≡ old_byte s k
      fresh s k none = elim (cases_eq s segment) [
        | inl is ↦ elim (cases_lt k offset) [
          | inl front ↦ others s k none (λ e low high. omega (arith, front, low))
          | inr low ↦ elim (cases_lt k (offset + len)) [
            | inl high ↦ subst (λ (x : ℕ). unwrap_or (kept next.undo x k) (old_byte x k) ≡ old_byte x k) (sym is) (inside k (subst (λ (x : ℕ). kept tx.undo x k ≡ None) is none) low high)
            | inr behind ↦ others s k none (λ e low high. omega (arith, behind, high))
          ]
        ]
        | inr other ↦ others s k none (λ e low high. other e)
      ]

      keeps : (s k : ℕ) (o : Option ℕ) → kept tx.undo s k ≡ o → unwrap_or (kept next.undo s k) (old_byte s k) ≡ unwrap_or (kept tx.undo s k) (old_byte s k)
      keeps s k (Some byte) is = ap (λ (o : Option ℕ). unwrap_or o (old_byte s k)) (sets.keeps.first s k byte is ∙ sym is)
      keeps s k None is = fresh s k is ∙ sym (ap (λ (o : Option ℕ). unwrap_or o (old_byte s k)) is)

  module _ (old new : I) (tx : Tx) (segment offset : ℕ) (bytes : List ℕ) (on : RunsOn m old tx) (wrote : IsWritten m old segment offset bytes new) (set : AreSet tx segment offset (length bytes)) (lock : Locked tx segment) where
    -- what holds of the written segment, and of an image that is the same, holds of each that is locked
    at_each : (Holds : ℕ → Type 0) → Holds segment → ((s : ℕ) → m.image_of new s ≡ m.image_of old s → Holds s) → (s : ℕ) → Locked tx s → Holds s
    at_each Holds here there s locked = elim (cases_Bool (is_member s (segment ∷ []))) [
      | inl is ↦ subst Holds (is_one s segment is) here
      | inr other ↦ there s (wrote.same.others s (on.here s locked) other)
    ]

    same_unset : (k : ℕ) (s : ℕ) → Locked tx s → (Has tx.set s k → ⊥) → slice_index (bytes_of m new s) k ≡ slice_index (bytes_of m old s) k
    same_unset k = at_each (λ s. (Has tx.set s k → ⊥) → slice_index (bytes_of m new s) k ≡ slice_index (bytes_of m old s) k)
        (λ none. ap (λ (l : List ℕ). slice_index l k) wrote.bytes_are
        ∙ put_out offset bytes (bytes_of m old segment) k (λ j less is. none (set k (omega (arith, is)) (omega (arith, is, less)))))
        (λ s same none. ap (λ (p : Picture). slice_index p.bytes.items k) same)

    same_old : (k : ℕ) (s : ℕ) → Locked tx s → (o : Option ℕ) → kept tx.undo s k ≡ o
        → unwrap_or (kept tx.undo s k) (slice_index (bytes_of m new s) k) ≡ unwrap_or (kept tx.undo s k) (slice_index (bytes_of m old s) k)
    same_old k s locked (Some byte) is =
        ap (λ (o : Option ℕ). unwrap_or o (slice_index (bytes_of m new s) k)) is ∙ sym (ap (λ (o : Option ℕ). unwrap_or o (slice_index (bytes_of m old s) k)) is)
    same_old k s locked None is = ap (λ (byte : ℕ). unwrap_or (kept tx.undo s k) byte) (same_unset k s locked (kept_not old tx s k on is))

    among_locked : (s : ℕ) → is_member s tx.locked.items ≡ false → is_member s (segment ∷ []) ≡ false
    among_locked s not = false_from_ne_true (is_member s (segment ∷ [])) (λ is. true≢false (sym (subst (λ (x : ℕ). Locked tx x) (is_one s segment is) lock) ∙ not))

    pub works_write : Works m old tx new tx
    works_write = record {
      same_thread = refl;
      same_locks = refl;
      same_reading = refl;
      same = record { numbers = wrote.same.numbers; others = λ s here not. wrote.same.others s here (among_locked s not); beside = wrote.same.beside };
      same_holders = at_each (λ s. holders_of m new s ≡ holders_of m old s) wrote.same_holders (λ s same. ap (λ (p : Picture). p.holders) same);
      same_length = at_each (λ s. length (bytes_of m new s) ≡ length (bytes_of m old s))
          (ap (λ (l : List ℕ). length l) wrote.bytes_are ∙ length-put offset bytes (bytes_of m old segment)) (λ s same. ap (λ (p : Picture). length p.bytes.items) same);
      unset = λ s k. same_unset k s;
      old_bytes = λ s k locked. same_old k s locked (kept tx.undo s k) refl;
      grows = λ s k has. has;
    }

  pub works_then : ((s t u : I) → m.IsSameBeside s t → m.IsSameBeside t u → m.IsSameBeside s u) → (a b c : I) (s t u : Tx) → Works m a s b t → Works m b t c u → Works m a s c u
  works_then chained a b c s t u one two =
      let still : (x : ℕ) → Locked s x → Locked t x = λ x lock. ap (λ l. is_member x l.items) one.same_locks ∙ lock in record {
        same_thread = two.same_thread ∙ one.same_thread;
        same_locks = two.same_locks ∙ one.same_locks;
        same_reading = two.same_reading ∙ one.same_reading;
        same = record {
          numbers = λ x. two.same.numbers x ∙ one.same.numbers x;
          others = λ x here not. two.same.others x (subst IsSome (sym (one.same.numbers x)) here) (ap (λ l. is_member x l.items) one.same_locks ∙ not) ∙ one.same.others x here not;
          beside = chained a b c one.same.beside two.same.beside;
        };
        same_holders = λ x lock. two.same_holders x (still x lock) ∙ one.same_holders x lock;
        same_length = λ x lock. two.same_length x (still x lock) ∙ one.same_length x lock;
        unset = λ x k lock none. two.unset x k (still x lock) none ∙ one.unset x k lock (λ has. none (two.grows x k has));
        old_bytes = λ x k lock. two.old_bytes x k (still x lock) ∙ one.old_bytes x k lock;
        grows = λ x k has. two.grows x k (one.grows x k has);
      }

  -- a write, whether it is done or refused
  pub works_tried : (old new : I) (tx : Tx) (segment offset : ℕ) (bytes : List ℕ) (r : Result (Unit {0}) TxFault) → RunsOn m old tx → OnOk r (IsWritten m old segment offset bytes new)
      → OnErr r (IsSame m old new) → IsOk r ↔ (Locked tx segment × (offset + length bytes ≤ length (bytes_of m old segment)) × AreSet tx segment offset (length bytes)) → Works m old tx new tx
  works_tried old new tx segment offset bytes (Ok v) on wrote same ok = let why = ok.0 refl in works_write old new tx segment offset bytes on wrote why.2 why.0
  works_tried old new tx segment offset bytes (Err fault) on wrote same ok = works_nothing old new tx on same
