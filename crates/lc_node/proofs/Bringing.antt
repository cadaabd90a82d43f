-- What the record of a transaction brings.
use Rattle.std.proofs.Common.{◌≡◌, ℕ, List, [], Some, None, refl, sym, ap, subst, ◌∙◌}
use Rattle.std.specs.Prelude.{IsSome, IsTrue, Option, Result}
use Rattle.std.proofs.lemmas.List.{ext_get_or}
use Rattle.lc_record.specs.Part.{part_of}
use Rattle.lc_record.specs.Record.{IsRecord}
use Rattle.lc_record.specs.Transaction.{is_member}
use Rattle.lc_record.specs.declared.part.Part.{Part}
use Rattle.lc_record.proofs.LockLemmas.{member_left as in_front}
use Rattle.lc_range.specs.RangeSet.{IsCanonical}
use Rattle.lc_tx.specs.declared.images.Images.{Ghosts}
use Rattle.lc_tx.specs.declared.image.Image.{Image as Picture}
use Rattle.lc_tx.specs.declared.tx.Tx.{Tx}
use Rattle.lc_tx.specs.declared.tx_fault.TxFault.{TxFault}
use Rattle.lc_tx.specs.Image.{laid_over}
use Rattle.lc_tx.specs.Images.{IsSame, AreReleased, bytes_of}
use Rattle.lc_tx.specs.Prepared.{final_record}
use Rattle.lc_tx.specs.Tx.{Begins, RunsOn}
use Rattle.lc_tx.proofs.RecordLemmas.{inside_from}
use Rattle.lc_segments.specs.Attempts.{Leaves}
use Rattle.lc_segments.specs.Ran.{AgreeOn, Ran, Runs, Tells}
use Rattle.lc_node.specs.Ran.{Brings, ranges_in}
use Rattle.lc_segments.proofs.Applied.{laid_is_left}
use Rattle.lc_node.proofs.PartsOf.{lie_inside, none_set, part_is}

module _ {I : Type 0} (m : Ghosts I) where
  -- a run of a work in a transaction that has begun
  pub ran_begun : {tells : Tells} (segments : List ℕ) (answer : Result (Unit {0}) TxFault) (old mid new last : I) (t : Tx) (set : Runs) → Begins m 0 segments [] old mid t
      → tells t.locked.items (bytes_of m mid) t.set answer (bytes_of m new) set → AgreeOn segments (bytes_of m new) (bytes_of m last) → Ran tells segments (bytes_of m old) answer (bytes_of m last) set
  ran_begun {tells} segments answer old mid new last t set b told left = record {
    locked = t.locked.items;
    are_locked = b.locked_are;
    before = bytes_of m mid;
    after = bytes_of m new;
    was = λ s is. b.held.same_bytes s (in_front s t.locked.items t.reading.items (b.locked_are.same s ∙ is));
    left = left;
    told = subst (λ (runs : Runs). tells t.locked.items (bytes_of m mid) runs answer (bytes_of m new) set) b.nothing_set told;
  }

  -- the segments that are locked have the same bytes where all is the same, and where the locks are given back
  pub agree_same : (segments : List ℕ) (old at new : I) (u : Tx) → Leaves m segments old at u → IsSame m at new → AgreeOn segments (bytes_of m at) (bytes_of m new)
  agree_same segments old at new u left same = λ s is. sym (ap (λ (p : Picture). p.bytes.items) (same.others s (subst IsSome (sym (left.same.numbers s)) (left.here s is)) refl))

  pub agree_released : (segments : List ℕ) (old new last : I) (u : Tx) → Leaves m segments old new u → AreReleased m u.thread u.locked.items u.reading.items new last → AgreeOn segments (bytes_of m new) (bytes_of m last)
  agree_released segments old new last u left r = λ s is. sym (r.same_bytes s (left.locked s ∙ is))

  -- the ranges of the record give the bytes that the work left
  module _ {node : ℕ} (segments : List ℕ) (old at : I) (u : Tx) (left : Leaves m segments old at u) (on : RunsOn m at u) (canonical : IsCanonical u.set) (words : List ℕ) (is : IsRecord (final_record m at u node) words) where
    at_part : (s : ℕ) → IsTrue (is_member s segments) → (o : Option Part) → part_of s (final_record m at u node) ≡ o → laid_over (ranges_in o) (bytes_of m old s) ≡ bytes_of m at s
    at_part s member None none = sym (ext_get_or 0 (bytes_of m at s) (bytes_of m old s) (left.same_length s member)
        (λ k within. left.unset s k member (none_set m at s (final_record m at u node) words u.set is refl none k)))
    at_part s member (Some part) some =
        let inside = lie_inside m at s u.set (inside_from m at u.set canonical (λ x k has. (on.here x (on.set_locked x k has), on.set_inside x k has))) in
        ap (λ rs. laid_over rs (bytes_of m old s)) (part_is s (final_record m at u node) part some).1
        ∙ laid_is_left s (bytes_of m at) u.set (bytes_of m old s) (sym (left.same_length s member)) inside (λ k none. sym (left.unset s k member none))

    pub brings : Brings (final_record m at u node) segments (bytes_of m old) (bytes_of m at)
    brings s member = at_part s member (part_of s (final_record m at u node)) refl
