-- A call of a page write is one call of its device.
use Rattle.std.proofs.Common.{◌≡◌, ℕ, Bool, true, false, List, length, refl, inl, inr}
use Rattle.std.specs.Prelude.{if◌then◌else◌}
use Rattle.lc_disk.specs.Area.{overlaid}
use Rattle.lc_disk.specs.declared.area.Area.{Ghosts}
use Rattle.lc_log.specs.OneCall.{IsOneCall, Leaves}
use Rattle.lc_page.specs.PageWrite.{Syncs, Writes}
use Rattle.lc_page.specs.Writing.{Calls}
use Rattle.lc_page.specs.declared.writing.Writing.{Writing}
use Rattle.lc_page.specs.declared.writing.Writing.TheVariants.{AtClosing, AtClosed, AtFilling, AtFilled, AtOpening}

module _ {D : Type 0} (a : Ghosts D) where
  pub writes_call : (page at : ℕ) (bytes : List ℕ) (old new : D) (ok : Bool) → Writes a page at bytes old new ok → IsOneCall a ok old new
  writes_call page at bytes old new ok call = record {
    honest = call.device.honest;
    same_length = call.device.same_length;
    called = call.device.called;
    counted = call.device.counted;
    leaves = λ honest. its ok (λ made. call.written honest made) honest;
  }
    where
      its : (b : Bool) → (b ≡ true → a.now new ≡ overlaid (a.now old) at bytes) → a.honest old ≡ true → Leaves a b old new
      its true written honest = inl (record { at = at; bytes = bytes; now = written refl; dirty = call.dirtied honest })
      its false written honest = inl (record { at = at; count = length bytes; now = call.torn honest; dirty = call.dirtied honest })

  pub syncs_call : (old new : D) (ok : Bool) → Syncs a old new ok → IsOneCall a ok old new
  syncs_call old new ok call = record {
    honest = call.device.honest;
    same_length = call.device.same_length;
    called = call.device.called;
    counted = call.device.counted;
    leaves = λ honest. its ok (call.dirty honest) honest;
  }
    where
      its : (b : Bool) → ((k : ℕ) → a.dirty new k ≡ (if b then false else a.dirty old k)) → a.honest old ≡ true → Leaves a b old new
      its true clean honest = inr (inl (record { now = call.same honest; clean = clean }))
      its false kept honest = inr (record { now = call.same honest; dirty = kept })

  pub calls_call : (write : Writing) (old new : D) (ok : Bool) → Calls a write old new ok → IsOneCall a ok old new
  calls_call (AtClosing w) old new ok call = syncs_call old new ok call
  calls_call (AtClosed w) old new ok call = writes_call _ _ _ old new ok call
  calls_call (AtFilling w) old new ok call = syncs_call old new ok call
  calls_call (AtFilled w) old new ok call = writes_call _ _ _ old new ok call
  calls_call (AtOpening w) old new ok call = syncs_call old new ok call
