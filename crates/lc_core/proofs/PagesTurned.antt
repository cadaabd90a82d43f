-- What a step of a page write leaves of the other segments, and what any step leaves of pages whose write failed.
use Rattle.std.proofs.Common.{◌≡◌, ◌≢◌, ℕ, ◌+◌, List, Some, slice_get, slice_set, refl, inl}
use Rattle.lc_disk.specs.declared.area.Area.{Ghosts}
use Rattle.lc_model.specs.Machine.{Step}
use Rattle.lc_model.specs.State.{Up, Setting, State}
use Rattle.lc_model.specs.declared.event.Event.{Event}
use Rattle.lc_model.specs.declared.event.Event.TheVariants.{PageStep}
use Rattle.lc_model.specs.declared.refusal.Refusal.TheVariants.{DeviceFault}
use Rattle.lc_model.specs.declared.reply.Reply.{Reply}
use Rattle.lc_model.specs.declared.reply.Reply.TheVariants.{Stepped, Written, Refused}
use Rattle.lc_settled.specs.Numbers.{Numbers}
use Rattle.lc_desk.specs.Pages.{FitsArea, FitsPages}
use Rattle.lc_events.specs.Paging.{HaltsFailed}
use Rattle.lc_settled.specs.Turns.{numbers_after}
use Rattle.lc_desk.specs.declared.pages.Pages.{Pages}
use Rattle.lc_journal.proofs.Halting.{halted_stays, place_stays}
use Rattle.lc_desk.proofs.PageImages.{pages_set}
use Rattle.lc_desk.proofs.PageTurns.{called_apart, settled_beside}
use Rattle.lc_desk.proofs.PageWrites.{SameAt}

-- of another segment the numbers say the same
turned_apart : (m : Setting) (s : State) (x : Numbers) (n segment page other beside : ℕ) → other ≢ segment → (reply : Reply) → SameAt other beside x (numbers_after m s x (PageStep n segment page) reply)
turned_apart m s x n segment page other beside differ (Stepped calls) = called_apart m s segment page x calls other beside (inl differ)
turned_apart m s x n segment page other beside differ (Written number) =
    let same = settled_beside m s segment page x other beside (inl differ) in
    record { calls = same.calls; texts = same.texts; present = same.present; begun = same.begun; opened = same.opened }
turned_apart m s x n segment page other beside differ (Refused DeviceFault) = called_apart m s segment page x (x.calls segment page + 1) other beside (inl differ)
turned_apart m s x n segment page other beside differ _ = record { calls = refl; texts = refl; present = refl; begun = refl; opened = refl }

module _ {D : Type 0} (a : Ghosts D) where
  -- so their areas fit as before
  pub pages_turned : (m : Setting) (s : State) (x : Numbers) (segments : List (Pages D a)) (n k page : ℕ) (old new : Pages D a) (reply : Reply) → slice_get segments k ≡ Some old → FitsPages a m segments x
      → FitsArea a m.geometry (k + 1) new (numbers_after m s x (PageStep n (k + 1) page) reply) → FitsPages a m (slice_set segments k new) (numbers_after m s x (PageStep n (k + 1) page) reply)
  pages_turned m s x segments n k page old new reply at h own =
      pages_set a m segments k old new x (numbers_after m s x (PageStep n (k + 1) page) reply) at (λ other beside differ. turned_apart m s x n (k + 1) page other beside differ reply) own h

  -- the token stays at the node, and the node stays halted
  pub halts_still : (m : Setting) (s : State) (event : Event) (reply : Reply) (after : State) → s.phase ≡ Up → after.phase ≡ Up → Step m s event reply after
      → (segment : ℕ) (pages : Pages D a) → HaltsFailed a s segment pages → HaltsFailed a after segment pages
  halts_still m s event reply after up still step segment pages halts page failed =
      let its = halts page failed in
      (its.0, place_stays m s event reply after up still step its.0 segment its.2 its.1, halted_stays m s event reply after up still step its.0 its.2)
