-- Of nodes that run: what a slot at a node shows is what the machine and the numbers have there.
use Rattle.std.proofs.lemmas.Bool.{or_left}
use Rattle.std.proofs.Common.{◌≡◌, ℕ, true, false, List, find, All, Option, None, Some, refl, sym, ap, ◌∙◌, arith, true≢false}
use Rattle.std.specs.Prelude.{slice_get}
use Rattle.std.proofs.lemmas.Option.{same_Some as same_some}
use Rattle.lc_record.specs.Content.{Content, segment_of}
use Rattle.lc_record.specs.Transaction.{Transaction, is_member, locks}
use Rattle.lc_record.proofs.LockLemmas.{lock_holds}
use Rattle.lc_record.proofs.ListLemmas.{slice_get_some as some_at, All-append_left as All-left}
use Rattle.lc_model.specs.History.{value}
use Rattle.lc_model.specs.Sound.{Sound, IsHere as HasTokens, IsProper, unclosed}
use Rattle.lc_model.specs.State.{At, Setting, State, is_by}
use Rattle.lc_model.proofs.Holders.{is_by-same}
use Rattle.lc_model.proofs.Lists.{found-all, found-passes, not_found}
use Rattle.lc_tx.specs.Holders.{writer_of}
use Rattle.lc_tx.specs.Images.{IsHere, bytes_of, holders_of}
use Rattle.lc_tx.specs.declared.tx.Tx.{Tx}
use Rattle.lc_desk.specs.Desk.{FitsDesk}
use Rattle.lc_desk.specs.Here.{the_images}
use Rattle.lc_desk.specs.Seat.{Seat, Free, Open, Reserved, holder_of}
use Rattle.lc_events.specs.Showing.{content_with, open_writer}
use Rattle.lc_desk.specs.declared.here.Here.{Here}
use Rattle.lc_desk.proofs.Holding.{find-left, only-holder}
use Rattle.lc_desk.proofs.Seating.{seat_of}

module _ (m : Setting) (node : ℕ) (here : Here) (seats : List Seat) (s : State) (sound : Sound m.geometry s) (h : FitsDesk m node here seats s) where
  abbrev content : Content
  content = value m.start s.earlier s.history

  -- a thread whose seat has no open transaction has none
  own_seat : (k segment : ℕ) (seat : Seat) (t : Transaction) → slice_get seats k ≡ Some seat → find (λ u. locks u segment) s.running ≡ Some t → is_by node k t ≡ true
      → bytes_of the_images here segment ≡ segment_of segment (content_with m s (Some t))
  own_seat k segment Free t at found by =
      absurd (true≢false (sym by ∙ found-all (λ u. locks u segment) (λ u. is_by node k u ≡ false) s.running t found (not_found (is_by node k) s.running (h.threads k Free at).0)))
  own_seat k segment (Reserved tx number) t at found by =
      absurd (true≢false (sym by ∙ found-all (λ u. locks u segment) (λ u. is_by node k u ≡ false) s.running t found (not_found (is_by node k) s.running (h.threads k (Reserved tx number) at).running)))
  own_seat k segment (Open tx) t at found by =
      let one = h.threads k (Open tx) at in
      let only = only-holder m.geometry s node k one.transaction sound (find-left (is_by node k) s.running (unclosed s.history) one.transaction one.running) in
      let same : t ≡ one.transaction =
      found-all (λ u. locks u segment) (λ u. is_by node k u ≡ true → u ≡ one.transaction) s.running t found
      (All-left (λ u. is_by node k u ≡ true → u ≡ one.transaction) s.running (unclosed s.history) only) by in
      let locked : locks one.transaction segment ≡ true = ap (λ u. locks u segment) (sym same) ∙ found-passes (λ u. locks u segment) s.running t found in
      one.stands.shown segment (or_left (is_member segment tx.locked.items) (is_member segment tx.reading.items) (ap (is_member segment) (sym one.stands.locked_are) ∙ locked))
      ∙ ap (λ u. segment_of segment (content_with m s (Some u))) (sym same)

  -- an open transaction that has locked it sits at this node, where the token is
  written : (segment : ℕ) (t : Transaction) → IsHere the_images here segment → find (λ u. locks u segment) s.running ≡ Some t
      → bytes_of the_images here segment ≡ segment_of segment (content_with m s (Some t))
  written segment t is found =
      let passes : locks t segment ≡ true = found-passes (λ u. locks u segment) s.running t found in
      let proper = found-all (λ u. locks u segment) (IsProper m.geometry) s.running t found sound.running_proper in
      let has = found-all (λ u. locks u segment) (HasTokens s.place) s.running t found (All-left (HasTokens s.place) s.running (unclosed s.history) sound.holders_here) in
      let at : s.place segment ≡ At t.node = has segment (lock_holds t segment passes) in
      let same : t.node ≡ node = (let both : At t.node ≡ At node = sym at ∙ h.places segment is in cc) in
      let below = proper.thread_known in
      let seat = some_at seats t.thread (omega (arith, below, h.all_seats)) in
      own_seat t.thread segment seat.0 t seat.1 found (is_by-same node t.thread t same refl)

  -- where no open transaction has locked it, it shows the content
  reserved_seat : (k segment : ℕ) (seat : Seat) (tx : Tx) → slice_get seats k ≡ Some seat → holder_of (Some seat) ≡ Some tx → is_member segment tx.locked.items ≡ true
      → All (λ u. locks u segment ≡ false) s.running → bytes_of the_images here segment ≡ segment_of segment content
  reserved_seat k segment Free tx at has locked none = absurd cc
  reserved_seat k segment (Open other) tx at has locked none =
      let one = h.threads k (Open other) at in
      let same : other ≡ tx = same_some other tx has in
      let is : locks one.transaction segment ≡ true = ap (is_member segment) one.stands.locked_are ∙ ap (λ (x : Tx). is_member segment x.locked.items) same ∙ locked in
      absurd (true≢false (sym is ∙ found-all (is_by node k) (λ u. locks u segment ≡ false) s.running one.transaction one.running none))
  reserved_seat k segment (Reserved other number) tx at has locked none =
      let one = h.threads k (Reserved other number) at in
      let same : other ≡ tx = same_some other tx has in
      one.shown segment (or_left (is_member segment other.locked.items) (is_member segment other.reading.items) (ap (λ (x : Tx). is_member segment x.locked.items) same ∙ locked))

  unwritten : (segment : ℕ) (writer : Option ℕ) → IsHere the_images here segment → writer_of (holders_of the_images here segment) ≡ writer
      → All (λ u. locks u segment ≡ false) s.running → bytes_of the_images here segment ≡ segment_of segment content
  unwritten segment None is writes none = h.shown segment is writes
  unwritten segment (Some k) is writes none =
      let its = h.writer segment k is writes in
      let seat = seat_of seats k its.0 its.1 in
      reserved_seat k segment seat.0 its.0 seat.1 seat.2 its.2 none

  pub here_shows : (segment : ℕ) → IsHere the_images here segment → bytes_of the_images here segment ≡ segment_of segment (content_with m s (open_writer segment s))
  here_shows segment is = elim (open_writer segment s) as (λ (o : Option Transaction). open_writer segment s ≡ o → bytes_of the_images here segment ≡ segment_of segment (content_with m s o)) [
    | None ↦ λ e. unwritten segment (writer_of (holders_of the_images here segment)) is refl (not_found (λ u. locks u segment) s.running e)
    | Some t ↦ λ e. written segment t is e
  ] refl
