-- Whose positions a page has, and which bytes it shows where it has none that are not over.
use Rattle.std.proofs.Common.{◌≡◌, ℕ, zero, suc, ◌+◌, ◌*◌, ◌<◌, ◌≤◌, Bool, true, false, List, [], ◌∷◌, ◌++◌, take, drop, find, Option, Some, None, refl, sym, ap, ◌∙◌, arith, true≢false}
use Rattle.std.specs.Prelude.{◌↔◌, ◌||◌, if◌then◌else◌, slice_get, IsTrue}
use Rattle.std.specs.List.{list_any}
use Rattle.std.proofs.Math.Seq.{drop-nil}
use Rattle.std.proofs.lemmas.Bool.{false_from_ne_true, true_from_ne_false}
use Rattle.std.proofs.lemmas.Option.{same_Some as same_some}
use Rattle.lc_record.specs.Content.{Content, segment_of}
use Rattle.lc_record.specs.Transaction.{Transaction, all_set, holds, locks}
use Rattle.lc_record.proofs.LockLemmas.{lock_holds}
use Rattle.lc_record.proofs.ListLemmas.{slice_get_some as some_at, same_Bool as same_truth, All-append_left as All-left}
use Rattle.lc_model.specs.History.{value}
use Rattle.lc_model.specs.Merging.{sets}
use Rattle.lc_model.specs.Sound.{IsHere as HasTokens, IsProper, Sound, holders, unclosed}
use Rattle.lc_model.specs.State.{At, Setting, State, is_by}
use Rattle.lc_model.specs.Stored.{page_bytes}
use Rattle.lc_model.proofs.Bytes.{byte-unset}
use Rattle.lc_model.proofs.Holders.{is_by-same}
use Rattle.lc_model.proofs.Lists.{found-all, found-passes, none_of}
use Rattle.lc_model.proofs.RecordBytes.{sets-locks}
use Rattle.lc_desk.specs.Desk.{FitsDesk}
use Rattle.lc_settled.specs.Numbers.{sets_on}
use Rattle.lc_desk.specs.Seat.{Seat, Free, Open, Reserved, holder_of}
use Rattle.lc_desk.specs.Here.{the_images}
use Rattle.lc_events.specs.Showing.{content_with, open_writer}
use Rattle.lc_desk.specs.Showing.{page_of}
use Rattle.lc_tx.specs.Images.{IsHere, bytes_of}
use Rattle.lc_desk.specs.Uncommitted.{HasSeatOn, SetsPage}
use Rattle.lc_tx.specs.declared.tx.Tx.{Tx}
use Rattle.lc_desk.specs.declared.here.Here.{Here}
use Rattle.lc_journal.proofs.Counted.{on_place, place_on, unset_on}
use Rattle.lc_desk.proofs.Holding.{free-none, holders-proper, only-holder, seat-holds}
use Rattle.lc_events.proofs.Shown.{here_shows}

-- one of a list passes
pub any_found : {A : Type 0} (p : A → Bool) (xs : List A) → list_any p xs ≡ true → (x : A) × (find p xs ≡ Some x)
any_found p [] is = absurd (true≢false (sym is))
any_found {A} p (x ∷ xs) is = by_first (p x) refl (any_found p xs)
  where
    found_if : (b : Bool) (y : A) → p x ≡ b → (if b then Some x else find p xs) ≡ Some y → find p (x ∷ xs) ≡ Some y
    found_if b y first is = ap (λ (c : Bool). if c then Some x else find p xs) first ∙ is

    by_first : (b : Bool) → p x ≡ b → (list_any p xs ≡ true → (y : A) × (find p xs ≡ Some y)) → (y : A) × (find p (x ∷ xs) ≡ Some y)
    by_first true first behind = (x, found_if true x first refl)
    by_first false first behind =
        let later : (y : A) × (find p xs ≡ Some y) = behind (sym (ap (λ (b : Bool). b || list_any p xs) first) ∙ is) in
        (later.0, found_if false later.0 first later.1)

found_any : {A : Type 0} (q p : A → Bool) (xs : List A) (x : A) → find q xs ≡ Some x → p x ≡ true → list_any p xs ≡ true
found_any q p xs x found is = true_from_ne_false (list_any p xs) (λ none. true≢false (sym is ∙ found-all q (λ y. p y ≡ false) xs x found (none_of p xs none)))

-- lists with the same elements in a window have the same window
same_window : (n place : ℕ) (xs ys : List ℕ) → ((k : ℕ) → place ≤ k → k < place + n → slice_get xs k ≡ slice_get ys k) → take n (drop place xs) ≡ take n (drop place ys)
same_window zero zero xs ys same = refl
same_window (suc n) zero [] [] same = refl
same_window (suc n) zero [] (y ∷ ys) same = (let no : None ≡ Some y = same 0 (omega arith) (omega arith) in absurd cc)
same_window (suc n) zero (x ∷ xs) [] same = (let no : Some x ≡ None = same 0 (omega arith) (omega arith) in absurd cc)
same_window (suc n) zero (x ∷ xs) (y ∷ ys) same =
    let first : x ≡ y = same_some x y (same 0 (omega arith) (omega arith)) in
    let rest : take n xs ≡ take n ys = same_window n zero xs ys (λ k from to. same (suc k) (omega arith) (omega (arith, to))) in
    ap (λ (z : ℕ). z ∷ take n xs) first ∙ ap (λ (zs : List ℕ). y ∷ zs) rest
same_window n (suc place) [] [] same = refl
same_window n (suc place) [] (y ∷ ys) same = ap (take n) (sym (drop-nil place)) ∙ same_window n place [] ys (λ k from to. same (suc k) (omega (arith, from)) (omega (arith, to)))
same_window n (suc place) (x ∷ xs) [] same = same_window n place xs [] (λ k from to. same (suc k) (omega (arith, from)) (omega (arith, to))) ∙ ap (take n) (drop-nil place)
same_window n (suc place) (x ∷ xs) (y ∷ ys) same = same_window n place xs ys (λ k from to. same (suc k) (omega (arith, from)) (omega (arith, to)))

module _ (m : Setting) (n : ℕ) (here : Here) (seats : List Seat) (s : State) (sound : Sound m.geometry s) (h : FitsDesk m n here seats s) (segment page : ℕ) where
  seat_holder : (thread : ℕ) (seat : Seat) → slice_get seats thread ≡ Some seat → SetsPage segment page seat → list_any (sets_on segment page) (holders s) ≡ true
  seat_holder thread seat at on =
      let its = seat-holds here n thread (value m.start s.earlier s.history) s seat on.tx (h.threads thread seat at) on.holds in
      found_any (is_by n thread) (sets_on segment page) (holders s) its.transaction its.found
      (place_on segment page on.position its.transaction on.first on.last ((its.set_is segment on.position).0 on.has))

  -- of a segment whose token is here, another node's transactions hold nothing
  pub holder_seat : (t : Transaction) → s.place segment ≡ At n → find (sets_on segment page) (holders s) ≡ Some t → HasSeatOn segment page seats
  holder_seat t here_is found =
      let on : sets_on segment page t ≡ true = found-passes (sets_on segment page) (holders s) t found in
      let proper = found-all (sets_on segment page) (IsProper m.geometry) (holders s) t found (holders-proper m s sound) in
      let set : sets segment t ≡ true = true_from_ne_false (sets segment t) (λ none. true≢false (sym on ∙ unset_on segment page t none)) in
      let has = found-all (sets_on segment page) (HasTokens s.place) (holders s) t found sound.holders_here in
      let at : s.place segment ≡ At t.node = has segment (lock_holds t segment (sets-locks t segment proper.well set)) in
      let same : t.node ≡ n = (let both : At t.node ≡ At n = sym at ∙ here_is in cc) in
      let below = proper.thread_known in
      let seat = some_at seats t.thread (omega (arith, below, h.all_seats)) in
      by_seat seat.0 t.thread seat.1 (is_by-same n t.thread t same refl) on
    where
      one_of : (thread : ℕ) (u : Transaction) (tx : Tx) (seat : Seat) → slice_get seats thread ≡ Some seat → holder_of (Some seat) ≡ Some tx → is_by n thread t ≡ true → sets_on segment page t ≡ true
          → HasSeatOn segment page seats
      one_of thread u tx seat got holds by on =
          let its = seat-holds here n thread (value m.start s.earlier s.history) s seat tx (h.threads thread seat got) holds in
          let only = only-holder m.geometry s n thread its.transaction sound its.found in
          let same : t ≡ its.transaction = found-all (sets_on segment page) (λ v. is_by n thread v ≡ true → v ≡ its.transaction) (holders s) t found only by in
          let place = on_place segment page t on in (
            thread,
            seat,
            got,
            record {
              tx = tx;
              holds = holds;
              position = place.0;
              first = place.1;
              last = place.2;
              has = (its.set_is segment place.0).1 (ap (λ (v : Transaction). all_set place.0 1 (segment_of segment v.marks)) (sym same) ∙ place.3);
            },
          )

      by_seat : (seat : Seat) (thread : ℕ) → slice_get seats thread ≡ Some seat → is_by n thread t ≡ true → sets_on segment page t ≡ true → HasSeatOn segment page seats
      by_seat Free thread got by on =
          let free = h.threads thread Free got in
          absurd (true≢false (sym by ∙ found-all (sets_on segment page) (λ u. is_by n thread u ≡ false) (holders s) t found (free-none n thread s free.0 free.1)))
      by_seat (Open tx) thread got by on = one_of thread t tx (Open tx) got refl by on
      by_seat (Reserved tx number) thread got by on = one_of thread t tx (Reserved tx number) got refl by on

  pub uncommitted_is : (result : Bool) → (IsTrue result ↔ HasSeatOn segment page seats) → s.place segment ≡ At n → result ≡ list_any (sets_on segment page) (holders s)
  uncommitted_is result is here_is = same_truth result (list_any (sets_on segment page) (holders s))
      (λ told. let some = is.0 told in seat_holder some.0 some.1 some.2 some.3)
      (λ some. let one = any_found (sets_on segment page) (holders s) some in is.1 (holder_seat one.0 here_is one.1))

  -- which bytes the page shows here

  module _ (none : list_any (sets_on segment page) (holders s) ≡ false) where
    abbrev content : Content
    content = value m.start s.earlier s.history

    unset_by : (q : Transaction → Bool) (xs ys : List Transaction) (t : Transaction) → list_any (sets_on segment page) (xs ++ ys) ≡ false → find q xs ≡ Some t → sets_on segment page t ≡ false
    unset_by q xs ys t none found = found-all q (λ u. sets_on segment page u ≡ false) xs t found (All-left (λ u. sets_on segment page u ≡ false) xs ys (none_of (sets_on segment page) (xs ++ ys) none))

    writer_unset : (o : Option Transaction) → open_writer segment s ≡ o → page_bytes segment page (content_with m s o) ≡ page_bytes segment page content
    writer_unset None is = refl
    writer_unset (Some t) is =
        let proper = found-all (λ u. locks u segment) (IsProper m.geometry) s.running t is sound.running_proper in
        let unset = unset_by (λ u. locks u segment) s.running (unclosed s.history) t none is in
        same_window 256 (page * 256) (segment_of segment (content_with m s (Some t))) (segment_of segment content) (λ k from to.
        byte-unset segment k t.marks t.writes content proper.well.write_set
        (false_from_ne_true (all_set k 1 (segment_of segment t.marks)) (λ set. true≢false (sym (place_on segment page k t from to set) ∙ unset))))

    -- that of the content
    pub page_shown : IsHere the_images here segment → page_of (bytes_of the_images here segment) page ≡ page_bytes segment page content
    page_shown is = ap (λ (bytes : List ℕ). page_of bytes page) (here_shows m n here seats s sound h segment is) ∙ writer_unset (open_writer segment s) refl
