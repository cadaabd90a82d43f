-- A token that leaves or comes, at a node's desk.
use Rattle.std.proofs.Common.{◌≡◌, ◌≢◌, ℕ, zero, suc, true, false, List, length, Option, Some, None, refl, sym, ap, subst, ◌∙◌, inl, inr, true≢false}
use Rattle.std.specs.Prelude.{slice_get, slice_set, IsSome, if◌then◌else◌}
use Rattle.std.specs.Vec.{with_item}
use Rattle.std.proofs.lemmas.Bool.{cases_eq, eq-eqb, ne_eqb}
use Rattle.lc_record.specs.Content.{Content, segment_of}
use Rattle.lc_record.specs.Geometry.{segment_len}
use Rattle.lc_model.specs.History.{value}
use Rattle.lc_model.specs.Machine.{placed}
use Rattle.lc_model.specs.Refusals.{is_at}
use Rattle.lc_model.specs.State.{Place, At, Setting, State, update}
use Rattle.lc_token.specs.declared.token.Token.{Token}
use Rattle.lc_tx.specs.Holders.{reads, writer_of, is_free}
use Rattle.lc_tx.specs.Images.{IsHere, bytes_of, holders_of}
use Rattle.lc_tx.specs.Tx.{Holds, Locked, Reads, KeepsLocked}
use Rattle.lc_tx.specs.declared.holders.Holders.{Holders}
use Rattle.lc_tx.specs.declared.holders.Holders.TheVariants.{Free as Unheld, Writer, Readers}
use Rattle.lc_tx.specs.declared.image.Image.{Image as Picture}
use Rattle.lc_tx.specs.declared.tx.Tx.{Tx}
use Rattle.lc_tx.proofs.BesideLemmas.{runs_beside}
use Rattle.lc_tx.proofs.HoldsLemmas.{held_cases, locked_holds, reads_holds}
use Rattle.lc_desk.specs.Places.{get_set_other, get_set_same}
use Rattle.lc_desk.specs.Here.{the_images, number_in, number_at, image_at}
use Rattle.lc_desk.specs.Seat.{Seat, holder_of}
use Rattle.lc_desk.specs.Seats.{Runs, AllRun}
use Rattle.lc_desk.specs.Desk.{FitsDesk, Sits}
use Rattle.lc_desk.specs.Leaves.{with_token}
use Rattle.lc_desk.specs.declared.here.Here.{Here}
use Rattle.lc_desk.specs.declared.segment_copy.SegmentCopy.{SegmentCopy}
use Rattle.lc_desk.proofs.Dropping.{seat_beside}

-- the place with another token in it
abbrev pub with_standing : Here → ℕ → SegmentCopy → Option Token → Here
with_standing here k slot token = record here { slots = with_item here.slots k (with_token slot token) }

-- what is free of locks is read by nobody
pub unheld-reads : (held : Holders) (thread : ℕ) → held ≡ Unheld → reads held thread ≡ true → ⊥
unheld-reads held thread free reader = true≢false (sym reader ∙ ap (λ (o : Holders). reads o thread) free)

pub free-is : (held : Holders) → is_free held ≡ true → held ≡ Unheld
free-is Unheld is = refl
free-is (Writer thread) is = absurd (true≢false (sym is))
free-is (Readers readers) is = absurd (true≢false (sym is))

pub not-free : (held : Holders) → is_free held ≡ false → held ≢ Unheld
not-free held is free = true≢false (ap is_free (sym free) ∙ is)

update_own : (f : ℕ → Place) (k : ℕ) (to : Place) → update f k to k ≡ to
update_own f k to = ap (λ b. if b then to else f k) (eq-eqb k k refl)

update_other : (f : ℕ → Place) (k j : ℕ) (to : Place) → j ≢ k → update f k to j ≡ f j
update_other f k j to differ = ap (λ b. if b then to else f j) (ne_eqb j k differ)

module _ (here : Here) (k : ℕ) (slot : SegmentCopy) (at : slice_get here.slots.items k ≡ Some slot) (token : Option Token) where
  abbrev there : Here
  there = with_standing here k slot token

  number_own : the_images.number_of there (suc k) ≡ number_in token
  number_own = ap number_at (get_set_same here.slots.items k slot (with_token slot token) at)

  number_other : (other : ℕ) → other ≢ suc k → the_images.number_of there other ≡ the_images.number_of here other
  number_other zero differ = refl
  number_other (suc j) differ = ap number_at (get_set_other here.slots.items k j (with_token slot token) (λ e. differ (ap suc e)))

  pub same_picture : (other : ℕ) → the_images.image_of there other ≡ the_images.image_of here other
  same_picture zero = refl
  same_picture (suc j) = elim (cases_eq j k) [
    | inl same ↦ subst (λ (n : ℕ). image_at here.spare (slice_get (slice_set here.slots.items k (with_token slot token)) n) ≡ image_at here.spare (slice_get here.slots.items n)) (sym same)
        (ap (image_at here.spare) (get_set_same here.slots.items k slot (with_token slot token) at) ∙ ap (image_at here.spare) (sym at))
    | inr differ ↦ ap (image_at here.spare) (get_set_other here.slots.items k j (with_token slot token) differ)
  ]

  was_here : (other : ℕ) → other ≢ suc k → IsHere the_images there other → IsHere the_images here other
  was_here other differ is = subst (λ (o : Option ℕ). IsSome o) (number_other other differ) is

  still_here : (other : ℕ) → other ≢ suc k → IsHere the_images here other → IsHere the_images there other
  still_here other differ is = subst (λ (o : Option ℕ). IsSome o) (sym (number_other other differ)) is

  same_bytes : (other : ℕ) → bytes_of the_images there other ≡ bytes_of the_images here other
  same_bytes other = ap (λ (p : Picture). p.bytes.items) (same_picture other)

  same_holders : (other : ℕ) → holders_of the_images there other ≡ holders_of the_images here other
  same_holders other = ap (λ (p : Picture). p.holders) (same_picture other)

  module _ (seats : List Seat) (runs : AllRun here seats) (free : (j : ℕ) (tx : Tx) → Runs here j tx → Holds tx (suc k) → ⊥) where
    keeps : (j : ℕ) (tx : Tx) → Runs here j tx → KeepsLocked the_images here there tx
    keeps j tx on = record {
      here = λ other lock. still_here other (λ e. free j tx on (subst (λ (n : ℕ). Holds tx n) e (locked_holds tx other lock))) (on.runs.here other lock);
      same_image = λ other lock. same_picture other;
      read_here = λ other read. still_here other (λ e. free j tx on (subst (λ (n : ℕ). Holds tx n) e (reads_holds tx other read))) (on.runs.read_here other read);
      same_bytes = λ other read. same_bytes other;
      still_reads = λ other read. ap (λ (o : Holders). reads o tx.thread) (same_holders other) ∙ on.runs.reads other read;
    }

    pub runs_moved : AllRun there seats
    runs_moved j tx has = (let on = runs j tx has in record { own = on.own; runs = runs_beside the_images here there tx on.runs (keeps j tx on) })

    module _ (m : Setting) (node : ℕ) (s : State) (h : FitsDesk m node here seats s) (to : Place) where
      abbrev content : Content
      content = value m.start s.earlier s.history

      -- what has to hold where the token is here now
      pub record Comes : Type 0 where
        pub placed_here : to ≡ At node
        pub shown : slot.image.bytes.items ≡ segment_of (suc k) content
        pub unheld : slot.image.holders ≡ Unheld
        pub size : length slot.image.bytes.items ≡ segment_len m.geometry

      by_place : (P : ℕ → Type 0) (other : ℕ) → P (suc k) → (other ≢ suc k → P other) → P other
      by_place P other own differ = elim (cases_eq other (suc k)) [
        | inl same ↦ subst P (sym same) own
        | inr other_one ↦ differ other_one
      ]

      module _ (comes : IsSome (number_in token) → Comes) (away : number_in token ≡ None → is_at node to ≡ false) where
        own_comes : IsHere the_images there (suc k) → Comes
        own_comes is = comes (subst (λ (o : Option ℕ). IsSome o) number_own is)

        own_picture : the_images.image_of there (suc k) ≡ slot.image
        own_picture = same_picture (suc k) ∙ ap (image_at here.spare) at

        own_unheld : IsHere the_images there (suc k) → holders_of the_images there (suc k) ≡ Unheld
        own_unheld is = ap (λ (p : Picture). p.holders) own_picture ∙ (own_comes is).unheld

        pub desk_moved : FitsDesk m node there seats (placed s (suc k) to)
        desk_moved = record {
          all_seats = h.all_seats;
          shape = h.shape;
          threads = λ j seat got. seat_beside here there node j content s (placed s (suc k) to) seat (h.threads j seat got) refl refl
              (λ tx has. (let on = runs j tx (ap holder_of got ∙ has) in (on.runs, keeps j tx on)));
          shown = λ other. by_place (λ n. IsHere the_images there n → writer_of (holders_of the_images there n) ≡ None → bytes_of the_images there n ≡ segment_of n content) other
              (λ is none. ap (λ (p : Picture). p.bytes.items) own_picture ∙ (own_comes is).shown)
              (λ differ is none. same_bytes other ∙ h.shown other (was_here other differ is) (ap writer_of (sym (same_holders other)) ∙ none));
          sizes = λ other. by_place (λ n. IsHere the_images there n → length (bytes_of the_images there n) ≡ segment_len m.geometry) other
              (λ is. ap (λ (p : Picture). length p.bytes.items) own_picture ∙ (own_comes is).size)
              (λ differ is. ap length (same_bytes other) ∙ h.sizes other (was_here other differ is));
          writer = λ other thread. by_place (λ n. IsHere the_images there n → writer_of (holders_of the_images there n) ≡ Some thread → (tx : Tx) × Sits seats thread tx × Locked tx n) other
              (λ is writes. absurd (let no : None ≡ Some thread = ap writer_of (sym (own_unheld is)) ∙ writes in cc))
              (λ differ is writes. h.writer other thread (was_here other differ is) (ap writer_of (sym (same_holders other)) ∙ writes));
          readers = λ other thread. by_place (λ n. IsHere the_images there n → reads (holders_of the_images there n) thread ≡ true → (tx : Tx) × Sits seats thread tx × Reads tx n) other
              (λ is reader. absurd (unheld-reads (holders_of the_images there (suc k)) thread (own_unheld is) reader))
              (λ differ is reader. h.readers other thread (was_here other differ is) (ap (λ (o : Holders). reads o thread) (sym (same_holders other)) ∙ reader));
          places = λ other. by_place (λ n. IsHere the_images there n → update s.place (suc k) to n ≡ At node) other
              (λ is. update_own s.place (suc k) to ∙ (own_comes is).placed_here)
              (λ differ is. update_other s.place (suc k) other to differ ∙ h.places other (was_here other differ is));
          elsewhere = λ other first last. by_place (λ n. the_images.number_of there n ≡ None → is_at node (update s.place (suc k) to n) ≡ false) other
              (λ none. ap (is_at node) (update_own s.place (suc k) to) ∙ away (sym number_own ∙ none))
              (λ differ none. ap (is_at node) (update_other s.place (suc k) other to differ) ∙ h.elsewhere other first last (sym (number_other other differ) ∙ none));
        }

-- a free segment is no seat's transaction's
pub unheld-free : (here : Here) (segment j : ℕ) (tx : Tx) → holders_of the_images here segment ≡ Unheld → Runs here j tx → Holds tx segment → ⊥
unheld-free here segment j tx free on held = elim (held_cases tx segment held) [
  | inl lock ↦ absurd (let no : Writer tx.thread ≡ Unheld = sym (on.runs.holds segment lock) ∙ free in cc)
  | inr read ↦ unheld-reads (holders_of the_images here segment) tx.thread free (on.runs.reads segment read)
]

-- nor is one that is not here
pub away-free : (here : Here) (segment j : ℕ) (tx : Tx) → the_images.number_of here segment ≡ None → Runs here j tx → Holds tx segment → ⊥
away-free here segment j tx none on held =
    let is : IsHere the_images here segment = elim (held_cases tx segment held) [
      | inl lock ↦ on.runs.here segment lock
      | inr read ↦ on.runs.read_here segment read
    ] in
    elim (the_images.number_of here segment) as (λ (o : Option ℕ). o ≡ None → IsSome o → ⊥) [
      | None ↦ λ e some. absurd cc
      | Some n ↦ λ e some. absurd cc
    ] none is
