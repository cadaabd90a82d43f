-- A step of a page write: the node and the area go on together.
use Rattle.std.proofs.Common.{◌≡◌, ℕ, suc, ◌+◌, ◌-◌, ◌*◌, ◌<◌, ◌≤◌, Bool, true, false, List, [], ◌∷◌, Option, Some, None, length, drop, refl, sym, ap, subst, ◌∙◌, inl, inr, arith, true≢false}
use Rattle.std.specs.Prelude.{◌&&◌, nat_le, slice_get, slice_set, vec_len, Err, IsSome, Ok}
use Rattle.std.specs.List.{list_any}
use Rattle.std.proofs.lemmas.Bool.{cases_eq, leb-true, lt-leb, ltb-false, ltb-true, and_parts as and-both}
use Rattle.std.proofs.lemmas.List.{length-drop, length-take-le}
use Rattle.std.proofs.lemmas.Option.{same_Some as same_some}
use Rattle.lc_disk.specs.declared.area.Area.{Ghosts}
use Rattle.lc_page.specs.Page.{Page}
use Rattle.lc_page.specs.PageVector.{entry_at}
use Rattle.lc_page.specs.PageWrite.{IsBegun}
use Rattle.lc_page.specs.declared.draft.Draft.{Draft}
use Rattle.lc_page.specs.declared.writing.Writing.{Writing}
use Rattle.lc_record.specs.Geometry.{segment_len}
use Rattle.lc_record.specs.declared.geometry.Geometry.{Geometry}
use Rattle.lc_record.proofs.ListLemmas.{slice_get_some as some_at, slice_get-map_some as get-map, some_from_is_some as some_token}
use Rattle.lc_token.specs.Token.{IsWritten}
use Rattle.lc_token.specs.declared.token.Token.{Token}
use Rattle.lc_token.specs.KnownClean.{Sees}
use Rattle.lc_token.proofs.NumberLemmas.{token-number}
use Rattle.lc_model.specs.History.{transactions, reserved}
use Rattle.lc_model.specs.Machine.{halting, may_page}
use Rattle.lc_model.specs.Merge.{Page as StorePage}
use Rattle.lc_model.specs.Moves.{page_now}
use Rattle.lc_model.specs.Refusals.{are_known, by_node, common_refusal, is_at, is_node, is_page, is_segment}
use Rattle.lc_model.specs.Sound.{Sound, holders}
use Rattle.lc_model.specs.State.{At, Setting, State}
use Rattle.lc_model.specs.Stored.{page_bytes}
use Rattle.lc_model.specs.declared.event.Event.{Event}
use Rattle.lc_model.specs.declared.event.Event.TheVariants.{PageStep}
use Rattle.lc_model.specs.declared.refusal.Refusal.TheVariants.{DeviceFault}
use Rattle.lc_model.specs.declared.reply.Reply.{Reply}
use Rattle.lc_model.specs.declared.reply.Reply.TheVariants.{Refused, Stepped, Written}
use Rattle.lc_model.proofs.Keeps.{acked-reserved}
use Rattle.lc_model.proofs.Law.{effects-append}
use Rattle.lc_model.proofs.Rows.{known, not_halted}
use Rattle.lc_model.proofs.Seats.{update-own}
use Rattle.lc_tx.specs.Images.{IsHere, bytes_of}
use Rattle.lc_desk.specs.Drafts.{IsDraft, MayDraft}
use Rattle.lc_journal.specs.Follows.{FitsJournal}
use Rattle.lc_desk.specs.Here.{beside, image_at, number_at, number_in, the_images}
use Rattle.lc_desk.specs.Leaves.{HasToken}
use Rattle.lc_events.specs.NodeState.{FitsNode, GoesOn}
use Rattle.lc_settled.specs.Numbers.{Numbers, sets_on, stable, token_number}
use Rattle.lc_desk.specs.Pages.{BeginsIn, FitsArea, FollowsBegin, FollowsNext, IsOfNow, StepsIn, TellsNumbers}
use Rattle.lc_events.specs.Paging.{HaltsFailed}
use Rattle.lc_desk.specs.Places.{get_set_other, get_set_same}
use Rattle.lc_settled.specs.Settled.{Settled, begun_number, is_unflushed, page_call}
use Rattle.lc_desk.specs.Showing.{page_of}
use Rattle.lc_desk.specs.Slots.{FitsToken}
use Rattle.lc_settled.specs.Turns.{Turns, called, page_settled, written}
use Rattle.lc_desk.specs.declared.desk.Desk.{Desk}
use Rattle.lc_desk.specs.declared.here.Here.{Here}
use Rattle.lc_journal.specs.declared.journal.Journal.{Journal}
use Rattle.lc_events.specs.declared.node_state.NodeState.{NodeState}
use Rattle.lc_desk.specs.declared.page_progress.PageProgress.TheVariants.{Stepped as HasStepped, Written as HasWritten}
use Rattle.lc_desk.specs.declared.page_state.PageState.{PageState}
use Rattle.lc_desk.specs.declared.page_state.PageState.TheVariants.{AtRest, UnderWay, Failed}
use Rattle.lc_page.specs.declared.fault.PageFault.{PageFault}
use Rattle.lc_desk.specs.declared.pages.Pages.{Pages}
use Rattle.lc_desk.specs.declared.segment_copy.SegmentCopy.{SegmentCopy}
use Rattle.lc_events.proofs.Calling.{by_calls, called_same, nothing_called}
use Rattle.lc_events.proofs.Emptying.{stays_itself, stays_or_halts}
use Rattle.lc_events.proofs.NodeWritten.{by_written}
use Rattle.lc_events.proofs.OnPages.{page_shown}
use Rattle.lc_events.proofs.PageAnswers.{fault_row, first_call, later_call, last_call, settled_fault, settled_here, stepped_row}
use Rattle.lc_desk.proofs.PageCalls.{few_calls, some_calls}
use Rattle.lc_desk.proofs.PageWrites.{area_same}
use Rattle.lc_events.proofs.PageWrites.{same_at}

-- what the event names is known
pub page_known : (g : Geometry) (node segment page : ℕ) → are_known g (by_node node (segment ∷ []) (page ∷ [])) ≡ true → (1 ≤ segment) × (segment ≤ g.segments) × (page < g.pages)
page_known g node segment page h =
    let a = and-both (is_node g node && true && true && (is_segment g segment && true)) (is_page g page && true) h in
    let b = and-both (is_node g node && true && true) (is_segment g segment && true) a.0 in
    let c = and-both (is_segment g segment) true b.1 in
    let d = and-both (nat_le 1 segment) (nat_le segment g.segments) c.0 in
    let e = and-both (is_page g page) true a.1 in
    (leb-true 1 segment d.0, leb-true segment g.segments d.1, ltb-true page g.pages e.0)

pub record Stood (here : Here) (segment : ℕ) : Type 0 where
  pub slot : SegmentCopy
  pub at : slice_get here.slots.items (segment - 1) ≡ Some slot
  pub token : Token
  pub stands : slot.token.token ≡ Some token

pub stood : (here : Here) (segment : ℕ) → 1 ≤ segment → segment ≤ vec_len here.slots → ((slot : SegmentCopy) → slice_get here.slots.items (segment - 1) ≡ Some slot → IsSome slot.token.token) → Stood here segment
stood here segment first within some =
    let its = some_at here.slots.items (segment - 1) (omega (arith, first, within, here.slots.ok.0)) in
    let token = some_token its.0.token.token (some its.0 its.1) in
    record { slot = its.0; at = its.1; token = token.0; stands = token.1 }

-- no page that is set to something else has failed by that
others_failed : (olds : List PageState) (page : ℕ) (was state : PageState) (P : Type 0) → slice_get olds page ≡ Some was → (state ≡ Failed → ⊥) → ((other : ℕ) → slice_get olds other ≡ Some Failed → P)
    → (other : ℕ) → slice_get (slice_set olds page state) other ≡ Some Failed → P
others_failed olds page was state P at works all other got = elim (cases_eq other page) [
  | inl same ↦ absurd (works (same_some state Failed (sym (get_set_same olds page was state at) ∙ subst (λ (k : ℕ). slice_get (slice_set olds page state) k ≡ Some Failed) same got)))
  | inr differ ↦ all other (sym (get_set_other olds page other state differ) ∙ got)
]

module _ {D : Type 0} (a : Ghosts D) (m : Setting) (n segment page : ℕ) (s : State) (x : Numbers) (sound : Sound m.geometry s) (common : common_refusal m.geometry s (PageStep n segment page) ≡ None)
    (old : NodeState D a) (h : FitsNode a m n old s x) (olds : Pages D a) (area : FitsArea a m.geometry segment olds x) where
  abbrev event : Event
  event = PageStep n segment page

  abbrev pub Goes : Reply → NodeState D a → Pages D a → Type 0
  Goes reply new news = (goes : GoesOn a m n event s x reply new) × FitsArea a m.geometry segment news goes.next × HaltsFailed a goes.after segment news

  its_known : (1 ≤ segment) × (segment ≤ m.geometry.segments) × (page < m.geometry.pages)
  its_known = page_known m.geometry n segment page (known m.geometry s event common)

  segment_is : segment ≡ suc (segment - 1)
  segment_is = omega (arith, its_known.0)

  -- where nothing changes
  pub page_stays : (reply : Reply) → may_page reply ≡ true → Settled m s x event reply → Turns m s x event reply x → HaltsFailed a s segment olds → Goes reply old olds
  unfolding by_calls
  page_stays reply may settled turns halts = (by_calls a m n event s x reply s x (stays_itself n s) (nothing_called x) (inl (may, refl)) settled turns old old.journal h refl refl h.journal, area, halts)

  module _ (slot : SegmentCopy) (at : slice_get old.desk.here.slots.items (segment - 1) ≡ Some slot) where
    number_there : the_images.number_of old.desk.here segment ≡ number_in slot.token.token
    number_there = ap (the_images.number_of old.desk.here) segment_is ∙ ap number_at at

    image_there : the_images.image_of old.desk.here segment ≡ slot.image
    image_there = ap (the_images.image_of old.desk.here) segment_is ∙ ap (image_at old.desk.here.spare) at

    -- the token is elsewhere
    pub is_away : slot.token.token ≡ None → is_at n (s.place segment) ≡ false
    is_away none = h.desk.elsewhere segment its_known.0 its_known.1 (number_there ∙ ap number_in none)

    -- it stands here
    module _ (token : Token) (stands : slot.token.token ≡ Some token) where
      is_here : IsHere the_images old.desk.here segment
      is_here = subst (λ (o : Option ℕ). IsSome o) (sym (number_there ∙ ap number_in stands)) refl

      pub place_is : s.place segment ≡ At n
      place_is = h.desk.places segment is_here

      -- so no page of it has failed
      pub none_failed : HaltsFailed a s segment olds → slice_get olds.writes.items page ≡ Some Failed → ⊥
      none_failed halts failed =
          let node = halts page failed in
          let same : n ≡ node.0 = (let both : At n ≡ At node.0 = sym place_is ∙ node.1 in cc) in
          true≢false (sym node.2 ∙ ap s.halted (sym same) ∙ not_halted m.geometry s event common)

      token_fits : FitsToken m segment token s x
      token_fits =
          let next : (segment - 1) + 1 ≡ segment = omega (arith, its_known.0) in
          subst (λ (i : ℕ). FitsToken m i token s x) next ((h.slots.each (segment - 1) (beside slot) (get-map beside old.desk.here.slots.items (segment - 1) slot at)).token token stands).0

      bytes_there : bytes_of the_images old.desk.here segment ≡ slot.image.bytes.items
      bytes_there = ap (λ p. p.bytes.items) image_there

      pub may_draft : MayDraft page token slot
      may_draft =
          let long : length slot.image.bytes.items ≡ segment_len m.geometry = ap length (sym bytes_there) ∙ h.desk.sizes segment is_here in
          let pages : length token.pages ≡ m.geometry.pages = token_fits.pages in
          let behind = length-drop (page * 256) slot.image.bytes.items in
          record {
            within = omega (arith, pages, its_known.2);
            small = token_fits.small;
            free = token_fits.uncounted page its_known.2;
            whole = length-take-le 256 (drop (page * 256) slot.image.bytes.items) (omega (arith, long, behind, its_known.2));
          }

      -- the token's number and the page's
      number_now : token.seq ≡ token_number s x segment
      number_now = token_fits.number

      stable_now : (entry_at token.pages page).stable ≡ stable x segment page
      stable_now = token_fits.stable_is page its_known.2

      pub is_old : token.seq ≤ (entry_at token.pages page).stable → token_number s x segment ≤ stable x segment page
      is_old old = omega (arith, old, number_now, stable_now)

      -- The first call

      module _ (rest : slice_get olds.writes.items page ≡ Some AtRest) where
        pub no_calls : x.calls segment page ≡ 0
        no_calls = (area.each page AtRest rest).no_calls

        module _ (draft : Draft) (gate : Bool) (is : IsDraft page token slot draft gate) (free : list_any (sets_on segment page) (holders s) ≡ false) (flushed : is_unflushed s n ≡ false) where
          all : s.ack n ≡ reserved n s.history
          all = (let most = acked-reserved m.geometry s n sound in let least = ltb-false (s.ack n) (reserved n s.history) flushed in omega (arith, most, least))

          of_now : IsOfNow m s segment draft gate x
          of_now =
              let Of : ℕ → List ℕ → Page = λ number bytes. record { sequence = number; content = bytes } in
              let seq_is : draft.seq ≡ (page_now m s x.disks segment draft.page).sequence = is.seq_is ∙ number_now ∙ token-number m s x.disks segment n sound place_is all in
              let bytes_is : draft.bytes ≡ (page_now m s x.disks segment draft.page).bytes =
              is.bytes_are ∙ ap (λ bytes. page_of bytes page) (sym bytes_there) ∙ page_shown m n old.desk.here old.desk.seats.items s sound h.desk segment page free is_here
              ∙ ap (page_bytes segment page) (effects-append s.earlier (transactions s.history) m.start)
              ∙ ap (λ k. (page_now m s x.disks segment k).bytes) (sym is.page_is) in
              record {
                text_is = ap (λ number. Of number draft.bytes) seq_is ∙ ap (Of (page_now m s x.disks segment draft.page).sequence) bytes_is;
                begun = subst (λ (k : ℕ). IsBegun draft gate (x.texts segment k)) (sym is.page_is) (subst (IsBegun draft gate) (token_fits.text_is page its_known.2) is.begun);
              }

          answer_is : page_call s x n segment page 0 ≡ Stepped 1
          answer_is = first_call m s x n segment page free flushed (lt-leb (token_number s x segment) (stable x segment page) (let newer = is.newer in omega (arith, newer, number_now, stable_now)))

          fits_called : (news : Pages D a) → FollowsBegin a olds draft gate news → FitsArea a m.geometry segment news (called m s x segment page 1)
          fits_called news follows = subst (λ (k : ℕ). FitsArea a m.geometry segment news (called m s x segment k 1)) is.page_is
              (follows m s segment x area (ap (slice_get olds.writes.items) is.page_is ∙ rest) of_now)

          pub page_begins : (news : Pages D a) → FollowsBegin a olds draft gate news → BeginsIn olds.writes.items draft true news.writes.items → HaltsFailed a s segment olds → Goes (Stepped 1) old news
          unfolding by_calls
          page_begins news follows begins halts =
              let y : Numbers = called m s x segment page 1 in (
                by_calls a m n event s x (Stepped 1) s y (stays_itself n s) (called_same m s segment page x 1) (stepped_row m s x n segment page 1 (omega arith) (omega arith))
                    (settled_here m s x n segment page place_is 0 no_calls (Stepped 1) answer_is) refl old old.journal h refl refl h.journal,
                fits_called news follows,
                λ other failed. others_failed olds.writes.items page AtRest (UnderWay begins.0) ((node : ℕ) × (s.place segment ≡ At node) × (s.halted node ≡ true)) rest (λ no. absurd cc) halts other
                    (ap (λ (k : ℕ). slice_get (slice_set olds.writes.items k (UnderWay begins.0)) other) (sym is.page_is) ∙ ap (λ (l : List PageState). slice_get l other) (sym begins.3) ∙ failed),
              )

          pub begin_halts : (news : Pages D a) (new : Journal D a) → FollowsBegin a olds draft gate news → new.group.room ≡ old.journal.group.room → new.round ≡ old.journal.round → FitsJournal a m n new (halting s n) x
              → Goes (Refused DeviceFault) (record { desk = old.desk; journal = new; known = old.known }) news
          unfolding by_calls
          begin_halts news new follows room round journal =
              let y : Numbers = called m s x segment page (x.calls segment page + 1) in
              let one : 1 ≡ x.calls segment page + 1 = omega (arith, no_calls) in (
                by_calls a m n event s x (Refused DeviceFault) (halting s n) y (stays_or_halts n s) (called_same m s segment page x (x.calls segment page + 1)) (fault_row m s x n segment page)
                    (settled_fault m s x n segment page place_is 0 no_calls (Stepped 1) answer_is (inr (refl, refl))) refl old new h room round journal,
                subst (λ (k : ℕ). FitsArea a m.geometry segment news (called m s x segment page k)) one (fits_called news follows),
                λ other failed. (n, place_is, update-own s.halted n true),
              )

      -- The next call

      module _ (write : Writing) (there : slice_get olds.writes.items page ≡ Some (UnderWay write)) (news : Pages D a) where
        pub page_goes_on : (calls : ℕ) → FollowsNext a olds page (Ok (HasStepped calls)) news → TellsNumbers a olds page (Ok (HasStepped calls))
            → StepsIn olds.writes.items page write (Ok (HasStepped calls)) news.writes.items → HaltsFailed a s segment olds → Goes (Stepped calls) old news
        unfolding by_calls
        page_goes_on calls follows tells steps halts =
            let made = tells m.geometry segment x area in
            let y : Numbers = called m s x segment page calls in (
              by_calls a m n event s x (Stepped calls) s y (stays_itself n s) (called_same m s segment page x calls)
                  (stepped_row m s x n segment page calls (omega (arith, made.0)) (omega (arith, made.0, made.2)))
                  (settled_here m s x n segment page place_is (x.calls segment page) refl (Stepped calls)
                  (later_call m s x n segment page (x.calls segment page) made.1 made.2 ∙ ap (λ (k : ℕ). Stepped k) (sym made.0)))
                  refl old old.journal h refl refl h.journal,
              follows m s segment x area,
              λ other failed. others_failed olds.writes.items page (UnderWay write) (UnderWay steps.0) ((node : ℕ) × (s.place segment ≡ At node) × (s.halted node ≡ true)) there (λ no. absurd cc) halts other
                  (ap (λ (l : List PageState). slice_get l other) (sym steps.4) ∙ failed),
            )

        -- The last

        pub page_is_over : (number : ℕ) → FollowsNext a olds page (Ok (HasWritten number)) news → TellsNumbers a olds page (Ok (HasWritten number))
            → StepsIn olds.writes.items page write (Ok (HasWritten number)) news.writes.items → HaltsFailed a s segment olds
            → (new : Desk) (known : List ℕ) (after : Token) → IsWritten token page number after → HasToken segment slot (Some after) old.desk new → Sees old.known after known
            → Goes (Written number) (record { desk = new; journal = old.journal; known = known }) news
        unfolding by_written
        page_is_over number follows tells steps halts new known after is moved sees =
            let its = area.each page (UnderWay write) there in
            let text = its.begun.text in
            let begun = its.begun.begun in
            let made = tells m.geometry segment x area in
            let number_is : number ≡ text.sequence = made.1 ∙ ap begun_number begun in
            let settled : Settled m s x event (Written text.sequence) =
            settled_here m s x n segment page place_is (x.calls segment page) refl (Written text.sequence)
            (last_call m s x n segment page (x.calls segment page) made.0 ∙ ap (λ (o : Option StorePage). Written (begun_number o)) begun) in
            subst (λ (k : ℕ). Goes (Written k) (record { desk = new; journal = old.journal; known = known }) news) (sym number_is) (
              by_written m s x n segment page text begun its_known.2 its_known.0 slot token after (subst (λ (k : ℕ). IsWritten token page k after) number_is is) a old new known stands place_is h moved sees settled,
              area_same a m.geometry segment news (page_settled x segment page) (written m.geometry s x n segment page) (λ other. same_at segment other (page_settled x segment page) (written m.geometry s x n segment page) refl)
                  (follows m s segment x area),
              λ other failed. others_failed olds.writes.items page (UnderWay write) AtRest ((node : ℕ) × (s.place segment ≡ At node) × (s.halted node ≡ true)) there (λ no. absurd cc) halts other
                  (ap (λ (l : List PageState). slice_get l other) (sym steps.2) ∙ failed),
            )

        -- A fault in its place

        fault_settled : Settled m s x event (Refused DeviceFault)
        fault_settled =
            let its = area.each page (UnderWay write) there in
            let made : x.calls segment page ≡ _ = its.begun.calls_are in
            let some : 1 ≤ x.calls segment page = omega (arith, made, some_calls write) in
            let few : x.calls segment page ≤ 5 = omega (arith, made, few_calls write) in
            elim (cases_eq (x.calls segment page) 5) [
              | inl five ↦ settled_fault m s x n segment page place_is (x.calls segment page) refl (Written (begun_number (x.disks.begun segment page)))
                  (last_call m s x n segment page (x.calls segment page) five) (inr (refl, refl))
              | inr less ↦ settled_fault m s x n segment page place_is (x.calls segment page) refl (Stepped (x.calls segment page + 1))
                  (later_call m s x n segment page (x.calls segment page) some (omega (arith, few, less))) (inr (refl, refl))
            ]

        pub call_halts : (new : Journal D a) (fault : PageFault) → FollowsNext a olds page (Err fault) news → new.group.room ≡ old.journal.group.room → new.round ≡ old.journal.round → FitsJournal a m n new (halting s n) x
            → Goes (Refused DeviceFault) (record { desk = old.desk; journal = new; known = old.known }) news
        unfolding by_calls
        call_halts new fault follows room round journal =
            let y : Numbers = called m s x segment page (x.calls segment page + 1) in (
              by_calls a m n event s x (Refused DeviceFault) (halting s n) y (stays_or_halts n s) (called_same m s segment page x (x.calls segment page + 1)) (fault_row m s x n segment page)
                  fault_settled refl old new h room round journal,
              follows m s segment x area,
              λ other failed. (n, place_is, update-own s.halted n true),
            )
