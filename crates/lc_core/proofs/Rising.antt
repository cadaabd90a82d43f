-- What comes up after a recovery fits the machine's fresh state.
use Rattle.std.proofs.Common.{◌≡◌, ℕ, zero, suc, ◌+◌, ◌-◌, ◌*◌, ◌%◌, ◌<◌, ◌≤◌, Bool, true, false, ◌==◌, List, [], ◌++◌, map, length, take, drop, replicate, All, Option, Some, None, refl, sym, ap, subst, ◌∙◌, inl, inr, arith, eqb-true, true≢false}
use Rattle.std.specs.Prelude.{◌^◌, slice_get, IsSome, if◌then◌else◌}
use Rattle.std.specs.List.{flat_map}
use Rattle.std.proofs.Math.ListN.{drop_of_length-le}
use Rattle.std.proofs.Math.Nat.{le_refl}
use Rattle.std.proofs.Math.Seq.{take-nil}
use Rattle.std.proofs.lemmas.List.{append-nil, drop-drop, length-map, length-replicate, take-append-drop}
use Rattle.std.proofs.lemmas.List.Elements.{All-nil}
use Rattle.std.proofs.lemmas.Option.{get_or_from_slice_get, slice_get_within, same_Some as same_some}
use Rattle.lc_disk.specs.declared.area.Area.{Ghosts}
use Rattle.lc_page.specs.PageVector.{entry_at, entry_text, new_entry, no_entry}
use Rattle.lc_page.specs.declared.page_entry.PageEntry.{PageEntry}
use Rattle.lc_record.specs.Content.{Content, segment_of}
use Rattle.lc_record.specs.Geometry.{segment_len}
use Rattle.lc_record.specs.Marks.{counting}
use Rattle.lc_record.specs.Transaction.{Transaction, effects}
use Rattle.lc_record.specs.declared.geometry.Geometry.{Geometry}
use Rattle.lc_record.specs.declared.part.Part.{Part}
use Rattle.lc_record.proofs.ListLemmas.{slice_get_some as get-some, length-counting, slice_get-map_some as get-map, slice_get_from_map as from-map}
use Rattle.lc_token.specs.Backlog.{Backlog, Ascends}
use Rattle.lc_token.specs.Standing.{Standing}
use Rattle.lc_token.specs.declared.token.Token.{Token}
use Rattle.lc_tx.specs.Holders.{reads, writer_of}
use Rattle.lc_tx.specs.Images.{IsHere, bytes_of, holders_of}
use Rattle.lc_tx.specs.declared.holders.Holders.{Holders}
use Rattle.lc_tx.specs.declared.holders.Holders.TheVariants.{Free as Unheld}
use Rattle.lc_tx.specs.declared.image.Image.{Image as Picture}
use Rattle.lc_model.specs.History.{value}
use Rattle.lc_model.specs.Merge.{Page, IsMerged}
use Rattle.lc_model.specs.Recovered.{AreRenewed, recovered_disks}
use Rattle.lc_model.specs.Refusals.{is_at}
use Rattle.lc_model.specs.Sound.{Sound}
use Rattle.lc_model.specs.State.{At, Up, Setting, State, fresh}
use Rattle.lc_model.specs.Stored.{Fits as FitsDisks, page_bytes}
use Rattle.lc_model.proofs.Numbers.{length-shape, part-replicate}
use Rattle.lc_model.proofs.One.{one-result}
use Rattle.lc_model.proofs.Recovered.{renewed-fits}
use Rattle.lc_recover.specs.Reads.{AllMergeTo, AreHonest, AreImages, AreOfBytes, store_of}
use Rattle.lc_recover.specs.Recovered.{RecoveredStore, page_of, page_read_of, sequence_of, IsMade}
use Rattle.lc_recover.proofs.Images.{get-counting, in-segment, own-image}
use Rattle.lc_desk.specs.Desk.{FitsDesk, FitsSeat}
use Rattle.lc_desk.specs.Fresh.{segment_bytes, fresh_token}
use Rattle.lc_core.specs.Fresh.{text_read_of, IsFresh, IsFreshNode}
use Rattle.lc_desk.specs.Here.{beside, hidden, image_at, number_at, number_in, the_images}
use Rattle.lc_journal.specs.Journal.{FitsLog}
use Rattle.lc_journal.specs.Log.{Stands, HasReset, is_failed, is_idle}
use Rattle.lc_events.specs.NodeState.{FitsNode}
use Rattle.lc_settled.specs.Numbers.{Numbers, recovered_numbers}
use Rattle.lc_journal.specs.Records.{KeptRecords}
use Rattle.lc_events.specs.Running.{FitsRunning, FitsTravelling}
use Rattle.lc_desk.specs.Slots.{Awaits, Besides, FitsSlot, FitsSlots, FitsToken, besides_of}
use Rattle.lc_desk.specs.declared.here.Here.{Here}
use Rattle.lc_journal.specs.declared.log.Log.{Log}
use Rattle.lc_journal.specs.declared.log.Log.TheVariants.{Idle, Written, Synced, Opened, Sealed, Closing, Emptied, Failed, Torn, Taken}
use Rattle.lc_events.specs.declared.node_state.NodeState.{NodeState}
use Rattle.lc_events.specs.declared.running.Running.{Running}
use Rattle.lc_desk.specs.Seat.{Seat, Free}
use Rattle.lc_desk.specs.declared.segment_copy.SegmentCopy.{SegmentCopy}
use Rattle.lc_journal.proofs.Cohering.{coherent_fresh}

-- Lists

pub get-replicate : {A : Type 0} (n k : ℕ) (x y : A) → slice_get (replicate n x) k ≡ Some y → x ≡ y
get-replicate zero k x y is = absurd cc
get-replicate (suc n) zero x y is = same_some x y is
get-replicate (suc n) (suc k) x y is = get-replicate n k x y is

length-times : (content : Content) (pages : List (List Page)) → map length content ≡ map (λ (ps : List Page). length ps * 256) pages → length content ≡ length pages
length-times content pages same = sym (length-map content length) ∙ ap length same ∙ length-map pages (λ (ps : List Page). length ps * 256)

-- the parts of 256, one after another, are what follows the first of them
parts_are : (xs : List ℕ) (part : ℕ → List ℕ) (from n : ℕ) → length xs ≡ (from + n) * 256 → ((page : ℕ) → page < from + n → part page ≡ take 256 (drop (page * 256) xs))
    → flat_map part (counting from n) ≡ drop (from * 256) xs
parts_are xs part from zero long each = sym (drop_of_length-le xs {i = from * 256} (omega (arith, long)))
parts_are xs part from (suc n) long each =
    let next : from * 256 + 256 ≡ (from + 1) * 256 = omega arith in
    let behind : flat_map part (counting (from + 1) n) ≡ drop ((from + 1) * 256) xs = parts_are xs part (from + 1) n (omega (arith, long)) (λ page within. each page (omega (arith, within))) in
    ap (λ (ys : List ℕ). ys ++ flat_map part (counting (from + 1) n)) (each from (omega arith))
    ∙ ap (λ (ys : List ℕ). take 256 (drop (from * 256) xs) ++ ys) (behind ∙ ap (λ (i : ℕ). drop i xs) (sym next) ∙ sym (drop-drop 256 (from * 256) xs))
    ∙ take-append-drop 256 (drop (from * 256) xs)

-- Tokens and images

away_is : (b : Bool) (token : Token) → number_in (if b then Some token else None) ≡ None → b ≡ false
away_is true token none = absurd cc
away_is false token none = refl

here_is : (b : Bool) (token : Token) → IsSome (number_in (if b then Some token else None)) → b ≡ true
here_is true token some = refl
here_is false token some = absurd cc

token_is : (b : Bool) (token other : Token) → (if b then Some token else None) ≡ Some other → token ≡ other
token_is true token other is = same_some token other is
token_is false token other is = absurd cc

pub shown_is : (number : Option ℕ) (picture image : Picture) → hidden number picture ≡ Some image → picture ≡ image
shown_is None picture image is = same_some picture image is
shown_is (Some number) picture image is = absurd cc

-- the slot of a segment that is here
pub record HasSlot (here : Here) (segment : ℕ) : Type 0 where
  pub place : ℕ
  pub slot : SegmentCopy
  pub next : segment ≡ place + 1
  pub at : slice_get here.slots.items place ≡ Some slot
  pub some : IsSome (number_in slot.token.token)
  pub image : the_images.image_of here segment ≡ slot.image

pub slot_of : (here : Here) (segment : ℕ) → IsHere the_images here segment → HasSlot here segment
slot_of here zero is = absurd cc
slot_of here (suc k) is = elim (slice_get here.slots.items k) as (λ (o : Option SegmentCopy). slice_get here.slots.items k ≡ o → IsSome (number_at o) → HasSlot here (suc k)) [
  | None ↦ λ at some. absurd cc
  | Some slot ↦ λ at some. record {
    place = k;
    slot = slot;
    next = omega arith;
    at = at;
    some = some;
    image = ap (image_at here.spare) at;
  }
] refl is

pub idle_works : {D : Type 0} (a : Ghosts D) (log : Log D a) → is_idle a log ≡ true → (is_failed a log ≡ false) × HasReset a log 0
idle_works a (Idle log) is = (refl, refl)
idle_works a (Written log) is = absurd cc
idle_works a (Synced log) is = absurd cc
idle_works a (Opened log) is = absurd cc
idle_works a (Sealed log) is = absurd cc
idle_works a (Closing log) is = absurd cc
idle_works a (Emptied log) is = absurd cc
idle_works a (Failed log) is = absurd cc
idle_works a (Torn log) is = absurd cc
idle_works a Taken is = absurd cc

-- this result is that one, by as many numbers as there are segments
abbrev pub IsResult : Geometry → Content → (ℕ → ℕ) → Content → (ℕ → ℕ) → Type 0
IsResult g made counted content numbers = (made ≡ content) × ((segment : ℕ) → 1 ≤ segment → segment ≤ g.segments → counted segment ≡ numbers segment)

-- where the areas are honest, what was made of them is the result that all their images have
pub result_of : {D : Type 0} (a : Ghosts D) (r : RecoveredStore D) (done : IsMade a r) (content : Content) (numbers : ℕ → ℕ) → AreHonest a r.areas → AreOfBytes a r.areas
    → AllMergeTo a r.geometry r.areas content numbers → IsResult r.geometry done.content done.numbers content numbers
result_of {D} a r done content numbers honest bytes all =
    let images : List (List ℕ) = map a.now r.areas in
    let own : AreImages a r.areas images = own-image a r.areas (λ k device is. bytes k device is (honest k device is)) in
    let store_count : length done.store.pages ≡ r.geometry.segments = length-shape r.geometry.segments r.geometry.pages done.store.pages done.readable.shape in
    let read_count : length (store_of r.geometry images).pages ≡ r.geometry.segments =
    sym (length-times done.content (store_of r.geometry images).pages (done.all honest images own).2.shape)
    ∙ length-times done.content done.store.pages done.merges.2.shape ∙ store_count in
    let one = one-result (store_of r.geometry images) done.content content done.numbers numbers (done.all honest images own).2 (all images own).2 in
    (one.0, λ segment first last. one.1 segment first (omega (arith, last, read_count)))

module _ {D : Type 0} (a : Ghosts D) (start : Content) (earlier : List Transaction) (numbers : ℕ → ℕ) (r : RecoveredStore D) where
  abbrev m : Setting
  m = record { geometry = r.geometry; start = start }

  abbrev content : Content
  content = effects earlier start

  abbrev s : State
  s = fresh r.geometry earlier Up

  abbrev x : Numbers
  x = recovered_numbers r.geometry numbers (page_read_of r) (text_read_of r)

  -- The log

  fresh_log : (n : ℕ) (log : Log D a) (kept : KeptRecords) (dropped trimmed taken acked : ℕ) → kept ≡ record { before = 0; records = [] } → dropped ≡ 0 → trimmed ≡ 0 → taken ≡ 0 → acked ≡ 0
      → Stands a log 0 [] [] → is_failed a log ≡ false → HasReset a log 0 → FitsLog a m n log kept dropped trimmed taken acked s x
  fresh_log n log kept dropped trimmed taken acked kept_is dropped_is trimmed_is taken_is acked_is stands works reset = record {
    words = rw kept_is refl;
    marks = rw kept_is refl;
    all_closed = rw kept_is (le_refl 0);
    whole = tt;
    stands = rw (dropped_is, taken_is, acked_is) stands;
    halted = sym works;
    dropped_is = dropped_is;
    trimmed_is = trimmed_is;
    acked_is = acked_is;
    taken_is = sym taken_is;
    reset_is = reset;
  }

  -- The tokens on their way

  none_travels : (tokens : List (Option Token)) → tokens ≡ replicate r.geometry.segments None → FitsTravelling m tokens s x
  none_travels tokens are = record {
    count = ap length are ∙ length-replicate r.geometry.segments None;
    some = λ k token got. (let no : None ≡ Some token = get-replicate r.geometry.segments k None (Some token) (ap (λ (ts : List (Option Token)). slice_get ts k) (sym are) ∙ got) in absurd cc);
    none = λ k got travels. absurd cc;
  }

  module _ (sound : Sound r.geometry s) (done : IsMade a r) (one : IsResult r.geometry done.content done.numbers content numbers) where
    -- The disks

    store_count : length done.store.pages ≡ r.geometry.segments
    store_count = length-shape r.geometry.segments r.geometry.pages done.store.pages done.readable.shape

    same_number : (segment : ℕ) → 1 ≤ segment → segment ≤ r.geometry.segments → done.numbers segment ≡ numbers segment
    same_number segment first last = one.1 segment first last

    sequence_is : (segment : ℕ) → 1 ≤ segment → segment ≤ r.geometry.segments → sequence_of r segment ≡ numbers segment
    sequence_is segment first last = done.sequences segment first last ∙ same_number segment first last

    merged : IsMerged done.store content numbers
    merged =
        let is : IsMerged done.store content done.numbers = subst (λ (c : Content). IsMerged done.store c done.numbers) one.0 done.merges.2 in
        record {
          not_twice = is.not_twice;
          no_gap = is.no_gap;
          shape = is.shape;
          bytes = is.bytes;
          counted = λ segment first last. sym (same_number segment first (omega (arith, last, store_count))) ∙ is.counted segment first last;
        }

    renewed : AreRenewed done.store content numbers (page_read_of r)
    renewed segment page old is =
        let found = in-segment segment page done.store.pages old is in
        let next = found.next in
        let within = slice_get_within done.store.pages found.before found.part found.part_is in
        elim (done.renewed segment page old is) [
          | inl written ↦ inl (written.0, written.1 ∙ same_number segment (omega (arith, next)) (omega (arith, next, within, store_count)), written.2 ∙ ap (page_bytes segment page) one.0)
          | inr still ↦ inr still
        ]

    stored : FitsDisks m s (recovered_disks numbers (page_read_of r))
    stored = renewed-fits m earlier done.store numbers (page_read_of r) r.geometry.some_pages sound done.readable merged renewed

    -- The bytes of a segment

    page_is : (segment page : ℕ) → 1 ≤ segment → segment ≤ r.geometry.segments → page < r.geometry.pages → (page_of r segment page).bytes ≡ page_bytes segment page content
    page_is segment page first last within =
        let text = page_read_of r segment page in
        (stored.stands segment page text first last within (inl refl)).bytes
        ∙ ap (λ (ts : List Transaction). page_bytes segment page (effects ts content)) (take-nil (text.sequence - numbers segment))

    long : (segment : ℕ) → 1 ≤ segment → segment ≤ r.geometry.segments → length (segment_of segment content) ≡ segment_len r.geometry
    long segment first last = part-replicate segment r.geometry.segments (segment_len r.geometry) content stored.shape first last

    segment_is : (segment : ℕ) → 1 ≤ segment → segment ≤ r.geometry.segments → segment_bytes r segment ≡ segment_of segment content
    segment_is segment first last =
        parts_are (segment_of segment content) (λ page. (page_of r segment page).bytes) 0 r.geometry.pages (omega (arith, long segment first last))
        (λ page within. page_is segment page first last (omega (arith, within)))

    value_is : value start earlier [] ≡ content
    value_is = ap (λ (ts : List Transaction). effects ts start) (append-nil earlier)

    -- A token

    its_token : (segment : ℕ) → 1 ≤ segment → segment ≤ r.geometry.segments → FitsToken m segment (fresh_token r segment) s x
    its_token segment first last = record {
      segment_is = refl;
      number = sequence_is segment first last;
      small = subst (λ (k : ℕ). k ≤ 2 ^ 60) (sym (done.sequences segment first last)) (done.small segment first last);
      clean = sequence_is segment first last;
      pages = length-map (counting 0 r.geometry.pages) entry ∙ length-counting 0 r.geometry.pages;
      touched = λ page within. ap (λ (e : PageEntry). e.touched) (entry_is page within);
      stable_is = λ page within. ap (λ (e : PageEntry). e.stable) (entry_is page within);
      text_is = λ page within. ap entry_text (entry_is page within);
      uncounted = λ page within. ap (λ (e : PageEntry). e.uncommitted) (entry_is page within);
    }
      where
        entry : ℕ → PageEntry
        entry page = new_entry (page_of r segment page).text

        entry_is : (page : ℕ) → page < r.geometry.pages → entry_at (fresh_token r segment).pages page ≡ new_entry (page_of r segment page).text
        entry_is page within =
            let same : 0 + page ≡ page = omega arith in
            get_or_from_slice_get (map entry (counting 0 r.geometry.pages)) page (entry page) no_entry
            (get-map entry (counting 0 r.geometry.pages) page page (get-counting 0 r.geometry.pages page within ∙ ap (λ (i : ℕ). Some i) same))

    -- A node

    module _ (n : ℕ) (node : NodeState D a) (new : IsFreshNode a r n node) where
      abbrev here : Here
      here = node.desk.here

      slot_known : (k : ℕ) (slot : SegmentCopy) → slice_get here.slots.items k ≡ Some slot → k + 1 ≤ r.geometry.segments
      slot_known k slot at = (let count = new.slots_count in let within = slice_get_within here.slots.items k slot at in omega (arith, count, within))

      bytes_are : (segment : ℕ) → IsHere the_images here segment → bytes_of the_images here segment ≡ segment_of segment content
      bytes_are segment is =
          let its = slot_of here segment is in
          let next = its.next in
          let last = slot_known its.place its.slot its.at in
          ap (λ (p : Picture). p.bytes.items) its.image ∙ (new.slots its.place its.slot its.at).bytes ∙ ap (λ (i : ℕ). segment_bytes r i) (sym next)
          ∙ segment_is segment (omega (arith, next)) (omega (arith, next, last))

      length_is : (segment : ℕ) → IsHere the_images here segment → length (bytes_of the_images here segment) ≡ segment_len r.geometry
      length_is segment is =
          let its = slot_of here segment is in
          let next = its.next in
          let last = slot_known its.place its.slot its.at in
          ap (λ (bs : List ℕ). length bs) (bytes_are segment is) ∙ long segment (omega (arith, next)) (omega (arith, next, last))

      unheld : (segment : ℕ) → IsHere the_images here segment → holders_of the_images here segment ≡ Unheld
      unheld segment is = (let its = slot_of here segment is in ap (λ (p : Picture). p.holders) its.image ∙ (new.slots its.place its.slot its.at).holders)

      rest_is : (segment : ℕ) → IsHere the_images here segment → segment % r.geometry.nodes ≡ n
      rest_is segment is =
          let its = slot_of here segment is in
          ap (λ (i : ℕ). i % r.geometry.nodes) its.next
          ∙ eqb-true ((its.place + 1) % r.geometry.nodes) n
          (here_is ((its.place + 1) % r.geometry.nodes == n) (fresh_token r (its.place + 1))
          (subst (λ (t : Standing). IsSome (number_in t.token)) (new.slots its.place its.slot its.at).token its.some))

      elsewhere : (segment : ℕ) → 1 ≤ segment → segment ≤ r.geometry.segments → the_images.number_of here segment ≡ None → is_at n (At (segment % r.geometry.nodes)) ≡ false
      elsewhere zero first last none = absurd (omega (arith, first))
      elsewhere (suc k) first last none =
          let count = new.slots_count in
          let its = get-some here.slots.items k (omega (arith, last, count)) in
          let next : suc k ≡ k + 1 = omega arith in
          ap (λ (i : ℕ). i % r.geometry.nodes == n) next
          ∙ away_is ((k + 1) % r.geometry.nodes == n) (fresh_token r (k + 1))
          (ap (λ (t : Standing). number_in t.token) (sym (new.slots k its.0 its.1).token) ∙ sym (ap number_at its.1) ∙ none)

      desk : FitsDesk m n here node.desk.seats.items s
      desk = record {
        all_seats = ap (λ (seats : List Seat). length seats) new.seats ∙ length-replicate r.geometry.threads Free;
        shape = ap (λ (c : Content). map length c) value_is ∙ stored.shape;
        threads = λ thread seat at.
            subst (λ (w : Seat). FitsSeat here n thread (value start earlier []) s w)
            (get-replicate r.geometry.threads thread Free seat (ap (λ (seats : List Seat). slice_get seats thread) (sym new.seats) ∙ at)) (refl, refl);
        shown = λ segment is none. bytes_are segment is ∙ ap (λ (c : Content). segment_of segment c) (sym value_is);
        sizes = length_is;
        writer = λ segment thread is writes. (let no : None ≡ Some thread = ap writer_of (sym (unheld segment is)) ∙ writes in absurd cc);
        readers = λ segment thread is reader. absurd (true≢false (sym reader ∙ ap (λ (o : Holders). reads o thread) (unheld segment is)));
        places = λ segment is. ap At (rest_is segment is);
        elsewhere = elsewhere;
      }

      slot_fits : (k : ℕ) (slot : SegmentCopy) → slice_get here.slots.items k ≡ Some slot → FitsSlot m n (k + 1) (beside slot) s x
      slot_fits k slot at =
          let its = new.slots k slot at in
          let first : 1 ≤ k + 1 = omega arith in
          let last = slot_known k slot at in
          record {
            applied = ap (λ (p : Backlog). p.applied) its.parts ∙ sequence_is (k + 1) first last;
            within = le_refl (numbers (k + 1));
            waiting = ap (λ (p : Backlog). map (λ (q : Part). q.seq) p.kept) its.parts;
            ascends = subst (λ (p : Backlog). Ascends p.applied p.kept) (sym its.parts) tt;
            parts = subst (λ (p : Backlog). All (Awaits m s x (k + 1)) p.kept) (sym its.parts) (All-nil (Awaits m s x (k + 1)));
            token = λ token is. (
              subst (λ (t : Token). FitsToken m (k + 1) t s x)
                  (token_is ((k + 1) % r.geometry.nodes == n) (fresh_token r (k + 1)) token (ap (λ (t : Standing). t.token) (sym its.token) ∙ is)) (its_token (k + 1) first last),
              refl,
            );
            image = λ image is.
                (let same = shown_is (number_in slot.token.token) slot.image image is in (
                  ap (λ (p : Picture). p.holders) (sym same) ∙ its.holders,
                  ap (λ (p : Picture). p.bytes.items) (sym same) ∙ its.bytes ∙ segment_is (k + 1) first last
                      ∙ ap (λ (ts : List Transaction). segment_of (k + 1) (effects ts content)) (sym (take-nil (numbers (k + 1) - numbers (k + 1)))),
                ));
          }

      slots : FitsSlots m n (besides_of here) s x
      slots = record {
        count = length-map here.slots.items beside ∙ new.slots_count;
        each = λ k b at. (let its = from-map beside here.slots.items k b at in subst (λ (c : Besides). FitsSlot m n (k + 1) c s x) its.2 (slot_fits k its.0 its.1));
      }

      fresh_node : FitsNode a m n node s x
      fresh_node = record {
        desk = desk;
        slots = slots;
        journal = (let w = node.journal in fresh_log n w.log w.records w.dropped w.trimmed w.taken w.acked new.records new.dropped new.trimmed new.taken new.acked new.log (idle_works a w.log new.works).0 (idle_works a w.log new.works).1);
        room = new.room;
        round = new.round;
        known = λ segment first last. new.known segment first last ∙ ap (λ i. if segment % r.geometry.nodes == n then i else 0) (sequence_is segment first last);
      }

    fresh_fits : (w : Running D a) → IsFresh a r w → FitsRunning a m w s x
    fresh_fits w new = record {
      geometry_is = sym new.geometry;
      up = refl;
      sound = sound;
      stored = stored;
      coherent = coherent_fresh m earlier numbers (page_read_of r) (text_read_of r) stored;
      each = λ n node at. fresh_node n node (new.each n node at);
      on_the_way = none_travels w.travelling.items new.travelling;
    }

module _ {D : Type 0} (a : Ghosts D) where
  pub rises : (m : Setting) (earlier : List Transaction) (numbers : ℕ → ℕ) (r : RecoveredStore D) (w : Running D a) → m.geometry ≡ r.geometry → Sound m.geometry (fresh m.geometry earlier Up)
      → (done : IsMade a r) → IsResult m.geometry done.content done.numbers (effects earlier m.start) numbers → IsFresh a r w
      → FitsRunning a m w (fresh m.geometry earlier Up) (recovered_numbers m.geometry numbers (page_read_of r) (text_read_of r))
  rises m earlier numbers r w same sound done one new =
      subst (λ (g : Geometry). Sound g (fresh g earlier Up) → IsResult g done.content done.numbers (effects earlier m.start) numbers
      → FitsRunning a (record { geometry = g; start = m.start }) w (fresh g earlier Up) (recovered_numbers g numbers (page_read_of r) (text_read_of r))) (sym same)
      (λ here is. fresh_fits a m.start earlier numbers r here done is w new) sound one
