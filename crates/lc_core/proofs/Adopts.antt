-- What is built of a consistent cluster at rest fits the state that it stands for.
use Rattle.std.proofs.Common.{◌≡◌, ℕ, zero, suc, ◌+◌, ◌-◌, ◌<◌, ◌≤◌, true, false, ◌==◌, List, [], ◌∷◌, map, filter, length, take, drop, replicate, All, Option, Some, None, refl, sym, ap, subst, ◌∙◌, inl, inr, arith, true≢false}
use Rattle.std.specs.Prelude.{slice_get, IsSome, if◌then◌else◌}
use Rattle.std.specs.List.{AllByRecursion}
use Rattle.std.proofs.lemmas.List.{length-map, length-replicate, take_all}
use Rattle.std.proofs.lemmas.List.Elements.{All-nil, All-head, All-tail, All-filter}
use Rattle.std.proofs.lemmas.Option.{slice_get_within}
use Rattle.lc_disk.specs.declared.area.Area.{Ghosts}
use Rattle.lc_page.specs.declared.page_entry.PageEntry.{PageEntry}
use Rattle.lc_record.specs.Content.{Content, segment_of}
use Rattle.lc_record.specs.Geometry.{segment_len}
use Rattle.lc_record.specs.Record.{spelling}
use Rattle.lc_record.specs.Recorded.{records_from}
use Rattle.lc_record.specs.Transaction.{Transaction, effects}
use Rattle.lc_record.specs.declared.geometry.Geometry.{Geometry}
use Rattle.lc_record.specs.declared.part.Part.{Part}
use Rattle.lc_record.specs.declared.record.Record.{Record}
use Rattle.lc_record.proofs.ListLemmas.{slice_get_some as get-some, drop-take_same as drop-taken, slice_get_from_map as from-map}
use Rattle.lc_log.specs.LogText.{IsWhole}
use Rattle.lc_model.specs.History.{Entry as Reserved, entries_of, value}
use Rattle.lc_model.specs.Merge.{Page}
use Rattle.lc_model.specs.Merging.{counted_all, is_from, sets}
use Rattle.lc_model.specs.State.{At, State}
use Rattle.lc_model.specs.Stored.{Shows, records_of}
use Rattle.lc_token.specs.Backlog.{Backlog, Ascends}
use Rattle.lc_token.specs.declared.token.Token.{Token}
use Rattle.lc_token.specs.Clean.{IsCleanTo, IsTouched, all_of, closed_of}
use Rattle.lc_journal.specs.Coherent.{AreCoherent, entries_of as token_entries}
use Rattle.lc_journal.specs.Journal.{FitsLog}
use Rattle.lc_journal.specs.Log.{Stands, HasReset, is_failed}
use Rattle.lc_settled.specs.Numbers.{Numbers, token_number}
use Rattle.lc_journal.specs.Records.{KeptRecords, marks_of}
use Rattle.lc_events.specs.Running.{FitsRunning, FitsTravelling}
use Rattle.lc_desk.specs.Slots.{FitsToken}
use Rattle.lc_journal.specs.declared.log.Log.{Log}
use Rattle.lc_events.specs.declared.running.Running.{Running}
use Rattle.std.specs.List.{list_any}
use Rattle.lc_tx.specs.Holders.{reads, writer_of}
use Rattle.lc_tx.specs.Images.{IsHere, bytes_of, holders_of}
use Rattle.lc_tx.specs.declared.holders.Holders.{Holders}
use Rattle.lc_tx.specs.declared.holders.Holders.TheVariants.{Free as Unheld}
use Rattle.lc_tx.specs.declared.image.Image.{Image as Picture}
use Rattle.lc_model.specs.Refusals.{is_at}
use Rattle.lc_model.specs.State.{is_unclosed}
use Rattle.lc_model.proofs.Merging.{of_a_segment, counted-length}
use Rattle.lc_model.proofs.Numbers.{part-replicate}
use Rattle.lc_model.proofs.Result.{shape-effects}
use Rattle.lc_desk.specs.Desk.{FitsDesk, FitsSeat}
use Rattle.lc_desk.specs.Here.{beside, number_at, number_in, the_images}
use Rattle.lc_events.specs.NodeState.{FitsNode}
use Rattle.lc_desk.specs.Slots.{Awaits, Besides, FitsSlot, FitsSlots, besides_of, segment_to}
use Rattle.lc_desk.specs.declared.here.Here.{Here}
use Rattle.lc_events.specs.declared.node_state.NodeState.{NodeState}
use Rattle.lc_desk.specs.Seat.{Seat, Free}
use Rattle.lc_desk.specs.declared.segment_copy.SegmentCopy.{SegmentCopy}
use Rattle.lc_journal.proofs.Cohering.{entry_is, entries_count}
use Rattle.lc_core.proofs.Rising.{get-replicate, idle_works, shown_is, slot_of}
use Rattle.lc_rest.specs.Adopted.{transaction_of, history_of}
use Rattle.lc_rest.specs.Found.{Found, IsConsistent, last_number, machine_setting, machine_state, own_records}
use Rattle.lc_core.specs.Adopting.{numbers_of, IsAdoptedToken, IsAdoptedNode, IsAdopted}
use Rattle.lc_rest.proofs.Standing.{transactions_of, records-own}
use Rattle.lc_rest.proofs.SoundState.{transactions-are, front-all}
use Rattle.lc_rest.proofs.DisksFit.{records-are, all-well}
use Rattle.lc_rest.proofs.Values.{disks-found, sound-found, value-is}

-- all are closed
closed-all : (g : Geometry) (rs : List Record) → closed_of (history_of g rs) ≡ transactions_of g rs
closed-all g [] = refl
closed-all g (r ∷ rs) = ap (λ ts. transaction_of g r ∷ ts) (closed-all g rs)

pub number-is : (f : Found) (segment : ℕ) → token_number (machine_state f) (numbers_of f) segment ≡ last_number f segment
number-is f segment = ap (λ (ts : List Transaction). counted_all f.numbers ts segment) (closed-all f.geometry f.records)

pub all-are : (f : Found) → IsConsistent f → all_of (machine_setting f) (machine_state f) (numbers_of f).disks ≡ f.records
all-are f is =
    ap (λ (ts : List Transaction). records_from f.numbers f.base ts) (transactions-are f.geometry f.records)
    ∙ records-own f.geometry f.records f.numbers f.base is.tested.taken is.stored.shape is.stored.follow

-- The tokens and the numbers

shown-now : (f : Found) (segment page : ℕ) (text : Page) → Shows (numbers_of f).disks segment page text → text ≡ f.pages segment page
shown-now f segment page text (inl is) = is
shown-now f segment page text (inr opened) = absurd cc

pub coherent : (f : Found) → IsConsistent f → AreCoherent (machine_setting f) (machine_state f) (numbers_of f)
coherent f is = record {
  tokens = λ segment first last. record {
    count = entries_count f.geometry x segment;
    few = (let few = f.geometry.few_pages in omega (arith, few));
    stable = λ page text known shows.
        (let one = ap (λ (e : PageEntry). e.stable) (entry_is f.geometry x segment page known) in
        let two = ap (λ (p : Page). p.sequence) (shown-now f segment page text shows) in
        omega (arith, one, two));
    within = λ page known.
        (let one = ap (λ (e : PageEntry). e.stable) (entry_is f.geometry x segment page known) in
        let two = is.pages_within segment page first last known in
        let three = number-is f segment in
        omega (arith, one, two, three));
    touched = subst (λ (rs : List Record). All (IsTouched f.geometry segment (token_number s x segment) (token_entries f.geometry x segment)) rs) (sym (all-are f is))
        (λ k r k_in within page known has.
        (let one = ap (λ (e : PageEntry). e.touched) (entry_is f.geometry x segment page known) in
        let two = is.touched k r k_in segment page known has in
        omega (arith, one, two)));
    cleaned = subst (λ (rs : List Record). All (IsCleanTo f.geometry x.disks segment (f.clean segment)) rs) (sym (all-are f is))
        (λ k r k_in within page text known has shows.
        (let one = ap (λ (p : Page). p.sequence) (shown-now f segment page text shows) in
        let two = is.stored.cleaned k r k_in segment page within known has in
        omega (arith, one, two)));
  };
  clean = λ segment first last. (let one = is.clean_within segment first last in let two = number-is f segment in omega (arith, one, two));
  known = λ node segment first last. is.stored.known_clean node segment first last;
  resets = λ node. refl;
  writes = λ segment page. record { begun = refl; opened = refl; within = λ text begun. absurd cc };
}
  where
    x : Numbers
    x = numbers_of f

    s : State
    s = machine_state f

pub token-fits : (f : Found) (segment : ℕ) (token : Token) → IsConsistent f → 1 ≤ segment → segment ≤ f.geometry.segments → IsAdoptedToken f segment token → FitsToken (machine_setting f) segment token (machine_state f) (numbers_of f)
token-fits f segment token is first last its = record {
  segment_is = its.segment_is;
  number = its.number ∙ sym (number-is f segment);
  small = (let one = its.number in let two = is.small segment first last in omega (arith, one, two));
  clean = its.clean;
  pages = its.pages;
  touched = its.touched;
  stable_is = its.stable;
  text_is = its.text;
  uncounted = its.uncounted;
}

travelling-fits : {D : Type 0} (a : Ghosts D) (f : Found) (w : Running D a) → IsConsistent f → IsAdopted a f w → FitsTravelling (machine_setting f) w.travelling.items (machine_state f) (numbers_of f)
travelling-fits a f w is new = record {
  count = new.travelling_count;
  some = λ k token got. (
    (new.travelling k token got).0,
    (let within = slice_get_within w.travelling.items k (Some token) got in let count = new.travelling_count in
        token-fits f (k + 1) token is (omega arith) (omega (arith, within, count)) (new.travelling k token got).1),
  );
  none = new.standing;
}

-- The log of a node

entries-closed : (g : Geometry) (rs : List Record) (node : ℕ) → map (λ (e : Reserved). e.closed) (entries_of node (history_of g rs)) ≡ map (λ (r : Record). true) (filter (is_from node) rs)
entries-closed g [] node = refl
entries-closed g (r ∷ rs) node =
    elim (r.node == node) as (λ b. map (λ (e : Reserved). e.closed) (if b then record { transaction = transaction_of g r; closed = true } ∷ entries_of node (history_of g rs) else entries_of node (history_of g rs))
    ≡ map (λ (q : Record). true) (if b then r ∷ filter (is_from node) rs else filter (is_from node) rs)) [
      | true ↦ ap (λ l. true ∷ l) (entries-closed g rs node)
      | false ↦ entries-closed g rs node
    ]

map-drop : {A B : Type 0} (h : A → B) (n : ℕ) (xs : List A) → map h (drop n xs) ≡ drop n (map h xs)
map-drop h zero xs = refl
map-drop h (suc n) [] = refl
map-drop h (suc n) (x ∷ xs) = map-drop h n xs

to-recursion : (rs : List Record) → All IsWhole rs → AllByRecursion IsWhole rs
to-recursion [] all = tt
to-recursion (r ∷ rs) all = (All-head IsWhole r rs all, to-recursion rs (All-tail IsWhole r rs all))

pub log-fits : {D : Type 0} (a : Ghosts D) (f : Found) (n : ℕ) (log : Log D a) (kept : KeptRecords) (dropped trimmed taken acked : ℕ) → IsConsistent f → n < f.geometry.nodes
    → kept.before ≡ f.dropped n → map (λ r. r.words) kept.records ≡ map spelling (drop (f.dropped n) (own_records f n)) → marks_of kept.records ≡ map (λ (r : Record). true) (drop (f.dropped n) (own_records f n))
    → dropped ≡ f.dropped n → trimmed ≡ f.dropped n → taken ≡ f.stable n → acked ≡ f.stable n
    → Stands a log 0 (drop (f.dropped n) (take (f.stable n) (own_records f n))) [] → is_failed a log ≡ false → HasReset a log 0
    → FitsLog a (machine_setting f) n log kept dropped trimmed taken acked (machine_state f) (numbers_of f)
log-fits a f n log kept dropped trimmed taken acked is known before words marks dropped_is trimmed_is taken_is acked_is stands works reset = record {
  words = words ∙ ap (λ (rs : List Record). map spelling (drop (f.dropped n) rs)) (sym own) ∙ ap (λ k. map spelling (drop k (records_of (machine_setting f) (machine_state f) (numbers_of f).disks n))) (sym before);
  marks = marks ∙ map-drop (λ (r : Record). true) (f.dropped n) (own_records f n) ∙ ap (drop (f.dropped n)) (sym (entries-closed f.geometry f.records n)) ∙ ap (λ k. drop k (map (λ (e : Reserved). e.closed) (entries_of n (history_of f.geometry f.records)))) (sym before);
  all_closed = (let one = is.stored.dropped_stable n known in let two = is.tested.few n in let three = front-all f.geometry f.records n in omega (arith, one, two, three, before));
  whole = subst (λ (rs : List Record). AllByRecursion IsWhole rs) (sym own) (to-recursion (own_records f n) (All-filter (is_from n) IsWhole f.records is.whole));
  stands = subst (λ (rs : List Record). Stands a log 0 (drop dropped (take acked rs)) (drop acked (take taken rs))) (sym own)
      (rw (dropped_is, acked_is, taken_is)
      (subst (λ (group : List Record). Stands a log 0 (drop (f.dropped n) (take (f.stable n) (own_records f n))) group) (sym (drop-taken (f.stable n) (own_records f n))) stands));
  halted = sym works;
  dropped_is = dropped_is;
  trimmed_is = trimmed_is;
  acked_is = acked_is;
  taken_is = sym taken_is;
  reset_is = reset;
}
  where
    own : records_of (machine_setting f) (machine_state f) (numbers_of f).disks n ≡ own_records f n
    own = records-are f.geometry f.records f.stable f.dropped f.place f.numbers f.base f.pages n is.tested.taken is.stored.shape is.stored.follow

-- A node

-- up to its last number a segment is as all records make it
pub segment-last : (f : Found) → IsConsistent f → (segment number : ℕ) → number ≡ last_number f segment → segment_to (machine_setting f) (machine_state f) (numbers_of f).disks segment number ≡ segment_of segment (value f.base [] (machine_state f).history)
segment-last f is segment number same =
    let ts : List Transaction = transactions_of f.geometry f.records in
    let count : number ≡ f.numbers segment + length (filter (sets segment) ts) = same ∙ counted-length f.numbers ts segment in
    let all : take (number - f.numbers segment) (filter (sets segment) ts) ≡ filter (sets segment) ts = take_all (number - f.numbers segment) (filter (sets segment) ts) (omega (arith, count)) in
    ap (λ (us : List Transaction). segment_of segment (effects (take (number - f.numbers segment) (filter (sets segment) us)) f.base)) (transactions-are f.geometry f.records)
    ∙ ap (λ (us : List Transaction). segment_of segment (effects us f.base)) all
    ∙ sym (of_a_segment f.base ts segment (all-well f.geometry f.records is.tested.taken))
    ∙ ap (segment_of segment) (sym (value-is f))

value-shape : (f : Found) → IsConsistent f → map length (value f.base [] (machine_state f).history) ≡ replicate f.geometry.segments (segment_len f.geometry)
value-shape f is = ap (λ (c : Content). map length c) (value-is f) ∙ shape-effects (transactions_of f.geometry f.records) f.base ∙ is.stored.shape

none-unclosed : (g : Geometry) (rs : List Record) (n thread : ℕ) → list_any (is_unclosed n thread) (history_of g rs) ≡ false
none-unclosed g [] n thread = refl
none-unclosed g (r ∷ rs) n thread = none-unclosed g rs n thread

module _ {D : Type 0} (a : Ghosts D) (f : Found) (is : IsConsistent f) (n : ℕ) (known : n < f.geometry.nodes) (node : NodeState D a) (new : IsAdoptedNode a f n node) where
  abbrev here : Here
  here = node.desk.here

  slot_known : (k : ℕ) (slot : SegmentCopy) → slice_get here.slots.items k ≡ Some slot → k + 1 ≤ f.geometry.segments
  slot_known k slot at = (let count = new.slots_count in let within = slice_get_within here.slots.items k slot at in omega (arith, count, within))

  long : (segment : ℕ) → 1 ≤ segment → segment ≤ f.geometry.segments → length (segment_of segment (value f.base [] (machine_state f).history)) ≡ segment_len f.geometry
  long segment first last = part-replicate segment f.geometry.segments (segment_len f.geometry) (value f.base [] (machine_state f).history) (value-shape f is) first last

  some-token : (o : Option Token) → IsSome (number_in o) → (token : Token) × (o ≡ Some token)
  some-token None some = absurd cc
  some-token (Some token) some = (token, refl)

  none-token : (o : Option Token) → number_in o ≡ None → o ≡ None
  none-token None none = refl
  none-token (Some token) none = absurd cc

  is_here : (segment : ℕ) → IsHere the_images here segment → f.place segment ≡ At n
  is_here segment there =
      let its = slot_of here segment there in
      let token = some-token its.slot.token.token its.some in
      let next = its.next in
      ap f.place next ∙ ((new.slots its.place its.slot its.at).token token.0 token.1).0

  bytes_are : (segment : ℕ) → IsHere the_images here segment → bytes_of the_images here segment ≡ segment_of segment (value f.base [] (machine_state f).history)
  bytes_are segment there =
      let its = slot_of here segment there in
      let next = its.next in
      let last = slot_known its.place its.slot its.at in
      ap (λ (p : Picture). p.bytes.items) its.image ∙ (new.slots its.place its.slot its.at).bytes
      ∙ segment-last f is (its.place + 1) (f.applied n (its.place + 1)) (is.applied_here n (its.place + 1) (omega arith) last (ap f.place (sym next) ∙ is_here segment there))
      ∙ ap (λ (i : ℕ). segment_of i (value f.base [] (machine_state f).history)) (sym next)

  unheld : (segment : ℕ) → IsHere the_images here segment → holders_of the_images here segment ≡ Unheld
  unheld segment there = (let its = slot_of here segment there in ap (λ (p : Picture). p.holders) its.image ∙ (new.slots its.place its.slot its.at).holders)

  elsewhere : (segment : ℕ) → 1 ≤ segment → segment ≤ f.geometry.segments → the_images.number_of here segment ≡ None → is_at n (f.place segment) ≡ false
  elsewhere zero first last none = absurd (omega (arith, first))
  elsewhere (suc k) first last none =
      let count = new.slots_count in
      let its = get-some here.slots.items k (omega (arith, last, count)) in
      let next : suc k ≡ k + 1 = omega arith in
      ap (λ (i : ℕ). is_at n (f.place i)) next
      ∙ (new.slots k its.0 its.1).none (none-token its.0.token.token (ap number_at (sym its.1) ∙ none))

  desk : FitsDesk (machine_setting f) n here node.desk.seats.items (machine_state f)
  desk = record {
    all_seats = ap (λ (seats : List Seat). length seats) new.seats ∙ length-replicate f.geometry.threads Free;
    shape = value-shape f is;
    threads = λ thread seat at.
        subst (λ (w : Seat). FitsSeat here n thread (value f.base [] (machine_state f).history) (machine_state f) w)
        (get-replicate f.geometry.threads thread Free seat (ap (λ (seats : List Seat). slice_get seats thread) (sym new.seats) ∙ at)) (refl, none-unclosed f.geometry f.records n thread);
    shown = λ segment there none. bytes_are segment there;
    sizes = λ segment there.
        (let its = slot_of here segment there in let next = its.next in let last = slot_known its.place its.slot its.at in
        ap (λ (bs : List ℕ). length bs) (bytes_are segment there) ∙ long segment (omega (arith, next)) (omega (arith, next, last)));
    writer = λ segment thread there writes. (let no : None ≡ Some thread = ap writer_of (sym (unheld segment there)) ∙ writes in absurd cc);
    readers = λ segment thread there reader. absurd (true≢false (sym reader ∙ ap (λ (o : Holders). reads o thread) (unheld segment there)));
    places = is_here;
    elsewhere = elsewhere;
  }

  slot_fits : (k : ℕ) (slot : SegmentCopy) → slice_get here.slots.items k ≡ Some slot → FitsSlot (machine_setting f) n (k + 1) (beside slot) (machine_state f) (numbers_of f)
  slot_fits k slot at =
      let its = new.slots k slot at in
      let first : 1 ≤ k + 1 = omega arith in
      let last = slot_known k slot at in
      record {
        applied = ap (λ (p : Backlog). p.applied) its.parts;
        within = (let one = is.applied_within n (k + 1) first last in let two = number-is f (k + 1) in omega (arith, one, two));
        waiting = ap (λ (p : Backlog). map (λ (q : Part). q.seq) p.kept) its.parts;
        ascends = subst (λ (p : Backlog). Ascends p.applied p.kept) (sym its.parts) tt;
        parts = subst (λ (p : Backlog). All (Awaits (machine_setting f) (machine_state f) (numbers_of f) (k + 1)) p.kept) (sym its.parts) (All-nil (Awaits (machine_setting f) (machine_state f) (numbers_of f) (k + 1)));
        token = λ token got. (
          token-fits f (k + 1) token is first last (its.token token got).1,
          is.applied_here n (k + 1) first last (its.token token got).0 ∙ sym (number-is f (k + 1)),
        );
        image = λ image got. (let same = shown_is (number_in slot.token.token) slot.image image got in (
          ap (λ (p : Picture). p.holders) (sym same) ∙ its.holders,
          ap (λ (p : Picture). p.bytes.items) (sym same) ∙ its.bytes,
        ));
      }

  slots : FitsSlots (machine_setting f) n (besides_of here) (machine_state f) (numbers_of f)
  slots = record {
    count = length-map here.slots.items beside ∙ new.slots_count;
    each = λ k b at. (let its = from-map beside here.slots.items k b at in subst (λ (c : Besides). FitsSlot (machine_setting f) n (k + 1) c (machine_state f) (numbers_of f)) its.2 (slot_fits k its.0 its.1));
  }

  pub node-fits : FitsNode a (machine_setting f) n node (machine_state f) (numbers_of f)
  node-fits = record {
    desk = desk;
    slots = slots;
    journal = (let w = node.journal in log-fits a f n w.log w.records w.dropped w.trimmed w.taken w.acked is known new.before new.words new.marks new.dropped new.trimmed new.taken new.acked new.log (idle_works a w.log new.works).0 (idle_works a w.log new.works).1);
    room = new.room;
    round = new.round;
    known = new.known;
  }

-- All of it

pub adopted-fits : {D : Type 0} (a : Ghosts D) (f : Found) (w : Running D a) → IsConsistent f → IsAdopted a f w → FitsRunning a (machine_setting f) w (machine_state f) (numbers_of f)
adopted-fits a f w is new = record {
  geometry_is = sym new.geometry;
  up = refl;
  sound = sound-found f is;
  stored = disks-found f is;
  coherent = coherent f is;
  each = λ n node at. node-fits a f is n (let within = slice_get_within w.nodes.items n node at in let count = new.count in omega (arith, within, count)) node (new.each n node at);
  on_the_way = travelling-fits a f w is new;
}
