-- A transaction that begins at a node, and what stands in its way.
use Rattle.std.proofs.Common.{◌≡◌, ℕ, zero, suc, ◌+◌, ◌<◌, ◌≤◌, Bool, true, false, not, ◌||◌, List, [], ◌∷◌, ◌++◌, map, length, filter, replicate, Option, Some, None, is_some, refl, sym, ap, subst, ◌∙◌, arith, inl, inr, eq-eqb, ne_eqb, leb-true, nat_le, true≢false}
use Rattle.std.specs.Prelude.{◌↔◌, slice_get, slice_set, Result, Err, if◌then◌else◌}
use Rattle.std.specs.List.{list_all}
use Rattle.std.proofs.lemmas.Bool.{cases_eq, cases_Bool, or_cases, or_left, or_right, false≢true, and_parts as and-both}
use Rattle.std.proofs.lemmas.List.{length-set, length-map, length-replicate}
use Rattle.std.proofs.lemmas.Option.{same_Some as same_some}
use Rattle.lc_record.specs.Content.{Content, segment_of}
use Rattle.lc_record.specs.Transaction.{Transaction, is_member}
use Rattle.lc_record.specs.Geometry.{segment_len}
use Rattle.lc_record.specs.Marks.{ascending, beside, counting}
use Rattle.lc_record.specs.declared.geometry.Geometry.{Geometry}
use Rattle.lc_record.proofs.LockLemmas.{member_left as in_first, member_right as in_second}
use Rattle.lc_model.specs.History.{value}
use Rattle.lc_model.specs.State.{Place, At, Setting, State, running_of, has_unclosed, is_held, is_locked}
use Rattle.lc_model.specs.Sound.{Sound}
use Rattle.lc_model.specs.Machine.{Row, begun}
use Rattle.lc_model.specs.Refusals.{refuse_if, is_at, is_segment, is_known, is_busy, first_taken}
use Rattle.lc_model.specs.declared.event.Event.TheVariants.{Begin}
use Rattle.lc_model.specs.declared.refusal.Refusal.{Refusal}
use Rattle.lc_model.specs.declared.refusal.Refusal.TheVariants.{Busy, NotHere, OutOfTurn}
use Rattle.lc_model.specs.declared.reply.Reply.TheVariants.{Ok as Accepted, Refused}
use Rattle.lc_model.proofs.Rows.{begin-no_turn, begin-refused, begin-done, seat_known}
use Rattle.lc_model.proofs.Seats.{new_one, running-begun, running-begun_other}
use Rattle.lc_tx.specs.Holders.{reads, writer_of}
use Rattle.lc_tx.specs.Images.{IsHere, IsLockable, IsFirstTaken, bytes_of, holders_of}
use Rattle.lc_tx.specs.Tx.{Locked, Reads, RunsOn, Begins, none_of}
use Rattle.lc_tx.specs.Fault.{is_of_begin}
use Rattle.lc_tx.specs.StandsFor.{StandsFor, Show, begun_on, unmarked}
use Rattle.lc_tx.specs.declared.holders.Holders.{Holders}
use Rattle.lc_tx.specs.declared.image.Image.{Image as Picture}
use Rattle.lc_tx.specs.declared.tx.Tx.{Tx}
use Rattle.lc_tx.specs.declared.tx_fault.TxFault.{TxFault}
use Rattle.lc_tx.specs.declared.tx_fault.TxFault.TheVariants.{Busy as IsBusy, NotHere as IsNotHere, NoRange as HasNoRange, OutOfSegment as IsOutside, NotLocked as IsNotLocked, NoMemory, TooLong as IsTooLong, SequenceSpent as IsSpent, EmptyRange as IsEmpty, TooManyRanges as AreTooMany, ReadOnly as IsReadOnly}
use Rattle.lc_tx.proofs.BesideLemmas.{runs_beside, begin_keeps}
use Rattle.lc_tx.proofs.HoldsLemmas.{asked_reading}
use Rattle.lc_tx.proofs.MemberLemmas.{not_both, member_both}
use Rattle.lc_tx.proofs.StandsLemmas.{begun_stands}
use Rattle.lc_tx.proofs.AscendLemmas.{set_is_ascending}
use Rattle.lc_desk.specs.Places.{get_set_same, get_set_other}
use Rattle.lc_desk.specs.declared.here.Here.{Here}
use Rattle.lc_desk.specs.Seat.{Seat, Free, Open, Reserved, holder_of, is_free}
use Rattle.lc_desk.specs.Refused.{refusal_of}
use Rattle.lc_desk.specs.Here.{the_images}
use Rattle.lc_desk.specs.Seats.{Runs, AllRun}
use Rattle.lc_desk.specs.Desk.{IsOpen, FitsSeat, FitsDesk, Sits}
use Rattle.lc_settled.specs.FollowsDesk.{SameButOpen}
use Rattle.lc_desk.proofs.Seating.{at_place, seat_of}
use Rattle.lc_desk.proofs.Holding.{writer-locked, not_free-held, free-unheld, unwritten-unlocked}
use Rattle.lc_desk.proofs.Dropping.{seat_beside, was, image_is}

-- Lists

all_member : (p : ℕ → Bool) (xs : List ℕ) (n : ℕ) → list_all p xs ≡ true → is_member n xs ≡ true → p n ≡ true
all_member p [] n all member = absurd (false≢true member)
all_member p (x ∷ xs) n all member =
    let both = and-both (p x) (list_all p xs) all in
    elim (cases_eq x n) [
      | inl same ↦ subst (λ (k : ℕ). p k ≡ true) same both.0
      | inr differ ↦ all_member p xs n both.1 (rw (ne_eqb x n differ) at member)
    ]

no_marks_are : (xs : Content) (n len : ℕ) → map length xs ≡ replicate n len → unmarked xs ≡ replicate n (replicate len false)
no_marks_are [] zero len shape = refl
no_marks_are [] (suc n) len shape = absurd cc
no_marks_are (x ∷ xs) zero len shape = absurd cc
no_marks_are (x ∷ xs) (suc n) len shape =
    let first : length x ≡ len = cc in
    let rest : map length xs ≡ replicate n len = cc in
    ap (λ k. replicate k false ∷ unmarked xs) first ∙ ap (λ l. replicate len false ∷ l) (no_marks_are xs n len rest)

-- The refusal at the first segment that is taken

module _ (node : ℕ) (s : State) (writing : List ℕ) (p : ℕ → Bool) where
  abbrev IsOpenTo : ℕ → Type 0
  IsOpenTo n = (is_at node (s.place n) ≡ true) × (is_busy writing s n ≡ false)

  first_counted : (x : ℕ) (refusal : Refusal) (from n : ℕ) → p x ≡ true → from ≤ x → x < from + n
      → ((other : ℕ) → p other ≡ true → other < x → IsOpenTo other)
      → ((next : Option Refusal) → refuse_if (not (is_at node (s.place x))) (NotHere x) (refuse_if (is_busy writing s x) (Busy x) next) ≡ Some refusal)
      → first_taken node s writing (filter p (counting from n)) ≡ Some refusal
  first_counted x refusal from zero member low high free taken = absurd (omega (arith, low, high))
  first_counted x refusal from (suc n) member low high free taken = elim (cases_eq from x) [
    | inl same ↦
        let is : p from ≡ true = ap p same ∙ member in
        rw is (subst (λ (k : ℕ). refuse_if (not (is_at node (s.place k))) (NotHere k) (refuse_if (is_busy writing s k) (Busy k) (first_taken node s writing (filter p (counting (from + 1) n)))) ≡ Some refusal) (sym same) (taken _))
    | inr differ ↦
        let less : from < x = omega (arith, low, differ) in
        let rest = first_counted x refusal (from + 1) n member (omega (arith, less)) (omega (arith, high)) free taken in
        elim (cases_Bool (p from)) [
          | inl is ↦ behind from refusal (filter p (counting (from + 1) n)) is (free from is less) rest
          | inr not ↦ rw not rest
        ]
  ]
    where
      behind : (k : ℕ) (refusal : Refusal) (others : List ℕ) → p k ≡ true → IsOpenTo k → first_taken node s writing others ≡ Some refusal
          → first_taken node s writing (if p k then k ∷ others else others) ≡ Some refusal
      behind k refusal others is open_to rest = rw is (open_first k others open_to ∙ rest)
        where
          open_first : (k : ℕ) (others : List ℕ) → IsOpenTo k → first_taken node s writing (k ∷ others) ≡ first_taken node s writing others
          open_first k others both =
              ap (λ b. refuse_if (not b) (NotHere k) (refuse_if (is_busy writing s k) (Busy k) (first_taken node s writing others))) both.0
              ∙ ap (λ b. refuse_if b (Busy k) (first_taken node s writing others)) both.1

  none_counted : (from n : ℕ) → ((other : ℕ) → p other ≡ true → IsOpenTo other) → first_taken node s writing (filter p (counting from n)) ≡ None
  none_counted from zero free = refl
  none_counted from (suc n) free = elim (cases_Bool (p from)) [
    | inl is ↦
        let both = free from is in
        let others : List ℕ = filter p (counting (from + 1) n) in
        rw is
        (ap (λ b. refuse_if (not b) (NotHere from) (refuse_if (is_busy writing s from) (Busy from) (first_taken node s writing others))) both.0
        ∙ ap (λ b. refuse_if b (Busy from) (first_taken node s writing others)) both.1 ∙ none_counted (from + 1) n free)
    | inr not ↦ rw not (none_counted (from + 1) n free)
  ]

here_is : (node : ℕ) (p : Place) → p ≡ At node → is_at node p ≡ true
here_is node p is = rw is (eq-eqb node node refl)

segment_known : (g : Geometry) (n : ℕ) → is_segment g n ≡ true → (1 ≤ n) × (n ≤ g.segments)
segment_known g n is = (let both = and-both (nat_le 1 n) (nat_le n g.segments) is in (leb-true 1 n both.0, leb-true n g.segments both.1))

pub free_seat : (seat : Seat) → is_free seat ≡ true → seat ≡ Free
free_seat Free is = refl
free_seat (Open tx) is = absurd cc
free_seat (Reserved tx number) is = absurd cc

-- The others' images, whatever the machine is

module _ (i : ℕ) (old new : Here) (segments reading : List ℕ) (tx : Tx) (begins : Begins the_images i segments reading old new tx) (free : (n : ℕ) → IsLockable the_images old segments reading n) where
  pub runs_begun : (seats : List Seat) → slice_get seats i ≡ Some Free → RunsOn the_images new tx → AllRun old seats → AllRun new (slice_set seats i (Open tx))
  runs_begun seats at runs all j other has =
      let its = seat_of (slice_set seats i (Open tx)) j other has in
      elim (at_place seats i j Free (Open tx) its.0 at its.1) [
        | inl mine ↦
            let same : tx ≡ other = same_some tx other (ap (λ x. holder_of (Some x)) (sym mine.1) ∙ its.2) in
            subst (λ x. Runs new j x) same (record { own = begins.thread_is ∙ sym mine.0; runs = runs })
        | inr there ↦
            let theirs = all j other (ap holder_of there.1 ∙ its.2) in
            record { own = theirs.own; runs = runs_beside the_images old new other theirs.runs (begin_keeps the_images old new tx other theirs.runs i segments reading begins free) }
      ]

module _ (m : Setting) (node i : ℕ) (old : Here) (seats : List Seat) (s : State) (segments reading : List ℕ) (h : FitsDesk m node old seats s) where
  abbrev content : Content
  content = value m.start s.earlier s.history

  -- a thread that has a transaction begins no other
  pub not_free : (seat : Seat) → FitsSeat old node i content s seat → is_free seat ≡ false → Row m s (Begin node i segments reading) (Refused OutOfTurn) s
  not_free Free fits is = absurd cc
  not_free (Open tx) fits is = begin-no_turn m s node i segments reading (or_left (is_some (running_of node i s)) (has_unclosed node i s) (ap is_some fits.running))
  not_free (Reserved tx number) fits is = begin-no_turn m s node i segments reading (or_right (is_some (running_of node i s)) (has_unclosed node i s) fits.unclosed_is)

  module _ (at : slice_get seats i ≡ Some Free) (known : is_known m.geometry (Begin node i segments reading) ≡ true) (sound : Sound m.geometry s) (runs : AllRun old seats) where
    turn : (is_some (running_of node i s) || has_unclosed node i s) ≡ false
    turn = (let fits = h.threads i Free at in rw (fits.0, fits.1) refl)

    asked_known : (n : ℕ) → is_member n (segments ++ reading) ≡ true → (1 ≤ n) × (n ≤ m.geometry.segments)
    asked_known n member = segment_known m.geometry n (all_member (is_segment m.geometry) (segments ++ reading) n (seat_known m.geometry node i (segments ++ reading) known).2 member)

    -- what can be locked is no refusal
    open_to : (n : ℕ) → is_member n (segments ++ reading) ≡ true → IsLockable the_images old segments reading n → (is_at node (s.place n) ≡ true) × (is_busy segments s n ≡ false)
    open_to n member lockable = elim (cases_Bool (is_member n segments)) [
      | inl writes ↦
          let is = lockable.for_writing writes in
          (here_is node (s.place n) (h.places n is.0), ap (λ b. if b then is_held n s else is_locked n s) writes ∙ free-unheld m node old seats s h sound runs n is.0 is.1)
      | inr only ↦
          let is = lockable.for_reading (read_only n member only) in
          (here_is node (s.place n) (h.places n is.0), ap (λ b. if b then is_held n s else is_locked n s) only ∙ unwritten-unlocked m node old seats s h sound runs n is.0 is.1)
    ]
      where
        read_only : (n : ℕ) → is_member n (segments ++ reading) ≡ true → is_member n segments ≡ false → is_member n reading ≡ true
        read_only n member only = subst (λ b. (b || is_member n reading) ≡ true) only (sym (member_both n segments reading) ∙ member)

    busy_at : (x : ℕ) → IsHere the_images old x → (IsLockable the_images old segments reading x → ⊥) → is_busy segments s x ≡ true
    busy_at x here taken = elim (cases_Bool (is_member x segments)) [
      | inl writes ↦
          ap (λ b. if b then is_held x s else is_locked x s) writes
          ∙ not_free-held m node old seats s h x here (λ free. taken (record { for_writing = λ asked. (here, free); for_reading = λ asked. (here, ap writer_of free) }))
      | inr only ↦ ap (λ b. if b then is_held x s else is_locked x s) only ∙ written x here taken only (writer_of (holders_of the_images old x)) refl
    ]
      where
        written : (x : ℕ) → IsHere the_images old x → (IsLockable the_images old segments reading x → ⊥) → is_member x segments ≡ false → (w : Option ℕ) → writer_of (holders_of the_images old x) ≡ w → is_locked x s ≡ true
        written x here taken only None is = absurd (taken (record { for_writing = λ asked. absurd (true≢false (sym asked ∙ only)); for_reading = λ asked. (here, is) }))
        written x here taken only (Some k) is = writer-locked m node old seats s h x k here is

    refused_at : (x : ℕ) (refusal : Refusal) → IsFirstTaken the_images old segments reading x
        → ((next : Option Refusal) → refuse_if (not (is_at node (s.place x))) (NotHere x) (refuse_if (is_busy segments s x) (Busy x) next) ≡ Some refusal)
        → Row m s (Begin node i segments reading) (Refused refusal) s
    refused_at x refusal first taken =
        let member = member_both x segments reading ∙ first.member in
        let bounds = asked_known x member in
        begin-refused m s node i segments reading refusal turn
        (first_counted node s segments (λ k. is_member k (segments ++ reading)) x refusal 1 m.geometry.segments member bounds.0 (omega (arith, bounds.1)) (λ other asked less. open_to other asked (first.least other less)) taken)

    pub begin_fault : (r : Result (Unit {0}) TxFault) (fault : TxFault) (refusal : Refusal)
        → ((n : ℕ) → (r ≡ Err (IsNotHere n)) ↔ (IsFirstTaken the_images old segments reading n × (the_images.number_of old n ≡ None)))
        → ((n : ℕ) → (r ≡ Err (IsBusy n)) ↔ (IsFirstTaken the_images old segments reading n × IsHere the_images old n))
        → is_of_begin fault ≡ true → r ≡ Err fault → refusal_of fault ≡ Some refusal → Row m s (Begin node i segments reading) (Refused refusal) s
    begin_fault r (IsBusy x) refusal not_here busy may err same =
        let why = (busy x).0 err in
        subst (λ (f : Refusal). Row m s (Begin node i segments reading) (Refused f) s) (same_some (Busy x) refusal same)
        (refused_at x (Busy x) why.0 (λ next.
        ap (λ b. refuse_if (not b) (NotHere x) (refuse_if (is_busy segments s x) (Busy x) next)) (here_is node (s.place x) (h.places x why.1))
        ∙ ap (λ b. refuse_if b (Busy x) next) (busy_at x why.1 why.0.taken)))
    begin_fault r (IsNotHere x) refusal not_here busy may err same =
        let why = (not_here x).0 err in
        let bounds = asked_known x (member_both x segments reading ∙ why.0.member) in
        subst (λ (f : Refusal). Row m s (Begin node i segments reading) (Refused f) s) (same_some (NotHere x) refusal same)
        (refused_at x (NotHere x) why.0 (λ next. rw (h.elsewhere x bounds.0 bounds.1 why.1) refl))
    begin_fault r NoMemory refusal not_here busy may err same = absurd (let none : None ≡ Some refusal = same in cc)
    begin_fault r IsNotLocked refusal not_here busy may err same = absurd (false≢true may)
    begin_fault r IsOutside refusal not_here busy may err same = absurd (false≢true may)
    begin_fault r HasNoRange refusal not_here busy may err same = absurd (false≢true may)
    begin_fault r (IsTooLong x) refusal not_here busy may err same = absurd (false≢true may)
    begin_fault r (IsSpent x) refusal not_here busy may err same = absurd (false≢true may)
    begin_fault r IsEmpty refusal not_here busy may err same = absurd (false≢true may)
    begin_fault r AreTooMany refusal not_here busy may err same = absurd (false≢true may)
    begin_fault r (IsReadOnly x) refusal not_here busy may err same = absurd (false≢true may)

    module _ (new : Here) (tx : Tx) (begins : Begins the_images i segments reading old new tx) (free : (n : ℕ) → IsLockable the_images old segments reading n) where
      abbrev after : State
      after = begun m.geometry s node i segments reading

      reads_asked : (n : ℕ) → Reads tx n → is_member n reading ≡ true
      reads_asked n read = asked_reading the_images old new i segments reading tx begins n read

      pub begin_row : Row m s (Begin node i segments reading) Accepted after
      begin_row = begin-done m s node i segments reading turn
          (none_counted node s segments (λ k. is_member k (segments ++ reading)) 1 m.geometry.segments (λ other member. open_to other member (free other)))

      locked_is : tx.locked.items ≡ ascending m.geometry segments
      locked_is = set_is_ascending m.geometry segments tx.locked.items begins.locked_are (λ n member. asked_known n (in_first n segments reading member))

      reading_is : tx.reading.items ≡ ascending m.geometry (beside segments reading)
      reading_is = set_is_ascending m.geometry (none_of segments reading) tx.reading.items begins.reading_are
          (λ n member. asked_known n (in_second n segments reading (reads_asked n (begins.reading_are.same n ∙ member))))

      own_open : IsOpen new node i tx content after
      own_open =
          let show : Show the_images old (segments ++ reading) content = record {
            inside = λ n member. (let bounds = asked_known n member in (bounds.0, omega (arith, bounds.1, ap length h.shape, length-map content length, length-replicate m.geometry.segments (segment_len m.geometry))));
            shown = λ n member. elim (or_cases (is_member n segments) (is_member n reading) (sym (member_both n segments reading) ∙ member)) [
              | inl writes ↦ (let is = (free n).for_writing writes in h.shown n is.0 (ap writer_of is.1))
              | inr read ↦ (let is = (free n).for_reading read in h.shown n is.0 is.1)
            ];
          } in
          let same : begun_on content node tx ≡ new_one m.geometry node i segments reading =
          ap (λ n. record { node = node; thread = n; locked = tx.locked.items; reading = tx.reading.items; marks = unmarked content; writes = [] }) begins.thread_is
          ∙ ap (λ l. record { node = node; thread = i; locked = l; reading = tx.reading.items; marks = unmarked content; writes = [] }) locked_is
          ∙ ap (λ l. record { node = node; thread = i; locked = ascending m.geometry segments; reading = l; marks = unmarked content; writes = [] }) reading_is
          ∙ ap (λ ms. record { node = node; thread = i; locked = ascending m.geometry segments; reading = ascending m.geometry (beside segments reading); marks = ms; writes = [] }) (no_marks_are content m.geometry.segments (segment_len m.geometry) h.shape) in
          record {
            transaction = new_one m.geometry node i segments reading;
            running = running-begun m.geometry s node i segments reading;
            unclosed = (h.threads i Free at).1;
            stands = subst (λ (u : Transaction). StandsFor the_images new tx content u) same (begun_stands the_images old new i node segments reading tx content begins show);
          }

      pub begun_but : SameButOpen node s after
      begun_but = record {
        earlier = refl;
        history = refl;
        place = refl;
        phase = refl;
        ack = refl;
        halted = refl;
        flush = refl;
        running = λ other thread differ. running-begun_other m.geometry s node i segments reading other thread (λ same _. differ (sym same));
      }

      abbrev both : List ℕ
      both = tx.locked.items ++ tx.reading.items

      was_here : (n : ℕ) → IsHere the_images new n → IsHere the_images old n
      was_here n here = was old new both begins.held.same n here

      same_image : (n : ℕ) → IsHere the_images new n → is_member n both ≡ false → the_images.image_of new n ≡ the_images.image_of old n
      same_image n here other = image_is old new both begins.held.same n here other

      -- where it locked the segment for writing, for reading, or not at all
      locked_how : (P : Type 0) (n : ℕ) → (Locked tx n → P) → (Reads tx n → P) → (is_member n both ≡ false → P) → P
      locked_how P n locked read other = elim (cases_Bool (is_member n tx.locked.items)) [
        | inl lock ↦ locked lock
        | inr no_lock ↦ elim (cases_Bool (is_member n tx.reading.items)) [
          | inl reads ↦ read reads
          | inr no_read ↦ other (not_both n tx.locked.items tx.reading.items no_lock no_read)
        ]
      ]

      own_sits : (k : ℕ) → i ≡ k → Sits (slice_set seats i (Open tx)) k tx
      own_sits k same = ap (λ (j : ℕ). holder_of (slice_get (slice_set seats i (Open tx)) j)) (sym same) ∙ ap holder_of (get_set_same seats i Free (Open tx) at)

      still_sits : (k : ℕ) (other : Tx) → Sits seats k other → Sits (slice_set seats i (Open tx)) k other
      still_sits k other sits = elim (cases_eq k i) [
        | inl same ↦ absurd (let no : None ≡ Some other = sym (ap (λ (j : ℕ). holder_of (slice_get seats j)) same ∙ ap holder_of at) ∙ sits in cc)
        | inr differ ↦ ap holder_of (get_set_other seats i k (Open tx) differ) ∙ sits
      ]

      pub desk_begun : FitsDesk m node new (slice_set seats i (Open tx)) after
      desk_begun = record {
        all_seats = length-set seats i (Open tx) ∙ h.all_seats;
        shape = h.shape;
        threads = λ j seat got. elim (at_place seats i j Free (Open tx) seat at got) [
          | inl mine ↦ subst (λ x. FitsSeat new node j content after x) (sym mine.1) (subst (λ (k : ℕ). IsOpen new node k tx content after) (sym mine.0) own_open)
          | inr there ↦ seat_beside old new node j content s after seat (h.threads j seat there.1)
              (running-begun_other m.geometry s node i segments reading node j (λ _ same. there.0 (sym same))) refl
              (λ other has. (let theirs = runs j other (ap holder_of there.1 ∙ has) in (theirs.runs, begin_keeps the_images old new tx other theirs.runs i segments reading begins free)))
        ];
        shown = λ n here none. locked_how (bytes_of the_images new n ≡ segment_of n content) n
            (λ lock. absurd (let no : None ≡ Some i = sym none ∙ ap writer_of (begins.held.writer_is n lock) in cc))
            (λ read. (let is = (free n).for_reading (reads_asked n read) in begins.held.same_bytes n (in_second n tx.locked.items tx.reading.items read) ∙ h.shown n is.0 is.1))
            (λ other. ap (λ (p : Picture). p.bytes.items) (same_image n here other) ∙ h.shown n (was_here n here) (ap (λ (p : Picture). writer_of p.holders) (sym (same_image n here other)) ∙ none));
        sizes = λ n here. locked_how (length (bytes_of the_images new n) ≡ segment_len m.geometry) n
            (λ lock. ap length (begins.held.same_bytes n (in_first n tx.locked.items tx.reading.items lock)) ∙ h.sizes n (was_here n here))
            (λ read. ap length (begins.held.same_bytes n (in_second n tx.locked.items tx.reading.items read)) ∙ h.sizes n (was_here n here))
            (λ other. ap (λ (p : Picture). length p.bytes.items) (same_image n here other) ∙ h.sizes n (was_here n here));
        writer = λ n k here is. locked_how ((other : Tx) × Sits (slice_set seats i (Open tx)) k other × Locked other n) n
            (λ lock. (tx, own_sits k (same_some i k (sym (ap writer_of (begins.held.writer_is n lock)) ∙ is)), lock))
            (λ read. absurd (let no : None ≡ Some k = sym (begins.held.joins n read).no_writer ∙ is in cc))
            (λ other.
            let theirs = h.writer n k (was_here n here) (ap (λ (p : Picture). writer_of p.holders) (sym (same_image n here other)) ∙ is) in
            (theirs.0, still_sits k theirs.0 theirs.1, theirs.2));
        readers = λ n k here is. locked_how ((other : Tx) × Sits (slice_set seats i (Open tx)) k other × Reads other n) n
            (λ lock. absurd (true≢false (sym is ∙ ap (λ (o : Holders). reads o k) (begins.held.writer_is n lock))))
            (λ read. elim (cases_eq i k) [
              | inl same ↦ (tx, own_sits k same, read)
              | inr differ ↦
                  let theirs = h.readers n k (was_here n here) (ap (λ b. b || reads (holders_of the_images old n) k) (sym (ne_eqb i k differ)) ∙ sym ((begins.held.joins n read).readers_are k) ∙ is) in
                  (theirs.0, still_sits k theirs.0 theirs.1, theirs.2)
            ])
            (λ other.
            let theirs = h.readers n k (was_here n here) (ap (λ (p : Picture). reads p.holders k) (sym (same_image n here other)) ∙ is) in
            (theirs.0, still_sits k theirs.0 theirs.1, theirs.2));
        places = λ n here. h.places n (was_here n here);
        elsewhere = λ n first last none. h.elsewhere n first last (sym (begins.held.same.numbers n) ∙ none);
      }
