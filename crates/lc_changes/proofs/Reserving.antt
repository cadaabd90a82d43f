-- Ends: what the store and the list of events come to.
use Rattle.std.proofs.Common.{◌≡◌, ℕ, true, false, List, [], ◌∷◌, ◌++◌, Option, Some, None, refl, sym, ◌∙◌, ap, subst, inl, inr}
use Rattle.lc_record.specs.Content.{Content, segment_of}
use Rattle.lc_record.specs.Transaction.{ByteWrite, Marks, Transaction, all_set, effect, effects, locks, writes_on}
use Rattle.lc_record.specs.Marks.{ascending, beside, is_empty, no_marks}
use Rattle.lc_record.specs.declared.geometry.Geometry.{Geometry}
use Rattle.lc_record.proofs.LockLemmas.{meet_same}
use Rattle.lc_range.specs.declared.range.Range.{Range}
use Rattle.lc_model.specs.History.{transactions, value}
use Rattle.lc_model.specs.Machine.{Run, Step, Row, ReserveRow, appended, begun, dropped, may_refuse_reserve}
use Rattle.lc_model.specs.Refusals.{Unless, OfRunning, are_known, by_thread, common_refusal, is_up}
use Rattle.lc_model.specs.Sound.{Sound, AreApart, IsProper}
use Rattle.lc_model.specs.State.{State, Setting, is_by, running_of}
use Rattle.lc_model.specs.declared.event.Event.TheVariants.{Begin, Abort, Reserve}
use Rattle.lc_model.specs.declared.refusal.Refusal.{Refusal}
use Rattle.lc_model.specs.declared.reply.Reply.{Reply}
use Rattle.lc_model.specs.declared.reply.Reply.TheVariants.{Ended, Ok as Accepted, Refused, Reserved}
use Rattle.lc_model.proofs.Fronts.{entry}
use Rattle.lc_model.proofs.Keeps.{match-case, sound-run, sound-step}
use Rattle.lc_model.proofs.Law.{effects-append}
use Rattle.lc_model.proofs.Lists.{found-all}
use Rattle.lc_model.proofs.Rows.{common-none, reserve-done, reserve-ended, reserve-refused, step-row}
use Rattle.lc_model.proofs.Seats.{new_one, running-begun, running-begun_other, running-dropped, running-dropped_other, value-appended}
use Rattle.lc_changes.specs.Gathering.{LieInImages}
use Rattle.lc_changes.specs.Images.{Images}
use Rattle.lc_changes.specs.Calls.{AreRangesOf, BeginsAgain, Ends, Fails, Breaks, Done, DoesEnd, IsLike, IsWorking, OnlyHasSet, SameWorkspace, Serves, Workspace, accepting, as_events, handing, shown}
use Rattle.lc_changes.proofs.Alone.{abort-made, begin-made, unmet}
use Rattle.lc_changes.proofs.Ending.{Block, abort-of, block, others-free}
use Rattle.lc_changes.proofs.HandedOver.{handed, handed-effect, handed-is, handed-marks, hands-over, new-unset, nothing-written, unlocked}
use Rattle.lc_changes.proofs.Like.{like-push, step-like}
use Rattle.lc_changes.proofs.Private.{apart_of}
use Rattle.lc_changes.proofs.Standing.{Opened, Served, Standing, all-threads, like-dropped, like-running, like-working, none-found, same-opened, stands-on}
use Rattle.lc_changes.proofs.Working.{after, after-is, gives-append, its-thread, same-working}

-- Begun again

abbrev seated : ℕ → ℕ → List ℕ → List ℕ → Marks → List ByteWrite → Transaction
seated node thread locked reading marks writes = record { node = node; thread = thread; locked = locked; reading = reading; marks = marks; writes = writes }

-- a transaction of which the store has nothing set is the one that begins with its locks
is-new : (g : Geometry) (t : Transaction) (n k : ℕ) (segments reading : List ℕ) → t.node ≡ n → t.thread ≡ k → t.locked ≡ ascending g segments → t.reading ≡ ascending g (beside segments reading) → t.marks ≡ no_marks g → t.writes ≡ []
    → t ≡ new_one g n k segments reading
is-new g t n k segments reading nodes threads locked read marks writes =
    ap (λ x. seated x t.thread t.locked t.reading t.marks t.writes) nodes
    ∙ ap (λ x. seated n x t.locked t.reading t.marks t.writes) threads
    ∙ ap (λ x. seated n k x t.reading t.marks t.writes) locked
    ∙ ap (λ x. seated n k (ascending g segments) x t.marks t.writes) read
    ∙ ap (λ x. seated n k (ascending g segments) (ascending g (beside segments reading)) x t.writes) marks
    ∙ ap (λ x. seated n k (ascending g segments) (ascending g (beside segments reading)) (no_marks g) x) writes

again-on : (m : Setting) (s i mid new : State) (w later : Workspace) (done : ℕ → ℕ → List Done) (n k : ℕ) (segments reading : List ℕ) (v : Transaction) → Standing m s i w done → running_of n k mid ≡ Some v → dropped mid n k ≡ dropped s n k
    → BeginsAgain m s mid n k segments reading new → SameWorkspace w later → Sound m.geometry mid → IsWorking new
    → (next : State) × Step m (dropped i n k) (Begin n k segments reading) Accepted next × Standing m new next later done
again-on m s i mid new w later done n k segments reading v stands found_mid same_mid again same sound_mid works =
    let t : Transaction = again.t in
    let found : running_of n k s ≡ Some t = again.runs in
    let o : Opened m (value m.start s.earlier s.history) w n k t (done n k) = stands.opened n k t found in
    let by : (t.node ≡ n) × (t.thread ≡ k) = its-thread s n k t found in
    let left_is : again.left ≡ dropped s n k = abort-made m mid again.left n k v found_mid again.aborts ∙ same_mid in
    let begins : Step m (dropped s n k) (Begin n k segments reading) Accepted new = subst (λ (x : State). Step m x (Begin n k segments reading) Accepted new) left_is again.begins in
    let next = step-like m (dropped s n k) (dropped i n k) new (Begin n k segments reading) Accepted (like-dropped m s i n k stands.like) stands.works.up tt begins in
    let new_is : new ≡ begun m.geometry (dropped s n k) n k segments reading = begin-made m (dropped s n k) new n k segments reading begins in
    let first_is : t ≡ new_one m.geometry n k segments reading = is-new m.geometry t n k segments reading by.0 by.1 again.same_locked again.same_reading o.marks o.writes in
    let running : (a b : ℕ) → running_of a b new ≡ running_of a b s = all-threads (λ a b. running_of a b new ≡ running_of a b s) n k
    (ap (running_of n k) new_is ∙ running-begun m.geometry (dropped s n k) n k segments reading ∙ ap (λ (x : Transaction). Some x) (sym first_is) ∙ sym found)
    (λ a b differ. ap (running_of a b) new_is ∙ running-begun_other m.geometry (dropped s n k) n k segments reading a b differ ∙ running-dropped_other s n k a b differ) in (
      next.0,
      next.1,
      stands-on m s i new next.0 w later done running (ap (λ (x : State). value m.start x.earlier x.history) new_is) same
          (sound-step m again.left (Begin n k segments reading) Accepted new (sound-step m mid (Abort n k) Accepted again.left sound_mid again.aborts) again.begins) works next.2 stands,
    )

-- What is handed over

-- what the store holds of a transaction whose ranges were handed over, beside what its own work made of it
record Over (m : Setting) (s h : State) (n k : ℕ) (u v : Transaction) : Type 0 where
  found : running_of n k h ≡ Some v
  same : dropped h n k ≡ dropped s n k
  sound : Sound m.geometry h
  works : IsWorking h
  marks : v.marks ≡ u.marks
  writes : writes_on u.writes (value m.start s.earlier s.history) ≡ writes_on v.writes (value m.start s.earlier s.history)
  transaction : u ≡ record v { writes = u.writes }

pub hands-its-work : (m : Setting) (s h : State) (n k : ℕ) (images : Images) (ranges : List Range) (t done : Transaction) → Sound m.geometry s → running_of n k s ≡ Some t → t.marks ≡ no_marks m.geometry → t.writes ≡ []
    → OnlyHasSet t done → IsProper m.geometry done → AreRangesOf done.marks ranges → LieInImages images ranges → ((g : ℕ) → locks done g ≡ true → images g ≡ shown done (value m.start s.earlier s.history) g)
    → Run m s (handing n k images ranges) (accepting ranges) h
    → (v : Transaction) × (running_of n k h ≡ Some v) × (v.marks ≡ done.marks) × (effect v (value m.start s.earlier s.history) ≡ effect done (value m.start s.earlier s.history)) × (v ≡ handed images t ranges)
hands-its-work m s h n k images ranges t done sound found marks_none writes_none only proper ranges_set inside are run =
    let v : Transaction = handed images t ranges in
    let hand = hands-over m n k images ranges s h t found run in
    let sound_h : Sound m.geometry h = sound-run m s (handing n k images ranges) (accepting ranges) h sound run in
    let proper_t : IsProper m.geometry t = found-all (is_by n k) (IsProper m.geometry) s.running t found sound.running_proper in
    let proper_v : IsProper m.geometry v = found-all (is_by n k) (IsProper m.geometry) h.running v hand.0 sound_h.running_proper in
    let locks_same : (g : ℕ) → locks v g ≡ locks done g = λ g. ap (λ (x : Transaction). locks x g) (handed-is images t ranges) ∙ sym (ap (λ (x : Transaction). locks x g) only) in (
      handed images t ranges,
      hand.0,
      handed-marks images t ranges done.marks (λ g j. ap (λ (x : Marks). all_set j 1 (segment_of g x)) marks_none ∙ new-unset m.geometry g j)
          (proper_t.shaped ∙ sym proper.shaped) (proper_v.shaped ∙ sym proper.shaped) ranges_set,
      handed-effect images t done ranges (value m.start s.earlier s.history) writes_none proper.well proper_v.well locks_same ranges_set inside are,
      refl,
    )

pub hands-then-aborts : (m : Setting) (s h new : State) (n k : ℕ) (images : Images) (ranges : List Range) (t : Transaction) → running_of n k s ≡ Some t → Run m s (handing n k images ranges) (accepting ranges) h → Step m h (Abort n k) Accepted new → new ≡ dropped s n k
hands-then-aborts m s h new n k images ranges t found run step =
    let hand = hands-over m n k images ranges s h t found run in
    abort-made m h new n k (handed images t ranges) hand.0 step ∙ hand.1

over : (m : Setting) (s i : State) (w : Workspace) (done : ℕ → ℕ → List Done) (n k : ℕ) (ranges : List Range) (reply : Reply) (new : State) → Standing m s i w done → (e : DoesEnd m s w n k ranges reply new)
    → Over m s e.handed n k (after e.t (done n k)) (handed w.images e.t ranges)
over m s i w done n k ranges reply new stands e =
    let content : Content = value m.start s.earlier s.history in
    let t : Transaction = e.t in
    let u : Transaction = after e.t (done n k) in
    let v : Transaction = handed w.images e.t ranges in
    let o : Opened m content w n k t (done n k) = stands.opened n k t e.runs in
    let hand = hands-over m n k w.images ranges s e.handed t e.runs e.hands in
    let locks_u : (g : ℕ) → locks u g ≡ locks t g = λ g. ap (λ (x : Transaction). locks x g) (after-is t (done n k)) in
    let makes = hands-its-work m s e.handed n k w.images ranges t u stands.sound e.runs o.marks o.writes (after-is t (done n k)) o.proper
    (subst (λ (marks : Marks). AreRangesOf marks ranges) (sym o.set) e.ranges_set) e.inside (λ g lock. o.images g (sym (locks_u g) ∙ lock)) e.hands in
    let marks : v.marks ≡ u.marks = ap (λ (x : Transaction). x.marks) (sym makes.4) ∙ makes.2 in
    record {
      found = hand.0;
      same = hand.1;
      sound = sound-run m s (handing n k w.images ranges) (accepting ranges) e.handed stands.sound e.hands;
      works = same-working s e.handed n k hand.1 stands.works;
      marks = marks;
      writes = sym makes.3 ∙ ap (λ (x : Transaction). writes_on x.writes (value m.start s.earlier s.history)) makes.4;
      transaction = after-is t (done n k) ∙ ap (λ (x : Marks). record t { marks = x; writes = u.writes }) (sym marks) ∙ sym (ap (λ (x : Transaction). record x { writes = u.writes }) (handed-is w.images t ranges));
    }

dropped-at : (s : State) (a b n k : ℕ) → a ≡ n → b ≡ k → dropped s a b ≡ dropped s n k
dropped-at s a b n k nodes threads = ap (λ (x : ℕ). dropped s x b) nodes ∙ ap (λ (y : ℕ). dropped s n y) threads

-- the last entry of a history that had none of it
abbrev with_last : State → Transaction → State
with_last s t = record s { history = s.history ++ entry t false ∷ [] }

appended-is : (s : State) (t : Transaction) (n k : ℕ) → t.node ≡ n → t.thread ≡ k → appended s t ≡ with_last (dropped s n k) t
appended-is s t n k nodes threads = ap (λ (x : State). with_last x t) (dropped-at s t.node t.thread n k nodes threads)

reserve-row : (m : Setting) (h : State) (n k : ℕ) (v : Transaction) (reply : Reply) (new : State) → IsWorking h → are_known m.geometry (by_thread n k []) ≡ true → running_of n k h ≡ Some v → Step m h (Reserve n k) reply new → ReserveRow h v reply new
reserve-row m h n k v reply new works known found step =
    subst (λ (o : Option Transaction). OfRunning o h reply new (λ x. ReserveRow h x reply new)) found
    (subst (λ (o : Option Refusal). Unless o h reply new (Row m h (Reserve n k) reply new)) (common-none m.geometry h (Reserve n k) (ap is_up works.up) known (works.not_halted n)) step)

-- the thread has none open, and the value has what its work made
gone-on : (m : Setting) (s i new next : State) (w later : Workspace) (done : ℕ → ℕ → List Done) (n k : ℕ) (t : Transaction) → Standing m s i w done → running_of n k s ≡ Some t → ((a b : ℕ) → (n ≡ a → k ≡ b → ⊥) → running_of a b new ≡ running_of a b s)
    → running_of n k new ≡ None → value m.start new.earlier new.history ≡ writes_on (after t (done n k)).writes (value m.start s.earlier s.history) → SameWorkspace w later → Sound m.geometry new → IsWorking new → IsLike m new next
    → Standing m new next later done
gone-on m s i new next w later done n k t stands found others gone valued same sound works like =
    let content : Content = value m.start s.earlier s.history in
    let now : Content = value m.start new.earlier new.history in
    let u : Transaction = after t (done n k) in
    let o : Opened m content w n k t (done n k) = stands.opened n k t found in
    let same_locked : u.locked ≡ t.locked = ap (λ (x : Transaction). x.locked) (after-is t (done n k)) in
    let same_reading : u.reading ≡ t.reading = ap (λ (x : Transaction). x.reading) (after-is t (done n k)) in
    let locks_u : (g : ℕ) → locks u g ≡ locks t g = λ g. ap (λ (x : Transaction). locks x g) (after-is t (done n k)) in
    record {
      sound = sound;
      works = works;
      like = like;
      opened = all-threads (λ a b. (x : Transaction) → running_of a b new ≡ Some x → Opened m now later a b x (done a b)) n k
          (λ x is. absurd (none-found (running_of n k new) x gone is))
          (λ a b differ x is.
          let was : running_of a b s ≡ Some x = sym (others a b differ) ∙ is in
          let apart : AreApart t x = apart_of m s a b n k x t stands.sound differ was found in
          same-opened m content now w later a b x (done a b) (same.set a b) (λ g lock. same.images g) (λ g lock. same.olds g)
          (λ g held. ap (segment_of g) valued ∙ unmet x u g content o.proper.well (λ meet. apart.locks_differ (meet_same u t x same_locked same_reading meet)) held)
          (stands.opened a b x was));
      unwritten = λ g free. elim (locks t g) as (λ d. locks t g ≡ d → later.images g ≡ segment_of g (value m.start new.earlier new.history)) [
        | true ↦ λ e. same.images g ∙ o.images g e ∙ ap (segment_of g) (sym valued)
        | false ↦ λ e.
            same.images g ∙ stands.unwritten g (others-free s new n k t g others found e free)
            ∙ sym (unlocked u content g o.proper.well (locks_u g ∙ e)) ∙ ap (segment_of g) (sym valued)
      ] refl;
    }

pub ends-on : (m : Setting) (s i new : State) (w later : Workspace) (done : ℕ → ℕ → List Done) (n k : ℕ) (ranges : List Range) (reply : Reply) → Standing m s i w done → IsWorking new → Serves m s w (Ends n k ranges reply) new later
    → Served m i new later done (Ends n k ranges reply)
ends-on m s i new w later done n k ranges reply stands works serves =
    let content : Content = value m.start s.earlier s.history in
    let e : DoesEnd m s w n k ranges reply new = serves.0 in
    let t : Transaction = e.t in
    let u : Transaction = after e.t (done n k) in
    let v : Transaction = handed w.images e.t ranges in
    let o : Opened m content w n k t (done n k) = stands.opened n k t e.runs in
    let z : Over m s e.handed n k u v = over m s i w done n k ranges reply new stands e in
    let b : Block m i n k t (done n k) = block m s i w done n k t stands e.runs in
    let of_v : (v.node ≡ n) × (v.thread ≡ k) = its-thread e.handed n k v z.found in
    let of_u : (u.node ≡ n) × (u.thread ≡ k) = its-thread b.y n k u b.found in
    let free : common_refusal m.geometry b.y (Reserve n k) ≡ None = common-none m.geometry b.y (Reserve n k) (ap is_up b.works.up) b.known (b.works.not_halted n) in
    let sound : Sound m.geometry new = sound-step m e.handed (Reserve n k) reply new z.sound e.reserves in
    let P : Type 0 = Served m i new later done (Ends n k ranges reply) in
    let given : (next : State) → Step m b.y (Reserve n k) reply next → Standing m new next later done → P = λ next step standing.
    (next, gives-append m (as_events n k (done n k)) (record { event = Reserve n k; reply = reply } ∷ []) i b.y next b.gives (next, step, refl), standing) in
    match-case P (is_empty v.marks) _ _
    (λ empty h.
    let empty_u : is_empty u.marks ≡ true = ap is_empty (sym z.marks) ∙ empty in
    let is : new ≡ dropped s n k = h.1 ∙ dropped-at e.handed v.node v.thread n k of_v.0 of_v.1 ∙ z.same in
    let step : Step m b.y (Reserve n k) Ended (dropped i n k) = subst (λ (x : State). Step m b.y (Reserve n k) Ended x) (dropped-at b.y u.node u.thread n k of_u.0 of_u.1 ∙ b.same)
    (step-row m b.y (Reserve n k) Ended (dropped b.y u.node u.thread) free (reserve-ended m b.y n k u b.found empty_u)) in
    given (dropped i n k) (subst (λ (r : Reply). Step m b.y (Reserve n k) r (dropped i n k)) (sym h.0) step)
    (gone-on m s i new (dropped i n k) w later done n k t stands e.runs
    (λ a c differ. ap (running_of a c) is ∙ running-dropped_other s n k a c differ) (ap (running_of n k) is ∙ running-dropped s n k)
    (ap (λ (x : State). value m.start x.earlier x.history) is ∙ sym (nothing-written u content o.proper.well empty_u))
    serves.2 sound works (subst (λ (x : State). IsLike m x (dropped i n k)) (sym is) (like-dropped m s i n k stands.like))))
    (λ some h. elim h [
      | inl now ↦
          let some_u : is_empty u.marks ≡ false = ap is_empty (sym z.marks) ∙ some in
          let is : new ≡ with_last (dropped s n k) v = now.3 ∙ appended-is e.handed v n k of_v.0 of_v.1 ∙ ap (λ (x : State). with_last x v) z.same in
          let next : State = with_last (dropped i n k) u in
          let step : Step m b.y (Reserve n k) (Reserved now.0 now.1) (with_last (dropped i n k) u) = subst (λ (x : State). Step m b.y (Reserve n k) (Reserved now.0 now.1) x) (appended-is b.y u n k of_u.0 of_u.1 ∙ ap (λ (x : State). with_last x u) b.same)
          (step-row m b.y (Reserve n k) (Reserved now.0 now.1) (appended b.y u) free (reserve-done m b.y n k u now.0 now.1 b.found some_u)) in
          let base : Content = effects s.earlier m.start in
          let place : Content = effects (transactions s.history) (effects s.earlier m.start) in
          let at_place : effect u (effects (transactions s.history) (effects s.earlier m.start)) ≡ effect v (effects (transactions s.history) (effects s.earlier m.start)) =
          subst (λ (c : Content). writes_on u.writes c ≡ writes_on v.writes c) (effects-append s.earlier (transactions s.history) m.start) z.writes in
          let like : IsLike m (with_last (dropped s n k) v) (with_last (dropped i n k) u) = record {
            beside = ap (λ (x : State). with_last (dropped x n k) u) stands.like.beside;
            earlier = stands.like.earlier;
            history = like-push (effects s.earlier m.start) s.history i.history (entry v false) (entry u false) stands.like.history (record { closed = refl; transaction = z.transaction; effect_is = at_place });
          } in
          given (with_last (dropped i n k) u) (subst (λ (r : Reply). Step m b.y (Reserve n k) r (with_last (dropped i n k) u)) (sym now.2) step)
          (gone-on m s i new (with_last (dropped i n k) u) w later done n k t stands e.runs
          (λ a c differ. ap (running_of a c) is ∙ running-dropped_other s n k a c differ) (ap (running_of n k) is ∙ running-dropped s n k)
          (ap (λ (x : State). value m.start x.earlier x.history) is ∙ value-appended m.start s v ∙ sym z.writes)
          serves.2 sound works (subst (λ (x : State). IsLike m x (with_last (dropped i n k) u)) (sym is) like))
      | inr refused ↦ absurd (serves.1 refused.0 refused.2)
    ])
    (reserve-row m e.handed n k v reply new z.works b.known z.found e.reserves)

-- An end that is refused, and one that finds no memory

pub fails-on : (m : Setting) (s i new : State) (w later : Workspace) (done : ℕ → ℕ → List Done) (n k : ℕ) (ranges : List Range) (refusal : Refusal) (segments reading : List ℕ) → Standing m s i w done → IsWorking new
    → Serves m s w (Fails n k ranges refusal segments reading) new later → Served m i new later done (Fails n k ranges refusal segments reading)
fails-on m s i new w later done n k ranges refusal segments reading stands works serves =
    let mid : State = serves.0 in
    let e : DoesEnd m s w n k ranges (Refused refusal) serves.0 = serves.1 in
    let t : Transaction = e.t in
    let u : Transaction = after e.t (done n k) in
    let v : Transaction = handed w.images e.t ranges in
    let z : Over m s e.handed n k u v = over m s i w done n k ranges (Refused refusal) serves.0 stands e in
    let b : Block m i n k t (done n k) = block m s i w done n k t stands e.runs in
    let free : common_refusal m.geometry b.y (Reserve n k) ≡ None = common-none m.geometry b.y (Reserve n k) (ap is_up b.works.up) b.known (b.works.not_halted n) in
    let P : Type 0 = Served m i new later done (Fails n k ranges refusal segments reading) in
    match-case P (is_empty v.marks) _ _
    (λ empty h. absurd (let never : Refused refusal ≡ Ended = h.0 in cc))
    (λ some h. elim h [
      | inl now ↦ absurd (let never : Refused refusal ≡ Reserved now.0 now.1 = now.2 in cc)
      | inr refused ↦
          let same_refusal : refused.0 ≡ refusal = (let told : Refused refusal ≡ Refused refused.0 = refused.2 in cc) in
          let step : Step m b.y (Reserve n k) (Refused refusal) b.y = step-row m b.y (Reserve n k) (Refused refusal) b.y free
          (reserve-refused m b.y n k u refusal b.found (ap is_empty (sym z.marks) ∙ some) (subst (λ (r : Refusal). may_refuse_reserve r ≡ true) same_refusal refused.1)) in
          let again = again-on m s i serves.0 new w later done n k segments reading v stands (ap (running_of n k) refused.3 ∙ z.found) (ap (λ (x : State). dropped x n k) refused.3 ∙ z.same)
          serves.2 serves.3 (subst (Sound m.geometry) (sym refused.3) z.sound) works in (
            again.0,
            gives-append m (as_events n k (done n k))
                (record { event = Reserve n k; reply = Refused refusal } ∷ record { event = Abort n k; reply = Accepted } ∷ record { event = Begin n k segments reading; reply = Accepted } ∷ []) i b.y again.0 b.gives
                (b.y, step, (dropped i n k, abort-of m i b.y n k u b.works b.known b.found b.same, (again.0, again.1, refl))),
            again.2,
          )
    ])
    (reserve-row m e.handed n k v (Refused refusal) serves.0 z.works b.known z.found e.reserves)

pub breaks-on : (m : Setting) (s i new : State) (w later : Workspace) (done : ℕ → ℕ → List Done) (n k : ℕ) (ranges : List Range) (segments reading : List ℕ) → Standing m s i w done → IsWorking new
    → Serves m s w (Breaks n k ranges segments reading) new later → Served m i new later done (Breaks n k ranges segments reading)
breaks-on m s i new w later done n k ranges segments reading stands works serves =
    let t : Transaction = serves.2.t in
    let found : running_of n k s ≡ Some t = serves.2.runs in
    let hand = hands-over m n k w.images ranges s serves.0 t found serves.1 in
    let b : Block m i n k t (done n k) = block m s i w done n k t stands found in
    let sound_mid : Sound m.geometry serves.0 = sound-run m s (handing n k w.images ranges) (accepting ranges) serves.0 stands.sound serves.1 in
    let again = again-on m s i serves.0 new w later done n k segments reading (handed w.images t ranges) stands hand.0 hand.1 serves.2 serves.3 sound_mid works in
    let abort : Step m i (Abort n k) Accepted (dropped i n k) = abort-of m i i n k t (like-working m s i stands.like stands.works) b.known (like-running m s i n k stands.like ∙ found) refl in
    (again.0, (dropped i n k, abort, (again.0, again.1, refl)), again.2)
