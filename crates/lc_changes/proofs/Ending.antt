-- What the calls under the lock leave, and what the machine answers in their place.
use Rattle.std.proofs.Common.{◌≡◌, ℕ, ◌<◌, true, false, List, [], ◌∷◌, find, Option, Some, None, All, refl, sym, ◌∙◌, ap, subst, inl, inr, true≢false}
use Rattle.std.proofs.lemmas.Bool.{lt-ltb}
use Rattle.lc_record.specs.Content.{Content, segment_of}
use Rattle.lc_record.specs.Transaction.{Transaction, locks}
use Rattle.lc_record.specs.Marks.{no_marks}
use Rattle.lc_record.specs.declared.geometry.Geometry.{Geometry}
use Rattle.lc_record.proofs.LockLemmas.{meet_locks}
use Rattle.lc_model.specs.History.{value}
use Rattle.lc_model.specs.Machine.{Step, Row, begun, dropped}
use Rattle.lc_model.specs.Refusals.{OfRunning, are_known, by_thread, common_refusal, begin_refusal, is_node, is_thread, is_up}
use Rattle.lc_model.specs.Sound.{Sound, AreApart, IsProper, unclosed}
use Rattle.lc_model.specs.State.{State, Setting, is_by, running_of}
use Rattle.lc_model.specs.declared.event.Event.{Event}
use Rattle.lc_model.specs.declared.event.Event.TheVariants.{Begin, SetRange, Write, Read, Abort, Reserve, Close, FlushStep, Leave, Arrive, Deliver, Trim, PageStep, ResetStep, Stop, RecoverStep}
use Rattle.lc_model.specs.declared.refusal.Refusal.{Refusal}
use Rattle.lc_model.specs.declared.refusal.Refusal.TheVariants.{OutOfTurn}
use Rattle.lc_model.specs.declared.reply.Reply.{Reply}
use Rattle.lc_model.specs.declared.reply.Reply.TheVariants.{Ok as Accepted, Refused}
use Rattle.lc_model.proofs.Keeps.{sound-step}
use Rattle.lc_model.proofs.Law.{AllPairs-head}
use Rattle.lc_model.proofs.Lists.{found-all, split}
use Rattle.lc_model.proofs.Rows.{abort-done, common-none, step-row}
use Rattle.lc_model.proofs.Seats.{new_one, running-begun, running-begun_other, running-dropped, running-dropped_other}
use Rattle.lc_changes.specs.Images.{Does, IsUnwritten}
use Rattle.lc_changes.specs.Calls.{Steps, Aborts, Done, Gives, IsWorking, SameWorkspace, Serves, Workspace, as_events, at_thread, done_by, set_by}
use Rattle.lc_changes.proofs.Alone.{abort-made, accepted}
use Rattle.lc_changes.proofs.Like.{like-value, step-like}
use Rattle.lc_changes.proofs.Private.{apart_of, unless_told, which}
use Rattle.lc_changes.proofs.Quiet.{IsQuiet, Leaves, step-leaves}
use Rattle.lc_changes.proofs.Standing.{Opened, Served, Standing, all-threads, like-dropped, like-running, like-working, none-found, one-found, same-opened, stands-on}
use Rattle.lc_changes.proofs.Working.{Answers, after, after-is, at-other, at-own, block-runs, gives-append, its-thread, same-working}

-- Events of the store itself

calm : (m : Setting) (s : State) (w later : Workspace) (done : ℕ → ℕ → List Done) (event : Event) (reply : Reply) → IsQuiet event → Does m.geometry s event reply w.images w.olds later.images later.olds
    → ((n k : ℕ) → later.set n k ≡ set_by m.geometry w.set event reply n k) → SameWorkspace w later × (done_by done (Steps event reply) ≡ done)
calm m s w later done (Begin n k segments reading) reply quiet does set = absurd quiet
calm m s w later done (SetRange n k segment offset len) reply quiet does set = absurd quiet
calm m s w later done (Write n k segment offset bytes) reply quiet does set = absurd quiet
calm m s w later done (Read n k segment offset len) reply quiet does set = absurd quiet
calm m s w later done (Abort n k) reply quiet does set = absurd quiet
calm m s w later done (Reserve n k) reply quiet does set = absurd quiet
calm m s w later done (Close n k) reply quiet does set = (record { images = does.0; olds = does.1; set = set }, refl)
calm m s w later done (FlushStep n) reply quiet does set = (record { images = does.0; olds = does.1; set = set }, refl)
calm m s w later done (Leave n segment) reply quiet does set = (record { images = does.0; olds = does.1; set = set }, refl)
calm m s w later done (Arrive n segment) reply quiet does set = (record { images = does.0; olds = does.1; set = set }, refl)
calm m s w later done (Deliver sender number segment to_node) reply quiet does set = (record { images = does.0; olds = does.1; set = set }, refl)
calm m s w later done (Trim n) reply quiet does set = (record { images = does.0; olds = does.1; set = set }, refl)
calm m s w later done (PageStep n segment page) reply quiet does set = (record { images = does.0; olds = does.1; set = set }, refl)
calm m s w later done (ResetStep n) reply quiet does set = (record { images = does.0; olds = does.1; set = set }, refl)
calm m s w later done (Stop choices) reply quiet does set = absurd quiet
calm m s w later done RecoverStep reply quiet does set = absurd quiet

quiet-on : (m : Setting) (s i new : State) (w later : Workspace) (done : ℕ → ℕ → List Done) (event : Event) (reply : Reply) → IsQuiet event → Standing m s i w done → IsWorking new → Serves m s w (Steps event reply) new later
    → Served m i new later done (Steps event reply)
quiet-on m s i new w later done event reply quiet stands works serves =
    let next = step-like m s i new event reply stands.like stands.works.up serves.0 serves.1 in
    let leaves : Leaves m s new = step-leaves m s new event reply quiet serves.1 in
    let same = calm m s w later done event reply quiet serves.2 serves.3 in (
      next.0,
      (next.0, next.1, refl),
      subst (λ (ds : ℕ → ℕ → List Done). Standing m new next.0 later ds) (sym same.1)
          (stands-on m s i new next.0 w later done (λ a b. ap (find (is_by a b)) leaves.running) leaves.valued same.0 (sound-step m s event reply new stands.sound serves.1) works next.2 stands),
    )

-- A begin

begin-refused : (m : Setting) (s i new : State) (w later : Workspace) (done : ℕ → ℕ → List Done) (n k : ℕ) (segments reading : List ℕ) (r : Refusal) → Standing m s i w done → IsWorking new → Serves m s w (Steps (Begin n k segments reading) (Refused r)) new later
    → new ≡ s → Served m i new later done (Steps (Begin n k segments reading) (Refused r))
begin-refused m s i new w later done n k segments reading r stands works serves is =
    let next = step-like m s i new (Begin n k segments reading) (Refused r) stands.like stands.works.up serves.0 serves.1 in (
      next.0,
      (next.0, next.1, refl),
      stands-on m s i new next.0 w later done (λ a b. ap (running_of a b) is) (ap (λ (x : State). value m.start x.earlier x.history) is)
          (record { images = serves.2.0; olds = serves.2.1; set = serves.3 }) (sound-step m s (Begin n k segments reading) (Refused r) new stands.sound serves.1) works next.2 stands,
    )

begin-accepted : (m : Setting) (s i : State) (w later : Workspace) (done : ℕ → ℕ → List Done) (n k : ℕ) (segments reading : List ℕ) → Standing m s i w done → IsWorking (begun m.geometry s n k segments reading)
    → Serves m s w (Steps (Begin n k segments reading) Accepted) (begun m.geometry s n k segments reading) later
    → Served m i (begun m.geometry s n k segments reading) later done (Steps (Begin n k segments reading) Accepted)
begin-accepted m s i w later done n k segments reading stands works serves =
    let new : State = begun m.geometry s n k segments reading in
    let content : Content = value m.start s.earlier s.history in
    let next = step-like m s i new (Begin n k segments reading) Accepted stands.like stands.works.up serves.0 serves.1 in
    let sound : Sound m.geometry new = sound-step m s (Begin n k segments reading) Accepted new stands.sound serves.1 in
    let first : Transaction = new_one m.geometry n k segments reading in
    let each : All (AreApart first) s.running = AllPairs-head AreApart first s.running (split AreApart (first ∷ s.running) (unclosed s.history) sound.apart).left in
    let apart : (a b : ℕ) (x : Transaction) → running_of a b s ≡ Some x → AreApart first x = λ a b x found. found-all (is_by a b) (AreApart first) s.running x found each in
    let differs : (a b : ℕ) (x : Transaction) → running_of a b s ≡ Some x → n ≡ a → k ≡ b → ⊥ = λ a b x found nodes threads.
    (let by : (x.node ≡ a) × (x.thread ≡ b) = its-thread s a b x found in (apart a b x found).threads_differ (nodes ∙ sym by.0) (threads ∙ sym by.1)) in
    let free : (g : ℕ) → locks first g ≡ true → IsUnwritten s g = λ g lock a b x found theirs. (apart a b x found).locks_differ (meet_locks first x g lock theirs) in
    let mine : running_of n k new ≡ Some first = running-begun m.geometry s n k segments reading in
    let own : Opened m content later n k first [] = record {
      marks = refl;
      writes = refl;
      proper = found-all (is_by n k) (IsProper m.geometry) new.running first mine sound.running_proper;
      set = sym (serves.3 n k ∙ at-own w.set n k (no_marks m.geometry));
      images = λ g lock. serves.2.0 g ∙ stands.unwritten g (free g lock);
      olds = λ g lock. serves.2.1 g lock ∙ stands.unwritten g (free g lock);
      answers = tt;
    } in (
      next.0,
      (next.0, next.1, refl),
      record {
        sound = sound;
        works = works;
        like = next.2;
        opened = all-threads (λ a b. (x : Transaction) → running_of a b new ≡ Some x → Opened m content later a b x (at_thread done n k [] a b)) n k
            (λ x found. subst (λ (y : Transaction). Opened m content later n k y (at_thread done n k [] n k)) (one-found (running_of n k new) first x mine found)
            (subst (Opened m content later n k first) (sym (at-own done n k [])) own))
            (λ a b differ x found.
            let was : running_of a b s ≡ Some x = sym (running-begun_other m.geometry s n k segments reading a b differ) ∙ found in
            subst (Opened m content later a b x) (sym (at-other done n k [] a b differ))
            (same-opened m content content w later a b x (done a b) (serves.3 a b ∙ at-other w.set n k (no_marks m.geometry) a b differ) (λ g lock. serves.2.0 g)
            (λ g lock. elim (locks first g) as (λ c. locks first g ≡ c → later.olds g ≡ w.olds g) [ true ↦ λ e. absurd (free g e a b x was lock) | false ↦ λ e. serves.2.2 g e ] refl)
            (λ g held. refl) (stands.opened a b x was)));
        unwritten = λ g none. serves.2.0 g ∙ stands.unwritten g (λ a b x found lock. none a b x (running-begun_other m.geometry s n k segments reading a b (differs a b x found) ∙ found) lock);
      },
    )

begins-on : (m : Setting) (s i new : State) (w later : Workspace) (done : ℕ → ℕ → List Done) (n k : ℕ) (segments reading : List ℕ) (reply : Reply) → Standing m s i w done → IsWorking new → Serves m s w (Steps (Begin n k segments reading) reply) new later
    → Served m i new later done (Steps (Begin n k segments reading) reply)
begins-on m s i new w later done n k segments reading reply stands works serves =
    let refused : (r : Refusal) → reply ≡ Refused r → new ≡ s → Served m i new later done (Steps (Begin n k segments reading) reply) = λ r is same.
    subst (λ (x : Reply). Served m i new later done (Steps (Begin n k segments reading) x)) (sym is)
    (begin-refused m s i new w later done n k segments reading r stands works (subst (λ (x : Reply). Serves m s w (Steps (Begin n k segments reading) x) new later) is serves) same) in
    unless_told (Served m i new later done (Steps (Begin n k segments reading) reply)) (common_refusal m.geometry s (Begin n k segments reading)) s reply new (Row m s (Begin n k segments reading) reply new) refused
    (λ none row. unless_told (Served m i new later done (Steps (Begin n k segments reading) reply)) (begin_refusal m.geometry s n k segments reading) s reply new _ refused
    (λ free h.
    subst (λ (x : Reply). Served m i new later done (Steps (Begin n k segments reading) x)) (sym h.0)
    (subst (λ (y : State). IsWorking y → Serves m s w (Steps (Begin n k segments reading) Accepted) y later → Served m i y later done (Steps (Begin n k segments reading) Accepted)) (sym h.1)
    (begin-accepted m s i w later done n k segments reading stands) works (subst (λ (x : Reply). Serves m s w (Steps (Begin n k segments reading) x) new later) h.0 serves))) row) serves.1

pub steps-on : (m : Setting) (s i new : State) (w later : Workspace) (done : ℕ → ℕ → List Done) (event : Event) (reply : Reply) → Standing m s i w done → IsWorking new → Serves m s w (Steps event reply) new later
    → Served m i new later done (Steps event reply)
steps-on m s i new w later done (Begin n k segments reading) reply stands works serves = begins-on m s i new w later done n k segments reading reply stands works serves
steps-on m s i new w later done (SetRange n k segment offset len) reply stands works serves = absurd serves.0
steps-on m s i new w later done (Write n k segment offset bytes) reply stands works serves = absurd serves.0
steps-on m s i new w later done (Read n k segment offset len) reply stands works serves = absurd serves.0
steps-on m s i new w later done (Abort n k) reply stands works serves = absurd serves.0
steps-on m s i new w later done (Reserve n k) reply stands works serves = absurd serves.0
steps-on m s i new w later done (Close n k) reply stands works serves = quiet-on m s i new w later done (Close n k) reply tt stands works serves
steps-on m s i new w later done (FlushStep n) reply stands works serves = quiet-on m s i new w later done (FlushStep n) reply tt stands works serves
steps-on m s i new w later done (Leave n segment) reply stands works serves = quiet-on m s i new w later done (Leave n segment) reply tt stands works serves
steps-on m s i new w later done (Arrive n segment) reply stands works serves = quiet-on m s i new w later done (Arrive n segment) reply tt stands works serves
steps-on m s i new w later done (Deliver sender number segment to_node) reply stands works serves = quiet-on m s i new w later done (Deliver sender number segment to_node) reply tt stands works serves
steps-on m s i new w later done (Trim n) reply stands works serves = quiet-on m s i new w later done (Trim n) reply tt stands works serves
steps-on m s i new w later done (PageStep n segment page) reply stands works serves = quiet-on m s i new w later done (PageStep n segment page) reply tt stands works serves
steps-on m s i new w later done (ResetStep n) reply stands works serves = quiet-on m s i new w later done (ResetStep n) reply tt stands works serves
steps-on m s i new w later done (Stop choices) reply stands works serves = absurd serves.0
steps-on m s i new w later done RecoverStep reply stands works serves = absurd serves.0

-- What the machine does at an end or an abort

pub thread-known : (g : Geometry) (t : Transaction) (n k : ℕ) → IsProper g t → t.node ≡ n → t.thread ≡ k → are_known g (by_thread n k []) ≡ true
thread-known g t n k proper nodes threads =
    let node_in : is_node g n ≡ true = lt-ltb n g.nodes (subst (λ (x : ℕ). x < g.nodes) nodes proper.node_known) in
    let thread_in : is_thread g k ≡ true = lt-ltb k g.threads (subst (λ (x : ℕ). x < g.threads) threads proper.thread_known) in
    rw (node_in, thread_in) refl

some-open : (running : Option Transaction) (s new : State) (next : Transaction → Type 0) → OfRunning running s Accepted new next → (t : Transaction) × (running ≡ Some t)
some-open None s new next h = absurd (let never : Accepted ≡ Refused OutOfTurn = h.0 in cc)
some-open (Some t) s new next h = (t, refl)

abort-open : (m : Setting) (s new : State) (n k : ℕ) → Step m s (Abort n k) Accepted new → (t : Transaction) × (running_of n k s ≡ Some t)
abort-open m s new n k step =
    accepted ((t : Transaction) × (running_of n k s ≡ Some t)) (common_refusal m.geometry s (Abort n k)) s new (Row m s (Abort n k) Accepted new)
    (λ row. some-open (running_of n k s) s new _ row) step

-- all of a transaction's work has been answered
pub record Block (m : Setting) (i : State) (n k : ℕ) (t : Transaction) (ds : List Done) : Type 0 where
  pub y : State
  pub gives : Gives m i (as_events n k ds) y
  pub found : running_of n k y ≡ Some (after t ds)
  pub same : dropped y n k ≡ dropped i n k
  pub works : IsWorking y
  pub known : are_known m.geometry (by_thread n k []) ≡ true

pub block : (m : Setting) (s i : State) (w : Workspace) (done : ℕ → ℕ → List Done) (n k : ℕ) (t : Transaction) → Standing m s i w done → running_of n k s ≡ Some t → Block m i n k t (done n k)
block m s i w done n k t stands found =
    let o : Opened m (value m.start s.earlier s.history) w n k t (done n k) = stands.opened n k t found in
    let works : IsWorking i = like-working m s i stands.like stands.works in
    let by : (t.node ≡ n) × (t.thread ≡ k) = its-thread s n k t found in
    let runs = block-runs m i n k t (done n k) works (like-running m s i n k stands.like ∙ found)
    (subst (λ (c : Content). Answers m.geometry c n k t (done n k)) (sym (like-value m s i stands.like)) o.answers) in
    record {
      y = runs.0;
      gives = runs.1;
      found = runs.2;
      same = runs.3;
      works = same-working i runs.0 n k runs.3 works;
      known = thread-known m.geometry (after t (done n k)) n k o.proper (ap (λ (x : Transaction). x.node) (after-is t (done n k)) ∙ by.0) (ap (λ (x : Transaction). x.thread) (after-is t (done n k)) ∙ by.1);
    }

pub abort-of : (m : Setting) (i y : State) (n k : ℕ) (t : Transaction) → IsWorking y → are_known m.geometry (by_thread n k []) ≡ true → running_of n k y ≡ Some t → dropped y n k ≡ dropped i n k → Step m y (Abort n k) Accepted (dropped i n k)
abort-of m i y n k t works known found same =
    subst (λ (x : State). Step m y (Abort n k) Accepted x) same
    (step-row m y (Abort n k) Accepted (dropped y n k) (common-none m.geometry y (Abort n k) (ap is_up works.up) known (works.not_halted n)) (abort-done m y n k t found))

-- the segment is free of all others once it is, and this thread's is not locked by it
pub others-free : (s new : State) (n k : ℕ) (t : Transaction) (g : ℕ) → ((a b : ℕ) → (n ≡ a → k ≡ b → ⊥) → running_of a b new ≡ running_of a b s) → running_of n k s ≡ Some t → locks t g ≡ false → IsUnwritten new g → IsUnwritten s g
others-free s new n k t g same found unlocked_g free = λ a b x found_x lock. elim (which n k a b) [
  | inl is ↦
      let mine : running_of n k s ≡ Some x = subst (λ (y : ℕ). running_of y k s ≡ Some x) (sym is.0) (subst (λ (z : ℕ). running_of a z s ≡ Some x) (sym is.1) found_x) in
      true≢false (sym lock ∙ ap (λ (y : Transaction). locks y g) (one-found (running_of n k s) x t mine found) ∙ unlocked_g)
  | inr differ ↦ free a b x (same a b differ ∙ found_x) lock
]

-- An abort

abort-on : (m : Setting) (s i : State) (w later : Workspace) (done : ℕ → ℕ → List Done) (n k : ℕ) (t : Transaction) → Standing m s i w done → running_of n k s ≡ Some t → IsWorking (dropped s n k)
    → Serves m s w (Aborts n k) (dropped s n k) later → Served m i (dropped s n k) later done (Aborts n k)
abort-on m s i w later done n k t stands found works serves =
    let content : Content = value m.start s.earlier s.history in
    let b : Block m i n k t (done n k) = block m s i w done n k t stands found in
    let o : Opened m (value m.start s.earlier s.history) w n k t (done n k) = stands.opened n k t found in
    let abort : Step m b.y (Abort n k) Accepted (dropped i n k) = abort-of m i b.y n k (after t (done n k)) b.works b.known b.found b.same in
    let others : (a c : ℕ) → (n ≡ a → k ≡ c → ⊥) → running_of a c (dropped s n k) ≡ running_of a c s = λ a c differ. running-dropped_other s n k a c differ in
    let back = serves.1.0 t found in (
      dropped i n k,
      gives-append m (as_events n k (done n k)) (record { event = Abort n k; reply = Accepted } ∷ []) i b.y (dropped i n k) b.gives (dropped i n k, abort, refl),
      record {
        sound = sound-step m s (Abort n k) Accepted (dropped s n k) stands.sound serves.0;
        works = works;
        like = like-dropped m s i n k stands.like;
        opened = all-threads (λ a c. (x : Transaction) → running_of a c (dropped s n k) ≡ Some x → Opened m content later a c x (done a c)) n k
            (λ x is. absurd (none-found (running_of n k (dropped s n k)) x (running-dropped s n k) is))
            (λ a c differ x is.
            let was : running_of a c s ≡ Some x = sym (others a c differ) ∙ is in
            same-opened m content content w later a c x (done a c) (serves.2 a c)
            (λ g lock. elim (locks t g) as (λ d. locks t g ≡ d → later.images g ≡ w.images g) [
              | true ↦ λ e. absurd ((apart_of m s a c n k x t stands.sound differ was found).locks_differ (meet_locks t x g e lock))
              | false ↦ λ e. back.1 g e
            ] refl)
            (λ g lock. serves.1.1 g) (λ g held. refl) (stands.opened a c x was));
        unwritten = λ g free. elim (locks t g) as (λ d. locks t g ≡ d → later.images g ≡ segment_of g (value m.start s.earlier s.history)) [
          | true ↦ λ e. back.0 g e ∙ o.olds g e
          | false ↦ λ e. back.1 g e ∙ stands.unwritten g (others-free s (dropped s n k) n k t g others found e free)
        ] refl;
      },
    )

pub aborts-on : (m : Setting) (s i new : State) (w later : Workspace) (done : ℕ → ℕ → List Done) (n k : ℕ) → Standing m s i w done → IsWorking new → Serves m s w (Aborts n k) new later → Served m i new later done (Aborts n k)
aborts-on m s i new w later done n k stands works serves =
    let open_one = abort-open m s new n k serves.0 in
    subst (λ (x : State). IsWorking x → Serves m s w (Aborts n k) x later → Served m i x later done (Aborts n k)) (sym (abort-made m s new n k open_one.0 open_one.1 serves.0))
    (abort-on m s i w later done n k open_one.0 stands open_one.1) works serves
