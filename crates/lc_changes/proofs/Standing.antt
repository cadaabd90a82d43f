-- What stands between two calls: the store, the state that the list of events has come to, and the images beside.
use Rattle.std.proofs.Common.{◌≡◌, ◌≢◌, ℕ, ◌+◌, true, false, not, ◌==◌, nat_le, List, [], ◌∷◌, ◌++◌, length, Option, Some, None, refl, sym, ◌∙◌, ap, subst, inl, inr, eqb-true, eq-eqb, true≢false}
use Rattle.std.proofs.lemmas.Bool.{leb-true, not-false}
use Rattle.lc_record.specs.Content.{Content, put, segment_of, on_segment}
use Rattle.lc_record.specs.Transaction.{ByteWrite, Marks, Transaction, all_set, holds, locks, writes_on}
use Rattle.lc_record.specs.Marks.{marked, no_marks, ranges, written}
use Rattle.lc_record.specs.Geometry.{segment_len}
use Rattle.lc_record.specs.declared.geometry.Geometry.{Geometry}
use Rattle.lc_record.proofs.LockLemmas.{lock_holds, meet_left, meet_locks}
use Rattle.lc_record.proofs.SegmentLemmas.{segment_of-other, segment_of-same}
use Rattle.lc_model.specs.History.{value}
use Rattle.lc_model.specs.Machine.{Step, dropped}
use Rattle.lc_model.specs.Refusals.{is_known, is_up, set_range_refusal, write_refusal}
use Rattle.lc_model.specs.Sound.{Sound, IsProper}
use Rattle.lc_model.specs.State.{State, Setting, running_of}
use Rattle.lc_model.specs.declared.event.Event.{Event}
use Rattle.lc_model.specs.declared.event.Event.TheVariants.{Begin, SetRange, Write, Read, Abort, Reserve, Close, FlushStep, Leave, Arrive, Deliver, Trim, PageStep, ResetStep, Stop, RecoverStep}
use Rattle.lc_model.specs.declared.refusal.Refusal.TheVariants.{EmptyRange, NoRange, NotLocked, OutOfSegment, OutOfTurn, ReadOnly, TooManyRanges, Unknown}
use Rattle.lc_model.specs.declared.reply.Reply.{Reply}
use Rattle.lc_model.specs.declared.reply.Reply.TheVariants.{Ok as Accepted, Refused}
use Rattle.lc_model.proofs.Marks.{proper-marked, proper-written}
use Rattle.lc_model.proofs.Rows.{abort-no_turn, common-none, read-no_turn, reserve-no_turn, set_range-no_turn, step-row, write-no_turn}
use Rattle.lc_changes.specs.Images.{Does, Images, IsUnwritten}
use Rattle.lc_changes.specs.Calls.{Call, Works, Strays, Done, DoesWork, Gives, HasNoneOpen, IsLike, IsWorking, SameWorkspace, Serves, Work, Sets, Writes, Reads, Workspace}
use Rattle.lc_changes.specs.Calls.{answer, at_thread, block_of, done_by, event_of, refused_or, shown, with_set, worked}
use Rattle.lc_changes.proofs.Alone.{on_same, writes_on-last}
use Rattle.lc_changes.proofs.HandedOver.{unlocked}
use Rattle.lc_changes.proofs.Private.{apart_of, passes, which}
use Rattle.lc_changes.proofs.Working.{Answers, after, after-is, after-push, answer-same, answers-push, answers-same, at-other, at-own}

-- Threads

-- what holds of one thread and of each other holds of all
pub all-threads : (P : ℕ → ℕ → Type 0) (n k : ℕ) → P n k → ((a b : ℕ) → (n ≡ a → k ≡ b → ⊥) → P a b) → (a b : ℕ) → P a b
all-threads P n k own others a b = elim (which n k a b) [
  | inl same ↦ subst (λ (x : ℕ). P x b) same.0 (subst (λ (y : ℕ). P n y) same.1 own)
  | inr differ ↦ others a b differ
]

pub one-found : (o : Option Transaction) (t u : Transaction) → o ≡ Some t → o ≡ Some u → t ≡ u
one-found o t u one other = let same : Some t ≡ Some u = sym one ∙ other in cc

pub none-found : (o : Option Transaction) (t : Transaction) → o ≡ None → o ≡ Some t → ⊥
none-found o t none some = let never : None ≡ Some t = sym none ∙ some in absurd cc

-- What stands between two calls

-- an open transaction: the store has nothing set of it, and its work so far fits its images
pub record Opened (m : Setting) (content : Content) (w : Workspace) (n k : ℕ) (t : Transaction) (ds : List Done) : Type 0 where
  pub marks : t.marks ≡ no_marks m.geometry
  pub writes : t.writes ≡ []
  pub proper : IsProper m.geometry (after t ds)
  pub set : (after t ds).marks ≡ w.set n k
  pub images : (g : ℕ) → locks t g ≡ true → w.images g ≡ segment_of g (writes_on (after t ds).writes content)
  pub olds : (g : ℕ) → locks t g ≡ true → w.olds g ≡ segment_of g content
  pub answers : Answers m.geometry content n k t ds

-- the store, the state that the list of events has come to, and what is beside the store
pub record Standing (m : Setting) (s i : State) (w : Workspace) (done : ℕ → ℕ → List Done) : Type 0 where
  pub sound : Sound m.geometry s
  pub works : IsWorking s
  pub like : IsLike m s i
  pub opened : (n k : ℕ) (t : Transaction) → running_of n k s ≡ Some t → Opened m (value m.start s.earlier s.history) w n k t (done n k)
  pub unwritten : (g : ℕ) → IsUnwritten s g → w.images g ≡ segment_of g (value m.start s.earlier s.history)

pub same-opened : (m : Setting) (one other : Content) (w later : Workspace) (n k : ℕ) (t : Transaction) (ds : List Done) → later.set n k ≡ w.set n k
    → ((g : ℕ) → locks t g ≡ true → later.images g ≡ w.images g) → ((g : ℕ) → locks t g ≡ true → later.olds g ≡ w.olds g)
    → ((g : ℕ) → holds t g ≡ true → segment_of g other ≡ segment_of g one) → Opened m one w n k t ds → Opened m other later n k t ds
same-opened m one other w later n k t ds same_set same_images same_olds values o = record {
  marks = o.marks;
  writes = o.writes;
  proper = o.proper;
  set = o.set ∙ sym same_set;
  images = λ g lock. same_images g lock ∙ o.images g lock ∙ on_same g (after t ds).writes one other (sym (values g (lock_holds t g lock)));
  olds = λ g lock. same_olds g lock ∙ o.olds g lock ∙ sym (values g (lock_holds t g lock));
  answers = answers-same m.geometry one other n k t ds (λ g held. sym (values g held)) o.answers;
}

pub like-working : (m : Setting) (s i : State) → IsLike m s i → IsWorking s → IsWorking i
like-working m s i like works = record { up = ap (λ (x : State). x.phase) like.beside ∙ works.up; not_halted = λ node. ap (λ (x : State). x.halted node) like.beside ∙ works.not_halted node }

pub like-running : (m : Setting) (s i : State) (n k : ℕ) → IsLike m s i → running_of n k i ≡ running_of n k s
like-running m s i n k like = ap (running_of n k) like.beside

pub like-dropped : (m : Setting) (s i : State) (n k : ℕ) → IsLike m s i → IsLike m (dropped s n k) (dropped i n k)
like-dropped m s i n k like = record { beside = ap (λ (x : State). dropped x n k) like.beside; earlier = like.earlier; history = like.history }

-- no open transaction is another, nor is the value or the workspace
pub stands-on : (m : Setting) (s i new next : State) (w later : Workspace) (done : ℕ → ℕ → List Done) → ((a b : ℕ) → running_of a b new ≡ running_of a b s) → value m.start new.earlier new.history ≡ value m.start s.earlier s.history
    → SameWorkspace w later → Sound m.geometry new → IsWorking new → IsLike m new next → Standing m s i w done → Standing m new next later done
stands-on m s i new next w later done running valued same sound works like stands = record {
  sound = sound;
  works = works;
  like = like;
  opened = λ n k t found. same-opened m (value m.start s.earlier s.history) (value m.start new.earlier new.history) w later n k t (done n k) (same.set n k) (λ g lock. same.images g) (λ g lock. same.olds g)
      (λ g held. ap (segment_of g) valued) (stands.opened n k t (sym (running n k) ∙ found));
  unwritten = λ g free. same.images g ∙ stands.unwritten g (λ n k t found lock. free n k t (running n k ∙ found) lock) ∙ ap (segment_of g) (sym valued);
}

-- What a call leaves

abbrev pub Served : Setting → State → State → Workspace → (ℕ → ℕ → List Done) → Call → Type 0
Served m i new later done call = (next : State) × Gives m i (block_of done call) next × Standing m new next later (done_by done call)

-- Calls that are out of turn, or name what is not there

stray-step : (m : Setting) (s i : State) (event : Event) (reply : Reply) → IsLike m s i → IsWorking i → is_known m.geometry event ≡ true → HasNoneOpen s event → reply ≡ Refused OutOfTurn → Step m i event reply i
stray-step m s i (SetRange n k segment offset len) reply like works known none is =
    subst (λ (r : Reply). Step m i (SetRange n k segment offset len) r i) (sym is)
    (step-row m i (SetRange n k segment offset len) (Refused OutOfTurn) i (common-none m.geometry i (SetRange n k segment offset len) (ap is_up works.up) known (works.not_halted n)) (set_range-no_turn m i n k segment offset len (like-running m s i n k like ∙ none)))
stray-step m s i (Write n k segment offset bytes) reply like works known none is =
    subst (λ (r : Reply). Step m i (Write n k segment offset bytes) r i) (sym is)
    (step-row m i (Write n k segment offset bytes) (Refused OutOfTurn) i (common-none m.geometry i (Write n k segment offset bytes) (ap is_up works.up) known (works.not_halted n)) (write-no_turn m i n k segment offset bytes (like-running m s i n k like ∙ none)))
stray-step m s i (Read n k segment offset len) reply like works known none is =
    subst (λ (r : Reply). Step m i (Read n k segment offset len) r i) (sym is)
    (step-row m i (Read n k segment offset len) (Refused OutOfTurn) i (common-none m.geometry i (Read n k segment offset len) (ap is_up works.up) known (works.not_halted n)) (read-no_turn m i n k segment offset len (like-running m s i n k like ∙ none)))
stray-step m s i (Abort n k) reply like works known none is =
    subst (λ (r : Reply). Step m i (Abort n k) r i) (sym is)
    (step-row m i (Abort n k) (Refused OutOfTurn) i (common-none m.geometry i (Abort n k) (ap is_up works.up) known (works.not_halted n)) (abort-no_turn m i n k (like-running m s i n k like ∙ none)))
stray-step m s i (Reserve n k) reply like works known none is =
    subst (λ (r : Reply). Step m i (Reserve n k) r i) (sym is)
    (step-row m i (Reserve n k) (Refused OutOfTurn) i (common-none m.geometry i (Reserve n k) (ap is_up works.up) known (works.not_halted n)) (reserve-no_turn m i n k (like-running m s i n k like ∙ none)))
stray-step m s i (Begin n k segments reading) reply like works known none is = absurd none
stray-step m s i (Close n k) reply like works known none is = absurd none
stray-step m s i (FlushStep n) reply like works known none is = absurd none
stray-step m s i (Leave n segment) reply like works known none is = absurd none
stray-step m s i (Arrive n segment) reply like works known none is = absurd none
stray-step m s i (Deliver sender number segment to) reply like works known none is = absurd none
stray-step m s i (Trim n) reply like works known none is = absurd none
stray-step m s i (PageStep n segment page) reply like works known none is = absurd none
stray-step m s i (ResetStep n) reply like works known none is = absurd none
stray-step m s i (Stop choices) reply like works known none is = absurd none
stray-step m s i RecoverStep reply like works known none is = absurd none

unknown-step : (m : Setting) (i : State) (event : Event) (reply : Reply) → IsWorking i → is_known m.geometry event ≡ false → reply ≡ Refused Unknown → Step m i event reply i
unknown-step m i event reply works unknown is = let up : is_up i.phase ≡ true = ap is_up works.up in rw (up, unknown) (is, refl)

pub strays : (m : Setting) (s i new : State) (w later : Workspace) (done : ℕ → ℕ → List Done) (event : Event) (reply : Reply) → Standing m s i w done → Serves m s w (Strays event reply) new later → Served m i new later done (Strays event reply)
strays m s i new w later done event reply stands serves =
    let works : IsWorking i = like-working m s i stands.like stands.works in
    let step : Step m i event reply i = elim serves.0 [
      | inl x ↦ unknown-step m i event reply works x.0 x.1
      | inr x ↦ stray-step m s i event reply stands.like works x.0 x.1 x.2
    ] in
    subst (λ (x : State). Served m i x later done (Strays event reply)) (sym serves.1)
    (i, (i, step, refl), stands-on m s i s i w later done (λ a b. refl) refl serves.2 stands.sound stands.works stands.like stands)

-- Work

answer-blind : (g : Geometry) (t : Transaction) (marks : Marks) (writes : List ByteWrite) (images : Images) (work : Work) → answer g (record t { marks = marks; writes = writes }) images work ≡ answer g (with_set t marks) images work
answer-blind g t marks writes images (Sets segment offset len) = refl
answer-blind g t marks writes images (Writes segment offset bytes) = refl
answer-blind g t marks writes images (Reads segment offset len) = refl

worked-blind : (t : Transaction) (marks : Marks) (writes : List ByteWrite) (work : Work) (reply : Reply) → (worked (record t { marks = marks; writes = writes }) work reply).marks ≡ (worked (with_set t marks) work reply).marks
worked-blind t marks writes (Sets segment offset len) Accepted = refl
worked-blind t marks writes (Writes segment offset bytes) Accepted = refl
worked-blind t marks writes work reply = refl

-- work that keeps to its answer
set-passes : (g : Geometry) (t : Transaction) (segment offset len : ℕ) → set_range_refusal g t segment offset len ≡ None → (locks t segment ≡ true) × (nat_le (ranges (marked t segment offset len).marks) 64 ≡ true)
set-passes g t segment offset len none =
    let a = passes (not (holds t segment)) NotLocked _ none in
    let b = passes (not (locks t segment)) (ReadOnly segment) _ a.1 in
    let c = passes (len == 0) EmptyRange _ b.1 in
    let d = passes (not (nat_le (offset + len) (segment_len g))) (OutOfSegment None) _ c.1 in
    let e = passes (not (nat_le (ranges (marked t segment offset len).marks) 64)) TooManyRanges _ d.1 in
    (not-false (locks t segment) b.0, not-false (nat_le (ranges (marked t segment offset len).marks) 64) e.0)

write-passes : (g : Geometry) (t : Transaction) (segment offset : ℕ) (bytes : List ℕ) → write_refusal g t segment offset bytes ≡ None → (locks t segment ≡ true) × (all_set offset (length bytes) (segment_of segment t.marks) ≡ true)
write-passes g t segment offset bytes none =
    let a = passes (not (holds t segment)) NotLocked _ none in
    let b = passes (not (locks t segment)) (ReadOnly segment) _ a.1 in
    let c = passes (not (nat_le (offset + length bytes) (segment_len g))) (OutOfSegment None) _ b.1 in
    let d = passes (not (all_set offset (length bytes) (segment_of segment t.marks))) NoRange _ c.1 in
    (not-false (locks t segment) b.0, not-false (all_set offset (length bytes) (segment_of segment t.marks)) d.0)

proper-answered : (g : Geometry) (t : Transaction) (images : Images) (work : Work) → IsProper g t → IsProper g (worked t work (answer g t images work))
proper-answered g t images (Sets segment offset len) proper =
    elim (set_range_refusal g t segment offset len) as (λ o. set_range_refusal g t segment offset len ≡ o → IsProper g (worked t (Sets segment offset len) (refused_or o Accepted))) [
      | None ↦ λ e. let p = set-passes g t segment offset len e in proper-marked g t segment offset len proper p.0 (leb-true (ranges (marked t segment offset len).marks) 64 p.1)
      | Some refusal ↦ λ e. proper
    ] refl
proper-answered g t images (Writes segment offset bytes) proper =
    elim (write_refusal g t segment offset bytes) as (λ o. write_refusal g t segment offset bytes ≡ o → IsProper g (worked t (Writes segment offset bytes) (refused_or o Accepted))) [
      | None ↦ λ e. let p = write-passes g t segment offset bytes e in proper-written g t segment offset bytes proper p.0 p.1
      | Some refusal ↦ λ e. proper
    ] refl
proper-answered g t images (Reads segment offset len) proper = proper

-- a segment whose image work changes
abbrev IsTouched : Work → Reply → ℕ → Type 0
IsTouched (Writes segment offset bytes) Accepted g = g ≡ segment
IsTouched work reply g = ⊥

touched-locked : (geometry : Geometry) (t : Transaction) (images : Images) (work : Work) (reply : Reply) (g : ℕ) → reply ≡ answer geometry t images work → IsTouched work reply g → locks t g ≡ true
touched-locked geometry t images (Writes segment offset bytes) Accepted g is touched =
    elim (write_refusal geometry t segment offset bytes) as (λ o. write_refusal geometry t segment offset bytes ≡ o → Accepted ≡ refused_or o Accepted → locks t g ≡ true) [
      | None ↦ λ e same. subst (λ (x : ℕ). locks t x ≡ true) (sym touched) (write-passes geometry t segment offset bytes e).0
      | Some refusal ↦ λ e same. absurd (let never : Accepted ≡ Refused refusal = same in cc)
    ] refl is
touched-locked geometry t images work reply g is touched = absurd touched

work-images : (m : Setting) (s : State) (w later : Workspace) (n k : ℕ) (work : Work) (reply : Reply) (g : ℕ) → Does m.geometry s (event_of n k work) reply w.images w.olds later.images later.olds → (IsTouched work reply g → ⊥) → later.images g ≡ w.images g
work-images m s w later n k (Sets segment offset len) reply g does untouched = does.0 g
work-images m s w later n k (Reads segment offset len) reply g does untouched = does.0 g
work-images m s w later n k (Writes segment offset bytes) Accepted g does untouched = does.1 g untouched
work-images m s w later n k (Writes segment offset bytes) reply g does untouched = does.0 g

work-olds : (m : Setting) (s : State) (w later : Workspace) (n k : ℕ) (work : Work) (reply : Reply) (g : ℕ) → Does m.geometry s (event_of n k work) reply w.images w.olds later.images later.olds → later.olds g ≡ w.olds g
work-olds m s w later n k (Sets segment offset len) reply g does = does.1 g
work-olds m s w later n k (Reads segment offset len) reply g does = does.1 g
work-olds m s w later n k (Writes segment offset bytes) Accepted g does = does.2 g
work-olds m s w later n k (Writes segment offset bytes) reply g does = does.1 g

-- its own images are what it shows after the work
own-images : (m : Setting) (s : State) (w later : Workspace) (n k : ℕ) (t : Transaction) (content : Content) (work : Work) (reply : Reply) (g : ℕ) → Does m.geometry s (event_of n k work) reply w.images w.olds later.images later.olds
    → w.images g ≡ segment_of g (writes_on t.writes content) → later.images g ≡ segment_of g (writes_on (worked t work reply).writes content)
own-images m s w later n k t content (Sets segment offset len) Accepted g does is = does.0 g ∙ is
own-images m s w later n k t content (Sets segment offset len) reply g does is = does.0 g ∙ is
own-images m s w later n k t content (Reads segment offset len) reply g does is = does.0 g ∙ is
own-images m s w later n k t content (Writes segment offset bytes) Accepted g does is =
    let last : writes_on (written t segment offset bytes).writes content ≡ on_segment segment (put offset bytes) (writes_on t.writes content) =
    writes_on-last t.writes (record { segment = segment; offset = offset; bytes = bytes }) content in
    elim (g == segment) as (λ b. (g == segment) ≡ b → later.images g ≡ segment_of g (writes_on (written t segment offset bytes).writes content)) [
      | true ↦ λ e.
          let same : g ≡ segment = eqb-true g segment e in
          let here : w.images segment ≡ segment_of segment (writes_on t.writes content) = subst (λ (x : ℕ). w.images x ≡ segment_of x (writes_on t.writes content)) same is in
          subst (λ (x : ℕ). later.images x ≡ segment_of x (writes_on (written t segment offset bytes).writes content)) (sym same)
          (does.0 ∙ ap (put offset bytes) here ∙ sym (segment_of-same segment (put offset bytes) (writes_on t.writes content) refl) ∙ sym (ap (segment_of segment) last))
      | false ↦ λ e.
          let differ : g ≢ segment = λ same. true≢false (sym (eq-eqb g segment same) ∙ e) in
          does.1 g differ ∙ is ∙ sym (segment_of-other g segment (put offset bytes) (writes_on t.writes content) differ) ∙ sym (ap (segment_of g) last)
    ] refl
own-images m s w later n k t content (Writes segment offset bytes) reply g does is = does.0 g ∙ is

-- what it holds, its images show
held-shown : (m : Setting) (s i : State) (w : Workspace) (done : ℕ → ℕ → List Done) (n k : ℕ) (t : Transaction) → Standing m s i w done → running_of n k s ≡ Some t → (g : ℕ) → holds (after t (done n k)) g ≡ true
    → w.images g ≡ shown (after t (done n k)) (value m.start s.earlier s.history) g
held-shown m s i w done n k t stands found g held =
    let u : Transaction = after t (done n k) in
    let o : Opened m (value m.start s.earlier s.history) w n k t (done n k) = stands.opened n k t found in
    let held_t : holds t g ≡ true = sym (ap (λ (x : Transaction). holds x g) (after-is t (done n k))) ∙ held in
    elim (locks t g) as (λ b. locks t g ≡ b → w.images g ≡ segment_of g (writes_on (after t (done n k)).writes (value m.start s.earlier s.history))) [
      | true ↦ λ e. o.images g e
      | false ↦ λ e.
          let free : IsUnwritten s g = λ a b x found_x lock. elim (which n k a b) [
            | inl is ↦
                let mine : running_of n k s ≡ Some x = subst (λ (y : ℕ). running_of y k s ≡ Some x) (sym is.0) (subst (λ (z : ℕ). running_of a z s ≡ Some x) (sym is.1) found_x) in
                true≢false (sym lock ∙ ap (λ (y : Transaction). locks y g) (one-found (running_of n k s) x t mine found) ∙ e)
            | inr differ ↦ (apart_of m s n k a b t x stands.sound (λ nodes threads. differ (sym nodes) (sym threads)) found found_x).locks_differ (meet_left x t g lock held_t)
          ] in
          stands.unwritten g free ∙ sym (unlocked (after t (done n k)) (value m.start s.earlier s.history) g o.proper.well (ap (λ (x : Transaction). locks x g) (after-is t (done n k)) ∙ e))
    ] refl

pub works-on : (m : Setting) (s i : State) (w later : Workspace) (done : ℕ → ℕ → List Done) (n k : ℕ) (work : Work) (reply : Reply) → Standing m s i w done → DoesWork m s w n k work reply later → Served m i s later done (Works n k work reply)
works-on m s i w later done n k work reply stands serves =
    let content : Content = value m.start s.earlier s.history in
    let t : Transaction = serves.t in
    let ds : List Done = done n k in
    let d : Done = record { work = work; reply = reply } in
    let u : Transaction = after serves.t (done n k) in
    let o : Opened m (value m.start s.earlier s.history) w n k serves.t (done n k) = stands.opened n k serves.t serves.runs in
    let from_images : reply ≡ answer m.geometry u w.images work =
    serves.answers
    ∙ sym (ap (λ (marks : Marks). answer m.geometry (with_set t marks) w.images work) o.set)
    ∙ sym (answer-blind m.geometry t u.marks u.writes w.images work)
    ∙ sym (ap (λ (x : Transaction). answer m.geometry x w.images work) (after-is t ds)) in
    let from_writes : reply ≡ answer m.geometry u (shown u content) work =
    from_images ∙ answer-same m.geometry u w.images (shown u content) work (held-shown m s i w done n k t stands serves.runs) in
    let push : after t (ds ++ d ∷ []) ≡ worked u work reply = after-push t ds d in
    let same_locks : (g : ℕ) → locks u g ≡ locks t g = λ g. ap (λ (x : Transaction). locks x g) (after-is t ds) in
    let own : Opened m content later n k t (ds ++ d ∷ []) = record {
      marks = o.marks;
      writes = o.writes;
      proper = subst (IsProper m.geometry) (sym push) (subst (λ (r : Reply). IsProper m.geometry (worked u work r)) (sym from_images) (proper-answered m.geometry u w.images work o.proper));
      set = ap (λ (x : Transaction). x.marks) push
          ∙ ap (λ (x : Transaction). (worked x work reply).marks) (after-is t ds)
          ∙ worked-blind t u.marks u.writes work reply
          ∙ ap (λ (marks : Marks). (worked (with_set t marks) work reply).marks) o.set
          ∙ sym (at-own w.set n k (worked (with_set t (w.set n k)) work reply).marks)
          ∙ sym (serves.set n k);
      images = λ g lock. own-images m s w later n k u content work reply g serves.does (o.images g lock) ∙ ap (λ (x : Transaction). segment_of g (writes_on x.writes content)) (sym push);
      olds = λ g lock. work-olds m s w later n k work reply g serves.does ∙ o.olds g lock;
      answers = answers-push m.geometry content n k t ds d o.answers serves.known from_writes;
    } in
    let untouched : (g : ℕ) → (locks t g ≡ true → ⊥) → later.images g ≡ w.images g = λ g free. work-images m s w later n k work reply g serves.does
    (λ touched. free (sym (same_locks g) ∙ touched-locked m.geometry u w.images work reply g from_images touched)) in (
      i,
      refl,
      record {
        sound = stands.sound;
        works = stands.works;
        like = stands.like;
        opened = all-threads (λ a b. (x : Transaction) → running_of a b s ≡ Some x → Opened m content later a b x (at_thread done n k (ds ++ d ∷ []) a b)) n k
            (λ x found. subst (λ (y : Transaction). Opened m content later n k y (at_thread done n k (ds ++ d ∷ []) n k)) (one-found (running_of n k s) t x serves.runs found)
            (subst (Opened m content later n k t) (sym (at-own done n k (ds ++ d ∷ []))) own))
            (λ a b differ x found. subst (Opened m content later a b x) (sym (at-other done n k (ds ++ d ∷ []) a b differ))
            (same-opened m content content w later a b x (done a b) (serves.set a b ∙ at-other w.set n k (worked (with_set t (w.set n k)) work reply).marks a b differ)
            (λ g lock. untouched g (λ mine. (apart_of m s a b n k x t stands.sound differ found serves.runs).locks_differ (meet_locks t x g mine lock)))
            (λ g lock. work-olds m s w later n k work reply g serves.does) (λ g held. refl) (stands.opened a b x found)));
        unwritten = λ g free. untouched g (λ mine. free n k t serves.runs mine) ∙ stands.unwritten g free;
      },
    )
