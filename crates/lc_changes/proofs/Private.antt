-- The images that a program keeps have what the machine would answer.
use Rattle.std.proofs.Common.{◌≡◌, ◌≢◌, ◌⊎◌, ℕ, ◌+◌, Bool, true, false, not, ◌==◌, nat_lt, List, [], ◌∷◌, take, drop, Option, Some, None, All, refl, sym, ◌∙◌, ap, subst, inl, inr, eqb-true, eq-eqb, true≢false}
use Rattle.std.proofs.lemmas.Bool.{not-false}
use Rattle.lc_record.specs.Content.{Content, put, segment_of}
use Rattle.lc_record.specs.Transaction.{Transaction, writes_on, effect, locks, holds}
use Rattle.lc_record.specs.Marks.{is_empty, marked, written}
use Rattle.lc_record.proofs.LockLemmas.{lock_holds, meet_left, meet_locks, meet_right}
use Rattle.lc_model.specs.History.{front, value}
use Rattle.lc_model.specs.Machine.{seen, Step, Row, FlushRow, Moves, ReserveRow, LeaveRow, ArriveRow, OrHalts, RecoverRow, may_page, may_reset, begun, changed, dropped, appended, closed_by, flushed_to, halting, acknowledged, placed}
use Rattle.lc_model.specs.Refusals.{Unless, OfRunning, refuse_if, common_refusal, begin_refusal, set_range_refusal, write_refusal, read_refusal, leave_refusal}
use Rattle.lc_model.specs.Sound.{Sound, AreApart, IsProper, unclosed}
use Rattle.lc_model.specs.State.{Phase, Up, DownAt, Place, At, Travelling, State, Setting, is_by, running_of, has_unclosed}
use Rattle.lc_model.specs.declared.event.Event.{Event}
use Rattle.lc_model.specs.declared.event.Event.TheVariants.{Begin, SetRange, Write, Read, Abort, Reserve, Close, FlushStep, Leave, Arrive, Deliver, Trim, PageStep, ResetStep, Stop, RecoverStep}
use Rattle.lc_model.specs.declared.refusal.Refusal.{Refusal}
use Rattle.lc_model.specs.declared.refusal.Refusal.TheVariants.{NotLocked, OutOfTurn, ReadOnly}
use Rattle.lc_model.specs.declared.reply.Reply.{Reply}
use Rattle.lc_model.specs.declared.reply.Reply.TheVariants.{Bytes, Ok as Accepted, Refused}
use Rattle.lc_model.proofs.Holders.{apart-sides, is_by-both}
use Rattle.lc_model.proofs.Keeps.{match-case, sound-step}
use Rattle.lc_model.proofs.Law.{AllPairs-head}
use Rattle.lc_model.proofs.Lists.{split, found-all, found-apart, found-passes}
use Rattle.lc_model.proofs.Seats.{is_by-other, new_one, running-begun, running-begun_other, running-changed_other, running-dropped, running-dropped_other, value-appended, value-closed}
use Rattle.lc_changes.specs.Images.{Does, FitsImages, Images, IsNoStop, IsSame, IsUnwritten, RunsWith}
use Rattle.lc_changes.proofs.Alone.{abort-made, begin-made, elsewhere, on_same, other_of, own-read, own-write, own_of, unless, of_running, unmet}

-- two threads are the same, or not
pub which : (a b c d : ℕ) → ((a ≡ c) × (b ≡ d)) ⊎ (a ≡ c → b ≡ d → ⊥)
which a b c d =
    elim (a == c) as (λ x. (a == c) ≡ x → ((a ≡ c) × (b ≡ d)) ⊎ (a ≡ c → b ≡ d → ⊥)) [
      | false ↦ λ e. inr (λ is more. true≢false (sym (eq-eqb a c is) ∙ e))
      | true ↦ λ e. elim (b == d) as (λ y. (b == d) ≡ y → ((a ≡ c) × (b ≡ d)) ⊎ (a ≡ c → b ≡ d → ⊥)) [
        | false ↦ λ f. inr (λ is more. true≢false (sym (eq-eqb b d more) ∙ f))
        | true ↦ λ f. inl (eqb-true a c e, eqb-true b d f)
      ] refl
    ] refl

one : (o : Option Transaction) (t u : Transaction) → o ≡ Some t → o ≡ Some u → u ≡ t
one o t u is other = let same : Some u ≡ Some t = sym other ∙ is in cc

pub passes : (b : Bool) (r : Refusal) (next : Option Refusal) → refuse_if b r next ≡ None → (b ≡ false) × (next ≡ None)
passes true r next h = absurd cc
passes false r next h = (refl, h)

-- neither thread's transaction has what the other writes
pub apart_of : (m : Setting) (s : State) (n k a b : ℕ) (t u : Transaction) → Sound m.geometry s → (a ≡ n → b ≡ k → ⊥) → running_of n k s ≡ Some t → running_of a b s ≡ Some u → AreApart u t
apart_of m s n k a b t u sound differ found other =
    let each : All (λ y. is_by n k y ≡ false → AreApart y t) s.running =
    found-apart (is_by n k) AreApart s.running t apart-sides found (split AreApart s.running (unclosed s.history) sound.apart).left in
    found-all (is_by a b) (λ y. is_by n k y ≡ false → AreApart y t) s.running u other each (is_by-other n k u (other_of s n k a b u differ other))

-- where no transaction and no value changes
carries : (m : Setting) (s new : State) (images olds later kept : Images) → ((n k : ℕ) → running_of n k new ≡ running_of n k s) → value m.start new.earlier new.history ≡ value m.start s.earlier s.history
    → IsSame images later → IsSame olds kept → FitsImages m s images olds → FitsImages m new later kept
carries m s new images olds later kept runs values same_images same_olds fits = record {
  written = λ n k g t found lock. same_images g ∙ fits.written n k g t (sym (runs n k) ∙ found) lock ∙ ap (λ c. segment_of g (writes_on t.writes c)) (sym values);
  before = λ n k g t found lock. same_olds g ∙ fits.before n k g t (sym (runs n k) ∙ found) lock ∙ ap (segment_of g) (sym values);
  unwritten = λ g none. same_images g ∙ fits.unwritten g (λ n k t found lock. none n k t (runs n k ∙ found) lock) ∙ ap (segment_of g) (sym values);
}

still : (m : Setting) (s new : State) (images olds later kept : Images) → new ≡ s → IsSame images later → IsSame olds kept → FitsImages m s images olds → FitsImages m new later kept
still m s new images olds later kept same same_images same_olds fits =
    carries m s new images olds later kept (λ n k. ap (running_of n k) same) (ap (λ (x : State). value m.start x.earlier x.history) same) same_images same_olds fits

-- Rows

begins : (m : Setting) (s : State) (n k : ℕ) (segments reading : List ℕ) (images olds later kept : Images) → Sound m.geometry (begun m.geometry s n k segments reading) → FitsImages m s images olds
    → Does m.geometry s (Begin n k segments reading) Accepted images olds later kept → FitsImages m (begun m.geometry s n k segments reading) later kept
begins m s n k segments reading images olds later kept sound fits does =
    let new : State = begun m.geometry s n k segments reading in
    let first : Transaction = new_one m.geometry n k segments reading in
    let each : All (AreApart first) s.running = AllPairs-head AreApart first s.running (split AreApart (first ∷ s.running) (unclosed s.history) sound.apart).left in
    let apart : (a b : ℕ) (t : Transaction) → running_of a b s ≡ Some t → AreApart first t = λ a b t found. found-all (is_by a b) (AreApart first) s.running t found each in
    let differs : (a b : ℕ) (t : Transaction) → running_of a b s ≡ Some t → n ≡ a → k ≡ b → ⊥ = λ a b t found nodes threads.
    (let by : (t.node ≡ a) × (t.thread ≡ b) = is_by-both a b t (found-passes (is_by a b) s.running t found) in
    (apart a b t found).threads_differ (nodes ∙ sym by.0) (threads ∙ sym by.1)) in
    let free : (g : ℕ) → locks first g ≡ true → IsUnwritten s g = λ g lock a b t found theirs. (apart a b t found).locks_differ (meet_locks first t g lock theirs) in
    record {
      written = λ a b g t found lock. elim (which n k a b) [
        | inl same ↦
            let its : t ≡ first = one (running_of n k new) first t (running-begun m.geometry s n k segments reading) (subst (λ (x : ℕ). running_of x k new ≡ Some t) (sym same.0) (subst (λ (y : ℕ). running_of a y new ≡ Some t) (sym same.1) found)) in
            does.0 g ∙ fits.unwritten g (free g (subst (λ (x : Transaction). locks x g ≡ true) its lock))
            ∙ ap (λ (x : Transaction). segment_of g (writes_on x.writes (value m.start s.earlier s.history))) (sym its)
        | inr differ ↦ does.0 g ∙ fits.written a b g t (sym (running-begun_other m.geometry s n k segments reading a b differ) ∙ found) lock
      ];
      before = λ a b g t found lock. elim (which n k a b) [
        | inl same ↦
            let its : t ≡ first = one (running_of n k new) first t (running-begun m.geometry s n k segments reading) (subst (λ (x : ℕ). running_of x k new ≡ Some t) (sym same.0) (subst (λ (y : ℕ). running_of a y new ≡ Some t) (sym same.1) found)) in
            let mine : locks first g ≡ true = subst (λ (x : Transaction). locks x g ≡ true) its lock in
            does.1 g mine ∙ fits.unwritten g (free g mine)
        | inr differ ↦
            let was : running_of a b s ≡ Some t = sym (running-begun_other m.geometry s n k segments reading a b differ) ∙ found in
            elim (locks first g) as (λ x. locks first g ≡ x → kept g ≡ segment_of g (value m.start s.earlier s.history)) [
              | true ↦ λ e. absurd (free g e a b t was lock)
              | false ↦ λ e. does.2 g e ∙ fits.before a b g t was lock
            ] refl
      ];
      unwritten = λ g none. does.0 g ∙ fits.unwritten g (λ a b t found lock. none a b t (running-begun_other m.geometry s n k segments reading a b (differs a b t found) ∙ found) lock);
    }

-- a transaction of the thread in another state, with the same locks
same_thread : (s new : State) (n k a b : ℕ) (t u : Transaction) → (n ≡ a) × (k ≡ b) → running_of n k new ≡ Some u → running_of a b new ≡ Some t → t ≡ u
same_thread s new n k a b t u same is found = one (running_of n k new) u t is (subst (λ (x : ℕ). running_of x k new ≡ Some t) (sym same.0) (subst (λ (y : ℕ). running_of a y new ≡ Some t) (sym same.1) found))

sets : (m : Setting) (s : State) (n k segment offset len : ℕ) (u : Transaction) (images olds later kept : Images) → running_of n k s ≡ Some u → FitsImages m s images olds
    → IsSame images later → IsSame olds kept → FitsImages m (changed s (marked u segment offset len)) later kept
sets m s n k segment offset len u images olds later kept found_u fits same_images same_olds =
    let v : Transaction = marked u segment offset len in
    let new : State = changed s v in
    let mine : running_of n k new ≡ Some v = own_of s n k u v found_u refl refl in
    let by : (u.node ≡ n) × (u.thread ≡ k) = is_by-both n k u (found-passes (is_by n k) s.running u found_u) in
    let others : (a b : ℕ) → (n ≡ a → k ≡ b → ⊥) → running_of a b new ≡ running_of a b s = λ a b differ. running-changed_other s v a b (λ nodes threads. differ (sym by.0 ∙ nodes) (sym by.1 ∙ threads)) in
    record {
      written = λ a b g t found lock. elim (which n k a b) [
        | inl same ↦
            let its : t ≡ v = same_thread s new n k a b t v same mine found in
            same_images g ∙ fits.written n k g u found_u (subst (λ (x : Transaction). locks x g ≡ true) its lock)
            ∙ ap (λ (x : Transaction). segment_of g (writes_on x.writes (value m.start s.earlier s.history))) (sym its)
        | inr differ ↦ same_images g ∙ fits.written a b g t (sym (others a b differ) ∙ found) lock
      ];
      before = λ a b g t found lock. elim (which n k a b) [
        | inl same ↦
            let its : t ≡ v = same_thread s new n k a b t v same mine found in
            same_olds g ∙ fits.before n k g u found_u (subst (λ (x : Transaction). locks x g ≡ true) its lock)
        | inr differ ↦ same_olds g ∙ fits.before a b g t (sym (others a b differ) ∙ found) lock
      ];
      unwritten = λ g none. same_images g ∙ fits.unwritten g (λ a b t found lock. elim (which n k a b) [
        | inl same ↦ none n k v mine (subst (λ (x : Transaction). locks x g ≡ true) (same_thread s s n k a b t u same found_u found) lock)
        | inr differ ↦ none a b t (others a b differ ∙ found) lock
      ]);
    }

writes : (m : Setting) (s : State) (n k segment offset : ℕ) (bytes : List ℕ) (u : Transaction) (images olds later kept : Images) → Sound m.geometry s → running_of n k s ≡ Some u → write_refusal m.geometry u segment offset bytes ≡ None
    → Step m s (Write n k segment offset bytes) Accepted (changed s (written u segment offset bytes)) → FitsImages m s images olds
    → Does m.geometry s (Write n k segment offset bytes) Accepted images olds later kept → FitsImages m (changed s (written u segment offset bytes)) later kept
writes m s n k segment offset bytes u images olds later kept sound found_u none_refused step fits does =
    let v : Transaction = written u segment offset bytes in
    let new : State = changed s v in
    let own = own-write m s new n k segment offset bytes u found_u step in
    let mine : running_of n k new ≡ Some v = own.runs in
    let by : (u.node ≡ n) × (u.thread ≡ k) = is_by-both n k u (found-passes (is_by n k) s.running u found_u) in
    let others : (a b : ℕ) → (n ≡ a → k ≡ b → ⊥) → running_of a b new ≡ running_of a b s = λ a b differ. running-changed_other s v a b (λ nodes threads. differ (sym by.0 ∙ nodes) (sym by.1 ∙ threads)) in
    let lock_u : locks u segment ≡ true = not-false (locks u segment) (passes (not (locks u segment)) (ReadOnly segment) _ (passes (not (holds u segment)) NotLocked _ none_refused).1).0 in
    record {
      written = λ a b g t found lock. elim (which n k a b) [
        | inl same ↦
            let its : t ≡ v = same_thread s new n k a b t v same mine found in
            let lock_g : locks u g ≡ true = subst (λ (x : Transaction). locks x g ≡ true) its lock in
            elim (g == segment) as (λ x. (g == segment) ≡ x → later g ≡ segment_of g (seen m.start new t)) [
              | true ↦ λ e.
                  let is : g ≡ segment = eqb-true g segment e in
                  subst (λ (x : ℕ). later x ≡ segment_of x (seen m.start new t)) (sym is)
                  (does.0 ∙ ap (put offset bytes) (fits.written n k segment u found_u lock_u) ∙ sym own.sees ∙ ap (λ (x : Transaction). segment_of segment (seen m.start new x)) (sym its))
              | false ↦ λ e.
                  let differ : g ≢ segment = λ is. true≢false (sym (eq-eqb g segment is) ∙ e) in
                  does.1 g differ ∙ fits.written n k g u found_u lock_g ∙ sym (own.others g differ) ∙ ap (λ (x : Transaction). segment_of g (seen m.start new x)) (sym its)
            ] refl
        | inr differ ↦
            let was : running_of a b s ≡ Some t = sym (others a b differ) ∙ found in
            let elsewhere_g : g ≢ segment = λ is. (apart_of m s a b n k t u sound differ was found_u).locks_differ (meet_locks u t segment lock_u (subst (λ (x : ℕ). locks t x ≡ true) is lock)) in
            does.1 g elsewhere_g ∙ fits.written a b g t was lock
      ];
      before = λ a b g t found lock. elim (which n k a b) [
        | inl same ↦
            let its : t ≡ v = same_thread s new n k a b t v same mine found in
            does.2 g ∙ fits.before n k g u found_u (subst (λ (x : Transaction). locks x g ≡ true) its lock)
        | inr differ ↦ does.2 g ∙ fits.before a b g t (sym (others a b differ) ∙ found) lock
      ];
      unwritten = λ g none.
          let differ_g : g ≢ segment = λ is. none n k v mine (subst (λ (x : ℕ). locks u x ≡ true) (sym is) lock_u) in
          does.1 g differ_g ∙ fits.unwritten g (λ a b t found lock. elim (which n k a b) [
            | inl same ↦ none n k v mine (subst (λ (x : Transaction). locks x g ≡ true) (same_thread s s n k a b t u same found_u found) lock)
            | inr differ ↦ none a b t (others a b differ ∙ found) lock
          ]);
    }

-- it is dropped, and what was kept is brought back
drops : (m : Setting) (s : State) (n k : ℕ) (u : Transaction) (images olds later kept : Images) → Sound m.geometry s → running_of n k s ≡ Some u → FitsImages m s images olds
    → ((x : ℕ) → locks u x ≡ true → later x ≡ olds x) → ((x : ℕ) → locks u x ≡ false → later x ≡ images x) → IsSame olds kept → FitsImages m (dropped s n k) later kept
drops m s n k u images olds later kept sound found_u fits back same same_olds =
    let new : State = dropped s n k in
    let others : (a b : ℕ) → (n ≡ a → k ≡ b → ⊥) → running_of a b new ≡ running_of a b s = λ a b differ. running-dropped_other s n k a b differ in
    let gone : (a b : ℕ) (t : Transaction) → (n ≡ a) × (k ≡ b) → running_of a b new ≡ Some t → ⊥ = λ a b t is found.
    (let never : None ≡ Some t = sym (running-dropped s n k) ∙ subst (λ (x : ℕ). running_of x k new ≡ Some t) (sym is.0) (subst (λ (y : ℕ). running_of a y new ≡ Some t) (sym is.1) found) in absurd cc) in
    record {
      written = λ a b g t found lock. elim (which n k a b) [
        | inl is ↦ absurd (gone a b t is found)
        | inr differ ↦
            let was : running_of a b s ≡ Some t = sym (others a b differ) ∙ found in
            elim (locks u g) as (λ x. locks u g ≡ x → later g ≡ segment_of g (seen m.start s t)) [
              | true ↦ λ e. absurd ((apart_of m s a b n k t u sound differ was found_u).locks_differ (meet_locks u t g e lock))
              | false ↦ λ e. same g e ∙ fits.written a b g t was lock
            ] refl
      ];
      before = λ a b g t found lock. elim (which n k a b) [
        | inl is ↦ absurd (gone a b t is found)
        | inr differ ↦ same_olds g ∙ fits.before a b g t (sym (others a b differ) ∙ found) lock
      ];
      unwritten = λ g none. elim (locks u g) as (λ x. locks u g ≡ x → later g ≡ segment_of g (value m.start s.earlier s.history)) [
        | true ↦ λ e. back g e ∙ fits.before n k g u found_u e
        | false ↦ λ e. same g e ∙ fits.unwritten g (λ a b t found lock. elim (which n k a b) [
          | inl is ↦ true≢false (sym (subst (λ (x : Transaction). locks x g ≡ true) (same_thread s s n k a b t u is found_u found) lock) ∙ e)
          | inr differ ↦ none a b t (others a b differ ∙ found) lock
        ])
      ] refl;
    }

-- it is reserved, and the value of the history is what it saw
reserves : (m : Setting) (s : State) (n k : ℕ) (u : Transaction) (images olds later kept : Images) → Sound m.geometry s → running_of n k s ≡ Some u → u.node ≡ n → u.thread ≡ k → FitsImages m s images olds
    → IsSame images later → IsSame olds kept → FitsImages m (appended s u) later kept
reserves m s n k u images olds later kept sound found_u node_is thread_is fits same_images same_olds =
    let new : State = appended s u in
    let proper : IsProper m.geometry u = found-all (is_by n k) (IsProper m.geometry) s.running u found_u sound.running_proper in
    let before_it : Content = value m.start s.earlier s.history in
    let now : value m.start new.earlier new.history ≡ effect u before_it = value-appended m.start s u in
    let others : (a b : ℕ) → (n ≡ a → k ≡ b → ⊥) → running_of a b new ≡ running_of a b s = λ a b differ. running-dropped_other s u.node u.thread a b (λ nodes threads. differ (sym node_is ∙ nodes) (sym thread_is ∙ threads)) in
    let gone : (a b : ℕ) (t : Transaction) → (n ≡ a) × (k ≡ b) → running_of a b new ≡ Some t → ⊥ = λ a b t is found.
    (let never : None ≡ Some t = sym (running-dropped s u.node u.thread) ∙ subst (λ (x : ℕ). running_of x u.thread new ≡ Some t) (sym (node_is ∙ is.0)) (subst (λ (y : ℕ). running_of a y new ≡ Some t) (sym (thread_is ∙ is.1)) found) in absurd cc) in
    let kept_at : (a b g : ℕ) (t : Transaction) → (n ≡ a → k ≡ b → ⊥) → running_of a b s ≡ Some t → locks t g ≡ true → segment_of g (value m.start new.earlier new.history) ≡ segment_of g before_it = λ a b g t differ was lock.
    ap (segment_of g) now ∙ unmet t u g before_it proper.well (apart_of m s a b n k t u sound differ was found_u).locks_differ (lock_holds t g lock) in
    record {
      written = λ a b g t found lock. elim (which n k a b) [
        | inl is ↦ absurd (gone a b t is found)
        | inr differ ↦
            let was : running_of a b s ≡ Some t = sym (others a b differ) ∙ found in
            same_images g ∙ fits.written a b g t was lock
            ∙ sym (on_same g t.writes (value m.start new.earlier new.history) before_it (kept_at a b g t differ was lock))
      ];
      before = λ a b g t found lock. elim (which n k a b) [
        | inl is ↦ absurd (gone a b t is found)
        | inr differ ↦
            let was : running_of a b s ≡ Some t = sym (others a b differ) ∙ found in
            same_olds g ∙ fits.before a b g t was lock ∙ sym (kept_at a b g t differ was lock)
      ];
      unwritten = λ g none. elim (locks u g) as (λ x. locks u g ≡ x → later g ≡ segment_of g (value m.start new.earlier new.history)) [
        | true ↦ λ e. same_images g ∙ fits.written n k g u found_u e ∙ ap (segment_of g) (sym now)
        | false ↦ λ e.
            same_images g ∙ fits.unwritten g (λ a b t found lock. elim (which n k a b) [
              | inl is ↦ true≢false (sym (subst (λ (x : Transaction). locks x g ≡ true) (same_thread s s n k a b t u is found_u found) lock) ∙ e)
              | inr differ ↦ none a b t (others a b differ ∙ found) lock
            ])
            ∙ sym (ap (segment_of g) now ∙ elsewhere g u.writes before_it (λ i d i_in is. true≢false (sym (subst (λ (x : ℕ). locks u x ≡ true) (sym is) (proper.well.write_locked i d i_in)) ∙ e)))
      ] refl;
    }

-- The step

-- a refusal changes no image
same_of : (m : Setting) (s : State) (event : Event) (r : Refusal) (images olds later kept : Images) → Does m.geometry s event (Refused r) images olds later kept → IsSame images later × IsSame olds kept
same_of m s (Begin n k segments reading) r images olds later kept d = d
same_of m s (SetRange n k segment offset len) r images olds later kept d = d
same_of m s (Write n k segment offset bytes) r images olds later kept d = d
same_of m s (Read n k segment offset len) r images olds later kept d = d
same_of m s (Abort n k) r images olds later kept d = d
same_of m s (Reserve n k) r images olds later kept d = d
same_of m s (Close n k) r images olds later kept d = d
same_of m s (FlushStep n) r images olds later kept d = d
same_of m s (Leave n segment) r images olds later kept d = d
same_of m s (Arrive n segment) r images olds later kept d = d
same_of m s (Deliver sender number segment to) r images olds later kept d = d
same_of m s (Trim n) r images olds later kept d = d
same_of m s (PageStep n segment page) r images olds later kept d = d
same_of m s (ResetStep n) r images olds later kept d = d
same_of m s (Stop choices) r images olds later kept d = d
same_of m s RecoverStep r images olds later kept d = d

refused : (m : Setting) (s new : State) (event : Event) (reply : Reply) (r : Refusal) (images olds later kept : Images) → reply ≡ Refused r → new ≡ s → FitsImages m s images olds → Does m.geometry s event reply images olds later kept → FitsImages m new later kept
refused m s new event reply r images olds later kept is same fits does =
    let d : IsSame images later × IsSame olds kept = same_of m s event r images olds later kept (subst (λ (x : Reply). Does m.geometry s event x images olds later kept) is does) in
    still m s new images olds later kept same d.0 d.1 fits

pub unless_told : (P : Type 0) (refusal : Option Refusal) (s : State) (reply : Reply) (new : State) (otherwise : Type 0) → ((r : Refusal) → reply ≡ Refused r → new ≡ s → P) → (refusal ≡ None → otherwise → P) → Unless refusal s reply new otherwise → P
unless_told P None s reply new otherwise same next h = next refl h
unless_told P (Some refusal) s reply new otherwise same next h = same refusal h.0 h.1

pub running_told : (P : Type 0) (running : Option Transaction) (s : State) (reply : Reply) (new : State) (next : Transaction → Type 0) → ((r : Refusal) → reply ≡ Refused r → new ≡ s → P) → ((u : Transaction) → running ≡ Some u → next u → P) → OfRunning running s reply new next → P
running_told P None s reply new next same goes h = same OutOfTurn h.0 h.1
running_told P (Some u) s reply new next same goes h = goes u refl h

-- no transaction and no value changes
aside : (m : Setting) (s new x : State) (images olds later kept : Images) → ((n k : ℕ) → running_of n k x ≡ running_of n k s) → value m.start x.earlier x.history ≡ value m.start s.earlier s.history → new ≡ x
    → IsSame images later × IsSame olds kept → FitsImages m s images olds → FitsImages m new later kept
aside m s new x images olds later kept runs values is same fits =
    subst (λ (y : State). FitsImages m y later kept) (sym is) (carries m s x images olds later kept runs values same.0 same.1 fits)

moves : (m : Setting) (s : State) (n steps count : ℕ) (reply : Reply) (new : State) (images olds later kept : Images) → IsSame images later × IsSame olds kept → FitsImages m s images olds → Moves s n steps count reply new → FitsImages m new later kept
moves m s n steps count reply new images olds later kept same fits row =
    elim row [
      | inl goes ↦ aside m s new (flushed_to s n steps count) images olds later kept (λ a b. refl) refl goes.1 same fits
      | inr fault ↦ aside m s new (halting (flushed_to s n steps count) n) images olds later kept (λ a b. refl) refl fault.1 same fits
    ]

flushes : (m : Setting) (s : State) (n steps taken : ℕ) (reply : Reply) (new : State) (images olds later kept : Images) → IsSame images later × IsSame olds kept → FitsImages m s images olds → FlushRow s n steps taken reply new → FitsImages m new later kept
flushes m s n steps taken reply new images olds later kept same fits row =
    let P : Type 0 = FitsImages m new later kept in
    match-case P (steps == 0) _ _
    (λ none h. match-case P (front n s.history == s.ack n) _ _
    (λ nothing stay. still m s new images olds later kept stay.1 same.0 same.1 fits)
    (λ more go. moves m s n 1 (front n s.history) reply new images olds later kept same fits go) h)
    (λ some h. match-case P (nat_lt steps 3) _ _
    (λ less go. moves m s n (steps + 1) taken reply new images olds later kept same fits go)
    (λ last ends. elim ends [
      | inl acked ↦ aside m s new (acknowledged s n taken) images olds later kept (λ a b. refl) refl acked.1 same fits
      | inr fault ↦ aside m s new (halting (flushed_to s n 4 taken) n) images olds later kept (λ a b. refl) refl fault.1 same fits
    ]) h)
    row

leaves : (m : Setting) (s : State) (n other : ℕ) (reply : Reply) (new : State) (images olds later kept : Images) → IsSame images later × IsSame olds kept → FitsImages m s images olds → LeaveRow s n other reply new → FitsImages m new later kept
leaves m s n other reply new images olds later kept same fits row =
    elim row [
      | inl goes ↦ aside m s new (placed s other Travelling) images olds later kept (λ a b. refl) refl goes.2 same fits
      | inr stay ↦ elim stay [ inl unflushed ↦ still m s new images olds later kept unflushed.2 same.0 same.1 fits | inr writing ↦ still m s new images olds later kept writing.1 same.0 same.1 fits ]
    ]

arrives : (m : Setting) (s : State) (place : Place) (n other : ℕ) (reply : Reply) (new : State) (images olds later kept : Images) → IsSame images later × IsSame olds kept → FitsImages m s images olds → ArriveRow place s n other reply new → FitsImages m new later kept
arrives m s (At there) n other reply new images olds later kept same fits row = still m s new images olds later kept row.1 same.0 same.1 fits
arrives m s Travelling n other reply new images olds later kept same fits row =
    elim row [
      | inl comes ↦ aside m s new (placed s other (At n)) images olds later kept (λ a b. refl) refl comes.1 same fits
      | inr behind ↦ still m s new images olds later kept behind.3 same.0 same.1 fits
    ]

or_halts : (m : Setting) (s : State) (may : Reply → Bool) (n : ℕ) (reply : Reply) (new : State) (images olds later kept : Images) → IsSame images later × IsSame olds kept → FitsImages m s images olds → OrHalts may s n reply new → FitsImages m new later kept
or_halts m s may n reply new images olds later kept same fits row =
    elim row [ inl stay ↦ still m s new images olds later kept stay.1 same.0 same.1 fits | inr fault ↦ aside m s new (halting s n) images olds later kept (λ a b. refl) refl fault.1 same fits ]

recovers : (m : Setting) (s : State) (phase : Phase) (reply : Reply) (new : State) (images olds later kept : Images) → phase ≡ Up → IsSame images later × IsSame olds kept → FitsImages m s images olds → RecoverRow phase m.geometry s reply new → FitsImages m new later kept
recovers m s Up reply new images olds later kept up same fits row = still m s new images olds later kept row.1 same.0 same.1 fits
recovers m s (DownAt cut) reply new images olds later kept up same fits row = absurd cc

reserve-row : (m : Setting) (s new : State) (reply : Reply) (n k : ℕ) (u : Transaction) (images olds later kept : Images) → Sound m.geometry s → running_of n k s ≡ Some u → FitsImages m s images olds → Does m.geometry s (Reserve n k) reply images olds later kept
    → ReserveRow s u reply new → FitsImages m new later kept
reserve-row m s new reply n k u images olds later kept sound found fits does row =
    let by : (u.node ≡ n) × (u.thread ≡ k) = is_by-both n k u (found-passes (is_by n k) s.running u found) in
    let P : Type 0 = FitsImages m new later kept in
    match-case P (is_empty u.marks) _ _
    (λ nothing h.
    let told = subst (λ (x : Reply). Does m.geometry s (Reserve n k) x images olds later kept) h.0 does in
    let is : new ≡ dropped s n k = subst (λ (x : ℕ). new ≡ dropped s x k) by.0 (subst (λ (x : ℕ). new ≡ dropped s u.node x) by.1 h.1) in
    subst (λ (x : State). FitsImages m x later kept) (sym is) (drops m s n k u images olds later kept sound found fits (told.0 u found).0 (told.0 u found).1 told.1))
    (λ some h. elim h [
      | inl now ↦
          let same : IsSame images later × IsSame olds kept = subst (λ (x : Reply). Does m.geometry s (Reserve n k) x images olds later kept) now.2 does in
          subst (λ (x : State). FitsImages m x later kept) (sym now.3) (reserves m s n k u images olds later kept sound found by.0 by.1 fits same.0 same.1)
      | inr declined ↦ refused m s new (Reserve n k) reply declined.0 images olds later kept declined.2 declined.3 fits does
    ])
    row

image-row : (m : Setting) (s new : State) (event : Event) (reply : Reply) (images olds later kept : Images) → Sound m.geometry s → Sound m.geometry new → s.phase ≡ Up → IsNoStop event → Step m s event reply new → FitsImages m s images olds
    → Does m.geometry s event reply images olds later kept → Row m s event reply new → FitsImages m new later kept
image-row m s new (Begin n k segments reading) reply images olds later kept sound sound_new up no_stop step fits does row =
    unless_told (FitsImages m new later kept) (begin_refusal m.geometry s n k segments reading) s reply new _ (λ r is same. refused m s new (Begin n k segments reading) reply r images olds later kept is same fits does)
    (λ none h. subst (λ (x : State). FitsImages m x later kept) (sym h.1) (begins m s n k segments reading images olds later kept (subst (λ (x : State). Sound m.geometry x) h.1 sound_new) fits
    (subst (λ (x : Reply). Does m.geometry s (Begin n k segments reading) x images olds later kept) h.0 does))) row
image-row m s new (SetRange n k segment offset len) reply images olds later kept sound sound_new up no_stop step fits does row =
    running_told (FitsImages m new later kept) (running_of n k s) s reply new _ (λ r is same. refused m s new (SetRange n k segment offset len) reply r images olds later kept is same fits does)
    (λ u found. unless_told (FitsImages m new later kept) (set_range_refusal m.geometry u segment offset len) s reply new _ (λ r is same. refused m s new (SetRange n k segment offset len) reply r images olds later kept is same fits does)
    (λ none h. subst (λ (x : State). FitsImages m x later kept) (sym h.1) (sets m s n k segment offset len u images olds later kept found fits does.0 does.1))) row
image-row m s new (Write n k segment offset bytes) reply images olds later kept sound sound_new up no_stop step fits does row =
    running_told (FitsImages m new later kept) (running_of n k s) s reply new _ (λ r is same. refused m s new (Write n k segment offset bytes) reply r images olds later kept is same fits does)
    (λ u found. unless_told (FitsImages m new later kept) (write_refusal m.geometry u segment offset bytes) s reply new _ (λ r is same. refused m s new (Write n k segment offset bytes) reply r images olds later kept is same fits does)
    (λ none h. subst (λ (x : State). FitsImages m x later kept) (sym h.1) (writes m s n k segment offset bytes u images olds later kept sound found none
    (subst (λ (x : State). Step m s (Write n k segment offset bytes) Accepted x) h.1 (subst (λ (x : Reply). Step m s (Write n k segment offset bytes) x new) h.0 step)) fits
    (subst (λ (x : Reply). Does m.geometry s (Write n k segment offset bytes) x images olds later kept) h.0 does)))) row
image-row m s new (Read n k segment offset len) reply images olds later kept sound sound_new up no_stop step fits does row =
    running_told (FitsImages m new later kept) (running_of n k s) s reply new _ (λ r is same. refused m s new (Read n k segment offset len) reply r images olds later kept is same fits does)
    (λ u found. unless_told (FitsImages m new later kept) (read_refusal m.geometry u segment offset len) s reply new _ (λ r is same. refused m s new (Read n k segment offset len) reply r images olds later kept is same fits does)
    (λ none h. still m s new images olds later kept h.1 does.0 does.1 fits)) row
image-row m s new (Abort n k) reply images olds later kept sound sound_new up no_stop step fits does row =
    running_told (FitsImages m new later kept) (running_of n k s) s reply new _ (λ r is same. refused m s new (Abort n k) reply r images olds later kept is same fits does)
    (λ u found h.
    let told = subst (λ (x : Reply). Does m.geometry s (Abort n k) x images olds later kept) h.0 does in
    subst (λ (x : State). FitsImages m x later kept) (sym h.1) (drops m s n k u images olds later kept sound found fits (told.0 u found).0 (told.0 u found).1 told.1)) row
image-row m s new (Reserve n k) reply images olds later kept sound sound_new up no_stop step fits does row =
    running_told (FitsImages m new later kept) (running_of n k s) s reply new _ (λ r is same. refused m s new (Reserve n k) reply r images olds later kept is same fits does)
    (λ u found h. reserve-row m s new reply n k u images olds later kept sound found fits does h) row
image-row m s new (Close n k) reply images olds later kept sound sound_new up no_stop step fits does row =
    unless_told (FitsImages m new later kept) (refuse_if (not (has_unclosed n k s)) OutOfTurn None) s reply new _ (λ r is same. refused m s new (Close n k) reply r images olds later kept is same fits does)
    (λ none h. aside m s new (record s { history = closed_by n k s.history }) images olds later kept (λ a b. refl) (value-closed m.start s.earlier n k s.history) h.1 does fits) row
image-row m s new (FlushStep n) reply images olds later kept sound sound_new up no_stop step fits does row = flushes m s n (s.flush n).steps (s.flush n).taken reply new images olds later kept does fits row
image-row m s new (Leave n other) reply images olds later kept sound sound_new up no_stop step fits does row =
    unless_told (FitsImages m new later kept) (leave_refusal s n other) s reply new _ (λ r is same. refused m s new (Leave n other) reply r images olds later kept is same fits does)
    (λ free h. leaves m s n other reply new images olds later kept does fits h) row
image-row m s new (Arrive n other) reply images olds later kept sound sound_new up no_stop step fits does row = arrives m s (s.place other) n other reply new images olds later kept does fits row
image-row m s new (Deliver sender number other to) reply images olds later kept sound sound_new up no_stop step fits does row = still m s new images olds later kept row.1 does.0 does.1 fits
image-row m s new (Trim n) reply images olds later kept sound sound_new up no_stop step fits does row = still m s new images olds later kept row.1 does.0 does.1 fits
image-row m s new (PageStep n other page) reply images olds later kept sound sound_new up no_stop step fits does row = or_halts m s may_page n reply new images olds later kept does fits row
image-row m s new (ResetStep n) reply images olds later kept sound sound_new up no_stop step fits does row = or_halts m s may_reset n reply new images olds later kept does fits row
image-row m s new (Stop choices) reply images olds later kept sound sound_new up no_stop step fits does row = absurd no_stop
image-row m s new RecoverStep reply images olds later kept sound sound_new up no_stop step fits does row = recovers m s s.phase reply new images olds later kept up does fits row

pub image-step : (m : Setting) (s new : State) (event : Event) (reply : Reply) (images olds later kept : Images) → Sound m.geometry s → s.phase ≡ Up → IsNoStop event → Step m s event reply new → FitsImages m s images olds
    → Does m.geometry s event reply images olds later kept → FitsImages m new later kept
image-step m s new event reply images olds later kept sound up no_stop step fits does =
    unless_told (FitsImages m new later kept) (common_refusal m.geometry s event) s reply new (Row m s event reply new)
    (λ r is same. refused m s new event reply r images olds later kept is same fits does)
    (λ none row. image-row m s new event reply images olds later kept sound (sound-step m s event reply new sound step) up no_stop step fits does row) step

pub image-read : (m : Setting) (s new : State) (node thread segment offset len : ℕ) (bytes : List ℕ) (t : Transaction) (images olds : Images) → running_of node thread s ≡ Some t → locks t segment ≡ true → FitsImages m s images olds
    → Step m s (Read node thread segment offset len) (Bytes bytes) new → bytes ≡ take len (drop offset (images segment))
image-read m s new node thread segment offset len bytes t images olds runs lock fits step =
    own-read m s new node thread segment offset len bytes t runs step ∙ ap (λ xs. take len (drop offset xs)) (sym (fits.written node thread segment t runs lock))

-- The phase

as_it_was : (s new x : State) → s.phase ≡ Up → x.phase ≡ s.phase → new ≡ x → new.phase ≡ Up
as_it_was s new x up same is = ap (λ (y : State). y.phase) is ∙ same ∙ up

up-moves : (s : State) (n steps count : ℕ) (reply : Reply) (new : State) → s.phase ≡ Up → Moves s n steps count reply new → new.phase ≡ Up
up-moves s n steps count reply new up row = elim row [ inl goes ↦ as_it_was s new (flushed_to s n steps count) up refl goes.1 | inr fault ↦ as_it_was s new (halting (flushed_to s n steps count) n) up refl fault.1 ]

up-flush : (s : State) (n steps taken : ℕ) (reply : Reply) (new : State) → s.phase ≡ Up → FlushRow s n steps taken reply new → new.phase ≡ Up
up-flush s n steps taken reply new up row =
    match-case (new.phase ≡ Up) (steps == 0) _ _
    (λ none h. match-case (new.phase ≡ Up) (front n s.history == s.ack n) _ _ (λ nothing stay. as_it_was s new s up refl stay.1) (λ more go. up-moves s n 1 (front n s.history) reply new up go) h)
    (λ some h. match-case (new.phase ≡ Up) (nat_lt steps 3) _ _ (λ less go. up-moves s n (steps + 1) taken reply new up go)
    (λ last ends. elim ends [ inl acked ↦ as_it_was s new (acknowledged s n taken) up refl acked.1 | inr fault ↦ as_it_was s new (halting (flushed_to s n 4 taken) n) up refl fault.1 ]) h)
    row

up-leave : (s : State) (n other : ℕ) (reply : Reply) (new : State) → s.phase ≡ Up → LeaveRow s n other reply new → new.phase ≡ Up
up-leave s n other reply new up row = elim row [
  | inl goes ↦ as_it_was s new (placed s other Travelling) up refl goes.2
  | inr stay ↦ elim stay [ inl unflushed ↦ as_it_was s new s up refl unflushed.2 | inr writing ↦ as_it_was s new s up refl writing.1 ]
]

up-arrive : (s : State) (place : Place) (n other : ℕ) (reply : Reply) (new : State) → s.phase ≡ Up → ArriveRow place s n other reply new → new.phase ≡ Up
up-arrive s (At there) n other reply new up row = as_it_was s new s up refl row.1
up-arrive s Travelling n other reply new up row = elim row [ inl comes ↦ as_it_was s new (placed s other (At n)) up refl comes.1 | inr behind ↦ as_it_was s new s up refl behind.3 ]

up-halts : (s : State) (may : Reply → Bool) (n : ℕ) (reply : Reply) (new : State) → s.phase ≡ Up → OrHalts may s n reply new → new.phase ≡ Up
up-halts s may n reply new up row = elim row [ inl stay ↦ as_it_was s new s up refl stay.1 | inr fault ↦ as_it_was s new (halting s n) up refl fault.1 ]

up-recover : (m : Setting) (s : State) (phase : Phase) (reply : Reply) (new : State) → phase ≡ Up → s.phase ≡ Up → RecoverRow phase m.geometry s reply new → new.phase ≡ Up
up-recover m s Up reply new is up row = as_it_was s new s up refl row.1
up-recover m s (DownAt cut) reply new is up row = absurd cc

up-reserve : (s : State) (u : Transaction) (reply : Reply) (new : State) → s.phase ≡ Up → ReserveRow s u reply new → new.phase ≡ Up
up-reserve s u reply new up row =
    match-case (new.phase ≡ Up) (is_empty u.marks) _ _ (λ nothing h. as_it_was s new (dropped s u.node u.thread) up refl h.1)
    (λ some h. elim h [ inl now ↦ as_it_was s new (appended s u) up refl now.3 | inr declined ↦ as_it_was s new s up refl declined.3 ]) row

up-row : (m : Setting) (s new : State) (event : Event) (reply : Reply) → s.phase ≡ Up → IsNoStop event → Row m s event reply new → new.phase ≡ Up
up-row m s new (Begin n k segments reading) reply up no_stop row = unless (new.phase ≡ Up) (begin_refusal m.geometry s n k segments reading) s reply new _ (as_it_was s new s up refl) (λ none h. as_it_was s new (begun m.geometry s n k segments reading) up refl h.1) row
up-row m s new (SetRange n k g offset len) reply up no_stop row = of_running (new.phase ≡ Up) (running_of n k s) s reply new _ (as_it_was s new s up refl)
    (λ u found. unless (new.phase ≡ Up) (set_range_refusal m.geometry u g offset len) s reply new _ (as_it_was s new s up refl) (λ none h. as_it_was s new (changed s (marked u g offset len)) up refl h.1)) row
up-row m s new (Write n k g offset bytes) reply up no_stop row = of_running (new.phase ≡ Up) (running_of n k s) s reply new _ (as_it_was s new s up refl)
    (λ u found. unless (new.phase ≡ Up) (write_refusal m.geometry u g offset bytes) s reply new _ (as_it_was s new s up refl) (λ none h. as_it_was s new (changed s (written u g offset bytes)) up refl h.1)) row
up-row m s new (Read n k g offset len) reply up no_stop row = of_running (new.phase ≡ Up) (running_of n k s) s reply new _ (as_it_was s new s up refl)
    (λ u found. unless (new.phase ≡ Up) (read_refusal m.geometry u g offset len) s reply new _ (as_it_was s new s up refl) (λ none h. as_it_was s new s up refl h.1)) row
up-row m s new (Abort n k) reply up no_stop row = of_running (new.phase ≡ Up) (running_of n k s) s reply new _ (as_it_was s new s up refl) (λ u found h. as_it_was s new (dropped s n k) up refl h.1) row
up-row m s new (Reserve n k) reply up no_stop row = of_running (new.phase ≡ Up) (running_of n k s) s reply new _ (as_it_was s new s up refl) (λ u found h. up-reserve s u reply new up h) row
up-row m s new (Close n k) reply up no_stop row = unless (new.phase ≡ Up) (refuse_if (not (has_unclosed n k s)) OutOfTurn None) s reply new _ (as_it_was s new s up refl) (λ none h. as_it_was s new (record s { history = closed_by n k s.history }) up refl h.1) row
up-row m s new (FlushStep n) reply up no_stop row = up-flush s n (s.flush n).steps (s.flush n).taken reply new up row
up-row m s new (Leave n other) reply up no_stop row = unless (new.phase ≡ Up) (leave_refusal s n other) s reply new _ (as_it_was s new s up refl) (λ free h. up-leave s n other reply new up h) row
up-row m s new (Arrive n other) reply up no_stop row = up-arrive s (s.place other) n other reply new up row
up-row m s new (Deliver sender number other to) reply up no_stop row = as_it_was s new s up refl row.1
up-row m s new (Trim n) reply up no_stop row = as_it_was s new s up refl row.1
up-row m s new (PageStep n other page) reply up no_stop row = up-halts s may_page n reply new up row
up-row m s new (ResetStep n) reply up no_stop row = up-halts s may_reset n reply new up row
up-row m s new (Stop choices) reply up no_stop row = absurd no_stop
up-row m s new RecoverStep reply up no_stop row = up-recover m s s.phase reply new up up row

up-step : (m : Setting) (s new : State) (event : Event) (reply : Reply) → s.phase ≡ Up → IsNoStop event → Step m s event reply new → new.phase ≡ Up
up-step m s new event reply up no_stop step = unless (new.phase ≡ Up) (common_refusal m.geometry s event) s reply new (Row m s event reply new) (as_it_was s new s up refl) (λ none row. up-row m s new event reply up no_stop row) step

pub image-run : (m : Setting) (s new : State) (events : List Event) (replies : List Reply) (images olds later kept : Images) → Sound m.geometry s → s.phase ≡ Up → FitsImages m s images olds
    → RunsWith m s events replies images olds new later kept → FitsImages m new later kept
image-run m s new [] [] images olds later kept sound up fits run = still m s new images olds later kept run.0 run.1 run.2 fits
image-run m s new [] (reply ∷ replies) images olds later kept sound up fits run = absurd run
image-run m s new (event ∷ events) [] images olds later kept sound up fits run = absurd run
image-run m s new (event ∷ events) (reply ∷ replies) images olds later kept sound up fits run =
    image-run m run.0 new events replies run.1 run.2 later kept (sound-step m s event reply run.0 sound run.4) (up-step m s run.0 event reply up run.3 run.4)
    (image-step m s run.0 event reply images olds run.1 run.2 sound up run.3 run.4 fits run.5) run.6

-- who reads a segment reads its image too
pub image-held : (m : Setting) (s new : State) (node thread segment offset len : ℕ) (bytes : List ℕ) (t : Transaction) (images olds : Images) → Sound m.geometry s → running_of node thread s ≡ Some t → holds t segment ≡ true → FitsImages m s images olds
    → Step m s (Read node thread segment offset len) (Bytes bytes) new → bytes ≡ take len (drop offset (images segment))
image-held m s new node thread segment offset len bytes t images olds sound runs held fits step =
    elim (locks t segment) as (λ x. locks t segment ≡ x → bytes ≡ take len (drop offset (images segment))) [
      | true ↦ λ e. image-read m s new node thread segment offset len bytes t images olds runs e fits step
      | false ↦ λ e.
          let proper : IsProper m.geometry t = found-all (is_by node thread) (IsProper m.geometry) s.running t runs sound.running_proper in
          let none : IsUnwritten s segment = λ a b u found lock. elim (which node thread a b) [
            | inl is ↦ true≢false (sym (subst (λ (x : Transaction). locks x segment ≡ true) (same_thread s s node thread a b u t is runs found) lock) ∙ e)
            | inr differ ↦ (apart_of m s node thread a b t u sound (λ nodes threads. differ (sym nodes) (sym threads)) runs found).locks_differ (meet_left u t segment lock held)
          ] in
          let same : segment_of segment (seen m.start s t) ≡ segment_of segment (value m.start s.earlier s.history) =
          elsewhere segment t.writes (value m.start s.earlier s.history) (λ i d i_in is. true≢false (sym (subst (λ (x : ℕ). locks t x ≡ true) (sym is) (proper.well.write_locked i d i_in)) ∙ e)) in
          own-read m s new node thread segment offset len bytes t runs step ∙ ap (λ xs. take len (drop offset xs)) (same ∙ sym (fits.unwritten segment none))
    ] refl

-- an abort that brings back what was kept
pub image-abort : (m : Setting) (s new : State) (n k : ℕ) (t : Transaction) (images olds later : Images) → Sound m.geometry s → running_of n k s ≡ Some t → FitsImages m s images olds → Step m s (Abort n k) Accepted new
    → ((g : ℕ) → locks t g ≡ true → later g ≡ olds g) → ((g : ℕ) → locks t g ≡ false → later g ≡ images g) → FitsImages m new later olds
image-abort m s new n k t images olds later sound found fits step back same =
    subst (λ (x : State). FitsImages m x later olds) (sym (abort-made m s new n k t found step))
    (drops m s n k t images olds later olds sound found fits back same (λ g. refl))

-- no transaction begins that holds what another may write
pub begins-apart : (m : Setting) (s new : State) (node thread n k segment : ℕ) (segments reading : List ℕ) (t u : Transaction) → Sound m.geometry s → running_of node thread s ≡ Some t → locks t segment ≡ true
    → Step m s (Begin n k segments reading) Accepted new → running_of n k new ≡ Some u → holds u segment ≡ false
begins-apart m s new node thread n k segment segments reading t u sound found lock step found_u =
    let first : Transaction = new_one m.geometry n k segments reading in
    let made : new ≡ begun m.geometry s n k segments reading = begin-made m s new n k segments reading step in
    let sound_now : Sound m.geometry (begun m.geometry s n k segments reading) = subst (Sound m.geometry) made (sound-step m s (Begin n k segments reading) Accepted new sound step) in
    let each : All (AreApart first) s.running = AllPairs-head AreApart first s.running (split AreApart (first ∷ s.running) (unclosed s.history) sound_now.apart).left in
    let apart : AreApart first t = found-all (is_by node thread) (AreApart first) s.running t found each in
    let is : u ≡ first = one (running_of n k new) first u (ap (running_of n k) made ∙ running-begun m.geometry s n k segments reading) found_u in
    ap (λ (x : Transaction). holds x segment) is
    ∙ elim (holds first segment) as (λ b. holds first segment ≡ b → b ≡ false) [
      | true ↦ λ e. absurd (apart.locks_differ (meet_right first t segment e lock))
      | false ↦ λ e. refl
    ] refl
