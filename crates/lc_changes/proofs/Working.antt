-- What the machine answers to the work of an open transaction, where its own has nothing set yet.
use Rattle.std.proofs.Common.{◌≡◌, ℕ, Bool, true, false, not, ◌&&◌, ◌==◌, List, [], ◌∷◌, ◌++◌, filter, take, drop, Option, Some, None, refl, sym, ◌∙◌, ap, subst, eqb-true, eq-eqb}
use Rattle.std.specs.Prelude.{if◌then◌else◌}
use Rattle.std.proofs.lemmas.Bool.{and_parts}
use Rattle.lc_record.specs.Content.{Content, segment_of}
use Rattle.lc_record.specs.Transaction.{Transaction, holds}
use Rattle.lc_record.specs.Marks.{marked, written}
use Rattle.lc_record.specs.declared.geometry.Geometry.{Geometry}
use Rattle.lc_model.specs.History.{value}
use Rattle.lc_model.specs.Machine.{Step, changed, dropped, seen}
use Rattle.lc_model.specs.Refusals.{is_known, is_up, common_refusal, refuse_if, read_refusal, set_range_refusal, write_refusal}
use Rattle.lc_model.specs.State.{State, Setting, is_by, running_of, without, with_changed}
use Rattle.lc_model.specs.declared.event.Event.TheVariants.{SetRange, Write, Read}
use Rattle.lc_model.specs.declared.refusal.Refusal.{Refusal}
use Rattle.lc_model.specs.declared.refusal.Refusal.TheVariants.{NotLocked}
use Rattle.lc_model.specs.declared.reply.Reply.{Reply}
use Rattle.lc_model.specs.declared.reply.Reply.TheVariants.{Bytes, Ok as Accepted, Refused}
use Rattle.lc_model.proofs.Holders.{is_by-both, is_by-same}
use Rattle.lc_model.proofs.Lists.{found-passes}
use Rattle.lc_model.proofs.Rows.{common-none, step-row}
use Rattle.lc_changes.specs.Images.{Images}
use Rattle.lc_changes.specs.Calls.{Answered, Done, Gives, IsWorking, Work, Sets, Writes, Reads, answer, as_events, at_thread, event_of, refused_or, shown, worked}
use Rattle.lc_changes.proofs.Alone.{on_same, own_of}

-- Tables by thread

pub at-own : {A : Type 0} (table : ℕ → ℕ → A) (n k : ℕ) (item : A) → at_thread table n k item n k ≡ item
at-own table n k item = rw (eq-eqb n n refl, eq-eqb k k refl) refl

pub at-other : {A : Type 0} (table : ℕ → ℕ → A) (n k : ℕ) (item : A) (a b : ℕ) → (n ≡ a → k ≡ b → ⊥) → at_thread table n k item a b ≡ table a b
at-other {A} table n k item a b differ =
    elim ((a == n) && (b == k)) as (λ c. ((a == n) && (b == k)) ≡ c → (if c then item else table a b) ≡ table a b) [
      | true ↦ λ e. let both = and_parts (a == n) (b == k) e in absurd (differ (sym (eqb-true a n both.0)) (sym (eqb-true b k both.1)))
      | false ↦ λ e. refl
    ] refl

-- What work makes of a transaction

pub worked-is : (t : Transaction) (work : Work) (reply : Reply) → worked t work reply ≡ record t { marks = (worked t work reply).marks; writes = (worked t work reply).writes }
worked-is t (Sets segment offset len) Accepted = refl
worked-is t (Writes segment offset bytes) Accepted = refl
worked-is t work reply = refl

-- after all of this
abbrev pub after : Transaction → List Done → Transaction
after t [] = t
after t (d ∷ ds) = after (worked t d.work d.reply) ds

pub after-push : (t : Transaction) (ds : List Done) (d : Done) → after t (ds ++ d ∷ []) ≡ worked (after t ds) d.work d.reply
after-push t [] d = refl
after-push t (c ∷ ds) d = after-push (worked t c.work c.reply) ds d

pub after-is : (t : Transaction) (ds : List Done) → after t ds ≡ record t { marks = (after t ds).marks; writes = (after t ds).writes }
after-is t [] = refl
after-is t (d ∷ ds) =
    let u : Transaction = worked t d.work d.reply in
    after-is (worked t d.work d.reply) ds
    ∙ ap (λ (v : Transaction). record v { marks = (after (worked t d.work d.reply) ds).marks; writes = (after (worked t d.work d.reply) ds).writes }) (worked-is t d.work d.reply)

-- What it is answered

-- each of these is known, and answered as of the transaction after those before it
abbrev pub Answers : Geometry → Content → ℕ → ℕ → Transaction → List Done → Type 0
Answers g content n k t [] = Unit {0}
Answers g content n k t (d ∷ ds) =
    (is_known g (event_of n k d.work) ≡ true) × (d.reply ≡ answer g t (shown t content) d.work) × Answers g content n k (worked t d.work d.reply) ds

pub answers-push : (g : Geometry) (content : Content) (n k : ℕ) (t : Transaction) (ds : List Done) (d : Done) → Answers g content n k t ds → is_known g (event_of n k d.work) ≡ true
    → d.reply ≡ answer g (after t ds) (shown (after t ds) content) d.work → Answers g content n k t (ds ++ d ∷ [])
answers-push g content n k t [] d answers known is = (known, is, tt)
answers-push g content n k t (c ∷ ds) d answers known is = (answers.0, answers.1, answers-push g content n k (worked t c.work c.reply) ds d answers.2 known is)

unless-held : (b : Bool) (next : Option Refusal) (x y : Reply) → (b ≡ true → x ≡ y) → refused_or (refuse_if (not b) NotLocked next) x ≡ refused_or (refuse_if (not b) NotLocked next) y
unless-held true next x y same = ap (refused_or next) (same refl)
unless-held false next x y same = refl

-- an answer looks at held segments alone
pub answer-same : (g : Geometry) (t : Transaction) (one other : Images) (work : Work) → ((segment : ℕ) → holds t segment ≡ true → one segment ≡ other segment) → answer g t one work ≡ answer g t other work
answer-same g t one other (Sets segment offset len) same = refl
answer-same g t one other (Writes segment offset bytes) same = refl
answer-same g t one other (Reads segment offset len) same =
    unless-held (holds t segment) _ (Bytes (take len (drop offset (one segment)))) (Bytes (take len (drop offset (other segment))))
    (λ held. ap (λ xs. Bytes (take len (drop offset xs))) (same segment held))

pub answers-same : (g : Geometry) (one other : Content) (n k : ℕ) (t : Transaction) (ds : List Done) → ((segment : ℕ) → holds t segment ≡ true → segment_of segment one ≡ segment_of segment other)
    → Answers g one n k t ds → Answers g other n k t ds
answers-same g one other n k t [] same answers = tt
answers-same g one other n k t (d ∷ ds) same answers = (
  answers.0,
  answers.1 ∙ answer-same g t (shown t one) (shown t other) d.work (λ segment held. on_same segment t.writes one other (same segment held)),
  answers-same g one other n k (worked t d.work d.reply) ds
      (λ segment held. same segment (sym (ap (λ (u : Transaction). holds u segment) (worked-is t d.work d.reply)) ∙ held)) answers.2,
)

-- The machine's own

left_out : (p : Transaction → Bool) (t : Transaction) (ts : List Transaction) → p t ≡ true → filter (λ u. not (p u)) (t ∷ ts) ≡ filter (λ u. not (p u)) ts
left_out p t ts e = rw e refl

left_in : (p : Transaction → Bool) (t : Transaction) (ts : List Transaction) → p t ≡ false → filter (λ u. not (p u)) (t ∷ ts) ≡ t ∷ filter (λ u. not (p u)) ts
left_in p t ts e = rw e refl

without-changed : (t : Transaction) (ts : List Transaction) → without t.node t.thread (with_changed t ts) ≡ without t.node t.thread ts
without-changed t [] = refl
without-changed t (u ∷ ts) =
    elim (is_by t.node t.thread u) as (λ b. is_by t.node t.thread u ≡ b → without t.node t.thread ((if b then t else u) ∷ with_changed t ts) ≡ without t.node t.thread (u ∷ ts)) [
      | true ↦ λ e.
          left_out (is_by t.node t.thread) t (with_changed t ts) (is_by-same t.node t.thread t refl refl) ∙ without-changed t ts ∙ sym (left_out (is_by t.node t.thread) u ts e)
      | false ↦ λ e.
          left_in (is_by t.node t.thread) u (with_changed t ts) e ∙ ap (λ (us : List Transaction). u ∷ us) (without-changed t ts) ∙ sym (left_in (is_by t.node t.thread) u ts e)
    ] refl

-- what was changed is dropped
pub dropped-changed : (s : State) (n k : ℕ) (t : Transaction) → t.node ≡ n → t.thread ≡ k → dropped (changed s t) n k ≡ dropped s n k
dropped-changed s n k t nodes threads =
    subst (λ (a : ℕ). dropped (changed s t) a k ≡ dropped s a k) nodes
    (subst (λ (b : ℕ). dropped (changed s t) t.node b ≡ dropped s t.node b) threads
    (ap (λ (ts : List Transaction). record s { running = ts }) (without-changed t s.running)))

pub its-thread : (s : State) (n k : ℕ) (t : Transaction) → running_of n k s ≡ Some t → (t.node ≡ n) × (t.thread ≡ k)
its-thread s n k t found = is_by-both n k t (found-passes (is_by n k) s.running t found)

pub is-free : (g : Geometry) (s : State) (n k : ℕ) (work : Work) → IsWorking s → is_known g (event_of n k work) ≡ true → common_refusal g s (event_of n k work) ≡ None
is-free g s n k (Sets segment offset len) works known = common-none g s (SetRange n k segment offset len) (ap is_up works.up) known (works.not_halted n)
is-free g s n k (Writes segment offset bytes) works known = common-none g s (Write n k segment offset bytes) (ap is_up works.up) known (works.not_halted n)
is-free g s n k (Reads segment offset len) works known = common-none g s (Read n k segment offset len) (ap is_up works.up) known (works.not_halted n)

-- work is answered so, and only the thread's own transaction is another after it
abbrev pub Worked : Setting → State → ℕ → ℕ → Transaction → Work → Reply → Type 0
Worked m s n k t work reply =
    (new : State) × Step m s (event_of n k work) reply new × (running_of n k new ≡ Some (worked t work reply)) × (dropped new n k ≡ dropped s n k)

work-answered : (m : Setting) (s : State) (n k : ℕ) (t : Transaction) (work : Work) → IsWorking s → running_of n k s ≡ Some t → is_known m.geometry (event_of n k work) ≡ true
    → Worked m s n k t work (answer m.geometry t (shown t (value m.start s.earlier s.history)) work)
work-answered m s n k t (Sets segment offset len) works found known =
    let free : common_refusal m.geometry s (SetRange n k segment offset len) ≡ None = is-free m.geometry s n k (Sets segment offset len) works known in
    let by : (t.node ≡ n) × (t.thread ≡ k) = its-thread s n k t found in
    elim (set_range_refusal m.geometry t segment offset len) as (λ o. set_range_refusal m.geometry t segment offset len ≡ o → Worked m s n k t (Sets segment offset len) (refused_or o Accepted)) [
      | None ↦ λ e. (
        changed s (marked t segment offset len),
        step-row m s (SetRange n k segment offset len) Accepted (changed s (marked t segment offset len)) free (rw (found, e) (refl, refl)),
        own_of s n k t (marked t segment offset len) found refl refl,
        dropped-changed s n k (marked t segment offset len) by.0 by.1,
      )
      | Some refusal ↦ λ e. (s, step-row m s (SetRange n k segment offset len) (Refused refusal) s free (rw (found, e) (refl, refl)), found, refl)
    ] refl
work-answered m s n k t (Writes segment offset bytes) works found known =
    let free : common_refusal m.geometry s (Write n k segment offset bytes) ≡ None = is-free m.geometry s n k (Writes segment offset bytes) works known in
    let by : (t.node ≡ n) × (t.thread ≡ k) = its-thread s n k t found in
    elim (write_refusal m.geometry t segment offset bytes) as (λ o. write_refusal m.geometry t segment offset bytes ≡ o → Worked m s n k t (Writes segment offset bytes) (refused_or o Accepted)) [
      | None ↦ λ e. (
        changed s (written t segment offset bytes),
        step-row m s (Write n k segment offset bytes) Accepted (changed s (written t segment offset bytes)) free (rw (found, e) (refl, refl)),
        own_of s n k t (written t segment offset bytes) found refl refl,
        dropped-changed s n k (written t segment offset bytes) by.0 by.1,
      )
      | Some refusal ↦ λ e. (s, step-row m s (Write n k segment offset bytes) (Refused refusal) s free (rw (found, e) (refl, refl)), found, refl)
    ] refl
work-answered m s n k t (Reads segment offset len) works found known =
    let free : common_refusal m.geometry s (Read n k segment offset len) ≡ None = is-free m.geometry s n k (Reads segment offset len) works known in
    let bytes : List ℕ = take len (drop offset (segment_of segment (seen m.start s t))) in
    elim (read_refusal m.geometry t segment offset len) as (λ o. read_refusal m.geometry t segment offset len ≡ o → Worked m s n k t (Reads segment offset len) (refused_or o (Bytes (take len (drop offset (segment_of segment (seen m.start s t))))))) [
      | None ↦ λ e. (s, step-row m s (Read n k segment offset len) (Bytes (take len (drop offset (segment_of segment (seen m.start s t))))) s free (rw (found, e) (refl, refl)), found, refl)
      | Some refusal ↦ λ e. (s, step-row m s (Read n k segment offset len) (Refused refusal) s free (rw (found, e) (refl, refl)), found, refl)
    ] refl

-- what is left where only the thread's own transaction is another
pub same-value : (m : Setting) (s new : State) (n k : ℕ) → dropped new n k ≡ dropped s n k → value m.start new.earlier new.history ≡ value m.start s.earlier s.history
same-value m s new n k same = ap (λ (x : State). value m.start x.earlier x.history) same

pub same-working : (s new : State) (n k : ℕ) → dropped new n k ≡ dropped s n k → IsWorking s → IsWorking new
same-working s new n k same works = record {
  up = ap (λ (x : State). x.phase) same ∙ works.up;
  not_halted = λ node. ap (λ (x : State). x.halted node) same ∙ works.not_halted node;
}

pub gives-append : (m : Setting) (xs ys : List Answered) (s mid new : State) → Gives m s xs mid → Gives m mid ys new → Gives m s (xs ++ ys) new
gives-append m [] ys s mid new first second = subst (λ (x : State). Gives m x ys new) first second
gives-append m (x ∷ xs) ys s mid new first second = (first.0, first.1, gives-append m xs ys first.0 mid new first.2 second)

-- all of a transaction's work, one after another
pub block-runs : (m : Setting) (s : State) (n k : ℕ) (t : Transaction) (ds : List Done) → IsWorking s → running_of n k s ≡ Some t → Answers m.geometry (value m.start s.earlier s.history) n k t ds
    → (new : State) × Gives m s (as_events n k ds) new × (running_of n k new ≡ Some (after t ds)) × (dropped new n k ≡ dropped s n k)
block-runs m s n k t [] works found answers = (s, refl, found, refl)
block-runs m s n k t (d ∷ ds) works found answers =
    let one : Worked m s n k t d.work d.reply = subst (Worked m s n k t d.work) (sym answers.1) (work-answered m s n k t d.work works found answers.0) in
    let rest = block-runs m one.0 n k (worked t d.work d.reply) ds (same-working s one.0 n k one.3 works) one.2
    (subst (λ (c : Content). Answers m.geometry c n k (worked t d.work d.reply) ds) (sym (same-value m s one.0 n k one.3)) answers.2) in
    (rest.0, (one.0, one.1, rest.1), rest.2, rest.3 ∙ one.3)
