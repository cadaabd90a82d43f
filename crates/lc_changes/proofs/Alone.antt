-- What a transaction reads of a segment that it holds, no other thread changes.
use Rattle.std.proofs.Common.{◌≡◌, ◌≢◌, ℕ, ◌+◌, Bool, true, false, not, ◌==◌, nat_lt, List, [], ◌∷◌, ◌++◌, take, drop, Option, Some, None, All, refl, sym, ◌∙◌, ap, subst, inl, inr, eqb-true, eq-eqb, true≢false}
use Rattle.std.proofs.lemmas.List.Elements.{All-head, All-tail}
use Rattle.lc_record.specs.Content.{Content, put, segment_of, on_segment}
use Rattle.lc_record.specs.Transaction.{ByteWrite, Transaction, writes_on, effect, locks, holds, Meet, IsWellFormed}
use Rattle.lc_record.specs.Marks.{is_empty, marked, written}
use Rattle.lc_record.proofs.LockLemmas.{meet_left}
use Rattle.lc_record.proofs.SegmentLemmas.{segment_of-other, segment_of-same}
use Rattle.lc_model.specs.History.{front, value}
use Rattle.lc_model.specs.Machine.{seen, Run, Step, Row, FlushRow, Moves, ReserveRow, LeaveRow, ArriveRow, OrHalts, RecoverRow, may_page, may_reset, begun, changed, dropped, appended, closed_by, flushed_to, halting, acknowledged, placed}
use Rattle.lc_model.specs.Refusals.{Unless, OfRunning, refuse_if, common_refusal, begin_refusal, set_range_refusal, write_refusal, read_refusal, leave_refusal}
use Rattle.lc_model.specs.Sound.{Sound, AreApart, IsProper, unclosed}
use Rattle.lc_model.specs.State.{Phase, Up, DownAt, Place, At, Travelling, State, Setting, is_by, running_of, has_unclosed}
use Rattle.lc_model.specs.declared.event.Event.{Event}
use Rattle.lc_model.specs.declared.event.Event.TheVariants.{Begin, SetRange, Write, Read, Abort, Reserve, Close, FlushStep, Leave, Arrive, Deliver, Trim, PageStep, ResetStep, Stop, RecoverStep}
use Rattle.lc_model.specs.declared.refusal.Refusal.{Refusal}
use Rattle.lc_model.specs.declared.refusal.Refusal.TheVariants.{OutOfTurn}
use Rattle.lc_model.specs.declared.reply.Reply.{Reply}
use Rattle.lc_model.specs.declared.reply.Reply.TheVariants.{Bytes, Ended, Ok as Accepted, Refused, Reserved}
use Rattle.lc_model.proofs.Holders.{apart-sides, is_by-both}
use Rattle.lc_model.proofs.Keeps.{match-case, sound-step}
use Rattle.lc_model.proofs.Lists.{split, found-all, found-apart, found-passes}
use Rattle.lc_model.proofs.Seats.{is_by-other, running-begun, running-begun_other, new_one, running-changed, running-changed_other, running-dropped_other, value-appended, value-closed}
use Rattle.lc_changes.specs.Held.{IsOfOthers, IsOther, SeesSame, Writes}

-- Writes

-- those to other segments
pub elsewhere : (segment : ℕ) (ws : List ByteWrite) (content : Content) → All (λ (w : ByteWrite). segment ≢ w.segment) ws → segment_of segment (writes_on ws content) ≡ segment_of segment content
elsewhere segment [] content apart = refl
elsewhere segment (w ∷ ws) content apart =
    elsewhere segment ws (on_segment w.segment (put w.offset w.bytes) content) (All-tail (λ (x : ByteWrite). segment ≢ x.segment) w ws apart)
    ∙ segment_of-other segment w.segment (put w.offset w.bytes) content (All-head (λ (x : ByteWrite). segment ≢ x.segment) w ws apart)

-- one write over the same bytes
on_one : (segment : ℕ) (w : ByteWrite) (one other : Content) → segment_of segment one ≡ segment_of segment other
    → segment_of segment (on_segment w.segment (put w.offset w.bytes) one) ≡ segment_of segment (on_segment w.segment (put w.offset w.bytes) other)
on_one segment w one other same =
    elim (segment == w.segment) as (λ b. (segment == w.segment) ≡ b → segment_of segment (on_segment w.segment (put w.offset w.bytes) one) ≡ segment_of segment (on_segment w.segment (put w.offset w.bytes) other)) [
      | true ↦ λ e.
          subst (λ (n : ℕ). segment_of segment (on_segment n (put w.offset w.bytes) one) ≡ segment_of segment (on_segment n (put w.offset w.bytes) other)) (eqb-true segment w.segment e)
          (segment_of-same segment (put w.offset w.bytes) one refl ∙ ap (put w.offset w.bytes) same ∙ sym (segment_of-same segment (put w.offset w.bytes) other refl))
      | false ↦ λ e.
          let differ : segment ≢ w.segment = λ is. absurd (true≢false (sym (eq-eqb segment w.segment is) ∙ e)) in
          segment_of-other segment w.segment (put w.offset w.bytes) one differ ∙ same ∙ sym (segment_of-other segment w.segment (put w.offset w.bytes) other differ)
    ] refl

pub on_same : (segment : ℕ) (ws : List ByteWrite) (one other : Content) → segment_of segment one ≡ segment_of segment other → segment_of segment (writes_on ws one) ≡ segment_of segment (writes_on ws other)
on_same segment [] one other same = same
on_same segment (w ∷ ws) one other same =
    on_same segment ws (on_segment w.segment (put w.offset w.bytes) one) (on_segment w.segment (put w.offset w.bytes) other) (on_one segment w one other same)

-- a transaction that does not meet it changes nothing that it holds
pub unmet : (t u : Transaction) (segment : ℕ) (content : Content) → IsWellFormed u → (Meet u t → ⊥) → holds t segment ≡ true → segment_of segment (effect u content) ≡ segment_of segment content
unmet t u segment content well apart held =
    elsewhere segment u.writes content
    (λ i d i_in same. apart (meet_left u t segment (subst (λ (n : ℕ). locks u n ≡ true) (sym same) (well.write_locked i d i_in)) held))

-- Rows

-- nothing changes
stays : (m : Setting) (s : State) (node thread segment : ℕ) (t : Transaction) (new : State) → s.phase ≡ Up → running_of node thread s ≡ Some t → new ≡ s → SeesSame m s node thread segment t new
stays m s node thread segment t new up runs same = subst (λ (x : State). SeesSame m s node thread segment t x) (sym same) (record { up = up; runs = runs; sees = refl })

-- this is made, which has the same for it
made : (m : Setting) (s : State) (node thread segment : ℕ) (t : Transaction) (new x : State) → x.phase ≡ Up → running_of node thread x ≡ Some t
    → segment_of segment (value m.start x.earlier x.history) ≡ segment_of segment (value m.start s.earlier s.history) → new ≡ x → SeesSame m s node thread segment t new
made m s node thread segment t new x up runs same is =
    subst (λ (y : State). SeesSame m s node thread segment t y) (sym is)
    (record { up = up; runs = runs; sees = on_same segment t.writes (value m.start x.earlier x.history) (value m.start s.earlier s.history) same })

pub unless : (P : Type 0) (refusal : Option Refusal) (s : State) (reply : Reply) (new : State) (otherwise : Type 0) → (new ≡ s → P) → (refusal ≡ None → otherwise → P) → Unless refusal s reply new otherwise → P
unless P None s reply new otherwise same next h = next refl h
unless P (Some refusal) s reply new otherwise same next h = same h.1

pub of_running : (P : Type 0) (running : Option Transaction) (s : State) (reply : Reply) (new : State) (next : Transaction → Type 0) → (new ≡ s → P) → ((u : Transaction) → running ≡ Some u → next u → P) → OfRunning running s reply new next → P
of_running P None s reply new next same goes h = same h.1
of_running P (Some u) s reply new next same goes h = goes u refl h

-- the transaction of another thread is of another thread
pub other_of : (s : State) (node thread n k : ℕ) (u : Transaction) → IsOther node thread n k → running_of n k s ≡ Some u → u.node ≡ node → u.thread ≡ thread → ⊥
other_of s node thread n k u other found nodes threads =
    let by : (u.node ≡ n) × (u.thread ≡ k) = is_by-both n k u (found-passes (is_by n k) s.running u found) in
    other (sym by.0 ∙ nodes) (sym by.1 ∙ threads)

reserves : (m : Setting) (s : State) (node thread segment : ℕ) (t : Transaction) (n k : ℕ) (u : Transaction) (reply : Reply) (new : State) → Sound m.geometry s → s.phase ≡ Up → IsOther node thread n k
    → running_of node thread s ≡ Some t → holds t segment ≡ true → running_of n k s ≡ Some u → ReserveRow s u reply new → SeesSame m s node thread segment t new
reserves m s node thread segment t n k u reply new sound up other runs held found row =
    let differ : u.node ≡ node → u.thread ≡ thread → ⊥ = other_of s node thread n k u other found in
    let gone : running_of node thread (dropped s u.node u.thread) ≡ Some t = running-dropped_other s u.node u.thread node thread differ ∙ runs in
    let each : All (λ y. is_by node thread y ≡ false → AreApart y t) s.running =
    found-apart (is_by node thread) AreApart s.running t apart-sides runs (split AreApart s.running (unclosed s.history) sound.apart).left in
    let apart : AreApart u t = found-all (is_by n k) (λ y. is_by node thread y ≡ false → AreApart y t) s.running u found each (is_by-other node thread u differ) in
    let proper : IsProper m.geometry u = found-all (is_by n k) (IsProper m.geometry) s.running u found sound.running_proper in
    match-case (SeesSame m s node thread segment t new) (is_empty u.marks) _ _
    (λ nothing h. made m s node thread segment t new (dropped s u.node u.thread) up gone refl h.1)
    (λ some h. elim h [
      | inl reserved_now ↦ made m s node thread segment t new (appended s u) up gone
          (ap (segment_of segment) (value-appended m.start s u) ∙ unmet t u segment (value m.start s.earlier s.history) proper.well apart.locks_differ held) reserved_now.3
      | inr refused ↦ stays m s node thread segment t new up runs refused.3
    ])
    row

moves : (m : Setting) (s : State) (node thread segment : ℕ) (t : Transaction) (n steps count : ℕ) (reply : Reply) (new : State) → s.phase ≡ Up → running_of node thread s ≡ Some t → Moves s n steps count reply new → SeesSame m s node thread segment t new
moves m s node thread segment t n steps count reply new up runs row =
    elim row [
      | inl goes ↦ made m s node thread segment t new (flushed_to s n steps count) up runs refl goes.1
      | inr fault ↦ made m s node thread segment t new (halting (flushed_to s n steps count) n) up runs refl fault.1
    ]

flushes : (m : Setting) (s : State) (node thread segment : ℕ) (t : Transaction) (n steps taken : ℕ) (reply : Reply) (new : State) → s.phase ≡ Up → running_of node thread s ≡ Some t → FlushRow s n steps taken reply new → SeesSame m s node thread segment t new
flushes m s node thread segment t n steps taken reply new up runs row =
    let P : Type 0 = SeesSame m s node thread segment t new in
    match-case P (steps == 0) _ _
    (λ none h. match-case P (front n s.history == s.ack n) _ _
    (λ nothing stay. stays m s node thread segment t new up runs stay.1)
    (λ more go. moves m s node thread segment t n 1 (front n s.history) reply new up runs go) h)
    (λ some h. match-case P (nat_lt steps 3) _ _
    (λ less go. moves m s node thread segment t n (steps + 1) taken reply new up runs go)
    (λ last ends. elim ends [
      | inl acked ↦ made m s node thread segment t new (acknowledged s n taken) up runs refl acked.1
      | inr fault ↦ made m s node thread segment t new (halting (flushed_to s n 4 taken) n) up runs refl fault.1
    ]) h)
    row

leaves : (m : Setting) (s : State) (node thread segment : ℕ) (t : Transaction) (n other : ℕ) (reply : Reply) (new : State) → s.phase ≡ Up → running_of node thread s ≡ Some t → LeaveRow s n other reply new → SeesSame m s node thread segment t new
leaves m s node thread segment t n other reply new up runs row =
    elim row [
      | inl goes ↦ made m s node thread segment t new (placed s other Travelling) up runs refl goes.2
      | inr stay ↦ elim stay [ inl unflushed ↦ stays m s node thread segment t new up runs unflushed.2 | inr writing ↦ stays m s node thread segment t new up runs writing.1 ]
    ]

arrives : (m : Setting) (s : State) (node thread segment : ℕ) (t : Transaction) (place : Place) (n other : ℕ) (reply : Reply) (new : State) → s.phase ≡ Up → running_of node thread s ≡ Some t → ArriveRow place s n other reply new → SeesSame m s node thread segment t new
arrives m s node thread segment t (At there) n other reply new up runs row = stays m s node thread segment t new up runs row.1
arrives m s node thread segment t Travelling n other reply new up runs row =
    elim row [
      | inl comes ↦ made m s node thread segment t new (placed s other (At n)) up runs refl comes.1
      | inr behind ↦ stays m s node thread segment t new up runs behind.3
    ]

or_halts : (m : Setting) (s : State) (node thread segment : ℕ) (t : Transaction) (may : Reply → Bool) (n : ℕ) (reply : Reply) (new : State) → s.phase ≡ Up → running_of node thread s ≡ Some t → OrHalts may s n reply new → SeesSame m s node thread segment t new
or_halts m s node thread segment t may n reply new up runs row =
    elim row [ inl stay ↦ stays m s node thread segment t new up runs stay.1 | inr fault ↦ made m s node thread segment t new (halting s n) up runs refl fault.1 ]

recovers : (m : Setting) (s : State) (node thread segment : ℕ) (t : Transaction) (phase : Phase) (reply : Reply) (new : State) → phase ≡ Up → s.phase ≡ Up → running_of node thread s ≡ Some t → RecoverRow phase m.geometry s reply new → SeesSame m s node thread segment t new
recovers m s node thread segment t Up reply new is up runs row = stays m s node thread segment t new up runs row.1
recovers m s node thread segment t (DownAt cut) reply new is up runs row = absurd cc

alone-row : (m : Setting) (s new : State) (event : Event) (reply : Reply) (node thread segment : ℕ) (t : Transaction) → Sound m.geometry s → s.phase ≡ Up → Row m s event reply new → IsOfOthers node thread event
    → running_of node thread s ≡ Some t → holds t segment ≡ true → SeesSame m s node thread segment t new
alone-row m s new (Begin n k segments reading) reply node thread segment t sound up row others runs held =
    unless (SeesSame m s node thread segment t new) (begin_refusal m.geometry s n k segments reading) s reply new _ (stays m s node thread segment t new up runs)
    (λ none h. made m s node thread segment t new (begun m.geometry s n k segments reading) up (running-begun_other m.geometry s n k segments reading node thread others ∙ runs) refl h.1) row
alone-row m s new (SetRange n k other offset len) reply node thread segment t sound up row others runs held =
    of_running (SeesSame m s node thread segment t new) (running_of n k s) s reply new _ (stays m s node thread segment t new up runs)
    (λ u found. unless (SeesSame m s node thread segment t new) (set_range_refusal m.geometry u other offset len) s reply new _ (stays m s node thread segment t new up runs)
    (λ none h. made m s node thread segment t new (changed s (marked u other offset len)) up (running-changed_other s (marked u other offset len) node thread (other_of s node thread n k u others found) ∙ runs) refl h.1)) row
alone-row m s new (Write n k other offset bytes) reply node thread segment t sound up row others runs held =
    of_running (SeesSame m s node thread segment t new) (running_of n k s) s reply new _ (stays m s node thread segment t new up runs)
    (λ u found. unless (SeesSame m s node thread segment t new) (write_refusal m.geometry u other offset bytes) s reply new _ (stays m s node thread segment t new up runs)
    (λ none h. made m s node thread segment t new (changed s (written u other offset bytes)) up (running-changed_other s (written u other offset bytes) node thread (other_of s node thread n k u others found) ∙ runs) refl h.1)) row
alone-row m s new (Read n k other offset len) reply node thread segment t sound up row others runs held =
    of_running (SeesSame m s node thread segment t new) (running_of n k s) s reply new _ (stays m s node thread segment t new up runs)
    (λ u found. unless (SeesSame m s node thread segment t new) (read_refusal m.geometry u other offset len) s reply new _ (stays m s node thread segment t new up runs)
    (λ none h. stays m s node thread segment t new up runs h.1)) row
alone-row m s new (Abort n k) reply node thread segment t sound up row others runs held =
    of_running (SeesSame m s node thread segment t new) (running_of n k s) s reply new _ (stays m s node thread segment t new up runs)
    (λ u found h. made m s node thread segment t new (dropped s n k) up (running-dropped_other s n k node thread others ∙ runs) refl h.1) row
alone-row m s new (Reserve n k) reply node thread segment t sound up row others runs held =
    of_running (SeesSame m s node thread segment t new) (running_of n k s) s reply new _ (stays m s node thread segment t new up runs)
    (λ u found h. reserves m s node thread segment t n k u reply new sound up others runs held found h) row
alone-row m s new (Close n k) reply node thread segment t sound up row others runs held =
    unless (SeesSame m s node thread segment t new) (refuse_if (not (has_unclosed n k s)) OutOfTurn None) s reply new _ (stays m s node thread segment t new up runs)
    (λ none h. made m s node thread segment t new (record s { history = closed_by n k s.history }) up runs (ap (segment_of segment) (value-closed m.start s.earlier n k s.history)) h.1) row
alone-row m s new (FlushStep n) reply node thread segment t sound up row others runs held =
    flushes m s node thread segment t n (s.flush n).steps (s.flush n).taken reply new up runs row
alone-row m s new (Leave n other) reply node thread segment t sound up row others runs held =
    unless (SeesSame m s node thread segment t new) (leave_refusal s n other) s reply new _ (stays m s node thread segment t new up runs)
    (λ free h. leaves m s node thread segment t n other reply new up runs h) row
alone-row m s new (Arrive n other) reply node thread segment t sound up row others runs held = arrives m s node thread segment t (s.place other) n other reply new up runs row
alone-row m s new (Deliver sender number other to) reply node thread segment t sound up row others runs held = stays m s node thread segment t new up runs row.1
alone-row m s new (Trim n) reply node thread segment t sound up row others runs held = stays m s node thread segment t new up runs row.1
alone-row m s new (PageStep n other page) reply node thread segment t sound up row others runs held = or_halts m s node thread segment t may_page n reply new up runs row
alone-row m s new (ResetStep n) reply node thread segment t sound up row others runs held = or_halts m s node thread segment t may_reset n reply new up runs row
alone-row m s new (Stop choices) reply node thread segment t sound up row others runs held = absurd others
alone-row m s new RecoverStep reply node thread segment t sound up row others runs held = recovers m s node thread segment t s.phase reply new up up runs row

pub alone-step : (m : Setting) (s new : State) (event : Event) (reply : Reply) (node thread segment : ℕ) (t : Transaction) → Sound m.geometry s → s.phase ≡ Up → Step m s event reply new → IsOfOthers node thread event
    → running_of node thread s ≡ Some t → holds t segment ≡ true → SeesSame m s node thread segment t new
alone-step m s new event reply node thread segment t sound up step others runs held =
    unless (SeesSame m s node thread segment t new) (common_refusal m.geometry s event) s reply new (Row m s event reply new) (stays m s node thread segment t new up runs)
    (λ none row. alone-row m s new event reply node thread segment t sound up row others runs held) step

pub alone-run : (m : Setting) (s new : State) (events : List Event) (replies : List Reply) (node thread segment : ℕ) (t : Transaction) → Sound m.geometry s → s.phase ≡ Up → Run m s events replies new → All (IsOfOthers node thread) events
    → running_of node thread s ≡ Some t → holds t segment ≡ true → SeesSame m s node thread segment t new
alone-run m s new [] [] node thread segment t sound up run others runs held = stays m s node thread segment t new up runs run
alone-run m s new [] (reply ∷ replies) node thread segment t sound up run others runs held = absurd run
alone-run m s new (event ∷ events) [] node thread segment t sound up run others runs held = absurd run
alone-run m s new (event ∷ events) (reply ∷ replies) node thread segment t sound up run others runs held =
    let first : SeesSame m s node thread segment t run.0 = alone-step m s run.0 event reply node thread segment t sound up run.1 (All-head (IsOfOthers node thread) event events others) runs held in
    let then : SeesSame m run.0 node thread segment t new = alone-run m run.0 new events replies node thread segment t (sound-step m s event reply run.0 sound run.1) first.up run.2 (All-tail (IsOfOthers node thread) event events others) first.runs held in
    record { up = then.up; runs = then.runs; sees = then.sees ∙ first.sees }

-- Its own events

pub writes_on-last : (ws : List ByteWrite) (w : ByteWrite) (content : Content) → writes_on (ws ++ w ∷ []) content ≡ on_segment w.segment (put w.offset w.bytes) (writes_on ws content)
writes_on-last [] w content = refl
writes_on-last (v ∷ ws) w content = writes_on-last ws w (on_segment v.segment (put v.offset v.bytes) content)

pub accepted : (P : Type 0) (refusal : Option Refusal) (s new : State) (otherwise : Type 0) → (otherwise → P) → Unless refusal s Accepted new otherwise → P
accepted P None s new otherwise next h = next h
accepted P (Some refusal) s new otherwise next h = absurd (let never : Accepted ≡ Refused refusal = h.0 in cc)

pub accepted_of : (P : Type 0) (running : Option Transaction) (t : Transaction) (s new : State) (next : Transaction → Type 0) → running ≡ Some t → (next t → P) → OfRunning running s Accepted new next → P
accepted_of P None t s new next found goes h = absurd cc
accepted_of P (Some u) t s new next found goes h = goes (subst next (let same : Some u ≡ Some t = found in cc) h)

-- its own writes are over what it saw, and its transaction has them last
pub own-write : (m : Setting) (s new : State) (node thread segment offset : ℕ) (bytes : List ℕ) (t : Transaction) → running_of node thread s ≡ Some t → Step m s (Write node thread segment offset bytes) Accepted new → Writes m s node thread segment offset bytes t new
own-write m s new node thread segment offset bytes t found step =
    let P : Type 0 = Writes m s node thread segment offset bytes t new in
    let before : Content = writes_on t.writes (value m.start s.earlier s.history) in
    let w : ByteWrite = record { segment = segment; offset = offset; bytes = bytes } in
    let last : writes_on (t.writes ++ w ∷ []) (value m.start s.earlier s.history) ≡ on_segment segment (put offset bytes) before = writes_on-last t.writes w (value m.start s.earlier s.history) in
    let by : (t.node ≡ node) × (t.thread ≡ thread) = is_by-both node thread t (found-passes (is_by node thread) s.running t found) in
    let own : running_of t.node t.thread s ≡ Some t = subst (λ (n : ℕ). running_of n t.thread s ≡ Some t) (sym by.0) (subst (λ (k : ℕ). running_of node k s ≡ Some t) (sym by.1) found) in
    let runs_now : running_of t.node t.thread (changed s (written t segment offset bytes)) ≡ Some (written t segment offset bytes) = running-changed s (written t segment offset bytes) t own in
    accepted P (common_refusal m.geometry s (Write node thread segment offset bytes)) s new (Row m s (Write node thread segment offset bytes) Accepted new)
    (λ row. accepted_of P (running_of node thread s) t s new _ found
    (λ h. accepted P (write_refusal m.geometry t segment offset bytes) s new _
    (λ made_so. subst (λ (x : State). Writes m s node thread segment offset bytes t x) (sym made_so.1) (record {
      runs = subst (λ (n : ℕ). running_of n thread (changed s (written t segment offset bytes)) ≡ Some (written t segment offset bytes)) by.0
          (subst (λ (k : ℕ). running_of t.node k (changed s (written t segment offset bytes)) ≡ Some (written t segment offset bytes)) by.1 runs_now);
      sees = ap (segment_of segment) last ∙ segment_of-same segment (put offset bytes) before refl;
      others = λ other differ. ap (segment_of other) last ∙ segment_of-other other segment (put offset bytes) before differ;
    })) h) row) step

given : (P : Type 0) (refusal : Option Refusal) (bytes : List ℕ) (s new : State) (otherwise : Type 0) → (otherwise → P) → Unless refusal s (Bytes bytes) new otherwise → P
given P None bytes s new otherwise next h = next h
given P (Some refusal) bytes s new otherwise next h = absurd (let never : Bytes bytes ≡ Refused refusal = h.0 in cc)

given_of : (P : Type 0) (running : Option Transaction) (t : Transaction) (bytes : List ℕ) (s new : State) (next : Transaction → Type 0) → running ≡ Some t → (next t → P) → OfRunning running s (Bytes bytes) new next → P
given_of P None t bytes s new next found goes h = absurd cc
given_of P (Some u) t bytes s new next found goes h = goes (subst next (let same : Some u ≡ Some t = found in cc) h)

-- a read that is not refused gives what it sees
pub own-read : (m : Setting) (s new : State) (node thread segment offset len : ℕ) (bytes : List ℕ) (t : Transaction) → running_of node thread s ≡ Some t → Step m s (Read node thread segment offset len) (Bytes bytes) new → bytes ≡ take len (drop offset (segment_of segment (seen m.start s t)))
own-read m s new node thread segment offset len bytes t found step =
    let P : Type 0 = bytes ≡ take len (drop offset (segment_of segment (seen m.start s t))) in
    given P (common_refusal m.geometry s (Read node thread segment offset len)) bytes s new (Row m s (Read node thread segment offset len) (Bytes bytes) new)
    (λ row. given_of P (running_of node thread s) t bytes s new _ found
    (λ h. given P (read_refusal m.geometry t segment offset len) bytes s new _
    (λ told. let same : Bytes bytes ≡ Bytes (take len (drop offset (segment_of segment (seen m.start s t)))) = told.0 in cc) h) row) step

pub own-begin : (m : Setting) (s new : State) (node thread : ℕ) (segments reading : List ℕ) → Step m s (Begin node thread segments reading) Accepted new
    → (t : Transaction) × (running_of node thread new ≡ Some t) × (seen m.start new t ≡ value m.start s.earlier s.history)
own-begin m s new node thread segments reading step =
    let P : State → Type 0 = λ x. (t : Transaction) × (running_of node thread x ≡ Some t) × (seen m.start x t ≡ value m.start s.earlier s.history) in
    accepted (P new) (common_refusal m.geometry s (Begin node thread segments reading)) s new (Row m s (Begin node thread segments reading) Accepted new)
    (λ row. accepted (P new) (begin_refusal m.geometry s node thread segments reading) s new _
    (λ told. subst P (sym told.1) (new_one m.geometry node thread segments reading, running-begun m.geometry s node thread segments reading, refl)) row) step

-- its thread's own
pub own_of : (s : State) (node thread : ℕ) (t u : Transaction) → running_of node thread s ≡ Some t → u.node ≡ t.node → u.thread ≡ t.thread → running_of node thread (changed s u) ≡ Some u
own_of s node thread t u found nodes threads =
    let by : (t.node ≡ node) × (t.thread ≡ thread) = is_by-both node thread t (found-passes (is_by node thread) s.running t found) in
    let is_node : u.node ≡ node = nodes ∙ by.0 in
    let is_thread : u.thread ≡ thread = threads ∙ by.1 in
    let own : running_of u.node u.thread s ≡ Some t = subst (λ (n : ℕ). running_of n u.thread s ≡ Some t) (sym is_node) (subst (λ (k : ℕ). running_of node k s ≡ Some t) (sym is_thread) found) in
    subst (λ (n : ℕ). running_of n thread (changed s u) ≡ Some u) is_node
    (subst (λ (k : ℕ). running_of u.node k (changed s u) ≡ Some u) is_thread (running-changed s u t own))

pub own-set : (m : Setting) (s new : State) (node thread segment offset len : ℕ) (t : Transaction) → running_of node thread s ≡ Some t → Step m s (SetRange node thread segment offset len) Accepted new
    → (running_of node thread new ≡ Some (marked t segment offset len)) × (seen m.start new (marked t segment offset len) ≡ seen m.start s t)
own-set m s new node thread segment offset len t found step =
    let P : State → Type 0 = λ x. (running_of node thread x ≡ Some (marked t segment offset len)) × (seen m.start x (marked t segment offset len) ≡ seen m.start s t) in
    accepted (P new) (common_refusal m.geometry s (SetRange node thread segment offset len)) s new (Row m s (SetRange node thread segment offset len) Accepted new)
    (λ row. accepted_of (P new) (running_of node thread s) t s new _ found
    (λ h. accepted (P new) (set_range_refusal m.geometry t segment offset len) s new _
    (λ told. subst P (sym told.1) (own_of s node thread t (marked t segment offset len) found refl refl, refl)) h) row) step

reserved_now : (P : Type 0) (refusal : Option Refusal) (place words : ℕ) (s new : State) (otherwise : Type 0) → (otherwise → P) → Unless refusal s (Reserved place words) new otherwise → P
reserved_now P None place words s new otherwise next h = next h
reserved_now P (Some refusal) place words s new otherwise next h = absurd (let never : Reserved place words ≡ Refused refusal = h.0 in cc)

reserved_of : (P : Type 0) (running : Option Transaction) (t : Transaction) (place words : ℕ) (s new : State) (next : Transaction → Type 0) → running ≡ Some t → (next t → P) → OfRunning running s (Reserved place words) new next → P
reserved_of P None t place words s new next found goes h = absurd cc
reserved_of P (Some u) t place words s new next found goes h = goes (subst next (let same : Some u ≡ Some t = found in cc) h)

pub own-end : (m : Setting) (s new : State) (node thread place words : ℕ) (t : Transaction) → running_of node thread s ≡ Some t → Step m s (Reserve node thread) (Reserved place words) new → value m.start new.earlier new.history ≡ seen m.start s t
own-end m s new node thread place words t found step =
    let P : State → Type 0 = λ x. value m.start x.earlier x.history ≡ seen m.start s t in
    reserved_now (P new) (common_refusal m.geometry s (Reserve node thread)) place words s new (Row m s (Reserve node thread) (Reserved place words) new)
    (λ row. reserved_of (P new) (running_of node thread s) t place words s new _ found
    (λ h. match-case (P new) (is_empty t.marks) _ _
    (λ nothing ended. absurd (let never : Reserved place words ≡ Ended = ended.0 in cc))
    (λ some told. elim told [
      | inl now ↦ subst P (sym now.3) (value-appended m.start s t)
      | inr refused ↦ absurd (let never : Reserved place words ≡ Refused refused.0 = refused.2 in cc)
    ]) h) row) step

pub own-drop : (m : Setting) (s new : State) (node thread : ℕ) → Step m s (Abort node thread) Accepted new → value m.start new.earlier new.history ≡ value m.start s.earlier s.history
own-drop m s new node thread step =
    let P : State → Type 0 = λ x. value m.start x.earlier x.history ≡ value m.start s.earlier s.history in
    accepted (P new) (common_refusal m.geometry s (Abort node thread)) s new (Row m s (Abort node thread) Accepted new)
    (λ row. of_running (P new) (running_of node thread s) s Accepted new _ (λ same. subst P (sym same) refl) (λ u found h. subst P (sym h.1) refl) row) step

pub abort-made : (m : Setting) (s new : State) (n k : ℕ) (t : Transaction) → running_of n k s ≡ Some t → Step m s (Abort n k) Accepted new → new ≡ dropped s n k
abort-made m s new n k t found step =
    accepted (new ≡ dropped s n k) (common_refusal m.geometry s (Abort n k)) s new (Row m s (Abort n k) Accepted new)
    (λ row. accepted_of (new ≡ dropped s n k) (running_of n k s) t s new _ found (λ told. told.1) row) step

pub begin-made : (m : Setting) (s new : State) (n k : ℕ) (segments reading : List ℕ) → Step m s (Begin n k segments reading) Accepted new → new ≡ begun m.geometry s n k segments reading
begin-made m s new n k segments reading step =
    accepted (new ≡ begun m.geometry s n k segments reading) (common_refusal m.geometry s (Begin n k segments reading)) s new (Row m s (Begin n k segments reading) Accepted new)
    (λ row. accepted (new ≡ begun m.geometry s n k segments reading) (begin_refusal m.geometry s n k segments reading) s new _ (λ told. told.1) row) step
