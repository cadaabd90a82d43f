-- What a run's events and replies tell is what it makes.
use Rattle.std.proofs.Common.{◌≡◌, ◌≢◌, ℕ, ◌+◌, ◌<◌, ◌≤◌, Bool, true, false, not, ◌==◌, nat_lt, List, [], ◌∷◌, ◌++◌, map, filter, find, get_or, Option, Some, None, All, AllPairs, Contains, refl, sym, ◌∙◌, ap, subst, arith, inl, inr, append_assoc, append-nil, lt-ltb, ltb-true}
use Rattle.std.specs.Prelude.{if◌then◌else◌, slice_index}
use Rattle.std.proofs.Math.Nat.{le_refl, lt_of_lt_of_le}
use Rattle.std.proofs.lemmas.List.Elements.{All-head, All-tail, All-contains, Contains-append_right, Contains-append_left, filter-append}
use Rattle.std.proofs.lemmas.List.{map-append}
use Rattle.lc_record.specs.Transaction.{Transaction}
use Rattle.lc_record.specs.Marks.{is_empty, marked, written}
use Rattle.lc_record.specs.declared.geometry.Geometry.{Geometry}
use Rattle.lc_record.proofs.ListLemmas.{Contains-map as contains-map}
use Rattle.lc_disk.specs.declared.choice.Choice.{Choice}
use Rattle.lc_model.specs.History.{Numbered, History, Cut, transactions, numbered, numbered_after, is_kept, kept, front}
use Rattle.lc_model.specs.State.{Place, At, Travelling, Phase, Up, DownAt, Setting, State, fresh, is_by, running_of, has_unclosed, without, with_changed}
use Rattle.lc_model.specs.Stops.{MayCut}
use Rattle.lc_model.specs.Sound.{Sound, AreApart, unclosed}
use Rattle.lc_model.specs.Refusals.{refuse_if, Unless, OfRunning, common_refusal, begin_refusal, set_range_refusal, write_refusal, read_refusal, leave_refusal}
use Rattle.lc_model.specs.Machine.{Step, Row, Run, OrHalts, StopRow, FlushRow, Moves, ReserveRow, LeaveRow, ArriveRow, RecoverRow, may_page, may_reset, begun, changed, dropped, appended, closed_by, flushed_to, halting, acknowledged, placed}
use Rattle.lc_model.specs.Told.{Told, on_thread, running_by, reserved_by, told_by, told_by_all, committed, IsLess, IsAcknowledged, is_acked, acknowledged_of}
use Rattle.lc_model.specs.declared.event.Event.{Event}
use Rattle.lc_model.specs.declared.event.Event.TheVariants.{Begin, SetRange, Write, Read, Abort, Reserve, Close, FlushStep, Leave, Arrive, Deliver, Trim, PageStep, ResetStep, Stop, RecoverStep}
use Rattle.lc_model.specs.declared.reply.Reply.{Reply}
use Rattle.lc_model.specs.declared.reply.Reply.TheVariants.{Ok as Accepted, Reserved, Ended, Stepped, Recovered, Refused}
use Rattle.lc_model.specs.declared.refusal.Refusal.{Refusal}
use Rattle.lc_model.specs.declared.refusal.Refusal.TheVariants.{OutOfTurn, DeviceFault}
use Rattle.lc_model.proofs.Fronts.{entry, transactions-closed}
use Rattle.lc_model.proofs.Holders.{is_by-both}
use Rattle.lc_model.proofs.Lists.{split, found-only, found-passes}
use Rattle.lc_model.proofs.Keeps.{transactions-push, numbered-push, last_one, sound-step, update-case, match-case, some_steps}
use Rattle.lc_model.proofs.Law.{AllPairs-head, AllPairs-tail, all-numbered_after, passing, passing-yes, passing-no}
use Rattle.lc_model.proofs.EveryCut.{nodes-known}
use Rattle.lc_model.proofs.Downs.{acked-kept, recovered}
use Rattle.lc_model.proofs.Visible.{contains-filter}

-- Lists less some of their items

pub less-refl : (ts : List Transaction) → IsLess ts ts
less-refl [] = tt
less-refl (t ∷ ts) = inl (refl, less-refl ts)

pub less-more : (xs ys : List Transaction) (t : Transaction) → IsLess xs ys → IsLess xs (t ∷ ys)
less-more [] ys t less = tt
less-more (x ∷ xs) ys t less = inr less

pub less-trans : (xs ys zs : List Transaction) → IsLess xs ys → IsLess ys zs → IsLess xs zs
less-trans [] ys zs one two = tt
less-trans (x ∷ xs) [] zs one two = absurd one
less-trans (x ∷ xs) (y ∷ ys) [] one two = absurd two
less-trans (x ∷ xs) (y ∷ ys) (z ∷ zs) one two = elim two [
  | inl same ↦ elim one [
    | inl both ↦ inl (both.0 ∙ same.0, less-trans xs ys zs both.1 same.1)
    | inr later ↦ inr (less-trans (x ∷ xs) ys zs later same.1)
  ]
  | inr later ↦ inr (less-trans (x ∷ xs) (y ∷ ys) zs one later)
]

pub less-append : (xs ys : List Transaction) (us : List Transaction) → IsLess xs ys → IsLess (us ++ xs) (us ++ ys)
less-append xs ys [] less = less
less-append xs ys (u ∷ us) less = inl (refl, less-append xs ys us less)

pub less-push : (xs ys us : List Transaction) → IsLess xs ys → IsLess (xs ++ us) (ys ++ us)
less-push [] [] us less = less-refl us
less-push [] (y ∷ ys) us less = less-more us (ys ++ us) y (less-push [] ys us tt)
less-push (x ∷ xs) [] us less = absurd less
less-push (x ∷ xs) (y ∷ ys) us less = elim less [
  | inl both ↦ inl (both.0, less-push xs ys us both.1)
  | inr later ↦ inr (less-push (x ∷ xs) ys us later)
]

less-left : (xs ys : List Transaction) → IsLess xs (xs ++ ys)
less-left [] ys = tt
less-left (x ∷ xs) ys = inl (refl, less-left xs ys)

-- a test that more pass leaves more
less-weaker : (p q : Numbered → Bool) (xs : List Numbered) → All (λ x. p x ≡ true → q x ≡ true) xs → IsLess (passing p xs) (passing q xs)
less-weaker p q [] more = tt
less-weaker p q (x ∷ xs) more =
    let More : Numbered → Type 0 = λ y. p y ≡ true → q y ≡ true in
    let next : IsLess (passing p xs) (passing q xs) = less-weaker p q xs (All-tail More x xs more) in
    elim (p x) as (λ b. p x ≡ b → IsLess (passing p (x ∷ xs)) (passing q (x ∷ xs))) [
      | true ↦ λ e.
          let f : q x ≡ true = All-head More x xs more e in
          rw (passing-yes p x xs e, passing-yes q x xs f) (inl (refl, next))
      | false ↦ λ e. elim (q x) as (λ b. q x ≡ b → IsLess (passing p (x ∷ xs)) (passing q (x ∷ xs))) [
        | true ↦ λ f. rw (passing-no p x xs e, passing-yes q x xs f) (less-more (passing p xs) (passing q xs) x.transaction next)
        | false ↦ λ f. rw (passing-no p x xs e, passing-no q x xs f) next
      ] refl
    ] refl

less-filter : (p : Numbered → Bool) (xs : List Numbered) → IsLess (map (λ x. x.transaction) (filter p xs)) (map (λ x. x.transaction) xs)
less-filter p [] = tt
less-filter p (x ∷ xs) =
    let next = less-filter p xs in
    elim (p x) as (λ b. IsLess (map (λ (y : Numbered). y.transaction) (if b then x ∷ filter p xs else filter p xs)) (x.transaction ∷ map (λ (y : Numbered). y.transaction) xs)) [
      | true ↦ inl (refl, next)
      | false ↦ less-more (map (λ (y : Numbered). y.transaction) (filter p xs)) (map (λ (y : Numbered). y.transaction) xs) x.transaction next
    ]

-- what a cut keeps is the history less some
pub less-kept : (history : History) (cut : Cut) → IsLess (kept history cut) (transactions history)
less-kept history cut =
    subst (λ (ts : List Transaction). IsLess (kept history cut) ts) (all-numbered_after [] (transactions history)) (less-filter (is_kept cut) (numbered history))

-- The one open transaction of a thread

-- the only one that passes is all that a filter leaves
filter-only : (p : Transaction → Bool) (t : Transaction) (ts : List Transaction) → find p ts ≡ Some t → All (λ u. p u ≡ true → u ≡ t) ts → AllPairs (λ x y. p x ≡ true → p y ≡ true → ⊥) ts → filter p ts ≡ t ∷ []
filter-only p t [] found only apart = absurd cc
filter-only p t (u ∷ us) found only apart =
    elim (p u) as (λ b. p u ≡ b → (if b then Some u else find p us) ≡ Some t → (if b then u ∷ filter p us else filter p us) ≡ t ∷ []) [
      | true ↦ λ e is.
          let same : u ≡ t = cc in
          ap (λ (x : Transaction). x ∷ filter p us) same ∙ ap (λ (xs : List Transaction). t ∷ xs) (filter-none us (λ k d k_in passes. AllPairs-head (λ x y. p x ≡ true → p y ≡ true → ⊥) u us apart k d k_in e passes))
      | false ↦ λ e is. filter-only p t us is (All-tail (λ v. p v ≡ true → v ≡ t) u us only) (AllPairs-tail (λ x y. p x ≡ true → p y ≡ true → ⊥) u us apart)
    ] refl found
  where
    filter-none : (xs : List Transaction) → All (λ x. p x ≡ true → ⊥) xs → filter p xs ≡ []
    filter-none [] none = refl
    filter-none (x ∷ xs) none =
        let next : filter p xs ≡ [] = filter-none xs (All-tail (λ y. p y ≡ true → ⊥) x xs none) in
        elim (p x) as (λ b. p x ≡ b → (if b then x ∷ filter p xs else filter p xs) ≡ []) [
          | true ↦ λ e. absurd (All-head (λ y. p y ≡ true → ⊥) x xs none e)
          | false ↦ λ e. next
        ] refl

-- changing the only one that passes is changing each that does
changed-only : (p : Transaction → Bool) (t new : Transaction) (change : Transaction → Transaction) (ts : List Transaction) → new ≡ change t → All (λ u. p u ≡ true → u ≡ t) ts
    → map (λ u. if p u then new else u) ts ≡ map (λ u. if p u then change u else u) ts
changed-only p t new change [] is only = refl
changed-only p t new change (u ∷ us) is only =
    let next = changed-only p t new change us is (All-tail (λ v. p v ≡ true → v ≡ t) u us only) in
    let first : (if p u then new else u) ≡ (if p u then change u else u) =
    elim (p u) as (λ b. p u ≡ b → (if b then new else u) ≡ (if b then change u else u)) [
      | true ↦ λ e. is ∙ ap change (sym (All-head (λ v. p v ≡ true → v ≡ t) u us only e))
      | false ↦ λ e. refl
    ] refl in
    ap (λ (x : Transaction). x ∷ map (λ v. if p v then new else v) us) first ∙ ap (λ (xs : List Transaction). (if p u then change u else u) ∷ xs) next

two-apart : (node thread : ℕ) (t u : Transaction) → AreApart t u → is_by node thread t ≡ true → is_by node thread u ≡ true → ⊥
two-apart node thread t u apart t_by u_by =
    let t_is = is_by-both node thread t t_by in
    let u_is = is_by-both node thread u u_by in
    apart.threads_differ (t_is.0 ∙ sym u_is.0) (t_is.1 ∙ sym u_is.1)

module _ (g : Geometry) (s : State) (sound : Sound g s) (node thread : ℕ) (t : Transaction) (found : running_of node thread s ≡ Some t) where
  pairs : AllPairs AreApart s.running
  pairs = (split AreApart s.running (unclosed s.history) sound.apart).left

  only : All (λ u. is_by node thread u ≡ true → u ≡ t) s.running
  only = found-only (is_by node thread) s.running t found (λ i j d i_lt j_in. two-apart node thread _ _ (pairs i j d i_lt j_in))

  its : (t.node ≡ node) × (t.thread ≡ thread)
  its = is_by-both node thread t (found-passes (is_by node thread) s.running t found)

  one-of : filter (is_by node thread) s.running ≡ t ∷ []
  one-of = filter-only (is_by node thread) t s.running found only (λ i j d i_lt j_in. two-apart node thread _ _ (pairs i j d i_lt j_in))

  changed-is : (new : Transaction) (change : Transaction → Transaction) → new ≡ change t → new.node ≡ t.node → new.thread ≡ t.thread → with_changed new s.running ≡ on_thread node thread change s.running
  changed-is new change is same_node same_thread =
      subst (λ (n : ℕ). map (λ u. if is_by n new.thread u then new else u) s.running ≡ on_thread node thread change s.running) (sym (same_node ∙ its.0))
      (subst (λ (k : ℕ). map (λ u. if is_by node k u then new else u) s.running ≡ on_thread node thread change s.running) (sym (same_thread ∙ its.1))
      (changed-only (is_by node thread) t new change s.running is only))

-- What a step makes

pub record After (m : Setting) (s : State) (event : Event) (reply : Reply) (new : State) : Type 0 where
  pub running_is : new.running ≡ running_by m.geometry s.running event reply
  pub less : IsLess (committed new) (committed s ++ reserved_by s.running event reply)
  pub exact : (reply ≡ Recovered → ⊥) → committed new ≡ committed s ++ reserved_by s.running event reply
  pub acked : (t : Transaction) → IsAcknowledged s t → IsAcknowledged new t
  pub acked_less : IsLess (acknowledged_of s) (acknowledged_of new)

-- nothing is told
abbrev Silent : Geometry → List Transaction → Event → Reply → Type 0
Silent g running event reply = (running_by g running event reply ≡ running) × (reserved_by running event reply ≡ [])

-- acknowledged numbers that grow keep what they acknowledge
still-acked : (s new : State) → new.earlier ≡ s.earlier → transactions new.history ≡ transactions s.history → ((n : ℕ) → s.ack n ≤ new.ack n) → (t : Transaction) → IsAcknowledged s t → IsAcknowledged new t
still-acked s new earlier history grows t is = elim is [
  | inl before ↦ inl (subst (λ (ts : List Transaction). Contains ts t) (sym earlier) before)
  | inr one ↦ inr (
    one.0,
    subst (λ (ts : List Transaction). Contains (numbered_after [] ts) one.0) (sym history) one.1,
    one.2,
    lt_of_lt_of_le one.3 (grows one.0.transaction.node),
  )
]

grown : (ack more : ℕ → ℕ) (x : Numbered) → ((n : ℕ) → ack n ≤ more n) → is_acked ack x ≡ true → is_acked more x ≡ true
grown ack more x grows passes = lt-ltb x.number (more x.transaction.node) (lt_of_lt_of_le (ltb-true x.number (ack x.transaction.node) passes) (grows x.transaction.node))

acked-grows : (s new : State) → new.earlier ≡ s.earlier → transactions new.history ≡ transactions s.history → ((n : ℕ) → s.ack n ≤ new.ack n) → IsLess (acknowledged_of s) (acknowledged_of new)
acked-grows s new earlier history grows =
    subst (λ (ts : List Transaction). IsLess (acknowledged_of s) (ts ++ passing (is_acked new.ack) (numbered new.history))) (sym earlier)
    (subst (λ (ts : List Transaction). IsLess (acknowledged_of s) (s.earlier ++ passing (is_acked new.ack) (numbered_after [] ts))) (sym history)
    (less-append (passing (is_acked s.ack) (numbered s.history)) (passing (is_acked new.ack) (numbered s.history)) s.earlier
    (less-weaker (is_acked s.ack) (is_acked new.ack) (numbered s.history) (λ k d k_in. grown s.ack new.ack (get_or (numbered s.history) k d) grows))))

-- where none is reserved
opens : (m : Setting) (s : State) (event : Event) (reply : Reply) (new : State) → new.running ≡ running_by m.geometry s.running event reply → reserved_by s.running event reply ≡ []
    → new.earlier ≡ s.earlier → transactions new.history ≡ transactions s.history → ((n : ℕ) → s.ack n ≤ new.ack n) → After m s event reply new
opens m s event reply new running none earlier history grows =
    let same : committed new ≡ committed s ++ reserved_by s.running event reply =
    ap (λ (ts : List Transaction). ts ++ transactions new.history) earlier ∙ ap (λ (ts : List Transaction). s.earlier ++ ts) history
    ∙ sym (append-nil (committed s)) ∙ ap (λ (ts : List Transaction). committed s ++ ts) (sym none) in
    record {
      running_is = running;
      less = subst (λ (ts : List Transaction). IsLess (committed new) ts) same (less-refl (committed new));
      exact = λ other. same;
      acked = still-acked s new earlier history grows;
      acked_less = acked-grows s new earlier history grows;
    }

-- where nothing is told
quiet : (m : Setting) (s : State) (event : Event) (reply : Reply) (new : State) → Silent m.geometry s.running event reply → new.running ≡ s.running → new.earlier ≡ s.earlier
    → transactions new.history ≡ transactions s.history → ((n : ℕ) → s.ack n ≤ new.ack n) → After m s event reply new
quiet m s event reply new silent running earlier history grows =
    opens m s event reply new (running ∙ sym silent.0) silent.1 earlier history grows

stays : (m : Setting) (s : State) (event : Event) (reply : Reply) (new : State) → Silent m.geometry s.running event reply → new ≡ s → After m s event reply new
stays m s event reply new silent same = subst (λ (x : State). After m s event reply x) (sym same) (quiet m s event reply s silent refl refl refl (λ n. le_refl (s.ack n)))

by-state : (m : Setting) (s : State) (event : Event) (reply : Reply) (made new : State) → After m s event reply made → new ≡ made → After m s event reply new
by-state m s event reply made new after same = subst (λ (x : State). After m s event reply x) (sym same) after

by-reply : (m : Setting) (s : State) (event : Event) (given reply : Reply) (new : State) → After m s event given new → reply ≡ given → After m s event reply new
by-reply m s event given reply new after same = subst (λ (r : Reply). After m s event r new) (sym same) after

by-both : (m : Setting) (s : State) (event : Event) (given reply : Reply) (made new : State) → After m s event given made → (reply ≡ given) × (new ≡ made) → After m s event reply new
by-both m s event given reply made new after same = by-reply m s event given reply new (by-state m s event given made new after same.1) same.0

silent-refused : (g : Geometry) (running : List Transaction) (event : Event) (refusal : Refusal) → Silent g running event (Refused refusal)
silent-refused g running (Begin node thread segments reading) refusal = (refl, refl)
silent-refused g running (SetRange node thread segment offset len) refusal = (refl, refl)
silent-refused g running (Write node thread segment offset bytes) refusal = (refl, refl)
silent-refused g running (Read node thread segment offset len) refusal = (refl, refl)
silent-refused g running (Abort node thread) refusal = (refl, refl)
silent-refused g running (Reserve node thread) refusal = (refl, refl)
silent-refused g running (Close node thread) refusal = (refl, refl)
silent-refused g running (FlushStep node) refusal = (refl, refl)
silent-refused g running (Leave node segment) refusal = (refl, refl)
silent-refused g running (Arrive node segment) refusal = (refl, refl)
silent-refused g running (Deliver sender number segment to) refusal = (refl, refl)
silent-refused g running (Trim node) refusal = (refl, refl)
silent-refused g running (PageStep node segment page) refusal = (refl, refl)
silent-refused g running (ResetStep node) refusal = (refl, refl)
silent-refused g running (Stop choices) refusal = (refl, refl)
silent-refused g running RecoverStep refusal = (refl, refl)

refused : (m : Setting) (s : State) (event : Event) (refusal : Refusal) (reply : Reply) (new : State) → (reply ≡ Refused refusal) × (new ≡ s) → After m s event reply new
refused m s event refusal reply new is =
    by-reply m s event (Refused refusal) reply new (stays m s event (Refused refusal) new (silent-refused m.geometry s.running event refusal) is.1) is.0

unless-after : (m : Setting) (s : State) (event : Event) (refusal : Option Refusal) (reply : Reply) (new : State) (otherwise : Type 0) → (refusal ≡ None → otherwise → After m s event reply new) → Unless refusal s reply new otherwise → After m s event reply new
unless-after m s event None reply new otherwise next h = next refl h
unless-after m s event (Some refusal) reply new otherwise next h = refused m s event refusal reply new h

running-after : (m : Setting) (s : State) (event : Event) (running : Option Transaction) (reply : Reply) (new : State) (next : Transaction → Type 0) → ((t : Transaction) → running ≡ Some t → next t → After m s event reply new)
    → OfRunning running s reply new next → After m s event reply new
running-after m s event None reply new next keeps h = refused m s event OutOfTurn reply new h
running-after m s event (Some t) reply new next keeps h = keeps t refl h

-- The rows

set_range-after : (m : Setting) (s : State) (node thread segment offset len : ℕ) (t : Transaction) → Sound m.geometry s → running_of node thread s ≡ Some t → After m s (SetRange node thread segment offset len) Accepted (changed s (marked t segment offset len))
set_range-after m s node thread segment offset len t sound found =
    opens m s (SetRange node thread segment offset len) Accepted (changed s (marked t segment offset len))
    (changed-is m.geometry s sound node thread t found (marked t segment offset len) (λ u. marked u segment offset len) refl refl refl)
    refl refl refl (λ n. le_refl (s.ack n))

write-after : (m : Setting) (s : State) (node thread segment offset : ℕ) (bytes : List ℕ) (t : Transaction) → Sound m.geometry s → running_of node thread s ≡ Some t → After m s (Write node thread segment offset bytes) Accepted (changed s (written t segment offset bytes))
write-after m s node thread segment offset bytes t sound found =
    opens m s (Write node thread segment offset bytes) Accepted (changed s (written t segment offset bytes))
    (changed-is m.geometry s sound node thread t found (written t segment offset bytes) (λ u. written u segment offset bytes) refl refl refl)
    refl refl refl (λ n. le_refl (s.ack n))

own-without : (g : Geometry) (s : State) (node thread : ℕ) (t : Transaction) → Sound g s → running_of node thread s ≡ Some t → without t.node t.thread s.running ≡ without node thread s.running
own-without g s node thread t sound found =
    let by = its g s sound node thread t found in
    ap (λ (n : ℕ). without n t.thread s.running) by.0 ∙ ap (λ (k : ℕ). without node k s.running) by.1

passing-append : (p : Numbered → Bool) (xs ys : List Numbered) → passing p (xs ++ ys) ≡ passing p xs ++ passing p ys
passing-append p xs ys = ap (map (λ (x : Numbered). x.transaction)) (filter-append p xs ys) ∙ map-append (λ (x : Numbered). x.transaction) (filter p xs) (filter p ys)

reserved-after : (m : Setting) (s : State) (node thread place words : ℕ) (t : Transaction) → Sound m.geometry s → running_of node thread s ≡ Some t → After m s (Reserve node thread) (Reserved place words) (appended s t)
reserved-after m s node thread place words t sound found =
    let same : committed (appended s t) ≡ committed s ++ filter (is_by node thread) s.running =
    ap (λ (ts : List Transaction). s.earlier ++ ts) (transactions-push s.history (entry t false))
    ∙ sym (append_assoc s.earlier (transactions s.history) (t ∷ []))
    ∙ ap (λ (ts : List Transaction). committed s ++ ts) (sym (one-of m.geometry s sound node thread t found)) in
    record {
      running_is = own-without m.geometry s node thread t sound found;
      less = subst (λ (ts : List Transaction). IsLess (committed (appended s t)) ts) same (less-refl (committed (appended s t)));
      exact = λ other. same;
      acked = λ u is. elim is [
        | inl before ↦ inl before
        | inr one ↦ inr (
          one.0,
          subst (λ (xs : List Numbered). Contains xs one.0) (sym (numbered-push s.history t)) (Contains-append_left (numbered s.history) (last_one s.history t ∷ []) one.0 one.1),
          one.2,
          one.3,
        )
      ];
      acked_less = subst (λ (xs : List Numbered). IsLess (acknowledged_of s) (s.earlier ++ passing (is_acked s.ack) xs)) (sym (numbered-push s.history t))
          (subst (λ (ts : List Transaction). IsLess (acknowledged_of s) (s.earlier ++ ts)) (sym (passing-append (is_acked s.ack) (numbered s.history) (last_one s.history t ∷ [])))
          (less-append (passing (is_acked s.ack) (numbered s.history)) (passing (is_acked s.ack) (numbered s.history) ++ passing (is_acked s.ack) (last_one s.history t ∷ [])) s.earlier
          (less-left (passing (is_acked s.ack) (numbered s.history)) (passing (is_acked s.ack) (last_one s.history t ∷ [])))));
    }

reserve-after : (m : Setting) (s : State) (node thread : ℕ) (t : Transaction) (reply : Reply) (new : State) → Sound m.geometry s → running_of node thread s ≡ Some t → ReserveRow s t reply new → After m s (Reserve node thread) reply new
reserve-after m s node thread t reply new sound found row =
    match-case (After m s (Reserve node thread) reply new) (is_empty t.marks) _ _
    (λ nothing h. by-both m s (Reserve node thread) Ended reply (dropped s t.node t.thread) new
    (opens m s (Reserve node thread) Ended (dropped s t.node t.thread) (own-without m.geometry s node thread t sound found) refl refl refl (λ n. le_refl (s.ack n))) h)
    (λ some h. elim h [
      | inl x ↦ by-both m s (Reserve node thread) (Reserved x.0 x.1) reply (appended s t) new (reserved-after m s node thread x.0 x.1 t sound found) (x.2, x.3)
      | inr x ↦ refused m s (Reserve node thread) x.0 reply new (x.2, x.3)
    ])
    row

-- a flush acknowledges more and more
flush-after : (m : Setting) (s : State) (node : ℕ) (reply : Reply) (new : State) → new.running ≡ s.running → new.earlier ≡ s.earlier → new.history ≡ s.history → ((n : ℕ) → s.ack n ≤ new.ack n) → After m s (FlushStep node) reply new
flush-after m s node reply new running earlier history grows =
    quiet m s (FlushStep node) reply new (refl, refl) running earlier (ap transactions history) grows

moves-after : (m : Setting) (s : State) (node steps count : ℕ) (reply : Reply) (new : State) → Moves s node steps count reply new → After m s (FlushStep node) reply new
moves-after m s node steps count reply new row = elim row [
  | inl x ↦ by-state m s (FlushStep node) reply (flushed_to s node steps count) new (flush-after m s node reply (flushed_to s node steps count) refl refl refl (λ n. le_refl (s.ack n))) x.1
  | inr x ↦ by-state m s (FlushStep node) reply (halting (flushed_to s node steps count) node) new (flush-after m s node reply (halting (flushed_to s node steps count) node) refl refl refl (λ n. le_refl (s.ack n))) x.1
]

flush_step-after : (m : Setting) (s : State) (node : ℕ) (reply : Reply) (new : State) → Sound m.geometry s → FlushRow s node (s.flush node).steps (s.flush node).taken reply new → After m s (FlushStep node) reply new
flush_step-after m s node reply new sound row =
    match-case (After m s (FlushStep node) reply new) ((s.flush node).steps == 0) _ _
    (λ none h. match-case (After m s (FlushStep node) reply new) (front node s.history == s.ack node) _ _
    (λ same nothing. stays m s (FlushStep node) reply new (refl, refl) nothing.1)
    (λ more moves. moves-after m s node 1 (front node s.history) reply new moves)
    h)
    (λ under_way h.
    let above : s.ack node ≤ (s.flush node).taken = sound.taken node (some_steps (s.flush node).steps under_way) in
    match-case (After m s (FlushStep node) reply new) (nat_lt (s.flush node).steps 3) _ _
    (λ few moves. moves-after m s node ((s.flush node).steps + 1) (s.flush node).taken reply new moves)
    (λ last ends. elim ends [
      | inl x ↦ by-state m s (FlushStep node) reply (acknowledged s node (s.flush node).taken) new
          (flush-after m s node reply (acknowledged s node (s.flush node).taken) refl refl refl (update-case (λ n k. s.ack n ≤ k) s.ack node (s.flush node).taken above (λ n. le_refl (s.ack n)))) x.1
      | inr x ↦ by-state m s (FlushStep node) reply (halting (flushed_to s node 4 (s.flush node).taken) node) new
          (flush-after m s node reply (halting (flushed_to s node 4 (s.flush node).taken) node) refl refl refl (λ n. le_refl (s.ack n))) x.1
    ])
    h)
    row

leave-after : (m : Setting) (s : State) (node segment : ℕ) (reply : Reply) (new : State) → LeaveRow s node segment reply new → After m s (Leave node segment) reply new
leave-after m s node segment reply new row = elim row [
  | inl x ↦ by-state m s (Leave node segment) reply (placed s segment Travelling) new (quiet m s (Leave node segment) reply (placed s segment Travelling) (refl, refl) refl refl refl (λ n. le_refl (s.ack n))) x.2
  | inr y ↦ elim y [ inl x ↦ stays m s (Leave node segment) reply new (refl, refl) x.2 | inr x ↦ stays m s (Leave node segment) reply new (refl, refl) x.1 ]
]

arrive-after : (m : Setting) (place : Place) (s : State) (node segment : ℕ) (reply : Reply) (new : State) → ArriveRow place s node segment reply new → After m s (Arrive node segment) reply new
arrive-after m (At other) s node segment reply new row = stays m s (Arrive node segment) reply new (refl, refl) row.1
arrive-after m Travelling s node segment reply new row = elim row [
  | inl x ↦ by-state m s (Arrive node segment) reply (placed s segment (At node)) new (quiet m s (Arrive node segment) reply (placed s segment (At node)) (refl, refl) refl refl refl (λ n. le_refl (s.ack n))) x.1
  | inr x ↦ stays m s (Arrive node segment) reply new (refl, refl) x.3
]

halts-after : (may : Reply → Bool) (m : Setting) (s : State) (event : Event) (node : ℕ) (reply : Reply) (new : State) → Silent m.geometry s.running event reply → OrHalts may s node reply new → After m s event reply new
halts-after may m s event node reply new silent row = elim row [
  | inl x ↦ stays m s event reply new silent x.1
  | inr x ↦ by-state m s event reply (halting s node) new (quiet m s event reply (halting s node) silent refl refl refl (λ n. le_refl (s.ack n))) x.1
]

stop-after : (phase : Phase) (m : Setting) (s : State) (choices : List (List Choice)) (reply : Reply) (new : State) → StopRow phase m.geometry s reply new → After m s (Stop choices) reply new
stop-after Up m s choices reply new row =
    by-state m s (Stop choices) reply (record s { phase = DownAt row.0 }) new (quiet m s (Stop choices) reply (record s { phase = DownAt row.0 }) (refl, refl) refl refl refl (λ n. le_refl (s.ack n))) row.3
stop-after (DownAt cut) m s choices reply new row = stays m s (Stop choices) reply new (refl, refl) row.1

-- what is acknowledged is kept by a cut that a stop may make
kept-acked : (g : Geometry) (s : State) (cut : Cut) (t : Transaction) → Sound g s → MayCut g s cut → IsAcknowledged s t → Contains (s.earlier ++ kept s.history cut) t
kept-acked g s cut t sound may is = elim is [
  | inl before ↦ Contains-append_left s.earlier (kept s.history cut) t before
  | inr one ↦
      let x : Numbered = one.0 in
      let below : one.0.transaction.node < g.nodes = All-contains (λ (y : Numbered). y.transaction.node < g.nodes) (numbered s.history) one.0 (nodes-known g s sound) one.1 in
      let least : s.ack one.0.transaction.node ≤ slice_index cut one.0.transaction.node = acked-kept g s one.0.transaction.node (slice_index cut one.0.transaction.node) sound (may.2 one.0.transaction.node below) in
      let passes : is_kept cut one.0 ≡ true = lt-ltb one.0.number (slice_index cut one.0.transaction.node) (lt_of_lt_of_le one.3 least) in
      let among : Contains (filter (is_kept cut) (numbered s.history)) one.0 = contains-filter (is_kept cut) (numbered s.history) one.1.0 one.0 passes one.1.1 one.1.2 in
      Contains-append_right s.earlier (kept s.history cut) t
      (subst (λ (u : Transaction). Contains (kept s.history cut) u) one.2 (contains-map (λ (y : Numbered). y.transaction) (filter (is_kept cut) (numbered s.history)) one.0 among))
]

kept-less : (g : Geometry) (s : State) (cut : Cut) → Sound g s → MayCut g s cut → IsLess (acknowledged_of s) (s.earlier ++ kept s.history cut)
kept-less g s cut sound may =
    less-append (passing (is_acked s.ack) (numbered s.history)) (kept s.history cut) s.earlier
    (less-weaker (is_acked s.ack) (is_kept cut) (numbered s.history) (λ k d k_in passes.
    let x : Numbered = get_or (numbered s.history) k d in
    let least : s.ack x.transaction.node ≤ slice_index cut x.transaction.node = acked-kept g s x.transaction.node (slice_index cut x.transaction.node) sound (may.2 x.transaction.node (nodes-known g s sound k d k_in)) in
    lt-ltb x.number (slice_index cut x.transaction.node) (lt_of_lt_of_le (ltb-true x.number (s.ack x.transaction.node) passes) least)))

recovered-after : (m : Setting) (s : State) (cut : Cut) → Sound m.geometry s → MayCut m.geometry s cut → After m s RecoverStep Recovered (fresh m.geometry (s.earlier ++ kept s.history cut) Up)
recovered-after m s cut sound may = record {
  running_is = refl;
  less = subst (λ (ts : List Transaction). IsLess ts (committed s ++ [])) (sym (append-nil (s.earlier ++ kept s.history cut)))
      (subst (λ (ts : List Transaction). IsLess (s.earlier ++ kept s.history cut) ts) (sym (append-nil (committed s))) (less-append (kept s.history cut) (transactions s.history) s.earlier (less-kept s.history cut)));
  exact = λ other. absurd (other refl);
  acked = λ t is. inl (kept-acked m.geometry s cut t sound may is);
  acked_less = subst (λ (ts : List Transaction). IsLess (acknowledged_of s) ts) (sym (append-nil (s.earlier ++ kept s.history cut))) (kept-less m.geometry s cut sound may);
}

recover-after : (phase : Phase) (m : Setting) (s : State) (reply : Reply) (new : State) → Sound m.geometry s → s.phase ≡ phase → RecoverRow phase m.geometry s reply new → After m s RecoverStep reply new
recover-after Up m s reply new sound is row = refused m s RecoverStep OutOfTurn reply new row
recover-after (DownAt cut) m s reply new sound is row = elim row [
  | inl x ↦ by-reply m s RecoverStep (Stepped x.0) reply new (stays m s RecoverStep (Stepped x.0) new (refl, refl) x.2) x.1
  | inr y ↦ elim y [
    | inl x ↦ refused m s RecoverStep DeviceFault reply new x
    | inr x ↦ by-both m s RecoverStep Recovered reply (fresh m.geometry (s.earlier ++ kept s.history cut) Up) new (recovered-after m s cut sound (sound.down_cut cut is)) x
  ]
]

row-after : (m : Setting) (s : State) (event : Event) (reply : Reply) (new : State) → Sound m.geometry s → Row m s event reply new → After m s event reply new
row-after m s (Begin node thread segments reading) reply new sound row =
    unless-after m s (Begin node thread segments reading) (begin_refusal m.geometry s node thread segments reading) reply new _
    (λ none h. by-both m s (Begin node thread segments reading) Accepted reply (begun m.geometry s node thread segments reading) new
    (opens m s (Begin node thread segments reading) Accepted (begun m.geometry s node thread segments reading) refl refl refl refl (λ n. le_refl (s.ack n))) h) row
row-after m s (SetRange node thread segment offset len) reply new sound row =
    running-after m s (SetRange node thread segment offset len) (running_of node thread s) reply new _
    (λ t found. unless-after m s (SetRange node thread segment offset len) (set_range_refusal m.geometry t segment offset len) reply new _
    (λ none h. by-both m s (SetRange node thread segment offset len) Accepted reply (changed s (marked t segment offset len)) new (set_range-after m s node thread segment offset len t sound found) h)) row
row-after m s (Write node thread segment offset bytes) reply new sound row =
    running-after m s (Write node thread segment offset bytes) (running_of node thread s) reply new _
    (λ t found. unless-after m s (Write node thread segment offset bytes) (write_refusal m.geometry t segment offset bytes) reply new _
    (λ none h. by-both m s (Write node thread segment offset bytes) Accepted reply (changed s (written t segment offset bytes)) new (write-after m s node thread segment offset bytes t sound found) h)) row
row-after m s (Read node thread segment offset len) reply new sound row =
    running-after m s (Read node thread segment offset len) (running_of node thread s) reply new _
    (λ t found. unless-after m s (Read node thread segment offset len) (read_refusal m.geometry t segment offset len) reply new _
    (λ none h. stays m s (Read node thread segment offset len) reply new (refl, refl) h.1)) row
row-after m s (Abort node thread) reply new sound row =
    running-after m s (Abort node thread) (running_of node thread s) reply new _
    (λ t found h. by-both m s (Abort node thread) Accepted reply (dropped s node thread) new
    (opens m s (Abort node thread) Accepted (dropped s node thread) refl refl refl refl (λ n. le_refl (s.ack n))) h) row
row-after m s (Reserve node thread) reply new sound row =
    running-after m s (Reserve node thread) (running_of node thread s) reply new _ (λ t found h. reserve-after m s node thread t reply new sound found h) row
row-after m s (Close node thread) reply new sound row =
    unless-after m s (Close node thread) (refuse_if (not (has_unclosed node thread s)) OutOfTurn None) reply new _
    (λ none h. by-state m s (Close node thread) reply (record s { history = closed_by node thread s.history }) new
    (quiet m s (Close node thread) reply (record s { history = closed_by node thread s.history }) (refl, refl) refl refl (transactions-closed node thread s.history) (λ n. le_refl (s.ack n))) h.1) row
row-after m s (FlushStep node) reply new sound row = flush_step-after m s node reply new sound row
row-after m s (Leave node segment) reply new sound row =
    unless-after m s (Leave node segment) (leave_refusal s node segment) reply new _ (λ none h. leave-after m s node segment reply new h) row
row-after m s (Arrive node segment) reply new sound row = arrive-after m (s.place segment) s node segment reply new row
row-after m s (Deliver sender number segment to) reply new sound row = stays m s (Deliver sender number segment to) reply new (refl, refl) row.1
row-after m s (Trim node) reply new sound row = stays m s (Trim node) reply new (refl, refl) row.1
row-after m s (PageStep node segment page) reply new sound row = halts-after may_page m s (PageStep node segment page) node reply new (refl, refl) row
row-after m s (ResetStep node) reply new sound row = halts-after may_reset m s (ResetStep node) node reply new (refl, refl) row
row-after m s (Stop choices) reply new sound row = stop-after s.phase m s choices reply new row
row-after m s RecoverStep reply new sound row = recover-after s.phase m s reply new sound refl row

pub step-after : (m : Setting) (s : State) (event : Event) (reply : Reply) (new : State) → Sound m.geometry s → Step m s event reply new → After m s event reply new
step-after m s event reply new sound step =
    unless-after m s event (common_refusal m.geometry s event) reply new (Row m s event reply new) (λ none row. row-after m s event reply new sound row) step

-- Over runs

pub acked-step : (m : Setting) (s new : State) (event : Event) (reply : Reply) (t : Transaction) → Sound m.geometry s → Step m s event reply new → IsAcknowledged s t → IsAcknowledged new t
acked-step m s new event reply t sound step is = (step-after m s event reply new sound step).acked t is

pub acked-run : (m : Setting) (s new : State) (events : List Event) (replies : List Reply) (t : Transaction) → Sound m.geometry s → Run m s events replies new → IsAcknowledged s t → IsAcknowledged new t
acked-run m s new [] [] t sound run is = subst (λ (x : State). IsAcknowledged x t) (sym run) is
acked-run m s new [] (reply ∷ replies) t sound run is = absurd run
acked-run m s new (event ∷ events) [] t sound run is = absurd run
acked-run m s new (event ∷ events) (reply ∷ replies) t sound run is =
    acked-run m run.0 new events replies t (sound-step m s event reply run.0 sound run.1) run.2 (acked-step m s run.0 event reply t sound run.1 is)

-- where there is no history, all that is acknowledged was kept
acked-earlier : (s : State) (t : Transaction) → s.history ≡ [] → IsAcknowledged s t → Contains s.earlier t
acked-earlier s t none is = elim is [
  | inl before ↦ before
  | inr one ↦
      let nowhere : Contains (numbered []) one.0 = subst (λ (h : History). Contains (numbered h) one.0) none one.1 in
      absurd (omega (arith, nowhere.1))
]

pub acked-kept_run : (m : Setting) (s new : State) (events : List Event) (replies : List Reply) (t : Transaction) → Sound m.geometry s → Run m s events replies new → new.history ≡ [] → IsAcknowledged s t → Contains new.earlier t
acked-kept_run m s new events replies t sound run none is = acked-earlier new t none (acked-run m s new events replies t sound run is)

pub acked-recovered : (m : Setting) (s new : State) (t : Transaction) → Sound m.geometry s → Step m s RecoverStep Recovered new → IsAcknowledged s t → Contains new.earlier t
acked-recovered m s new t sound step is =
    let after = recovered m s new sound step in
    acked-earlier new t (ap (λ (x : State). x.history) after.3) (acked-step m s new RecoverStep Recovered t sound step is)

-- those that are acknowledged stand as often and in their order
pub acked_of-run : (m : Setting) (s new : State) (events : List Event) (replies : List Reply) → Sound m.geometry s → Run m s events replies new → IsLess (acknowledged_of s) (acknowledged_of new)
acked_of-run m s new [] [] sound run = subst (λ (x : State). IsLess (acknowledged_of s) (acknowledged_of x)) (sym run) (less-refl (acknowledged_of s))
acked_of-run m s new [] (reply ∷ replies) sound run = absurd run
acked_of-run m s new (event ∷ events) [] sound run = absurd run
acked_of-run m s new (event ∷ events) (reply ∷ replies) sound run =
    less-trans (acknowledged_of s) (acknowledged_of run.0) (acknowledged_of new) (step-after m s event reply run.0 sound run.1).acked_less
    (acked_of-run m run.0 new events replies (sound-step m s event reply run.0 sound run.1) run.2)

pub acked_of-kept : (m : Setting) (s new : State) (events : List Event) (replies : List Reply) → Sound m.geometry s → Run m s events replies new → new.history ≡ [] → IsLess (acknowledged_of s) new.earlier
acked_of-kept m s new events replies sound run none =
    let same : acknowledged_of new ≡ new.earlier = ap (λ (h : History). new.earlier ++ passing (is_acked new.ack) (numbered h)) none ∙ append-nil new.earlier in
    subst (λ (ts : List Transaction). IsLess (acknowledged_of s) ts) same (acked_of-run m s new events replies sound run)

-- what is told of a run is what it makes, whatever was told before that the state has
pub told-run : (m : Setting) (s new : State) (told : Told) (events : List Event) (replies : List Reply) → Sound m.geometry s → s.running ≡ told.running → IsLess (committed s) told.reserved → Run m s events replies new
    → (new.running ≡ (told_by_all m.geometry told events replies).running) × IsLess (committed new) (told_by_all m.geometry told events replies).reserved
told-run m s new told [] [] sound running less run = (ap (λ (x : State). x.running) run ∙ running, subst (λ (x : State). IsLess (committed x) told.reserved) (sym run) less)
told-run m s new told [] (reply ∷ replies) sound running less run = absurd run
told-run m s new told (event ∷ events) [] sound running less run = absurd run
told-run m s new told (event ∷ events) (reply ∷ replies) sound running less run =
    let mid : State = run.0 in
    let after : After m s event reply run.0 = step-after m s event reply run.0 sound run.1 in
    let more : List Transaction = reserved_by s.running event reply in
    let next : IsLess (committed run.0) (told.reserved ++ reserved_by s.running event reply) = less-trans (committed run.0) (committed s ++ more) (told.reserved ++ more) after.less (less-push (committed s) told.reserved more less) in
    told-run m run.0 new (told_by m.geometry told event reply) events replies (sound-step m s event reply run.0 sound run.1)
    (after.running_is ∙ ap (λ (ts : List Transaction). running_by m.geometry ts event reply) running)
    (subst (λ (ts : List Transaction). IsLess (committed run.0) (told.reserved ++ reserved_by ts event reply)) running next)
    run.2

-- without a recovery they are equal
pub told-exact : (m : Setting) (s new : State) (told : Told) (events : List Event) (replies : List Reply) → Sound m.geometry s → s.running ≡ told.running → committed s ≡ told.reserved → Run m s events replies new
    → All (λ reply. reply ≢ Recovered) replies → committed new ≡ (told_by_all m.geometry told events replies).reserved
told-exact m s new told [] [] sound running same run none = ap committed run ∙ same
told-exact m s new told [] (reply ∷ replies) sound running same run none = absurd run
told-exact m s new told (event ∷ events) [] sound running same run none = absurd run
told-exact m s new told (event ∷ events) (reply ∷ replies) sound running same run none =
    let after : After m s event reply run.0 = step-after m s event reply run.0 sound run.1 in
    told-exact m run.0 new (told_by m.geometry told event reply) events replies (sound-step m s event reply run.0 sound run.1)
    (after.running_is ∙ ap (λ (ts : List Transaction). running_by m.geometry ts event reply) running)
    (after.exact (All-head (λ r. r ≢ Recovered) reply replies none)
    ∙ ap (λ (ts : List Transaction). ts ++ reserved_by s.running event reply) same
    ∙ ap (λ (ts : List Transaction). told.reserved ++ reserved_by ts event reply) running)
    run.2 (All-tail (λ r. r ≢ Recovered) reply replies none)
