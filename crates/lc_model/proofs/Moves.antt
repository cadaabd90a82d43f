-- The moves of a store keep its disks fitting the machine's state.
use Rattle.std.proofs.Common.{◌≡◌, ◌≢◌, ◌⊎◌, ℕ, suc, ◌+◌, ◌-◌, ◌*◌, ◌<◌, ◌≤◌, Bool, true, false, ◌==◌, List, [], ◌∷◌, ◌++◌, map, length, filter, get_or, take, drop, Option, Some, None, All, IsTrue, refl, sym, ◌∙◌, ap, subst, arith, inl, inr, true≢false, eqb-true, eq-eqb, ne_eqb, le_trans, length-append, slice_index, lt-ltb, append_assoc}
use Rattle.std.specs.Prelude.{if◌then◌else◌}
use Rattle.std.proofs.Math.Nat.{le_refl}
use Rattle.std.proofs.lemmas.List.Elements.{All-cons, All-head, All-tail, All-take, All-weaker, filter-append}
use Rattle.std.proofs.lemmas.List.{map-append, take_all as take-all, take-append-le as take-front}
use Rattle.lc_record.proofs.LockLemmas.{lock_holds}
use Rattle.lc_record.specs.Content.{Content}
use Rattle.lc_record.specs.Transaction.{Transaction, IsWellFormed, locks, effect, effects}
use Rattle.lc_record.specs.declared.record.Record.{Record}
use Rattle.lc_record.specs.Recorded.{record_of, records_from, counted}
use Rattle.lc_model.specs.History.{Entry, Numbered, History, Cut, transactions, numbered, numbered_after, kept, is_kept, is_of, reserved}
use Rattle.lc_model.specs.State.{State, Setting, Place, At, Flush, Phase, update}
use Rattle.lc_model.specs.Machine.{appended, acknowledged}
use Rattle.lc_record.specs.Newest.{number_or_zero}
use Rattle.lc_model.specs.Merging.{sets, counted_all, is_from}
use Rattle.lc_model.specs.Sound.{Sound}
use Rattle.lc_model.proofs.Law.{all-numbered_after}
use Rattle.lc_model.proofs.Fronts.{entry}
use Rattle.lc_model.proofs.Keeps.{transactions-push, numbered-push, last_one, acked-reserved}
use Rattle.lc_model.proofs.Merging.{counted-length, records_from-append, of_a_segment}
use Rattle.lc_model.proofs.RecordBytes.{sets-locks}
use Rattle.lc_model.proofs.Lists.{All-from_map}
use Rattle.lc_model.specs.Merge.{Page}
use Rattle.lc_model.specs.Stored.{Disks, Fits, IsOnPages, Shows, Stands, base, records_of, up_to, page_bytes, acked, stable_number}
use Rattle.lc_model.specs.Moves.{update_at, with_begun, with_opened, with_settled, with_reset, with_dropped, page_now}
use Rattle.lc_model.proofs.Shown.{kept-more, get-acked, known-nodes, passing-more, proper-well}

-- Of the machine

-- what is no part of the history or of what is acknowledged may change
pub keeps-aside : (m : Setting) (s : State) (d : Disks) (running : List Transaction) (place : ℕ → Place) (halted : ℕ → Bool) (flush : ℕ → Flush) (phase : Phase) → Fits m s d → Sound m.geometry (record s { running = running; place = place; halted = halted; flush = flush; phase = phase }) → Fits m (record s { running = running; place = place; halted = halted; flush = flush; phase = phase }) d
keeps-aside m s d running place halted flush phase fits sound = record {
  sound = sound;
  shape = fits.shape;
  stands = λ segment page text some last within shows.
      (let old : Stands m s d segment page text = fits.stands segment page text some last within shows in
      record { within = old.within; bytes = old.bytes });
  reached = fits.reached;
  dropped = fits.dropped;
  resetting = fits.resetting;
  begun = λ segment page text some last within is.
      (let old : Stands m s d segment page text × ((d.page segment page).sequence ≤ text.sequence) = fits.begun segment page text some last within is in
      (record { within = old.0.within; bytes = old.0.bytes }, old.1));
  dropped_acked = fits.dropped_acked;
  sealed = fits.sealed;
}

-- and marks of the history
pub keeps-marks : (m : Setting) (s : State) (d : Disks) (history : History) → Fits m s d → Sound m.geometry (record s { history = history }) → transactions history ≡ transactions s.history → Fits m (record s { history = history }) d
keeps-marks m s d history fits sound same =
    let old : transactions s.history ≡ transactions history = sym same in
    let of : List Transaction → ℕ → List Record = λ ts node. filter (is_from node) (records_from d.numbers (base m s) ts) in
    let again : (segment page : ℕ) (text : Page) → Stands m s d segment page text → Stands m (record s { history = history }) d segment page text =
    λ segment page text before.
    (record {
      within = subst (λ (ts : List Transaction). text.sequence ≤ counted_all d.numbers (map (λ x. x.transaction) (filter (is_kept (acked m.geometry s)) (numbered_after [] ts))) segment) old before.within;
      bytes = subst (λ (ts : List Transaction). text.bytes ≡ page_bytes segment page (effects (take (text.sequence - d.numbers segment) (filter (sets segment) ts)) (base m s))) old before.bytes;
    }) in
    record {
      sound = sound;
      shape = fits.shape;
      stands = λ segment page text some final within shows. again segment page text (fits.stands segment page text some final within shows);
      begun = λ segment page text some final within is.
          (let old : Stands m s d segment page text × ((d.page segment page).sequence ≤ text.sequence) = fits.begun segment page text some final within is in
          (again segment page text old.0, old.1));
      reached = fits.reached;
      dropped = λ node within. subst (λ (ts : List Transaction). All (IsOnPages m.geometry d) (take (d.dropped node) (filter (is_from node) (records_from d.numbers (base m s) ts)))) old (fits.dropped node within);
      resetting = λ node within is. subst (λ (ts : List Transaction). All (IsOnPages m.geometry d) (take (s.ack node) (filter (is_from node) (records_from d.numbers (base m s) ts)))) old (fits.resetting node within is);
      dropped_acked = fits.dropped_acked;
      sealed = λ node within is. subst (λ (ts : List Transaction). length (filter (is_from node) (records_from d.numbers (base m s) ts)) ≤ s.ack node) old (fits.sealed node within is);
    }

-- A reservation

-- as many records as transactions of a node
length-records : (numbers : ℕ → ℕ) (content : Content) (node : ℕ) (ts : List Transaction) → length (filter (is_from node) (records_from numbers content ts)) ≡ length (filter (is_of node) ts)
length-records numbers content node [] = refl
length-records numbers content node (t ∷ ts) =
    let next : length (filter (is_from node) (records_from (counted numbers t) (effect t content) ts)) ≡ length (filter (is_of node) ts) = length-records (counted numbers t) (effect t content) node ts in
    elim (t.node == node) as (λ b. length (if b then record_of numbers content t ∷ filter (is_from node) (records_from (counted numbers t) (effect t content) ts) else filter (is_from node) (records_from (counted numbers t) (effect t content) ts)) ≡ length (if b then t ∷ filter (is_of node) ts else filter (is_of node) ts)) [
      | true ↦ ap suc next
      | false ↦ next
    ]

pub reserved-count : (node : ℕ) (history : History) → reserved node history ≡ length (filter (is_of node) (transactions history))
reserved-count node [] = refl
reserved-count node (e ∷ es) =
    let next : reserved node es ≡ length (filter (is_of node) (transactions es)) = reserved-count node es in
    elim (is_of node e.transaction) as (λ b. length (if b then e ∷ filter (λ (f : Entry). is_of node f.transaction) es else filter (λ (f : Entry). is_of node f.transaction) es) ≡ length (if b then e.transaction ∷ filter (is_of node) (transactions es) else filter (is_of node) (transactions es))) [
      | true ↦ ap suc next
      | false ↦ next
    ]

pub acked-records : (m : Setting) (s : State) (d : Disks) (node : ℕ) → Sound m.geometry s → s.ack node ≤ length (records_of m s d node)
acked-records m s d node sound =
    omega (arith, acked-reserved m.geometry s node sound, reserved-count node s.history, length-records d.numbers (base m s) node (transactions s.history))

-- the new record stands last in its node's
records-appended : (m : Setting) (s : State) (d : Disks) (t : Transaction) (node : ℕ) → records_of m (appended s t) d node ≡ records_of m s d node ++ filter (is_from node) (record_of (counted_all d.numbers (transactions s.history)) (effects (transactions s.history) (base m s)) t ∷ [])
records-appended m s d t node =
    ap (λ ts. filter (is_from node) (records_from d.numbers (base m s) ts)) (transactions-push s.history (entry t false))
    ∙ ap (filter (is_from node)) (records_from-append d.numbers (base m s) (transactions s.history) (t ∷ []))
    ∙ filter-append (is_from node) (records_from d.numbers (base m s) (transactions s.history)) (record_of (counted_all d.numbers (transactions s.history)) (effects (transactions s.history) (base m s)) t ∷ [])

kept-pushed : (p : Transaction → Bool) (history : History) (t : Transaction) (cut : Cut) → length (filter p (kept history cut)) ≤ length (filter p (kept (history ++ entry t false ∷ []) cut))
kept-pushed p history t cut =
    let last : List Numbered = last_one history t ∷ [] in
    let parts : kept (history ++ entry t false ∷ []) cut ≡ kept history cut ++ map (λ x. x.transaction) (filter (is_kept cut) (last_one history t ∷ [])) =
    ap (λ xs. map (λ x. x.transaction) (filter (is_kept cut) xs)) (numbered-push history t)
    ∙ ap (map (λ x. x.transaction)) (filter-append (is_kept cut) (numbered history) (last_one history t ∷ []))
    ∙ map-append (λ (x : Numbered). x.transaction) (filter (is_kept cut) (numbered history)) (filter (is_kept cut) (last_one history t ∷ [])) in
    let counts : length (filter p (kept history cut ++ map (λ x. x.transaction) (filter (is_kept cut) (last_one history t ∷ [])))) ≡ length (filter p (kept history cut)) + length (filter p (map (λ x. x.transaction) (filter (is_kept cut) (last_one history t ∷ [])))) =
    ap length (filter-append p (kept history cut) (map (λ x. x.transaction) (filter (is_kept cut) (last_one history t ∷ []))))
    ∙ length-append (filter p (kept history cut)) (filter p (map (λ x. x.transaction) (filter (is_kept cut) (last_one history t ∷ [])))) in
    subst (λ (ts : List Transaction). length (filter p (kept history cut)) ≤ length (filter p ts)) (sym parts) (omega (arith, counts))

filter-all : (xs : List Numbered) → filter (λ x. true) xs ≡ xs
filter-all [] = refl
filter-all (x ∷ xs) = ap (λ ys. x ∷ ys) (filter-all xs)

-- what is kept is no more than there is
kept-fewer : (p : Transaction → Bool) (history : History) (cut : Cut) → length (filter p (kept history cut)) ≤ length (filter p (transactions history))
kept-fewer p history cut =
    le_trans (passing-more p (is_kept cut) (λ x. true) (numbered history) (λ k x k_in keeps. refl))
    (let all : map (λ x. x.transaction) (filter (λ x. true) (numbered history)) ≡ transactions history = ap (map (λ x. x.transaction)) (filter-all (numbered history)) ∙ all-numbered_after [] (transactions history) in
    subst (λ (ts : List Transaction). length (filter p ts) ≤ length (filter p (transactions history))) (sym all) (le_refl (length (filter p (transactions history)))))

pub keeps-appended : (m : Setting) (s : State) (d : Disks) (t : Transaction) → Fits m s d → Sound m.geometry (appended s t) → d.resetting t.node ≡ false → Fits m (appended s t) d
keeps-appended m s d t fits sound unsealed =
    let last : Record = record_of (counted_all d.numbers (transactions s.history)) (effects (transactions s.history) (base m s)) t in
    let rs_are : (node : ℕ) → records_of m (appended s t) d node ≡ records_of m s d node ++ filter (is_from node) (record_of (counted_all d.numbers (transactions s.history)) (effects (transactions s.history) (base m s)) t ∷ []) = λ node. records-appended m s d t node in
    let front : (node n : ℕ) → n ≤ s.ack node → take n (records_of m (appended s t) d node) ≡ take n (records_of m s d node) =
    λ node n within.
    (let long : n ≤ length (records_of m s d node) = le_trans within (acked-records m s d node fits.sound) in
    ap (take n) (rs_are node) ∙ take-front n (records_of m s d node) (filter (is_from node) (record_of (counted_all d.numbers (transactions s.history)) (effects (transactions s.history) (base m s)) t ∷ [])) long) in
    let again : (segment page : ℕ) (text : Page) → Stands m s d segment page text → Stands m (appended s t) d segment page text =
    λ segment page text before.
    (let more : length (filter (sets segment) (kept s.history (acked m.geometry s))) ≤ length (filter (sets segment) (kept (s.history ++ entry t false ∷ []) (acked m.geometry s))) = kept-pushed (sets segment) s.history t (acked m.geometry s) in
    let old_is : stable_number m.geometry s d segment ≡ d.numbers segment + length (filter (sets segment) (kept s.history (acked m.geometry s))) = counted-length d.numbers (kept s.history (acked m.geometry s)) segment in
    let new_is : stable_number m.geometry (appended s t) d segment ≡ d.numbers segment + length (filter (sets segment) (kept (s.history ++ entry t false ∷ []) (acked m.geometry s))) = counted-length d.numbers (kept (s.history ++ entry t false ∷ []) (acked m.geometry s)) segment in
    let enough : text.sequence - d.numbers segment ≤ length (filter (sets segment) (transactions s.history)) = omega (arith, before.within, old_is, kept-fewer (sets segment) s.history (acked m.geometry s)) in
    let same : up_to d (appended s t) segment text.sequence ≡ up_to d s segment text.sequence =
    ap (λ ts. take (text.sequence - d.numbers segment) (filter (sets segment) ts)) (transactions-push s.history (entry t false))
    ∙ ap (take (text.sequence - d.numbers segment)) (filter-append (sets segment) (transactions s.history) (t ∷ []))
    ∙ take-front (text.sequence - d.numbers segment) (filter (sets segment) (transactions s.history)) (filter (sets segment) (t ∷ [])) enough in
    record {
      within = omega (arith, before.within, old_is, new_is, more);
      bytes = before.bytes ∙ ap (λ ts. page_bytes segment page (effects ts (base m s))) (sym same);
    }) in
    record {
      sound = sound;
      shape = fits.shape;
      stands = λ segment page text some final within shows. again segment page text (fits.stands segment page text some final within shows);
      begun = λ segment page text some final within is.
          (let old : Stands m s d segment page text × ((d.page segment page).sequence ≤ text.sequence) = fits.begun segment page text some final within is in
          (again segment page text old.0, old.1));
      reached = fits.reached;
      dropped = λ node within. subst (λ (rs : List Record). All (IsOnPages m.geometry d) rs) (sym (front node (d.dropped node) (fits.dropped_acked node within))) (fits.dropped node within);
      resetting = λ node within is. subst (λ (rs : List Record). All (IsOnPages m.geometry d) rs) (sym (front node (s.ack node) (le_refl (s.ack node)))) (fits.resetting node within is);
      dropped_acked = fits.dropped_acked;
      sealed = λ node within is.
          (let differ : t.node ≢ node = λ same. true≢false (sym is ∙ ap d.resetting (sym same) ∙ unsealed) in
          let other : (t.node == node) ≡ false = ne_eqb t.node node differ in
          let none : filter (is_from node) (record_of (counted_all d.numbers (transactions s.history)) (effects (transactions s.history) (base m s)) t ∷ []) ≡ [] = rw other refl in
          let long : length (records_of m (appended s t) d node) ≡ length (records_of m s d node) + 0 =
          ap length (rs_are node ∙ ap (λ qs. records_of m s d node ++ qs) none) ∙ length-append (records_of m s d node) [] in
          omega (arith, long, fits.sealed node within is));
    }

-- An acknowledgment

update-grows : (table : ℕ → ℕ) (key count other : ℕ) → table key ≤ count → table other ≤ update table key count other
update-grows table key count other grows =
    elim (other == key) as (λ b. (other == key) ≡ b → table other ≤ (if b then count else table other)) [
      | true ↦ λ e. (let same : table other ≡ table key = ap table (eqb-true other key e) in omega (arith, same, grows))
      | false ↦ λ e. le_refl (table other)
    ] refl

pub keeps-acknowledged : (m : Setting) (s : State) (d : Disks) (node count : ℕ) → Fits m s d → Sound m.geometry (acknowledged s node count) → s.ack node ≤ count → Fits m (acknowledged s node count) d
keeps-acknowledged m s d node count fits sound grows =
    let new : ℕ → ℕ = update s.ack node count in
    let more : (other : ℕ) → s.ack other ≤ update s.ack node count other = λ other. update-grows s.ack node count other grows in
    let all_there : (other : ℕ) → update s.ack node count other ≤ length (records_of m s d other) = λ other. acked-records m (acknowledged s node count) d other sound in
    let again : (segment page : ℕ) (text : Page) → Stands m s d segment page text → Stands m (acknowledged s node count) d segment page text =
    λ segment page text before.
    (record {
      within = le_trans before.within
          (kept-more m s d (acked m.geometry s) (acked m.geometry (acknowledged s node count)) fits.sound
          (λ other known. (let here : s.ack other ≤ update s.ack node count other = more other in
          omega (arith, get-acked m.geometry s other known, get-acked m.geometry (acknowledged s node count) other known, here))) segment);
      bytes = before.bytes;
    }) in
    record {
      sound = sound;
      shape = fits.shape;
      stands = λ segment page text some final within shows. again segment page text (fits.stands segment page text some final within shows);
      begun = λ segment page text some final within is.
          (let old : Stands m s d segment page text × ((d.page segment page).sequence ≤ text.sequence) = fits.begun segment page text some final within is in
          (again segment page text old.0, old.1));
      reached = fits.reached;
      dropped = fits.dropped;
      resetting = λ other within is.
          (let sealed : length (records_of m s d other) ≤ s.ack other = fits.sealed other within is in
          let same : s.ack other ≡ update s.ack node count other = omega (arith, sealed, all_there other, more other) in
          subst (λ (n : ℕ). All (IsOnPages m.geometry d) (take n (records_of m s d other))) same (fits.resetting other within is));
      dropped_acked = λ other within. le_trans (fits.dropped_acked other within) (more other);
      sealed = λ other within is. le_trans (fits.sealed other within is) (more other);
    }

-- Of the pages

pub shows-opened : (d : Disks) (segment page : ℕ) (text : Page) (x y : ℕ) (z : Page) → Shows (with_opened d segment page text) x y z → Shows d x y z ⊎ ((x ≡ segment) × (y ≡ page) × (z ≡ text))
shows-opened d segment page text x y z shows =
    elim shows [
      | inl is ↦ inl (inl is)
      | inr is ↦
          (elim (x == segment) as (λ b. (x == segment) ≡ b → ((if b then update (d.opened segment) page (Some text) else d.opened x) y ≡ Some z) → Shows d x y z ⊎ ((x ≡ segment) × (y ≡ page) × (z ≡ text))) [
            | true ↦ λ e here.
                let same : x ≡ segment = eqb-true x segment e in
                (elim (y == page) as (λ b. (y == page) ≡ b → ((if b then Some text else d.opened segment y) ≡ Some z) → Shows d x y z ⊎ ((x ≡ segment) × (y ≡ page) × (z ≡ text))) [
                  | true ↦ λ f own. (let text_is : z ≡ text = cc in inr (same, eqb-true y page f, text_is))
                  | false ↦ λ f other. inl (inr (ap (λ s. d.opened s y) same ∙ other))
                ] refl here)
            | false ↦ λ e other. inl (inr other)
          ] refl is)
    ]

-- a write opens a page that stands, and is not below the one before
pub keeps-opened : (m : Setting) (s : State) (d : Disks) (segment page : ℕ) (text : Page) → Fits m s d → Stands m s d segment page text → (d.page segment page).sequence ≤ text.sequence → Fits m s (with_opened d segment page text)
keeps-opened m s d segment page text fits stands newer =
    let on : (r : Record) → IsOnPages m.geometry d r → IsOnPages m.geometry (with_opened d segment page text) r =
    λ r old x y offset z some last within in_page has shows.
    elim (shows-opened d segment page text x y z shows) [
      | inl before ↦ old x y offset z some last within in_page has before
      | inr new ↦
          let first : number_or_zero x r.locks ≤ (d.page x y).sequence = old x y offset (d.page x y) some last within in_page has (inl refl) in
          let text_before : (d.page x y).sequence ≡ (d.page segment page).sequence = ap (λ n. (d.page n y).sequence) new.0 ∙ ap (λ n. (d.page segment n).sequence) new.1 in
          let text_after : z.sequence ≡ text.sequence = ap (λ (p : Page). p.sequence) new.2 in
          omega (arith, first, text_before, text_after, newer)
    ] in
    record {
      sound = fits.sound;
      shape = fits.shape;
      stands = λ x y z some last within shows.
          elim (shows-opened d segment page text x y z shows) [
            | inl before ↦
                let old : Stands m s d x y z = fits.stands x y z some last within before in
                record { within = old.within; bytes = old.bytes }
            | inr new ↦
                let is : Stands m s d x y z =
                subst (λ (p : Page). Stands m s d x y p) (sym new.2)
                (subst (λ (n : ℕ). Stands m s d x n text) (sym new.1) (subst (λ (n : ℕ). Stands m s d n page text) (sym new.0) stands)) in
                record { within = is.within; bytes = is.bytes }
          ];
      reached = λ x some last.
          (let old : (y : ℕ) × (y < m.geometry.pages) × ((z : Page) → Shows d x y z → d.numbers x ≤ z.sequence) = fits.reached x some last in (
            old.0,
            old.1,
            (λ z shows. elim (shows-opened d segment page text x old.0 z shows) [
              | inl before ↦ old.2 z before
              | inr new ↦
                  let first : d.numbers x ≤ (d.page x old.0).sequence = old.2 (d.page x old.0) (inl refl) in
                  let text_before : (d.page x old.0).sequence ≡ (d.page segment page).sequence = ap (λ n. (d.page n old.0).sequence) new.0 ∙ ap (λ n. (d.page segment n).sequence) new.1 in
                  let text_after : z.sequence ≡ text.sequence = ap (λ (p : Page). p.sequence) new.2 in
                  omega (arith, first, text_before, text_after, newer)
            ]),
          ));
      begun = λ x y z some last within is.
          (let old : Stands m s d x y z × ((d.page x y).sequence ≤ z.sequence) = fits.begun x y z some last within is in
          (record { within = old.0.within; bytes = old.0.bytes }, old.1));
      dropped = λ node within. All-weaker (IsOnPages m.geometry d) (IsOnPages m.geometry (with_opened d segment page text)) on (take (d.dropped node) (records_of m s d node)) (fits.dropped node within);
      resetting = λ node within is. All-weaker (IsOnPages m.geometry d) (IsOnPages m.geometry (with_opened d segment page text)) on (take (s.ack node) (records_of m s d node)) (fits.resetting node within is);
      dropped_acked = fits.dropped_acked;
      sealed = fits.sealed;
    }

-- what a write has begun with
abbrev pub AreBegun : Setting → State → Disks → (ℕ → ℕ → Page) → (ℕ → ℕ → Option Page) → Type 0
AreBegun m s d page begun =
    (x y : ℕ) (z : Page) → 1 ≤ x → x ≤ m.geometry.segments → y < m.geometry.pages → begun x y ≡ Some z →
    Stands m s d x y z × ((page x y).sequence ≤ z.sequence)

-- fewer images show no others
pub keeps-fewer : (m : Setting) (s : State) (d : Disks) (page : ℕ → ℕ → Page) (begun opened : ℕ → ℕ → Option Page) → Fits m s d → AreBegun m s d page begun → ((x y : ℕ) (z : Page) → Shows (record d { page = page; begun = begun; opened = opened }) x y z → Shows d x y z) → Fits m s (record d { page = page; begun = begun; opened = opened })
keeps-fewer m s d page begun opened fits begun_stand back = record {
  sound = fits.sound;
  shape = fits.shape;
  stands = λ x y z some last within shows.
      (let old : Stands m s d x y z = fits.stands x y z some last within (back x y z shows) in
      record { within = old.within; bytes = old.bytes });
  reached = λ x some last.
      (let old : (y : ℕ) × (y < m.geometry.pages) × ((z : Page) → Shows d x y z → d.numbers x ≤ z.sequence) = fits.reached x some last in
      (old.0, old.1, (λ z shows. old.2 z (back x old.0 z shows))));
  dropped = λ node within k r k_in x y offset z some last known in_page has shows.
      fits.dropped node within k r k_in x y offset z some last known in_page has (back x y z shows);
  resetting = λ node within is k r k_in x y offset z some last known in_page has shows.
      fits.resetting node within is k r k_in x y offset z some last known in_page has (back x y z shows);
  begun = λ x y z some last within is.
      (let old : Stands m s d x y z × ((page x y).sequence ≤ z.sequence) = begun_stand x y z some last within is in
      (record { within = old.0.within; bytes = old.0.bytes }, old.1));
  dropped_acked = fits.dropped_acked;
  sealed = fits.sealed;
}

update_at-case : {A : Type 0} (P : A → ℕ → ℕ → Type 0) (table : ℕ → ℕ → A) (segment page : ℕ) (item : A) (x y : ℕ) → P item segment page → P (table x y) x y → P (update_at table segment page item x y) x y
update_at-case {A} P table segment page item x y own other =
    elim (x == segment) as (λ b. (x == segment) ≡ b → P ((if b then update (table segment) page item else table x) y) x y) [
      | true ↦ λ e.
          let same : x ≡ segment = eqb-true x segment e in
          (elim (y == page) as (λ b. (y == page) ≡ b → P (if b then item else table segment y) x y) [
            | true ↦ λ f.
                let same_page : y ≡ page = eqb-true y page f in
                subst (λ (n : ℕ). P item n y) (sym same) (subst (λ (n : ℕ). P item segment n) (sym same_page) own)
            | false ↦ λ f. subst (λ (n : ℕ). P (table n y) x y) same other
          ] refl)
      | false ↦ λ e. other
    ] refl

update_at-both : {A B : Type 0} (P : A → B → ℕ → ℕ → Type 0) (table : ℕ → ℕ → A) (other : ℕ → ℕ → B) (segment page : ℕ) (item : A) (next : B) (x y : ℕ) → P item next segment page → P (table x y) (other x y) x y → P (update_at table segment page item x y) (update_at other segment page next x y) x y
update_at-both {A} {B} P table other segment page item next x y own rest =
    elim (x == segment) as (λ b. (x == segment) ≡ b → P ((if b then update (table segment) page item else table x) y) ((if b then update (other segment) page next else other x) y) x y) [
      | true ↦ λ e.
          let same : x ≡ segment = eqb-true x segment e in
          (elim (y == page) as (λ b. (y == page) ≡ b → P (if b then item else table segment y) (if b then next else other segment y) x y) [
            | true ↦ λ f.
                let same_page : y ≡ page = eqb-true y page f in
                subst (λ (n : ℕ). P item next n y) (sym same) (subst (λ (n : ℕ). P item next segment n) (sym same_page) own)
            | false ↦ λ f. subst (λ (n : ℕ). P (table n y) (other n y) x y) same rest
          ] refl)
      | false ↦ λ e. rest
    ] refl

-- once a write is settled, the images show no other page than before, and of this page the new one alone
pub shows-settled : (d : Disks) (segment page : ℕ) (text : Page) → d.opened segment page ≡ Some text → (x y : ℕ) (z : Page) → Shows (with_settled d segment page text) x y z → Shows d x y z
shows-settled d segment page text is x y z shows =
    elim shows [
      | inl one ↦ update_at-case (λ p a b. z ≡ p → Shows d a b z) d.page segment page text x y (λ own. inr (is ∙ ap Some (sym own))) (λ other. inl other) one
      | inr one ↦ update_at-case (λ o a b. o ≡ Some z → Shows d a b z) d.opened segment page None x y (λ own. absurd (let no : None ≡ Some z = own in cc)) (λ other. inr other) one
    ]

pub update_at-own : {A : Type 0} (table : ℕ → ℕ → A) (segment page : ℕ) (item : A) → update_at table segment page item segment page ≡ item
update_at-own table segment page item = rw (eq-eqb segment segment refl, eq-eqb page page refl) refl

pub settled-only : (d : Disks) (segment page : ℕ) (text z : Page) → Shows (with_settled d segment page text) segment page z → z ≡ text
settled-only d segment page text z shows =
    elim shows [
      | inl one ↦ one ∙ update_at-own d.page segment page text
      | inr one ↦ absurd (let no : None ≡ Some z = sym (update_at-own d.opened segment page None) ∙ one in cc)
    ]

-- the end of a write
pub keeps-settled : (m : Setting) (s : State) (d : Disks) (segment page : ℕ) (text : Page) → Fits m s d → d.opened segment page ≡ Some text → Fits m s (with_settled d segment page text)
keeps-settled m s d segment page text fits is =
    keeps-fewer m s d (update_at d.page segment page text) (update_at d.begun segment page None) (update_at d.opened segment page None) fits
    (λ x y z some last within.
    update_at-both (λ p o a b. o ≡ Some z → Stands m s d a b z × (p.sequence ≤ z.sequence)) d.page d.begun segment page text None x y
    (λ none. absurd (let no : None ≡ Some z = none in cc))
    (λ begun_is. fits.begun x y z some last within begun_is))
    (shows-settled d segment page text is)

-- the beginning of a write
pub keeps-begun : (m : Setting) (s : State) (d : Disks) (segment page : ℕ) (text : Page) → Fits m s d → Stands m s d segment page text → (d.page segment page).sequence ≤ text.sequence → Fits m s (with_begun d segment page text)
keeps-begun m s d segment page text fits stands newer =
    keeps-fewer m s d d.page (update_at d.begun segment page (Some text)) d.opened fits
    (λ x y z some last within.
    update_at-case (λ o a b. o ≡ Some z → Stands m s d a b z × ((d.page a b).sequence ≤ z.sequence)) d.begun segment page (Some text) x y
    (λ own. (let same : text ≡ z = (let somes : Some text ≡ Some z = own in cc) in
    (subst (λ (p : Page). Stands m s d segment page p) same stands, subst (λ (p : Page). (d.page segment page).sequence ≤ p.sequence) same newer)))
    (λ begun_is. fits.begun x y z some last within begun_is))
    (λ x y z shows. shows)

-- a write that has begun opens its slot
pub keeps-opening : (m : Setting) (s : State) (d : Disks) (segment page : ℕ) (text : Page) → Fits m s d → 1 ≤ segment → segment ≤ m.geometry.segments → page < m.geometry.pages → d.begun segment page ≡ Some text → Fits m s (with_opened d segment page text)
keeps-opening m s d segment page text fits some last within is =
    let ready : Stands m s d segment page text × ((d.page segment page).sequence ≤ text.sequence) = fits.begun segment page text some last within is in
    keeps-opened m s d segment page text fits ready.0 ready.1

-- Of the logs

-- a reset is written where all is acknowledged and on the pages
pub keeps-reset : (m : Setting) (s : State) (d : Disks) (node : ℕ) → Fits m s d → All (IsOnPages m.geometry d) (records_of m s d node) → length (records_of m s d node) ≤ s.ack node → Fits m s (with_reset d node)
keeps-reset m s d node fits on all_acked = record {
  sound = fits.sound;
  shape = fits.shape;
  stands = λ x y z some last within shows.
      (let old : Stands m s d x y z = fits.stands x y z some last within shows in
      record { within = old.within; bytes = old.bytes });
  reached = fits.reached;
  begun = λ x y z some last within is.
      (let old : Stands m s d x y z × ((d.page x y).sequence ≤ z.sequence) = fits.begun x y z some last within is in
      (record { within = old.0.within; bytes = old.0.bytes }, old.1));
  dropped = fits.dropped;
  resetting = λ other within.
      elim (other == node) as (λ b. (other == node) ≡ b → IsTrue (if b then true else d.resetting other) → All (IsOnPages m.geometry d) (take (s.ack other) (records_of m s d other))) [
        | true ↦ λ e is. All-take (IsOnPages m.geometry d) (s.ack other) (records_of m s d other) (subst (λ (n : ℕ). All (IsOnPages m.geometry d) (records_of m s d n)) (sym (eqb-true other node e)) on)
        | false ↦ λ e is. fits.resetting other within is
      ] refl;
  dropped_acked = fits.dropped_acked;
  sealed = λ other within.
      elim (other == node) as (λ b. (other == node) ≡ b → IsTrue (if b then true else d.resetting other) → length (records_of m s d other) ≤ s.ack other) [
        | true ↦ λ e is. subst (λ (n : ℕ). length (records_of m s d n) ≤ s.ack n) (sym (eqb-true other node e)) all_acked
        | false ↦ λ e is. fits.sealed other within is
      ] refl;
}

-- the end of a reset
pub keeps-dropped : (m : Setting) (s : State) (d : Disks) (node : ℕ) → Fits m s d → node < m.geometry.nodes → d.resetting node ≡ true → Fits m s (with_dropped d node (s.ack node))
keeps-dropped m s d node fits known reset = record {
  sound = fits.sound;
  shape = fits.shape;
  stands = λ x y z some last within shows.
      (let old : Stands m s d x y z = fits.stands x y z some last within shows in
      record { within = old.within; bytes = old.bytes });
  reached = fits.reached;
  begun = λ x y z some last within is.
      (let old : Stands m s d x y z × ((d.page x y).sequence ≤ z.sequence) = fits.begun x y z some last within is in
      (record { within = old.0.within; bytes = old.0.bytes }, old.1));
  dropped = λ other within.
      elim (other == node) as (λ b. (other == node) ≡ b → All (IsOnPages m.geometry d) (take (if b then s.ack node else d.dropped other) (records_of m s d other))) [
        | true ↦ λ e. subst (λ (n : ℕ). All (IsOnPages m.geometry d) (take (s.ack node) (records_of m s d n))) (sym (eqb-true other node e)) (fits.resetting node known reset)
        | false ↦ λ e. fits.dropped other within
      ] refl;
  resetting = λ other within.
      elim (other == node) as (λ b. (other == node) ≡ b → IsTrue (if b then false else d.resetting other) → All (IsOnPages m.geometry d) (take (s.ack other) (records_of m s d other))) [
        | true ↦ λ e is. absurd (true≢false (sym is))
        | false ↦ λ e is. fits.resetting other within is
      ] refl;
  dropped_acked = λ other within.
      elim (other == node) as (λ b. (other == node) ≡ b → (if b then s.ack node else d.dropped other) ≤ s.ack other) [
        | true ↦ λ e. (let same : s.ack other ≡ s.ack node = ap s.ack (eqb-true other node e) in omega (arith, same))
        | false ↦ λ e. fits.dropped_acked other within
      ] refl;
  sealed = λ other within.
      elim (other == node) as (λ b. (other == node) ≡ b → IsTrue (if b then false else d.resetting other) → length (records_of m s d other) ≤ s.ack other) [
        | true ↦ λ e is. absurd (true≢false (sym is))
        | false ↦ λ e is. fits.sealed other within is
      ] refl;
}

-- The page as it is now

-- it stands where all of the segment's transactions are acknowledged
pub stands-now : (m : Setting) (s : State) (d : Disks) (segment page : ℕ) → Sound m.geometry s → counted_all d.numbers (transactions s.history) segment ≤ stable_number m.geometry s d segment → Stands m s d segment page (page_now m s d segment page)
stands-now m s d segment page sound all_acked =
    let count : counted_all d.numbers (transactions s.history) segment ≡ d.numbers segment + length (filter (sets segment) (transactions s.history)) = counted-length d.numbers (transactions s.history) segment in
    let long : length (filter (sets segment) (transactions s.history)) ≤ counted_all d.numbers (transactions s.history) segment - d.numbers segment = omega (arith, count) in
    let whole : up_to d s segment (counted_all d.numbers (transactions s.history) segment) ≡ filter (sets segment) (transactions s.history) =
    take-all (counted_all d.numbers (transactions s.history) segment - d.numbers segment) (filter (sets segment) (transactions s.history)) long in
    record {
      within = all_acked;
      bytes = ap (λ bs. take 256 (drop (page * 256) bs)) (of_a_segment (base m s) (transactions s.history) segment (proper-well m.geometry s sound))
          ∙ ap (λ ts. page_bytes segment page (effects ts (base m s))) (sym whole);
    }

-- Numbers within a node

abbrev Below : List Transaction → Numbered → Type 0
Below all x = x.number < length (filter (is_of x.transaction.node) all)

numbers-below : (before ts : List Transaction) → All (Below (before ++ ts)) (numbered_after before ts)
numbers-below before [] = λ k d below. absurd (omega arith)
numbers-below before (t ∷ ts) =
    let own : length (filter (is_of t.node) (t ∷ ts)) ≡ suc (length (filter (is_of t.node) ts)) = ap (λ b. length (if b then t ∷ filter (is_of t.node) ts else filter (is_of t.node) ts)) (eq-eqb t.node t.node refl) in
    let first : length (filter (is_of t.node) (before ++ t ∷ ts)) ≡ length (filter (is_of t.node) before) + length (filter (is_of t.node) (t ∷ ts)) =
    ap length (filter-append (is_of t.node) before (t ∷ ts)) ∙ length-append (filter (is_of t.node) before) (filter (is_of t.node) (t ∷ ts)) in
    All-cons (Below (before ++ t ∷ ts)) (record { transaction = t; number = length (filter (is_of t.node) before) }) (numbered_after (before ++ t ∷ []) ts)
    (omega (arith, own, first))
    (subst (λ (all : List Transaction). All (Below all) (numbered_after (before ++ t ∷ []) ts)) (append_assoc before (t ∷ []) ts) (numbers-below (before ++ t ∷ []) ts))

passing-those : (p : Transaction → Bool) (keep : Numbered → Bool) (xs : List Numbered) → All (λ x. p x.transaction ≡ true → keep x ≡ true) xs → length (filter p (map (λ x. x.transaction) xs)) ≤ length (filter p (map (λ x. x.transaction) (filter keep xs)))
passing-those p keep [] all = omega arith
passing-those p keep (x ∷ xs) all =
    let Pulled : Numbered → Type 0 = λ y. p y.transaction ≡ true → keep y ≡ true in
    let own : p x.transaction ≡ true → keep x ≡ true = All-head Pulled x xs all in
    let next : length (filter p (map (λ y. y.transaction) xs)) ≤ length (filter p (map (λ y. y.transaction) (filter keep xs))) = passing-those p keep xs (All-tail Pulled x xs all) in
    elim (p x.transaction) as (λ b. p x.transaction ≡ b → (b ≡ true → keep x ≡ true) → length (if b then x.transaction ∷ filter p (map (λ y. y.transaction) xs) else filter p (map (λ y. y.transaction) xs)) ≤ length (filter p (map (λ y. y.transaction) (filter keep (x ∷ xs))))) [
      | true ↦ λ e pulls. rw (pulls refl, e) (omega (arith, next))
      | false ↦ λ e pulls.
          elim (keep x) as (λ b. length (filter p (map (λ y. y.transaction) xs)) ≤ length (filter p (map (λ y. y.transaction) (if b then x ∷ filter keep xs else filter keep xs)))) [
            | true ↦ rw e next
            | false ↦ next
          ]
    ] refl own

well-numbered : (m : Setting) (s : State) → Sound m.geometry s → All (λ (x : Numbered). IsWellFormed x.transaction) (numbered s.history)
well-numbered m s sound =
    All-from_map IsWellFormed (λ (x : Numbered). x.transaction) (numbered s.history)
    (subst (λ (ts : List Transaction). All IsWellFormed ts) (sym (all-numbered_after [] (transactions s.history))) (proper-well m.geometry s sound))

-- where a node has a segment's token and all of its own is acknowledged, all of the segment's is
pub token-stable : (m : Setting) (s : State) (d : Disks) (segment node : ℕ) → Sound m.geometry s → s.place segment ≡ At node → s.ack node ≡ reserved node s.history → counted_all d.numbers (transactions s.history) segment ≤ stable_number m.geometry s d segment
token-stable m s d segment node sound here all_acked =
    let cut : Cut = acked m.geometry s in
    let node_known : All (λ (x : Numbered). x.transaction.node < m.geometry.nodes) (numbered s.history) = known-nodes m.geometry s sound in
    let kept_all : length (filter (sets segment) (map (λ x. x.transaction) (numbered s.history))) ≤ length (filter (sets segment) (kept s.history (acked m.geometry s))) =
    passing-those (sets segment) (is_kept (acked m.geometry s)) (numbered s.history)
    (λ k x k_in own.
    let y : Numbered = get_or (numbered s.history) k x in
    let lock : locks (get_or (numbered s.history) k x).transaction segment ≡ true = sets-locks (get_or (numbered s.history) k x).transaction segment (well-numbered m s sound k x k_in) own in
    let is : slice_index (acked m.geometry s) (get_or (numbered s.history) k x).transaction.node ≡ s.ack (get_or (numbered s.history) k x).transaction.node = get-acked m.geometry s (get_or (numbered s.history) k x).transaction.node (node_known k x k_in) in
    let number_in_ack : (get_or (numbered s.history) k x).number < s.ack (get_or (numbered s.history) k x).transaction.node =
    elim (sound.history_here k x k_in segment (lock_holds (get_or (numbered s.history) k x).transaction segment lock)) [
      | inl at ↦
          let same : (get_or (numbered s.history) k x).transaction.node ≡ node = (let places : At (get_or (numbered s.history) k x).transaction.node ≡ At node = sym at ∙ here in cc) in
          let below : (get_or (numbered s.history) k x).number < length (filter (is_of (get_or (numbered s.history) k x).transaction.node) (transactions s.history)) = numbers-below [] (transactions s.history) k x k_in in
          let ack_is : s.ack (get_or (numbered s.history) k x).transaction.node ≡ length (filter (is_of (get_or (numbered s.history) k x).transaction.node) (transactions s.history)) =
          subst (λ (n : ℕ). s.ack n ≡ length (filter (is_of n) (transactions s.history))) (sym same) (all_acked ∙ reserved-count node s.history) in
          omega (arith, below, ack_is)
      | inr acknowledged_one ↦ acknowledged_one
    ] in
    lt-ltb (get_or (numbered s.history) k x).number (slice_index (acked m.geometry s) (get_or (numbered s.history) k x).transaction.node) (omega (arith, number_in_ack, is))) in
    let all_is : map (λ x. x.transaction) (numbered s.history) ≡ transactions s.history = all-numbered_after [] (transactions s.history) in
    let counts : length (filter (sets segment) (transactions s.history)) ≤ length (filter (sets segment) (kept s.history (acked m.geometry s))) =
    subst (λ (ts : List Transaction). length (filter (sets segment) ts) ≤ length (filter (sets segment) (kept s.history (acked m.geometry s)))) all_is kept_all in
    omega (arith, counts, counted-length d.numbers (transactions s.history) segment, counted-length d.numbers (kept s.history (acked m.geometry s)) segment)
