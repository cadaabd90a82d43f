-- What the logs of an image show of the records that its cut keeps, and what its pages stand for.
use Rattle.std.proofs.Common.{◌≡◌, ◌⊎◌, ℕ, zero, suc, ◌+◌, ◌*◌, ◌/◌, ◌%◌, ◌<◌, ◌≤◌, Bool, true, false, List, [], ◌∷◌, map, length, filter, get_or, take, drop, Some, is_some, All, Contains, IsTrue, refl, sym, ◌∙◌, ap, subst, arith, inl, inr, eq-eqb, ltb-true, lt-ltb, le_trans, slice_index}
use Rattle.std.specs.Prelude.{if◌then◌else◌, slice_get}
use Rattle.std.proofs.lemmas.Bool.{cases_lt}
use Rattle.std.proofs.lemmas.Nat.{div-add-mod'}
use Rattle.std.proofs.lemmas.List.Elements.{All-nil, All-cons, All-head, All-tail, All-drop, All-filter, All-weaker, All-contains, All-contains_itself}
use Rattle.lc_record.specs.Content.{Content, segment_of}
use Rattle.lc_record.specs.Transaction.{Transaction, IsWellFormed, effect}
use Rattle.lc_record.specs.Marks.{counting}
use Rattle.lc_record.specs.Geometry.{segment_len}
use Rattle.lc_record.specs.declared.record.Record.{Record}
use Rattle.lc_record.specs.declared.geometry.Geometry.{Geometry}
use Rattle.lc_record.specs.Recorded.{record_of, records_from, counted}
use Rattle.lc_model.specs.History.{Numbered, Cut, transactions, numbered, kept, is_kept, IsClosed}
use Rattle.lc_model.specs.State.{State, Setting}
use Rattle.lc_record.specs.Newest.{number_or_zero, byte_of}
use Rattle.lc_record.proofs.ListLemmas.{slice_get_some as get-some}
use Rattle.lc_model.specs.Merging.{sets, counted_all, is_from}
use Rattle.lc_model.specs.Sound.{Sound, IsProper}
use Rattle.lc_model.proofs.Law.{all-numbered_after}
use Rattle.lc_model.proofs.Lists.{All-from_map}
use Rattle.lc_model.proofs.Keeps.{All-kept}
use Rattle.lc_model.proofs.Merging.{kept_records-same, kept_records-of_node, counted-length}
use Rattle.lc_model.specs.Merge.{Page, StoreText, all_records, page_number}
use Rattle.lc_model.specs.Stored.{Disks, Fits, IsImage, IsOnPages, Shows, base, records_of, acked, stable_number}
use Rattle.lc_model.proofs.Visible.{contains-filter, contains-parts, all-take-take, all-logs, in-logs, count-drop, logs-count}
use Rattle.lc_model.specs.Recovered.{HasByte}
use Rattle.lc_model.proofs.Numbers.{part-replicate, at_most-greatest}

-- the records of what a cut keeps
abbrev pub kept_of : Setting → State → Disks → Cut → List Record
kept_of m s d cut = records_from d.numbers (base m s) (kept s.history cut)

pub proper-well : (g : Geometry) (s : State) → Sound g s → All IsWellFormed (transactions s.history)
proper-well g s sound = All-weaker (IsProper g) IsWellFormed (λ t proper. proper.well) (transactions s.history) sound.history_proper

abbrev IsKnown : Geometry → Record → Type 0
IsKnown g r = r.node < g.nodes

pub records-known : (g : Geometry) (numbers : ℕ → ℕ) (content : Content) (ts : List Transaction) → All (IsProper g) ts → All (IsKnown g) (records_from numbers content ts)
records-known g numbers content [] proper = All-nil (IsKnown g)
records-known g numbers content (t ∷ ts) proper =
    let own : IsProper g t = All-head (IsProper g) t ts proper in
    All-cons (IsKnown g) (record_of numbers content t) (records_from (counted numbers t) (effect t content) ts) own.node_known
    (records-known g (counted numbers t) (effect t content) ts (All-tail (IsProper g) t ts proper))

-- of a node, what the cut keeps is the front of its records
node-kept : (m : Setting) (s : State) (d : Disks) (cut : Cut) (node : ℕ) → Sound m.geometry s → IsClosed s.history cut → filter (is_from node) (kept_of m s d cut) ≡ take (slice_index cut node) (records_of m s d node)
node-kept m s d cut node sound closed =
    sym (ap (filter (is_from node)) (kept_records-same d.numbers (base m s) s.history cut (proper-well m.geometry s sound) closed))
    ∙ kept_records-of_node d.numbers (base m s) s.history cut node

-- what the logs show of these records: no others, each at most once, and all but those that are on the pages
pub record Shown (kept all : List Record) (OnPages : Record → Type 0) : Type 0 where
  pub back : All (Contains kept) all
  pub there : (r : Record) → Contains kept r → Contains all r ⊎ OnPages r
  pub few : (p : Record → Bool) → length (filter p all) ≤ length (filter p kept)

pub shown-of : (m : Setting) (s : State) (d : Disks) (cut : Cut) (store : StoreText) → Fits m s d → IsImage m s d cut store → IsClosed s.history cut → Shown (kept_of m s d cut) (all_records store) (IsOnPages m.geometry d)
shown-of m s d cut store fits image closed =
    let rs : List Record = kept_of m s d cut in
    let node_is : (node : ℕ) → filter (is_from node) (kept_of m s d cut) ≡ take (slice_index cut node) (records_of m s d node) =
    λ node. node-kept m s d cut node fits.sound closed in
    let known : (node : ℕ) → node < length store.logs → node < m.geometry.nodes = λ node within. (let count : length store.logs ≡ m.geometry.nodes = image.count in omega (arith, within, count)) in
    let known_back : (node : ℕ) → node < m.geometry.nodes → node < length store.logs = λ node within. (let count : length store.logs ≡ m.geometry.nodes = image.count in omega (arith, within, count)) in
    record {
      back = all-logs (Contains (kept_of m s d cut)) store.logs
          (λ node within.
          elim (image.logs node (known node within)) [
            | inl front ↦
                subst (λ (log : List Record). All (Contains (kept_of m s d cut)) log) (sym (front ∙ ap (drop (d.dropped node)) (sym (node_is node))))
                (All-drop (Contains (kept_of m s d cut)) (d.dropped node) (filter (is_from node) (kept_of m s d cut))
                (All-filter (is_from node) (Contains (kept_of m s d cut)) (kept_of m s d cut) (All-contains_itself (kept_of m s d cut))))
            | inr none ↦ subst (λ (log : List Record). All (Contains (kept_of m s d cut)) log) (sym none.2) (All-nil (Contains (kept_of m s d cut)))
          ]);
      there = λ r has.
          (let within : r.node < m.geometry.nodes = All-contains (IsKnown m.geometry) (kept_of m s d cut) r (records-known m.geometry d.numbers (base m s) (kept s.history cut) (All-kept (IsProper m.geometry) s.history cut fits.sound.history_proper)) has in
          let own : Contains (filter (is_from r.node) (kept_of m s d cut)) r = contains-filter (is_from r.node) (kept_of m s d cut) has.0 r (eq-eqb r.node r.node refl) has.1 has.2 in
          let taken : Contains (take (slice_index cut r.node) (records_of m s d r.node)) r = subst (λ (qs : List Record). Contains qs r) (node_is r.node) own in
          elim (image.logs r.node within) [
            | inl front ↦
                (elim (contains-parts (d.dropped r.node) (take (slice_index cut r.node) (records_of m s d r.node)) taken.0 r taken.1 taken.2) [
                  | inl gone ↦
                      inr (All-contains (IsOnPages m.geometry d) (take (d.dropped r.node) (take (slice_index cut r.node) (records_of m s d r.node))) r
                      (all-take-take (IsOnPages m.geometry d) (d.dropped r.node) (slice_index cut r.node) (records_of m s d r.node) (fits.dropped r.node within)) gone)
                  | inr stays ↦
                      inl (in-logs store.logs r.node r (known_back r.node within) (subst (λ (qs : List Record). Contains qs r) (sym front) stays))
                ])
            | inr none ↦
                inr (All-contains (IsOnPages m.geometry d) (take (s.ack r.node) (records_of m s d r.node)) r (fits.resetting r.node within none.0)
                (subst (λ (n : ℕ). Contains (take n (records_of m s d r.node)) r) none.1 taken))
          ]);
      few = λ p.
          logs-count p (kept_of m s d cut) store.logs
          (λ node within.
          elim (image.logs node (known node within)) [
            | inl front ↦
                subst (λ (log : List Record). length (filter p log) ≤ length (filter p (filter (is_from node) (kept_of m s d cut)))) (sym (front ∙ ap (drop (d.dropped node)) (sym (node_is node))))
                (count-drop p (d.dropped node) (filter (is_from node) (kept_of m s d cut)))
            | inr none ↦
                subst (λ (log : List Record). length (filter p log) ≤ length (filter p (filter (is_from node) (kept_of m s d cut)))) (sym none.2) (omega arith)
          ]);
    }

-- Pages

-- each page of the geometry is read
pub page-read : (m : Setting) (s : State) (d : Disks) (cut : Cut) (store : StoreText) → IsImage m s d cut store → (segment page : ℕ) → 1 ≤ segment → segment ≤ m.geometry.segments → page < m.geometry.pages → (text : Page) × Shows d segment page text × (text.sequence ≤ page_number segment store)
page-read m s d cut store image segment page some last within =
    let long : length (segment_of segment store.pages) ≡ m.geometry.pages = part-replicate segment m.geometry.segments m.geometry.pages store.pages image.shape some last in
    let in_list : page < length (segment_of segment store.pages) = omega (arith, within, long) in
    let text : (text : Page) × (slice_get (segment_of segment store.pages) page ≡ Some text) = get-some (segment_of segment store.pages) page in_list in
    (text.0, image.pages segment page text.0 text.1, at_most-greatest (λ (p : Page). p.sequence) (segment_of segment store.pages) page text.0 text.1)

-- the number of a record that is on the pages is at most the greatest sequence of a page
pub on_pages-number : (m : Setting) (s : State) (d : Disks) (cut : Cut) (store : StoreText) → IsImage m s d cut store → (segment : ℕ) (r : Record) → 1 ≤ segment → segment ≤ m.geometry.segments → HasByte segment (segment_len m.geometry) r → IsOnPages m.geometry d r → number_or_zero segment r.locks ≤ page_number segment store
on_pages-number m s d cut store image segment r some last has on =
    elim (cases_lt 0 (number_or_zero segment r.locks)) [
      | inl above ↦
          let byte : (place : ℕ) × (place < segment_len m.geometry) × IsTrue (is_some (byte_of segment place r.ranges)) = has above in
          let place : ℕ = byte.0 in
          let parts : byte.0 / 256 * 256 + byte.0 % 256 ≡ byte.0 = div-add-mod' byte.0 256 in
          let offset_in : byte.0 % 256 < 256 = omega arith in
          let byte_in : byte.0 < m.geometry.pages * 256 = byte.1 in
          let page_in : byte.0 / 256 < m.geometry.pages = omega (arith, parts, byte_in) in
          let text : (text : Page) × Shows d segment (byte.0 / 256) text × (text.sequence ≤ page_number segment store) = page-read m s d cut store image segment (byte.0 / 256) some last page_in in
          le_trans
          (on segment (byte.0 / 256) (byte.0 % 256) text.0 some last page_in offset_in
          (subst (λ (n : ℕ). IsTrue (is_some (byte_of segment n r.ranges))) (sym parts) byte.2) text.1)
          text.2
      | inr none ↦ omega (arith, none)
    ]

-- Cuts

get-counting : (f : ℕ → ℕ) (first n k : ℕ) → k < n → slice_index (map f (counting first n)) k ≡ f (first + k)
get-counting f first zero k within = absurd (omega arith)
get-counting f first (suc n) zero within = (let same : first ≡ first + 0 = omega arith in ap f same)
get-counting f first (suc n) (suc k) within =
    let less : k < n = omega arith in
    let next : first + 1 + k ≡ first + suc k = omega arith in
    get-counting f (first + 1) n k less ∙ ap f next

pub passing-more : (p : Transaction → Bool) (keep more : Numbered → Bool) (xs : List Numbered) → All (λ x. keep x ≡ true → more x ≡ true) xs → length (filter p (map (λ x. x.transaction) (filter keep xs))) ≤ length (filter p (map (λ x. x.transaction) (filter more xs)))
passing-more p keep more [] all = omega arith
passing-more p keep more (x ∷ xs) all =
    let Pulled : Numbered → Type 0 = λ y. keep y ≡ true → more y ≡ true in
    let own : keep x ≡ true → more x ≡ true = All-head Pulled x xs all in
    let next : length (filter p (map (λ y. y.transaction) (filter keep xs))) ≤ length (filter p (map (λ y. y.transaction) (filter more xs))) = passing-more p keep more xs (All-tail Pulled x xs all) in
    let added : (ys zs : List Numbered) → length (filter p (map (λ y. y.transaction) ys)) ≤ length (filter p (map (λ y. y.transaction) zs)) → length (filter p (map (λ y. y.transaction) (x ∷ ys))) ≤ length (filter p (map (λ y. y.transaction) (x ∷ zs))) =
    λ ys zs less. elim (p x.transaction) as (λ b. length (if b then x.transaction ∷ filter p (map (λ y. y.transaction) ys) else filter p (map (λ y. y.transaction) ys)) ≤ length (if b then x.transaction ∷ filter p (map (λ y. y.transaction) zs) else filter p (map (λ y. y.transaction) zs))) [ true ↦ omega (arith, less) | false ↦ less ] in
    let over : (zs : List Numbered) → length (filter p (map (λ y. y.transaction) zs)) ≤ length (filter p (map (λ y. y.transaction) (x ∷ zs))) =
    λ zs. elim (p x.transaction) as (λ b. length (filter p (map (λ y. y.transaction) zs)) ≤ length (if b then x.transaction ∷ filter p (map (λ y. y.transaction) zs) else filter p (map (λ y. y.transaction) zs))) [ true ↦ omega arith | false ↦ omega arith ] in
    elim (keep x) as (λ b. (b ≡ true → more x ≡ true) → length (filter p (map (λ y. y.transaction) (if b then x ∷ filter keep xs else filter keep xs))) ≤ length (filter p (map (λ y. y.transaction) (filter more (x ∷ xs))))) [
      | true ↦ λ pulls.
          subst (λ (b : Bool). length (filter p (map (λ y. y.transaction) (x ∷ filter keep xs))) ≤ length (filter p (map (λ y. y.transaction) (if b then x ∷ filter more xs else filter more xs)))) (sym (pulls refl))
          (added (filter keep xs) (filter more xs) next)
      | false ↦ λ pulls.
          elim (more x) as (λ b. length (filter p (map (λ y. y.transaction) (filter keep xs))) ≤ length (filter p (map (λ y. y.transaction) (if b then x ∷ filter more xs else filter more xs)))) [
            | true ↦ le_trans next (over (filter more xs))
            | false ↦ next
          ]
    ] own

pub get-acked : (g : Geometry) (s : State) (node : ℕ) → node < g.nodes → slice_index (acked g s) node ≡ s.ack node
get-acked g s node within =
    let same : 0 + node ≡ node = omega arith in
    get-counting s.ack 0 g.nodes node within ∙ ap s.ack same

pub known-nodes : (g : Geometry) (s : State) → Sound g s → All (λ (x : Numbered). x.transaction.node < g.nodes) (numbered s.history)
known-nodes g s sound =
    let Known : Transaction → Type 0 = λ (t : Transaction). t.node < g.nodes in
    All-from_map Known (λ (x : Numbered). x.transaction) (numbered s.history)
    (subst (λ (ts : List Transaction). All Known ts) (sym (all-numbered_after [] (transactions s.history)))
    (All-weaker (IsProper g) Known (λ t proper. proper.node_known) (transactions s.history) sound.history_proper))

-- a greater cut keeps more
pub kept-more : (m : Setting) (s : State) (d : Disks) (cut other : Cut) → Sound m.geometry s → ((node : ℕ) → node < m.geometry.nodes → slice_index cut node ≤ slice_index other node) → (segment : ℕ) → counted_all d.numbers (kept s.history cut) segment ≤ counted_all d.numbers (kept s.history other) segment
kept-more m s d cut other sound at_least segment =
    let more : length (filter (sets segment) (kept s.history cut)) ≤ length (filter (sets segment) (kept s.history other)) =
    passing-more (sets segment) (is_kept cut) (is_kept other) (numbered s.history)
    (λ k x k_in keeps.
    let within : (get_or (numbered s.history) k x).transaction.node < m.geometry.nodes = known-nodes m.geometry s sound k x k_in in
    let below : (get_or (numbered s.history) k x).number < slice_index cut (get_or (numbered s.history) k x).transaction.node = ltb-true (get_or (numbered s.history) k x).number (slice_index cut (get_or (numbered s.history) k x).transaction.node) keeps in
    let less : (get_or (numbered s.history) k x).number < slice_index other (get_or (numbered s.history) k x).transaction.node = omega (arith, below, at_least (get_or (numbered s.history) k x).transaction.node within) in
    lt-ltb (get_or (numbered s.history) k x).number (slice_index other (get_or (numbered s.history) k x).transaction.node) less) in
    omega (arith, more, counted-length d.numbers (kept s.history cut) segment, counted-length d.numbers (kept s.history other) segment)

-- what is acknowledged is kept by each cut that a stop may make
pub acked-within : (m : Setting) (s : State) (d : Disks) (cut : Cut) (store : StoreText) → Fits m s d → IsImage m s d cut store → (segment : ℕ) → stable_number m.geometry s d segment ≤ counted_all d.numbers (kept s.history cut) segment
acked-within m s d cut store fits image segment =
    kept-more m s d (acked m.geometry s) cut fits.sound
    (λ node within. elim (image.cuts node within) [
      | inl e ↦ omega (arith, e, get-acked m.geometry s node within)
      | inr e ↦
          let under_way : 1 ≤ (s.flush node).steps = omega (arith, e.0) in
          omega (arith, e.1, fits.sound.taken node under_way, get-acked m.geometry s node within)
    ]) segment
