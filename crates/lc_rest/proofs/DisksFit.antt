-- The disks of a cluster at rest fit the state that it stands for.
use Rattle.std.proofs.Common.{◌≡◌, ℕ, ◌+◌, ◌-◌, ◌*◌, ◌≤◌, List, [], ◌∷◌, ◌++◌, map, filter, length, take, drop, replicate, All, refl, sym, ◌∙◌, ap, subst, arith, inl, inr, true≢false}
use Rattle.std.specs.Prelude.{max, slice_index_or}
use Rattle.std.proofs.lemmas.List.{map-append, take_at}
use Rattle.std.proofs.lemmas.List.Elements.{All-nil, All-cons, All-head, All-tail, All-take, All-filter, filter-append}
use Rattle.lc_record.specs.Content.{Content, segment_of}
use Rattle.lc_record.specs.Geometry.{segment_len}
use Rattle.lc_record.specs.Newest.{number_or_zero}
use Rattle.lc_record.specs.Recorded.{records_from}
use Rattle.lc_record.specs.Transaction.{Transaction, IsWellFormed, effect, effects}
use Rattle.lc_record.specs.declared.geometry.Geometry.{Geometry}
use Rattle.lc_record.specs.declared.record.Record.{Record}
use Rattle.lc_record.proofs.ListLemmas.{All-append_left as All-left}
use Rattle.lc_model.specs.Merge.{Page}
use Rattle.lc_model.specs.Merging.{counted_all, is_from, put_on, sets}
use Rattle.lc_model.specs.State.{Place}
use Rattle.lc_model.specs.Stored.{Fits, Stands, IsOnPages, page_bytes, records_of}
use Rattle.lc_model.proofs.Merging.{of_a_segment, counted-length}
use Rattle.lc_rest.specs.Adopted.{transaction_of, state_of, setting_of, disks_of, IsTaken, IsReplayed, IsCleaned, AreTested, AreStored, Follow}
use Rattle.lc_rest.proofs.OneRecord.{writes-laid}
use Rattle.lc_rest.proofs.Standing.{transactions_of, records-own, well-own}
use Rattle.lc_rest.proofs.SoundState.{transactions-are, sound}

-- the records of a node are those that were given
pub records-are : (g : Geometry) (rs : List Record) (stable dropped : ℕ → ℕ) (place : ℕ → Place) (numbers : ℕ → ℕ) (base : Content) (pages : ℕ → ℕ → Page) (node : ℕ)
    → All (IsTaken g) rs → map length base ≡ replicate g.segments (segment_len g) → Follow g numbers rs
    → records_of (setting_of g base) (state_of g rs stable place) (disks_of numbers dropped pages) node ≡ filter (is_from node) rs
records-are g rs stable dropped place numbers base pages node taken shape follow =
    ap (λ (ts : List Transaction). filter (is_from node) (records_from numbers base ts)) (transactions-are g rs)
    ∙ ap (filter (is_from node)) (records-own g rs numbers base taken shape follow)

pub all-well : (g : Geometry) (rs : List Record) → All (IsTaken g) rs → All IsWellFormed (transactions_of g rs)
all-well g [] taken = All-nil IsWellFormed
all-well g (r ∷ rs) taken = All-cons IsWellFormed (transaction_of g r) (transactions_of g rs) (well-own g r (All-head (IsTaken g) r rs taken)) (all-well g rs (All-tail (IsTaken g) r rs taken))

-- putting the records on is what their transactions do
pub put-effects : (g : Geometry) (rs : List Record) (content : Content) → put_on rs content ≡ effects (transactions_of g rs) content
put-effects g [] content = refl
put-effects g (r ∷ rs) content = ap (put_on rs) (sym (writes-laid r.ranges content)) ∙ put-effects g rs (effect (transaction_of g r) content)

all-left : (g : Geometry) (xs ys : List Record) → All (IsTaken g) (xs ++ ys) → All (IsTaken g) xs
all-left g xs ys taken = All-left (IsTaken g) xs ys taken

count-behind : (numbers q count all : ℕ) → all ≡ max numbers q → all ≡ numbers + count → count ≡ q - numbers
count-behind numbers q count all one two = grind arith

-- a page that is as the replay makes it stands
stands : (g : Geometry) (rs : List Record) (numbers : ℕ → ℕ) (base : Content) (segment page : ℕ) (text : Page) → All (IsTaken g) rs → IsReplayed g rs numbers base segment page text
    → text.bytes ≡ page_bytes segment page (effects (take (text.sequence - numbers segment) (filter (sets segment) (transactions_of g rs))) base)
stands g rs numbers base segment page text taken is =
    let us : List Transaction = transactions_of g is.before in
    let vs : List Transaction = transactions_of g is.behind in
    let known : All (IsTaken g) is.before = all-left g is.before is.behind (subst (λ (l : List Record). All (IsTaken g) l) is.parts taken) in
    let whole : filter (sets segment) (transactions_of g rs) ≡ filter (sets segment) us ++ filter (sets segment) vs =
    ap (λ (l : List Record). filter (sets segment) (transactions_of g l)) is.parts ∙ ap (filter (sets segment)) (map-append (transaction_of g) is.before is.behind) ∙ filter-append (sets segment) us vs in
    let count : length (filter (sets segment) us) ≡ text.sequence - numbers segment =
    count-behind (numbers segment) text.sequence (length (filter (sets segment) us)) (counted_all numbers us segment) is.count (counted-length numbers us segment) in
    let those : take (text.sequence - numbers segment) (filter (sets segment) (transactions_of g rs)) ≡ filter (sets segment) us =
    ap (take (text.sequence - numbers segment)) whole ∙ take_at (filter (sets segment) us) (filter (sets segment) vs) (text.sequence - numbers segment) count in
    let same : segment_of segment (put_on is.before base) ≡ segment_of segment (effects (take (text.sequence - numbers segment) (filter (sets segment) (transactions_of g rs))) base) =
    ap (segment_of segment) (put-effects g is.before base) ∙ of_a_segment base us segment (all-well g is.before known) ∙ ap (λ (ts : List Transaction). segment_of segment (effects ts base)) (sym those) in
    is.bytes ∙ ap (λ (l : List ℕ). take 256 (drop (page * 256) l)) same

-- of a node's records that resets dropped, each is clean, so it is on the pages
dropped-on : (g : Geometry) (numbers dropped : ℕ → ℕ) (pages : ℕ → ℕ → Page) (clean known : ℕ → ℕ) (r : Record) → IsCleaned g pages clean r
    → ((segment : ℕ) → 1 ≤ segment → segment ≤ g.segments → known segment ≤ clean segment)
    → ((segment : ℕ) → 1 ≤ segment → segment ≤ g.segments → number_or_zero segment r.locks ≤ known segment)
    → IsOnPages g (disks_of numbers dropped pages) r
dropped-on g numbers dropped pages clean known r cleaned known_clean dropped_known segment page offset text first last in_pages in_page has shows = elim shows [
  | inl is ↦
      let one : number_or_zero segment r.locks ≤ known segment = dropped_known segment first last in
      let two : known segment ≤ clean segment = known_clean segment first last in
      let three : number_or_zero segment r.locks ≤ (pages segment page).sequence = cleaned segment page (omega (arith, one, two)) in_pages (offset, in_page, has) in
      subst (λ (p : Page). number_or_zero segment r.locks ≤ p.sequence) (sym is) three
  | inr opened ↦ absurd cc
]

pub disks-fit : (g : Geometry) (rs : List Record) (stable dropped : ℕ → ℕ) (place : ℕ → Place) (numbers : ℕ → ℕ) (base : Content) (pages : ℕ → ℕ → Page) (clean : ℕ → ℕ) (known : ℕ → ℕ → ℕ)
    → AreTested g rs stable place → AreStored g rs stable dropped place numbers base pages clean known
    → Fits (setting_of g base) (state_of g rs stable place) (disks_of numbers dropped pages)
disks-fit g rs stable dropped place numbers base pages clean known tested stored = record {
  sound = sound g rs stable place tested;
  shape = stored.shape;
  stands = λ segment page text first last in_pages shows. elim shows [
    | inl is ↦ subst (λ (p : Page). Stands (setting_of g base) (state_of g rs stable place) (disks_of numbers dropped pages) segment page p) (sym is) (record {
      within = stored.within segment page first last in_pages;
      bytes = stands g rs numbers base segment page (pages segment page) tested.taken (stored.replayed segment page first last in_pages)
          ∙ ap (λ (ts : List Transaction). page_bytes segment page (effects (take ((pages segment page).sequence - numbers segment) (filter (sets segment) ts)) base)) (sym (transactions-are g rs));
    })
    | inr opened ↦ absurd cc
  ];
  reached = λ segment first last. (let at = stored.reached segment first last in (
    at.0,
    at.1,
    λ text shows. elim shows [
      | inl is ↦ subst (λ (p : Page). numbers segment ≤ p.sequence) (sym is) at.2
      | inr opened ↦ absurd cc
    ],
  ));
  dropped = λ node in_nodes.
      subst (λ (l : List Record). All (IsOnPages g (disks_of numbers dropped pages)) (take (dropped node) l)) (sym (records-are g rs stable dropped place numbers base pages node tested.taken stored.shape stored.follow))
      (λ k d less. dropped-on g numbers dropped pages clean (known node) (slice_index_or (take (dropped node) (filter (is_from node) rs)) k d)
      (All-take (IsCleaned g pages clean) (dropped node) (filter (is_from node) rs) (All-filter (is_from node) (IsCleaned g pages clean) rs stored.cleaned) k d less)
      (stored.known_clean node) (stored.dropped_known node in_nodes k d less));
  resetting = λ node in_nodes is. absurd (true≢false (sym is));
  begun = λ segment page text first last in_pages is. absurd cc;
  dropped_acked = stored.dropped_stable;
  sealed = λ node in_nodes is. absurd (true≢false (sym is));
}
