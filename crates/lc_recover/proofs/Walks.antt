-- The records of a log, one after another.
use Rattle.std.proofs.Common.{◌≡◌, ℕ, zero, suc, ◌+◌, ◌<◌, ◌≤◌, ◌-◌, Option, Some, None, List, [], ◌∷◌, ◌++◌, map, length, take, drop, get_or, All, Contains, arith, inl, inr, refl, sym, ◌∙◌, ap, ap₂, subst, append_assoc, append-nil, take-append-drop}
use Rattle.std.specs.Borrow.{Bor}
use Rattle.std.proofs.lemmas.Bool.{cases_lt}
use Rattle.std.proofs.lemmas.List.{drop-drop, length-map, get_or-map, take_all}
use Rattle.std.proofs.lemmas.List.Elements.{All-map, All-weaker, All-contains, All-from_recursion, Contains-append_right, at_read}
use Rattle.std.specs.Prelude.{slice_get}
use Rattle.std.proofs.lemmas.Option.{none-some, same_Some, slice_get_cases, slice_get-get_or, slice_get_past}
use Rattle.std.specs.Option.{MatchOption, IfSome, IfNone}
use Rattle.lc_record.specs.Content.{segment_of}
use Rattle.lc_record.specs.Marks.{counting}
use Rattle.lc_recover.specs.Pages.{kept_page, kept_pages}
use Rattle.std.specs.List.{HoldsAt}
use Rattle.lc_record.specs.Record.{spelling, record_len, IsCanonical}
use Rattle.lc_record.specs.Codec.{BeginsWith, BeginsNoRecord}
use Rattle.lc_record.specs.declared.record.Record.{Record}
use Rattle.lc_record.proofs.SpellingLemmas.{length-spelling}
use Rattle.lc_record.proofs.ListLemmas.{length-counting, Contains-map as contains-map}
use Rattle.lc_model.proofs.Bytes.{segment_of-zero as segment-zero}
use Rattle.lc_log.specs.LogText.{IsLogText, IsWhole, joined, placed}
use Rattle.lc_log.specs.InPlace.{records_in}
use Rattle.lc_log.proofs.WalkLemmas.{begins_whole}
use Rattle.lc_log.proofs.InPlaceLemmas.{records_text, records_are}
use Rattle.lc_model.specs.Merge.{Page, HasInLog, IsLeast}
use Rattle.lc_model.proofs.Visible.{log-known}
use Rattle.lc_recover.specs.Reading.{left_of, placed_in, store_of}
use Rattle.lc_recover.specs.declared.segment_pages.SegmentPages.{SegmentPages}

records-first : (ws : List ℕ) (r : Record) → BeginsWith ws r (record_len r) → records_in ws ≡ r ∷ records_in (drop (record_len r) ws)
records-first ws r b =
    let behind : List ℕ = drop (record_len r) ws in
    let t : IsLogText behind (records_in behind) = records_text behind in
    let text : ws ≡ spelling r ++ behind = sym (take-append-drop (record_len r) ws) ∙ ap (λ (l : List ℕ). l ++ behind) b.whole.spelled in
    records_are ws (r ∷ records_in behind) (record {
      rest = t.rest;
      text = text ∙ ap (λ (l : List ℕ). spelling r ++ l) t.text ∙ sym (append_assoc (spelling r) (joined (records_in behind)) t.rest);
      whole = (begins_whole ws r (record_len r) b, t.whole);
      end = t.end;
    })

records-none : (ws : List ℕ) → BeginsNoRecord ws → records_in ws ≡ []
records-none ws none = records_are ws [] (record { rest = ws; text = refl; whole = tt; end = none })

pub first : (ws : Bor (List ℕ)) (place len : ℕ) (r : Record) → BeginsWith (drop place ws.now) r (record_len r) → len ≡ record_len r
    → left_of (record { words = ws; place = place }) ≡ (place, r) ∷ left_of (record { words = ws; place = place + len })
unfolding left_of
first ws place len r b is =
    let next : records_in (drop place ws.now) ≡ r ∷ records_in (drop (record_len r) (drop place ws.now)) = records-first (drop place ws.now) r b in
    ap (placed place) next
    ∙ ap₂ (λ (n : ℕ) (l : List ℕ). (place, r) ∷ placed (place + n) (records_in l)) (length-spelling r ∙ sym is) (drop-drop (record_len r) place ws.now ∙ ap (λ (n : ℕ). drop (place + n) ws.now) (sym is))

pub none : (ws : Bor (List ℕ)) (place : ℕ) → BeginsNoRecord (drop place ws.now) → left_of (record { words = ws; place = place }) ≡ []
unfolding left_of
none ws place is = ap (placed place) (records-none (drop place ws.now) is)

-- What is seen of a list

-- this holds of what is seen, and the rest is still to come
pub record Passed {A : Type 0} (P : List A → Type 0) (all left : List A) : Type 0 where
  pub seen : List A
  pub split : all ≡ seen ++ left
  pub holds : P seen

pub passed-next : {A : Type 0} (P Q : List A → Type 0) (all left behind : List A) (x : A) → left ≡ x ∷ behind → Passed P all left
    → ((seen : List A) → P seen → Q (seen ++ x ∷ [])) → Passed Q all behind
passed-next {A = A} P Q all left behind x is passed more = record {
  seen = passed.seen ++ x ∷ [];
  split = passed.split ∙ ap (λ (l : List A). passed.seen ++ l) is ∙ sym (append_assoc passed.seen (x ∷ []) behind);
  holds = more passed.seen passed.holds;
}

pub passed-all : {A : Type 0} (P : List A → Type 0) (all left : List A) → left ≡ [] → Passed P all left → P all
passed-all {A = A} P all left is passed = subst P (sym (passed.split ∙ ap (λ (l : List A). passed.seen ++ l) is ∙ append-nil passed.seen)) passed.holds

-- Records without their places

pub placed-records : (place : ℕ) (rs : List Record) → map (λ (x : ℕ × Record). x.1) (placed place rs) ≡ rs
placed-records place [] = refl
placed-records place (r ∷ rs) = ap (λ (l : List Record). r ∷ l) (placed-records (place + length (spelling r)) rs)

pub all-records : (P : Record → Type 0) (ws : List ℕ) → All (λ (x : ℕ × Record). P x.1) (placed_in ws) → All P (records_in ws)
all-records P ws all = subst (λ (l : List Record). All P l) (placed-records 0 (records_in ws)) (All-map P (λ (x : ℕ × Record). x.1) (placed_in ws) all)

-- what comes next is of the list
pub next-in : {A : Type 0} (P : List A → Type 0) (all left behind : List A) (x : A) → left ≡ x ∷ behind → Passed P all left → Contains all x
next-in {A = A} P all left behind x is passed =
    subst (λ (l : List A). Contains l x) (sym (passed.split ∙ ap (λ (l : List A). passed.seen ++ l) is)) (Contains-append_right passed.seen (x ∷ behind) x (0, omega arith, refl))

pub record-in : (ws : List ℕ) (x : ℕ × Record) → Contains (placed_in ws) x → Contains (records_in ws) x.1
record-in ws x c = subst (λ (l : List Record). Contains l x.1) (placed-records 0 (records_in ws)) (contains-map (λ (y : ℕ × Record). y.1) (placed_in ws) x c)

-- each record of a log has a spelling
pub all-canonical : (ws : List ℕ) → All IsCanonical (records_in ws)
all-canonical ws = All-weaker IsWhole IsCanonical (λ r w. w.canonical) (records_in ws) (All-from_recursion IsWhole (records_in ws) (records_text ws).whole)

-- The first log

least-log-at : (logs : List (List ℕ)) (k : ℕ) (r : Record) → Contains (get_or (map records_in logs) k []) r → (k < length logs) × Contains (records_in (get_or logs k [])) r
least-log-at logs k r c =
    let within : k < length (map records_in logs) = log-known (map records_in logs) k r c in
    let inside : k < length logs = omega (arith, length-map logs records_in, within) in
    (inside, subst (λ (l : List Record). Contains l r) (get_or-map records_in logs k [] [] inside) c)

pub no-log : (Such : ℕ → Record → Type 0) (logs : List (List ℕ)) (segments : List SegmentPages)
    → ((k : ℕ) → k < length logs → All (λ r. Such k r → ⊥) (records_in (get_or logs k [])))
    → (log : ℕ) → HasInLog (Such log) (store_of logs segments) log → ⊥
no-log Such logs segments none log has =
    let c = least-log-at logs log has.0 has.1 in
    All-contains (λ r. Such log r → ⊥) (records_in (get_or logs log [])) has.0 (none log c.0) c.1 has.2

pub least-log : (Such : ℕ → Record → Type 0) (logs : List (List ℕ)) (segments : List SegmentPages) (area : ℕ) → area < length logs
    → ((k : ℕ) → k < area → All (λ r. Such k r → ⊥) (records_in (get_or logs k [])))
    → (r : Record) × Contains (records_in (get_or logs area [])) r × Such area r
    → IsLeast (λ log. HasInLog (Such log) (store_of logs segments) log) area
least-log Such logs segments area within none found = record {
  is = (found.0, subst (λ (l : List Record). Contains l found.0) (sym (get_or-map records_in logs area [] [] within)) found.1, found.2);
  least = λ other has.
      let c = least-log-at logs other has.0 has.1 in
      elim (cases_lt other area) [
        | inl before ↦ absurd (All-contains (λ r. Such other r → ⊥) (records_in (get_or logs other [])) has.0 (none other before) c.1 has.2)
        | inr after ↦ after
      ];
}

pub item-at : {A : Type 0} (xs : List A) (i : ℕ) (x d : A) → i < length xs → x ≡ get_or xs i x → get_or xs i d ≡ x
item-at xs i x d within is = at_read xs (λ y. y ≡ x) i x within is refl d

-- Segments by their numbers

pub segment-at : {A B : Type 0} (f : A → List B) (xs : List A) (i : ℕ) (x : A) → slice_get xs i ≡ Some x → segment_of (suc i) (map f xs) ≡ f x
segment-at f [] i x is = absurd (none-some x is)
segment-at f (y ∷ ys) zero x is = ap f (same_Some y x is)
segment-at f (y ∷ ys) (suc i) x is = segment-at f ys i x is

pub segment-past : {A B : Type 0} (f : A → List B) (xs : List A) (i : ℕ) → slice_get xs i ≡ None → segment_of (suc i) (map f xs) ≡ []
segment-past f [] i is = refl
segment-past f (y ∷ ys) zero is = absurd (none-some y (sym is))
segment-past f (y ∷ ys) (suc i) is = segment-past f ys i is

pub length-kept : (s : SegmentPages) → length (kept_pages s) ≡ length s.texts
length-kept s = length-map (counting 0 (length s.texts)) (kept_page s) ∙ length-counting 0 (length s.texts)

pub few-pages : (most : ℕ) (segments : List SegmentPages) → All (λ (s : SegmentPages). length s.texts ≤ most) segments
    → (segment : ℕ) → length (segment_of segment (map kept_pages segments)) ≤ most
few-pages most segments all zero = subst (λ (l : List Page). length l ≤ most) (sym (segment-zero (map kept_pages segments))) (omega arith)
few-pages most segments all (suc i) = elim (slice_get_cases segments i).1 [
  | inl some ↦
      let few : length some.0.texts ≤ most = All-contains (λ (s : SegmentPages). length s.texts ≤ most) segments some.0 all (i, some.1, some.3) in
      subst (λ (l : List Page). length l ≤ most) (sym (segment-at kept_pages segments i some.0 some.2)) (omega (arith, few, length-kept some.0))
  | inr past ↦ subst (λ (l : List Page). length l ≤ most) (sym (segment-past kept_pages segments i past.1)) (omega arith)
]

-- What a lookup gives

pub pages-some : (segments : List SegmentPages) (segment place : ℕ) (o : Option (Bor SegmentPages)) → 1 ≤ segment → place ≡ segment - 1
    → MatchOption o (length segments ≤ place) (λ x. (place < length segments) × HoldsAt (λ y. x.now ≡ y) segments place)
    → IfSome o (λ pages. segment_of segment (map kept_pages segments) ≡ kept_pages pages.now)
pages-some segments segment place None some is found = tt
pages-some segments segment place (Some x) some is found =
    let same : segment ≡ suc place = omega (arith, some, is) in
    subst (λ (n : ℕ). segment_of n (map kept_pages segments) ≡ kept_pages x.now) (sym same)
    (segment-at kept_pages segments place x.now (slice_get-get_or segments place x.now found.0 ∙ ap Some (sym (found.1 x.now))))

pub pages-none : (segments : List SegmentPages) (segment place : ℕ) (o : Option (Bor SegmentPages)) → 1 ≤ segment → place ≡ segment - 1
    → MatchOption o (length segments ≤ place) (λ x. (place < length segments) × HoldsAt (λ y. x.now ≡ y) segments place)
    → IfNone o (segment_of segment (map kept_pages segments) ≡ [])
pages-none segments segment place None some is past =
    let same : segment ≡ suc place = omega (arith, some, is) in
    subst (λ (n : ℕ). segment_of n (map kept_pages segments) ≡ []) (sym same) (segment-past kept_pages segments place (slice_get_past segments place past))
pages-none segments segment place (Some x) some is found = tt

pub all-taken : {A : Type 0} (P : A → Type 0) (n : ℕ) (xs : List A) → length xs ≤ n → All P (take n xs) → All P xs
all-taken P n xs h all = subst (λ (l : List _). All P l) (take_all n xs h) all

pub none-within : {A : Type 0} (xs : List A) (i : ℕ) → slice_get xs i ≡ None → i < length xs → ⊥
none-within xs i none within = elim (slice_get_cases xs i).1 [
  | inl some ↦ none-some some.0 (sym none ∙ some.2)
  | inr past ↦ omega (arith, past.0)
]
