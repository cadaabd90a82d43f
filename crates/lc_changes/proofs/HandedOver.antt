-- The ranges that an end hands over make of a transaction what its own work made of it.
use Rattle.std.proofs.Common.{◌≡◌, ◌⊎◌, ℕ, zero, suc, ◌<◌, Bool, true, false, ◌&&◌, List, [], ◌∷◌, ◌++◌, map, length, replicate, take, drop, get_or, Some, refl, sym, ◌∙◌, ap, subst, inl, inr, arith, true≢false, eqb-true}
use Rattle.std.specs.Prelude.{slice_get, unwrap_or}
use Rattle.std.proofs.lemmas.Bool.{cases_eq}
use Rattle.std.proofs.lemmas.List.{ext_get_or}
use Rattle.std.proofs.lemmas.Option.{unwrap_or-slice_get}
use Rattle.lc_record.specs.Content.{Content, put, on_segment, segment_of}
use Rattle.lc_record.specs.Transaction.{ByteWrite, Marks, Transaction, IsWellFormed, all_set, locks, writes_on}
use Rattle.lc_record.specs.Geometry.{segment_len}
use Rattle.lc_record.specs.Marks.{is_empty, marked, no_marks, ranges, stretches, written}
use Rattle.lc_record.specs.declared.geometry.Geometry.{Geometry}
use Rattle.lc_record.proofs.SegmentLemmas.{length-put, length-writes_on, length-written_segment, segment_of-other, segment_of-same, shape-on_segment}
use Rattle.lc_range.specs.RangeSet.{Has}
use Rattle.lc_range.specs.declared.range.Range.{Range}
use Rattle.lc_tx.proofs.StandsLemmas.{marked-marks, marks-marked}
use Rattle.lc_model.specs.Machine.{Run, Step, Row, changed, dropped}
use Rattle.lc_model.specs.Refusals.{common_refusal, set_range_refusal, write_refusal}
use Rattle.lc_model.specs.State.{State, Setting, running_of}
use Rattle.lc_model.specs.declared.event.Event.TheVariants.{SetRange, Write}
use Rattle.lc_model.specs.declared.reply.Reply.TheVariants.{Ok as Accepted}
use Rattle.lc_model.proofs.Bytes.{byte-unset, same-bytes, segment_of-zero}
use Rattle.lc_changes.specs.Images.{Images}
use Rattle.lc_changes.specs.Gathering.{LieInImages}
use Rattle.lc_changes.specs.Calls.{AreRangesOf, accepting, handing}
use Rattle.lc_changes.proofs.Alone.{accepted, accepted_of, elsewhere, own_of, writes_on-last}
use Rattle.lc_changes.proofs.PutBack.{put_here}
use Rattle.lc_changes.proofs.Working.{dropped-changed, its-thread}

-- The transaction

abbrev pub with_range : Images → Transaction → Range → Transaction
with_range images t r = written (marked t r.segment r.offset r.len) r.segment r.offset (take r.len (drop r.offset (images r.segment)))

-- with all of these ranges
abbrev pub handed : Images → Transaction → List Range → Transaction
handed images t [] = t
handed images t (r ∷ rs) = handed images (with_range images t r) rs

pub handed-is : (images : Images) (t : Transaction) (rs : List Range) → handed images t rs ≡ record t { marks = (handed images t rs).marks; writes = (handed images t rs).writes }
handed-is images t [] = refl
handed-is images t (r ∷ rs) = handed-is images (with_range images t r) rs

set-made : (m : Setting) (s new : State) (n k segment offset len : ℕ) (t : Transaction) → running_of n k s ≡ Some t → Step m s (SetRange n k segment offset len) Accepted new → new ≡ changed s (marked t segment offset len)
set-made m s new n k segment offset len t found step =
    let P : Type 0 = new ≡ changed s (marked t segment offset len) in
    accepted P (common_refusal m.geometry s (SetRange n k segment offset len)) s new (Row m s (SetRange n k segment offset len) Accepted new)
    (λ row. accepted_of P (running_of n k s) t s new _ found
    (λ h. accepted P (set_range_refusal m.geometry t segment offset len) s new _ (λ told. told.1) h) row) step

write-made : (m : Setting) (s new : State) (n k segment offset : ℕ) (bytes : List ℕ) (t : Transaction) → running_of n k s ≡ Some t → Step m s (Write n k segment offset bytes) Accepted new → new ≡ changed s (written t segment offset bytes)
write-made m s new n k segment offset bytes t found step =
    let P : Type 0 = new ≡ changed s (written t segment offset bytes) in
    accepted P (common_refusal m.geometry s (Write n k segment offset bytes)) s new (Row m s (Write n k segment offset bytes) Accepted new)
    (λ row. accepted_of P (running_of n k s) t s new _ found
    (λ h. accepted P (write_refusal m.geometry t segment offset bytes) s new _ (λ told. told.1) h) row) step

-- the events that hand over make it so, and change nothing else
pub hands-over : (m : Setting) (n k : ℕ) (images : Images) (ranges : List Range) (s new : State) (t : Transaction) → running_of n k s ≡ Some t → Run m s (handing n k images ranges) (accepting ranges) new
    → (running_of n k new ≡ Some (handed images t ranges)) × (dropped new n k ≡ dropped s n k)
hands-over m n k images [] s new t found run = (ap (running_of n k) run ∙ found, ap (λ (x : State). dropped x n k) run)
hands-over m n k images (r ∷ rs) s new t found run =
    let part : List ℕ = take r.len (drop r.offset (images r.segment)) in
    let by : (t.node ≡ n) × (t.thread ≡ k) = its-thread s n k t found in
    let one : Transaction = marked t r.segment r.offset r.len in
    let two : Transaction = with_range images t r in
    let first : run.0 ≡ changed s one = set-made m s run.0 n k r.segment r.offset r.len t found run.1 in
    let found_one : running_of n k run.0 ≡ Some one = ap (running_of n k) first ∙ own_of s n k t one found refl refl in
    let second : run.2.0 ≡ changed run.0 two = write-made m run.0 run.2.0 n k r.segment r.offset part one found_one run.2.1 in
    let found_two : running_of n k run.2.0 ≡ Some two = ap (running_of n k) second ∙ own_of run.0 n k one two found_one refl refl in
    let rest = hands-over m n k images rs run.2.0 new two found_two run.2.2 in
    (rest.0, rest.1 ∙ ap (λ (x : State). dropped x n k) second ∙ dropped-changed run.0 n k two by.0 by.1 ∙ ap (λ (x : State). dropped x n k) first ∙ dropped-changed s n k one by.0 by.1)

-- Its marks

shape-at : {A B : Type 0} (s : ℕ) (xs : List (List A)) (ys : List (List B)) → map length xs ≡ map length ys → length (segment_of s xs) ≡ length (segment_of s ys)
shape-at s [] [] same = refl
shape-at s [] (y ∷ ys) same = absurd cc
shape-at s (x ∷ xs) [] same = absurd cc
shape-at zero (x ∷ xs) (y ∷ ys) same = refl
shape-at (suc zero) (x ∷ xs) (y ∷ ys) same = cc
shape-at (suc (suc i)) (x ∷ xs) (y ∷ ys) same = (let behind : map length xs ≡ map length ys = cc in shape-at (suc i) xs ys behind)

pub set-inside : (k : ℕ) (marks : List Bool) → all_set k 1 marks ≡ true → k < length marks
set-inside k [] set = absurd (true≢false (sym set))
set-inside zero (mark ∷ marks) set = omega arith
set-inside (suc k) (mark ∷ marks) set = omega (arith, set-inside k marks set)

range-set : (images : Images) (t : Transaction) (rs : List Range) (g k : ℕ) → all_set k 1 (segment_of g (handed images t rs).marks) ≡ true → (all_set k 1 (segment_of g t.marks) ≡ true) ⊎ Has rs g k
range-set images t [] g k set = inl set
range-set images t (r ∷ rs) g k set = elim (range-set images (with_range images t r) rs g k set) [
  | inl was ↦ elim (marked-marks t r.segment r.offset r.len g k was) [ inl before ↦ inl before | inr here ↦ inr (inl here) ]
  | inr later ↦ inr (inr later)
]

set-range : (images : Images) (t : Transaction) (rs : List Range) (g k : ℕ) → k < length (segment_of g t.marks) → (all_set k 1 (segment_of g t.marks) ≡ true) ⊎ Has rs g k → all_set k 1 (segment_of g (handed images t rs).marks) ≡ true
set-range images t [] g k inside is = elim is [ inl set ↦ set | inr has ↦ absurd has ]
set-range images t (r ∷ rs) g k inside is =
    let shape : length (segment_of g (marked t r.segment r.offset r.len).marks) ≡ length (segment_of g t.marks) =
    shape-at g (marked t r.segment r.offset r.len).marks t.marks (shape-on_segment r.segment (put r.offset (replicate r.len true)) t.marks (length-put r.offset (replicate r.len true))) in
    set-range images (with_range images t r) rs g k (subst (λ (l : ℕ). k < l) (sym shape) inside)
    (elim is [
      | inl was ↦ inl (marks-marked t r.segment r.offset r.len g k (inl was))
      | inr has ↦ elim has [
        | inl here ↦ inl (marks-marked t r.segment r.offset r.len g k (inr (here.0, here.1, here.2, subst (λ (c : ℕ). k < length (segment_of c t.marks)) here.0 inside)))
        | inr later ↦ inr later
      ]
    ])

same-test : (x y : Bool) → (x ≡ true → y ≡ true) → (y ≡ true → x ≡ true) → x ≡ y
same-test true true one other = refl
same-test true false one other = sym (one refl)
same-test false true one other = other refl
same-test false false one other = refl

and-all : (x : Bool) → (x && true) ≡ x
and-all true = refl
and-all false = refl

same-bits : (xs ys : List Bool) → length xs ≡ length ys → ((k : ℕ) → all_set k 1 xs ≡ all_set k 1 ys) → xs ≡ ys
same-bits [] [] long same = refl
same-bits [] (y ∷ ys) long same = absurd (omega (arith, long))
same-bits (x ∷ xs) [] long same = absurd (omega (arith, long))
same-bits (x ∷ xs) (y ∷ ys) long same =
    let first : x ≡ y = sym (and-all x) ∙ same 0 ∙ and-all y in
    let others : xs ≡ ys = same-bits xs ys (omega (arith, long)) (λ k. same (suc k)) in
    cc

marks-behind : (x y : List Bool) (xs ys : Marks) → ((g k : ℕ) → all_set k 1 (segment_of g (x ∷ xs)) ≡ all_set k 1 (segment_of g (y ∷ ys))) → (g k : ℕ) → all_set k 1 (segment_of g xs) ≡ all_set k 1 (segment_of g ys)
marks-behind x y xs ys same zero k = ap (all_set k 1) (segment_of-zero xs ∙ sym (segment_of-zero ys))
marks-behind x y xs ys same (suc i) k = same (suc (suc i)) k

same-marks : (one two : Marks) → map length one ≡ map length two → ((g k : ℕ) → all_set k 1 (segment_of g one) ≡ all_set k 1 (segment_of g two)) → one ≡ two
same-marks [] [] shape same = refl
same-marks [] (y ∷ ys) shape same = absurd cc
same-marks (x ∷ xs) [] shape same = absurd cc
same-marks (x ∷ xs) (y ∷ ys) shape same =
    let long : length x ≡ length y = cc in
    let behind : map length xs ≡ map length ys = cc in
    let first : x ≡ y = same-bits x y long (λ k. same 1 k) in
    let others : xs ≡ ys = same-marks xs ys behind (marks-behind x y xs ys same) in
    cc

none-set : (k n : ℕ) → all_set k 1 (replicate n false) ≡ false
none-set k zero = refl
none-set zero (suc n) = refl
none-set (suc k) (suc n) = none-set k n

none-set-of : (g k n len : ℕ) → all_set k 1 (segment_of g (replicate n (replicate len false))) ≡ false
none-set-of g k zero len = refl
none-set-of zero k (suc n) len = refl
none-set-of (suc zero) k (suc n) len = none-set k len
none-set-of (suc (suc i)) k (suc n) len = none-set-of (suc i) k n len

-- of a transaction that begins nothing is set
pub new-unset : (geometry : Geometry) (g k : ℕ) → all_set k 1 (segment_of g (no_marks geometry)) ≡ false
new-unset geometry g k = none-set-of g k geometry.segments (segment_len geometry)

none-stretch : (k : ℕ) (marks : List Bool) → stretches false marks ≡ 0 → all_set k 1 marks ≡ false
none-stretch k [] none = refl
none-stretch zero (false ∷ marks) none = refl
none-stretch (suc k) (false ∷ marks) none = none-stretch k marks none
none-stretch k (true ∷ marks) none = absurd (omega (arith, none))

none-ranges : (g k : ℕ) (marks : Marks) → ranges marks ≡ 0 → all_set k 1 (segment_of g marks) ≡ false
none-ranges g k [] none = refl
none-ranges zero k (first ∷ marks) none = refl
none-ranges (suc zero) k (first ∷ marks) none = none-stretch k first (omega (arith, none))
none-ranges (suc (suc i)) k (first ∷ marks) none = none-ranges (suc i) k marks (omega (arith, none))

-- where nothing is set, nothing is written
pub nothing-written : (t : Transaction) (content : Content) → IsWellFormed t → is_empty t.marks ≡ true → writes_on t.writes content ≡ content
nothing-written t content well empty =
    same-bytes (writes_on t.writes content) content (length-writes_on t.writes content)
    (λ g k. byte-unset g k t.marks t.writes content well.write_set (none-ranges g k t.marks (eqb-true (ranges t.marks) 0 empty)))

-- they are those of the work, whose positions the ranges have
pub handed-marks : (images : Images) (t : Transaction) (rs : List Range) (marks : Marks) → ((g k : ℕ) → all_set k 1 (segment_of g t.marks) ≡ false) → map length t.marks ≡ map length marks
    → map length (handed images t rs).marks ≡ map length marks → AreRangesOf marks rs → (handed images t rs).marks ≡ marks
handed-marks images t rs marks none shape shape_now ranges =
    same-marks (handed images t rs).marks marks shape_now (λ g k.
    same-test (all_set k 1 (segment_of g (handed images t rs).marks)) (all_set k 1 (segment_of g marks))
    (λ set. elim (range-set images t rs g k set) [ inl was ↦ absurd (true≢false (sym was ∙ none g k)) | inr has ↦ (ranges g k).0 has ])
    (λ set. set-range images t rs g k (subst (λ (l : ℕ). k < l) (sym (shape-at g t.marks marks shape)) (set-inside k (segment_of g marks) set)) (inr ((ranges g k).1 set))))

-- Its bytes

-- a segment whose bytes are those of its image but where ranges are has them everywhere
laid-over : (images : Images) (t : Transaction) (rs : List Range) (g : ℕ) (content : Content) → LieInImages images rs → length (segment_of g (writes_on t.writes content)) ≡ length (images g)
    → ((k : ℕ) → (Has rs g k → ⊥) → get_or (segment_of g (writes_on t.writes content)) k 0 ≡ get_or (images g) k 0) → segment_of g (writes_on (handed images t rs).writes content) ≡ images g
laid-over images t [] g content inside long same = ext_get_or 0 (segment_of g (writes_on t.writes content)) (images g) long (λ k l. same k (λ none. none))
laid-over images t (r ∷ rs) g content inside long same =
    let part : List ℕ = take r.len (drop r.offset (images r.segment)) in
    let before : Content = writes_on t.writes content in
    let w : ByteWrite = record { segment = r.segment; offset = r.offset; bytes = take r.len (drop r.offset (images r.segment)) } in
    let last : writes_on (t.writes ++ w ∷ []) content ≡ on_segment r.segment (put r.offset part) before = writes_on-last t.writes w content in
    laid-over images (with_range images t r) rs g content inside.1
    (length-written_segment g (t.writes ++ w ∷ []) content ∙ sym (length-written_segment g t.writes content) ∙ long)
    (λ k none. elim (cases_eq r.segment g) [
      | inl is ↦
          let Here : ℕ → Type 0 = λ (z : ℕ). length (segment_of z before) ≡ length (images z) → ((j : ℕ) → (Has (r ∷ rs) z j → ⊥) → get_or (segment_of z before) j 0 ≡ get_or (images z) j 0) → (Has rs z k → ⊥)
          → get_or (put r.offset part (segment_of z before)) k 0 ≡ get_or (images z) k 0 in
          let here : segment_of g (on_segment r.segment (put r.offset part) before) ≡ put r.offset part (segment_of g before) =
          subst (λ (z : ℕ). segment_of z (on_segment r.segment (put r.offset part) before) ≡ put r.offset part (segment_of z before)) is (segment_of-same r.segment (put r.offset part) before refl) in
          ap (λ xs. get_or xs k 0) (ap (segment_of g) last ∙ here)
          ∙ subst Here is (λ l all out. put_here (images r.segment) (segment_of r.segment before) r rs k l inside.0 all out) long same none
      | inr other ↦
          ap (λ xs. get_or xs k 0) (ap (segment_of g) last ∙ segment_of-other g r.segment (put r.offset part) before (λ e. other (sym e)))
          ∙ same k (λ has. elim has [ inl here ↦ other (sym here.0) | inr later ↦ none later ])
    ])

-- a byte that is not set is as before
unset-byte : (t : Transaction) (content : Content) (g k : ℕ) → IsWellFormed t → all_set k 1 (segment_of g t.marks) ≡ false → get_or (segment_of g (writes_on t.writes content)) k 0 ≡ get_or (segment_of g content) k 0
unset-byte t content g k well unset =
    sym (unwrap_or-slice_get (segment_of g (writes_on t.writes content)) k 0)
    ∙ ap (λ o. unwrap_or o 0) (byte-unset g k t.marks t.writes content well.write_set unset)
    ∙ unwrap_or-slice_get (segment_of g content) k 0

same-segments : (one two : Content) → length one ≡ length two → ((g : ℕ) → segment_of g one ≡ segment_of g two) → one ≡ two
same-segments one two long same = same-bytes one two long (λ g k. ap (λ xs. slice_get xs k) (same g))

-- writes to locked segments alone leave the others
pub unlocked : (t : Transaction) (content : Content) (g : ℕ) → IsWellFormed t → locks t g ≡ false → segment_of g (writes_on t.writes content) ≡ segment_of g content
unlocked t content g well free =
    elsewhere g t.writes content (λ i d i_in is. true≢false (sym (subst (λ (x : ℕ). locks t x ≡ true) (sym is) (well.write_locked i d i_in)) ∙ free))

pub handed-effect : (images : Images) (t done : Transaction) (rs : List Range) (content : Content) → t.writes ≡ [] → IsWellFormed done → IsWellFormed (handed images t rs)
    → ((g : ℕ) → locks (handed images t rs) g ≡ locks done g) → AreRangesOf done.marks rs → LieInImages images rs
    → ((g : ℕ) → locks done g ≡ true → images g ≡ segment_of g (writes_on done.writes content)) → writes_on (handed images t rs).writes content ≡ writes_on done.writes content
handed-effect images t done rs content none well well_now same_locks ranges inside are =
    let start : writes_on t.writes content ≡ content = ap (λ ws. writes_on ws content) none in
    same-segments (writes_on (handed images t rs).writes content) (writes_on done.writes content)
    (length-writes_on (handed images t rs).writes content ∙ sym (length-writes_on done.writes content))
    (λ g. elim (locks done g) as (λ b. locks done g ≡ b → segment_of g (writes_on (handed images t rs).writes content) ≡ segment_of g (writes_on done.writes content)) [
      | true ↦ λ e.
          let is : images g ≡ segment_of g (writes_on done.writes content) = are g e in
          laid-over images t rs g content inside
          (ap (λ c. length (segment_of g c)) start ∙ sym (length-written_segment g done.writes content) ∙ ap length (sym is))
          (λ k free.
          let unset : all_set k 1 (segment_of g done.marks) ≡ false =
          elim (all_set k 1 (segment_of g done.marks)) as (λ b. all_set k 1 (segment_of g done.marks) ≡ b → b ≡ false) [ true ↦ λ set. absurd (free ((ranges g k).1 set)) | false ↦ λ unset. refl ] refl in
          ap (λ c. get_or (segment_of g c) k 0) start ∙ sym (unset-byte done content g k well unset) ∙ ap (λ xs. get_or xs k 0) (sym is))
          ∙ is
      | false ↦ λ e. unlocked (handed images t rs) content g well_now (same_locks g ∙ e) ∙ sym (unlocked done content g well e)
    ] refl)
