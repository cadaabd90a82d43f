-- Parts of a list of segments, marks, and what keeps a transaction well formed.
use Rattle.std.proofs.Common.{◌≡◌, ◌≢◌, ℕ, zero, suc, Bool, true, false, ◌==◌, List, [], ◌∷◌, map, length, replicate, IsTrue, refl, sym, ◌∙◌, ap, subst, true≢false, eqb-true, eq-eqb}
use Rattle.std.proofs.lemmas.List.Elements.{All-push}
use Rattle.lc_record.specs.Content.{Content, put, on_segment, segment_of}
use Rattle.lc_record.specs.Transaction.{Transaction, ByteWrite, IsWellFormed, locks, all_set, writes_on}
use Rattle.lc_record.specs.Marks.{marked, written}

-- Parts of a list of segments

pub segment_of-other : {A : Type 0} (s t : ℕ) (f : List A → List A) (xs : List (List A)) → s ≢ t → segment_of s (on_segment t f xs) ≡ segment_of s xs
segment_of-other s t f [] differ = refl
segment_of-other zero zero f (x ∷ xs) differ = refl
segment_of-other zero (suc zero) f (x ∷ xs) differ = refl
segment_of-other zero (suc (suc j)) f (x ∷ xs) differ = refl
segment_of-other (suc zero) zero f (x ∷ xs) differ = refl
segment_of-other (suc zero) (suc zero) f (x ∷ xs) differ = absurd (differ refl)
segment_of-other (suc zero) (suc (suc j)) f (x ∷ xs) differ = refl
segment_of-other (suc (suc i)) zero f (x ∷ xs) differ = refl
segment_of-other (suc (suc i)) (suc zero) f (x ∷ xs) differ = refl
segment_of-other (suc (suc i)) (suc (suc j)) f (x ∷ xs) differ = segment_of-other (suc i) (suc j) f xs (λ e. differ (ap suc e))

-- of a change that leaves nothing as it is
pub segment_of-same : {A : Type 0} (s : ℕ) (f : List A → List A) (xs : List (List A)) → f [] ≡ [] → segment_of s (on_segment s f xs) ≡ f (segment_of s xs)
segment_of-same s f [] none = sym none
segment_of-same zero f (x ∷ xs) none = sym none
segment_of-same (suc zero) f (x ∷ xs) none = refl
segment_of-same (suc (suc i)) f (x ∷ xs) none = segment_of-same (suc i) f xs none

pub length-put : {A : Type 0} (place : ℕ) (items xs : List A) → length (put place items xs) ≡ length xs
length-put place items [] = refl
length-put zero [] (x ∷ xs) = refl
length-put zero (item ∷ items) (x ∷ xs) = ap suc (length-put zero items xs)
length-put (suc place) items (x ∷ xs) = ap suc (length-put place items xs)

pub shape-on_segment : {A : Type 0} (s : ℕ) (f : List A → List A) (xs : List (List A)) → ((x : List A) → length (f x) ≡ length x) → map length (on_segment s f xs) ≡ map length xs
shape-on_segment s f [] same = refl
shape-on_segment zero f (x ∷ xs) same = refl
shape-on_segment (suc zero) f (x ∷ xs) same = ap (λ n. n ∷ map length xs) (same x)
shape-on_segment (suc (suc i)) f (x ∷ xs) same = ap (λ ns. length x ∷ ns) (shape-on_segment (suc i) f xs same)

-- Lengths

pub length-on_segment : {A : Type 0} (segment : ℕ) (change : A → A) (xs : List A) → length (on_segment segment change xs) ≡ length xs
length-on_segment segment change [] = refl
length-on_segment zero change (x ∷ xs) = refl
length-on_segment (suc zero) change (x ∷ xs) = refl
length-on_segment (suc (suc i)) change (x ∷ xs) = ap suc (length-on_segment (suc i) change xs)

pub length-writes_on : (ws : List ByteWrite) (content : Content) → length (writes_on ws content) ≡ length content
length-writes_on [] content = refl
length-writes_on (w ∷ ws) content =
    length-writes_on ws (on_segment w.segment (put w.offset w.bytes) content) ∙ length-on_segment w.segment (put w.offset w.bytes) content

length-change : (segment other offset : ℕ) (items : List ℕ) (content : Content) → length (segment_of segment (on_segment other (put offset items) content)) ≡ length (segment_of segment content)
length-change segment other offset items content =
    elim (other == segment) as (λ b. (other == segment) ≡ b → length (segment_of segment (on_segment other (put offset items) content)) ≡ length (segment_of segment content)) [
      | true ↦ λ e.
          let same : segment ≡ other = sym (eqb-true other segment e) in
          subst (λ (s : ℕ). length (segment_of s (on_segment other (put offset items) content)) ≡ length (segment_of s content)) (sym same)
          (ap length (segment_of-same other (put offset items) content refl) ∙ length-put offset items (segment_of other content))
      | false ↦ λ e.
          let differ : segment ≢ other = λ same. true≢false (sym (eq-eqb other segment (sym same)) ∙ e) in
          ap length (segment_of-other segment other (put offset items) content differ)
    ] refl

pub length-written_segment : (segment : ℕ) (ws : List ByteWrite) (content : Content) → length (segment_of segment (writes_on ws content)) ≡ length (segment_of segment content)
length-written_segment segment [] content = refl
length-written_segment segment (w ∷ ws) content =
    length-written_segment segment ws (on_segment w.segment (put w.offset w.bytes) content) ∙ length-change segment w.segment w.offset w.bytes content

-- Marks

pub all_set-put : (place len at n : ℕ) (marks : List Bool) → all_set place len marks ≡ true → all_set place len (put at (replicate n true) marks) ≡ true
all_set-put place zero at n marks set = refl
all_set-put place (suc len) at n [] set = set
all_set-put zero (suc len) zero zero (mark ∷ marks) set = set
all_set-put zero (suc len) zero (suc n) (true ∷ marks) set = all_set-put zero len zero n marks set
all_set-put zero (suc len) zero (suc n) (false ∷ marks) set = absurd (true≢false (sym set))
all_set-put zero (suc len) (suc at) n (true ∷ marks) set = all_set-put zero len at n marks set
all_set-put zero (suc len) (suc at) n (false ∷ marks) set = absurd (true≢false (sym set))
all_set-put (suc place) (suc len) zero zero (mark ∷ marks) set = set
all_set-put (suc place) (suc len) zero (suc n) (mark ∷ marks) set = all_set-put place (suc len) zero n marks set
all_set-put (suc place) (suc len) (suc at) n (mark ∷ marks) set = all_set-put place (suc len) at n marks set

-- what was set stays set
pub all_set-marked : (t : Transaction) (segment offset n other place len : ℕ) → all_set place len (segment_of other t.marks) ≡ true → all_set place len (segment_of other (marked t segment offset n).marks) ≡ true
all_set-marked t segment offset n other place len set =
    elim (other == segment) as (λ b. (other == segment) ≡ b → all_set place len (segment_of other (marked t segment offset n).marks) ≡ true) [
      | true ↦ λ e.
          let same : other ≡ segment = eqb-true other segment e in
          let here : segment_of segment (marked t segment offset n).marks ≡ put offset (replicate n true) (segment_of segment t.marks) = segment_of-same segment (put offset (replicate n true)) t.marks refl in
          subst (λ (s : ℕ). all_set place len (segment_of s (marked t segment offset n).marks) ≡ true) (sym same)
          (ap (all_set place len) here ∙ all_set-put place len offset n (segment_of segment t.marks) (subst (λ (s : ℕ). all_set place len (segment_of s t.marks) ≡ true) same set))
      | false ↦ λ e.
          let differ : other ≢ segment = λ same. true≢false (sym (eq-eqb other segment same) ∙ e) in
          ap (all_set place len) (segment_of-other other segment (put offset (replicate n true)) t.marks differ) ∙ set
    ] refl

pub well-marked : (t : Transaction) (segment offset n : ℕ) → IsWellFormed t → locks t segment ≡ true → IsWellFormed (marked t segment offset n)
well-marked t segment offset n well lock = record {
  set_locked = λ other place set.
      elim (other == segment) as (λ b. (other == segment) ≡ b → locks t other ≡ true) [
        | true ↦ λ e. subst (λ (s : ℕ). locks t s ≡ true) (sym (eqb-true other segment e)) lock
        | false ↦ λ e.
            let differ : other ≢ segment = λ same. true≢false (sym (eq-eqb other segment same) ∙ e) in
            well.set_locked other place (sym (ap (all_set place 1) (segment_of-other other segment (put offset (replicate n true)) t.marks differ)) ∙ set)
      ] refl;
  write_locked = well.write_locked;
  write_set = λ k d k_in. all_set-marked t segment offset n _ _ _ (well.write_set k d k_in);
}

pub well-written : (t : Transaction) (segment offset : ℕ) (bytes : List ℕ) → IsWellFormed t → locks t segment ≡ true → all_set offset (length bytes) (segment_of segment t.marks) ≡ true → IsWellFormed (written t segment offset bytes)
well-written t segment offset bytes well lock set =
    let w : ByteWrite = record { segment = segment; offset = offset; bytes = bytes } in
    record {
      set_locked = well.set_locked;
      write_locked = All-push (λ (v : ByteWrite). IsTrue (locks t v.segment)) t.writes w well.write_locked lock;
      write_set = All-push (λ (v : ByteWrite). IsTrue (all_set v.offset (length v.bytes) (segment_of v.segment t.marks))) t.writes w well.write_set set;
    }
