-- Of a desk: lists that are made or filled item by item, and what a desk has whose slots are of their segments.
use Rattle.std.proofs.Common.{◌≡◌, ℕ, zero, suc, ◌+◌, ◌*◌, ◌<◌, ◌≤◌, Bool, true, false, List, [], ◌∷◌, ◌++◌, map, take, length, Option, Some, None, refl, sym, ap, subst, ◌∙◌, arith}
use Rattle.std.specs.Prelude.{slice_get, slice_set, option_map, replicate, if◌then◌else◌}
use Rattle.std.specs.List.{flat_map}
use Rattle.std.specs.Option.{ForSome}
use Rattle.std.proofs.lemmas.List.{length-map, map-append, take-append-le, take_all, take_more_set, append-nil as append_none}
use Rattle.std.proofs.lemmas.Grind.{flat_map-append}
use Rattle.std.proofs.lemmas.Option.{slice_get-map, same_Some as same_some}
use Rattle.lc_page.specs.PageVector.{new_entry}
use Rattle.lc_record.specs.Content.{put}
use Rattle.lc_record.specs.Marks.{counting}
use Rattle.lc_record.specs.declared.geometry.Geometry.{Geometry}
use Rattle.lc_record.proofs.ListLemmas.{length-counting as length_counting, slice_get-map_some as get-map, counting_push_zero as counting_more}
use Rattle.lc_recover.specs.Recovered.{RecoveredStore, page_of}
use Rattle.lc_token.specs.declared.token.Token.{Token}
use Rattle.lc_desk.specs.Blank.{AreOfSegments}
use Rattle.lc_desk.specs.Fresh.{fresh_token}
use Rattle.lc_desk.specs.Here.{beside, image_at}
use Rattle.lc_desk.specs.Seats.{AllRun, AreShort}
use Rattle.lc_desk.specs.Slots.{AreInPlace, Besides, besides_of}
use Rattle.lc_desk.specs.declared.here.Here.{Here}
use Rattle.lc_desk.specs.Seat.{Seat, Free}
use Rattle.lc_desk.specs.declared.segment_copy.SegmentCopy.{SegmentCopy}
use Rattle.lc_desk.proofs.Seating.{nobody_runs}

-- The pages of a segment, one after another

take_put : (place : ℕ) (items old : List ℕ) (n : ℕ) → n ≡ place + length items → n ≤ length old → take n (put place items old) ≡ take place old ++ items
take_put zero [] [] n is within = (let none : n ≡ 0 = omega (arith, is) in ap (λ (k : ℕ). take k (put zero [] [])) none)
take_put zero [] (o ∷ os) n is within = (let none : n ≡ 0 = omega (arith, is) in ap (λ (k : ℕ). take k (o ∷ os)) none)
take_put zero (i ∷ is) [] n same within = absurd (omega (arith, same, within))
take_put zero (i ∷ is) (o ∷ os) zero same within = absurd (omega (arith, same))
take_put zero (i ∷ is) (o ∷ os) (suc n) same within = ap (λ (l : List ℕ). i ∷ l) (take_put zero is os n (omega (arith, same)) (omega (arith, within)))
take_put (suc place) items [] n same within = absurd (omega (arith, same, within))
take_put (suc place) items (o ∷ os) zero same within = absurd (omega (arith, same))
take_put (suc place) items (o ∷ os) (suc n) same within = ap (λ (l : List ℕ). o ∷ l) (take_put place items os n (omega (arith, same)) (omega (arith, within)))

-- one more page is put after those that are
pub page_put : (f : ℕ → List ℕ) (page : ℕ) (items old : List ℕ) → length items ≡ 256 → items ≡ f page → page * 256 + 256 ≤ length old
    → take (page * 256) old ≡ flat_map f (counting 0 page) → take ((page + 1) * 256) (put (page * 256) items old) ≡ flat_map f (counting 0 (page + 1))
page_put f page items old len is within before =
    let end : (page + 1) * 256 ≡ page * 256 + length items = omega (arith, len) in
    take_put (page * 256) items old ((page + 1) * 256) end (omega (arith, within))
    ∙ ap (λ (l : List ℕ). l ++ items) before
    ∙ ap (λ (l : List ℕ). flat_map f (counting 0 page) ++ l) (is ∙ sym (append_none (f page)))
    ∙ sym (ap (flat_map f) (counting_more page) ∙ flat_map-append f (counting 0 page) (page ∷ []))

-- one more entry
pub entry_put : {A : Type 0} (f : ℕ → A) (page : ℕ) (item : A) (old : List A) → item ≡ f page → page < length old → take page old ≡ map f (counting 0 page)
    → take (page + 1) (slice_set old page item) ≡ map f (counting 0 (page + 1))
entry_put {A} f page item old is within before =
    take_more_set old page item within ∙ ap (λ (l : List A). l ++ item ∷ []) before ∙ ap (λ (x : A). map f (counting 0 page) ++ x ∷ []) is
    ∙ sym (ap (map f) (counting_more page) ∙ map-append f (counting 0 page) (page ∷ []))

-- Each item of a list

module _ {A : Type 0} where
  pub each_set : (P : ℕ → A → Type 0) (xs : List A) (i : ℕ) (y : A) → ((k : ℕ) (x : A) → slice_get xs k ≡ Some x → P k x) → P i y
      → (k : ℕ) (x : A) → slice_get (slice_set xs i y) k ≡ Some x → P k x
  each_set P [] i y h p k x got = absurd cc
  each_set P (z ∷ xs) zero y h p zero x got = subst (P zero) (same_some y x got) p
  each_set P (z ∷ xs) zero y h p (suc k) x got = h (suc k) x got
  each_set P (z ∷ xs) (suc i) y h p zero x got = h zero x got
  each_set P (z ∷ xs) (suc i) y h p (suc k) x got = each_set (λ j. P (suc j)) xs i y (λ j w. h (suc j) w) p k x got

  -- those in front of a place have this, and so has what is put there
  pub front_set : (P : ℕ → A → Type 0) (xs : List A) (i : ℕ) (y : A) → ((k : ℕ) (x : A) → k < i → slice_get xs k ≡ Some x → P k x) → P i y
      → (k : ℕ) (x : A) → k < i + 1 → slice_get (slice_set xs i y) k ≡ Some x → P k x
  front_set P [] i y h p k x less got = absurd cc
  front_set P (z ∷ xs) zero y h p zero x less got = subst (P zero) (same_some y x got) p
  front_set P (z ∷ xs) zero y h p (suc k) x less got = absurd (omega (arith, less))
  front_set P (z ∷ xs) (suc i) y h p zero x less got = h zero x (omega arith) got
  front_set P (z ∷ xs) (suc i) y h p (suc k) x less got =
      front_set (λ j. P (suc j)) xs i y (λ j w before. h (suc j) w (omega (arith, before))) p k x (omega (arith, less)) got

  -- what was written back of all items
  pub all_back : (n : ℕ) (new rest : List A) → n ≡ length new → take n (new ++ rest) ≡ new
  all_back n new rest same = take-append-le n new rest (omega (arith, same)) ∙ take_all n new (omega (arith, same))

  pub each_same : (P : ℕ → A → Type 0) (xs ys : List A) → ys ≡ xs → ((k : ℕ) (x : A) → slice_get xs k ≡ Some x → P k x) → (k : ℕ) (x : A) → slice_get ys k ≡ Some x → P k x
  each_same P xs ys same h k x got = h k x (ap (λ (l : List A). slice_get l k) (sym same) ∙ got)

-- The slots of a desk

-- the token that a recovery makes has an entry for each page
pub entries_fit : {D : Type 0} (r : RecoveredStore D) (segment : ℕ) (b : Bool) (token : Option Token) → token ≡ (if b then Some (fresh_token r segment) else None)
    → ForSome token (λ t. length t.pages ≡ r.geometry.pages)
entries_fit r segment false token is t got = absurd (none_some (sym is ∙ got))
  where
    none_some : None ≡ Some t → ⊥
    none_some e = absurd cc
entries_fit r segment true token is t got =
    let same : fresh_token r segment ≡ t = same_some (fresh_token r segment) t (sym is ∙ got) in
    ap (λ (u : Token). length u.pages) (sym same)
    ∙ length-map (counting 0 r.geometry.pages) (λ page. new_entry (page_of r segment page).text) ∙ length_counting 0 r.geometry.pages

pub short_of : (g : Geometry) (here : Here) → AreOfSegments g here.slots.items → here.spare.bytes.items ≡ [] → AreShort here
short_of g here slots spare zero = (let none : length here.spare.bytes.items ≡ 0 = ap length spare in omega (arith, none))
short_of g here slots spare (suc k) = at (slice_get here.slots.items k) refl
  where
    at : (o : Option SegmentCopy) → slice_get here.slots.items k ≡ o → length (image_at here.spare o).bytes.items ≤ 262144
    at None got = (let none : length here.spare.bytes.items ≡ 0 = ap length spare in omega (arith, none))
    at (Some slot) got = (let len = (slots k slot got).len in let few = g.few_pages in omega (arith, len, few))

pub in_place_of : (g : Geometry) (here : Here) → AreOfSegments g here.slots.items → AreInPlace (besides_of here)
in_place_of g here slots k b got = at (slice_get here.slots.items k) refl
  where
    at : (o : Option SegmentCopy) → slice_get here.slots.items k ≡ o → (b.0.segment ≡ k + 1) × (b.1.segment ≡ k + 1) × (b.1.due ≡ [])
    at None is = absurd (none_some (sym (slice_get-map beside here.slots.items k ∙ ap (option_map beside) is) ∙ got))
      where
        none_some : None ≡ Some b → ⊥
        none_some e = absurd cc
    at (Some slot) is =
        let same : beside slot ≡ b = same_some (beside slot) b (sym (get-map beside here.slots.items k slot is) ∙ got) in
        let its = slots k slot is in
        subst (λ (c : Besides). (c.0.segment ≡ k + 1) × (c.1.segment ≡ k + 1) × (c.1.due ≡ [])) same (its.token, its.parts, its.none_due)

pub runs_free : (here : Here) (n : ℕ) (seats : List Seat) → seats ≡ replicate n Free → AllRun here seats
runs_free here n seats is = subst (AllRun here) (sym is) (nobody_runs here n)
