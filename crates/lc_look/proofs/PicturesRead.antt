-- What is drawn of areas that were read, and how they are left.
use Rattle.std.proofs.Common.{◌≡◌, ◌⊎◌, ℕ, suc, ◌+◌, ◌*◌, ◌≤◌, ◌<◌, true, Option, Some, List, [], ◌∷◌, ◌++◌, map, length, take, get_or, refl, sym, ◌∙◌, ap, ap₂, subst, arith, inl, inr}
use Rattle.std.specs.Prelude.{slice_get, slice_set}
use Rattle.std.specs.Io.KnownBytes.{Appends}
use Rattle.std.proofs.lemmas.Bool.{cases_lt}
use Rattle.std.proofs.lemmas.List.{length-append, length-map, length-set, take_more}
use Rattle.std.proofs.lemmas.Option.{slice_get_within, slice_get-get_or, get_or_from_slice_get, same_Some as one_item}
use Rattle.lc_disk.specs.declared.area.Area.{Ghosts}
use Rattle.lc_record.specs.declared.geometry.Geometry.{Geometry}
use Rattle.lc_record.proofs.ListLemmas.{slice_get_some as get-some, slice_get-map_some as get-map}
use Rattle.lc_model.specs.Merge.{StoreText}
use Rattle.lc_look.specs.Picture.{picture_text}
use Rattle.lc_look.specs.declared.store_picture.StorePicture.{StorePicture}
use Rattle.lc_recover.specs.Fault.{IsRefusal}
use Rattle.lc_recover.specs.Forecast.{Foretold, IsForecast, sequence_of}
use Rattle.lc_recover.specs.Reads.{area_len, AreHonest, AreLeftAs, HaveLengths, IsLeftAs, store_of}
use Rattle.lc_recover.specs.declared.fault.RecoverFault.{RecoverFault}
use Rattle.lc_recover.specs.declared.fault.RecoverFault.TheVariants.{BadGeometry, Gap, Twice, OutOfSegment, DeviceFault, NoMemory}
use Rattle.lc_recover.proofs.AreaLemmas.{get-pushed, get-set}
use Rattle.lc_recover.proofs.Images.{len-log, len-segment}
use Rattle.lc_look.specs.Draws.{AreBarsOf, AreEach, AreFieldsOf, DrawsAreas, FindsPicture, HaveBytes, IsPictureOf, ShowsPicture}
use Rattle.lc_look.specs.Dumps.{StopsAt, StopsDump}
use Rattle.lc_look.specs.Printed.{Stops}
use Rattle.lc_look.specs.Recovers.{stop_status, stop_text}
use Rattle.lc_look.specs.Refused.{IsFirstWrong}

-- Lists

module _ {A : Type 0} (Such : ℕ → A → Type 0) where
  -- one more stands after them
  pub each-more : (n : ℕ) (items : List A) (item : A) → AreEach Such n items → Such n item → AreEach Such (n + 1) (items ++ item ∷ [])
  each-more n items item are such = record {
    all = omega (arith, length-append items (item ∷ []), are.all);
    each = λ place x is.
        elim (get-pushed items item place x is) [
          | inl before ↦ are.each place x before
          | inr here ↦ subst (λ (k : ℕ). Such k x) (sym (here.0 ∙ are.all)) (subst (λ (y : A). Such n y) (sym here.1) such)
        ];
  }

pub take-pushed : {B : Type 0} (ys zs : List B) (y : B) (k : ℕ) → ys ≡ take k zs → slice_get zs k ≡ Some y → ys ++ y ∷ [] ≡ take (k + 1) zs
take-pushed ys zs y k same is =
    ap₂ (λ (l : List _) z. l ++ z ∷ []) same (sym (get_or_from_slice_get zs k y y is)) ∙ sym (take_more zs k y (slice_get_within zs k y is))

-- what is the same of each item is the same of all
pub same-map : {A B : Type 0} (f : A → B) (olds news : List A) → length news ≡ length olds
    → ((k : ℕ) (old new : A) → slice_get olds k ≡ Some old → slice_get news k ≡ Some new → f new ≡ f old) → map f news ≡ map f olds
same-map f [] [] count each = refl
same-map f [] (new ∷ news) count each = absurd (omega (arith, count))
same-map f (old ∷ olds) [] count each = absurd (omega (arith, count))
same-map f (old ∷ olds) (new ∷ news) count each =
    ap₂ (λ x (l : List _). x ∷ l) (each 0 old new refl refl) (same-map f olds news (omega (arith, count)) (λ k o n was is. each (suc k) o n was is))

-- Areas

module _ (g : Geometry) (areas : List (List ℕ)) (bytes : HaveBytes g areas) where
  -- each area of a store has so many bytes
  area-there : (area len : ℕ) → area_len g area ≡ Some len → (area < length areas) × (length (get_or areas area []) ≡ len)
  area-there area len is =
      let there : slice_get (map (λ (l : List ℕ). length l) areas) area ≡ Some len = bytes area ∙ is in
      let within : area < length areas = omega (arith, slice_get_within (map (λ (l : List ℕ). length l) areas) area len there, length-map areas (λ (l : List ℕ). length l)) in
      (within, one_item (length (get_or areas area [])) len (sym (get-map (λ (l : List ℕ). length l) areas area (get_or areas area []) (slice_get-get_or areas area [] within)) ∙ there))

  pub segment-there : (place : ℕ) → place < g.segments → (g.nodes + place < length areas) × (length (get_or areas (g.nodes + place) []) ≡ 2 * 272 * g.pages)
  segment-there place within = area-there (g.nodes + place) (2 * 272 * g.pages) (len-segment g (g.nodes + place) (omega arith) (omega (arith, within)))

  -- there is one for each log
  pub logs-there : g.nodes ≤ length areas
  logs-there =
      elim (cases_lt (length areas) g.nodes) [
        | inl fewer ↦ absurd (omega (arith, (area-there (length areas) (8 * (g.words + 1)) (len-log g (length areas) fewer)).0))
        | inr not_fewer ↦ omega (arith, not_fewer)
      ]

module _ {D : Type 0} (a : Ghosts D) where
  -- after others one more was read
  pub left-more : (olds mids : List D) (k : ℕ) (was is : D) → AreLeftAs a olds mids → slice_get mids k ≡ Some was → IsLeftAs a was is → AreLeftAs a olds (slice_set mids k is)
  left-more olds mids k was is left there own = record {
    count = length-set mids k is ∙ left.count;
    each = λ j before after stood stands.
        elim (get-set mids k is j after stands) [
          | inl here ↦
              let first = left.each k before was (ap (slice_get olds) (sym here.0) ∙ stood) there in
              subst (λ (x : D). IsLeftAs a before x) (sym here.1) (record {
                honest = own.honest ∙ first.honest;
                len = own.len ∙ first.len;
                same = λ honest. own.same (first.honest ∙ honest) ∙ first.same honest;
                same_dirty = λ honest at. own.same_dirty (first.honest ∙ honest) at ∙ first.same_dirty honest at;
              })
          | inr other ↦ left.each j before after stood other.1
        ];
  }

  module _ (olds mids : List D) (k : ℕ) (default new : D) (left : AreLeftAs a olds mids) (within : k < length mids) (own : IsLeftAs a (get_or mids k default) new) where
    abbrev was : D
    was = get_or mids k default

    there : slice_get mids k ≡ Some was
    there = slice_get-get_or mids k default within

    pub left-read : AreLeftAs a olds (slice_set mids k new)
    left-read = left-more olds mids k was new left there own

    old-there : (old : D) × (slice_get olds k ≡ Some old) × IsLeftAs a old was
    old-there =
        let old = get-some olds k (omega (arith, within, left.count)) in
        (old.0, old.1, left.each k old.0 was old.1 there)

    -- with its length, and while they are honest its bytes
    pub length-read : (lens bytes : List ℕ) → lens ≡ take k (map (λ d. length (a.now d)) olds) → length bytes ≡ length (a.now was) → lens ++ length bytes ∷ [] ≡ take (k + 1) (map (λ d. length (a.now d)) olds)
    length-read lens bytes same long =
        let old = old-there in
        take-pushed lens (map (λ d. length (a.now d)) olds) (length bytes) k same (get-map (λ d. length (a.now d)) olds k old.0 old.1 ∙ ap Some (sym (long ∙ old.2.len)))

    pub bytes-read : (all : List (List ℕ)) (bytes : List ℕ) → (AreHonest a olds → all ≡ take k (map a.now olds)) → (a.honest was ≡ true → bytes ≡ a.now was) → AreHonest a olds → all ++ bytes ∷ [] ≡ take (k + 1) (map a.now olds)
    bytes-read all bytes same its honest =
        let old = old-there in
        let is = honest k old.0 old.1 in
        take-pushed all (map a.now olds) bytes k (same honest) (get-map a.now olds k old.0 old.1 ∙ ap Some (sym (its (old.2.honest ∙ is) ∙ old.2.same is)))

  -- they are as long as they were
  pub left-lengths : (olds news : List D) → AreLeftAs a olds news → map (λ d. length (a.now d)) news ≡ map (λ d. length (a.now d)) olds
  left-lengths olds news left = same-map (λ d. length (a.now d)) olds news left.count (λ k old new was is. (left.each k old new was is).len)

  -- the bytes of each have its length
  pub bytes-have : (g : Geometry) (olds mids : List D) (all : List (List ℕ)) → HaveLengths a g olds → AreLeftAs a olds mids
      → map (λ (bytes : List ℕ). length bytes) all ≡ map (λ d. length (a.now d)) mids → HaveBytes g all
  bytes-have g olds mids all lengths left same area = ap (λ (l : List ℕ). slice_get l area) (same ∙ left-lengths olds mids left) ∙ lengths area

  module _ (g : Geometry) (areas : List D) where
    -- where the areas have their lengths none is the first that has not
    pub none-wrong : {P : Type 0} (area : ℕ) → HaveLengths a g areas → IsFirstWrong a g areas area → P
    none-wrong area lengths wrong = absurd (wrong.is (lengths area))

    -- of areas that have their lengths, the device or memory
    pub stops-outward : (fault : RecoverFault) → HaveLengths a g areas → (fault ≡ NoMemory) ⊎ (fault ≡ DeviceFault) → StopsAt a g areas fault
    stops-outward fault lengths outward = record {
      wrong = λ area wrong. none-wrong area lengths wrong;
      refused = λ long honest works.
          elim outward [
            | inl memory ↦ subst (λ (f : RecoverFault). IsRefusal (store_of g (map a.now areas)) f) (sym memory) tt
            | inr device ↦ absurd (works device)
          ];
    }

-- the line of a fault is that of the device, or of the refusal of the merge
pub stops-draw : (store : StoreText) (fault : RecoverFault) → ((fault ≡ DeviceFault → ⊥) → IsRefusal store fault)
    → Stops (stop_text fault) (stop_status fault) ⊎ StopsDump store (stop_text fault) (stop_status fault)
stops-draw store (BadGeometry area) refused = inr (BadGeometry area, refused (λ is. absurd cc), refl, refl)
stops-draw store (Gap segment seq) refused = inr (Gap segment seq, refused (λ is. absurd cc), refl, refl)
stops-draw store (Twice segment seq) refused = inr (Twice segment seq, refused (λ is. absurd cc), refl, refl)
stops-draw store (OutOfSegment area) refused = inr (OutOfSegment area, refused (λ is. absurd cc), refl, refl)
stops-draw store DeviceFault refused = inl (inl (refl, refl))
stops-draw store NoMemory refused = inr (NoMemory, tt, refl, refl)

module _ {D : Type 0} (a : Ghosts D) (g : Geometry) (areas : List D) (held holds : Option (List ℕ)) (fault : RecoverFault) (stops : StopsAt a g areas fault) (shown : Appends held holds (stop_text fault)) where
  pub stopped-draw : DrawsAreas a g areas held holds (stop_status fault)
  stopped-draw lengths honest =
      elim (stops-draw (store_of g (map a.now areas)) fault (stops.refused lengths honest)) [
        | inl outward ↦ (stop_text fault, inl outward, shown)
        | inr refused ↦ (stop_text fault, inr (inr refused), shown)
      ]

-- Pictures

-- the numbers of a forecast are those of the merge
pub forecast-picture : (f : Foretold) (areas : List (List ℕ)) (picture : StorePicture) → IsForecast f → picture.geometry ≡ f.geometry
    → AreBarsOf f.geometry.nodes areas picture.bars.items → AreFieldsOf f.geometry f.store areas (sequence_of f) picture.fields.items → IsPictureOf f.geometry f.store areas picture
forecast-picture f areas picture merged same bars fields = record {
  geometry = same;
  content = merged.content;
  numbers = merged.numbers;
  merges = merged.merges;
  bars = bars;
  fields = record {
    all = fields.all;
    each = λ place field is.
        let of = fields.each place field is in
        let within : place < f.geometry.segments = omega (arith, slice_get_within picture.fields.items place field is, fields.all) in
        record {
          of = of.of;
          sequence = of.sequence ∙ merged.sequences (place + 1) (omega arith) (omega (arith, within));
          cells = of.cells;
        };
  };
}

-- of what honest areas read as
pub honest-picture : {D : Type 0} (a : Ghosts D) (g : Geometry) (areas : List D) (picture : StorePicture) → FindsPicture a g areas picture → AreHonest a areas
    → ShowsPicture g (store_of g (map a.now areas)) (map a.now areas) (picture_text picture) 0
honest-picture a g areas picture found honest =
    let same = found.same honest in
    let of : IsPictureOf g (store_of g (map a.now areas)) (map a.now areas) picture =
    subst (λ (l : List (List ℕ)). IsPictureOf g (store_of g (map a.now areas)) l picture) same.0 (subst (λ (s : StoreText). IsPictureOf g s found.bytes picture) same.1 found.of) in
    (picture, of, refl, refl)
