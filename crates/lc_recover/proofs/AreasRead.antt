-- One more area is read, of areas of which nothing else is known.
use Rattle.std.proofs.Common.{◌≡◌, ℕ, zero, suc, ◌+◌, ◌*◌, ◌<◌, ◌≤◌, true, Some, List, [], ◌∷◌, ◌++◌, map, length, get_or, take, refl, sym, ◌∙◌, ap, subst, arith, inl, inr}
use Rattle.std.specs.Prelude.{slice_get, slice_set}
use Rattle.std.proofs.lemmas.Bool.{cases_eq}
use Rattle.std.proofs.lemmas.List.{length-append, length-map, length-set, length-take-le, take_all}
use Rattle.std.proofs.lemmas.Option.{none-some, same_Some, slice_get_within, get_or_from_slice_get}
use Rattle.lc_disk.specs.declared.area.Area.{Ghosts}
use Rattle.lc_record.specs.Words.{words_of}
use Rattle.lc_record.specs.declared.geometry.Geometry.{Geometry}
use Rattle.lc_record.proofs.ListLemmas.{slice_get_some as get-some, slice_get-map_some as get-map, slice_get-take as get-take}
use Rattle.lc_recover.proofs.AreaLemmas.{each-set, get-set, quiet-reads, set-get, set-others}
use Rattle.lc_log.proofs.WalkBackLemmas.{words_within}
use Rattle.lc_model.specs.Merge.{StoreText}
use Rattle.lc_recover.proofs.Images.{len-log}
use Rattle.lc_recover.proofs.Meanings.{kept-store}
use Rattle.lc_recover.proofs.MergeStep.{its-store}
use Rattle.lc_recover.proofs.ReadLemmas.{count-read, counted-log, counted-none, counted-segment, first-more, read-log, read-segment, read-none as kept-none}
use Rattle.lc_recover.specs.StoreContents.{IsKept}
use Rattle.lc_recover.specs.Reading.{store_of as kept_store}
use Rattle.lc_recover.specs.KeptAreas.{AddsLog, AddsSegment, IsReadOf, IsReadWhole, read_count}
use Rattle.lc_recover.specs.Reads.{area_count, area_len, AreHonest, AreLeftAs, IsLeftAs, store_of}
use Rattle.lc_recover.specs.RecoveryPhase.{AreasFit, Quiet}
use Rattle.lc_recover.specs.declared.read_areas.ReadAreas.{ReadAreas}
use Rattle.lc_recover.specs.declared.segment_pages.SegmentPages.{SegmentPages}
use Rattle.lc_recover.specs.declared.recovery_phase.RecoveryPhase.TheVariants.{Syncing}

take-next : {A : Type 0} (xs : List A) (k : ℕ) (x : A) → slice_get xs k ≡ Some x → take (suc k) xs ≡ take k xs ++ x ∷ []
take-next [] k x is = absurd (none-some x is)
take-next (y ∷ ys) zero x is = ap (λ z. z ∷ []) (same_Some y x is)
take-next (y ∷ ys) (suc k) x is = ap (λ zs. y ∷ zs) (take-next ys k x is)

module _ {D : Type 0} (a : Ghosts D) (g : Geometry) (areas : List D) where
  -- nothing is read
  pub read-none : (r : ReadAreas) → r.kept.logs.items ≡ [] → r.kept.segments.items ≡ [] → r.locks.items ≡ [] → r.numbers.items ≡ [] → IsReadOf a g areas r
  read-none r logs segments locks numbers = record {
    bytes = [];
    first = record { count = omega arith; lengths = λ k bytes is. absurd (none-some bytes is) };
    kept = kept-none g r.kept logs segments;
    counted = counted-none r logs segments locks numbers;
    same = λ honest.
        let zero_read : 0 ≡ read_count r = omega (arith, ap (λ (l : List (List ℕ)). length l) logs, ap (λ (l : List SegmentPages). length l) segments) in
        ap (λ (n : ℕ). take n (map a.now areas)) zero_read;
  }

  -- each area is as honest as it was
  pub still-honest : (k : ℕ) (old is : D) → slice_get areas k ≡ Some old → Quiet a old is → AreHonest a areas → AreHonest a (slice_set areas k is)
  still-honest k old is was quiet honest = each-set (λ j area. a.honest area ≡ true) areas k is (λ j area differ there. honest j area there) (quiet.honest ∙ honest k old was)

  -- each area is left as it was, or is the one that was read
  pub left-set : (k : ℕ) (old is : D) → slice_get areas k ≡ Some old → IsLeftAs a old is → AreLeftAs a areas (slice_set areas k is)
  left-set k old is was left = record {
    count = length-set areas k is;
    each = λ j before after there then.
        elim (get-set areas k is j after then) [
          | inl here ↦
              let its : old ≡ before = same_Some old before (sym was ∙ ap (slice_get areas) (sym here.0) ∙ there) in
              subst (λ (x : D). IsLeftAs a before x) (sym here.1) (subst (λ (x : D). IsLeftAs a x is) its left)
          | inr other ↦
              let its : before ≡ after = same_Some before after (sym there ∙ other.1) in
              subst (λ (x : D). IsLeftAs a before x) its (record { honest = refl; len = refl; same = λ honest. refl; same_dirty = λ honest at. refl })
        ];
  }

  -- none is called
  pub left-none : AreLeftAs a areas areas
  left-none = record {
    count = refl;
    each = λ k before after there then.
        let its : before ≡ after = same_Some before after (sym there ∙ then) in
        subst (λ (x : D). IsLeftAs a before x) its (record { honest = refl; len = refl; same = λ honest. refl; same_dirty = λ honest at. refl });
  }

  -- one call after another
  pub left-both : (mids news : List D) → AreLeftAs a areas mids → AreLeftAs a mids news → AreLeftAs a areas news
  left-both mids news one two = record {
    count = two.count ∙ one.count;
    each = λ k before after there then.
        let mid = get-some mids k (omega (arith, slice_get_within areas k before there, one.count)) in
        let first = one.each k before mid.0 there mid.1 in
        let second = two.each k mid.0 after mid.1 then in
        record {
          honest = second.honest ∙ first.honest;
          len = second.len ∙ first.len;
          same = λ honest. second.same (first.honest ∙ honest) ∙ first.same honest;
          same_dirty = λ honest at. second.same_dirty (first.honest ∙ honest) at ∙ first.same_dirty honest at;
        };
  }

  module _ (r new : ReadAreas) (of : IsReadOf a g areas r) (k : ℕ) (here : k ≡ read_count r) (fits : AreasFit a g (Syncing 0) areas)
      (old is : D) (was : slice_get areas k ≡ Some old) (quiet : Quiet a old is) where
    counted : k ≡ length of.bytes
    counted = here ∙ count-read g of.bytes r of.kept

    within : k < area_count g
    within = omega (arith, slice_get_within areas k old was, fits.count)

    long : (bytes : List ℕ) → length bytes ≡ length (a.now old) → Some (length bytes) ≡ area_len g (length of.bytes)
    long bytes same = ap Some same ∙ (fits.each k old was).len ∙ ap (area_len g) counted

    were_honest : AreHonest a (slice_set areas k is) → AreHonest a areas
    were_honest honest j area there =
        elim (cases_eq j k) [
          | inl same ↦
              let its : area ≡ old = same_Some area old (sym there ∙ ap (slice_get areas) same ∙ was) in
              ap a.honest its ∙ sym quiet.honest ∙ honest k is (set-get areas k is old was)
          | inr differ ↦ honest j area (set-others areas k is j area differ there)
        ]

    same : (bytes : List ℕ) → (a.honest old ≡ true → bytes ≡ a.now old) → (count : ℕ) → count ≡ suc k → AreHonest a (slice_set areas k is) → of.bytes ++ bytes ∷ [] ≡ take count (map a.now (slice_set areas k is))
    same bytes its count next honest =
        let were : AreHonest a areas = were_honest honest in
        ap (λ (b : List ℕ). of.bytes ++ b ∷ []) (its (were k old was))
        ∙ ap (λ (l : List (List ℕ)). l ++ a.now old ∷ []) (of.same were ∙ ap (λ (n : ℕ). take n (map a.now areas)) (sym here))
        ∙ sym (take-next (map a.now areas) k (a.now old) (get-map a.now areas k old was))
        ∙ ap (λ (n : ℕ). take n (map a.now areas)) (sym next)
        ∙ ap (take count) (sym (quiet-reads a g areas k old is was quiet were))

    pub log-more : k < g.nodes → AddsLog a old r new → IsReadOf a g (slice_set areas k is) new
    log-more log adds =
        let count : read_count new ≡ suc k =
        omega (arith, ap (λ (l : List (List ℕ)). length l) adds.logs, length-append r.kept.logs.items (words_of adds.bytes ∷ []), ap (λ (l : List SegmentPages). length l) adds.segments, here) in
        record {
          bytes = of.bytes ++ adds.bytes ∷ [];
          first = first-more g of.bytes adds.bytes (omega (arith, within, counted)) (long adds.bytes adds.of_area.long) of.first;
          kept = read-log g of.bytes adds.bytes r.kept new.kept (omega (arith, log, counted)) adds.logs adds.segments of.kept;
          counted = counted-log r new (words_of adds.bytes) adds.logs adds.segments adds.locks adds.numbers of.counted;
          same = same adds.bytes adds.of_area.same (read_count new) count;
        }

    pub segment-more : g.nodes ≤ k → AddsSegment a g.pages old r new → IsReadOf a g (slice_set areas k is) new
    segment-more segment adds =
        let count : read_count new ≡ suc k =
        omega (arith, ap (λ (l : List SegmentPages). length l) adds.segments, length-append r.kept.segments.items (adds.pages ∷ []), ap (λ (l : List (List ℕ)). length l) adds.logs, here) in
        record {
          bytes = of.bytes ++ adds.bytes ∷ [];
          first = first-more g of.bytes adds.bytes (omega (arith, within, counted)) (long adds.bytes adds.of_area.long) of.first;
          kept = read-segment g of.bytes adds.bytes adds.pages r.kept new.kept (omega (arith, segment, counted)) adds.kept adds.logs adds.segments of.kept;
          counted = counted-segment r new adds.pages adds.logs adds.segments adds.locks adds.numbers of.counted;
          same = same adds.bytes adds.of_area.same (read_count new) count;
        }

  -- all are read
  pub read-whole : (r : ReadAreas) (of : IsReadOf a g areas r) → length areas ≡ area_count g → read_count r ≡ length areas → IsReadWhole g of.bytes r
  read-whole r of count all = record {
    count = sym (count-read g of.bytes r of.kept) ∙ all ∙ count;
    first = of.first;
    kept = of.kept;
  }

  pub read-same : (r : ReadAreas) (of : IsReadOf a g areas r) → read_count r ≡ length areas → AreHonest a areas → of.bytes ≡ map a.now areas
  read-same r of all honest = of.same honest ∙ take_all (read_count r) (map a.now areas) (omega (arith, all, length-map areas a.now))

module _ (g : Geometry) (bytes : List (List ℕ)) (r : ReadAreas) (whole : IsReadWhole g bytes r) where
  -- what is kept is the store that they read as
  pub same-store : kept_store r.kept.logs.items r.kept.segments.items ≡ store_of g bytes
  same-store = kept-store r.kept.logs.items r.kept.segments.items (store_of g bytes) (its-store g bytes r whole)

  pub own-store : IsKept r.kept.logs.items r.kept.segments.items (kept_store r.kept.logs.items r.kept.segments.items)
  own-store = subst (λ (s : StoreText). IsKept r.kept.logs.items r.kept.segments.items s) (sym same-store) (its-store g bytes r whole)

  -- a log is short
  pub short-log : (node : ℕ) (default : List ℕ) → node < g.nodes → length (get_or r.kept.logs.items node default) ≤ 4097
  short-log node default less =
      let few : length (take g.nodes bytes) ≡ g.nodes = length-take-le g.nodes bytes (omega (arith, whole.count)) in
      let here = get-some (take g.nodes bytes) node (omega (arith, less, few)) in
      let there : slice_get bytes node ≡ Some here.0 = sym (get-take g.nodes node bytes less) ∙ here.1 in
      let words : get_or r.kept.logs.items node default ≡ words_of here.0 =
      get_or_from_slice_get r.kept.logs.items node (words_of here.0) default (ap (λ (l : List (List ℕ)). slice_get l node) whole.kept.logs ∙ get-map words_of (take g.nodes bytes) node here.0 here.1) in
      let long : length here.0 ≡ 8 * (g.words + 1) = same_Some (length here.0) (8 * (g.words + 1)) (whole.first.lengths node here.0 there ∙ len-log g node less) in
      omega (arith, ap (λ (l : List ℕ). length l) words, words_within here.0, long, g.few_words)
