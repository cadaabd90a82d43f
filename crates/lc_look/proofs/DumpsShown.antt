-- What a dump reads and writes.
use Rattle.std.proofs.Common.{◌≡◌, ◌⊎◌, ℕ, ◌+◌, ◌-◌, ◌*◌, ◌<◌, ◌≤◌, Option, Some, List, [], ◌∷◌, ◌++◌, codes, flat_map, map, take, get_or, length, refl, sym, ◌∙◌, ap, subst, arith, inl, inr}
use Rattle.std.specs.Prelude.{slice_get, slice_index_or, slice_set}
use Rattle.std.specs.Io.KnownBytes.{Appends}
use Rattle.std.proofs.KnownBytes.{Appends-trans}
use Rattle.lc_text.proofs.Writes.{same_bytes}
use Rattle.lc_text.specs.Text.{hex_text}
use Rattle.std.proofs.lemmas.Bool.{cases_lt}
use Rattle.std.proofs.lemmas.List.{flat_map_more, length-map, length-set, take_more}
use Rattle.std.proofs.lemmas.Option.{slice_get_past, slice_get_within, same_Some as one_item}
use Rattle.lc_disk.specs.declared.area.Area.{Ghosts}
use Rattle.lc_record.specs.declared.geometry.Geometry.{Geometry}
use Rattle.lc_record.proofs.ListLemmas.{slice_get_some as get-some, slice_get-map_some as get-map}
use Rattle.lc_recover.proofs.AreaLemmas.{get-set}
use Rattle.lc_recover.proofs.Images.{count-areas, len-segment}
use Rattle.lc_recover.specs.Reads.{AreHonest, AreLeftAs, IsLeftAs, HaveLengths, store_of}
use Rattle.lc_recover.specs.declared.fault.RecoverFault.{RecoverFault}
use Rattle.lc_recover.specs.declared.fault.RecoverFault.TheVariants.{BadGeometry, Gap, Twice, OutOfSegment, DeviceFault, NoMemory}
use Rattle.lc_look.specs.Dumps.{HasThePage, ShowsPage, StopsAt, StopsDump, spaced}
use Rattle.lc_look.specs.Printed.{Stops}
use Rattle.lc_look.specs.Recovers.{stop_status, stop_text}

module _ {D : Type 0} (a : Ghosts D) (olds : List D) where
  same : (area : D) → IsLeftAs a area area
  same area = record { honest = refl; len = refl; same = λ honest. refl; same_dirty = λ honest at. refl }

  -- one of them was read
  pub left-one : (k : ℕ) (old is : D) → slice_get olds k ≡ Some old → IsLeftAs a old is → AreLeftAs a olds (slice_set olds k is)
  left-one k old is was left = record {
    count = length-set olds k is;
    each = λ j before after there then.
        elim (get-set olds k is j after then) [
          | inl here ↦
              let its : old ≡ before = one_item old before (sym was ∙ ap (slice_get olds) (sym here.0) ∙ there) in
              subst (λ (x : D). IsLeftAs a before x) (sym here.1) (subst (λ (x : D). IsLeftAs a x is) its left)
          | inr other ↦ subst (λ (x : D). IsLeftAs a before x) (one_item before after (sym there ∙ other.1)) (same before)
        ];
  }

  -- one call after another
  pub left-then : (mids news : List D) → AreLeftAs a olds mids → AreLeftAs a mids news → AreLeftAs a olds news
  left-then mids news one two = record {
    count = two.count ∙ one.count;
    each = λ k before after there then.
        let mid = get-some mids k (omega (arith, slice_get_within olds k before there, one.count)) in
        let first = one.each k before mid.0 there mid.1 in
        let second = two.each k mid.0 after mid.1 then in
        record {
          honest = second.honest ∙ first.honest;
          len = second.len ∙ first.len;
          same = λ honest. second.same (first.honest ∙ honest) ∙ first.same honest;
          same_dirty = λ honest at. second.same_dirty (first.honest ∙ honest) at ∙ first.same_dirty honest at;
        };
  }

  -- each is as long as before
  pub left-lengths : (g : Geometry) (news : List D) → AreLeftAs a olds news → HaveLengths a g olds → HaveLengths a g news
  left-lengths g news left lengths k =
      let len : D → ℕ = λ d. length (a.now d) in
      elim (cases_lt k (length olds)) [
        | inl within ↦
            let old = get-some olds k within in
            let new = get-some news k (omega (arith, within, left.count)) in
            get-map len news k new.0 new.1 ∙ ap Some (left.each k old.0 new.0 old.1 new.1).len ∙ sym (get-map len olds k old.0 old.1) ∙ lengths k
        | inr past ↦
            slice_get_past (map len news) k (omega (arith, past, left.count, length-map news len))
            ∙ sym (slice_get_past (map len olds) k (omega (arith, past, length-map olds len))) ∙ lengths k
      ]

  module _ (g : Geometry) (lengths : HaveLengths a g olds) (segment page : ℕ) (has : HasThePage g segment page) where
    pub place-within : g.nodes + segment - 1 < length olds
    place-within = omega (arith, has.0, has.1, count-areas a g olds lengths)

    pub page-room : (d : D) → slice_get olds (g.nodes + segment - 1) ≡ Some d → page * 544 + 544 ≤ length (a.now d)
    page-room d is =
        let long : length (a.now d) ≡ 2 * 272 * g.pages =
        one_item (length (a.now d)) (2 * 272 * g.pages)
        (sym (get-map (λ e. length (a.now e)) olds (g.nodes + segment - 1) d is) ∙ lengths (g.nodes + segment - 1)
        ∙ len-segment g (g.nodes + segment - 1) (omega (arith, has.0)) (omega (arith, has.0, has.1))) in
        omega (arith, long, has.2)

-- one byte more, after a space
pub spaced-more : (front bytes : List ℕ) (i : ℕ) (o m k p : Option (List ℕ)) → i < length bytes → Appends o m (front ++ flat_map spaced (take i bytes)) → Appends m k (codes " ")
    → Appends k p (hex_text (get_or bytes i 0 ∷ [])) → Appends o p (front ++ flat_map spaced (take (i + 1) bytes))
unfolding hex_text
spaced-more front bytes i o m k p less before space digits =
    same_bytes o p _ _ (flat_map_more spaced front (take i bytes) (get_or bytes i 0) ∙ ap (λ (l : List ℕ). front ++ flat_map spaced l) (sym (take_more bytes i 0 less)))
    (Appends-trans o m p _ _ before (Appends-trans m k p _ _ space digits))

module _ {D : Type 0} (a : Ghosts D) (g : Geometry) (areas : List D) (segment page : ℕ) where
  -- why there is no page
  pub stopped-dump : (fault : RecoverFault) (status : ℕ) → status ≡ stop_status fault → StopsAt a g areas fault → HaveLengths a g areas → AreHonest a areas
      → Stops (stop_text fault) status
      ⊎ (ShowsPage (store_of g (map a.now areas)) (slice_index_or (map a.now areas) (g.nodes + segment - 1) []) segment page (stop_text fault) status
      ⊎ StopsDump (store_of g (map a.now areas)) (stop_text fault) status)
  stopped-dump DeviceFault status is stops lengths honest = inl (inl (refl, is))
  stopped-dump (BadGeometry area) status is stops lengths honest = inr (inr (BadGeometry area, stops.refused lengths honest (λ e. cc), refl, is))
  stopped-dump (Gap segment seq) status is stops lengths honest = inr (inr (Gap segment seq, stops.refused lengths honest (λ e. cc), refl, is))
  stopped-dump (Twice segment seq) status is stops lengths honest = inr (inr (Twice segment seq, stops.refused lengths honest (λ e. cc), refl, is))
  stopped-dump (OutOfSegment area) status is stops lengths honest = inr (inr (OutOfSegment area, stops.refused lengths honest (λ e. cc), refl, is))
  stopped-dump NoMemory status is stops lengths honest = inr (inr (NoMemory, stops.refused lengths honest (λ e. cc), refl, is))
