-- One more area is read.
use Rattle.std.proofs.Common.{◌≡◌, ℕ, ◌-◌, ◌<◌, ◌≤◌, true, Some, List, [], ◌∷◌, ◌++◌, length, take, sym, ◌∙◌, ap, subst, arith, inl, inr}
use Rattle.std.specs.Prelude.{slice_get, slice_set}
use Rattle.std.proofs.lemmas.List.{length-map, length-drop, take_all}
use Rattle.std.proofs.lemmas.Option.{slice_get_within}
use Rattle.lc_disk.specs.declared.area.Area.{Ghosts}
use Rattle.lc_record.specs.Words.{words_of}
use Rattle.lc_record.specs.declared.geometry.Geometry.{Geometry}
use Rattle.lc_recover.proofs.AreaLemmas.{fits-set, get-pushed, quiet-bytes}
use Rattle.lc_recover.proofs.ReadLemmas.{count-read, counted-log, counted-segment, first-more, read-log, read-segment}
use Rattle.lc_recover.specs.KeptAreas.{AddsLog, AddsSegment, read_count}
use Rattle.lc_recover.specs.Pages.{AreKept}
use Rattle.lc_recover.specs.Reads.{area_count, area_len}
use Rattle.lc_recover.specs.RecoveryPhase.{AreaFits, Fits, HasItsPages, HasItsWords, Quiet}
use Rattle.lc_recover.specs.declared.read_areas.ReadAreas.{ReadAreas}
use Rattle.lc_recover.specs.declared.segment_pages.SegmentPages.{SegmentPages}
use Rattle.lc_recover.specs.declared.recovery_phase.RecoveryPhase.TheVariants.{Reading}

module _ {D : Type 0} (a : Ghosts D) (g : Geometry) (areas : List D) (r new : ReadAreas) (fits : Fits a g (Reading r) areas) (k : ℕ) (here : k ≡ read_count r)
    (old is : D) (was : slice_get areas k ≡ Some old) (quiet : Quiet a old is) where
  within : k < area_count g
  within = omega (arith, slice_get_within areas k old was, fits.0.count)

  counted : k ≡ length fits.1.0
  counted = here ∙ count-read g fits.1.0 r fits.1.2

  was_fit : AreaFits a g (Reading r) k old
  was_fit = fits.0.each k old was

  was_honest : a.honest is ≡ true → a.honest old ≡ true
  was_honest honest = sym quiet.honest ∙ honest

  long : (bytes : List ℕ) → length bytes ≡ length (a.now old) → Some (length bytes) ≡ area_len g (length fits.1.0)
  long bytes same = ap Some same ∙ was_fit.len ∙ ap (area_len g) counted

  pub log-read : k < g.nodes → AddsLog a old r new → Fits a g (Reading new) (slice_set areas k is)
  log-read log adds =
      let logs : length r.kept.logs.items ≡ k =
      ap (λ (l : List (List ℕ)). length l) fits.1.2.logs ∙ length-map (take g.nodes fits.1.0) words_of
      ∙ ap (λ (l : List (List ℕ)). length l) (take_all g.nodes fits.1.0 (omega (arith, log, counted))) ∙ sym counted in
      let split : (j : ℕ) (words : List ℕ) → slice_get new.kept.logs.items j ≡ Some words → slice_get (r.kept.logs.items ++ words_of adds.bytes ∷ []) j ≡ Some words =
      λ j words there. sym (ap (λ (l : List (List ℕ)). slice_get l j) adds.logs) ∙ there in (
        fits-set a g areas k old is was (Reading r) (Reading new) fits.0
            (λ j area differ at f. record {
              len = f.len;
              bytes = f.bytes;
              log = λ honest less. record {
                clean = (f.log honest less).clean;
                words_are = λ words there.
                    elim (get-pushed r.kept.logs.items (words_of adds.bytes) j words (split j words there)) [
                      | inl before ↦ (f.log honest less).words_are words before
                      | inr last ↦ absurd (differ (last.0 ∙ logs))
                    ];
              };
              segment = λ honest more. subst (λ (l : List SegmentPages). HasItsPages a g l (j - g.nodes) area) (sym adds.segments) (f.segment honest more);
            })
            (record {
              len = ap Some quiet.len ∙ was_fit.len;
              bytes = quiet-bytes a g (Reading r) k old is was_fit quiet;
              log = λ honest less. record {
                clean = λ p. quiet.clean (was_honest honest) p ((was_fit.log (was_honest honest) less).clean p);
                words_are = λ words there.
                    elim (get-pushed r.kept.logs.items (words_of adds.bytes) k words (split k words there)) [
                      | inl before ↦ absurd (omega (arith, slice_get_within r.kept.logs.items k words before, logs))
                      | inr last ↦ last.1 ∙ ap words_of (adds.of_area.same (was_honest honest) ∙ sym (quiet.same (was_honest honest)))
                    ];
              };
              segment = λ honest more. absurd (omega (arith, log, more));
            }),
        (
          fits.1.0 ++ adds.bytes ∷ [],
          first-more g fits.1.0 adds.bytes (omega (arith, within, counted)) (long adds.bytes adds.of_area.long) fits.1.1,
          read-log g fits.1.0 adds.bytes r.kept new.kept (omega (arith, log, counted)) adds.logs adds.segments fits.1.2,
          counted-log r new (words_of adds.bytes) adds.logs adds.segments adds.locks adds.numbers fits.1.3,
        ),
      )

  pub segment-read : g.nodes ≤ k → AddsSegment a g.pages old r new → Fits a g (Reading new) (slice_set areas k is)
  segment-read segment adds =
      let segments : length r.kept.segments.items ≡ k - g.nodes = fits.1.2.segments.count ∙ length-drop g.nodes fits.1.0 ∙ ap (λ (n : ℕ). n - g.nodes) (sym counted) in
      let split : (j : ℕ) (pages : SegmentPages) → slice_get new.kept.segments.items j ≡ Some pages → slice_get (r.kept.segments.items ++ adds.pages ∷ []) j ≡ Some pages =
      λ j pages there. sym (ap (λ (l : List SegmentPages). slice_get l j) adds.segments) ∙ there in (
        fits-set a g areas k old is was (Reading r) (Reading new) fits.0
            (λ j area differ at f. record {
              len = f.len;
              bytes = f.bytes;
              log = λ honest less. subst (λ (l : List (List ℕ)). HasItsWords a l j area) (sym adds.logs) (f.log honest less);
              segment = λ honest more. record {
                clean = (f.segment honest more).clean;
                pages_are = λ pages there.
                    elim (get-pushed r.kept.segments.items adds.pages (j - g.nodes) pages (split (j - g.nodes) pages there)) [
                      | inl before ↦ (f.segment honest more).pages_are pages before
                      | inr last ↦ absurd (differ (omega (arith, last.0, segments, segment, more)))
                    ];
              };
            })
            (record {
              len = ap Some quiet.len ∙ was_fit.len;
              bytes = quiet-bytes a g (Reading r) k old is was_fit quiet;
              log = λ honest less. absurd (omega (arith, segment, less));
              segment = λ honest more. record {
                clean = λ p. quiet.clean (was_honest honest) p ((was_fit.segment (was_honest honest) more).clean p);
                pages_are = λ pages there.
                    elim (get-pushed r.kept.segments.items adds.pages (k - g.nodes) pages (split (k - g.nodes) pages there)) [
                      | inl before ↦ absurd (omega (arith, slice_get_within r.kept.segments.items (k - g.nodes) pages before, segments))
                      | inr last ↦
                          subst (λ (s : SegmentPages). AreKept (a.now is) g.pages s) (sym last.1)
                          (subst (λ (l : List ℕ). AreKept l g.pages adds.pages) (adds.of_area.same (was_honest honest) ∙ sym (quiet.same (was_honest honest))) adds.kept)
                    ];
              };
            }),
        (
          fits.1.0 ++ adds.bytes ∷ [],
          first-more g fits.1.0 adds.bytes (omega (arith, within, counted)) (long adds.bytes adds.of_area.long) fits.1.1,
          read-segment g fits.1.0 adds.bytes adds.pages r.kept new.kept (omega (arith, segment, counted)) adds.kept adds.logs adds.segments fits.1.2,
          counted-segment r new adds.pages adds.logs adds.segments adds.locks adds.numbers fits.1.3,
        ),
      )
