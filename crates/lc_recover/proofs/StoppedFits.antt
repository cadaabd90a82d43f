-- What stands after a step that was not made.
use Rattle.std.proofs.Common.{◌≡◌, ◌⊎◌, ℕ, ◌-◌, ◌<◌, ◌≤◌, List, [], length, None, refl, sym, ◌∙◌, ap, subst, arith, inl, inr}
use Rattle.std.specs.Prelude.{slice_get}
use Rattle.std.proofs.lemmas.Option.{none-some, slice_get_within}
use Rattle.lc_disk.specs.declared.area.Area.{Ghosts}
use Rattle.lc_record.specs.declared.geometry.Geometry.{Geometry}
use Rattle.lc_recover.proofs.ReadLemmas.{counted-none, read-none, same-kept}
use Rattle.lc_recover.specs.KeptAreas.{IsCounted}
use Rattle.lc_recover.specs.RecoveryPhase.{AreasFit, Fits, HasItsPages, HasItsWords}
use Rattle.lc_recover.specs.Steps.{steps_of, pages_in, pages_left, pages_kept, HasNext}
use Rattle.lc_recover.specs.Stopped.{IsStopped}
use Rattle.lc_recover.specs.declared.fault.RecoverFault.{RecoverFault}
use Rattle.lc_recover.specs.declared.fault.RecoverFault.TheVariants.{BadGeometry, Gap, Twice, OutOfSegment, DeviceFault, NoMemory}
use Rattle.lc_recover.specs.declared.read_areas.ReadAreas.{ReadAreas}
use Rattle.lc_recover.specs.declared.segment_pages.SegmentPages.{SegmentPages}
use Rattle.lc_recover.specs.declared.recovery_phase.RecoveryPhase.{RecoveryPhase}
use Rattle.lc_recover.specs.declared.recovery_phase.RecoveryPhase.TheVariants.{Syncing, Reading}
use Rattle.lc_recover.specs.declared.stopped.Stopped.{Stopped}

wants_memory : RecoverFault → ℕ
wants_memory (BadGeometry area) = 0
wants_memory (Gap segment seq) = 0
wants_memory (Twice segment seq) = 0
wants_memory (OutOfSegment area) = 0
wants_memory DeviceFault = 0
wants_memory NoMemory = 1

other : (fault : RecoverFault) → wants_memory fault ≡ 0 → fault ≡ NoMemory → ⊥
unfolding wants_memory
other fault none same =
    let one : wants_memory fault ≡ 1 = ap wants_memory same in
    omega (arith, none, one)

pub is_no_memory : (fault : RecoverFault) → (fault ≡ NoMemory) ⊎ (fault ≡ NoMemory → ⊥)
unfolding wants_memory
is_no_memory (BadGeometry area) = inr (other (BadGeometry area) refl)
is_no_memory (Gap segment seq) = inr (other (Gap segment seq) refl)
is_no_memory (Twice segment seq) = inr (other (Twice segment seq) refl)
is_no_memory (OutOfSegment area) = inr (other (OutOfSegment area) refl)
is_no_memory DeviceFault = inr (other DeviceFault refl)
is_no_memory NoMemory = inl refl

module _ {D : Type 0} (a : Ghosts D) (g : Geometry) where
  -- the first sync is next
  pub first-fits : (areas : List D) → AreasFit a g (Syncing 0) areas → Fits a g (Syncing 0) areas
  first-fits areas fits = (fits, omega (arith, g.some_nodes))

  -- what is known rests on what is kept and counted alone
  pub same-read : (areas : List D) (r other : ReadAreas) → other.kept.logs.items ≡ r.kept.logs.items → other.kept.segments.items ≡ r.kept.segments.items → IsCounted other → Fits a g (Reading r) areas → Fits a g (Reading other) areas
  same-read areas r other logs segments counted fits = (
    record {
      count = fits.0.count;
      each = λ k area is.
          let its = fits.0.each k area is in
          record {
            len = its.len;
            bytes = its.bytes;
            log = λ honest less. subst (λ (items : List (List ℕ)). HasItsWords a items k area) (sym logs) (its.log honest less);
            segment = λ honest more. subst (λ (items : List SegmentPages). HasItsPages a g items (k - g.nodes) area) (sym segments) (its.segment honest more);
          };
    },
    (fits.1.0, fits.1.1, same-kept g fits.1.0 r.kept other.kept logs segments fits.1.2, counted),
  )

  -- all areas are synced, and none is read
  pub synced-fits : (areas : List D) (synced : ℕ) (r : ReadAreas) → r.kept.logs.items ≡ [] → r.kept.segments.items ≡ [] → r.locks.items ≡ [] → r.numbers.items ≡ []
      → length areas ≤ synced → AreasFit a g (Syncing synced) areas → Fits a g (Reading r) areas
  synced-fits areas synced r logs segments locks numbers all fits = (
    record {
      count = fits.count;
      each = λ k area is.
          let its = fits.each k area is in
          let within : k < length areas = slice_get_within areas k area is in
          record {
            len = its.len;
            bytes = its.bytes;
            log = λ honest less. record {
              clean = its.log honest less (omega (arith, within, all));
              words_are = λ words there. absurd (none-some words (sym (ap (λ (l : List (List ℕ)). slice_get l k) logs) ∙ there));
            };
            segment = λ honest more. record {
              clean = its.segment honest more (omega (arith, within, all, more));
              pages_are = λ pages there. absurd (none-some pages (sym (ap (λ (l : List SegmentPages). slice_get l (k - g.nodes)) segments) ∙ there));
            };
          };
    },
    (
      [],
      record { count = omega arith; lengths = λ k bytes is. absurd (none-some bytes is) },
      read-none g r.kept logs segments,
      counted-none r logs segments locks numbers,
    ),
  )

  -- where memory was wanted the recovery stays in a part like the one before
  pub stopped-fits : (olds news : List D) (stage stay : RecoveryPhase) (stopped : Stopped) → AreasFit a g (Syncing 0) news →
      (stopped.fault ≡ NoMemory → (news ≡ olds) × Fits a g stay news) → HasNext g stay → pages_in stay ≡ None → pages_kept stay ≡ [] → pages_left stay ≡ [] → (stopped.fault ≡ NoMemory → steps_of g stay ≡ steps_of g stage) →
      (stopped.fault ≡ NoMemory → stopped.stage ≡ stay) → ((stopped.fault ≡ NoMemory → ⊥) → stopped.stage ≡ Syncing 0) →
      IsStopped a g stage olds news stopped
  stopped-fits olds news stage stay stopped first same next pages none_kept none_left steps kept again =
      elim (is_no_memory stopped.fault) [
        | inl wants ↦
            let is : stopped.stage ≡ stay = kept wants in
            record {
              fits = subst (λ (s : RecoveryPhase). Fits a g s news) (sym is) (same wants).1;
              next = subst (λ (s : RecoveryPhase). HasNext g s) (sym is) next;
              pages = ap pages_in is ∙ pages;
              kept = ap pages_kept is ∙ none_kept;
              left = ap pages_left is ∙ none_left;
              same = λ fault. ((same wants).0, ap (steps_of g) is ∙ steps wants);
              again = λ fault. absurd (fault wants);
            }
        | inr not ↦
            let is : stopped.stage ≡ Syncing 0 = again not in
            record {
              fits = subst (λ (s : RecoveryPhase). Fits a g s news) (sym is) (first-fits news first);
              next = subst (λ (s : RecoveryPhase). HasNext g s) (sym is) tt;
              pages = ap pages_in is;
              kept = ap pages_kept is;
              left = ap pages_left is;
              same = λ fault. absurd (not fault);
              again = λ fault. ap (steps_of g) is;
            }
      ]
