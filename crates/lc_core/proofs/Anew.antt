-- After the merge of honest areas the store fits the machine's first state, with the content that they read as.
use Rattle.std.proofs.Common.{◌≡◌, ℕ, List, Some, false, refl, sym, subst}
use Rattle.std.specs.Prelude.{replicate, slice_get}
use Rattle.lc_disk.specs.declared.area.Area.{Ghosts}
use Rattle.lc_model.specs.Merge.{MergesTo}
use Rattle.lc_model.proofs.Keeps.{sound-first}
use Rattle.lc_recover.specs.Reads.{AllMergeTo, AreHonest, HaveLengths, store_of}
use Rattle.lc_recover.specs.Recovery.{Recovering, IsMerged}
use Rattle.lc_core.specs.Anew.{StartsAnew}
use Rattle.lc_core.specs.declared.world_phase.WorldPhase.TheVariants.{Down}
use Rattle.lc_core.proofs.ImagesFit.{only_images}

module _ {D : Type 0} (a : Ghosts D) where
  pub starts_anew : (new : Recovering D) → AreHonest a new.areas → HaveLengths a new.geometry new.areas → IsMerged a new
      → ((k : ℕ) (area : D) → slice_get new.areas k ≡ Some area → (at : ℕ) → a.dirty area at ≡ false) → StartsAnew a new.geometry new.steps (Down new)
  starts_anew new honest lengths merged clean =
      let all : AllMergeTo a new.geometry new.areas merged.content merged.numbers = λ images are.
      subst (λ (l : List (List ℕ)). MergesTo (store_of new.geometry l) merged.content merged.numbers) (sym (only_images a new.areas images clean are)) merged.merges in
      record {
        content = merged.content;
        numbers = merged.numbers;
        fits = λ x numbers_are steps. record {
          geometry_is = refl;
          cut = replicate new.geometry.nodes 0;
          down = refl;
          sound = sound-first new.geometry;
          lengths = lengths;
          honest = honest;
          merges = subst (λ (n : ℕ → ℕ). AllMergeTo a new.geometry new.areas merged.content n) (sym numbers_are) all;
          steps_are = steps;
        };
      }
