-- The records that a log's words begin with, as a walk over them finds them.
use Rattle.std.proofs.Common.{◌≡◌, ℕ, ◌+◌, ◌*◌, ◌≤◌, ◌<◌, List, [], ◌∷◌, map, length, refl, sym, ap, subst, arith}
use Rattle.lc_record.specs.Record.{spelling}
use Rattle.lc_record.specs.Words.{words_of}
use Rattle.lc_record.specs.declared.record.Record.{Record}
use Rattle.lc_log.specs.LogText.{IsLogText, IsWalk, joined, placed}
use Rattle.lc_log.proofs.WalkBackLemmas.{end_within}

-- without their places
records_placed : (place : ℕ) (records : List Record) → map (λ (x : ℕ × Record). x.1) (placed place records) ≡ records
records_placed place [] = refl
records_placed place (r ∷ rs) = ap (λ (l : List Record). r ∷ l) (records_placed (place + length (spelling r)) rs)

pub walk_of : (words : List ℕ) (records : List Record) (end : ℕ) → IsLogText words records → end ≡ length (joined records) → IsWalk words (placed 0 records) end
walk_of words records end text is =
    let same : records ≡ map (λ (x : ℕ × Record). x.1) (placed 0 records) = sym (records_placed 0 records) in
    record {
      text = subst (λ (rs : List Record). IsLogText words rs) same text;
      places = ap (placed 0) same;
      behind = subst (λ (rs : List Record). end ≡ length (joined rs)) same is;
    }

-- where a record ends there is a whole word
pub some_word : (bytes : List ℕ) (records : List Record) (end : ℕ) → IsLogText (words_of bytes) records → end ≡ length (joined records) → 0 < end → 8 ≤ length bytes
some_word bytes records end text is some =
    let within : 8 * end ≤ length bytes = end_within bytes end (placed 0 records) (walk_of (words_of bytes) records end text is) in
    omega (arith, within, some)
