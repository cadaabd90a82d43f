-- Records that are kept from words: what is found of them so far, and of all.
use Rattle.std.proofs.Common.{◌≡◌, ℕ, ◌+◌, true, List, [], ◌∷◌, ◌++◌, map, take, drop, length, refl, sym, ap, ◌∙◌}
use Rattle.std.specs.List.{AllByRecursion}
use Rattle.std.proofs.lemmas.List.{append_assoc, length-map, map-append, take_at}
use Rattle.lc_record.specs.Codec.{BeginsNoRecord}
use Rattle.lc_record.specs.Record.{spelling}
use Rattle.lc_record.specs.declared.record.Record.{Record}
use Rattle.lc_log.specs.LogText.{IsLogText, IsWhole, joined}
use Rattle.lc_log.specs.InPlace.{records_in}
use Rattle.lc_log.proofs.InPlaceLemmas.{records_text}
use Rattle.lc_log.proofs.LogLemmas.{joined-append, one_text-by}
use Rattle.lc_log.proofs.WalkLemmas.{Found, found_all}
use Rattle.lc_journal.specs.Kept.{closed_record, kept_behind}
use Rattle.lc_journal.specs.Records.{KeptRecords, Spelled, count_of}

-- one more
pub one_behind : (rs : List Record) (r : Record) (words : List ℕ) (old now new : KeptRecords) → words ≡ spelling r → now ≡ kept_behind rs old → new ≡ record now { records = now.records ++ record { words = words; closed = true } ∷ [] }
    → new ≡ kept_behind (rs ++ r ∷ []) old
one_behind rs r words old now new spelled is next =
    next ∙ ap (λ (k : KeptRecords). record k { records = k.records ++ record { words = words; closed = true } ∷ [] }) is
    ∙ ap (λ (ws : List ℕ). record old { records = old.records ++ map closed_record rs ++ record { words = ws; closed = true } ∷ [] }) spelled
    ∙ ap (λ (l : List Spelled). record old { records = l }) (append_assoc old.records (map closed_record rs) (closed_record r ∷ []) ∙ ap (λ (l : List Spelled). old.records ++ l) (sym (map-append closed_record rs (r ∷ []))))

whole-append : (rs qs : List Record) → AllByRecursion IsWhole rs → AllByRecursion IsWhole qs → AllByRecursion IsWhole (rs ++ qs)
whole-append [] qs ws vs = vs
whole-append (r ∷ rs) qs ws vs = (ws.0, whole-append rs qs ws.1 vs)

-- what is found is the first of all
pub found_first : (words : List ℕ) (found : List (ℕ × Record)) (end : ℕ) (rs : List Record) → Found words found end → IsLogText words rs → (count : ℕ) × (map (λ x. x.1) found ≡ take count rs)
found_first words found end rs f text =
    let fs : List Record = map (λ x. x.1) found in
    let qs : List Record = records_in (drop end words) in
    let rest = records_text (drop end words) in
    let all : IsLogText words (fs ++ qs) = record {
      rest = rest.rest;
      text = f.text ∙ ap (λ (l : List ℕ). joined fs ++ l) rest.text ∙ sym (append_assoc (joined fs) (joined qs) rest.rest) ∙ ap (λ (l : List ℕ). l ++ rest.rest) (sym (joined-append fs qs));
      whole = whole-append fs qs f.whole rest.whole;
      end = rest.end;
    } in
    (length fs, sym (ap (take (length fs)) (one_text-by words rs (fs ++ qs) text all) ∙ take_at fs qs (length fs) refl))

-- and where no record begins, it is all
pub found_whole : (words : List ℕ) (found : List (ℕ × Record)) (end : ℕ) (rs : List Record) → Found words found end → BeginsNoRecord (drop end words) → IsLogText words rs → map (λ x. x.1) found ≡ rs
found_whole words found end rs f none text = one_text-by words (map (λ x. x.1) found) rs (found_all words found end f none).text text

-- one more is found and kept
pub with_one_more : (found : List (ℕ × Record)) (place : ℕ) (r : Record) (words : List ℕ) (old now new : KeptRecords) → words ≡ spelling r → now ≡ kept_behind (map (λ x. x.1) found) old
    → new ≡ record now { records = now.records ++ record { words = words; closed = true } ∷ [] } → new ≡ kept_behind (map (λ x. x.1) (found ++ (place, r) ∷ [])) old
with_one_more found place r words old now new spelled is next =
    one_behind (map (λ x. x.1) found) r words old now new spelled is next
    ∙ ap (λ (rs : List Record). kept_behind rs old) (sym (map-append (λ (x : ℕ × Record). x.1) found ((place, r) ∷ [])))

-- how many were reserved then, after so many that were dropped
pub count_behind : (dropped : ℕ) (front : List Record) → count_of (kept_behind front (record { before = dropped; records = [] })) ≡ dropped + length front
count_behind dropped front = ap (λ (n : ℕ). dropped + n) (length-map front closed_record)

-- those of two texts
pub both_behind : (dropped : ℕ) (front behind : List Record) → kept_behind behind (kept_behind front (record { before = dropped; records = [] })) ≡ record { before = dropped; records = map closed_record (front ++ behind) }
both_behind dropped front behind = ap (λ (l : List Spelled). record { before = dropped; records = l }) (sym (map-append closed_record front behind))
