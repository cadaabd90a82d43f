-- The records of words, and whether they are known clean.
use Rattle.std.proofs.Common.{◌≡◌, ℕ, ◌<◌, ◌≤◌, All, List, [], ◌∷◌, ◌++◌, Contains, drop, length, get_or, refl, sym, ap, subst, ◌∙◌, inl, inr}
use Rattle.std.specs.List.{concat}
use Rattle.std.proofs.Math.Seq.{drop-append_seam}
use Rattle.std.proofs.lemmas.Bool.{cases_lt}
use Rattle.std.proofs.lemmas.List.{append-nil}
use Rattle.std.proofs.lemmas.List.Elements.{All-head, All-tail, All-append, All-cons, All-nil, Contains-get_or}
use Rattle.lc_record.specs.Codec.{BeginsWith}
use Rattle.lc_record.specs.Record.{IsRecord, record_len, spelling}
use Rattle.lc_record.specs.declared.record.Lock.{Lock}
use Rattle.lc_record.specs.declared.record.Record.{Record}
use Rattle.lc_record.proofs.RecordLemmas.{begins_from, record_length}
use Rattle.lc_log.specs.LogText.{IsWhole, joined}
use Rattle.lc_log.proofs.LogLemmas.{joined-append, whole_record}
use Rattle.lc_stage.specs.Staging.{AreRecords, IsOneRecord}
use Rattle.lc_token.specs.KnownClean.{known as known_of}
use Rattle.lc_token.specs.Reset.{AreKnown, BeginWith}
use Rattle.lc_rest.specs.Parts.{AreSpelled, IsKnownClean}

-- words that are records begin with each of them

pub begins_first : (words rest : List ℕ) (r : Record) → IsRecord r words → BeginsWith (words ++ rest) r (record_len r)
begins_first words rest r is = subst (BeginsWith (words ++ rest) r) (record_length r words is) (begins_from r words rest is)

pub behind_first : (words rest : List ℕ) (r : Record) → IsRecord r words → drop (record_len r) (words ++ rest) ≡ rest
behind_first words rest r is = ap (λ (n : ℕ). drop n (words ++ rest)) (sym (record_length r words is)) ∙ drop-append_seam words rest

begin_with_all : (records : List Record) → All IsWhole records → BeginWith records (joined records)
begin_with_all [] whole = tt
begin_with_all (r ∷ rs) whole =
    let is = whole_record r (All-head IsWhole r rs whole) in
    (begins_first (spelling r) (joined rs) r is, subst (BeginWith rs) (sym (behind_first (spelling r) (joined rs) r is)) (begin_with_all rs (All-tail IsWhole r rs whole)))

-- The records of words

-- records with these words
pub record AreOf (words : List ℕ) : Type 0 where
  pub records : List Record
  pub are : AreSpelled words records

none_spelled : AreOf []
none_spelled = record { records = []; are = record { text = refl; whole = All-nil IsWhole } }

both_spelled : (front behind : List ℕ) → AreOf front → AreOf behind → AreOf (front ++ behind)
both_spelled front behind one other = record {
  records = one.records ++ other.records;
  are = record {
    text = (λ k. one.are.text k ++ other.are.text k) ∙ sym (joined-append one.records other.records);
    whole = All-append IsWhole one.records other.records one.are.whole other.are.whole;
  };
}

one_spelled : (words : List ℕ) → IsOneRecord words → AreOf words
one_spelled words one = record {
  records = one.0 ∷ [];
  are = record {
    text = one.1.spelled ∙ sym (append-nil (spelling one.0));
    whole = All-cons IsWhole one.0 [] (record { canonical = one.1.canonical; short = one.1.short }) (All-nil IsWhole);
  };
}

all_spelled : (rs : List (List ℕ)) → All IsOneRecord rs → AreOf (concat rs)
all_spelled [] all = none_spelled
all_spelled (r ∷ rs) all = both_spelled r (concat rs) (one_spelled r (All-head IsOneRecord r rs all)) (all_spelled rs (All-tail IsOneRecord r rs all))

pub spelled : (words : List ℕ) → AreRecords words → AreOf words
spelled words h = let all = all_spelled h.0 h.1 in record { records = all.records; are = record { text = h.2 ∙ all.are.text; whole = all.are.whole } }

-- What is known of them

lock_known : (known : ℕ → ℕ) (locks : List Lock) (place : ℕ) (d : Lock) → place < length locks → ((segment seq : ℕ) → ((lock : Lock) × Contains locks lock × (lock.segment ≡ segment) × (lock.seq ≡ seq)) × (known segment < seq) → ⊥)
    → (get_or locks place d).seq ≤ known (get_or locks place d).segment
lock_known known locks place d within none =
    let lock = get_or locks place d in
    elim (cases_lt (known lock.segment) lock.seq) [
      | inl high ↦ absurd (none lock.segment lock.seq ((lock, Contains-get_or locks place d within, refl, refl), high))
      | inr low ↦ low
    ]

pub records_known : (known : List ℕ) (words : List ℕ) (its : AreOf words) → AreKnown words (known_of known) → All (IsKnownClean known) its.records
records_known known words its all = λ k d within m e inside.
    let r = get_or its.records k d in
    lock_known (known_of known) r.locks m e inside
    (λ segment seq above. all segment seq (its.records, r, subst (BeginWith its.records) (sym its.are.text) (begin_with_all its.records its.are.whole), Contains-get_or its.records k d within, above))
