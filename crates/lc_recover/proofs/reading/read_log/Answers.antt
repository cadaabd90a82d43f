use Rattle.std.proofs.Common.{◌≡◌, ◌++◌, ◌∷◌, [], ℕ, List, length, refl, ◌∙◌, ap, arith}
use Rattle.lc_record.specs.Words.{words_of}
use Rattle.lc_log.specs.InPlace.{records_in}
use Rattle.lc_recover.specs.Locks.{numbers_in}
use Rattle.lc_recover.specs.declared.lock_number.LockNumber.{LockNumber}
use Rattle.lc_recover.specs.declared.segment_pages.SegmentPages.{SegmentPages}
use Rattle.lc_recover.proofs.ReadLemmas.{few-of_bytes}
use Rattle.lc_recover.proofs.reading.read_log.Goals as goal

pub add_log-requires : goal.add_log-requires
add_log-requires g c =
    let words : c.as_slice-2.result.now ≡ words_of c.as_slice.result.now = c.as_slice-2.ensures.value ∙ c.fill_words.ensures in
    omega (
      arith,
      few-of_bytes c.as_slice.result.now,
      ap (λ (l : List ℕ). length (numbers_in (records_in l))) words,
      ap (λ (l : List ℕ). length l) c.as_slice.ensures.value,
      c.in_ok-reserve-2.ensures.ok,
      c.read_whole.ensures.len,
      c.in_ok-bytes.ensures,
      c.in_ok-bytes.bytes.ok.0,
      c.len.ensures.len,
      c.len-3.ensures,
    )

pub returns-clause-read : goal.returns-clause-read
returns-clause-read g c =
    let words : c.as_slice-2.result.now ≡ words_of c.as_slice.result.now = c.as_slice-2.ensures.value ∙ c.fill_words.ensures in
    record {
      bytes = c.as_slice.result.now;
      of_area = record {
        long = ap (λ (l : List ℕ). length l) c.as_slice.ensures.value ∙ c.read_whole.ensures.len;
        same = λ honest. c.as_slice.ensures.value ∙ c.in_ok-read_whole.ensures.bytes honest;
      };
      logs = c.push_reserved.ensures.items ∙ ap (λ (l : List (List ℕ)). l ++ c.new.result ∷ []) c.reserve.ensures.items
          ∙ ap (λ (l : List ℕ). c.args.read.now.kept.logs.items ++ l ∷ []) (c.new.ensures ∙ c.fill_words.ensures);
      segments = refl {A = List SegmentPages};
      locks = c.add_log.ensures ∙ ap (λ (l : List LockNumber). l ++ numbers_in (records_in c.as_slice-2.result.now)) c.reserve-2.ensures.items
          ∙ ap (λ (l : List ℕ). c.args.read.now.locks.items ++ numbers_in (records_in l)) words;
      numbers = refl {A = List ℕ};
    }
