use Rattle.std.proofs.Common.{ap, sym, subst, ◌∙◌}
use Rattle.std.proofs.lemmas.Result.{err_from_is_err_and}
use Rattle.lc_record.specs.Words.{words_of}
use Rattle.lc_core.proofs.LogReads.{front_shown, handed_failed, handed_on, show_records}
use Rattle.lc_core.specs.LogWords.{ReadsLog}
use Rattle.lc_journal.specs.declared.show_fault.ShowFault.TheVariants.{Unknown}
use Rattle.lc_core.proofs.world.World.log_words.Goals as goal

pub returns-in_err-bytes-clause-unknown : goal.returns-in_err-bytes-clause-unknown
returns-in_err-bytes-clause-unknown g c there =
    let p = err_from_is_err_and c.from_residual.result c.from_residual.ensures.1 in
    let none = c.log_bytes.ensures.unknown there in
    (handed_on c.from_residual.result c.log_bytes.result p.0 c.in_err-bytes.field-0.0 Unknown p.1 p.2 c.in_err-bytes.was none.0, none.1)

pub returns-in_err-bytes-clause-read : goal.returns-in_err-bytes-clause-read
returns-in_err-bytes-clause-read g c area there =
    let p = err_from_is_err_and c.from_residual.result c.from_residual.ensures.1 in
    let read = c.log_bytes.ensures.read area there in (
      (λ unknown. read.0 (handed_on c.log_bytes.result c.from_residual.result c.in_err-bytes.field-0.0 p.0 Unknown c.in_err-bytes.was (sym p.2) p.1 unknown)),
      subst (λ failed. ReadsLog g.D.Area c.args.node area c.args.self.now.phase c.log_bytes.new.self failed)
          (handed_failed c.from_residual.result c.log_bytes.result p.0 c.in_err-bytes.field-0.0 p.1 p.2 c.in_err-bytes.was) read.1,
    )

pub returns-clause-words : goal.returns-clause-words
returns-clause-words g c area there honest records text =
    front_shown (g.D.Area.now area) c.in_ok-bytes.bytes.items c.in_ok-words.words.items c.as_slice-2.result.now c.truncate.new.self.items c.text_len.ensures.0 c.text_len.result
    (c.in_ok-bytes.ensures.bytes area there honest)
    (c.in_ok-words.ensures.words ∙ ap words_of c.as_slice.ensures.value)
    c.as_slice-2.ensures.value c.text_len.ensures.1 c.text_len.ensures.2 c.truncate.ensures.items records text

pub returns-clause-records : goal.returns-clause-records
returns-clause-records g c area there m s x fits up =
    show_records g.D.Area c.args.self.now.phase c.args.node area c.truncate.new.self.items there
    (λ up is there honest. c.in_ok-bytes.ensures.fits up area is there honest)
    (λ honest records text. front_shown (g.D.Area.now area) c.in_ok-bytes.bytes.items c.in_ok-words.words.items c.as_slice-2.result.now c.truncate.new.self.items c.text_len.ensures.0 c.text_len.result
    (c.in_ok-bytes.ensures.bytes area there honest)
    (c.in_ok-words.ensures.words ∙ ap words_of c.as_slice.ensures.value)
    c.as_slice-2.ensures.value c.text_len.ensures.1 c.text_len.ensures.2 c.truncate.ensures.items records text)
    m s x fits up

pub invariant_of-self-clause-there : goal.invariant_of-self-clause-there
invariant_of-self-clause-there g c = λ taken. c.args.self.now.there (c.log_bytes.ensures.taken taken)
