use Rattle.std.proofs.Common.{◌∙◌, List, ℕ, ap, refl, subst, Err}
use Rattle.std.proofs.lemmas.Result.{IfOk-weaker}
use Rattle.std.specs.Io.KnownBytes.{Appends}
use Rattle.lc_text.specs.Text.{refusal_text, words_text}
use Rattle.lc_journal.specs.declared.show_fault.ShowFault.TheVariants.{Unknown}
use Rattle.lc_tool.proofs.Beside.{life_geometry}
use Rattle.lc_tool.proofs.Keeping.{log_lives, log_refused, log_shown}
use Rattle.lc_tool.proofs.LogShown.{log_asks, log_fault, log_performs}
use Rattle.lc_tool.proofs.commands.show_log.Goals as goal

pub returns-in_ok-write_words-in-Ok-clause-done : goal.returns-in_ok-write_words-in-Ok-clause-done
returns-in_ok-write_words-in-Ok-clause-done g c =
    log_performs g.D.Area c.args.node c.args.world.now c.log_words.new.self c.log_words.result (record { unknown = c.log_words.ensures.unknown; read = c.log_words.ensures.read })
    c.in-Ok.words (g.W.Write.contents c.args.writer.now) (g.W.Write.contents c.write_words.new.writer) c.in-Ok.is c.in-Ok.ensures.words c.in-Ok.ensures.records
    (subst (λ (l : List ℕ). Appends (g.W.Write.contents c.args.writer.now) (g.W.Write.contents c.write_words.new.writer) (words_text l)) c.as_slice.ensures.value c.in_ok-write_words-in-Ok.ensures)

pub returns-in-Err-clause-done : goal.returns-in-Err-clause-done
returns-in-Err-clause-done g c =
    IfOk-weaker c.show_fault.result _ _ (λ verdict shown.
    log_fault g.D.Area c.args.node c.args.world.now c.log_words.new.self c.log_words.result (record { unknown = c.log_words.ensures.unknown; read = c.log_words.ensures.read })
    c.in-Err.fault shown.0 (g.W.Write.contents c.args.writer.now) (g.W.Write.contents c.show_fault.new.writer) verdict c.in-Err.is shown.1 shown.2 shown.3) c.show_fault.ensures.shown

pub returns-in-Err-clause-asks : goal.returns-in-Err-clause-asks
returns-in-Err-clause-asks g c = λ want.
    log_asks g.D.Area c.args.node c.args.world.now c.log_words.new.self c.log_words.result (record { unknown = c.log_words.ensures.unknown; read = c.log_words.ensures.read })
    (c.in-Err.is ∙ ap (λ fault. Err fault) (c.show_fault.ensures.memory want).0)

pub returns-in_ok-write_words-in-Ok-clause-tells : goal.returns-in_ok-write_words-in-Ok-clause-tells
returns-in_ok-write_words-in-Ok-clause-tells g c = λ h at fits.
    let same = life_geometry g.D.Area h at c.args.world.now.phase fits in
    let words = c.as_slice.result.now in (
      at,
      log_lives g.D.Area c.args.node c.args.world.now.phase c.log_words.new.self.phase _ c.log_words.ensures.unknown c.log_words.ensures.read h at fits,
      (
        words_text words,
        (
          log_shown g.D.Area c.args.world.now.phase c.args.node words_text h (c.log_words.ensures.nodes h same) c.log_words.result Unknown (λ none. (c.log_words.ensures.unknown none).0) c.in-Ok.words c.in-Ok.is words,
          refl,
        ),
        c.in_ok-write_words-in-Ok.ensures,
      ),
    )

pub returns-in-Err-clause-tells : goal.returns-in-Err-clause-tells
returns-in-Err-clause-tells g c = IfOk-weaker c.show_fault.result _ _ (λ verdict shown h at fits.
    let same = life_geometry g.D.Area h at c.args.world.now.phase fits in (
      at,
      log_lives g.D.Area c.args.node c.args.world.now.phase c.log_words.new.self.phase _ c.log_words.ensures.unknown c.log_words.ensures.read h at fits,
      (
        refusal_text shown.0,
        (
          log_refused g.D.Area c.args.world.now.phase c.args.node words_text h (c.log_words.ensures.nodes h same) c.log_words.result c.in-Err.fault (λ none. (c.log_words.ensures.unknown none).0)
              (λ area there. (c.log_words.ensures.read area there).0) c.in-Err.is shown.0 shown.1 verdict shown.2,
          refl,
        ),
        shown.3,
      ),
    )) c.show_fault.ensures.shown

pub returns-in-Err-clause-still : goal.returns-in-Err-clause-still
returns-in-Err-clause-still g c = λ want. log_lives g.D.Area c.args.node c.args.world.now.phase c.log_words.new.self.phase _ c.log_words.ensures.unknown c.log_words.ensures.read
