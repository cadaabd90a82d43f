use Rattle.std.proofs.Common.{◌≡◌, ◌∙◌, List, ℕ, ap, refl, subst, false, Err}
use Rattle.std.proofs.lemmas.Result.{IfOk-weaker}
use Rattle.lc_record.specs.Words.{bytes_of, words_of}
use Rattle.lc_log.specs.LogText.{placed}
use Rattle.lc_text.specs.Inspector.{Inspects}
use Rattle.lc_text.specs.Text.{records_text, refusal_text}
use Rattle.lc_record.specs.declared.record.Record.{Record}
use Rattle.lc_journal.specs.declared.show_fault.ShowFault.TheVariants.{Unknown}
use Rattle.lc_tool.proofs.Beside.{life_geometry}
use Rattle.lc_tool.proofs.Keeping.{log_lives, log_refused, log_shown}
use Rattle.lc_tool.proofs.LogShown.{inspect_asks, inspect_fault, inspect_had, inspect_performs}
use Rattle.lc_tool.proofs.commands.show_records.Goals as goal

pub returns-in-Err-clause-done : goal.returns-in-Err-clause-done
returns-in-Err-clause-done g c =
    IfOk-weaker c.show_fault.result _ _ (λ verdict shown.
    inspect_fault g.D.Area c.args.node c.args.world.now c.log_words.new.self c.log_words.result (record { unknown = c.log_words.ensures.unknown; read = c.log_words.ensures.read })
    c.in-Err.fault shown.0 (g.W.Write.contents c.args.writer.now) (g.W.Write.contents c.show_fault.new.writer) verdict c.in-Err.is shown.1 shown.2 shown.3) c.show_fault.ensures.shown

pub returns-in-Err-clause-asks : goal.returns-in-Err-clause-asks
returns-in-Err-clause-asks g c = λ want.
    inspect_asks g.D.Area c.args.node c.args.world.now c.log_words.new.self c.log_words.result (record { unknown = c.log_words.ensures.unknown; read = c.log_words.ensures.read })
    (c.in-Err.is ∙ ap (λ fault. Err fault) (c.show_fault.ensures.memory want).0)

pub returns-in_err-bytes-clause-asks : goal.returns-in_err-bytes-clause-asks
returns-in_err-bytes-clause-asks g c = λ want.
    inspect_had g.D.Area c.args.node c.args.world.now c.log_words.new.self c.log_words.result (record { unknown = c.log_words.ensures.unknown; read = c.log_words.ensures.read }) c.in-Ok.words c.in-Ok.is

pub returns-in-Ok-inspect-clause-done : goal.returns-in-Ok-inspect-clause-done
returns-in-Ok-inspect-clause-done g c =
    let bytes : c.as_slice-2.result.now ≡ bytes_of c.in-Ok.words.items = c.as_slice-2.ensures.value ∙ c.in_ok-bytes.ensures ∙ ap bytes_of c.as_slice.ensures.value in
    inspect_performs g.D.Area c.args.node c.args.world.now c.log_words.new.self c.log_words.result (record { unknown = c.log_words.ensures.unknown; read = c.log_words.ensures.read })
    c.in-Ok.words (g.W.Write.contents c.args.writer.now) (g.W.Write.contents c.inspect.new.writer) c.in-Ok.is c.in-Ok.ensures.words c.in-Ok.ensures.records
    (subst (λ (l : List ℕ). Inspects false (words_of l) (g.W.Write.contents c.args.writer.now) (g.W.Write.contents c.inspect.new.writer)) bytes c.in-Ok-inspect.ensures.shown)

pub returns-in-Err-NoMemory-clause-asks : goal.returns-in-Err-NoMemory-clause-asks
returns-in-Err-NoMemory-clause-asks g c = λ want.
    inspect_had g.D.Area c.args.node c.args.world.now c.log_words.new.self c.log_words.result (record { unknown = c.log_words.ensures.unknown; read = c.log_words.ensures.read }) c.in-Ok.words c.in-Ok.is

pub returns-in-Ok-inspect-clause-tells : goal.returns-in-Ok-inspect-clause-tells
returns-in-Ok-inspect-clause-tells g c = λ h at fits.
    let same = life_geometry g.D.Area h at c.args.world.now.phase fits in
    let shown = c.in-Ok-inspect.ensures.shown in (
      at,
      log_lives g.D.Area c.args.node c.args.world.now.phase c.log_words.new.self.phase _ c.log_words.ensures.unknown c.log_words.ensures.read h at fits,
      (
        records_text (placed 0 shown.0),
        (
          log_shown g.D.Area c.args.world.now.phase c.args.node (λ (records : List Record). records_text (placed 0 records)) h (c.log_words.ensures.nodes h same) c.log_words.result Unknown (λ none. (c.log_words.ensures.unknown none).0)
              c.in-Ok.words c.in-Ok.is shown.0,
          refl,
        ),
        shown.2,
      ),
    )

pub returns-in-Err-clause-tells : goal.returns-in-Err-clause-tells
returns-in-Err-clause-tells g c = IfOk-weaker c.show_fault.result _ _ (λ verdict shown h at fits.
    let same = life_geometry g.D.Area h at c.args.world.now.phase fits in (
      at,
      log_lives g.D.Area c.args.node c.args.world.now.phase c.log_words.new.self.phase _ c.log_words.ensures.unknown c.log_words.ensures.read h at fits,
      (
        refusal_text shown.0,
        (
          log_refused g.D.Area c.args.world.now.phase c.args.node (λ (records : List Record). records_text (placed 0 records)) h (c.log_words.ensures.nodes h same) c.log_words.result c.in-Err.fault
              (λ none. (c.log_words.ensures.unknown none).0) (λ area there. (c.log_words.ensures.read area there).0) c.in-Err.is shown.0 shown.1 verdict shown.2,
          refl,
        ),
        shown.3,
      ),
    )) c.show_fault.ensures.shown

pub returns-in-Err-clause-still : goal.returns-in-Err-clause-still
returns-in-Err-clause-still g c = λ want. log_lives g.D.Area c.args.node c.args.world.now.phase c.log_words.new.self.phase _ c.log_words.ensures.unknown c.log_words.ensures.read

pub returns-in_err-bytes-clause-still : goal.returns-in_err-bytes-clause-still
returns-in_err-bytes-clause-still g c = λ want. log_lives g.D.Area c.args.node c.args.world.now.phase c.log_words.new.self.phase _ c.log_words.ensures.unknown c.log_words.ensures.read

pub returns-in-Err-NoMemory-clause-still : goal.returns-in-Err-NoMemory-clause-still
returns-in-Err-NoMemory-clause-still g c = λ want. log_lives g.D.Area c.args.node c.args.world.now.phase c.log_words.new.self.phase _ c.log_words.ensures.unknown c.log_words.ensures.read
