use Rattle.std.proofs.Common.{◌∙◌, List, ℕ, Option, ap, sym, subst}
use Rattle.std.specs.Prelude.{OnOk}
use Rattle.std.specs.Option.{option_map_or}
use Rattle.std.specs.Io.KnownBytes.{Appends}
use Rattle.lc_model.specs.declared.refusal.Refusal.{Refusal}
use Rattle.lc_text.specs.Text.{no_memory_text, refusal_text}
use Rattle.lc_look.proofs.recovery.write_stop.Goals as goal

line_of : Option Refusal → List ℕ
line_of answer = option_map_or refusal_text answer no_memory_text

pub returns-in-Some : goal.returns-in-Some
unfolding line_of
returns-in-Some g c =
    subst (λ (l : List ℕ). OnOk c.write_reply.result (Appends (g.W.Write.contents c.args.writer.now) (g.W.Write.contents c.write_reply.new.writer) l))
    (ap line_of (sym c.in-Some.is ∙ c.refusal.ensures)) c.write_reply.ensures

pub returns-in-None : goal.returns-in-None
unfolding line_of
returns-in-None g c =
    subst (λ (l : List ℕ). OnOk c.write_no_memory.result (Appends (g.W.Write.contents c.args.writer.now) (g.W.Write.contents c.write_no_memory.new.writer) l))
    (ap line_of (sym c.in-None.is ∙ c.refusal.ensures)) c.write_no_memory.ensures
