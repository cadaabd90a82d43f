use Rattle.std.proofs.Common.{refl, ap, inl, inr, Err}
use Rattle.lc_text.specs.Text.{no_memory_text}
use Rattle.lc_tool.specs.declared.verdict.Verdict.TheVariants.{Done, Refused}
use Rattle.lc_tool.proofs.ScriptLemmas.{keeps_then}
use Rattle.lc_tool.proofs.scripts.do_command.Goals as goal

pub returns-in-Ok-Done-clause-leaves : goal.returns-in-Ok-Done-clause-leaves
returns-in-Ok-Done-clause-leaves g c = λ line number read m s x fits.
    let led = c.in-Ok-Done.ensures.done m s x fits in
    (led.0, led.1, (led.2.0, inr (Done, record { command = c.args.command.now; read = read; done = rw c.in-Ok-Done.field-0-is at led.2.1 }, refl), led.2.2), led.3)

pub returns-in-Ok-Refused-clause-leaves : goal.returns-in-Ok-Refused-clause-leaves
returns-in-Ok-Refused-clause-leaves g c = λ line number read m s x fits.
    let led = c.in-Ok-Refused.ensures.done m s x fits in
    (led.0, led.1, (led.2.0, inr (Refused, record { command = c.args.command.now; read = read; done = rw c.in-Ok-Refused.field-0-is at led.2.1 }, refl), led.2.2), led.3)

pub returns-in-Ok-Faulted-clause-leaves : goal.returns-in-Ok-Faulted-clause-leaves
returns-in-Ok-Faulted-clause-leaves g c = λ line number read m s x fits.
    let led = c.in-Ok-Faulted.ensures.done m s x fits in
    (led.2.0, inr (inr (led.0, led.1, record { command = c.args.command.now; read = read; done = rw c.in-Ok-Faulted.field-0-is at led.2.1 }, refl)), led.2.2)

pub returns-in_ok-no_memory-in-Err-NoMemory-clause-leaves : goal.returns-in_ok-no_memory-in-Err-NoMemory-clause-leaves
returns-in_ok-no_memory-in-Err-NoMemory-clause-leaves g c = λ line number read m s x h.
    let shown = c.in_ok-no_memory-in-Err-NoMemory.ensures.shown in
    let want = ap (λ stop. Err stop) c.in-Err-NoMemory.field-0-is in (
      no_memory_text,
      inl (inr (c.args.command.now, read, c.in-Err-NoMemory.ensures.asks want m s x h), (refl, shown.0)),
      keeps_then (g.W.Write.contents c.args.writer.now) _ (g.W.Write.contents c.no_memory.new.writer) no_memory_text (c.in-Err-NoMemory.ensures.memory want) shown.1,
    )

pub returns-in_ok-no_memory-in-Err-NoMemory-clause-tells : goal.returns-in_ok-no_memory-in-Err-NoMemory-clause-tells
returns-in_ok-no_memory-in-Err-NoMemory-clause-tells g c = λ line number read h at fits.
    let shown = c.in_ok-no_memory-in-Err-NoMemory.ensures.shown in
    let want = ap (λ stop. Err stop) c.in-Err-NoMemory.field-0-is in (
      at,
      c.in-Err-NoMemory.ensures.still want h at fits,
      (
        no_memory_text,
        inl ((refl, shown.0), refl),
        keeps_then (g.W.Write.contents c.args.writer.now) _ (g.W.Write.contents c.no_memory.new.writer) no_memory_text (c.in-Err-NoMemory.ensures.memory want) shown.1,
      ),
    )

pub returns-in-Ok-Done-clause-tells : goal.returns-in-Ok-Done-clause-tells
returns-in-Ok-Done-clause-tells g c = λ line number read h at fits.
    let told = rw c.in-Ok-Done.field-0-is at (c.in-Ok-Done.ensures.tells h at fits) in
    (told.0, told.1, (told.2.0, inr (c.args.command.now, Done, read, told.2.1, refl), told.2.2))

pub returns-in-Ok-Refused-clause-tells : goal.returns-in-Ok-Refused-clause-tells
returns-in-Ok-Refused-clause-tells g c = λ line number read h at fits.
    let told = rw c.in-Ok-Refused.field-0-is at (c.in-Ok-Refused.ensures.tells h at fits) in
    (told.0, told.1, (told.2.0, inr (c.args.command.now, Refused, read, told.2.1, refl), told.2.2))

pub returns-in-Ok-Faulted-clause-tells : goal.returns-in-Ok-Faulted-clause-tells
returns-in-Ok-Faulted-clause-tells g c = λ line number read h at fits.
    let told = rw c.in-Ok-Faulted.field-0-is at (c.in-Ok-Faulted.ensures.tells h at fits) in
    (told.0, told.1, (told.2.0, inr (inr (c.args.command.now, read, told.2.1, refl)), told.2.2))
