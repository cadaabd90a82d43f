use Rattle.std.proofs.Common.{◌∙◌, ap, true}
use Rattle.clap.specs.Simple.{app_of_fields}
use Rattle.clap.specs.Words.{App}
use Rattle.lc_words.proofs.program.topmost.Goals as goal

abbrev needs_subcommand : App → App
needs_subcommand a = record { top = record a.top { subcommand_required = true }; subs = a.subs }

abbrev has_version : App → App
has_version a = record { top = record a.top { has_version = true }; subs = a.subs }

pub returns : goal.returns
returns c = (
  ap app_of_fields c.subcommand_required.ensures
      ∙ ap needs_subcommand (ap app_of_fields c.about.ensures ∙ ap app_of_fields c.version.ensures ∙ ap has_version (ap app_of_fields c.in_ok-command.ensures.0 ∙ c.new.ensures.app)),
  ap (λ f. f.has_globals) c.subcommand_required.ensures ∙ ap (λ f. f.has_globals) c.about.ensures
      ∙ ap (λ f. f.has_globals) c.version.ensures ∙ ap (λ f. f.has_globals) c.in_ok-command.ensures.0 ∙ c.new.ensures.local,
)
