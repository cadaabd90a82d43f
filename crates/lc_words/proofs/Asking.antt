-- What the words ask for.
use Rattle.std.proofs.Common.{◌≡◌, ◌∙◌, ◌⊎◌, ◌&&◌, Bool, List, [], None, Option, Some, true, refl, sym, ap, ap₂, subst, false, inl, inr, codes}
use Rattle.std.proofs.lemmas.Option.{same_Some}
use Rattle.std.specs.Option.{option_map, option_map_or}
use Rattle.clap.specs.Faults.{is_free_app}
use Rattle.clap.specs.Simple.{built}
use Rattle.clap.specs.Words.{AddsArg, AddsSubcommand, App, Rule, rule_of, with_rule, with_subcommand, HasMatchesOf, IsAmong, Row, Text, app_of, fault_of, is_simple, is_simple_and_free, subcommand_name_of, subcommand_of, subcommand_rows_of}
use Rattle.clap.specs.declared.builder.arg.Arg.{Arg}
use Rattle.clap.specs.declared.builder.command.Command.{Command}
use Rattle.clap.specs.declared.builder.value_parser.ValueParser.{ValueParser}
use Rattle.clap.specs.declared.parser.matches.ArgMatches.{ArgMatches}
use Rattle.clap.specs.declared.parser.matches.ArgMatches.TheViews.{out-ArgMatches}
use Rattle.clap.specs.declared.error.kind.ErrorKind.{ErrorKind}
use Rattle.clap.specs.declared.error.kind.ErrorKind.TheVariants.{DisplayHelp, DisplayVersion, OutOfMemory}
use Rattle.clap.proofs.OnLiterals.{clap_on_literals}
use Rattle.lc_words.proofs.FaultlessWords.{IsSubcommand, entered_run, entered_init, entered_recover, entered_inspect, entered_lines, entered_check, entered_dump, entered_draw, entered_copy, faultless_words}
use Rattle.lc_words.specs.CommandLine.{HasCheckedSize, HasNoFiles, HasNumberIn, HasNumbersAt, HasSize, HasSizeAt, HasText, HasWord, IsAskedBy, IsCallOf, IsCheckOf, IsCopyOf, IsDrawOf, IsDumpOf, IsInitOf, IsInspectOf, IsLike, IsLinesOf, IsReadOf, IsRecoverOf, IsRunOf, IsWantedAt, options_of, program_app}
use Rattle.lc_words.specs.declared.asked.Asked.{Asked}
use Rattle.lc_words.specs.declared.asked.Asked.TheVariants.{Run, Init, Recover, Check, Dump, Draw, Copy, Inspect, Lines, NotUnderstood}

pub program_is_free : is_simple_and_free program_app ≡ true
unfolding clap_on_literals
program_is_free = refl

first_of_both : (x y : Bool) → (x && y) ≡ true → x ≡ true
first_of_both true y both = refl
first_of_both false y both = both

pub program_is_simple : is_simple program_app ≡ true
program_is_simple = first_of_both (is_simple program_app) (is_free_app (built program_app)) program_is_free

pub same_options : (c : Command) (m : ArgMatches) (words : List Text) → app_of c ≡ program_app → HasMatchesOf (app_of c) words m
    → subcommand_rows_of m ≡ subcommand_of program_app words
same_options c m words is has =
    (has (ap is_simple is ∙ program_is_simple)).1 ∙ ap (λ (a : App). subcommand_of a words) is

-- ---- what a subcommand's options ask for is what the words ask for

abbrev IsMet : Text → List Row → List Text → Type 0
IsMet name rows words = (fault_of program_app words ≡ []) × (subcommand_of program_app words ≡ Some (name, rows))

rows_are : (name : Text) (rows : List Row) (words : List Text) → IsMet name rows words → rows ≡ options_of words
rows_are name rows words met = sym (ap (λ (o : Option (Text × List Row)). option_map_or (λ f. f.1) o []) met.1)

is_call : (name : Text) (rows : List Row) (words : List Text) → IsMet name rows words → IsCallOf name words
is_call name rows words met = (met.0, met.1 ∙ ap (λ (rs : List Row). Some (name, rs)) (rows_are name rows words met))

run_asked : (asked : Asked) (rows : List Row) (words : List Text) → IsMet (codes "run") rows words → IsRunOf rows asked → HasSizeAt rows
    → IsAskedBy words asked
run_asked (Run store follow number) rows words met read size =
    let same = rows_are (codes "run") rows words met in
    let all = subst (λ (rs : List Row). IsRunOf rs (Run store follow number)) same read in
    (is_call (codes "run") rows words met, all.0, all.1, all.2)
run_asked NotUnderstood rows words met read size = (is_call (codes "run") rows words met, subst HasNoFiles (rows_are (codes "run") rows words met) (read size))
run_asked _ rows words met read size = absurd read

init_asked : (asked : Asked) (rows : List Row) (words : List Text) → IsMet (codes "init") rows words → IsInitOf rows asked → HasSizeAt rows
    → HasWord (codes "folder") rows → IsAskedBy words asked
init_asked (Init folder geometry) rows words met read size word =
    let same = rows_are (codes "init") rows words met in (
      is_call (codes "init") rows words met,
      subst (λ (rs : List Row). HasNumbersAt rs geometry) same read.0,
      subst (λ (rs : List Row). HasText (codes "folder") rs (Some folder)) same read.1,
    )
init_asked NotUnderstood rows words met read size word = absurd (read size word)
init_asked _ rows words met read size word = absurd read

recover_asked : (asked : Asked) (rows : List Row) (words : List Text) → IsMet (codes "recover") rows words → IsRecoverOf rows asked → HasSizeAt rows
    → HasWord (codes "folder") rows → IsAskedBy words asked
recover_asked (Recover folder size) rows words met read in_range word =
    let same = rows_are (codes "recover") rows words met in (
      is_call (codes "recover") rows words met,
      subst (λ (rs : List Row). HasSize rs size) same read.0,
      subst (λ (rs : List Row). HasText (codes "folder") rs (Some folder)) same read.1,
    )
recover_asked NotUnderstood rows words met read size word = absurd (read size word)
recover_asked _ rows words met read size word = absurd read

inspect_asked : (asked : Asked) (rows : List Row) (words : List Text) → IsMet (codes "inspect") rows words → IsInspectOf rows asked
    → HasWord (codes "file") rows → IsAskedBy words asked
inspect_asked (Inspect file reverse) rows words met read word =
    let same = rows_are (codes "inspect") rows words met in
    let both = subst (λ (rs : List Row). IsInspectOf rs (Inspect file reverse)) same read in
    (is_call (codes "inspect") rows words met, both.0, both.1)
inspect_asked NotUnderstood rows words met read word = absurd (read word)
inspect_asked _ rows words met read word = absurd read

lines_asked : (asked : Asked) (rows : List Row) (words : List Text) → IsMet (codes "lines") rows words → IsLinesOf asked → IsAskedBy words asked
lines_asked Lines rows words met read = is_call (codes "lines") rows words met
lines_asked _ rows words met read = absurd read

check_asked : (asked : Asked) (rows : List Row) (words : List Text) → IsMet (codes "check") rows words → IsCheckOf rows asked → HasSizeAt rows
    → HasWord (codes "folder") rows → IsAskedBy words asked
check_asked (Check folder size json) rows words met read in_range word =
    let same = rows_are (codes "check") rows words met in
    let all = subst (λ (rs : List Row). IsCheckOf rs (Check folder size json)) same read in
    (is_call (codes "check") rows words met, all.0, all.1, all.2)
check_asked NotUnderstood rows words met read size word = absurd (read size word)
check_asked _ rows words met read size word = absurd read

dump_asked : (asked : Asked) (rows : List Row) (words : List Text) → IsMet (codes "dump") rows words → IsDumpOf rows asked → HasWord (codes "folder") rows
    → HasNumberIn (codes "segment") 0 4294967295 rows → HasNumberIn (codes "page") 0 4294967295 rows → IsAskedBy words asked
dump_asked (Dump folder segment page) rows words met read word one two =
    let same = rows_are (codes "dump") rows words met in
    let all = subst (λ (rs : List Row). IsDumpOf rs (Dump folder segment page)) same read in
    (is_call (codes "dump") rows words met, all.0, all.1, all.2)
dump_asked NotUnderstood rows words met read word one two = absurd (read word one two)
dump_asked _ rows words met read word one two = absurd read

draw_asked : (asked : Asked) (rows : List Row) (words : List Text) → IsMet (codes "draw") rows words → IsDrawOf rows asked → HasWord (codes "folder") rows → IsAskedBy words asked
draw_asked (Draw folder) rows words met read word =
    (is_call (codes "draw") rows words met, subst (λ (rs : List Row). IsDrawOf rs (Draw folder)) (rows_are (codes "draw") rows words met) read)
draw_asked NotUnderstood rows words met read word = absurd (read word)
draw_asked _ rows words met read word = absurd read

copy_asked : (asked : Asked) (rows : List Row) (words : List Text) → IsMet (codes "copy") rows words → IsCopyOf rows asked → HasSizeAt rows
    → HasWord (codes "folder") rows → HasWord (codes "to") rows → IsAskedBy words asked
copy_asked (Copy folder to wanted) rows words met read size word other =
    let same = rows_are (codes "copy") rows words met in (
      is_call (codes "copy") rows words met,
      subst (λ (rs : List Row). HasText (codes "folder") rs (Some folder)) same read.0,
      subst (λ (rs : List Row). HasText (codes "to") rs (Some to)) same read.1,
      subst (λ (rs : List Row). IsWantedAt rs wanted) same read.2,
    )
copy_asked NotUnderstood rows words met read size word other = absurd (read size word other)
copy_asked _ rows words met read size word other = absurd read

pub asked : (asked : Asked) (found : Option (Text × List Row)) (words : List Text) → IsReadOf found asked → found ≡ subcommand_of program_app words
    → fault_of program_app words ≡ [] → IsAskedBy words asked
asked given found words read same none = go (faultless_words words none)
  where
    go : IsSubcommand (subcommand_of program_app words) → IsAskedBy words given
    go (entered_run h) = run_asked given h.0 words (none, h.1) (read.0 h.0 (same ∙ h.1)) h.2
    go (entered_init h) = init_asked given h.0 words (none, h.1) (read.1 h.0 (same ∙ h.1)) h.2 h.3
    go (entered_recover h) = recover_asked given h.0 words (none, h.1) (read.2 h.0 (same ∙ h.1)) h.2 h.3
    go (entered_inspect h) = inspect_asked given h.0 words (none, h.1) (read.3 h.0 (same ∙ h.1)) h.2
    go (entered_lines h) = lines_asked given h.0 words (none, h.1) (read.4 h.0 (same ∙ h.1))
    go (entered_check h) = check_asked given h.0 words (none, h.1) (read.5 h.0 (same ∙ h.1)) h.2 h.3
    go (entered_dump h) = dump_asked given h.0 words (none, h.1) (read.6 h.0 (same ∙ h.1)) h.2 h.3 h.4
    go (entered_draw h) = draw_asked given h.0 words (none, h.1) (read.7 h.0 (same ∙ h.1)) h.2
    go (entered_copy h) = copy_asked given h.0 words (none, h.1) (read.8 h.0 (same ∙ h.1)) h.2 h.3 h.4

pub no_fault : (c : Command) (words : List Text) → app_of c ≡ program_app → fault_of (app_of c) words ≡ []
    → fault_of program_app words ≡ []
no_fault c words is none = ap (λ (a : App). fault_of a words) (sym is) ∙ none

pub asks_for : (c : Command) (words : List Text) (k wanted : ErrorKind) → app_of c ≡ program_app → k ≡ wanted → (wanted ≡ OutOfMemory → ⊥)
    → (k ≡ OutOfMemory) ⊎ IsAmong k (fault_of (app_of c) words) → IsAmong wanted (fault_of program_app words)
asks_for c words k wanted is same other (inl memory) = absurd (other (sym same ∙ memory))
asks_for c words k wanted is same other (inr among) =
    subst (λ (a : App). IsAmong wanted (fault_of a words)) is (subst (λ (j : ErrorKind). IsAmong j (fault_of (app_of c) words)) same among)

pub has_other_fault : (c : Command) (words : List Text) (k seen : ErrorKind) → app_of c ≡ program_app → seen ≡ k → (seen ≡ OutOfMemory → ⊥) → (seen ≡ DisplayHelp → ⊥) → (seen ≡ DisplayVersion → ⊥)
    → (k ≡ OutOfMemory) ⊎ IsAmong k (fault_of (app_of c) words)
    → (kind : ErrorKind) × IsAmong kind (fault_of program_app words) × (kind ≡ DisplayHelp → ⊥) × (kind ≡ DisplayVersion → ⊥)
has_other_fault c words k seen is same memory help version (inl bad) = absurd (memory (same ∙ bad))
has_other_fault c words k seen is same memory help version (inr among) =
    (k, subst (λ (a : App). IsAmong k (fault_of a words)) is among, λ e. help (same ∙ e), λ e. version (same ∙ e))

-- ---- the command that is made

pub adds_option : (old new : Command) (a : Arg) (app : App) (r : Rule) → AddsArg old a new → IsLike old app → rule_of a ≡ r → a.global ≡ false
    → IsLike new (with_rule app r)
adds_option old new a app r added is rule local = (
  added.shape local ∙ ap₂ with_rule is.0 rule,
  added.globals ∙ rw (is.1, local) refl,
)

pub adds_subcommand : (old sub new : Command) (app below : App) → AddsSubcommand old sub new → IsLike old app → IsLike sub below
    → IsLike new (with_subcommand app below.top)
adds_subcommand old sub new app below added is under = (
  added.shape under.1 ∙ ap₂ with_subcommand is.0 (ap (λ (a : App). a.top) under.0),
  added.globals ∙ rw (is.1, under.1) refl,
)

-- what an option takes may be said otherwise
pub takes : (command : Command) (app : App) (rule : ValueParser → Rule) (p q : ValueParser) → p ≡ q → IsLike command (with_rule app (rule p)) → IsLike command (with_rule app (rule q))
takes command app rule p q same like = subst (λ (r : ValueParser). IsLike command (with_rule app (rule r))) same like

-- the first parts of pairs
first_parts : {A B C : Type 0} (f : A → B) (g : A → C) (o : Option A) → option_map f o ≡ option_map (λ (p : B × C). p.0) (option_map (λ a. (f a, g a)) o)
first_parts f g None = refl
first_parts f g (Some a) = refl

-- the subcommand that was found has one name
pub one_name : (m : ArgMatches) (name other : Text) (rows : List Row) → Some name ≡ subcommand_name_of m → subcommand_rows_of m ≡ Some (other, rows) → name ≡ other
one_name m name other rows named is =
    same_Some name other (named ∙ first_parts _ _ (out-ArgMatches m).subcommand ∙ ap (λ (found : Option (Text × List Row)). option_map (λ p. p.0) found) is)
