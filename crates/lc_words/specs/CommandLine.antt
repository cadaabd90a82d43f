-- What a command line asks for.
use Rattle.std.specs.Prelude.{◌≡◌, ◌≤◌, ◌^◌, ◌&&◌, ◌||◌, not, ℕ, Bool, pos, List, [], ◌∷◌, Option, Some, None, true, false, codes, nat_lt, if◌then◌else◌, option_and_then, option_map, find, String, string_bytes}
use Rattle.std.specs.Option.{option_map_or}
use Rattle.std.specs.Str.{bytes_eq}
use Rattle.std.specs.Str.Parse.{digits_value, without_leading_plus}
use Rattle.clap.specs.ValueTests.{is_numeral}
use Rattle.clap.specs.Words.{App, IsAmong, Row, Rule, Text, app_of, fault_of, first_of, new_app, new_rule, one_of, subcommand_of, with_rule, with_subcommand}
use Rattle.clap.specs.declared.builder.action.ArgAction.TheVariants.{SetTrue}
use Rattle.clap.specs.declared.builder.command.Command.{Command}
use Rattle.clap.specs.declared.builder.command.Command.TheViews.{out-Command as fields_of}
use Rattle.clap.specs.declared.error.kind.ErrorKind.{ErrorKind}
use Rattle.clap.specs.declared.error.kind.ErrorKind.TheVariants.{DisplayHelp, DisplayVersion}
use Rattle.clap.specs.declared.builder.value_parser.ValueParser.{ValueParser}
use Rattle.clap.specs.declared.builder.value_parser.ValueParser.TheVariants.{Signed}
use Rattle.clap.specs.declared.parser.matches.ValueSource.{ValueSource}
use Rattle.clap.specs.declared.parser.matches.ValueSource.TheVariants.{CommandLine}
use Rattle.lc_record.specs.declared.geometry.Geometry.{Geometry}
use Rattle.lc_words.specs.declared.asked.Asked.{Asked}
use Rattle.lc_words.specs.declared.asked.Asked.TheVariants.{Run, Init, Recover, Check, Dump, Draw, Copy, Inspect, Lines, Help, Version, Faulty, NotUnderstood}
use Rattle.lc_words.specs.declared.run_store.RunStore.{RunStore}
use Rattle.lc_words.specs.declared.run_store.RunStore.TheVariants.{New, InFolder}
use Rattle.lc_words.specs.declared.size.Size.{Size}
use Rattle.lc_words.specs.declared.size.Size.TheVariants.{Given, AsFound}
use Rattle.lc_words.specs.declared.wanted.Wanted.{Wanted}
use Rattle.std.specs.Global.{Global}

-- ---- the words that are understood

-- the numbers in this range
abbrev pub from_to : ℕ → ℕ → ValueParser
from_to least most = Signed (pos least) (pos most)

-- an option of one value: its name, its default, and what it takes
abbrev pub option_rule : Text → Text → ValueParser → Rule
option_rule name default parser = record (new_rule name) {
  long = Some name;
  value_names = 1;
  defaults = default ∷ [];
  parser = Some parser;
}

-- an option of one word, with no default
abbrev pub store_rule : Rule
store_rule = record (new_rule (codes "store")) { long = Some (codes "store"); value_names = 1 }

-- a word that has to be there, with no name before it
abbrev pub word_rule : Text → Rule
word_rule name = record (new_rule name) { value_names = 1; required = true }

-- a number of 32 bits that has to be there, with no name before it
abbrev pub number_rule : Text → Rule
number_rule name = record (new_rule name) { value_names = 1; required = true; parser = Some (from_to 0 4294967295) }

-- a flag
abbrev pub flag_rule : Text → Rule
flag_rule name = record (new_rule name) { long = Some name; action = Some SetTrue }

-- the command with the options of a store's size
abbrev pub with_sizes : App → App
with_sizes app =
    with_rule (with_rule (with_rule (with_rule (with_rule app
    (option_rule (codes "nodes") (codes "1") (from_to 1 8)))
    (option_rule (codes "threads") (codes "1") (from_to 1 16)))
    (option_rule (codes "segments") (codes "1") (from_to 1 16)))
    (option_rule (codes "pages") (codes "1") (from_to 1 1024)))
    (option_rule (codes "words") (codes "64") (from_to 64 4096))

-- the subcommands
abbrev pub run_app : App
run_app = with_rule (with_rule (with_rule (with_rule (with_sizes (new_app (codes "run"))) store_rule) (flag_rule (codes "follow"))) (flag_rule (codes "number"))) (flag_rule (codes "as-found"))

-- over a folder
abbrev pub folder_app : Text → App
folder_app name = with_rule (new_app name) (word_rule (codes "folder"))

-- over a store whose size is given, or told by its files
abbrev pub sized_app : Text → App
sized_app name = with_rule (with_sizes (folder_app name)) (flag_rule (codes "as-found"))

abbrev pub init_app : App
init_app = with_sizes (folder_app (codes "init"))

abbrev pub recover_app : App
recover_app = sized_app (codes "recover")

abbrev pub check_app : App
check_app = with_rule (sized_app (codes "check")) (flag_rule (codes "json"))

abbrev pub dump_app : App
dump_app = with_rule (with_rule (folder_app (codes "dump")) (number_rule (codes "segment"))) (number_rule (codes "page"))

abbrev pub draw_app : App
draw_app = folder_app (codes "draw")

abbrev pub copy_app : App
copy_app = with_sizes (with_rule (folder_app (codes "copy")) (word_rule (codes "to")))

abbrev pub inspect_app : App
inspect_app = with_rule (with_rule (new_app (codes "inspect")) (word_rule (codes "file"))) (flag_rule (codes "reverse"))

abbrev pub lines_app : App
lines_app = new_app (codes "lines")

-- the program, without its subcommands
abbrev pub top_app : App
top_app = record {
  top = record (new_app (codes "lcrvm")).top { subcommand_required = true; has_version = true };
  subs = [];
}

-- the whole command line
abbrev pub program_app : App
program_app = with_subcommand (with_subcommand (with_subcommand (with_subcommand (with_subcommand (with_subcommand (with_subcommand (with_subcommand (with_subcommand top_app
    run_app.top) init_app.top) recover_app.top) inspect_app.top) lines_app.top) check_app.top) dump_app.top) draw_app.top) copy_app.top

-- a command that is read so, and has no argument for its subcommands too
abbrev pub IsLike : Command → App → Type 0
IsLike command app = (app_of command ≡ app) × ((fields_of command).has_globals ≡ false)

-- ---- what the options of a subcommand say

-- the number of 32 bits that the text writes in decimal
abbrev pub number_of_text : Text → Option ℕ
number_of_text text =
    let ds = without_leading_plus text in
    if is_numeral ds && nat_lt (digits_value 10 ds) (2 ^ 32) then Some (digits_value 10 ds) else None

-- the number that the option has
abbrev pub number_at : Text → List Row → Option ℕ
number_at name rows = option_and_then number_of_text (one_of name rows)

-- these are the numbers of the options
abbrev pub HasNumbersAt : List Row → Geometry → Type 0
HasNumbersAt rows g = (number_at (codes "nodes") rows ≡ Some g.nodes)
    × (number_at (codes "threads") rows ≡ Some g.threads)
    × (number_at (codes "segments") rows ≡ Some g.segments)
    × (number_at (codes "pages") rows ≡ Some g.pages)
    × (number_at (codes "words") rows ≡ Some g.words)

-- this is the word of that name, where there is one
abbrev pub HasText : {Z : Type 0} → Text → List Row → Option (String Z) → Type 0
HasText name rows text = option_map string_bytes text ≡ first_of name rows

-- a value that was given, and is no default
abbrev pub comes_from_words : Option ValueSource → Bool
comes_from_words (Some CommandLine) = true
comes_from_words _ = false

-- the flag of that name is among the words
abbrev pub is_among_words : Text → List Row → Bool
is_among_words name rows = comes_from_words (option_and_then (λ row. row.source) (find (λ row. bytes_eq row.id name) rows))

-- the number of the option that is among the words, if it is
abbrev pub given_at : Text → List Row → Option ℕ
given_at name rows = if is_among_words name rows then number_at name rows else None

-- one of the numbers that files tell is among the words
abbrev pub is_any_given : List Row → Bool
is_any_given rows =
    ((is_among_words (codes "nodes") rows || is_among_words (codes "segments") rows) || is_among_words (codes "pages") rows) || is_among_words (codes "words") rows

-- the size is to be that of files, and there are none
abbrev pub HasNoFiles : List Row → Type 0
HasNoFiles rows = (is_among_words (codes "as-found") rows ≡ true) × HasText {Z = Global} (codes "store") rows None

-- these are the numbers of the options that are given, and that of the threads
abbrev pub IsWantedAt : List Row → Wanted → Type 0
IsWantedAt rows w = (w.nodes ≡ given_at (codes "nodes") rows)
    × (number_at (codes "threads") rows ≡ Some w.threads)
    × (w.segments ≡ given_at (codes "segments") rows)
    × (w.pages ≡ given_at (codes "pages") rows)
    × (w.words ≡ given_at (codes "words") rows)

-- the numbers of the options, or with the flag those that are given
abbrev pub HasSize : List Row → Size → Type 0
HasSize rows (Given g) = HasNumbersAt rows g × (is_among_words (codes "as-found") rows ≡ false)
HasSize rows (AsFound w) = IsWantedAt rows w × (is_among_words (codes "as-found") rows ≡ true)

-- the same of a check; where no number that the files tell is given they tell all
abbrev pub HasCheckedSize : List Row → Size → Type 0
HasCheckedSize rows (Given g) = HasNumbersAt rows g × ((is_among_words (codes "as-found") rows || not (is_any_given rows)) ≡ false)
HasCheckedSize rows (AsFound w) = IsWantedAt rows w × ((is_among_words (codes "as-found") rows || not (is_any_given rows)) ≡ true)

-- what a run is to run on
abbrev pub HasRunStore : List Row → RunStore → Type 0
HasRunStore rows (New g) = HasSize rows (Given g) × HasText {Z = Global} (codes "store") rows None
HasRunStore rows (InFolder folder size) = HasSize rows size × HasText (codes "store") rows (Some folder)

-- the option has a number from `least` to `most`
pub record HasNumberIn (name : Text) (least most : ℕ) (rows : List Row) : Type 0 where
  pub number : ℕ
  pub read : number_at name rows ≡ Some number
  pub not_less : least ≤ number
  pub not_more : number ≤ most

-- each option has a number in its range
pub record HasSizeAt (rows : List Row) : Type 0 where
  pub nodes : HasNumberIn (codes "nodes") 1 8 rows
  pub threads : HasNumberIn (codes "threads") 1 16 rows
  pub segments : HasNumberIn (codes "segments") 1 16 rows
  pub pages : HasNumberIn (codes "pages") 1 1024 rows
  pub words : HasNumberIn (codes "words") 64 4096 rows

-- a word of that name is there
pub record HasWord (name : Text) (rows : List Row) : Type 0 where
  pub word : Text
  pub read : first_of name rows ≡ Some word

-- ---- what is asked for

-- the options of the subcommand that the words name
abbrev pub options_of : List Text → List Row
options_of words = option_map_or (λ found. found.1) (subcommand_of program_app words) []

-- the words have no fault, and name this subcommand
abbrev pub IsCallOf : Text → List Text → Type 0
IsCallOf name words = (fault_of program_app words ≡ []) × (subcommand_of program_app words ≡ Some (name, options_of words))

-- a run in memory is to have the size that is found
abbrev pub IsFoundInMemory : List Text → Type 0
IsFoundInMemory words = IsCallOf (codes "run") words × HasNoFiles (options_of words)

-- a subcommand is asked for by words with no fault that name it, and has their numbers, texts and flags; help and the
-- version by words that ask for it; faulty words have another fault; words that are not understood want of a store in memory the
-- size that is found
abbrev pub IsAskedBy : List Text → Asked → Type 0
IsAskedBy words (Run store follow number) = IsCallOf (codes "run") words × HasRunStore (options_of words) store
    × (follow ≡ is_among_words (codes "follow") (options_of words)) × (number ≡ is_among_words (codes "number") (options_of words))
IsAskedBy words (Init folder geometry) = IsCallOf (codes "init") words × HasNumbersAt (options_of words) geometry
    × HasText (codes "folder") (options_of words) (Some folder)
IsAskedBy words (Recover folder size) = IsCallOf (codes "recover") words × HasSize (options_of words) size
    × HasText (codes "folder") (options_of words) (Some folder)
IsAskedBy words (Check folder size json) = IsCallOf (codes "check") words × HasCheckedSize (options_of words) size
    × HasText (codes "folder") (options_of words) (Some folder) × (json ≡ is_among_words (codes "json") (options_of words))
IsAskedBy words (Dump folder segment page) = IsCallOf (codes "dump") words × HasText (codes "folder") (options_of words) (Some folder)
    × (number_at (codes "segment") (options_of words) ≡ Some segment) × (number_at (codes "page") (options_of words) ≡ Some page)
IsAskedBy words (Draw folder) = IsCallOf (codes "draw") words × HasText (codes "folder") (options_of words) (Some folder)
IsAskedBy words (Copy folder to wanted) = IsCallOf (codes "copy") words × HasText (codes "folder") (options_of words) (Some folder)
    × HasText (codes "to") (options_of words) (Some to) × IsWantedAt (options_of words) wanted
IsAskedBy words (Inspect file reverse) = IsCallOf (codes "inspect") words
    × HasText (codes "file") (options_of words) (Some file) × (reverse ≡ is_among_words (codes "reverse") (options_of words))
IsAskedBy words Lines = IsCallOf (codes "lines") words
IsAskedBy words (Help text) = IsAmong DisplayHelp (fault_of program_app words)
IsAskedBy words (Version text) = IsAmong DisplayVersion (fault_of program_app words)
IsAskedBy words (Faulty reason) = (kind : ErrorKind) × IsAmong kind (fault_of program_app words) × (kind ≡ DisplayHelp → ⊥) × (kind ≡ DisplayVersion → ⊥)
IsAskedBy words NotUnderstood = IsFoundInMemory words

-- what the options of each subcommand ask for
abbrev pub IsRunOf : List Row → Asked → Type 0
IsRunOf rows (Run store follow number) = HasRunStore rows store
    × (follow ≡ is_among_words (codes "follow") rows) × (number ≡ is_among_words (codes "number") rows)
IsRunOf rows NotUnderstood = HasSizeAt rows → HasNoFiles rows
IsRunOf rows _ = ⊥

abbrev pub IsInitOf : List Row → Asked → Type 0
IsInitOf rows (Init folder geometry) = HasNumbersAt rows geometry × HasText (codes "folder") rows (Some folder)
IsInitOf rows NotUnderstood = HasSizeAt rows → HasWord (codes "folder") rows → ⊥
IsInitOf rows _ = ⊥

abbrev pub IsRecoverOf : List Row → Asked → Type 0
IsRecoverOf rows (Recover folder size) = HasSize rows size × HasText (codes "folder") rows (Some folder)
IsRecoverOf rows NotUnderstood = HasSizeAt rows → HasWord (codes "folder") rows → ⊥
IsRecoverOf rows _ = ⊥

abbrev pub IsCheckOf : List Row → Asked → Type 0
IsCheckOf rows (Check folder size json) = HasCheckedSize rows size × HasText (codes "folder") rows (Some folder)
    × (json ≡ is_among_words (codes "json") rows)
IsCheckOf rows NotUnderstood = HasSizeAt rows → HasWord (codes "folder") rows → ⊥
IsCheckOf rows _ = ⊥

abbrev pub IsDumpOf : List Row → Asked → Type 0
IsDumpOf rows (Dump folder segment page) = HasText (codes "folder") rows (Some folder)
    × (number_at (codes "segment") rows ≡ Some segment) × (number_at (codes "page") rows ≡ Some page)
IsDumpOf rows NotUnderstood = HasWord (codes "folder") rows → HasNumberIn (codes "segment") 0 4294967295 rows → HasNumberIn (codes "page") 0 4294967295 rows → ⊥
IsDumpOf rows _ = ⊥

abbrev pub IsDrawOf : List Row → Asked → Type 0
IsDrawOf rows (Draw folder) = HasText (codes "folder") rows (Some folder)
IsDrawOf rows NotUnderstood = HasWord (codes "folder") rows → ⊥
IsDrawOf rows _ = ⊥

abbrev pub IsCopyOf : List Row → Asked → Type 0
IsCopyOf rows (Copy folder to wanted) = HasText (codes "folder") rows (Some folder) × HasText (codes "to") rows (Some to) × IsWantedAt rows wanted
IsCopyOf rows NotUnderstood = HasSizeAt rows → HasWord (codes "folder") rows → HasWord (codes "to") rows → ⊥
IsCopyOf rows _ = ⊥

abbrev pub IsInspectOf : List Row → Asked → Type 0
IsInspectOf rows (Inspect file reverse) = HasText (codes "file") rows (Some file) × (reverse ≡ is_among_words (codes "reverse") rows)
IsInspectOf rows NotUnderstood = HasWord (codes "file") rows → ⊥
IsInspectOf rows _ = ⊥

abbrev pub IsLinesOf : Asked → Type 0
IsLinesOf Lines = Unit {0}
IsLinesOf _ = ⊥

-- the same of the subcommand that was found, with its options
abbrev pub IsReadOf : Option (Text × List Row) → Asked → Type 0
IsReadOf found asked = ((rows : List Row) → found ≡ Some (codes "run", rows) → IsRunOf rows asked)
    × ((rows : List Row) → found ≡ Some (codes "init", rows) → IsInitOf rows asked)
    × ((rows : List Row) → found ≡ Some (codes "recover", rows) → IsRecoverOf rows asked)
    × ((rows : List Row) → found ≡ Some (codes "inspect", rows) → IsInspectOf rows asked)
    × ((rows : List Row) → found ≡ Some (codes "lines", rows) → IsLinesOf asked)
    × ((rows : List Row) → found ≡ Some (codes "check", rows) → IsCheckOf rows asked)
    × ((rows : List Row) → found ≡ Some (codes "dump", rows) → IsDumpOf rows asked)
    × ((rows : List Row) → found ≡ Some (codes "draw", rows) → IsDrawOf rows asked)
    × ((rows : List Row) → found ≡ Some (codes "copy", rows) → IsCopyOf rows asked)

-- some words ask for it
abbrev pub IsAskedBySome : Asked → Type 0
IsAskedBySome asked = (words : List Text) × IsAskedBy words asked

-- the words have a fault
abbrev pub is_faulty : Asked → Bool
is_faulty (Faulty reason) = true
is_faulty asked = false
