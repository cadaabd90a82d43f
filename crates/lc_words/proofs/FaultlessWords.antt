-- Words with no fault name one of the subcommands, with a number in its range for each option of a size, and the word
-- that the subcommand wants.
use Rattle.std.proofs.Common.{◌≡◌, ◌<◌, ◌^◌, ◌&&◌, ℕ, Bool, List, [], Option, Some, None, true, false, is_some, refl, sym, cond, inl, inr, codes, arith}
use Rattle.std.specs.List.{list_any, slice_index_or}
use Rattle.std.specs.Option.{option_map, option_map_or}
use Rattle.std.specs.Str.{bytes_eq}
use Rattle.std.proofs.lemmas.Slice.Eq.{bytes_eq-Decides}
use Rattle.clap.specs.Facts.{parser_of_value}
use Rattle.clap.specs.Faults.{entered_fault, level_fault}
use Rattle.clap.specs.Simple.{App, Shape, argument_words, built, entered, filled, label_of, names_of, new_shape, rows_at, with_index}
use Rattle.clap.specs.ValueTests.{accepts}
use Rattle.clap.specs.Walk.{answers_to, arg_by_id, finished, nothing_held, rows_after, settled, walk, walk_from}
use Rattle.clap.specs.Words.{Row, Text, fault_of, subcommand_of}
use Rattle.clap.specs.declared.builder.value_parser.ValueParser.{ValueParser}
use Rattle.clap.specs.declared.builder.value_parser.ValueParser.TheVariants as vp
use Rattle.lc_record.proofs.ListLemmas.{true_from_or-false as or_false}
use Rattle.lc_words.specs.CommandLine.{HasNumberIn, HasSizeAt, HasWord, flag_rule, from_to, number_rule, option_rule, program_app, store_rule, word_rule}
use Rattle.lc_words.proofs.OptionRows.{AllFit, AllHold, Fits, StopsElse, defaults_made, has_default, level_parts, needs_subcommand, nothing_missing, required_has_row, row_read, rows_hold, walk_stops}
use Rattle.lc_words.proofs.OptionNumbers.{in_range}

abbrev program : App
program = built program_app

-- the subcommands of the built program
abbrev sub : ℕ → Shape
sub i = slice_index_or program.subs i (new_shape [])

abbrev run : Shape
run = sub 0

abbrev init : Shape
init = sub 1

abbrev recover : Shape
recover = sub 2

abbrev inspect : Shape
inspect = sub 3

abbrev lines : Shape
lines = sub 4

abbrev check : Shape
check = sub 5

abbrev dump : Shape
dump = sub 6

abbrev draw : Shape
draw = sub 7

abbrev copy : Shape
copy = sub 8

abbrev help : Shape
help = sub 9

-- what the option of a subcommand takes
abbrev taken : Shape → Text → ValueParser
taken s id = option_map_or (λ a. parser_of_value a.parser) (arg_by_id s.rules id) vp.String

-- ---- the options of each subcommand

module _ (s : Shape) where
  number_fits : (i : ℕ) (name default : Text) (least most : ℕ) → taken s name ≡ from_to least most → accepts false (from_to least most) default ≡ true
      → Fits (taken s) (with_index i (filled (option_rule name default (from_to least most))))
  number_fits i name default least most is passed = inl (record {
    action = inl refl;
    parser = sym is;
    case = refl;
    some = inr refl;
    defaults = rw (is, passed) refl;
  })

  word_fits : (i : ℕ) (name : Text) → taken s name ≡ vp.String → Fits (taken s) (with_index i (filled (word_rule name)))
  word_fits i name is = inl (record {
    action = inl refl;
    parser = sym is;
    case = refl;
    some = inr refl;
    defaults = refl;
  })

  number_word_fits : (i : ℕ) (name : Text) → taken s name ≡ from_to 0 4294967295 → Fits (taken s) (with_index i (filled (number_rule name)))
  number_word_fits i name is = inl (record {
    action = inl refl;
    parser = sym is;
    case = refl;
    some = inr refl;
    defaults = refl;
  })

store_fits : (i : ℕ) → Fits (taken run) (with_index i (filled store_rule))
store_fits i = inl (record {
  action = inl refl;
  parser = refl;
  case = refl;
  some = inr refl;
  defaults = refl;
})

flag_fits : (s : Shape) (i : ℕ) (name : Text) → taken s name ≡ taken inspect (codes "reverse") → Fits (taken s) (with_index i (filled (flag_rule name)))
flag_fits s i name is = inl (record {
  action = inr refl;
  parser = sym is;
  case = refl;
  some = inl refl;
  defaults = rw is refl;
})

run_fits : AllFit (taken run) run.rules
run_fits = (
  number_fits run 1 (codes "nodes") (codes "1") 1 8 refl refl,
  (
    number_fits run 1 (codes "threads") (codes "1") 1 16 refl refl,
    (
      number_fits run 1 (codes "segments") (codes "1") 1 16 refl refl,
      (
        number_fits run 1 (codes "pages") (codes "1") 1 1024 refl refl,
        (
          number_fits run 1 (codes "words") (codes "64") 64 4096 refl refl,
          (
            store_fits 1,
            (
              flag_fits run 1 (codes "follow") refl,
              (
                flag_fits run 1 (codes "number") refl,
                (flag_fits run 1 (codes "as-found") refl, (inr (record { action = refl; defaults = refl }), tt)),
              ),
            ),
          ),
        ),
      ),
    ),
  ),
)

init_fits : AllFit (taken init) init.rules
init_fits = (
  word_fits init 1 (codes "folder") refl,
  (
    number_fits init 2 (codes "nodes") (codes "1") 1 8 refl refl,
    (
      number_fits init 2 (codes "threads") (codes "1") 1 16 refl refl,
      (
        number_fits init 2 (codes "segments") (codes "1") 1 16 refl refl,
        (
          number_fits init 2 (codes "pages") (codes "1") 1 1024 refl refl,
          (
            number_fits init 2 (codes "words") (codes "64") 64 4096 refl refl,
            (inr (record { action = refl; defaults = refl }), tt),
          ),
        ),
      ),
    ),
  ),
)

recover_fits : AllFit (taken recover) recover.rules
recover_fits = (
  word_fits recover 1 (codes "folder") refl,
  (
    number_fits recover 2 (codes "nodes") (codes "1") 1 8 refl refl,
    (
      number_fits recover 2 (codes "threads") (codes "1") 1 16 refl refl,
      (
        number_fits recover 2 (codes "segments") (codes "1") 1 16 refl refl,
        (
          number_fits recover 2 (codes "pages") (codes "1") 1 1024 refl refl,
          (
            number_fits recover 2 (codes "words") (codes "64") 64 4096 refl refl,
            (flag_fits recover 2 (codes "as-found") refl, (inr (record { action = refl; defaults = refl }), tt)),
          ),
        ),
      ),
    ),
  ),
)

check_fits : AllFit (taken check) check.rules
check_fits = (
  word_fits check 1 (codes "folder") refl,
  (
    number_fits check 2 (codes "nodes") (codes "1") 1 8 refl refl,
    (
      number_fits check 2 (codes "threads") (codes "1") 1 16 refl refl,
      (
        number_fits check 2 (codes "segments") (codes "1") 1 16 refl refl,
        (
          number_fits check 2 (codes "pages") (codes "1") 1 1024 refl refl,
          (
            number_fits check 2 (codes "words") (codes "64") 64 4096 refl refl,
            (
              flag_fits check 2 (codes "as-found") refl,
              (flag_fits check 2 (codes "json") refl, (inr (record { action = refl; defaults = refl }), tt)),
            ),
          ),
        ),
      ),
    ),
  ),
)

dump_fits : AllFit (taken dump) dump.rules
dump_fits = (
  word_fits dump 1 (codes "folder") refl,
  (
    number_word_fits dump 2 (codes "segment") refl,
    (number_word_fits dump 3 (codes "page") refl, (inr (record { action = refl; defaults = refl }), tt)),
  ),
)

draw_fits : AllFit (taken draw) draw.rules
draw_fits = (word_fits draw 1 (codes "folder") refl, (inr (record { action = refl; defaults = refl }), tt))

copy_fits : AllFit (taken copy) copy.rules
copy_fits = (
  word_fits copy 1 (codes "folder") refl,
  (
    word_fits copy 2 (codes "to") refl,
    (
      number_fits copy 3 (codes "nodes") (codes "1") 1 8 refl refl,
      (
        number_fits copy 3 (codes "threads") (codes "1") 1 16 refl refl,
        (
          number_fits copy 3 (codes "segments") (codes "1") 1 16 refl refl,
          (
            number_fits copy 3 (codes "pages") (codes "1") 1 1024 refl refl,
            (
              number_fits copy 3 (codes "words") (codes "64") 64 4096 refl refl,
              (inr (record { action = refl; defaults = refl }), tt),
            ),
          ),
        ),
      ),
    ),
  ),
)

inspect_fits : AllFit (taken inspect) inspect.rules
inspect_fits = (
  word_fits inspect 1 (codes "file") refl,
  (flag_fits inspect 2 (codes "reverse") refl, (inr (record { action = refl; defaults = refl }), tt)),
)

-- ---- what a subcommand has after words with no fault

-- the option of a number has this range and a default
abbrev IsOption : Shape → Text → ℕ → ℕ → Type 0
IsOption s name least most = (taken s name ≡ from_to least most) × (list_any (has_default name) s.rules ≡ true)

module _ (s : Shape) (fits : AllFit (taken s) s.rules) where
  number_in : (name : Text) (least most : ℕ) (words : List Text) → IsOption s name least most → most < 2 ^ 32
      → AllHold (taken s) (rows_after s.rules [] words) → HasNumberIn name least most (rows_after s.rules [] words)
  number_in name least most words is small all =
      let rows = rows_after s.rules [] words in
      let read = row_read (taken s) name rows
      (defaults_made name s.rules (settled s.rules (walk s.rules [] nothing_held words).held).rows is.1) all in
      in_range name read.value rows least most small (rw is.0 at read.one) (rw is.0 at read.passes)

  size_at : (words : List Text) → level_fault s [] nothing_held words false [] ≡ []
      → IsOption s (codes "nodes") 1 8 → IsOption s (codes "threads") 1 16 → IsOption s (codes "segments") 1 16
      → IsOption s (codes "pages") 1 1024 → IsOption s (codes "words") 64 4096 → HasSizeAt (rows_after s.rules [] words)
  size_at words none nodes threads segments pages many =
      let all = rows_hold (taken s) s words fits none in
      record {
        nodes = number_in (codes "nodes") 1 8 words nodes (omega arith) all;
        threads = number_in (codes "threads") 1 16 words threads (omega arith) all;
        segments = number_in (codes "segments") 1 16 words segments (omega arith) all;
        pages = number_in (codes "pages") 1 1024 words pages (omega arith) all;
        words = number_in (codes "words") 64 4096 words many (omega arith) all;
      }

  word_at : (name : Text) (words : List Text) → level_fault s [] nothing_held words false [] ≡ [] → s.subcommand_negates_reqs ≡ false
      → list_any (λ a. bytes_eq a.id name && a.required) s.rules ≡ true → HasWord name (rows_after s.rules [] words)
  word_at name words none negates wanted =
      let rows = rows_after s.rules [] words in
      let parts = level_parts s [] nothing_held words false [] none in
      let has = required_has_row name s.rules rows wanted (nothing_missing s rows negates parts.3) in
      let read = row_read (taken s) name rows has (rows_hold (taken s) s words fits none) in
      record { word = read.value; read = read.first }

  number_word_at : (name : Text) (words : List Text) → level_fault s [] nothing_held words false [] ≡ [] → s.subcommand_negates_reqs ≡ false
      → list_any (λ a. bytes_eq a.id name && a.required) s.rules ≡ true → taken s name ≡ from_to 0 4294967295 → HasNumberIn name 0 4294967295 (rows_after s.rules [] words)
  number_word_at name words none negates wanted is =
      let read_rows = rows_after s.rules [] words in
      let parts = level_parts s [] nothing_held words false [] none in
      let has = required_has_row name s.rules read_rows wanted (nothing_missing s read_rows negates parts.3) in
      let read = row_read (taken s) name read_rows has (rows_hold (taken s) s words fits none) in
      in_range name read.value read_rows 0 4294967295 (omega arith) (rw is at read.one) (rw is at read.passes)

-- ---- the subcommand that was entered

-- the name and the options of the subcommand
abbrev Found : Type 0
Found = Option (Text × List Row)

abbrev pub IsRun : Found → Type 0
IsRun found = (rows : List Row) × (found ≡ Some (codes "run", rows)) × HasSizeAt rows

abbrev pub IsInit : Found → Type 0
IsInit found = (rows : List Row) × (found ≡ Some (codes "init", rows)) × HasSizeAt rows × HasWord (codes "folder") rows

abbrev pub IsRecover : Found → Type 0
IsRecover found = (rows : List Row) × (found ≡ Some (codes "recover", rows)) × HasSizeAt rows × HasWord (codes "folder") rows

abbrev pub IsInspect : Found → Type 0
IsInspect found = (rows : List Row) × (found ≡ Some (codes "inspect", rows)) × HasWord (codes "file") rows

abbrev pub IsLines : Found → Type 0
IsLines found = (rows : List Row) × (found ≡ Some (codes "lines", rows))

abbrev pub IsCheck : Found → Type 0
IsCheck found = (rows : List Row) × (found ≡ Some (codes "check", rows)) × HasSizeAt rows × HasWord (codes "folder") rows

abbrev pub IsDump : Found → Type 0
IsDump found = (rows : List Row) × (found ≡ Some (codes "dump", rows)) × HasWord (codes "folder") rows
    × HasNumberIn (codes "segment") 0 4294967295 rows × HasNumberIn (codes "page") 0 4294967295 rows

abbrev pub IsDraw : Found → Type 0
IsDraw found = (rows : List Row) × (found ≡ Some (codes "draw", rows)) × HasWord (codes "folder") rows

abbrev pub IsCopy : Found → Type 0
IsCopy found = (rows : List Row) × (found ≡ Some (codes "copy", rows)) × HasSizeAt rows × HasWord (codes "folder") rows × HasWord (codes "to") rows

-- one of the subcommands, with what it wants
pub data IsSubcommand (found : Option (Text × List Row)) : Type 0 where
  entered_run : IsRun found → IsSubcommand found
  entered_init : IsInit found → IsSubcommand found
  entered_recover : IsRecover found → IsSubcommand found
  entered_inspect : IsInspect found → IsSubcommand found
  entered_lines : IsLines found → IsSubcommand found
  entered_check : IsCheck found → IsSubcommand found
  entered_dump : IsDump found → IsSubcommand found
  entered_draw : IsDraw found → IsSubcommand found
  entered_copy : IsCopy found → IsSubcommand found

run_at : (words : List Text) → level_fault run [] nothing_held words false [] ≡ [] → IsRun (Some (rows_at run words))
run_at words none = (
  rows_after run.rules [] words,
  refl,
  size_at run run_fits words none (refl, refl) (refl, refl) (refl, refl) (refl, refl) (refl, refl),
)

init_at : (words : List Text) → level_fault init [] nothing_held words false [] ≡ [] → IsInit (Some (rows_at init words))
init_at words none = (
  rows_after init.rules [] words,
  refl,
  size_at init init_fits words none (refl, refl) (refl, refl) (refl, refl) (refl, refl) (refl, refl),
  word_at init init_fits (codes "folder") words none refl refl,
)

recover_at : (words : List Text) → level_fault recover [] nothing_held words false [] ≡ [] → IsRecover (Some (rows_at recover words))
recover_at words none = (
  rows_after recover.rules [] words,
  refl,
  size_at recover recover_fits words none (refl, refl) (refl, refl) (refl, refl) (refl, refl) (refl, refl),
  word_at recover recover_fits (codes "folder") words none refl refl,
)

check_at : (words : List Text) → level_fault check [] nothing_held words false [] ≡ [] → IsCheck (Some (rows_at check words))
check_at words none = (
  rows_after check.rules [] words,
  refl,
  size_at check check_fits words none (refl, refl) (refl, refl) (refl, refl) (refl, refl) (refl, refl),
  word_at check check_fits (codes "folder") words none refl refl,
)

dump_at : (words : List Text) → level_fault dump [] nothing_held words false [] ≡ [] → IsDump (Some (rows_at dump words))
dump_at words none = (
  rows_after dump.rules [] words,
  refl,
  word_at dump dump_fits (codes "folder") words none refl refl,
  number_word_at dump dump_fits (codes "segment") words none refl refl refl,
  number_word_at dump dump_fits (codes "page") words none refl refl refl,
)

draw_at : (words : List Text) → level_fault draw [] nothing_held words false [] ≡ [] → IsDraw (Some (rows_at draw words))
draw_at words none = (
  rows_after draw.rules [] words,
  refl,
  word_at draw draw_fits (codes "folder") words none refl refl,
)

copy_at : (words : List Text) → level_fault copy [] nothing_held words false [] ≡ [] → IsCopy (Some (rows_at copy words))
copy_at words none = (
  rows_after copy.rules [] words,
  refl,
  size_at copy copy_fits words none (refl, refl) (refl, refl) (refl, refl) (refl, refl) (refl, refl),
  word_at copy copy_fits (codes "folder") words none refl refl,
  word_at copy copy_fits (codes "to") words none refl refl,
)

inspect_at : (words : List Text) → level_fault inspect [] nothing_held words false [] ≡ [] → IsInspect (Some (rows_at inspect words))
inspect_at words none = (
  rows_after inspect.rules [] words,
  refl,
  word_at inspect inspect_fits (codes "file") words none refl refl,
)

-- what was entered is one of the subcommands
subcommand_entered : (stop : Option (Text × List Text)) → StopsElse stop → is_some (entered program stop) ≡ true → entered_fault program stop ≡ []
    → IsSubcommand (entered program stop)
subcommand_entered None stops has none = cc
subcommand_entered (Some p) stops has none =
    go (answers p.0 0) (answers p.0 1) (answers p.0 2) (answers p.0 3) (answers p.0 4) (answers p.0 5) (answers p.0 6) (answers p.0 7) (answers p.0 8) (answers p.0 9) refl has none
  where
    answers : Text → ℕ → Bool
    answers word i = answers_to word (label_of (sub i))

    met : Bool → Bool → Bool → Bool → Bool → Bool → Bool → Bool → Bool → Bool → Option Shape
    met a b c d e f g h i j =
        cond a (Some run) (cond b (Some init) (cond c (Some recover) (cond d (Some inspect) (cond e (Some lines) (cond f (Some check) (cond g (Some dump) (cond h (Some draw) (cond i (Some copy) (cond j (Some help) None)))))))))

    go : (a b c d e f g h i j : Bool) → answers_to p.0 (label_of help) ≡ j → is_some (option_map (λ s. rows_at s p.1) (met a b c d e f g h i j)) ≡ true
        → option_map_or (λ s. level_fault s [] nothing_held p.1 false []) (met a b c d e f g h i j) [] ≡ []
        → IsSubcommand (option_map (λ s. rows_at s p.1) (met a b c d e f g h i j))
    go true b c d e f g h i j is some ok = entered_run (run_at p.1 ok)
    go false true c d e f g h i j is some ok = entered_init (init_at p.1 ok)
    go false false true d e f g h i j is some ok = entered_recover (recover_at p.1 ok)
    go false false false true e f g h i j is some ok = entered_inspect (inspect_at p.1 ok)
    go false false false false true f g h i j is some ok = entered_lines (rows_after lines.rules [] p.1, refl)
    go false false false false false true g h i j is some ok = entered_check (check_at p.1 ok)
    go false false false false false false true h i j is some ok = entered_dump (dump_at p.1 ok)
    go false false false false false false false true i j is some ok = entered_draw (draw_at p.1 ok)
    go false false false false false false false false true j is some ok = entered_copy (copy_at p.1 ok)
    go false false false false false false false false false false is some ok = cc
    go false false false false false false false false false true is some ok =
        let same : codes "help" ≡ p.0 = (bytes_eq-Decides (codes "help") p.0).0 (or_false _ is) in
        let bad : bytes_eq p.0 (codes "help") ≡ true = (bytes_eq-Decides p.0 (codes "help")).1 (sym same) in
        cc

pub faultless_words : (words : List Text) → fault_of program_app words ≡ [] → IsSubcommand (subcommand_of program_app words)
faultless_words words none =
    let after = argument_words program_app words in
    let end = walk program.top.rules (names_of program) nothing_held after in
    let parts = level_parts program.top (names_of program) nothing_held after (is_some (entered program end.stopped)) (entered_fault program end.stopped) none in
    let has = needs_subcommand program.top (finished program.top.rules end.held) (is_some (entered program end.stopped)) refl parts.3 in
    let stops = walk_stops program.top refl (names_of program) after (walk_from nothing_held) parts.0 tt in
    subcommand_entered end.stopped stops has parts.1
