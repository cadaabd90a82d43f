-- The rows of a command after words with no fault: each has a value that its option takes.
use Rattle.std.proofs.Common.{◌≡◌, ◌⊎◌, ◌&&◌, ◌||◌, ℕ, Bool, zero, suc, List, [], ◌∷◌, ◌++◌, Option, Some, None, true, false, not, refl, sym, ap, subst, inl, inr, cond, codes, length, drop, is_some, nat_lt}
use Rattle.std.specs.Prelude.{⊤, encode_utf8, slice_get, find}
use Rattle.std.specs.List.{fold, list_all, list_any}
use Rattle.std.specs.Option.{option_map_or}
use Rattle.std.specs.Str.{bytes_eq, chars}
use Rattle.std.proofs.lemmas.Slice.Eq.{bytes_eq-Decides}
use Rattle.std.proofs.lemmas.Bool.{or_parts as neither, or_right}
use Rattle.clap.specs.Lexer.{long_of, short_of}
use Rattle.clap.specs.Takes.{is_given}
use Rattle.clap.specs.Facts.{explicit_source, parser_of_value, unwrap_or_range}
use Rattle.clap.specs.Kinds.{Kinds, check_kinds, or_else, range_kinds}
use Rattle.clap.specs.ValueTests.{accepts}
use Rattle.clap.specs.Words.{Row, Rule, Text, first_of, one_of}
use Rattle.clap.specs.Values.{read_as, reading_of}
use Rattle.clap.specs.Simple.{Shape}
use Rattle.clap.specs.Walk.{Held, Names, Outcome, Step, Waiting, Walk, action_of, after_flag, after_step, arg_by_id, arg_by_index, arg_by_long, arg_by_short, bundle, default_rows, flag_met, option_word, subcommand_or_other, to_positional, used_by_id, values_or_missing, at_row, attached_value, bundle_met, bundle_step, done, finished, has_row, idle, is_empty, is_pending, long_met, long_or_other, more_values, most_values, nothing_held, rows_after, next, option, option_met, plain, plain_word, positional, reacted, reading_by, refused, settled, settled_rows, short_met, short_or_plain, subcommand, subcommand_met, takes_values, takes_several, trailing, used, used_as, value, waits, walk, walk_from, walked, walked_from, with_default, with_values, without, word_met}
use Rattle.clap.specs.Faults.{action_fault, bundle_fault, check_fault, defaults_fault, level_fault, flag_word_fault, values_fault, bundle_step_fault, flags_fault, long_fault, option_fault, other_fault, react_fault, settle_fault, short_fault, step_fault, positional_fault, stray_fault, turn_fault, use_fault, walk_fault, word_fault}
use Rattle.clap.specs.declared.builder.action.ArgAction.TheVariants.{Help, Set, SetTrue}
use Rattle.clap.specs.declared.builder.value_parser.ValueParser.{ValueParser}
use Rattle.clap.specs.declared.error.kind.ErrorKind.{ErrorKind}
use Rattle.clap.specs.declared.error.kind.ErrorKind.TheVariants.{DisplayHelp, InvalidSubcommand, InvalidValue, TooManyValues}
use Rattle.clap.specs.declared.parser.matches.ValueSource.{ValueSource}
use Rattle.clap.specs.declared.parser.matches.ValueSource.TheVariants.{CommandLine, DefaultValue}
use Rattle.clap.proofs.WalkLemmas.{both}

-- ---- kinds of error

pub none_both : (a b : Kinds) → or_else a b ≡ [] → (a ≡ []) × (b ≡ [])
none_both [] b e = (refl, e)
none_both (k ∷ ks) b e = cc

test_passes : (b : Bool) (k : ErrorKind) → cond b [] (k ∷ []) ≡ [] → b ≡ true
test_passes true k e = refl
test_passes false k e = cc

test_fails : (b : Bool) (ks : Kinds) (k : ErrorKind) → cond b (k ∷ ks) [] ≡ [] → b ≡ false
test_fails true ks k e = cc
test_fails false ks k e = refl

-- what a level of the parse passes
pub level_parts : (s : Shape) (names : Names) (h : Held) (words : List Text) (has : Bool) (below : Kinds) → level_fault s names h words has below ≡ []
    → (walk_fault s names (walk_from h) words ≡ []) × (below ≡ [])
    × (settle_fault s.rules s.args_override_self (walk s.rules names h words).held ≡ [])
    × (check_fault s (finished s.rules (walk s.rules names h words).held) has ≡ [])
level_parts s names h words has below none =
    let end = (walk s.rules names h words).held in
    let one = none_both (walk_fault s names (walk_from h) words) _ none in
    let two = none_both below _ one.1 in
    let three = none_both (settle_fault s.rules s.args_override_self end) _ two.1 in
    let four = none_both (defaults_fault (settled s.rules end).rows s.rules) _ three.1 in
    (one.0, two.0, three.0, four.1)

-- a subcommand that is wanted was met
pub needs_subcommand : (s : Shape) (rows : List Row) (has : Bool) → s.subcommand_required ≡ true → check_fault s rows has ≡ [] → has ≡ true
needs_subcommand s rows true wanted none = refl
needs_subcommand s rows false wanted none = go (s.arg_required_else_help && not (list_any (λ r. explicit_source r.source) rows)) (rw wanted at none)
  where
    missing : Bool
    missing = list_any (λ a. a.required && not (is_given a.id rows)) s.rules

    go : (b : Bool) → check_kinds b true (not (s.subcommand_negates_reqs && false) && missing) ≡ [] → false ≡ true
    go true e = cc
    go false e = cc

-- ---- a walk that stops at no help

abbrev help_word : Text
help_word = codes "help"

abbrev pub StopsElse : Option (Text × List Text) → Type 0
StopsElse None = ⊤
StopsElse (Some p) = bytes_eq p.0 help_word ≡ false

abbrev GoesElse : Step → Type 0
GoesElse (subcommand name) = bytes_eq name help_word ≡ false
GoesElse _ = ⊤

module _ (s : Shape) (enabled : s.disable_help_subcommand ≡ false) (names : Names) where
  plain_goes : (waiting : Waiting) (word : Text) (h : Held) → GoesElse (plain_word s.rules waiting word h).1
  plain_goes idle word h = tt
  plain_goes positional word h = tt
  plain_goes (option id) word h = tt

  after_flag_goes : (waiting : Waiting) (word : Text) (h : Held) (o : Outcome) → GoesElse (after_flag s.rules waiting word h o).1
  after_flag_goes waiting word h done = tt
  after_flag_goes waiting word h (waits id) = tt
  after_flag_goes waiting word h plain = plain_goes waiting word h
  after_flag_goes waiting word h refused = plain_goes waiting word h

  flag_word_goes : (waiting : Waiting) (word : Text) (o : Option (Text × Option Text)) (h : Held) → GoesElse (long_or_other s.rules waiting word o h).1
  flag_word_goes waiting word (Some p) h =
      let met = long_met s.rules (arg_by_long s.rules p.0) p.1 h in
      after_flag_goes waiting word met.0 met.1
  flag_word_goes waiting word None h = go (short_of word)
    where
      go : (o : Option Text) → GoesElse (short_or_plain s.rules waiting word o h).1
      go None = plain_goes waiting word h
      go (Some flags) =
          let met = bundle s.rules flags h in
          after_flag_goes waiting word met.0 met.1

  other_goes : (o : Option Text) (waiting : Waiting) (position : ℕ) (word : Text) (h : Held) → other_fault s o word h ≡ []
      → GoesElse (subcommand_or_other s.rules o waiting position word h).1
  other_goes (Some name) waiting position word h none = go (bytes_eq name help_word) (rw enabled at none)
    where
      go : (b : Bool) → cond (b && true) (DisplayHelp ∷ InvalidSubcommand ∷ []) [] ≡ [] → b ≡ false
      go true e = cc
      go false e = refl
  other_goes None waiting position word h none = go (bytes_eq word (45 ∷ 45 ∷ []))
    where
      go : (b : Bool) → GoesElse (cond b (h, trailing position) (long_or_other s.rules waiting word (long_of word) h)).1
      go true = tt
      go false = flag_word_goes waiting word (long_of word) h

  word_goes : (is_trailing : Bool) (waiting : Waiting) (position : ℕ) (word : Text) (h : Held) → word_fault s names is_trailing waiting word h ≡ []
      → GoesElse (word_met s.rules names is_trailing waiting position word h).1
  word_goes true waiting position word h none = tt
  word_goes false waiting position word h none = other_goes (subcommand_met names waiting word) waiting position word h none

  step_stops : (word : Text) (w : Walk) (h : Held) (step : Step) → GoesElse step → StopsElse w.stopped → StopsElse (after_step s.rules word w h step).stopped
  step_stops word w h (next waiting) goes stops = stops
  step_stops word w h (trailing position) goes stops = stops
  step_stops word w h (subcommand name) goes stops = goes
  step_stops word w h value goes stops = go (arg_by_index s.rules w.position)
    where
      go : (o : Option Rule) → StopsElse (to_positional s.rules o word w h).stopped
      go None = stops
      go (Some a) = tt

  turn_stops : (w : Walk) (word : Text) → turn_fault s names w word ≡ [] → StopsElse w.stopped → StopsElse (walked s.rules names w word).stopped
  unfolding walked
  turn_stops w word none stops = go w.stopped stops none
    where
      met : Held × Step
      met = word_met s.rules names w.is_trailing w.waiting w.position word w.held

      go : (o : Option (Text × List Text)) → StopsElse o
          → cond (is_some o) [] (or_else (word_fault s names w.is_trailing w.waiting word w.held) (step_fault s w.position met.0 met.1)) ≡ []
          → StopsElse (walked_from s.rules names o w word).stopped
      go (Some p) now e = now
      go None now e = step_stops word w met.0 met.1 (word_goes w.is_trailing w.waiting w.position word w.held (none_both _ _ e).0) stops

  pub walk_stops : (words : List Text) (w : Walk) → walk_fault s names w words ≡ [] → StopsElse w.stopped → StopsElse (fold (walked s.rules names) w words).stopped
  unfolding walk_fault
  walk_stops [] w none stops = stops
  walk_stops (word ∷ words) w none stops =
      let parts = none_both _ _ none in
      walk_stops words (walked s.rules names w word) parts.1 (turn_stops w word parts.0 stops)

-- ---- rows

module _ (taken : Text → ValueParser) where
  -- the first value of the row is one that its option takes
  pub record Holds (r : Row) : Type 0 where
    pub first : Text
    pub more : List Text
    pub values : r.values ≡ first ∷ more
    pub reading : r.reading ≡ reading_of (taken r.id)
    pub passes : accepts false (taken r.id) first ≡ true

  abbrev pub AllHold : List Row → Type 0
  AllHold [] = ⊤
  AllHold (r ∷ rs) = Holds r × AllHold rs

  joined : (xs ys : List Row) → AllHold xs → AllHold ys → AllHold (xs ++ ys)
  joined [] ys a b = b
  joined (x ∷ xs) ys a b = (a.0, joined xs ys a.1 b)

  at_row_holds : (id : Text) (change : Row → List Row) (missing rows : List Row) → ((r : Row) → Holds r → AllHold (change r)) → AllHold missing
      → AllHold rows → AllHold (at_row id change missing rows)
  at_row_holds id change missing [] changes new all = new
  at_row_holds id change missing (r ∷ rs) changes new all =
      go (bytes_eq r.id id) (at_row_holds id change missing rs changes new all.1)
    where
      go : (b : Bool) → AllHold (at_row id change missing rs) → AllHold (cond b (change r ++ rs) (r ∷ at_row id change missing rs))
      go true rest = joined (change r) rs (changes r all.0) all.1
      go false rest = (all.0, rest)

  without_holds : (id : Text) (rows : List Row) → AllHold rows → AllHold (without id rows)
  without_holds id rows all = at_row_holds id (λ _. []) [] rows (λ r h. tt) tt all

  with_values_holds : (id : Text) (s : ValueSource) (v : Text) (vs : List Text) (rows : List Row) → accepts false (taken id) v ≡ true → AllHold rows
      → AllHold (with_values id (reading_of (taken id)) s (v ∷ vs) rows)
  with_values_holds id s v vs rows passed all = at_row_holds id (more_values s (v ∷ vs)) _ rows
      (λ r h. (
        record {
          first = h.first;
          more = h.more ++ v ∷ vs;
          values = ap (λ old. old ++ v ∷ vs) h.values;
          reading = h.reading;
          passes = h.passes;
        },
        tt,
      )) (
        record {
          first = v;
          more = vs;
          values = refl;
          reading = refl;
          passes = passed;
        },
        tt,
      ) all

  -- each use has a value, and that and each default pass
  pub record IsValueRule (a : Rule) : Type 0 where
    pub action : (action_of a ≡ Set) ⊎ (action_of a ≡ SetTrue)
    pub parser : parser_of_value a.parser ≡ taken a.id
    pub case : a.ignore_case ≡ false
    pub some : (is_empty a.missing ≡ false) ⊎ (nat_lt 0 (unwrap_or_range a.range).start_inclusive ≡ true)
    pub defaults : list_all (accepts false (taken a.id)) a.defaults ≡ true

  pub record IsHelpRule (a : Rule) : Type 0 where
    pub action : action_of a ≡ Help
    pub defaults : a.defaults ≡ []

  abbrev pub Fits : Rule → Type 0
  Fits a = IsValueRule a ⊎ IsHelpRule a

  abbrev pub AllFit : List Rule → Type 0
  AllFit [] = ⊤
  AllFit (a ∷ rest) = Fits a × AllFit rest

  found_fits : (p : Rule → Bool) (xs : List Rule) (a : Rule) → AllFit xs → find p xs ≡ Some a → Fits a
  found_fits p [] a all e = cc
  found_fits p (x ∷ xs) a all e = go (p x) e (λ is. found_fits p xs a all.1 is)
    where
      go : (b : Bool) → cond b (Some x) (find p xs) ≡ Some a → (find p xs ≡ Some a → Fits a) → Fits a
      go true is later = let same : x ≡ a = cc in subst Fits same all.0
      go false is later = later is

  -- a use has a value
  some_value : (a : Rule) → IsValueRule a → (values : List Text)
      → range_kinds (unwrap_or_range a.range).start_inclusive (most_values a) (length values) ≡ []
      → (v : Text) × (vs : List Text) × (values_or_missing a values ≡ v ∷ vs)
  some_value a n (v ∷ vs) range = (v, vs, refl)
  some_value a n [] range = go n.some
    where
      missing_is : (ms : List Text) → is_empty ms ≡ false → (v : Text) × (vs : List Text) × (ms ≡ v ∷ vs)
      missing_is [] none = cc
      missing_is (m ∷ ms) none = (m, ms, refl)

      refuses : nat_lt 0 (unwrap_or_range a.range).start_inclusive ≡ true → ⊥
      refuses least = let bad : InvalidValue ∷ [] ≡ [] = rw least at range in cc

      go : (is_empty a.missing ≡ false) ⊎ (nat_lt 0 (unwrap_or_range a.range).start_inclusive ≡ true)
          → (v : Text) × (vs : List Text) × (a.missing ≡ v ∷ vs)
      go (inl missing) = missing_is a.missing missing
      go (inr least) = absurd (refuses least)

  -- a use that sets its values passes each
  set_passes : (a : Rule) → IsValueRule a → (again : Bool) (values : List Text) (rows : List Row) → action_fault (action_of a) again a values rows ≡ []
      → values_fault a values ≡ []
  set_passes a n again values rows none = go n.action
    where
      go : (action_of a ≡ Set) ⊎ (action_of a ≡ SetTrue) → values_fault a values ≡ []
      go (inl is) =
          let acts : action_fault Set again a values rows ≡ [] = rw is at none in
          (none_both _ _ acts).1
      go (inr is) =
          let acts : action_fault SetTrue again a values rows ≡ [] = rw is at none in
          (none_both _ _ acts).1

  first_accepted : (a : Rule) → IsValueRule a → (v : Text) (vs : List Text) → values_fault a (v ∷ vs) ≡ [] → accepts false (taken a.id) v ≡ true
  first_accepted a n v vs none =
      let passed = test_passes (accepts a.ignore_case (parser_of_value a.parser) v) _ (none_both _ _ none).0 in
      rw (n.case, n.parser) at passed

  set_holds : (a : Rule) → IsValueRule a → (values : List Text) (rows : List Row)
      → AllHold (with_values a.id (reading_by a) CommandLine values (without a.id rows)) → AllHold (used_as (action_of a) a.id (reading_by a) values rows)
  set_holds a n values rows all = go n.action
    where
      go : (action_of a ≡ Set) ⊎ (action_of a ≡ SetTrue) → AllHold (used_as (action_of a) a.id (reading_by a) values rows)
      go (inl is) = subst (λ x. AllHold (used_as x a.id (reading_by a) values rows)) (sym is) all
      go (inr is) = subst (λ x. AllHold (used_as x a.id (reading_by a) values rows)) (sym is) all

  used_holds : (again : Bool) (a : Rule) (values : List Text) (rows : List Row) → Fits a → use_fault again a values rows ≡ [] → AllHold rows
      → AllHold (used a values rows)
  used_holds again a values rows (inr help) none all =
      subst (λ x. AllHold (used_as x a.id (reading_by a) (values_or_missing a values) rows)) (sym help.action) all
  used_holds again a values rows (inl n) none all =
      let parts = none_both (range_kinds (unwrap_or_range a.range).start_inclusive (most_values a) (length values))
      (action_fault (action_of a) again a (values_or_missing a values) rows) none in
      let some = some_value a n values parts.0 in
      let passed = first_accepted a n some.0 some.1 (subst (λ vs. values_fault a vs ≡ []) some.2 (set_passes a n again (values_or_missing a values) rows parts.1)) in
      set_holds a n (values_or_missing a values) rows
      (subst (λ vs. AllHold (with_values a.id (reading_by a) CommandLine vs (without a.id rows))) (sym some.2)
      (subst (λ p. AllHold (with_values a.id (reading_of p) CommandLine (some.0 ∷ some.1) (without a.id rows))) (sym n.parser)
      (with_values_holds a.id CommandLine some.0 some.1 (without a.id rows) passed (without_holds a.id rows all))))

  -- ---- one use, of a command with these rules

  module _ (c : List Rule) (fit : AllFit c) (again : Bool) where
    settled_rows_hold : (p : Option (Text × List Text)) (rows : List Row)
        → option_map_or (λ q. option_map_or (λ a. use_fault again a q.1 rows) (arg_by_id c q.0) []) p [] ≡ [] → AllHold rows → AllHold (settled_rows c p rows)
    settled_rows_hold None rows none all = all
    settled_rows_hold (Some q) rows none all = go (arg_by_id c q.0) refl none
      where
        go : (o : Option Rule) → arg_by_id c q.0 ≡ o → option_map_or (λ a. use_fault again a q.1 rows) o [] ≡ [] → AllHold (used_by_id o q.1 rows)
        go None found e = all
        go (Some a) found e = used_holds again a q.1 rows (found_fits _ c a fit found) e all

    settled_holds : (h : Held) → settle_fault c again h ≡ [] → AllHold h.rows → AllHold (settled c h).rows
    settled_holds h none all = settled_rows_hold h.pending h.rows none all

    reacted_holds : (a : Rule) (values : List Text) (h : Held) → Fits a → react_fault c again a values h ≡ [] → AllHold h.rows
        → AllHold (reacted c a values h).rows
    reacted_holds a values h fits none all =
        let parts = none_both _ _ none in
        used_holds again a values (settled c h).rows fits parts.1 (settled_holds h parts.0 all)

    option_holds : (a : Rule) (v : Option Text) (h : Held) → Fits a → option_fault c again a v h ≡ [] → AllHold h.rows → AllHold (option_met c a v h).0.rows
    option_holds a (Some v) h fits none all = reacted_holds a (v ∷ []) h fits none all
    option_holds a None h fits none all = settled_holds h none all

    long_holds : (o : Option Rule) (v : Option Text) (h : Held) → ((a : Rule) → o ≡ Some a → Fits a) → long_fault c again o v h ≡ [] → AllHold h.rows
        → AllHold (long_met c o v h).0.rows
    long_holds None v h fits none all = all
    long_holds (Some a) v h fits none all = go (takes_values a) v none
      where
        go : (b : Bool) (w : Option Text) → cond b (option_fault c again a w h) (cond (is_some w) (TooManyValues ∷ []) (react_fault c again a [] h)) ≡ []
            → AllHold (cond b (option_met c a w h) (flag_met c a w h)).0.rows
        go true w e = option_holds a w h (fits a refl) e all
        go false (Some w) e = all
        go false None e = reacted_holds a [] h (fits a refl) e all

    short_holds : (o : Option Rule) (rest : Text) (h : Held) (after : Held → Held × Outcome) (fault : Held → Kinds) → ((a : Rule) → o ≡ Some a → Fits a)
        → ((g : Held) → fault g ≡ [] → AllHold g.rows → AllHold (after g).0.rows)
        → short_fault c again o rest h fault ≡ [] → AllHold h.rows → AllHold (short_met c o rest h after).0.rows
    short_holds None rest h after fault fits then none all = all
    short_holds (Some a) rest h after fault fits then none all = go (takes_values a) none
      where
        go : (b : Bool) → cond b (option_fault c again a (attached_value rest) h) (or_else (react_fault c again a [] h) (fault (reacted c a [] h))) ≡ []
            → AllHold (cond b (option_met c a (attached_value rest) h) (after (reacted c a [] h))).0.rows
        go true e = option_holds a (attached_value rest) h (fits a refl) e all
        go false e =
            let parts = none_both _ _ e in
            then (reacted c a [] h) parts.1 (reacted_holds a [] h (fits a refl) parts.0 all)

    bundle_holds : (k : ℕ) (flags : Text) (skip : ℕ) (so_far : Outcome) (h : Held) → flags_fault c again k flags skip h ≡ [] → AllHold h.rows
        → AllHold (bundle_met c k flags skip so_far h).0.rows
    unfolding flags_fault bundle_met
    bundle_holds zero flags skip so_far h none all = all
    bundle_holds (suc k) flags skip so_far h none all =
        go (slice_get (chars flags) 0) skip none (λ rest n met g passed held. bundle_holds k rest n met g passed held)
      where
        go : (o : Option ℕ) (n : ℕ) → bundle_step_fault c again o flags n h (flags_fault c again k) ≡ []
            → ((rest : Text) (m : ℕ) (met : Outcome) (g : Held) → flags_fault c again k rest m g ≡ [] → AllHold g.rows
            → AllHold (bundle_met c k rest m met g).0.rows)
            → AllHold (bundle_step c o flags n so_far h (bundle_met c k)).0.rows
        go None n e later = all
        go (Some x) (suc n) e later = later (drop (length (encode_utf8 x)) flags) n so_far h e all
        go (Some x) zero e later =
            let rest = drop (length (encode_utf8 x)) flags in
            short_holds (arg_by_short c x) rest h (bundle_met c k rest 0 done) (flags_fault c again k rest 0)
            (λ a found. found_fits _ c a fit found) (λ g passed held. later rest 0 done g passed held) e all

    -- ---- one word

    plain_holds : (waiting : Waiting) (word : Text) (h : Held) → AllHold h.rows → AllHold (plain_word c waiting word h).0.rows
    plain_holds idle word h all = all
    plain_holds positional word h all = all
    plain_holds (option id) word h all = go (arg_by_id c id)
      where
        go : (o : Option Rule) → AllHold (option_word o id word h).0.rows
        go None = all
        go (Some a) = all

    after_flag_holds : (waiting : Waiting) (word : Text) (h : Held) (o : Outcome) → AllHold h.rows → AllHold (after_flag c waiting word h o).0.rows
    after_flag_holds waiting word h done all = all
    after_flag_holds waiting word h (waits id) all = all
    after_flag_holds waiting word h plain all = plain_holds waiting word h all
    after_flag_holds waiting word h refused all = plain_holds waiting word h all

    flag_word_holds : (waiting : Waiting) (word : Text) (o : Option (Text × Option Text)) (h : Held) → flag_word_fault c again o word h ≡ [] → AllHold h.rows
        → AllHold (long_or_other c waiting word o h).0.rows
    flag_word_holds waiting word (Some p) h none all =
        let met = long_met c (arg_by_long c p.0) p.1 h in
        after_flag_holds waiting word met.0 met.1 (long_holds (arg_by_long c p.0) p.1 h (λ a found. found_fits _ c a fit found) none all)
    flag_word_holds waiting word None h none all = go (short_of word) none
      where
        go : (o : Option Text) → option_map_or (λ flags. bundle_fault c again flags h) o [] ≡ [] → AllHold (short_or_plain c waiting word o h).0.rows
        go None e = plain_holds waiting word h all
        go (Some flags) e =
            let met = bundle c flags h in
            after_flag_holds waiting word met.0 met.1 (bundle_holds (length flags) flags h.skip plain (record h { skip = 0 }) e all)

  module _ (s : Shape) (fit : AllFit s.rules) (names : Names) where
    other_holds : (o : Option Text) (waiting : Waiting) (position : ℕ) (word : Text) (h : Held) → other_fault s o word h ≡ [] → AllHold h.rows
        → AllHold (subcommand_or_other s.rules o waiting position word h).0.rows
    other_holds (Some name) waiting position word h none all = all
    other_holds None waiting position word h none all = go (bytes_eq word (45 ∷ 45 ∷ [])) none
      where
        go : (b : Bool) → cond b [] (flag_word_fault s.rules s.args_override_self (long_of word) word h) ≡ []
            → AllHold (cond b (h, trailing position) (long_or_other s.rules waiting word (long_of word) h)).0.rows
        go true e = all
        go false e = flag_word_holds s.rules fit s.args_override_self waiting word (long_of word) h e all

    word_holds : (is_trailing : Bool) (waiting : Waiting) (position : ℕ) (word : Text) (h : Held) → word_fault s names is_trailing waiting word h ≡ []
        → AllHold h.rows → AllHold (word_met s.rules names is_trailing waiting position word h).0.rows
    word_holds true waiting position word h none all = all
    word_holds false waiting position word h none all = other_holds (subcommand_met names waiting word) waiting position word h none all

    step_holds : (word : Text) (w : Walk) (h : Held) (step : Step) → step_fault s w.position h step ≡ [] → AllHold h.rows
        → AllHold (after_step s.rules word w h step).held.rows
    step_holds word w h (next waiting) none all = all
    step_holds word w h (trailing position) none all = all
    step_holds word w h (subcommand name) none all = all
    step_holds word w h value none all = go (arg_by_index s.rules w.position) none
      where
        held : (a : Rule) (b : Bool) → cond b [] (settle_fault s.rules s.args_override_self h) ≡ []
            → AllHold (cond b h (settled s.rules h)).rows
        held a true e = all
        held a false e = settled_holds s.rules fit s.args_override_self h e all

        go : (o : Option Rule) → option_map_or (λ a. positional_fault s.rules s.args_override_self a h) o (stray_fault s) ≡ []
            → AllHold (to_positional s.rules o word w h).held.rows
        go None e = all
        go (Some a) e = held a (is_pending a h.pending && takes_several a) e

    turn_holds : (w : Walk) (word : Text) → turn_fault s names w word ≡ [] → AllHold w.held.rows → AllHold (walked s.rules names w word).held.rows
    unfolding walked
    turn_holds w word none all = go w.stopped none
      where
        met : Held × Step
        met = word_met s.rules names w.is_trailing w.waiting w.position word w.held

        go : (o : Option (Text × List Text))
            → cond (is_some o) [] (or_else (word_fault s names w.is_trailing w.waiting word w.held) (step_fault s w.position met.0 met.1)) ≡ []
            → AllHold (walked_from s.rules names o w word).held.rows
        go (Some p) e = all
        go None e =
            let parts = none_both _ _ e in
            step_holds word w met.0 met.1 parts.1 (word_holds w.is_trailing w.waiting w.position word w.held parts.0 all)

    walk_holds : (words : List Text) (w : Walk) → walk_fault s names w words ≡ [] → AllHold w.held.rows → AllHold (fold (walked s.rules names) w words).held.rows
    unfolding walk_fault
    walk_holds [] w none all = all
    walk_holds (word ∷ words) w none all =
        let parts = none_both _ _ none in
        walk_holds words (walked s.rules names w word) parts.1 (turn_holds w word parts.0 all)

  default_rows_hold : (a : Rule) (ds : List Text) (rows : List Row) → parser_of_value a.parser ≡ taken a.id → list_all (accepts false (taken a.id)) ds ≡ true
      → AllHold rows → AllHold (default_rows a.id (reading_by a) ds rows)
  default_rows_hold a [] rows is passed all = all
  default_rows_hold a (d ∷ ds) rows is passed all =
      subst (λ p. AllHold (with_values a.id (reading_of p) DefaultValue (d ∷ ds) rows)) (sym is)
      (with_values_holds a.id DefaultValue d ds rows (both _ _ passed).0 all)

  default_holds : (rows : List Row) (a : Rule) → Fits a → AllHold rows → AllHold (with_default rows a)
  default_holds rows a fits all = go (has_row a.id rows) fits
    where
      go : (b : Bool) → Fits a → AllHold (cond b rows (default_rows a.id (reading_by a) a.defaults rows))
      go true f = all
      go false (inl n) = default_rows_hold a a.defaults rows n.parser n.defaults all
      go false (inr help) = rw help.defaults all

  defaults_hold : (xs : List Rule) (rows : List Row) → AllFit xs → AllHold rows → AllHold (fold with_default rows xs)
  defaults_hold [] rows fit all = all
  defaults_hold (a ∷ xs) rows fit all = defaults_hold xs (with_default rows a) fit.1 (default_holds rows a fit.0 all)

  -- the rows of a command after words with no fault
  pub rows_hold : (s : Shape) (words : List Text) → AllFit s.rules → level_fault s [] nothing_held words false [] ≡ []
      → AllHold (rows_after s.rules [] words)
  rows_hold s words fit none =
      let parts = level_parts s [] nothing_held words false [] none in
      let end = (walk s.rules [] nothing_held words).held in
      defaults_hold s.rules (settled s.rules end).rows fit
      (settled_holds s.rules fit s.args_override_self end parts.2
      (walk_holds s fit [] words (walk_from nothing_held) parts.0 tt))

  -- what is read of a row
  pub record IsRowOf (id : Text) (rows : List Row) : Type 0 where
    pub value : Text
    pub first : first_of id rows ≡ Some value
    pub one : one_of id rows ≡ Some (read_as (reading_of (taken id)) value)
    pub passes : accepts false (taken id) value ≡ true

  pub row_read : (id : Text) (rows : List Row) → has_row id rows ≡ true → AllHold rows → IsRowOf id rows
  row_read id [] has all = cc
  row_read id (r ∷ rs) has all = go (bytes_eq r.id id) refl has (λ e. row_read id rs e all.1)
    where
      go : (b : Bool) → bytes_eq r.id id ≡ b → (b || has_row id rs) ≡ true → (has_row id rs ≡ true → IsRowOf id rs) → IsRowOf id (r ∷ rs)
      go false is e later =
          let l = later e in
          record {
            value = l.value;
            first = rw is l.first;
            one = rw is l.one;
            passes = l.passes;
          }
      go true is e later =
          let h = all.0 in
          let same : r.id ≡ id = (bytes_eq-Decides r.id id).0 is in
          record {
            value = h.first;
            first = rw (is, h.values) refl;
            one = rw (is, h.values, h.reading, same) refl;
            passes = subst (λ i. accepts false (taken i) h.first ≡ true) same h.passes;
          }

-- ---- every option has a row

more_kept : (id other : Text) (s : ValueSource) (vs : List Text) (missing rows : List Row) → has_row id rows ≡ true
    → has_row id (at_row other (more_values s vs) missing rows) ≡ true
more_kept id other s vs missing [] has = cc
more_kept id other s vs missing (r ∷ rs) has = go (bytes_eq r.id other) (bytes_eq r.id id) refl has (more_kept id other s vs missing rs)
  where
    go : (a b : Bool) → bytes_eq r.id id ≡ b → (b || has_row id rs) ≡ true
        → (has_row id rs ≡ true → has_row id (at_row other (more_values s vs) missing rs) ≡ true)
        → has_row id (cond a (more_values s vs r ++ rs) (r ∷ at_row other (more_values s vs) missing rs)) ≡ true
    go true b is e rest = has
    go false true is e rest = rw is refl
    go false false is e rest = or_right _ _ (rest e)

row_made : (id : Text) (s : ValueSource) (vs : List Text) (new : Row) (rows : List Row) → new.id ≡ id
    → has_row id (at_row id (more_values s vs) (new ∷ []) rows) ≡ true
row_made id s vs new [] same = let is : bytes_eq new.id id ≡ true = (bytes_eq-Decides new.id id).1 same in rw is refl
row_made id s vs new (r ∷ rs) same = go (bytes_eq r.id id) refl (row_made id s vs new rs same)
  where
    go : (b : Bool) → bytes_eq r.id id ≡ b → has_row id (at_row id (more_values s vs) (new ∷ []) rs) ≡ true → has_row id (cond b (more_values s vs r ++ rs) (r ∷ at_row id (more_values s vs) (new ∷ []) rs)) ≡ true
    go true is later = rw is refl
    go false is later = or_right _ _ later

default_kept : (id : Text) (rows : List Row) (a : Rule) → has_row id rows ≡ true → has_row id (with_default rows a) ≡ true
default_kept id rows a has = go (has_row a.id rows) a.defaults
  where
    go : (b : Bool) (ds : List Text) → has_row id (cond b rows (default_rows a.id (reading_by a) ds rows)) ≡ true
    go true ds = has
    go false [] = has
    go false (d ∷ ds) = more_kept id a.id DefaultValue (d ∷ ds) _ rows has

defaults_kept : (id : Text) (xs : List Rule) (rows : List Row) → has_row id rows ≡ true → has_row id (fold with_default rows xs) ≡ true
defaults_kept id [] rows has = has
defaults_kept id (a ∷ xs) rows has = defaults_kept id xs (with_default rows a) (default_kept id rows a has)

default_made : (rows : List Row) (a : Rule) → not (is_empty a.defaults) ≡ true → has_row a.id (with_default rows a) ≡ true
default_made rows a some = go (has_row a.id rows) refl a.defaults some
  where
    go : (b : Bool) → has_row a.id rows ≡ b → (ds : List Text) → not (is_empty ds) ≡ true → has_row a.id (cond b rows (default_rows a.id (reading_by a) ds rows)) ≡ true
    go true is ds e = is
    go false is [] e = cc
    go false is (d ∷ ds) e = row_made a.id DefaultValue (d ∷ ds) _ rows refl

abbrev pub has_default : Text → Rule → Bool
has_default id a = bytes_eq a.id id && not (is_empty a.defaults)

pub defaults_made : (id : Text) (xs : List Rule) (rows : List Row) → list_any (has_default id) xs ≡ true → has_row id (fold with_default rows xs) ≡ true
defaults_made id [] rows e = cc
defaults_made id (a ∷ xs) rows e = go (has_default id a) refl e (λ rest. defaults_made id xs (with_default rows a) rest)
  where
    go : (b : Bool) → has_default id a ≡ b → (b || list_any (has_default id) xs) ≡ true
        → (list_any (has_default id) xs ≡ true → has_row id (fold with_default (with_default rows a) xs) ≡ true) → has_row id (fold with_default (with_default rows a) xs) ≡ true
    go false is rest later = later rest
    go true is rest later =
        let parts = both _ _ is in
        let same : a.id ≡ id = (bytes_eq-Decides a.id id).0 parts.0 in
        defaults_kept id xs (with_default rows a) (subst (λ i. has_row i (with_default rows a) ≡ true) same (default_made rows a parts.1))

-- ---- what is required has a row

-- the checks at the end pass what is required
pub nothing_missing : (s : Shape) (rows : List Row) → s.subcommand_negates_reqs ≡ false → check_fault s rows false ≡ []
    → list_any (λ a. a.required && not (is_given a.id rows)) s.rules ≡ false
nothing_missing s rows negates none = go (s.arg_required_else_help && not (list_any (λ r. explicit_source r.source) rows)) s.subcommand_required (rw negates at none)
  where
    missing : Bool
    missing = list_any (λ a. a.required && not (is_given a.id rows)) s.rules

    go : (help sub : Bool) → check_kinds help sub (true && missing) ≡ [] → missing ≡ false
    go true sub e = cc
    go false true e = cc
    go false false e = test_fails missing [] _ e

given_has_row : (id : Text) (rows : List Row) → is_given id rows ≡ true → has_row id rows ≡ true
given_has_row id [] given = cc
given_has_row id (r ∷ rs) given = go (bytes_eq r.id id) given (λ e. given_has_row id rs e)
  where
    go : (b : Bool) → option_map_or (λ x. explicit_source x.source) (cond b (Some r) (find (λ x. bytes_eq x.id id) rs)) false ≡ true
        → (is_given id rs ≡ true → has_row id rs ≡ true) → (b || has_row id rs) ≡ true
    go true e later = refl
    go false e later = later e

pub required_has_row : (id : Text) (xs : List Rule) (rows : List Row) → list_any (λ a. bytes_eq a.id id && a.required) xs ≡ true
    → list_any (λ a. a.required && not (is_given a.id rows)) xs ≡ false → has_row id rows ≡ true
required_has_row id [] rows some none = cc
required_has_row id (a ∷ xs) rows some none =
    go (bytes_eq a.id id && a.required) refl some (neither _ _ none).0 (λ e. required_has_row id xs rows e (neither _ _ none).1)
  where
    given : (x y : Bool) → x ≡ true → (x && not y) ≡ false → y ≡ true
    given true true e n = refl
    given true false e n = cc
    given false y e n = cc

    go : (b : Bool) → (bytes_eq a.id id && a.required) ≡ b → (b || list_any (λ x. bytes_eq x.id id && x.required) xs) ≡ true
        → (a.required && not (is_given a.id rows)) ≡ false
        → (list_any (λ x. bytes_eq x.id id && x.required) xs ≡ true → has_row id rows ≡ true) → has_row id rows ≡ true
    go false is e here later = later e
    go true is e here later =
        let parts = both _ _ is in
        let same : a.id ≡ id = (bytes_eq-Decides a.id id).0 parts.0 in
        given_has_row id rows (subst (λ i. is_given i rows ≡ true) same (given a.required (is_given a.id rows) parts.1 here))
