-- The lines of a log: its records', or that of a refusal.
use Rattle.std.proofs.Common.{◌≡◌, ◌≢◌, ◌∙◌, ℕ, ltb-true, Bool, true, false, nat_lt, List, [], Option, Some, None, append-nil, refl, sym, ap, subst, inl, inr}
use Rattle.std.specs.Prelude.{Result, Ok, Err, if◌then◌else◌, slice_get}
use Rattle.std.specs.List.{AllByRecursion}
use Rattle.std.specs.Global.{Vec}
use Rattle.std.specs.Io.KnownBytes.{Appends}
use Rattle.lc_disk.specs.declared.area.Area.{Ghosts}
use Rattle.lc_record.specs.Words.{bytes_of, words_of}
use Rattle.lc_record.specs.declared.record.Record.{Record}
use Rattle.lc_record.proofs.WordLemmas.{words_of-bytes_of-all}
use Rattle.lc_log.specs.LogText.{IsLogText, IsWhole, joined, placed}
use Rattle.lc_record.proofs.SpellingLemmas.{nothing_begins_none}
use Rattle.lc_log.specs.InPlace.{records_in}
use Rattle.lc_log.proofs.InPlaceLemmas.{records_text as text_in}
use Rattle.lc_log.proofs.LogLemmas.{joined_words, one_text-by}
use Rattle.lc_model.specs.Refusals.{is_node}
use Rattle.lc_model.specs.State.{Setting, State}
use Rattle.lc_model.specs.declared.refusal.Refusal.{Refusal}
use Rattle.lc_model.specs.declared.refusal.Refusal.TheVariants.{DeviceFault, Unknown}
use Rattle.lc_core.specs.LogWords.{AreWordsOf, ReadsLog, ReadsNone, ShowRecords, log_area}
use Rattle.lc_journal.specs.LogWords.{has_failed}
use Rattle.lc_settled.specs.Numbers.{Numbers}
use Rattle.lc_core.specs.World.{FitsPhase, FitsWorld}
use Rattle.lc_core.specs.declared.world_phase.WorldPhase.{WorldPhase}
use Rattle.lc_core.specs.declared.world_phase.WorldPhase.TheVariants.{Down, Up, Taken}
use Rattle.lc_journal.specs.declared.show_fault.ShowFault.{ShowFault}
use Rattle.lc_journal.specs.declared.show_fault.ShowFault.TheVariants.{Unknown as IsUnknown, DeviceFault as HasFailed, NoMemory}
use Rattle.lc_core.specs.declared.world.World.{World}
use Rattle.lc_tool.specs.Fits.{AsksFor, Performs}
use Rattle.lc_text.specs.Inspector.{Inspects}
use Rattle.lc_tool.specs.Shown.{AreInLog, ShowsLog, refusal_to}
use Rattle.lc_text.specs.Text.{records_text, refusal_text, words_text}
use Rattle.lc_tool.specs.Verdict.{verdict_on}
use Rattle.lc_text.specs.declared.command.Command.TheVariants.{Inspect, Log}
use Rattle.lc_tool.specs.declared.verdict.Verdict.{Verdict}
use Rattle.lc_tool.specs.declared.verdict.Verdict.TheVariants.{Done}
use Rattle.lc_tool.proofs.Fitting.{records_whole, running_fits, words_logged}
use Rattle.lc_tool.proofs.Logs.{HasWords, are_logged, known_log, unknown_log}

some_of : {A : Type 0} (b : Bool) (o : Option A) (x : A) → (if b then o else None) ≡ Some x → o ≡ Some x
some_of true o x e = e
some_of false o x e = absurd cc

-- the words of records, each whole, are the text of these and no others
one_list : (records found : List Record) → AllByRecursion IsWhole records → IsLogText (joined records) found → found ≡ records
one_list records found whole text =
    one_text-by (joined records) found records text (record { rest = []; text = sym (append-nil (joined records)); whole = whole; end = nothing_begins_none })

module _ {D : Type 0} (a : Ghosts D) where
  -- the words that a store has of a log are those of the records in it
  words_in_log : (phase : WorldPhase D a) (m : Setting) (s : State) (x : Numbers) (node : ℕ) (area : D) (words : List ℕ) → FitsPhase a m phase s x → is_node m.geometry node ≡ true
      → log_area a phase node ≡ Some area → AreWordsOf a area words → ShowRecords a phase node words → HasWords (AreInLog s.phase m s x node) words
  words_in_log (Down r) m s x node area words fits known there are show =
      let text = text_in (words_of (a.now area)) in
      record {
        records = records_in (words_of (a.now area));
        such = rw fits.down text.whole;
        whole = text.whole;
        words_are = are (fits.honest node area (some_of (nat_lt node r.geometry.nodes) (slice_get r.areas node) area there)) (records_in (words_of (a.now area))) text;
      }
  words_in_log (Up up) m s x node area words fits known there are show =
      let whole = records_whole a up m s x node (running_fits a up m s x fits) (ltb-true node m.geometry.nodes known) in
      rw (running_fits a up m s x fits).up (are_logged m s x node whole words (words_logged a up m s x node words fits show))
  words_in_log Taken m s x node area words fits known there are show = absurd fits

  -- what is told of a log that is asked for
  pub record Told (node : ℕ) (old new : World D a) (result : Result (Vec ℕ) ShowFault) : Type 0 where
    pub unknown : log_area a old.phase node ≡ None → (result ≡ Err IsUnknown) × ReadsNone a node old.phase new.phase
    pub read : (area : D) → log_area a old.phase node ≡ Some area → (result ≢ Err IsUnknown) × ReadsLog a node area old.phase new.phase (has_failed result)

  module _ (node : ℕ) (old new : World D a) (result : Result (Vec ℕ) ShowFault) (told : Told node old new result) (m : Setting) (s : State) (x : Numbers) (fits : FitsWorld a m old s x) where
    -- the store still fits
    still : (b : Bool) → is_node m.geometry node ≡ b → FitsWorld a m new s x
    still true known = let there = known_log a old.phase m s x node fits known in (told.read there.0 there.1).1.same.still m s x fits
    still false unknown = (told.unknown (unknown_log a old.phase m s x node fits unknown)).1.same.still m s x fits

    pub still_fits : FitsWorld a m new s x
    still_fits = still (is_node m.geometry node) refl

    -- it has a log where there are words
    known_by : (words : Vec ℕ) → result ≡ Ok words → (b : Bool) → is_node m.geometry node ≡ b → is_node m.geometry node ≡ true
    known_by words is true known = known
    known_by words is false unknown = let bad = sym is ∙ (told.unknown (unknown_log a old.phase m s x node fits unknown)).0 in absurd cc

    pub shows_words : (words : Vec ℕ) → result ≡ Ok words → ((area : D) → log_area a old.phase node ≡ Some area → AreWordsOf a area words.items)
        → ((area : D) → log_area a old.phase node ≡ Some area → ShowRecords a old.phase node words.items)
        → (is_node m.geometry node ≡ true) × HasWords (AreInLog s.phase m s x node) words.items
    shows_words words is are show =
        let known = known_by words is (is_node m.geometry node) refl in
        let there = known_log a old.phase m s x node fits known in
        (known, words_in_log old.phase m s x node there.0 words.items fits known there.1 (are there.0 there.1) (show there.0 there.1))

    pub shows_fault : (fault : ShowFault) (refusal : Refusal) (text_of : List Record → List ℕ) → result ≡ Err fault → refusal_to fault ≡ Some refusal → (b : Bool) → is_node m.geometry node ≡ b
        → ShowsLog m s x node text_of (refusal_text refusal) (verdict_on refusal)
    shows_fault IsUnknown refusal text_of is names true known = let there = known_log a old.phase m s x node fits known in absurd ((told.read there.0 there.1).0 is)
    shows_fault HasFailed refusal text_of is names true known = let same : DeviceFault ≡ refusal = cc in rw (known, ← same) (inr (refl, refl))
    shows_fault NoMemory refusal text_of is names true known = absurd cc
    shows_fault IsUnknown refusal text_of is names false unknown = let same : Unknown ≡ refusal = cc in rw (unknown, ← same) (refl, refl)
    shows_fault HasFailed refusal text_of is names false unknown = let bad = sym is ∙ (told.unknown (unknown_log a old.phase m s x node fits unknown)).0 in absurd cc
    shows_fault NoMemory refusal text_of is names false unknown = absurd cc

    pub memory_known : result ≡ Err NoMemory → (b : Bool) → is_node m.geometry node ≡ b → is_node m.geometry node ≡ true
    memory_known is true known = known
    memory_known is false unknown = let bad = sym is ∙ (told.unknown (unknown_log a old.phase m s x node fits unknown)).0 in absurd cc

  module _ (node : ℕ) (old new : World D a) (result : Result (Vec ℕ) ShowFault) (told : Told node old new result) where
    pub log_performs : (words : Vec ℕ) (held holds : Option (List ℕ)) → result ≡ Ok words → ((area : D) → log_area a old.phase node ≡ Some area → AreWordsOf a area words.items)
        → ((area : D) → log_area a old.phase node ≡ Some area → ShowRecords a old.phase node words.items)
        → Appends held holds (words_text words.items) → Performs a (FitsWorld a) old (Log node) held holds Done new
    log_performs words held holds is are show shown m s x fits =
        let has = shows_words node old new result told m s x fits words is are show in (
          s,
          x,
          (
            words_text words.items,
            (rw has.0 (inl (has.1.records, has.1.such, ap words_text has.1.words_are, refl)), refl, refl),
            shown,
          ),
          still_fits node old new result told m s x fits,
        )

    pub inspect_performs : (words : Vec ℕ) (held holds : Option (List ℕ)) → result ≡ Ok words → ((area : D) → log_area a old.phase node ≡ Some area → AreWordsOf a area words.items)
        → ((area : D) → log_area a old.phase node ≡ Some area → ShowRecords a old.phase node words.items)
        → Inspects false (words_of (bytes_of words.items)) held holds → Performs a (FitsWorld a) old (Inspect node) held holds Done new
    inspect_performs words held holds is are show inspects m s x fits =
        let has = shows_words node old new result told m s x fits words is are show in
        let same : words_of (bytes_of words.items) ≡ joined has.1.records =
        ap (λ (l : List ℕ). words_of (bytes_of l)) has.1.words_are ∙ words_of-bytes_of-all (joined has.1.records) (joined_words has.1.records has.1.whole) in
        let found : inspects.0 ≡ has.1.records = one_list has.1.records inspects.0 has.1.whole (subst (λ (l : List ℕ). IsLogText l inspects.0) same inspects.1) in (
          s,
          x,
          (
            records_text (placed 0 inspects.0),
            (rw has.0 (inl (has.1.records, has.1.such, ap (λ (rs : List Record). records_text (placed 0 rs)) found, refl)), refl, refl),
            inspects.2,
          ),
          still_fits node old new result told m s x fits,
        )

    pub log_fault : (fault : ShowFault) (refusal : Refusal) (held holds : Option (List ℕ)) (verdict : Verdict) → result ≡ Err fault → refusal_to fault ≡ Some refusal → verdict ≡ verdict_on refusal
        → Appends held holds (refusal_text refusal) → Performs a (FitsWorld a) old (Log node) held holds verdict new
    log_fault fault refusal held holds verdict is names by shown m s x fits =
        let shows = shows_fault node old new result told m s x fits fault refusal (λ records. words_text (joined records)) is names (is_node m.geometry node) refl in
        (s, x, (refusal_text refusal, (subst (λ (v : Verdict). ShowsLog m s x node (λ records. words_text (joined records)) (refusal_text refusal) v) (sym by) shows, refl, refl), shown), still_fits node old new result told m s x fits)

    pub inspect_fault : (fault : ShowFault) (refusal : Refusal) (held holds : Option (List ℕ)) (verdict : Verdict) → result ≡ Err fault → refusal_to fault ≡ Some refusal → verdict ≡ verdict_on refusal
        → Appends held holds (refusal_text refusal) → Performs a (FitsWorld a) old (Inspect node) held holds verdict new
    inspect_fault fault refusal held holds verdict is names by shown m s x fits =
        let shows = shows_fault node old new result told m s x fits fault refusal (λ records. records_text (placed 0 records)) is names (is_node m.geometry node) refl in
        (s, x, (refusal_text refusal, (subst (λ (v : Verdict). ShowsLog m s x node (λ records. records_text (placed 0 records)) (refusal_text refusal) v) (sym by) shows, refl, refl), shown), still_fits node old new result told m s x fits)

    pub log_asks : result ≡ Err NoMemory → AsksFor a old (Log node)
    log_asks is m s x fits = memory_known node old new result told m s x fits is (is_node m.geometry node) refl

    pub inspect_asks : result ≡ Err NoMemory → AsksFor a old (Inspect node)
    inspect_asks is m s x fits = memory_known node old new result told m s x fits is (is_node m.geometry node) refl

    -- so does what shows the words that were had
    pub inspect_had : (words : Vec ℕ) → result ≡ Ok words → AsksFor a old (Inspect node)
    inspect_had words is m s x fits = known_by node old new result told m s x fits words is (is_node m.geometry node) refl
