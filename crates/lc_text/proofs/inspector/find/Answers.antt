use Rattle.std.proofs.Common.{◌≡◌, ◌∙◌, ℕ, List, length, subst}
use Rattle.std.proofs.lemmas.Result.{IfOk-weaker, on_err_weaker}
use Rattle.lc_record.specs.Words.{words_of}
use Rattle.lc_record.specs.declared.record.Record.{Record}
use Rattle.lc_log.specs.LogText.{IsLogText, joined, placed}
use Rattle.lc_text.proofs.Backwards.{some_word, walk_of}
use Rattle.lc_text.proofs.inspector.find.Goals as goal

-- the text whose end was found
text : (words found : List ℕ) (end : ℕ) → found ≡ words → (records : List Record) × IsLogText found records × (end ≡ length (joined records)) → (records : List Record) × IsLogText words records × (end ≡ length (joined records))
text words found end same has = (has.0, subst (λ (l : List ℕ). IsLogText l has.0) same has.1, has.2)

pub walk_back-requires : goal.walk_back-requires
walk_back-requires c =
    let has = text (words_of c.args.bytes.now) c.deref.result.now c.text_len-end_place.result (c.deref.ensures.value ∙ c.in_ok-words_in.ensures.words) c.text_len-end_place.ensures in
    (placed 0 has.0, walk_of (words_of c.args.bytes.now) has.0 c.text_len-end_place.result has.1 has.2)

pub returns-clause-found : goal.returns-clause-found
returns-clause-found c =
    let has = text (words_of c.args.bytes.now) c.deref.result.now c.text_len-end_place.result (c.deref.ensures.value ∙ c.in_ok-words_in.ensures.words) c.text_len-end_place.ensures in
    IfOk-weaker c.walk_back.result _ _
    (λ found back. rw c.if-not-reverse.false (has.0, has.1, back (placed 0 has.0) (walk_of (words_of c.args.bytes.now) has.0 c.text_len-end_place.result has.1 has.2)))
    c.walk_back.ensures.back

pub returns-clause-memory : goal.returns-clause-memory
returns-clause-memory c =
    let has = text (words_of c.args.bytes.now) c.deref.result.now c.text_len-end_place.result (c.deref.ensures.value ∙ c.in_ok-words_in.ensures.words) c.text_len-end_place.ensures in
    on_err_weaker c.walk_back.result (some_word c.args.bytes.now has.0 c.text_len-end_place.result has.1 has.2) c.walk_back.ensures.memory
