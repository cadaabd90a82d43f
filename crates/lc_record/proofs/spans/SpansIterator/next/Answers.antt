use Rattle.std.proofs.Common.{◌≡◌, ◌∙◌, ◌+◌, ◌-◌, ◌<◌, List, [], ◌∷◌, length, drop, sym, ap, arith, inl, inr}
use Rattle.std.proofs.lemmas.List.{drop_all}
use Rattle.lc_record.specs.Reading.{place_at}
use Rattle.lc_record.specs.Spans.{left_of}
use Rattle.lc_record.specs.declared.placed_span.PlacedSpan.{PlacedSpan}
use Rattle.lc_record.proofs.ViewLemmas.{range_behind}
use Rattle.lc_record.proofs.SpansLemmas.{spans_end, spans_none, none_there, spans_next}
use Rattle.lc_record.proofs.spans.SpansIterator.next.Goals as goal

pub returns-then-self-eq0-clause-steps : goal.returns-then-self-eq0-clause-steps
unfolding left_of
returns-then-self-eq0-clause-steps c =
    let it = c.args.self.now in
    let nothing = spans_end it.version it.words.now it.place it.left c.if-self-eq0.true in
    (nothing, nothing)

pub returns-in_err-rest-clause-steps : goal.returns-in_err-rest-clause-steps
unfolding left_of
returns-in_err-rest-clause-steps c =
    let it = c.args.self.now in
    let past : length it.words.now < it.place = elim c.in_err-rest.ensures.lookup.0 [ inl before ↦ omega (arith, before) | inr behind ↦ omega (arith, behind) ] in
    let end : drop it.place it.words.now ≡ [] = drop_all it.place it.words.now (omega (arith, past)) in
    let nothing = spans_none it.version it.words.now it.place it.left (ap (place_at it.version) end ∙ none_there it.version) in
    rw c.from_residual.ensures (nothing, nothing)

pub returns-in_err-span-clause-steps : goal.returns-in_err-span-clause-steps
unfolding left_of
returns-in_err-span-clause-steps c =
    let it = c.args.self.now in
    let rest : c.in_ok-rest.rest.now ≡ drop it.place it.words.now = c.in_ok-rest.ensures.lookup.0.2 ∙ range_behind it.words.now it.place in
    let nothing = spans_none it.version it.words.now it.place it.left (ap (place_at it.version) (sym rest) ∙ c.in_err-span.ensures) in
    rw c.from_residual-in_err-span.ensures (nothing, nothing)

module _ (c : goal.After-self-2-1) where
  next_is : left_of c.args.self.now
      ≡ record { span = c.in_ok-span.span; place = c.args.self.now.place + c.place_words.result }
      ∷ left_of (record {
        words = c.args.self.now.words;
        version = c.args.self.now.version;
        place = c.args.self.now.place + c.place_words.result + c.data_len.result;
        left = c.args.self.now.left - 1;
      })
  unfolding left_of
  next_is =
      let it = c.args.self.now in
      let rest : c.in_ok-rest.rest.now ≡ drop it.place it.words.now = c.in_ok-rest.ensures.lookup.0.2 ∙ range_behind it.words.now it.place in
      let read = ap (place_at it.version) (sym rest) ∙ c.in_ok-span.ensures in
      rw (c.place_words.ensures, c.data_len.ensures) (spans_next it.version it.words.now it.place it.left (c.in_ok-span.span, c.in_ok-span.field-0-1.now) c.if-self-eq0.false read)

pub returns-clause-steps : goal.returns-clause-steps
returns-clause-steps c = next_is c

pub returns-clause-goes : goal.returns-clause-goes
returns-clause-goes c = record { on = λ _. (tt, tt, omega (arith, ap (λ (l : List PlacedSpan). length l) (next_is c))); keeps = tt; rests = λ _. tt }
