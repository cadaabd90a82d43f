use Rattle.std.proofs.Common.{◌≡◌, ◌<◌, ◌+◌, ◌-◌, ℕ, [], List, length, ap, sym, ◌∙◌, subst, arith}
use Rattle.std.specs.Global.{Vec}
use Rattle.lc_record.specs.declared.record.Record.{Record}
use Rattle.lc_rest.specs.Merge.{logs_of, number_at}
use Rattle.lc_rest.specs.TokenTest.{count_on}
use Rattle.lc_rest.specs.declared.holder.Holder.TheVariants.{Left}
use Rattle.lc_token.specs.declared.token.Token.{Token}
use Rattle.lc_rest.specs.AtRest.{KeepsToken}
use Rattle.lc_record.specs.Lists.{items_of}
use Rattle.lc_reading.specs.Readings.{KeepsTokenIn, at_segment, first_numbers, no_token, tests_of}
use Rattle.lc_reading.proofs.TokenReads.{index_at, items_at, number_next, ok_none, ok_some, token_in, token_kept}
use Rattle.lc_reading.proofs.read_parts.ReadParts.first_number.Goals as goal

number_is : (c : goal.After-keeps_first) → number_at (first_numbers c.args.self.now) (c.args.place + 1) ≡ c.index.result.now.seq - count_on (c.args.place + 1) (logs_of c.args.self.now.logs.items)
number_is c =
    let r = c.args.self.now in
    let within : c.args.place < length r.tokens.items = omega (arith, c.requires, r.all_tokens, r.tokens.ok.0) in
    number_next r c.args.place c.index.result.now within ∙ ap (λ (t : Token). t.seq - count_on (c.args.place + 1) (logs_of r.logs.items)) (sym c.index.ensures)

token_is : (c : goal.After-keeps_first) → at_segment no_token c.args.self.now.tokens.items (c.args.place + 1) ≡ c.index.result.now
token_is c =
    let r = c.args.self.now in
    index_at no_token c.index.result.now r.tokens.items c.args.place (omega (arith, c.requires, r.all_tokens, r.tokens.ok.0)) c.index.ensures

holder_is : (c : goal.After-keeps_first) → at_segment (Left 0) c.args.self.now.holders.items (c.args.place + 1) ≡ c.index-2.result.now
holder_is c =
    let r = c.args.self.now in
    index_at (Left 0) c.index-2.result.now r.holders.items c.args.place (omega (arith, c.requires, r.all_holders, r.holders.ok.0)) c.index-2.ensures

area_is : (c : goal.After-keeps_first) → at_segment [] (items_of c.args.self.now.areas.items) (c.args.place + 1) ≡ c.as_slice.result.now
area_is c =
    let r = c.args.self.now in
    items_at c.index-3.result.now r.areas.items c.args.place (omega (arith, c.requires, r.all_areas, r.areas.ok.0)) c.index-3.ensures ∙ sym c.as_slice.ensures.value

pub returns-clause-number : goal.returns-clause-number
returns-clause-number c =
    ok_some c.keeps_first.result _ (λ number. number ≡ number_at (first_numbers c.args.self.now) (c.args.place + 1)) c.keeps_first.ensures.number (λ number is.
    is ∙ ap (λ (l : List (Vec Record)). c.index.result.now.seq - count_on (c.args.place + 1) (logs_of l)) c.as_slice-3.ensures.value ∙ sym (number_is c))

Keeps : (c : goal.After-keeps_first) → List (Vec Record) → List ℕ → Type 0
Keeps c logs counts = KeepsTokenIn (c.args.place + 1) c.args.self.now.geometry.pages c.index.result.now c.index-2.result.now c.as_slice.result.now (logs_of logs) counts

pub returns-clause-keeps : goal.returns-clause-keeps
unfolding Keeps
returns-clause-keeps c =
    let r = c.args.self.now in
    ok_some c.keeps_first.result _ (λ number. KeepsToken (tests_of r []) (c.args.place + 1)) c.keeps_first.ensures.keeps (λ number keeps.
    token_kept r (λ n. 0) (λ n. 0) (λ n segment. 0) [] (c.args.place + 1) c.index.result.now c.index-2.result.now c.as_slice.result.now (token_is c) (holder_is c) (area_is c) (number_is c)
    (c.is_token.ensures.0 c.if-not-is_token.false)
    (subst (λ (l : List (Vec Record)). Keeps c l r.counts.items) c.as_slice-3.ensures.value (subst (λ (cs : List ℕ). Keeps c c.as_slice-3.result.now cs) c.as_slice-2.ensures.value keeps)))

pub returns-clause-fails : goal.returns-clause-fails
unfolding Keeps
returns-clause-fails c =
    let r = c.args.self.now in
    ok_none c.keeps_first.result _ _ c.keeps_first.ensures.fails (λ fails keeps. fails
    (let both = token_in r (λ n. 0) (λ n. 0) (λ n segment. 0) [] (c.args.place + 1) c.index.result.now c.index-2.result.now c.as_slice.result.now (token_is c) (holder_is c) (area_is c) (number_is c) keeps in
    subst (λ (cs : List ℕ). Keeps c c.as_slice-3.result.now cs) (sym c.as_slice-2.ensures.value) (subst (λ (l : List (Vec Record)). Keeps c l r.counts.items) (sym c.as_slice-3.ensures.value) both.1)))
