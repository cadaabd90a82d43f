use Rattle.std.proofs.Common.{rules, ◌≡◌, ◌==◌, ℕ, Option, suc, ◌*◌, ◌<◌, All, Some, None, List, drop, length, sym, ap, subst, ◌∙◌, arith}
use Rattle.std.specs.Prelude.{position, slice_index_or}
use Rattle.std.proofs.lemmas.Option.{slice_get-get_or}
use Rattle.std.proofs.Math.ListN.{take}
use Rattle.std.proofs.lemmas.List.Elements.{All-append, All-drop, All-take}
use Rattle.lc_segments.specs.LeftBy.{IsSettledPart}
use Rattle.lc_node.specs.Refusals.{first_of}
use Rattle.lc_node.proofs.LeftTokens.{keeps_pages}
use Rattle.lc_node.proofs.OrderedTokens.{has_token, no_token, segment_of, token_at}
use Rattle.lc_node.proofs.TakenOut.{no_place, of_kind, place_of}
use Rattle.lc_rest.specs.declared.segment_part.SegmentPart.{SegmentPart}
use Rattle.lc_node.proofs.ordering_tokens.take_token.Goals as goal
use Rattle.lc_node.proofs.ordering_tokens.take_token.Goals.{then-len-pages-via-then-len-pages, then-len-pages-via-else-len-pages+then-len-pages-2}

-- the token at the place that was found is the first
first_found : {D : Type 0} (segment place : ℕ) (all slice : List (SegmentPart D)) (found : Option ℕ) (part : SegmentPart D) → found ≡ position (λ (p : SegmentPart D). p.token.segment == segment) slice → slice ≡ all
    → found ≡ Some place → place < length all → part ≡ slice_index_or all place part → first_of segment all ≡ Some part
first_found segment place all slice found part is same some within value =
    let there : position (λ (p : SegmentPart _). p.token.segment == segment) all ≡ Some place = ap (position (λ (p : SegmentPart _). p.token.segment == segment)) (sym same) ∙ (sym is ∙ some) in
    (place_of segment_of segment all place there).first ∙ (slice_get-get_or all place part within ∙ ap Some (sym value))

pub returns-in_default-clause-refused : goal.returns-in_default-clause-refused
returns-in_default-clause-refused g c =
    let all = c.args.tokens.now.items in
    let none : position (λ (p : SegmentPart g.row.D.Denot). p.token.segment == c.args.segment) all ≡ None =
    ap (position (λ (p : SegmentPart g.row.D.Denot). p.token.segment == c.args.segment)) (sym c.as_slice.ensures.value) ∙ (sym c.place_of.ensures ∙ c.in_default.is) in
    (c.into.ensures, no_token g.D.Area c.args.geometry.now c.args.segment all (no_place segment_of c.args.segment all none))

pub returns-then-len-pages-clause-refused : goal.returns-then-len-pages-clause-refused
returns-then-len-pages-clause-refused g c =
    let all = c.args.tokens.now.items in
    let part = c.remove-part.result in
    let within : c.in-Some.place < length all = search rules in
    let first = first_found c.args.segment c.in-Some.place all c.as_slice.result.now c.place_of.result part c.place_of.ensures c.as_slice.ensures.value c.in-Some.is within c.remove-part.ensures.value in (
      c.into-then-len-pages.ensures,
      λ has.
          (let pages = token_at g.D.Area c.args.geometry.now c.args.segment all part first has in
          elim c.then-len-pages.branch [
            | then-len-pages-via-then-len-pages w ↦ w.if-len-pages.true ((c.len.ensures ∙ ap length c.pages.ensures) ∙ pages.entries)
            | then-len-pages-via-else-len-pages+then-len-pages-2 w ↦ w.if-len-pages-2.true (omega (arith, w.len-else-len-pages.ensures.len, pages.area))
          ]),
    )

pub returns-clause-first : goal.returns-clause-first
returns-clause-first g c =
    let within : c.in-Some.place < length c.args.tokens.now.items = search rules in
    first_found c.args.segment c.in-Some.place c.args.tokens.now.items c.as_slice.result.now c.place_of.result c.remove-part.result c.place_of.ensures c.as_slice.ensures.value c.in-Some.is within c.remove-part.ensures.value

pub returns-clause-segment : goal.returns-clause-segment
returns-clause-segment g c =
    let within : c.in-Some.place < length c.args.tokens.now.items = search rules in
    of_kind segment_of c.args.segment c.args.tokens.now.items c.remove-part.result
    (first_found c.args.segment c.in-Some.place c.args.tokens.now.items c.as_slice.result.now c.place_of.result c.remove-part.result c.place_of.ensures c.as_slice.ensures.value c.in-Some.is within c.remove-part.ensures.value)

pub returns-clause-has : goal.returns-clause-has
returns-clause-has g c =
    let within : c.in-Some.place < length c.args.tokens.now.items = search rules in
    has_token g.D.Area c.args.geometry.now c.args.segment c.args.tokens.now.items c.remove-part.result
    (first_found c.args.segment c.in-Some.place c.args.tokens.now.items c.as_slice.result.now c.place_of.result c.remove-part.result c.place_of.ensures c.as_slice.ensures.value c.in-Some.is within c.remove-part.ensures.value)
    (record {
      entries = sym (c.len.ensures ∙ ap length c.pages.ensures) ∙ c.if-len-pages.false;
      area = (let long : length (g.D.Area.now c.remove-part.result.area) ≡ 2 * 272 * c.args.geometry.now.pages = omega (arith, c.len-else-len-pages.ensures.len, c.if-len-pages-2.false) in long);
    })

pub returns-clause-pages : goal.returns-clause-pages
returns-clause-pages g c =
    let within : c.in-Some.place < length c.args.tokens.now.items = search rules in
    let settled : IsSettledPart g.D.Area c.remove-part.result = subst (IsSettledPart g.D.Area) (sym c.remove-part.ensures.value) (c.requires.settled c.in-Some.place c.remove-part.result within) in
    keeps_pages g.D.Area c.args.geometry.now c.remove-part.result settled (sym (c.len.ensures ∙ ap length c.pages.ensures) ∙ c.if-len-pages.false)
    (let long : length (g.D.Area.now c.remove-part.result.area) ≡ 2 * 272 * c.args.geometry.now.pages = omega (arith, c.len-else-len-pages.ensures.len, c.if-len-pages-2.false) in long)

pub returns-clause-settled : goal.returns-clause-settled
returns-clause-settled g c =
    let all = c.args.tokens.now.items in
    let place = c.in-Some.place in
    let P = IsSettledPart g.D.Area in
    subst (All P) (sym c.remove-part.ensures.items) (All-append P (take place all) (drop (suc place) all) (All-take P place all c.requires.settled) (All-drop P (suc place) all c.requires.settled))
