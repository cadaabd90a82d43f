use Rattle.std.proofs.Common.{◌≡◌, ◌+◌, ◌<◌, ◌≤◌, ℕ, length, Option, Some, ap, arith, subst, sym, ◌∙◌}
use Rattle.std.specs.Prelude.{IsSomeAnd}
use Rattle.lc_token.specs.Standing.{Standing}
use Rattle.lc_token.specs.Token.{IsWritten}
use Rattle.lc_token.specs.declared.token.Token.{Token}
use Rattle.lc_segments.specs.Pages.{AreWritten}
use Rattle.lc_segments.proofs.Noted.{AreNoted, all_noted, clean_noted, its_token, same_token, with_token, written_noted}
use Rattle.lc_segments.proofs.page_writes.note_written.Goals as goal
use Rattle.lc_segments.proofs.page_writes.note_written.Goals.{then-is_dirty, else-is_dirty}

pub is_dirty-requires : goal.is_dirty-requires
is_dirty-requires c =
    let token = c.in-Some.token.now in
    with_token c.loop-page.place.token (λ now. AreNoted token now c.loop-page.page) (λ now. c.loop-page.page < length now.pages)
    (λ now noted. let count = noted.same_count in let test = c.loop-page-test.true in let all = c.len-page-end.ensures ∙ ap length c.pages.ensures in omega (arith, count, test, all)) (c.loop-page.invariant.noted token (sym c.in-Some.ensures.token))

pub written-requires : goal.written-requires
written-requires c =
    let token = c.in-Some.token.now in
    with_token c.loop-page.place.token (λ now. AreNoted token now c.loop-page.page) (λ now. c.loop-page.page < length now.pages)
    (λ now noted. let count = noted.same_count in let test = c.loop-page-test.true in let all = c.len-page-end.ensures ∙ ap length c.pages.ensures in omega (arith, count, test, all)) (c.loop-page.invariant.noted token (sym c.in-Some.ensures.token))

pub loop-page-preserved : goal.loop-page-preserved
loop-page-preserved c =
    let token = c.in-Some.token.now in
    let at : c.args.place.now.token ≡ Some token = sym c.in-Some.ensures.token in
    let page = c.loop-page.page in
    let so_far = its_token c.loop-page.place.token (λ now. AreNoted token now page) (c.loop-page.invariant.noted token at) in
    let within : page < length token.pages = (let test = c.loop-page-test.true in let all = c.len-page-end.ensures ∙ ap length c.pages.ensures in omega (arith, test, all)) in
    let tells = c.is_dirty.ensures so_far.0 so_far.1 in
    elim c.if-is_dirty.branch [
      | then-is_dirty w ↦
          let noted : IsSomeAnd c.if-is_dirty.place.token (λ new. AreNoted token new (page + 1)) =
          subst (λ (p : Standing). IsSomeAnd p.token (λ new. AreNoted token new (page + 1))) (sym w.place-is)
          (with_token w.written.new.self.token (IsWritten so_far.0 page token.seq) (λ new. AreNoted token new (page + 1))
          (λ new is. written_noted token so_far.0 page so_far.2 new within (c.requires.stable token at) (sym tells ∙ w.if-is_dirty.true) is) (rw c.seq-seq.ensures at (w.written.ensures.token so_far.0 so_far.1))) in
          record {
            noted = λ it is. subst (λ (t : Token). IsSomeAnd c.if-is_dirty.place.token (λ new. AreNoted t new (page + 1))) (same_token c.args.place.now.token token it at is) noted;
            segment = ap (λ (p : Standing). p.segment) w.place-is ∙ w.written.ensures.segment ∙ c.loop-page.invariant.segment;
          }
      | else-is_dirty w ↦
          let noted : IsSomeAnd c.if-is_dirty.place.token (λ new. AreNoted token new (page + 1)) =
          subst (λ (p : Standing). IsSomeAnd p.token (λ new. AreNoted token new (page + 1))) (sym w.place-is)
          (subst (λ (o : Option Token). IsSomeAnd o (λ new. AreNoted token new (page + 1))) (sym so_far.1) (clean_noted token so_far.0 page so_far.2 (sym tells ∙ w.if-is_dirty.false))) in
          record {
            noted = λ it is. subst (λ (t : Token). IsSomeAnd c.if-is_dirty.place.token (λ new. AreNoted t new (page + 1))) (same_token c.args.place.now.token token it at is) noted;
            segment = ap (λ (p : Standing). p.segment) w.place-is ∙ c.loop-page.invariant.segment;
          }
    ]

pub returns-clause-written : goal.returns-clause-written
returns-clause-written c =
    let token = c.in-Some.token.now in
    let at : c.args.place.now.token ≡ Some token = sym c.in-Some.ensures.token in
    let few : length token.pages ≤ 1024 = subst (λ (o : Option Token). IsSomeAnd o (λ t. length t.pages ≤ 1024)) at c.requires.few in
    let end : c.loop-page.page ≡ length token.pages = (let test = c.loop-page-test.false in let all = c.len-page-end.ensures ∙ ap length c.pages.ensures in let last = c.loop-page.auto.page-end in omega (arith, test, all, last)) in
    let written : IsSomeAnd c.loop-page.place.token (AreWritten token) =
    with_token c.loop-page.place.token (λ now. AreNoted token now c.loop-page.page) (AreWritten token)
    (λ now noted. all_noted token now (subst (λ (n : ℕ). AreNoted token now n) end noted) few (c.requires.touched token at)) (c.loop-page.invariant.noted token at) in
    λ it is. subst (λ (t : Token). IsSomeAnd c.loop-page.place.token (AreWritten t)) (same_token c.args.place.now.token token it at is) written
