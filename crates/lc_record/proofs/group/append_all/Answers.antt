use Rattle.std.proofs.Common.{◌≡◌, ◌∙◌, ◌++◌, List, ℕ, length, drop, sym, ap, arith, take-append-drop}
use Rattle.std.proofs.lemmas.List.{length-take-le}
use Rattle.lc_record.proofs.GroupLemmas.{chunked}
use Rattle.lc_record.proofs.group.append_all.Goals as goal

pub loop-front-preserved : goal.loop-front-preserved
loop-front-preserved c =
    let l = c.loop-front in
    let cases = c.in-Some.ensures.cases in
    let front = c.in-Some.front.now in
    let behind = c.in-Some.behind.now in
    let is : l.rest.now ≡ front ++ behind =
    sym (take-append-drop 8 l.rest.now) ∙ ap (λ (x : List ℕ). x ++ drop 8 l.rest.now) (sym cases.0) ∙ ap (λ (x : List ℕ). front ++ x) (sym cases.1) in
    let long : length front ≡ 8 = ap length cases.0 ∙ length-take-le 8 l.rest.now (omega (arith, cases.2)) in
    record {
      items = chunked l.bytes.items c.append_chunk.new.bytes.items c.args.bytes.now.items l.rest.now front behind c.args.words.now c.append_chunk.ensures.items is l.invariant.items;
      len = omega (arith, c.append_chunk.ensures.len, l.invariant.len, long, cases.2);
      room = omega (arith, c.append_chunk.ensures.room, l.invariant.room);
    }
