use Rattle.std.proofs.Common.{rules, ◌≡◌, ◌+◌, ◌-◌, ◌∷◌, [], ◌++◌, Some, ℕ, List, length, length-append, sym, ap, subst, ◌∙◌, arith}
use Rattle.std.specs.Global.{Vec}
use Rattle.std.specs.List.{concat}
use Rattle.lc_cluster.specs.Copies.{texts, FitBehind, AreBehind}
use Rattle.lc_log_side.specs.Published.{published, IsStart}
use Rattle.lc_cluster.proofs.Copied.{words_more, fit_none, fit_more, behind_none, behind_more, count_is}
use Rattle.lc_cluster.proofs.copying.copies_from.Goals as goal

pub loop-init : goal.loop-init
loop-init g c = let none : c.in_ok-copies.copies.items ≡ [] = search rules in
    let all = published c.args.log.now in record {
      many = (let long : length c.in_ok-copies.copies.items ≡ 0 = ap (λ (l : List (Vec ℕ)). length l) none in omega arith);
      room = search rules;
      here = (let long : length (concat (texts c.in_ok-copies.copies.items)) ≡ 0 = ap (λ (l : List (Vec ℕ)). length (concat (texts l))) none in omega arith);
      fit = subst (FitBehind c.args.place) (sym none) (fit_none c.args.place (search rules));
      behind = subst (AreBehind all c.args.place) (sym none) (behind_none all c.args.place);
      next = λ count start. let long : length c.in_ok-copies.copies.items ≡ 0 = ap (λ (l : List (Vec ℕ)). length l) none in let same : count ≡ count + length c.in_ok-copies.copies.items = omega arith in
          subst (λ (k : ℕ). IsStart all k c.args.place) same start;
    }

pub loop-preserved : goal.loop-preserved
loop-preserved g c = let inv = c.loop.invariant in let copy = c.in_ok-copy.copy in let old = c.loop.copies.items in let all = published c.args.log.now in
    let is : c.push_back_reserved.new.self.items ≡ old ++ copy ∷ [] = c.push_back_reserved.ensures.items in
    let same : copy.items ≡ c.in-Some.words.now = c.in_ok-copy.ensures.items in
    let long : length copy.items ≡ length c.in-Some.words.now = ap (λ (l : List ℕ). length l) same in
    let at : c.len-at.result ≡ length copy.items = search rules in
    let more = words_more old copy in
    let grows : length c.push_back_reserved.new.self.items ≡ length old + 1 = ap (λ (l : List (Vec ℕ)). length l) is ∙ length-append old (copy ∷ []) in record {
      many = grows ∙ (let before = inv.many in omega arith);
      room = search rules;
      here = (let longer : length (concat (texts c.push_back_reserved.new.self.items)) ≡ length (concat (texts (old ++ copy ∷ []))) = ap (λ (l : List (Vec ℕ)). length (concat (texts l))) is in let before = inv.here in omega arith);
      fit = subst (FitBehind c.args.place) (sym {A = List (Vec ℕ)} is)
          (fit_more c.args.place old copy inv.fit (let some = c.in-Some.ensures.some in omega arith) (let within = c.in-Some.ensures.within in let before = inv.here in omega arith));
      behind = subst (AreBehind all c.args.place) (sym {A = List (Vec ℕ)} is)
          (behind_more all c.args.place c.loop.at old copy inv.behind inv.here (λ count start. ap (λ (l : List ℕ). Some l) same ∙ c.in-Some.ensures.found count c.in-Some.ensures.kept start));
      next = λ count start. let again : count + length old + 1 ≡ count + length c.push_back_reserved.new.self.items = omega arith in let at_same : c.loop.at + length c.in-Some.words.now ≡ c.loop.at + c.len-at.result = omega arith in
          subst (λ (k : ℕ). IsStart all k (c.loop.at + c.len-at.result)) again (subst (λ (a : ℕ). IsStart all (count + length old + 1) a) at_same (c.in-Some.ensures.next (count + length old) (inv.next count start)));
    }

pub returns-in_default-clause-most : goal.returns-in_default-clause-most
returns-in_default-clause-most g c = λ kept count start. let n : ℕ = length c.loop.copies.items in let at = c.loop.invariant.next count start in
    let all : n ≡ length (published c.args.log.now) - count = count_is (published c.args.log.now) count n c.loop.at at (sym (c.in_default.ensures.found (count + n) (let here = c.loop.invariant.here in omega (arith, kept, here)) at)) in
    let many = c.loop.invariant.many in omega arith

pub returns-clause-most : goal.returns-clause-most
returns-clause-most g c = λ kept count start. let at = c.loop.invariant.next count start in let many = c.loop.invariant.many in
    let whole : length (published c.args.log.now) ≡ length at.0 + length at.1 = ap (λ (l : List (List ℕ)). length l) at.2 ∙ length-append at.0 at.1 in let front = at.3 in omega arith
