use Rattle.std.proofs.Common.{◌≡◌, ◌+◌, All, List, ◌++◌, length, take, drop, sym, subst, ◌∙◌, arith, length-append}
use Rattle.std.proofs.lemmas.List.Elements.{All-append}
use Rattle.lc_record.proofs.ListLemmas.{All-append_right}
use Rattle.lc_stage.specs.Seats.{commit_view}
use Rattle.lc_node.specs.Held.{IsHeldOf}
use Rattle.lc_node.specs.Commits.{CommitsOn}
use Rattle.lc_segments.specs.declared.held.HeldSide.{HeldSide}
use Rattle.lc_node.proofs.MadeRoom.{commits_first, long_as, written_back}
use Rattle.lc_node.proofs.node.Node.commit_first.Goals as goal

pub returns-clause-held : goal.returns-clause-held
returns-clause-held g c = let node = c.args.self.now in let olds : List (HeldSide g.row.D.Denot) = c.args.held.now.sides.items in
    let asked : List (HeldSide g.row.D.Denot) = c.split_at_mut-asked.result.0.now in let others : List (HeldSide g.row.D.Denot) = c.split_at_mut-asked.result.1.now in
    let news : List (HeldSide g.row.D.Denot) = c.commit_on.new.sides in
    let whole : olds ≡ asked ++ others = sym c.as_mut_slice.ensures.value ∙ c.split_at_mut-asked.ensures.value in
    let same : length news ≡ length asked = long_as news asked c.commit_on.ensures.segments in
    let long : length news + length others ≡ c.args.held.now.sides.len =
    (let both = length-append asked others in let all : length olds ≡ length (asked ++ others) = (λ i. length (whole i)) in let ok = c.args.held.now.sides.ok.0 in omega arith) in
    let back = written_back news others (drop (length (news ++ others)) olds) c.args.held.now.sides.len long in
    subst (All (IsHeldOf node)) (sym back) (All-append (IsHeldOf node) news others c.commit_on.ensures.held (All-append_right (IsHeldOf node) asked others (subst (All (IsHeldOf node)) whole c.requires.held)))

pub returns-clause-commits : goal.returns-clause-commits
returns-clause-commits g c = let node = c.args.self.now in let olds : List (HeldSide g.row.D.Denot) = c.args.held.now.sides.items in
    let asked : List (HeldSide g.row.D.Denot) = c.split_at_mut-asked.result.0.now in let others : List (HeldSide g.row.D.Denot) = c.split_at_mut-asked.result.1.now in
    let news : List (HeldSide g.row.D.Denot) = c.commit_on.new.sides in
    let whole : olds ≡ asked ++ others = sym c.as_mut_slice.ensures.value ∙ c.split_at_mut-asked.ensures.value in
    let same : length news ≡ length asked = long_as news asked c.commit_on.ensures.segments in
    let long : length news + length others ≡ c.args.held.now.sides.len =
    (let both = length-append asked others in let all : length olds ≡ length (asked ++ others) = (λ i. length (whole i)) in let ok = c.args.held.now.sides.ok.0 in omega arith) in
    let back = written_back news others (drop (length (news ++ others)) olds) c.args.held.now.sides.len long in
    let e = c.commit_on.ensures in
    let on : CommitsOn g.D.Area node (g.W.Work.ran c.args.work.now c.commit_on.new.work) c.args.tries asked news (commit_view c.args.seat.now) (commit_view c.commit_on.new.seat) c.commit_on.result =
    record { here = e.here; committed = e.committed; nothing = e.nothing; why = e.why; absent = e.absent; refused = e.refused } in
    commits_first g.D.Area node (g.W.Work.ran c.args.work.now c.commit_on.new.work) c.args.tries c.args.count olds asked others news
    (take c.args.held.now.sides.len (news ++ others ++ drop (length (news ++ others)) olds)) (commit_view c.args.seat.now) (commit_view c.commit_on.new.seat) c.commit_on.result
    whole c.split_at_mut-asked.ensures.front_len back same on
