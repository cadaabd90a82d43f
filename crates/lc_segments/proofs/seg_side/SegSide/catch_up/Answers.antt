use Rattle.std.proofs.Common.{rules, ◌≡◌, ◌∷◌, [], ◌++◌, List, None, Some, sym, ap, subst, ◌∙◌}
use Rattle.std.specs.Prelude.{Option}
use Rattle.lc_record.specs.declared.part.Part.{Part}
use Rattle.lc_token.specs.Backlog.{HandsOutKept}
use Rattle.lc_tx.specs.Image.{laid_over}
use Rattle.lc_applied.specs.AppliedParts.{laid_parts}
use Rattle.lc_segments.proofs.CatchingUp.{all_taken, end_step, one_more, room_step, run_step, same_step}
use Rattle.lc_segments.proofs.Laying.{laid_more}
use Rattle.lc_segments.proofs.seg_side.SegSide.catch_up.Goals as goal

pub loop-part-preserved : goal.loop-part-preserved
loop-part-preserved g c = let start = c.args.self.now in let l = c.loop-part.self in let m = c.take_kept.new.self in let n = c.lay_part.new.self in let part : Part = c.in-Some.part in
    let inv = c.loop-part.invariant in
    let taken : HandsOutKept l.backlog (Some part) m.backlog = c.in-Some.ensures.handed in
    let laid : n ≡ record m { applied = m.applied ++ part ∷ [] } = c.lay_part.ensures.laid in
    let m_is : m ≡ record l { backlog = m.backlog } = c.in-Some.ensures.same in
    let base : n.base ≡ l.base = search rules in
    let more = one_more start l m m_is inv.same inv.run inv.end n part laid taken in
    record {
      same = same_step start l m m_is inv.same inv.run inv.end n part laid taken;
      room = room_step start l m m_is inv.same inv.run inv.end n part laid taken inv.room;
      run = run_step start l m m_is inv.same inv.run inv.end n part laid taken;
      end = end_step start l m m_is inv.same inv.run inv.end n part laid taken;
      shows = c.lay_part.ensures.bytes ∙ (ap (laid_over part.ranges) inv.shows ∙ (sym (laid_more l.applied part l.base)
          ∙ (ap (λ (ps : List Part). laid_parts ps l.base) (sym more) ∙ ap (laid_parts n.applied) (sym base))));
      holders = c.lay_part.ensures.holders ∙ inv.holders;
    }

pub returns-clause-applied : goal.returns-clause-applied
returns-clause-applied g c = let start = c.args.self.now in let l = c.loop-part.self in let m = c.take_kept.new.self in let inv = c.loop-part.invariant in
    let none : c.take_kept.result ≡ None = search rules in
    let over : HandsOutKept l.backlog None m.backlog = subst (λ (o : Option Part). HandsOutKept l.backlog o m.backlog) none c.take_kept.ensures.handed in
    all_taken start l m c.take_kept.ensures.same inv.same inv.run inv.end over
