use Rattle.std.proofs.Common.{◌≡◌, ◌∙◌, ◌+◌, ◌-◌, arith, Some, None, Ok, sym, subst, length, take, drop}
use Rattle.std.specs.Prelude.{slice_get}
use Rattle.lc_changes.specs.Draft.{handed_of, image_len_of, set_of}
use Rattle.lc_c.specs.Handing.{HandsStage}
use Rattle.lc_c.proofs.Drafted.{found_within}
use Rattle.lc_c.proofs.handing_exports.hand_next.Goals as goal

pub returns : goal.returns
returns c =
    let draft = c.args.draft.now in let image = c.args.image.now in let first = c.in-Some.range in
    let at : slice_get (set_of draft) (handed_of draft) ≡ Some first = sym c.next.ensures.next ∙ c.in-Some.is in
    let plain : first.offset + first.len - first.offset ≡ first.len = omega arith in
    let fits : length image ≡ image_len_of draft = c.if-image-image_len.false ∙ c.image_len.ensures in record {
      none = λ e. absurd (let never : Some first ≡ None = sym at ∙ e in cc);
      no_image = λ range is other. absurd (other fits);
      hands = λ range is long.
          let found : Some first ≡ Some range = sym at ∙ is in let same : first ≡ range = cc in
          subst (λ r. HandsStage c.args.node c.args.thread r (take r.len (drop r.offset image)) c.args.session.now.stage (Ok tt) c.hand.new.self.stage) same
          (subst (λ n. HandsStage c.args.node c.args.thread first (take n (drop first.offset image)) c.args.session.now.stage (Ok tt) c.hand.new.self.stage) plain c.in_ok-hand.ensures.hands);
      beside = c.hand.ensures.beside;
      one = λ range is. c.advance.ensures.one (found_within (set_of draft) (handed_of draft) first at);
      stays = tt;
      same = c.advance.ensures.same;
    }
