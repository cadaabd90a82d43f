use Rattle.std.proofs.Common.{length, Option, ap, ◌∙◌}
use Rattle.lc_token.specs.Backlog.{fresh}
use Rattle.lc_token.specs.declared.token.Token.{Token}
use Rattle.lc_desk.specs.Pieces.{bytes_of, number_of}
use Rattle.lc_desk.proofs.Pieces.{bytes_long, put_whole}
use Rattle.lc_desk.proofs.segment_copy.SegmentCopy.adopt.Goals as goal

pub returns-clause-made : goal.returns-clause-made
returns-clause-made c =
    let piece = c.args.piece.now in
    let standing = c.take_here-standing.ensures.standing in
    let long = ap length c.bytes.ensures ∙ bytes_long (length c.args.self.now.image.bytes.items) piece c.take_here-standing.result c.requires.bytes c.requires.stable_bytes in
    record {
      bytes = c.set.ensures.bytes ∙ put_whole c.bytes.result.now c.args.self.now.image.bytes.items long ∙ c.bytes.ensures ∙ ap (bytes_of piece) standing;
      holders = c.set.ensures.holders ∙ c.requires.free;
      token = ap (λ n. record { segment = n; token = c.new.result.token }) c.new.ensures.segment
          ∙ ap (λ (t : Option Token). record { segment = c.args.segment; token = t }) (c.new.ensures.token ∙ standing);
      parts = c.new-2.ensures ∙ ap (fresh c.args.segment) (c.number-applied.ensures ∙ ap (number_of piece) standing);
    }
