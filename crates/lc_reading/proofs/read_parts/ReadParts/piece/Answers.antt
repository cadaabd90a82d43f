use Rattle.std.proofs.Common.{◌≡◌, ◌+◌, ℕ, true≢false, [], List, Bor, Some, map, length, ap, ap₂, refl, sym, ◌∙◌, subst, arith}
use Rattle.std.specs.Prelude.{slice_get}
use Rattle.std.specs.Global.{Vec}
use Rattle.lc_record.specs.declared.record.Record.{Record}
use Rattle.lc_rest.specs.Holder.{node_of}
use Rattle.lc_rest.specs.Merge.{logs_of}
use Rattle.lc_rest.specs.Replay.{bytes_after}
use Rattle.lc_rest.specs.Stable.{stable_count}
use Rattle.lc_rest.specs.TokenTest.{count_on}
use Rattle.lc_rest.specs.declared.holder.Holder.TheVariants.{Left}
use Rattle.lc_reading.specs.Pictures.{AreApplied, ComesUp}
use Rattle.lc_reading.specs.Readings.{no_token, tests_of}
use Rattle.lc_reading.specs.declared.node_images.NodeImages.{NodeImages}
use Rattle.lc_reading.proofs.PicturePieces.{are_applied, first_small, length_after, length_up_to, pictures_kept, piece_made, start_long}
use Rattle.lc_reading.proofs.TokenReads.{index_at}
use Rattle.lc_reading.proofs.read_parts.ReadParts.piece.Goals as goal

pub returns-then-not-are_applied-clause-fails : goal.returns-then-not-are_applied-clause-fails
returns-then-not-are_applied-clause-fails c = λ turns order keeps.
    (let r = c.args.self.now in
    let place = c.args.place in
    let rs : List Record = map (λ (x : Bor Record). x.now) c.args.records.now in
    let token = index_at no_token c.index.result.now r.tokens.items place (omega (arith, c.requires.place, r.all_tokens, r.tokens.ok.0)) c.index.ensures in
    let holder = index_at (Left 0) c.index-holder.result.now r.holders.items place (omega (arith, c.requires.place, r.all_holders, r.holders.ok.0)) c.index-holder.ensures in
    let are = are_applied r turns rs place c.args.first c.index.result.now c.index-holder.result.now order c.requires.first token holder c.args.nodes.now keeps in
    true≢false (sym (c.are_applied.ensures.1 (rw c.seq.ensures (subst (λ (n : ℕ). AreApplied c.args.nodes.now (place + 1) c.index.result.now.seq n) (sym c.node_of.ensures) are))) ∙ c.if-not-are_applied.true))

pub replayed-requires-clause-small : goal.replayed-requires-clause-small
replayed-requires-clause-small c =
    let small = first_small c.args.self.now c.args.place c.args.first c.requires.place c.requires.first c.requires.tokens in
    omega (arith, small)

pub stable_number-stable-requires-clause-small : goal.stable_number-stable-requires-clause-small
stable_number-stable-requires-clause-small c =
    let r = c.args.self.now in
    let small = first_small r c.args.place c.args.first c.requires.place c.requires.first c.requires.tokens in
    let same = ap (λ (l : List (Vec Record)). count_on (c.args.place + 1) (logs_of l)) c.as_slice-2.ensures.value in
    omega (arith, small, same)

pub returns-clause-long : goal.returns-clause-long
returns-clause-long c =
    let r = c.args.self.now in
    let place = c.args.place in
    let rs : List Record = map (λ (x : Bor Record). x.now) c.args.records.now in
    let start = (tests_of r []).bytes (place + 1) in
    let bytes : c.in-Some.bytes.items ≡ bytes_after (place + 1) rs start = rw c.in-Some.is at c.in_ok-bytes.ensures.bytes in
    record {
      bytes = ap length bytes ∙ length_after (place + 1) rs start ∙ start_long r place c.requires.place;
      stable_bytes = ap length c.in_ok-stable_bytes.ensures ∙ length_up_to (place + 1) _ rs start ∙ start_long r place c.requires.place;
    }

pub returns-clause-piece : goal.returns-clause-piece
returns-clause-piece c = λ turns order.
    (let r = c.args.self.now in
    let place = c.args.place in
    let rs : List Record = map (λ (x : Bor Record). x.now) c.args.records.now in
    let start = (tests_of r []).bytes (place + 1) in
    let token = index_at no_token c.index.result.now r.tokens.items place (omega (arith, c.requires.place, r.all_tokens, r.tokens.ok.0)) c.index.ensures in
    let holder = index_at (Left 0) c.index-holder.result.now r.holders.items place (omega (arith, c.requires.place, r.all_holders, r.holders.ok.0)) c.index-holder.ensures in
    let bytes : c.in-Some.bytes.items ≡ bytes_after (place + 1) rs start = rw c.in-Some.is at c.in_ok-bytes.ensures.bytes in
    let stable : c.stable_number-stable.result ≡ c.args.first + stable_count (place + 1) (logs_of r.logs.items) r.counts.items =
    c.stable_number-stable.ensures ∙ ap₂ (λ (l : List (Vec Record)) (cs : List ℕ). c.args.first + stable_count (place + 1) (logs_of l) cs) c.as_slice-2.ensures.value c.as_slice-3.ensures.value in
    piece_made r turns rs place c.args.first c.index.result.now c.index-holder.result.now order c.requires.first token holder _ refl bytes stable c.in_ok-stable_bytes.ensures)

pub returns-clause-keeps : goal.returns-clause-keeps
returns-clause-keeps c = λ turns order.
    (let r = c.args.self.now in
    let place = c.args.place in
    let rs : List Record = map (λ (x : Bor Record). x.now) c.args.records.now in
    let start = (tests_of r []).bytes (place + 1) in
    let nodes = c.args.nodes.now in
    let token = index_at no_token c.index.result.now r.tokens.items place (omega (arith, c.requires.place, r.all_tokens, r.tokens.ok.0)) c.index.ensures in
    let holder = index_at (Left 0) c.index-holder.result.now r.holders.items place (omega (arith, c.requires.place, r.all_holders, r.holders.ok.0)) c.index-holder.ensures in
    let bytes : c.in-Some.bytes.items ≡ bytes_after (place + 1) rs start = rw c.in-Some.is at c.in_ok-bytes.ensures.bytes in
    let are : AreApplied nodes (place + 1) c.index.result.now.seq (node_of c.index-holder.result.now) =
    subst (λ (n : ℕ). AreApplied nodes (place + 1) c.index.result.now.seq n) c.node_of.ensures (rw c.seq.ensures at (c.are_applied.ensures.0 c.if-not-are_applied.false)) in
    let up : (n : ℕ) (node : NodeImages) → slice_get nodes n ≡ Some node → ComesUp place rs node c.as_slice.result.now = c.in_ok-all_come_up.ensures.0 c.if-not-branch.false in
    pictures_kept r turns rs place c.args.first c.index.result.now c.index-holder.result.now order c.requires.first token holder nodes c.as_slice.result.now are
    (rw c.in-Some.is at c.in_ok-bytes.ensures.replay) (c.as_slice.ensures.value ∙ bytes) up)
