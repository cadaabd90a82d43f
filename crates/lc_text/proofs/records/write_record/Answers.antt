use Rattle.std.proofs.Common.{◌≡◌, ℕ, ◌-◌, ◌^◌, List, ◌++◌, append_assoc}
use Rattle.std.specs.Prelude.{min, codes, decimal}
use Rattle.std.specs.List.{join_by}
use Rattle.std.specs.Io.KnownBytes.{Appends}
use Rattle.std.proofs.KnownBytes.{Appends-trans}
use Rattle.std.proofs.lemmas.Result.{on_ok_weaker}
use Rattle.lc_record.specs.Record.{record_len}
use Rattle.lc_record.specs.declared.record.Record.{Record}
use Rattle.lc_text.specs.Text.{lock_text, range_text, record_text}
use Rattle.lc_text.proofs.Writes.{same_bytes}
use Rattle.lc_text.proofs.records.write_record.Goals as goal

regroup : (place words node locks ranges : List ℕ) →
    (((place ++ (codes " " ++ (words ++ (codes " node " ++ (node ++ codes " locks "))))) ++ locks) ++ codes " ranges ") ++ ranges ++ codes "\n"
    ≡ place ++ codes " " ++ words ++ codes " node " ++ node ++ codes " locks " ++ locks ++ codes " ranges " ++ ranges ++ codes "\n"
regroup place words node locks ranges = simp append_assoc

text : (place words : ℕ) (r : Record) → words ≡ min (record_len r) (2 ^ 64 - 1) →
    (((decimal place ++ (codes " " ++ (decimal words ++ (codes " node " ++ (decimal r.node ++ codes " locks "))))) ++ join_by lock_text (codes ",") r.locks) ++ codes " ranges ") ++ join_by range_text (codes ",") r.ranges ++ codes "\n"
    ≡ record_text place r
unfolding record_text
text place words r e = rw e (regroup (decimal place) (decimal (min (record_len r) (2 ^ 64 - 1))) (decimal r.node) (join_by lock_text (codes ",") r.locks) (join_by range_text (codes ",") r.ranges))

pub returns : goal.returns
returns g c =
    let r = c.args.record.now in
    let head : Appends (g.W.Write.contents c.args.writer.now) (g.W.Write.contents c.write.new.self) (decimal c.args.place ++ (codes " " ++ (decimal c.encoded_words-words.result ++ (codes " node " ++ (decimal r.node ++ codes " locks "))))) = c.in_ok-write.ensures.bytes in
    let locks : Appends (g.W.Write.contents c.write.new.self) (g.W.Write.contents c.write_locks.new.writer) (join_by lock_text (codes ",") r.locks) = rw (← c.as_slice.ensures) c.in_ok-write_locks.ensures in
    let ranges : Appends (g.W.Write.contents c.write_all.new.self) (g.W.Write.contents c.write_ranges.new.writer) (join_by range_text (codes ",") r.ranges) = rw (← c.as_slice-2.ensures) c.in_ok-write_ranges.ensures in
    let with_locks : Appends _ _ _ = Appends-trans _ _ _ _ _ head locks in
    let with_word : Appends _ _ _ = Appends-trans _ _ _ _ _ with_locks c.in_ok-write_all.ensures.bytes in
    let with_ranges : Appends _ _ _ = Appends-trans _ _ _ _ _ with_word ranges in
    on_ok_weaker c.write_all-2.result
    (λ end. same_bytes _ _ _ _ (text c.args.place c.encoded_words-words.result r c.encoded_words-words.ensures) (Appends-trans _ _ _ _ _ with_ranges end))
    c.write_all-2.ensures.bytes
