use Rattle.std.proofs.Common.{◌≡◌, ◌+◌, ◌*◌, ◌∙◌, ℕ, List, [], take, drop, get_or, add-one, sym, ap}
use Rattle.std.specs.Prelude.{slice_get, slice_index_or}
use Rattle.std.specs.Option.{option_or}
use Rattle.std.proofs.lemmas.List.Elements.{All-get_or}
use Rattle.lc_record.specs.Newest.{byte_from, byte_in, byte_of}
use Rattle.lc_record.specs.Words.{bytes_of}
use Rattle.lc_record.specs.declared.record.RangeData.{RangeData}
use Rattle.lc_recover.specs.Page.{IsOf}
use Rattle.lc_recover.specs.declared.redo_range.RedoRange.{RedoRange}
use Rattle.lc_recover.proofs.PageLemmas.{standing, all_taken, named_byte, one_range_more}
use Rattle.lc_recover.proofs.page.put_changes.Goals as goal

pub loop-change-preserved : goal.loop-change-preserved
loop-change-preserved c =
    let l = c.loop-change in
    let changes = c.args.changes.now in
    let i = l.change-index in
    let none : RedoRange = record { segment = 0; page = 0; seq = 0; log = 0; place = 0; words = 0; offset = 0; len = 0 } in
    let change : RedoRange = get_or changes i none in
    let old = slice_get c.args.bytes.now in
    record {
      len = c.put_change.ensures.len;
      put = λ ranges segment page at of_page offset lt.
          let one = standing c.args.logs.now changes ranges i none at c.loop-change-test.true in
          let of : IsOf segment page change = All-get_or (IsOf segment page) changes i none c.loop-change-test.true of_page in
          let new = slice_get c.put_change.new.bytes offset in
          let was = slice_get l.bytes offset in
          let put : slice_get c.put_change.new.bytes offset ≡ option_or (byte_from change.offset (take change.len (bytes_of (drop change.words (drop change.place (slice_index_or c.args.logs.now change.log []))))) (change.page * 256 + offset)) was = c.put_change.ensures.put offset lt in
          let place = page * 256 + offset in
          put
          ∙ ap (λ (o : _). option_or o was) (named_byte c.args.logs.now change one.its segment (change.page * 256 + offset) one.names of.0)
          ∙ ap (λ (p : ℕ). option_or (byte_in segment (p * 256 + offset) one.its) was) of.1
          ∙ ap (option_or (byte_in segment place one.its)) (l.invariant.put ranges segment page at of_page offset lt)
          ∙ one_range_more segment place (take i ranges) one.its (old offset)
          ∙ ap (λ (rs : List RangeData). option_or (byte_of segment place rs) (old offset)) (sym (ap (λ (n : ℕ). take n ranges) (add-one i) ∙ one.next));
    }

pub returns-clause-put : goal.returns-clause-put
returns-clause-put c ranges segment page at of_page offset lt =
    let l = c.loop-change in
    let all : take l.change-index ranges ≡ ranges = all_taken c.args.logs.now c.args.changes.now ranges l.change-index at c.loop-change-test.false in
    l.invariant.put ranges segment page at of_page offset lt
    ∙ ap (λ (rs : List RangeData). option_or (byte_of segment (page * 256 + offset) rs) (slice_get c.args.bytes.now offset)) all
