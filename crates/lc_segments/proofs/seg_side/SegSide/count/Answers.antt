use Rattle.std.proofs.Common.{rules, ◌≡◌, ℕ, ◌+◌, ◌≤◌, List, Some, None, length, sym, ap, subst, ◌∙◌, ◌∷◌, [], ◌++◌, arith}
use Rattle.std.specs.Prelude.{Option}
use Rattle.lc_page.specs.declared.page_entry.PageEntry.{PageEntry}
use Rattle.lc_range.specs.RangeSet.{EndWithin}
use Rattle.lc_range.specs.declared.range.Range.{Range}
use Rattle.lc_applied.specs.AppliedParts.{part_of_runs, runs_of}
use Rattle.lc_segments.proofs.RunParts.{size_same, touched_same}
use Rattle.std.specs.Option.{ForSome}
use Rattle.lc_record.specs.declared.part.Part.{Part}
use Rattle.lc_token.specs.Standing.{Standing}
use Rattle.lc_token.specs.declared.token.Token.{Token}
use Rattle.lc_segments.specs.Growing.{entry_size, part_size, parts_size, runs_size}
use Rattle.lc_segments.specs.SegSide.{FitsArea}
use Rattle.lc_applied.specs.AppliedParts.{laid_parts}
use Rattle.lc_segments.specs.Sides.{next_token, IsNext}
use Rattle.lc_segments.specs.Touched.{touched_pages}
use Rattle.lc_segments.proofs.Laying.{laid_more}
use Rattle.lc_segments.proofs.Counted.{token_before, token_counted, area_counted, number_counted, few_behind, few_before}
use Rattle.lc_segments.proofs.Stored.{parts_size_more}
use Rattle.lc_segments.proofs.seg_side.SegSide.count.Goals as goal

pub invariant_of-self : goal.invariant_of-self
invariant_of-self g c = let inv = c.self.invariant in let old = c.self.inside in let runs : List Range = runs_of old.segment c.args.runs.now in let image : List ℕ = c.args.image.now in let part : Part = part_of_runs old.segment c.args.seq c.args.runs.now image in
    let within : EndWithin runs (length image) = search rules in
    let next : IsNext part old.token.token = search rules in
    let before = token_before part old.token.token next in
    let touches : ForSome c.count_record.new.self.token (λ x. c.touch_runs.new.place ≡ record { segment = c.count_record.new.self.segment; token = Some (record x { pages = touched_pages part.ranges x.seq x.pages }) }) =
    λ x there. c.touch_runs.ensures x there ∙ ap (λ (es : List PageEntry). record { segment = c.count_record.new.self.segment; token = Some (record x { pages = es }) }) (touched_same image runs within x.seq x.pages) in
    let is : c.touch_runs.new.place ≡ record { segment = old.token.segment; token = next_token part old.token.token } =
    token_counted part old.token c.count_record.new.self c.touch_runs.new.place before.0 before.1 c.count_record.ensures touches in
    let token : c.touch_runs.new.place.token ≡ next_token part old.token.token = ap (λ (x : Standing). x.token) is in
    let items : c.push_runs.new.self.parts ≡ old.applied.parts ++ part ∷ [] = search rules in
    let none : old.image ≡ None = search rules in
    let own = c.own.ensures in
    record {
      shows = λ image is_some. absurd cc;
      of_token = ap (λ (x : Standing). x.segment) is ∙ inv.of_token;
      of_hold_back = search rules;
      first = inv.first;
      last = inv.last;
      all_stored = (let was = inv.all_stored in let size = c.size_of_runs-size.ensures in let same : part_size part ≡ entry_size + runs_size runs = ap (λ (n : ℕ). entry_size + n) (size_same image runs within) in let sum = c.saturating_add-self-inside.ensures in
          let more : parts_size c.push_runs.new.self.parts ≡ parts_size old.applied.parts + part_size part = ap parts_size items ∙ parts_size_more old.applied.parts part in omega arith);
      short = inv.short;
      all_applied = λ x there.
          let same : Some x ≡ next_token part old.token.token = sym there ∙ token in
          let counted : x.seq ≡ before.0.seq + 1 = number_counted part old.token.token before.0 x before.1 same in
          let applied : c.own.new.self.applied ≡ part.seq = search rules in
          counted ∙ (sym before.2 ∙ sym applied);
      few_pages = subst (λ (o : Option Token). ForSome o (λ t. length t.pages ≤ 1024)) (sym token) (few_behind part old.token.token 1024 inv.few_pages);
      fits_area = subst (λ (o : Option Token). FitsArea g.D.Area old.since old.pages o (laid_parts c.push_runs.new.self.parts old.base.bytes.items)) (sym token)
          (subst (λ (l : List ℕ). FitsArea g.D.Area old.since old.pages (next_token part old.token.token) l)
          (sym (ap (λ (l : List Part). laid_parts l old.base.bytes.items) items ∙ laid_more old.applied.parts part old.base.bytes.items))
          (area_counted g.D.Area old.since old.pages old.token.token part (laid_parts old.applied.parts old.base.bytes.items) next inv.fits_area));
    }

pub touch_runs-requires-clause-few : goal.touch_runs-requires-clause-few
touch_runs-requires-clause-few g c = let old = c.self.inside in let runs : List Range = runs_of old.segment c.args.runs.now in let image : List ℕ = c.args.image.now in let part : Part = part_of_runs old.segment c.args.seq c.args.runs.now image in
    let within : EndWithin runs (length image) = search rules in
    let next : IsNext part old.token.token = search rules in
    let before = token_before part old.token.token next in
    let mid : c.count_record.new.self ≡ record old.token { token = Some (record before.0 { seq = before.0.seq + 1 }) } = c.count_record.ensures before.0 before.1 in
    let few = few_before old.token.token c.count_record.new.self.token before.0 1024 before.1 (ap (λ (s : Standing). s.token) mid) c.self.invariant.few_pages in
    λ x is. let n = few x is in omega arith

pub returns : goal.returns
returns g c = let old = c.self.inside in let runs : List Range = runs_of old.segment c.args.runs.now in let image : List ℕ = c.args.image.now in let part : Part = part_of_runs old.segment c.args.seq c.args.runs.now image in
    let within : EndWithin runs (length image) = search rules in
    let next : IsNext part old.token.token = search rules in
    let before = token_before part old.token.token next in
    let touches : ForSome c.count_record.new.self.token (λ x. c.touch_runs.new.place ≡ record { segment = c.count_record.new.self.segment; token = Some (record x { pages = touched_pages part.ranges x.seq x.pages }) }) =
    λ x there. c.touch_runs.ensures x there ∙ ap (λ (es : List PageEntry). record { segment = c.count_record.new.self.segment; token = Some (record x { pages = es }) }) (touched_same image runs within x.seq x.pages) in
    let is : c.touch_runs.new.place ≡ record { segment = old.token.segment; token = next_token part old.token.token } =
    token_counted part old.token c.count_record.new.self c.touch_runs.new.place before.0 before.1 c.count_record.ensures touches in
    let items : c.push_runs.new.self.parts ≡ old.applied.parts ++ part ∷ [] = search rules in
    search rules
