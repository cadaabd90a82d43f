use Rattle.std.proofs.Common.{◌≡◌, ◌+◌, ◌*◌, ◌≤◌, ℕ, List, map, take, drop, ◌++◌, length, vec_len, vec_capacity, ap, refl, sym, subst, ◌∙◌, arith}
use Rattle.std.specs.Prelude.{slice_get}
use Rattle.std.specs.Global.{Vec}
use Rattle.std.proofs.lemmas.List.{length-map}
use Rattle.lc_record.proofs.ListLemmas.{slice_get_from_map as mapped_at}
use Rattle.lc_core.specs.Made.{AreSegments}
use Rattle.lc_reading.specs.Pictures.{AreImages}
use Rattle.lc_core.specs.Pieces.{AreNodePieces}
use Rattle.lc_reading.specs.ReadAreas.{AreAreas, AreStarts}
use Rattle.lc_reading.specs.ReadNodes.{AreReadNodes}
use Rattle.lc_rest.specs.declared.segment_part.SegmentPart.{SegmentPart}
use Rattle.lc_core.proofs.ClusterReads.{count_held, count_news, held_areas, images_there, news_long, pieces_fit, read_at}
use Rattle.lc_desk.proofs.Furnishing.{all_back}
use Rattle.lc_core.proofs.SameFaults.{same_fault}
use Rattle.lc_core.proofs.read_cluster.ReadCluster.read.Goals as goal

pub returns-in_err-held-clause-device : goal.returns-in_err-held-clause-device
returns-in_err-held-clause-device g c = λ is.
    (let fails = c.in_err-held.ensures.device (same_fault c.from_residual-in_err-held.result c.in_err-held.field-0.0 _ c.from_residual-in_err-held.ensures.1 is) in
    let olds = c.as_mut_slice.ensures.value ∙ c.in_ok-tokens.ensures.areas in
    let at = mapped_at (λ (part : SegmentPart g.row.D.Denot). part.area) c.args.parts.segments.items fails.0 fails.1 (ap (λ (l : List g.row.D.Denot). slice_get l fails.0) (sym olds) ∙ fails.2) in
    (fails.0, at.0, at.1, (fails.3.0, fails.3.1 ∙ ap (λ (x : g.row.D.Denot). g.D.Area.failures x + 1) (sym at.2))))

pub returns-in_err-held-clause-agree : goal.returns-in_err-held-clause-agree
returns-in_err-held-clause-agree g c = λ part is. c.in_err-held.ensures.agree part (same_fault c.from_residual-in_err-held.result c.in_err-held.field-0.0 _ c.from_residual-in_err-held.ensures.1 is)

pub read_pages-requires : goal.read_pages-requires
read_pages-requires g c =
    let news : length c.read_areas.new.areas ≡ length c.as_mut_slice.result.now = omega (arith, c.read_areas.auto.areas) in
    let held : length c.in_ok-held.held.items ≡ length c.as_mut_slice.result.now = omega (arith, c.in_ok-held.ensures.count, c.in_ok-held.held.ok.0) in
    subst (λ (l : List (Vec ℕ)). AreAreas c.args.parts.geometry l) (sym c.as_slice.ensures.value)
    (held_areas g.D.Area c.args.parts c.requires c.as_mut_slice.result.now c.read_areas.new.areas c.in_ok-held.held.items (c.as_mut_slice.ensures.value ∙ c.in_ok-tokens.ensures.areas) news held c.in_ok-held.ensures.read)

pub invariant_of-read : goal.invariant_of-read
invariant_of-read g c =
    let parts = c.args.parts in
    let area = λ (part : SegmentPart g.row.D.Denot). part.area in
    let are : AreReadNodes g.D.Area parts.geometry.words parts.nodes.items c.in_ok-pieces.field-0 = c.in_ok-pieces.ensures parts.geometry c.requires.logs in
    let olds = c.as_mut_slice.result.now in
    let news = c.read_areas.new.areas in
    let held = c.in_ok-held.held.items in
    let olds_are : olds ≡ map area parts.segments.items = c.as_mut_slice.ensures.value ∙ c.in_ok-tokens.ensures.areas in
    let news_count : length news ≡ length olds = omega (arith, c.read_areas.auto.areas) in
    let held_count : length held ≡ length olds = omega (arith, c.in_ok-held.ensures.count, c.in_ok-held.held.ok.0) in
    let all : length held ≡ parts.geometry.segments = count_held g.D.Area parts c.requires olds news held olds_are news_count held_count c.in_ok-held.ensures.read in
    let long : AreAreas parts.geometry held = held_areas g.D.Area parts c.requires olds news held olds_are news_count held_count c.in_ok-held.ensures.read in
    let starts : AreStarts parts.geometry held c.in_ok-bytes.bytes.items = subst (λ (l : List (Vec ℕ)). AreStarts parts.geometry l c.in_ok-bytes.bytes.items) c.as_slice.ensures.value c.in_ok-bytes.ensures.pages in
    let logs : vec_len c.in_ok-pieces.field-0.logs ≡ parts.geometry.nodes = omega (arith, are.logs_count, c.requires.nodes, c.in_ok-pieces.field-0.logs.ok.0) in
    let counts : vec_len c.in_ok-pieces.field-0.counts ≡ parts.geometry.nodes = omega (arith, are.counts_count, c.requires.nodes, c.in_ok-pieces.field-0.counts.ok.0) in
    let tokens : vec_len c.in_ok-tokens.field-0.tokens ≡ parts.geometry.segments =
    omega (arith, ap length c.in_ok-tokens.ensures.tokens, length-map parts.segments.items (λ (part : SegmentPart g.row.D.Denot). part.token), c.requires.segments, c.in_ok-tokens.field-0.tokens.ok.0) in
    let holders : vec_len c.in_ok-tokens.field-0.holders ≡ parts.geometry.segments =
    omega (arith, ap length c.in_ok-tokens.ensures.holders, length-map parts.segments.items (λ (part : SegmentPart g.row.D.Denot). part.holder), c.requires.segments, c.in_ok-tokens.field-0.holders.ok.0) in
    let areas : vec_len c.in_ok-held.held ≡ parts.geometry.segments = omega (arith, all, c.in_ok-held.held.ok.0) in
    let bytes : vec_len c.in_ok-bytes.bytes ≡ parts.geometry.segments = omega (arith, all, c.in_ok-bytes.ensures.count, ap length c.as_slice.ensures.value) in
    record { all_logs = logs; all_counts = counts; all_tokens = tokens; all_holders = holders; all_areas = areas; all_bytes = bytes; long = long; starts = starts }

pub invariant_of-result : goal.invariant_of-result
invariant_of-result g c =
    let parts = c.args.parts in
    let area = λ (part : SegmentPart g.row.D.Denot). part.area in
    let are : AreReadNodes g.D.Area parts.geometry.words parts.nodes.items c.in_ok-pieces.field-0 = c.in_ok-pieces.ensures parts.geometry c.requires.logs in
    let olds = c.as_mut_slice.result.now in
    let news = c.read_areas.new.areas in
    let held = c.in_ok-held.held.items in
    let first = c.in_ok-tokens.field-0.areas in
    let olds_are : olds ≡ map area parts.segments.items = c.as_mut_slice.ensures.value ∙ c.in_ok-tokens.ensures.areas in
    let news_count : length news ≡ length olds = omega (arith, c.read_areas.auto.areas) in
    let held_count : length held ≡ length olds = omega (arith, c.in_ok-held.ensures.count, c.in_ok-held.held.ok.0) in
    let many : length news ≡ parts.geometry.segments = count_news g.D.Area parts c.requires olds news held olds_are news_count held_count c.in_ok-held.ensures.read in
    let long : AreSegments g.D.Area (2 * 272 * parts.geometry.pages) news = news_long g.D.Area parts c.requires olds news held olds_are news_count held_count c.in_ok-held.ensures.read in
    let count : first.len ≡ length news = omega (arith, news_count, c.as_mut_slice.ensures.len) in
    let back : take first.len (news ++ drop (length news) first.items) ≡ news = all_back first.len news (drop (length news) first.items) count in
    let pieces : vec_len c.in_ok-pieces.field-0.pieces ≡ parts.geometry.nodes = omega (arith, are.pieces_count, c.requires.nodes, c.in_ok-pieces.field-0.pieces.ok.0) in
    let fit : AreNodePieces g.D.Area parts.geometry.words c.in_ok-pieces.field-0.pieces.items = pieces_fit g.D.Area parts c.requires c.in_ok-pieces.field-0 are in
    let images : AreImages parts.geometry c.in_ok-pieces.field-0.images.items = images_there g.D.Area parts c.requires c.in_ok-pieces.field-0 are in
    let segments : first.len ≡ parts.geometry.segments = omega (arith, count, many) in
    let lengths : AreSegments g.D.Area (2 * 272 * parts.geometry.pages) (take first.len (news ++ drop (length news) first.items)) = subst (AreSegments g.D.Area (2 * 272 * parts.geometry.pages)) (sym back) long in
    let room : parts.geometry.nodes + parts.geometry.segments ≤ vec_capacity first = c.in_ok-tokens.ensures.room in
    record { all_nodes = pieces; fit = fit; all_images = images; all_segments = segments; lengths = lengths; room = room }

pub returns-clause-read : goal.returns-clause-read
returns-clause-read g c =
    let parts = c.args.parts in
    let olds = c.as_mut_slice.result.now in
    let news = c.read_areas.new.areas in
    let held = c.in_ok-held.held.items in
    let first = c.in_ok-tokens.field-0.areas in
    let olds_are : olds ≡ map (λ (part : SegmentPart g.row.D.Denot). part.area) parts.segments.items = c.as_mut_slice.ensures.value ∙ c.in_ok-tokens.ensures.areas in
    let news_count : length news ≡ length olds = omega (arith, c.read_areas.auto.areas) in
    let held_count : length held ≡ length olds = omega (arith, c.in_ok-held.ensures.count, c.in_ok-held.held.ok.0) in
    let count : first.len ≡ length news = omega (arith, news_count, c.as_mut_slice.ensures.len) in
    let back : take first.len (news ++ drop (length news) first.items) ≡ news = all_back first.len news (drop (length news) first.items) count in
    record {
      geometry = refl;
      nodes = c.in_ok-pieces.ensures parts.geometry c.requires.logs;
      tokens = c.in_ok-tokens.ensures.tokens;
      holders = c.in_ok-tokens.ensures.holders;
      areas = λ k part area bytes got at its.
          read_at g.D.Area parts c.requires olds news held olds_are news_count held_count c.in_ok-held.ensures.read k part area bytes got (ap (λ (l : List g.row.D.Denot). slice_get l k) (sym back) ∙ at) its;
    }
