use Rattle.std.proofs.Common.{◌≡◌, ◌+◌, ◌++◌, ◌∷◌, ◌<◌, ℕ, List, [], length, map, take, get_or, refl, ap, sym, subst, ◌∙◌, arith, length-append, append-nil, append_assoc}
use Rattle.std.specs.List.{flat_map, AllByRecursion}
use Rattle.std.proofs.lemmas.List.{take_more, take-map, map-append, get_or-map, length-map}
use Rattle.std.proofs.lemmas.List.Folds.{length-flat_map-take}
use Rattle.std.proofs.lemmas.Grind.{flat_map-append}
use Rattle.lc_range.specs.declared.range.Range.{Range}
use Rattle.lc_record.specs.Words.{AreBytes}
use Rattle.lc_record.specs.Record.{range_words}
use Rattle.lc_record.specs.SpellingView.{SpellingView}
use Rattle.lc_record.specs.declared.record.RangeData.{RangeData}
use Rattle.lc_tx.specs.declared.image.Image.{Image as Picture}
use Rattle.lc_tx.specs.Prepared.{run_data}
use Rattle.lc_tx.proofs.CanonicalLemmas.{fit_more}
use Rattle.lc_tx.proofs.ImagesLemmas.{ImageLaws, here_along, same_chained}
use Rattle.lc_tx.proofs.RecordLemmas.{inside_at, same_data}
use Rattle.lc_tx.proofs.recording.add_ranges.Given.{Over}
use Rattle.lc_tx.proofs.recording.add_ranges.Goals as goal

laws : (g : Over) → ImageLaws g.I.Images
laws g =
    let h = g.met.I.Images in
    record {
      same_numbers = h.same_numbers;
      own_image = h.own_image;
      other_image = h.other_image;
      beside_itself = h.beside_itself;
      beside_image = h.beside_image;
      beside_chained = h.beside_chained;
    }

pub add_run-requires-in-loop-run-clause-inside : goal.add_run-requires-in-loop-run-clause-inside
add_run-requires-in-loop-run-clause-inside g c =
    let d : Range = record { segment = 0; offset = 0; len = 0 } in
    let run : Range = get_or c.args.runs.now c.loop-run.run-index d in
    let inside = inside_at g.I.Images c.args.images.now c.args.runs.now c.loop-run.run-index d c.requires.inside c.loop-run-test.true in
    let same = c.loop-run.invariant.same in
    ((here_along g.I.Images [] c.args.images.now c.loop-run.images run.segment same inside.0, omega (arith, inside.1, ap (λ (p : Picture). length p.bytes.items) (same.others run.segment inside.0 refl))), tt)

pub add_run-requires-in-loop-run-clause-room : goal.add_run-requires-in-loop-run-clause-room
add_run-requires-in-loop-run-clause-room g c =
    let d : Range = record { segment = 0; offset = 0; len = 0 } in
    let rd : Range → RangeData = run_data g.I.Images c.args.images.now in
    let runs = c.args.runs.now in
    let i = c.loop-run.run-index in
    let run : Range = get_or c.args.runs.now c.loop-run.run-index d in
    let inside = inside_at g.I.Images c.args.images.now c.args.runs.now c.loop-run.run-index d c.requires.inside c.loop-run-test.true in
    let within : c.loop-run.run-index < length (map rd c.args.runs.now) = omega (arith, c.loop-run-test.true, length-map c.args.runs.now rd) in
    let all = length-flat_map-take (range_words c.args.spelling.now.version) (map rd c.args.runs.now) c.loop-run.run-index (rd d) within in
    let at : get_or (map rd c.args.runs.now) c.loop-run.run-index (rd d) ≡ rd run = get_or-map rd c.args.runs.now c.loop-run.run-index d (rd d) c.loop-run-test.true in
    let one : length (range_words c.args.spelling.now.version (get_or (map rd c.args.runs.now) c.loop-run.run-index (rd d))) ≡ length (range_words c.args.spelling.now.version (rd run)) =
    ap (λ (r : RangeData). length (range_words c.args.spelling.now.version r)) at in
    let mine : length (range_words c.loop-run.spelling.version (run_data g.I.Images c.loop-run.images run)) ≡ length (range_words c.args.spelling.now.version (rd run)) =
    ap (λ (x : SpellingView). length (range_words x.version (run_data g.I.Images c.loop-run.images run))) c.loop-run.invariant.spelled
    ∙ ap (λ (r : RangeData). length (range_words c.args.spelling.now.version r)) (same_data g.I.Images c.args.images.now c.loop-run.images run inside.0 c.loop-run.invariant.same) in
    let front : length (flat_map (range_words c.args.spelling.now.version) (take c.loop-run.run-index (map rd c.args.runs.now))) ≡ length (flat_map (range_words c.args.spelling.now.version) (map rd (take c.loop-run.run-index c.args.runs.now))) =
    ap (λ (l : List RangeData). length (flat_map (range_words c.args.spelling.now.version) l)) (take-map rd c.loop-run.run-index c.args.runs.now) in
    let words : length c.loop-run.spelling.words ≡ length c.args.spelling.now.words + length (flat_map (range_words c.args.spelling.now.version) (map rd (take c.loop-run.run-index c.args.runs.now))) =
    ap (λ (x : SpellingView). length x.words) c.loop-run.invariant.spelled ∙ length-append c.args.spelling.now.words (flat_map (range_words c.args.spelling.now.version) (map rd (take c.loop-run.run-index c.args.runs.now))) in
    let len : c.loop-run.spelling.len ≡ c.args.spelling.now.len = ap (λ (x : SpellingView). x.len) c.loop-run.invariant.spelled in
    omega (arith, all, one, mine, front, words, len, c.requires.room)

pub loop-run-preserved : goal.loop-run-preserved
loop-run-preserved g c =
    let d : Range = record { segment = 0; offset = 0; len = 0 } in
    let rd : Range → RangeData = run_data g.I.Images c.args.images.now in
    let run : Range = get_or c.args.runs.now c.loop-run.run-index d in
    let front : List RangeData = map rd (take c.loop-run.run-index c.args.runs.now) in
    let more : map rd (take (c.loop-run.run-index + 1) c.args.runs.now) ≡ front ++ rd run ∷ [] =
    ap (map rd) (take_more c.args.runs.now c.loop-run.run-index d c.loop-run-test.true) ∙ map-append rd (take c.loop-run.run-index c.args.runs.now) (run ∷ []) in
    let inside = inside_at g.I.Images c.args.images.now c.args.runs.now c.loop-run.run-index d c.requires.inside c.loop-run-test.true in
    let data_is : run_data g.I.Images c.loop-run.images run ≡ rd run = same_data g.I.Images c.args.images.now c.loop-run.images run inside.0 c.loop-run.invariant.same in
    let joined : (c.args.spelling.now.words ++ flat_map (range_words c.args.spelling.now.version) front) ++ range_words c.args.spelling.now.version (rd run)
    ≡ c.args.spelling.now.words ++ flat_map (range_words c.args.spelling.now.version) (map rd (take (c.loop-run.run-index + 1) c.args.runs.now)) =
    append_assoc c.args.spelling.now.words (flat_map (range_words c.args.spelling.now.version) front) (range_words c.args.spelling.now.version (rd run))
    ∙ ap (λ (l : List ℕ). c.args.spelling.now.words ++ l)
    (ap (λ (l : List ℕ). flat_map (range_words c.args.spelling.now.version) front ++ l) (sym (append-nil (range_words c.args.spelling.now.version (rd run))))
    ∙ sym (flat_map-append (range_words c.args.spelling.now.version) front (rd run ∷ [])) ∙ ap (flat_map (range_words c.args.spelling.now.version)) (sym more)) in
    record {
      spelled =
          c.add_run-in-loop-run.ensures.spelled
          ∙ ap (λ (s : SpellingView). record s { words = s.words ++ range_words s.version (run_data g.I.Images c.loop-run.images run) }) c.loop-run.invariant.spelled
          ∙ ap (λ (r : RangeData). record c.args.spelling.now { words = (c.args.spelling.now.words ++ flat_map (range_words c.args.spelling.now.version) front) ++ range_words c.args.spelling.now.version r }) data_is
          ∙ ap (λ (l : List ℕ). record c.args.spelling.now { words = l }) joined;
      fit = subst (λ (l : List RangeData). AllByRecursion (λ r. AreBytes r.bytes) l) (sym more)
          (fit_more front (rd run) c.loop-run.invariant.fit (subst (λ (r : RangeData). AreBytes r.bytes) data_is c.add_run-in-loop-run.ensures.fit));
      same = same_chained g.I.Images (laws g) c.args.images.now c.loop-run.images c.add_run-in-loop-run.new.images c.loop-run.invariant.same c.add_run-in-loop-run.ensures.same;
    }
