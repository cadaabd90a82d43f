-- A cluster that passes the code's tests is tested.
use Rattle.std.proofs.Common.{◌≡◌, ℕ, zero, suc, ◌+◌, ◌*◌, ◌<◌, ◌≤◌, List, [], ◌∷◌, map, filter, length, replicate, take, All, refl, sym, ◌∙◌, ap, subst, arith, inl, inr}
use Rattle.std.specs.Prelude.{Option, Some, None, nat_lt, slice_index_or}
use Rattle.std.specs.Option.{unwrap_or}
use Rattle.std.proofs.lemmas.Bool.{cases_lt}
use Rattle.std.proofs.lemmas.List.{take_all, get_or_past}
use Rattle.lc_log.specs.LogText.{IsWhole}
use Rattle.lc_page.specs.Page.{page_in}
use Rattle.lc_record.specs.Content.{segment_of}
use Rattle.lc_record.specs.Marks.{counting}
use Rattle.lc_record.specs.Newest.{number_or_zero}
use Rattle.lc_record.specs.Part.{number_in}
use Rattle.lc_record.specs.declared.record.Lock.{Lock}
use Rattle.lc_record.specs.declared.record.Record.{Record}
use Rattle.lc_token.specs.Clean.{HasByteOn}
use Rattle.lc_model.specs.Merging.{is_from}
use Rattle.lc_rest.specs.Adopted.{Follow, IsCleaned, IsTaken}
use Rattle.lc_rest.specs.Found.{last_number}
use Rattle.lc_rest.specs.Merge.{no_record, number_at, record_at, times}
use Rattle.lc_rest.specs.Holder.{IsPlaced}
use Rattle.lc_rest.specs.Passed.{Passes, Read, found_of, log_of, merged}
use Rattle.lc_rest.specs.Replay.{IsPlayed}
use Rattle.lc_rest.specs.Tested.{IsTested}
use Rattle.lc_rest.specs.TokenTest.{IsKeptPage, IsKeptRecord}
use Rattle.lc_rest.specs.Turns.{IsAtHome, Turn, turns_of}
use Rattle.lc_rest.specs.declared.holder.Holder.{Holder}
use Rattle.lc_rest.proofs.Following.{node-part, turns-follow}
use Rattle.lc_rest.proofs.OneLock.{self-member}
use Rattle.lc_rest.proofs.OneRecord.{part-counted}
use Rattle.lc_rest.proofs.Played.{number-counted, replayed-own}
use Rattle.lc_rest.proofs.Tokens.{Least, Parts, all-turns, behind, known-lock, lock-number, number-lock, page-kept, stable-above, turned}

rows-within : (f : ℕ → List ℕ) (k from n : ℕ) → ((i : ℕ) → from ≤ i → i < from + n → length (f i) ≡ k) → map length (map f (counting from n)) ≡ replicate n k
rows-within f k from zero each = refl
rows-within f k from (suc n) each =
    ap (λ l. l ∷ map length (map f (counting (from + 1) n))) (each from (omega arith) (omega arith)) ∙ ap (λ ls. k ∷ ls) (rows-within f k (from + 1) n (λ i low high. each i (omega (arith, low)) (omega (arith, high))))

module _ (h : Read) (is : Passes h) where
  known_node : (node k : ℕ) → k < length (log_of h node) → node < length h.logs
  known_node node k less = elim (cases_lt node (length h.logs)) [
    | inl within ↦ within
    | inr past ↦ absurd (let none : length (log_of h node) ≡ 0 = ap length (get_or_past h.logs node [] (omega (arith, past))) in omega (arith, less, none))
  ]

  fits : (node : ℕ) → times node h.turns ≤ length (log_of h node)
  fits node = elim (cases_lt node (length h.logs)) [
    | inl within ↦ (let all = is.all node within in omega (arith, all))
    | inr past ↦ (let none = is.none node (omega (arith, past)) in omega (arith, none))
  ]

  reaches : (node : ℕ) → length (log_of h node) ≤ times node h.turns
  reaches node = elim (cases_lt node (length h.logs)) [
    | inl within ↦ (let all = is.all node within in omega (arith, all))
    | inr past ↦ (let none : length (log_of h node) ≡ 0 = ap length (get_or_past h.logs node [] (omega (arith, past))) in omega (arith, none))
  ]

  each-turn : (P : Turn → Type 0) → ((node k : ℕ) → k < length (log_of h node) → P (record { whole = record_at h.logs node k; stable = nat_lt k (slice_index_or h.counts node 0) })) → All P (turns_of (λ node. slice_index_or h.counts node 0) [] (merged h))
  each-turn P each = turned h.logs (λ node. slice_index_or h.counts node 0) P is.own each [] [] h.turns (λ m. refl) fits

  each-record : (P : Record → Type 0) → ((node k : ℕ) → k < length (log_of h node) → P (record_at h.logs node k)) → All P (merged h)
  each-record P each = all-turns (λ node. slice_index_or h.counts node 0) P [] (merged h) (each-turn (λ (u : Turn). P u.whole) each)

  taken : All (IsTaken h.geometry) (merged h)
  taken = each-record (IsTaken h.geometry) is.taken

  of-node : (node : ℕ) → filter (is_from node) (merged h) ≡ log_of h node
  of-node node = node-part h.logs node [] h.turns is.own fits ∙ take_all (times node h.turns) (log_of h node) (reaches node)

  follows : Follow h.geometry (number_at h.numbers) (merged h)
  follows =
      turns-follow h.geometry h.logs h.numbers [] h.turns taken
      (λ k d less i e within. (let r : Record = slice_index_or (merged h) k d in
      let lock : Lock = slice_index_or r.locks i e in
      let both = known-lock h.geometry r lock.segment (taken k d less) (self-member r.locks i e within) in
      let count = is.numbers in
      let last = both.1 in (both.0, omega (arith, last, count))))
      is.turns

  last-is : (segment : ℕ) → 1 ≤ segment → segment ≤ h.geometry.segments → last_number (found_of h) segment ≡ (h.token segment).seq
  last-is segment first last = sym (number-counted h.geometry segment (merged h) (number_at h.numbers) taken) ∙ is.ends segment first last

  abbrev least : Least h.geometry.segments
  least segment first last = (is.tokens segment first last).least

  abbrev Kept : Turn → Type 0
  Kept u = (segment : ℕ) (first : 1 ≤ segment) (last : segment ≤ h.geometry.segments)
      → IsKeptRecord segment (is.tokens segment first last).least (h.token segment).clean h.geometry.pages (h.holder segment) (h.area segment) (h.token segment).pages u.stable u.whole

  kept : All Kept (turns_of (λ node. slice_index_or h.counts node 0) [] (merged h))
  kept = each-turn Kept (λ node k less segment first last. (is.tokens segment first last).records node k (known_node node k less) less)

  parts : All (Parts h.geometry.segments least) (turns_of (λ node. slice_index_or h.counts node 0) [] (merged h))
  parts = λ k d less segment n first last has. (let side = (kept k d less segment first last n has).0 in (side.below, side.above))

  at-home : All (IsAtHome h.place) (turns_of (λ node. slice_index_or h.counts node 0) [] (merged h))
  at-home = λ k d less waits segment has.
      (let u : Turn = slice_index_or (turns_of (λ node. slice_index_or h.counts node 0) [] (merged h)) k d in
      let own : IsTaken h.geometry u.whole = each-turn (λ (v : Turn). IsTaken h.geometry v.whole) is.taken k d less in
      let known = known-lock h.geometry u.whole segment own has in
      let mine = lock-number segment u.whole.locks has in
      let side = (kept k d less segment known.0 known.1 mine.0 mine.1).0 in
      subst (λ (holder : Holder). IsPlaced holder (h.place segment)) (side.home waits) (is.placed segment known.0 known.1))

  kept-page : (node k segment page : ℕ) → k < length (log_of h node) → page < h.geometry.pages → HasByteOn h.geometry segment page (record_at h.logs node k)
      → IsKeptPage (number_or_zero segment (record_at h.logs node k).locks) (h.token segment).clean (h.area segment) (h.token segment).pages page
  kept-page node k segment page less in_pages on = go (number_in segment (record_at h.logs node k).locks) refl
    where
      go : (n : Option ℕ) → number_in segment (record_at h.logs node k).locks ≡ n → IsKeptPage (unwrap_or n 0) (h.token segment).clean (h.area segment) (h.token segment).pages page
      go None same = (omega arith, λ clean. omega arith)
      go (Some n) same =
          let r : Record = record_at h.logs node k in
          let known = known-lock h.geometry r segment (is.taken node k less) (number-lock segment r.locks n same) in
          page-kept h.geometry segment n (h.token segment).clean page (h.area segment) (h.token segment) r
          ((is.tokens segment known.0 known.1).records node k (known_node node k less) less n same).1 in_pages on

  base-is : (segment : ℕ) → 1 ≤ segment → segment ≤ h.geometry.segments → segment_of segment (found_of h).base ≡ h.bytes segment
  base-is zero first last = absurd (omega (arith, first))
  base-is (suc i) first last = part-counted h.bytes 1 h.geometry.segments i (omega (arith, last)) ∙ (let same : 1 + i ≡ suc i = omega arith in ap h.bytes same)

  pub tested : IsTested (found_of h)
  tested = record {
    taken = taken;
    whole = each-record IsWhole is.whole;
    nodes = each-record (λ (r : Record). r.node < h.geometry.nodes) (λ node k less. (let its = is.own node k no_record less in let within = known_node node k less in let count = is.count in omega (arith, its, within, count)));
    places = is.places;
    few = λ node. subst (λ (l : List Record). slice_index_or h.counts node 0 ≤ length l) (sym (of-node node)) (is.few node);
    dropped_stable = is.dropped_stable;
    dropped_known = λ node within. subst (λ (l : List Record). All (λ (r : Record). (segment : ℕ) → 1 ≤ segment → segment ≤ h.geometry.segments → number_or_zero segment r.locks ≤ h.known node segment) (take (h.dropped node) l)) (sym (of-node node)) (is.dropped_known node within);
    known_clean = is.known_clean;
    follow = follows;
    home = at-home;
    behind = behind h.geometry (λ node. slice_index_or h.counts node 0) least [] (merged h) (number_at h.numbers) taken follows parts;
    shape = rows-within h.bytes (h.geometry.pages * 256) 1 h.geometry.segments (λ i low high. (is.bytes i low (omega (arith, high))).len);
    pages_stable = λ segment page first last in_pages.
        (let token = is.tokens segment first last in
        let most = token.most in
        let same = last-is segment first last in
        stable-above h.geometry (λ node. slice_index_or h.counts node 0) least segment (page_in (h.area segment) page).sequence first last ((token.read page in_pages).below) [] (merged h) (number_at h.numbers) taken follows parts
        (omega (arith, most, same)));
    pages_within = λ segment page first last in_pages.
        (let token = is.tokens segment first last in
        let most = token.most in
        let below = (token.read page in_pages).below in
        let same = last-is segment first last in
        omega (arith, most, below, same));
    reached = λ segment first last.
        (let at = (is.tokens segment first last).reached in
        let from = is.first segment first last in
        let to = at.2 in (at.0, at.1, omega (arith, from, to)));
    replayed = λ segment page first last in_pages.
        replayed-own h.geometry (merged h) (number_at h.numbers) (found_of h).base segment page ((found_of h).pages segment page) taken
        (subst (λ (bytes : List ℕ). IsPlayed segment (number_at h.numbers segment) (merged h) bytes page (page_in (h.area segment) page)) (sym (base-is segment first last)) (is.played segment page first last in_pages));
    cleaned = each-record (IsCleaned h.geometry (found_of h).pages (found_of h).clean) (λ node k less segment page clean in_pages on. (kept-page node k segment page less in_pages on).1 clean);
    touched = each-record (λ (r : Record). (segment page : ℕ) → page < h.geometry.pages → HasByteOn h.geometry segment page r → number_or_zero segment r.locks ≤ (found_of h).touched segment page)
        (λ node k less segment page in_pages on. (kept-page node k segment page less in_pages on).0);
    clean_within = λ segment first last. (let within = (is.tokens segment first last).clean_within in let same = last-is segment first last in omega (arith, within, same));
    small = λ segment first last. (let small = (is.tokens segment first last).small in let same = last-is segment first last in omega (arith, small, same));
    applied_within = λ node segment first last. (let within = is.applied_within node segment first last in let same = last-is segment first last in omega (arith, within, same));
    applied_here = λ node segment first last at. is.applied_here node segment first last at ∙ sym (last-is segment first last);
  }
