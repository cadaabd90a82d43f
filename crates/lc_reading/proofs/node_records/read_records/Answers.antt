use Rattle.std.proofs.Common.{◌<◌, ℕ, [], ◌∷◌, ◌++◌, List, map, drop, length-drop, append-nil, append_assoc, ap, sym, ◌∙◌, subst, arith}
use Rattle.std.proofs.lemmas.List.{map-append, take_rest}
use Rattle.lc_record.specs.Codec.{BeginsNoRecord, BeginsWith}
use Rattle.lc_record.specs.declared.record.Record.{Record}
use Rattle.lc_log.proofs.WalkLemmas.{found_more, none_found}
use Rattle.lc_journal.proofs.KeptWords.{found_whole}
use Rattle.lc_rest.proofs.SpelledWords.{all_text}
use Rattle.lc_reading.proofs.SpelledPieces.{spelled_some}
use Rattle.lc_reading.proofs.node_records.read_records.Goals as goal

pub loop-record-init : goal.loop-record-init
loop-record-init c = ([], none_found c.args.words.now, sym (append-nil c.args.records.now.items))

pub loop-record-preserved : goal.loop-record-preserved
loop-record-preserved c =
    let words : List ℕ = c.args.words.now in
    let h = c.loop-record.invariant in
    let place = c.loop-record.place in
    let r : Record = c.in-Some.record in
    let begins : BeginsWith (drop place words) r c.in-Some.len = subst (λ (l : List ℕ). BeginsWith l r c.in-Some.len) (take_rest words place) (rw c.in-Some.is at c.in_ok-record.ensures.found) in
    let old = c.args.records.now.items in (
      h.0 ++ (place, r) ∷ [],
      found_more words h.0 place r c.in-Some.len h.1 begins,
      c.in_ok-push.ensures.items ∙ ap (λ (l : List Record). l ++ r ∷ []) h.2 ∙ append_assoc old (map (λ (x : ℕ × Record). x.1) h.0) (r ∷ [])
          ∙ ap (λ (l : List Record). old ++ l) (sym (map-append (λ (x : ℕ × Record). x.1) h.0 ((place, r) ∷ []))),
    )

pub loop-record-smaller : goal.loop-record-smaller
loop-record-smaller c =
    let words : List ℕ = c.args.words.now in
    let place = c.loop-record.place in
    let r : Record = c.in-Some.record in
    let begins : BeginsWith (drop place words) r c.in-Some.len = subst (λ (l : List ℕ). BeginsWith l r c.in-Some.len) (take_rest words place) (rw c.in-Some.is at c.in_ok-record.ensures.found) in
    let some : 0 < c.in-Some.len = spelled_some (drop place words) r c.in-Some.len begins in
    omega (arith, some, begins.within, length-drop place words)

pub returns : goal.returns
returns c = λ rs spelled.
    (let words : List ℕ = c.args.words.now in
    let h = c.loop-record.invariant in
    let none : BeginsNoRecord (drop c.loop-record.place words) = subst BeginsNoRecord (take_rest words c.loop-record.place) (rw c.in_default.is at c.in_ok-record.ensures.none) in
    h.2 ∙ ap (λ (l : List Record). c.args.records.now.items ++ l) (found_whole words h.0 c.loop-record.place rs h.1 none (all_text words rs spelled)))
