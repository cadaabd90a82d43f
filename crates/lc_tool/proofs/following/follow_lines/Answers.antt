use Rattle.std.proofs.Common.{◌≡◌, ℕ, zero, suc, ◌+◌, ◌-◌, ◌<◌, ◌≤◌, ◌||◌, ◌==◌, ◌++◌, true, false, List, [], ◌∷◌, Option, Some, None, length, sym, ap, subst, ◌∙◌, arith, eqb-true}
use Rattle.std.proofs.lemmas.List.{nil_from_length as nil_of}
use Rattle.std.specs.Io.BufRead.{drop_through, take_through}
use Rattle.lc_text.specs.Lines.{script_lines}
use Rattle.lc_text.specs.Text.{no_memory_text, too_long_text}
use Rattle.lc_tool.specs.Coming.{lines_left}
use Rattle.lc_tool.specs.Following.{lines_followed, lines_within}
use Rattle.lc_tool.specs.Outcome.{fronted}
use Rattle.lc_tool.specs.Script.{Follows, front_of}
use Rattle.lc_tool.specs.Tells.{TellsFollowed}
use Rattle.lc_tool.proofs.Comings.{line_comes, line_passes, none_comes, none_through}
use Rattle.lc_tool.proofs.Follows.{breaks_off, ends, goes_further, passes_limit, some_at, some_by, tells_end, tells_further, tells_limit, tells_off, tells_want, wants}
use Rattle.lc_tool.proofs.ScriptLemmas.{at_first, further, over, to_end}
use Rattle.lc_tool.proofs.following.follow_lines.Goals as goal

pub loop-raw-init : goal.loop-raw-init
loop-raw-init g c = record {
  count = omega arith;
  read = λ script is. (
    script,
    is,
    (λ h first fits. (first, fits, at_first (TellsFollowed (front_of c.args.numbered) h first 1 false (lines_followed script)) (g.W.Write.contents c.args.writer.now))),
    (λ m first start fits. (first, start, fits, at_first (Follows (front_of c.args.numbered) m first start 1 false (lines_followed script)) (g.W.Write.contents c.args.writer.now))),
  );
}

pub returns-in-Err-NoMemory-clause-runs : goal.returns-in-Err-NoMemory-clause-runs
returns-in-Err-NoMemory-clause-runs g c =
    let status = c.in_ok-no_memory-in-Err-NoMemory.field-0 in
    let shown = c.in_ok-no_memory-in-Err-NoMemory.ensures.shown in
    some_by (lines_left g.R.Read.remaining c.args.lines.now) _ (λ script is m first start fits.
    let read = c.loop-raw.invariant.read script is in
    let before = read.3 m first start fits in
    to_end (Follows (front_of c.args.numbered) m first start 1 false (lines_followed script)) (g.W.Write.contents c.args.writer.now)
    (Follows (front_of c.args.numbered) m before.0 before.1 c.loop-raw.number c.loop-raw.refused (lines_within (18446744073709551615 - c.loop-raw.number) read.0)) (g.W.Write.contents c.loop-raw.writer) (g.W.Write.contents c.no_memory.new.writer)
    before.3 no_memory_text shown.1 status (wants (front_of c.args.numbered) c.loop-raw.number c.loop-raw.refused m before.0 before.1 (lines_within (18446744073709551615 - c.loop-raw.number) read.0) status shown.0))

pub returns-in-Err-NoMemory-clause-tells : goal.returns-in-Err-NoMemory-clause-tells
returns-in-Err-NoMemory-clause-tells g c =
    let status = c.in_ok-no_memory-in-Err-NoMemory.field-0 in
    let shown = c.in_ok-no_memory-in-Err-NoMemory.ensures.shown in
    some_by (lines_left g.R.Read.remaining c.args.lines.now) _ (λ script is h first fits.
    let read = c.loop-raw.invariant.read script is in
    let before = read.2 h first fits in
    to_end (TellsFollowed (front_of c.args.numbered) h first 1 false (lines_followed script)) (g.W.Write.contents c.args.writer.now)
    (TellsFollowed (front_of c.args.numbered) h before.0 c.loop-raw.number c.loop-raw.refused (lines_within (18446744073709551615 - c.loop-raw.number) read.0)) (g.W.Write.contents c.loop-raw.writer) (g.W.Write.contents c.no_memory.new.writer)
    before.2 no_memory_text shown.1 status (tells_want (front_of c.args.numbered) c.loop-raw.number c.loop-raw.refused h before.0 (lines_within (18446744073709551615 - c.loop-raw.number) read.0) status shown.0))

some_of : (n : ℕ) → false ≡ (n == 0) → 1 ≤ n
some_of zero e = absurd cc
some_of (suc n) e = omega arith

zero_of : (n : ℕ) → true ≡ (n == 0) → n ≡ 0
zero_of n e = eqb-true n 0 (sym e)

none_left : (bytes rest : List ℕ) (count : ℕ) → bytes ≡ take_through 10 rest → count ≡ length bytes → true ≡ (count == 0) → rest ≡ []
none_left bytes rest count through long none = none_through rest (sym through ∙ nil_of bytes (sym long ∙ eqb-true count 0 (sym none)))

pub returns-then-is_empty-clause-runs : goal.returns-then-is_empty-clause-runs
returns-then-is_empty-clause-runs g c =
    some_by (lines_left g.R.Read.remaining c.args.lines.now) _ (λ script is m first start fits.
    let read = c.loop-raw.invariant.read script is in
    let through = (some_at (lines_left g.R.Read.remaining c.loop-raw.lines) read.0 (λ xs. (c.in-Ok.raw.items ≡ take_through 10 xs) × (lines_left g.R.Read.remaining c.next.new.self ≡ Some (drop_through 10 xs))) read.1 (c.in-Ok.ensures.line (omega (arith, c.in-Ok.raw.ok.0, zero_of c.in-Ok.raw.len c.if-is_empty.ensures)))).0 in
    let none = none_left c.in-Ok.raw.items read.0 c.in-Ok.raw.len through c.in-Ok.raw.ok.0 c.if-is_empty.ensures in
    let before = read.3 m first start fits in
    over (Follows (front_of c.args.numbered) m first start 1 false (lines_followed script)) (g.W.Write.contents c.args.writer.now)
    (Follows (front_of c.args.numbered) m before.0 before.1 c.loop-raw.number c.loop-raw.refused (lines_within (18446744073709551615 - c.loop-raw.number) read.0)) (g.W.Write.contents c.loop-raw.writer) c.status_of.result before.3
    (subst (λ (rest : List ℕ). Follows (front_of c.args.numbered) m before.0 before.1 c.loop-raw.number c.loop-raw.refused (lines_within (18446744073709551615 - c.loop-raw.number) rest) [] c.status_of.result) (sym none)
    (ends (front_of c.args.numbered) c.loop-raw.number c.loop-raw.refused m before.0 before.1 c.status_of.result c.status_of.ensures)))

pub returns-then-is_empty-clause-tells : goal.returns-then-is_empty-clause-tells
returns-then-is_empty-clause-tells g c =
    some_by (lines_left g.R.Read.remaining c.args.lines.now) _ (λ script is h first fits.
    let read = c.loop-raw.invariant.read script is in
    let before = read.2 h first fits in
    let through = (some_at (lines_left g.R.Read.remaining c.loop-raw.lines) read.0 (λ xs. (c.in-Ok.raw.items ≡ take_through 10 xs) × (lines_left g.R.Read.remaining c.next.new.self ≡ Some (drop_through 10 xs))) read.1 (c.in-Ok.ensures.line (omega (arith, c.in-Ok.raw.ok.0, zero_of c.in-Ok.raw.len c.if-is_empty.ensures)))).0 in
    let none = none_left c.in-Ok.raw.items read.0 c.in-Ok.raw.len through c.in-Ok.raw.ok.0 c.if-is_empty.ensures in
    over (TellsFollowed (front_of c.args.numbered) h first 1 false (lines_followed script)) (g.W.Write.contents c.args.writer.now)
    (TellsFollowed (front_of c.args.numbered) h before.0 c.loop-raw.number c.loop-raw.refused (lines_within (18446744073709551615 - c.loop-raw.number) read.0)) (g.W.Write.contents c.loop-raw.writer) c.status_of.result before.2
    (subst (λ (rest : List ℕ). TellsFollowed (front_of c.args.numbered) h before.0 c.loop-raw.number c.loop-raw.refused (lines_within (18446744073709551615 - c.loop-raw.number) rest) [] c.status_of.result) (sym none)
    (tells_end (front_of c.args.numbered) c.loop-raw.number c.loop-raw.refused h before.0 c.status_of.result c.status_of.ensures)))

pub returns-then-len-gt-LONGEST-clause-runs : goal.returns-then-len-gt-LONGEST-clause-runs
returns-then-len-gt-LONGEST-clause-runs g c =
    let status = c.in_ok-too_long.field-0 in
    let shown = c.in_ok-too_long.ensures.shown in
    some_by (lines_left g.R.Read.remaining c.args.lines.now) _ (λ script is m first start fits.
    let read = c.loop-raw.invariant.read script is in
    let cut = line_passes (18446744073709551615 - c.loop-raw.number) 1048576 [] read.0
    (some_at (lines_left g.R.Read.remaining c.loop-raw.lines) read.0 (λ xs. 1048576 < length (take_through 10 xs)) read.1 (c.in-Ok.ensures.long (omega (arith, c.in-Ok.raw.ok.0, c.if-len-gt-LONGEST.true, c.len.ensures)))) in
    let before = read.3 m first start fits in
    to_end (Follows (front_of c.args.numbered) m first start 1 false (lines_followed script)) (g.W.Write.contents c.args.writer.now)
    (Follows (front_of c.args.numbered) m before.0 before.1 c.loop-raw.number c.loop-raw.refused (lines_within (18446744073709551615 - c.loop-raw.number) read.0)) (g.W.Write.contents c.loop-raw.writer) (g.W.Write.contents c.too_long.new.writer)
    before.3 too_long_text shown.1 status
    (subst (λ (lines : List (Option (List ℕ))). Follows (front_of c.args.numbered) m before.0 before.1 c.loop-raw.number c.loop-raw.refused lines too_long_text status) (sym cut)
    (passes_limit (front_of c.args.numbered) c.loop-raw.number c.loop-raw.refused m before.0 before.1 status shown.0)))

pub returns-then-len-gt-LONGEST-clause-tells : goal.returns-then-len-gt-LONGEST-clause-tells
returns-then-len-gt-LONGEST-clause-tells g c =
    let status = c.in_ok-too_long.field-0 in
    let shown = c.in_ok-too_long.ensures.shown in
    some_by (lines_left g.R.Read.remaining c.args.lines.now) _ (λ script is h first fits.
    let read = c.loop-raw.invariant.read script is in
    let before = read.2 h first fits in
    let cut = line_passes (18446744073709551615 - c.loop-raw.number) 1048576 [] read.0
    (some_at (lines_left g.R.Read.remaining c.loop-raw.lines) read.0 (λ xs. 1048576 < length (take_through 10 xs)) read.1 (c.in-Ok.ensures.long (omega (arith, c.in-Ok.raw.ok.0, c.if-len-gt-LONGEST.true, c.len.ensures)))) in
    to_end (TellsFollowed (front_of c.args.numbered) h first 1 false (lines_followed script)) (g.W.Write.contents c.args.writer.now)
    (TellsFollowed (front_of c.args.numbered) h before.0 c.loop-raw.number c.loop-raw.refused (lines_within (18446744073709551615 - c.loop-raw.number) read.0)) (g.W.Write.contents c.loop-raw.writer) (g.W.Write.contents c.too_long.new.writer)
    before.2 too_long_text shown.1 status
    (subst (λ (lines : List (Option (List ℕ))). TellsFollowed (front_of c.args.numbered) h before.0 c.loop-raw.number c.loop-raw.refused lines too_long_text status) (sym cut)
    (tells_limit (front_of c.args.numbered) c.loop-raw.number c.loop-raw.refused h before.0 status shown.0)))

-- after the last number no line comes
none_numbered : (bytes rest : List ℕ) (number count : ℕ) → number ≡ 18446744073709551615 → bytes ≡ take_through 10 rest → count ≡ length bytes → 1 ≤ count → lines_within (18446744073709551615 - number) rest ≡ None ∷ []
none_numbered bytes rest number count last through long some =
    let none : 18446744073709551615 - number ≡ 0 = omega (arith, last) in
    ap (λ (n : ℕ). lines_within n rest) none
    ∙ none_comes 1048576 [] rest (λ empty. (let no : length bytes ≡ 0 = ap length (through ∙ ap (take_through 10) empty) in absurd (omega (arith, no, long, some))))

pub returns-then-number-clause-runs : goal.returns-then-number-clause-runs
returns-then-number-clause-runs g c =
    let status = c.in_ok-too_long-2.field-0 in
    let shown = c.in_ok-too_long-2.ensures.shown in
    some_by (lines_left g.R.Read.remaining c.args.lines.now) _ (λ script is m first start fits.
    let read = c.loop-raw.invariant.read script is in
    let through = (some_at (lines_left g.R.Read.remaining c.loop-raw.lines) read.0 (λ xs. (c.in-Ok.raw.items ≡ take_through 10 xs) × (lines_left g.R.Read.remaining c.next.new.self ≡ Some (drop_through 10 xs))) read.1 (c.in-Ok.ensures.line (omega (arith, c.in-Ok.raw.ok.0, c.if-len-gt-LONGEST.false, c.len.ensures)))).0 in
    let cut = none_numbered c.in-Ok.raw.items read.0 c.loop-raw.number c.in-Ok.raw.len (omega (arith, c.if-number.true)) through c.in-Ok.raw.ok.0 (some_of c.in-Ok.raw.len c.if-is_empty.ensures) in
    let before = read.3 m first start fits in
    to_end (Follows (front_of c.args.numbered) m first start 1 false (lines_followed script)) (g.W.Write.contents c.args.writer.now)
    (Follows (front_of c.args.numbered) m before.0 before.1 c.loop-raw.number c.loop-raw.refused (lines_within (18446744073709551615 - c.loop-raw.number) read.0)) (g.W.Write.contents c.loop-raw.writer) (g.W.Write.contents c.too_long-then-number.new.writer)
    before.3 too_long_text shown.1 status
    (subst (λ (lines : List (Option (List ℕ))). Follows (front_of c.args.numbered) m before.0 before.1 c.loop-raw.number c.loop-raw.refused lines too_long_text status) (sym cut)
    (passes_limit (front_of c.args.numbered) c.loop-raw.number c.loop-raw.refused m before.0 before.1 status shown.0)))

pub returns-then-number-clause-tells : goal.returns-then-number-clause-tells
returns-then-number-clause-tells g c =
    let status = c.in_ok-too_long-2.field-0 in
    let shown = c.in_ok-too_long-2.ensures.shown in
    some_by (lines_left g.R.Read.remaining c.args.lines.now) _ (λ script is h first fits.
    let read = c.loop-raw.invariant.read script is in
    let before = read.2 h first fits in
    let through = (some_at (lines_left g.R.Read.remaining c.loop-raw.lines) read.0 (λ xs. (c.in-Ok.raw.items ≡ take_through 10 xs) × (lines_left g.R.Read.remaining c.next.new.self ≡ Some (drop_through 10 xs))) read.1 (c.in-Ok.ensures.line (omega (arith, c.in-Ok.raw.ok.0, c.if-len-gt-LONGEST.false, c.len.ensures)))).0 in
    let cut = none_numbered c.in-Ok.raw.items read.0 c.loop-raw.number c.in-Ok.raw.len (omega (arith, c.if-number.true)) through c.in-Ok.raw.ok.0 (some_of c.in-Ok.raw.len c.if-is_empty.ensures) in
    to_end (TellsFollowed (front_of c.args.numbered) h first 1 false (lines_followed script)) (g.W.Write.contents c.args.writer.now)
    (TellsFollowed (front_of c.args.numbered) h before.0 c.loop-raw.number c.loop-raw.refused (lines_within (18446744073709551615 - c.loop-raw.number) read.0)) (g.W.Write.contents c.loop-raw.writer) (g.W.Write.contents c.too_long-then-number.new.writer)
    before.2 too_long_text shown.1 status
    (subst (λ (lines : List (Option (List ℕ))). TellsFollowed (front_of c.args.numbered) h before.0 c.loop-raw.number c.loop-raw.refused lines too_long_text status) (sym cut)
    (tells_limit (front_of c.args.numbered) c.loop-raw.number c.loop-raw.refused h before.0 status shown.0)))

comes : (bytes rest line behind : List ℕ) (number count : ℕ) → (number ≡ 18446744073709551615 → ⊥) → number ≤ 18446744073709551615 → bytes ≡ take_through 10 rest → count ≡ length bytes → count ≤ 1048576
    → script_lines bytes ≡ line ∷ script_lines behind → lines_within (18446744073709551615 - number) rest ≡ Some line ∷ lines_within (18446744073709551615 - (number + 1)) (drop_through 10 rest)
comes bytes rest line behind number count not most through long few lines =
    let same : length (take_through 10 rest) ≡ count = ap length (sym through) ∙ sym long in
    let more : 18446744073709551615 - number ≡ suc (18446744073709551615 - (number + 1)) = omega (arith, not, most) in
    ap (λ (n : ℕ). lines_within n rest) more
    ∙ line_comes (18446744073709551615 - (number + 1)) 1048576 [] rest line (script_lines behind) (ap script_lines (sym through) ∙ lines) (omega (arith, same, few))

pub returns-in-Ends-clause-runs : goal.returns-in-Ends-clause-runs
returns-in-Ends-clause-runs g c =
    some_by (lines_left g.R.Read.remaining c.args.lines.now) _ (λ script is m first start fits.
    let read = c.loop-raw.invariant.read script is in
    let through = (some_at (lines_left g.R.Read.remaining c.loop-raw.lines) read.0 (λ xs. (c.in-Ok.raw.items ≡ take_through 10 xs) × (lines_left g.R.Read.remaining c.next.new.self ≡ Some (drop_through 10 xs))) read.1 (c.in-Ok.ensures.line (omega (arith, c.in-Ok.raw.ok.0, c.if-len-gt-LONGEST.false, c.len.ensures)))).0 in
    let line = c.first_line.result.0.now in
    let come = comes c.in-Ok.raw.items read.0 line c.first_line.result.1.now c.loop-raw.number c.in-Ok.raw.len c.if-number.false c.loop-raw.invariant.count.1 through c.in-Ok.raw.ok.0 (omega (arith, c.if-len-gt-LONGEST.false, c.len.ensures))
    (ap script_lines (sym c.deref.ensures.value) ∙ c.first_line.ensures.lines) in
    let before = read.3 m first start fits in
    let end = (rw c.in-Ends.is at c.in_ok-was.ensures.leaves).1 m before.0 before.1 before.2 in
    to_end (Follows (front_of c.args.numbered) m first start 1 false (lines_followed script)) (g.W.Write.contents c.args.writer.now)
    (Follows (front_of c.args.numbered) m before.0 before.1 c.loop-raw.number c.loop-raw.refused (lines_within (18446744073709551615 - c.loop-raw.number) read.0)) (g.W.Write.contents c.loop-raw.writer) (g.W.Write.contents c.run_line.new.writer)
    before.3 (front_of c.args.numbered c.loop-raw.number ++ end.0) end.2 c.in-Ends.status
    (subst (λ (lines : List (Option (List ℕ))). Follows (front_of c.args.numbered) m before.0 before.1 c.loop-raw.number c.loop-raw.refused lines (front_of c.args.numbered c.loop-raw.number ++ end.0) c.in-Ends.status) (sym come)
    (breaks_off (front_of c.args.numbered) c.loop-raw.number c.loop-raw.refused m before.0 before.1 line end.0 (lines_within (18446744073709551615 - (c.loop-raw.number + 1)) (drop_through 10 read.0)) c.in-Ends.status end.1)))

pub returns-in-Ends-clause-tells : goal.returns-in-Ends-clause-tells
returns-in-Ends-clause-tells g c =
    some_by (lines_left g.R.Read.remaining c.args.lines.now) _ (λ script is h first fits.
    let read = c.loop-raw.invariant.read script is in
    let before = read.2 h first fits in
    let through = (some_at (lines_left g.R.Read.remaining c.loop-raw.lines) read.0 (λ xs. (c.in-Ok.raw.items ≡ take_through 10 xs) × (lines_left g.R.Read.remaining c.next.new.self ≡ Some (drop_through 10 xs))) read.1 (c.in-Ok.ensures.line (omega (arith, c.in-Ok.raw.ok.0, c.if-len-gt-LONGEST.false, c.len.ensures)))).0 in
    let line = c.first_line.result.0.now in
    let come = comes c.in-Ok.raw.items read.0 line c.first_line.result.1.now c.loop-raw.number c.in-Ok.raw.len c.if-number.false c.loop-raw.invariant.count.1 through c.in-Ok.raw.ok.0 (omega (arith, c.if-len-gt-LONGEST.false, c.len.ensures))
    (ap script_lines (sym c.deref.ensures.value) ∙ c.first_line.ensures.lines) in
    let end = rw c.in-Ends.is at (c.in_ok-was.ensures.tells h before.0 before.1) in
    to_end (TellsFollowed (front_of c.args.numbered) h first 1 false (lines_followed script)) (g.W.Write.contents c.args.writer.now)
    (TellsFollowed (front_of c.args.numbered) h before.0 c.loop-raw.number c.loop-raw.refused (lines_within (18446744073709551615 - c.loop-raw.number) read.0)) (g.W.Write.contents c.loop-raw.writer) (g.W.Write.contents c.run_line.new.writer)
    before.2 end.2.0 end.2.2 c.in-Ends.status
    (subst (λ (lines : List (Option (List ℕ))). TellsFollowed (front_of c.args.numbered) h before.0 c.loop-raw.number c.loop-raw.refused lines end.2.0 c.in-Ends.status) (sym come)
    (tells_off (front_of c.args.numbered) c.loop-raw.number c.loop-raw.refused h before.0 line end.2.0 end.0 (lines_within (18446744073709551615 - (c.loop-raw.number + 1)) (drop_through 10 read.0)) c.in-Ends.status end.2.1)))

pub loop-raw-preserved : goal.loop-raw-preserved
loop-raw-preserved g c =
    let front = front_of c.args.numbered in
    let number = c.loop-raw.number in
    let refused = c.loop-raw.refused in
    let was = c.in-Goes.was in
    let line = c.first_line.result.0.now in
    let held = g.W.Write.contents c.args.writer.now in
    let mid = g.W.Write.contents c.loop-raw.writer in
    let holds = g.W.Write.contents c.run_line.new.writer in
    let few : c.in-Ok.raw.len ≤ 1048576 = omega (arith, c.if-len-gt-LONGEST.false, c.len.ensures) in
    let short : length c.in-Ok.raw.items ≤ 1048576 = omega (arith, c.in-Ok.raw.ok.0, few) in
    record {
      count = (omega (arith, c.loop-raw.invariant.count.0), omega (arith, c.loop-raw.invariant.count.1, c.if-number.false));
      read = λ script is.
          let read = c.loop-raw.invariant.read script is in
          let both = some_at (lines_left g.R.Read.remaining c.loop-raw.lines) read.0 (λ xs. (c.in-Ok.raw.items ≡ take_through 10 xs) × (lines_left g.R.Read.remaining c.next.new.self ≡ Some (drop_through 10 xs))) read.1 (c.in-Ok.ensures.line short) in
          let rest = drop_through 10 read.0 in
          let come : lines_within (18446744073709551615 - c.loop-raw.number) read.0 ≡ Some line ∷ lines_within (18446744073709551615 - (number + 1)) rest =
          comes c.in-Ok.raw.items read.0 line c.first_line.result.1.now c.loop-raw.number c.in-Ok.raw.len c.if-number.false c.loop-raw.invariant.count.1 both.0 c.in-Ok.raw.ok.0 few
          (ap script_lines (sym c.deref.ensures.value) ∙ c.first_line.ensures.lines) in
          let lines = lines_within (18446744073709551615 - (number + 1)) rest in (
            rest,
            both.1,
            (λ h first fits.
                let before = read.2 h first fits in
                let goes = rw c.in-Goes.is at (c.in_ok-was.ensures.tells h before.0 before.1) in (
                  goes.0,
                  goes.1,
                  further (TellsFollowed front h first 1 false (lines_followed script)) held (TellsFollowed front h before.0 number refused (lines_within (18446744073709551615 - c.loop-raw.number) read.0)) mid holds before.2
                      goes.2.0 goes.2.2 (TellsFollowed front h goes.0 (number + 1) (refused || was) lines)
                      (λ after status run. subst (λ (ls : List (Option (List ℕ))). TellsFollowed front h before.0 number refused ls (goes.2.0 ++ after) status) (sym come)
                      (tells_further front number refused h before.0 line goes.2.0 was goes.0 lines after status goes.2.1 run)),
                )),
            (λ m first start fits.
                let before = read.3 m first start fits in
                let goes = (rw c.in-Goes.is at c.in_ok-was.ensures.leaves) m before.0 before.1 before.2 in (
                  goes.0,
                  goes.1,
                  goes.3,
                  further (Follows front m first start 1 false (lines_followed script)) held (Follows front m before.0 before.1 number refused (lines_within (18446744073709551615 - c.loop-raw.number) read.0)) mid holds before.3
                      (fronted front number line ++ goes.2.0) goes.2.2 (Follows front m goes.0 goes.1 (number + 1) (refused || was) lines)
                      (λ after status run. subst (λ (ls : List (Option (List ℕ))). Follows front m before.0 before.1 number refused ls ((fronted front number line ++ goes.2.0) ++ after) status) (sym come)
                      (goes_further front number refused m before.0 before.1 line goes.2.0 was goes.0 goes.1 lines after status goes.2.1 run)),
                )),
          );
    }
