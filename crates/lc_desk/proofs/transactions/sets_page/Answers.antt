use Rattle.std.proofs.Common.{◌≡◌, ◌+◌, ◌*◌, ℕ, Bool, None, Some, refl, sym, ap, subst, ◌∙◌, arith, true≢false}
use Rattle.std.specs.Prelude.{◌↔◌, IsTrue}
use Rattle.std.proofs.lemmas.Option.{same_Some as same_some}
use Rattle.lc_range.specs.RangeSet.{Has, IsCanonical}
use Rattle.lc_tx.specs.declared.tx.Tx.{Tx}
use Rattle.lc_desk.specs.Counts.{names_page}
use Rattle.lc_desk.specs.Seat.{Seat, Free, Open, Reserved, holder_of, set_of}
use Rattle.lc_desk.specs.Uncommitted.{SetsPage}
use Rattle.lc_desk.proofs.Counted.{has_meets, meets_has}
use Rattle.lc_desk.proofs.transactions.sets_page.Goals as goal

held : (segment page : ℕ) (seat : Seat) (tx : Tx) (answer : Bool) → holder_of (Some seat) ≡ Some tx → IsCanonical tx.set → answer ≡ names_page segment page tx.set → IsTrue answer ↔ SetsPage segment page seat
held segment page seat tx answer holds canonical named = (
  λ is.
      (let at = meets_has segment (page * 256) (page * 256 + 256) tx.set canonical (omega arith) (sym named ∙ is) in
      record { tx = tx; holds = holds; position = at.0; first = at.1; last = at.2; has = at.3 }),
  λ sets.
      (let same : tx ≡ sets.tx = same_some tx sets.tx (sym holds ∙ sets.holds) in
      named ∙ has_meets segment (page * 256) (page * 256 + 256) sets.position tx.set sets.first sets.last
      (subst (λ (t : Tx). Has t.set segment sets.position) (sym same) sets.has)),
)

named_by : (segment page : ℕ) (seat : Seat) (answer : Bool) → IsCanonical (set_of seat) → answer ≡ names_page segment page (set_of seat) → IsTrue answer ↔ SetsPage segment page seat
named_by segment page Free answer canonical named = (λ is. absurd (true≢false (sym is ∙ named)), λ sets. absurd (let no : None ≡ Some sets.tx = sets.holds in cc))
named_by segment page (Open tx) answer canonical named = held segment page (Open tx) tx answer refl canonical named
named_by segment page (Reserved tx number) answer canonical named = held segment page (Reserved tx number) tx answer refl canonical named

pub returns : goal.returns
returns c = named_by c.args.segment c.args.page c.args.seat.now c.names_page.result c.ranges-2.ensures.canonical
    (c.names_page.ensures ∙ ap (names_page c.args.segment c.args.page) c.ranges-2.ensures.ranges)
