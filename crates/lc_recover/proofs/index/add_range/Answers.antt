use Rattle.std.proofs.Common.{◌≡◌, ℕ, ◌<◌, Contains, length, refl, arith, ap, subst, inl, inr}
use Rattle.std.proofs.lemmas.Bool.{cases_lt}
use Rattle.lc_page.specs.PageVector.{entry_at}
use Rattle.lc_record.proofs.ListLemmas.{OnErr_from as on_err}
use Rattle.lc_recover.specs.Changes.{IsOnRange, on_page}
use Rattle.lc_recover.specs.declared.redo_range.RedoRange.{RedoRange}
use Rattle.lc_recover.proofs.Pushes.{adds-more}
use Rattle.lc_recover.proofs.index.add_range.Goals as goal
use Rattle.lc_recover.proofs.index.add_range.Goals.{then-page-len+then-stable-change+in_ok-add, else-page-len, else-page-len-via-then-page-len+else-stable-change, else-page-len-via-else-page-len}

pub loop-page-preserved : goal.loop-page-preserved
loop-page-preserved c = elim c.if-page-len.branch [
  | then-page-len+then-stable-change+in_ok-add w ↦
      let newer : (entry_at c.args.texts.now c.loop-page.page).stable < c.args.change.seq = omega (arith, w.stable.ensures, w.if-stable-change.true) in
      let within : c.loop-page.page < length c.args.texts.now = omega (arith, w.if-page-len.true, c.len.ensures) in
      rw w.changes-is (record {
        adds = adds-more (IsOnRange c.args.change c.args.span c.args.texts.now) (λ (x : RedoRange). x ≡ on_page c.args.change c.loop-page.page) c.args.changes.now.items c.loop-page.changes.items w.add.new.changes.items
            c.loop-page.invariant.adds w.in_ok-add.ensures.adds
            (λ x is. record { number = c.loop-page.page; is = is; within = within; touches = (omega (arith, c.first_page-page.ensures.1, c.loop-page.auto.page), omega (arith, c.behind_page-page-end.ensures.1, c.loop-page-test.true)); newer = newer });
        covers = λ q from upto inside less. elim (cases_lt q c.loop-page.page) [
          | inl early ↦ w.in_ok-add.ensures.adds.kept (on_page c.args.change q) (c.loop-page.invariant.covers q from early inside less)
          | inr late ↦
              let same : c.loop-page.page ≡ q = omega (arith, upto, late) in
              subst (λ (n : ℕ). Contains w.add.new.changes.items (on_page c.args.change n)) same w.in_ok-add.ensures.there
        ];
      })
  | else-page-len w ↦
      rw w.changes-is (record {
        adds = c.loop-page.invariant.adds;
        covers = λ q from upto inside less. elim (cases_lt q c.loop-page.page) [
          | inl early ↦ c.loop-page.invariant.covers q from early inside less
          | inr late ↦
              let same : q ≡ c.loop-page.page = omega (arith, upto, late) in
              absurd (elim w.else-page-len.branch [
                | else-page-len-via-then-page-len+else-stable-change v ↦ omega (arith, v.if-stable-change.false, v.stable.ensures, less, ap (λ (n : ℕ). (entry_at c.args.texts.now n).stable) same)
                | else-page-len-via-else-page-len v ↦ omega (arith, v.if-page-len.false, c.len.ensures, inside, same)
              ])
        ];
      })
]

pub returns-in_err-add-clause-memory : goal.returns-in_err-add-clause-memory
returns-in_err-add-clause-memory c =
    let newer : (entry_at c.args.texts.now c.loop-page.page).stable < c.args.change.seq = omega (arith, c.stable.ensures, c.if-stable-change.true) in
    let within : c.loop-page.page < length c.args.texts.now = omega (arith, c.if-page-len.true, c.len.ensures) in
    on_err c.from_residual.result ((x : RedoRange) × IsOnRange c.args.change c.args.span c.args.texts.now x) (
      on_page c.args.change c.loop-page.page,
      record {
        number = c.loop-page.page;
        is = refl;
        within = within;
        touches = (omega (arith, c.first_page-page.ensures.1, c.loop-page.auto.page), omega (arith, c.behind_page-page-end.ensures.1, c.loop-page-test.true));
        newer = newer;
      },
    )
