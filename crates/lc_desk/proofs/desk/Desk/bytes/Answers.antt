use Rattle.std.proofs.Common.{◌≡◌, ◌+◌, ◌≤◌, List, ℕ, length, take, drop, true≢false, sym, ap, subst, ◌∙◌}
use Rattle.std.proofs.lemmas.Option.{slice_get_read}
use Rattle.lc_model.proofs.Rows.{read-no_turn}
use Rattle.lc_tx.specs.Images.{bytes_of}
use Rattle.lc_tx.specs.declared.image.Image.{Image as Picture}
use Rattle.lc_desk.specs.Here.{the_images}
use Rattle.lc_desk.proofs.Dropping.{no_turn, open_fits, own_open_runs, still}
use Rattle.lc_desk.proofs.ShownBytes.{not_held, shown, too_far}
use Rattle.lc_desk.proofs.desk.Desk.bytes.Goals as goal

pub returns-in_default-clause-refused : goal.returns-in_default-clause-refused
returns-in_default-clause-refused c = λ node m s known sound h.
    let w = c.args.self.now in
    let seat = c.index.result.now in
    let at = slice_get_read w.seats.items w.seats.len c.args.thread seat w.seats.ok.0 c.requires.seat c.index.ensures in
    (s, read-no_turn m s node c.args.thread c.args.segment c.args.offset c.args.len (no_turn w.here node c.args.thread _ s seat (h.threads c.args.thread seat at) (sym c.in_default.ensures)), still node s, h)

pub returns-then-not-holds-clause-refused : goal.returns-then-not-holds-clause-refused
returns-then-not-holds-clause-refused c = λ node m s known sound h.
    let w = c.args.self.now in
    let seat = c.index.result.now in
    let tx = c.in-Some.tx.now in
    let at = slice_get_read w.seats.items w.seats.len c.args.thread seat w.seats.ok.0 c.requires.seat c.index.ensures in
    let one = open_fits w.here node c.args.thread w.seats.items seat tx m s h at (sym c.in-Some.ensures) in
    let runs = (own_open_runs w.here w.here w.seats.items c.args.thread seat tx at (sym c.in-Some.ensures) w.runs).runs in
    (s, not_held m node c.args.thread w.here w.seats.items s h tx one runs c.args.segment c.args.offset c.args.len (λ held. true≢false (sym held ∙ sym c.holds.ensures ∙ c.if-not-holds.true)), still node s, h)

pub window-requires : goal.window-requires
window-requires c = record { within = c.lies_within.ensures.0 c.if-not-lies_within.false }

pub returns-then-not-lies_within-clause-refused : goal.returns-then-not-lies_within-clause-refused
returns-then-not-lies_within-clause-refused c = λ node m s known sound h.
    let w = c.args.self.now in
    let seat = c.index.result.now in
    let tx = c.in-Some.tx.now in
    let at = slice_get_read w.seats.items w.seats.len c.args.thread seat w.seats.ok.0 c.requires.seat c.index.ensures in
    let one = open_fits w.here node c.args.thread w.seats.items seat tx m s h at (sym c.in-Some.ensures) in
    let runs = (own_open_runs w.here w.here w.seats.items c.args.thread seat tx at (sym c.in-Some.ensures) w.runs).runs in
    let same : c.bytes-bytes.result.now ≡ bytes_of the_images w.here c.args.segment = c.bytes-bytes.ensures ∙ ap (λ (p : Picture). p.bytes.items) c.shown.ensures in (
      s,
      too_far m node c.args.thread w.here w.seats.items s h tx one runs c.args.segment c.args.offset c.args.len (sym c.holds.ensures ∙ c.if-not-holds.false)
          (λ fits. true≢false (sym (c.lies_within.ensures.1 (subst (λ (l : List ℕ). c.args.offset + c.args.len ≤ length l) (sym same) fits)) ∙ c.if-not-lies_within.true)),
      still node s,
      h,
    )

pub returns-clause-bytes : goal.returns-clause-bytes
returns-clause-bytes c = λ node m s known sound h.
    let w = c.args.self.now in
    let seat = c.index.result.now in
    let tx = c.in-Some.tx.now in
    let at = slice_get_read w.seats.items w.seats.len c.args.thread seat w.seats.ok.0 c.requires.seat c.index.ensures in
    let one = open_fits w.here node c.args.thread w.seats.items seat tx m s h at (sym c.in-Some.ensures) in
    let runs = (own_open_runs w.here w.here w.seats.items c.args.thread seat tx at (sym c.in-Some.ensures) w.runs).runs in
    let same : c.bytes-bytes.result.now ≡ bytes_of the_images w.here c.args.segment = c.bytes-bytes.ensures ∙ ap (λ (p : Picture). p.bytes.items) c.shown.ensures in (
      s,
      shown m node c.args.thread w.here w.seats.items s h tx one runs c.args.segment c.args.offset c.args.len (sym c.holds.ensures ∙ c.if-not-holds.false)
          (subst (λ (l : List ℕ). c.args.offset + c.args.len ≤ length l) same (c.lies_within.ensures.0 c.if-not-lies_within.false)) c.window.result.now
          (c.window.ensures.window ∙ ap (λ (l : List ℕ). take c.args.len (drop c.args.offset l)) same),
      still node s,
      h,
    )
