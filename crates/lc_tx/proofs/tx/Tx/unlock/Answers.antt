use Rattle.std.proofs.Common.{◌≡◌, ℕ, true, List, subst}
use Rattle.std.proofs.lemmas.Bool.{false_from_ne_true}
use Rattle.lc_record.specs.Transaction.{is_member}
use Rattle.lc_tx.specs.Locking.{AreLeft}
use Rattle.lc_tx.proofs.HoldsLemmas.{read_apart, reads_not_locked}
use Rattle.lc_tx.proofs.ImagesLemmas.{here_along}
use Rattle.lc_tx.proofs.LockedLemmas.{released_from}
use Rattle.lc_tx.proofs.tx.Tx.unlock.Goals as goal

pub unlock-requires : goal.unlock-requires
unlock-requires g c = λ s e. c.requires.here s (subst (λ (l : List ℕ). is_member s l ≡ true) c.as_slice.ensures e)

pub unlock-requires-2 : goal.unlock-requires-2
unlock-requires-2 g c = λ s e.
    here_along g.I.Images c.as_slice.result.now c.args.images.now c.unlock.new.images s c.unlock.ensures.same
    (c.requires.read_here s (subst (λ (l : List ℕ). is_member s l ≡ true) c.as_slice-2.ensures e))

pub returns : goal.returns
returns g c =
    let m = g.I.Images in
    let tx = c.args.self.now in
    let old = c.args.images.now in
    let mid = c.unlock.new.images in
    let on = c.requires in
    released_from m g.met.I.Images.beside_chained tx.thread tx.locked.items tx.reading.items old mid c.unlock-2.new.images
    on.here on.read_here (λ s read. read_apart m old tx s on read)
    (λ s lock. false_from_ne_true (is_member s tx.reading.items) (λ read. reads_not_locked m old tx s on read lock))
    on.holds
    (subst (λ (l : List ℕ). AreLeft m tx.thread l old mid) c.as_slice.ensures c.unlock.ensures)
    (subst (λ (l : List ℕ). AreLeft m tx.thread l mid c.unlock-2.new.images) c.as_slice-2.ensures c.unlock-2.ensures)
