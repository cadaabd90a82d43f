use Rattle.std.proofs.Common.{◌≡◌, ◌≢◌, ◌<◌, ℕ, [], ◌∷◌, ◌++◌, length, subst, sym}
use Rattle.std.specs.Prelude.{MatchOption, slice_get}
use Rattle.lc_cluster.specs.Receiving.{kept_at, taken_at}
use Rattle.lc_cluster.proofs.recv_ends.RecvEnds.take.Goals as goal

pub take_at-requires : goal.take_at-requires
take_at-requires g c = record { peer = subst (λ (p : ℕ). p < length c.args.self.now.ends.items) (sym c.place_of.ensures.place) c.requires.peer.1 }

pub returns-clause-taken : goal.returns-clause-taken
returns-clause-taken g c = subst (λ (p : ℕ). MatchOption c.take_at.result (taken_at c.take_at.new.self.ends.items p ≡ taken_at c.args.self.now.ends.items p) (λ message. taken_at c.take_at.new.self.ends.items p ≡ taken_at c.args.self.now.ends.items p ++ message ∷ [])) c.place_of.ensures.place c.take_at.ensures.taken

pub returns-clause-kept : goal.returns-clause-kept
returns-clause-kept g c = subst (λ (p : ℕ). kept_at c.take_at.new.self.ends.items p ≡ kept_at c.args.self.now.ends.items p) c.place_of.ensures.place c.take_at.ensures.kept

pub returns-clause-others : goal.returns-clause-others
returns-clause-others g c = subst (λ (p : ℕ). (other : ℕ) → other ≢ p → slice_get c.take_at.new.self.ends.items other ≡ slice_get c.args.self.now.ends.items other) c.place_of.ensures.place c.take_at.ensures.others
