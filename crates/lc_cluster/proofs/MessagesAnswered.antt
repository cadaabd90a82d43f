-- Of a cluster: a message is answered, and is kept where it comes back.
use Rattle.std.proofs.Common.{◌≡◌, ℕ, List, [], ◌∷◌, ◌++◌, Some, None, refl, sym, subst, ◌∙◌, inl, inr}
use Rattle.std.specs.Prelude.{IsSome, MatchOption, Option}
use Rattle.lc_cluster.specs.Reached.{IsNextAt}
use Rattle.lc_cluster.specs.Receiving.{kept_at, taken_at}
use Rattle.lc_node.specs.declared.message.Message.{Message}
use Rattle.lc_cluster.specs.declared.peer_inbox.PeerInbox.{PeerInbox}

module _ {P : Type 0} (old new : List (PeerInbox P)) (peer : ℕ) (result : Option (Message P))
    (again : IsSome (kept_at old peer) → (result ≡ kept_at old peer) × (taken_at new peer ≡ taken_at old peer))
    (taken : kept_at old peer ≡ None → MatchOption result (taken_at new peer ≡ taken_at old peer) (λ m. taken_at new peer ≡ taken_at old peer ++ m ∷ [])) where
  pub next_at : (m : Message P) → result ≡ Some m → IsNextAt old peer m new
  next_at m is = by_kept (kept_at old peer) refl
    where
      by_kept : (kept : Option (Message P)) → kept_at old peer ≡ kept → IsNextAt old peer m new
      by_kept None none = inr (none, subst (λ r. MatchOption r (taken_at new peer ≡ taken_at old peer) (λ x. taken_at new peer ≡ taken_at old peer ++ x ∷ [])) is (taken none))
      by_kept (Some k) some = let both = again (subst IsSome (sym some) refl) in inl (sym both.0 ∙ is, both.1)

-- the message goes nowhere but to the end
pub next_still : {P : Type 0} (old mid new : List (PeerInbox P)) (peer : ℕ) (m : Message P) → taken_at new peer ≡ taken_at mid peer → IsNextAt old peer m mid → IsNextAt old peer m new
next_still old mid new peer m same (inl kept) = inl (kept.0, same ∙ kept.1)
next_still old mid new peer m same (inr next) = inr (next.0, same ∙ next.1)
