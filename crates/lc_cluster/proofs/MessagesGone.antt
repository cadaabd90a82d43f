-- Of a cluster: the messages of a peer are gone on with one after another.
use Rattle.std.proofs.Common.{◌≡◌, ℕ, List, [], ◌∷◌, ◌++◌, Some, None, refl, sym, ap, subst, ◌∙◌, inl, inr}
use Rattle.std.specs.Prelude.{Err, IfOk, IsSome, MatchOption, Ok, Option, Result}
use Rattle.std.proofs.lemmas.Option.{same_Some as some_same}
use Rattle.lc_cluster.specs.Pumping.{GoesOn, IsGoneOn}
use Rattle.lc_node.specs.Pumping.{IsOfMessage}
use Rattle.lc_cluster.specs.Receiving.{kept_at, taken_at}
use Rattle.lc_node.specs.declared.message.Message.{Message}
use Rattle.lc_node.specs.declared.message.Message.TheVariants.{Record, Token}
use Rattle.lc_cluster.specs.declared.peer_inbox.PeerInbox.{PeerInbox}
use Rattle.lc_node.specs.declared.pumped.Pumped.{Pumped}
use Rattle.lc_node.specs.declared.pumped.Pumped.TheVariants.{Applied, HeldBack, Ignored, Arrived, Waiting, Empty}

module _ {P : Type 0} (old new : List (PeerInbox P)) (peer : ℕ) (result : Option (Message P))
    (again : IsSome (kept_at old peer) → (result ≡ kept_at old peer) × (taken_at new peer ≡ taken_at old peer))
    (taken : kept_at old peer ≡ None → MatchOption result (taken_at new peer ≡ taken_at old peer) (λ m. taken_at new peer ≡ taken_at old peer ++ m ∷ []))
    (gone : List (Message P)) where
  some_is : (m : Message P) → kept_at old peer ≡ Some m → IsSome (kept_at old peer)
  some_is m is = rw is refl

  -- the next is the one after those
  pub next_is : (m : Message P) → IsGoneOn old peer gone → result ≡ Some m → taken_at new peer ≡ gone ++ m ∷ []
  next_is m (inl all) is =
      let took : taken_at new peer ≡ taken_at old peer ++ m ∷ [] = subst (λ r. MatchOption r (taken_at new peer ≡ taken_at old peer) (λ x. taken_at new peer ≡ taken_at old peer ++ x ∷ [])) is (taken all.0) in
      took ∙ ap (λ (l : List (Message P)). l ++ m ∷ []) all.1
  next_is m (inr one) is =
      let both = again (some_is one.0 one.1) in
      let same : m ≡ one.0 = some_same m one.0 (sym is ∙ (both.0 ∙ one.1)) in
      both.1 ∙ (one.2 ∙ ap (λ (x : Message P). gone ++ x ∷ []) (sym same))

-- a message that did not come back was gone on with
pub goes_on : {P : Type 0} (pumped : Pumped) (message : Message P) (gone : List (Message P)) (ends : List (PeerInbox P)) (peer : ℕ) → IsOfMessage message pumped
    → kept_at ends peer ≡ None → taken_at ends peer ≡ gone ++ message ∷ [] → GoesOn pumped gone ends peer
goes_on (Applied number arrived) message gone ends peer is none took = (message, inl (none, took))
goes_on HeldBack message gone ends peer is none took = (message, inl (none, took))
goes_on Ignored message gone ends peer is none took = (message, inl (none, took))
goes_on Arrived message gone ends peer is none took = (message, inl (none, took))
goes_on Waiting message gone ends peer is none took = inr (message, inl (none, took))
goes_on Empty (Record number words) gone ends peer is none took = absurd is
goes_on Empty (Token token) gone ends peer is none took = absurd is

-- a message that came back is kept, and nothing more was gone on with
pub kept_back : {P : Type 0} (ends : List (PeerInbox P)) (peer : ℕ) (gone : List (Message P)) (message given : Message P) → given ≡ message → kept_at ends peer ≡ Some given
    → taken_at ends peer ≡ gone ++ message ∷ [] → IsGoneOn ends peer gone
kept_back ends peer gone message given same kept took = inr (given, kept, took ∙ ap (λ x. gone ++ x ∷ []) (sym same))

pub waits_on : {P E : Type 0} (r : Result Pumped E) (ends : List (PeerInbox P)) (peer : ℕ) (gone : List (Message P)) → IfOk r (λ p. p ≡ Waiting) → IsGoneOn ends peer gone → IfOk r (λ p. GoesOn p gone ends peer)
waits_on (Ok p) ends peer gone is has = subst (λ x. GoesOn x gone ends peer) (sym is) (inl has)
waits_on (Err e) ends peer gone is has = is

pub goes_on_if : {P E : Type 0} (r : Result Pumped E) (message : Message P) (gone : List (Message P)) (ends : List (PeerInbox P)) (peer : ℕ) → IfOk r (IsOfMessage message)
    → kept_at ends peer ≡ None → taken_at ends peer ≡ gone ++ message ∷ [] → IfOk r (λ p. GoesOn p gone ends peer)
goes_on_if (Ok p) message gone ends peer is none took = goes_on p message gone ends peer is none took
goes_on_if (Err e) message gone ends peer is none took = is
