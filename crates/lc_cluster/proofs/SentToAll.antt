-- What is sent to all peers, one after another.
use Rattle.std.proofs.Common.{◌≡◌, ℕ, zero, suc, ◌+◌, ◌-◌, ◌<◌, All, List, [], ◌∷◌, ◌++◌, length, map, get_or, min, set, refl, ap, ◌∙◌, inl, inr, arith, length-append}
use Rattle.std.specs.Global.{Vec, Global}
use Rattle.std.specs.declared.collections.VecDeque.{VecDeque}
use Rattle.std.proofs.lemmas.Option.{slice_get_within}
use Rattle.lc_record.proofs.ListLemmas.{All-slice_get as at_each, slice_get_some as got_some}
use Rattle.lc_cluster.specs.Copies.{texts, CanBeSent, AreNext, AreAllNext, SendsAll}
use Rattle.lc_segments.specs.Each.{Each}
use Rattle.lc_node.specs.Each.{EachThree}
use Rattle.lc_cluster.specs.Spread.{ArePrefixes, IsPrefix, LacksNoneOf, SendsFew, SendsMost, count_of, sent_to}
use Rattle.lc_cluster.specs.declared.peer_end.PeerEnd.{PeerEnd}
use Rattle.lc_cluster.proofs.Copied.{IsSentFirst, prefix_after}
use Rattle.lc_cluster.proofs.NextSent.{length_numbered, next_begins}

-- an element is changed, and what is seen of it stays
pub same_map : {A B : Type 0} (f : A → B) (xs : List A) (n : ℕ) (x z : A) → x ≡ get_or xs n x → n < length xs → f z ≡ f x → map f (set xs n z) ≡ map f xs
same_map f [] n x z is within same = absurd (omega arith)
same_map f (y ∷ xs) zero x z is within same = ap (λ b. b ∷ map f xs) (same ∙ ap f is)
same_map f (y ∷ xs) (suc n) x z is within same = ap (λ l. f y ∷ l) (same_map f xs n x z is (omega arith) same)

pub prefixes_after : {P : Type 0} (published : List (List ℕ)) (xs now : List (PeerEnd P)) (ys : List (VecDeque (Vec ℕ) Global)) → EachThree IsSentFirst xs ys now → Each (λ peer lacks. AreNext published peer lacks.items) xs ys
    → ArePrefixes published xs → ArePrefixes published now
prefixes_after published xs now ys sent next before k peer at =
    let within = slice_get_within now k peer at in
    let x = got_some xs k (let a = sent.long_too in omega arith) in
    let y = got_some ys k (let a = sent.long_too in let b = sent.long in omega arith) in
    let s = sent.each k x.0 y.0 peer x.1 y.1 at in
    prefix_after published y.0.items s.0 x.0 peer (next.each k x.0 y.0 x.1 y.1) s.1 (before k x.0 x.1)

pub few_sent : {P : Type 0} (xs now : List (PeerEnd P)) (ys : List (VecDeque (Vec ℕ) Global)) → EachThree IsSentFirst xs ys now → Each (λ peer lacks. CanBeSent peer lacks.items) xs ys → Each SendsFew xs now
few_sent xs now ys sent fit = record {
  long = sent.long_too;
  each = λ k x z x_at z_at.
      let within = slice_get_within xs k x x_at in
      let y = got_some ys k (let a = sent.long in omega arith) in
      let s = (sent.each k x y.0 z x_at y.1 z_at).1 in
      let most = (fit.each k x y.0 x_at y.1).0 in
      let whole : length y.0.items ≡ length (s.0 ++ s.1) = ap (λ l. length l) s.2 in let both = length-append s.0 s.1 in let long = length_texts s.0 in
      (texts s.0, omega arith, s.4.records);
}
  where
    length_texts : (copies : List (Vec ℕ)) → length (texts copies) ≡ length copies
    length_texts [] = refl
    length_texts (x ∷ xs) = ap suc (length_texts xs)

pub all_sent : {P : Type 0} (xs now : List (PeerEnd P)) (ys : List (VecDeque (Vec ℕ) Global)) → EachThree IsSentFirst xs ys now → EachThree (λ old lacks new. SendsAll old lacks.items new) xs ys now
all_sent xs now ys sent = record { long = sent.long; long_too = sent.long_too; each = λ k x y z x_at y_at z_at. (sent.each k x y z x_at y_at z_at).2 }

-- where all the copies of what a peer lacks were sent, it was sent as many as a call sends
most_of : {P : Type 0} (gone : ℕ) (published : List (List ℕ)) (old new : PeerEnd P) (copies : List (Vec ℕ)) → SendsAll old copies new → AreAllNext gone published old copies → LacksNoneOf gone old → IsPrefix published old → SendsMost published old new
most_of gone published old new copies (inr cut) most kept p = inr cut
most_of gone published old new copies (inl all) most kept p =
    let start = next_begins published (sent_to old) old.count old.place old.counted old.placed p in
    let many : length copies ≡ min 64 (length published - old.count) = most kept old.count start in
    let whole : length published ≡ length p.0 + length p.1 = ap (λ l. length l) p.2 ∙ length-append p.0 p.1 in
    let begun : count_of old ≡ length p.0 = ap (λ l. length l) p.3 ∙ length_numbered 1 p.0 in
    let counted = old.counted in inl (omega arith)

pub most_sent : {P : Type 0} (gone : ℕ) (published : List (List ℕ)) (xs now : List (PeerEnd P)) (ys : List (VecDeque (Vec ℕ) Global)) → EachThree (λ old lacks new. SendsAll old lacks.items new) xs ys now
    → Each (λ peer lacks. AreAllNext gone published peer lacks.items) xs ys → ArePrefixes published xs → All (LacksNoneOf gone) xs → Each (SendsMost published) xs now
most_sent gone published xs now ys sent most before kept = record {
  long = sent.long_too;
  each = λ k x z x_at z_at.
      let within = slice_get_within xs k x x_at in
      let y = got_some ys k (let a = sent.long in omega arith) in
      most_of gone published x z y.0.items (sent.each k x y.0 z x_at y.1 z_at) (most.each k x y.0 x_at y.1) (at_each (LacksNoneOf gone) xs k x kept x_at) (before k x x_at);
}
