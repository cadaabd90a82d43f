-- Copies of published records: those after a place, one more, and what is sent of them.
use Rattle.std.proofs.Common.{◌≡◌, ℕ, ◌+◌, ◌-◌, ◌^◌, ◌<◌, List, [], ◌∷◌, ◌++◌, Some, None, length, refl, sym, ap, subst, ◌∙◌, suc, inl, arith, length-append, append_assoc}
use Rattle.std.specs.Prelude.{slice_get}
use Rattle.std.specs.Global.{Vec, Global}
use Rattle.std.specs.declared.collections.VecDeque.{VecDeque}
use Rattle.std.specs.List.{concat}
use Rattle.std.proofs.lemmas.List.{append-nil, map-append}
use Rattle.std.proofs.lemmas.List.Elements.{All-tail, All-append, All-cons, All-nil}
use Rattle.std.proofs.lemmas.List.Folds.{concat-append}
use Rattle.lc_cluster.specs.Messages.{records_in, tokens_among, record_message, words_of, numbered}
use Rattle.lc_log_side.specs.Published.{IsStart}
use Rattle.lc_cluster.specs.Spread.{sent_to, line_of, count_of, IsPrefix}
use Rattle.lc_cluster.specs.Copies.{texts, FitBehind, AreBehind, AreNext, SendsAll, SendsThese, SendsFirst}
use Rattle.lc_node.specs.declared.message.Message.{Message}
use Rattle.lc_node.specs.declared.message.Message.TheVariants.{Record, Token}
use Rattle.lc_cluster.specs.declared.peer_end.PeerEnd.{PeerEnd}
use Rattle.lc_log_side.proofs.Published.{got_behind}
use Rattle.lc_cluster.proofs.NextSent.{records_grow, words_grow, length_numbered, words_numbered, numbered_append, one_further}

-- One more record of those after a place

texts_append : (xs ys : List (Vec ℕ)) → texts (xs ++ ys) ≡ texts xs ++ texts ys
texts_append xs ys = map-append (λ (words : Vec ℕ). words.items) xs ys

one_text : (words : Vec ℕ) → length (concat (texts (words ∷ []))) ≡ length words.items
one_text words = ap (λ (l : List ℕ). length l) (append-nil words.items)

words_both : (xs ys : List (Vec ℕ)) → length (concat (texts (xs ++ ys))) ≡ length (concat (texts xs)) + length (concat (texts ys))
words_both xs ys = ap (λ (l : List (List ℕ)). length (concat l)) (texts_append xs ys) ∙ (ap (λ (l : List ℕ). length l) (concat-append (texts xs) (texts ys)) ∙ length-append (concat (texts xs)) (concat (texts ys)))

pub words_more : (copies : List (Vec ℕ)) (words : Vec ℕ) → length (concat (texts (copies ++ words ∷ []))) ≡ length (concat (texts copies)) + length words.items
words_more copies words = words_both copies (words ∷ []) ∙ ap (λ (n : ℕ). length (concat (texts copies)) + n) (one_text words)

pub fit_none : (place : ℕ) → place < 2 ^ 64 → FitBehind place []
fit_none place fits = record { filled = All-nil (λ (words : Vec ℕ). 0 < length words.items); within = omega arith }

pub fit_more : (place : ℕ) (copies : List (Vec ℕ)) (words : Vec ℕ) → FitBehind place copies → 0 < length words.items → place + length (concat (texts copies)) + length words.items < 2 ^ 64 → FitBehind place (copies ++ words ∷ [])
fit_more place copies words fit some fits = record {
  filled = All-append (λ (w : Vec ℕ). 0 < length w.items) copies (words ∷ []) fit.filled (All-cons (λ (w : Vec ℕ). 0 < length w.items) words [] some (All-nil (λ (w : Vec ℕ). 0 < length w.items)));
  within = (let more = words_more copies words in omega arith);
}

pub behind_none : (published : List (List ℕ)) (place : ℕ) → AreBehind published place []
behind_none published place front behind is at = (behind, refl)

pub behind_more : (published : List (List ℕ)) (place at : ℕ) (copies : List (Vec ℕ)) (words : Vec ℕ) → AreBehind published place copies → at ≡ place + length (concat (texts copies))
    → ((count : ℕ) → IsStart published count at → Some words.items ≡ slice_get published count) → AreBehind published place (copies ++ words ∷ [])
behind_more published place at copies words before here found front behind is start =
    let b = before front behind is start in
    let split : published ≡ (front ++ texts copies) ++ b.0 = is ∙ (ap (λ (l : List (List ℕ)). front ++ l) b.1 ∙ sym (append_assoc front (texts copies) b.0)) in
    let long : length (concat (front ++ texts copies)) ≡ at = ap (λ (l : List ℕ). length l) (concat-append front (texts copies)) ∙ (length-append (concat front) (concat (texts copies)) ∙ (let s = start in omega arith)) in
    let got = found (length (front ++ texts copies)) (front ++ texts copies, b.0, split, refl, long) in
    let first : slice_get b.0 0 ≡ Some words.items = sym (got_behind (front ++ texts copies) b.0 (length (front ++ texts copies)) refl) ∙ (ap (λ (l : List (List ℕ)). slice_get l (length (front ++ texts copies))) (sym split) ∙ sym got) in
    let more = one_further behind (texts copies) b.0 words.items b.1 first in
    (more.0, more.1 ∙ ap (λ (l : List (List ℕ)). l ++ more.0) (sym (texts_append copies (words ∷ []))))

-- how many records stand after a place
pub count_is : (published : List (List ℕ)) (count more at : ℕ) → IsStart published (count + more) at → slice_get published (count + more) ≡ None → more ≡ length published - count
count_is published count more at start none = all start.0 start.1 start.2 start.3
  where
    all : (front behind : List (List ℕ)) → published ≡ front ++ behind → length front ≡ count + more → more ≡ length published - count
    all front [] is long = let whole : length published ≡ length front = ap (λ (l : List (List ℕ)). length l) (is ∙ append-nil front) in omega arith
    all front (r ∷ behind) is long = absurd (let got : slice_get published (count + more) ≡ Some r = ap (λ (l : List (List ℕ)). slice_get l (count + more)) is ∙ got_behind front (r ∷ behind) (count + more) (sym long) in
        let no : Some r ≡ None = sym got ∙ none in cc)

-- What is sent of them

module _ {P : Type 0} where
  tokens_more : (sent : List (Message P)) (number : ℕ) (words : Vec ℕ) → tokens_among (sent ++ record_message number words ∷ []) ≡ tokens_among sent
  tokens_more [] number words = refl
  tokens_more (Record n w ∷ sent) number words = tokens_more sent number words
  tokens_more (Token token ∷ sent) number words = ap (λ l. token ∷ l) (tokens_more sent number words)

  -- so many of them were sent, and the others can still be
  pub record IsSending (all left : List (Vec ℕ)) (count : ℕ) (old now : PeerEnd P) : Type 0 where
    pub front : List (Vec ℕ)
    pub split : all ≡ front ++ left
    pub many : length front ≡ count
    pub sends : SendsThese front old now
    pub fit : FitBehind now.place left

  count_now : (front : List (Vec ℕ)) (old now : PeerEnd P) → SendsThese front old now → count_of now ≡ count_of old + length front
  count_now front old now sends = let both = length-append (records_in (sent_to old)) (numbered (count_of old + 1) (texts front)) in
      let long = length_numbered (count_of old + 1) (texts front) in let many = length_texts front in
      ap (λ l. length l) sends.records ∙ (both ∙ ap (λ (n : ℕ). count_of old + n) (long ∙ many))
    where
      length_texts : (xs : List (Vec ℕ)) → length (texts xs) ≡ length xs
      length_texts [] = refl
      length_texts (x ∷ xs) = ap suc (length_texts xs)

  -- the record in front is sent
  pub goes_on : (all left items : List (Vec ℕ)) (count : ℕ) (old now new : PeerEnd P) (words : Vec ℕ) → items ≡ words ∷ left → IsSending all items count old now
      → sent_to new ≡ sent_to now ++ record_message (count_of now + 1) words ∷ [] → line_of new ≡ line_of now → IsSending all left (count + 1) old new
  goes_on all left items count old now new words is s sent line =
      let fit : FitBehind now.place (words ∷ left) = subst (FitBehind now.place) is s.fit in
      let here = count_now s.front old now s.sends in
      let name : count_of now + 1 ≡ count_of old + 1 + length s.front = omega arith in
      let long : length (texts s.front) ≡ length s.front = length-map s.front in
      let next : count_of now + 1 ≡ count_of old + 1 + length (texts s.front) = omega arith in
      let place : new.place ≡ now.place + length words.items = new.placed ∙ (words_grow (sent_to now) (sent_to new) (count_of now + 1) words sent ∙ ap (λ (n : ℕ). n + length words.items) (sym now.placed)) in
      let both = words_both (words ∷ []) left in let one = one_text words in record {
        front = s.front ++ words ∷ [];
        split = s.split ∙ (ap (λ l. s.front ++ l) is ∙ sym (append_assoc s.front (words ∷ []) left));
        many = length-append s.front (words ∷ []) ∙ ap (λ (n : ℕ). n + 1) s.many;
        sends = record {
          records = records_grow (sent_to now) (sent_to new) (count_of now + 1) words sent ∙ ((λ k. s.sends.records k ++ (next k, words.items) ∷ [])
              ∙ (append_assoc (records_in (sent_to old)) (numbered (count_of old + 1) (texts s.front)) ((count_of old + 1 + length (texts s.front), words.items) ∷ [])
              ∙ ap (λ l. records_in (sent_to old) ++ l) (sym (numbered_append (count_of old + 1) (texts s.front) (words.items ∷ [])) ∙ ap (numbered (count_of old + 1)) (sym (texts_append s.front (words ∷ []))))));
          tokens = ap tokens_among sent ∙ (tokens_more (sent_to now) (count_of now + 1) words ∙ s.sends.tokens);
          line = line ∙ s.sends.line;
        };
        fit = record {
          filled = All-tail (λ (w : Vec ℕ). 0 < length w.items) words left fit.filled;
          within = (let whole = fit.within in omega arith);
        };
      }
    where
      length-map : (xs : List (Vec ℕ)) → length (texts xs) ≡ length xs
      length-map [] = refl
      length-map (x ∷ xs) = ap suc (length-map xs)

  -- none is left: all were sent
  pub sends_all : (all left : List (Vec ℕ)) (count : ℕ) (old now : PeerEnd P) → left ≡ [] → IsSending all left count old now → SendsAll old all now
  sends_all all left count old now none s =
      let whole : all ≡ s.front = s.split ∙ (ap (λ (l : List (Vec ℕ)). s.front ++ l) none ∙ append-nil s.front) in
      inl (count_now s.front old now s.sends ∙ ap (λ (l : List (Vec ℕ)). count_of old + length l) (sym whole))

  pub count_after : (copies : List (Vec ℕ)) (count : ℕ) (old new : PeerEnd P) → SendsFirst copies count old new → count_of new ≡ count_of old + count
  count_after copies count old new s = count_now s.0 old new s.4 ∙ ap (λ (n : ℕ). count_of old + n) s.3

  pub prefix_after : (published : List (List ℕ)) (copies : List (Vec ℕ)) (count : ℕ) (old new : PeerEnd P) → AreNext published old copies → SendsFirst copies count old new → IsPrefix published old → IsPrefix published new
  prefix_after published copies count old new lacked s p =
      let at : length (concat p.0) ≡ old.place = sym (old.placed ∙ (ap words_of p.3 ∙ words_numbered 1 p.0)) in
      let b = lacked p.0 p.1 p.2 at in
      let parts : texts copies ≡ texts s.0 ++ texts s.1 = ap texts s.2 ∙ texts_append s.0 s.1 in
      let begun : count_of old ≡ length p.0 = ap (λ l. length l) p.3 ∙ length_numbered 1 p.0 in
      let name : count_of old + 1 ≡ 1 + length p.0 = omega arith in (
        p.0 ++ texts s.0,
        texts s.1 ++ b.0,
        p.2 ∙ (ap (λ (l : List (List ℕ)). p.0 ++ l) (b.1 ∙ (ap (λ (l : List (List ℕ)). l ++ b.0) parts ∙ append_assoc (texts s.0) (texts s.1) b.0)) ∙ sym (append_assoc p.0 (texts s.0) (texts s.1 ++ b.0))),
        s.4.records ∙ ((λ k. p.3 k ++ numbered (name k) (texts s.0)) ∙ sym (numbered_append 1 p.0 (texts s.0))),
      )

  -- a peer is sent the first of the copies for it, all if it is not cut off
  abbrev pub IsSentFirst : PeerEnd P → VecDeque (Vec ℕ) Global → PeerEnd P → Type 0
  IsSentFirst old lacks new = (count : ℕ) × SendsFirst lacks.items count old new × SendsAll old lacks.items new
