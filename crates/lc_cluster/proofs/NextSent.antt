-- One more record that is sent is the next that is published.
use Rattle.std.proofs.Common.{◌≡◌, ℕ, suc, ◌+◌, List, [], ◌∷◌, ◌++◌, Some, length, refl, sym, ap, ◌∙◌, arith, length-append, append_assoc}
use Rattle.std.specs.Prelude.{slice_get}
use Rattle.std.specs.Global.{Vec}
use Rattle.std.specs.List.{concat}
use Rattle.lc_cluster.specs.Messages.{records_in, record_message, words_of, numbered}
use Rattle.lc_log_side.specs.Published.{IsStart}
use Rattle.lc_node.specs.declared.message.Message.{Message}
use Rattle.lc_node.specs.declared.message.Message.TheVariants.{Record, Token}

module _ {P : Type 0} where
  pub records_append : (xs ys : List (Message P)) → records_in (xs ++ ys) ≡ records_in xs ++ records_in ys
  records_append [] ys = refl
  records_append (Record number words ∷ xs) ys = ap (λ l. (number, words.items) ∷ l) (records_append xs ys)
  records_append (Token token ∷ xs) ys = records_append xs ys

pub words_append : (xs ys : List (ℕ × List ℕ)) → words_of (xs ++ ys) ≡ words_of xs + words_of ys
words_append [] ys = omega arith
words_append (x ∷ xs) ys = let rest = words_append xs ys in omega arith

pub length_numbered : (number : ℕ) (records : List (List ℕ)) → length (numbered number records) ≡ length records
length_numbered number [] = refl
length_numbered number (r ∷ records) = ap suc (length_numbered (number + 1) records)

pub words_numbered : (number : ℕ) (records : List (List ℕ)) → words_of (numbered number records) ≡ length (concat records)
words_numbered number [] = refl
words_numbered number (r ∷ records) = let rest = words_numbered (number + 1) records in let both = length-append r (concat records) in omega arith

pub numbered_append : (number : ℕ) (xs ys : List (List ℕ)) → numbered number (xs ++ ys) ≡ numbered number xs ++ numbered (number + length xs) ys
numbered_append number [] ys = let same : number ≡ number + 0 = omega arith in ap (λ n. numbered n ys) same
numbered_append number (x ∷ xs) ys = let moved : number + 1 + length xs ≡ number + suc (length xs) = omega arith in
    ap (λ l. (number, x) ∷ l) (numbered_append (number + 1) xs ys ∙ ap (λ n. numbered (number + 1) xs ++ numbered n ys) moved)

module _ {P : Type 0} (old new : List (Message P)) (number : ℕ) (words : Vec ℕ) (sent : new ≡ old ++ record_message number words ∷ []) where
  pub records_grow : records_in new ≡ records_in old ++ (number, words.items) ∷ []
  records_grow = ap records_in sent ∙ records_append old (record_message number words ∷ [])

  pub count_grows : length (records_in new) ≡ length (records_in old) + 1
  count_grows = ap (λ l. length l) records_grow ∙ length-append (records_in old) ((number, words.items) ∷ [])

  pub words_grow : words_of (records_in new) ≡ words_of (records_in old) + length words.items
  words_grow = let one : length words.items + 0 ≡ length words.items = omega arith in
      ap words_of records_grow ∙ words_append (records_in old) ((number, words.items) ∷ []) ∙ ap (λ n. words_of (records_in old) + n) one

-- the records among these messages are the first so many of those that are published
abbrev pub HasPrefix : {P : Type 0} → List (List ℕ) → List (Message P) → Type 0
HasPrefix published sent = (front : List (List ℕ)) × (behind : List (List ℕ)) × (published ≡ front ++ behind) × (records_in sent ≡ numbered 1 front)

-- then the next begins after their words
pub next_begins : {P : Type 0} (published : List (List ℕ)) (sent : List (Message P)) (count place : ℕ) → count ≡ length (records_in sent) → place ≡ words_of (records_in sent) → HasPrefix published sent → IsStart published count place
next_begins published sent count place counted placed p = (
  p.0,
  p.1,
  p.2,
  sym (counted ∙ (ap (λ l. length l) p.3 ∙ length_numbered 1 p.0)),
  sym (placed ∙ (ap words_of p.3 ∙ words_numbered 1 p.0)),
)

pub one_further : (published front behind : List (List ℕ)) (words : List ℕ) → published ≡ front ++ behind → slice_get behind 0 ≡ Some words → (rest : List (List ℕ)) × (published ≡ (front ++ words ∷ []) ++ rest)
one_further published front [] words is got = absurd cc
one_further published front (r ∷ behind) words is got = let same : r ≡ words = cc in (behind, is ∙ (ap (λ x. front ++ x ∷ behind) same ∙ sym (append_assoc front (words ∷ []) behind)))
