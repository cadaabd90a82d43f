-- What nodes send one another.
use Rattle.std.specs.Prelude.{ℕ, ◌+◌, List, [], ◌∷◌, length}
use Rattle.std.specs.Global.{Vec}
use Rattle.lc_node.specs.declared.message.Message.{Message}
use Rattle.lc_node.specs.declared.message.Message.TheVariants.{Record, Token}

module _ {P : Type 0} where
  -- the records among these messages, each with its number
  abbrev pub records_in : List (Message P) → List (ℕ × List ℕ)
  records_in [] = []
  records_in (Record number words ∷ messages) = (number, words.items) ∷ records_in messages
  records_in (Token token ∷ messages) = records_in messages

  -- and the tokens
  abbrev pub tokens_among : List (Message P) → List P
  tokens_among [] = []
  tokens_among (Record number words ∷ messages) = tokens_among messages
  tokens_among (Token token ∷ messages) = token ∷ tokens_among messages

  -- a record as a message
  abbrev pub record_message : ℕ → Vec ℕ → Message P
  record_message number words = Record number words

-- how many words these records have in all
abbrev pub words_of : List (ℕ × List ℕ) → ℕ
words_of [] = 0
words_of (first ∷ records) = length first.1 + words_of records

-- records with their numbers, from this one on
abbrev pub numbered : ℕ → List (List ℕ) → List (ℕ × List ℕ)
numbered number [] = []
numbered number (words ∷ records) = (number, words) ∷ numbered (number + 1) records
