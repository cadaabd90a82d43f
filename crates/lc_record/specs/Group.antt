-- A group's bytes are those of its words and of a zero word.
use Rattle.std.specs.Prelude.{◌≡◌, ℕ, ◌+◌, ◌*◌, ◌≤◌, List, [], ◌∷◌, ◌++◌, length, vec_capacity}
use Rattle.lc_record.specs.Words.{words_of, bytes_of, AreWords}
use Rattle.lc_record.specs.GroupView.{GroupView}
use Rattle.lc_record.specs.declared.group.Group.TheInside.{Inside}

abbrev pub all_but_last : List ℕ → List ℕ
all_but_last [] = []
all_but_last (x ∷ []) = []
all_but_last (x ∷ y ∷ ys) = x ∷ all_but_last (y ∷ ys)

abbrev pub group_words : Inside → List ℕ
group_words g = all_but_last (words_of g.bytes.items)

abbrev pub group_view : Inside → GroupView
group_view g = record { words = group_words g; room = g.room }

pub record IsGroupBytes (g : Inside) : Type 0 where
  pub text : g.bytes.items ≡ bytes_of (group_words g ++ 0 ∷ [])
  pub words : AreWords (group_words g)
  pub few : length (group_words g) ≤ g.room
  pub room : 8 * (g.room + 1) ≤ vec_capacity g.bytes
