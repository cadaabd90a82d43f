-- The rule of a line, and what a send and a take tell.
use Rattle.std.specs.Prelude.{◌≡◌, ℕ, ◌≤◌, Bool, true, List, [], ◌∷◌, ◌++◌, length}
use mathlib.Core.Option.{some}
use lib.ListN.{get_elem?}
use Rattle.lc_line.specs.declared.pass_view.PassView.{PassView}

module _ {T : Type 0} where
  abbrev pub log : Bool → Bool → List T → List T → PassView T
  log a b sent taken = record { sends = a; takes = b; sent = sent; taken = taken }

  -- one pass at most may send, and it has what was sent; the same of what was taken
  abbrev pub Fits : ℕ → ℕ → List T → List T → ℕ → PassView T → Type 0
  Fits sender taker sent taken pass v = (v.sends ≡ true → (pass ≡ sender) × (v.sent ≡ sent)) × (v.takes ≡ true → (pass ≡ taker) × (v.taken ≡ taken))

  -- what was sent is what was taken and then what waits, which is 64 messages at most
  pub record IsInOrder (waiting : List T) (views : List (PassView T)) : Type 0 where
    pub sender : ℕ
    pub taker : ℕ
    pub sent : List T
    pub taken : List T
    pub in_order : sent ≡ taken ++ waiting
    pub few : length waiting ≤ 64
    pub knows : (pass : ℕ) (v : PassView T) → get_elem? views pass ≡ some v → Fits sender taker sent taken pass v

  abbrev pub Sends : PassView T → T → PassView T → Type 0
  Sends v x w = w ≡ log v.sends v.takes (v.sent ++ x ∷ []) v.taken

  abbrev pub Takes : PassView T → T → PassView T → Type 0
  Takes v x w = w ≡ log v.sends v.takes v.sent (v.taken ++ x ∷ [])

  -- what waits was sent last
  abbrev pub EndsWith : PassView T → List T → Type 0
  EndsWith v waiting = (taken : List T) × (v.sent ≡ taken ++ waiting)

  -- what was taken is the first that was not
  abbrev pub TakesFirst : PassView T → T → PassView T → Type 0
  TakesFirst v x w = Takes v x w × ((waiting : List T) × (v.sent ≡ v.taken ++ x ∷ waiting))

  abbrev pub IsTotal : PassView T → List T → Type 0
  IsTotal v waiting = (v.sent ≡ v.taken ++ waiting) × (length waiting ≤ 64)
