-- Of a log under its lock: what the pages of held segments are after their writes.
use Rattle.std.proofs.Common.{◌≡◌, ℕ, zero, suc, ◌+◌, ◌<◌, ◌≤◌, List, [], ◌∷◌, Some, None, length, take, refl, set, get_or, sym, ap, subst, ◌∙◌, arith}
use Rattle.std.specs.Prelude.{Option, slice_get}
use Rattle.std.proofs.lemmas.List.{length-set as length_set}
use Rattle.std.proofs.lemmas.Option.{slice_get_read, slice_get_within, same_Some as some_same}
use Rattle.lc_disk.specs.declared.area.Area.{Ghosts}
use Rattle.lc_stage.specs.declared.stage_view.StageView.{StageView}
use Rattle.lc_stage.specs.Seats.{flush_view}
use Rattle.lc_token.specs.KnownClean.{Sees}
use Rattle.lc_token.specs.declared.token.Token.{Token}
use Rattle.lc_record.proofs.ListLemmas.{slice_get-set_same as get_same, slice_get-set_other as get_other}
use Rattle.lc_segments.specs.Each.{Each}
use Rattle.lc_log_side.specs.EndedRoom.{HasRoom}
use Rattle.lc_log_side.specs.Flushes.{Flushes}
use Rattle.lc_log_side.specs.LogView.{LogView}
use Rattle.lc_segments.specs.declared.node_fault.NodeFault.{NodeFault}
use Rattle.lc_segments.specs.Truncates.{IsFolded, FailsPages}
use Rattle.lc_log_side.specs.Truncates.{IsSameHeld, FailsSides, SeesSides, SeesToken, WritesSide}
use Rattle.lc_segments.specs.declared.held.HeldSide.{HeldSide}
use Rattle.lc_log_side.proofs.Backwards.{got_at}
use Rattle.lc_log_side.proofs.Forwards.{Forwards, next, all_of}

suc-is : (k : ℕ) → suc k ≡ k + 1
suc-is k = omega arith

-- one more token is seen
sees_more : {D : Type 0} (old : List ℕ) (hs : List (HeldSide D)) (k : ℕ) (h : HeldSide D) (mid new : List ℕ) → SeesSides old (take k hs) mid → slice_get hs k ≡ Some h
    → SeesToken mid h.side.standing.token new → SeesSides old (take (suc k) hs) new
sees_more old [] k h mid new sees is more = absurd cc
sees_more old (x ∷ hs) zero h mid new sees is more = (new, subst (λ (y : HeldSide _). SeesToken old y.side.standing.token new) (some_same h x (sym is)) (subst (λ l. SeesToken l h.side.standing.token new) sees more), refl)
sees_more old (x ∷ hs) (suc k) h mid new sees is more = (sees.0, sees.1, sees_more sees.0 hs k h mid new sees.2 is more)

pub sees_next : {D : Type 0} (old : List ℕ) (hs : List (HeldSide D)) (k : ℕ) (h : HeldSide D) (mid new : List ℕ) → SeesSides old (take k hs) mid → slice_get hs k ≡ Some h
    → SeesToken mid h.side.standing.token new → SeesSides old (take (k + 1) hs) new
sees_next old hs k h mid new sees is more = subst (λ (n : ℕ). SeesSides old (take n hs) new) (suc-is k) (sees_more old hs k h mid new sees is more)

pub token_seen : (o : Option Token) (t : Token) (old new : List ℕ) → o ≡ Some t → Sees old t new → SeesToken old o new
token_seen o t old new is sees = subst (λ x. SeesToken old x new) (sym is) sees

pub none_seen : (o : Option Token) (old new : List ℕ) → o ≡ None → new ≡ old → SeesToken old o new
none_seen o old new is same = subst (λ x. SeesToken old x new) (sym is) same

-- the item of a walk
pub got_item : {A : Type 0} (ys : List A) (k : ℕ) (y : A) → k < length ys → y ≡ get_or ys k y → slice_get ys k ≡ Some y
got_item ys k y l is = slice_get_read ys (length ys) k y refl l is

module _ {D : Type 0} where
  -- those of a walk so far are the same
  only_same : (a : Ghosts D) (xs now : List (HeldSide D)) (n : ℕ) → Forwards (λ h k. WritesSide a h k × IsSameHeld h k) xs now n → Forwards IsSameHeld xs now n
  only_same a xs now n f = record { long = f.long; behind = f.behind; done = λ k x z low x_at z_at. (f.done k x z low x_at z_at).1 }

  pub all_same : (a : Ghosts D) (xs now : List (HeldSide D)) (n : ℕ) → Forwards (λ h k. WritesSide a h k × IsSameHeld h k) xs now n → Each IsSameHeld xs now
  all_same a xs now n f = all_of IsSameHeld xs now n (only_same a xs now n f) (λ x. (refl, refl, refl))

  pub one_more_same : (a : Ghosts D) (xs now : List (HeldSide D)) (n : ℕ) (h g : HeldSide D) → Forwards (λ h k. WritesSide a h k × IsSameHeld h k) xs now n → n < length now → h ≡ get_or now n h → IsSameHeld h g
      → Each IsSameHeld xs (set now n g)
  one_more_same a xs now n h g f within at same = all_of IsSameHeld xs (set now n g) (n + 1) (next IsSameHeld xs now n h g (only_same a xs now n f) within at same) (λ x. (refl, refl, refl))

  -- and after its end all are written
  pub all_written : (a : Ghosts D) (xs now : List (HeldSide D)) (n : ℕ) → Forwards (λ h k. WritesSide a h k × IsSameHeld h k) xs now n → length now ≤ n → Each (WritesSide a) xs now
  all_written a xs now n f whole = record {
    long = f.long;
    each = λ k x z x_at z_at. let low = slice_get_within now k z z_at in (f.done k x z (omega arith) x_at z_at).0;
  }

  pub one_fails : (a : Ghosts D) (fault : NodeFault) (xs now : List (HeldSide D)) (n : ℕ) (h g : HeldSide D) → Forwards (λ h k. WritesSide a h k × IsSameHeld h k) xs now n → n < length now → h ≡ get_or now n h
      → g ≡ record h { side = g.side } → FailsPages a h.side fault g.side → FailsSides a xs fault (set now n g)
  one_fails a fault xs now n h g f within at same fails = let now_h : slice_get now n ≡ Some h = got_at now n h at within in record {
    place = n;
    same_length = length_set now n g ∙ f.long;
    front = λ k p o low p_at o_at. (f.done k p o low p_at (sym (get_other now n k g (λ e. absurd (omega arith))) ∙ o_at)).0;
    behind = λ k high. get_other now n k g (λ e. absurd (omega arith)) ∙ f.behind k (omega arith);
    old = h;
    new = g;
    was = sym (f.behind n (omega arith)) ∙ now_h;
    is = get_same now n h g now_h;
    same = same;
    fails = fails;
  }

  -- a side after the writes of its pages
  pub same_written : (h g : HeldSide D) → g ≡ record h { side = g.side } → IsFolded h.side g.side → IsSameHeld h g
  same_written h g same folded = (same, ap (λ s. s.segment) folded, ap (λ s. s.image) folded)

-- a flush leaves room for the words of its round
pub room_behind : {D : Type 0} (room count : ℕ) (old new : LogView D) → Flushes room old count new → HasRoom old → HasRoom new
room_behind room count old new f has =
    let words : (flush_view new.flusher).room ≡ (flush_view old.flusher).room = ap (λ (v : StageView). v.room) f.publishes ∙ ap (λ (v : StageView). v.room) f.takes.1 in
    let long : length new.ended ≡ length old.ended = ap (λ (l : List ℕ). length l) f.ended in let most = f.ended_room in omega arith
