-- Transactions that do not meet change different segments, so their effects commute.
use Rattle.std.proofs.Common.{◌≡◌, ◌≢◌, ℕ, zero, suc, List, [], ◌∷◌, get_or, All, IsTrue, refl, sym, ◌∙◌, ap, subst}
use Rattle.std.proofs.lemmas.List.Elements.{All-head, All-tail}
use Rattle.lc_record.specs.Content.{Content, put, on_segment}
use Rattle.lc_record.proofs.LockLemmas.{meet_locks}
use Rattle.lc_record.specs.Transaction.{ByteWrite, Transaction, writes_on, effect, locks, Meet, IsWellFormed}

-- changes of different segments commute
pub on_segment-swap : {A : Type 0} (s t : ℕ) (f g : A → A) (xs : List A) → s ≢ t → on_segment s f (on_segment t g xs) ≡ on_segment t g (on_segment s f xs)
on_segment-swap s t f g [] differ = refl
on_segment-swap zero zero f g (x ∷ xs) differ = refl
on_segment-swap zero (suc zero) f g (x ∷ xs) differ = refl
on_segment-swap zero (suc (suc j)) f g (x ∷ xs) differ = refl
on_segment-swap (suc zero) zero f g (x ∷ xs) differ = refl
on_segment-swap (suc zero) (suc zero) f g (x ∷ xs) differ = absurd (differ refl)
on_segment-swap (suc zero) (suc (suc j)) f g (x ∷ xs) differ = refl
on_segment-swap (suc (suc i)) zero f g (x ∷ xs) differ = refl
on_segment-swap (suc (suc i)) (suc zero) f g (x ∷ xs) differ = refl
on_segment-swap (suc (suc i)) (suc (suc j)) f g (x ∷ xs) differ =
    ap (λ r. x ∷ r) (on_segment-swap (suc i) (suc j) f g xs (λ e. differ (ap suc e)))

abbrev pub change : ByteWrite → Content → Content
change w content = on_segment w.segment (put w.offset w.bytes) content

-- two writes to different segments
abbrev pub Apart : ByteWrite → ByteWrite → Type 0
Apart w v = w.segment ≢ v.segment

-- one write past a list of writes to other segments
pub change-writes_on : (w : ByteWrite) (ws : List ByteWrite) (content : Content) → All (Apart w) ws → writes_on ws (change w content) ≡ change w (writes_on ws content)
change-writes_on w [] content apart = refl
change-writes_on w (v ∷ ws) content apart =
    ap (λ c. writes_on ws c) (sym (on_segment-swap w.segment v.segment (put w.offset w.bytes) (put v.offset v.bytes) content (All-head (Apart w) v ws apart)))
    ∙ change-writes_on w ws (change v content) (All-tail (Apart w) v ws apart)

pub writes_on-swap : (ws vs : List ByteWrite) (content : Content) → All (λ w. All (Apart w) vs) ws → writes_on vs (writes_on ws content) ≡ writes_on ws (writes_on vs content)
writes_on-swap [] vs content apart = refl
writes_on-swap (w ∷ ws) vs content apart =
    writes_on-swap ws vs (change w content) (All-tail (λ x. All (Apart x) vs) w ws apart)
    ∙ ap (λ c. writes_on ws c) (change-writes_on w vs content (All-head (λ x. All (Apart x) vs) w ws apart))

-- the effects of two transactions that do not meet
pub effect-swap : (t u : Transaction) (content : Content) → IsWellFormed t → IsWellFormed u → (Meet t u → ⊥) → effect u (effect t content) ≡ effect t (effect u content)
effect-swap t u content t_well u_well apart =
    writes_on-swap t.writes u.writes content
    (λ i d i_in j e j_in same.
    apart (meet_locks t u (get_or t.writes i d).segment (t_well.write_locked i d i_in) (subst (λ (s : ℕ). IsTrue (locks u s)) (sym same) (u_well.write_locked j e j_in))))
