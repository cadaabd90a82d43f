-- One log, and one record, more of what is stable.
use Rattle.std.proofs.Common.{◌≡◌, ℕ, zero, suc, ◌+◌, ◌<◌, ◌≤◌, List, [], ◌∷◌, drop, length, take, refl, sym, ◌∙◌, ap, arith, add-one}
use Rattle.std.specs.Prelude.{Bool, true, false, filter, slice_index_or, if◌then◌else◌}
use Rattle.std.specs.Global.{Vec}
use Rattle.lc_record.specs.declared.record.Record.{Record}
use Rattle.lc_rest.specs.Merge.{logs_of}
use Rattle.lc_rest.specs.Stable.{bytes_up_to, stable_count, up_to_on}
use Rattle.lc_rest.specs.TokenTest.{count_log, count_on}
use Rattle.lc_rest.specs.Turns.{has_lock}

-- Logs

pub count-behind : (counts : List ℕ) (i : ℕ) → slice_index_or (drop 1 counts) i 0 ≡ slice_index_or counts (suc i) 0
count-behind [] i = refl
count-behind (count ∷ counts) i = refl

stable-next : (segment : ℕ) (logs : List (Vec Record)) (counts : List ℕ) (i : ℕ) (d : Vec Record) → i < length logs
    → stable_count segment (logs_of (take (suc i) logs)) counts ≡ stable_count segment (logs_of (take i logs)) counts + count_log segment (take (slice_index_or counts i 0) (slice_index_or logs i d).items)
stable-next segment [] counts i d less = absurd (omega (arith, less))
stable-next segment (log ∷ logs) counts zero d less = omega arith
stable-next segment (log ∷ logs) counts (suc i) d less =
    let later = stable-next segment logs (drop 1 counts) i d (omega (arith, less)) in
    let own = ap (λ n. count_log segment (take n (slice_index_or logs i d).items)) (count-behind counts i) in
    omega (arith, later, own)

pub stable-more : (segment : ℕ) (logs : List (Vec Record)) (counts : List ℕ) (i : ℕ) (d : Vec Record) → i < length logs
    → stable_count segment (logs_of (take i logs)) counts + count_log segment (take (slice_index_or counts i 0) (slice_index_or logs i d).items) ≡ stable_count segment (logs_of (take (i + 1) logs)) counts
stable-more segment logs counts i d less = sym (stable-next segment logs counts i d less) ∙ ap (λ n. stable_count segment (logs_of (take n logs)) counts) (sym (add-one i))

count-front : (segment n : ℕ) (rs : List Record) → count_log segment (take n rs) ≤ count_log segment rs
count-front segment zero rs = omega arith
count-front segment (suc n) [] = omega arith
count-front segment (suc n) (r ∷ rs) = go (has_lock segment r) (count-front segment n rs)
  where
    go : (b : Bool) → count_log segment (take n rs) ≤ count_log segment rs
        → length (if b then r ∷ filter (has_lock segment) (take n rs) else filter (has_lock segment) (take n rs)) ≤ length (if b then r ∷ filter (has_lock segment) rs else filter (has_lock segment) rs)
    go true less = omega (arith, less)
    go false less = less

pub stable-most : (segment n : ℕ) (logs : List (Vec Record)) (counts : List ℕ) → stable_count segment (logs_of (take n logs)) counts ≤ count_on segment (logs_of logs)
stable-most segment zero logs counts = omega arith
stable-most segment (suc n) [] counts = omega arith
stable-most segment (suc n) (log ∷ logs) counts =
    let rest = stable-most segment n logs (drop 1 counts) in
    let own = count-front segment (slice_index_or counts 0 0) log.items in
    omega (arith, rest, own)

-- Records

up_to-next : (segment number : ℕ) (rs : List Record) (bytes : List ℕ) (i : ℕ) (d : Record) → i < length rs
    → up_to_on segment number (slice_index_or rs i d) (bytes_up_to segment number (take i rs) bytes) ≡ bytes_up_to segment number (take (suc i) rs) bytes
up_to-next segment number [] bytes i d less = absurd (omega (arith, less))
up_to-next segment number (r ∷ rs) bytes zero d less = refl
up_to-next segment number (r ∷ rs) bytes (suc i) d less = up_to-next segment number rs (up_to_on segment number r bytes) i d (omega (arith, less))

pub up_to-more : (segment number : ℕ) (rs : List Record) (now bytes : List ℕ) (i : ℕ) (d : Record) → i < length rs → now ≡ bytes_up_to segment number (take i rs) bytes
    → up_to_on segment number (slice_index_or rs i d) now ≡ bytes_up_to segment number (take (i + 1) rs) bytes
up_to-more segment number rs now bytes i d less is = ap (up_to_on segment number (slice_index_or rs i d)) is ∙ up_to-next segment number rs bytes i d less ∙ ap (λ n. bytes_up_to segment number (take n rs) bytes) (sym (add-one i))
