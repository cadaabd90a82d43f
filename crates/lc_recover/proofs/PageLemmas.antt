-- The changes of one page, and their ranges.
use Rattle.std.proofs.Common.{◌≡◌, ℕ, zero, suc, ◌<◌, ◌≤◌, List, [], ◌∷◌, ◌++◌, length, get_or, take, drop, Option, Some, None, All, refl, sym, ◌∙◌, ap, subst, arith, inl, inr}
use Rattle.std.specs.Prelude.{slice_get, slice_index_or}
use Rattle.std.specs.Option.{option_or}
use Rattle.std.proofs.lemmas.List.{append-nil, drop_all, get_or_past}
use Rattle.std.proofs.lemmas.List.Elements.{All-nil, All-cons, All-head, All-tail, All-weaker}
use Rattle.std.proofs.lemmas.Option.{same_Some}
use Rattle.lc_record.specs.Newest.{byte_from, byte_in, byte_of}
use Rattle.lc_record.specs.Words.{bytes_of}
use Rattle.lc_record.specs.declared.record.RangeData.{RangeData}
use Rattle.lc_record.proofs.PuttingLemmas.{byte_in-same, byte_of-push}
use Rattle.lc_record.proofs.ListLemmas.{option_or_assoc as option_or-assoc}
use Rattle.lc_recover.specs.StoreContents.{Names, IsBefore, AreAscending}
use Rattle.lc_recover.specs.Page.{IsOf, IsOfAnother, AreAt, IsFirstPage}
use Rattle.lc_recover.specs.declared.redo_range.RedoRange.{RedoRange}

-- The first page

not_back : (first d e : RedoRange) → IsBefore first d → IsOfAnother first.segment first.page d → IsBefore d e → IsOfAnother first.segment first.page e
not_back first d e one other two of_first =
    elim one [
      | inl segment ↦ (elim two [ inl more ↦ omega (arith, segment, more, of_first.0) | inr same ↦ omega (arith, segment, same.0, of_first.0) ])
      | inr alike ↦
          (elim alike.1 [
            | inl page ↦
                (elim two [
                  | inl more ↦ omega (arith, alike.0, more, of_first.0)
                  | inr same ↦ (elim same.1 [ inl more ↦ omega (arith, page, more, of_first.1) | inr last ↦ omega (arith, page, last.0, of_first.1) ])
                ])
            | inr last ↦ other (sym alike.0, sym last.0)
          ])
    ]

none_behind : (first : RedoRange) (cs : List RedoRange) (n : ℕ) (default : RedoRange) → All (IsBefore first) cs → AreAscending cs → n < length cs
    → IsOfAnother first.segment first.page (get_or cs n default) → All (IsOfAnother first.segment first.page) (drop n cs)
none_behind first [] n default all ascending lt other = absurd (omega (arith, lt))
none_behind first (c ∷ cs) zero default all ascending lt other =
    All-cons (IsOfAnother first.segment first.page) c cs other
    (All-weaker (IsBefore c) (IsOfAnother first.segment first.page) (λ e before. not_back first c e (All-head (IsBefore first) c cs all) other before) cs ascending.0)
none_behind first (c ∷ cs) (suc n) default all ascending lt other =
    none_behind first cs n default (All-tail (IsBefore first) c cs all) ascending.1 (omega (arith, lt)) other

pub take_and_drop : {A : Type 0} (n : ℕ) (xs : List A) → xs ≡ take n xs ++ drop n xs
take_and_drop zero xs = refl
take_and_drop (suc n) [] = refl
take_and_drop (suc n) (x ∷ xs) = ap (λ ys. x ∷ ys) (take_and_drop n xs)

pub ended : (changes : List RedoRange) (n : ℕ) (first default : RedoRange) → n < length changes → slice_get changes 0 ≡ Some first
    → All (IsOf first.segment first.page) (take n changes) → IsOfAnother first.segment first.page (get_or changes n default) → IsFirstPage changes (take n changes)
ended [] n first default lt is front other = absurd (omega (arith, lt))
ended (c ∷ cs) zero first default lt is front other =
    let same : c ≡ first = same_Some c first is in
    absurd (other (ap (λ (d : RedoRange). d.segment) same, ap (λ (d : RedoRange). d.page) same))
ended (c ∷ cs) (suc n) first default lt is front other =
    let same : c ≡ first = same_Some c first is in
    let of_c : All (IsOf c.segment c.page) (take (suc n) (c ∷ cs)) = subst (λ (d : RedoRange). All (IsOf d.segment d.page) (take (suc n) (c ∷ cs))) (sym same) front in
    let other_c : IsOfAnother c.segment c.page (get_or cs n default) = subst (λ (d : RedoRange). IsOfAnother d.segment d.page (get_or cs n default)) (sym same) other in
    record {
      rest = drop n cs;
      whole = take_and_drop (suc n) (c ∷ cs);
      some = λ _. omega arith;
      of_first = λ f f_is. subst (λ (d : RedoRange). All (IsOf d.segment d.page) (take (suc n) (c ∷ cs))) (same_Some c f f_is) of_c;
      no_more = λ f f_is ascending.
          subst (λ (d : RedoRange). All (IsOfAnother d.segment d.page) (drop n cs)) (same_Some c f f_is)
          (none_behind c cs n default ascending.0 ascending.1 (omega (arith, lt)) other_c);
    }

pub only_page : (changes : List RedoRange) (first : RedoRange) → slice_get changes 0 ≡ Some first → All (IsOf first.segment first.page) changes → IsFirstPage changes changes
only_page changes first is all = record {
  rest = [];
  whole = sym (append-nil changes);
  some = λ some. some;
  of_first = λ f f_is. subst (λ (d : RedoRange). All (IsOf d.segment d.page) changes) (same_Some first f (sym is ∙ f_is)) all;
  no_more = λ f f_is ascending. All-nil (IsOfAnother f.segment f.page);
}

-- One range more

-- the range that one of the changes is of
pub record Standing (logs : List (List ℕ)) (c : RedoRange) (ranges : List RangeData) (i : ℕ) : Type 0 where
  pub its : RangeData
  pub names : Names logs c its
  pub next : take (suc i) ranges ≡ take i ranges ++ its ∷ []

pub standing : (logs : List (List ℕ)) (cs : List RedoRange) (rs : List RangeData) (i : ℕ) (default : RedoRange) → AreAt logs cs rs → i < length cs → Standing logs (get_or cs i default) rs i
standing logs [] rs i default at lt = absurd (omega (arith, lt))
standing logs (c ∷ cs) [] i default at lt = absurd at
standing logs (c ∷ cs) (r ∷ rs) zero default at lt = record { its = r; names = at.0; next = refl }
standing logs (c ∷ cs) (r ∷ rs) (suc i) default at lt =
    let one = standing logs cs rs i default at.1 (omega (arith, lt)) in
    record { its = one.its; names = one.names; next = ap (λ (xs : List RangeData). r ∷ xs) one.next }

pub all_taken : (logs : List (List ℕ)) (cs : List RedoRange) (rs : List RangeData) (n : ℕ) → AreAt logs cs rs → length cs ≤ n → take n rs ≡ rs
all_taken logs [] [] zero at le = refl
all_taken logs [] [] (suc n) at le = refl
all_taken logs [] (r ∷ rs) n at le = absurd at
all_taken logs (c ∷ cs) [] n at le = absurd at
all_taken logs (c ∷ cs) (r ∷ rs) zero at le = absurd (omega (arith, le))
all_taken logs (c ∷ cs) (r ∷ rs) (suc n) at le = ap (λ (xs : List RangeData). r ∷ xs) (all_taken logs cs rs n at.1 (omega (arith, le)))

-- the bytes at its place are those of its range
pub named_byte : (logs : List (List ℕ)) (c : RedoRange) (range : RangeData) (segment place : ℕ) → Names logs c range → c.segment ≡ segment
    → byte_from c.offset (take c.len (bytes_of (drop c.words (drop c.place (slice_index_or logs c.log []))))) place ≡ byte_in segment place range
named_byte logs c range segment place names of =
    ap (λ (o : ℕ). byte_from o (take c.len (bytes_of (drop c.words (drop c.place (slice_index_or logs c.log []))))) place) (sym names.offset)
    ∙ ap (λ (bytes : List ℕ). byte_from range.offset bytes place) names.bytes
    ∙ sym (byte_in-same segment place range (names.segment ∙ of))

pub one_range_more : (segment place : ℕ) (front : List RangeData) (r : RangeData) (old : Option ℕ)
    → option_or (byte_in segment place r) (option_or (byte_of segment place front) old) ≡ option_or (byte_of segment place (front ++ r ∷ [])) old
one_range_more segment place front r old =
    sym (option_or-assoc (byte_in segment place r) (byte_of segment place front) old)
    ∙ ap (λ (o : Option ℕ). option_or o old) (sym (byte_of-push segment place front r))

-- Words after others

none_from : (offset place : ℕ) → byte_from offset [] place ≡ None
none_from zero place = refl
none_from (suc offset) zero = refl
none_from (suc offset) (suc place) = none_from offset place

take_none : {A : Type 0} (n : ℕ) (xs : List A) → xs ≡ [] → take n xs ≡ []
take_none zero xs is = refl
take_none (suc n) xs is = ap (take (suc n)) is

-- what is in no log puts nothing
pub put_nothing : (logs : List (List ℕ)) (log place words len offset at : ℕ) (old : Option ℕ) → length logs ≤ log
    → old ≡ option_or (byte_from offset (take len (bytes_of (drop words (drop place (slice_index_or logs log []))))) at) old
put_nothing logs log place words len offset at old le =
    let none : drop words (drop place (slice_index_or logs log [])) ≡ [] =
    ap (λ (l : List ℕ). drop words (drop place l)) (get_or_past logs log [] le) ∙ ap (drop words) (drop_all place [] (omega arith)) ∙ drop_all words [] (omega arith) in
    sym (ap (λ (l : List ℕ). option_or (byte_from offset (take len (bytes_of l)) at) old) none
    ∙ ap (λ (l : List ℕ). option_or (byte_from offset l at) old) (take_none len (bytes_of []) refl)
    ∙ ap (λ (o : Option ℕ). option_or o old) (none_from offset at))
