-- The calls of a page write, but for the last: which are made, and what they keep.
use Rattle.std.proofs.Common.{◌≡◌, ◌≢◌, ◌⊎◌, ℕ, zero, suc, ◌+◌, ◌<◌, ◌≤◌, Bool, true, false, Option, Some, None, refl, sym, ap, subst, ◌∙◌, inl, inr, arith, true≢false}
use Rattle.std.specs.Prelude.{◌==◌, nat_lt, nat_le, is_some, if◌then◌else◌}
use Rattle.std.specs.List.{list_any}
use Rattle.std.proofs.lemmas.Bool.{cases_eq, cases_lt, le-ltb, lt-ltb, ltb-false, leb-false, ne_eqb}
use Rattle.lc_model.specs.History.{reserved, transactions}
use Rattle.lc_model.specs.Merge.{Page}
use Rattle.lc_model.specs.Merging.{counted_all}
use Rattle.lc_model.specs.Moves.{update_at, with_opened, page_now}
use Rattle.lc_model.specs.Refusals.{is_at, refuse_if}
use Rattle.lc_model.specs.Sound.{holders}
use Rattle.lc_model.specs.State.{At, Setting, State, update}
use Rattle.lc_model.specs.Stored.{Fits as FitsDisks}
use Rattle.lc_model.specs.declared.event.Event.{Event}
use Rattle.lc_model.specs.declared.event.Event.TheVariants.{PageStep}
use Rattle.lc_model.specs.declared.refusal.Refusal.TheVariants.{NotHere, NotNewer, Uncommitted, Unflushed}
use Rattle.lc_model.specs.declared.reply.Reply.{Reply}
use Rattle.lc_model.specs.declared.reply.Reply.TheVariants.{Refused, Stepped, Written}
use Rattle.lc_model.proofs.Holders.{at_is}
use Rattle.lc_model.proofs.Keeps.{acked-reserved}
use Rattle.lc_model.proofs.Moves.{keeps-begun, keeps-opening, stands-now, token-stable, update_at-own as entry_own}
use Rattle.lc_model.proofs.Seats.{update-other, update-own}
use Rattle.lc_token.specs.Clean.{closed_of}
use Rattle.lc_token.proofs.CleanLemmas.{token-fewer, token-opened}
use Rattle.lc_token.proofs.NumberLemmas.{token-number}
use Rattle.lc_journal.specs.Coherent.{AreCoherent, IsWriteOf, entries_of}
use Rattle.lc_settled.specs.Numbers.{Numbers, sets_on, stable, token_number}
use Rattle.lc_settled.specs.Settled.{IsAnswer, begun_number, is_unflushed, page_answer, page_call, refusal_or}
use Rattle.lc_settled.specs.Turns.{called, numbers_after, opened_with, written}

-- Tables

pub entry_other : {A : Type 0} (table : ℕ → ℕ → A) (segment page : ℕ) (item : A) (n k : ℕ) → (n ≡ segment → k ≡ page → ⊥) → update_at table segment page item n k ≡ table n k
entry_other {A} table segment page item n k differ = elim (cases_eq n segment) [
  | inl same ↦
      subst (λ (i : ℕ). update_at table segment page item i k ≡ table i k) (sym same)
      (ap (λ (f : ℕ → A). f k) (update-own table segment (update (table segment) page item)) ∙ update-other (table segment) page item k (differ same))
  | inr other ↦ ap (λ (f : ℕ → A). f k) (update-other table segment (update (table segment) page item) n other)
]

-- a page, or any other
pub page_cases : (P : ℕ → ℕ → Type 0) (segment page : ℕ) → P segment page → ((n k : ℕ) → (n ≡ segment → k ≡ page → ⊥) → P n k) → (n k : ℕ) → P n k
page_cases P segment page own others n k = elim (cases_eq n segment) [
  | inl first ↦ elim (cases_eq k page) [
    | inl second ↦ subst (λ (i : ℕ). P i k) (sym first) (subst (λ (i : ℕ). P segment i) (sym second) own)
    | inr other ↦ others n k (λ one two. other two)
  ]
  | inr other ↦ others n k (λ one two. other one)
]

-- a page write, by what the tables have
pub write_as : (s : State) (x : Numbers) (segment page : ℕ) (begun opened : Option Page) (calls : ℕ) → x.disks.begun segment page ≡ begun → x.disks.opened segment page ≡ opened → x.calls segment page ≡ calls
    → is_some begun ≡ nat_lt 0 calls → opened ≡ (if nat_lt calls 5 then None else begun) → ((text : Page) → begun ≡ Some text → text.sequence ≤ token_number s x segment) → IsWriteOf s x segment page
write_as s x segment page begun opened calls begun_is opened_is calls_is some behind within = record {
  begun = ap (λ (o : Option Page). is_some o) begun_is ∙ some ∙ ap (λ (k : ℕ). nat_lt 0 k) (sym calls_is);
  opened = opened_is ∙ behind ∙ ap (λ (k : ℕ). if nat_lt k 5 then None else begun) (sym calls_is) ∙ ap (λ (o : Option Page). if nat_lt (x.calls segment page) 5 then None else o) (sym begun_is);
  within = λ text is. within text (sym begun_is ∙ is);
}

module _ (m : Setting) (s : State) (x : Numbers) (node segment page : ℕ) where
  abbrev event : Event
  event = PageStep node segment page

  abbrev after_of : Reply → Numbers
  after_of reply = numbers_after m s x event reply

  abbrev calls : ℕ
  calls = x.calls segment page

  -- What a settled answer makes

  -- where the first call is made
  abbrev pub Begins : Type 0
  Begins = calls ≡ 0 → (s.place segment ≡ At node) × (is_unflushed s node ≡ false) × (nat_le (token_number s x segment) (stable x segment page) ≡ false)

  -- nothing, the next call, or the end of the write
  abbrev pub MakesPage : Reply → Type 0
  MakesPage reply =
      (after_of reply ≡ x)
      ⊎ (Begins × (after_of reply ≡ called m s x segment page (calls + 1)))
      ⊎ ((5 ≤ calls) × (after_of reply ≡ written m.geometry s x node segment page))

  at_first : (held unflushed old : Bool) → calls ≡ 0 → (unflushed ≡ false → old ≡ false → Begins) → (reply : Reply)
      → IsAnswer event (refusal_or (refuse_if held Uncommitted (refuse_if unflushed Unflushed (refuse_if old NotNewer None))) (Stepped 1)) reply → MakesPage reply
  at_first true unflushed old none begins reply (inl is) = inl (ap after_of is)
  at_first true unflushed old none begins reply (inr fault) = absurd (true≢false (sym fault.0))
  at_first false true old none begins reply (inl is) = inl (ap after_of is)
  at_first false true old none begins reply (inr fault) = absurd (true≢false (sym fault.0))
  at_first false false true none begins reply (inl is) = inl (ap after_of is)
  at_first false false true none begins reply (inr fault) = absurd (true≢false (sym fault.0))
  at_first false false false none begins reply (inl is) =
      let one : 1 ≡ calls + 1 = omega (arith, none) in
      inr (inl (begins refl refl, ap after_of is ∙ ap (called m s x segment page) one))
  at_first false false false none begins reply (inr fault) = inr (inl (begins refl refl, ap after_of fault.1))

  later_begins : (k : ℕ) → calls ≡ suc k → Begins
  later_begins k is none = absurd (omega (arith, is, none))

  at_later : (k : ℕ) (less : Bool) → nat_lt k 4 ≡ less → calls ≡ suc k → (reply : Reply)
      → IsAnswer event (if less then Stepped (suc k + 1) else Written (begun_number (x.disks.begun segment page))) reply → MakesPage reply
  at_later k true test is reply (inl same) =
      inr (inl (later_begins k is, ap after_of same ∙ ap (λ (n : ℕ). called m s x segment page (n + 1)) (sym is)))
  at_later k true test is reply (inr fault) = inr (inl (later_begins k is, ap after_of fault.1))
  at_later k false test is reply (inl same) = (let most : 4 ≤ k = ltb-false k 4 test in inr (inr (omega (arith, is, most), ap after_of same)))
  at_later k false test is reply (inr fault) = inr (inl (later_begins k is, ap after_of fault.1))

  by_calls : is_at node (s.place segment) ≡ true → (k : ℕ) → calls ≡ k → (reply : Reply) → IsAnswer event (page_call s x node segment page k) reply → MakesPage reply
  by_calls here zero is reply answer =
      at_first (list_any (sets_on segment page) (holders s)) (is_unflushed s node) (nat_le (token_number s x segment) (stable x segment page)) is
      (λ flushed newer none. (at_is node (s.place segment) here, flushed, newer)) reply answer
  by_calls here (suc k) is reply answer = at_later k (nat_lt k 4) refl is reply answer

  away : (reply : Reply) → IsAnswer event (Refused (NotHere segment)) reply → MakesPage reply
  away reply (inl is) = inl (ap after_of is)
  away reply (inr fault) = absurd (true≢false (sym fault.0))

  pub page_makes : (reply : Reply) → IsAnswer event (page_answer s x node segment page) reply → MakesPage reply
  page_makes reply answer = elim (is_at node (s.place segment)) as (λ b. is_at node (s.place segment) ≡ b → IsAnswer event (if b then page_call s x node segment page calls else Refused (NotHere segment)) reply → MakesPage reply) [
    | true ↦ λ here h. by_calls here calls refl reply h
    | false ↦ λ there h. away reply h
  ] refl answer

  -- What a call keeps

  module _ (first : 1 ≤ segment) (last : segment ≤ m.geometry.segments) (known : page < m.geometry.pages) (fits : FitsDisks m s x.disks) (h : AreCoherent m s x) where
    abbrev Keeps : Numbers → Type 0
    Keeps y = AreCoherent m s y × FitsDisks m s y.disks

    -- no call of another page
    others_write : (y : Numbers) (n k : ℕ) → (n ≡ segment → k ≡ page → ⊥) → y.disks.numbers ≡ x.disks.numbers
        → y.disks.begun n k ≡ x.disks.begun n k → y.disks.opened n k ≡ x.disks.opened n k → y.calls n k ≡ x.calls n k → IsWriteOf s y n k
    others_write y n k differ numbers begun_is opened_is calls_is =
        let its = h.writes n k in
        write_as s y n k (x.disks.begun n k) (x.disks.opened n k) (x.calls n k) begun_is opened_is calls_is its.begun its.opened
        (λ text is. subst (λ (f : ℕ → ℕ). text.sequence ≤ counted_all f (closed_of s.history) n) (sym numbers) (its.within text is))

    begins_so : calls ≡ 0 → Begins → Keeps (called m s x segment page 1)
    begins_so none begins =
        let can = begins none in
        let all : s.ack node ≡ reserved node s.history = (let most = acked-reserved m.geometry s node fits.sound in let least = ltb-false (s.ack node) (reserved node s.history) can.1 in omega (arith, most, least)) in
        let newer : stable x segment page < token_number s x segment = leb-false (token_number s x segment) (stable x segment page) can.2 in
        let number : token_number s x segment ≡ counted_all x.disks.numbers (transactions s.history) segment = token-number m s x.disks segment node fits.sound can.0 all in
        let text : Page = page_now m s x.disks segment page in
        let y : Numbers = called m s x segment page 1 in (
          record {
            tokens = λ n one most. token-fewer m s x.disks y.disks n (token_number s x n) (x.clean n) (entries_of m.geometry x n) (h.tokens n one most) refl (λ p z shows. shows);
            clean = h.clean;
            known = h.known;
            resets = h.resets;
            writes = page_cases (λ n k. IsWriteOf s y n k) segment page
                (write_as s y segment page (Some text) None 1 (entry_own x.disks.begun segment page (Some text)) (closed_slot none) (entry_own x.calls segment page 1) refl refl
                (λ z is. (let same : text.sequence ≡ z.sequence = ap (λ (o : Option Page). begun_number o) is in omega (arith, same, number))))
                (λ n k differ. others_write y n k differ refl (entry_other x.disks.begun segment page (Some text) n k differ) refl (entry_other x.calls segment page 1 n k differ));
          },
          keeps-begun m s x.disks segment page text fits (stands-now m s x.disks segment page fits.sound (token-stable m s x.disks segment node fits.sound can.0 all)) (omega (arith, newer, number)),
        )
      where
        closed_slot : calls ≡ 0 → x.disks.opened segment page ≡ None
        closed_slot is = (h.writes segment page).opened ∙ ap (λ (k : ℕ). if nat_lt k 5 then None else x.disks.begun segment page) is

    -- neither the first nor the fifth
    goes_on : (n : ℕ) → 1 ≤ calls → n ≡ calls + 1 → n ≢ 5 → Keeps (record x { calls = update_at x.calls segment page n })
    goes_on n some is not_five =
        let its = h.writes segment page in
        let y : Numbers = record x { calls = update_at x.calls segment page n } in (
          record {
            tokens = h.tokens;
            clean = h.clean;
            known = h.known;
            resets = h.resets;
            writes = page_cases (λ i k. IsWriteOf s y i k) segment page
                (write_as s y segment page (x.disks.begun segment page) (x.disks.opened segment page) n refl refl (entry_own x.calls segment page n)
                (its.begun ∙ lt-ltb 0 calls some ∙ sym (lt-ltb 0 n (omega (arith, is))))
                (its.opened ∙ ap (λ (b : Bool). if b then None else x.disks.begun segment page) same_side)
                its.within)
                (λ i k differ. others_write y i k differ refl refl refl (entry_other x.calls segment page n i k differ));
          },
          fits,
        )
      where
        same_side : nat_lt calls 5 ≡ nat_lt n 5
        same_side = elim (cases_lt n 5) [
          | inl less ↦ lt-ltb calls 5 (omega (arith, less, is)) ∙ sym (lt-ltb n 5 less)
          | inr more ↦ le-ltb calls 5 (omega (arith, more, is, not_five)) ∙ sym (le-ltb n 5 more)
        ]

    opens_so : calls ≡ 4 → (begun : Option Page) → x.disks.begun segment page ≡ begun → Keeps (record x { disks = opened_with x.disks segment page begun; calls = update_at x.calls segment page 5 })
    opens_so four None none =
        absurd (true≢false (sym (ap (λ (o : Option Page). is_some o) (sym none) ∙ (h.writes segment page).begun ∙ ap (λ (k : ℕ). nat_lt 0 k) four)))
    opens_so four (Some text) is =
        let before = fits.begun segment page text first last known is in
        let y : Numbers = record x { disks = with_opened x.disks segment page text; calls = update_at x.calls segment page 5 } in (
          record {
            tokens = λ n one most. token-opened m s x.disks n (token_number s x n) (x.clean n) segment page text (entries_of m.geometry x n) (h.tokens n one most) before.1;
            clean = h.clean;
            known = h.known;
            resets = h.resets;
            writes = page_cases (λ n k. IsWriteOf s y n k) segment page
                (write_as s y segment page (Some text) (Some text) 5 is (entry_own x.disks.opened segment page (Some text)) (entry_own x.calls segment page 5) refl refl
                (λ z same. (h.writes segment page).within z (is ∙ same)))
                (λ n k differ. others_write y n k differ refl refl (entry_other x.disks.opened segment page (Some text) n k differ) (entry_other x.calls segment page 5 n k differ));
          },
          keeps-opening m s x.disks segment page text fits first last known is,
        )

    by_call : (k : ℕ) → calls ≡ k → Begins → Keeps (called m s x segment page (k + 1))
    by_call zero is begins = begins_so is begins
    by_call (suc zero) is begins = goes_on 2 (omega (arith, is)) (omega (arith, is)) (λ five. absurd (omega (arith, five)))
    by_call (suc (suc zero)) is begins = goes_on 3 (omega (arith, is)) (omega (arith, is)) (λ five. absurd (omega (arith, five)))
    by_call (suc (suc (suc zero))) is begins = goes_on 4 (omega (arith, is)) (omega (arith, is)) (λ five. absurd (omega (arith, five)))
    by_call (suc (suc (suc (suc zero)))) is begins = opens_so is (x.disks.begun segment page) refl
    by_call (suc (suc (suc (suc (suc k))))) is begins =
        let n : ℕ = suc (suc (suc (suc (suc k)))) + 1 in
        let one : (n == 1) ≡ false = ne_eqb n 1 (λ same. absurd (omega (arith, same))) in
        let five : (n == 5) ≡ false = ne_eqb n 5 (λ same. absurd (omega (arith, same))) in
        rw (one, five) (goes_on n (omega (arith, is)) (omega (arith, is)) (λ same. absurd (omega (arith, same))))

    pub call_keeps : Begins → Keeps (called m s x segment page (calls + 1))
    call_keeps begins = by_call calls refl begins
