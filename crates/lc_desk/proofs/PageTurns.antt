-- What the calls of page writes make of the numbers.
use Rattle.std.proofs.Common.{◌≡◌, ◌≢◌, ℕ, ◌+◌, ◌≤◌, ◌==◌, Bool, true, false, Option, Some, None, refl, sym, ap, subst, ◌∙◌, inl, inr, arith}
use Rattle.std.specs.Prelude.{◌⊎◌, if◌then◌else◌}
use Rattle.std.proofs.lemmas.Bool.{cases_eq, eq-eqb, ne_eqb}
use Rattle.lc_page.specs.Page.{Page}
use Rattle.lc_page.specs.PageVector.{settled_text}
use Rattle.lc_model.specs.Merge.{Page as StorePage}
use Rattle.lc_model.specs.Moves.{page_now, update_at, with_begun}
use Rattle.lc_model.specs.State.{Setting, State}
use Rattle.lc_model.specs.Stored.{Disks}
use Rattle.lc_model.proofs.Moves.{update_at-own as own_at}
use Rattle.lc_settled.specs.Numbers.{Numbers}
use Rattle.lc_desk.specs.Pages.{HasBegun}
use Rattle.lc_rest.specs.Pages.{as_read}
use Rattle.lc_settled.specs.Settled.{begun_number}
use Rattle.lc_settled.specs.Turns.{call_made, called, opened_with, page_settled, settled_with}
use Rattle.lc_desk.proofs.Gained.{other_node, other_segment}
use Rattle.lc_desk.proofs.PageWrites.{SameAt}

-- another page of the segment, or a page of another
abbrev pub IsApart : ℕ → ℕ → ℕ → ℕ → Type 0
IsApart segment page other beside = (other ≢ segment) ⊎ ((other ≡ segment) × (beside ≢ page))

apart_at : {A : Type 0} (table : ℕ → ℕ → A) (segment page : ℕ) (item : A) (other beside : ℕ) → IsApart segment page other beside → update_at table segment page item other beside ≡ table other beside
apart_at table segment page item other beside (inl differ) = other_node table segment page item other beside differ
apart_at table segment page item other beside (inr differ) =
    subst (λ (n : ℕ). update_at table segment page item n beside ≡ table n beside) (sym differ.0) (other_segment table segment page item beside differ.1)

-- the disks have the same of a page
record SameDisks (segment page : ℕ) (d e : Disks) : Type 0 where
  pub present : e.page segment page ≡ d.page segment page
  pub begun : e.begun segment page ≡ d.begun segment page
  pub opened : e.opened segment page ≡ d.opened segment page

module _ (m : Setting) (s : State) (segment page : ℕ) where
  opened_apart : (d : Disks) (o : Option StorePage) (other beside : ℕ) → IsApart segment page other beside → SameDisks other beside d (opened_with d segment page o)
  opened_apart d None other beside apart = record { present = refl; begun = refl; opened = refl }
  opened_apart d (Some text) other beside apart = record { present = refl; begun = refl; opened = apart_at d.opened segment page (Some text) other beside apart }

  settled_apart : (d : Disks) (o : Option StorePage) (other beside : ℕ) → IsApart segment page other beside → SameDisks other beside d (settled_with d segment page o)
  settled_apart d None other beside apart = record { present = refl; begun = refl; opened = refl }
  settled_apart d (Some text) other beside apart = record {
    present = apart_at d.page segment page text other beside apart;
    begun = apart_at d.begun segment page None other beside apart;
    opened = apart_at d.opened segment page None other beside apart;
  }

  call_apart : (d : Disks) (calls other beside : ℕ) → IsApart segment page other beside → SameDisks other beside d (call_made m s d segment page calls)
  call_apart d calls other beside apart =
      elim (calls == 1) as (λ (b : Bool). SameDisks other beside d (if b then with_begun d segment page (page_now m s d segment page)
      else if calls == 5 then opened_with d segment page (d.begun segment page) else d)) [
        | true ↦ record { present = refl; begun = apart_at d.begun segment page (Some (page_now m s d segment page)) other beside apart; opened = refl }
        | false ↦ elim (calls == 5) as (λ (b : Bool). SameDisks other beside d (if b then opened_with d segment page (d.begun segment page) else d)) [
          | true ↦ opened_apart d (d.begun segment page) other beside apart
          | false ↦ record { present = refl; begun = refl; opened = refl }
        ]
      ]

  pub called_apart : (x : Numbers) (calls other beside : ℕ) → IsApart segment page other beside → SameAt other beside x (called m s x segment page calls)
  called_apart x calls other beside apart =
      let disks = call_apart x.disks calls other beside apart in
      record {
        calls = apart_at x.calls segment page calls other beside apart;
        texts = refl;
        present = disks.present;
        begun = disks.begun;
        opened = disks.opened;
      }

  pub settled_beside : (x : Numbers) (other beside : ℕ) → IsApart segment page other beside → SameAt other beside x (page_settled x segment page)
  settled_beside x other beside apart =
      let disks = settled_apart x.disks (x.disks.begun segment page) other beside apart in
      record {
        calls = apart_at x.calls segment page 0 other beside apart;
        texts = apart_at x.texts segment page (settled_text (x.texts segment page) (begun_number (x.disks.begun segment page))) other beside apart;
        present = disks.present;
        begun = disks.begun;
        opened = disks.opened;
      }

  -- no call of a write but the last changes the page itself
  opened_page : (d : Disks) (o : Option StorePage) → (opened_with d segment page o).page ≡ d.page
  opened_page d None = refl
  opened_page d (Some text) = refl

  opened_begun : (d : Disks) (o : Option StorePage) → (opened_with d segment page o).begun ≡ d.begun
  opened_begun d None = refl
  opened_begun d (Some text) = refl

  call_page : (d : Disks) (calls : ℕ) → (call_made m s d segment page calls).page ≡ d.page
  call_page d calls =
      elim (calls == 1) as (λ (b : Bool). (if b then with_begun d segment page (page_now m s d segment page)
      else if calls == 5 then opened_with d segment page (d.begun segment page) else d).page ≡ d.page) [
        | true ↦ refl
        | false ↦ elim (calls == 5) as (λ (b : Bool). (if b then opened_with d segment page (d.begun segment page) else d).page ≡ d.page) [
          | true ↦ opened_page d (d.begun segment page)
          | false ↦ refl
        ]
      ]

  pub called_page : (x : Numbers) (calls : ℕ) → (called m s x segment page calls).disks.page segment page ≡ x.disks.page segment page
  called_page x calls = ap (λ (f : ℕ → ℕ → StorePage). f segment page) (call_page x.disks calls)

  -- the first call
  pub begun_first : (new : Page) (x : Numbers) → new ≡ as_read (page_now m s x.disks segment page) → HasBegun segment page 1 new (called m s x segment page 1)
  begun_first new x text_is = record {
    calls_are = own_at x.calls segment page 1;
    text = page_now m s x.disks segment page;
    begun = own_at x.disks.begun segment page (Some (page_now m s x.disks segment page));
    text_is = text_is;
    opened = λ late. absurd (omega (arith, late));
  }

  -- after the first call the disks are those of the fifth, or as they were
  module _ (x : Numbers) (calls : ℕ) (new : Page) (h : HasBegun segment page calls new x) (some : 1 ≤ calls) where
    disks_later : (called m s x segment page (calls + 1)).disks ≡ (if calls + 1 == 5 then opened_with x.disks segment page (x.disks.begun segment page) else x.disks)
    disks_later =
        let differ : calls + 1 ≢ 1 = λ same. absurd (omega (arith, same, some)) in
        ap (λ (b : Bool). if b then with_begun x.disks segment page (page_now m s x.disks segment page)
        else if calls + 1 == 5 then opened_with x.disks segment page (x.disks.begun segment page) else x.disks) (ne_eqb (calls + 1) 1 differ)

    still_begun : (if calls + 1 == 5 then opened_with x.disks segment page (x.disks.begun segment page) else x.disks).begun ≡ x.disks.begun
    still_begun = elim (calls + 1 == 5) as (λ (b : Bool). (if b then opened_with x.disks segment page (x.disks.begun segment page) else x.disks).begun ≡ x.disks.begun) [
      | true ↦ opened_begun x.disks (x.disks.begun segment page)
      | false ↦ refl
    ]

    now_opened : 5 ≤ calls + 1 → (if calls + 1 == 5 then opened_with x.disks segment page (x.disks.begun segment page) else x.disks).opened segment page ≡ Some h.text
    now_opened late = elim (cases_eq (calls + 1) 5) [
      | inl five ↦
          ap (λ (b : Bool). (if b then opened_with x.disks segment page (x.disks.begun segment page) else x.disks).opened segment page) (eq-eqb (calls + 1) 5 five)
          ∙ ap (λ (o : Option StorePage). (opened_with x.disks segment page o).opened segment page) h.begun
          ∙ own_at x.disks.opened segment page (Some h.text)
      | inr other ↦
          ap (λ (b : Bool). (if b then opened_with x.disks segment page (x.disks.begun segment page) else x.disks).opened segment page) (ne_eqb (calls + 1) 5 other)
          ∙ h.opened (omega (arith, late, other))
    ]

    pub begun_next : HasBegun segment page (calls + 1) new (called m s x segment page (calls + 1))
    begun_next = record {
      calls_are = own_at x.calls segment page (calls + 1);
      text = h.text;
      begun = ap (λ (d : Disks). d.begun segment page) disks_later ∙ ap (λ (f : ℕ → ℕ → Option StorePage). f segment page) still_begun ∙ h.begun;
      text_is = h.text_is;
      opened = λ late. ap (λ (d : Disks). d.opened segment page) disks_later ∙ now_opened late;
    }

  -- the last call
  module _ (x : Numbers) (text : StorePage) (begun : x.disks.begun segment page ≡ Some text) where
    pub settled_page : (page_settled x segment page).disks.page segment page ≡ text
    settled_page = ap (λ (o : Option StorePage). (settled_with x.disks segment page o).page segment page) begun ∙ own_at x.disks.page segment page text

    pub settled_calls : (page_settled x segment page).calls segment page ≡ 0
    settled_calls = own_at x.calls segment page 0

    pub settled_texts : (page_settled x segment page).texts segment page ≡ settled_text (x.texts segment page) text.sequence
    settled_texts =
        own_at x.texts segment page (settled_text (x.texts segment page) (begun_number (x.disks.begun segment page)))
        ∙ ap (λ (o : Option StorePage). settled_text (x.texts segment page) (begun_number o)) begun
