-- What is read of a segment, at its place, and what is tested of it there.
use Rattle.std.proofs.Common.{◌≡◌, ℕ, zero, suc, ◌+◌, ◌-◌, ◌<◌, List, [], ◌∷◌, ◌++◌, length, sym, refl, ap, subst, ◌∙◌, arith, add-one}
use Rattle.std.specs.Prelude.{IfNone, IfOk, IfSome, None, Ok, Err, Option, Result, Some, slice_index_or}
use Rattle.std.specs.Global.{Vec}
use Rattle.std.specs.List.{flat_map}
use Rattle.std.proofs.lemmas.List.{get_or-map, get_or_default}
use Rattle.lc_record.specs.declared.record.Record.{Record}
use Rattle.lc_rest.specs.Merge.{logs_of, number_at}
use Rattle.lc_rest.specs.NumbersTest.{AreNumbered, joined_logs}
use Rattle.lc_rest.specs.TokenTest.{IsKeptToken, count_on}
use Rattle.lc_rest.specs.declared.holder.Holder.{Holder}
use Rattle.lc_rest.specs.declared.holder.Holder.TheVariants.{Left}
use Rattle.lc_token.specs.declared.token.Token.{Token}
use Rattle.lc_rest.specs.AtRest.{KeepsToken}
use Rattle.lc_record.specs.Lists.{items_of}
use Rattle.lc_reading.specs.Readings.{IsTokenIn, KeepsTokenIn, at_segment, first_numbers, no_token, numbers_before, read_of}
use Rattle.lc_reading.specs.declared.read_parts.ReadParts.{ReadParts}

-- Results

pub ok_some : {A E : Type 0} (res : Result (Option A) E) (P Q : A → Type 0) → IfOk res (λ o. IfSome o P) → ((x : A) → P x → Q x) → IfOk res (λ o. IfSome o Q)
ok_some (Ok (Some x)) P Q p f = f x p
ok_some (Ok None) P Q p f = p
ok_some (Err e) P Q p f = p

pub ok_none : {A E : Type 0} (res : Result (Option A) E) (P Q : Type 0) → IfOk res (λ o. IfNone o P) → (P → Q) → IfOk res (λ o. IfNone o Q)
ok_none (Ok (Some x)) P Q p f = p
ok_none (Ok None) P Q p f = f p
ok_none (Err e) P Q p f = p

-- Places

pub at_next : {A : Type 0} (d : A) (xs : List A) (k : ℕ) → at_segment d xs (k + 1) ≡ slice_index_or xs k d
at_next d xs k = ap (at_segment d xs) (add-one k)

pub index_at : {A : Type 0} (d x : A) (xs : List A) (k : ℕ) → k < length xs → x ≡ slice_index_or xs k x → at_segment d xs (k + 1) ≡ x
index_at d x xs k less is = at_next d xs k ∙ get_or_default xs k d x less ∙ sym is

pub items_at : (v : Vec ℕ) (vs : List (Vec ℕ)) (k : ℕ) → k < length vs → v ≡ slice_index_or vs k v → at_segment [] (items_of vs) (k + 1) ≡ v.items
items_at v vs k less is = at_next [] (items_of vs) k ∙ get_or-map (λ (w : Vec ℕ). w.items) vs k v [] less ∙ ap (λ (w : Vec ℕ). w.items) (sym is)

pub joined_flat : (logs : List (Vec Record)) → joined_logs logs ≡ flat_map (λ (log : List Record). log) (logs_of logs)
joined_flat [] = refl
joined_flat (log ∷ logs) = ap (λ (l : List Record). log.items ++ l) (joined_flat logs)

numbers_from : (from : ℕ) (tokens : List Token) (logs : List (List Record)) (k : ℕ) (d : Token) → k < length tokens → slice_index_or (numbers_before from tokens logs) k 0 ≡ (slice_index_or tokens k d).seq - count_on (from + k) logs
numbers_from from [] logs k d less = absurd (omega (arith, less))
numbers_from from (token ∷ tokens) logs zero d less = (let same : from ≡ from + 0 = omega arith in ap (λ (n : ℕ). token.seq - count_on n logs) same)
numbers_from from (token ∷ tokens) logs (suc k) d less =
    let same : from + 1 + k ≡ from + suc k = omega arith in
    numbers_from (from + 1) tokens logs k d (omega (arith, less)) ∙ ap (λ (n : ℕ). (slice_index_or tokens k d).seq - count_on n logs) same

length_from : (from : ℕ) (tokens : List Token) (logs : List (List Record)) → length (numbers_before from tokens logs) ≡ length tokens
length_from from [] logs = refl
length_from from (token ∷ tokens) logs = ap suc (length_from (from + 1) tokens logs)

pub length_numbers : (r : ReadParts) → length (first_numbers r) ≡ length r.tokens.items
length_numbers r = length_from 1 r.tokens.items (logs_of r.logs.items)

pub number_next : (r : ReadParts) (k : ℕ) (d : Token) → k < length r.tokens.items → number_at (first_numbers r) (k + 1) ≡ (slice_index_or r.tokens.items k d).seq - count_on (k + 1) (logs_of r.logs.items)
number_next r k d less =
    let same : 1 + k ≡ k + 1 = omega arith in
    ap (number_at (first_numbers r)) (add-one k) ∙ numbers_from 1 r.tokens.items (logs_of r.logs.items) k d less ∙ ap (λ (n : ℕ). (slice_index_or r.tokens.items k d).seq - count_on n (logs_of r.logs.items)) same

-- Tests

module _ (r : ReadParts) (round dropped : ℕ → ℕ) (known : ℕ → ℕ → ℕ) (turns : List ℕ) (segment : ℕ) (token : Token) (holder : Holder) (area : List ℕ)
    (token_is : at_segment no_token r.tokens.items segment ≡ token) (holder_is : at_segment (Left 0) r.holders.items segment ≡ holder) (area_is : at_segment [] (items_of r.areas.items) segment ≡ area)
    (number_is : number_at (first_numbers r) segment ≡ token.seq - count_on segment (logs_of r.logs.items)) where
  pub token_kept : IsTokenIn r.geometry segment token holder → KeepsTokenIn segment r.geometry.pages token holder area (logs_of r.logs.items) r.counts.items → KeepsToken (read_of r round dropped known turns) segment
  token_kept is keeps =
      let logs : List (List Record) = logs_of r.logs.items in
      let counts : List ℕ = r.counts.items in
      let pages : ℕ = r.geometry.pages in
      let token_at : Token = at_segment no_token r.tokens.items segment in
      let holder_at : Holder = at_segment (Left 0) r.holders.items segment in
      let its : IsTokenIn r.geometry segment token_at holder_at =
      subst (λ (t : Token). IsTokenIn r.geometry segment t holder_at) (sym token_is) (subst (λ (w : Holder). IsTokenIn r.geometry segment token w) (sym holder_is) is) in
      record {
        segment_is = its.segment_is;
        entries = its.entries;
        node = its.node;
        numbered = subst (λ (n : ℕ). AreNumbered segment n token_at.seq (flat_map (λ (log : List Record). log) logs)) (sym number_is)
            (subst (λ (t : Token). AreNumbered segment (token.seq - count_on segment logs) t.seq (flat_map (λ (log : List Record). log) logs)) (sym token_is) keeps.numbered);
        kept = subst (λ (t : Token). IsKeptToken segment pages t holder_at logs counts (at_segment [] (items_of r.areas.items) segment)) (sym token_is)
            (subst (λ (w : Holder). IsKeptToken segment pages token w logs counts (at_segment [] (items_of r.areas.items) segment)) (sym holder_is)
            (subst (λ (l : List ℕ). IsKeptToken segment pages token holder logs counts l) (sym area_is) keeps.kept));
      }

  pub token_in : KeepsToken (read_of r round dropped known turns) segment → IsTokenIn r.geometry segment token holder × KeepsTokenIn segment r.geometry.pages token holder area (logs_of r.logs.items) r.counts.items
  token_in keeps =
      let logs : List (List Record) = logs_of r.logs.items in
      let counts : List ℕ = r.counts.items in
      let pages : ℕ = r.geometry.pages in
      let token_at : Token = at_segment no_token r.tokens.items segment in
      let holder_at : Holder = at_segment (Left 0) r.holders.items segment in
      let its : IsTokenIn r.geometry segment token_at holder_at = record { segment_is = keeps.segment_is; entries = keeps.entries; node = keeps.node } in (
        subst (λ (t : Token). IsTokenIn r.geometry segment t holder) token_is (subst (λ (w : Holder). IsTokenIn r.geometry segment token_at w) holder_is its),
        record {
          numbered = subst (λ (n : ℕ). AreNumbered segment n token.seq (flat_map (λ (log : List Record). log) logs)) number_is
              (subst (λ (t : Token). AreNumbered segment (number_at (first_numbers r) segment) t.seq (flat_map (λ (log : List Record). log) logs)) token_is keeps.numbered);
          kept = subst (λ (t : Token). IsKeptToken segment pages t holder logs counts area) token_is
              (subst (λ (w : Holder). IsKeptToken segment pages token_at w logs counts area) holder_is
              (subst (λ (l : List ℕ). IsKeptToken segment pages token_at holder_at logs counts l) area_is keeps.kept));
        },
      )
