-- The true items of an index, one after the other.
use Rattle.std.proofs.Common.{◌≡◌, ℕ, ◌+◌, ◌-◌, ◌<◌, ◌≤◌, Bool, true, false, cond, List, [], ◌∷◌}
use Rattle.std.proofs.Common.{◌++◌}
use Rattle.std.proofs.Common.{map, filter, refl, sym, ap, subst, Option, Some, None, ◌∙◌}
use Rattle.std.proofs.Common.{inl, inr, arith, append_assoc}
use Rattle.std.specs.Prelude.{IsTrue, nat_le, ◌&&◌}
use Rattle.std.specs.Option.{option_map_or}
use Rattle.std.proofs.lemmas.Bool.{true≢false}
use Rattle.std.proofs.lemmas.Bool.Decides.{leb_tells}
use Rattle.std.proofs.lemmas.Grind.{common_steps}
use Rattle.std.proofs.lemmas.List.{append-nil}
use Rattle.std.proofs.lemmas.Option.{none-some, same_Some}
use Rattle.plain_digraph.specs.Lists.{AllOf}
use Rattle.observe_core.specs.Held.{Entry, entry_id}
use Rattle.observe_core.specs.Items.{rises_from}
use Rattle.observe_core.proofs.ItemLemmas.{and_left, and_right}
use Rattle.columns.specs.Views.{entry}
use Rattle.index_maps.specs.Trues.{first_true, low_after}
use Rattle.desk_world.specs.Reads.{trues_from}

reaches : (low n : ℕ) → low ≤ n → nat_le low n ≡ true
reaches low n l = elim (leb_tells low n) [ inl h ↦ h.0 | inr h ↦ absurd (omega (arith, l, h.1)) ]

beyond : (low n : ℕ) → n < low → nat_le low n ≡ false
beyond low n l = elim (leb_tells low n) [ inl h ↦ absurd (omega (arith, l, h.1)) | inr h ↦ h.0 ]

reached : (low n : ℕ) → nat_le low n ≡ true → low ≤ n
reached low n is =
    elim (leb_tells low n) [ inl h ↦ h.1 | inr h ↦ absurd (true≢false (sym is ∙ h.0)) ]

-- the first true item from an id on isn't below it
pub first_above : (low id : ℕ) (es : List (Entry Bool)) → first_true low es ≡ Some id → low ≤ id
first_above low id [] is = absurd (none-some id is)
first_above low id (e ∷ es) is =
    elim (nat_le low e.id) as (λ b. nat_le low e.id ≡ b
    → cond (b && e.value) (Some e.id) (first_true low es) ≡ Some id → low ≤ id) [
      | true ↦ λ at. elim e.value as (λ b. cond b (Some e.id) (first_true low es) ≡ Some id
          → low ≤ id) [
            | true ↦ λ found. subst (λ n. low ≤ n) (same_Some e.id id found) (reached low e.id at)
            | false ↦ λ found. first_above low id es found
          ]
      | false ↦ λ at found. first_above low id es found
    ] refl is

-- what is so of all entries is so of it
pub first_so : (P : ℕ → Type 0) (low id : ℕ) (es : List (Entry Bool))
    → AllOf (λ (e : Entry Bool). P e.id) es → first_true low es ≡ Some id → P id
first_so P low id [] all is = absurd (none-some id is)
first_so P low id (e ∷ es) all is =
    elim (nat_le low e.id && e.value) as (λ b. cond b (Some e.id) (first_true low es) ≡ Some id
    → P id) [
      | true ↦ λ found. subst P (same_Some e.id id found) all.0
      | false ↦ λ found. first_so P low id es all.1 found
    ] is

-- where none is found there is none
pub none_from : (low : ℕ) (es : List (Entry Bool)) → first_true low es ≡ None
    → trues_from low es ≡ []
none_from low [] is = refl
none_from low (e ∷ es) is =
    elim (nat_le low e.id && e.value) as (λ b. cond b (Some e.id) (first_true low es) ≡ None
    → cond b (e.id ∷ trues_from low es) (trues_from low es) ≡ []) [
      | true ↦ λ found. absurd (none-some e.id (sym found))
      | false ↦ λ found. none_from low es found
    ] is

-- from an id that none is below, it is all the same
same_from : (low high : ℕ) (es : List (Entry Bool)) → low ≤ high
    → IsTrue (rises_from entry_id high es) → trues_from low es ≡ trues_from high es
same_from low high [] l rises = refl
same_from low high (e ∷ es) l rises =
    let first = and_left (nat_le high e.id) (rises_from entry_id (e.id + 1) es) rises in
    let more = and_right (nat_le high e.id) (rises_from entry_id (e.id + 1) es) rises in
    let above : high ≤ e.id = grind (arith, common_steps, first) in
    let one : nat_le low e.id ≡ true = reaches low e.id (omega (arith, l, above)) in
    let other : nat_le high e.id ≡ true = reaches high e.id above in
    let rest : trues_from low es ≡ trues_from high es =
    same_from low (e.id + 1) es (omega (arith, l, above)) more
    ∙ sym (same_from high (e.id + 1) es (omega (arith, above)) more) in
    λ i. cond ((one ∙ sym other) i && e.value) (e.id ∷ rest i) (rest i)

-- the first true item isn't below a bound that no entry is below
first_high : (low high id : ℕ) (es : List (Entry Bool)) → IsTrue (rises_from entry_id high es)
    → first_true low es ≡ Some id → high ≤ id
first_high low high id [] rises is = absurd (none-some id is)
first_high low high id (e ∷ es) rises is =
    let first = and_left (nat_le high e.id) (rises_from entry_id (e.id + 1) es) rises in
    let more = and_right (nat_le high e.id) (rises_from entry_id (e.id + 1) es) rises in
    let above : high ≤ e.id = grind (arith, common_steps, first) in
    elim (nat_le low e.id && e.value) as (λ b. cond b (Some e.id) (first_true low es) ≡ Some id
    → high ≤ id) [
      | true ↦ λ found. subst (λ n. high ≤ n) (same_Some e.id id found) above
      | false ↦ λ found.
          let rest = first_high low (e.id + 1) id es more found in
          omega (arith, rest, above)
    ] is

-- those from an id on are the first of them, and those behind it
pub next_from : (low bound id : ℕ) (es : List (Entry Bool)) → IsTrue (rises_from entry_id bound es)
    → first_true low es ≡ Some id → trues_from low es ≡ id ∷ trues_from (id + 1) es
next_from low bound id [] rises is = absurd (none-some id is)
next_from low bound id (e ∷ es) rises is =
    let more = and_right (nat_le bound e.id) (rises_from entry_id (e.id + 1) es) rises in
    let skip : (n : ℕ) → e.id < n → trues_from n (e ∷ es) ≡ trues_from n es =
    λ n l. ap (λ b. cond (b && e.value) (e.id ∷ trues_from n es) (trues_from n es))
    (beyond n e.id l) in
    let by : (b : Bool) → (nat_le low e.id && e.value) ≡ b
    → cond b (Some e.id) (first_true low es) ≡ Some id
    → cond b (e.id ∷ trues_from low es) (trues_from low es) ≡ id ∷ trues_from (id + 1) (e ∷ es) =
    λ b. elim b as (λ b. (nat_le low e.id && e.value) ≡ b
    → cond b (Some e.id) (first_true low es) ≡ Some id
    → cond b (e.id ∷ trues_from low es) (trues_from low es) ≡ id ∷ trues_from (id + 1) (e ∷ es)) [
      | true ↦ λ at found.
          let same : e.id ≡ id = same_Some e.id id found in
          let low_is : low ≤ e.id = reached low e.id (and_left (nat_le low e.id) e.value at) in
          let rest : trues_from low es ≡ trues_from (id + 1) (e ∷ es) =
          same_from low (e.id + 1) es (omega (arith, low_is)) more
          ∙ ap (λ n. trues_from (n + 1) es) same
          ∙ sym (skip (id + 1) (omega (arith, same))) in
          λ i. same i ∷ rest i
      | false ↦ λ at found.
          let high = first_high low (e.id + 1) id es more found in
          next_from low (e.id + 1) id es more found
          ∙ ap (λ more. id ∷ more) (sym (skip (id + 1) (omega (arith, high))))
    ] in
    by (nat_le low e.id && e.value) refl is

-- from 0 on they are the items that pass
pub trues_all : (test : ℕ → Bool) (ids : List ℕ)
    → trues_from 0 (map (λ id. entry id (test id)) ids) ≡ filter test ids
trues_all test [] = refl
trues_all test (id ∷ ids) =
    let more = trues_all test ids in
    λ i. cond (reaches 0 id (omega arith) i && test id) (id ∷ more i) (more i)

-- ---- the walk over them

-- What was made of the items so far, and what is to be made of those from the next on, is what is
-- made of all.
pub record Listing {X : Type 0} (line : ℕ → X) (es : List (Entry Bool)) (next : Option ℕ)
    (lines : List X) : Type 0 where
  pub low : ℕ
  pub next_is : next ≡ first_true low es
  pub so_far : lines ++ map line (trues_from low es) ≡ map line (trues_from 0 es)

module _ {X : Type 0} (line : ℕ → X) (es : List (Entry Bool)) where
  pub list_start : (next : Option ℕ) (lines : List X) → next ≡ first_true (low_after None) es
      → lines ≡ [] → Listing line es next lines
  list_start next lines is none = record {
    low = 0;
    next_is = is;
    so_far = ap (λ front. front ++ map line (trues_from 0 es)) none;
  }

  pub list_on : (id : ℕ) (next : Option ℕ) (lines : List X) (more : X)
      → IsTrue (rises_from entry_id 0 es) → Listing line es (Some id) lines → more ≡ line id
      → next ≡ first_true (low_after (Some id)) es → Listing line es next (lines ++ more ∷ [])
  list_on id next lines more rises was made is = record {
    low = id + 1;
    next_is = is;
    so_far =
        append_assoc lines (more ∷ []) (map line (trues_from (id + 1) es))
        ∙ ap (λ x. lines ++ x ∷ map line (trues_from (id + 1) es)) made
        ∙ ap (λ ids. lines ++ map line ids)
        (sym (next_from was.low 0 id es rises (sym was.next_is)))
        ∙ was.so_far;
  }

  pub list_end : (lines : List X) → Listing line es None lines
      → lines ≡ map line (trues_from 0 es)
  list_end lines was =
      sym (append-nil lines)
      ∙ ap (λ ids. lines ++ map line ids) (sym (none_from was.low es (sym was.next_is)))
      ∙ was.so_far

  -- the next id isn't below that of the walk
  pub list_so : (P : ℕ → Type 0) (id : ℕ) (lines : List X) → AllOf (λ (e : Entry Bool). P e.id) es
      → Listing line es (Some id) lines → P id
  list_so P id lines all was = first_so P was.low id es all (sym was.next_is)

-- so that fewer ids below 2^32 are left after each
pub fewer_left : (es : List (Entry Bool)) (id : ℕ) (next : Option ℕ) → id < 4294967296
    → next ≡ first_true (id + 1) es
    → option_map_or (λ (id : ℕ). 4294967296 - id) next 0 < 4294967296 - id
fewer_left es id None below is = omega (arith, below)
fewer_left es id (Some other) below is =
    let above = first_above (id + 1) other es (sym is) in
    omega (arith, below, above)
