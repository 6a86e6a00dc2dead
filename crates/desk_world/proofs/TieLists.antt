-- Lists of ties, by their numbers.
use Rattle.std.proofs.Common.{◌≡◌, ◌≢◌, ℕ, zero, suc, ◌+◌, true, false, cond, List, []}
use Rattle.std.proofs.Common.{◌∷◌, refl, sym, ap, subst, Option, Some, None, ◌∙◌, inl, inr, arith}
use Rattle.std.proofs.Common.{Contains}
use Rattle.std.specs.Prelude.{IsTrue, nat_le, find, ◌==◌, MatchOption, option_map}
use Rattle.std.proofs.lemmas.Bool.{cases_eq, eq-eqb, ne_eqb}
use Rattle.std.proofs.lemmas.Option.{none-some}
use Rattle.std.proofs.lemmas.Grind.{common_steps}
use Rattle.plain_digraph.specs.Lists.{AllOf}
use Rattle.plain_digraph.specs.Rising.{with_item, without_item}
use Rattle.observe_core.specs.Held.{Tie, tie_id}
use Rattle.observe_core.specs.Items.{Lacks, rises_from}
use Rattle.observe_core.proofs.ItemLemmas.{and_right, rises-lacks}
use Rattle.index_maps.specs.TieEntries.{tie_to}

-- the tie of the number
abbrev pub tie_of : ℕ → List Tie → Option Tie
tie_of n ties = find (λ (t : Tie). t.tie == n) ties

pass : (n : ℕ) (t : Tie) (ties : List Tie) → t.tie ≢ n → tie_of n (t ∷ ties) ≡ tie_of n ties
pass n t ties apart = ap (λ b. cond b (Some t) (tie_of n ties)) (ne_eqb t.tie n apart)

here : (n : ℕ) (t : Tie) (ties : List Tie) → t.tie ≡ n → tie_of n (t ∷ ties) ≡ Some t
here n t ties is = ap (λ b. cond b (Some t) (tie_of n ties)) (eq-eqb t.tie n is)

no_le : (k : ℕ) → nat_le k k ≡ false → ⊥
no_le k is = grind (arith, common_steps, is)

-- ---- a tie comes

module _ (k id : ℕ) where
  abbrev new : Tie
  new = tie_to k id

  pub put_found : (ties : List Tie) → tie_of k (with_item tie_id new ties) ≡ Some new
  put_found [] = here k new [] refl
  put_found (t ∷ ts) =
      let rest = put_found ts in
      elim (nat_le k t.tie) as (λ b. nat_le k t.tie ≡ b
      → tie_of k (cond b (new ∷ t ∷ ts) (t ∷ with_item tie_id new ts)) ≡ Some new) [
        | true ↦ λ is. here k new (t ∷ ts) refl
        | false ↦ λ is.
            pass k t (with_item tie_id new ts)
            (λ same. no_le k (ap (nat_le k) (sym same) ∙ is)) ∙ rest
      ] refl

  pub put_others : (n : ℕ) → n ≢ k → (ties : List Tie)
      → tie_of n (with_item tie_id new ties) ≡ tie_of n ties
  put_others n apart [] = pass n new [] (λ is. apart (sym is))
  put_others n apart (t ∷ ts) =
      let rest = put_others n apart ts in
      elim (nat_le k t.tie) as (λ b.
      tie_of n (cond b (new ∷ t ∷ ts) (t ∷ with_item tie_id new ts)) ≡ tie_of n (t ∷ ts)) [
        | true ↦ pass n new (t ∷ ts) (λ is. apart (sym is))
        | false ↦ ap (λ o. cond (t.tie == n) (Some t) o) rest
      ]

-- ---- a tie ends

module _ (k : ℕ) where
  pub drop_others : (n : ℕ) → n ≢ k → (ties : List Tie)
      → tie_of n (without_item tie_id k ties) ≡ tie_of n ties
  drop_others n apart [] = refl
  drop_others n apart (t ∷ ts) =
      let rest = drop_others n apart ts in
      elim (cases_eq t.tie k) [
        | inl same ↦
            ap (λ b. tie_of n (cond b (without_item tie_id k ts) (t ∷ without_item tie_id k ts)))
            (eq-eqb t.tie k same)
            ∙ rest ∙ sym (pass n t ts (λ is. apart (sym is ∙ same)))
        | inr differ ↦
            ap (λ b. tie_of n (cond b (without_item tie_id k ts) (t ∷ without_item tie_id k ts)))
            (ne_eqb t.tie k differ)
            ∙ ap (λ o. cond (t.tie == n) (Some t) o) rest
      ]

  -- the others are left, and have other numbers
  pub all_dropped : (P : Tie → Type 0) → (ties : List Tie) → AllOf P ties
      → AllOf (λ t. P t × (t.tie ≢ k)) (without_item tie_id k ties)
  all_dropped P [] all = tt
  all_dropped P (t ∷ ts) all =
      let rest = all_dropped P ts all.1 in
      elim (cases_eq t.tie k) [
        | inl same ↦
            subst (λ b. AllOf (λ t. P t × (t.tie ≢ k))
            (cond b (without_item tie_id k ts) (t ∷ without_item tie_id k ts)))
            (sym (eq-eqb t.tie k same)) rest
        | inr differ ↦
            subst (λ b. AllOf (λ t. P t × (t.tie ≢ k))
            (cond b (without_item tie_id k ts) (t ∷ without_item tie_id k ts)))
            (sym (ne_eqb t.tie k differ)) ((all.0, differ), rest)
      ]

-- ---- a tie is looked up

lacks_none : (n : ℕ) (ties : List Tie) → Lacks tie_id n ties → tie_of n ties ≡ None
lacks_none n [] lacks = refl
lacks_none n (t ∷ ts) lacks = pass n t ts lacks.0 ∙ lacks_none n ts lacks.1

has_some : (low n id : ℕ) (ties : List Tie) → IsTrue (rises_from tie_id low ties)
    → Contains ties (tie_to n id) → tie_of n ties ≡ Some (tie_to n id)
has_some low n id [] rises (k, within, is) = absurd (omega (arith, within))
has_some low n id (t ∷ ts) rises (zero, within, is) =
    here n t ts (ap (λ (x : Tie). x.tie) is) ∙ ap Some is
has_some low n id (t ∷ ts) rises (suc k, within, is) =
    let more = and_right (nat_le low t.tie) (rises_from tie_id (t.tie + 1) ts) rises in
    let rest = has_some (t.tie + 1) n id ts more (k, omega (arith, within), is) in
    elim (cases_eq t.tie n) [
      | inl same ↦
          absurd (none-some (tie_to n id) (sym (lacks_none n ts
          (rises-lacks tie_id (t.tie + 1) n ts more (omega (arith, same)))) ∙ rest))
      | inr other ↦ pass n t ts other ∙ rest
    ]

-- the item that a look-up gave is that of the tie
pub tie_found : (n : ℕ) (ties : List Tie) (found : Option ℕ) → IsTrue (rises_from tie_id 0 ties)
    → MatchOption found (Lacks tie_id n ties) (λ id. Contains ties (tie_to n id))
    → option_map (λ (t : Tie). t.item) (tie_of n ties) ≡ found
tie_found n ties None rises is = ap (option_map (λ (t : Tie). t.item)) (lacks_none n ties is)
tie_found n ties (Some id) rises is =
    ap (option_map (λ (t : Tie). t.item)) (has_some 0 n id ties rises is)
