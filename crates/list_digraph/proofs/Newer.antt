-- The walk to the place of a stamp, and the parts of the list round it.
use Rattle.std.proofs.Common.{◌≡◌, ℕ, suc, zero, ◌-◌, ◌<◌, ◌≤◌, true, false, cond, ltb, List, []}
use Rattle.std.proofs.Common.{◌∷◌, ◌++◌, length, Some, None, Option, inl, inr, refl, sym, ap, subst}
use Rattle.std.proofs.Common.{◌∙◌, arith}
use Rattle.std.specs.Prelude.{◌==◌}
use Rattle.std.proofs.lemmas.Bool.{or_cases, eqb-true, cases_lt, lt-ltb, le-ltb, true≢false}
use Rattle.std.proofs.lemmas.Option.{none-some, same_Some}
use Rattle.linked_lists.specs.declared.lists.Link.{Link}
use Rattle.linked_lists.specs.Links.{link_at, last_or, AreWithin}
use Rattle.linked_lists.proofs.Ids.{has_here, has_later}
use Rattle.plain_digraph.specs.Lists.{has, first}
use Rattle.list_digraph.specs.Tables.{chain}
use Rattle.list_digraph.specs.Places.{last_newer}

-- a walk that has these ids ahead comes to where it would have come from the start
pub record Walking (table : List Link) (stamp : ℕ → ℕ) (at : ℕ) (behind : Option ℕ)
    (ahead whole : List ℕ) : Type 0 where
  pub same : last_newer stamp at behind ahead ≡ last_newer stamp at None whole
  pub within : AreWithin (length table) ahead

-- the next step of a chain
pub chain_step : (table : List Link) (n id : ℕ) → 0 < n
    → chain table n (Some id) ≡ id ∷ chain table (n - 1) (link_at table id).next
chain_step table zero id some = absurd (omega (arith, some))
chain_step table (suc n) id some = let e : n ≡ suc n - 1 =
    omega arith in ap (λ m. id ∷ chain table m (link_at table id).next) e

pub chain_end : (table : List Link) (n : ℕ) → chain table n None ≡ []
chain_end table zero = refl
chain_end table (suc n) = refl

-- ---- the parts round the place

pub newer : (ℕ → ℕ) → ℕ → List ℕ → List ℕ
newer stamp at [] = []
newer stamp at (id ∷ ids) = cond (ltb (stamp id) at) [] (id ∷ newer stamp at ids)

pub older : (ℕ → ℕ) → ℕ → List ℕ → List ℕ
older stamp at [] = []
older stamp at (id ∷ ids) = cond (ltb (stamp id) at) (id ∷ ids) (older stamp at ids)

module _ (stamp : ℕ → ℕ) (at : ℕ) where
  pub parts : (ids : List ℕ) → ids ≡ newer stamp at ids ++ older stamp at ids
  unfolding newer older
  parts [] = refl
  parts (id ∷ ids) =
      let rest = parts ids in
      elim (ltb (stamp id) at) as (λ b. id ∷ ids ≡ cond b [] (id ∷ newer stamp at ids)
      ++ cond b (id ∷ ids) (older stamp at ids)) [
        | true ↦ refl
        | false ↦ ap (λ l. id ∷ l) rest
      ]

  pub newer_are : (ids : List ℕ) (x : ℕ) → has (newer stamp at ids) x ≡ true → at ≤ stamp x
  unfolding newer
  newer_are [] x h = absurd (true≢false (sym h))
  newer_are (id ∷ ids) x h = elim (cases_lt (stamp id) at) [
    | inl lower ↦
        absurd (true≢false
        (sym h ∙ ap (λ b. has (cond b [] (id ∷ newer stamp at ids)) x)
        (lt-ltb (stamp id) at lower)))
    | inr higher ↦
        let listed : has (id ∷ newer stamp at ids) x ≡ true =
        sym (ap (λ b. has (cond b [] (id ∷ newer stamp at ids)) x)
        (le-ltb (stamp id) at higher)) ∙ h in
        elim (or_cases (id == x) (has (newer stamp at ids) x) listed) [
          | inl here ↦ subst (λ y. at ≤ stamp y) (eqb-true id x here) higher
          | inr later ↦ newer_are ids x later
        ]
  ]

  pub older_is : (ids : List ℕ) (x : ℕ) → first (older stamp at ids) ≡ Some x → stamp x < at
  unfolding older
  older_is [] x e = absurd (none-some x e)
  older_is (id ∷ ids) x e = elim (cases_lt (stamp id) at) [
    | inl lower ↦
        let is : Some id ≡ Some x =
        sym (ap (λ b. first (cond b (id ∷ ids) (older stamp at ids)))
        (lt-ltb (stamp id) at lower)) ∙ e in
        subst (λ y. stamp y < at) (same_Some id x is) lower
    | inr higher ↦
        older_is ids x
        (sym (ap (λ b. first (cond b (id ∷ ids) (older stamp at ids)))
        (le-ltb (stamp id) at higher)) ∙ e)
  ]

  pub last_is : (ids : List ℕ) (behind : Option ℕ)
      → last_newer stamp at behind ids ≡ last_or behind (newer stamp at ids)
  unfolding newer
  last_is [] behind = refl
  last_is (id ∷ ids) behind =
      let rest = last_is ids (Some id) in
      elim (ltb (stamp id) at) as (λ b. cond b behind (last_newer stamp at (Some id) ids)
      ≡ last_or behind (cond b [] (id ∷ newer stamp at ids))) [
        | true ↦ refl
        | false ↦ rest
      ]

-- ---- a walk that stands at an id

module _ (table : List Link) (stamp : ℕ → ℕ) (at : ℕ) (behind next : Option ℕ) (left id : ℕ)
    (whole : List ℕ)
    (was : Walking table stamp at behind (chain table left next) whole) (is : next ≡ Some id)
    (some : 0 < left) where
  abbrev later : List ℕ
  later = chain table (left - 1) (link_at table id).next

  ahead_is : chain table left next ≡ id ∷ later
  ahead_is = ap (chain table left) is ∙ chain_step table left id some

  pub walk_within : id < length table
  walk_within = was.within id (ap (λ l. has l id) ahead_is ∙ has_here later id)

  now : last_newer stamp at behind (id ∷ later) ≡ last_newer stamp at None whole
  now = sym (ap (last_newer stamp at behind) ahead_is) ∙ was.same

  pub walk_stops : stamp id < at → behind ≡ last_newer stamp at None whole
  walk_stops below =
      sym (ap (λ b. cond b behind (last_newer stamp at (Some id) later))
      (lt-ltb (stamp id) at below)) ∙ now

  pub walk_goes : at ≤ stamp id → Walking table stamp at (Some id) later whole
  walk_goes above = record {
    same = sym (ap (λ b. cond b behind (last_newer stamp at (Some id) later))
        (le-ltb (stamp id) at above)) ∙ now;
    within = λ x h. was.within x (ap (λ l. has l x) ahead_is ∙ has_later later id x h);
  }
