-- A list of ids is walked from its first id to its end.
use Rattle.std.proofs.Common.{◌≡◌, ℕ, ◌<◌, true, List, [], ◌∷◌, ◌++◌, length, Some}
use Rattle.std.proofs.Common.{None, append_assoc, length-append, refl, sym, ◌∙◌, ap, arith}
use Rattle.std.proofs.lemmas.List.{append-nil}
use Rattle.plain_digraph.specs.Lists.{has, first, after, ahead}
use Rattle.plain_views.specs.Shown.{once}
use Rattle.plain_views.proofs.Walks.{onward-rest, has-first, has-after, ahead-first, ahead-after}
use Rattle.view_numbers.specs.Listed.{IsWalking}

pub walk_begins : (ids : List ℕ) → IsWalking ids [] (first ids)
walk_begins ids = record { whole = ahead-first ids; there = λ id. has-first ids id }

-- what is ahead of an id is the id and what is ahead of the next one
pub ahead_is : (ids : List ℕ) (id : ℕ) → once ids ≡ true → has ids id ≡ true
    → ahead ids (Some id) ≡ id ∷ ahead ids (after ids id)
ahead_is ids id differ there =
    onward-rest ids id there ∙ ap (λ xs. id ∷ xs) (sym (ahead-after ids id differ))

pub walk_more : (ids met : List ℕ) (id : ℕ) → once ids ≡ true → IsWalking ids met (Some id)
    → IsWalking ids (met ++ id ∷ []) (after ids id)
walk_more ids met id differ walking = record {
  whole = append_assoc met (id ∷ []) (ahead ids (after ids id))
      ∙ (ap (λ xs. met ++ xs) (sym (ahead_is ids id differ (walking.there id refl)))
      ∙ walking.whole);
  there = λ other. has-after ids id other;
}

pub ahead_shorter : (ids : List ℕ) (id : ℕ) → once ids ≡ true → has ids id ≡ true
    → length (ahead ids (after ids id)) < length (ahead ids (Some id))
ahead_shorter ids id differ there =
    let is = ap length (ahead_is ids id differ there) in omega (arith, is)

pub walk_ends : (ids met : List ℕ) → IsWalking ids met None → met ≡ ids
walk_ends ids met walking = sym (append-nil met) ∙ walking.whole

-- something is left where the walk stands at an id
pub walk_left : (ids met : List ℕ) (id : ℕ) → once ids ≡ true → IsWalking ids met (Some id)
    → length met < length ids
walk_left ids met id differ walking =
    let whole = ap length walking.whole in
    let parts = length-append met (ahead ids (Some id)) in
    let some = ap length (ahead_is ids id differ (walking.there id refl)) in
    omega (arith, whole, parts, some)
