-- Zeros at all arcs, then the flow of each shown one.
use Rattle.std.proofs.Common.{◌≡◌, ℕ, zero, suc, ◌+◌, Bool, true, false, cond, List, [], ◌∷◌, map}
use Rattle.std.proofs.Common.{refl, sym, ap, subst, Some, ◌∙◌, inl, inr, ℤ, pos}
use Rattle.std.proofs.Common.{length, arith, get_or, ◌<◌}
use Rattle.std.specs.Prelude.{◌==◌, ◌⊎◌, position}
use Rattle.std.specs.List.{position_from}
use Rattle.std.specs.Option.{option_map_or}
use Rattle.std.proofs.lemmas.Bool.{or_cases, true≢false}
use Rattle.std.proofs.lemmas.Iterator.Adapters.{position_from-zero}
use Rattle.base_items.specs.declared.items.ItemSort.TheVariants.{Arc}
use Rattle.script_words.specs.declared.commands.MapType.TheVariants.{Ints as IntType}
use Rattle.plain_certificates.specs.Tables.{at}
use Rattle.plain_digraph.specs.Items.{IsLive}
use Rattle.plain_digraph.specs.Lists.{has, AllOf}
use Rattle.plain_views.specs.Marks.{Origin, FromArc, FromNode, arc_origin}
use Rattle.plain_views.specs.Shown.{ShownArc}
use Rattle.plain_views.specs.TowerLaws.{IsLiveOrigin}
use Rattle.plain_views.specs.Towers.{Layer}
use Rattle.plain_world.specs.Effects.{with_map_changed}
use Rattle.plain_world.specs.Replies.{int_value}
use Rattle.plain_world.specs.Tables.{Name}
use Rattle.plain_world.specs.Valid.{IsWorld}
use Rattle.plain_world.specs.World.{World, live}
use Rattle.desk_world.specs.declared.values.Value.TheVariants.{Int}
use Rattle.desk_world.specs.Flows.{with_ints, comes_from, flow_by, with_flow_at}
use Rattle.desk_world.specs.Values.{HasType, put_at}
use Rattle.desk_world.proofs.FlowWrites.{arcs, ints_alike, ints_put, ints_typed, ints_own}

-- ---- zeros at all arcs

-- the map has 0 at each arc but those that are left
pub record AreCleared (world : World) (name : Name) (left : List ℕ) (now : World) : Type 0 where
  pub value : ℕ → ℤ
  pub is : now ≡ with_ints world name value
  pub zero : (q : ℕ) → has (live world Arc) q ≡ true → (value q ≡ pos 0) ⊎ (has left q ≡ true)

module _ (world : World) (name : Name) where
  pub cleared_first : HasType world Arc name IntType → IsWorld world
      → AreCleared world name (live world Arc) world
  cleared_first typed ok = record {
    value = int_value world Arc name;
    is = sym (ints_own world name typed ok);
    zero = λ q there. inr there;
  }

  pub cleared_next : (id : ℕ) (left : List ℕ) (now later : World)
      → AreCleared world name (id ∷ left) now → has (live world Arc) id ≡ true
      → later ≡ with_map_changed now Arc name (put_at (Int (pos 0)) id)
      → AreCleared world name left later
  cleared_next id left now later was there wrote = record {
    value = λ q. cond (id == q) (pos 0) (was.value q);
    is = wrote ∙ ap (λ w. with_map_changed w Arc name (put_at (Int (pos 0)) id)) was.is
        ∙ ints_put world name was.value id (pos 0) there;
    zero = λ q listed. by q (was.zero q listed);
  }
    where
      stays : (b : Bool) (x : ℤ) → x ≡ pos 0 → cond b (pos 0) x ≡ pos 0
      stays true x is = refl
      stays false x is = is

      by : (q : ℕ) → (was.value q ≡ pos 0) ⊎ (has (id ∷ left) q ≡ true)
          → (cond (id == q) (pos 0) (was.value q) ≡ pos 0) ⊎ (has left q ≡ true)
      by q (inl is) = inl (stays (id == q) (was.value q) is)
      by q (inr among) = elim (or_cases (id == q) (has left q) among) [
        | inl same ↦ inl (ap (λ b. cond b (pos 0) (was.value q)) same)
        | inr more ↦ inr more
      ]

  pub cleared_last : (now : World) → AreCleared world name [] now
      → now ≡ with_ints world name (λ _. pos 0)
  cleared_last now was =
      was.is ∙ ints_alike world name was.value (λ _. pos 0) (λ q listed. by q (was.zero q listed))
    where
      by : (q : ℕ) → (was.value q ≡ pos 0) ⊎ (has [] q ≡ true) → was.value q ≡ pos 0
      by q (inl is) = is
      by q (inr none) = absurd (true≢false (sym none))

  pub cleared_typed : (left : List ℕ) (now : World) → AreCleared world name left now
      → HasType world Arc name IntType → HasType now Arc name IntType
  cleared_typed left now was typed =
      subst (λ w. HasType w Arc name IntType) (sym was.is) (ints_typed world name typed was.value)

-- ---- flows, from the last arc on

module _ {M : Type 0} (tower : List (Layer M)) (world : World) (name : Name) where
  pub flow_next : (id : ℕ) (x : ℤ) (arcs : List ℕ) (flow : List ℤ) (now later : World)
      → ((arc : ℕ) → IsLive world.graph Arc arc → has (live world Arc) arc ≡ true)
      → IsLiveOrigin world.graph (arc_origin tower id)
      → now ≡ with_ints world name (flow_by tower arcs flow)
      → later ≡ with_flow_at now name (arc_origin tower id) x
      → later ≡ with_ints world name (flow_by tower (id ∷ arcs) (x ∷ flow))
  flow_next id x arcs flow now later listed lives was wrote =
      wrote ∙ ap (λ w. with_flow_at w name (arc_origin tower id) x) was
      ∙ by (arc_origin tower id) lives
    where
      by : (o : Origin) → IsLiveOrigin world.graph o
          → with_flow_at (with_ints world name (flow_by tower arcs flow)) name o x
          ≡ with_ints world name (λ q. cond (comes_from q o) x (flow_by tower arcs flow q))
      by (FromArc arc) lives =
          ints_put world name (flow_by tower arcs flow) arc x (listed arc lives)
      by (FromNode node) lives = refl

-- ---- the flow on the base

module _ {M : Type 0} (tower : List (Layer M)) (arc : ℕ) where
  abbrev comes : ShownArc → Bool
  comes shown = comes_from arc (arc_origin tower shown.id)

  found : (arcs : List ShownArc) (flow : List ℤ) (i : ℕ) (f : ℕ → ℤ) → length flow ≡ length arcs
      → ((k : ℕ) → f (i + k) ≡ at (pos 0) flow k)
      → option_map_or f (position_from comes i arcs) (pos 0)
      ≡ flow_by tower (map (λ shown. shown.id) arcs) flow arc
  found [] flow i f size same = refl
  found (shown ∷ arcs) [] i f size same = absurd (omega (arith, size))
  found (shown ∷ arcs) (x ∷ flow) i f size same =
      let first : f i ≡ x = ap f (omega arith) ∙ same 0 in
      let rest = found arcs flow (i + 1) f (omega (arith, size))
      (λ k. ap f (omega arith) ∙ same (suc k)) in
      elim (comes shown) as (λ b.
      option_map_or f (cond b (Some i) (position_from comes (i + 1) arcs)) (pos 0)
      ≡ cond b x (flow_by tower (map (λ shown. shown.id) arcs) flow arc)) [
        | true ↦ first
        | false ↦ rest
      ]

  -- the first shown arc that comes from it has its flow
  pub by_position : (arcs : List ShownArc) (flow : List ℤ) → length flow ≡ length arcs
      → option_map_or (at (pos 0) flow) (position comes arcs) (pos 0)
      ≡ flow_by tower (map (λ shown. shown.id) arcs) flow arc
  by_position arcs flow size =
      ap (λ o. option_map_or (at (pos 0) flow) o (pos 0)) (position_from-zero comes arcs)
      ∙ found arcs flow 0 (at (pos 0) flow) size (λ k. ap (at (pos 0) flow) (omega arith))

-- what holds of all of a list holds at each place
pub all_of_at : (P : ℕ → Type 0) (xs : List ℕ) (k : ℕ) → k < length xs → AllOf P xs
    → P (get_or xs k 0)
all_of_at P [] k below all = absurd (omega (arith, below))
all_of_at P (x ∷ xs) zero below all = all.0
all_of_at P (x ∷ xs) (suc k) below all = all_of_at P xs k (omega (arith, below)) all.1
