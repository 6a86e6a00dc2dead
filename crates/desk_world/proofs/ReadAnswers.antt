-- What the commands that read a whole map answer.
use Rattle.std.proofs.Common.{◌≡◌, ℕ, ℤ, List, [], ◌∷◌, map, refl, sym, ap, subst, Some, None}
use Rattle.std.proofs.Common.{◌∙◌, arith}
use Rattle.std.specs.Prelude.{Ok}
use Rattle.std.specs.Option.{option_or}
use Rattle.base_items.specs.declared.items.ItemSort.{ItemSort}
use Rattle.script_words.specs.declared.commands.Command.{Command}
use Rattle.script_words.specs.declared.commands.Command.TheVariants as commands
use Rattle.script_words.specs.declared.commands.MapType.TheVariants as types
use Rattle.report_text.specs.declared.faults.StepFault.{StepFault}
use Rattle.report_text.specs.declared.replies.NodeLine.{NodeLine}
use Rattle.report_text.specs.declared.replies.Reply.TheVariants as replies
use Rattle.lane_kernels.specs.Counts.{truths}
use Rattle.lane_kernels.specs.Sums.{total_of}
use Rattle.plain_digraph.specs.Items.{rising, IsLive}
use Rattle.plain_digraph.specs.Lists.{AllOf}
use Rattle.plain_digraph.specs.Valid.{IsValid}
use Rattle.observe_core.specs.Held.{Entry, entry_id}
use Rattle.observe_core.specs.Seen.{Seen}
use Rattle.columns.specs.Views.{entry}
use Rattle.value_maps.specs.Entries.{HasValue, values_in}
use Rattle.value_maps.specs.LeastEntry.{IsLeastEntry}
use Rattle.plain_world.specs.Demands as demand
use Rattle.plain_world.specs.Demands.{Demand, demands}
use Rattle.plain_world.specs.Refusals.{breach}
use Rattle.plain_world.specs.Replies.{int_value, is_true, is_item, item_line, least_line}
use Rattle.plain_world.specs.Tables.{Name}
use Rattle.plain_world.specs.World.{World, label_of}
use Rattle.plain_machine.specs.Built.{RefusedBy}
use Rattle.desk_seats.specs.Contents.{ints_in, bools_in, trues_in}
use Rattle.desk_world.specs.Faults.{Is, Answers}
use Rattle.desk_world.specs.Reads.{Holds, HoldsMap, HoldsIndex, trues_from}
use Rattle.desk_world.proofs.ByItem.{ids_of_items, entry_live, all_live, live_rise, Rise}
use Rattle.desk_world.proofs.Demanded.{refused, not_met, met}
use Rattle.desk_world.proofs.WholeMaps.{total_is, count_is, least_is}
use Rattle.desk_world.proofs.TrueItems.{trues_all}

-- ---- a seat that holds a value of each live item

module _ {X : Type 0} (own : ℕ) (read : Seen → List (Entry X)) (world : World) (sort : ItemSort)
    (value : ℕ → X) (s : Seen) (holds : Holds own read world sort value s) where
  held_ids : map entry_id (read s) ≡ rising world.graph sort
  held_ids = ap (map entry_id) holds.items ∙ ids_of_items value (rising world.graph sort)

  pub held_live : IsValid world.graph → (id : ℕ) (v : X) → HasValue id v (read s)
      → IsLive world.graph sort id
  held_live valid id v had = entry_live world.graph sort valid (read s) held_ids (entry id v) had

  pub all_held_live : IsValid world.graph
      → AllOf (λ (e : Entry X). IsLive world.graph sort e.id) (read s)
  all_held_live valid = all_live world.graph sort valid (read s) held_ids

-- ---- a command that asks for a map, and then something else of it

module _ (world : World) (sort : ItemSort) (name : Name) where
  abbrev there : Demand
  there = demand.There (demand.Maps sort) name

  module _ (command : Command) (then : Demand) (asks : demands command ≡ there ∷ then ∷ [])
      (fault : StepFault) where
    pub first_refused : Is (breach world there) fault → RefusedBy world command world fault
    first_refused is =
        refused world command fault (rw asks (not_met world there (then ∷ []) fault is))

    pub second_refused : breach world there ≡ None → Is (breach world then) fault
        → RefusedBy world command world fault
    second_refused first is =
        refused world command fault
        (rw asks (met world there (then ∷ []) fault first (not_met world then [] fault is)))

  module _ (found : breach world there ≡ None) (s : Seen) where
    module _ (typed : breach world (demand.HasType sort types.Ints name) ≡ None)
        (holds : HoldsMap world sort name types.Ints s) where
      abbrev value : ℕ → ℤ
      value = int_value world sort name

      pub total_told : (sum : ℤ) → sum ≡ total_of (values_in (ints_in s))
          → Answers world (commands.Total sort name) world (Ok (replies.Total sum))
      total_told sum is = (
        λ i. option_or (option_or (found i) (option_or (typed i) None)) None,
        (
          ap replies.Total
              (is ∙ ap (λ es. total_of (values_in es)) holds.items
              ∙ total_is value (rising world.graph sort)),
          refl,
        ),
      )

      none_least : (ids : List ℕ) → map (λ id. entry id (value id)) ids ≡ []
          → least_line world sort name ids ≡ None
      none_least [] is = refl
      none_least (id ∷ ids) is = absurd (cc)

      pub no_least : ints_in s ≡ []
          → Answers world (commands.Least sort name) world (Ok (replies.Least None))
      no_least none = (
        λ i. option_or (option_or (found i) (option_or (typed i) None)) None,
        (
          ap replies.Least
              (sym (none_least (rising world.graph sort) (sym holds.items ∙ none))),
          refl,
        ),
      )

      least_of : (ids : List ℕ) (id : ℕ) (v : ℤ) → Rise ids
          → IsLeastEntry (map (λ id. entry id (value id)) ids) id v
          → least_line world sort name ids ≡ Some (v, label_of world sort id)
      least_of [] id v rise is =
          absurd (omega (arith, is.has.1))
      least_of (first ∷ ids) id v rise is =
          let best = least_is value first ids id v rise is in
          λ i. Some ((ap value best.0 ∙ best.1) i, label_of world sort (best.0 i))

      pub least_told : IsValid world.graph → (id : ℕ) (v : ℤ) (label : Name)
          → IsLeastEntry (ints_in s) id v → label ≡ label_of world sort id
          → Answers world (commands.Least sort name) world (Ok (replies.Least (Some (v, label))))
      least_told valid id v label is named =
          let ids = rising world.graph sort in (
            λ i. option_or (option_or (found i) (option_or (typed i) None)) None,
            (
              ap replies.Least
                  (sym (least_of ids id v (live_rise world.graph sort valid)
                  (subst (λ es. IsLeastEntry es id v) holds.items is)
                  ∙ ap (λ n. Some (v, n)) (sym named))),
              refl,
            ),
          )

    pub count_told : breach world (demand.HasType sort types.Bools name) ≡ None
        → HoldsMap world sort name types.Bools s → (count : ℕ)
        → count ≡ truths (values_in (bools_in s))
        → Answers world (commands.Count sort name) world (Ok (replies.Count count))
    count_told typed holds count is = (
      λ i. option_or (option_or (found i) (option_or (typed i) None)) None,
      (
        ap replies.Count
            (is ∙ ap (λ es. truths (values_in es)) holds.items
            ∙ count_is (is_true world sort name) (rising world.graph sort)),
        refl,
      ),
    )

    pub items_told : breach world (demand.IsIndex sort name) ≡ None
        → HoldsIndex world sort name s → (lines : List NodeLine)
        → lines ≡ map (item_line world sort) (trues_from 0 (trues_in s))
        → Answers world (commands.Items sort name) world (Ok (replies.Items lines))
    items_told index holds lines is = (
      λ i. option_or (option_or (found i) (option_or (index i) None)) None,
      (
        ap replies.Items
            (is ∙ ap (map (item_line world sort))
            (ap (trues_from 0) holds.items
            ∙ trues_all (is_item world sort name) (rising world.graph sort))),
        refl,
      ),
    )
