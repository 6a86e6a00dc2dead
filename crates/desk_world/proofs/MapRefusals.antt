-- Why a command on maps is refused.
use Rattle.std.proofs.Common.{◌≡◌, ℕ, ◌+◌, ◌<◌, ◌^◌, Bool, true, false, [], ◌∷◌, ap, sym}
use Rattle.std.proofs.Common.{None, Some, subst, refl, arith, is_some}
use Rattle.std.specs.Prelude.{not, unwrap_or}
use Rattle.std.specs.Str.{bytes_eq}
use Rattle.std.proofs.lemmas.Bool.{or_parts}
use Rattle.std.proofs.lemmas.Option.{none-some}
use Rattle.base_items.specs.declared.items.ItemSort.{ItemSort}
use Rattle.base_items.specs.declared.items.ItemSort.TheVariants as sorts
use Rattle.lgf_file.specs.Documents.{label as label_column}
use Rattle.script_words.specs.declared.commands.Command.{Command}
use Rattle.script_words.specs.declared.commands.Command.TheVariants as command
use Rattle.script_words.specs.declared.commands.MapType.{MapType}
use Rattle.report_text.specs.declared.faults.Fault.TheVariants as faults
use Rattle.report_text.specs.declared.faults.StepFault.{StepFault}
use Rattle.plain_digraph.specs.Digraph.{Digraph}
use Rattle.plain_digraph.specs.Items.{IsLive}
use Rattle.plain_world.specs.Tables.{Name, has_entry}
use Rattle.plain_world.specs.World.{World, attached}
use Rattle.plain_world.specs.Demands as demand
use Rattle.plain_world.specs.Demands.{Demand, is_there, item_named}
use Rattle.plain_world.specs.Refusals.{breach, unless}
use Rattle.plain_world.specs.Valid.{IsWorld}
use Rattle.plain_world.specs.Values.{spells}
use Rattle.plain_world.proofs.TablesKept.{named_live}
use Rattle.plain_machine.specs.Built.{RefusedBy}
use Rattle.desk_world.specs.Faults.{Is}
use Rattle.desk_world.specs.Values.{HasType, new_map_command}
use Rattle.desk_world.proofs.Demanded.{not_met, met, refused}
use Rattle.desk_world.proofs.MapCommands.{asked_type}

module _ (world : World) (sort : ItemSort) (name : Name) (fault : StepFault) where
  pub new_map_refused : (type : MapType)
      → Is (breach world (demand.New (demand.Maps sort) name)) fault
      → RefusedBy world (new_map_command sort name type) world fault
  new_map_refused type is = by sort is
    where
      by : (x : ItemSort) → Is (breach world (demand.New (demand.Maps x) name)) fault
          → RefusedBy world (new_map_command x name type) world fault
      by sorts.Node is =
          refused world (command.NodeMap name type) fault
          (not_met world (demand.New (demand.Maps sorts.Node) name) [] fault is)
      by sorts.Arc is =
          refused world (command.ArcMap name type) fault
          (not_met world (demand.New (demand.Maps sorts.Arc) name) [] fault is)

  pub drop_unknown : Is (breach world (demand.There (demand.Maps sort) name)) fault
      → RefusedBy world (command.DropMap sort name) world fault
  drop_unknown is =
      refused world (command.DropMap sort name) fault
      (not_met world (demand.There (demand.Maps sort) name)
      (demand.IsNoLabel name ∷ demand.NoneReads sort name ∷ []) fault is)

  pub drop_label : breach world (demand.There (demand.Maps sort) name) ≡ None
      → bytes_eq name label_column ≡ true → Is (Some (faults.WrongType name)) fault
      → RefusedBy world (command.DropMap sort name) world fault
  drop_label there is wrong =
      refused world (command.DropMap sort name) fault
      (met world (demand.There (demand.Maps sort) name)
      (demand.IsNoLabel name ∷ demand.NoneReads sort name ∷ []) fault there
      (not_met world (demand.IsNoLabel name) (demand.NoneReads sort name ∷ []) fault
      (subst (λ b. Is (unless (not b) (faults.WrongType name)) fault) (sym is) wrong)))

  pub drop_used : breach world (demand.There (demand.Maps sort) name) ≡ None
      → bytes_eq name label_column ≡ false → Is (breach world (demand.NoneReads sort name)) fault
      → RefusedBy world (command.DropMap sort name) world fault
  drop_used there apart used =
      refused world (command.DropMap sort name) fault
      (met world (demand.There (demand.Maps sort) name)
      (demand.IsNoLabel name ∷ demand.NoneReads sort name ∷ []) fault there
      (met world (demand.IsNoLabel name) (demand.NoneReads sort name ∷ []) fault
      (ap (λ b. unless (not b) (faults.WrongType name)) apart)
      (not_met world (demand.NoneReads sort name) [] fault used)))

module _ (world : World) (sort : ItemSort) (map item text : Name) (fault : StepFault) where
  abbrev set : Command
  set = command.Set sort map item text

  abbrev there : Demand
  there = demand.There (demand.Maps sort) map

  abbrev listed : Demand
  listed = demand.There (demand.Labels sort) item

  abbrev valued : Demand
  valued = demand.HasValues sort map

  abbrev spelled : Demand
  spelled = demand.Spells sort map item text

  pub set_unknown_map : Is (breach world there) fault → RefusedBy world set world fault
  set_unknown_map is =
      refused world set fault
      (not_met world there (listed ∷ valued ∷ spelled ∷ []) fault is)

  pub set_unknown_item : breach world there ≡ None → Is (breach world listed) fault
      → RefusedBy world set world fault
  set_unknown_item first is =
      refused world set fault (met world there (listed ∷ valued ∷ spelled ∷ []) fault first
      (not_met world listed (valued ∷ spelled ∷ []) fault is))

  pub set_wrong_type : breach world there ≡ None → breach world listed ≡ None
      → Is (breach world valued) fault → RefusedBy world set world fault
  set_wrong_type first second is =
      refused world set fault (met world there (listed ∷ valued ∷ spelled ∷ []) fault first
      (met world listed (valued ∷ spelled ∷ []) fault second
      (not_met world valued (spelled ∷ []) fault is)))

  pub set_bad_value : (type : MapType) → HasType world sort map type
      → breach world there ≡ None → breach world listed ≡ None → breach world valued ≡ None
      → Is (unless (spells type text) (faults.BadValue item text)) fault
      → RefusedBy world set world fault
  set_bad_value type typed first second third is =
      refused world set fault (met world there (listed ∷ valued ∷ spelled ∷ []) fault first
      (met world listed (valued ∷ spelled ∷ []) fault second
      (met world valued (spelled ∷ []) fault third
      (not_met world spelled [] fault
      (subst (λ o. Is o fault) (sym (asked_type world sort map item text type typed)) is)))))

-- ---- what the demands that are met say

-- a new name is that of no map
pub new_absent : (world : World) (sort : ItemSort) (name : Name)
    → breach world (demand.New (demand.Maps sort) name) ≡ None
    → has_entry (attached world sort).maps name ≡ false
new_absent world sort name new =
    (or_parts (bytes_eq name label_column) (has_entry (attached world sort).maps name)
    (free (is_there world (demand.Maps sort) name) new)).1
  where
    free : (b : Bool) → unless (not b) (faults.Taken name) ≡ None → b ≡ false
    free false is = refl
    free true is = absurd (none-some (faults.Taken name) (sym is))

-- an item that has a name is live
pub item_live : (world : World) (sort : ItemSort) (name : Name) (id : ℕ) → IsWorld world
    → item_named world sort name ≡ Some id → IsLive world.graph sort id
item_live world sort name id ok named =
    subst (IsLive world.graph sort) (ap (λ o. unwrap_or o 0) named)
    (named_live world sort name ok.graph_ok (ap is_some named))

-- no stamp is taken where the digraph is as before
pub no_stamps : (g h : Digraph) → h ≡ g → h.stamps < g.stamps + 2 ^ 24
no_stamps g h is = subst (λ (d : Digraph). d.stamps < g.stamps + 2 ^ 24) (sym is) (omega arith)
