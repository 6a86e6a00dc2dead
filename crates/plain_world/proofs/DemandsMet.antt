-- What holds where the demands of a command are met.
use Rattle.std.proofs.Common.{◌≡◌, ◌+◌, ◌≤◌, ℕ, Bool, true, false, cond, not, refl, sym, ◌∙◌}
use Rattle.std.proofs.Common.{ap, List, [], ◌∷◌, map, Option, None, Some, is_some}
use Rattle.std.proofs.Common.{All}
use Rattle.std.specs.Prelude.{find, option_map, option_and_then, nat_le, unwrap_or}
use Rattle.std.specs.Option.{option_or}
use Rattle.std.specs.Str.{bytes_eq}
use Rattle.std.proofs.lemmas.Bool.{true≢false, or_parts, not-true, leb-true}
use Rattle.std.proofs.lemmas.Slice.Eq.{bytes_eq-Decides}
use Rattle.base_items.specs.declared.limits.TheConstants.{MAX_NODES, MAX_ARCS}
use Rattle.std.proofs.lemmas.Option.{none-some}
use Rattle.base_items.specs.declared.items.ItemSort.{ItemSort}
use Rattle.base_items.specs.declared.items.ItemSort.TheVariants.{Node, Arc}
use Rattle.lgf_file.specs.Documents.{label as label_column}
use Rattle.script_words.specs.declared.commands.Command.{Command}
use Rattle.script_words.specs.declared.commands.Command.TheVariants as commands
use Rattle.script_words.specs.declared.commands.LayerWord.{LayerWord}
use Rattle.script_words.specs.declared.commands.LayerWord.TheVariants as words
use Rattle.report_text.specs.declared.faults.Fault.{Fault}
use Rattle.report_text.specs.declared.faults.Fault.TheVariants as faults
use Rattle.plain_digraph.specs.Copies.{Copy}
use Rattle.plain_digraph.specs.Items.{count_of}
use Rattle.plain_digraph.specs.Alterations.{Alteration, refusable_steps, vetoer}
use Rattle.plain_world.specs.Tables.{Name, Named, has_entry}
use Rattle.plain_world.specs.World.{World, Held, Guard, View, attached, live}
use Rattle.plain_world.specs.World.{label_of}
use Rattle.plain_world.specs.Views.{reads}
use Rattle.plain_world.specs.Demands as demand
use Rattle.plain_world.specs.Demands.{Demand, demands, is_there, flow_demands, item_named}
use Rattle.plain_world.specs.Altering.{item_at, alteration_of}
use Rattle.plain_world.specs.Refusals.{unless, first_of, breach, refusal_of, veto_of, is_index_of}
use Rattle.plain_world.specs.Refusals.{refuses}
use Rattle.plain_world.specs.Valid.{IsWorld}
use Rattle.plain_world.proofs.Named.{items_named}
use Rattle.plain_world.proofs.Attaching.{IsUnused}
use Rattle.plain_world.proofs.Passing.{Passes, none_vetoes}
use Rattle.plain_world.proofs.TableChanges.{all_fail}
use Rattle.plain_world.proofs.WorldParts.{LayerOk}

-- ---- demands that are met

pub or_none : (o p : Option Fault) → option_or o p ≡ None → (o ≡ None) × (p ≡ None)
or_none None p none = (refl, none)
or_none (Some fault) p none = absurd (none-some fault (sym none))

pub met : (test : Bool) (fault : Fault) → unless test fault ≡ None → test ≡ true
met true fault none = refl
met false fault none = absurd (none-some fault (sym none))

pub new_name : (test : Bool) (fault : Fault) → unless (not test) fault ≡ None → test ≡ false
new_name test fault none = not-true test (met (not test) fault none)

-- none of the demands has a fault
abbrev pub AreMet : World → List Demand → Type 0
AreMet world [] = Unit {0}
AreMet world (d ∷ ds) = (breach world d ≡ None) × AreMet world ds

all_met : (world : World) (ds : List Demand) → first_of (map (breach world) ds) ≡ None
    → AreMet world ds
all_met world [] none = tt
all_met world (d ∷ ds) none =
    let parts = or_none (breach world d) (first_of (map (breach world) ds)) none in
    (parts.0, all_met world ds parts.1)

pub demands_met : (world : World) (command : Command) → refusal_of world command ≡ None
    → AreMet world (demands command)
demands_met world command none =
    all_met world (demands command)
    (or_none (first_of (map (breach world) (demands command)))
    (option_and_then (veto_of world) (alteration_of world command)) none).0

-- ---- maps

pub new_map_name : (world : World) (sort : ItemSort) (name : Name)
    → breach world (demand.New (demand.Maps sort) name) ≡ None
    → (bytes_eq name label_column ≡ false) × (has_entry (attached world sort).maps name ≡ false)
new_map_name world sort name none =
    or_parts (bytes_eq name label_column) (has_entry (attached world sort).maps name)
    (new_name _ _ none)

-- nothing reads the map
pub unread : (world : World) (sort : ItemSort) (name : Name)
    → breach world (demand.NoneReads sort name) ≡ None
    → All (λ e. reads sort name e.value.layer ≡ false) world.views
    × All (λ e. is_index_of name e.value ≡ false) (attached world sort).maps
unread world sort name none =
    let views = find (λ (e : Named View). reads sort name e.value.layer) world.views in
    let maps = find (λ (e : Named Held). is_index_of name e.value) (attached world sort).maps in
    let parts = neither views maps none in (
      all_fail (λ (e : Named View). reads sort name e.value.layer) world.views parts.0,
      all_fail (λ (e : Named Held). is_index_of name e.value) (attached world sort).maps parts.1,
    )
  where
    neither : (views : Option (Named View)) (maps : Option (Named Held))
        → option_map faults.InUse (option_or (option_map (λ e. e.name) views)
        (option_map (λ e. e.name) maps)) ≡ None → (views ≡ None) × (maps ≡ None)
    neither None None none = (refl, refl)
    neither None (Some e) none = absurd (none-some _ (sym none))
    neither (Some e) maps none = absurd (none-some _ (sym none))

pub no_view_on : (world : World) (view : Name) → breach world (demand.NoneStandsOn view) ≡ None
    → find (λ (e : Named View). bytes_eq e.value.below view) world.views ≡ None
no_view_on world view none =
    nobody (find (λ (e : Named View). bytes_eq e.value.below view) world.views) none
  where
    nobody : (o : Option (Named View)) → option_map faults.InUse (option_map (λ e. e.name) o) ≡ None
        → o ≡ None
    nobody None none = refl
    nobody (Some e) none = absurd (none-some _ (sym none))

-- ---- views

-- what a layer demands is what holds of it
pub layer_met : (world : World) (view below : Name) (layer : LayerWord)
    → AreMet world (demands (commands.View view layer below))
    → ((is_there world demand.Views below ≡ true)
    × (is_there world demand.Views view ≡ false)
    × LayerOk world.nodes.maps world.arcs.maps layer)
layer_met world view below words.Reverse are = (met _ _ are.0, new_name _ _ are.1.0, tt)
layer_met world view below words.Undirect are = (met _ _ are.0, new_name _ _ are.1.0, tt)
layer_met world view below words.Split are = (met _ _ are.0, new_name _ _ are.1.0, tt)
layer_met world view below (words.Residual cap flow) are = (
  met _ _ are.0,
  new_name _ _ are.1.1.1.0,
  (met _ _ are.1.1.1.1.0, met _ _ are.1.1.1.1.1.0),
)
layer_met world view below (words.Sub None None) are =
    (met _ _ are.0, new_name _ _ are.1.0, (tt, tt))
layer_met world view below (words.Sub (Some nodes) None) are =
    (met _ _ are.0, new_name _ _ are.1.1.0, (met _ _ are.1.1.1.0, tt))
layer_met world view below (words.Sub None (Some arcs)) are =
    (met _ _ are.0, new_name _ _ are.1.1.0, (tt, met _ _ are.1.1.1.0))
layer_met world view below (words.Sub (Some nodes) (Some arcs)) are = (
  met _ _ are.0,
  new_name _ _ are.1.1.1.0,
  (met _ _ are.1.1.1.1.0, met _ _ are.1.1.1.1.1.0),
)

-- ---- alterations

-- a snapshot that is there and valid has a copy
pub copy_there : (o : Option (Option Copy)) (f : Fault) → is_some o ≡ true
    → option_and_then (λ copy. unless (is_some copy) f) o ≡ None
    → (copy : Copy) × (o ≡ Some (Some copy))
copy_there None f some valid = absurd (true≢false (sym some))
copy_there (Some None) f some valid = absurd (none-some f (sym valid))
copy_there (Some (Some copy)) f some valid = (copy, refl)

pub unused : (world : World) (sort : ItemSort) (name : Name) → IsWorld world
    → breach world (demand.New (demand.Labels sort) name) ≡ None
    → IsUnused (attached world sort).labels name
unused world sort name ok none id is =
    true≢false (sym (ap is_some (items_named world sort id name ok is)) ∙ new_name _ _ none)

pub room : (world : World) (nodes arcs : ℕ) → breach world (demand.HasRoom nodes arcs) ≡ None
    → (count_of world.graph Node + nodes ≤ MAX_NODES) × (count_of world.graph Arc + arcs ≤ MAX_ARCS)
room world nodes arcs none =
    let parts = or_none (unless (nat_le (count_of world.graph Node + nodes) MAX_NODES) _)
    (unless (nat_le (count_of world.graph Arc + arcs) MAX_ARCS) _) none in (
      leb-true (count_of world.graph Node + nodes) MAX_NODES (met _ _ parts.0),
      leb-true (count_of world.graph Arc + arcs) MAX_ARCS (met _ _ parts.1),
    )

-- an alteration that isn't vetoed passes all guards
pub passing : (world : World) (alteration : Alteration) → veto_of world alteration ≡ None
    → Passes world.guards world.graph (refusable_steps world.graph alteration)
passing world alteration none =
    none_vetoes world.guards world.graph (refusable_steps world.graph alteration)
    (unnamed
    (vetoer refuses world.guards world.graph (refusable_steps world.graph alteration)) none)
  where
    unnamed : (o : Option (Named Guard))
        → option_map (λ (guard : Named Guard). faults.Vetoed guard.name) o ≡ None → o ≡ None
    unnamed None none = refl
    unnamed (Some guard) none = absurd (none-some (faults.Vetoed guard.name) (sym none))

-- the item that is found by a name has it
found_passes : (test : ℕ → Bool) (xs : List ℕ) → is_some (find test xs) ≡ true
    → test (unwrap_or (find test xs) 0) ≡ true
found_passes test [] some = absurd (true≢false (sym some))
found_passes test (x ∷ xs) some =
    let rest = found_passes test xs in
    elim (test x) as (λ b. test x ≡ b → is_some (cond b (Some x) (find test xs)) ≡ true
    → test (unwrap_or (cond b (Some x) (find test xs)) 0) ≡ true) [
      | true ↦ λ passes is. passes
      | false ↦ λ fails is. rest is
    ] refl some

-- nodes of different names differ
pub apart : (world : World) (u v : Name) → is_some (item_named world Node u) ≡ true
    → is_some (item_named world Node v) ≡ true → bytes_eq u v ≡ false
    → item_at world Node u ≡ item_at world Node v → ⊥
apart world u v there also differ same =
    let named : (name : Name) → is_some (item_named world Node name) ≡ true
    → label_of world Node (item_at world Node name) ≡ name = λ name some.
    (bytes_eq-Decides (label_of world Node (item_at world Node name)) name).0
    (found_passes (λ id. bytes_eq (label_of world Node id) name) (live world Node) some) in
    let alike : u ≡ v = sym (named u there) ∙ (ap (label_of world Node) same ∙ named v also) in
    true≢false (sym ((bytes_eq-Decides u v).1 alike) ∙ differ)
