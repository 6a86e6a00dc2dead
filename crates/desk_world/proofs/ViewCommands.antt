-- The commands on views, from the calls of which they consist.
use Rattle.std.proofs.Common.{◌≡◌, ◌+◌, ◌^◌, ◌≤◌, Bool, true, false, not, List, [], ◌∷◌, ◌++◌}
use Rattle.std.proofs.Common.{refl, sym, ap, ◌∙◌, Option, None, Some, is_some}
use Rattle.std.specs.Prelude.{◌||◌, option_map}
use Rattle.std.specs.Option.{option_or}
use Rattle.std.specs.Str.{bytes_eq}
use Rattle.std.proofs.lemmas.Bool.{or_parts, true≢false}
use Rattle.base_items.specs.declared.limits.TheConstants.{MAX_STAMP}
use Rattle.script_words.specs.Valid.{IsValid}
use Rattle.script_words.specs.declared.commands.Command.{Command}
use Rattle.script_words.specs.declared.commands.Command.TheVariants as commands
use Rattle.script_words.specs.declared.commands.LayerWord.{LayerWord}
use Rattle.report_text.specs.declared.faults.Fault.{Fault}
use Rattle.report_text.specs.declared.faults.Fault.TheVariants as faults
use Rattle.report_text.specs.declared.faults.StepFault.{StepFault}
use Rattle.report_text.specs.declared.faults.StepFault.TheVariants.{Refused, Memory}
use Rattle.report_text.specs.declared.replies.Reply.TheVariants.{Quiet}
use Rattle.observe_core.specs.Seen.{Watched}
use Rattle.plain_world.specs.declared.answers.Answer.TheVariants.{Answered}
use Rattle.plain_world.specs.Tables.{Name, entry, has_entry, oldest, without_entry}
use Rattle.plain_world.specs.World as plain
use Rattle.plain_world.specs.Demands as demand
use Rattle.plain_world.specs.Demands.{Demand, demands, layer_demands}
use Rattle.plain_world.specs.Refusals.{breach, unless}
use Rattle.plain_world.specs.Steps.{Step}
use Rattle.plain_world.specs.Valid.{IsWorld}
use Rattle.plain_world.specs.Views.{is_base}
use Rattle.plain_machine.specs.Built.{RefusedBy}
use Rattle.plain_world.proofs.CommandsKept.{commands_kept}
use Rattle.plain_world.proofs.DemandsMet.{demands_met, layer_met}
use Rattle.desk_world.specs.declared.tables.ViewRow.{ViewRow}
use Rattle.desk_world.specs.declared.world.World.{World}
use Rattle.desk_world.specs.Faults.{Is}
use Rattle.desk_world.specs.KeptViews.{NoneStand}
use Rattle.desk_world.specs.Plain.{plain_of, view_of}
use Rattle.desk_world.specs.Shown.{with_view}
use Rattle.desk_world.proofs.Demanded.{fault_of, refused, not_met, met}
use Rattle.desk_world.proofs.KeptTowers.{new_alone}
use Rattle.desk_world.proofs.MapCommands.{left}
use Rattle.desk_world.proofs.ViewRows.{there_as, oldest_as}

-- ---- demands one after another

module _ (world : plain.World) where
  -- the first fault of some demands and of others
  pub faults_of_both : (first second : List Demand)
      → fault_of world (first ++ second)
      ≡ option_or (fault_of world first) (fault_of world second)
  faults_of_both [] second = refl
  faults_of_both (d ∷ ds) second =
      ap (option_or (breach world d)) (faults_of_both ds second)
      ∙ sym (or_assoc (breach world d) (fault_of world ds) (fault_of world second))
    where
      or_assoc : (a b c : Option Fault) → option_or (option_or a b) c ≡ option_or a (option_or b c)
      or_assoc None b c = refl
      or_assoc (Some f) b c = refl

  pub first_not_met : (first second : List Demand) (fault : StepFault)
      → Is (fault_of world first) fault → Is (fault_of world (first ++ second)) fault
  first_not_met first second (Refused f) is =
      faults_of_both first second ∙ ap (λ o. option_or o (fault_of world second)) is
  first_not_met first second Memory is = tt

  pub second_not_met : (first second : List Demand) (fault : StepFault)
      → fault_of world first ≡ None → Is (fault_of world second) fault
      → Is (fault_of world (first ++ second)) fault
  second_not_met first second (Refused f) none is =
      faults_of_both first second ∙ ap (λ o. option_or o (fault_of world second)) none ∙ is
  second_not_met first second Memory none is = tt

  pub both_lists_met : (first second : List Demand) → fault_of world first ≡ None
      → fault_of world second ≡ None → fault_of world (first ++ second) ≡ None
  both_lists_met first second one other =
      faults_of_both first second ∙ (λ i. option_or (one i) (other i))

-- ---- a new view

module _ (world : plain.World) (name : Name) (layer : LayerWord) (below : Name) where
  abbrev asked : Command
  asked = commands.View name layer below

  abbrev pub own_demands : List Demand
  own_demands = layer_demands layer (demand.New demand.Views name ∷ [])

  -- it is refused since the view below isn't there, or by its layer, or since it would be too deep
  pub below_refused : (fault : StepFault)
      → Is (breach world (demand.There demand.Views below)) fault
      → RefusedBy world asked world fault
  below_refused fault is =
      refused world asked fault
      (not_met world (demand.There demand.Views below)
      (own_demands ++ demand.HasLayerLeft below ∷ []) fault is)

  module _ (there : breach world (demand.There demand.Views below) ≡ None) where
    pub layer_refused : (fault : StepFault) → Is (fault_of world own_demands) fault
        → RefusedBy world asked world fault
    layer_refused fault is =
        refused world asked fault
        (met world (demand.There demand.Views below)
        (own_demands ++ demand.HasLayerLeft below ∷ []) fault there
        (first_not_met world own_demands (demand.HasLayerLeft below ∷ []) fault is))

    module _ (own : fault_of world own_demands ≡ None) where
      pub depth_refused : (fault : StepFault) → Is (breach world (demand.HasLayerLeft below)) fault
          → RefusedBy world asked world fault
      depth_refused fault is =
          refused world asked fault
          (met world (demand.There demand.Views below)
          (own_demands ++ demand.HasLayerLeft below ∷ []) fault there
          (second_not_met world own_demands (demand.HasLayerLeft below ∷ []) fault own
          (not_met world (demand.HasLayerLeft below) [] fault is)))

      module _ (deep : breach world (demand.HasLayerLeft below) ≡ None) where
        all_met : fault_of world (demands asked) ≡ None
        all_met =
            let both = both_lists_met world own_demands (demand.HasLayerLeft below ∷ []) own
            (λ i. option_or (deep i) None) in
            λ i. option_or (there i) (both i)

        pub view_answered : (later : plain.World) → later ≡ with_view world name layer below
            → Step world asked (Answered Quiet) later
        view_answered later is = ((λ i. option_or (all_met i) None), (refl, is))

        new_parts : (is_base name ≡ false) × (has_entry world.views name ≡ false)
        new_parts =
            or_parts (is_base name) (has_entry world.views name)
            (layer_met world name below layer
            (demands_met world asked (λ i. option_or (all_met i) None))).1

        -- the name is new to the table, and no view stands on it
        pub view_is_new : has_entry world.views name ≡ false
        view_is_new = new_parts.1

        pub view_is_alone : IsWorld world → NoneStand world.views name
        view_is_alone ok = new_alone world name ok new_parts.0 new_parts.1

-- ---- a view that goes

module _ (world : plain.World) (name : Name) where
  pub unview_refused : (fault : StepFault)
      → Is (breach world (demand.There demand.Views name)) fault
      → RefusedBy world (commands.Unview name) world fault
  unview_refused fault is =
      refused world (commands.Unview name) fault
      (not_met world (demand.There demand.Views name)
      (demand.IsNoBase name ∷ demand.NoneStandsOn name ∷ []) fault is)

  module _ (there : breach world (demand.There demand.Views name) ≡ None) where
    pub base_refused : (fault : StepFault) → Is (breach world (demand.IsNoBase name)) fault
        → RefusedBy world (commands.Unview name) world fault
    base_refused fault is =
        refused world (commands.Unview name) fault
        (met world (demand.There demand.Views name)
        (demand.IsNoBase name ∷ demand.NoneStandsOn name ∷ []) fault there
        (not_met world (demand.IsNoBase name) (demand.NoneStandsOn name ∷ []) fault is))

    module _ (apart : is_base name ≡ false) where
      no_base : breach world (demand.IsNoBase name) ≡ None
      no_base = ap (λ b. unless (not b) (faults.WrongType name)) apart

      pub stood_on_refused : (fault : StepFault)
          → Is (breach world (demand.NoneStandsOn name)) fault
          → RefusedBy world (commands.Unview name) world fault
      stood_on_refused fault is =
          refused world (commands.Unview name) fault
          (met world (demand.There demand.Views name)
          (demand.IsNoBase name ∷ demand.NoneStandsOn name ∷ []) fault there
          (met world (demand.IsNoBase name) (demand.NoneStandsOn name ∷ []) fault no_base
          (not_met world (demand.NoneStandsOn name) [] fault is)))

      pub unview_answered : (later : plain.World)
          → breach world (demand.NoneStandsOn name) ≡ None
          → later ≡ record world { views = without_entry world.views name }
          → Step world (commands.Unview name) (Answered Quiet) later
      unview_answered later alone is = (
        (λ i. option_or (option_or (there i) (option_or (no_base i)
            (option_or (alone i) None))) None),
        (refl, is),
      )

-- both leave a valid world
module _ (world later : plain.World) (ok : IsWorld world)
    (enough : world.graph.stamps + 2 ^ 24 ≤ MAX_STAMP) where
  pub view_valid : (name : Name) (layer : LayerWord) (below : Name)
      → IsValid (commands.View name layer below)
      → Step world (commands.View name layer below) (Answered Quiet) later → IsWorld later
  view_valid name layer below valid step =
      commands_kept world later (commands.View name layer below) (Answered Quiet) ok valid
      (left world enough) step

  pub unview_valid : (name : Name) → Step world (commands.Unview name) (Answered Quiet) later
      → IsWorld later
  unview_valid name step =
      commands_kept world later (commands.Unview name) (Answered Quiet) ok tt (left world enough)
      step

-- ---- by the rows

module _ {O : Type 0} (watch : O → Watched) (w : World O) (name : Name) where
  abbrev world : plain.World
  world = plain_of watch w

  pub view_there : has_entry world.views name ≡ has_entry w.views.rows name
  view_there = there_as view_of w.views.rows name

  no_entry : {X : Type 0} (o : Option X) → is_some o ≡ false → o ≡ None
  no_entry None none = refl
  no_entry (Some x) none = absurd (true≢false none)

  -- a name without a row has no view
  pub no_row : has_entry w.views.rows name ≡ false → entry world.views name ≡ None
  no_row none = no_entry (entry world.views name) (view_there ∙ none)

  -- the base is there, and so is a view with a row
  pub base_there : is_base name ≡ true → breach world (demand.There demand.Views name) ≡ None
  base_there is = ap (λ b. unless (b || has_entry world.views name) (faults.Unknown name)) is

  module _ (apart : is_base name ≡ false) where
    pub row_there : (b : Bool) → has_entry w.views.rows name ≡ b
        → breach world (demand.There demand.Views name) ≡ unless b (faults.Unknown name)
    row_there b has = λ i. unless (apart i || (view_there ∙ has) i) (faults.Unknown name)

    pub row_new : (b : Bool) → has_entry w.views.rows name ≡ b
        → breach world (demand.New demand.Views name) ≡ unless (not b) (faults.Taken name)
    row_new b has = λ i. unless (not (apart i || (view_there ∙ has) i)) (faults.Taken name)

  pub base_taken : is_base name ≡ true
      → breach world (demand.New demand.Views name) ≡ Some (faults.Taken name)
  base_taken is = ap (λ b. unless (not (b || has_entry world.views name)) (faults.Taken name)) is

  -- who stands on it
  pub stands_on : (found : Option Name)
      → found ≡ oldest (λ (row : ViewRow). bytes_eq row.below name) w.views.rows
      → breach world (demand.NoneStandsOn name) ≡ option_map faults.InUse found
  stands_on found is =
      ap (option_map faults.InUse)
      (oldest_as view_of (λ (v : plain.View). bytes_eq v.below name) w.views.rows ∙ sym is)
