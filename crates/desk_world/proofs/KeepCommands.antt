-- The command that keeps a view, from the calls of which it consists.
use Rattle.std.proofs.Common.{◌≡◌, ℕ, suc, ◌+◌, ◌^◌, ◌≤◌, true, false, not, List, [], ◌∷◌, refl}
use Rattle.std.proofs.Common.{sym}
use Rattle.std.proofs.Common.{ap, ◌∙◌, Option, None, Some, is_some}
use Rattle.std.specs.Prelude.{option_map}
use Rattle.std.specs.Option.{option_or, option_map_or}
use Rattle.base_items.specs.declared.limits.TheConstants.{MAX_STAMP}
use Rattle.script_words.specs.declared.commands.Command.TheVariants as commands
use Rattle.script_words.specs.declared.commands.LayerWord.{LayerWord}
use Rattle.script_words.specs.declared.commands.LayerWord.TheVariants as words
use Rattle.report_text.specs.declared.faults.Fault.TheVariants as faults
use Rattle.report_text.specs.declared.faults.StepFault.{StepFault}
use Rattle.report_text.specs.declared.replies.Reply.TheVariants.{Quiet}
use Rattle.observe_core.specs.Seen.{Watched}
use Rattle.plain_world.specs.declared.answers.Answer.TheVariants.{Answered}
use Rattle.plain_world.specs.Tables.{Name, Named, entry, has_entry}
use Rattle.plain_world.specs.World as plain
use Rattle.plain_world.specs.Demands as demand
use Rattle.plain_world.specs.Refusals.{breach, unless, can_be_kept}
use Rattle.plain_world.specs.Steps.{Step}
use Rattle.plain_world.specs.Valid.{IsWorld}
use Rattle.plain_world.specs.Views.{layer_of, layers_up_to}
use Rattle.plain_machine.specs.Built.{RefusedBy}
use Rattle.plain_world.proofs.CommandsKept.{commands_kept}
use Rattle.desk_world.specs.declared.tables.KeptMaps.{KeptMaps}
use Rattle.desk_world.specs.declared.tables.ViewRow.{ViewRow}
use Rattle.desk_world.specs.declared.world.World.{World}
use Rattle.desk_world.specs.Faults.{Is}
use Rattle.desk_world.specs.KeptMaps.{KeptLayers, OneSub, OneResidual, Both, layers_in, is_sub}
use Rattle.desk_world.specs.KeptMaps.{ReadsMaps}
use Rattle.desk_world.specs.KeptViews.{views_of}
use Rattle.desk_world.specs.Plain.{plain_of, view_of}
use Rattle.desk_world.specs.Shown.{with_kept}
use Rattle.desk_world.proofs.Demanded.{refused, not_met, met}
use Rattle.desk_world.proofs.KeptShown.{kept_there}
use Rattle.desk_world.proofs.MapCommands.{left}
use Rattle.desk_world.proofs.ViewRows.{entry_as}

-- ---- a view is kept

module _ (world : plain.World) (name : Name) where
  -- it is refused since it isn't there, since it is kept already, or by its layers
  pub keep_refused : (fault : StepFault)
      → Is (breach world (demand.There demand.Views name)) fault
      → RefusedBy world (commands.Keep name) world fault
  keep_refused fault is =
      refused world (commands.Keep name) fault
      (not_met world (demand.There demand.Views name)
      (demand.New demand.KeptViews name ∷ demand.CanBeKept name ∷ []) fault is)

  module _ (there : breach world (demand.There demand.Views name) ≡ None) where
    pub twice_refused : (fault : StepFault)
        → Is (breach world (demand.New demand.KeptViews name)) fault
        → RefusedBy world (commands.Keep name) world fault
    twice_refused fault is =
        refused world (commands.Keep name) fault
        (met world (demand.There demand.Views name)
        (demand.New demand.KeptViews name ∷ demand.CanBeKept name ∷ []) fault there
        (not_met world (demand.New demand.KeptViews name) (demand.CanBeKept name ∷ []) fault is))

    module _ (new : breach world (demand.New demand.KeptViews name) ≡ None) where
      pub layers_refused : (fault : StepFault) → Is (breach world (demand.CanBeKept name)) fault
          → RefusedBy world (commands.Keep name) world fault
      layers_refused fault is =
          refused world (commands.Keep name) fault
          (met world (demand.There demand.Views name)
          (demand.New demand.KeptViews name ∷ demand.CanBeKept name ∷ []) fault there
          (met world (demand.New demand.KeptViews name) (demand.CanBeKept name ∷ []) fault new
          (not_met world (demand.CanBeKept name) [] fault is)))

      pub keep_answered : (later : plain.World) → breach world (demand.CanBeKept name) ≡ None
          → later ≡ with_kept world name → Step world (commands.Keep name) (Answered Quiet) later
      keep_answered later can is = (
        (λ i. option_or (option_or (there i) (option_or (new i) (option_or (can i) None))) None),
        (refl, is),
      )

pub keep_valid : (world later : plain.World) → IsWorld world
    → world.graph.stamps + 2 ^ 24 ≤ MAX_STAMP → (name : Name)
    → Step world (commands.Keep name) (Answered Quiet) later → IsWorld later
keep_valid world later ok enough name step =
    commands_kept world later (commands.Keep name) (Answered Quiet) ok tt (left world enough) step

-- ---- by the rows

module _ {O : Type 0} (watch : O → Watched) (w : World O) (name : Name) where
  abbrev world : plain.World
  world = plain_of watch w

  pub kept_new : (o : Option ViewRow) → entry w.views.rows name ≡ o
      → breach world (demand.New demand.KeptViews name)
      ≡ unless (not (option_map_or (λ (r : ViewRow). is_some r.kept) o false)) (faults.Taken name)
  kept_new o found = ap (λ b. unless (not b) (faults.Taken name)) (kept_there watch w name o found)

-- a view that isn't kept yet is there, and its row has no seats
pub unkept_row : {O : Type 0} (watch : O → Watched) (w : World O) (name : Name) (row : ViewRow)
    → entry w.views.rows name ≡ Some row
    → breach (plain_of watch w) (demand.New demand.KeptViews name) ≡ None → row.kept ≡ None
unkept_row watch w name row found new =
    by row.kept (sym (kept_new watch w name (Some row) found) ∙ new)
  where
    by : {X : Type 0} (o : Option X) → unless (not (is_some o)) (faults.Taken name) ≡ None
        → o ≡ None
    by None none = refl
    by (Some x) none = absurd cc

-- ---- the layers of a view by the rows

pub some_entry : {X : Type 0} (table : List (Named X)) (name : Name) → has_entry table name ≡ true
    → (x : X) × (entry table name ≡ Some x)
some_entry {X} table name = by (entry table name) refl
  where
    by : (o : Option X) → entry table name ≡ o → is_some o ≡ true
        → (x : X) × (entry table name ≡ Some x)
    by None is there = absurd cc
    by (Some x) is there = (x, is)

pub none_entry : {X : Type 0} (table : List (Named X)) (name : Name) → has_entry table name ≡ false
    → entry table name ≡ None
none_entry {X} table name = by (entry table name) refl
  where
    by : (o : Option X) → entry table name ≡ o → is_some o ≡ false → entry table name ≡ None
    by None is none = is
    by (Some x) is none = absurd cc

module _ {O : Type 0} (watch : O → Watched) (w : World O) where
  abbrev views : List (Named plain.View)
  views = (plain_of watch w).views

  -- so many layers at most, from a row on
  pub layers_from : (most : ℕ) (name : Name) (o : Option ViewRow) → entry w.views.rows name ≡ o
      → layers_up_to (suc most) views name
      ≡ option_map_or (λ (r : ViewRow). layer_of r.layer ∷ layers_up_to most views r.below) o []
  layers_from most name o found =
      ap (λ v. option_map_or (λ (v : plain.View). layer_of v.layer ∷ layers_up_to most views
      v.below)
      v []) (entry_as view_of w.views.rows name ∙ ap (option_map view_of) found)
      ∙ by o
    where
      by : (o : Option ViewRow)
          → option_map_or (λ (v : plain.View). layer_of v.layer ∷ layers_up_to most views v.below)
          (option_map view_of o) []
          ≡ option_map_or (λ (r : ViewRow). layer_of r.layer ∷ layers_up_to most views r.below) o []
      by None = refl
      by (Some r) = refl

  module _ (name : Name) where
    can_by : (o : Option ViewRow) → entry w.views.rows name ≡ o
        → breach (plain_of watch w) (demand.CanBeKept name)
        ≡ unless (can_be_kept (option_map_or (λ (r : ViewRow).
        layer_of r.layer ∷ layers_up_to 7 views r.below) o [])) (faults.WrongType name)
    can_by o found =
        ap (λ tower. unless (can_be_kept tower) (faults.WrongType name)) (layers_from 7 name o
        found)

    -- without a row it is the base
    pub base_unkept : entry w.views.rows name ≡ None
        → breach (plain_of watch w) (demand.CanBeKept name) ≡ Some (faults.WrongType name)
    base_unkept found = can_by None found

    module _ (row : ViewRow) (found : entry w.views.rows name ≡ Some row) where
      abbrev below : Option ViewRow
      below = entry w.views.rows row.below

      -- its own layer over that of the row below
      pub two_layers : (layer : LayerWord) → row.layer ≡ layer → (o : Option ViewRow) → below ≡ o
          → layers_up_to 8 views name
          ≡ layer_of layer ∷ option_map_or (λ (r : ViewRow).
          layer_of r.layer ∷ layers_up_to 6 views r.below) o []
      two_layers layer is o under_it =
          layers_from 7 name (Some row) found
          ∙ (λ i. layer_of (is i) ∷ layers_from 6 row.below o under_it i)

      can_over : (layer : LayerWord) → row.layer ≡ layer → (o : Option ViewRow) → below ≡ o
          → breach (plain_of watch w) (demand.CanBeKept name)
          ≡ unless (can_be_kept (layer_of layer ∷ option_map_or (λ (r : ViewRow).
          layer_of r.layer ∷ layers_up_to 6 views r.below) o [])) (faults.WrongType name)
      can_over layer is o under_it =
          ap (λ tower. unless (can_be_kept tower) (faults.WrongType name))
          (two_layers layer is o under_it)

      abbrev Unkept : Type 0
      Unkept = breach (plain_of watch w) (demand.CanBeKept name) ≡ Some (faults.WrongType name)

      abbrev Can : Type 0
      Can = breach (plain_of watch w) (demand.CanBeKept name) ≡ None

      pub reverse_unkept : row.layer ≡ words.Reverse → Unkept
      reverse_unkept is = can_over words.Reverse is below refl

      pub undirect_unkept : row.layer ≡ words.Undirect → Unkept
      undirect_unkept is = can_over words.Undirect is below refl

      pub split_unkept : row.layer ≡ words.Split → Unkept
      split_unkept is = can_over words.Split is below refl

      module _ (nodes arcs : Option Name) (is : row.layer ≡ words.Sub nodes arcs) where
        pub sub_can : below ≡ None → Can
        sub_can none = can_over (words.Sub nodes arcs) is None none

        pub sub_layers : below ≡ None → layers_up_to 8 views name ≡ layers_in (OneSub nodes arcs)
        sub_layers none = two_layers (words.Sub nodes arcs) is None none

        pub sub_unkept : (r : ViewRow) → below ≡ Some r → Unkept
        sub_unkept r some = can_over (words.Sub nodes arcs) is (Some r) some

      module _ (cap flow : Name) (is : row.layer ≡ words.Residual cap flow) where
        pub residual_can : below ≡ None → Can
        residual_can none = can_over (words.Residual cap flow) is None none

        pub residual_layers : below ≡ None
            → layers_up_to 8 views name ≡ layers_in (OneResidual cap flow)
        residual_layers none = two_layers (words.Residual cap flow) is None none

        module _ (r : ViewRow) (some : below ≡ Some r) where
          can_two : (o : Option ViewRow) → entry w.views.rows r.below ≡ o
              → breach (plain_of watch w) (demand.CanBeKept name)
              ≡ unless (can_be_kept (layer_of (words.Residual cap flow) ∷ layer_of r.layer
              ∷ option_map_or (λ (r : ViewRow). layer_of r.layer ∷ layers_up_to 5 views r.below) o
              [])) (faults.WrongType name)
          can_two o third =
              can_over (words.Residual cap flow) is (Some r) some
              ∙ ap (λ tower. unless (can_be_kept (layer_of (words.Residual cap flow)
              ∷ layer_of r.layer ∷ tower)) (faults.WrongType name)) (layers_from 5 r.below o third)

          pub both_can : (nodes arcs : Option Name) → r.layer ≡ words.Sub nodes arcs
              → entry w.views.rows r.below ≡ None → Can
          both_can nodes arcs sub none =
              can_two None none
              ∙ ap (λ layer. unless (can_be_kept (layer_of (words.Residual cap flow)
              ∷ layer_of layer ∷ [])) (faults.WrongType name)) sub

          pub both_layers : (nodes arcs : Option Name) → r.layer ≡ words.Sub nodes arcs
              → entry w.views.rows r.below ≡ None
              → layers_up_to 8 views name ≡ layers_in (Both cap flow nodes arcs)
          both_layers nodes arcs sub none =
              two_layers (words.Residual cap flow) is (Some r) some
              ∙ (λ i. layer_of (words.Residual cap flow) ∷ layer_of (sub i)
              ∷ layers_from 5 r.below None none i)

          pub three_unkept : (t : ViewRow) → entry w.views.rows r.below ≡ Some t → Unkept
          three_unkept t third =
              can_two (Some t) third ∙ by r.layer
            where
              by : (layer : LayerWord) → unless (can_be_kept (layer_of (words.Residual cap flow)
                  ∷ layer_of layer ∷ layer_of t.layer ∷ layers_up_to 5 views t.below))
                  (faults.WrongType name) ≡ Some (faults.WrongType name)
              by words.Reverse = refl
              by words.Undirect = refl
              by words.Split = refl
              by (words.Sub nodes arcs) = refl
              by (words.Residual cap flow) = refl

          pub over_unkept : is_sub r.layer ≡ false → Unkept
          over_unkept other =
              can_over (words.Residual cap flow) is (Some r) some ∙ by r.layer other
            where
              by : (layer : LayerWord) → is_sub layer ≡ false
                  → unless (can_be_kept (layer_of (words.Residual cap flow) ∷ layer_of layer
                  ∷ layers_up_to 6 views r.below)) (faults.WrongType name)
                  ≡ Some (faults.WrongType name)
              by words.Reverse apart = refl
              by words.Undirect apart = refl
              by words.Split apart = refl
              by (words.Sub nodes arcs) apart = absurd cc
              by (words.Residual cap flow) apart = refl

-- a view that reads maps has a row
pub reads_there : {O : Type 0} (watch : O → Watched) (w : World O) (name : Name) (m : KeptMaps)
    → ReadsMaps w.nodes w.arcs (views_of w.views.rows) name m → entry w.views.rows name ≡ None → ⊥
reads_there watch w name m reads found =
    none reads.layers (sym (layers_from watch w 7 name None found) ∙ reads.are)
  where
    none : (layers : KeptLayers) → [] ≡ layers_in layers → ⊥
    none (OneSub nodes arcs) is = cc
    none (OneResidual cap flow) is = cc
    none (Both cap flow nodes arcs) is = cc
