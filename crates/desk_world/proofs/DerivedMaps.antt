-- What the commands that make degrees and indexes answer.
use Rattle.std.proofs.Common.{◌≡◌, Bool, true, false, ◌∷◌, refl, sym, ap, subst, Option, Some, None}
use Rattle.std.proofs.Common.{[]}
use Rattle.std.specs.Prelude.{option_and_then}
use Rattle.std.specs.Option.{option_or, option_map_or}
use Rattle.std.proofs.lemmas.Bool.{true≢false}
use Rattle.std.proofs.lemmas.Option.{none-some}
use Rattle.base_items.specs.declared.items.ItemSort.{ItemSort}
use Rattle.base_items.specs.declared.items.ItemSort.TheVariants as sorts
use Rattle.script_words.specs.declared.commands.Command.{Command}
use Rattle.script_words.specs.declared.commands.Command.TheVariants as command
use Rattle.script_words.specs.declared.commands.Direction.{Direction}
use Rattle.script_words.specs.declared.commands.MapType.{MapType}
use Rattle.script_words.specs.declared.commands.MapType.TheVariants as types
use Rattle.report_text.specs.declared.faults.Fault.TheVariants as faults
use Rattle.report_text.specs.declared.faults.StepFault.{StepFault}
use Rattle.report_text.specs.declared.replies.Reply.TheVariants.{Quiet}
use Rattle.observe_core.specs.Held as held
use Rattle.observe_core.specs.Seen.{Seen, map_seen}
use Rattle.observe_core.specs.Untold.{TracksNothing}
use Rattle.alter_graph.specs.Attaching.{HasNoCounts}
use Rattle.plain_world.specs.Demands as demand
use Rattle.plain_world.specs.Demands.{Demand}
use Rattle.plain_world.specs.Effects.{with_map}
use Rattle.plain_world.specs.Refusals.{breach, unless}
use Rattle.plain_world.specs.Steps.{Step}
use Rattle.plain_world.specs.Tables.{Name}
use Rattle.plain_world.specs.Values.{type_of}
use Rattle.plain_world.specs.Views.{is_type, map_of}
use Rattle.plain_world.specs.World as plain
use Rattle.plain_world.specs.World.{World}
use Rattle.plain_world.specs.declared.answers.Answer.TheVariants.{Answered}
use Rattle.plain_machine.specs.Built.{RefusedBy}
use Rattle.desk_seats.specs.Forms as forms
use Rattle.desk_world.specs.Claims as claims
use Rattle.desk_world.specs.Claims.{Plays}
use Rattle.desk_world.specs.Faults.{Is}
use Rattle.desk_world.specs.Values.{HasType}
use Rattle.desk_world.proofs.Demanded.{not_met, met, refused}

-- ---- seats that were told nothing

-- what is seen of them
abbrev pub new_trues : Seen
new_trues = record (map_seen (held.Values held.Trues [])) { form = forms.trues_form }

abbrev pub new_degrees : Bool → Seen
new_degrees out = record (map_seen (held.Degree out [])) { form = forms.degrees_form }

pub record IsUntold (role : claims.Role) (s : Seen) : Type 0 where
  pub plays : Plays role s
  pub empty : TracksNothing s
  pub counts : HasNoCounts s

pub trues_untold : (s : Seen) → s ≡ new_trues → IsUntold claims.Trues s
trues_untold s is = subst (IsUntold claims.Trues) (sym is) (record {
  plays = record { form = refl; making = refl; kind = refl };
  empty = refl;
  counts = record { added = refl; erased = refl; moved = refl };
})

pub degrees_untold : (out : Bool) (s : Seen) → s ≡ new_degrees out
    → IsUntold (claims.Degrees out) s
degrees_untold out s is = subst (IsUntold (claims.Degrees out)) (sym is) (record {
  plays = record { form = refl; making = refl; kind = refl };
  empty = refl;
  counts = record { added = refl; erased = refl; moved = refl };
})

-- ---- a map of degrees

module _ (world later : World) (name : Name) (way : Direction) where
  abbrev new_name : Demand
  new_name = demand.New (demand.Maps sorts.Node) name

  pub degree_step : breach world new_name ≡ None
      → later ≡ with_map world sorts.Node name (plain.Degrees way)
      → Step world (command.Degree name way) (Answered Quiet) later
  degree_step new made = (ap (λ o. option_or (option_or o None) None) new, (refl, made))

  pub degree_refused : (fault : StepFault) → Is (breach world new_name) fault
      → RefusedBy world (command.Degree name way) world fault
  degree_refused fault is =
      refused world (command.Degree name way) fault (not_met world new_name [] fault is)

-- ---- an index

module _ (world : World) (sort : ItemSort) (index map : Name) where
  abbrev there : Demand
  there = demand.There (demand.Maps sort) map

  abbrev free : Demand
  free = demand.New (demand.Maps sort) index

  abbrev typed : Demand
  typed = demand.HasType sort types.Bools map

  abbrev trues : Command
  trues = command.Trues sort index map

  pub index_step : (later : World) → breach world there ≡ None → breach world free ≡ None
      → breach world typed ≡ None → later ≡ with_map world sort index (plain.Trues map)
      → Step world trues (Answered Quiet) later
  index_step later first second third made = (
    λ i. option_or (option_or (first i) (option_or (second i) (option_or (third i) None))) None,
    (refl, made),
  )

  module _ (fault : StepFault) where
    pub index_unknown : Is (breach world there) fault → RefusedBy world trues world fault
    index_unknown is =
        refused world trues fault (not_met world there (free ∷ typed ∷ []) fault is)

    pub index_taken : breach world there ≡ None → Is (breach world free) fault
        → RefusedBy world trues world fault
    index_taken first is =
        refused world trues fault (met world there (free ∷ typed ∷ []) fault first
        (not_met world free (typed ∷ []) fault is))

    pub index_wrong_type : breach world there ≡ None → breach world free ≡ None
        → Is (breach world typed) fault → RefusedBy world trues world fault
    index_wrong_type first second is =
        refused world trues fault (met world there (free ∷ typed ∷ []) fault first
        (met world free (typed ∷ []) fault second (not_met world typed [] fault is)))

  -- the map is one of bools
  pub bools_typed : breach world typed ≡ None → HasType world sort map types.Bools
  bools_typed none =
      by (option_and_then type_of (map_of world sort map)) (met_test _ none)
    where
      met_test : (b : Bool) → unless b (faults.WrongType map) ≡ None → b ≡ true
      met_test true is = refl
      met_test false is = absurd (none-some (faults.WrongType map) (sym is))

      by : (o : Option MapType) → option_map_or (is_type types.Bools) o false ≡ true
          → o ≡ Some types.Bools
      by None is = absurd (true≢false (sym is))
      by (Some types.Ints) is = absurd (true≢false (sym is))
      by (Some types.Bools) is = refl
      by (Some types.Texts) is = absurd (true≢false (sym is))
