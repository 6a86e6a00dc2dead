-- What a change of a map's type answers, and the calls by which it is made.
use Rattle.std.proofs.Common.{◌≡◌, ℕ, List, [], ◌∷◌}
use Rattle.std.proofs.Common.{refl, sym, ap, subst, Option, Some, None, ◌∙◌}
use Rattle.std.specs.Prelude.{option_map, Result, Ok}
use Rattle.std.specs.Option.{option_or}
use Rattle.std.proofs.lemmas.Option.{none-some, same_Some}
use Rattle.base_items.specs.declared.items.ItemSort.{ItemSort}
use Rattle.script_words.specs.declared.commands.Command.TheVariants as command
use Rattle.script_words.specs.declared.commands.MapType.{MapType}
use Rattle.report_text.specs.declared.faults.StepFault.{StepFault}
use Rattle.report_text.specs.declared.replies.Reply.TheVariants.{Quiet}
use Rattle.base_items.specs.declared.items.Fact.{Fact}
use Rattle.plain_digraph.specs.Items.{facts}
use Rattle.observe_core.specs.Seen.{Seen, Watched}
use Rattle.observe_core.specs.Conditions.{Answers as Told}
use Rattle.observe_core.specs.Told.{built}
use Rattle.observe_core.specs.declared.kinds.Veto.{Veto}
use Rattle.observe_core.specs.Untold.{TracksNothing}
use Rattle.notify_chain.specs.Seats.{find_seat, seat_seen}
use Rattle.alter_graph.specs.Attaching.{HasNoCounts}
use Rattle.alter_graph.specs.Chains.{chains_seen, seats_in}
use Rattle.alter_graph.specs.Lending.{MayWrite, graph_with}
use Rattle.alter_graph.specs.State.{AlterOf}
use Rattle.alter_graph.proofs.Attached.{built_stands}
use Rattle.plain_world.specs.Demands as demand
use Rattle.plain_world.specs.Effects.{with_map_changed, new_map, retyped}
use Rattle.plain_world.specs.Refusals.{breach}
use Rattle.plain_world.specs.Steps.{Step}
use Rattle.plain_world.specs.Tables.{Name}
use Rattle.plain_world.specs.Values.{spells, text_at}
use Rattle.plain_world.specs.World as plain
use Rattle.plain_world.specs.declared.answers.Answer.TheVariants.{Answered}
use Rattle.plain_machine.specs.Built.{RefusedBy}
use Rattle.plain_digraph.specs.Valid.{IsValid}
use Rattle.desk_world.specs.declared.world.World.{World}
use Rattle.desk_world.specs.Claims.{Plays, role_of}
use Rattle.desk_world.specs.Faults.{Is}
use Rattle.desk_world.specs.InStep.{AreInStep}
use Rattle.desk_world.specs.Plain.{plain_of, held_by}
use Rattle.desk_world.specs.Retyping.{IsMapOf, Reseated, text_by}
use Rattle.desk_world.specs.Values.{kind_for}
use Rattle.desk_world.proofs.Demanded.{not_met, met, refused}
use Rattle.desk_world.proofs.MapsComing.{built_plays, held_new}
use Rattle.desk_world.proofs.Seated.{seen_there}

-- ---- the answers

module _ (world : plain.World) (sort : ItemSort) (map : Name) (type : MapType) where
  abbrev pub there : demand.Demand
  there = demand.There (demand.Maps sort) map

  abbrev pub own : demand.Demand
  own = demand.HasValues sort map

  abbrev pub unread : demand.Demand
  unread = demand.NoneReads sort map

  abbrev pub spelt : demand.Demand
  spelt = demand.AllSpell sort map type

  module _ (cause : StepFault) where
    pub retype_unknown : Is (breach world there) cause
        → RefusedBy world (command.Retype sort map type) world cause
    retype_unknown is =
        refused world (command.Retype sort map type) cause
        (not_met world there (own ∷ unread ∷ spelt ∷ []) cause is)

    pub retype_valueless : breach world there ≡ None → Is (breach world own) cause
        → RefusedBy world (command.Retype sort map type) world cause
    retype_valueless found is =
        refused world (command.Retype sort map type) cause
        (met world there (own ∷ unread ∷ spelt ∷ []) cause found
        (not_met world own (unread ∷ spelt ∷ []) cause is))

    pub retype_read : breach world there ≡ None → breach world own ≡ None
        → Is (breach world unread) cause
        → RefusedBy world (command.Retype sort map type) world cause
    retype_read found has is =
        refused world (command.Retype sort map type) cause
        (met world there (own ∷ unread ∷ spelt ∷ []) cause found
        (met world own (unread ∷ spelt ∷ []) cause has
        (not_met world unread (spelt ∷ []) cause is)))

    pub retype_unspelled : breach world there ≡ None → breach world own ≡ None
        → breach world unread ≡ None → Is (breach world spelt) cause
        → RefusedBy world (command.Retype sort map type) world cause
    retype_unspelled found has free is =
        refused world (command.Retype sort map type) cause
        (met world there (own ∷ unread ∷ spelt ∷ []) cause found
        (met world own (unread ∷ spelt ∷ []) cause has
        (met world unread (spelt ∷ []) cause free (not_met world spelt [] cause is))))

  pub retype_step : (later : plain.World) → breach world there ≡ None → breach world own ≡ None
      → breach world unread ≡ None → breach world spelt ≡ None
      → later ≡ with_map_changed world sort map (retyped world sort type)
      → Step world (command.Retype sort map type) (Answered Quiet) later
  retype_step later found has free spells put = (
    (λ i. option_or (option_or (found i) (option_or (has i) (option_or (free i)
        (option_or (spells i) None)))) None),
    (refl, put),
  )

-- ---- values before they get a seat

pub told_text : (map : Option plain.Held) (id : ℕ) (text : List ℕ)
    → option_map (λ held. text_at held id) map ≡ Some text → text_by map id ≡ text
told_text None id text is = absurd (none-some text is)
told_text (Some held) id text is = same_Some (text_at held id) text is

pub built_map_of : (type : MapType) (w : plain.World) (sort : ItemSort) (s : Seen)
    → IsValid w.graph → TracksNothing s → HasNoCounts s → Plays (role_of (kind_for type)) s
    → IsMapOf type (facts w.graph sort) (built (facts w.graph sort) s)
built_map_of type w sort s valid none counts plays = record {
  role = built_plays (role_of (kind_for type)) (facts w.graph sort) s plays;
  fits = (built_stands w.graph sort valid s none counts (record {
    key = 0;
    seen = built (facts w.graph sort) s;
    room = 0;
    reach = 0;
  }) refl).fits.held;
}

module _ {O : Type 0} (watch : O → Watched) (w : World O) (in_step : AreInStep watch w)
    (sort : ItemSort) (type : MapType) (empty now : Seen) (answer : Result Unit Veto)
    (all : List Fact) (whole : all ≡ facts w.graph.graph.graph sort) (ok : answer ≡ Ok tt)
    (told : Told answer empty now (built all empty)) (none : TracksNothing empty)
    (counts : HasNoCounts empty) (plays : Plays (role_of (kind_for type)) empty) where
  now_is : now ≡ built (facts w.graph.graph.graph sort) empty
  now_is =
      subst (λ r. Told r empty now (built all empty)) ok told
      ∙ ap (λ fs. built fs empty) whole

  -- what the build of an empty map gives
  pub values_built : IsMapOf type (facts w.graph.graph.graph sort) now
  values_built =
      subst (IsMapOf type (facts w.graph.graph.graph sort)) (sym now_is)
      (built_map_of type (plain_of watch w) sort empty in_step.graph.valid none counts plays)

  pub values_new : held_by (kind_for type) now.held ≡ new_map (plain_of watch w) sort type
  values_new =
      ap (λ (s : Seen). held_by (kind_for type) s.held) now_is
      ∙ held_new type (plain_of watch w) sort empty in_step.graph.valid plays

-- a loan of the seat that has ended
pub reseated : {O : Type 0} (watch : O → Watched) (a : AlterOf O) (sort : ItemSort) (key : ℕ)
    (was now : O)
    → seat_seen watch key (Some was) ≡ find_seat key (seats_in sort (chains_seen watch a.chains))
    → MayWrite watch sort key a was → Reseated watch sort key now a (graph_with sort key now a)
reseated watch a sort key was now at may = record {
  was = was;
  found = seen_there watch (chains_seen watch a.chains) sort key was at;
  writes = may now;
  is = refl;
}
