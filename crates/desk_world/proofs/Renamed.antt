-- A live item that gets another label.
use Rattle.std.proofs.Common.{◌≡◌, ℕ, ◌∷◌, [], refl, sym, ap, subst, Option, Some, None, ◌∙◌}
use Rattle.std.proofs.Common.{Contains, inr}
use Rattle.std.specs.Prelude.{IsTrue}
use Rattle.std.specs.Option.{option_or}
use Rattle.base_items.specs.declared.items.ItemSort.{ItemSort}
use Rattle.script_words.specs.declared.commands.Command.TheVariants as commands
use Rattle.report_text.specs.declared.faults.StepFault.{StepFault}
use Rattle.report_text.specs.declared.replies.Reply.TheVariants.{Quiet}
use Rattle.plain_digraph.specs.Items.{IsLive}
use Rattle.plain_digraph.specs.Valid.{IsValid}
use Rattle.observe_core.specs.Held.{Entry, Labels, entry_id}
use Rattle.observe_core.specs.Items.{has_id}
use Rattle.observe_core.specs.Seen.{Seen, Watched}
use Rattle.alter_graph.proofs.Listing.{contained}
use Rattle.index_maps.specs.RefViews.{HasSomeLabel, with_label}
use Rattle.plain_world.specs.declared.answers.Answer.TheVariants.{Answered}
use Rattle.plain_world.specs.Tables.{Name}
use Rattle.plain_world.specs.World as plain
use Rattle.plain_world.specs.Demands as demands
use Rattle.plain_world.specs.Demands.{item_named}
use Rattle.plain_world.specs.Following.{labelled}
use Rattle.plain_world.specs.Refusals.{breach}
use Rattle.plain_world.specs.Steps.{Step}
use Rattle.plain_machine.specs.Built.{RefusedBy}
use Rattle.desk_seats.specs.Contents.{among, labels_among, labels_in}
use Rattle.desk_world.specs.declared.world.World.{World}
use Rattle.desk_world.specs.Faults.{Is}
use Rattle.desk_world.specs.InStep.{IsInStep}
use Rattle.desk_world.specs.Plain.{tables_of}
use Rattle.desk_world.proofs.Answered.{item_found}
use Rattle.desk_world.proofs.AsMade.{as_values}
use Rattle.desk_world.proofs.Demanded.{refused, met, not_met, both_met}
use Rattle.desk_world.proofs.Labelled.{HasLabels, none_unlabelled}
use Rattle.desk_world.proofs.LiveEntries.{live_entry}

module _ {O : Type 0} (watch : O → Watched) (w : World O) (sort : ItemSort) (seat : O)
    (has : HasLabels watch w sort seat) (ok : IsInStep watch w) where
  abbrev s : Seen
  s = (watch seat).seen

  -- a live item has a label
  pub some_label : (id : ℕ) → IsLive w.graph.graph.graph sort id → HasSomeLabel id (labels_in s)
  some_label id live =
      let v = as_values Labels s.held has.plays.making in
      let there = subst (λ h. IsTrue (has_id entry_id id (among labels_among h))) (sym v.is)
      (live_entry watch w ok.seats sort (tables_of w sort).labels.0 s has.seen Labels v.entries
      v.is id live) in
      let found = contained entry_id id (labels_in s) there in
      by found.0 found.1 found.2
    where
      by : (e : Entry (Option Name)) → Contains (labels_in s) e → e.id ≡ id
          → HasSomeLabel id (labels_in s)
      by e listed is = value e.value refl
        where
          value : (o : Option Name) → e.value ≡ o → HasSomeLabel id (labels_in s)
          value None none =
              absurd (none_unlabelled watch w sort seat has ok id live (inr
              (subst (Contains (labels_in s)) (λ i. with_label (is i) (none i)) listed)))
          value (Some text) some =
              (text, subst (Contains (labels_in s)) (λ i. with_label (is i) (some i)) listed)

-- ---- the command

module _ (world : plain.World) (sort : ItemSort) (old new : Name) where
  abbrev there : demands.Demand
  there = demands.There (demands.Labels sort) old

  abbrev unused : demands.Demand
  unused = demands.New (demands.Labels sort) new

  pub none_named : (fault : StepFault) → Is (breach world there) fault
      → RefusedBy world (commands.Relabel sort old new) world fault
  none_named fault is =
      refused world (commands.Relabel sort old new) fault
      (not_met world there (unused ∷ []) fault is)

  pub label_taken : (fault : StepFault) → breach world there ≡ None
      → Is (breach world unused) fault
      → RefusedBy world (commands.Relabel sort old new) world fault
  label_taken fault one is =
      refused world (commands.Relabel sort old new) fault
      (met world there (unused ∷ []) fault one (not_met world unused [] fault is))

  pub relabelled : (later : plain.World) (id : ℕ) → IsValid world.graph
      → breach world there ≡ None → breach world unused ≡ None
      → item_named world sort old ≡ Some id → later ≡ labelled world sort id new
      → Step world (commands.Relabel sort old new) (Answered Quiet) later
  relabelled later id valid one two found is = (
    ap (λ o. option_or o None) (both_met world there (unused ∷ []) one
        (both_met world unused [] two refl)),
    (refl, is ∙ ap (λ n. labelled world sort n new) (item_found world sort old id valid found).1),
  )
