-- What words come to that name no files, as serve says it.
use Rattle.std.proofs.Common.{◌≡◌, ℕ, List, inl, inr, refl, sym, ap, subst}
use Rattle.std.specs.Prelude.{◌⊎◌}
use Rattle.edge_io.specs.Causes.{Rose}
use Rattle.edge_io.specs.Files.{Files}
use Rattle.lgf_file.specs.Plain.{plain}
use Rattle.script_words.specs.declared.commands.GuardWord.{GuardWord}
use Rattle.plain_machine.specs.declared.statuses.Status.{Status}
use Rattle.plain_machine.specs.declared.statuses.Status.TheVariants as statuses
use Rattle.plain_machine.specs.Built.{Answers}
use Rattle.plain_machine.specs.Generator.{made}
use Rattle.plain_machine.specs.Words.{RunOn, MakeOf, DrillOf, Asks, AsksGraph, AsksDrill}
use Rattle.plain_machine.specs.Words.{AskNothing}
use Rattle.plain_machine.specs.Outcome.{Counts, Handed, Outcome, HandsBackAtEnd}
use Rattle.plain_machine.specs.Outcome.{EndsText, EndsUsage, EndsDrill}
use Rattle.plain_machine.proofs.Apart.{same_numbers, same_drill, graph_or_drill}
use Rattle.script_runs.specs.Handing.{EndsWhole}
use Rattle.lemon_desk.specs.Unfiled.{EndsUnfiled}

-- words that ask neither for a run nor for a graph nor for a drill ask for nothing
pub no_shape : (words : List (List ℕ))
    → ((graph script : List ℕ) → Asks words (RunOn graph script) → ⊥)
    → ((seed nodes arcs : ℕ) → AsksGraph words seed nodes arcs → ⊥)
    → ((seed lines : ℕ) → AsksDrill words seed lines → ⊥) → AskNothing words
no_shape words run make drill (RunOn graph script) asks = run graph script asks
no_shape words run make drill (MakeOf seed nodes arcs) asks = make seed nodes arcs asks
no_shape words run make drill (DrillOf seed lines) asks = drill seed lines asks

-- at Done all lines were answered
pub done_whole : (status : Status) → status ≡ statuses.Done → EndsWhole status
done_whole status is = subst EndsWhole (sym is) tt

-- it is an outcome, whatever the files
pub unfiled_outcome : (words : List (List ℕ)) (pool : List GuardWord) (files : Files)
    (out : List ℕ) (handed : Handed) (before now : Counts) (status : Status)
    → HandsBackAtEnd status handed
    → EndsUnfiled words pool out handed before.writes now.writes status
    → Outcome words pool files (record {
      out = out;
      files = files;
      handed = handed;
      before = before;
      now = now;
    }) status
unfiled_outcome words pool files out handed before now status back (inl (inl shapeless, none)) =
    (inl (shapeless.0, shapeless.1, refl), back)
unfiled_outcome words pool files out handed before now status back (inl (inr graph, none)) = (
  inr (MakeOf graph.seed graph.nodes graph.arcs, graph.asks, (graph.ends, refl, none)),
  back,
)
unfiled_outcome words pool files out handed before now status back (inr drill) =
    (inr (DrillOf drill.seed drill.lines, drill.asks, (drill.ends, refl)), back)

module _ (words : List (List ℕ)) (pool : List GuardWord) (out : List ℕ) (handed : Handed)
    (before now : ℕ) (status : Status) where
  abbrev Ends : Type 0
  Ends = EndsUnfiled words pool out handed before now status

  pub unfiled_usage : Ends → status ≡ statuses.Usage → AskNothing words
  unfiled_usage (inl (inl shapeless, none)) is = shapeless.0
  unfiled_usage (inl (inr graph, none)) is =
      absurd (subst (EndsText (plain (made graph.seed graph.nodes graph.arcs)) out before now) is
      graph.ends)
  unfiled_usage (inr drill) is =
      absurd (subst (EndsDrill Answers pool drill.seed drill.lines out handed before now) is
      drill.ends)

  pub unfiled_shapeless : AskNothing words → Ends → EndsUsage out before now status
  unfiled_shapeless nothing (inl (inl shapeless, none)) = shapeless.1
  unfiled_shapeless nothing (inl (inr graph, none)) =
      absurd (nothing (MakeOf graph.seed graph.nodes graph.arcs) graph.asks)
  unfiled_shapeless nothing (inr drill) =
      absurd (nothing (DrillOf drill.seed drill.lines) drill.asks)

  pub unfiled_made : (seed nodes arcs : ℕ) → AsksGraph words seed nodes arcs → Ends
      → EndsText (plain (made seed nodes arcs)) out before now status
  unfiled_made seed nodes arcs asks (inl (inl shapeless, none)) =
      absurd (shapeless.0 (MakeOf seed nodes arcs) asks)
  unfiled_made seed nodes arcs asks (inl (inr graph, none)) =
      let same = same_numbers words graph.seed graph.nodes graph.arcs seed nodes arcs graph.asks
      asks in
      let text : plain (made graph.seed graph.nodes graph.arcs) ≡ plain (made seed nodes arcs) =
      λ i. plain (made (same.0 i) (same.1 i) (same.2 i)) in
      subst (λ t. EndsText t out before now status) text graph.ends
  unfiled_made seed nodes arcs asks (inr drill) =
      absurd (graph_or_drill words seed nodes arcs drill.seed drill.lines asks drill.asks)

  pub unfiled_drilled : (seed lines : ℕ) → AsksDrill words seed lines → Ends
      → EndsDrill Answers pool seed lines out handed before now status
  unfiled_drilled seed lines asks (inl (inl shapeless, none)) =
      absurd (shapeless.0 (DrillOf seed lines) asks)
  unfiled_drilled seed lines asks (inl (inr graph, none)) =
      absurd (graph_or_drill words graph.seed graph.nodes graph.arcs seed lines graph.asks asks)
  unfiled_drilled seed lines asks (inr drill) =
      let same = same_drill words drill.seed drill.lines seed lines drill.asks asks in
      subst (λ n. EndsDrill Answers pool seed n out handed before now status) same.1
      (subst (λ n. EndsDrill Answers pool n drill.lines out handed before now status) same.0
      drill.ends)

  pub unfiled_read : Ends → status ≡ statuses.ReadFault → ⊥
  unfiled_read (inl (inl shapeless, none)) is = subst (EndsUsage out before now) is shapeless.1
  unfiled_read (inl (inr graph, none)) is =
      subst (EndsText (plain (made graph.seed graph.nodes graph.arcs)) out before now) is graph.ends
  unfiled_read (inr drill) is =
      subst (EndsDrill Answers pool drill.seed drill.lines out handed before now) is drill.ends

  pub unfiled_write : Ends → status ≡ statuses.WriteFault → Rose before now
  unfiled_write (inl (inl shapeless, none)) is =
      (subst (EndsUsage out before now) is shapeless.1).1
  unfiled_write (inl (inr graph, none)) is =
      (subst (EndsText (plain (made graph.seed graph.nodes graph.arcs)) out before now) is
      graph.ends).1
  unfiled_write (inr drill) is =
      (subst (EndsDrill Answers pool drill.seed drill.lines out handed before now) is
      drill.ends).4
