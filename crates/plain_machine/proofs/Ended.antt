-- Where each line has one answer, words, boxes and files come to one outcome, but for early ends.
use Rattle.std.proofs.Common.{◌≡◌, ℕ, Bool, true, false, List, refl, sym, ◌∙◌, ap, subst, inl, inr}
use Rattle.std.specs.Prelude.{◌⊎◌}
use Rattle.edge_io.specs.Files.{Files, HoldsWithin}
use Rattle.token_text.specs.Lines.{lines_of}
use Rattle.lgf_file.specs.Plain.{plain}
use Rattle.lgf_file.specs.declared.documents.Doc.{Doc}
use Rattle.lgf_file.specs.declared.faults.LgfFault.{LgfFault}
use Rattle.script_words.specs.declared.commands.GuardWord.{GuardWord}
use Rattle.plain_world.specs.declared.answers.Answer.{Answer}
use Rattle.plain_world.specs.World.{World}
use Rattle.plain_world.specs.Documents.{load}
use Rattle.plain_machine.specs.declared.limits.TheConstants.{SCRIPT_LIMIT}
use Rattle.plain_machine.specs.declared.statuses.Status.{Status}
use Rattle.plain_machine.specs.declared.statuses.Status.TheVariants as statuses
use Rattle.plain_machine.specs.Texts.{graph_fault_text, report_of, has_refusal}
use Rattle.plain_machine.specs.Texts.{all_saves, overwritten}
use Rattle.plain_machine.specs.Runs.{Run}
use Rattle.plain_machine.specs.Generator.{made}
use Rattle.base_items.specs.declared.items.ItemSort.TheVariants as sorts
use Rattle.plain_digraph.specs.Items.{count_of}
use Rattle.plain_machine.specs.Drill.{Drilled, drill_text, accepted_in, refused_in}
use Rattle.plain_machine.specs.Drill.{first_lines, drawn_lines}
use Rattle.plain_machine.specs.Words.{RunOn, MakeOf, DrillOf, usage}
use Rattle.plain_machine.specs.Inputs.{HasGraph, HasBadGraph, HasTooLong}
use Rattle.plain_machine.specs.Outcome.{Left, Nothing, Desk}
use Rattle.plain_machine.specs.Outcome.{PlaysWhole, EndsRun, EndsUsage, EndsText, EndsDrill}
use Rattle.plain_machine.specs.Outcome.{Handed}
use Rattle.plain_machine.specs.Outcome.{LeavesText, LeavesNothing, HandsBackAtEnd, IsWhole}
use Rattle.plain_machine.specs.Laws.{OutcomesAreOne}
use Rattle.plain_machine.proofs.Apart.{same_names, same_numbers, same_drill}
use Rattle.plain_machine.proofs.Apart.{run_or_graph, run_or_drill, graph_or_drill}
use Rattle.plain_machine.proofs.Apart.{one_file, within, graph_or_bad, graph_within}
use Rattle.plain_machine.proofs.Apart.{one_graph, one_bad_graph, bad_within}
use Rattle.plain_machine.proofs.Once.{AnswersOnce, runs_once}

-- What is left is the same.
abbrev SameLeft : Left → Left → Type 0
SameLeft left other =
    (left.out ≡ other.out) × (left.files ≡ other.files) × (left.handed ≡ other.handed)

-- The status of a run whose lines were all answered.
abbrev status_of : Bool → Status
status_of true = statuses.SomeRefused
status_of false = statuses.Done

module _ (answers : World → List ℕ → Answer → World → Type 0) (once : AnswersOnce answers) where
  -- ---- a script that is played to its end

  abbrev Whole : World → Files → List (List ℕ) → Left → Bool → Type 0
  Whole world files lines left refused =
      PlaysWhole answers load Desk world files lines left refused

  plays_once : (world : World) (files : Files) (lines : List (List ℕ)) (left other : Left)
      (refused also : Bool) → Whole world files lines left refused
      → Whole world files lines other also → (refused ≡ also) × SameLeft left other
  plays_once world files lines left other refused also one two =
      let ran = runs_once answers once world one.0 two.0 1 lines one.1.answers two.1.answers
      one.1.ran two.1.ran in (
        one.1.refused_is ∙ ap has_refusal ran.0 ∙ sym two.1.refused_is,
        (
          one.1.out_is ∙ ap report_of ran.0 ∙ sym two.1.out_is,
          one.1.files_are ∙ ap (λ said. overwritten files (all_saves said)) ran.0
              ∙ sym two.1.files_are,
          one.2 ∙ ap Desk ran.1 ∙ sym two.2,
        ),
      )

  -- ---- a run that doesn't end early

  module _ (pool : List GuardWord) (files : Files) (graph script : List ℕ) where
    -- All lines were answered.
    abbrev Played : Left → Status → Type 0
    Played left status =
        (refused : Bool) × (status ≡ status_of refused) × (doc : Doc) × (text : List ℕ)
        × HasGraph files graph doc × HoldsWithin files script SCRIPT_LIMIT text
        × Whole (load doc pool) files (lines_of text) left refused

    -- The graph file is no graph.
    abbrev Faulty : Left → Status → Type 0
    Faulty left status =
        (status ≡ statuses.BadGraph) × (fault : LgfFault) × HasBadGraph files graph fault
        × LeavesText files (graph_fault_text fault) left × (left.handed ≡ Nothing)

    -- A file is too long.
    abbrev Lengthy : Left → Status → Type 0
    Lengthy left status =
        (status ≡ statuses.TooLong) × LeavesNothing files left × HasTooLong files graph script
        × (left.handed ≡ Nothing)

    three_ways : (left : Left) (status : Status) → IsWhole status
        → HandsBackAtEnd status left.handed
        → EndsRun answers load Desk pool files graph script left status
        → Played left status ⊎ (Faulty left status ⊎ Lengthy left status)
    three_ways left statuses.Done whole handed h =
        inl (false, refl, h.0, h.1, h.2, h.3, h.4)
    three_ways left statuses.SomeRefused whole handed h =
        inl (true, refl, h.0, h.1, h.2, h.3, h.4)
    three_ways left statuses.Usage whole handed h = absurd h
    three_ways left statuses.BadGraph whole handed h = inr (inl (refl, h.0, h.1, h.2, handed))
    three_ways left statuses.ReadFault whole handed h = absurd whole
    three_ways left statuses.WriteFault whole handed h = absurd whole
    three_ways left statuses.Memory whole handed h = absurd whole
    three_ways left statuses.TooLong whole handed h = inr (inr (refl, h.0, h.1, handed))

    both_played : (left other : Left) (status next : Status) → Played left status
        → Played other next → (status ≡ next) × SameLeft left other
    both_played left other status next one two =
        let doc = one_graph files graph one.2 two.2 one.4 two.4 in
        let text = one_file files script one.3 two.3 one.5.0 two.5.0 in
        let begun = subst (λ d. Whole (load d pool) files (lines_of one.3) left one.0) doc one.6 in
        let same = subst (λ t. Whole (load two.2 pool) files (lines_of t) left one.0) text begun in
        let told = plays_once (load two.2 pool) files (lines_of two.3) left other one.0 two.0 same
        two.6 in
        (one.1 ∙ ap status_of told.0 ∙ sym two.1, told.1)

    both_faulty : (left other : Left) (status next : Status) → Faulty left status
        → Faulty other next → (status ≡ next) × SameLeft left other
    both_faulty left other status next one two =
        let fault = one_bad_graph files graph one.1 two.1 one.2 two.2 in (
          one.0 ∙ sym two.0,
          (
            one.3.0 ∙ ap graph_fault_text fault ∙ sym two.3.0,
            one.3.1 ∙ sym two.3.1,
            one.4 ∙ sym two.4,
          ),
        )

    both_lengthy : (left other : Left) (status next : Status) → Lengthy left status
        → Lengthy other next → (status ≡ next) × SameLeft left other
    both_lengthy left other status next one two = (
      one.0 ∙ sym two.0,
      (one.1.0 ∙ sym two.1.0, one.1.1 ∙ sym two.1.1, one.3 ∙ sym two.3),
    )

    played_not_faulty : (left other : Left) (status next : Status) → Played left status
        → Faulty other next → ⊥
    played_not_faulty left other status next one two =
        graph_or_bad files graph one.2 two.1 one.4 two.2

    played_not_lengthy : (left other : Left) (status next : Status) → Played left status
        → Lengthy other next → ⊥
    played_not_lengthy left other status next one two =
        graph_within files graph script one.2 one.4
        (within files script one.3 SCRIPT_LIMIT one.5) two.2

    faulty_not_lengthy : (left other : Left) (status next : Status) → Faulty left status
        → Lengthy other next → ⊥
    faulty_not_lengthy left other status next one two =
        bad_within files graph script one.1 one.2 two.2

    one_way : (left other : Left) (status next : Status)
        → Played left status ⊎ (Faulty left status ⊎ Lengthy left status)
        → Played other next ⊎ (Faulty other next ⊎ Lengthy other next)
        → (status ≡ next) × SameLeft left other
    one_way left other status next (inl one) (inl two) =
        both_played left other status next one two
    one_way left other status next (inl one) (inr (inl two)) =
        absurd (played_not_faulty left other status next one two)
    one_way left other status next (inl one) (inr (inr two)) =
        absurd (played_not_lengthy left other status next one two)
    one_way left other status next (inr (inl one)) (inl two) =
        absurd (played_not_faulty other left next status two one)
    one_way left other status next (inr (inl one)) (inr (inl two)) =
        both_faulty left other status next one two
    one_way left other status next (inr (inl one)) (inr (inr two)) =
        absurd (faulty_not_lengthy left other status next one two)
    one_way left other status next (inr (inr one)) (inl two) =
        absurd (played_not_lengthy other left next status two one)
    one_way left other status next (inr (inr one)) (inr (inl two)) =
        absurd (faulty_not_lengthy other left next status two one)
    one_way left other status next (inr (inr one)) (inr (inr two)) =
        both_lengthy left other status next one two

  -- ---- words of no shape

  -- The line on how to use the program went out, and no world is handed back.
  used : (left : Left) (status : Status) (before now : ℕ) → IsWhole status
      → HandsBackAtEnd status left.handed → EndsUsage left.out before now status
      → (status ≡ statuses.Usage) × (left.out ≡ usage) × (left.handed ≡ Nothing)
  used left statuses.Usage before now whole handed h = (refl, h, handed)
  used left statuses.WriteFault before now whole handed h = absurd whole
  used left _ before now whole handed h = absurd h

  -- ---- a graph that is made

  -- Its text went out.
  made_whole : (text out : List ℕ) (before now : ℕ) (status : Status) → IsWhole status
      → EndsText text out before now status → (status ≡ statuses.Done) × (out ≡ text)
  made_whole text out before now statuses.Done whole h = (refl, h)
  made_whole text out before now statuses.WriteFault whole h = absurd whole
  made_whole text out before now statuses.Memory whole h = absurd whole
  made_whole text out before now _ whole h = absurd h

  -- ---- a drill

  module _ (pool : List GuardWord) (seed lines : ℕ) where
    -- The lines lead to one world, and to one text.
    drilled_once : (last later : World) (text more : List ℕ)
        → Drilled answers pool seed lines last text → Drilled answers pool seed lines later more
        → (last ≡ later) × (text ≡ more)
    drilled_once last later text more one two =
        let opened = runs_once answers once (load (made seed 100 400) pool) one.begun two.begun 1
        first_lines one.opening two.opening one.opened two.opened in
        let same = subst (λ w. Run answers w 8 (drawn_lines seed lines) one.drawn last) opened.1
        one.ran in
        let ran = runs_once answers once two.begun last later 8 (drawn_lines seed lines) one.drawn
        two.drawn same two.ran in (
          ran.1,
          one.text_is
              ∙ (λ i. drill_text (accepted_in (ran.0 i)) (refused_in (ran.0 i))
              (count_of (ran.1 i).graph sorts.Node) (count_of (ran.1 i).graph sorts.Arc))
              ∙ sym two.text_is,
        )

    -- Its text went out, and its world is handed back.
    drilled_whole : (out : List ℕ) (handed : Handed) (before now : ℕ) (status : Status)
        → IsWhole status → EndsDrill answers pool seed lines out handed before now status
        → (status ≡ statuses.Done) × (last : World)
        × Drilled answers pool seed lines last out × (handed ≡ Desk last)
    drilled_whole out handed before now statuses.Done whole h = (refl, h.0, h.1, h.2)
    drilled_whole out handed before now statuses.WriteFault whole h = absurd whole
    drilled_whole out handed before now statuses.Memory whole h = absurd whole
    drilled_whole out handed before now _ whole h = absurd h

  -- ---- the outcome

  pub outcomes_once : OutcomesAreOne answers
  outcomes_once words pool files left other status next whole end (inl one, handed) (inl two, back)
      =
      let first = used left status left.before.writes left.now.writes whole handed one.1 in
      let then = used other next other.before.writes other.now.writes end back two.1 in (
        first.0 ∙ sym then.0,
        first.1 ∙ sym then.1,
        one.2 ∙ sym two.2,
        first.2 ∙ sym then.2,
      )
  outcomes_once words pool files left other status next whole end (inl one, handed) (inr two, back)
      =
      absurd (one.0 two.0 two.1)
  outcomes_once words pool files left other status next whole end (inr one, handed) (inl two, back)
      =
      absurd (two.0 one.0 one.1)
  outcomes_once words pool files left other status next whole end
      (inr (RunOn graph script, asks, one), handed) (inr (RunOn file lines, ask, two), back) =
      let names = same_names words graph script file lines asks ask in
      let first = subst (λ g. EndsRun answers load Desk pool files g script left status) names.0 one
      in
      let both = subst (λ s. EndsRun answers load Desk pool files file s left status) names.1 first
      in
      let same = one_way pool files file lines left other status next
      (three_ways pool files file lines left status whole handed both)
      (three_ways pool files file lines other next end back two) in
      (same.0, same.1.0, same.1.1, same.1.2)
  outcomes_once words pool files left other status next whole end
      (inr (RunOn graph script, asks, one), handed)
      (inr (MakeOf seed nodes arcs, ask, two), back) =
      absurd (run_or_graph words graph script seed nodes arcs asks ask)
  outcomes_once words pool files left other status next whole end
      (inr (MakeOf seed nodes arcs, asks, one), handed) (inr (RunOn graph script, ask, two), back) =
      absurd (run_or_graph words graph script seed nodes arcs ask asks)
  outcomes_once words pool files left other status next whole end
      (inr (MakeOf seed nodes arcs, asks, one), handed)
      (inr (MakeOf first second third, ask, two), back) =
      let same = same_numbers words seed nodes arcs first second third asks ask in
      let text : plain (made seed nodes arcs) ≡ plain (made first second third) =
      λ i. plain (made (same.0 i) (same.1 i) (same.2 i)) in
      let begun = made_whole (plain (made seed nodes arcs)) left.out left.before.writes
      left.now.writes status whole one.0 in
      let then = made_whole (plain (made first second third)) other.out other.before.writes
      other.now.writes next end two.0 in (
        begun.0 ∙ sym then.0,
        begun.1 ∙ text ∙ sym then.1,
        one.1 ∙ sym two.1,
        one.2 ∙ sym two.2,
      )
  outcomes_once words pool files left other status next whole end
      (inr (DrillOf seed lines, asks, one), handed) (inr (RunOn graph script, ask, two), back) =
      absurd (run_or_drill words graph script seed lines ask asks)
  outcomes_once words pool files left other status next whole end
      (inr (RunOn graph script, asks, one), handed) (inr (DrillOf seed lines, ask, two), back) =
      absurd (run_or_drill words graph script seed lines asks ask)
  outcomes_once words pool files left other status next whole end
      (inr (DrillOf seed lines, asks, one), handed)
      (inr (MakeOf first nodes arcs, ask, two), back) =
      absurd (graph_or_drill words first nodes arcs seed lines ask asks)
  outcomes_once words pool files left other status next whole end
      (inr (MakeOf first nodes arcs, asks, one), handed)
      (inr (DrillOf seed lines, ask, two), back) =
      absurd (graph_or_drill words first nodes arcs seed lines asks ask)
  outcomes_once words pool files left other status next whole end
      (inr (DrillOf seed lines, asks, one), handed) (inr (DrillOf first some, ask, two), back) =
      let same = same_drill words seed lines first some asks ask in
      let moved = subst (λ n. EndsDrill answers pool n lines left.out left.handed
      left.before.writes left.now.writes status) same.0 one.0 in
      let both = subst (λ n. EndsDrill answers pool first n left.out left.handed
      left.before.writes left.now.writes status) same.1 moved in
      let begun = drilled_whole pool first some left.out left.handed left.before.writes
      left.now.writes status whole both in
      let then = drilled_whole pool first some other.out other.handed other.before.writes
      other.now.writes next end two.0 in
      let told = drilled_once pool first some begun.1 then.1 left.out other.out begun.2 then.2 in (
        begun.0 ∙ sym then.0,
        told.1,
        one.1 ∙ sym two.1,
        begun.3 ∙ ap Desk told.0 ∙ sym then.3,
      )
