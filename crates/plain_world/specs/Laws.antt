-- Laws that each command's proof starts from.
use Rattle.std.specs.Prelude.{◌≡◌, ℕ, ◌+◌, ◌*◌, ◌≤◌, Bool, true, false, List, length, fold, None}
use Rattle.std.specs.Prelude.{Some}
use Rattle.std.specs.Option.{option_map_or}
use Rattle.std.specs.FinMap as fin
use Rattle.base_items.specs.declared.items.ItemSort.{ItemSort}
use Rattle.base_items.specs.declared.limits.TheConstants.{MAX_ARCS, MAX_STAMP}
use Rattle.script_words.specs.declared.commands.Command.{Command}
use Rattle.script_words.specs.declared.commands.Command.TheVariants as commands
use Rattle.script_words.specs.declared.commands.GuardWord.{GuardWord}
use Rattle.script_words.specs.Valid.{IsValid}
use Rattle.report_text.specs.declared.faults.Fault.{Fault}
use Rattle.report_text.specs.declared.replies.Reply.{Reply}
use Rattle.lgf_file.specs.Documents.{IsDoc}
use Rattle.lgf_file.specs.declared.documents.Doc.{Doc}
use Rattle.plain_digraph.specs.PlainSteps.{PlainStep, after_steps}
use Rattle.plain_digraph.specs.Copies.{Copy, copy_of}
use Rattle.plain_digraph.specs.Alterations.{refusable_steps}
use Rattle.plain_world.specs.declared.answers.Answer.{Answer}
use Rattle.plain_world.specs.declared.answers.Answer.TheVariants.{Answered, Refused}
use Rattle.plain_world.specs.Tables.{Name, entry}
use Rattle.plain_world.specs.World.{World, attached}
use Rattle.plain_world.specs.Following.{follow}
use Rattle.plain_world.specs.Demands.{item_named}
use Rattle.plain_world.specs.Documents.{doc_of, load}
use Rattle.plain_world.specs.Altering.{alteration_of}
use Rattle.plain_world.specs.Steps.{Step}
use Rattle.plain_world.specs.Valid.{IsWorld}

-- the item that has a label is the one that is found by it
abbrev pub ItemsAreNamed : Type 0
ItemsAreNamed = (world : World) (sort : ItemSort) (id : ℕ) (name : Name)
    → IsWorld world → fin.get (attached world sort).labels id ≡ Some name
    → item_named world sort name ≡ Some id

-- where no item has the label, none is found
abbrev pub UnusedNamesAreFree : Type 0
UnusedNamesAreFree = (world : World) (sort : ItemSort) (name : Name)
    → IsWorld world → ((id : ℕ) → fin.get (attached world sort).labels id ≡ Some name → ⊥)
    → item_named world sort name ≡ None

-- the digraph of a world goes by its steps alone
abbrev pub AlteredGraphsFollow : Type 0
AlteredGraphsFollow = (steps : List PlainStep) (world : World)
    → (fold follow world steps).graph ≡ after_steps world.graph steps

-- ---- documents

-- the document of a valid world is valid
abbrev pub DocumentsAreValid : Type 0
DocumentsAreValid = (world : World) → IsWorld world → IsDoc (doc_of world)

-- loading a valid document gives a valid world
abbrev pub LoadedWorldsAreValid : Type 0
LoadedWorldsAreValid = (doc : Doc) (pool : List GuardWord) → IsDoc doc → IsWorld (load doc pool)

-- ---- steps

-- how many stamps the command takes: one for each refusable step of its alteration
abbrev pub stamps_taken : World → Command → ℕ
stamps_taken world command =
    option_map_or (λ alteration. length (refusable_steps world.graph alteration))
    (alteration_of world command) 0

-- a command takes two stamps for each arc that there may be, at most
abbrev pub FewStampsAreTaken : Type 0
FewStampsAreTaken = (world : World) (command : Command) → IsWorld world
    → stamps_taken world command ≤ 2 * MAX_ARCS

-- a valid command leaves a valid world valid, where there are the stamps that it takes
abbrev pub StepsKeepWorlds : Type 0
StepsKeepWorlds = (world later : World) (command : Command) (answer : Answer) → IsWorld world
    → IsValid command → world.graph.stamps + stamps_taken world command ≤ MAX_STAMP
    → Step world command answer later → IsWorld later

-- a snapshot that is restored gives back the nodes, the arcs and the orders of its copy
abbrev pub RestoredGraphsAreCopied : Type 0
RestoredGraphsAreCopied = (world later : World) (snapshot : Name) (copy : Copy) (reply : Reply)
    → IsWorld world → entry world.snapshots snapshot ≡ Some (Some copy)
    → world.graph.stamps + stamps_taken world (commands.Restore snapshot) ≤ MAX_STAMP
    → Step world (commands.Restore snapshot) (Answered reply) later → copy_of later.graph ≡ copy

-- ---- one answer

-- whether the command is a query that may find one answer or another
abbrev pub chooses : Command → Bool
chooses (commands.Dijkstra view length start) = true
chooses (commands.Bellman view length start) = true
chooses (commands.MaxFlow view cap s t into) = true
chooses (commands.Circulate view low up supply into) = true
chooses (commands.MinCost view low up cost supply into) = true
chooses (commands.Simplex view low up cost supply into) = true
chooses (commands.Match view left) = true
chooses (commands.Heaviest view left weight) = true
chooses (commands.Assign view left cost) = true
chooses (commands.MeanCycle view length time) = true
chooses _ = false

-- a command that leaves no choice has one answer, and leaves one world
abbrev pub AnswersAreOne : Type 0
AnswersAreOne = (world later after : World) (command : Command) (answer other : Answer)
    → chooses command ≡ false → Step world command answer later → Step world command other after
    → (answer ≡ other) × (later ≡ after)

-- a command that is refused has this answer alone, and changes nothing
abbrev pub RefusalsAreOne : Type 0
RefusalsAreOne = (world later after : World) (command : Command) (fault : Fault) (answer : Answer)
    → Step world command (Refused fault) later → Step world command answer after
    → (answer ≡ Refused fault) × (after ≡ world)
