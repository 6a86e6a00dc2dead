-- What a run on two files comes to where one of them is amiss, and where neither is.
use Rattle.std.proofs.Common.{◌≡◌, ℕ, List, [], ◌∷◌, ◌++◌, Bool, true, false, Option}
use Rattle.std.proofs.Common.{inl, inr, refl, sym, ap, subst, arith}
use Rattle.std.specs.Prelude.{◌⊎◌, MatchBool, Contains}
use Rattle.std.proofs.lemmas.List.Elements.{Contains-append_right}
use Rattle.edge_io.specs.Causes.{Rose}
use Rattle.edge_io.specs.Files.{Files, HoldsWithin}
use Rattle.token_text.specs.Lines.{lines_of}
use Rattle.lgf_file.specs.Documents.{Spells}
use Rattle.lgf_file.specs.declared.documents.Doc.{Doc}
use Rattle.script_words.specs.declared.commands.Command.{Command}
use Rattle.script_words.specs.declared.commands.Command.TheVariants as commands
use Rattle.script_words.specs.declared.commands.GuardWord.{GuardWord}
use Rattle.script_words.specs.Lines.{Says}
use Rattle.report_text.specs.declared.replies.Reply.TheVariants as replies
use Rattle.plain_world.specs.declared.answers.Answer.TheVariants.{Answered}
use Rattle.plain_world.specs.World.{World}
use Rattle.plain_world.specs.Documents.{load}
use Rattle.plain_world.specs.Steps.{Does, Step}
use Rattle.plain_machine.specs.declared.limits.TheConstants.{GRAPH_LIMIT, SCRIPT_LIMIT}
use Rattle.plain_machine.specs.declared.statuses.Status.{Status}
use Rattle.plain_machine.specs.declared.statuses.Status.TheVariants as statuses
use Rattle.plain_machine.specs.Built.{Answers, is_built, first_column, IsBadAt}
use Rattle.plain_machine.specs.Runs.{StoppedStoring}
use Rattle.plain_machine.specs.Words.{RunOn, Asks}
use Rattle.plain_machine.specs.Inputs.{HasGraph, HasTooLong, LacksNeeded, ReadRose}
use Rattle.plain_machine.specs.Inputs.{SavesTo}
use Rattle.plain_machine.specs.Outcome.{Left, WriteRose, StoreRose, IsAnswered, EndsEarly}
use Rattle.plain_machine.proofs.Apart.{same_names, one_file, there, within, graph_or_bad}
use Rattle.plain_machine.proofs.Apart.{graph_there, graph_within, bad_there, bad_within, long_there}
use Rattle.script_runs.proofs.Runs.{Plays}
use Rattle.script_runs.proofs.Played.{PlaysFiles, EndsRun}

-- ---- names

-- The two names of a run are told by its words.
pub at_names : (P : List ℕ → List ℕ → Type 0) (words : List (List ℕ))
    (graph script other another : List ℕ)
    → Asks words (RunOn graph script) → Asks words (RunOn other another) → P graph script
    → P other another
at_names P words graph script other another h k p =
    let same = same_names words graph script other another h k in
    subst (P other) same.1 (subst (λ g. P g script) same.0 p)

-- Where a script is played no needed file is missing.
plays_there : (pool : List GuardWord) (files : Files) (graph script : List ℕ) (left : Left)
    (status : Status)
    → PlaysFiles pool files graph script left status
    → LacksNeeded files graph script → ⊥
plays_there pool files graph script left status h =
    graph_there files graph script h.0 h.2 (there files script h.1 h.3.0)

-- Where a script is played no needed file is too long.
plays_within : (pool : List GuardWord) (files : Files) (graph script : List ℕ) (left : Left)
    (status : Status)
    → PlaysFiles pool files graph script left status
    → HasTooLong files graph script → ⊥
plays_within pool files graph script left status h =
    graph_within files graph script h.0 h.2 (within files script h.1 SCRIPT_LIMIT h.3)

-- ---- endings

-- The run ended before a line was played, and nothing is left of it.
abbrev pub NothingDone : Files → Left → Status → Type 0
NothingDone files left status =
    ((status ≡ statuses.ReadFault) ⊎ (status ≡ statuses.Memory)) × (left.out ≡ [])
    × (left.files ≡ files)

-- A needed file is missing.
pub lacking : (pool : List GuardWord) (files : Files) (graph script : List ℕ) (left : Left)
    (status : Status)
    → LacksNeeded files graph script
    → EndsRun pool files graph script left status → NothingDone files left status
lacking pool files graph script left statuses.Done l h =
    absurd (plays_there pool files graph script left statuses.Done h l)
lacking pool files graph script left statuses.SomeRefused l h =
    absurd (plays_there pool files graph script left statuses.SomeRefused h l)
lacking pool files graph script left statuses.Usage l h = absurd h
lacking pool files graph script left statuses.BadGraph l h =
    absurd (bad_there files graph script h.0 h.1 l)
lacking pool files graph script left statuses.ReadFault l h = (inl refl, h.0, h.1)
lacking pool files graph script left statuses.WriteFault l (inl h) =
    absurd (bad_there files graph script h.0 h.1 l)
lacking pool files graph script left statuses.WriteFault l (inr h) =
    absurd (plays_there pool files graph script left statuses.WriteFault h l)
lacking pool files graph script left statuses.Memory l (inl h) = (inr refl, h.0, h.1)
lacking pool files graph script left statuses.Memory l (inr h) =
    absurd (plays_there pool files graph script left statuses.Memory h l)
lacking pool files graph script left statuses.TooLong l h =
    absurd (long_there files graph script h.1 l)

-- The graph file spells no document.
module _ (pool : List GuardWord) (files : Files) (graph script bytes : List ℕ)
    (held : HoldsWithin files graph GRAPH_LIMIT bytes)
    (none : (doc : Doc) → Spells bytes doc → ⊥) where
  no_graph : (doc : Doc) → HasGraph files graph doc → ⊥
  no_graph doc h =
      none doc (subst (λ own. Spells own doc) (one_file files graph h.0 bytes h.1.0 held.0) h.2)

  not_long : HasTooLong files graph script → ⊥
  not_long (inl long) = within files graph bytes GRAPH_LIMIT held long
  not_long (inr long) = no_graph long.0.0 long.0.1

  pub bad_graph : (left : Left) (status : Status) → EndsRun pool files graph script left status
      → (status ≡ statuses.BadGraph) ⊎ EndsEarly status
  bad_graph left statuses.Done h = absurd (no_graph h.0 h.2)
  bad_graph left statuses.SomeRefused h = absurd (no_graph h.0 h.2)
  bad_graph left statuses.Usage h = absurd h
  bad_graph left statuses.BadGraph h = inl refl
  bad_graph left statuses.ReadFault h = inr tt
  bad_graph left statuses.WriteFault h = inr tt
  bad_graph left statuses.Memory h = inr tt
  bad_graph left statuses.TooLong h = absurd (not_long h.1)

-- A needed file is too long.
pub too_long : (pool : List GuardWord) (files : Files) (graph script : List ℕ) (left : Left)
    (status : Status)
    → HasTooLong files graph script
    → EndsRun pool files graph script left status → (status ≡ statuses.TooLong) ⊎ EndsEarly status
too_long pool files graph script left statuses.Done l h =
    absurd (plays_within pool files graph script left statuses.Done h l)
too_long pool files graph script left statuses.SomeRefused l h =
    absurd (plays_within pool files graph script left statuses.SomeRefused h l)
too_long pool files graph script left statuses.Usage l h = absurd h
too_long pool files graph script left statuses.BadGraph l h =
    absurd (bad_within files graph script h.0 h.1 l)
too_long pool files graph script left statuses.ReadFault l h = inr tt
too_long pool files graph script left statuses.WriteFault l h = inr tt
too_long pool files graph script left statuses.Memory l h = inr tt
too_long pool files graph script left statuses.TooLong l h = inl refl

-- ---- lines that save

unbuilt : {X : Type 0} → false ≡ true → X
unbuilt e = absurd (unlike e)
  where
    unlike : false ≡ true → ⊥
    unlike e = cc

-- Of all commands that are run save alone is answered by a save, of the file that it names.
does_save : (world later : World) (command : Command) (name bytes : List ℕ)
    → is_built command ≡ true → Does world command (replies.Save name bytes) later
    → command ≡ commands.Save name
does_save world later (commands.AddNode label) name bytes built does =
    absurd (let e = does.0 in cc)
does_save world later (commands.AddArc label from to) name bytes built does =
    absurd (let e = does.0 in cc)
does_save world later (commands.DelNode node) name bytes built does =
    absurd (let e = does.0 in cc)
does_save world later (commands.DelArc arc) name bytes built does =
    absurd (let e = does.0 in cc)
does_save world later (commands.Source arc node) name bytes built does =
    absurd (let e = does.0 in cc)
does_save world later (commands.Target arc node) name bytes built does =
    absurd (let e = does.0 in cc)
does_save world later (commands.Turn arc) name bytes built does =
    absurd (let e = does.0 in cc)
does_save world later (commands.Contract u v loops) name bytes built does =
    absurd (let e = does.0 in cc)
does_save world later (commands.SplitNode node label arc) name bytes built does =
    absurd (let e = does.0 in cc)
does_save world later (commands.SplitArc arc label new) name bytes built does =
    absurd (let e = does.0 in cc)
does_save world later commands.Clear name bytes built does = absurd (let e = does.0 in cc)
does_save world later (commands.NodeMap map type) name bytes built does =
    absurd (let e = does.0 in cc)
does_save world later (commands.ArcMap map type) name bytes built does =
    absurd (let e = does.0 in cc)
does_save world later (commands.Retype sort map type) name bytes built does =
    absurd (let e = does.0 in cc)
does_save world later (commands.Set sort map item value) name bytes built does =
    absurd (let e = does.0 in cc)
does_save world later (commands.Get sort map item) name bytes built does =
    absurd (let e = does.0 in cc)
does_save world later (commands.Degree map way) name bytes built does =
    absurd (let e = does.0 in cc)
does_save world later (commands.Trues sort index map) name bytes built does =
    absurd (let e = does.0 in cc)
does_save world later (commands.Items sort index) name bytes built does =
    absurd (let e = does.0 in cc)
does_save world later (commands.DropMap sort map) name bytes built does =
    absurd (let e = does.0 in cc)
does_save world later (commands.Total sort map) name bytes built does =
    absurd (let e = does.0 in cc)
does_save world later (commands.Least sort map) name bytes built does =
    absurd (let e = does.0 in cc)
does_save world later (commands.Count sort map) name bytes built does =
    absurd (let e = does.0 in cc)
does_save world later (commands.Guard guard sort kind limit) name bytes built does =
    absurd (let e = does.0 in cc)
does_save world later (commands.Unguard guard) name bytes built does =
    absurd (let e = does.0 in cc)
does_save world later commands.Guards name bytes built does = absurd (let e = does.0 in cc)
does_save world later (commands.Snap snapshot) name bytes built does =
    absurd (let e = does.0 in cc)
does_save world later (commands.Restore snapshot) name bytes built does =
    absurd (let e = does.0 in cc)
does_save world later (commands.Forget snapshot) name bytes built does =
    absurd (let e = does.0 in cc)
does_save world later commands.Snaps name bytes built does = absurd (let e = does.0 in cc)
does_save world later (commands.View view layer below) name bytes built does =
    absurd (let e = does.0 in cc)
does_save world later (commands.Keep view) name bytes built does = absurd (let e = does.0 in cc)
does_save world later (commands.Unview view) name bytes built does = absurd (let e = does.0 in cc)
does_save world later (commands.Nodes view) name bytes built does = absurd (let e = does.0 in cc)
does_save world later (commands.Arcs view) name bytes built does = absurd (let e = does.0 in cc)
does_save world later (commands.Out view node) name bytes built does =
    absurd (let e = does.0 in cc)
does_save world later (commands.In view node) name bytes built does =
    absurd (let e = does.0 in cc)
does_save world later (commands.Dijkstra view length start) name bytes built does =
    absurd (let e = does.0.reply_is in cc)
does_save world later (commands.Bellman view length start) name bytes built (inl does) =
    absurd (let e = does.0.reply_is in cc)
does_save world later (commands.Bellman view length start) name bytes built (inr does) =
    absurd (let e = does.0.reply_is in cc)
does_save world later (commands.MaxFlow view cap s t into) name bytes built does =
    absurd (let e = does.1.reply_is in cc)
does_save world later (commands.Circulate view low up supply into) name bytes built (inl does) =
    absurd (let e = does.1.reply_is in cc)
does_save world later (commands.Circulate view low up supply into) name bytes built (inr does) =
    absurd (let e = does.0.reply_is in cc)
does_save world later (commands.MinCost view low up cost supply into) name bytes built (inl does) =
    absurd (let e = does.1.reply_is in cc)
does_save world later (commands.MinCost view low up cost supply into) name bytes built
    (inr (inl does)) =
    absurd (let e = does.0.reply_is in cc)
does_save world later (commands.MinCost view low up cost supply into) name bytes built
    (inr (inr does)) =
    absurd (let e = does.1.reply_is in cc)
does_save world later (commands.Simplex view low up cost supply into) name bytes built (inl does) =
    absurd (let e = does.1.0.reply_is in cc)
does_save world later (commands.Simplex view low up cost supply into) name bytes built
    (inr (inl does)) =
    absurd (let e = does.0.reply_is in cc)
does_save world later (commands.Simplex view low up cost supply into) name bytes built
    (inr (inr does)) =
    absurd (let e = does.1.reply_is in cc)
does_save world later (commands.Match view left) name bytes built does =
    absurd (let e = does.0.reply_is in cc)
does_save world later (commands.Tie attribute sort) name bytes built does =
    absurd (let e = does.0 in cc)
does_save world later (commands.Untie attribute) name bytes built does =
    absurd (let e = does.0 in cc)
does_save world later (commands.Attr attribute) name bytes built does =
    absurd (let e = does.0 in cc)
does_save world later (commands.Relabel sort old new) name bytes built does =
    absurd (let e = does.0 in cc)
does_save world later (commands.Save file) name bytes built does =
    let e = does.0 in
    let same : name ≡ file = cc in
    ap (λ n. commands.Save n) (sym same)
does_save world later _ name bytes built does = unbuilt built

-- A line whose answer is a save says so.
line_saves : (world later : World) (line name bytes : List ℕ)
    → Answers world line (Answered (replies.Save name bytes)) later
    → Says line (commands.Save name)
line_saves world later line name bytes (inl said) = by_test (is_built said.0) refl said.2
  where
    by_test : (built : Bool) → is_built said.0 ≡ built
        → MatchBool built (Step world said.0 (Answered (replies.Save name bytes)) later)
        (IsBadAt world (first_column line) (Answered (replies.Save name bytes)) later)
        → Says line (commands.Save name)
    by_test true built step =
        subst (Says line) (does_save world later said.0 name bytes built step.1) said.1
    by_test false built bad = absurd (let e = bad.0 in cc)
line_saves world later line name bytes (inr bad) = absurd (let e = bad.2.0 in cc)

-- A line between others is one of them.
contains_middle : (before : List (List ℕ)) (line : List ℕ) (after : List (List ℕ))
    → Contains (before ++ line ∷ after) line
contains_middle before line after =
    Contains-append_right before (line ∷ after) line (0, omega arith, refl)

-- Where a store failed, a line saves to that file.
stored_by : (world : World) (files : Files) (lines : List (List ℕ)) (name out : List ℕ)
    (now : Files)
    → StoppedStoring Answers world files lines name out now → SavesTo lines name
stored_by world files lines name out now h =
    let stop = h.0 in (
      stop.line,
      subst (λ ls. Contains ls stop.line) (sym stop.split)
          (contains_middle stop.before stop.line stop.after),
      line_saves stop.mid h.2 stop.line name h.1 h.3,
    )

-- ---- the end of a script

-- A read fault without a count that rose.
unread : (told : Option Files) (graph script : List ℕ) (before now : List ℕ → ℕ)
    → ReadRose told graph script before now
    → (Rose (before graph) (now graph) → ⊥) → (Rose (before script) (now script) → ⊥) → ⊥
unread told graph script before now (inl rose) first second = first rose
unread told graph script before now (inr rose) first second = second rose.1

-- The script that was played is the text of its file.
same_text : (pool : List GuardWord) (files : Files) (graph script text : List ℕ) (left : Left)
    (status : Status)
    (h : PlaysFiles pool files graph script left status)
    → HoldsWithin files script SCRIPT_LIMIT text → h.1 ≡ text
same_text pool files graph script text left status h has =
    one_file files script h.1 text h.3.0 has.0

-- A write fault without a count that rose.
unwritten : (world : World) (files : Files) (lines : List (List ℕ)) (left : Left)
    → Plays world files lines left statuses.WriteFault
    → ((name : List ℕ) → SavesTo lines name → StoreRose left name → ⊥) → (WriteRose left → ⊥) → ⊥
unwritten world files lines left (inl h) stores writes = writes h.1
unwritten world files lines left (inr h) stores writes =
    stores h.0 (stored_by world files lines h.0 left.out left.files h.1) h.2

-- Both files are as they should be, and no count rose.
pub complete : (pool : List GuardWord) (files : Files) (graph script : List ℕ) (left : Left)
    (status : Status)
    (text : List ℕ) (doc : Doc)
    (told : Option Files) (before now : List ℕ → ℕ)
    → EndsRun pool files graph script left status → HasGraph files graph doc
    → HoldsWithin files script SCRIPT_LIMIT text
    → (status ≡ statuses.ReadFault → ReadRose told graph script before now)
    → (Rose (before graph) (now graph) → ⊥) → (Rose (before script) (now script) → ⊥)
    → ((name : List ℕ) → SavesTo (lines_of text) name → StoreRose left name → ⊥)
    → (WriteRose left → ⊥)
    → IsAnswered status
complete pool files graph script left statuses.Done text doc told before now h g s r first second
    third last =
    tt
complete pool files graph script left statuses.SomeRefused text doc told before now h g s r first
    second third last =
    tt
complete pool files graph script left statuses.Usage text doc told before now h g s r first
    second third last =
    h
complete pool files graph script left statuses.BadGraph text doc told before now h g s r first
    second
    third last =
    graph_or_bad files graph doc h.0 g h.1
complete pool files graph script left statuses.ReadFault text doc told before now h g s r first
    second
    third last =
    unread told graph script before now (r refl) first second
complete pool files graph script left statuses.WriteFault text doc told before now (inl h)
    g s r first
    second third last =
    graph_or_bad files graph doc h.0 g h.1
complete pool files graph script left statuses.WriteFault text doc told before now (inr h)
    g s r first
    second third last =
    let same = same_text pool files graph script text left statuses.WriteFault h s in
    let plays =
    subst (λ t. Plays (load h.0 pool) files (lines_of t) left statuses.WriteFault) same h.4 in
    unwritten (load h.0 pool) files (lines_of text) left plays third last
complete pool files graph script left statuses.Memory text doc told before now h g s r first
    second third last =
    tt
complete pool files graph script left statuses.TooLong text doc told before now h g s r first second
    third last =
    graph_within files graph script doc g (within files script text SCRIPT_LIMIT s) h.1
