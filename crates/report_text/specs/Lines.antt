-- The lines of replies, each a title and words behind it.
use Rattle.std.specs.Prelude.{ℕ, ℤ, Bool, true, false, Option, None, Some, List, [], ◌∷◌, ◌++◌}
use Rattle.std.specs.Prelude.{codes}
use Rattle.std.specs.Option.{option_map_or}
use Rattle.std.specs.List.{flat_map}
use Rattle.std.specs.Fmt.{decimal, signed_decimal}
use Rattle.base_items.specs.declared.items.ItemSort.{ItemSort}
use Rattle.base_items.specs.declared.items.ItemSort.TheVariants.{Node, Arc}
use Rattle.token_text.specs.Written.{written}
use Rattle.report_text.specs.declared.replies.NodeLine.{NodeLine}
use Rattle.report_text.specs.declared.replies.ArcLine.{ArcLine}
use Rattle.report_text.specs.declared.replies.FlowLine.{FlowLine}
use Rattle.report_text.specs.declared.replies.PotentialLine.{PotentialLine}
use Rattle.report_text.specs.declared.replies.MeanLine.{MeanLine}
use Rattle.report_text.specs.declared.replies.PairLine.{PairLine}
use Rattle.report_text.specs.declared.replies.PathLine.{PathLine}
use Rattle.report_text.specs.declared.replies.PathLine.TheVariants as path
use Rattle.report_text.specs.declared.replies.GuardNumbers.{GuardNumbers}
use Rattle.report_text.specs.declared.replies.GuardNumbers.TheVariants as guard
use Rattle.report_text.specs.declared.replies.GuardLine.{GuardLine}
use Rattle.report_text.specs.declared.replies.SnapLine.{SnapLine}
use Rattle.report_text.specs.declared.replies.SnapLine.TheVariants as snap

-- A word behind a blank.
abbrev pub word : List ℕ → List ℕ
word bytes = 32 ∷ bytes

-- TITLE, and some words.
abbrev pub line_text : List ℕ → List (List ℕ) → List ℕ
line_text title words = title ++ flat_map word words ++ 10 ∷ []

-- A line with this title for each of a list, with the words that each has.
abbrev pub lines_text : {X : Type 0} → List ℕ → (X → List (List ℕ)) → List X → List ℕ
lines_text title words lines = flat_map (λ line. line_text title (words line)) lines

-- ---- the words of a line, behind its title

-- NAME
abbrev pub name_words : List ℕ → List (List ℕ)
name_words name = written name ∷ []

-- NUMBER, one that is never below 0
abbrev pub number_words : ℕ → List (List ℕ)
number_words number = decimal number ∷ []

-- NUMBER, one that may be below 0
abbrev pub signed_words : ℤ → List (List ℕ)
signed_words number = signed_decimal number ∷ []

-- ID NAME
abbrev pub node_words : NodeLine → List (List ℕ)
node_words line = decimal line.id ∷ written line.name ∷ []

-- ID NAME FROM TO
abbrev pub arc_words : ArcLine → List (List ℕ)
arc_words line = decimal line.id ∷ written line.name ∷ written line.from ∷ written line.to ∷ []

-- ARC FLOW
abbrev pub flow_words : FlowLine → List (List ℕ)
flow_words line = written line.arc ∷ signed_decimal line.flow ∷ []

-- NODE POTENTIAL
abbrev pub potential_words : PotentialLine → List (List ℕ)
potential_words line = written line.node ∷ signed_decimal line.pi ∷ []

-- NODE POTENTIAL
abbrev pub mean_words : MeanLine → List (List ℕ)
mean_words line = written line.node ∷ signed_decimal line.pi ∷ []

-- ARC LEFT RIGHT
abbrev pub pair_words : PairLine → List (List ℕ)
pair_words line = written line.arc ∷ written line.left ∷ written line.right ∷ []

-- The word for a sort.
abbrev pub sort_word : ItemSort → List ℕ
sort_word Node = codes "node"
sort_word Arc = codes "arc"

-- The kind of a guard, and its numbers.
abbrev pub numbers_words : GuardNumbers → List (List ℕ)
numbers_words (guard.Quota k items) = codes "quota" ∷ decimal k ∷ decimal items ∷ []
numbers_words (guard.Loopless items) = codes "loopless" ∷ decimal items ∷ []
numbers_words (guard.Simple items) = codes "simple" ∷ decimal items ∷ []
numbers_words (guard.OutCap k items) = codes "outcap" ∷ decimal k ∷ decimal items ∷ []
numbers_words (guard.Fuse left) = codes "fuse" ∷ decimal left ∷ []
numbers_words (guard.Tally added erased moved) =
    codes "tally" ∷ decimal added ∷ decimal erased ∷ decimal moved ∷ []

-- NAME SORT KIND NUMBERS
abbrev pub guard_words : GuardLine → List (List ℕ)
guard_words line = written line.name ∷ sort_word line.sort ∷ numbers_words line.numbers

-- NAME valid NODES ARCS, or NAME stale
abbrev pub snap_words : SnapLine → List (List ℕ)
snap_words (snap.Valid name nodes arcs) =
    written name ∷ codes "valid" ∷ decimal nodes ∷ decimal arcs ∷ []
snap_words (snap.Stale name) = written name ∷ codes "stale" ∷ []

-- VALUE NAME, or - where there are no items
abbrev pub least_words : Option (ℤ × List ℕ) → List (List ℕ)
least_words None = codes "-" ∷ []
least_words (Some least) = signed_decimal least.0 ∷ written least.1 ∷ []

-- Whether a set supplies more than can leave it, or less than must.
abbrev pub side_word : Bool → List ℕ
side_word true = codes "over"
side_word false = codes "under"

-- ---- paths

-- d NAME DIST ARC, with - for the arc of the start; or u NAME
abbrev pub path_text : PathLine → List ℕ
path_text (path.Reached node dist arc) =
    line_text (codes "d")
    (written node ∷ signed_decimal dist ∷ option_map_or written arc (codes "-") ∷ [])
path_text (path.Unreached node) = line_text (codes "u") (written node ∷ [])

-- Whether there is a path to the node.
abbrev pub is_reached : PathLine → Bool
is_reached (path.Reached node dist arc) = true
is_reached (path.Unreached node) = false
