-- The texts of replies and of refusals.
use Rattle.std.specs.Prelude.{ℕ, ℤ, Bool, List, [], ◌∷◌, ◌++◌, length, codes, count_by}
use Rattle.std.specs.List.{flat_map}
use Rattle.std.specs.Fmt.{decimal, signed_decimal}
use Rattle.base_items.specs.declared.items.ItemSort.{ItemSort}
use Rattle.base_items.specs.declared.items.ItemSort.TheVariants.{Node, Arc}
use Rattle.token_text.specs.Written.{written}
use Rattle.report_text.specs.declared.faults.Fault.{Fault}
use Rattle.report_text.specs.declared.faults.Fault.TheVariants as fault
use Rattle.report_text.specs.declared.replies.Reply.{Reply}
use Rattle.report_text.specs.declared.replies.Reply.TheVariants as reply
use Rattle.report_text.specs.Lines.{line_text, lines_text, name_words, number_words, signed_words}
use Rattle.report_text.specs.Lines.{node_words, arc_words, flow_words, potential_words, mean_words}
use Rattle.report_text.specs.Lines.{pair_words, guard_words, snap_words, least_words, side_word}
use Rattle.report_text.specs.Lines.{path_text, is_reached}

-- What the items of a sort are called.
abbrev pub sort_name : ItemSort → List ℕ
sort_name Node = codes "nodes"
sort_name Arc = codes "arcs"

-- ---- refusals

-- The number and the name of a fault.
abbrev pub title : Fault → List ℕ
title (fault.BadLine column) = codes "1 BadLine"
title (fault.Unknown name) = codes "2 Unknown"
title (fault.Taken name) = codes "3 Taken"
title (fault.Vetoed guard) = codes "4 Vetoed"
title (fault.Stale snapshot) = codes "5 Stale"
title (fault.BadValue item token) = codes "6 BadValue"
title (fault.WrongType name) = codes "7 WrongType"
title (fault.OutOfRange item value) = codes "8 OutOfRange"
title (fault.SameNode node) = codes "9 SameNode"
title (fault.Negative arc) = codes "10 Negative"
title (fault.Crossed arc) = codes "11 Crossed"
title (fault.NotBipartite arc) = codes "12 NotBipartite"
title (fault.Full sort limit) = codes "13 Full"
title (fault.TooDeep limit) = codes "14 TooDeep"
title (fault.NoGuard kind) = codes "15 NoGuard"
title (fault.InUse user) = codes "16 InUse"
title (fault.NoErase command) = codes "17 NoErase"

-- The words that a fault keeps: names and tokens as they are written, and numbers in decimal
-- digits.
abbrev pub kept : Fault → List (List ℕ)
kept (fault.BadLine column) = decimal column ∷ []
kept (fault.Unknown name) = written name ∷ []
kept (fault.Taken name) = written name ∷ []
kept (fault.Vetoed guard) = written guard ∷ []
kept (fault.Stale snapshot) = written snapshot ∷ []
kept (fault.BadValue item token) = written item ∷ written token ∷ []
kept (fault.WrongType name) = written name ∷ []
kept (fault.OutOfRange item value) = written item ∷ signed_decimal value ∷ []
kept (fault.SameNode node) = written node ∷ []
kept (fault.Negative arc) = written arc ∷ []
kept (fault.Crossed arc) = written arc ∷ []
kept (fault.NotBipartite arc) = written arc ∷ []
kept (fault.Full sort limit) = sort_name sort ∷ decimal limit ∷ []
kept (fault.TooDeep limit) = decimal limit ∷ []
kept (fault.NoGuard kind) = written kind ∷ []
kept (fault.InUse user) = written user ∷ []
kept (fault.NoErase command) = written command ∷ []

-- ! LINE NUMBER NAME KEPT
abbrev pub fault_text : ℕ → Fault → List ℕ
fault_text line fault = line_text (codes "!") (decimal line ∷ title fault ∷ kept fault)

-- ---- replies

-- TITLE COUNT
abbrev pub count_text : List ℕ → ℕ → List ℕ
count_text title count = line_text title (number_words count)

-- A line for each, and their number.
abbrev pub listing_text : {X : Type 0} → List ℕ → (X → List (List ℕ)) → List X → List ℕ → List ℕ
listing_text title words lines end = lines_text title words lines ++ count_text end (length lines)

-- TITLE NUMBER, one that may be below 0
abbrev pub signed_text : List ℕ → ℤ → List ℕ
signed_text title number = line_text title (signed_words number)

-- Whether a set supplies too much or too little, its supply and the limit.
abbrev pub barrier_text : Bool → ℤ → ℤ → List ℕ
barrier_text over supply limit =
    line_text (codes "barrier") (side_word over ∷ signed_decimal supply ∷ signed_decimal limit ∷ [])

-- A total and a time.
abbrev pub mean_text : ℤ → ℤ → List ℕ
mean_text total time =
    line_text (codes "mean") (signed_decimal total ∷ signed_decimal time ∷ [])

-- The text of a reply.
abbrev pub reply_text : Reply → List ℕ
reply_text reply.Quiet = []
reply_text (reply.Nodes lines) = listing_text (codes "n") node_words lines (codes "nodes")
reply_text (reply.Arcs lines) = listing_text (codes "a") arc_words lines (codes "arcs")
reply_text (reply.Out lines) = listing_text (codes "a") arc_words lines (codes "out")
reply_text (reply.In lines) = listing_text (codes "a") arc_words lines (codes "in")
reply_text (reply.Value value) = line_text (codes "value") (name_words value)
reply_text (reply.Total sum) = signed_text (codes "total") sum
reply_text (reply.Count number) = count_text (codes "count") number
reply_text (reply.Least least) = line_text (codes "least") (least_words least)
reply_text (reply.Items lines) = listing_text (codes "i") node_words lines (codes "items")
reply_text (reply.Guards lines) = listing_text (codes "g") guard_words lines (codes "guards")
reply_text (reply.Snaps lines) = listing_text (codes "k") snap_words lines (codes "snaps")
reply_text (reply.Paths lines) =
    flat_map path_text lines ++ count_text (codes "paths") (count_by is_reached lines)
reply_text (reply.Cycle arcs length) =
    lines_text (codes "a") arc_words arcs ++ signed_text (codes "cycle") length
reply_text (reply.MaxFlow flows side value) =
    lines_text (codes "f") flow_words flows ++ lines_text (codes "s") name_words side
    ++ signed_text (codes "maxflow") value
reply_text (reply.Circulation flows) =
    lines_text (codes "f") flow_words flows ++ line_text (codes "circulation") []
reply_text (reply.Barrier set over supply limit) =
    lines_text (codes "b") name_words set ++ barrier_text over supply limit
reply_text (reply.Cheapest flows potentials cost) =
    lines_text (codes "f") flow_words flows ++ lines_text (codes "p") potential_words potentials
    ++ signed_text (codes "cost") cost
reply_text (reply.FreeCycle flows arcs cost) =
    lines_text (codes "f") flow_words flows ++ lines_text (codes "a") arc_words arcs
    ++ signed_text (codes "unbounded") cost
reply_text (reply.Match pairs set) =
    lines_text (codes "m") pair_words pairs ++ lines_text (codes "h") name_words set
    ++ count_text (codes "match") (length pairs)
reply_text (reply.Heavy pairs duals weight) =
    lines_text (codes "m") pair_words pairs ++ lines_text (codes "y") potential_words duals
    ++ signed_text (codes "heaviest") weight
reply_text (reply.Assigned pairs duals cost) =
    lines_text (codes "m") pair_words pairs ++ lines_text (codes "y") potential_words duals
    ++ signed_text (codes "assign") cost
reply_text (reply.Short set) = listing_text (codes "h") name_words set (codes "unassigned")
reply_text (reply.Mean arcs potentials total time) =
    lines_text (codes "a") arc_words arcs ++ lines_text (codes "p") mean_words potentials
    ++ mean_text total time
reply_text (reply.Acyclic nodes) =
    lines_text (codes "t") name_words nodes ++ line_text (codes "acyclic") []
reply_text (reply.Save name bytes) = count_text (codes "saved") (length bytes)
