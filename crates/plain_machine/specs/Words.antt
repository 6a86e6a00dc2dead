-- The words after the program's name, and what they ask for.
use Rattle.std.specs.Prelude.{◌≡◌, ◌≤◌, ℕ, List, [], ◌∷◌, codes, map}
use Rattle.std.specs.Str.Parse.{IsNumeral, digits_value}
use Rattle.std.specs.declared.vec.Vec.{Vec}
use Rattle.std.specs.declared.alloc.Global.{Global}
use Rattle.plain_machine.specs.declared.limits.TheConstants.{MAX_SEED, MAX_MADE_NODES}
use Rattle.plain_machine.specs.declared.limits.TheConstants.{MAX_MADE_ARCS, MAX_DRILLED}

-- The words as bytes.
abbrev pub contents : List (Vec ℕ Global) → List (List ℕ)
contents words = map (λ word. word.items) words

-- A name that isn't empty and doesn't begin with a dash.
abbrev pub IsFileName : List ℕ → Type 0
IsFileName [] = ⊥
IsFileName (byte ∷ bytes) = byte ≡ 45 → ⊥

-- One or more decimal digits, leading zeros allowed, of this value.
abbrev pub IsNumber : List ℕ → ℕ → Type 0
IsNumber digits number = IsNumeral 10 digits × (number ≡ digits_value 10 digits)

-- The number is within these bounds.
abbrev pub IsWithin : ℕ → ℕ → ℕ → Type 0
IsWithin low high number = (low ≤ number) × (number ≤ high)

-- The digits say this number, which is within these bounds.
abbrev pub IsBounded : ℕ → ℕ → List ℕ → ℕ → Type 0
IsBounded low high digits number = IsNumber digits number × IsWithin low high number

-- What words ask for: a run of a script on a graph, a graph from a seed with so many nodes and
-- arcs, or a drill of so many lines that are drawn from a seed.
pub data Shape : Type 0 where
  RunOn : (graph script : List ℕ) → Shape
  MakeOf : (seed nodes arcs : ℕ) → Shape
  DrillOf : (seed lines : ℕ) → Shape

-- The words ask for this graph.
pub record AsksGraph (words : List (List ℕ)) (seed nodes arcs : ℕ) : Type 0 where
  pub first : List ℕ
  pub second : List ℕ
  pub third : List ℕ
  pub words_are : words ≡ codes "make" ∷ first ∷ second ∷ third ∷ []
  pub seed_is : IsBounded 1 MAX_SEED first seed
  pub nodes_are : IsBounded 1 MAX_MADE_NODES second nodes
  pub arcs_are : IsBounded 0 MAX_MADE_ARCS third arcs

-- The words ask for this drill.
pub record AsksDrill (words : List (List ℕ)) (seed lines : ℕ) : Type 0 where
  pub first : List ℕ
  pub second : List ℕ
  pub words_are : words ≡ codes "drill" ∷ first ∷ second ∷ []
  pub seed_is : IsBounded 1 MAX_SEED first seed
  pub lines_are : IsBounded 0 MAX_DRILLED second lines

-- The words have this shape.
abbrev pub Asks : List (List ℕ) → Shape → Type 0
Asks words (RunOn graph script) =
    (words ≡ codes "run" ∷ graph ∷ script ∷ []) × IsFileName graph × IsFileName script
Asks words (MakeOf seed nodes arcs) = AsksGraph words seed nodes arcs
Asks words (DrillOf seed lines) = AsksDrill words seed lines

-- The words have no shape.
abbrev pub AskNothing : List (List ℕ) → Type 0
AskNothing words = (shape : Shape) → Asks words shape → ⊥

abbrev pub usage : List ℕ
usage = codes "usage: lgdesk run GRAPH SCRIPT | make SEED N M | drill SEED K\n"
