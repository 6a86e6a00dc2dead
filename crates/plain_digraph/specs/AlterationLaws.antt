-- The steps of an alteration may be taken part by part, and step by step.
use Rattle.std.specs.Prelude.{◌≡◌, List, ◌++◌}
use Rattle.plain_digraph.specs.Digraph.{Digraph}
use Rattle.plain_digraph.specs.PlainSteps.{PlainStep, after_steps}
use Rattle.plain_digraph.specs.Alterations.{Part, Alteration, unrolled, refusable_steps, all_steps}

-- the steps of an alteration are the refusable ones, and then the sure parts from where these lead
abbrev pub StepsInTurn : Type 0
StepsInTurn = (g : Digraph) (alteration : Alteration)
    → all_steps g alteration
    ≡ refusable_steps g alteration
    ++ unrolled (after_steps g (refusable_steps g alteration)) alteration.sure

-- some parts behind others begin where those lead
abbrev pub PartsInTurn : Type 0
PartsInTurn = (g : Digraph) (front back : List Part)
    → unrolled g (front ++ back) ≡ unrolled g front
    ++ unrolled (after_steps g (unrolled g front)) back

-- some steps behind others go on from where those lead
abbrev pub StepsLeadOn : Type 0
StepsLeadOn = (g : Digraph) (front back : List PlainStep)
    → after_steps g (front ++ back) ≡ after_steps (after_steps g front) back
