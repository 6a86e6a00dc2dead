-- The demands of each command, by their ranks.
use Rattle.std.proofs.Common.{◌≡◌, true, refl, Option, Some, None, map, arith}
use Rattle.std.proofs.lemmas.Grind.{common_steps}
use Rattle.script_words.specs.declared.commands.Command.TheVariants as commands
use Rattle.script_words.specs.declared.commands.LayerWord.{LayerWord}
use Rattle.script_words.specs.declared.commands.LayerWord.TheVariants as words
use Rattle.plain_world.specs.Tables.{Name}
use Rattle.plain_world.specs.Demands.{demands, flow_demands, pair_demands}
use Rattle.plain_world.specs.Order.{rank_of, never_falls, DemandsAreOrdered}

flow_ordered : (view : Name) (low up cost supply into : Option Name)
    → never_falls (map rank_of (flow_demands view low up cost supply into)) ≡ true
flow_ordered view low up cost supply into = grind (arith, common_steps)

pair_ordered : (view left : Name) (weight : Option Name)
    → never_falls (map rank_of (pair_demands view left weight)) ≡ true
pair_ordered view left None = refl
pair_ordered view left (Some weight) = refl

view_ordered : (view below : Name) (layer : LayerWord)
    → never_falls (map rank_of (demands (commands.View view layer below))) ≡ true
view_ordered view below (words.Sub nodes arcs) = grind (arith, common_steps)
view_ordered view below _ = refl

pub ordered : DemandsAreOrdered
ordered (commands.SplitNode node label None) = refl
ordered (commands.SplitNode node label (Some arc_label)) = refl
ordered (commands.View view layer below) = view_ordered view below layer
ordered (commands.MaxFlow view cap s t None) = refl
ordered (commands.MaxFlow view cap s t (Some into)) = refl
ordered (commands.Circulate view low up supply into) = flow_ordered view low up None supply into
ordered (commands.MinCost view low up cost supply into) =
    flow_ordered view low up (Some cost) supply into
ordered (commands.Simplex view low up cost supply into) =
    flow_ordered view low up (Some cost) supply into
ordered (commands.Match view left) = pair_ordered view left None
ordered (commands.Heaviest view left weight) = pair_ordered view left (Some weight)
ordered (commands.Assign view left cost) = pair_ordered view left (Some cost)
ordered (commands.MeanCycle view length None) = refl
ordered (commands.MeanCycle view length (Some time)) = refl
ordered _ = refl
