use Rattle.std.proofs.Common.{◌∷◌, [], ◌++◌, Some, None, length, map, sym, ap, ◌∙◌, arith}
use Rattle.std.proofs.Common.{append_assoc}
use Rattle.std.proofs.lemmas.List.{append-nil}
use Rattle.plain_digraph.specs.PlainSteps.{PlaceBack}
use Rattle.snap_shots.specs.HalfViews.{kept_facts}
use Rattle.alter_graph.specs.declared.steps.Step.TheVariants.{Place}
use Rattle.alter_graph.specs.Steps.{plain_steps}
use Rattle.alter_graph.proofs.KeptWalk.{all_after, all_first, one_after, none_after}
use Rattle.alter_graph.proofs.Planned.{plain-append}
use Rattle.alter_graph.proofs.halves.gather.Goals as goal

pub facts-init : goal.facts-init
facts-init c =
    let fs = kept_facts c.args.half.now in
    record {
      walked = ap (λ l. plain_steps l ++ map PlaceBack (all_after None fs))
          c.new-steps.ensures.items
          ∙ ap (map PlaceBack) (all_first fs c.args.half.now.kept.rising);
    }

pub facts-smaller : goal.facts-smaller
facts-smaller c =
    let fs = kept_facts c.args.half.now in
    let e = ap length (one_after c.facts.after c.in-Some.fact fs
    c.args.half.now.kept.rising (sym c.in-Some.ensures)) in
    omega (arith, e)

pub facts-preserved : goal.facts-preserved
facts-preserved c =
    let fs = kept_facts c.args.half.now in
    let fact = c.in-Some.fact in
    let e = one_after c.facts.after fact fs c.args.half.now.kept.rising
    (sym c.in-Some.ensures) in
    let more = map PlaceBack (all_after (Some fact.id) fs) in
    record {
      walked = ap (λ l. plain_steps l ++ more) c.in_ok-push.ensures.items
          ∙ ap (λ l. l ++ more) (plain-append c.facts.steps.items (Place fact ∷ []))
          ∙ append_assoc (plain_steps c.facts.steps.items) (PlaceBack fact ∷ []) more
          ∙ ap (λ l. plain_steps c.facts.steps.items ++ map PlaceBack l) (sym e)
          ∙ c.facts.invariant.walked;
    }

pub returns : goal.returns
returns c =
    let fs = kept_facts c.args.half.now in
    let e = none_after c.facts.after fs (sym c.in_default.ensures) in
    sym (ap (λ l. plain_steps c.facts.steps.items ++ map PlaceBack l) e
    ∙ append-nil (plain_steps c.facts.steps.items)) ∙ c.facts.invariant.walked
