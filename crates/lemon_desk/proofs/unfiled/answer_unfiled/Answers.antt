use Rattle.std.proofs.Common.{◌≡◌, [], inl, inr, refl, sym, ap, ◌∙◌, subst}
use Rattle.std.proofs.lemmas.Bool.{true≢false}
use Rattle.std.specs.Prelude.{IsSome}
use Rattle.script_runs.proofs.Nothing.{took_nothing}
use Rattle.lemon_desk.proofs.Seated.{all_seated, each_seated}
use Rattle.lemon_desk.proofs.Finals.{there, there_before, holds_of_last, as_drill}
use Rattle.lemon_desk.proofs.unfiled.answer_unfiled.Goals as goal

-- ---- the words ask for no drill

pub returns-in_default-clause-ends : goal.returns-in_default-clause-ends
returns-in_default-clause-ends g c =
    let wrote = c.write_asked.ensures.ends in
    (wrote.0, wrote.1, inl (wrote.2, refl))

pub returns-in_default-clause-handed : goal.returns-in_default-clause-handed
returns-in_default-clause-handed g c = (
  λ there. absurd (true≢false (sym there)),
  λ drilled. absurd (c.in_default.ensures.none drilled.0 drilled.1 drilled.2),
)

-- ---- memory ran out before the drill

pub returns-in_default-wrap_boxes-clause-ends : goal.returns-in_default-wrap_boxes-clause-ends
returns-in_default-wrap_boxes-clause-ends g c = (
  [],
  took_nothing _,
  inr (record {
    seed = c.in-Some.wanted.seed;
    lines = c.in-Some.wanted.lines;
    asks = c.in-Some.ensures.some;
    ends = refl;
  }),
)

-- ---- the drill was run

pub drill-status-requires-clause-untold : goal.drill-status-requires-clause-untold
drill-status-requires-clause-untold g c =
    all_seated _ _ _ c.args.pool.items _ c.in-Ok.ensures c.requires.untold (λ it untold. untold)

pub returns-clause-ends : goal.returns-clause-ends
returns-clause-ends g c =
    let ran = c.drill-status.ensures.ends in (
      ran.0,
      ran.1,
      inr (record {
        seed = c.in-Some.wanted.seed;
        lines = c.in-Some.wanted.lines;
        asks = c.in-Some.ensures.some;
        ends = as_drill _ _ _ _ c.as_final.ensures _ _ _ _ _ _ _ _
            (each_seated _ _ _ (λ it. refl) c.args.pool.items _ c.in-Ok.ensures) ran.2;
      }),
    )

pub returns-clause-handed : goal.returns-clause-handed
returns-clause-handed g c =
    let is = c.as_final.ensures in
    let done = c.drill-status.ensures.handed in (
      λ back. (
        _,
        _,
        c.in-Some.ensures.some,
        done.0 (there_before _ _ (subst (λ found. IsSome found) is back)),
      ),
      λ drilled. subst (λ found. IsSome found) (sym is) (there _ _ (done.1 drilled.3)),
    )

pub returns-clause-in_step : goal.returns-clause-in_step
returns-clause-in_step g c =
    holds_of_last _ _ _ c.as_final.ensures _ c.drill-status.ensures.in_step
