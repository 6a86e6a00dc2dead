use Rattle.std.proofs.Common.{inl, inr, arith}
use Rattle.lemon_desk.proofs.NoFiles.{no_shape}
use Rattle.lemon_desk.proofs.unfiled.write_asked.Goals as goal

pub returns-in-Some-clause-ends : goal.returns-in-Some-clause-ends
returns-in-Some-clause-ends g c =
    let ends = c.make_graph.ensures.ends in
    let wanted = c.in-Some.wanted in (
      ends.0,
      ends.1,
      inr (record {
        seed = wanted.seed;
        nodes = wanted.nodes;
        arcs = wanted.arcs;
        asks = c.in-Some.ensures.some;
        ends = ends.2;
      }),
    )

pub returns-in-None-clause-ends : goal.returns-in-None-clause-ends
returns-in-None-clause-ends g c =
    let ends = c.refuse_words.ensures.ends in
    let none = no_shape _ c.requires.run c.in-None.ensures.none c.requires.drill in
    (ends.0, ends.1, inl (none, ends.2))
