use Rattle.std.proofs.Common.{◌≡◌, ◌<◌, length, sym, ◌∙◌, subst}
use Rattle.plain_certificates.specs.Tables.{at}
use Rattle.static_digraph.specs.Fixed.{row_of}
use Rattle.static_digraph.proofs.Laying.{row_read, row_there}
use Rattle.static_digraph.proofs.fixed.Fixed.out_row.Goals as goal

pub row-requires : goal.row-requires
row-requires c =
    let s = c.self.inside in
    let l = subst (λ f. c.args.node < length f.nodes) (sym c.self.view_is) c.requires in
    row_there (length s.nodes.items) (length s.arcs.items) (at 0 s.from.items) s.out.start.items
    s.out.arcs.items c.args.node l c.self.invariant.by_source

pub returns : goal.returns
returns c =
    let s = c.self.inside in
    let l = subst (λ f. c.args.node < length f.nodes) (sym c.self.view_is) c.requires in
    subst (λ f. c.row.result.now ≡ row_of (at 0 f.from) (length f.arcs) c.args.node) c.self.view_is
    (c.row.ensures ∙ row_read (length s.nodes.items) (length s.arcs.items) (at 0 s.from.items)
    s.out.start.items s.out.arcs.items c.args.node l c.self.invariant.by_source)
