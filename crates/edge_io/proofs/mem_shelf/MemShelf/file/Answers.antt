use Rattle.std.proofs.Common.{map, ap, sym, ◌∙◌, arith}
use Rattle.std.specs.Ordering.{nat_cmp}
use Rattle.std.specs.Cmp.Lexicographic.{slice_cmp, nat_list_cmp_total}
use Rattle.std.specs.FinMap.{get, find, get-from_entries}
use Rattle.std.proofs.lemmas.Map.Text.{is_eq-slice_cmp}
use Rattle.std.proofs.lemmas.Grind.{common_steps}
use Rattle.edge_io.specs.Memory.{ShelfInMemory, entry_of}
use Rattle.edge_io.proofs.mem_shelf.MemShelf.file.Goals as goal

pub loop-key-init : goal.loop-key-init
loop-key-init c =
    ap (λ (h : ShelfInMemory). get h.files c.args.name.now) (sym c.self.view_is)
    ∙ get-from_entries nat_list_cmp_total _ _
    ∙ ap (λ es. find (slice_cmp nat_cmp) c.args.name.now (map (entry_of (λ v. v.items)) es))
    (sym c.into_iter-key-iterator.ensures.into_iter_gives.0)

pub returns-then-eq : goal.returns-then-eq
returns-then-eq c = grind (arith, common_steps, is_eq-slice_cmp)

pub loop-key-preserved : goal.loop-key-preserved
loop-key-preserved c = grind (arith, common_steps, is_eq-slice_cmp)
