-- How many stamps a command takes.
use Rattle.std.proofs.Common.{◌*◌, ◌≤◌, ℕ, Bool, true, false, sym, subst}
use Rattle.std.proofs.Common.{List, [], ◌∷◌, ◌++◌, map, filter, length, Option, None, Some}
use Rattle.std.proofs.Common.{is_some, arith}
use Rattle.std.specs.Prelude.{option_map, option_and_then}
use Rattle.std.specs.Option.{option_map_or}
use Rattle.std.specs.List.{filter_map, cons_option, range_with_len}
use Rattle.std.specs.FinMap as fin
use Rattle.std.proofs.lemmas.List.{length-append, length-map}
use Rattle.std.proofs.lemmas.List.FromFn.{length-range_with_len}
use Rattle.std.proofs.lemmas.List.Sorted.{length_permutation}
use Rattle.std.proofs.lemmas.List.Sums.{length-filter, count_by-le-length}
use Rattle.base_items.specs.declared.items.ItemSort.TheVariants.{Node, Arc}
use Rattle.base_items.specs.declared.limits.TheConstants.{MAX_ARCS}
use Rattle.script_words.specs.declared.commands.Command.TheVariants as commands
use Rattle.plain_digraph.specs.Digraph.{Digraph}
use Rattle.plain_digraph.specs.Items.{ids, fact_of, facts, out_arcs, in_arcs, source_of, target_of}
use Rattle.plain_digraph.specs.Steps.{add_node, new_node}
use Rattle.plain_digraph.specs.PlainSteps.{AddArc, MoveFrom, MoveTo, PlaceBack}
use Rattle.plain_digraph.specs.Copies.{Copy, as_copied, is_moved, moved}
use Rattle.plain_digraph.specs.Alterations.{refusable_steps, sources_to, targets_to, restoring}
use Rattle.plain_digraph.specs.Alterations.{contraction, loop_contraction, node_split, is_neither}
use Rattle.plain_digraph.specs.Valid as digraph
use Rattle.plain_digraph.proofs.Contracted.{contraction_is_known, loop_contraction_is_known}
use Rattle.plain_digraph.proofs.Live.{live_counted}
use Rattle.plain_digraph.proofs.Shares.{shared_length}
use Rattle.plain_world.specs.Tables.{entry}
use Rattle.plain_world.specs.Altering.{item_at}
use Rattle.plain_world.specs.Laws.{FewStampsAreTaken}

-- ---- lists of arcs

fewer : {X : Type 0} (test : X → Bool) (xs : List X) → length (filter test xs) ≤ length xs
fewer test xs =
    let size = length-filter test xs in
    let few = count_by-le-length test xs in
    omega (arith, size, few)

few_sources : (g : Digraph) → digraph.IsValid g → length g.by_source ≤ MAX_ARCS
few_sources g valid =
    let size = shared_length (fin.keys g.ends) g.free_arcs g.used_arcs valid.arc_ids in
    let count = live_counted g Arc valid in
    let few = valid.few_arcs in
    omega (arith, size, count, few)

few_out : (g : Digraph) (node : ℕ) → digraph.IsValid g → length (out_arcs g node) ≤ MAX_ARCS
few_out g node valid =
    let less : length (out_arcs g node) ≤ length (ids g.by_source) = fewer _ (ids g.by_source) in
    let size = length-map g.by_source (λ p. p.0) in
    let few = few_sources g valid in
    omega (arith, less, size, few)

few_in : (g : Digraph) (node : ℕ) → digraph.IsValid g → length (in_arcs g node) ≤ MAX_ARCS
few_in g node valid =
    let less : length (in_arcs g node) ≤ length (ids g.by_target) = fewer _ (ids g.by_target) in
    let size = length_permutation (ids g.by_target) (fin.keys g.ends) valid.targets_whole in
    let all = shared_length (fin.keys g.ends) g.free_arcs g.used_arcs valid.arc_ids in
    let few = valid.few_arcs in
    omega (arith, less, size, all, few)

fewer_told : {X : Type 0} {Y : Type 0} (told : X → Option Y) (xs : List X)
    → length (filter_map told xs) ≤ length xs
fewer_told told [] = omega arith
fewer_told told (x ∷ xs) =
    let rest = fewer_told told xs in
    let more = filter_map told xs in
    elim (told x) as (λ o. length (cons_option o more) ≤ length (x ∷ xs)) [
      | None ↦ omega (arith, rest)
      | Some y ↦ omega (arith, rest)
    ]

few_moved : (g : Digraph) (copy : Copy) → digraph.IsValid g → length (moved copy g) ≤ MAX_ARCS
few_moved g copy valid =
    let c = as_copied copy g in
    let less = fewer (is_moved g) (facts c Arc) in
    let told = fewer_told (fact_of c Arc) (range_with_len 0 g.used_arcs) in
    let size = length-range_with_len 0 g.used_arcs in
    let few = valid.few_arcs in
    omega (arith, less, told, size, few)

-- ---- alterations

few_both : (u : ℕ) (sources targets : List ℕ) → length sources ≤ MAX_ARCS
    → length targets ≤ MAX_ARCS
    → length (sources_to u sources ++ targets_to u targets) ≤ 2 * MAX_ARCS
few_both u sources targets few also =
    let size = length-append (sources_to u sources) (targets_to u targets) in
    let size_a = length-map sources (λ arc. MoveFrom arc u) in
    let size_b = length-map targets (λ arc. MoveTo arc u) in
    omega (arith, few, also, size, size_a, size_b)

few_contracted : (g : Digraph) (u v : ℕ) → digraph.IsValid g
    → length (refusable_steps g (contraction u v)) ≤ 2 * MAX_ARCS
few_contracted g u v valid =
    let out = filter (λ arc. is_neither u v (target_of g arc)) (out_arcs g v) in
    let into = filter (λ arc. is_neither u v (source_of g arc)) (in_arcs g v) in
    let less = fewer (λ arc. is_neither u v (target_of g arc)) (out_arcs g v) in
    let also = fewer (λ arc. is_neither u v (source_of g arc)) (in_arcs g v) in
    let few = few_out g v valid in
    let few_b = few_in g v valid in
    subst (λ steps. length steps ≤ 2 * MAX_ARCS) (sym (contraction_is_known g u v valid))
    (few_both u out into (omega (arith, less, few)) (omega (arith, also, few_b)))

few_with_loops : (g : Digraph) (u v : ℕ) → digraph.IsValid g
    → length (refusable_steps g (loop_contraction u v)) ≤ 2 * MAX_ARCS
few_with_loops g u v valid =
    subst (λ steps. length steps ≤ 2 * MAX_ARCS) (sym (loop_contraction_is_known g u v valid))
    (few_both u (out_arcs g v) (in_arcs g v) (few_out g v valid) (few_in g v valid))

few_split : (g : Digraph) (node : ℕ) (connect : Bool) → digraph.IsValid g
    → length (refusable_steps g (node_split g node connect)) ≤ 2 * MAX_ARCS
few_split g node false valid =
    let arcs = out_arcs (add_node g) node in
    let few : length arcs ≤ MAX_ARCS = few_out g node valid in
    let size = length-append (sources_to (new_node g) arcs) [] in
    let size_b = length-map arcs (λ arc. MoveFrom arc (new_node g)) in
    omega (arith, few, size, size_b)
few_split g node true valid =
    let arcs = out_arcs (add_node g) node in
    let few : length arcs ≤ MAX_ARCS = few_out g node valid in
    let size = length-append (sources_to (new_node g) arcs)
    (AddArc node (new_node g) ∷ []) in
    let size_b = length-map arcs (λ arc. MoveFrom arc (new_node g)) in
    omega (arith, few, size, size_b)

few_restored : (g : Digraph) (o : Option (Option Copy)) → digraph.IsValid g
    → option_map_or (λ alteration. length (refusable_steps g alteration))
    (option_map restoring (option_and_then (λ copy. copy) o)) 0 ≤ 2 * MAX_ARCS
few_restored g None valid = omega arith
few_restored g (Some None) valid = omega arith
few_restored g (Some (Some copy)) valid =
    let facts = moved copy g in
    let few = few_moved g copy valid in
    let size = length-append (map PlaceBack facts) [] in
    let size_b = length-map facts PlaceBack in
    let all : length (map PlaceBack facts ++ []) ≤ 2 * MAX_ARCS =
    omega (arith, few, size, size_b) in
    all

one : 1 ≤ 2 * MAX_ARCS
one = omega arith

none : 0 ≤ 2 * MAX_ARCS
none = omega arith

pub few_taken : FewStampsAreTaken
few_taken world (commands.Contract u v false) ok =
    few_contracted world.graph (item_at world Node u) (item_at world Node v) ok.graph_ok
few_taken world (commands.Contract u v true) ok =
    few_with_loops world.graph (item_at world Node u) (item_at world Node v) ok.graph_ok
few_taken world (commands.SplitNode node label arc_label) ok =
    few_split world.graph (item_at world Node node) (is_some arc_label) ok.graph_ok
few_taken world (commands.SplitArc arc label arc_label) ok =
    let three : 3 ≤ 2 * MAX_ARCS = omega arith in
    three
few_taken world (commands.Restore snapshot) ok =
    few_restored world.graph (entry world.snapshots snapshot) ok.graph_ok
few_taken world (commands.AddNode label) ok = one
few_taken world (commands.AddArc label from to) ok = one
few_taken world (commands.Source arc node) ok = one
few_taken world (commands.Target arc node) ok = one
few_taken world (commands.Turn arc) ok = one
few_taken world _ ok = none
