-- Items and their labels.
use Rattle.std.proofs.Common.{◌≡◌, ℕ, Bool, true, false, refl, sym, ◌∙◌, ap, [], Option, Some, None}
use Rattle.std.proofs.Common.{is_some}
use Rattle.std.specs.Prelude.{unwrap_or, ◌==◌}
use Rattle.std.specs.FinMap as fin
use Rattle.std.specs.Str.{bytes_eq}
use Rattle.std.proofs.lemmas.Slice.Eq.{bytes_eq-Decides}
use Rattle.std.proofs.lemmas.List.Sorted.{list_any-IsPermutation}
use Rattle.base_items.specs.declared.items.ItemSort.{ItemSort}
use Rattle.base_items.specs.declared.items.ItemSort.TheVariants.{Node, Arc}
use Rattle.plain_digraph.specs.Lists.{has}
use Rattle.plain_digraph.specs.Items.{ids, all_arcs, IsLive}
use Rattle.plain_digraph.specs.Valid as digraph
use Rattle.plain_digraph.proofs.Keys.{keys-has}
use Rattle.plain_digraph.proofs.Orders.{all_arcs_whole}
use Rattle.plain_world.specs.Tables.{Name}
use Rattle.plain_world.specs.World.{World, attached, live, label_of}
use Rattle.plain_world.specs.Valid.{IsWorld, IsAttached}
use Rattle.plain_world.specs.Laws.{ItemsAreNamed, UnusedNamesAreFree}
use Rattle.plain_world.proofs.Found.{find_only, find_none}

pub attached_ok : (world : World) (sort : ItemSort) → IsWorld world → IsAttached world sort
attached_ok world Node ok = ok.nodes_ok
attached_ok world Arc ok = ok.arcs_ok

-- whether an item is listed in the order of the base, and whether it has a label
arcs_alike : (world : World) (id : ℕ) → digraph.IsValid world.graph
    → has (all_arcs world.graph) id ≡ is_some (fin.get world.graph.ends id)
arcs_alike world id valid =
    list_any-IsPermutation (λ other. other == id) (all_arcs world.graph) (ids world.graph.by_source)
    (all_arcs_whole world.graph valid)
    ∙ (list_any-IsPermutation (λ other. other == id) (ids world.graph.by_source)
    (fin.keys world.graph.ends) valid.sources_whole
    ∙ sym (keys-has world.graph.ends id))

pub live_listed : (world : World) (sort : ItemSort) (id : ℕ) → digraph.IsValid world.graph
    → IsLive world.graph sort id → has (live world sort) id ≡ true
live_listed world Node id valid is = is
live_listed world Arc id valid is = arcs_alike world id valid ∙ is

pub listed_live : (world : World) (sort : ItemSort) (id : ℕ) → digraph.IsValid world.graph
    → has (live world sort) id ≡ true → IsLive world.graph sort id
listed_live world Node id valid at = at
listed_live world Arc id valid at = sym (arcs_alike world id valid) ∙ at

-- a label that is there, and the name that it then has
label_is : (o : Option Name) (name : Name) → is_some o ≡ true
    → bytes_eq (unwrap_or o []) name ≡ true → o ≡ Some name
label_is None name there same = absurd (false_not_true there)
  where
    false_not_true : false ≡ true → ⊥
    false_not_true e = cc
label_is (Some label) name there same = ap Some ((bytes_eq-Decides label name).0 same)

some_there : (o : Option Name) (name : Name) → o ≡ Some name → is_some o ≡ true
some_there o name is = ap is_some is

test_of : (o : Option Name) (name : Name) → o ≡ Some name → bytes_eq (unwrap_or o []) name ≡ true
test_of o name is = rw is ((bytes_eq-Decides name name).1 refl)

to_false : (b : Bool) → (b ≡ true → ⊥) → b ≡ false
to_false true never = absurd (never refl)
to_false false never = refl

pub items_named : ItemsAreNamed
items_named world sort id name ok is =
    let items = attached_ok world sort ok in
    let labels = (attached world sort).labels in
    find_only (λ other. bytes_eq (label_of world sort other) name) (live world sort) id
    (live_listed world sort id ok.graph_ok
    ((items.labelled id).1 (some_there (fin.get labels id) name is)))
    (test_of (fin.get labels id) name is)
    (λ other listed same.
    items.labels_differ other id name
    (label_is (fin.get labels other) name
    ((items.labelled other).0 (listed_live world sort other ok.graph_ok listed)) same) is)

pub names_free : UnusedNamesAreFree
names_free world sort name ok unused =
    let items = attached_ok world sort ok in
    let labels = (attached world sort).labels in
    find_none (λ other. bytes_eq (label_of world sort other) name) (live world sort)
    (λ other listed. to_false (bytes_eq (label_of world sort other) name) (λ same.
    unused other
    (label_is (fin.get labels other) name
    ((items.labelled other).0 (listed_live world sort other ok.graph_ok listed)) same)))
