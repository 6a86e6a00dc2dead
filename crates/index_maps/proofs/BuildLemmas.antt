-- A table of labels through a build.
use Rattle.std.proofs.Common.{◌≡◌, ℕ, List, [], ◌∷◌, map, refl, ap, ◌∙◌, arith}
use Rattle.std.proofs.lemmas.Grind.{common_steps}
use Rattle.base_items.specs.declared.items.Fact.{Fact}
use Rattle.observe_core.specs.Held.{Entry, entry_id, Labels}
use Rattle.plain_digraph.specs.Lists.{AllOf}
use Rattle.plain_digraph.specs.Rising.{with_item}
use Rattle.observe_core.specs.Items.{place_all}
use Rattle.observe_core.specs.Told.{new_entry}
use Rattle.observe_core.proofs.ItemLemmas.{all-place}
use Rattle.columns.specs.Views.{entries_told, entry}
use Rattle.index_maps.specs.Labels.{Owned, place_of, labelled}
use Rattle.index_maps.proofs.LabelLemmas.{labelled-place}

pub none_labelled : (table : List Owned) (es : List (Entry ℕ)) → labelled table es ≡ [] → es ≡ []
none_labelled table [] h = refl
none_labelled table (e ∷ es) h = cc

bare_places : (j : ℕ) (es : List (Entry ℕ)) → AllOf (λ e. e.value ≡ 0) es → place_of es j ≡ 0
bare_places j [] h = refl
bare_places j (e ∷ es) h = let r = bare_places j es h.1 in let p =
    h.0 in grind (arith, common_steps, r, p)

bare_told : (fs : List Fact) (es : List (Entry ℕ)) → AllOf (λ e. e.value ≡ 0) es
    → AllOf (λ e. e.value ≡ 0) (place_all entry_id (entries_told 0 fs) es)
bare_told [] es h = h
bare_told (f ∷ fs) es h =
    bare_told fs (with_item entry_id (entry f.id 0) es)
    (all-place (λ (e : Entry ℕ). e.value ≡ 0) entry_id (entry f.id 0) es refl h)

pub told_places : (j : ℕ) (fs : List Fact)
    → place_of (place_all entry_id (entries_told 0 fs) []) j ≡ 0
told_places j fs = bare_places j (place_all entry_id (entries_told 0 fs) []) (bare_told fs [] tt)

pub told_labelled : (table : List Owned) (fs : List Fact) (es : List (Entry ℕ))
    → labelled table (place_all entry_id (entries_told 0 fs) es)
    ≡ place_all entry_id (map (λ f. new_entry Labels f.id) fs) (labelled table es)
told_labelled table [] es = refl
told_labelled table (f ∷ fs) es = told_labelled table fs (with_item entry_id (entry f.id 0) es)
    ∙ ap (place_all entry_id (map (λ f. new_entry Labels f.id) fs)) (labelled-place table f.id es)
