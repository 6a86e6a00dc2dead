-- The row of an arc in a document.
use Rattle.std.proofs.Common.{◌≡◌, ℕ, ◌<◌, List, length, get_or, sym, ap, subst, Some, ◌∙◌}
use Rattle.base_items.specs.declared.items.Fact.{Fact}
use Rattle.base_items.specs.declared.items.ItemSort.TheVariants.{Arc}
use Rattle.lgf_file.specs.Rows.{Cells}
use Rattle.lgf_file.specs.declared.documents.Link.{Link}
use Rattle.plain_digraph.specs.Items.{fact_of, source_of, target_of}
use Rattle.plain_digraph.specs.Valid.{IsValid}
use Rattle.plain_world.specs.World.{World}
use Rattle.plain_world.specs.Documents.{cells_of, link_of, row_of}
use Rattle.desk_world.specs.RowPlaces.{row_places}
use Rattle.desk_world.proofs.ArcEnds.{source_told, target_told, ends_live}
use Rattle.desk_world.proofs.RowPlaces.{place_listed, place_is}

module _ (world : World) (valid : IsValid world.graph) (id : ℕ) (fact : Fact)
    (told : fact_of world.graph Arc id ≡ Some fact) (places : List ℕ)
    (are : places ≡ row_places world.graph) where
  pub from_listed : fact.from < length places
  from_listed =
      subst (λ ps. fact.from < length ps) (sym are)
      (place_listed world valid fact.from (ends_live world.graph id fact told valid).0)

  pub to_listed : fact.to < length places
  to_listed =
      subst (λ ps. fact.to < length ps) (sym are)
      (place_listed world valid fact.to (ends_live world.graph id fact told valid).1)

  from_is : get_or places fact.from 0 ≡ row_of world (source_of world.graph id)
  from_is =
      ap (λ ps. get_or ps fact.from 0) are
      ∙ place_is world valid fact.from (ends_live world.graph id fact told valid).0 0
      ∙ ap (row_of world) (source_told world.graph id fact told)

  to_is : get_or places fact.to 0 ≡ row_of world (target_of world.graph id)
  to_is =
      ap (λ ps. get_or ps fact.to 0) are
      ∙ place_is world valid fact.to (ends_live world.graph id fact told valid).1 0
      ∙ ap (row_of world) (target_told world.graph id fact told)

  abbrev pub made_link : Cells → Link
  made_link values = record {
    from = get_or places fact.from 0;
    to = get_or places fact.to 0;
    values = values;
  }

  -- the places at its ends are those of the rows of its source and its target
  pub link_told : (values : Cells) → values ≡ cells_of world Arc id
      → made_link values ≡ link_of world id
  link_told values is = λ i. record { from = from_is i; to = to_is i; values = is i }
