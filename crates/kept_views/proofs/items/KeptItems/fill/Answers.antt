use Rattle.std.proofs.Common.{◌≡◌, ◌+◌, ◌<◌, ◌∙◌, [], ◌∷◌, map, drop, get_or, length, refl, ap, sym}
use Rattle.std.proofs.Common.{subst, arith}
use Rattle.base_items.specs.declared.items.Fact.{Fact}
use Rattle.observe_core.specs.Held.{marked_id}
use Rattle.plain_digraph.specs.Rising.{with_item}
use Rattle.observe_core.specs.Items.{place_all}
use Rattle.observe_core.specs.Seen.{facts_of_marked}
use Rattle.observe_core.specs.Told.{new_marked}
use Rattle.fact_table.specs.Filling.{Fresh}
use Rattle.fact_table.specs.Table.{facts_of}
use Rattle.fact_table.proofs.FillLemmas.{fresh-start, fill-fresh}
use Rattle.kept_views.specs.Sound.{marked-facts}
use Rattle.kept_views.specs.ItemViews.{items_of}
use Rattle.kept_views.proofs.ItemsLemmas.{new-front}
use Rattle.kept_views.proofs.items.KeptItems.fill.Goals as goal

abbrev no_fact : Fact
no_fact = record { id = 0; from = 0; to = 0; from_at = 0; to_at = 0 }

pub loop-f-init : goal.loop-f-init
loop-f-init c =
    let self = c.args.self.now in
    let e = c.requires.empty in
    let f : facts_of self.table ≡ [] = sym (marked-facts self.marks.items (facts_of self.table))
    ∙ ap facts_of_marked e in
    record {
      all = refl;
      listings = refl;
      reach = omega arith;
      target = ap (place_all marked_id (map (new_marked self.all) c.args.all.now)) e;
      fresh = subst (Fresh c.args.all.now) (sym f)
          (fresh-start c.args.all.now c.requires.distinct c.requires.bounded);
    }

pub loop-f-preserved : goal.loop-f-preserved
loop-f-preserved c =
    let was = c.loop-f.invariant in
    let fs = c.args.all.now in
    let i = c.loop-f.f-index in
    let all = c.args.self.now.all in
    let items = items_of c.loop-f.self in
    let now = facts_of c.loop-f.self.table in
    let f = get_or fs i no_fact in
    let l : i < length fs = omega arith in
    let whole = place_all marked_id (map (new_marked all) fs) [] in
    let rest = map (new_marked all) (drop (i + 1) fs) in
    let e = c.in-Ok.ensures.ok ∙ ap (λ a. with_item marked_id (new_marked a f) items) was.all in
    let t : place_all marked_id (new_marked all f ∷ rest) items ≡ whole =
    subst (λ ms. place_all marked_id ms items ≡ whole) (new-front all fs i no_fact l)
    was.target in
    record {
      all = c.in-Ok.ensures.all ∙ was.all;
      listings = c.in-Ok.ensures.listings ∙ was.listings;
      reach = let a = c.in-Ok.ensures.reach in let b = was.reach in omega (arith, a, b);
      target = ap (place_all marked_id rest) e ∙ t;
      fresh = fill-fresh fs i no_fact l now (facts_of c.put.new.self.table) c.in-Ok.ensures.facts
          was.fresh;
    }
