use Rattle.std.proofs.Common.{◌≡◌, ◌+◌, ◌<◌, ◌∙◌, [], ◌∷◌, drop, get_or, length, ap, sym}
use Rattle.std.proofs.Common.{subst}
use Rattle.std.proofs.Common.{false, arith}
use Rattle.base_items.specs.declared.items.Fact.{Fact}
use Rattle.observe_core.specs.Held.{entry_id}
use Rattle.observe_core.specs.Items.{place_all}
use Rattle.columns.specs.Filling.{FreshEntries}
use Rattle.columns.specs.Views.{entries_told, entry}
use Rattle.columns.proofs.FillLemmas.{told-front, fresh-start, fresh-next}
use Rattle.index_maps.specs.TrueViews.{trues_of}
use Rattle.index_maps.proofs.trues.TrueItems.fill.Goals as goal

abbrev no_fact : Fact
no_fact = record { id = 0; from = 0; to = 0; from_at = 0; to_at = 0 }

pub loop-f-init : goal.loop-f-init
loop-f-init c = record {
  target = ap (place_all entry_id (entries_told false c.args.all.now)) c.requires.empty;
  fresh = subst (FreshEntries c.args.all.now) (sym c.requires.empty)
      (fresh-start false c.args.all.now c.requires.distinct);
}

pub loop-f-preserved : goal.loop-f-preserved
loop-f-preserved c =
    let was = c.loop-f.invariant in
    let fs = c.args.all.now in
    let v = false in
    let i = c.loop-f.f-index in
    let there = trues_of c.loop-f.self in
    let f = get_or fs i no_fact in
    let l : i < length fs = omega arith in
    let whole = place_all entry_id (entries_told v fs) [] in
    let rest = entries_told v (drop (i + 1) fs) in
    let e = c.in-Ok.ensures.ok in
    let t : place_all entry_id (entry f.id v ∷ rest) there ≡ whole =
    subst (λ xs. place_all entry_id xs there ≡ whole) (told-front v fs i no_fact l)
    was.target in
    record {
      target = ap (place_all entry_id rest) e ∙ t;
      fresh = fresh-next v fs i no_fact there (trues_of c.put.new.self) l e was.fresh;
    }
