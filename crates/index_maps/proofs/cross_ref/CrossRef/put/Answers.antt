use Rattle.std.proofs.Common.{◌≡◌, ◌+◌, ◌∙◌, [], ◌∷◌, ◌++◌, None, length, ap, sym, subst}
use Rattle.observe_core.specs.Held.{entry_id}
use Rattle.plain_digraph.specs.Rising.{swapped}
use Rattle.columns.specs.Views.{entries_of, entry}
use Rattle.index_maps.specs.Labels.{Owned, IsTied, place_of, labelled}
use Rattle.index_maps.specs.RefViews.{holding_labels}
use Rattle.index_maps.proofs.LabelLemmas.{held_has}
use Rattle.index_maps.proofs.StepLemmas.{put-tied, put-labelled}
use Rattle.index_maps.specs.RefSound.{is_own}
use Rattle.index_maps.proofs.RefLemmas.{has_none, put_last}
use Rattle.index_maps.proofs.cross_ref.CrossRef.put.Goals as goal

pub set-requires : goal.set-requires
set-requires c =
    held_has c.args.self.now.labels.entries c.args.id None (entries_of c.args.self.now.places)
    c.requires.live

pub invariant_of-self : goal.invariant_of-self
invariant_of-self c =
    let self = c.args.self.now in
    let table = self.labels.entries in
    let es = entries_of self.places in
    let x : Owned = (c.args.label, c.args.id) in
    let rows : c.insert.new.self.entries ≡ table ++ x ∷ [] = c.in-Ok.ensures.entries
    ∙ put_last self c.args.label c.args.id c.requires.free in
    let places : entries_of c.set.new.self
    ≡ swapped entry_id (entry c.args.id (length table + 1)) es = c.set.ensures.entries
    ∙ ap (λ n. swapped entry_id (entry c.args.id (n + 1)) es) c.len-place.ensures.len in
    let t = put-tied table es self.tied (is_own self) x
    (held_has table c.args.id None es c.requires.live)
    (has_none self c.args.id c.requires.live) in
    record {
      tied = subst (λ rs. IsTied rs (place_of (entries_of c.set.new.self))) (sym rows)
          (subst (λ ps. IsTied (table ++ x ∷ []) (place_of ps)) (sym places) t);
      unique = c.insert.ensures.unique;
    }

pub returns-clause-seen : goal.returns-clause-seen
returns-clause-seen c =
    let self = c.args.self.now in
    let table = self.labels.entries in
    let es = entries_of self.places in
    let x : Owned = (c.args.label, c.args.id) in
    let rows : c.insert.new.self.entries ≡ table ++ x ∷ [] = c.in-Ok.ensures.entries
    ∙ put_last self c.args.label c.args.id c.requires.free in
    let places : entries_of c.set.new.self
    ≡ swapped entry_id (entry c.args.id (length table + 1)) es = c.set.ensures.entries
    ∙ ap (λ n. swapped entry_id (entry c.args.id (n + 1)) es) c.len-place.ensures.len in
    ap holding_labels
    (ap (λ rs. labelled rs (entries_of c.set.new.self)) rows
    ∙ ap (labelled (table ++ x ∷ [])) places ∙ put-labelled table es self.tied (is_own self) x)
