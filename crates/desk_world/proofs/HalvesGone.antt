-- The two halves of a snapshot go out of their chains, and its row out of the table.
use Rattle.std.proofs.Common.{◌≡◌, List, ◌∷◌, ◌++◌, map, sym, ap, ◌∙◌, subst, filter, not, refl}
use Rattle.std.specs.List.{flat_map}
use Rattle.std.proofs.lemmas.Bool.{eq-eqb}
use Rattle.std.proofs.lemmas.List.{append_assoc}
use Rattle.base_items.specs.declared.items.ItemSort.TheVariants as sorts
use Rattle.plain_digraph.specs.Lists.{AllOf}
use Rattle.alter_graph.specs.declared.snaps.SnapKeys.{SnapKeys}
use Rattle.alter_graph.specs.Attaching.{detached, uses_key}
use Rattle.alter_graph.specs.Chains.{ChainsSeen}
use Rattle.alter_graph.specs.Snapping.{forgotten}
use Rattle.plain_world.specs.Tables.{Name, Named, under}
use Rattle.desk_world.specs.Claims.{Claim, ClaimsDiffer, Half, claim, snap_claims}
use Rattle.desk_world.specs.InStep.{AreSeated}
use Rattle.desk_world.specs.Looks.{look_in}
use Rattle.desk_world.proofs.Claimed.{all_less, apart_all, differ_less}
use Rattle.desk_world.proofs.ClaimsGone.{agrees, seats_less}
use Rattle.desk_world.proofs.NamedRows.{Stands}
use Rattle.desk_world.proofs.Relabelled.{Agrees}
use Rattle.desk_world.proofs.Seated.{all_and, all_both, all_left, all_right, all_so}
use Rattle.desk_world.proofs.SnapRows.{claims_apart, snap_taken}
use Rattle.desk_world.proofs.SnapTables.{snaps_left}
use Rattle.desk_world.proofs.Written.{IsElsewhere}

module _ (table : List (Named SnapKeys)) (name : Name) (keys : SnapKeys)
    (at : Stands table name keys) where
  -- the other snapshots
  abbrev pub others_left : List (Named SnapKeys)
  others_left = at.front ++ at.back

  abbrev front_claims : List Claim
  front_claims = flat_map snap_claims at.front

  abbrev back_claims : List Claim
  back_claims = flat_map snap_claims at.back

  abbrev node_claim : Claim
  node_claim = claim sorts.Node keys.nodes.0 Half

  abbrev arc_claim : Claim
  arc_claim = claim sorts.Arc keys.arcs.0 Half

  split : (list : List Claim) → list ++ flat_map snap_claims table
      ≡ (list ++ front_claims) ++ node_claim ∷ arc_claim ∷ back_claims
  split list =
      ap (λ rows. list ++ flat_map snap_claims rows) at.is
      ∙ ap (λ more. list ++ more) (claims_apart at.front (under name keys ∷ at.back))
      ∙ sym (append_assoc list front_claims (node_claim ∷ arc_claim ∷ back_claims))

  joined : (list : List Claim) → list ++ flat_map snap_claims others_left
      ≡ (list ++ front_claims) ++ back_claims
  joined list =
      ap (λ more. list ++ more) (claims_apart at.front at.back)
      ∙ sym (append_assoc list front_claims back_claims)

  -- both seats go, and all others are claimed as before
  pub seated_gone : (list : List Claim) (c : ChainsSeen)
      → AreSeated (list ++ flat_map snap_claims table) c
      → AreSeated (list ++ flat_map snap_claims others_left) (forgotten keys c)
  seated_gone list c seated =
      let front = list ++ front_claims in
      subst (λ more. AreSeated more (forgotten keys c)) (sym (joined list))
      (seats_less sorts.Arc keys.arcs.0 Half front back_claims (detached sorts.Node keys.nodes.0 c)
      (seats_less sorts.Node keys.nodes.0 Half front (arc_claim ∷ back_claims) c
      (subst (λ more. AreSeated more c) (split list) seated)))

  module _ (list : List Claim) (differ : ClaimsDiffer (list ++ flat_map snap_claims table))
      (c : ChainsSeen) where
    abbrev ahead : List Claim
    ahead = list ++ front_claims

    abbrev mid : ChainsSeen
    mid = detached sorts.Node keys.nodes.0 c

    differ_here : ClaimsDiffer (ahead ++ node_claim ∷ arc_claim ∷ back_claims)
    differ_here = subst ClaimsDiffer (split list) differ

    node_apart : AllOf (IsElsewhere sorts.Node keys.nodes.0) (ahead ++ back_claims)
    node_apart =
        all_less (IsElsewhere sorts.Node keys.nodes.0) ahead arc_claim back_claims
        (apart_all ahead node_claim (arc_claim ∷ back_claims) differ_here)

    arc_apart : AllOf (IsElsewhere sorts.Arc keys.arcs.0) (ahead ++ back_claims)
    arc_apart =
        apart_all ahead arc_claim back_claims
        (differ_less ahead node_claim (arc_claim ∷ back_claims) differ_here).0

    -- the same is seen of all other claims
    pub agree_gone : AllOf (Agrees (look_in c) (look_in (forgotten keys c)))
        (list ++ flat_map snap_claims others_left)
    agree_gone =
        let P = IsElsewhere sorts.Node keys.nodes.0 in
        let Q = IsElsewhere sorts.Arc keys.arcs.0 in
        let R = Agrees (look_in c) (look_in (forgotten keys c)) in
        subst (AllOf R) (sym (joined list))
        (all_so (λ x. P x × Q x) R
        (λ x both. agrees keys.arcs.0 mid sorts.Arc x both.1
        ∙ agrees keys.nodes.0 c sorts.Node x both.0) (ahead ++ back_claims)
        (all_and P Q (ahead ++ back_claims) node_apart arc_apart))

    -- its name goes, and the others stay
    pub names_gone : c.snaps ≡ map (λ (e : Named SnapKeys). e.value) table
        → (forgotten keys c).snaps ≡ map (λ (e : Named SnapKeys). e.value) others_left
    names_gone snaps =
        let P = IsElsewhere sorts.Node keys.nodes.0 in
        let Q = IsElsewhere sorts.Arc keys.arcs.0 in
        ap (λ names. filter (λ k. not (uses_key sorts.Arc keys.arcs.0 k))
        (filter (λ k. not (uses_key sorts.Node keys.nodes.0 k)) names))
        (snaps ∙ ap (map (λ (e : Named SnapKeys). e.value)) at.is)
        ∙ ap (filter (λ k. not (uses_key sorts.Arc keys.arcs.0 k)))
        (snap_taken sorts.Node keys.nodes.0 at.front (under name keys) at.back
        (eq-eqb keys.nodes.0 keys.nodes.0 refl)
        (all_right P list front_claims (all_left P ahead back_claims node_apart))
        (all_right P ahead back_claims node_apart))
        ∙ snaps_left sorts.Arc keys.arcs.0 others_left
        (subst (AllOf Q) (sym (claims_apart at.front at.back))
        (all_both Q front_claims back_claims
        (all_right Q list front_claims (all_left Q ahead back_claims arc_apart))
        (all_right Q ahead back_claims arc_apart)))
