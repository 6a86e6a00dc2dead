-- The stamps of a copy, and a new copy.
use Rattle.std.proofs.Common.{◌≡◌, ℕ, refl, sym, ◌∙◌, ap, subst, List}
use Rattle.std.proofs.Common.{Some, is_some, inl, inr}
use Rattle.std.specs.FinMap as fin
use Rattle.std.proofs.lemmas.Bool.{cases_eq}
use Rattle.std.proofs.lemmas.Option.{same_Some}
use Rattle.base_items.specs.declared.items.Fact.{Fact}
use Rattle.base_items.specs.declared.items.ItemSort.TheVariants.{Arc}
use Rattle.plain_digraph.specs.Digraph.{Digraph, Place}
use Rattle.plain_digraph.specs.Items.{ids, fact_of, stamp_of}
use Rattle.plain_digraph.specs.Copies.{Copy, copy_of}
use Rattle.plain_digraph.specs.Valid as digraph
use Rattle.plain_digraph.specs.RestoreLaws.{StampsApart}
use Rattle.plain_digraph.proofs.CopyKept.{copy_is_kept}
use Rattle.plain_digraph.proofs.Live.{fact_of-has}
use Rattle.plain_digraph.proofs.Rows.{stamp_of-has}
use Rattle.plain_digraph.proofs.SameLists.{as_keys}
use Rattle.plain_digraph.proofs.StepFacts.{told_of}
use Rattle.plain_digraph.proofs.Undone.{told_parts}
use Rattle.plain_world.specs.Valid.{IsCopy, StampsAgree}

-- ---- stamps

-- the arc has the stamps of the fact
abbrev IsStamped : Digraph → ℕ → Fact → Type 0
IsStamped g arc fact = (stamp_of g.by_source arc ≡ Some fact.from_at)
    × (stamp_of g.by_target arc ≡ Some fact.to_at)

-- what is told of an arc has its stamps
pub told_stamps : (g : Digraph) (arc : ℕ) (fact : Fact) → fact_of g Arc arc ≡ Some fact
    → IsStamped g arc fact
told_stamps g arc fact told =
    let parts = told_parts arc (fin.get g.ends arc) (stamp_of g.by_source arc)
    (stamp_of g.by_target arc) fact told in
    (parts.2, parts.3)

-- an arc that is listed is told of
source_told : (g : Digraph) (arc at : ℕ) → digraph.IsValid g → stamp_of g.by_source arc ≡ Some at
    → (fact : Fact) × (fact_of g Arc arc ≡ Some fact)
source_told g arc at valid is =
    told_of (fact_of g Arc arc)
    (fact_of-has g Arc arc valid
    ∙ (sym (as_keys g valid (ids g.by_source) arc valid.sources_whole)
    ∙ (sym (stamp_of-has g.by_source arc) ∙ ap is_some is)))

target_told : (g : Digraph) (arc at : ℕ) → digraph.IsValid g → stamp_of g.by_target arc ≡ Some at
    → (fact : Fact) × (fact_of g Arc arc ≡ Some fact)
target_told g arc at valid is =
    told_of (fact_of g Arc arc)
    (fact_of-has g Arc arc valid
    ∙ (sym (as_keys g valid (ids g.by_target) arc valid.targets_whole)
    ∙ (sym (stamp_of-has g.by_target arc) ∙ ap is_some is)))

abbrev Agree : Copy → Copy → Type 0
Agree copy other = StampsAgree copy.by_source other.by_source
    × StampsAgree copy.by_target other.by_target

-- where no arc has another one's stamp of a copy, stamps agree
stamps_agree : (c g : Digraph) → digraph.IsValid c → digraph.IsValid g → StampsApart c g
    → Agree (copy_of c) (copy_of g)
stamps_agree c g valid_c valid_g apart = (
  λ arc other at was now. elim (cases_eq other arc) [
    | inl same ↦ sym same
    | inr differ ↦
        let old = source_told c arc at valid_c was in
        let new = source_told g other at valid_g now in
        absurd (apart.sources arc other old.0 new.0 old.1 new.1 differ
        (same_Some new.0.from_at old.0.from_at (sym (told_stamps g other new.0 new.1).0
        ∙ (now ∙ (sym was ∙ (told_stamps c arc old.0 old.1).0)))))
  ],
  λ arc other at was now. elim (cases_eq other arc) [
    | inl same ↦ sym same
    | inr differ ↦
        let old = target_told c arc at valid_c was in
        let new = target_told g other at valid_g now in
        absurd (apart.targets arc other old.0 new.0 old.1 new.1 differ
        (same_Some new.0.to_at old.0.to_at (sym (told_stamps g other new.0 new.1).1
        ∙ (now ∙ (sym was ∙ (told_stamps c arc old.0 old.1).1)))))
  ],
)

pub copy_agrees : (g : Digraph) (copy : Copy) → digraph.IsValid g → IsCopy g copy
    → Agree copy (copy_of g)
copy_agrees g copy valid is =
    subst (λ c. Agree c (copy_of g)) is.is_copied
    (stamps_agree is.copied g is.copied_ok valid is.apart)

pub turned_round : (places others : List Place) → StampsAgree places others
    → StampsAgree others places
turned_round places others agree id other stamp at also = sym (agree other id stamp also at)

-- ---- a new copy

pub copy_ok : (g : Digraph) → digraph.IsValid g → IsCopy g (copy_of g)
copy_ok g valid =
    let kept = copy_is_kept g valid in
    record {
      copied = g;
      copied_ok = valid;
      is_copied = refl;
      keeps = kept.0;
      apart = kept.1;
    }

pub own_agrees : (g : Digraph) → digraph.IsValid g → Agree (copy_of g) (copy_of g)
own_agrees g valid = stamps_agree g g valid valid (copy_is_kept g valid).1
