-- A digraph keeps what is copied of it, and copies leave one another's stamps.
use Rattle.std.proofs.Common.{◌≡◌, ◌⊎◌, ℕ, refl, cond, List, [], ◌∷◌, Some, inl, inr, sym, ap, ◌∙◌}
use Rattle.std.proofs.Common.{arith}
use Rattle.std.specs.FinMap as fin
use Rattle.std.proofs.lemmas.Bool.{eq-eqb, ne_eqb, cases_eq}
use Rattle.std.proofs.lemmas.Option.{none-some, same_Some}
use Rattle.plain_digraph.specs.Digraph.{Place}
use Rattle.plain_digraph.specs.Items.{stamp_of}
use Rattle.plain_digraph.specs.Valid.{FallBelow}
use Rattle.plain_digraph.specs.RestoreLaws.{CopyIsKept, CopiesLeaveStamps}
use Rattle.plain_digraph.proofs.Places.{stamp_below}
use Rattle.plain_digraph.proofs.Undone.{told_parts}

-- the stamp of the first place is its own, or that of a later one
first_or_later : (p : Place) (places : List Place) (id at : ℕ) → stamp_of (p ∷ places) id ≡ Some at
    → ((p.0 ≡ id) × (p.1 ≡ at)) ⊎ (stamp_of places id ≡ Some at)
first_or_later p places id at e = elim (cases_eq p.0 id) [
  | inl same ↦
      inl (
        same,
        same_Some p.1 at
            (ap (λ b. cond b (Some p.1) (stamp_of places id)) (sym (eq-eqb p.0 id same)) ∙ e),
      )
  | inr other ↦
      inr (ap (λ b. cond b (Some p.1) (stamp_of places id)) (sym (ne_eqb p.0 id other)) ∙ e)
]

-- where stamps fall, ids with the same stamp are the same
one_stamp : (bound : ℕ) (places : List Place) (x y at : ℕ) → FallBelow bound places
    → stamp_of places x ≡ Some at → stamp_of places y ≡ Some at → x ≡ y
one_stamp bound [] x y at fall e_x e_y = absurd (none-some at e_x)
one_stamp bound (p ∷ places) x y at fall e_x e_y =
    elim (first_or_later p places x at e_x) [
      | inl x_first ↦ elim (first_or_later p places y at e_y) [
        | inl y_first ↦ sym x_first.0 ∙ y_first.0
        | inr y_later ↦ let low = stamp_below p.1 places y at fall.1 y_later in let own =
            x_first.1 in absurd (omega (arith, low, own))
      ]
      | inr x_later ↦ elim (first_or_later p places y at e_y) [
        | inl y_first ↦ let low = stamp_below p.1 places x at fall.1 x_later in let own =
            y_first.1 in absurd (omega (arith, low, own))
        | inr y_later ↦ one_stamp p.1 places x y at fall.1 x_later y_later
      ]
    ]

pub copy_is_kept : CopyIsKept
copy_is_kept c valid = (
  record { nodes = λ id live. refl; arcs = λ id live. live },
  record {
    sources = λ arc other was fact copied now differ same.
        let a = (told_parts arc (fin.get c.ends arc) (stamp_of c.by_source arc)
        (stamp_of c.by_target arc) was copied).2 in
        let b = (told_parts other (fin.get c.ends other) (stamp_of c.by_source other)
        (stamp_of c.by_target other) fact now).2 in
        differ (one_stamp c.stamps c.by_source other arc was.from_at valid.sources_fall
        (b ∙ ap Some same) a);
    targets = λ arc other was fact copied now differ same.
        let a = (told_parts arc (fin.get c.ends arc) (stamp_of c.by_source arc)
        (stamp_of c.by_target arc) was copied).3 in
        let b = (told_parts other (fin.get c.ends other) (stamp_of c.by_source other)
        (stamp_of c.by_target other) fact now).3 in
        differ (one_stamp c.stamps c.by_target other arc was.to_at valid.targets_fall
        (b ∙ ap Some same) a);
    earlier = omega arith;
  },
)

pub copies_leave_stamps : CopiesLeaveStamps
copies_leave_stamps older newer g fact apart = (
  λ told arc was copied differ. (
    apart.sources arc fact.id was fact copied told differ,
    apart.targets arc fact.id was fact copied told differ,
  ),
  λ told arc was copied differ. (
    λ same. apart.sources fact.id arc fact was told copied (λ e. differ (sym e)) (sym same),
    λ same. apart.targets fact.id arc fact was told copied (λ e. differ (sym e)) (sym same),
  ),
)
