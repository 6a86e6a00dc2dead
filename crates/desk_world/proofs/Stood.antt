-- What observers stand for, as far as values and guards go, after a notice.
use Rattle.std.proofs.Common.{◌≡◌, ℕ, Bool, true, false, cond, List, [], Some, None}
use Rattle.std.proofs.Common.{refl, sym, ap, ◌∙◌, subst, ◌-◌}
use Rattle.std.specs.Prelude.{IsTrue}
use Rattle.std.proofs.lemmas.Option.{none-some, same_Some}
use Rattle.base_items.specs.declared.items.Fact.{Fact}
use Rattle.plain_digraph.specs.Facts.{fact_id}
use Rattle.plain_digraph.specs.Rising.{without_item}
use Rattle.observe_core.specs.declared.changes.Change.TheVariants.{Add, Shift, Build}
use Rattle.observe_core.specs.declared.losses.Loss.{Loss}
use Rattle.observe_core.specs.declared.losses.Loss.TheVariants.{Erase, Clear}
use Rattle.observe_core.specs.declared.kinds.Kind.{Kind}
use Rattle.observe_core.specs.declared.kinds.Kind.TheVariants as kinds
use Rattle.observe_core.specs.Fits.{Fits, HeldFits}
use Rattle.observe_core.specs.Guards.{by_kind}
use Rattle.observe_core.specs.Held.{Held, Nothing, Values, Degree, Half, Kept, Ties, entry_id}
use Rattle.observe_core.specs.Held.{IsHeldSound, tie_id}
use Rattle.observe_core.specs.Items.{has_id, number_id, rises_from}
use Rattle.observe_core.specs.Losses.{lost, leaves_at}
use Rattle.observe_core.specs.Seen.{Seen, map_seen}
use Rattle.observe_core.specs.Told.{held_added, held_shifted, held_erased, held_cleared}
use Rattle.observe_core.proofs.FitLaws.{fits-added, fits-shifted, fits-cleared}
use Rattle.observe_core.proofs.ItemLemmas.{map-without}
use Rattle.notify_chain.specs.Leaving.{goes}
use Rattle.alter_graph.specs.Steps.{Notice, Tells, Loses}
use Rattle.desk_seats.specs.Contents.{ties_held}
use Rattle.alter_graph.proofs.Telling.{CanHear, facts_noticed, IsNew, IsMove}
use Rattle.desk_world.proofs.Noticed.{heard_by, ValuesFit}
use Rattle.desk_world.proofs.TiesAfter.{rise_noticed}

-- the observer stands for these facts, and the numbers of its ties rise
pub record Stood (live : List Fact) (s : Seen) : Type 0 where
  pub guard : s.facts ≡ by_kind [] live s.kind
  pub values : ValuesFit s.held live
  pub rise : IsTrue (rises_from tie_id 0 (ties_held s.held))

pub stood_of_fits : (live : List Fact) (s : Seen) → Fits s live → IsHeldSound s.held
    → Stood live s
stood_of_fits live s fits sound =
    record { guard = fits.guard; values = of s.held fits.held; rise = rising s.held sound }
  where
    of : (h : Held) → HeldFits h live → ValuesFit h live
    of Nothing fit = tt
    of (Values t es) fit = fit
    of (Degree out ends) fit = tt
    of (Half added others kept valid) fit = tt
    of (Kept role all items) fit = tt
    of (Ties ties) fit = tt

    rising : (h : Held) → IsHeldSound h → IsTrue (rises_from tie_id 0 (ties_held h))
    rising Nothing sound = refl
    rising (Values t es) sound = refl
    rising (Degree out ends) sound = refl
    rising (Half added others kept valid) sound = refl
    rising (Kept role all items) sound = refl
    rising (Ties ties) sound = sound

-- ---- values

values_added : (f : Fact) (live : List Fact) (h : Held) → IsNew f live → ValuesFit h live
    → ValuesFit (held_added f h) (facts_noticed (Tells (Add f)) live)
values_added f live Nothing can fit = tt
values_added f live (Values t es) can fit =
    (fits-added f (map_seen (Values t es)) live (record { guard = refl; held = fit })
    can.untracked).held
values_added f live (Degree out ends) can fit = tt
values_added f live (Half added others kept valid) can fit = tt
values_added f live (Kept role all items) can fit = tt
values_added f live (Ties ties) can fit = tt

values_shifted : (old now : Fact) (live : List Fact) (h : Held) → IsMove old now live
    → ValuesFit h live
    → ValuesFit (held_shifted old now h) (facts_noticed (Tells (Shift old now)) live)
values_shifted old now live Nothing can fit = tt
values_shifted old now live (Values t es) can fit =
    (fits-shifted old now (map_seen (Values t es)) live (record { guard = refl; held = fit })
    can.is_live can.tracked can.same_id can.differs).held
values_shifted old now live (Degree out ends) can fit = tt
values_shifted old now live (Half added others kept valid) can fit = tt
values_shifted old now live (Kept role all items) can fit = tt
values_shifted old now live (Ties ties) can fit = tt

values_erased : (f : Fact) (live : List Fact) (h : Held) → ValuesFit h live
    → ValuesFit (held_erased f h) (without_item fact_id f.id live)
values_erased f live Nothing fit = tt
values_erased f live (Values t es) fit =
    map-without entry_id number_id f.id es
    ∙ ap (without_item number_id f.id) fit
    ∙ sym (map-without fact_id number_id f.id live)
values_erased f live (Degree out ends) fit = tt
values_erased f live (Half added others kept valid) fit =
    elim (has_id number_id f.id added) as (λ b.
    ValuesFit (cond b (Half (without_item number_id f.id added) others
    (without_item fact_id f.id kept) valid)
    (Half added (others - 1) (without_item fact_id f.id kept) false))
    (without_item fact_id f.id live)) [ true ↦ tt | false ↦ tt ]
values_erased f live (Kept role all items) fit = tt
values_erased f live (Ties ties) fit = tt

values_cleared : (h : Held) → ValuesFit (held_cleared h) []
values_cleared Nothing = tt
values_cleared (Values t es) = refl
values_cleared (Degree out ends) = tt
values_cleared (Half added others kept valid) = tt
values_cleared (Kept role all items) = tt
values_cleared (Ties ties) = tt

-- ---- the facts of guards

-- what would be seen of it if it held nothing
abbrev bare_of : Seen → Seen
bare_of s = record s { held = Nothing }

own_erased : (i : ℕ) (k : Kind) (fs live : List Fact) → fs ≡ by_kind [] live k
    → without_item fact_id i fs ≡ by_kind [] (without_item fact_id i live) k
own_erased i kinds.Map fs live is = ap (without_item fact_id i) is
own_erased i kinds.Quota fs live is = ap (without_item fact_id i) is
own_erased i kinds.Loopless fs live is = ap (without_item fact_id i) is
own_erased i kinds.Simple fs live is = ap (without_item fact_id i) is
own_erased i kinds.OutCap fs live is = ap (without_item fact_id i) is
own_erased i kinds.Fuse fs live is = ap (without_item fact_id i) is
own_erased i kinds.Tally fs live is = ap (without_item fact_id i) is

-- ---- after a notice

stood_lost : (loss : Loss) (live : List Fact) (was : Seen) → Stood live was
    → Stood (facts_noticed (Loses loss) live) (lost loss was)
stood_lost (Erase f) live was stood = record {
  guard = own_erased f.id was.kind was.facts live stood.guard;
  values = values_erased f live was.held stood.values;
  rise = rise_noticed (Loses (Erase f)) was.held stood.rise;
}
stood_lost Clear live was stood = record {
  guard = (fits-cleared (bare_of was) live (record { guard = stood.guard; held = tt })).guard;
  values = values_cleared was.held;
  rise = rise_noticed (Loses Clear) was.held stood.rise;
}

pub stood_next : (n : Notice) (live : List Fact) (was later : Seen) → CanHear n live
    → Stood live was → heard_by n was ≡ Some later → Stood (facts_noticed n live) later
stood_next (Tells (Add f)) live was later can stood is =
    subst (Stood (facts_noticed (Tells (Add f)) live)) (same_Some _ later is)
    (record {
      guard = (fits-added f (bare_of was) live (record { guard = stood.guard; held = tt })
          can.untracked).guard;
      values = values_added f live was.held can stood.values;
      rise = rise_noticed (Tells (Add f)) was.held stood.rise;
    })
stood_next (Tells (Shift old now)) live was later can stood is =
    subst (Stood (facts_noticed (Tells (Shift old now)) live)) (same_Some _ later is)
    (record {
      guard = (fits-shifted old now (bare_of was) live (record { guard = stood.guard; held = tt })
          can.is_live can.tracked can.same_id can.differs).guard;
      values = values_shifted old now live was.held can stood.values;
      rise = rise_noticed (Tells (Shift old now)) was.held stood.rise;
    })
stood_next (Tells (Build all)) live was later can stood is = absurd can
stood_next (Loses loss) live was later can stood is =
    of (goes (leaves_at loss was)) is
  where
    of : (b : Bool) → cond b None (Some (lost loss was)) ≡ Some later
        → Stood (facts_noticed (Loses loss) live) later
    of true is = absurd (none-some later is)
    of false is =
        subst (Stood (facts_noticed (Loses loss) live)) (same_Some (lost loss was) later is)
        (stood_lost loss live was stood)
