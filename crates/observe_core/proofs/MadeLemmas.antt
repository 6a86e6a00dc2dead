-- No notice changes how an observer was made.
use Rattle.std.proofs.Common.{◌≡◌, true, false, List, refl}
use Rattle.base_items.specs.declared.items.Fact.{Fact}
use Rattle.observe_core.specs.declared.changes.Change.{Change}
use Rattle.observe_core.specs.declared.changes.Change.TheVariants.{Add, Shift, Build}
use Rattle.observe_core.specs.declared.losses.Loss.{Loss}
use Rattle.observe_core.specs.declared.losses.Loss.TheVariants.{Erase, Clear}
use Rattle.observe_core.specs.Items.{has_id, number_id}
use Rattle.observe_core.specs.Held.{Held, Nothing, Values, Degree, Half, Kept, Ties, OfHalf}
use Rattle.observe_core.specs.Held.{making_of}
use Rattle.observe_core.specs.Seen.{Seen}
use Rattle.observe_core.specs.Told.{held_added, held_shifted, held_built, held_erased, held_cleared}
use Rattle.observe_core.specs.Untold.{held_unadded, held_unbuilt}
use Rattle.observe_core.specs.Changes.{told, untold}
use Rattle.observe_core.specs.Losses.{lost}
use Rattle.observe_core.specs.Laws.{IsMadeAs}

made_added : (f : Fact) (h : Held) → making_of (held_added f h) ≡ making_of h
made_added f Nothing = refl
made_added f (Values t es) = refl
made_added f (Degree out ends) = refl
made_added f (Half added others kept valid) = refl
made_added f (Kept role all items) = refl
made_added f (Ties ties) = refl

made_unadded : (f : Fact) (h : Held) → making_of (held_unadded f h) ≡ making_of h
made_unadded f Nothing = refl
made_unadded f (Values t es) = refl
made_unadded f (Degree out ends) = refl
made_unadded f (Half added others kept valid) = refl
made_unadded f (Kept role all items) = refl
made_unadded f (Ties ties) = refl

made_shifted : (old now : Fact) (h : Held) → making_of (held_shifted old now h) ≡ making_of h
made_shifted old now Nothing = refl
made_shifted old now (Values t es) = refl
made_shifted old now (Degree out ends) = refl
made_shifted old now (Half added others kept valid) = refl
made_shifted old now (Kept role all items) = refl
made_shifted old now (Ties ties) = refl

made_built : (all : List Fact) (h : Held) → making_of (held_built all h) ≡ making_of h
made_built all Nothing = refl
made_built all (Values t es) = refl
made_built all (Degree out ends) = refl
made_built all (Half added others kept valid) = refl
made_built all (Kept role shows items) = refl
made_built all (Ties ties) = refl

made_unbuilt : (h : Held) → making_of (held_unbuilt h) ≡ making_of h
made_unbuilt Nothing = refl
made_unbuilt (Values t es) = refl
made_unbuilt (Degree out ends) = refl
made_unbuilt (Half added others kept valid) = refl
made_unbuilt (Kept role all items) = refl
made_unbuilt (Ties ties) = refl

made_erased : (f : Fact) (h : Held) → making_of (held_erased f h) ≡ making_of h
made_erased f Nothing = refl
made_erased f (Values t es) = refl
made_erased f (Degree out ends) = refl
made_erased f (Half added others kept valid) =
    elim (has_id number_id f.id added) as (λ b. has_id number_id f.id added ≡ b
    → making_of (held_erased f (Half added others kept valid)) ≡ OfHalf) [
      | true ↦ λ e. rw e
      | false ↦ λ e. rw e
    ] refl
made_erased f (Kept role all items) = refl
made_erased f (Ties ties) = refl

made_cleared : (h : Held) → making_of (held_cleared h) ≡ making_of h
made_cleared Nothing = refl
made_cleared (Values t es) = refl
made_cleared (Degree out ends) = refl
made_cleared (Half added others kept valid) = refl
made_cleared (Kept role all items) = refl
made_cleared (Ties ties) = refl

pub told-made : (s : Seen) (c : Change) → IsMadeAs s (told c s)
told-made s (Add f) = record { kind = refl; k = refl; form = refl; making = made_added f s.held }
told-made s (Shift old now) =
    record { kind = refl; k = refl; form = refl; making = made_shifted old now s.held }
told-made s (Build all) =
    record { kind = refl; k = refl; form = refl; making = made_built all.now s.held }

pub untold-made : (s : Seen) (c : Change) → IsMadeAs s (untold c s)
untold-made s (Add f) =
    record { kind = refl; k = refl; form = refl; making = made_unadded f s.held }
untold-made s (Shift old now) =
    record { kind = refl; k = refl; form = refl; making = made_shifted now old s.held }
untold-made s (Build all) =
    record { kind = refl; k = refl; form = refl; making = made_unbuilt s.held }

pub lost-made : (s : Seen) (l : Loss) → IsMadeAs s (lost l s)
lost-made s (Erase f) = record { kind = refl; k = refl; form = refl; making = made_erased f s.held }
lost-made s Clear = record { kind = refl; k = refl; form = refl; making = made_cleared s.held }
