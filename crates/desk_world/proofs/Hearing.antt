-- What the observers of each chain hear of a step: those of the other chain hear nothing.
use Rattle.std.proofs.Common.{◌≡◌, ℕ, Bool, true, false, cond, List, [], ◌∷◌, ◌++◌, Option, Some}
use Rattle.std.proofs.Common.{None, refl, sym, ap, ◌∙◌, subst, is_some, ◌==◌}
use Rattle.std.proofs.lemmas.Bool.{true≢false}
use Rattle.std.proofs.lemmas.Option.{none-some, same_Some}
use Rattle.base_items.specs.declared.items.ItemSort.{ItemSort}
use Rattle.base_items.specs.declared.items.ItemSort.TheVariants as sorts
use Rattle.plain_digraph.specs.Digraph.{Digraph}
use Rattle.plain_digraph.specs.Items.{facts}
use Rattle.observe_core.specs.Laws.{IsMadeAs}
use Rattle.observe_core.specs.Losses.{lost, leaves_at}
use Rattle.observe_core.specs.Seen.{Seen}
use Rattle.observe_core.proofs.MadeLemmas.{told-made, lost-made}
use Rattle.observe_core.specs.declared.losses.Loss.{Loss}
use Rattle.notify_chain.specs.Leaving.{goes, goers}
use Rattle.notify_chain.specs.Seats.{SeatSeen}
use Rattle.alter_graph.specs.Chains.{ChainsSeen, chain_in, seats_in, in_chain}
use Rattle.alter_graph.specs.Present.{Present, present_of, facts_in}
use Rattle.alter_graph.specs.Steps.{Notice, Tells, Loses, noticed, left_noticed}
use Rattle.alter_graph.proofs.Telling.{CanHear, next}
use Rattle.desk_world.specs.Claims.{is_map}
use Rattle.desk_world.specs.Looks.{look_in, seen_at}
use Rattle.desk_world.proofs.Guarded.{IsCharged, charged_on}
use Rattle.desk_world.proofs.Heard.{seats_by, noticed_by, unheard_by}
use Rattle.desk_world.proofs.Noticed.{heard_by, map_kind, map_stays}
use Rattle.desk_world.proofs.Stood.{Stood, stood_next}

abbrev has_items : List ℕ → Bool
has_items [] = false
has_items (x ∷ xs) = true

abbrev pub hears_in : (told sort : ItemSort) → Notice → Seen → Option Seen
hears_in sorts.Node sorts.Node n = heard_by n
hears_in sorts.Node sorts.Arc n = Some
hears_in sorts.Arc sorts.Node n = Some
hears_in sorts.Arc sorts.Arc n = heard_by n

pub hears_same : (sort : ItemSort) (n : Notice) → hears_in sort sort n ≡ heard_by n
hears_same sorts.Node n = refl
hears_same sorts.Arc n = refl

pub hears_other : (told sort : ItemSort) (n : Notice) → (told ≡ sort → ⊥)
    → hears_in told sort n ≡ Some
hears_other sorts.Node sorts.Node n apart = absurd (apart refl)
hears_other sorts.Node sorts.Arc n apart = refl
hears_other sorts.Arc sorts.Node n apart = refl
hears_other sorts.Arc sorts.Arc n apart = absurd (apart refl)

pub seats_hear : (told : ItemSort) (n : Notice) (c : ChainsSeen) (sort : ItemSort)
    → seats_in sort (in_chain told (noticed n) c)
    ≡ seats_by (hears_in told sort n) (seats_in sort c)
seats_hear sorts.Node n c sorts.Node = noticed_by n c.nodes.seats
seats_hear sorts.Node n c sorts.Arc = unheard_by c.arcs.seats
seats_hear sorts.Arc n c sorts.Node = unheard_by c.nodes.seats
seats_hear sorts.Arc n c sorts.Arc = noticed_by n c.arcs.seats

-- ---- how an observer was made

same_made : (was later : Seen) → Some was ≡ Some later → IsMadeAs was later
same_made was later is =
    subst (IsMadeAs was) (same_Some was later is)
    (record { kind = refl; k = refl; form = refl; making = refl })

heard_made : (n : Notice) (was later : Seen) → heard_by n was ≡ Some later → IsMadeAs was later
heard_made (Tells change) was later is =
    subst (IsMadeAs was) (same_Some _ later is) (told-made was change)
heard_made (Loses loss) was later is = of (goes (leaves_at loss was)) is
  where
    of : (b : Bool) → cond b None (Some (lost loss was)) ≡ Some later → IsMadeAs was later
    of true is = absurd (none-some later is)
    of false is = subst (IsMadeAs was) (same_Some (lost loss was) later is) (lost-made was loss)

pub made_hear : (told : ItemSort) (n : Notice) (sort : ItemSort) (was later : Seen)
    → hears_in told sort n was ≡ Some later → IsMadeAs was later
made_hear sorts.Node n sorts.Node was later is = heard_made n was later is
made_hear sorts.Node n sorts.Arc was later is = same_made was later is
made_hear sorts.Arc n sorts.Node was later is = same_made was later is
made_hear sorts.Arc n sorts.Arc was later is = heard_made n was later is

-- ---- who stays

map_heard : (n : Notice) (s : Seen) → is_map s.kind ≡ true → is_some (heard_by n s) ≡ true
map_heard (Tells change) s is = refl
map_heard (Loses loss) s is = ap is_some (map_stays loss s (map_kind s.kind is))

pub maps_hear : (told : ItemSort) (n : Notice) (sort : ItemSort) (s : Seen)
    → is_map s.kind ≡ true → is_some (hears_in told sort n s) ≡ true
maps_hear sorts.Node n sorts.Node s is = map_heard n s is
maps_hear sorts.Node n sorts.Arc s is = refl
maps_hear sorts.Arc n sorts.Node s is = refl
maps_hear sorts.Arc n sorts.Arc s is = map_heard n s is

-- ---- what an observer stands for

pub stood_hear : (told : ItemSort) (n : Notice) (p : Present) (sort : ItemSort) (was later : Seen)
    → CanHear n (facts_in told p) → Stood (facts_in sort p) was
    → hears_in told sort n was ≡ Some later → Stood (facts_in sort (next told n p)) later
stood_hear sorts.Node n p sorts.Node was later can stood is =
    stood_next n p.nodes was later can stood is
stood_hear sorts.Node n p sorts.Arc was later can stood is =
    subst (Stood p.arcs) (same_Some was later is) stood
stood_hear sorts.Arc n p sorts.Node was later can stood is =
    subst (Stood p.nodes) (same_Some was later is) stood
stood_hear sorts.Arc n p sorts.Arc was later can stood is =
    stood_next n p.arcs was later can stood is

pub facts_sort : (sort : ItemSort) (g : Digraph) → facts_in sort (present_of g) ≡ facts g sort
facts_sort sorts.Node g = refl
facts_sort sorts.Arc g = refl

-- ---- what is left of a fuse

pub charged_hear : (told : ItemSort) (n : Notice) (sort : ItemSort) (was later : Seen)
    → IsCharged was.kind was.left → hears_in told sort n was ≡ Some later
    → IsCharged later.kind later.left
charged_hear sorts.Node n sorts.Node was later charged is = charged_on n was later charged is
charged_hear sorts.Node n sorts.Arc was later charged is =
    subst (λ (s : Seen). IsCharged s.kind s.left) (same_Some was later is) charged
charged_hear sorts.Arc n sorts.Node was later charged is =
    subst (λ (s : Seen). IsCharged s.kind s.left) (same_Some was later is) charged
charged_hear sorts.Arc n sorts.Arc was later charged is = charged_on n was later charged is

-- ---- nobody left where no key is to be taken

no_first : (xs ys : List ℕ) → xs ++ ys ≡ [] → xs ≡ []
no_first [] ys is = refl
no_first (x ∷ xs) ys is = absurd (true≢false (ap has_items is))

no_last : (xs ys : List ℕ) → xs ++ ys ≡ [] → ys ≡ []
no_last [] ys is = is
no_last (x ∷ xs) ys is = absurd (true≢false (ap has_items is))

none_goes : (loss : Loss) (ss : List SeatSeen) → goers loss ss ≡ [] → (key : ℕ) (was : Seen)
    → seen_at key ss ≡ Some was → goes (leaves_at loss was) ≡ false
none_goes loss [] none key was is = absurd (none-some was is)
none_goes loss (s ∷ ss) none key was is =
    of (s.key == key) (λ rest. none_goes loss ss (no_first (goers loss ss) _ none) key was rest) is
  where
    stays : (b : Bool) → cond b (s.key ∷ []) [] ≡ [] → b ≡ false
    stays true is = absurd (true≢false (ap has_items is))
    stays false is = refl

    of : (b : Bool) → (seen_at key ss ≡ Some was → goes (leaves_at loss was) ≡ false)
        → cond b (Some s.seen) (seen_at key ss) ≡ Some was → goes (leaves_at loss was) ≡ false
    of true rest is =
        ap (λ x. goes (leaves_at loss x)) (sym (same_Some s.seen was is))
        ∙ stays (goes (leaves_at loss s.seen)) (no_last (goers loss ss) _ none)
    of false rest is = rest is

-- if no key is to be taken after the notice, all have stayed, and none was to be taken before
pub record AllStay (told : ItemSort) (n : Notice) (c : ChainsSeen) (sort : ItemSort) : Type 0 where
  pub none : (chain_in sort c).left ≡ []
  pub stay : (key : ℕ) (was : Seen) → look_in c sort key ≡ Some was
      → is_some (hears_in told sort n was) ≡ true

all_stay : (n : Notice) (left : List ℕ) (ss : List SeatSeen)
    → left_noticed n (record { seats = ss; left = left }) ≡ []
    → (left ≡ []) × ((key : ℕ) (was : Seen) → seen_at key ss ≡ Some was
    → is_some (heard_by n was) ≡ true)
all_stay (Tells change) left ss none = (none, λ key was is. refl)
all_stay (Loses loss) left ss none = (
  no_first left (goers loss ss) none,
  λ key was is. ap (λ b. is_some (cond b None (Some (lost loss was))))
      (none_goes loss ss (no_last left (goers loss ss) none) key was is),
)

pub none_left_stay : (told : ItemSort) (n : Notice) (c : ChainsSeen) (sort : ItemSort)
    → (chain_in sort (in_chain told (noticed n) c)).left ≡ [] → AllStay told n c sort
none_left_stay sorts.Node n c sorts.Node none =
    let all = all_stay n c.nodes.left c.nodes.seats none in
    record { none = all.0; stay = all.1 }
none_left_stay sorts.Node n c sorts.Arc none =
    record { none = none; stay = λ key was is. refl }
none_left_stay sorts.Arc n c sorts.Node none =
    record { none = none; stay = λ key was is. refl }
none_left_stay sorts.Arc n c sorts.Arc none =
    let all = all_stay n c.arcs.left c.arcs.seats none in
    record { none = all.0; stay = all.1 }
