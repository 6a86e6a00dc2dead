-- Snapshots after a plain step.
use Rattle.std.proofs.Common.{◌≡◌, true, false, cond, refl, ap, subst, List, []}
use Rattle.std.proofs.Common.{◌∷◌, map, Option, None, Some, All, Contains}
use Rattle.std.specs.Prelude.{find, option_map}
use Rattle.std.specs.List.{filter_map, cons_option}
use Rattle.std.proofs.lemmas.Option.{none-some, same_Some}
use Rattle.std.proofs.lemmas.List.Elements.{All-nil, All-cons, All-head, All-tail, All-map}
use Rattle.std.proofs.lemmas.List.Elements.{All-weaker, All-contains, Contains-append_right}
use Rattle.std.proofs.lemmas.List.Elements.{Contains-append_left, Contains-push}
use Rattle.plain_digraph.specs.Digraph.{Digraph}
use Rattle.plain_digraph.specs.PlainSteps.{PlainStep, AddNode, AddArc, MoveFrom, MoveTo, Turn}
use Rattle.plain_digraph.specs.PlainSteps.{PlaceBack, EraseArc, EraseNode, ClearArcs, ClearNodes}
use Rattle.plain_digraph.specs.PlainSteps.{after_step}
use Rattle.plain_digraph.specs.Copies.{Copy, loses}
use Rattle.plain_digraph.specs.Valid as digraph
use Rattle.plain_world.specs.Tables.{Name, Named, under, entry, is_named}
use Rattle.plain_world.specs.Following.{snapshot_after}
use Rattle.plain_world.specs.Valid.{IsSnapshot, CopiesAgree}
use Rattle.plain_world.proofs.Filtered.{names}
use Rattle.plain_world.proofs.CopyKept.{MovesLive, LeavesSnapshot, snapshot_stays}

-- ---- all snapshots

abbrev pub Snapshots : Type 0
Snapshots = List (Named (Option Copy))

abbrev pub copies_in : Snapshots → List Copy
copies_in snapshots = filter_map (λ (e : Named (Option Copy)). e.value) snapshots

abbrev after_it : Digraph → PlainStep → Snapshots → Snapshots
after_it g step snapshots = map (λ e. under e.name (snapshot_after g step e.value)) snapshots

abbrev pub LeaveSnapshots : PlainStep → Snapshots → Type 0
LeaveSnapshots step snapshots = All (λ e. LeavesSnapshot step e.value) snapshots

pub snapshots_after : (g : Digraph) (step : PlainStep) (snapshots : Snapshots) → digraph.IsValid g
    → MovesLive g step → LeaveSnapshots step snapshots → All (λ e. IsSnapshot g e.value) snapshots
    → All (λ e. IsSnapshot (after_step g step) e.value) (after_it g step snapshots)
snapshots_after g step snapshots valid live leave are =
    All-map (λ e. IsSnapshot (after_step g step) e.value)
    (λ (e : Named (Option Copy)). under e.name (snapshot_after g step e.value)) snapshots
    (λ k d within. snapshot_stays g step _ valid live (leave k d within) (are k d within))

pub snapshot_names : (g : Digraph) (step : PlainStep) (snapshots : Snapshots)
    → names (after_it g step snapshots) ≡ names snapshots
snapshot_names g step [] = refl
snapshot_names g step (e ∷ es) = ap (λ more. e.name ∷ more) (snapshot_names g step es)

in_rest : {X : Type 0} (o : Option X) (all : List X) (c : X) → Contains all c
    → Contains (cons_option o all) c
in_rest None all c at = at
in_rest (Some x) all c at = Contains-append_right (x ∷ []) all c at

-- the copies that are left were there before
fewer_copies : (g : Digraph) (step : PlainStep) (snapshots : Snapshots)
    → All (Contains (copies_in snapshots)) (copies_in (after_it g step snapshots))
fewer_copies g step [] = All-nil (Contains (copies_in []))
fewer_copies g step (e ∷ es) =
    let left = copies_in (after_it g step es) in
    let rest : All (Contains (cons_option e.value (copies_in es))) left =
    All-weaker (Contains (copies_in es)) (Contains (cons_option e.value (copies_in es)))
    (λ c at. in_rest e.value (copies_in es) c at) left (fewer_copies g step es) in
    by_value e.value left rest
  where
    by_value : (o : Option Copy) (left : List Copy)
        → All (Contains (cons_option o (copies_in es))) left
        → All (Contains (cons_option o (copies_in es))) (cons_option (snapshot_after g step o) left)
    by_value None left rest = rest
    by_value (Some copy) left rest =
        let P : Copy → Type 0 = Contains (copy ∷ copies_in es) in
        elim (loses copy g step) as (λ b. All P (cons_option (cond b None (Some copy)) left)) [
          | true ↦ rest
          | false ↦
              All-cons P copy left
              (Contains-append_left (copy ∷ []) (copies_in es) copy (Contains-push [] copy)) rest
        ]

pub copies_after : (g : Digraph) (step : PlainStep) (snapshots : Snapshots)
    → CopiesAgree (copies_in snapshots) → CopiesAgree (copies_in (after_it g step snapshots))
copies_after g step snapshots agree copy other at also =
    let left = copies_in (after_it g step snapshots) in
    let has : (c : Copy) → Contains left c → Contains (copies_in snapshots) c = λ c listed.
    All-contains (Contains (copies_in snapshots)) left c (fewer_copies g step snapshots) listed in
    agree copy other (has copy at) (has other also)

-- what leaves all snapshots leaves those that are left
leaves_left : (g : Digraph) (step next : PlainStep) (o : Option Copy) → LeavesSnapshot next o
    → LeavesSnapshot next (snapshot_after g step o)
leaves_left g step next None leaves = leaves
leaves_left g step next (Some copy) leaves =
    elim (loses copy g step) as (λ b. LeavesSnapshot next (cond b None (Some copy))) [
      | true ↦ nothing next
      | false ↦ leaves
    ]
  where
    nothing : (next : PlainStep) → LeavesSnapshot next None
    nothing AddNode = tt
    nothing (AddArc from to) = tt
    nothing (MoveFrom arc node) = tt
    nothing (MoveTo arc node) = tt
    nothing (Turn arc) = tt
    nothing (PlaceBack fact) = tt
    nothing (EraseArc arc) = tt
    nothing (EraseNode node) = tt
    nothing ClearArcs = tt
    nothing ClearNodes = tt

pub leave_left : (g : Digraph) (step next : PlainStep) (snapshots : Snapshots)
    → LeaveSnapshots next snapshots → LeaveSnapshots next (after_it g step snapshots)
leave_left g step next snapshots leave =
    All-map (λ e. LeavesSnapshot next e.value)
    (λ (e : Named (Option Copy)). under e.name (snapshot_after g step e.value)) snapshots
    (λ k d within. leaves_left g step next _ (leave k d within))

-- ---- the snapshot of a name

-- what holds of all entries holds of the one that is found
pub entry_holds : {X : Type 0} (P : X → Type 0) (table : List (Named X)) (name : Name) (x : X)
    → All (λ e. P e.value) table → entry table name ≡ Some x → P x
entry_holds P [] name x all is = absurd (none-some x is)
entry_holds {X} P (e ∷ es) name x all is =
    let Q : Named X → Type 0 = λ e. P e.value in
    elim (is_named name e) as (λ b.
    option_map (λ (e : Named X). e.value) (cond b (Some e) (find (is_named name) es)) ≡ Some x
    → P x) [
      | true ↦ λ found. subst P (same_Some e.value x found) (All-head Q e es all)
      | false ↦ λ found. entry_holds P es name x (All-tail Q e es all) found
    ] is

-- each copy is one of the copies
pub all_listed : (snapshots : Snapshots)
    → All (λ e. (c : Copy) → e.value ≡ Some c → Contains (copies_in snapshots) c) snapshots
all_listed [] = All-nil (λ (e : Named (Option Copy)). (c : Copy) → e.value ≡ Some c
    → Contains (copies_in []) c)
all_listed (e ∷ es) =
    let all = copies_in es in
    let P : Named (Option Copy) → Type 0 = λ f. (c : Copy) → f.value ≡ Some c
    → Contains (cons_option e.value all) c in
    All-cons P e es (λ c is. here e.value all c is)
    (All-weaker (λ f. (c : Copy) → f.value ≡ Some c → Contains all c) P
    (λ f listed c is. in_rest e.value all c (listed c is)) es (all_listed es))
  where
    here : (o : Option Copy) (all : List Copy) (c : Copy) → o ≡ Some c
        → Contains (cons_option o all) c
    here None all c is = absurd (none-some c is)
    here (Some x) all c is =
        subst (Contains (x ∷ all)) (same_Some x c is)
        (Contains-append_left (x ∷ []) all x (Contains-push [] x))
