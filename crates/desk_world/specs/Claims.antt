-- The seats that the tables of a world claim.
use Rattle.std.specs.Prelude.{◌≡◌, ℕ, Bool, true, false, ◌&&◌, ◌==◌, List, [], ◌∷◌, ◌++◌, map}
use Rattle.std.specs.Prelude.{Option, None, Some, not, is_some}
use Rattle.std.specs.List.{list_any, flat_map}
use Rattle.std.specs.Option.{option_map_or}
use Rattle.base_items.specs.declared.items.ItemSort.{ItemSort}
use Rattle.base_items.specs.declared.items.ItemSort.TheVariants as sorts
use Rattle.script_words.specs.declared.commands.Direction.{Direction}
use Rattle.script_words.specs.declared.commands.Direction.TheVariants as ways
use Rattle.observe_core.specs.declared.kinds.KeptShape.{KeptShape}
use Rattle.observe_core.specs.declared.kinds.Kind.{Kind}
use Rattle.observe_core.specs.declared.kinds.Kind.TheVariants as kinds
use Rattle.observe_core.specs.Held as held
use Rattle.observe_core.specs.Held.{making_of}
use Rattle.observe_core.specs.Seen.{Seen}
use Rattle.alter_graph.specs.declared.snaps.SnapKeys.{SnapKeys}
use Rattle.alter_graph.specs.Verdict.{is_sort}
use Rattle.plain_world.specs.Tables.{Named}
use Rattle.desk_seats.specs.Forms as forms
use Rattle.desk_world.specs.declared.tables.MapKind.{MapKind}
use Rattle.desk_world.specs.declared.tables.MapKind.TheVariants as maps
use Rattle.desk_world.specs.declared.tables.MapRow.{MapRow}
use Rattle.desk_world.specs.declared.tables.ItemTables.{ItemTables}
use Rattle.desk_world.specs.declared.tables.GuardRow.{GuardRow}
use Rattle.desk_world.specs.declared.tables.KeptKeys.{KeptKeys}
use Rattle.desk_world.specs.declared.tables.ViewRow.{ViewRow}
use Rattle.desk_world.specs.declared.world.World.{World}
use Rattle.desk_world.specs.Plain.{seat_sort}

-- what sits in a seat
pub data Role : Type 0 where
  Ints : Role
  Bools : Role
  Texts : Role
  Labels : Role
  Degrees : (out : Bool) → Role
  Trues : Role
  Half : Role
  KeptNodes : (all : Bool) → Role
  KeptArcs : (shape : KeptShape) (all : Bool) → Role
  Ties : Role
  Guard : Role

-- a seat that a table speaks of
pub record Claim : Type 0 where
  pub sort : ItemSort
  pub key : ℕ
  pub role : Role

abbrev pub claim : ItemSort → ℕ → Role → Claim
claim sort key role = record { sort = sort; key = key; role = role }

-- ---- what is seen of each role

-- the place of its variant
abbrev pub form_of : Role → ℕ
form_of Ints = forms.ints_form
form_of Bools = forms.bools_form
form_of Texts = forms.texts_form
form_of Labels = forms.labels_form
form_of (Degrees out) = forms.degrees_form
form_of Trues = forms.trues_form
form_of Half = forms.half_form
form_of (KeptNodes all) = forms.nodes_form
form_of (KeptArcs shape all) = forms.arcs_form
form_of Ties = forms.ties_form
form_of Guard = forms.boxed_form

-- how it was made
abbrev pub made_for : Role → held.Making
made_for Ints = held.OfValues held.Ints
made_for Bools = held.OfValues held.Bools
made_for Texts = held.OfValues held.Texts
made_for Labels = held.OfValues held.Labels
made_for (Degrees out) = held.OfDegree out
made_for Trues = held.OfValues held.Trues
made_for Half = held.OfHalf
made_for (KeptNodes all) = held.OfKept held.KeptNodes all
made_for (KeptArcs shape all) = held.OfKept (held.KeptArcs shape) all
made_for Ties = held.OfTies
made_for Guard = held.OfGuard

abbrev pub is_map : Kind → Bool
is_map kinds.Map = true
is_map kinds.Quota = false
is_map kinds.Loopless = false
is_map kinds.Simple = false
is_map kinds.OutCap = false
is_map kinds.Fuse = false
is_map kinds.Tally = false

-- all but boxes are maps
abbrev pub has_map_kind : Role → Bool
has_map_kind Guard = false
has_map_kind _ = true

-- the observer has the role
pub record Plays (role : Role) (s : Seen) : Type 0 where
  pub form : s.form ≡ form_of role
  pub making : making_of s.held ≡ made_for role
  pub kind : is_map s.kind ≡ has_map_kind role

-- the seat is there, and its observer has the role
abbrev pub Sits : Role → Option Seen → Type 0
Sits role None = ⊥
Sits role (Some s) = Plays role s

-- ---- the claims of the tables

abbrev pub is_out : Direction → Bool
is_out ways.Out = true
is_out ways.In = false

abbrev pub role_of : MapKind → Role
role_of maps.Ints = Ints
role_of maps.Bools = Bools
role_of maps.Texts = Texts
role_of (maps.Degrees way) = Degrees (is_out way)
role_of (maps.Trues map) = Trues

abbrev pub map_claim : ItemSort → Named MapRow → Claim
map_claim sort e = claim (seat_sort sort e.value.kind) e.value.key.0 (role_of e.value.kind)

-- the labels and the ties of a sort
abbrev pub own_claims : ItemSort → ItemTables → List Claim
own_claims sort items = claim sort items.labels.0 Labels ∷ claim sort items.ties.0 Ties ∷ []

abbrev pub guard_claim : Named GuardRow → Claim
guard_claim e = claim e.value.sort e.value.key.0 Guard

abbrev pub snap_claims : Named SnapKeys → List Claim
snap_claims e = claim sorts.Node e.value.nodes.0 Half ∷ claim sorts.Arc e.value.arcs.0 Half ∷ []

-- the seats of a kept view; where it has no filter of a sort, all items of the sort are shown
abbrev pub kept_claims : KeptKeys → List Claim
kept_claims keys =
    claim sorts.Node keys.nodes.0 (KeptNodes (not (is_some keys.maps.node_filter)))
    ∷ claim sorts.Arc keys.arcs.0
    (KeptArcs keys.maps.shape (not (is_some keys.maps.arc_filter)))
    ∷ []

abbrev pub view_claims : Named ViewRow → List Claim
view_claims e = option_map_or kept_claims e.value.kept []

-- the seats that the tables of a world speak of
abbrev pub claims_of : {O : Type 0} → World O → List Claim
claims_of w =
    own_claims sorts.Node w.nodes
    ++ (own_claims sorts.Arc w.arcs
    ++ (map (map_claim sorts.Node) w.nodes.maps.rows
    ++ (map (map_claim sorts.Arc) w.arcs.maps.rows
    ++ (flat_map view_claims w.views.rows
    ++ (map guard_claim w.guards.rows ++ flat_map snap_claims w.snapshots.rows)))))

-- whether one of the claims is of this seat
abbrev pub is_claimed : List Claim → ItemSort → ℕ → Bool
is_claimed claims sort key = list_any (λ c. is_sort c.sort sort && c.key == key) claims

-- no seat is claimed twice
abbrev pub ClaimsDiffer : List Claim → Type 0
ClaimsDiffer [] = Unit {0}
ClaimsDiffer (c ∷ claims) = (is_claimed claims c.sort c.key ≡ false) × ClaimsDiffer claims
