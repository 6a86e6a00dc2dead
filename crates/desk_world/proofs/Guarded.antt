-- What is seen of a guard after a notice is what becomes of the guard that it was seen as.
use Rattle.std.proofs.Common.{◌≡◌, ℕ, ◌+◌, ◌-◌, ◌<◌, Bool, true, false, cond, length}
use Rattle.std.proofs.Common.{List, [], Option, Some, None, refl, sym, ap, ◌∙◌, subst, arith}
use Rattle.std.proofs.Common.{inl, inr}
use Rattle.std.specs.Prelude.{◌==◌, ◌&&◌, nat_eq, option_map}
use Rattle.std.proofs.lemmas.Bool.{cases_eq, eq-eqb, ne_eqb, true≢false}
use Rattle.std.proofs.lemmas.Option.{none-some, same_Some}
use Rattle.base_items.specs.declared.items.Fact.{Fact}
use Rattle.base_items.specs.declared.items.ItemSort.{ItemSort}
use Rattle.plain_digraph.specs.PlainSteps.{Change, Untouched, Added, Moved, Erased, Cleared}
use Rattle.observe_core.specs.declared.changes.Change.TheVariants.{Add, Shift, Build}
use Rattle.observe_core.specs.declared.losses.Loss.{Loss}
use Rattle.observe_core.specs.declared.losses.Loss.TheVariants.{Erase, Clear}
use Rattle.observe_core.specs.declared.kinds.After.TheVariants.{Keep, Detach}
use Rattle.observe_core.specs.declared.kinds.Kind.{Kind}
use Rattle.observe_core.specs.declared.kinds.Kind.TheVariants as kinds
use Rattle.observe_core.specs.Guards.{by_kind, fuse_part, tally_part}
use Rattle.observe_core.specs.Losses.{lost, leaves_at}
use Rattle.observe_core.specs.Seen.{Seen}
use Rattle.notify_chain.specs.Leaving.{goes}
use Rattle.alter_graph.specs.Steps.{Notice, Tells, Loses}
use Rattle.alter_graph.proofs.Telling.{CanHear}
use Rattle.plain_world.specs.World as plain
use Rattle.plain_world.specs.Following as following
use Rattle.plain_world.specs.Following.{guard_after}
use Rattle.desk_world.specs.Claims.{is_map}
use Rattle.desk_world.specs.Plain.{guard_by, word_of}
use Rattle.desk_world.proofs.Noticed.{heard_by, change_by}
use Rattle.desk_world.proofs.Stood.{Stood}

-- a fuse has something left
abbrev pub IsCharged : Kind → ℕ → Type 0
IsCharged kinds.Map left = Unit {0}
IsCharged kinds.Quota left = Unit {0}
IsCharged kinds.Loopless left = Unit {0}
IsCharged kinds.Simple left = Unit {0}
IsCharged kinds.OutCap left = Unit {0}
IsCharged kinds.Fuse left = 0 < left
IsCharged kinds.Tally left = Unit {0}

-- which matters where something is lost
abbrev pub CanBurn : Notice → Seen → Type 0
CanBurn (Tells change) s = Unit {0}
CanBurn (Loses loss) s = IsCharged s.kind s.left

-- ---- numbers

more_none : (n : ℕ) → n + 0 ≡ n
more_none n = omega arith

less_none : (n : ℕ) → n - 0 ≡ n
less_none n = omega arith

-- a fuse with something left is out exactly where that was 1
last_one : (left : ℕ) → 0 < left → nat_eq (left - 1) 0 ≡ (left == 1)
last_one left some = elim (cases_eq left 1) [
  | inl is ↦ eq-eqb (left - 1) 0 (omega (arith, is)) ∙ sym (eq-eqb left 1 is)
  | inr other ↦
      ne_eqb (left - 1) 0 (λ e. other (omega (arith, e, some))) ∙ sym (ne_eqb left 1 other)
]

still_some : (left : ℕ) → nat_eq (left - 1) 0 ≡ false → 0 < left - 1
still_some left is = elim (cases_eq (left - 1) 0) [
  | inl none ↦ absurd (true≢false (sym (eq-eqb (left - 1) 0 none) ∙ is))
  | inr some ↦ omega (arith, some)
]

-- ---- by kind

abbrev guard_of : ItemSort → Kind → (k left added erased moved : ℕ) → plain.Guard
guard_of sort kind k left added erased moved = record {
  sort = sort;
  kind = word_of kind;
  limit = k;
  left = left;
  added = added;
  erased = erased;
  moved = moved;
}

abbrev pub becomes : Change → plain.Guard → Option plain.Guard
becomes change guard = following.by_kind guard.kind change guard

module _ (sort : ItemSort) (k left added erased moved : ℕ) where
  guard_told : (kind : Kind) (id : ℕ) → is_map kind ≡ false
      → Some (guard_of sort kind k left (added + tally_part kind 1) erased moved)
      ≡ becomes (Added id) (guard_of sort kind k left added erased moved)
  guard_told kinds.Map id is = absurd (true≢false is)
  guard_told kinds.Quota id is =
      ap (λ n. Some (guard_of sort kinds.Quota k left n erased moved)) (more_none added)
  guard_told kinds.Loopless id is =
      ap (λ n. Some (guard_of sort kinds.Loopless k left n erased moved)) (more_none added)
  guard_told kinds.Simple id is =
      ap (λ n. Some (guard_of sort kinds.Simple k left n erased moved)) (more_none added)
  guard_told kinds.OutCap id is =
      ap (λ n. Some (guard_of sort kinds.OutCap k left n erased moved)) (more_none added)
  guard_told kinds.Fuse id is =
      ap (λ n. Some (guard_of sort kinds.Fuse k left n erased moved)) (more_none added)
  guard_told kinds.Tally id is = refl

  guard_moved : (kind : Kind) → is_map kind ≡ false
      → Some (guard_of sort kind k left added erased (moved + tally_part kind 1))
      ≡ becomes Moved (guard_of sort kind k left added erased moved)
  guard_moved kinds.Map is = absurd (true≢false is)
  guard_moved kinds.Quota is =
      ap (λ n. Some (guard_of sort kinds.Quota k left added erased n)) (more_none moved)
  guard_moved kinds.Loopless is =
      ap (λ n. Some (guard_of sort kinds.Loopless k left added erased n)) (more_none moved)
  guard_moved kinds.Simple is =
      ap (λ n. Some (guard_of sort kinds.Simple k left added erased n)) (more_none moved)
  guard_moved kinds.OutCap is =
      ap (λ n. Some (guard_of sort kinds.OutCap k left added erased n)) (more_none moved)
  guard_moved kinds.Fuse is =
      ap (λ n. Some (guard_of sort kinds.Fuse k left added erased n)) (more_none moved)
  guard_moved kinds.Tally is = refl

  -- of a kind that neither leaves nor counts
  abbrev same_lost : Kind → Option plain.Guard
  same_lost kind = Some (guard_of sort kind k (left - 0) added (erased + 0) moved)

  same_then : (kind : Kind)
      → same_lost kind ≡ Some (guard_of sort kind k left added erased moved)
  same_then kind =
      let l = less_none left in
      let e = more_none erased in
      λ i. Some (guard_of sort kind k (l i) added (e i) moved)

  guard_erased : (kind : Kind) (id : ℕ) → is_map kind ≡ false → IsCharged kind left
      → cond (goes (cond (nat_eq (fuse_part kind 1) 1 && nat_eq (left - fuse_part kind 1) 0)
      Detach Keep)) None
      (Some (guard_of sort kind k (left - fuse_part kind 1) added (erased + tally_part kind 1)
      moved))
      ≡ becomes (Erased id) (guard_of sort kind k left added erased moved)
  guard_erased kinds.Map id is charged = absurd (true≢false is)
  guard_erased kinds.Quota id is charged = same_then kinds.Quota
  guard_erased kinds.Loopless id is charged = same_then kinds.Loopless
  guard_erased kinds.Simple id is charged = same_then kinds.Simple
  guard_erased kinds.OutCap id is charged = same_then kinds.OutCap
  guard_erased kinds.Fuse id is charged =
      let last = last_one left charged in
      let e = more_none erased in
      (λ i. cond (goes (cond (last i) Detach Keep)) None
      (Some (guard_of sort kinds.Fuse k (left - 1) added (e i) moved)))
      ∙ elim (left == 1) as (λ b. cond (goes (cond b Detach Keep)) None
      (Some (guard_of sort kinds.Fuse k (left - 1) added erased moved))
      ≡ cond b None (Some (guard_of sort kinds.Fuse k (left - 1) added erased moved))) [
        | true ↦ refl
        | false ↦ refl
      ]
  guard_erased kinds.Tally id is charged =
      ap (λ n. Some (guard_of sort kinds.Tally k n added (erased + 1) moved)) (less_none left)

  guard_cleared : (kind : Kind) (there count : ℕ) → is_map kind ≡ false
      → tally_part kind there ≡ tally_part kind count
      → cond (goes (cond (nat_eq (fuse_part kind 1) 1 && nat_eq 0 0) Detach Keep)) None
      (Some (guard_of sort kind k left added (erased + tally_part kind there) moved))
      ≡ becomes (Cleared count) (guard_of sort kind k left added erased moved)
  guard_cleared kinds.Map there count is same = absurd (true≢false is)
  guard_cleared kinds.Quota there count is same =
      ap (λ n. Some (guard_of sort kinds.Quota k left added n moved)) (more_none erased)
  guard_cleared kinds.Loopless there count is same =
      ap (λ n. Some (guard_of sort kinds.Loopless k left added n moved)) (more_none erased)
  guard_cleared kinds.Simple there count is same =
      ap (λ n. Some (guard_of sort kinds.Simple k left added n moved)) (more_none erased)
  guard_cleared kinds.OutCap there count is same =
      ap (λ n. Some (guard_of sort kinds.OutCap k left added n moved)) (more_none erased)
  guard_cleared kinds.Fuse there count is same = refl
  guard_cleared kinds.Tally there count is same =
      ap (λ n. Some (guard_of sort kinds.Tally k left added (erased + n) moved)) same

-- as many as are there
counted : (kind : Kind) (facts live : List Fact) (count : ℕ) → facts ≡ by_kind [] live kind
    → length live ≡ count → tally_part kind (length facts) ≡ tally_part kind count
counted kinds.Map facts live count own all = refl
counted kinds.Quota facts live count own all = refl
counted kinds.Loopless facts live count own all = refl
counted kinds.Simple facts live count own all = refl
counted kinds.OutCap facts live count own all = refl
counted kinds.Fuse facts live count own all = refl
counted kinds.Tally facts live count own all = ap length own ∙ all

-- ---- one guard

seen_as : (sort : ItemSort) (b : Bool) (s : Seen)
    → option_map (guard_by sort) (cond b None (Some s)) ≡ cond b None (Some (guard_by sort s))
seen_as sort true s = refl
seen_as sort false s = refl

pub guard_hears : (n : Notice) (live : List Fact) (count : ℕ) (sort : ItemSort) (was : Seen)
    → CanHear n live → Stood live was → length live ≡ count → is_map was.kind ≡ false
    → CanBurn n was
    → option_map (guard_by sort) (heard_by n was)
    ≡ becomes (change_by n count) (guard_by sort was)
guard_hears (Tells (Add f)) live count sort was can stood all is burns =
    guard_told sort was.k was.left was.added was.erased was.moved was.kind f.id is
guard_hears (Tells (Shift old now)) live count sort was can stood all is burns =
    guard_moved sort was.k was.left was.added was.erased was.moved was.kind is
guard_hears (Tells (Build facts)) live count sort was can stood all is burns = absurd can
guard_hears (Loses (Erase f)) live count sort was can stood all is burns =
    seen_as sort (goes (leaves_at (Erase f) was)) (lost (Erase f) was)
    ∙ guard_erased sort was.k was.left was.added was.erased was.moved was.kind f.id is burns
guard_hears (Loses Clear) live count sort was can stood all is burns =
    seen_as sort (goes (leaves_at Clear was)) (lost Clear was)
    ∙ guard_cleared sort was.k was.left was.added was.erased was.moved was.kind
    (length was.facts) count is (counted was.kind was.facts live count stood.guard all)

-- where nothing was heard
pub guard_unheard : (sort : ItemSort) (was : Seen)
    → Some (guard_by sort was) ≡ becomes Untouched (guard_by sort was)
guard_unheard sort was =
    of was.kind
  where
    of : (kind : Kind) → Some (guard_of sort kind was.k was.left was.added was.erased was.moved)
        ≡ becomes Untouched (guard_of sort kind was.k was.left was.added was.erased was.moved)
    of kinds.Map = refl
    of kinds.Quota = refl
    of kinds.Loopless = refl
    of kinds.Simple = refl
    of kinds.OutCap = refl
    of kinds.Fuse = refl
    of kinds.Tally = refl

-- ---- what is left of a fuse

fuse_stays : (kind : Kind) (left : ℕ) → IsCharged kind left
    → goes (cond (nat_eq (fuse_part kind 1) 1 && nat_eq (left - fuse_part kind 1) 0) Detach Keep)
    ≡ false → IsCharged kind (left - fuse_part kind 1)
fuse_stays kinds.Map left charged is = tt
fuse_stays kinds.Quota left charged is = tt
fuse_stays kinds.Loopless left charged is = tt
fuse_stays kinds.Simple left charged is = tt
fuse_stays kinds.OutCap left charged is = tt
fuse_stays kinds.Fuse left charged is =
    still_some left (of (nat_eq (left - 1) 0) is)
  where
    of : (b : Bool) → goes (cond b Detach Keep) ≡ false → b ≡ false
    of true is = absurd (true≢false is)
    of false is = refl
fuse_stays kinds.Tally left charged is = tt

-- a guard that stays is charged still
pub charged_on : (n : Notice) (was later : Seen) → IsCharged was.kind was.left
    → heard_by n was ≡ Some later → IsCharged later.kind later.left
charged_on (Tells (Add f)) was later charged is =
    subst (λ (s : Seen). IsCharged s.kind s.left) (same_Some _ later is) charged
charged_on (Tells (Shift old now)) was later charged is =
    subst (λ (s : Seen). IsCharged s.kind s.left) (same_Some _ later is) charged
charged_on (Tells (Build all)) was later charged is =
    subst (λ (s : Seen). IsCharged s.kind s.left) (same_Some _ later is) charged
charged_on (Loses loss) was later charged is =
    of (goes (leaves_at loss was)) refl is
  where
    by : (l : Loss) → goes (leaves_at l was) ≡ false
        → IsCharged (lost l was).kind (lost l was).left
    by (Erase f) stays = fuse_stays was.kind was.left charged stays
    by Clear stays = charged

    of : (b : Bool) → goes (leaves_at loss was) ≡ b
        → cond b None (Some (lost loss was)) ≡ Some later → IsCharged later.kind later.left
    of true goes is = absurd (none-some later is)
    of false stays is =
        subst (λ (s : Seen). IsCharged s.kind s.left) (same_Some (lost loss was) later is)
        (by loss stays)
