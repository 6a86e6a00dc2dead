-- Changes that were accepted can be taken back, and leave no trace.
use Rattle.std.proofs.Common.{◌≡◌, ℕ, ◌≤◌, sym, subst, ap}
use Rattle.observe_core.specs.declared.changes.Change.{Change}
use Rattle.observe_core.specs.declared.changes.Change.TheVariants.{Add, Shift, Build}
use Rattle.observe_core.specs.Seen.{Seen, IsSound, need}
use Rattle.observe_core.specs.Told.{added, shifted, built}
use Rattle.observe_core.specs.Conditions.{CanAdd, CanShift, CanBuild}
use Rattle.observe_core.specs.Changes.{told, untold, CanTell, CanUntell}
use Rattle.observe_core.proofs.Undone.{unadded-added, unshifted-shifted, unbuilt-built}

pub untold-told : (c : Change) (s : Seen) → CanTell c s → IsSound s → untold c (told c s) ≡ s
untold-told (Add f) s can sound = unadded-added f s can
untold-told (Shift old now) s can sound = unshifted-shifted old now s can sound
untold-told (Build all) s can sound = unbuilt-built all.now s can

pub can_untell : (c : Change) (s : Seen) (reach : ℕ) → CanTell c s → IsSound s → need s ≤ reach
    → CanUntell c (told c s) reach
can_untell (Add f) s reach can sound far =
    let e = unadded-added f s can in
    record {
      could = subst (CanAdd f) (sym e) can;
      sound = subst IsSound (sym e) sound;
      same =
          ap (added f) e;
      reached = subst (λ t. need t ≤ reach) (sym e) far;
    }
can_untell (Shift old now) s reach can sound far =
    let e = unshifted-shifted old now s can sound in
    record {
      could = subst (CanShift old now) (sym e) can;
      sound =
          subst IsSound (sym e) sound;
      same = ap (shifted old now) e;
      reached =
          subst (λ t. need t ≤ reach) (sym e) far;
    }
can_untell (Build all) s reach can sound far =
    let e = unbuilt-built all.now s can in
    record {
      all = all.now;
      could = subst (CanBuild all.now) (sym e) can;
      sound =
          subst IsSound (sym e) sound;
      same = ap (built all.now) e;
      reached =
          subst (λ t. need t ≤ reach) (sym e) far;
    }
