-- The law of an observer's own facts, and that of the facts it stands for.
use Rattle.std.proofs.Common.{ℕ, List, [], refl, sym, subst}
use Rattle.base_items.specs.declared.items.Fact.{Fact}
use Rattle.observe_core.specs.declared.kinds.Kind.{Kind}
use Rattle.observe_core.specs.declared.kinds.Kind.TheVariants.{Map, Quota, Loopless, Simple, OutCap}
use Rattle.observe_core.specs.declared.kinds.Kind.TheVariants.{Fuse, Tally}
use Rattle.observe_core.specs.Seen.{Seen, Lawful}
use Rattle.observe_core.specs.Guards.{Law, by_kind}
use Rattle.observe_core.specs.Fits.{Fits}

law_out : (kind : Kind) (k : ℕ) (live : List Fact) → Law kind k (by_kind [] live kind)
    → Law kind k live
law_out Map k live h = refl
law_out Quota k live h = h
law_out Loopless k live h = h
law_out Simple k live h = h
law_out OutCap k live h = h
law_out Fuse k live h = refl
law_out Tally k live h = refl

law_in : (kind : Kind) (k : ℕ) (live : List Fact) → Law kind k live
    → Law kind k (by_kind [] live kind)
law_in Map k live h = refl
law_in Quota k live h = h
law_in Loopless k live h = h
law_in Simple k live h = h
law_in OutCap k live h = h
law_in Fuse k live h = refl
law_in Tally k live h = refl

-- an observer is lawful exactly where the facts that it stands for keep its law
pub lawful-live : (s : Seen) (live : List Fact) → Fits s live → Lawful s → Law s.kind s.k live
lawful-live s live f h = law_out s.kind s.k live (subst (Law s.kind s.k) f.guard h)

pub live-lawful : (s : Seen) (live : List Fact) → Fits s live → Law s.kind s.k live → Lawful s
live-lawful s live f h = subst (Law s.kind s.k) (sym f.guard) (law_in s.kind s.k live h)
