-- What an accepted notice gave is undone by what its undo notice computes.
use Rattle.std.proofs.Common.{◌≡◌, ◌≢◌, ℕ, ◌+◌, ◌-◌, Bool, true, false, ◌==◌, if◌then◌else◌, IsTrue}
use Rattle.std.proofs.Common.{List, [], ◌∷◌, map, refl, sym, ap, subst, ◌∙◌, arith, Contains}
use Rattle.std.proofs.Common.{count_by}
use Rattle.std.proofs.lemmas.Grind.{common_steps}
use Rattle.base_items.specs.declared.items.Fact.{Fact}
use Rattle.observe_core.specs.declared.kinds.Kind.{Kind}
use Rattle.observe_core.specs.declared.kinds.Kind.TheVariants.{Map, Quota, Loopless, Simple, OutCap}
use Rattle.observe_core.specs.declared.kinds.Kind.TheVariants.{Fuse, Tally}
use Rattle.plain_digraph.specs.Rising.{with_item, without_item}
use Rattle.plain_digraph.specs.Lists.{AllOf}
use Rattle.observe_core.specs.Items.{Lacks, HoldsOnly, has_id, rises_from, number_id, put_number}
use Rattle.observe_core.specs.Items.{drop_number, never_falls}
use Rattle.plain_digraph.specs.Facts.{fact_id}
use Rattle.observe_core.specs.Facts.{end_of}
use Rattle.observe_core.specs.Held.{Held, Nothing, Values, Degree, Half, Kept, Ties, Entry}
use Rattle.observe_core.specs.Held.{entry_id, Marked, marked_id, IsHeldSound}
use Rattle.observe_core.specs.Guards.{by_kind, tally_part}
use Rattle.observe_core.specs.Seen.{Seen, IsSound, facts_of_marked}
use Rattle.observe_core.specs.Told.{added, held_added, new_entry, new_marked, shifted, held_shifted}
use Rattle.observe_core.specs.Told.{kept_moved, marked_moved, built, held_built}
use Rattle.observe_core.specs.Untold.{unadded, held_unadded, unshifted, unbuilt, held_unbuilt}
use Rattle.observe_core.specs.Fits.{HeldFits}
use Rattle.observe_core.specs.Conditions.{CanAdd, CanShift, CanBuild}
use Rattle.observe_core.proofs.ItemLemmas.{without-lacks, without-place, swapped-back}
use Rattle.observe_core.proofs.ItemLemmas.{drop-put_number, holds_only, put-drop_number, lacks-map}
use Rattle.observe_core.proofs.ItemLemmas.{apart}
use Rattle.observe_core.proofs.CountLemmas.{counted-has, contained-counted}
use Rattle.observe_core.proofs.KeptLemmas.{kept-back, kept-older}

-- a fact of a guard's is one of the live ones
pub own : (P : List Fact → Type 0) → P [] → (k : Kind) (facts live : List Fact)
    → facts ≡ by_kind [] live k → P live → P facts
own P n Map facts live e h = subst P (sym e) n
own P n Quota facts live e h = subst P (sym e) h
own P n Loopless facts live e h = subst P (sym e) h
own P n Simple facts live e h = subst P (sym e) h
own P n OutCap facts live e h = subst P (sym e) h
own P n Fuse facts live e h = subst P (sym e) h
own P n Tally facts live e h = subst P (sym e) h

facts_back : (k : Kind) (f : Fact) (fs : List Fact) → Lacks fact_id f.id fs
    → without_item fact_id f.id (by_kind fs (with_item fact_id f fs) k) ≡ fs
facts_back Map f fs h = without-lacks fact_id f.id fs h
facts_back Quota f fs h = without-place fact_id f fs h
facts_back Loopless f fs h = without-place fact_id f fs h
facts_back Simple f fs h = without-place fact_id f fs h
facts_back OutCap f fs h = without-place fact_id f fs h
facts_back Fuse f fs h = without-place fact_id f fs h
facts_back Tally f fs h = without-place fact_id f fs h

pub entries_lack : {V : Type 0} (i : ℕ) (es : List (Entry V)) (live : List Fact)
    → map entry_id es ≡ map fact_id live → Lacks fact_id i live → Lacks entry_id i es
entries_lack i es live e h =
    lacks-map entry_id number_id i es (subst (Lacks number_id i) (sym e) (ids live h))
  where
    ids : (gs : List Fact) → Lacks fact_id i gs → Lacks number_id i (map fact_id gs)
    ids [] h = tt
    ids (g ∷ gs) h = (h.0, ids gs h.1)

pub numbers_lack : (i : ℕ) (ns : List ℕ) (live : List Fact)
    → AllOf (λ n. IsTrue (has_id fact_id n live)) ns → Lacks fact_id i live → Lacks number_id i ns
numbers_lack i [] live a h = tt
numbers_lack i (n ∷ ns) live a h = (apart fact_id i n live h a.0, numbers_lack i ns live a.1 h)

held_back : (f : Fact) (held : Held) (live : List Fact) → HeldFits held live
    → Lacks fact_id f.id live → held_unadded f (held_added f held) ≡ held
held_back f Nothing live fits h = refl
held_back f (Values t es) live fits h =
    ap (Values t) (without-place entry_id (new_entry t f.id) es (entries_lack f.id es live fits h))
held_back f (Degree out ends) live fits h = ap (Degree out) (drop-put_number (end_of out f) ends)
held_back f (Half new others kept valid) live fits h =
    ap (λ n. Half n others kept valid)
    (without-place number_id f.id new (numbers_lack f.id new live fits.among h))
held_back f (Kept role all items) live fits h =
    ap (Kept role all)
    (without-place marked_id (new_marked all f) items
    (lacks-map (λ m. m.fact) fact_id f.id items (subst (Lacks fact_id f.id) (sym fits) h)))
held_back f (Ties ties) live fits h = refl

-- an addition is undone
pub unadded-added : (f : Fact) (s : Seen) → CanAdd f s → unadded f (added f s) ≡ s
unadded-added f s can =
    let a : s.added + tally_part s.kind 1 - tally_part s.kind 1 ≡ s.added = omega arith in
    let b = facts_back s.kind f s.facts
    (own (Lacks fact_id f.id) tt s.kind s.facts can.live can.fits.guard can.untracked) in
    let c = held_back f s.held can.live can.fits.held can.untracked in
    λ i. record s { added = a i; facts = b i; held = c i }

ends_back : (out : Bool) (old now : Fact) (ends : List ℕ) (live : List Fact)
    → IsTrue (never_falls ends)
    → ((v : ℕ) → count_by (λ n. n == v) ends ≡ count_by (λ f. end_of out f == v) live)
    → Contains live old
    → put_number (end_of out old)
    (drop_number (end_of out now)
    (put_number (end_of out now) (drop_number (end_of out old) ends))) ≡ ends
ends_back out old now ends live sorted counts there =
    let c = contained-counted (λ f. end_of out f == end_of out old) old live
    (grind (arith, common_steps)) there in
    let e = counts (end_of out old) in
    let h = counted-has (end_of out old) ends (omega (arith, c, e)) in
    ap (put_number (end_of out old))
    (drop-put_number (end_of out now) (drop_number (end_of out old) ends))
    ∙ put-drop_number (end_of out old) ends sorted h

half_back : (old now : Fact) (new : List ℕ) (kept : List Fact) → now.id ≡ old.id
    → IsTrue (rises_from fact_id 0 kept) → AllOf (λ k. old ≢ k) kept
    → (if has_id number_id now.id new then
    (if has_id number_id old.id new then kept else kept_moved old now kept) else kept_moved now
    old (if has_id number_id old.id new then kept else kept_moved old now kept)) ≡ kept
half_back old now new kept e rising lacks =
    elim (has_id number_id old.id new) as (λ b. has_id number_id old.id new ≡ b
    → (if has_id number_id now.id new then (if b then kept else kept_moved old now kept) else
    kept_moved now old (if b then kept else kept_moved old now kept)) ≡ kept) [
      | true ↦ λ t.
          ap (λ b. if b then kept else kept_moved now old kept)
          (ap (λ j. has_id number_id j new) e ∙ t)
      | false ↦ λ t.
          ap (λ b. if b then kept_moved old now kept else kept_moved now old
          (kept_moved old now kept)) (ap (λ j. has_id number_id j new) e ∙ t)
          ∙ kept-back old now kept e rising lacks
    ] refl

marked_back : (old now : Fact) (items : List Marked) → now.id ≡ old.id
    → HoldsOnly fact_id old (facts_of_marked items)
    → marked_moved old (marked_moved now items) ≡ items
marked_back old now [] e h = refl
marked_back old now (m ∷ ms) e h =
    let r = marked_back old now ms e h.1 in
    elim (m.fact.id == now.id) as (λ b. (m.fact.id == now.id) ≡ b
    → marked_moved old ((if b then record m { fact = now } else m) ∷ marked_moved now ms)
    ≡ m ∷ ms) [
      | true ↦ λ t.
          let i : (now.id == old.id) ≡ true = grind (arith, common_steps, e) in
          let f : old ≡ m.fact = sym (h.0 (grind (arith, common_steps, t, e))) in
          let x : (if now.id == old.id then record m { fact = old } else record m { fact = now })
          ≡ m = ap (λ b. if b then record m { fact = old } else record m { fact = now }) i
          ∙ ap (λ g. record m { fact = g }) f in
          λ j. x j ∷ r j
      | false ↦ λ t.
          let i : (m.fact.id == old.id) ≡ false = grind (arith, common_steps, e, t) in
          let x : (if m.fact.id == old.id then record m { fact = old } else m) ≡ m =
          ap (λ b. if b then record m { fact = old } else m) i in
          λ j. x j ∷ r j
    ] refl

held_shifted_back : (old now : Fact) (held : Held) (live : List Fact) → now.id ≡ old.id
    → HeldFits held live → IsHeldSound held → Contains live old → HoldsOnly fact_id old live
    → held_shifted now old (held_shifted old now held) ≡ held
held_shifted_back old now Nothing live e fits sound there only = refl
held_shifted_back old now (Values t es) live e fits sound there only = refl
held_shifted_back old now (Degree out ends) live e fits sound there only =
    ap (Degree out) (ends_back out old now ends live sound fits there)
held_shifted_back old now (Half new others kept valid) live e fits sound there only =
    ap (λ k. Half new others k valid)
    (half_back old now new kept e sound.1 (kept-older new live kept old there fits.moved))
held_shifted_back old now (Kept role all items) live e fits sound there only =
    ap (Kept role all) (marked_back old now items e (subst (HoldsOnly fact_id old) (sym fits) only))
held_shifted_back old now (Ties ties) live e fits sound there only = refl

-- a move is undone
pub unshifted-shifted : (old now : Fact) (s : Seen) → CanShift old now s → IsSound s
    → unshifted old now (shifted old now s) ≡ s
unshifted-shifted old now s can sound =
    let a : s.moved + tally_part s.kind 1 - tally_part s.kind 1 ≡ s.moved = omega arith in
    let only = holds_only fact_id 0 old can.live can.is_live.rising can.tracked in
    let b = swapped-back fact_id old now s.facts can.same_id
    (own (HoldsOnly fact_id old) tt s.kind s.facts can.live can.fits.guard only) in
    let c = held_shifted_back old now s.held can.live can.same_id can.fits.held sound.held
    can.tracked only in
    λ i. record s { moved = a i; facts = b i; held = c i }

held_unbuilt_back : (all : List Fact) (held : Held)
    → held_unbuilt (held_built all held) ≡ held_unbuilt held
held_unbuilt_back all Nothing = refl
held_unbuilt_back all (Values t es) = refl
held_unbuilt_back all (Degree out ends) = refl
held_unbuilt_back all (Half new others kept valid) = refl
held_unbuilt_back all (Kept role shows items) = refl
held_unbuilt_back all (Ties ties) = refl

-- a build is undone
pub unbuilt-built : (all : List Fact) (s : Seen) → CanBuild all s → unbuilt (built all s) ≡ s
unbuilt-built all s can =
    let c = held_unbuilt_back all s.held in
    let e : unbuilt (built all s) ≡ unbuilt s = λ i. record s { facts = []; held = c i } in
    e ∙ sym can.empty
