-- One arc further up.
use Rattle.std.proofs.Common.{◌≡◌, ◌≢◌, inl, inr, ℕ, ◌+◌, ◌-◌, ◌<◌, List}
use Rattle.std.proofs.Common.{[], ◌∷◌, ◌++◌, length, reverse, refl, sym, ◌∙◌, ap, arith}
use Rattle.std.proofs.Math.ListN.{set, length-set}
use Rattle.std.proofs.lemmas.Bool.Decides.{eqb_tells}
use Rattle.std.proofs.Math.ListN.{get_or-append}
use Rattle.std.proofs.Math.Seq.{get_or-append_seam}
use Rattle.std.proofs.lemmas.List.{get_or-set_same, get_or-set_other, reverse-append}
use Rattle.std.proofs.lemmas.List.{length-append}
use Rattle.plain_certificates.specs.Numbered.{Numbered, EndsAreNodes}
use Rattle.plain_certificates.specs.Tables.{at}
use Rattle.pace_search.specs.Tree.{IsTreeArc, IsTree}
use Rattle.pace_search.specs.Climbs.{IsClimb}
use Rattle.pace_search.proofs.Marks.{fewer_open}

module _ (g : Numbered) (len first D V T : ℕ → ℕ) (clock : ℕ)
    (ends : EndsAreNodes g) (tree : IsTree g len first D V T clock)
    (mark path : List ℕ) (base start node : ℕ) (was : IsClimb g D V mark path base start node)
    (in_arcs : V node < g.arcs) (fresh : at 0 mark node ≡ 0) where
  abbrev k : ℕ
  k = V node

  abbrev count : ℕ
  count = base + length path + 1

  abbrev mark' : List ℕ
  mark' = set mark node count

  abbrev path' : List ℕ
  path' = path ++ (k ∷ [])

  arc : IsTreeArc g len D T node k
  arc = tree.via node was.inside was.near in_arcs

  grown : length path' ≡ length path + 1
  grown = length-append path (k ∷ []) ∙ omega arith

  here : node < length mark
  here = let a = was.inside in let b = was.sized in omega (arith, a, b)

  marked : at 0 mark' node ≡ count
  marked = get_or-set_same mark node count 0 here

  other : (w : ℕ) → w ≢ node → at 0 mark' w ≡ at 0 mark w
  other w ne = get_or-set_other mark node w count 0 ne

  last_place : at 0 path' (length path) ≡ k
  last_place = get_or-append_seam path k [] 0

  back : reverse path' ≡ k ∷ reverse path
  back = reverse-append path (k ∷ [])

  off : (i : ℕ) → i < length path → g.to (at 0 path i) ≢ node
  off i l e =
      let a = was.places i l in
      let b = ap (λ w. at 0 mark w) e in
      absurd (omega (arith, a, b, fresh))

  pub climbed : IsClimb g D V mark' path' base start (g.from k)
  climbed = record {
    sized = length-set mark node count ∙ was.sized;
    inside = (ends k in_arcs).0;
    near = arc.near;
    counted =
        (let fewer = fewer_open mark node count here fresh (omega arith) in
        let all = was.counted in
        let more = grown in
        omega (arith, fewer, all, more));
    walk = rw back (in_arcs, refl, rw arc.ends was.walk);
    last = rw back (ap V arc.ends, rw arc.ends was.near, was.last);
    places = λ i l. elim (eqb_tells i (length path)) [
      | inl e ↦ rw (e.1, last_place, arc.ends, marked) (omega arith)
      | inr e ↦
          (let ne = e.1 in
          let more = grown in
          let low : i < length path = omega (arith, ne, l, more) in
          rw (get_or-append path (k ∷ []) 0 i low, other (g.to (at 0 path i)) (off i low))
          (was.places i low))
    ];
    placed = λ w l. elim (eqb_tells w node) [
      | inl e ↦
          (let more = grown in
          let is = ap (at 0 mark') e.1 ∙ marked in
          let place : at 0 mark' w - base - 1 ≡ length path = omega (arith, is) in
          (omega (arith, is, more), rw (place, last_place) (arc.ends ∙ sym e.1)))
      | inr e ↦
          (let more = grown in
          let is = other w e.1 in
          let old = was.placed w (omega (arith, is, l)) in
          let in_path = old.0 in (
            omega (arith, is, in_path, more),
            rw (
              is,
              get_or-append path (k ∷ []) 0 (at 0 mark w - base - 1)
                  (omega (arith, is, l, in_path)),
            ) old.1,
          ))
    ];
    before = λ w l some few. elim (eqb_tells w node) [
      | inl e ↦ absurd (let is = ap (at 0 mark') e.1 ∙ marked in omega (arith, is, few))
      | inr e ↦
          (let is = other w e.1 in
          was.before w l (omega (arith, is, some)) (omega (arith, is, few)))
    ];
    lower = λ w l high.
        (let more = grown in
        let step = arc.enough in
        elim (eqb_tells w node) [
          | inl e ↦ (let d = ap D e.1 in omega (arith, d, step, more))
          | inr e ↦
              (let is = other w e.1 in
              let old = was.lower w l (omega (arith, is, high)) in
              omega (arith, old, step, more))
        ]);
    rises =
        (let more = grown in
        let step = arc.enough in
        let old = was.rises in
        omega (arith, old, step, more));
  }
