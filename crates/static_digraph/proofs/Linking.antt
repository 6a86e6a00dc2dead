-- Arcs are linked from the last one to the first.
use Rattle.std.proofs.Common.{◌≡◌, ℕ, zero, suc, ◌+◌, ◌-◌, ◌<◌, ◌≤◌, Bool, true, false, cond, eqb}
use Rattle.std.proofs.Common.{List, ◌∷◌, length, filter, sym, ap, ◌∙◌, inl, inr, arith}
use Rattle.std.specs.List.{range_with_len}
use Rattle.std.proofs.Math.ListN.{set, length-set}
use Rattle.std.proofs.lemmas.Bool.Decides.{eqb_tells}
use Rattle.std.proofs.lemmas.List.{get_or-set_same, get_or-set_other}
use Rattle.plain_certificates.specs.Tables.{at}
use Rattle.static_digraph.specs.Rows.{IsLinked, AreLinked, rest_of}

-- links that agree from a number on
linked_same : (f g : ℕ → ℕ) (test : ℕ → Bool) (end low count from : ℕ)
    → ((x : ℕ) → low ≤ x → g x ≡ f x)
    → IsLinked f end from (filter test (range_with_len low count))
    → IsLinked g end from (filter test (range_with_len low count))
linked_same f g test end low zero from same h = h
linked_same f g test end low (suc count) from same h =
    either (test low) (filter test (range_with_len (low + 1) count))
    (λ next. linked_same f g test end (low + 1) count next (λ x l. same x (omega (arith, l)))) h
  where
    either : (b : Bool) (rest : List ℕ)
        → ((next : ℕ) → IsLinked f end next rest → IsLinked g end next rest)
        → IsLinked f end from (cond b (low ∷ rest) rest)
        → IsLinked g end from (cond b (low ∷ rest) rest)
    either true rest more h =
        (let is = same low (omega arith) in
        (h.0, h.1, rw is h.2, rw is (more (f low) h.3)))
    either false rest more h = more from h

-- the first number that is linked is one of them, or the end
linked_low : (f : ℕ → ℕ) (test : ℕ → Bool) (end low count from : ℕ) → low + count ≡ end
    → IsLinked f end from (filter test (range_with_len low count)) → low ≤ from
linked_low f test end low zero from sum h = omega (arith, sum, h)
linked_low f test end low (suc count) from sum h =
    either (test low) (filter test (range_with_len (low + 1) count))
    (λ g. linked_low f test end (low + 1) count from (omega (arith, sum)) g) h
  where
    either : (b : Bool) (rest : List ℕ) → (IsLinked f end from rest → low + 1 ≤ from)
        → IsLinked f end from (cond b (low ∷ rest) rest) → low ≤ from
    either true rest more h = (let is = h.0 in omega (arith, is))
    either false rest more h = (let above = more h in omega (arith, above))

rest_more : (end : ℕ → ℕ) (arcs node low : ℕ) → low < arcs
    → rest_of end arcs node low
    ≡ cond (eqb (end low) node) (low ∷ rest_of end arcs node (low + 1))
    (rest_of end arcs node (low + 1))
rest_more end arcs node low l =
    let size : arcs - low ≡ suc (arcs - (low + 1)) = omega (arith, l) in
    ap (λ count. filter (λ arc. eqb (end arc) node) (range_with_len low count)) size

module _ (nodes arcs : ℕ) (end : ℕ → ℕ) (first next : List ℕ) (low : ℕ) (l : low < arcs)
    (inside : end low < nodes) (links : AreLinked nodes arcs end first next (low + 1)) where
  in_next : low < length next
  in_next = let size = links.nexts in omega (arith, size, l)

  next_here : at 0 (set next low (at 0 first (end low))) low ≡ at 0 first (end low)
  next_here = get_or-set_same next low (at 0 first (end low)) 0 in_next

  next_other : (x : ℕ) → low + 1 ≤ x → at 0 (set next low (at 0 first (end low))) x ≡ at 0 next x
  next_other x m =
      get_or-set_other next low x (at 0 first (end low)) 0 (λ e. absurd (omega (arith, e, m)))

  rest_linked : (node : ℕ) → node < nodes
      → IsLinked (at 0 (set next low (at 0 first (end low)))) arcs (at 0 first node)
      (rest_of end arcs node (low + 1))
  rest_linked node m =
      linked_same (at 0 next) (at 0 (set next low (at 0 first (end low))))
      (λ arc. eqb (end arc) node) arcs (low + 1) (arcs - (low + 1)) (at 0 first node) next_other
      (links.linked node m)

  -- one arc more is linked, in front of the others at its node
  pub link_more : AreLinked nodes arcs end (set first (end low) low)
      (set next low (at 0 first (end low))) low
  link_more = record {
    firsts = length-set first (end low) low ∙ links.firsts;
    nexts = length-set next low (at 0 first (end low)) ∙ links.nexts;
    linked = λ node m. rw (rest_more end arcs node low l) (elim (eqb_tells (end low) node) [
      | inl e ↦
          (let is : at 0 (set first (end low) low) node ≡ low =
          ap (λ v. at 0 (set first (end low) low) v) (sym e.1)
          ∙ get_or-set_same first (end low) low 0
          (let size = links.firsts in omega (arith, size, inside)) in
          let above : low + 1 ≤ at 0 first node = linked_low (at 0 next)
          (λ arc. eqb (end arc) node) arcs (low + 1) (arcs - (low + 1)) (at 0 first node)
          (omega (arith, l)) (links.linked node m) in
          let to : at 0 (set next low (at 0 first (end low))) low ≡ at 0 first node =
          next_here ∙ ap (at 0 first) e.1 in
          rw e.0 (is, l, rw to (omega (arith, above)), rw to (rest_linked node m)))
      | inr e ↦
          (let is : at 0 (set first (end low) low) node ≡ at 0 first node =
          get_or-set_other first (end low) node low 0 (λ q. e.1 (sym q)) in
          rw (e.0, is) (rest_linked node m))
    ]);
  }

-- no arc is linked yet
pub none_linked : (nodes arcs : ℕ) (end : ℕ → ℕ) (first next : List ℕ) → length first ≡ nodes
    → length next ≡ arcs → ((node : ℕ) → node < nodes → at 0 first node ≡ arcs)
    → AreLinked nodes arcs end first next arcs
none_linked nodes arcs end first next firsts nexts empty = record {
  firsts = firsts;
  nexts = nexts;
  linked = λ node l.
      (let none : arcs - arcs ≡ 0 = omega arith in
      rw none (empty node l));
}
