-- A flow that was found, told by lists.
use Rattle.std.proofs.Common.{◌≡◌, ℕ, ◌<◌, ◌≤◌, ◌^◌, Bool, false, eqb, ℤ, pos, ◌≤ℤ◌}
use Rattle.std.proofs.Common.{List, length, get_or, map, All, sym, ◌∙◌, ap, subst, arith}
use Rattle.std.proofs.Math.ListN.{get_or-map}
use Rattle.std.proofs.lemmas.Int.{ints}
use Rattle.std.proofs.lemmas.Bool.Decides.{nat_tests}
use Rattle.std.proofs.lemmas.List.{length-map, get_or_default}
use Rattle.plain_certificates.specs.Cuts.{IsCut}
use Rattle.plain_certificates.specs.Numbered.{Numbered, net}
use Rattle.plain_certificates.specs.Rooms.{as_flow}
use Rattle.plain_certificates.specs.Tables.{at}
use Rattle.push_flow.specs.Search.{side_of}
use Rattle.flow_preflow.specs.Answers.{IsAnswer, IsFound}

pub caps_short : (cap : List ℤ) (caps : List ℕ) → map pos caps ≡ cap
    → All (λ c. c ≤ℤ pos (2 ^ 36)) cap → All (λ c. c ≤ 2 ^ 36) caps
caps_short cap caps same high k d l =
    let size = length-map caps pos in
    let here : (get_or (map pos caps) k (pos d)) ≤ℤ pos (2 ^ 36) =
    subst (All (λ x. x ≤ℤ pos (2 ^ 36))) (sym same) high k (pos d) (omega (arith, l, size)) in
    let is = get_or-map pos caps k d in
    omega (arith, ints, here, is)

module _ (g : Numbered) (caps : List ℕ) (s t : ℕ) (flow heights : List ℕ)
    (found : IsFound g caps s t flow heights) where
  pub flow_short : length caps ≡ g.arcs → All (λ c. c ≤ 2 ^ 36) caps → All (λ f. f ≤ 2 ^ 36) flow
  flow_short size high k d l =
      let all = found.flow_all in
      let within = found.cut.is_flow.within_cap k (omega (arith, all, l)) in
      let most = high k 0 (omega (arith, all, size, l)) in
      let is = get_or_default flow k d 0 l in
      omega (arith, ints, within, most, is)

  pub told : (cap : List ℤ) (value : ℤ) → s < g.nodes → map pos caps ≡ cap
      → value ≡ net g (as_flow (at 0 flow)) s
      → IsAnswer g cap s t value (map pos flow) (map (λ h. eqb h g.nodes) heights)
  told cap value l same value_is =
      let top = λ (h : ℕ). eqb h g.nodes in
      let some : eqb 0 g.nodes ≡ false = grind (arith, nat_tests, l) in
      let caps_are : at (pos 0) cap ≡ as_flow (at 0 caps) =
      (λ i k. (ap (λ xs. get_or xs k (pos 0)) (sym same) ∙ get_or-map pos caps k 0) i) in
      let flows_are : at (pos 0) (map pos flow) ≡ as_flow (at 0 flow) =
      (λ i k. (get_or-map pos flow k 0) i) in
      let sides_are : at false (map top heights) ≡ side_of g.nodes (at 0 heights) =
      (λ i k. (ap (λ d. get_or (map top heights) k d) (sym some) ∙ get_or-map top heights k 0) i) in
      record {
        flow_all = length-map flow pos ∙ found.flow_all;
        side_all = length-map heights top ∙ found.height_all;
        cut =
            subst (λ (c : ℕ → ℤ). IsCut g c s t (at (pos 0) (map pos flow))
            (at false (map top heights)) value) (sym caps_are)
            (subst (λ (f : ℕ → ℤ). IsCut g (as_flow (at 0 caps)) s t f
            (at false (map top heights)) value) (sym flows_are)
            (subst (λ (x : ℕ → Bool). IsCut g (as_flow (at 0 caps)) s t (as_flow (at 0 flow)) x
            value) (sym sides_are)
            (subst (λ (z : ℤ). IsCut g (as_flow (at 0 caps)) s t (as_flow (at 0 flow))
            (side_of g.nodes (at 0 heights)) z) (sym value_is) found.cut)));
      }
