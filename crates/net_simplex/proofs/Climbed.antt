-- One node further up.
use Rattle.std.proofs.Common.{◌≡◌, ◌≢◌, ℕ, suc, ◌+◌, ◌-◌, ◌<◌, List, [], ◌∷◌, ◌++◌}
use Rattle.std.proofs.Common.{sym, ap, ◌∙◌, arith}
use Rattle.std.proofs.lemmas.List.{append_assoc, append-nil}
use Rattle.plain_certificates.proofs.Forest.{over_between, over_same, over_self, over_up}
use Rattle.pivot_flow.proofs.Turning.{deep_low}
use Rattle.pivot_flow.specs.Tree.{ComesTo, IsHung, Task, Tree, forest_of}
use Rattle.net_simplex.specs.Cycles.{HangsIn, ups, ups_to}

pub hangs_in : (t : Task) (h : Tree) → IsHung t h → HangsIn t.net.nodes h
hangs_in t h s v l deep = let low = deep_low t h v 0 s l deep in (s.parent v low, s.falls v low)

module _ (n : ℕ) (h : Tree) (hung : HangsIn n h) (here top : ℕ) (l : here < n)
    (above : ComesTo h here top) (ne : here ≢ top) where
  deeper : h.depth top < h.depth here
  deeper =
      let high = above.high in
      let off : h.depth top ≢ h.depth here =
      λ e. ne (over_same (forest_of h) here here top (over_self (forest_of h) here) above (sym e))
      in
      omega (arith, high, off)

  pub step_up : (h.parent here < n) × (h.depth here ≡ h.depth (h.parent here) + 1)
  step_up = let deep = deeper in hung here l (omega (arith, deep))

  pub above_up : ComesTo h (h.parent here) top
  above_up =
      let fall = step_up.1 in
      let deep = deeper in
      over_between (forest_of h) here (h.parent here) top
      (over_up (forest_of h) here here fall (over_self (forest_of h) here)) above
      (omega (arith, fall, deep))

  ups_split : ups_to h top here ≡ h.arc here ∷ ups_to h top (h.parent here)
  ups_split =
      let fall = step_up.1 in
      let deep = deeper in
      let e : h.depth here - h.depth top ≡ suc (h.depth (h.parent here) - h.depth top) =
      omega (arith, fall, deep) in
      ap (λ k. ups h k here) e

  pub laid_more : (path whole : List ℕ) → path ++ ups_to h top here ≡ whole
      → (path ++ h.arc here ∷ []) ++ ups_to h top (h.parent here) ≡ whole
  laid_more path whole laid =
      append_assoc path (h.arc here ∷ []) (ups_to h top (h.parent here))
      ∙ (ap (λ xs. path ++ xs) (sym ups_split) ∙ laid)

-- at the top the whole way is laid down
pub laid_all : (h : Tree) (here top : ℕ) (path whole : List ℕ) → here ≡ top
    → path ++ ups_to h top here ≡ whole → path ≡ whole
laid_all h here top path whole is laid =
    let none : ups_to h top here ≡ [] =
    (let e : h.depth here - h.depth top ≡ 0 = (let d = ap h.depth is in omega (arith, d)) in
    ap (λ k. ups h k here) e) in
    sym (append-nil path) ∙ (ap (λ xs. path ++ xs) (sym none) ∙ laid)
