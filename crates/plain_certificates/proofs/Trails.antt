-- What is sent along a trail: its ends' net flow and the cost change, and nothing else.
use Rattle.std.proofs.Common.{◌≡◌, ℕ, ◌<◌, Bool, true, false, cond, eqb, ℤ, pos, neg_ℤ, ◌+ℤ◌}
use Rattle.std.proofs.Common.{◌-ℤ◌, ◌*ℤ◌, List, [], ◌∷◌, sym, ap, ◌∙◌, refl, arith}
use Rattle.std.specs.List.{AllByRecursion}
use Rattle.std.proofs.Math.IntN.{*ℤ-zero, *ℤ_comm}
use Rattle.std.proofs.lemmas.Int.{ints}
use Rattle.plain_certificates.specs.Numbered.{Numbered, net}
use Rattle.plain_certificates.specs.Walks.{IsWalk, along, Pace, pace_from, pace_to, IsTrail}
use Rattle.plain_certificates.specs.Walks.{arcs_of}
use Rattle.plain_certificates.specs.Cheapest.{cost_of, reduced_cost}
use Rattle.plain_certificates.specs.Tables.{set_at}
use Rattle.plain_certificates.specs.Pushes.{by_pace, pushed, along_trail, all_onward, at_node}
use Rattle.plain_certificates.proofs.Products.{mul-add, neg-mul}
use Rattle.plain_certificates.proofs.Tables.{set_at-here, set_at-other}
use Rattle.plain_certificates.proofs.Changes.{net_changed, cost_changed}

-- the flow once one pace was sent over
abbrev pub paced : ℤ → Pace → (ℕ → ℤ) → ℕ → ℤ
paced step pace flow = set_at flow pace.arc (flow pace.arc +ℤ by_pace pace step)

paced_by : (step : ℤ) (pace : Pace) (flow : ℕ → ℤ)
    → paced step pace flow pace.arc -ℤ flow pace.arc ≡ by_pace pace step
paced_by step pace flow =
    let e = set_at-here flow pace.arc (flow pace.arc +ℤ by_pace pace step) in
    omega (arith, ints, e)

-- a pace sends from where it begins to where it ends
turned : (onward b d : Bool) (x : ℤ)
    → cond b (cond onward x (neg_ℤ x)) (pos 0) -ℤ cond d (cond onward x (neg_ℤ x)) (pos 0)
    ≡ cond (cond onward b d) x (pos 0) -ℤ cond (cond onward d b) x (pos 0)
turned true b d x = refl
turned false true true x = omega (arith, ints)
turned false true false x = omega (arith, ints)
turned false false true x = omega (arith, ints)
turned false false false x = omega (arith, ints)

end_of : (onward : Bool) (a b v : ℕ)
    → cond onward (eqb a v) (eqb b v) ≡ eqb (cond onward a b) v
end_of true a b v = refl
end_of false a b v = refl

net_paced : (g : Numbered) (step : ℤ) (pace : Pace) (flow : ℕ → ℤ) (v : ℕ) → pace.arc < g.arcs
    → net g (paced step pace flow) v ≡ net g flow v
    +ℤ (at_node (pace_from g pace) step v -ℤ at_node (pace_to g pace) step v)
net_paced g step pace flow v l =
    let k = pace.arc in
    let by = by_pace pace step in
    let change = net_changed g flow (paced step pace flow) k v l
    (λ j _ ne. set_at-other flow k (flow k +ℤ by) j ne) in
    let sent = ap (λ x. net g flow v +ℤ (at_node (g.from k) x v -ℤ at_node (g.to k) x v))
    (paced_by step pace flow) in
    let turn = turned pace.onward (eqb (g.from k) v) (eqb (g.to k) v) step in
    let ends = ap (λ b. cond b step (pos 0)) (end_of pace.onward (g.from k) (g.to k) v) in
    let starts = ap (λ b. cond b step (pos 0)) (end_of pace.onward (g.to k) (g.from k) v) in
    change ∙ (sent ∙ ap (λ x. net g flow v +ℤ x) (turn ∙ ap2 ends starts))
  where
    ap2 : {a b c d : ℤ} → a ≡ b → c ≡ d → a -ℤ c ≡ b -ℤ d
    ap2 p q = rw (p, q)

cost_paced : (g : Numbered) (cost : ℕ → ℤ) (step : ℤ) (pace : Pace) (flow : ℕ → ℤ)
    → pace.arc < g.arcs → cost_of g cost (paced step pace flow)
    ≡ cost_of g cost flow +ℤ step *ℤ by_pace pace (cost pace.arc)
cost_paced g cost step pace flow l =
    let k = pace.arc in
    let by = by_pace pace step in
    let change = cost_changed g cost flow (paced step pace flow) k l
    (λ j _ ne. set_at-other flow k (flow k +ℤ by) j ne) in
    let sent = ap (λ x. cost k *ℤ x) (paced_by step pace flow) in
    change ∙ ap (λ x. cost_of g cost flow +ℤ x) (sent ∙ either pace.onward (cost k) step)
  where
    either : (onward : Bool) (c s : ℤ)
        → c *ℤ cond onward s (neg_ℤ s) ≡ s *ℤ cond onward c (neg_ℤ c)
    either true c s = *ℤ_comm c s
    either false c s =
        *ℤ_comm c (neg_ℤ s) ∙ (neg-mul s c ∙ (ap neg_ℤ (*ℤ_comm s c)
        ∙ (sym (neg-mul c s) ∙ *ℤ_comm (neg_ℤ c) s)))

-- what is sent along a trail leaves one end and comes to the other
pub net_pushed : (g : Numbered) (step : ℤ) (paces : List Pace) (flow : ℕ → ℤ) (u v x : ℕ)
    → IsTrail g u paces v
    → net g (pushed step paces flow) x ≡ net g flow x +ℤ (at_node u step x -ℤ at_node v step x)
net_pushed g step [] flow u v x trail = rw trail (omega (arith, ints))
net_pushed g step (pace ∷ paces) flow u v x trail =
    let one = net_paced g step pace flow x trail.0 in
    let rest = net_pushed g step paces (paced step pace flow) (pace_to g pace) v x trail.2 in
    let from = ap (λ node. at_node node step x) trail.1 in
    omega (arith, ints, one, rest, from)

-- what is sent round changes no net flow
pub net_round : (g : Numbered) (step : ℤ) (paces : List Pace) (flow : ℕ → ℤ) (u x : ℕ)
    → IsTrail g u paces u → net g (pushed step paces flow) x ≡ net g flow x
net_round g step paces flow u x trail =
    let sent = net_pushed g step paces flow u u x trail in
    omega (arith, ints, sent)

pub cost_pushed : (g : Numbered) (cost : ℕ → ℤ) (step : ℤ) (paces : List Pace) (flow : ℕ → ℤ)
    (u v : ℕ) → IsTrail g u paces v → cost_of g cost (pushed step paces flow)
    ≡ cost_of g cost flow +ℤ step *ℤ along_trail cost paces
cost_pushed g cost step [] flow u v trail =
    let none = *ℤ-zero step in omega (arith, ints, none)
cost_pushed g cost step (pace ∷ paces) flow u v trail =
    let one = cost_paced g cost step pace flow trail.0 in
    let rest = cost_pushed g cost step paces (paced step pace flow) (pace_to g pace) v trail.2 in
    let sum = mul-add step (by_pace pace (cost pace.arc)) (along_trail cost paces) in
    omega (arith, ints, one, rest, sum)

-- ---- walks

pub walk_is_trail : (g : Numbered) (arcs : List ℕ) (u v : ℕ) → IsWalk g u arcs v
    → IsTrail g u (all_onward arcs) v
walk_is_trail g [] u v walk = walk
walk_is_trail g (arc ∷ arcs) u v walk =
    (walk.0, walk.1, walk_is_trail g arcs (g.to arc) v walk.2)

pub along_onward : (value : ℕ → ℤ) (arcs : List ℕ)
    → along_trail value (all_onward arcs) ≡ along value arcs
along_onward value [] = refl
along_onward value (arc ∷ arcs) = ap (λ x. value arc +ℤ x) (along_onward value arcs)

-- ---- potentials

-- along a trail the reduced costs are the costs and what the potentials of its ends differ by
pub trail_reduced : (g : Numbered) (cost pi : ℕ → ℤ) (paces : List Pace) (u v : ℕ)
    → IsTrail g u paces v
    → along_trail (reduced_cost g cost pi) paces ≡ (along_trail cost paces +ℤ pi u) -ℤ pi v
trail_reduced g cost pi [] u v trail = let same = ap pi trail in omega (arith, ints, same)
trail_reduced g cost pi (pace ∷ paces) u v trail =
    let rest = trail_reduced g cost pi paces (pace_to g pace) v trail.2 in
    let from = ap pi trail.1 in
    let here = one pace.onward (cost pace.arc) (g.from pace.arc) (g.to pace.arc) in
    omega (arith, ints, rest, from, here)
  where
    one : (onward : Bool) (c : ℤ) (a b : ℕ)
        → cond onward ((c +ℤ pi a) -ℤ pi b) (neg_ℤ ((c +ℤ pi a) -ℤ pi b))
        ≡ (cond onward c (neg_ℤ c) +ℤ pi (cond onward a b)) -ℤ pi (cond onward b a)
    one true c a b = refl
    one false c a b = omega (arith, ints)

-- ---- the flow on each arc

-- an arc that isn't on the trail keeps its flow
pub pushed_off : (step : ℤ) (paces : List Pace) (flow : ℕ → ℤ) (k : ℕ)
    → AllByRecursion (λ arc. eqb k arc ≡ false) (arcs_of paces) → pushed step paces flow k ≡ flow k
pushed_off step [] flow k off = refl
pushed_off step (pace ∷ paces) flow k off =
    pushed_off step paces (paced step pace flow) k off.1 ∙ rw off.0

-- one that is on it once carries that much more, or less
pub pushed_on : (step : ℤ) (paces : List Pace) (flow : ℕ → ℤ) (pace : Pace)
    → AllByRecursion (λ arc. eqb pace.arc arc ≡ false) (arcs_of paces)
    → pushed step (pace ∷ paces) flow pace.arc ≡ flow pace.arc +ℤ by_pace pace step
pushed_on step paces flow pace off =
    pushed_off step paces (paced step pace flow) pace.arc off
    ∙ set_at-here flow pace.arc (flow pace.arc +ℤ by_pace pace step)
