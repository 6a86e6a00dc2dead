use Rattle.std.proofs.Common.{◌≡◌, Bool, List, [], ◌∷◌, map, count_by, ap, ◌∙◌, arith}
use Rattle.std.specs.Prelude.{count_ones}
use Rattle.std.proofs.lemmas.Simd.{ones-mask_l, mask_l-mod}
use Rattle.lane_kernels.specs.Counts.{truths}
use Rattle.lane_kernels.proofs.CountLemmas.{says, says_is}
use Rattle.lane_kernels.proofs.counts.count_eight.Goals as goal

pub returns : goal.returns
returns c =
    let bits : List Bool =
    c.args.a ∷ c.args.b ∷ c.args.c ∷ c.args.d ∷ c.args.e ∷ c.args.f ∷ c.args.g ∷ c.args.h ∷
    [] in
    let e : count_by (λ (b : Bool). b) bits ≡ truths bits = omega arith in
    ap count_ones (mask_l-mod (map says bits) 64 (omega arith)) ∙ ones-mask_l says bits
    ∙ ap (λ p. count_by p bits) says_is ∙ e
