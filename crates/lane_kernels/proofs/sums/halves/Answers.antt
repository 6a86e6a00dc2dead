use Rattle.std.proofs.Common.{ℕ, ◌/◌, ◌^◌, map, replicate, bit_and, w64, sym, subst}
use Rattle.std.specs.Simd.Lanes.{zip2}
use Rattle.std.proofs.lemmas.Simd.{zip2_splat, below_from_Fits}
use Rattle.lane_kernels.proofs.HalfLemmas.{Halved, lower, halved}
use Rattle.lane_kernels.proofs.sums.halves.Goals as goal

pub returns : goal.returns
returns c =
    let xs = c.args.lanes in
    let four = c.requires in
    let l = zip2_splat {Y = ℕ} (λ x y. bit_and x y) xs 4 4294967295 four in
    let u = zip2_splat {Y = ℕ} (λ x y. x / 2 ^ y) xs 4 32 four in
    let h = halved xs four (below_from_Fits w64 xs c.fits-lanes.1) in
    let b = subst (λ us. Halved xs (map lower xs) us) (sym u) h in
    let a = subst (λ ls. Halved xs ls (zip2 (λ (x y : ℕ). x / 2 ^ y) xs (replicate 4 32))) (sym l)
    b in
    record { lanes = a.lanes; small = a.small; sum = a.sum }
