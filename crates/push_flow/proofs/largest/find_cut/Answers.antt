use Rattle.std.proofs.Common.{◌≡◌, ℕ, ◌<◌, ◌^◌, List, length, arith, sym, ◌∙◌, ap, subst}
use Rattle.std.proofs.Math.ListN.{set, length-set}
use Rattle.plain_certificates.specs.Cuts.{IsCut}
use Rattle.plain_certificates.specs.Numbered.{net}
use Rattle.plain_certificates.specs.Rooms.{as_flow}
use Rattle.plain_certificates.specs.Tables.{set_at}
use Rattle.push_flow.proofs.Cut.{cut_found}
use Rattle.push_flow.proofs.Lists.{at-set}
use Rattle.push_flow.proofs.Start.{start_held, start_asked, back_held}
use Rattle.push_flow.specs.Held.{supply_of, IsHeld}
use Rattle.push_flow.specs.Search.{side_of}
use Rattle.push_flow.specs.Slices.{at, task_of}
use Rattle.push_flow.proofs.largest.find_cut.Goals as goal

pub solve-requires-clause-held : goal.solve-requires-clause-held
solve-requires-clause-held c =
    let n = length c.args.height.now in
    let t = task_of n c.args.ends.now c.args.cap.now in
    let s = c.args.source in
    let tt = c.args.target in
    let nodes = c.requires.nodes in
    let zero = c.requires.zero in
    let lens = c.requires.lens in
    let E = set c.args.excess.now s (2 ^ 62) in
    let W = set c.args.want.now tt (2 ^ 62) in
    let F = at c.args.flow.now in
    let H = at c.args.height.now in
    let in_e : s < length c.args.excess.now = (let a = nodes.0 in omega (arith, a, lens)) in
    let in_w : tt < length c.args.want.now = (let a = nodes.1 in omega (arith, a, lens)) in
    let e_is = at-set c.args.excess.now s (2 ^ 62) in_e in
    let w_is = at-set c.args.want.now tt (2 ^ 62) in_w in
    let e1 = set_at (at c.args.excess.now) s (2 ^ 62) in
    let w1 = set_at (at c.args.want.now) tt (2 ^ 62) in
    subst (λ (x : ℕ → ℕ). IsHeld t (supply_of t F x (at W)) F x (at W) H) (sym e_is)
    (subst (λ (y : ℕ → ℕ). IsHeld t (supply_of t F e1 y) F e1 y H) (sym w_is)
    (start_held t F (at c.args.excess.now) (at c.args.want.now) H s tt nodes.0 nodes.2 zero.0 zero.1
    zero.2 zero.3))

pub send_back-requires-clause-held : goal.send_back-requires-clause-held
send_back-requires-clause-held c =
    let n = length c.args.height.now in
    let t = task_of n c.args.ends.now c.args.cap.now in
    let s = c.args.source in
    let tt = c.args.target in
    let nodes = c.requires.nodes in
    let zero = c.requires.zero in
    let lens = c.requires.lens in
    let E = set c.args.excess.now s (2 ^ 62) in
    let W = set c.args.want.now tt (2 ^ 62) in
    let F = at c.args.flow.now in
    let H = at c.args.height.now in
    let in_e : s < length c.args.excess.now = (let a = nodes.0 in omega (arith, a, lens)) in
    let in_w : tt < length c.args.want.now = (let a = nodes.1 in omega (arith, a, lens)) in
    let e_is = at-set c.args.excess.now s (2 ^ 62) in_e in
    let w_is = at-set c.args.want.now tt (2 ^ 62) in_w in
    let e1 = set_at (at c.args.excess.now) s (2 ^ 62) in
    let w1 = set_at (at c.args.want.now) tt (2 ^ 62) in
    let new = c.solve.new in
    let st : IsHeld t (supply_of t F e1 w1) (at new.flow) (at new.excess) (at new.want)
    (at new.height) =
    subst (λ (x : ℕ → ℕ).
    IsHeld t (supply_of t F x w1) (at new.flow) (at new.excess) (at new.want) (at new.height))
    e_is
    (subst (λ (y : ℕ → ℕ).
    IsHeld t (supply_of t F (at E) y) (at new.flow) (at new.excess) (at new.want)
    (at new.height)) w_is c.solve.ensures.held) in
    let Z = c.copy_from_slice-2.new.self in
    let L = c.copy_from_slice-3.new.self in
    let same_z : Z ≡ c.args.none.now = c.copy_from_slice-2.ensures.after in
    let same_l : L ≡ c.args.low.now = c.copy_from_slice-3.ensures.after in
    let z0 : (v : ℕ) → at Z v ≡ 0 =
    (λ v. ap (λ (xs : List ℕ). at xs v) same_z ∙ c.requires.zeros.0 v) in
    let l0 : (v : ℕ) → at L v ≡ 0 =
    (λ v. ap (λ (xs : List ℕ). at xs v) same_l ∙ c.requires.zeros.1 v) in
    let lens_l : length L ≡ n = ap (λ (xs : List ℕ). length xs) same_l ∙ c.requires.more.4 in
    let lens_z : length Z ≡ n = ap (λ (xs : List ℕ). length xs) same_z ∙ c.requires.more.3 in
    let in_e2 : s < length new.excess =
    (let a = simp (length-set {A = ℕ}) at c.solve.auto.excess in omega (arith, a, in_e)) in
    let in_z : s < length Z = (let a = nodes.0 in omega (arith, a, lens_z)) in
    let e2_is = at-set new.excess s 0 in_e2 in
    let z_is = at-set Z s (2 ^ 62) in_z in
    let e2 = set_at (at new.excess) s 0 in
    let w2 = set_at (at Z) s (2 ^ 62) in
    rw lens_l
    (subst (λ (x : ℕ → ℕ).
    IsHeld t (supply_of t (at new.flow) x (at (set Z s (2 ^ 62)))) (at new.flow) x
    (at (set Z s (2 ^ 62))) (at L)) (sym e2_is)
    (subst (λ (y : ℕ → ℕ). IsHeld t (supply_of t (at new.flow) e2 y) (at new.flow) e2 y (at L))
    (sym z_is)
    (back_held t (supply_of t F e1 w1) (at new.flow) (at new.excess) (at new.want) (at new.height)
    (at L) (at Z) s nodes.0 st l0 z0)))

pub returns : goal.returns
returns c =
    let n = length c.args.height.now in
    let t = task_of n c.args.ends.now c.args.cap.now in
    let s = c.args.source in
    let tt = c.args.target in
    let nodes = c.requires.nodes in
    let zero = c.requires.zero in
    let lens = c.requires.lens in
    let E = set c.args.excess.now s (2 ^ 62) in
    let W = set c.args.want.now tt (2 ^ 62) in
    let F = at c.args.flow.now in
    let H = at c.args.height.now in
    let in_e : s < length c.args.excess.now = (let a = nodes.0 in omega (arith, a, lens)) in
    let in_w : tt < length c.args.want.now = (let a = nodes.1 in omega (arith, a, lens)) in
    let e_is = at-set c.args.excess.now s (2 ^ 62) in_e in
    let w_is = at-set c.args.want.now tt (2 ^ 62) in_w in
    let e1 = set_at (at c.args.excess.now) s (2 ^ 62) in
    let w1 = set_at (at c.args.want.now) tt (2 ^ 62) in
    let new = c.solve.new in
    let st : IsHeld t (supply_of t F e1 w1) (at new.flow) (at new.excess) (at new.want)
    (at new.height) =
    subst (λ (x : ℕ → ℕ).
    IsHeld t (supply_of t F x w1) (at new.flow) (at new.excess) (at new.want) (at new.height))
    e_is
    (subst (λ (y : ℕ → ℕ).
    IsHeld t (supply_of t F (at E) y) (at new.flow) (at new.excess) (at new.want)
    (at new.height)) w_is c.solve.ensures.held) in
    let Z = c.copy_from_slice-2.new.self in
    let L = c.copy_from_slice-3.new.self in
    let same_z : Z ≡ c.args.none.now = c.copy_from_slice-2.ensures.after in
    let same_l : L ≡ c.args.low.now = c.copy_from_slice-3.ensures.after in
    let z0 : (v : ℕ) → at Z v ≡ 0 =
    (λ v. ap (λ (xs : List ℕ). at xs v) same_z ∙ c.requires.zeros.0 v) in
    let l0 : (v : ℕ) → at L v ≡ 0 =
    (λ v. ap (λ (xs : List ℕ). at xs v) same_l ∙ c.requires.zeros.1 v) in
    let lens_l : length L ≡ n = ap (λ (xs : List ℕ). length xs) same_l ∙ c.requires.more.4 in
    let lens_z : length Z ≡ n = ap (λ (xs : List ℕ). length xs) same_z ∙ c.requires.more.3 in
    let in_e2 : s < length new.excess =
    (let a = simp (length-set {A = ℕ}) at c.solve.auto.excess in omega (arith, a, in_e)) in
    let in_z : s < length Z = (let a = nodes.0 in omega (arith, a, lens_z)) in
    let e2_is = at-set new.excess s 0 in_e2 in
    let z_is = at-set Z s (2 ^ 62) in_z in
    let e2 = set_at (at new.excess) s 0 in
    let w2 = set_at (at Z) s (2 ^ 62) in
    let last = c.send_back.new in
    let held = rw lens_l at c.send_back.ensures.held in
    let none : at Z ≡ (λ (v : ℕ). 0) = (λ j v. z0 v j) in
    let st' : IsHeld t (supply_of t (at new.flow) e2 (set_at (λ _. 0) s (2 ^ 62))) (at last.flow)
    (at last.excess) (at last.want) (at last.height) =
    subst (λ (z : ℕ → ℕ).
    IsHeld t (supply_of t (at new.flow) e2 (set_at z s (2 ^ 62))) (at last.flow)
    (at last.excess) (at last.want) (at last.height)) none
    (subst (λ (x : ℕ → ℕ).
    IsHeld t (supply_of t (at new.flow) x w2) (at last.flow) (at last.excess) (at last.want)
    (at last.height)) e2_is
    (subst (λ (y : ℕ → ℕ).
    IsHeld t (supply_of t (at new.flow) (at (set new.excess s 0)) y) (at last.flow)
    (at last.excess) (at last.want) (at last.height)) z_is held)) in
    let asked = start_asked t F (at c.args.excess.now) (at c.args.want.now) H s tt nodes.0 nodes.2
    zero.0 zero.1 zero.2 zero.3 in
    let cut = cut_found t s tt c.requires.ends_in nodes.0 nodes.1 nodes.2 c.requires.light
    (supply_of t F e1 w1) (at new.flow) (at new.excess) (at new.want) (at new.height) asked st
    c.solve.ensures.shut c.solve.ensures.quiet
    (at last.flow) (at last.excess) (at last.want) (at last.height) st'
    (rw lens_l at c.send_back.ensures.shut) (rw lens_l at c.send_back.ensures.quiet) in
    let side : c.copy_from_slice.new.self ≡ new.height = c.copy_from_slice.ensures.after in
    subst (λ (x : List ℕ).
    IsCut t.graph (as_flow t.cap) s tt (as_flow (at last.flow)) (side_of n (at x))
    (net t.graph (as_flow (at last.flow)) s)) (sym side) cut
