use Rattle.std.proofs.Common.{◌-◌, ◌+◌, ◌++◌, ◌∷◌, ◌≤◌, length, take, drop, get_or, sym, ap, ◌∙◌}
use Rattle.std.proofs.Common.{arith, drop-cons, add-one, length-drop, subst}
use Rattle.std.proofs.lemmas.List.{take-append-drop, take_all}
use Rattle.token_text.specs.Lines.{LacksByte}
use Rattle.token_text.proofs.FirstLine.{inside_from}
use Rattle.token_text.proofs.lines.split_once.Goals as goal

pub returns-then-bytes-i-clause-parts : goal.returns-then-bytes-i-clause-parts
returns-then-bytes-i-clause-parts c =
    let bytes = c.args.bytes.now in
    let i = c.loop-i.i in
    let below = c.loop-i-test.true in
    let later : length (drop (i + 1) bytes) ≤ length bytes - (i + 1) =
    omega (arith, length-drop (i + 1) bytes) in
    let from_here =
    drop-cons bytes i 0 below ∙ ap (λ n. get_or bytes i 0 ∷ drop n bytes) (sym (add-one i)) in
    let parts = sym (take-append-drop i bytes) ∙ ap (λ t. take i bytes ++ t) from_here in
    let byte = ap (λ b. take i bytes ++ (b ∷ drop (i + 1) bytes)) c.if-bytes-i.true in
    let after =
    ap (λ t. take i bytes ++ (c.args.byte ∷ t)) (sym (take_all _ (drop (i + 1) bytes) later)) in
    (parts ∙ byte ∙ after, inside_from c.args.byte bytes i c.loop-i.invariant)

pub returns-clause-none : goal.returns-clause-none
returns-clause-none c =
    let bytes = c.args.bytes.now in
    subst (LacksByte c.args.byte) (take_all (length bytes) bytes (omega arith))
    (inside_from c.args.byte bytes (length bytes) (λ k below. c.loop-i.invariant k (omega arith)))
