use Rattle.std.proofs.Common.{◌≡◌, Some, List, ℕ, ◌++◌, sym, ap, ◌∙◌, subst, arith}
use Rattle.lgf_file.specs.Documents.{Spells}
use Rattle.lgf_file.specs.Plain.{plain}
use Rattle.lgf_file.proofs.RoundTrip.{plain_spells}
use Rattle.plain_machine.specs.Generator.{made}
use Rattle.graph_maker.proofs.Valid.{made_valid}
use Rattle.drill_runs.proofs.opening.made_doc.Goals as goal

same_bytes : {a b : List ℕ} → Some a ≡ Some b → a ≡ b
same_bytes e = cc

pub returns-in-Ok : goal.returns-in-Ok
returns-in-Ok c =
    let doc = made c.args.seed 100 400 in
    let ended = c.in-Done.ensures.ends in
    let start = ap (λ sink. sink.taken) c.new-text.ensures in
    let told = same_bytes ended.1 ∙ ap (λ taken. taken ++ ended.0) start in
    let bytes : plain doc ≡ c.taken.result.now =
    sym (c.taken.ensures ∙ told ∙ ended.2) in
    c.in-Ok.ensures.exact doc
    (subst (λ text. Spells text doc) bytes
    (plain_spells doc
    (made_valid c.args.seed 100 400 (omega arith) (omega arith) (omega arith))))
