use Rattle.std.proofs.Common.{◌≡◌, ◌∷◌, [], sym, ap, ◌∙◌, subst}
use Rattle.std.specs.Prelude.{codes}
use Rattle.std.proofs.lemmas.Slice.Eq.{bytes_eq-Decides}
use Rattle.plain_machine.specs.Words.{contents, IsFileName}
use Rattle.script_runs.proofs.Three.{three}
use Rattle.script_runs.proofs.words.run_names.Goals as goal

pub returns-then-is_file_name-2-clause-some : goal.returns-then-is_file_name-2-clause-some
returns-then-is_file_name-2-clause-some c =
    let first = c.first-item.result in
    let graph = c.graph-item.result in
    let script = c.script-item.result in
    let words = three c.args.words.now first graph script c.in-len3.len_at_least c.in-len3.len_below
    c.first-item.is c.graph-item.is c.script-item.is in
    let run : first.items ≡ codes "run" =
    sym c.as_slice.ensures.value ∙ (bytes_eq-Decides _ _).0 (sym c.eq.ensures ∙ c.if-eq.true)
    ∙ c.as_slice-2.ensures in
    let graph_is = sym c.as_slice-then-is_file_name-2.ensures.value in
    let script_is = sym c.as_slice-then-is_file_name-2-2.ensures.value in
    let graph_name = c.as_slice-then-is_file_name-2.result.now in (
      ap contents words ∙ ap (λ word. word ∷ graph.items ∷ script.items ∷ []) run
          ∙ ap (λ name. codes "run" ∷ name ∷ script.items ∷ []) graph_is
          ∙ ap (λ name. codes "run" ∷ graph_name ∷ name ∷ []) script_is,
      subst IsFileName (c.as_slice-then-eq.ensures.value
          ∙ graph_is) (c.is_file_name.ensures.0 c.if-is_file_name.true),
      subst IsFileName (c.as_slice-then-is_file_name.ensures.value
          ∙ script_is) (c.is_file_name-then-is_file_name.ensures.0 c.if-is_file_name-2.true),
    )
