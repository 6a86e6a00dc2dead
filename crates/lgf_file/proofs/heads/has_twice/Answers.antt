use Rattle.std.proofs.Common.{◌≡◌, true, ◌∷◌, ◌++◌, [], take, sym, ap, ◌∙◌, arith}
use Rattle.std.specs.Prelude.{slice_index_or}
use Rattle.std.proofs.lemmas.Grind.{common_steps}
use Rattle.std.proofs.lemmas.Bool.{not-true, not-false, true_from_ne_false, both_ways}
use Rattle.std.proofs.lemmas.List.{take_more, get_or_default}
use Rattle.token_text.specs.Names.{has_twice, is_among}
use Rattle.lgf_file.proofs.NameLists.{apart_at, twice_push}
use Rattle.lgf_file.proofs.heads.has_twice.Goals as goal

pub returns-then-not-fresh : goal.returns-then-not-fresh
returns-then-not-fresh c =
    let columns = c.args.columns.now in
    let place = c.loop-column.column-index in
    let name : c.in_ok-name.name ≡ slice_index_or columns place [] =
    c.in_ok-name.ensures ∙ c.as_bytes.ensures ∙ c.column-item.is
    ∙ get_or_default columns place _ [] c.loop-column-test.true in
    let among : is_among (slice_index_or columns place []) (take place columns) ≡ true =
    rw (← name, ← c.loop-column.invariant.seen)
    (not-false _ (sym c.in_ok-fresh.ensures.fresh ∙ c.if-not-fresh.true)) in
    sym (true_from_ne_false (has_twice columns) (λ differ.
    both_ways _ (apart_at columns place differ c.loop-column-test.true) among))

pub loop-column-preserved : goal.loop-column-preserved
loop-column-preserved c =
    let columns = c.args.columns.now in
    let place = c.loop-column.column-index in
    let seen = c.loop-column.seen in
    let name : c.in_ok-name.name ≡ slice_index_or columns place [] =
    c.in_ok-name.ensures ∙ c.as_bytes.ensures ∙ c.column-item.is
    ∙ get_or_default columns place _ [] c.loop-column-test.true in
    let none = not-true _ (sym c.in_ok-fresh.ensures.fresh ∙ c.if-not-fresh.false) in
    let after : c.insert.new.self ≡ seen ++ c.in_ok-name.name ∷ [] = grind (arith, common_steps) in
    record {
      seen = after ∙ ap (λ own. own ++ c.in_ok-name.name ∷ []) c.loop-column.invariant.seen
          ∙ ap (λ own. take place columns ++ own ∷ []) name
          ∙ sym (take_more columns place [] c.loop-column-test.true);
      differ = rw after (twice_push seen c.in_ok-name.name c.loop-column.invariant.differ none);
    }
