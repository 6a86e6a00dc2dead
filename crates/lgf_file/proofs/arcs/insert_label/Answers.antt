use Rattle.std.proofs.Common.{◌≡◌, Bool, true, false, refl, sym, ap, ◌∙◌}
use Rattle.std.specs.Prelude.{not, ◌++◌, ◌∷◌, [], if◌then◌else◌}
use Rattle.std.proofs.lemmas.Bool.{not-false, OnFalse_from, both_ways}
use Rattle.token_text.specs.Names.{is_among}
use Rattle.lgf_file.specs.Documents.{label, label_in}
use Rattle.lgf_file.proofs.ArcRows.{none_labelled}
use Rattle.lgf_file.proofs.NodeLabels.{labelled}
use Rattle.lgf_file.proofs.arcs.insert_label.Goals as goal

pub returns-in_default-clause-twice : goal.returns-in_default-clause-twice
returns-in_default-clause-twice c =
    rw (← labelled c.args.head.now.columns, ← c.requires.head, c.in_default.is) refl

pub returns-in_default-clause-labels : goal.returns-in_default-clause-labels
returns-in_default-clause-labels c = λ among.
    let none = none_labelled c.args.head.now.columns (sym c.requires.head ∙ c.in_default.is) in
    absurd (both_ways _ none among)

twice_back : (test : Bool) → not (not test) ≡ test
twice_back true = refl
twice_back false = refl

pub returns-clause-twice : goal.returns-clause-twice
returns-clause-twice c =
    rw (
      ← c.in_ok-label.ensures,
      ← labelled c.args.head.now.columns,
      ← c.requires.head,
      c.in-Some.is,
      c.in_ok-fresh.ensures.fresh,
    ) (twice_back _)

pub returns-clause-labels : goal.returns-clause-labels
returns-clause-labels c =
    let labels = c.args.labels.now in
    let columns = c.args.head.now.columns in
    OnFalse_from (not c.in_ok-fresh.fresh) (is_among label columns ≡ true
    → c.insert.new.self ≡ labels ++ label_in columns c.args.values.now ∷ []) (λ known among.
    rw (← c.in_ok-label.ensures)
    (c.in_ok-fresh.ensures.inserted
    ∙ ap (λ fresh. if fresh then labels ++ c.in_ok-label.label ∷ [] else labels)
    (not-false c.in_ok-fresh.fresh known)))
