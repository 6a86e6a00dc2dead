use Rattle.std.proofs.Common.{◌≡◌, List, ◌∷◌, [], map, sym, ap, ◌∙◌, subst}
use Rattle.std.proofs.lemmas.List.{map-append}
use Rattle.plain_world.specs.Tables.{Name, has_entry, with_entry}
use Rattle.desk_world.specs.declared.tables.AttributeRow.TheVariants.{Plain}
use Rattle.desk_world.proofs.Halfway.{Halfway, one_taken}
use Rattle.desk_world.proofs.Opened.{plain_row, row_new}
use Rattle.desk_world.proofs.opening.plain_rows.Goals as goal

pub put-requires-clause-new : goal.put-requires-clause-new
put-requires-clause-new c =
    let put : List (Name × Name) → Type 0 = λ done. c.loop-name.rows.rows ≡ map plain_row done in
    let was = subst (λ own. Halfway c.args.attributes own put) c.in-Some.ensures.steps.0
    c.loop-name.invariant.put in
    ap (λ table. has_entry table c.in-Some.name) (c.reserve.ensures.rows ∙ was.holds)
    ∙ row_new c.args.attributes was.done (c.in-Some.name, c.in-Some.value)
    c.next.new.self.rest.items was.whole c.requires

pub loop-name-preserved : goal.loop-name-preserved
loop-name-preserved c =
    let put : List (Name × Name) → Type 0 = λ done. c.loop-name.rows.rows ≡ map plain_row done in
    let was = subst (λ own. Halfway c.args.attributes own put) c.in-Some.ensures.steps.0
    c.loop-name.invariant.put in
    let a : Name × Name = (c.in-Some.name, c.in-Some.value) in
    record {
      can_next = tt;
      finite = tt;
      put = one_taken c.args.attributes a c.next.new.self.rest.items put
          (λ done. c.put.new.self.rows ≡ map plain_row done) was
          (λ done whole holds. c.put.ensures.rows
          ∙ ap (λ table. with_entry table c.in-Some.name (Plain c.in-Some.value))
          (c.reserve.ensures.rows ∙ holds)
          ∙ sym (map-append plain_row done (a ∷ [])));
    }
