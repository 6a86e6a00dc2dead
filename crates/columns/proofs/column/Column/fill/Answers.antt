use Rattle.std.proofs.Common.{◌≡◌, ◌+◌, ◌<◌, ◌∙◌, [], ◌∷◌, drop, get_or, length, ap, sym, subst}
use Rattle.std.proofs.Common.{arith}
use Rattle.base_items.specs.declared.items.Fact.{Fact}
use Rattle.observe_core.specs.Held.{entry_id}
use Rattle.observe_core.specs.Items.{place_all}
use Rattle.columns.specs.Filling.{FreshEntries}
use Rattle.columns.specs.Views.{entries_of, entries_told, entry}
use Rattle.columns.proofs.FillLemmas.{told-front, fresh-start, fresh-next, all_nth}
use Rattle.columns.proofs.column.Column.fill.Goals as goal

abbrev no_fact : Fact
no_fact = record { id = 0; from = 0; to = 0; from_at = 0; to_at = 0 }

pub loop-f-init : goal.loop-f-init
loop-f-init g c =
    let v = c.args.filler in
    record {
      target = ap (place_all entry_id (entries_told v c.args.all.now)) c.requires.empty;
      fresh = subst (FreshEntries c.args.all.now) (sym c.requires.empty)
          (fresh-start v c.args.all.now c.requires.distinct);
      blank = λ b. b;
      extent = λ n a h. a;
    }

pub loop-f-preserved : goal.loop-f-preserved
loop-f-preserved g c =
    let was = c.loop-f.invariant in
    let fs = c.args.all.now in
    let v = c.args.filler in
    let i = c.loop-f.f-index in
    let there = entries_of c.loop-f.self in
    let f = get_or fs i no_fact in
    let l : i < length fs = omega arith in
    let whole = place_all entry_id (entries_told v fs) [] in
    let rest = entries_told v (drop (i + 1) fs) in
    let e = c.in-Ok.ensures.ok in
    let t : place_all entry_id (entry f.id v ∷ rest) there ≡ whole =
    subst (λ xs. place_all entry_id xs there ≡ whole) (told-front v fs i no_fact l)
    was.target in
    record {
      target = ap (place_all entry_id rest) e ∙ t;
      fresh = fresh-next v fs i no_fact there (entries_of c.put.new.self) l e was.fresh;
      blank = λ b. c.put.ensures.blank (was.blank b);
      extent = λ n a h.
          c.put.ensures.extent n (was.extent n a h)
          (all_nth (λ (f : Fact). f.id < n) fs i no_fact l h);
    }

pub returns-clause-blank : goal.returns-clause-blank
returns-clause-blank g c = c.loop-f.invariant.blank

pub returns-clause-extent : goal.returns-clause-extent
returns-clause-extent g c = c.loop-f.invariant.extent
