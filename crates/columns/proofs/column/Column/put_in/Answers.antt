use Rattle.std.proofs.Common.{◌<◌, ◌≤◌, ◌∙◌, length, ap, sym, subst, arith}
use Rattle.observe_core.specs.Held.{entry_id}
use Rattle.plain_digraph.specs.Rising.{with_item}
use Rattle.observe_core.specs.Items.{Lacks}
use Rattle.columns.specs.Views.{entry}
use Rattle.columns.proofs.ColumnLemmas.{put-entries}
use Rattle.columns.proofs.BlankLemmas.{blank-put}
use Rattle.columns.proofs.column.Column.put_in.Goals as goal

pub returns-clause-ok : goal.returns-clause-ok
returns-clause-ok g c =
    let made = c.flag.new.self in
    let ls = made.live.items in
    let vs = made.values.items in
    let id = c.args.id in
    let same = c.flag.ensures.same in
    let m : length ls ≤ length vs = omega (arith, made.covered) in
    let l : id < length ls = omega (arith, c.in_ok-flag.ensures.room) in
    let free = subst (Lacks entry_id id) (sym same) c.requires.free in
    put-entries ls vs m id c.args.value l free
    ∙ ap (with_item entry_id (entry id c.args.value)) same

pub returns-clause-blank : goal.returns-clause-blank
returns-clause-blank g c =
    let made = c.flag.new.self in
    let l : c.args.id < length made.live.items = omega (arith, c.in_ok-flag.ensures.room) in
    λ filler b. blank-put filler made.live.items made.values.items
    (c.flag.ensures.blank filler b) c.args.id c.args.value l
