use Rattle.std.proofs.Common.{◌∙◌, ap, sym, subst, Some}
use Rattle.std.specs.Map.{set_value}
use Rattle.std.specs.Option.{option_copied_mut}
use Rattle.std.specs.Str.{bytes_eq}
use Rattle.plain_world.specs.Tables.{entry, with_change}
use Rattle.plain_world.specs.Valid.{NamesDiffer}
use Rattle.desk_names.specs.Rows.{rows_of}
use Rattle.desk_names.specs.declared.name_table.NameTable.TheInside.{Inside}
use Rattle.desk_names.proofs.RowLemmas.{entry_found, rows_changed, none_to_change, names_differ}
use Rattle.desk_names.proofs.name_table.NameTable.replace.Goals as goal
use Rattle.desk_names.proofs.name_table.NameTable.replace.Goals.{in-Some, in-None}

pub returns-clause-value : goal.returns-clause-value
returns-clause-value g c =
    let name = c.args.name.now in
    let found = c.get_mut.ensures.value ∙ entry_found name c.self.inside.entries.entries
    ∙ ap (λ t. entry t.rows name) c.self.view_is in
    elim c.match-get_mut.branch [
      | in-Some b ↦
          b.result-is ∙ ap Some b.replace.ensures.value
          ∙ sym (ap option_copied_mut b.in-Some.is) ∙ found
      | in-None b ↦ b.result-is ∙ sym (ap option_copied_mut b.in-None.is) ∙ found
    ]

pub returns-clause-differ : goal.returns-clause-differ
returns-clause-differ g c =
    subst (λ t. NamesDiffer t.rows) c.self.view_is
    (names_differ c.self.inside.entries.entries c.self.invariant)

pub returns-clause-rows : goal.returns-clause-rows
returns-clause-rows g c =
    let name = c.args.name.now in
    let es = c.self.inside.entries.entries in
    let value = c.args.value in
    let now = ap (λ t. with_change t.rows name (λ _. value)) c.self.view_is in
    elim c.match-get_mut.branch [
      | in-Some b ↦
          ap (λ (t : Inside g.row.V.Denot). rows_of t.entries.entries) b.self-inside-is
          ∙ ap rows_of (c.get_mut.follows.holds b.replace.new.dest).0
          ∙ ap (λ v. rows_of (set_value (bytes_eq name) es v)) b.replace.ensures.after
          ∙ rows_changed name value es c.self.invariant ∙ now
      | in-None b ↦
          ap (λ (t : Inside g.row.V.Denot). rows_of t.entries.entries) b.self-inside-is
          ∙ ap (λ m. rows_of m.entries) c.get_mut.follows.holds-at-none
          ∙ sym (none_to_change name value es
          (sym c.get_mut.ensures.value ∙ ap option_copied_mut b.in-None.is))
          ∙ now
    ]
