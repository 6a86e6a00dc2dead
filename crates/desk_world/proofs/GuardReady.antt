-- A world that is ready for a new guard, and the box that is to be armed.
use Rattle.std.proofs.Common.{◌≡◌, ◌<◌, ℕ, true, List, refl, sym, ap, ◌∙◌, subst, Option, Some}
use Rattle.std.proofs.Common.{None, length}
use Rattle.std.specs.Prelude.{option_map, slice_get, unwrap_or}
use Rattle.std.proofs.lemmas.Option.{none-some, slice_get-map, slice_get_within}
use Rattle.base_items.specs.declared.items.ItemSort.{ItemSort}
use Rattle.script_words.specs.declared.commands.GuardWord.{GuardWord}
use Rattle.script_words.specs.Valid.{IsGuard}
use Rattle.observe_core.specs.Conditions.{IsArmable}
use Rattle.observe_core.specs.Seen.{Watched}
use Rattle.alter_graph.specs.Chains.{chains_seen}
use Rattle.plain_world.specs.Refusals.{is_kind}
use Rattle.desk_names.specs.Rows.{Rows}
use Rattle.desk_world.specs.declared.tables.GuardRow.{GuardRow}
use Rattle.desk_world.specs.declared.world.World.{World}
use Rattle.desk_world.specs.Boxes.{HasBoxAt, IsFirstOf}
use Rattle.desk_world.specs.InStep.{AreInStep, AreSeated, IsBox}
use Rattle.desk_world.specs.Looks.{looked}
use Rattle.desk_world.specs.Plain.{plain_of, look_of, kinds_of, word_of, guard_seen}
use Rattle.desk_world.proofs.BoxKinds.{may_arm, same_kind}
use Rattle.desk_world.proofs.Boxes.{all_at, first_kind}
use Rattle.desk_world.proofs.GuardTables.{claims_with, claims_are, claims_now}

module _ {O : Type 0} (watch : O → Watched) (w : World O) (rows : Rows GuardRow)
    (same : rows.rows ≡ w.guards.rows) where
  -- more room for guards changes nothing
  pub roomy_in_step : AreInStep watch w → AreInStep watch (record w { guards = rows })
  roomy_in_step in_step = record {
    graph = in_step.graph;
    seated = subst (λ list. AreSeated list (chains_seen watch w.graph.chains))
        (claims_are w ∙ ap (claims_with w) (sym same) ∙ sym (claims_now w rows w w.graph))
        in_step.seated;
    boxes = in_step.boxes;
    snaps = in_step.snaps;
    derived = in_step.derived;
    kept = in_step.kept;
  }

  pub roomy_plain : plain_of watch (record w { guards = rows }) ≡ plain_of watch w
  roomy_plain =
      let look = look_of watch w in
      ap (λ table. record (plain_of watch w) { guards = looked (guard_seen look) table }) same

-- ---- the box that was found

module _ {O : Type 0} (watch : O → Watched) (kind : GuardWord) (place : ℕ) (boxes : List O)
    (first : IsFirstOf kind place (kinds_of watch boxes)) where
  -- it is there, and of the kind
  pub record IsFound : Type 0 where
    pub box : O
    pub at : slice_get boxes place ≡ Some box
    pub own : kind ≡ word_of (watch box).seen.kind

  pub box_found : IsFound
  box_found = by (slice_get boxes place) refl
    where
      by : (o : Option O) → slice_get boxes place ≡ o → IsFound
      by None is =
          let word : O → GuardWord = λ o. word_of (watch o).seen.kind in
          absurd (none-some true (sym (ap (option_map (is_kind kind))
          (slice_get-map word boxes place ∙ ap (option_map word) is)) ∙ first.found))
      by (Some box) is = record {
        box = box;
        at = is;
        own = same_kind kind (word_of (watch box).seen.kind)
            (first_kind (λ o. word_of (watch o).seen.kind) kind boxes place box is first);
      }

  pub found_there : place < length boxes
  found_there = slice_get_within boxes place box_found.box box_found.at

-- the number of a valid command is one with which it may be armed
pub found_armable : {O : Type 0} (watch : O → Watched) (w : World O) (kind : GuardWord) (place : ℕ)
    (sort : ItemSort) (number : Option ℕ) → AreInStep watch w → IsGuard sort kind number
    → IsFirstOf kind place (kinds_of watch w.pool.items)
    → HasBoxAt place (λ o. IsArmable (unwrap_or number 0) (watch o).seen) w.pool.items
found_armable watch w kind place sort number in_step valid first =
    let found = box_found watch kind place w.pool.items first in
    let is_box = all_at (λ o. IsBox (watch o).seen) w.pool.items place found.box found.at
    in_step.boxes in
    record {
      box = found.box;
      at = found.at;
      holds = may_arm sort number (watch found.box).seen is_box.empty
          (subst (λ k. IsGuard sort k number) found.own valid);
    }
