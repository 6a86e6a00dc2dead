-- The answers of the commands on attributes.
use Rattle.std.proofs.Common.{◌≡◌, List, ℕ, [], refl, sym, ap, subst, Option, Some, None, ◌∙◌}
use Rattle.std.proofs.Common.{is_some}
use Rattle.std.specs.Prelude.{option_map}
use Rattle.std.specs.Option.{option_or, option_map_or}
use Rattle.std.proofs.lemmas.Option.{none-some, same_Some}
use Rattle.script_words.specs.declared.commands.Command.TheVariants as commands
use Rattle.report_text.specs.declared.faults.Fault.TheVariants as faults
use Rattle.report_text.specs.declared.faults.StepFault.{StepFault}
use Rattle.report_text.specs.declared.replies.Reply.TheVariants.{Value}
use Rattle.plain_world.specs.declared.answers.Answer.TheVariants.{Answered}
use Rattle.plain_world.specs.Tables.{Name, entry}
use Rattle.plain_world.specs.World as plain
use Rattle.plain_world.specs.Demands as demands
use Rattle.plain_world.specs.Effects.{attribute_text}
use Rattle.plain_world.specs.Refusals.{unless}
use Rattle.plain_world.specs.Steps.{Step}
use Rattle.plain_machine.specs.Built.{RefusedBy}
use Rattle.desk_world.specs.Faults.{Is}
use Rattle.desk_world.proofs.Demanded.{refused, not_met}

module _ (world : plain.World) (name : Name) where
  none_there : (o : Option plain.Attribute) → None ≡ option_map (attribute_text world) o → o ≡ None
  none_there None is = refl
  none_there (Some a) is = absurd (none-some (attribute_text world a) is)

  -- there is no attribute of the name
  pub no_attribute : (fault : StepFault)
      → None ≡ option_map (attribute_text world) (entry world.attributes name)
      → Is (Some (faults.Unknown name)) fault → RefusedBy world (commands.Attr name) world fault
  no_attribute fault none is =
      refused world (commands.Attr name) fault
      (not_met world (demands.There demands.Attributes name) [] fault
      (subst (λ o. Is (unless (is_some o) (faults.Unknown name)) fault)
      (sym (none_there (entry world.attributes name) none)) is))

  -- its text is told
  pub attribute_told : (text : List ℕ)
      → Some text ≡ option_map (attribute_text world) (entry world.attributes name)
      → Step world (commands.Attr name) (Answered (Value text)) world
  attribute_told text is = by (entry world.attributes name) refl is
    where
      by : (o : Option plain.Attribute) → entry world.attributes name ≡ o
          → Some text ≡ option_map (attribute_text world) o
          → Step world (commands.Attr name) (Answered (Value text)) world
      by None found told = absurd (none-some text (sym told))
      by (Some a) found told = (
        ap (λ o. option_or (option_or (unless (is_some o) (faults.Unknown name)) None) None) found,
        (
          ap Value (same_Some text (attribute_text world a) told
              ∙ sym (ap (λ o. option_map_or (attribute_text world) o []) found)),
          refl,
        ),
      )
