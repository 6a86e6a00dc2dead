-- The lines of the attributes of a saved world.
use Rattle.std.proofs.Common.{◌≡◌, ℕ, true, false, List, [], ◌∷◌, ◌++◌, map, length, sym, ap}
use Rattle.std.proofs.Common.{append_assoc, ◌∙◌, arith}
use Rattle.std.specs.Prelude.{codes, ◌==◌}
use Rattle.std.specs.List.{flat_map}
use Rattle.std.proofs.lemmas.Bool.{true≢false}
use Rattle.std.proofs.lemmas.Grind.{common_steps}
use Rattle.std.proofs.lemmas.List.{append-nil}
use Rattle.token_text.specs.Lines.{ended}
use Rattle.lgf_file.specs.Plain.{attribute_text, attribute_lines}
use Rattle.plain_world.specs.Tables.{Name}

-- where there are attributes, their lines stand below the one that opens their section
pub lines_titled : (own : List (Name × List ℕ)) → (length own == 0) ≡ false
    → (front opened : List ℕ) → opened ≡ front ++ codes "@attributes\n"
    → opened ++ flat_map ended (map attribute_text own)
    ≡ front ++ flat_map ended (attribute_lines own)
lines_titled [] some front opened is = absurd (true≢false some)
lines_titled (attribute ∷ own) some front opened is =
    let lines = flat_map ended (map attribute_text (attribute ∷ own)) in
    ap (λ start. start ++ lines) is ∙ append_assoc front (codes "@attributes\n") lines

-- and where there are none, there is no line
pub no_lines : (own : List (Name × List ℕ)) → (length own == 0) ≡ true → (front : List ℕ)
    → front ≡ front ++ flat_map ended (attribute_lines own)
no_lines [] none front = sym (append-nil front)
no_lines (attribute ∷ own) none front = absurd (grind (arith, common_steps, none))
