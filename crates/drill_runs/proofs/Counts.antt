-- Answers that are counted, line by line.
use Rattle.std.proofs.Common.{◌≡◌, ℕ, suc, ◌+◌, ◌<◌, true, false, List, [], ◌∷◌, ◌++◌, length}
use Rattle.std.proofs.Common.{get_or, take, refl, sym, ap, ◌∙◌, subst, arith, add-zero}
use Rattle.std.specs.Prelude.{not, cond}
use Rattle.std.proofs.Math.Seq.{take-suc}
use Rattle.std.proofs.lemmas.List.{length-take-le}
use Rattle.std.proofs.lemmas.List.FromFn.{map-range_with_len_more, length-map-range_with_len}
use Rattle.std.proofs.lemmas.List.Sums.{sum_by-append}
use Rattle.token_text.specs.Lines.{is_passed_over}
use Rattle.plain_world.specs.declared.answers.Answer.{Answer}
use Rattle.plain_world.specs.World.{World}
use Rattle.plain_machine.specs.Built.{Answers}
use Rattle.plain_machine.specs.Texts.{is_refused}
use Rattle.plain_machine.specs.Runs.{Run}
use Rattle.plain_machine.specs.Generator.{state}
use Rattle.plain_machine.specs.Drill.{first_lines, line_text, line_state, after_line, drawn_lines}
use Rattle.plain_machine.specs.Drill.{accepted_in, refused_in}
use Rattle.script_runs.proofs.Runs.{run_on, one_passed, one_answered}
use Rattle.drill_runs.specs.declared.counting.LineCounts.{LineCounts}
use Rattle.drill_runs.specs.Counting.{Counted}

accepted_more : (said more : List (ℕ × Answer))
    → accepted_in (said ++ more) ≡ accepted_in said + accepted_in more
accepted_more said more =
    sum_by-append (λ a. cond (not (is_refused a.1)) 1 0) said more

refused_more : (said more : List (ℕ × Answer))
    → refused_in (said ++ more) ≡ refused_in said + refused_in more
refused_more said more = sum_by-append (λ a. cond (is_refused a.1) 1 0) said more

-- No line.
pub counted_none : (world : World) (number : ℕ) (counts : LineCounts)
    → Counted world world number [] counts counts
counted_none world number counts = record {
  said = [];
  ran = (refl, refl);
  accepted_is = sym (add-zero counts.accepted);
  refused_is = sym (add-zero counts.refused);
}

-- A line that is passed over.
pub counted_passed : (old new : World) (number : ℕ) (line : List ℕ) (counts : LineCounts)
    → is_passed_over line ≡ true → new ≡ old → Counted old new number (line ∷ []) counts counts
counted_passed old new number line counts passed same = record {
  said = [];
  ran = rw same (one_passed old number line passed);
  accepted_is = sym (add-zero counts.accepted);
  refused_is = sym (add-zero counts.refused);
}

-- A line that is answered.
pub counted_answered : (old new : World) (number : ℕ) (line : List ℕ) (answer : Answer)
    (before now : LineCounts) → is_passed_over line ≡ false → Answers old line answer new
    → now.accepted ≡ before.accepted + accepted_in ((number, answer) ∷ [])
    → now.refused ≡ before.refused + refused_in ((number, answer) ∷ [])
    → Counted old new number (line ∷ []) before now
counted_answered old new number line answer before now asked answers accepted refused = record {
  said = (number, answer) ∷ [];
  ran = one_answered old new number line answer asked answers;
  accepted_is = accepted;
  refused_is = refused;
}

-- Lines after other lines.
pub counted_on : (old mid new : World) (number next : ℕ) (lines more : List (List ℕ))
    (before then now : LineCounts) → next ≡ number + length lines
    → Counted old mid number lines before then → Counted mid new next more then now
    → Counted old new number (lines ++ more) before now
counted_on old mid new number next lines more before then now at one two = record {
  said = one.said ++ two.said;
  ran = run_on old number next lines more one.said two.said mid new at one.ran two.ran;
  accepted_is = omega (arith, two.accepted_is, one.accepted_is, accepted_more one.said two.said);
  refused_is = omega (arith, two.refused_is, one.refused_is, refused_more one.said two.said);
}

-- One of the first lines more.
pub first_on : (old mid new : World) (place : ℕ) (said : List (ℕ × Answer)) (line : List ℕ)
    (before now : LineCounts) → place < 7 → line ≡ get_or first_lines place []
    → Run Answers old 1 (take place first_lines) said mid
    → Counted mid new (1 + place) (line ∷ []) before now
    → (more : List (ℕ × Answer)) × Run Answers old 1 (take (place + 1) first_lines) more new
first_on old mid new place said line before now below is ran one =
    let at : 1 + place ≡ 1 + length (take place first_lines) =
    omega (arith, length-take-le place first_lines (omega (arith, below))) in
    let on = run_on old 1 (1 + place) (take place first_lines) (line ∷ []) said one.said mid new
    at ran one.ran in
    let suc_is : place + 1 ≡ suc place = omega arith in
    let taken : take (place + 1) first_lines ≡ take place first_lines ++ line ∷ [] =
    ap (λ n. take n first_lines) suc_is ∙ take-suc first_lines place [] below
    ∙ ap (λ l. take place first_lines ++ l ∷ []) (sym is) in
    (said ++ one.said, subst (λ ls. Run Answers old 1 ls (said ++ one.said) new) (sym taken) on)

-- One of the drawn lines more.
pub drawn_on : (old mid new : World) (seed number : ℕ) (line : List ℕ)
    (start before now : LineCounts) → line ≡ line_text number (line_state seed number)
    → Counted old mid 8 (drawn_lines seed number) start before
    → Counted mid new (8 + number) (line ∷ []) before now
    → Counted old new 8 (drawn_lines seed (number + 1)) start now
drawn_on old mid new seed number line start before now is was one =
    let each : ℕ → List ℕ = λ n. line_text n (line_state seed n) in
    let lines = map-range_with_len_more each 0 number number (omega arith) in
    let at : 8 + number ≡ 8 + length (drawn_lines seed number) =
    omega (arith, length-map-range_with_len each 0 number) in
    let both = counted_on old mid new 8 (8 + number) (drawn_lines seed number) (line ∷ []) start
    before now at was one in
    subst (λ ls. Counted old new 8 ls start now)
    (ap (λ l. drawn_lines seed number ++ l ∷ []) is ∙ sym lines) both

-- The state after a line is that before the next.
pub state_on : (seed number : ℕ) → line_state seed (number + 1)
    ≡ after_line (line_state seed number)
state_on seed number =
    let suc_is : number + 1 ≡ suc number = omega arith in
    ap (line_state seed) suc_is

-- The draws of the graph are behind.
pub state_first : (draws seed count : ℕ) → draws ≡ state seed count → count ≡ 1600
    → draws ≡ line_state seed 0
state_first draws seed count is all = is ∙ ap (state seed) all
