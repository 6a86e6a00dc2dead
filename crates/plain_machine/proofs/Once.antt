-- Where each line has one answer, runs are one, and so are the places where they end early.
use Rattle.std.proofs.Common.{◌≡◌, ℕ, ◌+◌, Bool, true, false, List, [], ◌∷◌, ◌++◌, length, take}
use Rattle.std.proofs.Common.{refl, sym, ap, ◌∙◌, subst}
use Rattle.std.specs.Prelude.{MatchBool}
use Rattle.std.proofs.Math.Seq.{take-append_seam}
use Rattle.edge_io.specs.Files.{Files}
use Rattle.token_text.specs.Lines.{is_passed_over}
use Rattle.plain_world.specs.declared.answers.Answer.{Answer}
use Rattle.plain_machine.specs.Texts.{all_saves, overwritten}
use Rattle.plain_machine.specs.Runs.{Run, StoppedAt}

-- What follows from two choices by one test.
pub both_by : {R : Type 0} (b : Bool) (P Q P' Q' : Type 0) → MatchBool b P Q → MatchBool b P' Q'
    → (b ≡ true → P → P' → R) → (b ≡ false → Q → Q' → R) → R
both_by true P Q P' Q' one other first second = first refl one other
both_by false P Q P' Q' one other first second = second refl one other

module _ {World : Type 0} (Answers : World → List ℕ → Answer → World → Type 0) where
  -- Each line has one answer in each world, and leaves one world.
  abbrev pub AnswersOnce : Type 0
  AnswersOnce = (world later after : World) (line : List ℕ) (answer other : Answer)
      → Answers world line answer later → Answers world line other after
      → (answer ≡ other) × (later ≡ after)

  -- An answer at the head of a run.
  abbrev pub Heads : World → ℕ → List ℕ → List (List ℕ) → List (ℕ × Answer) → World → Type 0
  Heads world number line lines answers later =
      (answer : Answer) × (others : List (ℕ × Answer)) × (mid : World)
      × (answers ≡ (number, answer) ∷ others)
      × Answers world line answer mid × Run Answers mid (number + 1) lines others later

  pub runs_once : AnswersOnce → (world later after : World) (number : ℕ) (lines : List (List ℕ))
      (said also : List (ℕ × Answer)) → Run Answers world number lines said later
      → Run Answers world number lines also after → (said ≡ also) × (later ≡ after)
  runs_once once world later after number [] said also ran next =
      (ran.0 ∙ sym next.0, ran.1 ∙ sym next.1)
  runs_once once world later after number (line ∷ lines) said also ran next =
      both_by (is_passed_over line)
      (Run Answers world (number + 1) lines said later)
      (Heads world number line lines said later)
      (Run Answers world (number + 1) lines also after)
      (Heads world number line lines also after) ran next
      (λ passed r n. runs_once once world later after (number + 1) lines said also r n)
      (λ asked (r : Heads world number line lines said later)
      (n : Heads world number line lines also after).
      let same = once world r.2 n.2 line r.0 n.0 r.4 n.4 in
      let on = subst (λ w. Run Answers w (number + 1) lines r.1 later) same.1 r.5 in
      let rest = runs_once once n.2 later after (number + 1) lines r.1 n.1 on n.5 in
      let head : ◌≡◌ {A = List (ℕ × Answer)} ((number, r.0) ∷ r.1) ((number, n.0) ∷ n.1) =
      λ i. (number, same.0 i) ∷ rest.0 i in
      (r.3 ∙ head ∙ sym n.3, rest.1))

  pub stops_once : AnswersOnce → (world : World) (files : Files) (lines : List (List ℕ))
      (part out part_b out_b : List ℕ) (one : StoppedAt Answers world files lines part out)
      (other : StoppedAt Answers world files lines part_b out_b)
      → length one.before ≡ length other.before
      → (one.answers ≡ other.answers) × (one.mid ≡ other.mid) × (one.kept ≡ other.kept)
  stops_once once world files lines part out part_b out_b one other at =
      let cut : one.before ≡ other.before =
      sym (take-append_seam one.before (one.line ∷ one.after))
      ∙ ap (take (length one.before)) (sym one.split ∙ other.split)
      ∙ ap (λ count. take count (other.before ++ other.line ∷ other.after)) at
      ∙ take-append_seam other.before (other.line ∷ other.after) in
      let ran = subst (λ ls. Run Answers world 1 ls one.answers one.mid) cut one.ran in
      let same = runs_once once world one.mid other.mid 1 other.before one.answers other.answers ran
      other.ran in
      let kept = ap (λ said. overwritten files (all_saves said)) same.0 in
      (same.0, same.1, one.kept_are ∙ kept ∙ sym other.kept_are)
