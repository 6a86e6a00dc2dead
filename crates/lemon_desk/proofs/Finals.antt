-- What is said of a world that is handed back, by what was played.
use Rattle.std.proofs.Common.{◌≡◌, ℕ, List, Option, Some, None, inr, refl, sym, ap, ◌∙◌, subst}
use Rattle.std.specs.Prelude.{option_map, IsSome, IfSome}
use Rattle.edge_io.specs.Files.{Files}
use Rattle.script_words.specs.declared.commands.GuardWord.{GuardWord}
use Rattle.plain_world.specs.World.{World}
use Rattle.plain_machine.specs.declared.statuses.Status.{Status}
use Rattle.plain_machine.specs.Built.{Answers}
use Rattle.plain_machine.specs.Words.{Shape, Asks}
use Rattle.plain_machine.specs.Outcome.{Counts, Left, Handed, Ends, Outcome, HandsBackAtEnd}
use Rattle.plain_machine.specs.Outcome.{EndsDrill}
use Rattle.script_runs.specs.Handing.{EndsWhole, handed_by}
use Rattle.script_runs.proofs.Handed.{hands_back}

pub handed_back : {X Y : Type 0} (plain : Y → World) (f : X → Y) (found : Option X)
    → handed_by (λ x. plain (f x)) found ≡ handed_by plain (option_map f found)
handed_back plain f None = refl
handed_back plain f (Some x) = refl

pub there : {X Y : Type 0} (f : X → Y) (found : Option X) → IsSome found
    → IsSome (option_map f found)
there f None some = some
there f (Some x) some = refl

pub there_before : {X Y : Type 0} (f : X → Y) (found : Option X) → IsSome (option_map f found)
    → IsSome found
there_before f None some = some
there_before f (Some x) some = refl

holds : {X Y : Type 0} (P : Y → Type 0) (f : X → Y) (found : Option X)
    → IfSome found (λ x. P (f x)) → IfSome (option_map f found) P
holds P f None said = said
holds P f (Some x) said = said

pub holds_of_last : {X Y : Type 0} (f : X → Y) (found : Option X) (last : Option Y)
    → last ≡ option_map f found → (P : Y → Type 0) → IfSome found (λ x. P (f x)) → IfSome last P
holds_of_last f found last is P said = subst (λ o. IfSome o P) (sym is) (holds P f found said)

-- What a shape comes to is what words of this shape come to, by the world that is handed back in
-- place of what was played, and by boxes of the same kinds.
module _ {X Y : Type 0} (plain : Y → World) (f : X → Y) (found : Option X) (last : Option Y)
    (is : last ≡ option_map f found) where
  played_handed : handed_by (λ x. plain (f x)) found ≡ handed_by plain last
  played_handed = handed_back plain f found ∙ ap (handed_by plain) (sym is)

  pub as_outcome : (words : List (List ℕ)) (shape : Shape) (kinds pool : List GuardWord)
      (files left : Files) (out : List ℕ) (before now : Counts) (status : Status)
      → Asks words shape → kinds ≡ pool → (IsSome found → EndsWhole status)
      → Ends Answers kinds files shape (record {
        out = out;
        files = left;
        handed = handed_by (λ x. plain (f x)) found;
        before = before;
        now = now;
      }) status
      → Outcome words pool files (record {
        out = out;
        files = left;
        handed = handed_by plain last;
        before = before;
        now = now;
      }) status
  as_outcome words shape kinds pool files left out before now status asks same whole ends =
      let ended : List GuardWord → Handed → Type 0 = λ p h. Ends Answers p files shape (record {
        out = out;
        files = left;
        handed = h;
        before = before;
        now = now;
      }) status in
      let first : Handed = handed_by (λ x. plain (f x)) found in
      let pooled = subst (λ p. ended p first) same ends in (
        inr (shape, asks, subst (ended pool) played_handed pooled),
        subst (HandsBackAtEnd status) played_handed
            (hands_back (λ x. plain (f x)) status found whole),
      )

  -- so is what a drill comes to
  pub as_drill : (kinds pool : List GuardWord) (seed lines : ℕ) (out : List ℕ) (before now : ℕ)
      (status : Status) → kinds ≡ pool
      → EndsDrill Answers kinds seed lines out (handed_by (λ x. plain (f x)) found) before now
      status
      → EndsDrill Answers pool seed lines out (handed_by plain last) before now status
  as_drill kinds pool seed lines out before now status same ends =
      let ended : List GuardWord → Handed → Type 0 =
      λ p h. EndsDrill Answers p seed lines out h before now status in
      subst (ended pool) played_handed
      (subst (λ p. ended p (handed_by (λ x. plain (f x)) found)) same ends)
