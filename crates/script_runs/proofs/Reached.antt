-- Where a run stands at a line, and what is left where it ends there.
use Rattle.std.proofs.Common.{◌≡◌, ℕ, ◌+◌, ◌≤◌, Bool, true, false, List, [], ◌∷◌, ◌++◌, Some}
use Rattle.std.proofs.Common.{Option, sym, ◌∙◌, subst}
use Rattle.std.specs.Prelude.{◌||◌}
use Rattle.edge_io.specs.Causes.{NeverFall}
use Rattle.edge_io.specs.Files.{Files, Took}
use Rattle.edge_io.proofs.Pieces.{took_more}
use Rattle.token_text.specs.Lines.{is_passed_over}
use Rattle.plain_world.specs.World.{World}
use Rattle.plain_world.specs.declared.answers.Answer.{Answer}
use Rattle.plain_machine.specs.declared.statuses.Status.TheVariants as statuses
use Rattle.plain_machine.specs.Built.{Answers}
use Rattle.plain_machine.specs.Texts.{answer_text, is_refused, Saved, saves_of, overwritten}
use Rattle.plain_machine.specs.Outcome.{Counts, Left, Nothing}
use Rattle.script_runs.specs.Unhanded.{Unhanded}
use Rattle.script_runs.proofs.Nothing.{took_nothing}
use Rattle.script_runs.proofs.Runs.{Finished, StoppedBefore, Plays, Playing, playing_start}
use Rattle.script_runs.proofs.Runs.{playing_passed, playing_answered, stopped_before, unhanded}
use Rattle.script_runs.proofs.Runs.{finished}

-- What the report took since the first line, the files, and the lines before the rest.
pub record Reached (world : World) (files : Files) (lines rest : List (List ℕ)) (number : ℕ)
    (refused : Bool) (now : World)
    (first taken : Option (List ℕ)) (held : Option Files) : Type 0 where
  pub out : List ℕ
  pub left : Files
  pub took : Took first taken out
  pub held_is : held ≡ Some left
  pub playing : Playing world files lines rest number refused now out left

-- At the first line.
pub reached_start : (world : World) (files : Files) (lines : List (List ℕ))
    (taken : Option (List ℕ)) (held : Option Files)
    → held ≡ Some files → Reached world files lines lines 0 false world taken taken held
reached_start world files lines taken held told = record {
  out = [];
  left = files;
  took = took_nothing taken;
  held_is = told;
  playing = playing_start world files lines;
}

-- Behind the last line.
pub ends_whole : (world : World) (files : Files) (lines here : List (List ℕ)) (number : ℕ)
    (refused whole : Bool) (now : World)
    (first taken : Option (List ℕ)) (held : Option Files)
    → Reached world files lines here number refused now first taken held → here ≡ []
    → refused ≡ whole
    → (out : List ℕ) × (left : Files) × Took first taken out × (held ≡ Some left)
    × Finished world files lines whole now out left
ends_whole world files lines here number refused whole now first taken held was none told =
    let playing = subst (λ ls. Playing world files lines ls number refused now was.out was.left)
    none was.playing in
    let ended = finished world files lines number refused now was.out was.left playing in (
      was.out,
      was.left,
      was.took,
      was.held_is,
      subst
          (λ b. Finished world files lines b now was.out was.left) told ended,
    )

-- What is left where an answer with this text was not handed over.
abbrev pub FailsToHand : Option (List ℕ) → Option (List ℕ) → Option Files → Option Files
    → List Saved → List ℕ → Counts → Counts → Type 0
FailsToHand taken after held kept saves text before now =
    (all : Files) → held ≡ Some all
    → (part : List ℕ) × (left : Files) × Took taken after part × (kept ≡ Some left)
    × Unhanded all saves text (record {
      out = part;
      files = left;
      handed = Nothing;
      before = before;
      now = now;
    })

module _ (world : World) (files : Files) (lines here rest : List (List ℕ)) (line : List ℕ)
    (number : ℕ) (refused : Bool) (now : World)
    (first taken : Option (List ℕ)) (held : Option Files)
    (was : Reached world files lines here number refused now first taken held)
    (next : here ≡ line ∷ rest) where
  playing : Playing world files lines (line ∷ rest) number refused now was.out was.left
  playing = subst (λ ls. Playing world files lines ls number refused now was.out was.left) next
      was.playing

  -- The next line is passed over.
  pub reached_passed : (later : World) (more : Bool) (after : Option (List ℕ)) (kept : Option Files)
      → (is_passed_over line ≡ true) × (later ≡ now) → more ≡ refused → after ≡ taken → kept ≡ held
      → Reached world files lines rest (number + 1) more later first after kept
  reached_passed later more after kept passed more_is after_is kept_is =
      let on = playing_passed world files lines rest line number refused now was.out was.left
      playing passed.0 in
      let here = subst (λ w. Playing world files lines rest (number + 1) refused w was.out was.left)
      (sym passed.1) on in
      record {
        out = was.out;
        left = was.left;
        took = after_is ∙ was.took;
        held_is = kept_is ∙ was.held_is;
        playing = subst (λ b. Playing world files lines rest (number + 1) b later was.out was.left)
            (sym more_is) here;
      }

  -- It is answered, and the answer is handed over.
  pub reached_answered : (answer : Answer) (later : World) (text : List ℕ) (more : Bool)
      (after : Option (List ℕ)) (kept : Option Files)
      → (is_passed_over line ≡ false) × Answers now line answer later
      → text ≡ answer_text (number + 1) answer
      → more ≡ (refused || is_refused answer)
      → ((all : Files) → held ≡ Some all → (kept ≡ Some (overwritten all (saves_of answer))) × Took
      taken after text)
      → Reached world files lines rest (number + 1) more later first after kept
  reached_answered answer later text more after kept said text_is more_is handed =
      let went = handed was.left was.held_is in
      let piece = answer_text (number + 1) answer in
      let left = overwritten was.left (saves_of answer) in
      let on = playing_answered world files lines rest line number refused now was.out was.left
      playing answer later said.0 said.1 in
      record {
        out = was.out ++ piece;
        left = left;
        took = took_more first taken after was.out piece was.took
            (subst (Took taken after) text_is went.1);
        held_is = went.0;
        playing = subst (λ b. Playing world files lines rest (number + 1) b later (was.out ++ piece)
            left) (sym more_is) on;
      }

  -- Memory runs out at it.
  pub ends_before : is_passed_over line ≡ false
      → (out : List ℕ) × (left : Files) × Took first taken out × (held ≡ Some left)
      × StoppedBefore world files lines out left
  ends_before e =
      let stop =
      stopped_before world files lines rest line number refused now was.out was.left playing e in
      (was.out, was.left, was.took, was.held_is, stop)

  -- It is answered, and the answer isn't handed over. The counts are those at the first line,
  -- before the call and then.
  pub ends_unhanded : (answer : Answer) (later : World) (text : List ℕ) (after : Option (List ℕ))
      (kept : Option Files) (start before last : Counts)
      → (is_passed_over line ≡ false) × Answers now line answer later
      → text ≡ answer_text (number + 1) answer
      → start.writes ≤ before.writes → NeverFall start.stores before.stores
      → FailsToHand taken after held kept (saves_of answer) text before last
      → (out : List ℕ) × (left : Files) × Took first after out × (kept ≡ Some left)
      × Plays world files lines (record {
        out = out;
        files = left;
        handed = Nothing;
        before = start;
        now = last;
      }) statuses.WriteFault
  ends_unhanded answer later text after kept start before last said text_is writes stores fails =
      let failed = fails was.left was.held_is in
      let piece : Left = record {
        out = failed.0;
        files = failed.1;
        handed = Nothing;
        before = before;
        now = last;
      } in
      let took = took_more first taken after was.out failed.0 was.took failed.2 in
      let plays = unhanded world files lines rest line number refused now was.out was.left playing
      answer later text start piece said.0 said.1 text_is writes stores failed.4 in
      (was.out ++ failed.0, failed.1, took, failed.3, plays)
