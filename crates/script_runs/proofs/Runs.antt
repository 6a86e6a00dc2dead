-- Runs that go on, line by line.
use Rattle.std.proofs.Common.{◌≡◌, ℕ, ◌+◌, ◌≤◌, Bool, true, false, List, [], ◌∷◌, ◌++◌, length}
use Rattle.std.proofs.Common.{inl, inr, refl, sym, ap, ◌∙◌, subst, arith, append_assoc}
use Rattle.std.proofs.Common.{length-append, add-zero, drop}
use Rattle.std.specs.Prelude.{MatchBool, ◌||◌}
use Rattle.std.specs.FinMap as fin
use Rattle.std.proofs.lemmas.List.{append-nil, take-append-drop}
use Rattle.edge_io.specs.Causes.{Rose, NeverFall}
use Rattle.edge_io.specs.Files.{Files}
use Rattle.token_text.specs.Lines.{is_passed_over}
use Rattle.report_text.specs.declared.replies.Reply.TheVariants as replies
use Rattle.plain_world.specs.World.{World}
use Rattle.plain_world.specs.Documents.{load}
use Rattle.plain_world.specs.declared.answers.Answer.{Answer}
use Rattle.plain_world.specs.declared.answers.Answer.TheVariants.{Answered}
use Rattle.plain_machine.specs.declared.statuses.Status.TheVariants as statuses
use Rattle.plain_machine.specs.declared.statuses.Status.{Status}
use Rattle.plain_machine.specs.Built.{Answers}
use Rattle.plain_machine.specs.Texts.{report_of, answer_text, is_refused, has_refusal, Saved}
use Rattle.plain_machine.specs.Texts.{saves_of, all_saves, overwritten}
use Rattle.plain_machine.specs.Runs as runs
use Rattle.plain_machine.specs.Outcome.{Counts, Left, Handed, Desk, Nothing, IsPrefixOf}
use Rattle.plain_machine.specs.Outcome as outcome
use Rattle.script_runs.specs.Unhanded.{Unhanded}

-- ---- the program's own machine

abbrev pub Run : World → ℕ → List (List ℕ) → List (ℕ × Answer) → World → Type 0
Run = runs.Run Answers

abbrev pub Finished : World → Files → List (List ℕ) → Bool → World → List ℕ → Files → Type 0
Finished = runs.Finished Answers

abbrev pub StoppedAt : World → Files → List (List ℕ) → List ℕ → List ℕ → Type 0
StoppedAt = runs.StoppedAt Answers

abbrev pub StoppedBefore : World → Files → List (List ℕ) → List ℕ → Files → Type 0
StoppedBefore = runs.StoppedBefore Answers

abbrev pub StoppedWithin : World → Files → List (List ℕ) → List ℕ → Files → Type 0
StoppedWithin = runs.StoppedWithin Answers

abbrev pub Plays : World → Files → List (List ℕ) → Left → Status → Type 0
Plays = outcome.Plays Answers load Desk

-- ---- runs

-- What a choice says where the test holds.
at_true : (b : Bool) (P Q : Type 0) → b ≡ true → P → MatchBool b P Q
at_true true P Q e p = p
at_true false P Q e p = absurd (cc)

-- What it says where it fails.
at_false : (b : Bool) (P Q : Type 0) → b ≡ false → Q → MatchBool b P Q
at_false true P Q e q = absurd (cc)
at_false false P Q e q = q

-- From one choice to another.
by_case : (b : Bool) (P Q P' Q' : Type 0) → MatchBool b P Q → (P → P') → (Q → Q')
    → MatchBool b P' Q'
by_case true P Q P' Q' h f g = f h
by_case false P Q P' Q' h f g = g h

-- An answer at the head of a run.
abbrev Heads : World → ℕ → List ℕ → List (List ℕ) → List (ℕ × Answer) → World → Type 0
Heads world number line lines answers later =
    (answer : Answer) × (others : List (ℕ × Answer)) × (mid : World)
    × (answers ≡ (number, answer) ∷ others)
    × Answers world line answer mid × Run mid (number + 1) lines others later

-- One run after another.
pub run_on : (world : World) (number next : ℕ) (lines more : List (List ℕ))
    (answers others : List (ℕ × Answer)) (mid later : World)
    → next ≡ number + length lines → Run world number lines answers mid
    → Run mid next more others later
    → Run world number (lines ++ more) (answers ++ others) later
run_on world number next [] more answers others mid later at h k =
    let here = subst (λ n. Run mid n more others later) (at ∙ add-zero number) k in
    let from = subst (λ w. Run w number more others later) h.1 here in
    subst (λ ans. Run world number more (ans ++ others) later) (sym h.0) from
run_on world number next (line ∷ lines) more answers others mid later at h k =
    by_case (is_passed_over line) _ _ _ _ h
    (λ r. run_on world (number + 1) next lines more answers others mid later (omega arith) r k)
    (λ (r : Heads world number line lines answers mid). (
      r.0,
      r.1 ++ others,
      r.2,
      ap (λ ans. ans ++ others) r.3,
      r.4,
      run_on r.2 (number + 1) next lines more r.1 others mid later (omega arith) r.5 k,
    ))

-- A line that is passed over.
pub one_passed : (world : World) (number : ℕ) (line : List ℕ) → is_passed_over line ≡ true
    → Run world number (line ∷ []) [] world
one_passed world number line e = at_true (is_passed_over line) _ _ e (refl, refl)

-- A line that is answered.
pub one_answered : (world later : World) (number : ℕ) (line : List ℕ) (answer : Answer)
    → is_passed_over line ≡ false
    → Answers world line answer later → Run world number (line ∷ []) ((number, answer) ∷ []) later
one_answered world later number line answer e h =
    at_false (is_passed_over line) _ _ e (answer, [], later, refl, h, (refl, refl))

-- ---- one answer more

-- Their text.
report-push : (answers : List (ℕ × Answer)) (number : ℕ) (answer : Answer)
    → report_of (answers ++ (number, answer) ∷ []) ≡ report_of answers ++ answer_text number answer
report-push [] number answer = append-nil (answer_text number answer)
report-push (b ∷ answers) number answer =
    let first = answer_text b.0 b.1 in
    ap (λ t. first ++ t) (report-push answers number answer)
    ∙ sym (append_assoc first (report_of answers) (answer_text number answer))

-- No refusal more.
or-false : (x : Bool) → (x || false) ≡ x
or-false true = refl
or-false false = refl

-- Three tests, in either grouping.
or_assoc : (x y z : Bool) → ((x || y) || z) ≡ (x || (y || z))
or_assoc true y z = refl
or_assoc false y z = refl

-- Whether one of them is refused.
refusal-push : (answers : List (ℕ × Answer)) (number : ℕ) (answer : Answer)
    → has_refusal (answers ++ (number, answer) ∷ []) ≡ (has_refusal answers || is_refused answer)
refusal-push [] number answer = or-false (is_refused answer)
refusal-push (b ∷ answers) number answer =
    ap (λ t. is_refused b.1 || t) (refusal-push answers number answer)
    ∙ sym (or_assoc (is_refused b.1) (has_refusal answers) (is_refused answer))

-- What they save.
saves-push : (answers : List (ℕ × Answer)) (number : ℕ) (answer : Answer)
    → all_saves (answers ++ (number, answer) ∷ []) ≡ all_saves answers ++ saves_of answer
saves-push [] number answer = append-nil (saves_of answer)
saves-push (b ∷ answers) number answer =
    let first = saves_of b.1 in
    ap (λ saves. first ++ saves) (saves-push answers number answer)
    ∙ sym (append_assoc first (all_saves answers) (saves_of answer))

-- Saves after other saves.
overwritten-append : (files : Files) (saves more : List Saved)
    → overwritten files (saves ++ more) ≡ overwritten (overwritten files saves) more
overwritten-append files [] more = refl
overwritten-append files (save ∷ saves) more =
    overwritten-append (fin.insert files save.0 save.1) saves more

-- The files behind them.
files-push : (files : Files) (answers : List (ℕ × Answer)) (number : ℕ) (answer : Answer)
    → overwritten files (all_saves (answers ++ (number, answer) ∷ []))
    ≡ overwritten (overwritten files (all_saves answers)) (saves_of answer)
files-push files answers number answer =
    ap (overwritten files) (saves-push answers number answer)
    ∙ overwritten-append files (all_saves answers) (saves_of answer)

-- ---- the lines so far

-- The lines before the rest were answered from this world and these files, which led to now and to
-- left.
pub record Playing (world : World) (files : Files) (lines rest : List (List ℕ)) (number : ℕ)
    (refused : Bool) (now : World)
    (out : List ℕ) (left : Files) : Type 0 where
  pub before : List (List ℕ)
  pub split : lines ≡ before ++ rest
  pub number_is : number ≡ length before
  pub answers : List (ℕ × Answer)
  pub ran : Run world 1 before answers now
  pub out_is : out ≡ report_of answers
  pub refused_is : refused ≡ has_refusal answers
  pub files_are : left ≡ overwritten files (all_saves answers)

-- At the first line.
pub playing_start : (world : World) (files : Files) (lines : List (List ℕ))
    → Playing world files lines lines 0 false world [] files
playing_start world files lines = record {
  before = [];
  split = refl;
  number_is = refl;
  answers = [];
  ran = (refl, refl);
  out_is = refl;
  refused_is = refl;
  files_are = refl;
}

-- Behind the last line.
pub finished : (world : World) (files : Files) (lines : List (List ℕ)) (number : ℕ) (refused : Bool)
    (now : World) (out : List ℕ) (left : Files)
    → Playing world files lines [] number refused now out left
    → Finished world files lines refused now out left
finished world files lines number refused now out left was = record {
  answers = was.answers;
  ran = subst (λ ls. Run world 1 ls was.answers now) (sym (was.split
      ∙ append-nil was.before)) was.ran;
  out_is = was.out_is;
  refused_is = was.refused_is;
  files_are = was.files_are;
}

-- An answer that saves this file.
saving : (answer : Answer) (name bytes : List ℕ) → saves_of answer ≡ (name, bytes) ∷ []
    → answer ≡ Answered (replies.Save name bytes)
saving (Answered (replies.Save own content)) name bytes e =
    let same : ◌≡◌ {A = Saved} (own, content) (name, bytes) = cc in
    ap (λ save. Answered (replies.Save save.0 save.1)) same
saving _ name bytes e = absurd (cc)

-- A count that rose in a later call rose since an earlier one.
pub rose_since : (first before now : ℕ) → first ≤ before → Rose before now → Rose first now
rose_since first before now later rose = omega arith

-- ---- the next line

module _ (world : World) (files : Files) (lines rest : List (List ℕ)) (line : List ℕ) (number : ℕ)
    (refused : Bool) (now : World)
    (out : List ℕ) (left : Files) (was : Playing world files lines (line ∷ rest) number refused now
    out left) where
  regroup : lines ≡ (was.before ++ line ∷ []) ++ rest
  regroup = was.split ∙ sym (append_assoc was.before (line ∷ []) rest)

  one_more : number + 1 ≡ length (was.before ++ line ∷ [])
  one_more = omega (arith, was.number_is, length-append was.before (line ∷ []))

  -- It is passed over.
  pub playing_passed : is_passed_over line ≡ true
      → Playing world files lines rest (number + 1) refused now out left
  playing_passed e =
      let passed = one_passed now (1 + length was.before) line e in
      let ran = run_on world 1 (1 + length was.before) was.before (line ∷ []) was.answers [] now now
      refl was.ran passed in
      record {
        before = was.before ++ line ∷ [];
        split = regroup;
        number_is = one_more;
        answers = was.answers;
        ran = subst (λ ans. Run world 1 (was.before ++ line ∷ []) ans now) (append-nil was.answers)
            ran;
        out_is = was.out_is;
        refused_is = was.refused_is;
        files_are = was.files_are;
      }

  -- It is answered.
  pub playing_answered : (answer : Answer) (later : World) → is_passed_over line ≡ false
      → Answers now line answer later
      → Playing world files lines rest (number + 1) (refused || is_refused answer) later
      (out ++ answer_text (number + 1) answer) (overwritten left (saves_of answer))
  playing_answered answer later e h =
      let last : List (ℕ × Answer) = (number + 1, answer) ∷ [] in
      let answered = one_answered now later (number + 1) line answer e h in
      record {
        before = was.before ++ line ∷ [];
        split = regroup;
        number_is = one_more;
        answers = was.answers ++ last;
        ran = run_on world 1 (number + 1) was.before (line ∷ []) was.answers last now later
            (omega (arith, was.number_is)) was.ran answered;
        out_is = ap (λ t. t ++ answer_text (number + 1) answer) was.out_is
            ∙ sym (report-push was.answers (number + 1) answer);
        refused_is = ap (λ b. b || is_refused answer) was.refused_is
            ∙ sym (refusal-push was.answers (number + 1) answer);
        files_are = ap (λ f. overwritten f (saves_of answer)) was.files_are
            ∙ sym (files-push files was.answers (number + 1) answer);
      }

  -- The run ends at it, and this part of its text went out.
  stopped_at : (part all : List ℕ) → all ≡ out ++ part → is_passed_over line ≡ false
      → StoppedAt world files lines part all
  stopped_at part all all_is e = record {
    before = was.before;
    line = line;
    after = rest;
    split = was.split;
    asked = e;
    answers = was.answers;
    mid = now;
    ran = was.ran;
    out_is = all_is ∙ ap (λ t. t ++ part) was.out_is;
    kept = left;
    kept_are = was.files_are;
  }

  -- Memory ran out at it.
  pub stopped_before : is_passed_over line ≡ false → StoppedBefore world files lines out left
  unfolding stopped_at
  stopped_before e = (stopped_at [] out (sym (append-nil out)) e, refl)

  -- A write of its text failed.
  stopped_within : (answer : Answer) (later : World) (part text : List ℕ)
      → is_passed_over line ≡ false → Answers now line answer later
      → text ≡ answer_text (number + 1) answer → IsPrefixOf part text
      → StoppedWithin world files lines (out ++ part) (overwritten left (saves_of answer))
  unfolding stopped_at
  stopped_within answer later part text e h text_is prefix =
      let more = drop prefix.0 text in
      let whole : part ++ more ≡ text =
      ap (λ p. p ++ more) prefix.1 ∙ take-append-drop prefix.0 text in
      let number_is = ap (λ n. answer_text (n + 1) answer) was.number_is in (
        part,
        stopped_at part (out ++ part) refl e,
        answer,
        later,
        more,
        h,
        whole ∙ text_is
            ∙ number_is,
        refl,
      )

  -- Its answer was not handed over, since the store or the report failed.
  pub unhanded : (answer : Answer) (later : World) (text : List ℕ) (first : Counts) (piece : Left)
      → is_passed_over line ≡ false
      → Answers now line answer later → text ≡ answer_text (number + 1) answer
      → first.writes ≤ piece.before.writes → NeverFall first.stores piece.before.stores
      → Unhanded left (saves_of answer) text piece
      → Plays world files lines (record {
        out = out ++ piece.out;
        files = piece.files;
        handed = Nothing;
        before = first;
        now = piece.now;
      }) statuses.WriteFault
  unfolding stopped_at
  unhanded answer later text first piece e h text_is writes stores (inl unwritten) =
      let stop = stopped_within answer later piece.out text e h text_is unwritten.0 in
      let within =
      subst (StoppedWithin world files lines (out ++ piece.out)) (sym unwritten.1) stop in
      inl (within, rose_since first.writes piece.before.writes piece.now.writes writes unwritten.2)
  unhanded answer later text first piece e h text_is writes stores (inr unstored) =
      let name = unstored.0 in
      let bytes = unstored.1 in
      let saved =
      subst (λ said. Answers now line said later) (saving answer name bytes unstored.2) h in
      let stop = stopped_at [] (out ++ piece.out) (ap (λ part. out ++ part) unstored.3) e in
      inr (
        name,
        (stop, bytes, later, saved, unstored.4),
        rose_since (first.stores name) (piece.before.stores name) (piece.now.stores name)
            (stores name) unstored.5,
      )
