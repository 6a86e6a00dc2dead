-- A walk along a list of ids that puts a step behind others for each id of a kind.
use Rattle.std.proofs.Common.{◌≡◌, ℕ, Bool, true, false, List, [], ◌∷◌, ◌++◌, Option, Some, None}
use Rattle.std.proofs.Common.{map, filter, refl, sym, ap, ◌∙◌, append_assoc}
use Rattle.std.specs.Prelude.{IsTrue, ◌||◌, if◌then◌else◌}
use Rattle.std.proofs.lemmas.List.{append-nil}
use Rattle.base_items.specs.declared.items.Node.{Node}
use Rattle.plain_digraph.specs.Lists.{first, after, ahead, has}
use Rattle.plain_digraph.specs.Laws.{StandsOnce}
use Rattle.plain_digraph.specs.PlainSteps.{PlainStep}
use Rattle.plain_digraph.specs.Digraph.{Digraph}
use Rattle.plain_digraph.specs.Items.{out_arcs, in_arcs, source_of, target_of}
use Rattle.plain_digraph.specs.Alterations.{refusable_steps, sources_to, targets_to, is_neither}
use Rattle.plain_digraph.specs.Valid.{IsValid}
use Rattle.plain_digraph.proofs.Contracted.{contraction_is_known, loop_contraction_is_known}
use Rattle.plain_digraph.proofs.Walks.{first_has, after_has, ahead_first, ahead_at, ahead_after}
use Rattle.alter_graph.specs.Contraction.{contraction_of}

module _ (make : ℕ → PlainStep) (test : ℕ → Bool) (ids : List ℕ) where
  -- the steps of some ids
  abbrev pub steps_of : List ℕ → List PlainStep
  steps_of some = map make (filter test some)

  -- With the steps of what is ahead, those of all ids stand behind those of the start.
  pub record Pushed (next : Option ℕ) (start now : List PlainStep) : Type 0 where
    pub listed : (id : ℕ) → next ≡ Some id → IsTrue (has ids id)
    pub so_far : now ++ steps_of (ahead ids next) ≡ start ++ steps_of ids

  -- A walk begins at the first id.
  pub push_start : (next : Option ℕ) (start : List PlainStep) → next ≡ first ids
      → Pushed next start start
  push_start next start is = record {
    listed = λ id at. first_has ids id (sym is ∙ at);
    so_far = ap (λ n. start ++ steps_of (ahead ids n)) is
        ∙ ap (λ some. start ++ steps_of some) (ahead_first ids);
  }

  -- It goes on to the id behind, with the steps of the one that it leaves.
  pub push_on : (id : ℕ) (next : Option ℕ) (start now later : List PlainStep) → StandsOnce ids
      → Pushed (Some id) start now → next ≡ after ids id
      → ((some : List ℕ) → later ++ steps_of some ≡ now ++ steps_of (id ∷ some))
      → Pushed next start later
  push_on id next start now later once was goes with = record {
    listed = λ other at. after_has ids id other (sym goes ∙ at);
    so_far = with (ahead ids next)
        ∙ ap (λ some. now ++ steps_of some)
        (ap (λ some. id ∷ some) (ap (ahead ids) goes ∙ ahead_after ids id once)
        ∙ sym (ahead_at ids id (was.listed id refl)))
        ∙ was.so_far;
  }

  -- the step of an id of the kind
  pub one_more : (id : ℕ) (now later : List PlainStep) → test id ≡ true
      → later ≡ now ++ make id ∷ []
      → (some : List ℕ) → later ++ steps_of some ≡ now ++ steps_of (id ∷ some)
  one_more id now later is e some =
      ap (λ l. l ++ steps_of some) e
      ∙ append_assoc now (make id ∷ []) (steps_of some)
      ∙ ap (λ b. now ++ map make (if b then id ∷ filter test some else filter test some)) (sym is)

  -- none for another
  pub no_more : (id : ℕ) (now later : List PlainStep) → test id ≡ false → later ≡ now
      → (some : List ℕ) → later ++ steps_of some ≡ now ++ steps_of (id ∷ some)
  no_more id now later is e some =
      ap (λ l. l ++ steps_of some) e
      ∙ ap (λ b. now ++ map make (if b then id ∷ filter test some else filter test some)) (sym is)

  -- At its end the steps of all ids are there.
  pub push_end : (start now : List PlainStep) → Pushed None start now
      → now ≡ start ++ steps_of ids
  push_end start now was = sym (append-nil now) ∙ was.so_far

-- all ids are of a kind that each is of
pub filter_each : (test : ℕ → Bool) → ((id : ℕ) → test id ≡ true) → (ids : List ℕ)
    → filter test ids ≡ ids
filter_each test each [] = refl
filter_each test each (id ∷ ids) =
    ap (λ b. if b then id ∷ filter test ids else filter test ids) (each id)
    ∙ ap (λ some. id ∷ some) (filter_each test each ids)

-- the moves of a contraction: those of the arcs from v, and those of the arcs to v
pub contraction_is_pushed : (loops : Bool) (u v : Node) (g : Digraph) → IsValid g
    → refusable_steps g (contraction_of loops u v)
    ≡ sources_to u.0
    (filter (λ arc. loops || is_neither u.0 v.0 (target_of g arc)) (out_arcs g v.0))
    ++ targets_to u.0
    (filter (λ arc. loops || is_neither u.0 v.0 (source_of g arc)) (in_arcs g v.0))
contraction_is_pushed true u v g valid =
    loop_contraction_is_known g u.0 v.0 valid
    ∙ (λ i. sources_to u.0 (sym (filter_each (λ _. true) (λ _. refl) (out_arcs g v.0)) i)
    ++ targets_to u.0 (sym (filter_each (λ _. true) (λ _. refl) (in_arcs g v.0)) i))
contraction_is_pushed false u v g valid = contraction_is_known g u.0 v.0 valid
