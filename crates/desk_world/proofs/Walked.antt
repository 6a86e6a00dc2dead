-- A walk along a list of ids.
use Rattle.std.proofs.Common.{◌≡◌, ℕ, ◌<◌, List, [], ◌∷◌, ◌++◌, length, Some, None, Option, refl}
use Rattle.std.proofs.Common.{sym, ap, ◌∙◌, arith, append_assoc}
use Rattle.std.specs.Prelude.{IsTrue}
use Rattle.std.proofs.lemmas.List.{append-nil}
use Rattle.plain_digraph.specs.Lists.{first, has, rest, after, onward, ahead}
use Rattle.plain_digraph.specs.Laws.{StandsOnce}
use Rattle.plain_digraph.proofs.Walks.{first_has, after_has, ahead_first, ahead_at, ahead_after}

-- The ids met are those of the start and then those that the walk has passed.
pub record Walked (ids : List ℕ) (next : Option ℕ) (start met : List ℕ) : Type 0 where
  pub listed : (id : ℕ) → next ≡ Some id → IsTrue (has ids id)
  pub so_far : met ++ ahead ids next ≡ start ++ ids

-- A walk begins at the first id.
pub walk_start : (ids : List ℕ) (next : Option ℕ) (met : List ℕ) → next ≡ first ids
    → Walked ids next met met
walk_start ids next met is = record {
  listed = λ id at. first_has ids id (sym is ∙ at);
  so_far = ap (λ n. met ++ ahead ids n) is ∙ ap (λ xs. met ++ xs) (ahead_first ids);
}

-- It goes on to the id behind.
pub walk_on : (ids : List ℕ) (id : ℕ) (next : Option ℕ) (start met : List ℕ) → StandsOnce ids
    → Walked ids (Some id) start met → next ≡ after ids id → Walked ids next start (met ++ id ∷ [])
walk_on ids id next start met once was goes = record {
  listed = λ other at. after_has ids id other (sym goes ∙ at);
  so_far = append_assoc met (id ∷ []) (ahead ids next)
      ∙ ap (λ xs. met ++ id ∷ xs) (ap (ahead ids) goes ∙ ahead_after ids id once)
      ∙ ap (λ xs. met ++ xs) (sym (ahead_at ids id (was.listed id refl)))
      ∙ was.so_far;
}

-- At its end all ids were met.
pub walk_end : (ids start met : List ℕ) → Walked ids None start met → met ≡ start ++ ids
walk_end ids start met was = sym (append-nil met) ∙ was.so_far

-- Fewer ids are ahead after a step.
pub fewer_ahead : (ids : List ℕ) (id : ℕ) (next : Option ℕ) → StandsOnce ids
    → IsTrue (has ids id) → next ≡ after ids id → length (ahead ids next) < length (onward ids id)
fewer_ahead ids id next once listed goes =
    let here : length (onward ids id) ≡ length (id ∷ rest ids id) =
    ap length (ahead_at ids id listed) in
    let then : length (ahead ids next) ≡ length (rest ids id) =
    ap length (ap (ahead ids) goes ∙ ahead_after ids id once) in
    omega (arith, here, then)
