-- Boxes that are put into the pool, one after the other.
use Rattle.std.proofs.Common.{◌≡◌, ℕ, zero, suc, ◌+◌, List, [], ◌∷◌, ◌++◌, map, refl, sym, ap, ◌∙◌}
use Rattle.std.proofs.Common.{subst, arith}
use Rattle.std.specs.List.{range_with_len}
use Rattle.std.proofs.lemmas.List.{map-append}
use Rattle.edge_io.specs.Files.{Files}
use Rattle.script_words.specs.declared.commands.GuardWord.{GuardWord}
use Rattle.plain_digraph.specs.Lists.{AllOf}
use Rattle.plain_machine.specs.declared.statuses.Status.{Status}
use Rattle.plain_machine.specs.Outcome.{Left, Outcome}
use Rattle.observe_core.specs.declared.kinds.Kind.{Kind}
use Rattle.observe_core.specs.declared.kinds.Kind.TheVariants as kinds
use Rattle.observe_core.specs.Seen.{Watched}
use Rattle.guard_kinds.specs.GuardViews.{unarmed}
use Rattle.desk_world.specs.Plain.{kinds_of, word_of}
use Rattle.lemon_desk.specs.Pool.{IsUntoldGuard, kind_at}

-- a guard that was never armed tracks nothing
pub untold_unarmed : (kind : Kind) → (kind ≡ kinds.Map → ⊥) → IsUntoldGuard (unarmed kind)
untold_unarmed kinds.Map guard = absurd (guard refl)
untold_unarmed kinds.Quota guard = record { guard = refl; making = refl; empty = refl }
untold_unarmed kinds.Loopless guard = record { guard = refl; making = refl; empty = refl }
untold_unarmed kinds.Simple guard = record { guard = refl; making = refl; empty = refl }
untold_unarmed kinds.OutCap guard = record { guard = refl; making = refl; empty = refl }
untold_unarmed kinds.Fuse guard = record { guard = refl; making = refl; empty = refl }
untold_unarmed kinds.Tally guard = record { guard = refl; making = refl; empty = refl }

range_more : (a n : ℕ) → range_with_len a (suc n) ≡ range_with_len a n ++ (a + n) ∷ []
range_more a zero = ap (λ m. m ∷ []) (omega arith)
range_more a (suc n) =
    let r = range_more (a + 1) n in
    let e : a + 1 + n ≡ a + suc n = omega arith in
    ap (λ l. a ∷ l) (r ∙ ap (λ m. range_with_len (a + 1) n ++ m ∷ []) e)

one_more : (n : ℕ) → range_with_len 0 (n + 1) ≡ range_with_len 0 n ++ n ∷ []
one_more n =
    let one : n + 1 ≡ suc n = omega arith in
    let last : 0 + n ≡ n = omega arith in
    ap (range_with_len 0) one ∙ range_more 0 n ∙ ap (λ m. range_with_len 0 n ++ m ∷ []) last

module _ {X : Type 0} (watch : X → Watched) where
  abbrev AreUntold : List X → Type 0
  AreUntold xs = AllOf (λ it. IsUntoldGuard (watch it).seen) xs

  -- one box more
  pub more_untold : (xs : List X) (x : X) → AreUntold xs → IsUntoldGuard (watch x).seen
      → AreUntold (xs ++ x ∷ [])
  more_untold [] x all one = (one, tt)
  more_untold (y ∷ ys) x all one = (all.0, more_untold ys x all.1 one)

  pub more_kinds : (xs : List X) (x : X) (n : ℕ)
      → kinds_of watch xs ≡ map kind_at (range_with_len 0 n)
      → word_of (watch x).seen.kind ≡ kind_at n
      → kinds_of watch (xs ++ x ∷ []) ≡ map kind_at (range_with_len 0 (n + 1))
  more_kinds xs x n are one =
      map-append (λ o. word_of (watch o).seen.kind) xs (x ∷ [])
      ∙ (λ i. are i ++ one i ∷ [])
      ∙ sym (ap (map kind_at) (one_more n) ∙ map-append kind_at (range_with_len 0 n) (n ∷ []))

-- an outcome of boxes is one of boxes of the same kinds
pub by_kinds : (words : List (List ℕ)) (kinds all : List GuardWord) (files : Files) (left : Left)
    (status : Status) → kinds ≡ all → Outcome words kinds files left status
    → Outcome words all files left status
by_kinds words kinds all files left status same outcome =
    subst (λ pool. Outcome words pool files left status) same outcome
