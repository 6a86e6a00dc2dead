-- The slots of dead ids through the changes of a column.
use Rattle.std.proofs.Common.{◌≡◌, ◌≢◌, ℕ, zero, suc, ◌-◌, ◌<◌, ◌≤◌, ◌==◌, Bool, true, false}
use Rattle.std.proofs.Common.{if◌then◌else◌, List, [], ◌∷◌, ◌++◌, length, replicate, take, take_all}
use Rattle.std.proofs.Common.{get_or, set, refl, sym, ap, subst, ◌∙◌, arith}
use Rattle.std.proofs.lemmas.Grind.{common_steps, get_or-set_at}
use Rattle.std.proofs.lemmas.List.{get_or-set_other}
use Rattle.columns.specs.Views.{AreBlank}

module _ {X : Type 0} (d : X) where
  read_filled : (n k : ℕ) → get_or (replicate n d) k d ≡ d
  read_filled zero k = refl
  read_filled (suc n) zero = refl
  read_filled (suc n) (suc k) = read_filled n k

  read_more : (n k : ℕ) (xs : List X) → get_or (xs ++ replicate n d) k d ≡ get_or xs k d
  read_more n k [] = read_filled n k
  read_more n zero (x ∷ xs) = refl
  read_more n (suc k) (x ∷ xs) = read_more n k xs

module _ {V : Type 0} (d : V) (ls : List Bool) (vs : List V) (blank : AreBlank d ls vs) where
  pub blank-push : AreBlank d ls (vs ++ d ∷ [])
  blank-push k e = read_more d 1 k vs ∙ blank k e

  blank-flags : (n : ℕ) → AreBlank d (ls ++ replicate n false) vs
  blank-flags n k e = blank k (sym (read_more false n k ls) ∙ e)

  pub blank-resize : (b : Bool) (n m : ℕ) → length ls ≤ n
      → AreBlank d (if b then take n ls ++ replicate (n - m) false else ls) vs
  blank-resize true n m l =
      subst (λ fs. AreBlank d (fs ++ replicate (n - m) false) vs) (sym (take_all n ls l))
      (blank-flags (n - m))
  blank-resize false n m l = blank

  module _ (at : ℕ) where
    -- another id's slot, and that of the id
    by_place : (k : ℕ) (P : Type 0) → (k ≢ at → P) → (k ≡ at → P) → P
    by_place k P other same =
        elim (k == at) as (λ b. (k == at) ≡ b → P) [
          | true ↦ λ e. same (grind (arith, common_steps, e))
          | false ↦ λ e. other (λ q. grind (arith, common_steps, e, q))
        ] refl

    pub blank-put : (v : V) → at < length ls → AreBlank d (set ls at true) (set vs at v)
    blank-put v l k e =
        by_place k (get_or (set vs at v) k d ≡ d)
        (λ n. get_or-set_other vs at k v d n
        ∙ blank k (sym (get_or-set_other ls at k true false n) ∙ e))
        (λ q. let t = get_or-set_at ls at k true false q l in absurd (true-false (sym t ∙ e)))
      where
        true-false : true ≡ false → ⊥
        true-false q = cc

    pub blank-take : at < length vs → AreBlank d (set ls at false) (set vs at d)
    blank-take l k e =
        by_place k (get_or (set vs at d) k d ≡ d)
        (λ n. get_or-set_other vs at k d d n
        ∙ blank k (sym (get_or-set_other ls at k false false n) ∙ e))
        (λ q. get_or-set_at vs at k d d q l)

    pub blank-set : (v : V) → get_or ls at false ≡ true → AreBlank d ls (set vs at v)
    blank-set v up k e =
        by_place k (get_or (set vs at v) k d ≡ d)
        (λ n. get_or-set_other vs at k v d n ∙ blank k e)
        (λ q. absurd (true-false (sym up ∙ sym (ap (λ i. get_or ls i false) q) ∙ e)))
      where
        true-false : true ≡ false → ⊥
        true-false q = cc

pub blank-pushed : {V : Type 0} (d : V) (b : Bool) (ls : List Bool) (vs : List V)
    → AreBlank d ls vs → AreBlank d ls (if b then vs ++ d ∷ [] else vs)
blank-pushed d true ls vs blank = blank-push d ls vs blank
blank-pushed d false ls vs blank = blank
