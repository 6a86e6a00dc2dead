-- What holds of boxes holds of them in their seats.
use Rattle.std.proofs.Common.{◌≡◌, List, [], ◌∷◌, map, refl, sym, ap, ◌∙◌, subst}
use Rattle.plain_digraph.specs.Lists.{AllOf}
use Rattle.observe_core.specs.Seen.{Seen, Watched}
use Rattle.desk_seats.specs.Forms.{formed, boxed_form}
use Rattle.desk_world.specs.InStep.{IsBox}
use Rattle.lemon_desk.specs.Pool.{IsUntoldGuard}

module _ {X Y : Type 0} (f : X → Y) where
  all_mapped : (P : Y → Type 0) (Q : X → Type 0) → ((x : X) → Q x → P (f x)) → (xs : List X)
      → AllOf Q xs → AllOf P (map f xs)
  all_mapped P Q so [] all = tt
  all_mapped P Q so (x ∷ xs) all = (so x all.0, all_mapped P Q so xs all.1)

  pub all_seated : (P : Y → Type 0) (Q : X → Type 0) (xs : List X) (ys : List Y) → ys ≡ map f xs
      → AllOf Q xs → ((x : X) → Q x → P (f x)) → AllOf P ys
  all_seated P Q xs ys is all so = subst (AllOf P) (sym is) (all_mapped P Q so xs all)

  each_mapped : {Z : Type 0} (made : Y → Z) (own : X → Z) → ((x : X) → made (f x) ≡ own x)
      → (xs : List X) → map made (map f xs) ≡ map own xs
  each_mapped made own same [] = refl
  each_mapped made own same (x ∷ xs) =
      let rest = each_mapped made own same xs in
      let here = same x in
      λ i. here i ∷ rest i

  -- What is made of what sits in seats is what is made of it.
  pub each_seated : {Z : Type 0} (made : Y → Z) (own : X → Z) → ((x : X) → made (f x) ≡ own x)
      → (xs : List X) (ys : List Y) → ys ≡ map f xs → map made ys ≡ map own xs
  each_seated made own same xs ys is = ap (map made) is ∙ each_mapped made own same xs

-- A guard that was told nothing is one that was told nothing in its seat.
pub untold_in_seat : (w : Watched) → IsUntoldGuard w.seen → IsBox (formed boxed_form w).seen
untold_in_seat w untold = record {
  guard = record { form = refl; making = untold.making; kind = untold.guard };
  empty = ap (λ (s : Seen). record s { form = boxed_form }) untold.empty;
}
