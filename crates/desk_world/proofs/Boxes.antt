-- The boxes of a pool: the first of a kind, one that is taken out, and one that goes back.
use Rattle.std.proofs.Common.{◌≡◌, ℕ, zero, suc, ◌+◌, Bool, true, false, cond, List, [], ◌∷◌, map}
use Rattle.std.proofs.Common.{take, refl, sym, ap, ◌∙◌, subst, Some, arith}
use Rattle.std.specs.Prelude.{◌||◌, option_map, slice_get}
use Rattle.std.specs.List.{list_any, insert, remove}
use Rattle.std.proofs.lemmas.Bool.{or_parts}
use Rattle.std.proofs.lemmas.Option.{none-some, same_Some, slice_get-map}
use Rattle.script_words.specs.declared.commands.GuardWord.{GuardWord}
use Rattle.plain_digraph.specs.Lists.{AllOf}
use Rattle.plain_world.specs.Effects.{without_box}
use Rattle.plain_world.specs.Refusals.{is_kind}
use Rattle.desk_world.specs.Boxes.{IsFirstOf}

-- ---- a list without the value at a place

module _ {X : Type 0} where
  pub all_at : (P : X → Type 0) (xs : List X) (i : ℕ) (x : X) → slice_get xs i ≡ Some x
      → AllOf P xs → P x
  all_at P [] i x at all = absurd (none-some x at)
  all_at P (y ∷ ys) zero x at all = subst P (same_Some y x at) all.0
  all_at P (y ∷ ys) (suc i) x at all = all_at P ys i x at all.1

  pub all_removed : (P : X → Type 0) (xs : List X) (i : ℕ) → AllOf P xs → AllOf P (remove xs i)
  all_removed P [] zero all = tt
  all_removed P [] (suc i) all = tt
  all_removed P (y ∷ ys) zero all = all.1
  all_removed P (y ∷ ys) (suc i) all = (all.0, all_removed P ys i all.1)

  pub all_back : (P : X → Type 0) (xs : List X) (i : ℕ) (x : X) → P x → AllOf P xs
      → AllOf P (insert (remove xs i) i x)
  all_back P [] zero x p all = (p, tt)
  all_back P [] (suc i) x p all = (p, tt)
  all_back P (y ∷ ys) zero x p all = (p, all.1)
  all_back P (y ∷ ys) (suc i) x p all = (all.0, all_back P ys i x p all.1)

  -- what goes back to its place is seen as before
  pub seen_back : {Y : Type 0} (f : X → Y) (xs : List X) (i : ℕ) (x back : X)
      → slice_get xs i ≡ Some x → f back ≡ f x → map f (insert (remove xs i) i back) ≡ map f xs
  seen_back f [] i x back at same = absurd (none-some x at)
  seen_back f (y ∷ ys) zero x back at same =
      ap (λ z. z ∷ map f ys) (same ∙ ap f (sym (same_Some y x at)))
  seen_back f (y ∷ ys) (suc i) x back at same =
      ap (λ more. f y ∷ more) (seen_back f ys i x back at same)

  -- none of one more
  any_more : (test : X → Bool) (xs : List X) (i : ℕ) (x : X) → slice_get xs i ≡ Some x
      → list_any test (take i xs) ≡ false → test x ≡ false
      → list_any test (take (suc i) xs) ≡ false
  any_more test [] i x at none not = absurd (none-some x at)
  any_more test (y ∷ ys) zero x at none not =
      ap (λ b. b || false) (ap test (same_Some y x at) ∙ not)
  any_more test (y ∷ ys) (suc i) x at none not =
      let parts = or_parts (test y) (list_any test (take i ys)) none in
      let rest = any_more test ys i x at parts.1 not in
      λ t. parts.0 t || rest t

  pub any_next : (test : X → Bool) (xs : List X) (i : ℕ) (x : X) → slice_get xs i ≡ Some x
      → list_any test (take i xs) ≡ false → test x ≡ false
      → list_any test (take (i + 1) xs) ≡ false
  any_next test xs i x at none not =
      let one : i + 1 ≡ suc i = omega arith in
      ap (λ n. list_any test (take n xs)) one ∙ any_more test xs i x at none not

-- ---- the first of a kind

module _ {X : Type 0} (word : X → GuardWord) (kind : GuardWord) where
  -- it is of the kind
  pub first_kind : (xs : List X) (place : ℕ) (x : X) → slice_get xs place ≡ Some x
      → IsFirstOf kind place (map word xs) → is_kind kind (word x) ≡ true
  first_kind xs place x at first =
      same_Some (is_kind kind (word x)) true
      (sym (ap (option_map (is_kind kind))
      (slice_get-map word xs place ∙ ap (option_map word) at)) ∙ first.found)

  -- the pool has a box of the kind
  pub first_any : (xs : List X) (place : ℕ) (x : X) → slice_get xs place ≡ Some x
      → is_kind kind (word x) ≡ true → list_any (is_kind kind) (map word xs) ≡ true
  first_any [] place x at is = absurd (none-some x at)
  first_any (y ∷ ys) zero x at is =
      ap (λ b. b || list_any (is_kind kind) (map word ys))
      (ap (λ z. is_kind kind (word z)) (same_Some y x at) ∙ is)
  first_any (y ∷ ys) (suc i) x at is =
      ap (λ b. is_kind kind (word y) || b) (first_any ys i x at is)
      ∙ either (is_kind kind (word y))
    where
      either : (b : Bool) → (b || true) ≡ true
      either true = refl
      either false = refl

  -- without it the pool is as the plain one
  pub first_gone : (xs : List X) (place : ℕ) (x : X) → slice_get xs place ≡ Some x
      → list_any (is_kind kind) (take place (map word xs)) ≡ false
      → is_kind kind (word x) ≡ true
      → map word (remove xs place) ≡ without_box (map word xs) kind
  first_gone [] place x at none is = absurd (none-some x at)
  first_gone (y ∷ ys) zero x at none is =
      sym (ap (λ b. cond b (map word ys) (word y ∷ without_box (map word ys) kind))
      (ap (λ z. is_kind kind (word z)) (same_Some y x at) ∙ is))
  first_gone (y ∷ ys) (suc i) x at none is =
      let parts = or_parts (is_kind kind (word y))
      (list_any (is_kind kind) (take i (map word ys))) none in
      ap (λ more. word y ∷ more) (first_gone ys i x at parts.1 is)
      ∙ sym (ap (λ b. cond b (map word ys) (word y ∷ without_box (map word ys) kind)) parts.0)

  -- it was found
  pub first_found : (xs : List X) (place : ℕ) (x : X) → slice_get xs place ≡ Some x
      → list_any (is_kind kind) (take place (map word xs)) ≡ false
      → is_kind kind (word x) ≡ true → IsFirstOf kind place (map word xs)
  first_found xs place x at none is = record {
    none_before = none;
    found = ap (option_map (is_kind kind)) (slice_get-map word xs place ∙ ap (option_map word) at)
        ∙ ap Some is;
  }

  -- it isn't at this place
  pub none_next : (xs : List X) (place : ℕ) (x : X) → slice_get xs place ≡ Some x
      → list_any (is_kind kind) (take place (map word xs)) ≡ false
      → is_kind kind (word x) ≡ false
      → list_any (is_kind kind) (take (place + 1) (map word xs)) ≡ false
  none_next xs place x at none is =
      any_next (is_kind kind) (map word xs) place (word x)
      (slice_get-map word xs place ∙ ap (option_map word) at) none is
