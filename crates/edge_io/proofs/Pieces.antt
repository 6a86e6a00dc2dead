-- A file that is read piece by piece, and a piece that is taken part by part.
use Rattle.std.proofs.Common.{◌≡◌, ℕ, ◌<◌, ◌≤◌, List, [], ◌++◌, length, take, drop, Some, None, Option, ◌⊎◌, inr, ⊎_elim, refl, sym, ap, ◌∙◌, subst, arith, append_assoc, length-append}
use Rattle.std.proofs.Math.ListN.{drop_of_length-le}
use Rattle.std.specs.Prelude.{option_map}
use Rattle.std.proofs.lemmas.Option.{same_Some}
use Rattle.std.proofs.lemmas.List.{drop_at, take-append-drop, append-nil}
use Rattle.edge_io.specs.Files.{Files, Holds, ReadsFile, IsTooLong, Took}

-- the bytes are a front of the file's, or there are none yet
abbrev pub Begins : Files → List ℕ → List ℕ → Type 0
Begins files name bytes = (bytes ≡ []) ⊎ ((rest : List ℕ) × Holds files name (bytes ++ rest))

rest_is : (files : Files) (name bytes whole : List ℕ) → Begins files name bytes
    → Holds files name whole
    → whole ≡ bytes ++ drop (length bytes) whole
rest_is files name bytes whole begins holds = ⊎_elim
    (λ (e : bytes ≡ []). rw e refl)
    (λ (h : (rest : List ℕ) × Holds files name (bytes ++ rest)).
    let e : whole ≡ bytes ++ h.0 = same_Some _ _ (sym holds ∙ h.1) in
    let d : drop (length bytes) whole ≡ h.0 =
    ap (drop (length bytes)) e ∙ drop_at bytes h.0 _ refl in
    e ∙ ap (λ r. bytes ++ r) (sym d))
    begins

-- a read that gives nothing ends the file
pub reads_end : (files : Files) (name bytes into : List ℕ) (at : ℕ) → at ≡ length bytes
    → Begins files name bytes → ReadsFile files name at 0 into → Holds files name bytes
reads_end files name bytes into at is begins found =
    let read : ReadsFile files name (length bytes) 0 into =
    subst (λ n. ReadsFile files name n 0 into) is found in
    let e = rest_is files name bytes read.0 begins read.1 in
    let none : length read.0 ≤ length bytes = read.2.ended refl in
    let same : read.0 ≡ bytes =
    e ∙ ap (λ r. bytes ++ r) (drop_of_length-le read.0 none) ∙ append-nil bytes in
    subst (λ b. Holds files name b) same read.1

pub reads_on : (files : Files) (name bytes into : List ℕ) (at count : ℕ) → at ≡ length bytes
    → Begins files name bytes → ReadsFile files name at count into
    → Begins files name (bytes ++ take count into)
reads_on files name bytes into at count is begins found =
    let read : ReadsFile files name (length bytes) count into =
    subst (λ n. ReadsFile files name n count into) is found in
    let rest : List ℕ = drop (length bytes) read.0 in
    let e : read.0 ≡ bytes ++ rest = rest_is files name bytes read.0 begins read.1 in
    let parts : rest ≡ take count into ++ drop count rest =
    sym (take-append-drop count rest) ∙ ap (λ t. t ++ drop count rest) (sym read.2.copied) in
    let whole =
    e ∙ ap (λ r. bytes ++ r) parts ∙ sym (append_assoc bytes (take count into) (drop count rest)) in
    inr (drop count rest, subst (λ b. Holds files name b) whole read.1)

pub reads_long : (files : Files) (name bytes : List ℕ) (limit : ℕ) → Begins files name bytes
    → limit < length bytes → IsTooLong files name limit
reads_long files name bytes limit begins long = ⊎_elim
    (λ (e : bytes ≡ []). absurd (omega (arith, ap length e)))
    (λ (h : (rest : List ℕ) × Holds files name (bytes ++ rest)). (
      bytes ++ h.0,
      h.1,
      omega
          (arith, length-append bytes h.0),
    ))
    begins

-- one part after another is the two parts joined
pub took_more : (a b c : Option (List ℕ)) (x y : List ℕ) → Took a b x → Took b c y
    → Took a c (x ++ y)
took_more None b c x y p q = q ∙ ap (option_map (λ taken. taken ++ y)) p
took_more (Some l) b c x y p q =
    q ∙ ap (option_map (λ taken. taken ++ y)) p ∙ ap (λ t. Some t) (append_assoc l x y)
