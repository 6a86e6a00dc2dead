-- Texts that are written to maps of different names, one after the other.
use Rattle.std.proofs.Common.{◌≡◌, ℕ, suc, ◌+◌, ◌<◌, true, false, cond, List, [], ◌∷◌, ◌++◌}
use Rattle.std.proofs.Common.{map, length, take, drop, drop-cons, get_or, Some, refl, sym, ap, ◌∙◌}
use Rattle.std.proofs.Common.{arith, inl, inr}
use Rattle.std.specs.Prelude.{find, option_map, option_and_then}
use Rattle.std.specs.FinMap as fin
use Rattle.std.specs.Str.{bytes_eq}
use Rattle.std.proofs.lemmas.Bool.{or_parts, or_left, or_right, or_cases, false_from_ne_true}
use Rattle.std.proofs.lemmas.Bool.{true≢false}
use Rattle.std.proofs.lemmas.List.{take-append-drop}
use Rattle.std.proofs.lemmas.Slice.Eq.{bytes_eq-Decides}
use Rattle.token_text.specs.Names.{is_among, has_twice}
use Rattle.lgf_file.specs.Rows.{Cells}
use Rattle.lgf_file.proofs.NameLists.{apart_back}
use Rattle.script_words.specs.declared.commands.MapType.TheVariants as types
use Rattle.plain_world.specs.Tables.{Name, Named, under, is_named, entry, with_change}
use Rattle.plain_world.specs.World.{Column, Held, Texts}
use Rattle.plain_world.specs.Values.{written_at, type_of}
use Rattle.plain_world.specs.Documents.{with_texts}
use Rattle.desk_world.specs.Describing.{AreTexts}

abbrev names : List (Named Held) → List Name
names maps = map (λ e. e.name) maps

-- a name that stands among others is one of them
among_middle : (front : List Name) (name : Name) (back : List Name)
    → is_among name (front ++ name ∷ back) ≡ true
among_middle [] name back =
    or_left (bytes_eq name name) (is_among name back) ((bytes_eq-Decides name name).1 refl)
among_middle (x ∷ front) name back =
    or_right (bytes_eq name x) (is_among name (front ++ name ∷ back)) (among_middle front name back)

-- another name
apart_named : (name own : Name) → (own ≡ name → ⊥) → bytes_eq own name ≡ false
apart_named name own apart =
    false_from_ne_true (bytes_eq own name) (λ same. apart ((bytes_eq-Decides own name).0 same))

-- where no map has the name, none changes
none_changed : (maps : List (Named Held)) (name : Name) (change : Held → Held)
    → is_among name (names maps) ≡ false → with_change maps name change ≡ maps
none_changed [] name change none = refl
none_changed (e ∷ maps) name change none =
    let parts = or_parts (bytes_eq name e.name) (is_among name (names maps)) none in
    let rest = none_changed maps name change parts.1 in
    let other : bytes_eq e.name name ≡ false = apart_named name e.name
    (λ same. true≢false (sym ((bytes_eq-Decides name e.name).1 (sym same)) ∙ parts.0)) in
    λ i. cond (other i) (under e.name (change e.value)) e ∷ rest i

pub no_texts : (maps : List (Named Held)) (id : ℕ) → with_texts maps id [] ≡ maps
no_texts [] id = refl
no_texts (e ∷ maps) id = refl

-- the change of a map of texts
abbrev Writes : ℕ → List ℕ → (Held → Held) → Type 0
Writes id text change =
    (m : Column (List ℕ)) → change (Texts m) ≡ Texts (fin.insert m id text)

module _ (id : ℕ) (text : List ℕ) (change : Held → Held) (writes : Writes id text change) where
  -- one text more goes to the map of the next name
  pub texts_push : (maps : List (Named Held)) (texts : Cells) (front : List Name) (name : Name)
      (back : List Name) → names maps ≡ front ++ name ∷ back → length texts ≡ length front
      → has_twice (names maps) ≡ false → AreTexts maps
      → with_texts maps id (texts ++ text ∷ [])
      ≡ with_change (with_texts maps id texts) name change
  texts_push [] texts [] name back at size differ are = absurd (cc)
  texts_push [] texts (x ∷ front) name back at size differ are = absurd (cc)
  texts_push (e ∷ maps) (t ∷ texts) [] name back at size differ are = absurd (cc)
  texts_push (e ∷ maps) [] (x ∷ front) name back at size differ are = absurd (cc)
  texts_push (e ∷ maps) [] [] name back at size differ are =
      let own : e.name ≡ name = cc in
      let parts = or_parts (is_among e.name (names maps)) (has_twice (names maps)) differ in
      let rest = none_changed maps name change
      (ap (λ n. is_among n (names maps)) (sym own) ∙ parts.0) in
      let here : bytes_eq e.name name ≡ true = (bytes_eq-Decides e.name name).1 own in
      let m = are.0.0 in
      let is = are.0.1 in
      ap (λ more. under e.name (written_at e.value id text) ∷ more) (no_texts maps id)
      ∙ ap (λ h. under e.name (written_at h id text) ∷ maps) is
      ∙ ap (λ h. under e.name h ∷ maps) (sym (writes m))
      ∙ ap (λ h. under e.name (change h) ∷ maps) (sym is)
      ∙ (λ i. cond (sym here i) (under e.name (change e.value)) e ∷ sym rest i)
  texts_push (e ∷ maps) (t ∷ texts) (x ∷ front) name back at size differ are =
      let rest_at : names maps ≡ front ++ name ∷ back = cc in
      let parts = or_parts (is_among e.name (names maps)) (has_twice (names maps)) differ in
      let among : is_among name (names maps) ≡ true =
      ap (is_among name) rest_at ∙ among_middle front name back in
      let other : bytes_eq e.name name ≡ false = apart_named name e.name
      (λ same. true≢false (sym among ∙ ap (λ n. is_among n (names maps)) (sym same) ∙ parts.0)) in
      let rest = texts_push maps texts front name back rest_at (omega (arith, size)) parts.1 are.1
      in
      let head : Named Held = under e.name (written_at e.value id t) in
      λ i. cond (sym other i) (under e.name (change head.value)) head ∷ rest i

-- ---- what stays

pub names_stay : (maps : List (Named Held)) (id : ℕ) (texts : Cells)
    → map (λ e. e.name) (with_texts maps id texts) ≡ map (λ e. e.name) maps
names_stay [] id texts = refl
names_stay (e ∷ maps) id [] = refl
names_stay (e ∷ maps) id (text ∷ texts) =
    ap (λ more. e.name ∷ more) (names_stay maps id texts)

pub texts_stay : (maps : List (Named Held)) (id : ℕ) (texts : Cells) → AreTexts maps
    → AreTexts (with_texts maps id texts)
texts_stay [] id texts are = are
texts_stay (e ∷ maps) id [] are = are
texts_stay (e ∷ maps) id (text ∷ texts) are =
    let m = are.0.0 in (
      (fin.insert m id text, ap (λ h. written_at h id text) are.0.1),
      texts_stay maps id texts are.1,
    )

-- what stands under one of the names is a map of texts
pub text_typed : (maps : List (Named Held)) (name : Name) → is_among name (names maps) ≡ true
    → AreTexts maps → option_and_then type_of (entry maps name) ≡ Some types.Texts
text_typed [] name among are = absurd (true≢false (sym among))
text_typed (e ∷ maps) name among are =
    let rest = text_typed maps name in
    elim (bytes_eq e.name name) as (λ b. bytes_eq e.name name ≡ b
    → option_and_then type_of (option_map (λ (x : Named Held). x.value)
    (cond b (Some e) (find (is_named name) maps))) ≡ Some types.Texts) [
      | true ↦ λ is. ap type_of are.0.1
      | false ↦ λ other.
          elim (or_cases (bytes_eq name e.name) (is_among name (names maps)) among) [
            | inl same ↦ absurd (true≢false (sym same ∙ apart_back e.name name other))
            | inr more ↦ rest more are.1
          ]
    ] refl

-- the name at a place of a list stands between those in front of it and those behind it
pub name_between : (columns : Cells) (place : ℕ) (name : Name) → place < length columns
    → name ≡ get_or columns place name
    → columns ≡ take place columns ++ name ∷ drop (place + 1) columns
name_between columns place name below is =
    sym (take-append-drop place columns)
    ∙ ap (λ own. take place columns ++ own) (drop-cons columns place name below)
    ∙ ap (λ n. take place columns ++ n ∷ drop (suc place) columns) (sym is)
    ∙ ap (λ n. take place columns ++ name ∷ drop n columns) (suc_is place)
  where
    suc_is : (n : ℕ) → suc n ≡ n + 1
    suc_is n = omega arith

pub name_among : (front : List Name) (name : Name) (back : List Name) (all : List Name)
    → all ≡ front ++ name ∷ back → is_among name all ≡ true
name_among front name back all is = ap (is_among name) is ∙ among_middle front name back
