-- Tables with one entry more, with one changed, and without one.
use Rattle.std.proofs.Common.{◌≡◌, Bool, true, false, cond, not, refl, sym, ◌∙◌, ap, List}
use Rattle.std.proofs.Common.{[], ◌∷◌, ◌++◌, filter, Option, Some, None, is_some, All, Contains}
use Rattle.std.specs.Prelude.{find, option_map}
use Rattle.std.specs.List.{filter_map, cons_option}
use Rattle.std.specs.Str.{bytes_eq}
use Rattle.std.proofs.lemmas.Bool.{or_parts, or_from, or_left, or_right, true≢false}
use Rattle.std.proofs.lemmas.List.{map-append}
use Rattle.std.proofs.lemmas.List.Elements.{All-nil, All-cons, All-head, All-tail, All-map}
use Rattle.std.proofs.lemmas.List.Elements.{All-weaker}
use Rattle.std.proofs.lemmas.List.Elements.{Contains-push, Contains-append_left}
use Rattle.std.proofs.lemmas.List.Elements.{Contains-append_right}
use Rattle.std.proofs.lemmas.Option.{none-some}
use Rattle.std.proofs.lemmas.Slice.Eq.{bytes_eq-Decides}
use Rattle.token_text.specs.Names.{is_among, has_twice}
use Rattle.lgf_file.proofs.NameLists.{twice_push, apart_back}
use Rattle.plain_world.specs.Tables.{Name, Named, under, is_named, entry, has_entry, with_entry}
use Rattle.plain_world.specs.Tables.{with_change, without_entry, each_changed}
use Rattle.plain_world.specs.Valid.{NamesDiffer}
use Rattle.plain_world.proofs.Filtered.{names, differ_filter}

-- ---- names

-- a name without an entry is none of those of the table
pub lacks : {X : Type 0} (table : List (Named X)) (name : Name) → has_entry table name ≡ false
    → is_among name (names table) ≡ false
lacks [] name none = refl
lacks {X} (e ∷ es) name none =
    elim (bytes_eq e.name name) as (λ b. bytes_eq e.name name ≡ b
    → is_some (option_map (λ (e : Named X). e.value) (cond b (Some e) (find (is_named name) es)))
    ≡ false → is_among name (names (e ∷ es)) ≡ false) [
      | true ↦ λ same is. absurd (true≢false is)
      | false ↦ λ apart is.
          or_from (bytes_eq name e.name) (is_among name (names es))
          (apart_back e.name name apart) (lacks es name is)
    ] refl none

-- a name that has an entry is one of them
pub is_in_names : {X : Type 0} (table : List (Named X)) (name : Name) → has_entry table name ≡ true
    → is_among name (names table) ≡ true
is_in_names [] name some = absurd (true≢false (sym some))
is_in_names {X} (e ∷ es) name some =
    elim (bytes_eq e.name name) as (λ b. bytes_eq e.name name ≡ b
    → is_some (option_map (λ (e : Named X). e.value) (cond b (Some e) (find (is_named name) es)))
    ≡ true → is_among name (names (e ∷ es)) ≡ true) [
      | true ↦ λ same is.
          or_left (bytes_eq name e.name) (is_among name (names es))
          ((bytes_eq-Decides name e.name).1 (sym ((bytes_eq-Decides e.name name).0 same)))
      | false ↦ λ apart is.
          or_right (bytes_eq name e.name) (is_among name (names es)) (is_in_names es name is)
    ] refl some

pub names_push : {X : Type 0} (table : List (Named X)) (name : Name) (x : X)
    → names (with_entry table name x) ≡ names table ++ name ∷ []
names_push table name x = map-append (λ e. e.name) table (under name x ∷ [])

pub differ_push : {X : Type 0} (table : List (Named X)) (name : Name) (x : X)
    → NamesDiffer table → has_entry table name ≡ false → NamesDiffer (with_entry table name x)
differ_push table name x differ none =
    ap has_twice (names_push table name x)
    ∙ twice_push (names table) name differ (lacks table name none)

pub differ_without : {X : Type 0} (table : List (Named X)) (name : Name) → NamesDiffer table
    → NamesDiffer (without_entry table name)
differ_without table name differ = differ_filter (λ e. not (is_named name e)) table differ

pub names_change : {X : Type 0} (table : List (Named X)) (name : Name) (change : X → X)
    → names (with_change table name change) ≡ names table
names_change [] name change = refl
names_change {X} (e ∷ es) name change =
    let rest = names_change es name change in
    let here : (cond (is_named name e) (under e.name (change e.value)) e).name ≡ e.name =
    elim (is_named name e) as (λ b. (cond b (under e.name (change e.value)) e).name ≡ e.name) [
      | true ↦ refl
      | false ↦ refl
    ] in
    λ i. here i ∷ rest i

pub differ_change : {X : Type 0} (table : List (Named X)) (name : Name) (change : X → X)
    → NamesDiffer table → NamesDiffer (with_change table name change)
differ_change table name change differ = ap has_twice (names_change table name change) ∙ differ

-- ---- what holds of all

pub all_filter : {X : Type 0} (P : X → Type 0) (test : X → Bool) (xs : List X) → All P xs
    → All P (filter test xs)
all_filter P test [] all = All-nil P
all_filter P test (x ∷ xs) all =
    let rest = all_filter P test xs (All-tail P x xs all) in
    elim (test x) as (λ b. All P (cond b (x ∷ filter test xs) (filter test xs))) [
      | true ↦ All-cons P x (filter test xs) (All-head P x xs all) rest
      | false ↦ rest
    ]

pub all_change : {X : Type 0} (P : Named X → Type 0) (Q : Named X → Type 0) (table : List (Named X))
    (name : Name) (change : X → X) → All P table
    → ((e : Named X) → is_named name e ≡ true → P e → Q (under e.name (change e.value)))
    → ((e : Named X) → is_named name e ≡ false → P e → Q e)
    → All Q (with_change table name change)
all_change P Q table name change all changed kept =
    All-map Q (λ e. cond (is_named name e) (under e.name (change e.value)) e) table
    (All-weaker P (λ e. Q (cond (is_named name e) (under e.name (change e.value)) e))
    (λ e holds.
    elim (is_named name e) as (λ b. is_named name e ≡ b
    → Q (cond b (under e.name (change e.value)) e)) [
      | true ↦ λ is. changed e is holds
      | false ↦ λ is. kept e is holds
    ] refl) table all)

-- ---- tables of which some entries go

pub among_changed : {X : Type 0} (change : X → Option X) (name : Name) (es : List (Named X))
    → is_among name (names es) ≡ false → is_among name (names (each_changed change es)) ≡ false
among_changed change name [] none = refl
among_changed change name (e ∷ es) none =
    let parts = or_parts (bytes_eq name e.name) (is_among name (names es)) none in
    let left = each_changed change es in
    let rest = among_changed change name es parts.1 in
    elim (change e.value) as (λ o. is_among name
    (names (cons_option (option_map (under e.name) o) left)) ≡ false) [
      | None ↦ rest
      | Some x ↦ or_from (bytes_eq name e.name) (is_among name (names left)) parts.0 rest
    ]

pub differ_changed : {X : Type 0} (change : X → Option X) (table : List (Named X))
    → NamesDiffer table → NamesDiffer (each_changed change table)
differ_changed change [] differ = refl
differ_changed change (e ∷ es) differ =
    let parts = or_parts (is_among e.name (names es)) (has_twice (names es)) differ in
    let left = each_changed change es in
    let rest = differ_changed change es parts.1 in
    elim (change e.value) as (λ o. has_twice
    (names (cons_option (option_map (under e.name) o) left)) ≡ false) [
      | None ↦ rest
      | Some x ↦
          or_from (is_among e.name (names left)) (has_twice (names left))
          (among_changed change e.name es parts.0) rest
    ]

-- what holds of those that stay
pub all_changed : {X : Type 0} (P : Named X → Type 0) (Q : Named X → Type 0) (change : X → Option X)
    (table : List (Named X)) → All P table
    → ((e : Named X) (x : X) → P e → change e.value ≡ Some x → Q (under e.name x))
    → All Q (each_changed change table)
all_changed P Q change [] all holds = All-nil Q
all_changed P Q change (e ∷ es) all holds =
    let left = each_changed change es in
    let rest = all_changed P Q change es (All-tail P e es all) holds in
    elim (change e.value) as (λ o. change e.value ≡ o
    → All Q (cons_option (option_map (under e.name) o) left)) [
      | None ↦ λ is. rest
      | Some x ↦ λ is. All-cons Q (under e.name x) left (holds e x (All-head P e es all) is) rest
    ] refl

-- where none is found, all fail the test
pub all_fail : {X : Type 0} (test : X → Bool) (xs : List X) → find test xs ≡ None
    → All (λ x. test x ≡ false) xs
all_fail test [] none = All-nil (λ x. test x ≡ false)
all_fail test (x ∷ xs) none =
    elim (test x) as (λ b. test x ≡ b → cond b (Some x) (find test xs) ≡ None
    → All (λ x. test x ≡ false) (x ∷ xs)) [
      | true ↦ λ is found. absurd (none-some x (sym found))
      | false ↦ λ is found. All-cons (λ x. test x ≡ false) x xs is (all_fail test xs found)
    ] refl none

-- where names differ, each entry is the one of its name
pub own_entry : {X : Type 0} (table : List (Named X)) (name : Name) → NamesDiffer table
    → All (λ e. is_named name e ≡ true → entry table name ≡ Some e.value) table
own_entry {X} [] name differ =
    All-nil (λ (e : Named X). is_named name e ≡ true → entry [] name ≡ Some e.value)
own_entry {X} (e ∷ es) name differ =
    let parts = or_parts (is_among e.name (names es)) (has_twice (names es)) differ in
    let P : Named X → Type 0 = λ x. is_named name x ≡ true → entry (e ∷ es) name ≡ Some x.value in
    elim (bytes_eq e.name name) as (λ b. bytes_eq e.name name ≡ b → All P (e ∷ es)) [
      | true ↦ λ same.
          All-cons P e es
          (λ is. ap (λ b. option_map (λ (e : Named X). e.value)
          (cond b (Some e) (find (is_named name) es))) same)
          (All-weaker (λ x. bytes_eq e.name x.name ≡ false) P
          (λ x apart is. absurd (true≢false
          (sym ((bytes_eq-Decides e.name x.name).1 ((bytes_eq-Decides e.name name).0 same
          ∙ sym ((bytes_eq-Decides x.name name).0 is))) ∙ apart))) es
          (apart_from es e.name parts.0))
      | false ↦ λ apart.
          let skip : entry (e ∷ es) name ≡ entry es name = ap (λ b. option_map
          (λ (e : Named X). e.value) (cond b (Some e) (find (is_named name) es))) apart in
          All-cons P e es (λ is. absurd (true≢false (sym is ∙ apart)))
          (All-weaker (λ x. is_named name x ≡ true → entry es name ≡ Some x.value) P
          (λ x own is. skip ∙ own is) es (own_entry es name parts.1))
    ] refl
  where
    apart_from : {X : Type 0} (es : List (Named X)) (name : Name) → is_among name (names es) ≡ false
        → All (λ x. bytes_eq name x.name ≡ false) es
    apart_from {X} [] name none = All-nil (λ (x : Named X). bytes_eq name x.name ≡ false)
    apart_from {X} (e ∷ es) name none =
        let parts = or_parts (bytes_eq name e.name) (is_among name (names es)) none in
        All-cons (λ x. bytes_eq name x.name ≡ false) e es parts.0 (apart_from es name parts.1)

-- ---- entries of other names

pub other_change : {X : Type 0} (table : List (Named X)) (name : Name) (change : X → X)
    (other : Name) → bytes_eq name other ≡ false
    → entry (with_change table name change) other ≡ entry table other
other_change [] name change other apart = refl
other_change {X} (e ∷ es) name change other apart =
    let rest = other_change es name change other apart in
    let later = find (is_named other) (with_change es name change) in
    let value : Option (Named X) → Option X = option_map (λ (e : Named X). e.value) in
    elim (bytes_eq e.name name) as (λ b. bytes_eq e.name name ≡ b
    → value (cond (is_named other (cond b (under e.name (change e.value)) e))
    (Some (cond b (under e.name (change e.value)) e)) later)
    ≡ value (cond (bytes_eq e.name other) (Some e) (find (is_named other) es))) [
      | true ↦ λ same.
          let differs : bytes_eq e.name other ≡ false =
          ap (λ n. bytes_eq n other) ((bytes_eq-Decides e.name name).0 same) ∙ apart in
          ap (λ b. value (cond b (Some (under e.name (change e.value))) later)) differs
          ∙ (rest ∙ sym (ap (λ b. value (cond b (Some e) (find (is_named other) es))) differs))
      | false ↦ λ differs.
          elim (bytes_eq e.name other) as (λ c. value (cond c (Some e) later)
          ≡ value (cond c (Some e) (find (is_named other) es))) [ true ↦ refl | false ↦ rest ]
    ] refl

pub other_without : {X : Type 0} (table : List (Named X)) (name : Name) (other : Name)
    → bytes_eq name other ≡ false → entry (without_entry table name) other ≡ entry table other
other_without [] name other apart = refl
other_without {X} (e ∷ es) name other apart =
    let rest = other_without es name other apart in
    let value : Option (Named X) → Option X = option_map (λ (e : Named X). e.value) in
    let left = without_entry es name in
    elim (bytes_eq e.name name) as (λ b. bytes_eq e.name name ≡ b
    → value (find (is_named other) (cond (not b) (e ∷ left) left))
    ≡ value (cond (bytes_eq e.name other) (Some e) (find (is_named other) es))) [
      | true ↦ λ same.
          let differs : bytes_eq e.name other ≡ false =
          ap (λ n. bytes_eq n other) ((bytes_eq-Decides e.name name).0 same) ∙ apart in
          rest ∙ sym (ap (λ b. value (cond b (Some e) (find (is_named other) es))) differs)
      | false ↦ λ differs.
          elim (bytes_eq e.name other) as (λ c. value (cond c (Some e) (find (is_named other) left))
          ≡ value (cond c (Some e) (find (is_named other) es))) [ true ↦ refl | false ↦ rest ]
    ] refl

-- what is there stays where an entry is put behind
pub same_before : {X : Type 0} (table : List (Named X)) (name : Name) (x : X) (other : Name) (v : X)
    → entry table other ≡ Some v → entry (with_entry table name x) other ≡ Some v
same_before [] name x other v is = absurd (none-some v is)
same_before {X} (e ∷ es) name x other v is =
    let value : Option (Named X) → Option X = option_map (λ (e : Named X). e.value) in
    elim (bytes_eq e.name other) as (λ b. value (cond b (Some e) (find (is_named other) es))
    ≡ Some v
    → value (cond b (Some e) (find (is_named other) (with_entry es name x))) ≡ Some v) [
      | true ↦ λ found. found
      | false ↦ λ found. same_before es name x other v found
    ] is

-- ---- values that may be absent

-- what is in a part of a table is in the table
pub part_has : {X : Type 0} (test : Named (Option X) → Bool) (es : List (Named (Option X)))
    → All (λ c. Contains (filter_map (λ (e : Named (Option X)). e.value) es) c)
    (filter_map (λ (e : Named (Option X)). e.value) (filter test es))
part_has {X} test [] = All-nil (λ c. Contains (filter_map (λ (e : Named (Option X)). e.value) []) c)
part_has {X} test (e ∷ es) =
    let value : Named (Option X) → Option X = λ e. e.value in
    let all = filter_map value es in
    let some = filter_map value (filter test es) in
    let here : (o : Option X) → All (λ c. Contains (cons_option o all) c) some = λ o.
    All-weaker (λ c. Contains all c) (λ c. Contains (cons_option o all) c)
    (λ c at. behind o all c at) some (part_has test es) in
    elim (test e) as (λ b. All (λ c. Contains (cons_option e.value all) c)
    (filter_map value (cond b (e ∷ filter test es) (filter test es)))) [
      | true ↦ in_front e.value all some (here e.value)
      | false ↦ here e.value
    ]
  where
    behind : {X : Type 0} (o : Option X) (all : List X) (c : X) → Contains all c
        → Contains (cons_option o all) c
    behind None all c at = at
    behind (Some x) all c at = Contains-append_right (x ∷ []) all c at

    in_front : {X : Type 0} (o : Option X) (all some : List X)
        → All (λ c. Contains (cons_option o all) c) some
        → All (λ c. Contains (cons_option o all) c) (cons_option o some)
    in_front None all some rest = rest
    in_front (Some x) all some rest =
        All-cons (λ c. Contains (x ∷ all) c) x some
        (Contains-append_left (x ∷ []) all x (Contains-push [] x)) rest
