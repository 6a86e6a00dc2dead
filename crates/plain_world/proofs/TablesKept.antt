-- Commands that change a table of guards, snapshots, views or attributes, or a label.
use Rattle.std.proofs.Common.{◌≡◌, ℕ, Bool, true, false, cond, not, refl, sym, ◌∙◌, ap, subst}
use Rattle.std.proofs.Common.{List, [], ◌∷◌, ◌++◌, Option, None, Some, is_some, All, Contains}
use Rattle.std.proofs.Common.{inl, inr, arith}
use Rattle.std.specs.Prelude.{find, unwrap_or, option_and_then, ◌||◌, ◌==◌, ◌⊎◌}
use Rattle.std.specs.List.{filter_map, cons_option}
use Rattle.std.specs.Str.{bytes_eq}
use Rattle.std.proofs.lemmas.Bool.{true≢false, or_cases, or_left, or_right, eq-eqb}
use Rattle.std.proofs.lemmas.List.Elements.{All-push, All-head, All-tail, All-contains}
use Rattle.std.proofs.lemmas.List.Elements.{Contains-push_cases, All-nil}
use Rattle.std.proofs.lemmas.List.Elements.{All-cons}
use Rattle.std.proofs.lemmas.List.Elements.{filter_map-append}
use Rattle.std.proofs.lemmas.Slice.Eq.{bytes_eq-Decides}
use Rattle.std.proofs.lemmas.Option.{none-some}
use Rattle.base_items.specs.declared.items.ItemSort.{ItemSort}
use Rattle.base_items.specs.declared.items.ItemSort.TheVariants.{Node, Arc}
use Rattle.plain_digraph.specs.Lists.{has}
use Rattle.plain_world.proofs.Named.{listed_live}
use Rattle.token_text.specs.Names.{is_among}
use Rattle.script_words.specs.declared.commands.GuardWord.{GuardWord}
use Rattle.script_words.specs.declared.commands.GuardWord.TheVariants as kinds
use Rattle.script_words.specs.declared.commands.LayerWord.{LayerWord}
use Rattle.script_words.specs.declared.commands.Command.TheVariants as commands
use Rattle.script_words.specs.Valid as script
use Rattle.report_text.specs.declared.faults.Fault.{Fault}
use Rattle.plain_digraph.specs.Digraph.{Digraph}
use Rattle.plain_digraph.specs.Items.{IsLive, facts}
use Rattle.plain_digraph.specs.Copies.{Copy, copy_of}
use Rattle.plain_digraph.specs.Valid as digraph
use Rattle.plain_world.specs.Tables.{Name, Named, under, is_named, entry, has_entry, with_entry}
use Rattle.plain_world.specs.Tables.{with_change, without_entry}
use Rattle.plain_world.specs.World.{World, View, Attribute, Plain, Tied, live, label_of}
use Rattle.plain_world.specs.Views.{base, is_base}
use Rattle.plain_world.specs.Demands.{item_named}
use Rattle.plain_world.specs.Altering.{item_at}
use Rattle.plain_world.specs.Refusals.{law_holds, unless, unlabelled}
use Rattle.plain_world.specs.Effects.{armed, tied, attribute_text, after_command}
use Rattle.plain_world.specs.Valid.{IsCopy, IsSnapshot, CopiesAgree, StampsAgree}
use Rattle.plain_world.specs.Valid.{StandOnOlder, IsAttribute, HasLeft}
use Rattle.plain_world.proofs.TableChanges.{differ_push, differ_without, differ_change, all_filter}
use Rattle.plain_world.proofs.TableChanges.{all_change, all_fail, own_entry, is_in_names, part_has}
use Rattle.plain_world.proofs.CopyStamps.{copy_ok, copy_agrees, own_agrees, turned_round}
use Rattle.plain_world.proofs.WorldParts.{Parts, GuardOk, LayerOk}
use Rattle.plain_world.proofs.Filtered.{names}

-- ---- guards

left_in : (sort : ItemSort) (kind : GuardWord) (number : Option ℕ) → script.IsGuard sort kind number
    → HasLeft kind (armed sort kind (unwrap_or number 0))
left_in sort kinds.Quota number valid = refl
left_in sort kinds.Loopless number valid = refl
left_in sort kinds.Simple number valid = refl
left_in sort kinds.OutCap number valid = refl
left_in sort kinds.Tally number valid = refl
left_in sort kinds.Fuse (Some number) valid = let low = valid.0 in (omega (arith, low), omega arith)
left_in Node kinds.Fuse None valid = absurd valid
left_in Arc kinds.Fuse None valid = absurd valid

pub guard_kept : (w : World) (guard : Name) (sort : ItemSort) (kind : GuardWord) (number : Option ℕ)
    → Parts w → script.IsGuard sort kind number → has_entry w.guards guard ≡ false
    → law_holds kind (unwrap_or number 0) (facts w.graph sort) ≡ true
    → Parts (after_command w (commands.Guard guard sort kind number))
guard_kept w guard sort kind number ok valid new law = record {
  graph_ok = ok.graph_ok;
  nodes_ok = ok.nodes_ok;
  arcs_ok = ok.arcs_ok;
  guards_ok = All-push (λ e. GuardOk w.graph e.value) w.guards
      (under guard (armed sort kind (unwrap_or number 0))) ok.guards_ok
      (law, left_in sort kind number valid);
  snapshots_ok = ok.snapshots_ok;
  copies_agree = ok.copies_agree;
  views_stand = ok.views_stand;
  layers_ok = ok.layers_ok;
  attributes_ok = ok.attributes_ok;
  guards_differ = differ_push w.guards guard (armed sort kind (unwrap_or number 0))
      ok.guards_differ new;
  snapshots_differ = ok.snapshots_differ;
  views_differ = ok.views_differ;
  attributes_differ = ok.attributes_differ;
}

pub unguard_kept : (w : World) (guard : Name) → Parts w
    → Parts (after_command w (commands.Unguard guard))
unguard_kept w guard ok = record {
  graph_ok = ok.graph_ok;
  nodes_ok = ok.nodes_ok;
  arcs_ok = ok.arcs_ok;
  guards_ok = all_filter (λ e. GuardOk w.graph e.value) (λ e. not (is_named guard e)) w.guards
      ok.guards_ok;
  snapshots_ok = ok.snapshots_ok;
  copies_agree = ok.copies_agree;
  views_stand = ok.views_stand;
  layers_ok = ok.layers_ok;
  attributes_ok = ok.attributes_ok;
  guards_differ = differ_without w.guards guard ok.guards_differ;
  snapshots_differ = ok.snapshots_differ;
  views_differ = ok.views_differ;
  attributes_differ = ok.attributes_differ;
}

-- ---- snapshots

abbrev value_of : Named (Option Copy) → Option Copy
value_of e = e.value

-- the copies of the valid snapshots
copies_ok : (g : Digraph) (snapshots : List (Named (Option Copy)))
    → All (λ e. IsSnapshot g e.value) snapshots → All (IsCopy g) (filter_map value_of snapshots)
copies_ok g [] all = All-nil (IsCopy g)
copies_ok g (e ∷ es) all =
    by_value e.value (All-head (λ e. IsSnapshot g e.value) e es all)
    (copies_ok g es (All-tail (λ e. IsSnapshot g e.value) e es all))
  where
    by_value : (o : Option Copy) → IsSnapshot g o → All (IsCopy g) (filter_map value_of es)
        → All (IsCopy g) (cons_option o (filter_map value_of es))
    by_value None is rest = rest
    by_value (Some copy) is rest = All-cons (IsCopy g) copy (filter_map value_of es) is rest

pub snap_kept : (w : World) (snapshot : Name) → Parts w → has_entry w.snapshots snapshot ≡ false
    → Parts (after_command w (commands.Snap snapshot))
snap_kept w snapshot ok new =
    let g = w.graph in
    let made = copy_of g in
    let is_copy = copy_ok g ok.graph_ok in
    let older = filter_map value_of w.snapshots in
    let all : All (IsCopy g) older = copies_ok g w.snapshots ok.snapshots_ok in
    let copies : filter_map value_of (with_entry w.snapshots snapshot (Some made))
    ≡ older ++ made ∷ [] = filter_map-append value_of w.snapshots
    (under snapshot (Some made) ∷ []) in
    let old : (c : Copy) → Contains older c → IsCopy g c = λ c at.
    All-contains (IsCopy g) older c all at in
    record {
      graph_ok = ok.graph_ok;
      nodes_ok = ok.nodes_ok;
      arcs_ok = ok.arcs_ok;
      guards_ok = ok.guards_ok;
      snapshots_ok = All-push (λ e. IsSnapshot g e.value) w.snapshots (under snapshot (Some made))
          ok.snapshots_ok is_copy;
      copies_agree = subst CopiesAgree (sym copies) (λ copy other is also.
          elim (Contains-push_cases older made copy is) [
            | inl before ↦ elim (Contains-push_cases older made other also) [
              | inl too ↦ ok.copies_agree copy other before too
              | inr same ↦ subst (λ c. StampsAgree copy.by_source c.by_source
                  × StampsAgree copy.by_target c.by_target) same (
                    (copy_agrees g copy ok.graph_ok (old copy before)).0,
                    (copy_agrees g copy ok.graph_ok (old copy before)).1,
                  )
            ]
            | inr here ↦ elim (Contains-push_cases older made other also) [
              | inl too ↦ subst (λ c. StampsAgree c.by_source other.by_source
                  × StampsAgree c.by_target other.by_target) here (
                    turned_round other.by_source g.by_source
                        (copy_agrees g other ok.graph_ok (old other too)).0,
                    turned_round other.by_target g.by_target
                        (copy_agrees g other ok.graph_ok (old other too)).1,
                  )
              | inr same ↦ subst (λ c. StampsAgree c.by_source other.by_source
                  × StampsAgree c.by_target other.by_target) here
                  (subst (λ c. StampsAgree made.by_source c.by_source
                  × StampsAgree made.by_target c.by_target) same
                  (own_agrees g ok.graph_ok))
            ]
          ]);
      views_stand = ok.views_stand;
      layers_ok = ok.layers_ok;
      attributes_ok = ok.attributes_ok;
      guards_differ = ok.guards_differ;
      snapshots_differ = differ_push w.snapshots snapshot (Some made) ok.snapshots_differ new;
      views_differ = ok.views_differ;
      attributes_differ = ok.attributes_differ;
    }

pub forget_kept : (w : World) (snapshot : Name) → Parts w
    → Parts (after_command w (commands.Forget snapshot))
forget_kept w snapshot ok = record {
  graph_ok = ok.graph_ok;
  nodes_ok = ok.nodes_ok;
  arcs_ok = ok.arcs_ok;
  guards_ok = ok.guards_ok;
  snapshots_ok = all_filter (λ e. IsSnapshot w.graph e.value) (λ e. not (is_named snapshot e))
      w.snapshots ok.snapshots_ok;
  copies_agree =
      let value : Named (Option Copy) → Option Copy = λ e. e.value in
      let left = filter_map value (without_entry w.snapshots snapshot) in
      let part = part_has (λ e. not (is_named snapshot e)) w.snapshots in
      let has : (c : Copy) → Contains left c → Contains (filter_map value w.snapshots) c = λ c at.
      All-contains (λ c. Contains (filter_map value w.snapshots) c) left c part at in
      λ copy other is also. ok.copies_agree copy other (has copy is) (has other also);
  views_stand = ok.views_stand;
  layers_ok = ok.layers_ok;
  attributes_ok = ok.attributes_ok;
  guards_differ = ok.guards_differ;
  snapshots_differ = differ_without w.snapshots snapshot ok.snapshots_differ;
  views_differ = ok.views_differ;
  attributes_differ = ok.attributes_differ;
}

-- ---- views

stand_push : (older : List Name) (views : List (Named View)) (view : Name) (made : View)
    → StandOnOlder older views
    → (is_among made.below older ≡ true) ⊎ (is_among made.below (names views) ≡ true)
    → StandOnOlder older (with_entry views view made)
stand_push older [] view made stand (inl at) = (at, tt)
stand_push older [] view made stand (inr at) = absurd (true≢false (sym at))
stand_push older (e ∷ es) view made stand (inl at) = (
  stand.0,
  stand_push (e.name ∷ older) es view made stand.1
      (inl (or_right (bytes_eq made.below e.name) (is_among made.below older) at)),
)
stand_push older (e ∷ es) view made stand (inr at) = (
  stand.0,
  stand_push (e.name ∷ older) es view made stand.1
      (elim (or_cases (bytes_eq made.below e.name) (is_among made.below (names es)) at) [
        | inl same ↦ inl (or_left (bytes_eq made.below e.name) (is_among made.below older) same)
        | inr later ↦ inr later
      ]),
)

pub view_kept : (w : World) (view below : Name) (layer : LayerWord) → Parts w
    → (is_base below || has_entry w.views below) ≡ true → has_entry w.views view ≡ false
    → LayerOk w.nodes.maps w.arcs.maps layer
    → Parts (after_command w (commands.View view layer below))
view_kept w view below layer ok there new layer_ok =
    let made : View = record { layer = layer; below = below; kept = false } in
    record {
      graph_ok = ok.graph_ok;
      nodes_ok = ok.nodes_ok;
      arcs_ok = ok.arcs_ok;
      guards_ok = ok.guards_ok;
      snapshots_ok = ok.snapshots_ok;
      copies_agree = ok.copies_agree;
      views_stand = stand_push (base ∷ []) w.views view made ok.views_stand
          (elim (or_cases (is_base below) (has_entry w.views below) there) [
            | inl is ↦ inl (or_left (is_base below) false is)
            | inr is ↦ inr (is_in_names w.views below is)
          ]);
      layers_ok = All-push (λ e. LayerOk w.nodes.maps w.arcs.maps e.value.layer) w.views
          (under view made) ok.layers_ok layer_ok;
      attributes_ok = ok.attributes_ok;
      guards_differ = ok.guards_differ;
      snapshots_differ = ok.snapshots_differ;
      views_differ = differ_push w.views view made ok.views_differ new;
      attributes_differ = ok.attributes_differ;
    }

abbrev kept_view : View → View
kept_view v = record v { kept = true }

stand_change : (older : List Name) (views : List (Named View)) (view : Name)
    → StandOnOlder older views → StandOnOlder older (with_change views view kept_view)
stand_change older [] view stand = tt
stand_change older (e ∷ es) view stand =
    let rest = stand_change (e.name ∷ older) es view stand.1 in
    let changed = with_change es view kept_view in
    elim (is_named view e) as (λ b.
    (is_among (cond b (under e.name (kept_view e.value)) e).value.below older ≡ true)
    × StandOnOlder ((cond b (under e.name (kept_view e.value)) e).name ∷ older) changed) [
      | true ↦ (stand.0, rest)
      | false ↦ (stand.0, rest)
    ]

pub keep_kept : (w : World) (view : Name) → Parts w → Parts (after_command w (commands.Keep view))
keep_kept w view ok =
    let P : Named View → Type 0 = λ e. LayerOk w.nodes.maps w.arcs.maps e.value.layer in
    record {
      graph_ok = ok.graph_ok;
      nodes_ok = ok.nodes_ok;
      arcs_ok = ok.arcs_ok;
      guards_ok = ok.guards_ok;
      snapshots_ok = ok.snapshots_ok;
      copies_agree = ok.copies_agree;
      views_stand = stand_change (base ∷ []) w.views view ok.views_stand;
      layers_ok = all_change P P w.views view kept_view ok.layers_ok (λ e is holds. holds)
          (λ e is holds. holds);
      attributes_ok = ok.attributes_ok;
      guards_differ = ok.guards_differ;
      snapshots_differ = ok.snapshots_differ;
      views_differ = differ_change w.views view kept_view ok.views_differ;
      attributes_differ = ok.attributes_differ;
    }

stand_without : (older fewer : List Name) (views : List (Named View)) (view : Name)
    → ((n : Name) → bytes_eq n view ≡ false → is_among n older ≡ true → is_among n fewer ≡ true)
    → All (λ e. bytes_eq e.value.below view ≡ false) views → StandOnOlder older views
    → StandOnOlder fewer (without_entry views view)
stand_without older fewer [] view sub all stand = tt
stand_without older fewer (e ∷ es) view sub all stand =
    let P : Named View → Type 0 = λ e. bytes_eq e.value.below view ≡ false in
    let rest = All-tail P e es all in
    let head = All-head P e es all in
    let without = stand_without (e.name ∷ older) fewer es view in
    let with_it = stand_without (e.name ∷ older) (e.name ∷ fewer) es view
    (λ n apart at. elim (or_cases (bytes_eq n e.name) (is_among n older) at) [
      | inl same ↦ or_left (bytes_eq n e.name) (is_among n fewer) same
      | inr later ↦ or_right (bytes_eq n e.name) (is_among n fewer) (sub n apart later)
    ]) rest stand.1 in
    elim (bytes_eq e.name view) as (λ b. bytes_eq e.name view ≡ b
    → StandOnOlder fewer (cond (not b) (e ∷ without_entry es view) (without_entry es view))) [
      | true ↦ λ is.
          without (λ n apart at. elim (or_cases (bytes_eq n e.name) (is_among n older) at) [
            | inl same ↦ absurd (true≢false
                (sym (ap (λ m. bytes_eq m view) ((bytes_eq-Decides n e.name).0 same) ∙ is) ∙ apart))
            | inr later ↦ sub n apart later
          ]) rest stand.1
      | false ↦ λ is. (sub e.value.below head stand.0, with_it)
    ] refl

pub unview_kept : (w : World) (view : Name) → Parts w
    → find (λ (e : Named View). bytes_eq e.value.below view) w.views ≡ None
    → Parts (after_command w (commands.Unview view))
unview_kept w view ok none =
    record {
      graph_ok = ok.graph_ok;
      nodes_ok = ok.nodes_ok;
      arcs_ok = ok.arcs_ok;
      guards_ok = ok.guards_ok;
      snapshots_ok = ok.snapshots_ok;
      copies_agree = ok.copies_agree;
      views_stand = stand_without (base ∷ []) (base ∷ []) w.views view (λ n apart at. at)
          (all_fail (λ (e : Named View). bytes_eq e.value.below view) w.views none) ok.views_stand;
      layers_ok = all_filter (λ e. LayerOk w.nodes.maps w.arcs.maps e.value.layer)
          (λ e. not (is_named view e)) w.views ok.layers_ok;
      attributes_ok = ok.attributes_ok;
      guards_differ = ok.guards_differ;
      snapshots_differ = ok.snapshots_differ;
      views_differ = differ_without w.views view ok.views_differ;
      attributes_differ = ok.attributes_differ;
    }

-- ---- attributes

found_has : (test : ℕ → Bool) (xs : List ℕ) → is_some (find test xs) ≡ true
    → has xs (unwrap_or (find test xs) 0) ≡ true
found_has test [] some = absurd (true≢false (sym some))
found_has test (x ∷ xs) some =
    let rest = found_has test xs in
    elim (test x) as (λ b. is_some (cond b (Some x) (find test xs)) ≡ true
    → has (x ∷ xs) (unwrap_or (cond b (Some x) (find test xs)) 0) ≡ true) [
      | true ↦ λ is. or_left (x == x) (has xs x) (eq-eqb x x refl)
      | false ↦ λ is. or_right (x == unwrap_or (find test xs) 0)
          (has xs (unwrap_or (find test xs) 0)) (rest is)
    ] some

-- an item that is found by its label is live
pub named_live : (w : World) (sort : ItemSort) (name : Name) → digraph.IsValid w.graph
    → is_some (item_named w sort name) ≡ true → IsLive w.graph sort (item_at w sort name)
named_live w sort name valid some =
    listed_live w sort (item_at w sort name) valid
    (found_has (λ id. bytes_eq (label_of w sort id) name) (live w sort) some)

attributes_with : (w : World) (attribute : Name) (change : Attribute → Attribute) → Parts w
    → All (λ e. IsAttribute w.graph e.value) (with_change w.attributes attribute change)
    → Parts (record w { attributes = with_change w.attributes attribute change })
attributes_with w attribute change ok all = record {
  graph_ok = ok.graph_ok;
  nodes_ok = ok.nodes_ok;
  arcs_ok = ok.arcs_ok;
  guards_ok = ok.guards_ok;
  snapshots_ok = ok.snapshots_ok;
  copies_agree = ok.copies_agree;
  views_stand = ok.views_stand;
  layers_ok = ok.layers_ok;
  attributes_ok = all;
  guards_differ = ok.guards_differ;
  snapshots_differ = ok.snapshots_differ;
  views_differ = ok.views_differ;
  attributes_differ = differ_change w.attributes attribute change ok.attributes_differ;
}

met : (test : Bool) (fault : Fault) → unless test fault ≡ None → test ≡ true
met true fault none = refl
met false fault none = absurd (none-some fault (sym none))

pub tie_kept : (w : World) (attribute : Name) (sort : ItemSort) → Parts w
    → option_and_then (unlabelled w sort attribute) (entry w.attributes attribute) ≡ None
    → Parts (after_command w (commands.Tie attribute sort))
tie_kept w attribute sort ok none =
    let P : Named Attribute → Type 0 = λ e. IsAttribute w.graph e.value in
    let own = own_entry w.attributes attribute ok.attributes_differ in
    let R : Named Attribute → Type 0 = λ e. IsAttribute w.graph e.value
    × (is_named attribute e ≡ true → entry w.attributes attribute ≡ Some e.value) in
    attributes_with w attribute (tied w sort) ok
    (all_change R P w.attributes attribute (tied w sort)
    (λ k d within. (ok.attributes_ok k d within, own k d within))
    (λ e is holds. by_value e.value holds.0 (holds.1 is)) (λ e is holds. holds.0))
  where
    by_value : (value : Attribute) → IsAttribute w.graph value
        → entry w.attributes attribute ≡ Some value → IsAttribute w.graph (tied w sort value)
    by_value (Tied other id) holds is = holds
    by_value (Plain text) holds is =
        named_live w sort text ok.graph_ok
        (met _ _ (sym (ap (option_and_then (unlabelled w sort attribute)) is) ∙ none))

pub untie_kept : (w : World) (attribute : Name) → Parts w
    → Parts (after_command w (commands.Untie attribute))
untie_kept w attribute ok =
    let P : Named Attribute → Type 0 = λ e. IsAttribute w.graph e.value in
    attributes_with w attribute (λ value. Plain (attribute_text w value)) ok
    (all_change P P w.attributes attribute (λ value. Plain (attribute_text w value))
    ok.attributes_ok (λ e is holds. tt) (λ e is holds. holds))
