-- What is told of degrees and of indexes.
use Rattle.std.proofs.Common.{◌≡◌, ℕ, true, false, List, sym, ap, subst}
use Rattle.std.proofs.Common.{Some, None, ◌∙◌}
use Rattle.std.specs.Prelude.{option_map}
use Rattle.std.specs.Fmt.{decimal}
use Rattle.std.specs.Option.{option_map_or}
use Rattle.std.proofs.lemmas.Option.{none-some, same_Some}
use Rattle.base_items.specs.declared.items.ItemSort.{ItemSort}
use Rattle.base_items.specs.declared.items.ItemSort.TheVariants as sorts
use Rattle.script_words.specs.declared.commands.Direction.{Direction}
use Rattle.plain_digraph.specs.Digraph.{Digraph}
use Rattle.plain_digraph.specs.Items.{facts}
use Rattle.observe_core.specs.Fits.{HeldFits}
use Rattle.observe_core.specs.Seen.{Seen, Watched}
use Rattle.notify_chain.specs.Seats.{find_seat, seat_seen}
use Rattle.alter_graph.specs.Chains.{ChainsSeen, chains_seen, seats_in}
use Rattle.index_maps.specs.Counted.{how_often}
use Rattle.plain_world.specs.Replies.{told_at, degree_of}
use Rattle.plain_world.specs.Tables.{Name, entry}
use Rattle.plain_world.specs.Values.{text_at, bool_at, bool_text}
use Rattle.plain_world.specs.World as plain
use Rattle.desk_seats.specs.Contents.{ends_in, ends_held}
use Rattle.desk_seats.specs.Forms.{HasForm, degrees_form}
use Rattle.desk_world.specs.declared.tables.MapKind.{MapKind}
use Rattle.desk_world.specs.declared.tables.MapKind.TheVariants as maps
use Rattle.desk_world.specs.declared.tables.MapRow.{MapRow}
use Rattle.desk_world.specs.declared.world.World.{World}
use Rattle.desk_world.specs.Claims.{Plays, role_of, is_out}
use Rattle.desk_world.specs.Derived.{IsIndexed, IsIndexOf}
use Rattle.desk_world.specs.InStep.{AreInStep, has_values}
use Rattle.desk_world.specs.Plain.{plain_of, look_of, tables_of, map_seen, held_by, seat_sort}
use Rattle.desk_world.proofs.AsMade.{as_ends}
use Rattle.desk_world.proofs.DegreeTold.{degree_told}
use Rattle.desk_world.proofs.LiveEntries.{stands}
use Rattle.desk_world.proofs.MapsFound.{Leads, leads_held, map_found}
use Rattle.desk_world.proofs.MapsRead.{IsRow, row_leads, of_value}
use Rattle.desk_world.proofs.Seated.{seen_there, none_there}
use Rattle.desk_world.proofs.SeatsHold.{indexes_are}

module _ {O : Type 0} (watch : O → Watched) (w : World O) (in_step : AreInStep watch w)
    (sort : ItemSort) (row : MapRow) (listed : IsRow watch w sort row) where
  abbrev world : plain.World
  world = plain_of watch w

  abbrev graph : Digraph
  graph = w.graph.graph.graph

  abbrev c : ChainsSeen
  c = chains_seen watch w.graph.chains

  leads : Leads (look_of watch w) sort row
  leads = row_leads watch w sort row in_step listed

  -- what is told of the map is told of what its kind says
  told_by : (kind : MapKind) → row.kind ≡ kind → (id : ℕ)
      → option_map (λ h. told_at world sort h id) (map_seen (look_of watch w) sort row)
      ≡ Some (told_at world sort (held_by kind leads.seen.held) id)
  told_by kind is id =
      ap (option_map (λ h. told_at world sort h id)) (leads_held (look_of watch w) sort row leads)
      ∙ ap (λ k. Some (told_at world sort (held_by k leads.seen.held) id)) is

  -- ---- degrees

  module _ (way : Direction) (is : row.kind ≡ maps.Degrees way) where
    there : look_of watch w sorts.Arc row.key.0 ≡ Some leads.seen
    there = subst (λ k. look_of watch w (seat_sort sort k) row.key.0 ≡ Some leads.seen) is
        leads.there

    -- the key of degrees has a seat
    pub degree_seated : None ≡ find_seat row.key.0 (seats_in sorts.Arc c) → ⊥
    degree_seated none =
        none-some leads.seen (sym (none_there watch c sorts.Arc row.key.0 none) ∙ there)

    module _ (seat : O) (at : seat_seen watch row.key.0 (Some seat)
        ≡ find_seat row.key.0 (seats_in sorts.Arc c)) where
      abbrev s : Seen
      s = (watch seat).seen

      same : leads.seen ≡ s
      same = same_Some leads.seen s (sym there ∙ seen_there watch c sorts.Arc row.key.0 seat at)

      plays : Plays (role_of (maps.Degrees way)) s
      plays = subst (λ k. Plays (role_of k) s) is
          (subst (Plays (role_of row.kind)) same leads.plays)

      pub degree_form : HasForm degrees_form (watch seat)
      degree_form = plays.form

      counted : (node : ℕ) → how_often node (ends_in s) ≡ degree_of graph way node
      counted node =
          let made = as_ends (is_out way) s.held plays.making in
          let fits = (stands watch w in_step sorts.Arc row.key.0 s
          (seen_there watch c sorts.Arc row.key.0 seat at)).held in
          ap (λ h. how_often node (ends_held h)) made.is
          ∙ subst (λ h. HeldFits h (facts graph sorts.Arc)) made.is fits node
          ∙ degree_told graph way node in_step.graph.valid

      -- what it counts is told
      pub degree_at : (node : ℕ)
          → option_map (λ h. told_at world sort h node) (map_seen (look_of watch w) sort row)
          ≡ Some (decimal (how_often node (ends_in s)))
      degree_at node =
          told_by (maps.Degrees way) is node ∙ ap (λ n. Some (decimal n)) (sym (counted node))

  -- ---- indexes

  module _ (source : Name) (is : row.kind ≡ maps.Trues source) where
    pub indexed_row : IsIndexOf (look_of watch w sort) (tables_of w sort).maps.rows source
        row.key.0
    indexed_row =
        subst (λ k. IsIndexed (look_of watch w sort) (tables_of w sort).maps.rows k row.key.0) is
        (of_value (λ (r : MapRow). IsIndexed (look_of watch w sort) (tables_of w sort).maps.rows
        r.kind r.key.0) (tables_of w sort).maps.rows row (indexes_are watch w in_step sort) listed)

    -- its map is in the table
    pub source_there : entry (tables_of w sort).maps.rows source ≡ None → ⊥
    source_there none = none-some indexed_row.source (sym none ∙ indexed_row.found)

    module _ (from : MapRow) (found : entry (tables_of w sort).maps.rows source ≡ Some from) where
      kind : from.kind ≡ maps.Bools
      kind = ap (λ (r : MapRow). r.kind)
          (same_Some from indexed_row.source (sym found ∙ indexed_row.found)) ∙ indexed_row.bools

      -- and is one of values
      pub source_values : has_values from.kind ≡ true
      source_values = ap has_values kind

      -- what it has is told
      pub source_at : (id : ℕ) (text : List ℕ)
          → option_map (λ (h : plain.Held). text_at h id) (map_seen (look_of watch w) sort from)
          ≡ Some text
          → option_map (λ h. told_at world sort h id) (map_seen (look_of watch w) sort row)
          ≡ Some text
      source_at id text at =
          let has = map_found watch w in_step sort source from found in
          let held : plain.Held = held_by maps.Bools has.leads.seen.held in
          let of_kind = ap (λ k. held_by k has.leads.seen.held) kind in
          told_by (maps.Trues source) is id
          ∙ ap (λ o. Some (bool_text (option_map_or (λ h. bool_at h id) o false)))
          (has.held ∙ ap Some of_kind)
          ∙ sym (ap (option_map (λ (h : plain.Held). text_at h id))
          (leads_held (look_of watch w) sort from has.leads ∙ ap Some of_kind))
          ∙ at
