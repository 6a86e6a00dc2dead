-- What is gathered of a digraph before an alteration.
use Rattle.std.proofs.Common.{◌≡◌, ℕ, zero, suc, ◌+◌, ◌==◌, [], ◌∷◌, ◌++◌, Option, Some}
use Rattle.std.proofs.Common.{sym, ap, subst, ◌∙◌, arith}
use Rattle.std.proofs.lemmas.List.Elements.{filter_map-append}
use Rattle.std.specs.Option.{option_map_or}
use Rattle.std.specs.List.{filter_map, cons_option, range_with_len}
use Rattle.std.specs.FinMap as fin
use Rattle.std.specs.Prelude.{not}
use Rattle.std.proofs.lemmas.Grind.{common_steps}
use Rattle.base_items.specs.declared.items.Fact.{Fact}
use Rattle.base_items.specs.declared.items.ItemSort.TheVariants as sorts
use Rattle.plain_digraph.specs.Digraph.{Digraph}
use Rattle.plain_digraph.specs.Items.{IsLive, source_of, target_of, stamp_of}
use Rattle.plain_digraph.specs.Alterations.{is_neither}
use Rattle.plain_digraph.specs.Valid.{IsValid}
use Rattle.plain_digraph.proofs.Undone.{told_parts}
use Rattle.alter_graph.specs.Present.{fact_at}
use Rattle.alter_graph.proofs.Listing.{live_told}

-- ---- the ends of a live arc

module _ (g : Digraph) (arc : ℕ) (valid : IsValid g) (live : IsLive g sorts.Arc arc) where
  abbrev was : Fact
  was = fact_at g sorts.Arc arc

  ends : fin.get g.ends arc ≡ Some (was.from, was.to)
  ends = (told_parts arc (fin.get g.ends arc) (stamp_of g.by_source arc) (stamp_of g.by_target arc)
      was (live_told g sorts.Arc valid arc live)).1

  pub source_is : (fact_at g sorts.Arc arc).from ≡ source_of g arc
  source_is = sym (ap (λ e. option_map_or (λ p. p.0) e 0) ends)

  pub target_is : (fact_at g sorts.Arc arc).to ≡ target_of g arc
  target_is = sym (ap (λ e. option_map_or (λ p. p.1) e 0) ends)

-- ---- one more of a list

range_more : (a n : ℕ) → range_with_len a (suc n) ≡ range_with_len a n ++ (a + n) ∷ []
range_more a zero = ap (λ m. m ∷ []) (omega arith)
range_more a (suc n) =
    let r = range_more (a + 1) n in
    let e : a + 1 + n ≡ a + suc n = omega arith in
    ap (λ l. a ∷ l) (r ∙ ap (λ m. range_with_len (a + 1) n ++ m ∷ []) e)

pub told_more : (told : ℕ → Option Fact) (n : ℕ)
    → filter_map told (range_with_len 0 (n + 1))
    ≡ filter_map told (range_with_len 0 n) ++ cons_option (told n) []
told_more told n =
    let one : n + 1 ≡ suc n = omega arith in
    let last : 0 + n ≡ n = omega arith in
    let e : range_with_len 0 (n + 1) ≡ range_with_len 0 n ++ n ∷ [] =
    ap (range_with_len 0) one ∙ range_more 0 n ∙ ap (λ m. range_with_len 0 n ++ m ∷ []) last in
    ap (filter_map told) e ∙ filter_map-append told (range_with_len 0 n) (n ∷ [])

pub is_neither_then : (u v end node : ℕ) → end ≡ node → (end ≡ u → ⊥)
    → not (end == v) ≡ is_neither u v node
is_neither_then u v end node e apart =
    subst (λ n. not (end == v) ≡ is_neither u v n) e (grind (arith, common_steps, apart))

pub is_neither_else : (u v end node : ℕ) → end ≡ node → end ≡ u
    → not (end == u) ≡ is_neither u v node
is_neither_else u v end node e same =
    subst (λ n. not (end == u) ≡ is_neither u v n) e (grind (arith, common_steps, same))
