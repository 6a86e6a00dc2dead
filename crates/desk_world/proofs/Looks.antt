-- What is seen under a key after seats heard of something, came or went.
use Rattle.std.proofs.Common.{◌≡◌, ℕ, Bool, true, false, cond, List, [], ◌∷◌, ◌++◌, map, Option}
use Rattle.std.proofs.Common.{Some}
use Rattle.std.proofs.Common.{None, refl, sym, ap, ◌∙◌, inl, inr}
use Rattle.std.specs.Prelude.{◌==◌, option_map, option_and_then, ◌||◌}
use Rattle.std.specs.Option.{option_or}
use Rattle.std.proofs.lemmas.Bool.{cases_eq, eq-eqb, ne_eqb, true≢false}
use Rattle.std.proofs.lemmas.Option.{none-some}
use Rattle.plain_digraph.specs.Lists.{has}
use Rattle.plain_digraph.specs.Rising.{without_item}
use Rattle.observe_core.specs.declared.losses.Loss.{Loss}
use Rattle.observe_core.specs.Seen.{Seen}
use Rattle.observe_core.specs.Losses.{lost, leaves_at}
use Rattle.notify_chain.specs.Seats.{SeatSeen, seat_key, Each, Became, find_seat, put_seat}
use Rattle.notify_chain.specs.Leaving.{goes, stayers}
use Rattle.alter_graph.specs.Chains.{seats_heard}
use Rattle.desk_world.specs.Looks.{seen_at}
use Rattle.desk_world.specs.InStep.{Differ}

-- what was found under a key is seen there
pub seen_found : (key : ℕ) (ss : List SeatSeen)
    → option_map (λ (s : SeatSeen). s.seen) (find_seat key ss) ≡ seen_at key ss
seen_found key [] = refl
seen_found key (s ∷ ss) =
    let rest = seen_found key ss in
    elim (s.key == key) as (λ b. option_map (λ (s : SeatSeen). s.seen)
    (cond b (Some s) (find_seat key ss)) ≡ cond b (Some s.seen) (seen_at key ss)) [
      | true ↦ refl
      | false ↦ rest
    ]

pub seen_same : (key : ℕ) (xs ys : List SeatSeen) → Each (Became (λ s. s)) xs ys
    → seen_at key ys ≡ seen_at key xs
seen_same key [] [] each = refl
seen_same key [] (y ∷ ys) each = absurd each
seen_same key (x ∷ xs) [] each = absurd each
seen_same key (x ∷ xs) (y ∷ ys) each =
    let rest = seen_same key xs ys each.1 in
    λ i. cond (each.0.key i == key) (Some (each.0.seen i)) (rest i)

pub seen_heard : (g : Seen → Seen) (key : ℕ) (ss : List SeatSeen)
    → seen_at key (seats_heard g ss) ≡ option_map g (seen_at key ss)
seen_heard g key [] = refl
seen_heard g key (s ∷ ss) =
    let rest = seen_heard g key ss in
    elim (s.key == key) as (λ b. cond b (Some (g s.seen)) (seen_at key (seats_heard g ss))
    ≡ option_map g (cond b (Some s.seen) (seen_at key ss))) [
      | true ↦ refl
      | false ↦ rest
    ]

-- no seat has the key
abbrev pub lacks_key : ℕ → List SeatSeen → Bool
lacks_key key ss = has (map seat_key ss) key

pub lacks_seen : (key : ℕ) (ss : List SeatSeen) → lacks_key key ss ≡ false → seen_at key ss ≡ None
lacks_seen key [] lacks = refl
lacks_seen key (s ∷ ss) lacks =
    let rest = lacks_seen key ss in
    elim (s.key == key) as (λ b. (b || lacks_key key ss) ≡ false
    → cond b (Some s.seen) (seen_at key ss) ≡ None) [
      | true ↦ λ h. absurd (true≢false h)
      | false ↦ λ h. rest h
    ] lacks

seen_either : (g : Bool) (key : ℕ) (xs ys : List SeatSeen)
    → seen_at key (cond g xs ys) ≡ cond g (seen_at key xs) (seen_at key ys)
seen_either true key xs ys = refl
seen_either false key xs ys = refl

-- what becomes of an observer at a loss
abbrev pub after_loss : Loss → Seen → Option Seen
after_loss loss s = cond (goes (leaves_at loss s)) None (Some (lost loss s))

pub seen_lost : (loss : Loss) (key : ℕ) (ss : List SeatSeen) → Differ (map seat_key ss)
    → seen_at key (stayers loss ss) ≡ option_and_then (after_loss loss) (seen_at key ss)
seen_lost loss key [] differ = refl
seen_lost loss key (s ∷ ss) differ =
    let rest = seen_lost loss key ss differ.1 in
    elim (cases_eq s.key key) [
      | inl same ↦
          let gone : seen_at key ss ≡ None =
          lacks_seen key ss (ap (λ k. lacks_key k ss) (sym same) ∙ differ.0) in
          seen_either (goes (leaves_at loss s.seen)) key (stayers loss ss)
          ((record s { seen = lost loss s.seen }) ∷ stayers loss ss)
          ∙ ap (λ b. cond (goes (leaves_at loss s.seen)) (seen_at key (stayers loss ss))
          (cond b (Some (lost loss s.seen)) (seen_at key (stayers loss ss))))
          (eq-eqb s.key key same)
          ∙ ap (λ o. cond (goes (leaves_at loss s.seen)) o (Some (lost loss s.seen)))
          (rest ∙ ap (option_and_then (after_loss loss)) gone)
          ∙ sym (ap (λ b. option_and_then (after_loss loss)
          (cond b (Some s.seen) (seen_at key ss))) (eq-eqb s.key key same))
      | inr other ↦
          elim (goes (leaves_at loss s.seen)) as (λ g.
          seen_at key
          (cond g (stayers loss ss) ((record s { seen = lost loss s.seen }) ∷ stayers loss ss))
          ≡ option_and_then (after_loss loss)
          (cond (s.key == key) (Some s.seen) (seen_at key ss))) [
            | true ↦
                rest
                ∙ sym (ap (λ b. option_and_then (after_loss loss)
                (cond b (Some s.seen) (seen_at key ss))) (ne_eqb s.key key other))
            | false ↦
                ap (λ b. cond b (Some (lost loss s.seen)) (seen_at key (stayers loss ss)))
                (ne_eqb s.key key other)
                ∙ rest
                ∙ sym (ap (λ b. option_and_then (after_loss loss)
                (cond b (Some s.seen) (seen_at key ss))) (ne_eqb s.key key other))
          ]
    ]

-- a seat that comes last
pub seen_last : (key : ℕ) (ss : List SeatSeen) (t : SeatSeen)
    → seen_at key (ss ++ t ∷ [])
    ≡ option_or (seen_at key ss) (cond (t.key == key) (Some t.seen) None)
seen_last key [] t = refl
seen_last key (s ∷ ss) t =
    let rest = seen_last key ss t in
    elim (s.key == key) as (λ b. cond b (Some s.seen) (seen_at key (ss ++ t ∷ []))
    ≡ option_or (cond b (Some s.seen) (seen_at key ss)) (cond (t.key == key) (Some t.seen) None)) [
      | true ↦ refl
      | false ↦ rest
    ]

-- a seat that goes
pub seen_without : (gone key : ℕ) (ss : List SeatSeen) → (key ≡ gone → ⊥)
    → seen_at key (without_item seat_key gone ss) ≡ seen_at key ss
seen_without gone key [] other = refl
seen_without gone key (s ∷ ss) other =
    let rest = seen_without gone key ss other in
    elim (cases_eq s.key gone) [
      | inl same ↦
          ap (λ b. seen_at key (cond b (without_item seat_key gone ss)
          (s ∷ without_item seat_key gone ss))) (eq-eqb s.key gone same)
          ∙ rest
          ∙ sym (ap (λ b. cond b (Some s.seen) (seen_at key ss))
          (ne_eqb s.key key (λ e. other (sym e ∙ same))))
      | inr apart ↦
          ap (λ b. seen_at key (cond b (without_item seat_key gone ss)
          (s ∷ without_item seat_key gone ss))) (ne_eqb s.key gone apart)
          ∙ ap (cond (s.key == key) (Some s.seen)) rest
    ]

-- a seat in the place of another
pub seen_put_other : (t : SeatSeen) (key : ℕ) (ss : List SeatSeen) → (key ≡ t.key → ⊥)
    → seen_at key (put_seat t ss) ≡ seen_at key ss
seen_put_other t key [] other = refl
seen_put_other t key (s ∷ ss) other =
    let rest = seen_put_other t key ss other in
    elim (cases_eq s.key t.key) [
      | inl same ↦
          ap (λ b. seen_at key (cond b (t ∷ ss) (s ∷ put_seat t ss))) (eq-eqb s.key t.key same)
          ∙ ap (λ b. cond b (Some t.seen) (seen_at key ss)) (ne_eqb t.key key (λ e. other (sym e)))
          ∙ sym (ap (λ b. cond b (Some s.seen) (seen_at key ss))
          (ne_eqb s.key key (λ e. other (sym e ∙ same))))
      | inr apart ↦
          ap (λ b. seen_at key (cond b (t ∷ ss) (s ∷ put_seat t ss))) (ne_eqb s.key t.key apart)
          ∙ ap (cond (s.key == key) (Some s.seen)) rest
    ]

pub seen_put : (t : SeatSeen) (ss : List SeatSeen) (was : Seen) → seen_at t.key ss ≡ Some was
    → seen_at t.key (put_seat t ss) ≡ Some t.seen
seen_put t [] was at = absurd (none-some was at)
seen_put t (s ∷ ss) was at = elim (cases_eq s.key t.key) [
  | inl same ↦
      ap (λ b. seen_at t.key (cond b (t ∷ ss) (s ∷ put_seat t ss))) (eq-eqb s.key t.key same)
      ∙ ap (λ b. cond b (Some t.seen) (seen_at t.key ss)) (eq-eqb t.key t.key refl)
  | inr apart ↦
      let rest = seen_put t ss was
      (sym (ap (λ b. cond b (Some s.seen) (seen_at t.key ss)) (ne_eqb s.key t.key apart)) ∙ at) in
      ap (λ b. seen_at t.key (cond b (t ∷ ss) (s ∷ put_seat t ss))) (ne_eqb s.key t.key apart)
      ∙ ap (λ b. cond b (Some s.seen) (seen_at t.key (put_seat t ss))) (ne_eqb s.key t.key apart)
      ∙ rest
]
