-- A seat that was written to.
use Rattle.std.proofs.Common.{◌≡◌, ℕ, true, false, cond, List, [], ◌∷◌, ◌++◌, refl, sym, ap, subst}
use Rattle.std.proofs.Common.{Some, None, ◌∙◌}
use Rattle.std.specs.Prelude.{◌==◌}
use Rattle.std.proofs.lemmas.Bool.{eq-eqb}
use Rattle.std.proofs.lemmas.Option.{none-some, same_Some}
use Rattle.base_items.specs.declared.items.ItemSort.{ItemSort}
use Rattle.base_items.specs.declared.items.ItemSort.TheVariants as sorts
use Rattle.plain_digraph.specs.Lists.{AllOf}
use Rattle.observe_core.specs.Held.{Held, making_of}
use Rattle.observe_core.specs.Seen.{Seen, Watched}
use Rattle.notify_chain.specs.Seats.{SeatSeen, find_seat, seat_from, put_seat}
use Rattle.alter_graph.specs.Attaching.{with_seats}
use Rattle.alter_graph.specs.Chains.{ChainsSeen, chains_seen, seats_in, in_chain}
use Rattle.alter_graph.specs.Lending.{MayWrite, graph_with}
use Rattle.alter_graph.specs.State.{AlterOf}
use Rattle.desk_seats.specs.Contents.{holding}
use Rattle.desk_world.specs.Claims as claims
use Rattle.desk_world.specs.Claims.{Claim, Role, Plays}
use Rattle.desk_world.specs.InStep.{AreSeated}
use Rattle.desk_world.specs.Looks.{look_in}
use Rattle.desk_world.specs.Seating.{Comes, Puts}
use Rattle.desk_world.proofs.ClaimsCame.{look_comes}
use Rattle.desk_world.proofs.Following.{chain_here}
use Rattle.desk_world.proofs.Relabelled.{Agrees}
use Rattle.desk_world.proofs.Seated.{all_so}
use Rattle.desk_world.proofs.Written.{IsElsewhere, look_put, look_elsewhere, seats_stay}

module _ (sort : ItemSort) (key : ℕ) (change : Seen → Held) (c d : ChainsSeen)
    (puts : Puts sort key change c d) where
  abbrev t : SeatSeen
  t = puts.seat

  here : look_in c sort t.key ≡ Some puts.was
  here = ap (look_in c sort) puts.name ∙ puts.found

  -- what is seen in it now
  pub seen_put : look_in d sort key ≡ Some (holding (change puts.was) puts.was)
  seen_put =
      (λ i. look_in (puts.is i) sort (sym puts.name i))
      ∙ look_put sort t puts.was c here ∙ ap Some puts.seen

  -- all other seats show what they showed
  pub elsewhere_put : (x : Claim) → IsElsewhere sort key x → Agrees (look_in c) (look_in d) x
  elsewhere_put x apart =
      ap (λ c. look_in c x.sort x.key) puts.is
      ∙ look_elsewhere sort t puts.was c here x
      (subst (λ k. IsElsewhere sort k x) (sym puts.name) apart)

  pub all_elsewhere : (list : List Claim) → AllOf (IsElsewhere sort key) list
      → AllOf (Agrees (look_in c) (look_in d)) list
  all_elsewhere list = all_so (IsElsewhere sort key) (Agrees (look_in c) (look_in d))
      elsewhere_put list

  -- the claims stay, where what is held was made in the same way
  pub seated_put : making_of (change puts.was) ≡ making_of puts.was.held → (list : List Claim)
      → AreSeated list c → AreSeated list d
  seated_put made list seated =
      subst (AreSeated list) (sym puts.is)
      (seats_stay sort t puts.was c here list same_role
      (ap (λ (s : Seen). claims.is_map s.kind) puts.seen) seated)
    where
      same_role : (role : Role) → Plays role puts.was → Plays role t.seen
      same_role role plays = record {
        form = ap (λ (s : Seen). s.form) puts.seen ∙ plays.form;
        making = ap (λ (s : Seen). making_of s.held) puts.seen ∙ made ∙ plays.making;
        kind = ap (λ (s : Seen). claims.is_map s.kind) puts.seen ∙ plays.kind;
      }

-- ---- the newest seat

pub put_last : (t u : SeatSeen) (ss : List SeatSeen) → find_seat u.key ss ≡ None → t.key ≡ u.key
    → put_seat u (ss ++ t ∷ []) ≡ ss ++ u ∷ []
put_last t u [] none same =
    ap (λ b. cond b (u ∷ []) (t ∷ [])) (eq-eqb t.key u.key same)
put_last t u (s ∷ ss) none same =
    let rest = put_last t u ss in
    elim (s.key == u.key) as (λ b. cond b (Some s) (find_seat u.key ss) ≡ None
    → cond b (u ∷ (ss ++ t ∷ [])) (s ∷ put_seat u (ss ++ t ∷ [])) ≡ s ∷ (ss ++ u ∷ [])) [
      | true ↦ λ e. absurd (none-some s (sym e))
      | false ↦ λ e. ap (λ more. s ∷ more) (rest e same)
    ] none

pub twice : (sort : ItemSort) (xs ys : List SeatSeen) (c : ChainsSeen)
    → in_chain sort (with_seats ys) (in_chain sort (with_seats xs) c)
    ≡ in_chain sort (with_seats ys) c
twice sorts.Node xs ys c = refl
twice sorts.Arc xs ys c = refl

-- what came and was then written to has come
pub comes_put : (sort : ItemSort) (key : ℕ) (s : Seen) (role : Role) (change : Seen → Held)
    (c d e : ChainsSeen) → Comes sort key s c d → Plays role s → Puts sort key change d e
    → Comes sort key (holding (change s) s) c e
comes_put sort key s role change c d e comes plays puts =
    let ss = seats_in sort c in
    let last = ap (seats_in sort) comes.is
    ∙ chain_here sort (with_seats (ss ++ comes.seat ∷ [])) c in
    let was : puts.was ≡ s = same_Some puts.was s
    (sym puts.found ∙ look_comes sort key role [] [] s c d comes plays) in
    let put = put_last comes.seat puts.seat ss (ap (λ k. find_seat k ss) puts.name ∙ comes.is_new)
    (comes.name ∙ sym puts.name) in
    record {
      seat = puts.seat;
      name = puts.name;
      seen = puts.seen ∙ ap (λ s. holding (change s) s) was;
      is_new = comes.is_new;
      is = puts.is
          ∙ (λ i. in_chain sort (with_seats (put_seat puts.seat (last i))) (comes.is i))
          ∙ twice sort (ss ++ comes.seat ∷ []) (put_seat puts.seat (ss ++ comes.seat ∷ [])) c
          ∙ ap (λ ss. in_chain sort (with_seats ss) c) put;
    }

-- ---- from a loan

-- what was written once the loan ends
pub puts_lent : {O : Type 0} (watch : O → Watched) (sort : ItemSort) (key : ℕ) (a : AlterOf O)
    (old now : O) (change : Seen → Held) → MayWrite watch sort key a old
    → look_in (chains_seen watch a.chains) sort key ≡ Some (watch old).seen
    → (watch now).seen ≡ holding (change (watch old).seen) (watch old).seen
    → Puts sort key change (chains_seen watch a.chains)
    (chains_seen watch (graph_with sort key now a).chains)
puts_lent watch sort key a old now change may found wrote = record {
  was = (watch old).seen;
  found = found;
  seat = seat_from watch key (Some now);
  name = refl;
  seen = wrote;
  is = (may now).seats;
}
