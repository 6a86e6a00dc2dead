-- Choices that agree with a third agree with one another.
use Rattle.std.proofs.Common.{ℕ, ℤ, Bool, List, Option, sym, ◌∙◌}
use Rattle.plain_world.specs.Choices.{Choice, Agree, Same}
use Rattle.plain_world.specs.Choices as choices

module _ (nodes arcs : ℕ) where
  through : {X : Type 0} (count : ℕ) (f g h : ℕ → X) → Same count f h → Same count g h
      → Same count f g
  through count f g h fh gh = λ n below. fh n below ∙ sym (gh n below)

  none_with : (other : Choice) → Agree nodes arcs other choices.None
      → Agree nodes arcs choices.None other
  none_with choices.None k = tt
  none_with _ k = absurd k

  none_both : (one other : Choice) → Agree nodes arcs one choices.None
      → Agree nodes arcs other choices.None → Agree nodes arcs one other
  none_both choices.None other h k = none_with other k
  none_both _ other h k = absurd h

  paths_with : (dist dist_a : ℕ → Option ℤ) (via via_a : ℕ → Option ℕ) (other : Choice)
      → Agree nodes arcs (choices.Paths dist_a via_a) (choices.Paths dist via)
      → Agree nodes arcs other (choices.Paths dist via)
      → Agree nodes arcs (choices.Paths dist_a via_a) other
  paths_with dist dist_a via via_a (choices.Paths dist_b via_b) h k =
      (through nodes dist_a dist_b dist h.0 k.0, through nodes via_a via_b via h.1 k.1)
  paths_with dist dist_a via via_a _ h k = absurd k

  paths_both : (dist : ℕ → Option ℤ) (via : ℕ → Option ℕ) (one other : Choice)
      → Agree nodes arcs one (choices.Paths dist via)
      → Agree nodes arcs other (choices.Paths dist via) → Agree nodes arcs one other
  paths_both dist via (choices.Paths dist_a via_a) other h k =
      paths_with dist dist_a via via_a other h k
  paths_both dist via _ other h k = absurd h

  cycle_with : (cycle cycle_a : List ℕ) (other : Choice)
      → Agree nodes arcs (choices.Cycle cycle_a) (choices.Cycle cycle)
      → Agree nodes arcs other (choices.Cycle cycle)
      → Agree nodes arcs (choices.Cycle cycle_a) other
  cycle_with cycle cycle_a (choices.Cycle cycle_b) h k = h ∙ sym k
  cycle_with cycle cycle_a _ h k = absurd k

  cycle_both : (cycle : List ℕ) (one other : Choice) → Agree nodes arcs one (choices.Cycle cycle)
      → Agree nodes arcs other (choices.Cycle cycle) → Agree nodes arcs one other
  cycle_both cycle (choices.Cycle cycle_a) other h k = cycle_with cycle cycle_a other h k
  cycle_both cycle _ other h k = absurd h

  cut_with : (flow flow_a : ℕ → ℤ) (side side_a : ℕ → Bool) (other : Choice)
      → Agree nodes arcs (choices.Cut flow_a side_a) (choices.Cut flow side)
      → Agree nodes arcs other (choices.Cut flow side)
      → Agree nodes arcs (choices.Cut flow_a side_a) other
  cut_with flow flow_a side side_a (choices.Cut flow_b side_b) h k =
      (through arcs flow_a flow_b flow h.0 k.0, through nodes side_a side_b side h.1 k.1)
  cut_with flow flow_a side side_a _ h k = absurd k

  cut_both : (flow : ℕ → ℤ) (side : ℕ → Bool) (one other : Choice)
      → Agree nodes arcs one (choices.Cut flow side)
      → Agree nodes arcs other (choices.Cut flow side) → Agree nodes arcs one other
  cut_both flow side (choices.Cut flow_a side_a) other h k =
      cut_with flow flow_a side side_a other h k
  cut_both flow side _ other h k = absurd h

  flow_with : (flow flow_a : ℕ → ℤ) (other : Choice)
      → Agree nodes arcs (choices.Flow flow_a) (choices.Flow flow)
      → Agree nodes arcs other (choices.Flow flow) → Agree nodes arcs (choices.Flow flow_a) other
  flow_with flow flow_a (choices.Flow flow_b) h k = through arcs flow_a flow_b flow h k
  flow_with flow flow_a _ h k = absurd k

  flow_both : (flow : ℕ → ℤ) (one other : Choice) → Agree nodes arcs one (choices.Flow flow)
      → Agree nodes arcs other (choices.Flow flow) → Agree nodes arcs one other
  flow_both flow (choices.Flow flow_a) other h k = flow_with flow flow_a other h k
  flow_both flow _ other h k = absurd h

  barrier_with : (over over_a : Bool) (set set_a : ℕ → Bool) (other : Choice)
      → Agree nodes arcs (choices.Barrier over_a set_a) (choices.Barrier over set)
      → Agree nodes arcs other (choices.Barrier over set)
      → Agree nodes arcs (choices.Barrier over_a set_a) other
  barrier_with over over_a set set_a (choices.Barrier over_b set_b) h k =
      (h.0 ∙ sym k.0, through nodes set_a set_b set h.1 k.1)
  barrier_with over over_a set set_a _ h k = absurd k

  barrier_both : (over : Bool) (set : ℕ → Bool) (one other : Choice)
      → Agree nodes arcs one (choices.Barrier over set)
      → Agree nodes arcs other (choices.Barrier over set) → Agree nodes arcs one other
  barrier_both over set (choices.Barrier over_a set_a) other h k =
      barrier_with over over_a set set_a other h k
  barrier_both over set _ other h k = absurd h

  optimum_with : (flow flow_a pi pi_a : ℕ → ℤ) (other : Choice)
      → Agree nodes arcs (choices.Optimum flow_a pi_a) (choices.Optimum flow pi)
      → Agree nodes arcs other (choices.Optimum flow pi)
      → Agree nodes arcs (choices.Optimum flow_a pi_a) other
  optimum_with flow flow_a pi pi_a (choices.Optimum flow_b pi_b) h k =
      (through arcs flow_a flow_b flow h.0 k.0, through nodes pi_a pi_b pi h.1 k.1)
  optimum_with flow flow_a pi pi_a _ h k = absurd k

  optimum_both : (flow pi : ℕ → ℤ) (one other : Choice)
      → Agree nodes arcs one (choices.Optimum flow pi)
      → Agree nodes arcs other (choices.Optimum flow pi) → Agree nodes arcs one other
  optimum_both flow pi (choices.Optimum flow_a pi_a) other h k =
      optimum_with flow flow_a pi pi_a other h k
  optimum_both flow pi _ other h k = absurd h

  freecycle_with : (flow flow_a : ℕ → ℤ) (cycle cycle_a : List ℕ) (other : Choice)
      → Agree nodes arcs (choices.FreeCycle flow_a cycle_a) (choices.FreeCycle flow cycle)
      → Agree nodes arcs other (choices.FreeCycle flow cycle)
      → Agree nodes arcs (choices.FreeCycle flow_a cycle_a) other
  freecycle_with flow flow_a cycle cycle_a (choices.FreeCycle flow_b cycle_b) h k =
      (through arcs flow_a flow_b flow h.0 k.0, h.1 ∙ sym k.1)
  freecycle_with flow flow_a cycle cycle_a _ h k = absurd k

  freecycle_both : (flow : ℕ → ℤ) (cycle : List ℕ) (one other : Choice)
      → Agree nodes arcs one (choices.FreeCycle flow cycle)
      → Agree nodes arcs other (choices.FreeCycle flow cycle) → Agree nodes arcs one other
  freecycle_both flow cycle (choices.FreeCycle flow_a cycle_a) other h k =
      freecycle_with flow flow_a cycle cycle_a other h k
  freecycle_both flow cycle _ other h k = absurd h

  pairs_with : (chosen chosen_a hall hall_a : ℕ → Bool) (other : Choice)
      → Agree nodes arcs (choices.Pairs chosen_a hall_a) (choices.Pairs chosen hall)
      → Agree nodes arcs other (choices.Pairs chosen hall)
      → Agree nodes arcs (choices.Pairs chosen_a hall_a) other
  pairs_with chosen chosen_a hall hall_a (choices.Pairs chosen_b hall_b) h k =
      (through arcs chosen_a chosen_b chosen h.0 k.0, through nodes hall_a hall_b hall h.1 k.1)
  pairs_with chosen chosen_a hall hall_a _ h k = absurd k

  pairs_both : (chosen hall : ℕ → Bool) (one other : Choice)
      → Agree nodes arcs one (choices.Pairs chosen hall)
      → Agree nodes arcs other (choices.Pairs chosen hall) → Agree nodes arcs one other
  pairs_both chosen hall (choices.Pairs chosen_a hall_a) other h k =
      pairs_with chosen chosen_a hall hall_a other h k
  pairs_both chosen hall _ other h k = absurd h

  priced_with : (chosen chosen_a : ℕ → Bool) (dual dual_a : ℕ → ℤ) (other : Choice)
      → Agree nodes arcs (choices.Priced chosen_a dual_a) (choices.Priced chosen dual)
      → Agree nodes arcs other (choices.Priced chosen dual)
      → Agree nodes arcs (choices.Priced chosen_a dual_a) other
  priced_with chosen chosen_a dual dual_a (choices.Priced chosen_b dual_b) h k =
      (through arcs chosen_a chosen_b chosen h.0 k.0, through nodes dual_a dual_b dual h.1 k.1)
  priced_with chosen chosen_a dual dual_a _ h k = absurd k

  priced_both : (chosen : ℕ → Bool) (dual : ℕ → ℤ) (one other : Choice)
      → Agree nodes arcs one (choices.Priced chosen dual)
      → Agree nodes arcs other (choices.Priced chosen dual) → Agree nodes arcs one other
  priced_both chosen dual (choices.Priced chosen_a dual_a) other h k =
      priced_with chosen chosen_a dual dual_a other h k
  priced_both chosen dual _ other h k = absurd h

  short_with : (set set_a : ℕ → Bool) (other : Choice)
      → Agree nodes arcs (choices.Short set_a) (choices.Short set)
      → Agree nodes arcs other (choices.Short set) → Agree nodes arcs (choices.Short set_a) other
  short_with set set_a (choices.Short set_b) h k = through nodes set_a set_b set h k
  short_with set set_a _ h k = absurd k

  short_both : (set : ℕ → Bool) (one other : Choice) → Agree nodes arcs one (choices.Short set)
      → Agree nodes arcs other (choices.Short set) → Agree nodes arcs one other
  short_both set (choices.Short set_a) other h k = short_with set set_a other h k
  short_both set _ other h k = absurd h

  mean_with : (cycle cycle_a : List ℕ) (pi pi_a : ℕ → ℤ) (other : Choice)
      → Agree nodes arcs (choices.Mean cycle_a pi_a) (choices.Mean cycle pi)
      → Agree nodes arcs other (choices.Mean cycle pi)
      → Agree nodes arcs (choices.Mean cycle_a pi_a) other
  mean_with cycle cycle_a pi pi_a (choices.Mean cycle_b pi_b) h k =
      (h.0 ∙ sym k.0, through nodes pi_a pi_b pi h.1 k.1)
  mean_with cycle cycle_a pi pi_a _ h k = absurd k

  mean_both : (cycle : List ℕ) (pi : ℕ → ℤ) (one other : Choice)
      → Agree nodes arcs one (choices.Mean cycle pi)
      → Agree nodes arcs other (choices.Mean cycle pi) → Agree nodes arcs one other
  mean_both cycle pi (choices.Mean cycle_a pi_a) other h k =
      mean_with cycle cycle_a pi pi_a other h k
  mean_both cycle pi _ other h k = absurd h

  order_with : (order order_a : List ℕ) (other : Choice)
      → Agree nodes arcs (choices.Order order_a) (choices.Order order)
      → Agree nodes arcs other (choices.Order order)
      → Agree nodes arcs (choices.Order order_a) other
  order_with order order_a (choices.Order order_b) h k = h ∙ sym k
  order_with order order_a _ h k = absurd k

  order_both : (order : List ℕ) (one other : Choice) → Agree nodes arcs one (choices.Order order)
      → Agree nodes arcs other (choices.Order order) → Agree nodes arcs one other
  order_both order (choices.Order order_a) other h k = order_with order order_a other h k
  order_both order _ other h k = absurd h

  pub agree_both : (third one other : Choice) → Agree nodes arcs one third
      → Agree nodes arcs other third → Agree nodes arcs one other
  agree_both choices.None one other h k = none_both one other h k
  agree_both (choices.Paths dist via) one other h k = paths_both dist via one other h k
  agree_both (choices.Cycle cycle) one other h k = cycle_both cycle one other h k
  agree_both (choices.Cut flow side) one other h k = cut_both flow side one other h k
  agree_both (choices.Flow flow) one other h k = flow_both flow one other h k
  agree_both (choices.Barrier over set) one other h k = barrier_both over set one other h k
  agree_both (choices.Optimum flow pi) one other h k = optimum_both flow pi one other h k
  agree_both (choices.FreeCycle flow cycle) one other h k = freecycle_both flow cycle one other h k
  agree_both (choices.Pairs chosen hall) one other h k = pairs_both chosen hall one other h k
  agree_both (choices.Priced chosen dual) one other h k = priced_both chosen dual one other h k
  agree_both (choices.Short set) one other h k = short_both set one other h k
  agree_both (choices.Mean cycle pi) one other h k = mean_both cycle pi one other h k
  agree_both (choices.Order order) one other h k = order_both order one other h k
