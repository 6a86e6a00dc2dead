-- The first fault of demands that stand in parts, some of which may be absent.
use Rattle.std.proofs.Common.{◌≡◌, ℕ, zero, suc, List, [], ◌∷◌, ◌++◌, length, refl, sym, ap, ◌∙◌}
use Rattle.std.proofs.Common.{subst, Option, Some, None}
use Rattle.std.specs.Prelude.{IfSome}
use Rattle.std.specs.Option.{option_or}
use Rattle.std.proofs.lemmas.Option.{none-some}
use Rattle.report_text.specs.declared.faults.Fault.{Fault}
use Rattle.report_text.specs.declared.faults.StepFault.{StepFault}
use Rattle.report_text.specs.declared.faults.StepFault.TheVariants as faults
use Rattle.plain_world.specs.Tables.{Name}
use Rattle.plain_world.specs.World.{World}
use Rattle.plain_world.specs.Demands.{Demand, given}
use Rattle.plain_world.specs.Refusals.{breach}
use Rattle.desk_world.specs.Faults.{Is}
use Rattle.desk_world.proofs.Demanded.{fault_of, not_met}

-- the demands of all parts
abbrev pub joined : List (List Demand) → List Demand
joined [] = []
joined (part ∷ parts) = part ++ joined parts

or_joins : (a b c : Option Fault) → option_or a (option_or b c) ≡ option_or (option_or a b) c
or_joins None b c = refl
or_joins (Some x) b c = refl

module _ (world : World) where
  -- the fault of a part
  abbrev pub fault_at : List (List Demand) → ℕ → Option Fault
  fault_at [] k = None
  fault_at (part ∷ parts) zero = fault_of world part
  fault_at (part ∷ parts) (suc k) = fault_at parts k

  -- the parts before this one are met
  abbrev pub NoneUntil : List (List Demand) → ℕ → Type 0
  NoneUntil parts zero = Unit {0}
  NoneUntil [] (suc k) = Unit {0}
  NoneUntil (part ∷ parts) (suc k) = (fault_of world part ≡ None) × NoneUntil parts k

  -- what holds where they are, each of them a premise of its own
  abbrev pub WhenMet : List (List Demand) → ℕ → Type 0 → Type 0
  WhenMet parts zero Told = Told
  WhenMet [] (suc k) Told = Told
  WhenMet (part ∷ parts) (suc k) Told = fault_of world part ≡ None → WhenMet parts k Told

  pub when_met : (parts : List (List Demand)) (k : ℕ) (Told : Type 0) → (NoneUntil parts k → Told)
      → WhenMet parts k Told
  when_met parts zero Told told = told tt
  when_met [] (suc k) Told told = told tt
  when_met (part ∷ parts) (suc k) Told told =
      λ one. when_met parts k Told (λ rest. told (one, rest))

  -- one part more is met
  pub met_next : (parts : List (List Demand)) (k : ℕ) → NoneUntil parts k → fault_at parts k ≡ None
      → NoneUntil parts (suc k)
  met_next [] k met none = tt
  met_next (part ∷ parts) zero met none = (none, tt)
  met_next (part ∷ parts) (suc k) met none = (met.0, met_next parts k met.1 none)

  faults_of_both : (part others : List Demand)
      → fault_of world (part ++ others) ≡ option_or (fault_of world part) (fault_of world others)
  faults_of_both [] others = refl
  faults_of_both (d ∷ part) others =
      ap (option_or (breach world d)) (faults_of_both part others)
      ∙ or_joins (breach world d) (fault_of world part) (fault_of world others)

  -- a part that is met leaves the others
  pub passed : (part others : List Demand) → fault_of world part ≡ None
      → fault_of world (part ++ others) ≡ fault_of world others
  passed part others none =
      faults_of_both part others ∙ ap (λ o. option_or o (fault_of world others)) none

  stopped : (part others : List Demand) (fault : StepFault) → Is (fault_of world part) fault
      → Is (fault_of world (part ++ others)) fault
  stopped part others (faults.Refused refused) is =
      faults_of_both part others ∙ ap (λ o. option_or o (fault_of world others)) is
  stopped part others faults.Memory is = tt

  -- where the parts before it are met, the fault of a part is the first of all
  pub stops : (parts : List (List Demand)) (k : ℕ) (fault : StepFault) → NoneUntil parts k
      → Is (fault_at parts k) fault → Is (fault_of world (joined parts)) fault
  stops [] k fault met is = is
  stops (part ∷ parts) zero fault met is = stopped part (joined parts) fault is
  stops (part ∷ parts) (suc k) fault met is =
      subst (λ o. Is o fault) (sym (passed part (joined parts) met.0))
      (stops parts k fault met.1 is)

  -- where all parts are met, all demands are
  pub all_met : (parts : List (List Demand)) → NoneUntil parts (length parts)
      → fault_of world (joined parts) ≡ None
  all_met [] met = refl
  all_met (part ∷ parts) met = passed part (joined parts) met.0 ∙ all_met parts met.1

  -- a part of one demand
  pub one_met : (d : Demand) → breach world d ≡ None → fault_of world (d ∷ []) ≡ None
  one_met d met = ap (λ o. option_or o None) met

  pub one_not_met : (d : Demand) (fault : StepFault) → Is (breach world d) fault
      → Is (fault_of world (d ∷ [])) fault
  one_not_met d fault is = not_met world d [] fault is

  first_none : (o p : Option Fault) → option_or o p ≡ None → (o ≡ None) × (p ≡ None)
  first_none None p none = (refl, none)
  first_none (Some x) p none = absurd (none-some x (sym none))

  -- where all demands are met, each part is
  pub part_met : (parts : List (List Demand)) (k : ℕ) → fault_of world (joined parts) ≡ None
      → fault_at parts k ≡ None
  part_met [] k none = refl
  part_met (part ∷ parts) k none =
      let both = first_none (fault_of world part) (fault_of world (joined parts))
      (sym (faults_of_both part (joined parts)) ∙ none) in
      of_both part parts k both.0 (part_met parts) both.1
    where
      of_both : (part : List Demand) (parts : List (List Demand)) (k : ℕ)
          → fault_of world part ≡ None
          → ((k : ℕ) → fault_of world (joined parts) ≡ None → fault_at parts k ≡ None)
          → fault_of world (joined parts) ≡ None → fault_at (part ∷ parts) k ≡ None
      of_both part parts zero one others rest = one
      of_both part parts (suc k) one others rest = others k rest

  -- a demand for a name that may be absent
  pub given_met : (demand : Name → Demand) (name : Option Name)
      → fault_of world (given demand name) ≡ None
      → IfSome name (λ one. breach world (demand one) ≡ None)
  given_met demand None none = tt
  given_met demand (Some one) none = (first_none (breach world (demand one)) None none).0
