-- What is held, by how it was made.
use Rattle.std.proofs.Common.{◌≡◌, ℕ, Bool, true, false, List, refl, sym, ap, subst}
use Rattle.std.proofs.lemmas.Bool.{true≢false}
use Rattle.observe_core.specs.Held.{Held, Nothing, Values, Degree, Half, Kept, Ties, Entry, ValueOf}
use Rattle.observe_core.specs.Held.{MapType, Ints, Making, OfGuard, OfValues, OfDegree, OfHalf}
use Rattle.observe_core.specs.Held.{OfKept, OfTies, making_of, Tie}

abbrev is_values : Making → Bool
is_values OfGuard = false
is_values (OfValues t) = true
is_values (OfDegree out) = false
is_values OfHalf = false
is_values (OfKept role all) = false
is_values OfTies = false

abbrev is_ties : Making → Bool
is_ties OfGuard = false
is_ties (OfValues t) = false
is_ties (OfDegree out) = false
is_ties OfHalf = false
is_ties (OfKept role all) = false
is_ties OfTies = true

abbrev type_made : Making → MapType
type_made OfGuard = Ints
type_made (OfValues t) = t
type_made (OfDegree out) = Ints
type_made OfHalf = Ints
type_made (OfKept role all) = Ints
type_made OfTies = Ints

-- what is held is values of the type
pub record AreValues (t : MapType) (h : Held) : Type 0 where
  pub entries : List (Entry (ValueOf t))
  pub is : h ≡ Values t entries

pub as_values : (t : MapType) (h : Held) → making_of h ≡ OfValues t → AreValues t h
as_values t Nothing m = absurd (true≢false (sym (ap is_values m)))
as_values t (Values u es) m =
    subst (λ v. AreValues v (Values u es)) (ap type_made m) (record { entries = es; is = refl })
as_values t (Degree out ends) m = absurd (true≢false (sym (ap is_values m)))
as_values t (Half added others kept valid) m = absurd (true≢false (sym (ap is_values m)))
as_values t (Kept role all items) m = absurd (true≢false (sym (ap is_values m)))
as_values t (Ties ties) m = absurd (true≢false (sym (ap is_values m)))

abbrev is_degree : Making → Bool
is_degree OfGuard = false
is_degree (OfValues t) = false
is_degree (OfDegree out) = true
is_degree OfHalf = false
is_degree (OfKept role all) = false
is_degree OfTies = false

abbrev end_made : Making → Bool
end_made OfGuard = false
end_made (OfValues t) = false
end_made (OfDegree out) = out
end_made OfHalf = false
end_made (OfKept role all) = false
end_made OfTies = false

-- what is held is ends of arcs
pub record AreEnds (out : Bool) (h : Held) : Type 0 where
  pub ends : List ℕ
  pub is : h ≡ Degree out ends

pub as_ends : (out : Bool) (h : Held) → making_of h ≡ OfDegree out → AreEnds out h
as_ends out Nothing m = absurd (true≢false (sym (ap is_degree m)))
as_ends out (Values u es) m = absurd (true≢false (sym (ap is_degree m)))
as_ends out (Degree own ends) m =
    subst (λ e. AreEnds e (Degree own ends)) (ap end_made m) (record { ends = ends; is = refl })
as_ends out (Half added others kept valid) m = absurd (true≢false (sym (ap is_degree m)))
as_ends out (Kept role all items) m = absurd (true≢false (sym (ap is_degree m)))
as_ends out (Ties ties) m = absurd (true≢false (sym (ap is_degree m)))

-- what is held is ties
pub record AreTies (h : Held) : Type 0 where
  pub ties : List Tie
  pub is : h ≡ Ties ties

pub as_ties : (h : Held) → making_of h ≡ OfTies → AreTies h
as_ties Nothing m = absurd (true≢false (sym (ap is_ties m)))
as_ties (Values u es) m = absurd (true≢false (sym (ap is_ties m)))
as_ties (Degree out ends) m = absurd (true≢false (sym (ap is_ties m)))
as_ties (Half added others kept valid) m = absurd (true≢false (sym (ap is_ties m)))
as_ties (Kept role all items) m = absurd (true≢false (sym (ap is_ties m)))
as_ties (Ties ties) m = record { ties = ties; is = refl }
