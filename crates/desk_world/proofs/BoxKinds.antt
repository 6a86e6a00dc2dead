-- The kinds of boxes and their words.
use Rattle.std.proofs.Common.{◌≡◌, ℕ, ◌≤◌, true, cond, List, refl, sym, ap, ◌∙◌}
use Rattle.std.proofs.Common.{Option, Some, None, arith}
use Rattle.std.specs.Prelude.{unwrap_or, codes}
use Rattle.std.specs.Str.{bytes_eq}
use Rattle.std.proofs.lemmas.Slice.Eq.{bytes_eq-Decides}
use Rattle.base_items.specs.declared.items.Fact.{Fact}
use Rattle.base_items.specs.declared.items.ItemSort.{ItemSort}
use Rattle.base_items.specs.declared.items.ItemSort.TheVariants as sorts
use Rattle.script_words.specs.declared.commands.GuardWord.{GuardWord}
use Rattle.script_words.specs.declared.commands.GuardWord.TheVariants as words
use Rattle.script_words.specs.Valid.{IsGuard}
use Rattle.observe_core.specs.declared.kinds.Kind.{Kind}
use Rattle.observe_core.specs.declared.kinds.Kind.TheVariants as kinds
use Rattle.observe_core.specs.Conditions.{IsArmable}
use Rattle.observe_core.specs.Guards.{keeps_law, greatest_k, fuse_part}
use Rattle.observe_core.specs.Seen.{Seen}
use Rattle.observe_core.specs.Told.{armed, built}
use Rattle.observe_core.specs.Untold.{TracksNothing}
use Rattle.plain_world.specs.Effects as effects
use Rattle.plain_world.specs.Refusals.{kind_word, is_kind, law_holds}
use Rattle.desk_world.specs.Plain.{word_of, guard_by}

-- ---- words

-- the kind of a word
abbrev of_word : List ℕ → GuardWord
of_word text =
    cond (bytes_eq text (codes "quota")) words.Quota
    (cond (bytes_eq text (codes "loopless")) words.Loopless
    (cond (bytes_eq text (codes "simple")) words.Simple
    (cond (bytes_eq text (codes "outcap")) words.OutCap
    (cond (bytes_eq text (codes "fuse")) words.Fuse words.Tally))))

word_back : (kind : GuardWord) → of_word (kind_word kind) ≡ kind
word_back words.Quota = refl
word_back words.Loopless = refl
word_back words.Simple = refl
word_back words.OutCap = refl
word_back words.Fuse = refl
word_back words.Tally = refl

-- kinds of one word are the same
pub same_kind : (kind other : GuardWord) → is_kind kind other ≡ true → kind ≡ other
same_kind kind other is =
    sym (word_back kind)
    ∙ ap of_word ((bytes_eq-Decides (kind_word kind) (kind_word other)).0 is) ∙ word_back other

-- ---- laws

pub word_law : (kind : Kind) (limit : ℕ) (facts : List Fact)
    → law_holds (word_of kind) limit facts ≡ keeps_law kind limit facts
word_law kinds.Map limit facts = refl
word_law kinds.Quota limit facts = refl
word_law kinds.Loopless limit facts = refl
word_law kinds.Simple limit facts = refl
word_law kinds.OutCap limit facts = refl
word_law kinds.Fuse limit facts = refl
word_law kinds.Tally limit facts = refl

-- ---- arming

left_armed : (kind : Kind) (limit : ℕ) → fuse_part kind limit
    ≡ cond (is_kind (word_of kind) words.Fuse) limit 0
left_armed kinds.Map limit = refl
left_armed kinds.Quota limit = refl
left_armed kinds.Loopless limit = refl
left_armed kinds.Simple limit = refl
left_armed kinds.OutCap limit = refl
left_armed kinds.Fuse limit = refl
left_armed kinds.Tally limit = refl

-- a box that was armed and told of all items is the plain guard that was armed
pub armed_guard : (sort : ItemSort) (limit : ℕ) (all : List Fact) (s : Seen)
    → guard_by sort (built all (armed limit s)) ≡ effects.armed sort (word_of s.kind) limit
armed_guard sort limit all s = λ i. record {
  sort = sort;
  kind = word_of s.kind;
  limit = limit;
  left = left_armed s.kind limit i;
  added = 0;
  erased = 0;
  moved = 0;
}

-- the number of a valid command is one of the kind
number_fits : (kind : Kind) (sort : ItemSort) (number : Option ℕ)
    → IsGuard sort (word_of kind) number
    → (unwrap_or number 0 ≤ greatest_k kind) × (fuse_part kind 1 ≤ unwrap_or number 0)
number_fits kinds.Map sorts.Node None valid = (omega arith, omega arith)
number_fits kinds.Map sorts.Arc None valid = (omega arith, omega arith)
number_fits kinds.Map sorts.Node (Some number) valid = absurd valid
number_fits kinds.Map sorts.Arc (Some number) valid = absurd valid
number_fits kinds.Quota sorts.Node None valid = absurd valid
number_fits kinds.Quota sorts.Arc None valid = absurd valid
number_fits kinds.Quota sorts.Node (Some number) valid = (valid, omega arith)
number_fits kinds.Quota sorts.Arc (Some number) valid = (valid, omega arith)
number_fits kinds.Loopless sorts.Node number valid = absurd valid
number_fits kinds.Loopless sorts.Arc None valid = (omega arith, omega arith)
number_fits kinds.Loopless sorts.Arc (Some number) valid = absurd valid
number_fits kinds.Simple sorts.Node number valid = absurd valid
number_fits kinds.Simple sorts.Arc None valid = (omega arith, omega arith)
number_fits kinds.Simple sorts.Arc (Some number) valid = absurd valid
number_fits kinds.OutCap sorts.Node number valid = absurd valid
number_fits kinds.OutCap sorts.Arc None valid = absurd valid
number_fits kinds.OutCap sorts.Arc (Some number) valid = (valid, omega arith)
number_fits kinds.Fuse sorts.Node None valid = absurd valid
number_fits kinds.Fuse sorts.Arc None valid = absurd valid
number_fits kinds.Fuse sorts.Node (Some number) valid = (valid.1, valid.0)
number_fits kinds.Fuse sorts.Arc (Some number) valid = (valid.1, valid.0)
number_fits kinds.Tally sorts.Node None valid = (omega arith, omega arith)
number_fits kinds.Tally sorts.Arc None valid = (omega arith, omega arith)
number_fits kinds.Tally sorts.Node (Some number) valid = absurd valid
number_fits kinds.Tally sorts.Arc (Some number) valid = absurd valid

pub may_arm : (sort : ItemSort) (number : Option ℕ) (s : Seen) → TracksNothing s
    → IsGuard sort (word_of s.kind) number → IsArmable (unwrap_or number 0) s
may_arm sort number s none valid =
    let fits = number_fits s.kind sort number valid in
    record { empty = none; small = fits.0; fuse = fits.1 }
