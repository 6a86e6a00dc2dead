-- A printed answer tells the world that it leaves, where the names of the view's arcs differ.
use Rattle.std.proofs.Common.{◌≡◌, ℕ, zero, suc, ◌+◌, ◌<◌, ◌≤◌, ℤ, Bool, true, false, cond, not}
use Rattle.std.proofs.Common.{refl, sym, ◌∙◌, ap, List, [], ◌∷◌, map, filter, Option, inl, inr}
use Rattle.std.proofs.Common.{arith}
use Rattle.std.specs.Prelude.{pos, negsuc, unsigned_abs}
use Rattle.std.specs.List.{range_with_len}
use Rattle.std.proofs.lemmas.Bool.{cases_eq, eqb-true}
use Rattle.script_words.specs.declared.commands.Command.TheVariants as commands
use Rattle.report_text.specs.declared.replies.Reply.{Reply}
use Rattle.report_text.specs.declared.replies.Reply.TheVariants as replies
use Rattle.report_text.specs.declared.replies.FlowLine.{FlowLine}
use Rattle.report_text.specs.declared.replies.PotentialLine.{PotentialLine}
use Rattle.report_text.specs.declared.replies.ArcLine.{ArcLine}
use Rattle.plain_certificates.specs.Feasible.{Bounds}
use Rattle.plain_world.specs.Tables.{Name}
use Rattle.plain_world.specs.World.{World}
use Rattle.plain_world.specs.Queries.{graph, name_of_arc, flow_lines, is_zero, bounds_of}
use Rattle.plain_world.specs.Queries.{FindsCheapest}
use Rattle.plain_world.specs.Choices.{Same, ArcNamesDiffer, AnswersTellWorlds, as_cheapest}
use Rattle.plain_world.proofs.Chosen.{written_alike}

-- ---- lines

zero_is : (x : ℤ) → is_zero x ≡ true → x ≡ pos 0
zero_is (pos n) is = ap pos (eqb-true n 0 is)
zero_is (negsuc n) is = absurd (omega (arith, eqb-true (unsigned_abs (negsuc n)) 0 is))

not_zero : (x : ℤ) → not (is_zero x) ≡ false → x ≡ pos 0
not_zero x is = zero_is x (back (is_zero x) is)
  where
    back : (b : Bool) → not b ≡ false → b ≡ true
    back true e = refl
    back false e = sym e

same_arc : (line other : FlowLine) (lines others : List FlowLine)
    → line ∷ lines ≡ other ∷ others → line.arc ≡ other.arc
same_arc line other lines others e = ap (λ l. first l line) e
  where
    first : List FlowLine → FlowLine → Name
    first [] line = line.arc
    first (l ∷ ls) line = l.arc

same_flow : (line other : FlowLine) (lines others : List FlowLine)
    → line ∷ lines ≡ other ∷ others → line.flow ≡ other.flow
same_flow line other lines others e = ap (λ l. first l line) e
  where
    first : List FlowLine → FlowLine → ℤ
    first [] line = line.flow
    first (l ∷ ls) line = l.flow

same_rest : (line other : FlowLine) (lines others : List FlowLine)
    → line ∷ lines ≡ other ∷ others → lines ≡ others
same_rest line other lines others e = cc

no_line : (line : FlowLine) (lines : List FlowLine) → line ∷ lines ≡ [] → ⊥
no_line line lines e = cc

module _ (world : World) (view : Name) where
  abbrev line : (ℕ → ℤ) → ℕ → FlowLine
  line flow arc = record { arc = name_of_arc world view arc; flow = flow arc }

  abbrev shows : (ℕ → ℤ) → ℕ → Bool
  shows flow arc = not (is_zero (flow arc))

  abbrev lines : (ℕ → ℤ) → ℕ → ℕ → List FlowLine
  lines flow a n = map (line flow) (filter (shows flow) (range_with_len a n))

  -- the first line is that of an arc of the range
  first_of_range : (flow : ℕ → ℤ) (head : FlowLine) (rest : List FlowLine) (a n : ℕ)
      → head ∷ rest ≡ lines flow a n
      → (k : ℕ) × (a ≤ k) × (k < a + n) × (head.arc ≡ name_of_arc world view k)
  first_of_range flow head rest a zero e = absurd (no_line head rest e)
  first_of_range flow head rest a (suc n) e =
      by_test (first_of_range flow head rest (a + 1) n) (shows flow a) e
    where
      by_test : (head ∷ rest ≡ lines flow (a + 1) n
          → (k : ℕ) × (a + 1 ≤ k) × (k < a + 1 + n) × (head.arc ≡ name_of_arc world view k))
          → (b : Bool) → head ∷ rest ≡ map (line flow)
          (cond b (a ∷ filter (shows flow) (range_with_len (a + 1) n))
          (filter (shows flow) (range_with_len (a + 1) n)))
          → (k : ℕ) × (a ≤ k) × (k < a + suc n) × (head.arc ≡ name_of_arc world view k)
      by_test behind true is = (
        a,
        omega arith,
        omega arith,
        same_arc head (line flow a) rest (lines flow (a + 1) n) is,
      )
      by_test behind false is =
          let found = behind is in
          let low = found.1 in
          let high = found.2 in
          (found.0, omega (arith, low), omega (arith, high), found.3)

  module _ (differ : ArcNamesDiffer world view) where
    -- an arc whose line isn't told has none of the lines behind it
    not_behind : (flow other : ℕ → ℤ) (a n : ℕ) (rest : List FlowLine)
        → a + suc n ≤ (graph world view).arcs → line flow a ∷ rest ≡ lines other (a + 1) n → ⊥
    not_behind flow other a n rest within e =
        let found = first_of_range other (line flow a) rest (a + 1) n e in
        let low = found.1 in
        let high = found.2 in
        let same = differ a found.0 (omega (arith, within)) (omega (arith, within, high)) found.3 in
        omega (arith, same, low)

    flows_in : (flow other : ℕ → ℤ) (a n : ℕ) → a + n ≤ (graph world view).arcs
        → lines flow a n ≡ lines other a n → (k : ℕ) → a ≤ k → k < a + n → flow k ≡ other k
    flows_in flow other a zero within e k low high = absurd (omega (arith, low, high))
    flows_in flow other a (suc n) within e k low high =
        let at_or_behind : flow a ≡ other a → lines flow (a + 1) n ≡ lines other (a + 1) n
        → flow k ≡ other k = λ here more. elim (cases_eq a k) [
          | inl same ↦ ap flow (sym same) ∙ (here ∙ ap other same)
          | inr apart ↦
              flows_in flow other (a + 1) n (omega (arith, within)) more k
              (omega (arith, low, apart)) (omega (arith, high))
        ] in
        by_tests at_or_behind (shows flow a) (shows other a) refl refl e
      where
        by_tests : (flow a ≡ other a → lines flow (a + 1) n ≡ lines other (a + 1) n
            → flow k ≡ other k) → (b c : Bool) → shows flow a ≡ b → shows other a ≡ c
            → map (line flow) (cond b (a ∷ filter (shows flow) (range_with_len (a + 1) n))
            (filter (shows flow) (range_with_len (a + 1) n)))
            ≡ map (line other) (cond c (a ∷ filter (shows other) (range_with_len (a + 1) n))
            (filter (shows other) (range_with_len (a + 1) n)))
            → flow k ≡ other k
        by_tests go_on true true is also e =
            go_on
            (same_flow (line flow a) (line other a) (lines flow (a + 1) n) (lines other (a + 1) n)
            e)
            (same_rest (line flow a) (line other a) (lines flow (a + 1) n) (lines other (a + 1) n)
            e)
        by_tests go_on false false is also e =
            go_on (not_zero (flow a) is ∙ sym (not_zero (other a) also)) e
        by_tests go_on true false is also e =
            absurd (not_behind flow other a n (lines flow (a + 1) n) within e)
        by_tests go_on false true is also e =
            absurd (not_behind other flow a n (lines other (a + 1) n) within (sym e))

    flows_told : (flow other : ℕ → ℤ) → flow_lines world view flow ≡ flow_lines world view other
        → Same (graph world view).arcs flow other
    flows_told flow other e k below =
        flows_in flow other 0 (graph world view).arcs (omega arith) e k (omega arith)
        (omega (arith, below))

-- ---- replies

largest_lines : (a b : List FlowLine) (s t : List Name) (x y : ℤ)
    → replies.MaxFlow a s x ≡ replies.MaxFlow b t y → a ≡ b
largest_lines a b s t x y e = cc

circulation_lines : (a b : List FlowLine) → replies.Circulation a ≡ replies.Circulation b → a ≡ b
circulation_lines a b e = cc

cheapest_lines : (a b : List FlowLine) (s t : List PotentialLine) (x y : ℤ)
    → replies.Cheapest a s x ≡ replies.Cheapest b t y → a ≡ b
cheapest_lines a b s t x y e = cc

free_lines : (a b : List FlowLine) (s t : List ArcLine) (x y : ℤ)
    → replies.FreeCycle a s x ≡ replies.FreeCycle b t y → a ≡ b
free_lines a b s t x y e = cc

flow_or_barrier : (a : List FlowLine) (set : List Name) (over : Bool) (x y : ℤ)
    → replies.Circulation a ≡ replies.Barrier set over x y → ⊥
flow_or_barrier a set over x y e = cc

cheapest_or_barrier : (a : List FlowLine) (s : List PotentialLine) (t : ℤ) (set : List Name)
    (over : Bool) (x y : ℤ) → replies.Cheapest a s t ≡ replies.Barrier set over x y → ⊥
cheapest_or_barrier a s t set over x y e = cc

cheapest_or_free : (a b : List FlowLine) (s : List PotentialLine) (t : ℤ) (cycle : List ArcLine)
    (x : ℤ) → replies.Cheapest a s t ≡ replies.FreeCycle b cycle x → ⊥
cheapest_or_free a b s t cycle x e = cc

free_or_barrier : (a : List FlowLine) (s : List ArcLine) (t : ℤ) (set : List Name)
    (over : Bool) (x y : ℤ) → replies.FreeCycle a s t ≡ replies.Barrier set over x y → ⊥
free_or_barrier a s t set over x y e = cc

-- ---- worlds

cheapest_world : (world : World) (view : Name) (bounds : Bounds) (cost : Name) (into : Option Name)
    (reply : Reply) (later after : World) → ArcNamesDiffer world view
    → FindsCheapest world view bounds cost into reply later
    → FindsCheapest world view bounds cost into reply after → later ≡ after
cheapest_world world view bounds cost into reply later after differ (inl a) (inl b) =
    let lines = cheapest_lines _ _ _ _ _ _ (sym a.1.reply_is ∙ b.1.reply_is) in
    a.2
    ∙ (written_alike world view into a.0 b.0 (flows_told world view differ a.0 b.0 lines)
    ∙ sym b.2)
cheapest_world world view bounds cost into reply later after differ (inr (inl a)) (inr (inl b)) =
    a.1 ∙ sym b.1
cheapest_world world view bounds cost into reply later after differ (inr (inr a)) (inr (inr b)) =
    let lines = free_lines _ _ _ _ _ _ (sym a.1.reply_is ∙ b.1.reply_is) in
    a.2
    ∙ (written_alike world view into a.0 b.0 (flows_told world view differ a.0 b.0 lines)
    ∙ sym b.2)
cheapest_world world view bounds cost into reply later after differ (inl a) (inr (inl b)) =
    absurd (cheapest_or_barrier _ _ _ _ _ _ _ (sym a.1.reply_is ∙ b.0.reply_is))
cheapest_world world view bounds cost into reply later after differ (inr (inl a)) (inl b) =
    absurd (cheapest_or_barrier _ _ _ _ _ _ _ (sym b.1.reply_is ∙ a.0.reply_is))
cheapest_world world view bounds cost into reply later after differ (inl a) (inr (inr b)) =
    absurd (cheapest_or_free _ _ _ _ _ _ (sym a.1.reply_is ∙ b.1.reply_is))
cheapest_world world view bounds cost into reply later after differ (inr (inr a)) (inl b) =
    absurd (cheapest_or_free _ _ _ _ _ _ (sym b.1.reply_is ∙ a.1.reply_is))
cheapest_world world view bounds cost into reply later after differ (inr (inr a)) (inr (inl b)) =
    absurd (free_or_barrier _ _ _ _ _ _ _ (sym a.1.reply_is ∙ b.0.reply_is))
cheapest_world world view bounds cost into reply later after differ (inr (inl a)) (inr (inr b)) =
    absurd (free_or_barrier _ _ _ _ _ _ _ (sym b.1.reply_is ∙ a.0.reply_is))

pub answers_tell : AnswersTellWorlds
answers_tell world later after (commands.Dijkstra view length start) reply differ a b =
    a.1 ∙ sym b.1
answers_tell world later after (commands.Bellman view length start) reply differ (inl a) (inl b) =
    a.1 ∙ sym b.1
answers_tell world later after (commands.Bellman view length start) reply differ (inl a) (inr b) =
    a.1 ∙ sym b.1
answers_tell world later after (commands.Bellman view length start) reply differ (inr a) (inl b) =
    a.1 ∙ sym b.1
answers_tell world later after (commands.Bellman view length start) reply differ (inr a) (inr b) =
    a.1 ∙ sym b.1
answers_tell world later after (commands.MaxFlow view cap s t into) reply differ a b =
    let lines = largest_lines _ _ _ _ _ _ (sym a.1.reply_is ∙ b.1.reply_is) in
    a.2
    ∙ (written_alike world view into a.0 b.0 (flows_told world view differ a.0 b.0 lines)
    ∙ sym b.2)
answers_tell world later after (commands.Circulate view low up supply into) reply differ (inl a)
    (inl b) =
    let lines = circulation_lines _ _ (sym a.1.reply_is ∙ b.1.reply_is) in
    a.2
    ∙ (written_alike world view into a.0 b.0 (flows_told world view differ a.0 b.0 lines)
    ∙ sym b.2)
answers_tell world later after (commands.Circulate view low up supply into) reply differ (inl a)
    (inr b) = absurd (flow_or_barrier _ _ _ _ _ (sym a.1.reply_is ∙ b.0.reply_is))
answers_tell world later after (commands.Circulate view low up supply into) reply differ (inr a)
    (inl b) = absurd (flow_or_barrier _ _ _ _ _ (sym b.1.reply_is ∙ a.0.reply_is))
answers_tell world later after (commands.Circulate view low up supply into) reply differ (inr a)
    (inr b) = a.1 ∙ sym b.1
answers_tell world later after (commands.MinCost view low up cost supply into) reply differ a b =
    cheapest_world world view (bounds_of world view low up supply) cost into reply later after
    differ a b
answers_tell world later after (commands.Simplex view low up cost supply into) reply differ a b =
    let bounds = bounds_of world view low up supply in
    cheapest_world world view bounds cost into reply later after differ
    (as_cheapest world view bounds cost into reply later a)
    (as_cheapest world view bounds cost into reply after b)
answers_tell world later after (commands.Match view left) reply differ a b = a.1 ∙ sym b.1
answers_tell world later after (commands.Heaviest view left weight) reply differ a b = a.1 ∙ sym b.1
answers_tell world later after (commands.Assign view left cost) reply differ (inl a) (inl b) =
    a.1 ∙ sym b.1
answers_tell world later after (commands.Assign view left cost) reply differ (inl a) (inr b) =
    a.1 ∙ sym b.1
answers_tell world later after (commands.Assign view left cost) reply differ (inr a) (inl b) =
    a.1 ∙ sym b.1
answers_tell world later after (commands.Assign view left cost) reply differ (inr a) (inr b) =
    a.1 ∙ sym b.1
answers_tell world later after (commands.MeanCycle view length time) reply differ (inl a) (inl b) =
    a.1 ∙ sym b.1
answers_tell world later after (commands.MeanCycle view length time) reply differ (inl a) (inr b) =
    a.1 ∙ sym b.1
answers_tell world later after (commands.MeanCycle view length time) reply differ (inr a) (inl b) =
    a.1 ∙ sym b.1
answers_tell world later after (commands.MeanCycle view length time) reply differ (inr a) (inr b) =
    a.1 ∙ sym b.1
answers_tell world later after command reply differ a b = a.1 ∙ sym b.1
