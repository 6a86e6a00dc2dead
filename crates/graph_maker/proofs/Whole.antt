-- A graph goes out in its four parts.
use Rattle.std.proofs.Common.{◌≡◌, ℕ, ◌%◌, ◌<◌, List, [], ◌++◌, Option, refl, sym, ap, ◌∙◌, subst}
use Rattle.std.proofs.lemmas.List.{append-nil}
use Rattle.edge_io.specs.Files.{Took}
use Rattle.lgf_file.specs.Plain.{plain}
use Rattle.plain_machine.specs.declared.statuses.Status.{Status}
use Rattle.plain_machine.specs.Generator.{made}
use Rattle.graph_maker.specs.Cells.{nodes_text, arcs_text}
use Rattle.graph_maker.specs.Sending.{Sends, Stops}
use Rattle.graph_maker.proofs.Drawn.{nodes_head, arcs_head, made_text, in_two, in_three}
use Rattle.graph_maker.proofs.Drawn.{first_part, second_part}
use Rattle.graph_maker.proofs.Sent.{sends_nothing, sends_on, stops_on, all_sent}

module _ (seed nodes arcs : ℕ) (some : (n : ℕ) → n % nodes < nodes)
    (old new : Option (List ℕ)) (start : List ℕ) (none : start ≡ []) (first now : ℕ) where
  abbrev whole : List ℕ
  whole = plain (made seed nodes arcs)

  abbrev arc_lines : List ℕ
  arc_lines = arcs_text seed nodes arcs

  abbrev one : List ℕ
  one = first_part seed nodes arcs some

  abbrev two : List ℕ
  two = second_part seed nodes arcs some

  behind : (text : List ℕ) → whole ≡ text → whole ≡ start ++ text
  behind text is = is ∙ ap (λ xs. xs ++ text) (sym none)

  pub stops_first : (status : Status) → Stops old new (start ++ nodes_head) first now status
      → Stops old new whole first now status
  stops_first status then =
      stops_on old old new start start [] nodes_head
      (nodes_text nodes ++ (arcs_head ++ arc_lines)) whole first first now status refl
      (sends_nothing old start) then
      (behind (nodes_head ++ (nodes_text nodes ++ (arcs_head ++ arc_lines)))
      (made_text seed nodes arcs some))

  module _ (mid : Option (List ℕ)) (kept : List ℕ) (before : ℕ) (same : before ≡ first)
      (status : Status) where
    pub stops_second : Sends old mid start kept nodes_head
        → Stops mid new (kept ++ nodes_text nodes) before now status
        → Stops old new whole first now status
    stops_second was then =
        stops_on old mid new start kept nodes_head (nodes_text nodes) (arcs_head ++ arc_lines)
        whole first before now status same was then
        (behind (nodes_head ++ (nodes_text nodes ++ (arcs_head ++ arc_lines)))
        (made_text seed nodes arcs some))

    pub stops_third : Sends old mid start kept one
        → Stops mid new (kept ++ arcs_head) before now status
        → Stops old new whole first now status
    stops_third was then =
        stops_on old mid new start kept one arcs_head arc_lines whole first before now status same
        was then (behind (one ++ (arcs_head ++ arc_lines)) (in_two seed nodes arcs some))

    pub stops_fourth : Sends old mid start kept two
        → Stops mid new (kept ++ arc_lines) before now status
        → Stops old new whole first now status
    stops_fourth was then =
        stops_on old mid new start kept two arc_lines [] whole first before now status same was
        then (behind (two ++ (arc_lines ++ []))
        (in_three seed nodes arcs some ∙ ap (λ xs. two ++ xs) (sym (append-nil arc_lines))))

    pub stops_last : Sends old mid start kept (two ++ arc_lines)
        → Stops mid new kept before now status → Stops old new whole first now status
    stops_last was then =
        stops_on old mid new start kept (two ++ arc_lines) [] [] whole first before now status same
        was (subst (λ text. Stops mid new text before now status) (sym (append-nil kept)) then)
        (behind ((two ++ arc_lines) ++ [])
        (in_three seed nodes arcs some ∙ sym (append-nil (two ++ arc_lines))))

  pub goes_out : (mid : Option (List ℕ)) (kept rest : List ℕ)
      → Sends old mid start kept (two ++ arc_lines) → Sends mid new kept rest [] → rest ≡ []
      → Took old new whole
  goes_out mid kept rest was then over =
      all_sent old new start rest ((two ++ arc_lines) ++ []) whole
      (sends_on old mid new start kept rest (two ++ arc_lines) [] was then) over
      (behind ((two ++ arc_lines) ++ [])
      (in_three seed nodes arcs some ∙ sym (append-nil (two ++ arc_lines))))
