-- Texts that go out one behind the other.
use Rattle.std.proofs.Common.{◌≡◌, ℕ, List, [], ◌++◌, Option, Some, None, refl, sym, ap, ◌∙◌, take}
use Rattle.std.proofs.Common.{length, subst, inl, inr}
use Rattle.std.proofs.Common.{Result, Ok, Err}
use Rattle.std.specs.Prelude.{◌⊎◌, option_map, OnOk, IfErr}
use Rattle.std.proofs.lemmas.List.{append-nil, append_assoc}
use Rattle.std.proofs.Math.Seq.{take-append_seam}
use Rattle.edge_io.specs.Files.{Took}
use Rattle.plain_machine.specs.declared.statuses.Status.{Status}
use Rattle.plain_machine.specs.declared.statuses.Status.TheVariants as statuses
use Rattle.plain_machine.specs.Outcome.{IsPrefixOf, EndsText}
use Rattle.plain_machine.specs.Statuses.{EndsByFault}
use Rattle.graph_maker.specs.Sending.{Sends, Stops, StopsBy}

pub took_nothing : (old : Option (List ℕ)) → Took old old []
took_nothing None = refl
took_nothing (Some taken) = ap Some (sym (append-nil taken))

took_both : (old mid new : Option (List ℕ)) (first second : List ℕ) → Took old mid first
    → Took mid new second → Took old new (first ++ second)
took_both None mid new first second one two =
    two ∙ ap (λ o. option_map (λ taken. taken ++ second) o) one
took_both (Some taken) mid new first second one two =
    two ∙ ap (λ o. option_map (λ taken. taken ++ second) o) one
    ∙ ap Some (append_assoc taken first second)

-- nothing was done yet
pub sends_nothing : (old : Option (List ℕ)) (held : List ℕ) → Sends old old held held []
sends_nothing old held = record {
  sent = [];
  took = took_nothing old;
  whole = sym (append-nil held);
}

module _ (old mid new : Option (List ℕ)) (held kept rest text more : List ℕ) where
  -- more is held
  pub sends_more : Sends old mid held kept text → rest ≡ kept ++ more
      → Sends old mid held rest (text ++ more)
  sends_more was put = record {
    sent = was.sent;
    took = was.took;
    whole = ap (λ xs. was.sent ++ xs) put ∙ sym (append_assoc was.sent kept more)
        ∙ ap (λ xs. xs ++ more) was.whole ∙ append_assoc held text more;
  }

  -- another text went after the first
  pub sends_on : Sends old mid held kept text → Sends mid new kept rest more
      → Sends old new held rest (text ++ more)
  sends_on was then = record {
    sent = was.sent ++ then.sent;
    took = took_both old mid new was.sent then.sent was.took then.took;
    whole = append_assoc was.sent then.sent rest
        ∙ ap (λ xs. was.sent ++ xs) then.whole ∙ sym (append_assoc was.sent kept more)
        ∙ ap (λ xs. xs ++ more) was.whole ∙ append_assoc held text more;
  }

-- it ends early while another text is sent
pub stops_on : (old mid new : Option (List ℕ)) (held kept text more after whole : List ℕ)
    (first before now : ℕ) (status : Status) → before ≡ first → Sends old mid held kept text
    → Stops mid new (kept ++ more) before now status → whole ≡ held ++ (text ++ (more ++ after))
    → Stops old new whole first now status
stops_on old mid new held kept text more after whole first before now status same was then is =
    record {
      sent = was.sent ++ then.sent;
      rest = then.rest ++ after;
      took = took_both old mid new was.sent then.sent was.took then.took;
      whole = is ∙ sym (append_assoc held text (more ++ after))
          ∙ ap (λ xs. xs ++ (more ++ after)) (sym was.whole)
          ∙ append_assoc was.sent kept (more ++ after)
          ∙ ap (λ xs. was.sent ++ xs) (sym (append_assoc kept more after)
          ∙ ap (λ xs. xs ++ after) then.whole ∙ append_assoc then.sent then.rest after)
          ∙ sym (append_assoc was.sent then.sent (then.rest ++ after));
      cause = subst (λ n. StopsBy status n now) same then.cause;
    }

-- there is no memory for any of it
pub stops_short : (old : Option (List ℕ)) (text : List ℕ) (count : ℕ)
    → Stops old old text count count statuses.Memory
stops_short old text count = record {
  sent = [];
  rest = text;
  took = took_nothing old;
  whole = refl;
  cause = refl;
}

-- nothing is held in the end
pub all_sent : (old new : Option (List ℕ)) (held rest text whole : List ℕ)
    → Sends old new held rest text → rest ≡ [] → whole ≡ held ++ text → Took old new whole
all_sent old new held rest text whole was none is =
    subst (Took old new)
    (sym (append-nil was.sent) ∙ ap (λ xs. was.sent ++ xs) (sym none) ∙ was.whole ∙ sym is)
    was.took

-- ---- the outcome

front : (sent rest text : List ℕ) → text ≡ sent ++ rest → IsPrefixOf sent text
front sent rest text is =
    (length sent, sym (ap (take (length sent)) is ∙ take-append_seam sent rest))

pub stopped_ends : (old new : Option (List ℕ)) (text : List ℕ) (before now : ℕ) (status : Status)
    → (was : Stops old new text before now status) → EndsText text was.sent before now status
stopped_ends old new text before now statuses.Done was = absurd was.cause
stopped_ends old new text before now statuses.SomeRefused was = absurd was.cause
stopped_ends old new text before now statuses.Usage was = absurd was.cause
stopped_ends old new text before now statuses.BadGraph was = absurd was.cause
stopped_ends old new text before now statuses.ReadFault was = absurd was.cause
stopped_ends old new text before now statuses.WriteFault was =
    (front was.sent was.rest text was.whole, was.cause)
stopped_ends old new text before now statuses.Memory was =
    front was.sent was.rest text was.whole
stopped_ends old new text before now statuses.TooLong was = absurd was.cause

pub stopped_quiet : (old new : Option (List ℕ)) (text : List ℕ) (before now : ℕ)
    (status : Status) → Stops old new text before now status
    → EndsByFault status ⊎ (now ≡ before)
stopped_quiet old new text before now statuses.Done was = absurd was.cause
stopped_quiet old new text before now statuses.SomeRefused was = absurd was.cause
stopped_quiet old new text before now statuses.Usage was = absurd was.cause
stopped_quiet old new text before now statuses.BadGraph was = absurd was.cause
stopped_quiet old new text before now statuses.ReadFault was = absurd was.cause
stopped_quiet old new text before now statuses.WriteFault was =
    inl tt
stopped_quiet old new text before now statuses.Memory was =
    inr was.cause
stopped_quiet old new text before now statuses.TooLong was = absurd was.cause

-- ---- results

pub on_ok_both : {T E A B P : Type 0} (r : Result T E) → (A → B → P) → OnOk r A → OnOk r B
    → OnOk r P
on_ok_both (Ok x) f a b = f a b
on_ok_both (Err y) f a b = tt

pub if_err_so : {T E : Type 0} {Q P : E → Type 0} (r : Result T E) → ((y : E) → Q y → P y)
    → IfErr r Q → IfErr r P
if_err_so (Ok x) f q = tt
if_err_so (Err y) f q = f y q
