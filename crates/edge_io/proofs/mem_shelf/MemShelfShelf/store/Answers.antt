use Rattle.std.proofs.Common.{◌≡◌, true, Result, Ok, Err, inl, refl, ap, sym, ◌∙◌}
use Rattle.std.specs.Prelude.{is_err, OnErr}
use Rattle.std.proofs.lemmas.Option.{same_Some}
use Rattle.edge_io.specs.Memory.{ShelfInMemory}
use Rattle.edge_io.proofs.mem_shelf.MemShelfShelf.store.Goals as goal

at_err : {T E P : Type 0} (r : Result T E) → is_err r ≡ true → OnErr r P → P
at_err (Ok x) e p = absurd (cc)
at_err (Err y) e p = p

pub returns-then-contains-clause-part : goal.returns-then-contains-clause-part
returns-then-contains-clause-part c = λ all told.
    let files = λ (shelf : ShelfInMemory). shelf.files in
    (_, refl, inl (ap files c.self.view_is ∙ same_Some _ _ told))

pub returns-then-is_err-clause-part : goal.returns-then-is_err-clause-part
returns-then-is_err-clause-part c = λ all told.
    let files = λ (shelf : ShelfInMemory). shelf.files in
    let failed = sym c.is_err.ensures.value ∙ c.if-is_err.true in
    let kept = at_err c.keep.result failed c.keep.ensures.err in (
      _,
      refl,
      inl (ap files (c.self-2.view_is ∙ kept) ∙ ap files c.self.view_is
          ∙ same_Some _ _ told),
    )
