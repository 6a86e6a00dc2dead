-- Bytes that stand for themselves in quotes.
use Rattle.std.proofs.Common.{◌≡◌, ℕ, true, List, [], ◌∷◌, ◌++◌, refl}
use Rattle.std.proofs.lemmas.Bool.{and_parts, not-true, eqb-false}
use Rattle.std.specs.Prelude.{◌==◌, not}
use Rattle.std.specs.List.{list_all}
use Rattle.token_text.specs.Grammar.{plain, QuotedBytes}
use Rattle.token_text.specs.Scan.{is_plain}

-- Such bytes are those that stand there in quotes.
pub plain_quoted : (bytes rest : List ℕ) → list_all is_plain bytes ≡ true
    → QuotedBytes (bytes ++ rest) bytes rest
plain_quoted [] rest all = refl
plain_quoted (byte ∷ bytes) rest all =
    let parts = and_parts (is_plain byte) (list_all is_plain bytes) all in
    let tests = and_parts (not (byte == 34)) (not (byte == 92)) parts.0 in (
      bytes ++ rest,
      plain refl (eqb-false byte 34 (not-true (byte == 34) tests.0))
          (eqb-false byte 92 (not-true (byte == 92) tests.1)),
      plain_quoted bytes rest parts.1,
    )
