use Rattle.std.proofs.Common.{sym}
use Rattle.token_text.proofs.EscapeLaws.{quoted_byte_from}
use Rattle.token_text.proofs.PlainBytes.{plain_quoted}
use Rattle.token_text.proofs.Places.{quoted_push, quoted_byte_ends}
use Rattle.token_text.proofs.tokens.read_quoted.Goals as goal

pub loop-byte-preserved : goal.loop-byte-preserved
loop-byte-preserved c =
    let byte = quoted_byte_from _ _ _ (sym c.in-Some.ensures) in
    rw c.in_ok-push.ensures.items (quoted_push _ _ _ _ _ c.loop-byte.invariant byte)

pub loop-byte-smaller : goal.loop-byte-smaller
loop-byte-smaller c = (quoted_byte_ends _ _ _ (quoted_byte_from _ _ _ (sym c.in-Some.ensures))).1

pub loop-byte-init : goal.loop-byte-init
loop-byte-init c = rw c.split_plain.ensures.split (rw c.in_ok-bytes.ensures.items
    (plain_quoted _ c.split_plain.result.1.now c.split_plain.ensures.plain))

pub returns-then-is_none-clause-quoted : goal.returns-then-is_none-clause-quoted
returns-then-is_none-clause-quoted c = rw c.split_plain.ensures.split (rw c.in_ok-copy_text.ensures
    (plain_quoted _ c.split_plain.result.1.now c.split_plain.ensures.plain))
