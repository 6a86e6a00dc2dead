use Rattle.plain_certificates.proofs.Numbering.{numbered_has_ends, numbered_keeps_ends}
use Rattle.plain_certificates.proofs.views.numbered_view_keeps_ends.Goals as goal

pub returns : goal.returns
returns c = record { nodes = numbered_has_ends; same = numbered_keeps_ends }
