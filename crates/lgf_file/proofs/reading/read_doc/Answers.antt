use Rattle.std.proofs.lemmas.Bool.{lt-ltb}
use Rattle.token_text.specs.Lines.{lines_of}
use Rattle.lgf_file.proofs.FirstFaults.{no_nodes, no_arcs, arcs_first}
use Rattle.lgf_file.proofs.SectionsRead.{rows_found, refused, spelled, blamed, exact, exact_fault}
use Rattle.lgf_file.proofs.reading.read_doc.Goals as goal

pub returns-in_default-clause-refused : goal.returns-in_default-clause-refused
returns-in_default-clause-refused c =
    let found = c.find_sections-sections.ensures in
    let nodes = rw c.in_default.is at found.nodes in
    rw c.fault_at.ensures
    (refused c.args.bytes.now _ (no_nodes (lines_of c.args.bytes.now) _ nodes found.end))

pub returns-in_default-arcs-clause-refused : goal.returns-in_default-arcs-clause-refused
returns-in_default-arcs-clause-refused c =
    let found = c.find_sections-sections.ensures in
    let nodes = rw c.in-Some.is at found.nodes in
    let arcs = rw c.in_default-arcs.is at found.arcs in
    rw c.fault_at-in_default-arcs.ensures
    (refused c.args.bytes.now _ (no_arcs (lines_of c.args.bytes.now) _ _ nodes arcs found.end))

pub returns-then-arcs-nodes-clause-refused : goal.returns-then-arcs-nodes-clause-refused
returns-then-arcs-nodes-clause-refused c =
    let found = c.find_sections-sections.ensures in
    let nodes = rw c.in-Some.is at found.nodes in
    let arcs = rw c.in-Some-arcs.is at found.arcs in
    let before = lt-ltb c.in-Some-arcs.arcs.at c.in-Some.nodes.at c.if-arcs-nodes.true in
    rw c.fault_at-then-arcs-nodes.ensures
    (refused c.args.bytes.now _ (arcs_first (lines_of c.args.bytes.now) _ _ nodes arcs before))

pub returns : goal.returns
returns c =
    let bytes = c.args.bytes.now in
    let result = c.read_parts.result in
    let found = c.find_sections-sections.ensures in
    let nodes = rw c.in-Some.is at found.nodes in
    let arcs = rw c.in-Some-arcs.is at found.arcs in
    let attributes = rows_found c.find_sections-sections.result.attributes _ found.attributes in
    let right = spelled bytes _ _ _ nodes arcs attributes c.if-arcs-nodes.false result
    c.read_parts.ensures.spelled c.read_parts.ensures.valid in
    let wrong = blamed bytes _ _ _ nodes arcs attributes c.if-arcs-nodes.false result
    c.read_parts.ensures.bad in
    record {
      spelled = right;
      valid = c.read_parts.ensures.valid;
      refused = wrong;
      exact = exact bytes result right wrong;
      exact_fault = exact_fault bytes result right wrong;
    }
