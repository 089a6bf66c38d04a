-- The bytes are a text, or aren't.
use Rattle.std.proofs.Common.{refl}
use Rattle.csi_json.specs.Public.Requests.{line_request}
use Rattle.csi_json.proofs.AskedCommands.{text-asked}
use Rattle.csi_json.proofs.LineTexts.{no_text, read_line}
use Rattle.csi_json.proofs.request.read_request.Goals as goal

pub returns-in-Ok-clause-read : goal.returns-in-Ok-clause-read
returns-in-Ok-clause-read c =
    let same = read_line c.args.line.now c.in-Ok.text.now c.in-Ok.ensures.cases.0 c.in-Ok.ensures.cases.1 in
    rw same c.text_request.ensures.read

pub returns-in-Ok-clause-asked : goal.returns-in-Ok-clause-asked
returns-in-Ok-clause-asked c = text-asked c.in-Ok.text.now c.text_request.result c.text_request.ensures.read

pub returns-in-Ok-clause-fault : goal.returns-in-Ok-clause-fault
returns-in-Ok-clause-fault c =
    let same = read_line c.args.line.now c.in-Ok.text.now c.in-Ok.ensures.cases.0 c.in-Ok.ensures.cases.1 in
    rw same c.text_request.ensures.fault

pub returns-in-Err-clause-fault : goal.returns-in-Err-clause-fault
unfolding line_request
returns-in-Err-clause-fault c = rw (no_text c.args.line.now c.in-Err.ensures.cases.0) refl
