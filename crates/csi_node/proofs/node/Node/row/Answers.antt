-- The copy shows what the row shows that is found.
use Rattle.std.specs.Prelude.{None, Some}
use Rattle.csi_node.proofs.CopiedRows.{copy-found, none-found, found-clash, row-shows}
use Rattle.csi_node.proofs.node.Node.row.Goals as goal

pub returns-in_err-clone-in-Some-clause-succeeds : goal.returns-in_err-clone-in-Some-clause-succeeds
returns-in_err-clone-in-Some-clause-succeeds c = λ none. absurd (found-clash c.args.self.now.rows c.args.id c.in-Some.row.now c.in-Some.ensures.row none)

pub returns-in_ok-clone-in-Some-clause-row : goal.returns-in_ok-clone-in-Some-clause-row
returns-in_ok-clone-in-Some-clause-row c = copy-found c.args.self.now.rows c.args.id c.in-Some.row.now c.in_ok-clone-in-Some.field-0 c.in-Some.ensures.row c.in_ok-clone-in-Some.ensures.cases

pub returns-in_ok-clone-in-Some-clause-shows : goal.returns-in_ok-clone-in-Some-clause-shows
returns-in_ok-clone-in-Some-clause-shows c = λ state shows.
    row-shows c.args.self.now.rows state c.args.id shows.shows (Some c.in_ok-clone-in-Some.field-0)
    (copy-found c.args.self.now.rows c.args.id c.in-Some.row.now c.in_ok-clone-in-Some.field-0 c.in-Some.ensures.row c.in_ok-clone-in-Some.ensures.cases)

pub returns-in-None-clause-row : goal.returns-in-None-clause-row
returns-in-None-clause-row c = none-found c.args.self.now.rows c.args.id c.in-None.ensures.row

pub returns-in-None-clause-shows : goal.returns-in-None-clause-shows
returns-in-None-clause-shows c = λ state shows. row-shows c.args.self.now.rows state c.args.id shows.shows None (none-found c.args.self.now.rows c.args.id c.in-None.ensures.row)
