use Rattle.std.proofs.Common.{◌∙◌, ap, rules, sym, None, Some}
use Rattle.std.specs.Option.{option_copied}
use Rattle.csi_controller.specs.Public.OneRow.{row_shown}
use Rattle.csi_controller.proofs.RowLines.{unpublish-line}
use Rattle.csi_controller.proofs.controller.row_table.unpublish_line.Goals as goal

pub returns-in-Some : goal.returns-in-Some
returns-in-Some c = record { line = unpublish-line (row_shown c.args.row.now) c.args.node.now (Some c.in-Some.field-0.now) (sym c.held_at.ensures ∙ ap option_copied c.in-Some.is); id = search rules; plain = search rules }

pub returns-in-None : goal.returns-in-None
returns-in-None c = record { line = unpublish-line (row_shown c.args.row.now) c.args.node.now None (sym c.held_at.ensures ∙ ap option_copied c.in-None.is); id = search rules; plain = search rules }
