-- The text is that of the tokens of one member.
use Rattle.std.proofs.Common.{refl, codes, ◌∷◌, []}
use Rattle.json.specs.Token.{begin_object}
use Rattle.csi_reports.specs.Public.Responses.{fault_entry}
use Rattle.csi_reports.proofs.WrittenSteps.{next, alone, of_text}
use Rattle.csi_reports.proofs.responses.fault_line.Goals as goal

pub returns : goal.returns
returns c =
    c.into_string.ensures (fault_entry c.args.name.now)
    (alone _ _ _ c.new-out.ensures
    (next _ _ _ _ (begin_object ∷ []) _ c.in_ok-begin_object.ensures refl
    (next _ _ _ _ (of_text (codes "fault") c.args.name.now) _ c.in_ok-put_text.ensures refl c.in_ok-end_object.ensures)))
