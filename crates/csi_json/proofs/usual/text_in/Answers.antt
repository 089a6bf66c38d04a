-- The text is read where it stands.
use Rattle.csi_json.proofs.PlainTexts.{text_read}
use Rattle.csi_json.proofs.usual.text_in.Goals as goal

pub returns-in-Ok : goal.returns-in-Ok
returns-in-Ok g c =
    text_read g.row.MOST c.args.value.now c.in-String.text c.in-Ok.text c.try_new.result c.in-String.is c.in-Ok.is c.in-Ok.ensures.ok c.try_new.ensures.empty c.try_new.ensures.too_long
