-- By the keys.
use Rattle.std.proofs.Common.{◌∙◌}
use Rattle.csi_types.specs.Model.Same.{same_text}
use Rattle.csi_controller.specs.Public.OneRow.{RowShown}
use Rattle.csi_controller.proofs.NameMaps.{id-texts}
use Rattle.csi_controller.proofs.SameText.{text-turned}
use Rattle.csi_controller.proofs.names.id_of_name.Goals as goal

pub returns-in-Some : goal.returns-in-Some
returns-in-Some c = λ rows is.
    c.in-Some.ensures.value
    ∙ id-texts _ (λ (row : RowShown). same_text row.volume.name c.args.name.now) c.args.ids.now.entries rows is (λ row. text-turned c.args.name.now row.volume.name)

pub returns-in-None : goal.returns-in-None
returns-in-None c = λ rows is.
    c.in-None.ensures.value
    ∙ id-texts _ (λ (row : RowShown). same_text row.volume.name c.args.name.now) c.args.ids.now.entries rows is (λ row. text-turned c.args.name.now row.volume.name)
