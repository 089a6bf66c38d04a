-- By the keys.
use Rattle.std.proofs.Common.{◌∙◌}
use Rattle.csi_types.specs.Model.Same.{same_text}
use Rattle.csi_controller.specs.Public.OneRow.{RowShown}
use Rattle.csi_controller.proofs.NameMaps.{position-texts}
use Rattle.csi_controller.proofs.SameText.{text-turned}
use Rattle.csi_controller.proofs.names.place_of_name.Goals as goal

pub returns : goal.returns
returns c = λ rows is.
    c.get_index_of.ensures.index
    ∙ position-texts _ (λ (row : RowShown). same_text row.volume.name c.args.name.now) c.args.ids.now.entries rows is (λ row. text-turned c.args.name.now row.volume.name)
