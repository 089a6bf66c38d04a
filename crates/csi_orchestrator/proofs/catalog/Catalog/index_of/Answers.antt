-- By the keys.
use Rattle.csi_orchestrator.proofs.Words.{◌∙◌, rules, same_text, Row, rows_of, by_name}
use Rattle.csi_orchestrator.proofs.RowsUnderNames.{position-keys}
use Rattle.csi_orchestrator.proofs.TextLists.{same_text-flip}
use Rattle.csi_orchestrator.proofs.catalog.Catalog.index_of.Goals as goal

pub returns : goal.returns
returns c =
    record {
      index =
          c.get_index_of.ensures.index
          ∙ position-keys by_name _ (λ (row : Row). same_text row.name c.args.name.now) c.args.self.now.rows.entries (rows_of c.args.self.now) c.requires.rows (λ row. same_text-flip c.args.name.now row.name);
      within = search rules;
    }
