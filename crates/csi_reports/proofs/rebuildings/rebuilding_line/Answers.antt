-- The text is that of the tokens, with the names in place.
use Rattle.std.proofs.Common.{ℕ, List, map, ap, ◌∙◌, sym, subst, length}
use Rattle.std.specs.Borrow.{Bor}
use Rattle.serde_json.specs.Written.{compact_text}
use Rattle.csi_controller.specs.Public.Core.{AreSoundRows}
use Rattle.csi_orchestrator.specs.Model.Shown.{RowShown}
use Rattle.csi_reports.specs.Public.ByName.{name_place, creating_names}
use Rattle.csi_reports.specs.Public.Order.{IsInPlace}
use Rattle.csi_reports.specs.Public.Rebuildings.{attachments_of, rebuilding_entry}
use Rattle.csi_reports.proofs.Attachments.{attached-few}
use Rattle.csi_reports.proofs.WrittenSteps.{alone}
use Rattle.csi_reports.proofs.rebuildings.rebuilding_line.Goals as goal

pub attachments-attached-requires : goal.attachments-attached-requires
attachments-attached-requires c = attached-few c.args.made.now.next_id c.rows-rows.result.now (subst (AreSoundRows c.args.made.now.next_id) (sym c.rows-rows.ensures.value) c.rows-rows.ensures.sound)

pub returns : goal.returns
returns c =
    let see : Bor (List ℕ) → List ℕ = λ name. name.now in
    let own = c.rows-rows.ensures.value in
    let attached = c.attachments-attached.ensures ∙ ap attachments_of own in
    record {
      creating = map see c.in_ok-creating.creating.items;
      are_creating = subst (λ (rows : List RowShown). IsInPlace name_place (creating_names rows) (map see c.in_ok-creating.creating.items)) c.rows.ensures.value c.in_ok-creating.ensures;
      written = c.into_string.ensures (rebuilding_entry c.attachments-attached.result (map see c.deref.result.now) c.next_id.result c.session.result (length c.rows-rows.result.now)) (alone _ _ _ c.new-out.ensures c.in_ok-write_rebuilding.ensures)
          ∙ (λ i. compact_text (rebuilding_entry (attached i) (map see (c.deref.ensures.value i)) (c.next_id.ensures i) (c.session.ensures i) (length (own i))));
    }
