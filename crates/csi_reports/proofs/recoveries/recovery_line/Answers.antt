-- The text is that of the tokens, with nodes and names in place.
use Rattle.std.proofs.Common.{◌≡◌, ℕ, List, map, ap, ◌∙◌, sym, subst, length}
use Rattle.std.proofs.lemmas.List.{length-map}
use Rattle.std.specs.Borrow.{Bor}
use Rattle.serde_json.specs.Written.{compact_text}
use Rattle.csi_node.specs.Model.Record.{NodeParts}
use Rattle.csi_orchestrator.specs.Model.Shown.{RowShown}
use Rattle.csi_orchestrator.specs.Public.Shown.{row_shown}
use Rattle.csi_reports.specs.Public.ByName.{name_place, wanted_names}
use Rattle.csi_reports.specs.Public.Order.{IsInPlace}
use Rattle.csi_reports.specs.Public.Recoveries.{once, lost_of_rows, recovery_entry}
use Rattle.csi_reports.proofs.WrittenSteps.{alone}
use Rattle.csi_reports.proofs.recoveries.recovery_line.Goals as goal

pub returns : goal.returns
returns c =
    let see : Bor (List ℕ) → List ℕ = λ name. name.now in
    let ids = map (λ (kept : NodeParts). kept.id) c.args.given.now in
    let own = c.rows-rows.ensures.value in
    let many : length c.rows-rows.result.now ≡ length c.args.kept.now.rows = sym (length-map c.rows-rows.result.now row_shown) ∙ ap length own in
    record {
      lost = c.in_ok-lost.lost.items;
      are_lost = subst (λ (rows : List RowShown). IsInPlace name_place (once (lost_of_rows ids rows)) c.in_ok-lost.lost.items) own c.in_ok-lost.ensures;
      wanted = map see c.in_ok-wanted.wanted.items;
      are_wanted = subst (λ (rows : List RowShown). IsInPlace name_place (wanted_names rows) (map see c.in_ok-wanted.wanted.items)) own c.in_ok-wanted.ensures;
      written = c.into_string.ensures (recovery_entry c.deref.result.now c.session.result (length c.rows-rows.result.now) (map see c.deref-2.result.now)) (alone _ _ _ c.new-out.ensures c.in_ok-write_recovery.ensures)
          ∙ (λ i. compact_text (recovery_entry (c.deref.ensures.value i) (c.session.ensures i) (many i) (map see (c.deref-2.ensures.value i))));
    }
