-- Rows that keep the rules of a record show a state.
use Rattle.std.proofs.Common.{◌≡◌, List, map, refl, sym, ◌∙◌, ap}
use Rattle.std.specs.Prelude.{Option, Some, None, option_map, option_to_list, ◌==◌}
use Rattle.std.specs.List.{flat_map}
use Rattle.std.proofs.lemmas.List.{length-map}
use Rattle.csi_types.proofs.Filters.{filter-of_map}
use Rattle.csi_types.proofs.PassingByKey.{filter-found, once-rising}
use Rattle.csi_node.specs.Model.State.{NodeState, AnsweredVolume, StagedVolume, PublishedVolume}
use Rattle.csi_node.specs.Model.OneRow.{NodeRowShown}
use Rattle.csi_node.specs.Public.OneRow.{state_shown}
use Rattle.csi_node.specs.Model.Record.{NodeParts, Shows, parts}
use Rattle.csi_node.specs.Public.Record.{AreSoundRows}
use Rattle.csi_node.proofs.ShownAfter.{row_of, answered_of, shows-from_all}
use Rattle.csi_node.proofs.RecordRules.{rows_rise}
use Rattle.csi_node.proofs.Readers.{of_one, staged_own, published_own, staged_part, published_part}

-- the state of this session in which the volumes stand by rising id
abbrev state_by_id : NodeParts → NodeState
state_by_id node = record {
  rows = map answered_of (parts node.rows);
  session = node.session;
  staged = flat_map (λ (row : NodeRowShown). (state_shown row).staged) (parts node.rows);
  published = flat_map (λ (row : NodeRowShown). (state_shown row).published) (parts node.rows);
}

-- what is kept in a row, if there is one
kept_part : (o : Option NodeRowShown) → option_to_list (option_map answered_of o) ≡ map answered_of (option_to_list o)
kept_part None = refl
kept_part (Some row) = refl

-- rows that keep the rules of a record show a state
pub shows-a_state : (node : NodeParts) → AreSoundRows (parts node.rows) → (state : NodeState) × Shows node state
shows-a_state node rules =
    let rows : List NodeRowShown = parts node.rows in
    let rise = rows_rise rows rules.rising in (
      state_by_id node,
      record {
        shows = shows-from_all node.rows (state_by_id node) (record {
          count = sym (length-map rows answered_of);
          kept = λ id.
              kept_part (row_of id rows)
              ∙ ap (map answered_of) (sym (filter-found (λ (row : NodeRowShown). row.id == id) rows (once-rising (λ (row : NodeRowShown). row.id) rows rise id)))
              ∙ sym (filter-of_map (λ (row : AnsweredVolume). row.id == id) answered_of rows);
          staged = λ id. ap (map (λ (s : StagedVolume). s.capability)) (sym (of_one (λ (s : StagedVolume). s.volume) (λ row. (state_shown row).staged) (λ row. staged_own row.id row.staged) id rows rise ∙ staged_part (row_of id rows)));
          published = λ id. sym (of_one (λ (p : PublishedVolume). p.volume) (λ row. (state_shown row).published) (λ row. published_own row.id row.staged row.targets) id rows rise ∙ published_part (row_of id rows));
        });
        session = refl;
      },
    )
