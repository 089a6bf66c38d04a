-- Runs of either plugin over one store are one run, whoever keeps it: two, and three.
use Rattle.std.proofs.Common.{◌≡◌, ◌∙◌, inl, inr, ℕ, None, Some, map, length, List, sym, ap, subst, arith}
use Rattle.std.specs.Prelude.{Option}
use Rattle.csi_types.specs.Model.Frame.{Frame}
use Rattle.csi_types.specs.Model.Config.{Config}
use Rattle.csi_node.specs.Model.OneRow.{node_row_shown}
use Rattle.csi_records.specs.Public.Laws.{RecordLaws}
use Rattle.csi_records.specs.Public.Records.{node_layout, IsRecordOf}
use Rattle.csi_records.specs.Public.Spelling.{present, volume_row}
use Rattle.csi_service.specs.Public.NodeOpening.{IsOfEarlierSession}
use Rattle.csi_service.specs.Public.Services.{controller_service_parts, NodeService, node_service_parts}
use Rattle.csi_service.specs.Public.StoreOpening.{StaysFor}
use Rattle.csi_service.proofs.JoinedSessions.{not-earlier}
use Rattle.csi_service.proofs.RecordParts.{node-wanted}
use Rattle.csi_stores.specs.Public.Part.{StoredPart}
use Rattle.csi_plugins.specs.declared.kind.AskedPlugin.TheVariants.{Controller, Node}
use Rattle.csi_plugins.specs.Public.Serving.{IsNodeJoined, NodeServes}
use Rattle.csi_plugins.specs.Public.Joined.{Process, Sight, controller_way, node_way, Opened, Reopens, RunsLaw, ThreeRunsLaw}
use Rattle.csi_plugins.proofs.JoinedRuns.{IsSteady, onward, found-again, found-past, three-joined}

-- a controller's records
controller-steady : RecordLaws → (config : Config) → IsSteady (controller_way config)
controller-steady laws config = record {
  keeps = λ old new frame reply answered asked.
      let next = answered.1 asked.1 in
      let kept = next.1.0 in
      ((answered.0.own ∙ asked.0, next.0), record { first = record { own = kept.next_id; session = Some kept.session }; rows = map volume_row kept.rows; spelled = next.1.1 });
  told = λ parts version is other. sym (laws.controller.parts present version is.first other.first is.rows other.rows parts is.spelled other.spelled).0;
  some = λ parts is none. omega (arith, ap length (sym none ∙ is.spelled.are));
  whole = λ parts place is at. (laws.controller.refusals parts).none place (record { version = present; there = is }) at;
}

-- a node's
node-steady : RecordLaws → (id : List ℕ) (session : ℕ) → IsSteady (node_way id session)
node-steady laws id session = record {
  keeps = keeps;
  told = λ parts version is other. sym ((laws.node (Some id)).parts present version is.first other.first is.rows other.rows parts is.spelled other.spelled).0;
  some = λ parts is none. omega (arith, ap length (sym none ∙ is.spelled.are));
  whole = λ parts place is at. ((laws.node (Some id)).refusals parts).none place (record { version = present; there = is }) at;
}
  where
    keeps : (old new : NodeService) (frame : Frame) (reply : Option Frame) → NodeServes old frame reply new → IsNodeJoined id session old
        → IsNodeJoined id session new × IsRecordOf (node_layout present (Some id)) (node_service_parts new)
    keeps old new frame reply answered asked =
        let next = answered.1 asked.2 in
        let kept = next.1.0 in
        let own : new.plugin.id ≡ id = answered.0.own ∙ asked.0 in
        let is : IsRecordOf (node_layout present None) (node_service_parts new) = record { first = record { own = kept.id; session = Some kept.session }; rows = map node_row_shown kept.rows; spelled = next.1.1 } in (
          (own, (omega (arith, answered.0.session.0, asked.1.0), answered.0.session.1), next.0),
          subst (λ (n : List ℕ). IsRecordOf (node_layout present (Some n)) (node_service_parts new)) own (node-wanted new.plugin.id (Some new.plugin.session) (map node_row_shown new.plugin.rows) is),
        )

-- where the first run was opened, the second finds what it left of a node that heard of the session
never : {K L R W : Type 0} (sight : Sight K R W) (sight_too : Sight L R W) → RecordLaws → (id : List ℕ) (session : ℕ) (first : Process K R W) (second : Process L R W) (content : List StoredPart)
    → (sight.seen first.after).honest → (sight_too.seen second.after).honest → (sight.seen first.before).holds content → Opened (node_way id session) sight first → Reopens (sight.seen first.after) (sight_too.seen second.before)
    → StaysFor (IsOfEarlierSession id session) (sight_too.seen second.before) (sight_too.seen second.after) → ⊥
never sight sight_too laws id session first second content honest honest_too holds o reopens stays =
    let found = found-again (node_way id session) (node-steady laws id session) sight sight_too content first second honest honest_too holds o reopens in
    not-earlier id session found.0 (laws.node (Some id)) found.1.0 found.1.1 found.2 (stays honest_too (node_service_parts found.0) found.3).0

-- two runs
pub two-runs : {K L R W : Type 0} (sight : Sight K R W) (sight_too : Sight L R W) → RecordLaws → RunsLaw sight sight_too
two-runs sight sight_too laws (Controller config) first second content honest honest_too holds o reopens ran =
    onward (controller_way config) (controller-steady laws config) sight sight_too content first second honest honest_too holds o reopens ran
two-runs sight sight_too laws (Node id session) first second content honest honest_too holds o reopens (inl earlier) =
    absurd (never sight sight_too laws id session first second content honest honest_too holds o reopens earlier.earlier)
two-runs sight sight_too laws (Node id session) first second content honest honest_too holds o reopens (inr ran) =
    onward (node_way id session) (node-steady laws id session) sight sight_too content first second honest honest_too holds o reopens ran

-- three, by the law of two: of the first two, of the last two, and of the first and the last, where the second was hindered
pub three-by-two : {K L M R W : Type 0} (sight : Sight K R W) (sight_too : Sight L R W) (sight_last : Sight M R W) → RunsLaw sight sight_too → RunsLaw sight_too sight_last → RunsLaw sight sight_last
    → ThreeRunsLaw sight sight_too sight_last
three-by-two sight sight_too sight_last law later past (Controller config) first second third content honest honest_too honest_last holds one reopens two reopens_too ran =
    three-joined (controller_way config) sight sight_too sight_last content first second third one (law (Controller config) first second content honest honest_too holds one reopens two)
    (λ hindered. past (Controller config) first third content honest honest_last holds one (found-past (sight.seen first.after) (sight_too.seen second.before) (sight_too.seen second.after) (sight_last.seen third.before) reopens hindered.left reopens_too) ran)
    (λ opened run. later (Controller config) second third (controller_service_parts run.left) honest_too honest_last run.found opened reopens_too ran)
three-by-two sight sight_too sight_last law later past (Node id session) first second third content honest honest_too honest_last holds one reopens two reopens_too ran =
    three-joined (node_way id session) sight sight_too sight_last content first second third one (law (Node id session) first second content honest honest_too holds one reopens two)
    (λ hindered. past (Node id session) first third content honest honest_last holds one (found-past (sight.seen first.after) (sight_too.seen second.before) (sight_too.seen second.after) (sight_last.seen third.before) reopens hindered.left reopens_too) ran)
    (λ opened run. later (Node id session) second third (node_service_parts run.left) honest_too honest_last run.found opened reopens_too ran)

-- so three are
pub three-runs : {K L M R W : Type 0} (sight : Sight K R W) (sight_too : Sight L R W) (sight_last : Sight M R W) → RecordLaws → ThreeRunsLaw sight sight_too sight_last
three-runs sight sight_too sight_last laws = three-by-two sight sight_too sight_last (two-runs sight sight_too laws) (two-runs sight_too sight_last laws) (two-runs sight sight_last laws)
