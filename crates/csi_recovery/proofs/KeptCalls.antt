-- What each row keeps is of a call that was sent, of the row's volume, and its reply is none of a late call.
use Rattle.csi_world.proofs.Words.{◌≡◌, ◌⊎◌, ℕ, List, ◌∷◌, map, Bool, true, false, cond, Option, Some, None, refl, sym}
use Rattle.csi_world.proofs.Words.{◌∙◌, ap, subst, ⊎_elim, ◌==◌, Number, Call, Node, kind_of, capacity_wanted, Config}
use Rattle.csi_world.proofs.Words.{Frame, ok_reply_with, reply_frame, IsAmong, Kept, Fenced, Volume, ControllerState}
use Rattle.csi_world.proofs.Words.{is_row_for, ended_volume, NodeState, AnsweredVolume, volume_of, row_with_id, Issued}
use Rattle.csi_world.proofs.Words.{is_aborted, arith}
use Rattle.csi_world.proofs.Lemmas.{eqb-true, same_text-tells, among-either, among-map, changed-rows}
use Rattle.csi_controller.specs.Model.Table as controller_table
use Rattle.csi_controller.specs.Model.Fenced as controllers
use Rattle.csi_controller.proofs.TableOutcomes as controller_outcomes
use Rattle.csi_node.specs.Model.Table as node_table
use Rattle.csi_node.specs.Model.Fenced as nodes
use Rattle.csi_world.proofs.NamedCalls.{own}
use Rattle.csi_recovery.proofs.PlainReplies.{IsPlain, ControllerPlain, controller-plain, node-plain}

-- ---- what rows keep

-- a call with this number was sent, and is such a one
pub record IsCalled (issued : List Issued) (Such : Call → Type 0) (number : Number) : Type 0 where
  pub call : Issued
  pub among : IsAmong call issued
  pub has_number : call.number ≡ number
  pub such : Such call.call

-- what each volume keeps is of a call of its row, and its reply isn't that of a late call
pub record ControllerKeeps (issued : List Issued) (state : ControllerState) : Type 0 where
  pub of : (volume : Volume) → IsAmong volume state.volumes → IsCalled issued (λ call. is_row_for call volume ≡ true) volume.kept.number
  pub plain : (volume : Volume) → IsAmong volume state.volumes → IsPlain volume.kept.reply.status

-- so it is with each row of a node
pub record NodeKeeps (issued : List Issued) (state : NodeState) : Type 0 where
  pub of : (row : AnsweredVolume) → IsAmong row state.rows → IsCalled issued (λ call. volume_of call ≡ Some row.id) row.kept.number
  pub plain : (row : AnsweredVolume) → IsAmong row state.rows → IsPlain row.kept.reply.status

-- volumes of one id and name are the row of the same calls
row-same : (call : Call) (a b : Volume) → a.id ≡ b.id → a.name ≡ b.name → is_row_for call a ≡ is_row_for call b
row-same call a b ids names = grind arith

-- what is so of a volume's row, whatever else of it changes
record IsKeptSo (issued : List Issued) (volume : Volume) : Type 0 where
  of : IsCalled issued (λ call. is_row_for call volume ≡ true) volume.kept.number
  plain : IsPlain volume.kept.reply.status

same-row : (issued : List Issued) (old new : Volume) → new.id ≡ old.id → new.name ≡ old.name → new.kept ≡ old.kept → IsKeptSo issued old → IsKeptSo issued new
same-row issued old new ids names kept so = grind (arith, row-same)

-- a call that was sent and is carried out at a controller
module _ (config : Config) (issued : List Issued) (one : Issued) (sent : IsAmong one issued) where
  -- what is kept of it
  abbrev kept-now : controller_table.Outcome → Kept
  kept-now outcome = record { number = one.number; kind = kind_of one.call; reply = outcome.reply }

  -- a volume that keeps it
  keeps-now : (outcome : controller_table.Outcome) → ControllerPlain outcome → (volume : Volume) → volume.kept ≡ kept-now outcome → is_row_for one.call volume ≡ true → IsKeptSo issued volume
  keeps-now outcome plain volume is own = record {
    of = record { call = one; among = sent; has_number = ap (λ (k : Kept). k.number) (sym is); such = own };
    plain = ap (λ (k : Kept). is_aborted k.reply.status) is ∙ plain;
  }

  -- after the table's change
  changed-keeps : (state : ControllerState) (outcome : controller_table.Outcome) → controller_outcomes.IsOutcome config state one.call outcome → ControllerPlain outcome
      → ((volume : Volume) → IsAmong volume state.volumes → IsKeptSo issued volume)
      → (volume : Volume) → IsAmong volume (controller_table.changed state (kept-now outcome) outcome.change).volumes → IsKeptSo issued volume
  changed-keeps state outcome was plain so volume among = by one.call refl outcome was plain among
    where
      ended : (id : ℕ) → (old : Volume) → IsAmong old state.volumes → volume ≡ ended_volume id old → (b : Bool) → (old.id == id) ≡ b → IsKeptSo issued volume
      ended id old there is true same =
          let now : ended_volume id old ≡ record old { is_live = false } = rw same refl in
          let e = is ∙ now in
          same-row issued old volume (ap (λ (v : Volume). v.id) e) (ap (λ (v : Volume). v.name) e) (ap (λ (v : Volume). v.kept) e) (so old there)
      ended id old there is false other =
          let now : ended_volume id old ≡ old = rw other refl in
          subst (IsKeptSo issued) (sym (is ∙ now)) (so old there)

      by : (call : Call) → one.call ≡ call → (outcome : controller_table.Outcome) → controller_outcomes.IsOutcome config state call outcome → ControllerPlain outcome
          → IsAmong volume (controller_table.changed state (kept-now outcome) outcome.change).volumes → IsKeptSo issued volume
      by _ is _ (controller_outcomes.was_refused call status detail not_ok) plain among = so volume among
      by _ is _ (controller_outcomes.was_found name required limit first others found range named live serving) plain among = so volume among
      by _ is _ (controller_outcomes.was_made name required limit first others range none) plain among =
          let made : controller_table.Outcome =
          record { reply = ok_reply_with state.next_id; change = controller_table.Makes name (capacity_wanted required limit) (first ∷ others) } in
          let new : Volume = record { id = state.next_id; name = name; capacity = capacity_wanted required limit; capabilities = first ∷ others; is_live = true; kept = kept-now made } in
          ⊎_elim (λ there. so volume there)
          (λ e. keeps-now made plain volume (ap (λ (v : Volume). v.kept) e)
          (ap (λ c. is_row_for c volume) is ∙ (same_text-tells volume.name name).1 (ap (λ (v : Volume). v.name) e)))
          (among-either state.volumes new volume among)
      by _ is _ (controller_outcomes.was_ended id found live free) plain among =
          let from = among-map (ended_volume id) state.volumes volume among in
          ended id from.0 from.1 from.2 ((from.0).id == id) refl
      by _ is _ (controller_outcomes.was_ended_before id none) plain among = so volume among
      by _ is _ (controller_outcomes.was_attached holding found can free apart) plain among = so volume among
      by _ is _ (controller_outcomes.was_attached_before holding found can held) plain among = so volume among
      by _ is _ (controller_outcomes.was_detached id node held there) plain among = so volume among
      by _ is _ (controller_outcomes.was_detached_before id node none) plain among = so volume among

  -- and once it is kept
  pub controller-keeps : (state : ControllerState) → ControllerKeeps issued state
      → ControllerKeeps issued (controllers.carried_out state one.number one.call (controller_table.controller_row config state one.call)).state
  controller-keeps state keeps = record { of = λ volume among. (all volume among).of; plain = λ volume among. (all volume among).plain }
    where
      outcome : controller_table.Outcome
      outcome = controller_table.controller_row config state one.call

      all : (volume : Volume) → IsAmong volume (map (controllers.kept_in one.call (kept-now outcome)) (controller_table.changed state (kept-now outcome) outcome.change).volumes) → IsKeptSo issued volume
      all volume among =
          let from = among-map (controllers.kept_in one.call (kept-now outcome)) (controller_table.changed state (kept-now outcome) outcome.change).volumes volume among in
          at from.0
          (changed-keeps state outcome (controller_outcomes.is_outcome config state one.call) (controller-plain config state one.call) (λ v there. record { of = keeps.of v there; plain = keeps.plain v there }) from.0 from.1) from.2
          (is_row_for one.call from.0) refl
        where
          at : (old : Volume) → IsKeptSo issued old → volume ≡ controllers.kept_in one.call (kept-now outcome) old → (b : Bool) → is_row_for one.call old ≡ b → IsKeptSo issued volume
          at old so is true own =
              let now : controllers.kept_in one.call (kept-now outcome) old ≡ record old { kept = kept-now outcome } = rw own refl in
              let e = is ∙ now in
              keeps-now outcome (controller-plain config state one.call) volume (ap (λ (v : Volume). v.kept) e)
              (row-same one.call volume old (ap (λ (v : Volume). v.id) e) (ap (λ (v : Volume). v.name) e) ∙ own)
          at old so is false other =
              let now : controllers.kept_in one.call (kept-now outcome) old ≡ old = rw other refl in
              subst (IsKeptSo issued) (sym (is ∙ now)) so

-- a row that is kept, or was
kept-row : (id : ℕ) (kept : Kept) (rows : List AnsweredVolume) (o : Option AnsweredVolume) (row : AnsweredVolume) → IsAmong row (nodes.kept_rows id kept rows o)
    → IsAmong row rows ⊎ ((row.id ≡ id) × (row.kept ≡ kept))
kept-row id kept rows o row among = grind (arith, among-either, among-map, eqb-true)

-- a call that was sent and is carried out at a node
pub node-keeps : (node : List ℕ) (issued : List Issued) (one : Issued) → IsAmong one issued → (state : NodeState) → NodeKeeps issued state
    → NodeKeeps issued (nodes.carried_out node state one.number one.call (node_table.node_row state one.call)).state
node-keeps node issued one sent state keeps = by (node_table.has_no_room state one.call)
  where
    outcome : node_table.Outcome
    outcome = node_table.node_row state one.call

    kept : Kept
    kept = record { number = one.number; kind = kind_of one.call; reply = outcome.reply }

    after : NodeState
    after = node_table.changed state outcome.change

    at : (o : Option ℕ) → volume_of one.call ≡ o → NodeKeeps issued (nodes.keep o kept after)
    at None is = record {
      of = λ row among. keeps.of row (subst (λ (rows : List AnsweredVolume). IsAmong row rows) (changed-rows state outcome.change) among);
      plain = λ row among. keeps.plain row (subst (λ (rows : List AnsweredVolume). IsAmong row rows) (changed-rows state outcome.change) among);
    }
    at (Some id) is = record {
      of = λ row among.
          ⊎_elim (λ there. keeps.of row (subst (λ (rows : List AnsweredVolume). IsAmong row rows) (changed-rows state outcome.change) there))
          (λ e. record { call = one; among = sent; has_number = ap (λ (k : Kept). k.number) (sym e.1); such = is ∙ ap Some (sym e.0) })
          (kept-row id kept after.rows (row_with_id id after) row among);
      plain = λ row among.
          ⊎_elim (λ there. keeps.plain row (subst (λ (rows : List AnsweredVolume). IsAmong row rows) (changed-rows state outcome.change) there))
          (λ e. ap (λ (k : Kept). is_aborted k.reply.status) e.1 ∙ node-plain state one.call)
          (kept-row id kept after.rows (row_with_id id after) row among);
    }

    answer : Frame
    answer = reply_frame one.number (Node node) (kind_of one.call) outcome.reply

    by : (b : Bool)
        → NodeKeeps issued
        (cond b (let f : Fenced NodeState = record { reply = Some answer; state = state } in f)
        (let f : Fenced NodeState = record { reply = Some answer; state = nodes.keep (volume_of one.call) kept after } in f)).state
    by true = keeps
    by false = at (volume_of one.call) refl
