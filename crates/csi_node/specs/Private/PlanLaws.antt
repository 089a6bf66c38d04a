-- The laws of a node's plan, which its table cites: a row keeps its id, a row that is made is its volume's first, and at most one row is of a volume.
use Rattle.std.proofs.Common.{◌≡◌, ℕ, ◌<◌, List, [], ◌∷◌, length, Bool, true, false, cond, not, refl, sym, ◌∙◌, ap}
use Rattle.std.specs.Prelude.{Option, Some, None, find, nat_le, codes, ◌==◌, is_some}
use Rattle.std.proofs.lemmas.Bool.{leb-false, not-true, true≢false}
use Rattle.csi_types.specs.Public.Places.{AtMostOne}
use Rattle.csi_types.proofs.Options.{none-from_is_some}
use Rattle.csi_types.specs.declared.number.Number.{Number}
use Rattle.csi_types.specs.declared.call.Call.{Call}
use Rattle.csi_types.specs.declared.call.Call.TheVariants as calls
use Rattle.csi_types.specs.declared.call.Kind.{Kind}
use Rattle.csi_types.specs.declared.call.Kind.TheVariants as kinds
use Rattle.csi_types.specs.declared.reply.Reply.{Reply}
use Rattle.csi_types.specs.declared.status.Status.TheVariants.{ResourceExhausted}
use Rattle.csi_types.specs.Model.Call.{kind_of}
use Rattle.csi_types.specs.Model.Replies.{plain_reply}
use Rattle.csi_types.specs.Public.Call.{is_node_kind}
use Rattle.csi_types.specs.Public.Reply.{has_id_by_rule}
use Rattle.csi_fence.specs.Public.Rows.{AreRising, Lacking, Answered, Made}
use Rattle.csi_fence.specs.Public.Table.{IsOrderly}
use Rattle.csi_fence.proofs.RisingRows.{rows_rise, once-rise}
use Rattle.csi_node.specs.Model.State.{volume_of}
use Rattle.csi_node.specs.Model.OneRow.{NodeRowShown}
use Rattle.csi_node.specs.Public.OneRow.{row_anew, row_changed}
use Rattle.csi_node.specs.Public.Plan.{is_of, told_at, first_row, lacking, node_plan, is_sound_by}

-- ---- replies

-- a reply of a node's kind is as it must be exactly where it has no id
has_none-by : (kind : Kind) (reply : Reply) → is_node_kind kind ≡ true → has_id_by_rule kind reply ≡ not (is_some reply.id)
has_none-by kinds.CreateVolume reply own = absurd (true≢false (sym own))
has_none-by kinds.DeleteVolume reply own = absurd (true≢false (sym own))
has_none-by kinds.ControllerPublishVolume reply own = absurd (true≢false (sym own))
has_none-by kinds.ControllerUnpublishVolume reply own = absurd (true≢false (sym own))
has_none-by kinds.NodeStageVolume reply own = refl
has_none-by kinds.NodeUnstageVolume reply own = refl
has_none-by kinds.NodePublishVolume reply own = refl
has_none-by kinds.NodeUnpublishVolume reply own = refl

-- so one without an id is
pub no_id-fits : (kind : Kind) (reply : Reply) → is_node_kind kind ≡ true → reply.id ≡ None → has_id_by_rule kind reply ≡ true
no_id-fits kind reply own none = has_none-by kind reply own ∙ ap (λ (id : Option ℕ). not (is_some id)) none

-- and one that is has none
pub fits-no_id : (kind : Kind) (reply : Reply) → is_node_kind kind ≡ true → has_id_by_rule kind reply ≡ true → reply.id ≡ None
fits-no_id kind reply own fits = none-from_is_some reply.id (not-true (is_some reply.id) (sym (has_none-by kind reply own) ∙ fits))

-- ---- ids

-- a row that a call changes keeps its id, and what it keeps
pub stays-by : (row : NodeRowShown) (call : Call) → ((row_changed row call).id ≡ row.id) × ((row_changed row call).kept ≡ row.kept)
stays-by row (calls.NodeStageVolume id capability) = (refl, refl)
stays-by row (calls.NodeUnstageVolume id) = (refl, refl)
stays-by row (calls.NodePublishVolume id target capability readonly) = (refl, refl)
stays-by row (calls.NodeUnpublishVolume id target) = (refl, refl)
stays-by row (calls.CreateVolume name required limit capabilities) = (refl, refl)
stays-by row (calls.DeleteVolume id) = (refl, refl)
stays-by row (calls.ControllerPublishVolume id node capability readonly) = (refl, refl)
stays-by row (calls.ControllerUnpublishVolume id node) = (refl, refl)

-- a row keeps its id, whether or not the call is carried out
pub id-where : (row : NodeRowShown) (call : Call) (b : Bool) → (cond b (row_changed row call) row).id ≡ row.id
id-where row call true = (stays-by row call).0
id-where row call false = refl

-- ---- rows that are made

-- a row that is made is the first one of the call's volume, and there is room for it
pub record WasMade (rows : List NodeRowShown) (number : Number) (call : Call) (row : NodeRowShown) : Type 0 where
  pub id : ℕ
  pub volume : volume_of call ≡ Some id
  pub is : row ≡ first_row id number call
  pub few : length rows < 4096

-- a row was made
abbrev was : Lacking NodeRowShown → Bool
was (Answered reply) = false
was (Made row) = true

-- the row that was made, or else this one
abbrev row_or : NodeRowShown → Lacking NodeRowShown → NodeRowShown
row_or other (Answered reply) = other
row_or other (Made row) = row

-- each row that is made is such a one
pub was_made : (node : List ℕ) (own : Unit {0}) (rows : List NodeRowShown) (number : Number) (call : Call) (row : NodeRowShown) → node_plan.absent node own rows number call ≡ Made row → WasMade rows number call row
was_made node own rows number call row = by (nat_le 4096 (length rows)) refl (volume_of call) refl
  where
    by : (b : Bool) → nat_le 4096 (length rows) ≡ b → (o : Option ℕ) → volume_of call ≡ o → cond b (Answered (plain_reply ResourceExhausted (codes "rows"))) (lacking o number call) ≡ Made row → WasMade rows number call row
    by true full o v h = absurd (true≢false (sym (ap was h)))
    by false room None v h = absurd (true≢false (sym (ap was h)))
    by false room (Some id) v h = record { id = id; volume = v; is = sym (ap (row_or row) h); few = leb-false 4096 (length rows) room }

-- a row keeps its id
pub first-id : (id : ℕ) (number : Number) (call : Call) → (first_row id number call).id ≡ id
first-id id number call = id-where (row_anew id number (kind_of call)) call (told_at (row_anew id number (kind_of call)) call).is_done

-- ---- the laws

-- a row that is made has an id of its own
made_new : (rows : List NodeRowShown) (number : Number) (call : Call) (row : NodeRowShown) → WasMade rows number call row → find (λ (other : NodeRowShown). is_of (volume_of call) other.id) rows ≡ None
    → find (λ (other : NodeRowShown). other.id == row.id) rows ≡ None
made_new rows number call row made none =
    let own : row.id ≡ made.id = ap (λ (r : NodeRowShown). r.id) made.is ∙ first-id made.id number call in
    ap (λ (n : ℕ). find (λ (other : NodeRowShown). other.id == n) rows) own
    ∙ ap (λ (o : Option ℕ). find (λ (other : NodeRowShown). is_of o other.id) rows) (sym made.volume)
    ∙ none

-- the plan's laws
pub is_orderly : IsOrderly node_plan is_sound_by
is_orderly = record {
  keep_id = λ kept row. refl;
  keep_kept = λ kept row. refl;
  keep_empty = λ kept row. refl;
  change_id = λ call row. (stays-by row call).0;
  keep_sound = λ node own kept row sound allowed. record { kind = allowed.0; no_id = fits-no_id kept.kind kept.reply allowed.0 allowed.1; targets = sound.targets };
  sound_allowed = λ node own row sound. (sound.kind, no_id-fits row.kept.kind row.kept.reply sound.kind sound.no_id);
  line_full = λ node own rows row call sound. refl;
  next_sound = λ own row sound. sound;
  made_kept = λ node own rows number call row is.
      let made = was_made node own rows number call row is in
      (ap (λ (r : NodeRowShown). r.kept.number) made.is, ap (λ (r : NodeRowShown). r.kept.kind) made.is, made.few);
  made_new = λ node own rows number call row is sound none. made_new rows number call row (was_made node own rows number call row is) none;
}

-- at most one row is of a volume
pub one_row : (rows : List NodeRowShown) (call : Call) → AreRising node_plan.id rows → AtMostOne (node_plan.is_for call) rows
one_row rows call rising = by (volume_of call)
  where
    none : (l : List NodeRowShown) → AtMostOne (λ (row : NodeRowShown). false) l
    none [] = tt
    none (row ∷ l) = ((λ h. absurd (true≢false (sym h))), none l)

    by : (o : Option ℕ) → AtMostOne (λ (row : NodeRowShown). is_of o row.id) rows
    by None = none rows
    by (Some id) = once-rise node_plan.id rows (rows_rise node_plan.id rows rising) id
