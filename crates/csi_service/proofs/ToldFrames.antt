-- What a plugin that is served tells of a frame that it passes.
use Rattle.std.proofs.Common.{◌≡◌, ℕ, [], ◌++◌, false, sym, ap, refl, subst, Ok, inl, inr, ◌∙◌}
use Rattle.std.specs.Prelude.{◌⊎◌, None, Some, option_to_list, ◌≢◌}
use Rattle.std.proofs.lemmas.Bool.{true≢false}
use Rattle.csi_types.proofs.Options.{some_is_not_none}
use Rattle.csi_types.specs.Model.Frame.{Frame}
use Rattle.csi_types.specs.Model.Members.{IsAmong}
use Rattle.csi_stores.specs.Public.Content.{all_changed}
use Rattle.csi_stores.specs.Public.Part.{put_all, take_all}
use Rattle.csi_service.specs.declared.changed.Changed.{Changed}
use Rattle.csi_service.specs.Public.Plugins.{View, at_place, head_change, head_of, last_in, record_changes, record_parts, row_id, row_parts}
use Rattle.csi_service.specs.Public.Telling.{TellsFrame}

module _ {P Own R State : Type 0} (view : View P Own R State) (plugin : P) (was changed : Changed) (head : changed.new_head ≡ false) (forgotten : changed.forgotten.items ≡ []) (row : changed.row ≡ None) where
  -- nothing is told as changed
  none-changes : record_changes view changed plugin ≡ []
  none-changes = λ i. head_change (head i) (head_of view plugin) ++ take_all (forgotten i) ++ put_all (option_to_list (at_place (row i) (row_parts view plugin)))

  none-told : (id : ℕ) → IsAmong id changed.forgotten.items ⊎ (row_id view changed.row plugin ≡ Some id) → last_in view plugin id ≢ last_in view plugin id
  none-told id (inl among) = absurd (subst (IsAmong id) forgotten among)
  none-told id (inr is) = absurd (some_is_not_none id (sym is ∙ ap (λ place. row_id view place plugin) row))

  -- of a frame that is passed
  pub tells-passed : (frame : Frame) → TellsFrame view (record { plugin = plugin; changed = was }) (record { plugin = plugin; changed = changed }) frame (Ok false)
  tells-passed frame = record {
    parts = ap (λ changes. all_changed changes (record_parts view plugin)) (sym none-changes);
    nothing = λ state shown same. none-changes;
    own = refl;
    differs = record { head = λ is. absurd (true≢false (sym is ∙ head)); rows = none-told };
    fit = λ fit named. fit;
    err_answers = tt;
    err_shows = λ state shown. tt;
    err = tt;
    err_changes = tt;
  }
