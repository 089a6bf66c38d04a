-- A node's rows behind the fence do what the node's state does there.
use Rattle.std.proofs.Common.{◌≡◌, ℕ, List, length, Bool, true, false, cond, refl, sym, ◌∙◌, ap, subst}
use Rattle.std.specs.Prelude.{All, Option, Some, None, option_map, find, filter, nat_le, not, codes}
use Rattle.std.proofs.lemmas.List.Elements.{All-filter}
use Rattle.csi_types.proofs.Searches.{find-none}
use Rattle.csi_types.specs.declared.call.Call.{Call}
use Rattle.csi_types.specs.declared.call.Party.TheVariants.{Node}
use Rattle.csi_types.specs.declared.number.Number.{Number}
use Rattle.csi_types.specs.declared.reply.Reply.{Reply}
use Rattle.csi_types.specs.declared.status.Status.TheVariants.{ResourceExhausted}
use Rattle.csi_types.specs.Model.Call.{kind_of}
use Rattle.csi_types.specs.Model.Replies.{plain_reply, reply_frame}
use Rattle.csi_types.specs.Public.Call.{is_node_kind}
use Rattle.csi_fence.specs.Model.Fence.{Kept}
use Rattle.csi_fence.specs.Model.Fenced.{Fenced}
use Rattle.csi_fence.specs.declared.answer.Answer.{Answer}
use Rattle.csi_fence.specs.Public.Rows.{AreRising, IsAnswered, RowsState, Carried, Answered, put_row, carried_by, carried_lacking, rows_machine}
use Rattle.csi_fence.specs.Public.Simulating.{AreAlike, Simulates}
use Rattle.csi_fence.proofs.PutRows.{put-found, put-others, put-length}
use Rattle.csi_fence.proofs.RisingRows.{rows_rise, rising-filter}
use Rattle.csi_fence.proofs.Simulating.{answered-alike}
use Rattle.csi_node.specs.Model.State.{NodeState, volume_of}
use Rattle.csi_node.specs.Model.Table.{Outcome, lifecycle_row, node_row, has_no_room, changed}
use Rattle.csi_node.specs.Model.Fenced.{begun, carried_out, keep, kept_for, node_at}
use Rattle.csi_node.specs.declared.row.NodeRow.{NodeRow}
use Rattle.csi_node.specs.Model.OneRow.{NodeRowShown}
use Rattle.csi_node.specs.Model.Record.{NodeParts, parts}
use Rattle.csi_node.specs.Private.Fenced.{answered_in}
use Rattle.csi_node.specs.Private.Step.{AnswersCall}
use Rattle.csi_node.specs.Public.OneRow.{state_shown, IsSoundRow, TargetsFit, row_anew}
use Rattle.csi_node.specs.Public.Plan.{AreNodeRows, is_of, told_at, row_told, lacking, node_plan}
use Rattle.csi_node.proofs.CarriedOut.{kept_of, session_then}
use Rattle.csi_node.proofs.ChangedRows.{changes-at, full-staged, state_of}
use Rattle.csi_node.proofs.CopiedRows.{there-sound}
use Rattle.csi_node.proofs.Forgotten.{forgotten-shows}
use Rattle.csi_node.specs.Private.PlanLaws.{id-where}
use Rattle.csi_node.proofs.RowChanges.{no_targets}
use Rattle.csi_node.proofs.RowsTold.{alone-told}
use Rattle.csi_node.proofs.ShownAfter.{ShowsAll, RowsAfter, all-from_shows, alone_in, kept-shown_by, part_of, room-by, row_of, row_of-id, shows-from_all, shows_then}
use Rattle.csi_node.proofs.StateChanges.{lifecycle-part}
use Rattle.csi_node.proofs.ThingRows.{is_for}

-- a node's rows, with the greatest session that came
abbrev pub NodeRows : Type 0
NodeRows = RowsState (Unit {0}) NodeRowShown

-- they stand by rising id, and each keeps the rules of a row
pub record AreRowsSound (old : NodeRows) : Type 0 where
  pub rising : AreRising node_plan.id old.rows
  pub each : All IsSoundRow old.rows

-- they show the state
pub record RowsShowAll (old : NodeRows) (state : NodeState) : Type 0 where
  pub rows : ShowsAll old.rows state
  pub session : old.session ≡ state.session

-- ---- a session that begins

-- the rows that aren't empty show the state in which it has begun
pub begun-shows : (session : ℕ) (old : NodeRows) (state : NodeState) → AreRowsSound old → RowsShowAll old state
    → RowsShowAll (record old { session = session; rows = filter (λ (row : NodeRowShown). not (node_plan.is_empty row)) old.rows }) (begun session state)
begun-shows session old state sound shows = record {
  rows = subst (λ (l : List NodeRowShown). ShowsAll l (begun session state)) (sym (full-staged old.rows)) (forgotten-shows session old.rows state (rows_rise node_plan.id old.rows sound.rising) shows.rows);
  session = refl;
}

-- and they are sound
begun-sound : (session : ℕ) (old : NodeRows) → AreRowsSound old → AreRowsSound (record old { session = session; rows = filter (λ (row : NodeRowShown). not (node_plan.is_empty row)) old.rows })
begun-sound session old sound = record {
  rising = rising-filter node_plan.id (λ (row : NodeRowShown). not (node_plan.is_empty row)) old.rows sound.rising;
  each = All-filter (λ (row : NodeRowShown). not (node_plan.is_empty row)) IsSoundRow old.rows sound.each;
}

-- ---- what is kept

-- what is kept for a call's volume
kept-same : (call : Call) (old : NodeRows) (state : NodeState) → RowsShowAll old state → option_map node_plan.kept (find (node_plan.is_for call) old.rows) ≡ kept_for call state
kept-same call old state shows = by (volume_of call) refl
  where
    by : (o : Option ℕ) → volume_of call ≡ o → option_map node_plan.kept (find (λ (row : NodeRowShown). is_of (volume_of call) row.id) old.rows) ≡ kept_for call state
    by None v = rw v (ap (option_map node_plan.kept) (find-none (λ (row : NodeRowShown). false) old.rows (λ row among. refl)))
    by (Some id) v =
        ap (λ (p : Option ℕ). option_map node_plan.kept (find (λ (row : NodeRowShown). is_of p row.id) old.rows)) v
        ∙ sym (kept-shown_by id call old.rows state (row_of id old.rows) v shows.rows refl)

-- ---- a call that is carried out

-- the rows after one that is put
after-put : (rows : List NodeRowShown) (id : ℕ) (new : NodeRowShown) → AreRising node_plan.id rows → new.id ≡ id → RowsAfter id rows (put_row node_plan.id new rows) new
after-put rows id new rising own =
    subst (λ (n : ℕ). RowsAfter n rows (put_row node_plan.id new rows) new) own
    (record { count = put-length node_plan.id new rows (rows_rise node_plan.id rows rising); this = put-found node_plan.id new rows; others = put-others node_plan.id new rows })

module _ (node : List ℕ) (number : Number) (call : Call) (old : NodeRows) (state : NodeState) (sound : AreRowsSound old) (shows : RowsShowAll old state) where
  -- what is answered by this, as the machine of the rows gives it
  abbrev given : Carried (Unit {0}) NodeRowShown → Fenced NodeRows
  given carried = record { reply = Some (reply_frame number (Node node) (kind_of call) carried.reply); state = carried.state }

  -- by the call's row, if it has one
  abbrev given_by : Option NodeRowShown → Fenced NodeRows
  given_by o = given (carried_by node_plan node old number call o)

  -- without a row, by whether there is no room for one, and by the call's volume
  abbrev given_lacking : Bool → Option ℕ → Fenced NodeRows
  given_lacking full o = given (carried_lacking node_plan old (cond full (Answered (plain_reply ResourceExhausted (codes "rows"))) (lacking o number call)))

  -- it is what the state gives
  abbrev IsAlike : Fenced NodeRows → Type 0
  IsAlike fenced = AreAlike RowsShowAll fenced (carried_out node state number call (node_row state call))

  module _ (id : ℕ) (v : volume_of call ≡ Some id) where
    -- where there is room: a row that was there, or a new one of which the state has nothing
    alike-done : (before : NodeRowShown) → has_no_room state call ≡ false → before.id ≡ id → TargetsFit before.staged before.targets → state_shown before ≡ alone_in (row_of id old.rows)
        → IsAlike (given (record { reply = (told_at before call).reply; state = record old { rows = put_row node_plan.id (row_told number call (told_at before call) before) old.rows } }))
    alike-done before room own fits is_before =
        let after : NodeRowShown = row_told number call (told_at before call) before in
        let same_reply : (lifecycle_row (state_shown before) call).reply ≡ (lifecycle_row state call).reply =
        ap (λ (s : NodeState). (lifecycle_row s call).reply) is_before
        ∙ ap (λ (o : Outcome). o.reply) (lifecycle-part id (alone_in (row_of id old.rows)) state call v (part_of id old.rows state shows.rows)) in
        let kept : Kept = kept_of state number call in
        let is_kept : after.kept ≡ kept = ap (λ (r : Reply). let k : Kept = record { number = number; kind = kind_of call; reply = r } in k) same_reply in
        let own_after : after.id ≡ id = id-where before call (told_at before call).is_done ∙ own in
        let volume : volume_of call ≡ Some before.id = v ∙ ap Some (sym own) in
        let there : ShowsAll (put_row node_plan.id after old.rows) (keep (Some id) kept (changed state (lifecycle_row state call).change)) =
        shows_then id call old.rows (put_row node_plan.id after old.rows) state before after kept v shows.rows (after-put old.rows id after sound.rising own_after) is_before own_after is_kept
        (alone-told before fits number call volume) in
        subst (λ (f : Fenced NodeState). AreAlike RowsShowAll (given (record { reply = (told_at before call).reply; state = record old { rows = put_row node_plan.id after old.rows } })) f) (sym (simp room))
        (record {
          reply = ap (λ (r : Reply). Some (reply_frame number (Node node) (kind_of call) r)) same_reply;
          after = record {
            rows = subst (λ (o : Option ℕ). ShowsAll (put_row node_plan.id after old.rows) (keep o kept (changed state (lifecycle_row state call).change))) (sym v) there;
            session = shows.session ∙ sym (session_then state number call);
          };
        })

    -- a row that is there keeps the rules, and is the volume's
    alike-there : (row : NodeRowShown) → row_of id old.rows ≡ Some row → IsAlike (given_by (Some row))
    alike-there row found =
        alike-done row (room-by id call old.rows state (Some row) v shows.rows found) (row_of-id id old.rows row found)
        (there-sound old.rows id row sound.each found).targets (ap alone_in (sym found))

    -- where none is there it is made, if there is room for it
    alike-none : row_of id old.rows ≡ None → IsAlike (given_by None)
    alike-none none = subst (λ (o : Option ℕ). IsAlike (given_lacking (nat_le 4096 (length old.rows)) o)) (sym v) (by (nat_le 4096 (length old.rows)) refl)
      where
        by : (b : Bool) → nat_le 4096 (length old.rows) ≡ b → IsAlike (given_lacking b (Some id))
        by true full =
            let has_none : has_no_room state call ≡ true = room-by id call old.rows state None v shows.rows none ∙ full in
            subst (λ (f : Fenced NodeState). AreAlike RowsShowAll (given_lacking true (Some id)) f) (sym (simp has_none)) (record { reply = refl; after = shows })
        by false few =
            alike-done (row_anew id number (kind_of call)) (room-by id call old.rows state None v shows.rows none ∙ few) refl (no_targets None) (sym (ap alone_in none))

  -- by whether the call's volume has a row
  alike-carried : is_node_kind (kind_of call) ≡ true → IsAlike (given_by (find (node_plan.is_for call) old.rows))
  alike-carried own =
      let for = (is_for node call own).1 in
      subst (λ (p : Option ℕ). IsAlike (given_by (find (λ (row : NodeRowShown). is_of p row.id) old.rows))) (sym for.is_volume) (at for.volume for.is_volume (row_of for.volume old.rows) refl)
    where
      at : (id : ℕ) → volume_of call ≡ Some id → (o : Option NodeRowShown) → row_of id old.rows ≡ o → IsAlike (given_by o)
      at id v None none = alike-none id v none
      at id v (Some row) found = alike-there id v row found

-- the rows do what the state does
pub rows-simulate : (node : List ℕ) → Simulates (rows_machine node_plan node) (node_at node) AreRowsSound RowsShowAll
rows-simulate node = record {
  party = refl;
  session = λ old state shows. shows.session;
  begun_sound = begun-sound;
  begun = begun-shows;
  kept_for = kept-same;
  carried_out = λ number call old state own sound shows. alike-carried node number call old state sound shows own;
}

-- ---- a record's rows

-- rows of a record are sound
pub parts-sound : (session : ℕ) (old : List NodeRow) (empty : ℕ) → AreNodeRows session old empty → AreRowsSound (record { own = tt; session = session; rows = parts old })
parts-sound session old empty kept = record { rising = kept.rising; each = kept.each }

-- so what they answer is what the node answers, in each state that the record shows
pub answers-call : (number : Number) (call : Call) (old new : NodeParts) → is_node_kind (kind_of call) ≡ true → AreRowsSound (state_of old) → (answer : Answer)
    → IsAnswered node_plan old.id number call (state_of old) (state_of new) answer → AnswersCall number call old new answer
answers-call number call old new own sound answer is = record {
  gives = λ state shows.
      let alike = answered-alike (rows_machine node_plan old.id) (node_at old.id) AreRowsSound RowsShowAll (rows-simulate old.id) number call (state_of old) state own sound
      (record { rows = all-from_shows old.rows state shows.shows; session = shows.session }) in
      let after = subst (λ (f : Fenced NodeRows). RowsShowAll f.state (answered_in old.id state number call).state) is.gives alike.after in
      record {
        reply = sym alike.reply ∙ ap (λ (f : Fenced NodeRows). f.reply) is.gives;
        shows = record { shows = shows-from_all new.rows _ after.rows; session = after.session };
      };
  changes = changes-at answer.row number old new is.puts;
}
