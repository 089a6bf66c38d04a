-- A controller's rows behind the fence do what the controller's state does there.
use Rattle.std.proofs.Common.{◌≡◌, ℕ, zero, suc, ◌+◌, ◌<◌, List, [], ◌∷◌, ◌++◌, map, length, set, Bool, true, false, cond, not, refl, sym, ◌∙◌, ap, subst}
use Rattle.std.specs.Prelude.{Option, Some, None, option_map, find, filter, slice_get, ◌==◌, IsTrue}
use Rattle.std.specs.List.{AllByRecursion}
use Rattle.std.specs.Option.{option_or}
use Rattle.std.proofs.lemmas.List.{length-map, map-append}
use Rattle.std.proofs.Math.Bool.{not-not}
use Rattle.std.proofs.lemmas.List.Elements.{filter_agree}
use Rattle.csi_types.proofs.Each.{each-filter, each-weaker}
use Rattle.csi_types.proofs.Filters.{filter-of_map}
use Rattle.csi_types.proofs.Maps.{map-none_shown}
use Rattle.csi_types.proofs.Places.{AtMostOne-filter, FirstAt-is_at, FirstAt-passes, FirstAt-within}
use Rattle.csi_types.proofs.Searches.{find-of_map, find-append}
use Rattle.csi_types.proofs.PassingByKey.{find-passing, passing}
use Rattle.csi_types.proofs.Members.{among-find, each_of}
use Rattle.csi_types.proofs.Options.{option_or-none, option_or-some}
use Rattle.csi_types.specs.Public.Places.{AtMostOne, FirstAt, IsAt}
use Rattle.csi_types.specs.declared.call.Call.{Call}
use Rattle.csi_types.specs.declared.call.Call.TheVariants as calls
use Rattle.csi_types.specs.declared.call.Kind.TheVariants as kinds
use Rattle.csi_types.specs.declared.call.Party.TheVariants.{Controller}
use Rattle.csi_types.specs.declared.capability.Capability.{Capability}
use Rattle.csi_types.specs.declared.number.Number.{Number}
use Rattle.csi_types.specs.declared.reply.Reply.{Reply}
use Rattle.csi_types.specs.Model.Call.{kind_of}
use Rattle.csi_types.specs.Model.Config.{Config}
use Rattle.csi_types.specs.Model.Replies.{ok_reply_with, reply_frame}
use Rattle.csi_types.specs.Model.Same.{same_text}
use Rattle.csi_types.specs.Public.Call.{is_party_of}
use Rattle.csi_fence.specs.Model.Fence.{Kept}
use Rattle.csi_fence.specs.Public.Rows.{Carried, IsPlaceOf, carried, carried_by, carried_lacking, id_of, put_row, rows_machine}
use Rattle.csi_fence.specs.Public.Simulating.{Simulates}
use Rattle.csi_fence.proofs.PutRows.{put-set}
use Rattle.csi_fence.proofs.RisingRows.{rising-filter}
use Rattle.csi_controller.specs.declared.row.NodeHolding.{NodeHolding}
use Rattle.csi_controller.specs.Model.Fenced.{begun, controller_with, keep, kept_for, kept_in}
use Rattle.csi_controller.specs.Model.State.{Volume, ControllerState, holdings_of, is_row_for, volume_named}
use Rattle.csi_controller.specs.Model.Table.{Makes, Outcome, Stays, argument_fault, changed, controller_row, create, create_named, create_new, delete, is_full, lifecycle_row, publish, refused, unless, unpublish}
use Rattle.csi_controller.specs.Public.Core.{volume_holding}
use Rattle.csi_controller.specs.Public.Making.{new_line}
use Rattle.csi_controller.specs.Public.Nowhere.{reply_nowhere}
use Rattle.csi_controller.specs.Public.OneRow.{RowShown, row_changed, state_shown}
use Rattle.csi_controller.specs.Public.Plan.{IsSoundBy, controller_plan, created, is_full_by, made_row, row_keeping, told_in, is_change}
use Rattle.csi_controller.specs.Private.PlanLaws.{IsNewLine, makes, new-outcome, one-for, refuses, same-volume}
use Rattle.csi_controller.proofs.Holdings.{can-about, held_in}
use Rattle.csi_controller.proofs.RowTable.{held-nowhere, line-told, live-nowhere}
use Rattle.csi_controller.proofs.RowsTold.{told-changed}
use Rattle.csi_controller.proofs.ShownAfter.{ends_call, shown-after, stays-after, volumes-after}
use Rattle.csi_controller.proofs.ShownRows.{AreRowsSound, ControllerRows, RowsShowAll, one-id, volume_in, put-last}

-- ---- lists

-- what is found stands somewhere first
pub record IsFirst {X : Type 0} (p : X → Bool) (xs : List X) (x : X) : Type 0 where
  pub place : ℕ
  pub first : FirstAt p xs place x

pub first-found : {X : Type 0} (p : X → Bool) (xs : List X) (x : X) → find p xs ≡ Some x → IsFirst p xs x
first-found p [] x h = cc
first-found p (y ∷ ys) x h = by (first-found p ys x) (p y) refl h
  where
    same : Some y ≡ Some x → y ≡ x
    same h = cc

    by : (find p ys ≡ Some x → IsFirst p ys x) → (b : Bool) → p y ≡ b → cond b (Some y) (find p ys) ≡ Some x → IsFirst p (y ∷ ys) x
    by later true e h = record { place = 0; first = (e, same h) }
    by later false e h = let rest = later h in record { place = suc rest.place; first = (e, rest.first) }

-- what stands at a place is got there
got-at : {X : Type 0} (xs : List X) (place : ℕ) (x : X) → IsAt xs place x → slice_get xs place ≡ Some x
got-at [] place x at = absurd at
got-at (y ∷ ys) zero x at = ap Some at
got-at (y ∷ ys) (suc place) x at = got-at ys place x at

-- ---- a session that begins

-- a volume that was deleted is held nowhere, so the holdings of each id stay
held-live : (next : ℕ) (rows : List RowShown) (id : ℕ) → AllByRecursion (IsSoundBy next) rows → AtMostOne (λ (r : RowShown). r.volume.id == id) rows
    → held_in (find (λ (r : RowShown). r.volume.id == id) (filter (λ (r : RowShown). not (not r.volume.is_live)) rows)) ≡ held_in (find (λ (r : RowShown). r.volume.id == id) rows)
held-live next rows id each one = ap held_in (find-passing (λ (r : RowShown). r.volume.id == id) (λ (r : RowShown). not (not r.volume.is_live)) rows one) ∙ by (find (λ (r : RowShown). r.volume.id == id) rows) refl
  where
    by_life : (r : RowShown) → IsSoundBy next r → (alive : Bool) → r.volume.is_live ≡ alive → held_in (cond (not (not alive)) (Some r) None) ≡ held_in (Some r)
    by_life r own true e = refl
    by_life r own false e = sym (ap (map (volume_holding r.volume.id)) (own.gone e))

    by : (o : Option RowShown) → find (λ (r : RowShown). r.volume.id == id) rows ≡ o → held_in (passing (λ (r : RowShown). not (not r.volume.is_live)) o) ≡ held_in o
    by None is = refl
    by (Some r) is = by_life r (each_of (IsSoundBy next) rows r each (among-find (λ (r : RowShown). r.volume.id == id) rows r is)) r.volume.is_live refl

-- live volumes, told twice over
pub filter-twice : (rows : List RowShown) → filter (λ (r : RowShown). not (not r.volume.is_live)) rows ≡ filter (λ (r : RowShown). r.volume.is_live) rows
filter-twice rows = filter_agree (λ (r : RowShown). not (not r.volume.is_live)) (λ (r : RowShown). r.volume.is_live) (λ r. not-not r.volume.is_live) rows

-- the rows that aren't empty show the state in which it has begun
pub begun-shows : (session : ℕ) (old : ControllerRows) (state : ControllerState) → AreRowsSound old → RowsShowAll old state
    → RowsShowAll (record old { session = session; rows = filter (λ (r : RowShown). not (not r.volume.is_live)) old.rows }) (begun session state)
begun-shows session old state sound shows = record {
  next = shows.next;
  session = refl;
  volumes = ap (map volume_in) (filter-twice old.rows) ∙ sym (filter-of_map (λ (v : Volume). v.is_live) volume_in old.rows) ∙ ap (filter (λ (v : Volume). v.is_live)) shows.volumes;
  holdings = λ id. held-live old.own old.rows id sound.each (one-id old sound id) ∙ shows.holdings id;
}

-- and they are sound
pub begun-sound : (session : ℕ) (old : ControllerRows) → AreRowsSound old → AreRowsSound (record old { session = session; rows = filter (λ (r : RowShown). not (not r.volume.is_live)) old.rows })
begun-sound session old sound = record {
  rising = rising-filter controller_plan.id (λ (r : RowShown). not (not r.volume.is_live)) old.rows sound.rising;
  unique = λ name. AtMostOne-filter (λ (r : RowShown). same_text r.volume.name name) (λ (r : RowShown). not (not r.volume.is_live)) old.rows (sound.unique name);
  each = each-filter (IsSoundBy old.own) (λ (r : RowShown). not (not r.volume.is_live)) old.rows sound.each;
}

-- ---- what is kept

-- what is kept for a call's row
pub kept-same : (call : Call) (old : ControllerRows) (state : ControllerState) → RowsShowAll old state → option_map controller_plan.kept (find (controller_plan.is_for call) old.rows) ≡ kept_for call state
kept-same call old state shows =
    by (find (controller_plan.is_for call) old.rows)
    ∙ sym (ap (option_map (λ (v : Volume). v.kept)) (ap (find (is_row_for call)) (sym shows.volumes) ∙ find-of_map (is_row_for call) volume_in old.rows))
  where
    by : (o : Option RowShown) → option_map controller_plan.kept o ≡ option_map (λ (v : Volume). v.kept) (option_map volume_in o)
    by None = refl
    by (Some row) = refl

-- ---- what a new name is answered

-- a row without holdings, at the end
held-append : (rows : List RowShown) (row : RowShown) (id : ℕ) → row.items ≡ [] → held_in (find (λ (r : RowShown). r.volume.id == id) (rows ++ row ∷ [])) ≡ held_in (find (λ (r : RowShown). r.volume.id == id) rows)
held-append rows row id empty = ap held_in (find-append (λ (r : RowShown). r.volume.id == id) rows row) ∙ by (find (λ (r : RowShown). r.volume.id == id) rows) (row.volume.id == id)
  where
    by : (o : Option RowShown) (b : Bool) → held_in (option_or o (cond b (Some row) None)) ≡ held_in o
    by (Some r) b = ap held_in (option_or-some (Some r) (cond b (Some row) None) r refl)
    by None true = ap held_in (option_or-none None (Some row) refl) ∙ ap (map (volume_holding row.volume.id)) empty
    by None false = ap held_in (option_or-none None None refl)

-- a choice between a value and itself is that value
same_either_way : {X : Type 0} (b : Bool) (x : X) → x ≡ cond b x x
same_either_way true x = refl
same_either_way false x = refl

-- ---- a call that is carried out

module _ (config : Config) (number : Number) (old : ControllerRows) (state : ControllerState) (sound : AreRowsSound old) (shows : RowsShowAll old state) where
  -- what is kept of a call that was answered so
  abbrev kept_by : Call → Outcome → Kept
  kept_by call outcome = record { number = number; kind = kind_of call; reply = outcome.reply }

  -- the rows give the reply of this outcome, and show the state after it
  pub record IsCarriedAlike (call : Call) (carried : Carried ℕ RowShown) (outcome : Outcome) : Type 0 where
    pub reply : carried.reply ≡ outcome.reply
    pub after : RowsShowAll carried.state (keep call (kept_by call outcome) (changed state (kept_by call outcome) outcome.change))

  -- no row is the call's, and nothing changes
  alike-same : (call : Call) (reply : Reply) → find (λ (r : RowShown). is_row_for call r.volume) old.rows ≡ None → IsCarriedAlike call (record { reply = reply; state = old }) (record { reply = reply; change = Stays })
  alike-same call reply none =
      let kept : Kept = record { number = number; kind = kind_of call; reply = reply } in
      let volumes : map (kept_in call kept) state.volumes ≡ state.volumes
      = ap (map (kept_in call kept)) (sym shows.volumes) ∙ map-none_shown volume_in (is_row_for call) (λ (v : Volume). record v { kept = kept }) old.rows none ∙ shows.volumes in
      record { reply = refl; after = record { next = shows.next; session = shows.session; volumes = shows.volumes ∙ sym volumes; holdings = shows.holdings } }

  -- a volume is made
  alike-made : (name : List ℕ) (required limit capacity : ℕ) (wished : List Capability) → find (λ (r : RowShown). same_text r.volume.name name) old.rows ≡ None
      → IsCarriedAlike (calls.CreateVolume name required limit wished)
      (record { reply = ok_reply_with old.own; state = record { own = old.own + 1; session = old.session; rows = put_row controller_plan.id (made_row number old.own name capacity wished) old.rows } })
      (record { reply = ok_reply_with old.own; change = Makes name capacity wished })
  alike-made name required limit capacity wished none =
      let call : Call = calls.CreateVolume name required limit wished in
      let kept : Kept = record { number = number; kind = kinds.CreateVolume; reply = ok_reply_with old.own } in
      let row : RowShown = made_row number old.own name capacity wished in
      let last : put_row controller_plan.id row old.rows ≡ old.rows ++ row ∷ []
      = put-last controller_plan.id old.rows row (each-weaker (IsSoundBy old.own) (λ (r : RowShown). r.volume.id < old.own) old.rows (λ r own. own.below) sound.each) in
      let others : map (kept_in call kept) (map volume_in old.rows) ≡ map volume_in old.rows = map-none_shown volume_in (λ (v : Volume). same_text v.name name) (λ (v : Volume). record v { kept = kept }) old.rows none in
      let new : Volume = record { id = state.next_id; name = name; capacity = capacity; capabilities = wished; is_live = true; kept = kept } in
      let with_id : ℕ → Volume = λ k. record { id = k; name = name; capacity = capacity; capabilities = wished; is_live = true; kept = kept } in
      let made : row.volume ≡ kept_in call kept new = ap with_id shows.next ∙ same_either_way (same_text name name) new in
      let before : map volume_in old.rows ≡ map (kept_in call kept) state.volumes = sym others ∙ ap (map (kept_in call kept)) shows.volumes in
      let volumes : map volume_in (old.rows ++ row ∷ []) ≡ map (kept_in call kept) (state.volumes ++ new ∷ [])
      = map-append volume_in old.rows (row ∷ []) ∙ (λ i. before i ++ made i ∷ []) ∙ sym (map-append (kept_in call kept) state.volumes (new ∷ [])) in
      record {
        reply = refl;
        after = subst (λ (rows : List RowShown). RowsShowAll (record { own = old.own + 1; session = old.session; rows = rows }) (keep call kept (changed state kept (Makes name capacity wished)))) (sym last)
            (record {
              next = ap (λ k. k + 1) shows.next;
              session = shows.session;
              volumes = volumes;
              holdings = λ k. held-append old.rows row k refl ∙ shows.holdings k;
            });
      }

  -- a name that no row has is answered by how many rows there are and by the next id
  new-told : (name : List ℕ) (required limit : ℕ) (wished : List Capability) → find (λ (r : RowShown). same_text r.volume.name name) old.rows ≡ None
      → new_line config.greatest (length old.rows) old.own name required limit wished ≡ create config state name required limit wished
  new-told name required limit wished none =
      let unnamed : volume_named name state ≡ None
      = ap (find (λ (v : Volume). same_text v.name name)) (sym shows.volumes) ∙ find-of_map (λ (v : Volume). same_text v.name name) volume_in old.rows ∙ ap (option_map volume_in) none in
      sym (ap (unless (argument_fault required limit wished))
      (ap (create_named config state name required limit wished) unnamed
      ∙ ap (λ k. create_new config.greatest k state.next_id name required limit wished) (ap length (sym shows.volumes) ∙ length-map old.rows volume_in)
      ∙ ap (λ k. create_new config.greatest (length old.rows) k name required limit wished) (sym shows.next)))

  -- CreateVolume of a name that no row has
  alike-new : (name : List ℕ) (required limit : ℕ) (wished : List Capability) → find (λ (r : RowShown). same_text r.volume.name name) old.rows ≡ None → (outcome : Outcome) → IsNewLine (length old.rows) old.own name wished outcome
      → IsCarriedAlike (calls.CreateVolume name required limit wished) (carried_lacking controller_plan old (created number old.own outcome.reply outcome.change)) outcome
  alike-new name required limit wished none _ (refuses status detail) = alike-same (calls.CreateVolume name required limit wished) (refused status detail).reply none
  alike-new name required limit wished none _ (makes capacity room) = alike-made name required limit capacity wished none

  -- what the table answers to another call of an id that no row has
  nowhere-told : (call : Call) → find (λ (r : RowShown). is_row_for call r.volume) old.rows ≡ None → IsTrue (is_party_of (kind_of call) Controller)
      → IsCarriedAlike call (carried_lacking controller_plan old (controller_plan.absent config old.own old.rows number call)) (controller_row config state call)
  nowhere-told (calls.CreateVolume name required limit wished) none party =
      subst (λ (o : Outcome). IsCarriedAlike (calls.CreateVolume name required limit wished) (carried_lacking controller_plan old (controller_plan.absent config old.own old.rows number (calls.CreateVolume name required limit wished))) o)
      (new-told name required limit wished none) (alike-new name required limit wished none (new_line config.greatest (length old.rows) old.own name required limit wished) (new-outcome config.greatest (length old.rows) old.own name required limit wished))
  nowhere-told (calls.DeleteVolume id) none party =
      let call : Call = calls.DeleteVolume id in
      subst (λ (o : Outcome). IsCarriedAlike call (record { reply = reply_nowhere call; state = old }) o) (sym (ap (delete id (holdings_of id state)) (live-nowhere old state id shows none))) (alike-same call (reply_nowhere call) none)
  nowhere-told (calls.ControllerPublishVolume id node capability readonly) none party =
      let call : Call = calls.ControllerPublishVolume id node capability readonly in
      let wanted : NodeHolding = record { node = node; capability = capability; readonly = readonly } in
      subst (λ (o : Outcome). IsCarriedAlike call (record { reply = reply_nowhere call; state = old }) o) (sym (ap (publish config (is_full config state node) state (volume_holding id wanted)) (live-nowhere old state id shows none)))
      (alike-same call (reply_nowhere call) none)
  nowhere-told (calls.ControllerUnpublishVolume id node) none party =
      let call : Call = calls.ControllerUnpublishVolume id node in
      subst (λ (o : Outcome). IsCarriedAlike call (record { reply = reply_nowhere call; state = old }) o) (sym (ap (unpublish id node) (held-nowhere old state id node shows none))) (alike-same call (reply_nowhere call) none)
  nowhere-told call none party = absurd cc

  module _ (call : Call) (row : RowShown) (found : find (controller_plan.is_for call) old.rows ≡ Some row) where
    there : IsFirst (controller_plan.is_for call) old.rows row
    there = first-found (controller_plan.is_for call) old.rows row found

    own : is_row_for call row.volume ≡ true
    own = FirstAt-passes (controller_plan.is_for call) old.rows there.place row there.first

    at : IsAt old.rows there.place row
    at = FirstAt-is_at (controller_plan.is_for call) old.rows there.place row there.first

    abbrev outcome : Outcome
    outcome = lifecycle_row config (is_full_by config.nodes old.rows) (state_shown row) call

    abbrev new : RowShown
    new = row_keeping (kept_by call outcome) (row_changed row outcome.change)

    volume : new.volume ≡ record (row_changed row outcome.change).volume { kept = kept_by call outcome }
    volume = refl

    same_id : new.volume.id ≡ row.volume.id
    same_id = ap (λ (v : Volume). v.id) (same-volume row outcome.change)

    place_of : IsPlaceOf controller_plan.id old.rows row.volume.id there.place
    place_of = record {
      within = FirstAt-within (controller_plan.is_for call) old.rows there.place row there.first;
      has_id = ap (id_of controller_plan.id) (got-at old.rows there.place row at);
    }

    -- a call at its row
    alike-there : IsCarriedAlike call (carried_by controller_plan config old number call (Some row)) (controller_row config state call)
    alike-there =
        let told = told-changed config (is_full_by config.nodes old.rows) row call own in
        let about = can-about row outcome.change told.can in
        let stays = stays-after state (kept_by call outcome) row.volume.id outcome.change about in
        let is_new : set old.rows there.place new ≡ put_row controller_plan.id (row_keeping (kept_by call outcome) (cond (told_in outcome).is_done (controller_plan.change call row) row)) old.rows
        = sym (put-set controller_plan.id old.rows row.volume.id there.place new sound.rising place_of same_id) ∙ ap (λ (r : RowShown). put_row controller_plan.id (row_keeping (kept_by call outcome) r) old.rows) (sym told.changed) in
        subst (λ (o : Outcome). IsCarriedAlike call (carried_by controller_plan config old number call (Some row)) o) (sym (line-told config old state there.place row call sound shows at own))
        (record {
          reply = refl;
          after = subst (λ (rows : List RowShown). RowsShowAll (record old { rows = rows }) (keep call (kept_by call outcome) (changed state (kept_by call outcome) outcome.change))) is_new
              (shown-after old state (keep call (kept_by call outcome) (changed state (kept_by call outcome) outcome.change)) there.place row new (kept_by call outcome) outcome.change shows at (one-id old sound) about stays.0 stays.1
              (volumes-after call (kept_by call outcome) state old.rows there.place row new outcome.change shows.volumes there.first (one-for old.rows call sound.unique sound.rising) about
              (λ id is. ends_call call id (sym (told.own (ap is_change is)) ∙ is)) volume)
              refl same_id refl);
        })

  -- by whether the call has a row
  pub carried-alike : (call : Call) → IsTrue (is_party_of (kind_of call) Controller) → IsCarriedAlike call (carried controller_plan config old number call) (controller_row config state call)
  carried-alike call party = by (find (controller_plan.is_for call) old.rows) refl
    where
      by : (o : Option RowShown) → find (controller_plan.is_for call) old.rows ≡ o → IsCarriedAlike call (carried_by controller_plan config old number call o) (controller_row config state call)
      by None none = nowhere-told call none party
      by (Some row) found = alike-there call row found

-- the rows do what the state does
pub rows-simulate : (config : Config) → Simulates (rows_machine controller_plan config) (controller_with config) AreRowsSound RowsShowAll
rows-simulate config = record {
  party = refl;
  session = λ old state shows. shows.session;
  begun_sound = begun-sound;
  begun = begun-shows;
  kept_for = kept-same;
  carried_out = λ number call old state own sound shows.
      let alike = carried-alike config number old state sound shows call own in
      record { reply = ap (λ (r : Reply). Some (reply_frame number Controller (kind_of call) r)) alike.reply; after = alike.after };
}
