-- What a controller answers to a call, and what that changes, is told by what its rows answer behind the fence.
use Rattle.std.proofs.Common.{◌≡◌, ◌<◌, ◌≤◌, ◌%◌, ◌^◌, ℕ, List, map, Bool, true, false, cond, not, refl, sym, ◌∙◌, ap, subst, arith}
use Rattle.std.specs.Prelude.{Option, Some, None, option_map, filter, slice_get, ◌==◌, Result, Ok, Err, IfOk, OnErr, IsOk, IsTrue}
use Rattle.std.proofs.lemmas.Bool.{ne_eqb, true≢false}
use Rattle.std.proofs.lemmas.Bool.Decides.{nat_tests}
use Rattle.std.proofs.lemmas.List.Elements.{recursion_from_All}
use Rattle.std.proofs.lemmas.Option.{same_Some, slice_get-map}
use Rattle.std.proofs.lemmas.Result.{IfOk-weaker, on_err_weaker}
use Rattle.csi_types.proofs.Filters.{filter-of_map}
use Rattle.csi_types.proofs.Options.{some-from_map, some_is_not_none}
use Rattle.csi_types.proofs.Searches.{find-of_map}
use Rattle.csi_types.specs.declared.call.Call.{Call}
use Rattle.csi_types.specs.declared.call.Party.TheVariants.{Controller, Node}
use Rattle.csi_types.specs.declared.number.Number.{Number}
use Rattle.csi_types.specs.declared.reply.Reply.{Reply}
use Rattle.csi_types.specs.Model.Call.{kind_of}
use Rattle.csi_types.specs.Model.Config.{Config}
use Rattle.csi_types.specs.Public.Call.{is_node_kind, is_party_of}
use Rattle.csi_types.specs.Public.Frame.{IsAllowed}
use Rattle.csi_types.specs.Model.Frame.{Frame}
use Rattle.csi_types.specs.Model.Replies.{call_frame}
use Rattle.csi_types.specs.declared.call.Party.{Party}
use Rattle.csi_types.specs.declared.frame.Body.TheVariants as bodies
use Rattle.csi_fence.specs.declared.answer.Answer.{Answer}
use Rattle.csi_fence.specs.declared.fault.CoreFault.{CoreFault}
use Rattle.csi_fence.specs.Model.Fence.{Kept, begins, is_over}
use Rattle.csi_fence.specs.Model.Fenced.{Fenced, answered_in, in_session, unanswered}
use Rattle.csi_fence.specs.Public.Delivery.{last_of}
use Rattle.csi_fence.specs.Public.Fence.{IsFresh}
use Rattle.csi_fence.specs.Public.Rows.{AreKept, Answers, IsAnswered, Puts, PutsAt, PutsNone, rows_machine}
use Rattle.csi_fence.specs.Public.Rows as rows_of
use Rattle.csi_fence.proofs.PutRows.{put-found, put-others, row_of}
use Rattle.csi_fence.proofs.Simulating.{answered-alike}
use Rattle.csi_controller.specs.declared.row.ControllerRow.{ControllerRow}
use Rattle.csi_controller.specs.Model.Core.{ControllerParts, Shows}
use Rattle.csi_controller.specs.Model.Fenced.{begun, controller_with, fenced, kept_for}
use Rattle.csi_controller.specs.Model.State.{ControllerState}
use Rattle.csi_controller.specs.Public.Core.{IsAnsweredOk, IsCurrent, IsUndoing, next_shown}
use Rattle.csi_fence.specs.Public.Repeats.{IsPlainRepeat}
use Rattle.csi_controller.specs.Public.RowsLaw.{Changes, ChangesAt, row_by_id, staying}
use Rattle.csi_controller.specs.Public.Views.{IsCopyOf}
use Rattle.csi_controller.specs.Public.Answers.{AnswersCall}
use Rattle.csi_controller.specs.Public.Step.{answer_frame}
use Rattle.csi_controller.specs.Public.OneRow.{RowShown, row_shown}
use Rattle.csi_controller.specs.Public.Plan.{Fits, IsSoundBy, controller_plan}
use Rattle.csi_controller.proofs.RowsMachine.{begun-shows, begun-sound, carried-alike, filter-twice, kept-same, rows-simulate}
use Rattle.csi_controller.proofs.ShowingLaw.{next-by}
use Rattle.csi_controller.proofs.ShownRows.{AreRowsSound, ControllerRows, RowsShowAll, held-shown, volumes-shown}

-- ---- what a controller answers to a call of its own

-- from a state, the controller gave this frame and has these parts now, as the definitions have it
pub record IsFencedAnswer (new : ControllerParts) (frame : Frame) (answer : Fenced ControllerState) : Type 0 where
  pub reply : answer.reply ≡ Some frame
  pub shown : Shows new answer.state

-- the answer is what the definitions give, from each state that it showed, and it shows the state after it; the answer
-- says where the row is that was changed
pub record IsCallAnswered (old new : ControllerParts) (number : Number) (call : Call) (answer : Answer) : Type 0 where
  pub told : (state : ControllerState) → Shows old state → IsFencedAnswer new (answer_frame number answer) (answered_in (controller_with old.config) state number call)
  pub changes : ChangesAt answer.row number old new
  pub allowed : IsAllowed Controller (bodies.Reply answer.kind answer.reply)
  pub config : new.config ≡ old.config

-- it shows each state that it showed
pub record IsLeftSo (old new : ControllerParts) : Type 0 where
  pub shown : (state : ControllerState) → Shows old state → Shows new state
  pub config : new.config ≡ old.config

-- it answered this: an `Ok` is the definitions' answer, an `Err` changes nothing, and what takes no memory succeeds
pub record AnswersOwn (old new : ControllerParts) (number : Number) (call : Call) (result : Result Answer CoreFault) : Type 0 where
  pub ok : IfOk result (λ answer. IsCallAnswered old new number call answer)
  pub err : OnErr result (IsLeftSo old new)
  pub repeated : (state : ControllerState) → Shows old state → IsPlainRepeat state.session (kept_for call state) number → IsOk result
  pub undone : (state : ControllerState) → Shows old state → IsUndoing call → IsAnsweredOk old.config state number call → IsOk result

-- ---- a controller's parts as rows

-- the rows of a controller, as they are shown
abbrev pub rows_in : ControllerParts → ControllerRows
rows_in parts = record { own = next_shown parts.next_id; session = parts.session; rows = map row_shown parts.rows }

-- a next id from 1 to 2^64 is told by its 64 bits
next-is : (n m : ℕ) → n ≡ m % 18446744073709551616 → 1 ≤ m → m ≤ 18446744073709551616 → m ≡ next_shown n
next-is n m e from to = grind (arith, nat_tests)

-- the state that the parts show is what the rows show
pub shows-in : (parts : ControllerParts) (state : ControllerState) → Shows parts state → RowsShowAll (rows_in parts) state
shows-in parts state shown = record {
  next = sym (next-is parts.next_id state.next_id shown.shows.next shown.next_from shown.next_to);
  session = shown.session;
  volumes = volumes-shown parts.rows ∙ shown.shows.volumes;
  holdings = λ id. held-shown parts.rows id ∙ shown.shows.holdings id;
}

-- and the other way round
pub shows-out : (parts : ControllerParts) (state : ControllerState) → parts.next_id < 2 ^ 64 → RowsShowAll (rows_in parts) state → Shows parts state
shows-out parts state below shows =
    let next = next-by parts.next_id (parts.next_id == 0) refl below in
    record {
      shows = record {
        next = next.0 ∙ ap (λ (k : ℕ). k % 2 ^ 64) shows.next;
        volumes = sym (volumes-shown parts.rows) ∙ shows.volumes;
        holdings = λ id. sym (held-shown parts.rows id) ∙ shows.holdings id;
      };
      session = shows.session;
      next_from = subst (λ (k : ℕ). 1 ≤ k) shows.next next.1;
      next_to = subst (λ (k : ℕ). k ≤ 2 ^ 64) shows.next next.2;
    }

-- one next id has one number of 64 bits
next_same : (n m : ℕ) → n < 18446744073709551616 → m < 18446744073709551616 → next_shown n ≡ next_shown m → n ≡ m
next_same n m a b h = grind (arith, nat_tests)

-- ---- rows by their ids

-- what two rows show that say the same
pub copy-shown : (a b : Option ControllerRow) → option_map row_shown a ≡ option_map row_shown b → IsCopyOf a b
copy-shown None None h = tt
copy-shown None (Some c) h = absurd (some_is_not_none (row_shown c) (sym h))
copy-shown (Some r) None h = absurd (some_is_not_none (row_shown r) h)
copy-shown (Some r) (Some c) h =
    let same : row_shown r ≡ row_shown c = same_Some (row_shown r) (row_shown c) h in
    record { volume = ap (λ (x : RowShown). x.volume) (sym same); items = ap (λ (x : RowShown). x.items) (sym same) }

-- what is found by an id
pub found-shown : (id : ℕ) (rows : List ControllerRow) → option_map row_shown (row_by_id id rows) ≡ row_of controller_plan.id id (map row_shown rows)
found-shown id rows = sym (find-of_map (λ (r : RowShown). r.volume.id == id) row_shown rows)

-- the rows that stay
staying-shown : (session : ℕ) (number : Number) (rows : List ControllerRow) → map row_shown (staying session number rows) ≡ rows_of.staying controller_plan.is_empty session number (map row_shown rows)
staying-shown session number rows = by (begins session number)
  where
    by : (b : Bool) → map row_shown (cond b (filter (λ (row : ControllerRow). row.live) rows) rows) ≡ cond b (filter (λ (row : RowShown). not (not row.volume.is_live)) (map row_shown rows)) (map row_shown rows)
    by true = sym (filter-twice (map row_shown rows) ∙ filter-of_map (λ (r : RowShown). r.volume.is_live) row_shown rows)
    by false = refl

-- a row that is shown at a place stands there
got-shown : (rows : List ControllerRow) (place : ℕ) (row : RowShown) → slice_get (map row_shown rows) place ≡ Some row → (there : ControllerRow) × (slice_get rows place ≡ Some there) × (row_shown there ≡ row)
got-shown rows place row h = some-from_map row_shown (slice_get rows place) row (sym (slice_get-map row_shown rows place) ∙ h)

-- ---- what is changed

-- no row was put
pub changes-none : (number : Number) (old new : ControllerParts) → old.next_id < 18446744073709551616 → new.next_id < 18446744073709551616 → PutsNone controller_plan number (rows_in old) (rows_in new) → Changes None number old new
changes-none number old new from to puts = record {
  session = puts.session;
  next_id = λ none. next_same new.next_id old.next_id to from puts.own;
  others = λ id other.
      let left = staying old.session number old.rows in
      copy-shown (row_by_id id left) (row_by_id id new.rows)
      (found-shown id left ∙ ap (row_of controller_plan.id id) (staying-shown old.session number old.rows ∙ sym puts.rows) ∙ sym (found-shown id new.rows));
  put = λ id some. absurd (some_is_not_none id (sym some));
  fresh = λ id was some there. absurd (some_is_not_none id (sym some));
}

-- a row was put, and stands at this place
changes-put : (number : Number) (old new : ControllerParts) (place : ℕ) (row : RowShown) → slice_get (map row_shown new.rows) place ≡ Some row → Puts controller_plan number (rows_in old) (rows_in new) row
    → ChangesAt (Some place) number old new
changes-put number old new place row at puts =
    let there = got-shown new.rows place row at in
    let own : there.0.id ≡ row.volume.id = ap (λ (r : RowShown). r.volume.id) there.2 in
    let left = staying old.session number old.rows in
    let stay = rows_of.staying controller_plan.is_empty old.session number (map row_shown old.rows) in (
      there.0,
      there.1,
      record {
        session = puts.session;
        next_id = λ none. absurd (some_is_not_none there.0.id none);
        others = λ id other.
            let apart : (id == row.volume.id) ≡ false = ne_eqb id row.volume.id (λ same. other (ap Some (own ∙ sym same))) in
            copy-shown (row_by_id id left) (row_by_id id new.rows)
            (found-shown id left ∙ ap (row_of controller_plan.id id) (staying-shown old.session number old.rows)
            ∙ sym (put-others controller_plan.id row stay id apart)
            ∙ ap (row_of controller_plan.id id) (sym puts.rows) ∙ sym (found-shown id new.rows));
        put = λ id some.
            let is : id ≡ row.volume.id = sym (same_Some there.0.id id some) ∙ own in
            let found : option_map row_shown (row_by_id id new.rows) ≡ Some row
            = found-shown id new.rows ∙ ap (λ (k : ℕ). row_of controller_plan.id k (map row_shown new.rows)) is ∙ ap (row_of controller_plan.id row.volume.id) puts.rows ∙ put-found controller_plan.id row stay in
            let some_row = some-from_map row_shown (row_by_id id new.rows) row found in
            (some_row.0, some_row.1, ap (λ (r : RowShown). r.volume.kept.number) some_row.2 ∙ puts.has_number);
        fresh = λ id was some found.
            let is : row.volume.id ≡ id = sym own ∙ same_Some there.0.id id some in
            puts.fresh (row_shown was) (ap (λ (k : ℕ). row_of controller_plan.id k (map row_shown old.rows)) is ∙ sym (found-shown id old.rows) ∙ ap (option_map row_shown) found);
      },
    )

-- ---- what is answered

-- a call that was answered
call-answered : (old new : ControllerParts) (number : Number) (call : Call) (answer : Answer) → IsTrue (is_party_of (kind_of call) Controller) → AreRowsSound (rows_in old) → new.config ≡ old.config
    → old.next_id < 18446744073709551616 → new.next_id < 18446744073709551616 → IsAnswered controller_plan old.config number call (rows_in old) (rows_in new) answer → IsCallAnswered old new number call answer
call-answered old new number call answer party sound config from to is =
    record {
      told = λ state shown.
          let alike = answered-alike (rows_machine controller_plan old.config) (controller_with old.config) AreRowsSound RowsShowAll (rows-simulate old.config) number call (rows_in old) state party sound (shows-in old state shown) in
          record {
            reply = sym alike.reply ∙ ap (λ (f : Fenced ControllerRows). f.reply) is.gives;
            shown = shows-out new (answered_in (controller_with old.config) state number call).state to (subst (λ (f : Fenced ControllerRows). RowsShowAll f.state (answered_in (controller_with old.config) state number call).state) is.gives alike.after);
          };
      changes = by answer.row is.puts;
      allowed = is.allowed;
      config = config;
    }
  where
    by : (o : Option ℕ) → PutsAt controller_plan o number (rows_in old) (rows_in new) → ChangesAt o number old new
    by None puts = changes-none number old new from to puts
    by (Some place) puts = changes-put number old new place puts.0 puts.1 puts.2

-- the state in which a call is judged is shown by the rows among which it is
begun-alike : (config : Config) (number : Number) (old : ControllerRows) (state : ControllerState) → AreRowsSound old → RowsShowAll old state
    → RowsShowAll (in_session (rows_machine controller_plan config) number old) (in_session (controller_with config) number state)
begun-alike config number old state sound shows =
    subst (λ (session : ℕ). RowsShowAll (in_session (rows_machine controller_plan config) number old) (cond (begins session number) (begun number.session state) state)) shows.session (by (begins old.session number))
  where
    by : (b : Bool) → RowsShowAll (cond b (rows_of.begun controller_plan number.session old) old) (cond b (begun number.session state) state)
    by true = begun-shows number.session old state sound shows
    by false = shows

-- and these keep the rules
begun-kept : (config : Config) (number : Number) (old : ControllerRows) → AreRowsSound old → AreRowsSound (in_session (rows_machine controller_plan config) number old)
begun-kept config number old sound = by (begins old.session number)
  where
    by : (b : Bool) → AreRowsSound (cond b (rows_of.begun controller_plan number.session old) old)
    by true = begun-sound number.session old sound
    by false = sound

-- what a controller's rows answer to a call of its own
pub own-answers : (old new : ControllerParts) (number : Number) (call : Call) (agrees : List RowShown → Type 0) (empty : ℕ) (result : Result Answer CoreFault) → IsTrue (is_party_of (kind_of call) Controller) → AreRowsSound (rows_in old)
    → new.config ≡ old.config → old.next_id < 18446744073709551616 → new.next_id < 18446744073709551616
    → Answers controller_plan IsSoundBy IsUndoing old.config number call (rows_in old) (rows_in new) agrees empty result → AnswersOwn old new number call result
own-answers old new number call agrees empty result party sound config from to answers = record {
  ok = IfOk-weaker result _ _ (λ answer is. call-answered old new number call answer party sound config from to is) answers.ok;
  err = on_err_weaker result
      (λ same. record { shown = λ state shown. shows-out new state to (subst (λ (r : ControllerRows). RowsShowAll r state) (sym same) (shows-in old state shown)); config = config }) answers.err;
  repeated = λ state shown repeat.
      let shows = shows-in old state shown in
      answers.repeated
      (subst (λ (o : Option Kept). IsPlainRepeat old.session o number) (sym (kept-same call (rows_in old) state shows))
      (subst (λ (session : ℕ). IsPlainRepeat session (kept_for call state) number) (sym shown.session) repeat));
  undone = λ state shown undoing answered.
      let shows = shows-in old state shown in
      let alike = begun-alike old.config number (rows_in old) state sound shows in
      let kept = begun-kept old.config number (rows_in old) sound in
      let judged = in_session (rows_machine controller_plan old.config) number (rows_in old) in
      let state_judged = in_session (controller_with old.config) number state in
      answers.frugal undoing
      (record {
        not_over = ap (λ (session : ℕ). is_over session number) shown.session ∙ answered.0.not_over;
        fresh = subst (λ (o : Option Kept). IsFresh (last_of o) number) (sym (kept-same call judged state_judged alike)) answered.0.fresh;
      })
      (ap (λ (r : Reply). r.status) (carried-alike old.config number judged state_judged kept alike call party).reply ∙ answered.1);
}

-- rows that are kept keep these rules
pub rows-sound : (parts : ControllerParts) (names : List (List ℕ × ℕ)) (counts : List ℕ) (empty : ℕ) → AreKept controller_plan IsSoundBy (Fits parts.config.nodes names counts parts.next_id) (rows_in parts) empty → AreRowsSound (rows_in parts)
rows-sound parts names counts empty kept = record { rising = kept.rising; unique = kept.fits.unique; each = recursion_from_All (IsSoundBy (next_shown parts.next_id)) (map row_shown parts.rows) kept.each }

-- ---- what a controller answers to any call

-- a kind is not both a node's and the controller's
one-party : (b : Bool) → IsTrue (not b) → IsTrue b → ⊥
one-party true own other = true≢false (sym own)
one-party false own other = true≢false (sym other)

-- a call for a node gets nothing of the controller, whatever names it
other-frame : (config : Config) (state : ControllerState) (number : Number) (party : Party) (call : Call) → is_party_of (kind_of call) Controller ≡ false → IsAllowed party (bodies.Call call)
    → fenced config state (call_frame number party call) ≡ unanswered state
other-frame config state number Controller call other allowed = absurd (true≢false (sym allowed ∙ other))
other-frame config state number (Node id) call other allowed = refl

-- a call for the controller gets its answer
own-frame : (config : Config) (state : ControllerState) (number : Number) (party : Party) (call : Call) → IsTrue (is_party_of (kind_of call) Controller) → IsAllowed party (bodies.Call call)
    → fenced config state (call_frame number party call) ≡ answered_in (controller_with config) state number call
own-frame config state number Controller call own allowed = refl
own-frame config state number (Node id) call own allowed = absurd (one-party (is_node_kind (kind_of call)) own allowed)

-- a call for a node changes nothing
pub other-call : (parts : ControllerParts) (number : Number) (call : Call) → is_party_of (kind_of call) Controller ≡ false → IsCurrent parts.session parts.rows
    → AnswersCall (Unit {0}) parts parts number call (Ok None)
other-call parts number call other current = record {
  reply = λ state party shown allowed fit. sym (ap (λ (f : Fenced ControllerState). f.reply) (other-frame parts.config state number party call other allowed));
  state = λ state party shown allowed fit. subst (λ (f : Fenced ControllerState). Shows parts f.state) (sym (other-frame parts.config state number party call other allowed)) shown;
  changes = tt;
  current = current;
  unanswered = λ none. refl;
  allowed = tt;
  config = refl;
  err = λ state shown. tt;
  unfit = λ none. absurd (none tt);
  others = λ others. refl;
  undone = λ state shown undoing ok. refl;
  repeated = λ state shown repeat. refl;
}

-- a call for the controller was answered
pub own-call : (old new : ControllerParts) (number : Number) (call : Call) (answer : Answer) → IsTrue (is_party_of (kind_of call) Controller) → IsCurrent new.session new.rows
    → AnswersOwn old new number call (Ok answer) → AnswersCall (Unit {0}) old new number call (Ok (Some answer))
own-call old new number call answer own current answers = record {
  reply = λ state party shown allowed fit. sym (ap (λ (f : Fenced ControllerState). f.reply) (own-frame old.config state number party call own allowed) ∙ (answers.ok.told state shown).reply);
  state = λ state party shown allowed fit. subst (λ (f : Fenced ControllerState). Shows new f.state) (sym (own-frame old.config state number party call own allowed)) (answers.ok.told state shown).shown;
  changes = answers.ok.changes;
  current = current;
  unanswered = λ none. cc;
  allowed = answers.ok.allowed;
  config = answers.ok.config;
  err = λ state shown. tt;
  unfit = λ none. absurd (none tt);
  others = λ others. absurd (one-party (is_party_of (kind_of call) Controller) others own);
  undone = λ state shown undoing ok. refl;
  repeated = λ state shown repeat. refl;
}

-- or refused memory
pub own-refused : (old new : ControllerParts) (number : Number) (call : Call) (fault : CoreFault) → IsTrue (is_party_of (kind_of call) Controller) → IsCurrent new.session new.rows
    → AnswersOwn old new number call (Err fault) → AnswersCall (Unit {0}) old new number call (Err fault)
own-refused old new number call fault own current answers = record {
  reply = λ state party shown allowed fit. tt;
  state = λ state party shown allowed fit. tt;
  changes = tt;
  current = current;
  unanswered = λ none. cc;
  allowed = tt;
  config = answers.err.config;
  err = answers.err.shown;
  unfit = λ none. absurd (none tt);
  others = λ others. absurd (one-party (is_party_of (kind_of call) Controller) others own);
  undone = answers.undone;
  repeated = answers.repeated;
}

-- a call with a text that doesn't fit gets nothing, and changes nothing
pub unfit-call : (is_fit : Type 0) (parts : ControllerParts) (number : Number) (call : Call) → (is_fit → ⊥) → IsCurrent parts.session parts.rows → AnswersCall is_fit parts parts number call (Ok None)
unfit-call is_fit parts number call none current = record {
  reply = λ state party shown allowed fit. absurd (none fit);
  state = λ state party shown allowed fit. absurd (none fit);
  changes = tt;
  current = current;
  unanswered = λ silent. refl;
  allowed = tt;
  config = refl;
  err = λ state shown. tt;
  unfit = λ unfit. (refl, refl);
  others = λ others. refl;
  undone = λ state shown undoing ok. refl;
  repeated = λ state shown repeat. refl;
}
