-- Rows by id behind the fence, with a table that says what a call does with its row. Both plugins keep their rows so. This profile's
-- own.
use Rattle.std.specs.Prelude.{◌≡◌, ◌≢◌, ℕ, ◌<◌, ◌≤◌, ◌==◌, ◌||◌, nat_lt, List, [], ◌∷◌, filter, find, length, slice_get, map, count_by, All, Bool, true, not, Option, Some, None, option_map, if◌then◌else◌, Result, IfOk, OnErr, IsOk, IsTrue}
use Rattle.csi_types.specs.declared.rows.TheConstants.{MAX_ROWS}
use Rattle.csi_types.specs.declared.number.Number.{Number}
use Rattle.csi_types.specs.declared.call.Call.{Call}
use Rattle.csi_types.specs.declared.call.Party.{Party}
use Rattle.csi_types.specs.declared.frame.Body.TheVariants as bodies
use Rattle.csi_types.specs.declared.reply.Reply.{Reply}
use Rattle.csi_types.specs.declared.status.Status.TheVariants.{Ok}
use Rattle.csi_types.specs.Model.Call.{kind_of}
use Rattle.csi_types.specs.Model.Replies.{reply_frame}
use Rattle.csi_types.specs.Public.Call.{is_party_of}
use Rattle.csi_types.specs.Public.Frame.{IsAllowed}
use Rattle.csi_fence.specs.declared.answer.Answer.{Answer}
use Rattle.csi_fence.specs.declared.fault.CoreFault.{CoreFault}
use Rattle.csi_fence.specs.Model.Fence.{Kept, begins}
use Rattle.csi_fence.specs.Model.Fenced.{Machine, in_session, answered_in}
use Rattle.csi_fence.specs.Public.Lawful.{IsLetThrough}
use Rattle.csi_fence.specs.Public.Repeats.{IsPlainRepeat}

-- what a line of a table answers, and whether the call's change is made
pub record Told : Type 0 where
  pub reply : Reply
  pub is_done : Bool

-- what a call gets that has no row: an answer alone, or a row that is made, which keeps the call and its reply
pub data Lacking (S : Type 0) : Type 0 where
  Answered : (reply : Reply) → Lacking S
  Made : (row : S) → Lacking S

-- a table, by how its rows are shown (S), by what never changes of its plugin (Fixed) and by what else changes (Own): the plugin; of a
-- row its id, what it keeps of the last call, the row with that kept, and whether it is forgotten where a session begins; which row is
-- a call's; what the row answers, and what the call changes of it; what a call gets that has no row; and what changes with a row that
-- is made
pub record Plan (Fixed Own S : Type 0) : Type 0 where
  pub party : Fixed → Party
  pub id : S → ℕ
  pub kept : S → Kept
  pub keep : Kept → S → S
  pub is_empty : S → Bool
  pub is_for : Call → S → Bool
  pub line : Fixed → List S → S → Call → Told
  pub change : Call → S → S
  pub absent : Fixed → Own → List S → Number → Call → Lacking S
  pub next : Own → Own

-- what a plugin with rows knows: the greatest session that came, and its rows by rising id
pub record RowsState (Own S : Type 0) : Type 0 where
  pub own : Own
  pub session : ℕ
  pub rows : List S

-- what these rows are to their plugin, with its table and session
abbrev pub rows_shown : {Table Own Row S : Type 0} → (Table → Own) → (Row → S) → Table → ℕ → List Row → RowsState Own S
rows_shown own shown table session rows = record { own = own table; session = session; rows = map shown rows }

-- the row takes the place of the one of its id, or goes where its id belongs
abbrev pub put_row : {S : Type 0} → (S → ℕ) → S → List S → List S
put_row id row [] = row ∷ []
put_row id row (other ∷ others) =
    if nat_lt (id other) (id row) then other ∷ put_row id row others
    else if id other == id row then row ∷ others
    else row ∷ other ∷ others

-- the row after a call that was told this
abbrev pub row_after : {Fixed Own S : Type 0} → Plan Fixed Own S → Number → Call → Told → S → S
row_after plan number call told row =
    plan.keep (record { number = number; kind = kind_of call; reply = told.reply }) (if told.is_done then plan.change call row else row)

-- the reply to a call that is carried out, and the state after it
pub record Carried (Own S : Type 0) : Type 0 where
  pub reply : Reply
  pub state : RowsState Own S

-- at a row, by what it is told
abbrev pub carried_told : {Fixed Own S : Type 0} → Plan Fixed Own S → RowsState Own S → Number → Call → S → Told → Carried Own S
carried_told plan state number call row told =
    record { reply = told.reply; state = record state { rows = put_row plan.id (row_after plan number call told row) state.rows } }

-- without a row, by what that gets
abbrev pub carried_lacking : {Fixed Own S : Type 0} → Plan Fixed Own S → RowsState Own S → Lacking S → Carried Own S
carried_lacking plan state (Answered reply) = record { reply = reply; state = state }
carried_lacking plan state (Made row) =
    record { reply = (plan.kept row).reply; state = record { own = plan.next state.own; session = state.session; rows = put_row plan.id row state.rows } }

-- by the call's row, if it has one
abbrev pub carried_by : {Fixed Own S : Type 0} → Plan Fixed Own S → Fixed → RowsState Own S → Number → Call → Option S → Carried Own S
carried_by plan fixed state number call (Some row) = carried_told plan state number call row (plan.line fixed state.rows row call)
carried_by plan fixed state number call None = carried_lacking plan state (plan.absent fixed state.own state.rows number call)

-- a call that the fence let through
abbrev pub carried : {Fixed Own S : Type 0} → Plan Fixed Own S → Fixed → RowsState Own S → Number → Call → Carried Own S
carried plan fixed state number call = carried_by plan fixed state number call (find (plan.is_for call) state.rows)

-- a later session begins: empty rows are forgotten
abbrev pub begun : {Fixed Own S : Type 0} → Plan Fixed Own S → ℕ → RowsState Own S → RowsState Own S
begun plan session state = record state { session = session; rows = filter (λ row. not (plan.is_empty row)) state.rows }

-- the plugin, behind the fence
abbrev pub rows_machine : {Fixed Own S : Type 0} → Plan Fixed Own S → Fixed → Machine (RowsState Own S)
rows_machine plan fixed =
    record {
      party = plan.party fixed;
      session = λ state. state.session;
      begun = begun plan;
      kept_for = λ call state. option_map plan.kept (find (plan.is_for call) state.rows);
      carried_out = λ state number call.
          record { reply = Some (reply_frame number (plan.party fixed) (kind_of call) (carried plan fixed state number call).reply); state = (carried plan fixed state number call).state };
    }

-- ---- the rules of rows

-- the id at a place, 0 where none is
abbrev pub id_of : {S : Type 0} → (S → ℕ) → Option S → ℕ
id_of id None = 0
id_of id (Some row) = id row

-- ids rise
abbrev pub AreRising : {S : Type 0} → (S → ℕ) → List S → Type 0
AreRising id rows = (i j : ℕ) → i < j → j < length rows → id_of id (slice_get rows i) < id_of id (slice_get rows j)

-- the row of the id is at this place
pub record IsPlaceOf {S : Type 0} (row_id : S → ℕ) (rows : List S) (id place : ℕ) : Type 0 where
  pub within : place < length rows
  pub has_id : id_of row_id (slice_get rows place) ≡ id

-- no row has the id, which would stand at this place
pub record IsGapFor {S : Type 0} (row_id : S → ℕ) (rows : List S) (id place : ℕ) : Type 0 where
  pub within : place ≤ length rows
  pub before : (j : ℕ) → j < place → id_of row_id (slice_get rows j) < id
  pub after : (j : ℕ) → place ≤ j → j < length rows → id < id_of row_id (slice_get rows j)

-- a row's last call is of no later session than the greatest that came; and of that one, where it is empty
pub record IsCurrentRow {Fixed Own S : Type 0} (plan : Plan Fixed Own S) (session : ℕ) (row : S) : Type 0 where
  pub before : (plan.kept row).number.session ≤ session
  pub empty : plan.is_empty row ≡ true → (plan.kept row).number.session ≡ session

-- the rules of rows: by rising id, at most 4,096, each with the rules of a row, and current; what the table keeps beside them fits them; and
-- so many of them are empty
pub record AreKept {Fixed Own S : Type 0} (plan : Plan Fixed Own S) (is_sound : Own → S → Type 0) (agrees : List S → Type 0) (state : RowsState Own S) (empty : ℕ) : Type 0 where
  pub rising : AreRising plan.id state.rows
  pub limit : length state.rows ≤ MAX_ROWS
  pub each : All (is_sound state.own) state.rows
  pub current : All (IsCurrentRow plan state.session) state.rows
  pub fits : agrees state.rows
  pub counted : empty ≡ count_by plan.is_empty state.rows

-- ---- what a call changes of rows

-- the greatest session that came, once a call of this number did
abbrev pub session_after : ℕ → Number → ℕ
session_after session number = if begins session number then number.session else session

-- the rows that stay then: where the call begins a session, those that aren't empty
abbrev pub staying : {S : Type 0} → (S → Bool) → ℕ → Number → List S → List S
staying is_empty session number rows = if begins session number then filter (λ row. not (is_empty row)) rows else rows

-- a row stays in a session that began: it isn't empty, or its last call is of that session
abbrev pub stays_in : {Fixed Own S : Type 0} → Plan Fixed Own S → ℕ → S → Bool
stays_in plan session row = not (plan.is_empty row) || ((plan.kept row).number.session == session)

-- a call of this number put in a row, or none: then the row has the call's number, and hadn't before. All other rows that stay are as they
-- were
pub record Puts {Fixed Own S : Type 0} (plan : Plan Fixed Own S) (number : Number) (old new : RowsState Own S) (row : S) : Type 0 where
  pub session : new.session ≡ session_after old.session number
  pub has_number : (plan.kept row).number ≡ number
  pub rows : new.rows ≡ put_row plan.id row (staying plan.is_empty old.session number old.rows)
  pub fresh : (was : S) → find (λ other. plan.id other == plan.id row) old.rows ≡ Some was → (plan.kept was).number ≢ number

-- none was put in
pub record PutsNone {Fixed Own S : Type 0} (plan : Plan Fixed Own S) (number : Number) (old new : RowsState Own S) : Type 0 where
  pub session : new.session ≡ session_after old.session number
  pub own : new.own ≡ old.own
  pub rows : new.rows ≡ staying plan.is_empty old.session number old.rows

-- the row that was put in stands at this place
abbrev pub PutsAt : {Fixed Own S : Type 0} → Plan Fixed Own S → Option ℕ → Number → RowsState Own S → RowsState Own S → Type 0
PutsAt plan None number old new = PutsNone plan number old new
PutsAt {Fixed} {Own} {S} plan (Some place) number old new = (row : S) × (slice_get new.rows place ≡ Some row) × Puts plan number old new row

-- ---- answers of rows

-- so the rows answered a call: what the fence and the table have, and the state after it; and which row was put in
pub record IsAnswered {Fixed Own S : Type 0} (plan : Plan Fixed Own S) (fixed : Fixed) (number : Number) (call : Call) (old new : RowsState Own S) (answer : Answer) : Type 0 where
  pub gives : answered_in (rows_machine plan fixed) old number call
      ≡ record { reply = Some (reply_frame number (plan.party fixed) answer.kind answer.reply); state = new }
  pub puts : PutsAt plan answer.row number old new
  pub allowed : IsAllowed (plan.party fixed) (bodies.Reply answer.kind answer.reply)

-- to a call of their plugin the rows answered this: an `Err` changes nothing, the rules hold, and what takes no memory succeeds
pub record Answers {Fixed Own S : Type 0} (plan : Plan Fixed Own S) (is_sound : Own → S → Type 0) (is_frugal : Call → Type 0) (fixed : Fixed) (number : Number) (call : Call) (old new : RowsState Own S) (agrees : List S → Type 0) (empty : ℕ) (result : Result Answer CoreFault) : Type 0 where
  pub ok : IfOk result (IsAnswered plan fixed number call old new)
  pub err : OnErr result (new ≡ old)
  pub kept : AreKept plan is_sound agrees new empty
  pub repeated : IsPlainRepeat old.session ((rows_machine plan fixed).kept_for call old) number → IsOk result
  pub frugal : is_frugal call → IsLetThrough (rows_machine plan fixed) old number call
      → (carried plan fixed (in_session (rows_machine plan fixed) number old) number call).reply.status ≡ Ok → IsOk result

-- a call of their plugin is asked of rows that keep the rules
pub record IsAskedOf {Fixed Own S : Type 0} (plan : Plan Fixed Own S) (is_sound : Own → S → Type 0) (fixed : Fixed) (call : Call) (state : RowsState Own S) (agrees : List S → Type 0) (empty : ℕ) : Type 0 where
  pub party : IsTrue (is_party_of (kind_of call) (plan.party fixed))
  pub kept : AreKept plan is_sound agrees state empty

-- they answered it, and what never changes of the plugin is as it was
pub record HaveAnswered {Fixed Own S : Type 0} (plan : Plan Fixed Own S) (is_sound : Own → S → Type 0) (is_frugal : Call → Type 0) (was is : Fixed) (number : Number) (call : Call) (old new : RowsState Own S) (agrees : List S → Type 0) (empty : ℕ) (result : Result Answer CoreFault) : Type 0 where
  pub answers : Answers plan is_sound is_frugal was number call old new agrees empty result
  pub fixed : is ≡ was
