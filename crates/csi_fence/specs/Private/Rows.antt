-- Rows where a session begins, and a call that is carried out at a place among them. This profile's own.
use Rattle.std.specs.Prelude.{◌≡◌, ℕ, ◌<◌, ◌≤◌, List, map, filter, count_by, length, slice_get, slice_set, vec_capacity, not, Some, if◌then◌else◌, Result, IfOk, IsOk, OnErr}
use Rattle.std.specs.Global.{Vec}
use Rattle.csi_types.specs.declared.call.Call.{Call}
use Rattle.csi_types.specs.declared.number.Number.{Number}
use Rattle.csi_types.specs.declared.reply.Reply.{Reply}
use Rattle.csi_types.specs.declared.status.Status.TheVariants.{Ok}
use Rattle.csi_fence.specs.declared.fault.CoreFault.{CoreFault}
use Rattle.csi_fence.specs.Model.Fence.{begins}
use Rattle.csi_fence.specs.Public.Rows.{AreRising, IsAskedOf, Plan, RowsState, Told, row_after, stays_in}

-- rows can forget: they are by rising id, what the table keeps beside them fits them, so many don't stay where this session has begun, and
-- so many are empty
pub record CanForget {Fixed Own S : Type 0} (plan : Plan Fixed Own S) (fits : List S → Type 0) (rows : List S) (session many none : ℕ) : Type 0 where
  pub rising : AreRising plan.id rows
  pub agrees : fits rows
  pub forgettable : many ≡ count_by (λ row. not (stays_in plan session row)) rows
  pub empty : none ≡ count_by plan.is_empty rows

-- they forgot: this session is the greatest that came, those stay that stay in it, as many of them as are counted are empty, and what the
-- table keeps beside them fits them; there is room where there was, and all else is as it was
pub record HaveForgotten {Table Row Room Fixed Own S : Type 0} (plan : Plan Fixed Own S) (fixed_of : Table → Fixed) (own_of : Table → Own) (shown : Row → S) (fits : Table → List S → Type 0)
    (has_room_for : Table → Room → S → Type 0) (begun now : ℕ) (old new : Table) (old_rows new_rows : Vec Row) (none : ℕ) : Type 0 where
  pub session : now ≡ begun
  pub rows : map shown new_rows.items ≡ filter (stays_in plan begun) (map shown old_rows.items)
  pub room : length old_rows.items < vec_capacity old_rows → length new_rows.items < vec_capacity new_rows
  pub empty : none ≡ count_by plan.is_empty (map shown new_rows.items)
  pub fixed : fixed_of new ≡ fixed_of old
  pub own : own_of new ≡ own_of old
  pub agrees : fits new (map shown new_rows.items)
  pub has_room : (room : Room) (row : S) → has_room_for old room row → has_room_for new room row

-- a call that isn't over is asked, and so many rows are forgotten by it
pub record IsAskedInTime {Fixed Own S : Type 0} (plan : Plan Fixed Own S) (is_sound : Own → S → Type 0) (fixed : Fixed) (number : Number) (call : Call) (state : RowsState Own S) (agrees : List S → Type 0) (empty many : ℕ) : Type 0 where
  pub asked : IsAskedOf plan is_sound fixed call state agrees empty
  pub not_over : state.session ≤ number.session
  pub forgettable : many ≡ (if begins state.session number then empty else 0)

-- the row at this place was told so, and no other one is changed
pub record IsCarriedAt {Fixed Own S : Type 0} (plan : Plan Fixed Own S) (is_sound : S → Type 0) (number : Number) (call : Call) (told : Told) (row : S) (place : ℕ) (old new : List S) (reply : Reply) : Type 0 where
  pub is_reply : reply ≡ told.reply
  pub rows : new ≡ slice_set old place (row_after plan number call told row)
  pub sound : is_sound (row_after plan number call told row)

-- a call was carried out at the row at this place: the row was told so, no other one is changed, as many rows as are counted are empty, and
-- what the table keeps beside them fits them. An `Err` changes no row, and what takes no memory succeeds
pub record IsCarriedOutAt {Fixed Own S : Type 0} (plan : Plan Fixed Own S) (is_sound : Own → S → Type 0) (is_frugal : Call → Type 0) (was is : Fixed) (number : Number) (call : Call) (place : ℕ) (old new : RowsState Own S) (fits : List S → Type 0) (none : ℕ) (result : Result Reply CoreFault) : Type 0 where
  pub session : new.session ≡ old.session
  pub fixed : is ≡ was
  pub own : new.own ≡ old.own
  pub ok : (row : S) → slice_get old.rows place ≡ Some row → IfOk result (IsCarriedAt plan (is_sound old.own) number call (plan.line was old.rows row call) row place old.rows new.rows)
  pub empty : none ≡ count_by plan.is_empty new.rows
  pub agrees : fits new.rows
  pub err : OnErr result (new.rows ≡ old.rows)
  pub frugal : (row : S) → slice_get old.rows place ≡ Some row → is_frugal call → (plan.line was old.rows row call).reply.status ≡ Ok → IsOk result
