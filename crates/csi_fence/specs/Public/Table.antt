-- What a table keeps, and what it does with a row. This profile's own.
use Rattle.std.specs.Prelude.{◌≡◌, ℕ, ◌<◌, ◌==◌, List, length, filter, find, not, All, slice_get, slice_set, Some, None}
use Rattle.csi_types.specs.Public.Places.{AtMostOne}
use Rattle.csi_types.specs.declared.rows.TheConstants.{MAX_ROWS}
use Rattle.csi_types.specs.declared.number.Number.{Number}
use Rattle.csi_types.specs.declared.call.Call.{Call}
use Rattle.csi_types.specs.declared.frame.Body.TheVariants as bodies
use Rattle.csi_types.specs.declared.reply.Reply.{Reply}
use Rattle.csi_types.specs.Model.Call.{kind_of}
use Rattle.csi_types.specs.declared.call.Kind.{Kind}
use Rattle.csi_types.specs.declared.call.Party.{Party}
use Rattle.csi_types.specs.Public.Frame.{IsAllowed}
use Rattle.csi_fence.specs.declared.table.Absent.{Absent}
use Rattle.csi_fence.specs.declared.table.Absent.TheVariants as absents
use Rattle.csi_fence.specs.Model.Fence.{Kept}
use Rattle.csi_fence.specs.Public.Rows.{Plan, Lacking, Answered, Made, AreRising}

-- what a call without a row gets: the definition's, with a copy of the reply; the reply is one that the plugin may give, and the row that is
-- made keeps the rules, and has room
pub record IsMade {Fixed Own S : Type 0} (plan : Plan Fixed Own S) (is_sound : Own → S → Type 0) (own : Own) (told : Lacking S) (row : S) (reply : Reply) : Type 0 where
  pub is_told : told ≡ Made row
  pub is_kept : reply ≡ (plan.kept row).reply
  pub sound : is_sound (plan.next own) row

-- the laws of a plan: an id is never changed, what is kept is kept, empty rows change nothing of what a row answers, and a row that is made is one of
-- the call's, is within the limit, and has an id of its own
pub record IsOrderly {Fixed Own S : Type 0} (plan : Plan Fixed Own S) (is_sound : Own → S → Type 0) : Type 0 where
  pub keep_id : (kept : Kept) (row : S) → plan.id (plan.keep kept row) ≡ plan.id row
  pub keep_kept : (kept : Kept) (row : S) → plan.kept (plan.keep kept row) ≡ kept
  pub keep_empty : (kept : Kept) (row : S) → plan.is_empty (plan.keep kept row) ≡ plan.is_empty row
  pub change_id : (call : Call) (row : S) → plan.id (plan.change call row) ≡ plan.id row
  pub keep_sound : (fixed : Fixed) (own : Own) (kept : Kept) (row : S) → is_sound own row → IsAllowed (plan.party fixed) (bodies.Reply kept.kind kept.reply) → is_sound own (plan.keep kept row)
  pub sound_allowed : (fixed : Fixed) (own : Own) (row : S) → is_sound own row → IsAllowed (plan.party fixed) (bodies.Reply (plan.kept row).kind (plan.kept row).reply)
  pub line_full : (fixed : Fixed) (own : Own) (rows : List S) (row : S) (call : Call) → All (is_sound own) rows → plan.line fixed (filter (λ row. not (plan.is_empty row)) rows) row call ≡ plan.line fixed rows row call
  pub next_sound : (own : Own) (row : S) → is_sound own row → is_sound (plan.next own) row
  pub made_kept : (fixed : Fixed) (own : Own) (rows : List S) (number : Number) (call : Call) (row : S) → plan.absent fixed own rows number call ≡ Made row
      → ((plan.kept row).number ≡ number) × ((plan.kept row).kind ≡ kind_of call) × (length rows < MAX_ROWS)
  pub made_new : (fixed : Fixed) (own : Own) (rows : List S) (number : Number) (call : Call) (row : S) → plan.absent fixed own rows number call ≡ Made row
      → All (is_sound own) rows → find (plan.is_for call) rows ≡ None → find (λ other. plan.id other == plan.id row) rows ≡ None

-- what is kept beside rows fits them still where one of them keeps another call
abbrev pub LetsKeep : {Fixed Own S : Type 0} → Plan Fixed Own S → (List S → Type 0) → Type 0
LetsKeep {Fixed} {Own} {S} plan agrees = (rows : List S) (place : ℕ) (row : S) (kept : Kept) → agrees rows → slice_get rows place ≡ Some row → agrees (slice_set rows place (plan.keep kept row))

-- at most one row is a call's
abbrev pub HasOneRow : {Fixed Own S : Type 0} → Plan Fixed Own S → (List S → Type 0) → Type 0
HasOneRow {Fixed} {Own} {S} plan agrees = (rows : List S) (call : Call) → agrees rows → AreRising plan.id rows → AtMostOne (plan.is_for call) rows

-- a table answers so that a call has no row
abbrev pub IsAbsent : {Fixed Own S Row Room : Type 0} → Plan Fixed Own S → (Own → S → Type 0) → (Row → S) → Own → Lacking S → Absent Row Room → Type 0
IsAbsent plan is_sound shown own told (absents.Answered reply) = told ≡ Answered reply
IsAbsent plan is_sound shown own told (absents.Made row reply room) = IsMade plan is_sound own told (shown row) reply

-- the reply is one that the plugin may give
abbrev pub IsAllowedAbsent : {Row Room : Type 0} → Party → Kind → Absent Row Room → Type 0
IsAllowedAbsent party kind (absents.Answered reply) = IsAllowed party (bodies.Reply kind reply)
IsAllowedAbsent party kind (absents.Made row reply room) = Unit {0}

-- no row is made
abbrev pub MakesNone : {Row Room : Type 0} → Absent Row Room → Type 0
MakesNone (absents.Answered reply) = Unit {0}
MakesNone (absents.Made row reply room) = ⊥

-- there is room for a row that is made
abbrev pub HasRoomIn : {Table S Row Room : Type 0} → (Table → Room → S → Type 0) → (Row → S) → Table → Absent Row Room → Type 0
HasRoomIn has_room shown table (absents.Answered reply) = Unit {0}
HasRoomIn has_room shown table (absents.Made row reply room) = has_room table room (shown row)

-- the reply that a call without a row gets
abbrev pub reply_of_lacking : {Fixed Own S : Type 0} → Plan Fixed Own S → Lacking S → Reply
reply_of_lacking plan (Answered reply) = reply
reply_of_lacking plan (Made row) = (plan.kept row).reply
