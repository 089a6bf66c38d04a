-- A small plugin's table: it makes volumes and deletes them, and nothing else. This profile's own.
use Rattle.std.specs.Prelude.{◌≡◌, ℕ, ◌+◌, ◌-◌, ◌^◌, ◌<◌, ◌==◌, ◌||◌, nat_le, List, [], length, Bool, false, true, not, if◌then◌else◌, codes}
use Rattle.csi_types.specs.Public.Places.{AtMostOne}
use Rattle.csi_types.specs.declared.rows.TheConstants.{MAX_ROWS}
use Rattle.csi_types.specs.declared.number.Number.{Number}
use Rattle.csi_types.specs.declared.call.Call.{Call}
use Rattle.csi_types.specs.declared.call.Call.TheVariants as calls
use Rattle.csi_types.specs.declared.call.Kind.{Kind}
use Rattle.csi_types.specs.declared.call.Kind.TheVariants as kinds
use Rattle.csi_types.specs.declared.call.Party.TheVariants.{Controller}
use Rattle.csi_types.specs.declared.frame.Body.TheVariants as bodies
use Rattle.csi_types.specs.declared.status.Status.TheVariants.{AlreadyExists, ResourceExhausted, Unimplemented}
use Rattle.csi_types.specs.declared.reply.Reply.{Reply}
use Rattle.csi_types.specs.Model.Call.{kind_of}
use Rattle.csi_types.specs.Model.Replies.{plain_reply, ok_reply, ok_reply_with}
use Rattle.csi_types.specs.Model.Same.{same_text}
use Rattle.csi_types.specs.Public.Frame.{IsAllowed}
use Rattle.csi_fence.specs.declared.table.Absent.{Absent}
use Rattle.csi_fence.specs.declared.table.Absent.TheVariants as absents
use Rattle.csi_fence.specs.Public.Rows.{Plan, Told, Lacking, Answered, Made}
use Rattle.csi_plugin_tests.specs.declared.shelf.ShelfRow.{ShelfRow}

-- what a call says of its volume
pub data Key : Type 0 where
  Named : (name : List ℕ) → Key
  Given : (id : ℕ) → Key

abbrev pub key_of : Call → Key
key_of (calls.CreateVolume name required limit capabilities) = Named name
key_of (calls.DeleteVolume id) = Given id
key_of (calls.ControllerPublishVolume id node capability readonly) = Given id
key_of (calls.ControllerUnpublishVolume id node) = Given id
key_of (calls.NodeStageVolume id capability) = Given id
key_of (calls.NodeUnstageVolume id) = Given id
key_of (calls.NodePublishVolume id target capability readonly) = Given id
key_of (calls.NodeUnpublishVolume id target) = Given id

-- which row it is
abbrev pub is_for : Key → ShelfRow → Bool
is_for (Named name) row = same_text row.name name
is_for (Given id) row = row.id == id

-- a reply with which nothing changes
abbrev pub only : Reply → Told
only reply = record { reply = reply; is_done = false }

-- what a row answers
abbrev pub line : ShelfRow → Call → Told
line row (calls.CreateVolume name required limit capabilities) = if row.live then only (ok_reply_with row.id) else only (plain_reply AlreadyExists (codes "name"))
line row (calls.DeleteVolume id) = record { reply = ok_reply; is_done = true }
line row _ = only (plain_reply Unimplemented [])

-- the kind is DeleteVolume
abbrev pub is_delete : Kind → Bool
is_delete kinds.DeleteVolume = true
is_delete _ = false

-- no volume can be made
abbrev pub is_full : ℕ → List ShelfRow → Bool
is_full next rows = nat_le MAX_ROWS (length rows) || ((next == 0) || nat_le (2 ^ 64 - 1) next)

-- the row of a volume that is made
abbrev pub made_row : Number → Kind → ℕ → List ℕ → ShelfRow
made_row number kind id name = record { id = id; name = name; live = true; last = number; kind = kind; reply = ok_reply_with id }

-- what a call gets that has no row
abbrev pub absent : ℕ → List ShelfRow → Number → Kind → Key → Lacking ShelfRow
absent next rows number kind (Named name) =
    if is_full next rows then Answered (plain_reply ResourceExhausted (codes "volumes")) else Made (made_row number kind next name)
absent next rows number kind (Given id) = Answered (if is_delete kind then ok_reply else plain_reply Unimplemented [])

-- the plugin
abbrev pub shelf : Plan (Unit {0}) ℕ ShelfRow
shelf =
    record {
      party = λ fixed. Controller;
      id = λ row. row.id;
      kept = λ row. record { number = row.last; kind = row.kind; reply = row.reply };
      keep = λ kept row. record row { last = kept.number; kind = kept.kind; reply = kept.reply };
      is_empty = λ row. not row.live;
      is_for = λ call row. is_for (key_of call) row;
      line = λ fixed rows row call. line row call;
      change = λ call row. record row { live = false };
      absent = λ fixed next rows number call. absent next rows number (kind_of call) (key_of call);
      next = λ next. next + 1;
    }

-- the rules of a row
pub record IsSound (next : ℕ) (row : ShelfRow) : Type 0 where
  pub below : row.id < next
  pub allowed : IsAllowed Controller (bodies.Reply row.kind row.reply)

-- no two rows have a name
abbrev pub HaveNames : List ShelfRow → Type 0
HaveNames rows = (name : List ℕ) → AtMostOne (λ (row : ShelfRow). same_text row.name name) rows

-- a row was made so, with a copy of its reply
abbrev pub IsMadeSo : {Room : Type 0} → Number → ℕ → List ℕ → Absent ShelfRow Room → Type 0
IsMadeSo number id name (absents.Answered reply) = ⊥
IsMadeSo number id name (absents.Made row reply room) = (row ≡ made_row number kinds.CreateVolume id name) × (reply ≡ ok_reply_with id)
