-- A frame as the words of its line. This profile's own.
use Rattle.std.specs.Prelude.{ℕ, ◌/◌, ◌%◌, Bool, false, nat_lt, ◌||◌, ◌==◌, if◌then◌else◌, List, [], ◌∷◌, ◌++◌, map, codes, Option, Some, None}
use Rattle.std.specs.List.{flat_map}
use Rattle.std.specs.Fmt.{digit_glyph, decimal}
use Rattle.csi_types.specs.declared.number.Number.{Number}
use Rattle.csi_types.specs.declared.capability.Access.{Access}
use Rattle.csi_types.specs.declared.capability.Access.TheVariants.{Block, Mount}
use Rattle.csi_types.specs.declared.capability.Capability.{Capability}
use Rattle.csi_types.specs.declared.call.Party.{Party}
use Rattle.csi_types.specs.declared.call.Party.TheVariants.{Controller, Node}
use Rattle.csi_types.specs.declared.call.Call.{Call}
use Rattle.csi_types.specs.declared.call.Call.TheVariants as calls
use Rattle.csi_types.specs.declared.reply.Reply.{Reply}
use Rattle.csi_types.specs.declared.frame.Body.{Body}
use Rattle.csi_types.specs.declared.frame.Body.TheVariants as bodies
use Rattle.csi_types.specs.Model.Mode.{mode_number}
use Rattle.csi_types.specs.Public.Status.{status_code}
use Rattle.csi_types.specs.Model.Call.{kind_of}
use Rattle.csi_types.specs.Public.Names.{kind_name}
use Rattle.csi_types.specs.Model.Frame.{Frame}

-- a byte of a text: printable ASCII but `"` and `\` as it is, every other one as `\x` and two lower-case digits
abbrev pub shown_byte : ℕ → List ℕ
shown_byte byte =
    if nat_lt byte 32 || (nat_lt 126 byte || (byte == 34 || byte == 92))
    then 92 ∷ 120 ∷ digit_glyph false (byte / 16) ∷ digit_glyph false (byte % 16) ∷ []
    else byte ∷ []

-- a text, in double quotes
abbrev pub quoted : List ℕ → List ℕ
quoted text = 34 ∷ flat_map shown_byte text ++ 34 ∷ []

-- the number of a call: its session, a dot, and its number in that
abbrev pub number_word : Number → List ℕ
number_word number = decimal number.session ++ codes "." ++ decimal number.call

-- a plugin
abbrev pub party_word : Party → List ℕ
party_word Controller = codes "controller"
party_word (Node id) = codes "node:" ++ quoted id

-- an access type, with the fs type of a mount
abbrev pub access_word : Access → List ℕ
access_word Block = codes "block"
access_word (Mount fs_type) = codes "mount:" ++ quoted fs_type

-- a capability: its access type, a slash, and its mode
abbrev pub capability_word : Capability → List ℕ
capability_word c = access_word c.access ++ codes "/" ++ decimal (mode_number c.mode)

-- readonly or not
abbrev pub flag_word : Bool → List ℕ
flag_word readonly = if readonly then codes "ro" else codes "rw"

-- the id of a reply, 0 for none
abbrev pub shown_id : Option ℕ → ℕ
shown_id None = 0
shown_id (Some id) = id

-- what attaches a volume or publishes it: where, with what and how
abbrev pub use_words : ℕ → List ℕ → Capability → Bool → List (List ℕ)
use_words id place c readonly = decimal id ∷ quoted place ∷ capability_word c ∷ flag_word readonly ∷ []

-- what undoes one of those
abbrev pub undo_words : ℕ → List ℕ → List (List ℕ)
undo_words id place = decimal id ∷ quoted place ∷ []

-- each capability
abbrev pub capability_words : List Capability → List (List ℕ)
capability_words capabilities = map capability_word capabilities

-- the fields of a call, without the count of capabilities
abbrev pub call_words : Call → List (List ℕ)
call_words (calls.CreateVolume name required limit capabilities) = quoted name ∷ decimal required ∷ decimal limit ∷ capability_words capabilities
call_words (calls.DeleteVolume id) = decimal id ∷ []
call_words (calls.ControllerPublishVolume id node c readonly) = use_words id node c readonly
call_words (calls.ControllerUnpublishVolume id node) = undo_words id node
call_words (calls.NodeStageVolume id c) = decimal id ∷ capability_word c ∷ []
call_words (calls.NodeUnstageVolume id) = decimal id ∷ []
call_words (calls.NodePublishVolume id target c readonly) = use_words id target c readonly
call_words (calls.NodeUnpublishVolume id target) = undo_words id target

-- the fields of a reply
abbrev pub reply_words : Reply → List (List ℕ)
reply_words reply = codes "reply" ∷ decimal (status_code reply.status) ∷ decimal (shown_id reply.id) ∷ quoted reply.detail ∷ []

-- the call's name, and the fields
abbrev pub body_words : Body → List (List ℕ)
body_words (bodies.Call call) = kind_name (kind_of call) ∷ call_words call
body_words (bodies.Reply kind reply) = kind_name kind ∷ reply_words reply

-- all words of a frame
abbrev pub frame_words : Frame → List (List ℕ)
frame_words frame = number_word frame.number ∷ party_word frame.party ∷ body_words frame.body
