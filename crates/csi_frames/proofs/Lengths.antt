-- How long a body is at most.
use Rattle.std.proofs.Common.{◌≡◌, ℕ, ◌+◌, ◌*◌, ◌≤◌, true, List, [], ◌∷◌, ◌++◌, length, Option, Some, None, refl, ap, arith}
use Rattle.std.specs.List.{flat_map, AllByRecursion}
use Rattle.std.proofs.lemmas.List.{length-append}
use Rattle.std.proofs.lemmas.List.Concat.{flat_map-cons}
use Rattle.csi_types.specs.declared.capability.Access.{Access}
use Rattle.csi_types.specs.declared.capability.Access.TheVariants.{Block, Mount}
use Rattle.csi_types.specs.declared.capability.Capability.{Capability}
use Rattle.csi_types.specs.declared.call.Party.{Party}
use Rattle.csi_types.specs.declared.call.Party.TheVariants.{Controller, Node}
use Rattle.csi_types.specs.declared.call.Call.{Call}
use Rattle.csi_types.specs.declared.call.Call.TheVariants as calls
use Rattle.csi_types.specs.declared.reply.Reply.{Reply}
use Rattle.csi_types.specs.declared.frame.Body.{Body}
use Rattle.csi_types.specs.declared.frame.Body.TheVariants as bodies
use Rattle.csi_types.specs.Model.Mode.{mode_number}
use Rattle.csi_types.specs.Model.Call.{kind_of}
use Rattle.csi_types.specs.Public.Call.{is_party_of}
use Rattle.csi_types.specs.Model.Frame.{Frame}
use Rattle.csi_types.specs.Public.Frame.{IsAllowed}
use Rattle.csi_types.specs.Public.Limits.{IsAccess, IsCapability, IsParty, IsCall, IsReply, IsBody, IsFrame}
use Rattle.csi_frames.specs.Public.Spelling as spelling

-- this and the next ones: how many bytes each part of a body has at most
length-access : (a : Access) → IsAccess a → length (spelling.access a) ≤ 130
length-access Block fits = omega arith
length-access (Mount fs_type) fits = omega (arith, fits.no_longer)

-- a capability has at most 131 bytes
length-capability : (c : Capability) → IsCapability c → length (spelling.capability c) ≤ 131
length-capability c fits = omega (arith, length-append (spelling.access c.access) (mode_number c.mode ∷ []), length-access c.access fits)

-- capabilities have at most 131 bytes each
length-capabilities : (cs : List Capability) → AllByRecursion IsCapability cs → length (flat_map spelling.capability cs) ≤ 131 * length cs
length-capabilities [] fits = omega arith
length-capabilities (c ∷ cs) fits =
    omega (arith, ap length (flat_map-cons spelling.capability c cs), length-append (spelling.capability c) (flat_map spelling.capability cs), length-capability c fits.0, length-capabilities cs fits.1)

-- a reply's id has eight bytes, and so has that of a reply without one
pub length-reply_id : (id : Option ℕ) → length (spelling.reply_id id) ≡ 8
length-reply_id None = refl
length-reply_id (Some n) = refl

-- a party has at most 257 bytes
length-party : (p : Party) → IsParty p → length (spelling.party p) ≤ 257
length-party Controller fits = omega arith
length-party (Node id) fits = omega (arith, fits.no_longer)

-- the longest are a CreateVolume's
length-call : (call : Call) → IsCall call → length (spelling.call_fields call) ≤ 1194
length-call (calls.CreateVolume name required limit cs) fits =
    let last : List ℕ = length cs ∷ flat_map spelling.capability cs in
    omega (arith, length-append (spelling.text name ++ spelling.word required ++ spelling.word limit) last, length-append (spelling.text name ++ spelling.word required) (spelling.word limit), length-append (spelling.text name) (spelling.word required), fits.0.no_longer, fits.3.0, length-capabilities cs fits.3.1)
length-call (calls.DeleteVolume id) fits = omega arith
length-call (calls.ControllerPublishVolume id node c readonly) fits =
    omega (arith, length-append (spelling.word id ++ spelling.text node ++ spelling.capability c) (spelling.flag readonly), length-append (spelling.word id ++ spelling.text node) (spelling.capability c), fits.1.no_longer, length-capability c fits.2)
length-call (calls.ControllerUnpublishVolume id node) fits = omega (arith, fits.1.no_longer)
length-call (calls.NodeStageVolume id c) fits = omega (arith, length-append (spelling.word id) (spelling.capability c), length-capability c fits.1)
length-call (calls.NodeUnstageVolume id) fits = omega arith
length-call (calls.NodePublishVolume id target c readonly) fits =
    omega (arith, length-append (spelling.word id ++ spelling.text target ++ spelling.capability c) (spelling.flag readonly), length-append (spelling.word id ++ spelling.text target) (spelling.capability c), fits.1.no_longer, length-capability c fits.2)
length-call (calls.NodeUnpublishVolume id target) fits = omega (arith, fits.1.no_longer)

-- a reply's fields have at most 265 bytes
length-reply : (reply : Reply) → IsReply reply → length (spelling.reply_fields reply) ≤ 265
length-reply reply fits = omega (arith, length-append (spelling.reply_id reply.id) (spelling.text reply.detail), length-reply_id reply.id, fits.detail_fits.no_longer)

-- a body's fields have at most 1194 bytes
length-body : (body : Body) → IsBody body → length (spelling.body_fields body) ≤ 1194
length-body (bodies.Call call) fits = length-call call fits
length-body (bodies.Reply kind reply) fits = omega (arith, length-reply reply fits)

-- a node's calls are short
length-node_call : (id : List ℕ) (call : Call) → is_party_of (kind_of call) (Node id) ≡ true → IsCall call → length (spelling.call_fields call) ≤ 396
length-node_call node (calls.CreateVolume name required limit cs) e fits = absurd cc
length-node_call node (calls.DeleteVolume id) e fits = absurd cc
length-node_call node (calls.ControllerPublishVolume id at c readonly) e fits = absurd cc
length-node_call node (calls.ControllerUnpublishVolume id at) e fits = absurd cc
length-node_call node (calls.NodeStageVolume id c) e fits = omega (arith, length-append (spelling.word id) (spelling.capability c), length-capability c fits.1)
length-node_call node (calls.NodeUnstageVolume id) e fits = omega arith
length-node_call node (calls.NodePublishVolume id target c readonly) e fits =
    omega (arith, length-append (spelling.word id ++ spelling.text target ++ spelling.capability c) (spelling.flag readonly), length-append (spelling.word id ++ spelling.text target) (spelling.capability c), fits.1.no_longer, length-capability c fits.2)
length-node_call node (calls.NodeUnpublishVolume id target) e fits = omega (arith, fits.1.no_longer)

-- the party and the kind's fields together have at most 1195 bytes
length-party_and_fields : (p : Party) (body : Body) → IsParty p → IsBody body → IsAllowed p body → length (spelling.party p) + length (spelling.body_fields body) ≤ 1195
length-party_and_fields Controller body p-fits fits allowed = omega (arith, length-body body fits)
length-party_and_fields (Node id) (bodies.Call call) p-fits fits allowed = omega (arith, p-fits.no_longer, length-node_call id call allowed fits)
length-party_and_fields (Node id) (bodies.Reply kind reply) p-fits fits allowed = omega (arith, p-fits.no_longer, length-reply reply fits)

-- the longest body has 1213 bytes
pub length-frame_body : (frame : Frame) → IsFrame frame → length (spelling.frame_body frame) ≤ 1213
unfolding spelling.frame_body
length-frame_body frame fits =
    omega (arith, length-append (spelling.party frame.party) (spelling.body_fields frame.body), length-party_and_fields frame.party frame.body fits.party_fits fits.body_fits fits.allowed)

-- and the longest frame 1217
pub short-spelling : (frame : Frame) → IsFrame frame → length (spelling.spelling frame) ≤ 1217
unfolding spelling.spelling
short-spelling frame fits = omega (arith, length-frame_body frame fits)
