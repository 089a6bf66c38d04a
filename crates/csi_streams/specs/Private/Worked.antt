-- Worked examples of the lines of a stream, which the checker computes.
use Rattle.std.specs.Prelude.{◌≡◌, true, List, [], ◌∷◌, ◌++◌, codes, Some, None}
use Rattle.std.specs.List.{flat_map}
use Rattle.csi_types.specs.declared.mode.Mode.TheVariants.{SingleNodeWriter, MultiNodeSingleWriter, SingleNodeSingleWriter}
use Rattle.csi_types.specs.declared.capability.Access.TheVariants.{Block, Mount}
use Rattle.csi_types.specs.declared.call.Kind.TheVariants as kinds
use Rattle.csi_types.specs.declared.call.Call.TheVariants.{CreateVolume, DeleteVolume, NodePublishVolume}
use Rattle.csi_types.specs.declared.call.Party.TheVariants.{Controller, Node}
use Rattle.csi_types.specs.declared.status.Status.TheVariants.{Ok, Unauthenticated}
use Rattle.csi_types.specs.Model.Frame.{Frame}
use Rattle.csi_types.specs.Model.Replies.{call_frame, reply_frame}
use Rattle.csi_frames.specs.Public.Spelling.{spelling}
use Rattle.csi_streams.specs.Public.FrameLines.{lines}

-- deletes volume 1, and the success of that
abbrev pub deleting : List Frame
deleting =
    call_frame (record { session = 1; call = 2 }) Controller (DeleteVolume 1)
    ∷ reply_frame (record { session = 1; call = 2 }) Controller kinds.DeleteVolume (record { status = Ok; id = None; detail = [] })
    ∷ []

-- they have 31 and 33 bytes, and the place of the second is behind the first
pub record DeletingRow : Type 0 where
  pub bytes : flat_map spelling deleting
      ≡ 0 ∷ 0 ∷ 0 ∷ 27 ∷ 1 ∷ 2 ∷ 0 ∷ 0 ∷ 0 ∷ 0 ∷ 0 ∷ 0 ∷ 0 ∷ 1 ∷ 0 ∷ 0 ∷ 0 ∷ 0 ∷ 0 ∷ 0 ∷ 0 ∷ 2 ∷ 0 ∷ 0 ∷ 0 ∷ 0 ∷ 0 ∷ 0 ∷ 0 ∷ 0 ∷ 1
      ∷ 0 ∷ 0 ∷ 0 ∷ 29 ∷ 1 ∷ 130 ∷ 0 ∷ 0 ∷ 0 ∷ 0 ∷ 0 ∷ 0 ∷ 0 ∷ 1 ∷ 0 ∷ 0 ∷ 0 ∷ 0 ∷ 0 ∷ 0 ∷ 0 ∷ 2 ∷ 0 ∷ 0 ∷ 0 ∷ 0 ∷ 0 ∷ 0 ∷ 0 ∷ 0 ∷ 0 ∷ 0 ∷ 0 ∷ []
  pub shown : lines deleting ≡ codes "0 1.2 controller DeleteVolume 1\n31 1.2 controller DeleteVolume reply 0 0 \"\"\n"

-- creates v, of at least 10 bytes, on block devices: with no capability, and with one of mode 1 and one of mode 6
abbrev pub creating : List Frame
creating =
    call_frame (record { session = 1; call = 1 }) Controller (CreateVolume (codes "v") 10 0 [])
    ∷ call_frame (record { session = 1; call = 1 }) Controller (CreateVolume (codes "v") 10 0 (record { access = Block; mode = SingleNodeWriter } ∷ record { access = Block; mode = SingleNodeSingleWriter } ∷ []))
    ∷ []

-- no blank stands at the end of a line
pub record CreatingRow : Type 0 where
  pub shown : lines creating ≡ codes "0 1.1 controller CreateVolume \"v\" 10 0\n42 1.1 controller CreateVolume \"v\" 10 0 block/1 block/6\n"

-- publishes at `/`, a quotation mark, a backslash, the two bytes of `é`, DEL, a newline and `~`; a success with an id; and a refusal
abbrev pub publishing : List Frame
publishing =
    call_frame (record { session = 4294967297; call = 18446744073709551615 }) (Node (codes "n 1")) (NodePublishVolume 4294967296 (47 ∷ 34 ∷ 92 ∷ 195 ∷ 169 ∷ 127 ∷ 10 ∷ 126 ∷ []) (record { access = Mount (codes "ext4"); mode = MultiNodeSingleWriter }) true)
    ∷ reply_frame (record { session = 2; call = 3 }) Controller kinds.CreateVolume (record { status = Ok; id = Some 4294967296; detail = [] })
    ∷ reply_frame (record { session = 2; call = 4 }) (Node (codes "n1")) kinds.NodeUnstageVolume (record { status = Unauthenticated; id = None; detail = codes "/a" })
    ∷ []

-- a text shows what its bytes are
pub record PublishingRow : Type 0 where
  pub shown : lines publishing
      ≡ codes "0 4294967297.18446744073709551615 node:\"n 1\" NodePublishVolume 4294967296 \"/\\x22\\x5c\\xc3\\xa9\\x7f\\x0a~\" mount:\"ext4\"/4 ro\n"
      ++ codes "52 2.3 controller CreateVolume reply 0 4294967296 \"\"\n85 2.4 node:\"n1\" NodeUnstageVolume reply 16 0 \"/a\"\n"
