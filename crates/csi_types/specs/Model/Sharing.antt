-- What the access modes allow: CSI's spec.md, "CreateVolume" (`AccessMode`), and "NodePublishVolume" on
-- several targets. Of the definitions, a change of the modes touches these and `Mode`.
use Rattle.std.specs.Prelude.{Bool, true, false, not, ◌&&◌, ◌||◌}
use Rattle.csi_types.specs.declared.mode.Mode.{Mode}
use Rattle.csi_types.specs.declared.mode.Mode.TheVariants.{SingleNodeWriter, SingleNodeReaderOnly, MultiNodeReaderOnly, MultiNodeSingleWriter, MultiNodeMultiWriter, SingleNodeSingleWriter, SingleNodeMultiWriter}

-- a volume in this mode is at one node at a time
abbrev pub is_single_node : Mode → Bool
is_single_node SingleNodeWriter = true
is_single_node SingleNodeReaderOnly = true
is_single_node MultiNodeReaderOnly = false
is_single_node MultiNodeSingleWriter = false
is_single_node MultiNodeMultiWriter = false
is_single_node SingleNodeSingleWriter = true
is_single_node SingleNodeMultiWriter = true

-- a volume in this mode may be at several nodes
abbrev pub is_multi_node : Mode → Bool
is_multi_node mode = not (is_single_node mode)

-- at several nodes, one of which may write
abbrev pub is_single_writer : Mode → Bool
is_single_writer SingleNodeWriter = false
is_single_writer SingleNodeReaderOnly = false
is_single_writer MultiNodeReaderOnly = false
is_single_writer MultiNodeSingleWriter = true
is_single_writer MultiNodeMultiWriter = false
is_single_writer SingleNodeSingleWriter = false
is_single_writer SingleNodeMultiWriter = false

-- the mode lets its holder write
abbrev pub is_writer : Mode → Bool
is_writer SingleNodeWriter = true
is_writer SingleNodeReaderOnly = false
is_writer MultiNodeReaderOnly = false
is_writer MultiNodeSingleWriter = true
is_writer MultiNodeMultiWriter = true
is_writer SingleNodeSingleWriter = true
is_writer SingleNodeMultiWriter = true

-- a holder in this mode, published readonly or not, may write
abbrev pub writes : Mode → Bool → Bool
writes mode readonly = not readonly && is_writer mode

-- two holders write, and one of their modes has a single writer
abbrev pub are_two_writers : Mode → Bool → Mode → Bool → Bool
are_two_writers mode readonly other other_readonly =
    writes mode readonly && writes other other_readonly && (is_single_writer mode || is_single_writer other)

-- a volume in this mode is published at one target of a node at a time
abbrev pub allows_one_target : Mode → Bool
allows_one_target SingleNodeWriter = true
allows_one_target SingleNodeReaderOnly = true
allows_one_target MultiNodeReaderOnly = false
allows_one_target MultiNodeSingleWriter = false
allows_one_target MultiNodeMultiWriter = false
allows_one_target SingleNodeSingleWriter = true
allows_one_target SingleNodeMultiWriter = false
