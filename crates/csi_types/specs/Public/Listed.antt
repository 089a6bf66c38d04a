-- The list of capabilities that stand in bytes.
use Rattle.std.specs.Prelude.{List}
use Rattle.csi_types.specs.declared.capability.Capability.{Capability}
use Rattle.csi_types.specs.declared.spelled.SpelledCapabilities.{SpelledCapabilities}
use Rattle.csi_types.specs.Public.Spelled.{split_capabilities, list_in}

-- those that are read from the bytes
abbrev pub listed : SpelledCapabilities → List Capability
listed list = list_in (split_capabilities list.count list.bytes.now)
