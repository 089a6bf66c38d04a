-- What a handle owns: nothing where it is empty, and else what a box of an embedded plugin owns. This profile's own.
use base.Fml.{Fml, ftrue}
use base.Stored.{Coded}
use denote.RawPtr.{Ptr}
use Rattle.std.specs.Prelude.{Option, None, Some}
use Rattle.std.specs.Coded.{coded_option}
use Rattle.std.specs.Box.Ownership.{box_owns}
use Rattle.std.specs.Global.{Global}
use Rattle.std_heap.specs.contracts.GlobalAllocator.TheImpl.{ghosts}
use Rattle.csi_embedded.specs.contracts.embedded.Embedded.{the_row}

-- what it owns at this place
abbrev pub held_owns : Global → Ptr → Option the_row.Denot → Fml
held_owns alloc at None = ftrue
held_owns alloc at (Some embedded) = box_owns (ghosts.dealloc_token alloc) the_row at embedded

-- a handle that may be empty, as a value
abbrev pub held_coded : Coded (Option the_row.Denot)
held_coded = coded_option the_row.coded
