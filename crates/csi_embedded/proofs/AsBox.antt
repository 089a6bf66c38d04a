-- What a handle and the parts of its box own is what a box at the same types owns.
use mir.Syntax.{impl, tnil, dnil}
use mathlib.Core.List.{[]}
use denote.Signature.{Slot, plain}
use Rattle.std_alloc.proofs.BoxSteps.Form.{Bx}
use Rattle.std_heap.specs.contracts.Global as Heap
use Rattle.std_heap.specs.contracts.GlobalAllocator.TheImpl.{ghosts, dict}
use Rattle.std_heap.proofs.Global.TheLaws as heap
use Rattle.csi_embedded.specs.contracts.embedded.Embedded as Embedded
use Rattle.csi_embedded.proofs.embedded.Embedded.TheLaws as embedded
use Rattle.csi_embedded.specs.contracts.opened.Opened as Opened
use Rattle.csi_embedded.specs.contracts.held.Held as Held

-- the types of a handle's box
abbrev pub E : Bx
E = record { row = Embedded.the_row; laws = embedded.the_row_laws; al = record { row = Heap.the_row; laws = heap.the_row_laws; g = ghosts; d = dict; drops = impl [] tnil dnil } }

-- the parts of its box
abbrev pub AnOpened : Slot 0
AnOpened = plain (λ _. Opened.the_row Embedded.the_row Heap.the_row ghosts)

-- the handle
abbrev pub AHeld : Slot 0
AHeld = plain (λ _. Held.the_row)
