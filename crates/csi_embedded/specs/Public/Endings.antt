-- The number of each ending, as a C program sees it. This profile's own.
use Rattle.std.specs.Prelude.{ℕ}
use Rattle.csi_embedded.specs.declared.ending.CallEnding.{CallEnding}
use Rattle.csi_embedded.specs.declared.ending.CallEnding.TheVariants.{Done, NoMemory, Empty, Full, BadName, BadRecord, Short, BadFrame, NoRoom, Renewed, TakenOut, NoMore, Refused, OtherKind, Met, Ignored, EarlierSession, NodeInUse, OlderStore, SameNode, NotLater, Disagrees, BadRow}

-- an ending's number
abbrev pub ending_number : CallEnding → ℕ
ending_number Done = 0
ending_number NoMemory = 1
ending_number Empty = 2
ending_number Full = 3
ending_number BadName = 4
ending_number BadRecord = 5
ending_number Short = 6
ending_number BadFrame = 7
ending_number NoRoom = 8
ending_number Renewed = 9
ending_number TakenOut = 10
ending_number NoMore = 11
ending_number Refused = 12
ending_number OtherKind = 13
ending_number Met = 14
ending_number Ignored = 15
ending_number EarlierSession = 16
ending_number NodeInUse = 17
ending_number OlderStore = 18
ending_number SameNode = 19
ending_number NotLater = 20
ending_number Disagrees = 21
ending_number BadRow = 22
