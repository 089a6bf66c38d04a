-- What serving lines does to a record and to the output, at each end. This profile's own.
use Rattle.std.specs.Prelude.{◌≡◌, ◌≢◌, ◌⊎◌, ℕ, ◌≤◌, List, [], ◌++◌, length, take, slice_get, Option, Some, Result, Ok, Err}
use Rattle.std.specs.List.{flat_map, AllByRecursion}
use Rattle.std.specs.Io.KnownBytes.{Appends}
use Rattle.csi_streams.specs.Public.LinesOf.{LinesOf, with_newline, and_last, IsShort}
use Rattle.csi_streams.specs.Public.Lines.{IsLongAt}
pub use Rattle.csi_streams.specs.Public.Answering.{AnswersEach}
use Rattle.csi_orchestration.specs.declared.lines_serving.fault.ServedLines.{ServedLines}
use Rattle.csi_orchestration.specs.declared.lines_serving.fault.LinesServeFault.{LinesServeFault}
use Rattle.csi_orchestration.specs.declared.lines_serving.fault.LinesServeFaultKind.{LinesServeFaultKind}
use Rattle.csi_orchestration.specs.declared.lines_serving.fault.LinesServeFaultKind.TheVariants as kinds
use Rattle.csi_stores.specs.declared.keep.KeepFault.{KeepFault}
use Rattle.csi_stores.specs.Public.Part.{StoredPart}
use Rattle.csi_stores.specs.Public.Stores.{Store, LeavesOnly, LeavesEither, IsContentRefusal}

-- answers, as they are written one after another, a newline behind each
abbrev pub output_of : List (List ℕ) → List ℕ
output_of given = flat_map with_newline given

-- What serving is judged by: the responder at first, how it answers, which parts it has, and which lines tell it that its store is an older one; the
-- store, and what the writer has, before and after; and whether the reader has ended or failed, the writer failed, and the input was endless.
pub record Setting (C : Type 0) : Type 1 where
  pub answers : C → List ℕ → List ℕ → C → Type 0
  pub parts_of : C → List StoredPart
  pub is_older : C → List ℕ → Type 0
  pub responder : C
  pub before : Store
  pub after : Store
  pub written_before : Option (List ℕ)
  pub written_after : Option (List ℕ)
  pub at_end : Type 0
  pub reader_failed : Type 0
  pub writer_failed : Type 0
  pub endless : Type 0

-- the store has the responder's parts, and all answers are written
pub record AllDone {C : Type 0} (setting : Setting C) (given : List (List ℕ)) (now : C) : Type 0 where
  pub kept : LeavesOnly setting.before setting.after (setting.parts_of setting.responder) (setting.parts_of now)
  pub written : Appends setting.written_before setting.written_after (output_of given)

-- the store has the responder's parts; of the last lines, which were committed together, a front of the answers, each with its newline, is written, and all answers before
pub record GroupUnwritten {C : Type 0} (setting : Setting C) (given : List (List ℕ)) (now : C) : Type 0 where
  pub kept : LeavesOnly setting.before setting.after (setting.parts_of setting.responder) (setting.parts_of now)
  pub earlier : List (List ℕ)
  pub group : List (List ℕ)
  pub some : group ≢ []
  pub are : given ≡ earlier ++ group
  pub front : List ℕ
  pub more : List ℕ
  pub parts : output_of group ≡ front ++ more
  pub written : Appends setting.written_before setting.written_after (output_of earlier ++ front)

-- the next lines were answered, and all that they changed was refused: opening the store again finds the parts before them or after them, and nothing between
pub record GroupRefused {C : Type 0} (setting : Setting C) (group : List (List ℕ)) (given : List (List ℕ)) (now : C) (fault : KeepFault) : Type 0 where
  pub told : List (List ℕ)
  pub next : C
  pub answered : AnswersEach setting.answers now group told next
  pub left : LeavesEither setting.before setting.after (setting.parts_of setting.responder) (setting.parts_of now) (setting.parts_of next)
  pub cause : IsContentRefusal setting.before setting.after (setting.parts_of setting.responder) (setting.parts_of next) fault
  pub written : Appends setting.written_before setting.written_after (output_of given)

-- behind the first k lines stand these, one at least, and none of them is too long
pub record IsGroup (there : List (List ℕ)) (k : ℕ) (group : List (List ℕ)) : Type 0 where
  pub some : group ≢ []
  pub short : AllByRecursion IsShort group
  pub behind : List (List ℕ)
  pub here : there ≡ take k there ++ group ++ behind

-- behind the first k lines stands one that tells that the store is an older one
pub record TellsOlder {C : Type 0} (setting : Setting C) (there : List (List ℕ)) (k : ℕ) (now : C) : Type 0 where
  pub line : List ℕ
  pub here : slice_get there k ≡ Some line
  pub older : setting.is_older now line

-- the lines that there are: those that a newline ends; or, where the input has ended, also the rest, if it isn't empty
abbrev pub AreThere : Type 0 → List (List ℕ) → List ℕ → List (List ℕ) → Type 0
AreThere at_end lines rest there = (there ≡ lines) ⊎ (at_end × (there ≡ and_last lines rest))

-- Why serving ended, after k of the lines that there are were committed. These are those that were answered behind them: there are none, but where
-- their commit, which was one, was refused.
abbrev pub StopsBy : {C : Type 0} → Setting C → List (List ℕ) → List ℕ → List (List ℕ) → ℕ → List (List ℕ) → C → List (List ℕ) → LinesServeFaultKind → Type 0
StopsBy setting lines rest there k given now group kinds.Input = (group ≡ []) × (k ≡ length lines) × setting.reader_failed × IsShort rest × AllDone setting given now
StopsBy setting lines rest there k given now group kinds.Output = (group ≡ []) × setting.writer_failed × GroupUnwritten setting given now
StopsBy setting lines rest there k given now group (kinds.Long number) = (group ≡ []) × IsLongAt lines rest k number × AllDone setting given now
StopsBy setting lines rest there k given now group (kinds.Keep fault) = IsGroup there k group × GroupRefused setting group given now fault
StopsBy setting lines rest there k given now group kinds.NoMemory = (group ≡ []) × AllDone setting given now
StopsBy setting lines rest there k given now group kinds.OlderStore = (group ≡ []) × TellsOlder setting there k now × AllDone setting given now
StopsBy setting lines rest there k given now group kinds.Endless = (group ≡ []) × (k ≡ length lines) × setting.endless × IsShort rest × AllDone setting given now

-- how many lines were committed
abbrev pub lines_counted : Result ServedLines LinesServeFault → ℕ
lines_counted (Ok served) = served.lines
lines_counted (Err fault) = fault.lines

-- all was served, the rest too, if it isn't empty, and nothing is unread; or serving stopped
abbrev pub EndsBy : {C : Type 0} → Setting C → List (List ℕ) → List ℕ → List (List ℕ) → List (List ℕ) → C → List (List ℕ) → Result ServedLines LinesServeFault → Type 0
EndsBy setting lines rest there given now group (Ok served) = (group ≡ []) × (served.lines ≡ length there) × (there ≡ and_last lines rest) × setting.at_end × AllDone setting given now
EndsBy setting lines rest there given now group (Err fault) = StopsBy setting lines rest there fault.lines given now group fault.kind

-- These bytes are lines and a rest; the first of the lines that there are, as many as are counted, none of them too long, were answered
-- one after another, and so it ended, with these answered and refused behind them.
pub record ServesLines {C : Type 0} (setting : Setting C) (bytes : List ℕ) (result : Result ServedLines LinesServeFault) : Type 0 where
  pub lines : List (List ℕ)
  pub rest : List ℕ
  pub stream : LinesOf bytes lines rest
  pub there : List (List ℕ)
  pub are_there : AreThere setting.at_end lines rest there
  pub within : lines_counted result ≤ length there
  pub short : AllByRecursion IsShort (take (lines_counted result) there)
  pub given : List (List ℕ)
  pub now : C
  pub runs : AnswersEach setting.answers setting.responder (take (lines_counted result) there) given now
  pub group : List (List ℕ)
  pub ends : EndsBy setting lines rest there given now group result

-- All that was read is answered: its lines one after another, the store has the responder's parts then, and all answers are written.
pub record IsAllAnswered {C : Type 0} (answers : C → List ℕ → List ℕ → C → Type 0) (parts_of : C → List StoredPart) (responder : C) (before after : Store) (written_before written_after : Option (List ℕ)) (read : List ℕ) : Type 0 where
  pub lines : List (List ℕ)
  pub rest : List ℕ
  pub stream : LinesOf read lines rest
  pub given : List (List ℕ)
  pub now : C
  pub runs : AnswersEach answers responder lines given now
  pub kept : LeavesOnly before after (parts_of responder) (parts_of now)
  pub written : Appends written_before written_after (output_of given)
