-- What an orchestrator answers to each input, and what it shows then, read from its rows alone: a step of one row
-- (`RowSteps.antt`), a new row, or a restart. This profile's own. The law `RowsTell` of `Sound.antt` says that this is what
-- the definitions over histories say.
use Rattle.std.specs.Prelude.{◌≡◌, Result, Ok, Err}
use Rattle.csi_orchestrator.specs.declared.fault.OrchFault.{OrchFault}
use Rattle.csi_orchestrator.specs.declared.fault.OrchFault.TheVariants as faults
use Rattle.csi_orchestrator.specs.Model.Moves.{Answer}
use Rattle.csi_orchestrator.specs.Model.Shown.{OrchestratorParts}

-- the answer, and what is shown then
pub record MovedRows : Type 0 where
  pub answer : Answer
  pub parts : OrchestratorParts

-- this is answered, and this shown then
abbrev pub moved_rows : OrchestratorParts → Answer → Result MovedRows OrchFault
moved_rows parts answer = Ok (record { answer = answer; parts = parts })

-- the code refuses with the fault that is told; where nothing else refuses, it may still refuse as out of memory
abbrev pub IsRefusal : {X : Type 0} → Result X OrchFault → OrchFault → Type 0
IsRefusal (Ok moved_rows) fault = fault ≡ faults.NoMemory
IsRefusal (Err other) fault = fault ≡ other
