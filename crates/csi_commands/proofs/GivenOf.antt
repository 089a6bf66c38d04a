-- What a command gives of the world to which a schedule leads.
use Rattle.std.proofs.Common.{ℕ, List, Result, Ok, Err, IfOk}
use Rattle.csi_json.specs.Public.Schedule.{Schedule}
use Rattle.csi_world.specs.Model.Simulated.{WorldParts}
use Rattle.csi_streams.specs.declared.command.ScheduleCommand.{ScheduleCommand}
use Rattle.csi_commands.specs.Public.Playing.{IsPlayed}
use Rattle.csi_commands.specs.Public.Running.{Drawing, IsGivenOf, IsGiven}

-- what is given of a world that a schedule leads to is given of the schedule
pub given_is : {T E : Type 0} → (bytes : T → List ℕ) (draws : Drawing) (command : ScheduleCommand) (schedule : Schedule) (world : WorldParts) (result : Result T E) → IsPlayed schedule world → IfOk result (λ given. IsGivenOf draws command schedule world (bytes given)) → IfOk result (λ given. IsGiven draws command schedule (bytes given))
given_is bytes draws command schedule world (Ok given) shows of = record { world = world; shows = shows; given = of }
given_is bytes draws command schedule world (Err fault) shows of = tt
