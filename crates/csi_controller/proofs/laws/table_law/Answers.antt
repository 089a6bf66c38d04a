-- The laws hold in every orderly state, and frames lead to no other.
use Rattle.csi_controller.specs.Model.State.{empty_controller}
use Rattle.csi_controller.specs.Public.Fenced.{after_frames}
use Rattle.csi_controller.proofs.OrderlyStates.{reached_orderly}
use Rattle.csi_controller.proofs.TableLaw.{is_lawful}
use Rattle.csi_controller.proofs.laws.table_law.Goals as goal

pub returns : goal.returns
returns c config frames number call through =
    is_lawful config (after_frames config empty_controller frames) number call (reached_orderly config frames) through
