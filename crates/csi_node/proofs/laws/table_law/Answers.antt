-- The laws hold in every state, whether or not frames lead to it.
use Rattle.csi_node.specs.Model.State.{joined_node}
use Rattle.csi_node.specs.Public.Fenced.{after_frames}
use Rattle.csi_node.proofs.TableLaw.{is_lawful}
use Rattle.csi_node.proofs.laws.table_law.Goals as goal

pub returns : goal.returns
returns c node session frames number call through = is_lawful node (after_frames node (joined_node session) frames) number call through
