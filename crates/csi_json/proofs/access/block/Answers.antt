use Rattle.std.proofs.Common.{rules}
use Rattle.csi_json.specs.Public.Capabilities.{block_of}
use Rattle.csi_json.proofs.access.block.Goals as goal

pub returns-in_err-sized_object : goal.returns-in_err-sized_object
unfolding block_of
returns-in_err-sized_object c = search rules

pub returns : goal.returns
unfolding block_of
returns c = search rules
