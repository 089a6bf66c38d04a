use Rattle.std.proofs.Common.{rules}
use Rattle.csi_types.proofs.text.fs_type.FsType.as_str.Goals as goal

pub returns : goal.returns
returns c = search rules
