use Rattle.std.proofs.Common.{rules}
use Rattle.csi_frames.specs.Public.Reading.{byte_at, party_at}
use Rattle.csi_frames.proofs.body.party_at.Goals as goal

pub returns-then-byte-eq0 : goal.returns-then-byte-eq0
unfolding byte_at party_at
returns-then-byte-eq0 c = search rules

pub returns-in_err-id : goal.returns-in_err-id
unfolding byte_at party_at
returns-in_err-id c = search rules

pub returns : goal.returns
unfolding byte_at party_at
returns c = search rules
