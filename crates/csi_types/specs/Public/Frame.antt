-- A frame by its parts, and which parts go together. This profile's own.
use Rattle.std.specs.Prelude.{IsTrue}
use Rattle.csi_types.specs.declared.call.Party.{Party}
use Rattle.csi_types.specs.declared.frame.Body.{Body}
use Rattle.csi_types.specs.declared.frame.Body.TheVariants.{Call, Reply}
use Rattle.csi_types.specs.Model.Call.{kind_of}
use Rattle.csi_types.specs.Public.Call.{is_party_of}
use Rattle.csi_types.specs.Public.Reply.{has_id_by_rule}

-- the party is the kind's, and a reply has an id exactly where it must
abbrev pub IsAllowed : Party → Body → Type 0
IsAllowed party (Call call) = IsTrue (is_party_of (kind_of call) party)
IsAllowed party (Reply kind reply) = IsTrue (is_party_of kind party) × IsTrue (has_id_by_rule kind reply)
