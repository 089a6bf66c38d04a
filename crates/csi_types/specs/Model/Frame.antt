-- A frame by its parts, and which parts go together. This profile's own.
use Rattle.csi_types.specs.declared.number.Number.{Number}
use Rattle.csi_types.specs.declared.call.Party.{Party}
use Rattle.csi_types.specs.declared.frame.Body.{Body}

-- a frame: the number of its call, the party that the call is for, and the call or the reply
pub record Frame : Type 0 where
  pub number : Number
  pub party : Party
  pub body : Body
