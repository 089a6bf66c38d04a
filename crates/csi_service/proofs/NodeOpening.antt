-- What is made of the parts of a node's store, where its record is of no earlier session.
use Rattle.std.proofs.Common.{ℕ, List}
use Rattle.csi_stores.specs.Public.Part.{StoredPart, StoredChange}
use Rattle.csi_service.specs.declared.node_opening.NodeMade.TheVariants.{Opened}
use Rattle.csi_service.specs.Public.NodeOpening.{joined_head}
use Rattle.csi_service.specs.Public.Opening.{node_records}
use Rattle.csi_service.specs.Public.Services.{NodeService, node_service_parts}
use Rattle.csi_service.specs.Private.NodeOpening.{node_opening}
use Rattle.csi_service.specs.Private.Opening.{IsMade}
use Rattle.csi_service.proofs.MadeCores.{IsCoreMade, made-so}

-- a node with its record is what opening is to make
pub node-opened : (id : List ℕ) (session : ℕ) (found : List StoredPart) (service : NodeService) (changes : List StoredChange)
    → IsCoreMade (node_records id) (joined_head id session) found (node_service_parts service) changes → IsMade (node_opening id session) found (Opened service) changes
node-opened id session found service changes made =
    let so = made-so (node_records id) (joined_head id session) node_service_parts found service changes made in
    record { makes = so.makes; is = so.is; leads = so.leads; becomes = so.becomes }
