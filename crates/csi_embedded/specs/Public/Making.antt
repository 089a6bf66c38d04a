-- Plugins that are made: new ones, and those of a record's bytes; and what the store has to be given of them. This profile's own.
use Rattle.std.specs.Prelude.{◌≡◌, ◌≢◌, ◌⊎◌, ◌<◌, ◌≤◌, ℕ, List, [], ◌∷◌, Option, Some, None, Ok}
use Rattle.std.specs.Str.{IsUtf8}
use Rattle.csi_types.specs.Model.Config.{Config}
use Rattle.csi_types.specs.Public.Text.{IsNodeId}
use Rattle.csi_json.specs.Public.Configs.{text_config}
use Rattle.csi_controller.specs.Model.Core.{Shows}
use Rattle.csi_controller.specs.Model.State.{empty_controller}
use Rattle.csi_controller.specs.Public.Views.{RecordParts}
use Rattle.csi_node.specs.Model.Record.{NodeParts}
use Rattle.csi_stores.specs.Public.Part.{StoredPart, StoredChange, put_all}
use Rattle.csi_records.specs.declared.version.RecordVersion.{RecordVersion}
use Rattle.csi_records.specs.Public.Spelling.{present, controller_head, node_head}
use Rattle.csi_records.specs.Public.Records.{controller_layout, node_layout, IsRecordOf, IsControllerOf, IsNodeOf}
use Rattle.csi_records.specs.Public.Places.{AreBytesOf, IsBadAt}
use Rattle.csi_service.specs.Public.Services.{ControllerService, controller_service_parts, NodeService, node_service_parts}
use Rattle.csi_embedded.specs.declared.ending.CallEnding.{CallEnding}
use Rattle.csi_embedded.specs.declared.ending.CallEnding.TheVariants.{Done, NoMemory, Full, BadName, BadRecord, Renewed, EarlierSession}
use Rattle.csi_embedded.specs.declared.embedded.Embedded.{Embedded}
use Rattle.csi_embedded.specs.declared.plugin.HeldPlugin.TheVariants.{Controller, Node}
use Rattle.csi_embedded.specs.Public.Calls.{told_changes}
use Rattle.csi_embedded.specs.Public.Endings.{ending_number}

-- ---- what it is asked for by

-- why these bytes say no configuration
abbrev pub IsNoConfig : List ℕ → CallEnding → Type 0
IsNoConfig bytes NoMemory = Unit {0}
IsNoConfig bytes BadName = IsUtf8 bytes → (config : Config) → text_config bytes ≡ Ok config → ⊥
IsNoConfig bytes _ = ⊥

-- why no node has them as its id
abbrev pub IsNoId : List ℕ → CallEnding → Type 0
IsNoId bytes NoMemory = Unit {0}
IsNoId bytes BadName = IsUtf8 bytes → IsNodeId bytes → ⊥
IsNoId bytes _ = ⊥

-- ---- new ones

-- the controller under the configuration that the text says, with no volume; the store has to be given its record
pub record IsNewController (text : List ℕ) (made : Embedded) : Type 0 where
  pub service : ControllerService
  pub is : made.plugin ≡ Controller service
  pub config : text_config text ≡ Ok service.plugin.config
  pub shows : Shows service.plugin empty_controller
  pub parts : controller_service_parts service ≡ controller_head present 1 (Some 0) ∷ []
  pub told : told_changes made ≡ put_all (controller_service_parts service)

-- the node of this id that joins with this session, with no volume
pub record IsNewNode (id : List ℕ) (session : ℕ) (made : Embedded) : Type 0 where
  pub service : NodeService
  pub is : made.plugin ≡ Node service
  pub own : service.plugin.id ≡ id
  pub parts : node_service_parts service ≡ node_head present id (Some session) ∷ []
  pub told : told_changes made ≡ put_all (node_service_parts service)

-- ---- those of a record

-- nothing where the record was in the present version, else all its parts, after all else was taken out
abbrev pub Renews : RecordVersion → List StoredPart → List StoredChange → CallEnding → Type 0
Renews version parts changes ending =
    ((version ≡ present) × (changes ≡ []) × (ending ≡ Done)) ⊎ ((version ≢ present) × (changes ≡ put_all parts) × (ending ≡ Renewed))

-- the controller under the configuration that the text says, of the record whose bytes these are in some version
pub record IsReadController (text bytes : List ℕ) (made : Embedded) (ending : CallEnding) : Type 0 where
  pub service : ControllerService
  pub is : made.plugin ≡ Controller service
  pub version : RecordVersion
  pub config : Config
  pub said : text_config text ≡ Ok config
  pub kept : RecordParts
  pub read : AreBytesOf (λ v. IsRecordOf (controller_layout v)) IsControllerOf version bytes kept
  pub has : service.plugin ≡ record { config = config; next_id = kept.next_id; session = kept.session; rows = kept.rows }
  pub renews : Renews version (controller_service_parts service) (told_changes made) ending

-- the node of this id, of the record whose bytes these are in some version, and which is of no earlier session than that of its joining
pub record IsReadNode (id : List ℕ) (session : ℕ) (bytes : List ℕ) (made : Embedded) (ending : CallEnding) : Type 0 where
  pub service : NodeService
  pub is : made.plugin ≡ Node service
  pub version : RecordVersion
  pub read : AreBytesOf (λ v. IsRecordOf (node_layout v None)) (λ v. IsNodeOf v None) version bytes service.plugin
  pub own : service.plugin.id ≡ id
  pub joined : session ≤ service.plugin.session
  pub renews : Renews version (node_service_parts service) (told_changes made) ending

-- why there is none: as there is no new one, or the bytes are no controller's record in any version
abbrev pub IsNoReadController : List ℕ → List ℕ → CallEnding → Type 0
IsNoReadController text bytes NoMemory = Unit {0}
IsNoReadController text bytes BadName = IsNoConfig text BadName
IsNoReadController text bytes BadRecord = (place : ℕ) × IsBadAt (λ v. IsRecordOf (controller_layout v)) bytes place
IsNoReadController text bytes _ = ⊥

-- these bytes are some node's record, of which this is so
abbrev pub IsNodeRecordWhere : (NodeParts → Type 0) → List ℕ → Type 0
IsNodeRecordWhere Is bytes = (version : RecordVersion) × (kept : NodeParts) × AreBytesOf (λ v. IsRecordOf (node_layout v None)) (λ v. IsNodeOf v None) version bytes kept × Is kept

-- the same of a node, whose record may be another node's too, or its own of an earlier session than that of its joining
abbrev pub IsNoReadNode : List ℕ → ℕ → List ℕ → CallEnding → Type 0
IsNoReadNode id session bytes NoMemory = Unit {0}
IsNoReadNode id session bytes BadName = IsNoId id BadName
IsNoReadNode id session bytes BadRecord = ((place : ℕ) × IsBadAt (λ v. IsRecordOf (node_layout v None)) bytes place) ⊎ IsNodeRecordWhere (λ kept. kept.id ≢ id) bytes
IsNoReadNode id session bytes EarlierSession = IsNodeRecordWhere (λ kept. (kept.id ≡ id) × kept.session < session) bytes
IsNoReadNode id session bytes _ = ⊥

-- ---- the same of handles

-- it is done
abbrev pub EndsDone : CallEnding → Type 0
EndsDone ending = ending ≡ Done

-- such a plugin was put into a handle that was empty
pub record Puts (Is : Embedded → CallEnding → Type 0) (old new : Option Embedded) (number : ℕ) : Type 0 where
  pub empty : old ≡ None
  pub made : Embedded
  pub has : new ≡ Some made
  pub ending : CallEnding
  pub is : number ≡ ending_number ending
  pub such : Is made ending

-- why none was: the handle has one already, or there is none
abbrev pub IsHandleUnmade : (CallEnding → Type 0) → Option Embedded → CallEnding → Type 0
IsHandleUnmade Why (Some old) ending = ending ≡ Full
IsHandleUnmade Why None ending = Why ending

-- nothing was put into the handle, and this is why
pub record PutsNone (Why : CallEnding → Type 0) (old new : Option Embedded) (number : ℕ) : Type 0 where
  pub same : new ≡ old
  pub ending : CallEnding
  pub is : number ≡ ending_number ending
  pub why : IsHandleUnmade Why old ending

-- a plugin was put into the handle, or none
abbrev pub Makes : (Embedded → CallEnding → Type 0) → (CallEnding → Type 0) → Option Embedded → Option Embedded → ℕ → Type 0
Makes Is Why old new number = Puts Is old new number ⊎ PutsNone Why old new number
