-- Which call does or undoes which thing: CSI's spec.md, "Volume Lifecycle".
use Rattle.std.specs.Prelude.{ℕ, List, Bool, true, false, ◌&&◌, Option, Some, None}
use Rattle.csi_types.specs.declared.number.Number.{Number}
use Rattle.csi_types.specs.declared.call.Call.{Call}
use Rattle.csi_types.specs.declared.call.Call.TheVariants as calls
use Rattle.csi_types.specs.declared.call.Party.{Party}
use Rattle.csi_types.specs.declared.call.Party.TheVariants.{Controller, Node}
use Rattle.csi_types.specs.Model.Same.{same_text}
use Rattle.csi_orchestrator.specs.declared.thing.Thing.{Thing}
use Rattle.csi_orchestrator.specs.declared.thing.Thing.TheVariants.{Exists, Attached, Staged, Published}
use Rattle.csi_orchestrator.specs.declared.thing.Known.{Known}
use Rattle.csi_orchestrator.specs.declared.thing.Known.TheVariants.{Yes, No, Maybe}

-- a call that was sent, for the volume of a name
pub record Issued : Type 0 where
  pub name : List ℕ
  pub number : Number
  pub party : Party
  pub call : Call

-- the name of a thing's volume
abbrev pub name_in : Thing → List ℕ
name_in (Exists name) = name
name_in (Attached name node) = name
name_in (Staged name node) = name
name_in (Published name node target) = name

-- the two are one thing
abbrev pub same_thing : Thing → Thing → Bool
same_thing (Exists name) (Exists other) = same_text name other
same_thing (Attached name node) (Attached other there) = same_text name other && same_text node there
same_thing (Staged name node) (Staged other there) = same_text name other && same_text node there
same_thing (Published name node target) (Published other there other_target) = same_text name other && same_text node there && same_text target other_target
same_thing thing other = false

-- what a call to this plugin does or undoes
abbrev pub thing_at : List ℕ → Party → Call → Option Thing
thing_at name party (calls.CreateVolume create required limit capabilities) = Some (Exists name)
thing_at name party (calls.DeleteVolume id) = Some (Exists name)
thing_at name party (calls.ControllerPublishVolume id node capability readonly) = Some (Attached name node)
thing_at name party (calls.ControllerUnpublishVolume id node) = Some (Attached name node)
thing_at name (Node node) (calls.NodeStageVolume id capability) = Some (Staged name node)
thing_at name (Node node) (calls.NodeUnstageVolume id) = Some (Staged name node)
thing_at name (Node node) (calls.NodePublishVolume id target capability readonly) = Some (Published name node target)
thing_at name (Node node) (calls.NodeUnpublishVolume id target) = Some (Published name node target)
thing_at name Controller call = None

-- the same, of a call that was sent
abbrev pub thing_of : Issued → Option Thing
thing_of issued = thing_at issued.name issued.party issued.call

-- the call brings its thing about; the other four end theirs
abbrev pub is_doing : Call → Bool
is_doing (calls.CreateVolume name required limit capabilities) = true
is_doing (calls.DeleteVolume id) = false
is_doing (calls.ControllerPublishVolume id node capability readonly) = true
is_doing (calls.ControllerUnpublishVolume id node) = false
is_doing (calls.NodeStageVolume id capability) = true
is_doing (calls.NodeUnstageVolume id) = false
is_doing (calls.NodePublishVolume id target capability readonly) = true
is_doing (calls.NodeUnpublishVolume id target) = false

-- the thing is this one
abbrev pub is_thing : Thing → Option Thing → Bool
is_thing thing None = false
is_thing thing (Some other) = same_thing thing other

-- the call does or undoes the thing
abbrev pub touches : Thing → Issued → Bool
touches thing issued = is_thing thing (thing_of issued)

-- the call does the thing
abbrev pub does : Thing → Issued → Bool
does thing issued = touches thing issued && is_doing issued.call

-- it is known to be so
abbrev pub is_yes : Known → Bool
is_yes Yes = true
is_yes No = false
is_yes Maybe = false

-- it is known not to be so
abbrev pub is_no : Known → Bool
is_no Yes = false
is_no No = true
is_no Maybe = false
