-- Every world to which guarded choices lead is safe.
use Rattle.csi_world.proofs.Words.{◌≡◌, ℕ, List, Bool, Some, ◌∙◌, ap, inl, Capability, Config, AttachedAs, StagedAs}
use Rattle.csi_world.proofs.Words.{Attached, Staged, asked, IsAmong, StagedVolume, issued_in, NodeAt, World}
use Rattle.csi_world.proofs.Words.{empty_world, Choice, MayChooseAll, chosen_all, IsAttachedAs, IsStagedWhereAttached}
use Rattle.csi_world.proofs.Words.{Safe, arith}
use Rattle.csi_world.proofs.Lemmas.{and_parts, eqb-true, each_of, among-find, some-from_map, find-passes}
use Rattle.csi_world.proofs.Lemmas.{same_text-tells}
use Rattle.csi_world.proofs.WorldView.{node_view, over_at, view_of}
use Rattle.csi_world.proofs.HeardReplies.{success-ok}
use Rattle.csi_world.proofs.RecordedRight.{recorded}
use Rattle.csi_world.proofs.PluginsReached.{IsNodeOfFrames}
use Rattle.csi_world.proofs.Deliveries.{PluginLaws}
use Rattle.csi_world.proofs.RightWorlds.{IsRight}
use Rattle.csi_world.proofs.ChoicesRight.{empty-right, all-right}
use Rattle.csi_world.proofs.PluginSafety.{published-staged}

-- what the controller holds so is in its list
held-there : (world : World) (id : ℕ) (at : List ℕ) (capability : Capability) (readonly : Bool) → (view_of world).held (Attached id at) ≡ Some (AttachedAs capability readonly) → IsAttachedAs world id at capability
held-there world id at capability readonly h = grind (arith, some-from_map, and_parts, find-passes, among-find, eqb-true, same_text-tells)

-- what is staged in a node's list is staged as its view has it
staged-seen : PluginLaws → (world : World) (at : NodeAt) (staged : StagedVolume) → IsRight world → IsAmong at world.nodes → IsAmong staged at.state.staged
    → (view_of world).held (Staged staged.volume at.id) ≡ Some (StagedAs staged.capability)
staged-seen laws world at staged right there among = grind (arith, each_of, IsNodeOfFrames, node_view, over_at, same_text-tells)

-- what is staged at a node is attached there, in the same capability
staged-attached : PluginLaws → (world : World) → IsRight world → IsStagedWhereAttached world
staged-attached laws world right at staged there among =
    let well = right.good.well.so_far in
    let attached = well.stands staged.volume at.id staged.capability (inl (staged-seen laws world at staged right there among)) in
    let sent = (well.truth.found (Attached staged.volume at.id) attached.call attached.found).0 in
    let ok = success-ok world.history.items (issued_in world.history.items) world.frames attached.call well.heard well.truth.numbers sent attached.success in
    held-there world staged.volume at.id staged.capability attached.readonly
    (well.truth.told attached.call (Attached staged.volume at.id) ok.0 attached.found ok.1 ∙ ap (λ c. asked c ok.0) attached.publishes)

-- a world of which all is so that is kept of every world is safe
pub right-safe : PluginLaws → (world : World) → IsRight world → Safe world
right-safe laws world right =
    let plugin = right.good.reached.controller.exclusive in
    let staged = staged-attached laws world right in
    let published = published-staged laws.publishing world right.good.reached in
    record {
      exclusive = plugin.exclusive;
      staged_where_attached = staged;
      published_where_staged = published;
      attached_while_live = plugin.attached_while_live;
      recorded_right = recorded world right.good.given right.good.well (record { staged = staged; published = published; live = plugin.attached_while_live });
    }

-- so every world to which choices lead that may be made is safe
pub worlds_are_safe : PluginLaws → (config : Config) (choices : List Choice) → MayChooseAll (empty_world config) choices → Safe (chosen_all (empty_world config) choices)
worlds_are_safe laws config choices may = right-safe laws (chosen_all (empty_world config) choices) (all-right laws (empty_world config) choices (empty-right laws config) may)
