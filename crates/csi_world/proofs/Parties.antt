-- The plugin that has a thing.
use Rattle.csi_world.proofs.Words.{Party, Controller, Node, PluginThing, Exists, Attached, Staged, Published}

-- the plugin that has a thing
abbrev pub party_of : PluginThing → Party
party_of (Exists name) = Controller
party_of (Attached id node) = Controller
party_of (Staged id node) = Node node
party_of (Published id node target) = Node node
