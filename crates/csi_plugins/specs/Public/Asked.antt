-- What a plugin is asked for by: the bytes of a configuration; or an id, and the word of the node's joining. An orchestrator's session is said by a
-- word likewise. This profile's own.
use Rattle.std.specs.Prelude.{◌≡◌, ◌<◌, ◌^◌, ℕ, List, Option, Some, None, Ok}
use Rattle.std.specs.Fmt.{decimal}
use Rattle.std.specs.Str.{IsUtf8}
use Rattle.csi_types.specs.Model.Config.{Config}
use Rattle.csi_types.specs.Public.Text.{IsNodeId}
use Rattle.csi_json.specs.Public.Configs.{text_config}
use Rattle.csi_streams.specs.declared.ending.Ending.{Ending}
use Rattle.csi_streams.specs.declared.ending.Ending.TheVariants.{NotUtf8, ConfigRefused, Usage, Memory}
use Rattle.csi_plugins.specs.declared.kind.AskedPlugin.{AskedPlugin}
use Rattle.csi_plugins.specs.declared.kind.AskedPlugin.TheVariants.{Controller, Node}

-- the controller whose configuration the text says
abbrev pub IsOfConfig : List ℕ → AskedPlugin → Type 0
IsOfConfig text (Controller config) = text_config text ≡ Ok config
IsOfConfig text (Node id session) = ⊥

-- Why there is none: the bytes are no UTF-8, or a text that says no configuration; or memory ran out.
abbrev pub IsNoConfig : List ℕ → Ending → Type 0
IsNoConfig text NotUtf8 = IsUtf8 text → ⊥
IsNoConfig text ConfigRefused = IsUtf8 text × ((config : Config) → text_config text ≡ Ok config → ⊥)
IsNoConfig text Memory = Unit {0}
IsNoConfig text _ = ⊥

-- the session that a word says, as that of a node's joining: the number below 2^64 that it is in decimal, without zeros before it; 0 without a word
abbrev pub SaysSession : Option (List ℕ) → ℕ → Type 0
SaysSession None session = session ≡ 0
SaysSession (Some word) session = (session < 2 ^ 64) × (word ≡ decimal session)

-- why it says none: it is no such number; or memory ran out
abbrev pub SaysNone : Option (List ℕ) → Ending → Type 0
SaysNone word Usage = (session : ℕ) → SaysSession word session → ⊥
SaysNone word Memory = Unit {0}
SaysNone word _ = ⊥

-- the node of this id, which joined with the session that the word says
abbrev pub IsOfId : List ℕ → Option (List ℕ) → AskedPlugin → Type 0
IsOfId id word (Controller config) = ⊥
IsOfId id word (Node own session) = (own ≡ id) × SaysSession word session

-- Why there is none: no node may have this id; the word says no session; or memory ran out.
abbrev pub IsNoId : List ℕ → Option (List ℕ) → Ending → Type 0
IsNoId id word ConfigRefused = IsNodeId id → ⊥
IsNoId id word ending = SaysNone word ending
