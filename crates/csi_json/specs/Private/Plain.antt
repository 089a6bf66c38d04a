-- What a value of JSON that borrows its texts is read as: the values that it has as data, read as the parts of a schedule; and what tokens
-- say. This profile's own.
use Rattle.std.specs.Prelude.{◌≡◌, ◌<◌, ◌≤◌, List, [], ◌∷◌, ◌++◌, length, map, Option, Some, option_and_then, Ok}
use Rattle.std.specs.declared.alloc.Global.{Global}
use Rattle.json.specs.Token.{Token}
use Rattle.json.specs.Json.{Json, items as items_in_tokens, value as value_in_tokens}
use Rattle.json.specs.Value.{value_view, items_view}
use Rattle.json.specs.declared.value.Value.{Value}
use Rattle.serde_json.specs.Data.{Data}
use Rattle.serde_json.specs.Read.{of_json}
use Rattle.csi_types.specs.Model.Config.{Config}
use Rattle.csi_json.specs.Public.Configs.{config_of}
use Rattle.csi_types.specs.declared.event.Event.{Event}
use Rattle.csi_json.specs.Public.Events.{event_of}
use Rattle.csi_json.specs.Private.EventSchedules.{Schedule, schedule_read}

-- the event that a value is
abbrev pub event_in : Value Global → Option Event
event_in value = option_and_then event_of (of_json (value_view value))

-- the configuration that a value is
abbrev pub config_of_value : Value Global → Option Config
config_of_value value = option_and_then config_of (of_json (value_view value))

-- what a value is read as by a reading of data
abbrev pub seen_as : {A : Type 0} → (Data → Option A) → Value Global → Option A
seen_as reading value = option_and_then reading (of_json (value_view value))

-- the event that a value is was put behind these
pub record IsPut (old new : List Event) (value : Value Global) : Type 0 where
  pub event : Event
  pub is : event_in value ≡ Some event
  pub put : new ≡ old ++ event ∷ []

-- the event that the next value of these tokens is was put behind these, and those tokens are left
pub record IsNextPut (tokens rest : List Token) (old new : List Event) : Type 0 where
  pub value : Value Global
  pub read : value_in_tokens 125 tokens ≡ Some (value_view value, rest)
  pub put : IsPut old new value
  pub shorter : length rest < length tokens

-- tokens say a configuration, and these are left
pub record SaysConfig (tokens : List Token) (config : Config) (rest : List Token) : Type 0 where
  pub value : Value Global
  pub read : value_in_tokens 126 tokens ≡ Some (value_view value, rest)
  pub is : config_of_value value ≡ Some config
  pub shorter : length rest < length tokens

-- tokens say these events, as the items of an array up to its end, and these are left
pub record SaysEvents (tokens : List Token) (events : List Event) (rest : List Token) : Type 0 where
  pub values : List (Value Global)
  pub read : items_in_tokens (value_in_tokens 125) (length tokens) tokens ≡ Some (items_view values, rest)
  pub are : map event_in values ≡ map Some events
  pub few : length events ≤ 100000
  pub shorter : length rest < length tokens

-- tokens say a schedule, and these are left
pub record SaysSchedule (tokens : List Token) (schedule : Schedule) (rest : List Token) : Type 0 where
  pub value : Json
  pub read : value_in_tokens 127 tokens ≡ Some (value, rest)
  pub is : schedule_read (of_json value) ≡ Ok schedule
