-- The lines by which an orchestrator is asked: each is a request, one object of JSON. This profile's own.
use Rattle.std.specs.Prelude.{◌≡◌, ℕ, ◌||◌, Bool, if◌then◌else◌, List, Option, Some, None, Result, Ok, Err, codes, bytes_eq}
use Rattle.std.specs.Str.{is_utf8}
use Rattle.serde_json.specs.Data.{Data}
use Rattle.serde_json.specs.Find.{as_str}
use Rattle.serde_json.specs.Read.{read}
use Rattle.csi_types.specs.declared.event.Event.{Event}
use Rattle.csi_types.specs.declared.event.Event.TheVariants as events
use Rattle.csi_json.specs.declared.request.Request.{Request}
use Rattle.csi_json.specs.declared.request.Request.TheVariants as requests
use Rattle.csi_json.specs.declared.request_fault.RequestFault.{RequestFault}
use Rattle.csi_json.specs.declared.request_fault.RequestFault.TheVariants.{NotJson, BadLine, BadFrame, NoMemory}
use Rattle.csi_json.specs.Public.Json.{◌>>=◌, only_member}
use Rattle.csi_json.specs.Public.Events.{event_at}
use Rattle.csi_json.specs.Public.Hexadecimal.{hex_bytes}

-- a request to its readers: a command, a timeout or a loss, or the bytes of a frame that came
pub data RequestShown : Type 0 where
  Command : (event : Event) → RequestShown
  Reply : (bytes : List ℕ) → RequestShown

-- what a request is to its readers
abbrev pub request_shown : Request → RequestShown
request_shown (requests.Command event) = Command event
request_shown (requests.Reply bytes) = Reply bytes.items

-- the keys of a schedule's commands, timeouts and losses
abbrev pub is_command_key : List ℕ → Bool
is_command_key key =
    bytes_eq key (codes "create") || bytes_eq key (codes "use") || bytes_eq key (codes "stop")
    || bytes_eq key (codes "delete") || bytes_eq key (codes "timeout") || bytes_eq key (codes "lose")

-- a command, a timeout or a loss, or the fault that it is none
abbrev pub command_or_fault : Option Event → Result RequestShown RequestFault
command_or_fault (Some event) = Ok (Command event)
command_or_fault None = Err BadLine

-- an event is a command, a timeout, or the loss of a node
abbrev pub IsCommand : Event → Type 0
IsCommand (events.Create name required limit capabilities) = Unit {0}
IsCommand (events.Use name node target capability readonly) = Unit {0}
IsCommand (events.Stop name node target) = Unit {0}
IsCommand (events.Delete name) = Unit {0}
IsCommand (events.Timeout name) = Unit {0}
IsCommand (events.Deliver number) = ⊥
IsCommand events.RestartOrchestrator = ⊥
IsCommand (events.RestartOrchestratorWith nodes) = ⊥
IsCommand events.RestartController = ⊥
IsCommand (events.RestartControllerWith config) = ⊥
IsCommand (events.RestartNode node) = ⊥
IsCommand (events.Join node) = ⊥
IsCommand (events.Lose node) = Unit {0}
IsCommand (events.Settle name) = ⊥

-- what is asked is one of these, or to take bytes
abbrev pub IsAsked : RequestShown → Type 0
IsAsked (Command event) = IsCommand event
IsAsked (Reply bytes) = Unit {0}

-- the bytes of a frame, or the fault that there are none
abbrev pub reply_or_fault : Option (List ℕ) → Result RequestShown RequestFault
reply_or_fault (Some bytes) = Ok (Reply bytes)
reply_or_fault None = Err BadFrame

-- the bytes that a value says in hexadecimal
unfoldable pub bytes_of : Data → Option (List ℕ)
bytes_of d = do
  text ← as_str d
  hex_bytes text

-- a request by the key that it stands at: an event as in a schedule, or a reply
unfoldable pub request_at : List ℕ → Data → Result RequestShown RequestFault
request_at key d =
    if bytes_eq key (codes "reply") then reply_or_fault (bytes_of d)
    else if is_command_key key then command_or_fault (event_at key d)
    else Err BadLine

-- a request: an object of one member, whose key says which
abbrev pub request_of : Option (List ℕ × Data) → Result RequestShown RequestFault
request_of (Some only) = request_at only.0 only.1
request_of None = Err BadLine

-- what is read of a line: a request, or why there is none
abbrev pub request_read : Option Data → Result RequestShown RequestFault
request_read (Some d) = request_of (only_member d)
request_read None = Err NotJson

-- the request that a line says, or its fault
unfoldable pub line_request : List ℕ → Result RequestShown RequestFault
line_request line = if is_utf8 line then request_read (read line) else Err NotJson

-- ---- faults

-- it is this fault, unless memory was refused
abbrev pub IsRequestFault : {A : Type 0} → Result A RequestFault → RequestFault → Type 0
IsRequestFault answer NoMemory = Unit {0}
IsRequestFault answer NotJson = answer ≡ Err NotJson
IsRequestFault answer BadLine = answer ≡ Err BadLine
IsRequestFault answer BadFrame = answer ≡ Err BadFrame

-- a fault's name
abbrev pub request_fault_name : RequestFault → List ℕ
request_fault_name NotJson = codes "NotJson"
request_fault_name BadLine = codes "BadLine"
request_fault_name BadFrame = codes "BadFrame"
request_fault_name NoMemory = codes "NoMemory"
