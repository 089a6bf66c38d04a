-- The lines in which an orchestrator answers, each a value of JSON: an object with its keys in order. This profile's own.
use Rattle.std.specs.Prelude.{◌≡◌, ℕ, List, ◌++◌, Option, Some, None, option_map, option_and_then, codes}
use Rattle.std.specs.Borrow.{Bor}
use Rattle.serde_json.specs.Data.{Data, string, object, Members, no_members, member}
use Rattle.serde_json.specs.Written.{compact_text}
use Rattle.hex.specs.Hex.{encode_lower}
use Rattle.csi_types.specs.declared.call.Kind.{Kind}
use Rattle.csi_types.specs.declared.call.Party.{Party}
use Rattle.csi_types.specs.declared.call.Party.TheVariants.{Controller, Node}
use Rattle.csi_types.specs.declared.frame.Body.{Body}
use Rattle.csi_types.specs.declared.frame.Body.TheVariants.{Call, Reply}
use Rattle.csi_types.specs.Model.Call.{kind_of}
use Rattle.csi_types.specs.Model.Frame.{Frame}
use Rattle.csi_types.specs.Public.Names.{kind_name}
use Rattle.csi_orchestrator.specs.Model.History.{Goal}
use Rattle.csi_orchestrator.specs.Model.Shown.{RowShown, goal_in}
use Rattle.csi_orchestrator.specs.Public.Shown.{row_shown}
use Rattle.csi_orchestrator.specs.declared.row.Row.{Row}
use Rattle.csi_world.specs.Public.Outcomes.{refused_text}
use Rattle.csi_reports.specs.declared.responses.Sending.{Sending}
use Rattle.csi_reports.specs.declared.responses.RequestOutcome.{RequestOutcome}
use Rattle.csi_reports.specs.declared.responses.RequestOutcome.TheVariants.{Sent, Met, Refused, Taken, Lost}
use Rattle.csi_reports.specs.Public.Entries.{entries, whole_number}
use Rattle.csi_reports.specs.Public.Order.{IsInPlace}
use Rattle.csi_reports.specs.Public.Goals.{goal_entry, one_member}
use Rattle.csi_reports.specs.Public.ByName.{name_place, wanted_names}

-- ---- the call that is to be sent

-- its plugin
abbrev pub party_text : Party → List ℕ
party_text Controller = codes "controller"
party_text (Node id) = codes "node:" ++ id

-- the kind of the call that a frame has, or replies to
abbrev pub kind_in : Body → Kind
kind_in (Call call) = kind_of call
kind_in (Reply kind reply) = kind

-- its number, kind and plugin, and the bytes of its frame in hexadecimal
abbrev pub send_entry : Frame → List ℕ → Data
send_entry frame bytes =
    object (member (codes "call") (whole_number (frame.number).call)
    (member (codes "frame") (string (encode_lower bytes))
    (member (codes "kind") (string (kind_name (kind_in frame.body)))
    (member (codes "plugin") (string (party_text frame.party))
    (member (codes "session") (whole_number (frame.number).session) no_members)))))

-- the last member of an answer, where a call is to be sent
abbrev pub send_member : Option (Frame × List ℕ) → Members
send_member None = no_members
send_member (Some sent) = member (codes "send") (send_entry sent.0 sent.1) no_members

-- the frame and the bytes of a call, as they are lent
abbrev pub sending_shown : Option Sending → Option (Frame × List ℕ)
sending_shown sending = option_map (λ sent. (sent.frame.now, sent.bytes.now)) sending

-- ---- answers

-- what is wanted of a row's volume, if there is a row
abbrev pub goal_now : Option (Bor Row) → Option Goal
goal_now row = option_and_then (λ kept. goal_in (row_shown kept.now)) row

-- what became of a request, as a report has it, without the number of a frame
abbrev pub request_outcome_text : RequestOutcome → List ℕ
request_outcome_text Sent = codes "sent"
request_outcome_text Met = codes "met"
request_outcome_text (Refused fault) = refused_text fault
request_outcome_text Taken = codes "taken"
request_outcome_text Lost = codes "lost"

-- an answer about the volume of a name: what is wanted of it now, and the call that is to be sent, if there is one
abbrev pub answer_entry : List ℕ → Option Goal → RequestOutcome → Option (Frame × List ℕ) → Data
answer_entry name goal outcome sent =
    object (member (codes "goal") (goal_entry name goal)
    (member (codes "name") (string name)
    (member (codes "outcome") (string (request_outcome_text outcome)) (send_member sent))))

-- an answer about the loss of a node, with the session that there is then
abbrev pub loss_entry : List ℕ → RequestOutcome → ℕ → Data
loss_entry node outcome session =
    object (member (codes "node") (string node)
    (member (codes "outcome") (string (request_outcome_text outcome))
    (member (codes "session") (whole_number session) no_members)))

-- a frame that came was ignored
abbrev pub ignored_entry : Data
ignored_entry = one_member (codes "outcome") (string (codes "ignored"))

-- a line was no request: the fault's name
abbrev pub fault_entry : List ℕ → Data
fault_entry name = one_member (codes "fault") (string name)

-- ---- the first line

-- the session, and the names of which something is wanted
abbrev pub opened_entry : ℕ → List (List ℕ) → Data
opened_entry session wanted = object (member (codes "session") (whole_number session) (member (codes "wanted") (entries string wanted) no_members))

-- the text is the first line of this session with these rows: the names in order
pub record IsOpenedLine (session : ℕ) (rows : List RowShown) (text : List ℕ) : Type 0 where
  pub wanted : List (List ℕ)
  pub of : IsInPlace name_place (wanted_names rows) wanted
  pub written : text ≡ compact_text (opened_entry session wanted)

-- two texts that are this first line are the same
abbrev pub HasOneOpenedLine : ℕ → List RowShown → Type 0
HasOneOpenedLine session rows = (a b : List ℕ) → IsOpenedLine session rows a → IsOpenedLine session rows b → a ≡ b
