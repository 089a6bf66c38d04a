-- What a history tells. This profile's own.
use Rattle.std.specs.Prelude.{ℕ, ◌+◌, List, [], ◌∷◌, filter, filter_map, find, slice_get, min, Bool, false, not, ◌&&◌, Option, Some, None, option_and_then, if◌then◌else◌}
use Rattle.std.specs.List.{list_any}
use Rattle.csi_types.specs.declared.number.Number.{Number}
use Rattle.csi_types.specs.declared.call.Call.{Call}
use Rattle.csi_types.specs.declared.call.Call.TheVariants as calls
use Rattle.csi_types.specs.Model.Reply.{is_ok_status}
use Rattle.csi_types.specs.Model.Same.{same_text, same_number}
use Rattle.csi_orchestrator.specs.declared.thing.Thing.{Thing}
use Rattle.csi_orchestrator.specs.declared.thing.Thing.TheVariants.{Exists, Attached, Staged, Published}
use Rattle.csi_orchestrator.specs.declared.thing.Known.{Known}
use Rattle.csi_orchestrator.specs.declared.thing.Known.TheVariants.{Yes, No, Maybe}
use Rattle.csi_orchestrator.specs.Model.Thing.{Issued, touches, does}
use Rattle.csi_orchestrator.specs.Model.History.{Arguments, Held, Goal, Create, Item, Started, Lost, Forgotten, Sent, Accepted, Closed, Noted, History}

-- the first of a list that has the newest first
abbrev pub newest : {X : Type 0} → List X → Option X
newest xs = slice_get xs 0

-- the items since the last one that is so
abbrev pub since : (Item → Bool) → List Item → List Item
since is [] = []
since is (item ∷ older) = if is item then [] else item ∷ since is older

-- the item tells that the name was forgotten
abbrev pub is_forgetting : List ℕ → Item → Bool
is_forgetting name (Forgotten other) = same_text other name
is_forgetting name item = false

-- the items since the name was last forgotten
abbrev pub lifetime : List ℕ → List Item → List Item
lifetime name items = since (is_forgetting name) items

-- the call that an item sent, if it sent one
abbrev pub issued_by : Item → Option Issued
issued_by (Sent issued) = Some issued
issued_by item = None

-- the calls that were sent, the newest first
abbrev pub issued_in : List Item → List Issued
issued_in items = filter_map issued_by items

-- the calls of a name, the newest first
abbrev pub issued_of : History → List ℕ → List Issued
issued_of history name = filter (λ issued. same_text issued.name name) (issued_in history.items)

-- a success was heard of the call of this number
abbrev pub is_success_of : Number → Item → Bool
is_success_of number (Accepted other status id) = same_number other number && is_ok_status status
is_success_of number item = false

-- the same, anywhere in a history
abbrev pub has_success : List Item → Number → Bool
has_success items number = list_any (is_success_of number) items

-- what the latest call that does or undoes a thing tells of it
abbrev pub known_by : List Item → Thing → Option Issued → Known
known_by items thing None = No
known_by items thing (Some issued) =
    if not (has_success items issued.number) then Maybe
    else if does thing issued then Yes
    else No

-- what was staged or published at a node that is lost isn't so any more; what the controller attached to it stays attached
abbrev pub is_gone_with : List ℕ → Thing → Bool
is_gone_with node (Exists name) = false
is_gone_with node (Attached name other) = false
is_gone_with node (Staged name other) = same_text other node
is_gone_with node (Published name other target) = same_text other node

-- the item ends a thing without a call
abbrev pub ends : Thing → Item → Bool
ends thing (Lost node) = is_gone_with node thing
ends thing item = false

-- what is known of a thing, by the calls since the last loss that ended it
abbrev pub known : History → Thing → Known
known history thing = known_by history.items thing (find (touches thing) (issued_in (since (ends thing) history.items)))

-- the id in an item that tells of the success of the call of this number
abbrev pub id_in : Number → Item → Option ℕ
id_in number (Accepted other status id) = if same_number other number && is_ok_status status then id else None
id_in number item = None

-- the id that was heard for a CreateVolume
abbrev pub id_by : List Item → Issued → Call → Option ℕ
id_by items issued (calls.CreateVolume name required limit capabilities) = newest (filter_map (id_in issued.number) items)
id_by items issued call = None

-- the calls of a name since it was last forgotten, the newest first
abbrev pub issued_since : History → List ℕ → List Issued
issued_since history name = filter (λ issued. same_text issued.name name) (issued_in (lifetime name history.items))

-- a name's id, if it was heard since the name was last forgotten
abbrev pub id_of : History → List ℕ → Option ℕ
id_of history name = newest (filter_map (λ issued. id_by history.items issued issued.call) (issued_since history name))

-- what was noted last for a name
abbrev pub noted_for : List ℕ → Item → Option (Option Goal)
noted_for name (Noted other goal) = if same_text other name then Some goal else None
noted_for name item = None

-- what is wanted of a name now, if anything
abbrev pub goal_of : History → List ℕ → Option Goal
goal_of history name = option_and_then (λ goal. goal) (newest (filter_map (noted_for name) history.items))

-- the arguments with which a name was to be created last
abbrev pub arguments_in_goal : Option Goal → Option Arguments
arguments_in_goal (Some (Create arguments)) = Some arguments
arguments_in_goal goal = None

-- the arguments of its last create since it was last forgotten
abbrev pub arguments_of : History → List ℕ → Option Arguments
arguments_of history name =
    newest (filter_map (λ item. option_and_then arguments_in_goal (noted_for name item)) (lifetime name history.items))

-- how a call publishes a volume at this node
abbrev pub held_by_call : List ℕ → Call → Option Held
held_by_call node (calls.ControllerPublishVolume id other capability readonly) =
    if same_text other node then Some (record { capability = capability; readonly = readonly }) else None
held_by_call node call = None

-- how a volume was last published at a node
abbrev pub held : History → List ℕ → List ℕ → Option Held
held history name node = newest (filter_map (λ issued. held_by_call node issued.call) (issued_of history name))

-- the call, unless it is the one of this number
abbrev pub unless : Number → Option Issued → Option Issued
unless number None = None
unless number (Some issued) = if same_number issued.number number then None else Some issued

-- the last call of a name, if since then no reply was taken, it wasn't given up, and no session started
abbrev pub open_in : List ℕ → List Item → Option Issued
open_in name [] = None
open_in name (Started session nodes ∷ older) = None
open_in name (Lost node ∷ older) = open_in name older
open_in name (Forgotten other ∷ older) = open_in name older
open_in name (Sent issued ∷ older) = if same_text issued.name name then Some issued else open_in name older
open_in name (Accepted number status id ∷ older) = unless number (open_in name older)
open_in name (Closed number ∷ older) = unless number (open_in name older)
open_in name (Noted other goal ∷ older) = open_in name older

-- a name's open call, if there is one
abbrev pub open_call : History → List ℕ → Option Issued
open_call history name = open_in name history.items

-- the number is that of a call of the name
abbrev pub is_number_of : List ℕ → List Item → Number → Bool
is_number_of name items number = list_any (λ issued. same_text issued.name name && same_number issued.number number) (issued_in items)

-- how many calls of a name were sent since something was noted for it, or a success was heard of it
abbrev pub calls_since : List ℕ → List Item → ℕ
calls_since name [] = 0
calls_since name (Started session nodes ∷ older) = calls_since name older
calls_since name (Lost node ∷ older) = calls_since name older
calls_since name (Forgotten other ∷ older) = calls_since name older
calls_since name (Sent issued ∷ older) = if same_text issued.name name then 1 + calls_since name older else calls_since name older
calls_since name (Accepted number status id ∷ older) =
    if is_ok_status status && is_number_of name older number then 0 else calls_since name older
calls_since name (Closed number ∷ older) = calls_since name older
calls_since name (Noted other goal ∷ older) = if same_text other name then 0 else calls_since name older

-- the same, counted up to 3
abbrev pub tries : History → List ℕ → ℕ
tries history name = min 3 (calls_since name history.items)

-- the number after which the next call is numbered
abbrev pub last_in : Number → List Item → Number
last_in began [] = began
last_in began (Started session nodes ∷ older) = record { session = session; call = 0 }
last_in began (Sent issued ∷ older) = issued.number
last_in began (item ∷ older) = last_in began older

-- the same, of a history
abbrev pub last_number : History → Number
last_number history = last_in history.began history.items

-- each text once
abbrev pub distinct : List (List ℕ) → List (List ℕ)
distinct [] = []
distinct (text ∷ others) = if list_any (same_text text) others then distinct others else text ∷ distinct others

-- the list of nodes of the last session
abbrev pub nodes_in : List (List ℕ) → List Item → List (List ℕ)
nodes_in first [] = first
nodes_in first (Started session nodes ∷ older) = nodes
nodes_in first (item ∷ older) = nodes_in first older

-- the nodes that the orchestrator has now
abbrev pub nodes_of : History → List (List ℕ)
nodes_of history = nodes_in history.nodes history.items

-- a name among others, once
abbrev pub with_name : List ℕ → List (List ℕ) → List (List ℕ)
with_name name names = if list_any (same_text name) names then names else name ∷ names

-- the names for which something was noted since they were last forgotten
abbrev pub names_in : List Item → List (List ℕ)
names_in [] = []
names_in (Noted name goal ∷ older) = with_name name (names_in older)
names_in (Forgotten name ∷ older) = filter (λ other. not (same_text other name)) (names_in older)
names_in (item ∷ older) = names_in older

-- those that have a row
abbrev pub names_of : History → List (List ℕ)
names_of history = names_in history.items

-- something was noted for the name since it was last forgotten
abbrev pub has_row : History → List ℕ → Bool
has_row history name = list_any (same_text name) (names_of history)
