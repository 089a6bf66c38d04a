-- Worked examples of what an orchestrator does, which the checker computes.
use Rattle.std.specs.Prelude.{◌≡◌, ℕ, suc, List, [], ◌∷◌, ◌++◌, Bool, true, false, Some, None, Result, Ok, Err, codes}
use Rattle.csi_types.specs.declared.number.Number.{Number}
use Rattle.csi_types.specs.declared.mode.Mode.{Mode}
use Rattle.csi_types.specs.declared.mode.Mode.TheVariants.{SingleNodeWriter, MultiNodeSingleWriter, MultiNodeMultiWriter}
use Rattle.csi_types.specs.declared.capability.Capability.{Capability}
use Rattle.csi_types.specs.declared.capability.Access.TheVariants.{Block}
use Rattle.csi_types.specs.declared.call.Call.{Call}
use Rattle.csi_types.specs.declared.call.Call.TheVariants.{CreateVolume, DeleteVolume, ControllerPublishVolume, ControllerUnpublishVolume, NodeStageVolume, NodeUnstageVolume, NodePublishVolume, NodeUnpublishVolume}
use Rattle.csi_types.specs.declared.call.Kind.{Kind}
use Rattle.csi_types.specs.declared.call.Kind.TheVariants as kinds
use Rattle.csi_types.specs.declared.call.Party.{Party}
use Rattle.csi_types.specs.declared.call.Party.TheVariants.{Controller, Node}
use Rattle.csi_types.specs.declared.status.Status.{Status}
use Rattle.csi_types.specs.declared.status.Status.TheVariants.{FailedPrecondition, OutOfRange}
use Rattle.csi_types.specs.Model.Replies.{plain_reply, ok_reply, ok_reply_with, call_frame, reply_frame}
use Rattle.csi_orchestrator.specs.declared.fault.Heard.TheVariants.{Ignored, Taken}
use Rattle.csi_orchestrator.specs.declared.fault.OrchFault.{OrchFault}
use Rattle.csi_orchestrator.specs.declared.fault.OrchFault.TheVariants.{NameUsed, NoSuchVolume, NotCreated, Busy, HeldElsewhere, WriterElsewhere, HeldOtherwise, InUse, Idle, NumbersSpent, NoSuchNode, NoSuchTarget, NodeInUse}
use Rattle.csi_orchestrator.specs.declared.thing.Thing.TheVariants.{Exists, Attached, Staged, Published}
use Rattle.csi_orchestrator.specs.declared.thing.Known.TheVariants.{Yes, No, Maybe}
use Rattle.csi_orchestrator.specs.Model.History.{Stop, History, new_history, history_after}
use Rattle.csi_orchestrator.specs.Model.Readings.{nodes_of, known, id_of, goal_of, last_number, names_of}
use Rattle.csi_orchestrator.specs.Model.Moves.{Input, ToCreate, ToUse, ToStop, ToDelete, TimesOut, Comes, Restarts, Loses, Answer, Sends, Hears, Restarted, GivenUp, Moved, moves}
use Rattle.csi_orchestrator.specs.Public.Moves.{moved_to}
use Rattle.csi_orchestrator.specs.Model.Agrees.{OrchestratorView, Agrees}

-- the orchestrator's nodes: n1 to n4
abbrev pub nodes : List (List ℕ)
nodes = codes "n1" ∷ codes "n2" ∷ codes "n3" ∷ codes "n4" ∷ []

-- an orchestrator of these nodes that did nothing
abbrev pub start : History
start = new_history nodes

-- the history after these inputs
abbrev pub after_inputs : History → List Input → History
after_inputs history [] = history
after_inputs history (input ∷ inputs) = after_inputs (moved_to history (moves history input)) inputs

-- the answer alone
abbrev pub answer_of : Result Moved OrchFault → Result Answer OrchFault
answer_of (Ok moved) = Ok moved.answer
answer_of (Err fault) = Err fault

-- the answers to these inputs, in order
abbrev pub answers : History → List Input → List (Result Answer OrchFault)
answers history [] = []
answers history (input ∷ inputs) = answer_of (moves history input) ∷ answers (moved_to history (moves history input)) inputs

-- a block capability
abbrev pub block : Mode → Capability
block mode = record { access = Block; mode = mode }

-- a call number
abbrev pub number : ℕ → ℕ → Number
number session call = record { session = session; call = call }

-- the frame of the call of this number of session 1, sent by a command or timeout, or once a reply was taken
abbrev pub sends : ℕ → Party → Call → Result Answer OrchFault
sends call_number party call = Ok (Sends (Some (call_frame (number 1 call_number) party call)))

-- the same, in a session of this number
abbrev pub sends_in : ℕ → ℕ → Party → Call → Result Answer OrchFault
sends_in session call_number party call = Ok (Sends (Some (call_frame (number session call_number) party call)))

-- a reply was taken, and a call of this number sent
abbrev pub takes_and_sends : ℕ → Party → Call → Result Answer OrchFault
takes_and_sends call_number party call = Ok (Hears (Taken (Some (call_frame (number 1 call_number) party call))))

-- a reply was taken, and nothing sent
abbrev pub takes : Result Answer OrchFault
takes = Ok (Hears (Taken None))

-- a reply was ignored
abbrev pub ignores : Result Answer OrchFault
ignores = Ok (Hears Ignored)

-- nothing had to be sent
abbrev pub nothing_sent : Result Answer OrchFault
nothing_sent = Ok (Sends None)

-- the name of a volume
abbrev pub v : List ℕ
v = codes "v"

-- the node n1
abbrev pub n1 : Party
n1 = Node (codes "n1")

-- the replies that come: OK to CreateVolume with id 1, OK to another call, and a refusal
abbrev pub created : Input
created = Comes (reply_frame (number 1 1) Controller kinds.CreateVolume (ok_reply_with 1))

-- OK to a call of this number and kind
abbrev pub ok_from : ℕ → Party → Kind → Input
ok_from call_number party kind = Comes (reply_frame (number 1 call_number) party kind ok_reply)

-- the same, in a session of this number
abbrev pub ok_in : ℕ → ℕ → Party → Kind → Input
ok_in session call_number party kind = Comes (reply_frame (number session call_number) party kind ok_reply)

-- a refusal of a call of this number and kind
abbrev pub refused_from : ℕ → Party → Kind → Status → Input
refused_from call_number party kind status = Comes (reply_frame (number 1 call_number) party kind (plain_reply status []))

-- v is asked for in a mode, and to be used so
abbrev pub create_v : Mode → Input
create_v mode = ToCreate v (record { required = 10; limit = 0; capabilities = block mode ∷ [] })

-- v is to be used at a node and a target so
abbrev pub use_v : List ℕ → List ℕ → Mode → Bool → Input
use_v node target mode readonly = ToUse v (record { node = node; target = target; capability = block mode; readonly = readonly })

-- v is made, and is being attached at n1
abbrev pub attaching : Mode → Bool → List Input
attaching mode readonly = create_v mode ∷ created ∷ use_v (codes "n1") (codes "/a") mode readonly ∷ []

-- v is published at /a of n1
abbrev pub published : Mode → Bool → List Input
published mode readonly =
    attaching mode readonly ++ ok_from 2 Controller kinds.ControllerPublishVolume ∷ ok_from 3 n1 kinds.NodeStageVolume ∷ ok_from 4 n1 kinds.NodePublishVolume ∷ []

-- v is to be attached to n1 so
abbrev pub attach_v : Mode → Bool → Call
attach_v mode readonly = ControllerPublishVolume 1 (codes "n1") (block mode) readonly

-- the way to a target, one call after another
abbrev pub PublishedRow : Type 0
PublishedRow = answers start (published SingleNodeWriter false)
    ≡ sends 1 Controller (CreateVolume v 10 0 (block SingleNodeWriter ∷ [])) ∷ takes ∷ sends 2 Controller (attach_v SingleNodeWriter false)
    ∷ takes_and_sends 3 n1 (NodeStageVolume 1 (block SingleNodeWriter)) ∷ takes_and_sends 4 n1 (NodePublishVolume 1 (codes "/a") (block SingleNodeWriter) false) ∷ takes ∷ []

-- in a mode for one node it isn't used at a second one
abbrev pub OneNodeRow : Type 0
OneNodeRow = answers (after_inputs start (published SingleNodeWriter false)) (use_v (codes "n2") (codes "/a") SingleNodeWriter false ∷ []) ≡ Err HeldElsewhere ∷ []

-- the replies that lead to a target of a node, from the call of this number on
abbrev pub publishing_replies : List ℕ → ℕ → List Input
publishing_replies node call_number =
    ok_from call_number Controller kinds.ControllerPublishVolume ∷ ok_from (suc call_number) (Node node) kinds.NodeStageVolume ∷ ok_from (suc (suc call_number)) (Node node) kinds.NodePublishVolume ∷ []

-- v is published at n1 and n2 readonly, and at n3 for the single writer
abbrev pub one_writer : List Input
one_writer =
    published MultiNodeSingleWriter true ++ use_v (codes "n2") (codes "/a") MultiNodeSingleWriter true ∷ publishing_replies (codes "n2") 5
    ++ use_v (codes "n3") (codes "/a") MultiNodeSingleWriter false ∷ publishing_replies (codes "n3") 8

-- a second writer is refused
abbrev pub SingleWriterRow : Type 0
SingleWriterRow = answers (after_inputs start one_writer) (use_v (codes "n4") (codes "/a") MultiNodeSingleWriter false ∷ []) ≡ Err WriterElsewhere ∷ []

-- a reply to a call that was given up is ignored, and nothing is known by it
abbrev pub given_up : List Input
given_up = attaching SingleNodeWriter false ++ ok_from 2 Controller kinds.ControllerPublishVolume ∷ ok_from 3 n1 kinds.NodeStageVolume ∷ TimesOut v ∷ []

-- so it is with the reply to a NodePublishVolume that came too late
pub record LateReplyRow : Type 0 where
  pub ignored : answers (after_inputs start given_up) (ok_from 4 n1 kinds.NodePublishVolume ∷ []) ≡ ignores ∷ []
  pub maybe_published : known (after_inputs start (given_up ++ ok_from 4 n1 kinds.NodePublishVolume ∷ [])) (Published v (codes "n1") (codes "/a")) ≡ Maybe

-- a restart closes every call, keeps what is known and wanted, and sends nothing
abbrev pub restarted : List Input
restarted = attaching SingleNodeWriter false ++ Restarts nodes ∷ []

-- so it is after an attachment was asked for
pub record RestartRow : Type 0 where
  pub answer : answers (after_inputs start (attaching SingleNodeWriter false)) (Restarts nodes ∷ []) ≡ Ok Restarted ∷ []
  pub session : last_number (after_inputs start restarted) ≡ number 2 0
  pub maybe_attached : known (after_inputs start restarted) (Attached v (codes "n1")) ≡ Maybe
  pub sent_again : answers (after_inputs start restarted) (TimesOut v ∷ ok_from 2 Controller kinds.ControllerPublishVolume ∷ [])
      ≡ Ok (Sends (Some (call_frame (number 2 1) Controller (attach_v SingleNodeWriter false)))) ∷ ignores ∷ []

-- what may be attached isn't deleted; a forward call that was sent three times is undone
pub record UndoneRow : Type 0 where
  pub in_use : answers (after_inputs start (attaching SingleNodeWriter false)) (ToDelete v ∷ []) ≡ Err InUse ∷ []
  pub undone : answers (after_inputs start (attaching SingleNodeWriter false))
      (TimesOut v ∷ TimesOut v ∷ TimesOut v ∷ ok_from 5 Controller kinds.ControllerUnpublishVolume ∷ ToDelete v ∷ [])
      ≡ sends 3 Controller (attach_v SingleNodeWriter false) ∷ sends 4 Controller (attach_v SingleNodeWriter false) ∷ sends 5 Controller (ControllerUnpublishVolume 1 (codes "n1")) ∷ takes ∷ sends 6 Controller (DeleteVolume 1) ∷ []

-- numbers and sessions end at 2^64 - 1
pub record SpentRow : Type 0 where
  pub last_call : answers (history_after nodes (number 1 18446744073709551615)) (create_v SingleNodeWriter ∷ Restarts nodes ∷ create_v SingleNodeWriter ∷ [])
      ≡ Err NumbersSpent ∷ Ok Restarted ∷ Ok (Sends (Some (call_frame (number 2 1) Controller (CreateVolume v 10 0 (block SingleNodeWriter ∷ []))))) ∷ []
  pub last_session : answers (history_after nodes (number 18446744073709551615 0)) (Restarts nodes ∷ []) ≡ Err NumbersSpent ∷ []

-- a refused create leaves the name, which may be created again
pub record RefusedCreateRow : Type 0 where
  pub then : answers start (create_v SingleNodeWriter ∷ refused_from 1 Controller kinds.CreateVolume OutOfRange ∷ ToDelete v ∷ TimesOut v ∷ create_v SingleNodeWriter ∷ [])
      ≡ sends 1 Controller (CreateVolume v 10 0 (block SingleNodeWriter ∷ [])) ∷ takes ∷ Err NotCreated ∷ Err Idle ∷ sends 2 Controller (CreateVolume v 10 0 (block SingleNodeWriter ∷ [])) ∷ []
  pub maybe_made : known (after_inputs start (create_v SingleNodeWriter ∷ refused_from 1 Controller kinds.CreateVolume OutOfRange ∷ [])) (Exists v) ≡ Maybe

-- a refused publish is undone
pub record RefusedPublishRow : Type 0 where
  pub undone : answers (after_inputs start (attaching SingleNodeWriter false)) (refused_from 2 Controller kinds.ControllerPublishVolume FailedPrecondition ∷ ok_from 3 Controller kinds.ControllerUnpublishVolume ∷ [])
      ≡ takes_and_sends 3 Controller (ControllerUnpublishVolume 1 (codes "n1")) ∷ takes ∷ []
  pub detached : known (after_inputs start (attaching SingleNodeWriter false ++ refused_from 2 Controller kinds.ControllerPublishVolume FailedPrecondition ∷ ok_from 3 Controller kinds.ControllerUnpublishVolume ∷ [])) (Attached v (codes "n1")) ≡ No

-- v is published at /a and /b of n1
abbrev pub two_targets : List Input
two_targets = published MultiNodeMultiWriter false ++ use_v (codes "n1") (codes "/b") MultiNodeMultiWriter false ∷ ok_from 5 n1 kinds.NodePublishVolume ∷ []

-- and at /b alone
abbrev pub one_left : List Input
one_left = two_targets ++ ToStop v (codes "n1") (codes "/a") ∷ ok_from 6 n1 kinds.NodeUnpublishVolume ∷ []

-- a second target needs its publish alone, and the last stop leads all the way back
pub record TwoTargetsRow : Type 0 where
  pub second : answers (after_inputs start (published MultiNodeMultiWriter false)) (use_v (codes "n1") (codes "/b") MultiNodeMultiWriter false ∷ [])
      ≡ sends 5 n1 (NodePublishVolume 1 (codes "/b") (block MultiNodeMultiWriter) false) ∷ []
  pub first_stop : answers (after_inputs start two_targets) (ToStop v (codes "n1") (codes "/a") ∷ ok_from 6 n1 kinds.NodeUnpublishVolume ∷ [])
      ≡ sends 6 n1 (NodeUnpublishVolume 1 (codes "/a")) ∷ takes ∷ []
  pub last_stop : answers (after_inputs start one_left) (ToStop v (codes "n1") (codes "/b") ∷ ok_from 7 n1 kinds.NodeUnpublishVolume ∷ ok_from 8 n1 kinds.NodeUnstageVolume ∷ ok_from 9 Controller kinds.ControllerUnpublishVolume ∷ [])
      ≡ sends 7 n1 (NodeUnpublishVolume 1 (codes "/b")) ∷ takes_and_sends 8 n1 (NodeUnstageVolume 1) ∷ takes_and_sends 9 Controller (ControllerUnpublishVolume 1 (codes "n1")) ∷ takes ∷ []

-- an undoing call that was refused waits for the next timeout
abbrev pub refused_unstage : List Input
refused_unstage = one_left ++ ToStop v (codes "n1") (codes "/b") ∷ ok_from 7 n1 kinds.NodeUnpublishVolume ∷ refused_from 8 n1 kinds.NodeUnstageVolume FailedPrecondition ∷ []

-- so it is with a NodeUnstageVolume
pub record RefusedUnstageRow : Type 0 where
  pub maybe_staged : known (after_inputs start refused_unstage) (Staged v (codes "n1")) ≡ Maybe
  pub waits : answers (after_inputs start refused_unstage) (use_v (codes "n1") (codes "/a") MultiNodeMultiWriter false ∷ TimesOut v ∷ []) ≡ Err Busy ∷ sends 9 n1 (NodeUnstageVolume 1) ∷ []

-- what is so already is met, and what is so otherwise is refused
abbrev pub MetRow : Type 0
MetRow = answers (after_inputs start (published MultiNodeMultiWriter false)) (use_v (codes "n1") (codes "/a") MultiNodeMultiWriter false ∷ use_v (codes "n1") (codes "/a") MultiNodeMultiWriter true ∷ [])
    ≡ nothing_sent ∷ Err HeldOtherwise ∷ []

-- a deleted name is not created again
abbrev pub DeletedRow : Type 0
DeletedRow = answers start (create_v SingleNodeWriter ∷ created ∷ ToDelete v ∷ ok_from 2 Controller kinds.DeleteVolume ∷ create_v SingleNodeWriter ∷ [])
    ≡ sends 1 Controller (CreateVolume v 10 0 (block SingleNodeWriter ∷ [])) ∷ takes ∷ sends 2 Controller (DeleteVolume 1) ∷ takes ∷ Err NameUsed ∷ []

-- once the orchestrator restarted it may be: the name is forgotten, its id too; a name of which nothing is known stays
pub record ForgottenRow : Type 0 where
  pub deleted : answers start (create_v SingleNodeWriter ∷ created ∷ ToDelete v ∷ ok_from 2 Controller kinds.DeleteVolume ∷ Restarts nodes ∷ ToDelete v ∷ create_v SingleNodeWriter ∷ [])
      ≡ sends 1 Controller (CreateVolume v 10 0 (block SingleNodeWriter ∷ [])) ∷ takes ∷ sends 2 Controller (DeleteVolume 1) ∷ takes ∷ Ok Restarted ∷ Err NoSuchVolume
      ∷ sends_in 2 1 Controller (CreateVolume v 10 0 (block SingleNodeWriter ∷ [])) ∷ []
  pub no_id : id_of (after_inputs start (create_v SingleNodeWriter ∷ created ∷ ToDelete v ∷ ok_from 2 Controller kinds.DeleteVolume ∷ Restarts nodes ∷ create_v SingleNodeWriter ∷ [])) v ≡ None
  pub refused_create_stays : names_of (after_inputs start (create_v SingleNodeWriter ∷ refused_from 1 Controller kinds.CreateVolume OutOfRange ∷ Restarts nodes ∷ [])) ≡ v ∷ []
  pub delete_under_way_stays : names_of (after_inputs start (create_v SingleNodeWriter ∷ created ∷ ToDelete v ∷ Restarts nodes ∷ [])) ≡ v ∷ []

-- a node at which a volume may be attached isn't left out of the list; another one is
pub record LeftOutRow : Type 0 where
  pub answer : answers (after_inputs start (published SingleNodeWriter false)) (Restarts (codes "n2" ∷ []) ∷ Restarts (codes "n1" ∷ []) ∷ []) ≡ Err NodeInUse ∷ Ok Restarted ∷ []
  pub then : nodes_of (after_inputs start (published SingleNodeWriter false ++ Restarts (codes "n1" ∷ []) ∷ [])) ≡ codes "n1" ∷ []

-- n1 died with v published there, and is lost
abbrev pub lost : List Input
lost = published SingleNodeWriter false ++ Loses (codes "n1") ∷ []

-- v is attached there still, and is used elsewhere once it was detached
pub record LostNodeRow : Type 0 where
  pub answers_are : answers (after_inputs start (published SingleNodeWriter false))
      (use_v (codes "n2") (codes "/a") SingleNodeWriter false ∷ Loses (codes "n1") ∷ use_v (codes "n2") (codes "/a") SingleNodeWriter false ∷ ToDelete v
      ∷ use_v (codes "n1") (codes "/a") SingleNodeWriter false ∷ ToStop v (codes "n3") (codes "/a") ∷ ToStop v (codes "n1") (codes "/a")
      ∷ ok_in 2 1 Controller kinds.ControllerUnpublishVolume ∷ use_v (codes "n2") (codes "/a") SingleNodeWriter false ∷ ok_in 2 2 Controller kinds.ControllerPublishVolume ∷ [])
      ≡ Err HeldElsewhere ∷ Ok GivenUp ∷ Err HeldElsewhere ∷ Err InUse ∷ Err NoSuchNode ∷ Err NoSuchTarget ∷ sends_in 2 1 Controller (ControllerUnpublishVolume 1 (codes "n1")) ∷ takes
      ∷ sends_in 2 2 Controller (ControllerPublishVolume 1 (codes "n2") (block SingleNodeWriter) false)
      ∷ Ok (Hears (Taken (Some (call_frame (number 2 3) (Node (codes "n2")) (NodeStageVolume 1 (block SingleNodeWriter)))))) ∷ []
  pub nodes : nodes_of (after_inputs start lost) ≡ codes "n2" ∷ codes "n3" ∷ codes "n4" ∷ []
  pub attached : known (after_inputs start lost) (Attached v (codes "n1")) ≡ Yes
  pub staged : known (after_inputs start lost) (Staged v (codes "n1")) ≡ No
  pub published : known (after_inputs start lost) (Published v (codes "n1") (codes "/a")) ≡ No

-- a use that was under way at the node becomes its stop, and its timeout detaches
pub record LostUseRow : Type 0 where
  pub goal : goal_of (after_inputs start (attaching SingleNodeWriter false ++ Loses (codes "n1") ∷ [])) v ≡ Some (Stop (codes "n1") (codes "/a"))
  pub then : answers (after_inputs start (attaching SingleNodeWriter false ++ Loses (codes "n1") ∷ [])) (TimesOut v ∷ ok_in 2 1 Controller kinds.ControllerUnpublishVolume ∷ ToDelete v ∷ [])
      ≡ sends_in 2 1 Controller (ControllerUnpublishVolume 1 (codes "n1")) ∷ takes ∷ sends_in 2 2 Controller (DeleteVolume 1) ∷ []

-- a node of the lost one's id is listed again: v is used there as it is attached, or detached by any target
pub record RelistedRow : Type 0 where
  pub used : answers (after_inputs start (lost ++ Restarts nodes ∷ [])) (use_v (codes "n1") (codes "/b") SingleNodeWriter false ∷ [])
      ≡ sends_in 3 1 n1 (NodeStageVolume 1 (block SingleNodeWriter)) ∷ []
  pub stopped : answers (after_inputs start (lost ++ Restarts nodes ∷ [])) (ToStop v (codes "n1") (codes "/b") ∷ [])
      ≡ sends_in 3 1 Controller (ControllerUnpublishVolume 1 (codes "n1")) ∷ []

-- what a new orchestrator shows agrees with its history
abbrev pub empty_view : OrchestratorView
empty_view =
    record {
      nodes = nodes;
      last = number 1 0;
      rows = λ name. false;
      marks = λ thing. No;
      ids = λ name. None;
      goals = λ name. None;
      arguments = λ name. None;
      holdings = λ name node. None;
      open_calls = λ name. None;
      counts = λ name. 0;
    }

-- nothing shown agrees with nothing done
abbrev pub NewAgrees : Type 0
NewAgrees = Agrees empty_view start
