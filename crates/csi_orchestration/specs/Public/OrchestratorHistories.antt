-- The lines that an orchestrator answers, as the stated machine goes on by them: from a history, by `moves`. This profile's own.
use Rattle.std.specs.Prelude.{◌≡◌, ℕ, ◌-◌, false, List, [], ◌++◌, take, Option, Some, None, option_map, Result, Ok, Err}
use Rattle.serde_json.specs.Written.{compact_text}
use Rattle.csi_types.specs.Model.Frame.{Frame}
use Rattle.csi_orchestrator.specs.declared.fault.Heard.{Heard}
use Rattle.csi_orchestrator.specs.declared.fault.Heard.TheVariants as heards
use Rattle.csi_orchestrator.specs.declared.fault.OrchFault.{OrchFault}
use Rattle.csi_orchestrator.specs.Model.History.{History, new_history, with_items}
use Rattle.csi_orchestrator.specs.Model.Thing.{Issued}
use Rattle.csi_orchestrator.specs.Model.Moves.{Input, Comes, Restarts, Loses, Answer, Sends, Hears, Restarted, GivenUp, Moved, moves}
use Rattle.csi_orchestrator.specs.Model.Readings.{goal_of, last_number}
use Rattle.csi_orchestrator.specs.Model.Shown.{OrchestratorParts, Shows}
use Rattle.csi_orchestrator.specs.Model.WellFormed.{IsWellFormed}
use Rattle.csi_orchestrator.specs.Public.Raised.{raised_history}
use Rattle.csi_orchestrator.specs.Public.Sound.{HasHistory}
use Rattle.csi_orchestrator.specs.Public.Stale.{call_answered, is_told_stale}
use Rattle.csi_json.specs.declared.request_fault.RequestFault.{RequestFault}
use Rattle.csi_json.specs.Public.Requests.{line_request, request_fault_name}
use Rattle.csi_reports.specs.declared.responses.RequestOutcome.TheVariants as outcomes
use Rattle.csi_reports.specs.Public.Responses.{answer_entry, ignored_entry, fault_entry}
use Rattle.csi_stores.specs.declared.counted.Counted.{Counted}
use Rattle.csi_stores.specs.Public.Part.{StoredPart}
use Rattle.csi_stores.specs.Public.Stores.{Store}
use Rattle.csi_orchestration.specs.declared.lines_serving.fault.ServedLines.{ServedLines}
use Rattle.csi_orchestration.specs.declared.lines_serving.fault.LinesServeFault.{LinesServeFault}
use Rattle.csi_orchestration.specs.declared.orchestrator_responder.OrchestratorResponder.{OrchestratorResponder}
use Rattle.csi_orchestration.specs.Public.LinesRuns.{RunSetting, Ran, over, Reopens, AreOneRun}
use Rattle.csi_orchestration.specs.Public.LinesServing.{AnswersEach, lines_counted}
use Rattle.csi_orchestration.specs.Public.OrchestratorLines.{LineJudge, RequestBy, with_bytes, command_entry, lost_entry}
use Rattle.csi_orchestration.specs.Public.OrchestratorResponding.{responder_parts}
use Rattle.csi_orchestration.specs.Public.Running.{orchestrator_setting}

-- ---- a line

-- `moves` answers an input so, and the history goes on by it; or it refuses it so, and the history stays
abbrev pub IsMoved : {A : Type 0} → (A → Answer) → History → Input → Result A OrchFault → History → Type 0
IsMoved told history input (Ok answer) next = (moved : Moved) × (moves history input ≡ Ok moved) × (moved.answer ≡ told answer) × (next ≡ with_items history moved.items)
IsMoved told history input (Err fault) next = (moves history input ≡ Err fault) × (next ≡ history)

-- a command or a timeout about the volume of a name: what `moves` says is told, and what is wanted of the volume then
pub record MovesCommand (input : Input) (name : List ℕ) (history : History) (answer : List ℕ) (next : History) : Type 0 where
  pub told : Result (Option Frame) OrchFault
  pub moved : IsMoved Sends history input told next
  pub line : answer ≡ compact_text (command_entry name (goal_of next name) told)

-- What is told of a frame that came: no more than that it was ignored; of a reply that was taken, the volume of the call that it is a reply to, what is
-- wanted of it then, and the call that is to be sent; of a reply that was refused, since no number is left, a volume.
abbrev pub TellsHeard : History → Frame → Result Heard OrchFault → List ℕ → History → Type 0
TellsHeard history frame (Ok heards.Ignored) answer next = answer ≡ compact_text ignored_entry
TellsHeard history frame (Ok (heards.Taken sent)) answer next =
    (issued : Issued) × (call_answered history frame.number frame.party frame.body ≡ Some issued)
    × (answer ≡ compact_text (answer_entry issued.name (goal_of next issued.name) outcomes.Taken (option_map with_bytes sent)))
TellsHeard history frame (Err fault) answer next = (name : List ℕ) × (answer ≡ compact_text (answer_entry name (goal_of next name) (outcomes.Refused fault) None))

-- a frame that came, and says of no open call that it was stale: what `moves` says is told
pub record MovesFrame (frame : Frame) (history : History) (answer : List ℕ) (next : History) : Type 0 where
  pub timely : is_told_stale history frame ≡ false
  pub heard : Result Heard OrchFault
  pub moved : IsMoved Hears history (Comes frame) heard next
  pub line : TellsHeard history frame heard answer next

-- a node that is lost: what `moves` says is told, and the session that there is then
pub record MovesLoss (node : List ℕ) (history : History) (answer : List ℕ) (next : History) : Type 0 where
  pub told : Result (Unit {0}) OrchFault
  pub moved : IsMoved (λ done. GivenUp) history (Loses node) told next
  pub line : answer ≡ compact_text (lost_entry node told (last_number next).session)

-- a line that is no request
pub record MovesNothing (fault : RequestFault) (history : History) (answer : List ℕ) (next : History) : Type 0 where
  pub stays : next ≡ history
  pub line : answer ≡ compact_text (fault_entry (request_fault_name fault))

-- how the stated machine answers
abbrev pub moved_lines : LineJudge History
moved_lines = record { command = MovesCommand; frame = MovesFrame; loss = MovesLoss; fault = MovesNothing }

-- a line
abbrev pub MovesLine : History → List ℕ → List ℕ → History → Type 0
MovesLine history line answer next = RequestBy moved_lines (line_request line) history answer next

-- ---- two runs

-- the history of a new one, in its session
abbrev pub first_history : OrchestratorParts → History
first_history orchestrator = raised_history orchestrator.last.session (new_history orchestrator.nodes)

-- From a history, the first lines of the first run lead to another one; its session is raised to the one before the second run's, where that isn't
-- the next one; the orchestrator restarts with the second run's list of nodes, in a history that the second run's orchestrator shows; and the
-- second run's lines lead on. The answers are those that were given, and of lines whose
-- commit was refused.
pub record AreOneHistory {K L R W : Type 0} (setting : RunSetting OrchestratorResponder K R W) (seen_too : L → Store) (content : List StoredPart) (before between : K) (again after : L) (r r_read s s_read : Counted R) (w w_written v v_written : Counted W)
    (result result_too : Result ServedLines LinesServeFault) (one : Ran setting before between r r_read w w_written result) (two : Ran (over setting seen_too) again after s s_read v v_written result_too)
    (run : AreOneRun setting seen_too content before between again after r r_read s s_read w w_written v v_written result result_too one two) (history : History) : Type 0 where
  pub came : History
  pub first : AnswersEach MovesLine history (take run.made one.served.serves.there) (one.served.serves.given ++ run.unwritten) came
  pub begun : History
  pub restarts : IsMoved {A = Unit {0}} (λ done. Restarted) (raised_history (two.responder.service.orchestrator.last.session - 1) came) (Restarts two.responder.service.orchestrator.nodes) (Ok tt) begun
  pub begun_form : IsWellFormed begun
  pub begun_shown : Shows two.responder.service.orchestrator begun
  pub last : History
  pub second : AnswersEach MovesLine begun (take (lines_counted result_too) two.served.serves.there) two.served.serves.given last
  pub shown : Shows two.served.serves.now.service.orchestrator last

-- Two runs of an orchestrator, each by a process of its own, which sees its store in its own way, the second over what opening the store again found
-- after the first, are one; and from each history that the first one's orchestrator shows, of which there is one, and a new one's where the store
-- was empty, they are one run of the stated machine, with a restart between: where the store had a content before, and was honest after both.
abbrev pub OrchestratorRunsLaw : {K L R W : Type 0} → (K → Store) → (L → Store) → (R → Option (List ℕ)) → (W → Option (List ℕ)) → Type 0
OrchestratorRunsLaw {K} {L} {R} {W} seen seen_too remaining contents =
    (before between : K) (again after : L) (content : List StoredPart) (r r_read s s_read : Counted R) (w w_written v v_written : Counted W) (result result_too : Result ServedLines LinesServeFault)
    → (seen between).honest → (seen_too after).honest → (seen before).holds content
    → (one : Ran (orchestrator_setting seen remaining contents) before between r r_read w w_written result) → Reopens (seen between) (seen_too again)
    → (two : Ran (orchestrator_setting seen_too remaining contents) again after s s_read v v_written result_too)
    → (run : AreOneRun (orchestrator_setting seen remaining contents) seen_too content before between again after r r_read s s_read w w_written v v_written result result_too one two)
    × HasHistory one.responder.service.orchestrator × (content ≡ [] → Shows one.responder.service.orchestrator (first_history one.responder.service.orchestrator))
    × ((history : History) → IsWellFormed history → Shows one.responder.service.orchestrator history
    → AreOneHistory (orchestrator_setting seen remaining contents) seen_too content before between again after r r_read s s_read w w_written v v_written result result_too one two run history)

-- ---- three runs

-- Three runs of an orchestrator likewise, one after another: the second and a third are one from the parts that the first left, and, in each
-- history, from the one with which the second run began. By the same step so are any number.
abbrev pub OrchestratorThreeRunsLaw : {K L M R W : Type 0} → (K → Store) → (L → Store) → (M → Store) → (R → Option (List ℕ)) → (W → Option (List ℕ)) → Type 0
OrchestratorThreeRunsLaw {K} {L} {M} {R} {W} seen seen_too seen_last remaining contents =
    (before between : K) (again left : L) (anew after : M) (content : List StoredPart) (r r_read s s_read t t_read : Counted R) (w w_written v v_written u u_written : Counted W) (result result_too result_last : Result ServedLines LinesServeFault)
    → (seen between).honest → (seen_too left).honest → (seen_last after).honest → (seen before).holds content
    → (one : Ran (orchestrator_setting seen remaining contents) before between r r_read w w_written result) → Reopens (seen between) (seen_too again)
    → (two : Ran (orchestrator_setting seen_too remaining contents) again left s s_read v v_written result_too) → Reopens (seen_too left) (seen_last anew)
    → (three : Ran (orchestrator_setting seen_last remaining contents) anew after t t_read u u_written result_last)
    → (run : AreOneRun (orchestrator_setting seen remaining contents) seen_too content before between again left r r_read s s_read w w_written v v_written result result_too one two)
    × (later : AreOneRun (orchestrator_setting seen_too remaining contents) seen_last (responder_parts run.left) again left anew after s s_read t t_read v v_written u u_written result_too result_last two three)
    × HasHistory one.responder.service.orchestrator × (content ≡ [] → Shows one.responder.service.orchestrator (first_history one.responder.service.orchestrator))
    × ((history : History) → IsWellFormed history → Shows one.responder.service.orchestrator history
    → (begins : AreOneHistory (orchestrator_setting seen remaining contents) seen_too content before between again left r r_read s s_read w w_written v v_written result result_too one two run history)
    × AreOneHistory (orchestrator_setting seen_too remaining contents) seen_last (responder_parts run.left) again left anew after s s_read t t_read v v_written u u_written result_too result_last two three later begins.begun)
