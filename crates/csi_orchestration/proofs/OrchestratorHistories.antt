-- Lines that are answered go on from each history that is shown.
use Rattle.std.proofs.Common.{◌≡◌, ◌∙◌, inl, inr, sym, ap, subst, refl, ℕ, List, [], ◌∷◌, map, false}
use Rattle.std.specs.Prelude.{Option, Some, None, Result, Ok, Err, option_map, option_and_then, IfOk}
use Rattle.std.specs.List.{AllByRecursion}
use Rattle.csi_types.specs.Model.Members.{EachTwo}
use Rattle.csi_types.specs.declared.number.Number.{Number}
use Rattle.csi_types.specs.declared.event.Event.{Event}
use Rattle.csi_types.specs.declared.event.Event.TheVariants as events
use Rattle.csi_types.specs.Model.Frame.{Frame}
use Rattle.csi_types.specs.Model.Same.{same_text}
use Rattle.csi_orchestrator.specs.declared.fault.Heard.{Heard}
use Rattle.csi_orchestrator.specs.declared.fault.Heard.TheVariants as heards
use Rattle.csi_orchestrator.specs.declared.fault.OrchFault.{OrchFault}
use Rattle.csi_orchestrator.specs.declared.fault.OrchFault.TheVariants as faults
use Rattle.csi_orchestrator.specs.Model.History.{History, with_items, Goal}
use Rattle.csi_orchestrator.specs.Model.Moves.{Input, Comes, Restarts, Loses, Answer, Sends, Hears, Restarted, GivenUp, Moved, moves}
use Rattle.csi_orchestrator.specs.Model.Readings.{goal_of}
use Rattle.csi_orchestrator.specs.Model.Shown.{RowShown, OrchestratorParts, Shows, goal_in}
use Rattle.csi_orchestrator.specs.Model.WellFormed.{IsWellFormed}
use Rattle.csi_orchestrator.specs.Public.Changed.{place_by_name, place_by_call, ChangesAsHeard}
use Rattle.csi_orchestrator.specs.Public.Laws.{MovesKeepForm, RestartsAreTold, opened_parts}
use Rattle.csi_orchestrator.specs.Public.Moves.{moved_to}
use Rattle.csi_orchestrator.specs.Public.Promises.{FollowsUnrefused}
use Rattle.csi_orchestrator.specs.Public.Raised.{raised_record, raised_history}
use Rattle.csi_orchestrator.specs.Public.Restored.{AreRestorable}
use Rattle.csi_orchestrator.specs.Public.RowMoves.{IsRefusal}
use Rattle.csi_orchestrator.specs.Public.Shown.{closed}
use Rattle.csi_records.proofs.KeyedRows.{keyed-same}
use Rattle.csi_json.specs.declared.request_fault.RequestFault.{RequestFault}
use Rattle.csi_json.specs.declared.request_fault.RequestFault.TheVariants as no_requests
use Rattle.csi_json.specs.Public.Requests.{RequestShown, Command, Reply, line_request}
use Rattle.csi_reports.specs.declared.responses.RequestOutcome.TheVariants as outcomes
use Rattle.csi_reports.specs.Public.Responses.{answer_entry, ignored_entry}
use Rattle.csi_service.specs.Public.OrchestratorServices.{ServedOrchestrator, kept_of, OrchestratorAnswers, OrchestratorLoses}
use Rattle.csi_service.specs.Public.OrchestratorOpening.{opening_refusal}
use Rattle.serde_json.specs.Written.{compact_text}
use Rattle.csi_orchestration.specs.declared.orchestrator_responder.OrchestratorResponder.{OrchestratorResponder}
use Rattle.csi_orchestration.specs.Public.LinesAnswering.{AnswersInRecord}
use Rattle.csi_orchestration.specs.Public.OrchestratorResponding.{SpellsOrchestrator, HasItsRecord, responder_parts, IsFitResponder, ResponderAnswers}
use Rattle.csi_orchestration.specs.Public.LinesServing.{AnswersEach}
use Rattle.csi_orchestration.specs.Public.OrchestratorLines.{row_at, with_bytes, command_entry, heard_entry, lost_entry, AnswersCommand, AnswersFrame, AnswersLoss, AnswersFault, served_lines, EventBy, ReplyBy, RequestBy}
use Rattle.csi_orchestration.specs.Public.OrchestratorHistories.{IsMoved, TellsHeard, MovesCommand, MovesFrame, MovesLoss, MovesNothing, moved_lines, MovesLine}
use Rattle.csi_orchestration.proofs.RaisedSessions.{raised-told}
use Rattle.csi_orchestration.proofs.HeardVolumes.{found-there, AreNamedApart, told-refused, told-taken}

-- ---- a line

-- the history goes on to one that is shown
pub record GoesOn (new : ServedOrchestrator) (J : History → Type 0) : Type 0 where
  pub next : History
  pub form : IsWellFormed next
  pub shown : Shows new.orchestrator next
  pub is : J next

-- that numbers are spent isn't that memory was refused
not-memory : faults.NumbersSpent ≡ faults.NoMemory → ⊥
not-memory e = absurd (cc)

module _ (keeps : MovesKeepForm) (history : History) (form : IsWellFormed history) (old new : ServedOrchestrator) (shown : Shows old.orchestrator history) (names : AreNamedApart new.orchestrator.rows) where
  -- what `moves` says, unless memory was refused
  moved : {A : Type 0} (told : A → Answer) (input : Input) (result : Result A OrchFault) → OrchestratorAnswers told old input result new → (result ≡ Err faults.NoMemory → ⊥)
      → GoesOn new (IsMoved told history input result)
  moved {A} told input (Ok answer) answers memory = by (moves history input) refl (answers.follows history form shown)
    where
      by : (m : Result Moved OrchFault) → moves history input ≡ m → FollowsUnrefused history m (told answer) new.orchestrator
          → GoesOn new (IsMoved told history input (Ok answer))
      by (Ok m) e follows = record {
        next = with_items history m.items;
        form = subst (λ (r : Result Moved OrchFault). IsWellFormed (moved_to history r)) e (keeps.then history input form);
        shown = follows.agrees;
        is = (m, e, follows.answered, refl);
      }
      by (Err fault) e follows = absurd follows
  moved {A} told input (Err fault) answers memory = by (moves history input) refl (answers.follows history form shown)
    where
      by : (m : Result Moved OrchFault) → moves history input ≡ m → IsRefusal m fault → GoesOn new (IsMoved told history input (Err fault))
      by (Ok m) e wanted = absurd (memory (ap (λ (f : OrchFault). Err f) wanted))
      by (Err other) e same = record {
        next = history;
        form = form;
        shown = subst (λ (o : OrchestratorParts). Shows o history) (sym answers.stays) shown;
        is = (e ∙ ap (λ (f : OrchFault). Err f) (sym same), refl);
      }

  -- a command or a timeout
  command-goes : (input : Input) (name answer : List ℕ) → AnswersCommand input name old answer new → GoesOn new (MovesCommand input name history answer)
  command-goes input name answer a =
      let g = moved Sends input a.told a.answered a.memory in
      let rows = new.orchestrator.rows in
      let goal : option_and_then goal_in (row_at rows (place_by_name name rows)) ≡ goal_of g.next name =
      ap (option_and_then goal_in) (found-there (λ (row : RowShown). same_text row.name name) rows) ∙ g.shown.same_goals name in
      record {
        next = g.next;
        form = g.form;
        shown = g.shown;
        is = record { told = a.told; moved = g.is; line = subst (λ (wanted : Option Goal). answer ≡ compact_text (command_entry name wanted a.told)) goal a.line };
      }

  -- where it was ignored, no more is told
  ignored : (o : Option RowShown) → heard_entry o (Ok heards.Ignored) ≡ ignored_entry
  ignored None = refl
  ignored (Some row) = refl

  -- what is told of it
  heard-told : (frame : Frame) (heard : Result Heard OrchFault) (answer : List ℕ) → OrchestratorAnswers Hears old (Comes frame) heard new → IfOk heard (λ what. ChangesAsHeard frame.number what old.orchestrator new.orchestrator)
      → answer ≡ compact_text (heard_entry (row_at new.orchestrator.rows (place_by_call frame.number old.orchestrator.rows)) heard)
      → (g : GoesOn new (IsMoved Hears history (Comes frame) heard)) → TellsHeard history frame heard answer g.next
  heard-told frame (Ok heards.Ignored) answer answered row line g = line ∙ ap compact_text (ignored (row_at new.orchestrator.rows (place_by_call frame.number old.orchestrator.rows)))
  heard-told frame (Ok (heards.Taken sent)) answer answered row line g =
      let moved = g.is.0 in
      let goes : g.next ≡ with_items history moved.items = g.is.3 in
      let of =
      told-taken history form old.orchestrator shown frame new.orchestrator sent moved g.is.1 g.is.2 (subst IsWellFormed goes g.form) (subst (Shows new.orchestrator) goes g.shown) names row in
      let goal : goal_in of.told.row ≡ goal_of g.next of.reply.issued.name = of.told.goal ∙ ap (goal_of (with_items history moved.items)) of.own ∙ ap (λ (h : History). goal_of h of.reply.issued.name) (sym goes) in (
        of.reply.issued,
        of.reply.is,
        line ∙ ap (λ (o : Option RowShown). compact_text (heard_entry o (Ok (heards.Taken sent)))) of.told.is
            ∙ ap (λ (name : List ℕ). compact_text (answer_entry name (goal_in of.told.row) outcomes.Taken (option_map with_bytes sent))) of.own
            ∙ ap (λ (wanted : Option Goal). compact_text (answer_entry of.reply.issued.name wanted outcomes.Taken (option_map with_bytes sent))) goal,
      )
  heard-told frame (Err fault) answer answered row line g =
      let same : new.orchestrator ≡ old.orchestrator = answered.stays in
      let of = told-refused history form old.orchestrator shown frame fault g.is.0 (subst (λ (o : OrchestratorParts). AreNamedApart o.rows) same names) in (
        of.row.name,
        line ∙ ap (λ (o : OrchestratorParts). compact_text (heard_entry (row_at o.rows (place_by_call frame.number old.orchestrator.rows)) (Err fault))) same
            ∙ ap (λ (o : Option RowShown). compact_text (heard_entry o (Err fault))) of.is
            ∙ ap (λ (wanted : Option Goal). compact_text (answer_entry of.row.name wanted (outcomes.Refused fault) None)) (of.goal ∙ ap (λ (h : History). goal_of h of.row.name) (sym g.is.1)),
      )

  -- a frame that came
  frame-goes : (frame : Frame) (answer : List ℕ) → AnswersFrame frame old answer new → GoesOn new (MovesFrame frame history answer)
  frame-goes frame answer a =
      let g = moved Hears (Comes frame) a.heard a.answered a.memory in
      record {
        next = g.next;
        form = g.form;
        shown = g.shown;
        is = record {
          timely = a.timely history form shown;
          heard = a.heard;
          moved = g.is;
          line = heard-told frame a.heard answer a.answered a.row a.line g;
        };
      }

  -- a node that is lost: what `moves` says, which is never that memory was refused
  lost : (node : List ℕ) (told : Result (Unit {0}) OrchFault) → OrchestratorLoses old node told new → GoesOn new (IsMoved {A = Unit {0}} (λ done. GivenUp) history (Loses node) told)
  lost node (Ok done) loses = by (moves history (Loses node)) refl (loses.follows history form shown)
    where
      by : (m : Result Moved OrchFault) → moves history (Loses node) ≡ m → FollowsUnrefused history m GivenUp new.orchestrator → GoesOn new (IsMoved {A = Unit {0}} (λ done. GivenUp) history (Loses node) (Ok done))
      by (Ok m) e follows = record {
        next = with_items history m.items;
        form = subst (λ (r : Result Moved OrchFault). IsWellFormed (moved_to history r)) e (keeps.then history (Loses node) form);
        shown = follows.agrees;
        is = (m, e, follows.answered, refl);
      }
      by (Err fault) e follows = absurd follows
  lost node (Err fault) loses = by (moves history (Loses node)) refl (loses.follows history form shown)
    where
      by : (m : Result Moved OrchFault) → moves history (Loses node) ≡ m → IsRefusal m fault → GoesOn new (IsMoved {A = Unit {0}} (λ done. GivenUp) history (Loses node) (Err fault))
      by (Ok m) e wanted = absurd (not-memory (sym loses.spent.0 ∙ wanted))
      by (Err other) e same = record {
        next = history;
        form = form;
        shown = subst (λ (o : OrchestratorParts). Shows o history) (sym loses.stays) shown;
        is = (e ∙ ap (λ (f : OrchFault). Err f) (sym same), refl);
      }

  -- and what is told of it
  loss-goes : (node answer : List ℕ) → AnswersLoss node old answer new → GoesOn new (MovesLoss node history answer)
  loss-goes node answer a =
      let g = lost node a.told a.answered in
      record {
        next = g.next;
        form = g.form;
        shown = g.shown;
        is = record { told = a.told; moved = g.is; line = subst (λ (last : Number). answer ≡ compact_text (lost_entry node a.told last.session)) g.shown.same_last a.line };
      }

  -- what is no request
  fault-goes : (fault : RequestFault) (answer : List ℕ) → AnswersFault fault old answer new → GoesOn new (MovesNothing fault history answer)
  fault-goes fault answer a = record {
    next = history;
    form = form;
    shown = subst (λ (s : ServedOrchestrator). Shows s.orchestrator history) (sym a.stays) shown;
    is = record { stays = refl; line = a.line };
  }

  -- by what happens
  event-goes : (event : Event) (answer : List ℕ) → EventBy served_lines event old answer new → GoesOn new (EventBy moved_lines event history answer)
  event-goes (events.Create name required limit capabilities) answer a = command-goes _ name answer a
  event-goes (events.Use name node target capability readonly) answer a = command-goes _ name answer a
  event-goes (events.Stop name node target) answer a = command-goes _ name answer a
  event-goes (events.Delete name) answer a = command-goes _ name answer a
  event-goes (events.Timeout name) answer a = command-goes _ name answer a
  event-goes (events.Deliver number) answer a = fault-goes no_requests.BadLine answer a
  event-goes events.RestartOrchestrator answer a = fault-goes no_requests.BadLine answer a
  event-goes (events.RestartOrchestratorWith nodes) answer a = fault-goes no_requests.BadLine answer a
  event-goes events.RestartController answer a = fault-goes no_requests.BadLine answer a
  event-goes (events.RestartControllerWith config) answer a = fault-goes no_requests.BadLine answer a
  event-goes (events.RestartNode node) answer a = fault-goes no_requests.BadLine answer a
  event-goes (events.Join node) answer a = fault-goes no_requests.BadLine answer a
  event-goes (events.Lose node) answer a = loss-goes node answer a
  event-goes (events.Settle name) answer a = fault-goes no_requests.BadLine answer a

  -- bytes that came
  reply-goes : (bytes answer : List ℕ) → ReplyBy served_lines bytes old answer new → GoesOn new (ReplyBy moved_lines bytes history answer)
  reply-goes bytes answer (inl a) =
      let g = frame-goes a.0 answer a.2 in
      record { next = g.next; form = g.form; shown = g.shown; is = inl (a.0, a.1, g.is) }
  reply-goes bytes answer (inr a) =
      let g = fault-goes no_requests.BadFrame answer a.1 in
      record { next = g.next; form = g.form; shown = g.shown; is = inr (a.0, g.is) }

  -- by what is asked
  pub request-goes : (request : Result RequestShown RequestFault) (answer : List ℕ) → RequestBy served_lines request old answer new
      → GoesOn new (RequestBy moved_lines request history answer)
  request-goes (Ok (Command event)) answer a = event-goes event answer a
  request-goes (Ok (Reply bytes)) answer a = reply-goes bytes answer a
  request-goes (Err fault) answer a = fault-goes fault answer a

-- ---- lines

-- what is so of all as they are seen is so of them
each-unmapped : {X Y : Type 0} (f : X → Y) (P : Y → Type 0) (xs : List X) → AllByRecursion P (map f xs) → AllByRecursion (λ x. P (f x)) xs
each-unmapped f P [] all = tt
each-unmapped f P (x ∷ xs) all = (all.0, each-unmapped f P xs all.1)

-- so it is of any two
two-unmapped : {X Y : Type 0} (R : Y → Y → Type 0) (f : X → Y) (xs : List X) → EachTwo R (map f xs) → EachTwo (λ a b. R (f a) (f b)) xs
two-unmapped R f [] two = tt
two-unmapped R f (x ∷ xs) two = (each-unmapped f (R (f x)) xs two.0, two-unmapped R f xs two.1)

-- the names in its own record differ
names-differ : (responder : OrchestratorResponder) → HasItsRecord responder → AreNamedApart responder.service.orchestrator.rows
names-differ responder its =
    let kept = kept_of responder.service.orchestrator in
    let same : kept.rows ≡ its.rules.rows = keyed-same 1 kept.rows its.rules.rows its.rules.places in
    two-unmapped (λ (a b : RowShown). same_text a.name b.name ≡ false) closed responder.service.orchestrator.rows (subst AreNamedApart (sym same) its.rules.rules.names)

-- they lead to a history that is shown, and what answers them has its record then, within its limits, and a restart is told
pub record AllGoOn (history : History) (lines given : List (List ℕ)) (now : OrchestratorResponder) : Type 0 where
  pub next : History
  pub form : IsWellFormed next
  pub shown : Shows now.service.orchestrator next
  pub fit : IsFitResponder now
  pub its : HasItsRecord now
  pub restarts : RestartsAreTold now.service.orchestrator
  pub are : AnswersEach MovesLine history lines given next

-- from each history that is shown
pub each-goes : MovesKeepForm → (responder : OrchestratorResponder) (lines given : List (List ℕ)) (now : OrchestratorResponder) (history : History)
    → AnswersEach (AnswersInRecord IsFitResponder SpellsOrchestrator responder_parts ResponderAnswers) responder lines given now
    → IsFitResponder responder → HasItsRecord responder → RestartsAreTold responder.service.orchestrator → IsWellFormed history → Shows responder.service.orchestrator history
    → AllGoOn history lines given now
each-goes keeps responder [] [] now history each fit its restarts form shown =
    subst (AllGoOn history [] []) (sym each) (record { next = history; form = form; shown = shown; fit = fit; its = its; restarts = restarts; are = refl })
each-goes keeps responder [] (answer ∷ given) now history each fit its restarts form shown = absurd each
each-goes keeps responder (line ∷ lines) [] now history each fit its restarts form shown = absurd each
each-goes keeps responder (line ∷ lines) (answer ∷ given) now history each fit its restarts form shown =
    let after = each.0 in
    let fits = (each.1.1 fit).0 in
    let its_own = each.1.0.1 fits in
    let step = request-goes keeps history form responder.service after.service shown (names-differ after its_own) (line_request line) answer each.1.0.0 in
    let all = each-goes keeps after lines given now step.next each.2 fits its_own each.1.0.2 step.form step.shown in
    record {
      next = all.next;
      form = all.form;
      shown = all.shown;
      fit = all.fit;
      its = all.its;
      restarts = all.restarts;
      are = (step.next, step.is, all.are);
    }

-- ---- a restart

-- a history goes on by a restart, once its session was raised to this one, to one that what is opened shows
pub record RestartsOn (parts : OrchestratorParts) (history : History) (session : ℕ) (nodes : List (List ℕ)) : Type 0 where
  pub next : History
  pub is : IsMoved {A = Unit {0}} (λ done. Restarted) (raised_history session history) (Restarts nodes) (Ok tt) next
  pub form : IsWellFormed next
  pub shown : Shows (opened_parts (raised_record session (kept_of parts)) nodes) next

-- so it is where a restart is told, and the rows are a record's
pub restart-goes : MovesKeepForm → (parts : OrchestratorParts) (history : History) (session : ℕ) (nodes : List (List ℕ)) → IsWellFormed history → Shows parts history
    → AreRestorable parts.nodes (map closed parts.rows) → RestartsAreTold parts
    → opening_refusal (raised_record session (kept_of parts)) nodes ≡ None → RestartsOn parts history session nodes
restart-goes keeps parts history session nodes form shown rules told unrefused = by (moves begun (Restarts nodes)) refl goes.1
  where
    begun : History
    begun = raised_history session history

    goes : IsWellFormed begun × FollowsUnrefused begun (moves begun (Restarts nodes)) Restarted (opened_parts (raised_record session (kept_of parts)) nodes)
    goes = raised-told parts rules told history session nodes form shown unrefused

    by : (m : Result Moved OrchFault) → moves begun (Restarts nodes) ≡ m → FollowsUnrefused begun m Restarted (opened_parts (raised_record session (kept_of parts)) nodes)
        → RestartsOn parts history session nodes
    by (Ok m) e follows = record {
      next = with_items begun m.items;
      is = (m, e, follows.answered, refl);
      form = subst (λ (r : Result Moved OrchFault). IsWellFormed (moved_to begun r)) e (keeps.then begun (Restarts nodes) goes.0);
      shown = follows.agrees;
    }
    by (Err fault) e follows = absurd follows
