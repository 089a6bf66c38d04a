-- What each input adds to a history: few items that leave it well-formed, each reply among them came, and the answer has the
-- frame of the call that is sent, if one is.
use Rattle.csi_orchestrator.proofs.Words.{◌≡◌, ◌+◌, ◌^◌, ◌≤◌, ℕ, List, [], ◌∷◌, ◌++◌, append_assoc, length, map, Bool}
use Rattle.csi_orchestrator.proofs.Words.{true, false, cond, refl, sym, ◌∙◌, ap, subst, arith, AllByRecursion, suc}
use Rattle.csi_orchestrator.proofs.Words.{Option, Some, None, filter, filter_map, nat_lt, is_none, ◌==◌, ◌&&◌, Result}
use Rattle.csi_orchestrator.proofs.Words.{Ok, Err, option_and_then, Call, Kind, Body, Number, Reply, kind_of, Frame}
use Rattle.csi_orchestrator.proofs.Words.{IsBefore, is_ok_status, same_number, same_party, same_kind, OrchFault, No}
use Rattle.csi_orchestrator.proofs.Words.{Thing, Exists, Issued, is_no, Item, Started, Lost, Forgotten, Accepted}
use Rattle.csi_orchestrator.proofs.Words.{Noted, History, with_items, newest, noted_for, known, goal_of, open_call}
use Rattle.csi_orchestrator.proofs.Words.{names_of, tries, last_number, nodes_of, issued_in, IsOfName, IsNextNumber}
use Rattle.csi_orchestrator.proofs.Words.{IsUnused, AreWellFormed, IsWellFormed, next_number, create_fault, use_fault}
use Rattle.csi_orchestrator.proofs.Words.{use_room_fault, stop_fault, delete_fault, timeout_fault, restart_fault}
use Rattle.csi_orchestrator.proofs.Words.{loss_fault, Due, call_for, due_for, due_call, Input, ToCreate, ToUse, ToStop}
use Rattle.csi_orchestrator.proofs.Words.{ToDelete, TimesOut, Comes, Restarts, Loses, Answer, Restarted, GivenUp}
use Rattle.csi_orchestrator.proofs.Words.{Sends, Moved, met_already, sent_as, send_due, command, use_when, delete_when}
use Rattle.csi_orchestrator.proofs.Words.{undoing_goal, closing, is_forward_due, timeout, is_number_open, call_replied}
use Rattle.csi_orchestrator.proofs.Words.{hears, heard, heard_refusal, deliver, is_forgotten, forgetting, stopping}
use Rattle.csi_orchestrator.proofs.Words.{stopping_all, restart, without_node, lose, moves, moved_to, IsReplyTo}
use Rattle.csi_orchestrator.proofs.Words.{most_items, frame_of, frame_if_sent, frames_in}
use Rattle.csi_orchestrator.proofs.Lemmas.{eq-eqb, lt-ltb, le-ltb, and_parts, false≢true, length-append}
use Rattle.csi_orchestrator.proofs.Lemmas.{same_text-tells, each-passes, among-find, find-passes}
use Rattle.csi_types.specs.declared.call.Call.TheVariants as calls
use Rattle.csi_types.specs.declared.frame.Body.TheVariants as bodies
use Rattle.csi_types.specs.Model.Replies.{reply_frame}
use Rattle.csi_orchestrator.specs.Model.History.{Usage, Goal, Create, Use, Stop}
use Rattle.csi_orchestrator.proofs.BegunItems.{AreAside, forgetting-aside, stopping-aside, loss-aside, issued-aside, form-aside, few-forgotten, few-begun}
use Rattle.csi_orchestrator.proofs.KnownTests.{no_is_no}
use Rattle.csi_orchestrator.proofs.RepliedRows.{own-open}
use Rattle.csi_orchestrator.proofs.ViewsFollow.{latest, known-quiet}

-- what is so of both is so of either
either : {X : Type 0} (P : X → Type 0) (b : Bool) (x y : X) → P x → P y → P (cond b x y)
either P true x y p q = p
either P false x y p q = q

-- a due call is of the name
abbrev IsNamed : List ℕ → Option Due → Type 0
IsNamed name None = Unit {0}
IsNamed name (Some due) = IsOfName name due.call

-- whatever its kind
named_call : (name : List ℕ) (goal : Option Goal) (id : Option ℕ) (kind : Kind) → IsNamed name (call_for name goal id kind)
named_call name goal id kind = grind arith

-- the call that is due for a goal
named_for : (history : History) (name : List ℕ) (goal : Option Goal) → IsNamed name (due_for history name goal)
named_for history name goal = grind (arith, named_call)

-- the next number, where one is left
abbrev pub IsNextIfSome : Number → Option Number → Type 0
IsNextIfSome last None = Unit {0}
IsNextIfSome last (Some number) = IsNextNumber last number

-- a call of a session is before the next one
is_before_next : (session call : ℕ) → IsBefore (record { session = session; call = call }) (record { session = session; call = call + 1 })
is_before_next session call = grind (arith, le-ltb, eq-eqb, lt-ltb)

-- the number that is given next is the next one, if one is left
pub is_next : (last : Number) → IsNextIfSome last (next_number last)
is_next last = either (IsNextIfSome last) (nat_lt (last.call + 1) (2 ^ 64)) (Some (record { session = last.session; call = last.call + 1 })) None (record { later = is_before_next last.session last.call; same_session = refl }) tt

-- beside the form: the replies came, and were to open calls
abbrev pub TakesReplies : History → Input → List Item → Type 0
TakesReplies history input [] = Unit {0}
TakesReplies history input (Accepted number status id ∷ older) = IsReplyTo (with_items history older) input number status id × TakesReplies history input older
TakesReplies history input (item ∷ older) = TakesReplies history input older

-- the name's volume isn't there, and nothing is wanted of it
pub record IsGone (history : History) (name : List ℕ) : Type 0 where
  pub gone : known history (Exists name) ≡ No
  pub unwanted : goal_of history name ≡ None

-- a node is lost where its loss came, and a name is forgotten whose volume isn't there and of which nothing is wanted
abbrev pub ArePassing : History → Input → List Item → Type 0
ArePassing history input [] = Unit {0}
ArePassing history input (Lost node ∷ older) = (input ≡ Loses node) × ArePassing history input older
ArePassing history input (Forgotten name ∷ older) = IsGone (with_items history older) name × ArePassing history input older
ArePassing history input (item ∷ older) = ArePassing history input older

-- what is so of the items of an answer, and of a result: a refusal adds nothing
pub record Adds (history : History) (input : Input) (moved : Moved) : Type 0 where
  pub form : IsWellFormed (with_items history moved.items)
  pub replies : TakesReplies history input moved.items
  pub passing : ArePassing history input moved.items
  pub few : length moved.items ≤ most_items history input
  pub frames : map frame_of (issued_in moved.items) ≡ frames_in moved.answer

-- so it is of a result, where a refusal adds nothing
abbrev pub AreAdded : History → Input → Result Moved OrchFault → Type 0
AreAdded history input (Ok moved) = Adds history input moved
AreAdded history input (Err fault) = Unit {0}

-- at most two items without a call, after which the due call may be sent
record AreQuiet (history : History) (input : Input) (items : List Item) : Type 0 where
  form : IsWellFormed (with_items history items)
  replies : TakesReplies history input items
  passing : ArePassing history input items
  few : length items ≤ 2
  silent : issued_in items ≡ []
  same_last : last_number (with_items history items) ≡ last_number history
  plain : most_items history input ≡ 3

-- none, and a goal that is noted after one
no-items : (history : History) (input : Input) → IsWellFormed history → most_items history input ≡ 3 → AreQuiet history input []
no-items history input form plain = record { form = form; replies = tt; passing = tt; few = omega arith; silent = refl; same_last = refl; plain = plain }

-- a goal may be noted after at most one such item
noted-after : (history : History) (input : Input) (name : List ℕ) (goal : Option Goal) (items : List Item) → AreQuiet history input items → length items ≤ 1 → AreQuiet history input (Noted name goal ∷ items)
noted-after history input name goal items quiet short =
    record { form = (tt, quiet.form); replies = quiet.replies; passing = quiet.passing; few = omega (arith, short); silent = quiet.silent; same_last = quiet.same_last; plain = quiet.plain }

-- nothing is sent after them
rests : (history : History) (input : Input) (answer : Answer) (items : List Item) → frames_in answer ≡ [] → AreQuiet history input items → AreAdded history input (Ok (record { answer = answer; items = items }))
rests history input answer items says quiet = grind arith

-- the due call is sent, or the goal dropped
sends-due : (history : History) (input : Input) (name : List ℕ) (answer : Option Frame → Answer) (items : List Item) → ((o : Option Frame) → frames_in (answer o) ≡ frame_if_sent o) → AreQuiet history input items
    → AreAdded history input (send_due history name answer items)
sends-due history input name answer items says quiet =
    by (due_call (with_items history items) name) (next_number (last_number history)) (named_for (with_items history items) name (goal_of (with_items history items) name))
    (subst (λ last. IsNextIfSome last (next_number (last_number history))) (sym quiet.same_last) (is_next (last_number history)))
  where
    longer : (n most : ℕ) → n ≤ 2 → most ≡ 3 → suc n ≤ most
    longer n most h plain = omega arith

    by : (d : Option Due) (n : Option Number) → IsNamed name d → IsNextIfSome (last_number (with_items history items)) n → AreAdded history input (sent_as name answer items d n)
    by None n named next =
        record { form = (tt, quiet.form); replies = quiet.replies; passing = quiet.passing; few = longer (length items) (most_items history input) quiet.few quiet.plain; frames = ap (map frame_of) quiet.silent ∙ sym (says None) }
    by (Some due) None named next = tt
    by (Some due) (Some number) named next =
        record {
          form = ((next, named), quiet.form);
          replies = quiet.replies;
          passing = quiet.passing;
          few = longer (length items) (most_items history input) quiet.few quiet.plain;
          frames = ap (λ rest. frame_of (let i : Issued = record { name = name; number = number; party = due.party; call = due.call } in i) ∷ map frame_of rest) quiet.silent ∙ sym (says (Some _));
        }

-- a command in general, a use and a delete
commanded : (history : History) (input : Input) (name : List ℕ) (goal : Goal) (fault : Option OrchFault) → IsWellFormed history → most_items history input ≡ 3 → AreAdded history input (command history name goal fault)
commanded history input name goal (Some fault) form plain = tt
commanded history input name goal None form plain = sends-due history input name Sends _ (λ o. refl) (noted-after history input name (Some goal) [] (no-items history input form plain) (omega arith))

-- what a use adds is as it has to be
used : (history : History) (input : Input) (name : List ℕ) (usage : Usage) (fault : Option OrchFault) → IsWellFormed history → most_items history input ≡ 3 → AreAdded history input (use_when history name usage fault)
used history input name usage (Some fault) form plain = tt
used history input name usage None form plain =
    either (AreAdded history input) (is_none (due_for history name (Some (Use usage)))) (Ok met_already) _ (rests history input _ [] refl (no-items history input form plain)) (commanded history input name (Use usage) (use_room_fault history name usage) form plain)

-- what a delete adds is as it has to be
deleted : (history : History) (input : Input) (name : List ℕ) (fault : Option OrchFault) → IsWellFormed history → most_items history input ≡ 3 → AreAdded history input (delete_when history name fault)
deleted history input name fault form plain = grind (arith, either, rests, no-items, commanded)

-- the open call, if there is one, is given up
given-up : (history : History) (input : Input) (name : List ℕ) (o : Option Issued) → open_call history name ≡ o → IsWellFormed history → most_items history input ≡ 3 → AreQuiet history input (closing o) × (length (closing o) ≤ 1)
given-up history input name o is form plain = grind (arith, no-items)

-- a timeout
timed-out : (history : History) (input : Input) (name : List ℕ) (fault : Option OrchFault) → IsWellFormed history → most_items history input ≡ 3 → AreAdded history input (timeout history name fault)
timed-out history input name (Some fault) form plain = tt
timed-out history input name None form plain =
    let closed = given-up history input name (open_call history name) refl form plain in
    either (AreAdded history input) (is_forward_due (due_call history name) && (tries history name == 3)) _ _ (sends-due history input name Sends _ (λ o. refl) (noted-after history input name (undoing_goal (goal_of history name)) _ closed.0 closed.1))
    (sends-due history input name Sends _ (λ o. refl) closed.0)

-- a reply that is taken
taken : (history : History) (input : Input) (reply : Reply) (issued : Issued) → IsWellFormed history → open_call history issued.name ≡ Some issued → IsReplyTo history input issued.number reply.status reply.id
    → most_items history input ≡ 3 → AreAdded history input (heard history reply (Some issued))
taken history input reply issued form now is plain =
    either (AreAdded history input) (is_ok_status reply.status) _ _ (sends-due history input issued.name hears (item ∷ []) (λ o. refl) quiet) (refused issued.call)
  where
    item : Item
    item = Accepted issued.number reply.status reply.id

    quiet : AreQuiet history input (Accepted issued.number reply.status reply.id ∷ [])
    quiet = record { form = (record { name = issued.name; issued = issued; is_open = now; has_number = refl }, form); replies = (is, tt); passing = tt; few = omega arith; silent = refl; same_last = refl; plain = plain }

    noted : (goal : Option Goal) → AreQuiet history input (Noted issued.name goal ∷ Accepted issued.number reply.status reply.id ∷ [])
    noted goal = noted-after history input issued.name goal _ quiet (omega arith)

    refused : (call : Call) → AreAdded history input (heard_refusal history issued (Accepted issued.number reply.status reply.id) call)
    refused (calls.CreateVolume name required limit capabilities) = rests history input _ _ refl (noted None)
    refused (calls.ControllerPublishVolume id node capability readonly) = sends-due history input issued.name hears _ (λ o. refl) (noted (undoing_goal (goal_of history issued.name)))
    refused (calls.NodeStageVolume id capability) = sends-due history input issued.name hears _ (λ o. refl) (noted (undoing_goal (goal_of history issued.name)))
    refused (calls.NodePublishVolume id target capability readonly) = sends-due history input issued.name hears _ (λ o. refl) (noted (undoing_goal (goal_of history issued.name)))
    refused call = rests history input _ _ refl quiet

-- a frame with a call's number, party and kind that has a reply is the frame of that reply
frame-is : (frame : Frame) (issued : Issued) (kind : Kind) (reply : Reply) → frame.number ≡ issued.number → frame.party ≡ issued.party → kind ≡ kind_of issued.call → frame.body ≡ bodies.Reply kind reply
    → frame ≡ reply_frame issued.number issued.party (kind_of issued.call) reply
frame-is frame issued kind reply number party same body = λ i. record { number = number i; party = party i; body = (body ∙ ap (λ k. bodies.Reply k reply) same) i }

-- a reply, whether it is to an open call or not
replied : (history : History) (frame : Frame) (kind : Kind) (reply : Reply) → IsWellFormed history → frame.body ≡ bodies.Reply kind reply → (found : Option Issued)
    → call_replied history frame.number frame.party kind ≡ found → AreAdded history (Comes frame) (heard history reply found)
replied history frame kind reply form body None e = rests history (Comes frame) _ [] refl (no-items history (Comes frame) form refl)
replied history frame kind reply form body (Some issued) e =
    let own = own-open history frame.number frame.party kind issued form (among-find test (issued_in history.items) issued e) (find-passes test (issued_in history.items) issued e) in
    let such = own.1 in
    taken history (Comes frame) reply issued form own.0 (record {
      issued = issued;
      reply = reply;
      is_open = own.0;
      same_number = refl;
      same_status = refl;
      same_id = refl;
      came = ap Comes (frame-is frame issued kind reply (sym such.has_number) (sym such.has_party) (sym such.has_kind) body);
    }) refl
  where
    test : Issued → Bool
    test i = same_number i.number frame.number && same_party i.party frame.party && same_kind (kind_of i.call) kind && is_number_open frame.number (open_call history i.name)

-- a frame that comes
delivered : (history : History) (frame : Frame) → IsWellFormed history → (body : Body) → frame.body ≡ body → AreAdded history (Comes frame) (deliver history frame.number frame.party body)
delivered history frame form (bodies.Call call) e = rests history (Comes frame) _ [] refl (no-items history (Comes frame) form refl)
delivered history frame form (bodies.Reply kind reply) e = replied history frame kind reply form e (call_replied history frame.number frame.party kind) refl

-- no reply is among them
replies-aside : (history : History) (input : Input) (later older : List Item) → AreAside later → TakesReplies history input older → TakesReplies history input (later ++ older)
replies-aside history input [] older aside replies = replies
replies-aside history input (Noted name goal ∷ later) older aside replies = replies-aside history input later older aside.1 replies
replies-aside history input (Forgotten name ∷ later) older aside replies = replies-aside history input later older aside.1 replies
replies-aside history input (item ∷ later) older aside replies = absurd aside.0

-- names that are forgotten, where their volumes aren't there and nothing is wanted of them still
forgets-pass : (history : History) (input : Input) (first : List Item) → ((name : List ℕ) → IsGone history name → IsGone (with_items history first) name) → ArePassing history input first
    → (names : List (List ℕ)) → AllByRecursion (λ name. is_forgotten history name ≡ true) names → ArePassing history input (map Forgotten names ++ first)
forgets-pass history input first stays passing [] all = passing
forgets-pass history input first stays passing (name ∷ names) all = (after names (stays name (is-gone all.0)), forgets-pass history input first stays passing names all.1)
  where
    is-gone : is_forgotten history name ≡ true → IsGone history name
    is-gone e =
        let both = and_parts (is_no (known history (Exists name))) (is_none (goal_of history name)) e in
        record { gone = no_is_no (known history (Exists name)) both.0; unwanted = none-is (goal_of history name) both.1 }
      where
        none-is : (g : Option Goal) → is_none g ≡ true → g ≡ None
        none-is None h = refl
        none-is (Some goal) h = absurd (false≢true h)

    after : (names : List (List ℕ)) → IsGone (with_items history first) name → IsGone (with_items history (map Forgotten names ++ first)) name
    after [] gone = gone
    after (other ∷ others) gone =
        let rest = after others gone in
        let before = with_items history (map Forgotten others ++ first) in
        record { gone = known-quiet (Forgotten other) before.items (Exists name) (latest before (Exists name)) (λ number. refl) ∙ rest.gone; unwanted = rest.unwanted }

-- uses that are stopped
passing-aside : (history : History) (input : Input) (goals : List ℕ → Option Goal) (node : List ℕ) (first : List Item) → ArePassing history input first → (names : List (List ℕ))
    → ArePassing history input (filter_map (λ name. stopping node name (goals name)) names ++ first)
passing-aside history input goals node first passing [] = passing
passing-aside history input goals node first passing (name ∷ names) = grind (arith, (passing-aside history input goals node first passing names))

-- of a name of which nothing is wanted they note nothing
stops-silent : (node name : List ℕ) (goals : List ℕ → Option Goal) → goals name ≡ None → (names : List (List ℕ)) (rest : List Item)
    → filter_map (noted_for name) (filter_map (λ n. stopping node n (goals n)) names ++ rest) ≡ filter_map (noted_for name) rest
stops-silent node name goals idle [] rest = refl
stops-silent node name goals idle (other ∷ others) rest = grind (arith, same_text-tells, (stops-silent node name goals idle others rest))

-- what is known stays where names are forgotten and something is noted, and where a session starts
known-aside : (history : History) (thing : Thing) (later : List Item) → AreAside later → known (with_items history later) thing ≡ known history thing
known-aside history thing [] aside = refl
known-aside history thing (Noted name goal ∷ later) aside =
    let before = with_items history later in
    known-quiet (Noted name goal) before.items thing (latest before thing) (λ number. refl) ∙ known-aside history thing later aside.1
known-aside history thing (Forgotten name ∷ later) aside =
    let before = with_items history later in
    known-quiet (Forgotten name) before.items thing (latest before thing) (λ number. refl) ∙ known-aside history thing later aside.1
known-aside history thing (item ∷ later) aside = absurd aside.0

-- where a session starts
quiet-started : (history : History) (session : ℕ) (nodes : List (List ℕ)) (thing : Thing) → known (with_items history (Started session nodes ∷ [])) thing ≡ known history thing
quiet-started history session nodes thing = known-quiet (Started session nodes) history.items thing (latest history thing) (λ number. refl)

-- that a volume is there isn't known otherwise where a node is lost
quiet-lost : (history : History) (node name : List ℕ) → known (with_items history (Lost node ∷ [])) (Exists name) ≡ known history (Exists name)
quiet-lost history node name = known-quiet (Lost node) history.items (Exists name) (latest history (Exists name)) (λ number. refl)

-- where a session begins so, and names are forgotten and uses stopped
begins : (history : History) (input : Input) (answer : Answer) (later first : List Item) → AreAside later → TakesReplies history input first → ArePassing history input (later ++ first) → issued_in first ≡ [] → frames_in answer ≡ []
    → IsWellFormed (with_items history first) → IsUnused (last_number (with_items history first)) → length later + length first ≤ most_items history input
    → AreAdded history input (Ok (record { answer = answer; items = later ++ first }))
begins history input answer later first aside replies passing silent says form unused few =
    let long = length-append later first in
    record {
      form = subst (AreWellFormed history.began) (sym (append_assoc later first history.items)) (form-aside history.began later (first ++ history.items) aside form unused);
      replies = replies-aside history input later first aside replies;
      passing = passing;
      few = omega (arith, few, long);
      frames = ap (map frame_of) (issued-aside later first aside ∙ silent) ∙ sym says;
    }

-- a restart
restarted : (history : History) (nodes : List (List ℕ)) (fault : Option OrchFault) → IsWellFormed history → AreAdded history (Restarts nodes) (restart history nodes fault)
restarted history nodes (Some fault) form = tt
restarted history nodes None form =
    let few = few-forgotten history in
    begins history (Restarts nodes) Restarted (forgetting history) (Started ((last_number history).session + 1) nodes ∷ []) (forgetting-aside history) tt
    (forgets-pass history (Restarts nodes) (Started ((last_number history).session + 1) nodes ∷ []) (λ name gone. record { gone = quiet-started history ((last_number history).session + 1) nodes (Exists name) ∙ gone.gone; unwanted = gone.unwanted }) tt (filter (is_forgotten history) (names_of history))
    (each-passes (is_forgotten history) (names_of history)))
    refl refl (omega arith, form) refl (omega (arith, few))

-- a loss
lost : (history : History) (node : List ℕ) (fault : Option OrchFault) → IsWellFormed history → AreAdded history (Loses node) (lose history node fault)
lost history node (Some fault) form = tt
lost history node None form =
    let few = few-begun history node in
    let both = length-append (forgetting history) (stopping_all history node) in
    let first : List Item = Lost node ∷ Started ((last_number history).session + 1) (without_node node (nodes_of history)) ∷ [] in
    begins history (Loses node) GivenUp (forgetting history ++ stopping_all history node) first (loss-aside history node) tt
    (subst (ArePassing history (Loses node)) (sym (append_assoc (forgetting history) (stopping_all history node) first))
    (forgets-pass history (Loses node) (stopping_all history node ++ first) (λ name gone. gone-then name gone)
    (passing-aside history (Loses node) (goal_of history) node first (refl, tt) (names_of history)) (filter (is_forgotten history) (names_of history)) (each-passes (is_forgotten history) (names_of history))))
    refl refl (refl, (omega arith, form)) refl (omega (arith, few, both))
  where
    started : List Item
    started = Started ((last_number history).session + 1) (without_node node (nodes_of history)) ∷ []

    gone-then : (name : List ℕ) → IsGone history name → IsGone (with_items history (stopping_all history node ++ Lost node ∷ Started ((last_number history).session + 1) (without_node node (nodes_of history)) ∷ [])) name
    gone-then name gone =
        let first : List Item = Lost node ∷ Started ((last_number history).session + 1) (without_node node (nodes_of history)) ∷ [] in
        subst (λ items. IsGone (record history { items = items }) name) (sym (append_assoc (stopping_all history node) first history.items))
        (record {
          gone =
              known-aside (with_items history first) (Exists name) (stopping_all history node) (stopping-aside history node) ∙ quiet-lost (with_items history started) node name
              ∙ quiet-started history ((last_number history).session + 1) (without_node node (nodes_of history)) (Exists name) ∙ gone.gone;
          unwanted = ap (λ xs. option_and_then (λ (g : Option Goal). g) (newest xs)) (stops-silent node name (goal_of history) gone.unwanted (names_of history) (first ++ history.items)) ∙ gone.unwanted;
        })

-- whatever comes
pub moves-add : (history : History) (input : Input) → IsWellFormed history → AreAdded history input (moves history input)
moves-add history (ToCreate name arguments) form = commanded history (ToCreate name arguments) name (Create arguments) (create_fault history name) form refl
moves-add history (ToUse name usage) form = used history (ToUse name usage) name usage (use_fault history name usage) form refl
moves-add history (ToStop name node target) form = commanded history (ToStop name node target) name (Stop node target) (stop_fault history name node target) form refl
moves-add history (ToDelete name) form = deleted history (ToDelete name) name (delete_fault history name) form refl
moves-add history (TimesOut name) form = timed-out history (TimesOut name) name (timeout_fault history name) form refl
moves-add history (Comes frame) form = delivered history frame form frame.body refl
moves-add history (Restarts nodes) form = restarted history nodes (restart_fault history nodes) form
moves-add history (Loses node) form = lost history node (loss_fault history) form

-- so the history stays well-formed
pub stays-formed : (history : History) (input : Input) (result : Result Moved OrchFault) → IsWellFormed history → AreAdded history input result → IsWellFormed (moved_to history result)
stays-formed history input (Ok moved) form added = added.form
stays-formed history input (Err fault) form added = form
