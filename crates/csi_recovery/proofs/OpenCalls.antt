-- What a plugin answers an open call: what it keeps for its volume is that call, or one before it, and it heard of no later session. So the fence lets the
-- call through, or gives what is kept.
use Rattle.csi_world.proofs.Words.{◌≡◌, ◌⊎◌, ℕ, ◌≤◌, List, [], ◌∷◌, Bool, true, false, cond, Option, Some, None}
use Rattle.csi_world.proofs.Words.{option_map, is_some, refl, sym, ◌∙◌, ap, subst, inl, inr, ⊎_elim, ◌==◌, Number}
use Rattle.csi_world.proofs.Words.{Call, Party, Node, Body, kind_of, Config, Frame, IsBefore, reply_frame, same_text}
use Rattle.csi_world.proofs.Words.{same_number, IsAmong, EachTwo, Kept, is_spent, is_over, begins, Fenced, Machine}
use Rattle.csi_world.proofs.Words.{in_session, answered_only, judged, fenced_call, answered_in, fenced_parts, Volume}
use Rattle.csi_world.proofs.Words.{ControllerState, is_row_for, row_for, volume_with_id, NodeState, AnsweredVolume}
use Rattle.csi_world.proofs.Words.{volume_of, row_of_volume, row_with_id, staged_of, Issued, Item, Started, Sent}
use Rattle.csi_world.proofs.Words.{Accepted, Closed, issued_in, open_in, is_aborted, arith}
use Rattle.csi_world.proofs.Lemmas.{eqb-true, eq-eqb, false≢true, true≢false, le-ltb, none-some, same_Some}
use Rattle.csi_world.proofs.Lemmas.{same_text-tells, same_number-tells, each_of, among-filter, among-find, find-passes}
use Rattle.csi_world.proofs.Lemmas.{Judgement, was_over, was_fresh, was_repeated, was_stale, was_judged, IsOrderly}
use Rattle.csi_world.proofs.Lemmas.{is_with_id, unless-some}
use Rattle.csi_types.specs.declared.frame.Body.TheVariants as bodies
use Rattle.csi_fence.specs.declared.fence.Verdict.TheVariants.{Stale, Repeated, Fresh}
use Rattle.csi_controller.specs.Model.Fenced as controllers
use Rattle.csi_node.specs.Model.Table as node_table
use Rattle.csi_node.specs.Model.Fenced as nodes
use Rattle.csi_world.proofs.CallThings.{IsOwn, ComesAfter}
use Rattle.csi_world.proofs.GivenIds.{GivenId, HasName, AreGiven, AreOf, id-named}
use Rattle.csi_world.proofs.NamedCalls.{own}
use Rattle.csi_recovery.proofs.PlainReplies.{controller-plain, node-plain}
use Rattle.csi_recovery.proofs.KeptCalls.{IsCalled, ControllerKeeps, NodeKeeps}

-- ---- open calls

-- of one name, each call that was sent is the open one, or was sent before it
pub open-latest : (name : List ℕ) (items : List Item) (call other : Issued) → open_in name items ≡ Some call → IsAmong other (issued_in items) → other.name ≡ name → EachTwo ComesAfter (issued_in items)
    → (other ≡ call) ⊎ IsBefore other.number call.number
open-latest name [] call other is among named apart = absurd (none-some call is)
open-latest name (Started session nodes ∷ older) call other is among named apart = absurd (none-some call is)
open-latest name (Sent issued ∷ older) call other is among named apart = by (same_text issued.name name) refl is among (open-latest name older call other)
  where
    own_name : other ≡ issued → same_text issued.name name ≡ true
    own_name e = (same_text-tells issued.name name).1 (ap (λ (i : Issued). i.name) (sym e) ∙ named)

    by : (b : Bool) → same_text issued.name name ≡ b → cond b (Some issued) (open_in name older) ≡ Some call → (other ≡ issued) ⊎ IsAmong other (issued_in older)
        → (open_in name older ≡ Some call → IsAmong other (issued_in older) → other.name ≡ name → EachTwo ComesAfter (issued_in older) → (other ≡ call) ⊎ IsBefore other.number call.number)
        → (other ≡ call) ⊎ IsBefore other.number call.number
    by true same now (inl e) rest = inl (e ∙ same_Some issued call now)
    by true same now (inr there) rest = inr (subst (λ (i : Issued). IsBefore other.number i.number) (same_Some issued call now) (each_of (ComesAfter issued) (issued_in older) other apart.0 there))
    by false differs now (inl e) rest = absurd (false≢true (sym differs ∙ own_name e))
    by false differs now (inr there) rest = rest now there named apart.1
open-latest name (Accepted number status id ∷ older) call other is among named apart = open-latest name older call other (unless-some number (open_in name older) call is).0 among named apart
open-latest name (Closed number ∷ older) call other is among named apart = open-latest name older call other (unless-some number (open_in name older) call is).0 among named apart
open-latest name (item ∷ older) call other is among named apart = open-latest name older call other is among named apart

-- ---- what the fence answers to an open call

-- what is so of an answer that is carried out, and of what is kept, is so of the answer to a call that isn't over, where what is kept is of its number or
-- of one before it
module _ {State : Type 0} (machine : Machine State) (state : State) (number : Number) (call : Call) (P : Fenced State → Type 0)
    (timely : is_over (machine.session state) number ≡ false) (carries : P (machine.carried_out (in_session machine number state) number call))
    (gives : (kept : Kept) → machine.kept_for call (in_session machine number state) ≡ Some kept → P (answered_only machine (in_session machine number state) number kept.kind kept.reply))
    (before : (kept : Kept) → machine.kept_for call (in_session machine number state) ≡ Some kept → (kept.number ≡ number) ⊎ IsBefore kept.number number) where
  by-kept : (kept : Kept) → machine.kept_for call (in_session machine number state) ≡ Some kept → (kept.number ≡ number) ⊎ IsBefore kept.number number
      → (b c : Bool) → is_spent (Some kept.number) number ≡ b → same_number number kept.number ≡ c
      → P (judged machine (in_session machine number state) number call kept (cond b (cond c Repeated Stale) Fresh))
  by-kept kept is last false c fresh same = carries
  by-kept kept is last true true spent same = gives kept is
  by-kept kept is (inl same) true false spent other = absurd (false≢true (sym other ∙ (same_number-tells number kept.number).1 (sym same)))
  by-kept kept is (inr earlier) true false spent other = absurd (true≢false (sym spent ∙ rw earlier refl))

  by-row : (o : Option Kept) → machine.kept_for call (in_session machine number state) ≡ o → P (fenced_call machine (in_session machine number state) number call o)
  by-row None is = carries
  by-row (Some kept) is = by-kept kept is (before kept is) (is_spent (Some kept.number) number) (same_number number kept.number) refl refl

  pub answered-so : P (answered_in machine state number call)
  answered-so = rw timely (by-row (machine.kept_for call (in_session machine number state)) refl)

-- ---- names

-- a call by id is for a volume that has its name
has-name : (given : List GivenId) (name : List ℕ) (party : Party) (call : Call) (id : ℕ) → IsOwn given name party call → volume_of call ≡ Some id → HasName given name id
has-name given name party call id has is = grind (arith, HasName, same_Some, own, none-some)

-- the volume of a call's row has the call's name
row-name : (given : List GivenId) (state : ControllerState) → AreGiven given → AreOf state given → (name : List ℕ) (party : Party) (call : Call) (volume : Volume) → IsOwn given name party call
    → is_row_for call volume ≡ true → volume_with_id volume.id state ≡ Some volume → volume.name ≡ name
row-name given state are of name party call volume own row found = grind (arith, same_text-tells, own, id-named, HasName, eqb-true)

-- ---- what an open call is answered

-- a body has the status of a late call
abbrev pub is_late : Body → Bool
is_late (bodies.Call call) = false
is_late (bodies.Reply kind reply) = is_aborted reply.status

-- no frame, or one whose body hasn't
abbrev pub IsPlainReply : Option Frame → Type 0
IsPlainReply None = Unit {0}
IsPlainReply (Some frame) = is_late frame.body ≡ false

-- an answer's
abbrev pub AnswersPlain : {State : Type 0} → Fenced State → Type 0
AnswersPlain fenced = IsPlainReply fenced.reply

-- a plugin that isn't asked answers nothing
pub parts-plain : {State : Type 0} (machine : Machine State) (state : State) (number : Number) (party : Party) (call : Call) → AnswersPlain (answered_in machine state number call)
    → AnswersPlain (fenced_parts machine state number party (bodies.Call call))
parts-plain machine state number party call plain = grind arith

-- a session that isn't later than a number's leaves it
not-over : (session : ℕ) (number : Number) → session ≤ number.session → is_over session number ≡ false
not-over session number h = le-ltb number.session session h

-- what is found has what it has
found-kept : {X : Type 0} (kept_of : X → Kept) (o : Option X) (kept : Kept) → option_map kept_of o ≡ Some kept → (x : X) × (o ≡ Some x) × (kept_of x ≡ kept)
found-kept kept_of None kept is = absurd (none-some kept is)
found-kept kept_of (Some x) kept is = (x, refl, same_Some (kept_of x) kept is)

-- what is so of a call that is open: no plugin heard of a later session, and each call of its name is it, or came before it
pub record IsNewest (issued : List Issued) (one : Issued) : Type 0 where
  pub among : IsAmong one issued
  pub last : (other : Issued) → IsAmong other issued → other.name ≡ one.name → (other ≡ one) ⊎ IsBefore other.number one.number

-- so what is kept of another call of its name is of its number, or of one before
kept-before : (issued : List Issued) (one : Issued) → IsNewest issued one → (Such : Call → Type 0) (number : Number) → (is : IsCalled issued Such number) → is.call.name ≡ one.name
    → (number ≡ one.number) ⊎ IsBefore number one.number
kept-before issued one newest Such number is named =
    ⊎_elim (λ e. inl (sym is.has_number ∙ ap (λ (i : Issued). i.number) e)) (λ before. inr (subst (λ n. IsBefore n one.number) is.has_number before)) (newest.last is.call is.among named)

-- an open call to a controller is answered otherwise
module _ (config : Config) (given : List GivenId) (issued : List Issued) (state : ControllerState) (one : Issued) (are : AreGiven given) (of : AreOf state given) (orderly : IsOrderly state)
    (keeps : ControllerKeeps issued state) (newest : IsNewest issued one) (owned : (call : Issued) → IsAmong call issued → IsOwn given call.name call.party call.call) (heard : state.session ≤ one.number.session) where
  abbrev now : ControllerState
  now = in_session (controllers.controller_with config) one.number state

  there : (volume : Volume) → IsAmong volume now.volumes → IsAmong volume state.volumes
  there volume = by (begins state.session one.number)
    where
      by : (b : Bool) → IsAmong volume (cond b (controllers.begun one.number.session state) state).volumes → IsAmong volume state.volumes
      by true among = among-filter (λ (v : Volume). v.is_live) state.volumes volume among
      by false among = among

  named : (call : Issued) → IsAmong call issued → (volume : Volume) → IsAmong volume state.volumes → is_row_for call.call volume ≡ true → volume.name ≡ call.name
  named call among volume here row =
      row-name given state are of call.name call.party call.call volume (owned call among) row (is_with_id state volume.id volume orderly here (eq-eqb volume.id volume.id refl))

  pub controller-answers : AnswersPlain (answered_in (controllers.controller_with config) state one.number one.call)
  controller-answers =
      answered-so (controllers.controller_with config) state one.number one.call AnswersPlain (not-over state.session one.number heard) (controller-plain config now one.call)
      (λ kept is.
      let row = found-kept (λ (v : Volume). v.kept) (row_for one.call now) kept is in
      ap (λ (k : Kept). is_aborted k.reply.status) (sym row.2) ∙ keeps.plain row.0 (there row.0 (among-find (is_row_for one.call) now.volumes row.0 row.1)))
      (λ kept is.
      let row = found-kept (λ (v : Volume). v.kept) (row_for one.call now) kept is in
      let here = there row.0 (among-find (is_row_for one.call) now.volumes row.0 row.1) in
      let its = keeps.of row.0 here in
      subst (λ (k : Kept). (k.number ≡ one.number) ⊎ IsBefore k.number one.number) row.2
      (kept-before issued one newest (λ call. is_row_for call row.0 ≡ true) (row.0).kept.number its
      (sym (named its.call its.among row.0 here its.such) ∙ named one newest.among row.0 here (find-passes (is_row_for one.call) now.volumes row.0 row.1))))

-- so is one to a node
module _ (node : List ℕ) (given : List GivenId) (issued : List Issued) (state : NodeState) (one : Issued) (are : AreGiven given)
    (keeps : NodeKeeps issued state) (newest : IsNewest issued one) (owned : (call : Issued) → IsAmong call issued → IsOwn given call.name call.party call.call) (heard : state.session ≤ one.number.session) where
  abbrev node-now : NodeState
  node-now = in_session (nodes.node_at node) one.number state

  node-there : (row : AnsweredVolume) → IsAmong row node-now.rows → IsAmong row state.rows
  node-there row = by (begins state.session one.number)
    where
      by : (b : Bool) → IsAmong row (cond b (nodes.begun one.number.session state) state).rows → IsAmong row state.rows
      by true among = among-filter (λ (r : AnsweredVolume). is_some (staged_of r.id state)) state.rows row among
      by false among = among

  -- the row of the call, if one is found
  record HasRow (kept : Kept) : Type 0 where
    row : AnsweredVolume
    here : IsAmong row state.rows
    own_row : volume_of one.call ≡ Some row.id
    is : row.kept ≡ kept

  has-row : (kept : Kept) → nodes.kept_for one.call node-now ≡ Some kept → HasRow kept
  has-row kept is = by (volume_of one.call) refl is
    where
      by : (o : Option ℕ) → volume_of one.call ≡ o → option_map (λ (r : AnsweredVolume). r.kept) (row_of_volume o node-now) ≡ Some kept → HasRow kept
      by None of-call is = absurd (none-some kept is)
      by (Some id) of-call is =
          let row = found-kept (λ (r : AnsweredVolume). r.kept) (row_with_id id node-now) kept is in
          record {
            row = row.0;
            here = node-there row.0 (among-find (λ (r : AnsweredVolume). r.id == id) node-now.rows row.0 row.1);
            own_row = of-call ∙ ap Some (sym (eqb-true (row.0).id id (find-passes (λ (r : AnsweredVolume). r.id == id) node-now.rows row.0 row.1)));
            is = row.2;
          }

  pub node-answers : AnswersPlain (answered_in (nodes.node_at node) state one.number one.call)
  node-answers =
      answered-so (nodes.node_at node) state one.number one.call AnswersPlain (not-over state.session one.number heard) (carries (node_table.has_no_room node-now one.call))
      (λ kept is. let row = has-row kept is in ap (λ (k : Kept). is_aborted k.reply.status) (sym row.is) ∙ keeps.plain row.row row.here)
      (λ kept is.
      let row = has-row kept is in
      let its = keeps.of row.row row.here in
      subst (λ (k : Kept). (k.number ≡ one.number) ⊎ IsBefore k.number one.number) row.is
      (kept-before issued one newest (λ call. volume_of call ≡ Some row.row.id) row.row.kept.number its
      (are.one_name its.call.name one.name row.row.id
      (has-name given its.call.name its.call.party its.call.call row.row.id (owned its.call its.among) its.such)
      (has-name given one.name one.party one.call row.row.id (owned one newest.among) row.own_row))))
    where
      outcome : node_table.Outcome
      outcome = node_table.node_row node-now one.call

      answer : Frame
      answer = reply_frame one.number (Node node) (kind_of one.call) outcome.reply

      carries : (b : Bool)
          → AnswersPlain
          (cond b (let f : Fenced NodeState = record { reply = Some answer; state = node-now } in f)
          (let f : Fenced NodeState = record { reply = Some answer; state = nodes.keep (volume_of one.call) (record { number = one.number; kind = kind_of one.call; reply = outcome.reply }) (node_table.changed node-now outcome.change) } in f))
      carries true = node-plain node-now one.call
      carries false = node-plain node-now one.call

-- an answer is to the call's number
abbrev pub IsNumbered : Number → Option Frame → Type 0
IsNumbered number None = Unit {0}
IsNumbered number (Some frame) = frame.number ≡ number

-- whichever it is
pub answer-numbered : {State : Type 0} (machine : Machine State) (state : State) (number : Number) (party : Party) (call : Call)
    → ((now : State) → IsNumbered number (machine.carried_out now number call).reply) → IsNumbered number (fenced_parts machine state number party (bodies.Call call)).reply
answer-numbered {State} machine state number party call carries = grind (arith, Judgement, was_over, was_fresh, was_repeated, was_stale, was_judged)

-- the answer of a node's table is
pub node-numbered : (node : List ℕ) (number : Number) (call : Call) (now : NodeState) → IsNumbered number ((nodes.node_at node).carried_out now number call).reply
node-numbered node number call now = grind arith
