-- The history of an orchestrator that was made of what its plugins keep: calls that tell what the plugins have, each of them answered OK, numbered
-- after every call that was ever sent.
use Rattle.csi_world.proofs.Words.{arith}
use Rattle.std.proofs.Common.{◌≡◌, ◌⊎◌, ℕ, List, [], ◌∷◌, filter, Bool, true, false, cond, Option, Some, None, option_map, refl, sym, ◌∙◌, ap, subst, inl, inr, ⊎_elim}
use Rattle.std.specs.List.{AllByRecursion}
use Rattle.std.proofs.lemmas.Bool.{false≢true}
use Rattle.csi_types.specs.Model.Members.{IsAmong, EachTwo}
use Rattle.csi_types.proofs.Members.{all_of}
use Rattle.csi_types.specs.declared.call.Call.{Call}
use Rattle.csi_types.specs.declared.call.Call.TheVariants as calls
use Rattle.csi_types.specs.declared.call.Party.{Party}
use Rattle.csi_types.specs.declared.call.Party.TheVariants.{Controller, Node}
use Rattle.csi_types.specs.declared.number.Number.{Number}
use Rattle.csi_types.specs.declared.status.Status.{Status}
use Rattle.csi_types.specs.declared.status.Status.TheVariants.{Ok}
use Rattle.csi_types.specs.Model.Number.{IsBefore}
use Rattle.csi_types.specs.Public.PluginThing.{PluginThing, Exists}
use Rattle.csi_controller.specs.Model.State.{Volume, ControllerState, holding_at}
use Rattle.csi_controller.specs.Public.View.{live_named}
use Rattle.csi_node.specs.Model.State.{NodeState, staged_of, published_at}
use Rattle.csi_orchestrator.specs.Model.Thing.{Issued}
use Rattle.csi_orchestrator.specs.Model.History.{Item, Started, Lost, Forgotten, Sent, Accepted, Closed, Noted, Goal, History, history_after, with_items}
use Rattle.csi_orchestrator.specs.Model.Readings.{since, issued_by, issued_in, id_of, last_in, last_number}
use Rattle.csi_orchestrator.specs.Model.WellFormed.{IsNextNumber}
use Rattle.csi_orchestrator.proofs.FittedRows.{IsIdRight, Grows}
use Rattle.csi_recovery.specs.Public.Recovered.{GivenNode, given_state}
use Rattle.csi_world.proofs.CallThings.{is_making, ComesAfter}
use Rattle.csi_world.proofs.Lifetimes.{ends, from, calls_since, over_in}
use Rattle.csi_world.proofs.CreatesFirst.{IsKnown, CreatesFirst, known-later, heard-known, known-heard, first-noted}
use Rattle.csi_world.proofs.RightWorlds.{then-before}

-- an item that ends nothing and begins no session
abbrev pub IsPlain : Item → Type 0
IsPlain (Started session nodes) = ⊥
IsPlain (Lost node) = ⊥
IsPlain (Forgotten name) = ⊥
IsPlain (Sent issued) = Unit {0}
IsPlain (Accepted number status id) = Unit {0}
IsPlain (Closed number) = Unit {0}
IsPlain (Noted name goal) = Unit {0}

-- ---- what the plugins have

module _ (controller : ControllerState) (given : List GivenNode) where
  -- a live volume of this name and id
  pub record IsVolume (name : List ℕ) (id : ℕ) : Type 0 where
    pub volume : Volume
    pub there : IsAmong volume (filter (λ (v : Volume). v.is_live) controller.volumes)
    pub same_name : volume.name ≡ name
    pub same_id : volume.id ≡ id

  -- the call tells what is so
  abbrev pub Tells : List ℕ → Party → Call → Type 0
  Tells name Controller (calls.CreateVolume create required limit capabilities) = (create ≡ name) × ((id : ℕ) × IsVolume name id)
  Tells name Controller (calls.ControllerPublishVolume id node capability readonly) =
      IsVolume name id × (holding_at id node controller ≡ Some (record { volume = id; node = node; capability = capability; readonly = readonly }))
  Tells name (Node node) (calls.NodeStageVolume id capability) = IsVolume name id × ((state : NodeState) × (given_state given node ≡ Some state) × (staged_of id state ≡ Some capability))
  Tells name (Node node) (calls.NodePublishVolume id target capability readonly) =
      IsVolume name id × ((state : NodeState) × (given_state given node ≡ Some state) × (published_at id target state ≡ Some (record { volume = id; target = target; capability = capability; readonly = readonly })))
  Tells name party call = ⊥

  -- the id of the live volume of a name
  abbrev pub id_named : List ℕ → Option ℕ
  id_named name = option_map (λ (v : Volume). v.id) (live_named name controller)

  -- the id that the success of a call brings
  abbrev pub id_for : Call → Option ℕ
  id_for (calls.CreateVolume name required limit capabilities) = id_named name
  id_for (calls.DeleteVolume id) = None
  id_for (calls.ControllerPublishVolume id node capability readonly) = None
  id_for (calls.ControllerUnpublishVolume id node) = None
  id_for (calls.NodeStageVolume id capability) = None
  id_for (calls.NodeUnstageVolume id) = None
  id_for (calls.NodePublishVolume id target capability readonly) = None
  id_for (calls.NodeUnpublishVolume id target) = None

  -- such a call, and the id that its success brings
  abbrev pub FitsSo : List ℕ → Party → Call → Option ℕ → Type 0
  FitsSo name party call id = Tells name party call × (id ≡ id_for call)

  -- what was heard: a success of a call that was sent
  pub record IsHeardOf (issued : List Issued) (number : Number) (status : Status) (id : Option ℕ) : Type 0 where
    pub call : Issued
    pub among : IsAmong call issued
    pub has_number : call.number ≡ number
    pub has_status : status ≡ Ok
    pub has_id : id ≡ id_for call.call

  module _ (start : Number) where
    -- a history of such calls alone, numbered after this number, in its session
    pub record IsTrail (history : History) : Type 0 where
      pub plain : AllByRecursion IsPlain history.items
      pub told : (call : Issued) → IsAmong call (issued_in history.items) → Tells call.name call.party call.call
      pub after : (call : Issued) → IsAmong call (issued_in history.items) → IsBefore start call.number × (start.session ≡ call.number.session)
      pub upto : (call : Issued) → IsAmong call (issued_in history.items) → (call.number ≡ last_number history) ⊎ IsBefore call.number (last_number history)
      pub last : (start ≡ last_number history) ⊎ IsBefore start (last_number history)
      pub session : start.session ≡ (last_number history).session
      pub numbers : EachTwo ComesAfter (issued_in history.items)
      pub creates : CreatesFirst history.items
      pub heard : (number : Number) (status : Status) (id : Option ℕ) → IsAmong (Accepted number status id) history.items → IsHeardOf (issued_in history.items) number status id

    -- at first there are no calls
    pub first-trail : (nodes : List (List ℕ)) → IsTrail (history_after nodes start)
    first-trail nodes =
        record {
          plain = tt;
          told = λ call among. absurd among;
          after = λ call among. absurd among;
          upto = λ call among. absurd among;
          last = inl refl;
          session = refl;
          numbers = tt;
          creates = record { known = λ call among not_making. absurd among; first = λ create other there too. absurd there };
          heard = λ number status id among. absurd among;
        }

    -- an item that sends nothing, and is no reply
    quiet-trail : (history : History) (item : Item) → IsPlain item → issued_by item ≡ None → last_number (with_items history (item ∷ [])) ≡ last_number history
        → ((name : List ℕ) → ends (Exists name) item ≡ false)
        → ((number : Number) (status : Status) (id : Option ℕ) → Accepted number status id ≡ item → IsHeardOf (issued_in history.items) number status id) → IsTrail history → IsTrail (with_items history (item ∷ []))
    quiet-trail history item plain silent last stays reply trail =
        record {
          plain = (plain, trail.plain);
          told = λ call among. trail.told call (back call among);
          after = λ call among. trail.after call (back call among);
          upto = λ call among. subst (λ n. (call.number ≡ n) ⊎ IsBefore call.number n) (sym last) (trail.upto call (back call among));
          last = subst (λ n. (start ≡ n) ⊎ IsBefore start n) (sym last) trail.last;
          session = trail.session ∙ ap (λ (n : Number). n.session) (sym last);
          numbers = subst (EachTwo ComesAfter) (sym same) trail.numbers;
          creates = first-noted history.items item same (λ name. inr (left name)) trail.creates;
          heard = λ number status id among.
              subst (λ (list : List Issued). IsHeardOf list number status id) (sym same) (⊎_elim (reply number status id) (trail.heard number status id) among);
        }
      where
        silent-in : (items : List Item) → issued_in (item ∷ items) ≡ issued_in items
        silent-in items = rw silent refl

        same : issued_in (item ∷ history.items) ≡ issued_in history.items
        same = silent-in history.items

        back : (call : Issued) → IsAmong call (issued_in (item ∷ history.items)) → IsAmong call (issued_in history.items)
        back call among = subst (IsAmong call) same among

        left : (name : List ℕ) → calls_since (Exists name) (item ∷ history.items) ≡ calls_since (Exists name) history.items
        left name = ap (λ b. issued_in (cond b [] (item ∷ since (ends (Exists name)) history.items))) (stays name) ∙ silent-in (since (ends (Exists name)) history.items)

    -- it grows by each call that tells what is so
    pub trail-grows : Grows IsTrail FitsSo
    trail-grows =
        record {
          noted = λ history name goal trail. quiet-trail history (Noted name goal) tt refl refl (λ n. refl) (λ number status id e. absurd (noted-clash number status id name goal e)) trail;
          closed = λ history number trail. quiet-trail history (Closed number) tt refl refl (λ n. refl) (λ n status id e. absurd (closed-clash n status id number e)) trail;
          accepted = λ history issued id fits among trail.
              quiet-trail history (Accepted issued.number Ok id) tt refl refl (λ n. refl)
              (λ number status other e. record { call = issued; among = among; has_number = sym (number-of number status other issued.number id e); has_status = status-of number status other issued.number id e; has_id = id-in number status other issued.number id e ∙ fits.1 })
              trail;
          sent = sent;
        }
      where
        noted-clash : (number : Number) (status : Status) (id : Option ℕ) (name : List ℕ) (goal : Option Goal) → Accepted number status id ≡ Noted name goal → ⊥
        noted-clash number status id name goal e = cc

        closed-clash : (number : Number) (status : Status) (id : Option ℕ) (other : Number) → Accepted number status id ≡ Closed other → ⊥
        closed-clash number status id other e = cc

        number-of : (number : Number) (status : Status) (id : Option ℕ) (n : Number) (i : Option ℕ) → Accepted number status id ≡ Accepted n Ok i → number ≡ n
        number-of number status id n i e = cc

        status-of : (number : Number) (status : Status) (id : Option ℕ) (n : Number) (i : Option ℕ) → Accepted number status id ≡ Accepted n Ok i → status ≡ Ok
        status-of number status id n i e = cc

        id-in : (number : Number) (status : Status) (id : Option ℕ) (n : Number) (i : Option ℕ) → Accepted number status id ≡ Accepted n Ok i → id ≡ i
        id-in number status id n i e = cc

        sent : (history : History) (issued : Issued) (id : Option ℕ) → FitsSo issued.name issued.party issued.call id → IsNextNumber (last_number history) issued.number → IsIdRight history issued.name issued.call → IsTrail history
            → IsTrail (with_items history (Sent issued ∷ []))
        sent history issued id fits next right trail =
            record {
              plain = (tt, trail.plain);
              told = λ call among. ⊎_elim (λ e. subst (λ (x : Issued). Tells x.name x.party x.call) (sym e) fits.0) (trail.told call) among;
              after = λ call among. ⊎_elim (λ e. subst (λ (x : Issued). IsBefore start x.number × (start.session ≡ x.number.session)) (sym e) (behind, trail.session ∙ next.same_session)) (trail.after call) among;
              upto = λ call among. ⊎_elim (λ e. inl (ap (λ (x : Issued). x.number) e)) (λ there. inr (earlier call there)) among;
              last = inr behind;
              session = trail.session ∙ next.same_session;
              numbers = (all_of (ComesAfter issued) (issued_in history.items) earlier, trail.numbers);
              creates = record { known = known; first = first };
              heard = λ number status i among. more number status i (⊎_elim (λ e. absurd (sent-clash number status i e)) (trail.heard number status i) among);
            }
          where
            sent-clash : (number : Number) (status : Status) (i : Option ℕ) → Accepted number status i ≡ Sent issued → ⊥
            sent-clash number status i e = cc

            behind : IsBefore start issued.number
            behind = ⊎_elim (λ e. subst (λ n. IsBefore n issued.number) (sym e) next.later) (λ before. then-before start (last_number history) issued.number before next.later) trail.last

            earlier : (call : Issued) → IsAmong call (issued_in history.items) → IsBefore call.number issued.number
            earlier call there = ⊎_elim (λ e. subst (λ n. IsBefore n issued.number) (sym e) next.later) (λ before. then-before call.number (last_number history) issued.number before next.later) (trail.upto call there)

            more : (number : Number) (status : Status) (i : Option ℕ) → IsHeardOf (issued_in history.items) number status i → IsHeardOf (issued ∷ issued_in history.items) number status i
            more number status i of = record { call = of.call; among = inr of.among; has_number = of.has_number; has_status = of.has_status; has_id = of.has_id }

            longer : (name : List ℕ) → IsKnown history.items name → IsKnown (Sent issued ∷ history.items) name
            longer name k = known-later history.items (Sent issued ∷ history.items) name (λ c there. inr there) (λ item there. inr there) k

            -- before a call that makes no volume an id was heard
            heard-before : (call : Call) → IsIdRight history issued.name call → is_making call ≡ false → (i : ℕ) × (id_of history issued.name ≡ Some i)
            heard-before (calls.CreateVolume create required limit capabilities) r making = absurd (false≢true (sym making))
            heard-before (calls.DeleteVolume i) r making = r
            heard-before (calls.ControllerPublishVolume i node capability readonly) r making = r
            heard-before (calls.ControllerUnpublishVolume i node) r making = r
            heard-before (calls.NodeStageVolume i capability) r making = r
            heard-before (calls.NodeUnstageVolume i) r making = r
            heard-before (calls.NodePublishVolume i target capability readonly) r making = r
            heard-before (calls.NodeUnpublishVolume i target) r making = r

            -- before one that makes one none was
            none-before : (call : Call) → IsIdRight history issued.name call → is_making call ≡ true → id_of history issued.name ≡ None
            none-before (calls.CreateVolume create required limit capabilities) r making = r
            none-before call r making = absurd (false≢true making)

            known : (other : Issued) → IsAmong other (issued ∷ calls_since (Exists other.name) history.items) → is_making other.call ≡ false → IsKnown (Sent issued ∷ history.items) other.name
            known other (inl e) not_making =
                let i = heard-before issued.call right (ap (λ (x : Issued). is_making x.call) (sym e) ∙ not_making) in
                longer other.name (subst (IsKnown history.items) (ap (λ (x : Issued). x.name) (sym e)) (heard-known history issued.name i.0 i.1))
            known other (inr there) not_making = longer other.name ((trail.creates).known other there not_making)

            first : (create other : Issued) → IsAmong create (issued ∷ issued_in history.items) → IsAmong other (issued ∷ calls_since (Exists other.name) history.items) → create.name ≡ other.name
                → is_making create.call ≡ true → is_making other.call ≡ false → IsBefore create.number other.number
            first create other (inl e) (inl f) named making not_making = absurd (false≢true (sym not_making ∙ ap (λ (x : Issued). is_making x.call) (f ∙ sym e) ∙ making))
            first create other (inl e) (inr there) named making not_making =
                let none = none-before issued.call right (ap (λ (x : Issued). is_making x.call) (sym e) ∙ making) in
                let was = (trail.creates).known other there not_making in
                absurd (known-heard history issued.name (subst (IsKnown history.items) (sym named ∙ ap (λ (x : Issued). x.name) e) was) none)
            first create other (inr there) (inl f) named making not_making = subst (λ (x : Issued). IsBefore create.number x.number) (sym f) (earlier create there)
            first create other (inr there) (inr too) named making not_making = (trail.creates).first create other there too named making not_making

-- ---- of such items nothing ends a thing

-- where no item ends a thing, all calls came since
pub plain-since : (is : Item → Bool) → ((item : Item) → IsPlain item → is item ≡ false) → (items : List Item) → AllByRecursion IsPlain items → since is items ≡ items
plain-since is none [] plain = refl
plain-since is none (item ∷ older) plain = ap (λ b. cond b [] (item ∷ since is older)) (none item plain.0) ∙ ap (λ (xs : List Item). item ∷ xs) (plain-since is none older plain.1)

-- none before
pub plain-from : (is : Item → Bool) → ((item : Item) → IsPlain item → is item ≡ false) → (items : List Item) → AllByRecursion IsPlain items → from is items ≡ []
plain-from is none [] plain = refl
plain-from is none (item ∷ older) plain = ap (λ b. cond b (item ∷ older) (from is older)) (none item plain.0) ∙ plain-from is none older plain.1

-- no such item ends a thing
pub plain-ends : (thing : PluginThing) (item : Item) → IsPlain item → ends thing item ≡ false
plain-ends thing item plain = grind arith

-- and it never ended
pub plain-over : (began : Number) (thing : PluginThing) (items : List Item) → AllByRecursion IsPlain items → over_in began items thing ≡ 0
plain-over began thing [] plain = refl
plain-over began thing (item ∷ older) plain = ap (λ b. cond b (last_in began older).session (over_in began older thing)) (plain-ends thing item plain.0) ∙ plain-over began thing older plain.1
