-- What an orchestrator is asked, and a handle, from what was read of what C handed over.
use Rattle.std.proofs.Common.{◌≡◌, ℕ, List, Option, Some, None, Result, Ok, Err, IfOk, IfErr, refl, sym, ap, subst, ◌∙◌, inl, inr, ◌⊎◌}
use Rattle.std.proofs.lemmas.Result.{on_ok_weaker, on_err_weaker}
use Rattle.csi_types.specs.Model.Frame.{Frame}
use Rattle.csi_frames.specs.declared.fault.FaultKind.{FaultKind}
use Rattle.csi_frames.specs.declared.fault.FaultKind.TheVariants as faults
use Rattle.csi_frames.specs.declared.fault.FrameFault.{FrameFault}
use Rattle.csi_frames.specs.Public.Decoding.{no_memory}
use Rattle.csi_frames.specs.Public.Fault.{IsFaulty}
use Rattle.csi_frames.specs.Public.Spelling.{BeginsWith}
use Rattle.csi_frames.proofs.NeverShort.{waiting}
use Rattle.csi_orchestrator.specs.declared.fault.Heard.{Heard}
use Rattle.csi_orchestrator.specs.declared.fault.OrchFault.{OrchFault}
use Rattle.csi_orchestrator.specs.declared.thing.Thing.{Thing}
use Rattle.csi_orchestrator.specs.Model.Moves.{Input, Answer, Sends, Hears, Comes}
use Rattle.csi_stores.specs.Public.Content.{all_changed}
use Rattle.csi_embedded.specs.declared.command.Command.{Command}
use Rattle.csi_embedded.specs.declared.ending.CallEnding.{CallEnding}
use Rattle.csi_embedded.specs.declared.ending.CallEnding.TheVariants.{NoMemory, Empty, BadName, Short}
use Rattle.csi_embedded.specs.declared.embedded.Embedded.{Embedded}
use Rattle.csi_embedded.specs.declared.plugin.HeldPlugin.{HeldPlugin}
use Rattle.csi_embedded.specs.declared.plugin.HeldPlugin.TheVariants.{Controller, Node, Orchestrator}
use Rattle.csi_embedded.specs.Public.Plugins.{plugin_parts, IsAsItWas, IsTimelyTo}
use Rattle.csi_embedded.specs.Public.Calls.{frame_front, told_changes, IsNoFrame, Remains}
use Rattle.csi_embedded.specs.Public.Asking.{command_input, Carries, HasNone, EndsAsked, EndsHeard, AsksOne, HearsOne, HandleAsks, HasAsked, HasHeard}
use Rattle.csi_embedded.specs.Public.Knowing.{TellsThing, HandleTellsThing, HasKnown, HasGoal, HasVolume}
use Rattle.csi_embedded.specs.Private.Asking.{HearsFrame, HandleAsksRead, GivesAsked}
use Rattle.csi_embedded.specs.Private.Knowing.{HandleTellsRead, GivesKnown}

-- ---- an empty handle

-- an empty handle is asked nothing
pub empty-asked : (command : Result Command CallEnding) (old new : Option Embedded) (room count : ℕ) (bytes : List ℕ) (fault number : ℕ) → None ≡ old → new ≡ None → number ≡ 2
    → GivesAsked command old new room count bytes fault number
empty-asked command old new room count bytes fault number empty none is =
    subst (λ (o : Option Embedded). GivesAsked command o new room count bytes fault number) empty
    (subst (λ (n : Option Embedded). GivesAsked command None n room count bytes fault number) (sym none) (record { ending = Empty; is = is; asks = refl }))

-- it hears no frame
pub empty-heard : (came : List ℕ) (old new : Option Embedded) (used room count : ℕ) (bytes : List ℕ) (fault number : ℕ) → None ≡ old → new ≡ None → number ≡ 2
    → HasHeard came old used new room count bytes fault number
empty-heard came old new used room count bytes fault number empty none is =
    subst (λ (o : Option Embedded). HasHeard came o used new room count bytes fault number) empty
    (subst (λ (n : Option Embedded). HasHeard came None used n room count bytes fault number) (sym none) (record { ending = Empty; is = is; hears = refl }))

-- it knows nothing
pub empty-known : (thing : Result Thing CallEnding) (old : Option Embedded) (known number : ℕ) → None ≡ old → number ≡ 2 → GivesKnown thing old known number
empty-known thing old known number empty is = subst (λ (o : Option Embedded). GivesKnown thing o known number) empty (record { ending = Empty; is = is; tells = refl })

-- it wants nothing
pub empty-goal : (name : List ℕ) (old : Option Embedded) (room count : ℕ) (bytes : List ℕ) (number : ℕ) → None ≡ old → number ≡ 2 → HasGoal name old room count bytes number
empty-goal name old room count bytes number empty is = subst (λ (o : Option Embedded). HasGoal name o room count bytes number) empty (record { ending = Empty; is = is; tells = refl })

-- it has no volumes
pub empty-volume : (place : ℕ) (old : Option Embedded) (room count : ℕ) (bytes : List ℕ) (number : ℕ) → None ≡ old → number ≡ 2 → HasVolume place old room count bytes number
empty-volume place old room count bytes number empty is = subst (λ (o : Option Embedded). HasVolume place o room count bytes number) empty (record { ending = Empty; is = is; tells = refl })

-- ---- no frame

-- bytes at fault with Short wait for more of a frame
pub short-frame : (bytes : List ℕ) (fault : FrameFault) → (IsFaulty bytes fault.kind fault.place ⊎ (fault ≡ no_memory)) → fault.kind ≡ faults.Short → IsNoFrame bytes Short
short-frame bytes fault (inl faulty) is =
    let at = (waiting bytes fault.kind fault.place faulty is).1 in
    subst (λ (n : ℕ). IsFaulty bytes faults.Short n) at (subst (λ (k : FaultKind). IsFaulty bytes k fault.place) is faulty)
short-frame bytes fault (inr wants) is = absurd (differs (sym (ap (λ (f : FrameFault). f.kind) wants) ∙ is))
  where
    differs : faults.NoMemory ≡ faults.Short → ⊥
    differs e = cc

-- ---- what stays

-- all is as it was where nothing was done
pub as-it-was : (plugin : HeldPlugin) → IsAsItWas plugin plugin
as-it-was (Controller service) = record { config = refl; shows = λ state shown. shown; parts = refl; changes = refl }
as-it-was (Node service) = record { shows = λ state shown. shown; parts = refl; changes = refl }
as-it-was (Orchestrator service) = record { orchestrator = refl }

-- so it is where the plugin is the same, and what the store has to be given
pub same-remains : (old new : Embedded) → new.plugin ≡ old.plugin → told_changes new ≡ told_changes old → Remains old new
same-remains old new same told = record { plugin = subst (IsAsItWas old.plugin) (sym same) (as-it-was old.plugin); told = told }

-- ---- an orchestrator that was asked once what the store has to be given was told

-- what it did is done of what was there before that was told
pub carried-on : {A : Type 0} (tells : A → Answer) (input : Input) (first second third : Embedded) (result : Result A OrchFault) → second.plugin ≡ first.plugin → told_changes second ≡ told_changes first
    → Carries tells input second result third → Carries tells input first result third
carried-on tells input first second third result same told c = record {
  before = c.before;
  after = c.after;
  was = sym same ∙ c.was;
  is = c.is;
  answered = c.answered;
  changed = on_ok_weaker result (λ changed. changed ∙ ap (λ (p : HeldPlugin). all_changed (told_changes third) (plugin_parts p)) same) c.changed;
  stays = on_err_weaker result (λ stays. stays ∙ told) c.stays;
}

-- so it was asked
pub was-asked : (input : Input) (first second third : Embedded) (room count : ℕ) (bytes : List ℕ) (fault : ℕ) (ending : CallEnding) (told : Result (Option Frame) OrchFault) → second.plugin ≡ first.plugin
    → told_changes second ≡ told_changes first → Carries Sends input second told third → EndsAsked told count bytes fault ending → AsksOne (λ i. i ≡ input) first third room count bytes fault ending
was-asked input first second third room count bytes fault ending told same changes carried ends =
    inl (record { input = input; such = refl; told = told; carried = carried-on Sends input first second third told same changes carried; ends = ends })

-- so it heard a frame
pub was-heard : (came : Frame) (first second third : Embedded) (count : ℕ) (bytes : List ℕ) (fault : ℕ) (ending : CallEnding) (told : Result Heard OrchFault) → IsTimelyTo came first.plugin → second.plugin ≡ first.plugin
    → told_changes second ≡ told_changes first → Carries Hears (Comes came) second told third → EndsHeard told count bytes fault ending → HearsFrame came first third count bytes fault ending
was-heard came first second third count bytes fault ending told timely same changes carried ends =
    inl (record { timely = timely; told = told; carried = carried-on Hears (Comes came) first second third told same changes carried; ends = ends })

-- a frame that the bytes begin with came
pub heard-front : (old : Embedded) (came : List ℕ) (frame : Frame) (used : ℕ) (new : Embedded) (room count : ℕ) (bytes : List ℕ) (fault : ℕ) (ending : CallEnding) → BeginsWith (frame_front came) frame used
    → HearsFrame frame old new count bytes fault ending → HearsOne old came used new room count bytes fault ending
heard-front old came frame used new room count bytes fault ending begins (inl h) = inl (record { frame = frame; begins = begins; timely = h.timely; told = h.told; carried = h.carried; ends = h.ends })
heard-front old came frame used new room count bytes fault ending begins (inr (inl none, remains)) = inr (inl (inr (inr (subst (IsNoFrame (frame_front came)) (sym none) tt))), remains)
heard-front old came frame used new room count bytes fault ending begins (inr (inr older, remains)) = inr (inr (record { frame = frame; begins = begins; stale = older.1; ends = older.0 }), remains)

-- ---- what was read is what is asked

-- there is one that is this, so the lack of one is out of memory, or none at all
none-of : {X : Type 0} (Is : X → Type 0) (this : X) (ending : CallEnding) → HasNone (λ (it : X). it ≡ this) ending → HasNone Is ending
none-of Is this NoMemory none = tt
none-of Is this BadName none = absurd (none this refl)
none-of Is this _ none = none

-- where a command was read that is so, one that is so was asked
asked-one : (Is : Input → Type 0) (input : Input) (old new : Embedded) (room count : ℕ) (bytes : List ℕ) (fault : ℕ) (ending : CallEnding) → Is input
    → AsksOne (λ i. i ≡ input) old new room count bytes fault ending → AsksOne Is old new room count bytes fault ending
asked-one Is input old new room count bytes fault ending such (inl a) =
    inl (record { input = a.input; such = subst Is (sym a.such) such; told = a.told; carried = a.carried; ends = a.ends })
asked-one Is input old new room count bytes fault ending such (inr (inl few, remains)) = inr (inl few, remains)
asked-one Is input old new room count bytes fault ending such (inr (inr (inl other), remains)) = inr (inr (inl other), remains)
asked-one Is input old new room count bytes fault ending such (inr (inr (inr none), remains)) = inr (inr (inr (none-of Is input ending none)), remains)

-- the same of a handle
handle-asks : (Is : Input → Type 0) (command : Result Command CallEnding) (old new : Option Embedded) (room count : ℕ) (bytes : List ℕ) (fault : ℕ) (ending : CallEnding)
    → IfOk command (λ c. Is (command_input c)) → IfErr command (HasNone Is) → HandleAsksRead command old new room count bytes fault ending → HandleAsks Is old new room count bytes fault ending
handle-asks Is (Ok command) (Some old) (Some new) room count bytes fault ending such none asks = asked-one Is (command_input command) old new room count bytes fault ending such asks
handle-asks Is (Err why) (Some old) (Some new) room count bytes fault ending such none asks =
    inr (inr (inr (subst (HasNone Is) (sym asks.0) none)), subst (Remains old) (sym asks.1) (same-remains old old refl refl))
handle-asks Is (Ok command) None None room count bytes fault ending such none asks = asks
handle-asks Is (Err why) None None room count bytes fault ending such none asks = asks
handle-asks Is (Ok command) (Some old) None room count bytes fault ending such none asks = asks
handle-asks Is (Err why) (Some old) None room count bytes fault ending such none asks = asks
handle-asks Is (Ok command) None (Some new) room count bytes fault ending such none asks = asks
handle-asks Is (Err why) None (Some new) room count bytes fault ending such none asks = asks

-- and its number
pub asked-read : (Is : Input → Type 0) (command : Result Command CallEnding) (old new : Option Embedded) (room count : ℕ) (bytes : List ℕ) (fault number : ℕ) → IfOk command (λ c. Is (command_input c))
    → IfErr command (HasNone Is) → GivesAsked command old new room count bytes fault number → HasAsked Is old new room count bytes fault number
asked-read Is command old new room count bytes fault number such none gives = record {
  ending = gives.ending;
  is = gives.is;
  asks = handle-asks Is command old new room count bytes fault gives.ending such none gives.asks;
}

-- ---- what was read is what is told of

-- where a thing was read that is so, it is told of one that is so
known-one : (Is : Thing → Type 0) (thing : Thing) (embedded : Embedded) (known : ℕ) (ending : CallEnding) → Is thing → TellsThing (λ t. t ≡ thing) embedded known ending → TellsThing Is embedded known ending
known-one Is thing embedded known ending such (inl k) =
    inl (record {
      done = k.done;
      thing = k.thing;
      such = subst Is (sym k.such) such;
      orchestrator = k.orchestrator;
      of_handle = k.of_handle;
      marked = k.marked;
      agrees = k.agrees;
    })
known-one Is thing embedded known ending such (inr (inl other)) = inr (inl other)
known-one Is thing embedded known ending such (inr (inr none)) = inr (inr (none-of Is thing ending none))

-- the same of a handle
handle-tells : (Is : Thing → Type 0) (thing : Result Thing CallEnding) (handle : Option Embedded) (known : ℕ) (ending : CallEnding) → IfOk thing Is → IfErr thing (HasNone Is)
    → HandleTellsRead thing handle known ending → HandleTellsThing Is handle known ending
handle-tells Is (Ok thing) (Some embedded) known ending such none tells = known-one Is thing embedded known ending such tells
handle-tells Is (Err why) (Some embedded) known ending such none tells = inr (inr (subst (HasNone Is) (sym tells) none))
handle-tells Is (Ok thing) None known ending such none tells = tells
handle-tells Is (Err why) None known ending such none tells = tells

-- and its number
pub known-read : (Is : Thing → Type 0) (thing : Result Thing CallEnding) (handle : Option Embedded) (known number : ℕ) → IfOk thing Is → IfErr thing (HasNone Is) → GivesKnown thing handle known number
    → HasKnown Is handle known number
known-read Is thing handle known number such none gives = record { ending = gives.ending; is = gives.is; tells = handle-tells Is thing handle known gives.ending such none gives.tells }
