-- An orchestrator that is made of what handles have, from what is made of their records.
use Rattle.std.proofs.Common.{◌≡◌, ◌∙◌, ◌<◌, ◌≤◌, ◌+◌, ◌^◌, ℕ, Bool, true, false, cond, not, ◌&&◌, nat_lt, List, [], ◌∷◌, refl, sym, ap, subst, inl, inr, arith}
use Rattle.std.specs.Prelude.{Option, Some, None, is_none}
use Rattle.std.specs.List.{list_any}
use Rattle.std.proofs.lemmas.Bool.{true≢false, ltb-false}
use Rattle.csi_types.proofs.Options.{some_is_not_none}
use Rattle.csi_types.proofs.Tests.{then-any, any-none}
use Rattle.csi_types.specs.Model.Same.{same_text}
use Rattle.csi_types.proofs.Equality.{same_text-tells}
use Rattle.csi_controller.specs.Model.State.{ControllerState}
use Rattle.csi_controller.specs.Public.Views.{RecordParts}
use Rattle.csi_node.specs.Model.Record.{NodeParts}
use Rattle.csi_orchestrator.specs.declared.fault.OrchFault.{OrchFault}
use Rattle.csi_orchestrator.specs.declared.fault.OrchFault.TheVariants as refusals
use Rattle.csi_orchestrator.specs.Model.Shown.{RowShown}
use Rattle.csi_orchestrator.specs.Public.Beginning.{is_used_in, leaves_out_used, restart_refusal}
use Rattle.csi_orchestrator.specs.Public.Laws.{opened_parts}
use Rattle.csi_orchestrator.specs.Public.Record.{RecordParts as OrchestratorKept, AreNodesFit}
use Rattle.csi_recovery.specs.declared.fault.RecoveryFault.{RecoveryFault}
use Rattle.csi_recovery.specs.declared.fault.RecoveryFault.TheVariants as faults
use Rattle.csi_recovery.proofs.OpenedAgain.{opened-next}
use Rattle.csi_recovery.specs.Public.Judged.{IsKeptOf, IsGiven, AreGiven, record_of, IsRecoveryRefusal}
use Rattle.csi_recovery.specs.Public.Recovered.{GivenNode, recovered, recovered_rows, MayRecover}
use Rattle.csi_service.specs.Public.OrchestratorOpening.{opening_refusal}
use Rattle.csi_embedded.specs.declared.ending.CallEnding.{CallEnding}
use Rattle.csi_embedded.specs.declared.ending.CallEnding.TheVariants.{NoMemory, Empty, BadName, Refused, OtherKind, SameNode, NotLater, Disagrees, BadRow}
use Rattle.csi_embedded.specs.declared.embedded.Embedded.{Embedded}
use Rattle.csi_embedded.specs.declared.plugin.HeldPlugin.{HeldPlugin}
use Rattle.csi_embedded.specs.declared.plugin.HeldPlugin.TheVariants.{Controller, Node, Orchestrator}
use Rattle.csi_embedded.specs.Public.OrchestratorMaking.{AreNodesOf, IsNoNodes}
use Rattle.csi_embedded.specs.Public.Raising.{HasRaised}
use Rattle.csi_embedded.specs.Public.Recovering.{is_controller, ShowsController, ShowsNode, HasController, HasNode, HaveNodes, OfThese, TellsSession, IsRecovered, IsNotRecovered}
use Rattle.csi_embedded.specs.Private.Recovering.{IsControllerRecord, IsNodeRecord, HasRecord, HasNoRecord, HaveRecords, HaveNoRecords, OfRecords, IsMadeOf, IsUnmadeOf, EndsUnrecovered, IsOpenedNew, IsNotOpenedNew}

-- ---- what is so of the records is so of what the handles have

-- the controller's record is of each state that its handle has
controller-kept : (handle : Option Embedded) (kept : RecordParts) (state : ControllerState) → HasRecord IsControllerRecord handle kept → HasController handle state → IsKeptOf kept state
controller-kept None kept state has shows = absurd has
controller-kept (Some embedded) kept state has shows = by embedded.plugin has shows
  where
    by : (plugin : HeldPlugin) → IsControllerRecord plugin kept → ShowsController plugin state → IsKeptOf kept state
    by (Controller service) of shows = of state shows
    by (Node service) of shows = absurd of
    by (Orchestrator service) of shows = absurd of

-- a node's record is of the node that its handle has
node-given : (handle : Option Embedded) (kept : NodeParts) (node : GivenNode) → HasRecord IsNodeRecord handle kept → HasNode handle node → IsGiven kept node
node-given None kept node has shows = absurd has
node-given (Some embedded) kept node has shows = by embedded.plugin has shows
  where
    by : (plugin : HeldPlugin) → IsNodeRecord plugin kept → ShowsNode plugin node → IsGiven kept node
    by (Controller service) of shows = absurd of
    by (Node service) of shows = record { id = shows.0 ∙ sym of.0; shows = of.1 node.state shows.1 }
    by (Orchestrator service) of shows = absurd of

-- so are those of all
nodes-given : (handles : List (Option Embedded)) (given : List NodeParts) (known : List GivenNode) → HaveRecords handles given → HaveNodes handles known → AreGiven given known
nodes-given [] [] [] have are = tt
nodes-given [] [] (node ∷ nodes) have are = absurd are
nodes-given [] (kept ∷ others) known have are = absurd have
nodes-given (handle ∷ handles) [] known have are = absurd have
nodes-given (handle ∷ handles) (kept ∷ others) [] have are = absurd are
nodes-given (handle ∷ handles) (kept ∷ others) (node ∷ nodes) have are = (node-given handle kept node have.0 are.0, nodes-given handles others nodes have.1 are.1)

-- so what holds of the records' states holds of the handles'
pub of-these : (controller : Option Embedded) (nodes : List (Option Embedded)) (kept : RecordParts) (given : List NodeParts) (Is : ControllerState → List GivenNode → Type 0)
    → HasRecord IsControllerRecord controller kept → HaveRecords nodes given → OfRecords kept given Is → OfThese controller nodes Is
of-these controller nodes kept given Is has have of = λ state known shows are. of state known (controller-kept controller kept state has shows) (nodes-given nodes given known have are)

-- ---- nothing

-- in an empty handle no session is raised
pub empty-raised : (session : ℕ) (old new : Option Embedded) (number : ℕ) → None ≡ old → new ≡ None → number ≡ 2 → HasRaised session old new number
empty-raised session old new number empty none is =
    subst (λ (o : Option Embedded). HasRaised session o new number) empty
    (subst (λ (n : Option Embedded). HasRaised session None n number) (sym none) (record { ending = Empty; is = is; raises = refl }))

-- ---- no record

-- a session isn't told without the controller's
pub no-controller-told : (known : ℕ) (controller : Option Embedded) (nodes : List (Option Embedded)) (session : ℕ) (ending : CallEnding) → HasNoRecord is_controller controller ending
    → TellsSession known controller nodes session ending
no-controller-told known None nodes session ending none = subst (TellsSession known None nodes session) (sym none) (inl refl)
no-controller-told known (Some embedded) nodes session NoMemory none = tt
no-controller-told known (Some embedded) nodes session OtherKind none = (embedded, inl (refl, none))
no-controller-told known (Some embedded) nodes session _ none = absurd none

-- nor without the nodes'
pub no-nodes-told : (known : ℕ) (controller : Option Embedded) (nodes : List (Option Embedded)) (session : ℕ) (ending : CallEnding) → HaveNoRecords nodes ending
    → TellsSession known controller nodes session ending
no-nodes-told known controller nodes session NoMemory none = tt
no-nodes-told known controller nodes session Empty none = inr none
no-nodes-told known controller nodes session OtherKind none = (none.0, inr (none.1, none.2))
no-nodes-told known controller nodes session _ none = absurd none

-- nothing is recovered without the controller's
pub no-controller-recovered : (text : List ℕ) (session : ℕ) (controller : Option Embedded) (nodes : List (Option Embedded)) (place : ℕ) (ending : CallEnding)
    → HasNoRecord is_controller controller ending → IsNotRecovered text session controller nodes place ending
no-controller-recovered text session None nodes place ending none = subst (IsNotRecovered text session None nodes place) (sym none) (inl refl)
no-controller-recovered text session (Some embedded) nodes place NoMemory none = tt
no-controller-recovered text session (Some embedded) nodes place OtherKind none = (embedded, inl (refl, none))
no-controller-recovered text session (Some embedded) nodes place _ none = absurd none

-- nor without the nodes'
pub no-nodes-recovered : (text : List ℕ) (session : ℕ) (controller : Option Embedded) (nodes : List (Option Embedded)) (place : ℕ) (ending : CallEnding)
    → HaveNoRecords nodes ending → IsNotRecovered text session controller nodes place ending
no-nodes-recovered text session controller nodes place NoMemory none = tt
no-nodes-recovered text session controller nodes place Empty none = inr none
no-nodes-recovered text session controller nodes place OtherKind none = (none.0, inr (none.1, none.2))
no-nodes-recovered text session controller nodes place _ none = absurd none

-- nor where no nodes are said
pub none-said : (text : List ℕ) (session : ℕ) (controller : Option Embedded) (nodes : List (Option Embedded)) (place : ℕ) (ending : CallEnding) → IsNoNodes text ending
    → IsNotRecovered text session controller nodes place ending
none-said text session controller nodes place NoMemory none = tt
none-said text session controller nodes place BadName none = inl none
none-said text session controller nodes place _ none = absurd none

-- ---- the orchestrator

-- each node of a list is in it, so none is left out
none-left-out : (nodes : List (List ℕ)) (rows : List RowShown) → leaves_out_used nodes nodes rows ≡ false
none-left-out nodes rows =
    any-none (λ node. not (list_any (same_text node) nodes) && is_used_in rows node) nodes (λ node among.
    ap (λ (b : Bool). not b && is_used_in rows node) (then-any (same_text node) nodes node among ((same_text-tells node node).1 refl)))

-- so only the last session is refused
spent : (session : ℕ) (nodes : List (List ℕ)) (rows : List RowShown) (fault : OrchFault) → session < 2 ^ 64 → restart_refusal session nodes nodes rows ≡ Some fault → session + 1 ≡ 2 ^ 64
spent session nodes rows fault within refused = by (nat_lt (session + 1) (2 ^ 64)) (leaves_out_used nodes nodes rows) refl (none-left-out nodes rows) refused
  where
    by : (below left : Bool) → nat_lt (session + 1) (2 ^ 64) ≡ below → left ≡ false
        → cond (is_none (cond below (Some (session + 1)) None)) (Some refusals.NumbersSpent) (cond left (Some refusals.NodeInUse) None) ≡ Some fault → session + 1 ≡ 2 ^ 64
    by true true is none refused = absurd (true≢false none)
    by true false is none refused = absurd (some_is_not_none fault (sym refused))
    by false left is none refused = let most : 2 ^ 64 ≤ session + 1 = ltb-false (session + 1) (2 ^ 64) is in omega (arith, most, within)

-- the same of what was recovered
spent-of : (nodes : List (List ℕ)) (session : ℕ) (kept : OrchestratorKept) (controller : ControllerState) (known : List GivenNode) (fault : OrchFault) → session < 2 ^ 64
    → kept ≡ record_of (recovered nodes session controller known) → opening_refusal kept nodes ≡ Some fault → session + 1 ≡ 2 ^ 64
spent-of nodes session kept controller known fault within is refused =
    spent session nodes (recovered_rows controller known) fault within (subst (λ (k : OrchestratorKept). opening_refusal k nodes ≡ Some fault) is refused)

-- what is opened of what was recovered of records
pub made-of : (nodes : List (List ℕ)) (session : ℕ) (controller : RecordParts) (given : List NodeParts) (kept : OrchestratorKept) (made : Embedded)
    → OfRecords controller given (λ state known. kept ≡ record_of (recovered nodes session state known)) → OfRecords controller given (λ state known. MayRecover nodes session state known)
    → IsOpenedNew kept nodes made → IsMadeOf nodes session controller given made
made-of nodes session controller given kept made value may opened =
    record {
      service = opened.service;
      is = opened.is;
      may = may;
      has = λ state known of are. opened.has ∙ ap (λ (k : OrchestratorKept). opened_parts k nodes) (value state known of are) ∙ opened-next nodes session state known;
      told = opened.told;
    }

-- why nothing is opened of it
pub unopened-of : (nodes : List (List ℕ)) (session : ℕ) (controller : RecordParts) (given : List NodeParts) (kept : OrchestratorKept) (place : ℕ) (ending : CallEnding) → session < 2 ^ 64
    → AreNodesFit nodes → OfRecords controller given (λ state known. kept ≡ record_of (recovered nodes session state known)) → IsNotOpenedNew kept nodes ending
    → IsUnmadeOf nodes session controller given place ending
unopened-of nodes session controller given kept place NoMemory within fit value none = tt
unopened-of nodes session controller given kept place BadName within fit value none = absurd (none fit)
unopened-of nodes session controller given kept place Refused within fit value none =
    λ state known of are. spent-of nodes session kept state known none.0 within (value state known of are) none.1
unopened-of nodes session controller given kept place _ within fit value none = absurd none

-- why nothing was recovered, and how the call ends
pub unrecovered-of : (nodes : List (List ℕ)) (session : ℕ) (controller : RecordParts) (given : List NodeParts) (fault : RecoveryFault) (place : ℕ) (ending : CallEnding)
    → EndsUnrecovered fault place ending → OfRecords controller given (λ state known. IsRecoveryRefusal nodes session state known fault)
    → IsUnmadeOf nodes session controller given place ending
unrecovered-of nodes session controller given (faults.SameNode at) place ending ends refused =
    subst (IsUnmadeOf nodes session controller given place) (sym ends.0)
    (subst (λ (p : ℕ). OfRecords controller given (λ state known. IsRecoveryRefusal nodes session state known (faults.SameNode p))) (sym ends.1) refused)
unrecovered-of nodes session controller given faults.NotLater place ending ends refused = subst (IsUnmadeOf nodes session controller given place) (sym ends) refused
unrecovered-of nodes session controller given (faults.Disagrees at) place ending ends refused =
    subst (IsUnmadeOf nodes session controller given place) (sym ends.0)
    (subst (λ (p : ℕ). OfRecords controller given (λ state known. IsRecoveryRefusal nodes session state known (faults.Disagrees p))) (sym ends.1) refused)
unrecovered-of nodes session controller given faults.BadNodes place ending ends refused = subst (IsUnmadeOf nodes session controller given place) (sym ends) refused
unrecovered-of nodes session controller given (faults.BadRow at) place ending ends refused =
    subst (IsUnmadeOf nodes session controller given place) (sym ends.0)
    (subst (λ (p : ℕ). OfRecords controller given (λ state known. IsRecoveryRefusal nodes session state known (faults.BadRow p))) (sym ends.1) refused)
unrecovered-of nodes session controller given faults.NoMemory place ending ends refused = subst (IsUnmadeOf nodes session controller given place) (sym ends) tt

-- ---- of handles

-- what is made of the records is recovered of what the handles have
pub recovered-of : (text : List ℕ) (session : ℕ) (controller : Option Embedded) (nodes : List (Option Embedded)) (listed : List (List ℕ)) (kept : RecordParts) (given : List NodeParts)
    (made : Embedded) → AreNodesOf text listed → HasRecord IsControllerRecord controller kept → HaveRecords nodes given → IsMadeOf listed session kept given made
    → IsRecovered text session controller nodes made
recovered-of text session controller nodes listed kept given made said has have is =
    record {
      service = is.service;
      is = is.is;
      listed = listed;
      said = said;
      may = of-these controller nodes kept given (λ state known. MayRecover listed session state known) has have is.may;
      has = of-these controller nodes kept given (λ state known. is.service.orchestrator ≡ recovered listed (session + 1) state known) has have is.has;
      told = is.told;
    }

-- and why none is made of them is why none is recovered
pub not-recovered-of : (text : List ℕ) (session : ℕ) (controller : Option Embedded) (nodes : List (Option Embedded)) (listed : List (List ℕ)) (kept : RecordParts)
    (given : List NodeParts) (place : ℕ) (ending : CallEnding) → AreNodesOf text listed → HasRecord IsControllerRecord controller kept → HaveRecords nodes given
    → IsUnmadeOf listed session kept given place ending → IsNotRecovered text session controller nodes place ending
not-recovered-of text session controller nodes listed kept given place ending said has have = by ending
  where
    refused : (fault : RecoveryFault) → OfRecords kept given (λ state known. IsRecoveryRefusal listed session state known fault)
        → OfThese controller nodes (λ state known. IsRecoveryRefusal listed session state known fault)
    refused fault of = of-these controller nodes kept given (λ state known. IsRecoveryRefusal listed session state known fault) has have of

    by : (ending : CallEnding) → IsUnmadeOf listed session kept given place ending → IsNotRecovered text session controller nodes place ending
    by NoMemory none = tt
    by BadName none = inr (record { listed = listed; said = said; refused = refused faults.BadNodes none })
    by SameNode none = record { listed = listed; said = said; refused = refused (faults.SameNode place) none }
    by NotLater none = record { listed = listed; said = said; refused = refused faults.NotLater none }
    by Disagrees none = record { listed = listed; said = said; refused = refused (faults.Disagrees place) none }
    by BadRow none = record { listed = listed; said = said; refused = refused (faults.BadRow place) none }
    by Refused none = of-these controller nodes kept given (λ state known. session + 1 ≡ 2 ^ 64) has have none
    by _ none = absurd none
