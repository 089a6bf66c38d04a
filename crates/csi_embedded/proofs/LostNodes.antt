-- A node that an orchestrator of a handle is told to be lost.
use Rattle.std.proofs.Common.{◌≡◌, ◌∙◌, ℕ, List, Option, Some, None, Result, Ok, Err, IfOk, IfErr, refl, sym, ap, subst, inl, inr}
use Rattle.std.specs.Prelude.{OnOk}
use Rattle.std.proofs.lemmas.Result.{on_ok_weaker, on_err_weaker}
use Rattle.csi_types.specs.Public.Text.{IsNodeId}
use Rattle.csi_orchestrator.specs.declared.fault.OrchFault.{OrchFault}
use Rattle.csi_stores.specs.Public.Content.{all_changed}
use Rattle.csi_embedded.specs.declared.ending.CallEnding.{CallEnding}
use Rattle.csi_embedded.specs.declared.ending.CallEnding.TheVariants.{Empty}
use Rattle.csi_embedded.specs.declared.embedded.Embedded.{Embedded}
use Rattle.csi_embedded.specs.declared.plugin.HeldPlugin.{HeldPlugin}
use Rattle.csi_embedded.specs.Public.Calls.{told_changes, Remains}
use Rattle.csi_embedded.specs.Public.Losing.{LosesNode, EndsLost, LosesOne, LosesNamed, HandleLoses, HasLost}
use Rattle.csi_embedded.specs.Public.Making.{IsNoId}
use Rattle.csi_embedded.specs.Public.Plugins.{plugin_parts}
use Rattle.csi_embedded.specs.Private.Losing.{LosesRead, HandleLosesRead, GivesLost}
use Rattle.csi_embedded.proofs.Asked.{same-remains}

-- what it did is done of what was there before it was told what the store has to be given
loses-on : {A : Type 0} (node : List ℕ) (first second third : Embedded) (result : Result A OrchFault) → second.plugin ≡ first.plugin → told_changes second ≡ told_changes first
    → LosesNode node second result third → LosesNode node first result third
loses-on node first second third result same told l = record {
  before = l.before;
  after = l.after;
  was = sym same ∙ l.was;
  is = l.is;
  lost = l.lost;
  changed = on_ok_weaker result (λ changed. changed ∙ ap (λ (p : HeldPlugin). all_changed (told_changes third) (plugin_parts p)) same) l.changed;
  stays = on_err_weaker result (λ stays. stays ∙ told) l.stays;
}

-- so the node was taken as lost
pub was-lost : (node : List ℕ) (first second third : Embedded) (fault : ℕ) (ending : CallEnding) (told : Result (Unit {0}) OrchFault) → second.plugin ≡ first.plugin → told_changes second ≡ told_changes first
    → LosesNode node second told third → EndsLost told fault ending → LosesOne node first third fault ending
was-lost node first second third fault ending told same changes lost ends = inl (record { told = told; lost = loses-on node first second third told same changes lost; ends = ends })

-- an empty handle loses none
pub empty-lost : (node : Result (List ℕ) CallEnding) (old new : Option Embedded) (fault number : ℕ) → None ≡ old → new ≡ None → number ≡ 2 → GivesLost node old new fault number
empty-lost node old new fault number empty none is =
    subst (λ (o : Option Embedded). GivesLost node o new fault number) empty
    (subst (λ (n : Option Embedded). GivesLost node None n fault number) (sym none) (record { ending = Empty; is = is; loses = refl }))

-- what was read is what is lost
loses-named : (bytes : List ℕ) (node : Result (List ℕ) CallEnding) (old new : Embedded) (fault : ℕ) (ending : CallEnding) → IfOk node (λ id. id ≡ bytes) → OnOk node (IsNodeId bytes) → IfErr node (IsNoId bytes)
    → LosesRead node old new fault ending → LosesNamed bytes old new fault ending
loses-named bytes (Ok node) old new fault ending is fits none loses = inl (fits, subst (λ (id : List ℕ). LosesOne id old new fault ending) is loses)
loses-named bytes (Err why) old new fault ending is fits none loses =
    inr (subst (IsNoId bytes) (sym loses.0) none, subst (Remains old) (sym loses.1) (same-remains old old refl refl))

-- the same of a handle
handle-loses : (bytes : List ℕ) (node : Result (List ℕ) CallEnding) (old new : Option Embedded) (fault : ℕ) (ending : CallEnding) → IfOk node (λ id. id ≡ bytes) → OnOk node (IsNodeId bytes) → IfErr node (IsNoId bytes)
    → HandleLosesRead node old new fault ending → HandleLoses bytes old new fault ending
handle-loses bytes node (Some old) (Some new) fault ending is fits none loses = loses-named bytes node old new fault ending is fits none loses
handle-loses bytes node None None fault ending is fits none loses = loses
handle-loses bytes node (Some old) None fault ending is fits none loses = loses
handle-loses bytes node None (Some new) fault ending is fits none loses = loses

-- and its number
pub lost-read : (bytes : List ℕ) (node : Result (List ℕ) CallEnding) (old new : Option Embedded) (fault number : ℕ) → IfOk node (λ id. id ≡ bytes) → OnOk node (IsNodeId bytes) → IfErr node (IsNoId bytes)
    → GivesLost node old new fault number → HasLost bytes old new fault number
lost-read bytes node old new fault number is fits none gives =
    record { ending = gives.ending; is = gives.is; loses = handle-loses bytes node old new fault gives.ending is fits none gives.loses }
