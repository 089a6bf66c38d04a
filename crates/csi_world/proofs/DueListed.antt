-- A call that is due for a node is due at one that is listed.
use Rattle.csi_world.proofs.Words.{◌≡◌, ◌≢◌, ◌⊎◌, ℕ, List, [], ◌∷◌, true, cond, Option, Some, None, ◌&&◌, refl, sym}
use Rattle.csi_world.proofs.Words.{◌∙◌, ap, subst, inl, inr, option_and_then, Number, Controller, Node, same_text}
use Rattle.csi_world.proofs.Words.{Arguments, Usage, Thing, Known, Yes, No, Maybe, Issued, touches, is_doing, is_yes}
use Rattle.csi_world.proofs.Words.{is_no, Goal, Create, Use, Stop, Delete, Sent, History, with_items, known, id_of}
use Rattle.csi_world.proofs.Words.{Due, call_for, targets_in_use, due_for, arith}
use Rattle.csi_world.proofs.Lemmas.{and_from, false≢true, none-some, same_Some, same_text-tells}
use Rattle.csi_types.specs.declared.call.Call.TheVariants as calls
use Rattle.csi_types.specs.declared.call.Kind.TheVariants as kinds
use Rattle.csi_orchestrator.specs.declared.thing.Thing.TheVariants.{Exists, Attached, Staged, Published}
use Rattle.csi_world.proofs.DueRanks.{use_kind, stop_kind, stop-is, issued_for, without-id, use-create, stop-create, delete-create}
use Rattle.csi_world.proofs.Lifetimes.{calls_for}
use Rattle.csi_world.proofs.RowsShown.{HasRows, IsListed, published-listed, staged-listed}

-- what a call does may be so once it was sent
pub doing-known : (base : History) (issued : Issued) (thing : Thing) → touches thing issued ≡ true → is_doing issued.call ≡ true → known (with_items base (Sent issued ∷ [])) thing ≢ No
doing-known base issued thing of doing gone = grind (arith, calls_for, and_from, false≢true)

-- the call does something at the node, or undoes what may be so there
pub record DoesStage (name node : List ℕ) (due : Due) : Type 0 where
  pub touched : (number : Number) → touches (Staged name node) (issued_for name number due) ≡ true
  pub doing : is_doing due.call ≡ true

pub record DoesPublish (name node : List ℕ) (due : Due) : Type 0 where
  pub target : List ℕ
  pub touched : (number : Number) → touches (Published name node target) (issued_for name number due) ≡ true
  pub doing : is_doing due.call ≡ true

abbrev pub IsAtNode : History → List ℕ → Due → List ℕ → Type 0
IsAtNode history name due node = DoesStage name node due ⊎ DoesPublish name node due ⊎ (known history (Staged name node) ≢ No) ⊎ ((target : List ℕ) × (known history (Published name node target) ≢ No))

-- so it is of a call for any node
abbrev pub IsAtAny : History → List ℕ → Due → Type 0
IsAtAny history name due = (node : List ℕ) → due.party ≡ Node node → IsAtNode history name due node

-- a text is the same as itself
self : (text : List ℕ) → same_text text text ≡ true
self text = (same_text-tells text text).1 refl

self-two : (a b : List ℕ) → (same_text a a && same_text b b) ≡ true
self-two a b = and_from (same_text a a) (same_text b b) (self a) (self b)

-- one node
one-node : (a b : List ℕ) → Node a ≡ Node b → a ≡ b
one-node a b e = cc

no-node : (node : List ℕ) → Controller ≡ Node node → ⊥
no-node node e = cc

yes-some : Yes ≢ No
yes-some e = false≢true (ap is_no e)

maybe-some : Maybe ≢ No
maybe-some e = false≢true (ap is_no e)

module _ (history : History) (name : List ℕ) where
  -- a use
  use-at : (usage : Usage) (due : Due) → due_for history name (Some (Use usage)) ≡ Some due → IsAtAny history name due
  use-at usage due e = by (id_of history name) (known history (Attached name usage.node)) (known history (Staged name usage.node)) (known history (Published name usage.node usage.target)) e
    where
      attach : ℕ → Due
      attach id = record { party = Controller; call = calls.ControllerPublishVolume id usage.node usage.capability usage.readonly }

      stage : ℕ → Due
      stage id = record { party = Node usage.node; call = calls.NodeStageVolume id usage.capability }

      publish : ℕ → Due
      publish id = record { party = Node usage.node; call = calls.NodePublishVolume id usage.target usage.capability usage.readonly }

      staged : (id : ℕ) → IsAtAny history name (stage id)
      staged id node to = subst (IsAtNode history name (stage id)) (one-node usage.node node to) (inl (record { touched = λ number. self-two name usage.node; doing = refl }))

      published : (id : ℕ) → IsAtAny history name (publish id)
      published id node to =
          subst (IsAtNode history name (publish id)) (one-node usage.node node to)
          (inr (inl (record { target = usage.target; touched = λ number. and_from (same_text name name && same_text usage.node usage.node) (same_text usage.target usage.target) (self-two name usage.node) (self usage.target); doing = refl })))

      by : (o : Option ℕ) (a s p : Known) → option_and_then (call_for name (Some (Use usage)) o) (use_kind a s p) ≡ Some due → IsAtAny history name due
      by (Some id) Yes Yes Yes e = absurd (none-some due e)
      by (Some id) Yes Yes p e = subst (IsAtAny history name) (same_Some (publish id) due e) (published id)
      by (Some id) Yes s p e = subst (IsAtAny history name) (same_Some (stage id) due e) (staged id)
      by (Some id) a s p e = subst (IsAtAny history name) (same_Some (attach id) due e) (λ node to. absurd (no-node node to))
      by None a s p e = absurd (without-id name (Use usage) (use_kind a s p) due (λ arguments is. use-create usage arguments is) e)

  -- a stop
  stop-at : (node target : List ℕ) (due : Due) → due_for history name (Some (Stop node target)) ≡ Some due → IsAtAny history name due
  stop-at node target due e =
      by (id_of history name) (known history (Published name node target)) (targets_in_use history name node) (known history (Staged name node)) (known history (Attached name node)) refl refl
      (ap (option_and_then (call_for name (Some (Stop node target)) (id_of history name))) (sym (stop-is history name node target)) ∙ e)
    where
      unpublish : ℕ → Due
      unpublish id = record { party = Node node; call = calls.NodeUnpublishVolume id target }

      unstage : ℕ → Due
      unstage id = record { party = Node node; call = calls.NodeUnstageVolume id }

      detach : ℕ → Due
      detach id = record { party = Controller; call = calls.ControllerUnpublishVolume id node }

      published : (id : ℕ) → known history (Published name node target) ≢ No → IsAtAny history name (unpublish id)
      published id some other to = subst (IsAtNode history name (unpublish id)) (one-node node other to) (inr (inr (inr (target, some))))

      staged : (id : ℕ) → known history (Staged name node) ≢ No → IsAtAny history name (unstage id)
      staged id some other to = subst (IsAtNode history name (unstage id)) (one-node node other to) (inr (inr (inl some)))

      by : (o : Option ℕ) (p : Known) (ts : List (List ℕ)) (s a : Known) → known history (Published name node target) ≡ p → known history (Staged name node) ≡ s → option_and_then (call_for name (Some (Stop node target)) o) (stop_kind p ts s a) ≡ Some due
          → IsAtAny history name due
      by (Some id) No [] No No kp ks e = absurd (none-some due e)
      by (Some id) No [] No a kp ks e = subst (IsAtAny history name) (same_Some (detach id) due e) (λ other to. absurd (no-node other to))
      by (Some id) No [] Yes a kp ks e = subst (IsAtAny history name) (same_Some (unstage id) due e) (staged id (λ h. yes-some (sym ks ∙ h)))
      by (Some id) No [] Maybe a kp ks e = subst (IsAtAny history name) (same_Some (unstage id) due e) (staged id (λ h. maybe-some (sym ks ∙ h)))
      by (Some id) No (t ∷ ts) s a kp ks e = absurd (none-some due e)
      by (Some id) Yes ts s a kp ks e = subst (IsAtAny history name) (same_Some (unpublish id) due e) (published id (λ h. yes-some (sym kp ∙ h)))
      by (Some id) Maybe ts s a kp ks e = subst (IsAtAny history name) (same_Some (unpublish id) due e) (published id (λ h. maybe-some (sym kp ∙ h)))
      by None p ts s a kp ks e = absurd (without-id name (Stop node target) (stop_kind p ts s a) due (λ arguments is. stop-create node target arguments is) e)

  -- a deletion, or a creation
  delete-at : (due : Due) → due_for history name (Some Delete) ≡ Some due → IsAtAny history name due
  delete-at due e = by (id_of history name) (known history (Exists name)) e
    where
      delete : ℕ → Due
      delete id = record { party = Controller; call = calls.DeleteVolume id }

      by : (o : Option ℕ) (k : Known) → option_and_then (call_for name (Some Delete) o) (cond (is_no k) None (Some kinds.DeleteVolume)) ≡ Some due → IsAtAny history name due
      by (Some id) No e = absurd (none-some due e)
      by (Some id) Yes e = subst (IsAtAny history name) (same_Some (delete id) due e) (λ node to. absurd (no-node node to))
      by (Some id) Maybe e = subst (IsAtAny history name) (same_Some (delete id) due e) (λ node to. absurd (no-node node to))
      by None k e = absurd (without-id name Delete (cond (is_no k) None (Some kinds.DeleteVolume)) due delete-create e)

  create-at : (arguments : Arguments) (due : Due) → due_for history name (Some (Create arguments)) ≡ Some due → IsAtAny history name due
  create-at arguments due e = by (known history (Exists name)) e
    where
      create : Due
      create = record { party = Controller; call = calls.CreateVolume name arguments.required arguments.limit arguments.capabilities }

      by : (k : Known) → option_and_then (call_for name (Some (Create arguments)) (id_of history name)) (cond (is_yes k) None (Some kinds.CreateVolume)) ≡ Some due → IsAtAny history name due
      by Yes e = absurd (none-some due e)
      by No e = subst (IsAtAny history name) (same_Some create due e) (λ node to. absurd (no-node node to))
      by Maybe e = subst (IsAtAny history name) (same_Some create due e) (λ node to. absurd (no-node node to))

  -- each goal
  goal-at : (goal : Goal) (due : Due) → due_for history name (Some goal) ≡ Some due → IsAtAny history name due
  goal-at (Create arguments) due e = create-at arguments due e
  goal-at (Use usage) due e = use-at usage due e
  goal-at (Stop node target) due e = stop-at node target due e
  goal-at Delete due e = delete-at due e

-- so a call that is due, once it was sent after what left as it is what was known not to be so, is for a listed node
pub due-listed : (old base next : History) (name : List ℕ) (number : Number) (goal : Goal) (due : Due) → HasRows old → HasRows next → next ≡ with_items base (Sent (issued_for name number due) ∷ [])
    → ((thing : Thing) → known old thing ≡ No → known base thing ≡ No) → ((node : List ℕ) → IsListed old node → IsListed next node) → due_for base name (Some goal) ≡ Some due
    → (node : List ℕ) → due.party ≡ Node node → IsListed next node
due-listed old base next name number goal due rows then is keeps stays e node to =
    by (goal-at base name goal due e node to)
  where
    issued : Issued
    issued = issued_for name number due

    may : (thing : Thing) → touches thing issued ≡ true → is_doing due.call ≡ true → known next thing ≢ No
    may thing of doing gone = doing-known base issued thing of doing (sym (ap (λ h. known h thing) is) ∙ gone)

    by : IsAtNode base name due node → IsListed next node
    by (inl stages) = staged-listed next then name node (may (Staged name node) (stages.touched number) stages.doing)
    by (inr (inl publishes)) = published-listed next then name node publishes.target (may (Published name node publishes.target) (publishes.touched number) publishes.doing)
    by (inr (inr (inl some))) = stays node (staged-listed old rows name node (λ gone. some (keeps (Staged name node) gone)))
    by (inr (inr (inr some))) = stays node (published-listed old rows name node some.0 (λ gone. some.1 (keeps (Published name node some.0) gone)))
