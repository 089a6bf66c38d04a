-- How many calls are left until what is wanted of a volume is so, or is undone: by the call that is due.
use Rattle.csi_world.proofs.Words.{◌≡◌, ℕ, suc, ◌≤◌, List, [], ◌∷◌, find, Bool, true, false, cond, not, Option, Some}
use Rattle.csi_world.proofs.Words.{None, ◌&&◌, refl, sym, ◌∙◌, ap, subst, inl, inr, arith, option_and_then, Number}
use Rattle.csi_world.proofs.Words.{Kind, Controller, Node, Status, kind_of, is_ok_status, same_text, same_number}
use Rattle.csi_world.proofs.Words.{Arguments, Usage, Thing, Known, Yes, No, Maybe, Issued, touches, does, is_doing}
use Rattle.csi_world.proofs.Words.{is_yes, is_no, Goal, Create, Use, Stop, Delete, Sent, Accepted, History, with_items}
use Rattle.csi_world.proofs.Words.{known, known_by, has_success, is_success_of, id_of, Due, call_for, targets_in_use}
use Rattle.csi_world.proofs.Words.{due_leave, due_stop, due_kind, due_for}
use Rattle.csi_world.proofs.Lemmas.{and_from, false≢true, none-some, same_Some, same_text-tells, same_number-tells}
use Rattle.csi_world.proofs.Lemmas.{any-then, then-any}
use Rattle.csi_types.specs.declared.call.Call.TheVariants as calls
use Rattle.csi_types.specs.declared.call.Kind.TheVariants as kinds
use Rattle.csi_orchestrator.specs.declared.thing.Thing.TheVariants.{Exists, Attached, Staged, Published}
use Rattle.csi_world.proofs.Lifetimes.{calls_for}

-- ---- what is known once a success was heard of the call that was sent last

module _ (base : History) (issued : Issued) (status : Status) (told : Option ℕ) (ok : is_ok_status status ≡ true) where
  -- the history then
  abbrev pub heard_after : History
  heard_after = with_items base (Accepted issued.number status told ∷ Sent issued ∷ [])

  -- a success was heard of it
  own-success : has_success heard_after.items issued.number ≡ true
  own-success =
      then-any (is_success_of issued.number) heard_after.items (Accepted issued.number status told) (inl refl)
      (and_from (same_number issued.number issued.number) (is_ok_status status) ((same_number-tells issued.number issued.number).1 refl) ok)

  -- what it does is so, and what it undoes isn't
  pub known-own : (thing : Thing) → touches thing issued ≡ true → known heard_after thing ≡ cond (is_doing issued.call) Yes No
  known-own thing of =
      ap (λ b. known_by heard_after.items thing (cond b (Some issued) (find (touches thing) (calls_for thing base.items)))) of ∙ rw (own-success, of) refl

  -- what was known of another thing is known still
  pub known-other : (thing : Thing) (k : Known) → touches thing issued ≡ false → (k ≡ Maybe → ⊥) → known base thing ≡ k → known heard_after thing ≡ k
  known-other thing k other sure is =
      ap (λ b. known_by heard_after.items thing (cond b (Some issued) found)) other ∙ by found is
    where
      found : Option Issued
      found = find (touches thing) (calls_for thing base.items)

      more : (n : Number) → has_success base.items n ≡ true → has_success heard_after.items n ≡ true
      more n h = let there = any-then (is_success_of n) base.items h in then-any (is_success_of n) heard_after.items there.0 (inr (inr there.1)) there.2

      at : (call : Issued) (b : Bool) → has_success base.items call.number ≡ b → cond (not b) Maybe (cond (does thing call) Yes No) ≡ k
          → cond (not (has_success heard_after.items call.number)) Maybe (cond (does thing call) Yes No) ≡ k
      at call true e is = ap (λ c. cond (not c) Maybe (cond (does thing call) Yes No)) (more call.number e) ∙ is
      at call false e is = absurd (sure (sym is))

      by : (o : Option Issued) → known_by base.items thing o ≡ k → known_by heard_after.items thing o ≡ k
      by None is = is
      by (Some call) is = at call (has_success base.items call.number) refl is

-- what is known for sure
yes-sure : Yes ≡ Maybe → ⊥
yes-sure e = false≢true (sym (ap is_yes e))

no-sure : No ≡ Maybe → ⊥
no-sure e = false≢true (sym (ap is_no e))

-- ---- ranks

-- how many calls may be left where a call of this kind is due
abbrev pub rank_of : Kind → ℕ
rank_of kinds.CreateVolume = 1
rank_of kinds.DeleteVolume = 1
rank_of kinds.ControllerPublishVolume = 6
rank_of kinds.ControllerUnpublishVolume = 1
rank_of kinds.NodeStageVolume = 5
rank_of kinds.NodeUnstageVolume = 2
rank_of kinds.NodePublishVolume = 4
rank_of kinds.NodeUnpublishVolume = 3

-- none where none is due
abbrev pub rank_if : Option Kind → ℕ
rank_if None = 0
rank_if (Some kind) = rank_of kind

-- the same, by the call
abbrev pub rank_due : Option Due → ℕ
rank_due None = 0
rank_due (Some due) = rank_of (kind_of due.call)

-- a call for a goal has the kind that is due
call-rank : (name : List ℕ) (goal : Option Goal) (id : Option ℕ) (kind : Option Kind) → rank_due (option_and_then (call_for name goal id) kind) ≤ rank_if kind
call-rank name goal id kind = grind arith

-- so a goal's rank is that of its kind
pub goal-rank : (history : History) (name : List ℕ) (goal : Goal) (n : ℕ) → rank_if (due_kind history name goal) ≤ n → rank_due (due_for history name (Some goal)) ≤ n
goal-rank history name goal n few = let own = call-rank name (Some goal) (id_of history name) (due_kind history name goal) in omega (arith, own, few)

-- other goals than a creation
pub use-create : (usage : Usage) (arguments : Arguments) → Use usage ≡ Create arguments → ⊥
use-create usage arguments e = cc

pub stop-create : (node target : List ℕ) (arguments : Arguments) → Stop node target ≡ Create arguments → ⊥
stop-create node target arguments e = cc

pub delete-create : (arguments : Arguments) → Delete ≡ Create arguments → ⊥
delete-create arguments e = cc

-- without an id no call is due for anything but a creation
pub without-id : (name : List ℕ) (goal : Goal) (kind : Option Kind) (due : Due) → ((arguments : Arguments) → goal ≡ Create arguments → ⊥) → option_and_then (call_for name (Some goal) None) kind ≡ Some due → ⊥
without-id name goal kind due other e = grind (arith, none-some)

-- ---- a use

-- the kind that is due for a use, by what is known
abbrev pub use_kind : Known → Known → Known → Option Kind
use_kind attached staged published =
    cond (not (is_yes attached)) (Some kinds.ControllerPublishVolume)
    (cond (not (is_yes staged)) (Some kinds.NodeStageVolume) (cond (not (is_yes published)) (Some kinds.NodePublishVolume) None))

-- once it is attached
when-attached : (s p : Known) → rank_if (use_kind Yes s p) ≤ 5
when-attached Yes Yes = omega arith
when-attached s p = omega arith

-- and staged
when-staged : (p : Known) → rank_if (use_kind Yes Yes p) ≤ 4
when-staged Yes = omega arith
when-staged p = omega arith

-- ---- a stop

-- the kind that is due for a stop, by what is known
abbrev pub leave_kind : List (List ℕ) → Known → Known → Option Kind
leave_kind (target ∷ targets) staged attached = None
leave_kind [] staged attached = cond (not (is_no staged)) (Some kinds.NodeUnstageVolume) (cond (not (is_no attached)) (Some kinds.ControllerUnpublishVolume) None)

abbrev pub stop_kind : Known → List (List ℕ) → Known → Known → Option Kind
stop_kind published targets staged attached = cond (not (is_no published)) (Some kinds.NodeUnpublishVolume) (leave_kind targets staged attached)

-- it is the one that is due
leave-is : (history : History) (name node : List ℕ) (targets : List (List ℕ)) → due_leave history name node targets ≡ leave_kind targets (known history (Staged name node)) (known history (Attached name node))
leave-is history name node [] = refl
leave-is history name node (target ∷ targets) = refl

pub stop-is : (history : History) (name node target : List ℕ)
    → due_stop history name node target ≡ stop_kind (known history (Published name node target)) (targets_in_use history name node) (known history (Staged name node)) (known history (Attached name node))
stop-is history name node target = ap (cond (not (is_no (known history (Published name node target)))) (Some kinds.NodeUnpublishVolume)) (leave-is history name node (targets_in_use history name node))

-- once it is unpublished
when-unpublished : (ts : List (List ℕ)) (s a : Known) → rank_if (stop_kind No ts s a) ≤ 2
when-unpublished [] No Yes = omega arith
when-unpublished ts s a = omega arith

-- and unstaged
when-unstaged : (ts : List (List ℕ)) (a : Known) → rank_if (stop_kind No ts No a) ≤ 1
when-unstaged [] Yes = omega arith
when-unstaged ts a = omega arith

-- and detached
when-detached : (ts : List (List ℕ)) → rank_if (stop_kind No ts No No) ≤ 0
when-detached (t ∷ ts) = omega arith
when-detached [] = omega arith

-- at most three calls are left
stop-few : (p : Known) (ts : List (List ℕ)) (s a : Known) → rank_if (stop_kind p ts s a) ≤ 3
stop-few p ts s a = grind (arith, when-unpublished)

-- so it is of every stop
pub stop-rank : (history : History) (name node target : List ℕ) → rank_due (due_for history name (Some (Stop node target))) ≤ 3
stop-rank history name node target =
    goal-rank history name (Stop node target) 3
    (subst (λ k. rank_if k ≤ 3) (sym (stop-is history name node target))
    (stop-few (known history (Published name node target)) (targets_in_use history name node) (known history (Staged name node)) (known history (Attached name node))))

-- ---- once the call that was due succeeded, fewer are left

-- a text is the same as itself
self : (text : List ℕ) → same_text text text ≡ true
self text = (same_text-tells text text).1 refl

self-two : (a b : List ℕ) → (same_text a a && same_text b b) ≡ true
self-two a b = and_from (same_text a a) (same_text b b) (self a) (self b)

-- a call for a name, under a number
abbrev pub issued_for : List ℕ → Number → Due → Issued
issued_for name number due = record { name = name; number = number; party = due.party; call = due.call }

module _ (base : History) (name : List ℕ) (number : Number) (status : Status) (told : Option ℕ) (ok : is_ok_status status ≡ true) where
  -- the history once the success of the call was heard
  abbrev after : Due → History
  after due = with_items base (Accepted number status told ∷ Sent (issued_for name number due) ∷ [])

  -- fewer calls are left then
  abbrev IsFewer : Goal → Due → Type 0
  IsFewer goal due = suc (rank_due (due_for (after due) name (Some goal))) ≤ rank_of (kind_of due.call)

  -- by the rank of the kind
  fewer : (goal : Goal) (due : Due) (n : ℕ) → rank_if (due_kind (after due) name goal) ≤ n → suc n ≤ rank_of (kind_of due.call) → IsFewer goal due
  fewer goal due n few less = let own = goal-rank (after due) name goal n few in omega (arith, own, less)

  own : (due : Due) (thing : Thing) → touches thing (issued_for name number due) ≡ true → known (after due) thing ≡ cond (is_doing due.call) Yes No
  own due thing of = known-own base (issued_for name number due) status told ok thing of

  other : (due : Due) (thing : Thing) (k : Known) → touches thing (issued_for name number due) ≡ false → (k ≡ Maybe → ⊥) → known base thing ≡ k → known (after due) thing ≡ k
  other due thing k of sure is = known-other base (issued_for name number due) status told ok thing k of sure is

  -- of a use
  use-fewer : (usage : Usage) (due : Due) → due_for base name (Some (Use usage)) ≡ Some due → IsFewer (Use usage) due
  use-fewer usage due e = by (id_of base name) (known base at) (known base st) (known base pu) refl refl refl e
    where
      at : Thing
      at = Attached name usage.node

      st : Thing
      st = Staged name usage.node

      pu : Thing
      pu = Published name usage.node usage.target

      attach : ℕ → Due
      attach id = record { party = Controller; call = calls.ControllerPublishVolume id usage.node usage.capability usage.readonly }

      stage : ℕ → Due
      stage id = record { party = Node usage.node; call = calls.NodeStageVolume id usage.capability }

      publish : ℕ → Due
      publish id = record { party = Node usage.node; call = calls.NodePublishVolume id usage.target usage.capability usage.readonly }

      attached : (id : ℕ) → IsFewer (Use usage) (attach id)
      attached id =
          fewer (Use usage) (attach id) 5
          (subst (λ k. rank_if (use_kind k (known (after (attach id)) st) (known (after (attach id)) pu)) ≤ 5) (sym (own (attach id) at (self-two name usage.node)))
          (when-attached (known (after (attach id)) st) (known (after (attach id)) pu))) (omega arith)

      staged : (id : ℕ) → known base at ≡ Yes → IsFewer (Use usage) (stage id)
      staged id ka =
          fewer (Use usage) (stage id) 4
          (subst (λ k. rank_if (use_kind k (known (after (stage id)) st) (known (after (stage id)) pu)) ≤ 4) (sym (other (stage id) at Yes refl yes-sure ka))
          (subst (λ k. rank_if (use_kind Yes k (known (after (stage id)) pu)) ≤ 4) (sym (own (stage id) st (self-two name usage.node)))
          (when-staged (known (after (stage id)) pu)))) (omega arith)

      published : (id : ℕ) → known base at ≡ Yes → known base st ≡ Yes → IsFewer (Use usage) (publish id)
      published id ka ks =
          fewer (Use usage) (publish id) 0
          (subst (λ k. rank_if (use_kind k (known (after (publish id)) st) (known (after (publish id)) pu)) ≤ 0) (sym (other (publish id) at Yes refl yes-sure ka))
          (subst (λ k. rank_if (use_kind Yes k (known (after (publish id)) pu)) ≤ 0) (sym (other (publish id) st Yes refl yes-sure ks))
          (subst (λ k. rank_if (use_kind Yes Yes k) ≤ 0)
          (sym (own (publish id) pu (and_from (same_text name name && same_text usage.node usage.node) (same_text usage.target usage.target) (self-two name usage.node) (self usage.target))))
          (omega arith)))) (omega arith)

      by : (o : Option ℕ) (a s p : Known) → known base at ≡ a → known base st ≡ s → known base pu ≡ p → option_and_then (call_for name (Some (Use usage)) o) (use_kind a s p) ≡ Some due → IsFewer (Use usage) due
      by (Some id) Yes Yes Yes ka ks kp e = absurd (none-some due e)
      by (Some id) Yes Yes p ka ks kp e = subst (IsFewer (Use usage)) (same_Some (publish id) due e) (published id ka ks)
      by (Some id) Yes s p ka ks kp e = subst (IsFewer (Use usage)) (same_Some (stage id) due e) (staged id ka)
      by (Some id) a s p ka ks kp e = subst (IsFewer (Use usage)) (same_Some (attach id) due e) (attached id)
      by None a s p ka ks kp e = absurd (without-id name (Use usage) (use_kind a s p) due (λ arguments is. use-create usage arguments is) e)

  -- of a stop
  stop-fewer : (node target : List ℕ) (due : Due) → due_for base name (Some (Stop node target)) ≡ Some due → IsFewer (Stop node target) due
  stop-fewer node target due e =
      by (id_of base name) (known base pu) (targets_in_use base name node) (known base st) (known base at) refl refl refl
      (ap (option_and_then (call_for name (Some (Stop node target)) (id_of base name))) (sym (stop-is base name node target)) ∙ e)
    where
      at : Thing
      at = Attached name node

      st : Thing
      st = Staged name node

      pu : Thing
      pu = Published name node target

      unpublish : ℕ → Due
      unpublish id = record { party = Node node; call = calls.NodeUnpublishVolume id target }

      unstage : ℕ → Due
      unstage id = record { party = Node node; call = calls.NodeUnstageVolume id }

      detach : ℕ → Due
      detach id = record { party = Controller; call = calls.ControllerUnpublishVolume id node }

      -- by what is known then
      left : (d : Due) (n : ℕ) → rank_if (stop_kind (known (after d) pu) (targets_in_use (after d) name node) (known (after d) st) (known (after d) at)) ≤ n → suc n ≤ rank_of (kind_of d.call) → IsFewer (Stop node target) d
      left d n few less = fewer (Stop node target) d n (subst (λ k. rank_if k ≤ n) (sym (stop-is (after d) name node target)) few) less

      unpublished : (id : ℕ) → IsFewer (Stop node target) (unpublish id)
      unpublished id =
          let d : Due = unpublish id in
          left d 2
          (subst (λ k. rank_if (stop_kind k (targets_in_use (after d) name node) (known (after d) st) (known (after d) at)) ≤ 2)
          (sym (own d pu (and_from (same_text name name && same_text node node) (same_text target target) (self-two name node) (self target))))
          (when-unpublished (targets_in_use (after d) name node) (known (after d) st) (known (after d) at))) (omega arith)

      unstaged : (id : ℕ) → known base pu ≡ No → IsFewer (Stop node target) (unstage id)
      unstaged id kp =
          let d : Due = unstage id in
          left d 1
          (subst (λ k. rank_if (stop_kind k (targets_in_use (after d) name node) (known (after d) st) (known (after d) at)) ≤ 1) (sym (other d pu No refl no-sure kp))
          (subst (λ k. rank_if (stop_kind No (targets_in_use (after d) name node) k (known (after d) at)) ≤ 1) (sym (own d st (self-two name node)))
          (when-unstaged (targets_in_use (after d) name node) (known (after d) at)))) (omega arith)

      detached : (id : ℕ) → known base pu ≡ No → known base st ≡ No → IsFewer (Stop node target) (detach id)
      detached id kp ks =
          let d : Due = detach id in
          left d 0
          (subst (λ k. rank_if (stop_kind k (targets_in_use (after d) name node) (known (after d) st) (known (after d) at)) ≤ 0) (sym (other d pu No refl no-sure kp))
          (subst (λ k. rank_if (stop_kind No (targets_in_use (after d) name node) k (known (after d) at)) ≤ 0) (sym (other d st No refl no-sure ks))
          (subst (λ k. rank_if (stop_kind No (targets_in_use (after d) name node) No k) ≤ 0) (sym (own d at (self-two name node)))
          (when-detached (targets_in_use (after d) name node))))) (omega arith)

      by : (o : Option ℕ) (p : Known) (ts : List (List ℕ)) (s a : Known) → known base pu ≡ p → known base st ≡ s → known base at ≡ a → option_and_then (call_for name (Some (Stop node target)) o) (stop_kind p ts s a) ≡ Some due → IsFewer (Stop node target) due
      by (Some id) No [] No No kp ks ka e = absurd (none-some due e)
      by (Some id) No [] No a kp ks ka e = subst (IsFewer (Stop node target)) (same_Some (detach id) due e) (detached id kp ks)
      by (Some id) No [] s a kp ks ka e = subst (IsFewer (Stop node target)) (same_Some (unstage id) due e) (unstaged id kp)
      by (Some id) No (t ∷ ts) s a kp ks ka e = absurd (none-some due e)
      by (Some id) p ts s a kp ks ka e = subst (IsFewer (Stop node target)) (same_Some (unpublish id) due e) (unpublished id)
      by None p ts s a kp ks ka e = absurd (without-id name (Stop node target) (stop_kind p ts s a) due (λ arguments is. stop-create node target arguments is) e)

  -- of a creation
  create-fewer : (arguments : Arguments) (due : Due) → due_for base name (Some (Create arguments)) ≡ Some due → IsFewer (Create arguments) due
  create-fewer arguments due e = by (known base (Exists name)) e
    where
      create : Due
      create = record { party = Controller; call = calls.CreateVolume name arguments.required arguments.limit arguments.capabilities }

      made : IsFewer (Create arguments) create
      made =
          fewer (Create arguments) create 0
          (subst (λ k. rank_if (cond (is_yes k) None (Some kinds.CreateVolume)) ≤ 0) (sym (own create (Exists name) (self name))) (omega arith)) (omega arith)

      by : (k : Known) → option_and_then (call_for name (Some (Create arguments)) (id_of base name)) (cond (is_yes k) None (Some kinds.CreateVolume)) ≡ Some due → IsFewer (Create arguments) due
      by Yes e = absurd (none-some due e)
      by No e = subst (IsFewer (Create arguments)) (same_Some create due e) made
      by Maybe e = subst (IsFewer (Create arguments)) (same_Some create due e) made

  -- of a deletion
  delete-fewer : (due : Due) → due_for base name (Some Delete) ≡ Some due → IsFewer Delete due
  delete-fewer due e = by (id_of base name) (known base (Exists name)) e
    where
      delete : ℕ → Due
      delete id = record { party = Controller; call = calls.DeleteVolume id }

      deleted : (id : ℕ) → IsFewer Delete (delete id)
      deleted id =
          fewer Delete (delete id) 0
          (subst (λ k. rank_if (cond (is_no k) None (Some kinds.DeleteVolume)) ≤ 0) (sym (own (delete id) (Exists name) (self name))) (omega arith)) (omega arith)

      by : (o : Option ℕ) (k : Known) → option_and_then (call_for name (Some Delete) o) (cond (is_no k) None (Some kinds.DeleteVolume)) ≡ Some due → IsFewer Delete due
      by (Some id) No e = absurd (none-some due e)
      by (Some id) Yes e = subst (IsFewer Delete) (same_Some (delete id) due e) (deleted id)
      by (Some id) Maybe e = subst (IsFewer Delete) (same_Some (delete id) due e) (deleted id)
      by None k e = absurd (without-id name Delete (cond (is_no k) None (Some kinds.DeleteVolume)) due delete-create e)

  -- of each goal
  pub goal-fewer : (goal : Goal) (due : Due) → due_for base name (Some goal) ≡ Some due → IsFewer goal due
  goal-fewer (Create arguments) due e = create-fewer arguments due e
  goal-fewer (Use usage) due e = use-fewer usage due e
  goal-fewer (Stop node target) due e = stop-fewer node target due e
  goal-fewer Delete due e = delete-fewer due e
