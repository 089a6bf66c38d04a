-- Where no call is due what was wanted is so, and a volume keeps its id; and a use that is wanted isn't so yet.
use Rattle.csi_world.proofs.Words.{◌≡◌, ◌≢◌, ℕ, List, [], ◌∷◌, Bool, true, false, cond, Option, Some, None, option_map}
use Rattle.csi_world.proofs.Words.{◌&&◌, refl, sym, ◌∙◌, ap, subst, option_and_then, option_or, Status, is_ok_status}
use Rattle.csi_world.proofs.Words.{same_text, Arguments, Usage, Thing, Known, Yes, No, Issued, is_yes, is_no, Goal}
use Rattle.csi_world.proofs.Words.{Create, Use, Stop, Delete, Accepted, Closed, Noted, History, with_items, known}
use Rattle.csi_world.proofs.Words.{id_of, goal_of, open_call, call_for, targets_in_use, due_for, NodeEntryShown}
use Rattle.csi_world.proofs.Words.{RowShown, row_of, mark_in, mark_of, publication_known, goal_in, goal_shown}
use Rattle.csi_world.proofs.Words.{IsWellFormed, IsStandingIf, IsSteadyRowIf, HasMarks, IsAtWork, IsAtRest, AreMarked}
use Rattle.csi_world.proofs.Words.{IsStopped, arith}
use Rattle.csi_world.proofs.Lemmas.{none-some, same_Some, some_is_not_none, one-found, closed-follows, noted-follows}
use Rattle.csi_world.proofs.Lemmas.{each_of, among-find}
use Rattle.csi_types.specs.declared.call.Kind.TheVariants as kinds
use Rattle.csi_orchestrator.specs.declared.row.Goal.{Goal as KeptGoal}
use Rattle.csi_orchestrator.specs.declared.row.Goal.TheVariants as kept
use Rattle.csi_orchestrator.specs.declared.thing.Thing.TheVariants.{Exists, Attached, Staged, Published}
use Rattle.csi_orchestrator.proofs.KeptMarks.{known-there}
use Rattle.csi_orchestrator.proofs.RepliesFollow.{accepted-follows}
use Rattle.csi_world.proofs.DueRanks.{use_kind, stop_kind, stop-is}
use Rattle.csi_world.proofs.Lifetimes.{calls_for}
use Rattle.csi_orchestrator.proofs.RowViews.{told_by as view_of}
use Rattle.csi_world.proofs.NamesRowed.{agrees-itself, known-aside}
use Rattle.csi_world.proofs.RowsShown.{HasRows}

-- ---- what is so where no call is due

-- what was wanted is so
abbrev pub IsMet : History → List ℕ → Goal → Type 0
IsMet history name (Create arguments) = known history (Exists name) ≡ Yes
IsMet history name (Use usage) = known history (Published name usage.node usage.target) ≡ Yes
IsMet history name (Stop node target) = IsStopped history name node target
IsMet history name Delete = known history (Exists name) ≡ No

-- the volume has an id
abbrev pub HasId : History → List ℕ → Type 0
HasId history name = (id : ℕ) × (id_of history name ≡ Some id)

-- it has one where anything but its creation is wanted
abbrev pub HasIdIf : History → List ℕ → Goal → Type 0
HasIdIf history name goal = ((arguments : Arguments) → goal ≡ Create arguments → ⊥) → HasId history name

-- other goals than a creation
use-other : (usage : Usage) (arguments : Arguments) → Use usage ≡ Create arguments → ⊥
use-other usage arguments e = cc

stop-other : (node target : List ℕ) (arguments : Arguments) → Stop node target ≡ Create arguments → ⊥
stop-other node target arguments e = cc

delete-other : (arguments : Arguments) → Delete ≡ Create arguments → ⊥
delete-other arguments e = cc

use-stop : (usage : Usage) (node target : List ℕ) → Use usage ≡ Stop node target → ⊥
use-stop usage node target e = cc

use-delete : (usage : Usage) → Use usage ≡ Delete → ⊥
use-delete usage e = cc

module _ (history : History) (name : List ℕ) where
  use-met : (usage : Usage) → HasId history name → due_for history name (Some (Use usage)) ≡ None → IsMet history name (Use usage)
  use-met usage has e =
      by (known history (Attached name usage.node)) (known history (Staged name usage.node)) (known history (Published name usage.node usage.target)) refl
      (ap (λ o. option_and_then (call_for name (Some (Use usage)) o) (use_kind (known history (Attached name usage.node)) (known history (Staged name usage.node)) (known history (Published name usage.node usage.target)))) (sym has.1) ∙ e)
    where
      by : (a s p : Known) → known history (Published name usage.node usage.target) ≡ p → option_and_then (call_for name (Some (Use usage)) (Some has.0)) (use_kind a s p) ≡ None → known history (Published name usage.node usage.target) ≡ Yes
      by Yes Yes Yes is e = is
      by a s p is e = absurd (some_is_not_none _ e)

  stop-met : (node target : List ℕ) → HasId history name → due_for history name (Some (Stop node target)) ≡ None → IsMet history name (Stop node target)
  stop-met node target has e =
      by (known history (Published name node target)) (targets_in_use history name node) (known history (Staged name node)) (known history (Attached name node)) refl refl refl refl
      (ap (λ o. option_and_then (call_for name (Some (Stop node target)) o) (stop_kind (known history (Published name node target)) (targets_in_use history name node) (known history (Staged name node)) (known history (Attached name node)))) (sym has.1)
      ∙ ap (option_and_then (call_for name (Some (Stop node target)) (id_of history name))) (sym (stop-is history name node target)) ∙ e)
    where
      filled : (t : List ℕ) (ts : List (List ℕ)) → t ∷ ts ≡ [] → ⊥
      filled t ts h = cc

      by : (p : Known) (ts : List (List ℕ)) (s a : Known) → known history (Published name node target) ≡ p → targets_in_use history name node ≡ ts → known history (Staged name node) ≡ s → known history (Attached name node) ≡ a
          → option_and_then (call_for name (Some (Stop node target)) (Some has.0)) (stop_kind p ts s a) ≡ None → IsStopped history name node target
      by No [] No No kp kt ks ka e = record { unpublished = kp; unstaged = λ none. ks; detached = λ none. ka }
      by No (t ∷ ts) s a kp kt ks ka e = record { unpublished = kp; unstaged = λ none. absurd (filled t ts (sym kt ∙ none)); detached = λ none. absurd (filled t ts (sym kt ∙ none)) }
      by p ts s a kp kt ks ka e = absurd (some_is_not_none _ e)

  delete-met : HasId history name → due_for history name (Some Delete) ≡ None → IsMet history name Delete
  delete-met has e =
      by (known history (Exists name)) refl (ap (λ o. option_and_then (call_for name (Some Delete) o) (cond (is_no (known history (Exists name))) None (Some kinds.DeleteVolume))) (sym has.1) ∙ e)
    where
      by : (k : Known) → known history (Exists name) ≡ k → option_and_then (call_for name (Some Delete) (Some has.0)) (cond (is_no k) None (Some kinds.DeleteVolume)) ≡ None → known history (Exists name) ≡ No
      by No is e = is
      by k is e = absurd (some_is_not_none _ e)

  create-met : (arguments : Arguments) → due_for history name (Some (Create arguments)) ≡ None → IsMet history name (Create arguments)
  create-met arguments e = by (known history (Exists name)) refl e
    where
      by : (k : Known) → known history (Exists name) ≡ k → option_and_then (call_for name (Some (Create arguments)) (id_of history name)) (cond (is_yes k) None (Some kinds.CreateVolume)) ≡ None → known history (Exists name) ≡ Yes
      by Yes is e = is
      by k is e = absurd (some_is_not_none _ e)

  pub met-where-none : (goal : Goal) → HasIdIf history name goal → due_for history name (Some goal) ≡ None → IsMet history name goal
  met-where-none (Create arguments) has e = create-met arguments e
  met-where-none (Use usage) has e = use-met usage (has (use-other usage)) e
  met-where-none (Stop node target) has e = stop-met node target (has (stop-other node target)) e
  met-where-none Delete has e = delete-met (has delete-other) e

-- it is so still once the goal is dropped
pub noted-met : (history : History) (name other : List ℕ) (goal : Goal) (noted : Option Goal) → IsMet history name goal → IsMet (with_items history (Noted other noted ∷ [])) name goal
noted-met history name other goal noted met = grind (arith, known-aside, calls_for)

-- ---- ids

-- a volume keeps its id where something is noted
pub noted-id : (history : History) (name other : List ℕ) (noted : Option Goal) → HasId history name → HasId (with_items history (Noted other noted ∷ [])) name
noted-id history name other noted has = (has.0, sym ((noted-follows (view_of history) history other noted (agrees-itself history)).same_ids name) ∙ has.1)

-- where a call is given up
pub closed-id : (history : History) (name : List ℕ) (issued : Issued) → IsWellFormed history → open_call history issued.name ≡ Some issued → HasId history name → HasId (with_items history (Closed issued.number ∷ [])) name
closed-id history name issued form is_open has = (has.0, sym ((closed-follows (view_of history) history issued form (agrees-itself history) is_open).same_ids name) ∙ has.1)

-- where a reply is taken
pub accepted-id : (history : History) (name : List ℕ) (issued : Issued) (status : Status) (id : Option ℕ) → IsWellFormed history → open_call history issued.name ≡ Some issued → HasId history name
    → HasId (with_items history (Accepted issued.number status id ∷ [])) name
accepted-id history name issued status id form is_open has =
    by _ (is_ok_status status && same_text issued.name name) (sym ((accepted-follows (view_of history) history issued status id form (agrees-itself history) is_open).same_ids name))
  where
    brought : (o : Option ℕ) → (n : ℕ) × (option_or o (id_of history name) ≡ Some n)
    brought None = has
    brought (Some n) = (n, refl)

    by : (told : Option ℕ) (b : Bool) → id_of (with_items history (Accepted issued.number status id ∷ [])) name ≡ cond b (option_or told (id_of history name)) (id_of history name) → HasId (with_items history (Accepted issued.number status id ∷ [])) name
    by told true e = let new = brought told in (new.0, e ∙ new.1)
    by told false e = (has.0, e ∙ has.1)

-- a volume of which anything but its creation is wanted has an id
pub goal-id : (history : History) → HasRows history → (name : List ℕ) (goal : Goal) → goal_of history name ≡ Some goal → HasIdIf history name goal
goal-id history rows name goal wanted other = by (row_of rows.parts.rows name) refl
  where
    standing : (row : RowShown) → row_of rows.parts.rows name ≡ Some row → (own : KeptGoal) (id : Option ℕ) → row.id ≡ id → goal_shown row.arguments own ≡ goal → IsStandingIf (Unit {0}) (Some own) id row.exists → HasId history name
    standing row e own (Some id) i g stands = (id, sym ((rows.agrees).same_ids name) ∙ ap (option_and_then (λ (r : RowShown). r.id)) e ∙ i)
    standing row e kept.Create None i g stands = absurd (other row.arguments (sym g))
    standing row e own None i g stands = absurd stands

    at : (row : RowShown) → row_of rows.parts.rows name ≡ Some row → (own : Option KeptGoal) → row.goal ≡ own → option_map (goal_shown row.arguments) own ≡ Some goal → HasId history name
    at row e None f g = absurd (none-some goal g)
    at row e (Some own) f g =
        let steady = each_of (IsSteadyRowIf (Unit {0})) rows.parts.rows row rows.steady (among-find (λ (r : RowShown). same_text r.name name) rows.parts.rows row e) in
        standing row e own row.id refl (same_Some (goal_shown row.arguments own) goal g) (subst (λ o. IsStandingIf (Unit {0}) o row.id row.exists) f steady.standing)

    by : (o : Option RowShown) → row_of rows.parts.rows name ≡ o → HasId history name
    by None e = absurd (none-some goal (ap (option_and_then goal_in) (sym e) ∙ (rows.agrees).same_goals name ∙ wanted))
    by (Some row) e = at row e row.goal refl (ap (option_and_then goal_in) (sym e) ∙ (rows.agrees).same_goals name ∙ wanted)

-- ---- uses

-- a use by its goal
use-is : (one usage : Usage) → Use one ≡ Use usage → one ≡ usage
use-is one usage e = cc

-- where a goal is at work, it isn't published
at-work : (a s : Known) → IsAtWork a s Yes → ⊥
at-work a s h = grind arith

-- a use that is wanted isn't known to be so
pub use-unmet : (history : History) → HasRows history → (name : List ℕ) (usage : Usage) → goal_of history name ≡ Some (Use usage) → known history (Published name usage.node usage.target) ≡ Yes → ⊥
use-unmet history rows name usage wanted met = by (row_of rows.parts.rows name) refl
  where
    thing : Thing
    thing = Published name usage.node usage.target

    marked : (row : RowShown) → row_of rows.parts.rows name ≡ Some row → AreMarked IsAtWork (λ mark. mark ≢ No) (Some (kept.Use usage)) row.node_entries → ⊥
    marked row e marks =
        let found = one-found (λ (x : NodeEntryShown). x.node) usage.node (HasMarks IsAtWork usage.target) IsAtRest row.node_entries marks in
        let has : HasMarks IsAtWork usage.target found.0 = found.2 in
        let is : has.published ≡ Yes
        = sym (known-there IsAtWork usage.target found.0 has) ∙ sym (ap (mark_in (publication_known usage.target)) found.1) ∙ sym (ap (mark_in (mark_of thing)) e) ∙ (rows.agrees).same_marks thing ∙ met in
        at-work (found.0).attached (found.0).staged (subst (IsAtWork (found.0).attached (found.0).staged) is has.marks)

    wished : (row : RowShown) → row_of rows.parts.rows name ≡ Some row → (own : KeptGoal) → row.goal ≡ Some own → goal_shown row.arguments own ≡ Use usage → ⊥
    wished row e (kept.Use other) f g =
        let steady = each_of (IsSteadyRowIf (Unit {0})) rows.parts.rows row rows.steady (among-find (λ (r : RowShown). same_text r.name name) rows.parts.rows row e) in
        marked row e (subst (λ u. AreMarked IsAtWork (λ mark. mark ≢ No) (Some (kept.Use u)) row.node_entries) (use-is other usage g) (subst (λ o. AreMarked IsAtWork (λ mark. mark ≢ No) o row.node_entries) f steady.marked))
    wished row e kept.Create f g = use-other usage row.arguments (sym g)
    wished row e (kept.Stop node target) f g = use-stop usage node target (sym g)
    wished row e kept.Delete f g = use-delete usage (sym g)

    at : (row : RowShown) → row_of rows.parts.rows name ≡ Some row → (own : Option KeptGoal) → row.goal ≡ own → option_map (goal_shown row.arguments) own ≡ Some (Use usage) → ⊥
    at row e None f g = none-some (Use usage) g
    at row e (Some own) f g = wished row e own f (same_Some (goal_shown row.arguments own) (Use usage) g)

    by : (o : Option RowShown) → row_of rows.parts.rows name ≡ o → ⊥
    by None e = none-some (Use usage) (ap (option_and_then goal_in) (sym e) ∙ (rows.agrees).same_goals name ∙ wanted)
    by (Some row) e = at row e row.goal refl (ap (option_and_then goal_in) (sym e) ∙ (rows.agrees).same_goals name ∙ wanted)
