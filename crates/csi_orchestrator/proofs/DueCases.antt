-- The eight ways in which a call is due for a row.
use Rattle.csi_orchestrator.proofs.Words.{◌≡◌, ℕ, List, Bool, true, false, cond, not, refl, subst, Option, Some, None}
use Rattle.csi_orchestrator.proofs.Words.{option_and_then, Controller, Node, kind_of, Create, Use, Stop, Delete, Usage}
use Rattle.csi_orchestrator.proofs.Words.{is_yes, is_no, Due, call_for, RowShown, goal_in, marks_for, due_in, use_due}
use Rattle.csi_orchestrator.proofs.Words.{stop_due, delete_due, arith}
use Rattle.csi_orchestrator.proofs.Lemmas.{same_Some, none-some}
use Rattle.csi_types.specs.declared.call.Call.TheVariants as calls

-- the eight calls
abbrev pub making : RowShown → Due
making row = record { party = Controller; call = calls.CreateVolume row.name (row.arguments).required (row.arguments).limit (row.arguments).capabilities }

-- DeleteVolume
abbrev pub removing : ℕ → Due
removing id = record { party = Controller; call = calls.DeleteVolume id }

-- ControllerPublishVolume
abbrev pub attaching : Usage → ℕ → Due
attaching usage id = record { party = Controller; call = calls.ControllerPublishVolume id usage.node usage.capability usage.readonly }

-- NodeStageVolume
abbrev pub staging : Usage → ℕ → Due
staging usage id = record { party = Node usage.node; call = calls.NodeStageVolume id usage.capability }

-- NodePublishVolume
abbrev pub publishing : Usage → ℕ → Due
publishing usage id = record { party = Node usage.node; call = calls.NodePublishVolume id usage.target usage.capability usage.readonly }

-- NodeUnpublishVolume
abbrev pub unpublishing : List ℕ → List ℕ → ℕ → Due
unpublishing node target id = record { party = Node node; call = calls.NodeUnpublishVolume id target }

-- NodeUnstageVolume
abbrev pub unstaging : List ℕ → ℕ → Due
unstaging node id = record { party = Node node; call = calls.NodeUnstageVolume id }

-- ControllerUnpublishVolume
abbrev pub detaching : List ℕ → ℕ → Due
detaching node id = record { party = Controller; call = calls.ControllerUnpublishVolume id node }

-- what is so where the call is due
pub data IsDueFor (row : RowShown) : Due → Type 0 where
  ToMake : row.goal ≡ Some Create → is_yes row.exists ≡ false
      → IsDueFor row (making row)
  ToRemove : (id : ℕ) → row.goal ≡ Some Delete → row.id ≡ Some id → is_no row.exists ≡ false
      → IsDueFor row (removing id)
  ToAttach : (usage : Usage) (id : ℕ) → row.goal ≡ Some (Use usage) → row.id ≡ Some id → is_yes (marks_for row (Use usage)).attached ≡ false
      → IsDueFor row (attaching usage id)
  ToStage : (usage : Usage) (id : ℕ) → row.goal ≡ Some (Use usage) → row.id ≡ Some id → is_yes (marks_for row (Use usage)).attached ≡ true → is_yes (marks_for row (Use usage)).staged ≡ false
      → IsDueFor row (staging usage id)
  ToPublish : (usage : Usage) (id : ℕ) → row.goal ≡ Some (Use usage) → row.id ≡ Some id → is_yes (marks_for row (Use usage)).attached ≡ true → is_yes (marks_for row (Use usage)).staged ≡ true
      → is_yes (marks_for row (Use usage)).published ≡ false
      → IsDueFor row (publishing usage id)
  ToUnpublish : (node target : List ℕ) (id : ℕ) → row.goal ≡ Some (Stop node target) → row.id ≡ Some id → is_no (marks_for row (Stop node target)).published ≡ false
      → IsDueFor row (unpublishing node target id)
  ToUnstage : (node target : List ℕ) (id : ℕ) → row.goal ≡ Some (Stop node target) → row.id ≡ Some id → is_no (marks_for row (Stop node target)).published ≡ true
      → (marks_for row (Stop node target)).others ≡ false → is_no (marks_for row (Stop node target)).staged ≡ false
      → IsDueFor row (unstaging node id)
  ToDetach : (node target : List ℕ) (id : ℕ) → row.goal ≡ Some (Stop node target) → row.id ≡ Some id → is_no (marks_for row (Stop node target)).published ≡ true
      → (marks_for row (Stop node target)).others ≡ false → is_no (marks_for row (Stop node target)).staged ≡ true → is_no (marks_for row (Stop node target)).attached ≡ false
      → IsDueFor row (detaching node id)

-- goal by goal
by-create : (row : RowShown) (due : Due) → row.goal ≡ Some Create → (b : Bool) → is_yes row.exists ≡ b
    → cond b None (Some (making row)) ≡ Some due → IsDueFor row due
by-create row due goal true e is = absurd (none-some due is)
by-create row due goal false e is = subst (IsDueFor row) (same_Some _ due is) (ToMake goal e)

-- a call that is due for a delete is so in one of the eight ways
by-delete : (row : RowShown) (due : Due) → row.goal ≡ Some Delete → (id : Option ℕ) → row.id ≡ id → option_and_then (delete_due (marks_for row Delete)) id ≡ Some due → IsDueFor row due
by-delete row due goal None own is = absurd (none-some due is)
by-delete row due goal (Some id) own is = by (is_no row.exists) refl is
  where
    by : (b : Bool) → is_no row.exists ≡ b → cond b None (Some (removing id)) ≡ Some due → IsDueFor row due
    by true e is = absurd (none-some due is)
    by false e is = subst (IsDueFor row) (same_Some _ due is) (ToRemove id goal own e)

-- so is one that is due for a use
by-use : (row : RowShown) (due : Due) (usage : Usage) → row.goal ≡ Some (Use usage) → (id : Option ℕ) → row.id ≡ id → option_and_then (use_due usage (marks_for row (Use usage))) id ≡ Some due → IsDueFor row due
by-use row due usage goal None own is = absurd (none-some due is)
by-use row due usage goal (Some id) own is = by (is_yes (marks_for row (Use usage)).attached) refl (is_yes (marks_for row (Use usage)).staged) refl (is_yes (marks_for row (Use usage)).published) refl is
  where
    by : (a : Bool) → is_yes (marks_for row (Use usage)).attached ≡ a → (s : Bool) → is_yes (marks_for row (Use usage)).staged ≡ s → (p : Bool) → is_yes (marks_for row (Use usage)).published ≡ p
        → cond (not a) (Some (attaching usage id))
        (cond (not s) (Some (staging usage id))
        (cond (not p) (Some (publishing usage id)) None)) ≡ Some due
        → IsDueFor row due
    by false a s e p f is = subst (IsDueFor row) (same_Some _ due is) (ToAttach usage id goal own a)
    by true a false e p f is = subst (IsDueFor row) (same_Some _ due is) (ToStage usage id goal own a e)
    by true a true e false f is = subst (IsDueFor row) (same_Some _ due is) (ToPublish usage id goal own a e f)
    by true a true e true f is = absurd (none-some due is)

-- so is one that is due for a stop
by-stop : (row : RowShown) (due : Due) (node target : List ℕ) → row.goal ≡ Some (Stop node target) → (id : Option ℕ) → row.id ≡ id → option_and_then (stop_due node target (marks_for row (Stop node target))) id ≡ Some due → IsDueFor row due
by-stop row due node target goal None own is = absurd (none-some due is)
by-stop row due node target goal (Some id) own is =
    by (is_no (marks_for row (Stop node target)).published) refl (marks_for row (Stop node target)).others refl (is_no (marks_for row (Stop node target)).staged) refl (is_no (marks_for row (Stop node target)).attached) refl is
  where
    by : (p : Bool) → is_no (marks_for row (Stop node target)).published ≡ p → (o : Bool) → (marks_for row (Stop node target)).others ≡ o
        → (s : Bool) → is_no (marks_for row (Stop node target)).staged ≡ s → (a : Bool) → is_no (marks_for row (Stop node target)).attached ≡ a
        → cond (not p) (Some (unpublishing node target id))
        (cond o None
        (cond (not s) (Some (unstaging node id))
        (cond (not a) (Some (detaching node id)) None))) ≡ Some due
        → IsDueFor row due
    by false p o e s f a g is = subst (IsDueFor row) (same_Some _ due is) (ToUnpublish node target id goal own p)
    by true p true e s f a g is = absurd (none-some due is)
    by true p false e false f a g is = subst (IsDueFor row) (same_Some _ due is) (ToUnstage node target id goal own p e f)
    by true p false e true f false g is = subst (IsDueFor row) (same_Some _ due is) (ToDetach node target id goal own p e f g)
    by true p false e true f true g is = absurd (none-some due is)

-- each call that is due for a row is so in one of the eight ways
pub due-cases : (row : RowShown) (due : Due) → due_in row ≡ Some due → IsDueFor row due
due-cases row due is = grind (arith, none-some, by-create, by-use, by-stop, by-delete)

-- the call that is due is the one of its kind for the row's goal
pub spelled : (row : RowShown) (due : Due) → IsDueFor row due → call_for row.name (goal_in row) row.id (kind_of due.call) ≡ Some due
spelled row due h = grind arith
