-- The calls that are due for goals, and how goals end.
use Rattle.csi_world.proofs.Words.{◌≡◌, ◌⊎◌, ℕ, List, ◌∷◌, true, Option, Some, None, refl, ◌∙◌, ap, inl, is_some}
use Rattle.csi_world.proofs.Words.{IsSome, option_and_then, Kind, Controller, Node, Arguments, Usage, Yes, No, Goal}
use Rattle.csi_world.proofs.Words.{Create, Use, Stop, Delete, Item, Noted, History, with_items, goal_of, id_of, known}
use Rattle.csi_world.proofs.Words.{Due, call_for, due_kind, due_for, due_call, is_forward, is_forward_due, World}
use Rattle.csi_world.proofs.Words.{is_at_rest, node_in, IsStopped, WasRefused, arith}
use Rattle.csi_world.proofs.Lemmas.{false≢true, none-some, same_Some}
use Rattle.csi_types.specs.declared.call.Kind.TheVariants as kinds
use Rattle.csi_orchestrator.specs.declared.thing.Thing.TheVariants as things
use Rattle.csi_world.proofs.CallThings.{is_making}
use Rattle.csi_world.proofs.GoalsMet.{IsMet, met-where-none, goal-id, use-unmet}
use Rattle.csi_world.proofs.RowsShown.{HasRows, have-ids}
use Rattle.csi_world.proofs.RunWorlds.{IsRun}
use Rattle.csi_world.proofs.SettledFrames.{self, Extends, IsUnrefused}

-- ---- goals

-- what was noted last is wanted
pub goal-noted : (history : History) (name : List ℕ) (goal : Option Goal) (items : List Item) → goal_of (with_items history (Noted name goal ∷ items)) name ≡ goal
goal-noted history name goal items = let same = self name in rw same refl

-- the call of a kind that is due for a goal, if one is
abbrev pub due_from : List ℕ → Goal → Option ℕ → Option Kind → Option Due
due_from name goal id kind = option_and_then (call_for name (Some goal) id) kind

-- a call that is due for a goal is for the controller, or for the goal's node
pub due-party : (name : List ℕ) (goal : Goal) (id : Option ℕ) (kind : Option Kind) (due : Due) → due_from name goal id kind ≡ Some due → (due.party ≡ Controller) ⊎ ((node : List ℕ) × (due.party ≡ Node node) × (node_in (Some goal) ≡ Some node))
due-party name goal id kind due e = grind (arith, none-some, same_Some)

-- a forward call is due for a use alone
pub due-forward : (name : List ℕ) (goal : Goal) (id : Option ℕ) (kind : Option Kind) (due : Due) → due_from name goal id kind ≡ Some due → is_forward due.call ≡ true → (usage : Usage) × (goal ≡ Use usage)
due-forward name goal id kind due e forward = grind (arith, none-some, false≢true, same_Some)

-- a call that is due for a use is one
pub use-forward : (name : List ℕ) (usage : Usage) (id : Option ℕ) (kind : Option Kind) (due : Due) → due_from name (Use usage) id kind ≡ Some due → is_forward due.call ≡ true
use-forward name usage id kind due e = grind (arith, none-some, same_Some)

-- while a use is wanted, a forward call is due
pub use-due : (history : History) → HasRows history → (name : List ℕ) (usage : Usage) → goal_of history name ≡ Some (Use usage) → is_forward_due (due_call history name) ≡ true
use-due history rows name usage wanted = ap (λ g. is_forward_due (due_for history name g)) wanted ∙ by (due_for history name (Some (Use usage))) refl
  where
    by : (o : Option Due) → due_for history name (Some (Use usage)) ≡ o → is_forward_due o ≡ true
    by None e = absurd (use-unmet history rows name usage wanted (met-where-none history name (Use usage) (goal-id history rows name (Use usage) wanted) e))
    by (Some due) e = use-forward name usage (id_of history name) (due_kind history name (Use usage)) due e

-- CreateVolume is due for a creation alone
pub due-create : (name : List ℕ) (goal : Goal) (id : Option ℕ) (kind : Option Kind) (due : Due) → due_from name goal id kind ≡ Some due → is_making due.call ≡ true → (arguments : Arguments) × (goal ≡ Create arguments)
due-create name goal id kind due e makes = grind (arith, none-some, false≢true, is_making, same_Some)

-- ---- how a goal ends

-- by what is met at the end, or undone since a refusal
abbrev pub Ends : ℕ → World → List ℕ → Goal → Type 0
Ends sent world name (Create arguments) = IsSome (id_of world.history name) ⊎ ((was : WasRefused world sent) × (was.kind ≡ kinds.CreateVolume))
Ends sent world name (Use usage) =
    ((known world.history (things.Published name usage.node usage.target) ≡ Yes) × (WasRefused world sent → ⊥)) ⊎ (IsStopped world.history name usage.node usage.target × WasRefused world sent)
Ends sent world name (Stop node target) = IsStopped world.history name node target
Ends sent world name Delete = known world.history (things.Exists name) ≡ No

-- what is met ends so
pub met-ends : (sent : ℕ) (world : World) (name : List ℕ) (goal : Goal) → IsRun world → IsUnrefused sent world goal → IsMet world.history name goal → Ends sent world name goal
met-ends sent world name (Create arguments) run clean met = inl (let has = have-ids world run.right name met in ap is_some has.1)
met-ends sent world name (Use usage) run clean met = inl (met, clean usage refl)
met-ends sent world name (Stop node target) run clean met = met
met-ends sent world name Delete run clean met = met

-- from a world to one in which the volume is at rest, and its goal ended
pub record Finishes (sent : ℕ) (world : World) (name : List ℕ) (goal : Goal) (last : World) : Type 0 where
  pub rest : is_at_rest last name ≡ true
  pub ends : Ends sent last name goal
  pub extends : Extends world last
