-- What is shown once names were forgotten and uses stopped, by what was shown before.
use Rattle.csi_orchestrator.proofs.Words.{◌≡◌, ℕ, List, [], ◌∷◌, map, Bool, true, false, cond, refl, ap, Option, Some}
use Rattle.csi_orchestrator.proofs.Words.{None, filter_map, ◌||◌, list_any, cons_option, same_text, Thing, Item}
use Rattle.csi_orchestrator.proofs.Words.{Forgotten, Noted, History, with_items, arguments_in_goal, stopping}
use Rattle.csi_orchestrator.proofs.Words.{OrchestratorView, Agrees, after_forgotten, after_noted, arith}
use Rattle.csi_orchestrator.proofs.Lemmas.{false≢true, or_parts, same_text-tells}
use Rattle.csi_orchestrator.specs.Model.History.{Goal, Use, Stop}
use Rattle.csi_orchestrator.proofs.TextLists.{same_text-flip, text-same}
use Rattle.csi_orchestrator.proofs.ViewsFollow.{forgotten-follows, noted-follows}

-- a test of one more name, and then of others
cond-more : {X : Type 0} (b rest : Bool) (x y : X) → cond b x (cond rest x y) ≡ cond (b || rest) x y
cond-more true rest x y = refl
cond-more false rest x y = refl

-- ---- names that are forgotten

-- each in turn
abbrev pub after_forgetting : List (List ℕ) → OrchestratorView → OrchestratorView
after_forgetting [] view = view
after_forgetting (name ∷ names) view = after_forgotten name (after_forgetting names view)

-- it agrees with the history that goes on so
pub forgetting-follows : (names : List (List ℕ)) (view : OrchestratorView) (history : History) → Agrees view history → Agrees (after_forgetting names view) (with_items history (map Forgotten names))
forgetting-follows [] view history agrees = agrees
forgetting-follows (name ∷ names) view history agrees =
    forgotten-follows (after_forgetting names view) (with_items history (map Forgotten names)) name (forgetting-follows names view history agrees)

-- what two views show alike
pub record AreBeside (a b : OrchestratorView) : Type 0 where
  pub nodes : a.nodes ≡ b.nodes
  pub last : a.last ≡ b.last
  pub marks : (thing : Thing) → a.marks thing ≡ b.marks thing
  pub holdings : (name node : List ℕ) → a.holdings name node ≡ b.holdings name node
  pub open_calls : (name : List ℕ) → a.open_calls name ≡ b.open_calls name

-- marks, holdings, goals and counts stay
pub record IsForgotten (names : List (List ℕ)) (a b : OrchestratorView) : Type 0 where
  pub beside : AreBeside a b
  pub goals : (name : List ℕ) → a.goals name ≡ b.goals name
  pub counts : (name : List ℕ) → a.counts name ≡ b.counts name
  pub rows : (other : List ℕ) → a.rows other ≡ cond (list_any (same_text other) names) false (b.rows other)
  pub ids : (other : List ℕ) → a.ids other ≡ cond (list_any (same_text other) names) None (b.ids other)
  pub arguments : (other : List ℕ) → a.arguments other ≡ cond (list_any (same_text other) names) None (b.arguments other)

-- so it is
pub forgetting-shows : (names : List (List ℕ)) (view : OrchestratorView) → IsForgotten names (after_forgetting names view) view
forgetting-shows [] view = grind arith
forgetting-shows (name ∷ names) view = grind (arith, cond-more, same_text-flip, (forgetting-shows names view))

-- ---- uses that are stopped

-- what is wanted once the node was lost
abbrev pub stopped : List ℕ → Option Goal → Option Goal
stopped node (Some (Use usage)) = cond (same_text usage.node node) (Some (Stop usage.node usage.target)) (Some (Use usage))
stopped node goal = goal

-- a use is stopped
abbrev pub is_stopped : List ℕ → Option Goal → Bool
is_stopped node (Some (Use usage)) = same_text usage.node node
is_stopped node goal = false

-- a goal that is a use of the node becomes its stop, and isn't tried yet
abbrev pub after_stopped : List ℕ → List ℕ → Option Goal → OrchestratorView → OrchestratorView
after_stopped node name goal view = cond (is_stopped node goal) (after_noted name (stopped node goal) view) view

-- each in turn
abbrev pub after_stopping : List ℕ → (List ℕ → Option Goal) → List (List ℕ) → OrchestratorView → OrchestratorView
after_stopping node goals [] view = view
after_stopping node goals (name ∷ names) view = after_stopped node name (goals name) (after_stopping node goals names view)

-- one agrees
stopped-follows : (node name : List ℕ) (goal : Option Goal) (view : OrchestratorView) (history : History) (items : List Item) → Agrees view (with_items history items)
    → Agrees (after_stopped node name goal view) (with_items history (cons_option (stopping node name goal) items))
stopped-follows node name (Some (Use usage)) view history items agrees = by (same_text usage.node node)
  where
    by : (b : Bool) → Agrees (cond b (after_noted name (cond b (Some (Stop usage.node usage.target)) (Some (Use usage))) view) view)
        (with_items history (cons_option (cond b (Some (Noted name (Some (Stop usage.node usage.target)))) None) items))
    by true = noted-follows view (with_items history items) name (Some (Stop usage.node usage.target)) agrees
    by false = agrees
stopped-follows node name goal view history items agrees = agrees

-- all agree
pub stopping-follows : (node : List ℕ) (goals : List ℕ → Option Goal) (names : List (List ℕ)) (view : OrchestratorView) (history : History) → Agrees view history
    → Agrees (after_stopping node goals names view) (with_items history (filter_map (λ name. stopping node name (goals name)) names))
stopping-follows node goals [] view history agrees = agrees
stopping-follows node goals (name ∷ names) view history agrees =
    stopped-follows node name (goals name) (after_stopping node goals names view) history (filter_map (λ n. stopping node n (goals n)) names) (stopping-follows node goals names view history agrees)

-- what they show: of a name among them that has a use there, its stop
pub record AreStopped (node : List ℕ) (wished : List ℕ → Option Goal) (names : List (List ℕ)) (a b : OrchestratorView) : Type 0 where
  pub beside : AreBeside a b
  pub ids : (name : List ℕ) → a.ids name ≡ b.ids name
  pub arguments : (name : List ℕ) → a.arguments name ≡ b.arguments name
  pub rows : (other : List ℕ) → b.rows other ≡ true → a.rows other ≡ true
  pub others : (other : List ℕ) → list_any (same_text other) names ≡ false → (a.rows other ≡ b.rows other) × (a.goals other ≡ b.goals other) × (a.counts other ≡ b.counts other)
  pub goals : (other : List ℕ) → list_any (same_text other) names ≡ true → b.goals other ≡ wished other → a.goals other ≡ stopped node (wished other)
  pub counts : (other : List ℕ) → list_any (same_text other) names ≡ true → a.counts other ≡ cond (is_stopped node (wished other)) 0 (b.counts other)

-- the stop of a use has no arguments
stop-plain : (node : List ℕ) (goal : Option Goal) → is_stopped node goal ≡ true → arguments_in_goal (stopped node goal) ≡ None
stop-plain node (Some (Use usage)) e = ap (λ b. arguments_in_goal (cond b (Some (Stop usage.node usage.target)) (Some (Use usage)))) e
stop-plain node goal e = absurd (false≢true e)

-- what isn't stopped stays
pub not-stopped : (node : List ℕ) (goal : Option Goal) → is_stopped node goal ≡ false → stopped node goal ≡ goal
not-stopped node (Some (Use usage)) e = ap (λ b. cond b (Some (Stop usage.node usage.target)) (Some (Use usage))) e
not-stopped node goal e = refl

-- what is shown once one goal was looked at
record IsOneStopped (node name : List ℕ) (goal : Option Goal) (a b : OrchestratorView) : Type 0 where
  beside : AreBeside a b
  ids : (other : List ℕ) → a.ids other ≡ b.ids other
  arguments : (other : List ℕ) → a.arguments other ≡ b.arguments other
  rows : (other : List ℕ) → b.rows other ≡ true → a.rows other ≡ true
  others : (other : List ℕ) → same_text name other ≡ false → (a.rows other ≡ b.rows other) × (a.goals other ≡ b.goals other) × (a.counts other ≡ b.counts other)
  goals : a.goals name ≡ cond (is_stopped node goal) (stopped node goal) (b.goals name)
  counts : a.counts name ≡ cond (is_stopped node goal) 0 (b.counts name)

-- so it is
stop-one : (node name : List ℕ) (goal : Option Goal) (view : OrchestratorView) → IsOneStopped node name goal (after_stopped node name goal view) view
stop-one node name goal view = grind (arith, stop-plain, text-same)

-- so it is with all
pub stopping-shows : (node : List ℕ) (goals : List ℕ → Option Goal) (names : List (List ℕ)) (view : OrchestratorView) → AreStopped node goals names (after_stopping node goals names view) view
stopping-shows node goals [] view = grind (arith, false≢true)
stopping-shows node goals (name ∷ names) view = grind (arith, stop-one, or_parts, same_text-flip, not-stopped, same_text-tells, (stopping-shows node goals names view))
