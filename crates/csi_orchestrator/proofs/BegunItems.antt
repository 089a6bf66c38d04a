-- What the beginning of a session adds to a history: beside its start, and the loss of a node, names are forgotten and uses stopped.
use Rattle.csi_orchestrator.proofs.Words.{◌≡◌, ◌+◌, ◌≤◌, ℕ, List, [], ◌∷◌, ◌++◌, length, map, Bool, true, refl, ◌∙◌}
use Rattle.csi_orchestrator.proofs.Words.{ap, arith, Option, None, filter, filter_map, AllByRecursion, cons_option}
use Rattle.csi_orchestrator.proofs.Words.{Number, Item, Forgotten, Noted, History, goal_of, issued_in, last_in}
use Rattle.csi_orchestrator.proofs.Words.{names_of, IsUnused, AreWellFormed, is_forgotten, forgetting, stopping}
use Rattle.csi_orchestrator.proofs.Words.{stopping_all}
use Rattle.csi_orchestrator.proofs.Lemmas.{false≢true, length-map, each-append}
use Rattle.csi_orchestrator.specs.Model.History.{Goal}

-- a name is forgotten, or something is noted
abbrev pub IsAside : Item → Type 0
IsAside (Noted name goal) = Unit {0}
IsAside (Forgotten name) = Unit {0}
IsAside item = ⊥

-- so it is of each
abbrev pub AreAside : List Item → Type 0
AreAside items = AllByRecursion IsAside items

-- the names that are forgotten
forgotten-aside : (names : List (List ℕ)) → AreAside (map Forgotten names)
forgotten-aside [] = tt
forgotten-aside (name ∷ names) = (tt, forgotten-aside names)

-- a use that is stopped
stop-aside : (node name : List ℕ) (goal : Option Goal) (rest : List Item) → AreAside rest → AreAside (cons_option (stopping node name goal) rest)
stop-aside node name goal rest aside = grind arith

-- each of them
stops-aside : (node : List ℕ) (goals : List ℕ → Option Goal) (names : List (List ℕ)) → AreAside (filter_map (λ name. stopping node name (goals name)) names)
stops-aside node goals [] = tt
stops-aside node goals (name ∷ names) = stop-aside node name (goals name) _ (stops-aside node goals names)

-- what is added where a session begins
pub forgetting-aside : (history : History) → AreAside (forgetting history)
forgetting-aside history = forgotten-aside (filter (is_forgotten history) (names_of history))

-- the same where a node is lost
pub stopping-aside : (history : History) (node : List ℕ) → AreAside (stopping_all history node)
stopping-aside history node = stops-aside node (goal_of history) (names_of history)

-- both
pub loss-aside : (history : History) (node : List ℕ) → AreAside (forgetting history ++ stopping_all history node)
loss-aside history node = each-append IsAside (forgetting history) (stopping_all history node) (forgetting-aside history) (stopping-aside history node)

-- ---- what they leave as it was

-- the last number
pub last-aside : (began : Number) (later older : List Item) → AreAside later → last_in began (later ++ older) ≡ last_in began older
last-aside began [] older aside = refl
last-aside began (Noted name goal ∷ later) older aside = last-aside began later older aside.1
last-aside began (Forgotten name ∷ later) older aside = last-aside began later older aside.1
last-aside began (item ∷ later) older aside = absurd aside.0

-- the calls that were sent
pub issued-aside : (later older : List Item) → AreAside later → issued_in (later ++ older) ≡ issued_in older
issued-aside [] older aside = refl
issued-aside (Noted name goal ∷ later) older aside = issued-aside later older aside.1
issued-aside (Forgotten name ∷ later) older aside = issued-aside later older aside.1
issued-aside (item ∷ later) older aside = absurd aside.0

-- the form, where nothing was sent in the session
pub form-aside : (began : Number) (later older : List Item) → AreAside later → AreWellFormed began older → IsUnused (last_in began older) → AreWellFormed began (later ++ older)
form-aside began [] older aside form unused = form
form-aside began (Noted name goal ∷ later) older aside form unused = (tt, form-aside began later older aside.1 form unused)
form-aside began (Forgotten name ∷ later) older aside form unused =
    (ap (λ (n : Number). n.call) (last-aside began later older aside.1) ∙ unused, form-aside began later older aside.1 form unused)
form-aside began (item ∷ later) older aside form unused = absurd aside.0

-- ---- how many there are

-- of the names, each is in at most one of two lists
few-in-both : (p : List ℕ → Bool) (f : List ℕ → Option Item) (names : List (List ℕ)) → ((name : List ℕ) → p name ≡ true → f name ≡ None) → length (filter p names) + length (filter_map f names) ≤ length names
few-in-both p f [] apart = omega arith
few-in-both p f (name ∷ names) apart = grind (arith, (few-in-both p f names apart))

-- a name that is forgotten has no use
not-both : (history : History) (node name : List ℕ) → is_forgotten history name ≡ true → stopping node name (goal_of history name) ≡ None
not-both history node name e = grind (arith, false≢true)

-- one for each name at most is forgotten
pub few-forgotten : (history : History) → length (forgetting history) ≤ length (names_of history)
few-forgotten history =
    let least = few-in-both (is_forgotten history) (λ name. None) (names_of history) (λ name e. refl) in
    let long = length-map (filter (is_forgotten history) (names_of history)) Forgotten in
    omega (arith, least, long)

-- or stopped
pub few-begun : (history : History) (node : List ℕ) → length (forgetting history) + length (stopping_all history node) ≤ length (names_of history)
few-begun history node = grind (arith, few-in-both, not-both, length-map)
