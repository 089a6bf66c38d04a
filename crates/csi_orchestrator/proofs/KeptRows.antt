-- Why the rows of an orchestrator keep their rules.
use Rattle.csi_orchestrator.proofs.Words.{◌≡◌, List, true, subst, inl, inr, ◌⊎◌, not, Result, Ok, Err, Kind, Reply}
use Rattle.csi_orchestrator.proofs.Words.{OrchFault, Step, Input, Comes, RowShown, OrchestratorParts, closed}
use Rattle.csi_orchestrator.proofs.Words.{is_row_forgotten, remembered, row_at_loss, IsSteadyRowIf, IsSteadyRow}
use Rattle.csi_orchestrator.proofs.Words.{AreSteadyRowsIf, AreSteadyRows, MovedRows, moved_rows, step_heard, row_moves}
use Rattle.csi_orchestrator.proofs.Words.{IsSoundRow, AreSoundRows, arith}
use Rattle.csi_orchestrator.proofs.Lemmas.{false≢true, each-map, each-filter, each-weaker, each_of}
use Rattle.csi_types.specs.Public.Frame.{IsAllowed}
use Rattle.csi_types.specs.Public.Reply.{has_id_by_rule}
use Rattle.csi_orchestrator.proofs.KeptLosses.{lost-kept}
use Rattle.csi_orchestrator.proofs.EntryRules.{each-put}
use Rattle.csi_orchestrator.proofs.KeptSteps.{closed-kept, step-kept}
use Rattle.csi_orchestrator.proofs.KeptGoals.{BringsId, KeptAfter, new-kept}
use Rattle.csi_orchestrator.proofs.RowsMoved.{IsAsked, IsStepOf, IsRowMove, IsRefused, IsIgnored, TakesStep, PutsIn, StartsAgain, GivesUp, row-moved}

-- a frame that comes has parts that go together
abbrev pub IsFitInput : Input → Type 0
IsFitInput (Comes frame) = IsAllowed frame.party frame.body
IsFitInput input = Unit {0}

-- or it needn't
abbrev pub IsFitInputIf : Type 0 → Input → Type 0
IsFitInputIf N (Comes frame) = IsAllowed frame.party frame.body ⊎ N
IsFitInputIf N input = Unit {0}

-- what is told, if anything, is kept so
abbrev AllKeptAfter : Type 0 → Result MovedRows OrchFault → Type 0
AllKeptAfter N (Ok moved_rows) = AreSteadyRowsIf N moved_rows.parts.rows
AllKeptAfter N (Err fault) = Unit {0}

-- a reply that has an id by rule brings one where it tells that a volume was made
brings : (N : Type 0) (kind : Kind) (reply : Reply) → (has_id_by_rule kind reply ≡ true) ⊎ N → BringsId N (step_heard kind reply)
brings N kind reply h = grind (arith, BringsId, false≢true)

-- what an input asks for brings none, and what it brings is such a reply's
step-brings : (N : Type 0) (input : Input) (step : Step) → IsFitInputIf N input → IsStepOf input step → BringsId N step
step-brings N input step fit h = grind (arith, IsAsked, BringsId, brings)

-- the rows that are remembered
remembered-steady : (N : Type 0) (rows : List RowShown) → AreSteadyRowsIf N rows → AreSteadyRowsIf N (remembered rows)
remembered-steady N rows kept = each-filter (IsSteadyRowIf N) (λ (r : RowShown). not (is_row_forgotten r)) rows kept

-- whatever comes
stays-steady : (N : Type 0) (parts : OrchestratorParts) (input : Input) (result : Result MovedRows OrchFault) → AreSoundRows parts.rows → AreSteadyRowsIf N parts.rows → IsFitInputIf N input → IsRowMove parts input result → AllKeptAfter N result
stays-steady N parts input _ sound kept fit (IsRefused fault) = tt
stays-steady N parts input _ sound kept fit IsIgnored = kept
stays-steady N parts input _ sound kept fit (TakesStep answer step row moved_row among of fits e) =
    each-put (IsSteadyRowIf N) (λ (r : RowShown). r.name) moved_row.row parts.rows
    (subst (KeptAfter N) e (step-kept N parts.nodes parts.last step row (each_of IsSoundRow parts.rows row sound.each among) fits (step-brings N input step fit of) (each_of (IsSteadyRowIf N) parts.rows row kept among))) kept
stays-steady N parts input _ sound kept fit (PutsIn name arguments moved_row free e) =
    each-put (IsSteadyRowIf N) (λ (r : RowShown). r.name) moved_row.row parts.rows (subst (KeptAfter N) e (new-kept N parts.last name arguments)) kept
stays-steady N parts input _ sound kept fit (StartsAgain nodes is free) = each-map (IsSteadyRowIf N) (IsSteadyRowIf N) closed (remembered parts.rows) (closed-kept N) (remembered-steady N parts.rows kept)
stays-steady N parts input _ sound kept fit (GivesUp node is) = each-map (IsSteadyRowIf N) (IsSteadyRowIf N) (row_at_loss node) (remembered parts.rows) (lost-kept N node) (remembered-steady N parts.rows kept)

-- whatever comes, the rows keep their rules
pub rows-stay-steady-if : (N : Type 0) (parts : OrchestratorParts) (input : Input) (moved_rows : MovedRows) → AreSoundRows parts.rows → AreSteadyRowsIf N parts.rows → IsFitInputIf N input → row_moves parts input ≡ Ok moved_rows
    → AreSteadyRowsIf N moved_rows.parts.rows
rows-stay-steady-if N parts input moved_rows sound kept fit e = stays-steady N parts input (Ok moved_rows) sound kept fit (subst (IsRowMove parts input) e (row-moved parts input sound))

-- with the frames that there are
pub rows-stay-steady : (parts : OrchestratorParts) (input : Input) (moved_rows : MovedRows) → AreSoundRows parts.rows → AreSteadyRows parts.rows → IsFitInput input → row_moves parts input ≡ Ok moved_rows
    → AreSteadyRows moved_rows.parts.rows
rows-stay-steady parts input moved_rows sound kept fit e = rows-stay-steady-if ⊥ parts input moved_rows sound kept (by input fit) e
  where
    by : (input : Input) → IsFitInput input → IsFitInputIf ⊥ input
    by (Comes frame) fit = inl fit
    by input fit = tt

-- with any frames
pub any-fit : (input : Input) → IsFitInputIf (Unit {0}) input
any-fit (Comes frame) = inr tt
any-fit input = tt

-- a row that keeps the rules with the frames that there are keeps those with any
pub steady-any : (row : RowShown) → IsSteadyRow row → IsSteadyRowIf (Unit {0}) row
steady-any row kept = grind arith

-- so it is of all
pub all-steady-any : (rows : List RowShown) → AreSteadyRows rows → AreSteadyRowsIf (Unit {0}) rows
all-steady-any rows kept = each-weaker IsSteadyRow (IsSteadyRowIf (Unit {0})) rows steady-any kept
