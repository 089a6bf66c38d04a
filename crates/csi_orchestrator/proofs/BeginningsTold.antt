-- What the rows tell of a restart and of a loss.
use Rattle.csi_orchestrator.proofs.Words.{◌≡◌, ◌+◌, ℕ, List, [], ◌∷◌, not, map, refl, sym, ◌∙◌, ap, subst, Option}
use Rattle.csi_orchestrator.proofs.Words.{Some, None, Result, Ok, Err, OnOk, OnErr, IfErr, AllByRecursion, OrchFault}
use Rattle.csi_orchestrator.proofs.Words.{Row, OrchestratorCore, Input, Answer, Restarts, Loses, Restarted, GivenUp}
use Rattle.csi_orchestrator.proofs.Words.{without_node, RowShown, OrchestratorParts, is_row_forgotten, remembered}
use Rattle.csi_orchestrator.proofs.Words.{restart_refusal, loss_refusal, restarted_parts, row_at_loss, parts_at_loss}
use Rattle.csi_orchestrator.proofs.Words.{rows_of, orchestrator_parts_shown, MovedRows, moved_rows, row_shown, closed}
use Rattle.csi_orchestrator.proofs.Words.{moved_unless, row_moves, IsMoveOf, without_call, arith}
use Rattle.csi_orchestrator.proofs.Lemmas.{each-filter, filter-of_map}
use Rattle.csi_orchestrator.proofs.BeginningsAgree.{same-parts}

-- ---- rows whose calls are closed

-- each is without a call
pub all-closed : (rows : List Row) → AllByRecursion (λ (row : Row). row.open_call ≡ None) (map without_call rows)
all-closed [] = tt
all-closed (row ∷ rows) = (refl, all-closed rows)

-- the same of rows that are shown
pub each-unshown : (rows : List Row) → AllByRecursion (λ (r : RowShown). r.open_call ≡ None) (map row_shown rows) → AllByRecursion (λ (r : Row). r.open_call ≡ None) rows
each-unshown [] all = tt
each-unshown (row ∷ rows) all = (all.0, each-unshown rows all.1)

-- those that are remembered are without a call too
pub remembered-closed : (rows : List RowShown) → AllByRecursion (λ (r : RowShown). r.open_call ≡ None) (remembered (map closed rows))
remembered-closed rows = each-filter (λ (r : RowShown). r.open_call ≡ None) (λ (r : RowShown). not (is_row_forgotten r)) (map closed rows) (closed-each rows)
  where
    closed-each : (rows : List RowShown) → AllByRecursion (λ (r : RowShown). r.open_call ≡ None) (map closed rows)
    closed-each [] = tt
    closed-each (row ∷ rows) = (refl, closed-each rows)

-- whether the calls are closed before rows are forgotten or after makes no difference
pub closed-remembered : (rows : List RowShown) → remembered (map closed rows) ≡ map closed (remembered rows)
closed-remembered rows = filter-of_map (λ (r : RowShown). not (is_row_forgotten r)) closed rows

-- nor whether they are where a node is lost
lost-of_closed : (node : List ℕ) (rows : List RowShown) → map (row_at_loss node) (map closed rows) ≡ map (row_at_loss node) rows
lost-of_closed node [] = refl
lost-of_closed node (row ∷ rows) = grind (arith, (lost-of_closed node rows))

-- ---- what is told

-- unless it is refused, these parts are told
told-unless : {R : Type 0} (old new then : OrchestratorParts) (input : Input) (fault : Option OrchFault) (answer : Answer) (result : Result R OrchFault) → row_moves old input ≡ moved_unless fault then answer
    → OnOk result ((fault ≡ None) × (new ≡ then)) → IfErr result (λ told. fault ≡ Some told) → OnErr result (new ≡ old) → IsMoveOf old new input (λ r. answer) result
told-unless old new then input fault answer result is ok err stays = grind arith

-- the parts where they move, or else these
parts-of : OrchestratorParts → Result MovedRows OrchFault → OrchestratorParts
parts-of default (Ok moved) = moved.parts
parts-of default (Err fault) = default

-- what is refused doesn't move
refused-moves : (fault : OrchFault) (parts : OrchestratorParts) (answer : Answer) → ◌≡◌ {A = Result MovedRows OrchFault} (Err fault) (moved_rows parts answer) → ⊥
refused-moves fault parts answer e = cc

-- the parts that were told
pub value-told : {R : Type 0} (old new then : OrchestratorParts) (input : Input) (fault : Option OrchFault) (answer : Answer) (result : Result R OrchFault) → row_moves old input ≡ moved_unless fault then answer
    → IsMoveOf old new input (λ r. answer) result → OnOk result (new ≡ then)
unfolding parts-of
value-told old new then input fault answer (Err told) is move = tt
value-told old new then input fault answer (Ok r) is move = by fault (sym is ∙ move.ok)
  where
    by : (f : Option OrchFault) → moved_unless f then answer ≡ moved_rows new answer → new ≡ then
    by None e = sym (ap (parts-of then) e)
    by (Some fault) e = absurd (refused-moves fault new answer e)

-- ---- what a core becomes

-- the parts of a core that began a session with these nodes
pub restarted-parts : (old new : OrchestratorCore) (nodes : List (List ℕ)) (session : ℕ) → session ≡ old.last.session + 1 → new.nodes.items ≡ nodes → new.last ≡ record { session = session; call = 0 }
    → map row_shown (rows_of new.catalog) ≡ remembered (map closed (map row_shown (rows_of old.catalog))) → orchestrator_parts_shown new ≡ restarted_parts nodes (orchestrator_parts_shown old)
restarted-parts old new nodes session next is last rows =
    same-parts (orchestrator_parts_shown new) (restarted_parts nodes (orchestrator_parts_shown old)) is (last ∙ (λ i. record { session = next i; call = 0 }))
    (rows ∙ closed-remembered (map row_shown (rows_of old.catalog)))

-- of one that lost a node
pub lost-parts : (old new : OrchestratorCore) (node : List ℕ) (session : ℕ) (between : List RowShown) → session ≡ old.last.session + 1 → new.nodes.items ≡ without_node node old.nodes.items → new.last ≡ record { session = session; call = 0 }
    → between ≡ remembered (map closed (map row_shown (rows_of old.catalog))) → map row_shown (rows_of new.catalog) ≡ map (row_at_loss node) between
    → orchestrator_parts_shown new ≡ parts_at_loss node (orchestrator_parts_shown old)
lost-parts old new node session between next is last begun rows =
    same-parts (orchestrator_parts_shown new) (parts_at_loss node (orchestrator_parts_shown old)) is (last ∙ (λ i. record { session = next i; call = 0 }))
    (rows ∙ ap (map (row_at_loss node)) (begun ∙ closed-remembered (map row_shown (rows_of old.catalog))) ∙ lost-of_closed node (remembered (map row_shown (rows_of old.catalog))))

-- a restart is told
pub restart-told : {R : Type 0} (result : Result R OrchFault) (old new : OrchestratorCore) (nodes : List (List ℕ))
    → OnOk result ((restart_refusal old.last.session old.nodes.items nodes (map row_shown (rows_of old.catalog)) ≡ None) × (orchestrator_parts_shown new ≡ restarted_parts nodes (orchestrator_parts_shown old)))
    → IfErr result (λ fault. restart_refusal old.last.session old.nodes.items nodes (map row_shown (rows_of old.catalog)) ≡ Some fault) → OnErr result (orchestrator_parts_shown new ≡ orchestrator_parts_shown old)
    → IsMoveOf (orchestrator_parts_shown old) (orchestrator_parts_shown new) (Restarts nodes) (λ r. Restarted) result
restart-told result old new nodes ok err stays =
    told-unless (orchestrator_parts_shown old) (orchestrator_parts_shown new) (restarted_parts nodes (orchestrator_parts_shown old)) (Restarts nodes)
    (restart_refusal old.last.session old.nodes.items nodes (map row_shown (rows_of old.catalog))) Restarted result refl ok err stays

-- a loss is told
pub loss-told : {R : Type 0} (result : Result R OrchFault) (old new : OrchestratorCore) (node : List ℕ)
    → OnOk result ((loss_refusal old.last.session ≡ None) × (orchestrator_parts_shown new ≡ parts_at_loss node (orchestrator_parts_shown old)))
    → IfErr result (λ fault. loss_refusal old.last.session ≡ Some fault) → OnErr result (orchestrator_parts_shown new ≡ orchestrator_parts_shown old)
    → IsMoveOf (orchestrator_parts_shown old) (orchestrator_parts_shown new) (Loses node) (λ r. GivenUp) result
loss-told result old new node ok err stays =
    told-unless (orchestrator_parts_shown old) (orchestrator_parts_shown new) (parts_at_loss node (orchestrator_parts_shown old)) (Loses node) (loss_refusal old.last.session) GivenUp result refl ok err stays

-- ---- what a caller is told

-- what a restart leaves
pub restart-value : {R : Type 0} {old now new : OrchestratorParts} (nodes : List (List ℕ)) (result : Result R OrchFault) → old ≡ now → IsMoveOf old new (Restarts nodes) (λ r. Restarted) result → OnOk result (new ≡ restarted_parts nodes now)
restart-value {old = old} {now = now} {new = new} nodes result is told =
    subst (λ p. OnOk result (new ≡ restarted_parts nodes p)) is
    (value-told old new (restarted_parts nodes old) (Restarts nodes) (restart_refusal old.last.session old.nodes nodes old.rows) Restarted result refl told)

-- its nodes
pub restart-nodes : {R : Type 0} {old now new : OrchestratorParts} (nodes : List (List ℕ)) (result : Result R OrchFault) → old ≡ now → IsMoveOf old new (Restarts nodes) (λ r. Restarted) result → OnOk result (new.nodes ≡ nodes)
restart-nodes nodes (Ok r) is told = ap (λ (p : OrchestratorParts). p.nodes) (restart-value nodes (Ok r) is told)
restart-nodes nodes (Err fault) is told = tt

-- what a loss leaves
pub loss-value : {R : Type 0} {old now new : OrchestratorParts} (node : List ℕ) (result : Result R OrchFault) → old ≡ now → IsMoveOf old new (Loses node) (λ r. GivenUp) result → OnOk result (new ≡ parts_at_loss node now)
loss-value {old = old} {now = now} {new = new} node result is told =
    subst (λ p. OnOk result (new ≡ parts_at_loss node p)) is (value-told old new (parts_at_loss node old) (Loses node) (loss_refusal old.last.session) GivenUp result refl told)
