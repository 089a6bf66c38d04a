-- The row that a reply is to, by its place among the kept ones, and the step that it takes then.
use Rattle.csi_orchestrator.proofs.Words.{◌≡◌, ℕ, zero, suc, List, [], ◌∷◌, false, map, sym, ◌∙◌, ap, subst, Option}
use Rattle.csi_orchestrator.proofs.Words.{Some, None, position, slice_get, Result, Ok, Err, IsErrAnd, AllByRecursion}
use Rattle.csi_orchestrator.proofs.Words.{Kind, Party, Body, Number, Reply, Frame, EachTwo, IsAt, FirstAt, same_text}
use Rattle.csi_orchestrator.proofs.Words.{Ignored, OrchFault, OrchestratorCore, Row, Step, rows_of}
use Rattle.csi_orchestrator.proofs.Words.{orchestrator_parts_shown, IsDueSuccess, Input, Comes, Answer, Hears, hears}
use Rattle.csi_orchestrator.proofs.Words.{RowShown, OrchestratorParts, row_of, open_in_row, row_shown, moved_rows}
use Rattle.csi_orchestrator.proofs.Words.{IsRefusal, steps_at, is_issued_as, step_heard, hears_reply, receives}
use Rattle.csi_orchestrator.proofs.Words.{row_moves, RowsAnswer, IsMoveOf, AreSoundRows, arith}
use Rattle.csi_orchestrator.proofs.Lemmas.{same_Some, position-first, same_text-tells}
use Rattle.csi_types.specs.declared.frame.Body.TheVariants as bodies
use Rattle.csi_orchestrator.proofs.RowsByName.{row-at, shown-there}
use Rattle.csi_orchestrator.proofs.ChangedEntries.{find-place, find-none_placed}
use Rattle.csi_orchestrator.proofs.RowsUnderNames.{read-at}
use Rattle.csi_orchestrator.proofs.StepsSound.{heard-fits}
use Rattle.csi_orchestrator.proofs.RulesStay.{found-kept}
use Rattle.csi_orchestrator.proofs.ListPlaces.{get-of_at}

-- what holds of each row as it is shown
each-at : (P : RowShown → Type 0) (rows : List Row) (i : ℕ) (row : Row) → AllByRecursion P (map row_shown rows) → IsAt rows i row → P (row_shown row)
each-at P [] i row all at = absurd at
each-at P (x ∷ rows) zero row all at = subst (λ (r : Row). P (row_shown r)) at all.0
each-at P (x ∷ rows) (suc i) row all at = each-at P rows i row all.1 at

-- the place of a row is the one of its name
first-own : (rows : List Row) (i : ℕ) (row : Row) → EachTwo (λ (a b : RowShown). same_text a.name b.name ≡ false) (map row_shown rows) → IsAt rows i row
    → FirstAt (λ (r : Row). same_text r.name row.name) rows i row
first-own [] i row apart at = absurd at
first-own (x ∷ rows) zero row apart at = ((same_text-tells x.name row.name).1 (ap (λ (r : Row). r.name) at), at)
first-own (x ∷ rows) (suc i) row apart at = (each-at (λ (b : RowShown). same_text x.name b.name ≡ false) rows i row apart.0 at, first-own rows i row apart.1 at)

-- what is told of a frame, by its parts
received : (parts : OrchestratorParts) (frame : Frame) (number : Number) (party : Party) (body : Body) → number ≡ frame.number → party ≡ frame.party → frame.body ≡ body
    → row_moves parts (Comes frame) ≡ receives parts number party body
received parts frame number party body numbers parties is = cc

-- the row at this index takes a step where the frame comes, and what is told of the frame is what is told by the step
pub record IsDelivered (core : OrchestratorCore) (frame : Frame) (index : ℕ) (step : Step) : Type 0 where
  pub name : List ℕ
  pub named : position (λ (r : Row). same_text r.name name) (rows_of core.catalog) ≡ Some index
  pub fits : (row : Row) → slice_get (rows_of core.catalog) index ≡ Some row → IsDueSuccess step (row_shown row)
  pub told : row_moves (orchestrator_parts_shown core) (Comes frame) ≡ steps_at (orchestrator_parts_shown core) hears step (row_of (map row_shown (rows_of core.catalog)) name)

-- so it is with a reply to the open call of the row
pub delivered : (core : OrchestratorCore) (frame : Frame) (number : Number) (party : Party) (kind : Kind) (reply : Reply) (index : ℕ) (step : Step) → number ≡ frame.number → party ≡ frame.party
    → frame.body ≡ bodies.Reply kind reply → AreSoundRows (map row_shown (rows_of core.catalog))
    → position (λ (row : Row). is_issued_as number party kind (open_in_row (row_shown row))) (rows_of core.catalog) ≡ Some index → step ≡ step_heard kind reply → IsDelivered core frame index step
delivered core frame number party kind reply index step numbers parties body kept at is =
    let rows = rows_of core.catalog in
    let there = row-at (λ (row : Row). is_issued_as number party kind (open_in_row (row_shown row))) rows index at in
    let row = there.0 in
    let stands = get-of_at rows index row there.1.0 in
    let found = find-place row_shown (λ (r : RowShown). is_issued_as number party kind (open_in_row r)) rows index row at (read-at rows index row stands) in
    let named = sym (position-first (λ (r : Row). same_text r.name row.name) rows index row (first-own rows index row kept.names there.1.0)) in
    let own = found-kept (λ (r : RowShown). is_issued_as number party kind (open_in_row r)) (map row_shown rows) (row_shown row) kept found in
    record {
      name = row.name;
      named = named;
      fits = λ r at_r.
          subst (λ s. IsDueSuccess s (row_shown r)) (sym is)
          (subst (λ (q : Row). IsDueSuccess (step_heard kind reply) (row_shown q)) (same_Some row r (sym stands ∙ at_r)) (heard-fits (row_shown row) number party kind reply there.1.1 own));
      told =
          received (orchestrator_parts_shown core) frame number party (bodies.Reply kind reply) numbers parties body ∙ ap (hears_reply (orchestrator_parts_shown core) kind reply) found
          ∙ ap (λ s. steps_at (orchestrator_parts_shown core) hears s (Some (row_shown row))) (sym is) ∙ sym (ap (steps_at (orchestrator_parts_shown core) hears step) (shown-there rows row.name index row named stands));
    }

-- a reply to no row's open call
pub undelivered : (core : OrchestratorCore) (frame : Frame) (number : Number) (party : Party) (kind : Kind) (reply : Reply) → number ≡ frame.number → party ≡ frame.party → frame.body ≡ bodies.Reply kind reply
    → position (λ (row : Row). is_issued_as number party kind (open_in_row (row_shown row))) (rows_of core.catalog) ≡ None → row_moves (orchestrator_parts_shown core) (Comes frame) ≡ moved_rows (orchestrator_parts_shown core) (Hears Ignored)
undelivered core frame number party kind reply numbers parties body none =
    received (orchestrator_parts_shown core) frame number party (bodies.Reply kind reply) numbers parties body
    ∙ ap (hears_reply (orchestrator_parts_shown core) kind reply) (find-none_placed row_shown (λ (row : RowShown). is_issued_as number party kind (open_in_row row)) (rows_of core.catalog) none)

-- a refusal is told where it is passed on
pub told-at_err : {R : Type 0} (old new : OrchestratorParts) (input : Input) (says : R → Answer) (result : Result R OrchFault) (fault : OrchFault) → IsErrAnd result (λ y. y ≡ fault) → IsRefusal (row_moves old input) fault → new ≡ old
    → IsMoveOf old new input says result
told-at_err old new input says (Ok r) fault is refused same = absurd is
told-at_err old new input says (Err other) fault is refused same = record { ok = tt; err = subst (IsRefusal (row_moves old input)) (sym is) refused; stays = same }

-- what is told by a step isn't ignored
pub never-ignored : (parts : OrchestratorParts) (step : Step) (o : Option RowShown) → RowsAnswer (Hears Ignored) (steps_at parts hears step o) → ⊥
never-ignored parts step o told = grind arith
