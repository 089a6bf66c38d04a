-- Which row a call changes: that of the name that it is about, or the one whose open call a frame is the reply to.
use Rattle.csi_orchestrator.proofs.Words.{◌≡◌, ◌+◌, ℕ, zero, suc, List, [], ◌∷◌, true, length, map, drop, refl, sym}
use Rattle.csi_orchestrator.proofs.Words.{◌∙◌, ap, subst, arith, Option, Some, None, Result, Ok, Err, IfOk, OnOk, IsAt}
use Rattle.csi_orchestrator.proofs.Words.{FirstAt, Kind, Party, Body, Number, Reply, Frame, same_text, OrchFault}
use Rattle.csi_orchestrator.proofs.Words.{OrchestratorCore, Step, Arguments, Input, ToCreate, ToUse, ToStop, ToDelete}
use Rattle.csi_orchestrator.proofs.Words.{TimesOut, Comes, Answer, Sends, Hears, hears, RowShown}
use Rattle.csi_orchestrator.proofs.Words.{OrchestratorParts, row_of, open_in_row, rows_of, IsIndexed, place_by_name}
use Rattle.csi_orchestrator.proofs.Words.{is_numbered, place_by_call, AreChangedAt, ChangesRowOf, ChangesAsHeard}
use Rattle.csi_orchestrator.proofs.Words.{orchestrator_parts_shown, IsFiled, MovedRows, row_shown, AreSoundRows}
use Rattle.csi_orchestrator.proofs.Words.{AreSoundParts, new_row, put, all_rows_moved, steps_at, creates, is_issued_as}
use Rattle.csi_orchestrator.proofs.Words.{row_replied, step_heard, hears_reply, receives, row_moves, IsMoveOf}
use Rattle.csi_orchestrator.proofs.Words.{first_fault, MovedRow, row_sends_due, row_unless, row_step}
use Rattle.csi_orchestrator.proofs.Lemmas.{none-some, same_Some, same-at, position-first, FirstAt-is_at, FirstAt-within}
use Rattle.csi_orchestrator.proofs.Lemmas.{find-passes, same_number-tells}
use Rattle.csi_types.specs.declared.frame.Body.TheVariants as bodies
use Rattle.csi_orchestrator.specs.declared.fault.Heard.{Heard}
use Rattle.csi_orchestrator.specs.declared.step.Step.TheVariants as steps
use Rattle.csi_orchestrator.proofs.OpenCallPlaces.{placed, numbered-noted}
use Rattle.csi_orchestrator.proofs.OpenCalls.{GoesOn, sends-due-goes, unless-goes, step-goes}
use Rattle.csi_orchestrator.proofs.PutPlaces.{find-first, first-apart, IsPutAt, put-at, put-last}
use Rattle.csi_orchestrator.proofs.RepliedRows.{hears-it}
use Rattle.csi_orchestrator.proofs.RowViews.{own-name}

-- ---- one row is put in

-- the row of this name is at this place then, and all else is as it was
record IsMovedAt (name : List ℕ) (place : ℕ) (old new : OrchestratorParts) : Type 0 where
  pub own : place_by_name name new.rows ≡ Some place
  pub nodes : new.nodes ≡ old.nodes
  pub session : new.last.session ≡ old.last.session
  pub rows : AreChangedAt place old.rows new.rows

-- so it is, unless it is refused
abbrev MovesAt : List ℕ → ℕ → OrchestratorParts → Result MovedRows OrchFault → Type 0
MovesAt name place parts (Ok moved_rows) = IsMovedAt name place parts moved_rows.parts
MovesAt name place parts (Err fault) = Unit {0}

-- a row that goes on is put in by its name
moved-at : (parts : OrchestratorParts) (answer : Option Frame → Answer) (row : RowShown) (place : ℕ) (moved : Result MovedRow OrchFault) → GoesOn parts.last row moved
    → ((entry : RowShown) → entry.name ≡ row.name → IsPutAt (λ (r : RowShown). r.name) entry place parts.rows (put entry parts.rows)) → MovesAt row.name place parts (all_rows_moved parts answer moved)
moved-at parts answer row place (Err fault) goes puts = tt
moved-at parts answer row place (Ok moved_row) goes puts =
    let entry = moved_row.row in
    let new = put entry parts.rows in
    let there = puts entry goes.name in
    let next : suc place ≡ place + 1 = omega arith in
    record {
      own = subst (λ (n : List ℕ). place_by_name n new ≡ Some place) goes.name (sym (position-first (λ (r : RowShown). same_text r.name entry.name) new place entry there.first));
      nodes = refl;
      session = goes.session;
      rows =
          record {
            within = FirstAt-within (λ (r : RowShown). same_text r.name entry.name) new place entry there.first;
            before = there.before;
            behind = subst (λ (n : ℕ). drop n new ≡ drop n parts.rows) next there.behind;
            named = λ was now at_old at_new.
                ap (λ (r : RowShown). r.name) (same-at new place now entry at_new (FirstAt-is_at (λ (r : RowShown). same_text r.name entry.name) new place entry there.first)) ∙ there.named was at_old;
          };
    }

-- a row that takes a step is put in its own place
steps-move : (parts : OrchestratorParts) (answer : Option Frame → Answer) (step : Step) (row : RowShown) (place : ℕ) → FirstAt (λ (r : RowShown). same_text r.name row.name) parts.rows place row
    → MovesAt row.name place parts (steps_at parts answer step (Some row))
steps-move parts answer step row place first =
    moved-at parts answer row place (row_step parts.nodes parts.last step row) (step-goes parts.nodes parts.last step row)
    (λ entry own. put-at (λ (r : RowShown). r.name) entry parts.rows place row (subst (λ (n : List ℕ). FirstAt (λ (r : RowShown). same_text r.name n) parts.rows place row) (sym own) first))

-- ---- by name

-- the row of this name changes, unless it is refused
abbrev ChangesSo : List ℕ → OrchestratorParts → Result MovedRows OrchFault → Type 0
ChangesSo name parts (Ok moved_rows) = ChangesRowOf name parts moved_rows.parts
ChangesSo name parts (Err fault) = Unit {0}

-- by its place
so-changed : (name : List ℕ) (place : ℕ) (parts : OrchestratorParts) (moved_rows : Result MovedRows OrchFault) → MovesAt name place parts moved_rows → ChangesSo name parts moved_rows
so-changed name place parts (Err fault) moved = tt
so-changed name place parts (Ok moved_rows) moved = record { place = place; there = moved.own; nodes = moved.nodes; session = moved.session; rows = moved.rows }

-- a step of the row of a name, if it has one
steps-change : (parts : OrchestratorParts) (step : Step) (name : List ℕ) (o : Option RowShown) → row_of parts.rows name ≡ o → ChangesSo name parts (steps_at parts Sends step o)
steps-change parts step name None e = tt
steps-change parts step name (Some row) e =
    let first = find-first (λ (r : RowShown). same_text r.name name) parts.rows row e in
    let own = own-name parts name row e in
    let there = subst (λ (n : List ℕ). FirstAt (λ (r : RowShown). same_text r.name n) parts.rows first.0 row) (sym own) first.1 in
    subst (λ (n : List ℕ). ChangesSo n parts (steps_at parts Sends step (Some row))) own
    (so-changed row.name first.0 parts (steps_at parts Sends step (Some row)) (steps-move parts Sends step row first.0 there))

-- a create
creates-change : (parts : OrchestratorParts) (name : List ℕ) (arguments : Arguments) (o : Option RowShown) → row_of parts.rows name ≡ o → ChangesSo name parts (creates parts name arguments o)
creates-change parts name arguments (Some row) e = steps-change parts (steps.Create arguments) name (Some row) e
creates-change parts name arguments None e =
    let row = new_row name arguments in
    let sends = row_sends_due parts.last row in
    so-changed name (length parts.rows) parts (creates parts name arguments None)
    (moved-at parts Sends row (length parts.rows) (row_unless (first_fault parts.last parts.rows) sends)
    (unless-goes parts.last row (first_fault parts.last parts.rows) sends (sends-due-goes parts.last row row refl))
    (λ entry own. put-last (λ (r : RowShown). r.name) entry parts.rows (subst (λ (n : List ℕ). row_of parts.rows n ≡ None) (sym own) e)))

-- the name that is asked about
abbrev pub name_asked : Input → Option (List ℕ)
name_asked (ToCreate name arguments) = Some name
name_asked (ToUse name usage) = Some name
name_asked (ToStop name node target) = Some name
name_asked (ToDelete name) = Some name
name_asked (TimesOut name) = Some name
name_asked input = None

-- a step that is asked of a name
asked-so : (parts : OrchestratorParts) (step : Step) (other name : List ℕ) → Some other ≡ Some name → ChangesSo name parts (steps_at parts Sends step (row_of parts.rows other))
asked-so parts step other name is =
    subst (λ (n : List ℕ). ChangesSo n parts (steps_at parts Sends step (row_of parts.rows other))) (same_Some other name is) (steps-change parts step other (row_of parts.rows other) refl)

-- whatever is asked of a name
moves-change : (parts : OrchestratorParts) (input : Input) (name : List ℕ) → name_asked input ≡ Some name → ChangesSo name parts (row_moves parts input)
moves-change parts input name is = grind (arith, same_Some, creates-change, asked-so, none-some)

-- so it is with what a call is told by
pub changed-promised : {R : Type 0} {old now new : OrchestratorParts} {input : Input} {says : R → Answer} {result : Result R OrchFault} (name : List ℕ) → old ≡ now → name_asked input ≡ Some name → IsMoveOf old new input says result
    → OnOk result (ChangesRowOf name now new)
changed-promised {old = old} {now = now} {new = new} {input = input} {says = says} {result = Err fault} name is asked told = tt
changed-promised {old = old} {now = now} {new = new} {input = input} {says = says} {result = Ok r} name is asked told =
    subst (λ (p : OrchestratorParts). ChangesRowOf name p new) is (subst (ChangesSo name old) told.ok (moves-change old input name asked))

-- ---- by the number of an open call

-- two rows of which each has an open call with this number stand at one place
abbrev AreOneCalled : Number → List RowShown → Type 0
AreOneCalled number rows =
    (j k : ℕ) (a b : RowShown) → IsAt rows j a → IsAt rows k b → is_numbered number a.open_call ≡ true → is_numbered number b.open_call ≡ true → j ≡ k

-- what stands in a list that is seen through a function is seen of one there
at-map : {R X : Type 0} (view : R → X) (rs : List R) (place : ℕ) (x : X) → IsAt (map view rs) place x → (r : R) × (IsAt rs place r × (view r ≡ x))
at-map view [] place x at = absurd at
at-map view (r ∷ rs) zero x at = (r, (refl, at))
at-map view (r ∷ rs) (suc place) x at = at-map view rs place x at

-- each open call is noted once
one-called : (core : OrchestratorCore) (number : Number) → IsIndexed core.catalog → AreOneCalled number (map row_shown (rows_of core.catalog))
one-called core number indexed j k a b at_a at_b called_a called_b =
    let r = at-map row_shown (rows_of core.catalog) j a at_a in
    let s = at-map row_shown (rows_of core.catalog) k b at_b in
    let noted_r = numbered-noted core.catalog number indexed j r.0 r.1.0 (ap (λ (q : RowShown). is_numbered number q.open_call) r.1.1 ∙ called_a) in
    let noted_s = numbered-noted core.catalog number indexed k s.0 s.1.0 (ap (λ (q : RowShown). is_numbered number q.open_call) s.1.1 ∙ called_b) in
    same_Some j k (sym noted_r ∙ noted_s)

-- what this answer says of the change
abbrev ChangesByAnswer : Number → Answer → OrchestratorParts → OrchestratorParts → Type 0
ChangesByAnswer number (Hears heard) old new = ChangesAsHeard number heard old new
ChangesByAnswer number answer old new = Unit {0}

-- so it is, unless it is refused
abbrev HeardSo : Number → OrchestratorParts → Result MovedRows OrchFault → Type 0
HeardSo number parts (Ok moved_rows) = ChangesByAnswer number moved_rows.answer parts moved_rows.parts
HeardSo number parts (Err fault) = Unit {0}

-- a reply to the call of the row at this place is taken
taken-so : (parts : OrchestratorParts) (number : Number) (name : List ℕ) (place : ℕ) (moved : Result MovedRow OrchFault) → place_by_call number parts.rows ≡ Some place
    → MovesAt name place parts (all_rows_moved parts hears moved) → HeardSo number parts (all_rows_moved parts hears moved)
taken-so parts number name place (Err fault) there moved = tt
taken-so parts number name place (Ok moved_row) there moved = record { place = place; there = there; nodes = moved.nodes; session = moved.session; rows = moved.rows }

-- a reply, and the row that it is to, if there is one
reply-changes : (parts : OrchestratorParts) (number : Number) (party : Party) (kind : Kind) (reply : Reply) → AreSoundRows parts.rows → AreOneCalled number parts.rows → (o : Option RowShown) → row_replied parts.rows number party kind ≡ o
    → HeardSo number parts (hears_reply parts kind reply o)
reply-changes parts number party kind reply kept one None e = refl
reply-changes parts number party kind reply kept one (Some row) e =
    let issued = λ (r : RowShown). is_issued_as number party kind (open_in_row r) in
    let called = λ (r : RowShown). is_numbered number r.open_call in
    let first = find-first issued parts.rows row e in
    let at = FirstAt-is_at issued parts.rows first.0 row first.1 in
    let it = hears-it row number party kind (find-passes issued parts.rows row e) in
    let passes : called row ≡ true = ap (is_numbered number) it.own ∙ (same_number-tells it.kept.number number).1 it.has_number in
    let there = sym (placed called parts.rows first.0 row at passes (λ j r at_r passes_r. one j first.0 r row at_r at passes_r passes)) in
    taken-so parts number row.name first.0 (row_step parts.nodes parts.last (step_heard kind reply) row) there
    (steps-move parts hears (step_heard kind reply) row first.0 (first-apart (λ (r : RowShown). r.name) parts.rows first.0 row kept.names at))

-- a frame that comes
receives-change : (parts : OrchestratorParts) (number : Number) (party : Party) (body : Body) → AreSoundRows parts.rows → AreOneCalled number parts.rows → HeardSo number parts (receives parts number party body)
receives-change parts number party (bodies.Call call) kept one = refl
receives-change parts number party (bodies.Reply kind reply) kept one = reply-changes parts number party kind reply kept one (row_replied parts.rows number party kind) refl

-- so it is with what a call is told by
pub heard-promised : (core : OrchestratorCore) (frame : Frame) {now new : OrchestratorParts} {result : Result Heard OrchFault} → orchestrator_parts_shown core ≡ now → AreSoundParts (orchestrator_parts_shown core) → IsFiled core
    → IsMoveOf (orchestrator_parts_shown core) new (Comes frame) Hears result → IfOk result (λ heard. ChangesAsHeard frame.number heard now new)
heard-promised core frame {now = now} {new = new} {result = Err fault} is kept filed told = tt
heard-promised core frame {now = now} {new = new} {result = Ok heard} is kept filed told = grind (arith, receives-change, one-called)
