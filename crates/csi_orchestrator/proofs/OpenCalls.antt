-- What becomes of a row's open call: it stays open, is closed, or gives way to the next one, which has the next number.
use Rattle.csi_orchestrator.proofs.Words.{◌≡◌, ◌+◌, inr, ℕ, List, refl, ap, subst, Option, Some, None, option_map}
use Rattle.csi_orchestrator.proofs.Words.{slice_get, Result, Ok, Err, Number, OrchFault, Outgoing, Goal, Create}
use Rattle.csi_orchestrator.proofs.Words.{OpenCall, Row, Step, Catalog, rows_of, IsIndexed, AreUpTo, IsReady}
use Rattle.csi_orchestrator.proofs.Words.{IsNextFor, outgoing_call_number, IsNumberedAfter, next_number, last_after}
use Rattle.csi_orchestrator.proofs.Words.{MovedRow, outgoing_by, sent_or_dropped, row_sends_due, row_unless}
use Rattle.csi_orchestrator.proofs.Words.{is_given_up, timed_out, failed, row_before_call, row_step, Due, Arguments}
use Rattle.csi_orchestrator.proofs.Words.{new_row, wanted_row, stopped_goal, RowShown, row_shown, closed, arith}
use Rattle.csi_orchestrator.proofs.Lemmas.{none-some}
use Rattle.csi_orchestrator.proofs.RowsUnderNames.{IsOpened, catalog_with, next-unnoted, ready-set}
use Rattle.csi_orchestrator.proofs.EntryRules.{by_if}

-- values that are both there are equal where what is there is
some-is : {X : Type 0} (a b : X) → Some a ≡ Some b → a ≡ b
some-is a b h = cc

-- two successes are equal only if what they give is
ok-is : (a b : Option Outgoing) → ◌≡◌ {A = Result (Option Outgoing) OrchFault} (Ok a) (Ok b) → a ≡ b
ok-is a b h = cc

-- nothing is sent
none-after : (last : ℕ) → IsNumberedAfter last None
none-after last = λ call is. absurd (none-some call is)

-- the next number
numbered : (last number : Number) → next_number last ≡ Some number → number.call ≡ last.call + 1
numbered last number is = grind (arith, some-is, none-some)

-- it is one of the session
sessioned : (last number : Number) → next_number last ≡ Some number → number.session ≡ last.session
sessioned last number is = grind (arith, some-is, none-some)

-- a call that is sent comes right after the last one
after-sent : (last : Number) (due : Option Due) (next : Option Outgoing) → outgoing_by due (next_number last) ≡ Ok next → IsNumberedAfter last.call next
after-sent last due next is = grind (arith, ok-is, none-after, some-is, numbered)

-- and in the same session
session-after : (last : Number) (due : Option Due) (next : Option Outgoing) → outgoing_by due (next_number last) ≡ Ok next → (last_after last next).session ≡ last.session
session-after last due next is = grind (arith, ok-is, sessioned)

-- the row's name stays, its open call was open or is sent, and what is sent comes right after the last call
pub record IsOn (last : Number) (row : RowShown) (moved_row : MovedRow) : Type 0 where
  pub name : (moved_row.row).name ≡ row.name
  pub opened : IsOpened row.open_call moved_row.outgoing (moved_row.row).open_call
  pub after : IsNumberedAfter last.call moved_row.outgoing
  pub session : (last_after last moved_row.outgoing).session ≡ last.session

-- so it is, unless it is refused
abbrev pub GoesOn : Number → RowShown → Result MovedRow OrchFault → Type 0
GoesOn last row (Ok moved_row) = IsOn last row moved_row
GoesOn last row (Err fault) = Unit {0}

-- a row of the same name whose due call is sent or whose goal is dropped, and one that rests
sent_or_dropped-opened : (old : Option OpenCall) (next : Option Outgoing) (row : RowShown) → IsOpened old next (sent_or_dropped next row).open_call
sent_or_dropped-opened old None row = λ kept e. absurd (none-some kept e)
sent_or_dropped-opened old (Some next) row = λ kept e. inr (ap (option_map (λ (c : OpenCall). c.number.call)) e)

-- sending the due call, or dropping the goal, leaves the row's name
sent_or_dropped-name : (next : Option Outgoing) (row : RowShown) → (sent_or_dropped next row).name ≡ row.name
sent_or_dropped-name None row = refl
sent_or_dropped-name (Some next) row = refl

-- a row that keeps its name goes on so where its due call is sent
pub sends-due-goes : (last : Number) (row then : RowShown) → then.name ≡ row.name → GoesOn last row (row_sends_due last then)
sends-due-goes last row then same = grind (arith, sent_or_dropped-name, sent_or_dropped-opened, after-sent, session-after)

-- a row that goes on so does where it isn't refused
pub unless-goes : (last : Number) (row : RowShown) (fault : Option OrchFault) (moved_row : Result MovedRow OrchFault) → GoesOn last row moved_row → GoesOn last row (row_unless fault moved_row)
unless-goes last row None moved_row goes = goes
unless-goes last row (Some fault) moved_row goes = tt

-- a step leaves the row's name
timed-out-name : (row : RowShown) (goal : Option Goal) → (timed_out row goal).name ≡ row.name
timed-out-name row None = refl
timed-out-name row (Some goal) = by_if (λ (r : RowShown). r.name ≡ row.name) (is_given_up row) (wanted_row (stopped_goal goal) row) (closed row) (λ e. refl) (λ e. refl)

-- a call that failed leaves the row's name
failed-name : (row : RowShown) (goal : Option Goal) → (failed row goal).name ≡ row.name
failed-name row (Some Create) = refl
failed-name row goal = refl

-- whatever a step changes, it leaves the row's name
changed-name : (step : Step) (row : RowShown) → (row_before_call step row).name ≡ row.name
changed-name step row = grind (arith, timed-out-name, failed-name)

-- whatever the step
pub step-goes : (nodes : List (List ℕ)) (last : Number) (step : Step) (row : RowShown) → GoesOn last row (row_step nodes last step row)
step-goes nodes last step row = grind (arith, unless-goes, by_if, none-after, none-some, sends-due-goes, changed-name)

-- once a row took a step, only the call that is sent for it isn't noted yet
pub ready-told : (catalog : Catalog) (nodes : List (List ℕ)) (last : Number) (place : ℕ) (row new : Row) (step : Step) (next : Option Outgoing) → IsIndexed catalog → AreUpTo last.call catalog
    → slice_get (rows_of catalog) place ≡ Some row
    → row_step nodes last step (row_shown row) ≡ Ok (record { outgoing = next; row = row_shown new }) → IsReady (catalog_with catalog place new) place (outgoing_call_number next) × IsNumberedAfter last.call next
ready-told catalog nodes last place row new step next indexed known at is =
    let on = subst (GoesOn last (row_shown row)) is (step-goes nodes last step (row_shown row)) in
    (ready-set catalog last.call place row new next indexed known at on.name on.opened on.after, on.after)

-- a new row
pub next-created : (catalog : Catalog) (last : Number) (name : List ℕ) (arguments : Arguments) (row : Row) (next : Option Outgoing) → AreUpTo last.call catalog
    → row_sends_due last (new_row name arguments) ≡ Ok (record { outgoing = next; row = row_shown row }) → IsNextFor catalog row.open_call (outgoing_call_number next) × (row.name ≡ name) × IsNumberedAfter last.call next
next-created catalog last name arguments row next known is = grind (arith, sends-due-goes, next-unnoted, none-some)
