-- Rows that keep the rules of a record's are told by a history, one behind another; and what is kept of it grows with it.
use Rattle.csi_orchestrator.proofs.Words.{◌≡◌, ◌<◌, ◌+◌, ℕ, List, [], ◌∷◌, ◌++◌, false, refl, sym, ◌∙◌, ap, subst}
use Rattle.csi_orchestrator.proofs.Words.{arith, Option, Some, None, option_and_then, AllByRecursion, EachTwo, Call}
use Rattle.csi_orchestrator.proofs.Words.{Party, Controller, Number, same_text, History, Started, history_after}
use Rattle.csi_orchestrator.proofs.Words.{with_items, last_number, IsWellFormed, RowShown, NodeEntryShown}
use Rattle.csi_orchestrator.proofs.Words.{OrchestratorParts, row_of, open_in_row, orchestrator_view, Shows}
use Rattle.csi_orchestrator.proofs.Words.{IsRestorable}
use Rattle.csi_orchestrator.proofs.Lemmas.{false≢true, append-nil, append_assoc, all_of, each_of, among-find}
use Rattle.csi_types.specs.declared.call.Call.TheVariants as calls
use Rattle.csi_orchestrator.proofs.RowViews.{put-agrees}
use Rattle.csi_orchestrator.proofs.SplitLists.{find-of_none, put-last, two-there}
use Rattle.csi_orchestrator.proofs.RowsTold.{Keeps, IsTold}
use Rattle.csi_orchestrator.proofs.EntriesTold.{TargetFits, EntryFits, RowFits, IsUnknown, told-row}
use Rattle.csi_orchestrator.proofs.ViewFollowed.{view-follows}

-- the parts with these rows, after a call of the session
abbrev pub parts_after : List (List ℕ) → Number → List RowShown → OrchestratorParts
parts_after nodes last rows = record { nodes = nodes; last = last; rows = rows }

-- of a name without a row nothing is shown
no-row : (parts : OrchestratorParts) (name : List ℕ) → row_of parts.rows name ≡ None → IsUnknown (orchestrator_view parts) name
no-row parts name none = grind arith

-- a history of which this is kept, in the session of this number, tells these rows
pub record AreTold (P : History → Type 0) (nodes : List (List ℕ)) (start : Number) (rows : List RowShown) : Type 0 where
  pub last : Number
  pub history : History
  pub form : IsWellFormed history
  pub agrees : Shows (parts_after nodes last rows) history
  pub in_session : last.session ≡ start.session
  pub kept : P history

module _ (P : History → Type 0) (Fits : Option ℕ → List ℕ → Party → Call → Option ℕ → Type 0) (keeps : Keeps P Fits) (nodes : List (List ℕ)) (start : Number) where
  -- one row more
  one-told : (rows : List RowShown) (row : RowShown) → row_of rows row.name ≡ None → IsRestorable nodes row → RowFits Fits row → AreTold P nodes start rows → AreTold P nodes start (rows ++ row ∷ [])
  one-told rows row fresh rules fits old =
      record {
        last = (told.view).last;
        history = told.history;
        form = told.form;
        agrees =
            subst (λ (rs : List RowShown). Shows (parts_after nodes (told.view).last rs) told.history) (put-last (λ (r : RowShown). r.name) row rows fresh)
            (put-agrees parts (told.view).last row.name row told.view told.history told.reads told.others (sym told.same_nodes) refl told.agrees);
        in_session = told.same_session ∙ old.in_session;
        kept = told.kept;
      }
    where
      parts : OrchestratorParts
      parts = parts_after nodes old.last rows

      told : IsTold P (orchestrator_view parts) row
      told = told-row P Fits keeps (orchestrator_view parts) old.history nodes row rules fits old.form old.agrees (no-row parts row.name fresh) old.kept

  -- row after row
  more-told : (done todo : List RowShown) → EachTwo (λ (a b : RowShown). same_text a.name b.name ≡ false) (done ++ todo) → AllByRecursion (IsRestorable nodes) todo → AllByRecursion (RowFits Fits) todo → AreTold P nodes start done → AreTold P nodes start (done ++ todo)
  more-told done [] apart each fits told = subst (AreTold P nodes start) (sym (append-nil done)) told
  more-told done (row ∷ todo) apart each fits told =
      subst (AreTold P nodes start) same (more-told (done ++ row ∷ []) todo (subst (EachTwo (λ (a b : RowShown). same_text a.name b.name ≡ false)) (sym same) apart) each.1 fits.1 (one-told done row fresh each.0 fits.0 told))
    where
      same : (done ++ row ∷ []) ++ todo ≡ done ++ row ∷ todo
      same = append_assoc done (row ∷ []) todo

      fresh : row_of done row.name ≡ None
      fresh = find-of_none (λ (r : RowShown). same_text r.name row.name) done (two-there (λ (a b : RowShown). same_text a.name b.name ≡ false) done row todo apart).0

  -- all of them, numbered after this number
  pub all-told : (rows : List RowShown) → P (history_after nodes start) → EachTwo (λ (a b : RowShown). same_text a.name b.name ≡ false) rows → AllByRecursion (IsRestorable nodes) rows
      → AllByRecursion (RowFits Fits) rows → AreTold P nodes start rows
  all-told rows kept apart each fits = more-told [] rows apart each fits first
    where
      first : AreTold P nodes start []
      first =
          record {
            last = start;
            history = history_after nodes start;
            form = tt;
            agrees =
                record {
                  same_nodes = refl;
                  same_last = refl;
                  same_rows = λ name. refl;
                  same_marks = λ thing. refl;
                  same_ids = λ name. refl;
                  same_goals = λ name. refl;
                  same_arguments = λ name. refl;
                  same_holdings = λ name node there. refl;
                  same_open_calls = λ name. refl;
                  same_counts = λ name. refl;
                };
            in_session = refl;
            kept = kept;
          }

-- ---- a session starts

-- no row has an open call
none-open : (nodes : List (List ℕ)) (rows : List RowShown) (name : List ℕ) → AllByRecursion (IsRestorable nodes) rows → option_and_then open_in_row (row_of rows name) ≡ None
none-open nodes rows name each = by (row_of rows name) refl
  where
    by : (o : Option RowShown) → row_of rows name ≡ o → option_and_then open_in_row o ≡ None
    by None e = refl
    by (Some row) e =
        let quiet = (each_of (IsRestorable nodes) rows row each (among-find (λ (r : RowShown). same_text r.name name) rows row e)).quiet in
        ap (λ o. open_in_row (record row { open_call = o })) quiet

-- a later session tells the same rows, none of which has an open call
pub started-told : (nodes : List (List ℕ)) (session : ℕ) (last : Number) (rows : List RowShown) (history : History) → AllByRecursion (IsRestorable nodes) rows → Shows (parts_after nodes last rows) history → (last_number history).session < session
    → Shows (record { nodes = nodes; last = record { session = session; call = 0 }; rows = rows }) (with_items history (Started session nodes ∷ []))
started-told nodes session last rows history each agrees less = grind (arith, none-open, view-follows)

-- ---- whatever rows keep the rules

-- where nothing is asked of calls, all fit
AnyFits : Option ℕ → List ℕ → Party → Call → Option ℕ → Type 0
AnyFits id name party call brought = Unit {0}

-- in the next session, before its first call, there is such a history too
pub record HasTold (parts : OrchestratorParts) : Type 0 where
  pub history : History
  pub form : IsWellFormed history
  pub agrees : Shows parts history

-- whatever rows keep the rules
pub next-told : (nodes : List (List ℕ)) (session : ℕ) (rows : List RowShown) → EachTwo (λ (a b : RowShown). same_text a.name b.name ≡ false) rows → AllByRecursion (IsRestorable nodes) rows
    → HasTold (record { nodes = nodes; last = record { session = session + 1; call = 0 }; rows = rows })
unfolding AnyFits
next-told nodes session rows apart each =
    record { history = with_items told.history (Started (session + 1) nodes ∷ []); form = (less, told.form); agrees = started-told nodes (session + 1) told.last rows told.history each told.agrees less }
  where
    keeps : Keeps (λ history. Unit {0}) AnyFits
    keeps = record { noted = λ history name goal kept. tt; closed = λ history number kept. tt; sent = λ history issued id brought fits is next kept. tt; accepted = λ history issued id brought fits among kept. tt }

    entry-fits : (row : RowShown) (entry : NodeEntryShown) → EntryFits AnyFits row.name row.id entry
    entry-fits row entry = record { attaches = λ some. (0, tt); stages = λ some. (0, (entry.capability, tt)); targets = all_of (TargetFits AnyFits row.name row.id entry) entry.target_entries (λ t there some. (0, (entry.capability, (entry.readonly, tt)))) }

    row-fits : (row : RowShown) → RowFits AnyFits row
    row-fits row =
        record {
          creates = tt;
          deletes = λ gone. (0, tt);
          entries = all_of (EntryFits AnyFits row.name row.id) row.node_entries (λ entry there. entry-fits row entry);
          tried = λ n e.
              record {
                party = Controller;
                call = calls.NodeUnpublishVolume 0 [];
                named = tt;
                detaches = λ node touched undoing. false≢true touched;
                holds = λ node. refl;
                marks = λ thing touched. absurd (false≢true touched);
                fits = tt;
              };
        }

    told : AreTold (λ history. Unit {0}) nodes (record { session = session; call = 0 }) rows
    told = all-told (λ history. Unit {0}) AnyFits keeps nodes (record { session = session; call = 0 }) rows tt apart each (all_of (RowFits AnyFits) rows (λ row there. row-fits row))

    less : (last_number told.history).session < session + 1
    less = let is = sym (ap (λ (l : Number). l.session) (told.agrees).same_last) ∙ told.in_session in omega (arith, is)
