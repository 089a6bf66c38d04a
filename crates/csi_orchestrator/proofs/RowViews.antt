-- Why what is shown agrees with a history once one row stands in place of another.
use Rattle.csi_orchestrator.proofs.Words.{◌≡◌, ◌≢◌, ℕ, List, Bool, true, false, cond, refl, sym, ◌∙◌, ap, subst}
use Rattle.csi_orchestrator.proofs.Words.{Option, Some, is_some, option_map, option_and_then, Number, Status}
use Rattle.csi_orchestrator.proofs.Words.{same_text, Thing, Attached, No, Issued, name_in, touches, Arguments, History}
use Rattle.csi_orchestrator.proofs.Words.{nodes_of, known, id_of, goal_of, arguments_of, held, open_call, tries}
use Rattle.csi_orchestrator.proofs.Words.{last_number, has_row, OrchestratorView, Agrees, after_sent, after_accepted}
use Rattle.csi_orchestrator.proofs.Words.{after_closed, after_noted, RowShown, OrchestratorParts, row_of, mark_in}
use Rattle.csi_orchestrator.proofs.Words.{mark_of, goal_in, held_on_node, open_in_row, tries_in, orchestrator_view}
use Rattle.csi_orchestrator.proofs.Words.{Shows, put, arith}
use Rattle.csi_orchestrator.proofs.Lemmas.{find-passes, false≢true, false_from_ne_true, same_text-tells}
use Rattle.csi_orchestrator.specs.Model.History.{Goal}
use Rattle.csi_orchestrator.proofs.ViewsFollow.{touches-name, and-false}
use Rattle.csi_orchestrator.proofs.KeyedSearches.{find-put}

-- the row tells what is shown of a name
pub record Reads (row : RowShown) (view : OrchestratorView) (name : List ℕ) : Type 0 where
  pub own : row.name ≡ name
  pub there : view.rows name ≡ true
  pub marks : (thing : Thing) → name_in thing ≡ name → mark_of thing row ≡ view.marks thing
  pub ids : row.id ≡ view.ids name
  pub goals : goal_in row ≡ view.goals name
  pub arguments : Some row.arguments ≡ view.arguments name
  pub holdings : (node : List ℕ) → mark_of (Attached name node) row ≢ No → held_on_node row node ≡ view.holdings name node
  pub open_calls : open_in_row row ≡ view.open_calls name
  pub counts : row.tries ≡ view.counts name

-- what is shown of a name beside marks, holdings and the open call; and the same of a row, if there is one
pub record Here : Type 0 where
  pub there : Bool
  pub ids : Option ℕ
  pub goals : Option Goal
  pub arguments : Option Arguments
  pub counts : ℕ

-- of a view
abbrev pub here : OrchestratorView → List ℕ → Here
here view name = record { there = view.rows name; ids = view.ids name; goals = view.goals name; arguments = view.arguments name; counts = view.counts name }

-- of a row, if there is one
abbrev here_by : Option RowShown → Here
here_by o = record { there = is_some o; ids = option_and_then (λ row. row.id) o; goals = option_and_then goal_in o; arguments = option_map (λ row. row.arguments) o; counts = tries_in o }

-- two show the same of a name
pub record SameAt (view other : OrchestratorView) (name : List ℕ) : Type 0 where
  pub rest : here view name ≡ here other name
  pub marks : (thing : Thing) → name_in thing ≡ name → view.marks thing ≡ other.marks thing
  pub holdings : (node : List ℕ) → view.holdings name node ≡ other.holdings name node
  pub open_calls : view.open_calls name ≡ other.open_calls name

-- so it is of a view and itself, and it goes on from one view to the next
pub same-self : (view : OrchestratorView) (name : List ℕ) → SameAt view view name
same-self view name = record { rest = refl; marks = λ thing is. refl; holdings = λ node. refl; open_calls = refl }

-- where a first view shows the same of a name as a second, and that one as a third, the first and the third do
pub same-then : (a b c : OrchestratorView) (name : List ℕ) → SameAt a b name → SameAt b c name → SameAt a c name
same-then a b c name f g =
    record { rest = f.rest ∙ g.rest; marks = λ thing is. f.marks thing is ∙ g.marks thing is; holdings = λ node. f.holdings node ∙ g.holdings node; open_calls = f.open_calls ∙ g.open_calls }

-- a call of one name touches nothing of another
untouched : (issued : Issued) (other : List ℕ) (thing : Thing) → same_text issued.name other ≡ false → name_in thing ≡ other → touches thing issued ≡ false
untouched issued other thing differs is = false_from_ne_true _ (λ e. false≢true (sym differs ∙ subst (λ n. same_text issued.name n ≡ true) is (touches-name thing issued e)))

-- each item changes what is shown of its own name alone
pub same-sent : (issued : Issued) (view : OrchestratorView) (other : List ℕ) → same_text issued.name other ≡ false → SameAt (after_sent issued view) view other
same-sent issued view other differs = grind (arith, untouched)

-- a reply, a call that is given up and a goal that is noted
pub same-accepted : (issued : Issued) (status : Status) (id : Option ℕ) (view : OrchestratorView) (other : List ℕ) → same_text issued.name other ≡ false → SameAt (after_accepted issued status id view) view other
same-accepted issued status id view other differs = grind (arith, and-false, untouched)

-- a call that is given up changes what is shown of its own name alone
pub same-closed : (issued : Issued) (view : OrchestratorView) (other : List ℕ) → same_text issued.name other ≡ false → SameAt (after_closed issued view) view other
same-closed issued view other differs = record { rest = refl; marks = λ thing is. refl; holdings = λ node. refl; open_calls = rw differs refl }

-- so does a goal that is noted
pub same-noted : (name : List ℕ) (goal : Option Goal) (view : OrchestratorView) (other : List ℕ) → same_text name other ≡ false → SameAt (after_noted name goal view) view other
same-noted name goal view other differs = record { rest = rw differs refl; marks = λ thing is. refl; holdings = λ node. refl; open_calls = refl }

-- a row that tells what is shown of its name stands in its place: what is shown of the others is as it was
pub put-agrees : (parts : OrchestratorParts) (last : Number) (name : List ℕ) (row : RowShown) (view : OrchestratorView) (history : History) → Reads row view name
    → ((other : List ℕ) → same_text name other ≡ false → SameAt view (orchestrator_view parts) other) → parts.nodes ≡ view.nodes → last ≡ view.last → Agrees view history
    → Shows (record { nodes = parts.nodes; last = last; rows = put row parts.rows }) history
put-agrees parts last name row view history reads others is_nodes is_last agrees =
    record {
      same_nodes = is_nodes ∙ agrees.same_nodes;
      same_last = is_last ∙ agrees.same_last;
      same_rows = λ other. ap (λ (h : Here). h.there) (own other (same_text name other) refl) ∙ agrees.same_rows other;
      same_marks = λ thing. own_marks thing (same_text name (name_in thing)) refl ∙ agrees.same_marks thing;
      same_ids = λ other. ap (λ (h : Here). h.ids) (own other (same_text name other) refl) ∙ agrees.same_ids other;
      same_goals = λ other. ap (λ (h : Here). h.goals) (own other (same_text name other) refl) ∙ agrees.same_goals other;
      same_arguments = λ other. ap (λ (h : Here). h.arguments) (own other (same_text name other) refl) ∙ agrees.same_arguments other;
      same_holdings = λ other node maybe. own_holdings other node (same_text name other) refl (λ e. maybe (sym (own_marks (Attached other node) (same_text name other) refl ∙ agrees.same_marks (Attached other node)) ∙ e)) ∙ agrees.same_holdings other node maybe;
      same_open_calls = λ other. own_calls other (same_text name other) refl ∙ agrees.same_open_calls other;
      same_counts = λ other. ap (λ (h : Here). h.counts) (own other (same_text name other) refl) ∙ agrees.same_counts other;
    }
  where
    found : (other : List ℕ) → row_of (put row parts.rows) other ≡ cond (same_text name other) (Some row) (row_of parts.rows other)
    found other = find-put (λ (r : RowShown). r.name) row parts.rows other ∙ ap (λ n. cond (same_text n other) (Some row) (row_of parts.rows other)) reads.own

    this : (other : List ℕ) → same_text name other ≡ true → row_of (put row parts.rows) other ≡ Some row
    this other e = found other ∙ ap (λ b. cond b (Some row) (row_of parts.rows other)) e

    that : (other : List ℕ) → same_text name other ≡ false → row_of (put row parts.rows) other ≡ row_of parts.rows other
    that other e = found other ∙ ap (λ b. cond b (Some row) (row_of parts.rows other)) e

    is : (other : List ℕ) → same_text name other ≡ true → name ≡ other
    is other e = (same_text-tells name other).0 e

    own : (other : List ℕ) (b : Bool) → same_text name other ≡ b → here_by (row_of (put row parts.rows) other) ≡ here view other
    own other true e =
        ap here_by (this other e) ∙ (λ i. record { there = (sym reads.there) i; ids = reads.ids i; goals = reads.goals i; arguments = reads.arguments i; counts = reads.counts i }) ∙ ap (here view) (is other e)
    own other false e = ap here_by (that other e) ∙ sym (others other e).rest

    own_marks : (thing : Thing) (b : Bool) → same_text name (name_in thing) ≡ b → mark_in (mark_of thing) (row_of (put row parts.rows) (name_in thing)) ≡ view.marks thing
    own_marks thing true e = ap (mark_in (mark_of thing)) (this (name_in thing) e) ∙ reads.marks thing (sym (is (name_in thing) e))
    own_marks thing false e = ap (mark_in (mark_of thing)) (that (name_in thing) e) ∙ sym ((others (name_in thing) e).marks thing refl)

    own_holdings : (other node : List ℕ) (b : Bool) → same_text name other ≡ b → mark_in (mark_of (Attached other node)) (row_of (put row parts.rows) other) ≢ No
        → option_and_then (λ (r : RowShown). held_on_node r node) (row_of (put row parts.rows) other) ≡ view.holdings other node
    own_holdings other node true e maybe =
        ap (option_and_then (λ (r : RowShown). held_on_node r node)) (this other e)
        ∙ reads.holdings node (λ h. maybe (ap (mark_in (mark_of (Attached other node))) (this other e) ∙ h)) ∙ ap (λ n. view.holdings n node) (is other e)
    own_holdings other node false e maybe = ap (option_and_then (λ (r : RowShown). held_on_node r node)) (that other e) ∙ sym ((others other e).holdings node)

    own_calls : (other : List ℕ) (b : Bool) → same_text name other ≡ b → option_and_then open_in_row (row_of (put row parts.rows) other) ≡ view.open_calls other
    own_calls other true e = ap (option_and_then open_in_row) (this other e) ∙ reads.open_calls ∙ ap view.open_calls (is other e)
    own_calls other false e = ap (option_and_then open_in_row) (that other e) ∙ sym (others other e).open_calls

-- the row of a name tells what is shown of it
pub row-reads : (parts : OrchestratorParts) (name : List ℕ) (row : RowShown) → row.name ≡ name → row_of parts.rows name ≡ Some row → Reads row (orchestrator_view parts) name
row-reads parts name row own found = grind arith

-- what a history tells, as it would be shown; and a row that tells what it tells of a name
abbrev pub told_by : History → OrchestratorView
told_by history =
    record {
      nodes = nodes_of history;
      last = last_number history;
      rows = has_row history;
      marks = known history;
      ids = id_of history;
      goals = goal_of history;
      arguments = arguments_of history;
      holdings = held history;
      open_calls = open_call history;
      counts = tries history;
    }

-- such a row
abbrev pub IsRowOf : RowShown → History → List ℕ → Type 0
IsRowOf row history name = Reads row (told_by history) name

-- so does a row that tells what is shown, where that agrees with the history
pub reads-history : (row : RowShown) (view : OrchestratorView) (history : History) (name : List ℕ) → Reads row view name → Agrees view history → IsRowOf row history name
reads-history row view history name reads agrees =
    record {
      own = reads.own;
      there = sym (agrees.same_rows name) ∙ reads.there;
      marks = λ thing is. reads.marks thing is ∙ agrees.same_marks thing;
      ids = reads.ids ∙ agrees.same_ids name;
      goals = reads.goals ∙ agrees.same_goals name;
      arguments = reads.arguments ∙ agrees.same_arguments name;
      holdings = λ node maybe. reads.holdings node maybe ∙ agrees.same_holdings name node (λ e. maybe (reads.marks (Attached name node) refl ∙ agrees.same_marks (Attached name node) ∙ e));
      open_calls = reads.open_calls ∙ agrees.same_open_calls name;
      counts = reads.counts ∙ agrees.same_counts name;
    }

-- the row that is found for a name is of that name, and tells what the history tells of it
pub own-name : (parts : OrchestratorParts) (name : List ℕ) (row : RowShown) → row_of parts.rows name ≡ Some row → row.name ≡ name
own-name parts name row e = (same_text-tells row.name name).0 (find-passes (λ (r : RowShown). same_text r.name name) parts.rows row e)

-- the row that is found for a name tells what the history tells of it
pub is-row-of : (parts : OrchestratorParts) (history : History) (name : List ℕ) (row : RowShown) → Shows parts history → row_of parts.rows name ≡ Some row → IsRowOf row history name
is-row-of parts history name row agrees e = reads-history row (orchestrator_view parts) history name (row-reads parts name row (own-name parts name row e) e) agrees
