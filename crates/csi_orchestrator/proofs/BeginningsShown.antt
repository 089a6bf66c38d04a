-- What the rows show where a session begins is what the history tells: rows that are forgotten, and those that stay.
use Rattle.csi_orchestrator.proofs.Words.{◌≡◌, ℕ, List, [], ◌∷◌, map, Bool, true, false, cond, refl, sym, ◌∙◌, ap}
use Rattle.csi_orchestrator.proofs.Words.{Option, Some, None, filter, is_some, is_none, option_map, option_and_then}
use Rattle.csi_orchestrator.proofs.Words.{◌&&◌, list_any, Number, same_text, Thing, Exists, Attached, No, name_in}
use Rattle.csi_orchestrator.proofs.Words.{is_no, History, is_gone_with, goal_of, names_of, has_row, is_forgotten}
use Rattle.csi_orchestrator.proofs.Words.{OrchestratorView, Agrees, RowShown, OrchestratorParts, row_of, mark_in}
use Rattle.csi_orchestrator.proofs.Words.{mark_of, goal_shown, goal_in, held_on_node, open_in_row, tries_in, Shows}
use Rattle.csi_orchestrator.proofs.Words.{is_row_forgotten, remembered, row_at_loss, closed, AreSoundRows}
use Rattle.csi_orchestrator.proofs.Words.{IsSteadyRowIf, AreSteadyRowsIf, arith}
use Rattle.csi_orchestrator.proofs.Lemmas.{false≢true, and_parts, each_of, among-find, among-kept, in_filter, find-map}
use Rattle.csi_orchestrator.proofs.Lemmas.{find-none, alike, any-then, then-any, same_text-tells}
use Rattle.csi_orchestrator.specs.declared.row.Goal.{Goal as KeptGoal}
use Rattle.csi_orchestrator.proofs.EntryRules.{HaveDistinctKeys}
use Rattle.csi_orchestrator.proofs.LossViews.{after_forgetting, forgetting-shows, IsForgotten, stopped, is_stopped}
use Rattle.csi_orchestrator.proofs.RowsAfterSending.{mark-same}
use Rattle.csi_orchestrator.proofs.RowsLost.{with_lost, row-by, lost-mark, lost-goal, lost-tries}
use Rattle.csi_orchestrator.proofs.TextLists.{same_text-flip}
use Rattle.csi_orchestrator.proofs.KnownTests.{no_is_no}

-- ---- the rows that are remembered

-- the row, unless it is forgotten
abbrev pub unless_forgotten : RowShown → Option RowShown
unless_forgotten row = cond (is_row_forgotten row) None (Some row)

-- the row of a name among those that are remembered
pub remembered-of : (rows : List RowShown) (name : List ℕ) → HaveDistinctKeys (λ (r : RowShown). r.name) rows → row_of (remembered rows) name ≡ option_and_then unless_forgotten (row_of rows name)
remembered-of [] name apart = refl
remembered-of (row ∷ rows) name apart = grind (arith, find-none, among-kept, same_text-tells, each_of, same_text-flip, (remembered-of rows name apart.1))

-- ---- the names that are forgotten

-- each has a row that is forgotten, and so does no other
forgotten-alike : (parts : OrchestratorParts) (history : History) → Shows parts history → (name : List ℕ)
    → list_any (same_text name) (filter (is_forgotten history) (names_of history)) ≡ is_some (row_of parts.rows name) && is_forgotten history name
forgotten-alike parts history agrees name =
    alike _ _ there back ∙ ap (λ b. b && is_forgotten history name) (sym (agrees.same_rows name))
  where
    there : list_any (same_text name) (filter (is_forgotten history) (names_of history)) ≡ true → (has_row history name && is_forgotten history name) ≡ true
    there e =
        let found = any-then (same_text name) (filter (is_forgotten history) (names_of history)) e in
        let kept = among-kept (is_forgotten history) (names_of history) found.0 found.1 in
        let is = (same_text-tells name found.0).0 found.2 in
        ap (λ b. b && is_forgotten history name) (then-any (same_text name) (names_of history) found.0 kept.0 found.2) ∙ ap (is_forgotten history) is ∙ kept.1

    back : (has_row history name && is_forgotten history name) ≡ true → list_any (same_text name) (filter (is_forgotten history) (names_of history)) ≡ true
    back e =
        let both = and_parts (has_row history name) (is_forgotten history name) e in
        let found = any-then (same_text name) (names_of history) both.0 in
        let is = (same_text-tells name found.0).0 found.2 in
        then-any (same_text name) (filter (is_forgotten history) (names_of history)) found.0 (in_filter (is_forgotten history) (names_of history) found.0 found.1 (ap (is_forgotten history) (sym is) ∙ both.1)) found.2

-- the row says it alike
row-forgotten : (parts : OrchestratorParts) (history : History) (name : List ℕ) (row : RowShown) → Shows parts history → row_of parts.rows name ≡ Some row → is_forgotten history name ≡ is_row_forgotten row
row-forgotten parts history name row agrees e =
    ap (λ k. is_no k && is_none (goal_of history name)) (sym (agrees.same_marks (Exists name)) ∙ ap (mark_in (mark_of (Exists name))) e)
    ∙ ap (λ g. is_no row.exists && is_none g) (sym (agrees.same_goals name) ∙ ap (option_and_then goal_in) e)
    ∙ ap (λ b. is_no row.exists && b) (none-alike row.goal)
  where
    none-alike : (g : Option KeptGoal) → is_none (option_map (goal_shown row.arguments) g) ≡ is_none g
    none-alike None = refl
    none-alike (Some goal) = refl

-- ---- what is shown then

-- what a row that isn't forgotten becomes tells what is shown of its name, holdings only where it may be attached
pub record Tells-At (row : RowShown) (view : OrchestratorView) (name : List ℕ) : Type 0 where
  pub rows : view.rows name ≡ true
  pub marks : (thing : Thing) → name_in thing ≡ name → mark_of thing row ≡ view.marks thing
  pub ids : row.id ≡ view.ids name
  pub goals : goal_in row ≡ view.goals name
  pub arguments : Some row.arguments ≡ view.arguments name
  pub holdings : (node : List ℕ) → held_on_node row node ≡ view.holdings name node
  pub open_calls : open_in_row row ≡ view.open_calls name
  pub counts : row.tries ≡ view.counts name

-- of a name without a row nothing is shown
pub record Nothing-At (view : OrchestratorView) (name : List ℕ) : Type 0 where
  pub rows : view.rows name ≡ false
  pub marks : (thing : Thing) → name_in thing ≡ name → view.marks thing ≡ No
  pub ids : view.ids name ≡ None
  pub goals : view.goals name ≡ None
  pub arguments : view.arguments name ≡ None
  pub holdings : (node : List ℕ) → view.holdings name node ≡ None
  pub open_calls : view.open_calls name ≡ None
  pub counts : view.counts name ≡ 0

-- a row of which nothing is known or wanted
pub record IsBlank (row : RowShown) : Type 0 where
  pub marks : (thing : Thing) → mark_of thing row ≡ No
  pub goal : goal_in row ≡ None
  pub calls : open_in_row row ≡ None
  pub tries : row.tries ≡ 0

-- the parts whose rows became so agree with a history with which what is shown of them does, once names were forgotten
pub begun-agrees : (parts : OrchestratorParts) (was : History) (change : RowShown → RowShown) (nodes : List (List ℕ)) (last : Number) (view : OrchestratorView) (history : History)
    → AreSoundRows parts.rows → AreSteadyRowsIf (Unit {0}) parts.rows → Shows parts was → nodes ≡ view.nodes → last ≡ view.last → ((row : RowShown) → (change row).name ≡ row.name)
    → ((row : RowShown) → is_row_forgotten row ≡ true → IsSteadyRowIf (Unit {0}) row → IsBlank (change row))
    → ((name : List ℕ) (row : RowShown) → row_of parts.rows name ≡ Some row → Tells-At (change row) view name) → ((name : List ℕ) → row_of parts.rows name ≡ None → Nothing-At view name)
    → Agrees (after_forgetting (filter (is_forgotten was) (names_of was)) view) history
    → Shows (record { nodes = nodes; last = last; rows = map change (remembered parts.rows) }) history
begun-agrees parts was change nodes last view history sound steady shows is_nodes is_last named blank some none agrees =
    record {
      same_nodes = is_nodes ∙ sym showing.beside.nodes ∙ agrees.same_nodes;
      same_last = is_last ∙ sym showing.beside.last ∙ agrees.same_last;
      same_rows = λ name.
          reads is_some name _ (λ f. sym (showing.rows name ∙ ap (λ b. cond b false (view.rows name)) (test name None f) ∙ (none name f).rows))
          (λ r f g. sym (showing.rows name ∙ ap (λ b. cond b false (view.rows name)) (gone name r f true g)))
          (λ r f g. sym (showing.rows name ∙ ap (λ b. cond b false (view.rows name)) (gone name r f false g) ∙ (some name r f).rows)) ∙ agrees.same_rows name;
      same_marks = λ thing. mark thing ∙ agrees.same_marks thing;
      same_ids = λ name.
          reads (option_and_then (λ (r : RowShown). r.id)) name _ (λ f. sym (showing.ids name ∙ ap (λ b. cond b None (view.ids name)) (test name None f) ∙ (none name f).ids))
          (λ r f g. sym (showing.ids name ∙ ap (λ b. cond b None (view.ids name)) (gone name r f true g)))
          (λ r f g. (some name r f).ids ∙ sym (showing.ids name ∙ ap (λ b. cond b None (view.ids name)) (gone name r f false g))) ∙ agrees.same_ids name;
      same_goals = λ name.
          reads (option_and_then goal_in) name _ (λ f. sym (showing.goals name ∙ (none name f).goals))
          (λ r f g. sym (showing.goals name ∙ sym (some name r f).goals ∙ (blank r g (own name r f)).goal)) (λ r f g. (some name r f).goals ∙ sym (showing.goals name)) ∙ agrees.same_goals name;
      same_arguments = λ name.
          reads (option_map (λ (r : RowShown). r.arguments)) name _ (λ f. sym (showing.arguments name ∙ ap (λ b. cond b None (view.arguments name)) (test name None f) ∙ (none name f).arguments))
          (λ r f g. sym (showing.arguments name ∙ ap (λ b. cond b None (view.arguments name)) (gone name r f true g)))
          (λ r f g. (some name r f).arguments ∙ sym (showing.arguments name ∙ ap (λ b. cond b None (view.arguments name)) (gone name r f false g))) ∙ agrees.same_arguments name;
      same_holdings = λ name node there.
          reads (option_and_then (λ (r : RowShown). held_on_node r node)) name _ (λ f. sym (showing.beside.holdings name node ∙ (none name f).holdings node))
          (λ r f g. absurd (there (sym (mark (Attached name node) ∙ agrees.same_marks (Attached name node)) ∙ ap (mark_in (mark_of (Attached name node))) (of name (Some r) f ∙ kept r true g))))
          (λ r f g. (some name r f).holdings node ∙ sym (showing.beside.holdings name node)) ∙ agrees.same_holdings name node there;
      same_open_calls = λ name.
          reads (option_and_then open_in_row) name _ (λ f. sym (showing.beside.open_calls name ∙ (none name f).open_calls))
          (λ r f g. sym (showing.beside.open_calls name ∙ sym (some name r f).open_calls ∙ (blank r g (own name r f)).calls)) (λ r f g. (some name r f).open_calls ∙ sym (showing.beside.open_calls name)) ∙ agrees.same_open_calls name;
      same_counts = λ name.
          reads tries_in name _ (λ f. sym (showing.counts name ∙ (none name f).counts)) (λ r f g. sym (showing.counts name ∙ sym (some name r f).counts ∙ (blank r g (own name r f)).tries))
          (λ r f g. (some name r f).counts ∙ sym (showing.counts name)) ∙ agrees.same_counts name;
    }
  where
    showing : IsForgotten (filter (is_forgotten was) (names_of was)) (after_forgetting (filter (is_forgotten was) (names_of was)) view) view
    showing = forgetting-shows (filter (is_forgotten was) (names_of was)) view

    -- the row of a name then
    of : (name : List ℕ) (o : Option RowShown) → row_of parts.rows name ≡ o → row_of (map change (remembered parts.rows)) name ≡ option_map change (option_and_then unless_forgotten o)
    of name o e =
        find-map (λ (r : RowShown). same_text r.name name) change (remembered parts.rows) (λ r. ap (λ n. same_text n name) (named r))
        ∙ ap (option_map change) (remembered-of parts.rows name sound.names ∙ ap (option_and_then unless_forgotten) e)

    -- whether it is forgotten
    test : (name : List ℕ) (o : Option RowShown) → row_of parts.rows name ≡ o → list_any (same_text name) (filter (is_forgotten was) (names_of was)) ≡ is_some o && is_forgotten was name
    test name o e = forgotten-alike parts was shows name ∙ ap (λ x. is_some x && is_forgotten was name) e

    gone : (name : List ℕ) (r : RowShown) → row_of parts.rows name ≡ Some r → (b : Bool) → is_row_forgotten r ≡ b → list_any (same_text name) (filter (is_forgotten was) (names_of was)) ≡ b
    gone name r e b f = test name (Some r) e ∙ row-forgotten parts was name r shows e ∙ f

    own : (name : List ℕ) (r : RowShown) → row_of parts.rows name ≡ Some r → IsSteadyRowIf (Unit {0}) r
    own name r e = each_of (IsSteadyRowIf (Unit {0})) parts.rows r steady (among-find (λ (x : RowShown). same_text x.name name) parts.rows r e)

    kept : (r : RowShown) (b : Bool) → is_row_forgotten r ≡ b → option_map change (unless_forgotten r) ≡ cond b None (Some (change r))
    kept r true f = ap (λ b. option_map change (cond b None (Some r))) f
    kept r false f = ap (λ b. option_map change (cond b None (Some r))) f

    -- what is read of a row that isn't forgotten, and of none
    reads : {Y : Type 0} (read : Option RowShown → Y) (name : List ℕ) (told : Y) → (row_of parts.rows name ≡ None → read None ≡ told)
        → ((r : RowShown) → row_of parts.rows name ≡ Some r → is_row_forgotten r ≡ true → read None ≡ told)
        → ((r : RowShown) → row_of parts.rows name ≡ Some r → is_row_forgotten r ≡ false → read (Some (change r)) ≡ told) → read (row_of (map change (remembered parts.rows)) name) ≡ told
    reads read name told empty forgotten there = by (row_of parts.rows name) refl
      where
        by : (o : Option RowShown) → row_of parts.rows name ≡ o → read (row_of (map change (remembered parts.rows)) name) ≡ told
        by None e = ap read (of name None e) ∙ empty e
        by (Some r) e = ap read (of name (Some r) e) ∙ at (is_row_forgotten r) refl
          where
            at : (b : Bool) → is_row_forgotten r ≡ b → read (option_map change (unless_forgotten r)) ≡ told
            at true f = ap read (kept r true f) ∙ forgotten r e f
            at false f = ap read (kept r false f) ∙ there r e f

    mark : (thing : Thing) → mark_in (mark_of thing) (row_of (map change (remembered parts.rows)) (name_in thing)) ≡ (after_forgetting (filter (is_forgotten was) (names_of was)) view).marks thing
    mark thing =
        reads (mark_in (mark_of thing)) (name_in thing) _ (λ f. sym (showing.beside.marks thing ∙ (none (name_in thing) f).marks thing refl))
        (λ r f g. sym (showing.beside.marks thing ∙ sym ((some (name_in thing) r f).marks thing refl) ∙ (blank r g (own (name_in thing) r f)).marks thing))
        (λ r f g. (some (name_in thing) r f).marks thing refl ∙ sym (showing.beside.marks thing))

-- ---- rows that are forgotten are blank

-- what a forgotten row is
record IsGone (row : RowShown) : Type 0 where
  exists : row.exists ≡ No
  goal : row.goal ≡ None
  entries : row.node_entries ≡ []
  tries : row.tries ≡ 0

-- where it is steady
gone-row : (row : RowShown) → is_row_forgotten row ≡ true → IsSteadyRowIf (Unit {0}) row → IsGone row
gone-row row e steady = grind (arith, and_parts, no_is_no, false≢true)

-- nothing is known of it
gone-mark : (row : RowShown) → IsGone row → (thing : Thing) → mark_of thing row ≡ No
gone-mark row gone thing = grind arith

-- its goal is none, with which it has no open call
gone-goal : (row : RowShown) → IsGone row → goal_in row ≡ None
gone-goal row gone = ap (option_map (goal_shown row.arguments)) gone.goal

-- its open call is given up
pub closed-blank : (row : RowShown) → is_row_forgotten row ≡ true → IsSteadyRowIf (Unit {0}) row → IsBlank (closed row)
closed-blank row e steady =
    let gone = gone-row row e steady in
    record { marks = λ thing. mark-same thing (closed row) row refl refl ∙ gone-mark row gone thing; goal = gone-goal row gone; calls = refl; tries = gone.tries }

-- what is known of a row's thing once a node was lost
pub lost-row-mark : (node : List ℕ) (row : RowShown) (thing : Thing) → mark_of thing (row_at_loss node row) ≡ cond (is_gone_with node thing) No (mark_of thing row)
lost-row-mark node row thing =
    row-by (λ (r : RowShown). mark_of thing r ≡ cond (is_gone_with node thing) No (mark_of thing row)) node row row.goal
    (λ e. mark-same thing (closed (with_lost node row)) (with_lost node row) refl refl ∙ lost-mark node row thing)
    (λ usage e f. mark-same thing _ (with_lost node row) refl refl ∙ lost-mark node row thing)

-- no call is open then
pub lost-calls : (node : List ℕ) (row : RowShown) → open_in_row (row_at_loss node row) ≡ None
lost-calls node row = row-by (λ (r : RowShown). open_in_row r ≡ None) node row row.goal (λ e. refl) (λ usage e f. refl)

-- a row that is forgotten is blank once a node was lost
pub lost-blank : (node : List ℕ) (row : RowShown) → is_row_forgotten row ≡ true → IsSteadyRowIf (Unit {0}) row → IsBlank (row_at_loss node row)
lost-blank node row e steady = grind (arith, gone-row, lost-row-mark, gone-mark, lost-goal, stopped, gone-goal, lost-calls, lost-tries, is_stopped)
