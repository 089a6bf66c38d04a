-- What is opened from a record keeps all that an orchestrator's type keeps.
use Rattle.csi_orchestrator.proofs.Words.{◌≡◌, ℕ, List, false, not, arith, None, same_text, RowShown, remembered}
use Rattle.csi_orchestrator.proofs.Words.{restart_refusal, is_row_forgotten, AreWithin, opened_parts, RecordParts}
use Rattle.csi_orchestrator.proofs.Words.{IsRestorable, AreRestorable, IsSoundRow, AreSoundParts, IsSteadyRow, Opens}
use Rattle.csi_orchestrator.proofs.Lemmas.{each-weaker, each-filter, filter-no_longer, all_of, each_of, two-filter}
use Rattle.csi_orchestrator.proofs.AllTold.{HasTold, next-told}
use Rattle.csi_orchestrator.proofs.BoundsStay.{none-left-out, relisted}

-- the rows that are remembered keep the rules with the new nodes
restarted-restorable : (session : ℕ) (old new : List (List ℕ)) (rows : List RowShown) → AreRestorable old rows → restart_refusal session old new rows ≡ None → AreRestorable new (remembered rows)
restarted-restorable session old new rows kept ok =
    record {
      few = let few = kept.few in let shorter = filter-no_longer (λ row. not (is_row_forgotten row)) rows in omega (arith, few, shorter);
      names = two-filter (λ (a b : RowShown). same_text a.name b.name ≡ false) (λ row. not (is_row_forgotten row)) rows kept.names;
      each =
          each-filter (IsRestorable new) (λ row. not (is_row_forgotten row)) rows
          (all_of (IsRestorable new) rows
          (λ row there.
          let own = each_of (IsRestorable old) rows row kept.each there in
          record { quiet = own.quiet; sound = own.sound; steady = own.steady; within = relisted old new rows row (none-left-out session old new rows ok) there own.sound own.steady own.within }));
    }

-- whatever rows keep the rules, with each list of nodes with which it isn't refused
pub opened : (kept : RecordParts) (nodes : List (List ℕ)) → AreRestorable kept.nodes kept.rows → restart_refusal kept.session kept.nodes nodes kept.rows ≡ None → AreSoundParts (opened_parts kept nodes)
opened kept nodes rules ok =
    record {
      sound = record { names = fit.names; each = each-weaker (IsRestorable nodes) IsSoundRow (remembered kept.rows) (λ row own. own.sound) fit.each };
      steady = each-weaker (IsRestorable nodes) IsSteadyRow (remembered kept.rows) (λ row own. own.steady) fit.each;
      within = record { rows = fit.few; entries = each-weaker (IsRestorable nodes) (AreWithin nodes) (remembered kept.rows) (λ row own. own.within) fit.each };
      told = record { history = told.history; reached = Opens (opened_parts kept nodes) told.history fit told.form told.agrees; form = told.form; agrees = told.agrees };
    }
  where
    fit : AreRestorable nodes (remembered kept.rows)
    fit = restarted-restorable kept.session kept.nodes nodes kept.rows rules ok

    told : HasTold (opened_parts kept nodes)
    told = next-told nodes kept.session (remembered kept.rows) fit.names fit.each
