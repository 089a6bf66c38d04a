-- The first row that no record has there, and the walk that finds it.
use Rattle.std.proofs.Common.{◌≡◌, ◌<◌, ◌≤◌, ◌+◌, ◌-◌, ℕ, length, get_or, take, true, false, List, [], ◌∷◌, ◌++◌, refl, sym, ◌∙◌, ap, subst, arith}
use Rattle.std.specs.Bool.{Decides}
use Rattle.std.specs.Prelude.{◌||◌, ◌==◌, nat_le, Option, Some, None, is_some}
use Rattle.std.proofs.lemmas.Bool.{and_from, and_parts, eq-eqb, eqb-true, false≢true, le-leb, leb-true}
use Rattle.std.proofs.lemmas.Bool.Decides.{Decides-and}
use Rattle.std.proofs.lemmas.List.{map_push, take-map, take_all}
use Rattle.std.proofs.lemmas.List.Elements.{All-from_recursion}
use Rattle.csi_types.specs.Model.Members.{IsAmong}
use Rattle.csi_types.proofs.Each.{each-weaker}
use Rattle.csi_types.proofs.Members.{all_of, one-of_all}
use Rattle.csi_types.proofs.Options.{some_is_not_none}
use Rattle.csi_fence.proofs.JudgedRows as judging
use Rattle.csi_fence.proofs.JudgedRows.{AreJudged, follows, judged-take, one-more}
use Rattle.csi_fence.proofs.RisingRows.{rise-rows}
use Rattle.csi_node.specs.declared.row.NodeRow.{NodeRow}
use Rattle.csi_types.specs.declared.capability.Capability.{Capability}
use Rattle.csi_node.specs.Public.Judging.{KeepRules, IsFirstRefused}
use Rattle.csi_node.specs.Private.Judging.{is_current, is_fit, may_follow}
use Rattle.csi_node.specs.Model.OneRow.{NodeRowShown, node_row_shown}
use Rattle.csi_node.specs.Public.OneRow.{IsSoundRow}
use Rattle.csi_node.specs.Model.Record.{parts}
use Rattle.csi_node.specs.Public.Record.{IsCurrentRow, AreSoundRows}
use Rattle.csi_node.specs.Private.SoundRow.{is_sound_row}
use Rattle.csi_node.specs.Public.Plan.{node_plan}
use Rattle.csi_node.proofs.RecordRules.{rise-places, rows_rise}
use Rattle.csi_node.proofs.SoundRow.{row-sound, sound-row}

-- ---- the rules of rows

-- the test of a row's session tells its rules
current-tells : (session : ℕ) (row : NodeRowShown) → Decides (is_current (Some session) row) (IsCurrentRow session row)
current-tells session row =
    let own = row.kept.number.session in
    let both = Decides-and (nat_le own session) (is_some row.staged || (own == session)) (leb-true own session, le-leb own session) (by row.staged) in
    (λ h. let is = both.0 h in record { before = is.0; empty = is.1 }, λ is. both.1 (is.before, is.empty))
  where
    by : (o : Option Capability) → Decides (is_some o || (row.kept.number.session == session)) (o ≡ None → row.kept.number.session ≡ session)
    by None = (λ h e. eqb-true row.kept.number.session session h, λ own. eq-eqb row.kept.number.session session (own refl))
    by (Some capability) = (λ h e. absurd (some_is_not_none capability e), λ own. refl)

-- each row may follow those before it
abbrev Judged : Option ℕ → List NodeRowShown → Type 0
Judged session rows = AreJudged node_plan.id (is_fit session) rows

-- sound rows of current sessions are such
judged : (session : Option ℕ) (rows : List NodeRowShown) → AreSoundRows rows → ((row : NodeRowShown) → IsAmong row rows → is_current session row ≡ true) → Judged session rows
judged session rows rules current = record {
  limit = rules.limit;
  each = all_of (λ (row : NodeRowShown). is_fit session row ≡ true) rows
      (λ row among. and_from (is_sound_row row) (is_current session row) (row-sound row (one-of_all IsSoundRow rows row rules.each among)) (current row among));
  rising = rows_rise rows rules.rising;
}

-- so are a record's
keeps-judged : (session : Option ℕ) (rows : List NodeRowShown) → KeepRules session rows → Judged session rows
keeps-judged None rows rules = judged None rows rules (λ row among. refl)
keeps-judged (Some session) rows rules = judged (Some session) rows rules.0 (λ row among. (current-tells session row).1 (one-of_all (IsCurrentRow session) rows row rules.1 among))

-- such rows are sound
sound : (session : Option ℕ) (rows : List NodeRowShown) → Judged session rows → AreSoundRows rows
sound session rows walked = record {
  rising = rise-places rows (rise-rows node_plan.id rows walked.rising);
  limit = walked.limit;
  each = All-from_recursion IsSoundRow rows
      (each-weaker (λ (row : NodeRowShown). is_fit session row ≡ true) IsSoundRow rows (λ row fit. sound-row row (and_parts (is_sound_row row) (is_current session row) fit).0) walked.each);
}

-- and a record's
judged-keep : (session : Option ℕ) (rows : List NodeRowShown) → Judged session rows → KeepRules session rows
judged-keep None rows walked = sound None rows walked
judged-keep (Some session) rows walked = (
  sound (Some session) rows walked,
  All-from_recursion (IsCurrentRow session) rows
      (each-weaker (λ (row : NodeRowShown). is_fit (Some session) row ≡ true) (IsCurrentRow session) rows (λ row fit. (current-tells session row).0 (and_parts (is_sound_row row) (is_current (Some session) row) fit).1) walked.each),
)

-- rows that are a record's have no first one that no record has there
pub not-both : (session : Option ℕ) (rows : List NodeRow) (place : ℕ) → IsFirstRefused session rows place → KeepRules session (parts rows) → ⊥
not-both session rows place first rules =
    first.refused (subst (KeepRules session) (take-map node_row_shown place rows)
    (judged-keep session (take place (parts rows)) (judged-take node_plan.id (is_fit session) (parts rows) place (keeps-judged session (parts rows) rules))))

-- ---- the walk

-- each row before a place may follow those before it, and this is their last id
abbrev pub SoFar : Option ℕ → List NodeRow → ℕ → ℕ → Type 0
SoFar session rows place last = judging.SoFar node_plan.id (is_fit session) (parts (take place rows)) place last

-- the rows up to a place and the one there are the rows of one place more
shown-more : (rows : List NodeRow) (place : ℕ) (row : NodeRow) → place < length rows → row ≡ get_or rows place row → parts (take (place + 1) rows) ≡ parts (take place rows) ++ node_row_shown row ∷ []
shown-more rows place row inside is = ap parts (one-more rows place row inside is) ∙ map_push node_row_shown (take place rows) row

-- where the next row may follow, the walk goes on, and its id is the last
pub goes_on : (session : Option ℕ) (rows : List NodeRow) (place last : ℕ) (row : NodeRow) → SoFar session rows place last → place < length rows → row ≡ get_or rows place row
    → may_follow session place last (node_row_shown row) ≡ true → SoFar session rows (place + 1) row.id
goes_on session rows place last row so inside is follows =
    subst (λ (l : List NodeRowShown). judging.SoFar node_plan.id (is_fit session) l (place + 1) row.id) (sym (shown-more rows place row inside is))
    (judging.goes_on node_plan.id (is_fit session) (parts (take place rows)) place last (node_row_shown row) so follows)

-- where the next row may not follow, it is the first that is refused
pub refused-there : (session : Option ℕ) (rows : List NodeRow) (place last : ℕ) (row : NodeRow) → SoFar session rows place last → place < length rows → row ≡ get_or rows place row → 0 < row.id
    → may_follow session place last (node_row_shown row) ≡ false → IsFirstRefused session rows (place + 1)
refused-there session rows place last row so inside is from fails =
    let back : place ≡ place + 1 - 1 = omega arith in
    record {
      from = omega arith;
      to = omega arith;
      before = subst (λ k. KeepRules session (parts (take k rows))) back (judged-keep session (parts (take place rows)) so.judged);
      refused = λ whole.
          let more : KeepRules session (parts (take place rows) ++ node_row_shown row ∷ []) = subst (KeepRules session) (shown-more rows place row inside is) whole in
          false≢true (sym fails ∙ follows node_plan.id (is_fit session) (parts (take place rows)) place last (node_row_shown row) so from (keeps-judged session (parts (take place rows) ++ node_row_shown row ∷ []) more));
    }

-- at the end of the rows they are all a record's
pub ends : (session : Option ℕ) (rows : List NodeRow) (place last : ℕ) → SoFar session rows place last → length rows ≤ place → KeepRules session (parts rows)
ends session rows place last so end = subst (λ (l : List NodeRow). KeepRules session (parts l)) (take_all place rows end) (judged-keep session (parts (take place rows)) so.judged)
