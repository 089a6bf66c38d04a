use Rattle.std.proofs.Common.{◌≡◌, ◌∙◌, ◌<◌, ℕ, refl, sym, ap, subst, arith, map, List, position, IfOk, None}
use Rattle.std.specs.Prelude.{nat_eq}
use Rattle.std.proofs.lemmas.Bool.{not-false, not-true, true≢false}
use Rattle.std.proofs.lemmas.List.{length-map}
use Rattle.std.proofs.lemmas.Option.{same_Some}
use Rattle.csi_types.specs.declared.call.Kind.{Kind}
use Rattle.csi_types.specs.Model.Replies.{stale_reply}
use Rattle.csi_types.specs.Public.Lent.{lent_call}
use Rattle.csi_fence.specs.declared.answer.Answer.{Answer}
use Rattle.csi_fence.specs.Public.Rows.{rows_shown}
use Rattle.csi_fence.proofs.Answering.{over-answers}
use Rattle.csi_fence.proofs.RowsThere.{absent-staying, absent-there, found-there, full-at, none-staying, shown-at}
use Rattle.csi_fence.proofs.rows.Rows.answer.Goals.{then-self-number, else-self-number, in_default-via-in-Some+else-not-is_empty, then-forgettable-eq0, else-forgettable-eq0, in_default-via-in_default}
use Rattle.csi_fence.proofs.rows.Rows.answer.Goals as goal

pub returns-then-number-self : goal.returns-then-number-self
returns-then-number-self g c =
    let t = g.T.Table in
    record {
      answers =
          over-answers t.plan t.is_sound t.is_frugal (t.fixed c.args.self.now.table) c.args.number (lent_call c.args.call.now)
          (rows_shown t.own t.shown c.args.self.now.table c.args.self.now.session c.args.self.now.rows.items) (t.agrees c.args.self.now.table) c.args.self.now.empty c.requires.kept c.stale.result c.if-number-self.true c.requires.party
          (subst (λ (k : Kind). IfOk c.stale.result (λ (a : Answer). a ≡ record { kind = k; reply = stale_reply; row = None })) c.kind.ensures c.stale.ensures);
      fixed = refl;
    }

-- a row that stays isn't empty where the call begins a session
pub answer_at_row-requires-clause-full : goal.answer_at_row-requires-clause-full
answer_at_row-requires-clause-full g c = λ row later at.
    let shown = g.T.Table.shown in
    let rows = c.args.self.now.rows.items in
    let p = g.T.Table.plan.is_for (lent_call c.args.call.now) in
    let found = found-there p (map shown rows) c.in-Some.place (c.in-Some.ensures ∙ ap (λ (l : List g.row.T-Row.Denot). position p (map shown l)) c.as_slice.ensures.value) in
    let inside = found.1 in
    let many = length-map rows shown in
    elim c.if-forgettable-eq0.branch [
      | then-forgettable-eq0 w ↦
          elim c.if-self-number.branch [
            | then-self-number w' ↦ full-at g.T.Table.plan.is_empty (map shown rows) c.in-Some.place row (sym c.requires.kept.counted ∙ sym w'.forgettable-is ∙ w.if-forgettable-eq0.true) at
            | else-self-number w' ↦ absurd (omega (arith, later, w'.if-self-number.false))
          ]
      | else-forgettable-eq0 w ↦
          ap g.T.Table.plan.is_empty (same_Some row (shown w.index.result.now) (sym at ∙ shown-at shown rows c.in-Some.place w.index.result.now w.index.ensures (omega (arith, inside, many))))
          ∙ sym w.is_empty.ensures ∙ not-true w.is_empty.result (sym w.value-is ∙ c.if-not-is_empty.true)
    ]

-- one that doesn't is forgotten
pub answer_absent-requires-clause-none : goal.answer_absent-requires-clause-none
answer_absent-requires-clause-none g c =
    let shown = g.T.Table.shown in
    let rows = c.args.self.now.rows.items in
    let p = g.T.Table.plan.is_for (lent_call c.args.call.now) in
    elim c.in_default.branch [
      | in_default-via-in-Some+else-not-is_empty w ↦
          let found = found-there p (map shown rows) w.in-Some.place (w.in-Some.ensures ∙ ap (λ (l : List g.row.T-Row.Denot). position p (map shown l)) c.as_slice.ensures.value) in
          let inside = found.1 in
          let many = length-map rows shown in
          elim w.if-forgettable-eq0.branch [
            | then-forgettable-eq0 w' ↦ absurd (true≢false (sym (ap (λ (n : ℕ). nat_eq n 0) w'.if-forgettable-eq0.true) ∙ sym w'.value-is ∙ w.if-not-is_empty.false))
            | else-forgettable-eq0 w' ↦
                let at = shown-at shown rows w.in-Some.place w'.index.result.now w'.index.ensures (omega (arith, inside, many)) in
                let later : c.args.self.now.session < c.args.number.session = elim c.if-self-number.branch [
                  | then-self-number v ↦ v.if-self-number.true
                  | else-self-number v ↦ absurd (w'.if-forgettable-eq0.false v.forgettable-is)
                ] in
                none-staying p g.T.Table.plan.is_empty c.args.self.now.session c.args.number (map shown rows) (shown w'.index.result.now)
                (g.met.T.Table.has_one_row c.args.self.now.table (map shown rows) (lent_call c.args.call.now) c.requires.kept.fits c.requires.kept.rising) (found.0 ∙ at) later
                (sym w'.is_empty.ensures ∙ not-false w'.is_empty.result (sym w'.value-is ∙ w.if-not-is_empty.false))
          ]
      | in_default-via-in_default w ↦
          absent-staying p g.T.Table.plan.is_empty c.args.self.now.session c.args.number (map shown rows)
          (absent-there p (map shown rows) (sym w.in_default.is ∙ c.find.ensures ∙ ap (λ (l : List g.row.T-Row.Denot). position p (map shown l)) c.as_slice.ensures.value))
    ]
