use Rattle.std.proofs.Common.{◌≡◌, ◌≤◌, ◌∙◌, ℕ, true, false, ap, sym, subst, arith, Bool, map, slice_set, cond, refl, set-set}
use mir.Val.{bool_byte}
use Rattle.std.specs.Prelude.{count_by}
use Rattle.std.proofs.lemmas.List.{map-set}
use Rattle.std.proofs.lemmas.Option.{same_Some, slice_get_within}
use Rattle.std.proofs.Math.Seq.{map-set_same}
use Rattle.csi_types.specs.Model.Call.{kind_of}
use Rattle.csi_types.specs.Public.Lent.{lent_call}
use Rattle.csi_types.proofs.Searches.{find-passes}
use Rattle.csi_fence.specs.Model.Fence.{Kept}
use Rattle.csi_fence.specs.Private.Rows.{IsCarriedAt}
use Rattle.csi_fence.specs.Public.Line.{told_by}
use Rattle.csi_fence.specs.Public.Rows.{Told, row_after}
use Rattle.csi_fence.proofs.PlacedRows.{set-got}
use Rattle.csi_fence.proofs.RowsThere.{all-at, found-there, placed-at}
use Rattle.csi_fence.proofs.StayingRows.{count-set, count-some, one_if}
use Rattle.csi_fence.proofs.rows.Rows.carry_out_at.Goals as goal
use Rattle.csi_fence.proofs.rows.Rows.carry_out_at.Goals.{then-is_done+in-Ok-change, else-is_done}

-- the row is there
pub line-line-requires-clause-own : goal.line-line-requires-clause-own
line-line-requires-clause-own g c =
    let shown = g.T.Table.shown in
    let rows = c.args.self.now.rows.items in
    let was = c.index_mut-row.result.now in
    let p = g.T.Table.plan.is_for (lent_call c.args.call.now) in
    find-passes p (map shown rows) (shown was) ((found-there p (map shown rows) c.args.place c.requires.place).0 ∙ placed-at shown p rows c.args.place was c.requires.place c.index_mut-row.ensures.value)

pub line-line-requires-clause-sound : goal.line-line-requires-clause-sound
line-line-requires-clause-sound g c =
    let shown = g.T.Table.shown in
    let rows = c.args.self.now.rows.items in
    let was = c.index_mut-row.result.now in
    all-at (g.T.Table.is_sound (g.T.Table.own c.args.self.now.table)) (map shown rows) c.args.place (shown was) c.requires.asked.kept.each (placed-at shown (g.T.Table.plan.is_for (lent_call c.args.call.now)) rows c.args.place was c.requires.place c.index_mut-row.ensures.value)

pub change-requires-clause-own : goal.change-requires-clause-own
change-requires-clause-own g c =
    let shown = g.T.Table.shown in
    let rows = c.args.self.now.rows.items in
    let was = c.index_mut-row.result.now in
    let p = g.T.Table.plan.is_for (lent_call c.args.call.now) in
    find-passes p (map shown rows) (shown was) ((found-there p (map shown rows) c.args.place c.requires.place).0 ∙ placed-at shown p rows c.args.place was c.requires.place c.index_mut-row.ensures.value)

pub change-requires-clause-sound : goal.change-requires-clause-sound
change-requires-clause-sound g c =
    let shown = g.T.Table.shown in
    let rows = c.args.self.now.rows.items in
    let was = c.index_mut-row.result.now in
    all-at (g.T.Table.is_sound (g.T.Table.own c.args.self.now.table)) (map shown rows) c.args.place (shown was) c.requires.asked.kept.each (placed-at shown (g.T.Table.plan.is_for (lent_call c.args.call.now)) rows c.args.place was c.requires.place c.index_mut-row.ensures.value)

-- a reply that isn't made, the first or the second: what takes no memory
pub returns-in-Err : goal.returns-in-Err
returns-in-Err g c =
    let shown = g.T.Table.shown in
    let rows = c.args.self.now.rows.items in
    let was = c.index_mut-row.result.now in
    let at = placed-at shown (g.T.Table.plan.is_for (lent_call c.args.call.now)) rows c.args.place was c.requires.place c.index_mut-row.ensures.value in
    let told = c.line-line.ensures.told (map shown rows) c.requires.asked.kept.fits in
    let same = map-set_same shown rows c.args.place was was (ap shown c.index_mut-row.ensures.value) in
    record {
      session = refl;
      fixed = refl;
      own = refl;
      ok = λ row there. tt;
      empty = c.requires.asked.kept.counted ∙ ap (count_by g.T.Table.plan.is_empty) (sym same);
      agrees = subst (g.T.Table.agrees c.args.self.now.table) (sym same) c.requires.asked.kept.fits;
      err = same;
      frugal = λ row there frugal ok.
          c.in-Err.ensures.succeeds (c.line-line.ensures.plain (ap (λ (t : Told). t.reply.status) told
          ∙ ap (λ (r : g.T.Table.Shown). (g.T.Table.plan.line (g.T.Table.fixed c.args.self.now.table) (map shown rows) r (lent_call c.args.call.now)).reply.status) (same_Some (shown was) row (sym at ∙ there)) ∙ ok));
    }

pub returns-in-Err-reply : goal.returns-in-Err-reply
returns-in-Err-reply g c =
    let shown = g.T.Table.shown in
    let rows = c.args.self.now.rows.items in
    let was = c.index_mut-row.result.now in
    let at = placed-at shown (g.T.Table.plan.is_for (lent_call c.args.call.now)) rows c.args.place was c.requires.place c.index_mut-row.ensures.value in
    let told = c.line-line.ensures.told (map shown rows) c.requires.asked.kept.fits in
    let same = map-set_same shown rows c.args.place was was (ap shown c.index_mut-row.ensures.value) in
    record {
      session = refl;
      fixed = refl;
      own = refl;
      ok = λ row there. tt;
      empty = c.requires.asked.kept.counted ∙ ap (count_by g.T.Table.plan.is_empty) (sym same);
      agrees = subst (g.T.Table.agrees c.args.self.now.table) (sym same) c.requires.asked.kept.fits;
      err = same;
      frugal = λ row there frugal ok.
          let plain = c.line-line.ensures.plain (ap (λ (t : Told). t.reply.status) told
          ∙ ap (λ (r : g.T.Table.Shown). (g.T.Table.plan.line (g.T.Table.fixed c.args.self.now.table) (map shown rows) r (lent_call c.args.call.now)).reply.status) (same_Some (shown was) row (sym at ∙ there)) ∙ ok) in
          c.in-Err-reply.ensures.succeeds plain;
    }

-- a change that was refused
pub returns-in-Err-change : goal.returns-in-Err-change
returns-in-Err-change g c =
    let same =
    map-set_same g.T.Table.shown c.args.self.now.rows.items c.args.place c.change.new.row c.index_mut-row.result.now (c.in-Err-change.ensures.err ∙ ap g.T.Table.shown c.index_mut-row.ensures.value) in
    record {
      session = refl;
      fixed = c.in-Err-change.ensures.fixed;
      own = c.in-Err-change.ensures.own;
      ok = λ row there. tt;
      empty = c.requires.asked.kept.counted ∙ ap (count_by g.T.Table.plan.is_empty) (sym same);
      agrees = subst (g.T.Table.agrees c.change.new.self) (sym same) (c.in-Err-change.ensures.err_agrees (map g.T.Table.shown c.args.self.now.rows.items) c.requires.asked.kept.fits);
      err = same;
      frugal = λ row there frugal ok. c.in-Err-change.ensures.frugal frugal;
    }

-- how many are empty
byte : (b : Bool) → bool_byte b ≡ one_if b
byte true = refl
byte false = refl

at_most : (b : Bool) (n : ℕ) → (b ≡ true → 1 ≤ n) → bool_byte b ≤ n
at_most true n least = least refl
at_most false n least = omega arith

pub overflow_sub-self : goal.overflow_sub-self
overflow_sub-self g c =
    let shown = g.T.Table.shown in
    let rows = c.args.self.now.rows.items in
    let was = c.index_mut-row.result.now in
    let counted = c.requires.asked.kept.counted in
    let least : c.is_empty-was_empty.result ≡ true → 1 ≤ c.args.self.now.empty = λ empty.
    let one =
    count-some g.T.Table.plan.is_empty (map shown rows) c.args.place (shown was) (placed-at shown (g.T.Table.plan.is_for (lent_call c.args.call.now)) rows c.args.place was c.requires.place c.index_mut-row.ensures.value) (sym c.is_empty-was_empty.ensures ∙ empty) in
    omega (arith, one, counted) in
    let before = c.from-then-is_done.ensures in
    let one = at_most c.is_empty-was_empty.result c.args.self.now.empty least in
    omega (arith, before, one)

-- the row after the call
pub returns : goal.returns
returns g c =
    let shown = g.T.Table.shown in
    let plan = g.T.Table.plan in
    let rows = c.args.self.now.rows.items in
    let was = c.index_mut-row.result.now in
    let at = placed-at shown (g.T.Table.plan.is_for (lent_call c.args.call.now)) rows c.args.place was c.requires.place c.index_mut-row.ensures.value in
    record {
      session = refl;
      fixed = elim c.if-is_done.branch [ then-is_done+in-Ok-change w ↦ rw (w.self-is) w.in-Ok-change.ensures.fixed | else-is_done w ↦ rw (w.self-is) refl ];
      own = elim c.if-is_done.branch [ then-is_done+in-Ok-change w ↦ rw (w.self-is) w.in-Ok-change.ensures.own | else-is_done w ↦ rw (w.self-is) refl ];
      ok = λ row there.
          let call = lent_call c.args.call.now in
          let own = g.T.Table.own c.args.self.now.table in
          let line = told_by c.line-line.result in
          let told = c.line-line.ensures.told (map shown rows) c.requires.asked.kept.fits in
          let changed : g.T.Table.Shown = cond line.is_done (plan.change call (shown was)) (shown was) in
          let kept : Kept = record { number = c.args.number; kind = kind_of call; reply = line.reply } in
          let made : (shown c.if-is_done.row ≡ changed) × (g.T.Table.is_sound own (shown c.if-is_done.row)) =
          elim c.if-is_done.branch [
            | then-is_done+in-Ok-change w ↦
                (ap shown w.row-is ∙ w.in-Ok-change.ensures.row ∙ sym (ap (λ (b : Bool). cond b (plan.change call (shown was)) (shown was)) (sym c.is_done-is_done.ensures ∙ w.if-is_done.true)), rw (w.row-is) w.in-Ok-change.ensures.sound)
            | else-is_done w ↦ (
              ap shown w.row-is ∙ sym (ap (λ (b : Bool). cond b (plan.change call (shown was)) (shown was)) (sym c.is_done-is_done.ensures ∙ w.if-is_done.false)),
              rw (w.row-is) (all-at (g.T.Table.is_sound own) (map shown rows) c.args.place (shown was) c.requires.asked.kept.each at),
            )
          ] in
          let after : shown c.keep.new.row ≡ row_after plan c.args.number call line (shown was) =
          c.keep.ensures ∙ ap (λ (r : g.T.Table.Shown). plan.keep (record { number = c.args.number; kind = c.kind.result; reply = c.in-Ok.reply }) r) made.0 ∙ rw (c.kind.ensures, c.in-Ok.ensures.ok) refl in
          subst
          (λ (r : g.T.Table.Shown).
          IsCarriedAt plan (g.T.Table.is_sound own) c.args.number call (plan.line (g.T.Table.fixed c.args.self.now.table) (map shown rows) r call) r c.args.place (map shown rows)
          (map shown (slice_set rows c.args.place c.keep.new.row)) c.in-Ok-reply.reply)
          (same_Some (shown was) row (sym at ∙ there))
          (subst
          (λ (t : Told). IsCarriedAt plan (g.T.Table.is_sound own) c.args.number call t (shown was) c.args.place (map shown rows) (map shown (slice_set rows c.args.place c.keep.new.row)) c.in-Ok-reply.reply)
          told
          (record {
            is_reply = c.in-Ok-reply.ensures.ok;
            rows = map-set shown rows c.args.place c.keep.new.row ∙ ap (slice_set (map shown rows) c.args.place) after;
            sound = g.met.T.Table.orderly.keep_sound (g.T.Table.fixed c.args.self.now.table) own kept changed (subst (g.T.Table.is_sound own) made.0 made.1) c.line-line.ensures.allowed;
          }));
      empty =
          let sum = count-set g.T.Table.plan.is_empty (map shown rows) c.args.place (shown was) (shown c.keep.new.row) at in
          let same = ap (count_by g.T.Table.plan.is_empty) (map-set shown rows c.args.place c.keep.new.row) in
          let counted = c.requires.asked.kept.counted in
          let kept = ap g.T.Table.plan.is_empty c.keep.ensures ∙ g.met.T.Table.orderly.keep_empty _ (shown c.if-is_done.row) in
          elim c.if-is_done.branch [
            | then-is_done+in-Ok-change w ↦
                let before = w.from-then-is_done.ensures ∙ byte w.is_empty-was_empty.result ∙ ap (λ (b : Bool). one_if b) w.is_empty-was_empty.ensures in
                let now = w.from.ensures ∙ byte w.is_empty.result ∙ ap (λ (b : Bool). one_if b) (w.is_empty.ensures ∙ sym (kept ∙ ap (λ (r : g.row.T-Row.Denot). g.T.Table.plan.is_empty (shown r)) w.row-is)) in
                rw (w.self-is) (omega (arith, sum, before, now, counted, same))
            | else-is_done w ↦
                let now = ap (λ (b : Bool). one_if b) (kept ∙ ap (λ (r : g.row.T-Row.Denot). g.T.Table.plan.is_empty (shown r)) w.row-is) in
                rw (w.self-is) (omega (arith, sum, now, counted, same))
          ];
      agrees =
          let kept : Kept = record { number = c.args.number; kind = c.kind.result; reply = c.in-Ok.reply } in
          rw (map-set shown rows c.args.place c.keep.new.row, c.keep.ensures)
          (elim c.if-is_done.branch [
            | then-is_done+in-Ok-change w ↦
                let mid : g.T.Table.Shown = shown w.change.new.row in
                let changed = w.in-Ok-change.ensures.agrees (map shown rows) c.args.place c.requires.asked.kept.fits at in
                let there = set-got g.T.Table.plan.id (map shown rows) c.args.place mid (slice_get_within (map shown rows) c.args.place (shown was) at) in
                rw (w.row-is, w.self-is) (subst (g.T.Table.agrees w.change.new.self) (set-set (map shown rows) c.args.place mid _) (g.met.T.Table.lets_keep w.change.new.self (slice_set (map shown rows) c.args.place mid) c.args.place mid kept changed there))
            | else-is_done w ↦ rw (w.row-is, w.self-is) (g.met.T.Table.lets_keep c.args.self.now.table (map shown rows) c.args.place (shown was) kept c.requires.asked.kept.fits at)
          ]);
      err = tt;
      frugal = λ row there frugal ok. refl;
    }
