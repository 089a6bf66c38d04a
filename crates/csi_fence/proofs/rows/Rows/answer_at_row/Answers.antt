use Rattle.std.proofs.Common.{◌≡◌, ◌∙◌, sym, ap, subst, refl, ℕ, not, List, Some, None, IfOk, IfErr, map, slice_get}
use Rattle.std.specs.Prelude.{count_by, filter}
use Rattle.std.proofs.lemmas.Bool.{false≢true}
use Rattle.csi_types.specs.declared.call.Kind.{Kind}
use Rattle.csi_types.specs.declared.number.Number.{Number}
use Rattle.csi_types.specs.Model.Replies.{stale_reply}
use Rattle.csi_types.specs.Public.Lent.{lent_call}
use Rattle.csi_fence.specs.declared.answer.Answer.{Answer}
use Rattle.csi_fence.specs.Model.Fence.{verdict_of}
use Rattle.csi_types.specs.declared.reply.Reply.{Reply}
use Rattle.csi_fence.specs.Public.Rows.{AreRising, IsGapFor, IsPlaceOf, row_after, rows_shown, stays_in}
use Rattle.csi_fence.proofs.Answering.{again-answers, answers-err, answers-ok, kept-same, late-answers, repeat-fresh}
use Rattle.csi_fence.proofs.FreshRows.{set-answered, set-carried, set-forgotten, set-kept, set-rising, stands-searched, stands-there}
use Rattle.csi_fence.proofs.RisingRows.{rising-filter}
use Rattle.csi_fence.proofs.RowsThere.{found-staying, found-there, placed-at}
use Rattle.csi_fence.proofs.rows.Rows.answer_at_row.Goals.{then-forgettable-eq0, else-forgettable-eq0}
use Rattle.csi_fence.proofs.rows.Rows.answer_at_row.Goals as goal

pub returns-in-Stale : goal.returns-in-Stale
returns-in-Stale g c =
    let t = g.T.Table in
    let rows = c.args.self.now.rows.items in
    let was = t.shown c.index-row.result.now in
    let call = lent_call c.args.call.now in
    let there = found-there (t.plan.is_for call) (map t.shown rows) c.args.place c.requires.place in
    let at = placed-at t.shown (t.plan.is_for call) rows c.args.place c.index-row.result.now c.requires.place c.index-row.ensures in
    let found = found-staying (t.plan.is_for call) t.plan.is_empty c.args.self.now.session c.args.number (map t.shown rows) was
    (g.met.T.Table.has_one_row c.args.self.now.table (map t.shown rows) call c.requires.in_time.asked.kept.fits c.requires.in_time.asked.kept.rising) (there.0 ∙ at) (λ later. c.requires.full was later at) in
    record {
      answers =
          late-answers t.plan t.is_sound t.is_frugal (t.fixed c.args.self.now.table) c.args.number call (rows_shown t.own t.shown c.args.self.now.table c.args.self.now.session rows) (t.agrees c.args.self.now.table)
          c.args.self.now.empty c.requires.in_time.asked.kept was c.args.place c.requires.in_time.not_over at found
          c.stale.result (ap (λ (n : Number). verdict_of (Some n) c.args.number) (sym c.last.ensures) ∙ sym c.verdict_of.ensures ∙ c.in-Stale.is) c.requires.in_time.asked.party
          (subst (λ (k : Kind). IfOk c.stale.result (λ (a : Answer). a ≡ record { kind = k; reply = stale_reply; row = None })) c.kind.ensures c.stale.ensures);
      fixed = refl;
    }

pub returns-in-Repeated : goal.returns-in-Repeated
returns-in-Repeated g c =
    let t = g.T.Table in
    let rows = c.args.self.now.rows.items in
    let was = t.shown c.index-row.result.now in
    let call = lent_call c.args.call.now in
    let there = found-there (t.plan.is_for call) (map t.shown rows) c.args.place c.requires.place in
    let at = placed-at t.shown (t.plan.is_for call) rows c.args.place c.index-row.result.now c.requires.place c.index-row.ensures in
    let found = found-staying (t.plan.is_for call) t.plan.is_empty c.args.self.now.session c.args.number (map t.shown rows) was
    (g.met.T.Table.has_one_row c.args.self.now.table (map t.shown rows) call c.requires.in_time.asked.kept.fits c.requires.in_time.asked.kept.rising) (there.0 ∙ at) (λ later. c.requires.full was later at) in
    record {
      answers =
          again-answers t.plan t.is_sound t.is_frugal (t.fixed c.args.self.now.table) c.args.number call (rows_shown t.own t.shown c.args.self.now.table c.args.self.now.session rows) (t.agrees c.args.self.now.table)
          c.args.self.now.empty c.requires.in_time.asked.kept was c.args.place c.requires.in_time.not_over at found
          g.met.T.Table.orderly c.repeated.result (ap (λ (n : Number). verdict_of (Some n) c.args.number) (sym c.last.ensures) ∙ sym c.verdict_of.ensures ∙ c.in-Repeated.is) c.repeated.ensures.ok c.repeated.ensures.succeeds;
      fixed = refl;
    }

-- ---- the call that is carried out

pub begin-requires : goal.begin-requires
begin-requires g c =
    let t = g.T.Table in
    let rows = c.args.self.now.rows.items in
    let was = t.shown c.index-row.result.now in
    let call = lent_call c.args.call.now in
    let at = placed-at t.shown (t.plan.is_for call) rows c.args.place c.index-row.result.now c.requires.place c.index-row.ensures in
    let told = t.plan.line (t.fixed c.args.self.now.table) (map t.shown rows) was call in
    let old = rows_shown t.own t.shown c.args.self.now.table c.args.self.now.session rows in
    let carried = c.in-Ok.ensures.ok was at in
    record {
      rising = subst (AreRising t.plan.id) (sym carried.rows) (set-rising t.plan t.is_sound g.met.T.Table.orderly c.args.number call was told (t.agrees c.args.self.now.table) old c.args.self.now.empty c.args.place c.requires.in_time.asked.kept at);
      agrees = c.in-Ok.ensures.agrees;
      forgettable = c.requires.in_time.forgettable ∙ sym (set-forgotten t.plan t.is_sound g.met.T.Table.orderly c.args.number call was told (t.agrees c.args.self.now.table) old c.args.self.now.empty c.args.place c.requires.in_time.asked.kept at c.requires.in_time.not_over (λ later. c.requires.full was later at))
          ∙ ap (count_by (λ (row : t.Shown). not (stays_in t.plan c.args.number.session row))) (sym carried.rows);
      empty = c.in-Ok.ensures.empty;
    }

pub place_of-requires : goal.place_of-requires
place_of-requires g c =
    let t = g.T.Table in
    let rows = c.args.self.now.rows.items in
    let was = t.shown c.index-row.result.now in
    let call = lent_call c.args.call.now in
    let at = placed-at t.shown (t.plan.is_for call) rows c.args.place c.index-row.result.now c.requires.place c.index-row.ensures in
    let told = t.plan.line (t.fixed c.args.self.now.table) (map t.shown rows) was call in
    let old = rows_shown t.own t.shown c.args.self.now.table c.args.self.now.session rows in
    let carried = c.in-Ok.ensures.ok was at in
    record {
      rising = subst (λ (l : List g.row.T-Row.Denot). AreRising t.plan.id (map t.shown l)) (sym c.as_slice.ensures.value) (subst (AreRising t.plan.id) (sym c.begin.ensures.rows)
          (rising-filter t.plan.id (stays_in t.plan c.args.number.session) (map t.shown c.carry_out_at.new.self.rows.items) (subst (AreRising t.plan.id) (sym carried.rows) (set-rising t.plan t.is_sound g.met.T.Table.orderly c.args.number call was told (t.agrees c.args.self.now.table) old c.args.self.now.empty c.args.place c.requires.in_time.asked.kept at))));
    }

pub returns-after-forgettable-eq0 : goal.returns-after-forgettable-eq0
returns-after-forgettable-eq0 g c =
    let t = g.T.Table in
    let rows = c.args.self.now.rows.items in
    let was = t.shown c.index-row.result.now in
    let call = lent_call c.args.call.now in
    let there = found-there (t.plan.is_for call) (map t.shown rows) c.args.place c.requires.place in
    let at = placed-at t.shown (t.plan.is_for call) rows c.args.place c.index-row.result.now c.requires.place c.index-row.ensures in
    let found = found-staying (t.plan.is_for call) t.plan.is_empty c.args.self.now.session c.args.number (map t.shown rows) was
    (g.met.T.Table.has_one_row c.args.self.now.table (map t.shown rows) call c.requires.in_time.asked.kept.fits c.requires.in_time.asked.kept.rising) (there.0 ∙ at) (λ later. c.requires.full was later at) in
    let fresh = ap (λ (n : Number). verdict_of (Some n) c.args.number) (sym c.last.ensures) ∙ sym c.verdict_of.ensures ∙ c.in-Fresh.is in
    let told = t.plan.line (t.fixed c.args.self.now.table) (map t.shown rows) was call in
    let old = rows_shown t.own t.shown c.args.self.now.table c.args.self.now.session rows in
    let carried = c.in-Ok.ensures.ok was at in
    let new = rows_shown t.own t.shown c.begin.new.self.table c.begin.new.self.session c.begin.new.self.rows.items in
    let own = c.begin.ensures.own ∙ c.in-Ok.ensures.own in
    let stay = c.begin.ensures.rows ∙ ap (filter (stays_in t.plan c.args.number.session)) carried.rows in
    let stands : (stands : ℕ) × (c.if-forgettable-eq0.row ≡ Some stands) × (slice_get new.rows stands ≡ Some (row_after t.plan c.args.number call told was)) =
    elim c.if-forgettable-eq0.branch [
      | then-forgettable-eq0 w ↦ (
        c.args.place,
        w.row-is,
        stands-there t.plan t.is_sound g.met.T.Table.orderly c.args.number call was told (t.agrees c.args.self.now.table) old c.args.self.now.empty c.args.place c.requires.in_time.asked.kept at c.requires.in_time.not_over
            new.rows c.args.forgettable w.if-forgettable-eq0.true (c.requires.in_time.forgettable
            ∙ sym (set-forgotten t.plan t.is_sound g.met.T.Table.orderly c.args.number call was told (t.agrees c.args.self.now.table) old c.args.self.now.empty c.args.place c.requires.in_time.asked.kept at c.requires.in_time.not_over
            (λ later. c.requires.full was later at))) stay,
      )
      | else-forgettable-eq0 w ↦
          let searched =
          stands-searched t.plan t.is_sound g.met.T.Table.orderly c.args.number call was told (t.agrees c.args.self.now.table) old c.args.self.now.empty c.args.place c.requires.in_time.asked.kept at c.requires.in_time.not_over
          new.rows w.place_of.result stay
          (subst (λ (n : ℕ). IfOk w.place_of.result (IsPlaceOf t.plan.id new.rows n)) c.id-id.ensures
          (subst (λ (l : List g.row.T-Row.Denot). IfOk w.place_of.result (IsPlaceOf t.plan.id (map t.shown l) c.id-id.result)) w.as_slice.ensures.value w.place_of.ensures.found))
          (subst (λ (n : ℕ). IfErr w.place_of.result (IsGapFor t.plan.id new.rows n)) c.id-id.ensures
          (subst (λ (l : List g.row.T-Row.Denot). IfErr w.place_of.result (IsGapFor t.plan.id (map t.shown l) c.id-id.result)) w.as_slice.ensures.value w.place_of.ensures.absent)) in
          (searched.0, w.row-is ∙ w.ok-row.ensures.value ∙ searched.1, searched.2)
    ] in
    record {
      answers =
          answers-ok t.plan t.is_sound t.is_frugal (t.fixed c.args.self.now.table) c.args.number call old new (t.agrees c.begin.new.self.table) c.begin.new.self.empty _
          (set-answered t.plan t.is_sound g.met.T.Table.orderly c.args.number call was told (t.agrees c.args.self.now.table) old c.args.self.now.empty c.args.place c.requires.in_time.asked.kept at c.requires.in_time.not_over
          (t.fixed c.args.self.now.table) new stands.0 _ refl carried.sound found fresh own c.begin.ensures.session stay stands.2
          (λ i. record { kind = c.kind-in-Ok.ensures i; reply = carried.is_reply i; row = stands.1 i }))
          (set-kept t.plan t.is_sound g.met.T.Table.orderly c.args.number call was told (t.agrees c.args.self.now.table) old c.args.self.now.empty c.args.place c.requires.in_time.asked.kept at c.requires.in_time.not_over
          (t.agrees c.begin.new.self.table) new c.begin.new.self.empty carried.sound own c.begin.ensures.session stay c.begin.ensures.agrees c.begin.ensures.empty);
      fixed = c.begin.ensures.fixed ∙ c.in-Ok.ensures.fixed;
    }

pub returns-in-Err : goal.returns-in-Err
returns-in-Err g c =
    let t = g.T.Table in
    let rows = c.args.self.now.rows.items in
    let was = t.shown c.index-row.result.now in
    let call = lent_call c.args.call.now in
    let there = found-there (t.plan.is_for call) (map t.shown rows) c.args.place c.requires.place in
    let at = placed-at t.shown (t.plan.is_for call) rows c.args.place c.index-row.result.now c.requires.place c.index-row.ensures in
    let found = found-staying (t.plan.is_for call) t.plan.is_empty c.args.self.now.session c.args.number (map t.shown rows) was
    (g.met.T.Table.has_one_row c.args.self.now.table (map t.shown rows) call c.requires.in_time.asked.kept.fits c.requires.in_time.asked.kept.rising) (there.0 ∙ at) (λ later. c.requires.full was later at) in
    let fresh = ap (λ (n : Number). verdict_of (Some n) c.args.number) (sym c.last.ensures) ∙ sym c.verdict_of.ensures ∙ c.in-Fresh.is in
    let told = t.plan.line (t.fixed c.args.self.now.table) (map t.shown rows) was call in
    let old = rows_shown t.own t.shown c.args.self.now.table c.args.self.now.session rows in
    let new = rows_shown t.own t.shown c.carry_out_at.new.self.table c.carry_out_at.new.self.session c.carry_out_at.new.self.rows.items in
    let same : new ≡ old = λ i. record { own = c.in-Err.ensures.own i; session = c.in-Err.ensures.session i; rows = c.in-Err.ensures.err i } in
    record {
      answers =
          answers-err t.plan t.is_sound t.is_frugal (t.fixed c.args.self.now.table) c.args.number call old new (t.agrees c.carry_out_at.new.self.table) c.carry_out_at.new.self.empty c.in-Err.fault same
          (kept-same t.plan t.is_sound (t.agrees c.args.self.now.table) (t.agrees c.carry_out_at.new.self.table) old new c.args.self.now.empty c.carry_out_at.new.self.empty c.requires.in_time.asked.kept same c.in-Err.ensures.agrees c.in-Err.ensures.empty)
          (repeat-fresh t.plan t.is_sound c.args.number call c.args.self.now.session (map t.shown rows) was found fresh)
          (λ frugal through ok. false≢true (c.in-Err.ensures.frugal was at frugal
          (ap (λ (reply : Reply). reply.status) (set-carried t.plan t.is_sound g.met.T.Table.orderly c.args.number call was told (t.agrees c.args.self.now.table) old c.args.self.now.empty c.args.place c.requires.in_time.asked.kept at
          c.requires.in_time.not_over (t.fixed c.args.self.now.table) refl found) ∙ ok)));
      fixed = c.in-Err.ensures.fixed;
    }
