use Rattle.std.proofs.Common.{◌≡◌, ◌-◌, ◌∙◌, sym, ap, subst, arith, rules, not, List, Some, None, map, length}
use Rattle.std.specs.Prelude.{All, count_by, filter, find, ◌==◌}
use Rattle.std.proofs.lemmas.Bool.{false≢true}
use Rattle.std.proofs.lemmas.List.{length-map}
use Rattle.csi_types.specs.declared.reply.Reply.{Reply}
use Rattle.csi_types.specs.Model.Call.{kind_of}
use Rattle.csi_types.specs.Public.Lent.{lent_call}
use Rattle.csi_fence.specs.Public.Rows.{AreRising, put_row, rows_shown, staying, stays_in}
use Rattle.csi_fence.specs.Public.Table.{IsAbsent, IsAllowedAbsent, MakesNone}
use Rattle.csi_fence.proofs.AbsentRows.{alone-answered, made-answered, made-few, made-kept, made-new, stay-forgotten, stay-is, stay-kept, stay-length, stay-rising, stay-sound}
use Rattle.csi_fence.proofs.AnsweredRows.{carried-absent}
use Rattle.csi_fence.proofs.Answering.{answers-errs, answers-ok, kept-same, repeat-absent}
use Rattle.csi_fence.proofs.rows.Rows.answer_absent.Goals as goal

pub returns-in_err-reply : goal.returns-in_err-reply
returns-in_err-reply g c =
    let t = g.T.Table in
    let rows = c.args.self.now.rows.items in
    let call = lent_call c.args.call.now in
    let fixed = t.fixed c.args.self.now.table in
    let own = t.own c.args.self.now.table in
    let old = rows_shown t.own t.shown c.args.self.now.table c.args.self.now.session rows in
    let stay = staying t.plan.is_empty c.args.self.now.session c.args.number (map t.shown rows) in
    let long = stay-length t.plan t.is_sound c.args.number call (t.agrees c.args.self.now.table) old c.args.self.now.empty c.requires.in_time.asked.kept c.requires.in_time.not_over in
    let many = length-map rows t.shown in
    let gone = c.requires.in_time.forgettable in
    let length_is = c.len.ensures in
    let count : length stay ≡ c.len.result - c.args.forgettable = omega (arith, long, many, gone, length_is) in
    let new = rows_shown t.own t.shown c.absent.new.self c.args.self.now.session rows in
    let same : new ≡ old = λ i. record { own = c.in_err-reply.ensures.own i; session = c.args.self.now.session; rows = map t.shown rows } in
    record {
      answers =
          answers-errs t.plan t.is_sound t.is_frugal fixed c.args.number call old new (t.agrees c.absent.new.self) c.args.self.now.empty c.from_residual.result c.from_residual.ensures.0 same
          (kept-same t.plan t.is_sound (t.agrees c.args.self.now.table) (t.agrees c.absent.new.self) old new c.args.self.now.empty c.args.self.now.empty c.requires.in_time.asked.kept same (c.in_err-reply.ensures.agrees (map t.shown rows) c.requires.in_time.asked.kept.fits)
          c.requires.in_time.asked.kept.counted)
          (repeat-absent t.plan t.is_sound c.args.number call c.args.self.now.session (map t.shown rows) c.requires.none)
          (λ frugal through ok.
          false≢true (c.in_err-reply.ensures.frugal frugal stay count (ap (λ (r : Reply). r.status) (sym (carried-absent t.plan fixed c.args.number call old c.requires.none)) ∙ ok)));
      fixed = c.in_err-reply.ensures.fixed;
    }

pub begin-requires : goal.begin-requires
begin-requires g c =
    let t = g.T.Table in
    let rows = c.args.self.now.rows.items in
    let call = lent_call c.args.call.now in
    let old = rows_shown t.own t.shown c.args.self.now.table c.args.self.now.session rows in
    record {
      rising = c.requires.in_time.asked.kept.rising;
      agrees = c.in_ok-reply.ensures.agrees (map t.shown rows) c.requires.in_time.asked.kept.fits;
      forgettable = c.requires.in_time.forgettable ∙ stay-forgotten t.plan t.is_sound c.args.number call (t.agrees c.args.self.now.table) old c.args.self.now.empty c.requires.in_time.asked.kept c.requires.in_time.not_over;
      empty = c.requires.in_time.asked.kept.counted;
    }

pub returns-in_err-reserve-in-Made : goal.returns-in_err-reserve-in-Made
returns-in_err-reserve-in-Made g c =
    let t = g.T.Table in
    let rows = c.args.self.now.rows.items in
    let call = lent_call c.args.call.now in
    let fixed = t.fixed c.args.self.now.table in
    let own = t.own c.args.self.now.table in
    let old = rows_shown t.own t.shown c.args.self.now.table c.args.self.now.session rows in
    let stay = staying t.plan.is_empty c.args.self.now.session c.args.number (map t.shown rows) in
    let new = rows_shown t.own t.shown c.absent.new.self c.args.self.now.session c.reserve.new.self.items in
    let items = ap (λ (l : List g.row.T-Row.Denot). map t.shown l) c.in_err-reserve-in-Made.ensures.items in
    let same : new ≡ old = λ i. record { own = c.in_ok-reply.ensures.own i; session = c.args.self.now.session; rows = items i } in
    record {
      answers =
          answers-errs t.plan t.is_sound t.is_frugal fixed c.args.number call old new (t.agrees c.absent.new.self) c.args.self.now.empty c.from_residual-in_err-reserve-in-Made.result
          c.from_residual-in_err-reserve-in-Made.ensures.0 same
          (kept-same t.plan t.is_sound (t.agrees c.args.self.now.table) (t.agrees c.absent.new.self) old new c.args.self.now.empty c.args.self.now.empty c.requires.in_time.asked.kept same
          (subst (t.agrees c.absent.new.self) (sym items) (c.in_ok-reply.ensures.agrees (map t.shown rows) c.requires.in_time.asked.kept.fits)) (c.requires.in_time.asked.kept.counted ∙ ap (count_by t.plan.is_empty) (sym items)))
          (repeat-absent t.plan t.is_sound c.args.number call c.args.self.now.session (map t.shown rows) c.requires.none)
          (λ frugal through ok. subst MakesNone c.in-Made.is (c.in_ok-reply.ensures.none frugal));
      fixed = c.in_ok-reply.ensures.fixed;
    }

pub begin-requires-in-Made : goal.begin-requires-in-Made
begin-requires-in-Made g c =
    let t = g.T.Table in
    let rows = c.args.self.now.rows.items in
    let call = lent_call c.args.call.now in
    let old = rows_shown t.own t.shown c.args.self.now.table c.args.self.now.session rows in
    let items = sym c.in_ok-reserve-in-Made.ensures.items in
    record {
      rising = subst (λ (l : List g.row.T-Row.Denot). AreRising t.plan.id (map t.shown l)) items c.requires.in_time.asked.kept.rising;
      agrees = subst (λ (l : List g.row.T-Row.Denot). t.agrees c.absent.new.self (map t.shown l)) items (c.in_ok-reply.ensures.agrees (map t.shown rows) c.requires.in_time.asked.kept.fits);
      forgettable = c.requires.in_time.forgettable ∙ stay-forgotten t.plan t.is_sound c.args.number call (t.agrees c.args.self.now.table) old c.args.self.now.empty c.requires.in_time.asked.kept c.requires.in_time.not_over
          ∙ ap (λ (l : List g.row.T-Row.Denot). count_by (λ (row : t.Shown). not (stays_in t.plan c.args.number.session row)) (map t.shown l)) items;
      empty = c.requires.in_time.asked.kept.counted ∙ ap (λ (l : List g.row.T-Row.Denot). count_by t.plan.is_empty (map t.shown l)) items;
    }

pub put-place-requires-clause-rising : goal.put-place-requires-clause-rising
put-place-requires-clause-rising g c =
    let t = g.T.Table in
    let rows = c.args.self.now.rows.items in
    let call = lent_call c.args.call.now in
    let fixed = t.fixed c.args.self.now.table in
    let own = t.own c.args.self.now.table in
    let old = rows_shown t.own t.shown c.args.self.now.table c.args.self.now.session rows in
    let stay = staying t.plan.is_empty c.args.self.now.session c.args.number (map t.shown rows) in
    let stays : map t.shown c.begin-in-Made.new.self.rows.items ≡ stay =
    c.begin-in-Made.ensures.rows
    ∙ ap (λ (l : List g.row.T-Row.Denot). filter (stays_in t.plan c.args.number.session) (map t.shown l)) c.in_ok-reserve-in-Made.ensures.items
    ∙ stay-is t.plan t.is_sound c.args.number call (t.agrees c.args.self.now.table) old c.args.self.now.empty c.requires.in_time.asked.kept c.requires.in_time.not_over in
    subst (AreRising t.plan.id) (sym stays) (stay-rising t.plan t.is_sound c.args.number call (t.agrees c.args.self.now.table) old c.args.self.now.empty c.requires.in_time.asked.kept c.requires.in_time.not_over)

pub put-place-requires-clause-new : goal.put-place-requires-clause-new
put-place-requires-clause-new g c =
    let t = g.T.Table in
    let rows = c.args.self.now.rows.items in
    let call = lent_call c.args.call.now in
    let fixed = t.fixed c.args.self.now.table in
    let own = t.own c.args.self.now.table in
    let old = rows_shown t.own t.shown c.args.self.now.table c.args.self.now.session rows in
    let stay = staying t.plan.is_empty c.args.self.now.session c.args.number (map t.shown rows) in
    let long = stay-length t.plan t.is_sound c.args.number call (t.agrees c.args.self.now.table) old c.args.self.now.empty c.requires.in_time.asked.kept c.requires.in_time.not_over in
    let many = length-map rows t.shown in
    let gone = c.requires.in_time.forgettable in
    let length_is = c.len.ensures in
    let count : length stay ≡ c.len.result - c.args.forgettable = omega (arith, long, many, gone, length_is) in
    let told = subst (IsAbsent t.plan t.is_sound t.shown own (t.plan.absent fixed own stay c.args.number call)) c.in-Made.is (c.in_ok-reply.ensures.told stay count) in
    let stays : map t.shown c.begin-in-Made.new.self.rows.items ≡ stay =
    c.begin-in-Made.ensures.rows
    ∙ ap (λ (l : List g.row.T-Row.Denot). filter (stays_in t.plan c.args.number.session) (map t.shown l)) c.in_ok-reserve-in-Made.ensures.items
    ∙ stay-is t.plan t.is_sound c.args.number call (t.agrees c.args.self.now.table) old c.args.self.now.empty c.requires.in_time.asked.kept c.requires.in_time.not_over in
    ap (find (λ (other : t.Shown). t.plan.id other == t.plan.id (t.shown c.in-Made.row))) stays ∙ made-new t.plan t.is_sound c.args.number call (t.agrees c.args.self.now.table) old c.args.self.now.empty c.requires.in_time.asked.kept c.requires.in_time.not_over fixed c.requires.none g.met.T.Table.orderly (t.shown c.in-Made.row) told.is_told

pub put-place-requires-clause-few : goal.put-place-requires-clause-few
put-place-requires-clause-few g c =
    let t = g.T.Table in
    let rows = c.args.self.now.rows.items in
    let call = lent_call c.args.call.now in
    let fixed = t.fixed c.args.self.now.table in
    let own = t.own c.args.self.now.table in
    let old = rows_shown t.own t.shown c.args.self.now.table c.args.self.now.session rows in
    let stay = staying t.plan.is_empty c.args.self.now.session c.args.number (map t.shown rows) in
    let long = stay-length t.plan t.is_sound c.args.number call (t.agrees c.args.self.now.table) old c.args.self.now.empty c.requires.in_time.asked.kept c.requires.in_time.not_over in
    let many = length-map rows t.shown in
    let gone = c.requires.in_time.forgettable in
    let length_is = c.len.ensures in
    let count : length stay ≡ c.len.result - c.args.forgettable = omega (arith, long, many, gone, length_is) in
    let told = subst (IsAbsent t.plan t.is_sound t.shown own (t.plan.absent fixed own stay c.args.number call)) c.in-Made.is (c.in_ok-reply.ensures.told stay count) in
    let stays : map t.shown c.begin-in-Made.new.self.rows.items ≡ stay =
    c.begin-in-Made.ensures.rows
    ∙ ap (λ (l : List g.row.T-Row.Denot). filter (stays_in t.plan c.args.number.session) (map t.shown l)) c.in_ok-reserve-in-Made.ensures.items
    ∙ stay-is t.plan t.is_sound c.args.number call (t.agrees c.args.self.now.table) old c.args.self.now.empty c.requires.in_time.asked.kept c.requires.in_time.not_over in
    let few = made-few t.plan t.is_sound c.args.number call (t.agrees c.args.self.now.table) old c.args.self.now.empty c.requires.in_time.asked.kept c.requires.in_time.not_over fixed c.requires.none g.met.T.Table.orderly (t.shown c.in-Made.row) told.is_told in
    let same = ap length stays in
    let shown = length-map c.begin-in-Made.new.self.rows.items t.shown in
    omega (arith, few, same, shown)

pub returns-in-Answered : goal.returns-in-Answered
returns-in-Answered g c =
    let t = g.T.Table in
    let rows = c.args.self.now.rows.items in
    let call = lent_call c.args.call.now in
    let fixed = t.fixed c.args.self.now.table in
    let own = t.own c.args.self.now.table in
    let old = rows_shown t.own t.shown c.args.self.now.table c.args.self.now.session rows in
    let stay = staying t.plan.is_empty c.args.self.now.session c.args.number (map t.shown rows) in
    let long = stay-length t.plan t.is_sound c.args.number call (t.agrees c.args.self.now.table) old c.args.self.now.empty c.requires.in_time.asked.kept c.requires.in_time.not_over in
    let many = length-map rows t.shown in
    let gone = c.requires.in_time.forgettable in
    let length_is = c.len.ensures in
    let count : length stay ≡ c.len.result - c.args.forgettable = omega (arith, long, many, gone, length_is) in
    let told = subst (IsAbsent t.plan t.is_sound t.shown own (t.plan.absent fixed own stay c.args.number call)) c.in-Answered.is (c.in_ok-reply.ensures.told stay count) in
    let new = rows_shown t.own t.shown c.begin.new.self.table c.begin.new.self.session c.begin.new.self.rows.items in
    let same_own = c.begin.ensures.own ∙ c.in_ok-reply.ensures.own in
    record {
      answers =
          answers-ok t.plan t.is_sound t.is_frugal fixed c.args.number call old new (t.agrees c.begin.new.self.table) c.begin.new.self.empty _
          (alone-answered t.plan t.is_sound c.args.number call (t.agrees c.args.self.now.table) old c.args.self.now.empty c.requires.in_time.asked.kept c.requires.in_time.not_over fixed c.requires.none c.in-Answered.reply new (record { kind = c.kind.result; reply = c.in-Answered.reply; row = None }) told same_own c.begin.ensures.session c.begin.ensures.rows
          (λ i. record { kind = c.kind.ensures i; reply = c.in-Answered.reply; row = None }) (subst (IsAllowedAbsent (t.plan.party fixed) (kind_of call)) c.in-Answered.is c.in_ok-reply.ensures.allowed))
          (stay-kept t.plan t.is_sound c.args.number call (t.agrees c.args.self.now.table) old c.args.self.now.empty c.requires.in_time.asked.kept c.requires.in_time.not_over (t.agrees c.begin.new.self.table) new c.begin.new.self.empty same_own c.begin.ensures.session c.begin.ensures.rows c.begin.ensures.agrees c.begin.ensures.empty);
      fixed = c.begin.ensures.fixed ∙ c.in_ok-reply.ensures.fixed;
    }

pub returns-in_ok-reserve-in-Made : goal.returns-in_ok-reserve-in-Made
returns-in_ok-reserve-in-Made g c =
    let t = g.T.Table in
    let rows = c.args.self.now.rows.items in
    let call = lent_call c.args.call.now in
    let fixed = t.fixed c.args.self.now.table in
    let own = t.own c.args.self.now.table in
    let old = rows_shown t.own t.shown c.args.self.now.table c.args.self.now.session rows in
    let stay = staying t.plan.is_empty c.args.self.now.session c.args.number (map t.shown rows) in
    let long = stay-length t.plan t.is_sound c.args.number call (t.agrees c.args.self.now.table) old c.args.self.now.empty c.requires.in_time.asked.kept c.requires.in_time.not_over in
    let many = length-map rows t.shown in
    let gone = c.requires.in_time.forgettable in
    let length_is = c.len.ensures in
    let count : length stay ≡ c.len.result - c.args.forgettable = omega (arith, long, many, gone, length_is) in
    let told = subst (IsAbsent t.plan t.is_sound t.shown own (t.plan.absent fixed own stay c.args.number call)) c.in-Made.is (c.in_ok-reply.ensures.told stay count) in
    let stays : map t.shown c.begin-in-Made.new.self.rows.items ≡ stay =
    c.begin-in-Made.ensures.rows
    ∙ ap (λ (l : List g.row.T-Row.Denot). filter (stays_in t.plan c.args.number.session) (map t.shown l)) c.in_ok-reserve-in-Made.ensures.items
    ∙ stay-is t.plan t.is_sound c.args.number call (t.agrees c.args.self.now.table) old c.args.self.now.empty c.requires.in_time.asked.kept c.requires.in_time.not_over in
    let new = rows_shown t.own t.shown c.put-place.new.self.table c.put-place.new.self.session c.put-place.new.self.rows.items in
    let same_own : new.own ≡ t.plan.next own = ap t.own c.put-place.ensures.table ∙ c.enter.ensures.own ∙ ap t.plan.next (c.begin-in-Made.ensures.own ∙ c.in_ok-reply.ensures.own) in
    let same_session = c.put-place.ensures.session ∙ c.begin-in-Made.ensures.session in
    let put : new.rows ≡ put_row t.plan.id (t.shown c.in-Made.row) stay = c.put-place.ensures.rows ∙ ap (put_row t.plan.id (t.shown c.in-Made.row)) stays in
    let fits : t.agrees c.put-place.new.self.table new.rows =
    let same_fixed = c.begin-in-Made.ensures.fixed ∙ c.in_ok-reply.ensures.fixed in
    let begun_own = c.begin-in-Made.ensures.own ∙ c.in_ok-reply.ensures.own in
    let entered = c.enter.ensures.agrees stay c.args.number call (subst (t.agrees c.begin-in-Made.new.self.table) stays c.begin-in-Made.ensures.agrees)
    (stay-rising t.plan t.is_sound c.args.number call (t.agrees c.args.self.now.table) old c.args.self.now.empty c.requires.in_time.asked.kept c.requires.in_time.not_over) (subst (λ (o : t.Own). All (t.is_sound o) stay) (sym begun_own) (stay-sound t.plan t.is_sound c.args.number call (t.agrees c.args.self.now.table) old c.args.self.now.empty c.requires.in_time.asked.kept c.requires.in_time.not_over)) c.requires.none
    ((λ i. t.plan.absent (same_fixed i) (begun_own i) stay c.args.number call) ∙ told.is_told) in
    subst (λ (table : g.row.T.Denot). t.agrees table new.rows) (sym c.put-place.ensures.table) (subst (t.agrees c.enter.new.self) (sym put) entered) in
    record {
      answers =
          answers-ok t.plan t.is_sound t.is_frugal fixed c.args.number call old new (t.agrees c.put-place.new.self.table) c.put-place.new.self.empty _
          (made-answered t.plan t.is_sound c.args.number call (t.agrees c.args.self.now.table) old c.args.self.now.empty c.requires.in_time.asked.kept c.requires.in_time.not_over fixed c.requires.none g.met.T.Table.orderly (t.shown c.in-Made.row) told.is_told c.in-Made.reply new c.put-place.result (record { kind = c.kind-in-Made.result; reply = c.in-Made.reply; row = Some c.put-place.result }) told.is_kept told.sound same_own same_session put
          c.put-place.ensures.place (λ i. record { kind = c.kind-in-Made.ensures i; reply = c.in-Made.reply; row = Some c.put-place.result }))
          (made-kept t.plan t.is_sound c.args.number call (t.agrees c.args.self.now.table) old c.args.self.now.empty c.requires.in_time.asked.kept c.requires.in_time.not_over fixed c.requires.none g.met.T.Table.orderly (t.shown c.in-Made.row) told.is_told (t.agrees c.put-place.new.self.table) new c.put-place.new.self.empty told.sound same_own same_session put fits c.put-place.ensures.empty);
      fixed = search rules;
    }
