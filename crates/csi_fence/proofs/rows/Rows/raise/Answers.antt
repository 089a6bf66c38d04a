-- Where the session is later, it begins as a call would begin it.
use Rattle.std.proofs.Common.{◌<◌, arith}
use Rattle.std.proofs.lemmas.Bool.Decides.{nat_tests}
use Rattle.csi_fence.specs.Public.Rows.{rows_shown}
use Rattle.csi_fence.proofs.RaisedRows.{raised-gone, raised-kept, raised-so}
use Rattle.csi_fence.proofs.rows.Rows.raise.Goals as goal

pub begin-requires : goal.begin-requires
begin-requires g c =
    let t = g.T.Table in
    let old = rows_shown t.own t.shown c.args.self.now.table c.args.self.now.session c.args.self.now.rows.items in
    let later : c.args.self.now.session < c.args.session = let e = c.if-session-self.false in grind (arith, nat_tests) in
    record {
      rising = c.requires.kept.rising;
      agrees = c.requires.kept.fits;
      forgettable = raised-gone t.plan t.is_sound (t.agrees c.args.self.now.table) old c.args.self.now.empty c.requires.kept c.args.session later;
      empty = c.requires.kept.counted;
    }

pub returns-clause-raised : goal.returns-clause-raised
returns-clause-raised g c =
    let t = g.T.Table in
    let old = rows_shown t.own t.shown c.args.self.now.table c.args.self.now.session c.args.self.now.rows.items in
    let later : c.args.self.now.session < c.args.session = let e = c.if-session-self.false in grind (arith, nat_tests) in
    raised-so t.plan t.is_sound (t.agrees c.args.self.now.table) old c.args.self.now.empty c.requires.kept c.args.session later _ _ _ c.begin.ensures.own c.begin.ensures.session c.begin.ensures.rows

pub returns-clause-kept : goal.returns-clause-kept
returns-clause-kept g c =
    let t = g.T.Table in
    let old = rows_shown t.own t.shown c.args.self.now.table c.args.self.now.session c.args.self.now.rows.items in
    let new = rows_shown t.own t.shown c.begin.new.self.table c.begin.new.self.session c.begin.new.self.rows.items in
    let later : c.args.self.now.session < c.args.session = let e = c.if-session-self.false in grind (arith, nat_tests) in
    raised-kept t.plan t.is_sound (t.agrees c.args.self.now.table) old c.args.self.now.empty c.requires.kept c.args.session later (t.agrees c.begin.new.self.table) new c.begin.new.self.empty
    c.begin.ensures.own c.begin.ensures.session c.begin.ensures.rows c.begin.ensures.agrees c.begin.ensures.empty
