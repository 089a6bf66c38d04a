use Rattle.sqlite.specs.Held.{state}
use Rattle.sqlite.proofs.StateLemmas.{survives_weaker}
use Rattle.std.proofs.Common.{Result, Ok, Err, IfOk, IfErr, OnOk}
use Rattle.csi_sqlite.proofs.QueryAnswers.{reading_commits_nothing}
use Rattle.csi_sqlite.proofs.ReadingRows.{reads, reads_any, leaves, understands}
use Rattle.csi_sqlite.proofs.rows.all_rows.Goals as goal

-- what follows from a fact of an OK's value is so of the OK, and below of an error's
so : {A E : Type 0} (P Q : A → Type 0) (r : Result A E) → ((a : A) → P a → Q a) → IfOk r P → IfOk r Q
so P Q (Ok a) f h = f a h
so P Q (Err e) f h = tt

then : {A E : Type 0} (P : A → Type 0) (Q : Type 0) (r : Result A E) → ((a : A) → P a → Q) → IfOk r P → OnOk r Q
then P Q (Ok a) f h = f a h
then P Q (Err e) f h = tt

else : {A E : Type 0} (P Q : E → Type 0) (r : Result A E) → ((e : E) → P e → Q e) → IfErr r P → IfErr r Q
else P Q (Ok a) f h = tt
else P Q (Err e) f h = f e h

pub returns-clause-by_key : goal.returns-clause-by_key
returns-clause-by_key g c clean columns has =
    so _ _ c.query_all.result (λ all shown. reads_any (state g.S.Store c.args.connection.now) (state g.S.Store c.query_all.new.self) columns all.items has shown) (c.query_all.ensures.ok clean)

pub returns-clause-rows : goal.returns-clause-rows
returns-clause-rows g c clean rows has rising =
    so _ _ c.query_all.result (λ all shown. reads (state g.S.Store c.args.connection.now) (state g.S.Store c.query_all.new.self) rows all.items has rising shown) (c.query_all.ensures.ok clean)

pub returns-clause-same : goal.returns-clause-same
returns-clause-same g c clean columns has =
    then _ _ c.query_all.result (λ all shown. leaves (state g.S.Store c.args.connection.now) (state g.S.Store c.query_all.new.self) columns all.items has shown) (c.query_all.ensures.ok clean)

pub returns-clause-known : goal.returns-clause-known
returns-clause-known g c clean columns has =
    else _ _ c.query_all.result (λ error failed. understands (state g.S.Store c.args.connection.now) (state g.S.Store c.query_all.new.self) columns error has failed) (c.query_all.ensures.err clean)

pub returns-clause-survives : goal.returns-clause-survives
returns-clause-survives g c =
    let old = state g.S.Store c.args.connection.now in
    survives_weaker old (state g.S.Store c.query_all.new.self) _ (λ _. ⊥) (λ _ db h. reading_commits_nothing old _ db h) c.query_all.ensures.survives

pub returns-clause-given : goal.returns-clause-given
returns-clause-given g c clean = c.query_all.ensures.ok clean

pub returns-clause-refused : goal.returns-clause-refused
returns-clause-refused g c clean = c.query_all.ensures.err clean

pub returns-clause-outside : goal.returns-clause-outside
returns-clause-outside g c out = c.query_all.ensures.mode out
