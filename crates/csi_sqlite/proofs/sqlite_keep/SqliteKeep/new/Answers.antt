use Rattle.std.proofs.Common.{◌≡◌, ◌⊎◌, inl, inr, List, [], IsTrue, Bool, true, false, not, refl, subst, map}
use Rattle.sqlite.specs.Tree.{Trees}
use Rattle.sqlite.specs.State.{State, HasCleanDisk}
use Rattle.sqlite.specs.Held.{state}
use Rattle.csi_sqlite.specs.Public.Rows.{KeyedRow, StoresRows, IsBlank, IsAtRest}
use Rattle.csi_sqlite.specs.Public.Statements.{RefusesToMake}
use Rattle.csi_sqlite.specs.Public.Tables.{keyed_row, OpensOver}
use Rattle.csi_sqlite.proofs.sqlite_keep.SqliteKeep.new.Goals as goal

-- where a test is passed that denies a flag, the flag is off
off : (r b : Bool) → r ≡ not b → r ≡ true → b ≡ false
off r true e f = absurd (cc)
off r false e f = refl

pub returns-in-Ok-clause-blank : goal.returns-in-Ok-clause-blank
returns-in-Ok-clause-blank g c clean blank =
    let rest : IsAtRest (state g.S.Store c.args.connection) =
    record { autocommit = off _ _ c.is_autocommit.ensures.value c.if-not-is_autocommit.false; committed = c.is_autocommit.ensures.settled c.if-not-is_autocommit.false blank.is_open } in
    let made = c.in-Ok.ensures.made clean blank rest in
    (record { rows = made.0; rising = tt; keys = tt }, made.1)

pub returns-in-Ok-clause-found : goal.returns-in-Ok-clause-found
returns-in-Ok-clause-found g c clean content is_open parts =
    let rest : IsAtRest (state g.S.Store c.args.connection) =
    record { autocommit = off _ _ c.is_autocommit.ensures.value c.if-not-is_autocommit.false; committed = c.is_autocommit.ensures.settled c.if-not-is_autocommit.false is_open } in
    let found = c.in-Ok.ensures.found clean (map keyed_row content) is_open parts.rows rest in
    (record { rows = found.0; rising = parts.rising; keys = parts.keys }, found.1)

-- what making the table leaves of rows is what it leaves of parts
opens : (before after : State) → (HasCleanDisk after → HasCleanDisk before)
    → (HasCleanDisk after → IsBlank before → (db : Trees) → after.may_leave db → before.may_leave db ⊎ StoresRows db [])
    → (HasCleanDisk after → (rows : List KeyedRow) → IsTrue before.is_open → StoresRows before.now.trees rows → (db : Trees) → after.may_leave db → before.may_leave db) → OpensOver before after
opens before after honest made found = record {
  honest = honest;
  blank = λ clean blank db may. elim (made clean blank db may) [ inl was ↦ inl was | inr rows ↦ inr (record { rows = rows; rising = tt; keys = tt }) ];
  found = λ clean content is_open parts db may. found clean (map keyed_row content) is_open parts.rows db may;
}

pub returns-in-Ok-clause-there : goal.returns-in-Ok-clause-there
returns-in-Ok-clause-there g c lists = (c.make_table.ensures.there lists).1

pub returns-in-Ok-clause-left : goal.returns-in-Ok-clause-left
returns-in-Ok-clause-left g c =
    opens (state g.S.Store c.args.connection) (state g.S.Store c.make_table.new.connection) c.make_table.ensures.clean c.make_table.ensures.crash_made c.make_table.ensures.crash_found

pub returns-in-Err-clause-back : goal.returns-in-Err-clause-back
returns-in-Err-clause-back g c =
    opens (state g.S.Store c.args.connection) (state g.S.Store c.make_table.new.connection) c.make_table.ensures.clean c.make_table.ensures.crash_made c.make_table.ensures.crash_found

pub returns-in-Err-2-clause-back : goal.returns-in-Err-2-clause-back
returns-in-Err-2-clause-back g c =
    opens (state g.S.Store c.args.connection) (state g.S.Store c.make_table.new.connection) c.make_table.ensures.clean c.make_table.ensures.crash_made c.make_table.ensures.crash_found

pub returns-in-Err-clause-device : goal.returns-in-Err-clause-device
returns-in-Err-clause-device g c clean outside known =
    subst (RefusesToMake (state g.S.Store c.args.connection) (state g.S.Store c.make_table.new.connection)) (c.is_memory.ensures.0 c.if-is_memory.true) (c.in-Err.ensures.refused clean known)

pub returns-in-Err-2-clause-device : goal.returns-in-Err-2-clause-device
returns-in-Err-2-clause-device g c clean outside known = (
  c.in-Err.error,
  λ memory. let told = c.is_memory.ensures.1 memory in absurd (let no = c.if-is_memory.false in cc),
  c.in-Err.ensures.refused clean known,
)
