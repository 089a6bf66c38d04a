-- What the statement that makes the table does.
use Rattle.sqlite.specs.Order.{Row}
use Rattle.std.proofs.Common.{IsTrue, ◌≡◌, ◌⊎◌, inl, inr, ℕ, List, [], false, cond, None, Ok, Err, Result, OnOk, map, refl, sym, ap, subst, ◌∙◌}
use Rattle.std.proofs.lemmas.List.Sorted.{IsPermutation-refl}
use Rattle.sqlite.specs.Command.TheVariants.{CreateTable, Nothing}
use Rattle.sqlite.specs.Change.{created, next_tree}
use Rattle.sqlite.specs.Does.{Tally, Does, lacks_sequence}
use Rattle.sqlite.specs.declared.error.Error.{Error}
use Rattle.sqlite.specs.Effect.{Database, IsDatabase}
use Rattle.sqlite_catalog.specs.Listing.{IsSound}
use Rattle.sqlite.specs.State.{State, mode_of, text_of, IsUnchanged, Writes, Executes, MayCommit, CommitsBy}
use Rattle.sqlite.specs.Clock.{timed}
use Rattle.sqlite.specs.Listing.{understood}
use Rattle.sqlite.specs.Schema.{Schema}
use Rattle.sqlite.specs.Command.{Command}
use Rattle.sqlite.specs.Tree.{Trees}
use Rattle.sqlite.proofs.Callers.{IsPlain, command_of, statement_of, runs_as}
use Rattle.csi_sqlite.specs.Public.Declared.{parts_table, parts_schema, no_schema}
use Rattle.csi_sqlite.specs.Public.Rows.{KeyedRow, cells, AreRows, StoresRows, HasRows, IsBlank, IsAtRest}
use Rattle.csi_sqlite.proofs.Schemas.{nothing_listed, parts_listed}
use Rattle.csi_sqlite.proofs.TextMeanings.{make_statement, make_is, make_plain, created_is, found_is, found_plain}

-- a part that gave a value did not stop on the way
pub went : {B E R : Type 0} {b : B} {Stops : E → Type 0} → ((stop : E) × Stops stop × (Ok b ≡ Err stop)) ⊎ R → R
went (inl stopped) = absurd (let e = stopped.2 in cc)
went (inr on) = on

-- equal answers have equal values
pub same_value : {B E : Type 0} {a b : B} → ◌≡◌ {A = Result B E} (Ok a) (Ok b) → a ≡ b
same_value e = cc

-- a table without a row has no rows
pub no_rows : AreRows [] []
no_rows = record { ordered = tt; numbered = tt; same = IsPermutation-refl [] }

-- an open database with this schema and these stored rows has the rows
pub now_has : (new : State) (rows : List KeyedRow) (stored : List Row) → IsTrue new.is_open → IsDatabase new.now → new.now.schema ≡ parts_schema → new.now.trees 0 ≡ stored → AreRows stored (map cells rows) → HasRows new rows
now_has new rows stored is_open sound declared is are = record {
  is_open = is_open;
  declared = declared;
  stores = record { listed = subst (λ s. IsSound s new.now.trees) declared sound; stored = subst (λ l. AreRows l (map cells rows)) (sym is) are };
}

-- ---- a statement that changes nothing

-- a statement that changes nothing leaves the rows
pub still_has : (old new : State) (rows : List KeyedRow) → IsUnchanged old new → HasRows old rows → HasRows new rows
still_has old new rows same h = record {
  is_open = same.0.is_open;
  declared = ap (λ (d : Database). d.schema) same.0.now_is ∙ h.declared;
  stores = subst (λ (d : Database). StoresRows d.trees rows) (sym same.0.now_is) h.stores;
}

-- a statement that changes nothing leaves a database at rest
pub still_rests : (old new : State) → IsUnchanged old new → IsAtRest old → IsAtRest new
still_rests old new same rest = record { autocommit = same.0.mode ∙ rest.autocommit; committed = same.0.now_is ∙ rest.committed ∙ sym same.0.committed_is }

-- ---- the table is made, or was there

-- the declared schema lacks no table for counted rowids
lacks_none : lacks_sequence parts_schema ≡ false
unfolding parts_schema parts_table
lacks_none = refl

-- where nothing was there, the command makes the declared table, without a row
made_by : (old : State) (tally : Tally) (after : Database) → old.now.schema ≡ no_schema → Does old.step_limit (mode_of old) [] old.now make_statement None CreateTable (Ok (tally, after)) → (after.schema ≡ parts_schema) × (after.trees 0 ≡ [])
made_by old tally after has h =
    let all = went h in
    let first = went all.1 in
    let made = first.1 in
    let both : Ok made.table ≡ Ok parts_table = sym made.defined ∙ make_is.2 in
    let same : made.table ≡ parts_table = cc in
    let schema : first.0.schema ≡ parts_schema = made.is ∙ ap (λ s. created s made.table) has ∙ ap (created no_schema) same ∙ created_is in
    let plain : lacks_sequence first.0.schema ≡ false = ap lacks_sequence schema ∙ lacks_none in
    let now : after ≡ first.0 = ap (λ (p : Tally × Database). p.1) (same_value all.2) ∙ same_value (rw plain at first.2) in
    (ap (λ (d : Database). d.schema) now ∙ schema, ap (λ (d : Database). d.trees 0) now ∙ subst (λ s. first.0.trees (next_tree s) ≡ []) has made.empty)

-- the statement that makes the table leaves it without a row where the database was blank
pub makes : (old new : State) (r : Result ℕ Error) → IsDatabase old.now → IsBlank old → IsAtRest old → Executes make_statement [] old new r → OnOk r (HasRows new [] × IsAtRest new)
makes old new (Err e) live blank rest h = tt
makes old new (Ok count) live blank rest h =
    let has = nothing_listed old.now.schema old.now.trees blank.empty live in
    let w = subst (λ t. Writes old new None CreateTable t [] count) make_is.1 (runs_as make_statement [] old new no_schema has CreateTable make_is.0 make_plain count h) in
    let made = made_by old w.tally new.now has w.changed in (
      now_has new [] _ w.shown.is_open w.sound made.0 made.1 no_rows,
      record { autocommit = w.shown.mode ∙ rest.autocommit; committed = sym (w.shown.committed_is ∙ ap (λ b. cond b old.committed new.now) rest.autocommit) },
    )

-- the statement that makes the table leaves its rows where it was there
pub finds : (old new : State) (r : Result ℕ Error) (rows : List KeyedRow) → IsDatabase old.now → IsTrue old.is_open → StoresRows old.now.trees rows → IsAtRest old → Executes make_statement [] old new r → OnOk r (HasRows new rows × IsAtRest new)
finds old new (Err e) rows live is_open stores rest h = tt
finds old new (Ok count) rows live is_open stores rest h =
    let declared = parts_listed old.now.schema old.now.trees stores.listed live in
    let same = (runs_as make_statement [] old new parts_schema declared Nothing found_is found_plain count h).0 in
    (still_has old new rows same (record { is_open = is_open; declared = declared; stores = stores }), still_rests old new same rest)

-- ---- what a crash in the midst leaves

-- what a text of one statement may commit, of which the schema tells the meaning
may_be : (old : State) (schema : Schema) (db : Trees) (k : Command) (text : List ℕ) → old.now.schema ≡ schema → command_of (understood schema make_statement) ≡ k → statement_of make_statement (understood schema make_statement) ≡ text
    → IsPlain (understood schema make_statement) → CommitsBy make_statement [] old db → MayCommit old None k text [] db
unfolding CommitsBy
may_be old schema db k text has is whole plain h =
    let known = sym h.1.is ∙ ap (λ s. understood s make_statement) has in
    let bare = subst IsPlain (sym known) plain in
    let first = subst (λ c. MayCommit old h.0.returning c (text_of make_statement h.0) (timed [] h.0.formats h.1.now) db) (ap command_of known ∙ is) h.2 in
    let second = subst (λ r. MayCommit old r k (text_of make_statement h.0) (timed [] h.0.formats h.1.now) db) bare.0 first in
    let third = subst (λ t. MayCommit old None k t (timed [] h.0.formats h.1.now) db) (ap (statement_of make_statement) known ∙ whole) second in
    subst (λ p. MayCommit old None k text p db) (ap (λ f. timed [] f h.1.now) bare.1) third

-- all that the statement may commit in a blank database is the table without a row
pub may_make : (old : State) (db : Trees) → IsDatabase old.now → IsBlank old → CommitsBy make_statement [] old db → StoresRows db []
may_make old db live blank h =
    let has = nothing_listed old.now.schema old.now.trees blank.empty live in
    elim (may_be old no_schema db CreateTable make_statement has make_is.0 make_is.1 make_plain h) [
      | inl ends ↦ absurd (elim ends.0 [ inl commit ↦ (cc) | inr release ↦ (let e = release.2 in cc) ])
      | inr writes ↦ (
          let made = made_by old writes.1 writes.2 has writes.3 in
          subst (λ t. StoresRows t []) (sym writes.5)
          (record { listed = subst (λ s. IsSound s writes.2.trees) made.0 writes.4; stored = subst (λ l. AreRows l []) (sym made.1) no_rows })
          )
    ]

-- where the table is there, the statement that makes it commits nothing
pub may_find : (old : State) (rows : List KeyedRow) (db : Trees) → IsDatabase old.now → StoresRows old.now.trees rows → ¬ CommitsBy make_statement [] old db
may_find old rows db live stores h =
    let declared = parts_listed old.now.schema old.now.trees stores.listed live in
    elim (may_be old parts_schema db Nothing _ declared found_is refl found_plain h) [
      | inl ends ↦ elim ends.0 [ inl commit ↦ absurd (cc) | inr release ↦ absurd (let e = release.2 in cc) ]
      | inr writes ↦ absurd (let e = writes.3 in cc)
    ]
