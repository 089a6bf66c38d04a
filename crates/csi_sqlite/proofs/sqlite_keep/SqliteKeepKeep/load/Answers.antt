use Rattle.std.proofs.Common.{◌≡◌, ◌⊎◌, inl, inr, ℕ, List, [], Result, Ok, Err, IfErr, OnOk, map, sym, subst}
use Rattle.sqlite.specs.Order.{Row}
use Rattle.sqlite.specs.Held.{state}
use Rattle.csi_sqlite.specs.Public.Rows.{cells, AreByKey}
use Rattle.csi_stores.specs.declared.keep.KeepFault.{KeepFault}
use Rattle.csi_stores.specs.declared.keep.KeepFault.TheVariants.{NoMemory, BadRecord}
use Rattle.csi_stores.specs.Public.Part.{StoredPart}
use Rattle.csi_stores.specs.Public.Stores.{Store, IsOnly, IsLoadFault}
use Rattle.csi_stores.specs.Public.Stores.Found.{Parts}
use Rattle.csi_sqlite.specs.Public.Tables.{keyed_row}
use Rattle.csi_sqlite.specs.Public.Kept.{sqlite_store}
use Rattle.csi_sqlite.specs.Public.Loading.{IsFirstBad}
use Rattle.csi_sqlite.proofs.Tabled.{still_holds}
use Rattle.csi_sqlite.proofs.Loading.{loaded, loaded_content, none_refused}
use Rattle.csi_sqlite.proofs.ForeignRows.{refuses_at}
use Rattle.csi_sqlite.proofs.FoundAgain.{still_open, only_found, some_found}
use Rattle.csi_sqlite.proofs.sqlite_keep.SqliteKeepKeep.load.Goals as goal

-- what is so anyway is so of an OK
done : {A E : Type 0} (P : Type 0) (r : Result A E) → P → OnOk r P
done P (Ok a) h = h
done P (Err e) h = tt

-- why reading the rows was refused is why loading is, where no row of a store's parts is bad
refused : {A : Type 0} (r : Result A KeepFault) (before after : Store) (rows : List Row)
    → IfErr r (λ fault. (fault ≡ NoMemory) ⊎ ((place : ℕ) × (fault ≡ BadRecord place) × IsFirstBad rows place))
    → (after.honest → (content : List StoredPart) → before.holds content → (place : ℕ) → ¬ IsFirstBad rows place) → IfErr r (IsLoadFault before after)
refused (Ok a) before after rows cause never = tt
refused (Err e) before after rows (inl is) never = subst (IsLoadFault before after) (sym is) tt
refused (Err e) before after rows (inr bad) never = subst (IsLoadFault before after) (sym bad.1) (λ clean content has. never clean content has bad.0 bad.2)

pub returns-in-Ok-clause-judged : goal.returns-in-Ok-clause-judged
returns-in-Ok-clause-judged g c clean columns has =
    let by_key = subst (AreByKey columns) (sym c.deref.ensures.value) (c.in-Ok.ensures.by_key clean columns has) in
    loaded (state g.S.Store c.args.self.now.connection) columns c.deref.result.now c.parts_of.result has by_key (c.parts_of.ensures.parts, c.parts_of.ensures.bad)

pub returns-in-Ok-clause-parts : goal.returns-in-Ok-clause-parts
returns-in-Ok-clause-parts g c clean content has =
    loaded_content (state g.S.Store c.args.self.now.connection) (map cells (map keyed_row content)) content c.parts_of.result has.0
    (returns-in-Ok-clause-judged g c clean (map cells (map keyed_row content)) has.0.rows)

pub returns-in-Ok-clause-stays : goal.returns-in-Ok-clause-stays
returns-in-Ok-clause-stays g c clean content has =
    let old = state g.S.Store c.args.self.now.connection in
    let new = state g.S.Store c.all_rows.new.connection in
    let holds = still_holds old new content (c.in-Ok.ensures.same clean (map cells (map keyed_row content)) has.0.rows) has in
    let is_open = holds.0.rows.is_open in
    let alone = only_found new c.args.self.now.faults (Parts content) holds (g.met.S.Store.stays c.all_rows.new.connection.store is_open) (λ db may. g.met.S.Store.settled c.all_rows.new.connection.store db is_open may) in
    done (IsOnly (sqlite_store new c.args.self.now.faults) (Parts content)) c.parts_of.result alone

pub returns-in-Ok-clause-cause : goal.returns-in-Ok-clause-cause
returns-in-Ok-clause-cause g c =
    refused c.parts_of.result (sqlite_store (state g.S.Store c.args.self.now.connection) c.args.self.now.faults) (sqlite_store (state g.S.Store c.all_rows.new.connection) c.args.self.now.faults) c.deref.result.now c.parts_of.ensures.bad (λ clean content has place bad.
    let columns = map cells (map keyed_row content) in
    none_refused content place has.0.keys (c.deref.result.now, subst (AreByKey columns) (sym c.deref.ensures.value) (c.in-Ok.ensures.by_key clean columns has.0.rows), bad))

pub returns-in-Err-SqlInputError-clause-cause : goal.returns-in-Err-SqlInputError-clause-cause
returns-in-Err-SqlInputError-clause-cause g c clean content has =
    c.in-Err-SqlInputError.ensures.known clean (map cells (map keyed_row content)) has.0.rows (c.in-Err-SqlInputError.field-0-0, c.in-Err-SqlInputError.field-0-is)

pub returns-in-Err-SqlInputError-clause-judged : goal.returns-in-Err-SqlInputError-clause-judged
returns-in-Err-SqlInputError-clause-judged g c clean columns has =
    absurd (c.in-Err-SqlInputError.ensures.known clean columns has (c.in-Err-SqlInputError.field-0-0, c.in-Err-SqlInputError.field-0-is))

pub returns-in-Ok-clause-foreign : goal.returns-in-Ok-clause-foreign
returns-in-Ok-clause-foreign g c clean place foreign =
    refuses_at (state g.S.Store c.args.self.now.connection) place c.parts_of.result foreign (returns-in-Ok-clause-judged g c clean foreign.columns foreign.has)

pub returns-in-Err-SqlInputError-clause-foreign : goal.returns-in-Err-SqlInputError-clause-foreign
returns-in-Err-SqlInputError-clause-foreign g c clean place foreign =
    absurd (c.in-Err-SqlInputError.ensures.known clean foreign.columns foreign.has (c.in-Err-SqlInputError.field-0-0, c.in-Err-SqlInputError.field-0-is))

pub returns-in-Ok-clause-some : goal.returns-in-Ok-clause-some
returns-in-Ok-clause-some g c clean found only =
    let old = c.args.self.now.connection in
    let now = c.all_rows.new.connection in
    let is_open = still_open (state g.S.Store old) c.args.self.now.faults found only.there in
    some_found (state g.S.Store old) (state g.S.Store now) c.args.self.now.faults c.args.self.now.faults found [] only.there (λ db may. g.met.S.Store.settled old.store db is_open may)
    (λ db may. elim (c.all_rows.ensures.survives.crash clean db may) [ inl before ↦ inl before | inr none ↦ absurd none ]) (g.met.S.Store.survives now.store clean)

pub returns-in-Err-SqlInputError-clause-some : goal.returns-in-Err-SqlInputError-clause-some
returns-in-Err-SqlInputError-clause-some g c clean found only =
    let old = c.args.self.now.connection in
    let now = c.all_rows.new.connection in
    let is_open = still_open (state g.S.Store old) c.args.self.now.faults found only.there in
    some_found (state g.S.Store old) (state g.S.Store now) c.args.self.now.faults c.args.self.now.faults found [] only.there (λ db may. g.met.S.Store.settled old.store db is_open may)
    (λ db may. elim (c.all_rows.ensures.survives.crash clean db may) [ inl before ↦ inl before | inr none ↦ absurd none ]) (g.met.S.Store.survives now.store clean)

pub returns-in-Err-clause-some : goal.returns-in-Err-clause-some
returns-in-Err-clause-some g c clean found only =
    let old = c.args.self.now.connection in
    let now = c.all_rows.new.connection in
    let is_open = still_open (state g.S.Store old) c.args.self.now.faults found only.there in
    some_found (state g.S.Store old) (state g.S.Store now) c.args.self.now.faults c.refused.new.faults found [] only.there (λ db may. g.met.S.Store.settled old.store db is_open may)
    (λ db may. elim (c.all_rows.ensures.survives.crash clean db may) [ inl before ↦ inl before | inr none ↦ absurd none ]) (g.met.S.Store.survives now.store clean)
