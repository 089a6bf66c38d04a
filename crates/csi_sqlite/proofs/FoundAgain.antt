-- What opening a store in SQLite again finds: one thing, while the database is open, and what was committed.
use Rattle.std.proofs.Common.{◌≡◌, ◌⊎◌, inl, inr, ℕ, IsTrue, List, refl, sym, ap, subst}
use Rattle.std.proofs.Math.Logic.{∥∥₁_map}
use Rattle.sqlite.specs.Effect.{Database}
use Rattle.sqlite.specs.State.{State}
use Rattle.sqlite.specs.Tree.{Trees}
use Rattle.csi_stores.specs.Public.Part.{StoredPart}
use Rattle.csi_stores.specs.Public.Stores.{Found, Has, IsOnly, FindsSome}
use Rattle.csi_stores.specs.Public.Stores.Found.{Parts, Foreign, Unlisted}
use Rattle.csi_sqlite.specs.Public.Tables.{StoresParts}
use Rattle.csi_sqlite.specs.Public.Loading.{StoresForeign, Stores}
use Rattle.csi_sqlite.specs.Public.Kept.{sqlite_store}
use Rattle.csi_sqlite.proofs.Tabled.{one_content}
use Rattle.csi_sqlite.proofs.Closed.{stored_in}
use Rattle.csi_sqlite.proofs.ForeignRows.{none_foreign, one_foreign, foreign_seen}

-- one thing is found in a database
pub one_stored : (db : Trees) (a b : Found) → Stores db a → Stores db b → b ≡ a
one_stored db (Parts c) (Parts d) is also = ap Parts (one_content db c d is also)
one_stored db (Parts c) (Foreign q) is also = absurd (none_foreign db c q is also)
one_stored db (Parts c) Unlisted is also = absurd (also.0 c is)
one_stored db (Foreign p) (Parts d) is also = absurd (none_foreign db d p also is)
one_stored db (Foreign p) (Foreign q) is also = ap Foreign (one_foreign db p q is also)
one_stored db (Foreign p) Unlisted is also = absurd (also.1 p is)
one_stored db Unlisted (Parts d) is also = absurd (is.0 d also)
one_stored db Unlisted (Foreign q) is also = absurd (is.1 q also)
one_stored db Unlisted Unlisted is also = refl

-- the database of a store that has something is open
pub still_open : (s : State) (faults : ℕ) (found : Found) → Has (sqlite_store s faults) found → IsTrue s.is_open
still_open s faults (Parts content) has = has.0.rows.is_open
still_open s faults (Foreign place) has = has.0.has.is_open
still_open s faults Unlisted has = absurd has

-- what a store has was committed
pub committed : (s : State) (faults : ℕ) (found : Found) → Has (sqlite_store s faults) found → Stores s.committed.trees found
committed s faults (Parts content) has = stored_in s content has
committed s faults (Foreign place) has = subst (λ (d : Database). StoresForeign d.trees place) has.1.committed (foreign_seen s place has.0)
committed s faults Unlisted has = absurd has

-- where a crash leaves what was committed and nothing else, a store leaves what it has alone
pub only_found : (s : State) (faults : ℕ) (found : Found) → Has (sqlite_store s faults) found → s.may_leave s.committed.trees → ((db : Trees) → s.may_leave db → db ≡ s.committed.trees) → IsOnly (sqlite_store s faults) found
only_found s faults found has stays settled = record {
  there = has;
  left = record { db = s.committed.trees; may = stays; stored = committed s faults found has };
  alone = λ other left. one_stored s.committed.trees found other (committed s faults found has) (subst (λ db. Stores db other) (settled left.db left.may) left.stored);
}

-- where a crash left what was committed alone, and now leaves that or these parts, opening again finds something
pub some_found : (old new : State) (faults rises : ℕ) (found : Found) (next : List StoredPart) → Has (sqlite_store old faults) found → ((db : Trees) → old.may_leave db → db ≡ old.committed.trees)
    → ((db : Trees) → new.may_leave db → old.may_leave db ⊎ StoresParts db next) → ∥ ((db : Trees) × new.may_leave db) ∥₁ → FindsSome (sqlite_store new rises)
some_found old new faults rises found next has settled crash some = ∥∥₁_map some (λ left. elim (crash left.0 left.1) [
  | inl before ↦ (found, record { db = left.0; may = left.1; stored = subst (λ db. Stores db found) (sym (settled left.0 before)) (committed old faults found has) })
  | inr made ↦ (Parts next, record { db = left.0; may = left.1; stored = made })
])
