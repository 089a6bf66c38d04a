-- A file that held nothing, opened: nothing is listed.
use Rattle.std.proofs.Common.{◌≡◌, inl, inr, sym, ap, subst, [], length, arith}
use Rattle.sqlite_trees.specs.Objects.{catalog_tree}
use Rattle.sqlite_wal.specs.Recovery.{Image}
use Rattle.sqlite_catalog.specs.Listing.{IsSound}
use Rattle.sqlite.specs.Effect.{Database}
use Rattle.sqlite.specs.Files.{AreFoundIn}
use Rattle.sqlite.specs.Start.{FindsIn}
use Rattle.sqlite.specs.State.{State, Opens}
use Rattle.sqlite.proofs.ListingLemmas.{empty_is_sound}
use Rattle.csi_sqlite.specs.Public.Declared.{no_schema}
use Rattle.csi_sqlite.specs.Public.Rows.{IsBlank}

-- an empty file has no page, so nothing was found
pub blank_opened : (image : Image) (s : State) → image.db ≡ [] → FindsIn image s → Opens s → IsBlank s
blank_opened image s none finds opens = record {
  is_open = opens.is_open;
  empty = subst (IsSound no_schema) (sym (ap (λ (d : Database). d.trees) opens.clean)) (empty_is_sound s.committed.trees (unlisted finds.reads));
}
  where
    unlisted : AreFoundIn image s.committed.trees → s.committed.trees catalog_tree ≡ []
    unlisted (inl found) = absurd (let some = found.3.found.present in omega (arith, some, ap length none))
    unlisted (inr nothing) = nothing.1.1
