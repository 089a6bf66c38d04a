-- Names of the small plugin's rows, where one changes, is put in or goes.
use Rattle.std.proofs.Common.{◌≡◌, ℕ, List, map, true, refl, sym, ◌∙◌, ap, subst}
use Rattle.std.specs.Prelude.{None, find}
use Rattle.csi_types.proofs.Maps.{map-same}
use Rattle.csi_types.specs.declared.call.Kind.{Kind}
use Rattle.csi_types.specs.declared.number.Number.{Number}
use Rattle.csi_types.specs.Model.Same.{same_text}
use Rattle.csi_types.proofs.Equality.{same_text-tells}
use Rattle.csi_fence.specs.Public.Rows.{put_row, Made}
use Rattle.csi_fence.proofs.PutRows.{put-one}
use Rattle.csi_plugin_tests.specs.declared.shelf.ShelfRow.{ShelfRow}
use Rattle.csi_plugin_tests.specs.Private.Shelf.{HaveNames, Key, Named, absent, is_for}
use Rattle.csi_plugin_tests.specs.Private.ShelfLaws.{IsMadeBy, made-by}

-- the rows as they are shown are the rows
pub same_rows : (rows : List ShelfRow) → map (λ (row : ShelfRow). row) rows ≡ rows
same_rows rows = map-same (λ (row : ShelfRow). row) rows (λ row among. refl)

-- a volume that is made has a name of its own
pub names-put : (own : ℕ) (rows : List ShelfRow) (number : Number) (kind : Kind) (key : Key) (row : ShelfRow) → HaveNames rows → find (is_for key) rows ≡ None
    → absent own rows number kind key ≡ Made row → HaveNames (put_row (λ (r : ShelfRow). r.id) row rows)
names-put own rows number kind key row names none made = λ name. put-one (λ (r : ShelfRow). r.id) (λ (r : ShelfRow). same_text r.name name) row rows (names name) (own-name name)
  where
    by : IsMadeBy own rows number kind key row
    by = made-by own rows number kind key row made

    own-name : (name : List ℕ) → same_text row.name name ≡ true → find (λ (r : ShelfRow). same_text r.name name) rows ≡ None
    own-name name same =
        let is : by.name ≡ name = sym (ap (λ (r : ShelfRow). r.name) by.is_row) ∙ (same_text-tells row.name name).0 same in
        subst (λ (k : Key). find (is_for k) rows ≡ None) (by.is_named ∙ ap Named is) none
