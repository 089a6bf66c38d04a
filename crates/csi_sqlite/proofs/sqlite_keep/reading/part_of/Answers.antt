use Rattle.std.proofs.Common.{ap, ◌∙◌, Some, arith, ℕ, List}
use Rattle.csi_sqlite.specs.Private.Loading.{blob_in}
use Rattle.csi_sqlite.proofs.Loading.{eight_bytes}
use Rattle.csi_sqlite.proofs.sqlite_keep.reading.part_of.Goals as goal

pub returns : goal.returns
returns c =
    let key = c.in-Some.ensures ∙ ap blob_in c.value_at.ensures in
    let value = c.in-Some-blob_of.ensures ∙ ap blob_in c.value_at-2.ensures in (
      record { key = c.number_of.result; value = c.in-Some-blob_of.value.now },
      eight_bytes c.args.row.now c.in-Some.key.now c.in-Some-blob_of.value.now c.number_of.result key value (omega arith) c.number_of.ensures,
      ap (λ (bytes : List ℕ). record { key = c.number_of.result; value = Some bytes }) c.in_ok-value.ensures.items,
    )
