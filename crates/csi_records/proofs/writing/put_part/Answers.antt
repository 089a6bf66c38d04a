use Rattle.std.proofs.Common.{◌≡◌, ◌++◌, List, ℕ, length, subst}
use Rattle.std.specs.Prelude.{OnOk}
use Rattle.std.proofs.lemmas.Result.{on_ok_weaker}
use Rattle.byteorder.specs.Endian.{big_bytes}
use Rattle.csi_frames.specs.Public.Spelling.{word}
use Rattle.csi_records.specs.Public.Spelling.{part_bytes}
use Rattle.csi_records.proofs.WritingPieces.{written3}
use Rattle.csi_records.proofs.writing.put_part.Goals as goal

pub returns : goal.returns
returns c =
    let value = c.value_of-value.result.now in
    let key = c.args.part.now.key in
    subst (λ (v : List ℕ). OnOk c.put.result (c.put.new.out.items ≡ c.args.out.now.items ++ part_bytes (record { key = key; value = v }))) c.value_of-value.ensures
    (on_ok_weaker c.put.result
    (written3 c.args.out.now.items c.append_word.new.out.items c.put_count.new.out.items c.put.new.out.items (word key) (big_bytes 4 (length value)) value c.in_ok-append_word.ensures.appends c.in_ok-put_count.ensures)
    c.put.ensures)
