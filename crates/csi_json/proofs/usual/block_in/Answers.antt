-- The object's two members.
use Rattle.std.proofs.Common.{◌≡◌, length, true, arith}
use Rattle.std.specs.Prelude.{Some, codes}
use Rattle.std.specs.Str.{bytes_eq}
use Rattle.csi_types.specs.Public.Mode.{mode_from_number}
use Rattle.csi_json.proofs.PlainTexts.{block_is}
use Rattle.csi_json.proofs.usual.block_in.Goals as goal

pub returns : goal.returns
returns c =
    let members = c.in-Object.members in
    let a = c.index-first.result.now in
    let b = c.index-second.result.now in
    let many : length members.items ≡ 2 = omega arith in
    let ka : bytes_eq a.0.now (codes "access") ≡ true = grind arith in
    let kb : bytes_eq b.0.now (codes "mode") ≡ true = grind arith in
    let block : bytes_eq c.in-String.kind.now (codes "block") ≡ true = grind arith in
    let made : mode_from_number c.in_ok-number.number ≡ Some c.in_ok-mode.mode = grind arith in
    block_is c.args.value.now members a b c.in-String.kind c.in-Number.text c.in_ok-number.number c.in_ok-mode.mode c.in-Object.is many c.index-first.ensures c.index-second.ensures ka kb
    c.in-String.is block c.in-Number.is c.in_ok-number.ensures made
