-- The object's only member.
use Rattle.std.proofs.Common.{◌≡◌, length, true, arith}
use Rattle.std.specs.Prelude.{codes}
use Rattle.std.specs.Str.{bytes_eq}
use Rattle.csi_json.proofs.PlainSchedules.{delivered}
use Rattle.csi_json.proofs.plain.delivery.Goals as goal

pub returns : goal.returns
returns c =
    let members = c.in-Object.members in
    let m = c.index.result.now in
    let one : length members.items ≡ 1 = omega arith in
    let key : bytes_eq m.0.now (codes "deliver") ≡ true = grind arith in
    delivered c.args.value.now members c.in-Number.text m c.index-2.result.now c.plain_number.result c.in-Object.is one c.index.ensures c.index-2.ensures key c.in-Number.is c.plain_number.ensures
