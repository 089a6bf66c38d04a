-- The object's three members.
use Rattle.std.proofs.Common.{◌≡◌, length, true, arith}
use Rattle.std.specs.Prelude.{codes}
use Rattle.std.specs.Str.{bytes_eq}
use Rattle.csi_json.proofs.UsualCommands.{is_stop}
use Rattle.csi_json.proofs.usual.usual_stop.Goals as goal

pub returns : goal.returns
returns c =
    let members = c.in-Object.members in
    let a = c.index-first.result.now in
    let b = c.index-second.result.now in
    let d = c.index-third.result.now in
    let many : length members.items ≡ 3 = omega arith in
    let ka : bytes_eq a.0.now (codes "name") ≡ true = grind arith in
    let kb : bytes_eq b.0.now (codes "node") ≡ true = grind arith in
    let kd : bytes_eq d.0.now (codes "target") ≡ true = grind arith in
    is_stop c.args.value.now members a b d c.in_ok-name.name c.in_ok-node.node c.in_ok-target.target c.in-Object.is many c.index-first.ensures c.index-second.ensures c.index-third.ensures ka kb kd
    c.in_ok-name.ensures c.in_ok-node.ensures c.in_ok-target.ensures
