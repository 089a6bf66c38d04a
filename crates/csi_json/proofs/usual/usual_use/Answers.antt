-- The object's five members.
use Rattle.std.proofs.Common.{◌≡◌, length, true, arith}
use Rattle.std.specs.Prelude.{codes}
use Rattle.std.specs.Str.{bytes_eq}
use Rattle.csi_json.proofs.UsualCommands.{is_use}
use Rattle.csi_json.proofs.usual.usual_use.Goals as goal

pub returns : goal.returns
returns c =
    let members = c.in-Object.members in
    let a = c.index-first.result.now in
    let b = c.index-second.result.now in
    let d = c.index-third.result.now in
    let e = c.index-fourth.result.now in
    let f = c.index-fifth.result.now in
    let many : length members.items ≡ 5 = omega arith in
    let ka : bytes_eq a.0.now (codes "capability") ≡ true = grind arith in
    let kb : bytes_eq b.0.now (codes "name") ≡ true = grind arith in
    let kd : bytes_eq d.0.now (codes "node") ≡ true = grind arith in
    let ke : bytes_eq e.0.now (codes "readonly") ≡ true = grind arith in
    let kf : bytes_eq f.0.now (codes "target") ≡ true = grind arith in
    is_use c.args.value.now members a b d e f c.in-Bool.readonly c.in_ok-capability.capability c.in_ok-name.name c.in_ok-node.node c.in_ok-target.target c.in-Object.is many
    c.index-first.ensures c.index-second.ensures c.index-third.ensures c.index-fourth.ensures c.index-fifth.ensures ka kb kd ke kf c.in-Bool.is
    c.in_ok-capability.ensures c.in_ok-name.ensures c.in_ok-node.ensures c.in_ok-target.ensures
