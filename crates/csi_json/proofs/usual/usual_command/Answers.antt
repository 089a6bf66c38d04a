-- The object's only member.
use Rattle.std.proofs.Common.{◌≡◌, length, true, arith}
use Rattle.std.specs.Prelude.{codes}
use Rattle.std.specs.Str.{bytes_eq}
use Rattle.csi_json.proofs.UsualCommands.{if_ok, at_use, at_stop}
use Rattle.csi_json.proofs.usual.usual_command.Goals as goal

pub returns-then-eq : goal.returns-then-eq
returns-then-eq c =
    let members = c.in-Object.members in
    let a = c.index-only.result.now in
    let one : length members.items ≡ 1 = omega arith in
    let key : bytes_eq a.0.now (codes "use") ≡ true = grind arith in
    if_ok c.usual_use.result (λ event. at_use c.args.value.now members a event c.in-Object.is one c.index-only.ensures key) c.usual_use.ensures

pub returns-then-eq-2 : goal.returns-then-eq-2
returns-then-eq-2 c =
    let members = c.in-Object.members in
    let a = c.index-only.result.now in
    let one : length members.items ≡ 1 = omega arith in
    let key : bytes_eq a.0.now (codes "stop") ≡ true = grind arith in
    if_ok c.usual_stop.result (λ event. at_stop c.args.value.now members a event c.in-Object.is one c.index-only.ensures key) c.usual_stop.ensures
