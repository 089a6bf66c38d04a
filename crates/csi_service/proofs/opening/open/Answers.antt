-- What was made is judged by the parts that were loaded, and committed as it was made.
use Rattle.std.proofs.Common.{◌≡◌, ◌≤◌, map, length, ap, inr, arith}
use Rattle.std.proofs.lemmas.Bool.Decides.{nat_tests}
use Rattle.std.proofs.lemmas.List.{nil_from_length}
use Rattle.csi_stores.specs.Public.Part.{part_change}
use Rattle.csi_service.proofs.OpeningAnswers.{HasLoaded, load-left, unmade-cause, opened-same, opened-changed, commit-left, commit-cause, some-changes}
use Rattle.csi_service.proofs.opening.open.Goals as goal

pub returns-in-Err-made-clause-cause : goal.returns-in-Err-made-clause-cause
returns-in-Err-made-clause-cause g c =
    let e = c.in-Ok.ensures in
    let load : HasLoaded (g.K.Keep.store c.args.keep.now) (g.K.Keep.store c.load.new.self) c.in-Ok.parts.items =
    record { honest = e.honest; given = e.parts; stays = e.stays; listed = e.foreign; left = e.left; some = e.some; room = e.room; faults = e.faults } in
    rw c.from.ensures (unmade-cause (g.S.Opens.opening c.args.asked) _ _ _ load c.in-Err-made.stop (rw c.deref.ensures.value at c.in-Err-made.ensures.refused))

pub returns-then-is_empty-clause-opened : goal.returns-then-is_empty-clause-opened
returns-then-is_empty-clause-opened g c =
    let e = c.in-Ok.ensures in
    let load : HasLoaded (g.K.Keep.store c.args.keep.now) (g.K.Keep.store c.load.new.self) c.in-Ok.parts.items =
    record { honest = e.honest; given = e.parts; stays = e.stays; listed = e.foreign; left = e.left; some = e.some; room = e.room; faults = e.faults } in
    let zero : length c.in-Ok-made.made.1.items ≡ 0 = grind (arith, nat_tests) in
    opened-same (g.S.Opens.opening c.args.asked) _ _ _ load _ _ (rw c.deref.ensures.value at c.in-Ok-made.ensures.made) (ap (map part_change) (nil_from_length c.in-Ok-made.made.1.items zero))

pub returns-in-Ok-commit-clause-opened : goal.returns-in-Ok-commit-clause-opened
returns-in-Ok-commit-clause-opened g c =
    let e = c.in-Ok.ensures in
    let load : HasLoaded (g.K.Keep.store c.args.keep.now) (g.K.Keep.store c.load.new.self) c.in-Ok.parts.items =
    record { honest = e.honest; given = e.parts; stays = e.stays; listed = e.foreign; left = e.left; some = e.some; room = e.room; faults = e.faults } in
    let made = rw (c.deref.ensures.value, ← c.deref-2.ensures.value) at c.in-Ok-made.ensures.made in
    opened-changed (g.S.Opens.opening c.args.asked) _ _ _ load _ _ made _ c.in-Ok-commit.ensures.honest c.in-Ok-commit.ensures.done

pub returns-in-Ok-commit-clause-left : goal.returns-in-Ok-commit-clause-left
returns-in-Ok-commit-clause-left g c =
    let e = c.in-Ok.ensures in
    let load : HasLoaded (g.K.Keep.store c.args.keep.now) (g.K.Keep.store c.load.new.self) c.in-Ok.parts.items =
    record { honest = e.honest; given = e.parts; stays = e.stays; listed = e.foreign; left = e.left; some = e.some; room = e.room; faults = e.faults } in
    let made = rw (c.deref.ensures.value, ← c.deref-2.ensures.value) at c.in-Ok-made.ensures.made in
    let some : 1 ≤ length c.deref-2.result.now = grind (arith, nat_tests, c.deref-2.ensures.value) in
    commit-left (g.S.Opens.opening c.args.asked) _ _ _ load _ _ made _ (some-changes c.deref-2.result.now some) c.in-Ok-commit.ensures.honest
    (λ honest content holds other leaves. inr ((c.in-Ok-commit.ensures.done honest content holds).alone other leaves)) c.in-Ok-commit.ensures.some

pub returns-in-Err-commit-clause-cause : goal.returns-in-Err-commit-clause-cause
returns-in-Err-commit-clause-cause g c =
    let e = c.in-Ok.ensures in
    let load : HasLoaded (g.K.Keep.store c.args.keep.now) (g.K.Keep.store c.load.new.self) c.in-Ok.parts.items =
    record { honest = e.honest; given = e.parts; stays = e.stays; listed = e.foreign; left = e.left; some = e.some; room = e.room; faults = e.faults } in
    let made = rw (c.deref.ensures.value, ← c.deref-2.ensures.value) at c.in-Ok-made.ensures.made in
    let some : 1 ≤ length c.deref-2.result.now = grind (arith, nat_tests, c.deref-2.ensures.value) in
    commit-cause (g.S.Opens.opening c.args.asked) _ _ _ load _ _ made (g.K.Keep.store c.commit.new.self) (some-changes c.deref-2.result.now some) c.in-Err-commit.ensures.honest c.in-Err-commit.ensures.faults c.in-Err-commit.fault c.in-Err-commit.ensures.cause

pub returns-in-Err-commit-clause-left : goal.returns-in-Err-commit-clause-left
returns-in-Err-commit-clause-left g c =
    let e = c.in-Ok.ensures in
    let load : HasLoaded (g.K.Keep.store c.args.keep.now) (g.K.Keep.store c.load.new.self) c.in-Ok.parts.items =
    record { honest = e.honest; given = e.parts; stays = e.stays; listed = e.foreign; left = e.left; some = e.some; room = e.room; faults = e.faults } in
    let made = rw (c.deref.ensures.value, ← c.deref-2.ensures.value) at c.in-Ok-made.ensures.made in
    let some : 1 ≤ length c.deref-2.result.now = grind (arith, nat_tests, c.deref-2.ensures.value) in
    commit-left (g.S.Opens.opening c.args.asked) _ _ _ load _ _ made _ (some-changes c.deref-2.result.now some) c.in-Err-commit.ensures.honest c.in-Err-commit.ensures.refused c.in-Err-commit.ensures.some

pub returns-in-Err-clause-left : goal.returns-in-Err-clause-left
returns-in-Err-clause-left g c = load-left (g.S.Opens.opening c.args.asked).rules _ _ c.in-Err.ensures.left c.in-Err.ensures.some

pub returns-in-Err-made-clause-left : goal.returns-in-Err-made-clause-left
returns-in-Err-made-clause-left g c = load-left (g.S.Opens.opening c.args.asked).rules _ _ c.in-Ok.ensures.left c.in-Ok.ensures.some

pub returns-then-is_empty-clause-left : goal.returns-then-is_empty-clause-left
returns-then-is_empty-clause-left g c = load-left (g.S.Opens.opening c.args.asked).rules _ _ c.in-Ok.ensures.left c.in-Ok.ensures.some
