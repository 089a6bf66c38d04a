-- The commit leads from the plugin's record to the raised one; without one the record is as it was.
use Rattle.std.proofs.Common.{◌≡◌, ◌≤◌, ◌∙◌, map, length, sym, ap, inl, inr, arith}
use Rattle.std.proofs.lemmas.Bool.Decides.{nat_tests}
use Rattle.std.proofs.lemmas.List.{nil_from_length}
use Rattle.csi_streams.proofs.StoreCalls.{follows-same}
use Rattle.csi_stores.specs.Public.Content.{all_changed}
use Rattle.csi_stores.specs.Public.Part.{part_change}
use Rattle.csi_service.specs.Public.Plugins.{ServedPlugin, service_parts}
use Rattle.csi_service.specs.Public.Raising.{raised_parts}
use Rattle.csi_service.proofs.OpeningAnswers.{some-changes}
use Rattle.csi_service.proofs.RaisedSessions.{commit-either, commit-only, commit-refusal, either-same, no-later, nothing-told}
use Rattle.csi_service.proofs.raising.raise.Goals as goal

pub returns-then-is_empty-clause-kept : goal.returns-then-is_empty-clause-kept
returns-then-is_empty-clause-kept g c =
    let view = g.P.Plugin.view in
    let parts = c.in-Ok.parts.items in
    let zero : length parts ≡ 0 = grind (arith, nat_tests) in
    let told = c.in-Ok.ensures in
    nothing-told (g.K.Keep.store c.args.keep.now) (service_parts view c.args.service.now) (service_parts view c.raise.new.self) (raised_parts view c.args.session c.args.service.now.plugin) (map part_change parts)
    (ap (map part_change) (nil_from_length parts zero))
    (ap (λ changes. all_changed changes (service_parts view c.args.service.now)) told.parts ∙ told.leads) told.raised.parts

pub returns-in-Ok-commit-clause-kept : goal.returns-in-Ok-commit-clause-kept
returns-in-Ok-commit-clause-kept g c =
    let view = g.P.Plugin.view in
    let told = c.in-Ok.ensures in
    commit-only (g.K.Keep.store c.args.keep.now) (g.K.Keep.store c.commit.new.self) (service_parts view c.args.service.now) (service_parts view c.raise.new.self) (map part_change c.deref.result.now)
    (ap (λ ps. all_changed (map part_change ps) (service_parts view c.args.service.now)) c.deref.ensures.value ∙ ap (λ changes. all_changed changes (service_parts view c.args.service.now)) told.parts ∙ told.leads ∙ sym told.raised.parts)
    c.in-Ok-commit.ensures.done

pub returns-in-Ok-commit-clause-no_later : goal.returns-in-Ok-commit-clause-no_later
returns-in-Ok-commit-clause-no_later g c = λ early.
    let parts = c.in-Ok.parts.items in
    let some : 1 ≤ length parts = grind (arith, nat_tests) in
    absurd (some-changes parts some (c.in-Ok.ensures.parts ∙ no-later g.P.Plugin.view c.args.session c.args.service.now.plugin early))

pub returns-clause-no_later : goal.returns-clause-no_later
returns-clause-no_later g c = λ early.
    let parts = c.in-Ok.parts.items in
    let some : 1 ≤ length parts = grind (arith, nat_tests) in
    absurd (some-changes parts some (c.in-Ok.ensures.parts ∙ no-later g.P.Plugin.view c.args.session c.args.service.now.plugin early))

pub returns-clause-cause : goal.returns-clause-cause
returns-clause-cause g c =
    let view = g.P.Plugin.view in
    let told = c.in-Ok.ensures in
    commit-refusal (g.K.Keep.store c.args.keep.now) (g.K.Keep.store c.commit.new.self) (service_parts view c.args.service.now) (raised_parts view c.args.session c.args.service.now.plugin) (map part_change c.deref.result.now)
    (ap (λ ps. all_changed (map part_change ps) (service_parts view c.args.service.now)) c.deref.ensures.value ∙ ap (λ changes. all_changed changes (service_parts view c.args.service.now)) told.parts ∙ told.leads)
    c.in-Err-commit.fault c.in-Err-commit.ensures.cause

pub returns-clause-left : goal.returns-clause-left
returns-clause-left g c =
    let view = g.P.Plugin.view in
    let told = c.in-Ok.ensures in
    commit-either (g.K.Keep.store c.args.keep.now) (g.K.Keep.store c.commit.new.self) (service_parts view c.args.service.now) (raised_parts view c.args.session c.args.service.now.plugin) (map part_change c.deref.result.now)
    (ap (λ ps. all_changed (map part_change ps) (service_parts view c.args.service.now)) c.deref.ensures.value ∙ ap (λ changes. all_changed changes (service_parts view c.args.service.now)) told.parts ∙ told.leads)
    c.in-Err-commit.ensures.refused c.in-Err-commit.ensures.some

pub returns-clause-plugin : goal.returns-clause-plugin
returns-clause-plugin g c = inr c.in-Ok.ensures.raised

pub returns-in-Err-clause-left : goal.returns-in-Err-clause-left
returns-in-Err-clause-left g c =
    let view = g.P.Plugin.view in
    either-same (g.K.Keep.store c.args.keep.now) (service_parts view c.args.service.now) (raised_parts view c.args.session c.args.service.now.plugin)

pub returns-in-Err-clause-plugin : goal.returns-in-Err-clause-plugin
returns-in-Err-clause-plugin g c = inl (ap (λ (service : ServedPlugin _). service.plugin) c.in-Err.ensures.err)

pub returns-in-Err-clause-follows : goal.returns-in-Err-clause-follows
returns-in-Err-clause-follows g c = follows-same (g.K.Keep.store c.args.keep.now)

pub returns-then-is_empty-clause-follows : goal.returns-then-is_empty-clause-follows
returns-then-is_empty-clause-follows g c = follows-same (g.K.Keep.store c.args.keep.now)

pub returns-in-Ok-commit-clause-follows : goal.returns-in-Ok-commit-clause-follows
returns-in-Ok-commit-clause-follows g c = let e = c.in-Ok-commit.ensures in record { honest = e.honest; room = e.room; no_more_room = e.no_more_room; faults = e.faults }

pub returns-clause-follows : goal.returns-clause-follows
returns-clause-follows g c = let e = c.in-Err-commit.ensures in record { honest = e.honest; room = e.room; no_more_room = e.no_more_room; faults = e.faults }
