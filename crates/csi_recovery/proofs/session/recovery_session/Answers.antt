-- By the greatest that was heard of.
use Rattle.std.proofs.Common.{◌≡◌, ◌+◌, ◌^◌, ℕ, max, ◌∙◌, subst, arith}
use Rattle.std.specs.Prelude.{◌-◌, Some, None, nat_lt, if◌then◌else◌}
use Rattle.csi_recovery.specs.Public.Session.{greatest_session}
use Rattle.csi_recovery.specs.Private.Walks.{latest_kept}
use Rattle.csi_recovery.proofs.Sessions.{greatest-told, above-later, session-left, session-spent}
use Rattle.csi_recovery.proofs.session.recovery_session.Goals as goal

pub returns-then-heard-clause-value : goal.returns-then-heard-clause-value
returns-then-heard-clause-value c = λ state nodes is are.
    let own : c.max-heard.result ≡ max (max c.args.known c.args.controller.now.session) (latest_kept c.args.given.now) = omega arith in
    let all : c.max-heard.result ≡ greatest_session c.args.known state nodes = own ∙ greatest-told c.args.known c.args.controller.now state c.args.given.now nodes is are in
    subst (λ (n : ℕ). None ≡ (if nat_lt (n + 2 ^ 20) (2 ^ 64 - 1) then Some (n + 2 ^ 20) else None)) all (session-spent c.max-heard.result c.if-heard.true)

pub returns-clause-value : goal.returns-clause-value
returns-clause-value c = λ state nodes is are.
    let own : c.max-heard.result ≡ max (max c.args.known c.args.controller.now.session) (latest_kept c.args.given.now) = omega arith in
    let all : c.max-heard.result ≡ greatest_session c.args.known state nodes = own ∙ greatest-told c.args.known c.args.controller.now state c.args.given.now nodes is are in
    subst (λ (n : ℕ). Some (c.max-heard.result + 1048576) ≡ (if nat_lt (n + 2 ^ 20) (2 ^ 64 - 1) then Some (n + 2 ^ 20) else None)) all (session-left c.max-heard.result c.if-heard.false)

pub returns-clause-later : goal.returns-clause-later
returns-clause-later c = λ state nodes is are.
    let own : c.max-heard.result ≡ max (max c.args.known c.args.controller.now.session) (latest_kept c.args.given.now) = omega arith in
    let all : c.max-heard.result ≡ greatest_session c.args.known state nodes = own ∙ greatest-told c.args.known c.args.controller.now state c.args.given.now nodes is are in
    above-later c.args.known (c.max-heard.result + 1048576) state nodes (omega (arith, all))
