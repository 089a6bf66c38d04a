-- Step by step.
use Rattle.std.proofs.Common.{ℕ, sym, ◌∙◌, subst, true≢false, MatchOption, IfNone}
use Rattle.std.specs.Prelude.{Option}
use Rattle.csi_types.proofs.Options.{none-where}
use Rattle.std.specs.List.{AllByRecursion}
use Rattle.csi_node.specs.Model.Record.{NodeParts, parts}
use Rattle.csi_node.specs.Public.Record.{AreSoundRows}
use Rattle.csi_recovery.specs.Public.Judged.{DoAgree, HaveDistinctNodes, IsFirst}
use Rattle.csi_recovery.proofs.Judged.{later-from, from-later}
use Rattle.csi_recovery.proofs.judging.first_unfit.Goals as goal

pub returns-then-not-is_after-clause-fit : goal.returns-then-not-is_after-clause-fit
returns-then-not-is_after-clause-fit c = λ state known is are. (
  subst (λ (o : Option ℕ). MatchOption o (HaveDistinctNodes known) (IsFirst HaveDistinctNodes known)) (none-where c.first_same.result c.in_default.not-Some) (c.first_same.ensures known are),
  λ later. true≢false (sym (from-later c.args.session c.args.controller.now state c.args.given.now known is are later) ∙ sym c.is_after.ensures ∙ c.if-not-is_after.true),
)

pub returns-in-Some-first_disagreeing-clause-fit : goal.returns-in-Some-first_disagreeing-clause-fit
returns-in-Some-first_disagreeing-clause-fit c = λ state known is are. (
  subst (λ (o : Option ℕ). MatchOption o (HaveDistinctNodes known) (IsFirst HaveDistinctNodes known)) (none-where c.first_same.result c.in_default.not-Some) (c.first_same.ensures known are),
  later-from c.args.session c.args.controller.now state c.args.given.now known is are (sym c.is_after.ensures ∙ c.if-not-is_after.false),
  subst (λ (o : Option ℕ). MatchOption o (DoAgree state known) (IsFirst (DoAgree state) known)) c.in-Some-first_disagreeing.is (c.first_disagreeing.ensures.agree state known is are),
)

pub returns-in-None-clause-fit : goal.returns-in-None-clause-fit
returns-in-None-clause-fit c = λ state known is are. record {
  apart = subst (λ (o : Option ℕ). MatchOption o (HaveDistinctNodes known) (IsFirst HaveDistinctNodes known)) (none-where c.first_same.result c.in_default.not-Some) (c.first_same.ensures known are);
  later = later-from c.args.session c.args.controller.now state c.args.given.now known is are (sym c.is_after.ensures ∙ c.if-not-is_after.false);
  agree = subst (λ (o : Option ℕ). MatchOption o (DoAgree state known) (IsFirst (DoAgree state) known)) c.in-None.is (c.first_disagreeing.ensures.agree state known is are);
}

pub returns-in-None-clause-rules : goal.returns-in-None-clause-rules
returns-in-None-clause-rules c =
    subst (λ (o : Option ℕ). IfNone o (AllByRecursion (λ (kept : NodeParts). AreSoundRows (parts kept.rows)) c.args.given.now)) c.in-None.is c.first_disagreeing.ensures.rules
