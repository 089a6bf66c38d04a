-- Step by step.
use Rattle.std.proofs.Common.{ℕ, sym, ◌∙◌, subst, true≢false, MatchOption}
use Rattle.std.specs.Prelude.{Option}
use Rattle.csi_types.proofs.Options.{none-where}
use Rattle.csi_recovery.specs.Public.Judged.{DoAgree, HaveDistinctNodes, IsFirst}
use Rattle.csi_recovery.proofs.Judged.{earlier-from, from-earlier}
use Rattle.csi_recovery.proofs.judging.first_unlike.Goals as goal

pub returns-then-not-is_after_each : goal.returns-then-not-is_after_each
returns-then-not-is_after_each c = λ state known is are. (
  subst (λ (o : Option ℕ). MatchOption o (HaveDistinctNodes known) (IsFirst HaveDistinctNodes known)) (none-where c.first_same.result c.in_default.not-Some) (c.first_same.ensures known are),
  λ earlier. true≢false (sym (from-earlier c.session.result c.args.controller.now state c.args.given.now known c.session.ensures is are earlier) ∙ sym c.is_after_each.ensures ∙ c.if-not-is_after_each.true),
)

pub returns-in-Some-first_disagreeing : goal.returns-in-Some-first_disagreeing
returns-in-Some-first_disagreeing c = λ state known is are. (
  subst (λ (o : Option ℕ). MatchOption o (HaveDistinctNodes known) (IsFirst HaveDistinctNodes known)) (none-where c.first_same.result c.in_default.not-Some) (c.first_same.ensures known are),
  earlier-from c.session.result c.args.controller.now state c.args.given.now known c.session.ensures is are (sym c.is_after_each.ensures ∙ c.if-not-is_after_each.false),
  subst (λ (o : Option ℕ). MatchOption o (DoAgree state known) (IsFirst (DoAgree state) known)) c.in-Some-first_disagreeing.is (c.first_disagreeing.ensures.agree state known is are),
)

pub returns-in-None : goal.returns-in-None
returns-in-None c = λ state known is are. record {
  apart = subst (λ (o : Option ℕ). MatchOption o (HaveDistinctNodes known) (IsFirst HaveDistinctNodes known)) (none-where c.first_same.result c.in_default.not-Some) (c.first_same.ensures known are);
  earlier = earlier-from c.session.result c.args.controller.now state c.args.given.now known c.session.ensures is are (sym c.is_after_each.ensures ∙ c.if-not-is_after_each.false);
  agree = subst (λ (o : Option ℕ). MatchOption o (DoAgree state known) (IsFirst (DoAgree state) known)) c.in-None.is (c.first_disagreeing.ensures.agree state known is are);
}
