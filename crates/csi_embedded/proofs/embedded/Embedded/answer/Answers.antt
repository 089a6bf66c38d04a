use Rattle.std.proofs.Common.{◌∙◌, ℕ, List, subst, inr}
use Rattle.csi_embedded.specs.Public.Calls.{IsNoFrame}
use Rattle.csi_embedded.proofs.Handles.{answered-next}
use Rattle.csi_embedded.proofs.embedded.Embedded.answer.Goals as goal

pub returns-in-Ok-clause-answered : goal.returns-in-Ok-clause-answered
returns-in-Ok-clause-answered c =
    answered-next c.args.self.now _ c.args.bytes.now c.front-bytes.result.now c.in_ok-splitter.splitter.kept c.answer_next.new.splitter.kept c.clear.new.self.items _ c.kept-left.result
    c.front-bytes.ensures c.in_ok-splitter.ensures.kept c.clear.ensures.items c.in-Ok.ensures.answered c.kept-left.ensures c.in-Ok.ensures.parts

pub returns-in-Err-clause-why : goal.returns-in-Err-clause-why
returns-in-Err-clause-why c = inr (subst (λ (bytes : List ℕ). IsNoFrame bytes c.in-Err.ending) (c.in_ok-splitter.ensures.kept ∙ c.front-bytes.ensures) c.in-Err.ensures.answered)
