-- The tokens of a value are printed as its text.
use Rattle.std.proofs.Common.{◌∙◌, ◌++◌, ap, ap₂, List, ℕ, Vec, Global}
use Rattle.json.specs.Print.{print}
use Rattle.serde_json.proofs.Texts.{print-outline}
use Rattle.csi_reports.proofs.writer.JsonWriter.into_string.Goals as goal

pub returns : goal.returns
returns c = λ d same.
    ap (λ (v : Vec ℕ Global). v.items) c.from_utf8_unchecked.ensures.value ∙ c.into_inner-bytes.ensures.items ∙ ap₂ (λ (a b : List ℕ). a ++ b) c.self.invariant (ap print (c.self.view_is ∙ same) ∙ print-outline d)
