-- Digits alone.
use Rattle.std.proofs.Common.{◌≡◌, ◌<◌, ◌^◌, get_or, ap, ◌∙◌, subst}
use Rattle.std.specs.Prelude.{SomeIff}
use Rattle.fast_float.specs.Text.{scan, digits_of, IsInteger}
use Rattle.csi_json.proofs.OwnedValues.{plain}
use Rattle.csi_json.proofs.borrowed.plain_number.Goals as goal

pub returns : goal.returns
returns c =
    let same : c.as_bytes-bytes.result.now ≡ c.args.text.now = c.as_bytes-bytes.ensures.value in
    let found = c.to_u64.result in
    plain c.args.text.now found (λ h. c.if-bytes-eq45.false (ap (λ s. get_or s 0 0) same ∙ h))
    (subst (λ p. SomeIff found (IsInteger p × (digits_of p < 2 ^ 64)) (digits_of p)) (c.scan.ensures.parts ∙ ap scan same) c.to_u64.ensures)
