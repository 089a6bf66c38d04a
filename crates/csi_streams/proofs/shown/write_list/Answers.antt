-- The words are those of the whole list.
use Rattle.std.proofs.Common.{◌≡◌, ◌∙◌, ap, subst, ℕ, List, ◌∷◌, take, take_all}
use Rattle.std.specs.List.{flat_map}
use Rattle.std.specs.Fmt.{HasWritten}
use Rattle.csi_types.specs.declared.capability.Capability.{Capability}
use Rattle.csi_streams.specs.Public.Shown.{capability_word}
use Rattle.csi_streams.proofs.ShownLines.{each-capability}
use Rattle.csi_streams.proofs.shown.write_list.Goals as goal

pub returns : goal.returns
returns g c =
    λ plain ok.
    let items = c.as_slice-capability-items.result.now in
    let all : take c.loop-capability.capability-index items ≡ c.args.list.now = take_all c.loop-capability.capability-index items c.loop-capability-test.false ∙ c.as_slice-capability-items.ensures.value in
    subst (λ (text : List ℕ). HasWritten g.W.Write.write_str_gives c.args.f.now text c.loop-capability.f)
    (ap (flat_map (λ (capability : Capability). 32 ∷ capability_word capability)) all ∙ each-capability c.args.list.now) (c.loop-capability.invariant plain)
