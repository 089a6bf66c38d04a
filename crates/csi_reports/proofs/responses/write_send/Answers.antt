-- Member by member.
use Rattle.std.proofs.Common.{◌∙◌, ap, refl, codes, ◌∷◌, []}
use Rattle.std.proofs.lemmas.Result.{on_ok_weaker}
use Rattle.json.specs.Token.{begin_object}
use Rattle.csi_types.specs.declared.number.Number.{Number}
use Rattle.csi_types.specs.Public.Names.{kind_name}
use Rattle.csi_reports.specs.Public.Responses.{party_text, kind_in}
use Rattle.csi_reports.proofs.WrittenSteps.{next, of_number, of_text}
use Rattle.csi_reports.proofs.responses.write_send.Goals as goal

pub returns : goal.returns
returns c =
    on_ok_weaker c.end_object.result
    (λ last. next _ _ _ _ (begin_object ∷ []) _ c.in_ok-begin_object.ensures refl
    (next _ _ _ _ _ _ c.in_ok-put_number.ensures (ap (λ (number : Number). of_number (codes "call") number.call) c.number-number.ensures)
    (next _ _ _ _ _ _ c.in_ok-put_text.ensures (ap (of_text (codes "frame")) (c.as_str.ensures.value ∙ c.in_ok-digits.ensures))
    (next _ _ _ _ _ _ c.in_ok-put_text-2.ensures (ap (of_text (codes "kind")) (c.name.ensures ∙ ap kind_name (c.kind_in.ensures ∙ ap kind_in c.body.ensures.value)))
    (next _ _ _ _ _ _ c.in_ok-put_text-3.ensures (ap (of_text (codes "plugin")) (c.as_str-2.ensures.value ∙ c.in_ok-plugin.ensures ∙ ap party_text c.party.ensures))
    (next _ _ _ _ _ _ c.in_ok-put_number-2.ensures (ap (λ (number : Number). of_number (codes "session") number.session) c.number-number.ensures) last))))))
    c.end_object.ensures
