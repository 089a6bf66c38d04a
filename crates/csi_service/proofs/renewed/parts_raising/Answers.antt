-- The renewal leads to the plugin's record, and what raises the session from there to the raised one.
use Rattle.std.proofs.Common.{◌∙◌, ap, sym, map, List}
use Rattle.std.proofs.lemmas.List.{map-append}
use Rattle.csi_stores.specs.declared.part.Part.{Part}
use Rattle.csi_stores.specs.Public.Content.{all_changed}
use Rattle.csi_stores.specs.Public.Part.{StoredChange, part_change}
use Rattle.csi_streams.proofs.StoreCalls.{all-append}
use Rattle.csi_service.specs.Public.Plugins.{service_parts}
use Rattle.csi_service.proofs.renewed.parts_raising.Goals as goal

pub returns : goal.returns
returns g c = λ found same.
    let told = c.in_ok-parts.ensures in
    let renewal = c.args.renewal.items in
    let parts = c.in_ok-parts.parts.items in
    record {
      new = c.raise.new.self.plugin;
      raised = told.raised;
      are =
          ap (λ (ps : List Part). all_changed (map part_change ps) found) c.in_ok-append.ensures.items
          ∙ ap (λ (cs : List StoredChange). all_changed cs found) (map-append part_change renewal parts)
          ∙ all-append (map part_change renewal) (map part_change parts) found
          ∙ ap (all_changed (map part_change parts)) same
          ∙ ap (λ (cs : List StoredChange). all_changed cs (service_parts g.P.Plugin.view c.args.service)) told.parts
          ∙ told.leads
          ∙ sym told.raised.parts;
    }
