use Rattle.std.proofs.Common.{◌≡◌, ◌≤◌, ◌∙◌, sym, ap, subst, rules, arith}
use Rattle.std.proofs.lemmas.Bool.Decides.{nat_tests}
use Rattle.csi_node.specs.Model.Record.{NodeParts}
use Rattle.csi_records.specs.Public.Records.{node_layout, IsRecordOf, IsNodeOf}
use Rattle.csi_records.specs.Public.Places.{AreBytesOf}
use Rattle.std.specs.Prelude.{None}
use Rattle.csi_embedded.proofs.MadePlugins.{told-renewal}
use Rattle.csi_embedded.proofs.making.read_node.Goals as goal

pub returns-clause-made : goal.returns-clause-made
returns-clause-made c =
    let has = c.in_ok-service.ensures.has in
    let same : c.id.result.now ≡ c.in_ok-id.id = search rules in
    let is : c.in_ok-service.service.plugin.session ≡ c.session.result = ap (λ (node : NodeParts). node.session) has ∙ sym c.session.ensures in
    let from : c.args.session ≤ c.session.result = grind (arith, nat_tests) in
    record {
      service = c.in_ok-service.service;
      is = c.new.ensures.plugin;
      version = c.in-Ok.stored.version;
      read = subst (λ (node : NodeParts). AreBytesOf (λ v. IsRecordOf (node_layout v None)) (λ v. IsNodeOf v None) c.in-Ok.stored.version c.args.bytes.now node) (sym has) c.in-Ok.ensures;
      joined = omega (arith, is, from);
      own = ap (λ (node : NodeParts). node.id) has ∙ (sym c.id.ensures ∙ (same ∙ c.in_ok-id.ensures.made));
      renews = told-renewal c.in-Ok.stored.version _ _ _ _ c.in_ok-changed.ending c.in_ok-changed.ensures c.in_ok-service.ensures.parts c.new.ensures.told;
    }
