-- Those that `retain` keeps.
use Rattle.std.proofs.Common.{map, rules}
use Rattle.indexmap.proofs.CallerLemmas.{filter-RetainsPairs}
use Rattle.csi_controller.specs.Public.OneRow.{row_shown}
use Rattle.csi_controller.specs.Private.Plan.{is_kept}
use Rattle.csi_controller.proofs.NameMaps.{names-kept}
use Rattle.csi_controller.proofs.names.forget_names.Goals as goal

pub returns-clause-names : goal.returns-clause-names
returns-clause-names c =
    let rows = map row_shown c.args.rows.now in
    names-kept c.args.session c.args.ids.now.entries c.retain.new.self.entries rows c.requires.rising c.requires.names
    (filter-RetainsPairs _ (λ e. is_kept c.args.session e.1 rows) _ (λ k v b w g call. search rules) _ _ c.retain.ensures.filtered)
