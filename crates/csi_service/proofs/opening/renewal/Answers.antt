-- All parts of the record, and then what takes out those that it lacks.
use Rattle.std.proofs.Common.{◌≡◌, ◌∙◌, ◌++◌, ap, map, rules}
use Rattle.std.proofs.lemmas.List.{map-append}
use Rattle.csi_stores.specs.Public.Part.{part_change}
use Rattle.csi_service.proofs.opening.renewal.Goals as goal

pub returns : goal.returns
returns g c =
    let all : map part_change c.append.new.self.items ≡ map part_change c.in_ok-parts.parts.items ++ map part_change c.in_ok-removals.removals.items =
    ap (map part_change) c.in_ok-append.ensures.items ∙ map-append part_change c.in_ok-parts.parts.items c.in_ok-removals.removals.items in
    search (rules, all)
