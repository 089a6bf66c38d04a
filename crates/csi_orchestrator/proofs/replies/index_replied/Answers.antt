-- At the index that is noted.
use Rattle.csi_orchestrator.proofs.Words.{List, length, rules, arith, refl, sym, ◌∙◌, ap, slice_get, Row}
use Rattle.csi_orchestrator.proofs.Lemmas.{slice_get_read, slice_get_past}
use Rattle.csi_orchestrator.proofs.OpenCallPlaces.{none-noted, noted-nowhere, noted-otherwise, noted-there, Replied, replied-noted}
use Rattle.std.proofs.lemmas.Grind.{common_steps}
use Rattle.csi_orchestrator.proofs.replies.index_replied.Goals as goal

pub returns-in-None : goal.returns-in-None
returns-in-None c =
    record {
      index =
          none-noted c.args.catalog.now c.args.number.call (Replied c.args.number c.args.party.now c.args.kind) (replied-noted c.args.catalog.now c.args.number c.args.party.now c.args.kind c.requires) (sym c.in-None.ensures);
      within = search rules;
    }

pub returns-in-None-get : goal.returns-in-None-get
returns-in-None-get c =
    record {
      index =
          noted-nowhere c.args.catalog.now c.args.number.call (Replied c.args.number c.args.party.now c.args.kind) c.in-Some.index (replied-noted c.args.catalog.now c.args.number c.args.party.now c.args.kind c.requires) (sym c.in-Some.ensures)
          (ap (λ (rows : List Row). slice_get rows c.in-Some.index) (sym c.rows.ensures) ∙ slice_get_past c.rows.result.now c.in-Some.index c.in-None-get.ensures.lookup.3);
      within = search rules;
    }

pub returns-else-is_replied : goal.returns-else-is_replied
returns-else-is_replied c =
    record {
      index =
          noted-otherwise c.args.catalog.now c.args.number.call (Replied c.args.number c.args.party.now c.args.kind) c.in-Some.index c.in-Some-get.row.now (replied-noted c.args.catalog.now c.args.number c.args.party.now c.args.kind c.requires) (sym c.in-Some.ensures)
          (ap (λ (rows : List Row). slice_get rows c.in-Some.index) (sym c.rows.ensures) ∙ slice_get_read c.rows.result.now (length c.rows.result.now) c.in-Some.index c.in-Some-get.row.now refl c.in-Some-get.ensures.lookup.3.0 c.in-Some-get.ensures.lookup.1) (sym c.is_replied.ensures ∙ c.if-is_replied.false);
      within = search rules;
    }

pub returns-then-is_replied : goal.returns-then-is_replied
returns-then-is_replied c =
    record {
      index =
          noted-there c.args.catalog.now c.args.number.call (Replied c.args.number c.args.party.now c.args.kind) c.in-Some.index c.in-Some-get.row.now (replied-noted c.args.catalog.now c.args.number c.args.party.now c.args.kind c.requires) (sym c.in-Some.ensures)
          (ap (λ (rows : List Row). slice_get rows c.in-Some.index) (sym c.rows.ensures) ∙ slice_get_read c.rows.result.now (length c.rows.result.now) c.in-Some.index c.in-Some-get.row.now refl c.in-Some-get.ensures.lookup.3.0 c.in-Some-get.ensures.lookup.1) (sym c.is_replied.ensures ∙ c.if-is_replied.true);
      within = grind (arith, common_steps);
    }
