use Rattle.std.proofs.Common.{◌≡◌, ◌∙◌, ap, arith, rules, refl, sym, true, false, Some}
use Rattle.std.proofs.lemmas.Bool.{le-leb, lt-leb, or_from, or_left, or_right}
use Rattle.std.specs.Prelude.{length, nat_le}
use Rattle.std.specs.Option.{option_copied}
use Rattle.csi_types.specs.declared.status.Status.TheVariants.{FailedPrecondition}
use Rattle.csi_types.specs.Model.Same.{has_capability}
use Rattle.csi_types.specs.Public.Lent.{lent_capability}
use Rattle.csi_controller.specs.Model.Table.{refused}
use Rattle.csi_controller.specs.Public.OneRow.{row_shown}
use Rattle.csi_controller.specs.Private.OneRow.{held_so}
use Rattle.csi_controller.proofs.Counts.{configured-at, full-at, lost-at}
use Rattle.csi_controller.proofs.RowLines.{publish-there, publish-apart, publish-room}
use Rattle.csi_controller.proofs.controller.row_table.publish_line.Goals as goal
use Rattle.csi_controller.proofs.controller.row_table.publish_line.Goals.{then-entry-counts-via-then-entry-counts, then-entry-counts-via-else-entry-counts+then-len-ge-MAX_HOLDINGS}

pub returns-in_default : goal.returns-in_default
returns-in_default c = record {
  line = let live = c.if-not-row.false in let none = lost-at _ _ _ c.nodes-nodes.ensures c.in_default.ensures in rw (live, none) refl;
  id = search rules;
  plain = search rules;
}

pub returns-then-not-has_capability : goal.returns-then-not-has_capability
returns-then-not-has_capability c = record {
  line = let live = c.if-not-row.false in
      let configured = configured-at _ _ _ _ _ c.nodes-nodes.ensures c.in-Some.ensures c.index-nodes-place.is in
      let unable : has_capability c.args.row.now.capabilities (lent_capability c.args.wanted.capability) ≡ false = search rules in
      rw (live, configured, unable) refl;
  id = search rules;
  plain = search rules;
}

pub returns-then-is_held_so : goal.returns-then-is_held_so
returns-then-is_held_so c = record {
  line = publish-there (row_shown c.args.row.now) c.args.config.now.nodes _ (held_so c.args.wanted) c.if-not-row.false (configured-at _ _ _ _ _ c.nodes-nodes.ensures c.in-Some.ensures c.index-nodes-place.is) (search rules) c.in-Some-held_at.held.now true
      (sym c.held_at.ensures ∙ ap option_copied c.in-Some-held_at.is) (sym (c.is_held_so.ensures c.args.row.now.id) ∙ c.if-is_held_so.true);
  id = search rules;
  plain = search rules;
}

pub returns-in-Some-held_at : goal.returns-in-Some-held_at
returns-in-Some-held_at c = record {
  line = publish-there (row_shown c.args.row.now) c.args.config.now.nodes _ (held_so c.args.wanted) c.if-not-row.false (configured-at _ _ _ _ _ c.nodes-nodes.ensures c.in-Some.ensures c.index-nodes-place.is) (search rules) c.in-Some-held_at.held.now false
      (sym c.held_at.ensures ∙ ap option_copied c.in-Some-held_at.is) (sym (c.is_held_so.ensures c.args.row.now.id) ∙ c.if-is_held_so.false);
  id = search rules;
  plain = search rules;
}

pub returns-in-Some-excluding : goal.returns-in-Some-excluding
returns-in-Some-excluding c = record {
  line = publish-apart (row_shown c.args.row.now) c.args.config.now.nodes _ (held_so c.args.wanted) c.if-not-row.false (configured-at _ _ _ _ _ c.nodes-nodes.ensures c.in-Some.ensures c.index-nodes-place.is) (search rules) (Some c.in-Some-excluding.other.now)
      (sym c.held_at.ensures ∙ ap option_copied c.in_default-held_at.is) (sym c.excluding.ensures ∙ ap option_copied c.in-Some-excluding.is)
      ∙ ap (refused FailedPrecondition) (sym c.as_str.ensures.value);
  id = search rules;
  plain = search rules;
}

pub returns-then-entry-counts : goal.returns-then-entry-counts
returns-then-entry-counts c = record {
  line = publish-room (row_shown c.args.row.now) c.args.config.now.nodes _ (held_so c.args.wanted) c.if-not-row.false (configured-at _ _ _ _ _ c.nodes-nodes.ensures c.in-Some.ensures c.index-nodes-place.is) (search rules) true
      (sym c.held_at.ensures ∙ ap option_copied c.in_default-held_at.is) (sym c.excluding.ensures ∙ ap option_copied c.in_default-excluding.is)
      (elim c.then-entry-counts.branch [
        | then-entry-counts-via-then-entry-counts w ↦ or_left _ (nat_le 64 (length c.args.row.now.holdings.items)) (full-at _ _ _ c.args.counts.now _ _ c.nodes-nodes.ensures c.in-Some.ensures c.index-nodes-place.is ∙ le-leb _ _ w.if-entry-counts.true)
        | then-entry-counts-via-else-entry-counts+then-len-ge-MAX_HOLDINGS w ↦ or_right _ (nat_le 64 (length c.args.row.now.holdings.items)) (le-leb 64 (length c.args.row.now.holdings.items) (let many = w.len.ensures in let most = w.if-len-ge-MAX_HOLDINGS.true in omega (arith, many, most)))
      ]);
  id = search rules;
  plain = search rules;
}

pub returns : goal.returns
returns c = record {
  line = publish-room (row_shown c.args.row.now) c.args.config.now.nodes _ (held_so c.args.wanted) c.if-not-row.false (configured-at _ _ _ _ _ c.nodes-nodes.ensures c.in-Some.ensures c.index-nodes-place.is) (search rules) false
      (sym c.held_at.ensures ∙ ap option_copied c.in_default-held_at.is) (sym c.excluding.ensures ∙ ap option_copied c.in_default-excluding.is)
      (or_from _ (nat_le 64 (length c.args.row.now.holdings.items)) (full-at _ _ _ c.args.counts.now _ _ c.nodes-nodes.ensures c.in-Some.ensures c.index-nodes-place.is ∙ lt-leb _ _ c.if-entry-counts.false) (lt-leb 64 (length c.args.row.now.holdings.items) (let many = c.len.ensures in let few = c.if-len-ge-MAX_HOLDINGS.false in omega (arith, many, few))));
  id = search rules;
  plain = search rules;
}
