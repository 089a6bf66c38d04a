use Rattle.std.proofs.Common.{◌∙◌, map, refl, sym}
use Rattle.csi_fence.specs.Public.Rows.{stays_in}
use Rattle.csi_fence.proofs.StayingRows.{filter-none_fails}
use Rattle.csi_fence.proofs.rows.Rows.begin.Goals as goal

pub returns-then-forgettable-eq0 : goal.returns-then-forgettable-eq0
returns-then-forgettable-eq0 g c = record {
  session = refl;
  rows = sym (filter-none_fails (stays_in g.T.Table.plan c.args.session) (map g.T.Table.shown c.args.self.now.rows.items) (sym c.requires.forgettable ∙ c.if-forgettable-eq0.true));
  room = λ room. room;
  empty = c.requires.empty;
  fixed = refl;
  own = refl;
  agrees = c.requires.agrees;
  has_room = λ room row has. has;
}
