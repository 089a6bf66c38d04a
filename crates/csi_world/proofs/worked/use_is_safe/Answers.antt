-- By the law of runs; the four things are some of all.
use Rattle.csi_world.specs.Private.Worked.{config, using, made, attached, staged, published}
use Rattle.csi_world.proofs.worked.use_is_safe.Goals as goal

pub returns : goal.returns
returns c =
    let safe = c.runs_law.ensures config using 13 in
    record {
      exclusive = safe.exclusive;
      staged_where_attached = safe.staged_where_attached;
      published_where_staged = safe.published_where_staged;
      attached_while_live = safe.attached_while_live;
      made_right = safe.recorded_right made;
      attached_right = safe.recorded_right attached;
      staged_right = safe.recorded_right staged;
      published_right = safe.recorded_right published;
    }
