-- Each part is what its function gathered.
use Rattle.csi_reports.proofs.gathering.gathered.Goals as goal

pub returns : goal.returns
returns c =
    record {
      attached = c.in_ok-attached.ensures;
      known = c.in_ok-known.ensures.known;
      known_order = c.in_ok-known.ensures.order;
      published = c.in_ok-published.ensures;
      staged = c.in_ok-staged.ensures;
      found = c.in_ok-found.ensures;
    }
