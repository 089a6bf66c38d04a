-- What was gathered, as it is kept.
use Rattle.csi_reports.specs.declared.gathering.Findings.{Findings}
use Rattle.csi_reports.specs.Public.Gathered.{Gathered}

-- what was gathered, as lists
abbrev pub gathered_of : Findings → Gathered
gathered_of findings =
    record {
      attached = findings.attached.items;
      known = findings.known.items;
      published = findings.published.items;
      staged = findings.staged.items;
      found = findings.found;
    }
