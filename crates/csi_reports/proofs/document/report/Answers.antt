-- The text that is written is that of the tokens.
use Rattle.csi_reports.proofs.WrittenSteps.{alone}
use Rattle.csi_reports.specs.Private.Found.{gathered_of}
use Rattle.csi_reports.specs.Public.Report.{report_of}
use Rattle.csi_reports.proofs.document.report.Goals as goal

pub returns : goal.returns
returns c =
    let findings = gathered_of c.in_ok-findings.findings in
    record {
      gathered = findings;
      of = c.in_ok-findings.ensures;
      written = c.into_string.ensures (report_of c.args.world.now findings) (alone _ _ _ c.new-out.ensures c.in_ok-write_document.ensures);
    }
