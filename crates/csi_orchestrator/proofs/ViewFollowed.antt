-- What an orchestrator shows agrees with its history after each item.
use Rattle.csi_orchestrator.specs.Private.Following.{ViewFollows}
use Rattle.csi_orchestrator.proofs.ViewsFollow.{started-follows, lost-follows, forgotten-follows, sent-follows, closed-follows, noted-follows}
use Rattle.csi_orchestrator.proofs.RepliesFollow.{accepted-follows}

-- item by item
pub view-follows : ViewFollows
view-follows =
    record {
      started = λ view history session nodes agrees rises. started-follows view history session nodes agrees;
      lost = lost-follows;
      forgotten = forgotten-follows;
      sent = sent-follows;
      accepted = accepted-follows;
      closed = closed-follows;
      noted = noted-follows;
    }
