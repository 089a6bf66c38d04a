-- A node's rows stand by rising id, and its state tells what it tells; rows within their limits, which keep a node's rules, are a record; and a
-- spelling is one value's.
use Rattle.std.proofs.Common.{ap, map, None, List, refl, subst, arith}
use Rattle.std.proofs.lemmas.Option.{same_Some}
use Rattle.std.specs.Prelude.{ℕ}
use Rattle.csi_types.specs.Public.Text.{IsNodeId}
use Rattle.csi_node.specs.Model.OneRow.{node_row_shown}
use Rattle.csi_node.specs.Model.Record.{parts}
use Rattle.csi_records.specs.Public.Spelling.{present}
use Rattle.csi_records.specs.Public.Records.{Head, node_layout}
use Rattle.csi_records.proofs.Layouts.{parts-same}
use Rattle.csi_records.proofs.PluginLayouts.{node_one}
use Rattle.csi_service.proofs.NodeRows.{node-tells, carries-reply}
use Rattle.csi_service.proofs.RecordParts.{answered-rising}
use Rattle.csi_service.proofs.node_service.NodePlugin.plugin_law.Goals as goal

pub returns-clause-rising : goal.returns-clause-rising
returns-clause-rising c = answered-rising present (parts c.args.self.now.rows) c.record_law.ensures.rules.rising

pub returns-clause-told : goal.returns-clause-told
returns-clause-told c = λ other state shown shown_too. node-tells c.args.self.now other state shown shown_too

pub returns-clause-replies : goal.returns-clause-replies
returns-clause-replies c = λ state number call. carries-reply c.args.self.now.id number call state

pub returns-clause-there : goal.returns-clause-there
returns-clause-there c = λ fit.
    let node = c.args.self.now in (
      node,
      record {
        head_fits = record { own = (subst IsNodeId c.id.ensures c.as_str-id.ensures.limits, tt); session = omega (arith, c.session-session.ensures) };
        rows_fit = fit;
        rules = (c.record_law.ensures.rules, c.record_law.ensures.current);
        are = refl;
      },
    )

pub returns-clause-alone : goal.returns-clause-alone
returns-clause-alone c = λ parts one other spelled also.
    let same = parts-same (node_layout present None) (node_one present None) _ _ (map node_row_shown one.rows) (map node_row_shown other.rows) parts spelled also in
    (ap (λ (head : Head (List ℕ)). head.own) same.0, same_Some one.session other.session (ap (λ (head : Head (List ℕ)). head.session) same.0), same.1)
