-- An object with one member, and any other value.
use Rattle.std.proofs.Common.{sym, ◌∙◌}
use Rattle.serde_json.specs.View.{view}
use Rattle.csi_json.proofs.Items.{no_only_member, has_only_member}
use Rattle.csi_json.proofs.values.only_member.Goals as goal

pub returns-then-len-ne1 : goal.returns-then-len-ne1
returns-then-len-ne1 c = no_only_member (view c.args.value.now) c.in_ok-members.members.now.entries c.in_ok-members.ensures (λ h. c.if-len-ne1.true (c.len.ensures.len ∙ h))

pub returns : goal.returns
returns c =
    rw c.as_str.ensures.value
    (has_only_member (view c.args.value.now) c.in_ok-members.members.now.entries c.in_ok-key.key.now c.in_ok-key.value.now c.in_ok-members.ensures (sym c.len.ensures.len ∙ c.if-len-ne1.false) c.in_ok-key.ensures.first)
