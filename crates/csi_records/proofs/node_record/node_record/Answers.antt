use Rattle.std.proofs.Common.{inr, sym, subst, ℕ, List, map, arith}
use Rattle.std.specs.Option.{option_copied}
use Rattle.std.proofs.lemmas.List.{length-map, take-map}
use Rattle.csi_node.specs.Model.OneRow.{node_row_shown}
use Rattle.csi_node.specs.Public.Judging.{IsFirstRefused, IsRecordRefusal, KeepRules}
use Rattle.csi_records.specs.Public.Records.{Head, IsHead, IsAskedNode, node_layout, IsAnsweredRow}
use Rattle.csi_records.proofs.Layouts.{all-read, row-unread, row-refused}
use Rattle.csi_records.proofs.PluginLayouts.{node_one, node-unasked}
use Rattle.csi_records.proofs.node_record.node_record.Goals as goal

pub returns-then-not-is_wanted : goal.returns-then-not-is_wanted
returns-then-not-is_wanted c =
    let head : Head (List ℕ) = record { own = c.in-Ok.head.id; session = c.in-Ok.head.session } in
    inr (node-unasked c.args.version (option_copied c.args.wanted) head c.args.parts.now c.first-item.result c.in-len1-up.len_at_least c.first-item.is c.in-Ok.ensures.head.1 c.in-Ok.ensures.head.0
    (λ asked. let there = c.is_wanted.ensures.1 asked in let gone = c.if-not-is_wanted.true in cc))

pub returns-in-Ok-record_of : goal.returns-in-Ok-record_of
returns-in-Ok-record_of c =
    let wanted = option_copied c.args.wanted in
    let head : Head (List ℕ) = record { own = c.in-Ok.head.id; session = c.in-Ok.head.session } in
    let fits : IsHead (IsAskedNode wanted) c.args.version head = record { own = (c.in-Ok.ensures.head.0.own, c.is_wanted.ensures.0 c.if-not-is_wanted.false); session = c.in-Ok.ensures.head.0.session } in
    let rows = c.in_ok-rows.field-0.rows.items in
    let here =
    all-read (node_layout c.args.version wanted) (IsAnsweredRow c.args.version) head (map node_row_shown rows) c.args.parts.now c.first-item.result c.in_ok-rows.field-0.all c.in-len1-up.len_at_least c.first-item.is c.in-Ok.ensures.head.1 fits
    c.in_ok-rows.ensures.fit c.in_ok-rows.ensures.stops c.if-all.true c.in-Ok-record_of.ensures.rules in
    (record { first = head; rows = map node_row_shown rows; spelled = here }, record { head = head; rows = rows; spelled = here; is = c.in-Ok-record_of.ensures.made })

pub returns-in-Err-BadRow : goal.returns-in-Err-BadRow
returns-in-Err-BadRow c =
    let wanted = option_copied c.args.wanted in
    let head : Head (List ℕ) = record { own = c.in-Ok.head.id; session = c.in-Ok.head.session } in
    let fits : IsHead (IsAskedNode wanted) c.args.version head = record { own = (c.in-Ok.ensures.head.0.own, c.is_wanted.ensures.0 c.if-not-is_wanted.false); session = c.in-Ok.ensures.head.0.session } in
    let rows = c.in_ok-rows.field-0.rows.items in
    let first : IsFirstRefused head.session rows c.in-Err-BadRow.bad = subst (IsRecordRefusal head.session rows) c.in-Err-BadRow.field-0-is c.in-Err-BadRow.ensures.refused in
    inr (row-refused (node_layout c.args.version wanted) (IsAnsweredRow c.args.version) head (map node_row_shown rows) c.args.parts.now c.first-item.result c.in_ok-rows.field-0.all c.in-len1-up.len_at_least c.first-item.is c.in-Ok.ensures.head.1 fits
    c.in_ok-rows.ensures.fit c.in_ok-rows.ensures.stops (node_one c.args.version wanted) c.in-Err-BadRow.bad first.from (omega (arith, first.to, length-map rows node_row_shown))
    (subst (KeepRules head.session) (sym (take-map node_row_shown _ rows)) first.before) (λ are. first.refused (subst (KeepRules head.session) (take-map node_row_shown _ rows) are)))

pub returns-in-Ok-2 : goal.returns-in-Ok-2
returns-in-Ok-2 c =
    let wanted = option_copied c.args.wanted in
    let head : Head (List ℕ) = record { own = c.in-Ok.head.id; session = c.in-Ok.head.session } in
    let fits : IsHead (IsAskedNode wanted) c.args.version head = record { own = (c.in-Ok.ensures.head.0.own, c.is_wanted.ensures.0 c.if-not-is_wanted.false); session = c.in-Ok.ensures.head.0.session } in
    let rows = c.in_ok-rows.field-0.rows.items in
    inr (row-unread (node_layout c.args.version wanted) (IsAnsweredRow c.args.version) head (map node_row_shown rows) c.args.parts.now c.first-item.result c.in_ok-rows.field-0.all c.in-len1-up.len_at_least c.first-item.is c.in-Ok.ensures.head.1 fits
    c.in_ok-rows.ensures.fit c.in_ok-rows.ensures.stops c.len.result (omega (arith, c.len.ensures, length-map rows node_row_shown)) c.if-all.false (λ head front row own rules count. own) c.in-Ok-2.ensures.rules)
