use Rattle.std.proofs.Common.{◌≡◌, ◌-◌, length}
use Rattle.csi_records.specs.Private.Reading.{read_items}
use Rattle.csi_records.proofs.ReadingLists.{with_front}
use Rattle.csi_records.proofs.items.list.Given as goal

-- one for each turn, and with those still to be read they are what reading gives
abbrev pub invariant-loop : goal.invariant-loop
invariant-loop g l =
    record {
      few : length l.list.items ≡ l.counter;
      rest : with_front l.list.items (read_items (g.T.Item.item_in l.version) (l.count - l.counter) l.fields.bytes.now) ≡ read_items (g.T.Item.item_in l.version) l.count l.initial.fields.bytes.now;
    }
