use Rattle.std.proofs.Common.{◌≡◌, List, ℕ, length, Err, inr, subst, arith}
use Rattle.std.proofs.lemmas.List.{length-map}
use Rattle.csi_stores.specs.declared.part.Part.{Part}
use Rattle.csi_stores.specs.Public.Part.{all_stored_in, stored_in}
use Rattle.csi_records.specs.Public.Places.{IsBadAt, no_head, ReadsParts}
use Rattle.csi_records.specs.Private.Stopping.{AreSplit}
use Rattle.csi_records.proofs.SplittingBytes.{bad-end, err-bytes}
use Rattle.csi_records.proofs.record.read_record.Goals as goal

pub returns-in-Err-Bad : goal.returns-in-Err-Bad
returns-in-Err-Bad g c = no_head (c.in-Err-Bad.ensures.bad (cc))

pub returns-in-Ok-2 : goal.returns-in-Ok-2
returns-in-Ok-2 g c =
    let parts = c.in-Ok.read.parts.items in
    let version = c.in-Ok.read.version in
    let split : AreSplit version c.args.bytes.now (all_stored_in parts) _ = c.in-Ok.ensures.split in
    let none : AreSplit version c.args.bytes.now (all_stored_in parts) _ = subst (AreSplit version c.args.bytes.now (all_stored_in parts)) c.if-all.false split in
    let place : length (all_stored_in parts) ≡ c.len-place.result = omega (arith, length-map parts stored_in, c.len-place.ensures) in
    let is = subst (λ (ps : List Part). g.T.Record.is_record version (all_stored_in ps)) c.deref.ensures.value (c.in-Ok-2.ensures.0) in
    subst (λ (n : ℕ). IsBadAt g.T.Record.is_record c.args.bytes.now n) place (bad-end g.T.Record.is_record version c.args.bytes.now (all_stored_in parts) none (inr is))

pub returns : goal.returns
returns g c =
    err-bytes g.T.Record.is_record g.T.Record.is_of c.in-Ok.read.version c.args.bytes.now (all_stored_in c.in-Ok.read.parts.items) c.in-Ok.read.all c.in-Err.stop c.in-Ok.ensures.split
    (subst (λ (ps : List Part). ReadsParts (g.T.Record.is_record c.in-Ok.read.version) (g.T.Record.is_of c.in-Ok.read.version) (all_stored_in ps) (Err c.in-Err.stop)) c.deref.ensures.value c.in-Err.ensures)
