use Rattle.std.proofs.Common.{List, ◌++◌, ◌∷◌, [], Ok, sym, ap, ◌∙◌}
use Rattle.std.proofs.lemmas.Result.{err_from_is_err_and}
use Rattle.csi_types.specs.declared.capability.Capability.{Capability}
use Rattle.csi_types.specs.Public.Lent.{lent_capability}
use Rattle.csi_frames.specs.Public.Reading.{capabilities_at}
use Rattle.csi_frames.specs.Public.Version.{owes_new_mode}
use Rattle.csi_frames.proofs.Loop.{goes_on, ends, is_done}
use Rattle.csi_frames.proofs.calls.capabilities_at.Goals as goal

pub returns-in_err-one : goal.returns-in_err-one
returns-in_err-one c =
    let p = err_from_is_err_and c.from_residual.result c.from_residual.ensures.1 in
    rw (p.1, p.2) (ends c.args.version c.loop-left.owed c.is_owed-here.result c.in_err-one.field-0.0 c.loop-left.invariant.0 c.loop-left.left c.loop-left.fields.bytes.now (capabilities_at c.args.version (owes_new_mode c.args.version) c.args.count c.args.fields.now.bytes.now) c.loop-left-test.true c.is_owed-here.ensures c.in_err-one.ensures c.loop-left.invariant.1)

pub loop-left-preserved : goal.loop-left-preserved
loop-left-preserved c = (
  c.loop-left.invariant.0 ++ lent_capability c.in_ok-one.one ∷ [],
  goes_on c.args.version c.loop-left.owed c.is_owed-here.result c.is_still_owed-owed.result c.loop-left.invariant.0 c.loop-left.left c.loop-left.fields.bytes.now (lent_capability c.in_ok-one.one) c.owed_capability_at.new.fields.bytes.now (capabilities_at c.args.version (owes_new_mode c.args.version) c.args.count c.args.fields.now.bytes.now) c.loop-left-test.true c.is_owed-here.ensures c.is_still_owed-owed.ensures c.in_ok-one.ensures c.loop-left.invariant.1,
)

pub judged-requires : goal.judged-requires
judged-requires c = record {
  few = c.requires;
  read = (c.args.version, owes_new_mode c.args.version, c.loop-left.invariant.0, c.loop-left.fields.bytes.now, is_done c.args.version c.loop-left.owed c.loop-left.invariant.0 c.loop-left.left c.loop-left.fields.bytes.now (capabilities_at c.args.version (owes_new_mode c.args.version) c.args.count c.args.fields.now.bytes.now) c.loop-left-test.false c.loop-left.invariant.1);
}

pub returns : goal.returns
returns c =
    let all = is_done c.args.version c.loop-left.owed c.loop-left.invariant.0 c.loop-left.left c.loop-left.fields.bytes.now (capabilities_at c.args.version (owes_new_mode c.args.version) c.args.count c.args.fields.now.bytes.now) c.loop-left-test.false c.loop-left.invariant.1 in
    all ∙ ap (λ (list : List Capability). Ok (list, c.loop-left.fields.bytes.now))
    (sym (c.judged.ensures c.args.version (owes_new_mode c.args.version) c.loop-left.invariant.0 c.loop-left.fields.bytes.now all))
