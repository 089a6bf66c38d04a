-- The parts are as the changes leave them, and fit.
use Rattle.std.proofs.Common.{◌≡◌, ◌≤◌, ◌∙◌, ap, sym, subst, map, true, arith}
use Rattle.std.specs.Prelude.{nat_le}
use Rattle.std.proofs.lemmas.Bool.Decides.{nat_tests}
use Rattle.csi_stores.specs.Public.Content.{all_changed, AreRisingParts, size_of}
use Rattle.csi_stores.specs.Public.Part.{part_change}
use Rattle.csi_stores.specs.Public.Memory.{all_stored}
use Rattle.csi_stores.proofs.RisingChanges.{rising-all}
use Rattle.csi_stores.proofs.memory_keep.MemoryKeepKeep.commit.Goals as goal

pub invariant_of-self : goal.invariant_of-self
invariant_of-self c =
    let old = all_stored c.self.inside.entries.items in
    let changes = map part_change c.args.parts.now in
    let is : all_stored c.change_all.new.entries.items ≡ all_changed changes old = c.in_ok-change_all.ensures ∙ ap (all_changed changes) (c.in_ok-entries.ensures ∙ ap all_stored c.deref.ensures.value) in
    let small : nat_le (size_of (all_stored c.deref-2.result.now)) c.self.inside.limit ≡ true = cc in
    let least : size_of (all_stored c.deref-2.result.now) ≤ c.self.inside.limit = grind (arith, nat_tests) in
    let fits : size_of (all_stored c.change_all.new.entries.items) ≤ c.self.inside.limit = subst (λ entries. size_of (all_stored entries) ≤ c.self.inside.limit) c.deref-2.ensures.value least in
    record { rising = subst AreRisingParts (sym is) (rising-all changes old c.self.invariant.rising); fits = fits }
