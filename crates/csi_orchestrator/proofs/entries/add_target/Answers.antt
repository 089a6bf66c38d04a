-- The target has an entry where one is found.
use Rattle.csi_orchestrator.proofs.Words.{◌≡◌, ℕ, List, Bool, true, false, cond, [], ◌∷◌, ◌++◌, sym, ◌∙◌, ap, rules}
use Rattle.csi_orchestrator.proofs.Words.{position, is_some, same_text, TargetEntry, new_target_entry}
use Rattle.csi_orchestrator.proofs.ChangedEntries.{placed-found}
use Rattle.csi_orchestrator.proofs.entries.add_target.Goals as goal

pub returns-then-is_some : goal.returns-then-is_some
returns-then-is_some c =
    let target_entries = c.args.target_entries.now.items in
    let target = c.args.target.now in
    let placed : is_some (position (λ (target_entry : TargetEntry). same_text target_entry.target target) target_entries) ≡ true = cc in
    record {
      ok =
          sym (ap (λ (b : Bool). cond b target_entries (target_entries ++ new_target_entry target ∷ [])) (placed-found (λ (target_entry : TargetEntry). same_text target_entry.target target) target_entries (new_target_entry target) ∙ placed));
      err = tt;
    }

pub returns : goal.returns
returns c =
    let target_entries = c.args.target_entries.now.items in
    let target = c.args.target.now in
    let placed : is_some (position (λ (target_entry : TargetEntry). same_text target_entry.target target) target_entries) ≡ false = cc in
    let found = placed-found (λ (target_entry : TargetEntry). same_text target_entry.target target) target_entries (new_target_entry target) ∙ placed in
    let copied : c.in_ok-target.target ≡ target = search rules in
    record {
      ok =
          c.in_ok-push.ensures.items ∙ ap (λ (text : List ℕ). target_entries ++ new_target_entry text ∷ []) copied ∙ sym (ap (λ (b : Bool). cond b target_entries (target_entries ++ new_target_entry target ∷ [])) found);
      err = tt;
    }
