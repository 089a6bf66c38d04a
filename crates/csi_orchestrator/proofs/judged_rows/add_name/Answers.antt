-- The set has the name, and what it had.
use Rattle.csi_orchestrator.proofs.Words.{rules, ◌≡◌, ◌∙◌, ℕ, List, Bool, true, false, cond, refl, ap, ◌||◌, nat_cmp}
use Rattle.csi_orchestrator.proofs.Words.{bytes_eq, contains_by, slice_cmp}
use Rattle.std.specs.Borrow.{Bor}
use Rattle.std.proofs.lemmas.Map.Text.{is_eq-slice_cmp}
use Rattle.csi_orchestrator.proofs.judged_rows.add_name.Goals as goal

cond-or : (a b : Bool) → cond a true b ≡ (a || b)
cond-or true b = refl
cond-or false b = refl

pub returns-in-Ok-clause-names : goal.returns-in-Ok-clause-names
returns-in-Ok-clause-names c = λ other.
    let had : Bool = contains_by (λ (known : Bor (List ℕ)). slice_cmp nat_cmp other known.now) c.args.names.now in
    let at : Bor (List ℕ) = record { ref_ptr = (0, 0); now = other } in
    c.in-Ok.ensures.updates.0 at ∙ ap (λ b. cond b true had) (is_eq-slice_cmp c.args.name.now other) ∙ cond-or (bytes_eq c.args.name.now other) had

pub returns-in-Ok-clause-is_new : goal.returns-in-Ok-clause-is_new
returns-in-Ok-clause-is_new c = search rules
