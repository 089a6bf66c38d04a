use Rattle.std.proofs.Common.{◌≡◌, ◌∙◌, ap, refl, rules, Bool, true, false, cond, ℕ, List, [], ◌∷◌, filter}
use Rattle.std.specs.Prelude.{not, ◌==◌}
use Rattle.std.proofs.lemmas.Fn.{filter_same}
use Rattle.csi_stores.specs.declared.entries.Entry.{Entry}
use Rattle.csi_stores.specs.Public.Part.{StoredPart}
use Rattle.csi_stores.specs.Public.Content.{take_out}
use Rattle.csi_stores.specs.Public.Memory.{stored, all_stored}
use Rattle.csi_stores.proofs.entries.take.Goals as goal

-- an entry that is kept, or not, is a part that is kept, or not
kept-one : (b : Bool) (e : Entry) (es : List Entry) (ps : List StoredPart) → all_stored es ≡ ps → all_stored (cond b (e ∷ es) es) ≡ cond b (stored e ∷ ps) ps
kept-one true e es ps is = ap (λ qs. stored e ∷ qs) is
kept-one false e es ps is = is

-- the entries of other keys have the parts that are left when a key is taken out
kept-all : (key : ℕ) (entries : List Entry) → all_stored (filter (λ e. not (e.key == key)) entries) ≡ take_out key (all_stored entries)
kept-all key [] = refl
kept-all key (e ∷ es) = kept-one (not (e.key == key)) e _ _ (kept-all key es)

pub returns : goal.returns
returns c =
    ap all_stored (filter_same _ (λ (e : Entry). not (e.key == c.args.key)) _ (λ x b f called. search rules) _ _ c.retain.ensures.filtered)
    ∙ kept-all c.args.key c.args.entries.now.items
