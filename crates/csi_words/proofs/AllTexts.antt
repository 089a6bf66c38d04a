-- All values of a word, by its rows.
use Rattle.std.proofs.Common.{◌≡◌, ◌∙◌, ap, refl, sym, ℕ, List, [], Some, None}
use Rattle.std.specs.Prelude.{Option, option_map, find, bytes_eq, unwrap_or}
use Rattle.clap.specs.Words.{Row, all_of, matched_of, raw_values, rows_of}
use Rattle.clap.specs.Walk.{row_of}
use Rattle.clap.proofs.WalkLemmas.{find_row}

-- what the reader of all values says, the rows say
pub all-rows : (f : _) (id : List ℕ) → option_map raw_values (matched_of f id) ≡ all_of id (rows_of f)
all-rows f id = by (find (λ e. bytes_eq e.0.now id) f.entries.items) ∙ ap (option_map (λ (r : Row). r.values)) (sym (find_row f.entries.items id))
  where
    by : (o : Option _) → option_map raw_values (option_map (λ e. e.1) o) ≡ option_map (λ (r : Row). r.values) (option_map row_of o)
    by None = refl
    by (Some e) = refl

-- those of a reader that found them
pub some-texts : (own given : Option (List (List ℕ))) (found : List (List ℕ)) → given ≡ own → given ≡ Some found → unwrap_or own [] ≡ found
some-texts own given found same is = ap (λ o. unwrap_or o []) (sym same ∙ is)

-- and where there are none
pub no-texts : (own given : Option (List (List ℕ))) → given ≡ own → given ≡ None → unwrap_or own [] ≡ []
no-texts own given same is = ap (λ o. unwrap_or o []) (sym same ∙ is)
