-- What the tests tell of what is known of a thing.
use Rattle.csi_orchestrator.proofs.Words.{◌≡◌, ◌≢◌, true, false, sym, ◌∙◌, ap, Known, Yes, No, is_yes, is_no, arith}
use Rattle.csi_orchestrator.proofs.Lemmas.{false≢true, false_from_ne_true}

-- what passes the test for Yes is Yes
pub yes_is_yes : (k : Known) → is_yes k ≡ true → k ≡ Yes
yes_is_yes k e = grind (arith, false≢true)

-- what passes the test for No is No
pub no_is_no : (k : Known) → is_no k ≡ true → k ≡ No
no_is_no k e = grind (arith, false≢true)

-- what fails the test for Yes isn't Yes
pub not_yes : (k : Known) → is_yes k ≡ false → k ≢ Yes
not_yes k e is = false≢true (sym e ∙ ap is_yes is)

-- what fails the test for No isn't No
pub not_no : (k : Known) → is_no k ≡ false → k ≢ No
not_no k e is = false≢true (sym e ∙ ap is_no is)

-- Yes isn't No
pub yes_not_no : (k : Known) → k ≡ Yes → k ≢ No
yes_not_no k e = not_no k (ap is_no e)

-- what isn't No fails the test for No
pub is_not_no : (k : Known) → k ≢ No → is_no k ≡ false
is_not_no k other = false_from_ne_true (is_no k) (λ e. other (no_is_no k e))
