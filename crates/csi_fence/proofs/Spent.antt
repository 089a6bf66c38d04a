-- What is spent, what is fresh, and what is over.
use Rattle.std.proofs.Common.{◌≡◌, ◌⊎◌, ◌≤◌, ◌<◌, ℕ, Bool, true, false, not, refl, sym, ◌∙◌, ap, inl, inr, arith}
use Rattle.std.specs.Prelude.{Option, Some, None, nat_lt}
use Rattle.std.proofs.lemmas.Bool.{false≢true, true≢false, not-true, not-false, ltb-true, lt-ltb}
use Rattle.std.proofs.lemmas.Bool.Decides.{nat_tests}
use Rattle.csi_types.proofs.Order.{before-trans, before-parts, before-from}
use Rattle.csi_types.specs.declared.number.Number.{Number}
use Rattle.csi_types.specs.Model.Number.{is_before, IsBefore}
use Rattle.csi_fence.specs.Private.Fence.{IsSpent}
use Rattle.csi_fence.specs.Model.Fence.{is_spent, is_over}

-- a number before another passes the test for it
is_before-then : (a b : Number) → IsBefore a b → is_before a b ≡ true
is_before-then a b h = rw h refl

-- a number before a spent one is spent
pub spent-earlier : (last : Option Number) (earlier later : Number) → IsBefore earlier later → IsSpent last later → IsSpent last earlier
spent-earlier None earlier later before h = h
spent-earlier (Some last) earlier later before h = by (is_before last earlier) refl
  where
    by : (b : Bool) → is_before last earlier ≡ b → not (is_before last earlier) ≡ true
    by false e = ap not e
    by true e = absurd (false≢true (sym (ap not (before-trans last earlier later e (is_before-then earlier later before))) ∙ h))

-- a number is spent once its call was answered
pub own_spent : (number : Number) → is_spent (Some number) number ≡ true
own_spent number = grind (arith, nat_tests)

-- and so are those that were spent before it
pub spent_still : (last : Option Number) (number earlier : Number) → is_spent last number ≡ false → is_spent last earlier ≡ true → is_spent (Some number) earlier ≡ true
spent_still None number earlier fresh spent = absurd (false≢true spent)
spent_still (Some last) number earlier fresh spent = by (is_before number earlier) refl
  where
    by : (b : Bool) → is_before number earlier ≡ b → not (is_before number earlier) ≡ true
    by false e = ap not e
    by true e = absurd (true≢false (sym (before-trans last number earlier (not-false (is_before last number) fresh) e) ∙ not-true (is_before last earlier) spent))

-- a number is spent by a last one that isn't before it, and fresh after one that is
not_spent-after : (last number : Number) → is_before last number ≡ true → is_spent (Some last) number ≡ false
not_spent-after last number h = ap not h

-- a number of a later session than the last one's is fresh
pub fresh_in-later : (last number : Number) → last.session < number.session → is_spent (Some last) number ≡ false
fresh_in-later last number h = not_spent-after last number (before-from last number (inl h))

-- and one that is spent is of no later session
pub spent-session : (last number : Number) → is_spent (Some last) number ≡ true → number.session ≤ last.session
spent-session last number h = by (nat_lt last.session number.session) refl
  where
    by : (b : Bool) → nat_lt last.session number.session ≡ b → number.session ≤ last.session
    by false e = grind (arith, nat_tests)
    by true e = absurd (true≢false (sym h ∙ fresh_in-later last number (ltb-true last.session number.session e)))

-- of two sessions of which neither is earlier, each is the other
pub same_session : (a b : ℕ) → nat_lt a b ≡ false → nat_lt b a ≡ false → a ≡ b
same_session a b h k = grind (arith, nat_tests)

-- a call of a session before this one is over
pub over-from : (session : ℕ) (number : Number) → number.session < session → is_over session number ≡ true
over-from session number h = lt-ltb number.session session h

-- a call that is over is of a session before this one
pub over-to : (session : ℕ) (number : Number) → is_over session number ≡ true → number.session < session
over-to session number h = ltb-true number.session session h

-- a call of this session isn't over
pub not_over-own : (session : ℕ) (number : Number) → number.session ≡ session → is_over session number ≡ false
not_over-own session number h = grind (arith, nat_tests)

-- where no session came, none is
pub none_over : (number : Number) → is_over 0 number ≡ false
none_over number = grind (arith, nat_tests)

-- what is over in a session is over in a later one
pub over-later : (session later : ℕ) (number : Number) → session ≤ later → is_over session number ≡ true → is_over later number ≡ true
over-later session later number h over = over-from later number (omega (arith, h, over-to session number over))

-- the session of a number before another is no later one
before-session : (a b : Number) → IsBefore a b → a.session ≤ b.session
before-session a b h = by (before-parts a b (is_before-then a b h))
  where
    by : (a.session < b.session) ⊎ ((a.session ≡ b.session) × (a.call < b.call)) → a.session ≤ b.session
    by (inl k) = omega (arith, k)
    by (inr k) = omega (arith, k.0)

-- a number before one that is over is over
pub over-earlier : (session : ℕ) (earlier later : Number) → IsBefore earlier later → is_over session later ≡ true → is_over session earlier ≡ true
over-earlier session earlier later before over = over-from session earlier (omega (arith, before-session earlier later before, over-to session later over))
