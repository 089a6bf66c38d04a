-- Which names have rows: each of which something is wanted, or for which a call was sent since it was forgotten. Of a name without a row no
-- volume is known, and there are few with one.
use Rattle.csi_world.proofs.Words.{◌≡◌, ◌⊎◌, ℕ, ◌<◌, ◌≤◌, List, [], ◌∷◌, length, find, Bool, true, false, cond, not}
use Rattle.csi_world.proofs.Words.{Option, Some, None, ◌||◌, refl, sym, ◌∙◌, ap, subst, arith, list_any, MAX_ROWS}
use Rattle.csi_world.proofs.Words.{Number, same_text, Exists, IsAmong, Thing, Yes, No, Maybe, Issued, touches, does}
use Rattle.csi_world.proofs.Words.{Goal, Item, Started, Lost, Forgotten, Sent, Accepted, Closed, Noted, History}
use Rattle.csi_world.proofs.Words.{with_items, names_of, with_name, known, known_by, goal_of, has_row, has_success}
use Rattle.csi_world.proofs.Words.{is_success_of, issued_in, since}
use Rattle.csi_world.proofs.Lemmas.{false≢true, none-some, same_text-tells, any-then, then-any, forgotten-follows}
use Rattle.csi_world.proofs.Lemmas.{noted-follows}
use Rattle.csi_orchestrator.proofs.RowViews.{told_by as view_of}
use Rattle.csi_types.proofs.Filters.{filter-no_longer}
use Rattle.csi_orchestrator.specs.declared.thing.Thing.TheVariants as things
use Rattle.csi_orchestrator.specs.Model.Agrees.{Agrees}
use Rattle.csi_world.proofs.KnownThings.{at-named}
use Rattle.csi_world.proofs.Lifetimes.{ends, calls_since, calls_for}
use Rattle.csi_world.proofs.NamedCalls.{same-tells}

-- what is so of a history's names
pub record AreRowed (history : History) : Type 0 where
  pub wanted : (name : List ℕ) (goal : Goal) → goal_of history name ≡ Some goal → has_row history name ≡ true
  pub called : (call : Issued) → IsAmong call (calls_since (Exists call.name) history.items) → has_row history call.name ≡ true
  pub gone : (name : List ℕ) → has_row history name ≡ false → known history (things.Exists name) ≡ No
  pub few : length (names_of history) ≤ MAX_ROWS

-- the item is of a name that has a row, or may have one
abbrev pub IsFit : History → Item → Type 0
IsFit history (Sent issued) = has_row history issued.name ≡ true
IsFit history (Noted name goal) = (has_row history name ≡ true) ⊎ (length (names_of history) < MAX_ROWS)
IsFit history (Forgotten name) = (known history (things.Exists name) ≡ No) × (goal_of history name ≡ None)
IsFit history item = Unit {0}

-- ---- a history, as it is read

-- what a history tells, as it would be shown, agrees with itself
pub agrees-itself : (history : History) → Agrees (view_of history) history
agrees-itself history =
    record { same_nodes = refl; same_last = refl; same_rows = λ name. refl; same_marks = λ thing. refl; same_ids = λ name. refl; same_goals = λ name. refl; same_arguments = λ name. refl; same_holdings = λ name node there. refl; same_open_calls = λ name. refl; same_counts = λ name. refl }

-- which names have rows once something is noted
pub noted-row : (history : History) (name other : List ℕ) (goal : Option Goal) → has_row (with_items history (Noted name goal ∷ [])) other ≡ cond (same_text name other) true (has_row history other)
noted-row history name other goal = sym ((noted-follows (view_of history) history name goal (agrees-itself history)).same_rows other)

-- what is wanted then
noted-goal : (history : History) (name other : List ℕ) (goal : Option Goal) → goal_of (with_items history (Noted name goal ∷ [])) other ≡ cond (same_text name other) goal (goal_of history other)
noted-goal history name other goal = sym ((noted-follows (view_of history) history name goal (agrees-itself history)).same_goals other)

-- and once a name is forgotten
forgotten-row : (history : History) (name other : List ℕ) → has_row (with_items history (Forgotten name ∷ [])) other ≡ cond (same_text name other) false (has_row history other)
forgotten-row history name other = sym ((forgotten-follows (view_of history) history name (agrees-itself history)).same_rows other)

-- ---- what is known of a volume that isn't there

-- an item that isn't a call that is sent, and tells no success
pub known-aside : (items : List Item) (item : Item) (thing : Thing) (found : Option Issued) → ((number : Number) → is_success_of number item ≡ false) → known_by (item ∷ items) thing found ≡ known_by items thing found
known-aside items item thing None quiet = refl
known-aside items item thing (Some call) quiet = ap (λ b. cond (not (b || has_success items call.number)) Maybe (cond (does thing call) Yes No)) (quiet call.number)

-- what is known of a thing is so still once a call of another was sent
pub sent-other : (history : History) (issued : Issued) (thing : Thing) → touches thing issued ≡ false → known (with_items history (Sent issued ∷ [])) thing ≡ known history thing
sent-other history issued thing other = grind (arith, calls_for)

-- a success that is told leaves as it is what is known not to be so
pub still-gone : (items : List Item) (item : Item) (thing : Thing) (found : Option Issued) → known_by items thing found ≡ No → known_by (item ∷ items) thing found ≡ No
still-gone items item thing found is = grind (arith, any-then, then-any, false≢true)

-- a call of a name says nothing of another's volume
other-untouched : (issued : Issued) (name : List ℕ) → same_text issued.name name ≡ false → touches (things.Exists name) issued ≡ false
other-untouched issued name differs = grind (arith, false≢true, at-named, same-tells, same_text-tells)

-- ---- item by item

-- no more names than there is room for
few-named : (name : List ℕ) (names : List (List ℕ)) → length names ≤ MAX_ROWS → (list_any (same_text name) names ≡ true) ⊎ (length names < MAX_ROWS) → length (with_name name names) ≤ MAX_ROWS
few-named name names few fit = grind (arith, false≢true)

-- a name that has no row had none before, where it isn't forgotten
had-none : (b r : Bool) → cond b true r ≡ false → r ≡ false
had-none true r h = absurd (false≢true (sym h))
had-none false r h = h

-- something is noted
noted-rowed : (history : History) (name : List ℕ) (goal : Option Goal) → IsFit history (Noted name goal) → AreRowed history → AreRowed (with_items history (Noted name goal ∷ []))
noted-rowed history name goal fit rowed =
    record {
      wanted = λ other want e. by other (same_text name other) refl (λ differs. rowed.wanted other want (sym (noted-goal history name other goal ∙ ap (λ b. cond b goal (goal_of history other)) differs) ∙ e));
      called = λ call among. by call.name (same_text name call.name) refl (λ differs. rowed.called call among);
      gone = λ other none. known-aside history.items (Noted name goal) (things.Exists other) (find (touches (things.Exists other)) (calls_for (things.Exists other) history.items)) (λ number. refl)
          ∙ rowed.gone other (had-none (same_text name other) (has_row history other) (sym (noted-row history name other goal) ∙ none));
      few = few-named name (names_of history) rowed.few fit;
    }
  where
    by : (other : List ℕ) (b : Bool) → same_text name other ≡ b → (same_text name other ≡ false → has_row history other ≡ true) → has_row (with_items history (Noted name goal ∷ [])) other ≡ true
    by other true same row = noted-row history name other goal ∙ ap (λ b. cond b true (has_row history other)) same
    by other false differs row = noted-row history name other goal ∙ ap (λ b. cond b true (has_row history other)) differs ∙ row differs

-- a name is forgotten
forgotten-rowed : (history : History) (name : List ℕ) → IsFit history (Forgotten name) → AreRowed history → AreRowed (with_items history (Forgotten name ∷ []))
forgotten-rowed history name fit rowed =
    record {
      wanted = λ other want e. by other (same_text name other) refl (λ same. absurd (none-some want (sym fit.1 ∙ ap (goal_of history) same ∙ e))) (rowed.wanted other want e);
      called = λ call among. called call (same_text name call.name) refl among;
      gone = λ other none. known-aside history.items (Forgotten name) (things.Exists other) (find (touches (things.Exists other)) (calls_for (things.Exists other) history.items)) (λ number. refl)
          ∙ gone other (same_text name other) refl (sym (forgotten-row history name other) ∙ none);
      few = let less = filter-no_longer (λ other. not (same_text other name)) (names_of history) in let few = rowed.few in omega (arith, less, few);
    }
  where
    by : (other : List ℕ) (b : Bool) → same_text name other ≡ b → (name ≡ other → ⊥) → has_row history other ≡ true → has_row (with_items history (Forgotten name ∷ [])) other ≡ true
    by other true same not_it row = absurd (not_it ((same_text-tells name other).0 same))
    by other false differs not_it row = forgotten-row history name other ∙ ap (λ b. cond b false (has_row history other)) differs ∙ row

    called : (call : Issued) (b : Bool) → same_text name call.name ≡ b → IsAmong call (issued_in (cond (same_text name call.name) [] (Forgotten name ∷ since (ends (Exists call.name)) history.items))) → has_row (with_items history (Forgotten name ∷ [])) call.name ≡ true
    called call true same among = absurd (subst (λ b. IsAmong call (issued_in (cond b [] (Forgotten name ∷ since (ends (Exists call.name)) history.items)))) same among)
    called call false differs among =
        forgotten-row history name call.name ∙ ap (λ b. cond b false (has_row history call.name)) differs
        ∙ rowed.called call (subst (λ b. IsAmong call (issued_in (cond b [] (Forgotten name ∷ since (ends (Exists call.name)) history.items)))) differs among)

    gone : (other : List ℕ) (b : Bool) → same_text name other ≡ b → cond (same_text name other) false (has_row history other) ≡ false → known history (things.Exists other) ≡ No
    gone other true same none = subst (λ n. known history (things.Exists n) ≡ No) ((same_text-tells name other).0 same) fit.0
    gone other false differs none = rowed.gone other (sym (ap (λ b. cond b false (has_row history other)) differs) ∙ none)

-- a call is sent
sent-rowed : (history : History) (issued : Issued) → IsFit history (Sent issued) → AreRowed history → AreRowed (with_items history (Sent issued ∷ []))
sent-rowed history issued fit rowed = grind (arith, sent-other, other-untouched, false≢true, same_text-tells)

-- each item
pub item-rowed : (history : History) (item : Item) → IsFit history item → AreRowed history → AreRowed (with_items history (item ∷ []))
item-rowed history (Sent issued) fit rowed = sent-rowed history issued fit rowed
item-rowed history (Noted name goal) fit rowed = noted-rowed history name goal fit rowed
item-rowed history (Forgotten name) fit rowed = forgotten-rowed history name fit rowed
item-rowed history (Accepted number status id) fit rowed = grind (arith, still-gone, calls_for)
item-rowed history (Started session nodes) fit rowed = grind (arith, known-aside, calls_for)
item-rowed history (Lost node) fit rowed = grind (arith, known-aside, calls_for)
item-rowed history (Closed number) fit rowed = grind (arith, known-aside, calls_for)

-- each of these items is fit where it stands, the newest first
abbrev pub AreFit : History → List Item → Type 0
AreFit history [] = Unit {0}
AreFit history (item ∷ older) = IsFit (with_items history older) item × AreFit history older

-- so it is after them
pub items-rowed : (history : History) (items : List Item) → AreFit history items → AreRowed history → AreRowed (with_items history items)
items-rowed history [] fit rowed = rowed
items-rowed history (item ∷ older) fit rowed = item-rowed (with_items history older) item fit.0 (items-rowed history older fit.1 rowed)

-- at first
pub first-rowed : (nodes : List (List ℕ)) (last : Number) → AreRowed (let h : History = record { began = last; nodes = nodes; items = [] } in h)
first-rowed nodes last = record { wanted = λ name goal e. absurd (none-some goal e); called = λ call among. absurd among; gone = λ name none. refl; few = omega arith }
