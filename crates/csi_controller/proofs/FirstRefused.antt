-- The first row that no record has there, and the walk that finds it.
use Rattle.std.proofs.Common.{◌≡◌, ◌<◌, ◌≤◌, ◌+◌, ◌-◌, ℕ, length, get_or, take, drop, Bool, true, false, List, [], ◌∷◌, ◌++◌, refl, sym, ◌∙◌, ap, subst, arith}
use Rattle.std.specs.Prelude.{None, find, ◌||◌}
use Rattle.std.specs.List.{list_any}
use Rattle.std.proofs.lemmas.Bool.{false_from_ne_true, false≢true, true≢false}
use Rattle.std.proofs.lemmas.List.{take-append-drop, take_all}
use Rattle.std.proofs.lemmas.List.Folds.{list_any-append}
use Rattle.std.proofs.Math.Bool.{or-false, or_comm}
use Rattle.csi_types.proofs.Each.{each-weaker}
use Rattle.csi_types.proofs.Options.{none-from_is_some}
use Rattle.csi_types.proofs.Places.{AtMostOne-append}
use Rattle.csi_types.proofs.Searches.{find-none}
use Rattle.csi_types.proofs.Tests.{any-find, any-find_none}
use Rattle.csi_types.proofs.Members.{among-append, among-last, none_passes}
use Rattle.csi_types.specs.Public.Places.{AtMostOne}
use Rattle.csi_types.proofs.Equality.{same_text-tells}
use Rattle.csi_types.specs.Model.Same.{same_text}
use Rattle.csi_fence.proofs.JudgedRows as judging
use Rattle.csi_fence.proofs.JudgedRows.{AreJudged, follows, judged-take, one-more}
use Rattle.csi_controller.specs.declared.row.ControllerRow.{ControllerRow}
use Rattle.csi_controller.specs.Public.Core.{AreSoundRows, IsSoundRow}
use Rattle.csi_controller.specs.Public.Judging.{IsFirstRefused}
use Rattle.csi_controller.specs.Private.Judging.{may_follow}
use Rattle.csi_controller.specs.Private.SoundRow.{is_sound_row}
use Rattle.csi_controller.proofs.Sound.{rise-two, two-rise}
use Rattle.csi_controller.proofs.SoundRow.{row-sound, sound-row}

-- ---- at most one

-- where at most one of a list passes, at most one of a front of it does
AtMostOne-front : {X : Type 0} (p : X → Bool) (xs ys : List X) → AtMostOne p (xs ++ ys) → AtMostOne p xs
AtMostOne-front p [] ys one = tt
AtMostOne-front p (x ∷ xs) ys one = (λ e. find-none p xs (λ y among. none_passes p (xs ++ ys) y (one.0 e) (among-append xs ys y among)), AtMostOne-front p xs ys one.1)

-- where the last one passes, none before it does
AtMostOne-last : {X : Type 0} (p : X → Bool) (xs : List X) (x : X) → AtMostOne p (xs ++ x ∷ []) → p x ≡ true → find p xs ≡ None
AtMostOne-last p [] x one passes = refl
AtMostOne-last p (y ∷ ys) x one passes =
    let fails : p y ≡ false = false_from_ne_true (p y) (λ e. true≢false (sym passes ∙ none_passes p (ys ++ x ∷ []) x (one.0 e) (among-last ys x))) in
    rw fails (AtMostOne-last p ys x one.1 passes)

-- ---- the rules of rows

-- the id of a row
abbrev id_of : ControllerRow → ℕ
id_of row = row.id

-- at most one of the rows has each name
abbrev pub AreNamedOnce : List ControllerRow → Type 0
AreNamedOnce rows = (name : List ℕ) → AtMostOne (λ (row : ControllerRow). same_text row.name name) rows

-- of a record's rows each may follow those before it
sound-judged : (n : ℕ) (rows : List ControllerRow) → AreSoundRows n rows → AreJudged id_of (is_sound_row n) rows
sound-judged n rows sound =
    record { limit = sound.limit; each = each-weaker (IsSoundRow n) (λ (row : ControllerRow). is_sound_row n row ≡ true) rows (row-sound n) sound.each; rising = two-rise rows sound.rising }

-- such rows are a record's, where they have names of their own
judged-sound : (n : ℕ) (rows : List ControllerRow) → AreJudged id_of (is_sound_row n) rows → AreNamedOnce rows → AreSoundRows n rows
judged-sound n rows judged names = record {
  limit = judged.limit;
  each = each-weaker (λ (row : ControllerRow). is_sound_row n row ≡ true) (IsSoundRow n) rows (sound-row n) judged.each;
  rising = rise-two rows judged.rising;
  names = names;
}

-- the first rows of a record's are a record's
pub sound-take : (n : ℕ) (rows : List ControllerRow) (k : ℕ) → AreSoundRows n rows → AreSoundRows n (take k rows)
sound-take n rows k sound =
    judged-sound n (take k rows) (judged-take id_of (is_sound_row n) rows k (sound-judged n rows sound))
    (λ name. let same = λ (row : ControllerRow). same_text row.name name in AtMostOne-front same (take k rows) (drop k rows) (subst (AtMostOne same) (sym (take-append-drop k rows)) (sound.names name)))

-- no row before the last of a record's has its name
pub new-name : (n : ℕ) (rows : List ControllerRow) (row : ControllerRow) → AreSoundRows n (rows ++ row ∷ []) → find (λ (r : ControllerRow). same_text r.name row.name) rows ≡ None
new-name n rows row sound = AtMostOne-last (λ (r : ControllerRow). same_text r.name row.name) rows row (sound.names row.name) ((same_text-tells row.name row.name).1 refl)

-- ---- the walk

-- each row before a place may follow those before it, this is their last id, and these are their names, each there once
pub record SoFar (n : ℕ) (rows : List ControllerRow) (place last : ℕ) (has : List ℕ → Bool) : Type 0 where
  pub walk : judging.SoFar id_of (is_sound_row n) (take place rows) place last
  pub once : AreNamedOnce (take place rows)
  pub names : (name : List ℕ) → has name ≡ list_any (λ (row : ControllerRow). same_text row.name name) (take place rows)

-- the walk goes on so after a row that may follow and has a new name, once that name is put in
pub goes_on : (n : ℕ) (rows : List ControllerRow) (place last : ℕ) (has now_has : List ℕ → Bool) (row : ControllerRow) → SoFar n rows place last has → place < length rows → row ≡ get_or rows place row
    → may_follow n place last row ≡ true → has row.name ≡ false → ((name : List ℕ) → now_has name ≡ (same_text row.name name || has name)) → SoFar n rows (place + 1) row.id now_has
goes_on n rows place last has now_has row so inside is follows absent adds =
    let more : take (place + 1) rows ≡ take place rows ++ row ∷ [] = one-more rows place row inside is in
    let same : ControllerRow → Bool = λ r. same_text r.name row.name in
    let none = none-from_is_some (find same (take place rows)) (sym (any-find same (take place rows)) ∙ sym (so.names row.name) ∙ absent) in
    record {
      walk = subst (λ (l : List ControllerRow). judging.SoFar id_of (is_sound_row n) l (place + 1) row.id) (sym more) (judging.goes_on id_of (is_sound_row n) (take place rows) place last row so.walk follows);
      once = subst AreNamedOnce (sym more) (λ name. AtMostOne-append (λ (r : ControllerRow). same_text r.name name) (take place rows) row (so.once name)
          (λ e. subst (λ k. find (λ (r : ControllerRow). same_text r.name k) (take place rows) ≡ None) ((same_text-tells row.name name).0 e) none));
      names = λ name.
          let among : List ControllerRow → Bool = list_any (λ (r : ControllerRow). same_text r.name name) in
          adds name ∙ ap (λ b. same_text row.name name || b) (so.names name) ∙ or_comm (same_text row.name name) (among (take place rows)) ∙ ap (λ b. among (take place rows) || b) (sym (or-false (same_text row.name name)))
          ∙ sym (list_any-append (λ (r : ControllerRow). same_text r.name name) (take place rows) (row ∷ [])) ∙ ap among (sym more);
    }

-- where with the row at a place the rows aren't a record's, that row is the first refused one
refused-there : (n : ℕ) (rows : List ControllerRow) (place last : ℕ) (has : List ℕ → Bool) (row : ControllerRow) → SoFar n rows place last has → place < length rows → row ≡ get_or rows place row
    → (AreSoundRows n (take place rows ++ row ∷ []) → ⊥) → IsFirstRefused (AreSoundRows n) rows (place + 1)
refused-there n rows place last has row so inside is fails =
    let back : place ≡ place + 1 - 1 = omega arith in
    record {
      from = omega arith;
      to = omega arith;
      before = subst (λ k. AreSoundRows n (take k rows)) back (judged-sound n (take place rows) so.walk.judged so.once);
      refused = λ whole. fails (subst (AreSoundRows n) (one-more rows place row inside is) whole);
    }

-- so is a row that may not follow those before it, if its id isn't 0
pub refused-rules : (n : ℕ) (rows : List ControllerRow) (place last : ℕ) (has : List ℕ → Bool) (row : ControllerRow) → SoFar n rows place last has → place < length rows → row ≡ get_or rows place row
    → 0 < row.id → may_follow n place last row ≡ false → IsFirstRefused (AreSoundRows n) rows (place + 1)
refused-rules n rows place last has row so inside is from fails =
    refused-there n rows place last has row so inside is
    (λ whole. false≢true (sym fails ∙ follows id_of (is_sound_row n) (take place rows) place last row so.walk from (sound-judged n (take place rows ++ row ∷ []) whole)))

-- and one whose name an earlier row has
pub refused-name : (n : ℕ) (rows : List ControllerRow) (place last : ℕ) (has : List ℕ → Bool) (row : ControllerRow) → SoFar n rows place last has → place < length rows → row ≡ get_or rows place row
    → has row.name ≡ true → IsFirstRefused (AreSoundRows n) rows (place + 1)
refused-name n rows place last has row so inside is there =
    refused-there n rows place last has row so inside is
    (λ whole. true≢false (sym there ∙ so.names row.name ∙ any-find_none (λ (r : ControllerRow). same_text r.name row.name) (take place rows) (new-name n (take place rows) row whole)))

-- at the end of the rows they are all a record's
pub ends : (n : ℕ) (rows : List ControllerRow) (place last : ℕ) (has : List ℕ → Bool) → SoFar n rows place last has → length rows ≤ place → AreSoundRows n rows
ends n rows place last has so end = subst (AreSoundRows n) (take_all place rows end) (judged-sound n (take place rows) so.walk.judged so.once)
