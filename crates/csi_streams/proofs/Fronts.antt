-- What the bytes that are kept of a stream begin with.
use Rattle.std.proofs.Common.{◌≡◌, ◌∙◌, inl, inr, sym, ap, subst, ℕ, ◌+◌, ◌-◌, ◌<◌, ◌≤◌, zero, suc, List, [], ◌∷◌, ◌++◌, length, take, drop, slice_index, arith, length-drop, append_assoc}
use Rattle.std.specs.Prelude.{◌≢◌}
use Rattle.std.proofs.lemmas.Bool.{cases_lt}
use Rattle.std.proofs.lemmas.List.{take-append-drop, drop_more, get_or-drop, length-take-le, take_all}
use Rattle.csi_streams.specs.Public.LinesOf.{HasNoNewline, IsShort}
use Rattle.csi_streams.specs.Public.Lining.{HasLine, HasLongLine}
use Rattle.csi_streams.specs.Private.Looked.{IsLookedThrough}

-- bytes that were looked at one by one have no newline in them
none_in : (n : ℕ) (bytes : List ℕ) → ((k : ℕ) → k < n → k < length bytes → slice_index bytes k ≢ 10) → HasNoNewline (take n bytes)
none_in zero bytes none = tt
none_in (suc n) [] none = tt
none_in (suc n) (b ∷ bytes) none = (none 0 (omega arith) (omega arith), none_in n bytes (λ k below inside. none (suc k) (omega arith) (omega arith)))

-- the search went on from where it had come to
pub looked_further : (bytes now : List ℕ) (len start looked to : ℕ) → IsLookedThrough bytes len start looked → now ≡ bytes → length now ≡ len → looked ≤ to → to ≤ length now → ((k : ℕ) → looked ≤ k → k < to → slice_index now k ≢ 10) → IsLookedThrough bytes (length bytes) start to
looked_further bytes now len start looked to before same many on within none = record {
  ordered = omega (arith, before.ordered, on);
  within = omega (arith, within, ap length same);
  none = λ k above below is. elim (cases_lt k looked) [ inl k-before ↦ before.none k above k-before is | inr k-behind ↦ none k k-behind below (ap (λ (all : List ℕ). slice_index all k) same ∙ is) ];
}

module _ (bytes : List ℕ) (start to : ℕ) (looked : IsLookedThrough bytes (length bytes) start to) where
  -- what is kept
  abbrev kept : List ℕ
  kept = drop start bytes

  -- how many of those bytes were looked at
  abbrev n : ℕ
  n = to - start

  -- no newline is in them
  none_looked : HasNoNewline (take n kept)
  none_looked = none_in n kept (λ k below inside is. looked.none (start + k) (omega arith) (omega (arith, looked.ordered)) (sym (get_or-drop start bytes k 0) ∙ is))

  -- they are so many
  many : n ≤ length kept
  many = omega (arith, looked.ordered, looked.within, length-drop start bytes)

  -- they are too many
  pub long_front : 65536 < n → HasLongLine kept
  long_front long = (take n kept, drop n kept, sym (take-append-drop n kept), none_looked, omega (arith, length-take-le n kept many))

  -- a newline is behind them
  pub line_front : to < length bytes → slice_index bytes to ≡ 10 → n ≤ 65536 → (n < length kept) × HasLine kept (take n kept) (drop (n + 1) kept)
  line_front inside is short =
      let there : n < length kept = omega (arith, looked.ordered, length-drop start bytes) in
      let at : start + n ≡ to = omega (arith, looked.ordered) in
      let newline : slice_index kept n ≡ 10 = get_or-drop start bytes n 0 ∙ ap (slice_index bytes) at ∙ is in (
        there,
        (
          sym (take-append-drop n kept)
              ∙ ap (λ (back : List ℕ). take n kept ++ back) (drop_more kept n 0 there ∙ ap (λ (b : ℕ). b ∷ drop (n + 1) kept) newline)
              ∙ sym (append_assoc (take n kept) (10 ∷ []) (drop (n + 1) kept)),
          none_looked,
          omega (arith, length-take-le n kept many),
        ),
      )

  -- nothing is behind them
  pub part_front : length bytes ≤ to → n ≤ 65536 → HasNoNewline kept × IsShort kept
  part_front end short =
      let all : take n kept ≡ kept = take_all n kept (omega (arith, looked.ordered, looked.within, length-drop start bytes)) in
      (subst HasNoNewline all none_looked, omega (arith, looked.ordered, looked.within, length-drop start bytes))
