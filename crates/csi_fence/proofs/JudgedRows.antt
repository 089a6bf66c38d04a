-- Rows that are judged in order, of which each may follow those before it.
use Rattle.std.proofs.Common.{◌≡◌, ◌<◌, ◌≤◌, ◌+◌, ℕ, length, get_or, take, drop, Bool, true, List, [], ◌∷◌, ◌++◌, sym, ◌∙◌, ap, subst, arith}
use Rattle.std.specs.Prelude.{◌&&◌, nat_lt}
use Rattle.std.specs.List.{AllByRecursion}
use Rattle.std.proofs.lemmas.Bool.{and_from, and_parts, lt-ltb, ltb-true}
use Rattle.std.proofs.lemmas.List.{length-append, length_push, take-append-drop, take_more}
use Rattle.csi_types.specs.Model.Members.{EachTwo}
use Rattle.csi_types.proofs.Each.{each-append_one, each-weaker}
use Rattle.csi_types.proofs.Members.{all_of, among-append, among-last, each_of}
use Rattle.csi_types.proofs.Pairs.{two-append}
use Rattle.csi_fence.proofs.RisingRows.{IsBefore}

-- what is so of each of a list is so of its last
pub each-last : {X : Type 0} (P : X → Type 0) (xs : List X) (x : X) → AllByRecursion P (xs ++ x ∷ []) → P x
each-last P xs x all = each_of P (xs ++ x ∷ []) x all (among-last xs x)

-- what is so of each of a list is so of each of a front of it
pub each-front : {X : Type 0} (P : X → Type 0) (xs ys : List X) → AllByRecursion P (xs ++ ys) → AllByRecursion P xs
each-front P xs ys all = all_of P xs (λ x among. each_of P (xs ++ ys) x all (among-append xs ys x among))

-- and of any two
two-front : {X : Type 0} (R : X → X → Type 0) (xs ys : List X) → EachTwo R (xs ++ ys) → EachTwo R xs
two-front R [] ys two = tt
two-front R (x ∷ xs) ys two = (each-front (R x) xs ys two.0, two-front R xs ys two.1)

-- of any two that end with one, each before that is so with it
two-last : {X : Type 0} (R : X → X → Type 0) (xs : List X) (x : X) → EachTwo R (xs ++ x ∷ []) → AllByRecursion (λ y. R y x) xs
two-last R [] x two = tt
two-last R (y ∷ ys) x two = (each-last (R y) ys x two.0, two-last R ys x two.1)

-- the items up to a place and with it are those before it, and then the item there
pub one-more : {X : Type 0} (xs : List X) (place : ℕ) (x : X) → place < length xs → x ≡ get_or xs place x → take (place + 1) xs ≡ take place xs ++ x ∷ []
one-more {X} xs place x inside is = take_more xs place x inside ∙ ap (λ (y : X). take place xs ++ y ∷ []) (sym is)

module _ {S : Type 0} (id : S → ℕ) (fits : S → Bool) where
  -- the row may follow so many others, the last of which has this id (0 where there is none)
  abbrev pub may_follow : ℕ → ℕ → S → Bool
  may_follow count last row = nat_lt count 4096 && nat_lt last (id row) && fits row

  -- rows of which each may follow those before it
  pub record AreJudged (rows : List S) : Type 0 where
    pub limit : length rows ≤ 4096
    pub each : AllByRecursion (λ (row : S). fits row ≡ true) rows
    pub rising : EachTwo (IsBefore id) rows

  -- the rows before a place are such, and this is their greatest id, 0 where there is none
  pub record SoFar (rows : List S) (place last : ℕ) : Type 0 where
    pub judged : AreJudged rows
    pub count : length rows ≡ place
    pub above : AllByRecursion (λ (row : S). id row ≤ last) rows
    pub least : (n : ℕ) → 0 < n → AllByRecursion (λ (row : S). id row < n) rows → last < n

  -- the walk goes on so with a row that may follow
  pub goes_on : (rows : List S) (place last : ℕ) (row : S) → SoFar rows place last → may_follow place last row ≡ true → SoFar (rows ++ row ∷ []) (place + 1) (id row)
  goes_on rows place last row so follows =
      let all = and_parts (nat_lt place 4096 && nat_lt last (id row)) (fits row) follows in
      let places = and_parts (nat_lt place 4096) (nat_lt last (id row)) all.0 in
      let room : place < 4096 = ltb-true place 4096 places.0 in
      let below : last < id row = ltb-true last (id row) places.1 in
      let long : length (rows ++ row ∷ []) ≡ place + 1 = length_push rows row ∙ ap (λ (k : ℕ). k + 1) so.count in
      let most = each-weaker (λ (r : S). id r ≤ last) (λ (r : S). id r < id row) rows (λ r le. omega (arith, le, below)) so.above in
      record {
        judged = record {
          limit = omega (arith, room, long);
          each = each-append_one (λ (r : S). fits r ≡ true) rows row so.judged.each all.1;
          rising = two-append (IsBefore id) rows row so.judged.rising (λ r among. each_of (λ (r : S). id r < id row) rows r most among);
        };
        count = long;
        above = each-append_one (λ (r : S). id r ≤ id row) rows row (each-weaker (λ (r : S). id r < id row) (λ (r : S). id r ≤ id row) rows (λ r lt. omega (arith, lt)) most) (omega arith);
        least = λ n from each. each-last (λ (r : S). id r < n) rows row each;
      }

  -- and a row with which they are such may follow, if its id isn't 0
  pub follows : (rows : List S) (place last : ℕ) (row : S) → SoFar rows place last → 0 < id row → AreJudged (rows ++ row ∷ []) → may_follow place last row ≡ true
  follows rows place last row so from whole =
      let room : place < 4096 = let limit = whole.limit in let long = length_push rows row in let count = so.count in omega (arith, limit, long, count) in
      and_from (nat_lt place 4096 && nat_lt last (id row)) (fits row)
      (and_from (nat_lt place 4096) (nat_lt last (id row)) (lt-ltb place 4096 room) (lt-ltb last (id row) (so.least (id row) from (two-last (IsBefore id) rows row whole.rising))))
      (each-last (λ (r : S). fits r ≡ true) rows row whole.each)

  -- the first of such rows are such
  pub judged-take : (rows : List S) (k : ℕ) → AreJudged rows → AreJudged (take k rows)
  judged-take rows k judged = front (take k rows) (drop k rows) (subst AreJudged (sym (take-append-drop k rows)) judged)
    where
      front : (first more : List S) → AreJudged (first ++ more) → AreJudged first
      front first more whole = record {
        limit = let limit = whole.limit in let long = length-append first more in omega (arith, limit, long);
        each = each-front (λ (r : S). fits r ≡ true) first more whole.each;
        rising = two-front (IsBefore id) first more whole.rising;
      }
