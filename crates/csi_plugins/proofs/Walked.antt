-- A list that is gone through in place, element by element: what it was and is, told by one entry for each.
use Rattle.std.proofs.Common.{◌≡◌, ◌∙◌, ◌<◌, ◌≤◌, ◌+◌, ◌-◌, ℕ, zero, suc, List, [], ◌∷◌, ◌++◌, length, map, take, drop, set, get_or, ap, ap₂, refl, sym, subst, arith}
use Rattle.std.specs.List.{AllByRecursion, AllZip}
use Rattle.std.proofs.lemmas.List.{map_push, length-map, length-take-le, take_more, drop_more, take_all, append_assoc, append-nil}
use Rattle.csi_types.proofs.Each.{each-append_one}

module _ {K E : Type 0} (before after : E → K) (P : E → Type 0) (olds : List K) where
  -- the first ones were gone through, and the others are as they were
  pub record Walked (news : List K) (count : ℕ) (entries : List E) : Type 0 where
    pub within : count ≤ length olds
    pub olds_are : map before entries ≡ take count olds
    pub news_are : news ≡ map after entries ++ drop count olds
    pub each : AllByRecursion P entries

  -- none yet
  pub walked-none : Walked olds 0 []
  walked-none = record { within = omega arith; olds_are = refl; news_are = refl; each = tt }

  module _ (news : List K) (count : ℕ) (entries : List E) (walked : Walked news count entries) where
    -- there are as many entries
    long : length (map after entries) ≡ count
    long =
        let a = length-map entries after in
        let b = length-map entries before in
        let d = ap length walked.olds_are in
        let e = length-take-le count olds walked.within in
        omega (arith, a, b, d, e)

    -- what stands next is as it was
    pub walked-here : (d : K) → count < length olds → get_or news count d ≡ get_or olds count d
    walked-here d inside =
        ap (λ (ks : List K). get_or ks count d) (walked.news_are ∙ ap (λ (ks : List K). map after entries ++ ks) (drop_more olds count d inside))
        ∙ at (map after entries) (drop (count + 1) olds) (get_or olds count d) count long
      where
        at : (front behind : List K) (x : K) (n : ℕ) → length front ≡ n → get_or (front ++ x ∷ behind) n d ≡ x
        at [] behind x zero is = refl
        at [] behind x (suc n) is = absurd (omega (arith, is))
        at (y ∷ front) behind x zero is = absurd (omega (arith, is))
        at (y ∷ front) behind x (suc n) is = at front behind x n (omega (arith, is))

    -- the list with another in its place
    pub set-here : (d x : K) → count < length olds → set news count x ≡ map after entries ++ x ∷ drop (count + 1) olds
    set-here d x inside =
        ap (λ (ks : List K). set ks count x) (walked.news_are ∙ ap (λ (ks : List K). map after entries ++ ks) (drop_more olds count d inside))
        ∙ at (map after entries) (drop (count + 1) olds) (get_or olds count d) count long
      where
        at : (front behind : List K) (y : K) (n : ℕ) → length front ≡ n → set (front ++ y ∷ behind) n x ≡ front ++ x ∷ behind
        at [] behind y zero is = refl
        at [] behind y (suc n) is = absurd (omega (arith, is))
        at (z ∷ front) behind y zero is = absurd (omega (arith, is))
        at (z ∷ front) behind y (suc n) is = ap (λ (ks : List K). z ∷ ks) (at front behind y n (omega (arith, is)))

    -- one more
    pub walked-next : (d : K) (entry : E) → count < length olds → before entry ≡ get_or olds count d → P entry → Walked (set news count (after entry)) (count + 1) (entries ++ entry ∷ [])
    walked-next d entry inside is holds = record {
      within = omega (arith, inside);
      olds_are = map_push before entries entry ∙ ap₂ (λ (ks : List K) (k : K). ks ++ k ∷ []) walked.olds_are is ∙ sym (take_more olds count d inside);
      news_are = set-here d (after entry) inside ∙ sym (ap (λ (ks : List K). ks ++ drop (count + 1) olds) (map_push after entries entry) ∙ append_assoc (map after entries) (after entry ∷ []) (drop (count + 1) olds));
      each = each-append_one P entries entry walked.each holds;
    }

    -- all of them
    pub walked-olds : length olds ≤ count → map before entries ≡ olds
    walked-olds end = walked.olds_are ∙ take_all count olds end

    pub walked-news : length olds ≤ count → map after entries ≡ news
    walked-news end = sym (walked.news_are ∙ ap (λ (ks : List K). map after entries ++ ks) (none olds count end) ∙ append-nil (map after entries))
      where
        none : (ks : List K) (n : ℕ) → length ks ≤ n → drop n ks ≡ []
        none [] zero le = refl
        none [] (suc n) le = refl
        none (k ∷ ks) zero le = absurd (omega (arith, le))
        none (k ∷ ks) (suc n) le = none ks n (omega (arith, le))

  -- where it stops, what each was and is
  pub zipped : (R : K → K → Type 0) → ((k : K) → R k k) → ((entry : E) → P entry → R (before entry) (after entry)) → (entries : List E) → AllByRecursion P entries → (behind : List K)
      → AllZip R (map before entries ++ behind) (map after entries ++ behind)
  zipped R same from [] each [] = tt
  zipped R same from [] each (k ∷ behind) = (same k, zipped R same from [] each behind)
  zipped R same from (entry ∷ entries) each behind = (from entry each.0, zipped R same from entries each.1 behind)

  pub walked-zipped : (R : K → K → Type 0) → ((k : K) → R k k) → ((entry : E) → P entry → R (before entry) (after entry)) → (news : List K) (count : ℕ) (entries : List E) → Walked news count entries → AllZip R olds news
  walked-zipped R same from news count entries walked =
      subst (λ (ks : List K). AllZip R ks news) (ap (λ (ks : List K). ks ++ drop count olds) walked.olds_are ∙ whole olds count)
      (subst (AllZip R (map before entries ++ drop count olds)) (sym walked.news_are) (zipped R same from entries walked.each (drop count olds)))
    where
      whole : (ks : List K) (n : ℕ) → take n ks ++ drop n ks ≡ ks
      whole ks zero = refl
      whole [] (suc n) = refl
      whole (k ∷ ks) (suc n) = ap (λ (more : List K). k ∷ more) (whole ks n)
