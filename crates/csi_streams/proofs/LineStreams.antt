-- The lines of a stream: they are the same whoever reads them.
use Rattle.std.proofs.Common.{◌≡◌, ◌∙◌, sym, ap, subst, refl, ℕ, ◌≤◌, List, [], ◌∷◌, ◌++◌, length, Some, eq-eqb, eqb, true, false, Bool, arith, length-append, append_assoc}
use Rattle.std.specs.Prelude.{◌≢◌, slice_get}
use Rattle.std.specs.List.{flat_map, AllByRecursion}
use Rattle.std.proofs.lemmas.Bool.{false≢true, eqb-true}
use Rattle.std.proofs.lemmas.List.{append-nil}
use Rattle.std.proofs.lemmas.List.Concat.{flat_map-append}
use Rattle.csi_streams.specs.Public.LinesOf.{HasNoNewline, with_newline, LinesOf}

-- a line and its newline, and more bytes
with_newline-more : (line more : List ℕ) → with_newline line ++ more ≡ line ++ 10 ∷ more
with_newline-more line more = append_assoc line (10 ∷ []) more

-- no list without a newline has one
no_newline-in : (line more : List ℕ) → HasNoNewline (line ++ 10 ∷ more) → ⊥
no_newline-in [] more none = none.0 refl
no_newline-in (b ∷ line) more none = no_newline-in line more none.1

-- two lines that stand with their newlines at the front of the same bytes are one, and the same is behind them
same_line : (line other more back : List ℕ) → HasNoNewline line → HasNoNewline other → line ++ 10 ∷ more ≡ other ++ 10 ∷ back → (line ≡ other) × (more ≡ back)
same_line [] [] more back none none' whole = (refl, cc)
same_line [] (c ∷ other) more back none none' whole = let e : 10 ≡ c = cc in absurd (none'.0 (sym e))
same_line (b ∷ line) [] more back none none' whole = let e : b ≡ 10 = cc in absurd (none.0 e)
same_line (b ∷ line) (c ∷ other) more back none none' whole =
    let e : b ≡ c = cc in
    let rest : line ++ 10 ∷ more ≡ other ++ 10 ∷ back = cc in
    let same = same_line line other more back none.1 none'.1 rest in
    (ap (λ x. x ∷ line) e ∙ ap (λ xs. c ∷ xs) same.0, same.1)

-- bytes without a newline are no lines, and a rest
pub no_lines : (bytes : List ℕ) (lines : List (List ℕ)) (rest : List ℕ) → HasNoNewline bytes → LinesOf bytes lines rest → (lines ≡ []) × (bytes ≡ rest)
no_lines bytes [] rest none of = (refl, of.whole)
no_lines bytes (l ∷ ls) rest none of =
    absurd (no_newline-in l (flat_map with_newline ls ++ rest) (subst HasNoNewline (of.whole ∙ append_assoc (with_newline l) (flat_map with_newline ls) rest ∙ with_newline-more l (flat_map with_newline ls ++ rest)) none))

-- lines that stand at the front of a stream are its first ones, and the others are those of what is behind them
pub behind_lines : (done lines : List (List ℕ)) (more rest : List ℕ) → AllByRecursion HasNoNewline done → LinesOf (flat_map with_newline done ++ more) lines rest → (later : List (List ℕ)) × (lines ≡ done ++ later) × LinesOf more later rest
behind_lines [] lines more rest each of = (lines, refl, of)
behind_lines (d ∷ ds) [] more rest each of =
    absurd (no_newline-in d (flat_map with_newline ds ++ more) (subst HasNoNewline (sym of.whole ∙ append_assoc (with_newline d) (flat_map with_newline ds) more ∙ with_newline-more d (flat_map with_newline ds ++ more)) of.open_end))
behind_lines (d ∷ ds) (l ∷ ls) more rest each of =
    let back : List ℕ = flat_map with_newline ds ++ more in
    let front : List ℕ = flat_map with_newline ls ++ rest in
    let together : d ++ 10 ∷ back ≡ l ++ 10 ∷ front =
    sym (append_assoc (with_newline d) (flat_map with_newline ds) more ∙ with_newline-more d back) ∙ of.whole ∙ append_assoc (with_newline l) (flat_map with_newline ls) rest ∙ with_newline-more l front in
    let same = same_line d l back front each.0 of.each.0 together in
    let others = behind_lines ds ls more rest each.1 (record { whole = same.1; each = of.each.1; open_end = of.open_end }) in
    (others.0, ap (λ x. x ∷ ls) (sym same.0) ∙ ap (λ xs. d ∷ xs) others.1, others.2)

-- bytes are lines and a rest in one way
pub one_way : (bytes : List ℕ) (lines others : List (List ℕ)) (rest left : List ℕ) → LinesOf bytes lines rest → LinesOf bytes others left → (lines ≡ others) × (rest ≡ left)
one_way bytes lines others rest left first second =
    let more = behind_lines lines others rest left first.each (subst (λ all. LinesOf all others left) first.whole second) in
    let none = no_lines rest more.0 left first.open_end more.2 in
    (sym (append-nil lines) ∙ ap (λ later. lines ++ later) (sym none.0) ∙ sym more.1, none.1)

-- each list of bytes is lines and a rest
pub lines_of : (bytes : List ℕ) → (lines : List (List ℕ)) × (rest : List ℕ) × LinesOf bytes lines rest
lines_of [] = ([], [], record { whole = refl; each = tt; open_end = tt })
lines_of (b ∷ bytes) = by (eqb b 10) refl (lines_of bytes)
  where
    by : (is : Bool) → eqb b 10 ≡ is → (lines : List (List ℕ)) × (rest : List ℕ) × LinesOf bytes lines rest → (lines : List (List ℕ)) × (rest : List ℕ) × LinesOf (b ∷ bytes) lines rest
    by true e found = ([] ∷ found.0, found.1, record { whole = ap (λ x. x ∷ bytes) (eqb-true b 10 e) ∙ ap (λ xs. 10 ∷ xs) found.2.whole; each = (tt, found.2.each); open_end = found.2.open_end })
    by false e found = in_first found.0 found.1 found.2
      where
        other : b ≢ 10
        other is = absurd (false≢true (sym e ∙ eq-eqb b 10 is))

        in_first : (lines : List (List ℕ)) (rest : List ℕ) → LinesOf bytes lines rest → (lines : List (List ℕ)) × (rest : List ℕ) × LinesOf (b ∷ bytes) lines rest
        in_first [] rest of = ([], b ∷ rest, record { whole = ap (λ xs. b ∷ xs) of.whole; each = tt; open_end = (other, of.open_end) })
        in_first (l ∷ ls) rest of = ((b ∷ l) ∷ ls, rest, record { whole = ap (λ xs. b ∷ xs) of.whole; each = ((other, of.each.0), of.each.1); open_end = of.open_end })

-- where bytes without a newline stand at the front, the first line is no shorter, or the rest, if it comes first
pub first_is_longer : (front back : List ℕ) (lines : List (List ℕ)) (rest : List ℕ) → HasNoNewline front → LinesOf (front ++ back) lines rest → (line : List ℕ) × (slice_get (lines ++ rest ∷ []) 0 ≡ Some line) × (length front ≤ length line)
first_is_longer front back [] rest none of = (rest, refl, omega (arith, ap length of.whole, length-append front back))
first_is_longer front back (l ∷ ls) rest none of =
    (l, refl, reaches front l back (flat_map with_newline ls ++ rest) none (of.whole ∙ append_assoc (with_newline l) (flat_map with_newline ls) rest ∙ with_newline-more l (flat_map with_newline ls ++ rest)))
  where
    reaches : (front line back more : List ℕ) → HasNoNewline front → front ++ back ≡ line ++ 10 ∷ more → length front ≤ length line
    reaches [] line back more none whole = omega arith
    reaches (b ∷ front) [] back more none whole = let e : b ≡ 10 = cc in absurd (none.0 e)
    reaches (b ∷ front) (c ∷ line) back more none whole = let e : front ++ back ≡ line ++ 10 ∷ more = cc in omega (arith, reaches front line back more none.1 e)

-- there are no more lines than bytes
pub lines_few : (lines : List (List ℕ)) → length lines ≤ length (flat_map with_newline lines)
lines_few [] = omega arith
lines_few (l ∷ ls) = omega (arith, lines_few ls, length-append l (10 ∷ []), length-append (with_newline l) (flat_map with_newline ls))

-- lines and one more
pub lines-push : (lines : List (List ℕ)) (line behind : List ℕ) → flat_map with_newline (lines ++ line ∷ []) ++ behind ≡ flat_map with_newline lines ++ (with_newline line ++ behind)
lines-push lines line behind =
    ap (λ bytes. bytes ++ behind) (flat_map-append with_newline lines (line ∷ []) ∙ ap (λ bytes. flat_map with_newline lines ++ bytes) (append-nil (with_newline line)))
    ∙ append_assoc (flat_map with_newline lines) (with_newline line) behind
