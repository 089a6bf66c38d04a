-- What holds of entries with keys, after one was changed or put in, and after some were taken out.
use Rattle.csi_orchestrator.proofs.Words.{◌≡◌, ℕ, List, [], ◌∷◌, Bool, true, false, cond, map, refl, sym, ◌∙◌, ap}
use Rattle.csi_orchestrator.proofs.Words.{subst, ◌||◌, AllByRecursion, list_any, EachTwo, same_text, change_by, put_by}
use Rattle.csi_orchestrator.proofs.Words.{arith}
use Rattle.csi_orchestrator.proofs.Lemmas.{each-map, same_text-tells}

-- no two entries have one key
abbrev pub HaveDistinctKeys : {X : Type 0} → (X → List ℕ) → List X → Type 0
HaveDistinctKeys key xs = EachTwo (λ a b. same_text (key a) (key b) ≡ false) xs

-- both ways of a test
pub by_if : {Y : Type 0} (P : Y → Type 0) (b : Bool) (x y : Y) → (b ≡ true → P x) → (b ≡ false → P y) → P (cond b x y)
by_if P true x y f g = f refl
by_if P false x y f g = g refl

-- an entry is changed
pub each-change : {X : Type 0} (P : X → Type 0) (key : X → List ℕ) (text : List ℕ) (change : X → X) (xs : List X) → ((x : X) → P x → P (change x)) → AllByRecursion P xs
    → AllByRecursion P (change_by key text change xs)
each-change P key text change [] keeps all = tt
each-change P key text change (x ∷ xs) keeps all = grind (arith, (each-change P key text change xs keeps all.1))

-- entries stay apart where one is changed and keeps its text
pub apart-change : {X : Type 0} (key : X → List ℕ) (text : List ℕ) (change : X → X) (xs : List X) → ((x : X) → key (change x) ≡ key x) → HaveDistinctKeys key xs → HaveDistinctKeys key (change_by key text change xs)
apart-change key text change [] same apart = tt
apart-change key text change (x ∷ xs) same apart = by (same_text (key x) text) (apart-change key text change xs same apart.1)
  where
    by : (b : Bool) → HaveDistinctKeys key (change_by key text change xs) → HaveDistinctKeys key (cond b (change x ∷ xs) (x ∷ change_by key text change xs))
    by true rest = (subst (λ t. AllByRecursion (λ b. same_text t (key b) ≡ false) xs) (sym (same x)) apart.0, apart.1)
    by false rest = (each-change (λ b. same_text (key x) (key b) ≡ false) key text change xs (λ b e. ap (same_text (key x)) (same b) ∙ e) apart.0, rest)

-- a test that the change makes no difference to
pub any-change : {X : Type 0} (q : X → Bool) (key : X → List ℕ) (text : List ℕ) (change : X → X) (xs : List X) → ((x : X) → key x ≡ text → q (change x) ≡ q x)
    → list_any q (change_by key text change xs) ≡ list_any q xs
any-change q key text change [] same = refl
any-change q key text change (x ∷ xs) same = grind (arith, same_text-tells, (any-change q key text change xs same))

-- an entry is put in
pub each-put : {X : Type 0} (P : X → Type 0) (key : X → List ℕ) (entry : X) (xs : List X) → P entry → AllByRecursion P xs → AllByRecursion P (put_by key entry xs)
each-put P key entry [] own all = (own, tt)
each-put P key entry (x ∷ xs) own all = grind (arith, (each-put P key entry xs own all.1))

-- entries stay apart where one is put in
pub apart-put : {X : Type 0} (key : X → List ℕ) (entry : X) (xs : List X) → HaveDistinctKeys key xs → HaveDistinctKeys key (put_by key entry xs)
apart-put key entry [] apart = (tt, tt)
apart-put key entry (x ∷ xs) apart = by (same_text (key x) (key entry)) refl (apart-put key entry xs apart.1)
  where
    by : (b : Bool) → same_text (key x) (key entry) ≡ b → HaveDistinctKeys key (put_by key entry xs) → HaveDistinctKeys key (cond b (entry ∷ xs) (x ∷ put_by key entry xs))
    by true e rest = (subst (λ t. AllByRecursion (λ b. same_text t (key b) ≡ false) xs) ((same_text-tells (key x) (key entry)).0 e) apart.0, apart.1)
    by false e rest = (each-put (λ b. same_text (key x) (key b) ≡ false) key entry xs e apart.0, rest)

-- a test that no entry of this text passes
pub any-put : {X : Type 0} (q : X → Bool) (key : X → List ℕ) (entry : X) (xs : List X) → ((x : X) → key x ≡ key entry → q x ≡ false) → list_any q (put_by key entry xs) ≡ list_any q xs
any-put q key entry [] fails = ap (λ b. b || false) (fails entry refl)
any-put q key entry (x ∷ xs) fails = grind (arith, same_text-tells, (any-put q key entry xs fails))

-- a function that leaves the keys leaves each text its one entry
pub apart-map : {X : Type 0} (key : X → List ℕ) (f : X → X) (xs : List X) → ((x : X) → key (f x) ≡ key x) → HaveDistinctKeys key xs → HaveDistinctKeys key (map f xs)
apart-map key f [] same apart = tt
apart-map key f (x ∷ xs) same apart = (
  subst (λ t. AllByRecursion (λ b. same_text t (key b) ≡ false) (map f xs)) (sym (same x))
      (each-map (λ b. same_text (key x) (key b) ≡ false) (λ b. same_text (key x) (key b) ≡ false) f xs (λ b e. ap (same_text (key x)) (same b) ∙ e) apart.0),
  apart-map key f xs same apart.1,
)
