-- A session that is raised in a plugin that is served, without a call: what becomes of its record, and what its store has to be given. This
-- profile's own.
use Rattle.std.specs.Prelude.{◌≡◌, ℕ, nat_lt, not, Bool, if◌then◌else◌, List, [], ◌∷◌, ◌++◌, map, filter}
use Rattle.csi_stores.specs.Public.Part.{StoredPart, StoredChange, put_all, take_all}
use Rattle.csi_service.specs.Public.Plugins.{View, record_parts, AreFit}

-- the session is later than the greatest that came to the plugin
abbrev pub is_later : {P Own R State : Type 0} → View P Own R State → ℕ → P → Bool
is_later view session plugin = nat_lt (view.numbers plugin).1 session

-- the head of its record, with this session
abbrev pub head_in : {P Own R State : Type 0} → View P Own R State → ℕ → P → StoredPart
head_in view session plugin = record { key = 0; value = view.head (view.own plugin) ((view.numbers plugin).0, session) }

-- the parts of its record, once the session was raised: a later one is in the head, and the rows that stay are left; else all is as it was
abbrev pub raised_parts : {P Own R State : Type 0} → View P Own R State → ℕ → P → List StoredPart
raised_parts view session plugin =
    if is_later view session plugin then head_in view session plugin ∷ map view.part (filter view.stays (view.rows plugin)) else record_parts view plugin

-- what its store has to be given: that head, and what takes out the rows that don't stay; else nothing
abbrev pub raise_changes : {P Own R State : Type 0} → View P Own R State → ℕ → P → List StoredChange
raise_changes view session plugin =
    if is_later view session plugin
    then put_all (head_in view session plugin ∷ []) ++ take_all (map (λ row. (view.part row).key) (filter (λ row. not (view.stays row)) (view.rows plugin)))
    else []

-- The session was raised in a plugin: of each state that it showed it shows the raised one, and its record has these parts. What never
-- changes stays, and rows within their limits are within them still.
pub record IsRaised {P Own R State : Type 0} (view : View P Own R State) (session : ℕ) (old new : P) : Type 0 where
  pub own : view.own new ≡ view.own old
  pub shows : (state : State) → view.Shows old state → view.Shows new (view.raised session state)
  pub parts : record_parts view new ≡ raised_parts view session old
  pub fit : AreFit view old → AreFit view new
