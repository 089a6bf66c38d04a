-- Which histories there are. This profile's own.
use Rattle.std.specs.Prelude.{◌≡◌, ℕ, ◌<◌, List, [], ◌∷◌, Some}
use Rattle.csi_types.specs.declared.number.Number.{Number}
use Rattle.csi_types.specs.declared.call.Call.{Call}
use Rattle.csi_types.specs.declared.call.Call.TheVariants as calls
use Rattle.csi_types.specs.Model.Number.{IsBefore}
use Rattle.csi_orchestrator.specs.Model.Thing.{Issued}
use Rattle.csi_orchestrator.specs.Model.History.{Item, Started, Lost, Forgotten, Sent, Accepted, Closed, Noted, History}
use Rattle.csi_orchestrator.specs.Model.Readings.{open_in, last_in}

-- what CreateVolume makes has the name for which it is sent
abbrev pub IsOfName : List ℕ → Call → Type 0
IsOfName name (calls.CreateVolume create required limit capabilities) = create ≡ name
IsOfName name call = Unit {0}

-- the number is after the last one, and of the same session
pub record IsNextNumber (last number : Number) : Type 0 where
  pub later : IsBefore last number
  pub same_session : last.session ≡ number.session

-- the open call of some name has this number
pub record IsOpen (items : List Item) (number : Number) : Type 0 where
  pub name : List ℕ
  pub issued : Issued
  pub is_open : open_in name items ≡ Some issued
  pub has_number : issued.number ≡ number

-- nothing was sent in the session of this last number
abbrev pub IsUnused : Number → Type 0
IsUnused last = last.call ≡ 0

-- the item may come after these; nodes are lost and names forgotten only where a session begins
abbrev pub MayFollow : Number → List Item → Item → Type 0
MayFollow began older (Started session nodes) = (last_in began older).session < session
MayFollow began older (Lost node) = IsUnused (last_in began older)
MayFollow began older (Forgotten name) = IsUnused (last_in began older)
MayFollow began older (Sent issued) = IsNextNumber (last_in began older) issued.number × IsOfName issued.name issued.call
MayFollow began older (Accepted number status id) = IsOpen older number
MayFollow began older (Closed number) = IsOpen older number
MayFollow began older (Noted name goal) = Unit {0}

-- each item may come after those before it
abbrev pub AreWellFormed : Number → List Item → Type 0
AreWellFormed began [] = Unit {0}
AreWellFormed began (item ∷ older) = MayFollow began older item × AreWellFormed began older

-- the history is one that an orchestrator can have
abbrev pub IsWellFormed : History → Type 0
IsWellFormed history = AreWellFormed history.began history.items
