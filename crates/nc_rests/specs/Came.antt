-- How the message that a place found came to its worker: among the alerts that the worker took, the first one first.
use Rattle.std.specs.Prelude.{◌≡◌, ◌⊎◌, ℕ, List, [], ◌∷◌, Option, None, Some}
use Rattle.nc_types.specs.Id.{Id}
use Rattle.nc_journal.specs.declared.alert.AlertLine.{AlertLine}
use Rattle.nc_journal.specs.declared.alert.AlertLine.TheVariants.{LookAnswer, Notice}

-- the answer to look q tells that this was found
abbrev pub HasAnswer : ℕ → Option Id → List AlertLine → Type 0
HasAnswer q found [] = ⊥
HasAnswer q found (LookAnswer number p floor x g slot ∷ l) = ((p ≡ q) × (x ≡ found)) ⊎ HasAnswer q found l
HasAnswer q found (a ∷ l) = HasAnswer q found l

-- a notice tells that this message was stored
abbrev pub HasNotice : List ℕ → Id → List AlertLine → Type 0
HasNotice c id [] = ⊥
HasNotice c id (Notice d m g slot ∷ l) = ((d ≡ c) × (m ≡ id)) ⊎ HasNotice c id l
HasNotice c id (a ∷ l) = HasNotice c id l

-- a notice does, behind an answer to look q that nothing was found
abbrev pub HasNoticeBehind : ℕ → List ℕ → Id → List AlertLine → Type 0
HasNoticeBehind q c id [] = ⊥
HasNoticeBehind q c id (LookAnswer number p floor x g slot ∷ l) = ((p ≡ q) × (x ≡ None) × HasNotice c id l) ⊎ HasNoticeBehind q c id l
HasNoticeBehind q c id (a ∷ l) = HasNoticeBehind q c id l

-- the message came with the answer to look q, or by a notice behind it
abbrev pub CameBy : ℕ → List ℕ → Id → List AlertLine → Type 0
CameBy q c id l = HasAnswer q (Some id) l ⊎ HasNoticeBehind q c id l
