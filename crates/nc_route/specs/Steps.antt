-- What the steps of a decision give; the code is exact to these.
use Rattle.std.specs.Prelude.{◌≡◌, ℕ, false, List, [], ◌∷◌, length, if◌then◌else◌, ◌&&◌, nat_lt, Option, Some, None, fold}
use Rattle.std.specs.List.{find}
use Rattle.std.specs.Option.{option_or}
use Rattle.nc_types.specs.declared.config.Location.{Location}
use Rattle.nc_types.specs.declared.request.Request.{Request}
use Rattle.nc_types.specs.declared.request.Allow.TheVariants as allows
use Rattle.nc_ident.specs.declared.refusal.IdRefusal.{IdRefusal}
use Rattle.nc_ident.specs.declared.refusal.IdRefusal.TheVariants as idents
use Rattle.nc_multi.specs.declared.list.ListRefusal.{ListRefusal}
use Rattle.nc_multi.specs.declared.list.ListRefusal.TheVariants as lists
use Rattle.nc_accept.specs.declared.opening.Opening.{Opening}
use Rattle.nc_accept.specs.Opening.{opens, IsOpening}
use Rattle.nc_route.specs.declared.decision.Decision.{Decision}
use Rattle.nc_route.specs.declared.reason.Reason.{Reason}
use Rattle.nc_route.specs.declared.reason.Reason.TheVariants as reasons
use Rattle.nc_route.specs.declared.start.StartRefusal.{StartRefusal}
use Rattle.nc_route.specs.declared.start.StartRefusal.TheVariants as refusals
use Rattle.nc_route.specs.Place.{is_exactly, is_front}
use Rattle.nc_route.specs.Begin.{Given, HasNoDate, AreMalformed, AreOthers}
use Rattle.nc_route.specs.Rules.{refused, DecidesBy, Keeps}

-- ---- the location

-- the one with the longer path
abbrev pub longer : List ℕ → Option Location → Location → Option Location
longer path None l = if is_front path l then Some l else None
longer path (Some best) l = if is_front path l && nat_lt (length best.path) (length l.path) then Some l else Some best

abbrev pub longest : List ℕ → List Location → Option Location
longest path ls = fold (longer path) None ls

abbrev pub location_of : List ℕ → List Location → Option Location
location_of path ls = option_or (find (is_exactly path) ls) (longest path ls)

-- ---- the start

-- why a text isn't read as an id or as tags
abbrev pub unread : IdRefusal → StartRefusal
unread (idents.Malformed at) = refusals.BadTags
unread (idents.TagCount found) = refusals.OtherTags
unread idents.NoMemory = refusals.NoMemory

-- what is given is no start, and why: the first of the three
abbrev pub IsNoStart : ℕ → Given → StartRefusal → Type 0
IsNoStart n given refusals.NoDate = HasNoDate given
IsNoStart n given refusals.BadTags = (HasNoDate given → ⊥) × AreMalformed given
IsNoStart n given refusals.OtherTags = (HasNoDate given → ⊥) × (AreMalformed given → ⊥) × AreOthers n given
IsNoStart n given refusals.NoMemory = Unit {0}

-- ---- the decision

-- what is decided at a location by a list of rules
abbrev pub DecidesAt : List Reason → Location → Request → Decision → Type 0
DecidesAt rs l q d = DecidesBy rs (Some l) q d

-- the body and the method of a request are right at its location
abbrev pub KeepsBodyAndMethod : Location → Request → Type 0
KeepsBodyAndMethod l q = Keeps (reasons.LongBody ∷ reasons.OtherMethod ∷ []) (Some l) q

-- the one name of a list of one
abbrev pub only_name : List (List ℕ) → Option (List ℕ)
only_name (name ∷ []) = Some name
only_name _ = None

-- what is asked for of one channel, or the refusal of several
abbrev pub for_one : (List ℕ → Decision) → Option (List ℕ) → Decision
for_one action None = refused reasons.SeveralNames allows.Nothing
for_one action (Some chan) = action chan

-- the opening that fields ask for, or they ask for none
abbrev pub Opens : Request → Option Opening → Type 0
Opens q None = opens q.fields ≡ false
Opens q (Some opening) = IsOpening q.fields opening

-- the refusal of a request that gives no start
abbrev pub IsStartRefusal : StartRefusal → Decision → Type 0
IsStartRefusal refusals.NoDate d = d ≡ refused reasons.NoDate allows.Nothing
IsStartRefusal refusals.BadTags d = d ≡ refused reasons.BadTags allows.Nothing
IsStartRefusal refusals.OtherTags d = d ≡ refused reasons.OtherTags allows.Nothing
IsStartRefusal refusals.NoMemory d = ⊥

-- the refusal of channel ids that make no list
abbrev pub IsIdRefusal : ListRefusal → Decision → Type 0
IsIdRefusal (lists.Empty place) d = d ≡ refused reasons.EmptyId allows.Nothing
IsIdRefusal (lists.TooLong place size) d = d ≡ refused reasons.LongId allows.Nothing
IsIdRefusal (lists.TooMany n) d = d ≡ refused reasons.ManyNames allows.Nothing
IsIdRefusal lists.NoMemory d = ⊥
