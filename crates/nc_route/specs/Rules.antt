-- The routing rules, and what a request asks for that breaks none.
use Rattle.std.specs.Prelude.{◌≡◌, ◌⊎◌, ◌<◌, ℕ, Bool, true, false, not, List, [], ◌∷◌, length, codes, if◌then◌else◌, ◌==◌, ◌||◌, Option, Some, None, bytes_eq}
use Rattle.nc_types.specs.Text.{begins_slash}
use Rattle.nc_types.specs.Config.{ConfigAt}
use Rattle.nc_types.specs.declared.request.Request.{Request}
use Rattle.nc_types.specs.declared.request.Allow.{Allow}
use Rattle.nc_types.specs.declared.request.Allow.TheVariants as allows
use Rattle.nc_types.specs.declared.config.Location.{Location}
use Rattle.nc_types.specs.declared.start.Start.{Start}
use Rattle.nc_multi.specs.Names.{distinct, IsEmptyAt, IsTooLong, AreTooMany}
use Rattle.nc_accept.specs.declared.opening.Opening.{Opening}
use Rattle.nc_accept.specs.Opening.{opens, IsOpening}
use Rattle.nc_accept.specs.Fields.{values, first}
use Rattle.nc_route.specs.declared.decision.Decision.{Decision}
use Rattle.nc_route.specs.declared.decision.Decision.TheVariants as decisions
use Rattle.nc_route.specs.declared.reason.Reason.{Reason}
use Rattle.nc_route.specs.declared.reason.Reason.TheVariants as reasons
use Rattle.nc_route.specs.declared.kind.Kind.{Kind}
use Rattle.nc_route.specs.declared.kind.Kind.TheVariants as kinds
use Rattle.nc_route.specs.Place.{IsLocationOf}
use Rattle.nc_route.specs.Query.{ids_of}
use Rattle.nc_route.specs.Begin.{asks_socket, given, HasNoDate, AreMalformed, AreOthers, IsGivenStart}

-- ---- what a request asks for

abbrev pub has_subscriber : Location → Bool
has_subscriber l = l.longpoll || l.socket

abbrev pub has_role : Location → Bool
has_role l = l.publisher || has_subscriber l

-- there is a location, and something is published or subscribed there
abbrev pub has_place : Option Location → Bool
has_place None = false
has_place (Some l) = has_role l

-- what a method asks for at a location; GET subscribes where that may be, else it asks for information
abbrev pub kind_of : Location → List ℕ → Option Kind
kind_of l method =
    if bytes_eq method (codes "GET") then (if has_subscriber l then Some kinds.Subscribe else Some kinds.Inform)
    else (if not l.publisher then None
    else (if bytes_eq method (codes "POST") || bytes_eq method (codes "PUT") then Some kinds.Publish
    else (if bytes_eq method (codes "DELETE") then Some kinds.Delete
    else None)))

-- the channels of a request, each once
abbrev pub names_of : Location → Request → List (List ℕ)
names_of l q = distinct (ids_of l q)

abbrev pub is_subscription : Option Kind → Bool
is_subscription (Some kinds.Subscribe) = true
is_subscription _ = false

abbrev pub subscribes : Location → Request → Bool
subscribes l q = is_subscription (kind_of l q.method)

-- ---- the rules

-- there is a location, and something holds of it
abbrev pub At : Option Location → (Location → Type 0) → Type 0
At None P = ⊥
At (Some l) P = P l

-- a request breaks a rule, at its location if it has one
abbrev pub Breaks : Reason → Option Location → Request → Type 0
Breaks reasons.NoSlash found q = begins_slash q.path ≡ false
Breaks reasons.NoPlace found q = has_place found ≡ false
Breaks reasons.LongBody found q = At found (λ l. l.settings.max_body < length q.body)
Breaks reasons.OtherMethod found q = At found (λ l. kind_of l q.method ≡ None)
Breaks reasons.EmptyId found q = At found (λ l. (place : ℕ) × IsEmptyAt (ids_of l q) place)
Breaks reasons.LongId found q = At found (λ l. (place : ℕ) × (size : ℕ) × IsTooLong (ids_of l q) l.settings.max_name place size)
Breaks reasons.ManyNames found q = At found (λ l. (n : ℕ) × AreTooMany (ids_of l q) l.settings.max_name 7 n)
Breaks reasons.SeveralNames found q = At found (λ l. (subscribes l q ≡ false) × (1 < length (names_of l q)))
Breaks reasons.NoSocket found q = At found (λ l. (subscribes l q ≡ true) × (asks_socket q ≡ true) × (l.socket ≡ false))
Breaks reasons.BadOpening found q = At found (λ l. (subscribes l q ≡ true) × (asks_socket q ≡ true) × (opens q.fields ≡ false))
Breaks reasons.NoLongPoll found q = At found (λ l. (subscribes l q ≡ true) × (asks_socket q ≡ false) × (l.longpoll ≡ false))
Breaks reasons.NoDate found q = At found (λ l. (subscribes l q ≡ true) × HasNoDate (given q))
Breaks reasons.BadTags found q = At found (λ l. (subscribes l q ≡ true) × AreMalformed (given q))
Breaks reasons.OtherTags found q = At found (λ l. (subscribes l q ≡ true) × AreOthers (length (names_of l q)) (given q))

-- the number of a rule
abbrev pub number_of : Reason → ℕ
number_of reasons.NoSlash = 1
number_of reasons.NoPlace = 2
number_of reasons.LongBody = 3
number_of reasons.OtherMethod = 4
number_of reasons.EmptyId = 5
number_of reasons.LongId = 6
number_of reasons.ManyNames = 7
number_of reasons.SeveralNames = 8
number_of reasons.NoSocket = 9
number_of reasons.BadOpening = 10
number_of reasons.NoLongPoll = 11
number_of reasons.NoDate = 12
number_of reasons.BadTags = 13
number_of reasons.OtherTags = 14

-- the status of a refusal by a rule
abbrev pub status_of : Reason → ℕ
status_of reasons.NoSlash = 400
status_of reasons.NoPlace = 404
status_of reasons.LongBody = 413
status_of reasons.OtherMethod = 405
status_of reasons.EmptyId = 400
status_of reasons.LongId = 403
status_of reasons.ManyNames = 403
status_of reasons.SeveralNames = 400
status_of reasons.NoSocket = 403
status_of reasons.BadOpening = 400
status_of reasons.NoLongPoll = 403
status_of reasons.NoDate = 400
status_of reasons.BadTags = 400
status_of reasons.OtherTags = 400

-- whose methods a location allows
abbrev pub allowed_at : Location → Allow
allowed_at l = if l.publisher then allows.Publisher else allows.Subscriber

abbrev pub allowed : Option Location → Allow
allowed None = allows.Nothing
allowed (Some l) = allowed_at l

-- a refusal of a method names those that are allowed
abbrev pub allow_of : Reason → Option Location → Allow
allow_of reasons.OtherMethod found = allowed found
allow_of _ found = allows.Nothing

abbrev pub refused : Reason → Allow → Decision
refused reason allow = decisions.Refuse (status_of reason) (number_of reason) allow

-- the refusal by a rule
abbrev pub refusal : Reason → Option Location → Decision
refusal reason found = refused reason (allow_of reason found)

-- ---- what is asked for

-- a long poll, or a WebSocket with its opening
abbrev pub IsSubscription : Bool → Location → Request → Decision → Type 0
IsSubscription true l q d =
    (start : Start) × IsGivenStart l.settings (length (names_of l q)) (given q) start
    × (opening : Opening) × IsOpening q.fields opening
    × (d ≡ decisions.Socket (names_of l q) start l.settings opening)
IsSubscription false l q d =
    (start : Start) × IsGivenStart l.settings (length (names_of l q)) (given q) start
    × (d ≡ decisions.LongPoll (names_of l q) start l.settings)

-- the content type of what is published
abbrev pub content_type : Request → Option (List ℕ)
content_type q = first (values (codes "Content-Type") q.fields)

abbrev pub IsActionOf : Option Kind → Location → Request → Decision → Type 0
IsActionOf (Some kinds.Publish) l q d = (chan : List ℕ) × (names_of l q ≡ chan ∷ []) × (d ≡ decisions.Publish chan l.settings (content_type q) q.body)
IsActionOf (Some kinds.Inform) l q d = (chan : List ℕ) × (names_of l q ≡ chan ∷ []) × (d ≡ decisions.Inform chan)
IsActionOf (Some kinds.Delete) l q d = (chan : List ℕ) × (names_of l q ≡ chan ∷ []) × (d ≡ decisions.Delete chan)
IsActionOf (Some kinds.Subscribe) l q d = IsSubscription (asks_socket q) l q d
IsActionOf None l q d = ⊥

-- what a request asks for that breaks no rule
abbrev pub IsAction : Option Location → Request → Decision → Type 0
IsAction found q d = At found (λ l. IsActionOf (kind_of l q.method) l q d)

-- ---- the decision

-- of these rules the first that is broken refuses; where all are kept, what is asked for is done
abbrev pub DecidesBy : List Reason → Option Location → Request → Decision → Type 0
DecidesBy [] found q d = IsAction found q d
DecidesBy (r ∷ rs) found q d = (Breaks r found q × (d ≡ refusal r found)) ⊎ ((Breaks r found q → ⊥) × DecidesBy rs found q d)

-- the rules for the start of a subscription
abbrev pub start_rules : List Reason
start_rules = reasons.NoDate ∷ reasons.BadTags ∷ reasons.OtherTags ∷ []

-- the rules for subscriptions alone
abbrev pub subscription_rules : List Reason
subscription_rules = reasons.NoSocket ∷ reasons.BadOpening ∷ reasons.NoLongPoll ∷ start_rules

-- the rules that are judged once there is a list of names
abbrev pub list_rules : List Reason
list_rules = reasons.SeveralNames ∷ subscription_rules

-- the rules that are judged once there is a location
abbrev pub location_rules : List Reason
location_rules = reasons.LongBody ∷ reasons.OtherMethod ∷ reasons.EmptyId ∷ reasons.LongId ∷ reasons.ManyNames ∷ list_rules

-- all rules, in their order
abbrev pub all_rules : List Reason
all_rules = reasons.NoSlash ∷ reasons.NoPlace ∷ location_rules

-- what is decided of a request
pub record Decides (conf : ConfigAt) (q : Request) (d : Decision) : Type 0 where
  pub location : Option Location
  pub is_location : IsLocationOf q.path conf.locations location
  pub decided : DecidesBy all_rules location q d

-- ---- where memory may be wanting

-- the rules that are judged before memory is taken
abbrev pub early_rules : List Reason
early_rules = reasons.NoSlash ∷ reasons.NoPlace ∷ reasons.LongBody ∷ reasons.OtherMethod ∷ []

-- a request keeps some rules
abbrev pub Keeps : List Reason → Option Location → Request → Type 0
Keeps [] found q = Unit {0}
Keeps (r ∷ rs) found q = (Breaks r found q → ⊥) × Keeps rs found q

-- a request keeps the rules that are judged before memory is taken
pub record KeepsEarly (conf : ConfigAt) (q : Request) : Type 0 where
  pub location : Option Location
  pub is_location : IsLocationOf q.path conf.locations location
  pub kept : Keeps early_rules location q
