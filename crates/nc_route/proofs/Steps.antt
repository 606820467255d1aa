-- The decision, rule by rule.
use Rattle.std.proofs.Common.{◌≡◌, ℕ, ◌<◌, Bool, true, false, List, [], ◌∷◌, length, Option, Some, None, refl, sym, ◌∙◌, ap, subst, inl, inr, arith}
use Rattle.std.specs.Prelude.{Result, Ok, Err, IfOk, IfErr, slice_get, nat_lt}
use Rattle.std.proofs.lemmas.Bool.{both_ways}
use Rattle.nc_types.specs.Text.{begins_slash}
use Rattle.nc_types.specs.Config.{ConfigAt}
use Rattle.nc_types.specs.declared.list.NoMemory.{NoMemory}
use Rattle.nc_types.specs.declared.config.Location.{Location}
use Rattle.nc_types.specs.declared.request.Request.{Request}
use Rattle.nc_types.specs.declared.request.Allow.TheVariants as allows
use Rattle.nc_types.specs.declared.start.Start.{Start}
use Rattle.nc_multi.specs.declared.list.ListRefusal.{ListRefusal}
use Rattle.nc_multi.specs.declared.list.ListRefusal.TheVariants as lists
use Rattle.nc_multi.specs.Names.{distinct, IsEmpty, IsLonger, NoneIs, IsEmptyAt, IsTooLong, IsListOf, IsRefused}
use Rattle.nc_accept.specs.declared.opening.Opening.{Opening}
use Rattle.nc_accept.specs.Opening.{opens, IsOpening}
use Rattle.nc_route.specs.declared.decision.Decision.{Decision}
use Rattle.nc_route.specs.declared.decision.Decision.TheVariants as decisions
use Rattle.nc_route.specs.declared.reason.Reason.TheVariants as reasons
use Rattle.nc_route.specs.declared.kind.Kind.{Kind}
use Rattle.nc_route.specs.declared.kind.Kind.TheVariants as kinds
use Rattle.nc_route.specs.declared.start.StartRefusal.{StartRefusal}
use Rattle.nc_route.specs.declared.start.StartRefusal.TheVariants as refusals
use Rattle.nc_route.specs.Query.{ids_of}
use Rattle.nc_route.specs.Begin.{asks_socket, given, IsGivenStart}
use Rattle.nc_route.specs.Rules.{has_role, has_place, Decides, KeepsEarly, kind_of, IsSubscription, names_of, is_subscription, subscribes, start_rules, subscription_rules, list_rules, location_rules, IsActionOf, IsAction, refused}
use Rattle.nc_route.specs.Place.{IsLocationOf}
use Rattle.nc_route.proofs.Places.{is_location}
use Rattle.nc_route.proofs.Starts.{has_date, well_formed, of_the_names}
use Rattle.nc_route.specs.Steps.{IsNoStart, DecidesAt, KeepsBodyAndMethod, only_name, for_one, IsStartRefusal, IsIdRefusal, location_of}

pub if_ok : (P Q : Decision → Type 0) (r : Result Decision NoMemory) → ((d : Decision) → P d → Q d) → IfOk r P → IfOk r Q
if_ok P Q (Ok d) f h = f d h
if_ok P Q (Err e) f h = h

-- ---- subscriptions

-- the rules for subscriptions are kept where none is asked for
pub no_subscription : (l : Location) (q : Request) (d : Decision) → subscribes l q ≡ false → IsAction (Some l) q d → DecidesAt subscription_rules l q d
no_subscription l q d none act =
    let no : subscribes l q ≡ true → ⊥ = both_ways (subscribes l q) none in
    inr (λ b. no b.0, inr (λ b. no b.0, inr (λ b. no b.0, inr (λ b. no b.0, inr (λ b. no b.0, inr (λ b. no b.0, act))))))

-- a WebSocket is asked for, and it is opened
pub opened : (l : Location) (q : Request) (d : Decision) → asks_socket q ≡ true → l.socket ≡ true → opens q.fields ≡ true → DecidesAt start_rules l q d → DecidesAt subscription_rules l q d
opened l q d way has fit h =
    inr (λ b. both_ways l.socket b.2 has, inr (λ b. both_ways (opens q.fields) b.2 fit, inr (λ b. both_ways (asks_socket q) b.1 way, h)))

-- a long poll is asked for
pub polled : (l : Location) (q : Request) (d : Decision) → asks_socket q ≡ false → l.longpoll ≡ true → DecidesAt start_rules l q d → DecidesAt subscription_rules l q d
polled l q d way has h =
    inr (λ b. both_ways (asks_socket q) way b.1, inr (λ b. both_ways (asks_socket q) way b.1, inr (λ b. both_ways l.longpoll b.2 has, h)))

pub no_socket : (l : Location) (q : Request) → kind_of l q.method ≡ Some kinds.Subscribe → asks_socket q ≡ true → l.socket ≡ false → DecidesAt subscription_rules l q (refused reasons.NoSocket allows.Nothing)
no_socket l q kind way none = inl ((ap is_subscription kind, way, none), refl)

pub bad_opening : (l : Location) (q : Request) → kind_of l q.method ≡ Some kinds.Subscribe → asks_socket q ≡ true → l.socket ≡ true → opens q.fields ≡ false → DecidesAt subscription_rules l q (refused reasons.BadOpening allows.Nothing)
bad_opening l q kind way has none = inr (λ b. both_ways l.socket b.2 has, inl ((ap is_subscription kind, way, none), refl))

pub no_poll : (l : Location) (q : Request) → kind_of l q.method ≡ Some kinds.Subscribe → asks_socket q ≡ false → l.longpoll ≡ false → DecidesAt subscription_rules l q (refused reasons.NoLongPoll allows.Nothing)
no_poll l q kind way none =
    inr (λ b. both_ways (asks_socket q) way b.1, inr (λ b. both_ways (asks_socket q) way b.1, inl ((ap is_subscription kind, way, none), refl)))

-- what is given is no start
start_refused : (l : Location) (q : Request) (refusal : StartRefusal) (d : Decision) → kind_of l q.method ≡ Some kinds.Subscribe → IsNoStart (length (names_of l q)) (given q) refusal → IsStartRefusal refusal d → DecidesAt start_rules l q d
start_refused l q refusals.NoDate d kind bad e = inl ((ap is_subscription kind, bad), e)
start_refused l q refusals.BadTags d kind bad e = inr (λ b. bad.0 b.1, inl ((ap is_subscription kind, bad.1), e))
start_refused l q refusals.OtherTags d kind bad e = inr (λ b. bad.0 b.1, inr (λ b. bad.1 b.1, inl ((ap is_subscription kind, bad.2), e)))
start_refused l q refusals.NoMemory d kind bad e = absurd e

-- it is one
started : (l : Location) (q : Request) (start : Start) (d : Decision) → IsGivenStart l.settings (length (names_of l q)) (given q) start → IsAction (Some l) q d → DecidesAt start_rules l q d
started l q start d is act =
    inr (
      λ b. has_date l.settings (length (names_of l q)) (given q) start is b.1,
      inr (
        λ b. well_formed l.settings (length (names_of l q)) (given q) start is b.1,
        inr (λ b. of_the_names l.settings (length (names_of l q)) (given q) start is b.1, act),
      ),
    )

pub socket_refused : (l : Location) (q : Request) (opening : Opening) (refusal : StartRefusal) (r : Result Decision NoMemory) → kind_of l q.method ≡ Some kinds.Subscribe → asks_socket q ≡ true → l.socket ≡ true → IsOpening q.fields opening → IsNoStart (length (names_of l q)) (given q) refusal → IfOk r (IsStartRefusal refusal) → IfOk r (λ d. DecidesAt subscription_rules l q d)
socket_refused l q opening refusal r kind way has fit bad h =
    if_ok (IsStartRefusal refusal) (λ d. DecidesAt subscription_rules l q d) r (λ d e. opened l q d way has fit.opened (start_refused l q refusal d kind bad e)) h

pub poll_refused : (l : Location) (q : Request) (refusal : StartRefusal) (r : Result Decision NoMemory) → kind_of l q.method ≡ Some kinds.Subscribe → asks_socket q ≡ false → l.longpoll ≡ true → IsNoStart (length (names_of l q)) (given q) refusal → IfOk r (IsStartRefusal refusal) → IfOk r (λ d. DecidesAt subscription_rules l q d)
poll_refused l q refusal r kind way has bad h =
    if_ok (IsStartRefusal refusal) (λ d. DecidesAt subscription_rules l q d) r (λ d e. polled l q d way has (start_refused l q refusal d kind bad e)) h

pub socket_started : (l : Location) (q : Request) (opening : Opening) (start : Start) → kind_of l q.method ≡ Some kinds.Subscribe → asks_socket q ≡ true → l.socket ≡ true → IsOpening q.fields opening → IsGivenStart l.settings (length (names_of l q)) (given q) start → DecidesAt subscription_rules l q (decisions.Socket (names_of l q) start l.settings opening)
socket_started l q opening start kind way has fit is =
    let d = decisions.Socket (names_of l q) start l.settings opening in
    opened l q d way has fit.opened (started l q start d is
    (subst (λ (k : Option Kind). IsActionOf k l q d) (sym kind) (subst (λ (b : Bool). IsSubscription b l q d) (sym way) (start, is, opening, fit, refl))))

pub poll_started : (l : Location) (q : Request) (start : Start) → kind_of l q.method ≡ Some kinds.Subscribe → asks_socket q ≡ false → l.longpoll ≡ true → IsGivenStart l.settings (length (names_of l q)) (given q) start → DecidesAt subscription_rules l q (decisions.LongPoll (names_of l q) start l.settings)
poll_started l q start kind way has is =
    let d = decisions.LongPoll (names_of l q) start l.settings in
    polled l q d way has (started l q start d is
    (subst (λ (k : Option Kind). IsActionOf k l q d) (sym kind) (subst (λ (b : Bool). IsSubscription b l q d) (sym way) (start, is, refl))))

-- ---- lists

-- what is for one channel is asked of the one, or of several
pub of_one : (l : Location) (q : Request) (k : Kind) (action : List ℕ → Decision) → kind_of l q.method ≡ Some k → is_subscription (Some k) ≡ false → ((chan : List ℕ) → names_of l q ≡ chan ∷ [] → IsActionOf (Some k) l q (action chan)) → (names : List (List ℕ)) → names_of l q ≡ names → 0 < length names → DecidesAt list_rules l q (for_one action (only_name names))
of_one l q k action kind none act [] e some = absurd (omega (arith, some))
of_one l q k action kind none act (name ∷ []) e some =
    inr (
      λ b. absurd (omega (arith, b.1, ap length e)),
      no_subscription l q (action name) (ap is_subscription kind ∙ none)
          (subst (λ (o : Option Kind). IsActionOf o l q (action name)) (sym kind) (act name e)),
    )
of_one l q k action kind none act (name ∷ other ∷ names) e some =
    inl ((ap is_subscription kind ∙ none, omega (arith, ap length e)), refl)

pub subscribed : (l : Location) (q : Request) (r : Result Decision NoMemory) → kind_of l q.method ≡ Some kinds.Subscribe → IfOk r (λ d. DecidesAt subscription_rules l q d) → IfOk r (λ d. DecidesAt list_rules l q d)
subscribed l q r kind h =
    if_ok (λ d. DecidesAt subscription_rules l q d) (λ d. DecidesAt list_rules l q d) r (λ d e. inr (λ b. both_ways (subscribes l q) b.0 (ap is_subscription kind), e)) h

pub some_distinct : (names : List (List ℕ)) → 0 < length names → 0 < length (distinct names)
some_distinct [] h = h
some_distinct (name ∷ names) h = omega arith

-- ---- channel ids

no_empty : (names : List (List ℕ)) → 0 < length names → NoneIs IsEmpty names → (place : ℕ) → IsEmptyAt names place → ⊥
no_empty names some none place (inl e) = absurd (omega (arith, some, ap length e.0))
no_empty names some none place (inr e) = none place e.0 e.1.stands e.1.has

no_longer : (names : List (List ℕ)) (longest : ℕ) → NoneIs (IsLonger longest) names → (place size : ℕ) → IsTooLong names longest place size → ⊥
no_longer names longest none place size h = none place h.name h.first.stands h.first.has

some_name : (names : List (List ℕ)) (place : ℕ) (name : List ℕ) → slice_get names place ≡ Some name → 0 < length names
some_name [] place name e = absurd cc
some_name (other ∷ names) place name e = omega arith

id_refused : (l : Location) (q : Request) (refusal : ListRefusal) (d : Decision) → (l.settings.max_body < length q.body → ⊥) → (kind_of l q.method ≡ None → ⊥) → IsRefused (ids_of l q) l.settings.max_name 7 refusal → IsIdRefusal refusal d → DecidesAt location_rules l q d
id_refused l q (lists.Empty place) d short method bad e = inr (short, inr (method, inl ((place, bad), e)))
id_refused l q (lists.TooLong place size) d short method bad e =
    inr (
      short,
      inr (
        method,
        inr (λ b. no_empty (ids_of l q) (some_name (ids_of l q) place bad.name bad.first.stands) bad.none_empty b.0 b.1, inl ((place, size, bad), e)),
      ),
    )
id_refused l q (lists.TooMany n) d short method bad e =
    inr (
      short,
      inr (
        method,
        inr (
          λ b. no_empty (ids_of l q) bad.some bad.none_empty b.0 b.1,
          inr (λ b. no_longer (ids_of l q) l.settings.max_name bad.none_longer b.0 b.1 b.2, inl ((n, bad), e)),
        ),
      ),
    )
id_refused l q lists.NoMemory d short method bad e = absurd e

pub ids_refused : (l : Location) (q : Request) (refusal : ListRefusal) (r : Result Decision NoMemory) → (l.settings.max_body < length q.body → ⊥) → (kind_of l q.method ≡ None → ⊥) → IsRefused (ids_of l q) l.settings.max_name 7 refusal → IfOk r (IsIdRefusal refusal) → IfOk r (λ d. DecidesAt location_rules l q d)
ids_refused l q refusal r short method bad h =
    if_ok (IsIdRefusal refusal) (λ d. DecidesAt location_rules l q d) r (λ d e. id_refused l q refusal d short method bad e) h

pub listed : (l : Location) (q : Request) (list : List (List ℕ)) (r : Result Decision NoMemory) → (l.settings.max_body < length q.body → ⊥) → (kind_of l q.method ≡ None → ⊥) → IsListOf (ids_of l q) l.settings.max_name 7 list → IfOk r (λ d. DecidesAt list_rules l q d) → IfOk r (λ d. DecidesAt location_rules l q d)
listed l q list r short method is h =
    if_ok (λ d. DecidesAt list_rules l q d) (λ d. DecidesAt location_rules l q d) r
    (λ d e. inr (
      short,
      inr (
        method,
        inr (
          λ b. no_empty (ids_of l q) is.some is.none_empty b.0 b.1,
          inr (
            λ b. no_longer (ids_of l q) l.settings.max_name is.none_longer b.0 b.1 b.2,
            inr (λ b. absurd (omega (arith, b.1.count, b.1.more, is.none_left)), e),
          ),
        ),
      ),
    )) h

pub a_kind : (o : Option Kind) (kind : Kind) → o ≡ Some kind → o ≡ None → ⊥
a_kind o kind e f = absurd cc

pub not_more : (a b : ℕ) → nat_lt a b ≡ false → a < b → ⊥
not_more a b e lt = absurd (grind (arith, e, lt))

-- ---- the whole

pub no_slash : (conf : ConfigAt) (q : Request) → begins_slash q.path ≡ false → Decides conf q (refused reasons.NoSlash allows.Nothing)
no_slash conf q none = record {
  location = location_of q.path conf.locations;
  is_location = is_location q.path conf.locations;
  decided = inl (none, refl);
}

pub no_place : (conf : ConfigAt) (q : Request) (o : Option Location) → IsLocationOf q.path conf.locations o → begins_slash q.path ≡ true → has_place o ≡ false → Decides conf q (refused reasons.NoPlace allows.Nothing)
no_place conf q o is slash none = record {
  location = o;
  is_location = is;
  decided = inr (λ b. both_ways (begins_slash q.path) b slash, inl (none, refl));
}

pub placed : (conf : ConfigAt) (q : Request) (l : Location) (r : Result Decision NoMemory) → IsLocationOf q.path conf.locations (Some l) → begins_slash q.path ≡ true → has_role l ≡ true → IfOk r (λ d. DecidesAt location_rules l q d) → IfOk r (λ d. Decides conf q d)
placed conf q l r is slash role h =
    if_ok (λ d. DecidesAt location_rules l q d) (λ d. Decides conf q d) r
    (λ d e. record {
      location = Some l;
      is_location = is;
      decided = inr (λ b. both_ways (begins_slash q.path) b slash, inr (λ b. both_ways (has_role l) b role, e));
    }) h

pub found_so : (path other : List ℕ) (ls more : List Location) (o p : Option Location) → path ≡ other → ls ≡ more → o ≡ p → IsLocationOf path ls o → IsLocationOf other more p
found_so path other ls more o p e f g h =
    subst (λ (x : List ℕ). IsLocationOf x more p) e (subst (λ (x : List Location). IsLocationOf path x p) f (subst (λ (x : Option Location). IsLocationOf path ls x) g h))

-- ---- where memory may be wanting

pub if_err : (P Q : Type 0) (r : Result Decision NoMemory) → (P → Q) → IfErr r (λ e. P) → IfErr r (λ e. Q)
if_err P Q (Ok d) f h = h
if_err P Q (Err e) f h = f h

pub err_of : (P : Type 0) (r : Result Decision NoMemory) → P → IfErr r (λ e. P)
err_of P (Ok d) h = tt
err_of P (Err e) h = h

pub fits : (l : Location) (q : Request) (kind : Kind) → nat_lt l.settings.max_body (length q.body) ≡ false → kind_of l q.method ≡ Some kind → KeepsBodyAndMethod l q
fits l q kind short e = (not_more l.settings.max_body (length q.body) short, (a_kind (kind_of l q.method) kind e, tt))

pub keeps_early : (conf : ConfigAt) (q : Request) (l : Location) (r : Result Decision NoMemory) → IsLocationOf q.path conf.locations (Some l) → begins_slash q.path ≡ true → has_role l ≡ true → IfErr r (λ e. KeepsBodyAndMethod l q) → IfErr r (λ e. KeepsEarly conf q)
keeps_early conf q l r is slash role h =
    if_err (KeepsBodyAndMethod l q) (KeepsEarly conf q) r
    (λ fit. record {
      location = Some l;
      is_location = is;
      kept = (λ b. both_ways (begins_slash q.path) b slash, (λ b. both_ways (has_role l) b role, fit));
    }) h
