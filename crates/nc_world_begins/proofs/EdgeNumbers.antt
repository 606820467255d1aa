-- What a history that goes on has of the edges of a subscriber, and by which numbers they were asked for.
use Rattle.std.proofs.Common.{◌≡◌, inl, inr, ℕ, ◌+◌, Bool, true, false, cond, List, [], ◌∷◌, ◌++◌, Option, Some, None, refl, sym, ap, ◌∙◌, subst}
use Rattle.std.specs.Prelude.{◌&&◌, ◌==◌, bytes_eq}
use Rattle.std.specs.List.{AllByRecursion}
use Rattle.std.specs.Cmp.Lexicographic.{same_text}
use Rattle.std.proofs.lemmas.Bool.{eqb-true, and_parts, cond_both}
use Rattle.std.proofs.lemmas.List.{append-nil}
use Rattle.nc_types.specs.Channel.{owner_of}
use Rattle.nc_journal.specs.Edges.{edges_of}
use Rattle.nc_journal.specs.History.{own, is_by}
use Rattle.nc_journal.specs.declared.event.Event.{Event}
use Rattle.nc_journal.specs.declared.event.Event.TheVariants.{Made, Took}
use Rattle.nc_journal.specs.declared.alert.AlertLine.{AlertLine}
use Rattle.nc_journal.specs.declared.alert.AlertLine.TheVariants as lines
use Rattle.nc_journal.specs.declared.word.AlertKind.{AlertKind}
use Rattle.nc_journal.specs.declared.word.EndedCause.{EndedCause}
use Rattle.nc_owner_laws.specs.Wake.{made_to}
use Rattle.nc_spool_state.specs.declared.spool.Reader.{Reader}
use Rattle.nc_spool_state.specs.Key.{KeyAt, id_at}
use Rattle.nc_spool_state.specs.Shelf.{spool_of, others}
use Rattle.nc_spool_state.specs.Spool.{SpoolAt, with_reader}
use Rattle.nc_spool.specs.declared.ask.Ask.{Ask}
use Rattle.nc_spool.specs.declared.ask.Ask.TheVariants as asks
use Rattle.nc_spool.specs.declared.board.Board.{Board}
use Rattle.nc_spool.specs.declared.fact.Fact.{Fact}
use Rattle.nc_spool.specs.declared.fact.Fact.TheVariants as facts
use Rattle.nc_spool.specs.Board.{told as tells, looked, asked_from, entered, shelved, standing, opened}
use Rattle.nc_spool.specs.Newest.{begun}
use Rattle.nc_spool_laws.proofs.Lists.{all-append, all-changed}
use Rattle.nc_worker_state.specs.Spooled.{ask_line}
use Rattle.nc_rests.proofs.Received.{eqb_self}
use Rattle.nc_starts.specs.Asked.{edge_numbers}
use Rattle.nc_world_edges.specs.Edges.{HasEdgeAsk}
use Rattle.nc_world_told.specs.Written.{fact_event, fact_next, written, next_written}
use Rattle.nc_world_told.proofs.Sends.{Appends, same_facts, one_fact, then_facts}
use Rattle.nc_world_told.proofs.Written.{written_append}
use Rattle.nc_world_begins.specs.Knowing.{asked_numbers}

-- ---- the numbers of alerts

pub numbers_join : (k : ℕ) (c : List ℕ) (xs ys : List AlertLine) → edge_numbers k c (xs ++ ys) ≡ edge_numbers k c xs ++ edge_numbers k c ys
numbers_join k c [] ys = refl
numbers_join k c (lines.Edge number n d fence ∷ xs) ys = by ((n == k) && bytes_eq d c) (numbers_join k c xs ys)
  where
    by : (b : Bool) → edge_numbers k c (xs ++ ys) ≡ edge_numbers k c xs ++ edge_numbers k c ys
        → cond b (number ∷ edge_numbers k c (xs ++ ys)) (edge_numbers k c (xs ++ ys)) ≡ cond b (number ∷ edge_numbers k c xs) (edge_numbers k c xs) ++ edge_numbers k c ys
    by true is = ap (λ (l : List ℕ). number ∷ l) is
    by false is = is
numbers_join k c (a ∷ xs) ys = numbers_join k c xs ys

numbers_case : (b : Bool) (k : ℕ) (c : List ℕ) (xs : List AlertLine) (a : AlertLine) → edge_numbers k c (cond b (xs ++ a ∷ []) xs) ≡ edge_numbers k c xs ++ cond b (edge_numbers k c (a ∷ [])) []
numbers_case true k c xs a = numbers_join k c xs (a ∷ [])
numbers_case false k c xs a = sym (append-nil (edge_numbers k c xs))

-- an alert that a worker makes adds its number at the channel's owner
pub made_numbers : (workers me k : ℕ) (c : List ℕ) (to n : ℕ) (a : AlertLine) (h : List Event)
    → asked_numbers workers me k c (Made me to n a ∷ h) ≡ asked_numbers workers me k c h ++ cond (to == owner_of workers c) (edge_numbers k c (a ∷ [])) []
made_numbers workers me k c to n a h =
    ap (λ b. edge_numbers k c (made_to (owner_of workers c) (cond b (Made me to n a ∷ own me h) (own me h)))) (eqb_self me)
    ∙ numbers_case (to == owner_of workers c) k c (made_to (owner_of workers c) (own me h)) a

-- ---- who asked by a number

pub ask_stays : (number k fence : ℕ) (c : List ℕ) (e : Event) (l : List Event) → HasEdgeAsk number k c fence l → HasEdgeAsk number k c fence (e ∷ l)
ask_stays number k fence c (Made v to n (lines.Edge m j d f)) l has = inr has
ask_stays number k fence c e l has = has

pub own_ask_stays : (number k fence : ℕ) (c : List ℕ) (me : ℕ) (e : Event) (h : List Event) → HasEdgeAsk number k c fence (own me h) → HasEdgeAsk number k c fence (own me (e ∷ h))
own_ask_stays number k fence c me e h has = cond_both (is_by me e) (e ∷ own me h) (own me h) (HasEdgeAsk number k c fence) (λ _. ask_stays number k fence c e (own me h) has) (λ _. has)

-- somebody asked for each number that was asked
abbrev pub IsAskedIn : (k : ℕ) (c : List ℕ) → List Event → ℕ → Type 0
IsAskedIn k c l number = (fence : ℕ) × HasEdgeAsk number k c fence l

line_asked : (k : ℕ) (c : List ℕ) (v to n : ℕ) (a : AlertLine) (l : List Event) → AllByRecursion (IsAskedIn k c (Made v to n a ∷ l)) (edge_numbers k c (a ∷ []))
line_asked k c v to n (lines.Edge number j d f) l = by ((j == k) && bytes_eq d c) refl
  where
    by : (b : Bool) → ((j == k) && bytes_eq d c) ≡ b → AllByRecursion (IsAskedIn k c (Made v to n (lines.Edge number j d f) ∷ l)) (cond b (number ∷ []) [])
    by true was = let parts = and_parts (j == k) (bytes_eq d c) was in ((f, inl (refl, eqb-true j k parts.0, same_text d c (sym parts.1), refl)), tt)
    by false was = tt
line_asked k c v to n a l = tt

pub numbers_asked : (o k : ℕ) (c : List ℕ) (l : List Event) → AllByRecursion (IsAskedIn k c l) (edge_numbers k c (made_to o l))
numbers_asked o k c [] = tt
numbers_asked o k c (Made v to n a ∷ l) = by (to == o) (all-changed (IsAskedIn k c l) (IsAskedIn k c (Made v to n a ∷ l)) (edge_numbers k c (made_to o l)) (λ m x. (x.0, ask_stays m k x.0 c (Made v to n a) l x.1)) (numbers_asked o k c l))
  where
    by : (b : Bool) → AllByRecursion (IsAskedIn k c (Made v to n a ∷ l)) (edge_numbers k c (made_to o l)) → AllByRecursion (IsAskedIn k c (Made v to n a ∷ l)) (edge_numbers k c (cond b (made_to o l ++ a ∷ []) (made_to o l)))
    by true rest = subst (AllByRecursion (IsAskedIn k c (Made v to n a ∷ l))) (sym (numbers_join k c (made_to o l) (a ∷ [])))
        (all-append (IsAskedIn k c (Made v to n a ∷ l)) (edge_numbers k c (made_to o l)) (edge_numbers k c (a ∷ [])) rest (line_asked k c v to n a l))
    by false rest = rest
numbers_asked o k c (e ∷ l) = numbers_asked o k c l

-- ---- a history that goes on by facts

-- it has the same edges of the worker's subscribers, and all that was asked for
pub record IsGrown (me : ℕ) (old new : List Event) : Type 0 where
  pub told : (k : ℕ) (c : List ℕ) → edges_of me k c new ≡ edges_of me k c old
  pub asked : (number k fence : ℕ) (c : List ℕ) → HasEdgeAsk number k c fence (own me old) → HasEdgeAsk number k c fence (own me new)

-- and nothing more was asked for subscriber k
pub record IsSame (workers me k : ℕ) (old new : List Event) : Type 0 where
  pub grown : IsGrown me old new
  pub numbers : (c : List ℕ) → asked_numbers workers me k c new ≡ asked_numbers workers me k c old

pub grown_same : (me : ℕ) (h : List Event) → IsGrown me h h
grown_same me h = record { told = λ k c. refl; asked = λ number k fence c has. has }

pub grown_then : (me : ℕ) (h1 h2 h3 : List Event) → IsGrown me h1 h2 → IsGrown me h2 h3 → IsGrown me h1 h3
grown_then me h1 h2 h3 a b = record { told = λ k c. b.told k c ∙ a.told k c; asked = λ number k fence c has. b.asked number k fence c (a.asked number k fence c has) }

pub same_then : (workers me k : ℕ) (h1 h2 h3 : List Event) → IsSame workers me k h1 h2 → IsSame workers me k h2 h3 → IsSame workers me k h1 h3
same_then workers me k h1 h2 h3 a b = record { grown = grown_then me h1 h2 h3 a.grown b.grown; numbers = λ c. b.numbers c ∙ a.numbers c }

-- what is taken asks for nothing
pub took_same : (workers me k from n : ℕ) (kind : AlertKind) (h : List Event) → IsSame workers me k h (Took me from n kind ∷ h)
took_same workers me k from n kind h = record {
  grown = record { told = λ j c. refl; asked = λ number j fence c has. own_ask_stays number j fence c me (Took me from n kind) h has };
  numbers = λ c. ap (λ b. edge_numbers k c (made_to (owner_of workers c) (cond b (Took me from n kind ∷ own me h) (own me h)))) (eqb_self me);
}

-- ---- facts that ask for no edge of subscriber k

abbrev pub asks_of : ℕ → Ask → Bool
asks_of k (asks.Look number c after fence) = false
asks_of k (asks.Edge number j c fence) = j == k
asks_of k (asks.Join c j) = false
asks_of k (asks.Part c j) = false

abbrev pub IsAside : ℕ → Fact → Type 0
IsAside k (facts.Out o) = asks_of k o.ask ≡ false
IsAside k (facts.Started n cursor) = Unit {0}
IsAside k (facts.Sent s) = Unit {0}
IsAside k (facts.Ended n deleted) = Unit {0}

none_asked : (k : ℕ) (c : List ℕ) (ask : Ask) → asks_of k ask ≡ false → edge_numbers k c (ask_line ask ∷ []) ≡ []
none_asked k c (asks.Look number d after fence) aside = refl
none_asked k c (asks.Edge number j d fence) aside = ap (λ b. cond (b && bytes_eq d c) (number ∷ []) []) aside
none_asked k c (asks.Join d j) aside = refl
none_asked k c (asks.Part d j) aside = refl

none_case : (b : Bool) (l : List ℕ) → l ≡ [] → cond b l [] ≡ []
none_case true l none = none
none_case false l none = refl

numbers_one : (workers me k : ℕ) (cause : EndedCause) (next : ℕ → ℕ) (f : Fact) (h : List Event) → IsAside k f → (c : List ℕ) → asked_numbers workers me k c (fact_event me cause next f ∷ h) ≡ asked_numbers workers me k c h
numbers_one workers me k cause next (facts.Out o) h aside c =
    made_numbers workers me k c o.to (next o.to) (ask_line o.ask) h
    ∙ ap (λ (l : List ℕ). asked_numbers workers me k c h ++ l) (none_case (o.to == owner_of workers c) (edge_numbers k c (ask_line o.ask ∷ [])) (none_asked k c o.ask aside))
    ∙ append-nil (asked_numbers workers me k c h)
numbers_one workers me k cause next (facts.Started n cursor) h aside c =
    ap (λ b. edge_numbers k c (made_to (owner_of workers c) (cond b (fact_event me cause next (facts.Started n cursor) ∷ own me h) (own me h)))) (eqb_self me)
numbers_one workers me k cause next (facts.Sent s) h aside c =
    ap (λ b. edge_numbers k c (made_to (owner_of workers c) (cond b (fact_event me cause next (facts.Sent s) ∷ own me h) (own me h)))) (eqb_self me)
numbers_one workers me k cause next (facts.Ended n deleted) h aside c =
    ap (λ b. edge_numbers k c (made_to (owner_of workers c) (cond b (fact_event me cause next (facts.Ended n deleted) ∷ own me h) (own me h)))) (eqb_self me)

-- no fact of a worker tells an edge
told_one : (me : ℕ) (cause : EndedCause) (next : ℕ → ℕ) (f : Fact) (h : List Event) (k : ℕ) (c : List ℕ) → edges_of me k c (fact_event me cause next f ∷ h) ≡ edges_of me k c h
told_one me cause next (facts.Out o) h k c = refl
told_one me cause next (facts.Started n cursor) h k c = refl
told_one me cause next (facts.Sent s) h k c = refl
told_one me cause next (facts.Ended n deleted) h k c = refl

-- written, they keep what there was
pub grown_written : (me : ℕ) (cause : EndedCause) (next : ℕ → ℕ) (fs : List Fact) (h : List Event) → IsGrown me h (written me cause next fs h)
grown_written me cause next [] h = grown_same me h
grown_written me cause next (f ∷ fs) h =
    grown_then me h (fact_event me cause next f ∷ h) (written me cause next (f ∷ fs) h)
    (record { told = λ k c. told_one me cause next f h k c; asked = λ number k fence c has. own_ask_stays number k fence c me (fact_event me cause next f) h has })
    (grown_written me cause (fact_next me cause next f) fs (fact_event me cause next f ∷ h))

numbers_written : (workers me k : ℕ) (cause : EndedCause) (next : ℕ → ℕ) (fs : List Fact) (h : List Event) → AllByRecursion (IsAside k) fs → (c : List ℕ) → asked_numbers workers me k c (written me cause next fs h) ≡ asked_numbers workers me k c h
numbers_written workers me k cause next [] h aside c = refl
numbers_written workers me k cause next (f ∷ fs) h aside c =
    numbers_written workers me k cause (fact_next me cause next f) fs (fact_event me cause next f ∷ h) aside.1 c ∙ numbers_one workers me k cause next f h aside.0 c

pub same_written : (workers me k : ℕ) (cause : EndedCause) (next : ℕ → ℕ) (xs ys : List Fact) (h : List Event) → Appends (IsAside k) xs ys → IsSame workers me k (written me cause next xs h) (written me cause next ys h)
same_written workers me k cause next xs ys h a =
    subst (λ (l : List Fact). IsSame workers me k (written me cause next xs h) (written me cause next l h)) (sym a.are)
    (subst (IsSame workers me k (written me cause next xs h)) (sym (written_append me cause next xs a.facts h)) (record {
      grown = grown_written me cause (next_written me cause next xs) a.facts (written me cause next xs h);
      numbers = numbers_written workers me k cause (next_written me cause next xs) a.facts (written me cause next xs h) a.all;
    }))

-- who begins asks for looks alone
asked_aside : (k : ℕ) (key : KeyAt) (j : ℕ) (names : List (List ℕ)) (b : Board) → Appends (IsAside k) b.facts (asked_from key j names b).facts
asked_aside k key j [] b = same_facts (IsAside k) b.facts
asked_aside k key j (c ∷ names) b = then_facts (IsAside k) b.facts (looked c (id_at key j) 0 b).facts _ (one_fact (IsAside k) b.facts _ refl) (asked_aside k key (j + 1) names (looked c (id_at key j) 0 b))

entered_aside : (k : ℕ) (key : KeyAt) (r : Reader) (b : Board) → Appends (IsAside k) b.facts (entered key r b).facts
entered_aside k key r b = by (spool_of key b.shelf)
  where
    by : (o : Option SpoolAt) → Appends (IsAside k) b.facts (shelved (with_reader r (standing o key b)) (opened o key (record b { shelf = others key b.shelf }))).facts
    by None = asked_aside k key 0 key.list (record b { shelf = others key b.shelf })
    by (Some s) = same_facts (IsAside k) b.facts

pub begun_aside : (k : ℕ) (r : Reader) (key : KeyAt) (b : Board) → Appends (IsAside k) b.facts (begun r key b).facts
begun_aside k r key b = then_facts (IsAside k) b.facts (tells (facts.Started r.k key.cursor) b).facts _ (one_fact (IsAside k) b.facts _ tt) (entered_aside k key r (tells (facts.Started r.k key.cursor) b))
