-- Each call keeps that what is found and what is sent came by an answer to a look at its channel, or by a notice.
use Rattle.std.proofs.Common.{◌≡◌, inl, ℕ, zero, suc, ◌+◌, ◌<◌, ◌≤◌, Bool, true, false, cond, List, [], ◌∷◌, subst, Option, Some, None, length, get_or, arith}
use Rattle.std.specs.Prelude.{slice_index_or}
use Rattle.std.specs.List.{AllByRecursion}
use Rattle.nc_types.specs.Id.{Id}
use Rattle.nc_spool.specs.declared.ask.Ask.{Ask}
use Rattle.nc_spool.specs.declared.ask.Ask.TheVariants as asks
use Rattle.nc_spool.specs.declared.fact.Fact.{Fact}
use Rattle.nc_spool.specs.declared.fact.Fact.TheVariants.{Out, Started, Sent, Ended}
use Rattle.nc_spool_state.specs.declared.place.Quiet.{Quiet}
use Rattle.nc_spool_state.specs.declared.place.Place.{Place}
use Rattle.nc_spool_state.specs.declared.place.Place.TheVariants.{Asked, Nothing, Found}
use Rattle.nc_spool_state.specs.declared.choice.Find.{Find}
use Rattle.nc_spool_state.specs.declared.choice.Choice.TheVariants.{Send}
use Rattle.nc_spool_state.specs.declared.hear.News.{News}
use Rattle.nc_spool_state.specs.declared.edge.Edge.{Edge}
use Rattle.nc_spool.specs.declared.board.Board.{Board}
use Rattle.nc_spool_state.specs.Key.{KeyAt, name_at, id_at}
use Rattle.nc_spool_state.specs.Spool.{SpoolAt, no_place, place_at, with_place, with_reader}
use Rattle.nc_spool_state.specs.Hear.{found_by}
use Rattle.nc_spool_state.specs.Choice.{choice, is_below}
use Rattle.nc_spool_state.specs.Edge.{is_behind, newest_time}
use Rattle.nc_spool.specs.Board.{told, looked, asked_from, fresh_spool, parted, shelved}
use Rattle.nc_spool.specs.Decide.{fence_look, fence_looks, fenced_places, delivery, sending}
use Rattle.nc_spool.specs.Hear.{looked_again}
use Rattle.nc_spool.specs.Arrive.{joined}
use Rattle.nc_spool.specs.Newest.{edges_from, asked_edge, edge_behind, edges_behind}
use Rattle.nc_spool_laws.proofs.Closing.{IsClosed, out}
use Rattle.nc_spool_laws.specs.Guards.{IsFind}
use Rattle.nc_spool_laws.specs.Attended.{AnyLast, AnyKey}
use Rattle.nc_spool_laws.specs.Knowing.{Knows, IsKnowing, AllWere, FactWas, BoardKnows, BesideKnows, IsRight, IsGood}
use Rattle.nc_spool_laws.proofs.Knowledge as knowledge
use Rattle.nc_spool_laws.proofs.Lists.{all-append, all-changed}
use Rattle.nc_spool_laws.proofs.Guarding.{sends-guarded}
use Rattle.nc_spool_laws.proofs.Walk.{all-kept}
use Rattle.nc_spool_brought.specs.Brought.{news_of}
use Rattle.nc_spool_brought.specs.Came.{IsAsked, PlaceCame, SpoolCame, AskDraws, FactCame, BoardCame, NoticeBrings, AnswerBrings, FindCame, BesideCame, ApartCame, KeepsCame}

-- nothing is said of answers of "nothing"
abbrev AnyRest : List ℕ → Id → Quiet → Type 0
AnyRest c after quiet = Unit {0}

module _ (first : ℕ) (Was : ℕ → List ℕ → Id → Type 0) (Came : List ℕ → News → Type 0) where
  -- whatever id it is past, and whatever look the place rests on
  abbrev CameBehind : List ℕ → Id → ℕ → News → Type 0
  CameBehind c after q news = Came c news

  abbrev Looked : ℕ → List ℕ → Id → Type 0
  Looked = IsAsked first Was Came

  -- ---- each look that is told draws its number in the call

  look-asked : (a : Ask) (to : ℕ) → AskDraws first Was Came a → FactWas Looked AnyRest CameBehind (Out (record { to = to; ask = a }))
  look-asked (asks.Look number c after fence) to d = inl d
  look-asked (asks.Edge number k c fence) to d = tt
  look-asked (asks.Join c k) to d = tt
  look-asked (asks.Part c k) to d = tt

  all-asked : (facts : List Fact) → AllByRecursion (FactCame first Was Came) facts → AllWere Looked AnyRest CameBehind facts
  all-asked [] f = tt
  all-asked (Out asking ∷ facts) f = (look-asked asking.ask asking.to f.0, all-asked facts f.1)
  all-asked (Started k cursor ∷ facts) f = (tt, all-asked facts f.1)
  all-asked (Sent sending ∷ facts) f = (tt, all-asked facts f.1)
  all-asked (Ended k deleted ∷ facts) f = (tt, all-asked facts f.1)

  -- ---- what a place knows then is its look, or how its message came

  knows-of : (c : List ℕ) (after : Id) (p : Place) → PlaceCame first Was Came c after p → Knows Looked AnyRest CameBehind c after p
  knows-of c after (Asked number None) k = k
  knows-of c after (Asked number (Some quiet)) k = (k, tt)
  knows-of c after (Nothing quiet) k = tt
  knows-of c after (Found q id owner g) k = k

  of-knows : (c : List ℕ) (after : Id) (p : Place) → Knows Looked AnyRest CameBehind c after p → PlaceCame first Was Came c after p
  of-knows c after (Asked number None) k = k
  of-knows c after (Asked number (Some quiet)) k = k.0
  of-knows c after (Nothing quiet) k = tt
  of-knows c after (Found q id owner g) k = k

  abbrev Known : SpoolAt → Type 0
  Known = IsKnowing Looked AnyRest CameBehind

  spool-knows : (s : SpoolAt) → SpoolCame first Was Came s → Known s
  spool-knows s k j lt = knows-of (name_at s.key j) (id_at s.key j) (place_at s j) (k j lt)

  spool-of : (s : SpoolAt) → Known s → SpoolCame first Was Came s
  spool-of s k j lt = of-knows (name_at s.key j) (id_at s.key j) (place_at s j) (k j lt)

  board-knows : (b : Board) → BoardCame first Was Came b → BoardKnows Looked AnyRest CameBehind b
  board-knows b i w = all-changed (SpoolCame first Was Came) Known b.shelf spool-knows i.1

  beside-knows : (s : SpoolAt) (b : Board) → BesideCame first Was Came s b → BesideKnows Looked AnyRest CameBehind s b
  beside-knows s b i w = (spool-knows s i.0, board-knows b i.1 w)

  -- the next number and the facts
  abbrev Facts : Board → Type 0
  Facts b = (first ≤ b.next) × AllByRecursion (FactCame first Was Came) b.facts

  facts-in : (b : Board) → BoardCame first Was Came b → Facts b
  facts-in b i = (i.0, i.2)

  in-of : (b : Board) → BoardKnows Looked AnyRest CameBehind b → Facts b → BoardCame first Was Came b
  in-of b k f = (f.0, all-changed Known (SpoolCame first Was Came) b.shelf spool-of (k (all-asked b.facts f.1)), f.1)

  beside-of : (s : SpoolAt) (b : Board) → BesideKnows Looked AnyRest CameBehind s b → Facts b → BesideCame first Was Came s b
  beside-of s b k f =
      let known = k (all-asked b.facts f.1) in
      (spool-of s known.0, (f.0, all-changed Known (SpoolCame first Was Came) b.shelf spool-of known.1, f.1))

  good-of : (c : List ℕ) (news : News) → NoticeBrings first Was Came c news → IsGood Looked AnyRest CameBehind c news
  good-of c news k after quiet rested past = k

  right-of : (number : ℕ) (quiet : Quiet) (news : Option News) → AnswerBrings first Was Came number quiet news → IsRight Looked AnyRest CameBehind number quiet news
  right-of number quiet None k c after was = tt
  right-of number quiet (Some news) k c after was = ((λ past. k c after was), (λ past. tt))

  -- ---- facts

  told-came : (fact : Fact) (b : Board) → FactCame first Was Came fact → Facts b → Facts (told fact b)
  told-came fact b f i = (i.0, all-append (FactCame first Was Came) b.facts (fact ∷ []) i.1 (f, tt))

  looked-came : (c : List ℕ) (after : Id) (fence : ℕ) (b : Board) → Facts b → Facts (looked c after fence b)
  looked-came c after fence b i = (omega (arith, i.0), all-append (FactCame first Was Came) b.facts (_ ∷ []) i.1 (i.0, tt))

  edge-came : (k : ℕ) (c : List ℕ) (fence : ℕ) (b : Board) → Facts b → Facts (asked_edge k c fence b)
  edge-came k c fence b i = (omega (arith, i.0), all-append (FactCame first Was Came) b.facts (_ ∷ []) i.1 (tt, tt))

  asked-came : (key : KeyAt) (j : ℕ) (names : List (List ℕ)) (b : Board) → Facts b → Facts (asked_from key j names b)
  asked-came key j [] b i = i
  asked-came key j (c ∷ names) b i = asked-came key (j + 1) names (looked c (id_at key j) 0 b) (looked-came c (id_at key j) 0 b i)

  fence-came : (time : ℕ) (key : KeyAt) (j : ℕ) (p : Place) (b : Board) → Facts b → Facts (fence_look time key j p b)
  fence-came time key j p b i = by (is_below time p)
    where
      by : (t : Bool) → Facts (cond t (looked (name_at key j) (id_at key j) time b) b)
      by true = looked-came (name_at key j) (id_at key j) time b i
      by false = i

  fences-came : (time : ℕ) (key : KeyAt) (j : ℕ) (places : List Place) (b : Board) → Facts b → Facts (fence_looks time key j places b)
  fences-came time key j [] b i = i
  fences-came time key j (p ∷ places) b i = fences-came time key (j + 1) places (fence_look time key j p b) (fence-came time key j p b i)

  edges-came : (k : ℕ) (names : List (List ℕ)) (b : Board) → Facts b → Facts (edges_from k names b)
  edges-came k [] b i = i
  edges-came k (c ∷ names) b i = edges-came k names (asked_edge k c 0 b) (edge-came k c 0 b i)

  behind-came : (time k : ℕ) (c : List ℕ) (e : Edge) (b : Board) → Facts b → Facts (edge_behind time k c e b)
  behind-came time k c e b i = by (is_behind time e)
    where
      by : (t : Bool) → Facts (cond t (asked_edge k c time b) b)
      by true = edge-came k c time b i
      by false = i

  behinds-came : (time k : ℕ) (list : List (List ℕ)) (j : ℕ) (edges : List Edge) (b : Board) → Facts b → Facts (edges_behind time k list j edges b)
  behinds-came time k list j [] b i = i
  behinds-came time k list j (e ∷ edges) b i = behinds-came time k list (j + 1) edges (edge_behind time k (slice_index_or list j []) e b) (behind-came time k (slice_index_or list j []) e b i)

  -- ---- what is about to be sent

  found-within : (find : Find) (places : List Place) (i : ℕ) → IsFind find (get_or places i no_place) → i < length places
  found-within find [] i f = absurd f
  found-within find (p ∷ places) zero f = omega arith
  found-within find (p ∷ places) (suc i) f = omega (arith, found-within find places i f)

  find-came : (c : List ℕ) (after : Id) (find : Find) (p : Place) → IsFind find p → PlaceCame first Was Came c after p → Came c (news_of find.id find.owner find.g)
  find-came c after find (Asked number earlier) f k = absurd f
  find-came c after find (Nothing quiet) f k = absurd f
  find-came c after find (Found q id owner g) f k = subst (Came c) (λ i. news_of (f.0 i) (f.1 i) (f.2 i)) k

  ready-came : (find : Find) (s : SpoolAt) (b : Board) → choice s.places ≡ Send find → BesideCame first Was Came s b → FindCame first Was Came find s
  ready-came find s b was i =
      let there = (sends-guarded s.places find was).place in
      find-came (name_at s.key find.place) (id_at s.key find.place) find (place_at s find.place) there (i.0 find.place (found-within find s.places find.place there))

  -- ---- all small steps

  pub closed : IsClosed (NoticeBrings first Was Came) (AnswerBrings first Was Came) AnyLast AnyKey (FindCame first Was Came) (BoardCame first Was Came) (BesideCame first Was Came) (ApartCame first Was Came)
  closed =
      let base = knowledge.closed Looked AnyRest CameBehind in
      record {
        sends = record {
          part = λ k c b i. in-of (parted k b c) (base.sends.part k c b (board-knows b i)) (told-came _ b tt (facts-in b i));
          end = λ k deleted b i. in-of (told (Ended k deleted) b) (base.sends.end k deleted b (board-knows b i)) (told-came (Ended k deleted) b tt (facts-in b i));
          ready = ready-came;
          send = λ find s r b ready i. in-of (told (Sent (sending (delivery find s) r)) b) (base.sends.send find s r b tt (board-knows b i)) (told-came _ b ready (facts-in b i));
          take = λ test s b was i. beside-of s (out test b) (base.sends.take test s b was (board-knows b i)) (facts-in b i);
          put = λ s b i. in-of (shelved s b) (base.sends.put s b (beside-knows s b i)) (facts-in b i.1);
          drop = λ s b i. i.1;
          open_new = λ key r b none fits i. beside-of (with_reader r (fresh_spool b.next key)) (asked_from key 0 key.list b) (base.sends.open_new key r b none tt (board-knows b i)) (asked-came key 0 key.list b (facts-in b i));
          fits = λ find s ready. tt;
          enter = λ r s b i. i;
          fence = λ time s b was unasked i. beside-of (record s { places = fenced_places time s.key 0 s.places b }) (fence_looks time s.key 0 s.places b) (base.sends.fence time s b was unasked (beside-knows s b i)) (fences-came time s.key 0 s.places b (facts-in b i.1));
        };
        join = λ k c b i. in-of (joined k b c) (base.join k c b (board-knows b i)) (told-came _ b tt (facts-in b i));
        start = λ k cursor b i. in-of (told (Started k cursor) b) (base.start k cursor b (board-knows b i)) (told-came (Started k cursor) b tt (facts-in b i));
        leave = λ k s b i some. i;
        look = λ c j s b at i. beside-of (with_place j (Asked b.next None) s) (looked_again s.key j b) (base.look c j s b at (beside-knows s b i)) (looked-came (name_at s.key j) (id_at s.key j) 0 b (facts-in b i.1));
        forget = λ c j n quiet s b at was i. beside-of (with_place j (Asked n None) s) b (base.forget c j n quiet s b at was (beside-knows s b i)) (facts-in b i.1);
        quieten = λ number j quiet news s b at right none i. beside-of (with_place j (Nothing quiet) s) b (base.quieten number j quiet news s b at (right-of number quiet news right) none (beside-knows s b i)) (facts-in b i.1);
        discover = λ number j quiet news s b at right past i. beside-of (with_place j (found_by quiet.q news) s) b (base.discover number j quiet news s b at (right-of number quiet (Some news) right) past (beside-knows s b i)) (facts-in b i.1);
        hear = λ c j quiet news s b at rests good past i. beside-of (with_place j (found_by quiet.q news) s) b (base.hear c j quiet news s b at rests (good-of c news good) past (beside-knows s b i)) (facts-in b i.1);
        take_start = λ test s b was i. i;
        put_start = λ s b i. i;
        drop_start = λ s b i. i;
        new_start = λ r list b fits i. in-of (edges_from r.k list b) (base.new_start r list b tt (board-knows b i)) (edges-came r.k list b (facts-in b i));
        hear_edge = λ j floor last s b told i. i;
        newest_fits = λ s b i. tt;
        cursor_fits = λ cursor s b was i. tt;
        fence_edges = λ s b i. in-of (edges_behind (newest_time s.edges) s.reader.k s.list 0 s.edges b) (base.fence_edges s b (board-knows b i)) (behinds-came (newest_time s.edges) s.reader.k s.list 0 s.edges b (facts-in b i));
      }

  pub came-kept : KeepsCame first Was Came
  came-kept = all-kept (NoticeBrings first Was Came) (AnswerBrings first Was Came) AnyLast AnyKey (FindCame first Was Came) (BoardCame first Was Came) (BesideCame first Was Came) (ApartCame first Was Came) closed
