-- Each call keeps how messages came, that are found and that are sent.
use Rattle.std.proofs.Common.{◌≡◌, ℕ, zero, suc, ◌+◌, ◌<◌, Bool, true, false, cond, List, [], ◌∷◌, subst, Option, Some, None, length, get_or, arith}
use Rattle.std.specs.Prelude.{slice_index_or}
use Rattle.std.specs.List.{AllByRecursion}
use Rattle.nc_types.specs.Id.{Id}
use Rattle.nc_spool.specs.declared.ask.Ask.{Ask}
use Rattle.nc_spool.specs.declared.ask.Ask.TheVariants as asks
use Rattle.nc_spool.specs.declared.fact.Fact.{Fact}
use Rattle.nc_spool.specs.declared.fact.Fact.TheVariants.{Out, Started, Sent, Ended}
use Rattle.nc_spool_state.specs.declared.place.Quiet.{Quiet}
use Rattle.nc_spool_state.specs.declared.place.Place.{Place}
use Rattle.nc_spool_state.specs.declared.place.Place.TheVariants.{Asked, Nothing, Found}
use Rattle.nc_spool_state.specs.declared.choice.Find.{Find}
use Rattle.nc_spool_state.specs.declared.choice.Choice.TheVariants.{Send}
use Rattle.nc_spool_state.specs.declared.hear.News.{News}
use Rattle.nc_spool_state.specs.declared.edge.Edge.{Edge}
use Rattle.nc_spool.specs.declared.board.Board.{Board}
use Rattle.nc_spool_state.specs.Key.{KeyAt, name_at, id_at}
use Rattle.nc_spool_state.specs.Spool.{SpoolAt, no_place, place_at, with_place, with_reader}
use Rattle.nc_spool_state.specs.Hear.{found_by}
use Rattle.nc_spool_state.specs.Choice.{choice, is_below}
use Rattle.nc_spool_state.specs.Edge.{is_behind, newest_time}
use Rattle.nc_spool.specs.Board.{told, looked, asked_from, fresh_spool, parted, shelved}
use Rattle.nc_spool.specs.Decide.{fence_look, fence_looks, fenced_places, delivery, sending}
use Rattle.nc_spool.specs.Hear.{looked_again}
use Rattle.nc_spool.specs.Arrive.{joined}
use Rattle.nc_spool.specs.Newest.{edges_from, asked_edge, edge_behind, edges_behind}
use Rattle.nc_spool_laws.proofs.Closing.{IsClosed, out}
use Rattle.nc_spool_laws.specs.Guards.{IsFind}
use Rattle.nc_spool_laws.specs.Attended.{AnyLast, AnyKey}
use Rattle.nc_spool_laws.specs.Knowing.{Knows, IsKnowing, AllWere, FactWas, BoardKnows, BesideKnows, IsRight, IsGood}
use Rattle.nc_spool_laws.proofs.Knowledge as knowledge
use Rattle.nc_spool_laws.proofs.Lists.{all-append, all-changed}
use Rattle.nc_spool_laws.proofs.Guarding.{sends-guarded}
use Rattle.nc_spool_laws.proofs.Walk.{all-kept}
use Rattle.nc_spool_brought.specs.Brought.{news_of, IsBrought, PlaceBrought, SpoolBrought, FactBrought, BoardBrought, NoticeBrings, AnswerBrings, FindBrought, BesideBrought, ApartBrought, KeepsBrought}

-- nothing is said of looks and of answers of "nothing"
abbrev AnyLook : ℕ → List ℕ → Id → Type 0
AnyLook number c after = Unit {0}

abbrev AnyRest : List ℕ → Id → Quiet → Type 0
AnyRest c after quiet = Unit {0}

module _ (Came : List ℕ → ℕ → News → Type 0) where
  -- whatever id it is past
  abbrev CameBehind : List ℕ → Id → ℕ → News → Type 0
  CameBehind c after q news = Came c q news

  any-look : (facts : List Fact) → AllWere AnyLook AnyRest CameBehind facts
  any-look [] = tt
  any-look (Out outgoing ∷ facts) = (by outgoing.ask, any-look facts)
    where
      by : (a : Ask) → FactWas AnyLook AnyRest CameBehind (Out (record { to = outgoing.to; ask = a }))
      by (asks.Look number c after fence) = tt
      by (asks.Edge number k c fence) = tt
      by (asks.Join c k) = tt
      by (asks.Part c k) = tt
  any-look (Started k cursor ∷ facts) = (tt, any-look facts)
  any-look (Sent sending ∷ facts) = (tt, any-look facts)
  any-look (Ended k deleted ∷ facts) = (tt, any-look facts)

  -- ---- what a place knows then is how its message came

  knows-of : (c : List ℕ) (after : Id) (p : Place) → PlaceBrought Came c p → Knows AnyLook AnyRest CameBehind c after p
  knows-of c after (Asked number None) k = tt
  knows-of c after (Asked number (Some quiet)) k = (tt, tt)
  knows-of c after (Nothing quiet) k = tt
  knows-of c after (Found q id owner g) k = k

  of-knows : (c : List ℕ) (after : Id) (p : Place) → Knows AnyLook AnyRest CameBehind c after p → PlaceBrought Came c p
  of-knows c after (Asked number None) k = tt
  of-knows c after (Asked number (Some quiet)) k = tt
  of-knows c after (Nothing quiet) k = tt
  of-knows c after (Found q id owner g) k = k

  abbrev Known : SpoolAt → Type 0
  Known = IsKnowing AnyLook AnyRest CameBehind

  spool-knows : (s : SpoolAt) → SpoolBrought Came s → Known s
  spool-knows s k j lt = knows-of (name_at s.key j) (id_at s.key j) (place_at s j) (k j lt)

  spool-of : (s : SpoolAt) → Known s → SpoolBrought Came s
  spool-of s k j lt = of-knows (name_at s.key j) (id_at s.key j) (place_at s j) (k j lt)

  board-knows : (b : Board) → BoardBrought Came b → BoardKnows AnyLook AnyRest CameBehind b
  board-knows b i w = all-changed (SpoolBrought Came) Known b.shelf spool-knows i.0

  beside-knows : (s : SpoolAt) (b : Board) → BesideBrought Came s b → BesideKnows AnyLook AnyRest CameBehind s b
  beside-knows s b i w = (spool-knows s i.0, board-knows b i.1 w)

  in-of : (b : Board) → BoardKnows AnyLook AnyRest CameBehind b → AllByRecursion (FactBrought Came) b.facts → BoardBrought Came b
  in-of b k f = (all-changed Known (SpoolBrought Came) b.shelf spool-of (k (any-look b.facts)), f)

  beside-of : (s : SpoolAt) (b : Board) → BesideKnows AnyLook AnyRest CameBehind s b → AllByRecursion (FactBrought Came) b.facts → BesideBrought Came s b
  beside-of s b k f = (spool-of s (k (any-look b.facts)).0, (all-changed Known (SpoolBrought Came) b.shelf spool-of (k (any-look b.facts)).1, f))

  good-of : (c : List ℕ) (news : News) → NoticeBrings Came c news → IsGood AnyLook AnyRest CameBehind c news
  good-of c news k after quiet rested past = k quiet.q

  right-of : (number : ℕ) (quiet : Quiet) (news : Option News) → AnswerBrings Came number quiet news → IsRight AnyLook AnyRest CameBehind number quiet news
  right-of number quiet None k c after was = tt
  right-of number quiet (Some news) k c after was = ((λ past. k c), (λ past. tt))

  -- ---- facts

  abbrev Facts : Board → Type 0
  Facts b = AllByRecursion (FactBrought Came) b.facts

  told-brought : (fact : Fact) (b : Board) → FactBrought Came fact → Facts b → Facts (told fact b)
  told-brought fact b f i = all-append (FactBrought Came) b.facts (fact ∷ []) i (f, tt)

  asked-brought : (key : KeyAt) (j : ℕ) (names : List (List ℕ)) (b : Board) → Facts b → Facts (asked_from key j names b)
  asked-brought key j [] b i = i
  asked-brought key j (c ∷ names) b i = asked-brought key (j + 1) names (looked c (id_at key j) 0 b) (all-append (FactBrought Came) b.facts (_ ∷ []) i (tt, tt))

  fence-brought : (time : ℕ) (key : KeyAt) (j : ℕ) (p : Place) (b : Board) → Facts b → Facts (fence_look time key j p b)
  fence-brought time key j p b i = by (is_below time p)
    where
      by : (t : Bool) → Facts (cond t (looked (name_at key j) (id_at key j) time b) b)
      by true = all-append (FactBrought Came) b.facts (_ ∷ []) i (tt, tt)
      by false = i

  fences-brought : (time : ℕ) (key : KeyAt) (j : ℕ) (places : List Place) (b : Board) → Facts b → Facts (fence_looks time key j places b)
  fences-brought time key j [] b i = i
  fences-brought time key j (p ∷ places) b i = fences-brought time key (j + 1) places (fence_look time key j p b) (fence-brought time key j p b i)

  edges-brought : (k : ℕ) (names : List (List ℕ)) (b : Board) → Facts b → Facts (edges_from k names b)
  edges-brought k [] b i = i
  edges-brought k (c ∷ names) b i = edges-brought k names (asked_edge k c 0 b) (all-append (FactBrought Came) b.facts (_ ∷ []) i (tt, tt))

  behind-brought : (time k : ℕ) (c : List ℕ) (e : Edge) (b : Board) → Facts b → Facts (edge_behind time k c e b)
  behind-brought time k c e b i = by (is_behind time e)
    where
      by : (t : Bool) → Facts (cond t (asked_edge k c time b) b)
      by true = all-append (FactBrought Came) b.facts (_ ∷ []) i (tt, tt)
      by false = i

  behinds-brought : (time k : ℕ) (list : List (List ℕ)) (j : ℕ) (edges : List Edge) (b : Board) → Facts b → Facts (edges_behind time k list j edges b)
  behinds-brought time k list j [] b i = i
  behinds-brought time k list j (e ∷ edges) b i = behinds-brought time k list (j + 1) edges (edge_behind time k (slice_index_or list j []) e b) (behind-brought time k (slice_index_or list j []) e b i)

  -- ---- what is about to be sent

  found-within : (find : Find) (places : List Place) (i : ℕ) → IsFind find (get_or places i no_place) → i < length places
  found-within find [] i f = absurd f
  found-within find (p ∷ places) zero f = omega arith
  found-within find (p ∷ places) (suc i) f = omega (arith, found-within find places i f)

  find-brought : (c : List ℕ) (find : Find) (p : Place) → IsFind find p → PlaceBrought Came c p → IsBrought Came c (news_of find.id find.owner find.g)
  find-brought c find (Asked number earlier) f k = absurd f
  find-brought c find (Nothing quiet) f k = absurd f
  find-brought c find (Found q id owner g) f k = record { q = q; came = subst (Came c q) (λ i. news_of (f.0 i) (f.1 i) (f.2 i)) k }

  ready-brought : (find : Find) (s : SpoolAt) (b : Board) → choice s.places ≡ Send find → BesideBrought Came s b → FindBrought Came find s
  ready-brought find s b was i =
      let there = (sends-guarded s.places find was).place in
      find-brought (name_at s.key find.place) find (place_at s find.place) there (i.0 find.place (found-within find s.places find.place there))

  -- ---- all small steps

  pub closed : IsClosed (NoticeBrings Came) (AnswerBrings Came) AnyLast AnyKey (FindBrought Came) (BoardBrought Came) (BesideBrought Came) (ApartBrought Came)
  closed =
      let base = knowledge.closed AnyLook AnyRest CameBehind in
      record {
        sends = record {
          part = λ k c b i. in-of (parted k b c) (base.sends.part k c b (board-knows b i)) (told-brought _ b tt i.1);
          end = λ k deleted b i. in-of (told (Ended k deleted) b) (base.sends.end k deleted b (board-knows b i)) (told-brought (Ended k deleted) b tt i.1);
          ready = ready-brought;
          send = λ find s r b ready i. in-of (told (Sent (sending (delivery find s) r)) b) (base.sends.send find s r b tt (board-knows b i)) (told-brought _ b ready i.1);
          take = λ test s b was i. beside-of s (out test b) (base.sends.take test s b was (board-knows b i)) i.1;
          put = λ s b i. in-of (shelved s b) (base.sends.put s b (beside-knows s b i)) i.1.1;
          drop = λ s b i. i.1;
          open_new = λ key r b none fits i. beside-of (with_reader r (fresh_spool b.next key)) (asked_from key 0 key.list b) (base.sends.open_new key r b none tt (board-knows b i)) (asked-brought key 0 key.list b i.1);
          fits = λ find s ready. tt;
          enter = λ r s b i. i;
          fence = λ time s b was unasked i. beside-of (record s { places = fenced_places time s.key 0 s.places b }) (fence_looks time s.key 0 s.places b) (base.sends.fence time s b was unasked (beside-knows s b i)) (fences-brought time s.key 0 s.places b i.1.1);
        };
        join = λ k c b i. in-of (joined k b c) (base.join k c b (board-knows b i)) (told-brought _ b tt i.1);
        start = λ k cursor b i. in-of (told (Started k cursor) b) (base.start k cursor b (board-knows b i)) (told-brought (Started k cursor) b tt i.1);
        leave = λ k s b i some. i;
        look = λ c j s b at i. beside-of (with_place j (Asked b.next None) s) (looked_again s.key j b) (base.look c j s b at (beside-knows s b i)) (all-append (FactBrought Came) b.facts (_ ∷ []) i.1.1 (tt, tt));
        forget = λ c j n quiet s b at was i. beside-of (with_place j (Asked n None) s) b (base.forget c j n quiet s b at was (beside-knows s b i)) i.1.1;
        quieten = λ number j quiet news s b at right none i. beside-of (with_place j (Nothing quiet) s) b (base.quieten number j quiet news s b at (right-of number quiet news right) none (beside-knows s b i)) i.1.1;
        discover = λ number j quiet news s b at right past i. beside-of (with_place j (found_by quiet.q news) s) b (base.discover number j quiet news s b at (right-of number quiet (Some news) right) past (beside-knows s b i)) i.1.1;
        hear = λ c j quiet news s b at rests good past i. beside-of (with_place j (found_by quiet.q news) s) b (base.hear c j quiet news s b at rests (good-of c news good) past (beside-knows s b i)) i.1.1;
        take_start = λ test s b was i. i;
        put_start = λ s b i. i;
        drop_start = λ s b i. i;
        new_start = λ r list b fits i. in-of (edges_from r.k list b) (base.new_start r list b tt (board-knows b i)) (edges-brought r.k list b i.1);
        hear_edge = λ j floor last s b told i. i;
        newest_fits = λ s b i. tt;
        cursor_fits = λ cursor s b was i. tt;
        fence_edges = λ s b i. in-of (edges_behind (newest_time s.edges) s.reader.k s.list 0 s.edges b) (base.fence_edges s b (board-knows b i)) (behinds-brought (newest_time s.edges) s.reader.k s.list 0 s.edges b i.1);
      }

  pub brought-kept : KeepsBrought Came
  brought-kept = all-kept (NoticeBrings Came) (AnswerBrings Came) AnyLast AnyKey (FindBrought Came) (BoardBrought Came) (BesideBrought Came) (ApartBrought Came) closed
