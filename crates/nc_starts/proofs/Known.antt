-- What the edges of each place told gives the start.
use Rattle.std.proofs.Common.{◌≡◌, ℕ, Bool, true, false, cond, List, [], ◌∷◌, ◌++◌, refl, sym, ap, ◌∙◌, subst}
use Rattle.std.specs.Prelude.{◌&&◌, ◌==◌, bytes_eq}
use Rattle.std.specs.List.{AllByRecursion}
use Rattle.std.specs.Cmp.Lexicographic.{same_text}
use Rattle.std.proofs.lemmas.Bool.{eqb-true, and_parts}
use Rattle.nc_types.specs.Id.{Id}
use Rattle.nc_types.specs.Channel.{owner_of}
use Rattle.nc_journal.specs.declared.event.Event.{Event}
use Rattle.nc_journal.specs.declared.event.Event.TheVariants.{Edged}
use Rattle.nc_rests.specs.Owners.{IsByOwner}
use Rattle.nc_journal.specs.Edges.{IsEdge, EdgeTold, edge_told, edges_of, Edges, One, Two}
use Rattle.nc_journal.specs.Newest.{greatest_time}
use Rattle.nc_starts.specs.EdgesTold.{EdgesTold, Once, Twice, ToldStarts}

-- the newest edge of some, in the whole history
record NewestEdge (workers w k : ℕ) (c : List ℕ) (first : EdgeTold) (rest : List EdgeTold) (h : List Event) : Type 0 where
  since : List Event
  edge : Event
  seen : List Event
  place : h ≡ since ++ edge ∷ seen
  is : IsEdge (owner_of workers c) w k c first.floor first.last edge
  none_since : edges_of w k c since ≡ []
  before : edges_of w k c seen ≡ rest
  by_owner : AllByRecursion (IsByOwner workers) seen

edge_more : (workers w k : ℕ) (c : List ℕ) (first : EdgeTold) (rest : List EdgeTold) (e : Event) (h : List Event) → (n : NewestEdge workers w k c first rest h) → edges_of w k c (e ∷ n.since) ≡ edges_of w k c n.since → NewestEdge workers w k c first rest (e ∷ h)
edge_more workers w k c first rest e h n same = record { since = e ∷ n.since; edge = n.edge; seen = n.seen; place = ap (λ (l : List Event). e ∷ l) n.place; is = n.is; none_since = same ∙ n.none_since; before = n.before; by_owner = n.by_owner }

newest_edge : (workers w k : ℕ) (c : List ℕ) (first : EdgeTold) (rest : List EdgeTold) (h : List Event) → AllByRecursion (IsByOwner workers) h → edges_of w k c h ≡ first ∷ rest → NewestEdge workers w k c first rest h
newest_edge workers w k c first rest [] by told = absurd cc
newest_edge workers w k c first rest (Edged v q from number n d floor last ∷ h) by told = go ((from == w) && ((n == k) && bytes_eq d c)) refl (newest_edge workers w k c first rest h by.1) told
  where
    here : EdgeTold
    here = edge_told number floor last

    go : (b : Bool) → ((from == w) && ((n == k) && bytes_eq d c)) ≡ b → (edges_of w k c h ≡ first ∷ rest → NewestEdge workers w k c first rest h) → cond b (edge_told number floor last ∷ edges_of w k c h) (edges_of w k c h) ≡ first ∷ rest
        → NewestEdge workers w k c first rest (Edged v q from number n d floor last ∷ h)
    go true is more told =
        let a = and_parts (from == w) ((n == k) && bytes_eq d c) is in
        let b = and_parts (n == k) (bytes_eq d c) a.1 in
        let this : EdgeTold = edge_told number floor last in
        let same : this ≡ first = cc in
        let older : edges_of w k c h ≡ rest = cc in
        record {
          since = [];
          edge = Edged v q from number n d floor last;
          seen = h;
          place = refl;
          is = (by.0 ∙ ap (owner_of workers) (same_text d c (sym b.1)), eqb-true from w a.0, eqb-true n k b.0, same_text d c (sym b.1), ap (λ (x : EdgeTold). x.floor) same, ap (λ (x : EdgeTold). x.last) same);
          none_since = refl;
          before = older;
          by_owner = by.1;
        }
    go false is more told =
        let m = more told in
        edge_more workers w k c first rest (Edged v q from number n d floor last) h m (ap (λ b. cond b (edge_told number floor last ∷ edges_of w k c m.since) (edges_of w k c m.since)) is)
newest_edge workers w k c first rest (e ∷ h) by told = let m = newest_edge workers w k c first rest h by.1 told in edge_more workers w k c first rest e h m refl

told_edges : (workers w k : ℕ) (c : List ℕ) (time : ℕ) (last : Id) (h : List Event) (ts : List EdgeTold) → AllByRecursion (IsByOwner workers) h → edges_of w k c h ≡ ts → EdgesTold time last ts → Edges workers w k c time last h
told_edges workers w k c time last h [] by told none = elim none [ ]
told_edges workers w k c time last h (x ∷ []) by told (Once first same fence) =
    let n = newest_edge workers w k c first [] h by told in
    One n.since n.edge n.seen first.floor n.place (subst (λ (x : Id). IsEdge (owner_of workers c) w k c first.floor x n.edge) same n.is) fence n.none_since n.before
told_edges workers w k c time last h (y ∷ x ∷ []) by told (Twice second first same below fence) =
    let m = newest_edge workers w k c second (first ∷ []) h by told in
    let n = newest_edge workers w k c first [] m.seen m.by_owner m.before in
    Two m.since m.edge n.since n.edge n.seen first.floor second.floor second.last (m.place ∙ ap (λ (l : List Event). m.since ++ m.edge ∷ l) n.place)
    (subst (λ (x : Id). IsEdge (owner_of workers c) w k c first.floor x n.edge) same n.is) m.is below fence m.none_since n.none_since n.before
told_edges workers w k c time last h (third ∷ second ∷ first ∷ ts) by told none = elim none [ ]

pub told_starts : ToldStarts
told_starts workers w k list lasts h by each told = record {
  lasts = lasts;
  lasts_each = each;
  cursor = refl;
  edges = λ j c last at_list at_lasts. told_edges workers w k c (greatest_time lasts) last h (edges_of w k c h) by refl (told j c last at_list at_lasts);
}
