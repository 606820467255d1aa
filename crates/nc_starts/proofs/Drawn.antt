-- The cursor that a spool draws from the edges of a start.
use Rattle.std.proofs.Common.{◌≡◌, ℕ, negsuc, max, Bool, true, false, cond, List, [], ◌∷◌, map, fold, refl, ap, ◌∙◌, arith}
use Rattle.std.specs.Prelude.{◌==◌}
use Rattle.nc_spool_state.specs.declared.edge.Edge.{Edge}
use Rattle.nc_spool_state.specs.declared.edge.Edge.TheVariants.{Awaited, Known}
use Rattle.nc_spool_state.specs.Edge.{edge_tag, later, newest_time}
use Rattle.nc_journal.specs.Newest.{greatest_time, tag_within}
use Rattle.nc_starts.specs.EdgesTold.{edge_last, EdgesCursor}

-- the greatest time, from a time on
time_from : (time : ℕ) (edges : List Edge) → fold later time edges ≡ max time (greatest_time (map edge_last edges))
time_from time [] = omega arith
time_from time (Awaited number ∷ edges) = omega (arith, time_from (max 0 time) edges)
time_from time (Known last floor ∷ edges) = omega (arith, time_from (max last.time time) edges)

no_tag : (b : Bool) → negsuc 0 ≡ cond b (negsuc 0) (negsuc 0)
no_tag true = refl
no_tag false = refl

tag_is : (time : ℕ) (edge : Edge) → edge_tag time edge ≡ tag_within time (edge_last edge)
tag_is time (Awaited number) = no_tag (0 == time)
tag_is time (Known last floor) = refl

tags_are : (time : ℕ) (edges : List Edge) → map (edge_tag time) edges ≡ map (tag_within time) (map edge_last edges)
tags_are time [] = refl
tags_are time (edge ∷ edges) = λ i. tag_is time edge i ∷ tags_are time edges i

pub edges_cursor : EdgesCursor
edges_cursor edges =
    let same : newest_time edges ≡ greatest_time (map edge_last edges) = omega (arith, time_from 0 edges) in
    let tags : map (edge_tag (newest_time edges)) edges ≡ map (tag_within (greatest_time (map edge_last edges))) (map edge_last edges) = ap (λ (time : ℕ). map (edge_tag time) edges) same ∙ tags_are (greatest_time (map edge_last edges)) edges in
    λ i. record { time = same i; tags = tags i }
