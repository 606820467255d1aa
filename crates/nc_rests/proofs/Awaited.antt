-- The answer that a place awaits comes from the owner of its channel.
use Rattle.std.proofs.Common.{◌≡◌, inl, inr, ℕ, List, [], ◌∷◌, Option, sym, ap, ◌∙◌, subst}
use Rattle.std.specs.List.{AllByRecursion}
use Rattle.std.specs.Option.{option_map}
use Rattle.nc_types.specs.Id.{Id}
use Rattle.nc_types.specs.Channel.{owner_of}
use Rattle.nc_journal.specs.History.{own}
use Rattle.nc_journal.specs.declared.event.Event.{Event}
use Rattle.nc_journal.specs.declared.event.Event.TheVariants.{Looked, Took}
use Rattle.nc_journal.specs.declared.alert.AlertLine.TheVariants as lines
use Rattle.nc_owner_laws.specs.InOrder.{HasLook}
use Rattle.nc_spool_state.specs.declared.hear.News.{News}
use Rattle.nc_spool_state.specs.Hear.{learned}
use Rattle.nc_history.specs.Packets.{IsNext}
use Rattle.nc_rests.specs.Asking.{HasAsk, AreAsked}
use Rattle.nc_rests.specs.Awaiting.{PlaceAnswered}
use Rattle.nc_rests.specs.Owners.{IsByOwner}
use Rattle.nc_rests.specs.Places.{PlaceHolds}
use Rattle.nc_rests.proofs.Answered.{next_answers}
use Rattle.nc_rests.proofs.Asks.{one_ask, asked_once}
use Rattle.nc_rests.proofs.Places.{place_learns}
use Rattle.nc_rests.proofs.Locals.{own_by}

-- the look of an answer was made by the owner of the channel that it was asked for
look_owner : (workers o w q number floor : ℕ) (found : Option Id) (c : List ℕ) (after : Id) (asks l : List Event) → ((d : List ℕ) (other : Id) → HasAsk number d other asks → d ≡ c) → AreAsked w asks l → AllByRecursion (IsByOwner workers) l → HasLook o q w number floor found l → o ≡ owner_of workers c
look_owner workers o w q number floor found c after asks [] one are by has = absurd has
look_owner workers o w q number floor found c after asks (Looked v p from n d a f past ∷ l) one are by (inl is) =
    sym is.0 ∙ by.0 ∙ ap (owner_of workers) (one d a (subst (λ (m : ℕ). HasAsk m d a asks) is.3 (are.0 is.2)))
look_owner workers o w q number floor found c after asks (Looked v p from n d a f past ∷ l) one are by (inr has) = look_owner workers o w q number floor found c after asks l one are.1 by.1 has
look_owner workers o w q number floor found c after asks (e ∷ l) one are by has = look_owner workers o w q number floor found c after asks l one are by.1 has

pub place_answered : PlaceAnswered
place_answered workers w c after number earlier from q floor news g slot n kind h rules answers asks next k =
    let found = option_map (λ (x : News). x.id) news in
    let has : HasLook from q w number floor found (own from h) = next_answers from w number q floor found g slot h (answers from) next in
    let owner : from ≡ owner_of workers c = look_owner workers from w q number floor found c after (own w h) (own from h) (λ d other more. (one_ask number c d after other (own w h) (asks.once number) k.0 more).0) (asks.asked from) (own_by workers from h rules.by_owner) has in
    let o = owner_of workers c in
    record {
      owner = owner;
      holds = subst (λ (v : ℕ). PlaceHolds workers w c after (learned after (record { q = q; floor = floor }) news) (Took w v n kind ∷ h)) (sym owner)
          (place_learns workers w c after number q floor news g slot n kind h (subst (λ (v : ℕ). IsNext v w (lines.LookAnswer number q floor found g slot) h) owner next) (subst (λ (v : ℕ). HasLook v q w number floor found (own v h)) owner has)
          (asked_once w number c after (own w h) (own o h) (asks.once number) k.0 (asks.asked o)) (rules.looks o));
    }
