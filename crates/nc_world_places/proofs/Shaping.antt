-- The shape of a worker's spools is kept by its steps.
use Rattle.std.proofs.Common.{◌≡◌, ℕ, true, List, Option, refl}
use Rattle.std.specs.List.{AllByRecursion}
use Rattle.std.specs.Option.{option_map}
use Rattle.nc_types.specs.declared.info.Info.{Info}
use Rattle.nc_journal.specs.declared.alert.AlertLine.{AlertLine}
use Rattle.nc_journal.specs.declared.alert.AlertLine.TheVariants as lines
use Rattle.nc_spool_state.specs.declared.edge.Edge.TheVariants.{Known}
use Rattle.nc_spool_state.specs.Spool.{SpoolAt}
use Rattle.nc_spool.specs.Calls.{board_of, news_of}
use Rattle.nc_spool_laws.specs.Order.{AreAscending}
use Rattle.nc_spool_laws.specs.Resting.{AllRest}
use Rattle.nc_spool_laws.specs.Attended.{IsWhole}
use Rattle.nc_spool_laws.proofs.Local.{whole-kept}
use Rattle.nc_spool_laws.proofs.Order.{order-kept}
use Rattle.nc_spool_laws.proofs.Waiting.{all-restful}
use Rattle.nc_worker_state.specs.Setup.{Setup}
use Rattle.nc_worker_state.specs.Incoming.{Incoming, TakesPacket, ClockReads, Reaps, Posts, Subscribes, Removes, Informs}
use Rattle.nc_worker_state.specs.Desk.{Desk, Served, replied, is_waiting, handled, begun, served}
use Rattle.nc_worker_state.specs.Spooled.{found_by, found_in}
use Rattle.nc_world_laws.proofs.Local.{either}

-- a place for each name, ascending, and a look in flight where a message was found
pub record IsShaped (shelf : List SpoolAt) : Type 0 where
  pub whole : AllByRecursion IsWhole shelf
  pub order : AreAscending shelf
  pub rest : AllRest shelf

-- an answer to a request leaves the spools
pub replied_shelf : (me r status : ℕ) (info : Option Info) (d : Desk) → (replied me r status info d).after.spools.shelf ≡ d.spools.shelf
replied_shelf me r status info d = either (λ (s : Served). s.after.spools.shelf ≡ d.spools.shelf) (is_waiting r d.waiting) _ _ refl refl

module _ (me : ℕ) (d : Desk) (k : IsShaped d.spools.shelf) where
  replied_shaped : (r status : ℕ) (info : Option Info) → IsShaped (replied me r status info d).after.spools.shelf
  replied_shaped r status info = either (λ (s : Served). IsShaped s.after.spools.shelf) (is_waiting r d.waiting) _ _ k k

  handled_shaped : (from : ℕ) (line : AlertLine) → IsShaped (handled me from line d).after.spools.shelf
  handled_shaped from (lines.PubAnswer r status info full) = replied_shaped r status info
  handled_shaped from (lines.InfoAnswer r status info) = replied_shaped r status info
  handled_shaped from (lines.DelAnswer r status info) = replied_shaped r status info
  handled_shaped from (lines.LookAnswer number q floor past g slot) =
      let news = option_map news_of (found_in from past g slot) in
      record {
        whole = whole-kept.answer number (record { q = q; floor = floor }) news (board_of d.spools) tt k.whole;
        order = order-kept.answer number (record { q = q; floor = floor }) news (board_of d.spools) tt k.order;
        rest = all-restful.answer number (record { q = q; floor = floor }) news (board_of d.spools) k.rest;
      }
  handled_shaped from (lines.Notice c id g slot) =
      let news = news_of (found_by from id g slot) in
      record {
        whole = whole-kept.notice c news (board_of d.spools) tt k.whole;
        order = order-kept.notice c news (board_of d.spools) tt k.order;
        rest = all-restful.notice c news (board_of d.spools) k.rest;
      }
  handled_shaped from (lines.EdgeAnswer number q floor last) = record {
    whole = whole-kept.edge_answer number floor last (board_of d.spools) tt k.whole;
    order = order-kept.edge_answer number floor last (board_of d.spools) tt k.order;
    rest = all-restful.edge_answer number (Known last floor) (board_of d.spools) k.rest;
  }
  handled_shaped from (lines.Gone c subs) = record {
    whole = whole-kept.removal c subs (board_of d.spools) k.whole;
    order = order-kept.removal c subs (board_of d.spools) k.order;
    rest = all-restful.removal c subs (board_of d.spools) k.rest;
  }
  handled_shaped from (lines.Publish r c len timeout ct body) = k
  handled_shaped from (lines.Look number c after fence) = k
  handled_shaped from (lines.Edge number n c fence) = k
  handled_shaped from (lines.Join c n) = k
  handled_shaped from (lines.Part c n) = k
  handled_shaped from (lines.Delete r c) = k
  handled_shaped from (lines.Info r c) = k

  begun_shaped : (setup : Setup) (incoming : Incoming) → IsShaped (begun setup me incoming d).after.spools.shelf
  begun_shaped setup (TakesPacket from p) = handled_shaped from p.line
  begun_shaped setup (ClockReads t) = k
  begun_shaped setup Reaps = k
  begun_shaped setup (Posts c body) = k
  begun_shaped setup (Removes c) = k
  begun_shaped setup (Informs c) = k
  begun_shaped setup (Subscribes n list start) = record {
    whole = whole-kept.arrive (record { k = n; once = true }) list start (board_of d.spools) tt k.whole;
    order = order-kept.arrive (record { k = n; once = true }) list start (board_of d.spools) tt k.order;
    rest = all-restful.arrive (record { k = n; once = true }) list start (board_of d.spools) k.rest;
  }

  pub served_shaped : (setup : Setup) (incoming : Incoming) → IsShaped (served setup me incoming d).after.spools.shelf
  served_shaped setup incoming = let b = begun_shaped setup incoming in record { whole = b.whole; order = b.order; rest = b.rest }
