-- Who stands with a channel, and what the calls of spools tell its owner.
use Rattle.std.specs.Prelude.{◌≡◌, ℕ, ◌+◌, ◌≤◌, Bool, true, false, not, List, [], ◌∷◌, Option, if◌then◌else◌, fold, ◌==◌, ◌&&◌, ◌||◌, bytes_eq}
use Rattle.std.specs.List.{list_any}
use Rattle.nc_types.specs.Id.{Id}
use Rattle.nc_types.specs.Channel.{AreDistinct}
use Rattle.nc_types.specs.declared.start.Start.{Start}
use Rattle.nc_spool_state.specs.Key.{is_in}
use Rattle.nc_spool_state.specs.Spool.{SpoolAt, has_channel, has_reader}
use Rattle.nc_spool_state.specs.Starting.{StartingAt, starts_with}
use Rattle.nc_spool.specs.declared.ask.Ask.{Ask}
use Rattle.nc_spool.specs.declared.ask.Ask.TheVariants.{Look, Edge, Join, Part}
use Rattle.nc_spool.specs.declared.fact.Fact.{Fact}
use Rattle.nc_spool.specs.declared.fact.Fact.TheVariants.{Out, Started, Sent, Ended}
use Rattle.nc_spool.specs.declared.spools.Found.{Found}
use Rattle.nc_spool.specs.declared.board.Board.{Board}
use Rattle.nc_spool.specs.Calls.{SpoolsAt, board_of, arrive_facts, arrive_after, answer_facts, answer_after, edge_facts, edge_after, notice_facts, notice_after, gone_facts, gone_after, depart_facts, depart_after}
use Rattle.nc_spool_members.specs.Singly.{StandSingly}

-- a subscriber stands in a spool whose list has a channel
abbrev pub reads_with : List ℕ → ℕ → SpoolAt → Bool
reads_with c k s = has_channel c s && has_reader k s

-- it isn't started yet, and its list has the channel
abbrev pub begins_with : List ℕ → ℕ → StartingAt → Bool
begins_with c k s = is_in c s.list && starts_with k s

-- it stands or starts with the channel
abbrev pub stands_with : List ℕ → ℕ → Board → Bool
stands_with c k b = list_any (reads_with c k) b.shelf || list_any (begins_with c k) b.starts

-- whether a subscriber is a member of a channel once its owner heard an ask: it joins, or it parts
abbrev pub member_after : List ℕ → ℕ → Bool → Ask → Bool
member_after c k is (Look number d after fence) = is
member_after c k is (Edge number n d fence) = is
member_after c k is (Join d n) = if bytes_eq d c && (n == k) then true else is
member_after c k is (Part d n) = if bytes_eq d c && (n == k) then false else is

-- only what is asked is heard
abbrev pub member_by : List ℕ → ℕ → Bool → Fact → Bool
member_by c k is (Out asking) = member_after c k is asking.ask
member_by c k is (Started n cursor) = is
member_by c k is (Sent sending) = is
member_by c k is (Ended n deleted) = is

-- all that some facts ask was heard
abbrev pub member_told : List ℕ → ℕ → Bool → List Fact → Bool
member_told c k is facts = fold (member_by c k) is facts

-- a number is among some
abbrev pub is_named : ℕ → List ℕ → Bool
is_named k members = list_any (λ n. n == k) members

-- where the members of a channel were those who stand with it, they are so again once its owner heard what a call asks;
-- subscriber `k` is any one
module _ {H : Type 0} (c : List ℕ) (k : ℕ) where
  -- the facts of a call that leads from some spools to others tell it
  abbrev pub IsTold : SpoolsAt H → List Fact → SpoolsAt H → Type 0
  IsTold s facts new = member_told c k (stands_with c k (board_of s)) facts ≡ stands_with c k (board_of new)

  -- who comes joins, and who goes parts
  pub record CallsTell (s : SpoolsAt H) : Type 0 where
    pub arrive : (n : ℕ) (list : List (List ℕ)) (start : Start) (once : Bool)
        → IsTold s (arrive_facts n list start once s) (arrive_after n list start once s)
    pub answer : (number q floor : ℕ) (found : Option (Found H)) → IsTold s (answer_facts number q floor found s) (answer_after number q floor found s)
    pub edge_answer : (number floor : ℕ) (last : Id) → IsTold s (edge_facts number floor last s) (edge_after number floor last s)
    pub notice : (d : List ℕ) (found : Found H) → IsTold s (notice_facts d found s) (notice_after d found s)
    -- the removal of another channel
    pub removal : (d members : List ℕ) → bytes_eq d c ≡ false → IsTold s (gone_facts d members s) (gone_after d members s)
    -- the removal of the channel itself, which its owner knows: nothing is told, and those that it names don't stand with it any more
    pub own_removal : (members : List ℕ) (is : Bool) → member_told c k is (gone_facts c members s) ≡ is
    pub removed : (members : List ℕ) → stands_with c k (board_of (gone_after c members s)) ≡ not (is_named k members) && stands_with c k (board_of s)
    pub depart : (n : ℕ) → IsTold s (depart_facts n s) (depart_after n s)

-- each call tells it, where nobody stands twice and no list names a channel twice
abbrev pub TellMembers : Type 0 → Type 0
TellMembers H = (c : List ℕ) (k : ℕ) (s : SpoolsAt H) → StandSingly s → CallsTell c k s

-- ---- who joins

-- how often some facts let a subscriber join a channel
abbrev pub joins_by : List ℕ → ℕ → Ask → ℕ
joins_by c k (Look number d after fence) = 0
joins_by c k (Edge number n d fence) = 0
joins_by c k (Join d n) = if bytes_eq d c && (n == k) then 1 else 0
joins_by c k (Part d n) = 0

abbrev pub joins_told : List ℕ → ℕ → List Fact → ℕ
joins_told c k [] = 0
joins_told c k (Out asking ∷ facts) = joins_by c k asking.ask + joins_told c k facts
joins_told c k (f ∷ facts) = joins_told c k facts

-- nobody joins but who comes, and that one joins each channel of its list once
pub record CallsJoin {H : Type 0} (c : List ℕ) (k : ℕ) (s : SpoolsAt H) : Type 0 where
  pub arrive : (n : ℕ) (list : List (List ℕ)) (start : Start) (once : Bool) → AreDistinct list
      → joins_told c k (arrive_facts n list start once s) ≤ (if n == k then 1 else 0)
  pub answer : (number q floor : ℕ) (found : Option (Found H)) → joins_told c k (answer_facts number q floor found s) ≡ 0
  pub edge_answer : (number floor : ℕ) (last : Id) → joins_told c k (edge_facts number floor last s) ≡ 0
  pub notice : (d : List ℕ) (found : Found H) → joins_told c k (notice_facts d found s) ≡ 0
  pub removal : (d members : List ℕ) → joins_told c k (gone_facts d members s) ≡ 0
  pub depart : (n : ℕ) → joins_told c k (depart_facts n s) ≡ 0

abbrev pub ComersJoin : Type 0 → Type 0
ComersJoin H = (c : List ℕ) (k : ℕ) (s : SpoolsAt H) → CallsJoin c k s
