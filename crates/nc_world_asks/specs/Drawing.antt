-- The numbers that the looks and edges of spools draw: each is drawn once.
use Rattle.std.specs.Prelude.{ℕ, ◌+◌, List, ◌==◌}
use Rattle.nc_spool.specs.declared.ask.Ask.{Ask}
use Rattle.nc_spool.specs.declared.ask.Ask.TheVariants.{Look, Edge, Join, Part}
use Rattle.nc_spool.specs.declared.board.Board.{Board}
use Rattle.nc_spool.specs.declared.fact.Fact.{Fact}
use Rattle.nc_spool.specs.declared.fact.Fact.TheVariants.{Out, Started, Sent, Ended}
use Rattle.nc_spool_state.specs.Spool.{SpoolAt}
use Rattle.nc_spool_state.specs.Starting.{StartingAt}
use Rattle.nc_spool_laws.specs.Closed.{IsKept}
use Rattle.nc_spool_laws.specs.Numbers.{one, total, IsOnce}
use Rattle.nc_spool_laws.specs.Attended.{AnyNews, AnyAnswer, AnyLast, AnyKey, AnyFind}

-- how often an ask draws a number
abbrev pub ask_at : ℕ → Ask → ℕ
ask_at n (Look number c after fence) = one (number == n)
ask_at n (Edge number k c fence) = one (number == n)
ask_at n (Join c k) = 0
ask_at n (Part c k) = 0

abbrev pub draw_at : ℕ → Fact → ℕ
draw_at n (Out asking) = ask_at n asking.ask
draw_at n (Started k cursor) = 0
draw_at n (Sent sending) = 0
draw_at n (Ended k deleted) = 0

-- how often some facts do
abbrev pub drawn : ℕ → List Fact → ℕ
drawn n facts = total (draw_at n) facts

-- where `base` tells how often each number was drawn before a call: each is drawn once, and none from the next number on
abbrev pub AreDrawn : (ℕ → ℕ) → Board → Type 0
AreDrawn base b = IsOnce b.next (λ n. base n + drawn n b.facts)

abbrev pub DrawnBeside : (ℕ → ℕ) → SpoolAt → Board → Type 0
DrawnBeside base s b = AreDrawn base b

abbrev pub DrawnApart : (ℕ → ℕ) → StartingAt → Board → Type 0
DrawnApart base s b = AreDrawn base b

-- each call keeps it
abbrev pub KeepsDrawn : Type 0
KeepsDrawn = (base : ℕ → ℕ) → IsKept AnyNews AnyAnswer AnyLast AnyKey AnyFind (AreDrawn base) (DrawnBeside base) (DrawnApart base)
