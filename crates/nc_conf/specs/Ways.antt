-- What is kept of the arguments of a directive, so that a repeated way to subscribe is found.
use Rattle.std.specs.Prelude.{◌≡◌, ℕ, Bool, true, List, codes, if◌then◌else◌, ◌||◌, bytes_eq}
use Rattle.nc_conf.specs.declared.syntax.Word.{Word}
use Rattle.nc_conf.specs.declared.judge.Ways.{Ways}
use Rattle.nc_conf.specs.Faults.{is_word, is_again}

-- which of the ways stand among some words
pub record KnowsWays (ways : Ways) (words : List Word) : Type 0 where
  pub longpoll : ways.longpoll ≡ is_again words (codes "longpoll")
  pub websocket : ways.websocket ≡ is_again words (codes "websocket")

-- one word more
abbrev pub ways_with : Ways → Word → Ways
ways_with ways w = record { longpoll = ways.longpoll || is_word (codes "longpoll") w; websocket = ways.websocket || is_word (codes "websocket") w }

-- a text is no way, or one of these
abbrev pub refuse : Ways → List ℕ → Bool
refuse ways text = if bytes_eq text (codes "longpoll") then ways.longpoll else (if bytes_eq text (codes "websocket") then ways.websocket else true)
