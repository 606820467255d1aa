-- The words of the command line.
use Rattle.std.specs.Prelude.{◌≡◌, ◌⊎◌, ◌<◌, ◌≤◌, ◌^◌, ℕ, List, [], ◌∷◌, ◌++◌, codes}
use Rattle.nc_types.specs.Text.{IsDecimal}
use Rattle.nc_cli.specs.declared.Command.{Command}
use Rattle.nc_cli.specs.declared.Command.TheVariants.{Replay, Check, Load, Usage}

-- words ask for a load: a seed below 2^64 and a size of 1 to 65,535, each in 1 to 20 digits
pub record IsLoad (words : List (List ℕ)) (seed size : ℕ) : Type 0 where
  pub seed_word : List ℕ
  pub size_word : List ℕ
  pub three : words ≡ codes "load" ∷ seed_word ∷ size_word ∷ []
  pub reads_seed : IsDecimal seed_word seed
  pub below : seed < 2 ^ 64
  pub reads_size : IsDecimal size_word size
  pub some : 1 ≤ size
  pub few : size ≤ 65535

-- a list of words is one of the commands
abbrev pub IsCommand : List (List ℕ) → Type 0
IsCommand words = (words ≡ codes "replay" ∷ []) ⊎ (words ≡ codes "check" ∷ []) ⊎ ((seed : ℕ) × (size : ℕ) × IsLoad words seed size)

-- a list of words is this command; the usage is for every list that is none
abbrev pub IsRead : List (List ℕ) → Command → Type 0
IsRead words Replay = words ≡ codes "replay" ∷ []
IsRead words Check = words ≡ codes "check" ∷ []
IsRead words (Load seed size) = IsLoad words seed size
IsRead words Usage = IsCommand words → ⊥

-- the same words are never two commands
abbrev pub OneCommand : Type 0
OneCommand = (words : List (List ℕ)) (one other : Command) → IsRead words one → IsRead words other → one ≡ other

-- the line that tells the commands
abbrev pub usage_text : List ℕ
usage_text = codes "usage: nchan replay | check | load SEED SIZE | serve" ++ 10 ∷ []
