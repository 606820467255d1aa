-- Words that ask for a load, and words that can't.
use Rattle.std.proofs.Common.{◌≡◌, ◌∙◌, ap, sym, refl, inl, inr, ℕ, List, [], ◌∷◌, length, arith}
use Rattle.std.specs.Prelude.{codes}
use Rattle.nc_types.specs.Text.{IsDecimal}
use Rattle.std.specs.Str.Parse.{digits_value}
use Rattle.nc_cli.specs.declared.Command.{Command}
use Rattle.nc_cli.specs.declared.Command.TheVariants.{Replay, Check, Load, Usage}
use Rattle.nc_cli.specs.Words.{IsLoad, OneCommand}

abbrev second : List (List ℕ) → List ℕ
second [] = []
second (a ∷ []) = []
second (a ∷ b ∷ rest) = b

abbrev third : List (List ℕ) → List ℕ
third [] = []
third (a ∷ []) = []
third (a ∷ b ∷ []) = []
third (a ∷ b ∷ c ∷ rest) = c

-- one word asks for no load
alone : (word : List ℕ) (words : List (List ℕ)) (seed size : ℕ) → words ≡ word ∷ [] → IsLoad words seed size → ⊥
alone word words seed size one load = absurd (omega (arith, ap length (sym one ∙ load.three)))

-- the number of a text is one
one_value : (text other : List ℕ) (n m : ℕ) → text ≡ other → IsDecimal text n → IsDecimal other m → n ≡ m
one_value text other n m same first second = first.value ∙ ap (λ (t : List ℕ). digits_value 10 t) same ∙ sym second.value

-- the same words ask for one load
one_load : (words : List (List ℕ)) (seed size other_seed other_size : ℕ) → IsLoad words seed size → IsLoad words other_seed other_size → Load seed size ≡ Load other_seed other_size
one_load words seed size other_seed other_size first other =
    let same : _ = sym first.three ∙ other.three in
    ap (λ (n : ℕ). Load n size) (one_value first.seed_word other.seed_word seed other_seed (ap second same) first.reads_seed other.reads_seed)
    ∙ ap (λ (n : ℕ). Load other_seed n) (one_value first.size_word other.size_word size other_size (ap third same) first.reads_size other.reads_size)

pub one-command : OneCommand
one-command words Replay Replay a b = refl
one-command words Replay Check a b = absurd (cc)
one-command words Replay (Load s z) a b = absurd (alone (codes "replay") words s z a b)
one-command words Replay Usage a b = absurd (b (inl a))
one-command words Check Replay a b = absurd (cc)
one-command words Check Check a b = refl
one-command words Check (Load s z) a b = absurd (alone (codes "check") words s z a b)
one-command words Check Usage a b = absurd (b (inr (inl a)))
one-command words (Load s z) Replay a b = absurd (alone (codes "replay") words s z b a)
one-command words (Load s z) Check a b = absurd (alone (codes "check") words s z b a)
one-command words (Load s z) (Load t y) a b = one_load words s z t y a b
one-command words (Load s z) Usage a b = absurd (b (inr (inr (s, z, a))))
one-command words Usage Replay a b = absurd (a (inl b))
one-command words Usage Check a b = absurd (a (inr (inl b)))
one-command words Usage (Load s z) a b = absurd (a (inr (inr (s, z, b))))
one-command words Usage Usage a b = refl
