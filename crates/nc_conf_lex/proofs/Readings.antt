-- One thing comes next, and a text has one reading.
use Rattle.std.proofs.Common.{◌≡◌, ℕ, List, [], ◌∷◌, Option, Some, None, refl, sym, ◌∙◌, subst, ap}
use Rattle.std.specs.Prelude.{Result, Ok, Err}
use Rattle.nc_conf_lex.specs.declared.token.Token.{Token}
use Rattle.nc_conf_lex.specs.declared.token.LexFault.{LexFault}
use Rattle.nc_conf_lex.specs.declared.token.LexFault.TheVariants.{Bad, NoMemory}
use Rattle.nc_conf_lex.specs.Reading.{Next, Holds, Ends, Breaks, Comes, Answers, IsTold, Reads, OneComes, OneReading}
use Rattle.nc_conf_lex.specs.Scan.{next_at}
use Rattle.nc_conf_lex.proofs.Found.{found}
use Rattle.nc_conf_lex.proofs.Right.{right}

pub one_comes : OneComes
one_comes text at = (next_at text at, right text at, λ other h. sym (found text at other h))

one_next : (text : List ℕ) (at : ℕ) (a b : Next) → Comes text at a → Comes text at b → a ≡ b
one_next text at a b h k = sym (found text at a h) ∙ found text at b k

token_of_holds : (t u : Token) (n m : ℕ) → Holds t n ≡ Holds u m → (t ≡ u) × (n ≡ m)
token_of_holds t u n m e = (cc, cc)

place_of_breaks : (n m : ℕ) → Breaks n ≡ Breaks m → n ≡ m
place_of_breaks n m e = cc

not_token : {P : Type 0} (t : Token) (n : ℕ) (stop : Option ℕ) (text : List ℕ) (at : ℕ) → Comes text at (Holds t n) → Reads text at [] stop → P
not_token t n None text at h k = absurd (no_end (one_next text at (Holds t n) Ends h k))
  where
    no_end : Holds t n ≡ Ends → ⊥
    no_end e = cc
not_token t n (Some bad) text at h k = absurd (no_fault (one_next text at (Holds t n) (Breaks bad) h k))
  where
    no_fault : Holds t n ≡ Breaks bad → ⊥
    no_fault e = cc

one_stop : (text : List ℕ) (at : ℕ) (stop other : Option ℕ) → Reads text at [] stop → Reads text at [] other → stop ≡ other
one_stop text at None None h k = refl
one_stop text at (Some a) (Some b) h k = ap (λ (n : ℕ). Some n) (place_of_breaks a b (one_next text at (Breaks a) (Breaks b) h k))
one_stop text at None (Some b) h k = absurd (differ (one_next text at Ends (Breaks b) h k))
  where
    differ : Ends ≡ Breaks b → ⊥
    differ e = cc
one_stop text at (Some a) None h k = absurd (differ (one_next text at (Breaks a) Ends h k))
  where
    differ : Breaks a ≡ Ends → ⊥
    differ e = cc

pub one_reading : OneReading
one_reading text at [] [] stop other h k = (refl, one_stop text at stop other h k)
one_reading text at [] (u ∷ us) stop other h k = not_token u k.0 stop text at k.1 h
one_reading text at (t ∷ ts) [] stop other h k = not_token t h.0 other text at h.1 k
one_reading text at (t ∷ ts) (u ∷ us) stop other h k =
    let one = token_of_holds t u h.0 k.0 (one_next text at (Holds t h.0) (Holds u k.0) h.1 k.1) in
    let more = one_reading text k.0 ts us stop other (subst (λ (n : ℕ). Reads text n ts stop) one.1 h.2) k.2 in
    (ap (λ (x : Token). x ∷ ts) one.0 ∙ ap (λ (xs : List Token). u ∷ xs) more.0, more.1)

-- a call of the lexer

pub told : (text : List ℕ) (old new : ℕ) (r : Result (Option Token) LexFault) → Answers r old new (next_at text old) → IsTold text old new r
told text old new (Ok (Some token)) h = subst (λ (x : Next). Comes text old x) h (right text old)
told text old new (Ok None) h = subst (λ (x : Next). Comes text old x) h.0 (right text old)
told text old new (Err (Bad at)) h = subst (λ (x : Next). Comes text old x) h.0 (right text old)
told text old new (Err NoMemory) h = tt

pub answers : (text : List ℕ) (old new : ℕ) (r : Result (Option Token) LexFault) → Answers r old new (next_at text old) → (next : Next) → Comes text old next → Answers r old new next
answers text old new r h next k = subst (λ (x : Next). Answers r old new x) (found text old next k) h
