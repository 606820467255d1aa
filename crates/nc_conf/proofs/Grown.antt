-- What reading on from a place adds to what was read: directives, closed blocks and words behind that place, in no block that was closed.
use Rattle.std.proofs.Common.{◌≡◌, ℕ, zero, suc, ◌+◌, ◌-◌, ◌<◌, ◌≤◌, List, [], ◌∷◌, ◌++◌, length, drop, true, false, Option, Some, None, refl, sym, ◌∙◌, subst, ap, append_assoc, length-append, arith}
use Rattle.std.specs.Prelude.{◌==◌}
use Rattle.std.specs.List.{AllByRecursion}
use Rattle.nc_conf_lex.specs.declared.token.Token.{Token}
use Rattle.nc_conf_lex.specs.declared.token.Token.TheVariants as tokens
use Rattle.nc_conf_lex.specs.Spelling.{Spelling, Plain, Quoted, Semicolon, OpeningBrace, ClosingBrace, IsSpelling, spelling_text, token_of, fillers_text}
use Rattle.nc_conf_lex.specs.Reading.{Next, Holds, Ends, Breaks, Comes, IsTokenAt, Reads, OneComes}
use Rattle.nc_conf.specs.declared.syntax.Word.{Word}
use Rattle.nc_conf.specs.declared.syntax.Directive.{Directive}
use Rattle.nc_conf.specs.declared.syntax.Close.{Close}
use Rattle.nc_conf.specs.declared.syntax.Begun.{Begun}
use Rattle.nc_conf.specs.Syntax.{innermost}
use Rattle.nc_conf.specs.Faults.{same_block}
use Rattle.nc_conf.specs.Reader.{SyntaxAt, after, words_of}
use Rattle.nc_conf.specs.Reading.{IsReading}
use Rattle.nc_conf.proofs.SoFar.{ReadSoFar, read_next, read_end}
use Rattle.nc_conf.proofs.Tidy.{syntax_at, all_append, length_snoc, NotIn, not_same}

-- ---- tokens

abbrev place_of : Token → ℕ
place_of (tokens.Word at text) = at
place_of (tokens.Opening at) = at
place_of (tokens.Closing at) = at
place_of (tokens.End at) = at

place_is : (n : ℕ) (spelling : Spelling) → place_of (token_of n spelling) ≡ n
place_is n (Plain word) = refl
place_is n (Quoted sign pieces) = refl
place_is n Semicolon = refl
place_is n OpeningBrace = refl
place_is n ClosingBrace = refl

some_text : (spelling : Spelling) (after : List ℕ) → IsSpelling spelling after → 0 < length (spelling_text spelling)
some_text (Plain []) after h = absurd h.0
some_text (Plain (b ∷ bs)) after h = omega arith
some_text (Quoted sign pieces) after h = omega arith
some_text Semicolon after h = omega arith
some_text OpeningBrace after h = omega arith
some_text ClosingBrace after h = omega arith

-- a token stands behind the place from which it is read, and ends in the text
record Moves (text : List ℕ) (at : ℕ) (token : Token) (next : ℕ) : Type 0 where
  place : at ≤ place_of token
  moved : at < next
  within : next ≤ length text

length_drop : (n : ℕ) (xs : List ℕ) → length (drop n xs) ≡ length xs - n
length_drop zero xs = omega arith
length_drop (suc n) [] = omega arith
length_drop (suc n) (x ∷ xs) = let ih = length_drop n xs in omega (arith, ih)

moves : (text : List ℕ) (at : ℕ) (token : Token) (next : ℕ) → IsTokenAt text at token next → Moves text at token next
moves text at token next h =
    let front : List ℕ = fillers_text h.fillers in
    let word : List ℕ = spelling_text h.spelling in
    let some : 0 < length word = some_text h.spelling h.after h.spelled in
    let all : length text - at ≡ length front + (length word + length h.after) =
    sym (length_drop at text) ∙ ap length h.split ∙ length-append front (word ++ h.after) ∙ ap (λ (n : ℕ). length front + n) (length-append word h.after) in
    let place : place_of token ≡ at + length front = ap place_of h.is ∙ place_is (at + length front) h.spelling in
    record {
      place = omega (arith, place);
      moved = omega (arith, some, h.behind);
      within = omega (arith, some, all, h.behind);
    }

-- ---- what is added

abbrev pub AreBehind : ℕ → List Word → Type 0
AreBehind p words = AllByRecursion (λ (w : Word). p ≤ w.at) words

pub record IsLater (p : ℕ) (d : Directive) : Type 0 where
  pub name : p ≤ d.name.at
  pub args : AreBehind p d.args
  pub end : p ≤ d.end

abbrev pub IsClosedLater : ℕ → Close → Type 0
IsClosedLater p c = p ≤ c.at

abbrev pub IsPlaceBehind : ℕ → Option ℕ → Type 0
IsPlaceBehind p None = Unit {0}
IsPlaceBehind p (Some q) = p ≤ q

abbrev pub IsNotOf : ℕ → Directive → Type 0
IsNotOf b d = same_block d.within (Some b) ≡ false

pub record Grown (p : ℕ) (s t : SyntaxAt) : Type 0 where
  pub ds : List Directive
  pub cs : List Close
  pub directives : t.directives ≡ s.directives ++ ds
  pub closes : t.closes ≡ s.closes ++ cs
  pub later : AllByRecursion (IsLater p) ds
  pub shut : AllByRecursion (IsClosedLater p) cs
  pub words : AreBehind p (words_of t.begun)
  pub broken : IsPlaceBehind p t.broken
  pub quiet : (b : ℕ) → b < length s.directives → NotIn b s.blocks → AllByRecursion (IsNotOf b) ds
  pub gone : (b : ℕ) → b < length s.directives → NotIn b s.blocks → NotIn b t.blocks

inner_not : (b : ℕ) (bs : List ℕ) → NotIn b bs → same_block (innermost bs) (Some b) ≡ false
inner_not b [] h = refl
inner_not b (x ∷ bs) h = h.0

more_directives : (p : ℕ) (s : SyntaxAt) (ds : List Directive) (cs : List Close) (bs blocks : List ℕ) (begun : Option Begun) (d : Directive) → (h : Grown p s (syntax_at ds cs bs begun None)) → IsLater p d → d.within ≡ innermost bs → ((b : ℕ) → b < length s.directives → NotIn b s.blocks → NotIn b blocks) → Grown p s (syntax_at (ds ++ d ∷ []) cs blocks None None)
more_directives p s ds cs bs blocks begun d h l e gone = record {
  ds = h.ds ++ d ∷ [];
  cs = h.cs;
  directives = ap (λ (x : List Directive). x ++ d ∷ []) h.directives ∙ append_assoc s.directives h.ds (d ∷ []);
  closes = h.closes;
  later = all_append (IsLater p) h.ds (d ∷ []) h.later (l, tt);
  shut = h.shut;
  words = tt;
  broken = tt;
  quiet = λ b low none. all_append (IsNotOf b) h.ds (d ∷ []) (h.quiet b low none) (subst (λ (w : Option ℕ). same_block w (Some b) ≡ false) (sym e) (inner_not b bs (h.gone b low none)), tt);
  gone = gone;
}

broken_at : (p : ℕ) (s : SyntaxAt) (ds : List Directive) (cs : List Close) (bs : List ℕ) (begun : Option Begun) (at : ℕ) → Grown p s (syntax_at ds cs bs begun None) → p ≤ at → Grown p s (syntax_at ds cs bs begun (Some at))
broken_at p s ds cs bs begun at h k = record { ds = h.ds; cs = h.cs; directives = h.directives; closes = h.closes; later = h.later; shut = h.shut; words = h.words; broken = k; quiet = h.quiet; gone = h.gone }

low_in : (p : ℕ) (s t : SyntaxAt) (b : ℕ) → Grown p s t → b < length s.directives → b < length t.directives
low_in p s t b h low = omega (arith, low, ap length h.directives, length-append s.directives h.ds)

grow : (p : ℕ) (s : SyntaxAt) (ds : List Directive) (cs : List Close) (bs : List ℕ) (begun : Option Begun) (broken : Option ℕ) (t : Token) → Grown p s (syntax_at ds cs bs begun broken) → p ≤ place_of t → Grown p s (after (syntax_at ds cs bs begun broken) t)
grow p s ds cs bs begun (Some q) t h k = h
grow p s ds cs bs None None (tokens.Word at text) h k = record { ds = h.ds; cs = h.cs; directives = h.directives; closes = h.closes; later = h.later; shut = h.shut; words = (k, tt); broken = tt; quiet = h.quiet; gone = h.gone }
grow p s ds cs bs (Some b) None (tokens.Word at text) h k =
    let w : Word = record { at = at; text = text } in
    record { ds = h.ds; cs = h.cs; directives = h.directives; closes = h.closes; later = h.later; shut = h.shut; words = (h.words.0, all_append (λ (v : Word). p ≤ v.at) b.args (w ∷ []) h.words.1 (k, tt)); broken = tt; quiet = h.quiet; gone = h.gone }
grow p s ds cs bs None None (tokens.End at) h k = broken_at p s ds cs bs None at h k
grow p s ds cs bs None None (tokens.Opening at) h k = broken_at p s ds cs bs None at h k
grow p s ds cs [] None None (tokens.Closing at) h k = broken_at p s ds cs [] None at h k
grow p s ds cs bs (Some b) None (tokens.Closing at) h k = broken_at p s ds cs bs (Some b) at h k
grow p s ds cs (b ∷ bs) None None (tokens.Closing at) h k = record {
  ds = h.ds;
  cs = h.cs ++ record { of = b; at = at } ∷ [];
  directives = h.directives;
  closes = ap (λ (x : List Close). x ++ record { of = b; at = at } ∷ []) h.closes ∙ append_assoc s.closes h.cs (record { of = b; at = at } ∷ []);
  later = h.later;
  shut = all_append (IsClosedLater p) h.cs (record { of = b; at = at } ∷ []) h.shut (k, tt);
  words = tt;
  broken = tt;
  quiet = h.quiet;
  gone = λ n low none. (h.gone n low none).1;
}
grow p s ds cs bs (Some b) None (tokens.End at) h k =
    more_directives p s ds cs bs bs (Some b) (record { name = b.name; args = b.args; end = at; block = false; within = innermost bs }) h (record { name = h.words.0; args = h.words.1; end = k }) refl h.gone
grow p s ds cs bs (Some b) None (tokens.Opening at) h k =
    more_directives p s ds cs bs (length ds ∷ bs) (Some b) (record { name = b.name; args = b.args; end = at; block = true; within = innermost bs }) h (record { name = h.words.0; args = h.words.1; end = k }) refl
    (λ n low none. (not_same (length ds) n (low_in p s (syntax_at ds cs bs (Some b) None) n h low), h.gone n low none))

nil_behind : {X : Type 0} (xs : List X) → xs ++ [] ≡ xs
nil_behind [] = refl
nil_behind (x ∷ xs) = ap (λ l. x ∷ l) (nil_behind xs)

grown_none : (p : ℕ) (s : SyntaxAt) → s.begun ≡ None → s.broken ≡ None → Grown p s s
grown_none p s e f = record {
  ds = [];
  cs = [];
  directives = sym (nil_behind s.directives);
  closes = sym (nil_behind s.closes);
  later = tt;
  shut = tt;
  words = subst (λ (o : Option Begun). AreBehind p (words_of o)) (sym e) tt;
  broken = subst (λ (o : Option ℕ). IsPlaceBehind p o) (sym f) tt;
  quiet = λ b low none. tt;
  gone = λ b low none. none;
}

-- ---- to the end of the text

pub record Finished (text : List ℕ) (p : ℕ) (s : SyntaxAt) : Type 0 where
  pub t : SyntaxAt
  pub bad : Option ℕ
  pub reading : IsReading text t bad
  pub grown : Grown p s t
  pub place : IsPlaceBehind p bad

abbrev Goes : List ℕ → ℕ → SyntaxAt → ℕ → Type 0
Goes text p s fuel = (at : ℕ) (t : SyntaxAt) → length text - at ≤ fuel → p ≤ at → ReadSoFar text at t → Grown p s t → Finished text p s

stopped : (text : List ℕ) (p at : ℕ) (s t : SyntaxAt) (stop : Option ℕ) → ReadSoFar text at t → Grown p s t → Reads text at [] stop → IsPlaceBehind p stop → Finished text p s
stopped text p at s t stop read grown last place = record { t = t; bad = stop; reading = read_end text at t stop read last; grown = grown; place = place }

ended : (text : List ℕ) (p at : ℕ) (s t : SyntaxAt) (next : Next) → ((token : Token) (n : ℕ) → Comes text at (Holds token n) → Finished text p s) → p ≤ at → ReadSoFar text at t → Grown p s t → Comes text at next → Finished text p s
ended text p at s t (Holds token n) more k read grown comes = more token n comes
ended text p at s t Ends more k read grown comes = stopped text p at s t None read grown comes tt
ended text p at s t (Breaks bad) more k read grown comes = stopped text p at s t (Some bad) read grown comes (omega (arith, k, comes.place))

goes : OneComes → (text : List ℕ) (p : ℕ) (s : SyntaxAt) (fuel : ℕ) → Goes text p s fuel
goes one text p s zero at t few k read grown =
    ended text p at s t (one text at).0 (λ token n comes. let m = moves text at token n comes in absurd (omega (arith, few, m.moved, m.within))) k read grown (one text at).1
goes one text p s (suc fuel) at t few k read grown =
    ended text p at s t (one text at).0
    (λ token n comes. let m = moves text at token n comes in
    goes one text p s fuel n (after t token) (omega (arith, few, m.moved, m.within)) (omega (arith, k, m.moved))
    (read_next text at n t (after t token) token read comes refl)
    (grow p s t.directives t.closes t.blocks t.begun t.broken token grown (omega (arith, k, m.place))))
    k read grown (one text at).1

pub finish : OneComes → (text : List ℕ) (p : ℕ) (s : SyntaxAt) → s.begun ≡ None → s.broken ≡ None → ReadSoFar text p s → Finished text p s
finish one text p s e f read = goes one text p s (length text - p) p s (omega arith) (omega arith) read (grown_none p s e f)
