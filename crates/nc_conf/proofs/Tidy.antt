-- Numbers of blocks while a text is read: open blocks and blocks of directives are those of earlier directives, and closed blocks aren't open.
use Rattle.std.proofs.Common.{◌≡◌, ℕ, ◌+◌, ◌<◌, ◌≤◌, List, [], ◌∷◌, ◌++◌, length, true, false, Option, Some, None, refl, sym, ◌∙◌, subst, ap, arith}
use Rattle.std.specs.Prelude.{◌==◌}
use Rattle.std.specs.List.{AllByRecursion}
use Rattle.std.proofs.lemmas.Bool.Decides.{nat_tests}
use Rattle.nc_conf_lex.specs.declared.token.Token.{Token}
use Rattle.nc_conf_lex.specs.declared.token.Token.TheVariants as tokens
use Rattle.nc_conf.specs.declared.syntax.Word.{Word}
use Rattle.nc_conf.specs.declared.syntax.Directive.{Directive}
use Rattle.nc_conf.specs.declared.syntax.Close.{Close}
use Rattle.nc_conf.specs.declared.syntax.Begun.{Begun}
use Rattle.nc_conf.specs.Syntax.{innermost}
use Rattle.nc_conf.specs.Reader.{SyntaxAt, empty, after}

abbrev pub syntax_at : List Directive → List Close → List ℕ → Option Begun → Option ℕ → SyntaxAt
syntax_at ds cs bs begun broken = record { directives = ds; closes = cs; blocks = bs; begun = begun; broken = broken }

pub all_append : {X : Type 0} (P : X → Type 0) (xs ys : List X) → AllByRecursion P xs → AllByRecursion P ys → AllByRecursion P (xs ++ ys)
all_append P [] ys h k = k
all_append P (x ∷ xs) ys h k = (h.0, all_append P xs ys h.1 k)

pub length_snoc : {X : Type 0} (xs : List X) (x : X) → length (xs ++ x ∷ []) ≡ length xs + 1
length_snoc [] x = refl
length_snoc (y ∷ xs) x = let ih = length_snoc xs x in omega (arith, ih)

-- a number is none of these
abbrev pub NotIn : ℕ → List ℕ → Type 0
NotIn b bs = AllByRecursion (λ x. (x == b) ≡ false) bs

-- each number is lower than the one before it
abbrev pub Descends : ℕ → List ℕ → Type 0
Descends n [] = Unit {0}
Descends n (b ∷ bs) = (b < n) × Descends b bs

abbrev pub IsBelow : ℕ → Option ℕ → Type 0
IsBelow n None = Unit {0}
IsBelow n (Some i) = i < n

abbrev pub IsWithin : ℕ → Directive → Type 0
IsWithin n d = IsBelow n d.within

abbrev pub IsShut : ℕ → List ℕ → Close → Type 0
IsShut n bs c = (c.of < n) × NotIn c.of bs

pub record Tidy (s : SyntaxAt) : Type 0 where
  pub blocks : Descends (length s.directives) s.blocks
  pub within : AllByRecursion (IsWithin (length s.directives)) s.directives
  pub shut : AllByRecursion (IsShut (length s.directives) s.blocks) s.closes

descends_more : (n m : ℕ) (bs : List ℕ) → n ≤ m → Descends n bs → Descends m bs
descends_more n m [] e h = tt
descends_more n m (b ∷ bs) e h = (omega (arith, e, h.0), h.1)

below_more : (n m : ℕ) (w : Option ℕ) → n ≤ m → IsBelow n w → IsBelow m w
below_more n m None e h = tt
below_more n m (Some i) e h = omega (arith, e, h)

within_more : (n m : ℕ) (ds : List Directive) → n ≤ m → AllByRecursion (IsWithin n) ds → AllByRecursion (IsWithin m) ds
within_more n m [] e h = tt
within_more n m (d ∷ ds) e h = (below_more n m d.within e h.0, within_more n m ds e h.1)

shut_more : (n m : ℕ) (bs : List ℕ) (cs : List Close) → n ≤ m → AllByRecursion (IsShut n bs) cs → AllByRecursion (IsShut m bs) cs
shut_more n m bs [] e h = tt
shut_more n m bs (c ∷ cs) e h = ((omega (arith, e, h.0.0), h.0.1), shut_more n m bs cs e h.1)

pub not_same : (n b : ℕ) → b < n → (n == b) ≡ false
not_same n b h = grind (arith, nat_tests)

shut_opened : (n : ℕ) (bs : List ℕ) (cs : List Close) → AllByRecursion (IsShut n bs) cs → AllByRecursion (IsShut (n + 1) (n ∷ bs)) cs
shut_opened n bs [] h = tt
shut_opened n bs (c ∷ cs) h = ((omega (arith, h.0.0), (not_same n c.of h.0.0, h.0.1)), shut_opened n bs cs h.1)

shut_closed : (n b : ℕ) (bs : List ℕ) (cs : List Close) → AllByRecursion (IsShut n (b ∷ bs)) cs → AllByRecursion (IsShut n bs) cs
shut_closed n b bs [] h = tt
shut_closed n b bs (c ∷ cs) h = ((h.0.0, h.0.1.1), shut_closed n b bs cs h.1)

inner_below : (n : ℕ) (bs : List ℕ) → Descends n bs → IsBelow n (innermost bs)
inner_below n [] h = tt
inner_below n (b ∷ bs) h = h.0

lower : (n b : ℕ) → b < n → (b == n) ≡ false
lower n b h = grind (arith, nat_tests)

none_is : (b n : ℕ) (bs : List ℕ) → n ≤ b → Descends n bs → NotIn b bs
none_is b n [] e h = tt
none_is b n (x ∷ bs) e h = (lower b x (omega (arith, e, h.0)), none_is b x bs (omega (arith, e, h.0)) h.1)

one_line : (ds : List Directive) (cs : List Close) (bs : List ℕ) (d : Directive) → d.within ≡ innermost bs → Descends (length ds) bs → AllByRecursion (IsWithin (length ds)) ds → AllByRecursion (IsWithin (length ds + 1)) (ds ++ d ∷ [])
one_line ds cs bs d e b h =
    all_append (IsWithin (length ds + 1)) ds (d ∷ []) (within_more (length ds) (length ds + 1) ds (omega arith) h)
    (subst (λ (w : Option ℕ). IsBelow (length ds + 1) w) (sym e) (below_more (length ds) (length ds + 1) (innermost bs) (omega arith) (inner_below (length ds) bs b)), tt)

pub tidy : (ds : List Directive) (cs : List Close) (bs : List ℕ) (begun : Option Begun) (broken : Option ℕ) (t : Token) → Tidy (syntax_at ds cs bs begun broken) → Tidy (after (syntax_at ds cs bs begun broken) t)
tidy ds cs bs begun (Some p) t h = h
tidy ds cs bs None None (tokens.Word at text) h = record { blocks = h.blocks; within = h.within; shut = h.shut }
tidy ds cs bs (Some b) None (tokens.Word at text) h = record { blocks = h.blocks; within = h.within; shut = h.shut }
tidy ds cs bs None None (tokens.End at) h = record { blocks = h.blocks; within = h.within; shut = h.shut }
tidy ds cs bs None None (tokens.Opening at) h = record { blocks = h.blocks; within = h.within; shut = h.shut }
tidy ds cs [] None None (tokens.Closing at) h = record { blocks = h.blocks; within = h.within; shut = h.shut }
tidy ds cs bs (Some b) None (tokens.Closing at) h = record { blocks = h.blocks; within = h.within; shut = h.shut }
tidy ds cs (b ∷ bs) None None (tokens.Closing at) h = record {
  blocks = descends_more b (length ds) bs (omega (arith, h.blocks.0)) h.blocks.1;
  within = h.within;
  shut = all_append (IsShut (length ds) bs) cs (record { of = b; at = at } ∷ []) (shut_closed (length ds) b bs cs h.shut) ((h.blocks.0, none_is b b bs (omega arith) h.blocks.1), tt);
}
tidy ds cs bs (Some b) None (tokens.End at) h =
    let d : Directive = record { name = b.name; args = b.args; end = at; block = false; within = innermost bs } in
    let len : length ds + 1 ≡ length (ds ++ d ∷ []) = sym (length_snoc ds d) in
    record {
      blocks = subst (λ (n : ℕ). Descends n bs) len (descends_more (length ds) (length ds + 1) bs (omega arith) h.blocks);
      within = subst (λ (n : ℕ). AllByRecursion (IsWithin n) (ds ++ d ∷ [])) len (one_line ds cs bs d refl h.blocks h.within);
      shut = subst (λ (n : ℕ). AllByRecursion (IsShut n bs) cs) len (shut_more (length ds) (length ds + 1) bs cs (omega arith) h.shut);
    }
tidy ds cs bs (Some b) None (tokens.Opening at) h =
    let d : Directive = record { name = b.name; args = b.args; end = at; block = true; within = innermost bs } in
    let len : length ds + 1 ≡ length (ds ++ d ∷ []) = sym (length_snoc ds d) in
    record {
      blocks = subst (λ (n : ℕ). Descends n (length ds ∷ bs)) len (omega arith, h.blocks);
      within = subst (λ (n : ℕ). AllByRecursion (IsWithin n) (ds ++ d ∷ [])) len (one_line ds cs bs d refl h.blocks h.within);
      shut = subst (λ (n : ℕ). AllByRecursion (IsShut n (length ds ∷ bs)) cs) len (shut_opened (length ds) bs cs h.shut);
    }

pub tidy_new : Tidy empty
tidy_new = record { blocks = tt; within = tt; shut = tt }

pub tidy_next : (s new : SyntaxAt) (t : Token) → Tidy s → new ≡ after s t → Tidy new
tidy_next s new t h e = subst (λ (x : SyntaxAt). Tidy x) (sym e) (tidy s.directives s.closes s.blocks s.begun s.broken t h)

pub tidy_begin : (s : SyntaxAt) → s ≡ empty → Tidy s
tidy_begin s e = subst (λ (x : SyntaxAt). Tidy x) (sym e) tidy_new
