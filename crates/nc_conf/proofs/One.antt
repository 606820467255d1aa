-- A text has one first fault or one configuration.
use Rattle.std.proofs.Common.{◌≡◌, ℕ, ◌+◌, ◌-◌, ◌<◌, List, [], ◌∷◌, ◌++◌, length, true, false, Option, Some, None, refl, sym, ◌∙◌, subst, ap, inl, inr, arith, append_assoc}
use Rattle.std.specs.Prelude.{fold}
use Rattle.std.specs.List.{AllByRecursion, flat_map}
use Rattle.std.proofs.lemmas.Bool.Decides.{nat_tests}
use Rattle.nc_conf_lex.specs.declared.token.Token.{Token}
use Rattle.nc_conf_lex.specs.declared.token.Token.TheVariants as tokens
use Rattle.nc_conf_lex.specs.Reading.{OneReading}
use Rattle.nc_conf.specs.declared.fault.Fault.{Fault as FaultAt}
use Rattle.nc_conf.specs.declared.syntax.Word.{Word}
use Rattle.nc_conf.specs.declared.syntax.Directive.{Directive}
use Rattle.nc_conf.specs.declared.syntax.Close.{Close}
use Rattle.nc_conf.specs.declared.syntax.Begun.{Begun}
use Rattle.nc_conf.specs.Syntax.{Item, Line, Opens, Closes, word_token, words_tokens, item_tokens, AreNested, open_behind, innermost, directives_of, closes_of, Stops, IsSyntax}
use Rattle.nc_conf.specs.Faults.{faults_of}
use Rattle.nc_conf.specs.First.{is_before, IsIn, IsNotBefore, IsFirstFault}
use Rattle.nc_conf.specs.Config.{config_of}
use Rattle.nc_conf.specs.Reader.{SyntaxAt, empty, after, words_of, all_faults}
use Rattle.nc_conf.specs.Answer.{OneFirst, OneConfig, NeverBoth}

-- the reader over the tokens of items

abbrev all_after : SyntaxAt → List Token → SyntaxAt
all_after s ts = fold after s ts

abbrev syntax_at : List Directive → List Close → List ℕ → Option Begun → Option ℕ → SyntaxAt
syntax_at ds cs bs begun broken = record { directives = ds; closes = cs; blocks = bs; begun = begun; broken = broken }

abbrev begun_at : List Directive → List Close → List ℕ → Word → List Word → SyntaxAt
begun_at ds cs bs name args = syntax_at ds cs bs (Some (record { name = name; args = args })) None

-- more arguments
over_args : (ds : List Directive) (cs : List Close) (bs : List ℕ) (name : Word) (args more : List Word) (rest : List Token) → all_after (begun_at ds cs bs name args) (words_tokens more ++ rest) ≡ all_after (begun_at ds cs bs name (args ++ more)) rest
over_args ds cs bs name args [] rest = ap (λ (l : List Word). all_after (begun_at ds cs bs name l) rest) (sym (append_nil args))
  where
    append_nil : (ws : List Word) → ws ++ [] ≡ ws
    append_nil [] = refl
    append_nil (w ∷ ws) = ap (λ l. w ∷ l) (append_nil ws)
over_args ds cs bs name args (w ∷ more) rest = over_args ds cs bs name (args ++ w ∷ []) more rest ∙ ap (λ (l : List Word). all_after (begun_at ds cs bs name l) rest) (append_assoc args (w ∷ []) more)

nil_behind : {X : Type 0} (xs : List X) → xs ++ [] ≡ xs
nil_behind [] = refl
nil_behind (x ∷ xs) = ap (λ l. x ∷ l) (nil_behind xs)

length_snoc : (ds : List Directive) (d : Directive) → length (ds ++ d ∷ []) ≡ length ds + 1
length_snoc [] d = refl
length_snoc (e ∷ ds) d = let ih = length_snoc ds d in omega (arith, ih)

abbrev done : ℕ → List Directive → List Close → List ℕ → List Item → List Token → SyntaxAt
done n ds cs bs items rest = all_after (syntax_at (ds ++ directives_of n bs items) (cs ++ closes_of n bs items) (open_behind n bs items) None None) rest

one_more : (ds : List Directive) (d : Directive) (cs : List Close) (bs : List ℕ) (items : List Item) (rest : List Token) → done (length (ds ++ d ∷ [])) (ds ++ d ∷ []) cs bs items rest ≡ all_after (syntax_at (ds ++ (d ∷ directives_of (length ds + 1) bs items)) (cs ++ closes_of (length ds + 1) bs items) (open_behind (length ds + 1) bs items) None None) rest
one_more ds d cs bs items rest =
    ap (λ (n : ℕ). done n (ds ++ d ∷ []) cs bs items rest) (length_snoc ds d)
    ∙ ap (λ (x : List Directive). all_after (syntax_at x (cs ++ closes_of (length ds + 1) bs items) (open_behind (length ds + 1) bs items) None None) rest) (append_assoc ds (d ∷ []) (directives_of (length ds + 1) bs items))

longer : (n : ℕ) (bs : List ℕ) → length bs + 1 ≡ length (n ∷ bs)
longer n bs = omega arith

shorter : (n : ℕ) (bs : List ℕ) → length (n ∷ bs) - 1 ≡ length bs
shorter n bs = omega arith

no_less : {P : Type 0} → 0 < 0 → P
no_less h = absurd (omega (arith, h))

-- a directive's tokens, and what follows
over_words : (ds : List Directive) (cs : List Close) (bs : List ℕ) (name : Word) (args : List Word) (t : Token) (rest : List Token) → all_after (syntax_at ds cs bs None None) ((word_token name ∷ (words_tokens args ++ t ∷ [])) ++ rest) ≡ all_after (begun_at ds cs bs name args) (t ∷ rest)
over_words ds cs bs name args t rest =
    ap (λ (l : List Token). all_after (begun_at ds cs bs name []) l) (append_assoc (words_tokens args) (t ∷ []) rest)
    ∙ over_args ds cs bs name [] args (t ∷ rest)

in_parts : (ds : List Directive) (cs : List Close) (bs : List ℕ) (i : Item) (items : List Item) (rest : List Token) → all_after (syntax_at ds cs bs None None) (flat_map item_tokens (i ∷ items) ++ rest) ≡ all_after (syntax_at ds cs bs None None) (item_tokens i ++ (flat_map item_tokens items ++ rest))
in_parts ds cs bs i items rest = ap (λ (l : List Token). all_after (syntax_at ds cs bs None None) l) (append_assoc (item_tokens i) (flat_map item_tokens items) rest)

over_items : (ds : List Directive) (cs : List Close) (bs : List ℕ) (items : List Item) (rest : List Token) → AreNested (length bs) items → all_after (syntax_at ds cs bs None None) (flat_map item_tokens items ++ rest) ≡ done (length ds) ds cs bs items rest
over_items ds cs bs [] rest h =
    ap (λ (x : List Directive). all_after (syntax_at x cs bs None None) rest) (sym (nil_behind ds))
    ∙ ap (λ (x : List Close). all_after (syntax_at (ds ++ []) x bs None None) rest) (sym (nil_behind cs))
over_items ds cs bs (Line name args at ∷ items) rest h =
    let d : Directive = record { name = name; args = args; end = at; block = false; within = innermost bs } in
    in_parts ds cs bs (Line name args at) items rest
    ∙ over_words ds cs bs name args (tokens.End at) (flat_map item_tokens items ++ rest)
    ∙ over_items (ds ++ d ∷ []) cs bs items rest h
    ∙ one_more ds d cs bs items rest
over_items ds cs bs (Opens name args at ∷ items) rest h =
    let d : Directive = record { name = name; args = args; end = at; block = true; within = innermost bs } in
    in_parts ds cs bs (Opens name args at) items rest
    ∙ over_words ds cs bs name args (tokens.Opening at) (flat_map item_tokens items ++ rest)
    ∙ over_items (ds ++ d ∷ []) cs (length ds ∷ bs) items rest (subst (λ (n : ℕ). AreNested n items) (longer (length ds) bs) h)
    ∙ one_more ds d cs (length ds ∷ bs) items rest
over_items ds cs [] (Closes at ∷ items) rest h = no_less h.0
over_items ds cs (b ∷ bs) (Closes at ∷ items) rest h =
    let c : Close = record { of = b; at = at } in
    over_items ds (cs ++ c ∷ []) bs items rest (subst (λ (n : ℕ). AreNested n items) (shorter b bs) h.1)
    ∙ ap (λ (x : List Close). all_after (syntax_at (ds ++ directives_of (length ds) bs items) x (open_behind (length ds) bs items) None None) rest) (append_assoc cs (c ∷ []) (closes_of (length ds) bs items))

stays : (ds : List Directive) (cs : List Close) (bs : List ℕ) (begun : Option Begun) (p : ℕ) (more : List Token) → all_after (syntax_at ds cs bs begun (Some p)) more ≡ syntax_at ds cs bs begun (Some p)
stays ds cs bs begun p [] = refl
stays ds cs bs begun p (t ∷ more) = stays ds cs bs begun p more

stays_at : (ds : List Directive) (cs : List Close) (bs : List ℕ) (begun : Option Begun) (p at : ℕ) (more : List Token) → p ≡ at → all_after (syntax_at ds cs bs begun (Some at)) more ≡ syntax_at ds cs bs begun (Some p)
stays_at ds cs bs begun p at more e = stays ds cs bs begun at more ∙ ap (λ (n : ℕ). syntax_at ds cs bs begun (Some n)) (sym e)

abbrev begun_of : List Word → Option Begun
begun_of [] = None
begun_of (w ∷ ws) = Some (record { name = w; args = ws })

begun_words : (words : List Word) → words_of (begun_of words) ≡ words
begun_words [] = refl
begun_words (w ∷ ws) = refl

over_rest : (ds : List Directive) (cs : List Close) (bs : List ℕ) (words : List Word) (more : List Token) (broken : Option ℕ) → Stops bs words more broken → all_after (syntax_at ds cs bs (begun_of words) None) more ≡ syntax_at ds cs bs (begun_of words) broken
over_rest ds cs bs words [] None h = refl
over_rest ds cs bs words [] (Some p) h = absurd h
over_rest ds cs bs words (t ∷ more) None h = absurd h
over_rest ds cs bs words (tokens.Word at text ∷ more) (Some p) h = absurd h
over_rest ds cs bs [] (tokens.End at ∷ more) (Some p) h = stays_at ds cs bs None p at more h
over_rest ds cs bs [] (tokens.Opening at ∷ more) (Some p) h = stays_at ds cs bs None p at more h
over_rest ds cs [] [] (tokens.Closing at ∷ more) (Some p) h = stays_at ds cs [] None p at more h
over_rest ds cs (b ∷ bs) [] (tokens.Closing at ∷ more) (Some p) h = absurd h
over_rest ds cs bs (w ∷ ws) (tokens.End at ∷ more) (Some p) h = absurd (ended bs h)
  where
    ended : (bs : List ℕ) → Stops bs (w ∷ ws) (tokens.End at ∷ more) (Some p) → ⊥
    ended [] k = k
    ended (b ∷ bs) k = k
over_rest ds cs bs (w ∷ ws) (tokens.Opening at ∷ more) (Some p) h = absurd (opened bs h)
  where
    opened : (bs : List ℕ) → Stops bs (w ∷ ws) (tokens.Opening at ∷ more) (Some p) → ⊥
    opened [] k = k
    opened (b ∷ bs) k = k
over_rest ds cs bs (w ∷ ws) (tokens.Closing at ∷ more) (Some p) h = stays_at ds cs bs (begun_of (w ∷ ws)) p at more (closed bs h)
  where
    closed : (bs : List ℕ) → Stops bs (w ∷ ws) (tokens.Closing at ∷ more) (Some p) → p ≡ at
    closed [] k = k
    closed (b ∷ bs) k = k

over_begun : (ds : List Directive) (cs : List Close) (bs : List ℕ) (words : List Word) (more : List Token) → all_after (syntax_at ds cs bs None None) (words_tokens words ++ more) ≡ all_after (syntax_at ds cs bs (begun_of words) None) more
over_begun ds cs bs [] more = refl
over_begun ds cs bs (w ∷ ws) more = over_args ds cs bs w [] ws more

reads_as : (ts : List Token) (items : List Item) (words : List Word) (broken : Option ℕ) → IsSyntax ts items words broken → all_after empty ts ≡ syntax_at (directives_of 0 [] items) (closes_of 0 [] items) (open_behind 0 [] items) (begun_of words) broken
reads_as ts items words broken h =
    ap (λ (l : List Token). all_after empty l) h.split
    ∙ over_items [] [] [] items (words_tokens words ++ h.more) h.nested
    ∙ over_begun (directives_of 0 [] items) (closes_of 0 [] items) (open_behind 0 [] items) words h.more
    ∙ over_rest (directives_of 0 [] items) (closes_of 0 [] items) (open_behind 0 [] items) words h.more broken h.stops

-- the tokens of a text fix its faults and its directives

faults_are : (len : ℕ) (ts : List Token) (items : List Item) (words : List Word) (broken bad : Option ℕ) → IsSyntax ts items words broken → faults_of len items words broken bad ≡ all_faults len (all_after empty ts) bad
faults_are len ts items words broken bad h =
    ap (λ (w : List Word). faults_of len items w broken bad) (sym (begun_words words))
    ∙ ap (λ (s : SyntaxAt). all_faults len s bad) (sym (reads_as ts items words broken h))

directives_are : (ts : List Token) (items : List Item) (words : List Word) (broken : Option ℕ) → IsSyntax ts items words broken → directives_of 0 [] items ≡ (all_after empty ts).directives
directives_are ts items words broken h = ap (λ (s : SyntaxAt). s.directives) (sym (reads_as ts items words broken h))

-- the first of faults

in_all : (P : FaultAt → Type 0) (fs : List FaultAt) (x : FaultAt) → AllByRecursion P fs → IsIn fs x → P x
in_all P [] x h i = absurd i
in_all P (y ∷ fs) x h (inl e) = subst P e h.0
in_all P (y ∷ fs) x h (inr i) = in_all P fs x h.1 i

abbrev made : ℕ → ℕ → FaultAt
made at rule = record { at = at; rule = rule }

same_fault : (f g : FaultAt) → is_before f g ≡ false → is_before g f ≡ false → f ≡ g
same_fault f g p q =
    let at : f.at ≡ g.at = grind (arith, nat_tests) in
    let rule : f.rule ≡ g.rule = grind (arith, nat_tests) in
    ap (λ (n : ℕ). made n f.rule) at ∙ ap (λ (n : ℕ). made g.at n) rule

first_one : (fs : List FaultAt) (a b : Option FaultAt) → IsFirstFault fs a → IsFirstFault fs b → a ≡ b
first_one fs None None h k = refl
first_one fs None (Some g) h k = absurd (subst (λ (l : List FaultAt). IsIn l g) h k.0)
first_one fs (Some f) None h k = absurd (subst (λ (l : List FaultAt). IsIn l f) k h.0)
first_one fs (Some f) (Some g) h k = ap (λ (x : FaultAt). Some x) (same_fault f g (in_all (IsNotBefore g) fs f k.1 h.0) (in_all (IsNotBefore f) fs g h.1 k.0))

-- texts

pub one_first : OneReading → OneFirst
one_first one text first other h k =
    let t = one text 0 h.syntax.tokens k.syntax.tokens h.bad k.bad h.syntax.reads k.syntax.reads in
    let len : ℕ = length text in
    let same : faults_of len h.items h.words h.broken h.bad ≡ faults_of len k.items k.words k.broken k.bad =
    faults_are len h.syntax.tokens h.items h.words h.broken h.bad h.syntax.syntax
    ∙ ap (λ (ts : List Token). all_faults len (all_after empty ts) h.bad) t.0
    ∙ ap (λ (o : Option ℕ). all_faults len (all_after empty k.syntax.tokens) o) t.1
    ∙ sym (faults_are len k.syntax.tokens k.items k.words k.broken k.bad k.syntax.syntax) in
    first_one (faults_of len k.items k.words k.broken k.bad) first other (subst (λ (fs : List FaultAt). IsFirstFault fs first) same h.is) k.is

pub one_config : OneReading → OneConfig
one_config one text config other h k =
    let t = one text 0 h.syntax.tokens k.syntax.tokens h.bad k.bad h.syntax.reads k.syntax.reads in
    let same : directives_of 0 [] h.items ≡ directives_of 0 [] k.items =
    directives_are h.syntax.tokens h.items h.words h.broken h.syntax.syntax
    ∙ ap (λ (ts : List Token). (all_after empty ts).directives) t.0
    ∙ sym (directives_are k.syntax.tokens k.items k.words k.broken k.syntax.syntax) in
    h.is ∙ ap config_of same ∙ sym k.is

no_fault : {P : Type 0} (f : FaultAt) → (let o : Option FaultAt = Some f in o) ≡ None → P
no_fault f e = absurd (cc)

pub never_both : OneReading → NeverBoth
never_both one text config f h k = no_fault f (one_first one text (Some f) None k (record { items = h.items; words = h.words; broken = h.broken; bad = h.bad; syntax = h.syntax; is = h.faultless }))
