-- The tokens that were read so far, and their syntax.
use Rattle.std.proofs.Common.{◌≡◌, ℕ, ◌+◌, ◌-◌, List, [], ◌∷◌, ◌++◌, length, drop, true, false, Option, Some, None, refl, sym, ◌∙◌, subst, ap, append_assoc, arith}
use Rattle.std.specs.List.{flat_map}
use Rattle.nc_conf_lex.specs.declared.token.Token.{Token}
use Rattle.nc_conf_lex.specs.declared.token.Token.TheVariants as tokens
use Rattle.nc_conf_lex.specs.Reading.{Comes, Holds, Reads}
use Rattle.nc_conf.specs.declared.syntax.Word.{Word}
use Rattle.nc_conf.specs.declared.syntax.Directive.{Directive}
use Rattle.nc_conf.specs.declared.syntax.Close.{Close}
use Rattle.nc_conf.specs.declared.syntax.Begun.{Begun}
use Rattle.nc_conf.specs.Syntax.{Item, Line, Opens, Closes, word_token, words_tokens, item_tokens, AreNested, open_behind, innermost, directives_of, closes_of, Stops}
use Rattle.nc_conf.specs.Reader.{SyntaxAt, empty, after, words_of}
use Rattle.nc_conf.specs.Reading.{IsReading}

append_nil : {X : Type 0} (xs : List X) → xs ++ [] ≡ xs
append_nil [] = refl
append_nil (x ∷ xs) = ap (λ l. x ∷ l) (append_nil xs)

map_snoc : (ws : List Word) (w : Word) → words_tokens (ws ++ w ∷ []) ≡ words_tokens ws ++ word_token w ∷ []
map_snoc [] w = refl
map_snoc (v ∷ ws) w = ap (λ l. word_token v ∷ l) (map_snoc ws w)

flat_snoc : (items : List Item) (i : Item) → flat_map item_tokens (items ++ i ∷ []) ≡ flat_map item_tokens items ++ item_tokens i
flat_snoc [] i = append_nil (item_tokens i)
flat_snoc (j ∷ items) i = ap (λ l. item_tokens j ++ l) (flat_snoc items i) ∙ sym (append_assoc (item_tokens j) (flat_map item_tokens items) (item_tokens i))

-- items behind items

none_more : (n : ℕ) → n ≡ 0 + n
none_more n = omega arith

open_append : (n : ℕ) (bs : List ℕ) (xs more : List Item) → open_behind n bs (xs ++ more) ≡ open_behind (n + length (directives_of n bs xs)) (open_behind n bs xs) more
open_append n bs [] more = ap (λ (m : ℕ). open_behind m bs more) (omega arith)
open_append n bs (Line name args at ∷ xs) more = open_append (n + 1) bs xs more ∙ ap (λ (m : ℕ). open_behind m (open_behind (n + 1) bs xs) more) (omega arith)
open_append n bs (Opens name args at ∷ xs) more = open_append (n + 1) (n ∷ bs) xs more ∙ ap (λ (m : ℕ). open_behind m (open_behind (n + 1) (n ∷ bs) xs) more) (omega arith)
open_append n bs (Closes at ∷ xs) more = open_append n (drop 1 bs) xs more

directives_append : (n : ℕ) (bs : List ℕ) (xs more : List Item) → directives_of n bs (xs ++ more) ≡ directives_of n bs xs ++ directives_of (n + length (directives_of n bs xs)) (open_behind n bs xs) more
directives_append n bs [] more = ap (λ (m : ℕ). directives_of m bs more) (omega arith)
directives_append n bs (Line name args at ∷ xs) more =
    ap (λ (l : List Directive). record { name = name; args = args; end = at; block = false; within = innermost bs } ∷ l)
    (directives_append (n + 1) bs xs more ∙ ap (λ (m : ℕ). directives_of (n + 1) bs xs ++ directives_of m (open_behind (n + 1) bs xs) more) (omega arith))
directives_append n bs (Opens name args at ∷ xs) more =
    ap (λ (l : List Directive). record { name = name; args = args; end = at; block = true; within = innermost bs } ∷ l)
    (directives_append (n + 1) (n ∷ bs) xs more ∙ ap (λ (m : ℕ). directives_of (n + 1) (n ∷ bs) xs ++ directives_of m (open_behind (n + 1) (n ∷ bs) xs) more) (omega arith))
directives_append n bs (Closes at ∷ xs) more = directives_append n (drop 1 bs) xs more

closes_append : (n : ℕ) (bs : List ℕ) (xs more : List Item) → closes_of n bs (xs ++ more) ≡ closes_of n bs xs ++ closes_of (n + length (directives_of n bs xs)) (open_behind n bs xs) more
closes_append n bs [] more = ap (λ (m : ℕ). closes_of m bs more) (omega arith)
closes_append n bs (Line name args at ∷ xs) more = closes_append (n + 1) bs xs more ∙ ap (λ (m : ℕ). closes_of (n + 1) bs xs ++ closes_of m (open_behind (n + 1) bs xs) more) (omega arith)
closes_append n bs (Opens name args at ∷ xs) more = closes_append (n + 1) (n ∷ bs) xs more ∙ ap (λ (m : ℕ). closes_of (n + 1) (n ∷ bs) xs ++ closes_of m (open_behind (n + 1) (n ∷ bs) xs) more) (omega arith)
closes_append n [] (Closes at ∷ xs) more = closes_append n [] xs more
closes_append n (b ∷ bs) (Closes at ∷ xs) more = ap (λ (l : List Close). record { of = b; at = at } ∷ l) (closes_append n bs xs more)

dropped : (bs : List ℕ) → length (drop 1 bs) ≡ length bs - 1
dropped [] = refl
dropped (b ∷ bs) = omega arith

nested_append : (depth n : ℕ) (bs : List ℕ) (xs more : List Item) → depth ≡ length bs → AreNested depth xs → AreNested (length (open_behind n bs xs)) more → AreNested depth (xs ++ more)
nested_append depth n bs [] more e h k = subst (λ (d : ℕ). AreNested d more) (sym e) k
nested_append depth n bs (Line name args at ∷ xs) more e h k = nested_append depth (n + 1) bs xs more e h k
nested_append depth n bs (Opens name args at ∷ xs) more e h k = nested_append (depth + 1) (n + 1) (n ∷ bs) xs more (omega (arith, e)) h k
nested_append depth n bs (Closes at ∷ xs) more e h k = (h.0, nested_append (depth - 1) n (drop 1 bs) xs more (ap (λ (d : ℕ). d - 1) e ∙ sym (dropped bs)) h.1 k)

-- what was read so far

pub record IsSoFar (ts : List Token) (s : SyntaxAt) : Type 0 where
  pub items : List Item
  pub more : List Token
  pub split : ts ≡ flat_map item_tokens items ++ (words_tokens (words_of s.begun) ++ more)
  pub nested : AreNested 0 items
  pub stops : Stops s.blocks (words_of s.begun) more s.broken
  pub directives : s.directives ≡ directives_of 0 [] items
  pub closes : s.closes ≡ closes_of 0 [] items
  pub blocks : s.blocks ≡ open_behind 0 [] items

kept : (bs : List ℕ) (words : List Word) (more : List Token) (p : ℕ) (t : Token) → Stops bs words more (Some p) → Stops bs words (more ++ t ∷ []) (Some p)
kept bs words [] p t h = absurd h
kept bs words (m ∷ more) p t h = h

no_more : (bs : List ℕ) (words : List Word) (more : List Token) → Stops bs words more None → more ≡ []
no_more bs words [] h = refl
no_more bs words (m ∷ more) h = absurd h

split_more : (ts xs ys zs : List Token) (t : Token) → ts ≡ xs ++ (ys ++ zs) → ts ++ t ∷ [] ≡ xs ++ (ys ++ (zs ++ t ∷ []))
split_more ts xs ys zs t e = ap (λ (l : List Token). l ++ t ∷ []) e ∙ append_assoc xs (ys ++ zs) (t ∷ []) ∙ ap (λ (l : List Token). xs ++ l) (append_assoc ys zs (t ∷ []))

-- with nothing left over, a token goes behind the words
behind_words : (ts : List Token) (s : SyntaxAt) (t : Token) (h : IsSoFar ts s) → s.broken ≡ None → ts ++ t ∷ [] ≡ flat_map item_tokens h.items ++ (words_tokens (words_of s.begun) ++ t ∷ [])
behind_words ts s t h e =
    let left = no_more s.blocks (words_of s.begun) h.more (subst (λ (o : Option ℕ). Stops s.blocks (words_of s.begun) h.more o) e h.stops) in
    split_more ts (flat_map item_tokens h.items) (words_tokens (words_of s.begun)) h.more t h.split ∙ ap (λ (l : List Token). flat_map item_tokens h.items ++ (words_tokens (words_of s.begun) ++ (l ++ t ∷ []))) left

-- one item more
with_item : (ts : List Token) (items : List Item) (i : Item) → ts ≡ flat_map item_tokens items ++ item_tokens i → ts ≡ flat_map item_tokens (items ++ i ∷ []) ++ []
with_item ts items i e = e ∙ sym (flat_snoc items i) ∙ sym (append_nil (flat_map item_tokens (items ++ i ∷ [])))

directives_snoc : (ds : List Directive) (bs : List ℕ) (items : List Item) (i : Item) → ds ≡ directives_of 0 [] items → bs ≡ open_behind 0 [] items → ds ++ directives_of (length ds) bs (i ∷ []) ≡ directives_of 0 [] (items ++ i ∷ [])
directives_snoc ds bs items i d b =
    ap (λ (x : List Directive). x ++ directives_of (length x) bs (i ∷ [])) d
    ∙ ap (λ (o : List ℕ). directives_of 0 [] items ++ directives_of (length (directives_of 0 [] items)) o (i ∷ [])) b
    ∙ ap (λ (m : ℕ). directives_of 0 [] items ++ directives_of m (open_behind 0 [] items) (i ∷ [])) (none_more (length (directives_of 0 [] items)))
    ∙ sym (directives_append 0 [] items (i ∷ []))

closes_snoc : (cs : List Close) (ds : List Directive) (bs : List ℕ) (items : List Item) (i : Item) → cs ≡ closes_of 0 [] items → ds ≡ directives_of 0 [] items → bs ≡ open_behind 0 [] items → cs ++ closes_of (length ds) bs (i ∷ []) ≡ closes_of 0 [] (items ++ i ∷ [])
closes_snoc cs ds bs items i c d b =
    ap (λ (x : List Close). x ++ closes_of (length ds) bs (i ∷ [])) c
    ∙ ap (λ (x : List Directive). closes_of 0 [] items ++ closes_of (length x) bs (i ∷ [])) d
    ∙ ap (λ (o : List ℕ). closes_of 0 [] items ++ closes_of (length (directives_of 0 [] items)) o (i ∷ [])) b
    ∙ ap (λ (m : ℕ). closes_of 0 [] items ++ closes_of m (open_behind 0 [] items) (i ∷ [])) (none_more (length (directives_of 0 [] items)))
    ∙ sym (closes_append 0 [] items (i ∷ []))

blocks_snoc : (ds : List Directive) (bs : List ℕ) (items : List Item) (i : Item) → ds ≡ directives_of 0 [] items → bs ≡ open_behind 0 [] items → open_behind (length ds) bs (i ∷ []) ≡ open_behind 0 [] (items ++ i ∷ [])
blocks_snoc ds bs items i d b =
    ap (λ (x : List Directive). open_behind (length x) bs (i ∷ [])) d
    ∙ ap (λ (o : List ℕ). open_behind (length (directives_of 0 [] items)) o (i ∷ [])) b
    ∙ ap (λ (m : ℕ). open_behind m (open_behind 0 [] items) (i ∷ [])) (none_more (length (directives_of 0 [] items)))
    ∙ sym (open_append 0 [] items (i ∷ []))

nested_snoc : (bs : List ℕ) (items : List Item) (i : Item) → bs ≡ open_behind 0 [] items → AreNested 0 items → AreNested (length bs) (i ∷ []) → AreNested 0 (items ++ i ∷ [])
nested_snoc bs items i b h k = nested_append 0 0 [] items (i ∷ []) refl h (subst (λ (o : List ℕ). AreNested (length o) (i ∷ [])) b k)

abbrev at_none : List Directive → List Close → List ℕ → Option Begun → SyntaxAt
at_none ds cs bs begun = record { directives = ds; closes = cs; blocks = bs; begun = begun; broken = None }

-- one token more, where no sign stood wrong before

step : (ts : List Token) (ds : List Directive) (cs : List Close) (bs : List ℕ) (begun : Option Begun) (t : Token) → IsSoFar ts (at_none ds cs bs begun) → IsSoFar (ts ++ t ∷ []) (after (at_none ds cs bs begun) t)
step ts ds cs bs None (tokens.Word at text) h = record {
  items = h.items;
  more = [];
  split = behind_words ts (at_none ds cs bs None) (tokens.Word at text) h refl;
  nested = h.nested;
  stops = tt;
  directives = h.directives;
  closes = h.closes;
  blocks = h.blocks;
}
step ts ds cs bs (Some b) (tokens.Word at text) h = record {
  items = h.items;
  more = [];
  split = behind_words ts (at_none ds cs bs (Some b)) (tokens.Word at text) h refl ∙ ap (λ (l : List Token). flat_map item_tokens h.items ++ (word_token b.name ∷ l)) (sym (map_snoc b.args (record { at = at; text = text })) ∙ sym (append_nil (words_tokens (b.args ++ record { at = at; text = text } ∷ []))));
  nested = h.nested;
  stops = tt;
  directives = h.directives;
  closes = h.closes;
  blocks = h.blocks;
}
step ts ds cs bs None (tokens.End at) h = record {
  items = h.items;
  more = tokens.End at ∷ [];
  split = behind_words ts (at_none ds cs bs None) (tokens.End at) h refl;
  nested = h.nested;
  stops = refl;
  directives = h.directives;
  closes = h.closes;
  blocks = h.blocks;
}
step ts ds cs bs None (tokens.Opening at) h = record {
  items = h.items;
  more = tokens.Opening at ∷ [];
  split = behind_words ts (at_none ds cs bs None) (tokens.Opening at) h refl;
  nested = h.nested;
  stops = refl;
  directives = h.directives;
  closes = h.closes;
  blocks = h.blocks;
}
step ts ds cs [] None (tokens.Closing at) h = record {
  items = h.items;
  more = tokens.Closing at ∷ [];
  split = behind_words ts (at_none ds cs [] None) (tokens.Closing at) h refl;
  nested = h.nested;
  stops = refl;
  directives = h.directives;
  closes = h.closes;
  blocks = h.blocks;
}
step ts ds cs bs (Some b) (tokens.Closing at) h = record {
  items = h.items;
  more = tokens.Closing at ∷ [];
  split = behind_words ts (at_none ds cs bs (Some b)) (tokens.Closing at) h refl;
  nested = h.nested;
  stops = misplaced bs;
  directives = h.directives;
  closes = h.closes;
  blocks = h.blocks;
}
  where
    misplaced : (bs : List ℕ) → Stops bs (words_of (Some b)) (tokens.Closing at ∷ []) (Some at)
    misplaced [] = refl
    misplaced (c ∷ bs) = refl
step ts ds cs (c ∷ bs) None (tokens.Closing at) h = record {
  items = h.items ++ Closes at ∷ [];
  more = [];
  split = with_item (ts ++ tokens.Closing at ∷ []) h.items (Closes at) (behind_words ts (at_none ds cs (c ∷ bs) None) (tokens.Closing at) h refl);
  nested = nested_snoc (c ∷ bs) h.items (Closes at) h.blocks h.nested (omega arith, tt);
  stops = tt;
  directives = sym (append_nil ds) ∙ directives_snoc ds (c ∷ bs) h.items (Closes at) h.directives h.blocks;
  closes = closes_snoc cs ds (c ∷ bs) h.items (Closes at) h.closes h.directives h.blocks;
  blocks = blocks_snoc ds (c ∷ bs) h.items (Closes at) h.directives h.blocks;
}
step ts ds cs bs (Some b) (tokens.End at) h = record {
  items = h.items ++ Line b.name b.args at ∷ [];
  more = [];
  split = with_item (ts ++ tokens.End at ∷ []) h.items (Line b.name b.args at) (behind_words ts (at_none ds cs bs (Some b)) (tokens.End at) h refl);
  nested = nested_snoc bs h.items (Line b.name b.args at) h.blocks h.nested tt;
  stops = tt;
  directives = directives_snoc ds bs h.items (Line b.name b.args at) h.directives h.blocks;
  closes = sym (append_nil cs) ∙ closes_snoc cs ds bs h.items (Line b.name b.args at) h.closes h.directives h.blocks;
  blocks = blocks_snoc ds bs h.items (Line b.name b.args at) h.directives h.blocks;
}
step ts ds cs bs (Some b) (tokens.Opening at) h = record {
  items = h.items ++ Opens b.name b.args at ∷ [];
  more = [];
  split = with_item (ts ++ tokens.Opening at ∷ []) h.items (Opens b.name b.args at) (behind_words ts (at_none ds cs bs (Some b)) (tokens.Opening at) h refl);
  nested = nested_snoc bs h.items (Opens b.name b.args at) h.blocks h.nested tt;
  stops = tt;
  directives = directives_snoc ds bs h.items (Opens b.name b.args at) h.directives h.blocks;
  closes = sym (append_nil cs) ∙ closes_snoc cs ds bs h.items (Opens b.name b.args at) h.closes h.directives h.blocks;
  blocks = blocks_snoc ds bs h.items (Opens b.name b.args at) h.directives h.blocks;
}

abbrev syntax_at : List Directive → List Close → List ℕ → Option Begun → Option ℕ → SyntaxAt
syntax_at ds cs bs begun broken = record { directives = ds; closes = cs; blocks = bs; begun = begun; broken = broken }

step_any : (ts : List Token) (ds : List Directive) (cs : List Close) (bs : List ℕ) (begun : Option Begun) (broken : Option ℕ) (t : Token) → IsSoFar ts (syntax_at ds cs bs begun broken) → IsSoFar (ts ++ t ∷ []) (after (syntax_at ds cs bs begun broken) t)
step_any ts ds cs bs begun None t h = step ts ds cs bs begun t h
step_any ts ds cs bs begun (Some p) t h = record {
  items = h.items;
  more = h.more ++ t ∷ [];
  split = split_more ts (flat_map item_tokens h.items) (words_tokens (words_of begun)) h.more t h.split;
  nested = h.nested;
  stops = kept bs (words_of begun) h.more p t h.stops;
  directives = h.directives;
  closes = h.closes;
  blocks = h.blocks;
}

-- texts

pub record ReadSoFar (text : List ℕ) (at : ℕ) (s : SyntaxAt) : Type 0 where
  pub ts : List Token
  pub reach : (more : List Token) (stop : Option ℕ) → Reads text at more stop → Reads text 0 (ts ++ more) stop
  pub syntax : IsSoFar ts s

pub read_start : (text : List ℕ) → ReadSoFar text 0 empty
read_start text = record { ts = []; reach = λ more stop h. h; syntax = record { items = []; more = []; split = refl; nested = tt; stops = tt; directives = refl; closes = refl; blocks = refl } }

pub read_next : (text : List ℕ) (at next : ℕ) (s new : SyntaxAt) (t : Token) → ReadSoFar text at s → Comes text at (Holds t next) → new ≡ after s t → ReadSoFar text next new
read_next text at next s new t h told is = record {
  ts = h.ts ++ t ∷ [];
  reach = λ more stop k. subst (λ (l : List Token). Reads text 0 l stop) (sym (append_assoc h.ts (t ∷ []) more)) (h.reach (t ∷ more) stop (next, told, k));
  syntax = subst (λ (x : SyntaxAt). IsSoFar (h.ts ++ t ∷ []) x) (sym is) (step_any h.ts s.directives s.closes s.blocks s.begun s.broken t h.syntax);
}

pub read_end : (text : List ℕ) (at : ℕ) (s : SyntaxAt) (stop : Option ℕ) → ReadSoFar text at s → Reads text at [] stop → IsReading text s stop
read_end text at s stop h last = record {
  items = h.syntax.items;
  has = record {
    tokens = h.ts;
    reads = subst (λ (l : List Token). Reads text 0 l stop) (append_nil h.ts) (h.reach [] stop last);
    syntax = record { more = h.syntax.more; split = h.syntax.split; nested = h.syntax.nested; stops = subst (λ (o : List ℕ). Stops o (words_of s.begun) h.syntax.more s.broken) h.syntax.blocks h.syntax.stops };
  };
  directives = h.syntax.directives;
  closes = h.syntax.closes;
  blocks = h.syntax.blocks;
}

pub read_begin : (text : List ℕ) (at : ℕ) (s : SyntaxAt) → at ≡ 0 → s ≡ empty → ReadSoFar text at s
read_begin text at s e f = subst (λ (n : ℕ). ReadSoFar text n s) (sym e) (subst (λ (x : SyntaxAt). ReadSoFar text 0 x) (sym f) (read_start text))
