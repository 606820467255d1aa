-- What several reads give.
use Rattle.std.proofs.Common.{◌≡◌, ◌≢◌, ℕ, List, [], ◌∷◌, ◌++◌, length, refl, sym, ◌∙◌, ap, subst, append_assoc, arith}
use Rattle.std.proofs.lemmas.List.{append-nil, append_cancel_right}
use Rattle.nc_outside.specs.Pieces.{joined, AreFull, Gives, GivesAll}

pub gives_nothing : (old : List (List ℕ)) → Gives [] old old
gives_nothing old = record { pieces = []; full = tt; is_text = refl; given = refl }

not_empty : (piece : List ℕ) → length piece ≢ 0 → piece ≢ []
not_empty piece some is = some (ap (λ (l : List ℕ). length l) is)

-- one piece more
pub gives_more : (text piece : List ℕ) (old now new : List (List ℕ)) → Gives text old now → length piece ≢ 0 → new ≡ piece ∷ now → Gives (text ++ piece) old new
gives_more text piece old now new h some is = record {
  pieces = piece ∷ h.pieces;
  full = (not_empty piece some, h.full);
  is_text = ap (λ (l : List ℕ). l ++ piece) h.is_text;
  given = is ∙ ap (λ (l : List (List ℕ)). piece ∷ l) h.given;
}

full_append : (pieces others : List (List ℕ)) → AreFull pieces → AreFull others → AreFull (pieces ++ others)
full_append [] others all each = each
full_append (piece ∷ pieces) others all each = (all.0, full_append pieces others all.1 each)

joined_append : (pieces others : List (List ℕ)) → joined (pieces ++ others) ≡ joined others ++ joined pieces
joined_append [] others = sym (append-nil (joined others))
joined_append (piece ∷ pieces) others =
    ap (λ (l : List ℕ). l ++ piece) (joined_append pieces others) ∙ append_assoc (joined others) (joined pieces) piece

-- and more behind
pub gives_then : (text more : List ℕ) (old now new : List (List ℕ)) → Gives text old now → Gives more now new → Gives (text ++ more) old new
gives_then text more old now new h k = record {
  pieces = k.pieces ++ h.pieces;
  full = full_append k.pieces h.pieces k.full h.full;
  is_text = ap (λ (l : List ℕ). l ++ more) h.is_text ∙ ap (λ (l : List ℕ). joined h.pieces ++ l) k.is_text ∙ sym (joined_append k.pieces h.pieces);
  given = k.given ∙ ap (λ (l : List (List ℕ)). k.pieces ++ l) h.given ∙ sym (append_assoc k.pieces h.pieces old);
}

empty : (piece : List ℕ) → length piece ≡ 0 → piece ≡ []
empty [] is = refl
empty (x ∷ xs) is = absurd (omega (arith, is))

-- and the end
pub gives_all : (text piece : List ℕ) (old now new : List (List ℕ)) → Gives text old now → length piece ≡ 0 → new ≡ piece ∷ now → GivesAll text old new
gives_all text piece old now new h none is = record {
  before = now;
  gives = h;
  at_end = is ∙ ap (λ (l : List ℕ). l ∷ now) (empty piece none);
}

behind : (a b : List ℕ) (xs ys : List (List ℕ)) → a ∷ xs ≡ b ∷ ys → xs ≡ ys
behind a b xs ys is = cc

-- what was given between two moments is one text
pub gives_once : (text other : List ℕ) (old new : List (List ℕ)) → Gives text old new → Gives other old new → text ≡ other
gives_once text other old new g h =
    let pieces : g.pieces ≡ h.pieces = append_cancel_right g.pieces h.pieces old (sym g.given ∙ h.given) in
    g.is_text ∙ ap joined pieces ∙ sym h.is_text

-- and so up to the end
pub gives_all_once : (text other : List ℕ) (old new : List (List ℕ)) → GivesAll text old new → GivesAll other old new → text ≡ other
gives_all_once text other old new g h =
    let same : g.before ≡ h.before = behind [] [] g.before h.before (sym g.at_end ∙ h.at_end) in
    gives_once text other old h.before (subst (λ (l : List (List ℕ)). Gives text old l) same g.gives) h.gives

-- the pieces up to the end have it in front, and no others have
no_end : (pieces ended old : List (List ℕ)) → AreFull pieces → pieces ≡ [] ∷ ended → ⊥
no_end [] ended old full is = absurd (cc)
no_end (piece ∷ pieces) ended old full is = full.0 (front piece [] pieces ended is)
  where
    front : (a b : List ℕ) (xs ys : List (List ℕ)) → a ∷ xs ≡ b ∷ ys → a ≡ b
    front a b xs ys is = cc

pub never_goes_on : (text other : List ℕ) (old new : List (List ℕ)) → GivesAll text old new → Gives other old new → ⊥
never_goes_on text other old new g h =
    no_end h.pieces g.gives.pieces old h.full
    (append_cancel_right h.pieces ([] ∷ g.gives.pieces) old (sym h.given ∙ g.at_end ∙ ap (λ (l : List (List ℕ)). [] ∷ l) g.gives.given))
