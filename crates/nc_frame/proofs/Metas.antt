-- A payload is cut at its lines in one way.
use Rattle.std.proofs.Common.{◌≡◌, ℕ, List, [], ◌∷◌, ◌++◌, Option, None, Some, refl, sym, ap, ◌∙◌, append_assoc, drop}
use Rattle.std.specs.Prelude.{codes}
use Rattle.nc_frame.specs.Meta.{type_line, meta_text, IsLine, IsLineOrNone}

head_or : List ℕ → ℕ
head_or [] = 0
head_or (x ∷ xs) = x

tail_of : List ℕ → List ℕ
tail_of [] = []
tail_of (x ∷ xs) = xs

same_head : (x y : ℕ) (xs ys : List ℕ) → x ∷ xs ≡ y ∷ ys → x ≡ y
unfolding head_or
same_head x y xs ys e = ap head_or e

same_tail : (x y : ℕ) (xs ys : List ℕ) → x ∷ xs ≡ y ∷ ys → xs ≡ ys
unfolding tail_of
same_tail x y xs ys e = ap tail_of e

-- what stands before the first LF, and what stands behind it
pub cut_once : (a b rest other : List ℕ) → IsLine a → IsLine b → a ++ 10 ∷ rest ≡ b ++ 10 ∷ other → (a ≡ b) × (rest ≡ other)
cut_once [] [] rest other la lb e = (refl, same_tail 10 10 rest other e)
cut_once [] (y ∷ b) rest other la lb e = absurd (lb.0 (sym (same_head 10 y rest (b ++ 10 ∷ other) e)))
cut_once (x ∷ a) [] rest other la lb e = absurd (la.0 (same_head x 10 (a ++ 10 ∷ rest) other e))
cut_once (x ∷ a) (y ∷ b) rest other la lb e =
    let h = same_head x y (a ++ 10 ∷ rest) (b ++ 10 ∷ other) e in
    let t = cut_once a b rest other la.1 lb.1 (same_tail x y (a ++ 10 ∷ rest) (b ++ 10 ∷ other) e) in
    (ap (λ z. z ∷ a) h ∙ ap (λ l. y ∷ l) t.0, t.1)

-- a payload, its lines one after the other
grouped : (id : List ℕ) (kind : Option (List ℕ)) (body : List ℕ) → meta_text id kind body ≡ codes "id: " ++ (id ++ 10 ∷ (type_line kind ++ 10 ∷ body))
grouped id kind body =
    append_assoc (codes "id: " ++ id ++ codes "\n" ++ type_line kind) (codes "\n") body
    ∙ append_assoc (codes "id: " ++ id ++ codes "\n") (type_line kind) (10 ∷ body)
    ∙ append_assoc (codes "id: " ++ id) (codes "\n") (type_line kind ++ 10 ∷ body)
    ∙ append_assoc (codes "id: ") id (10 ∷ (type_line kind ++ 10 ∷ body))

typed : (kind body : List ℕ) → type_line (Some kind) ++ 10 ∷ body ≡ codes "content-type: " ++ (kind ++ 10 ∷ 10 ∷ body)
typed kind body =
    append_assoc (codes "content-type: " ++ kind) (codes "\n") (10 ∷ body)
    ∙ append_assoc (codes "content-type: ") kind (10 ∷ 10 ∷ body)

-- the content type and the body
parted : (kind other : Option (List ℕ)) (body rest : List ℕ) → IsLineOrNone kind → IsLineOrNone other → type_line kind ++ 10 ∷ body ≡ type_line other ++ 10 ∷ rest → (kind ≡ other) × (body ≡ rest)
parted None None body rest lk lo e = (refl, same_tail 10 10 body rest e)
parted None (Some other) body rest lk lo e =
    absurd (cc (same_head 10 99 body (drop 1 (codes "content-type: ") ++ (other ++ 10 ∷ 10 ∷ rest)) (e ∙ typed other rest)))
parted (Some kind) None body rest lk lo e =
    absurd (cc (same_head 99 10 (drop 1 (codes "content-type: ") ++ (kind ++ 10 ∷ 10 ∷ body)) rest (sym (typed kind body) ∙ e)))
parted (Some kind) (Some other) body rest lk lo e =
    let cut = cut_once kind other (10 ∷ body) (10 ∷ rest) lk lo (ap (drop 14) (sym (typed kind body) ∙ e ∙ typed other rest)) in
    (ap Some cut.0, same_tail 10 10 body rest cut.1)

pub one_message : (id other_id : List ℕ) (kind other_kind : Option (List ℕ)) (body other_body : List ℕ) → IsLine id → IsLine other_id → IsLineOrNone kind → IsLineOrNone other_kind → meta_text id kind body ≡ meta_text other_id other_kind other_body → (id ≡ other_id) × (kind ≡ other_kind) × (body ≡ other_body)
one_message id other_id kind other_kind body other_body li lo lk lok e =
    let cut = cut_once id other_id (type_line kind ++ 10 ∷ body) (type_line other_kind ++ 10 ∷ other_body) li lo (ap (drop 4) (sym (grouped id kind body) ∙ e ∙ grouped other_id other_kind other_body)) in
    let rest = parted kind other_kind body other_body lk lok cut.1 in
    (cut.0, rest.0, rest.1)
