-- One text has one item.
use Rattle.std.proofs.Common.{◌≡◌, ℕ, zero, suc, inl, inr, List, [], take, drop, Option, Some, None, sym, ap, ◌∙◌, subst, arith}
use Rattle.httparse.specs.Grammar.{chunk_size}
use Rattle.httparse.proofs.GrammarLemmas.{request_unique}
use Rattle.httparse.proofs.ChunkLemmas.{chunk_line_unique}
use Rattle.nc_types.specs.declared.request.Request.{Request}
use Rattle.nc_http_head.specs.Ends.{unblanked, head_end, trailer_end, line_end}
use Rattle.nc_http_head.specs.Heads.{IsLineOf, request_of}
use Rattle.nc_http_head.specs.Framing.{framing_of}
use Rattle.nc_http_head.specs.declared.framing.Framing.{Framing}
use Rattle.nc_http_head.specs.declared.framing.Framing.TheVariants.{Chunked, Long, Faulty}
use Rattle.nc_http_in.specs.Items.{Item, Follow, Within, Trailed, Chunking, Data, Sized, Lined, Chunks, Framed, Headed, IsItem}

-- two ways to tell an item agree
abbrev Agree : Follow → Follow → Type 0
Agree F G = (text bytes : List ℕ) (i j : Item) → F text bytes i → G text bytes j → i ≡ j

abbrev ChunkingsAgree : Chunking → Chunking → Type 0
ChunkingsAgree C D = (q : Request) (bytes : List ℕ) (i j : Item) → C q bytes i → D q bytes j → i ≡ j

within_unique : (most : ℕ) (e : Option ℕ) (F G : Follow) → Agree F G → (bytes : List ℕ) (i j : Item) → Within most e bytes F i → Within most e bytes G j → i ≡ j
within_unique most (Some n) F G agree bytes i j (inl x) (inl y) = agree (take n bytes) (drop n bytes) i j x.1 y.1
within_unique most (Some n) F G agree bytes i j (inl x) (inr y) = absurd (omega (arith, x.0, y.0))
within_unique most (Some n) F G agree bytes i j (inr x) (inl y) = absurd (omega (arith, x.0, y.0))
within_unique most (Some n) F G agree bytes i j (inr x) (inr y) = x.1 ∙ sym y.1
within_unique most None F G agree bytes i j (inl x) (inl y) = x.1 ∙ sym y.1
within_unique most None F G agree bytes i j (inl x) (inr y) = absurd (omega (arith, x.0, y.0))
within_unique most None F G agree bytes i j (inr x) (inl y) = absurd (omega (arith, x.0, y.0))
within_unique most None F G agree bytes i j (inr x) (inr y) = x.1 ∙ sym y.1

size_unique : (text : List ℕ) (size other : ℕ) → IsLineOf text size → IsLineOf text other → size ≡ other
size_unique text size other x y = x.2 ∙ (ap chunk_size (chunk_line_unique text x.0 y.0 [] [] x.1 y.1).0 ∙ sym y.2)

data_unique : (C D : Chunking) → ChunkingsAgree C D → (q : Request) (size : ℕ) (bytes : List ℕ) (i j : Item) → Data C q size bytes i → Data D q size bytes j → i ≡ j
data_unique C D agree q size bytes i j (inl x) (inl y) = agree _ _ i j x.2 y.2
data_unique C D agree q size bytes i j (inl x) (inr (inl y)) = absurd (y.1 x.1)
data_unique C D agree q size bytes i j (inl x) (inr (inr y)) = absurd (omega (arith, x.0, y.0))
data_unique C D agree q size bytes i j (inr (inl x)) (inl y) = absurd (x.1 y.1)
data_unique C D agree q size bytes i j (inr (inl x)) (inr (inl y)) = x.2 ∙ sym y.2
data_unique C D agree q size bytes i j (inr (inl x)) (inr (inr y)) = absurd (omega (arith, x.0, y.0))
data_unique C D agree q size bytes i j (inr (inr x)) (inl y) = absurd (omega (arith, x.0, y.0))
data_unique C D agree q size bytes i j (inr (inr x)) (inr (inl y)) = absurd (omega (arith, x.0, y.0))
data_unique C D agree q size bytes i j (inr (inr x)) (inr (inr y)) = x.1 ∙ sym y.1

trailed_unique : (q : Request) → Agree (Trailed q) (Trailed q)
trailed_unique q text bytes i j x y = x ∙ sym y

sized_unique : (C D : Chunking) → ChunkingsAgree C D → (q : Request) (size : ℕ) (bytes : List ℕ) (i j : Item) → Sized C q size bytes i → Sized D q size bytes j → i ≡ j
sized_unique C D agree q size bytes i j (inl x) (inl y) = within_unique 16384 (trailer_end bytes) (Trailed q) (Trailed q) (trailed_unique q) bytes i j x.1 y.1
sized_unique C D agree q size bytes i j (inl x) (inr (inl y)) = absurd (omega (arith, x.0, y.0))
sized_unique C D agree q size bytes i j (inl x) (inr (inr y)) = absurd (omega (arith, x.0, y.0))
sized_unique C D agree q size bytes i j (inr (inl x)) (inl y) = absurd (omega (arith, x.0, y.0))
sized_unique C D agree q size bytes i j (inr (inl x)) (inr (inl y)) = x.2 ∙ sym y.2
sized_unique C D agree q size bytes i j (inr (inl x)) (inr (inr y)) = absurd (omega (arith, x.1, y.1))
sized_unique C D agree q size bytes i j (inr (inr x)) (inl y) = absurd (omega (arith, x.0, y.0))
sized_unique C D agree q size bytes i j (inr (inr x)) (inr (inl y)) = absurd (omega (arith, x.1, y.1))
sized_unique C D agree q size bytes i j (inr (inr x)) (inr (inr y)) = data_unique C D agree q size bytes i j x.2 y.2

lined_unique : (C D : Chunking) → ChunkingsAgree C D → (q : Request) → Agree (Lined C q) (Lined D q)
lined_unique C D agree q text bytes i j (inl x) (inl y) =
    sized_unique C D agree q x.0 bytes i j x.2 (subst (λ n. Sized D q n bytes j) (size_unique text y.0 x.0 y.1 x.1) y.2)
lined_unique C D agree q text bytes i j (inl x) (inr y) = absurd (y.0 x.0 x.1)
lined_unique C D agree q text bytes i j (inr x) (inl y) = absurd (x.0 y.0 y.1)
lined_unique C D agree q text bytes i j (inr x) (inr y) = x.1 ∙ sym y.1

chunks_unique : (count other : ℕ) → ChunkingsAgree (Chunks count) (Chunks other)
chunks_unique zero other q bytes i j x y = absurd x
chunks_unique (suc count) zero q bytes i j x y = absurd y
chunks_unique (suc count) (suc other) q bytes i j x y =
    within_unique 1024 (line_end bytes) (Lined (Chunks count) q) (Lined (Chunks other) q)
    (lined_unique (Chunks count) (Chunks other) (chunks_unique count other) q) bytes i j x y

framed_unique : (f : Framing) (q : Request) (bytes : List ℕ) (i j : Item) → Framed f q bytes i → Framed f q bytes j → i ≡ j
framed_unique Chunked q bytes i j x y = chunks_unique x.0 y.0 q bytes i j x.1 y.1
framed_unique (Long n) q bytes i j (inl x) (inl y) = x.1 ∙ sym y.1
framed_unique (Long n) q bytes i j (inl x) (inr y) = absurd (omega (arith, x.0, y.0))
framed_unique (Long n) q bytes i j (inr x) (inl y) = absurd (omega (arith, x.0, y.0))
framed_unique (Long n) q bytes i j (inr x) (inr y) = x.1 ∙ sym y.1
framed_unique (Faulty status) q bytes i j x y = x ∙ sym y

headed_unique : Agree Headed Headed
headed_unique text bytes i j (inl x) (inl y) =
    let same = (request_unique text y.0 x.0 [] [] y.1.0 x.1.0).0 in
    framed_unique (framing_of x.0.minor (request_of x.0).fields) (request_of x.0) bytes i j x.2 (subst (λ h. Framed (framing_of h.minor (request_of h).fields) (request_of h) bytes j) same y.2)
headed_unique text bytes i j (inl x) (inr y) = absurd (y.0 x.0 x.1)
headed_unique text bytes i j (inr x) (inl y) = absurd (x.0 y.0 y.1)
headed_unique text bytes i j (inr x) (inr y) = x.1 ∙ sym y.1

pub item_unique : (bytes : List ℕ) (i j : Item) → IsItem bytes i → IsItem bytes j → i ≡ j
item_unique bytes i j x y = within_unique 16384 (head_end (unblanked bytes)) Headed Headed headed_unique (unblanked bytes) i j x y
