-- An item stays when more comes.
use Rattle.std.proofs.Common.{◌≡◌, ◌≢◌, ℕ, zero, suc, ◌+◌, ◌≤◌, inl, inr, List, [], ◌∷◌, ◌++◌, length, take, drop, Option, Some, None, refl, sym, ap, ◌∙◌, arith, length-append, length-drop}
use Rattle.std.proofs.lemmas.List.{take-append-le, drop-append-le}
use Rattle.nc_types.specs.declared.request.Request.{Request}
use Rattle.nc_http_head.specs.Ends.{unblanked, head_end, trailer_end, line_end}
use Rattle.nc_http_head.specs.Heads.{request_of}
use Rattle.nc_http_head.specs.Framing.{framing_of}
use Rattle.nc_http_head.specs.declared.framing.Framing.{Framing}
use Rattle.nc_http_head.specs.declared.framing.Framing.TheVariants.{Chunked, Long, Faulty}
use Rattle.nc_http_head.proofs.Scans.{IsScan, head_scan, trailer_scan, line_scan}
use Rattle.nc_http_in.specs.Items.{Item, refused, neither, Follow, Within, Trailed, Chunking, Data, Sized, Lined, Chunks, Framed, Headed, IsItem, followed}
use Rattle.nc_http_in.proofs.Blanks.{unblanked-append, unblanked-twice, begun-append}

-- what follows a text stays when more comes
abbrev pub Stays : Follow → Type 0
Stays F = (text bytes more : List ℕ) (i : Item) → i ≢ neither → F text bytes i → F text (bytes ++ more) (followed more i)

abbrev pub ChunkingStays : Chunking → Type 0
ChunkingStays C = (q : Request) (bytes more : List ℕ) (i : Item) → i ≢ neither → C q bytes i → C q (bytes ++ more) (followed more i)

within_stays : (ends : List ℕ → Option ℕ) → IsScan ends → (most : ℕ) (F : Follow) → Stays F → (bytes more : List ℕ) (i : Item) → i ≢ neither → Within most (ends bytes) bytes F i → Within most (ends (bytes ++ more)) (bytes ++ more) F (followed more i)
within_stays ends scan most F stays bytes more i is w = by_end (ends bytes) refl w where
  later : (f : Option ℕ) → ends bytes ≡ None → ends (bytes ++ more) ≡ f → most ≤ length bytes → i ≡ refused 400 → Within most f (bytes ++ more) F (followed more i)
  later None at there long bad = inl (omega (arith, long, length-append bytes more), ap (followed more) bad)
  later (Some m) at there long bad = inr (let p = scan.past bytes more m at there in omega (arith, long, p), ap (followed more) bad)

  by_end : (e : Option ℕ) → ends bytes ≡ e → Within most e bytes F i → Within most (ends (bytes ++ more)) (bytes ++ more) F (followed more i)
  by_end (Some n) at (inl h) =
      let le = (scan.within bytes n at).1 in
      rw (scan.kept bytes more n at) (inl (h.0, rw (take-append-le n bytes more le, drop-append-le n bytes more le) (stays (take n bytes) (drop n bytes) more i is h.1)))
  by_end (Some n) at (inr h) = rw (scan.kept bytes more n at) (inr (h.0, ap (followed more) h.1))
  by_end None at (inl h) = later (ends (bytes ++ more)) at refl h.0 h.1
  by_end None at (inr h) = absurd (is h.1)

trailed_stays : (q : Request) → Stays (Trailed q)
trailed_stays q text bytes more i is w = ap (followed more) w

pub closed_stays : (size : ℕ) (bytes more : List ℕ) → size + 2 ≤ length bytes → take 2 (drop size (bytes ++ more)) ≡ take 2 (drop size bytes)
closed_stays size bytes more le =
    ap (take 2) (drop-append-le size bytes more (omega (arith, le)))
    ∙ take-append-le 2 (drop size bytes) more (omega (arith, le, length-drop size bytes))

data_stays : (C : Chunking) → ChunkingStays C → (q : Request) (size : ℕ) (bytes more : List ℕ) (i : Item) → i ≢ neither → Data C q size bytes i → Data C q size (bytes ++ more) (followed more i)
data_stays C stays q size bytes more i is (inl d) =
    let le : size ≤ length bytes = omega (arith, d.0) in
    inl (
      omega (arith, d.0, length-append bytes more),
      closed_stays size bytes more d.0 ∙ d.1,
      rw (take-append-le size bytes more le, drop-append-le (size + 2) bytes more d.0) (stays _ (drop (size + 2) bytes) more i is d.2),
    )
data_stays C stays q size bytes more i is (inr (inl d)) =
    inr (inl (omega (arith, d.0, length-append bytes more), (λ closed. d.1 (sym (closed_stays size bytes more d.0) ∙ closed)), ap (followed more) d.2))
data_stays C stays q size bytes more i is (inr (inr d)) = absurd (is d.1)

sized_stays : (C : Chunking) → ChunkingStays C → (q : Request) (size : ℕ) (bytes more : List ℕ) (i : Item) → i ≢ neither → Sized C q size bytes i → Sized C q size (bytes ++ more) (followed more i)
sized_stays C stays q size bytes more i is (inl s) = inl (s.0, within_stays trailer_end trailer_scan 16384 (Trailed q) (trailed_stays q) bytes more i is s.1)
sized_stays C stays q size bytes more i is (inr (inl s)) = inr (inl (s.0, s.1, ap (followed more) s.2))
sized_stays C stays q size bytes more i is (inr (inr s)) = inr (inr (s.0, s.1, data_stays C stays q size bytes more i is s.2))

lined_stays : (C : Chunking) → ChunkingStays C → (q : Request) → Stays (Lined C q)
lined_stays C stays q text bytes more i is (inl l) = inl (l.0, l.1, sized_stays C stays q l.0 bytes more i is l.2)
lined_stays C stays q text bytes more i is (inr l) = inr (l.0, ap (followed more) l.1)

chunks_stay : (count : ℕ) → ChunkingStays (Chunks count)
chunks_stay zero q bytes more i is c = absurd c
chunks_stay (suc count) q bytes more i is c = within_stays line_end line_scan 1024 (Lined (Chunks count) q) (lined_stays (Chunks count) (chunks_stay count) q) bytes more i is c

framed_stays : (f : Framing) (q : Request) (bytes more : List ℕ) (i : Item) → i ≢ neither → Framed f q bytes i → Framed f q (bytes ++ more) (followed more i)
framed_stays Chunked q bytes more i is c = (c.0, chunks_stay c.0 q bytes more i is c.1)
framed_stays (Long n) q bytes more i is (inl b) =
    inl (omega (arith, b.0, length-append bytes more), rw (take-append-le n bytes more b.0, drop-append-le n bytes more b.0) (ap (followed more) b.1))
framed_stays (Long n) q bytes more i is (inr b) = absurd (is b.1)
framed_stays (Faulty status) q bytes more i is e = ap (followed more) e

headed_stays : Stays Headed
headed_stays text bytes more i is (inl h) = inl (h.0, h.1, framed_stays (framing_of h.0.minor (request_of h.0).fields) (request_of h.0) bytes more i is h.2)
headed_stays text bytes more i is (inr h) = inr (h.0, ap (followed more) h.1)

nothing_is : (bytes : List ℕ) (i : Item) → length bytes ≡ 0 → i ≢ neither → Within 16384 (head_end bytes) bytes Headed i → ⊥
nothing_is [] i e is (inl h) = omega (arith, h.0)
nothing_is [] i e is (inr h) = is h.1
nothing_is (b ∷ bytes) i e is h = omega (arith, e)

pub item_stays : (bytes more : List ℕ) (i : Item) → i ≢ neither → IsItem bytes i → IsItem (bytes ++ more) (followed more i)
item_stays bytes more i is it = by_length (length (unblanked bytes)) refl where
  by_length : (n : ℕ) → length (unblanked bytes) ≡ n → IsItem (bytes ++ more) (followed more i)
  by_length zero e = absurd (nothing_is (unblanked bytes) i e is it)
  by_length (suc n) e =
      rw (unblanked-append bytes more, begun-append (unblanked bytes) more (omega (arith, e)) (unblanked-twice bytes))
      (within_stays head_end head_scan 16384 Headed headed_stays (unblanked bytes) more i is it)
