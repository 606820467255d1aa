-- One item of the bytes of a connection: a whole request, a refusal, or neither yet (RFC 9112, sections 2, 6 and 7).
--
-- Each part is told of the bytes from where it begins.
use Rattle.std.specs.Prelude.{◌≡◌, ℕ, zero, suc, ◌+◌, ◌<◌, ◌≤◌, ◌⊎◌, List, ◌++◌, length, take, drop, Option, Some, None}
use Rattle.httparse.specs.Grammar.{RequestHead}
use Rattle.httparse.specs.Ascii.{crlf_bytes}
use Rattle.nc_types.specs.declared.request.Request.{Request}
use Rattle.nc_http_head.specs.Ends.{unblanked, head_end, trailer_end, line_end}
use Rattle.nc_http_head.specs.Heads.{IsHead, IsLineOf, request_of}
use Rattle.nc_http_head.specs.Framing.{framing_of}
use Rattle.nc_http_head.specs.declared.framing.Framing.{Framing}
use Rattle.nc_http_head.specs.declared.framing.Framing.TheVariants.{Chunked, Long, Faulty}

-- a request and the bytes behind it, or a refusal's status
pub data Item : Type 0 where
  whole : Request → List ℕ → Item
  refused : ℕ → Item
  neither : Item

-- what follows a text: of the text, the bytes behind it, and the item
abbrev pub Follow : Type 1
Follow = List ℕ → List ℕ → Item → Type 0

-- a text ends within the first `most` bytes, or it is refused as soon as these are there
abbrev pub Within : ℕ → Option ℕ → List ℕ → Follow → Item → Type 0
Within most (Some n) bytes Then i = ((n ≤ most) × Then (take n bytes) (drop n bytes) i) ⊎ ((most < n) × (i ≡ refused 400))
Within most None bytes Then i = ((most ≤ length bytes) × (i ≡ refused 400)) ⊎ ((length bytes < most) × (i ≡ neither))

-- the request with more bytes behind its body
abbrev pub longer : Request → List ℕ → Request
longer q piece = record { method = q.method; path = q.path; query = q.query; minor = q.minor; fields = q.fields; body = q.body ++ piece }

-- ---- a body in chunks: the request has the body so far

-- behind the trailer the request is whole
abbrev pub Trailed : Request → Follow
Trailed q text rest i = i ≡ whole q rest

-- the two bytes behind the first `size` are CR and LF
abbrev pub IsClosed : ℕ → List ℕ → Type 0
IsClosed size bytes = take 2 (drop size bytes) ≡ crlf_bytes

-- what follows a chunk, of the request with its bytes
abbrev pub Chunking : Type 1
Chunking = Request → List ℕ → Item → Type 0

-- the bytes of a chunk, CR and LF
abbrev pub Data : Chunking → Request → ℕ → List ℕ → Item → Type 0
Data Chunks q size bytes i =
    ((size + 2 ≤ length bytes) × IsClosed size bytes × Chunks (longer q (take size bytes)) (drop (size + 2) bytes) i)
    ⊎ ((size + 2 ≤ length bytes) × (¬ (IsClosed size bytes)) × (i ≡ refused 400))
    ⊎ ((length bytes < size + 2) × (i ≡ neither))

-- behind a chunk line: the trailer, a body that is too long, or the bytes of a chunk
abbrev pub Sized : Chunking → Request → ℕ → List ℕ → Item → Type 0
Sized Chunks q size bytes i =
    ((size ≡ 0) × Within 16384 (trailer_end bytes) bytes (Trailed q) i)
    ⊎ ((0 < size) × (65536 < length q.body + size) × (i ≡ refused 413))
    ⊎ ((0 < size) × (length q.body + size ≤ 65536) × Data Chunks q size bytes i)

-- the text is a chunk-size line, or it is none
abbrev pub Lined : Chunking → Request → Follow
Lined Chunks q text rest i =
    ((size : ℕ) × IsLineOf text size × Sized Chunks q size rest i)
    ⊎ (((size : ℕ) → ¬ (IsLineOf text size)) × (i ≡ refused 400))

-- at most `count` chunk lines
abbrev pub Chunks : ℕ → Chunking
Chunks zero q bytes i = ⊥
Chunks (suc count) q bytes i = Within 1024 (line_end bytes) bytes (Lined (Chunks count) q) i

-- ---- the item

-- a body of so many bytes
abbrev pub Counted : Request → ℕ → List ℕ → Item → Type 0
Counted q n bytes i =
    ((n ≤ length bytes) × (i ≡ whole (longer q (take n bytes)) (drop n bytes)))
    ⊎ ((length bytes < n) × (i ≡ neither))

-- behind a head
abbrev pub Framed : Framing → Request → List ℕ → Item → Type 0
Framed Chunked q bytes i = (count : ℕ) × Chunks count q bytes i
Framed (Long n) q bytes i = Counted q n bytes i
Framed (Faulty status) q bytes i = i ≡ refused status

-- the text is a head, or it is none
abbrev pub Headed : Follow
Headed text rest i =
    ((h : RequestHead) × IsHead text h × Framed (framing_of h.minor (request_of h).fields) (request_of h) rest i)
    ⊎ (((h : RequestHead) → ¬ (IsHead text h)) × (i ≡ refused 400))

-- from the first byte on that is no CR and no LF
abbrev pub IsItem : List ℕ → Item → Type 0
IsItem bytes i = Within 16384 (head_end (unblanked bytes)) (unblanked bytes) Headed i

-- the item when more bytes follow: those behind a request are more
abbrev pub followed : List ℕ → Item → Item
followed more (whole q rest) = whole q (rest ++ more)
followed more (refused status) = refused status
followed more neither = neither
