-- What stands behind a text where a call stopped for want of memory.
use Rattle.std.proofs.Common.{ℕ, List, [], ◌++◌, ◌≡◌, ◌∙◌, sym, ap, append_assoc}
use Rattle.std.proofs.lemmas.List.{append-nil}
use Rattle.std.specs.Prelude.{Result, Ok, Err, OnErr}
use Rattle.nc_types.specs.Text.{IsBehind}

pub on-err : {T E : Type 0} (result : Result T E) (P Q : Type 0) → (P → Q) → OnErr result P → OnErr result Q
on-err (Ok x) P Q f h = tt
on-err (Err e) P Q f h = f h

-- nothing stands behind it
pub stays : (older text : List ℕ) → text ≡ older → IsBehind older text
stays older text e = ([], e ∙ sym (append-nil older))

-- whatever the call gave
pub by-itself : {T E : Type 0} (result : Result T E) (P : Type 0) → P → OnErr result P
by-itself (Ok x) P p = tt
by-itself (Err e) P p = p

-- more was put behind what stood behind it
pub further : (older text later more : List ℕ) → IsBehind older text → later ≡ text ++ more → IsBehind older later
further older text later more h e = (h.0 ++ more, e ∙ ap (λ (l : List ℕ). l ++ more) h.1 ∙ append_assoc older h.0 more)

-- what stands behind a later text stands behind an older one
pub through : (older text later : List ℕ) → IsBehind older text → IsBehind text later → IsBehind older later
through older text later h k = further older text later k.0 h k.1
