-- The reads of a call, read by read.
use Rattle.std.proofs.Common.{◌≡◌, inl, inr, ℕ, true, false, Ok, Err, List, [], ◌∷◌, ◌++◌, refl, sym, ap, ◌∙◌, subst, append_assoc, append-nil, length, arith}
use Rattle.std.specs.Prelude.{◌==◌, Result, IfOk, IfErr, OnOk, is_err}
use Rattle.std.proofs.lemmas.Bool.Decides.{nat_tests}
use Rattle.std.proofs.lemmas.Grind.{common_steps}
use Rattle.tungstenite.specs.Socket.{Socket, Flushed}
use Rattle.nc_ws.specs.declared.pipe.Pipe.{Pipe}
use Rattle.nc_ws.specs.declared.told.Told.{Told}
use Rattle.nc_ws.specs.declared.told.Told.TheVariants.{Data, Control, Close, Empty, NoMemory, Failed}
use Rattle.nc_ws.specs.declared.framer.FrameIn.{FrameIn}
use Rattle.nc_ws.specs.declared.framer.FrameIn.TheVariants.{Closed}
use Rattle.nc_ws.specs.declared.framer.FrameFault.{FrameFault}
use Rattle.nc_ws.specs.Items.{written, is_failure}
use Rattle.nc_ws.specs.Reads.{Turn, Follows, Reading, Stopped, Closes, Fails, Finishes, Ended, is_last, items_at, items_of, shown}

-- how far the reads of a call have come
pub record SoFar (start now : Socket Pipe) (list : List FrameIn) : Type 0 where
  pub turns : List Turn
  pub follows : Follows start turns now
  pub gave : list ≡ items_of start turns

follows_more : (s : Socket Pipe) (turns : List Turn) (t u : Socket Pipe) (told : Told) → Follows s turns t → Reading t u told → is_last told u.stream.bytes.items ≡ false → Follows s (turns ++ (told, u) ∷ []) u
follows_more s [] t u told f r g = (subst (λ x. Reading x u told) f r, g, refl)
follows_more s (x ∷ xs) t u told f r g = (f.0, f.1, follows_more x.1 xs t u told f.2 r g)

items_more : (s : Socket Pipe) (turns : List Turn) (t u : Socket Pipe) (told : Told) → Follows s turns t → items_of s (turns ++ (told, u) ∷ []) ≡ items_of s turns ++ items_at t u told
items_more s [] t u told f = append-nil (items_at s u told) ∙ ap (λ x. items_at x u told) (sym f)
items_more s (x ∷ xs) t u told f = ap (λ l. items_at s x.1 x.0 ++ l) (items_more x.1 xs t u told f.2) ∙ sym (append_assoc (items_at s x.1 x.0) (items_of x.1 xs) (items_at t u told))

-- no read was made yet
pub none_yet : (s : Socket Pipe) (list : List FrameIn) → list ≡ [] → SoFar s s list
none_yet s list empty = record { turns = []; follows = refl; gave = empty }

-- one read more, behind which reading goes on
pub one_more : (s t u : Socket Pipe) (told : Told) (list new : List FrameIn) → SoFar s t list → Reading t u told → is_last told u.stream.bytes.items ≡ false → new ≡ list ++ items_at t u told → SoFar s u new
one_more s t u told list new so r g gave = record {
  turns = so.turns ++ (told, u) ∷ [];
  follows = follows_more s so.turns t u told so.follows r g;
  gave = gave ∙ ap (λ l. l ++ items_at t u told) so.gave ∙ sym (items_more s so.turns t u told so.follows);
}

none_left : (xs : List ℕ) → (length xs == 0) ≡ true → xs ≡ []
none_left xs none = grind (arith, nat_tests, common_steps)

-- the last read found the pipe empty
stopped : (s t u : Socket Pipe) (list new : List FrameIn) → SoFar s t list → Reading t u Empty → new ≡ list ++ items_at t u Empty → u.stream.bytes.items ≡ [] → Stopped s u new
stopped s t u list new so r gave empty = record {
  turns = so.turns;
  last = t;
  follows = so.follows;
  stop = r;
  empty = empty;
  gave = gave ∙ ap (λ l. l ++ items_at t u Empty) so.gave;
}

-- the last read gave a close, which was answered
closed : (s t u v : Socket Pipe) (list new all : List FrameIn) → SoFar s t list → Reading t u Close → new ≡ list ++ items_at t u Close → Flushed shown u v → v.output ≡ [] → all ≡ new ++ written u.stream.out.items v.stream.out.items ++ Closed ∷ [] → Closes s v all
closed s t u v list new all so r gave flushed answered more = record {
  turns = so.turns;
  last = t;
  closed = u;
  follows = so.follows;
  close = r;
  flushed = flushed;
  answered = answered;
  gave = more ∙ ap (λ l. l ++ written u.stream.out.items v.stream.out.items ++ Closed ∷ []) (gave ∙ ap (λ l. l ++ items_at t u Close) so.gave);
}

-- behind the last read, a list that is given is what the reads gave
ended : (s t u v : Socket Pipe) (told : Told) (list new all : List FrameIn) → SoFar s t list → Reading t u told → new ≡ list ++ items_at t u told → is_last told u.stream.bytes.items ≡ true → Finishes told u v new (Ok all) → Ended s v all
ended s t u v Data list new all so r gave last f = cc
ended s t u v Control list new all so r gave last f = cc
ended s t u v Close list new all so r gave last f = inr (closed s t u v list new all so r gave f.0 f.1 f.2)
ended s t u v Empty list new all so r gave last f =
    inl (subst (λ x. Stopped s x all) (sym f.0) (stopped s t u list all so r (f.1 ∙ gave) (none_left u.stream.bytes.items last)))
ended s t u v NoMemory list new all so r gave last f = absurd f
ended s t u v Failed list new all so r gave last f = absurd f

-- behind the last read, a failure that is told is that of a read
failed : (s t u v : Socket Pipe) (told : Told) (list new : List FrameIn) (fault : FrameFault) → SoFar s t list → Reading t u told → Finishes told u v new (Err fault) → is_failure fault ≡ true → Fails s v
failed s t u v told list new fault so r f fails =
    let e = finish_failed told u v new fault f fails in
    subst (Fails s) (sym e.1) (record { turns = so.turns; last = t; follows = so.follows; failed = subst (λ x. Reading t u x) e.0 r })
  where
    finish_failed : (told : Told) (u v : Socket Pipe) (new : List FrameIn) (fault : FrameFault) → Finishes told u v new (Err fault) → is_failure fault ≡ true → (told ≡ Failed) × (v ≡ u)
    finish_failed Data u v new fault f fails = f fails
    finish_failed Control u v new fault f fails = f fails
    finish_failed Close u v new fault f fails = f fails
    finish_failed Empty u v new fault f fails = f fails
    finish_failed NoMemory u v new fault f fails = f fails
    finish_failed Failed u v new fault f fails = f fails

pub finished_list : (s t u v : Socket Pipe) (told : Told) (list new : List FrameIn) (r : Result (List FrameIn) FrameFault) → SoFar s t list → Reading t u told → new ≡ list ++ items_at t u told → is_last told u.stream.bytes.items ≡ true → Finishes told u v new r → IfOk r (λ all. Ended s v all)
finished_list s t u v told list new (Ok all) so r gave last f = ended s t u v told list new all so r gave last f
finished_list s t u v told list new (Err fault) so r gave last f = tt

pub finished_fault : (s t u v : Socket Pipe) (told : Told) (list new : List FrameIn) (r : Result (List FrameIn) FrameFault) → SoFar s t list → Reading t u told → Finishes told u v new r → IfErr r (λ fault. is_failure fault ≡ true → Fails s v)
finished_fault s t u v told list new (Ok all) so r f = tt
finished_fault s t u v told list new (Err fault) so r f = failed s t u v told list new fault so r f

-- what holds of a result that is no error
pub when_ok : {A E : Type 0} (P : Type 0) (r : Result A E) → is_err r ≡ false → OnOk r P → P
when_ok P (Ok a) e p = p
when_ok P (Err x) e p = cc
