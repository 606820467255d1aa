-- What several reads take, and what several writes add.
use Rattle.std.proofs.Common.{◌≡◌, ◌≢◌, ℕ, ◌+◌, ◌-◌, ◌≤◌, List, [], ◌∷◌, ◌++◌, length, take, drop, Option, Some, None, Result, Ok, Err, refl, sym, ◌∙◌, ap, subst, append_assoc, arith}
use Rattle.std.specs.Prelude.{OnErr}
use Rattle.std.proofs.lemmas.List.{append-nil, length-append, length-take, take-take, take-append-drop, take_rest}
use Rattle.nc_replay.specs.Input.{longest_input, TakesFront, IsWhole, IsAtEnd, ReadsSoFar, ReadsAll, ReadsUpTo, StopsReading, Adds, AddsPrefix, AddsBefore}
use Rattle.nc_replay.specs.declared.input.ReadFault.{ReadFault}
use Rattle.nc_replay.specs.declared.input.ReadFault.TheVariants.{Failed as ReadFailed, TooLong, NoMemory as ReadNoMemory}
use Rattle.nc_outside.specs.Flow.{MovesFront}
use Rattle.nc_outside.specs.Pieces.{Gives}
use Rattle.nc_outside.proofs.Pieces.{gives_nothing, gives_more, gives_then, gives_all}

-- a piece taken behind another
pub takes_more : (text piece : List ℕ) (first left new : Option (List ℕ)) → TakesFront text first left → TakesFront piece left new → TakesFront (text ++ piece) first new
takes_more text piece None left new h k = subst (λ (o : Option (List ℕ)). TakesFront piece o new) h k
takes_more text piece (Some bytes) left new h k =
    let more = subst (λ (o : Option (List ℕ)). TakesFront piece o new) h.2 k in
    (more.0, h.1 ∙ ap (λ (l : List ℕ). text ++ l) more.1 ∙ sym (append_assoc text piece more.0), more.2)

-- what a read moved to the front of its room is taken
pub front_taken : (left new : Option (List ℕ)) (room : List ℕ) (n : ℕ) → MovesFront left new room n → TakesFront (take n room) left new
front_taken None new room n moves = moves
front_taken (Some bytes) new room n moves = (drop n bytes, sym (take-append-drop n bytes) ∙ ap (λ (l : List ℕ). l ++ drop n bytes) (sym moves.front), moves.left)

takes_nothing : (left : Option (List ℕ)) → TakesFront [] left left
takes_nothing None = refl
takes_nothing (Some bytes) = (bytes, refl, refl)

pub reads_nothing : (left : Option (List ℕ)) (before : List (List ℕ)) → ReadsSoFar [] left left before before
reads_nothing left before = record { given = gives_nothing before; taken = takes_nothing left }

-- one read more that gave something
pub reads_more : (text piece : List ℕ) (first left new : Option (List ℕ)) (before now behind : List (List ℕ)) → ReadsSoFar text first left before now
    → TakesFront piece left new → behind ≡ piece ∷ now → length piece ≢ 0 → ReadsSoFar (text ++ piece) first new before behind
reads_more text piece first left new before now behind h taken given some = record {
  given = gives_more text piece before now behind h.given some given;
  taken = takes_more text piece first left new h.taken taken;
}

pub reads_one : (piece : List ℕ) (most : ℕ) (left new : Option (List ℕ)) (now behind : List (List ℕ)) → TakesFront piece left new → behind ≡ piece ∷ now → length piece ≢ 0 → length piece ≤ most → ReadsUpTo most left new now behind
reads_one piece most left new now behind taken given some few = record {
  text = piece;
  reads = reads_more [] piece left left new now now behind (reads_nothing left now) taken given some;
  few = few;
}

pub reads_none : (most : ℕ) (left : Option (List ℕ)) (before : List (List ℕ)) → ReadsUpTo most left left before before
reads_none most left before = record { text = []; reads = reads_nothing left before; few = omega arith }

-- some reads more
pub reads_up_to : (text : List ℕ) (most limit : ℕ) (first left new : Option (List ℕ)) (before now behind : List (List ℕ)) → length text + most ≤ limit
    → ReadsSoFar text first left before now → ReadsUpTo most left new now behind → ReadsUpTo limit first new before behind
reads_up_to text most limit first left new before now behind le h k = record {
  text = text ++ k.text;
  reads = record {
    given = gives_then text k.text before now behind h.given k.reads.given;
    taken = takes_more text k.text first left new h.taken k.reads.taken;
  };
  few = omega (arith, length-append text k.text, k.few);
}

whole_at_end : (text piece : List ℕ) (first left new : Option (List ℕ)) → TakesFront text first left → TakesFront piece left new → length piece ≡ 0 → IsAtEnd left → IsWhole text first new
whole_at_end text piece None left new h k none end = subst (λ (o : Option (List ℕ)). TakesFront piece o new) h k
whole_at_end text [] (Some bytes) left new h k none end =
    let rest = subst IsAtEnd h.2 end in
    let more = subst (λ (o : Option (List ℕ)). TakesFront [] o new) h.2 k in
    (sym (append-nil text) ∙ sym (h.1 ∙ ap (λ (l : List ℕ). text ++ l) rest), more.2 ∙ ap (λ (l : List ℕ). Some l) (sym more.1 ∙ rest))
whole_at_end text (x ∷ piece) (Some bytes) left new h k none end = absurd (omega (arith, none))

-- one read more that came to the end
pub reads_all : (text piece : List ℕ) (first left new : Option (List ℕ)) (before now behind : List (List ℕ)) → ReadsSoFar text first left before now
    → TakesFront piece left new → behind ≡ piece ∷ now → length piece ≡ 0 → IsAtEnd left → length text ≤ longest_input → ReadsAll text first new before behind
reads_all text piece first left new before now behind h taken given none end few = record {
  given = gives_all text piece before now behind h.given none given;
  whole = whole_at_end text piece first left new h.taken taken none end;
  few = few;
}

-- a read more fails, behind a text that isn't too long
pub stops_reading : (text : List ℕ) (most : ℕ) (first left new : Option (List ℕ)) (before now behind : List (List ℕ)) (fault : ReadFault) → length text ≤ longest_input → length text + most ≤ longest_input + 1
    → ReadsSoFar text first left before now → (fault ≡ ReadFailed → (new ≡ left) × (behind ≡ now)) → (fault ≡ TooLong → ⊥) → ReadsUpTo most left new now behind → StopsReading first new before behind fault
stops_reading text most first left new before now behind ReadFailed few le h unmoved long k =
    let same = unmoved refl in
    record {
      text = text;
      reads = record {
        given = subst (λ (l : List (List ℕ)). Gives text before l) (sym same.1) h.given;
        taken = subst (λ (o : Option (List ℕ)). TakesFront text first o) (sym same.0) h.taken;
      };
      few = few;
    }
stops_reading text most first left new before now behind TooLong few le h unmoved long k = absurd (long refl)
stops_reading text most first left new before now behind ReadNoMemory few le h unmoved long k = reads_up_to text most (longest_input + 1) first left new before now behind le h k

pub always-err : {T E : Type 0} (r : Result T E) (P : Type 0) → P → OnErr r P
always-err (Ok x) P p = tt
always-err (Err e) P p = p

-- a text added behind others
pub adds-nothing : (taken : List ℕ) → Adds [] taken taken
adds-nothing taken = sym (append-nil taken)

pub adds-more : (text more : List ℕ) (first now new : List ℕ) → Adds text first now → Adds more now new → Adds (text ++ more) first new
adds-more text more first now new h k = k ∙ ap (λ (l : List ℕ). l ++ more) h ∙ append_assoc first text more

pub adds-prefix : (text more : List ℕ) (first now new : List ℕ) → Adds text first now → AddsPrefix more now new → AddsPrefix (text ++ more) first new
adds-prefix text more first now new h k =
    let before = k.1 in (
      k.0,
      record {
        piece = text ++ before.piece;
        cut = ap (λ (l : List ℕ). text ++ l) before.cut ∙ sym (append_assoc text before.piece k.0);
        added = adds-more text before.piece first now new h before.added;
      },
    )

pub adds-whole : (text : List ℕ) (first now : List ℕ) → Adds text first now → AddsPrefix text first now
adds-whole text first now h = ([], record { piece = text; cut = sym (append-nil text); added = h })

-- nothing is a prefix
pub adds-none : (text taken : List ℕ) → AddsPrefix text taken taken
adds-none text taken = (text, record { piece = []; cut = refl; added = adds-nothing taken })

-- one write more, of the first n bytes of a piece of the rest
pub adds_before_more : (rest text : List ℕ) (m n : ℕ) (first now new : List ℕ) → AddsBefore rest text first now → n ≤ length (take m rest) → new ≡ now ++ take n (take m rest) → AddsBefore (take (length rest - n) (drop n rest)) text first new
adds_before_more rest text m n first now new h le k =
    let front : take n (take m rest) ≡ take n rest = take-take n m rest (omega (arith, length-take m rest)) in
    let whole : rest ≡ take n (take m rest) ++ take (length rest - n) (drop n rest) = sym (take-append-drop n rest) ∙ ap (λ (l : List ℕ). l ++ drop n rest) (sym front) ∙ ap (λ (l : List ℕ). take n (take m rest) ++ l) (sym (take_rest rest n)) in
    record {
      piece = h.piece ++ take n (take m rest);
      cut = h.cut ∙ ap (λ (l : List ℕ). h.piece ++ l) whole ∙ sym (append_assoc h.piece (take n (take m rest)) (take (length rest - n) (drop n rest)));
      added = adds-more h.piece (take n (take m rest)) first now new h.added k;
    }
