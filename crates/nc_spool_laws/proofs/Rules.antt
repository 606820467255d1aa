-- The rules of entering and of sending.
use Rattle.std.proofs.Common.{◌≡◌, ℕ, ◌+◌, Bool, true, false, cond, List, [], ◌∷◌, ◌++◌, refl, sym, ap, ◌∙◌, Option, None, Some}
use Rattle.std.specs.Prelude.{fold, map}
use Rattle.std.proofs.lemmas.List.{append-nil, append_assoc}
use Rattle.nc_spool_state.specs.declared.spool.Reader.{Reader}
use Rattle.nc_spool_state.specs.Key.{KeyAt, id_at}
use Rattle.nc_spool_state.specs.Spool.{SpoolAt, with_reader}
use Rattle.nc_spool_state.specs.Shelf.{spool_of, others}
use Rattle.nc_spool.specs.declared.fact.Fact.{Fact}
use Rattle.nc_spool.specs.declared.fact.Fact.TheVariants.{Out, Started, Sent, Ended}
use Rattle.nc_spool.specs.declared.decide.Delivery.{Delivery}
use Rattle.nc_spool.specs.declared.board.Board.{Board}
use Rattle.nc_spool.specs.Board.{told, looked, asked_from, shelved, standing, opened, parted, ended, entered}
use Rattle.nc_spool.specs.Decide.{delivery, sending, sent_one}
use Rattle.nc_spool_laws.specs.Rules.{sends_of, SendingRule, EnteringRule}

pub entering : EnteringRule
entering key r s b was = record {
  facts = ap (λ (o : Option SpoolAt). (after o).facts) was;
  next = ap (λ (o : Option SpoolAt). (after o).next) was;
  shelf = ap (λ (o : Option SpoolAt). (after o).shelf) was;
}
  where
    after : Option SpoolAt → Board
    after o = shelved (with_reader r (standing o key b)) (opened o key (record b { shelf = others key b.shelf }))

-- the messages among facts behind others
sends-append : (xs ys : List Fact) → sends_of (xs ++ ys) ≡ sends_of xs ++ sends_of ys
sends-append [] ys = refl
sends-append (Out asking ∷ xs) ys = sends-append xs ys
sends-append (Started k cursor ∷ xs) ys = sends-append xs ys
sends-append (Sent s ∷ xs) ys = ap (λ l. s ∷ l) (sends-append xs ys)
sends-append (Ended k deleted ∷ xs) ys = sends-append xs ys

-- a fact that sends nothing
silent : (fact : Fact) (b : Board) → sends_of (fact ∷ []) ≡ [] → sends_of (told fact b).facts ≡ sends_of b.facts
silent fact b none = sends-append b.facts (fact ∷ []) ∙ ap (λ l. sends_of b.facts ++ l) none ∙ append-nil (sends_of b.facts)

parted-silent : (k : ℕ) (names : List (List ℕ)) (b : Board) → sends_of (fold (parted k) b names).facts ≡ sends_of b.facts
parted-silent k [] b = refl
parted-silent k (c ∷ names) b = parted-silent k names (parted k b c) ∙ silent _ b refl

ended-silent : (k : ℕ) (deleted : Bool) (names : List (List ℕ)) (b : Board) → sends_of (ended k deleted names b).facts ≡ sends_of b.facts
ended-silent k deleted names b = parted-silent k names (told (Ended k deleted) b) ∙ silent (Ended k deleted) b refl

asked-silent : (key : KeyAt) (j : ℕ) (names : List (List ℕ)) (b : Board) → sends_of (asked_from key j names b).facts ≡ sends_of b.facts
asked-silent key j [] b = refl
asked-silent key j (c ∷ names) b = asked-silent key (j + 1) names (looked c (id_at key j) 0 b) ∙ silent _ (record b { next = b.next + 1 }) refl

entered-silent : (key : KeyAt) (r : Reader) (b : Board) → sends_of (entered key r b).facts ≡ sends_of b.facts
entered-silent key r b = by (spool_of key b.shelf)
  where
    by : (o : Option SpoolAt) → sends_of (opened o key (record b { shelf = others key b.shelf })).facts ≡ sends_of b.facts
    by None = asked-silent key 0 key.list (record b { shelf = others key b.shelf })
    by (Some s) = refl

one-sends : (d : Delivery) (r : Reader) (b : Board) → sends_of (sent_one d b r).facts ≡ sends_of b.facts ++ sending d r ∷ []
one-sends d r b = by r.once ∙ sends-append b.facts (Sent (sending d r) ∷ [])
  where
    by : (t : Bool) → sends_of (cond t (ended r.k false d.key.list (told (Sent (sending d r)) b)) (entered d.key r (told (Sent (sending d r)) b))).facts ≡ sends_of (told (Sent (sending d r)) b).facts
    by true = ended-silent r.k false d.key.list (told (Sent (sending d r)) b)
    by false = entered-silent d.key r (told (Sent (sending d r)) b)

all-send : (d : Delivery) (readers : List Reader) (b : Board) → sends_of (fold (sent_one d) b readers).facts ≡ sends_of b.facts ++ map (sending d) readers
all-send d [] b = sym (append-nil (sends_of b.facts))
all-send d (r ∷ readers) b =
    all-send d readers (sent_one d b r) ∙ ap (λ l. l ++ map (sending d) readers) (one-sends d r b) ∙ append_assoc (sends_of b.facts) (sending d r ∷ []) (map (sending d) readers)

pub sending-rule : SendingRule
sending-rule = record {
  order = λ find s b. all-send (delivery find s) s.readers b;
  each = λ find s r. record { to = refl; place = refl; chan = refl; id = refl; cursor = refl; looks = refl; owner = refl; grant = refl };
  once = λ find s r b e. ap (λ (t : Bool). cond t (ended r.k false s.key.list (told (Sent (sending (delivery find s) r)) b)) (entered (delivery find s).key r (told (Sent (sending (delivery find s) r)) b))) e;
  stays = λ find s r b e. ap (λ (t : Bool). cond t (ended r.k false s.key.list (told (Sent (sending (delivery find s) r)) b)) (entered (delivery find s).key r (told (Sent (sending (delivery find s) r)) b))) e;
}
