-- Reading the place, channel, id and cursor of a sent event is right.
use Rattle.std.proofs.Common.{◌≡◌, ◌≢◌, ℕ, ℤ, pos, negsuc, zero, suc, ◌+◌, Bool, true, false, cond, eqb, List, [], ◌∷◌, ◌++◌, length, refl, sym, ap, subst, ◌∙◌, append_assoc, arith, Some}
use Rattle.std.specs.Prelude.{codes, ◌<◌}
use Rattle.std.specs.List.{flat_map, AllByRecursion}
use Rattle.std.specs.Fmt.{decimal}
use Rattle.std.proofs.lemmas.Bool.{eqb-true, eq-eqb}
use Rattle.std.proofs.lemmas.Int.{ints}
use Rattle.nc_types.specs.Id.{Id, IsTime, IsTag}
use Rattle.nc_types.specs.Cursor.{CursorAt, as_cursor}
use Rattle.nc_types.specs.Text.{quoted}
use Rattle.nc_grammar.specs.Number.{is_digit}
use Rattle.nc_grammar.specs.Label.{field_at}
use Rattle.nc_grammar.specs.Quoted.{AreBytes, quoted_at}
use Rattle.nc_grammar.specs.Maybe.{joined_at, two_at}
use Rattle.nc_grammar.proofs.Texts.{SomeFit}
use Rattle.nc_grammar.specs.Whole.{IsLine}
use Rattle.nc_grammar.proofs.Split.{head_is, not_nil}
use Rattle.nc_grammar.proofs.Exact.{IsExact, IsExact-same, IsExact-named, Named}
use Rattle.nc_grammar.proofs.Number.{number_first, number_some}
use Rattle.nc_grammar.proofs.Label.{nothing}
use Rattle.nc_grammar.proofs.Seq.{Both, both_exact, either}
use Rattle.nc_grammar.proofs.More.{IsMore, IsJoined, more_set, more_tells, joined_exact, or_comma}
use Rattle.nc_grammar.proofs.Rows.{IsLabelled, labelled_exact, SomeExact, loosely, but_blank}
use Rattle.nc_grammar.proofs.Two.{IsTwo, two_exact, IsEither, on_left, on_right, IsChoice, choice_exact}
use Rattle.nc_grammar.proofs.Forms.{text_form, more_there, more_back, joined_back}
use Rattle.nc_types.specs.Written.{comma, joined, tag_text, id_text, bracketed, tags_from, sent_tags, cursor_text}
use Rattle.nc_journal_read.specs.Fit.{IsU64, IsId, IsCursor}
use Rattle.nc_journal_read.specs.ValueReader.{u64_at, time_at, tag_at, written_id_at}
use Rattle.nc_journal_read.specs.PlaceReader.{Sending, IsSending, sending_text, first_and_more, only, more_tags_at, bracketed_at, sent_tags_at, sent_cursor_at, sending_at}
use Rattle.nc_journal_read.proofs.Values.{u64_form, time_form, tag_form, id_form, some_tags, tags_some}

abbrev Tag : ℤ → List ℕ → Type 0
Tag = IsLine IsTag tag_text

more_tags_exact : IsExact (IsMore Tag) (or_comma is_digit) more_tags_at
more_tags_exact = record { set = more_set Tag is_digit refl tag_form.set; tells = λ t. more_tells Tag is_digit tag_at refl tag_form (length t) t (omega arith) }

-- the tag at place j stands in brackets
abbrev pub Marked : ℕ → List ℤ → List ℕ → Type 0
Marked zero = Named first_and_more (IsLabelled (91 ∷ []) (IsTwo (93 ∷ []) Tag (IsMore Tag)))
Marked (suc j) = Named first_and_more (IsTwo (44 ∷ []) Tag (Marked j))

marked_exact : (j : ℕ) → SomeExact (Marked j) (bracketed_at j)
marked_exact zero =
    record {
      stays = _;
      blank = refl;
      exact = IsExact-named first_and_more (IsLabelled (91 ∷ []) (IsTwo (93 ∷ []) Tag (IsMore Tag))) _ _
          (labelled_exact (91 ∷ []) (IsTwo (93 ∷ []) Tag (IsMore Tag)) _ _ (two_exact 93 [] Tag (IsMore Tag) is_digit (or_comma is_digit) tag_at more_tags_at refl tag_form more_tags_exact));
    }
marked_exact (suc j) =
    let x = marked_exact j in
    record {
      stays = either is_digit (either nothing x.stays);
      blank = rw x.blank refl;
      exact = IsExact-named first_and_more (IsTwo (44 ∷ []) Tag (Marked j)) _ _ (two_exact 44 [] Tag (Marked j) is_digit x.stays tag_at (bracketed_at j) refl tag_form x.exact);
    }

abbrev pub SentTags : ℕ → List ℤ → List ℕ → Type 0
SentTags zero = IsEither (Named first_and_more (IsLabelled (91 ∷ []) (IsTwo (93 ∷ 44 ∷ []) Tag (IsJoined Tag)))) (Named only Tag)
SentTags (suc i) = Marked (suc i)

tag_not : (z : ℤ) (c : ℕ) (s : List ℕ) → Tag z (c ∷ s) → c ≢ 91
tag_not (pos g) c s m e = absurd (no_bracket (subst (λ (k : ℕ). is_digit k ≡ true) e (number_first 65535 g (omega arith) c s (record { within = omega (arith, ints, m.fits.1); text = m.text }))))
  where
    no_bracket : is_digit 91 ≡ true → ⊥
    no_bracket e = absurd cc
tag_not (negsuc n) c s m e = absurd (omega (arith, e, head_is c 45 s [] m.text))

tag_some : (z : ℤ) → Tag z [] → ⊥
tag_some (pos g) m = number_some 65535 g (omega arith) (record { within = omega (arith, ints, m.fits.1); text = m.text })
tag_some (negsuc n) m = not_nil 45 [] (sym m.text)

choice : IsChoice 91 (Named first_and_more (IsLabelled (91 ∷ []) (IsTwo (93 ∷ 44 ∷ []) Tag (IsJoined Tag)))) (Named only Tag)
choice =
    record {
      begins = λ a c s m. head_is c 91 s m.2.rest m.2.parts;
      others = λ a c s m. tag_not m.0 c s m.2;
      some = λ a m. not_nil 91 m.2.rest (sym m.2.parts);
      some_others = λ a m. tag_some m.0 m.2;
    }

sent_tags_exact : (i : ℕ) → SomeExact (SentTags i) (sent_tags_at i)
sent_tags_exact zero =
    record {
      stays = _;
      blank = refl;
      exact = choice_exact 91 (Named first_and_more (IsLabelled (91 ∷ []) (IsTwo (93 ∷ 44 ∷ []) Tag (IsJoined Tag)))) (Named only Tag) _ _ _ _ choice
          (IsExact-named first_and_more (IsLabelled (91 ∷ []) (IsTwo (93 ∷ 44 ∷ []) Tag (IsJoined Tag))) _ _ (labelled_exact (91 ∷ []) (IsTwo (93 ∷ 44 ∷ []) Tag (IsJoined Tag)) _ _ (two_exact 93 (44 ∷ []) Tag (IsJoined Tag) is_digit (either is_digit (or_comma is_digit)) tag_at (joined_at tag_at) refl tag_form (joined_exact Tag is_digit tag_at refl tag_form))))
          (IsExact-named only Tag is_digit tag_at tag_form);
    }
sent_tags_exact (suc i) = marked_exact (suc i)

abbrev pub SentCursor : ℕ → CursorAt → List ℕ → Type 0
SentCursor i = Named as_cursor (IsTwo (58 ∷ []) (IsLine IsTime decimal) (SentTags i))

sent_cursor_exact : (i : ℕ) → SomeExact (SentCursor i) (sent_cursor_at i)
sent_cursor_exact i =
    let x = sent_tags_exact i in
    record {
      stays = either is_digit (either nothing x.stays);
      blank = rw x.blank refl;
      exact = IsExact-named as_cursor (IsTwo (58 ∷ []) (IsLine IsTime decimal) (SentTags i)) _ _ (two_exact 58 [] (IsLine IsTime decimal) (SentTags i) is_digit x.stays time_at (sent_tags_at i) refl time_form x.exact);
    }

abbrev pub Behind : ℕ → List ℕ × (Id × CursorAt) → List ℕ → Type 0
Behind i = IsLabelled (codes " c=") (IsTwo (codes " id=") (IsLine AreBytes quoted) (IsTwo (codes " cur=") (IsLine IsId id_text) (SentCursor i)))

behind_exact : (i : ℕ) → SomeExact (Behind i) (field_at (codes " c=") (two_at (codes " id=") quoted_at (two_at (codes " cur=") written_id_at (sent_cursor_at i))))
behind_exact i =
    let x = sent_cursor_exact i in
    record {
      stays = _;
      blank = rw x.blank refl;
      exact = labelled_exact (codes " c=") _ _ _ (two_exact 32 (codes "id=") (IsLine AreBytes quoted) (IsTwo (codes " cur=") (IsLine IsId id_text) (SentCursor i)) _ _ quoted_at (two_at (codes " cur=") written_id_at (sent_cursor_at i)) refl text_form
          (two_exact 32 (codes "cur=") (IsLine IsId id_text) (SentCursor i) _ x.stays written_id_at (sent_cursor_at i) refl id_form x.exact));
    }

abbrev pub IsPlace : ℕ × (List ℕ × (Id × CursorAt)) → List ℕ → Type 0
IsPlace = Both (IsLine IsU64 decimal) Behind

pub place_exact : IsExact IsPlace (either is_digit but_blank) sending_at
place_exact =
    both_exact (IsLine IsU64 decimal) Behind is_digit but_blank u64_at (λ i. field_at (codes " c=") (two_at (codes " id=") quoted_at (two_at (codes " cur=") written_id_at (sent_cursor_at i))))
    u64_form (λ i u h. loosely (Behind i) _ (behind_exact i)) (λ i b c v h. subst (λ (k : ℕ). is_digit k ≡ false) (sym (head_is c 32 v (codes "c=" ++ h.rest) h.parts)) refl)

-- ---- the same in the form "it fits, and this is its text"

-- a place below the number of tags
record HasPlace (i : ℕ) (tags : List ℤ) : Type 0 where
  fit : SomeFit IsTag tags
  below : i < length tags

-- the text with a bracket round the tag that is j places ahead
abbrev marked_text : ℕ → List ℤ → List ℕ
marked_text j [] = []
marked_text zero (g ∷ gs) = 91 ∷ (tag_text g ++ (93 ∷ flat_map (comma tag_text) gs))
marked_text (suc j) (g ∷ gs) = tag_text g ++ (44 ∷ marked_text j gs)

abbrev sent_tags_text : ℕ → List ℤ → List ℕ
sent_tags_text zero [] = []
sent_tags_text zero (g ∷ []) = tag_text g
sent_tags_text zero (g ∷ h ∷ gs) = marked_text zero (g ∷ h ∷ gs)
sent_tags_text (suc i) tags = marked_text (suc i) tags

abbrev SentForm : ℕ → List ℤ → List ℕ → Type 0
SentForm i = IsLine (HasPlace i) (sent_tags_text i)

abbrev MarkedForm : ℕ → List ℤ → List ℕ → Type 0
MarkedForm j = IsLine (HasPlace j) (marked_text j)

all_fit : (xs : List ℤ) → SomeFit IsTag xs → AllByRecursion IsTag xs
all_fit [] h = absurd h
all_fit (g ∷ gs) h = h

marked_there : (j : ℕ) (xs : List ℤ) (u : List ℕ) → Marked j xs u → MarkedForm j xs u
marked_there zero xs u m =
    let two = m.2.value in
    let more = more_there IsTag tag_text m.0.1 two.right two.second in
    subst (λ (ys : List ℤ). MarkedForm zero ys u) (sym m.1) (record {
      fits = record { fit = (two.first.fits, more.fits); below = omega arith };
      text = m.2.parts ∙ ap (λ (l : List ℕ). 91 ∷ l) (two.parts ∙ ap (λ (l : List ℕ). l ++ (93 ∷ two.right)) two.first.text ∙ ap (λ (l : List ℕ). tag_text m.0.0 ++ (93 ∷ l)) more.text);
    })
marked_there (suc j) xs u m =
    let h = marked_there j m.0.1 m.2.right m.2.second in
    subst (λ (ys : List ℤ). MarkedForm (suc j) ys u) (sym m.1) (record {
      fits = record { fit = (m.2.first.fits, all_fit m.0.1 h.fits.fit); below = omega (arith, h.fits.below) };
      text = m.2.parts ∙ ap (λ (l : List ℕ). l ++ (44 ∷ m.2.right)) m.2.first.text ∙ ap (λ (l : List ℕ). tag_text m.0.0 ++ (44 ∷ l)) h.text;
    })

some_fit : (j : ℕ) (gs : List ℤ) → j < length gs → AllByRecursion IsTag gs → SomeFit IsTag gs
some_fit j [] lt h = absurd (omega (arith, lt))
some_fit j (g ∷ gs) lt h = h

marked_back : (j : ℕ) (xs : List ℤ) (u : List ℕ) → MarkedForm j xs u → Marked j xs u
marked_back j [] u m = absurd m.fits.fit
marked_back zero (g ∷ gs) u m = (
  (g, gs),
  refl,
  record {
    rest = tag_text g ++ (93 ∷ flat_map (comma tag_text) gs);
    value = record {
      left = tag_text g;
      right = flat_map (comma tag_text) gs;
      first = record { fits = m.fits.fit.0; text = refl };
      second = more_back IsTag tag_text gs (flat_map (comma tag_text) gs) (record { fits = m.fits.fit.1; text = refl });
      parts = refl;
    };
    parts = m.text;
  },
)
marked_back (suc j) (g ∷ gs) u m =
    let lt : j < length gs = omega (arith, m.fits.below) in (
      (g, gs),
      refl,
      record {
        left = tag_text g;
        right = marked_text j gs;
        first = record { fits = m.fits.fit.0; text = refl };
        second = marked_back j gs (marked_text j gs) (record { fits = record { fit = some_fit j gs lt m.fits.fit.1; below = lt }; text = refl });
        parts = m.text;
      },
    )

sent_there : (i : ℕ) (xs : List ℤ) (u : List ℕ) → SentTags i xs u → SentForm i xs u
sent_there (suc i) xs u m = let h = marked_there (suc i) xs u m in record { fits = h.fits; text = h.text }
sent_there zero xs u (on_right m) = subst (λ (ys : List ℤ). SentForm zero ys u) (sym m.1) (record { fits = record { fit = (m.2.fits, tt); below = omega arith }; text = m.2.text })
sent_there zero xs u (on_left m) =
    let two = m.2.value in
    let k = two.second in
    let more = more_there IsTag tag_text k.others k.text.right k.text.second in
    subst (λ (ys : List ℤ). SentForm zero ys u) (sym (m.1 ∙ ap (λ (ys : List ℤ). m.0.0 ∷ ys) k.is)) (record {
      fits = record { fit = (two.first.fits, (k.text.first.fits, more.fits)); below = omega arith };
      text = m.2.parts ∙ ap (λ (l : List ℕ). 91 ∷ l) (two.parts ∙ ap (λ (l : List ℕ). l ++ (93 ∷ 44 ∷ two.right)) two.first.text
          ∙ ap (λ (l : List ℕ). tag_text m.0.0 ++ (93 ∷ 44 ∷ l)) (k.text.parts ∙ ap (λ (l : List ℕ). l ++ k.text.right) k.text.first.text ∙ ap (λ (l : List ℕ). tag_text k.first ++ l) more.text));
    })

sent_back : (i : ℕ) (xs : List ℤ) (u : List ℕ) → SentForm i xs u → SentTags i xs u
sent_back (suc i) xs u m = marked_back (suc i) xs u (record { fits = m.fits; text = m.text })
sent_back zero [] u m = absurd m.fits.fit
sent_back zero (g ∷ []) u m = on_right (g, refl, record { fits = m.fits.fit.0; text = m.text })
sent_back zero (g ∷ h ∷ gs) u m =
    on_left (
      (g, h ∷ gs),
      refl,
      record {
        rest = tag_text g ++ (93 ∷ 44 ∷ joined tag_text (h ∷ gs));
        value = record {
          left = tag_text g;
          right = joined tag_text (h ∷ gs);
          first = record { fits = m.fits.fit.0; text = refl };
          second = joined_back IsTag tag_text (h ∷ gs) (joined tag_text (h ∷ gs)) (record { fits = m.fits.fit.1; text = refl });
          parts = refl;
        };
        parts = m.text;
      },
    )

-- ---- the text as the line has it

other_place : (i j : ℕ) (g : ℤ) → i ≢ j → bracketed i j g ≡ tag_text g
other_place i j g h =
    (elim (eqb i j) as (λ b. eqb i j ≡ b → cond b ((91 ∷ tag_text g) ++ (93 ∷ [])) (tag_text g) ≡ tag_text g) [
      | true ↦ λ e. absurd (h (eqb-true i j e))
      | false ↦ λ e. refl
    ]) refl

this_place : (i : ℕ) (g : ℤ) → bracketed i i g ≡ 91 ∷ (tag_text g ++ (93 ∷ []))
this_place i g = ap (λ (b : Bool). cond b (91 ∷ (tag_text g ++ (93 ∷ []))) (tag_text g)) (eq-eqb i i refl)

behind_place : (i j : ℕ) (gs : List ℤ) → i < j → tags_from i j gs ≡ flat_map (comma tag_text) gs
behind_place i j [] lt = refl
behind_place i j (g ∷ gs) lt = ap (λ (l : List ℕ). 44 ∷ l ++ tags_from i (j + 1) gs) (other_place i j g (λ e. absurd (omega (arith, e, lt)))) ∙ ap (λ (l : List ℕ). 44 ∷ tag_text g ++ l) (behind_place i (j + 1) gs (omega (arith, lt)))

ahead_of_place : (i j d : ℕ) (gs : List ℤ) → i ≡ j + d → d < length gs → tags_from i j gs ≡ 44 ∷ marked_text d gs
ahead_of_place i j d [] e lt = absurd (omega (arith, lt))
ahead_of_place i j zero (g ∷ gs) e lt =
    let is : j ≡ i = omega (arith, e) in
    ap (λ (k : ℕ). 44 ∷ bracketed i k g ++ tags_from i (j + 1) gs) is
    ∙ ap (λ (l : List ℕ). 44 ∷ l ++ tags_from i (j + 1) gs) (this_place i g)
    ∙ ap (λ (l : List ℕ). 44 ∷ (91 ∷ (tag_text g ++ (93 ∷ []))) ++ l) (behind_place i (j + 1) gs (omega (arith, e)))
    ∙ ap (λ (l : List ℕ). 44 ∷ 91 ∷ l) (append_assoc (tag_text g) (93 ∷ []) (flat_map (comma tag_text) gs))
ahead_of_place i j (suc d) (g ∷ gs) e lt =
    ap (λ (l : List ℕ). 44 ∷ l ++ tags_from i (j + 1) gs) (other_place i j g (λ h. absurd (omega (arith, h, e))))
    ∙ ap (λ (l : List ℕ). 44 ∷ tag_text g ++ l) (ahead_of_place i (j + 1) d gs (omega (arith, e)) (omega (arith, lt)))

tags_text_is : (i : ℕ) (tags : List ℤ) → i < length tags → sent_tags_text i tags ≡ sent_tags i tags
tags_text_is i [] lt = absurd (omega (arith, lt))
tags_text_is zero (g ∷ []) lt = refl
tags_text_is zero (g ∷ h ∷ gs) lt =
    ap (λ (l : List ℕ). 91 ∷ l) (sym (append_assoc (tag_text g) (93 ∷ []) (flat_map (comma tag_text) (h ∷ gs)))) ∙ ap (λ (l : List ℕ). (91 ∷ (tag_text g ++ (93 ∷ []))) ++ l) (sym (behind_place 0 1 (h ∷ gs) (omega arith)))
tags_text_is (suc i) (g ∷ []) lt = absurd (omega (arith, lt))
tags_text_is (suc i) (g ∷ h ∷ gs) lt = ap (λ (l : List ℕ). l ++ (44 ∷ marked_text i (h ∷ gs))) (sym (other_place (suc i) 0 g (λ e. absurd (omega (arith, e))))) ∙ ap (λ (l : List ℕ). bracketed (suc i) 0 g ++ l) (sym (ahead_of_place (suc i) 1 i (h ∷ gs) (omega arith) (omega (arith, lt))))

abbrev by_right : Sending → List ℕ
by_right x = decimal x.0 ++ (codes " c=" ++ (quoted x.1.0 ++ (codes " id=" ++ (id_text x.1.1.0 ++ (codes " cur=" ++ (decimal x.1.1.1.time ++ (58 ∷ sent_tags x.0 x.1.1.1.tags)))))))

left_grouped : (a b c d e f g : List ℕ) → a ++ b ++ c ++ d ++ e ++ f ++ g ≡ a ++ (b ++ (c ++ (d ++ (e ++ (f ++ g)))))
left_grouped a b c d e f g =
    append_assoc (a ++ b ++ c ++ d ++ e) f g ∙ append_assoc (a ++ b ++ c ++ d) e (f ++ g) ∙ append_assoc (a ++ b ++ c) d (e ++ (f ++ g))
    ∙ append_assoc (a ++ b) c (d ++ (e ++ (f ++ g))) ∙ append_assoc a b (c ++ (d ++ (e ++ (f ++ g))))

sending_is : (x : Sending) → sending_text x ≡ by_right x
sending_is x =
    left_grouped (decimal x.0) (codes " c=") (quoted x.1.0) (codes " id=") (id_text x.1.1.0) (codes " cur=") (cursor_text (Some x.0) x.1.1.1)
    ∙ ap (λ (l : List ℕ). decimal x.0 ++ (codes " c=" ++ (quoted x.1.0 ++ (codes " id=" ++ (id_text x.1.1.0 ++ (codes " cur=" ++ l)))))) (append_assoc (decimal x.1.1.1.time) (58 ∷ []) (sent_tags x.0 x.1.1.1.tags))

place_there : (x : Sending) (u : List ℕ) → IsPlace x u → IsLine IsSending sending_text x u
place_there x u m =
    let a = m.second.value in
    let b = a.second in
    let c = b.second in
    let tags = sent_there x.0 c.0.1 c.2.right c.2.second in
    let is : x.1.1.1 ≡ as_cursor c.0 = c.1 in
    let k = some_tags c.0.1 tags.fits.fit in
    let cur : IsCursor x.1.1.1 × (x.0 < length x.1.1.1.tags) = subst (λ (y : CursorAt). IsCursor y × (x.0 < length y.tags)) (sym is) (record { time = c.2.first.fits; some = k.0; tags = k.1 }, tags.fits.below) in
    let cur_text : b.right ≡ decimal x.1.1.1.time ++ (58 ∷ sent_tags x.0 x.1.1.1.tags) =
    subst (λ (y : CursorAt). b.right ≡ decimal y.time ++ (58 ∷ sent_tags x.0 y.tags)) (sym is)
    (c.2.parts ∙ ap (λ (l : List ℕ). l ++ (58 ∷ c.2.right)) c.2.first.text ∙ ap (λ (l : List ℕ). decimal c.0.0 ++ (58 ∷ l)) (tags.text ∙ tags_text_is x.0 c.0.1 tags.fits.below)) in
    record {
      fits = record { place = m.first.fits; name = a.first.fits; id = b.first.fits; cursor = cur.0; below = cur.1 };
      text = m.parts ∙ ap (λ (l : List ℕ). l ++ m.right) m.first.text ∙ ap (λ (l : List ℕ). decimal x.0 ++ l) (m.second.parts
          ∙ ap (λ (l : List ℕ). codes " c=" ++ l) (a.parts ∙ ap (λ (l : List ℕ). l ++ (codes " id=" ++ a.right)) a.first.text
          ∙ ap (λ (l : List ℕ). quoted x.1.0 ++ (codes " id=" ++ l)) (b.parts ∙ ap (λ (l : List ℕ). l ++ (codes " cur=" ++ b.right)) b.first.text
          ∙ ap (λ (l : List ℕ). id_text x.1.1.0 ++ (codes " cur=" ++ l)) cur_text))) ∙ sym (sending_is x);
    }

place_back : (x : Sending) (u : List ℕ) → IsLine IsSending sending_text x u → IsPlace x u
place_back x u m =
    record {
      left = decimal x.0;
      right = codes " c=" ++ (quoted x.1.0 ++ (codes " id=" ++ (id_text x.1.1.0 ++ (codes " cur=" ++ (decimal x.1.1.1.time ++ (58 ∷ sent_tags x.0 x.1.1.1.tags))))));
      first = record { fits = m.fits.place; text = refl };
      second = record {
        rest = quoted x.1.0 ++ (codes " id=" ++ (id_text x.1.1.0 ++ (codes " cur=" ++ (decimal x.1.1.1.time ++ (58 ∷ sent_tags x.0 x.1.1.1.tags)))));
        value = record {
          left = quoted x.1.0;
          right = id_text x.1.1.0 ++ (codes " cur=" ++ (decimal x.1.1.1.time ++ (58 ∷ sent_tags x.0 x.1.1.1.tags)));
          first = record { fits = m.fits.name; text = refl };
          second = record {
            left = id_text x.1.1.0;
            right = decimal x.1.1.1.time ++ (58 ∷ sent_tags x.0 x.1.1.1.tags);
            first = record { fits = m.fits.id; text = refl };
            second = (
              (x.1.1.1.time, x.1.1.1.tags),
              refl,
              record {
                left = decimal x.1.1.1.time;
                right = sent_tags x.0 x.1.1.1.tags;
                first = record { fits = m.fits.cursor.time; text = refl };
                second = sent_back x.0 x.1.1.1.tags (sent_tags x.0 x.1.1.1.tags) (record { fits = record { fit = tags_some x.1.1.1.tags m.fits.cursor.some m.fits.cursor.tags; below = m.fits.below }; text = sym (tags_text_is x.0 x.1.1.1.tags m.fits.below) });
                parts = refl;
              },
            );
            parts = refl;
          };
          parts = refl;
        };
        parts = refl;
      };
      parts = m.text ∙ sending_is x;
    }

-- the place, the name, the id and the cursor of a sent event are read rightly
pub sending_form : IsExact (IsLine IsSending sending_text) (either is_digit but_blank) sending_at
sending_form = IsExact-same IsPlace (IsLine IsSending sending_text) (either is_digit but_blank) sending_at place_there place_back place_exact
