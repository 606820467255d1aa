-- Each step keeps the rule of a ring.
use Rattle.std.proofs.Common.{◌≡◌, ◌≢◌, ℕ, zero, suc, ◌≤◌, true, true≢false, List, [], ◌∷◌, ◌++◌, ⊎_elim, All, length, set, sym, refl, ap, ◌∙◌, subst, append_assoc, arith, length-append}
use Rattle.std.proofs.lemmas.List.Elements.{All-nil, All-cons, All-head, All-tail, All-append}
use Rattle.std.specs.Prelude.{Option, Some, None}
use mathlib.Core.Option.{some, some-ne-none}
use lib.ListN.{get_elem?}
use Rattle.crossbeam_queue.specs.Fifo.{Pushes, Pops, Forks, Learns}
use Rattle.crossbeam_queue.proofs.Lists.{at_set, at_snoc}
use Rattle.nc_alert.specs.Packet.{grant_of}
use Rattle.nc_alert.specs.declared.alert.Grant.{Grant}
use Rattle.nc_alert.specs.declared.packet.Packet.{Packet}
use Rattle.nc_ring.specs.declared.view.Log.{Log}
use Rattle.nc_ring.specs.declared.view.Route.{Route}
use Rattle.nc_ring.specs.Packets.{Goes, AreRising, Precedes, IsAfter, Rises}
use Rattle.nc_ring.specs.Ring.{RingAt, FitsPass, IsInOrder, both_ends, pushing_end, taking_end, with_sent, with_got}

module _ {H : Type 0} where
  -- ---- grant numbers

  -- a packet behind all of those before keeps the numbers rising
  rises_on : (sent : List (Packet H)) (packet : Packet H) → Rises sent → IsAfter sent packet → Rises (sent ++ packet ∷ [])
  rises_on [] packet rise after = (All-nil (Precedes packet), tt)
  rises_on (p ∷ ps) packet rise after = (
    All-append (Precedes p) ps (packet ∷ []) rise.0 (All-cons (Precedes p) packet [] (All-head (λ q. Precedes q packet) p ps after) (All-nil (Precedes p))),
    rises_on ps packet rise.1 (All-tail (λ q. Precedes q packet) p ps after),
  )

  met : (P : Packet H → Type 0) (got items : List (Packet H)) (packet : Packet H) → All P (got ++ packet ∷ items) → P packet
  met P [] items packet all = All-head P packet items all
  met P (p ∷ ps) items packet all = met P ps items packet (All-tail P p (ps ++ packet ∷ items) all)

  -- the next packet is behind all that were taken
  after_got : (got items : List (Packet H)) (packet : Packet H) → Rises (got ++ packet ∷ items) → IsAfter got packet
  after_got [] items packet rise = All-nil (λ q. Precedes q packet)
  after_got (p ∷ ps) items packet rise = All-cons (λ q. Precedes q packet) p ps (met (Precedes p) ps items packet rise.0) (after_got ps items packet rise.1)

  none_after : (o : Option (Grant H)) → AreRising o None
  none_after None = tt
  none_after (Some grant) = tt

  -- a packet that carries no hold may come behind any
  pub plain_after : (sent : List (Packet H)) (packet : Packet H) → grant_of packet.alert ≡ None → IsAfter sent packet
  plain_after [] packet none = All-nil (λ q. Precedes q packet)
  plain_after (p ∷ ps) packet none =
      All-cons (λ q. Precedes q packet) p ps (subst (AreRising (grant_of p.alert)) (sym none) (none_after (grant_of p.alert))) (plain_after ps packet none)

  -- ---- what passes know

  abbrev Each : (ℕ → Log H → Type 0) → List (Log H) → Type 0
  Each F views = (pass : ℕ) (known : Log H) → get_elem? views pass ≡ some known → F pass known

  -- one pass knows something else
  each_set : (F : ℕ → Log H → Type 0) (views : List (Log H)) (pass : ℕ) (w : Log H) → F pass w → ((j : ℕ) (u : Log H) → j ≢ pass → get_elem? views j ≡ some u → F j u) → Each F (set views pass w)
  each_set F views pass w mine others j u e = ⊎_elim (λ (x : (j ≡ pass) × (w ≡ u)). subst (λ (y : ℕ × Log H). F y.0 y.1) (λ i. (sym x.0 i, x.1 i)) mine)
      (λ (x : (j ≢ pass) × (get_elem? views j ≡ some u)). others j u x.0 x.1) (at_set views pass j w u e)

  at_end : (l : List (Log H)) (a b : Log H) (j : ℕ) → get_elem? l j ≢ some b → get_elem? (l ++ a ∷ []) j ≡ some b → j ≡ length l
  at_end [] a b zero n e = refl
  at_end [] a b (suc j) n e = absurd (some-ne-none b (sym e))
  at_end (x ∷ xs) a b zero n e = absurd (n e)
  at_end (x ∷ xs) a b (suc j) n e = ap suc (at_end xs a b j n e)

  none_left : (sent got items : List (Packet H)) → sent ≡ [] → sent ≡ got ++ items → items ≡ []
  none_left sent [] items e p = sym p ∙ e
  none_left sent (x ∷ xs) items e p = absurd (cc (sym e ∙ p))

  abbrev new_ring : RingAt H
  new_ring = record { writer = 0; reader = 0; route = record { workers = 0; from = 0; to = 0 }; sent = []; got = [] }

  -- ---- a new ring, a push, a take and the cut of its ends

  pub begins : IsInOrder [] (both_ends {H = H} ∷ [])
  begins =
      let all : Each (FitsPass new_ring) (both_ends {H = H} ∷ []) = each_set (FitsPass new_ring) (both_ends ∷ []) 0 both_ends (record { pushing = λ _. (refl, refl, refl); taking = λ _. (refl, refl, refl) })
      (λ j u other e. absurd (other (at_end [] both_ends u j (λ x. some-ne-none u (sym x)) e))) in
      (new_ring, record { whole = refl; go = All-nil (Goes new_ring.route); rise = tt; passes = all })

  pub pushes : (n pass : ℕ) (known : Log H) (packet : Packet H) → known.pushes ≡ true → Goes known.route packet → IsAfter known.sent packet → Pushes IsInOrder n pass known packet (λ after. after ≡ with_sent known packet)
  pushes n pass known packet may goes after items views short kept at =
      let ring = kept.0 in let is = kept.1 in let mine = is.passes pass known at in let role = mine.pushing may in
      let w : Log H = with_sent known packet in
      let now : RingAt H = record { writer = ring.writer; reader = ring.reader; route = ring.route; sent = ring.sent ++ packet ∷ []; got = ring.got } in
      let goes' : Goes ring.route packet = subst (λ (r : Route). Goes r packet) role.1 goes in
      let mine' : FitsPass now pass w = record { pushing = λ _. (role.0, role.1, ap (λ (l : List (Packet H)). l ++ packet ∷ []) role.2); taking = mine.taking } in
      let others : (j : ℕ) (u : Log H) → j ≢ pass → get_elem? views j ≡ some u → FitsPass now j u = λ j u other e. let is_of = is.passes j u e in record { pushing = λ p. absurd (other ((is_of.pushing p).0 ∙ sym role.0)); taking = is_of.taking } in (
        w,
        (
          now,
          record {
            whole = ap (λ (l : List (Packet H)). l ++ packet ∷ []) is.whole ∙ append_assoc ring.got items (packet ∷ []);
            go = All-append (Goes ring.route) items (packet ∷ []) is.go (All-cons (Goes ring.route) packet [] goes' (All-nil (Goes ring.route)));
            rise = rises_on ring.sent packet is.rise (subst (λ (l : List (Packet H)). IsAfter l packet) role.2 after);
            passes = each_set (FitsPass now) views pass w mine' others;
          },
        ),
        refl,
      )

  pub takes : (pass : ℕ) (known : Log H) → known.takes ≡ true → Pops IsInOrder pass known (λ packet after. (after ≡ with_got known packet) × Goes known.route packet × IsAfter known.got packet)
  takes pass known may packet items views kept at =
      let ring = kept.0 in let is = kept.1 in let mine = is.passes pass known at in let role = mine.taking may in
      let w : Log H = with_got known packet in
      let now : RingAt H = record { writer = ring.writer; reader = ring.reader; route = ring.route; sent = ring.sent; got = ring.got ++ packet ∷ [] } in
      let mine' : FitsPass now pass w = record { pushing = mine.pushing; taking = λ _. (role.0, role.1, ap (λ (l : List (Packet H)). l ++ packet ∷ []) role.2) } in
      let others : (j : ℕ) (u : Log H) → j ≢ pass → get_elem? views j ≡ some u → FitsPass now j u = λ j u other e. let is_of = is.passes j u e in record { pushing = is_of.pushing; taking = λ p. absurd (other ((is_of.taking p).0 ∙ sym role.0)) } in
      let goes : Goes known.route packet = subst (λ (r : Route). Goes r packet) (sym role.1) (All-head (Goes ring.route) packet items is.go) in
      let after : IsAfter known.got packet = subst (λ (l : List (Packet H)). IsAfter l packet) (sym role.2) (after_got ring.got items packet (subst Rises is.whole is.rise)) in (
        w,
        (
          now,
          record {
            whole = is.whole ∙ sym (append_assoc ring.got (packet ∷ []) items);
            go = All-tail (Goes ring.route) packet items is.go;
            rise = is.rise;
            passes = each_set (FitsPass now) views pass w mine' others;
          },
        ),
        (refl, goes, after),
      )

  pub cuts : (pass : ℕ) (known : Log H) (route : Route) → known ≡ both_ends → Forks IsInOrder pass known (pushing_end route known) (taking_end route known)
  cuts pass known route new items views kept at =
      let ring = kept.0 in let is = kept.1 in let mine = is.passes pass known at in
      let tx = mine.pushing (ap (λ (v : Log H). v.pushes) new) in let rx = mine.taking (ap (λ (v : Log H). v.takes) new) in
      let left : Log H = pushing_end route known in let right : Log H = taking_end route known in let cut : List (Log H) = set views pass left in
      let empty : items ≡ [] = none_left ring.sent ring.got items (sym tx.2 ∙ ap (λ (v : Log H). v.sent) new) is.whole in
      let now : RingAt H = record { writer = ring.writer; reader = length cut; route = route; sent = ring.sent; got = ring.got } in
      let Old : ℕ → Log H → Type 0 = λ j u. (u.pushes ≡ true → (j ≡ ring.writer) × (u.route ≡ route) × (u.sent ≡ ring.sent)) × (u.takes ≢ true) in
      let old : Each Old cut = each_set Old views pass left ((λ _. (tx.0, refl, tx.2)), λ p. true≢false (sym p))
      (λ j u other e. ((λ p. absurd (other (((is.passes j u e).pushing p).0 ∙ sym tx.0))), λ p. other (((is.passes j u e).taking p).0 ∙ sym rx.0))) in
      let was_there : (j : ℕ) (u : Log H) → get_elem? cut j ≡ some u → FitsPass now j u = λ j u e. record { pushing = (old j u e).0; taking = λ p. absurd ((old j u e).1 p) } in
      let came : (j : ℕ) (u : Log H) → get_elem? (cut ++ right ∷ []) j ≡ some u → right ≡ u → FitsPass now j u = λ j u e same. record {
        pushing = λ p. absurd (true≢false (sym (ap (λ (v : Log H). v.pushes) same ∙ p)));
        taking = λ p. (at_end cut right u j (λ x. (old j u x).1 p) e, sym (ap (λ (v : Log H). v.route) same), sym (ap (λ (v : Log H). v.got) same) ∙ rx.2);
      } in (
        now,
        record {
          whole = is.whole;
          go = subst (All (Goes route)) (sym empty) (All-nil (Goes route));
          rise = is.rise;
          passes = λ j u e. ⊎_elim (was_there j u) (came j u e) (at_snoc cut right u j e);
        },
      )

  shorter : (sent got items : List (Packet H)) → sent ≡ got ++ items → length items ≤ length sent
  shorter sent got items is = let l = ap length is in omega (arith, l, length-append got items)

  -- the ring holds at most what was pushed
  pub few : (pass : ℕ) (known : Log H) → known.pushes ≡ true → Learns IsInOrder pass known (λ items. length items ≤ length known.sent)
  few pass known may items views kept at = shorter known.sent kept.0.got items (((kept.1.passes pass known at).pushing may).2 ∙ kept.1.whole)

  -- what was taken and then what the ring holds is what was pushed
  pub prefix : (items : List (Packet H)) (views : List (Log H)) (i j : ℕ) (tx rx : Log H) → IsInOrder items views → get_elem? views i ≡ some tx → tx.pushes ≡ true → get_elem? views j ≡ some rx → rx.takes ≡ true → tx.sent ≡ rx.got ++ items
  prefix items views i j tx rx kept at_tx pushing at_rx taking =
      let sent = ((kept.1.passes i tx at_tx).pushing pushing).2 in let got = ((kept.1.passes j rx at_rx).taking taking).2 in
      sent ∙ kept.1.whole ∙ ap (λ (l : List (Packet H)). l ++ items) (sym got)
