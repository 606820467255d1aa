-- A look tells the first message past an id.
use Rattle.std.proofs.Common.{◌≡◌, ◌∙◌, ℕ, Bool, true, false, cond, List, [], ◌∷◌, ◌++◌, refl, ap, find, Some, None}
use Rattle.std.specs.Prelude.{Option}
use Rattle.std.specs.Option.{option_map}
use Rattle.nc_types.specs.Id.{Id, is_past}
use Rattle.nc_buffer.specs.declared.entry.Entry.{Entry}
use Rattle.nc_types.specs.Message.{Message}
use Rattle.nc_alert.specs.declared.packet.Outgoing.{Outgoing}
use Rattle.nc_slots.specs.declared.slot.Slot.{Slot}
use Rattle.nc_owner.specs.declared.channel.Channel.{Channel}
use Rattle.nc_owner.specs.declared.desk.Desk.{Desk}
use Rattle.nc_owner.specs.State.{Bench, OwnerAt, bench_from, entries_of}
use Rattle.nc_owner.specs.AlertLines.{OutLine, out_line, out_lines}
use Rattle.nc_owner.specs.TouchedLook.{seen_line}
use Rattle.nc_owner.specs.Leave.{without_spent}
use Rattle.nc_owner.specs.Look.{id_of, found_on, found_line}
use Rattle.nc_owner.specs.Rules.{FindsFirst, founds_of, TellsFirst}

one_more : (id : Id) (e : Entry) (es : List Entry) (x : Option Id) → is_past e.id id ≡ false → FindsFirst id es x → FindsFirst id (e ∷ es) x
one_more id e es None is all = (is, all)
one_more id e es (Some first) is p =
    let q = p.4 in
    (p.0, e ∷ p.1, p.2, p.3, record { split = ap (λ (l : List Entry). e ∷ l) q.split; none_before = (is, q.none_before); past = q.past })

finds_first : (id : Id) (es : List Entry) → FindsFirst id es (option_map id_of (find (λ e. is_past e.id id) es))
finds_first id [] = tt
finds_first id (e ∷ es) = by (is_past e.id id) refl (finds_first id es)
  where
    by : (b : Bool) → is_past e.id id ≡ b → FindsFirst id es (option_map id_of (find (λ x. is_past x.id id) es)) → FindsFirst id (e ∷ es) (option_map id_of (cond b (Some e) (find (λ x. is_past x.id id) es)))
    by true is rest = (e, [], es, refl, record { split = refl; none_before = tt; past = is })
    by false is rest = one_more id e es (option_map id_of (find (λ x. is_past x.id id) es)) is rest

line_founds : (from number : ℕ) (x : Option Entry) (d : Desk) → founds_of (found_line from number x d ∷ []) ≡ option_map id_of x ∷ []
line_founds from number None d = refl
line_founds from number (Some e) d = refl

pub tells_first : (from number : ℕ) (id : Id) (b : Bench) (lines : List OutLine) → lines ≡ found_line from number (found_on id (without_spent b)) (without_spent b).desk ∷ [] → TellsFirst id b lines
tells_first from number id b lines said =
    (option_map id_of (found_on id (without_spent b)), ap founds_of said ∙ line_founds from number (found_on id (without_spent b)) (without_spent b).desk, finds_first id (entries_of (without_spent b).channel))

-- a look at a channel that was taken out and touched
pub look_tells : {H : Type 0} → (from number : ℕ) (id : Id) (slots : ℕ → List (Slot Message)) (me : ℕ) (d : Desk) (channels : List (List ℕ × Channel)) (s : OwnerAt) (ch : Channel) (b : Bench) (before alerts : List (Outgoing H)) (out : Outgoing H)
    → record { desk = d; channels = channels } ≡ s → bench_from s.desk (slots me) ch ≡ b → b.desk.me ≡ me
    → before ≡ [] → alerts ≡ before ++ out ∷ [] → out_line out ≡ seen_line from number id (bench_from d (slots d.me) ch)
    → TellsFirst id b (out_lines alerts)
look_tells {H} from number id slots me d channels s ch b before alerts out view bench is_me empty pushed said =
    let same : d ≡ s.desk = ap (λ (x : OwnerAt). x.desk) view in
    let is : d.me ≡ me = ap (λ (x : Desk). x.me) same ∙ (ap (λ (x : Bench). x.desk.me) bench ∙ is_me) in
    let ready : bench_from d (slots d.me) ch ≡ b = ap (λ (m : ℕ). bench_from d (slots m) ch) is ∙ (ap (λ (x : Desk). bench_from x (slots me) ch) same ∙ bench) in
    tells_first from number id b (out_lines alerts)
    (ap (λ (l : List (Outgoing H)). out_lines l) (pushed ∙ ap (λ (l : List (Outgoing H)). l ++ out ∷ []) empty) ∙ ap (λ (l : OutLine). l ∷ []) (said ∙ ap (λ (x : Bench). seen_line from number id x) ready))
