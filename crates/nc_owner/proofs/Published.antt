-- A publish of an owner: the parts give the whole.
use Rattle.std.proofs.Common.{◌≡◌, ℕ, List, [], ◌++◌, Bool, true, sym, ap, ◌∙◌, subst}
use Rattle.std.specs.Prelude.{◌||◌, if◌then◌else◌, Some, None}
use Rattle.nc_types.specs.Message.{Message}
use Rattle.nc_journal.specs.declared.event.Event.{Event}
use Rattle.nc_alert.specs.declared.packet.Outgoing.{Outgoing}
use Rattle.nc_slots.specs.declared.slot.Slot.{Slot}
use Rattle.nc_slots.specs.Slots.{HoldAt}
use Rattle.nc_owner.specs.declared.channel.Channel.{Channel}
use Rattle.nc_owner.specs.declared.desk.Desk.{Desk}
use Rattle.nc_owner.specs.declared.order.Order.{Order}
use Rattle.nc_owner.specs.declared.poll.PollAnswer.{PollAnswer}
use Rattle.nc_owner.specs.Holds.{AllCarry}
use Rattle.nc_owner.specs.Leave.{touched}
use Rattle.nc_owner.specs.AlertLines.{OutLine}
use Rattle.nc_owner.specs.Poll.{PollsOf, AnswersFit}
use Rattle.nc_owner.specs.PublishClauses.{IsPosted, Posts, Publishes}
use Rattle.nc_owner.specs.Rules.{NoneExpired, IsFresh}
use Rattle.nc_owner.specs.State.{Bench, OwnerAt, bench_from, entries_of, found, opened, exists, others, put_back, bench_of}
use Rattle.nc_owner.specs.Publish.{LeavingPolls, cleared, cleared_events, is_stored, post_events, post_holds, publish_outcome, publish_bench, publish_cleared, message_of_order, outcome, stamp}
use Rattle.nc_owner.proofs.Fresh.{stayers_fresh, publish_fresh}
use Rattle.nc_owner.proofs.Polls.{polls_again}

-- what the steps of a publish say, where the slots and holds after clearing are those of owner m
pub record Parts (exact : Bool) (from me : ℕ) (o : Order) (row : List (Slot Message)) (s : OwnerAt) (counts : List ℕ) (first : List PollAnswer) (done existed stays : Bool) (slots1 slots2 : ℕ → List (Slot Message)) (holds1 holds2 : ℕ → List ℕ) (d1 d2 : Desk) (ch ch1 ch2 : Channel) (before events1 events2 : List Event) (lines : List OutLine) (rest chs2 : List (List ℕ × Channel)) : Type 0 where
  pub is_me : s.desk.me ≡ me
  pub none : before ≡ []
  pub is_channel : ch ≡ opened o.chan s
  pub was : existed ≡ exists o.chan s
  pub is_rest : rest ≡ others o.chan s.channels
  pub clear_events : events1 ≡ before ++ cleared_events first o.chan (bench_from s.desk row ch)
  pub clear_bench : bench_from d1 (slots1 me) ch1 ≡ cleared first (bench_from s.desk row ch)
  pub clear_polls : PollsOf exact counts (touched (bench_from s.desk row ch)).desk.retired first
  pub clear_fit : AnswersFit (touched (bench_from s.desk row ch)).row first
  pub clear_holds : exact ≡ true → holds1 me ≡ counts
  pub posts : Posts exact from o first (bench_from d1 (slots1 d1.me) ch1) (holds1 d1.me) done events1 events2 lines (bench_from d2 (slots2 d1.me) ch2) (holds2 d1.me)
  pub is_stays : stays ≡ (existed || done)
  pub back : chs2 ≡ put_back o.chan stays ch2 rest

pub published_by : (exact : Bool) (from me : ℕ) (o : Order) (row : List (Slot Message)) (s : OwnerAt) (counts : List ℕ) (first : List PollAnswer) (done existed stays : Bool) (slots1 slots2 : ℕ → List (Slot Message)) (holds1 holds2 : ℕ → List ℕ) (d1 d2 : Desk) (ch ch1 ch2 : Channel) (before events1 events2 : List Event) (lines : List OutLine) (rest chs2 : List (List ℕ × Channel))
    → Parts exact from me o row s counts first done existed stays slots1 slots2 holds1 holds2 d1 d2 ch ch1 ch2 before events1 events2 lines rest chs2
    → Publishes exact from o row s counts events2 lines (slots2 me) (record { desk = d2; channels = chs2 }) (holds2 me)
published_by exact from me o row s counts first done existed stays slots1 slots2 holds1 holds2 d1 d2 ch ch1 ch2 before events1 events2 lines rest chs2 p =
    let bb = bench_of o.chan row s in
    let eb : bench_from s.desk row ch ≡ bb = ap (λ (x : Channel). bench_from s.desk row x) p.is_channel in
    let e1 : bench_from d1 (slots1 me) ch1 ≡ cleared first bb = p.clear_bench ∙ ap (λ (x : Bench). cleared first x) eb in
    let em : d1.me ≡ me = ap (λ (x : Bench). x.desk.me) e1 ∙ p.is_me in
    let after = bench_from d2 (slots2 me) ch2 in
    let p1 : Posts exact from o first (bench_from d1 (slots1 me) ch1) (holds1 me) done events1 events2 lines after (holds2 me) =
    subst (λ (m : ℕ). Posts exact from o first (bench_from d1 (slots1 m) ch1) (holds1 m) done events1 events2 lines (bench_from d2 (slots2 m) ch2) (holds2 m)) em p.posts in
    let p2 : Posts exact from o first (cleared first bb) (holds1 me) done events1 events2 lines after (holds2 me) =
    subst (λ (x : Bench). Posts exact from o first x (holds1 me) done events1 events2 lines after (holds2 me)) e1 p1 in
    let polls = p2.0 in
    let f : first ≡ polls.retired = sym p2.1 in
    let ip : IsPosted exact from o polls (cleared polls.retired bb) (holds1 me) done events1 events2 lines after (holds2 me) =
    subst (λ (a : List PollAnswer). IsPosted exact from o polls (cleared a bb) (holds1 me) done events1 events2 lines after (holds2 me)) f p2.3 in
    let lp : LeavingPolls exact (holds1 me) o.length (cleared polls.retired bb) polls = subst (λ (a : List PollAnswer). LeavingPolls exact (holds1 me) o.length (cleared a bb) polls) f p2.2 in
    let leave_polls : LeavingPolls exact counts o.length (cleared polls.retired bb) polls =
    record { before = polls_again exact counts (holds1 me) _ _ p.clear_holds lp.before; after_leaving = polls_again exact counts (holds1 me) _ _ p.clear_holds lp.after_leaving; before_fit = lp.before_fit; after_leaving_fit = lp.after_leaving_fit } in
    let first_polls : PollsOf exact counts (touched bb).desk.retired polls.retired =
    subst (λ (a : List PollAnswer). PollsOf exact counts (touched bb).desk.retired a) f (subst (λ (x : Bench). PollsOf exact counts (touched x).desk.retired first) eb p.clear_polls) in
    let first_fit : AnswersFit (touched bb).row polls.retired =
    subst (λ (a : List PollAnswer). AnswersFit (touched bb).row a) f (subst (λ (x : Bench). AnswersFit (touched x).row first) eb p.clear_fit) in
    let ev : events1 ≡ cleared_events polls.retired o.chan bb =
    p.clear_events ∙ (ap (λ (l : List Event). l ++ cleared_events first o.chan (bench_from s.desk row ch)) p.none
    ∙ (ap (λ (x : Bench). cleared_events first o.chan x) eb ∙ ap (λ (a : List PollAnswer). cleared_events a o.chan bb) f)) in
    let chs : chs2 ≡ put_back o.chan (exists o.chan s || is_stored (publish_outcome o polls row s)) (publish_bench o polls row s).channel (others o.chan s.channels) =
    p.back ∙ (λ i. put_back o.chan ((p.is_stays ∙ λ j. (p.was j || ip.kind j)) i) ((ap (λ (x : Bench). x.channel) ip.after_post) i) (p.is_rest i)) in (
      polls,
      record { first = first_polls; first_fit = first_fit; others = leave_polls },
      record {
        happened = ip.happened ∙ ap (λ (l : List Event). l ++ post_events (publish_outcome o polls row s) from o polls (publish_cleared o polls row s)) ev;
        said = ip.said;
        owner = λ i. record { desk = (ap (λ (x : Bench). x.desk) ip.after_post) i; channels = chs i };
        slots = ap (λ (x : Bench). x.row) ip.after_post;
      },
      λ h. ip.held h ∙ ap (λ (cs : List ℕ). post_holds (publish_outcome o polls row s) o polls (publish_cleared o polls row s) cs) (p.clear_holds h),
      λ yes_stored. ip.taken (ip.kind ∙ yes_stored),
    )

-- the holds that a publish grants are of its message
pub carried_by : {H : Type 0} (held : H → HoldAt) (o : Order) (row : List (Slot Message)) (s : OwnerAt) (first : List PollAnswer) (slots1 : ℕ → List (Slot Message)) (d1 : Desk) (ch ch1 : Channel) (alerts : List (Outgoing H))
    → ch ≡ opened o.chan s → bench_from d1 (slots1 s.desk.me) ch1 ≡ cleared first (bench_from s.desk row ch)
    → AllCarry held d1.me (message_of_order (stamp (bench_from d1 (slots1 d1.me) ch1)) o d1.clock) alerts
    → AllCarry held s.desk.me (message_of_order (stamp (bench_of o.chan row s)) o s.desk.clock) alerts
carried_by held o row s first slots1 d1 ch ch1 alerts is_channel bench carried =
    subst (λ (x : Channel). AllCarry held s.desk.me (message_of_order (stamp (bench_from s.desk row x)) o s.desk.clock) alerts) is_channel
    (subst (λ (x : Bench). AllCarry held x.desk.me (message_of_order (stamp x) o x.desk.clock) alerts) bench carried)

-- no entry of the channel has expired after a publish
pub fresh_by : (exact : Bool) (from me : ℕ) (o : Order) (row : List (Slot Message)) (d : Desk) (first : List PollAnswer) (done stays : Bool) (slots1 slots2 : ℕ → List (Slot Message)) (holds1 holds2 : ℕ → List ℕ) (d1 d2 : Desk) (ch ch1 ch2 : Channel) (events1 events2 : List Event) (lines : List OutLine) (chs2 : List (List ℕ × Channel))
    → bench_from d1 (slots1 me) ch1 ≡ cleared first (bench_from d row ch)
    → Posts exact from o first (bench_from d1 (slots1 d1.me) ch1) (holds1 d1.me) done events1 events2 lines (bench_from d2 (slots2 d1.me) ch2) (holds2 d1.me)
    → found o.chan (record { desk = d2; channels = chs2 }) ≡ (if stays then Some ch2 else None)
    → IsFresh o.chan (record { desk = d2; channels = chs2 })
fresh_by exact from me o row d first done stays slots1 slots2 holds1 holds2 d1 d2 ch ch1 ch2 events1 events2 lines chs2 bench posts at_name =
    let b1 = bench_from d1 (slots1 d1.me) ch1 in
    let all : NoneExpired d1.clock (entries_of ch1) = subst (λ (y : Bench). NoneExpired y.desk.clock (entries_of y.channel)) (sym bench) (stayers_fresh d.clock (entries_of ch)) in
    publish_fresh o.chan o posts.0 (outcome o.length posts.0 b1) b1 (bench_from d2 (slots2 d1.me) ch2) chs2 stays all posts.3.after_post at_name
