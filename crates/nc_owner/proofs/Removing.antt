-- A channel is touched and put back, and then it goes or stays.
use Rattle.std.proofs.Common.{◌≡◌, ℕ, Bool, true, false, List, [], ◌∷◌, ◌++◌, Some, None, refl, ap, ◌∙◌}
use Rattle.std.specs.Prelude.{◌&&◌, if◌then◌else◌}
use Rattle.std.proofs.lemmas.List.{map-append}
use Rattle.nc_types.specs.Message.{Message}
use Rattle.nc_types.specs.declared.info.Info.{Info}
use Rattle.nc_journal.specs.declared.alert.AlertLine.{AlertLine}
use Rattle.nc_journal.specs.declared.alert.AlertLine.TheVariants.{DelAnswer}
use Rattle.nc_alert.specs.declared.alert.Alert.{Alert}
use Rattle.nc_alert.specs.declared.packet.Outgoing.{Outgoing}
use Rattle.nc_slots.specs.declared.slot.Slot.{Slot}
use Rattle.nc_owner.specs.declared.channel.Channel.{Channel}
use Rattle.nc_owner.specs.State.{OwnerAt, Bench, bench_from, exists, others, put_back}
use Rattle.nc_owner.specs.AlertLines.{OutLine, alert_line, out_line, out_lines}
use Rattle.nc_owner.specs.OtherSteps.{touch_after, touched_of}
use Rattle.nc_owner.specs.Publish.{info_of}
use Rattle.nc_owner.specs.Remove.{alerts_of_removal, delete_alerts, delete_answer, delete_line, is_idle, is_reaped}

channels_back : (c name : List ℕ) (row row1 : List (Slot Message)) (s s1 : OwnerAt) (ch : Channel) (existed : Bool) (after : List (List ℕ × Channel)) → name ≡ c → bench_from s1.desk row1 ch ≡ touched_of c row s → existed ≡ exists c s
    → s1.channels ≡ others c s.channels → after ≡ put_back name existed ch s1.channels → after ≡ (touch_after c row s).channels
channels_back c name row row1 s s1 ch existed after named bench is rest back =
    back
    ∙ (ap (λ (n : List ℕ). put_back n existed ch s1.channels) named
    ∙ (ap (λ (e : Bool). put_back c e ch s1.channels) is
    ∙ (ap (λ (b : Bench). put_back c (exists c s) b.channel s1.channels) bench
    ∙ ap (λ (x : List (List ℕ × Channel)). put_back c (exists c s) (touched_of c row s).channel x) rest)))

-- a channel was opened, and put back under its name: a touch has come to its end
pub closed : (c name : List ℕ) (row row1 : List (Slot Message)) (s s1 s2 : OwnerAt) (ch : Channel) (existed : Bool) → name ≡ c → bench_from s1.desk row1 ch ≡ touched_of c row s → existed ≡ exists c s → s1.channels ≡ others c s.channels
    → s2.desk ≡ s1.desk → s2.channels ≡ put_back name existed ch s1.channels → s2 ≡ touch_after c row s
closed c name row row1 s s1 s2 ch existed named bench is rest desk back = λ i. record {
  desk = (desk ∙ ap (λ (b : Bench). b.desk) bench) i;
  channels = (channels_back c name row row1 s s1 ch existed s2.channels named bench is rest back) i;
}

-- what is told of a removal by its test and the owner that was touched is the same by what these are
pub same_removal : {X : Type 0} → (f : Bool → OwnerAt → X) (goes is : Bool) (s t : OwnerAt) → goes ≡ is → s ≡ t → f goes s ≡ f is t
same_removal f goes is s t by touched = ap (λ (e : Bool). f e s) by ∙ ap (f is) touched

-- a channel that was touched goes where it was there and is idle
pub reaped_if : (c : List ℕ) (row row1 : List (Slot Message)) (s s1 : OwnerAt) (ch : Channel) (existed goes : Bool) → bench_from s1.desk row1 ch ≡ touched_of c row s → existed ≡ exists c s → goes ≡ (existed && is_idle ch) → goes ≡ is_reaped c row s
reaped_if c row row1 s s1 ch existed goes bench is tested =
    tested ∙ (ap (λ (e : Bool). e && is_idle ch) is ∙ ap (λ (b : Bench). exists c s && is_idle b.channel) bench)

line_is : (from r : ℕ) (info : Info) (e : Bool) → record { to = from; line = if e then DelAnswer r 200 (Some info) else DelAnswer r 404 None } ≡ (if e then delete_answer from r 200 (Some info) else delete_answer from r 404 None)
line_is from r info true = refl
line_is from r info false = refl

-- the line of an answer, by how the channel was found
abbrev line_by : ℕ → Bool → Channel → AlertLine
line_by r e ch = if e then DelAnswer r 200 (Some (info_of ch)) else DelAnswer r 404 None

answer_is : (from r : ℕ) (c : List ℕ) (row row1 : List (Slot Message)) (s s1 : OwnerAt) (ch : Channel) (existed : Bool) (line : AlertLine) → bench_from s1.desk row1 ch ≡ touched_of c row s → existed ≡ exists c s → line ≡ line_by r existed ch
    → record { to = from; line = line } ≡ delete_line from r c row s
answer_is from r c row row1 s s1 ch existed line bench is said =
    ap (λ (x : AlertLine). record { to = from; line = x }) (said ∙ (ap (λ (e : Bool). line_by r e ch) is ∙ ap (λ (b : Bench). line_by r (exists c s) b.channel) bench))
    ∙ line_is from r (info_of (touched_of c row s).channel) (exists c s)

-- the alerts of a removal, and behind them the answer
pub delete_told : {H : Type 0} → (from r : ℕ) (c : List ℕ) (row row1 : List (Slot Message)) (s s1 s2 : OwnerAt) (ch : Channel) (existed : Bool) (alert : Alert H) (before after : List (Outgoing H))
    → bench_from s1.desk row1 ch ≡ touched_of c row s → existed ≡ exists c s → s2 ≡ touch_after c row s → out_lines before ≡ alerts_of_removal existed c s2
    → alert_line alert ≡ (if existed then DelAnswer r 200 (Some (info_of ch)) else DelAnswer r 404 None) → after ≡ before ++ record { to = from; alert = alert } ∷ []
    → out_lines after ≡ delete_alerts from r c row s
delete_told {H} from r c row row1 s s1 s2 ch existed alert before after bench is touched gone said pushed =
    ap (λ (x : List (Outgoing H)). out_lines x) pushed
    ∙ (map-append out_line before (record { to = from; alert = alert } ∷ [])
    ∙ (ap (λ (x : List OutLine). x ++ record { to = from; line = alert_line alert } ∷ []) (gone ∙ same_removal (λ e x. alerts_of_removal e c x) existed (exists c s) s2 (touch_after c row s) is touched)
    ∙ ap (λ (x : OutLine). alerts_of_removal (exists c s) c (touch_after c row s) ++ x ∷ []) (answer_is from r c row row1 s s1 ch existed (alert_line alert) bench is said)))
