use Rattle.std.proofs.Common.{inl, inr, map}
use Rattle.std.specs.Prelude.{string_bytes}
use Rattle.nc_replay.proofs.Always.{EndsOnce, misconfigured-always, refused-always, worn-always, passed-always, rejected-always, must-be-short, load-always, is_replay, is_check, is_run, is_load, untouched_by, as_usage}
use Rattle.nc_replay.proofs.command.top.Goals as goal

pub returns-clause-passed_always : goal.returns-clause-passed_always
returns-clause-passed_always g c =
    let words = map string_bytes c.args.words.now in
    let read = c.task_of.ensures in
    let run = c.run.ensures in
    λ is. passed-always (record { both = c.one_configuration.ensures.both; fails = c.one_end.ensures.passed; wears = c.one_end.ensures.unworn; either = c.one_end.ensures.either }) 0 c.run.result _ _ _ _ _ _ (record {
      status = run.status;
      passed = run.passed (is_replay words c.task_of.result read is);
      command = λ two. as_usage words c.task_of.result read (run.usage two).0 (inl is);
      refused = run.refused (is_replay words c.task_of.result read is);
      misconfigured = run.misconfigured (is_replay words c.task_of.result read is);
      worn = run.worn (is_replay words c.task_of.result read is);
    })

pub returns-clause-refused_always : goal.returns-clause-refused_always
returns-clause-refused_always g c =
    let words = map string_bytes c.args.words.now in
    let read = c.task_of.ensures in
    let run = c.run.ensures in
    λ is. refused-always (record { both = c.one_configuration.ensures.both; fails = c.one_end.ensures.passed; wears = c.one_end.ensures.unworn; either = c.one_end.ensures.either }) 0 c.run.result _ _ _ _ _ _ (record {
      status = run.status;
      passed = run.passed (is_replay words c.task_of.result read is);
      command = λ two. as_usage words c.task_of.result read (run.usage two).0 (inl is);
      refused = run.refused (is_replay words c.task_of.result read is);
      misconfigured = run.misconfigured (is_replay words c.task_of.result read is);
      worn = run.worn (is_replay words c.task_of.result read is);
    })

pub returns-clause-worn_always : goal.returns-clause-worn_always
returns-clause-worn_always g c =
    let words = map string_bytes c.args.words.now in
    let read = c.task_of.ensures in
    let run = c.run.ensures in
    λ is. worn-always (record { both = c.one_configuration.ensures.both; fails = c.one_end.ensures.passed; wears = c.one_end.ensures.unworn; either = c.one_end.ensures.either }) 0 c.run.result _ _ _ _ _ _ (record {
      status = run.status;
      passed = run.passed (is_replay words c.task_of.result read is);
      command = λ two. as_usage words c.task_of.result read (run.usage two).0 (inl is);
      refused = run.refused (is_replay words c.task_of.result read is);
      misconfigured = run.misconfigured (is_replay words c.task_of.result read is);
      worn = run.worn (is_replay words c.task_of.result read is);
    })

pub returns-clause-misconfigured_always : goal.returns-clause-misconfigured_always
returns-clause-misconfigured_always g c =
    let words = map string_bytes c.args.words.now in
    let read = c.task_of.ensures in
    let run = c.run.ensures in
    λ is. misconfigured-always (record { both = c.one_configuration.ensures.both; fails = c.one_end.ensures.passed; wears = c.one_end.ensures.unworn; either = c.one_end.ensures.either }) 0 c.run.result _ _ _ _ _ _ (record {
      status = run.status;
      passed = run.passed (is_replay words c.task_of.result read is);
      command = λ two. as_usage words c.task_of.result read (run.usage two).0 (inl is);
      refused = run.refused (is_replay words c.task_of.result read is);
      misconfigured = run.misconfigured (is_replay words c.task_of.result read is);
      worn = run.worn (is_replay words c.task_of.result read is);
    })

pub returns-clause-rejected_always : goal.returns-clause-rejected_always
returns-clause-rejected_always g c =
    let words = map string_bytes c.args.words.now in
    let read = c.task_of.ensures in
    let run = c.run.ensures in
    λ is. rejected-always c.one_configuration.ensures.text c.run.result _ _ _ _ _ _ run.status
    (run.accepted (is_check words c.task_of.result read is))
    (λ two. as_usage words c.task_of.result read (run.usage two).0 (inr (inl is)))
    (run.unrefused (is_check words c.task_of.result read is)).0
    (run.unrefused (is_check words c.task_of.result read is)).1

pub returns-clause-too_long_always : goal.returns-clause-too_long_always
returns-clause-too_long_always g c =
    let words = map string_bytes c.args.words.now in
    let read = c.task_of.ensures in
    λ is. must-be-short c.run.result _ _ _ _
    (c.run.ensures.whole (is_run words c.task_of.result read is))
    c.run.ensures.unread_left

pub returns-clause-whole : goal.returns-clause-whole
returns-clause-whole g c =
    let words = map string_bytes c.args.words.now in
    let read = c.task_of.ensures in
    λ is. c.run.ensures.whole (is_run words c.task_of.result read is)

pub returns-clause-reads : goal.returns-clause-reads
returns-clause-reads g c = λ is. c.run.ensures.reads (is_run (map string_bytes c.args.words.now) c.task_of.result c.task_of.ensures is)

pub returns-clause-untouched : goal.returns-clause-untouched
returns-clause-untouched g c = untouched_by (map string_bytes c.args.words.now) c.task_of.result _ c.task_of.ensures c.run.ensures.untouched (λ seed size is. (c.run.ensures.loaded seed size is).0)

pub returns-clause-loaded : goal.returns-clause-loaded
returns-clause-loaded g c = λ seed size is. (c.run.ensures.loaded seed size (is_load (map string_bytes c.args.words.now) c.task_of.result seed size c.task_of.ensures is)).1

pub returns-clause-loaded_always : goal.returns-clause-loaded_always
returns-clause-loaded_always g c = λ seed size is.
    load-always (record { both = c.one_configuration.ensures.both; fails = c.one_end.ensures.passed; wears = c.one_end.ensures.unworn; either = c.one_end.ensures.either }) c.run.result seed size _ _ c.run.ensures.status
    (c.run.ensures.loaded seed size (is_load (map string_bytes c.args.words.now) c.task_of.result seed size c.task_of.ensures is)).1

pub returns-clause-worn : goal.returns-clause-worn
returns-clause-worn g c = λ is. c.run.ensures.worn (is_replay (map string_bytes c.args.words.now) c.task_of.result c.task_of.ensures is)
