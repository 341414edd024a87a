use Rattle.std.proofs.Common.{Err, Ok, ◌∙◌, ap, refl, subst, sym}
use Rattle.array_edge.specs.Script.{HasMet, HasRun, IsWithinHits, script_over}
use Rattle.io_edge.specs.Sink.{Joins}
use Rattle.rest_array.specs.Rest.{CountsOn}
use Rattle.whole_run.specs.Course.{IsGoing}
use Rattle.whole_run.specs.declared.run.Stop.TheVariants.{Before}
use Rattle.whole_run.proofs.Behind.{stops_before}
use Rattle.world.specs.Runs.{Boots}
use Rattle.cqmmc_top.specs.Command.{RunAnswers}
use Rattle.cqmmc_top.specs.Concludes.{GoesOn}
use Rattle.cqmmc_top.proofs.Begun.{behind}
use Rattle.cqmmc_top.proofs.Served.{answers}
use Rattle.cqmmc_top.proofs.run.serve_over.Goals as goal

pub serve_behind-ended-requires-clause-going : goal.serve_behind-ended-requires-clause-going
serve_behind-ended-requires-clause-going g c =
    let new = c.requires.new in
    let boots = c.in_default.ensures.boots new.plan new.faults new.valid new.coming new.fresh in
    subst (λ script. IsGoing c.boot.new.self (script_over g.A.Array.state script)) (sym c.back-2.ensures.script) (record { ready = boots.ready; prompt = boots.prompt })

pub returns-in-Err : goal.returns-in-Err
returns-in-Err g c = λ requests fault_text first first' second second' ready.
    let both : Joins g.K.Sink.took = record { join = g.met.K.Sink.took_both } in
    let run = c.boot.new.array in
    let boots =
    subst (λ script. Boots g.K.Sink.took ready.plan ready.faults (script_over g.A.Array.state script) c.args.out.now (Err c.in-Err.halt) c.boot.new.self (script_over g.A.Array.state run) c.boot.new.out)
    (c.over-run.ensures ∙ c.over.ensures)
    (c.in-Err.ensures.boots ready.plan ready.faults ready.requests_mean.valid (record { hits = ready.faults_mean.valid.bus; small = ready.faults_mean.valid.hits }) ready.fresh) in
    let runs = stops_before g.K.Sink.took ready.plan ready.faults _ c.args.out.now c.boot.new.self (script_over g.A.Array.state run) c.boot.new.out c.in-Err.halt boots in
    let hits = c.back.ensures.hits ∙ (sym c.requires.hits ∙ ready.hits) in
    let within =
    subst (λ hits. IsWithinHits hits run.faults run.cuts run.programs run.fetches) hits
    (subst (λ script. IsWithinHits script.hits script.faults script.cuts script.programs script.fetches) c.back.ensures.script c.back-in-Err.ensures.within) in
    let ran =
    subst (λ start. HasRun start (g.A.Array.state run.inner) ready.faults.array run.programs run.fetches) (sym c.requires.start)
    (subst (λ hits. HasRun g.S.RunStart.start (g.A.Array.state run.inner) hits run.programs run.fetches) hits c.back.ensures.run) in
    let met =
    subst (λ start. HasMet start (g.A.Array.state run.inner) ready.faults.array run.faults run.cuts run.programs run.fetches) (sym c.requires.start)
    (subst (λ hits. HasMet g.S.RunStart.start (g.A.Array.state run.inner) hits run.faults run.cuts run.programs run.fetches) hits c.back.ensures.met) in
    subst (λ array. RunAnswers g.K.Sink.took g.K.Sink.faults requests first first' fault_text second second' (g.A.Array.state c.args.array) (g.A.Array.state array) c.args.out.now c.conclude-status.result c.hand_back.result c.conclude-status.new.out)
    (sym (c.back-in-Err.ensures.inner ∙ ap (λ script. script.inner) c.back.ensures.script))
    (answers g.K.Sink.took both g.K.Sink.faults c.acceptance_takes_whole_runs.ensures.whole c.acceptance_takes_whole_runs.ensures.written c.requests_are_answered.ensures.each requests fault_text first first' second second' ready.plan ready.faults ready.requests_mean
    ready.faults_mean (g.A.Array.state c.args.array) (g.A.Array.state run.inner) run.powered run.faults run.cuts run.programs run.fetches within ran c.args.out.now c.boot.new.out c.conclude-status.new.out
    c.boot.ensures.faults c.boot.new.self c.conclude-status.result c.hand_back.result c.hand_back.ensures.well c.hand_back.ensures.other (Err (Before c.in-Err.halt)) (met, boots.openings) runs c.conclude-status.ensures
    c.in-Err.ensures.failed)

pub returns : goal.returns
returns g c = λ requests fault_text first first' second second' ready.
    let both : Joins g.K.Sink.took = record { join = g.met.K.Sink.took_both } in
    let state = g.A.Array.state in
    let mid = c.boot.new.array in
    let script = c.serve_behind-ended.result.1 in
    let boots =
    subst (λ script. Boots g.K.Sink.took ready.plan ready.faults (script_over state script) c.args.out.now (Ok tt) c.boot.new.self (script_over state mid) c.boot.new.out)
    (c.over-run.ensures ∙ c.over.ensures)
    (c.in_default.ensures.boots ready.plan ready.faults ready.requests_mean.valid (record { hits = ready.faults_mean.valid.bus; small = ready.faults_mean.valid.hits }) ready.fresh) in
    let went =
    subst (λ script. GoesOn g.K.Sink.took c.boot.new.self (script_over state script) c.boot.new.out c.serve_behind-ended.result.0 c.serve_behind-ended.new.world (script_over state c.serve_behind-ended.result.1) c.serve_behind-ended.new.out)
    c.back-2.ensures.script c.serve_behind-ended.ensures.went in
    let mid_hits = c.back-2.ensures.hits ∙ (sym c.requires.hits ∙ ready.hits) in
    let ran_mid =
    subst (λ start. HasRun start (state mid.inner) ready.faults.array mid.programs mid.fetches) (sym c.requires.start)
    (subst (λ hits. HasRun g.S.RunStart.start (state mid.inner) hits mid.programs mid.fetches) mid_hits c.back-2.ensures.run) in
    let met_mid =
    subst (λ start. HasMet start (state mid.inner) ready.faults.array mid.faults mid.cuts mid.programs mid.fetches) (sym c.requires.start)
    (subst (λ hits. HasMet g.S.RunStart.start (state mid.inner) hits mid.faults mid.cuts mid.programs mid.fetches) mid_hits c.back-2.ensures.met) in
    let hits = c.serve_behind-ended.ensures.hits ∙ (ap (λ script. script.hits) c.back-2.ensures.script ∙ mid_hits) in
    let within = subst (λ hits. IsWithinHits hits script.faults script.cuts script.programs script.fetches) hits c.back-3.ensures.within in
    let ran =
    subst (λ start. HasRun start (state script.inner) ready.faults.array script.programs script.fetches) (sym c.requires.start)
    (subst (λ hits. HasRun g.S.RunStart.start (state script.inner) hits script.programs script.fetches) hits c.serve_behind-ended.ensures.run) in
    let on = subst (λ moment. CountsOn (state moment.inner) (state script.inner)) c.back-2.ensures.script c.serve_behind-ended.ensures.on in
    subst (λ array. RunAnswers g.K.Sink.took g.K.Sink.faults requests first first' fault_text second second' (state c.args.array) (state array) c.args.out.now c.conclude-status-2.result c.hand_back-2.result c.conclude-status-2.new.out)
    (sym c.back-3.ensures.inner)
    (behind g.K.Sink.took both g.K.Sink.faults c.acceptance_takes_whole_runs.ensures.whole c.acceptance_takes_whole_runs.ensures.written c.requests_are_answered.ensures.each requests fault_text first first' second second' ready.plan ready.faults ready.requests_mean
    ready.faults_mean (state c.args.array) (state mid.inner) mid.powered mid.faults mid.cuts mid.programs mid.fetches ran_mid met_mid (state script.inner) script.powered script.faults script.cuts script.programs script.fetches within ran on
    c.args.out.now c.boot.new.out c.serve_behind-ended.new.out c.conclude-status-2.new.out c.boot.ensures.faults c.serve_behind-ended.ensures.faults c.boot.new.self c.serve_behind-ended.new.world c.conclude-status-2.result c.hand_back-2.result
    c.hand_back-2.ensures.well c.hand_back-2.ensures.other boots c.serve_behind-ended.result.0 went c.conclude-status-2.ensures c.serve_behind-ended.ensures.failed)
