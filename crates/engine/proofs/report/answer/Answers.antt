-- `engine::report::answer` meets its contract: the first question that is answered no, or the run of what was made ready. Assumes nothing.
use lib.ListN.{length}
use Rattle.std.proofs.lemmas.Result.{err_from_is_err_and}
use Rattle.engine.specs.Inner.Planning.{concluded_in}
use Rattle.engine.proofs.Laws.ReportCode.{parts, prepared-refused, prepared-within, prepared-run}
use Rattle.engine.proofs.report.answer.Goals as goal

pub returns-in_err-ready : goal.returns-in_err-ready
unfolding concluded_in
returns-in_err-ready c =
    let p = err_from_is_err_and c.from_residual.result c.from_residual.ensures.1 in
    let room = parts c.args.text.now c.args.cells.now c.args.work.now c.args.res.now c.args.steps.now c.requires in
    rw (p.1, p.2) (prepared-refused room.0 c.args.res.now c.in_err-ready.ensures)

pub hand_over-requires : goal.hand_over-requires
hand_over-requires c = prepared-within c.in_ok-ready.ensures

pub returns : goal.returns
returns c =
    let room = parts c.args.text.now c.args.cells.now c.args.work.now c.args.res.now c.args.steps.now c.requires in
    let run = rw (c.put_plan.ensures, c.start-start.ensures) at c.run_over-end.ensures.1 in
    prepared-run room.0 (length c.args.steps.now) room.3 room.1 room.2 c.in_ok-ready.ensures run c.hand_over.ensures
