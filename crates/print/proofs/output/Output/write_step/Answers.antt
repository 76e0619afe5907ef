-- `print::output::Output::write_step` meets its contract: one law of Lines for each kind. Assumes nothing.
use mathlib.Core.Path.{◌≡◌, sym}
use native.Mathlib.Omega.{arith}
use Rattle.text.specs.Bytes.{bytes}
use Rattle.print.proofs.Laws.OutputLaws.{appended_as}
use Rattle.print.proofs.Laws.Lines.{blanking-line, best-match-line, no-kind-line}
use Rattle.print.proofs.output.Output.write_step.Goals as goal

pub returns-in-Ok-Blanking-clause-appended : goal.returns-in-Ok-Blanking-clause-appended
unfolding bytes
returns-in-Ok-Blanking-clause-appended c =
    appended_as (sym (blanking-line c.args.s (sym (rw c.in-Ok-Blanking.field-0-is at c.in-Ok-Blanking.ensures)))) (omega arith) c.write_table.ensures.appended

pub returns-in-Ok-BestMatch-clause-appended : goal.returns-in-Ok-BestMatch-clause-appended
returns-in-Ok-BestMatch-clause-appended c =
    let five : 5 ≡ c.args.s.kind = rw c.in-Ok-BestMatch.field-0-is at c.in-Ok-BestMatch.ensures in
    appended_as (sym (best-match-line c.args.s (omega (arith, five)) (λ (e : c.args.s.kind ≡ 4). omega (arith, five, e)))) (omega arith) c.write_best_match.ensures.appended

pub returns-in-Err-2-clause-appended : goal.returns-in-Err-2-clause-appended
returns-in-Err-2-clause-appended c =
    appended_as (sym (no-kind-line c.args.s c.in-Err.ensures c.if-s-eq0.false)) (omega arith) c.write_best_match-in-Err-2.ensures.appended
