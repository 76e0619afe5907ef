-- `print::output::Output::write_kind` meets its contract: one law of Lines for each kind. Assumes nothing.
use mathlib.Core.Path.{◌≡◌, sym}
use mathlib.Core.Logic.{◌⊎◌, inl, inr}
use Prim.Native.Nat.{◌<◌}
use native.Mathlib.Omega.{arith}
use borrow.Author.Rules.{rules}
use Rattle.text.specs.Bytes.{bytes, tab}
use Rattle.print.proofs.Laws.OutputLaws.{appended_as, appended_then}
use Rattle.print.proofs.Laws.Lines.{kind-inner, kind-outer, kind-product, kind-none}
use Rattle.print.proofs.output.Output.write_kind.Goals as goal

pub returns-in-Ok-Inner-clause-appended : goal.returns-in-Ok-Inner-clause-appended
unfolding tab bytes
returns-in-Ok-Inner-clause-appended c =
    appended_as (sym (kind-inner _ (rw c.in-Ok-Inner.field-0-is at c.in-Ok-Inner.ensures))) (omega arith)
    (appended_then c.put.ensures.appended c.put-in-Ok-Inner.ensures.appended)

pub returns-in-Ok-Outer-clause-appended : goal.returns-in-Ok-Outer-clause-appended
unfolding tab bytes
returns-in-Ok-Outer-clause-appended c =
    appended_as (sym (kind-outer _ (rw c.in-Ok-Outer.field-0-is at c.in-Ok-Outer.ensures))) (omega arith)
    (appended_then c.put.ensures.appended c.put-in-Ok-Outer.ensures.appended)

pub returns-in-Ok-Product-clause-appended : goal.returns-in-Ok-Product-clause-appended
unfolding tab bytes
returns-in-Ok-Product-clause-appended c =
    appended_as (sym (kind-product _ (rw c.in-Ok-Product.field-0-is at c.in-Ok-Product.ensures))) (omega arith)
    (appended_then c.put.ensures.appended c.put-in-Ok-Product.ensures.appended)

pub returns-clause-appended : goal.returns-clause-appended
unfolding tab
returns-clause-appended c = appended_as (sym (kind-none _ (search rules))) (omega arith) c.put.ensures.appended

pub returns-2-clause-appended : goal.returns-2-clause-appended
unfolding tab
returns-2-clause-appended c = appended_as (sym (kind-none _ (search rules))) (omega arith) c.put.ensures.appended
