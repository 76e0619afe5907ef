-- `print::output::Output::put_all` meets its contract: the bytes are written at once. Assumes nothing.
use mathlib.Core.Path.{◌≡◌, ap, ◌∙◌, sym}
use Prim.Native.Nat.{ℕ}
use mathlib.Core.List.{List}
use native.Mathlib.Omega.{arith}
use borrow.Author.Rules.{rules}
use lib.ListN.{length}
use borrow.Rule.Slice.PartMut.{same_len_mid}
use Rattle.print.proofs.Laws.OutputLaws.{sets-at-once}
use Rattle.print.proofs.output.Output.put_all.Goals as goal

pub returns-clause-appended : goal.returns-clause-appended
returns-clause-appended g c =
    let long : length c.args.bytes ≡ g.row.N = search rules in
    record {
      written = record {
        buffer = sets-at-once _ _ _ _ _ c.requires.room long c.copy_from_slice.ensures.after;
        next = omega (arith, long);
        within = omega arith;
      };
      as_long = same_len_mid _ _ _ _ c.copy_from_slice.ensures.len;
    }
