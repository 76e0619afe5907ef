-- Refusals, each by the number of the question that was answered no: document 01, "Questions, in order", and document 02, items 4 and 6.
-- Specification 9.1, 9.3 to 9.15. Assumes nothing.
use Rattle.std.specs.Prelude.{ℕ, Result, Ok, Err}
use Rattle.std.proofs.Math.Option.{Option, none, some}
use Rattle.vocabulary.specs.declared.refusal.Refusal.{Refusal}
use Rattle.vocabulary.specs.declared.refusal.Refusal.TheVariants as refusal

-- the number of a refusal's question. Specification 9.1
abbrev pub question_of : Refusal → ℕ
question_of refusal.LentMemory = 1
question_of refusal.Form = 2
question_of refusal.Tables = 3
question_of refusal.Cells = 4
question_of refusal.Joins = 5
question_of refusal.Conditions = 6
question_of refusal.Crossing = 7
question_of refusal.Order = 9
question_of refusal.Results = 11
question_of refusal.KeyColumns = 12
question_of refusal.AllConditions = 13

-- the number that an answer gives, if it is a refusal. Specification 9.1
unfoldable pub number_in : {A : Type 0} → Result A Refusal → Option ℕ
number_in (Ok a) = none
number_in (Err e) = some (question_of e)
