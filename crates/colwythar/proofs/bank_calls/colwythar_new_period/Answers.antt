use Rattle.std.proofs.Common.{rules}
use Rattle.std.proofs.lemmas.List.Edits.{map_over_more}
use Rattle.bank.specs.Accounts.{cleared}
use Rattle.colwythar.proofs.bank_calls.colwythar_new_period.Goals as goal

pub loop-a-preserved : goal.loop-a-preserved
loop-a-preserved c = search (rules, map_over_more cleared)
