-- The numbers of refusals, as the papers name them.
use Rattle.std.specs.Prelude.{ℕ}
use Rattle.refusals.specs.declared.Reason.{Reason}
use Rattle.refusals.specs.declared.Reason.TheVariants as reason
use Rattle.refusals.specs.declared.Refusal.{Refusal}

-- the number of a reason; 1 to 9 are the settings' of document 01, 10 to 17 a unit's, 20 to 22 a session's, 23 and above document 02's
abbrev pub number : Reason → ℕ
number reason.CtuSide = 1
number reason.SmallestBlock = 2
number reason.SmallestQuad = 3
number reason.MttDepth = 4
number reason.GreatestBinary = 5
number reason.GreatestTernary = 6
number reason.Width = 7
number reason.Height = 8
number reason.EdgeMultiple = 9
number reason.Address = 10
number reason.FlagMissing = 11
number reason.FlagValue = 12
number reason.FlagsLeft = 13
number reason.RowRoom = 14
number reason.RowBytes = 15
number reason.NoTree = 16
number reason.FlagRoom = 17
number reason.Complete = 20
number reason.NotDue = 21
number reason.NoSession = 22
number reason.PageRoom = 23
number reason.RowsMissing = 27
number reason.RowsLeft = 28
number reason.QuadCtuSide = 34
number reason.QuadSmallestBlock = 35
number reason.Allowance = 36
number reason.NoAccount = 37
number reason.Overdrawn = 38

-- a refusal, by its reason and its place
abbrev pub refusal : Reason → ℕ → Refusal
refusal reason place = record { reason = reason; place = place }
