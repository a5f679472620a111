-- The members of a cycle of calls, with a measure: what one is proved from, and what it asks of a member that it calls, whose measure is below its own.
use Prim.Native.Nat.{ℕ, ◌<◌}
use mathlib.Core.List.{List}
use borrow.Fn.Kind.{ParamKind}
use borrow.Fn.Kinds.{In}
use borrow.Fn.PlainCycle.{Measures, is, falls, and}

abbrev pub at : (n : ℕ) (ps : List (ParamKind n)) → Measures n ps ℕ → In n ps → ℕ → In n ps
at n ps μ pre t = and n ps (is n ps μ t) pre

abbrev pub below : (n : ℕ) (ps : List (ParamKind n)) → Measures n ps ℕ → In n ps → ℕ → In n ps
below n ps μ pre t = and n ps (falls n ps ◌<◌ μ t) pre
