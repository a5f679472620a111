-- The search as a run over nodes that gives nothing: it goes on with the rows that are left, or stops with 16 after the most rows, of so many, with which a tree's
-- rows begin. So what is proved of runs serves it.
use Rattle.std.specs.Prelude.{ℕ, ◌-◌, List, []}
use Rattle.tree.specs.Rows.{Row}
use Rattle.tree.specs.Run.{Run, goes, refuse}
use Rattle.tree.specs.Search.{Fit, whole, stuck}

abbrev pub fit_run : ℕ → Fit → Run ℕ (List Row)
fit_run count (whole rest) = record { given = []; end = goes rest }
fit_run count (stuck left) = refuse 16 (count - left)
