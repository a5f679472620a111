-- P1 to P10, and R-5's examples, hold: antt computes each.
use mathlib.Core.Path.{refl}
use lib.Count.{count_trailing_zeros, ones, ones_in}
use Rattle.settings.specs.Checks.{settings_refusal}
use Rattle.settings.specs.Units.{units_over, count_in, refusal_at, square_in, located_by}
use Rattle.tree.specs.Splits.{binary_closed, binary_open, ternary_open, rights_of}
use Rattle.tree.specs.Flags.{flag_at, after_binary, after_vertical, after_quad, after_split, decide}
use Rattle.tree.specs.Children.{shares, child_qt, child_mtt, child_offset, child, children_from, children, corner_inside}
use Rattle.tree.specs.Rows.{row_of, own_rows, row_bytes, table_bytes, row_at, rows_at}
use Rattle.tree.specs.Run.{before, go_on, over_all}
use Rattle.tree.specs.Reading.{enter, walk}
use Rattle.tree.specs.Back.{back, decision_from, cut_from, starts_after, is_same_row, back_into, back_with}
use Rattle.tree.specs.Search.{fit_then, better, fit_rows, fit_all, fit_by, fit_any, fit}
use Rattle.unit.specs.Answers.{deliver, finish_end}
use Rattle.unit.specs.Reader.{none_after, rows_from, read_tree, read_located}
use Rattle.unit.specs.Writer.{fit_end, flags_from, test_rows, test_located, write_located}
use Rattle.unit.specs.Cases.{Checked}

pub checked : Checked
unfolding count_trailing_zeros ones ones_in settings_refusal units_over count_in refusal_at square_in located_by binary_closed binary_open ternary_open rights_of flag_at after_binary after_vertical after_quad after_split decide shares child_qt child_mtt child_offset child children_from children corner_inside row_of own_rows row_bytes table_bytes row_at rows_at before go_on over_all enter walk back decision_from cut_from starts_after is_same_row back_into back_with fit_then better fit_rows fit_all fit_by fit_any fit deliver finish_end none_after rows_from read_tree read_located fit_end flags_from test_rows test_located write_located
checked = record {
  p1 = refl;
  p2 = refl;
  p2_bytes = refl;
  p3 = refl;
  p4 = refl;
  p5 = refl;
  p6 = refl;
  p7 = refl;
  p8 = λ buffer. refl;
  p9 = λ buffer. refl;
  p10 = λ buffer. refl;
  p2_exchanged = λ buffer. refl;
  p2_short = λ buffer. refl;
  p2_long = λ buffer. refl;
}
