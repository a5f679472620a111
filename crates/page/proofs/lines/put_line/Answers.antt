-- Each column ends where the next begins, since a small row's numbers fit their columns.
use Rattle.std.proofs.Common.{◌≡◌, ◌+◌, ◌*◌, get_or, arith, ap, ◌∙◌}
use Rattle.tree.specs.Rows.{row_at}
use Rattle.page.specs.Lines.{column}
use Rattle.page.proofs.Fitting.{small_held}
use Rattle.page.proofs.Stores.{put_columns}
use Rattle.page.proofs.lines.put_line.Goals as goal

pub returns : goal.returns
unfolding row_at
returns c =
    let rows = c.args.rows.now in
    let i = c.args.i in
    let next : i + 2 + 1 ≡ i + 3 = omega arith in
    put_columns c.args.at c.args.address c.six.result c.six-2.result (row_at rows i) (small_held c.requires.2)
    (c.six.ensures ∙ ap (column 6) c.two_bytes.ensures.0)
    (c.six-2.ensures ∙ ap (column 6) (c.two_bytes-2.ensures.0 ∙ ap (λ j. get_or rows (i + 2) 0 + 256 * get_or rows j 0) next))
    _ _ _ _ _ _ _ _
    c.put_six.ensures
    c.put_six-2.ensures
    c.put_six-3.ensures
    c.put_side.ensures
    c.put_side-2.ensures
    c.put_depth.ensures
    c.put_depth-2.ensures
