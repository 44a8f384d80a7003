-- What holds of a layout that was checked. The limits are this project's own.
use Rattle.std.specs.Prelude.{◌*◌, ◌≤◌, length}
use Rattle.plane_view.specs.Shapes.{max_samples}
use Rattle.plane_view.specs.declared.Shape.{Shape}
use Rattle.dng_tags.specs.Layout.{segment_count}
use Rattle.dng_tags.specs.declared.layout.Cut.{Cut}
use Rattle.dng_tags.specs.declared.layout.Layout.{Layout}

-- sides of a segment
pub record HasSides (cut : Cut) : Type 0 where
  pub some_rows : 1 ≤ cut.rows
  pub rows : cut.rows ≤ 16384
  pub some_cols : 1 ≤ cut.cols
  pub cols : cut.cols ≤ 16384

-- a layout that was checked
pub record IsChecked (shape : Shape) (layout : Layout) : Type 0 where
  pub sides : HasSides layout.cut
  pub most : segment_count shape layout.cut ≤ 65536
  pub coded : layout.cut.rows * layout.cut.cols ≤ max_samples
  pub offsets : segment_count shape layout.cut ≤ length layout.offsets
  pub counts : segment_count shape layout.cut ≤ length layout.counts
