-- The segments of a frame as a plane that is fetched cell by cell. This is this project's own.
use Rattle.std.specs.Prelude.{ℕ, List, map}
use Rattle.plane_view.specs.Plane.{Plane}
use Rattle.plane_view.specs.declared.Rect.{Rect}
use Rattle.dng_tags.specs.declared.record.Segment.{Segment}

-- what contracts see of opened segments: the raw plane, the rectangles of its cells, and how many cells were fetched
pub record OpenedSegments : Type 0 where
  pub plane : Plane
  pub cells : List Rect
  pub fetches : ℕ

-- the rectangles of segments
abbrev pub rects_of : List Segment → List Rect
rects_of segments = map (λ segment. segment.rect) segments
