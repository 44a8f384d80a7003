-- Tiles: parts of planes lent for writing. This is this project's own.
use Rattle.std.specs.Prelude.{◌≡◌, ℕ, ◌*◌, ◌<◌, List, take, drop}
use Rattle.std.specs.Borrow.{GName}
use Rattle.plane_view.specs.declared.Rect.{Rect}
use Rattle.plane_view.specs.declared.tiles.TileMut.{TileMut}
use Rattle.plane_view.specs.Rectangles.{HasPixel, width}
use Rattle.plane_view.specs.Lent.{Lent, place_in, sample_at}

-- all that was lent: the whole slice, over the rectangle that it was lent for
abbrev pub loan : TileMut → Lent
loan t = record { rect = t.home; planes = t.planes; samples = t.samples.now }

-- the rectangle that the tile writes
abbrev pub tile_rect : TileMut → Rect
tile_rect t = t.rect

-- which slice was lent
abbrev pub lent_name : TileMut → GName
lent_name t = t.samples.ghost_name

-- the tile still lends the same slice over the same rectangles, and the samples outside its own rectangle stay
pub record SameLoan (old new : TileMut) : Type 0 where
  pub slice : lent_name new ≡ lent_name old
  pub home : (loan new).rect ≡ (loan old).rect
  pub planes : (loan new).planes ≡ (loan old).planes
  pub rect : tile_rect new ≡ tile_rect old
  pub outside : (r c p : ℕ) → HasPixel (loan old).rect r c → (HasPixel (tile_rect old) r c → ⊥) → p < (loan old).planes
      → sample_at (loan new) r c p ≡ sample_at (loan old) r c p

-- the sample at row r, column c of plane p is v, and the others stay
pub record PutsSample (old new : Lent) (r c p v : ℕ) : Type 0 where
  pub sample : sample_at new r c p ≡ v
  pub others : (r' c' p' : ℕ) → HasPixel old.rect r' c' → p' < old.planes → (r' ≡ r → c' ≡ c → p' ≡ p → ⊥)
      → sample_at new r' c' p' ≡ sample_at old r' c' p'

-- the samples of row r of a rectangle, the planes of a pixel side by side
abbrev pub row_in : Lent → Rect → ℕ → List ℕ
row_in L rect r = take (width rect * L.planes) (drop (place_in L.rect L.planes r rect.left 0) L.samples)

-- the samples that are not in row r of the rectangle stay
abbrev pub KeepsOtherRows : (old new : Lent) → Rect → ℕ → Type 0
KeepsOtherRows old new rect r =
    (r' c p : ℕ) → HasPixel old.rect r' c → p < old.planes → (r' ≡ r → HasPixel rect r' c → ⊥)
    → sample_at new r' c p ≡ sample_at old r' c p

-- the samples of the rectangle's pixels that are in the other part are those of it, and the others stay
pub record CopiesFrom (old new from : Lent) (rect : Rect) : Type 0 where
  pub copied : (r c p : ℕ) → HasPixel rect r c → HasPixel from.rect r c → p < old.planes
      → sample_at new r c p ≡ sample_at from r c p
  pub others : (r c p : ℕ) → HasPixel old.rect r c → (HasPixel rect r c → HasPixel from.rect r c → ⊥) → p < old.planes
      → sample_at new r c p ≡ sample_at old r c p
