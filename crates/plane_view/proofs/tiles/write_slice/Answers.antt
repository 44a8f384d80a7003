use Rattle.std.proofs.Common.{rules, ◌≡◌, ℕ, List, ◌∙◌, ap, subst, sym}
use Rattle.std.specs.Borrow.{MutBor}
use Rattle.plane_view.specs.declared.Rect.{Rect}
use Rattle.plane_view.specs.Lent.{Lent}
use Rattle.plane_view.specs.Rows.{WritesRows}
use Rattle.plane_view.specs.Tiles.{loan, tile_rect}
use Rattle.plane_view.proofs.Loans.{slice_written}
use Rattle.plane_view.proofs.tiles.write_slice.Goals as goal

-- calls that write the rows of a rectangle write those of the tile over it
written_rows : (calls : ℕ → MutBor (List ℕ) → MutBor (List ℕ) → Type 0) (rect tile : Rect) (planes n : ℕ)
    (f : ℕ → ℕ → ℕ → ℕ) → rect ≡ tile → planes ≡ n → WritesRows calls rect planes f → WritesRows calls tile n f
written_rows calls rect tile planes n f same_rect same_planes writes =
    subst (λ (x : Rect). WritesRows calls x n f) same_rect
    (subst (λ (m : ℕ). WritesRows calls rect m f) same_planes writes)

pub returns : goal.returns
returns g c f writes =
    let first = c.new.result in
    let lent : loan first ≡ record { rect = c.args.rect; planes = c.args.planes; samples = c.args.samples.now } =
    c.new.ensures.lent in
    let rect : c.args.rect ≡ tile_rect first = sym c.new.ensures.rect in
    let planes : c.args.planes ≡ (loan first).planes = sym (ap (λ (L : Lent). L.planes) lent) in
    let has = c.write_rows.ensures.rows f
    (written_rows _ c.args.rect (tile_rect first) c.args.planes (loan first).planes f rect planes writes) in
    (search rules) ∙ slice_written f first c.write_rows.new.self _ lent c.new.ensures.rect c.write_rows.ensures.loan has
