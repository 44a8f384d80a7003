use Rattle.std.proofs.Common.{rules, ◌≡◌, ℕ, ◌+◌, ◌-◌, zero-add, List, ◌∙◌, ap}
use Rattle.std.proofs.Math.Nat.{sub-zero}
use Rattle.plane_view.specs.declared.Rect.{Rect}
use Rattle.plane_view.specs.Lent.{Lent, lent_of, sample_at}
use Rattle.plane_view.specs.Rectangles.{whole_rect}
use Rattle.plane_view.specs.Plane.{sample, samples_of}
use Rattle.malvar.specs.Demosaic.{malvar, demosaiced_at}
use Rattle.malvar.specs.Mosaics.{colours_of}
use Rattle.malvar.proofs.planes.whole.Goals as goal

-- the samples over the rectangle of a whole plane
whole_samples : (rows cols planes : ℕ) (f : ℕ → ℕ → ℕ → ℕ)
    → samples_of (rows - 0) (cols - 0) planes (λ r c p. f (0 + r) (0 + c) p) ≡ samples_of rows cols planes f
whole_samples rows cols planes f = simp (sub-zero, zero-add)

-- a whole plane, lent
abbrev lent_whole : (rows cols : ℕ) → List ℕ → Lent
lent_whole rows cols samples = record { rect = whole_rect rows cols; planes = 1; samples = samples }

same_sample : (rows cols : ℕ) (xs : List ℕ) (r c p : ℕ) → sample_at (lent_whole rows cols xs) r c p
    ≡ sample (record { rows = rows; cols = cols; planes = 1; samples = xs }) r c p
same_sample rows cols xs r c p = simp sub-zero

pub returns : goal.returns
returns c =
    let rows = c.args.rows in
    let cols = c.args.cols in
    let xs = c.args.plane.now in
    let V : Lent = c.new-input.result in
    let f : List ℕ → (ℕ → ℕ → ℕ → ℕ) → ℕ → ℕ → ℕ → ℕ = λ cfa at. demosaiced_at malvar cfa rows cols at in
    let g = f (colours_of c.new-pattern.result) (sample_at V) in
    let view : V ≡ lent_whole rows cols xs = c.new-input.ensures
    ∙ ap (λ (x : Rect). record { rect = x; planes = 1; samples = xs }) c.rect-all.ensures in
    c.write_slice.ensures g (λ r old new row long_old long_new called. search rules)
    ∙ ap (λ (x : Rect). (lent_of x 3 g).samples) c.rect-all.ensures
    ∙ whole_samples rows cols 3 g
    ∙ ap (λ (cfa : List ℕ). samples_of rows cols 3 (f cfa (sample_at V))) c.new-pattern.ensures
    ∙ ap (λ (L : Lent). samples_of rows cols 3 (f c.args.cfa (sample_at L))) view
    ∙ (λ i. samples_of rows cols 3 (f c.args.cfa (λ r k p. same_sample rows cols xs r k p i)))
