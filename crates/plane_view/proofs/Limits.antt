-- The constants of the code are the limits of the definitions.
use Rattle.std.proofs.Common.{◌≡◌, refl}
use Rattle.plane_view.specs.declared.TheConstants.{MAX_SIDE, MAX_SAMPLES, MAX_PLANES}
use Rattle.plane_view.specs.Shapes.{max_side, max_samples, max_planes}

side : MAX_SIDE ≡ max_side
side = refl

samples : MAX_SAMPLES ≡ max_samples
samples = refl

planes : MAX_PLANES ≡ max_planes
planes = refl
