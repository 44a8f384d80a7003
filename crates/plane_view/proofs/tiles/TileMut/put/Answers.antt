use Rattle.std.proofs.Common.{refl, arith}
use Rattle.plane_view.specs.Lent.{Lent}
use Rattle.plane_view.specs.Tiles.{loan}
use Rattle.plane_view.specs.Rectangles.{HasPixel}
use Rattle.plane_view.proofs.Writes.{pixel_in, put_here, put_elsewhere}
use Rattle.plane_view.proofs.tiles.TileMut.put.Goals as goal

pub returns-clause-loan : goal.returns-clause-loan
returns-clause-loan c =
    let t = c.args.self.now in
    let lent : Lent = loan t in
    let pixel : HasPixel t.home c.args.r c.args.c = pixel_in t.home t.rect c.args.r c.args.c t.inside c.requires.pixel
    in
    record {
      slice = refl;
      home = refl;
      planes = refl;
      rect = refl;
      outside = λ r c' p pixel' out plane.
          put_elsewhere lent c.args.r c.args.c c.args.p c.args.v r c' p pixel c.requires.plane pixel' plane
          (λ same_r same_c same_p. out (let here = c.requires.pixel in record {
            top = omega arith;
            bottom = omega arith;
            left = omega arith;
            right = omega arith;
          }));
    }

pub returns-clause-put : goal.returns-clause-put
returns-clause-put c =
    let t = c.args.self.now in
    let lent : Lent = loan t in
    let pixel : HasPixel t.home c.args.r c.args.c = pixel_in t.home t.rect c.args.r c.args.c t.inside c.requires.pixel
    in
    record {
      sample = put_here lent c.args.r c.args.c c.args.p c.args.v t.long pixel c.requires.plane;
      others = λ r' c' p' pixel' plane' other. put_elsewhere lent c.args.r c.args.c c.args.p c.args.v r' c' p' pixel
          c.requires.plane pixel' plane' other;
    }
