use Rattle.std.proofs.Common.{◌≡◌, ℕ, ◌+◌, ◌<◌, get_or, length, take, subst, sym, arith, rules, List, min, max}
use Rattle.std.specs.List.{All}
use Rattle.std.proofs.lemmas.List.{take_all}
use Rattle.std.proofs.lemmas.List.Elements.{All-more, All-weaker}
use Rattle.plane_view.specs.declared.Rect.{Rect}
use Rattle.plane_view.specs.declared.Shape.{Shape}
use Rattle.plane_view.specs.Rectangles.{LiesIn, whole_rect}
use Rattle.stage_core.specs.Planes.{IsPart}
use Rattle.stage_deps.specs.Cells.{no_rect}
use Rattle.stage_deps.proofs.cells.hull.Goals as goal

-- a rectangle that goes as far as two
abbrev joined : Rect → Rect → Rect
joined a b = record {
  top = min a.top b.top;
  left = min a.left b.left;
  bottom = max a.bottom b.bottom;
  right = max a.right b.right;
}

all_more : (rects : List Rect) (i : ℕ) (hull grown : Rect) → i < length rects
    → grown ≡ joined hull (get_or rects i no_rect)
    → All (λ (r : Rect). LiesIn r hull) (take i rects) → All (λ (r : Rect). LiesIn r grown) (take (i + 1) rects)
all_more rects i hull grown within is before =
    let now : Rect = get_or rects i no_rect in
    let after : Rect = joined hull now in
    let held : All (λ (r : Rect). LiesIn r after) (take i rects) =
    All-weaker (λ (r : Rect). LiesIn r hull) (λ (r : Rect). LiesIn r after)
    (λ r in_hull. record { top = omega arith; bottom = omega arith; left = omega arith; right = omega arith })
    (take i rects) before in
    subst (λ (g : Rect). All (λ (r : Rect). LiesIn r g) (take (i + 1) rects)) (sym is)
    (All-more (λ (r : Rect). LiesIn r after) rects i no_rect within held
    (record { top = omega arith; bottom = omega arith; left = omega arith; right = omega arith }))

part_more : (hull now grown : Rect) (s : Shape) → grown ≡ joined hull now → IsPart now s
    → LiesIn hull (whole_rect s.rows s.cols) → LiesIn grown (whole_rect s.rows s.cols)
part_more hull now grown s is part lies =
    let inside = part.inside in
    subst (λ (g : Rect). LiesIn g (whole_rect s.rows s.cols)) (sym is)
    (record { top = omega arith; bottom = omega arith; left = omega arith; right = omega arith })

least_more : (hull now grown outer : Rect) → grown ≡ joined hull now → LiesIn now outer → LiesIn hull outer
    → LiesIn grown outer
least_more hull now grown outer is here so_far =
    subst (λ (g : Rect). LiesIn g outer) (sym is) (record {
      top = omega (arith, here.top, so_far.top);
      bottom = omega (arith, here.bottom, so_far.bottom);
      left = omega (arith, here.left, so_far.left);
      right = omega (arith, here.right, so_far.right);
    })

pub loop-rect-preserved : goal.loop-rect-preserved
loop-rect-preserved c =
    let rects : List Rect = c.args.rects.now in
    let i : ℕ = c.loop-rect.rect-index in
    let within : i < length rects = omega arith in
    record {
      all = all_more rects i c.loop-rect.hull _ within (search rules) c.loop-rect.invariant.all;
      least = λ outer inside. least_more c.loop-rect.hull (get_or rects i no_rect) _ outer (search rules)
          (inside i no_rect within) (c.loop-rect.invariant.least outer inside);
      part = λ s parts. part_more c.loop-rect.hull (get_or rects i no_rect) _ s (search rules) (parts i no_rect within)
          (c.loop-rect.invariant.part s parts);
    }

pub returns-clause-all : goal.returns-clause-all
returns-clause-all c =
    subst (λ (xs : List Rect). All (λ (r : Rect). LiesIn r c.loop-rect.hull) xs)
    (take_all c.loop-rect.rect-index c.args.rects.now (omega arith)) c.loop-rect.invariant.all

pub returns-clause-least : goal.returns-clause-least
returns-clause-least c = λ outer some inside. c.loop-rect.invariant.least outer inside
