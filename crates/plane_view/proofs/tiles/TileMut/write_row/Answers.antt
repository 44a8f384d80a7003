use Rattle.std.proofs.Common.{◌≡◌, ◌+◌, ◌-◌, ◌*◌, List, ℕ, length, take, drop, refl, sym, ◌∙◌, subst, arith, rules}
use borrow.Rule.Slice.PartMut.{put_mid}
use Rattle.std.proofs.lemmas.List.{length-take-le, length-drop}
use Rattle.std.specs.Fn.{FnOnceReturnsAtMut}
use Rattle.plane_view.specs.Rectangles.{width}
use Rattle.plane_view.specs.Lent.{HasRowPart, place_in}
use Rattle.plane_view.specs.Tiles.{loan, row_in}
use Rattle.plane_view.specs.inner.RowParts.{PutsRowPart}
use Rattle.plane_view.proofs.Writes.{row_part_outside, row_part_put, row_written, with_samples}
use Rattle.plane_view.proofs.tiles.TileMut.write_row.Goals as goal

pub write-requires : goal.write-requires
write-requires g c =
    let t = c.args.self.now in
    let start : ℕ = c.row_part_at-start.result.0 in
    let len : ℕ = c.row_part_at-start.result.1 in
    let same_len : start + len - start ≡ width t.rect * t.planes = omega arith in
    let now : take (start + len - start) (drop start t.samples.now) ≡ row_in (loan t) t.rect c.args.r =
    rw (same_len, c.row_part_at-start.ensures.start) refl in
    let long : length (take (start + len - start) (drop start t.samples.now)) ≡ width t.rect * t.planes =
    length-take-le (start + len - start) (drop start t.samples.now) (omega (arith, length-drop start t.samples.now))
    ∙ same_len in
    search (rules, now, long)

pub returns-clause-loan : goal.returns-clause-loan
returns-clause-loan g c =
    let t = c.args.self.now in
    let ws : List ℕ = c.write.new.arg2 in
    let start : ℕ = c.row_part_at-start.result.0 in
    let len : start + c.row_part_at-start.result.1 - start ≡ width t.rect * t.planes = omega arith in
    let long : length ws ≡ width t.rect * t.planes =
    c.write.auto.arg2 ∙ length-take-le _ (drop start t.samples.now) (omega (arith, length-drop start t.samples.now))
    ∙ len in
    let row_part : HasRowPart t.rect c.args.r t.rect.left t.rect.right =
    record {
      top = c.requires.row.top;
      bottom = c.requires.row.bottom;
      left = omega arith;
      order = c.requires.row.cols;
      right = omega arith;
    } in
    record {
      slice = refl;
      home = refl;
      planes = refl;
      rect = refl;
      outside = λ r' c' p pixel out plane.
          rw (len, c.row_part_at-start.ensures.start)
          (row_part_outside (loan t) t.rect c.args.r t.rect.left t.rect.right ws t.long t.inside row_part long r' c' p
          pixel out
          plane);
    }

pub returns-clause-row : goal.returns-clause-row
returns-clause-row g c =
    let t = c.args.self.now in
    let ws : List ℕ = c.write.new.arg2 in
    let start : ℕ = c.row_part_at-start.result.0 in
    let taken : ℕ = start + c.row_part_at-start.result.1 - start in
    let len : taken ≡ width t.rect * t.planes = omega arith in
    let long : length ws ≡ width t.rect * t.planes =
    c.write.auto.arg2 ∙ length-take-le _ (drop start t.samples.now) (omega (arith, length-drop start t.samples.now))
    ∙ len in
    let before : row_in (loan t) t.rect c.args.r ≡ take taken (drop start t.samples.now) =
    rw (len, c.row_part_at-start.ensures.start) refl in
    let after : row_in (with_samples (loan t) (put_mid start taken t.samples.now ws)) t.rect c.args.r ≡ ws =
    rw (len, c.row_part_at-start.ensures.start) (row_written (loan t) t.rect c.args.r ws t.long t.inside c.requires.row
    long)
    in
    let called : FnOnceReturnsAtMut g.F.FnOnce c.args.write (take taken (drop start t.samples.now)) tt ws =
    search rules in
    subst (λ (new : List ℕ). FnOnceReturnsAtMut g.F.FnOnce c.args.write (row_in (loan t) t.rect c.args.r) tt new)
    (sym after)
    (subst (λ (old : List ℕ). FnOnceReturnsAtMut g.F.FnOnce c.args.write old tt ws) (sym before) called)

pub returns-clause-others : goal.returns-clause-others
returns-clause-others g c =
    let t = c.args.self.now in
    let ws : List ℕ = c.write.new.arg2 in
    let start : ℕ = c.row_part_at-start.result.0 in
    let taken : ℕ = start + c.row_part_at-start.result.1 - start in
    let len : taken ≡ width t.rect * t.planes = omega arith in
    let long : length ws ≡ width t.rect * t.planes =
    c.write.auto.arg2 ∙ length-take-le _ (drop start t.samples.now) (omega (arith, length-drop start t.samples.now))
    ∙ len in
    let row_part : HasRowPart t.rect c.args.r t.rect.left t.rect.right =
    record {
      top = c.requires.row.top;
      bottom = c.requires.row.bottom;
      left = omega arith;
      order = c.requires.row.cols;
      right = omega arith;
    } in
    let same : put_mid (place_in t.home t.planes c.args.r t.rect.left 0) (width t.rect * t.planes) t.samples.now ws
    ≡ put_mid start taken t.samples.now ws =
    rw (len, c.row_part_at-start.ensures.start) refl in
    let puts : PutsRowPart (loan t) (with_samples (loan t) (put_mid start taken t.samples.now ws)) c.args.r t.rect.left
    t.rect.right ws =
    subst (λ (xs : List ℕ). PutsRowPart (loan t) (with_samples (loan t) xs) c.args.r t.rect.left t.rect.right ws) same
    (row_part_put (loan t) t.rect c.args.r t.rect.left t.rect.right ws t.long t.inside row_part long) in
    λ r' c' p pixel plane other. puts.others r' c' p pixel plane
    (λ row from to. other row (record { top = omega arith; bottom = omega arith; left = from; right = to }))
