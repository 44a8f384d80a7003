use Rattle.std.proofs.Common.{Ok, arith, refl, sym, ap, ◌∙◌}
use Rattle.std.proofs.lemmas.Option.{MatchOption-at_some}
use Rattle.std.proofs.lemmas.Result.{err_from_is_err_and}
use Rattle.ljpeg_predict.proofs.HeaderLemmas.{headers_end, headers_next, refused_marker, refused_kind, refused_body}
use Rattle.ljpeg_predict.proofs.HeaderLemmas.{whole_segment, scan_frame}
use Rattle.ljpeg_predict.proofs.headers.read_segments.Goals as goal

pub loop-marker-init : goal.loop-marker-init
loop-marker-init c = record { left = record { fuel = _; enough = omega arith; same = refl }; whole = tt }

pub returns-in_err-marker : goal.returns-in_err-marker
returns-in_err-marker c =
    let p = err_from_is_err_and c.from_residual.result c.from_residual.ensures.1 in
    rw (p.1, p.2)
    (headers_end _ _ _ _ c.loop-marker.invariant.left (refused_marker _ _ _ c.in_err-marker.ensures.gives))

pub returns-in_err-kind : goal.returns-in_err-kind
returns-in_err-kind c =
    let p = err_from_is_err_and c.from_residual-in_err-kind.result c.from_residual-in_err-kind.ensures.1 in
    rw (p.1, p.2)
    (headers_end _ _ _ _ c.loop-marker.invariant.left
    (refused_kind _ _ _ _ c.in_ok-marker.ensures.gives (sym c.in_err-kind.ensures)))

pub returns-in_err-body : goal.returns-in_err-body
returns-in_err-body c =
    let p = err_from_is_err_and c.from_residual-in_err-body.result c.from_residual-in_err-body.ensures.1 in
    rw (p.1, p.2)
    (headers_end _ _ _ _ c.loop-marker.invariant.left
    (refused_body _ _ _ _ _ c.in_ok-marker.ensures.gives (sym c.in_ok-kind.ensures) c.in_err-body.ensures.gives))

pub returns-in_err-frame_header-in-Frame : goal.returns-in_err-frame_header-in-Frame
returns-in_err-frame_header-in-Frame c =
    let r = c.from_residual-in_err-frame_header-in-Frame in
    let p = err_from_is_err_and r.result r.ensures.1 in
    rw (p.1, p.2)
    (headers_end _ _ _ _ c.loop-marker.invariant.left
    (λ next. whole_segment _ _ _ _ _ _ c.in_ok-marker.ensures.gives
    (sym c.in_ok-kind.ensures ∙ ap Ok c.in-Frame.is) c.in_ok-body.ensures.gives next
    (rw (← c.in_err-frame_header-in-Frame.ensures.gives) refl)))

pub returns-in_err-read_tables-in-Tables : goal.returns-in_err-read_tables-in-Tables
returns-in_err-read_tables-in-Tables c =
    let r = c.from_residual-in_err-read_tables-in-Tables in
    let p = err_from_is_err_and r.result r.ensures.1 in
    rw (p.1, p.2)
    (headers_end _ _ _ _ c.loop-marker.invariant.left
    (λ next. whole_segment _ _ _ _ _ _ c.in_ok-marker.ensures.gives
    (sym c.in_ok-kind.ensures ∙ ap Ok c.in-Tables.is) c.in_ok-body.ensures.gives next
    (rw c.in_err-read_tables-in-Tables.ensures refl)))

pub returns-in_err-restart_interval-in-RestartInterval : goal.returns-in_err-restart_interval-in-RestartInterval
returns-in_err-restart_interval-in-RestartInterval c =
    let r = c.from_residual-in_err-restart_interval-in-RestartInterval in
    let p = err_from_is_err_and r.result r.ensures.1 in
    rw (p.1, p.2)
    (headers_end _ _ _ _ c.loop-marker.invariant.left
    (λ next. whole_segment _ _ _ _ _ _ c.in_ok-marker.ensures.gives
    (sym c.in_ok-kind.ensures ∙ ap Ok c.in-RestartInterval.is) c.in_ok-body.ensures.gives next
    (rw (← c.in_err-restart_interval-in-RestartInterval.ensures) refl)))

pub read_scan-requires : goal.read_scan-requires
read_scan-requires c =
    let e = scan_frame _ _ _ (sym c.in_ok-kind.ensures ∙ ap Ok c.in-Scan.is) in
    MatchOption-at_some _ _ _ e c.loop-marker.invariant.whole

pub returns-in-Scan : goal.returns-in-Scan
returns-in-Scan c =
    rw c.read_scan.ensures
    (headers_end _ _ _ _ c.loop-marker.invariant.left
    (λ next. whole_segment _ _ _ _ _ _ c.in_ok-marker.ensures.gives
    (sym c.in_ok-kind.ensures ∙ ap Ok c.in-Scan.is) c.in_ok-body.ensures.gives next refl))

pub loop-marker-preserved-in_ok-frame_header-in-Frame : goal.loop-marker-preserved-in_ok-frame_header-in-Frame
loop-marker-preserved-in_ok-frame_header-in-Frame c = record {
  left = headers_next _ _ _ _ _ c.loop-marker.invariant.left
      (omega (arith, c.in_ok-marker.ensures.shorter, c.in_ok-body.ensures.shorter))
      (λ next. whole_segment _ _ _ _ _ _ c.in_ok-marker.ensures.gives
      (sym c.in_ok-kind.ensures ∙ ap Ok c.in-Frame.is) c.in_ok-body.ensures.gives next
      (rw (← c.in_ok-frame_header-in-Frame.ensures.gives) refl));
  whole = c.in_ok-frame_header-in-Frame.ensures.whole;
}

pub loop-marker-preserved-in_ok-read_tables-in-Tables : goal.loop-marker-preserved-in_ok-read_tables-in-Tables
loop-marker-preserved-in_ok-read_tables-in-Tables c = record {
  left = headers_next _ _ _ _ _ c.loop-marker.invariant.left
      (omega (arith, c.in_ok-marker.ensures.shorter, c.in_ok-body.ensures.shorter))
      (λ next. whole_segment _ _ _ _ _ _ c.in_ok-marker.ensures.gives
      (sym c.in_ok-kind.ensures ∙ ap Ok c.in-Tables.is) c.in_ok-body.ensures.gives next
      (rw c.in_ok-read_tables-in-Tables.ensures refl));
  whole = c.loop-marker.invariant.whole;
}

pub loop-marker-preserved-in_ok-restart_interval-in-RestartInterval :
    goal.loop-marker-preserved-in_ok-restart_interval-in-RestartInterval
loop-marker-preserved-in_ok-restart_interval-in-RestartInterval c = record {
  left = headers_next _ _ _ _ _ c.loop-marker.invariant.left
      (omega (arith, c.in_ok-marker.ensures.shorter, c.in_ok-body.ensures.shorter))
      (λ next. whole_segment _ _ _ _ _ _ c.in_ok-marker.ensures.gives
      (sym c.in_ok-kind.ensures ∙ ap Ok c.in-RestartInterval.is) c.in_ok-body.ensures.gives next
      (rw (← c.in_ok-restart_interval-in-RestartInterval.ensures) refl));
  whole = c.loop-marker.invariant.whole;
}

pub loop-marker-preserved : goal.loop-marker-preserved
loop-marker-preserved c = record {
  left = headers_next _ _ _ _ _ c.loop-marker.invariant.left
      (omega (arith, c.in_ok-marker.ensures.shorter, c.in_ok-body.ensures.shorter))
      (λ next. whole_segment _ _ _ _ _ _ c.in_ok-marker.ensures.gives
      (sym c.in_ok-kind.ensures ∙ ap Ok c.in-PassedOver.is) c.in_ok-body.ensures.gives next refl);
  whole = c.loop-marker.invariant.whole;
}
