use Rattle.std.proofs.Common.{arith, sym, ap, ◌∙◌, ◌≡◌, ◌*◌, length, map, take, drop, get_or, subst}
use Rattle.std.proofs.lemmas.List.{get_or-take, take-map, length-take}
use Rattle.std.proofs.lemmas.Result.{err_from_is_err_and}
use Rattle.ljpeg_huffman.specs.Differences.{StopsShort, Takes, by_turns}
use Rattle.ljpeg_predict.specs.Scans.{row_length}
use Rattle.ljpeg_predict.proofs.DecodeLemmas.{cut_short, more_decoded, room_for_line, some_width}
use Rattle.ljpeg_predict.proofs.samples.read_samples.Goals as goal

pub returns-in_err-next_differences-clause-fault : goal.returns-in_err-next_differences-clause-fault
returns-in_err-next_differences-clause-fault c =
    let p = err_from_is_err_and c.from_residual.result c.from_residual.ensures.1 in
    let scan = c.args.scan.now in
    let row : c.row_length-row.result ≡ row_length scan = c.row_length-row.ensures.is in
    let room = room_for_line c.loop-line.line scan.lines (row_length scan) (length c.args.out.now)
    (omega arith) c.requires.size in
    let above : c.loop-line.line * c.row_length-row.result ≡ c.loop-line.line * row_length scan =
    ap (λ n. c.loop-line.line * n) row in
    let long : length (take c.row_length-row.result c.split_at_mut-above.result.1.now) ≡ row_length scan =
    length-take c.row_length-row.result c.split_at_mut-above.result.1.now ∙ omega (arith, room, above, row) in
    let same = sym (take-map (λ t. t.now) c.components.result c.tables-tables.result)
    ∙ ap (λ n. take n (map (λ t. t.now) c.tables-tables.result)) c.components.ensures.is
    ∙ c.tables-tables.ensures in
    let stops = subst (λ ts. StopsShort (by_turns ts) c.loop-line.bits
    (length (take c.row_length-row.result c.split_at_mut-above.result.1.now)) c.in_err-next_differences.field-0.0)
    same c.in_err-next_differences.ensures.fault in
    rw (p.1, p.2)
    (cut_short scan c.requires.free c.loop-line.out c.loop-line.line (length c.args.out.now)
    (length (take c.row_length-row.result c.split_at_mut-above.result.1.now)) c.loop-line.bits
    c.in_err-next_differences.field-0.0 (omega arith) c.requires.size long c.loop-line.invariant stops)

pub loop-line-preserved : goal.loop-line-preserved
loop-line-preserved c =
    let scan = c.args.scan.now in
    let row : c.row_length-row.result ≡ row_length scan = c.row_length-row.ensures.is in
    let width = some_width scan.lines (row_length scan) (length c.args.out.now) (omega arith) c.requires.size in
    let room = room_for_line c.loop-line.line scan.lines (row_length scan) (length c.args.out.now)
    (omega arith) c.requires.size in
    let above : c.loop-line.line * c.row_length-row.result ≡ c.loop-line.line * row_length scan =
    ap (λ n. c.loop-line.line * n) row in
    let old : length (take c.row_length-row.result c.split_at_mut-above.result.1.now) ≡ row_length scan =
    length-take c.row_length-row.result c.split_at_mut-above.result.1.now ∙ omega (arith, room, above, row) in
    let differences : length c.next_differences.new.line ≡ row_length scan = c.next_differences.auto.line ∙ old in
    let same = sym (take-map (λ t. t.now) c.components.result c.tables-tables.result)
    ∙ ap (λ n. take n (map (λ t. t.now) c.tables-tables.result)) c.components.ensures.is
    ∙ c.tables-tables.ensures in
    let taken = subst (λ ts. Takes
    (by_turns ts) c.loop-line.bits c.next_differences.new.line c.next_differences.new.self) same
    c.in_ok-next_differences.ensures.ok in
    let front = c.split_at_mut-above.ensures.front in
    let long : length c.split_at_mut-above.result.0.now ≡ c.loop-line.line * row_length scan =
    c.split_at_mut-above.ensures.front_len ∙ above in
    more_decoded scan (omega arith) c.loop-line.out c.split_at_mut-above.result.0.now c.predict_line.new.line
    (drop c.row_length-row.result c.split_at_mut-above.result.1.now) c.next_differences.new.line c.loop-line.line
    c.loop-line.bits c.next_differences.new.self
    long (c.predict_line.auto.line ∙ differences) width
    (λ k h. sym (get_or-take (c.loop-line.line * c.row_length-row.result) c.loop-line.out k 0
    (omega (arith, above, long))) ∙ ap (λ xs. get_or xs k 0) (sym front))
    c.loop-line.invariant taken differences c.predict_line.ensures
